-- What is said of some events, as it is printed: a time with six decimals, whole seconds, and a time between microseconds.
-- Assumes nothing.
use mathlib.Core.Path.{◌≡◌, refl}
use Prim.Native.Nat.{◌+◌, ◌*◌, ◌^◌}
use Rattle.time.specs.Raw.{duration, micros}
use Rattle.moments.specs.Moments.{exact_of}
use Rattle.text.specs.Text.{bytes, digits, filled}
use Rattle.sayings.specs.Sayings.{event_said}

a_byte : event_said 12 922337203685477 (2 ^ 32 + 0x80 * 2 ^ 16 + 0xFE) ≡ bytes "at 12.000050: byte 0080 becomes FE\n"
unfolding exact_of micros duration digits filled
a_byte = refl

completed : event_said 12 0 (2 * 2 ^ 32 + 0x80 * 2 ^ 16 + 0x80) ≡ bytes "at 12: the pulse over 0080 to 00FF is completed\n"
unfolding exact_of micros duration digits filled
completed = refl

interrupted : event_said 0 345 (3 * 2 ^ 32 + 0x8000 * 2 ^ 16 + 0x4000) ≡ bytes "at 0.000000 (0:345): the pulse over 8000 to BFFF is interrupted\n"
unfolding exact_of micros duration digits filled
interrupted = refl
