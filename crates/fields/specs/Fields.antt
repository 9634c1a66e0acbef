-- What each word of a call means: a number, or a fault with its reason and its place. A missing word is empty, and has the fault of a
-- wrong one. Assumes nothing.
use Rattle.std.specs.Prelude.{ℕ, Bool, cond, List, Option, Some, None, Result, Ok, Err, eqb, ltb}
use Rattle.byte_search.specs.Search.{slice}
use Rattle.words.specs.declared.reason.Reason.{Reason}
use Rattle.words.specs.declared.reason.Reason.TheVariants.{NoRegister, NoAddress, NoByte, NoValue, BitTwice, NoMode, NoModule, NoOscillator, NoBitNumber}
use Rattle.words.specs.declared.Word.{Word}
use Rattle.words.specs.Text.{named}
use Rattle.words.specs.declared.names.NoBits.{NoBits}
use Rattle.words.specs.declared.names.NoBits.TheVariants.{Twice, NoName}
use Rattle.words.specs.Names.{register_named, modes, modules, oscillators}
use Rattle.words.specs.Values.{bits_named}
use Rattle.digits.specs.declared.NoNumber.{NoNumber}
use Rattle.digits.specs.Digits.{hex_in}
use Rattle.fields.specs.declared.Fault.{Fault}

-- ---- a word

abbrev pub bytes_of : List ℕ → Word → List ℕ
bytes_of line w = slice w.from w.to line

abbrev pub missing : Word → Bool
missing w = eqb w.from w.to

abbrev pub fault_at : Reason → Word → Fault
fault_at why w = record { reason = why; place = w }

-- a number, or a fault for the reason
abbrev pub number_of : Reason → Word → Result ℕ NoNumber → Result ℕ Fault
number_of why w (Ok n) = Ok n
number_of why w (Err none) = Err (fault_at why w)

-- the same of a number below a limit
abbrev pub below : ℕ → Reason → Word → Result ℕ Fault → Result ℕ Fault
below limit past w (Ok n) = cond (ltb n limit) (Ok n) (Err (fault_at past w))
below limit past w (Err f) = Err f

-- what a name means, or a fault for the reason
abbrev pub meant : {A : Type 0} → Reason → Word → Option A → Result A Fault
meant why w (Some a) = Ok a
meant why w None = Err (fault_at why w)

-- ---- a register and its value

abbrev pub register_of : Word → Option ℕ → Result ℕ NoNumber → Result ℕ Fault
register_of w (Some register) digits = Ok register
register_of w None digits = number_of NoRegister w digits

-- a register's name, or its four digits
unfoldable pub register_in : List ℕ → Word → Result ℕ Fault
register_in line w = register_of w (register_named (bytes_of line w)) (hex_in 4 (bytes_of line w))

-- names of bits
abbrev pub bits_of : Word → Result ℕ NoBits → Result ℕ Fault
bits_of w (Ok v) = Ok v
bits_of w (Err Twice) = Err (fault_at BitTwice w)
bits_of w (Err NoName) = Err (fault_at NoValue w)

abbrev pub value_of : Word → Result ℕ NoNumber → Result ℕ NoBits → Result ℕ Fault
value_of w (Ok n) bits = Ok n
value_of w (Err none) bits = bits_of w bits

-- the value of a register: two digits, or names of its bits
unfoldable pub value_in : ℕ → List ℕ → Word → Result ℕ Fault
value_in register line w = value_of w (hex_in 2 (bytes_of line w)) (bits_named register (bytes_of line w))

-- ---- an address, a byte and a bit's number

-- an address of four digits below a limit
unfoldable pub address_in : ℕ → Reason → List ℕ → Word → Result ℕ Fault
address_in limit past line w = below limit past w (number_of NoAddress w (hex_in 4 (bytes_of line w)))

-- two digits
unfoldable pub byte_in : List ℕ → Word → Result ℕ Fault
byte_in line w = number_of NoByte w (hex_in 2 (bytes_of line w))

-- one digit, 0 to 7
unfoldable pub bit_in : List ℕ → Word → Result ℕ Fault
bit_in line w = below 8 NoBitNumber w (number_of NoBitNumber w (hex_in 1 (bytes_of line w)))

-- ---- modes and supplies

unfoldable pub mode_in : List ℕ → Word → Result ℕ Fault
mode_in line w = meant NoMode w (named modes (bytes_of line w))

unfoldable pub module_in : List ℕ → Word → Result Bool Fault
module_in line w = meant NoModule w (named modules (bytes_of line w))

unfoldable pub oscillator_in : List ℕ → Word → Result Bool Fault
oscillator_in line w = meant NoOscillator w (named oscillators (bytes_of line w))
