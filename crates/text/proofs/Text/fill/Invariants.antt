-- `text::Text::fill` meets its contract. The invariant: so much of the filled template is left to put, of its bytes from one on and of the
-- numbers that are not used yet; at most one number is used for each byte. Assumes nothing.
use Prim.Native.Nat.{◌≤◌}
use Rattle.text.specs.Text.{filled}
use Rattle.text.proofs.Filling.{Left, rest}
use Rattle.text.proofs.Text.fill.Given as goal

abbrev pub invariant-loop-b : goal.invariant-loop-b
invariant-loop-b l =
    (l.used ≤ l.b-index)
    × Left (filled l.template l.word l.numbers) (rest l.template l.word l.numbers l.b-index l.used) l.initial.self l.self
