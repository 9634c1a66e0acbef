-- The number of the whole word is the number that the digits left make of n.
use Rattle.std.proofs.Common.{◌≡◌, drop}
use Rattle.digits.specs.Digits.{number_from, number_in}
use Rattle.digits.proofs.number_in.Given as goal

abbrev pub invariant-loop-b : goal.invariant-loop-b
invariant-loop-b l = number_in l.base l.word ≡ number_from l.base l.n (drop l.b-index l.word)
