-- What an attempt at a call tells, where it is refused or done: the answer, and the state that is left.
-- Assumes nothing.
use Rattle.std.specs.Prelude.{Result, Ok, Err}
use Rattle.refusal.specs.declared.Refusal.{Refusal}
use Rattle.flash.specs.declared.Answer.{Answer}
use Rattle.flash.specs.declared.Flash.{Flash}
use Rattle.perform.specs.declared.Done.{Done}

abbrev pub answer_of : Result Done Refusal → Result Answer Refusal
answer_of (Ok done) = Ok done.answer
answer_of (Err r) = Err r

-- A refused call leaves the state as it was.
abbrev pub left_of : Flash → Result Done Refusal → Flash
left_of s (Ok done) = done.flash
left_of s (Err r) = s
