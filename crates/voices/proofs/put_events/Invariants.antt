-- `voices::put_events` meets its contract. The invariant: the events of the words passed are put. Assumes nothing.
use lib.ListN.{take}
use Rattle.text.specs.Says.{Says}
use Rattle.course.specs.Desk.{events_said}
use Rattle.voices.proofs.put_events.Given as goal

abbrev pub invariant-loop-word : goal.invariant-loop-word
invariant-loop-word l = Says (events_said l.time (take l.word-index l.words)) l.initial.text l.text
