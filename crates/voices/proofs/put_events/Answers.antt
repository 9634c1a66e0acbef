-- `voices::put_events` meets its contract. The invariant: the events of the words passed are put. Assumes nothing.
use native.Mathlib.Numerals.{add-one}
use native.Mathlib.Omega.{arith}
use Rattle.text.proofs.Joined.{says_none, says_append}
use Rattle.course.specs.Desk.{events_said}
use Rattle.voices.proofs.Events.{events-snoc}
use Rattle.voices.proofs.put_events.Goals as goal

pub loop-word-init : goal.loop-word-init
unfolding events_said
loop-word-init c = says_none _

pub loop-word-preserved : goal.loop-word-preserved
loop-word-preserved c =
    rw (add-one, events-snoc _ c.args.words.now c.loop-word.word-index (omega arith)) (says_append _ _ _ _ _ c.loop-word.invariant c.event.ensures)
