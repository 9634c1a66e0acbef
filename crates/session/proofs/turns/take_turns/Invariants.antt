-- `session::turns::take_turns` meets its contract: what the turns so far did, and then one more. Assumes nothing.
use Rattle.lent.specs.Views.{memory_at}
use Rattle.course.specs.Views.{SameBench}
use Rattle.session.specs.Going.{Goes, reader_in}
use Rattle.session.proofs.turns.take_turns.Given as goal

abbrev pub invariant-loop : goal.invariant-loop
invariant-loop g l = record {
  same : SameBench l.initial.bench l.bench;
  goes : Goes l.manner l.initial.r.more l.r.more (reader_in l.manner l.initial.r l.initial.backlog (memory_at l.initial.bench.memory) l.initial.bench.events.now) (reader_in l.manner l.r l.backlog (memory_at l.bench.memory) l.bench.events.now);
}
