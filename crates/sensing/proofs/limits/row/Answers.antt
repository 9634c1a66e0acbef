-- `sensing::row` meets its contract: each row is the rule of ceilings for its mode written out, by computing the rule.
-- Assumes nothing.
use Rattle.cell.specs.Cell.{ceiling_of, limit_of}
use Rattle.sensing.proofs.limits.row.Goals as goal

pub returns-in-Normal : goal.returns-in-Normal
unfolding ceiling_of limit_of
returns-in-Normal c = rw c.in-Normal.is

pub returns-in-ProgramVerify : goal.returns-in-ProgramVerify
unfolding ceiling_of limit_of
returns-in-ProgramVerify c = rw c.in-ProgramVerify.is

pub returns-in-EraseVerify : goal.returns-in-EraseVerify
unfolding ceiling_of limit_of
returns-in-EraseVerify c = rw c.in-EraseVerify.is
