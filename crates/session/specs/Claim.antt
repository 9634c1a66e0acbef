-- From a file to demand 3: where a file was read whole, the flash in memory is the ledger's, after all calls that its text asks for, from the
-- memory that there was before. Assumes nothing.
use Rattle.std.specs.Prelude.{ℕ, ◌<◌, ◌≡◌, List, length}
use Rattle.time.specs.declared.Time.{Time}
use Rattle.lists.specs.Lists.{at}
use Rattle.cell.specs.Cell.{array_bytes, array_cells}
use Rattle.lent.specs.Memory.{Memory}
use Rattle.ledger.specs.Lists.{Asked}
use Rattle.ledger.specs.Claim.{Good, Demand}
use Rattle.course.specs.declared.Course.{Course}
use Rattle.course.specs.declared.Manner.{Manner}
use Rattle.course.specs.Desk.{Desk, desk}
use Rattle.course.specs.Reader.{starts_with, text_calls}
use Rattle.course.specs.Demand.{Booking, DemandFrom, ReadInto, begun}
use Rattle.session.specs.Going.{ReadWhole}

-- this is claimed of every file that was read whole at a desk
abbrev pub OfFiles : (List Asked → Type 0) → Desk → Type 0
OfFiles claim before = (w : Manner) (c : Course) (m : Memory) (events : List ℕ) → (k : ReadWhole w before c m events)
    → Booking claim before.memory (text_calls w k.text (starts_with before)) (desk c m events)

pub record FileOnward : Type 0 where
  pub good : (before : Desk) → Good before.memory → OfFiles (DemandFrom before.memory) before
  pub restored : (before : Desk) → ReadInto before.memory → OfFiles (DemandFrom before.memory) before

pub record FileDemand3 : Type 0 where
  pub of_every_file : (firmware charges : List ℕ) → length firmware ≡ array_bytes → ((a : ℕ) → at firmware a < 256) → length charges ≡ array_cells
      → (events : List ℕ) (t : Time) → OfFiles (Demand firmware charges) (begun firmware charges events t)
