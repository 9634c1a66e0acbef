-- What the language's types say of a state, and which states are allowed in a record.
-- Assumes nothing.
use Rattle.std.specs.Prelude.{◌≡◌, true, ◌%◌, ◌^◌, ◌<◌, Option, Some, None}
use Rattle.time.specs.declared.Time.{Time}
use Rattle.control.specs.declared.PendingSense.{PendingSense}
use Rattle.registers.specs.declared.Registers.{Registers}
use Rattle.flash.specs.declared.Flash.{Flash}
use Rattle.cell.specs.Cell.{page_bytes, array_bytes}
use Rattle.rows.specs.Rows.{Fills}
use Rattle.layout.specs.Layout.{latch_row, sensed_row, index_row}
use Rattle.settle.specs.Pages.{slots_sound}

-- ---- what the types say

pub record TimeFits (t : Time) : Type 0 where
  pub whole : t.0 < 2 ^ 64
  pub part : t.1 < 2 ^ 64

abbrev pub PendingFits : Option PendingSense → Type 0
PendingFits None = Unit
PendingFits (Some sense) = (sense.address < 2 ^ 16) × TimeFits sense.at

pub record RegistersFit (r : Registers) : Type 0 where
  pub control : r.control < 256
  pub erase : r.erase < 256
  pub latch : Fills latch_row r.latch
  pub page : r.page < 2 ^ 16
  pub ready : TimeFits r.ready
  pub swe_ready : TimeFits r.swe_ready
  pub program_ready : TimeFits r.program_ready
  pub erase_ready : TimeFits r.erase_ready
  pub recovery : TimeFits r.recovery
  pub verify_ready : TimeFits r.verify_ready
  pub verify_pending : PendingFits r.verify_pending

pub record Fits (s : Flash) : Type 0 where
  pub registers : RegistersFit s.registers
  pub pulse_since : TimeFits s.pulse_since
  pub sensed : Fills sensed_row s.sensed
  pub indices : Fills index_row s.indices

-- ---- what is allowed

abbrev pub PendingSound : Option PendingSense → Type 0
PendingSound None = Unit
PendingSound (Some sense) = (sense.address % 4 ≡ 0) × (sense.address < array_bytes)

pub record Sound (s : Flash) : Type 0 where
  pub control : s.registers.control < 128
  pub page_aligned : s.registers.page % page_bytes ≡ 0
  pub page_inside : s.registers.page < array_bytes
  pub pending : PendingSound s.registers.verify_pending
  pub slots : slots_sound s.indices ≡ true
