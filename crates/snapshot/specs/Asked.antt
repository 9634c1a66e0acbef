-- Snapshot writing, snapshot reading and `validate` over lent memory: their refusals and their whole outcome. Document 01, "Order of
-- checking".
-- Assumes nothing.
use Rattle.std.specs.Prelude.{ℕ, zero, suc, Bool, true, not, ◌&&◌, List, [], ◌∷◌, leb, ltb, length, Option, Some, None}
use Rattle.std.proofs.lemmas.List.Edits.{sets}
use Rattle.refusal.specs.declared.Refusal.TheVariants as refused
use Rattle.time.specs.declared.Time.{Time}
use Rattle.time.specs.Raw.{raw}
use Rattle.cell.specs.Cell.{page_bytes}
use Rattle.control.specs.declared.PendingSense.{PendingSense}
use Rattle.flash.specs.declared.Flash.{Flash}
use Rattle.rows.specs.Rows.{flag_byte}
use Rattle.layout.specs.Layout.{encoded, decoded, control_clear, placed, legible, rows_in, refused3}
use Rattle.lent.specs.Memory.{Memory, chip_in, check, first_given, record_misfits, misfits, last_second, lent}
use Rattle.borsh.specs.Borsh.{Read}
use Rattle.std.specs.Prelude.{Ok, Err}
use Rattle.snapshot.specs.Snapshot.{Contents, snapshot, snapshot_of, cells_of, flash_in}

-- ---- `validate`

abbrev pub pending_placed : Option PendingSense → Bool
pending_placed None = true
pending_placed (Some sense) = placed sense.address 4

-- Control has no bit that is none; page and pending address are aligned and inside; the last settling is not past the time.
unfoldable pub valid_but_erase : Time → Flash → Bool
valid_but_erase t s =
    let r = s.registers in
    control_clear r.control && placed r.page page_bytes && pending_placed r.verify_pending && leb (raw s.pulse_since) (raw t)

-- Erase has no bit that is none.
abbrev pub erase_valid : Flash → Bool
erase_valid s = ltb s.registers.erase 64

unfoldable pub valid : Time → Flash → Bool
valid t s = valid_but_erase t s && erase_valid s

-- It skips 6, and in 3 what it tests itself.
unfoldable pub valid_refusal : List ℕ → Time → ℕ
valid_refusal bytes t =
    first_given (check refused.Memory (record_misfits bytes) ∷ check refused.Record (not (legible (rows_in bytes))) ∷ check refused.LastSecond (last_second t) ∷ [])

unfoldable pub valid_answer : List ℕ → Time → ℕ
valid_answer bytes t = flag_byte (valid t (decoded bytes))

-- ---- writing: takes no time

-- 8: output too short
unfoldable pub write_refusal : ℕ → Memory → ℕ
write_refusal room m =
    first_given (check refused.Memory (misfits m) ∷ check refused.Record (refused3 m.bytes) ∷ check refused.Output (ltb room (length (snapshot_of (chip_in m)))) ∷ [])

-- output bytes past the answer stay
abbrev pub written_out : ℕ → Memory → List ℕ → List ℕ
written_out zero m out = sets out 0 (snapshot_of (chip_in m))
written_out (suc n) m out = out

-- ---- reading: skips 3 and 6

-- the first of two refusals, one after the other
abbrev pub first : ℕ → ℕ → ℕ
first zero n = n
first (suc k) n = suc k

-- 9 and 10 by the first offending field in reading order; 11, bytes left over; 12, `validate` says no.
abbrev pub judged : Time → Read Contents → ℕ
judged t (Err r) = r.number
judged t (Ok (v, rest)) = first_given (check refused.LeftOver (ltb 0 (length rest)) ∷ check refused.Invalid (not (valid t (flash_in v))) ∷ [])

unfoldable pub read_refusal : Time → List ℕ → Memory → ℕ
read_refusal t bytes m = first (first_given (check refused.Memory (misfits m) ∷ check refused.LastSecond (last_second t) ∷ [])) (judged t (snapshot.read bytes))

-- Slots not in use keep their numbers.
abbrev pub restored : Read Contents → Memory → Memory
restored (Err r) m = m
restored (Ok (v, rest)) m =
    lent (encoded (flash_in v)) v.0 (sets m.charges 0 (cells_of v.1.0))

abbrev pub memory_read : ℕ → List ℕ → Memory → Memory
memory_read zero bytes m = restored (snapshot.read bytes) m
memory_read (suc n) bytes m = m
