-- Settling: exposure, charges, the range's bytes, event words, and the pending sense. Document 01, "Pulses and settling" and
-- "Verify sensing, looking, snapshot".
-- Assumes nothing.
use Rattle.std.specs.Prelude.{ℕ, zero, suc, ◌+◌, ◌-◌, ◌*◌, ◌/◌, ◌%◌, ◌^◌, Bool, true, false, cond, ◌&&◌, List, [], ◌∷◌, ◌++◌, ◌≡◌, leb, ltb, eqb, length, Option, Some, None}
use Rattle.std.proofs.lemmas.List.Edits.{sets}
use Rattle.time.specs.declared.Time.{Time}
use Rattle.time.specs.Raw.{raw, later}
use Rattle.cell.specs.declared.Direction.{Direction}
use Rattle.cell.specs.declared.Direction.TheVariants.{Program, Erase}
use Rattle.cell.specs.declared.Sense.{Sense}
use Rattle.cell.specs.declared.Sense.TheVariants.{Normal, ProgramVerify, EraseVerify}
use Rattle.lists.specs.Lists.{mapi, tabulate}
use Rattle.cell.specs.Cell.{page_bytes, page_cells, sensed_byte, exposed, page_bit}
use Rattle.control.specs.declared.PendingSense.{PendingSense}
use Rattle.control.specs.Bits.{EV, low, verifies}
use Rattle.control.specs.Blocks.{covers as in_range}
use Rattle.control.specs.Verify.{sense_due}
use Rattle.registers.specs.declared.Registers.{Registers}
use Rattle.registers.specs.declared.Pulse.{Pulse}
use Rattle.registers.specs.declared.Call.{Call}
use Rattle.registers.specs.Pulses.{pulse}
use Rattle.registers.specs.Calls.{next, ending, ending_number}
use Rattle.settle.specs.Pages.{Cells, cell_at, on_pages}

-- From the later of last settling and ready, to now: L raw units, 0 if negative.
unfoldable pub exposure : Pulse → Time → Time → ℕ
exposure p since now = raw now - raw (later since p.ready)

-- whether page x lies in the pulse's range
unfoldable pub covers : Pulse → ℕ → Bool
covers p x = in_range (record { first = p.first; pages = p.pages }) x

-- bytes of the open pulse's range, 0 without one; the page past its end
abbrev pub range_bytes : Option Pulse → ℕ
range_bytes None = 0
range_bytes (Some p) = p.pages * page_bytes

abbrev pub range_end : Option Pulse → ℕ
range_end None = 0
range_end (Some p) = p.first + p.pages

-- the charge q of a cell i of the range after an exposure of l
unfoldable pub charged : Pulse → List ℕ → ℕ → ℕ → ℕ → ℕ
charged p latch l i q = exposed p.direction (page_bit latch (i % page_cells)) l q

-- the same for every cell: only those of the range move
unfoldable pub ruled : Pulse → List ℕ → ℕ → ℕ → ℕ → ℕ
ruled p latch l i q = cond (covers p (i / page_cells)) (charged p latch l i q) q

-- the byte at address a that cells normally sense; cell i has charge q i
unfoldable pub normal_byte : (ℕ → ℕ) → ℕ → ℕ
normal_byte q a = sensed_byte Normal a (λ k. q (8 * a + k))

-- bytes lo to hi - 1 take the values v
unfoldable pub spanned : ℕ → ℕ → (ℕ → ℕ) → List ℕ → List ℕ
spanned lo hi v array = mapi (λ a b. cond (leb lo a && ltb a hi) (v a) b) 0 array

-- Each byte of the range becomes what its cells normally sense.
unfoldable pub resensed : Pulse → (ℕ → ℕ) → List ℕ → List ℕ
resensed p q array = mapi (λ a b. cond (covers p (a / page_bytes)) (normal_byte q a) b) 0 array

-- An exposure of 0 opens no page; any other opens and charges the range's pages, latched bits or not, and then senses its bytes.
unfoldable pub expose : Pulse → List ℕ → ℕ → Cells → Cells
expose p latch zero c = c
expose p latch (suc l) c =
    record (on_pages (charged p latch (suc l)) p.pages p.first c) {
      array = resensed p (λ i. ruled p latch (suc l) i (cell_at c i)) c.array;
    }

-- index, array and charges after a settle
unfoldable pub settled_by : Option Pulse → List ℕ → Time → Time → Cells → Cells
settled_by None latch since now c = c
settled_by (Some p) latch since now c = expose p latch (exposure p since now) c

-- ---- event words

-- kind × 2^32 + address × 2^16 + value or length; kinds 1 byte, 2 completed, 3 interrupted
unfoldable pub word : ℕ → ℕ → ℕ → ℕ
word kind address value = kind * 2 ^ 32 + address * 2 ^ 16 + value

abbrev pub byte_kind : ℕ
byte_kind = 1

abbrev pub change : Bool → ℕ → ℕ → List ℕ
change true a y = []
change false a y = word byte_kind a y ∷ []

-- Changed bytes give events in rising address, from address a on.
unfoldable pub changes : ℕ → List ℕ → List ℕ → List ℕ
changes a [] ys = []
changes a (x ∷ xs) [] = []
changes a (x ∷ xs) (y ∷ ys) = change (eqb x y) a y ++ changes (suc a) xs ys

-- What is left in lent memory: index, array and charges as c has them, and words at the beginning of the event words lent, which
-- stay as they were past the count.
pub record Left (c : Cells) (words lent index array charges events : List ℕ) (count : ℕ) : Type 0 where
  pub index_is : index ≡ c.index
  pub array_is : array ≡ c.array
  pub charges_is : charges ≡ c.charges
  pub events_are : events ≡ sets lent 0 words
  pub count_is : count ≡ length words

-- whether two pulses are the same: direction, range and ready instant
abbrev pub same_direction : Direction → Direction → Bool
same_direction Program Program = true
same_direction Program Erase = false
same_direction Erase Program = false
same_direction Erase Erase = true

abbrev pub same_time : Time → Time → Bool
same_time s t = eqb s.0 t.0 && eqb s.1 t.1

unfoldable pub same_pulse : Option Pulse → Option Pulse → Bool
same_pulse None None = true
same_pulse None (Some q) = false
same_pulse (Some p) None = false
same_pulse (Some p) (Some q) =
    same_direction p.direction q.direction && eqb p.first q.first && eqb p.pages q.pages && same_time p.ready q.ready

-- the end event of a pulse: the range's first address and length; none for an empty range
unfoldable pub end_of : ℕ → Pulse → List ℕ
end_of kind p = cond (eqb p.pages 0) [] (word kind (p.first * page_bytes) (p.pages * page_bytes) ∷ [])

unfoldable pub ended : Call → ℕ → Option Pulse → List ℕ
ended c control None = []
ended c control (Some p) = end_of (ending_number (ending p.direction c control)) p

-- A pulse that a call changes gives one end event; control is as the call left it.
abbrev pub ends_of : Call → ℕ → Option Pulse → Option Pulse → List ℕ
ends_of c control old new = cond (same_pulse old new) [] (ended c control old)

unfoldable pub end_words : Call → Time → Registers → List ℕ
end_words c now r = ends_of c (next c now r).control (pulse r) (pulse (next c now r))

-- ---- verify sensing

-- under PV alone or EV alone
abbrev pub verify_sense : ℕ → Sense
verify_sense control = cond (eqb (low control) EV) EraseVerify ProgramVerify

abbrev pub sense_address : Option PendingSense → ℕ
sense_address None = 0
sense_address (Some sense) = sense.address

-- the four bytes at address a
unfoldable pub four_sensed : Sense → ℕ → Cells → List ℕ
four_sensed m a c = tabulate (λ k. sensed_byte m (a + k) (λ j. cell_at c (8 * (a + k) + j))) 4

-- A settle at or past the pending instant, not Stopped, senses the four bytes under PV alone or EV alone.
unfoldable pub sensed_by : Registers → Time → Cells → List ℕ → List ℕ
sensed_by r now c old =
    cond (sense_due r.verify_pending r.supply now && verifies r.control)
    (four_sensed (verify_sense r.control) (sense_address r.verify_pending) c) old
