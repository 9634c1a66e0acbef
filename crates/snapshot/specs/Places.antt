-- A snapshot by places: where each field stands, the number of the first field that is refused, and the values that stand there. The
-- functions that read a snapshot go by this; that it is what the format's reading gives is a theorem (proofs, Places). Nothing here need be
-- believed.
-- Assumes nothing.
use Rattle.std.specs.Prelude.{ℕ, zero, suc, ◌+◌, ◌-◌, ◌*◌, ◌/◌, List, [], ◌∷◌, ◌++◌, cond, not, ◌&&◌, length, set, take, ltb, leb, eqb, Option}
use Rattle.std.proofs.lemmas.List.Edits.{sets}
use Rattle.time.specs.declared.Time.{Time}
use Rattle.control.specs.declared.PendingSense.{PendingSense}
use Rattle.refusal.specs.declared.Refusal.TheVariants as refused
use Rattle.refusal.specs.Refusal.{number}
use Rattle.lists.specs.Lists.{at}
use Rattle.cell.specs.Cell.{FULL, page_bytes, page_cells, pages, array_bytes}
use Rattle.registers.specs.declared.Registers.{Registers}
use Rattle.flash.specs.declared.Flash.{Flash}
use Rattle.flash.specs.Chip.{no_pages}
use Rattle.rows.specs.Rows.{word, row, flag_of}
use Rattle.layout.specs.Layout.{encoded, supply_of, mode_of, pending_of, placed}
use Rattle.lent.specs.Memory.{Memory, check, first_given, lent}
use Rattle.snapshot.specs.Asked.{valid, first}

-- ---- places

-- the count of charge pages, and the first of them
abbrev pub count_place : ℕ
count_place = 49152

abbrev pub pages_place : ℕ
pages_place = 49156

-- a charge page's bytes
abbrev pub page_length : ℕ
page_length = 8194

unfoldable pub page_at : ℕ → ℕ
page_at n = pages_place + n * page_length

abbrev pub count_in : List ℕ → ℕ
count_in xs = word 4 xs count_place

-- ---- the number of the first field that is refused, or 0

-- a charge
unfoldable pub cell_number : List ℕ → ℕ → ℕ
cell_number xs place = cond (ltb (length xs) (place + 8)) (number refused.EndsEarly) (cond (leb (word 8 xs place) FULL) 0 (number refused.Field))

-- n charges in a row
unfoldable pub cells_number : ℕ → List ℕ → ℕ → ℕ
cells_number zero xs place = 0
cells_number (suc n) xs place = first (cell_number xs place) (cells_number n xs (place + 8))

-- the address of a charge page, where those before it are in a page index
unfoldable pub address_number : List ℕ → List ℕ → ℕ → ℕ
address_number index xs place =
    cond (ltb (length xs) (place + 2)) (number refused.EndsEarly)
    (cond (placed (word 2 xs place) page_bytes && eqb (at index (word 2 xs place / page_bytes)) 0) 0 (number refused.Field))

-- the page index with one page more
unfoldable pub with_page : List ℕ → ℕ → List ℕ → ℕ → List ℕ
with_page index s xs place = set index (word 2 xs place / page_bytes) (suc s)

-- n charge pages from slot s on
unfoldable pub pages_number : ℕ → ℕ → List ℕ → List ℕ → ℕ → ℕ
pages_number zero s index xs place = 0
pages_number (suc n) s index xs place =
    first (first (address_number index xs place) (cells_number page_cells xs (place + 2)))
    (pages_number n (suc s) (with_page index s xs place) xs (place + page_length))

unfoldable pub pages_index : ℕ → ℕ → List ℕ → List ℕ → ℕ → List ℕ
pages_index zero s index xs place = index
pages_index (suc n) s index xs place = pages_index n (suc s) (with_page index s xs place) xs (place + page_length)

-- 9 where bytes before a place are not there
abbrev pub end_number : List ℕ → ℕ → ℕ
end_number xs place = cond (ltb (length xs) place) (number refused.EndsEarly) 0

-- single bytes that have limits
unfoldable pub bytes_number : List ℕ → List ℕ → ℕ → ℕ
bytes_number [] xs place = 0
bytes_number (most ∷ limits) xs place =
    cond (leb (length xs) place) (number refused.EndsEarly) (cond (leb (at xs place) most) (bytes_number limits xs (suc place)) (number refused.Field))

-- control, error, erase, enabled, power_down_disabled; supply, oscillator, mode, module; the option byte
abbrev pub control_limits : List ℕ
control_limits = 255 ∷ 1 ∷ 255 ∷ 1 ∷ 1 ∷ []

abbrev pub supply_limits : List ℕ
supply_limits = 2 ∷ 1 ∷ 5 ∷ 1 ∷ []

abbrev pub option_limits : List ℕ
option_limits = 1 ∷ []

-- the bytes of the state: 18 more with a pending sense
unfoldable pub state_length : List ℕ → ℕ → ℕ
state_length xs place = cond (eqb (at xs (place + 251)) 1) 274 256

unfoldable pub state_number : List ℕ → ℕ → ℕ
state_number xs place =
    first (bytes_number control_limits xs place)
    (first (end_number xs (place + 135))
    (first (bytes_number supply_limits xs (place + 135))
    (first (end_number xs (place + 251))
    (first (bytes_number option_limits xs (place + 251)) (end_number xs (place + state_length xs place))))))

-- the array and the count
unfoldable pub count_number : List ℕ → ℕ
count_number xs = cond (ltb (length xs) pages_place) (number refused.EndsEarly) (cond (leb (count_in xs) pages) 0 (number refused.Field))

unfoldable pub scan_number : List ℕ → ℕ
scan_number xs =
    first (count_number xs)
    (first (pages_number (count_in xs) 0 (no_pages pages) xs pages_place) (state_number xs (page_at (count_in xs))))

-- ---- the values

-- the low half of an instant stands first
abbrev pub time_at : List ℕ → ℕ → Time
time_at xs place = record { 0 = word 8 xs (place + 8); 1 = word 8 xs place }

abbrev pub pending_at : List ℕ → ℕ → Option PendingSense
pending_at xs place = pending_of (at xs (place + 251)) (word 2 xs (place + 252)) (time_at xs (place + 254))

unfoldable pub registers_at : List ℕ → ℕ → Registers
registers_at xs place =
    record {
      control = at xs place;
      error = flag_of (at xs (place + 1));
      erase = at xs (place + 2);
      enabled = flag_of (at xs (place + 3));
      power_down_disabled = flag_of (at xs (place + 4));
      latch = row page_bytes 1 (place + 5) xs;
      page = word 2 xs (place + 133);
      supply = supply_of (at xs (place + 135));
      oscillator = flag_of (at xs (place + 136));
      mode = mode_of (at xs (place + 137));
      «module» = flag_of (at xs (place + 138));
      ready = time_at xs (place + 139);
      swe_ready = time_at xs (place + 155);
      program_ready = time_at xs (place + 171);
      erase_ready = time_at xs (place + 187);
      recovery = time_at xs (place + 203);
      verify_ready = time_at xs (place + 235);
      verify_pending = pending_at xs place;
    }

unfoldable pub flash_at : List ℕ → ℕ → List ℕ → Flash
flash_at xs place index =
    record {
      registers = registers_at xs place;
      pulse_since = time_at xs (place + 219);
      sensed = row 4 1 (place + state_length xs place - 4) xs;
      indices = index;
    }

-- the charges of n pages
unfoldable pub pages_cells : ℕ → List ℕ → ℕ → List ℕ
pages_cells zero xs place = []
pages_cells (suc n) xs place = row page_cells 8 (place + 2) xs ++ pages_cells n xs (place + page_length)

-- ---- the whole of it

abbrev pub state_place : List ℕ → ℕ
state_place xs = page_at (count_in xs)

unfoldable pub flash_read : List ℕ → Flash
flash_read xs = flash_at xs (state_place xs) (pages_index (count_in xs) 0 (no_pages pages) xs pages_place)

unfoldable pub place_judged : Time → List ℕ → ℕ
place_judged t xs =
    first_given (check refused.LeftOver (ltb (state_place xs + state_length xs (state_place xs)) (length xs)) ∷ check refused.Invalid (not (valid t (flash_read xs))) ∷ [])

abbrev pub place_restored : List ℕ → Memory → Memory
place_restored xs m =
    lent (encoded (flash_read xs)) (take array_bytes xs) (sets m.charges 0 (pages_cells (count_in xs) xs pages_place))

-- memory after a judgement
abbrev pub place_read : ℕ → List ℕ → Memory → Memory
place_read zero xs m = place_restored xs m
place_read (suc n) xs m = m
