-- A snapshot whose fields are all good, as the function that takes it goes on: by the place and the length of the state, by its validity, and
-- from what is judged and taken by place to what the format says. Assumes nothing.
use mathlib.Core.Path.{◌≡◌, refl}
use mathlib.Core.Bool.{Bool, true, false}
use mathlib.Core.List.{List}
use Prim.Native.Nat.{ℕ, zero, suc, ◌+◌, ◌<◌, ◌≤◌}
use borrow.Author.Tests.{lt-ltb, le-ltb}
use lib.ListN.{length, take}
use lib.Seq.{sets}
use Rattle.time.specs.declared.Time.{Time}
use Rattle.lists.specs.Lists.{at}
use Rattle.cell.specs.Cell.{pages, array_bytes}
use Rattle.flash.specs.declared.Flash.{Flash}
use Rattle.flash.specs.Chip.{no_pages}
use Rattle.layout.specs.Layout.{encoded}
use Rattle.lent.specs.Memory.{Memory, lent, misfits, last_second}
use Rattle.snapshot.specs.Asked.{valid, first, read_refusal, memory_read}
use Rattle.snapshot.specs.Places.{pages_place, count_in, state_place, state_length, pages_index, pages_cells, flash_at, flash_read, scan_number, place_judged, place_read}
use Rattle.snapshot.proofs.Places.{judged-by-place, restored-by-place}

-- ---- a good scan, then what is left

-- the state stands in the same bytes, at its place, up to an end
module _ (t : Time) (xs ys : List ℕ) (place end : ℕ) (index : List ℕ) (y : ys ≡ xs) (p : place ≡ state_place xs)
    (l : end ≡ place + state_length ys place) (ix : index ≡ pages_index (count_in xs) 0 (no_pages pages) xs pages_place)
  where
    state-end : end ≡ state_place xs + state_length xs (state_place xs)
    state-end = rw (l, y, p)

    pub left_over : end < length xs → 11 ≡ place_judged t xs
    unfolding place_judged
    left_over h = rw (← state-end, lt-ltb end (length xs) h)

    module _ (h : length xs ≤ end) (s : Flash) (e : s ≡ flash_at ys place index) (ok : Bool) (v : ok ≡ valid t s) where
      flash-read : s ≡ flash_read xs
      unfolding flash_read
      flash-read = rw (← ix, ← p, ← y) e

      pub not_valid : ok ≡ false → 12 ≡ place_judged t xs
      unfolding place_judged
      not_valid b = rw (← state-end, le-ltb end (length xs) h, ← flash-read, ← v, b)

      pub taken : ok ≡ true → (m : Memory) (bytes array charges : List ℕ) → bytes ≡ encoded s → array ≡ take array_bytes xs
          → charges ≡ sets m.charges 0 (pages_cells (count_in xs) xs pages_place)
          → (0 ≡ place_judged t xs) × (lent bytes array charges ≡ place_read 0 xs m)
      unfolding place_judged
      taken b m bytes array charges f g q = (
        rw (← state-end, le-ltb end (length xs) h, ← flash-read, ← v, b),
        rw (f, flash-read, g, q),
      )

-- ---- from places to the format

-- the checks before it is read
pub sizes-refused : (t : Time) (xs : List ℕ) (m : Memory) → misfits m ≡ true → 2 ≡ read_refusal t xs m
unfolding read_refusal
sizes-refused t xs m a = rw a

pub time-refused : (t : Time) (xs : List ℕ) (m : Memory) → misfits m ≡ false → last_second t ≡ true → 5 ≡ read_refusal t xs m
unfolding read_refusal
time-refused t xs m a b = rw (a, b)

module _ (t : Time) (xs : List ℕ) (m : Memory) (small : (k : ℕ) → at xs k < 256) (a : misfits m ≡ false) (b : last_second t ≡ false) where
  refusal-by-place : read_refusal t xs m ≡ first (scan_number xs) (place_judged t xs)
  unfolding read_refusal
  refusal-by-place = rw (a, b, judged-by-place t xs small)

  -- a field is refused
  pub scan-refused : (n : ℕ) → n ≡ scan_number xs → (n ≡ 0 → ⊥) → (n ≡ read_refusal t xs m) × (m ≡ memory_read n xs m)
  scan-refused zero e h = absurd (h refl)
  scan-refused (suc n) e h = (rw (refusal-by-place, ← e), refl)

  -- none is
  pub read-by-place : (n : ℕ) {after : Memory} → scan_number xs ≡ 0 → n ≡ place_judged t xs → after ≡ place_read n xs m
      → (n ≡ read_refusal t xs m) × (after ≡ memory_read n xs m)
  read-by-place zero e f l = (rw (refusal-by-place, e) f, rw (restored-by-place xs m small e) l)
  read-by-place (suc n) e f l = (rw (refusal-by-place, e) f, l)
