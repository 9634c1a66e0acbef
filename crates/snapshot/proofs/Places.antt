-- Reading a snapshot by the format is what the places say: its refusal is the first that the scan finds, or else one of the two after it,
-- and its contents are what stands at the places. By the laws of the array, of the charge pages and of the state. Assumes nothing.
use mathlib.Core.Path.{◌≡◌, refl, sym, ◌∙◌}
use mathlib.Core.Bool.{Bool, true, false, cond}
use mathlib.Core.List.{List}
use Prim.Native.Nat.{ℕ, zero, suc, ◌+◌, ◌-◌, ◌≤◌, ◌<◌}
use native.Mathlib.Nat.{zero-add, add-zero}
use native.Mathlib.Numerals.{add-one}
use native.Mathlib.Omega.{arith}
use borrow.Author.Tests.{ltb-true, ltb-false, leb-true, lt-ltb, le-ltb}
use lib.ListN.{length, take, drop, length-drop}
use lib.Seq.{drop-cons}
use lib.Dec.{ltb, leb}
use Rattle.time.specs.declared.Time.{Time}
use Rattle.lists.specs.Lists.{at}
use Rattle.cell.specs.Cell.{pages, array_bytes}
use Rattle.flash.specs.Chip.{no_pages}
use Rattle.rows.specs.Rows.{row}
use Rattle.rows.proofs.Widths.{word-one}
use Rattle.lent.specs.Memory.{Memory}
use Rattle.borsh.specs.Borsh.{Borsh}
use Rattle.std.specs.Prelude.{Ok}
use Rattle.snapshot.specs.Snapshot.{Contents, snapshot, flash_in}
use Rattle.snapshot.specs.Asked.{first, judged, restored}
use Rattle.snapshot.specs.Places.{count_place, pages_place, count_in, state_place, end_number, bytes_number, option_limits, supply_limits, control_limits, count_number, pages_number, state_number, state_length, scan_number, flash_read, place_judged, place_restored}
use Rattle.snapshot.proofs.Fixed.{tell, first-assoc, first-zero, first-tests, ends, Reads, then-reads, bytes_read}
use Rattle.snapshot.proofs.PagesRead.{pages_at, vec-reads, pages-index, pages-cells}
use Rattle.snapshot.proofs.StateRead.{state-read}

-- ---- the whole of it

-- a format from another base
rebased : {xs : List ℕ} {p : ℕ} {A : Type 0} {f : Borsh A} {n : ℕ} {v : A} {c : ℕ} → Reads xs p f 0 n v c → Reads xs 0 f p n v (p + c)
rebased {p = p} {c = c} h = record { told = rw (zero-add p, zero-add (p + c)) (rw (add-zero p) at h.told) }

-- what the count's refusal tells of the array's
count-last : (xs : List ℕ) (n : ℕ) → first (end_number xs count_place) (first (count_number xs) n) ≡ first (count_number xs) n
unfolding count_number
count-last xs n =
    let end : ℕ = end_number xs count_place in
    let over : ℕ = cond (leb (count_in xs) pages) 0 10 in
    rw (
      ← (first-tests (ltb (length xs) pages_place) (leb (count_in xs) pages)),
      ← (first-assoc end (first (end_number xs pages_place) over) n),
      ← (first-assoc end (end_number xs pages_place) over),
      ends xs count_place pages_place (omega arith),
    )

module _ (xs : List ℕ) (small : (k : ℕ) → at xs k < 256) where
  contents : Contents
  contents = (row array_bytes 1 0 xs, (pages_at xs (count_in xs) pages_place, (state-read xs small (state_place xs)).value))

  snapshot-read : snapshot.read xs ≡ tell (scan_number xs) contents (drop (state_place xs + state_length xs (state_place xs)) xs)
  unfolding snapshot scan_number contents
  snapshot-read =
      let p = state_place xs in
      let k : ℕ = pages_number (count_in xs) 0 (no_pages pages) xs pages_place in
      rw (
        ← (count-last xs (first k (state_number xs p))),
        ← (first-assoc (count_number xs) k (state_number xs p)),
        ← (zero-add (p + state_length xs p)),
      ) (then-reads (bytes_read xs 0 49151 0) (λ z. then-reads (vec-reads xs) (λ z. rebased (state-read xs small p).reads))).told

  flash-read : flash_in contents ≡ flash_read xs
  unfolding flash_in contents flash_read
  flash-read = rw (pages-index xs (count_in xs) 0 (no_pages pages) pages_place) ((state-read xs small (state_place xs)).flash _)

-- bytes are left over
left_over : (k : ℕ) (xs : List ℕ) → ltb 0 (length (drop k xs)) ≡ ltb k (length xs)
left_over k xs = rw (length-drop k xs) (by (ltb k (length xs)) refl)
  where
    by : (b : Bool) → ltb k (length xs) ≡ b → ltb 0 (length xs - k) ≡ b
    by true e = let l = ltb-true k (length xs) e in lt-ltb 0 (length xs - k) (omega arith)
    by false e = let l = ltb-false k (length xs) e in le-ltb 0 (length xs - k) (omega arith)

pub judged-by-place : (t : Time) (xs : List ℕ) → ((k : ℕ) → at xs k < 256)
    → judged t (snapshot.read xs) ≡ first (scan_number xs) (place_judged t xs)
unfolding place_judged
judged-by-place t xs small = rw (snapshot-read xs small) (by (scan_number xs))
  where
    end : ℕ
    end = state_place xs + state_length xs (state_place xs)

    by : (n : ℕ) → judged t (tell n (contents xs small) (drop end xs)) ≡ first n (place_judged t xs)
    by zero = rw (left_over end xs, flash-read xs small)
    by (suc n) = refl

-- what is judged good was read
pub judged-got : (t : Time) (xs : List ℕ) → ((k : ℕ) → at xs k < 256) → judged t (snapshot.read xs) ≡ 0
    → (v : Contents) × ((rest : List ℕ) × (snapshot.read xs ≡ Ok (v, rest)))
judged-got t xs small e =
    let h = (first-zero (scan_number xs) (place_judged t xs) (sym (judged-by-place t xs small) ∙ e)).0 in
    (contents xs small, (drop (state_place xs + state_length xs (state_place xs)) xs, snapshot-read xs small ∙ rw h))

-- ---- what a good scan tells

end-good : (xs : List ℕ) (p : ℕ) → end_number xs p ≡ 0 → p ≤ length xs
end-good xs p h = by (ltb (length xs) p) refl h
  where
    by : (b : Bool) → ltb (length xs) p ≡ b → ◌≡◌ {A = ℕ} (cond b 9 0) 0 → p ≤ length xs
    by true e z = absurd (omega arith)
    by false e z = ltb-false (length xs) p e

count-good : (xs : List ℕ) → count_number xs ≡ 0 → (pages_place ≤ length xs) × (count_in xs ≤ pages)
unfolding count_number
count-good xs h = by (ltb (length xs) pages_place) (leb (count_in xs) pages) refl refl h
  where
    by : (a b : Bool) → ltb (length xs) pages_place ≡ a → leb (count_in xs) pages ≡ b → ◌≡◌ {A = ℕ} (cond a 9 (cond b 0 10)) 0
        → (pages_place ≤ length xs) × (count_in xs ≤ pages)
    by true b e f z = absurd (omega arith)
    by false true e f z = (ltb-false (length xs) pages_place e, leb-true (count_in xs) pages f)
    by false false e f z = absurd (omega arith)

state-good : (xs : List ℕ) (p : ℕ) → state_number xs p ≡ 0 → p + state_length xs p ≤ length xs
unfolding state_number
state-good xs p h =
    let a = (first-zero (bytes_number control_limits xs p) _ h).1 in
    let b = (first-zero (end_number xs (p + 135)) _ a).1 in
    let c = (first-zero (bytes_number supply_limits xs (p + 135)) _ b).1 in
    let d = (first-zero (end_number xs (p + 251)) _ c).1 in
    end-good xs (p + state_length xs p) (first-zero (bytes_number option_limits xs (p + 251)) _ d).1

pub scan-room : (xs : List ℕ) → scan_number xs ≡ 0
    → (pages_place ≤ length xs) × (count_in xs ≤ pages) × (state_place xs + state_length xs (state_place xs) ≤ length xs)
unfolding scan_number
scan-room xs h =
    let k : ℕ = pages_number (count_in xs) 0 (no_pages pages) xs pages_place in
    let a = first-zero (count_number xs) (first k (state_number xs (state_place xs))) h in
    let c = count-good xs a.0 in
    (c.0, c.1, state-good xs (state_place xs) (first-zero k (state_number xs (state_place xs)) a.1).1)

-- ---- what is restored

row-take : (n p : ℕ) (xs : List ℕ) → p + n ≤ length xs → row n 1 p xs ≡ take n (drop p xs)
unfolding row
row-take zero p xs h = refl
row-take (suc n) p xs h = rw (drop-cons xs p 0 (omega arith), word-one xs p, add-one p, row-take n (suc p) xs (omega arith))

pub restored-by-place : (xs : List ℕ) (m : Memory) → ((k : ℕ) → at xs k < 256) → scan_number xs ≡ 0
    → restored (snapshot.read xs) m ≡ place_restored xs m
unfolding contents
restored-by-place xs m small h =
    let r = scan-room xs h in
    rw (snapshot-read xs small, h, flash-read xs small, row-take array_bytes 0 xs (omega arith), pages-cells xs (count_in xs) pages_place)
