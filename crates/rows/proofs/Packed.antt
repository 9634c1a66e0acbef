-- Rows one after the other, for every list of fields: what is packed is unpacked as it was, and what is unpacked is packed again to the
-- same bytes. By recursion on the fields, and in each on its numbers. Assumes nothing.
use mathlib.Core.Path.{◌≡◌, refl, ap, ◌∙◌}
use mathlib.Core.List.{List, [], ◌∷◌, ◌++◌, append_assoc}
use Prim.Native.Nat.{ℕ, zero, suc, ◌+◌, ◌*◌, ◌^◌, ◌<◌, ◌≤◌}
use native.Mathlib.Nat.{zero-add, add-zero, zero-mul, suc-mul, add_assoc, one-le-pow}
use native.Mathlib.Omega.{arith}
use lib.ListN.{length, take, drop, length-append, take-append-drop}
use lib.Seq.{take-add, drop-drop, drop-length}
use lib.Dec.{lit<}
use Rattle.lists.specs.Lists.{at}
use Rattle.rows.specs.Rows.{Field, RowFits, Fills, bytes, row, row_bytes, size, packed, unpacked, part, field, begins, row_in}
use Rattle.rows.proofs.Widths.{length-bytes, word-shift, word_bytes, bytes_word, bytes_small, word_small}

-- ---- one row: written, then read

pub row-shift : (n w : ℕ) (ps xs : List ℕ) (k : ℕ) → row n w (length ps + k) (ps ++ xs) ≡ row n w k xs
unfolding row
row-shift zero w ps xs k = refl
row-shift (suc n) w ps xs k = rw (word-shift w ps xs k, add_assoc (length ps) k w, row-shift n w ps xs (k + w))

-- the same after n bytes
row-behind : (n w m : ℕ) (ps xs : List ℕ) → length ps ≡ m → row n w m (ps ++ xs) ≡ row n w 0 xs
row-behind n w m ps xs e = rw (← e) (rw (add-zero (length ps)) at (row-shift n w ps xs 0))

pub length-row_bytes : (w : ℕ) (vs : List ℕ) → length (row_bytes w vs) ≡ length vs * w
unfolding row_bytes
length-row_bytes w [] = omega arith
length-row_bytes w (v ∷ vs) =
    length-append (bytes w v) (row_bytes w vs) ∙ rw (length-bytes w v, length-row_bytes w vs, suc-mul (length vs) w) (omega arith)

row-row_bytes : (w : ℕ) (vs xs : List ℕ) → ((k : ℕ) → at vs k < 256 ^ w) → row (length vs) w 0 (row_bytes w vs ++ xs) ≡ vs
unfolding row row_bytes
row-row_bytes w [] xs b = refl
row-row_bytes w (v ∷ vs) xs b =
    rw (
      append_assoc (bytes w v) (row_bytes w vs) xs,
      word_bytes w v (row_bytes w vs ++ xs) (b 0),
      zero-add w,
      row-behind (length vs) w w (bytes w v) (row_bytes w vs ++ xs) (length-bytes w v),
      row-row_bytes w vs xs (λ k. b (suc k)),
    )

-- ---- one row: read, then written

row_bytes-row : (n w : ℕ) (xs : List ℕ) (k : ℕ) → ((j : ℕ) → at xs j < 256) → k + n * w ≤ length xs
    → row_bytes w (row n w k xs) ≡ take (n * w) (drop k xs)
unfolding row row_bytes
row_bytes-row zero w xs k b h = rw (zero-mul w)
row_bytes-row (suc n) w xs k b h =
    let e = suc-mul n w in
    let f : suc n * w ≡ w + n * w = omega arith in
    rw (f, bytes_word w xs k b (omega arith), row_bytes-row n w xs (k + w) b (omega arith), take-add w (n * w) (drop k xs), drop-drop w k xs)

pub length-row : (n w k : ℕ) (xs : List ℕ) → length (row n w k xs) ≡ n
unfolding row
length-row zero w k xs = refl
length-row (suc n) w k xs = ap suc (length-row n w (k + w) xs)

pub length-row_in : (fs : List Field) (k : ℕ) (xs : List ℕ) → length (row_in fs k xs) ≡ (field fs k).count
length-row_in fs k xs = length-row (field fs k).count (field fs k).width (begins fs k) xs

row_small : (n w k : ℕ) (xs : List ℕ) → ((j : ℕ) → at xs j < 256) → (j : ℕ) → at (row n w k xs) j < 256 ^ w
unfolding row
row_small zero w k xs b j = one-le-pow w 256 (lit< tt)
row_small (suc n) w k xs b zero = word_small w xs k b
row_small (suc n) w k xs b (suc j) = row_small n w (k + w) xs b j

pub row_fits : (n w k : ℕ) (xs : List ℕ) → ((j : ℕ) → at xs j < 256) → RowFits n w (row n w k xs)
row_fits n w k xs b = record { long = length-row n w k xs; small = row_small n w k xs b }

-- ---- every row

-- each row has its field's count of numbers, each of its field's width
abbrev pub RowsFit : List Field → List (List ℕ) → Type 0
RowsFit [] [] = Unit
RowsFit [] (vs ∷ rows) = ⊥
RowsFit (f ∷ fs) [] = ⊥
RowsFit (f ∷ fs) (vs ∷ rows) = Fills f vs × RowsFit fs rows

unpacked-shift : (fs : List Field) (ps xs : List ℕ) (k : ℕ) → unpacked fs (length ps + k) (ps ++ xs) ≡ unpacked fs k xs
unpacked-shift [] ps xs k = refl
unpacked-shift (f ∷ fs) ps xs k =
    rw (
      row-shift f.count f.width ps xs k,
      add_assoc (length ps) k (f.count * f.width),
      unpacked-shift fs ps xs (k + f.count * f.width),
    )

unpacked-behind : (fs : List Field) (ps xs : List ℕ) (n : ℕ) → length ps ≡ n → unpacked fs (0 + n) (ps ++ xs) ≡ unpacked fs 0 xs
unpacked-behind fs ps xs n e = rw (zero-add n, ← e) (rw (add-zero (length ps)) at (unpacked-shift fs ps xs 0))

-- what is packed is unpacked as it was
pub unpacked-packed : (fs : List Field) (rows : List (List ℕ)) → RowsFit fs rows → unpacked fs 0 (packed fs rows) ≡ rows
unpacked-packed [] [] h = refl
unpacked-packed [] (vs ∷ rows) h = absurd h
unpacked-packed (f ∷ fs) [] h = absurd h
unpacked-packed (f ∷ fs) (vs ∷ rows) h =
    let w = f.width in
    let p = packed fs rows in
    let ps = row_bytes w vs in
    let s = unpacked-behind fs ps p (f.count * w) (rw (← h.0.long) (length-row_bytes w vs)) in
    rw (s, unpacked-packed fs rows h.1) (ap (λ (l : List ℕ). l ∷ rows) (rw (← h.0.long) (row-row_bytes w vs p h.0.small)))

-- each of the first k rows is as long as its field says
abbrev pub LongBefore : ℕ → List Field → List (List ℕ) → Type 0
LongBefore zero fs rows = Unit
LongBefore (suc k) [] rows = ⊥
LongBefore (suc k) (f ∷ fs) [] = ⊥
LongBefore (suc k) (f ∷ fs) (vs ∷ rows) = (length vs ≡ f.count) × LongBefore k fs rows

-- The row k is unpacked as it was, whatever numbers the rows before it have and whatever follows it.
pub part-packed : (fs : List Field) (rows : List (List ℕ)) (k : ℕ) → k < length fs → LongBefore k fs rows → Fills (field fs k) (part rows k)
    → part (unpacked fs 0 (packed fs rows)) k ≡ part rows k
unfolding row
part-packed [] rows k i l h = absurd (omega arith)
part-packed (f ∷ fs) [] zero i l h = rw (← h.long)
part-packed (f ∷ fs) [] (suc k) i l h = absurd l
part-packed (f ∷ fs) (vs ∷ rows) zero i l h = rw (← h.long) (row-row_bytes f.width vs (packed fs rows) h.small)
part-packed (f ∷ fs) (vs ∷ rows) (suc k) i l h =
    let w = f.width in
    let s = unpacked-behind fs (row_bytes w vs) (packed fs rows) (f.count * w) (rw (← l.0) (length-row_bytes w vs)) in
    ap (λ rows. part rows k) s ∙ part-packed fs rows k (omega arith) l.1 h

-- what is unpacked is packed again to the same bytes
pub packed-unpacked : (fs : List Field) (k : ℕ) (xs : List ℕ) → ((j : ℕ) → at xs j < 256) → k + size fs ≡ length xs
    → packed fs (unpacked fs k xs) ≡ drop k xs
packed-unpacked [] k xs b e = let d : k ≡ length xs = omega arith in rw (d, drop-length xs)
packed-unpacked (f ∷ fs) k xs b e =
    let n = f.count * f.width in
    rw (row_bytes-row f.count f.width xs k b (omega arith), packed-unpacked fs (k + n) xs b (omega arith), ← (drop-drop n k xs))
    (take-append-drop n (drop k xs))

-- the rows of a list of bytes fit
pub unpacked-fits : (fs : List Field) (k : ℕ) (xs : List ℕ) → ((j : ℕ) → at xs j < 256) → RowsFit fs (unpacked fs k xs)
unpacked-fits [] k xs b = tt
unpacked-fits (f ∷ fs) k xs b = (row_fits f.count f.width k xs b, unpacked-fits fs (k + f.count * f.width) xs b)

-- ---- the packed bytes

pub length-packed : (fs : List Field) (rows : List (List ℕ)) → RowsFit fs rows → length (packed fs rows) ≡ size fs
length-packed [] [] h = refl
length-packed [] (vs ∷ rows) h = absurd h
length-packed (f ∷ fs) [] h = absurd h
length-packed (f ∷ fs) (vs ∷ rows) h =
    length-append (row_bytes f.width vs) (packed fs rows)
    ∙ rw (length-row_bytes f.width vs, length-packed fs rows h.1, h.0.long)

append-small : (a b : List ℕ) → ((k : ℕ) → at a k < 256) → ((k : ℕ) → at b k < 256) → (k : ℕ) → at (a ++ b) k < 256
append-small [] b h g k = g k
append-small (x ∷ a) b h g zero = h 0
append-small (x ∷ a) b h g (suc k) = append-small a b (λ j. h (suc j)) g k

row_bytes-small : (w : ℕ) (vs : List ℕ) (k : ℕ) → at (row_bytes w vs) k < 256
unfolding row_bytes
row_bytes-small w [] k = lit< tt
row_bytes-small w (v ∷ vs) k = append-small (bytes w v) (row_bytes w vs) (bytes_small w v) (row_bytes-small w vs) k

pub packed-small : (fs : List Field) (rows : List (List ℕ)) (k : ℕ) → at (packed fs rows) k < 256
packed-small [] rows k = lit< tt
packed-small (f ∷ fs) [] k = lit< tt
packed-small (f ∷ fs) (vs ∷ rows) k = append-small (row_bytes f.width vs) (packed fs rows) (row_bytes-small f.width vs) (packed-small fs rows) k
