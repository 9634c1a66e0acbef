-- What bytes do to a reader: those before the first newline are kept while the line has room for them, and the newline ends the line.
-- Assumes nothing.
use Prim.Native.Nat.{ℕ, zero, suc, ◌+◌, ◌<◌}
use mathlib.Core.Bool.{Bool, true, false, cond, not, ◌||◌, or-true, or-false}
use mathlib.Core.List.{List, [], ◌∷◌, ◌++◌, append-nil, append_assoc}
use mathlib.Core.Path.{◌≡◌, refl, sym, ap, ◌∙◌}
use native.Mathlib.Omega.{arith}
use borrow.Author.Tests.{lt-ltb, le-ltb, eqb-true, not-false}
use lib.Dec.{eqb, ltb, leb-suc-suc}
use lib.ListN.{length, get_or, take, length-append}
use lib.Seq.{take-nil, take-suc}
use Rattle.byte_search.specs.Search.{index_of}
use native.Mathlib.Numerals.{one-add}
use Rattle.std.proofs.lemmas.List.Sums.{prefix_len_stops}
use Rattle.course.specs.Bounds.{longest}
use Rattle.course.specs.declared.Manner.{Manner}
use Rattle.course.specs.Reader.{Reader, newline, line_ended, byte_kept, all_read}
use Rattle.course.proofs.Claimed.{runs}

-- ---- bytes that are kept

-- a reader that kept bytes in a line that had room for n more
abbrev pub keeping : ℕ → List ℕ → Reader → Reader
keeping n bs r = record {
  desk = r.desk;
  before = r.before;
  lines = r.lines;
  line = r.line ++ take n bs;
  long = r.long || ltb n (length bs);
}

keeping_none : (n : ℕ) (r : Reader) → keeping n [] r ≡ r
keeping_none n r = rw (take-nil {A = ℕ} n, append-nil, le-ltb n 0 (omega arith), or-false)

-- a byte more, with room for it
module _ (n b : ℕ) (r : Reader) (room : length r.line + suc n ≡ longest) where
  kept-one : length (byte_kept b r).line + n ≡ longest
  unfolding byte_kept
  kept-one = rw (lt-ltb (length r.line) longest (omega arith), length-append) (omega arith)

  keeping-one : (bs : List ℕ) → keeping n bs (byte_kept b r) ≡ keeping (suc n) (b ∷ bs) r
  unfolding byte_kept
  keeping-one bs = rw (lt-ltb (length r.line) longest (omega arith), or-false, append_assoc, leb-suc-suc)

-- a byte more, with no room for it
module _ (b : ℕ) (r : Reader) (full : length r.line + 0 ≡ longest) where
  kept_full : length (byte_kept b r).line + 0 ≡ longest
  unfolding byte_kept
  kept_full = rw (le-ltb (length r.line) longest (omega arith)) full

  keeping-full : (bs : List ℕ) → keeping 0 bs (byte_kept b r) ≡ keeping 0 (b ∷ bs) r
  unfolding byte_kept
  keeping-full bs = rw (le-ltb (length r.line) longest (omega arith), lt-ltb 0 (suc (length bs)) (omega arith), or-true)

-- ---- bytes up to a newline

-- the bytes before the first newline
abbrev pub up_to : List ℕ → List ℕ
up_to bs = take (index_of newline bs) bs

newline-found : (bs : List ℕ) → index_of newline bs < length bs → get_or bs (index_of newline bs) 0 ≡ newline
newline-found bs h = eqb-true _ newline (not-false _ (prefix_len_stops (λ b. not (eqb b newline)) bs 0 h))

-- ---- bytes that are read

module _ (w : Manner) where
  -- bytes are kept, as many as the line has room for
  abbrev pub Keeps : List ℕ → Type 0
  Keeps bs = (n : ℕ) (r : Reader) → length r.line + n ≡ longest → all_read w bs r ≡ keeping n bs r

  keeps-none : Keeps []
  unfolding all_read
  keeps-none n r h = sym (keeping_none n r)

  keeps-one : (b : ℕ) (bs : List ℕ) → eqb b newline ≡ false → Keeps bs → Keeps (b ∷ bs)
  unfolding all_read
  keeps-one b bs e rest n r h = ap (λ (t : Bool). all_read w bs (cond t (line_ended w r) (byte_kept b r))) e ∙ by n h
    where
      by : (n : ℕ) → length r.line + n ≡ longest → all_read w bs (byte_kept b r) ≡ keeping n (b ∷ bs) r
      by zero h = rest 0 (byte_kept b r) (kept_full b r h) ∙ keeping-full b r h bs
      by (suc n) h = rest n (byte_kept b r) (kept-one n b r h) ∙ keeping-one n b r h bs

  pub read-line : (bs : List ℕ) → Keeps (up_to bs)
  read-line [] = keeps-none
  read-line (b ∷ bs) = by (eqb b newline) refl (read-line bs)
    where
      by : (t : Bool) → eqb b newline ≡ t → Keeps (up_to bs) → Keeps (take (cond (not t) (1 + index_of newline bs) 0) (b ∷ bs))
      by true e rest = keeps-none
      by false e rest = rw one-add (keeps-one b (up_to bs) e rest)

  pub read-ended : (bs : List ℕ) (r : Reader) → index_of newline bs < length bs
      → all_read w (take (suc (index_of newline bs)) bs) r ≡ line_ended w (all_read w (up_to bs) r)
  unfolding all_read
  read-ended bs r h = rw (take-suc bs (index_of newline bs) 0 h, newline-found bs h) (runs.pieces w (up_to bs) (newline ∷ []) r)
