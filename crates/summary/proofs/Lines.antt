-- Lines that are put one after the other: none, and one more.
-- Assumes nothing.
use mathlib.Core.Path.{◌≡◌}
use mathlib.Core.List.{List, ◌++◌, append-nil, append_assoc}
use Prim.Native.Nat.{ℕ, zero, suc, ◌+◌}
use native.Mathlib.Nat.{add-zero, zero-add}
use native.Mathlib.Omega.{arith}
use Rattle.text.specs.declared.Text.{Text}
use Rattle.text.specs.Says.{Says}
use Rattle.text.proofs.Joined.{says_none, says_append}
use Rattle.summary.specs.Summary.{lines}

lines_more : (line : ℕ → List ℕ) (i n : ℕ) → lines line i (n + 1) ≡ lines line i n ++ line (i + n)
unfolding lines
lines_more line i zero = rw (add-zero i) (append-nil (line i))
lines_more line i (suc n) =
    let e : suc n + 1 ≡ suc (n + 1) = omega arith in
    let d : i + suc n ≡ suc i + n = omega arith in
    rw (e, d, lines_more line (suc i) n, append_assoc)

-- one line after the other
pub no-lines : (line : ℕ → List ℕ) (t : Text) → Says (lines line 0 0) t t
unfolding lines
no-lines line t = says_none t

pub one-line-more : (line : ℕ → List ℕ) (k : ℕ) (a b c : Text) → Says (lines line 0 k) a b → Says (line k) b c → Says (lines line 0 (k + 1)) a c
one-line-more line k a b c p q = rw (lines_more line 0 k, zero-add k) (says_append _ _ _ _ _ p q)
