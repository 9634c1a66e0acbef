-- An output that is written from the front, one byte a turn: with none written it is as it was, and a store at i makes it the output with
-- i + 1 written. Assumes nothing.
use mathlib.Core.Path.{◌≡◌, sym, ap, ◌∙◌}
use mathlib.Core.Bool.{cond}
use mathlib.Core.List.{List}
use Prim.Native.Nat.{ℕ, ◌+◌, ◌<◌}
use native.Mathlib.Omega.{arith}
use native.Mathlib.Decide.{ℕ_discrete, dec_lt}
use borrow.Author.Tests.{lt-ltb, le-ltb}
use lib.Dec.{ltb}
use lib.ListN.{length, set, length-set}
use lib.Seq.{get_or-set_same, get_or-set_other, ext_get_or}
use Rattle.lists.specs.Lists.{at}
use Rattle.lists.proofs.Maps.{length-mapi, get_or-mapi}
use Rattle.picture.specs.Outputs.{written}

module _ (g : ℕ → ℕ) where
  pub length-written : (n : ℕ) (out : List ℕ) → length (written g n out) ≡ length out
  unfolding written
  length-written n out = length-mapi _ 0 out

  at-written : (n : ℕ) (out : List ℕ) (i : ℕ) → i < length out → at (written g n out) i ≡ cond (ltb i n) (g i) (at out i)
  unfolding written
  at-written n out i h = get_or-mapi _ out i h

  pub written_none : (out : List ℕ) → out ≡ written g 0 out
  written_none out =
      ext_get_or 0 out _ (sym (length-written 0 out)) (λ i h. sym (at-written 0 out i h ∙ rw (le-ltb i 0 (omega arith))))

  pub written-turn : (i : ℕ) (out now : List ℕ) (v : ℕ) → now ≡ written g i out → v ≡ g i → i < length out
      → set now i v ≡ written g (i + 1) out
  written-turn i out now v e d h =
      ext_get_or 0 (set now i v) _ (length-set now i v ∙ l ∙ sym (length-written (i + 1) out)) (λ k b. each k (rw (length-set now i v, l) at b) (ℕ_discrete k i) (dec_lt k i))
    where
      l : length now ≡ length out
      l = ap length e ∙ length-written i out

      each : (k : ℕ) → k < length out → Dec (k ≡ i) → Dec (k < i) → at (set now i v) k ≡ at (written g (i + 1) out) k
      each k b (yes q) s = rw (q, get_or-set_same now i v 0 (rw l h), at-written (i + 1) out i h, lt-ltb i (i + 1) (omega arith)) d
      each k b (no n) (yes s) =
          rw (get_or-set_other now i k v 0 n, e, at-written i out k b, at-written (i + 1) out k b, lt-ltb k i s, lt-ltb k (i + 1) (omega arith))
      each k b (no n) (no s) =
          rw (get_or-set_other now i k v 0 n, e, at-written i out k b, at-written (i + 1) out k b, le-ltb k i (omega arith), le-ltb k (i + 1) (omega arith))

pub ruleset writes = (length-written, written_none, written-turn)
