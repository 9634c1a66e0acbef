-- Pages by their state: some pages and then more; and the blocks' pages in a state make up the array's, since the blocks stand one after
-- the other. Assumes nothing.
use mathlib.Core.Path.{◌≡◌, sym, ap, ◌∙◌}
use mathlib.Core.Bool.{cond}
use mathlib.Core.List.{List, [], ◌∷◌}
use Prim.Native.Nat.{ℕ, ◌+◌}
use lib.ListN.{take, drop}
use lib.Seq.{take-add, drop-drop}
use native.Mathlib.Nat.{add-zero, zero-add}
use native.Mathlib.Omega.{arith}
use Rattle.std.proofs.lemmas.List.Sums.{sum_by-append}
use Rattle.control.specs.Blocks.{erase_range, InOrder}
use Rattle.control.proofs.Tiling.{blocks-in-order}
use Rattle.flash.specs.declared.PageState.{PageState}
use Rattle.verdict.specs.States.{same_state, count_in, count_over}

module _ (state : PageState) (states : List PageState) where
  -- some pages and m more
  count-more : (p n m : ℕ) → count_in state states p (n + m) ≡ count_in state states p n + count_in state states (p + n) m
  unfolding count_in
  count-more p n m =
      rw (take-add n m (drop p states), sum_by-append (λ s. cond (same_state state s) 1 0) (take n (drop p states)) _, drop-drop n p states)

  -- blocks from a page on: with the pages before them, all pages
  blocks-after : (es : List ℕ) (p : ℕ) → InOrder p es → count_in state states 0 p + count_over state states es ≡ count_in state states 0 384
  unfolding InOrder count_over
  blocks-after [] p e = add-zero _ ∙ ap (count_in state states 0) e
  blocks-after (e ∷ es) p (first, rest) =
      let r = blocks-after es (p + (erase_range e).pages) rest in
      let m = count-more 0 p (erase_range e).pages in
      rw first (omega (arith, r, rw (zero-add p) at m))

  -- The blocks make up the array.
  pub counted-in-blocks : count_over state states (1 ∷ 2 ∷ 4 ∷ 8 ∷ 16 ∷ 32 ∷ []) ≡ count_in state states 0 384
  unfolding count_in
  counted-in-blocks = sym (zero-add _) ∙ blocks-after (1 ∷ 2 ∷ 4 ∷ 8 ∷ 16 ∷ 32 ∷ []) 0 blocks-in-order
