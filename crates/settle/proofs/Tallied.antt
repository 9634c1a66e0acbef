-- Counting end events: some words and then more, and one word. Each law goes through the counts by their place.
-- Assumes nothing.
use mathlib.Core.Path.{◌≡◌, refl, sym, ap, ◌∙◌}
use mathlib.Core.Bool.{cond}
use Rattle.std.specs.Prelude.{None, Some}
use mathlib.Core.List.{List, [], ◌∷◌, ◌++◌}
use Prim.Native.Nat.{ℕ, suc, ◌+◌, ◌/◌, ◌^◌, ◌<◌}
use native.Mathlib.Nat.{zero-add}
use native.Mathlib.Omega.{arith}
use borrow.Author.Tests.{eq-eqb, ne_eqb}
use lib.ListN.{length, set, length-set}
use lib.Seq.{get_or-set_same, get_or-set_other, ext_get_or}
use native.Mathlib.Decide.{ℕ_discrete}
use Rattle.lists.specs.Lists.{at, mapi}
use Rattle.lists.proofs.Maps.{length-mapi, get_or-mapi}
use Rattle.control.specs.Blocks.{block_of}
use Rattle.settle.specs.Words.{kind_in, address_in}
use Rattle.settle.specs.Tallies.{ends_there, end_count, raised, counted}

count-append : (kind b : ℕ) (xs ys : List ℕ) → end_count kind b (xs ++ ys) ≡ end_count kind b xs + end_count kind b ys
unfolding end_count
count-append kind b [] ys = sym (zero-add _)
count-append kind b (w ∷ xs) ys = rw (count-append kind b xs ys) (omega arith)

pub length-counted : (kind : ℕ) (words counts : List ℕ) → length (counted kind words counts) ≡ length counts
unfolding counted
length-counted kind words counts = length-mapi _ 0 counts

-- a count that stays below 2^64 is the one before and the number of words that count for its block
pub counted-at : (kind : ℕ) (words counts : List ℕ) (b : ℕ) → b < length counts → at counts b + end_count kind b words < 2 ^ 64
    → at (counted kind words counts) b ≡ at counts b + end_count kind b words
unfolding counted
counted-at kind words counts b h small = get_or-mapi _ counts b h ∙ omega arith

-- some words and then more
pub counted-more : (kind : ℕ) (xs ys counts : List ℕ) → counted kind ys (counted kind xs counts) ≡ counted kind (xs ++ ys) counts
unfolding counted
counted-more kind xs ys counts = go 0 counts
  where
    more : List ℕ → ℕ → ℕ → ℕ
    more words b n = raised n (end_count kind b words)

    go : (b : ℕ) (ns : List ℕ) → mapi (more ys) b (mapi (more xs) b ns) ≡ mapi (more (xs ++ ys)) b ns
    go b [] = refl
    go b (n ∷ ns) =
        let e : more ys b (more xs b n) ≡ more (xs ++ ys) b n = omega (arith, count-append kind b xs ys) in
        rw (e, go (suc b) ns)

-- no word
pub counted_none : (kind : ℕ) (counts : List ℕ) → counted kind [] counts ≡ counts
unfolding counted end_count
counted_none kind counts = go 0 counts
  where
    go : (b : ℕ) (ns : List ℕ) → mapi (λ b n. raised n 0) b ns ≡ ns
    go b [] = refl
    go b (n ∷ ns) = let e : raised n 0 ≡ n = omega arith in rw (e, go (suc b) ns)

-- ---- one word

-- from the counts by their place: they are as after the word if each is
by_place : (kind w : ℕ) (counts after : List ℕ) → length after ≡ length counts
    → ((b : ℕ) → b < length counts → at after b ≡ raised (at counts b) (cond (ends_there kind b w) 1 0)) → after ≡ counted kind (w ∷ []) counts
unfolding counted end_count
by_place kind w counts after l each =
    ext_get_or 0 after _ (l ∙ sym (length-mapi _ 0 counts))
    (λ b h. let k : b < length counts = rw l at h in
    let e : cond (ends_there kind b w) 1 0 + 0 ≡ cond (ends_there kind b w) 1 0 = omega arith in
    sym (get_or-mapi _ counts b k ∙ ap (raised (at counts b)) e ∙ sym (each b k)))

pub other-kind : (kind w : ℕ) (counts : List ℕ) → (kind_in w ≡ kind → ⊥) → counts ≡ counted kind (w ∷ []) counts
unfolding ends_there
other-kind kind w counts n = by_place kind w counts counts refl (λ b h. rw (ne_eqb _ _ n) (omega arith))

module _ (kind w : ℕ) (counts : List ℕ) (same : kind_in w ≡ kind) where
  pub no_block : block_of (address_in w / 128) ≡ None → counts ≡ counted kind (w ∷ []) counts
  unfolding ends_there
  no_block none = by_place kind w counts counts refl (λ b h. rw (eq-eqb _ _ same, none) (omega arith))

  pub in_block : (b v : ℕ) → block_of (address_in w / 128) ≡ Some b → b < length counts → v ≡ raised (at counts b) 1
      → set counts b v ≡ counted kind (w ∷ []) counts
  unfolding ends_there
  in_block b v here inside e = by_place kind w counts (set counts b v) (length-set counts b v) (λ k h. each k (ℕ_discrete k b))
    where
      each : (k : ℕ) → Dec (k ≡ b) → at (set counts b v) k ≡ raised (at counts k) (cond (ends_there kind k w) 1 0)
      each k (yes q) = rw (q, get_or-set_same counts b v 0 inside, eq-eqb _ _ same, here, eq-eqb b b refl) e
      each k (no d) = rw (get_or-set_other counts b k v 0 d, eq-eqb _ _ same, here, ne_eqb b k (λ q. d (sym q))) (omega arith)

pub ruleset one_word = (other-kind, in_block, no_block)
