-- A word of the arguments: the place that it is given, what it adds to what is given, and the words of what is left after each piece.
-- Assumes nothing.
use Prim.Native.Nat.{ℕ, suc, ◌+◌, ◌-◌, ◌≤◌, ◌<◌, min}
use mathlib.Core.Bool.{Bool, false}
use mathlib.Core.List.{List, [], ◌∷◌, ◌++◌}
use mathlib.Core.Logic.{⊎_elim}
use mathlib.Core.Path.{◌≡◌, refl, sym, ap, subst, ◌∙◌}
use native.Mathlib.Omega.{arith}
use borrow.Author.Tests.{eqb-true}
use lib.Dec.{eqb}
use denote.Param.Members.{Mut}
use denote.Ref.{Bor}
use lib.ListN.{length, get_or, take, drop, length-append, drop_of_length-le, take-append-drop}
use lib.Seq.{drop-cons}
use Rattle.std.specs.List.{All, IsFirstMatchOrLen, slice_split}
use Rattle.std.specs.Fn.{CalledAt, ComputesKey}
use Rattle.std.proofs.Math.Seq.{append_snoc}
use Rattle.std.proofs.lemmas.Bool.{cases_lt}
use Rattle.std.proofs.lemmas.Fn.{always_returns_same}
use Rattle.std.proofs.lemmas.List.{get_or_append_left, nil_from_length}
use Rattle.std.proofs.lemmas.List.Elements.{All-nil}
use Rattle.std.proofs.lemmas.List.Splits.{slice_split_at, slice_split_none, length-slice_split}
use Rattle.options.specs.Arguments.{Word, place, places, words_of, take_all, step_at}
use Rattle.options.specs.declared.Given.{Given}
use Rattle.options.specs.declared.Parameter.{Parameter}
use Rattle.options.specs.declared.Parameter.TheVariants as parameter

-- each parameter has a place, by its number
pub place_within : (p : Parameter) → place p < places
place_within parameter.Help = omega arith
place_within p = omega arith

-- one more word is taken after those before it
pub taking_one : (words : List Word) (w : Word) (g : Given)
    → take_all g (words ++ w ∷ []) ≡ step_at (take_all g words).said (take_all g words).stage w
unfolding take_all
taking_one [] w g = refl
taking_one (v ∷ words) w g = taking_one words w (step_at g.said g.stage v)

-- no byte of a list is 0
abbrev Clean : List ℕ → Type 0
Clean = All (λ b. eqb b 0 ≡ false)

words-first : (w rest : List ℕ) → Clean w → words_of (w ++ 0 ∷ rest) ≡ w ∷ words_of rest
unfolding words_of
words-first w rest clean =
    let p = λ (b : ℕ). eqb b 0 in
    let more : 0 < length (slice_split p rest) = omega (arith, length-slice_split p rest) in
    rw (slice_split_at p w 0 rest clean refl) (front w (slice_split p rest) more)
  where
    front : (x : List ℕ) (xs : List (List ℕ)) → 0 < length xs → take (length (x ∷ xs) - 1) (x ∷ xs) ≡ x ∷ take (length xs - 1) xs
    front x [] h = absurd (omega arith)
    front x (y ∷ ys) h =
        let more : length (x ∷ y ∷ ys) - 1 ≡ suc (length ys) = omega arith in
        let less : length (y ∷ ys) - 1 ≡ length ys = omega arith in
        rw (more, less)

words-none : (bs : List ℕ) → Clean bs → words_of bs ≡ []
unfolding words_of
words-none bs clean = rw (slice_split_none (λ b. eqb b 0) bs clean)

pub no_words : words_of [] ≡ []
no_words = words-none [] (All-nil (λ x. eqb x 0 ≡ false))

-- where the calls of a closure answer what a test says, it computes that test
pub computes : {F : Type 0} (g : Mut F (Bor ℕ × Unit {0}) Bool) (p : ℕ → Bool) (f : F)
    → ((x : ℕ) (b : Bool) (q : F) → CalledAt g f x b q → (q ≡ f) × (b ≡ p x)) → ComputesKey g p f
computes g p f tests =
    always_returns_same g (λ a r. r ≡ p a.0.now) f (λ a r q k. let m = tests a.0.now r q (record { shown = a.0; shows = refl; called = k }) in (m.1, m.0))

-- A piece of what is left ends with its first byte 0, or with the text where it has none.
module _ (left x on : List ℕ) (i : ℕ) (cut : left ≡ x ++ on) (size : length x ≡ min (i + 1) (length left))
    (first : IsFirstMatchOrLen (λ b. eqb b 0) left i) where
  pub piece_word : (w : List ℕ) → w ≡ take (length x - 1) x → drop (length x - 1) x ≡ 0 ∷ [] → words_of left ≡ w ∷ words_of on
  piece_word w front last =
      let whole : x ≡ w ++ 0 ∷ [] = sym (take-append-drop (length x - 1) x) ∙ ap (λ v. take (length x - 1) x ++ v) last ∙ ap (λ v. v ++ 0 ∷ []) (sym front) in
      let seam : left ≡ w ++ 0 ∷ on = cut ∙ ap (λ v. v ++ on) whole ∙ append_snoc w 0 on in
      let below : length w ≤ i = omega (arith, ap length whole, length-append w (0 ∷ [])) in
      let clean : Clean w = λ k d l. subst (λ v. eqb v 0 ≡ false) (ap (λ v. get_or v k d) seam ∙ get_or_append_left w (0 ∷ on) d k l) (first.0 k d (omega arith) (omega arith)) in
      ap words_of seam ∙ words-first w on clean

  pub piece_on : (drop (length x - 1) x ≡ 0 ∷ [] → ⊥) → words_of left ≡ words_of on
  piece_on differ =
      let ends : (l : i < length left) → drop (length x - 1) x ≡ 0 ∷ [] = λ l.
      let last : length x - 1 ≡ i = omega arith in
      let zero : get_or x i 0 ≡ 0 = sym (get_or_append_left x on 0 i (omega arith)) ∙ ap (λ v. get_or v i 0) (sym cut) ∙ eqb-true _ 0 (first.1 l 0) in
      let short : length x ≤ suc i = omega arith in
      ap (λ k. drop k x) last ∙ drop-cons x i 0 (omega arith) ∙ ap (λ v. v ∷ drop (suc i) x) zero ∙ ap (λ v. 0 ∷ v) (drop_of_length-le x short) in
      let past : length left ≤ i = ⊎_elim (λ l. absurd (differ (ends l))) (λ h. h) (cases_lt i (length left)) in
      let over : on ≡ [] = nil_from_length on (omega (arith, ap length cut, length-append x on)) in
      words-none left (λ k d l. first.0 k d (omega arith) (omega arith)) ∙ sym (ap words_of over ∙ no_words)
