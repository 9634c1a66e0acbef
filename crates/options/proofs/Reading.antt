-- The reading of the arguments piece by piece: the words so far, with those of what is left, are all words, and they give what is given.
-- Each piece keeps this. Assumes nothing.
use mathlib.Core.List.{List, [], ◌∷◌, ◌++◌}
use mathlib.Core.Path.{◌≡◌, refl, sym, ap, ◌∙◌}
use Prim.Native.Nat.{ℕ}
use lib.ListN.{length}
use Rattle.std.proofs.lemmas.List.{map_push, append-nil, nil_from_length}
use Rattle.std.proofs.Math.Seq.{append_snoc}
use Rattle.options.specs.Arguments.{Word, all_bytes, words_of, start, step_at, take_all, given_by}
use Rattle.options.specs.Inside.{AllTaken}
use Rattle.options.specs.declared.Given.{Given}
use Rattle.options.proofs.Words.{taking_one, no_words}

pub record Reading (args : List ℕ) (g : Given) (left : List ℕ) : Type 0 where
  pub words : List Word
  pub all : all_bytes words ++ words_of left ≡ words_of args
  pub is : g ≡ given_by words

module _ (args : List ℕ) where
  pub read_none : {left : List ℕ} → left ≡ args → Reading args start left
  unfolding take_all
  read_none e = rw e (record { words = []; all = refl; is = refl })

  pub read_all : {g : Given} {left : List ℕ} → Reading args g left → length left ≡ 0 → AllTaken args g
  read_all {g} {left} r h =
      let none : words_of left ≡ [] = ap words_of (nil_from_length left h) ∙ no_words in
      record { words = r.words; all = sym (append-nil _) ∙ sym (ap (λ l. all_bytes r.words ++ l) none) ∙ r.all; is = r.is }

module _ (args : List ℕ) (g : Given) (left on : List ℕ) (r : Reading args g left) where
  pub read_word : (w : Word) → words_of left ≡ w.now ∷ words_of on → (g₁ : Given) → g₁ ≡ step_at g.said g.stage w → Reading args g₁ on
  read_word w first g₁ stepped =
      rw stepped
      (record {
        words = r.words ++ w ∷ [];
        all =
            ap (λ l. l ++ words_of on) (map_push (λ v. v.now) r.words w)
            ∙ append_snoc (all_bytes r.words) w.now (words_of on)
            ∙ sym (ap (λ l. all_bytes r.words ++ l) first)
            ∙ r.all;
        is = ap (λ h. step_at h.said h.stage w) r.is ∙ sym (taking_one r.words w start);
      })

  pub read_on : words_of left ≡ words_of on → (g₁ : Given) → g₁ ≡ g → Reading args g₁ on
  read_on none g₁ same =
      rw same
      (record { words = r.words; all = sym (ap (λ l. all_bytes r.words ++ l) none) ∙ r.all; is = r.is })
