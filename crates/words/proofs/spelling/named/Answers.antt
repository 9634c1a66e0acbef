-- The first entry whose name the word spells, and then its meaning, is what the table means.
use Rattle.std.proofs.Common.{rules, tests, ◌≡◌, ◌∙◌, ap, refl, ℕ, Bool, true, false, cond, map, List, [], ◌∷◌, Option, Some, None, MatchOption, IsSomeAnd, Bor}
use Rattle.std.specs.List.{find}
use Rattle.std.specs.Option.{option_map}
use Rattle.std.proofs.lemmas.Iterator.{YieldsList-from_slice}
use Rattle.std.proofs.lemmas.Iterator.Search.{find_from_yields_List}
use Rattle.words.specs.Text.{spells, named}
use Rattle.words.proofs.spelling.named.Goals as goal

-- how the first of some entries that spell a name goes on to its meaning
either : {A : Type 0} (t : Bool) (e : Bor (List ℕ) × A) (o : Option (Bor (List ℕ) × A)) (m : Option A) → option_map (λ x. x.1) o ≡ m → option_map (λ x. x.1) (cond t (Some e) o) ≡ cond t (Some e.1) m
either true e o m h = refl
either false e o m h = h

meaning : {A : Type 0} (bs : List ℕ) (es : List (Bor (List ℕ) × A)) → option_map (λ e. e.1) (find (λ e. spells e.0.now bs) es) ≡ named (map (λ e. (e.0.now, e.1)) es) bs
meaning bs [] = refl
meaning bs (e ∷ es) = either (spells e.0.now bs) e _ _ (meaning bs es)

-- the closure reads the meaning of an entry that was found
told : {A : Type 0} (P : Bor (Bor (List ℕ) × A) → A → Type 0) → ((x : Bor (Bor (List ℕ) × A)) (a : A) → P x a → a ≡ x.now.1)
    → (r : Option (Bor (Bor (List ℕ) × A))) (m : Option A) → MatchOption r (m ≡ None) (λ x. IsSomeAnd m (P x)) → m ≡ option_map (λ e. e.1) (option_map (λ x. x.now) r)
told P each None m h = h
told P each (Some x) None h = absurd h
told P each (Some x) (Some a) h = ap Some (each x a h)

pub returns : goal.returns
returns g c =
    let first = find_from_yields_List (λ e. spells e.0.now c.args.word.now) _ _ c.find.result c.find.ensures.ran (YieldsList-from_slice c.args.table.now c.iter.ensures.rest) (λ x b q k. search (rules, tests)) in
    told _ (λ x a p. search rules) c.find.result c.map.result c.map.ensures.cases ∙ ap (option_map (λ e. e.1)) first ∙ meaning c.args.word.now c.args.table.now
