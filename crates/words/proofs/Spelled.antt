-- Whether bytes spell a name, byte beside byte: a name of another length is never spelled. Assumes nothing.
use Rattle.std.proofs.Common.{◌≡◌, ◌≢◌, ℕ, suc, false, ◌&&◌, List, [], ◌∷◌, length, refl, ap, eqb, arith}
use mathlib.Core.Bool.{and-false}
use Rattle.std.specs.Char.{to_ascii_uppercase}
use Rattle.std.specs.List.{list_all, zip}
use Rattle.words.specs.Text.{spells}

pub beside : (name word : List ℕ) → length word ≡ length name → list_all (λ e. eqb (to_ascii_uppercase e.0) e.1) (zip word name) ≡ spells name word
beside [] [] e = refl
beside [] (b ∷ bs) e = absurd (omega arith)
beside (n ∷ ns) [] e = absurd (omega arith)
beside (n ∷ ns) (b ∷ bs) e = ap (λ r. eqb (to_ascii_uppercase b) n && r) (beside ns bs (omega arith))

pub other_length : (name word : List ℕ) → length word ≢ length name → spells name word ≡ false
other_length [] [] differ = absurd (differ refl)
other_length [] (b ∷ bs) differ = refl
other_length (n ∷ ns) [] differ = refl
other_length (n ∷ ns) (b ∷ bs) differ = rw (other_length ns bs (λ e. differ (ap suc e)), and-false)
