-- Texts as bytes: the bytes of a name, whether a word spells a name, and what it means by a table of names. Names are written in capitals,
-- and letters' case does not matter where they are read.
-- Assumes nothing.
use Rattle.std.specs.Prelude.{ℕ, Bool, true, false, cond, ◌&&◌, List, [], ◌∷◌, Option, Some, None, eqb}
use Rattle.std.specs.Char.{to_ascii_uppercase}
use Prim.Native.Char.{code}
use Prim.Native.String.{String, [] as none, ◌∷◌ as ◌then◌}

-- the bytes of a text of plain letters, digits and signs
abbrev pub text : String → List ℕ
text none = []
text (c then s) = code c ∷ text s

-- whether bytes spell a name
abbrev pub spells : List ℕ → List ℕ → Bool
spells [] [] = true
spells [] (b ∷ bs) = false
spells (n ∷ ns) [] = false
spells (n ∷ ns) (b ∷ bs) = eqb (to_ascii_uppercase b) n && spells ns bs

-- what the first entry of a table means whose name bytes spell, if one does
abbrev pub named : {A : Type 0} → List (List ℕ × A) → List ℕ → Option A
named [] bs = None
named (e ∷ es) bs = cond (spells e.0 bs) (Some e.1) (named es bs)
