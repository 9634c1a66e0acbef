-- A look that writes its answer to lent bytes: what it leaves there. Its refusal is `lent` Looked: `output_refusal`.
-- Assumes nothing.
use Rattle.std.specs.Prelude.{ℕ, zero, suc, cond, List, ltb}
use Rattle.lists.specs.Lists.{mapi}

-- the first n bytes are g 0, g 1, ..; bytes past them stay
unfoldable pub written : (ℕ → ℕ) → ℕ → List ℕ → List ℕ
written g n out = mapi (λ i byte. cond (ltb i n) (g i) byte) 0 out

-- The answer is written; a refusal leaves the output.
abbrev pub output_left : ℕ → (ℕ → ℕ) → ℕ → List ℕ → List ℕ
output_left zero g n out = written g n out
output_left (suc r) g n out = out
