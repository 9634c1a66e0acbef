-- Text as a list of bytes: numbers written in digits, and templates with marks that numbers and a word take the place of.
-- A template is written here as a text in quotes, and `bytes` gives its bytes. Assumes nothing.
use Rattle.std.specs.Prelude.{ℕ, zero, suc, ◌+◌, ◌/◌, ◌%◌, Bool, true, false, cond, not, ◌&&◌, List, [], ◌∷◌, ◌++◌, eqb, ltb, get_or, drop}
use Prim.Native.Char.{code}
use Prim.Native.String.{String, [] as empty, ◌∷◌ as ◌then◌}
use Rattle.text.specs.declared.Mark.{Mark}
use Rattle.text.specs.declared.Mark.TheVariants.{Plain, Word, Number}

-- the bytes of a text, which has characters of one byte only
abbrev pub bytes : String → List ℕ
bytes empty = []
bytes (c then s) = code c ∷ bytes s

-- ---- numbers

-- a digit: 0 to 9, then A to F
abbrev pub digit : ℕ → ℕ
digit d = cond (ltb d 10) (48 + d) (55 + d)

-- hexadecimal or decimal
abbrev pub base : Bool → ℕ
base hex = cond hex 16 10

-- The last k digits of n in some base, the highest first. Zeros in front are there only where it is padded.
unfoldable pub digits : Bool → ℕ → ℕ → ℕ → List ℕ
digits padded b zero n = []
digits padded b (suc k) n = cond (not padded && ltb n b) [] (digits padded b k (n / b)) ++ digit (n % b) ∷ []

-- ---- templates

-- What a byte of a template stands for: % a number in decimal, $ in four hexadecimal digits, & in two, ^ in six decimal digits,
-- @ the word, any other itself. 20 places hold each number below 2^64.
abbrev pub mark_of : ℕ → Mark
mark_of b =
    cond (eqb b (code "%")) (Number false false 20)
    (cond (eqb b (code "$")) (Number true true 4)
    (cond (eqb b (code "&")) (Number true true 2)
    (cond (eqb b (code "^")) (Number true false 6)
    (cond (eqb b (code "@")) Word
    Plain))))

-- what is put for a mark, with the byte itself, the word and the next number
abbrev pub piece : Mark → ℕ → List ℕ → ℕ → List ℕ
piece Plain b word n = b ∷ []
piece Word b word n = word
piece (Number padded hex places) b word n = digits padded (base hex) places n

-- how many numbers a mark takes
abbrev pub taken : Mark → ℕ
taken Plain = 0
taken Word = 0
taken (Number padded hex places) = 1

-- A template with its marks filled. Each mark of a number takes the next one, and 0 where none is left.
unfoldable pub filled : List ℕ → List ℕ → List ℕ → List ℕ
filled [] word numbers = []
filled (b ∷ template) word numbers =
    piece (mark_of b) b word (get_or numbers 0 0) ++ filled template word (drop (taken (mark_of b)) numbers)

-- the same of a template that is written as a text, with no word
abbrev pub said : String → List ℕ → List ℕ
said template numbers = filled (bytes template) [] numbers

-- the same of one of two templates, by a test
abbrev pub either : Bool → String → String → List ℕ → List ℕ
either first one other numbers = filled (cond first (bytes one) (bytes other)) [] numbers
