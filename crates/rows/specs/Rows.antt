-- Numbers in bytes, the low byte first; rows of numbers of one width; and lists of rows, one after the other, by the list of their fields.
-- Records are made of these.
-- Assumes nothing.
use Rattle.std.specs.Prelude.{ℕ, zero, suc, ◌+◌, ◌*◌, ◌/◌, ◌%◌, ◌^◌, ◌<◌, ◌≡◌, List, [], ◌∷◌, ◌++◌, Bool, true, false, get_or, length, leb, eqb}
use Rattle.lists.specs.Lists.{at}

-- ---- numbers as bytes

-- the number of n bytes from a place, the low byte first
unfoldable pub word : ℕ → List ℕ → ℕ → ℕ
word zero xs place = 0
word (suc n) xs place = at xs place + 256 * word n xs (suc place)

-- the n low bytes of a number, the lowest first
unfoldable pub bytes : ℕ → ℕ → List ℕ
bytes zero v = []
bytes (suc n) v = v % 256 ∷ bytes n (v / 256)

-- a flag is 1 or 0
abbrev pub flag_byte : Bool → ℕ
flag_byte true = 1
flag_byte false = 0

abbrev pub flag_of : ℕ → Bool
flag_of b = eqb b 1

-- a byte that is a flag
abbrev pub flag_known : ℕ → Bool
flag_known b = leb b 1

-- ---- rows

-- a row of n numbers of w bytes each, from a place
unfoldable pub row : ℕ → ℕ → ℕ → List ℕ → List ℕ
row zero w place xs = []
row (suc n) w place xs = word w xs place ∷ row n w (place + w) xs

-- the bytes of a row
unfoldable pub row_bytes : ℕ → List ℕ → List ℕ
row_bytes w [] = []
row_bytes w (v ∷ vs) = bytes w v ++ row_bytes w vs

-- n numbers of w bytes each
pub record RowFits (n w : ℕ) (xs : List ℕ) : Type 0 where
  pub long : length xs ≡ n
  pub small : (k : ℕ) → at xs k < 256 ^ w

-- ---- rows one after the other

-- a field of a record: so many numbers, of so many bytes each
pub record Field : Type 0 where
  pub count : ℕ
  pub width : ℕ

abbrev pub Fills : Field → List ℕ → Type 0
Fills f xs = RowFits f.count f.width xs

-- the bytes of a list of fields
abbrev pub size : List Field → ℕ
size [] = 0
size (f ∷ fs) = f.count * f.width + size fs

-- the rows of a list of fields, from a place on
abbrev pub unpacked : List Field → ℕ → List ℕ → List (List ℕ)
unpacked [] place xs = []
unpacked (f ∷ fs) place xs = row f.count f.width place xs ∷ unpacked fs (place + f.count * f.width) xs

-- their bytes
abbrev pub packed : List Field → List (List ℕ) → List ℕ
packed [] rows = []
packed (f ∷ fs) [] = []
packed (f ∷ fs) (vs ∷ rows) = row_bytes f.width vs ++ packed fs rows

-- the row at a place of a list of rows
abbrev pub part : List (List ℕ) → ℕ → List ℕ
part rows k = get_or rows k []

-- the field k of a list, where its row begins, and that row
abbrev pub field : List Field → ℕ → Field
field fs k = get_or fs k (record { count = 0; width = 0 })

abbrev pub begins : List Field → ℕ → ℕ
begins fs zero = 0
begins [] (suc k) = 0
begins (f ∷ fs) (suc k) = f.count * f.width + begins fs k

abbrev pub row_in : List Field → ℕ → List ℕ → List ℕ
row_in fs k xs = row (field fs k).count (field fs k).width (begins fs k) xs
