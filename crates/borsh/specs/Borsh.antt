-- The formats of the Borsh specification that the snapshot is made of: how a value is written as bytes, and how it is read. Integers are
-- little-endian; a bool is a byte 0 or 1; an enum is its discriminant's byte; an option is a byte 0, or a byte 1 and its value; a fixed
-- array is its values; a vec is its count in four bytes and its values; a struct is its fields in order.
-- Assumes nothing.
use Rattle.std.specs.Prelude.{ℕ, zero, suc, List, [], ◌∷◌, ◌++◌, Bool, true, false, cond, length, drop, ltb, leb, Option, Some, None, Result, Ok, Err}
use Rattle.refusal.specs.declared.Refusal.{Refusal}
use Rattle.refusal.specs.declared.Refusal.TheVariants.{EndsEarly, Field}
use Rattle.refusal.specs.Refusal.{number}
use Rattle.rows.specs.Rows.{word, bytes, flag_byte, flag_of}

infixr 4 ◌then◌
-- ---- formats

-- Why reading is refused.
pub record Refused : Type 0 where
  pub number : ℕ

abbrev pub refused : Refusal → Refused
refused r = record { number = number r }

-- What reading gives: a value and the bytes after it, or a refusal.
abbrev pub Read : Type 0 → Type 0
Read A = Result (A × List ℕ) Refused

-- Reading goes on with the bytes after a value.
abbrev pub next : {A B : Type 0} → (A → List ℕ → Read B) → Read A → Read B
next f (Ok (v, rest)) = f v rest
next f (Err r) = Err r

pub record Borsh (A : Type 0) : Type 0 where
  pub write : A → List ℕ
  pub read : List ℕ → Read A

-- ---- single values

-- An integer of n bytes. 9: the bytes end early.
unfoldable pub int : ℕ → Borsh ℕ
int n = record { write = bytes n; read = λ xs. cond (ltb (length xs) n) (Err (refused EndsEarly)) (Ok (word n xs 0, drop n xs)) }

-- Not every value is allowed. 10: this one is not.
unfoldable pub only : {A : Type 0} → (A → Bool) → Borsh A → Borsh A
only allowed f =
    record { write = f.write; read = λ xs. next (λ v rest. cond (allowed v) (Ok (v, rest)) (Err (refused Field))) (f.read xs) }

-- the values of another type
unfoldable pub mapped : {A B : Type 0} → (A → B) → (B → A) → Borsh A → Borsh B
mapped to from f = record { write = λ v. f.write (from v); read = λ xs. next (λ v rest. Ok (to v, rest)) (f.read xs) }

-- an enum of n cases, by the numbers of its cases
unfoldable pub enum : {A : Type 0} → ℕ → (A → ℕ) → (ℕ → A) → Borsh A
enum n number case = mapped case number (only (λ b. ltb b n) (int 1))

unfoldable pub bool : Borsh Bool
bool = enum 2 flag_byte flag_of

-- ---- values made of values

-- fields in order
unfoldable pub ◌then◌ : {A B : Type 0} → Borsh A → Borsh B → Borsh (A × B)
f then g =
    record {
      write = λ v. f.write v.0 ++ g.write v.1;
      read = λ xs. next (λ a rest. next (λ b end. Ok ((a, b), end)) (g.read rest)) (f.read xs);
    }

abbrev pub write_option : {A : Type 0} → (A → List ℕ) → Option A → List ℕ
write_option w None = bool.write false
write_option w (Some v) = bool.write true ++ w v

unfoldable pub option : {A : Type 0} → Borsh A → Borsh (Option A)
option f =
    record {
      write = write_option f.write;
      read = λ xs. next (λ b rest. cond b (next (λ v end. Ok (Some v, end)) (f.read rest)) (Ok (None, rest))) (bool.read xs);
    }

-- values one after the other
unfoldable pub write_all : {A : Type 0} → (A → List ℕ) → List A → List ℕ
write_all w [] = []
write_all w (v ∷ vs) = w v ++ write_all w vs

-- n of them; how a value is read may depend on those before it, the last of them first
unfoldable pub read_all : {A : Type 0} → (List A → List ℕ → Read A) → ℕ → List A → List ℕ → Read (List A)
read_all r zero before xs = Ok ([], xs)
read_all r (suc n) before xs = next (λ v rest. next (λ vs end. Ok (v ∷ vs, end)) (read_all r n (v ∷ before) rest)) (r before xs)

unfoldable pub array : {A : Type 0} → ℕ → Borsh A → Borsh (List A)
array n f = record { write = write_all f.write; read = read_all (λ before. f.read) n [] }

-- A vec of at most so many values. What a value may be can depend on those before it; how it is written can't.
unfoldable pub vec : {A : Type 0} → ℕ → (List A → Borsh A) → Borsh (List A)
vec most f =
    record {
      write = λ vs. (int 4).write (length vs) ++ write_all (f []).write vs;
      read = λ xs. next (λ n rest. read_all (λ before. (f before).read) n [] rest) ((only (λ n. leb n most) (int 4)).read xs);
    }
