-- How many bytes a format writes of a value: by what it is made of. Assumes nothing.
use mathlib.Core.Path.{◌≡◌, ◌∙◌}
use mathlib.Core.Bool.{Bool}
use mathlib.Core.List.{List, [], ◌∷◌}
use Prim.Native.Nat.{ℕ, ◌+◌, ◌*◌}
use native.Mathlib.Nat.{suc-mul}
use native.Mathlib.Omega.{arith}
use lib.ListN.{length, length-append}
use Rattle.rows.proofs.Widths.{length-bytes}
use Rattle.borsh.specs.Borsh.{Borsh, int, only, mapped, enum, bool, ◌then◌, write_all, array}

pub length-int : (n v : ℕ) → length ((int n).write v) ≡ n
unfolding int
length-int = length-bytes

pub length-enum : {A : Type 0} (n : ℕ) (number : A → ℕ) (case : ℕ → A) (v : A) → length ((enum n number case).write v) ≡ 1
unfolding enum mapped only
length-enum n number case v = length-int 1 (number v)

pub length-bool : (v : Bool) → length (bool.write v) ≡ 1
unfolding bool
length-bool = length-enum 2 _ _

pub length-then : {A B : Type 0} (f : Borsh A) (g : Borsh B) (v : A × B)
    → length ((f then g).write v) ≡ length (f.write v.0) + length (g.write v.1)
unfolding ◌then◌
length-then f g v = length-append (f.write v.0) (g.write v.1)

-- n bytes a value
length-all : {A : Type 0} (w : A → List ℕ) (n : ℕ) → ((v : A) → length (w v) ≡ n) → (vs : List A) → length (write_all w vs) ≡ length vs * n
unfolding write_all
length-all w n h [] = omega arith
length-all w n h (v ∷ vs) = length-append (w v) (write_all w vs) ∙ rw (h v, length-all w n h vs, suc-mul (length vs) n) (omega arith)

pub length-array : {A : Type 0} (most : ℕ) (f : Borsh A) (n : ℕ) → ((v : A) → length (f.write v) ≡ n) → (vs : List A)
    → length ((array most f).write vs) ≡ length vs * n
unfolding array
length-array most f = length-all f.write
