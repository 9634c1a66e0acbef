-- The charge store with one slot updated by a rule: its length, its elements in the slot and outside it. Assumes nothing.
use mathlib.Core.Path.{◌≡◌, sym, ◌∙◌}
use mathlib.Core.List.{List}
use Prim.Native.Nat.{ℕ, ◌+◌, ◌*◌, ◌/◌, ◌%◌, ◌<◌}
use native.Mathlib.Omega.{arith}
use native.Mathlib.Decide.{dec_lt}
use borrow.Author.Tests.{eq-eqb, ne_eqb}
use lib.ListN.{length, get_or, get_or-eq_default}
use Rattle.lists.proofs.Maps.{length-mapi, get_or-mapi}
use Rattle.cell.specs.Cell.{on_slot}

pub length-on_slot : (s : ℕ) (f : ℕ → ℕ → ℕ) (qs : List ℕ) → length (on_slot s f qs) ≡ length qs
unfolding on_slot
length-on_slot s f qs = length-mapi _ 0 qs

pub get_or-on_slot-inside : (s : ℕ) (f : ℕ → ℕ → ℕ) (qs : List ℕ) (j : ℕ) → j < 1024 → s * 1024 + j < length qs
    → get_or (on_slot s f qs) (s * 1024 + j) 0 ≡ f j (get_or qs (s * 1024 + j) 0)
unfolding on_slot
get_or-on_slot-inside s f qs j h l =
    let d : (s * 1024 + j) / 1024 ≡ s = omega arith in
    let m : (s * 1024 + j) % 1024 ≡ j = omega arith in
    get_or-mapi _ qs (s * 1024 + j) l ∙ rw (eq-eqb _ s d, m)

pub get_or-on_slot-outside : (s : ℕ) (f : ℕ → ℕ → ℕ) (qs : List ℕ) (i : ℕ) → (i / 1024 ≡ s → ⊥)
    → get_or (on_slot s f qs) i 0 ≡ get_or qs i 0
unfolding on_slot
get_or-on_slot-outside s f qs i n = at (dec_lt i (length qs))
  where
    at : Dec (i < length qs) → get_or (on_slot s f qs) i 0 ≡ get_or qs i 0
    at (yes h) = get_or-mapi _ qs i h ∙ rw (ne_eqb _ s n)
    at (no h) =
        get_or-eq_default (on_slot s f qs) 0 (rw (length-on_slot s f qs) (omega arith))
        ∙ sym (get_or-eq_default qs 0 (omega arith))
