-- Event words: the byte events of a change, applied, give the array after it; and which events among a call's are byte events and which
-- are ends. A list of words of one sort is told once, by `Sort`, and each law of it holds of changes or of ends. Assumes nothing.
use mathlib.Core.Path.{◌≡◌, refl, sym, ap, ◌∙◌}
use mathlib.Core.Bool.{Bool, true, false, cond}
use mathlib.Core.List.{List, [], ◌∷◌, ◌++◌}
use Prim.Native.Nat.{ℕ, suc, ◌+◌, ◌*◌, ◌^◌, ◌<◌, ◌≤◌}
use native.Mathlib.Nat.{suc_inj}
use native.Mathlib.Omega.{arith}
use borrow.Author.Tests.{eqb-true, eq-eqb}
use lib.Dec.{eqb}
use lib.ListN.{length, set}
use Rattle.std.specs.Prelude.{Option, Some, None}
use Rattle.time.specs.declared.Time.{Time}
use Rattle.lists.specs.Lists.{at}
use Rattle.registers.specs.declared.Registers.{Registers}
use Rattle.registers.specs.declared.Pulse.{Pulse}
use Rattle.registers.specs.declared.Call.{Call}
use Rattle.registers.specs.declared.Ending.{Ending}
use Rattle.registers.specs.declared.Ending.TheVariants.{Completed, Interrupted}
use Rattle.registers.specs.Calls.{next, ending, ending_number}
use Rattle.registers.specs.Pulses.{pulse}
use Rattle.settle.specs.Settling.{word, change, changes, range_end, same_pulse, end_of, ended, end_words}
use Rattle.settle.specs.Words.{is_byte}
use Rattle.settle.proofs.Words.{word-kind, word_address, word_value}
use Rattle.ledger.specs.Words.{applied, bytes_in, ends_in}

-- ---- the parts of a word

byte_word : (a v : ℕ) → a < 2 ^ 16 → v < 2 ^ 16 → is_byte (word 1 a v) ≡ true
byte_word a v h k = eq-eqb _ 1 (word-kind 1 a v h k)

-- ---- lists of words, one after the other

pub applied-append : (xs ys array : List ℕ) → applied (xs ++ ys) array ≡ applied ys (applied xs array)
unfolding applied
applied-append [] ys array = refl
applied-append (w ∷ xs) ys array = applied-append xs ys _

pub ends-append : (xs ys : List ℕ) → ends_in (xs ++ ys) ≡ ends_in xs ++ ends_in ys
unfolding ends_in
ends-append [] ys = refl
ends-append (w ∷ xs) ys = go (ends-append xs ys) (is_byte w)
  where
    go : ends_in (xs ++ ys) ≡ ends_in xs ++ ends_in ys → (b : Bool)
        → cond b (ends_in (xs ++ ys)) (w ∷ ends_in (xs ++ ys)) ≡ cond b (ends_in xs) (w ∷ ends_in xs) ++ ends_in ys
    go ih true = ih
    go ih false = ap (λ (r : List ℕ). w ∷ r) ih

pub bytes-append : (xs ys : List ℕ) → bytes_in (xs ++ ys) ≡ bytes_in xs ++ bytes_in ys
unfolding bytes_in
bytes-append [] ys = refl
bytes-append (w ∷ xs) ys = go (bytes-append xs ys) (is_byte w)
  where
    go : bytes_in (xs ++ ys) ≡ bytes_in xs ++ bytes_in ys → (b : Bool)
        → cond b (w ∷ bytes_in (xs ++ ys)) (bytes_in (xs ++ ys)) ≡ cond b (w ∷ bytes_in xs) (bytes_in xs) ++ bytes_in ys
    go ih true = ap (λ (r : List ℕ). w ∷ r) ih
    go ih false = ih

-- ---- words of one sort: all byte events, or none

data Sort (b : Bool) : List ℕ → Type 0 where
  none : Sort b []
  more : {w : ℕ} {ws : List ℕ} → is_byte w ≡ b → Sort b ws → Sort b (w ∷ ws)

ends-of-bytes : (ws : List ℕ) → Sort true ws → ends_in ws ≡ []
unfolding ends_in
ends-of-bytes [] none = refl
ends-of-bytes (w ∷ ws) (more e s) = rw e (ends-of-bytes ws s)

bytes-of-bytes : (ws : List ℕ) → Sort true ws → bytes_in ws ≡ ws
unfolding bytes_in
bytes-of-bytes [] none = refl
bytes-of-bytes (w ∷ ws) (more e s) = rw e (ap (λ (r : List ℕ). w ∷ r) (bytes-of-bytes ws s))

applied-of-ends : (ws array : List ℕ) → Sort false ws → applied ws array ≡ array
unfolding applied
applied-of-ends [] array none = refl
applied-of-ends (w ∷ ws) array (more e s) = rw e (applied-of-ends ws array s)

ends-of-ends : (ws : List ℕ) → Sort false ws → ends_in ws ≡ ws
unfolding ends_in
ends-of-ends [] none = refl
ends-of-ends (w ∷ ws) (more e s) = rw e (ap (λ (r : List ℕ). w ∷ r) (ends-of-ends ws s))

bytes-of-ends : (ws : List ℕ) → Sort false ws → bytes_in ws ≡ []
unfolding bytes_in
bytes-of-ends [] none = refl
bytes-of-ends (w ∷ ws) (more e s) = rw e (bytes-of-ends ws s)

-- ---- changed bytes

changes-sort : (a : ℕ) (xs ys : List ℕ) → a + length xs ≤ 2 ^ 16 → ((k : ℕ) → at ys k < 2 ^ 16) → Sort true (changes a xs ys)
unfolding changes
changes-sort a [] ys h small = none
changes-sort a (x ∷ xs) [] h small = none
changes-sort a (x ∷ xs) (y ∷ ys) h small = go (changes-sort (suc a) xs ys (omega arith) (λ k. small (suc k))) (eqb x y)
  where
    go : Sort true (changes (suc a) xs ys) → (b : Bool) → Sort true (change b a y ++ changes (suc a) xs ys)
    go ih true = ih
    go ih false = more (byte_word a y (omega arith) (small 0)) ih

module _ (a : ℕ) (xs ys : List ℕ) (h : a + length xs ≤ 2 ^ 16) (small : (k : ℕ) → at ys k < 2 ^ 16) where
  pub ends-changes : ends_in (changes a xs ys) ≡ []
  ends-changes = ends-of-bytes _ (changes-sort a xs ys h small)

  pub bytes-changes : bytes_in (changes a xs ys) ≡ changes a xs ys
  bytes-changes = bytes-of-bytes _ (changes-sort a xs ys h small)

applied-byte : (a v : ℕ) (ws array : List ℕ) → a < 2 ^ 16 → v < 2 ^ 16 → applied (word 1 a v ∷ ws) array ≡ applied ws (set array a v)
unfolding applied
applied-byte a v ws array h k = rw (byte_word a v h k, word_address 1 a v h k, word_value 1 a v h k)

-- events one address further on leave the head alone
changes-past : (a : ℕ) (xs ys : List ℕ) (z : ℕ) (array : List ℕ) → suc a + length xs ≤ 2 ^ 16 → ((k : ℕ) → at ys k < 2 ^ 16)
    → applied (changes (suc a) xs ys) (z ∷ array) ≡ z ∷ applied (changes a xs ys) array
unfolding applied changes
changes-past a [] ys z array h small = refl
changes-past a (x ∷ xs) [] z array h small = refl
changes-past a (x ∷ xs) (y ∷ ys) z array h small =
    go (λ l. changes-past (suc a) xs ys z l (omega arith) (λ k. small (suc k))) (eqb x y)
  where
    go : ((l : List ℕ) → applied (changes (suc (suc a)) xs ys) (z ∷ l) ≡ z ∷ applied (changes (suc a) xs ys) l) → (b : Bool)
        → applied (change b (suc a) y ++ changes (suc (suc a)) xs ys) (z ∷ array) ≡ z ∷ applied (change b a y ++ changes (suc a) xs ys) array
    go ih true = ih array
    go ih false =
        applied-byte (suc a) y (changes (suc (suc a)) xs ys) (z ∷ array) (omega arith) (small 0)
        ∙ ih (set array a y)
        ∙ ap (λ (r : List ℕ). z ∷ r) (sym (applied-byte a y (changes (suc a) xs ys) array (omega arith) (small 0)))

pub changes-applied : (xs ys : List ℕ) → length xs ≡ length ys → length xs ≤ 2 ^ 16 → ((k : ℕ) → at ys k < 2 ^ 16)
    → applied (changes 0 xs ys) xs ≡ ys
unfolding applied changes
changes-applied [] [] h l small = refl
changes-applied [] (y ∷ ys) h l small = absurd (omega arith)
changes-applied (x ∷ xs) [] h l small = absurd (omega arith)
changes-applied (x ∷ xs) (y ∷ ys) h l small =
    go (changes-applied xs ys (suc_inj h) (omega arith) (λ k. small (suc k))) (eqb x y) refl
  where
    past : (z : ℕ) → applied (changes 1 xs ys) (z ∷ xs) ≡ z ∷ applied (changes 0 xs ys) xs
    past z = changes-past 0 xs ys z xs (omega arith) (λ k. small (suc k))

    go : applied (changes 0 xs ys) xs ≡ ys → (b : Bool) → eqb x y ≡ b → applied (change b 0 y ++ changes 1 xs ys) (x ∷ xs) ≡ y ∷ ys
    go ih true e = past x ∙ rw (ih, eqb-true x y e)
    go ih false e = applied-byte 0 y (changes 1 xs ys) (x ∷ xs) (omega arith) (small 0) ∙ past y ∙ rw ih

-- ---- the end of a pulse

end-word : (e : Ending) (a v : ℕ) → a < 2 ^ 16 → v < 2 ^ 16 → is_byte (word (ending_number e) a v) ≡ false
end-word Completed a v h k = rw (word-kind 2 a v h k)
end-word Interrupted a v h k = rw (word-kind 3 a v h k)

end-sort : (e : Ending) (p : Pulse) → p.first + p.pages ≤ 384 → Sort false (end_of (ending_number e) p)
unfolding end_of
end-sort e p h = go (eqb p.pages 0)
  where
    go : (b : Bool) → Sort false (cond b [] (word (ending_number e) (p.first * 128) (p.pages * 128) ∷ []))
    go true = none
    go false = more (end-word e (p.first * 128) (p.pages * 128) (omega arith) (omega arith)) none

ended-sort : (c : Call) (control : ℕ) (o : Option Pulse) → range_end o ≤ 384 → Sort false (ended c control o)
unfolding ended
ended-sort c control None h = none
ended-sort c control (Some p) h = end-sort (ending p.direction c control) p h

module _ (c : Call) (now : Time) (r : Registers) (inside : range_end (pulse r) ≤ 384) where
  end_words-sort : Sort false (end_words c now r)
  unfolding end_words
  end_words-sort = go (same_pulse (pulse r) (pulse (next c now r)))
    where
      go : (b : Bool) → Sort false (cond b [] (ended c (next c now r).control (pulse r)))
      go true = none
      go false = ended-sort c (next c now r).control (pulse r) inside

  pub applied-end_words : (array : List ℕ) → applied (end_words c now r) array ≡ array
  applied-end_words array = applied-of-ends _ array end_words-sort

  pub ends-end_words : ends_in (end_words c now r) ≡ end_words c now r
  ends-end_words = ends-of-ends _ end_words-sort

  pub bytes-end_words : bytes_in (end_words c now r) ≡ []
  bytes-end_words = bytes-of-ends _ end_words-sort
