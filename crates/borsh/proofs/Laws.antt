-- Every format is lawful: what is written of a good value reads back, and what is read writes back the same bytes. Formats made of formats
-- are lawful where those are; each law goes by what the parts read and leave. Assumes nothing.
use mathlib.Core.Path.{◌≡◌, refl, ap, sym, ◌∙◌}
use mathlib.Core.Bool.{Bool, true, false, cond}
use mathlib.Core.List.{List, [], ◌∷◌, ◌++◌, append_assoc}
use Prim.Native.Nat.{ℕ, zero, suc, ◌+◌, ◌^◌, ◌<◌, ◌≤◌}
use native.Mathlib.Omega.{arith}
use borrow.Author.Tests.{ltb-true, ltb-false, leb-true, lt-ltb, le-ltb, le-leb}
use lib.Dec.{ltb, leb}
use lib.ListN.{length, drop, length-append, take-append-drop}
use lib.Seq.{drop_at, get_or-drop}
use Rattle.lists.specs.Lists.{at}
use Rattle.rows.specs.Rows.{word, bytes, flag_byte, flag_of}
use Rattle.rows.proofs.Widths.{length-bytes, word_bytes, bytes_word, word_small}
use Rattle.rows.proofs.Flags.{flag-known}
use Rattle.std.specs.Prelude.{Option, Some, None}
use Rattle.refusal.specs.declared.Refusal.TheVariants.{EndsEarly, Field}
use Rattle.borsh.specs.Borsh.{Refused, refused, Read, next, Borsh, int, only, mapped, enum, bool, ◌then◌, option, write_option, write_all, read_all, array, vec}
use Rattle.std.specs.Prelude.{Ok, Err}

infixr 4 ◌and◌
-- ---- what a law says

-- every number is a byte
abbrev pub Bytes : List ℕ → Type 0
Bytes xs = (k : ℕ) → at xs k < 256

-- What is written of a good value reads back, with the bytes after it; what is read is good, and writes back the same bytes.
pub record Lawful {A : Type 0} (Good : A → Type 0) (f : Borsh A) : Type 0 where
  pub back : (v : A) → Good v → (rest : List ℕ) → f.read (f.write v ++ rest) ≡ Ok (v, rest)
  pub exact : (xs : List ℕ) → Bytes xs → (v : A) (rest : List ℕ) → f.read xs ≡ Ok (v, rest)
      → (xs ≡ f.write v ++ rest) × (Good v × Bytes rest)

-- what may be good: a number of n bytes, any value, two values
abbrev pub Wide : ℕ → ℕ → Type 0
Wide n v = v < 256 ^ n

abbrev pub Any : {A : Type 0} → A → Type 0
Any v = Unit

abbrev pub ◌and◌ : {A B : Type 0} → (A → Type 0) → (B → Type 0) → A × B → Type 0
(GoodA and GoodB) v = GoodA v.0 × GoodB v.1

-- ---- what is read, if anything is

data Reads {A : Type 0} (P : A → List ℕ → Type 0) : Read A → Type 0 where
  is-got : (v : A) (rest : List ℕ) → P v rest → Reads P (Ok (v, rest))
  is-refused : {r : Refused} → Reads P (Err r)

got-reads : {A : Type 0} {P : A → List ℕ → Type 0} {v : A} {rest : List ℕ} → Reads P (Ok (v, rest)) → P v rest
got-reads (is-got v rest p) = p

next-reads : {A B : Type 0} {P : A → List ℕ → Type 0} {Q : B → List ℕ → Type 0} {k : A → List ℕ → Read B} {r : Read A}
    → Reads P r → ((v : A) (rest : List ℕ) → P v rest → Reads Q (k v rest)) → Reads Q (next k r)
next-reads (is-got v rest p) g = g v rest p
next-reads is-refused g = is-refused

map-reads : {A : Type 0} {P Q : A → List ℕ → Type 0} {r : Read A} → Reads P r → ((v : A) (rest : List ℕ) → P v rest → Q v rest) → Reads Q r
map-reads (is-got v rest p) g = is-got v rest (g v rest p)
map-reads is-refused g = is-refused

-- a value that is good and writes back
abbrev Exact : {A : Type 0} → (A → Type 0) → (A → List ℕ) → List ℕ → A → List ℕ → Type 0
Exact Good write xs v rest = (xs ≡ write v ++ rest) × (Good v × Bytes rest)

reads : {A : Type 0} {Good : A → Type 0} {f : Borsh A} → Lawful Good f
    → (xs : List ℕ) → Bytes xs → Reads (Exact Good f.write xs) (f.read xs)
reads {A} {Good} {f} l xs b = by (f.read xs) refl
  where
    by : (r : Read A) → f.read xs ≡ r → Reads (Exact Good f.write xs) r
    by (Ok (v, rest)) e = is-got v rest (l.exact xs b v rest e)
    by (Err r) e = is-refused

lawful : {A : Type 0} {Good : A → Type 0} {f : Borsh A} → ((v : A) → Good v → (rest : List ℕ) → f.read (f.write v ++ rest) ≡ Ok (v, rest))
    → ((xs : List ℕ) → Bytes xs → Reads (Exact Good f.write xs) (f.read xs)) → Lawful Good f
lawful p q = record { back = p; exact = λ xs b v rest e. got-reads (rw e at (q xs b)) }

-- ---- single values

drop-bytes : (n : ℕ) (xs : List ℕ) → Bytes xs → Bytes (drop n xs)
drop-bytes n xs b k = rw (get_or-drop n xs k 0) (b (n + k))

pub int-lawful : (n : ℕ) → Lawful (Wide n) (int n)
unfolding int
int-lawful n = lawful back exact
  where
    back : (v : ℕ) → Wide n v → (rest : List ℕ) → (int n).read ((int n).write v ++ rest) ≡ Ok (v, rest)
    back v h rest =
        let l : n ≤ length (bytes n v ++ rest) = omega (arith, length-append (bytes n v) rest, length-bytes n v) in
        rw (le-ltb (length (bytes n v ++ rest)) n l, word_bytes n v rest h, drop_at (bytes n v) rest n (length-bytes n v))

    exact : (xs : List ℕ) → Bytes xs → Reads (Exact (Wide n) (bytes n) xs) ((int n).read xs)
    exact xs b = by (ltb (length xs) n) refl
      where
        by : (s : Bool) → ltb (length xs) n ≡ s → Reads (Exact (Wide n) (bytes n) xs) (cond s (Err (refused EndsEarly)) (Ok (word n xs 0, drop n xs)))
        by true e = is-refused
        by false e =
            let long : 0 + n ≤ length xs = omega (arith, ltb-false (length xs) n e) in
            is-got (word n xs 0) (drop n xs)
            (rw (bytes_word n xs 0 b long) (sym (take-append-drop n xs)), (word_small n xs 0 b, drop-bytes n xs b))

module _ {A : Type 0} {Good : A → Type 0} {f : Borsh A} (l : Lawful Good f) where
  -- a law with another name for what is good
  pub same-lawful : {Fine : A → Type 0} → ((v : A) → Fine v → Good v) → ((v : A) → Good v → Fine v) → Lawful Fine f
  same-lawful p q =
      record {
        back = λ v h rest. l.back v (p v h) rest;
        exact = λ xs b v rest e. let x = l.exact xs b v rest e in (x.0, (q v x.1.0, x.1.1));
      }

  pub only-lawful : (allowed : A → Bool) → Lawful (λ v. Good v × (allowed v ≡ true)) (only allowed f)
  unfolding only
  only-lawful allowed =
      lawful (λ v h rest. rw (l.back v h.0 rest, h.1))
      (λ xs b. next-reads (reads l xs b) λ v rest x. by xs v rest x (allowed v) refl)
    where
      by : (xs : List ℕ) (v : A) (rest : List ℕ) → Exact Good f.write xs v rest → (s : Bool) → allowed v ≡ s
          → Reads (Exact (λ v. Good v × (allowed v ≡ true)) f.write xs) (cond s (Ok (v, rest)) (Err (refused Field)))
      by xs v rest x true e = is-got v rest (x.0, ((x.1.0, e), x.1.1))
      by xs v rest x false e = is-refused

  -- Fine: what is good of the other type
  pub mapped-lawful : {B : Type 0} (Fine : B → Type 0) (to : A → B) (from : B → A) → ((w : B) → Fine w → Good (from w) × (to (from w) ≡ w))
      → ((v : A) → Good v → Fine (to v) × (from (to v) ≡ v)) → Lawful Fine (mapped to from f)
  unfolding mapped
  mapped-lawful Fine to from p q =
      lawful (λ w h rest. let x = p w h in rw (l.back (from w) x.0 rest, x.1))
      (λ xs b. next-reads (reads l xs b) λ v rest x.
      let y = q v x.1.0 in is-got (to v) rest (x.0 ∙ ap (λ (t : A). f.write t ++ rest) (sym y.1), (y.0, x.1.1)))

pub enum_lawful : {A : Type 0} (n : ℕ) (number : A → ℕ) (case : ℕ → A) → n ≤ 256 → ((v : A) → (number v < n) × (case (number v) ≡ v))
    → ((b : ℕ) → b < n → number (case b) ≡ b) → Lawful Any (enum n number case)
unfolding enum
enum_lawful n number case h p q =
    mapped-lawful (only-lawful (int-lawful 1) (λ b. ltb b n)) Any case number
    (λ v u. let x = p v in ((omega (arith, x.0), lt-ltb (number v) n x.0), x.1))
    (λ b g. (tt, q b (ltb-true b n g.1)))

pub bool_lawful : Lawful Any bool
unfolding bool
bool_lawful = enum_lawful 2 flag_byte flag_of (omega arith) number (λ b h. flag-known b (le-leb b 1 (omega arith)))
  where
    number : (v : Bool) → (flag_byte v < 2) × (flag_of (flag_byte v) ≡ v)
    number true = (omega arith, refl)
    number false = (omega arith, refl)

-- ---- values made of values

-- one part written after the other
joined : {xs rest : List ℕ} (a b end : List ℕ) → xs ≡ a ++ rest → rest ≡ b ++ end → xs ≡ a ++ b ++ end
joined a b end p q = p ∙ ap (λ (t : List ℕ). a ++ t) q ∙ sym (append_assoc a b end)

pub then-lawful : {A B : Type 0} {GoodA : A → Type 0} {GoodB : B → Type 0} {f : Borsh A} {g : Borsh B} → Lawful GoodA f → Lawful GoodB g
    → Lawful (GoodA and GoodB) (f then g)
unfolding ◌then◌
then-lawful {f} {g} l m =
    lawful
    (λ v h rest.
    let more = g.write v.1 in
    rw (append_assoc (f.write v.0) more rest, l.back v.0 h.0 (more ++ rest), m.back v.1 h.1 rest))
    (λ xs b. next-reads (reads l xs b) λ v rest x. next-reads (reads m rest x.1.1) λ w end y.
    is-got (v, w) end (joined (f.write v) (g.write w) end x.0 y.0, ((x.1.0, y.1.0), y.1.1)))

-- what is good of an option is what is good of its value
abbrev pub GoodOption : {A : Type 0} → (A → Type 0) → Option A → Type 0
GoodOption Good None = Unit
GoodOption Good (Some v) = Good v

pub option-lawful : {A : Type 0} {Good : A → Type 0} {f : Borsh A} → Lawful Good f → Lawful (GoodOption Good) (option f)
unfolding option
option-lawful {A} {Good} {f} l = lawful back (λ xs b. next-reads (reads bool_lawful xs b) (exact xs))
  where
    back : (v : Option A) → GoodOption Good v → (rest : List ℕ) → (option f).read ((option f).write v ++ rest) ≡ Ok (v, rest)
    back None h rest = rw (bool_lawful.back false tt rest)
    back (Some v) h rest =
        rw (append_assoc (bool.write true) (f.write v) rest, bool_lawful.back true tt (f.write v ++ rest), l.back v h rest)

    exact : (xs : List ℕ) (s : Bool) (rest : List ℕ) → Exact Any bool.write xs s rest
        → Reads (Exact (GoodOption Good) (write_option f.write) xs)
        (cond s (next (λ v end. Ok (Some v, end)) (f.read rest)) (Ok (None, rest)))
    exact xs false rest x = is-got None rest (x.0, (tt, x.1.1))
    exact xs true rest x = next-reads (reads l rest x.1.1) λ v end y.
        is-got (Some v) end (joined (bool.write true) (f.write v) end x.0 y.0, (y.1.0, y.1.1))

-- each value is good after those before it, the last of them first
abbrev pub Each : {A : Type 0} → (List A → A → Type 0) → List A → List A → Type 0
Each Good before [] = Unit
Each Good before (v ∷ vs) = Good before v × Each Good (v ∷ before) vs

module _ {A : Type 0} (Good : List A → A → Type 0) (f : List A → Borsh A) (l : (before : List A) → Lawful (Good before) (f before))
    (same : (before : List A) (v : A) → (f before).write v ≡ (f []).write v) where
  all_back : (before vs : List A) → Each Good before vs → (rest : List ℕ)
      → read_all (λ before. (f before).read) (length vs) before (write_all (f []).write vs ++ rest) ≡ Ok (vs, rest)
  unfolding read_all write_all
  all_back before [] h rest = refl
  all_back before (v ∷ vs) h rest =
      let more = write_all (f []).write vs in
      rw (
        append_assoc ((f []).write v) more rest,
        ← (same before v),
        (l before).back v h.0 (more ++ rest),
        all_back (v ∷ before) vs h.1 rest,
      )

  all-reads : (n : ℕ) (before : List A) (xs : List ℕ) → Bytes xs
      → Reads (Exact (λ vs. (length vs ≡ n) × Each Good before vs) (write_all (f []).write) xs)
      (read_all (λ before. (f before).read) n before xs)
  unfolding read_all write_all
  all-reads zero before xs b = is-got [] xs (refl, ((refl, tt), b))
  all-reads (suc n) before xs b = next-reads (reads (l before) xs b) λ v rest x.
      next-reads (all-reads n (v ∷ before) rest x.1.1) λ vs end y.
      let e = joined ((f []).write v) (write_all (f []).write vs) end (rw (same before v) at x.0) y.0 in
      is-got (v ∷ vs) end (e, ((ap suc y.1.0.0, (x.1.0, y.1.0.1)), y.1.1))

  pub vec-lawful : (most : ℕ) → most < 2 ^ 32 → Lawful (λ vs. (length vs ≤ most) × Each Good [] vs) (vec most f)
  unfolding vec only
  vec-lawful most small = lawful back (λ xs b. next-reads (reads count xs b) (exact xs))
    where
      count : Lawful (λ n. Wide 4 n × (leb n most ≡ true)) (only (λ n. leb n most) (int 4))
      count = only-lawful (int-lawful 4) (λ n. leb n most)

      back : (vs : List A) → (length vs ≤ most) × Each Good [] vs → (rest : List ℕ)
          → (vec most f).read ((vec most f).write vs ++ rest) ≡ Ok (vs, rest)
      back vs h rest =
          let more = write_all (f []).write vs in
          rw (
            append_assoc ((int 4).write (length vs)) more rest,
            count.back (length vs) (omega (arith, h.0), le-leb (length vs) most h.0) (more ++ rest),
            all_back [] vs h.1 rest,
          )

      exact : (xs : List ℕ) (n : ℕ) (rest : List ℕ) → Exact (λ n. Wide 4 n × (leb n most ≡ true)) (int 4).write xs n rest
          → Reads (Exact (λ vs. (length vs ≤ most) × Each Good [] vs) (vec most f).write xs) (read_all (λ before. (f before).read) n [] rest)
      exact xs n rest x = map-reads (all-reads n [] rest x.1.1) λ vs end y.
          let n-is = y.1.0.0 in
          let e = joined ((int 4).write (length vs)) (write_all (f []).write vs) end (rw (← n-is) at x.0) y.0 in
          (e, ((rw n-is (leb-true n most x.1.0.1), y.1.0.1), y.1.1))

pub array_lawful : {A : Type 0} {Good : A → Type 0} {f : Borsh A} (n : ℕ) → Lawful Good f
    → Lawful (λ vs. (length vs ≡ n) × Each (λ before. Good) [] vs) (array n f)
unfolding array
array_lawful {Good} {f} n l =
    lawful (λ vs h rest. rw (← h.0) (all_back (λ before. Good) (λ before. f) (λ before. l) (λ before v. refl) [] vs h.1 rest))
    (all-reads (λ before. Good) (λ before. f) (λ before. l) (λ before v. refl) n [])

-- ---- arrays of numbers, by place

module _ (Good : ℕ → Type 0) (zero-good : Good 0) where
  each_at : (before vs : List ℕ) → Each (λ before. Good) before vs → (k : ℕ) → Good (at vs k)
  each_at before [] h k = zero-good
  each_at before (v ∷ vs) h zero = h.0
  each_at before (v ∷ vs) h (suc k) = each_at (v ∷ before) vs h.1 k

  at_each : (before vs : List ℕ) → ((k : ℕ) → Good (at vs k)) → Each (λ before. Good) before vs
  at_each before [] h = tt
  at_each before (v ∷ vs) h = (h 0, at_each (v ∷ before) vs (λ k. h (suc k)))

  pub numbers-lawful : {f : Borsh ℕ} (n : ℕ) → Lawful Good f → Lawful (λ vs. (length vs ≡ n) × ((k : ℕ) → Good (at vs k))) (array n f)
  numbers-lawful n l = same-lawful (array_lawful n l) (λ vs h. (h.0, at_each [] vs h.1)) (λ vs h. (h.0, each_at [] vs h.1))
