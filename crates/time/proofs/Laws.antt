-- Laws of instants and lengths of time that the proofs here and in later crates cite: each number and its two halves, the
-- order, and the sum. `omega` stops at numbers of more than 38 digits, which 2 ^ 64 times 2 ^ 64 has, so what two halves
-- make is shown over any base w, whose products `omega` takes as unknowns. Assumes nothing.
use mathlib.Core.Path.{◌≡◌, refl, sym, ap, ◌∙◌}
use mathlib.Core.Bool.{Bool, true, false, not, ◌&&◌, ◌||◌, cond}
use Prim.Native.Nat.{ℕ, suc, ◌+◌, ◌-◌, ◌*◌, ◌^◌, ◌<◌, ◌≤◌, ◌/◌, ◌%◌, max}
use native.Mathlib.Nat.{add-mul, add-mul-div_right, add-sub_cancel_left, mul-le-mul_right, suc-mul, le_of_lt, max-eq_left, max-eq_right, sub-eq-zero_of_le}
use native.Mathlib.Omega.{arith}
use lib.Arith.{digits_lt}
use lib.Pow.{high, low, split}
use lib.Dec.{ltb, leb, eqb, lit<}
use borrow.Author.Tests.{ltb-true, ltb-false, eqb-true, eqb-false, lt-ltb, le-ltb, le-leb, lt-leb, eq-eqb, ne_eqb}
use Rattle.time.specs.Raw.{raw, span, instant, duration, micros, later, plus, added, after, since}
use Rattle.time.specs.declared.Time.{Time}
use Rattle.time.specs.declared.Duration.{Duration}
use Rattle.std.specs.Prelude.{Some, None}
use Rattle.std.proofs.Common.{Ordering, Less, Equal, Greater}
use Rattle.std.specs.Ordering.{is_lt, is_ge, ordering_then, nat_cmp}

-- two halves over any base
module _ (w a b c d : ℕ) where
  upper_lt : a < c → b < w → a * w + b < c * w + d
  upper_lt h k = let m : suc a * w ≤ c * w = mul-le-mul_right w h in omega (arith, suc-mul a w)

  lower-lt : a ≡ c → b < d → a * w + b < c * w + d
  lower-lt e h = rw e (omega arith)

  lower-le : a ≡ c → d ≤ b → c * w + d ≤ a * w + b
  lower-le e h = rw e (omega arith)

-- the order of two numbers is that of the upper halves, and of the lower ones where those are equal
halves-ltb : (w a b c d : ℕ) → b < w → d < w → (ltb a c || (eqb a c && ltb b d)) ≡ ltb (a * w + b) (c * w + d)
halves-ltb w a b c d h k = by (ltb a c) (eqb a c) (ltb b d) refl refl refl
  where
    by : (p q r : Bool) → ltb a c ≡ p → eqb a c ≡ q → ltb b d ≡ r → (p || (q && r)) ≡ ltb (a * w + b) (c * w + d)
    by true q r l e f = sym (lt-ltb _ _ (upper_lt w a b c d (ltb-true _ _ l) h))
    by false true true l e f = sym (lt-ltb _ _ (lower-lt w a b c d (eqb-true _ _ e) (ltb-true _ _ f)))
    by false true false l e f = sym (le-ltb _ _ (lower-le w a b c d (eqb-true _ _ e) (ltb-false _ _ f)))
    by false false r l e f = sym (le-ltb _ _ (le_of_lt (upper_lt w c d a b (omega (arith, ltb-false a c l, eqb-false a c e)) k)))

-- a sum by halves, where k, 0 or 1, is carried
halves-sum : (w a b c d x y k : ℕ) → x ≡ a + c + k → y + k * w ≡ b + d → x * w + y ≡ a * w + b + (c * w + d)
halves-sum w a b c d x y k e f = rw e (omega (arith, add-mul (a + c) k w, add-mul a c w))

-- the sum is too large where its upper half is
halves-over : (w a b c d k : ℕ) → w ≤ a + c + k → k * w ≤ b + d → w * w ≤ a * w + b + (c * w + d)
halves-over w a b c d k h l = omega (arith, mul-le-mul_right w h, add-mul (a + c) k w, add-mul a c w)

-- and is not where the upper half can still grow by one
halves-room : (w a b y : ℕ) → suc a < w → b < w → y < w → a * w + b + y < w * w
halves-room w a b y h k l = omega (arith, mul-le-mul_right w h, suc-mul (suc a) w, suc-mul a w)

-- a number is no greater than another where its upper half is below the other's, k, 0 or 1, being borrowed
halves-under : (w a b c d y k : ℕ) → a < c + k → y + d ≡ b + k * w → y < w → a * w + b ≤ c * w + d
halves-under w a b c d y k h e l = omega (arith, mul-le-mul_right w h, suc-mul a w, add-mul c k w)

-- a number and its halves
pub raw-instant : (n : ℕ) → raw (instant n) ≡ n
unfolding raw instant
raw-instant n = split n 64

pub span-duration : (n : ℕ) → span (duration n) ≡ n
unfolding span duration
span-duration n = split n 64

pub instant-raw : (t : Time) → t.1 < 2 ^ 64 → instant (raw t) ≡ t
unfolding raw instant
instant-raw t h = rw (high t.0 64 h, low t.0 64 h)

pub duration-span : (d : Duration) → d.1 < 2 ^ 64 → duration (span d) ≡ d
unfolding span duration
duration-span d h = rw (high d.0 64 h, low d.0 64 h)

pub same-raw : (a b : Time) → a.1 < 2 ^ 64 → b.1 < 2 ^ 64 → raw a ≡ raw b → a ≡ b
same-raw a b h k e = sym (instant-raw a h) ∙ ap instant e ∙ instant-raw b k

-- the numbers of what the definitions make
pub raw-later : (a b : Time) → raw (later a b) ≡ max (raw a) (raw b)
unfolding later
raw-later a b = by (ltb (raw a) (raw b)) refl
  where
    by : (p : Bool) → ltb (raw a) (raw b) ≡ p → raw (cond p b a) ≡ max (raw a) (raw b)
    by true e = sym (max-eq_right (le_of_lt (ltb-true _ _ e)))
    by false e = sym (max-eq_left (ltb-false _ _ e))

pub raw-plus : (t : Time) (d : Duration) → raw (plus t d) ≡ raw t + span d
unfolding plus
raw-plus t d = raw-instant _

pub raw-after : (now : Time) (n : ℕ) → raw (after now n) ≡ raw now + span (micros n)
unfolding after
raw-after now n = raw-plus now (micros n)

pub span-since : (now from : Time) → span (since now from) ≡ raw now - raw from
unfolding since
span-since now from = span-duration _

pub span-micros : (n : ℕ) → span (micros n) ≡ n * 2 ^ 64 / 1000000
unfolding micros
span-micros n = span-duration _

pub one-micro : span (micros 1) ≡ 18446744073709
one-micro = span-micros 1

-- the order
pub earlier-ltb : (s t : Time) → s.1 < 2 ^ 64 → t.1 < 2 ^ 64 → (ltb s.0 t.0 || (eqb s.0 t.0 && ltb s.1 t.1)) ≡ ltb (raw s) (raw t)
unfolding raw
earlier-ltb s t = halves-ltb (2 ^ 64) s.0 s.1 t.0 t.1

-- the derived order, of the seconds and then of the fractions, is that of the raw units
tests : (p q r s : Bool) → is_lt (ordering_then (cond p Less (cond q Equal Greater)) (cond r Less (cond s Equal Greater))) ≡ (p || (q && r))
tests true q r s = refl
tests false true true s = refl
tests false true false true = refl
tests false true false false = refl
tests false false r s = refl

pub derived-ltb : (s t : Time) → s.1 < 2 ^ 64 → t.1 < 2 ^ 64 → is_lt (ordering_then (nat_cmp s.0 t.0) (nat_cmp s.1 t.1)) ≡ ltb (raw s) (raw t)
derived-ltb s t h k = tests (ltb s.0 t.0) (eqb s.0 t.0) (ltb s.1 t.1) (eqb s.1 t.1) ∙ earlier-ltb s t h k

pub not-ltb : (a b : ℕ) → not (ltb a b) ≡ leb b a
not-ltb a b = by (ltb a b) refl
  where
    by : (p : Bool) → ltb a b ≡ p → not p ≡ leb b a
    by true e = sym (lt-leb b a (ltb-true a b e))
    by false e = sym (le-leb b a (ltb-false a b e))

pub derived-leb : (s t : Time) → s.1 < 2 ^ 64 → t.1 < 2 ^ 64 → is_ge (ordering_then (nat_cmp s.0 t.0) (nat_cmp s.1 t.1)) ≡ leb (raw t) (raw s)
derived-leb s t h k = by (ordering_then (nat_cmp s.0 t.0) (nat_cmp s.1 t.1)) ∙ ap not (derived-ltb s t h k) ∙ not-ltb (raw s) (raw t)
  where
    by : (o : Ordering) → is_ge o ≡ not (is_lt o)
    by Less = refl
    by Equal = refl
    by Greater = refl

-- the greater of two instants by that order is the later one
pub derived-later : (s t : Time) → s.1 < 2 ^ 64 → t.1 < 2 ^ 64 → cond (is_lt (ordering_then (nat_cmp t.0 s.0) (nat_cmp t.1 s.1))) s t ≡ later s t
unfolding later
derived-later s t h k = rw (derived-ltb t s k h) (by (ltb (raw t) (raw s)) (ltb (raw s) (raw t)) refl refl)
  where
    by : (p q : Bool) → ltb (raw t) (raw s) ≡ p → ltb (raw s) (raw t) ≡ q → cond p s t ≡ cond q t s
    by true true e f = absurd (omega (arith, ltb-true _ _ e, ltb-true _ _ f))
    by true false e f = refl
    by false true e f = refl
    by false false e f = same-raw t s k h (omega (arith, ltb-false _ _ e, ltb-false _ _ f))

pub zero-eqb : (d : Duration) → (eqb d.0 0 && eqb d.1 0) ≡ eqb (span d) 0
unfolding span
zero-eqb d = by (eqb d.0 0) (eqb d.1 0) refl refl
  where
    by : (p q : Bool) → eqb d.0 0 ≡ p → eqb d.1 0 ≡ q → (p && q) ≡ eqb (span d) 0
    by true true e f = sym (eq-eqb (span d) 0 (omega (arith, eqb-true d.0 0 e, eqb-true d.1 0 f)))
    by true false e f = sym (ne_eqb (span d) 0 (λ z. eqb-false d.1 0 f (omega arith)))
    by false q e f = sym (ne_eqb (span d) 0 (λ z. eqb-false d.0 0 e (omega arith)))

-- the sum of an instant and a length, by halves, where k is carried
pub sum : (t : Time) (d : Duration) (u : Time) (k : ℕ) → u.0 ≡ t.0 + d.0 + k → u.1 + k * 2 ^ 64 ≡ t.1 + d.1 → raw u ≡ raw t + span d
unfolding raw span
sum t d u = halves-sum (2 ^ 64) t.0 t.1 d.0 d.1 u.0 u.1

pub is-since : (now from : Time) (d : Duration) (k : ℕ) → d.1 < 2 ^ 64 → now.0 ≡ from.0 + d.0 + k → now.1 + k * 2 ^ 64 ≡ from.1 + d.1 → d ≡ since now from
unfolding since
is-since now from d k h e f = sym (rw (sum from d now k e f, add-sub_cancel_left) (duration-span d h))

-- where more is taken away than there is, nothing is left
pub not-since : (now from : Time) (y k : ℕ) → now.0 < from.0 + k → y + from.1 ≡ now.1 + k * 2 ^ 64 → y < 2 ^ 64 → ◌≡◌ {A = Duration} (record { 0 = 0; 1 = 0 }) (since now from)
unfolding since duration raw
not-since now from y k h e l = rw (sub-eq-zero_of_le (halves-under (2 ^ 64) now.0 now.1 from.0 from.1 y k h e l))

pub raw-fits : (t : Time) → t.0 < 2 ^ 64 → t.1 < 2 ^ 64 → raw t < 2 ^ 128
unfolding raw
raw-fits t = digits_lt

pub is-added : (t : Time) (d : Duration) (u : Time) (k : ℕ) → u.0 < 2 ^ 64 → u.1 < 2 ^ 64 → u.0 ≡ t.0 + d.0 + k → u.1 + k * 2 ^ 64 ≡ t.1 + d.1 → Some u ≡ added t d
unfolding added plus
is-added t d u k h l e f = rw (sym (sum t d u k e f), lt-ltb (raw u) (2 ^ 128) (raw-fits u h l)) (ap Some (sym (instant-raw u l)))

sum_over : (t : Time) (d : Duration) (k : ℕ) → 2 ^ 64 ≤ t.0 + d.0 + k → k * 2 ^ 64 ≤ t.1 + d.1 → 2 ^ 128 ≤ raw t + span d
unfolding raw span
sum_over t d = halves-over (2 ^ 64) t.0 t.1 d.0 d.1

pub not-added : (t : Time) (d : Duration) (k : ℕ) → 2 ^ 64 ≤ t.0 + d.0 + k → k * 2 ^ 64 ≤ t.1 + d.1 → None ≡ added t d
unfolding added
not-added t d k h l = rw (le-ltb (raw t + span d) (2 ^ 128) (sum_over t d k h l))

-- a wait below one second is a length below one second, so from an instant before the last second it is in range
pub micros-short : (n : ℕ) → n < 1000000 → span (micros n) < 2 ^ 64
micros-short n h = rw (span-micros n) (omega arith)

pub sum_fits : (t : Time) (d : Duration) → t.0 < 2 ^ 64 - 1 → t.1 < 2 ^ 64 → span d < 2 ^ 64 → raw t + span d < 2 ^ 128
unfolding raw
sum_fits t d h = halves-room (2 ^ 64) t.0 t.1 (span d) (omega arith)

pub after_added : (now : Time) (n : ℕ) → now.0 < 2 ^ 64 - 1 → now.1 < 2 ^ 64 → n < 1000000 → added now (micros n) ≡ Some (after now n)
unfolding added after
after_added now n h k l = rw (lt-ltb (raw now + span (micros n)) (2 ^ 128) (sum_fits now (micros n) h k (micros-short n l)))

-- N microseconds without a product past 64 bits
pub is-micros : (n : ℕ) (d : Duration) → d.0 ≡ n / 1000000 → d.1 ≡ n % 1000000 * 18446744073709 + n % 1000000 * 551616 / 1000000 → d.1 < 2 ^ 64 → d ≡ micros n
unfolding micros span
is-micros n d e f h = sym (duration-span d h) ∙ ap duration (whole ∙ sym (micro-law n))
  where
    whole : span d ≡ n % 1000000 * 551616 / 1000000 + (n / 1000000 * 2 ^ 64 + n % 1000000 * 18446744073709)
    whole = omega arith

    micro-law : (n : ℕ) → n * 2 ^ 64 / 1000000 ≡ n % 1000000 * 551616 / 1000000 + (n / 1000000 * 2 ^ 64 + n % 1000000 * 18446744073709)
    micro-law n =
        let p : n * 2 ^ 64 ≡ n % 1000000 * 551616 + (n / 1000000 * 2 ^ 64 + n % 1000000 * 18446744073709) * 1000000 = omega arith in
        ap (λ (y : ℕ). y / 1000000) p ∙ add-mul-div_right (n % 1000000 * 551616) (n / 1000000 * 2 ^ 64 + n % 1000000 * 18446744073709) (lit< tt)
