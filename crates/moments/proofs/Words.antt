-- A word, split at the first of some byte, and the decimals of a second. Assumes nothing.
use Rattle.std.proofs.Common.{◌≡◌, ℕ, ◌+◌, ◌-◌, ◌*◌, ◌^◌, ◌<◌, ◌≤◌, true, false, List, Ok, Err, Some, None, Result, length, take, drop, length-drop, sym, eqb, add-one, arith}
use Rattle.std.specs.List.{position}
use Rattle.std.proofs.lemmas.List.{take_all}
use Rattle.std.proofs.Math.Nat.{pow-le-pow_right}
use lib.Dec.{lit<}
use borrow.Author.Tests.{lt-ltb, le-ltb}
use Rattle.byte_search.specs.Search.{index_of}
use Rattle.byte_search.proofs.Found.{here, nowhere}
use Rattle.time.specs.Raw.{micros}
use Rattle.time.specs.declared.Duration.{Duration}
use Rattle.words.specs.declared.reason.Reason.{Reason}
use Rattle.words.specs.declared.reason.Reason.TheVariants.{TooManyDecimals}
use Rattle.moments.specs.Moments.{has, head_of, tail_of, part_of, with_decimals}
use Rattle.moments.proofs.Laws.{part-below, scaled-by, is-in-micros}

-- ---- decimals

pub worth_fits : (count : ℕ) → 10 ^ (6 - count) < 2 ^ 64
worth_fits count = let most : 10 ^ (6 - count) ≤ 10 ^ 6 = pow-le-pow_right (lit< tt) {i = 6 - count} {j = 6} (omega arith) in omega arith

module _ (ds : List ℕ) where
  pub too_many : (s : ℕ) → 6 < length ds → Err TooManyDecimals ≡ with_decimals (Ok s) ds
  too_many s h = rw (lt-ltb 6 (length ds) h)

  module _ (n w : ℕ) (few : length ds ≤ 6) (e : Ok n ≡ part_of ds) (worth : w ≡ 10 ^ (6 - length ds)) where
    pub below-second : n * w < 1000000
    below-second = scaled-by n (length ds) w few (part-below n ds (sym e)) worth

    pub decimals-are : (s : ℕ) (d : Duration) → d ≡ micros (n * w) → ◌≡◌ {A = Result Duration Reason} (Ok (record { 0 = s; 1 = d.1 })) (with_decimals (Ok s) ds)
    decimals-are s d f = rw (le-ltb 6 (length ds) few, sym e) (is-in-micros s n (length ds) w d few (part-below n ds (sym e)) worth f)

-- ---- a word with a byte

module _ (b : ℕ) (word : List ℕ) where
  module _ (k : ℕ) (found : Some k ≡ position (λ x. eqb x b) word) where
    pub there : has b word ≡ true
    there = let h = here b word k found in lt-ltb (index_of b word) (length word) (omega (arith, h.0, h.1))

    pub head : take k word ≡ head_of b word
    head = let h = here b word k found in rw h.0

    pub tail : take (length word - (k + 1)) (drop (k + 1) word) ≡ tail_of b word
    tail =
        let h = here b word k found in
        rw (take_all (length word - (k + 1)) (drop (k + 1) word) (omega (arith, length-drop (k + 1) word)), h.0, add-one)

  pub not_there : None ≡ position (λ x. eqb x b) word → has b word ≡ false
  not_there found = le-ltb (index_of b word) (length word) (omega (arith, nowhere b word found))

pub ruleset decimals = (too_many, below-second, decimals-are)
