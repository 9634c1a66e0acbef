-- The pages that are asked for lie in the array, on every way that the tests of each rule can go. Assumes nothing.
use Prim.Native.Nat.{ℕ, ◌+◌, ◌/◌, ◌^◌, ◌≤◌, ◌<◌}
use mathlib.Core.Bool.{Bool, true, false, cond}
use mathlib.Core.List.{List}
use mathlib.Core.Path.{◌≡◌, refl}
use native.Mathlib.Nat.{div-lt_iff_lt-mul}
use native.Mathlib.Omega.{arith}
use borrow.Author.Tests.{ltb-true}
use lib.Dec.{eqb, ltb}
use Rattle.lists.proofs.Bools.{either}
use Rattle.cell.specs.Cell.{array_bytes, pages}
use Rattle.control.specs.Blocks.{erase_range}
use Rattle.control.specs.declared.Range.{Range}
use Rattle.digits.specs.Digits.{hex_in}
use Rattle.digits.specs.declared.NoNumber.{NoNumber}
use Rattle.std.specs.Prelude.{Option, Some, None, Result, Ok, Err, IfOk, IfSome}
use Rattle.control.specs.Blocks.{pages_touched}
use Rattle.options.specs.Arguments.{Word, below, said_of}
use Rattle.options.specs.Options.{block_in, address_in, pages_asked, range_asked, beginning, accepted, run_of, with_beginning, with_history, whole, ended}
use Rattle.options.specs.Inside.{PagesLie}
use Rattle.options.specs.declared.Asked.{Asked}
use Rattle.options.specs.declared.Beginning.{Beginning}
use Rattle.options.specs.declared.Parameter.TheVariants as parameter
use Rattle.options.specs.declared.Stage.{Stage}
use Rattle.options.specs.declared.Stage.TheVariants.{Open, Wants, Helped, Wrong}
use Rattle.options.specs.declared.Trouble.{Trouble}

-- ---- numbers and pages

below-bound : (bound : ℕ) (n : Result ℕ NoNumber) → IfSome (below bound n) (λ v. v < bound)
below-bound bound (Ok n) = by-test (ltb n bound) refl
  where
    by-test : (t : Bool) → ltb n bound ≡ t → IfSome (cond t (Some n) None) (λ v. v < bound)
    by-test true e = ltb-true n bound e
    by-test false e = tt
below-bound bound (Err none) = tt

address-below : (o : Option Word) → IfSome (address_in o) (λ n. n < array_bytes)
address-below (Some w) = below-bound array_bytes (hex_in 4 w.now)
address-below None = tt

-- a range that lies in the array
abbrev pub RangeLies : Range → Type 0
RangeLies r = r.first + r.pages ≤ pages

erase-lies : (e : ℕ) → RangeLies (erase_range e)
unfolding erase_range
erase-lies e =
    either RangeLies (eqb e 1) (omega arith)
    (either RangeLies (eqb e 2) (omega arith)
    (either RangeLies (eqb e 4) (omega arith)
    (either RangeLies (eqb e 8) (omega arith)
    (either RangeLies (eqb e 16) (omega arith) (either RangeLies (eqb e 32) (omega arith) (omega arith))))))

page-lies : (a : ℕ) → a < 0xC000 → a / 128 < pages
page-lies a h = (div-lt_iff_lt-mul {k = 128} {x = a} {y = 384} (omega arith)).1 (omega arith)

touched-lies : (from to : ℕ) → from < 0xC000 → to < 0xC000 → RangeLies (pages_touched from to)
unfolding pages_touched
touched-lies from to f t = omega (arith, page-lies from f, page-lies to t)

-- ---- the options

abbrev RangeAskedLies : Result Range Trouble → Type 0
RangeAskedLies r = IfOk r RangeLies

abbrev ResultLies : Result Asked Trouble → Type 0
ResultLies r = IfOk r PagesLie

pages-lie : (b f t : Option ℕ) → IfSome f (λ n. n < array_bytes) → IfSome t (λ n. n < array_bytes) → RangeAskedLies (pages_asked b f t)
pages-lie None None None h k = omega arith
pages-lie None (Some from) (Some to) h k = either RangeAskedLies (ltb to from) tt (touched-lies from to h k)
pages-lie None (Some from) None h k = tt
pages-lie None None (Some to) h k = tt
pages-lie (Some b) None None h k = erase-lies (2 ^ b)
pages-lie (Some b) (Some from) t h k = tt
pages-lie (Some b) None (Some to) h k = tt

range-lies : (b f t : Option Word) → RangeAskedLies (range_asked b f t)
unfolding range_asked
range-lies b f t = pages-lie (block_in b) (address_in f) (address_in t) (address-below f) (address-below t)

module _ (said : List (Option Word)) where
  run-lies : (history : Word) (begins : Beginning) (r : Result Range Trouble) → RangeAskedLies r → ResultLies (run_of said history begins r)
  unfolding accepted
  run-lies history begins (Ok range) h = h
  run-lies history begins (Err t) h = tt

  beginning-lies : (history : Word) (b : Result Beginning Trouble) → ResultLies (with_beginning said history b)
  beginning-lies history (Ok begins) =
      run-lies history begins _ (range-lies (said_of said parameter.Block) (said_of said parameter.From) (said_of said parameter.To))
  beginning-lies history (Err t) = tt

  history-lies : (o : Option Word) → ResultLies (with_history said o)
  history-lies None = tt
  history-lies (Some history) = beginning-lies history (beginning (said_of said parameter.Image) (said_of said parameter.Restore))

  pub ended_lies : (stage : Stage) → ResultLies (ended said stage)
  unfolding ended whole
  ended_lies Open = history-lies (said_of said parameter.History)
  ended_lies (Wants p name) = tt
  ended_lies Helped = tt
  ended_lies (Wrong t) = tt
