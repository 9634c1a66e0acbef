-- Calls that wait, each with the number of its line: one more goes behind the others, and storing it changes none of them.
-- Assumes nothing.
use Prim.Native.Nat.{ℕ, zero, suc, ◌+◌, ◌*◌, ◌≤◌, ◌<◌}
use mathlib.Core.Path.{◌≡◌, refl, ap, ◌∙◌}
use mathlib.Core.List.{List, [], ◌∷◌, ◌++◌, append-nil}
use native.Mathlib.Nat.{zero-add, add-zero}
use native.Mathlib.Omega.{arith}
use lib.ListN.{length, set}
use lib.Seq.{sets, get_or-set_same, get_or-set_other}
use Rattle.time.specs.declared.Time.{Time}
use Rattle.lists.specs.Lists.{at}
use Rattle.lent.specs.declared.Request.{Request}
use Rattle.std.specs.Prelude.{Option}
use Rattle.time.specs.declared.Time.{Time}
use Rattle.grammar.specs.declared.Line.{Line}
use Rattle.grammar.specs.declared.Line.TheVariants.{Nothing, Call, Look, Wrong}
use Rattle.grammar.specs.Grammar.{line_of}
use Rattle.lent.specs.declared.Asking.{Asking}
use Rattle.listing.specs.Calls.{call_at, asking}
use Rattle.history.specs.History.{calls_of, calls_in, Waiting, waits, taken, taken_all}
use Rattle.history.specs.Claim.{read_from}
use Rattle.history.proofs.Kept.{histories}
use Rattle.course.specs.declared.Manner.{Manner}
use Rattle.course.specs.Desk.{Desk, Numbered, called, called_all, numbered_from}

-- ---- calls with their lines' numbers

-- calls one after the other are made one after the other
pub called-append : (w : Manner) (ns ms : List Numbered) (d : Desk) → called_all w (ns ++ ms) d ≡ called_all w ms (called_all w ns d)
unfolding called_all
called-append w [] ms d = refl
called-append w (n ∷ ns) ms d = called-append w ns ms (called w n.number n.asking d)

-- the i-th call
abbrev pub numbered_at : ℕ → List ℕ → List ℕ → Numbered
numbered_at i calls numbers = record { number = at numbers i; asking = asking (call_at calls i []) }

-- one call more is the last
pub numbered_more : (k i : ℕ) (calls numbers : List ℕ)
    → numbered_from (suc k) i calls numbers ≡ numbered_from k i calls numbers ++ numbered_at (i + k) calls numbers ∷ []
unfolding numbered_from
numbered_more zero i calls numbers = rw add-zero
numbered_more (suc k) i calls numbers =
    let e : i + suc k ≡ suc i + k = omega arith in
    rw e (ap (λ (ns : List Numbered). numbered_at i calls numbers ∷ ns) (numbered_more k (suc i) calls numbers))

-- stores from a place on change nothing before it
sets-before : (vs l : List ℕ) (i j : ℕ) → j < i → at (sets l i vs) j ≡ at l j
sets-before [] l i j h = refl
sets-before (v ∷ vs) l i j h = sets-before vs (set l i v) (suc i) j (omega arith) ∙ get_or-set_other l i j v 0 (λ e. omega arith)

-- nor does a call that is put at a place, with its line's number, change those before it
module _ (place n : ℕ) (vs calls numbers : List ℕ) where
  pub numbered-kept : (k i : ℕ) → i + k ≤ place
      → numbered_from k i (sets calls (3 * place) vs) (set numbers place n) ≡ numbered_from k i calls numbers
  unfolding numbered_from
  numbered-kept zero i h = refl
  numbered-kept (suc k) i h =
      rw (get_or-set_other numbers place i n 0 (λ e. omega arith), before (3 * i) (omega arith), before (3 * i + 1) (omega arith), before (3 * i + 2) (omega arith))
      (ap (λ (ns : List Numbered). numbered_at i calls numbers ∷ ns) (numbered-kept k (suc i) (omega arith)))
    where
      before : (j : ℕ) → j < 3 * place → at (sets calls (3 * place) vs) j ≡ at calls j
      before = sets-before vs calls (3 * place)

-- ---- a line is taken

-- a line's calls with its number
abbrev pub numbered : ℕ → List Asking → List Numbered
numbered n [] = []
numbered n (a ∷ rest) = record { number = n; asking = a } ∷ numbered n rest

module _ (b : Option Time) (k n : ℕ) (line calls numbers : List ℕ) (words : 3 * k + 3 ≤ length calls) (beside : k < length numbers) where
  abbrev left : Waiting
  left = taken line (waits b k calls)

  -- the replay reads back the call that was put
  read_back : (t : Time) (q : Request) → line_of b line ≡ Call t q → asking (call_at left.calls k []) ≡ record { request = q; time = t }
  unfolding calls_in taken_all read_from
  read_back t q e =
      let read = rw e at (histories.of_every_text (line ∷ []) (waits b k calls) (rw e (omega arith))).read in rw e (cc)

  no_call : {l : Line} → line_of b line ≡ l → calls_of l ≡ []
      → numbered_from left.count 0 left.calls (set numbers k n) ≡ numbered_from k 0 calls numbers ++ []
  no_call e none = rw (e, none, add-zero, append-nil) (numbered-kept k n [] calls numbers k 0 (omega arith))

  -- the calls that waited, and the line's own behind them
  pub waiting-then : numbered_from left.count 0 left.calls (set numbers k n) ≡ numbered_from k 0 calls numbers ++ numbered n (calls_of (line_of b line))
  waiting-then = by (line_of b line) refl
    where
      by : (l : Line) → line_of b line ≡ l
          → numbered_from left.count 0 left.calls (set numbers k n) ≡ numbered_from k 0 calls numbers ++ numbered n (calls_of l)
      by Nothing e = no_call e refl
      by (Call t q) e =
          let one : left.count ≡ suc k = rw e (omega arith) in
          rw (one, numbered_more, numbered-kept k n _ calls numbers k 0 (omega arith), zero-add, read_back t q e, get_or-set_same numbers k n 0)
      by (Look t l) e = no_call e refl
      by (Wrong f) e = no_call e refl
