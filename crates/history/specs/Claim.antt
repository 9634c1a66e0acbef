-- The claims about the lines of a history: their calls have arguments and times in range; the replay reads, and runs, the calls that the
-- lines ask for, in their order; and after a call or a look a `+` counts from its time. Assumes nothing.
use Rattle.std.specs.Prelude.{ℕ, zero, suc, ◌+◌, ◌*◌, ◌≤◌, ◌≡◌, List, [], ◌∷◌, ◌++◌, Option, Some, map, length, take, drop}
use Rattle.std.proofs.lemmas.List.Edits.{sets}
use Rattle.time.specs.declared.Time.{Time}
use Rattle.layout.specs.Whole.{TimeFits}
use Rattle.lent.specs.declared.Request.{Request}
use Rattle.lent.specs.Memory.{Memory}
use Rattle.ledger.specs.Lists.{Numbers}
use Rattle.grammar.specs.declared.Looking.{Looking}
use Rattle.grammar.specs.declared.Line.TheVariants.{Call, Look}
use Rattle.grammar.specs.Grammar.{line_of}
use Rattle.lent.specs.declared.Asking.{Asking}
use Rattle.listing.specs.Calls.{asking, asking_at}
use Rattle.listing.specs.Replaying.{asks}
use Rattle.history.specs.History.{time_after, calls_in, numbers_of, Waiting, taken_all}

-- what the types of the host functions say of calls, as `Typed` does
abbrev pub InTypes : List Asking → Type 0
InTypes [] = Unit
InTypes (a ∷ rest) = Numbers a.request × TimeFits a.time × InTypes rest

-- n calls of a list from the i-th on, as the replay reads them
unfoldable pub read_from : ℕ → ℕ → List ℕ → List Asking
read_from zero i calls = []
read_from (suc n) i calls = asking_at calls i ∷ read_from n (suc i) calls

-- Where `asked` are the calls of lines that were taken after s waited, and `left` waits now:
pub record Kept (asked : List Asking) (s left : Waiting) : Type 0 where
  -- they wait behind those that waited, and no other number changed
  pub count_is : left.count ≡ s.count + length asked
  pub calls_are : left.calls ≡ sets s.calls (3 * s.count) (numbers_of asked)
  pub first_numbers : take (3 * left.count) left.calls ≡ take (3 * s.count) s.calls ++ numbers_of asked
  -- the replay reads them as what the lines ask for
  pub read : read_from (length asked) s.count left.calls ≡ asked
  -- and a replay from any of them on runs those that follow, in their order, up to the one that stops it
  pub run : (k : ℕ) (lent : List ℕ) (m : Memory)
      → map asking (asks (s.count + k) left.count left.calls lent m)
      ≡ take (length (asks (s.count + k) left.count left.calls lent m)) (drop k asked)

-- for all lines, whatever time the first counts from (none, where a text begins)
pub record Histories : Type 0 where
  -- the calls that they ask for have arguments and times in their types' ranges
  pub typed : (b : Option Time) (lines : List (List ℕ)) → InTypes (calls_in b lines)
  -- they are kept after whatever waits, in a slice with room for them
  pub of_every_text : (lines : List (List ℕ)) (s : Waiting) → 3 * (s.count + length (calls_in s.before lines)) ≤ length s.calls
      → Kept (calls_in s.before lines) s (taken_all lines s)

-- after a line that is a call or a look, a `+` counts from its time
pub record Times : Type 0 where
  pub after_call : (b : Option Time) (line : List ℕ) (t : Time) (q : Request) → line_of b line ≡ Call t q → time_after b line ≡ Some t
  pub after_look : (b : Option Time) (line : List ℕ) (t : Time) (l : Looking) → line_of b line ≡ Look t l → time_after b line ≡ Some t
