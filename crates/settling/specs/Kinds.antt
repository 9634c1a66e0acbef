-- The kinds of event word by their numbers: 1 a byte, 2 a pulse completed, 3 a pulse interrupted. Document 01, "Pulses and settling".
-- Assumes nothing.
use Rattle.std.specs.Prelude.{◌≡◌, ℕ, ◌<◌, ◌⊎◌, Result, MatchResult}
use Rattle.settling.specs.declared.EventKind.{EventKind}
use Rattle.settling.specs.declared.EventKind.TheVariants.{Byte, Completed, Interrupted}
use Rattle.settling.specs.declared.UnknownKind.{UnknownKind}

abbrev pub kind_number : EventKind → ℕ
kind_number Byte = 1
kind_number Completed = 2
kind_number Interrupted = 3

-- the kind that has this number, or a number that no kind has
abbrev pub KindWithNumber : ℕ → Result EventKind UnknownKind → Type 0
KindWithNumber n r = MatchResult r (λ kind. kind_number kind ≡ n) (λ unknown. (unknown.0 ≡ n) × ((n < 1) ⊎ (3 < n)))
