-- Lists of calls: what each call leaves is what the next one gets, what a list's events are, and what the ledger is told. Document 01,
-- "The ledger".
-- Assumes nothing.
use Rattle.std.specs.Prelude.{ℕ, ◌^◌, ◌<◌, Bool, cond, not, List, [], ◌∷◌, ◌++◌, eqb, take}
use Rattle.time.specs.declared.Time.{Time}
use Rattle.flash.specs.Chip.{fresh_flash}
use Rattle.layout.specs.Layout.{encoded}
use Rattle.layout.specs.Whole.{TimeFits}
use Rattle.lent.specs.declared.Request.{Request}
use Rattle.lent.specs.declared.Request.TheVariants.{WriteRegister, Write8, Read8, Read16, Protect, Reset, PowerOff, Environment}
use Rattle.lent.specs.Memory.{Memory, lent}
use Rattle.lent.specs.Asked.{Outcome, call_of, outcome}
use Rattle.ledger.specs.Ledger.{Ledger, entered}

-- A call of a list: what is asked, when, and the event words lent.
pub record Asked : Type 0 where
  pub request : Request
  pub time : Time
  pub lent : List ℕ

abbrev pub asked : Asked → Memory → Outcome
asked q m = outcome q.request q.time q.lent m

-- what the types of the host functions say of the arguments
abbrev pub Numbers : Request → Type 0
Numbers (WriteRegister a v) = (a < 2 ^ 16) × (v < 2 ^ 8)
Numbers (Write8 a v) = (a < 2 ^ 16) × (v < 2 ^ 8)
Numbers (Read8 a) = a < 2 ^ 16
Numbers (Read16 a) = a < 2 ^ 16
Numbers Protect = Unit
Numbers Reset = Unit
Numbers PowerOff = Unit
Numbers (Environment mode modul oscillator) = mode < 2 ^ 8

abbrev pub Typed : List Asked → Type 0
Typed [] = Unit
Typed (q ∷ qs) = Numbers q.request × TimeFits q.time × Typed qs

-- The first call gets record, array and charges as `new` left them, for any charge store; each later one as the call before did.
abbrev pub new_memory : List ℕ → List ℕ → Memory
new_memory firmware charges = lent (encoded fresh_flash) firmware charges

unfoldable pub memory_after : List Asked → Memory → Memory
memory_after [] m = m
memory_after (q ∷ qs) m = memory_after qs (asked q m).memory

-- A list's events are each call's words up to its count.
abbrev pub words_of : Outcome → List ℕ
words_of o = take o.count o.events

unfoldable pub events_of : List Asked → Memory → List ℕ
events_of [] m = []
events_of (q ∷ qs) m = words_of (asked q m) ++ events_of qs (asked q m).memory

-- The ledger is told the arguments other than lent memory, and of each answer only whether it was a refusal.
pub record Heard : Type 0 where
  pub request : Request
  pub time : Time
  pub refused : Bool

abbrev pub heard : Asked → Outcome → Heard
heard q o = record { request = q.request; time = q.time; refused = not (eqb o.number 0) }

unfoldable pub heard_of : List Asked → Memory → List Heard
heard_of [] m = []
heard_of (q ∷ qs) m = heard q (asked q m) ∷ heard_of qs (asked q m).memory

-- A refused call changes nothing.
unfoldable pub enter : Heard → Ledger → Ledger
enter h led = cond h.refused led (entered (call_of h.request) h.time led)

unfoldable pub ledger_after : List Heard → Ledger → Ledger
ledger_after [] led = led
ledger_after (h ∷ hs) led = ledger_after hs (enter h led)
