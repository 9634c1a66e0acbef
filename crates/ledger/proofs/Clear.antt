-- Calls that no line of the table refuses act on memory as they do on the chip, one after the other: what a call writes reads back, so
-- the events of a list of such calls are those of the chip's steps. Assumes nothing.
use mathlib.Core.Path.{◌≡◌, refl, ap, ap₂, ◌∙◌}
use mathlib.Core.List.{List, [], ◌∷◌, ◌++◌}
use Prim.Native.Nat.{ℕ}
use lib.ListN.{length}
use Rattle.flash.specs.Chip.{Chip, Step, step}
use Rattle.layout.proofs.Back.{written-reads-back}
use Rattle.lent.specs.Memory.{memory_of}
use Rattle.lent.specs.Asked.{call_of, call_refusal, refusal, outcome_by, outcome}
use Rattle.lent.proofs.Tells.{request-placed}
use Rattle.ledger.specs.Lists.{Asked, Typed, events_of}
use Rattle.ledger.proofs.Kept.{numbers-arguments}
use Rattle.ledger.proofs.Order.{InOrder, order-good, order-back, order-step}
use Rattle.ledger.proofs.Accepted.{call-passed, enough, words-given, call-placed}

-- a call of a list as a step of the chip
abbrev pub stepped : Asked → Chip → Step
stepped q k = step (call_of q.request) q.time k

-- no call of the list is refused by line 4 or a later one
abbrev pub Clear : List Asked → Chip → Type 0
Clear [] k = Unit
Clear (q ∷ qs) k = (call_refusal q.request q.time (length q.lent) k.flash ≡ 0) × Clear qs (stepped q k).chip

-- the events of the chip's steps
abbrev pub step_events : List Asked → Chip → List ℕ
step_events [] k = []
step_events (q ∷ qs) k = (stepped q k).events ++ step_events qs (stepped q k).chip

module _ (q : Asked) (k : Chip) (o : InOrder k) (e : call_refusal q.request q.time (length q.lent) k.flash ≡ 0) where
  not-refused : refusal q.request q.time (length q.lent) (memory_of k) ≡ 0
  unfolding refusal call_refusal
  not-refused =
      let g = order-good k o in
      rw (g.fits, g.reads, written-reads-back k.flash o.fits) e

  one-events : (qs : List Asked) → events_of (q ∷ qs) (memory_of k) ≡ (stepped q k).events ++ events_of qs (memory_of (stepped q k).chip)
  unfolding events_of outcome outcome_by
  one-events qs =
      rw not-refused
      (ap₂ (λ (x y : List ℕ). x ++ y)
      (words-given _ q.lent (enough q.request q.time (length q.lent) (memory_of k) not-refused) ∙ ap (λ (x : Chip). (stepped q x).events) (order-back k o))
      (ap (λ (x : Chip). events_of qs (memory_of (stepped q x).chip)) (order-back k o)))

pub clear-events : (qs : List Asked) (k : Chip) → Typed qs → Clear qs k → InOrder k → events_of qs (memory_of k) ≡ step_events qs k
unfolding events_of
clear-events [] k t c o = refl
clear-events (q ∷ qs) k t c o =
    let p = call-passed q.request q.time (length q.lent) (memory_of k) (not-refused q k o c.0) in
    one-events q k o c.0 qs
    ∙ ap (λ (es : List ℕ). (stepped q k).events ++ es)
    (clear-events qs (stepped q k).chip t.2 c.1
    (order-step (call_of q.request) q.time k (numbers-arguments q.request t.0) t.1 p.in_time (request-placed q.request (call-placed q.request q.time (length q.lent) (memory_of k) (not-refused q k o c.0))) o))
