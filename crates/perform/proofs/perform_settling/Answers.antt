-- `perform::perform_settling` meets its contract: what its parts leave makes up the step, `performs`. Assumes nothing.
use mathlib.Core.Path.{◌≡◌, ap, sym, ◌∙◌}
use mathlib.Core.List.{List}
use Prim.Native.Nat.{ℕ}
use borrow.Author.Rules.{rules}
use Rattle.time.specs.declared.Time.{Time}
use Rattle.registers.specs.declared.Registers.{Registers}
use Rattle.registers.specs.declared.Call.{Call}
use Rattle.settle.specs.Pages.{Cells}
use Rattle.settle.specs.Settling.{sensed_by}
use Rattle.flash.specs.Chip.{Chip, chip, Performed}
use Rattle.flash.proofs.Performs.{room-le, end-room, performs}
use Rattle.perform.proofs.perform_settling.Goals as goal

pub settle-changed-requires : goal.settle-changed-requires
settle-changed-requires c =
    let p = c.requires in (rw c.pulse-pulse.ensures p.fit.pulse_inside, rw c.pulse-pulse.ensures (room-le _ _ p.room))

pub end_pulse-count-requires : goal.end_pulse-count-requires
end_pulse-count-requires c =
    let p = c.requires in (rw c.pulse-pulse.ensures p.fit.pulse_inside, end-room _ _ p.fit _ c.pulse-pulse.ensures c.settle-changed.ensures.left p.room)

pub settled_answer-value-requires : goal.settled_answer-value-requires
settled_answer-value-requires c =
    c.requires.placed

-- lent memory that is what a step left
moved : {c : Call} {now since : Time} {k : Chip} {lent : List ℕ} {r : Registers} {sensed index index' array array' charges charges' events : List ℕ} {value count : ℕ}
    → index ≡ index' → array ≡ array' → charges ≡ charges'
    → Performed c now k lent (chip (record (k.flash) { registers = r; pulse_since = since; sensed = sensed; indices = index' }) array' charges') events value count
    → Performed c now k lent (chip (record (k.flash) { registers = r; pulse_since = since; sensed = sensed; indices = index }) array charges) events value count
moved e g h p = rw (e, g, h) p

pub returns : goal.returns
returns c =
    let x = c.args in
    let sensed = c.sense-sensed.ensures ∙ ap (λ (k : Cells). sensed_by x.flash.registers x.now.time k x.flash.sensed) c.seen.ensures in
    let same = c.settle-changed.ensures.same in
    let index = sym same.same_index in
    let array = sym same.same_array in
    let charges = sym same.same_charges in
    moved (search rules) (search rules) (search rules)
    (performs _ _ c.requires.fit _ c.pulse-pulse.ensures c.settle-changed.ensures.left _ c.requires.settles _ c.next-next.ensures (c.end_pulse-count.ensures.0 ∙ rw c.pulse.ensures) (c.end_pulse-count.ensures.1 ∙ rw c.pulse.ensures) sensed c.settled_answer-value.ensures.0 c.settled_answer-value.ensures.1 c.sensed_after.ensures)
