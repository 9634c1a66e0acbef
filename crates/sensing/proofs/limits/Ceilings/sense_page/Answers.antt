-- `sensing::limits::Ceilings::sense_page` meets its contract. The loop's invariant: the bytes passed are what their cells sense, and the
-- others are as they were; the eight cells lent to `sense_byte` are those of the page from eight times the byte's place on.
-- Assumes nothing.
use Prim.Native.Nat.{ℕ, ◌+◌, ◌*◌}
use mathlib.Core.List.{List, []}
use mathlib.Core.Path.{◌≡◌, ap, sym, ◌∙◌}
use native.Mathlib.Omega.{arith}
use lib.ListN.{get_or}
use Rattle.lists.specs.Lists.{at}
use Rattle.cell.specs.Cell.{sensed_page, sensed_byte}
use Rattle.lists.proofs.Chunks.{chunk-at}
use Rattle.lists.proofs.Partly.{partly-turn, partly-all}
use Rattle.cell.proofs.Sensed.{sensed_byte-same}
use Rattle.sensing.proofs.limits.Ceilings.sense_page.Goals as goal

swap : (i : ℕ) → i * 8 ≡ 8 * i
swap i = omega arith

pub loop-i-preserved : goal.loop-i-preserved
loop-i-preserved c =
    let x = c.args in
    let l = c.loop-i in
    partly-turn (λ b y. sensed_byte x.self.now.sense (x.address + b) (λ k. at x.cells.now (8 * b + k))) l.i x.out.now l.out _ l.invariant
    (c.sense_byte.ensures ∙ sensed_byte-same _ _ _ _ (λ k h. ap (λ (xs : List (List ℕ)). at (get_or xs l.i []) k) c.as_chunks.ensures.front ∙ chunk-at 8 _ l.i x.cells.now (omega arith) k h ∙ ap (λ q. at x.cells.now (q + k)) (swap l.i)))

pub returns : goal.returns
unfolding sensed_page
returns c =
    let l = c.loop-i in
    let e : l.i ≡ 128 = omega arith in
    l.invariant ∙ partly-all _ _ _ (e ∙ sym c.told-out)
