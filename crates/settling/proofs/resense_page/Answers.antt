-- `settling::resense_page` meets its contract: the bytes that `sense_page` gives are, place by place, what the slot's cells sense.
-- Assumes nothing.
use mathlib.Core.Path.{◌≡◌, ap, ◌∙◌}
use mathlib.Core.List.{List, []}
use Prim.Native.Nat.{ℕ, ◌+◌, ◌-◌, ◌*◌, ◌/◌, ◌≤◌, ◌<◌}
use native.Mathlib.Omega.{arith}
use lib.ListN.{length, get_or, replicate, length-replicate}
use Rattle.std.specs.Simd.{first_chunks}
use Rattle.cell.specs.declared.Sense.{Sense}
use Rattle.lists.specs.Lists.{at}
use Rattle.cell.specs.Cell.{sensed_byte, sensed_page}
use Rattle.lists.proofs.Chunks.{chunk-at}
use Rattle.lists.proofs.Maps.{get_or-mapi}
use Rattle.cell.proofs.Sensed.{sensed_byte-same}
use Rattle.settle.specs.Pages.{Cells}
use Rattle.settle.proofs.Place.{spanned-same}
use Rattle.settling.proofs.resense_page.Goals as goal

-- what stands at an address of the page is sensed from its own cells of the slot
page-sensed : (m : Sense) (address slot n : ℕ) (charges : List ℕ) → slot < n → (a : ℕ) → address ≤ a → a < address + 128
    → at (sensed_page m address (get_or (first_chunks 1024 n charges) slot []) (replicate 128 0)) (a - address)
    ≡ sensed_byte m a (λ k. at charges (slot * 1024 + (8 * (a - address) + k)))
unfolding sensed_page
page-sensed m address slot n charges s a h k =
    let cells = get_or (first_chunks 1024 n charges) slot [] in
    let j = a - address in
    let d : address + j ≡ a = omega arith in
    get_or-mapi (λ b x. sensed_byte m (address + b) (λ k. at cells (8 * b + k))) (replicate 128 0) j (rw (length-replicate {A = ℕ} 128 0) (omega arith))
    ∙ ap (λ b. sensed_byte m b (λ k. at cells (8 * j + k))) d
    ∙ sensed_byte-same m a _ _ (λ i b. chunk-at 1024 n slot charges s (8 * j + i) (omega arith))

pub returns-clause-array : goal.returns-clause-array
returns-clause-array c =
    let x = c.args in
    let charges = ap (λ (k : Cells). k.charges) c.seen-seen.ensures in
    let n = length x.cells.now.charges.now / 1024 in
    let inside : x.slot < n = omega (arith, x.cells.now.charges_long) in
    let sensed = page-sensed x.ceilings.now.sense (x.page * 128) x.slot n x.cells.now.charges.now inside in
    c.store_page.ensures.array ∙ spanned-same (x.page * 128) (x.page * 128 + 128) _ _ x.cells.now.array.now (λ a h k _. rw (c.sense_page.ensures, c.as_chunks.ensures.front, charges) (sensed a h k))
