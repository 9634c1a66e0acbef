-- `save::owners` meets its contract. The loop's invariant: each slot that a page passed has, by the first such page.
-- Assumes nothing.
use Rattle.settle.proofs.Slots.{entry-le}
use mathlib.Core.List.{[], append-nil}
use mathlib.Core.Path.{◌≡◌, refl, ◌∙◌}
use Prim.Native.Nat.{suc}
use Rattle.lists.specs.Lists.{at}
use lib.ListN.{length, length-set}
use Rattle.save.proofs.Filled.{Owned, front-next, last-place, last-within, last-at, none_owned, slot-owned, closed-owned, all-owned}
use native.Mathlib.Omega.{arith}
use Rattle.save.proofs.owners.Goals as goal

pub loop-i-init : goal.loop-i-init
loop-i-init c =
    let xs = c.args.held.now.flash.indices in
    rw (c.into_iter-i-iterator.ensures.into_iter_gives, c.rev-i-items.ensures.source, c.enumerate.ensures.source, c.iter.ensures.rest)
    (refl, c.enumerate.ensures.count, ([], append-nil xs), none_owned (length xs) xs _ refl)

pub bounds-found-slot : goal.bounds-found-slot
bounds-found-slot c =
    let held = c.args.held.now in
    let front = c.next.new.self.iter.iter.rest.now in
    let there = last-at held.flash.indices _ front _ c.loop-i.invariant.2 c.in-Some.ensures.steps.1.0 in
    omega (arith, there, c.in-Some-slot_in.ensures, entry-le held.flash.indices held.fit.index_long held.fit.slots (length front))

pub loop-i-preserved-in-Some-slot_in : goal.loop-i-preserved-in-Some-slot_in
loop-i-preserved-in-Some-slot_in c =
    let held = c.args.held.now in
    let xs = held.flash.indices in
    let l = c.loop-i in
    let front = c.next.new.self.iter.iter.rest.now in
    let f = l.invariant.2 in
    let s = c.in-Some.ensures.steps in
    let there : at xs (length front) ≡ suc c.in-Some-slot_in.slot = last-at xs _ front _ f s.1.0 ∙ c.in-Some-slot_in.ensures in
    let place : c.in-Some.i ≡ length front = omega arith in
    let passed : Owned (suc (length front)) xs l.found = rw (last-place xs _ front _ f s.1.0) l.invariant.3 in
    let owned = slot-owned (length front) xs l.found (last-within xs _ front _ f s.1.0) passed c.in-Some-slot_in.slot there (omega (arith, entry-le xs held.fit.index_long held.fit.slots (length front))) in
    rw place (simp length-set l.invariant.0, s.0 ∙ l.invariant.1, front-next xs _ front _ f s.1.0, owned)

pub loop-i-preserved : goal.loop-i-preserved
loop-i-preserved c =
    let xs = c.args.held.now.flash.indices in
    let l = c.loop-i in
    let front = c.next.new.self.iter.iter.rest.now in
    let f = l.invariant.2 in
    let s = c.in-Some.ensures.steps in
    let there : at xs (length front) ≡ 0 = last-at xs _ front _ f s.1.0 ∙ c.in_default.ensures in
    let passed : Owned (suc (length front)) xs l.found = rw (last-place xs _ front _ f s.1.0) l.invariant.3 in
    (l.invariant.0, s.0 ∙ l.invariant.1, front-next xs _ front _ f s.1.0, closed-owned (length front) xs l.found (last-within xs _ front _ f s.1.0) passed there)

pub returns : goal.returns
returns c =
    let held = c.args.held.now in
    let l = c.loop-i in
    let none : length l.i-iterator.iter.iter.rest.now ≡ 0 = c.in-None.ensures.steps.1.0 in
    all-owned held.flash.indices l.found (rw none at l.invariant.3) held.fit.index_long held.fit.slots
