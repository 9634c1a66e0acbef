-- Booking a pulse once is settling it again and again: the exposures of the parts add up to that of the whole, so what is booked to the
-- last settling and then settled to a time is what is booked to that time, whatever the charges are. A pulse that opens now has booked
-- nothing.
-- Assumes nothing.
use mathlib.Core.Path.{◌≡◌, refl, sym, ap, ◌∙◌}
use mathlib.Core.Bool.{true, ◌&&◌, true≢false}
use mathlib.Core.List.{List}
use Prim.Native.Nat.{ℕ, zero, suc, ◌+◌, ◌<◌, ◌≤◌}
use native.Mathlib.Nat.{zero-add, add-zero}
use native.Mathlib.Omega.{arith}
use borrow.Author.Tests.{eqb-true, eq-eqb}
use lib.Dec.{eqb}
use Rattle.std.specs.Prelude.{Option, Some, None}
use Rattle.std.proofs.lemmas.Bool.{and_parts}
use Rattle.time.specs.declared.Time.{Time}
use Rattle.time.specs.Raw.{raw}
use Rattle.cell.specs.declared.Direction.{Direction}
use Rattle.cell.specs.declared.Direction.TheVariants.{Program, Erase}
use Rattle.cell.specs.Cell.{FULL}
use Rattle.registers.specs.declared.Pulse.{Pulse}
use Rattle.settle.specs.Pages.{Cells, cell_at}
use Rattle.settle.specs.Settling.{exposure, ruled, settled_by, same_direction, same_time, same_pulse}
use Rattle.settle.proofs.Slots.{SlotsOf}
use Rattle.settle.proofs.Expose.{exposures-join, no-exposure, ruled-add, ruled-zero}
use Rattle.flash.specs.Looking.{exposed_by}
use Rattle.flash.proofs.Look.{look-cell}
use Rattle.ledger.specs.Ledger.{booked}

-- ---- pulses that are the same

same-direction : (d e : Direction) → same_direction d e ≡ true → d ≡ e
same-direction Program Program h = refl
same-direction Program Erase h = absurd (true≢false (sym h))
same-direction Erase Program h = absurd (true≢false (sym h))
same-direction Erase Erase h = refl

same-time : (s t : Time) → same_time s t ≡ true → s ≡ t
same-time s t h =
    let b = and_parts (eqb s.0 t.0) _ h in
    let e = eqb-true s.0 t.0 b.0 in
    let f = eqb-true s.1 t.1 b.1 in
    λ i. record { 0 = e i; 1 = f i }

pub same-pulse : (o o' : Option Pulse) → same_pulse o o' ≡ true → o ≡ o'
unfolding same_pulse
same-pulse None None h = refl
same-pulse None (Some q) h = absurd (true≢false (sym h))
same-pulse (Some p) None h = absurd (true≢false (sym h))
same-pulse (Some p) (Some q) h =
    let b = and_parts (same_direction p.direction q.direction && eqb p.first q.first && eqb p.pages q.pages) _ h in
    let b' = and_parts (same_direction p.direction q.direction && eqb p.first q.first) _ b.0 in
    let b'' = and_parts (same_direction p.direction q.direction) _ b'.0 in
    let d = same-direction p.direction q.direction b''.0 in
    let f = eqb-true p.first q.first b''.1 in
    let n = eqb-true p.pages q.pages b'.1 in
    let r = same-time p.ready q.ready b.1 in
    λ i. Some (record { direction = d i; first = f i; pages = n i; ready = r i })

pub pulse-same : (o : Option Pulse) → same_pulse o o ≡ true
unfolding same_pulse
pulse-same None = refl
pulse-same (Some p) =
    rw (eq-eqb p.first p.first refl, eq-eqb p.pages p.pages refl, eq-eqb p.ready.0 p.ready.0 refl, eq-eqb p.ready.1 p.ready.1 refl)
    (by p.direction)
  where
    by : (d : Direction) → (same_direction d d && true && true && true) ≡ true
    by Program = refl
    by Erase = refl

-- ---- booking and settling

pub settle-closed : (o : Option Pulse) (latch : List ℕ) (since t : Time) (c : Cells) → o ≡ None → settled_by o latch since t c ≡ c
unfolding settled_by
settle-closed o latch since t c e = rw e

-- an exposure that is not 0 goes by the rule of a cell
exposed-above : (p : Pulse) (latch : List ℕ) (l i q : ℕ) → 0 < l → exposed_by p latch l i q ≡ ruled p latch l i q
unfolding exposed_by
exposed-above p latch zero i q h = absurd (omega arith)
exposed-above p latch (suc l) i q h = refl

-- for a charge that a cell can hold it is the rule, by no exposure too
pub exposed-ruled : (p : Pulse) (latch : List ℕ) (l i q : ℕ) → q ≤ FULL → exposed_by p latch l i q ≡ ruled p latch l i q
unfolding exposed_by
exposed-ruled p latch zero i q h = sym (ruled-zero p latch i q h)
exposed-ruled p latch (suc l) i q h = refl

exposed-add : (p : Pulse) (latch : List ℕ) (l m i q : ℕ) → exposed_by p latch m i (exposed_by p latch l i q) ≡ exposed_by p latch (l + m) i q
unfolding exposed_by
exposed-add p latch zero m i q = rw (zero-add m)
exposed-add p latch (suc l) zero i q = rw (add-zero (suc l))
exposed-add p latch (suc l) (suc m) i q =
    ruled-add p latch (suc l) (suc m) i q ∙ sym (exposed-above p latch (suc l + suc m) i q (omega arith))

pub book-now : (o : Option Pulse) (latch : List ℕ) (t : Time) (charge : ℕ → ℕ) (i : ℕ) → booked o latch t t charge i ≡ charge i
unfolding booked exposed_by
book-now None latch t charge i = refl
book-now (Some p) latch t charge i = rw (no-exposure p t)

pub settle-book : (o : Option Pulse) (latch : List ℕ) (opened since t : Time) (charge : ℕ → ℕ) (c : Cells) → SlotsOf c → raw opened ≤ raw since
    → raw since ≤ raw t → (i : ℕ) → i < 393216 → cell_at c i ≡ booked o latch opened since charge i
    → cell_at (settled_by o latch since t c) i ≡ booked o latch opened t charge i
unfolding booked settled_by
settle-book None latch opened since t charge c inv h k i l e = e
settle-book (Some p) latch opened since t charge c inv h k i l e =
    look-cell p latch (exposure p since t) c inv i l
    ∙ ap (exposed_by p latch (exposure p since t) i) e
    ∙ exposed-add p latch (exposure p opened since) (exposure p since t) i (charge i)
    ∙ ap (λ (n : ℕ). exposed_by p latch n i (charge i)) (exposures-join p opened since t h k)

-- the same pulse with the same latch books the same
pub book-kept : (o o' : Option Pulse) (latch latch' : List ℕ) → o' ≡ o → ((p : Pulse) → o ≡ Some p → latch' ≡ latch)
    → (opened t : Time) (charge : ℕ → ℕ) (i : ℕ) → booked o latch opened t charge i ≡ booked o' latch' opened t charge i
unfolding booked
book-kept None o' latch latch' e h opened t charge i = rw e
book-kept (Some p) o' latch latch' e h opened t charge i = rw (e, h p refl)
