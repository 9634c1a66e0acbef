-- `checks::legible` meets its contract: what is read are the record's rows, but for the halves, of which it reads the last instant's.
-- Assumes nothing.
use Rattle.time.specs.declared.Time.{Time}
use Rattle.settle.specs.Pages.{slots_sound}
use Rattle.lists.specs.Lists.{at}
use Prim.Native.Nat.{ℕ}
use mathlib.Core.Bool.{Bool, ◌&&◌}
use mathlib.Core.List.{List, [], ◌∷◌}
use mathlib.Core.Path.{◌≡◌, refl, sym}
use Rattle.rows.specs.Rows.{row, row_in}
use Rattle.layout.specs.Layout.{layout, halves_at, time_of, head_known, nothing_clear, rows_in, legible}
use Rattle.checks.proofs.legible.Goals as goal

told : (xs h a v n : List ℕ) (instant : Time) (p q r : Bool) → p ≡ head_known h → q ≡ nothing_clear (at h 9) (at a 1) instant → r ≡ slots_sound n
    → h ≡ row_in layout 0 xs → a ≡ row_in layout 1 xs → v ≡ halves_at 7 xs → n ≡ row_in layout 5 xs → v ≡ instant.0 ∷ instant.1 ∷ [] → (p && q && r) ≡ legible (rows_in xs)
unfolding legible rows_in row
told xs h a v n instant p q r ep eq er eh ea ev en ei =
    let halves = rw ev at ei in
    -- the last instant of eight, by its halves
    let last : instant ≡ time_of (row_in layout 2 xs) 14 = λ i. record { 0 = at (sym halves i) 0; 1 = at (sym halves i) 1 } in
    rw (ep, eq, er, eh, ea, en, last) refl

pub returns : goal.returns
returns c =
    told _ _ _ _ _ _ _ _ _ c.head_known.ensures c.nothing_clear.ensures c.slots_sound.ensures c.row_at-head.ensures c.row_at-addresses.ensures c.row_at-instant.ensures c.row_at-indices.ensures c.into.ensures
