-- `coding::read` meets its contract: what is read are the record's rows.
-- Assumes nothing.
use Rattle.std.proofs.Common.{◌≡◌, ℕ, ◌<◌, List, [], ◌∷◌, get_or, map, flat_map, refl, sym, arith, rules}
use Rattle.std.specs.List.{range_with_len}
use Rattle.time.specs.declared.Time.{Time}
use Rattle.flash.specs.declared.Flash.{Flash}
use Rattle.registers.specs.declared.Registers.{Registers}
use Rattle.rows.specs.Rows.{row, row_in}
use Rattle.layout.specs.Layout.{time_of, registers_of, rows_in, decoded, state_of, layout, instant_count, halves_at}
use Rattle.std.proofs.lemmas.List.FromFn.{fill_by_all}
use Rattle.coding.proofs.read.Goals as goal

made : (xs h a l s n : List ℕ) (pairs : List (List ℕ)) (r : Registers) (since : Time) → r ≡ registers_of h a (flat_map (λ halves. halves) pairs) l
    → h ≡ row_in layout 0 xs → a ≡ row_in layout 1 xs → pairs ≡ map (λ k. halves_at k xs) (range_with_len 0 instant_count)
    → get_or pairs 6 [] ≡ since.0 ∷ since.1 ∷ [] → l ≡ row_in layout 3 xs → s ≡ row_in layout 4 xs → n ≡ row_in layout 5 xs
    → ◌≡◌ {A = Flash} (record { registers = r; pulse_since = since; sensed = s; indices = n }) (decoded xs)
unfolding decoded rows_in state_of row
made xs h a l s n pairs r since e eh ea ep et el es en =
    let halves = rw ep at et in
    let at : since ≡ time_of (row_in layout 2 xs) 12 = λ i. record { 0 = get_or (sym halves i) 0 0; 1 = get_or (sym halves i) 1 0 } in
    rw (e, eh, ea, ep, el, es, en, at) refl

pub returns : goal.returns
returns c =
    let xs = c.args.«record».now in
    let each : (k : ℕ) → k < instant_count → get_or c.from_fn-halves.result k [] ≡ halves_at k xs = search arith in
    made xs _ _ _ _ _ c.from_fn-halves.result _ c.into.result c.registers_of-registers.ensures c.row_at-head.ensures c.row_at-addresses.ensures
    (fill_by_all (λ k. halves_at k xs) _ instant_count [] (search rules) each) c.into.ensures c.row_at-latch.ensures c.row_at.ensures c.row_at-2.ensures
