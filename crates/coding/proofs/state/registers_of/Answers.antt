-- `coding::state::registers_of` meets its contract: each instant is the pair at its place. Assumes nothing.
use Rattle.std.proofs.Common.{rules, ◌≡◌, ℕ, ◌<◌, [], ◌∷◌, get_or, arith}
use Rattle.time.specs.declared.Time.{Time}
use Rattle.layout.specs.Layout.{registers_of, instant_count}
use Rattle.std.proofs.lemmas.List.FromFn.{fill_by_all}
use Rattle.coding.proofs.state.registers_of.Goals as goal

pub returns : goal.returns
unfolding registers_of
returns c =
    let t : ℕ → Time = λ k. get_or c.map-instants.result k (record { 0 = 0; 1 = 0 }) in
    let each : (k : ℕ) → k < instant_count → get_or c.args.halves k [] ≡ (t k).0 ∷ (t k).1 ∷ [] = search arith in
    rw (fill_by_all (λ k. (t k).0 ∷ (t k).1 ∷ []) c.args.halves instant_count [] (search rules) each, c.supply_of.ensures, c.mode_of.ensures, c.then_some.ensures) (search rules)
