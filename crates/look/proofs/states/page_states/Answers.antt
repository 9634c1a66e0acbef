-- `look::states::page_states` meets its contract. The loop's invariant: the pages passed have their states. Assumes nothing.
use mathlib.Core.Path.{sym, ◌∙◌}
use native.Mathlib.Omega.{arith}
use lib.ListN.{length-set}
use Rattle.std.proofs.lemmas.List.Edits.{fill_by_more}
use Rattle.std.proofs.lemmas.List.FromFn.{fill_by_all}
use Rattle.flash.specs.declared.PageState.TheVariants.{Blank}
use Rattle.flash.specs.Looking.{page_state, page_states}
use Rattle.flash.specs.Views.{chip_of}
use Rattle.look.proofs.states.page_states.Goals as goal

pub loop-page-preserved : goal.loop-page-preserved
loop-page-preserved c =
    let l = c.loop-page in
    (length-set l.states l.page _ ∙ l.invariant.0, rw (c.state.ensures _ _ (sym c.at-view.ensures)) (fill_by_more _ l.states l.page Blank (omega arith) l.invariant.1))

pub returns : goal.returns
unfolding page_states
returns c =
    let l = c.loop-page in
    fill_by_all (page_state c.args.time (chip_of c.args.held.now)) l.states 384 Blank l.invariant.0 (λ k h. l.invariant.1 k (omega arith))
