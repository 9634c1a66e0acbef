-- `text::Text::fill` meets its contract: a byte of the template is a step of what is left to put. Assumes nothing.
use mathlib.Core.Path.{refl, ap, ◌∙◌}
use native.Mathlib.Omega.{arith}
use Rattle.text.specs.Text.{taken}
use Rattle.text.proofs.Filling.{taken-most, left_step, left-none}
use Rattle.text.proofs.Text.fill.Goals as goal

pub loop-b-preserved : goal.loop-b-preserved
loop-b-preserved c = (
  omega (arith, c.taken-used.ensures, taken-most c.mark_of.result),
  left_step _ _ _ _ _ _ _ _ _ _ _ c.loop-b.invariant.1 (omega arith) refl c.number_at.ensures (c.taken-used.ensures ∙ ap taken c.mark_of.ensures) c.put_piece.ensures,
)

pub returns : goal.returns
returns c = left-none _ _ _ _ _ _ _ c.loop-b.invariant.1 (omega arith)
