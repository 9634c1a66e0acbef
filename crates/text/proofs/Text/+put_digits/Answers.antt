-- `text::Text::put_digits` meets its contract: what is put is the digits of the number without its last, by the call of itself, and
-- then the last. Assumes nothing.
use mathlib.Core.Path.{◌≡◌}
use Rattle.text.specs.Text.{base}
use Rattle.text.proofs.Joined.{says_none, says_append}
use Rattle.text.proofs.Spelled.{digits-none, digits_last, digits_more}
use Rattle.text.proofs.Text.+put_digits.Goals as goal
use Rattle.text.proofs.Text.+put_digits.Goals.{then-hex, else-hex, then-padded-base, else-padded-base}

pub returns-after-padded-base : goal.returns-after-padded-base
returns-after-padded-base t c =
    let same : c.if-hex.base ≡ base c.args.hex =
    elim c.if-hex.branch [ then-hex w ↦ rw w.if-hex.true w.base-is | else-hex w ↦ rw w.if-hex.false w.base-is ] in
    elim c.if-padded-base.branch [
      | then-padded-base w ↦
          rw (digits_more _ _ _ _ _ _ c.if-k-gt0.true same c.digit.ensures w.if-padded-base.true)
          (says_append _ _ _ _ _ (rw (← w.self-is) at w.put_digits.ensures) c.put_byte.ensures)
      | else-padded-base w ↦
          rw (digits_last _ _ _ _ _ _ c.if-k-gt0.true same c.digit.ensures w.if-padded-base.false) (rw w.self-is at c.put_byte.ensures)
    ]

pub returns-else-k-gt0 : goal.returns-else-k-gt0
returns-else-k-gt0 t c = rw (digits-none _ _ _ _ c.if-k-gt0.false) (says_none _)
