-- `text::Text::put_text` meets its contract: as many bytes are copied as have room. Assumes nothing.
use mathlib.Core.Path.{refl}
use native.Mathlib.Omega.{arith}
use Rattle.text.proofs.Joined.{says-cut, puts_copied}
use Rattle.text.proofs.Text.put_text.Goals as goal

pub returns-then-self : goal.returns-then-self
returns-then-self c = says-cut _ _ c.if-self.true

pub returns : goal.returns
returns c = record {
  same = refl;
  puts = puts_copied _ _ _ _ _ _ c.if-self.false c.min.ensures (omega arith) c.copy_from_slice.ensures.after;
}
