-- `access::write_control` meets its contract: the settings after it are put back. Assumes nothing.
use Rattle.std.proofs.Common.{◌∙◌}
use Rattle.registers.specs.Access.{control_set}
use Rattle.control.specs.Bits.{control_value}
use Rattle.access.proofs.Kept.{back, control-kept}
use Rattle.access.proofs.write_control.Goals as goal

pub returns : goal.returns
returns c =
    let x = c.args in
    let new = control_value x.value in
    let changed = rw c.control_value.ensures at c.set_control-after.ensures in
    back (control_set new x.now.time) x.registers _ _ _ c.put_back.ensures c.settings_of.ensures changed ∙ control-kept new x.now.time x.registers
