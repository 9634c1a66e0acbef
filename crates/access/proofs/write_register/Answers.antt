-- `access::write_register` meets its contract: the settings after it are put back. Assumes nothing.
use Rattle.std.proofs.Common.{◌∙◌}
use Rattle.registers.specs.Access.{write_register}
use Rattle.access.proofs.Kept.{back, settling, not-settling}
use Rattle.access.proofs.write_register.Goals.{then-settles, else-settles}
use Rattle.access.proofs.write_register.Goals as goal

pub returns : goal.returns
returns c =
    let x = c.args in
    let s = c.if-settles.before in
    back (write_register x.address x.value x.now.time) s _ _ _ c.put_back.ensures c.settings_of.ensures c.write.ensures
    ∙ elim c.if-settles.branch [
      | then-settles w ↦ settling x.address x.value x.now.time x.registers s (w.before-is ∙ w.settled-before.ensures) w.if-settles.true
      | else-settles w ↦ not-settling x.address x.value x.now.time x.registers s w.before-is w.if-settles.false
    ]
