-- `restore::read_snapshot` meets its contract: a refusal by memory, time or a field is the snapshot's, and past them it is taken or
-- refused as `take` says. Assumes nothing.
use mathlib.Core.Path.{◌≡◌, refl, sym, ap, ◌∙◌}
use mathlib.Core.Bool.{true, false}
use borrow.Author.Rules.{rules}
use Rattle.refusal.specs.Refusal.{number}
use Rattle.refusal.proofs.Outcomes.{passed-on}
use Rattle.lent.specs.Memory.{last_second, misfits}
use Rattle.scan.proofs.Turns.{refused}
use Rattle.restore.proofs.Taken.{sizes-refused, time-refused, scan-refused, read-by-place}
use Rattle.restore.proofs.read_snapshot.Goals as goal

pub returns-then-misfits-clause-refused : goal.returns-then-misfits-clause-refused
returns-then-misfits-clause-refused c = sizes-refused _ _ _ (ap misfits (sym c.seen.ensures) ∙ sym c.misfits.ensures ∙ c.if-misfits.true)

pub returns-in_err-ok_or-clause-refused : goal.returns-in_err-ok_or-clause-refused
returns-in_err-ok_or-clause-refused c =
    let last : last_second c.args.time ≡ true = search rules in
    let five : number c.in_err-ok_or.field-0.0 ≡ 5 = search rules in
    rw (passed-on _ c.from_residual.ensures.1) (five ∙ time-refused _ _ _ (ap misfits (sym c.seen.ensures) ∙ sym c.misfits.ensures ∙ c.if-misfits.false) last)

pub returns-in_err-scan : goal.returns-in_err-scan
returns-in_err-scan c =
    let last : last_second c.args.time ≡ false = search rules in
    let t =
    scan-refused _ _ _ (λ j. (c.type_inv.bytes j).fits) (ap misfits (sym c.seen.ensures) ∙ sym c.misfits.ensures ∙ c.if-misfits.false) last _
    c.in_err-scan.ensures.told (refused _) in
    rw (passed-on _ c.from_residual-in_err-scan.ensures.1) (record { same = record { same_record = refl; same_array = refl; same_charges = refl }; refused = t.0; left = t.1 })

pub returns : goal.returns
returns c =
    let e = c.in_ok-scan.ensures in
    let last : last_second c.args.time ≡ false = search rules in
    let t =
    read-by-place _ _ _ (λ j. (c.type_inv.bytes j).fits) (ap misfits (sym c.seen.ensures) ∙ sym c.misfits.ensures ∙ c.if-misfits.false) last _
    (sym e.told) (rw e.same at c.take.ensures.judged) (rw e.same at c.take.ensures.left) in
    record { same = c.take.ensures.same; refused = t.0; left = t.1 }
