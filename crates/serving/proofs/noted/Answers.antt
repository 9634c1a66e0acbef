-- `serving::noted` meets its contract, by whether the call was refused. Assumes nothing.
use mathlib.Core.Path.{refl}
use native.Mathlib.Omega.{arith}
use borrow.Author.Tests.{ne_eqb}
use Rattle.refusal.specs.Refusal.{number}
use Rattle.refusal.proofs.Outcomes.{number-some, numbered_number}
use Rattle.text.proofs.Joined.{puts_none}
use Rattle.serving.proofs.noted.Goals as goal

pub returns-in-Ok : goal.returns-in-Ok
returns-in-Ok c = λ m. rw c.in-Ok.is (c.made.ensures m)

pub returns-in-Err : goal.returns-in-Err
returns-in-Err c =
    let r = c.in-Err.refusal in
    let some = ne_eqb (number r) 0 (λ z. omega (arith, number-some r)) in
    λ m. rw (c.in-Err.is, some, numbered_number r, c.complained.ensures)
    (record {
      course_is = refl;
      memory_is = refl;
      events_are = refl;
      said_is = puts_none 0 _;
      complaints_are = refl;
    })
