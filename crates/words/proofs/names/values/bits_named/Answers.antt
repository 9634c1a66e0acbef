-- Each turn takes the next part, which the split gives.
use Rattle.std.proofs.Common.{◌≡◌, ◌≤◌, length, Err, sym, ◌∙◌, rules, tests, eqb, arith}
use Rattle.std.specs.List.{slice_split}
use Rattle.std.proofs.lemmas.List.{length_push}
use Rattle.std.proofs.lemmas.Iterator.Consumers.{YieldsList-turn, YieldsList-end}
use Rattle.std.proofs.lemmas.Iterator.Splits.{YieldsList-from_slice_split}
use Rattle.words.proofs.Sums.{ended, went_on, sum_all}
use Rattle.words.proofs.names.values.bits_named.Goals as goal

pub returns-in_err-sum : goal.returns-in_err-sum
returns-in_err-sum c =
    let t = YieldsList-turn (YieldsList-from_slice_split _ (λ b. eqb b 43) c.args.word.now (cc) (cc) (cc) (λ x b q k. search (rules, tests))) c.loop-part.yielded _ c.loop-part.yielded_by _ _ c.in-Some.part c.in-Some.is c.next.ensures.steps in
    let r : c.from_residual.result ≡ Err c.in_err-sum.field-0.0 = search rules in
    r ∙ sym (ended c.args.register c.loop-part.sum _ c.in-Some.part.now _ t _ c.in_err-sum.ensures) ∙ c.loop-part.invariant.2

pub loop-part-preserved : goal.loop-part-preserved
loop-part-preserved c =
    let t = YieldsList-turn (YieldsList-from_slice_split _ (λ b. eqb b 43) c.args.word.now (cc) (cc) (cc) (λ x b q k. search (rules, tests))) c.loop-part.yielded _ c.loop-part.yielded_by _ _ c.in-Some.part c.in-Some.is c.next.ensures.steps in
    let e = went_on c.args.register c.loop-part.sum _ c.in-Some.part.now _ t _ c.in_ok-sum.ensures in
    (search rules, tt, rw length_push (sym e ∙ c.loop-part.invariant.2))

pub returns : goal.returns
returns c =
    let t = YieldsList-end (YieldsList-from_slice_split _ (λ b. eqb b 43) c.args.word.now (cc) (cc) (cc) (λ x b q k. search (rules, tests))) c.loop-part.yielded _ c.loop-part.yielded_by _ _ c.in-None.is c.next.ensures.steps in
    let over : length (slice_split (λ b. eqb b 43) c.args.word.now) ≤ length c.loop-part.yielded = omega (arith, t.1) in
    sym (sum_all c.args.register c.loop-part.sum _ _ over) ∙ c.loop-part.invariant.2
