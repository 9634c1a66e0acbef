-- Each turn takes the next piece, which is a word and its byte 0, or what no byte 0 ends.
use Rattle.std.proofs.Common.{refl, sym, rules, tests, of_calls, eqb}
use Rattle.std.specs.Cmp.Lexicographic.{same_text, other_text}
use Rattle.options.proofs.Reading.{read_none, read_word, read_on, read_all}
use Rattle.options.proofs.Words.{computes, piece_word, piece_on}
use Rattle.options.proofs.taking.all_words.Goals as goal

pub loop-piece-init : goal.loop-piece-init
loop-piece-init c = (search of_calls, tt, read_none _ (cc))

pub loop-piece-preserved-in-Some-strip_suffix : goal.loop-piece-preserved-in-Some-strip_suffix
loop-piece-preserved-in-Some-strip_suffix c =
    let k = c.in-Some.ensures.steps in
    let s = c.in-Some-strip_suffix.ensures.cases in
    let first = (k.1.2 (λ b. eqb b 0) (computes _ _ _ (λ x b q h. search (rules, tests)))).1 in
    let word = piece_word _ _ _ k.1.0 k.0 k.1.1 first _ s.1 (same_text _ _ (sym s.0)) in
    (search rules, tt, read_word _ _ _ _ c.loop-piece.invariant.2 c.in-Some-strip_suffix.word word _ c.step_at-given.ensures)

pub loop-piece-preserved : goal.loop-piece-preserved
loop-piece-preserved c =
    let k = c.in-Some.ensures.steps in
    let first = (k.1.2 (λ b. eqb b 0) (computes _ _ _ (λ x b q h. search (rules, tests)))).1 in
    let none = piece_on _ _ _ k.1.0 k.0 k.1.1 first (other_text _ _ (sym c.in_default.ensures.cases)) in
    (search rules, tt, read_on _ _ _ _ c.loop-piece.invariant.2 none _ refl)

pub returns : goal.returns
returns c = read_all _ c.loop-piece.invariant.2 c.in-None.ensures.steps.0
