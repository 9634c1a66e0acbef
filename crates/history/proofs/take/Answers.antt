-- `history::take` meets its contract: what the line was parsed as, by its four cases, is what the definition goes by. Assumes nothing.
use Prim.Native.Nat.{ℕ}
use mathlib.Core.List.{List, []}
use mathlib.Core.Path.{◌≡◌, sym, ◌∙◌}
use native.Mathlib.Nat.{add-zero}
use native.Mathlib.Omega.{arith}
use Rattle.std.specs.Prelude.{Option}
use Rattle.time.specs.declared.Time.{Time}
use Rattle.grammar.specs.declared.Line.{Line}
use Rattle.grammar.specs.Grammar.{line_of}
use Rattle.history.specs.History.{calls_of, time_after, Waiting, waits, Takes}
use Rattle.history.proofs.take.Goals as goal

-- without a call only the time changes
no_call : {line : List ℕ} {s : Waiting} {l : Line} {b : Option Time} → l ≡ line_of s.before line → b ≡ time_after s.before line → calls_of l ≡ []
    → Takes line s l (waits b s.count s.calls)
no_call is after none = record { line_is = is; left_is = rw (← is, none, after, add-zero) }

pub returns-in-Call : goal.returns-in-Call
returns-in-Call c =
    let is = sym c.parse-parsed.ensures ∙ c.in-Call.is in
    record { line_is = sym is; left_is = rw (is, c.time_after-before.ensures, c.put_call.ensures, c.word_of.ensures) }

pub returns-in-Nothing : goal.returns-in-Nothing
returns-in-Nothing c =
    let none : calls_of c.parse-parsed.result ≡ [] = grind arith in
    no_call c.parse-parsed.ensures c.time_after-before.ensures none
