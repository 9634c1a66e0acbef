-- `time::Time::checked_add` meets its contract: the halves add with a carry of 0 or 1, and the sum has more than 128 bits
-- where the seconds with the carry have more than 64. Assumes nothing.
use Rattle.std.proofs.Common.{◌≡◌, ◌∙◌}
use Rattle.std.specs.Prelude.{ℕ, Bool, true, false, not, ◌+◌, ◌*◌, ◌^◌, ◌<◌}
use Rattle.std.specs.Bool.{then_some}
use Rattle.std.specs.Int.{from_bool}
use Rattle.time.specs.declared.Time.{Time}
use Rattle.time.specs.declared.Duration.{Duration}
use Rattle.time.specs.Raw.{added}
use Rattle.time.proofs.Laws.{is-added, not-added}
use native.Mathlib.Omega.{arith}
use Rattle.time.proofs.Time.checked_add.Goals as goal

in-range : (over : Bool) (t : Time) (d : Duration) (u : Time) (k : ℕ) → u.0 < 2 ^ 64 → u.1 < 2 ^ 64 → u.0 + from_bool over * 2 ^ 64 ≡ t.0 + d.0 + k → u.1 + k * 2 ^ 64 ≡ t.1 + d.1 → then_some (not over) u ≡ added t d
in-range true t d u k _ _ e f = not-added t d k (omega arith) (omega arith)
in-range false t d u k h l e f = is-added t d u k h l (omega arith) f

pub returns : goal.returns
returns c = c.then_some.ensures ∙ in-range c.carrying_add-high.result.1 c.args.self c.args.d _ (from_bool c.carrying_add-low.result.1) (omega arith) (omega arith) (omega arith) (omega arith)
