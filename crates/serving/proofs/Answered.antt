-- What a replay of calls that wait shows of the desk: it does at least one of them and none past the end, and what its last one came to,
-- noted at once, is the desk after all that it did. Assumes nothing.
use mathlib.Core.Path.{◌≡◌, ap, ◌∙◌}
use mathlib.Core.Bool.{false}
use mathlib.Core.List.{List, []}
use Prim.Native.Nat.{ℕ, ◌-◌, ◌*◌, ◌≤◌, ◌<◌}
use native.Mathlib.Omega.{arith}
use lib.ListN.{length}
use Rattle.refusal.specs.Refusal.{told}
use Rattle.lent.specs.Memory.{Memory}
use Rattle.lent.specs.Asked.{Outcome, value_of, count_of, came_to}
use Rattle.listing.specs.Replaying.{idle, end_in, asks, last_of, Replays}
use Rattle.listing.proofs.Claimed.{replay3}
use Rattle.listing.proofs.Going.{told_is}
use Rattle.history.proofs.Kept.{end_is}
use Rattle.listing.specs.declared.Replayed.{Replayed}
use Rattle.course.specs.declared.Course.{Course}
use Rattle.course.specs.declared.Manner.{Manner}
use Rattle.course.specs.declared.Noted.{Noted}
use Rattle.course.specs.Desk.{desk, called_all, numbered_from}
use Rattle.serving.specs.Noting.{noted_at_once}
use Rattle.serving.specs.Serving.{Notes, Serves}
use Rattle.serving.proofs.Quiet.{noted-once}

module _ (from to : ℕ) (calls lent : List ℕ) (m : Memory) (more : from < to) (long : 3 * to ≤ length calls)
    (answer : Replayed) {after : Memory} {events : List ℕ}
    (r : Replays from (asks from to calls lent m) lent m answer.done (told answer.last) (value_of answer.last) (count_of answer.last) after events) where
  -- at least one call is done, and none past the end
  pub done-some : (from < answer.done) × (answer.done ≤ to)
  done-some =
      let e = end_is to (length calls) long in
      let h = replay3.further from to calls lent m (rw e more) in
      (omega (arith, h.0, r.done_is), omega (arith, h.1, e, r.done_is))

  -- what the last of them came to
  last-is : last_of (asks from to calls lent m) (idle lent m) ≡ came_to answer.last events after
  last-is = told_is r.told r.value_is

  module _ (w : Manner) (numbers : List ℕ) (course : Course) (on : course.stopped ≡ false) where
    -- the desk after the calls done
    desk_is : called_all w (numbered_from (answer.done - from) from calls numbers) (desk course m lent)
        ≡ noted_at_once w from (answer.done - 1) calls numbers (came_to answer.last events after) (desk course m lent)
    desk_is =
        let n : answer.done - from ≡ length (asks from to calls lent m) = omega (arith, r.done_is) in
        rw n
        (noted-once w calls numbers [] [] (end_in to (length calls) - from) from (answer.done - 1) course (idle lent m) on
        (omega (arith, done-some.0)) (omega (arith, done-some.0, r.done_is))
        ∙ ap (λ (o : Outcome). noted_at_once w from (answer.done - 1) calls numbers o (desk course m lent)) last-is)

    pub serves : {out left : List ℕ} {r : Noted}
        → Notes (noted_at_once w from (answer.done - 1) calls numbers) course answer.last events out left r
        → Serves w calls numbers from to (desk course m lent) after events out left (record { noted = r; next = answer.done })
    serves n =
        record {
          further = done-some.0;
          inside = done-some.1;
          leaves = rw desk_is (n after);
        }
