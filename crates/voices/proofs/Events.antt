-- What is said of some event words, and then of one more, is said of all of them. Assumes nothing.
use mathlib.Core.Path.{◌≡◌, sym}
use mathlib.Core.List.{List, [], ◌∷◌, ◌++◌, append-nil, append_assoc}
use Prim.Native.Nat.{ℕ, suc, ◌<◌}
use lib.ListN.{length, take, get_or}
use lib.Seq.{take-suc}
use Rattle.time.specs.declared.Time.{Time}
use Rattle.sayings.specs.Sayings.{event_said}
use Rattle.course.specs.Desk.{events_said}

events-more : (t : Time) (ws : List ℕ) (w : ℕ) → events_said t (ws ++ w ∷ []) ≡ events_said t ws ++ event_said t.0 t.1 w
unfolding events_said
events-more t [] w = append-nil _
events-more t (v ∷ ws) w = rw (events-more t ws w) (sym (append_assoc (event_said t.0 t.1 v) (events_said t ws) _))

pub events-snoc : (t : Time) (ws : List ℕ) (i : ℕ) → i < length ws
    → events_said t (take (suc i) ws) ≡ events_said t (take i ws) ++ event_said t.0 t.1 (get_or ws i 0)
events-snoc t ws i h = rw (take-suc ws i 0 h) (events-more t (take i ws) (get_or ws i 0))
