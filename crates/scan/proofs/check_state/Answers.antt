-- `scan::check_state` meets its contract: the fields passed so far rewrite the definition to the next one. Assumes nothing.
use Rattle.std.proofs.Common.{◌+◌, [], sym, arith}
use Rattle.refusal.proofs.Outcomes.{passed-on}
use Rattle.snapshot.specs.Places.{state_number}
use Rattle.scan.proofs.Turns.{first_stops, byte-there, state-small, refused}
use Rattle.scan.proofs.check_state.Goals as goal

pub returns-in_err-check_bytes : goal.returns-in_err-check_bytes
unfolding state_number
returns-in_err-check_bytes c =
    rw (passed-on _ c.from_residual.ensures.1) (first_stops _ c.in_err-check_bytes.ensures (refused _))

pub returns-in_err-check_end : goal.returns-in_err-check_end
unfolding state_number
returns-in_err-check_end c =
    rw (passed-on _ c.from_residual-in_err-check_end.ensures.1, ← c.in_ok-check_bytes.ensures) (first_stops _ c.in_err-check_end.ensures (refused _))

pub returns-in_err-check_bytes-2 : goal.returns-in_err-check_bytes-2
unfolding state_number
returns-in_err-check_bytes-2 c =
    rw (passed-on _ c.from_residual-in_err-check_bytes-2.ensures.1, ← c.in_ok-check_bytes.ensures, ← c.in_ok-check_end.ensures) (first_stops _ c.in_err-check_bytes-2.ensures (refused _))

pub returns-in_err-check_end-2 : goal.returns-in_err-check_end-2
unfolding state_number
returns-in_err-check_end-2 c =
    rw (passed-on _ c.from_residual-in_err-check_end-2.ensures.1, ← c.in_ok-check_bytes.ensures, ← c.in_ok-check_end.ensures, ← c.in_ok-check_bytes-2.ensures) (first_stops _ c.in_err-check_end-2.ensures (refused _))

pub returns-in_err-check_bytes-3 : goal.returns-in_err-check_bytes-3
unfolding state_number
returns-in_err-check_bytes-3 c =
    rw (passed-on _ c.from_residual-in_err-check_bytes-3.ensures.1, ← c.in_ok-check_bytes.ensures, ← c.in_ok-check_end.ensures, ← c.in_ok-check_bytes-2.ensures, ← c.in_ok-check_end-2.ensures) (first_stops _ c.in_err-check_bytes-3.ensures (refused _))

pub state_length-requires : goal.state_length-requires
state_length-requires c =
    let l = byte-there 1 [] c.args.bytes.now (c.args.at + 251) (sym c.in_ok-check_bytes-3.ensures) in
    omega arith

pub overflow_add-at-5 : goal.overflow_add-at-5
overflow_add-at-5 c =
    omega (arith, state-small c.args.bytes.now c.args.at)

pub returns : goal.returns
unfolding state_number
returns c =
    rw (
      ← c.in_ok-check_bytes.ensures,
      ← c.in_ok-check_end.ensures,
      ← c.in_ok-check_bytes-2.ensures,
      ← c.in_ok-check_end-2.ensures,
      ← c.in_ok-check_bytes-3.ensures,
      ← c.state_length.ensures,
    )
    c.check_end-3.ensures
