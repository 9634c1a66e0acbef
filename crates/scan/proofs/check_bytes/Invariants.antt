-- `scan::check_bytes` meets its contract. The loop's invariant: what all bytes answer is what those from i on answer.
-- Assumes nothing.
use Rattle.std.proofs.Common.{◌≡◌, ◌+◌, drop}
use Rattle.snapshot.specs.Places.{bytes_number}
use Rattle.scan.proofs.check_bytes.Given as goal

abbrev pub invariant-loop-i : goal.invariant-loop-i
invariant-loop-i l = bytes_number l.limits l.bytes l.at ≡ bytes_number (drop l.i l.limits) l.bytes (l.at + l.i)
