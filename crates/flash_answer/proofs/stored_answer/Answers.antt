-- `flash_answer::stored_answer` meets its contract: a read that did not settle is normal, and its addresses lie inside the array. Assumes nothing.
use borrow.Author.Tests.{ltb-true, not-false}
use Prim.Native.Nat.{suc, ◌<◌}
use Rattle.registers.specs.Calls.{settles}
use native.Mathlib.Omega.{arith}
use Rattle.flash_answer.proofs.stored_answer.Goals as goal

pub serve_byte-requires : goal.serve_byte-requires
unfolding settles
serve_byte-requires c =
    let p = c.requires in let h : c.in-Read8.a < 49152 = ltb-true _ 49152 (rw c.in-Read8.is at p.1) in (not-false _ (rw c.in-Read8.is at p.0), omega (arith, p.2))

pub serve_word-requires : goal.serve_word-requires
unfolding settles
serve_word-requires c =
    let p = c.requires in let h : suc c.in-Read16.a < 49152 = ltb-true _ 49152 (rw c.in-Read16.is at p.1) in (not-false _ (rw c.in-Read16.is at p.0), omega (arith, p.2))
