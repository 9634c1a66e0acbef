-- A word's parts read back while its address and value have 16 bits. Assumes nothing.
use mathlib.Core.Path.{◌≡◌}
use Prim.Native.Nat.{ℕ, ◌^◌, ◌<◌}
use native.Mathlib.Omega.{arith}
use Rattle.settle.specs.Settling.{word}
use Rattle.settle.specs.Words.{kind_in, address_in, value_in}

module _ (kind a v : ℕ) (h : a < 2 ^ 16) (k : v < 2 ^ 16) where
  pub word-kind : kind_in (word kind a v) ≡ kind
  unfolding word
  word-kind = omega arith

  pub word_address : address_in (word kind a v) ≡ a
  unfolding word
  word_address = omega arith

  pub word_value : value_in (word kind a v) ≡ v
  unfolding word
  word_value = omega arith
