-- Reading event words: kind × 2^32 + address × 2^16 + value or length. Document 01, under "Order of checking".
-- Assumes nothing.
use Rattle.std.specs.Prelude.{ℕ, ◌/◌, ◌%◌, ◌^◌, Bool, eqb}
use Rattle.settle.specs.Settling.{byte_kind}

abbrev pub kind_in : ℕ → ℕ
kind_in w = w / 2 ^ 32

abbrev pub address_in : ℕ → ℕ
address_in w = w / 2 ^ 16 % 2 ^ 16

abbrev pub value_in : ℕ → ℕ
value_in w = w % 2 ^ 16

abbrev pub is_byte : ℕ → Bool
is_byte w = eqb (kind_in w) byte_kind
