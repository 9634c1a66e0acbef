-- The pieces in which a file is read. Assumes nothing.
use Rattle.std.specs.Prelude.{ℕ}

-- the size of a piece
abbrev pub piece_bytes : ℕ
piece_bytes = 65536
