-- What a permit of normal reading shows. Document 01, "Pulses and settling".
-- Assumes nothing.
use Rattle.std.specs.Prelude.{ℕ, List}
use Rattle.std.proofs.Common.{Bor}
use Rattle.permit.specs.declared.NormalRead.{NormalRead}

-- the array that was lent for it
abbrev pub shown : NormalRead → Bor (List ℕ)
shown permit = permit.array
