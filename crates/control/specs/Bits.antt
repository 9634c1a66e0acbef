-- The registers' addresses and bits, and the values that writes store. Document 01, "Registers and latch".
-- Assumes nothing.
use Rattle.std.specs.Prelude.{ℕ, ◌+◌, ◌/◌, ◌%◌, Bool, cond, not, ◌&&◌, ◌||◌, leb, eqb, Option, Some, None}
use Rattle.cell.specs.Cell.{bit}
use Rattle.cell.specs.declared.Direction.{Direction}
use Rattle.cell.specs.declared.Direction.TheVariants.{Program, Erase}

-- The registers' addresses.
abbrev pub FLMCR1 : ℕ
FLMCR1 = 0xF020

abbrev pub FLMCR2 : ℕ
FLMCR2 = 0xF021

abbrev pub FLPWCR : ℕ
FLPWCR = 0xF022

abbrev pub EBR1 : ℕ
EBR1 = 0xF023

abbrev pub FENR : ℕ
FENR = 0xF02B

-- F020 control: 40 SWE, 20 ESU, 10 PSU, 8 EV, 4 PV, 2 E, 1 P.
abbrev pub SWE : ℕ
SWE = 0x40

abbrev pub ESU : ℕ
ESU = 0x20

abbrev pub PSU : ℕ
PSU = 0x10

abbrev pub EV : ℕ
EV = 8

abbrev pub PV : ℕ
PV = 4

abbrev pub E : ℕ
E = 2

abbrev pub P : ℕ
P = 1

-- bit 7 of the flag registers
abbrev pub FLAG : ℕ
FLAG = 0x80

-- whether the bit of value d is set in v
abbrev pub has : ℕ → ℕ → Bool
has v d = eqb (v / d % 2) 1

-- P, E, PV and EV: control's low four bits
abbrev pub low : ℕ → ℕ
low v = v % 16

-- PV alone or EV alone
abbrev pub verifies : ℕ → Bool
verifies v = eqb (low v) PV || eqb (low v) EV

-- the pulse that control asks for: P alone with PSU, or E alone with ESU
abbrev pub opened_by : ℕ → Option Direction
opened_by v = cond (eqb (low v) P && has v PSU) (Some Program) (cond (eqb (low v) E && has v ESU) (Some Erase) None)

-- whether the bit of value d falls or rises as control goes from old to new
abbrev pub falls : ℕ → ℕ → ℕ → Bool
falls d old new = has old d && not (has new d)

abbrev pub rises : ℕ → ℕ → ℕ → Bool
rises d old new = has new d && not (has old d)

-- a flag as its register's bit 7
abbrev pub flag : Bool → ℕ
flag b = cond b FLAG 0

-- Writing F020: bit 7 drops; without SWE the value is 0.
abbrev pub control_value : ℕ → ℕ
control_value v = cond (has v SWE) (v % 128) 0

-- Without SWE erase becomes 0.
abbrev pub erase_after : ℕ → ℕ → ℕ
erase_after new erase = cond (has new SWE) erase 0

-- how many bits of a byte are set
abbrev pub bit_count : ℕ → ℕ
bit_count v = bit v 0 + bit v 1 + bit v 2 + bit v 3 + bit v 4 + bit v 5 + bit v 6 + bit v 7

-- F023 is stored as 0 if more than one bit is set.
abbrev pub erase_value : ℕ → ℕ
erase_value v = cond (leb (bit_count v) 1) v 0

-- the setup bit that matches a pulse's direction
abbrev pub setup : Direction → ℕ
setup Program = PSU
setup Erase = ESU
