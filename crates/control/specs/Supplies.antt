-- Modes and supplies. Document 01, "Supply and reset".
-- Assumes nothing.
use Rattle.std.specs.Prelude.{ℕ, Bool, cond, not, ◌&&◌, ◌||◌, leb, eqb}
use Rattle.control.specs.declared.Mode.{Mode}
use Rattle.control.specs.declared.Mode.TheVariants.{Active, Subactive, Sleep, Subsleep, Watch, Standby}
use Rattle.control.specs.declared.Supply.{Supply}
use Rattle.control.specs.declared.Supply.TheVariants.{Normal, Reduced, Stopped}

-- Modes 0 to 5: Active, Subactive, Sleep, Subsleep, Watch, Standby.
abbrev pub mode_number : Mode → ℕ
mode_number Active = 0
mode_number Subactive = 1
mode_number Sleep = 2
mode_number Subsleep = 3
mode_number Watch = 4
mode_number Standby = 5

-- Supplies: Normal 0, Reduced 1, Stopped 2.
abbrev pub supply_number : Supply → ℕ
supply_number Normal = 0
supply_number Reduced = 1
supply_number Stopped = 2

abbrev pub is_normal : Supply → Bool
is_normal supply = eqb (supply_number supply) 0

abbrev pub is_stopped : Supply → Bool
is_stopped supply = eqb (supply_number supply) 2

-- Supply is Stopped without module or in modes 3 to 5; Reduced in Subactive unless power-down is disabled; else Normal.
unfoldable pub supply_in : Mode → Bool → Bool → Supply
supply_in mode modul powerDownDisabled =
    cond (not modul || leb 3 (mode_number mode)) Stopped
    (cond (eqb (mode_number mode) 1 && not powerDownDisabled) Reduced Normal)

-- the same supply, the same mode
abbrev pub same_supply : Supply → Supply → Bool
same_supply a b = eqb (supply_number a) (supply_number b)

abbrev pub same_mode : Mode → Mode → Bool
same_mode a b = eqb (mode_number a) (mode_number b)

-- a supply change from not Normal to not Stopped
abbrev pub supplied : Supply → Supply → Bool
supplied new old = not (same_supply new old) && not (is_normal old) && not (is_stopped new)

-- oscillator starting
abbrev pub starts : Bool → Bool → Bool
starts new old = new && not old
