-- The names of a history's calls, registers, bits, modes and supplies, as tables. Letters' case does not matter.
-- Assumes nothing.
use Rattle.std.specs.Prelude.{ℕ, Bool, true, false, cond, List, [], ◌∷◌, Option, eqb}
use Prim.Native.String.{String}
use Rattle.control.specs.Bits.{FLMCR1, FLMCR2, FLPWCR, EBR1, FENR, SWE, ESU, PSU, EV, PV, E, P, FLAG}
use Rattle.words.specs.Text.{text, named}
use Rattle.words.specs.declared.names.Kind.{Kind}
use Rattle.words.specs.declared.names.Kind.TheVariants.{Write, Data, Read, Word, Protect, Reset, PowerOff, Environment, Look}

-- a name, and what it means
abbrev pub entry : {A : Type 0} → String → A → List ℕ × A
entry s m = (text s, m)

-- ---- calls

abbrev pub calls : List (List ℕ × Kind)
calls =
    entry "WRITE" Write
    ∷ entry "DATA" Data
    ∷ entry "READ" Read
    ∷ entry "WORD" Word
    ∷ entry "PROTECT" Protect
    ∷ entry "RESET" Reset
    ∷ entry "POWER-OFF" PowerOff
    ∷ entry "ENVIRONMENT" Environment
    ∷ entry "LOOK" Look
    ∷ []

abbrev pub call_named : List ℕ → Option Kind
call_named bs = named calls bs

-- ---- registers and their bits

abbrev pub registers : List (List ℕ × ℕ)
registers =
    entry "FLMCR1" FLMCR1 ∷ entry "FLMCR2" FLMCR2 ∷ entry "FLPWCR" FLPWCR ∷ entry "EBR1" EBR1 ∷ entry "FENR" FENR ∷ []

abbrev pub register_named : List ℕ → Option ℕ
register_named bs = named registers bs

abbrev pub control_bits : List (List ℕ × ℕ)
control_bits =
    entry "SWE" SWE ∷ entry "ESU" ESU ∷ entry "PSU" PSU ∷ entry "EV" EV ∷ entry "PV" PV ∷ entry "E" E ∷ entry "P" P ∷ []

abbrev pub erase_bits : List (List ℕ × ℕ)
erase_bits =
    entry "EB0" 0x01 ∷ entry "EB1" 0x02 ∷ entry "EB2" 0x04 ∷ entry "EB3" 0x08 ∷ entry "EB4" 0x10 ∷ entry "EB5" 0x20 ∷ []

-- a register with one bit, its bit 7
abbrev pub flag_named : String → List (List ℕ × ℕ)
flag_named n = entry n FLAG ∷ []

-- the names of a register's bits
abbrev pub bits_of : ℕ → List (List ℕ × ℕ)
bits_of register =
    cond (eqb register FLMCR1) control_bits
    (cond (eqb register FLMCR2) (flag_named "FLER")
    (cond (eqb register FLPWCR) (flag_named "PDWND")
    (cond (eqb register EBR1) erase_bits
    (cond (eqb register FENR) (flag_named "FLSHE")
    []))))

unfoldable pub bit_named : ℕ → List ℕ → Option ℕ
bit_named register bs = named (bits_of register) bs

-- ---- modes and supplies

abbrev pub modes : List (List ℕ × ℕ)
modes = entry "ACTIVE" 0 ∷ entry "SUBACTIVE" 1 ∷ entry "SLEEP" 2 ∷ entry "SUBSLEEP" 3 ∷ entry "WATCH" 4 ∷ entry "STANDBY" 5 ∷ []

-- whether the module has its supply
abbrev pub modules : List (List ℕ × Bool)
modules = entry "NO-MODULE" false ∷ entry "MODULE" true ∷ []

-- whether the oscillator runs
abbrev pub oscillators : List (List ℕ × Bool)
oscillators = entry "NO-OSCILLATOR" false ∷ entry "OSCILLATOR" true ∷ []
