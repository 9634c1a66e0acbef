-- A time in seconds, exactly as a history may write it, and an event in words. Each is a template as it is printed.
-- Assumes nothing.
use Rattle.std.specs.Prelude.{ℕ, ◌+◌, ◌-◌, ◌/◌, min, Bool, cond, List, [], ◌∷◌, ◌++◌, Option, Some, None, eqb}
use Rattle.registers.specs.Calls.{ending_number}
use Rattle.registers.specs.declared.Ending.TheVariants.{Completed}
use Rattle.settle.specs.Words.{kind_in, address_in, value_in, is_byte}
use Rattle.moments.specs.Moments.{microsecond, exact_of}
use Rattle.text.specs.Text.{said, either}

-- ---- times

-- the microsecond of a second in which a fraction lies
abbrev pub microsecond_in : ℕ → ℕ
microsecond_in fraction = min (fraction / microsecond) 999999

-- A fraction that is not 0: six decimals. Where it is not exactly that of some microseconds, the whole time follows as SECONDS:FRACTION.
abbrev pub fraction_said : Option ℕ → ℕ → ℕ → List ℕ
fraction_said (Some n) seconds fraction = said ".^" (n ∷ [])
fraction_said None seconds fraction = said ".^ (%:%)" (microsecond_in fraction ∷ seconds ∷ fraction ∷ [])

abbrev pub instant_said : ℕ → ℕ → List ℕ
instant_said seconds fraction =
    said "%" (seconds ∷ []) ++ cond (eqb fraction 0) [] (fraction_said (exact_of fraction) seconds fraction)

-- ---- events

abbrev pub last_address : ℕ → ℕ
last_address word = address_in word + value_in word - 1

abbrev pub is_completed : ℕ → Bool
is_completed word = eqb (kind_in word) (ending_number Completed)

-- a pulse over a stretch of addresses has ended
abbrev pub end_said : ℕ → List ℕ
end_said word =
    either (is_completed word) ": the pulse over $ to $ is completed\n" ": the pulse over $ to $ is interrupted\n" (address_in word ∷ last_address word ∷ [])

-- a byte has a new value, or a pulse has ended
abbrev pub happened : ℕ → List ℕ
happened word = cond (is_byte word) (said ": byte $ becomes &\n" (address_in word ∷ value_in word ∷ [])) (end_said word)

abbrev pub event_said : ℕ → ℕ → ℕ → List ℕ
event_said seconds fraction word = said "at " [] ++ instant_said seconds fraction ++ happened word
