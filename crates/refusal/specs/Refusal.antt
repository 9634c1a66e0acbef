-- The table of refusals: the number of each, and what an outcome tells. Document 01, "Order of checking".
-- Assumes nothing.
use Rattle.std.specs.Prelude.{ℕ, ◌≡◌, ◌<◌, ◌⊎◌, cond, eqb, Result, Ok, Err, MatchResult}
use Rattle.refusal.specs.declared.NoRefusal.{NoRefusal}
use Rattle.refusal.specs.declared.Refusal.{Refusal}
use Rattle.refusal.specs.declared.Refusal.TheVariants.{Firmware, Memory, Record, Place, LastSecond, TooEarly, Events, Output, EndsEarly, Field, LeftOver, Invalid}

abbrev pub number : Refusal → ℕ
number Firmware = 1
number Memory = 2
number Record = 3
number Place = 4
number LastSecond = 5
number TooEarly = 6
number Events = 7
number Output = 8
number EndsEarly = 9
number Field = 10
number LeftOver = 11
number Invalid = 12

-- the result is the refusal with this number, or an error with the number, which no refusal has
abbrev pub Decodes : ℕ → Result Refusal NoRefusal → Type 0
Decodes n r = MatchResult r (λ refusal. number refusal ≡ n) (λ e. (e.0 ≡ n) × ((n ≡ 0) ⊎ (12 < n)))

-- the refusal with a number, which is one of the table's
unfoldable pub numbered : ℕ → Refusal
numbered n =
    cond (eqb n 1) Firmware
    (cond (eqb n 2) Memory
    (cond (eqb n 3) Record
    (cond (eqb n 4) Place
    (cond (eqb n 5) LastSecond
    (cond (eqb n 6) TooEarly
    (cond (eqb n 7) Events
    (cond (eqb n 8) Output
    (cond (eqb n 9) EndsEarly
    (cond (eqb n 10) Field
    (cond (eqb n 11) LeftOver
    Invalid))))))))))

-- the number of an outcome: 0 where there is an answer
abbrev pub told : {A : Type 0} → Result A Refusal → ℕ
told (Ok _) = 0
told (Err r) = number r

-- an outcome is the answer where the number is 0, and else the refusal with that number
abbrev pub Answers : {A : Type 0} → ℕ → A → Result A Refusal → Type 0
Answers refusal answer (Ok value) = (refusal ≡ 0) × (value ≡ answer)
Answers refusal answer (Err r) = number r ≡ refusal
