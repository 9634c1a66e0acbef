-- Looking over lent memory: the number, and the answer where it is 0. Document 01, "Order of checking" and "Cells and sensing".
-- Assumes nothing.
use Rattle.std.specs.Prelude.{ℕ, zero, suc, ◌+◌, ◌*◌, not, ◌||◌, List, [], ◌∷◌, ◌++◌, eqb, ltb, length}
use Rattle.std.proofs.lemmas.List.Edits.{sets}
use Rattle.refusal.specs.declared.Refusal.TheVariants as refused
use Rattle.time.specs.declared.Time.{Time}
use Rattle.cell.specs.Cell.{array_bytes}
use Rattle.registers.specs.Access.{register}
use Rattle.registers.specs.Pulses.{normal}
use Rattle.flash.specs.Chip.{fresh_flash}
use Rattle.flash.specs.Looking.{charge_at, peek_at, blank_at, image_at}
use Rattle.rows.specs.Rows.{flag_byte}
use Rattle.layout.specs.Layout.{decoded, encoded, refused3}
use Rattle.lent.specs.Memory.{Memory, chip_in, Check, check, first_given, misfits, record_misfits, sizes_misfit, past_end, bit_over, last_second, too_early, place_line}

-- the checks of a look at a record alone, and of one at a time; at memory, an address and a time
abbrev pub record_checks : List ℕ → List Check
record_checks bytes = check refused.Memory (record_misfits bytes) ∷ check refused.Record (refused3 bytes) ∷ []

abbrev pub size_refusal : List ℕ → ℕ
size_refusal bytes = first_given (check refused.Memory (record_misfits bytes) ∷ [])

abbrev pub time_checks : Time → List ℕ → List Check
time_checks t bytes = check refused.LastSecond (last_second t) ∷ check refused.TooEarly (too_early t (decoded bytes)) ∷ []

abbrev pub sized_checks : ℕ → Time → List ℕ → ℕ → ℕ → List Check
sized_checks place t bytes array charges =
    check refused.Memory (sizes_misfit (length bytes) array charges) ∷ check refused.Record (refused3 bytes) ∷ place_line place ∷ time_checks t bytes

-- The checks that every call and look at memory begins with.
abbrev pub memory_checks : Memory → List Check
memory_checks m = check refused.Memory (misfits m) ∷ check refused.Record (refused3 m.bytes) ∷ []

unfoldable pub memory_refusal : Memory → ℕ
memory_refusal m = first_given (memory_checks m)

-- What is left in an answer's place: the answer, or on a refusal what stood there.
abbrev pub answered : ℕ → ℕ → ℕ → ℕ
answered zero value old = value
answered (suc n) value old = old

-- ---- each look: its refusal, and its answer

unfoldable pub register_refusal : List ℕ → ℕ
register_refusal bytes = first_given (record_checks bytes)

unfoldable pub register_answer : List ℕ → ℕ → ℕ
register_answer bytes a = register a (decoded bytes).registers

unfoldable pub normal_refusal : List ℕ → Time → ℕ
normal_refusal bytes t = first_given (record_checks bytes ++ time_checks t bytes)

unfoldable pub normal_answer : List ℕ → Time → ℕ
normal_answer bytes t = flag_byte (normal t (decoded bytes).registers)

unfoldable pub sized_refusal : ℕ → Time → List ℕ → ℕ → ℕ → ℕ
sized_refusal place t bytes array charges = first_given (sized_checks place t bytes array charges)

abbrev pub look_refusal : ℕ → Time → Memory → ℕ
look_refusal place t m = sized_refusal place t m.bytes (length m.array) (length m.charges)

-- the place of a look: an address, or a cell's address and bit
abbrev pub address_place : ℕ → ℕ
address_place a = first_given (check refused.Place (past_end a) ∷ [])

abbrev pub cell_place : ℕ → ℕ → ℕ
cell_place a bit = first_given (check refused.Place (past_end a || bit_over bit) ∷ [])

unfoldable pub peek_refusal : ℕ → Time → Memory → ℕ
peek_refusal a t m = look_refusal (address_place a) t m

unfoldable pub peek_answer : ℕ → Time → Memory → ℕ
peek_answer a t m = peek_at t (chip_in m) a

unfoldable pub charge_refusal : ℕ → ℕ → Time → Memory → ℕ
charge_refusal a bit t m = look_refusal (cell_place a bit) t m

unfoldable pub charge_answer : ℕ → ℕ → Time → Memory → ℕ
charge_answer a bit t m = charge_at t (chip_in m) (8 * a + bit)

unfoldable pub blank_refusal : ℕ → Time → Memory → ℕ
blank_refusal a t m = look_refusal (address_place a) t m

unfoldable pub blank_answer : ℕ → Time → Memory → ℕ
blank_answer a t m = flag_byte (blank_at t (chip_in m) a)

-- 8: output too short for an answer of n bytes
abbrev pub output_checks : ℕ → Time → ℕ → Memory → List Check
output_checks n t room m = sized_checks 0 t m.bytes (length m.array) (length m.charges) ++ check refused.Output (ltb room n) ∷ []

unfoldable pub output_refusal : ℕ → Time → ℕ → Memory → ℕ
output_refusal n t room m = first_given (output_checks n t room m)

unfoldable pub image_refusal : Time → ℕ → Memory → ℕ
image_refusal t room m = output_refusal array_bytes t room m

-- output bytes past the answer stay
abbrev pub image_left : ℕ → Time → Memory → List ℕ → List ℕ
image_left zero t m out = sets out 0 (image_at t (chip_in m))
image_left (suc n) t m out = out

-- ---- a new array

-- 1: firmware not 49,152 bytes; then 2
unfoldable pub new_refusal : List ℕ → ℕ → ℕ → ℕ → ℕ
new_refusal firmware bytes array charges =
    first_given (check refused.Firmware (not (eqb (length firmware) array_bytes)) ∷ check refused.Memory (sizes_misfit bytes array charges) ∷ [])

-- Record and array are written; slots not in use keep their numbers, so the charge store stays.
abbrev pub new_record : ℕ → List ℕ → List ℕ
new_record zero bytes = encoded fresh_flash
new_record (suc n) bytes = bytes

abbrev pub new_array : ℕ → List ℕ → List ℕ → List ℕ
new_array zero firmware array = firmware
new_array (suc n) firmware array = array
