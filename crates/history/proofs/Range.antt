-- The call of a parsed line has arguments and a time in their types' ranges: so many digits make no larger number, a place among names
-- is below their count, and what bits and registers are named is in range. A call or a look is at the time that the line's first word
-- says, from which the next line counts. Assumes nothing.
use Prim.Native.Nat.{ℕ, ◌^◌, ◌<◌}
use mathlib.Core.Bool.{Bool, true, false, cond}
use mathlib.Core.List.{List}
use mathlib.Core.Path.{◌≡◌, refl}
use native.Mathlib.Omega.{arith}
use lib.Dec.{ltb}
use Rattle.time.specs.declared.Time.{Time}
use Rattle.lists.proofs.Bools.{either}
use Rattle.layout.specs.Whole.{TimeFits}
use Rattle.words.specs.declared.reason.Reason.{Reason}
use Rattle.words.specs.declared.reason.Reason.TheVariants.{NoMode, NoRegister, NoAddress, NoByte}
use Rattle.lent.specs.declared.Request.{Request}
use Rattle.ledger.specs.Lists.{Numbers}
use Rattle.words.specs.declared.Word.{Word}
use Rattle.words.specs.Words.{word_at}
use Rattle.words.specs.declared.names.Kind.{Kind}
use Rattle.words.specs.declared.names.Kind.TheVariants as kind
use Rattle.words.specs.declared.names.NoBits.{NoBits}
use Rattle.words.specs.declared.names.NoBits.TheVariants as bits
use Rattle.words.specs.Names.{call_named, register_named, modes}
use Rattle.words.specs.Values.{bits_named}
use Rattle.words.proofs.Below.{bits_below, register-below, mode-below}
use Rattle.digits.specs.declared.NoNumber.{NoNumber}
use Rattle.digits.specs.Digits.{hex_in}
use Rattle.digits.proofs.Laws.{hex-below}
use Rattle.std.specs.Prelude.{Option, Some, None, Result, Ok, Err}
use Rattle.words.specs.Text.{named}
use Rattle.moments.proofs.Fits as times-in
use Rattle.fields.specs.declared.Fault.{Fault}
use Rattle.fields.specs.Fields.{bytes_of, missing, number_of, below, meant, register_in, register_of, value_in, value_of, address_in, byte_in, mode_in, module_in, oscillator_in, bit_in}
use Rattle.grammar.specs.declared.Looking.{Looking}
use Rattle.grammar.specs.declared.Line.{Line}
use Rattle.grammar.specs.declared.Line.TheVariants.{Nothing, Call, Look, Wrong}
use Rattle.grammar.specs.Grammar.{next, go_on, ended, write_line, data_line, read_line, word_line, value_line, byte_line, oscillator_line, module_line, environment_line, cell_line, look_line, line_for, line_named, call_line, timed_line, parsed, kept, line_of}
use Rattle.history.specs.History.{read_or, time_after}
use Rattle.history.specs.Claim.{Times}

-- ---- a word's number

data Below (bound : ℕ) : Result ℕ Fault → Type 0 where
  is : (n : ℕ) → n < bound → Below bound (Ok n)
  wrong : {f : Fault} → Below bound (Err f)

module _ (line : List ℕ) (w : Word) where
  number-in : (k : ℕ) (why : Reason) → Below (16 ^ k) (number_of why w (hex_in k (bytes_of line w)))
  number-in k why = by (hex_in k (bytes_of line w)) refl
    where
      by : (n : Result ℕ NoNumber) → hex_in k (bytes_of line w) ≡ n → Below (16 ^ k) (number_of why w n)
      by (Ok n) e = is n (hex-below k (bytes_of line w) n e)
      by (Err none) e = wrong

  register-in : Below (2 ^ 16) (register_in line w)
  unfolding register_in
  register-in = by (register_named (bytes_of line w)) refl (number-in 4 NoRegister)
    where
      by : (o : Option ℕ) → register_named (bytes_of line w) ≡ o → Below (2 ^ 16) (number_of NoRegister w (hex_in 4 (bytes_of line w))) → Below (2 ^ 16) (register_of w o (hex_in 4 (bytes_of line w)))
      by (Some register) e digits = is register (register-below (bytes_of line w) register e)
      by None e digits = digits

  value_in_lem : (register : ℕ) → Below (2 ^ 8) (value_in register line w)
  unfolding value_in
  value_in_lem register = by (hex_in 2 (bytes_of line w)) (bits_named register (bytes_of line w)) refl refl
    where
      by : (n : Result ℕ NoNumber) (b : Result ℕ NoBits) → hex_in 2 (bytes_of line w) ≡ n → bits_named register (bytes_of line w) ≡ b → Below (2 ^ 8) (value_of w n b)
      by (Ok n) b e d = is n (omega (arith, hex-below 2 (bytes_of line w) n e))
      by (Err none) (Ok v) e d = is v (bits_below register (bytes_of line w) v d)
      by (Err none) (Err bits.Twice) e d = wrong
      by (Err none) (Err bits.NoName) e d = wrong

  below-in : {bound : ℕ} (limit : ℕ) (past : Reason) {r : Result ℕ Fault} → Below bound r → Below bound (below limit past w r)
  below-in {bound} limit past (is n h) = either (Below bound) (ltb n limit) (is n h) wrong
  below-in limit past wrong = wrong

  address-in : (limit : ℕ) (past : Reason) → Below (2 ^ 16) (address_in limit past line w)
  unfolding address_in
  address-in limit past = below-in limit past (number-in 4 NoAddress)

  byte-in : Below (2 ^ 8) (byte_in line w)
  unfolding byte_in
  byte-in = number-in 2 NoByte

  mode-in : Below (2 ^ 8) (mode_in line w)
  unfolding mode_in
  mode-in = by (named modes (bytes_of line w)) refl
    where
      by : (o : Option ℕ) → named modes (bytes_of line w) ≡ o → Below (2 ^ 8) (meant NoMode w o)
      by (Some m) e = is m (mode-below (bytes_of line w) m e)
      by None e = wrong

-- ---- a line

-- with its arguments and its time in range, and with the time from which the next line counts
pub data LineIn : Option Time → Line → Type 0 where
  nothing : {b : Option Time} → LineIn b Nothing
  call : {t : Time} {q : Request} → Numbers q → TimeFits t → LineIn (Some t) (Call t q)
  look : {t : Time} {l : Looking} → LineIn (Some t) (Look t l)
  wrong : {b : Option Time} {f : Fault} → LineIn b (Wrong f)

-- so far as a line is read
abbrev ReadIn : Option Time → Result Line Fault → Type 0
ReadIn b r = LineIn b (kept r)

module _ {b : Option Time} where
  on-number : {bound : ℕ} (rest : ℕ → Result Line Fault) {x : Result ℕ Fault} → Below bound x → ((n : ℕ) → n < bound → ReadIn b (rest n)) → ReadIn b (go_on x rest)
  on-number rest (is n h) k = k n h
  on-number rest wrong k = wrong

  on-any : {A : Type 0} (rest : A → Result Line Fault) (x : Result A Fault) → ((n : A) → ReadIn b (rest n)) → ReadIn b (go_on x rest)
  on-any rest (Ok n) k = k n
  on-any rest (Err f) k = wrong

module _ (line : List ℕ) (w : Word) where
  -- a word that is left over is a fault
  end : {b : Option Time} {whole : Line} → LineIn b whole → ReadIn b (ended whole line w)
  unfolding ended
  end {b} h = either (ReadIn b) (missing (next line w)) h wrong

-- the words of each call, from the last back
module _ (t : Time) (fits : TimeFits t) (line : List ℕ) where
  abbrev In : Result Line Fault → Type 0
  In = ReadIn (Some t)

  oscillator-in : (mode : ℕ) (modul : Bool) (w : Word) → mode < 2 ^ 8 → In (oscillator_line t mode modul line w)
  unfolding oscillator_line
  oscillator-in mode modul w h = on-any _ (oscillator_in line (next line w)) (λ o. end line (next line w) (call h fits))

  module-in : (mode : ℕ) (w : Word) → mode < 2 ^ 8 → In (module_line t mode line w)
  unfolding module_line
  module-in mode w h = on-any _ (module_in line (next line w)) (λ p. oscillator-in mode p (next line w) h)

  cell_in : (a : ℕ) (w : Word) → In (cell_line t a line w)
  unfolding cell_line
  cell_in a w = either In (missing (next line w)) look (on-any _ (bit_in line (next line w)) (λ b. end line (next line w) look))

  value_line_lem : (r : ℕ) (w : Word) → r < 2 ^ 16 → In (value_line t r line w)
  unfolding value_line
  value_line_lem r w h = on-number _ (value_in_lem line (next line w) r) (λ v k. end line (next line w) (call (h, k) fits))

  byte-line : (a : ℕ) (w : Word) → a < 2 ^ 16 → In (byte_line t a line w)
  unfolding byte_line
  byte-line a w h = on-number _ (byte-in line (next line w)) (λ v k. end line (next line w) (call (h, k) fits))

  for-in : (k : Kind) (w : Word) → In (line_for k t line w)
  unfolding line_for write_line data_line read_line word_line environment_line look_line
  for-in kind.Write w = on-number _ (register-in line (next line w)) (λ r h. value_line_lem r (next line w) h)
  for-in kind.Data w = on-number _ (address-in line (next line w) _ _) (λ a h. byte-line a (next line w) h)
  for-in kind.Read w = on-number _ (address-in line (next line w) _ _) (λ a h. end line (next line w) (call h fits))
  for-in kind.Word w = on-number _ (address-in line (next line w) _ _) (λ a h. end line (next line w) (call h fits))
  for-in kind.Protect w = end line w (call tt fits)
  for-in kind.Reset w = end line w (call tt fits)
  for-in kind.PowerOff w = end line w (call tt fits)
  for-in kind.Environment w = on-number _ (mode-in line (next line w)) (λ m h. module-in m (next line w) h)
  for-in kind.Look w =
      either In (missing (next line w)) look (on-number _ (address-in line (next line w) _ _) (λ a h. cell_in a (next line w)))

  named-in : (k : Option Kind) (w : Word) → In (line_named k t line w)
  named-in (Some k) w = for-in k w
  named-in None w = wrong

timed-in : (b : Option Time) (line : List ℕ) (w : Word) {m : Result Time Reason} → times-in.MomentIn m → ReadIn (read_or b m) (timed_line line w m)
unfolding call_line
timed-in b line w (times-in.at t whole part) =
    either (ReadIn (Some t)) (missing (next line w)) wrong
    (named-in t (record { whole = whole; part = part }) line (call_named (bytes_of line (next line w))) (next line w))
timed-in b line w times-in.wrong = wrong

pub line-in : (b : Option Time) (line : List ℕ) → LineIn (time_after b line) (line_of b line)
unfolding parsed time_after
line-in b line = let w = word_at line 0 in by (missing w) _ (timed-in b line w (times-in.moment-in b (bytes_of line w)))
  where
    by : (t : Bool) {after : Option Time} (r : Result Line Fault) → ReadIn after r → ReadIn (cond t b after) (cond t (Ok Nothing) r)
    by true r h = nothing
    by false r h = h

-- ---- the time after a line

-- a call is no other line, and its time is its own
after_call : {b : Option Time} {l : Line} {t : Time} {q : Request} → LineIn b l → l ≡ Call t q → b ≡ Some t
after_call nothing e = cc
after_call (call h fits) e = cc
after_call look e = cc
after_call wrong e = cc

after_look : {b : Option Time} {l : Line} {t : Time} {x : Looking} → LineIn b l → l ≡ Look t x → b ≡ Some t
after_look nothing e = cc
after_look (call h fits) e = cc
after_look look e = cc
after_look wrong e = cc

pub times : Times
times =
    record {
      after_call = λ b line t q e. after_call (line-in b line) e;
      after_look = λ b line t l e. after_look (line-in b line) e;
    }
