-- Lines of a history as the format's description has them, each with what it is. The time of a line before is 0.5 s.
-- Assumes nothing.
use Rattle.std.specs.Prelude.{ℕ, ◌+◌, ◌^◌, true, false, [], ◌∷◌, ◌++◌, ◌≡◌, Some, None}
use Prim.Native.String.{String}
use Rattle.time.specs.declared.Time.{Time}
use Rattle.words.specs.declared.reason.Reason.{Reason}
use Rattle.words.specs.declared.reason.Reason.TheVariants as reason
use Rattle.lent.specs.declared.Request.TheVariants.{WriteRegister, Write8, Reset, Environment}
use Rattle.words.specs.Text.{text}
use Rattle.grammar.specs.declared.Line.{Line}
use Rattle.grammar.specs.declared.Line.TheVariants.{Nothing, Call, Look, Wrong}
use Rattle.grammar.specs.declared.Looking.TheVariants.{Whole, Byte, Cell}
use Rattle.grammar.specs.Grammar.{line_of}

-- whole seconds, and a fraction of 2^64
abbrev pub moment : ℕ → ℕ → Time
moment s f = record { 0 = s; 1 = f }

-- what a line is after a line at 0.5 s
abbrev pub is : String → Line
is s = line_of (Some (moment 0 (2 ^ 63))) (text s)

-- a fault in the columns from a first up to, not including, a last, counted from 0
abbrev pub wrong : Reason → ℕ → ℕ → Line
wrong why first last = Wrong (record { reason = why; place = record { from = first; to = last } })

pub record Worked : Type 0 where
  -- names of bits, joined; a letter alone is a bit, and a number has two digits
  pub bits : is "0.5 write FLMCR1 SWE+PSU" ≡ Call (moment 0 (2 ^ 63)) (WriteRegister 0xF020 0x50)
  pub bit : is "1 write flmcr1 e" ≡ Call (moment 1 0) (WriteRegister 0xF020 0x02)
  pub number : is "1 write F020 0e" ≡ Call (moment 1 0) (WriteRegister 0xF020 0x0E)
  pub twice : is "1 write EBR1 EB1+EB1" ≡ wrong reason.BitTwice 13 20
  pub other_register : is "1 write FENR SWE" ≡ wrong reason.NoValue 13 16
  -- a length after the line before, which is cut down to raw units, and a comment
  pub relative : is "+0.000050 data 0080 fe # note" ≡ Call (moment 0 (2 ^ 63 + 922337203685477)) (Write8 0x80 0xFE)
  pub first : line_of None (text "+1 reset") ≡ wrong reason.NoTimeBefore 0 2
  -- an exact time, and the words of an environment
  pub exact : is "3:12 environment sleep module no-oscillator" ≡ Call (moment 3 12) (Environment 2 true false)
  -- looks
  pub whole : is "2 look" ≡ Look (moment 2 0) Whole
  pub byte : is "2 look 0080" ≡ Look (moment 2 0) (Byte 0x80)
  pub cell : is "2 look 0080 7" ≡ Look (moment 2 0) (Cell 0x80 7)
  pub no_bit : is "2 look 0080 8" ≡ wrong reason.NoBitNumber 12 13
  -- addresses
  pub past : is "1 read C000" ≡ wrong reason.PastTheEnd 7 11
  pub past_word : is "1 word BFFF" ≡ wrong reason.WordPastTheEnd 7 11
  pub no_address : is "1 read  # where?" ≡ wrong reason.NoAddress 8 8
  -- lines without a call, with another word, and without any
  pub no_call : is "1" ≡ wrong reason.NoCall 1 1
  pub unknown : is "1 wirte" ≡ wrong reason.UnknownCall 2 7
  pub more : is "1 reset now" ≡ wrong reason.MoreWords 8 11
  -- a line that ends with a carriage return
  pub returned : line_of None (text "1 reset" ++ 13 ∷ []) ≡ Call (moment 1 0) Reset
  pub nothing : (is "" ≡ Nothing) × (is "  # a comment" ≡ Nothing)
