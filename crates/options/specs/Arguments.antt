-- The arguments of the program as a text with a byte 0 after each word, and what is taken from its words one by one: each option at most
-- once, in any order, with the word after it where it wants one, and one word that is no option, the history.
-- Assumes nothing.
use Rattle.std.specs.Prelude.{ℕ, ◌-◌, Bool, true, false, cond, List, [], ◌∷◌, Option, Some, None, Result, Ok, Err, length, take, map, eqb, ltb, get_or, set, replicate}
use Rattle.std.specs.Borrow.{Bor}
use Rattle.std.specs.List.{slice_split}
use Rattle.std.specs.Option.{is_some}
use Rattle.std.specs.Result.{is_ok}
use Rattle.cell.specs.Cell.{array_bytes}
use Rattle.digits.specs.Digits.{hex_in}
use Rattle.digits.specs.declared.NoNumber.{NoNumber}
use Rattle.moments.specs.Moments.{moment_of}
use Rattle.control.specs.Blocks.{blocks}
use Rattle.words.specs.Text.{text, named}
use Rattle.options.specs.declared.Given.{Given}
use Rattle.options.specs.declared.Parameter.{Parameter}
use Rattle.options.specs.declared.Parameter.TheVariants as parameter
use Rattle.options.specs.declared.Stage.{Stage}
use Rattle.options.specs.declared.Stage.TheVariants.{Open, Wants, Helped, Wrong}
use Rattle.options.specs.declared.Trouble.{Trouble}
use Rattle.options.specs.declared.Trouble.TheVariants.{NoSuchOption, NoBlock, NoAddress, NoTime, TwoHistories, Twice}

-- ---- the words

-- a word that is lent, and the bytes of all words of a list
abbrev pub Word : Type 0
Word = Bor (List ℕ)

abbrev pub all_bytes : List Word → List (List ℕ)
all_bytes words = map (λ w. w.now) words

-- the parts of the text at its bytes 0
abbrev pub parts_of : List ℕ → List (List ℕ)
parts_of args = slice_split (λ b. eqb b 0) args

-- its words: all parts but the last, which no byte 0 ends
unfoldable pub words_of : List ℕ → List (List ℕ)
words_of args = take (length (parts_of args) - 1) (parts_of args)

-- ---- the options

-- The place of each parameter in what is given: first `--help`, then the options with no word after them, then those with one, and the
-- history last.
abbrev pub place : Parameter → ℕ
place parameter.Help = 0
place parameter.Events = 1
place parameter.Map = 2
place parameter.GoOn = 3
place parameter.Image = 4
place parameter.Restore = 5
place parameter.Picture = 6
place parameter.Snapshot = 7
place parameter.Block = 8
place parameter.From = 9
place parameter.To = 10
place parameter.At = 11
place parameter.History = 12

abbrev pub places : ℕ
places = 13

abbrev pub names : List (List ℕ × Parameter)
names =
    (text "--HELP", parameter.Help)
    ∷ (text "--EVENTS", parameter.Events)
    ∷ (text "--MAP", parameter.Map)
    ∷ (text "--GO-ON", parameter.GoOn)
    ∷ (text "--IMAGE", parameter.Image)
    ∷ (text "--RESTORE", parameter.Restore)
    ∷ (text "--PICTURE", parameter.Picture)
    ∷ (text "--SNAPSHOT", parameter.Snapshot)
    ∷ (text "--BLOCK", parameter.Block)
    ∷ (text "--FROM", parameter.From)
    ∷ (text "--TO", parameter.To)
    ∷ (text "--AT", parameter.At)
    ∷ []

-- a word that is no option's name is for the history
abbrev pub or_history : Option Parameter → Parameter
or_history (Some p) = p
or_history None = parameter.History

unfoldable pub parameter_named : List ℕ → Parameter
parameter_named bs = or_history (named names bs)

-- whether an option has a word after it
abbrev pub wants_word : Parameter → Bool
wants_word parameter.Help = false
wants_word parameter.Events = false
wants_word parameter.Map = false
wants_word parameter.GoOn = false
wants_word p = true

-- ---- the words of options

-- a number, if it lies below a bound
abbrev pub below : ℕ → Result ℕ NoNumber → Option ℕ
below bound (Ok n) = cond (ltb n bound) (Some n) None
below bound (Err none) = None

-- the same of a word with so many hexadecimal digits
abbrev pub number_below : ℕ → ℕ → List ℕ → Option ℕ
number_below bound digits bs = below bound (hex_in digits bs)

-- a block is one digit, an address four
abbrev pub block_named : List ℕ → Option ℕ
block_named bs = number_below blocks 1 bs

abbrev pub address_named : List ℕ → Option ℕ
address_named bs = number_below array_bytes 4 bs

-- whether an option can have a word: a file's name may be any
unfoldable pub fits : Parameter → List ℕ → Bool
fits parameter.Block bs = is_some (block_named bs)
fits parameter.From bs = is_some (address_named bs)
fits parameter.To bs = is_some (address_named bs)
fits parameter.At bs = is_ok (moment_of None bs)
fits p bs = true

-- what is wrong where it can't
abbrev pub complaint : Parameter → Word → Trouble
complaint parameter.Block w = NoBlock w
complaint parameter.At w = NoTime w
complaint p w = NoAddress w

-- ---- what is given, word by word

-- the word of a parameter, if it is given
abbrev pub said_of : List (Option Word) → Parameter → Option Word
said_of said p = get_or said (place p) None

-- nothing is given yet
abbrev pub start : Given
start = record { said = replicate places None; stage = Open }

-- a parameter is given by a word
abbrev pub taken : List (Option Word) → Parameter → Word → Given
taken said p w = record { said = set said (place p) (Some w); stage = Open }

-- the reading has come to a stage, and nothing more is given
abbrev pub reached : List (Option Word) → Stage → Given
reached said stage = record { said = said; stage = stage }

-- whether a word begins with a '-'
abbrev pub dashed : List ℕ → Bool
dashed [] = false
dashed (b ∷ bs) = eqb b 45

-- a word that is no option's name
unfoldable pub plain : List (Option Word) → Word → Given
plain said w =
    cond (dashed w.now) (reached said (Wrong (NoSuchOption w)))
    (cond (is_some (said_of said parameter.History)) (reached said (Wrong (TwoHistories w))) (taken said parameter.History w))

-- an option's name
unfoldable pub option : List (Option Word) → Parameter → Word → Given
option said p w =
    cond (is_some (said_of said p)) (reached said (Wrong (Twice w)))
    (cond (wants_word p) (reached said (Wants p w)) (taken said p w))

-- a word where an option or the history is due, by what it is for
unfoldable pub optional : List (Option Word) → Parameter → Word → Given
optional said parameter.Help w = reached said Helped
optional said parameter.History w = plain said w
optional said p w = option said p w

-- a word after an option
unfoldable pub valued : List (Option Word) → Parameter → Word → Given
valued said p w = cond (fits p w.now) (taken said p w) (reached said (Wrong (complaint p w)))

-- the next word: after `--help`, and after the first trouble, no word is looked at
unfoldable pub step_at : List (Option Word) → Stage → Word → Given
step_at said Open w = optional said (parameter_named w.now) w
step_at said (Wants p name) w = valued said p w
step_at said Helped w = reached said Helped
step_at said (Wrong t) w = reached said (Wrong t)

-- one word after the other
unfoldable pub take_all : Given → List Word → Given
take_all g [] = g
take_all g (w ∷ ws) = take_all (step_at g.said g.stage w) ws

-- what all words give
abbrev pub given_by : List Word → Given
given_by words = take_all start words
