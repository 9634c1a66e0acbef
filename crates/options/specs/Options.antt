-- The options that the words of arguments give, or the first trouble with them: first what is wrong with one word, from left to right, then what is
-- wrong with all of them together.
-- Assumes nothing.
use Rattle.std.specs.Prelude.{ℕ, cond, List, Option, Some, None, Result, Ok, Err, ltb}
use Rattle.std.specs.Option.{is_some}
use Rattle.std.specs.Result.{result_ok}
use Rattle.time.specs.declared.Time.{Time}
use Rattle.cell.specs.Cell.{pages}
use Rattle.control.specs.declared.Range.{Range}
use Rattle.moments.specs.Moments.{moment_of}
use Rattle.control.specs.Blocks.{block_range, pages_touched}
use Rattle.options.specs.Arguments.{Word, block_named, address_named, said_of, given_by}
use Rattle.options.specs.declared.Asked.{Asked}
use Rattle.options.specs.declared.Asked.TheVariants.{Help, Run}
use Rattle.options.specs.declared.Beginning.{Beginning}
use Rattle.options.specs.declared.Beginning.TheVariants.{Empty, Image, Snapshot}
use Rattle.options.specs.declared.Options.{Options}
use Rattle.options.specs.declared.Parameter.TheVariants as parameter
use Rattle.options.specs.declared.Stage.{Stage}
use Rattle.options.specs.declared.Stage.TheVariants.{Open, Wants, Helped, Wrong}
use Rattle.options.specs.declared.Trouble.{Trouble}
use Rattle.options.specs.declared.Trouble.TheVariants.{NothingAfter, NoHistory, ImageAndRestore, BlockAndAddresses, HalfARange, FromAfterTo}

-- the whole array
abbrev pub everything : Range
everything = record { first = 0; pages = pages }

-- a block, an address and a time that are given
abbrev pub block_in : Option Word → Option ℕ
block_in (Some w) = block_named w.now
block_in None = None

abbrev pub address_in : Option Word → Option ℕ
address_in (Some w) = address_named w.now
address_in None = None

abbrev pub time_in : Option Word → Option Time
time_in (Some w) = result_ok (moment_of None w.now)
time_in None = None

-- the pages that the verdict is about: all, those in which the addresses from one to another lie, or those of a block
abbrev pub pages_asked : Option ℕ → Option ℕ → Option ℕ → Result Range Trouble
pages_asked None None None = Ok everything
pages_asked None (Some from) (Some to) = cond (ltb to from) (Err FromAfterTo) (Ok (pages_touched from to))
pages_asked None (Some from) None = Err HalfARange
pages_asked None None (Some to) = Err HalfARange
pages_asked (Some block) None None = Ok (block_range block)
pages_asked (Some block) (Some from) to = Err BlockAndAddresses
pages_asked (Some block) None (Some to) = Err BlockAndAddresses

-- the same by the words that are given, each of which stands for a number (`fits`)
unfoldable pub range_asked : Option Word → Option Word → Option Word → Result Range Trouble
range_asked block from to = pages_asked (block_in block) (address_in from) (address_in to)

-- what the history begins with: an empty flash, an image, or a snapshot, of which one at most may be given
abbrev pub beginning : Option Word → Option Word → Result Beginning Trouble
beginning None None = Ok Empty
beginning (Some path) None = Ok (Image path)
beginning None (Some path) = Ok (Snapshot path)
beginning (Some image) (Some snapshot) = Err ImageAndRestore

-- the options where nothing is wrong
unfoldable pub accepted : List (Option Word) → Word → Beginning → Range → Options
accepted said history begins range =
    record {
      history = history;
      begins = begins;
      picture = said_of said parameter.Picture;
      snapshot = said_of said parameter.Snapshot;
      events = is_some (said_of said parameter.Events);
      map = is_some (said_of said parameter.Map);
      go_on = is_some (said_of said parameter.GoOn);
      at = time_in (said_of said parameter.At);
      judged = range;
    }

abbrev pub run_of : List (Option Word) → Word → Beginning → Result Range Trouble → Result Asked Trouble
run_of said history begins (Ok range) = Ok (Run (accepted said history begins range))
run_of said history begins (Err t) = Err t

abbrev pub with_beginning : List (Option Word) → Word → Result Beginning Trouble → Result Asked Trouble
with_beginning said history (Ok begins) =
    run_of said history begins (range_asked (said_of said parameter.Block) (said_of said parameter.From) (said_of said parameter.To))
with_beginning said history (Err t) = Err t

-- all words together, of which one has to be the history
abbrev pub with_history : List (Option Word) → Option Word → Result Asked Trouble
with_history said None = Err NoHistory
with_history said (Some history) = with_beginning said history (beginning (said_of said parameter.Image) (said_of said parameter.Restore))

unfoldable pub whole : List (Option Word) → Result Asked Trouble
whole said = with_history said (said_of said parameter.History)

-- how the reading has ended
unfoldable pub ended : List (Option Word) → Stage → Result Asked Trouble
ended said Open = whole said
ended said (Wants p name) = Err (NothingAfter name)
ended said Helped = Ok Help
ended said (Wrong t) = Err t

-- what the words ask for
unfoldable pub options_of : List Word → Result Asked Trouble
options_of words = ended (given_by words).said (given_by words).stage
