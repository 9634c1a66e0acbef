-- What the program says of its options and files where it can't begin, each a template as it is printed.
-- Assumes nothing.
use Rattle.std.specs.Prelude.{ℕ, List, [], ◌∷◌}
use Rattle.text.specs.Text.{bytes, filled}
use Rattle.options.specs.declared.Trouble.{Trouble}
use Rattle.options.specs.declared.Trouble.TheVariants.{NoSuchOption, NothingAfter, NoBlock, NoAddress, NoTime, NoHistory, TwoHistories, ImageAndRestore, BlockAndAddresses, HalfARange, FromAfterTo, Twice}
use Rattle.notices.specs.declared.FileTrouble.{FileTrouble}
use Rattle.notices.specs.declared.FileTrouble.TheVariants.{NotOpened, NotRead, NotWritten}

-- the sentence on each trouble with the arguments
abbrev pub template : Trouble → List ℕ
template (NoSuchOption word) = bytes "wipe: there is no option @ (see wipe --help)\n"
template (NothingAfter word) = bytes "wipe: @ wants a word after it\n"
template (NoBlock word) = bytes "wipe: @ is not a block: 0 to 5\n"
template (NoAddress word) = bytes "wipe: @ is no address: four hexadecimal digits below C000\n"
template (NoTime word) = bytes "wipe: @ is no time\n"
template NoHistory = bytes "wipe: no history is named (see wipe --help)\n"
template (TwoHistories word) = bytes "wipe: more than one history is named: @\n"
template ImageAndRestore = bytes "wipe: --image and --restore exclude each other\n"
template BlockAndAddresses = bytes "wipe: --block and --from/--to exclude each other\n"
template HalfARange = bytes "wipe: --from and --to want each other\n"
template FromAfterTo = bytes "wipe: --from comes after --to\n"
template (Twice word) = bytes "wipe: @ is given twice\n"

-- the word that a trouble lies in, where that is one
abbrev pub word_in : Trouble → List ℕ
word_in (NoSuchOption word) = word.now
word_in (NothingAfter word) = word.now
word_in (NoBlock word) = word.now
word_in (NoAddress word) = word.now
word_in (NoTime word) = word.now
word_in NoHistory = []
word_in (TwoHistories word) = word.now
word_in ImageAndRestore = []
word_in BlockAndAddresses = []
word_in HalfARange = []
word_in FromAfterTo = []
word_in (Twice word) = word.now

-- what is wrong with the arguments
abbrev pub told : Trouble → List ℕ
told trouble = filled (template trouble) (word_in trouble) []

-- an image that is not 49,152 bytes long
abbrev pub image_length : List ℕ → ℕ → List ℕ
image_length word size = filled (bytes "wipe: @ has % bytes; an image has 49152\n") word (size ∷ [])

-- the sentence on each trouble with a file
abbrev pub file_template : FileTrouble → List ℕ
file_template NotOpened = bytes "wipe: @ could not be opened\n"
file_template NotRead = bytes "wipe: @ could not be read\n"
file_template NotWritten = bytes "wipe: @ could not be written\n"

-- what is wrong with a file
abbrev pub file_told : FileTrouble → List ℕ → List ℕ
file_told trouble path = filled (file_template trouble) path []
