-- The next word, by where its blanks and its bytes end. Assumes nothing.
use Rattle.std.proofs.Common.{◌≡◌, ℕ, ◌+◌, ◌-◌, List, length, take, drop}
use Rattle.std.specs.List.{prefix_len}
use Rattle.std.proofs.lemmas.List.{take_rest}
use Rattle.words.specs.declared.Word.{Word}
use Rattle.words.specs.Words.{blank, in_word, word_at}

pub is_word : (line : List ℕ) (at j k : ℕ) → j ≡ prefix_len blank (take (length line - at) (drop at line))
    → k ≡ prefix_len in_word (take (length line - (at + j)) (drop (at + j) line)) → ◌≡◌ {A = Word} (record { from = at + j; to = at + j + k }) (word_at line at)
unfolding word_at
is_word line at j k e f = rw (f, take_rest line (at + j), e, take_rest line at)
