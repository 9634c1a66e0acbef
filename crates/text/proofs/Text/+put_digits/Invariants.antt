-- `text::Text::put_digits` ends: each call of itself has one place less. Assumes nothing.
use Rattle.text.proofs.Text.+put_digits.Given as goal

abbrev pub decreases-put_digits : goal.decreases-put_digits
decreases-put_digits l = l.k
