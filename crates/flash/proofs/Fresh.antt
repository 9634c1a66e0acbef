-- A fresh array: no page is opened, and each byte is the sensing of the charges that it stands for.
-- Assumes nothing.
use mathlib.Core.Path.{◌≡◌, sym, ◌∙◌}
use mathlib.Core.List.{List}
use Prim.Native.Nat.{ℕ, suc, ◌+◌, ◌*◌, ◌/◌, ◌%◌, ◌<◌}
use native.Mathlib.Omega.{arith}
use native.Mathlib.Decide.{dec_lt}
use lib.ListN.{length, replicate, length-replicate, get_or-replicate, get_or-eq_default}
use Rattle.cell.specs.declared.Sense.TheVariants.{Normal}
use Rattle.lists.specs.Lists.{at}
use Rattle.cell.specs.Cell.{bit, first_charge}
use Rattle.cell.proofs.Sensed.{sensed_byte-same, first-sensed}
use Rattle.settle.specs.Pages.{held, cell_at}
use Rattle.settle.specs.Views.{cells_of}
use Rattle.settle.specs.Settling.{normal_byte}
use Rattle.flash.specs.Chip.{no_pages}
use Rattle.settle.proofs.Expose.{Ordered, Senses}

-- no page is opened
pub none_open : (n p : ℕ) → at (no_pages n) p ≡ 0
unfolding no_pages
none_open n p = by (dec_lt p n)
  where
    by : Dec (p < n) → at (replicate n 0) p ≡ 0
    by (yes h) = get_or-replicate n p 0 0 h
    by (no h) = get_or-eq_default (replicate n 0) 0 (rw length-replicate (omega arith))

pub fresh-cell : (firmware charges : List ℕ) (i : ℕ)
    → cell_at (cells_of (no_pages 384) firmware charges) i ≡ first_charge (bit (at firmware (i / 8)) (i % 8))
unfolding cell_at held
fresh-cell firmware charges i = rw (none_open 384 (i / 1024))

module _ (firmware charges : List ℕ) (small : (a : ℕ) → at firmware a < 256) where
  pub fresh-ordered : length firmware ≡ 49152 → length charges ≡ 393216
      → Ordered (cells_of (no_pages 384) firmware charges)
  unfolding no_pages
  fresh-ordered h k =
      record {
        slots = record {
          pages = length-replicate {A = ℕ} 384 0;
          room = k;
          below = λ p j e. absurd (shut p j e);
          one = λ p q j e f. absurd (shut p j e);
        };
        long = h;
        small = small;
      }
    where
      shut : (p j : ℕ) → at (no_pages 384) p ≡ suc j → ⊥
      shut p j e = omega (arith, none_open 384 p)

  pub fresh-senses : Senses (cells_of (no_pages 384) firmware charges)
  unfolding normal_byte
  fresh-senses a l =
      sym (first-sensed a (at firmware a) (small a))
      ∙ sensed_byte-same Normal a _ _
      (λ j m. let e : (8 * a + j) / 8 ≡ a = omega arith in
      let n : (8 * a + j) % 8 ≡ j = omega arith in
      sym (fresh-cell firmware charges (8 * a + j) ∙ rw (e, n)))
