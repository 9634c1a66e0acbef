-- `control::blocks::block_of` meets its contract: the first block that has the page.
-- Assumes nothing.
use mathlib.Core.Path.{◌≡◌, refl}
use borrow.Author.Rules.{rules}
use borrow.Author.Tests.{tests}
use Rattle.std.specs.List.{find, range_with_len}
use Rattle.std.specs.Option.{option_map}
use Rattle.std.proofs.lemmas.Iterator.{YieldsList-from_range}
use Rattle.std.proofs.lemmas.Iterator.Search.{find_from_yields_List}
use Rattle.control.specs.Blocks.{covers, block_range}
use Rattle.control.proofs.Places.{block-first}
use Rattle.control.proofs.blocks.block_of.Goals as goal

pub returns : goal.returns
returns c =
    let page = c.args.page in
    let e : option_map (λ x. x) c.find.result ≡ find (λ b. covers (block_range b) page) (range_with_len 0 6) =
    find_from_yields_List (λ b. covers (block_range b) page) _ _ c.find.result c.find.ensures.ran (YieldsList-from_range 0 6 6 refl refl) (λ x b q k. search (rules, tests)) in
    block-first page c.find.result e
