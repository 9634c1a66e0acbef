-- From a file to demand 3: what was said and complained of is no part of the flash. Assumes nothing.
use mathlib.Core.List.{List}
use mathlib.Core.Path.{ap, ◌∙◌, sym}
use Rattle.ledger.specs.Lists.{Asked}
use Rattle.ledger.specs.Claim.{Demand}
use Rattle.course.specs.Desk.{Desk}
use Rattle.course.specs.Demand.{OfTexts, DemandFrom, begun}
use Rattle.course.proofs.Demanded.{text-onward, text-demand}
use Rattle.session.specs.Claim.{OfFiles, FileOnward, FileDemand3}

-- the same calls are done at a desk that has said less
of-files : (claim : List Asked → Type 0) (before : Desk) → OfTexts claim before → OfFiles claim before
of-files claim before h w c m events k =
    let b = h w k.text in
    record {
      run = record {
        done = b.run.done;
        left = b.run.left;
        calls_are = b.run.calls_are;
        all_done = λ live. b.run.all_done (ap (λ (x : Desk). x.course.stopped) k.desk_is ∙ live);
        memory_is = sym (ap (λ (x : Desk). x.memory) k.desk_is) ∙ b.run.memory_is;
      };
      typed = b.typed;
      claimed = b.claimed;
    }

pub file-onward : FileOnward
file-onward = record {
  good = λ d g. of-files (DemandFrom d.memory) d (text-onward.good d g);
  restored = λ d r. of-files (DemandFrom d.memory) d (text-onward.restored d r);
}

pub file-demand : FileDemand3
file-demand = record {
  of_every_file = λ firmware charges long small store events t.
      of-files (Demand firmware charges) (begun firmware charges events t) (text-demand.of_every_text firmware charges long small store events t);
}
