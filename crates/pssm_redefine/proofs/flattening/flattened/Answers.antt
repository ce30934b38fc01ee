use Rattle.std.proofs.lemmas.Result.{IfOk-weaker}
use Rattle.pssm_redefine.specs.Gathering.{IsFlattened}
use Rattle.pssm_redefine.specs.Merging.{IsMerged}
use Rattle.pssm_redefine.proofs.ChainSums.{machines_below}
use Rattle.pssm_redefine.proofs.FlatLaws.{owners_all, ends_all, vertices_few, transitions_few}
use Rattle.pssm_redefine.proofs.StandLaws.{few_bodies}
use Rattle.pssm_redefine.proofs.flattening.flattened.Goals as goal

pub gather-requires-clause-machines : goal.gather-requires-clause-machines
gather-requires-clause-machines c =
    machines_below c.args.draft.now c.args.class.now.machine c.args.heritage.now.machines c.requires.range c.requires.lineage.chain

pub merge-requires : goal.merge-requires
merge-requires c = record {
  owners = owners_all c.args.draft.now c.args.heritage.now c.in_ok-gathered.gathered c.in_ok-gathered.ensures;
  ends = ends_all c.args.draft.now c.args.heritage.now c.in_ok-gathered.gathered c.in_ok-gathered.ensures;
  few = (
    vertices_few c.args.draft.now c.args.heritage.now c.in_ok-gathered.gathered c.in_ok-gathered.ensures c.args.class.now.machine c.requires.range c.requires.lineage,
    transitions_few c.args.draft.now c.args.heritage.now c.in_ok-gathered.gathered c.in_ok-gathered.ensures c.args.class.now.machine c.requires.range c.requires.lineage,
  );
  bodies = few_bodies c.args.draft.now c.args.class.now.machine c.args.heritage.now c.in_ok-gathered.gathered c.requires.range c.requires.lineage c.in_ok-gathered.ensures;
}

pub returns : goal.returns
returns c =
    IfOk-weaker c.merge.result (IsMerged c.args.draft.now c.args.class.now c.in_ok-gathered.gathered) (IsFlattened c.args.draft.now c.args.class.now)
    (λ flat merged. record {
      lineage = c.args.heritage.now;
      inherits = c.requires.lineage;
      gathered = c.in_ok-gathered.gathered;
      gathers = c.in_ok-gathered.ensures;
      merged = merged;
    })
    c.merge.ensures
