-- Each turn takes one mark more away.
use Rattle.std.proofs.Common.{◌<◌, List, length, get_or, rules, subst, ◌∙◌}
use Rattle.std.proofs.Math.ListN.{length-set}
use Rattle.std.proofs.lemmas.List.{take_all}
use Rattle.pssm_model.specs.declared.ids.RegionId.{RegionId}
use Rattle.pssm_config.specs.inner.Clearing.{AreCleared}
use Rattle.pssm_config.proofs.Putting.{in_table}
use Rattle.pssm_config.proofs.Clearing.{cleared_more}
use Rattle.pssm_config.proofs.config.clear_each.Goals as goal

pub index_mut-requires : goal.index_mut-requires
index_mut-requires c =
    let here : (get_or c.args.regions.now c.loop-r.r-index (record { 0 = 0 })).0 < length c.loop-r.marks.items =
    in_table c.loop-r.marks.items (length c.args.marks.now.items) _ c.loop-r.invariant.width
    (c.requires c.loop-r.r-index _ c.loop-r-test.true) in
    search rules

pub loop-r-preserved : goal.loop-r-preserved
loop-r-preserved c = record {
  width = length-set c.loop-r.marks.items _ _ ∙ c.loop-r.invariant.width;
  cleared = cleared_more c.args.marks.now.items c.loop-r.marks.items c.args.regions.now c.loop-r.r-index _ c.loop-r-test.true
      (in_table c.loop-r.marks.items (length c.args.marks.now.items) _ c.loop-r.invariant.width
      (c.requires c.loop-r.r-index _ c.loop-r-test.true))
      c.loop-r.invariant.cleared;
}

pub returns-clause-cleared : goal.returns-clause-cleared
returns-clause-cleared c =
    let Cleared : List RegionId → Type 0 = λ rs. AreCleared c.args.marks.now.items rs c.loop-r.marks.items in
    subst Cleared (take_all c.loop-r.r-index c.args.regions.now c.loop-r-test.false) c.loop-r.invariant.cleared
