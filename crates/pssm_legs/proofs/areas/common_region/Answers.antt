-- the region grows where the next target does not lie in it
use Rattle.std.proofs.Common.{◌≡◌, ◌<◌, ◌+◌, length, refl, subst, sym, inl, arith}
use Rattle.std.proofs.lemmas.List.{get_or_default}
use Rattle.pssm_model.specs.declared.ids.RegionId.{RegionId}
use Rattle.pssm_model.specs.Forest.{IsScope}
use Rattle.pssm_model_laws.proofs.CommonRegions.{IsMet, scope_stays, scope_grows, none_met, one_more_met}
use Rattle.pssm_model_laws.proofs.Through.{source_there}
use Rattle.pssm_legs.proofs.PathRegions.{in_head, in_tail}
use Rattle.pssm_legs.proofs.areas.common_region.Goals as goal
use Rattle.pssm_legs.proofs.areas.common_region.Goals.{then-not-lies_in_region, else-not-lies_in_region}

pub target-requires : goal.target-requires
target-requires c = c.requires.path c.args.first (in_head c.args.first c.args.further.now)

pub shared_region-common-requires-clause-first : goal.shared_region-common-requires-clause-first
shared_region-common-requires-clause-first c = source_there c.regions-shaped.ensures.shaped c.args.first c.args.source c.requires.source

pub shared_region-common-requires-clause-shared : goal.shared_region-common-requires-clause-shared
shared_region-common-requires-clause-shared c =
    c.requires.shared c.args.first c.target.result (in_head c.args.first c.args.further.now) c.target.ensures.enters

pub loop-t-init : goal.loop-t-init
loop-t-init c = (
  none_met c.args.machine.now c.args.first c.args.further.now c.args.source c.target.result c.requires.source c.target.ensures.enters
      c.shared_region-common.result c.shared_region-common.ensures.scope,
  c.shared_region-common.ensures.there,
)

pub target-target-requires : goal.target-target-requires
target-target-requires c =
    c.requires.path _ (in_tail c.args.first _ c.args.further.now
    (c.loop-t.t-index, c.loop-t-test.true, get_or_default c.args.further.now c.loop-t.t-index _ _ c.loop-t-test.true))

pub shared_region-common-requires-then-not-lies_in_region-clause-first :
    goal.shared_region-common-requires-then-not-lies_in_region-clause-first
shared_region-common-requires-then-not-lies_in_region-clause-first c = source_there c.regions-shaped.ensures.shaped c.args.first c.args.source c.requires.source

pub shared_region-common-requires-then-not-lies_in_region-clause-shared :
    goal.shared_region-common-requires-then-not-lies_in_region-clause-shared
shared_region-common-requires-then-not-lies_in_region-clause-shared c =
    c.requires.shared _ c.target-target.result (in_tail c.args.first _ c.args.further.now
    (c.loop-t.t-index, c.loop-t-test.true, get_or_default c.args.further.now c.loop-t.t-index _ _ c.loop-t-test.true))
    c.target-target.ensures.enters

pub loop-t-preserved : goal.loop-t-preserved
loop-t-preserved c =
    let more : RegionId → Type 0 = λ x.
    IsScope c.args.machine.now (IsMet c.args.machine.now c.args.first c.args.further.now (c.loop-t.t-index + 1)) x × (x.0 < length c.args.machine.now.regions) in
    elim c.if-not-lies_in_region.branch [
      | then-not-lies_in_region w ↦ subst more (sym w.common-is) (
        scope_grows c.args.machine.now (IsMet c.args.machine.now c.args.first c.args.further.now c.loop-t.t-index) (IsMet c.args.machine.now c.args.first c.args.further.now (c.loop-t.t-index + 1))
            c.args.source c.target-target.result
            (one_more_met c.args.machine.now c.args.first c.args.further.now c.loop-t.t-index _ c.target-target.result c.loop-t-test.true
            (get_or_default _ _ _ _ c.loop-t-test.true) c.target-target.ensures.enters)
            c.loop-t.common _ (inl (inl c.requires.source)) c.loop-t.invariant.0
            (λ lies. (let clash = w.if-not-lies_in_region.ensures.1 lies in cc))
            w.shared_region-common-then-not-lies_in_region.ensures.scope,
        w.shared_region-common-then-not-lies_in_region.ensures.there,
      )
      | else-not-lies_in_region w ↦ subst more (sym w.common-is) (
        scope_stays c.args.machine.now (IsMet c.args.machine.now c.args.first c.args.further.now c.loop-t.t-index) (IsMet c.args.machine.now c.args.first c.args.further.now (c.loop-t.t-index + 1))
            c.args.source c.target-target.result
            (one_more_met c.args.machine.now c.args.first c.args.further.now c.loop-t.t-index _ c.target-target.result c.loop-t-test.true
            (get_or_default _ _ _ _ c.loop-t-test.true) c.target-target.ensures.enters)
            c.loop-t.common c.loop-t.invariant.0
            (w.if-not-lies_in_region.ensures.0 refl),
        c.loop-t.invariant.1,
      )
    ]

pub returns-clause-scope : goal.returns-clause-scope
returns-clause-scope c =
    let all : c.loop-t.t-index ≡ length c.args.further.now = omega (arith, c.loop-t-test.false, c.loop-t.auto.t-index-end) in
    subst (λ count. IsScope c.args.machine.now (IsMet c.args.machine.now c.args.first c.args.further.now count) c.loop-t.common) all c.loop-t.invariant.0
