use Rattle.std.proofs.Common.{refl, sym, subst, ⊎_elim, arith}
use Rattle.pssm_model.specs.Forest.{LiesInRegion}
use Rattle.pssm_model_laws.proofs.RegionChains.{region_there}
use Rattle.pssm_model_laws.proofs.CommonRegions.{one_of_two}
use Rattle.pssm_legs.proofs.areas.shared_region.Goals as goal

pub unreachable-requires : goal.unreachable-requires
unreachable-requires c =
    let shared = c.requires.shared in
    c.in-None.ensures.none shared.0 (λ x is.
    ⊎_elim
    (λ same. subst (λ y. LiesInRegion c.args.machine.now y shared.0) (sym same) shared.1)
    (λ same. subst (λ y. LiesInRegion c.args.machine.now y shared.0) (sym same) shared.2)
    (one_of_two c.args.v c.args.w x is))

pub returns-clause-there : goal.returns-clause-there
returns-clause-there c =
    region_there c.regions-shaped.ensures.shaped c.args.v c.in-Some.region c.requires.first
    (c.in-Some.ensures.scope.common c.args.v (0, omega arith, refl))
