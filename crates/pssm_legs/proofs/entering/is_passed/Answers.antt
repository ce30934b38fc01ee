-- no State lies between a vertex and the innermost region in which it lies
use Rattle.std.proofs.Common.{◌≡◌, true, false}
use Rattle.pssm_legs.proofs.EnteredAt.{home_passes_none}
use Rattle.pssm_legs.proofs.entering.is_passed.Goals as goal

pub returns-then-is_home_area : goal.returns-then-is_home_area
returns-then-is_home_area c = (
  λ f. absurd (let e : false ≡ true = f in cc),
  λ h. absurd (home_passes_none c.args.machine.now c.regions-shaped.ensures.shaped c.args.leg.now c.args.v c.args.s c.requires.last
      (c.is_home_area.ensures c.if-is_home_area.true) h),
)
