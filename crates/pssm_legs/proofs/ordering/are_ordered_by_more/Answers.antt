-- one leg alone has none behind it
use Rattle.std.proofs.Common.{◌≡◌, ◌≤◌, true, false, length, ⊎_elim, arith}
use Rattle.pssm_legs.specs.LegsOf.{leg_list, StandsLater}
use Rattle.pssm_legs.specs.inner.Told.{IsCalledAsTold, IsOrderedAsTold}
use Rattle.pssm_legs.proofs.LaterPlaces.{nothing_behind_alone}
use Rattle.pssm_legs.proofs.ordering.are_ordered_by_more.Goals as goal

pub returns-then-alone : goal.returns-then-alone
returns-then-alone c =
    let empty = c.if-alone.true in
    let long = c.args.legs.now.more.ok.0 in
    let none : length c.args.legs.now.more.items ≤ 0 = omega (arith, empty, long) in (
      λ f. absurd (let e : false ≡ true = f in cc),
      λ h. absurd (⊎_elim
          (λ over. nothing_behind_alone c.args.legs.now
          (λ j b. StandsLater (leg_list c.args.legs.now) 0 j × IsCalledAsTold c.args.machine.now c.args.legs.now j b c.args.fires c.args.second)
          none over.2)
          (λ more. nothing_behind_alone c.args.legs.now
          (λ i a. IsOrderedAsTold c.args.machine.now c.args.legs.now i a c.args.fires c.args.first c.args.second) none more)
          h),
    )
