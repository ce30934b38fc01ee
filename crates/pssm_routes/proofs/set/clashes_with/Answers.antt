-- each turn looks at one footprint more
use Rattle.std.proofs.Common.{◌<◌, ◌≤◌, length, get_or, refl, arith}
use Rattle.std.proofs.lemmas.List.Elements.{Contains-get_or}
use Rattle.pssm_legs.specs.declared.areas.Area.TheVariants.{Nowhere}
use Rattle.pssm_routes.specs.declared.areas.Footprint.{Footprint}
use Rattle.pssm_routes.specs.inner.Footprints.{Clash}
use Rattle.pssm_enabled.proofs.Scanning.{holds_of_more, holds_of_all, refuted}
use Rattle.pssm_routes.proofs.set.clashes_with.Goals as goal

pub returns-then-clash : goal.returns-then-clash
returns-then-clash c =
    let d : Footprint = record { source = record { 0 = 0 }; area = Nowhere } in
    let more : c.loop-other.other-index < length c.args.others.now =
    let less = c.loop-other-test.true in let upto = c.loop-other.auto.other-index-end in omega (arith, less, upto) in (
      λ t. (
        get_or c.args.others.now c.loop-other.other-index d,
        Contains-get_or c.args.others.now c.loop-other.other-index d more,
        c.clash.ensures.0 c.if-clash.true,
      ),
      λ h. refl,
    )

pub loop-other-preserved : goal.loop-other-preserved
loop-other-preserved c =
    let more : c.loop-other.other-index < length c.args.others.now =
    let less = c.loop-other-test.true in let upto = c.loop-other.auto.other-index-end in omega (arith, less, upto) in
    holds_of_more (λ a. Clash c.args.machine.now a c.args.footprint → ⊥) c.args.others.now c.loop-other.other-index _ more
    (refuted c.clash.result c.if-clash.false c.clash.ensures) c.loop-other.invariant

pub returns : goal.returns
returns c =
    let all : length c.args.others.now ≤ c.loop-other.other-index =
    let last = c.loop-other-test.false in let upto = c.loop-other.auto.other-index-end in omega (arith, last, upto) in (
      λ f. absurd (cc),
      λ h. absurd (holds_of_all
          (λ a. Clash c.args.machine.now a c.args.footprint → ⊥)
          c.args.others.now
          c.loop-other.other-index
          all
          c.loop-other.invariant
          h.0
          h.1
          h.2),
    )
