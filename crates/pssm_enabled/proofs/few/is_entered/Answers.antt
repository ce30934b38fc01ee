-- each turn looks at one transition more
use Rattle.std.proofs.Common.{◌≡◌, ◌<◌, length, get_or, refl, arith}
use Rattle.std.proofs.lemmas.List.Elements.{Contains-get_or}
use Rattle.pssm_model.specs.declared.ids.TransId.{TransId}
use Rattle.pssm_model.specs.Legs.{On}
use Rattle.pssm_enabled.specs.Fitting.{route_with}
use Rattle.pssm_enabled.proofs.ListPlaces.{below_next, below_all, refuted}
use Rattle.pssm_enabled.proofs.few.is_entered.Goals as goal

pub returns-then-is_on : goal.returns-then-is_on
returns-then-is_on c =
    let d : TransId = record { 0 = 0 } in
    let items = c.incoming-u-items.result.now in
    let more : c.loop-u.u-index < length items =
    let less = c.loop-u-test.true in let upto = c.loop-u.auto.u-index-end in omega (arith, less, upto) in
    let t = get_or items c.loop-u.u-index d in (
      λ e. (t, c.is_on.ensures.0 c.if-is_on.true, (c.incoming-u-items.ensures.items t).0 (Contains-get_or items c.loop-u.u-index d more)),
      λ h. refl,
    )

pub loop-u-preserved : goal.loop-u-preserved
loop-u-preserved c =
    let items = c.incoming-u-items.result.now in
    let more : c.loop-u.u-index < length items =
    let less = c.loop-u-test.true in let upto = c.loop-u.auto.u-index-end in omega (arith, less, upto) in
    below_next (λ (t : TransId). On (route_with c.args.starts.now c.args.rest.now) t → ⊥) items c.loop-u.u-index _ more
    (refuted c.is_on.result c.if-is_on.false c.is_on.ensures) c.loop-u.invariant

pub returns : goal.returns
returns c =
    let items = c.incoming-u-items.result.now in
    let all : length items ≡ c.loop-u.u-index =
    let last = c.loop-u-test.false in let upto = c.loop-u.auto.u-index-end in omega (arith, last, upto) in (
      λ wrong. absurd (cc),
      λ h. absurd (below_all (λ (t : TransId). On (route_with c.args.starts.now c.args.rest.now) t → ⊥) items c.loop-u.u-index all c.loop-u.invariant h.0
          ((c.incoming-u-items.ensures.items h.0).1 h.2) h.1),
    )
