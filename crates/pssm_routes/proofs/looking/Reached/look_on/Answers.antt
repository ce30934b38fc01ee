-- each transition out of the vertex is looked at in turn
use Rattle.std.proofs.Common.{rules, ◌≡◌, length, subst}
use Rattle.std.proofs.lemmas.List.Elements.{Contains-get_or}
use Rattle.std.proofs.lemmas.Option.{slice_get-get_or}
use Rattle.pssm_routes.specs.inner.Looking.{IsSight}
use Rattle.pssm_routes.proofs.Looks.{at_place, place_there, looking_on_start, looking_on_more, looking_on_out, looking_on_end}
use Rattle.pssm_routes.proofs.looking.Reached.look_on.Goals as goal

pub outgoing-t-items-requires : goal.outgoing-t-items-requires
outgoing-t-items-requires g c =
    let long : length c.args.self.now.found ≡ 64 = search rules in
    place_there c.args.machine.now c.args.self.now c.args.place _ c.requires.room long c.requires.place

pub loop-t-init : goal.loop-t-init
loop-t-init g c = (
  c.requires.room,
  λ values start tells h.
      let long : length c.args.self.now.found ≡ 64 = search rules in
      looking_on_start start _ c.args.place c.outgoing-t-items.result.now c.args.self.now h
      (at_place c.args.machine.now c.args.self.now c.args.place _ c.requires.room long c.requires.place),
)

pub loop-t-preserved : goal.loop-t-preserved
loop-t-preserved g c = (
  c.look_at.ensures.room,
  λ values start tells h.
      looking_on_more start _ c.args.place c.outgoing-t-items.result.now c.loop-t.self c.look_at.new.self c.loop-t.t-index _
      (c.loop-t.invariant.1 values start tells h)
      (slice_get-get_or c.outgoing-t-items.result.now c.loop-t.t-index _ c.loop-t-test.true)
      ((c.outgoing-t-items.ensures.items _).0 (Contains-get_or c.outgoing-t-items.result.now c.loop-t.t-index _ c.loop-t-test.true))
      (subst (IsSight c.args.machine.now values c.args.within _ c.loop-t.self c.look_at.new.self) c.in-On.is (c.look_at.ensures.sight values tells)),
)

pub returns-in-Out-clause-sight : goal.returns-in-Out-clause-sight
returns-in-Out-clause-sight g c = λ values start tells h.
    looking_on_out start _ c.args.place c.outgoing-t-items.result.now c.loop-t.self c.loop-t.t-index _
    (c.loop-t.invariant.1 values start tells h)
    ((c.outgoing-t-items.ensures.items _).0 (Contains-get_or c.outgoing-t-items.result.now c.loop-t.t-index _ c.loop-t-test.true))
    (subst (IsSight c.args.machine.now values c.args.within _ c.loop-t.self c.look_at.new.self) c.in-Out.is (c.look_at.ensures.sight values tells))

pub returns-clause-sight : goal.returns-clause-sight
returns-clause-sight g c = λ values start tells h.
    looking_on_end start _ c.args.place c.outgoing-t-items.result.now c.loop-t.self c.loop-t.t-index c.loop-t-test.false
    (λ u leaves. (c.outgoing-t-items.ensures.items u).1 leaves) (c.loop-t.invariant.1 values start tells h)
