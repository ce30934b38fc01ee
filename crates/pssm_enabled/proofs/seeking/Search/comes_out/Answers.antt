-- the target is no junction or exit point, or was seen before, or is marked now
use Rattle.std.proofs.Common.{rules, ◌≡◌, ◌<◌, length, refl, subst}
use Rattle.pssm_model.proofs.ElementLaws.{enters_one}
use Rattle.pssm_enabled.specs.Ways.{IsPassedOver}
use Rattle.pssm_enabled.specs.inner.Seeking.ComesTo.{out, again}
use Rattle.pssm_enabled.proofs.ListPlaces.{refuted}
use Rattle.pssm_enabled.proofs.Sought.{room_for, comes_first, once_first}
use Rattle.pssm_enabled.proofs.seeking.Search.comes_out.Goals as goal

pub returns-then-not-is_passed_over-clause-comes : goal.returns-then-not-is_passed_over-clause-comes
returns-then-not-is_passed_over-clause-comes c =
    out
    (λ v enters passed.
    let same = enters_one c.args.machine.now c.args.step.by v c.target-target.result enters c.target-target.ensures.enters in
    refuted c.is_passed_over.result c.if-not-is_passed_over.true c.is_passed_over.ensures (subst (IsPassedOver c.args.machine.now) same passed))
    refl

pub bounds-self-self : goal.bounds-self-self
bounds-self-self c =
    let long : length c.args.self.now.steps ≡ 4096 = search rules in
    room_for c.args.step c.requires.once c.target-target.ensures.enters (λ h. search (rules, h))
    (c.is_passed_over.ensures.0 c.if-not-is_passed_over.false) c.regions-shaped.ensures.shaped long

pub returns-then-not-self-target-clause-comes : goal.returns-then-not-self-target-clause-comes
returns-then-not-self-target-clause-comes c =
    let long : length c.args.self.now.steps ≡ 4096 = search rules in
    let marks : c.target-target.result.0 < length c.args.self.now.seen = search rules in
    comes_first c.args.step c.requires.once c.target-target.ensures.enters
    (c.is_passed_over.ensures.0 c.if-not-is_passed_over.false) (λ h. search (rules, h)) marks
    c.regions-shaped.ensures.shaped long

pub returns-then-not-self-target-clause-once : goal.returns-then-not-self-target-clause-once
returns-then-not-self-target-clause-once c =
    let long : length c.args.self.now.steps ≡ 4096 = search rules in
    let marks : c.target-target.result.0 < length c.args.self.now.seen = search rules in
    once_first c.args.step c.requires.once c.target-target.ensures.enters
    (c.is_passed_over.ensures.0 c.if-not-is_passed_over.false) (λ h. search (rules, h)) marks
    c.regions-shaped.ensures.shaped long

pub returns-else-not-self-target-clause-comes : goal.returns-else-not-self-target-clause-comes
returns-else-not-self-target-clause-comes c =
    again c.target-target.ensures.enters (c.is_passed_over.ensures.0 c.if-not-is_passed_over.false) c.if-not-self-target.false refl
