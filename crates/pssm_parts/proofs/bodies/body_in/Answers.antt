use Rattle.std.proofs.Common.{◌≡◌, ◌<◌, ◌∙◌, sym, ap, subst, length, ℕ, Bool, true, Option, Some}
use Rattle.std.specs.Prelude.{codes, ◌+◌}
use Rattle.pssm_roles.specs.inner.Seen.{left_from}
use Rattle.pssm_profile.proofs.CountingLaws.{in_range}
use Rattle.pssm_profile.proofs.ChildLaws.{fewer_left}
use Rattle.pssm_parts.specs.inner.Children.{HasPassed}
use Rattle.pssm_parts.proofs.PlaceLaws.{passed_first, found_at, none_at, passed_next}
use Rattle.pssm_parts.proofs.bodies.body_in.Goals.{else-called-via-then-called+else-seen-place, else-called-via-else-called}
use Rattle.pssm_parts.proofs.bodies.body_in.Goals as goal

pub children-init : goal.children-init
children-init c = passed_first c.args.elements.now c.args.p c.args.place c.first_child-next.result c.first_child-next.ensures

pub is_called-called-requires : goal.is_called-called-requires
is_called-called-requires c =
    let passed = subst (λ (o : Option ℕ). HasPassed c.args.elements.now c.args.p c.args.place o c.children.seen) c.in-Some.is c.children.invariant in
    in_range c.args.p (codes "body") c.args.elements.now c.in-Some.child passed.child

pub text-requires : goal.text-requires
text-requires c =
    let passed = subst (λ (o : Option ℕ). HasPassed c.args.elements.now c.args.p c.args.place o c.children.seen) c.in-Some.is c.children.invariant in
    in_range c.args.p (codes "body") c.args.elements.now c.in-Some.child passed.child

pub returns-then-seen-place : goal.returns-then-seen-place
returns-then-seen-place c =
    let passed = subst (λ (o : Option ℕ). HasPassed c.args.elements.now c.args.p c.args.place o c.children.seen) c.in-Some.is c.children.invariant in
    found_at c.args.elements.now c.args.p c.args.place c.in-Some.child c.children.seen c.text.result.now passed (c.is_called-called.ensures ∙ ap (λ (b : Bool). Some b) c.if-called.true) c.if-seen-place.true c.text.ensures

pub next_sibling-next-requires : goal.next_sibling-next-requires
next_sibling-next-requires c =
    let passed = subst (λ (o : Option ℕ). HasPassed c.args.elements.now c.args.p c.args.place o c.children.seen) c.in-Some.is c.children.invariant in
    in_range c.args.p (codes "body") c.args.elements.now c.in-Some.child passed.child

pub children-smaller : goal.children-smaller
children-smaller c =
    let doc = c.args.elements.now in
    let passed = subst (λ (o : Option ℕ). HasPassed doc c.args.p c.args.place o c.children.seen) c.in-Some.is c.children.invariant in
    subst (λ (o : Option ℕ). left_from (length doc) c.next_sibling-next.result < left_from (length doc) o) (sym c.in-Some.is)
    (fewer_left doc c.args.p c.in-Some.child c.next_sibling-next.result passed.child (c.next_sibling-next.ensures.next c.args.p passed.child))

pub children-preserved : goal.children-preserved
children-preserved c =
    let doc = c.args.elements.now in
    let passed = subst (λ (o : Option ℕ). HasPassed doc c.args.p c.args.place o c.children.seen) c.in-Some.is c.children.invariant in
    subst (λ (k : ℕ). HasPassed doc c.args.p c.args.place c.next_sibling-next.result (c.children.seen + k)) (sym c.one_if-seen.ensures)
    (passed_next doc c.args.p c.args.place c.in-Some.child c.children.seen c.next_sibling-next.result c.is_called-called.result passed c.is_called-called.ensures other
    (c.next_sibling-next.ensures.next c.args.p passed.child))
  where
    other : c.is_called-called.result ≡ true → c.children.seen ≡ c.args.place → ⊥
    other called same = elim c.else-called.branch [
      | else-called-via-then-called+else-seen-place w ↦ w.if-seen-place.false same
      | else-called-via-else-called w ↦ absurd (let no = w.if-called.false in let yes = called in cc)
    ]

pub returns : goal.returns
returns c =
    none_at c.args.elements.now c.args.p c.args.place c.children.seen (subst (λ (o : Option ℕ). HasPassed c.args.elements.now c.args.p c.args.place o c.children.seen) c.in_default.is c.children.invariant)
