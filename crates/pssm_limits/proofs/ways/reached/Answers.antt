use Rattle.std.proofs.Common.{subst, sym, ◌<◌, length, true, set, arith}
use Rattle.pssm_limits.specs.inner.Ways.{IsWalking, IsUnmarked, IsMarked}
use Rattle.pssm_limits.proofs.WayLaws.{walk_starts, walk_goes_on, walk_ends, extended_at}
use Rattle.pssm_limits.proofs.ways.reached.Goals as goal

pub way-init : goal.way-init
way-init c =
    subst
    (λ marks. IsWalking c.args.extends.now c.args.from marks c.args.from)
    (sym (c.in_ok-marks.ensures.items_if_clones_equal (λ y e. e)))
    (walk_starts c.args.extends.now c.args.from c.requires.there)

pub way-preserved : goal.way-preserved
way-preserved c =
    let width = c.way.invariant.width in
    let found = subst (λ xs. IsUnmarked xs c.way.next c.unmarked.result) c.as_slice.ensures.value c.unmarked.ensures in
    let here = subst (λ o. IsUnmarked c.way.marks.items c.way.next o) c.in-Some.is found in
    let less = here.1 in
    let lt : c.in-Some.at < length c.args.extends.now = omega (arith, width, less) in
    subst
    (λ o. IsWalking c.args.extends.now c.args.from (set c.way.marks.items c.in-Some.at true) o)
    (extended_at c.args.extends.now c.in-Some.at lt)
    (walk_goes_on c.args.extends.now c.args.from c.way.marks.items c.way.next c.in-Some.at c.requires.within c.way.invariant here.0 less)

pub returns : goal.returns
returns c =
    walk_ends c.args.extends.now c.args.from c.way.marks.items c.way.next c.way.invariant
    (λ m e. subst (λ xs. IsMarked xs m) c.as_slice.ensures.value (c.in_default.ensures m e))
