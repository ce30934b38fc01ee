use Rattle.std.proofs.Common.{subst, sym, set, ◌++◌, ◌∷◌, []}
use Rattle.pssm_totals.specs.declared.marks.Mark.TheVariants.{Passed}
use Rattle.pssm_totals.specs.inner.Ways.{IsWalking}
use Rattle.pssm_totals.proofs.MarkLaws.{walk_goes_on}
use Rattle.pssm_totals.proofs.walking.walk.Goals as goal

pub way-preserved : goal.way-preserved
way-preserved c =
    let walking = subst (λ o. IsWalking c.args.extends.now c.args.marks.now c.way.marks c.args.m c.way.path.items o) c.in-Some.ensures.0 c.way.invariant in
    let more = walk_goes_on _ _ _ _ c.in-Some.at _ c.requires.within walking c.in-Some.ensures.1 in
    subst
    (λ path. IsWalking c.args.extends.now c.args.marks.now (set c.way.marks c.in-Some.at Passed) c.args.m path c.extended_by-next.result)
    (sym c.in_ok-push.ensures.items)
    (subst
    (λ o. IsWalking c.args.extends.now c.args.marks.now (set c.way.marks c.in-Some.at Passed) c.args.m (c.way.path.items ++ c.in-Some.at ∷ []) o)
    (sym c.extended_by-next.ensures)
    more)
