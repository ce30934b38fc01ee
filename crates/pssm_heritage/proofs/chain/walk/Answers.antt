use Rattle.std.proofs.Common.{◌≡◌, ◌∙◌, ap, subst, sym, false, true, length, replicate, get_or, rules, set, None, arith}
use Rattle.std.proofs.lemmas.List.{get_or_default}
use Rattle.pssm_heritage.specs.inner.Walks.{IsWalking, HasWalked}
use Rattle.pssm_heritage.proofs.WalkLaws.{walk_starts, walk_goes_on, walk_ends, walk_closes, fewer_unseen}
use Rattle.pssm_heritage.proofs.chain.walk.Goals as goal

pub loop-seen-init : goal.loop-seen-init
loop-seen-init c =
    subst
    (λ seen. IsWalking c.args.draft.now c.args.m c.new-path.result.items c.args.m seen)
    (sym (c.in_ok-seen.ensures.items_if_clones_equal (λ y e. e) ∙ ap (λ xs. replicate (length xs) false) c.as_slice.ensures))
    (subst
    (λ path. IsWalking c.args.draft.now c.args.m path c.args.m (replicate (length c.args.draft.now.machines) false))
    (sym c.new-path.ensures.items)
    (walk_starts c.args.draft.now c.args.m c.requires.there))

pub loop-seen-preserved : goal.loop-seen-preserved
loop-seen-preserved c =
    subst
    (λ path. IsWalking c.args.draft.now c.args.m path c.in-Some.base (set c.loop-seen.seen.items c.loop-seen.at true))
    (sym c.in_ok-push.ensures.items)
    (walk_goes_on _ _ c.loop-seen.at c.in-Some.base _ _ c.requires.range c.loop-seen.invariant (sym c.in-Some.ensures))

pub loop-seen-smaller : goal.loop-seen-smaller
loop-seen-smaller c =
    let unseen_here : get_or c.loop-seen.seen.items c.loop-seen.at false ≡ false = search rules in
    fewer_unseen c.loop-seen.seen.items c.loop-seen.at (omega arith) unseen_here

pub returns-in-None : goal.returns-in-None
returns-in-None c =
    subst
    (λ path. HasWalked c.args.draft.now c.args.m path None)
    (sym c.in_ok-push.ensures.items)
    (walk_ends _ _ c.loop-seen.at _ _ c.loop-seen.invariant (sym c.in-None.ensures))

pub returns : goal.returns
returns c =
    let seen_here : get_or c.loop-seen.seen.items c.loop-seen.at false ≡ true =
    get_or_default c.loop-seen.seen.items c.loop-seen.at false c.index.result.now (omega arith) ∙ sym c.index.ensures ∙ c.loop-seen-test.false in
    walk_closes _ _ c.loop-seen.at _ _ c.loop-seen.invariant seen_here
