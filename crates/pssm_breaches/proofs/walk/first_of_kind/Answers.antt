use Rattle.std.proofs.Common.{◌≡◌, ap, subst, sym, arith, length, None}
use Rattle.pssm_breaches.specs.inner.Walks.{AreSearched}
use Rattle.pssm_breaches.proofs.StepLaws.{search_starts, search_ends}
use Rattle.pssm_breaches.proofs.walk.first_of_kind.Goals as goal

pub loop-k-init : goal.loop-k-init
loop-k-init c =
    subst (λ latest. AreSearched c.args.draft.now c.args.m c.args.kind c.args.heritage.now 0 0 latest None) (sym c.in_ok-first_table.ensures)
    (search_starts c.args.draft.now c.args.m c.args.kind c.args.heritage.now c.requires.lineage)

pub returns : goal.returns
returns c =
    let all : c.loop-k.k ≡ length c.args.heritage.now.machines = let at = ap length c.machines-k-end.ensures in omega arith in
    search_ends c.args.draft.now c.args.m c.args.kind c.args.heritage.now c.requires.lineage c.loop-k.walk.latest.items c.loop-k.walk.found
    (subst (λ k. AreSearched c.args.draft.now c.args.m c.args.kind c.args.heritage.now k 0 c.loop-k.walk.latest.items c.loop-k.walk.found) all c.loop-k.invariant)
