use Rattle.std.proofs.Common.{◌≡◌, ◌<◌, ap, subst, sym, arith, get_or, length}
use Rattle.pssm_heritage.specs.inner.Tables.{own_count}
use Rattle.pssm_heritage.proofs.NumberLaws.{machine_below}
use Rattle.pssm_breaches.specs.inner.Walks.{AreSearched}
use Rattle.pssm_breaches.proofs.StepLaws.{search_next}
use Rattle.pssm_breaches.proofs.walk.search_machine.Goals as goal

pub count_of-i-end-requires-clause-there : goal.count_of-i-end-requires-clause-there
count_of-i-end-requires-clause-there c =
    subst (λ ms. get_or ms c.args.k 0 < length c.args.draft.now.machines) (sym c.machines.ensures)
    (machine_below c.args.draft.now c.args.heritage.now.machines c.args.k c.requires.range (record { last = c.args.m; chain = c.requires.lineage.chain }) c.requires.place)

pub returns : goal.returns
returns c =
    let at = ap (λ ms. own_count c.args.draft.now c.args.kind (get_or ms c.args.k 0)) c.machines.ensures in
    let all : c.loop-i.i ≡ own_count c.args.draft.now c.args.kind (get_or c.args.heritage.now.machines c.args.k 0) = omega arith in
    search_next c.args.draft.now c.args.m c.args.kind c.args.heritage.now c.requires.lineage c.args.k c.loop-i.walk.latest.items c.loop-i.walk.found c.requires.place
    (subst (λ i. AreSearched c.args.draft.now c.args.m c.args.kind c.args.heritage.now c.args.k i c.loop-i.walk.latest.items c.loop-i.walk.found) all c.loop-i.invariant)
