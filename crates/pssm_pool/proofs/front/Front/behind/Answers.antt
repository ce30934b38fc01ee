-- the slot behind the last of the front, or the first of the list
use Rattle.std.proofs.Common.{refl, sym, ap, subst, ◌∙◌}
use Rattle.pssm_links.specs.Chained.{list_of, slot_at}
use Rattle.pssm_pool.proofs.Fronts.{slot-of, front-end, front-none}
use Rattle.pssm_pool.proofs.front.Front.behind.Goals as goal

pub next-requires : goal.next-requires
next-requires c =
    let lists = c.args.chains.now.lists in
    let last = front-end (list_of lists c.args.list) c.args.self.now c.in-Some.slot c.requires.front c.in-Some.is in
    (c.args.list, last.place, slot-of lists c.args.list last.place last.last c.in-Some.slot last.there last.slot_is)

pub returns-in-Some : goal.returns-in-Some
returns-in-Some c =
    let lists = c.args.chains.now.lists in
    let last = front-end (list_of lists c.args.list) c.args.self.now c.in-Some.slot c.requires.front c.in-Some.is in
    c.next.ensures c.args.list last.place (slot-of lists c.args.list last.place last.last c.in-Some.slot last.there last.slot_is)
    ∙ ap (λ n. slot_at lists c.args.list n) (sym last.count_is)

pub returns-in-None : goal.returns-in-None
returns-in-None c =
    let lists = c.args.chains.now.lists in
    c.first.ensures ∙ ap (λ n. slot_at lists c.args.list n) (sym (front-none (list_of lists c.args.list) c.args.self.now c.requires.front c.in-None.is))
