-- the number is open, and its arrows are ahead
use Rattle.std.proofs.Common.{◌<◌, [], ◌∷◌, ◌++◌, length, sym, ap, subst, ◌∙◌, arith, length-append}
use Rattle.std.proofs.lemmas.List.Elements.{Contains-push}
use Rattle.pssm_wellformed.specs.inner.Lists.{list_at}
use Rattle.pssm_wellformed.proofs.Walking.{list_there}
use Rattle.pssm_wellformed.proofs.Settling.{new_steps_open}
use Rattle.pssm_wellformed.proofs.Searching.{meets_new}
use Rattle.pssm_wellformed.proofs.cycles.Search.open_new.Goals as goal

pub index_mut-requires : goal.index_mut-requires
index_mut-requires c =
    let before = c.requires.meeting.before in
    let low = before.there c.args.number (Contains-push c.args.self.now.ahead.items c.args.number) in
    subst (λ n. c.args.number < n) (sym before.stages_width ∙ sym c.args.self.now.stages.ok.0) low

pub bounds-onward-number : goal.bounds-onward-number
bounds-onward-number c = c.requires.meeting.before.there c.args.number (Contains-push c.args.self.now.ahead.items c.args.number)

pub returns-clause-search : goal.returns-clause-search
returns-clause-search c =
    let before = c.requires.meeting.before in
    let low = before.there c.args.number (Contains-push c.args.self.now.ahead.items c.args.number) in
    let list = list_there c.args.onward.now c.args.number c.index-onward-number.result low c.index-onward-number.is in
    rw (c.in_ok-push-2.ensures.items, c.in_ok-push.ensures.items, c.in_ok-extend_from_slice.ensures.items, c.as_slice.ensures.value, sym list)
    (meets_new c.args.self.now.ahead.items c.args.number before c.requires.meeting.last c.requires.new (record { first = c.len-first.result; ahead = c.len-ahead.result })
    (c.len-first.ensures ∙ c.args.self.now.opened.ok.0) (c.len-ahead.ensures ∙ c.args.self.now.ahead.ok.0))

pub returns-clause-fewer : goal.returns-clause-fewer
returns-clause-fewer c =
    let before = c.requires.meeting.before in
    let low = before.there c.args.number (Contains-push c.args.self.now.ahead.items c.args.number) in
    let list = list_there c.args.onward.now c.args.number c.index-onward-number.result low c.index-onward-number.is in
    let fewer = new_steps_open c.args.onward.now c.args.self.now.stages.items c.args.number c.len-first.result low (let w = before.stages_width in omega arith) c.requires.new in
    let groups = ap length c.in_ok-push.ensures.items ∙ length-append c.args.self.now.groups.items (record { first = c.len-first.result; ahead = c.len-ahead.result } ∷ []) in
    let ahead = ap length (c.in_ok-extend_from_slice.ensures.items ∙ ap (λ xs. c.args.self.now.ahead.items ++ xs) (c.as_slice.ensures.value ∙ sym list))
    ∙ length-append c.args.self.now.ahead.items (list_at c.args.onward.now c.args.number) in
    omega arith
