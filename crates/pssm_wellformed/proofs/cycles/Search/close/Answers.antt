-- the last group leaves the groups, and its numbers the open ones
use Rattle.std.proofs.Common.{◌≡◌, ◌≤◌, ◌-◌, ◌++◌, ◌∷◌, [], length, take, drop, Contains, sym, subst, ap, ◌∙◌}
use Rattle.std.proofs.lemmas.List.{take-append-drop, length-take-le}
use Rattle.std.proofs.lemmas.List.Elements.{Contains-append_right, Contains-push}
use Rattle.pssm_wellformed.specs.inner.Cycles.{IsSearch, IsSettled}
use Rattle.pssm_wellformed.proofs.Groups.{without_last}
use Rattle.pssm_wellformed.proofs.Searching.{opened_there}
use Rattle.pssm_wellformed.proofs.Closing.{closes}
use Rattle.pssm_wellformed.proofs.cycles.Search.close.Goals as goal

pub split_at-requires : goal.split_at-requires
split_at-requires c =
    let last = c.requires.walked.last in
    let inside = c.requires.search.inside c.args.group (subst (λ xs. Contains xs c.args.group) (sym last.1) (Contains-push last.0 c.args.group)) in
    subst (λ xs. c.args.group.first ≤ length xs) (sym c.as_slice.ensures.value) inside.0

pub settle-requires-clause-there : goal.settle-requires-clause-there
settle-requires-clause-there c a there =
    let s = c.args.self.now in
    let behind : Contains (drop c.args.group.first s.opened.items) a =
    subst (λ xs. Contains xs a) (c.split_at.ensures.back ∙ ap (drop c.args.group.first) c.as_slice.ensures.value) there in
    opened_there c.args.onward.now s.stages.items s.opened.items s.groups.items s.ahead.items s.cyclic.items c.requires.search a
    (subst (λ xs. Contains xs a) (take-append-drop c.args.group.first s.opened.items)
    (Contains-append_right (take c.args.group.first s.opened.items) (drop c.args.group.first s.opened.items) a behind))

pub returns-clause-search : goal.returns-clause-search
returns-clause-search c =
    let g = c.args.onward.now in
    let s = c.args.self.now in
    let x = c.args.group in
    let last = c.requires.walked.last in
    let front = take x.first s.opened.items in
    let back = drop x.first s.opened.items in
    let inside = c.requires.search.inside x (subst (λ xs. Contains xs x) (sym last.1) (Contains-push last.0 x)) in
    let search : IsSearch g s.stages.items (front ++ back) (last.0 ++ x ∷ []) s.ahead.items s.cyclic.items =
    subst (λ xs. IsSearch g s.stages.items xs (last.0 ++ x ∷ []) s.ahead.items s.cyclic.items) (sym (take-append-drop x.first s.opened.items))
    (subst (λ xs. IsSearch g s.stages.items s.opened.items xs s.ahead.items s.cyclic.items) last.1 c.requires.search) in
    let settled : IsSettled g back (length back) s.stages.items c.settle.new.stages.items s.cyclic.items c.settle.new.cyclic.items =
    subst (λ xs. IsSettled g xs (length xs) s.stages.items c.settle.new.stages.items s.cyclic.items c.settle.new.cyclic.items)
    (c.split_at.ensures.back ∙ ap (drop x.first) c.as_slice.ensures.value) c.settle.ensures in
    let rest : c.pop.new.self.items ≡ last.0 =
    without_last last.0 s.groups.items c.pop.new.self.items x last.1 (c.pop.ensures.rest ∙ ap (λ n. take (n - 1) s.groups.items) s.groups.ok.0) in
    rw (c.truncate.ensures.items, rest) (closes front back last.0 x search (sym (length-take-le x.first s.opened.items inside.0)) c.requires.walked.none_ahead settled)
