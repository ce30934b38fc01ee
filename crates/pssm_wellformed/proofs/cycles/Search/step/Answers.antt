-- where the last group waits, an arrow is ahead
use Rattle.std.proofs.Common.{◌≡◌, ◌∷◌, [], length, Contains, sym, subst, ap, ◌∙◌, arith, length-append}
use Rattle.std.proofs.lemmas.List.Elements.{Contains-push}
use Rattle.pssm_wellformed.specs.declared.cycles.Group.{Group}
use Rattle.pssm_wellformed.specs.inner.Cycles.{IsSearch}
use Rattle.pssm_wellformed.proofs.Groups.{last_there, waits}
use Rattle.pssm_wellformed.proofs.cycles.Search.step.Goals as goal

pub meet-requires : goal.meet-requires
meet-requires c =
    let s = c.args.self.now in
    let is = c.in-Some-pop.ensures.items in
    record {
      before = subst (λ xs. IsSearch c.args.onward.now s.stages.items s.opened.items s.groups.items xs s.cyclic.items) is c.requires.search;
      last = λ x there.
          let lt = waits s.groups.items (length s.ahead.items) c.requires.search.ascending (λ y c'. (c.requires.search.inside y c').1)
          (λ y last none. c.in_default.ensures y (record { last = last; none_ahead = none })) x there in
          let count = ap length is ∙ length-append c.pop.new.self.items (c.in-Some-pop.number ∷ []) in
          omega arith;
    }

pub returns-in-None-clause-fewer : goal.returns-in-None-clause-fewer
returns-in-None-clause-fewer c =
    let s = c.args.self.now in
    let none : length s.ahead.items ≡ 0 = sym s.ahead.ok.0 ∙ c.in-None.ensures.cases.0 in
    let nobody : Group = record { first = 0; ahead = 0 } in
    let last = last_there s.groups.items nobody (let more = c.requires.more in omega arith) in
    let end = last.1 in
    let lt = waits s.groups.items (length s.ahead.items) c.requires.search.ascending (λ y c'. (c.requires.search.inside y c').1)
    (λ y end' none'. c.in_default.ensures y (record { last = end'; none_ahead = none' })) last.0 (subst (λ xs. Contains xs last.0) (sym end.1) (Contains-push end.0 last.0)) in
    absurd (omega arith)
