-- the slot is that of the object's list
use Rattle.std.proofs.Common.{List, subst, ap, ◌∙◌, true}
use Rattle.std.specs.Prelude.{IfNone}
use Rattle.std.specs.Fn.{FnReturnsAt}
use Rattle.std.specs.List.{AllByRecursion}
use Rattle.std.proofs.lemmas.Option.{IfSome_then}
use Rattle.pssm_links.specs.Chained.{IsSlotAt}
use Rattle.pssm_pool.specs.declared.pools.Waiting.{Waiting}
use Rattle.pssm_pool.specs.Telling.{AnswersAlike, IsFirstNot}
use Rattle.pssm_pool.specs.inner.Chaining.{values_of}
use Rattle.pssm_pool.proofs.Linking.{linked-slot, values-are}
use Rattle.pssm_pool.proofs.pools.Pools.first_not_alike.Goals as goal

pub returns-clause-slot : goal.returns-clause-slot
returns-clause-slot g c =
    let lists = c.self.inside.chains.lists in
    IfSome_then c.first_in_alike.result c.first_in_alike.ensures.first
    (λ slot first. (
      c.args.object,
      first.0,
      linked-slot c.self.inside.chains c.args.self.now c.self.view_is slot c.args.object first.0 (subst (λ l. IsSlotAt lists slot l first.0) c.from-2.ensures first.1),
    ))

pub returns-clause-first : goal.returns-clause-first
returns-clause-first g c =
    let lists = c.self.inside.chains.lists in
    let same = ap (λ l. values_of lists l) c.from-2.ensures ∙ values-are c.self.inside.chains c.args.self.now c.self.view_is c.args.object in
    IfSome_then c.first_in_alike.result c.first_in_alike.ensures.first
    (λ slot first. (
      first.0,
      linked-slot c.self.inside.chains c.args.self.now c.self.view_is slot c.args.object first.0 (subst (λ l. IsSlotAt lists slot l first.0) c.from-2.ensures first.1),
      subst (λ ws. IsFirstNot (AnswersAlike (FnReturnsAt g.T.Fn c.args.held.now)) ws first.0) same first.2,
    ))

pub returns-clause-none : goal.returns-clause-none
returns-clause-none g c =
    let lists = c.self.inside.chains.lists in
    let same = ap (λ l. values_of lists l) c.from-2.ensures ∙ values-are c.self.inside.chains c.args.self.now c.self.view_is c.args.object in
    subst (λ (ws : List Waiting). IfNone c.first_in_alike.result (AllByRecursion (λ w. AnswersAlike (FnReturnsAt g.T.Fn c.args.held.now) w true) ws)) same c.first_in_alike.ensures.none
