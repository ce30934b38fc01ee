-- what stays are the claims that differ from this one
use Rattle.std.proofs.Common.{◌≡◌, ◌≢◌, ◌≤◌, List, length, not, refl, sym, subst, rules, arith, ◌∙◌}
use Rattle.std.specs.Prelude.{AllPairs}
use Rattle.std.proofs.lemmas.Fn.{filter_same}
use Rattle.std.proofs.lemmas.List.Kept.{AllPairs-filter}
use Rattle.pssm_semantics.specs.declared.entry.ObjectId.{ObjectId}
use Rattle.pssm_semantics.specs.declared.stimulus.Task.{Task}
use Rattle.pssm_book.specs.Committing.{IsWithout}
use Rattle.pssm_book.specs.inner.Claims.{is_claim}
use Rattle.pssm_book.proofs.ListLaws.{others, filter_fewer, without_is, without_none}
use Rattle.pssm_book.proofs.DeskLaws.{order_same}
use Rattle.pssm_book.proofs.desk.Desk.give_back.Goals as goal

pub returns-clause-order : goal.returns-clause-order
returns-clause-order c =
    let at : ObjectId × Task = (c.args.object, c.args.task) in
    let was = c.args.self.now.claims.items in
    let kept : c.retain.new.self.items ≡ others at was =
    filter_same _ (λ (x : ObjectId × Task). not (is_claim x at)) _ (λ x b f' k. search rules) _ _ c.retain.ensures.filtered in
    let fewer = filter_fewer (λ (x : ObjectId × Task). not (is_claim x at)) was in
    let few = c.requires.few_claims in
    order_same c.args.self.now _ c.requires refl refl refl refl refl
    (subst (λ (xs : List (ObjectId × Task)). length xs ≤ 65536) (sym kept) (omega (arith, fewer, few)))
    (subst (AllPairs (λ a b. a ≢ b)) (sym kept) (AllPairs-filter (λ a b. a ≢ b) (λ (x : ObjectId × Task). not (is_claim x at)) was c.requires.apart))

pub returns-clause-given : goal.returns-clause-given
returns-clause-given c =
    let at : ObjectId × Task = (c.args.object, c.args.task) in
    let was = c.args.self.now.claims.items in
    let kept : c.retain.new.self.items ≡ others at was =
    filter_same _ (λ (x : ObjectId × Task). not (is_claim x at)) _ (λ x b f' k. search rules) _ _ c.retain.ensures.filtered in
    record {
      run = refl;
      stimuli = refl;
      limit = refl;
      claims = subst (IsWithout was at) (sym kept) (without_is at was);
      unclaimed = λ absent. kept ∙ without_none at was absent;
    }
