-- the claim is one more, and was not there
use Rattle.std.proofs.Common.{◌≡◌, ◌≢◌, ◌≤◌, ◌++◌, List, [], ◌∷◌, length, refl, sym, ap, subst, ◌∙◌, arith, length-append}
use Rattle.std.specs.Prelude.{AllPairs}
use Rattle.pssm_semantics.specs.declared.entry.ObjectId.{ObjectId}
use Rattle.pssm_semantics.specs.declared.stimulus.Task.{Task}
use Rattle.pssm_book.proofs.ListLaws.{apart_more}
use Rattle.pssm_book.proofs.DeskLaws.{order_same}
use Rattle.pssm_book.proofs.desk.Desk.hand_out.Goals as goal

pub returns-clause-order : goal.returns-clause-order
returns-clause-order c =
    let was = c.args.self.now.claims.items in
    let at : ObjectId × Task = (c.args.object, c.args.task) in
    let grown : c.push_reserved.new.self.items ≡ was ++ at ∷ [] =
    c.push_reserved.ensures.items ∙ ap (λ (xs : List (ObjectId × Task)). xs ++ at ∷ []) c.reserve.ensures.items in
    let long = ap (λ (xs : List (ObjectId × Task)). length xs) grown in
    let more = length-append was (at ∷ []) in
    order_same c.args.self.now _ c.requires.order refl refl refl refl refl
    (omega (arith, long, more, c.len.ensures, c.if-len-ge-MOST_CLAIMS.false))
    (subst (AllPairs (λ a b. a ≢ b)) (sym grown) (apart_more was at c.requires.order.apart c.requires.is_open.free))
