-- the claims are those that the desk had, without this one
use Rattle.std.proofs.Common.{List, subst}
use Rattle.pssm_semantics.specs.declared.entry.ObjectId.{ObjectId}
use Rattle.pssm_semantics.specs.declared.stimulus.Task.{Task}
use Rattle.pssm_book.specs.Committing.{IsWithout}
use Rattle.pssm_book.proofs.desk.Desk.commit_known.Goals as goal

pub returns-clause-given_back : goal.returns-clause-given_back
returns-clause-given_back c =
    subst (λ (o : ObjectId). IsWithout c.args.self.now.claims.items (o, c.args.task) c.give_back.new.self.claims.items) c.own-object.ensures
    (subst (λ (xs : List (ObjectId × Task)). IsWithout xs (c.own-object.result, c.args.task) c.give_back.new.self.claims.items) c.settle.ensures.claims
    c.give_back.ensures.given.claims)
