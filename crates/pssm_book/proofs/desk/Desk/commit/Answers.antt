-- work that did not run the behaviour of the task is not its work
use Rattle.std.proofs.Common.{refl, subst}
use Rattle.pssm_semantics.specs.declared.entry.ObjectId.{ObjectId}
use Rattle.pssm_book.specs.Committing.{IsWithout}
use Rattle.pssm_book.proofs.CommitLaws.{true_and_false}
use Rattle.pssm_book.proofs.desk.Desk.commit.Goals as goal

pub returns-clause-commits : goal.returns-clause-commits
returns-clause-commits c = (refl, (λ its. true_and_false c.is_run_of.result (c.is_run_of.ensures.1 its.act) c.if-is_run_of.false), c.give_back.ensures.given.run)

pub returns-clause-given_back : goal.returns-clause-given_back
returns-clause-given_back c =
    subst (λ (o : ObjectId). IsWithout c.args.self.now.claims.items (o, c.args.task) c.give_back.new.self.claims.items) c.own.ensures
    c.give_back.ensures.given.claims
