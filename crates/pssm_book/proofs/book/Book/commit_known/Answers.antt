-- Each clause is a part of what the answer of the desk says.
use Rattle.std.proofs.Common.{◌≡◌, Some, arith, refl, sym, subst}
use Rattle.pssm_book.specs.Contents.{Contents, KeepsTerms}
use Rattle.pssm_book.specs.Works.{behaviour_in}
use Rattle.pssm_book.specs.Committing.{IsWithout}
use Rattle.pssm_book.specs.inner.Keeping.{contents_of}
use Rattle.pssm_book.proofs.AnswerLaws.{terms_with}
use Rattle.pssm_book.proofs.SeenLaws.{commit_seen, unchanged_count, unclaimed_seen}
use Rattle.pssm_book.proofs.book.Book.commit_known.Goals as goal

-- The work ran its behaviour by the setting of the desk.
pub commit_known-requires-clause-known : goal.commit_known-requires-clause-known
commit_known-requires-clause-known g c =
    subst (λ (k : Contents). behaviour_in k.run.setting c.args.worked.now.own c.args.task ≡ Some c.args.worked.now.act) (sym c.self.view_is) c.requires.known

pub returns-clause-gone : goal.returns-clause-gone
returns-clause-gone g c =
    let says = commit_seen c.self.inside.desk c.commit_known.new.self c.self.inside.tally.total c.count_commit.new.tally.total c.args.self.now c.self.view_is
    c.args.task c.args.worked.now c.in_ok-answer.answer c.in_ok-answer.ensures.commits in
    says.gone

pub returns-clause-which : goal.returns-clause-which
returns-clause-which g c =
    let says = commit_seen c.self.inside.desk c.commit_known.new.self c.self.inside.tally.total c.count_commit.new.tally.total c.args.self.now c.self.view_is
    c.args.task c.args.worked.now c.in_ok-answer.answer c.in_ok-answer.ensures.commits in
    says.which

pub returns-clause-stale : goal.returns-clause-stale
returns-clause-stale g c =
    let says = commit_seen c.self.inside.desk c.commit_known.new.self c.self.inside.tally.total c.count_commit.new.tally.total c.args.self.now c.self.view_is
    c.args.task c.args.worked.now c.in_ok-answer.answer c.in_ok-answer.ensures.commits in
    says.stale

pub returns-clause-full : goal.returns-clause-full
returns-clause-full g c =
    let says = commit_seen c.self.inside.desk c.commit_known.new.self c.self.inside.tally.total c.count_commit.new.tally.total c.args.self.now c.self.view_is
    c.args.task c.args.worked.now c.in_ok-answer.answer c.in_ok-answer.ensures.commits in
    says.full

pub returns-clause-done : goal.returns-clause-done
returns-clause-done g c =
    let says = commit_seen c.self.inside.desk c.commit_known.new.self c.self.inside.tally.total c.count_commit.new.tally.total c.args.self.now c.self.view_is
    c.args.task c.args.worked.now c.in_ok-answer.answer c.in_ok-answer.ensures.commits in
    says.done

pub returns-clause-appends : goal.returns-clause-appends
returns-clause-appends g c =
    let says = commit_seen c.self.inside.desk c.commit_known.new.self c.self.inside.tally.total c.count_commit.new.tally.total c.args.self.now c.self.view_is
    c.args.task c.args.worked.now c.in_ok-answer.answer c.in_ok-answer.ensures.commits in
    says.appends

pub returns-clause-refused : goal.returns-clause-refused
returns-clause-refused g c =
    let says = commit_seen c.self.inside.desk c.commit_known.new.self c.self.inside.tally.total c.count_commit.new.tally.total c.args.self.now c.self.view_is
    c.args.task c.args.worked.now c.in_ok-answer.answer c.in_ok-answer.ensures.commits in
    says.refused

pub returns-clause-given_back : goal.returns-clause-given_back
returns-clause-given_back g c =
    subst (λ (k : Contents). IsWithout k.claims (c.args.worked.now.own, c.args.task) c.commit_known.new.self.claims.items) c.self.view_is
    c.in_ok-answer.ensures.given_back

pub returns-clause-terms : goal.returns-clause-terms
returns-clause-terms g c =
    subst (λ (k : Contents). KeepsTerms k (contents_of c.commit_known.new.self c.count_commit.new.tally.total)) c.self.view_is
    (terms_with c.self.inside.desk c.commit_known.new.self c.self.inside.tally.total c.count_commit.new.tally.total c.commit_known.ensures.terms)

pub returns-clause-counted : goal.returns-clause-counted
returns-clause-counted g c =
    let says = commit_seen c.self.inside.desk c.commit_known.new.self c.self.inside.tally.total c.count_commit.new.tally.total c.args.self.now c.self.view_is
    c.args.task c.args.worked.now c.in_ok-answer.answer c.in_ok-answer.ensures.commits in
    let longer = says.longer in
    let more = c.count_commit.ensures.amount in
    omega (arith, longer, more)

-- The desk is in order, and the total counts the entries.
pub invariant_of-self-2 : goal.invariant_of-self-2
invariant_of-self-2 g c =
    let says = commit_seen c.self.inside.desk c.commit_known.new.self c.self.inside.tally.total c.count_commit.new.tally.total
    (contents_of c.self.inside.desk c.self.inside.tally.total) refl c.args.task c.args.worked.now c.in_ok-answer.answer c.in_ok-answer.ensures.commits in
    let longer = says.longer in
    let more = c.count_commit.ensures.total in
    let counted = c.self.invariant.1 in
    (c.commit_known.ensures.order, omega (arith, longer, more, counted))

-- So it is where memory ran out.
pub invariant_of-self : goal.invariant_of-self
invariant_of-self g c =
    let same = c.in_err-answer.ensures in
    (c.commit_known.ensures.order, unchanged_count c.self.inside.desk c.commit_known.new.self c.self.inside.tally.total same.err c.self.invariant.1)

-- Work for a task that is not handed out changes nothing.
pub returns-clause-unclaimed : goal.returns-clause-unclaimed
returns-clause-unclaimed g c =
    unclaimed_seen c.self.inside.desk c.commit_known.new.self c.self.inside.tally.total c.count_commit.new.tally.total c.args.self.now c.self.view_is
    c.args.task c.args.worked.now c.in_ok-answer.answer c.in_ok-answer.ensures.commits c.count_commit.ensures.total c.commit_known.ensures.unclaimed
