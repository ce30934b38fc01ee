-- Each clause is a part of what the answer of the desk says.
use Rattle.std.proofs.Common.{arith, refl, subst}
use Rattle.pssm_book.specs.Contents.{Contents, KeepsTerms}
use Rattle.pssm_book.specs.inner.Keeping.{contents_of}
use Rattle.pssm_book.proofs.AnswerLaws.{terms_with}
use Rattle.pssm_book.proofs.SeenLaws.{claim_seen, unchanged_count}
use Rattle.pssm_book.proofs.book.Book.claim.Goals as goal

pub returns-clause-full : goal.returns-clause-full
returns-clause-full g c =
    let says = claim_seen c.self.inside.desk c.claim.new.self c.self.inside.tally.total c.count_claim.new.tally.total c.args.self.now c.self.view_is
    c.in_ok-answer.answer c.in_ok-answer.ensures.comes c.count_claim.ensures.total in says.full

pub returns-clause-quiet : goal.returns-clause-quiet
returns-clause-quiet g c =
    let says = claim_seen c.self.inside.desk c.claim.new.self c.self.inside.tally.total c.count_claim.new.tally.total c.args.self.now c.self.view_is
    c.in_ok-answer.answer c.in_ok-answer.ensures.comes c.count_claim.ensures.total in says.quiet

pub returns-clause-busy : goal.returns-clause-busy
returns-clause-busy g c =
    let says = claim_seen c.self.inside.desk c.claim.new.self c.self.inside.tally.total c.count_claim.new.tally.total c.args.self.now c.self.view_is
    c.in_ok-answer.answer c.in_ok-answer.ensures.comes c.count_claim.ensures.total in says.busy

pub returns-clause-moved : goal.returns-clause-moved
returns-clause-moved g c =
    let says = claim_seen c.self.inside.desk c.claim.new.self c.self.inside.tally.total c.count_claim.new.tally.total c.args.self.now c.self.view_is
    c.in_ok-answer.answer c.in_ok-answer.ensures.comes c.count_claim.ensures.total in says.moved

pub returns-clause-job : goal.returns-clause-job
returns-clause-job g c =
    let says = claim_seen c.self.inside.desk c.claim.new.self c.self.inside.tally.total c.count_claim.new.tally.total c.args.self.now c.self.view_is
    c.in_ok-answer.answer c.in_ok-answer.ensures.comes c.count_claim.ensures.total in says.job

pub returns-clause-only_job : goal.returns-clause-only_job
returns-clause-only_job g c =
    let says = claim_seen c.self.inside.desk c.claim.new.self c.self.inside.tally.total c.count_claim.new.tally.total c.args.self.now c.self.view_is
    c.in_ok-answer.answer c.in_ok-answer.ensures.comes c.count_claim.ensures.total in says.only_job

pub returns-clause-carries : goal.returns-clause-carries
returns-clause-carries g c =
    let says = claim_seen c.self.inside.desk c.claim.new.self c.self.inside.tally.total c.count_claim.new.tally.total c.args.self.now c.self.view_is
    c.in_ok-answer.answer c.in_ok-answer.ensures.comes c.count_claim.ensures.total in says.carries

pub returns-clause-runs : goal.returns-clause-runs
returns-clause-runs g c =
    let says = claim_seen c.self.inside.desk c.claim.new.self c.self.inside.tally.total c.count_claim.new.tally.total c.args.self.now c.self.view_is
    c.in_ok-answer.answer c.in_ok-answer.ensures.comes c.count_claim.ensures.total in says.runs

pub returns-clause-refused : goal.returns-clause-refused
returns-clause-refused g c =
    let says = claim_seen c.self.inside.desk c.claim.new.self c.self.inside.tally.total c.count_claim.new.tally.total c.args.self.now c.self.view_is
    c.in_ok-answer.answer c.in_ok-answer.ensures.comes c.count_claim.ensures.total in says.refused

pub returns-clause-terms : goal.returns-clause-terms
returns-clause-terms g c =
    subst (λ (k : Contents). KeepsTerms k (contents_of c.claim.new.self c.count_claim.new.tally.total)) c.self.view_is
    (terms_with c.self.inside.desk c.claim.new.self c.self.inside.tally.total c.count_claim.new.tally.total c.claim.ensures.terms)

pub returns-clause-counted : goal.returns-clause-counted
returns-clause-counted g c =
    let says = claim_seen c.self.inside.desk c.claim.new.self c.self.inside.tally.total c.count_claim.new.tally.total c.args.self.now c.self.view_is
    c.in_ok-answer.answer c.in_ok-answer.ensures.comes c.count_claim.ensures.total in
    let longer = says.longer in
    let more = c.count_claim.ensures.amount in
    omega (arith, longer, more)

-- The desk is in order, and the total counts the entries.
pub invariant_of-self-2 : goal.invariant_of-self-2
invariant_of-self-2 g c =
    let says = claim_seen c.self.inside.desk c.claim.new.self c.self.inside.tally.total c.count_claim.new.tally.total
    (contents_of c.self.inside.desk c.self.inside.tally.total) refl c.in_ok-answer.answer c.in_ok-answer.ensures.comes c.count_claim.ensures.total in
    let longer = says.longer in
    let more = c.count_claim.ensures.total in
    let counted = c.self.invariant.1 in
    (c.claim.ensures.order, omega (arith, longer, more, counted))

-- So it is where memory ran out.
pub invariant_of-self : goal.invariant_of-self
invariant_of-self g c =
    let same = c.in_err-answer.ensures in
    (c.claim.ensures.order, unchanged_count c.self.inside.desk c.claim.new.self c.self.inside.tally.total same.err c.self.invariant.1)
