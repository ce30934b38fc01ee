-- Each clause is a part of what the answer of the desk says.
use Rattle.std.proofs.Common.{refl, subst}
use Rattle.pssm_book.specs.Contents.{Contents, KeepsTerms}
use Rattle.pssm_book.specs.inner.Keeping.{contents_of}
use Rattle.pssm_book.proofs.AnswerLaws.{terms_with}
use Rattle.pssm_book.proofs.OwnClaims.{own_seen, own_count}
use Rattle.pssm_book.proofs.SeenLaws.{unchanged_count}
use Rattle.pssm_book.proofs.book.Book.claim_of.Goals as goal

pub returns-clause-some : goal.returns-clause-some
returns-clause-some g c =
    let says = own_seen c.self.inside.desk c.claim_of.new.self c.self.inside.tally.total c.args.self.now c.self.view_is c.args.object
    c.in_ok-found.found c.in_ok-found.ensures.comes in says.some

pub returns-clause-none : goal.returns-clause-none
returns-clause-none g c =
    let says = own_seen c.self.inside.desk c.claim_of.new.self c.self.inside.tally.total c.args.self.now c.self.view_is c.args.object
    c.in_ok-found.found c.in_ok-found.ensures.comes in says.none

pub returns-clause-carries : goal.returns-clause-carries
returns-clause-carries g c =
    let says = own_seen c.self.inside.desk c.claim_of.new.self c.self.inside.tally.total c.args.self.now c.self.view_is c.args.object
    c.in_ok-found.found c.in_ok-found.ensures.comes in says.carries

pub returns-clause-runs : goal.returns-clause-runs
returns-clause-runs g c =
    let says = own_seen c.self.inside.desk c.claim_of.new.self c.self.inside.tally.total c.args.self.now c.self.view_is c.args.object
    c.in_ok-found.found c.in_ok-found.ensures.comes in says.runs

pub returns-clause-refused : goal.returns-clause-refused
returns-clause-refused g c =
    let says = own_seen c.self.inside.desk c.claim_of.new.self c.self.inside.tally.total c.args.self.now c.self.view_is c.args.object
    c.in_ok-found.found c.in_ok-found.ensures.comes in says.refused

pub returns-clause-terms : goal.returns-clause-terms
returns-clause-terms g c =
    subst (λ (k : Contents). KeepsTerms k (contents_of c.claim_of.new.self c.self.inside.tally.total)) c.self.view_is
    (terms_with c.self.inside.desk c.claim_of.new.self c.self.inside.tally.total c.self.inside.tally.total c.claim_of.ensures.terms)

-- The desk is in order, and the total counts the entries.
pub invariant_of-self-2 : goal.invariant_of-self-2
invariant_of-self-2 g c = (
  c.claim_of.ensures.order,
  own_count c.self.inside.desk c.claim_of.new.self c.args.object c.in_ok-found.found c.self.inside.tally.total
      c.in_ok-found.ensures.comes c.self.invariant.1,
)

-- So it is where memory ran out.
pub invariant_of-self : goal.invariant_of-self
invariant_of-self g c =
    let same = c.in_err-found.ensures in
    (c.claim_of.ensures.order, unchanged_count c.self.inside.desk c.claim_of.new.self c.self.inside.tally.total same.err c.self.invariant.1)
