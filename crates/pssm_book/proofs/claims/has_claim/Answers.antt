-- what compares as equal is equal
use Rattle.std.proofs.Common.{sym, ◌∙◌}
use Rattle.pssm_book.proofs.ListLaws.{among_is}
use Rattle.pssm_book.proofs.claims.has_claim.Goals as goal

pub returns : goal.returns
returns c =
    let decided = among_is c.args.at c.args.claims.now in
    (λ yes. decided.0 (sym c.is_among.ensures ∙ yes), λ inside. c.is_among.ensures ∙ decided.1 inside)
