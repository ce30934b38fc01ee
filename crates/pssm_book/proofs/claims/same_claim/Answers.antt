-- what compares as equal is equal
use Rattle.std.proofs.Common.{sym, ◌∙◌}
use Rattle.pssm_book.proofs.ListLaws.{claim_decided}
use Rattle.pssm_book.proofs.claims.same_claim.Goals as goal

pub returns : goal.returns
returns c =
    let decided = claim_decided c.args.one c.args.other in
    (λ yes. decided.0 (sym c.is_claim.ensures ∙ yes), λ same. c.is_claim.ensures ∙ decided.1 same)
