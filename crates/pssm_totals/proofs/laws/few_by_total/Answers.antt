use Rattle.pssm_totals.proofs.TotalLaws.{few_by_total, one_total}
use Rattle.pssm_totals.proofs.DraftLaws.{few_in_draft, few_in_totals}
use Rattle.pssm_totals.proofs.laws.few_by_total.Goals as goal

pub returns-clause-one : goal.returns-clause-one
returns-clause-one c = λ extends own m total other h g. one_total h g

pub returns-clause-few : goal.returns-clause-few
returns-clause-few c = λ extends own m total h. few_by_total h

pub returns-clause-draft : goal.returns-clause-draft
returns-clause-draft c = few_in_draft

pub returns-clause-totals : goal.returns-clause-totals
returns-clause-totals c = few_in_totals
