-- what a way orders is of such kinds, or a way is long
use Rattle.std.proofs.Common.{◌≡◌, true, inl, inr, ⊎_elim}
use Rattle.pssm_plan.proofs.OrderedKinds.{ordered_by_some}
use Rattle.pssm_plan.proofs.ways.are_ordered.Goals as goal

pub returns-else-may_be_ordered : goal.returns-else-may_be_ordered
returns-else-may_be_ordered c = (
  λ t. absurd (let yes : c.may_be_ordered.result ≡ true = t in let no = c.if-may_be_ordered.false in cc),
  λ h. c.may_be_ordered.ensures.1 (⊎_elim (λ kinds. inl kinds) (λ long. inr (c.requires.long long))
      (ordered_by_some c.regions-shaped.ensures.shaped c.requires.rules c.args.ways.now c.requires.ways c.args.first.now c.args.second.now h)),
)
