-- of two items that come in this order, the kind of the first is no later one, or a way is long
use Rattle.std.proofs.Common.{◌≡◌, true, inl, inr, ⊎_elim}
use Rattle.pssm_plan.proofs.OrderedKinds.{sequence_kinds}
use Rattle.pssm_plan.proofs.ways.comes_before.Goals as goal

pub returns-else-may_come_before : goal.returns-else-may_come_before
returns-else-may_come_before c = (
  λ t. absurd (let yes : c.may_come_before.result ≡ true = t in let no = c.if-may_come_before.false in cc),
  λ h. c.may_come_before.ensures.1 (⊎_elim (λ kinds. inl kinds) (λ long. inr (c.requires.long long))
      (sequence_kinds c.regions-shaped.ensures.shaped c.requires.rules c.args.ways.now c.requires.ways c.args.first.now c.args.second.now h)),
)
