-- one, or several into one join
use Rattle.std.proofs.Common.{◌≡◌, length, inr, ⊎_elim, arith}
use Rattle.std.proofs.lemmas.List.Elements.{Contains-get_or}
use Rattle.pssm_enabled.proofs.Started.{one_of_length, length_of_one}
use Rattle.pssm_enabled.proofs.Fitting.{nothing_starts, some_there}
use Rattle.pssm_enabled.proofs.route.can_start.Goals as goal

pub returns-then-is_empty : goal.returns-then-is_empty
returns-then-is_empty c = (
  λ wrong. absurd (cc),
  λ h. absurd (nothing_starts c.requires.rules c.args.starts.now c.is_empty.result c.is_empty.ensures c.if-is_empty.true h),
)

pub can_start_alone-requires-clause-there : goal.can_start_alone-requires-clause-there
can_start_alone-requires-clause-there c =
    c.requires.order.1 0 _ (some_there c.args.starts.now c.is_empty.result c.is_empty.ensures c.if-is_empty.false)

pub can_start_alone-requires-clause-one : goal.can_start_alone-requires-clause-one
can_start_alone-requires-clause-one c =
    let long : length c.args.starts.now ≡ 1 = c.if-starts-eq1.true in one_of_length c.args.starts.now _ long

pub are_all_into-requires-clause-there : goal.are_all_into-requires-clause-there
are_all_into-requires-clause-there c =
    c.requires.order.1 0 _ (some_there c.args.starts.now c.is_empty.result c.is_empty.ensures c.if-is_empty.false)

pub are_all_into-requires-clause-first : goal.are_all_into-requires-clause-first
are_all_into-requires-clause-first c =
    Contains-get_or c.args.starts.now 0 _ (some_there c.args.starts.now c.is_empty.result c.is_empty.ensures c.if-is_empty.false)

pub returns : goal.returns
returns c = (
  λ h. inr (c.are_all_into.ensures.0 h),
  λ h. c.are_all_into.ensures.1
      (⊎_elim
      (λ single. absurd (let one = length_of_one c.args.starts.now single.0 single.1 in let more = c.if-starts-eq1.false in omega (arith, one, more)))
      (λ all. all)
      h),
)
