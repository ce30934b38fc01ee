-- one that ends on no join, or all into one
use Rattle.std.proofs.Common.{refl, subst, inl, inr, ⊎_elim}
use Rattle.pssm_model.specs.Legs.{Enters}
use Rattle.pssm_enabled.proofs.ListPlaces.{refuted}
use Rattle.pssm_enabled.proofs.Started.{the_one}
use Rattle.pssm_enabled.proofs.route.can_start_alone.Goals as goal

pub returns-then-starts_alone : goal.returns-then-starts_alone
returns-then-starts_alone c = (λ t. inl (c.args.start, c.requires.one, c.starts_alone.ensures.0 c.if-starts_alone.true), λ h. refl)

pub returns : goal.returns
returns c = (
  λ h. inr (c.are_all_into.ensures.0 h),
  λ h. ⊎_elim
      (λ single. absurd (refuted c.starts_alone.result c.if-starts_alone.false c.starts_alone.ensures
      (λ v enters kind. single.2 v
      (subst (λ t. Enters c.args.machine.now t v) (the_one c.args.starts.now c.args.start single.0 c.requires.one single.1) enters) kind)))
      (λ all. c.are_all_into.ensures.1 all)
      h,
)
