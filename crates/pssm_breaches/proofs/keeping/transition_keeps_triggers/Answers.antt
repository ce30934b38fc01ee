use Rattle.std.proofs.Common.{◌≡◌, ◌⊎◌, ◌↔◌, subst, sym, [], false, IsTrue}
use Rattle.pssm_model.specs.declared.draft_setting.PartTransition.{PartTransition}
use Rattle.pssm_breaches.specs.Rules.{AreSameSignals}
use Rattle.pssm_breaches.proofs.KeepLaws.{with_first_iff, without_first}
use Rattle.pssm_breaches.proofs.keeping.transition_keeps_triggers.Goals as goal

pub returns-in-Some-first_transition : goal.returns-in-Some-first_transition
returns-in-Some-first_transition c =
    with_first_iff c.args.draft.now c.args._m c.args.heritage.now c.args.e c.requires.lineage
    (λ (now then : PartTransition). (now.triggers ≡ []) ⊎ AreSameSignals now.triggers then.triggers)
    c.in-Some.now.now c.in-Some-first_transition.then.now c.none_or_same.result (sym c.in-Some.ensures) (sym c.in-Some-first_transition.ensures)
    (subst
    (λ some. IsTrue c.none_or_same.result ↔ ((some ≡ []) ⊎ AreSameSignals some c.in-Some-first_transition.then.now.triggers))
    c.as_slice.ensures
    (subst
    (λ others. IsTrue c.none_or_same.result ↔ ((c.as_slice.result.now ≡ []) ⊎ AreSameSignals c.as_slice.result.now others))
    c.as_slice-in-Some-first_transition.ensures
    c.none_or_same.ensures))

pub returns-in-None-first_transition : goal.returns-in-None-first_transition
returns-in-None-first_transition c = (
  λ (t : IsTrue false). absurd (cc),
  λ r. absurd (without_first c.args.draft.now c.args._m c.args.heritage.now c.args.e c.requires.lineage
      (λ (now then : PartTransition). (now.triggers ≡ []) ⊎ AreSameSignals now.triggers then.triggers) c.requires.within (sym c.in-None-first_transition.ensures) r),
)
