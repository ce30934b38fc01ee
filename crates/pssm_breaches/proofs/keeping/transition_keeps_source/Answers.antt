use Rattle.std.proofs.Common.{sym, false, IsTrue}
use Rattle.pssm_model.specs.declared.draft_setting.PartTransition.{PartTransition}
use Rattle.pssm_breaches.specs.Rules.{AreSameEnds}
use Rattle.pssm_breaches.proofs.KeepLaws.{source_iff, without_first}
use Rattle.pssm_breaches.proofs.keeping.transition_keeps_source.Goals as goal

pub returns-in-Some-first_transition : goal.returns-in-Some-first_transition
returns-in-Some-first_transition c =
    source_iff c.args.draft.now c.args._m c.args.heritage.now c.args.e c.in-Some.now.now c.in-Some-first_transition.then.now c.ends_meet.result
    c.requires.range c.requires.lineage (sym c.in-Some.ensures) (sym c.in-Some-first_transition.ensures) c.ends_meet.ensures

pub returns-in-None-first_transition : goal.returns-in-None-first_transition
returns-in-None-first_transition c = (
  λ (t : IsTrue false). absurd (cc),
  λ r. absurd (without_first c.args.draft.now c.args._m c.args.heritage.now c.args.e c.requires.lineage
      (λ (now then : PartTransition). AreSameEnds c.args.draft.now c.args._m now.source then.source) c.requires.within (sym c.in-None-first_transition.ensures) r),
)
