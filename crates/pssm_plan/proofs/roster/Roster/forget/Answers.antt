use Rattle.std.proofs.Common.{◌<◌, ◌^◌, ◌∙◌, List, length, ap, sym, subst}
use Rattle.pssm_plan.specs.declared.roster.Call.{Call}
use Rattle.pssm_plan.specs.inner.Places.{CallList}
use Rattle.pssm_plan.proofs.roster.Roster.forget.Goals as goal

pub forget_all-requires : goal.forget_all-requires
forget_all-requires c =
    let same = c.as_mut_slice.ensures.value ∙ ap (λ (l : CallList). l.items) c.calls.view_is in
    subst (λ (l : List Call). length l < 2 ^ 32) (sym same) c.requires.few
