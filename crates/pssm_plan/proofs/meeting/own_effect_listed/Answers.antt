use Rattle.std.proofs.Common.{List, Contains, sym, subst}
use Rattle.pssm_model.specs.declared.ids.TransId.{TransId}
use Rattle.pssm_plan.proofs.meeting.own_effect_listed.Goals as goal

pub returns-else-is_listed-clause-further : goal.returns-else-is_listed-clause-further
returns-else-is_listed-clause-further c = λ t inside listed.
    c.some_effect_listed.ensures t (subst (λ (l : List TransId). Contains l t) (sym c.as_slice.ensures.value) inside) listed
