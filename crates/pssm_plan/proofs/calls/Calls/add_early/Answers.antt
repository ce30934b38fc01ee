use Rattle.std.proofs.Common.{ap, inl, refl, List, subst, ◌∙◌}
use Rattle.pssm_plan.specs.declared.roster.Call.{Call}
use Rattle.pssm_plan.specs.inner.Marks.{IsListed}
use Rattle.pssm_plan.specs.inner.Places.{CallList}
use Rattle.pssm_plan.proofs.PlacedCalls.{listed_there}
use Rattle.pssm_plan.proofs.calls.Calls.add_early.Goals as goal

pub returns-in-Some-clause-added : goal.returns-in-Some-clause-added
returns-in-Some-clause-added c =
    let same = ap (λ (l : CallList). l.items) c.self.view_is in
    inl (
      subst (λ (l : List Call). IsListed l c.args.call.item) (c.as_slice.ensures.value ∙ same)
          (listed_there c.as_slice.result.now c.args.call.item c.in-Some.field-0 c.in-Some.ensures.0 c.in-Some.ensures.1),
      refl,
    )
