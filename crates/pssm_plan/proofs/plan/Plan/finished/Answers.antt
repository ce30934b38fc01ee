use Rattle.std.proofs.Common.{◌≡◌, ap}
use Rattle.pssm_plan.specs.Agenda.{Agenda}
use Rattle.pssm_plan.specs.inner.Views.{shown}
use Rattle.pssm_plan.proofs.Shown.{all_raw}
use Rattle.pssm_plan.proofs.StandingItems.{all_ran}
use Rattle.pssm_plan.proofs.plan.Plan.finished.Goals as goal

pub returns : goal.returns
returns c =
    let raw = c.self.inside.progress.roster.calls.items in
    let is : shown raw ≡ c.args.self.now.calls = ap (λ (p : Agenda). p.calls) c.self.view_is in
    let all = rw c.as_slice.ensures.value at c.have_all_run.ensures in
    let both = all_raw raw c.args.self.now.calls is in
    λ m h. (let law = all_ran m c.args.self.now h in (λ t. law.0 (both.0 (all.0 t)), λ out. all.1 (both.1 (law.1 out))))
