-- the routes are those that the signal fires
use Rattle.std.proofs.Common.{List, ℤ, subst}
use Rattle.pssm_model.specs.declared.steps.Event.TheVariants.{Signal}
use Rattle.pssm_semantics.specs.Values.{eight_of}
use Rattle.pssm_object.specs.inner.Firing.{Fires}
use Rattle.pssm_object.proofs.situation.Situation.judge_firing.Goals as goal

pub returns-then-branch : goal.returns-then-branch
returns-then-branch c =
    subst (λ (store : List ℤ). Fires c.args.class.now c.args.self.now.config store (eight_of c.args.waiting.now.args) (Signal c.args.waiting.now.signal)
    c.args.firing.now.routes) c.as_slice-store.ensures.value (c.in_ok-fires.ensures.0 c.if-branch.true)
