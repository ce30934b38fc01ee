use Rattle.std.proofs.Common.{◌≡◌, IsTrue, Bool, true, not, drop, refl, sym, subst}
use Rattle.pssm_model.specs.declared.steps.Item.{Item}
use Rattle.pssm_model.specs.declared.steps.Item.TheVariants.{Exit}
use Rattle.pssm_plan.specs.inner.Sequence.{IsOrderedBySome}
use Rattle.pssm_plan.proofs.FreeCalls.{none_before_exit}
use Rattle.pssm_plan.proofs.waiting.asks_new.Goals as goal
use Rattle.pssm_plan.proofs.waiting.asks_new.Goals.{in-Exit, in_default}

pub returns-after-matches : goal.returns-after-matches
returns-after-matches c = λ x h.
    elim c.match-matches.branch [
      | in-Exit w ↦
          (let is : c.args.item ≡ Exit w.in-Exit.field-0 = (let i = w.in-Exit.is in cc) in
          absurd (none_before_exit c.regions-shaped.ensures.shaped c.requires.rules c.args.ways.now c.args.since.ways c.requires.ways
          (λ long. let yes : c.args.long ≡ true = c.requires.long long in let no = c.if-long.false in cc)
          x w.in-Exit.field-0 (subst (λ (i : Item). IsOrderedBySome c.args.machine.now (drop c.args.since.ways c.args.ways.now) x i) is h)))
      | in_default w ↦ subst (λ (b : Bool). IsTrue (not b)) (sym w.matches-is) refl
    ]
