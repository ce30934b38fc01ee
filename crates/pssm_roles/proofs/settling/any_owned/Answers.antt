use Rattle.std.proofs.Common.{◌∙◌, sym, ℕ, List}
use Rattle.pssm_roles.specs.Roles.{owns_machine}
use Rattle.pssm_roles.proofs.AskedLaws.{any_here, any_further}
use Rattle.pssm_roles.proofs.settling.any_owned.Goals as goal

pub returns-then-owns_machine : goal.returns-then-owns_machine
returns-then-owns_machine c =
    any_here (λ (r : ℕ × List ℕ). owns_machine c.args.elements.now c.args.class r.1) c.args.found.now c.loop-reference.reference-index _
    c.loop-reference-test.true (sym c.owns_machine.ensures ∙ c.if-owns_machine.true) c.loop-reference.invariant

pub loop-reference-preserved : goal.loop-reference-preserved
loop-reference-preserved c =
    any_further (λ (r : ℕ × List ℕ). owns_machine c.args.elements.now c.args.class r.1) c.args.found.now c.loop-reference.reference-index _
    c.loop-reference-test.true (sym c.owns_machine.ensures ∙ c.if-owns_machine.false) c.loop-reference.invariant
