use Rattle.std.proofs.Common.{◌∙◌, sym, ℕ, List}
use Rattle.pssm_roles.specs.Roles.{is_machine_point}
use Rattle.pssm_roles.proofs.AskedLaws.{any_here, any_further}
use Rattle.pssm_roles.proofs.settling.any_point.Goals as goal

pub returns-then-is_machine_point : goal.returns-then-is_machine_point
returns-then-is_machine_point c =
    any_here (λ (r : ℕ × List ℕ). is_machine_point c.args.elements.now r.1) c.args.found.now c.loop-reference.reference-index _ c.loop-reference-test.true
    (sym c.is_machine_point.ensures ∙ c.if-is_machine_point.true) c.loop-reference.invariant

pub loop-reference-preserved : goal.loop-reference-preserved
loop-reference-preserved c =
    any_further (λ (r : ℕ × List ℕ). is_machine_point c.args.elements.now r.1) c.args.found.now c.loop-reference.reference-index _ c.loop-reference-test.true
    (sym c.is_machine_point.ensures ∙ c.if-is_machine_point.false) c.loop-reference.invariant
