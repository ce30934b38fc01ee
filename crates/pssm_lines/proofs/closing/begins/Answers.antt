use Rattle.std.proofs.Common.{Bool, subst, sym}
use Rattle.std.specs.Prelude.{IfOk, IsTrue, ◌↔◌}
use Rattle.pssm_lines.specs.Faults.{Begins}
use Rattle.pssm_lines.proofs.FrontLaws.{begins_header}
use Rattle.pssm_lines.proofs.closing.begins.Goals as goal

pub returns-then-begun : goal.returns-then-begun
returns-then-begun c = subst (λ (t : Bool). IfOk c.begins_line.result (λ b. IsTrue b ↔ Begins t c.args.bytes.now)) (sym c.if-begun.true) c.begins_line.ensures

pub returns-else-begun : goal.returns-else-begun
returns-else-begun c = rw c.if-begun.false (begins_header c.args.bytes.now c.starts_with.result c.starts_with.ensures.value)
