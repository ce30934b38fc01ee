use Rattle.std.proofs.Common.{◌∙◌, ap, sym, Bool, ◌&&◌, bytes_eq}
use Rattle.pssm_roles.proofs.asked.is_child.Goals as goal

pub returns-then-stands_in : goal.returns-then-stands_in
returns-then-stands_in c = λ e at.
    c.is_called.ensures e at ∙ ap (λ (b : Bool). b && bytes_eq e.name c.args.name.now) (sym c.if-stands_in.true ∙ c.stands_in.ensures e at)

pub returns-else-stands_in : goal.returns-else-stands_in
returns-else-stands_in c = λ e at.
    c.if-stands_in.false ∙ ap (λ (b : Bool). b && bytes_eq e.name c.args.name.now) (sym c.if-stands_in.false ∙ c.stands_in.ensures e at)
