-- the parameters are those of the object of the work
use Rattle.std.proofs.Common.{◌≡◌, sym, ap, ◌∙◌}
use Rattle.pssm_semantics.specs.declared.entry.ObjectId.{ObjectId}
use Rattle.pssm_semantics.specs.Pool.{told_by}
use Rattle.pssm_semantics.specs.Behaviours.{params_of}
use Rattle.pssm_book.proofs.desk.Desk.has_own_params.Goals as goal

pub returns : goal.returns
returns c =
    let J = c.args.self.now.system.journal in
    let right : c.params-2.result.now ≡ params_of (told_by J) J c.args.worked.now.own =
    c.params-2.ensures ∙ ap (λ (o : ObjectId). params_of (told_by J) J o) c.own.ensures in
    (λ t. sym c.params.ensures ∙ c.same.ensures.0 t ∙ right, λ e. c.same.ensures.1 (c.params.ensures ∙ e ∙ sym right))
