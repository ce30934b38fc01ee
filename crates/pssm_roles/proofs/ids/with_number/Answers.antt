use Rattle.std.proofs.Common.{rules, ◌≡◌, ◌∙◌, ap, Some, cond, bytes_eq, ℕ, List}
use Rattle.pssm_roles.specs.inner.Numbers.{number_in}
use Rattle.pssm_roles.proofs.IdLaws.{number_updates}
use Rattle.pssm_roles.proofs.ids.with_number.Goals as goal

pub returns : goal.returns
returns c = λ other.
    let same : c.in_ok-key.key.items ≡ c.args.id.now = search rules in
    number_updates c.in_ok-key.key.items c.args.numbers c.insert.new.self (Some c.args.n) c.in_ok-insert.ensures.updates other
    ∙ ap (λ (key : List ℕ). cond (bytes_eq key other) (Some c.args.n) (number_in c.args.numbers other)) same
