use Rattle.std.proofs.Common.{rules, ◌≡◌}
use Rattle.pssm_roles.specs.Ids.{meant_by}
use Rattle.pssm_roles.proofs.AskedLaws.{meant_within}
use Rattle.pssm_roles.proofs.ids.Ids.find.Goals as goal

pub returns-clause-within : goal.returns-clause-within
returns-clause-within c =
    let means : c.copied.result ≡ meant_by c.args.self.now c.args.id.now = search rules in meant_within c.args.self.now c.args.id.now c.copied.result means
