use Rattle.std.proofs.Common.{◌≡◌, ◌↔◌, IsTrue, rules}
use Rattle.std.specs.Cmp.Rules.{signed_items}
use Rattle.pssm_pool.proofs.alike.are_alike.Goals as goal

pub returns-then-eq : goal.returns-then-eq
returns-then-eq c both =
    let same : IsTrue c.eq.result ↔ (c.args.one.now.signal ≡ c.args.other.now.signal) = search rules in
    let alike = signed_items c.args.one.now.args c.args.other.now.args in
    (same.0 c.if-eq.true, alike.0 (search (rules, both, c.eq-then-eq.ensures)))
