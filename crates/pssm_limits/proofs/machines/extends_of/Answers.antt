use Rattle.std.proofs.Common.{◌≤◌, ◌≡◌, length, ap, ◌∙◌, arith}
use Rattle.pssm_numbering.specs.Numbering.{machines}
use Rattle.pssm_limits.proofs.CountLaws.{extended_all}
use Rattle.pssm_limits.proofs.machines.extends_of.Goals as goal

pub returns-clause-list : goal.returns-clause-list
returns-clause-list c =
    let test = c.loop-m-test.false in
    let all : length c.machines-m-items.result.now ≡ length (machines c.args.file.now) =
    ap length c.machines-m-items.ensures.list ∙ ap (λ f. length (machines f)) c.requires in
    let le : length (machines c.args.file.now) ≤ c.loop-m.m-index = grind (arith, test, all) in
    extended_all c.args.file.now c.loop-m.extends.items c.loop-m.m-index le c.loop-m.invariant.0
