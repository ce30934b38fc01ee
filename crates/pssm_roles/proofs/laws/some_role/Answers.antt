use Rattle.std.proofs.Common.{subst, arith}
use Rattle.pssm_xml.specs.Elements.{HasParent}
use Rattle.pssm_roles.proofs.AskedLaws.{some_root, some_child}
use Rattle.pssm_roles.proofs.laws.some_role.Goals as goal

pub up-preserved : goal.up-preserved
up-preserved c =
    let doc = c.args.elements.now in let parent = c.in-Some.parent in let before = c.in-Some.ensures.before in let in_file = c.up.invariant.in_file in
    record {
      in_file = omega (arith, before, in_file);
      leads = λ r over.
          let more = some_child doc c.up.above parent r in_file c.in-Some.ensures.parent over in c.up.invariant.leads more.0 more.1;
    }

pub returns : goal.returns
returns c =
    let top = some_root c.args.elements.now c.up.above c.up.invariant.in_file (subst (HasParent c.args.elements.now c.up.above) c.in_default.is c.parent.ensures.parent) in
    c.up.invariant.leads top.0 top.1
