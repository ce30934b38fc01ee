use Rattle.pssm_heritage.specs.Heritages.{numbering_of}
use Rattle.pssm_redefine.specs.Gathering.{with_number}
use Rattle.pssm_redefine.proofs.GatherLaws.{one_more}
use Rattle.pssm_redefine.proofs.gathering.add_machine.Goals as goal

pub loop-element-preserved : goal.loop-element-preserved
loop-element-preserved c =
    one_more (with_number (numbering_of c.args.kind c.args.heritage.now)) c.args.machine c.loop-element.element c.args.all.now.items c.loop-element.all.items
    c.add_element.new.all.items c.loop-element.invariant c.in_ok-add_element.ensures
