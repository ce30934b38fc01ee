use Rattle.pssm_flat.specs.Text.{region_line}
use Rattle.pssm_flat.proofs.TextLaws.{written_line}
use Rattle.pssm_flat.proofs.writing.put_regions.Goals as goal

pub loop-number-preserved : goal.loop-number-preserved
loop-number-preserved c =
    written_line region_line c.loop-number.number c.from.result c.args.machine.now.regions c.region_owner-owner.result c.loop-number.text.items c.put_region.new.text.items _
    c.from.ensures c.region_owner-owner.ensures c.in_ok-put_region.ensures c.loop-number.invariant
