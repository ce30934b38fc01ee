use Rattle.pssm_flat.proofs.WriteLaws.{flat_written}
use Rattle.pssm_flat.proofs.writing.put_setting.Goals as goal

pub returns : goal.returns
returns c =
    flat_written c.args.setting.now c.args.text.now.items c.extend_from_slice.new.self.items c.put_signals.new.text.items c.put_classes.new.text.items c.put_objects.new.text.items c.put_machines.new.text.items c.extend_from_slice-2.new.self.items
    c.in_ok-extend_from_slice.ensures.items c.in_ok-put_signals.ensures c.in_ok-put_classes.ensures c.in_ok-put_objects.ensures c.in_ok-put_machines.ensures c.in_ok-extend_from_slice-2.ensures.items
