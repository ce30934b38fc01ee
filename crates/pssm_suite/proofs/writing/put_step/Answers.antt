use Rattle.pssm_suite.proofs.TextLaws.{step_written}
use Rattle.pssm_suite.proofs.writing.put_step.Goals as goal

pub returns : goal.returns
returns c =
    step_written c.args.n c.args.number c.next_state.result c.args.text.now.items c.put_numbered.new.text.items c.put_numbered-2.new.text.items c.put_numbered-3.new.text.items c.extend_from_slice.new.self.items
    c.next_state.ensures c.in_ok-put_numbered.ensures c.in_ok-put_numbered-2.ensures c.in_ok-put_numbered-3.ensures c.in_ok-extend_from_slice.ensures.items
