use Rattle.pssm_suite.proofs.TextLaws.{model_written}
use Rattle.pssm_suite.proofs.writing.put_model.Goals as goal

pub returns : goal.returns
returns c =
    model_written c.args.n c.args.text.now.items c.extend_from_slice.new.self.items c.put_states.new.text.items c.extend_from_slice-2.new.self.items c.put_steps.new.text.items c.extend_from_slice-3.new.self.items
    c.in_ok-extend_from_slice.ensures.items c.in_ok-put_states.ensures c.in_ok-extend_from_slice-2.ensures.items c.in_ok-put_steps.ensures c.in_ok-extend_from_slice-3.ensures.items
