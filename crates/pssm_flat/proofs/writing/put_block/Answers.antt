use Rattle.pssm_flat.proofs.WriteLaws.{block_written}
use Rattle.pssm_flat.proofs.writing.put_block.Goals as goal

pub returns : goal.returns
returns c =
    block_written c.args.names.now c.args.class.now c.args.text.now.items c.put_named.new.text.items c.put_vars.new.text.items c.put_regions.new.text.items c.put_vertices.new.text.items c.put_transitions.new.text.items
    (cc (c.in_ok-put_named.ensures, c.as_slice.ensures)) c.in_ok-put_vars.ensures c.in_ok-put_regions.ensures c.in_ok-put_vertices.ensures c.in_ok-put_transitions.ensures
