use Rattle.pssm_base.proofs.ThroughReal.{output_taken}
use Rattle.pssm_base.proofs.real.StdoutSinkSink.TheImpl.Goals as goal

pub put-tells : goal.put-tells
put-tells g c = record {
  within = c.ensures.within;
  some = c.ensures.some;
  taken = output_taken c.result _ _ c.args.bytes.now _ c.ensures.ok c.ensures.err;
  counts = c.ensures.counts;
  failed = c.ensures.failed;
}
