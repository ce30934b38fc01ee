use Rattle.std.proofs.Common.{refl}
use Rattle.pssm_base.proofs.ThroughReal.{files_kept, files_none_kept}
use Rattle.pssm_base.proofs.Untold.{untold_read}
use Rattle.pssm_base.proofs.real.FileInputsInputs.TheImpl.Goals as goal

pub read_at-tells : goal.read_at-tells
read_at-tells g c = record {
  within = c.ensures.within;
  front = untold_read c.result;
  kept = files_kept c.result c.args.self.now c.new.self.now _ c.ensures.ok;
  none_kept = files_none_kept c.result c.args.self.now c.new.self.now _ c.ensures.err;
  same = λ path. refl;
  counts = λ path. c.ensures.counts;
  failed = c.ensures.failed;
}
