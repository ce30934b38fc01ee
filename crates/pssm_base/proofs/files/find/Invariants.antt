use Rattle.std.proofs.Common.{◌≡◌, drop}
use Rattle.pssm_base.specs.Memory.{files_of, bytes_under}
use Rattle.pssm_base.proofs.files.find.Given as goal

abbrev pub invariant-loop-name : goal.invariant-loop-name
invariant-loop-name l = bytes_under (files_of l.files) l.path ≡ bytes_under (files_of (drop l.name-index l.files)) l.path
