use Rattle.std.proofs.Common.{[]}
use Rattle.pssm_semantics.specs.Names.{HasSpelledNames}
use Rattle.pssm_semantics.specs.Proper.{IsWellFormed}
use Rattle.pssm_load.specs.Loads.{ReadsSetting}
use Rattle.pssm_tool.specs.inner.Failures.{IsRefusedFor}
use Rattle.pssm_tool.proofs.LoadLaws.{found_with, found_lacks, found_no_memory, bytes_lack}
use Rattle.pssm_tool.proofs.model.setting_of.Goals as goal

pub returns-clause-loads : goal.returns-clause-loads
returns-clause-loads c = found_with (λ s. ReadsSetting c.args.bytes.now s []) c.load-loaded.result c.found.result c.load-loaded.ensures.loads c.found.ensures

pub returns-clause-well_formed : goal.returns-clause-well_formed
returns-clause-well_formed c = found_with IsWellFormed c.load-loaded.result c.found.result c.load-loaded.ensures.well_formed c.found.ensures

pub returns-clause-spelled : goal.returns-clause-spelled
returns-clause-spelled c = found_with HasSpelledNames c.load-loaded.result c.found.result c.load-loaded.ensures.spelled c.found.ensures

pub returns-clause-lacks : goal.returns-clause-lacks
returns-clause-lacks c = found_lacks (IsRefusedFor c.args.bytes.now) c.load-loaded.result c.found.result (bytes_lack c.args.bytes.now c.load-loaded.result c.load-loaded.ensures.fault) c.found.ensures

pub returns-clause-failed : goal.returns-clause-failed
returns-clause-failed c = found_no_memory c.load-loaded.result c.found.result c.found.ensures
