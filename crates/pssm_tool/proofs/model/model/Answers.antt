use Rattle.std.proofs.Common.{List, ℕ, IfErr, IfOk, [], subst, arith}
use Rattle.pssm_base.specs.Reading.{given, ReadsWhole}
use Rattle.pssm_load.specs.Loads.{ReadsSetting}
use Rattle.pssm_tool.specs.inner.Failures.{IsRefusedFor}
use Rattle.pssm_tool.proofs.LoadLaws.{model_loads, model_lacks, memory_failed}
use Rattle.pssm_tool.proofs.model.model.Goals as goal

pub returns-clause-loads : goal.returns-clause-loads
returns-clause-loads g c =
    let reads : ReadsWhole (given (g.I.Inputs.content c.args.inputs.now) (g.I.Inputs.history c.args.inputs.now) (g.I.Inputs.history c.read_whole.new.inputs)) c.args.path.now 16777216 c.in-Ok.bytes.items =
    record { told = c.in-Ok.ensures.whole; read = c.in-Ok.ensures.given; at_most = omega (arith, c.in-Ok.bytes.ok, c.in-Ok.ensures.at_most) } in
    model_loads (given (g.I.Inputs.content c.args.inputs.now) (g.I.Inputs.history c.args.inputs.now) (g.I.Inputs.history c.read_whole.new.inputs)) c.args.path.now c.in-Ok.bytes.items reads c.setting_of-found.result
    (subst (λ (bytes : List ℕ). IfOk c.setting_of-found.result (λ found. IfOk found (λ s. ReadsSetting bytes s []))) c.as_slice.ensures.value c.setting_of-found.ensures.loads)

pub returns-clause-lacks : goal.returns-clause-lacks
returns-clause-lacks g c =
    let reads : ReadsWhole (given (g.I.Inputs.content c.args.inputs.now) (g.I.Inputs.history c.args.inputs.now) (g.I.Inputs.history c.read_whole.new.inputs)) c.args.path.now 16777216 c.in-Ok.bytes.items =
    record { told = c.in-Ok.ensures.whole; read = c.in-Ok.ensures.given; at_most = omega (arith, c.in-Ok.bytes.ok, c.in-Ok.ensures.at_most) } in
    model_lacks (given (g.I.Inputs.content c.args.inputs.now) (g.I.Inputs.history c.args.inputs.now) (g.I.Inputs.history c.read_whole.new.inputs)) c.args.path.now c.in-Ok.bytes.items reads c.setting_of-found.result
    (subst (λ (bytes : List ℕ). IfOk c.setting_of-found.result (λ found. IfErr found (IsRefusedFor bytes))) c.as_slice.ensures.value c.setting_of-found.ensures.lacks)

pub returns-clause-failed : goal.returns-clause-failed
returns-clause-failed g c = memory_failed _ _ c.setting_of-found.result c.setting_of-found.ensures.failed
