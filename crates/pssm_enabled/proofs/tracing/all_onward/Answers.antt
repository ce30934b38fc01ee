-- by the kind of the vertex
use Rattle.std.proofs.Common.{◌<◌, All, length, sym, subst, inl, inr}
use Rattle.std.proofs.lemmas.List.Elements.{All-nil}
use Rattle.pssm_model.specs.declared.ids.TransId.{TransId}
use Rattle.pssm_model.specs.declared.elements.VertexKind.TheVariants as kinds
use Rattle.pssm_model.proofs.ElementLaws.{kind_at}
use Rattle.pssm_enabled.specs.inner.Behind.{GoesOnAtOnce}
use Rattle.pssm_enabled.proofs.Expanding.{at_once_none, others_end}
use Rattle.pssm_enabled.proofs.tracing.all_onward.Goals as goal

pub one_onward-requires-clause-passed : goal.one_onward-requires-clause-passed
one_onward-requires-clause-passed g c =
    inl ((kind_at c.args.machine.now c.args.v c.vertex.result.now kinds.Junction c.vertex.ensures).1 c.in-Junction.is)

pub one_onward-requires-in-ExitPoint-clause-passed : goal.one_onward-requires-in-ExitPoint-clause-passed
one_onward-requires-in-ExitPoint-clause-passed g c =
    inr ((kind_at c.args.machine.now c.args.v c.vertex.result.now kinds.ExitPoint c.vertex.ensures).1 c.in-ExitPoint.is)

pub all_out-requires-clause-down : goal.all_out-requires-clause-down
all_out-requires-clause-down g c =
    inl ((kind_at c.args.machine.now c.args.v c.vertex.result.now kinds.Fork c.vertex.ensures).1 c.in-Fork.is)

pub all_out-requires-in-EntryPoint-clause-down : goal.all_out-requires-in-EntryPoint-clause-down
all_out-requires-in-EntryPoint-clause-down g c =
    inr ((kind_at c.args.machine.now c.args.v c.vertex.result.now kinds.EntryPoint c.vertex.ensures).1 c.in-EntryPoint.is)

pub returns-in-Fork-clause-goes : goal.returns-in-Fork-clause-goes
returns-in-Fork-clause-goes g c values tells known on = c.all_out.ensures.goes values on

pub returns-in-EntryPoint-clause-goes : goal.returns-in-EntryPoint-clause-goes
returns-in-EntryPoint-clause-goes g c values tells known on = c.all_out-in-EntryPoint.ensures.goes values on

pub returns-in_default-clause-there : goal.returns-in_default-clause-there
returns-in_default-clause-there g c =
    let There : TransId → Type 0 = λ t. t.0 < length c.args.machine.now.transitions in
    subst (All There) (sym c.new.ensures.items) (All-nil There)

pub returns-in_default-clause-goes : goal.returns-in_default-clause-goes
returns-in_default-clause-goes g c values tells known on =
    subst (GoesOnAtOnce c.args.machine.now values c.args.v) (sym c.new.ensures.items)
    (at_once_none c.requires.rules values c.args.v
    (others_end c.requires.rules values c.args.v c.vertex.result.now c.vertex.ensures c.in_default.not-Junction c.in_default.not-ExitPoint
    c.in_default.not-Fork c.in_default.not-EntryPoint on.1))
