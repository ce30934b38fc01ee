-- all of them
use Rattle.std.proofs.Common.{◌≡◌, ◌<◌, Vec, Global, All, length, sym, subst}
use Rattle.std.proofs.lemmas.Result.{IfOk-weaker}
use Rattle.pssm_model.specs.declared.ids.TransId.{TransId}
use Rattle.pssm_enabled.specs.inner.Behind.{GoesOnAtOnce}
use Rattle.pssm_enabled.proofs.Expanding.{at_once_all}
use Rattle.pssm_enabled.proofs.tracing.all_out.Goals as goal

pub returns-clause-there : goal.returns-clause-there
returns-clause-there c =
    let There : TransId → Type 0 = λ t. t.0 < length c.args.machine.now.transitions in
    IfOk-weaker c.copied.result (λ (list : Vec TransId Global). list.items ≡ c.outgoing.result.now) (λ (list : Vec TransId Global). All There list.items)
    (λ list is. subst (All There) (sym is) c.outgoing.ensures.there) c.copied.ensures

pub returns-clause-goes : goal.returns-clause-goes
returns-clause-goes c values on =
    let m = c.args.machine.now in
    IfOk-weaker c.copied.result (λ (list : Vec TransId Global). list.items ≡ c.outgoing.result.now)
    (λ (list : Vec TransId Global). GoesOnAtOnce m values c.args.v list.items)
    (λ list is. subst (GoesOnAtOnce m values c.args.v) (sym is)
    (at_once_all c.requires.rules values c.args.v c.requires.down on.0 c.outgoing.result.now c.outgoing.ensures.items))
    c.copied.ensures
