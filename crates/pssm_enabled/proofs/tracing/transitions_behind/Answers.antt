-- none where the route ends there
use Rattle.std.proofs.Common.{Option, Vec, Global, IfSome, sym, subst}
use Rattle.std.proofs.lemmas.Result.{IfOk-weaker}
use Rattle.pssm_model.specs.declared.ids.TransId.{TransId}
use Rattle.pssm_model.specs.declared.ids.VertexId.{VertexId}
use Rattle.pssm_model.specs.Legs.{Enters}
use Rattle.pssm_model.proofs.ElementLaws.{enters_one}
use Rattle.pssm_enabled.specs.Fitting.{PassesBy}
use Rattle.pssm_enabled.specs.Behind.{CanGoOn, GoesOnFrom}
use Rattle.pssm_enabled.proofs.Expanding.{goes_none}
use Rattle.pssm_enabled.proofs.tracing.transitions_behind.Goals as goal

pub returns-then-ends_at : goal.returns-then-ends_at
returns-then-ends_at g c values tells further w enters =
    let m = c.args.machine.now in
    let same = enters_one m c.args.t c.target-v.result w c.target-v.ensures.enters enters in
    let ends = subst (PassesBy m (λ (t : TransId). ⊥)) same (c.ends_at.ensures.0 c.if-ends_at.true) in
    subst (GoesOnFrom m values w) (sym c.new.ensures.items) (goes_none c.requires.rules values w ends)

pub returns-in-None : goal.returns-in-None
returns-in-None g c values tells further =
    let m = c.args.machine.now in
    let v = c.target-v.result in
    let on = subst (CanGoOn m values) (enters_one m c.args.t further.0 v further.1 c.target-v.ensures.enters) further.2 in
    IfOk-weaker c.transitions_from.result (λ (list : Vec TransId Global). GoesOnFrom m values v list.items)
    (λ (list : Vec TransId Global). (w : VertexId) → Enters m c.args.t w → GoesOnFrom m values w list.items)
    (λ list goes w enters. subst (λ x. GoesOnFrom m values x list.items) (enters_one m c.args.t v w c.target-v.ensures.enters enters) goes)
    (c.transitions_from.ensures values tells on)

pub returns-in-Some : goal.returns-in-Some
returns-in-Some g c values tells further w enters =
    let m = c.args.machine.now in
    let v = c.target-v.result in
    let on = subst (CanGoOn m values) (enters_one m c.args.t further.0 v further.1 c.target-v.ensures.enters) further.2 in
    let goes : GoesOnFrom m values v c.in-Some.found.items =
    subst (λ (told : Option (Vec TransId Global)). IfSome told (λ list. GoesOnFrom m values v list.items)) c.in-Some.is (c.in_ok-found.ensures values on) in
    subst (λ x. GoesOnFrom m values x c.in-Some.found.items) (enters_one m c.args.t v w c.target-v.ensures.enters enters) goes
