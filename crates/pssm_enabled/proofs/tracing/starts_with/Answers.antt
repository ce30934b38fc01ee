-- it alone, or all into its join
use Rattle.std.proofs.Common.{◌≡◌, [], ◌∷◌, Vec, Global, sym, subst, inl}
use Rattle.std.proofs.lemmas.Result.{IfOk-weaker}
use Rattle.pssm_model.specs.declared.ids.TransId.{TransId}
use Rattle.pssm_enabled.specs.Starts.{AreStartsWith}
use Rattle.pssm_enabled.proofs.ListPlaces.{refuted}
use Rattle.pssm_enabled.proofs.StartLaws.{starts_joined, starts_alone}
use Rattle.pssm_enabled.proofs.tracing.starts_with.Goals as goal

pub returns-then-not-is_join : goal.returns-then-not-is_join
returns-then-not-is_join c =
    let m = c.args.machine.now in
    let none = starts_alone m c.args.t c.target-v.result c.target-v.ensures.enters (refuted c.is_join.result c.if-not-is_join.true c.is_join.ensures) in
    IfOk-weaker c.alone.result (λ (list : Vec TransId Global). list.items ≡ c.args.t ∷ []) (λ (list : Vec TransId Global). AreStartsWith m c.args.t list.items)
    (λ list is. inl (is, none)) c.alone.ensures

pub returns : goal.returns
returns c =
    let m = c.args.machine.now in
    let are = starts_joined m c.args.t c.target-v.result c.incoming.result.now c.target-v.ensures.enters (c.is_join.ensures.0 c.if-not-is_join.false)
    c.incoming.ensures.items c.incoming.ensures.ascending in
    IfOk-weaker c.copied.result (λ (list : Vec TransId Global). list.items ≡ c.incoming.result.now)
    (λ (list : Vec TransId Global). AreStartsWith m c.args.t list.items) (λ list is. subst (AreStartsWith m c.args.t) (sym is) are) c.copied.ensures
