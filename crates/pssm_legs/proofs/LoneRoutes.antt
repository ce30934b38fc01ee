-- A route that is one transition has one leg.
use Rattle.std.proofs.Common.{◌≡◌, ◌<◌, List, [], IsTrue, length, None, refl, sym, ap, subst, inl, inr, arith}
use Rattle.pssm_model.specs.declared.ids.VertexId.{VertexId}
use Rattle.pssm_model.specs.declared.ids.TransId.{TransId}
use Rattle.pssm_model.specs.declared.elements.DraftMachine.{DraftMachine}
use Rattle.pssm_model.specs.declared.steps.Route.{Route}
use Rattle.pssm_model.specs.Shapes.{HasShape}
use Rattle.pssm_model.specs.Legs.{Enters, LegScope}
use Rattle.pssm_model.specs.RouteWords.{IsStepRoute}
use Rattle.pssm_model.specs.WellFormed.{KeepsModelRules}
use Rattle.pssm_legs.specs.declared.legs.Legs.{Legs}
use Rattle.pssm_legs.specs.Areas.{scope_of, IsAreaIn}
use Rattle.pssm_legs.specs.LegsOf.{IsLoneStart, AreLegsOf}
use Rattle.pssm_legs.specs.inner.Chained.{BeginsChain, IsChainOf}
use Rattle.pssm_legs.proofs.Chains.{chain_begins, chain_ends}
use Rattle.pssm_legs.proofs.LegsMade.{chain_is_made}
use Rattle.pssm_legs.proofs.LegsSoFar.{so_far_begins, all_legs}
use Rattle.pssm_legs.proofs.NextLegs.{start_begins, none_begin, not_cut}

module _ {m : DraftMachine} (shape : HasShape m) (rules : KeepsModelRules m) (p : Route) (step : IsStepRoute m p) where
  module _ (t : TransId) (v : VertexId) (lone : IsLoneStart m p t) (e : Enters m t v) where
    pub lone_begins : BeginsChain m p t
    lone_begins = start_begins shape rules p step t v lone.0 e (λ k. lone.1 v e (inr (inr (inl k))))

    pub lone_chain : (ts : List TransId) → ts ≡ [] → IsChainOf m p t ts v
    lone_chain ts none =
        subst (λ us. IsChainOf m p t us v) (sym none)
        (chain_ends shape rules p step t lone_begins [] v (chain_begins shape rules p step t lone_begins v e) (λ k. lone.1 v e (inl k)))

  pub lone_are_legs : (legs : Legs) → legs.more.items ≡ [] → legs.first.further.items ≡ [] → IsTrue legs.first.in_order → legs.first.before ≡ None
      → IsLoneStart m p legs.first.named → Enters m legs.first.named legs.first.last → LegScope m p legs.first.named (scope_of legs.first.area)
      → IsAreaIn m legs.first.area → legs.first.last.0 < length m.vertices → AreLegsOf m p legs
  lone_are_legs legs none alone ordered before lone e scope there within =
      let t = legs.first.named in
      let v = legs.first.last in
      let chain = lone_chain t v lone e legs.first.further.items alone in
      let made = chain_is_made shape rules p step legs.first ordered (lone_begins t v lone e) chain scope None before there within in
      let begun = so_far_begins shape rules p step legs none made lone.0 in
      let done = none_begin shape rules p step legs 0 v begun (legs.first, refl, refl, (chain.last v).1 refl)
      (λ d cut l. not_cut m v (λ k. lone.1 v e (inr (inl k))) (λ k. lone.1 v e (inr (inr k))) cut) in
      let whole = ap length none in
      all_legs shape rules p step legs 1 done (omega (arith, whole))
