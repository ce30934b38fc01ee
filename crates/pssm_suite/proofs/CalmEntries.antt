-- Objects of calm machines do no do steps, dispatch no completions and never end.
use Rattle.std.proofs.Common.{◌≡◌, ℕ, List, [], length, Option, Some, None, refl, ap, subst, sym, ◌∙◌, inl, inr, ⊎_elim, arith}
use Rattle.std.specs.Option.{option_map_or}
use Rattle.pssm_model.specs.declared.ids.VertexId.{VertexId}
use Rattle.pssm_model.specs.declared.elements.DraftMachine.{DraftMachine}
use Rattle.pssm_model.specs.declared.elements.Vertex.{Vertex}
use Rattle.pssm_model.specs.declared.elements.Transition.{Transition}
use Rattle.pssm_model.specs.declared.elements.VertexKind.TheVariants as kinds
use Rattle.pssm_model.specs.Forest.{vertex_at, transition_at, HasKind}
use Rattle.pssm_model.specs.Configuration.{Configuration, IsNextDoStep, do_steps_of}
use Rattle.pssm_model.proofs.ElementLaws.{mapped_some, leaves_at}
use Rattle.pssm_semantics.specs.declared.entry.ObjectId.{ObjectId}
use Rattle.pssm_semantics.specs.declared.entry.Entry.{Entry}
use Rattle.pssm_semantics.specs.Completion.{IsQueueEmpty, HasCompletionTransition, HasEnded}
use Rattle.pssm_suite.specs.GeneratedSetting.{on_go}
use Rattle.pssm_suite.proofs.PlainMachines.{not_both, no_other}
use Rattle.pssm_suite.proofs.CalmMachines.{IsCalm}

none_to_do : (found : Option Vertex) → ((x : Vertex) → found ≡ Some x → x.steps ≡ []) → option_map_or (λ (x : Vertex). length x.steps) found 0 ≡ 0
none_to_do None h = refl
none_to_do (Some x) h = ap (λ ks. length ks) (h x refl)

module _ (m : DraftMachine) (first count : ℕ) (calm : IsCalm m first count) where
  pub no_do_step : (now : Configuration) (s : VertexId) (k : ℕ) → IsNextDoStep m now s k → ⊥
  no_do_step now s k h =
      let none : do_steps_of m s ≡ 0 = none_to_do (vertex_at m s) (λ x e. (calm.vertices s x e).steps) in
      let within = h.in_range in
      omega (arith, none, within)

  -- no completion transition leaves a State
  no_completion : (s : VertexId) → HasKind m s kinds.State → HasCompletionTransition m s → ⊥
  no_completion s state (t, l, none) =
      let x = mapped_some (λ (y : Transition). y.triggers) (transition_at m t) [] none in
      ⊎_elim
      (λ initial. not_both m calm.plain s state (subst (λ v. HasKind m v kinds.Initial) ((leaves_at m t x.0 s x.1).0 l) initial))
      (λ go. (let clash : on_go ≡ [] = sym go ∙ x.2 in cc))
      (calm.triggered t x.0 x.1)

  pub none_queued : (J : List Entry) (o : ObjectId) → IsQueueEmpty m J o
  none_queued J o s i q = no_completion s q.becomes.0.state q.transition

  -- no final state and no terminate vertex is there
  pub never_ends : (J : List Entry) (o : ObjectId) → HasEnded m J o → ⊥
  never_ends J o (inl (e, t, v, inside, effect, enters, k)) = no_other m calm.plain v kinds.Terminate (λ e. cc) (λ e. cc) k
  never_ends J o (inr all) =
      let top = calm.plain.top in
      let final = all top.0 top.1 in
      no_other m calm.plain final.0 kinds.Final (λ e. cc) (λ e. cc) final.2
