-- A route of few transitions, which are looked up in its lists.
use Rattle.std.proofs.Common.{◌↔◌, List, Contains, ◌⊎◌, inl, inr, ⊎_elim, ◌∙◌, sym}
use Rattle.std.proofs.lemmas.List.Elements.{Contains-append_cases, Contains-append_left, Contains-append_right}
use Rattle.pssm_model.specs.declared.ids.VertexId.{VertexId}
use Rattle.pssm_model.specs.declared.ids.TransId.{TransId}
use Rattle.pssm_model.specs.declared.elements.DraftMachine.{DraftMachine}
use Rattle.pssm_model.specs.Legs.{Leaves, On}
use Rattle.pssm_enabled.specs.Fitting.{route_with, HasOneBy}
use Rattle.pssm_enabled.specs.inner.Fitting.{IsOrOff, GoesOnBehind, LeavesEntered, FitsTogether}
use Rattle.pssm_enabled.proofs.Members.{transitions_told}

-- the only one of these transitions out of a vertex
pub one_on : (m : DraftMachine) (These : TransId → Type 0) (v : VertexId) (t : TransId) → These t → Leaves m t v
    → ((u : TransId) → Leaves m u v → IsOrOff These t u) ↔ HasOneBy m These v
one_on m These v t is leaves = (
  λ only. (t, is, leaves, λ u on out. ⊎_elim (λ same. same) (λ fails. absurd (fails on)) (only u out)),
  λ h u out. ⊎_elim
      (λ same. inl same)
      (λ other. inr (λ on. other (h.3 u on out ∙ sym (h.3 t is leaves))))
      (transitions_told u t),
)

pub on_route : (starts rest : List TransId) (t : TransId) → On (route_with starts rest) t ↔ (Contains starts t ⊎ Contains rest t)
on_route starts rest t = (
  λ on. Contains-append_cases starts rest t on,
  λ h. ⊎_elim (λ first. Contains-append_left starts rest t first) (λ later. Contains-append_right starts rest t later) h,
)

module _ (m : DraftMachine) (starts rest : List TransId) where
  pub few_fit : ((t : TransId) → Contains starts t → GoesOnBehind m (On (route_with starts rest)) t)
      → ((t : TransId) → Contains rest t → GoesOnBehind m (On (route_with starts rest)) t)
      → ((t : TransId) → Contains rest t → LeavesEntered m (On (route_with starts rest)) t) → FitsTogether m (route_with starts rest)
  few_fit first later leave = record {
    leave = λ t v is leaves. leave t is v leaves;
    passes = λ t v on enters. ⊎_elim (λ is. first t is v enters) (λ is. later t is v enters) ((on_route starts rest t).0 on);
  }

  pub fit_starts : FitsTogether m (route_with starts rest) → (t : TransId) → Contains starts t → GoesOnBehind m (On (route_with starts rest)) t
  fit_starts h t is v enters = h.passes t v ((on_route starts rest t).1 (inl is)) enters

  pub fit_rest : FitsTogether m (route_with starts rest) → (t : TransId) → Contains rest t → GoesOnBehind m (On (route_with starts rest)) t
  fit_rest h t is v enters = h.passes t v ((on_route starts rest t).1 (inr is)) enters

  pub fit_leave : FitsTogether m (route_with starts rest) → (t : TransId) → Contains rest t → LeavesEntered m (On (route_with starts rest)) t
  fit_leave h t is v leaves = h.leave t v is leaves
