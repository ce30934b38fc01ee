-- A route goes on over all transitions out of a fork or an entry point, and over the one out of an entry point with what goes on behind it.
use Rattle.std.proofs.Common.{◌≡◌, ◌⊎◌, ◌↔◌, ◌∙◌, List, [], ◌∷◌, ◌++◌, map, option_map, unwrap_or, Contains, sym, ap, subst, inl, inr, ⊎_elim}
use Rattle.std.proofs.lemmas.List.{append_assoc}
use Rattle.pssm_model.specs.declared.ids.VertexId.{VertexId}
use Rattle.pssm_model.specs.declared.ids.TransId.{TransId}
use Rattle.pssm_model.specs.declared.elements.DraftMachine.{DraftMachine}
use Rattle.pssm_model.specs.declared.elements.Transition.{Transition}
use Rattle.pssm_model.specs.declared.elements.VertexKind.TheVariants as kinds
use Rattle.pssm_model.specs.Forest.{HasKind, transition_at}
use Rattle.pssm_model.specs.Legs.{Leaves, Enters}
use Rattle.pssm_model.specs.Paths.{LeadsOn}
use Rattle.pssm_model.specs.Paths.LeadsOn.{after}
use Rattle.pssm_model.specs.Routes.{Truth}
use Rattle.pssm_model.specs.WellFormed.{KeepsModelRules}
use Rattle.pssm_model.proofs.ElementLaws.{mapped_some, leaves_one, enters_one, nothing_in_nil}
use Rattle.pssm_model_laws.proofs.Through.{kinds_clash, step_leads}
use Rattle.pssm_enabled.specs.Fitting.{IsThrough, PassesBy}
use Rattle.pssm_enabled.specs.Ways.{HasWay}
use Rattle.pssm_enabled.specs.Behind.{CanGoOn, GoesOnFrom}
use Rattle.pssm_enabled.specs.inner.Down.{AllEndAlone, IsStepDown, IsDown}
use Rattle.pssm_enabled.proofs.Expanding.{at_once_all}
use Rattle.pssm_enabled.proofs.LeadingOn.{entry_through}
use Rattle.pssm_enabled.proofs.Members.{in_front, in_rest, front_or_rest}
use Rattle.pssm_enabled.proofs.Trees.{target_some, way_entry, no_join_after}
use Rattle.pssm_enabled.proofs.Unguarded.{always_true}

module _ (m : DraftMachine) where
  -- where a transition ends
  abbrev target_of : TransId → VertexId
  target_of t = unwrap_or (option_map (λ (x : Transition). x.target) (transition_at m t)) (record { 0 = 0 })

  target_is : (t : TransId) (w : VertexId) → Enters m t w → target_of t ≡ w
  target_is t w h =
      let x = mapped_some (λ (y : Transition). y.target) (transition_at m t) w h in
      ap (λ o. unwrap_or (option_map (λ (y : Transition). y.target) o) (record { 0 = 0 })) x.1 ∙ x.2

  target_in : (ts : List TransId) (t : TransId) (w : VertexId) → Contains ts t → Enters m t w → Contains (map target_of ts) w
  target_in [] t w has enters = absurd (nothing_in_nil t has)
  target_in (u ∷ ts) t w has enters =
      ⊎_elim
      (λ same. subst (Contains (map target_of (u ∷ ts))) (ap target_of same ∙ target_is t w enters) (in_front (target_of u) (map target_of ts)))
      (λ more. in_rest (target_of u) w (map target_of ts) (target_in ts t w more enters))
      (front_or_rest u t ts has)

  in_targets : (v : VertexId) (ts : List TransId) → ((t : TransId) → Contains ts t → Leaves m t v) → (w : VertexId) → Contains (map target_of ts) w
      → (t : TransId) × Contains ts t × Enters m t w
  in_targets v [] leave w has = absurd (nothing_in_nil w has)
  in_targets v (u ∷ ts) leave w has =
      ⊎_elim
      (λ same.
      let end = target_some m u v (leave u (in_front u ts)) in
      (u, in_front u ts, subst (Enters m u) (sym (target_is u end.0 end.1) ∙ same) end.1))
      (λ more.
      let by = in_targets v ts (λ t inside. leave t (in_rest u t ts inside)) w more in
      (by.0, in_rest u by.0 ts by.1, by.2))
      (front_or_rest (target_of u) w (map target_of ts) has)

module _ {m : DraftMachine} (rules : KeepsModelRules m) (truth : Truth) (v : VertexId) where
  -- a route ends with each transition out of a fork or an entry point
  pub goes_branch : HasKind m v kinds.Fork ⊎ HasKind m v kinds.EntryPoint → HasWay m truth v → (ts : List TransId)
      → ((t : TransId) → Contains ts t ↔ Leaves m t v) → AllEndAlone m v → GoesOnFrom m truth v ts
  goes_branch down way ts lists alone =
      let once = at_once_all rules truth v down way ts lists in
      let through : IsThrough m v = ⊎_elim (λ fork. inr (inl fork)) (λ entry. entry_through m v entry) down in
      let ends = map (target_of m) ts in
      let back = in_targets m v ts (λ t inside. (lists t).0 inside) in
      record {
        come = v ∷ ends;
        begins = in_front v ends;
        guards = once.guards;
        leave = λ t inside. (v, in_front v ends, (lists t).0 inside, through);
        ends = λ t w inside enters. in_rest v w ends (target_in m ts t w inside enters);
        entered = λ w inside. ⊎_elim (λ same. inl (sym same)) (λ more. inr (back w more)) (front_or_rest v w ends inside);
        passes = λ w inside. ⊎_elim
            (λ same. subst (PassesBy m (Contains ts)) same once.passes)
            (λ more.
            let by = back w more in
            let none = alone by.0 ((lists by.0).0 by.1) w by.2 in
            record { one = λ junction. absurd ((none.one junction).1); every = λ cut u leaves. absurd (none.every cut u leaves) })
            (front_or_rest v w ends inside);
        led = λ w inside second. ⊎_elim
            (λ same. inl same)
            (λ more.
            let by = back w more in
            inr (through, step_leads m v w by.0 through second ((lists by.0).0 by.1) by.2))
            (front_or_rest v w ends inside);
      }

  -- over the one transition out of an entry point to another, and on from there
  module _ (t : TransId) (step : IsStepDown m v t) where
    through : IsThrough m v
    through = entry_through m v step.entry

    pub goes_step : (ts : List TransId) → GoesOnFrom m truth step.end ts → GoesOnFrom m truth v (t ∷ ts)
    goes_step ts h = record {
      come = v ∷ h.come;
      begins = in_front v h.come;
      guards = λ u inside. ⊎_elim
          (λ same. always_true rules truth u v (subst (λ x. Leaves m x v) same step.leaves) (inr (inr step.entry)))
          (λ more. h.guards u more)
          (front_or_rest t u ts inside);
      leave = λ u inside. ⊎_elim
          (λ same. (v, in_front v h.come, subst (λ x. Leaves m x v) same step.leaves, through))
          (λ more. let from = h.leave u more in (from.0, in_rest v from.0 h.come from.1, from.2, from.3))
          (front_or_rest t u ts inside);
      ends = λ u w inside enters. in_rest v w h.come (⊎_elim
          (λ same. subst (Contains h.come) (enters_one m t step.end w step.enters (subst (λ x. Enters m x w) (sym same) enters)) h.begins)
          (λ more. h.ends u w more enters)
          (front_or_rest t u ts inside));
      entered = λ w inside. ⊎_elim
          (λ same. inl (sym same))
          (λ more. ⊎_elim
          (λ same. inr (t, in_front t ts, subst (Enters m t) (sym same) step.enters))
          (λ by. inr (by.0, in_rest t by.0 ts by.1, by.2))
          (h.entered w more))
          (front_or_rest v w h.come inside);
      passes = λ w inside. ⊎_elim
          (λ same. subst (PassesBy m (Contains (t ∷ ts))) same (record {
            one = λ junction. absurd (kinds_clash m v kinds.Junction kinds.EntryPoint (λ e. cc) junction step.entry);
            every = λ cut u leaves. subst (Contains (t ∷ ts)) (sym (step.only u leaves)) (in_front t ts);
          }))
          (λ more. wider w (h.passes w more))
          (front_or_rest v w h.come inside);
      led = λ w inside second. ⊎_elim
          (λ same. inl same)
          (λ more. ⊎_elim
          (λ same. inr (
            through,
            subst (λ x. LeadsOn m v x) same (step_leads m v step.end t through (entry_through m step.end step.further) step.leaves step.enters),
          ))
          (λ led. inr (through, after (step_leads m v step.end t through led.0 step.leaves step.enters) led.1))
          (h.led w more second))
          (front_or_rest v w h.come inside);
    }
      where
        wider : (w : VertexId) → PassesBy m (Contains ts) w → PassesBy m (Contains (t ∷ ts)) w
        wider w by = record {
          one = λ junction.
              let one = by.one junction in (
                one.0,
                in_rest t one.0 ts one.1,
                one.2,
                λ u inside leaves. ⊎_elim
                    (λ same.
                    let here : v ≡ w = leaves_one m t v w step.leaves (subst (λ x. Leaves m x w) (sym same) leaves) in
                    absurd (kinds_clash m w kinds.Junction kinds.EntryPoint (λ e. cc) junction
                    (subst (λ x. HasKind m x kinds.EntryPoint) here step.entry)))
                    (λ more. one.3 u more leaves)
                    (front_or_rest t u ts inside),
              );
          every = λ cut u leaves. in_rest t u ts (by.every cut u leaves);
        }

    pub step_can : CanGoOn m truth v → CanGoOn m truth step.end
    step_can on = (
      way_entry on.0 step.entry t step.end step.leaves step.enters,
      no_join_after rules t v step.end through step.leaves step.enters,
    )

-- from the first vertex to the last of them
module _ {m : DraftMachine} (rules : KeepsModelRules m) (truth : Truth) (v : VertexId) where
  pub down_none : (over : List TransId) → over ≡ [] → IsDown m truth v over v
  down_none over e on = (on, λ ts h. subst (λ (us : List TransId). GoesOnFrom m truth v (us ++ ts)) (sym e) h)

  pub down_more : (over more : List TransId) (to next : VertexId) (t : TransId) → more ≡ over ++ t ∷ [] → IsStepDown m to t → Enters m t next
      → IsDown m truth v over to → IsDown m truth v more next
  down_more over more to next t e step enters h on =
      let was = h on in
      let same = enters_one m t step.end next step.enters enters in (
        subst (CanGoOn m truth) same (step_can rules truth to t step was.0),
        λ ts goes.
            let here = was.1 (t ∷ ts) (goes_step rules truth to t step ts (subst (λ x. GoesOnFrom m truth x ts) (sym same) goes)) in
            subst (GoesOnFrom m truth v) (sym (ap (λ (us : List TransId). us ++ ts) e ∙ append_assoc over (t ∷ []) ts)) here,
      )
