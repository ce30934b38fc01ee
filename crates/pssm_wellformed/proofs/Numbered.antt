-- Which rule is broken where, rule by rule.
use Rattle.std.proofs.Common.{◌≡◌, ◌↔◌, ◌≤◌, ℕ, Bool, IsTrue, refl, sym, subst, ⊎_elim, arith}
use Rattle.std.proofs.lemmas.Option.{slice_get_within}
use Rattle.pssm_model.specs.declared.ids.VertexId.{VertexId}
use Rattle.pssm_model.specs.declared.ids.RegionId.{RegionId}
use Rattle.pssm_model.specs.declared.ids.TransId.{TransId}
use Rattle.pssm_model.specs.declared.elements.DraftMachine.{DraftMachine}
use Rattle.pssm_model.specs.declared.elements.Transition.{Transition}
use Rattle.pssm_model.specs.declared.elements.FaultPlace.{FaultPlace}
use Rattle.pssm_model.specs.declared.elements.FaultPlace.TheVariants.{Top, At}
use Rattle.pssm_model.specs.declared.elements.Element.TheVariants as elements
use Rattle.pssm_model.specs.declared.elements.Owner.TheVariants as owners
use Rattle.pssm_model.specs.Forest.{transition_at}
use Rattle.pssm_model.specs.Shapes.{HasShape}
use Rattle.pssm_model.specs.WellFormed.{Breaks, HasNoTopRegion, IsBadInitial, IsBadHistory, IsBadJoin, IsBadFork, JoinsBadly, ForksBadly, IsOpenEnded, IsBadFinal, IsBadTerminate, IsBadEntryPoint, IsBadExitPoint, MayFindNoBranch, IsOnCycle, GoesOutside, IsTriggeredWrongly, IsBadInternal, IsBadLocal, IsBadElse, ConnectsBadly, IsTopWithoutInitial, OwnsTwoOfAKind}
use Rattle.pssm_model.specs.WellFormed.Breaks.{E01_top, E01, E02, E03, E04, E05, E06, E07, E08, E09, E10, E11, E12, E13, E14, E15, E16, E17, E18, E19, E20, E21}
use Rattle.pssm_model.proofs.ElementLaws.{mapped_some}
use Rattle.pssm_wellformed.specs.declared.ends.End.TheVariants.{Source}
use Rattle.pssm_wellformed.specs.inner.Checked.{IsPlace}
use Rattle.pssm_wellformed.proofs.Closures.{leader_is_pseudostate}
use Rattle.pssm_wellformed.proofs.Places.{kind_there, end_there, owning_region_there}

top_at : (m : DraftMachine) (p : FaultPlace) (n : ℕ) → Breaks m p n → p ≡ Top → HasNoTopRegion m
top_at m _ _ (E01_top h) q = h
top_at m _ _ _ q = absurd cc

-- E01 at the machine as a whole
pub top_iff : (m : DraftMachine) (n : ℕ) (b : Bool) → n ≡ 1 → (IsTrue b ↔ HasNoTopRegion m) → IsTrue b ↔ Breaks m Top n
top_iff m n b e iff = (λ t. subst (Breaks m Top) (sym e) (E01_top (iff.0 t)), λ h. iff.1 (top_at m Top n h refl))

region_at_1 : (m : DraftMachine) (v : RegionId) (p : FaultPlace) (n : ℕ) → Breaks m p n → n ≡ 1 → p ≡ At (elements.Region v) → IsTopWithoutInitial m v
region_at_1 m v _ _ (E01 {r = w} h) e q = let same : w ≡ v = cc in subst (IsTopWithoutInitial m) same h
region_at_1 m v _ _ (E01_top h) e q = absurd (let no : Top ≡ At (elements.Region v) → ⊥ = λ f. cc in no q)
region_at_1 m v _ _ _ e q = absurd (omega arith)

-- E01
pub region_iff_1 : (m : DraftMachine) (v : RegionId) (n : ℕ) (b : Bool) → n ≡ 1 → (IsTrue b ↔ IsTopWithoutInitial m v) → IsTrue b ↔ Breaks m (At (elements.Region v)) n
region_iff_1 m v n b e iff =
    (λ t. subst (Breaks m (At (elements.Region v))) (sym e) (E01 (iff.0 t)), λ h. iff.1 (region_at_1 m v (At (elements.Region v)) n h e refl))

region_at_2 : (m : DraftMachine) (v : RegionId) (p : FaultPlace) (n : ℕ) → Breaks m p n → n ≡ 2 → p ≡ At (elements.Region v) → OwnsTwoOfAKind m v
region_at_2 m v _ _ (E02 {r = w} h) e q = let same : w ≡ v = cc in subst (OwnsTwoOfAKind m) same h
region_at_2 m v _ _ _ e q = absurd (omega arith)

-- E02
pub region_iff_2 : (m : DraftMachine) (v : RegionId) (n : ℕ) (b : Bool) → n ≡ 2 → (IsTrue b ↔ OwnsTwoOfAKind m v) → IsTrue b ↔ Breaks m (At (elements.Region v)) n
region_iff_2 m v n b e iff =
    (λ t. subst (Breaks m (At (elements.Region v))) (sym e) (E02 (iff.0 t)), λ h. iff.1 (region_at_2 m v (At (elements.Region v)) n h e refl))

vertex_at_3 : (m : DraftMachine) (v : VertexId) (p : FaultPlace) (n : ℕ) → Breaks m p n → n ≡ 3 → p ≡ At (elements.Vertex v) → IsBadInitial m v
vertex_at_3 m v _ _ (E03 {v = w} h) e q = let same : w ≡ v = cc in subst (IsBadInitial m) same h
vertex_at_3 m v _ _ _ e q = absurd (omega arith)

-- E03
pub vertex_iff_3 : (m : DraftMachine) (v : VertexId) (n : ℕ) (b : Bool) → n ≡ 3 → (IsTrue b ↔ IsBadInitial m v) → IsTrue b ↔ Breaks m (At (elements.Vertex v)) n
vertex_iff_3 m v n b e iff =
    (λ t. subst (Breaks m (At (elements.Vertex v))) (sym e) (E03 (iff.0 t)), λ h. iff.1 (vertex_at_3 m v (At (elements.Vertex v)) n h e refl))

vertex_at_4 : (m : DraftMachine) (v : VertexId) (p : FaultPlace) (n : ℕ) → Breaks m p n → n ≡ 4 → p ≡ At (elements.Vertex v) → IsBadHistory m v
vertex_at_4 m v _ _ (E04 {v = w} h) e q = let same : w ≡ v = cc in subst (IsBadHistory m) same h
vertex_at_4 m v _ _ _ e q = absurd (omega arith)

-- E04
pub vertex_iff_4 : (m : DraftMachine) (v : VertexId) (n : ℕ) (b : Bool) → n ≡ 4 → (IsTrue b ↔ IsBadHistory m v) → IsTrue b ↔ Breaks m (At (elements.Vertex v)) n
vertex_iff_4 m v n b e iff =
    (λ t. subst (Breaks m (At (elements.Vertex v))) (sym e) (E04 (iff.0 t)), λ h. iff.1 (vertex_at_4 m v (At (elements.Vertex v)) n h e refl))

vertex_at_5 : (m : DraftMachine) (v : VertexId) (p : FaultPlace) (n : ℕ) → Breaks m p n → n ≡ 5 → p ≡ At (elements.Vertex v) → IsBadJoin m v
vertex_at_5 m v _ _ (E05 {v = w} h) e q = let same : w ≡ v = cc in subst (IsBadJoin m) same h
vertex_at_5 m v _ _ _ e q = absurd (omega arith)

-- E05
pub vertex_iff_5 : (m : DraftMachine) (v : VertexId) (n : ℕ) (b : Bool) → n ≡ 5 → (IsTrue b ↔ IsBadJoin m v) → IsTrue b ↔ Breaks m (At (elements.Vertex v)) n
vertex_iff_5 m v n b e iff =
    (λ t. subst (Breaks m (At (elements.Vertex v))) (sym e) (E05 (iff.0 t)), λ h. iff.1 (vertex_at_5 m v (At (elements.Vertex v)) n h e refl))

vertex_at_6 : (m : DraftMachine) (v : VertexId) (p : FaultPlace) (n : ℕ) → Breaks m p n → n ≡ 6 → p ≡ At (elements.Vertex v) → IsBadFork m v
vertex_at_6 m v _ _ (E06 {v = w} h) e q = let same : w ≡ v = cc in subst (IsBadFork m) same h
vertex_at_6 m v _ _ _ e q = absurd (omega arith)

-- E06
pub vertex_iff_6 : (m : DraftMachine) (v : VertexId) (n : ℕ) (b : Bool) → n ≡ 6 → (IsTrue b ↔ IsBadFork m v) → IsTrue b ↔ Breaks m (At (elements.Vertex v)) n
vertex_iff_6 m v n b e iff =
    (λ t. subst (Breaks m (At (elements.Vertex v))) (sym e) (E06 (iff.0 t)), λ h. iff.1 (vertex_at_6 m v (At (elements.Vertex v)) n h e refl))

vertex_at_7 : (m : DraftMachine) (v : VertexId) (p : FaultPlace) (n : ℕ) → Breaks m p n → n ≡ 7 → p ≡ At (elements.Vertex v) → JoinsBadly m v
vertex_at_7 m v _ _ (E07 {v = w} h) e q = let same : w ≡ v = cc in subst (JoinsBadly m) same h
vertex_at_7 m v _ _ _ e q = absurd (omega arith)

-- E07
pub vertex_iff_7 : (m : DraftMachine) (v : VertexId) (n : ℕ) (b : Bool) → n ≡ 7 → (IsTrue b ↔ JoinsBadly m v) → IsTrue b ↔ Breaks m (At (elements.Vertex v)) n
vertex_iff_7 m v n b e iff =
    (λ t. subst (Breaks m (At (elements.Vertex v))) (sym e) (E07 (iff.0 t)), λ h. iff.1 (vertex_at_7 m v (At (elements.Vertex v)) n h e refl))

vertex_at_8 : (m : DraftMachine) (v : VertexId) (p : FaultPlace) (n : ℕ) → Breaks m p n → n ≡ 8 → p ≡ At (elements.Vertex v) → ForksBadly m v
vertex_at_8 m v _ _ (E08 {v = w} h) e q = let same : w ≡ v = cc in subst (ForksBadly m) same h
vertex_at_8 m v _ _ _ e q = absurd (omega arith)

-- E08
pub vertex_iff_8 : (m : DraftMachine) (v : VertexId) (n : ℕ) (b : Bool) → n ≡ 8 → (IsTrue b ↔ ForksBadly m v) → IsTrue b ↔ Breaks m (At (elements.Vertex v)) n
vertex_iff_8 m v n b e iff =
    (λ t. subst (Breaks m (At (elements.Vertex v))) (sym e) (E08 (iff.0 t)), λ h. iff.1 (vertex_at_8 m v (At (elements.Vertex v)) n h e refl))

vertex_at_9 : (m : DraftMachine) (v : VertexId) (p : FaultPlace) (n : ℕ) → Breaks m p n → n ≡ 9 → p ≡ At (elements.Vertex v) → IsOpenEnded m v
vertex_at_9 m v _ _ (E09 {v = w} h) e q = let same : w ≡ v = cc in subst (IsOpenEnded m) same h
vertex_at_9 m v _ _ _ e q = absurd (omega arith)

-- E09
pub vertex_iff_9 : (m : DraftMachine) (v : VertexId) (n : ℕ) (b : Bool) → n ≡ 9 → (IsTrue b ↔ IsOpenEnded m v) → IsTrue b ↔ Breaks m (At (elements.Vertex v)) n
vertex_iff_9 m v n b e iff =
    (λ t. subst (Breaks m (At (elements.Vertex v))) (sym e) (E09 (iff.0 t)), λ h. iff.1 (vertex_at_9 m v (At (elements.Vertex v)) n h e refl))

vertex_at_11 : (m : DraftMachine) (v : VertexId) (p : FaultPlace) (n : ℕ) → Breaks m p n → n ≡ 11 → p ≡ At (elements.Vertex v) → IsBadFinal m v
vertex_at_11 m v _ _ (E11 {v = w} h) e q = let same : w ≡ v = cc in subst (IsBadFinal m) same h
vertex_at_11 m v _ _ _ e q = absurd (omega arith)

-- E11
pub vertex_iff_11 : (m : DraftMachine) (v : VertexId) (n : ℕ) (b : Bool) → n ≡ 11 → (IsTrue b ↔ IsBadFinal m v) → IsTrue b ↔ Breaks m (At (elements.Vertex v)) n
vertex_iff_11 m v n b e iff =
    (λ t. subst (Breaks m (At (elements.Vertex v))) (sym e) (E11 (iff.0 t)), λ h. iff.1 (vertex_at_11 m v (At (elements.Vertex v)) n h e refl))

vertex_at_12 : (m : DraftMachine) (v : VertexId) (p : FaultPlace) (n : ℕ) → Breaks m p n → n ≡ 12 → p ≡ At (elements.Vertex v) → IsBadTerminate m v
vertex_at_12 m v _ _ (E12 {v = w} h) e q = let same : w ≡ v = cc in subst (IsBadTerminate m) same h
vertex_at_12 m v _ _ _ e q = absurd (omega arith)

-- E12
pub vertex_iff_12 : (m : DraftMachine) (v : VertexId) (n : ℕ) (b : Bool) → n ≡ 12 → (IsTrue b ↔ IsBadTerminate m v) → IsTrue b ↔ Breaks m (At (elements.Vertex v)) n
vertex_iff_12 m v n b e iff =
    (λ t. subst (Breaks m (At (elements.Vertex v))) (sym e) (E12 (iff.0 t)), λ h. iff.1 (vertex_at_12 m v (At (elements.Vertex v)) n h e refl))

vertex_at_15 : (m : DraftMachine) (v : VertexId) (p : FaultPlace) (n : ℕ) → Breaks m p n → n ≡ 15 → p ≡ At (elements.Vertex v) → IsBadEntryPoint m v
vertex_at_15 m v _ _ (E15 {v = w} h) e q = let same : w ≡ v = cc in subst (IsBadEntryPoint m) same h
vertex_at_15 m v _ _ _ e q = absurd (omega arith)

-- E15
pub vertex_iff_15 : (m : DraftMachine) (v : VertexId) (n : ℕ) (b : Bool) → n ≡ 15 → (IsTrue b ↔ IsBadEntryPoint m v) → IsTrue b ↔ Breaks m (At (elements.Vertex v)) n
vertex_iff_15 m v n b e iff =
    (λ t. subst (Breaks m (At (elements.Vertex v))) (sym e) (E15 (iff.0 t)), λ h. iff.1 (vertex_at_15 m v (At (elements.Vertex v)) n h e refl))

vertex_at_16 : (m : DraftMachine) (v : VertexId) (p : FaultPlace) (n : ℕ) → Breaks m p n → n ≡ 16 → p ≡ At (elements.Vertex v) → IsBadExitPoint m v
vertex_at_16 m v _ _ (E16 {v = w} h) e q = let same : w ≡ v = cc in subst (IsBadExitPoint m) same h
vertex_at_16 m v _ _ _ e q = absurd (omega arith)

-- E16
pub vertex_iff_16 : (m : DraftMachine) (v : VertexId) (n : ℕ) (b : Bool) → n ≡ 16 → (IsTrue b ↔ IsBadExitPoint m v) → IsTrue b ↔ Breaks m (At (elements.Vertex v)) n
vertex_iff_16 m v n b e iff =
    (λ t. subst (Breaks m (At (elements.Vertex v))) (sym e) (E16 (iff.0 t)), λ h. iff.1 (vertex_at_16 m v (At (elements.Vertex v)) n h e refl))

vertex_at_18 : (m : DraftMachine) (v : VertexId) (p : FaultPlace) (n : ℕ) → Breaks m p n → n ≡ 18 → p ≡ At (elements.Vertex v) → MayFindNoBranch m v
vertex_at_18 m v _ _ (E18 {v = w} h) e q = let same : w ≡ v = cc in subst (MayFindNoBranch m) same h
vertex_at_18 m v _ _ _ e q = absurd (omega arith)

-- E18
pub vertex_iff_18 : (m : DraftMachine) (v : VertexId) (n : ℕ) (b : Bool) → n ≡ 18 → (IsTrue b ↔ MayFindNoBranch m v) → IsTrue b ↔ Breaks m (At (elements.Vertex v)) n
vertex_iff_18 m v n b e iff =
    (λ t. subst (Breaks m (At (elements.Vertex v))) (sym e) (E18 (iff.0 t)), λ h. iff.1 (vertex_at_18 m v (At (elements.Vertex v)) n h e refl))

vertex_at_19 : (m : DraftMachine) (v : VertexId) (p : FaultPlace) (n : ℕ) → Breaks m p n → n ≡ 19 → p ≡ At (elements.Vertex v) → IsOnCycle m v
vertex_at_19 m v _ _ (E19 {v = w} h) e q = let same : w ≡ v = cc in subst (IsOnCycle m) same h
vertex_at_19 m v _ _ _ e q = absurd (omega arith)

-- E19
pub vertex_iff_19 : (m : DraftMachine) (v : VertexId) (n : ℕ) (b : Bool) → n ≡ 19 → (IsTrue b ↔ IsOnCycle m v) → IsTrue b ↔ Breaks m (At (elements.Vertex v)) n
vertex_iff_19 m v n b e iff =
    (λ t. subst (Breaks m (At (elements.Vertex v))) (sym e) (E19 (iff.0 t)), λ h. iff.1 (vertex_at_19 m v (At (elements.Vertex v)) n h e refl))

vertex_at_20 : (m : DraftMachine) (v : VertexId) (p : FaultPlace) (n : ℕ) → Breaks m p n → n ≡ 20 → p ≡ At (elements.Vertex v) → GoesOutside m v
vertex_at_20 m v _ _ (E20 {v = w} h) e q = let same : w ≡ v = cc in subst (GoesOutside m) same h
vertex_at_20 m v _ _ _ e q = absurd (omega arith)

-- E20
pub vertex_iff_20 : (m : DraftMachine) (v : VertexId) (n : ℕ) (b : Bool) → n ≡ 20 → (IsTrue b ↔ GoesOutside m v) → IsTrue b ↔ Breaks m (At (elements.Vertex v)) n
vertex_iff_20 m v n b e iff =
    (λ t. subst (Breaks m (At (elements.Vertex v))) (sym e) (E20 (iff.0 t)), λ h. iff.1 (vertex_at_20 m v (At (elements.Vertex v)) n h e refl))

transition_at_10 : (m : DraftMachine) (v : TransId) (p : FaultPlace) (n : ℕ) → Breaks m p n → n ≡ 10 → p ≡ At (elements.Transition v) → IsTriggeredWrongly m v
transition_at_10 m v _ _ (E10 {t = w} h) e q = let same : w ≡ v = cc in subst (IsTriggeredWrongly m) same h
transition_at_10 m v _ _ _ e q = absurd (omega arith)

-- E10
pub transition_iff_10 : (m : DraftMachine) (v : TransId) (n : ℕ) (b : Bool) → n ≡ 10 → (IsTrue b ↔ IsTriggeredWrongly m v) → IsTrue b ↔ Breaks m (At (elements.Transition v)) n
transition_iff_10 m v n b e iff =
    (λ t. subst (Breaks m (At (elements.Transition v))) (sym e) (E10 (iff.0 t)), λ h. iff.1 (transition_at_10 m v (At (elements.Transition v)) n h e refl))

transition_at_13 : (m : DraftMachine) (v : TransId) (p : FaultPlace) (n : ℕ) → Breaks m p n → n ≡ 13 → p ≡ At (elements.Transition v) → IsBadInternal m v
transition_at_13 m v _ _ (E13 {t = w} h) e q = let same : w ≡ v = cc in subst (IsBadInternal m) same h
transition_at_13 m v _ _ _ e q = absurd (omega arith)

-- E13
pub transition_iff_13 : (m : DraftMachine) (v : TransId) (n : ℕ) (b : Bool) → n ≡ 13 → (IsTrue b ↔ IsBadInternal m v) → IsTrue b ↔ Breaks m (At (elements.Transition v)) n
transition_iff_13 m v n b e iff =
    (λ t. subst (Breaks m (At (elements.Transition v))) (sym e) (E13 (iff.0 t)), λ h. iff.1 (transition_at_13 m v (At (elements.Transition v)) n h e refl))

transition_at_14 : (m : DraftMachine) (v : TransId) (p : FaultPlace) (n : ℕ) → Breaks m p n → n ≡ 14 → p ≡ At (elements.Transition v) → IsBadLocal m v
transition_at_14 m v _ _ (E14 {t = w} h) e q = let same : w ≡ v = cc in subst (IsBadLocal m) same h
transition_at_14 m v _ _ _ e q = absurd (omega arith)

-- E14
pub transition_iff_14 : (m : DraftMachine) (v : TransId) (n : ℕ) (b : Bool) → n ≡ 14 → (IsTrue b ↔ IsBadLocal m v) → IsTrue b ↔ Breaks m (At (elements.Transition v)) n
transition_iff_14 m v n b e iff =
    (λ t. subst (Breaks m (At (elements.Transition v))) (sym e) (E14 (iff.0 t)), λ h. iff.1 (transition_at_14 m v (At (elements.Transition v)) n h e refl))

transition_at_17 : (m : DraftMachine) (v : TransId) (p : FaultPlace) (n : ℕ) → Breaks m p n → n ≡ 17 → p ≡ At (elements.Transition v) → IsBadElse m v
transition_at_17 m v _ _ (E17 {t = w} h) e q = let same : w ≡ v = cc in subst (IsBadElse m) same h
transition_at_17 m v _ _ _ e q = absurd (omega arith)

-- E17
pub transition_iff_17 : (m : DraftMachine) (v : TransId) (n : ℕ) (b : Bool) → n ≡ 17 → (IsTrue b ↔ IsBadElse m v) → IsTrue b ↔ Breaks m (At (elements.Transition v)) n
transition_iff_17 m v n b e iff =
    (λ t. subst (Breaks m (At (elements.Transition v))) (sym e) (E17 (iff.0 t)), λ h. iff.1 (transition_at_17 m v (At (elements.Transition v)) n h e refl))

transition_at_21 : (m : DraftMachine) (v : TransId) (p : FaultPlace) (n : ℕ) → Breaks m p n → n ≡ 21 → p ≡ At (elements.Transition v) → ConnectsBadly m v
transition_at_21 m v _ _ (E21 {t = w} h) e q = let same : w ≡ v = cc in subst (ConnectsBadly m) same h
transition_at_21 m v _ _ _ e q = absurd (omega arith)

-- E21
pub transition_iff_21 : (m : DraftMachine) (v : TransId) (n : ℕ) (b : Bool) → n ≡ 21 → (IsTrue b ↔ ConnectsBadly m v) → IsTrue b ↔ Breaks m (At (elements.Transition v)) n
transition_iff_21 m v n b e iff =
    (λ t. subst (Breaks m (At (elements.Transition v))) (sym e) (E21 (iff.0 t)), λ h. iff.1 (transition_at_21 m v (At (elements.Transition v)) n h e refl))

-- The rules are numbered from 1 to 21.
pub rule_range : (m : DraftMachine) (p : FaultPlace) (n : ℕ) → Breaks m p n → (1 ≤ n) × (n ≤ 21)
rule_range m _ _ (E01_top h) = (omega arith, omega arith)
rule_range m _ _ (E01 h) = (omega arith, omega arith)
rule_range m _ _ (E02 h) = (omega arith, omega arith)
rule_range m _ _ (E03 h) = (omega arith, omega arith)
rule_range m _ _ (E04 h) = (omega arith, omega arith)
rule_range m _ _ (E05 h) = (omega arith, omega arith)
rule_range m _ _ (E06 h) = (omega arith, omega arith)
rule_range m _ _ (E07 h) = (omega arith, omega arith)
rule_range m _ _ (E08 h) = (omega arith, omega arith)
rule_range m _ _ (E09 h) = (omega arith, omega arith)
rule_range m _ _ (E10 h) = (omega arith, omega arith)
rule_range m _ _ (E11 h) = (omega arith, omega arith)
rule_range m _ _ (E12 h) = (omega arith, omega arith)
rule_range m _ _ (E13 h) = (omega arith, omega arith)
rule_range m _ _ (E14 h) = (omega arith, omega arith)
rule_range m _ _ (E15 h) = (omega arith, omega arith)
rule_range m _ _ (E16 h) = (omega arith, omega arith)
rule_range m _ _ (E17 h) = (omega arith, omega arith)
rule_range m _ _ (E18 h) = (omega arith, omega arith)
rule_range m _ _ (E19 h) = (omega arith, omega arith)
rule_range m _ _ (E20 h) = (omega arith, omega arith)
rule_range m _ _ (E21 h) = (omega arith, omega arith)

-- What breaks a rule is there.
pub breaks_there : (m : DraftMachine) → HasShape m → (p : FaultPlace) (n : ℕ) → Breaks m p n → IsPlace m p
breaks_there m shape _ _ (E01_top h) = tt
breaks_there m shape _ _ (E01 {r = r} h) = slice_get_within m.regions r.0 owners.Top h.0
breaks_there m shape _ _ (E02 {r = r} h) = ⊎_elim (λ w. owning_region_there m shape w.0 r w.5) (⊎_elim (λ w. owning_region_there m shape w.0 r w.5) (λ w. owning_region_there m shape w.0 r w.5)) h
breaks_there m shape _ _ (E03 {v = v} h) = kind_there m v _ h.0
breaks_there m shape _ _ (E05 {v = v} h) = kind_there m v _ h.0
breaks_there m shape _ _ (E06 {v = v} h) = kind_there m v _ h.0
breaks_there m shape _ _ (E07 {v = v} h) = kind_there m v _ h.0
breaks_there m shape _ _ (E08 {v = v} h) = kind_there m v _ h.0
breaks_there m shape _ _ (E11 {v = v} h) = kind_there m v _ h.0
breaks_there m shape _ _ (E12 {v = v} h) = kind_there m v _ h.0
breaks_there m shape _ _ (E15 {v = v} h) = kind_there m v _ h.0
breaks_there m shape _ _ (E16 {v = v} h) = kind_there m v _ h.0
breaks_there m shape _ _ (E04 {v = v} h) = ⊎_elim (λ k. kind_there m v _ k) (λ k. kind_there m v _ k) h.0
breaks_there m shape _ _ (E09 {v = v} h) = ⊎_elim (λ k. kind_there m v _ k) (λ k. kind_there m v _ k) h.0
breaks_there m shape _ _ (E18 {v = v} h) = ⊎_elim (λ k. kind_there m v _ k) (λ k. kind_there m v _ k.0) h.1
breaks_there m shape _ _ (E19 {v = v} h) = let p = leader_is_pseudostate m v v h in kind_there m v p.0 p.1
breaks_there m shape _ _ (E20 {v = v} h) = ⊎_elim (λ l. ⊎_elim (λ k. kind_there m v _ k) (⊎_elim (λ s. ⊎_elim (λ k. kind_there m v _ k) (λ k. kind_there m v _ k) s) (λ k. kind_there m v _ k)) l.0) (λ k. kind_there m v _ k.0) h
breaks_there m shape _ _ (E10 {t = t} h) = (end_there m shape Source t h.0 h.1).0
breaks_there m shape _ _ (E13 {t = t} h) = (end_there m shape Source t h.1.0 h.1.1).0
breaks_there m shape _ _ (E14 {t = t} h) = let at = mapped_some (λ (x : Transition). x.kind) (transition_at m t) _ h.0 in slice_get_within m.transitions t.0 at.0 at.1
breaks_there m shape _ _ (E17 {t = t} h) = (end_there m shape Source t h.1.0 h.1.1).0
breaks_there m shape _ _ (E21 {t = t} h) = (end_there m shape Source t h.0 h.2).0
