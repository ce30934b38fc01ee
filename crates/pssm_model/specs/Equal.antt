-- Values that compare as equal are equal.
use Rattle.std.proofs.Common.{◌≡◌, Bool, true, false, ◌&&◌, List, [], ◌∷◌, refl, ap, ◌∙◌, rules, ℕ, nat_eq}
use Rattle.std.specs.Cmp.Lexicographic.{pointwise, bytes_decides}
use Rattle.pssm_model.specs.declared.ids.ActId.{ActId}
use Rattle.pssm_model.specs.declared.ids.SignalId.{SignalId}
use Rattle.pssm_model.specs.declared.ids.TransId.{TransId}
use Rattle.pssm_model.specs.declared.ids.VertexId.{VertexId}
use Rattle.pssm_model.specs.declared.elements.Owner.{Owner}
use Rattle.pssm_model.specs.declared.elements.Guard.{Guard}
use Rattle.pssm_model.specs.declared.elements.VertexKind.{VertexKind}
use Rattle.pssm_model.specs.declared.elements.TransKind.{TransKind}
use Rattle.pssm_model.specs.declared.elements.Vertex.{Vertex}
use Rattle.pssm_model.specs.declared.elements.Transition.{Transition}
use Rattle.pssm_model.specs.declared.elements.DraftMachine.{DraftMachine}
use Rattle.pssm_model.specs.declared.steps.Route.{Route}
use Rattle.pssm_model.specs.declared.steps.Firing.{Firing}
use Rattle.pssm_model.specs.declared.steps.How.{How}
use Rattle.pssm_model.specs.declared.steps.How.TheVariants.{By, Restore, Nothing}
use Rattle.pssm_model.specs.contracts.ids.ActIdPartialEq.TheImpl.{eq-value as act_eq}
use Rattle.pssm_model.specs.contracts.ids.SignalIdPartialEq.TheImpl.{eq-value as signal_eq}
use Rattle.pssm_model.specs.contracts.ids.TransIdPartialEq.TheImpl.{eq-value as trans_eq}
use Rattle.pssm_model.specs.contracts.ids.VertexIdPartialEq.TheImpl.{eq-value as vertex_id_eq}
use Rattle.pssm_model.specs.contracts.elements.GuardPartialEq.TheImpl.{eq-value as guard_eq}
use Rattle.pssm_model.specs.contracts.elements.VertexKindPartialEq.TheImpl.{eq-value as vertex_kind_eq}
use Rattle.pssm_model.specs.contracts.elements.TransKindPartialEq.TheImpl.{eq-value as trans_kind_eq}
use Rattle.pssm_model.specs.contracts.elements.OwnerPartialEq.TheImpl.{eq-value as owner_eq}
use Rattle.pssm_model.specs.contracts.elements.VertexPartialEq.TheImpl.{eq-value as vertex_eq}
use Rattle.pssm_model.specs.contracts.elements.TransitionPartialEq.TheImpl.{eq-value as transition_eq}
use Rattle.pssm_model.specs.contracts.elements.DraftMachinePartialEq.TheImpl.{eq-value as draft_eq}
use Rattle.pssm_model.specs.contracts.steps.RoutePartialEq.TheImpl.{eq-value as route_eq}
use Rattle.pssm_model.specs.contracts.steps.FiringPartialEq.TheImpl.{eq-value as firing_eq}
use Rattle.pssm_model.specs.contracts.steps.HowPartialEq.TheImpl.{eq-value as how_eq}

-- both of two tests pass
pub both_pass : (b c : Bool) → (b && c) ≡ true → (b ≡ true) × (c ≡ true)
both_pass true true e = (refl, refl)
both_pass true false e = cc
both_pass false c e = cc

pub row_same : {X : Type 0} {E : X → X → Bool} → ((a b : X) → E a b ≡ true → a ≡ b) → (xs ys : List X) → pointwise E xs ys ≡ true → xs ≡ ys
row_same only [] [] e = refl
row_same only [] (y ∷ ys) e = cc
row_same only (x ∷ xs) [] e = cc
row_same {E = E} only (x ∷ xs) (y ∷ ys) e =
    let both : (E x y ≡ true) × (pointwise E xs ys ≡ true) = both_pass (E x y) (pointwise E xs ys) e in
    let head : x ≡ y = only x y both.0 in
    let tail : xs ≡ ys = row_same only xs ys both.1 in
    cc

pub text_same : (xs ys : List ℕ) → pointwise nat_eq xs ys ≡ true → xs ≡ ys
text_same xs ys e = (bytes_decides xs ys).0 e

pub act_same : (a b : ActId) → act_eq.it a b ≡ true → a ≡ b
act_same a b e = search rules

pub signal_same : (a b : SignalId) → signal_eq.it a b ≡ true → a ≡ b
signal_same a b e = search rules

pub trans_same : (a b : TransId) → trans_eq.it a b ≡ true → a ≡ b
trans_same a b e = search rules

pub owner_same : (a b : Owner) → owner_eq.it a b ≡ true → a ≡ b
owner_same a b e = search rules

route_of : List TransId → List TransId → Route
route_of starts rest = record { starts = starts; rest = rest }

pub route_same : (a b : Route) → route_eq.it a b ≡ true → a ≡ b
unfolding route_of
route_same a b e =
    let both : (pointwise trans_eq.it a.starts b.starts ≡ true) × (pointwise trans_eq.it a.rest b.rest ≡ true) = both_pass _ _ e in
    ap (λ x. route_of x a.rest) (row_same trans_same a.starts b.starts both.0) ∙ ap (λ x. route_of b.starts x) (row_same trans_same a.rest b.rest both.1)

firing_of : List Route → Firing
firing_of routes = record { routes = routes }

pub firing_same : (a b : Firing) → firing_eq.it a b ≡ true → a ≡ b
unfolding firing_of
firing_same a b e = ap firing_of (row_same route_same a.routes b.routes e)

pub how_same : (a b : How) → how_eq.it a b ≡ true → a ≡ b
how_same (By r) (By q) e = ap (λ x. By x) (route_same r q e)
how_same (Restore r) (Restore q) e = search rules
how_same Nothing Nothing e = refl
how_same a b e = cc

pub vertex_kind_same : (a b : VertexKind) → vertex_kind_eq.it a b ≡ true → a ≡ b
vertex_kind_same a b e = search rules

pub trans_kind_same : (a b : TransKind) → trans_kind_eq.it a b ≡ true → a ≡ b
trans_kind_same a b e = search rules

pub guard_same : (a b : Guard) → guard_eq.it a b ≡ true → a ≡ b
guard_same a b e = search rules

pub vertex_id_same : (a b : VertexId) → vertex_id_eq.it a b ≡ true → a ≡ b
vertex_id_same a b e = search rules

vertex_of : Owner → VertexKind → List ℕ → ActId → ActId → List ActId → List SignalId → Vertex
vertex_of owner kind label entry exit steps defers =
    record { owner = owner; kind = kind; label = label; entry = entry; exit = exit; steps = steps; defers = defers }

vertex_of_same : (a b : Vertex) → a.owner ≡ b.owner → a.kind ≡ b.kind → a.label ≡ b.label → a.entry ≡ b.entry → a.exit ≡ b.exit
    → a.steps ≡ b.steps → a.defers ≡ b.defers
    → vertex_of a.owner a.kind a.label a.entry a.exit a.steps a.defers ≡ vertex_of b.owner b.kind b.label b.entry b.exit b.steps b.defers
vertex_of_same a b owner kind label entry exit steps defers = cc

pub vertex_same : (a b : Vertex) → vertex_eq.it a b ≡ true → a ≡ b
unfolding vertex_of
vertex_same a b e =
    let owner = both_pass _ _ e in
    let kind = both_pass _ _ owner.1 in
    let label = both_pass _ _ kind.1 in
    let entry = both_pass _ _ label.1 in
    let exit = both_pass _ _ entry.1 in
    let rows = both_pass _ _ exit.1 in
    vertex_of_same a b (owner_same a.owner b.owner owner.0) (vertex_kind_same a.kind b.kind kind.0) (text_same a.label b.label label.0)
    (act_same a.entry b.entry entry.0) (act_same a.exit b.exit exit.0) (row_same act_same a.steps b.steps rows.0)
    (row_same signal_same a.defers b.defers rows.1)

transition_of : VertexId → VertexId → TransKind → List SignalId → Guard → ActId → Transition
transition_of source target kind triggers guard effect =
    record { source = source; target = target; kind = kind; triggers = triggers; guard = guard; effect = effect }

transition_of_same : (a b : Transition) → a.source ≡ b.source → a.target ≡ b.target → a.kind ≡ b.kind → a.triggers ≡ b.triggers → a.guard ≡ b.guard
    → a.effect ≡ b.effect
    → transition_of a.source a.target a.kind a.triggers a.guard a.effect ≡ transition_of b.source b.target b.kind b.triggers b.guard b.effect
transition_of_same a b source target kind triggers guard effect = cc

pub transition_same : (a b : Transition) → transition_eq.it a b ≡ true → a ≡ b
unfolding transition_of
transition_same a b e =
    let source = both_pass _ _ e in
    let target = both_pass _ _ source.1 in
    let kind = both_pass _ _ target.1 in
    let triggers = both_pass _ _ kind.1 in
    let last = both_pass _ _ triggers.1 in
    transition_of_same a b (vertex_id_same a.source b.source source.0) (vertex_id_same a.target b.target target.0) (trans_kind_same a.kind b.kind kind.0)
    (row_same signal_same a.triggers b.triggers triggers.0) (guard_same a.guard b.guard last.0) (act_same a.effect b.effect last.1)

draft_of : List Owner → List Vertex → List Transition → DraftMachine
draft_of regions vertices transitions = record { regions = regions; vertices = vertices; transitions = transitions }

draft_of_same : (a b : DraftMachine) → a.regions ≡ b.regions → a.vertices ≡ b.vertices → a.transitions ≡ b.transitions
    → draft_of a.regions a.vertices a.transitions ≡ draft_of b.regions b.vertices b.transitions
draft_of_same a b regions vertices transitions = cc

pub draft_same : (a b : DraftMachine) → draft_eq.it a b ≡ true → a ≡ b
unfolding draft_of
draft_same a b e =
    let regions = both_pass _ _ e in
    let rest = both_pass _ _ regions.1 in
    draft_of_same a b (row_same owner_same a.regions b.regions regions.0) (row_same vertex_same a.vertices b.vertices rest.0)
    (row_same transition_same a.transitions b.transitions rest.1)
