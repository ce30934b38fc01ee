-- A class has one flat draft.
use Rattle.std.proofs.Common.{◌≡◌, ◌+◌, ◌*◌, ℕ, List, [], length, get_or, sym, ap, subst, ◌∙◌, arith}
use Rattle.std.proofs.lemmas.List.{ext_get_or}
use Rattle.std.proofs.lemmas.List.Sorted.{sum_by-IsPermutation}
use Rattle.std.proofs.lemmas.Option.{slice_get-get_or}
use Rattle.pssm_model.specs.declared.ids.ActId.{ActId}
use Rattle.pssm_model.specs.declared.ids.SignalId.{SignalId}
use Rattle.pssm_model.specs.declared.ids.VertexId.{VertexId}
use Rattle.pssm_model.specs.declared.elements.Owner.{Owner}
use Rattle.pssm_model.specs.declared.elements.Owner.TheVariants as owners
use Rattle.pssm_model.specs.declared.elements.Guard.{Guard}
use Rattle.pssm_model.specs.declared.elements.Guard.TheVariants.{Always}
use Rattle.pssm_model.specs.declared.elements.Vertex.{Vertex}
use Rattle.pssm_model.specs.declared.elements.VertexKind.{VertexKind}
use Rattle.pssm_model.specs.declared.elements.VertexKind.TheVariants as kinds
use Rattle.pssm_model.specs.declared.elements.Transition.{Transition}
use Rattle.pssm_model.specs.declared.elements.TransKind.{TransKind}
use Rattle.pssm_model.specs.declared.elements.TransKind.TheVariants.{External}
use Rattle.pssm_model.specs.declared.elements.DraftMachine.{DraftMachine}
use Rattle.pssm_model.specs.declared.draft_setting.Body.{Body}
use Rattle.pssm_model.specs.declared.draft_setting.ElementRef.{ElementRef}
use Rattle.pssm_model.specs.declared.draft_setting.Draft.{Draft}
use Rattle.pssm_model.specs.declared.draft_setting.DraftClass.{DraftClass}
use Rattle.pssm_model.specs.declared.draft_setting.DraftVar.{DraftVar}
use Rattle.pssm_model.specs.declared.draft_setting.FlatDraft.{FlatDraft}
use Rattle.pssm_redefine.specs.declared.parts.Ends.{Ends}
use Rattle.pssm_redefine.specs.declared.parts.Gathered.{Gathered}
use Rattle.pssm_redefine.specs.Bodies.{places_from, number_from, AreBodies}
use Rattle.pssm_redefine.specs.Merging.{AreUnited, IsMergedVertex, IsMergedTransition, AreMergedVertices, AreMergedTransitions, IsMergedMachine, IsMerged, slots_of}
use Rattle.pssm_redefine.specs.Gathering.{IsFlattened}
use Rattle.pssm_redefine.specs.Flattening.{Flattens}
use Rattle.pssm_redefine.proofs.FlatLaws.{owners_all, ends_all}
use Rattle.pssm_redefine.proofs.SameLists.{somes_same, ascending_same, order_same}
use Rattle.pssm_redefine.proofs.SameLineage.{gathered_same}

united_same : (all xs ys : List SignalId) → AreUnited all xs → AreUnited all ys → xs ≡ ys
united_same all xs ys h g = ascending_same xs ys h.ascending g.ascending (λ s on. (g.same s).1 ((h.same s).0 on)) (λ s on. (h.same s).1 ((g.same s).0 on))

abbrev vertex_from : Owner → VertexKind → List ℕ → ActId → ActId → List ActId → List SignalId → Vertex
vertex_from o k l n x s d = record { owner = o; kind = k; label = l; entry = n; exit = x; steps = s; defers = d }

vertex_same : (draft : Draft) (owner : Owner) (entry exit steps : ℕ) (forms : List ElementRef) (v w : Vertex) → IsMergedVertex draft owner entry exit steps forms v
    → IsMergedVertex draft owner entry exit steps forms w → v ≡ w
vertex_same draft owner entry exit steps forms v w h g =
    ap (λ x. vertex_from x v.kind v.label v.entry v.exit v.steps v.defers) (h.owned ∙ sym g.owned)
    ∙ ap (λ x. vertex_from w.owner x v.label v.entry v.exit v.steps v.defers) (h.kind ∙ sym g.kind)
    ∙ ap (λ x. vertex_from w.owner w.kind x v.entry v.exit v.steps v.defers) (h.label ∙ sym g.label)
    ∙ ap (λ x. vertex_from w.owner w.kind w.label x v.exit v.steps v.defers) (h.on_entry ∙ sym g.on_entry)
    ∙ ap (λ x. vertex_from w.owner w.kind w.label w.entry x v.steps v.defers) (h.on_exit ∙ sym g.on_exit)
    ∙ ap (λ x. vertex_from w.owner w.kind w.label w.entry w.exit x v.defers) (h.doing ∙ sym g.doing)
    ∙ ap (λ x. vertex_from w.owner w.kind w.label w.entry w.exit w.steps x) (united_same _ v.defers w.defers h.defers g.defers)

abbrev transition_from : VertexId → VertexId → TransKind → List SignalId → Guard → ActId → Transition
transition_from s t k r g e = record { source = s; target = t; kind = k; triggers = r; guard = g; effect = e }

transition_same : (draft : Draft) (ends : Ends) (guard effect : ℕ) (forms : List ElementRef) (t u : Transition) → IsMergedTransition draft ends guard effect forms t
    → IsMergedTransition draft ends guard effect forms u → t ≡ u
transition_same draft ends guard effect forms t u h g =
    ap (λ x. transition_from x t.target t.kind t.triggers t.guard t.effect) (h.source ∙ sym g.source)
    ∙ ap (λ x. transition_from u.source x t.kind t.triggers t.guard t.effect) (h.target ∙ sym g.target)
    ∙ ap (λ x. transition_from u.source u.target x t.triggers t.guard t.effect) (h.kind ∙ sym g.kind)
    ∙ ap (λ x. transition_from u.source u.target u.kind x t.guard t.effect) (h.triggers ∙ sym g.triggers)
    ∙ ap (λ x. transition_from u.source u.target u.kind u.triggers x t.effect) (h.when ∙ sym g.when)
    ∙ ap (λ x. transition_from u.source u.target u.kind u.triggers u.guard x) (h.doing ∙ sym g.doing)

abbrev no_act : ActId
no_act = record { 0 = 0 }

abbrev some_vertex : VertexId
some_vertex = record { 0 = 0 }

abbrev some_ends : Ends
some_ends = record { source = some_vertex; target = some_vertex }

vertices_same : (draft : Draft) (number : ℕ → ℕ) (own : List Owner) (forms : List (List ElementRef)) (v w : List Vertex) → length own ≡ length forms
    → AreMergedVertices draft number own forms v → AreMergedVertices draft number own forms w → v ≡ w
vertices_same draft number own forms v w all h g =
    ext_get_or d v w (h.all ∙ sym g.all)
    (λ i lt.
    let a = h.all in
    let b = g.all in
    vertex_same draft (get_or own i owners.Top) (number (3 * i)) (number (3 * i + 1)) (number (3 * i + 2)) (get_or forms i []) (get_or v i d) (get_or w i d)
    (h.each i (get_or own i owners.Top) (get_or forms i []) (get_or v i d) (slice_get-get_or own i owners.Top (omega arith)) (slice_get-get_or forms i [] (omega arith))
    (slice_get-get_or v i d lt))
    (g.each i (get_or own i owners.Top) (get_or forms i []) (get_or w i d) (slice_get-get_or own i owners.Top (omega arith)) (slice_get-get_or forms i [] (omega arith))
    (slice_get-get_or w i d (omega arith))))
  where
    d : Vertex
    d = vertex_from owners.Top kinds.State [] no_act no_act [] []

transitions_same : (draft : Draft) (number : ℕ → ℕ) (base : ℕ) (ends : List Ends) (forms : List (List ElementRef)) (t u : List Transition) → length ends ≡ length forms
    → AreMergedTransitions draft number base ends forms t → AreMergedTransitions draft number base ends forms u → t ≡ u
transitions_same draft number base ends forms t u all h g =
    ext_get_or d t u (h.all ∙ sym g.all)
    (λ i lt.
    let a = h.all in
    let b = g.all in
    transition_same draft (get_or ends i some_ends) (number (base + 2 * i)) (number (base + 2 * i + 1)) (get_or forms i []) (get_or t i d) (get_or u i d)
    (h.each i (get_or ends i some_ends) (get_or forms i []) (get_or t i d) (slice_get-get_or ends i some_ends (omega arith)) (slice_get-get_or forms i [] (omega arith))
    (slice_get-get_or t i d lt))
    (g.each i (get_or ends i some_ends) (get_or forms i []) (get_or u i d) (slice_get-get_or ends i some_ends (omega arith)) (slice_get-get_or forms i [] (omega arith))
    (slice_get-get_or u i d (omega arith))))
  where
    d : Transition
    d = transition_from some_vertex some_vertex External [] Always no_act

abbrev machine_from : List Owner → List Vertex → List Transition → DraftMachine
machine_from r v t = record { regions = r; vertices = v; transitions = t }

machine_same : (draft : Draft) (number : ℕ → ℕ) (from : Gathered) (m n : DraftMachine) → length from.owners ≡ length from.vertices → length from.ends ≡ length from.transitions
    → IsMergedMachine draft number from m → IsMergedMachine draft number from n → m ≡ n
machine_same draft number from m n own ends h g =
    ap (λ x. machine_from x m.vertices m.transitions) (h.regions ∙ sym g.regions)
    ∙ ap (λ x. machine_from n.regions x m.transitions) (vertices_same draft number from.owners from.vertices m.vertices n.vertices own h.vertices g.vertices)
    ∙ ap (λ x. machine_from n.regions n.vertices x)
    (transitions_same draft number (3 * length from.vertices) from.ends from.transitions m.transitions n.transitions ends h.transitions g.transitions)

abbrev flat_from : List DraftVar → DraftMachine → List Body → FlatDraft
flat_from v m b = record { vars = v; machine = m; bodies = b }

merged_same : (draft : Draft) (class : DraftClass) (from : Gathered) (f g : FlatDraft) → length from.owners ≡ length from.vertices → length from.ends ≡ length from.transitions
    → IsMerged draft class from f → IsMerged draft class from g → f ≡ g
merged_same draft class from f g own ends h k =
    let order : k.order ≡ h.order = order_same k.order h.order k.ordered.ascending h.ordered.ascending
    (λ w. sum_by-IsPermutation w (places_from 0 (slots_of draft from.vertices from.transitions)) k.order k.ordered.same
    ∙ sym (sum_by-IsPermutation w (places_from 0 (slots_of draft from.vertices from.transitions)) h.order h.ordered.same)) in
    let machine = machine_same draft (number_from 1 h.order) from f.machine g.machine own ends h.machine
    (subst (λ o. IsMergedMachine draft (number_from 1 o) from g.machine) order k.machine) in
    let bodies = somes_same f.bodies g.bodies
    (h.bodies ∙ sym (subst (λ o. AreBodies (slots_of draft from.vertices from.transitions) o g.bodies) order k.bodies)) in
    ap (λ x. flat_from x f.machine f.bodies) (h.vars ∙ sym k.vars) ∙ ap (λ x. flat_from g.vars x f.bodies) machine ∙ ap (λ x. flat_from g.vars g.machine x) bodies

flattened_same : (draft : Draft) (class : DraftClass) (f g : FlatDraft) → IsFlattened draft class f → IsFlattened draft class g → f ≡ g
flattened_same draft class f g h k =
    let from = gathered_same draft class.machine k.lineage h.lineage k.gathered h.gathered k.inherits h.inherits k.gathers h.gathers in
    merged_same draft class h.gathered f g (owners_all draft h.lineage h.gathered h.gathers) (ends_all draft h.lineage h.gathered h.gathers) h.merged
    (subst (λ x. IsMerged draft class x g) from k.merged)

pub one_flat : (draft : Draft) (class : ℕ) (f g : FlatDraft) → Flattens draft class f → Flattens draft class g → f ≡ g
one_flat draft class f g h k =
    let is = h.is in
    let was = k.is in
    let same : k.of ≡ h.of = cc in
    flattened_same draft h.of f g h.flattened (subst (λ (c : DraftClass). IsFlattened draft c g) same k.flattened)
