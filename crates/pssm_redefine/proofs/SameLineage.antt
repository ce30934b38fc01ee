-- What is known of a machine gives the same, whichever numbers are noted.
use Rattle.std.proofs.Common.{◌≡◌, ◌-◌, ℕ, List, [], ◌∷◌, length, map, Option, Some, None, refl, sym, ap, subst, ◌∙◌, arith, slice_get, option_and_then}
use Rattle.std.specs.Prelude.{option_map}
use Rattle.std.specs.List.{filter_map}
use Rattle.std.proofs.lemmas.List.{ext_get_or}
use Rattle.pssm_model.specs.declared.ids.VertexId.{VertexId}
use Rattle.pssm_model.specs.declared.ids.RegionId.{RegionId}
use Rattle.pssm_model.specs.declared.elements.Owner.{Owner}
use Rattle.pssm_model.specs.declared.elements.Owner.TheVariants as owners
use Rattle.pssm_model.specs.declared.draft_setting.ElementRef.{ElementRef}
use Rattle.pssm_model.specs.declared.draft_setting.Draft.{Draft}
use Rattle.pssm_model.specs.declared.draft_setting.PartRegion.{PartRegion}
use Rattle.pssm_model.specs.declared.draft_setting.PartVertex.{PartVertex}
use Rattle.pssm_model.specs.declared.draft_setting.PartTransition.{PartTransition}
use Rattle.pssm_model.specs.declared.draft_setting.End.{End}
use Rattle.pssm_model.specs.declared.draft_setting.End.TheVariants as ends
use Rattle.pssm_model.specs.DraftSettings.{region_of, vertex_of, transition_of}
use Rattle.pssm_heritage.specs.declared.kinds.ElementKind.{ElementKind}
use Rattle.pssm_heritage.specs.declared.kinds.ElementKind.TheVariants as kinds
use Rattle.pssm_heritage.specs.Becoming.{Became}
use Rattle.pssm_heritage.specs.Numbers.{own_elements, IsSiftedBy}
use Rattle.pssm_heritage.specs.Heritages.{Numbering, number_in, AreNumbersOf, Lineage, IsLineage}
use Rattle.pssm_heritage.proofs.OneLaws.{same_chain, same_form}
use Rattle.pssm_redefine.specs.declared.groups.Numbered.{Numbered}
use Rattle.pssm_redefine.specs.declared.parts.Ends.{Ends}
use Rattle.pssm_redefine.specs.declared.parts.Gathered.{Gathered}
use Rattle.pssm_redefine.specs.Groups.{AreGroups}
use Rattle.pssm_redefine.specs.Gathering.{number_or_none, owner_in, region_owner, vertex_owner, no_vertex, end_in, ends_in, with_number, numbered_of, IsGathered}
use Rattle.pssm_redefine.proofs.SameLists.{map_same, flat_same, filter_same, option_same}

-- ---- numbers

sift_same : (P : ElementRef → Type 0) {es l k : List ElementRef} → IsSiftedBy P es l → IsSiftedBy P es k → l ≡ k
sift_same P IsSiftedBy.nothing IsSiftedBy.nothing = refl
sift_same P (IsSiftedBy.taken {e = e} p more) (IsSiftedBy.taken q rest) = ap (λ xs. e ∷ xs) (sift_same P more rest)
sift_same P (IsSiftedBy.taken p more) (IsSiftedBy.passed n rest) = absurd (n p)
sift_same P (IsSiftedBy.passed n more) (IsSiftedBy.taken q rest) = absurd (n q)
sift_same P (IsSiftedBy.passed n more) (IsSiftedBy.passed o rest) = sift_same P more rest

module _ (draft : Draft) (m : ℕ) (machines : List ℕ) (kind : ElementKind) (a b : Numbering) (h : AreNumbersOf draft m machines kind a) (g : AreNumbersOf draft m machines kind b) where
  firsts_same : a.firsts ≡ b.firsts
  firsts_same = sift_same (λ e. Became draft kind e e) h.order g.order

  number_same : (e : ElementRef) → number_in a e ≡ number_in b e
  number_same e = split (number_in a e) (number_in b e) refl refl
    where
      split : (o p : Option ℕ) → number_in a e ≡ o → number_in b e ≡ p → o ≡ p
      split None None i j = refl
      split (Some n) None i j = let s = h.sound e n i in let t = g.all e s.1 s.0 in let at = t.1 in absurd (cc)
      split None (Some k) i j = let t = g.sound e k j in let s = h.all e t.1 t.0 in let at = s.1 in absurd (cc)
      split (Some n) (Some k) i j =
          let s = h.sound e n i in
          let t = g.sound e k j in
          let form : t.2.0 ≡ s.2.0 = same_form t.2.2 s.2.2 in
          let one = h.single n s.2.0 s.2.1 in
          let other = h.single k t.2.0 (subst (λ fs. slice_get fs k ≡ Some t.2.0) (sym firsts_same) t.2.1) in
          sym one ∙ ap (number_in a) (sym form) ∙ other

-- ---- where elements stand

module _ (a b : Lineage) (regions : (e : ElementRef) → number_in a.regions e ≡ number_in b.regions e) (vertices : (e : ElementRef) → number_in a.vertices e ≡ number_in b.vertices e) where
  owner_same : (m : ℕ) (owner : Owner) → owner_in a m owner ≡ owner_in b m owner
  owner_same m owners.Top = refl
  owner_same m (owners.Region r) =
      ap (λ o. let id : RegionId = record { 0 = number_or_none o } in owners.Region id) (regions (record { machine = m; element = r.0 }))
  owner_same m (owners.State v) =
      ap (λ o. let id : VertexId = record { 0 = number_or_none o } in owners.State id) (vertices (record { machine = m; element = v.0 }))

  end_same : (end : End) → end_in a end ≡ end_in b end
  end_same (ends.Vertex ref) = ap (λ o. let id : VertexId = record { 0 = number_or_none o } in id) (vertices ref)
  end_same (ends.Connection of_state index) = refl

  ends_same : (draft : Draft) (forms : List ElementRef) → ends_in draft a forms ≡ ends_in draft b forms
  ends_same draft forms =
      let first = option_same (λ (t : PartTransition). end_in a t.source) (λ (t : PartTransition). end_in b t.source) (option_and_then (transition_of draft) (slice_get forms 0)) no_vertex
      (λ t. end_same t.source) in
      let last = option_same (λ (t : PartTransition). end_in a t.target) (λ (t : PartTransition). end_in b t.target)
      (option_and_then (transition_of draft) (slice_get forms (length forms - 1))) no_vertex (λ t. end_same t.target) in
      ap (λ s. let e : Ends = record { source = s; target = (ends_in draft a forms).target } in e) first
      ∙ ap (λ t. let e : Ends = record { source = (ends_in draft b forms).source; target = t } in e) last

numbered_same : (draft : Draft) (kind : ElementKind) (a b : Numbering) (machines : List ℕ) → ((e : ElementRef) → number_in a e ≡ number_in b e)
    → numbered_of draft kind a machines ≡ numbered_of draft kind b machines
numbered_same draft kind a b machines h =
    flat_same (λ m. filter_map (with_number a) (own_elements draft kind m)) (λ m. filter_map (with_number b) (own_elements draft kind m)) machines
    (λ m. filter_same (with_number a) (with_number b) (own_elements draft kind m)
    (λ e. ap (λ o. option_map (λ n. let one : Numbered = record { element = e; number = n } in one) o) (h e)))

groups_same : (count : ℕ) (numbered : List Numbered) (g h : List (List ElementRef)) → AreGroups count numbered g → AreGroups count numbered h → g ≡ h
groups_same count numbered g h p q =
    ext_get_or [] g h (p.all ∙ sym q.all) (λ i lt. let all = p.all in p.forms i (omega arith) ∙ sym (q.forms i (omega arith)))

-- ---- the whole

abbrev gathered_from : List ℕ → List Owner → List Owner → List (List ElementRef) → List Ends → List (List ElementRef) → Gathered
gathered_from m r o v e t = record { machines = m; regions = r; owners = o; vertices = v; ends = e; transitions = t }

pub gathered_same : (draft : Draft) (m : ℕ) (a b : Lineage) (g h : Gathered) → IsLineage draft m a → IsLineage draft m b → IsGathered draft a g → IsGathered draft b h → g ≡ h
gathered_same draft m a b g h known again p q =
    let chain : a.machines ≡ b.machines = same_chain known.chain again.chain in
    let vertices_of : AreNumbersOf draft m b.machines kinds.Vertex a.vertices = subst (λ ms. AreNumbersOf draft m ms kinds.Vertex a.vertices) chain known.vertices in
    let regions_of : AreNumbersOf draft m b.machines kinds.Region a.regions = subst (λ ms. AreNumbersOf draft m ms kinds.Region a.regions) chain known.regions in
    let transitions_of : AreNumbersOf draft m b.machines kinds.Transition a.transitions = subst (λ ms. AreNumbersOf draft m ms kinds.Transition a.transitions) chain known.transitions in
    let rn = number_same draft m b.machines kinds.Region a.regions b.regions regions_of again.regions in
    let vn = number_same draft m b.machines kinds.Vertex a.vertices b.vertices vertices_of again.vertices in
    let tn = number_same draft m b.machines kinds.Transition a.transitions b.transitions transitions_of again.transitions in
    let rf = firsts_same draft m b.machines kinds.Region a.regions b.regions regions_of again.regions in
    let vf = firsts_same draft m b.machines kinds.Vertex a.vertices b.vertices vertices_of again.vertices in
    let tf = firsts_same draft m b.machines kinds.Transition a.transitions b.transitions transitions_of again.transitions in
    let machines : g.machines ≡ h.machines = p.machines ∙ chain ∙ sym q.machines in
    let regions : g.regions ≡ h.regions =
    p.regions ∙ map_same (region_owner draft a) (region_owner draft b) a.regions.firsts
    (λ e. option_same (λ (r : PartRegion). owner_in a e.machine r.owner) (λ (r : PartRegion). owner_in b e.machine r.owner) (region_of draft e) owners.Top
    (λ r. owner_same a b rn vn e.machine r.owner)) ∙ ap (map (region_owner draft b)) rf ∙ sym q.regions in
    let own : g.owners ≡ h.owners =
    p.owners ∙ map_same (vertex_owner draft a) (vertex_owner draft b) a.vertices.firsts
    (λ e. option_same (λ (v : PartVertex). owner_in a e.machine v.owner) (λ (v : PartVertex). owner_in b e.machine v.owner) (vertex_of draft e) owners.Top
    (λ v. owner_same a b rn vn e.machine v.owner)) ∙ ap (map (vertex_owner draft b)) vf ∙ sym q.owners in
    let vertices : g.vertices ≡ h.vertices =
    groups_same (length b.vertices.firsts) (numbered_of draft kinds.Vertex b.vertices b.machines) g.vertices h.vertices
    (subst (λ fs. AreGroups (length fs) (numbered_of draft kinds.Vertex b.vertices b.machines) g.vertices) vf
    (subst (λ ns. AreGroups (length a.vertices.firsts) ns g.vertices)
    (ap (numbered_of draft kinds.Vertex a.vertices) chain ∙ numbered_same draft kinds.Vertex a.vertices b.vertices b.machines vn) p.vertices)) q.vertices in
    let transitions : g.transitions ≡ h.transitions =
    groups_same (length b.transitions.firsts) (numbered_of draft kinds.Transition b.transitions b.machines) g.transitions h.transitions
    (subst (λ fs. AreGroups (length fs) (numbered_of draft kinds.Transition b.transitions b.machines) g.transitions) tf
    (subst (λ ns. AreGroups (length a.transitions.firsts) ns g.transitions)
    (ap (numbered_of draft kinds.Transition a.transitions) chain ∙ numbered_same draft kinds.Transition a.transitions b.transitions b.machines tn) p.transitions)) q.transitions in
    let ends : g.ends ≡ h.ends =
    p.ends ∙ map_same (ends_in draft a) (ends_in draft b) g.transitions (ends_same a b rn vn draft) ∙ ap (map (ends_in draft b)) transitions ∙ sym q.ends in
    ap (λ x. gathered_from x g.regions g.owners g.vertices g.ends g.transitions) machines
    ∙ ap (λ x. gathered_from h.machines x g.owners g.vertices g.ends g.transitions) regions
    ∙ ap (λ x. gathered_from h.machines h.regions x g.vertices g.ends g.transitions) own
    ∙ ap (λ x. gathered_from h.machines h.regions h.owners x g.ends g.transitions) vertices
    ∙ ap (λ x. gathered_from h.machines h.regions h.owners h.vertices x g.transitions) ends
    ∙ ap (λ x. gathered_from h.machines h.regions h.owners h.vertices h.ends x) transitions
