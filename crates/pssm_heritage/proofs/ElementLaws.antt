-- Elements of drafts: what they redefine is there, and they are few.
use Rattle.std.proofs.Common.{◌≡◌, ◌<◌, ◌≤◌, ℕ, [], ◌∷◌, length, Option, Some, None, refl, ap, subst, arith, IfSome, slice_get, option_and_then, ◌∙◌, sym, get_or}
use Rattle.std.proofs.lemmas.Option.{slice_get_within, slice_get_read}
use Rattle.std.specs.Option.{option_map_or}
use Rattle.pssm_model.specs.declared.draft_setting.ElementRef.{ElementRef}
use Rattle.pssm_model.specs.declared.draft_setting.Draft.{Draft}
use Rattle.pssm_model.specs.declared.draft_setting.DraftParts.{DraftParts}
use Rattle.pssm_model.specs.declared.draft_setting.PartRegion.{PartRegion}
use Rattle.pssm_model.specs.declared.draft_setting.PartVertex.{PartVertex}
use Rattle.pssm_model.specs.declared.draft_setting.PartTransition.{PartTransition}
use Rattle.pssm_model.specs.DraftSettings.{region_of, vertex_of, transition_of, IsRegionRef, IsVertexRef, IsTransitionRef, IsInRange, PartsInRange, RegionInRange, VertexInRange, TransitionInRange}
use Rattle.pssm_model.specs.DraftSettings.IsOrExtends.{itself}
use Rattle.pssm_heritage.specs.declared.kinds.ElementKind.{ElementKind}
use Rattle.pssm_heritage.specs.declared.kinds.ElementKind.TheVariants.{Region, Vertex, Transition}
use Rattle.pssm_heritage.specs.Elements.{count_in, IsElement, redefined}
use Rattle.pssm_heritage.specs.inner.Tables.{own_count}
use Rattle.pssm_heritage.proofs.WalkLaws.{all_at}

-- both parts of a chain of questions
pub both : {X Y : Type 0} (f : X → Option Y) (o : Option X) (y : Y) → option_and_then f o ≡ Some y → (x : X) × (o ≡ Some x) × (f x ≡ Some y)
both f None y e = absurd (cc)
both f (Some x) y e = (x, refl, e)

pub ref_eq : (a b : ElementRef) → a.machine ≡ b.machine → a.element ≡ b.element → a ≡ b
ref_eq a b e f = ap (λ m. let r : ElementRef = record { machine = m; element = a.element } in r) e ∙ ap (λ n. let r : ElementRef = record { machine = b.machine; element = n } in r) f

pub region_is_element : (draft : Draft) (e : ElementRef) (r : PartRegion) → region_of draft e ≡ Some r → IsElement draft Region e
region_is_element draft e r is =
    let p = both (λ (p : DraftParts). slice_get p.regions e.element) (slice_get draft.machines e.machine) r is in
    (p.0, p.1, slice_get_within p.0.regions e.element r p.2)

pub vertex_is_element : (draft : Draft) (e : ElementRef) (v : PartVertex) → vertex_of draft e ≡ Some v → IsElement draft Vertex e
vertex_is_element draft e v is =
    let p = both (λ (p : DraftParts). slice_get p.vertices e.element) (slice_get draft.machines e.machine) v is in
    (p.0, p.1, slice_get_within p.0.vertices e.element v p.2)

pub transition_is_element : (draft : Draft) (e : ElementRef) (t : PartTransition) → transition_of draft e ≡ Some t → IsElement draft Transition e
transition_is_element draft e t is =
    let p = both (λ (p : DraftParts). slice_get p.transitions e.element) (slice_get draft.machines e.machine) t is in
    (p.0, p.1, slice_get_within p.0.transitions e.element t p.2)

pub region_in_range : (draft : Draft) (e : ElementRef) (r : PartRegion) → IsInRange draft → region_of draft e ≡ Some r
    → (parts : DraftParts) × (slice_get draft.machines e.machine ≡ Some parts) × RegionInRange draft parts r
region_in_range draft e r range is =
    let p = both (λ (p : DraftParts). slice_get p.regions e.element) (slice_get draft.machines e.machine) r is in
    let parts = all_at (PartsInRange draft) draft.machines e.machine p.0 range.machines p.1 in
    (p.0, p.1, all_at (RegionInRange draft p.0) p.0.regions e.element r parts.regions p.2)

pub vertex_in_range : (draft : Draft) (e : ElementRef) (v : PartVertex) → IsInRange draft → vertex_of draft e ≡ Some v
    → (parts : DraftParts) × (slice_get draft.machines e.machine ≡ Some parts) × VertexInRange draft parts v
vertex_in_range draft e v range is =
    let p = both (λ (p : DraftParts). slice_get p.vertices e.element) (slice_get draft.machines e.machine) v is in
    let parts = all_at (PartsInRange draft) draft.machines e.machine p.0 range.machines p.1 in
    (p.0, p.1, all_at (VertexInRange draft p.0) p.0.vertices e.element v parts.vertices p.2)

pub transition_in_range : (draft : Draft) (e : ElementRef) (t : PartTransition) → IsInRange draft → transition_of draft e ≡ Some t → TransitionInRange draft t
transition_in_range draft e t range is =
    let p = both (λ (p : DraftParts). slice_get p.transitions e.element) (slice_get draft.machines e.machine) t is in
    let parts = all_at (PartsInRange draft) draft.machines e.machine p.0 range.machines p.1 in
    all_at (TransitionInRange draft) p.0.transitions e.element t parts.transitions p.2

-- what is redefined is there
pub redefined_is_element : (draft : Draft) (kind : ElementKind) (e f : ElementRef) → IsInRange draft → redefined draft kind e ≡ Some f → IsElement draft kind f
redefined_is_element draft Region e f range h =
    let r = both (λ (r : PartRegion). r.extends) (region_of draft e) f h in
    let fact = region_in_range draft e r.0 range r.1 in
    let is = subst (λ o. IfSome o (IsRegionRef draft)) r.2 fact.2.extends in
    region_is_element draft f is.0 is.1
redefined_is_element draft Vertex e f range h =
    let v = both (λ (v : PartVertex). v.redefines) (vertex_of draft e) f h in
    let fact = vertex_in_range draft e v.0 range v.1 in
    let is = subst (λ o. IfSome o (IsVertexRef draft)) v.2 fact.2.redefines in
    vertex_is_element draft f is.0 is.1
redefined_is_element draft Transition e f range h =
    let t = both (λ (t : PartTransition). t.redefines) (transition_of draft e) f h in
    let fact = transition_in_range draft e t.0 range t.1 in
    let is = subst (λ o. IfSome o (IsTransitionRef draft)) t.2 fact.redefines in
    transition_is_element draft f is.0 is.1

-- what redefines is there
pub redefining_is_element : (draft : Draft) (kind : ElementKind) (e f : ElementRef) → redefined draft kind e ≡ Some f → IsElement draft kind e
redefining_is_element draft Region e f h = let r = both (λ (r : PartRegion). r.extends) (region_of draft e) f h in region_is_element draft e r.0 r.1
redefining_is_element draft Vertex e f h = let v = both (λ (v : PartVertex). v.redefines) (vertex_of draft e) f h in vertex_is_element draft e v.0 v.1
redefining_is_element draft Transition e f h =
    let t = both (λ (t : PartTransition). t.redefines) (transition_of draft e) f h in
    transition_is_element draft e t.0 t.1

-- a machine has few elements
pub count_is_small : (draft : Draft) (kind : ElementKind) (m : ℕ) (parts : DraftParts) → IsInRange draft → m < length draft.machines
    → slice_get draft.machines m ≡ Some parts → count_in kind parts ≤ 65535
count_is_small draft Region m parts range lt is =
    let few = (range.small m lt).regions (m ∷ []) (parts ∷ []) (λ i j d less more e. absurd (omega arith)) (itself, tt) (is, tt) in
    omega arith
count_is_small draft Vertex m parts range lt is =
    let few = (range.small m lt).vertices (m ∷ []) (parts ∷ []) (λ i j d less more e. absurd (omega arith)) (itself, tt) (is, tt) in
    omega arith
count_is_small draft Transition m parts range lt is =
    let few = (range.small m lt).transitions (m ∷ []) (parts ∷ []) (λ i j d less more e. absurd (omega arith)) (itself, tt) (is, tt) in
    omega arith

pub counted_parts : (draft : Draft) (kind : ElementKind) (m n : ℕ) (parts : DraftParts) → m < length draft.machines → parts ≡ get_or draft.machines m parts
    → n ≡ count_in kind parts → n ≡ own_count draft kind m
counted_parts draft kind m n parts lt is e =
    e ∙ ap (λ o. option_map_or (count_in kind) o 0) (sym (slice_get_read draft.machines (length draft.machines) m parts refl lt is))

pub count_fits : (draft : Draft) (kind : ElementKind) (m n : ℕ) (parts : DraftParts) → IsInRange draft → m < length draft.machines → parts ≡ get_or draft.machines m parts
    → n ≡ count_in kind parts → n ≤ 65535
count_fits draft kind m n parts range lt is e =
    let few = count_is_small draft kind m parts range lt (slice_get_read draft.machines (length draft.machines) m parts refl lt is) in
    omega arith

pub element_counted : (draft : Draft) (kind : ElementKind) (e : ElementRef) → IsElement draft kind e → e.element < own_count draft kind e.machine
element_counted draft kind e is = subst (λ o. e.element < option_map_or (count_in kind) o 0) (sym is.1) is.2

pub counted_is_element : (draft : Draft) (kind : ElementKind) (e : ElementRef) → e.element < own_count draft kind e.machine → IsElement draft kind e
counted_is_element draft kind e lt = split (slice_get draft.machines e.machine) refl lt
  where
    split : (o : Option DraftParts) → slice_get draft.machines e.machine ≡ o → e.element < option_map_or (count_in kind) o 0 → IsElement draft kind e
    split None is less = absurd (omega arith)
    split (Some parts) is less = (parts, is, less)
