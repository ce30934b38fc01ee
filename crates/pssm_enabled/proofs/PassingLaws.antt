-- Which vertices routes can pass: what one vertex more does to those that were found, and that all are found in the end.
use Rattle.std.proofs.Common.{◌≡◌, ◌⊎◌, ◌<◌, ◌≤◌, ◌+◌, ◌*◌, ◌↔◌, ◌∙◌, ℕ, zero, suc, List, [], ◌∷◌, ◌++◌, length, take, get_or, set, replicate, sum_by, cond, Bool, true, false, Contains, refl, sym, ap, subst, inl, inr, ⊎_elim, arith}
use Rattle.std.proofs.lemmas.Bool.{cases_Bool, cases_lt}
use Rattle.std.proofs.lemmas.List.{length-set, take_more_set, take-set-le, get_or-take, get_or-set_same, get_or-set_other, length-take-le}
use Rattle.std.proofs.lemmas.List.Sums.{sum_by-set, count_by-le-length}
use Rattle.std.proofs.lemmas.List.Folds.{sum_by-replicate}
use Rattle.std.proofs.lemmas.List.Elements.{Contains-append_left, Contains-push, Contains-push_cases, Contains-get_or}
use Rattle.std.proofs.lemmas.Option.{slice_get_within}
use Rattle.pssm_model.specs.declared.ids.VertexId.{VertexId}
use Rattle.pssm_model.specs.declared.ids.TransId.{TransId}
use Rattle.pssm_model.specs.declared.elements.DraftMachine.{DraftMachine}
use Rattle.pssm_model.specs.declared.elements.Transition.{Transition}
use Rattle.pssm_model.specs.declared.elements.Vertex.{Vertex}
use Rattle.pssm_model.specs.declared.elements.VertexKind.TheVariants as kinds
use Rattle.pssm_model.specs.Forest.{vertex_at, transition_at, HasKind}
use Rattle.pssm_model.specs.Legs.{Leaves, Enters}
use Rattle.pssm_model.specs.Routes.{Truth, IsTrueAt}
use Rattle.pssm_model.specs.Shapes.{HasShape}
use Rattle.pssm_model.proofs.ElementLaws.{same_vertex, leaves_one, enters_one, nothing_in_nil, some_at, mapped_at, mapped_some}
use Rattle.pssm_model_laws.proofs.KnownPlaces.{known_vertex_kind}
use Rattle.pssm_model_laws.proofs.Through.{kinds_clash, target_there}
use Rattle.pssm_enabled.specs.declared.passing.Points.{Points}
use Rattle.pssm_enabled.specs.inner.Fitting.{IsMarked}
use Rattle.pssm_enabled.specs.Ways.{IsPassedOver, HasWay}
use Rattle.pssm_enabled.specs.inner.Passing.{EndsWay, EndsOnMarked, AreAllGood, LeadsBack, found_by, IsFoundOnce, Grows, IsFurther, IsFurtherEnd, IsFurtherBack, HasEnds, AllLead, HasGoneBack}
use Rattle.pssm_enabled.specs.Ways.HasWay.{ends, over, all}
use Rattle.pssm_enabled.proofs.ListPlaces.{Below, below_none, below_next, below_all}
use Rattle.pssm_enabled.proofs.Members.{in_front, in_rest, front_or_rest}
use Rattle.pssm_enabled.proofs.Marks.{unmarked, mark_is, taken_cases}
use Rattle.pssm_enabled.proofs.Leaving.{leaving_is_there}

-- how many are marked
abbrev tally : List Bool → ℕ
tally marks = sum_by (λ b. cond b 1 0) marks

tally_most : (marks : List Bool) → tally marks ≤ length marks
tally_most marks = count_by-le-length (λ (b : Bool). b) marks

tally_none : (n : ℕ) → 0 ≡ tally (replicate n false)
tally_none n = let none : tally (replicate n false) ≡ n * 0 = sum_by-replicate (λ (b : Bool). cond {A = ℕ} b 1 0) n false in omega (arith, none)

free_is : (marks : List Bool) (n : ℕ) → (IsMarked marks n → ⊥) → get_or marks n false ≡ false
free_is marks n free = ⊎_elim (λ is. absurd (free is)) (λ fails. fails) (cases_Bool (get_or marks n false))

tally_set : (marks : List Bool) (n : ℕ) → n < length marks → (IsMarked marks n → ⊥) → tally (set marks n true) ≡ tally marks + 1
tally_set marks n lt free =
    let more : tally (set marks n true) + cond {A = ℕ} (get_or marks n false) 1 0 ≡ tally marks + 1 =
    sum_by-set (λ (b : Bool). cond {A = ℕ} b 1 0) marks n true false lt in
    let none : cond {A = ℕ} (get_or marks n false) 1 0 ≡ 0 = ap (λ (b : Bool). cond {A = ℕ} b 1 0) (free_is marks n free) in
    omega (arith, more, none)

tally_room : (marks : List Bool) (n : ℕ) → n < length marks → (IsMarked marks n → ⊥) → tally marks < length marks
tally_room marks n lt free =
    let more = tally_set marks n lt free in
    let most = tally_most (set marks n true) in
    let long = length-set marks n true in
    omega (arith, more, most, long)

-- at first none is found
pub none_found : (m : DraftMachine) (n k : ℕ) (d : VertexId) → IsFoundOnce m (record { good = replicate n false; found = replicate k d; count = 0 })
none_found m n k d = record {
  marks = λ v. (λ h. absurd (unmarked n v.0 h), λ h. absurd (nothing_in_nil v h));
  there = λ v h. absurd (nothing_in_nil v h);
  counted = tally_none n;
  room = omega arith;
  once = λ i j e lt within same. omega (arith, within);
}

-- the vertex with a place was found
pub found_at : (m : DraftMachine) (points : Points) (place : ℕ) (d : VertexId) → IsFoundOnce m points → length points.found ≡ 4096 → place < points.count
    → Contains (found_by points) (get_or points.found place d)
found_at m points place d once places lt =
    let room = once.room in
    let long = length-take-le points.count points.found (omega (arith, room, places)) in
    subst (Contains (found_by points)) (get_or-take points.count points.found place d lt)
    (Contains-get_or (found_by points) place d (omega (arith, lt, long)))

-- one vertex more
module _ {m : DraftMachine} {old : Points} (v : VertexId) (once : IsFoundOnce m old) (free : IsMarked old.good v.0 → ⊥) (there : v.0 < length m.vertices)
    (marks : length old.good ≡ 4096) (places : length old.found ≡ 4096) (few : length m.vertices ≤ 4096) where
  abbrev added : Points
  added = record { good = set old.good v.0 true; found = set old.found old.count v; count = old.count + 1 }

  inside : v.0 < length old.good
  inside = omega (arith, there, marks, few)

  pub found_room : old.count < 4096
  found_room =
      let counted : old.count ≡ tally old.good = once.counted in
      let room = tally_room old.good v.0 inside free in
      omega (arith, counted, room, marks)

  longer : found_by added ≡ found_by old ++ v ∷ []
  longer = take_more_set old.found old.count v (let room = found_room in omega (arith, room, places))

  marks_added : (w : VertexId) → IsMarked (set old.good v.0 true) w.0 ↔ (IsMarked old.good w.0 ⊎ (w ≡ v))
  marks_added w =
      let is = mark_is old.good v.0 inside w.0 in (
        λ h. ⊎_elim (λ was. inl was) (λ same. inr (same_vertex w v same)) (is.0 h),
        λ h. is.1 (⊎_elim (λ was. inl was) (λ same. inr (ap (λ (x : VertexId). x.0) same)) h),
      )

  pub further_added : IsFurther old added v
  further_added = record { marks = marks_added; kept = λ n le. take-set-le n old.found old.count v le; count = omega arith }

  other_place : (i : ℕ) (d : VertexId) → i < old.count → get_or (set old.found old.count v) i d ≡ get_or old.found i d
  other_place i d lt = get_or-set_other old.found old.count i v d (λ same. omega (arith, lt, same))

  placed_once : (i j : ℕ) (d : VertexId) → i < j → j < old.count + 1
      → get_or (set old.found old.count v) i d ≡ get_or (set old.found old.count v) j d → ⊥
  placed_once i j d lt within same =
      ⊎_elim
      (λ below. once.once i j d lt below (sym (other_place i d (omega (arith, lt, below))) ∙ same ∙ other_place j d below))
      (λ last.
      let here : j ≡ old.count = omega (arith, within, last) in
      let less : i < old.count = omega (arith, lt, here) in
      let room : old.count < length old.found = let few_found = found_room in omega (arith, few_found, places) in
      let is_v : get_or old.found i d ≡ v =
      sym (other_place i d less) ∙ same ∙ ap (λ (n : ℕ). get_or (set old.found old.count v) n d) here
      ∙ get_or-set_same old.found old.count v d room in
      free (subst (λ (x : VertexId). IsMarked old.good x.0) is_v ((once.marks (get_or old.found i d)).1 (found_at m old i d once places less))))
      (cases_lt j old.count)

  pub once_added : IsFoundOnce m added
  once_added = record {
    marks = λ w. (
      λ h. subst (λ xs. Contains xs w) (sym longer)
          (⊎_elim
          (λ was. Contains-append_left (found_by old) (v ∷ []) w ((once.marks w).0 was))
          (λ same. subst (Contains (found_by old ++ v ∷ [])) (sym same) (Contains-push (found_by old) v))
          ((marks_added w).0 h)),
      λ h. (marks_added w).1
          (⊎_elim
          (λ was. inl ((once.marks w).1 was))
          (λ same. inr (sym same))
          (Contains-push_cases (found_by old) v w (subst (λ xs. Contains xs w) longer h))),
    );
    there = λ w h. ⊎_elim
        (λ was. once.there w was)
        (λ same. subst (λ (x : VertexId). x.0 < length m.vertices) same there)
        (Contains-push_cases (found_by old) v w (subst (λ xs. Contains xs w) longer h));
    counted =
        let counted : old.count ≡ tally old.good = once.counted in
        let more = tally_set old.good v.0 inside free in
        omega (arith, counted, more);
    room = let room = found_room in omega (arith, room);
    once = placed_once;
  }

pub further_same : {old : Points} (v : VertexId) → IsMarked old.good v.0 → IsFurther old old v
further_same {old = old} v is = record {
  marks = λ w. (λ h. inl h, λ h. ⊎_elim (λ was. was) (λ same. subst (λ (x : VertexId). IsMarked old.good x.0) (sym same) is) h);
  kept = λ n le. refl;
  count = omega arith;
}

-- more and more are found
pub grows_same : (old : Points) → Grows old old
grows_same old = record { marks = λ w h. h; kept = λ n le. refl; count = omega arith }

pub grows_further : {old new : Points} (v : VertexId) → IsFurther old new v → Grows old new
grows_further v h = record { marks = λ w is. (h.marks w).1 (inl is); kept = h.kept; count = h.count }

grows_on : {old among new : Points} → Grows old among → Grows among new → Grows old new
grows_on g h = record {
  marks = λ w is. h.marks w (g.marks w is);
  kept = λ n le. h.kept n (let count = g.count in omega (arith, le, count)) ∙ g.kept n le;
  count = (let first = g.count in let second = h.count in omega (arith, first, second));
}

-- what a vertex is
module _ (m : DraftMachine) (v : VertexId) where
  entry_not_passed : HasKind m v kinds.EntryPoint → IsPassedOver m v → ⊥
  entry_not_passed entry passed =
      ⊎_elim
      (λ is. kinds_clash m v kinds.Junction kinds.EntryPoint (λ e. cc) is entry)
      (λ is. kinds_clash m v kinds.ExitPoint kinds.EntryPoint (λ e. cc) is entry)
      passed

  pub entry_ends : HasKind m v kinds.EntryPoint → ((t : TransId) → Leaves m t v → ⊥) ↔ EndsWay m v
  entry_ends entry = (λ none. record { passed = entry_not_passed entry; entry = λ is. none }, λ h. h.entry entry)

  pub other_ends : (IsPassedOver m v → ⊥) → (HasKind m v kinds.EntryPoint → ⊥) → EndsWay m v
  other_ends passed entry = record { passed = passed; entry = λ is. absurd (entry is) }

  module _ (truth : Truth) where
    pub ending_leads : EndsWay m v → HasWay m truth v
    ending_leads h =
        ⊎_elim
        (λ entry. all entry (λ t w leaves enters. absurd (h.entry entry t leaves)))
        (λ other. ends h.passed other)
        (known_vertex_kind m v kinds.EntryPoint)

    -- over a transition that leaves it
    module _ (good : List Bool) (t : TransId) (leaves : Leaves m t v) where
      pub back_over : IsPassedOver m v → IsTrueAt m truth t ↔ LeadsBack m truth good t
      back_over passed = (
        λ is. (v, leaves, inl (passed, is)),
        λ h. ⊎_elim
            (λ by. by.1)
            (λ by. absurd (entry_not_passed (subst (λ x. HasKind m x kinds.EntryPoint) (leaves_one m t h.0 v h.1 leaves) by.0) passed))
            h.2,
      )

      pub back_from_entry : HasKind m v kinds.EntryPoint → AreAllGood m good v ↔ LeadsBack m truth good t
      back_from_entry entry = (
        λ are. (v, leaves, inr (entry, are)),
        λ h. ⊎_elim
            (λ by. absurd (entry_not_passed entry (subst (IsPassedOver m) (leaves_one m t h.0 v h.1 leaves) by.0)))
            (λ by. subst (AreAllGood m good) (leaves_one m t h.0 v h.1 leaves) by.1)
            h.2,
      )

      pub back_not : (IsPassedOver m v → ⊥) → (HasKind m v kinds.EntryPoint → ⊥) → LeadsBack m truth good t → ⊥
      back_not passed entry h =
          ⊎_elim
          (λ by. passed (subst (IsPassedOver m) (leaves_one m t h.0 v h.1 leaves) by.0))
          (λ by. entry (subst (λ x. HasKind m x kinds.EntryPoint) (leaves_one m t h.0 v h.1 leaves) by.0))
          h.2

-- the target of a transition is marked
pub target_marked : (m : DraftMachine) (good : List Bool) (t : TransId) (w : VertexId) → Enters m t w → IsMarked good w.0 ↔ EndsOnMarked m good t
target_marked m good t w enters = (
  λ is x into. subst (λ (y : VertexId). IsMarked good y.0) (enters_one m t w x enters into) is,
  λ h. h w enters,
)

-- while the vertices are gone through, those below the number at which ways end are marked, and no others
pub record AreEnds (m : DraftMachine) (points : Points) (n : ℕ) : Type 0 where
  pub found : (v : VertexId) → v.0 < n → EndsWay m v → IsMarked points.good v.0
  pub only : (v : VertexId) → IsMarked points.good v.0 → EndsWay m v

pub ends_none : (m : DraftMachine) (points : Points) → ((v : VertexId) → IsMarked points.good v.0 → ⊥) → AreEnds m points 0
ends_none m points nothing = record { found = λ v lt is. absurd (omega arith); only = λ v h. absurd (nothing v h) }

pub ends_more : (m : DraftMachine) (old new : Points) (v : VertexId) (n : ℕ) → v.0 ≡ n → AreEnds m old n → IsFurtherEnd m old new v → AreEnds m new (n + 1)
ends_more m old new v n here h one =
    ⊎_elim
    (λ by. record {
      found = λ w lt is. (by.1.marks w).1
          (⊎_elim (λ below. inl (h.found w below is)) (λ not. inr (same_vertex w v (omega (arith, here, lt, not)))) (cases_lt w.0 n));
      only = λ w marked. ⊎_elim (λ was. h.only w was) (λ same. subst (EndsWay m) (sym same) by.0) ((by.1.marks w).0 marked);
    })
    (λ by. subst (λ points. AreEnds m points (n + 1)) (sym by.1) (record {
      found = λ w lt is. ⊎_elim
          (λ below. h.found w below is)
          (λ not. absurd (by.0 (subst (EndsWay m) (same_vertex w v (omega (arith, here, lt, not))) is)))
          (cases_lt w.0 n);
      only = h.only;
    }))
    one

pub ends_all : (m : DraftMachine) (points : Points) (n : ℕ) → length m.vertices ≤ n → AreEnds m points n → HasEnds m points
ends_all m points n le h v there is = h.found v (omega (arith, there, le)) is

pub ends_lead : (m : DraftMachine) (truth : Truth) (points : Points) (n : ℕ) → AreEnds m points n → AllLead m truth points
ends_lead m truth points n h v is = ending_leads m v truth (h.only v is)

-- The source of the transition is marked, if a way led from it to its target by the earlier marks.
abbrev pub IsTakenBack : DraftMachine → Truth → List Bool → List Bool → TransId → Type 0
IsTakenBack m truth before good t = LeadsBack m truth before t → (v : VertexId) → Leaves m t v → IsMarked good v.0

-- while transitions are gone back over
pub record GoesBack (m : DraftMachine) (Told : Truth → Type 0) (items : List TransId) (initial points : Points) (index : ℕ) : Type 0 where
  pub once : IsFoundOnce m points
  pub grows : Grows initial points
  pub taken : (truth : Truth) → Told truth → Below (IsTakenBack m truth initial.good points.good) items index
  pub lead : (truth : Truth) → Told truth → AllLead m truth initial → AllLead m truth points

module _ (m : DraftMachine) (Told : Truth → Type 0) (items : List TransId) where
  pub back_begins : (points : Points) → IsFoundOnce m points → GoesBack m Told items points points 0
  back_begins points once = record {
    once = once;
    grows = grows_same points;
    taken = λ truth told. below_none (IsTakenBack m truth points.good points.good) items;
    lead = λ truth told h. h;
  }

  -- it leads back by more marks as well
  leads_more : (truth : Truth) (old new : List Bool) (t : TransId) → ((w : VertexId) → IsMarked old w.0 → IsMarked new w.0) → LeadsBack m truth old t
      → LeadsBack m truth new t
  leads_more truth old new t more h =
      (h.0, h.1, ⊎_elim (λ by. inl by) (λ by. inr (by.0, λ u leaves w enters. more w (by.1 u leaves w enters))) h.2)

  -- one transition into a marked vertex more
  module _ (initial points new : Points) (index : ℕ) (t : TransId) (x : VertexId) (into : Enters m t x) (marked : IsMarked points.good x.0)
      (h : GoesBack m Told items initial points index) (grows : Grows points new) where
    taken_more : (truth : Truth) → IsFurtherBack m truth points new t → IsTakenBack m truth initial.good new.good t
    taken_more truth one leads v leaves =
        ⊎_elim
        (λ by. (by.3.marks v).1 (inr (leaves_one m t v by.0 leaves by.1)))
        (λ by. absurd (by.0 (leads_more truth initial.good points.good t h.grows.marks leads)))
        one

    lead_more : (truth : Truth) → IsFurtherBack m truth points new t → AllLead m truth points → AllLead m truth new
    lead_more truth one lead v is =
        ⊎_elim
        (λ by. ⊎_elim
        (λ was. lead v was)
        (λ same. subst (HasWay m truth) (leaves_one m t by.2.0 v by.2.1 (subst (Leaves m t) (sym same) by.1)) (by_leading by.2))
        ((by.3.marks v).0 is))
        (λ by. lead v (subst (λ (p : Points). IsMarked p.good v.0) by.1 is))
        one
      where
        by_leading : (b : LeadsBack m truth points.good t) → HasWay m truth b.0
        by_leading b =
            ⊎_elim
            (λ by. over by.0 b.1 by.1 into (lead x marked))
            (λ by. all by.0 (λ u w leaves enters. lead w (by.1 u leaves w enters)))
            b.2

    below_grown : (truth : Truth) → Below (IsTakenBack m truth initial.good points.good) items index → Below (IsTakenBack m truth initial.good new.good) items index
    below_grown truth before k u lt at leads v leaves = grows.marks v (before k u lt at leads v leaves)

    pub back_more : (d : TransId) → index < length items → get_or items index d ≡ t → IsFoundOnce m new
        → ((truth : Truth) → Told truth → IsFurtherBack m truth points new t) → GoesBack m Told items initial new (index + 1)
    back_more d lt here once one = record {
      once = once;
      grows = grows_on h.grows grows;
      taken = λ truth told. below_next (IsTakenBack m truth initial.good new.good) items index d lt
          (subst (IsTakenBack m truth initial.good new.good) (sym here) (taken_more truth (one truth told)))
          (below_grown truth (h.taken truth told));
      lead = λ truth told first. lead_more truth (one truth told) (h.lead truth told first);
    }

-- what stands among the first of a list stands among more of them
taken_of : {X : Type 0} (xs : List X) (n k : ℕ) (x : X) → n ≤ k → Contains (take n xs) x → Contains (take k xs) x
taken_of xs zero k x le h = absurd (nothing_in_nil x h)
taken_of [] (suc n) k x le h = absurd (nothing_in_nil x h)
taken_of (y ∷ ys) (suc n) zero x le h = absurd (omega (arith, le))
taken_of (y ∷ ys) (suc n) (suc k) x le h =
    ⊎_elim
    (λ same. subst (Contains (y ∷ take k ys)) same (in_front y (take k ys)))
    (λ behind. in_rest y x (take k ys) (taken_of ys n k x (omega (arith, le)) behind))
    (front_or_rest y x (take n ys) h)

-- all transitions into the vertex with the place were gone back over
module _ (m : DraftMachine) (truth : Truth) (initial points : Points) (place : ℕ) (d : VertexId) (items : List TransId) (once : IsFoundOnce m initial)
    (places : length initial.found ≡ 4096) (inside : place < initial.count)
    (listed : (t : TransId) → Contains items t ↔ Enters m t (get_or initial.found place d)) (grows : Grows initial points)
    (taken : (t : TransId) → Contains items t → IsTakenBack m truth initial.good points.good t) (gone : HasGoneBack m truth initial place) where
  upto_here : (w : VertexId) → Contains (take (place + 1) points.found) w → Contains (take (place + 1) initial.found) w
  upto_here w h = subst (λ xs. Contains xs w) (grows.kept (place + 1) (omega (arith, inside))) h

  before_or_here : (w : VertexId) → Contains (take (place + 1) points.found) w → Contains (take place initial.found) w ⊎ (get_or initial.found place d ≡ w)
  before_or_here w h = let room = once.room in taken_cases initial.found place d (omega (arith, inside, room, places)) w (upto_here w h)

  was_marked : (w : VertexId) → Contains (take (place + 1) points.found) w → IsMarked initial.good w.0
  was_marked w h = (once.marks w).1 (taken_of initial.found (place + 1) initial.count w (omega (arith, inside)) (upto_here w h))

  gone_over : (t : TransId) (v w : VertexId) → IsPassedOver m v → Leaves m t v → IsTrueAt m truth t → Enters m t w
      → Contains (take (place + 1) points.found) w → IsMarked points.good v.0
  gone_over t v w passed leaves is enters found =
      ⊎_elim
      (λ before. grows.marks v (gone.over t v w passed leaves is enters before))
      (λ same. taken t ((listed t).1 (subst (Enters m t) (sym same) enters)) (v, leaves, inl (passed, is)) v leaves)
      (before_or_here w found)

  module _ (v : VertexId) (entry : HasKind m v kinds.EntryPoint)
      (targets : (t : TransId) (w : VertexId) → Leaves m t v → Enters m t w → Contains (take (place + 1) points.found) w) where
    all_were : AreAllGood m initial.good v
    all_were u left x into = was_marked x (targets u x left into)

    not_here : (IsMarked points.good v.0 → ⊥) → (t : TransId) (w : VertexId) → Leaves m t v → Enters m t w → Contains (take place initial.found) w
    not_here free t w leaves enters =
        ⊎_elim
        (λ before. before)
        (λ same. absurd (free (taken t ((listed t).1 (subst (Enters m t) (sym same) enters)) (v, leaves, inr (entry, all_were)) v leaves)))
        (before_or_here w (targets t w leaves enters))

    gone_all : IsMarked points.good v.0
    gone_all =
        ⊎_elim
        (λ marked. marked)
        (λ free. grows.marks v (gone.all v entry (not_here (λ marked. (cc (free, marked))))))
        (cases_Bool (get_or points.good v.0 false))

  pub gone_more : HasGoneBack m truth points (place + 1)
  gone_more = record { over = gone_over; all = gone_all }

pub gone_on : (m : DraftMachine) (Told : Truth → Type 0) (truth : Truth) (initial points : Points) (place : ℕ) (d : VertexId) (items : List TransId) (index : ℕ)
    → IsFoundOnce m initial → length initial.found ≡ 4096 → place < initial.count
    → ((t : TransId) → Contains items t ↔ Enters m t (get_or initial.found place d)) → length items ≡ index
    → GoesBack m Told items initial points index → Told truth → HasGoneBack m truth initial place → HasGoneBack m truth points (place + 1)
gone_on m Told truth initial points place d items index once places inside listed last h told gone =
    gone_more m truth initial points place d items once places inside listed h.grows
    (below_all (IsTakenBack m truth initial.good points.good) items index last (h.taken truth told)) gone

-- at first it was gone back from none
enters_some : (m : DraftMachine) (t : TransId) → t.0 < length m.transitions → (w : VertexId) × Enters m t w
enters_some m t there =
    let x = some_at m.transitions t.0 there in
    (x.0.target, mapped_at (λ (y : Transition). y.target) (transition_at m t) x.0 x.1)

kind_there : (m : DraftMachine) (v : VertexId) → HasKind m v kinds.EntryPoint → v.0 < length m.vertices
kind_there m v is =
    let x = mapped_some (λ (y : Vertex). y.kind) (vertex_at m v) kinds.EntryPoint is in slice_get_within m.vertices v.0 x.0 x.1

pub gone_none : (m : DraftMachine) (truth : Truth) (points : Points) → HasEnds m points → HasGoneBack m truth points 0
gone_none m truth points has_ends = record {
  over = λ t v w passed leaves is enters found. absurd (nothing_in_nil w found);
  all = λ v entry targets. has_ends v (kind_there m v entry) ((entry_ends m v entry).0 (λ t leaves.
      (let to = enters_some m t (leaving_is_there m t v leaves) in nothing_in_nil to.0 (targets t to.0 leaves to.1))));
}

-- when it was gone back from all, all are found
module _ {m : DraftMachine} (shape : HasShape m) (truth : Truth) (points : Points) (place : ℕ) (once : IsFoundOnce m points) (has_ends : HasEnds m points)
    (gone : HasGoneBack m truth points place) (last : points.count ≤ place) where
  marked_found : (v : VertexId) → IsMarked points.good v.0 → Contains (take place points.found) v
  marked_found v h = taken_of points.found points.count place v last ((once.marks v).0 h)

  way_marked : {v : VertexId} → HasWay m truth v → v.0 < length m.vertices → IsMarked points.good v.0
  way_marked {v = v} (ends passed entry) there = has_ends v there (other_ends m v passed entry)
  way_marked {v = v} (over {w = w} {t = t} passed leaves is enters way) there =
      gone.over t v w passed leaves is enters (marked_found w (way_marked way (target_there shape t w enters)))
  way_marked {v = v} (all entry ways) there =
      gone.all v entry (λ t w leaves enters. marked_found w (way_marked (ways t w leaves enters) (target_there shape t w enters)))

  pub way_is : AllLead m truth points → (v : VertexId) → v.0 < length m.vertices → IsMarked points.good v.0 ↔ HasWay m truth v
  way_is lead v there = (lead v, λ way. way_marked way there)
