-- A look for a way out: what coming to a junction or exit point does to what it keeps, and what it knows at its end.
use Rattle.std.proofs.Common.{◌≡◌, ◌<◌, ◌≤◌, ◌+◌, ℕ, zero, suc, List, [], ◌∷◌, ◌++◌, length, take, get_or, set, Option, Some, slice_get, Contains, sym, ap, subst, ◌∙◌, ⊎_elim, append-nil, arith}
use Rattle.std.proofs.lemmas.Bool.{cases_lt}
use Rattle.std.proofs.lemmas.List.{take_more_set, length-take-le, get_or-take}
use Rattle.std.proofs.lemmas.List.Elements.{Contains-append_cases, Contains-append_left, Contains-push, Contains-push_cases}
use Rattle.std.proofs.lemmas.Option.{slice_get_within, slice_get-get_or}
use Rattle.pssm_model.specs.declared.ids.VertexId.{VertexId}
use Rattle.pssm_model.specs.declared.ids.RegionId.{RegionId}
use Rattle.pssm_model.specs.declared.ids.TransId.{TransId}
use Rattle.pssm_model.specs.declared.elements.DraftMachine.{DraftMachine}
use Rattle.pssm_model.specs.Legs.{Leaves, Enters}
use Rattle.pssm_model.specs.Routes.{Truth}
use Rattle.pssm_model.specs.declared.elements.Transition.{Transition}
use Rattle.pssm_model.specs.Forest.{transition_at}
use Rattle.pssm_model.proofs.ElementLaws.{enters_one, mapped_at, nothing_in_nil}
use Rattle.pssm_enabled.proofs.WayPaths.{true_is_there}
use Rattle.pssm_routes.specs.declared.looking.Reached.{Reached}
use Rattle.pssm_enabled.specs.Ways.{IsPassedOver, EndsInside, IsOpen, LeadsOut}
use Rattle.pssm_enabled.specs.Ways.LeadsOut.{ends, on}
use Rattle.pssm_routes.specs.inner.Looking.{come_to, AreThere, HasCome, IsLookedAt, HasLooked, IsLooking, IsLookingOn}

-- what is at a place of a list with more at its end
at_left : {X : Type 0} (xs ys : List X) (k : ℕ) (x : X) → slice_get xs k ≡ Some x → slice_get (xs ++ ys) k ≡ Some x
at_left [] ys k x e = absurd (cc)
at_left (y ∷ xs) ys zero x e = e
at_left (y ∷ xs) ys (suc k) x e = at_left xs ys k x e

at_split : {X : Type 0} (xs ys : List X) (k : ℕ) (x : X) → k < length xs → slice_get (xs ++ ys) k ≡ Some x → slice_get xs k ≡ Some x
at_split [] ys k x lt e = absurd (omega (arith, lt))
at_split (y ∷ xs) ys zero x lt e = e
at_split (y ∷ xs) ys (suc k) x lt e = at_split xs ys k x (omega (arith, lt)) e

length_taken : {X : Type 0} (n : ℕ) (xs : List X) → length (take n xs) ≤ n
length_taken zero xs = omega arith
length_taken (suc n) [] = omega arith
length_taken (suc n) (x ∷ xs) = let h = length_taken n xs in omega (arith, h)

-- the vertex at a place below the count was reached, and is of the machine
pub at_place : (m : DraftMachine) (reached : Reached) (place : ℕ) (d : VertexId) → AreThere m reached → length reached.found ≡ 64 → place < reached.count
    → slice_get (come_to reached) place ≡ Some (get_or reached.found place d)
at_place m reached place d h long lt =
    let room = h.room in
    let whole = length-take-le reached.count reached.found (subst (λ n. reached.count ≤ n) (sym long) room) in
    slice_get-get_or (come_to reached) place d (subst (λ n. place < n) (sym whole) lt)
    ∙ ap Some (get_or-take reached.count reached.found place d lt)

contains_at : {X : Type 0} (xs : List X) (k : ℕ) (x : X) → slice_get xs k ≡ Some x → Contains xs x
contains_at [] k x e = absurd (cc)
contains_at (y ∷ xs) zero x e = subst (Contains (y ∷ xs)) (let same : y ≡ x = cc in same) (Contains-append_left (y ∷ []) xs y (Contains-push [] y))
contains_at (y ∷ xs) (suc k) x e = in_tail y xs x (contains_at xs k x e)
  where
    in_tail : {X : Type 0} (y : X) (xs : List X) (x : X) → Contains xs x → Contains (y ∷ xs) x
    in_tail y xs x h = (suc h.0, (let lt = h.1 in omega (arith, lt)), h.2)

pub place_there : (m : DraftMachine) (reached : Reached) (place : ℕ) (d : VertexId) → AreThere m reached → length reached.found ≡ 64 → place < reached.count
    → (get_or reached.found place d).0 < length m.vertices
place_there m reached place d h long lt =
    h.there (get_or reached.found place d) (contains_at (come_to reached) place (get_or reached.found place d) (at_place m reached place d h long lt))

-- nothing is reached at first
pub none_there : (m : DraftMachine) (reached : Reached) → reached.count ≡ 0 → AreThere m reached
none_there m reached e = record {
  room = omega (arith, e);
  there = λ v has. absurd (nothing_in_nil v (subst (λ n. Contains (take n reached.found) v) e has));
}

-- a vertex that was reached before, and one that is reached now
pub comes_again : (reached : Reached) (v : VertexId) → Contains (come_to reached) v → HasCome reached reached v
comes_again reached v has = record { more = []; kept = sym (append-nil (come_to reached)); here = has; only = λ w is. absurd (nothing_in_nil w is) }

pub comes_now : (reached : Reached) (v : VertexId) → reached.count < length reached.found
    → HasCome reached (record { found = set reached.found reached.count v; count = reached.count + 1 }) v
comes_now reached v lt =
    let is : take (reached.count + 1) (set reached.found reached.count v) ≡ come_to reached ++ v ∷ [] = take_more_set reached.found reached.count v lt in
    record {
      more = v ∷ [];
      kept = is;
      here = subst (λ xs. Contains xs v) (sym is) (Contains-push (come_to reached) v);
      only = λ w has. ⊎_elim (λ none. absurd (nothing_in_nil w none)) (λ same. sym same) (Contains-push_cases [] v w has);
    }

-- what was reached is there, with one vertex more
pub there_more : (m : DraftMachine) (old new : Reached) (v : VertexId) → AreThere m old → v.0 < length m.vertices → new.count ≤ 64 → HasCome old new v
    → AreThere m new
there_more m old new v h inside room come = record {
  room = room;
  there = λ w has. ⊎_elim
      (λ was. h.there w was)
      (λ now. subst (λ (x : VertexId). x.0 < length m.vertices) (sym (come.only w now)) inside)
      (Contains-append_cases (come_to old) come.more w (subst (λ xs. Contains xs w) come.kept has));
}

module _ {m : DraftMachine} {truth : Truth} {within : Option RegionId} where
  -- a transition that is not open, one that leads out, and one that comes to a vertex
  pub looks_shut : (t : TransId) (reached : Reached) → (IsOpen m truth within t → ⊥) → HasLooked m truth within t reached reached
  looks_shut t reached shut = record {
    more = [];
    kept = sym (append-nil (come_to reached));
    at = λ w opened enters. absurd (shut opened);
    only = λ w is. absurd (nothing_in_nil w is);
  }

  pub looks_to : (t : TransId) (v : VertexId) (old new : Reached) → IsOpen m truth within t → Enters m t v → IsPassedOver m v → HasCome old new v
      → HasLooked m truth within t old new
  looks_to t v old new opened enters passed come = record {
    more = come.more;
    kept = come.kept;
    at = λ w also ends_there.
        let same = enters_one m t v w enters ends_there in
        (subst (IsPassedOver m) same passed, subst (Contains (come_to new)) same come.here);
    only = λ w has.
        let same = sym (come.only w has) in
        (opened, subst (Enters m t) same enters, subst (IsPassedOver m) same passed);
  }

  pub open_leads : (t : TransId) → LeadsOut m truth within t → IsOpen m truth within t
  open_leads t (ends opened enters not) = opened
  open_leads t (on opened enters passed leaves rest) = opened

  -- an open transition that ends on no junction or exit point leads out
  pub open_alone : (t : TransId) → (EndsInside m t → ⊥) → IsOpen m truth within t → LeadsOut m truth within t
  open_alone t none opened =
      let at = true_is_there m truth t opened.guard in
      let enters : Enters m t at.0.target = mapped_at (λ (x : Transition). x.target) (transition_at m t) at.0 at.1 in
      ends opened enters (λ passed. none (at.0.target, enters, passed))

  looked_more : (old new : Reached) (more : List VertexId) → come_to new ≡ come_to old ++ more → (u : TransId) → IsLookedAt m truth within old u
      → IsLookedAt m truth within new u
  looked_more old new more kept u h w opened enters =
      let is = h w opened enters in (is.0, subst (λ xs. Contains xs w) (sym kept) (Contains-append_left (come_to old) more w is.1))

  -- the look begins with the start
  pub looking_start : (start : TransId) (old new : Reached) → old.count ≡ 0 → HasLooked m truth within start old new
      → IsLooking m truth within start new 0
  looking_start start old new e h = record {
    back = λ v u has leaves leads.
        ⊎_elim
        (λ was. absurd (nothing_in_nil v (subst (λ n. Contains (take n old.found) v) e was)))
        (λ now. (let is = h.only v now in on is.0 is.1 is.2 leaves leads))
        (Contains-append_cases (come_to old) h.more v (subst (λ xs. Contains xs v) h.kept has));
    begun = h.at;
    gone = λ k v u lt. absurd (omega (arith, lt));
  }

  module _ (start : TransId) (v : VertexId) (place : ℕ) (items : List TransId) where
    -- while it goes on from one vertex
    pub looking_on_start : (reached : Reached) → IsLooking m truth within start reached place → slice_get (come_to reached) place ≡ Some v
        → IsLookingOn m truth within start v place items reached 0
    looking_on_start reached h at = record { looking = h; here = at; at = λ k u lt. absurd (omega (arith, lt)) }

    pub looking_on_more : (old new : Reached) (index : ℕ) (t : TransId) → IsLookingOn m truth within start v place items old index
        → slice_get items index ≡ Some t → Leaves m t v → HasLooked m truth within t old new
        → IsLookingOn m truth within start v place items new (index + 1)
    looking_on_more old new index t h item leaves looked = record {
      looking = record {
        back = λ w u has out leads.
            ⊎_elim
            (λ was. h.looking.back w u was out leads)
            (λ now.
            let is = looked.only w now in
            h.looking.back v t (contains_at (come_to old) place v h.here) leaves (on is.0 is.1 is.2 out leads))
            (Contains-append_cases (come_to old) looked.more w (subst (λ xs. Contains xs w) looked.kept has));
        begun = looked_more old new looked.more looked.kept start h.looking.begun;
        gone = λ k w u lt at out.
            let inside : k < length (come_to old) =
            let below = slice_get_within (come_to old) place v h.here in omega (arith, lt, below) in
            looked_more old new looked.more looked.kept u
            (h.looking.gone k w u lt (at_split (come_to old) looked.more k w inside (subst (λ xs. slice_get xs k ≡ Some w) looked.kept at)) out);
      };
      here = subst (λ xs. slice_get xs place ≡ Some v) (sym looked.kept) (at_left (come_to old) looked.more place v h.here);
      at = λ k u lt there.
          ⊎_elim
          (λ early. looked_more old new looked.more looked.kept u (h.at k u early there))
          (λ late.
          let last : k ≡ index = omega (arith, lt, late) in
          let same : t ≡ u = (let e : Some t ≡ Some u = sym item ∙ ap (slice_get items) (sym last) ∙ there in cc) in
          subst (IsLookedAt m truth within new) same looked.at)
          (cases_lt k index);
    }

    pub looking_on_out : (old : Reached) (index : ℕ) (t : TransId) → IsLookingOn m truth within start v place items old index → Leaves m t v
        → LeadsOut m truth within t → LeadsOut m truth within start
    looking_on_out old index t h leaves leads = h.looking.back v t (contains_at (come_to old) place v h.here) leaves leads

    pub looking_on_end : (reached : Reached) (index : ℕ) → length items ≤ index → ((u : TransId) → Leaves m u v → Contains items u)
        → IsLookingOn m truth within start v place items reached index → IsLooking m truth within start reached (place + 1)
    looking_on_end reached index all listed h = record {
      back = h.looking.back;
      begun = h.looking.begun;
      gone = λ k w u lt there out.
          ⊎_elim
          (λ early. h.looking.gone k w u early there out)
          (λ late.
          let last : k ≡ place = omega (arith, lt, late) in
          let same : v ≡ w = (let e : Some v ≡ Some w = sym h.here ∙ ap (slice_get (come_to reached)) (sym last) ∙ there in cc) in
          let item = listed u (subst (Leaves m u) (sym same) out) in
          let lies = item.1 in
          h.at item.0 u (omega (arith, lies, all)) (slice_get-get_or items item.0 u item.1 ∙ ap Some item.2))
          (cases_lt k place);
    }

  -- where all vertices were looked on from, nothing leads out
  module _ (start : TransId) (reached : Reached) (place : ℕ) (h : IsLooking m truth within start reached place) (all : reached.count ≤ place) where
    gone_from : (v : VertexId) (u : TransId) → Contains (come_to reached) v → Leaves m u v → IsLookedAt m truth within reached u
    gone_from v u has leaves =
        let lies = has.1 in
        let few = length_taken reached.count reached.found in
        h.gone has.0 v u (omega (arith, lies, few, all)) (slice_get-get_or (come_to reached) has.0 v has.1 ∙ ap Some has.2) leaves

    dead : (v : VertexId) (u : TransId) → Contains (come_to reached) v → Leaves m u v → LeadsOut m truth within u → ⊥
    dead v u has leaves (ends {v = w} opened enters not) = not (gone_from v u has leaves w opened enters).0
    dead v u has leaves (on {u = onward} {v = w} opened enters passed leaves_on rest) =
        dead w onward (gone_from v u has leaves w opened enters).1 leaves_on rest

    pub looked_none : LeadsOut m truth within start → ⊥
    looked_none (ends {v = w} opened enters not) = not (h.begun w opened enters).0
    looked_none (on {u = onward} {v = w} opened enters passed leaves rest) = dead w onward (h.begun w opened enters).1 leaves rest
