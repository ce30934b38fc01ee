-- Footprints with a region each: one more is apart from those before where no region around its anchor is claimed and its own is not met.
use Rattle.std.proofs.Common.{◌≡◌, ◌⊎◌, ◌<◌, ◌≤◌, ◌+◌, ◌∙◌, ℕ, suc, List, [], ◌∷◌, ◌++◌, length, take, get_or, set, Bool, true, false, Contains, refl, sym, subst, inl, inr, ⊎_elim, arith}
use Rattle.std.proofs.lemmas.Bool.{cases_eq}
use Rattle.std.proofs.lemmas.List.{get_or-set_same, get_or-set_other, length-set, take_more, take_all}
use Rattle.std.proofs.lemmas.List.Elements.{Contains-push_cases}
use Rattle.pssm_model.specs.declared.ids.VertexId.{VertexId}
use Rattle.pssm_model.specs.declared.ids.RegionId.{RegionId}
use Rattle.pssm_model.specs.declared.elements.DraftMachine.{DraftMachine}
use Rattle.pssm_model.specs.declared.elements.Owner.TheVariants.{Region}
use Rattle.pssm_legs.specs.Areas.{scope_of}
use Rattle.pssm_legs.specs.declared.areas.Area.{Area}
use Rattle.pssm_legs.specs.declared.areas.Area.TheVariants.{Inside}
use Rattle.pssm_model.specs.Legs.{LiesInScope}
use Rattle.pssm_model.specs.Forest.{LiesInRegion, LiesInState, LiesUnder, IsHome}
use Rattle.pssm_model.proofs.ElementLaws.{nothing_in_nil}
use Rattle.pssm_routes.specs.declared.areas.Footprint.{Footprint}
use Rattle.pssm_routes.specs.inner.Footprints.{Clash, ClashesWithSome}
use Rattle.pssm_routes.specs.inner.Rooms.{IsNextOut}
use Rattle.pssm_routes.specs.inner.Sets.{AreApart}
use Rattle.pssm_routes.specs.inner.Spread.{IsMarkedRegion, IsSpan, AreSpread, IsMetAround, IsMeeting}
use Rattle.pssm_routes.proofs.Conflicts.{lies_with}

-- one mark more
module _ (marks : List Bool) (r : RegionId) (inside : r.0 < length marks) where
  pub marked_here : IsMarkedRegion (set marks r.0 true) r
  marked_here = get_or-set_same marks r.0 true false inside

  pub marked_still : (q : RegionId) → IsMarkedRegion marks q → IsMarkedRegion (set marks r.0 true) q
  marked_still q is =
      ⊎_elim
      (λ same. subst (λ k. get_or (set marks r.0 true) k false ≡ true) (sym same) (get_or-set_same marks r.0 true false inside))
      (λ apart. get_or-set_other marks r.0 q.0 true false apart ∙ is)
      (cases_eq q.0 r.0)

same_region : (r q : RegionId) → r ≡ q → (marks : List Bool) → IsMarkedRegion marks r → IsMarkedRegion marks q
same_region r q e marks is = subst (IsMarkedRegion marks) e is

-- meeting the regions around a vertex, one after another
module _ (m : DraftMachine) (v : VertexId) (claimed old : List Bool) where
  pub meeting_starts : (home : RegionId) → home.0 < length m.regions → length old ≡ length m.regions → IsHome m v home
      → IsMeeting m v claimed old old home
  meeting_starts home there width is = record {
    there = there;
    width = width;
    kept = λ r has. has;
    rest = λ r lies. inr (is.innermost r lies);
  }

  module _ (new : List Bool) (at : RegionId) (h : IsMeeting m v claimed old new at) (free : IsMarkedRegion claimed at → ⊥) where
    inside : at.0 < length new
    inside = let there = h.there in let width = h.width in subst (λ n. at.0 < n) (sym width) there

    further_rest : (r : RegionId) → LiesInRegion m v r
        → ((IsMarkedRegion claimed r → ⊥) × IsMarkedRegion (set new at.0 true) r) ⊎ LiesUnder m (Region at) (Region r)
    further_rest r lies =
        ⊎_elim
        (λ done. inl (done.0, marked_still new at inside r done.1))
        (λ within. ⊎_elim
        (λ same. inl (
          λ is. free (same_region r at (sym same) claimed is),
          same_region at r same (set new at.0 true) (marked_here new at inside),
        ))
        (λ under. inr under)
        within)
        (h.rest r lies)

    pub meeting_further : (next : RegionId) → next.0 < length m.regions → IsNextOut m at next → IsMeeting m v claimed old (set new at.0 true) next
    meeting_further next there out = record {
      there = there;
      width = length-set new at.0 true ∙ h.width;
      kept = λ r is. marked_still new at inside r (h.kept r is);
      rest = λ r lies. ⊎_elim (λ done. inl done) (λ under. inr (out.innermost r under)) (further_rest r lies);
    }

    pub meeting_ends : ((r : RegionId) → LiesUnder m (Region at) (Region r) → ⊥) → IsMetAround m v claimed old (set new at.0 true)
    meeting_ends none = record {
      free = λ r lies. ⊎_elim (λ done. done.0) (λ under. absurd (none r under)) (further_rest r lies);
      here = λ r lies. ⊎_elim (λ done. done.1) (λ under. absurd (none r under)) (further_rest r lies);
      kept = λ r is. marked_still new at inside r (h.kept r is);
    }

-- the home of an anchor holds what lies in it
pub inside_span : (m : DraftMachine) (f : Footprint) (s : VertexId) (home : RegionId) → f.area ≡ Inside s → f.source ≡ s → IsHome m f.source home
    → IsSpan m f home
inside_span m f s home e same is = record {
  source = is.lies;
  area = λ v lies. lies_with m v f.source home
      (inr (subst (LiesInState m v) (sym same) (subst (λ (a : Area). LiesInScope m v (scope_of a)) e lies)))
      is.lies;
}

-- one footprint more
clash_back : (m : DraftMachine) (a b : Footprint) → Clash m a b → Clash m b a
clash_back m a b h =
    ⊎_elim
    (λ first. inr (inl first))
    (λ more. ⊎_elim
    (λ second. inl second)
    (λ chain. ⊎_elim (λ up. inr (inr (inr up))) (λ down. inr (inr (inl down))) chain)
    more)
    h

apart_push : (m : DraftMachine) (before : List Footprint) (b : Footprint) → AreApart m before → (ClashesWithSome m before b → ⊥)
    → AreApart m (before ++ b ∷ [])
apart_push m [] b apart none = ((λ h. nothing_in_nil h.0 h.1), tt)
apart_push m (a ∷ before) b apart none = (
  λ h. ⊎_elim
      (λ was. apart.0 (h.0, was, h.2))
      (λ same. none (a, in_front, clash_back m b a (subst (λ (x : Footprint). Clash m x a) (sym same) h.2)))
      (Contains-push_cases before b h.0 h.1),
  apart_push m before b apart.1 (λ h. none (h.0, in_tail h.0 h.1, h.2)),
)
  where
    in_front : Contains (a ∷ before) a
    in_front = (0, omega arith, refl)

    in_tail : (x : Footprint) → Contains before x → Contains (a ∷ before) x
    in_tail x h = (suc h.0, (let lt = h.1 in omega (arith, lt)), h.2)

module _ (m : DraftMachine) (before : List Footprint) (b : Footprint) (span : RegionId) (claimed met new : List Bool) (h : AreSpread m before claimed met)
    (is : IsSpan m b span) (unmet : IsMarkedRegion met span → ⊥) (around : IsMetAround m b.source claimed met new) where
  none_clashes : ClashesWithSome m before b → ⊥
  none_clashes (a, has, clash) =
      let own = h.spans a has in
      let out : LiesInRegion m b.source own.0 → ⊥ = λ lies. around.free own.0 lies own.2 in
      let away : LiesInRegion m a.source span → ⊥ = λ lies. unmet (h.lies a span has lies) in
      ⊎_elim
      (λ covered. out (own.1.area b.source covered))
      (λ more. ⊎_elim
      (λ covers. away (is.area a.source covers))
      (λ chain. ⊎_elim
      (λ inner. away (lies_with m a.source b.source span inner is.source))
      (λ outer. out (lies_with m b.source a.source own.0 outer own.1.source))
      chain)
      more)
      clash

  pub spread_more : span.0 < length claimed → AreSpread m (before ++ b ∷ []) (set claimed span.0 true) new
  spread_more inside = record {
    apart = apart_push m before b h.apart none_clashes;
    spans = λ a has. ⊎_elim
        (λ was. (let own = h.spans a was in (own.0, own.1, marked_still claimed span inside own.0 own.2)))
        (λ same. (span, subst (λ x. IsSpan m x span) same is, marked_here claimed span inside))
        (Contains-push_cases before b a has);
    lies = λ a r has lies. ⊎_elim
        (λ was. around.kept r (h.lies a r was lies))
        (λ same. around.here r (subst (λ (x : Footprint). LiesInRegion m x.source r) (sym same) lies))
        (Contains-push_cases before b a has);
  }

-- all of them
module _ (m : DraftMachine) where
  pub spread_none : (claimed met : List Bool) → AreSpread m [] claimed met
  spread_none claimed met = record {
    apart = tt;
    spans = λ a has. absurd (nothing_in_nil a has);
    lies = λ a r has. absurd (nothing_in_nil a has);
  }

  pub spread_next : (footprints : List Footprint) (n : ℕ) (d : Footprint) (claimed met : List Bool) → n < length footprints
      → AreSpread m (take n footprints ++ get_or footprints n d ∷ []) claimed met → AreSpread m (take (n + 1) footprints) claimed met
  spread_next footprints n d claimed met lt h = subst (λ fs. AreSpread m fs claimed met) (sym (take_more footprints n d lt)) h

  pub spread_all : (footprints : List Footprint) (n : ℕ) (claimed met : List Bool) → length footprints ≤ n → AreSpread m (take n footprints) claimed met
      → AreApart m footprints
  spread_all footprints n claimed met le h = subst (AreApart m) (take_all n footprints le) h.apart
