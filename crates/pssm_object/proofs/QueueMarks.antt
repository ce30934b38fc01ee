-- Marks of the States in a completion queue: with none, with one more at the end, and with one taken out.
use Rattle.std.proofs.Common.{◌≡◌, ◌≢◌, ◌<◌, ◌∙◌, ◌++◌, ◌==◌, ◌↔◌, ℕ, zero, suc, List, [], ◌∷◌, length, get_or, set, replicate, not, Bool, true, false, cond, IsTrue, Some, Contains, AllPairs, filter, slice_get, drop, refl, sym, ap, subst, ⊎_elim, arith}
use Rattle.std.proofs.lemmas.Bool.{cases_eq}
use Rattle.std.proofs.lemmas.Bool.Decides.{eqb_tells}
use Rattle.std.proofs.lemmas.List.{get_or-set_same, get_or-set_other}
use Rattle.std.proofs.lemmas.List.Elements.{Contains-append_left, Contains-push, Contains-push_cases, Contains-get_or}
use Rattle.std.proofs.lemmas.List.Quantifiers.{all_pairs_push}
use Rattle.pssm_model.specs.declared.ids.VertexId.{VertexId}
use Rattle.pssm_model.proofs.ElementLaws.{same_vertex}
use Rattle.pssm_object.specs.inner.Queueing.{AreMarked, without}
use Rattle.pssm_object.proofs.QueueLists.{nothing_in, is_first, is_behind, first_before, differs, stays_in, was_in, ordered_without}

blank : (width n : ℕ) → get_or (replicate width false) n false ≡ false
blank zero n = refl
blank (suc width) zero = refl
blank (suc width) (suc n) = blank width n

pub none_marked : (states : List VertexId) (width : ℕ) (marks : List Bool) → states ≡ [] → marks ≡ replicate width false → AreMarked states marks
none_marked states width marks none e = record {
  marked = λ s. (
    λ yes. (let no : get_or marks s.0 false ≡ false = subst (λ (xs : List Bool). get_or xs s.0 false ≡ false) (sym e) (blank width s.0) in absurd (cc)),
    λ inside. absurd (nothing_in s (subst (λ xs. Contains xs s) none inside)),
  );
  once = subst (AllPairs (λ (s q : VertexId). s ≢ q)) (sym none) (λ i j d lt within. absurd (omega (arith, within)));
}

-- what a mark says once one is changed
module _ (marks : List Bool) (s : VertexId) (mark : Bool) (within : s.0 < length marks) where
  changed : get_or (set marks s.0 mark) s.0 false ≡ mark
  changed = get_or-set_same marks s.0 mark false within

  kept : (v : VertexId) → v.0 ≢ s.0 → get_or (set marks s.0 mark) v.0 false ≡ get_or marks v.0 false
  kept v apart = get_or-set_other marks s.0 v.0 mark false apart

by_kept : {P : Type 0} (a b : Bool) → a ≡ b → (IsTrue b ↔ P) → IsTrue a ↔ P
by_kept {P = P} a b e h = subst (λ (x : Bool). IsTrue x ↔ P) (sym e) h

module _ (states : List VertexId) (marks : List Bool) (s : VertexId) (within : s.0 < length marks) (h : AreMarked states marks) where
  pub one_more_marked : (Contains states s → ⊥) → AreMarked (states ++ s ∷ []) (set marks s.0 true)
  one_more_marked absent = record {
    marked = λ v. ⊎_elim
        (λ same.
        let is : v ≡ s = same_vertex v s same in
        subst (λ (x : VertexId). IsTrue (get_or (set marks s.0 true) x.0 false) ↔ Contains (states ++ s ∷ []) x) (sym is)
        (λ yes. Contains-push states s, λ inside. changed marks s true within))
        (λ apart.
        by_kept (get_or (set marks s.0 true) v.0 false) (get_or marks v.0 false) (kept marks s true within v apart) (
          λ yes. Contains-append_left states (s ∷ []) v ((h.marked v).0 yes),
          λ inside. ⊎_elim (λ before. (h.marked v).1 before) (λ same. absurd (apart (ap (λ (x : VertexId). x.0) (sym same)))) (Contains-push_cases states s v inside),
        ))
        (cases_eq v.0 s.0);
    once = all_pairs_push (λ v w. v ≢ w) states s h.once
        (λ k d lt same. absent (subst (Contains states) same (Contains-get_or states k d lt)));
  }

  pub one_less_marked : AreMarked (without (Some s) states) (set marks s.0 false)
  one_less_marked = record {
    marked = λ v. ⊎_elim
        (λ same.
        let is : v ≡ s = same_vertex v s same in
        subst (λ (x : VertexId). IsTrue (get_or (set marks s.0 false) x.0 false) ↔ Contains (without (Some s) states) x) (sym is) (
          λ yes. (let no = changed marks s false within in absurd (cc)),
          λ inside. absurd ((was_in (Some s) states s inside).1 refl),
        ))
        (λ apart.
        by_kept (get_or (set marks s.0 false) v.0 false) (get_or marks v.0 false) (kept marks s false within v apart) (
          λ yes. stays_in (Some s) states v ((h.marked v).0 yes) (λ is. (let same : s ≡ v = cc in apart (ap (λ (x : VertexId). x.0) (sym same)))),
          λ inside. (h.marked v).1 (was_in (Some s) states v inside).0,
        ))
        (cases_eq v.0 s.0);
    once = ordered_without (λ v w. v ≢ w) (Some s) states h.once;
  }

-- a list without a State that is not in it, or that is the first
pub absent_stays : (s : VertexId) (states : List VertexId) → (Contains states s → ⊥) → without (Some s) states ≡ states
absent_stays s [] none = refl
absent_stays s (v ∷ vs) none =
    let others = filter (λ (w : VertexId). not (w.0 == s.0)) vs in
    let passes : not (v.0 == s.0) ≡ true = differs s v (λ same. none (subst (Contains (v ∷ vs)) same (is_first v vs))) in
    subst (λ (b : Bool). cond b (v ∷ others) others ≡ v ∷ vs) (sym passes)
    (ap (λ (ws : List VertexId). v ∷ ws) (absent_stays s vs (λ inside. none (is_behind v s vs inside))))

pub first_out : (s : VertexId) (rest : List VertexId) → AllPairs (λ v w. v ≢ w) (s ∷ rest) → without (Some s) (s ∷ rest) ≡ rest
first_out s rest once =
    let others = filter (λ (w : VertexId). not (w.0 == s.0)) rest in
    let fails : not (s.0 == s.0) ≡ false = ⊎_elim (λ yes. ap not yes.0) (λ no. absurd (no.1 refl)) (eqb_tells s.0 s.0) in
    subst (λ (b : Bool). cond b (s ∷ others) others ≡ rest) (sym fails)
    (absent_stays s rest (λ inside. first_before (λ v w. v ≢ w) s rest once s inside refl))

pub popped : (s : VertexId) (old new : List VertexId) → AllPairs (λ v w. v ≢ w) old → slice_get old 0 ≡ Some s → new ≡ drop 1 old
    → new ≡ without (Some s) old
popped s [] new once at e = absurd (cc)
popped s (v ∷ rest) new once at e =
    let same : v ≡ s = cc in
    e ∙ sym (subst (λ (x : VertexId). without (Some s) (x ∷ rest) ≡ rest) (sym same)
    (first_out s rest (subst (λ (x : VertexId). AllPairs (λ v w. v ≢ w) (x ∷ rest)) same once)))

-- what the marks of a queue tell, as they are read and written
pub told_in : (states now : List VertexId) (marks given : List Bool) (s : VertexId) (result : Bool) → AreMarked states marks → given ≡ marks
    → result ≡ get_or given s.0 false → states ≡ now → IsTrue result ↔ Contains now s
told_in states now marks given s result h same is view =
    subst (λ xs. IsTrue result ↔ Contains xs s) view
    (by_kept result (get_or marks s.0 false) (is ∙ ap (λ (xs : List Bool). get_or xs s.0 false) same) (h.marked s))

marked_within : (marks : List Bool) (n : ℕ) → get_or marks n false ≡ true → n < length marks
marked_within [] n e = absurd (cc)
marked_within (b ∷ bs) zero e = omega arith
marked_within (b ∷ bs) (suc n) e = let lt = marked_within bs n e in omega (arith, lt)

pub pushed : (states new : List VertexId) (marks : List Bool) (s : VertexId) (n : ℕ) → n ≡ s.0 → s.0 < length marks → AreMarked states marks
    → (Contains states s → ⊥) → new ≡ states ++ s ∷ [] → AreMarked new (set marks n true)
pushed states new marks s n at within h absent e =
    subst (λ (xs : List VertexId). AreMarked xs (set marks n true)) (sym e)
    (subst (λ k. AreMarked (states ++ s ∷ []) (set marks k true)) (sym at) (one_more_marked states marks s within h absent))

pub taken : (states new : List VertexId) (marks given : List Bool) (s : VertexId) (n : ℕ) (result : Bool) → n ≡ s.0 → given ≡ marks
    → result ≡ get_or given s.0 false → result ≡ true → AreMarked states marks → new ≡ without (Some s) states → AreMarked new (set marks n false)
taken states new marks given s n result at same is holds h e =
    let within = marked_within marks s.0 (ap (λ (xs : List Bool). get_or xs s.0 false) (sym same) ∙ sym is ∙ holds) in
    subst (λ (xs : List VertexId). AreMarked xs (set marks n false)) (sym e)
    (subst (λ k. AreMarked (without (Some s) states) (set marks k false)) (sym at) (one_less_marked states marks s within h))
