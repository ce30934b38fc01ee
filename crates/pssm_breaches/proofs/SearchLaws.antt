-- The first breach: at the start, one element more, one machine more, at the end, and of all kinds.
use Rattle.std.proofs.Common.{◌≡◌, ◌⊎◌, ◌<◌, ◌+◌, ℕ, Some, None, Option, List, [], ◌∷◌, length, take, Contains, refl, sym, ap, subst, inl, inr, ⊎_elim, arith, get_or}
use Rattle.std.proofs.lemmas.Bool.{cases_eq}
use Rattle.std.proofs.lemmas.List.{take_more}
use Rattle.std.proofs.lemmas.List.Elements.{Contains-append_left, Contains-append_right}
use Rattle.std.specs.Option.{MatchOption}
use Rattle.pssm_model.specs.declared.draft_setting.ElementRef.{ElementRef}
use Rattle.pssm_model.specs.declared.draft_setting.Draft.{Draft}
use Rattle.pssm_model.specs.DraftSettings.{IsOrExtends}
use Rattle.pssm_heritage.specs.declared.kinds.ElementKind.{ElementKind}
use Rattle.pssm_heritage.specs.declared.kinds.ElementKind.TheVariants.{Region, Vertex, Transition}
use Rattle.pssm_heritage.specs.declared.kinds.RedefRule.{RedefRule}
use Rattle.pssm_heritage.specs.Chains.{IsChain}
use Rattle.pssm_heritage.specs.inner.Tables.{element_at, own_count}
use Rattle.pssm_heritage.proofs.ChainLaws.{is_one, nothing_in, chain_has, chain_all}
use Rattle.pssm_heritage.proofs.WalkLaws.{in_more}
use Rattle.pssm_heritage.proofs.RowLaws.{take_all}
use Rattle.pssm_heritage.proofs.ElementLaws.{ref_eq, element_counted, redefining_is_element}
use Rattle.pssm_breaches.specs.declared.breach.Breach.{Breach}
use Rattle.pssm_breaches.specs.Rules.{Breaks, BreaksNothing}
use Rattle.pssm_breaches.specs.Rules.Breaks.{not_inherited, twice, leaf, changed_source, changed_triggers}
use Rattle.pssm_breaches.specs.Faults.{IsEarlier, site_of, IsFirstBreach}
use Rattle.pssm_breaches.specs.Broken.{IsBroken}
use Rattle.pssm_breaches.specs.inner.Walks.{site, IsFirstOfTwo, IsFirstIfAny, StandsBefore, IsOfKind, breach_of}
use Rattle.pssm_breaches.proofs.OrderLaws.{earlier_trans, earlier_than, never_itself}

module _ (draft : Draft) (m : ℕ) where
  -- what breaks a rule has its place in the list
  pub breaks_within : {kind : ElementKind} {e : ElementRef} {rule : RedefRule} → Breaks draft m kind e rule → e.element < own_count draft kind e.machine
  breaks_within {kind = kind} {e = e} (not_inherited f named other) = element_counted draft kind e (redefining_is_element draft kind e f named)
  breaks_within {kind = kind} {e = e} (twice f named inherits repeated) = element_counted draft kind e (redefining_is_element draft kind e f named)
  breaks_within {kind = kind} {e = e} (leaf f named inherits once is) = element_counted draft kind e (redefining_is_element draft kind e f named)
  breaks_within {kind = kind} {e = e} (changed_source f named inherits once free changed) = element_counted draft kind e (redefining_is_element draft kind e f named)
  breaks_within {kind = kind} {e = e} (changed_triggers f named inherits once free source changed) = element_counted draft kind e (redefining_is_element draft kind e f named)

  -- a condition in another form
  pub in_other_words : (Meets Other : ElementKind → ElementRef → Type 0) (found : Option Breach)
      → ((k : ElementKind) (d : ElementRef) (rule : RedefRule) → Breaks draft m k d rule → Meets k d → Other k d)
      → ((k : ElementKind) (d : ElementRef) (rule : RedefRule) → Breaks draft m k d rule → Other k d → Meets k d)
      → IsFirstIfAny draft m Meets found → IsFirstIfAny draft m Other found
  in_other_words Meets Other None to from h = λ k d rule is breaks. h k d rule (from k d rule breaks is) breaks
  in_other_words Meets Other (Some b) to from h = record {
    meets = to b.kind b.element b.rule h.breaks h.meets;
    breaks = h.breaks;
    first = λ k d rule is breaks earlier. h.first k d rule (from k d rule breaks is) breaks earlier;
  }

  -- the first of two is the first of both
  pub of_both : (Meets Other Both : ElementKind → ElementRef → Type 0) (found other first : Option Breach)
      → ((k : ElementKind) (d : ElementRef) → Both k d → Meets k d ⊎ Other k d)
      → ((k : ElementKind) (d : ElementRef) → Meets k d → Both k d) → ((k : ElementKind) (d : ElementRef) → Other k d → Both k d)
      → IsFirstIfAny draft m Meets found → IsFirstIfAny draft m Other other → IsFirstOfTwo draft found other first → IsFirstIfAny draft m Both first
  of_both Meets Other Both None None first split left right h g is = subst (IsFirstIfAny draft m Both) (sym is)
      (λ k d rule both breaks. ⊎_elim (λ one. h k d rule one breaks) (λ two. g k d rule two breaks) (split k d both))
  of_both Meets Other Both None (Some b) first split left right h g is = subst (IsFirstIfAny draft m Both) (sym is) (record {
    meets = right b.kind b.element g.meets;
    breaks = g.breaks;
    first = λ k d rule both breaks earlier. ⊎_elim (λ one. h k d rule one breaks) (λ two. g.first k d rule two breaks earlier) (split k d both);
  })
  of_both Meets Other Both (Some b) None first split left right h g is = subst (IsFirstIfAny draft m Both) (sym is) (record {
    meets = left b.kind b.element h.meets;
    breaks = h.breaks;
    first = λ k d rule both breaks earlier. ⊎_elim (λ one. h.first k d rule one breaks earlier) (λ two. g k d rule two breaks) (split k d both);
  })
  of_both Meets Other Both (Some b) (Some c) first split left right h g is =
      ⊎_elim
      (λ before. subst (IsFirstIfAny draft m Both) (sym before.1) (record {
        meets = right c.kind c.element g.meets;
        breaks = g.breaks;
        first = λ k d rule both breaks earlier. ⊎_elim
            (λ one. h.first k d rule one breaks (earlier_trans (site_of draft k d) (site draft c) (site draft b) earlier before.0))
            (λ two. g.first k d rule two breaks earlier)
            (split k d both);
      }))
      (λ after. subst (IsFirstIfAny draft m Both) (sym after.1) (record {
        meets = left b.kind b.element h.meets;
        breaks = h.breaks;
        first = λ k d rule both breaks earlier. ⊎_elim
            (λ one. h.first k d rule one breaks earlier)
            (λ two. not_earlier k d rule two breaks after.0 earlier)
            (split k d both);
      }))
      is
    where
      -- what comes before the first one comes before the second one too, or the second one is before the first
      not_earlier : (k : ElementKind) (d : ElementRef) (rule : RedefRule) → Other k d → Breaks draft m k d rule
          → (IsEarlier (site draft c) (site draft b) → ⊥) → IsEarlier (site_of draft k d) (site draft b) → ⊥
      not_earlier k d rule two breaks later earlier = g.first k d rule two breaks (earlier_than (site_of draft k d) (site draft b) (site draft c) later earlier)

  -- the first of one element
  pub of_one : (kind : ElementKind) (e : ElementRef) (broken : Option RedefRule) → IsBroken draft m kind e broken
      → IsFirstIfAny draft m (λ j d. (j ≡ kind) × (d ≡ e)) (breach_of kind e broken)
  of_one kind e None h = λ k d rule is breaks. h rule (subst (λ x. Breaks draft m kind x rule) is.1 (subst (λ x. Breaks draft m x d rule) is.0 breaks))
  of_one kind e (Some rule) h = record {
    meets = (refl, refl);
    breaks = h;
    first = λ k d other is breaks earlier. never_itself (site_of draft kind e)
        (subst (λ x. IsEarlier (site_of draft kind x) (site_of draft kind e)) is.1 (subst (λ x. IsEarlier (site_of draft x d) (site_of draft kind e)) is.0 earlier));
  }

  module _ (kind : ElementKind) (machines : List ℕ) where
    pub starts : IsFirstIfAny draft m (StandsBefore kind machines 0 0) None
    starts = λ k d rule is breaks. ⊎_elim (λ on. nothing_in d.machine on) (λ at. let p = at.1 in omega arith) is.1

    pub one_more : (k i : ℕ) (broken : Option RedefRule) (found first : Option Breach) → IsFirstIfAny draft m (StandsBefore kind machines k i) found
        → IsBroken draft m kind (element_at machines k i) broken → IsFirstOfTwo draft found (breach_of kind (element_at machines k i) broken) first
        → IsFirstIfAny draft m (StandsBefore kind machines k (i + 1)) first
    one_more k i broken found first h is two =
        of_both (StandsBefore kind machines k i) (λ j d. (j ≡ kind) × (d ≡ element_at machines k i)) (StandsBefore kind machines k (i + 1)) found
        (breach_of kind (element_at machines k i) broken) first
        (λ j d both. ⊎_elim
        (λ on. inl (both.0, inl on))
        (λ at. ⊎_elim
        (λ same. inr (both.0, ref_eq d (element_at machines k i) at.0 same))
        (λ ne. inl (both.0, inr (at.0, let p = at.1 in below d.element i p ne)))
        (cases_eq d.element i))
        both.1)
        (λ j d one. (one.0, ⊎_elim (λ on. inl on) (λ at. inr (at.0, let p = at.1 in omega arith)) one.1))
        (λ j d other. (other.0, inr (ap (λ (x : ElementRef). x.machine) other.1, let p = ap (λ (x : ElementRef). x.element) other.1 in omega arith)))
        h (of_one kind (element_at machines k i) broken is) two
      where
        below : (a b : ℕ) → a < b + 1 → (a ≡ b → ⊥) → a < b
        below a b lt ne = omega arith

    pub next : (k : ℕ) (found : Option Breach) → k < length machines
        → IsFirstIfAny draft m (StandsBefore kind machines k (own_count draft kind (get_or machines k 0))) found
        → IsFirstIfAny draft m (StandsBefore kind machines (k + 1) 0) found
    next k found lt h =
        in_other_words (StandsBefore kind machines k (own_count draft kind (get_or machines k 0))) (StandsBefore kind machines (k + 1) 0) found
        (λ j d rule breaks is. (
          is.0,
          inl (subst (λ xs. Contains xs d.machine) (sym (take_more machines k 0 lt)) (⊎_elim
              (λ on. Contains-append_left (take k machines) (get_or machines k 0 ∷ []) d.machine on)
              (λ at. Contains-append_right (take k machines) (get_or machines k 0 ∷ []) d.machine (is_one (get_or machines k 0) d.machine at.0))
              is.1)),
        ))
        (λ j d rule breaks is. (
          is.0,
          ⊎_elim
              (λ on. ⊎_elim
              (λ old. inl old)
              (λ same. inr (
                same,
                subst (λ x. d.element < own_count draft kind x) same
                    (subst (λ x. d.element < own_count draft x d.machine) is.0 (breaks_within breaks)),
              ))
              (in_more (take k machines) (get_or machines k 0) d.machine (subst (λ xs. Contains xs d.machine) (take_more machines k 0 lt) on)))
              (λ none. let p = none.1 in absurd (omega arith))
              is.1,
        ))
        h

    pub ends : (found : Option Breach) → IsChain draft m machines → IsFirstIfAny draft m (StandsBefore kind machines (length machines) 0) found
        → IsFirstIfAny draft m (IsOfKind draft m kind) found
    ends found chain h =
        in_other_words (StandsBefore kind machines (length machines) 0) (IsOfKind draft m kind) found
        (λ j d rule breaks is. (
          is.0,
          ⊎_elim
              (λ on. chain_has chain d.machine (subst (λ xs. Contains xs d.machine) (take_all machines) on))
              (λ none. let p = none.1 in absurd (omega arith))
              is.1,
        ))
        (λ j d rule breaks is. (is.0, inl (subst (λ xs. Contains xs d.machine) (sym (take_all machines)) (chain_all chain d.machine is.1))))
        h

  -- ---- of all kinds

  pub of_all : (region vertex transition two all : Option Breach)
      → IsFirstIfAny draft m (IsOfKind draft m Region) region → IsFirstIfAny draft m (IsOfKind draft m Vertex) vertex
      → IsFirstIfAny draft m (IsOfKind draft m Transition) transition
      → IsFirstOfTwo draft region vertex two → IsFirstOfTwo draft two transition all
      → MatchOption all (BreaksNothing draft m) (λ b. IsFirstBreach draft m b.kind b.element b.rule)
  of_all region vertex transition two all r v t one other = read all (of_both
      (λ j d. IsOfKind draft m Region j d ⊎ IsOfKind draft m Vertex j d) (IsOfKind draft m Transition) (λ j d. IsOrExtends draft m d.machine) two transition all
      kinds (λ j d is. ⊎_elim (λ p. p.1) (λ p. p.1) is) (λ j d is. is.1)
      (of_both (IsOfKind draft m Region) (IsOfKind draft m Vertex) (λ j d. IsOfKind draft m Region j d ⊎ IsOfKind draft m Vertex j d) region vertex two
      (λ j d both. both) (λ j d is. inl is) (λ j d is. inr is) r v one)
      t other)
    where
      kinds : (j : ElementKind) (d : ElementRef) → IsOrExtends draft m d.machine
          → (IsOfKind draft m Region j d ⊎ IsOfKind draft m Vertex j d) ⊎ IsOfKind draft m Transition j d
      kinds Region d up = inl (inl (refl, up))
      kinds Vertex d up = inl (inr (refl, up))
      kinds Transition d up = inr (refl, up)

      read : (all : Option Breach) → IsFirstIfAny draft m (λ j d. IsOrExtends draft m d.machine) all
          → MatchOption all (BreaksNothing draft m) (λ b. IsFirstBreach draft m b.kind b.element b.rule)
      read None h = λ k d rule up breaks. h k d rule up breaks
      read (Some b) h = record { within = h.meets; breaks = h.breaks; first = h.first }
