-- Signals and ends that are the same, and transitions beside their first forms.
use Rattle.std.proofs.Common.{◌≡◌, ◌⊎◌, ◌↔◌, ◌<◌, ◌+◌, ◌==◌, ℕ, Bool, true, false, IsTrue, Some, None, List, [], ◌∷◌, length, take, Contains, refl, sym, ap, subst, ◌∙◌, inl, inr, ⊎_elim, arith, option_and_then, get_or}
use Rattle.std.specs.List.{IsAnyAnswer}
use Rattle.std.proofs.lemmas.Bool.{eqb-true, eqb-false}
use Rattle.std.proofs.lemmas.List.{take_more}
use Rattle.std.proofs.lemmas.List.Elements.{Contains-append_cases, Contains-get_or}
use Rattle.pssm_model.specs.declared.ids.SignalId.{SignalId}
use Rattle.pssm_model.specs.declared.draft_setting.ElementRef.{ElementRef}
use Rattle.pssm_model.specs.declared.draft_setting.Draft.{Draft}
use Rattle.pssm_model.specs.declared.draft_setting.PartTransition.{PartTransition}
use Rattle.pssm_model.specs.declared.draft_setting.End.{End}
use Rattle.pssm_model.specs.declared.draft_setting.End.TheVariants as ends
use Rattle.pssm_model.specs.DraftSettings.{IsInRange, EndInRange, transition_of}
use Rattle.pssm_heritage.specs.declared.kinds.ElementKind.TheVariants.{Vertex, Transition}
use Rattle.pssm_heritage.specs.Heritages.{Lineage, IsLineage, numbering_of}
use Rattle.pssm_heritage.proofs.ChainLaws.{the_one}
use Rattle.pssm_heritage.proofs.ElementLaws.{both, vertex_is_element, transition_in_range}
use Rattle.pssm_heritage.proofs.OneLaws.{same_form}
use Rattle.pssm_breaches.specs.Latest.{IsWithin}
use Rattle.pssm_breaches.specs.Rules.{AreSameEnds, AreSameSignals, WithFirst, KeepsSource}
use Rattle.pssm_breaches.specs.inner.Firsts.{first_in}
use Rattle.pssm_breaches.specs.inner.Ends.{EndsMeet, AreAmong}
use Rattle.pssm_breaches.proofs.FirstLaws.{sound_first, known_first, same_iff}

-- ---- signals

signal_eq : (a b : SignalId) → a.0 ≡ b.0 → a ≡ b
signal_eq a b e = ap (λ n. let s : SignalId = record { 0 = n } in s) e

pub has_iff : (signals : List SignalId) (g : SignalId) (b : Bool) → IsAnyAnswer (λ (y : SignalId) c. (y.0 == g.0) ≡ c) signals b → IsTrue b ↔ Contains signals g
has_iff signals g true h = (λ t. (h.0, h.1, signal_eq (get_or signals h.0 g) g (eqb-true (get_or signals h.0 g).0 g.0 (h.2 g))), λ on. refl)
has_iff signals g false h = (
  λ t. absurd (let u = t in cc),
  λ on. absurd (eqb-false (get_or signals on.0 g).0 g.0 (h on.0 g (omega arith) on.1) (ap (λ (s : SignalId). s.0) on.2)),
)

pub among_more : (some others : List SignalId) (i : ℕ) (d : SignalId) → i < length some → AreAmong (take i some) others → Contains others (get_or some i d)
    → AreAmong (take (i + 1) some) others
among_more some others i d lt h on = λ g at.
    ⊎_elim
    (λ old. h g old)
    (λ here. subst (Contains others) (sym (the_one (get_or some i d) g here)) on)
    (Contains-append_cases (take i some) (get_or some i d ∷ []) g (subst (λ xs. Contains xs g) (take_more some i d lt) at))

pub not_among : (some others : List SignalId) (i : ℕ) (d : SignalId) (b : Bool) → i < length some → IsTrue b ↔ Contains others (get_or some i d) → b ≡ false
    → AreAmong some others → ⊥
not_among some others i d b lt iff none h = let t = iff.1 (h (get_or some i d) (Contains-get_or some i d lt)) in cc

pub signals_iff : (some others : List SignalId) (b : Bool) → AreAmong some others → IsTrue b ↔ AreAmong others some → IsTrue b ↔ AreSameSignals some others
signals_iff some others b h iff = (λ t g. (h g, iff.0 t g), λ s. iff.1 (λ g. (s g).1))

-- ---- ends

pub ends_iff : (draft : Draft) (m : ℕ) (lineage : Lineage) (a b : End) → IsLineage draft m lineage → EndInRange draft a → EndInRange draft b
    → EndsMeet lineage a b ↔ AreSameEnds draft m a b
ends_iff draft m lineage (ends.Vertex a) (ends.Vertex b) h v w = (
  λ s. ⊎_elim
      (λ same. inl same)
      (λ meet.
      let one = sound_first draft m Vertex lineage a meet.first h meet.one in
      let two = sound_first draft m Vertex lineage b meet.first h meet.other in
      inr (one.0.up, two.0.up, (meet.first, one.1, two.1)))
      s,
  λ s. ⊎_elim
      (λ same. inl same)
      (λ r. inr ((same_iff draft m Vertex lineage a b h
      (record { element = vertex_is_element draft a v.0 v.1; up = r.0 })
      (record { element = vertex_is_element draft b w.0 w.1; up = r.1 })).1 r.2))
      s,
)
ends_iff draft m lineage (ends.Vertex a) (ends.Connection s i) h v w = (λ u. u, λ u. u)
ends_iff draft m lineage (ends.Connection s i) (ends.Vertex b) h v w = (λ u. u, λ u. u)
ends_iff draft m lineage (ends.Connection s i) (ends.Connection t j) h v w = (λ u. u, λ u. u)

-- ---- transitions beside their first forms

module _ (draft : Draft) (m : ℕ) (lineage : Lineage) (e : ElementRef) (h : IsLineage draft m lineage) (Holds : PartTransition → PartTransition → Type 0) where
  pub with_first_iff : (now then : PartTransition) (b : Bool) → transition_of draft e ≡ Some now
      → option_and_then (transition_of draft) (first_in (numbering_of Transition lineage) e) ≡ Some then → IsTrue b ↔ Holds now then → IsTrue b ↔ WithFirst draft e Holds
  with_first_iff now then b is was iff =
      let p = both (transition_of draft) (first_in (numbering_of Transition lineage) e) then was in
      let s = sound_first draft m Transition lineage e p.0 h p.1 in (
        λ t. record { first = p.0; now = now; then = then; became = s.1; is = is; was = p.2; holds = iff.0 t },
        λ r.
            let first : r.first ≡ p.0 = same_form r.became s.1 in
            let a = r.is in
            let c = r.was in
            let d = p.2 in
            let one : r.now ≡ now = cc in
            let two : r.then ≡ then = cc in
            iff.1 (subst (λ x. Holds x then) one (subst (λ x. Holds r.now x) two r.holds)),
      )

  pub without_first : IsWithin draft m Transition e → option_and_then (transition_of draft) (first_in (numbering_of Transition lineage) e) ≡ None → WithFirst draft e Holds → ⊥
  without_first w none r =
      let p = known_first draft m Transition lineage e h w in
      let s = sound_first draft m Transition lineage e p.0 h p.1 in
      let first : r.first ≡ p.0 = same_form r.became s.1 in
      let c = r.was in
      let d = ap (λ o. option_and_then (transition_of draft) o) p.1 in
      cc

pub source_iff : (draft : Draft) (m : ℕ) (lineage : Lineage) (e : ElementRef) (now then : PartTransition) (b : Bool) → IsInRange draft → IsLineage draft m lineage
    → transition_of draft e ≡ Some now → option_and_then (transition_of draft) (first_in (numbering_of Transition lineage) e) ≡ Some then
    → IsTrue b ↔ EndsMeet lineage now.source then.source → IsTrue b ↔ KeepsSource draft m Transition e
source_iff draft m lineage e now then b range h is was meet =
    let p = both (transition_of draft) (first_in (numbering_of Transition lineage) e) then was in
    let v = transition_in_range draft e now range is in
    let w = transition_in_range draft p.0 then range p.2 in
    let iff = ends_iff draft m lineage now.source then.source h v.source w.source in
    with_first_iff draft m lineage e h (λ now then. AreSameEnds draft m now.source then.source) now then b is was
    (λ t. iff.0 (meet.0 t), λ s. meet.1 (iff.1 s))

pub filled_iff : (some others : List SignalId) (empty b : Bool) → empty ≡ (length some == 0) → empty ≡ false → IsTrue b ↔ AreSameSignals some others
    → IsTrue b ↔ ((some ≡ []) ⊎ AreSameSignals some others)
filled_iff some others empty b is full iff = (
  λ t. inr (iff.0 t),
  λ s. ⊎_elim (λ none. absurd (eqb-false (length some) 0 (sym is ∙ full) (ap length none))) (λ same. iff.1 same) s,
)
