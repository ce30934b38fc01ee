-- The last form before an element: whether it is of the same machine, and whether it is a leaf.
use Rattle.std.proofs.Common.{◌≡◌, ◌↔◌, ℕ, Bool, IsTrue, ◌==◌, Some, None, List, sym, ap, subst, ◌∙◌, inl, inr, ⊎_elim, arith, slice_get, option_and_then}
use Rattle.std.proofs.lemmas.Bool.{cases_lt, eqb-true, eq-eqb}
use Rattle.std.proofs.lemmas.Option.{slice_get_within, slice_get-get_or}
use Rattle.pssm_model.specs.declared.draft_setting.ElementRef.{ElementRef}
use Rattle.pssm_model.specs.declared.draft_setting.Draft.{Draft}
use Rattle.pssm_model.specs.DraftSettings.{ExtendsFar}
use Rattle.pssm_heritage.specs.declared.kinds.ElementKind.{ElementKind}
use Rattle.pssm_heritage.specs.Elements.{redefined}
use Rattle.pssm_heritage.specs.Becoming.{Became}
use Rattle.pssm_heritage.specs.Becoming.Became.{new, redefining}
use Rattle.pssm_heritage.specs.Heritages.{Lineage, numbering_of}
use Rattle.pssm_heritage.proofs.ElementLaws.{ref_eq}
use Rattle.pssm_heritage.proofs.NumberLaws.{became_up}
use Rattle.pssm_heritage.proofs.ChainLaws.{far_or, two_up, or_split}
use Rattle.pssm_heritage.proofs.OneLaws.{same_form, no_circle_above}
use Rattle.pssm_breaches.specs.Latest.{IsLatestBefore}
use Rattle.pssm_breaches.specs.Forms.{ComesBefore, is_leaf, IsLastAbove}
use Rattle.pssm_breaches.specs.Rules.{IsRepeated, RedefinesLeaf}
use Rattle.pssm_breaches.specs.inner.Latest.{latest_in, IsAsked}
use Rattle.pssm_breaches.proofs.FirstLaws.{numbers}

-- an element that redefines one above became one above
pub first_above : {draft : Draft} {kind : ElementKind} {e o : ElementRef} (f : ElementRef) → redefined draft kind e ≡ Some f → ExtendsFar draft e.machine f.machine
    → Became draft kind e o → ExtendsFar draft e.machine o.machine
first_above f named far (new none) = absurd (none f (record { named = named; above = far }))
first_above f named far (redefining g names became) = far_or names.above (became_up became)

-- What is known of an element that is asked of.
pub record IsFound (draft : Draft) (kind : ElementKind) (e last : ElementRef) : Type 0 where
  pub first : ElementRef
  pub became : Became draft kind e first
  pub latest : IsLatestBefore draft kind e first last
  pub before : ComesBefore draft last e
  pub circle : ExtendsFar draft e.machine e.machine → ⊥

module _ (draft : Draft) (m : ℕ) (kind : ElementKind) (lineage : Lineage) (latest : List ElementRef) (e f : ElementRef) (h : IsAsked draft m kind lineage latest e f) where
  pub found : (last : ElementRef) → latest_in (numbering_of kind lineage) latest e ≡ Some last → IsFound draft kind e last
  found last is =
      let n = (numbers draft m kind lineage h.known).all e h.within.element h.within.up in
      let s = (numbers draft m kind lineage h.known).sound e n.0 n.1 in
      let at : slice_get latest n.0 ≡ Some last = sym (ap (λ o. option_and_then (λ (n : ℕ). slice_get latest n) o) n.1) ∙ is in
      let l = h.table.each n.0 s.2.0 last s.2.1 at in
      let up = first_above f h.named h.above s.2.2 in
      record {
        first = s.2.0;
        became = s.2.2;
        latest = l;
        before = ⊎_elim (λ b. b) (λ same. inl (subst (λ (x : ElementRef). ExtendsFar draft e.machine x.machine) (sym same) up)) l.before;
        circle = no_circle_above h.known.chain h.within.up;
      }

  pub not_lost : latest_in (numbering_of kind lineage) latest e ≡ None → ⊥
  not_lost is =
      let n = (numbers draft m kind lineage h.known).all e h.within.element h.within.up in
      let s = (numbers draft m kind lineage h.known).sound e n.0 n.1 in
      let lt = slice_get_within (numbering_of kind lineage).firsts n.0 s.2.0 s.2.1 in
      let at = slice_get-get_or latest n.0 e (let w = h.table.width in omega arith) in
      let one = ap (λ o. option_and_then (λ (n : ℕ). slice_get latest n) o) n.1 in
      cc

module _ {draft : Draft} {kind : ElementKind} {e last : ElementRef} (k : IsFound draft kind e last) where
  pub repeats : last.machine ≡ e.machine → IsRepeated draft kind e
  repeats same =
      ⊎_elim
      (λ far. absurd (k.circle (subst (ExtendsFar draft e.machine) same far)))
      (λ here. record { earlier = last; machine = same; before = here.1; same = (k.first, k.latest.became, k.became) })
      k.before

  pub repeated : IsRepeated draft kind e → last.machine ≡ e.machine
  repeated r =
      let one = same_form r.same.2 k.became in
      ⊎_elim
      (λ far. absurd (k.latest.no_later r.earlier (inr (r.machine, r.before)) (subst (Became draft kind r.earlier) one r.same.1)
      (inl (subst (λ n. ExtendsFar draft n last.machine) (sym r.machine) far))))
      (λ here. here.0)
      k.before

  pub last_above : (IsRepeated draft kind e → ⊥) → IsLastAbove draft kind e.machine k.first last
  last_above once = record {
    above = ⊎_elim (λ far. far) (λ here. absurd (once (repeats here.0))) k.before;
    became = k.latest.became;
    no_later = λ other far became later. k.latest.no_later other (inl far) became later;
  }

-- there is one last form above a machine
pub one_last : {draft : Draft} {kind : ElementKind} {m : ℕ} {first a b : ElementRef} → IsLastAbove draft kind m first a → IsLastAbove draft kind m first b → a ≡ b
one_last {draft = draft} {m = m} {a = a} {b = b} p q =
    ⊎_elim
    (λ up. ⊎_elim (λ same. level (sym same)) (λ far. absurd (q.no_later a p.above p.became (inl far))) (or_split up))
    (λ up. ⊎_elim (λ same. level same) (λ far. absurd (p.no_later b q.above q.became (inl far))) (or_split up))
    (two_up p.above q.above)
  where
    level : a.machine ≡ b.machine → a ≡ b
    level same =
        ⊎_elim
        (λ lt. absurd (p.no_later b q.above q.became (inr (same, lt))))
        (λ ge. ⊎_elim
        (λ lt. absurd (q.no_later a p.above p.became (inr (sym same, lt))))
        (λ le. ref_eq a b same (omega arith))
        (cases_lt b.element a.element))
        (cases_lt a.element b.element)

pub leaf_iff : (draft : Draft) (kind : ElementKind) (e last : ElementRef) (b : Bool) → IsFound draft kind e last → (IsRepeated draft kind e → ⊥)
    → b ≡ is_leaf draft kind last → IsTrue b ↔ RedefinesLeaf draft kind e
leaf_iff draft kind e last b k once is = (
  λ t. record { first = k.first; last = last; became = k.became; is_last = last_above k once; leaf = subst IsTrue is t },
  λ r.
      let one = same_form r.became k.became in
      let same = one_last (subst (λ x. IsLastAbove draft kind e.machine x r.last) one r.is_last) (last_above k once) in
      subst IsTrue (sym is) (subst (λ x. IsTrue (is_leaf draft kind x)) same r.leaf),
)

pub repeated_iff : (draft : Draft) (kind : ElementKind) (e last : ElementRef) (b : Bool) → IsFound draft kind e last → b ≡ (last.machine == e.machine)
    → IsTrue b ↔ IsRepeated draft kind e
repeated_iff draft kind e last b k is = (
  λ t. repeats k (eqb-true last.machine e.machine (sym is ∙ t)),
  λ r. is ∙ eq-eqb last.machine e.machine (repeated k r),
)
