-- The table of last forms: at the start, one element more, and one machine more.
use Rattle.std.proofs.Common.{◌≡◌, ◌⊎◌, ◌<◌, ◌+◌, ℕ, Some, None, List, [], ◌∷◌, length, take, set, Contains, refl, sym, subst, ◌∙◌, inl, inr, ⊎_elim, arith, slice_get, get_or}
use Rattle.std.proofs.lemmas.Bool.{cases_eq}
use Rattle.std.proofs.lemmas.List.{take_more}
use Rattle.std.proofs.lemmas.List.Elements.{Contains-append_left, Contains-append_right, Contains-get_or}
use Rattle.std.proofs.lemmas.Option.{slice_get_within}
use Rattle.std.proofs.Math.ListN.{length-set}
use Rattle.pssm_model.specs.declared.draft_setting.ElementRef.{ElementRef}
use Rattle.pssm_model.specs.declared.draft_setting.Draft.{Draft}
use Rattle.pssm_model.specs.DraftSettings.{ExtendsFar}
use Rattle.pssm_heritage.specs.declared.kinds.ElementKind.{ElementKind}
use Rattle.pssm_heritage.specs.Elements.{IsElement}
use Rattle.pssm_heritage.specs.Becoming.{Became}
use Rattle.pssm_heritage.specs.Becoming.Became.{new, redefining}
use Rattle.pssm_heritage.specs.Heritages.{Lineage, IsLineage, numbering_of, number_in}
use Rattle.pssm_heritage.specs.inner.Tables.{AreChain, element_at, own_count}
use Rattle.pssm_heritage.proofs.ChainLaws.{far_far, is_one, nothing_in, chain_has}
use Rattle.pssm_heritage.proofs.WalkLaws.{in_more}
use Rattle.pssm_heritage.proofs.RowLaws.{get_set_same, get_set_other}
use Rattle.pssm_heritage.proofs.ElementLaws.{ref_eq, element_counted, counted_is_element, redefining_is_element}
use Rattle.pssm_heritage.proofs.NumberLaws.{cut_of}
use Rattle.pssm_heritage.proofs.OneLaws.{same_form, no_circle_above}
use Rattle.pssm_breaches.specs.Forms.{ComesBefore}
use Rattle.pssm_breaches.specs.Latest.{IsWithin, IsLatestBefore, AreLatestBefore}
use Rattle.pssm_breaches.specs.inner.Walks.{after}
use Rattle.pssm_breaches.proofs.FirstLaws.{numbers}

became_is_element : {draft : Draft} {kind : ElementKind} {e o : ElementRef} → Became draft kind e o → IsElement draft kind o → IsElement draft kind e
became_is_element (new none) is = is
became_is_element {draft = draft} {kind = kind} {e = e} (redefining f names became) is = redefining_is_element draft kind e f names.named

module _ (draft : Draft) (m : ℕ) (kind : ElementKind) (lineage : Lineage) (h : IsLineage draft m lineage) where
  first_is : (n : ℕ) (first : ElementRef) → slice_get (numbering_of kind lineage).firsts n ≡ Some first → IsElement draft kind first × Became draft kind first first
  first_is n first is =
      let at = (numbers draft m kind lineage h).single n first is in
      let s = (numbers draft m kind lineage h).sound first n at in
      let same : s.2.0 ≡ first = let a = s.2.1 in cc in
      (s.1, subst (Became draft kind first) same s.2.2)

  -- ---- one element more

  module _ (e : ElementRef) (w : IsWithin draft m kind e) (n : ℕ) (is : number_in (numbering_of kind lineage) e ≡ Some n) (latest : List ElementRef)
      (old : AreLatestBefore draft kind e (numbering_of kind lineage).firsts latest) where
    circle : ExtendsFar draft e.machine e.machine → ⊥
    circle = no_circle_above h.chain w.up

    not_after : (other : ElementRef) → ComesBefore draft other (after e) → ComesBefore draft e other → ⊥
    not_after other b a =
        ⊎_elim
        (λ far. ⊎_elim
        (λ back. circle (far_far far back))
        (λ here. circle (subst (ExtendsFar draft e.machine) (sym here.0) far))
        a)
        (λ same. ⊎_elim
        (λ back. circle (subst (λ x. ExtendsFar draft x e.machine) same.0 back))
        (λ here. let p = same.1 in let q = here.1 in omega arith)
        a)
        b

    earlier : (other : ElementRef) → ComesBefore draft other (after e) → ComesBefore draft other e ⊎ (other ≡ e)
    earlier other b =
        ⊎_elim
        (λ far. inl (inl far))
        (λ same. ⊎_elim
        (λ at. inr (ref_eq other e same.0 at))
        (λ ne. inl (inr (same.0, let p = same.1 in below other.element e.element p ne)))
        (cases_eq other.element e.element))
        b
      where
        below : (a b : ℕ) → a < b + 1 → (a ≡ b → ⊥) → a < b
        below a b lt ne = omega arith

    later : (other : ElementRef) → ComesBefore draft other e → ComesBefore draft other (after e)
    later other b = ⊎_elim (λ far. inl far) (λ same. inr (same.0, let p = same.1 in omega arith)) b

    pub one_more : AreLatestBefore draft kind (after e) (numbering_of kind lineage).firsts (set latest n e)
    one_more = record {
      width = length-set latest n e ∙ old.width;
      each = λ j first last isf isl.
          let s = (numbers draft m kind lineage h).sound e n is in
          ⊎_elim
          (λ same. here j first last isf isl same)
          (λ ne. there j first last isf (sym (get_set_other latest n j e ne) ∙ isl) ne)
          (cases_eq j n);
    }
      where
        here : (j : ℕ) (first last : ElementRef) → slice_get (numbering_of kind lineage).firsts j ≡ Some first → slice_get (set latest n e) j ≡ Some last → j ≡ n
            → IsLatestBefore draft kind (after e) first last
        here j first last isf isl same =
            let s = (numbers draft m kind lineage h).sound e n is in
            let lt = slice_get_within (numbering_of kind lineage).firsts n s.2.0 s.2.1 in
            let put = get_set_same latest n e (let v = old.width in omega arith) in
            let at = s.2.1 in
            let is_e : e ≡ last = cc in
            let is_first : s.2.0 ≡ first = cc in
            subst (λ x. IsLatestBefore draft kind (after e) first x) is_e (record {
              became = subst (Became draft kind e) is_first s.2.2;
              before = inl (inr (refl, omega arith));
              no_later = λ other b became a. not_after other b a;
            })

        there : (j : ℕ) (first last : ElementRef) → slice_get (numbering_of kind lineage).firsts j ≡ Some first → slice_get latest j ≡ Some last → (j ≡ n → ⊥)
            → IsLatestBefore draft kind (after e) first last
        there j first last isf isl ne =
            let s = (numbers draft m kind lineage h).sound e n is in
            let l = old.each j first last isf isl in
            record {
              became = l.became;
              before = ⊎_elim (λ b. inl (later last b)) (λ same. inr same) l.before;
              no_later = λ other b became a. ⊎_elim
                  (λ before. l.no_later other before became a)
                  (λ same.
                  let form : s.2.0 ≡ first = same_form s.2.2 (subst (λ x. Became draft kind x first) same became) in
                  let one = (numbers draft m kind lineage h).single j first isf in
                  let two = (numbers draft m kind lineage h).single n s.2.0 s.2.1 in
                  ne (cc))
                  (earlier other b);
            }

  -- ---- one machine more

  chain_is : AreChain draft lineage.machines
  chain_is = record { last = m; chain = h.chain }

  pub next_machine : (k : ℕ) (latest : List ElementRef) → k + 1 < length lineage.machines
      → AreLatestBefore draft kind (element_at lineage.machines k (own_count draft kind (get_or lineage.machines k 0))) (numbering_of kind lineage).firsts latest
      → AreLatestBefore draft kind (element_at lineage.machines (k + 1) 0) (numbering_of kind lineage).firsts latest
  next_machine k latest lt old = record {
    width = old.width;
    each = λ j first last isf isl.
        let l = old.each j first last isf isl in
        record {
          became = l.became;
          before = ⊎_elim (λ b. inl (on last b)) (λ same. inr same) l.before;
          no_later = λ other b became a. l.no_later other (back other (became_is_element became (first_is j first isf).0) b) became a;
        };
  }
    where
      on : (x : ElementRef) → ComesBefore draft x (element_at lineage.machines k (own_count draft kind (get_or lineage.machines k 0)))
          → ComesBefore draft x (element_at lineage.machines (k + 1) 0)
      on x b =
          inl ((cut_of draft lineage.machines (k + 1) chain_is lt).has x.machine (subst (λ xs. Contains xs x.machine) (sym (take_more lineage.machines k 0 (omega arith))) (⊎_elim
          (λ far. Contains-append_left (take k lineage.machines) (get_or lineage.machines k 0 ∷ []) x.machine ((cut_of draft lineage.machines k chain_is (omega arith)).all x.machine far))
          (λ same. Contains-append_right (take k lineage.machines) (get_or lineage.machines k 0 ∷ []) x.machine (is_one (get_or lineage.machines k 0) x.machine same.0))
          b)))

      back : (x : ElementRef) → IsElement draft kind x → ComesBefore draft x (element_at lineage.machines (k + 1) 0)
          → ComesBefore draft x (element_at lineage.machines k (own_count draft kind (get_or lineage.machines k 0)))
      back x is b =
          ⊎_elim
          (λ far. ⊎_elim
          (λ old. inl ((cut_of draft lineage.machines k chain_is (omega arith)).has x.machine old))
          (λ same. inr (same, subst (λ i. x.element < own_count draft kind i) same (element_counted draft kind x is)))
          (in_more (take k lineage.machines) (get_or lineage.machines k 0) x.machine
          (subst (λ xs. Contains xs x.machine) (take_more lineage.machines k 0 (omega arith)) ((cut_of draft lineage.machines (k + 1) chain_is lt).all x.machine far))))
          (λ none. let p = none.1 in absurd (omega arith))
          b

  -- ---- the start

  pub at_start : 0 < length lineage.machines → AreLatestBefore draft kind (element_at lineage.machines 0 0) (numbering_of kind lineage).firsts (numbering_of kind lineage).firsts
  at_start lt = record {
    width = refl;
    each = λ j first last isf isl.
        let same : last ≡ first = cc in
        record {
          became = subst (λ x. Became draft kind x first) (sym same) (first_is j first isf).1;
          before = inr same;
          no_later = λ other b became a. ⊎_elim
              (λ far. nothing_in other.machine ((cut_of draft lineage.machines 0 chain_is lt).all other.machine far))
              (λ none. let p = none.1 in omega arith)
              b;
        };
  }

  -- ---- what stands in the table

  pub within_table : (e : ElementRef) (n : ℕ) (latest : List ElementRef) → number_in (numbering_of kind lineage) e ≡ Some n
      → AreLatestBefore draft kind e (numbering_of kind lineage).firsts latest → n < length latest
  within_table e n latest is old =
      let s = (numbers draft m kind lineage h).sound e n is in
      let lt = slice_get_within (numbering_of kind lineage).firsts n s.2.0 s.2.1 in
      let v = old.width in
      omega arith

  pub has_number : (e : ElementRef) → IsWithin draft m kind e → number_in (numbering_of kind lineage) e ≡ None → ⊥
  has_number e w none = let n = (numbers draft m kind lineage h).all e w.element w.up in let is = n.1 in cc

  pub is_within : (k i : ℕ) → k < length lineage.machines → i < own_count draft kind (get_or lineage.machines k 0) → IsWithin draft m kind (element_at lineage.machines k i)
  is_within k i lt less = record {
    element = counted_is_element draft kind (element_at lineage.machines k i) less;
    up = chain_has h.chain (get_or lineage.machines k 0) (Contains-get_or lineage.machines k 0 lt);
  }
