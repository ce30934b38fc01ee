-- One chain, one fault, and one first form.
use Rattle.std.proofs.Common.{◌≡◌, ℕ, List, [], ◌∷◌, ◌++◌, refl, sym, ap, subst, ◌∙◌, ⊎_elim, arith}
use Rattle.std.proofs.lemmas.Bool.{cases_lt}
use Rattle.std.proofs.lemmas.List.{get_or_default}
use Rattle.pssm_model.specs.declared.draft_setting.ElementRef.{ElementRef}
use Rattle.pssm_model.specs.declared.draft_setting.Draft.{Draft}
use Rattle.pssm_model.specs.DraftSettings.{ExtendsFar, IsOrExtends}
use Rattle.pssm_heritage.specs.declared.kinds.ElementKind.{ElementKind}
use Rattle.pssm_heritage.specs.declared.fault.RedefFault.{RedefFault}
use Rattle.pssm_heritage.specs.declared.fault.RedefFault.TheVariants as faults
use Rattle.pssm_heritage.specs.Chains.{IsChain, IsFirstCyclic}
use Rattle.pssm_heritage.specs.Chains.IsChain.{base as chain_base, extended as chain_extended}
use Rattle.pssm_heritage.specs.Becoming.{Became}
use Rattle.pssm_heritage.specs.Becoming.Became.{new, redefining}
use Rattle.pssm_heritage.specs.Faults.{IsCycleFault}
use Rattle.pssm_heritage.proofs.ChainLaws.{one_base, chain_all, cut_at}

module _ {draft : Draft} where
  pub same_chain : {m : ℕ} {c d : List ℕ} → IsChain draft m c → IsChain draft m d → c ≡ d
  same_chain (chain_base parts is none) (chain_base others again nothing) = refl
  same_chain (chain_base parts is none) (chain_extended other e chain) = absurd (cc)
  same_chain (chain_extended other e chain) (chain_base parts is none) = absurd (cc)
  same_chain {m = m} (chain_extended other {machines = front} e chain) (chain_extended another {machines = before} f more) =
      ap (λ xs. xs ++ m ∷ []) (same_chain chain (subst (λ n. IsChain draft n before) (one_base draft m another other f e) more))

  -- a chain has no circle
  pub no_circle_above : {m x : ℕ} {c : List ℕ} → IsChain draft m c → IsOrExtends draft m x → ExtendsFar draft x x → ⊥
  no_circle_above {x = x} {c = c} chain up loop =
      let on = chain_all chain x up in
      let here = get_or_default c on.0 0 x on.1 ∙ on.2 in
      (cut_at chain on.0 on.1).circle (subst (λ n. ExtendsFar draft n n) (sym here) loop)

  module _ {kind : ElementKind} where
    pub same_form : {e o p : ElementRef} → Became draft kind e o → Became draft kind e p → o ≡ p
    same_form (new none) (new nothing) = refl
    same_form (new none) (redefining f names became) = absurd (none f names)
    same_form (redefining f names became) (new none) = absurd (none f names)
    same_form {p = p} (redefining f names became) (redefining g others again) =
        let first = names.named in
        let second = others.named in
        same_form became (subst (λ x. Became draft kind x p) (cc (first, second)) again)

pub not_both : (draft : Draft) (m : ℕ) (c : List ℕ) (f : RedefFault) → IsChain draft m c → IsCycleFault draft m f → ⊥
not_both draft m c (faults.Cycle id) chain h = no_circle_above chain h.2.reached h.2.cyclic
not_both draft m c (faults.Leaf id) chain h = h
not_both draft m c (faults.Twice id) chain h = h
not_both draft m c (faults.NotInherited id) chain h = h
not_both draft m c (faults.ChangedSource id) chain h = h
not_both draft m c (faults.ChangedTriggers id) chain h = h
not_both draft m c faults.NoMemory chain h = h

pub same_first : (draft : Draft) (m x y : ℕ) → IsFirstCyclic draft m x → IsFirstCyclic draft m y → x ≡ y
same_first draft m x y f g =
    ⊎_elim
    (λ lt. absurd (g.first x f.reached f.cyclic lt))
    (λ ge. ⊎_elim (λ lt. absurd (f.first y g.reached g.cyclic lt)) (λ le. omega arith) (cases_lt y x))
    (cases_lt x y)

pub same_fault : (draft : Draft) (m : ℕ) (f g : RedefFault) → IsCycleFault draft m f → IsCycleFault draft m g → f ≡ g
same_fault draft m (faults.Cycle id) (faults.Cycle other) h k =
    let same = same_first draft m h.0 k.0 h.2 k.2 in
    let one = h.3 in
    let two = k.3 in
    let ids : id ≡ other = cc (same, one, two, h.4, k.4) in
    ap faults.Cycle ids
same_fault draft m (faults.Cycle id) _ h k = absurd (k)
same_fault draft m _ g h k = absurd (h)
