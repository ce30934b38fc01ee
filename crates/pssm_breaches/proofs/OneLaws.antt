-- One rule, one first breach, and one fault.
use Rattle.std.proofs.Common.{◌≡◌, ℕ, Some, refl, sym, ap, subst, ◌∙◌, inl, inr, ⊎_elim, arith}
use Rattle.std.proofs.lemmas.Bool.{cases_lt}
use Rattle.pssm_model.specs.declared.draft_setting.ElementRef.{ElementRef}
use Rattle.pssm_model.specs.declared.draft_setting.Draft.{Draft}
use Rattle.pssm_heritage.specs.declared.kinds.ElementKind.{ElementKind}
use Rattle.pssm_heritage.specs.declared.kinds.ElementKind.TheVariants.{Region, Vertex, Transition}
use Rattle.pssm_heritage.specs.declared.kinds.RedefRule.{RedefRule}
use Rattle.pssm_heritage.specs.declared.fault.RedefFault.{RedefFault}
use Rattle.pssm_heritage.specs.declared.fault.RedefFault.TheVariants as faults
use Rattle.pssm_heritage.specs.Elements.{redefined}
use Rattle.pssm_heritage.proofs.ElementLaws.{ref_eq}
use Rattle.pssm_heritage.proofs.OneLaws.{no_circle_above, same_first}
use Rattle.pssm_breaches.specs.Forms.{id_of}
use Rattle.pssm_breaches.specs.Rules.{IsInherited, Breaks}
use Rattle.pssm_breaches.specs.Rules.Breaks.{not_inherited, twice, leaf, changed_source, changed_triggers}
use Rattle.pssm_breaches.specs.Faults.{Site, site_of, kind_number, fault_with, IsEarlier, IsFirstBreach, IsRedefFault}
use Rattle.pssm_breaches.specs.Faults.IsRedefFault.{cycle, broken}

-- what is inherited is
other : (draft : Draft) (kind : ElementKind) (e f g : ElementRef) → redefined draft kind e ≡ Some f → redefined draft kind e ≡ Some g → IsInherited draft kind e f
    → (IsInherited draft kind e g → ⊥) → ⊥
other draft kind e f g named again is none = let same : f ≡ g = cc in none (subst (IsInherited draft kind e) same is)

module _ {draft : Draft} {m : ℕ} {kind : ElementKind} {e : ElementRef} where
  pub one_rule : {r s : RedefRule} → Breaks draft m kind e r → Breaks draft m kind e s → r ≡ s
  one_rule (not_inherited f named none) (not_inherited g again nor) = refl
  one_rule (not_inherited f named none) (twice g again is repeated) = absurd (other draft kind e g f again named is none)
  one_rule (not_inherited f named none) (leaf g again is once redefines) = absurd (other draft kind e g f again named is none)
  one_rule (not_inherited f named none) (changed_source g again is once free changed) = absurd (other draft kind e g f again named is none)
  one_rule (not_inherited f named none) (changed_triggers g again is once free source changed) = absurd (other draft kind e g f again named is none)
  one_rule (twice f named is repeated) (not_inherited g again nor) = absurd (other draft kind e f g named again is nor)
  one_rule (twice f named is repeated) (twice g again is' repeated') = refl
  one_rule (twice f named is repeated) (leaf g again is' once redefines) = absurd (once repeated)
  one_rule (twice f named is repeated) (changed_source g again is' once free changed) = absurd (once repeated)
  one_rule (twice f named is repeated) (changed_triggers g again is' once free source changed) = absurd (once repeated)
  one_rule (leaf f named is once redefines) (not_inherited g again nor) = absurd (other draft kind e f g named again is nor)
  one_rule (leaf f named is once redefines) (twice g again is' repeated) = absurd (once repeated)
  one_rule (leaf f named is once redefines) (leaf g again is' once' redefines') = refl
  one_rule (leaf f named is once redefines) (changed_source g again is' once' free changed) = absurd (free redefines)
  one_rule (leaf f named is once redefines) (changed_triggers g again is' once' free source changed) = absurd (free redefines)
  one_rule (changed_source f named is once free changed) (not_inherited g again nor) = absurd (other draft kind e f g named again is nor)
  one_rule (changed_source f named is once free changed) (twice g again is' repeated) = absurd (once repeated)
  one_rule (changed_source f named is once free changed) (leaf g again is' once' redefines) = absurd (free redefines)
  one_rule (changed_source f named is once free changed) (changed_source g again is' once' free' changed') = refl
  one_rule (changed_source f named is once free changed) (changed_triggers g again is' once' free' source changed') = absurd (changed source)
  one_rule (changed_triggers f named is once free source changed) (not_inherited g again nor) = absurd (other draft kind e f g named again is nor)
  one_rule (changed_triggers f named is once free source changed) (twice g again is' repeated) = absurd (once repeated)
  one_rule (changed_triggers f named is once free source changed) (leaf g again is' once' redefines) = absurd (free redefines)
  one_rule (changed_triggers f named is once free source changed) (changed_source g again is' once' free' changed') = absurd (changed' source)
  one_rule (changed_triggers f named is once free source changed) (changed_triggers g again is' once' free' source' changed') = refl

-- two sites, neither of which comes before the other
same_at : (a b : Site) → (IsEarlier a b → ⊥) → (IsEarlier b a → ⊥) → (a.machine ≡ b.machine) × (a.kind ≡ b.kind) × (a.element ≡ b.element)
same_at a b p q =
    let at : a.at ≡ b.at = ⊎_elim (λ lt. absurd (p (inl lt))) (λ ge. ⊎_elim (λ lt. absurd (q (inl lt))) (λ le. omega arith) (cases_lt b.at a.at)) (cases_lt a.at b.at) in
    let machine : a.machine ≡ b.machine =
    ⊎_elim (λ lt. absurd (p (inr (at, inl lt)))) (λ ge. ⊎_elim (λ lt. absurd (q (inr (sym at, inl lt)))) (λ le. omega arith) (cases_lt b.machine a.machine)) (cases_lt a.machine b.machine) in
    let kind : a.kind ≡ b.kind =
    ⊎_elim (λ lt. absurd (p (inr (at, inr (machine, inl lt))))) (λ ge. ⊎_elim (λ lt. absurd (q (inr (sym at, inr (sym machine, inl lt))))) (λ le. omega arith) (cases_lt b.kind a.kind)) (cases_lt a.kind b.kind) in
    let element : a.element ≡ b.element =
    ⊎_elim (λ lt. absurd (p (inr (at, inr (machine, inr (kind, lt)))))) (λ ge. ⊎_elim (λ lt. absurd (q (inr (sym at, inr (sym machine, inr (sym kind, lt)))))) (λ le. omega arith) (cases_lt b.element a.element)) (cases_lt a.element b.element) in
    (machine, kind, element)

one_kind : (k j : ElementKind) → kind_number k ≡ kind_number j → k ≡ j
one_kind Region Region e = refl
one_kind Region Vertex e = absurd (omega arith)
one_kind Region Transition e = absurd (omega arith)
one_kind Vertex Region e = absurd (omega arith)
one_kind Vertex Vertex e = refl
one_kind Vertex Transition e = absurd (omega arith)
one_kind Transition Region e = absurd (omega arith)
one_kind Transition Vertex e = absurd (omega arith)
one_kind Transition Transition e = refl

pub one_first : (draft : Draft) (m : ℕ) (k j : ElementKind) (e d : ElementRef) (r s : RedefRule) → IsFirstBreach draft m k e r → IsFirstBreach draft m j d s
    → (k ≡ j) × (e ≡ d) × (r ≡ s)
one_first draft m k j e d r s f g =
    let at = same_at (site_of draft k e) (site_of draft j d) (g.first k e r f.within f.breaks) (f.first j d s g.within g.breaks) in
    let kind = one_kind k j at.1 in
    let element = ref_eq e d at.0 at.2 in
    (kind, element, one_rule (subst (λ x. Breaks draft m x d r) kind (subst (λ x. Breaks draft m k x r) element f.breaks)) g.breaks)

pub same_redef_fault : {draft : Draft} {m : ℕ} {f g : RedefFault} → IsRedefFault draft m f → IsRedefFault draft m g → f ≡ g
same_redef_fault {draft = draft} {m = m} (cycle x parts first is) (cycle y others second was) =
    let same = same_first draft m x y first second in
    let one : parts ≡ others = cc in
    ap (λ p. faults.Cycle p.id) one
same_redef_fault (cycle x parts first is) (broken machines chain kind e rule breach) = absurd (no_circle_above chain first.reached first.cyclic)
same_redef_fault (broken machines chain kind e rule breach) (cycle x parts first is) = absurd (no_circle_above chain first.reached first.cyclic)
same_redef_fault {draft = draft} {m = m} (broken machines chain kind e rule breach) (broken others chain' kind' e' rule' breach') =
    let same = one_first draft m kind kind' e e' rule rule' breach breach' in
    ap (λ x. fault_with x (id_of draft kind e)) same.2 ∙ ap (λ x. fault_with rule' (id_of draft x e)) same.0 ∙ ap (λ x. fault_with rule' (id_of draft kind' x)) same.1
