-- Where an element breaks a rule, there is a first one that does.
use Rattle.std.proofs.Common.{◌≡◌, ◌⊎◌, ◌+◌, ◌<◌, ℕ, zero, suc, List, refl, subst, ⊎_elim, arith}
use Rattle.pssm_model.specs.declared.draft_setting.ElementRef.{ElementRef}
use Rattle.pssm_model.specs.declared.draft_setting.Draft.{Draft}
use Rattle.pssm_model.specs.DraftSettings.{IsOrExtends}
use Rattle.pssm_heritage.specs.declared.kinds.ElementKind.{ElementKind}
use Rattle.pssm_heritage.specs.declared.kinds.RedefRule.{RedefRule}
use Rattle.pssm_heritage.specs.declared.fault.RedefFault.{RedefFault}
use Rattle.pssm_heritage.specs.Chains.{IsChain}
use Rattle.pssm_breaches.specs.Forms.{id_of, begins_at}
use Rattle.pssm_breaches.specs.Rules.{Breaks, BreaksNothing}
use Rattle.pssm_breaches.specs.Faults.{kind_number, fault_with, IsFirstBreach, IsRedefFault}
use Rattle.pssm_breaches.specs.Faults.IsRedefFault.{broken}

-- ---- numbers of which something holds, and none of which is the least

none_below : (P : ℕ → Type 0) → ((n : ℕ) → P n → ((k : ℕ) → k < n → P k → ⊥) → ⊥) → (end n : ℕ) → n < end → P n → ⊥
none_below P least zero n lt p = omega arith
none_below P least (suc end) n lt p = least n p (λ k less q. none_below P least end k (omega arith) q)

none_by_least : (P : ℕ → Type 0) → ((n : ℕ) → P n → ((k : ℕ) → k < n → P k → ⊥) → ⊥) → (n : ℕ) → P n → ⊥
none_by_least P least n p = none_below P least (n + 1) n (omega arith) p

-- four numbers come before four others
abbrev IsBefore : ℕ → ℕ → ℕ → ℕ → ℕ → ℕ → ℕ → ℕ → Type 0
IsBefore k l m n a b c d = (k < a) ⊎ ((k ≡ a) × ((l < b) ⊎ ((l ≡ b) × ((m < c) ⊎ ((m ≡ c) × (n < d))))))

none_by_first : (P : ℕ → ℕ → ℕ → ℕ → Type 0)
    → ((a b c d : ℕ) → P a b c d → ((k l m n : ℕ) → P k l m n → IsBefore k l m n a b c d → ⊥) → ⊥) → (a b c d : ℕ) → P a b c d → ⊥
none_by_first P first a b c d p =
    none_by_least (λ a. (b : ℕ) × (c : ℕ) × (d : ℕ) × P a b c d)
    (λ a q no_a. none_by_least (λ b. (c : ℕ) × (d : ℕ) × P a b c d)
    (λ b r no_b. none_by_least (λ c. (d : ℕ) × P a b c d)
    (λ c s no_c. none_by_least (λ d. P a b c d)
    (λ d t no_d. first a b c d t (λ k l m n u before. ⊎_elim
    (λ less. no_a k less (l, m, n, u))
    (λ same_a. ⊎_elim
    (λ less. no_b l less (m, n, subst (λ x. P x l m n) same_a.0 u))
    (λ same_b. ⊎_elim
    (λ less. no_c m less (n, subst (λ x. P a x m n) same_b.0 (subst (λ x. P x l m n) same_a.0 u)))
    (λ same_c. no_d n same_c.1 (subst (λ x. P a b x n) same_c.0 (subst (λ x. P a x m n) same_b.0 (subst (λ x. P x l m n) same_a.0 u))))
    same_b.1)
    same_a.1)
    before))
    s.0 s.1)
    r.0 (r.1, r.2))
    q.0 (q.1, q.2, q.3))
    a (b, c, d, p)

-- ---- elements that break a rule

-- An element of these four numbers breaks a rule.
record IsBrokenAt (draft : Draft) (m a b c d : ℕ) : Type 0 where
  kind : ElementKind
  e : ElementRef
  rule : RedefRule
  within : IsOrExtends draft m e.machine
  breaks : Breaks draft m kind e rule
  at : begins_at draft kind e ≡ a
  machine : e.machine ≡ b
  number : kind_number kind ≡ c
  element : e.element ≡ d

first_of : (draft : Draft) (m a b c d : ℕ) (h : IsBrokenAt draft m a b c d)
    → ((k l o n : ℕ) → IsBrokenAt draft m k l o n → IsBefore k l o n a b c d → ⊥) → IsFirstBreach draft m h.kind h.e h.rule
first_of draft m a b c d h none = record {
  within = h.within;
  breaks = h.breaks;
  first = λ k e other up breaks earlier.
      none (begins_at draft k e) e.machine (kind_number k) e.element
      (record { kind = k; e = e; rule = other; within = up; breaks = breaks; at = refl; machine = refl; number = refl; element = refl })
      (subst (λ x. IsBefore (begins_at draft k e) e.machine (kind_number k) e.element x b c d) h.at
      (subst (λ x. IsBefore (begins_at draft k e) e.machine (kind_number k) e.element (begins_at draft h.kind h.e) x c d) h.machine
      (subst (λ x. IsBefore (begins_at draft k e) e.machine (kind_number k) e.element (begins_at draft h.kind h.e) h.e.machine x d) h.number
      (subst (λ x. IsBefore (begins_at draft k e) e.machine (kind_number k) e.element (begins_at draft h.kind h.e) h.e.machine (kind_number h.kind) x) h.element
      earlier))));
}

-- A machine without a fault keeps all rules.
pub keeps_all : (draft : Draft) (m : ℕ) (machines : List ℕ) → IsChain draft m machines → ((fault : RedefFault) → IsRedefFault draft m fault → ⊥) → BreaksNothing draft m
keeps_all draft m machines chain none kind e rule up breaks =
    none_by_first (IsBrokenAt draft m)
    (λ a b c d h no_earlier. none (fault_with h.rule (id_of draft h.kind h.e)) (broken machines chain h.kind h.e h.rule (first_of draft m a b c d h no_earlier)))
    (begins_at draft kind e) e.machine (kind_number kind) e.element
    (record { kind = kind; e = e; rule = rule; within = up; breaks = breaks; at = refl; machine = refl; number = refl; element = refl })

pub some_breach : (draft : Draft) (m : ℕ) (machines : List ℕ) → IsChain draft m machines → (BreaksNothing draft m → ⊥)
    → ((fault : RedefFault) → IsRedefFault draft m fault → ⊥) → ⊥
some_breach draft m machines chain none_kept none = none_kept (keeps_all draft m machines chain none)
