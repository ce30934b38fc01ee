-- Configurations that agree are changed alike, and the same is finished, complete and next in them.
use Rattle.std.proofs.Common.{◌⊎◌, ◌↔◌, ℕ, inl, inr}
use Rattle.pssm_model.specs.declared.ids.VertexId.{VertexId}
use Rattle.pssm_model.specs.declared.ids.RegionId.{RegionId}
use Rattle.pssm_model.specs.declared.elements.DraftMachine.{DraftMachine}
use Rattle.pssm_model.specs.Configuration.{Configuration, IsFinished, IsComplete, IsNextDoStep}
use Rattle.pssm_model.specs.Changes.{Agree, entered, exited, opened_none, opened_way, did_step}

pub Agree-refl : (a : Configuration) → Agree a a
Agree-refl a = record {
  active = λ s. (λ h. h, λ h. h);
  remembered = λ r s. (λ h. h, λ h. h);
  stepped = λ s k. (λ h. h, λ h. h);
  left_empty = λ r. (λ h. h, λ h. h);
}

pub Agree-symm : (a b : Configuration) → Agree a b → Agree b a
Agree-symm a b h = record {
  active = λ s. ((h.active s).1, (h.active s).0);
  remembered = λ r s. ((h.remembered r s).1, (h.remembered r s).0);
  stepped = λ s k. ((h.stepped s k).1, (h.stepped s k).0);
  left_empty = λ r. ((h.left_empty r).1, (h.left_empty r).0);
}

pub Agree-trans : (a b c : Configuration) → Agree a b → Agree b c → Agree a c
Agree-trans a b c h k = record {
  active = λ s. (λ x. (k.active s).0 ((h.active s).0 x), λ x. (h.active s).1 ((k.active s).1 x));
  remembered = λ r s. (λ x. (k.remembered r s).0 ((h.remembered r s).0 x), λ x. (h.remembered r s).1 ((k.remembered r s).1 x));
  stepped = λ s n. (λ x. (k.stepped s n).0 ((h.stepped s n).0 x), λ x. (h.stepped s n).1 ((k.stepped s n).1 x));
  left_empty = λ r. (λ x. (k.left_empty r).0 ((h.left_empty r).0 x), λ x. (h.left_empty r).1 ((k.left_empty r).1 x));
}

-- two equivalent facts, each with a third one beside it
beside : {A B C : Type 0} → (A ↔ B) → (A × C) ↔ (B × C)
beside e = (λ h. (e.0 h.0, h.1), λ h. (e.1 h.0, h.1))

behind : {A B C : Type 0} → (A ↔ B) → (C × A) ↔ (C × B)
behind e = (λ h. (h.0, e.0 h.1), λ h. (h.0, e.1 h.1))

-- or in place of it
or_else : {A B C : Type 0} → (A ↔ B) → (C ⊎ A) ↔ (C ⊎ B)
or_else {A} {B} {C} e = (forth, back) where
  forth : C ⊎ A → C ⊎ B
  forth (inl c) = inl c
  forth (inr a) = inr (e.0 a)

  back : C ⊎ B → C ⊎ A
  back (inl c) = inl c
  back (inr b) = inr (e.1 b)

module _ (a b : Configuration) (h : Agree a b) where
  pub Agree-entered : (m : DraftMachine) (s : VertexId) → Agree (entered m a s) (entered m b s)
  Agree-entered m s = record {
    active = λ v. or_else (h.active v);
    remembered = h.remembered;
    stepped = λ v k. behind (h.stepped v k);
    left_empty = λ r. beside (h.left_empty r);
  }

  pub Agree-exited : (m : DraftMachine) (s : VertexId) → Agree (exited m a s) (exited m b s)
  Agree-exited m s = record {
    active = λ v. behind (h.active v);
    remembered = λ r v. or_else (beside (h.remembered r v));
    stepped = h.stepped;
    left_empty = λ r. beside (h.left_empty r);
  }

  pub Agree-opened_none : (r : RegionId) → Agree (opened_none a r) (opened_none b r)
  Agree-opened_none r = record { active = h.active; remembered = h.remembered; stepped = h.stepped; left_empty = λ q. or_else (h.left_empty q) }

  pub Agree-opened_way : (r : RegionId) → Agree (opened_way a r) (opened_way b r)
  Agree-opened_way r = record { active = h.active; remembered = h.remembered; stepped = h.stepped; left_empty = λ q. behind (h.left_empty q) }

  pub Agree-did_step : (s : VertexId) (k : ℕ) → Agree (did_step a s k) (did_step b s k)
  Agree-did_step s k = record {
    active = h.active;
    remembered = h.remembered;
    stepped = λ v j. or_else (h.stepped v j);
    left_empty = h.left_empty;
  }

  -- what is finished in one is in the other
  pub finished_too : (m : DraftMachine) (r : RegionId) → IsFinished m a r → IsFinished m b r
  finished_too m r (inl (s, owner, final, active)) = inl (s, owner, final, (h.active s).0 active)
  finished_too m r (inr empty) = inr ((h.left_empty r).0 empty)

  pub complete_too : (m : DraftMachine) (s : VertexId) → IsComplete m a s → IsComplete m b s
  complete_too m s complete = record {
    state = complete.state;
    active = (h.active s).0 complete.active;
    stepped = λ k lt. (h.stepped s k).0 (complete.stepped k lt);
    finished = λ r owner. finished_too m r (complete.finished r owner);
  }

  pub next_too : (m : DraftMachine) (s : VertexId) (k : ℕ) → IsNextDoStep m a s k → IsNextDoStep m b s k
  next_too m s k next = record {
    active = (h.active s).0 next.active;
    in_range = next.in_range;
    earlier = λ j lt. (h.stepped s j).0 (next.earlier j lt);
    waiting = λ done. next.waiting ((h.stepped s k).1 done);
  }
