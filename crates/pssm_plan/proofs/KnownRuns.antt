-- Whether an item has run is known.
use Rattle.std.proofs.Common.{◌≡◌, Contains, refl, subst, inl, inr, Bool, true, false, rules}
use Rattle.pssm_model.specs.declared.steps.How.{How}
use Rattle.pssm_model.specs.declared.steps.Item.{Item}
use Rattle.pssm_model.specs.Course.{Course, HasRun}
use Rattle.pssm_model.specs.contracts.steps.ItemPartialEq.TheImpl.{eq-value as item_eq}
use Rattle.pssm_model_laws.proofs.Known.{Known, known_as, known_among}

-- Two items are the same, or not.
item_same : (a b : Item) → item_eq.it a b ≡ true → a ≡ b
item_same a b e = search rules

item_self : (a : Item) → item_eq.it a a ≡ true
item_self a = search rules

pub known_item : (a b : Item) → Known (a ≡ b)
known_item a b = by (item_eq.it a b) refl
  where
    by : (same : Bool) → item_eq.it a b ≡ same → Known (a ≡ b)
    by true e = inl (item_same a b e)
    by false e = inr (λ is. let self : item_eq.it a b ≡ true = subst (λ x. item_eq.it a x ≡ true) is (item_self a) in cc)

-- an item has run or not
pub run_known : (course : Course) (item : Item) → Known (HasRun course item)
run_known course item =
    known_as
    (λ h. (h.0.1, subst (λ y. Contains course.ran y) (pair h.0 h.2) h.1))
    (λ h. ((item, h.0), h.1, refl))
    (known_among (λ x. x.0 ≡ item) course.ran (λ x inside. known_item x.0 item))
  where
    pair : (x : Item × How) → x.0 ≡ item → x ≡ (item, x.1)
    pair x e = λ i. (e i, x.1)
