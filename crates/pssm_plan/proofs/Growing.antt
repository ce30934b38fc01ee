-- A roster that grows in a loop: by what the numbers, or the elements of a list, so far have added.
use Rattle.std.proofs.Common.{append_assoc, ◌++◌, ◌∙◌, ◌≡◌, ◌⊎◌, ◌↔◌, ◌+◌, ◌<◌, ℕ, Bool, IsTrue, List, []}
use Rattle.std.proofs.Common.{length, get_or, take, Contains, arith, sym, subst, ap, inl, inr, ⊎_elim}
use Rattle.std.proofs.lemmas.List.{append-nil}
use Rattle.std.proofs.lemmas.Bool.{cases_lt}
use Rattle.pssm_model.specs.declared.elements.DraftMachine.{DraftMachine}
use Rattle.pssm_model.specs.declared.steps.Item.{Item}
use Rattle.pssm_plan.specs.declared.roster.Call.{Call}
use Rattle.pssm_plan.specs.inner.Marks.{IsLonger}
use Rattle.pssm_plan.specs.inner.Sequence.{IsRoster, IsExtended}
use Rattle.pssm_plan.proofs.Taken.{none_taken, taken_cases, taken_more, taken_here}

pub longer_same : {X : Type 0} (xs : List X) → IsLonger xs xs
longer_same {X} xs = ([], sym (append-nil xs))

-- what is longer than what is longer
pub longer_further : {X : Type 0} (a b c : List X) → IsLonger a b → IsLonger b c → IsLonger a c
longer_further {X} a b c h g = (h.0 ++ g.0, g.1 ∙ ap (λ (z : List X). z ++ g.0) h.1 ∙ append_assoc a h.0 g.0)

-- the roster has grown by these items
pub record HasGrown (m : DraftMachine) (old : List Call) (Added : Item → Type 0) (calls : List Call) : Type 0 where
  pub longer : IsLonger old calls
  pub extended : IsExtended m old Added calls

module _ (m : DraftMachine) (old : List Call) where
  pub grown_none : (P : Item → Type 0) → ((x : Item) → P x → ⊥) → IsRoster m old → HasGrown m old P old
  grown_none P none r = record {
    longer = longer_same old;
    extended = record {
      roster = r;
      listed = λ x. (λ h. inl h, λ h. ⊎_elim (λ was. was) (λ p. absurd (none x p)) h);
      marked = λ x. (λ h. h, λ h. h);
      fresh = λ call is. inl is;
    };
  }

  pub grown_more : (P Q R : Item → Type 0) (calls new : List Call) → ((x : Item) → R x ↔ (P x ⊎ Q x))
      → HasGrown m old P calls → IsLonger calls new → IsExtended m calls Q new → HasGrown m old R new
  grown_more P Q R calls new same h more g = record {
    longer = longer_further old calls new h.longer more;
    extended = record {
      roster = g.roster;
      listed = λ x. (
        λ l. ⊎_elim
            (λ mid. ⊎_elim (λ was. inl was) (λ p. inr ((same x).1 (inl p))) ((h.extended.listed x).0 mid))
            (λ q. inr ((same x).1 (inr q)))
            ((g.listed x).0 l),
        λ l. ⊎_elim
            (λ was. (g.listed x).1 (inl ((h.extended.listed x).1 (inl was))))
            (λ r. ⊎_elim
            (λ p. (g.listed x).1 (inl ((h.extended.listed x).1 (inr p))))
            (λ q. (g.listed x).1 (inr q))
            ((same x).0 r))
            l,
      );
      marked = λ x. (λ l. (h.extended.marked x).0 ((g.marked x).0 l), λ l. (g.marked x).1 ((h.extended.marked x).1 l));
      fresh = λ call is. ⊎_elim (λ was. h.extended.fresh call was) (λ new. inr new) (g.fresh call is);
    };
  }

pub lower_or_same : (k n : ℕ) → k < n + 1 → (k < n) ⊎ (k ≡ n)
lower_or_same k n lt = ⊎_elim (λ less. inl less) (λ more. inr (omega arith)) (cases_lt k n)

-- what the lower numbers add
abbrev pub AddedBelow : (ℕ → Item → Type 0) → ℕ → Item → Type 0
AddedBelow Q n x = (k : ℕ) × (k < n) × Q k x

pub none_below : (Q : ℕ → Item → Type 0) (x : Item) → AddedBelow Q 0 x → ⊥
none_below Q x h = absurd (omega (arith, h.1))

pub below_more : (Q : ℕ → Item → Type 0) (n : ℕ) (x : Item) → AddedBelow Q (n + 1) x ↔ (AddedBelow Q n x ⊎ Q n x)
below_more Q n x = (
  λ h. ⊎_elim (λ lt. inl (h.0, lt, h.2)) (λ e. inr (subst (λ k. Q k x) e h.2)) (lower_or_same h.0 n h.1),
  λ h. ⊎_elim (λ was. (was.0, omega (arith, was.1), was.2)) (λ now. (n, omega arith, now)) h,
)

-- what the first few elements of a list add
abbrev pub AddedBy : {X : Type 0} → (X → Item → Type 0) → List X → Item → Type 0
AddedBy {X} Q xs x = (y : X) × Contains xs y × Q y x

pub none_by : {X : Type 0} (Q : X → Item → Type 0) (xs : List X) (x : Item) → AddedBy Q (take 0 xs) x → ⊥
none_by Q xs x h = none_taken xs h.0 h.1

pub by_more : {X : Type 0} (Q : X → Item → Type 0) (xs : List X) (i : ℕ) (d : X) (x : Item) → i < length xs
    → AddedBy Q (take (i + 1) xs) x ↔ (AddedBy Q (take i xs) x ⊎ Q (get_or xs i d) x)
by_more {X} Q xs i d x lt = (
  λ h. ⊎_elim
      (λ was. inl (h.0, was, h.2))
      (λ now. inr (subst (λ (y : X). Q y x) (sym now) h.2))
      (taken_cases xs i d h.0 lt h.1),
  λ h. ⊎_elim (λ was. (was.0, taken_more xs i was.0 lt was.1, was.2)) (λ now. (get_or xs i d, taken_here xs i d lt, now)) h,
)

-- the second of two cases in other words
pub or_same : {A B C D : Type 0} → A ↔ (B ⊎ C) → C ↔ D → A ↔ (B ⊎ D)
or_same h g = (λ a. ⊎_elim (λ b. inl b) (λ c. inr (g.0 c)) (h.0 a), λ s. h.1 (⊎_elim (λ b. inl b) (λ d. inr (g.1 d)) s))

-- one more element of a list adds what it adds
pub grown_by_one : {X : Type 0} (m : DraftMachine) (old : List Call) (Q : X → Item → Type 0) (P : Item → Type 0)
    (xs : List X) (i : ℕ) (d : X) (calls new : List Call) → i < length xs → ((x : Item) → Q (get_or xs i d) x ↔ P x)
    → HasGrown m old (AddedBy Q (take i xs)) calls → IsLonger calls new → IsExtended m calls P new
    → HasGrown m old (AddedBy Q (take (i + 1) xs)) new
grown_by_one m old Q P xs i d calls new lt same h more g =
    grown_more m old (AddedBy Q (take i xs)) P (AddedBy Q (take (i + 1) xs)) calls new
    (λ x. or_same (by_more Q xs i d x lt) (same x)) h more g

-- the items of the lower numbers of which this holds
abbrev pub AddedWhere : (ℕ → Item) → (ℕ → Type 0) → ℕ → Item → Type 0
AddedWhere item Holds n x = AddedBelow (λ k y. (y ≡ item k) × Holds k) n x

-- one more number adds its item where this is wanted
pub grown_by_next : (m : DraftMachine) (old : List Call) (item : ℕ → Item) (Holds : ℕ → Type 0) (n : ℕ) (wanted : Bool) (calls new : List Call)
    → (IsTrue wanted ↔ Holds n) → HasGrown m old (AddedWhere item Holds n) calls → IsLonger calls new
    → IsExtended m calls (λ x. IsTrue wanted × (x ≡ item n)) new → HasGrown m old (AddedWhere item Holds (n + 1)) new
grown_by_next m old item Holds n wanted calls new same h more g =
    let Q : ℕ → Item → Type 0 = (λ k y. (y ≡ item k) × Holds k) in
    grown_more m old (AddedBelow Q n) (λ x. IsTrue wanted × (x ≡ item n)) (AddedBelow Q (n + 1)) calls new
    (λ x. or_same (below_more Q n x) (λ q. (same.1 q.1, q.0), λ w. (w.1, same.0 w.0))) h more g

pub iff_further : {A B C : Type 0} → A ↔ B → B ↔ C → A ↔ C
iff_further h g = (λ a. g.0 (h.0 a), λ c. h.1 (g.1 c))
