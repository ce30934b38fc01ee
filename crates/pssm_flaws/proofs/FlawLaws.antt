-- The flaws of one element, one place of the order after another.
use Rattle.std.proofs.Common.{◌≡◌, ◌<◌, ◌+◌, ◌≤◌, ℕ, List, refl, sym, ap, ◌∙◌, subst, inl, inr, arith}
use Rattle.std.specs.Prelude.{◌↔◌, IsTrue, Bool, true, false, nat_eq, if◌then◌else◌}
use Rattle.std.proofs.lemmas.Bool.{cases_lt}
use Rattle.pssm_xml.specs.Documents.{Element}
use Rattle.pssm_roles.specs.Roles.{HasRole}
use Rattle.pssm_roles.specs.declared.role.Role.{Role}
use Rattle.pssm_profile.specs.declared.flaw.Flaw.{Flaw}
use Rattle.pssm_profile.specs.declared.flaw.Flaw.TheVariants as flaws
use Rattle.pssm_profile.specs.declared.flaw.Unread.{Unread}
use Rattle.pssm_profile.specs.declared.flaw.Unread.TheVariants as unread
use Rattle.pssm_profile.specs.declared.flaw.Owed.{Owed}
use Rattle.pssm_profile.specs.declared.flaw.Owed.TheVariants as owed
use Rattle.pssm_profile.specs.Flaws.{HasFlaw, IsFlawOf}
use Rattle.pssm_profile.specs.Faults.{place_of, place_of_unread, place_of_owed}

-- One role of an element says which flaws it has.
pub flaw_by_role : (doc : List Element) (n : ℕ) (r : Role) (flaw : Flaw) → ((s : Role) → HasRole doc n s → s ≡ r) → HasRole doc n r
    → (IsFlawOf doc n r flaw ↔ HasFlaw doc n flaw)
flaw_by_role doc n r flaw one is = (λ of. HasFlaw.by_role r is of, back) where
  back : HasFlaw doc n flaw → IsFlawOf doc n r flaw
  back (HasFlaw.by_role s other of) = subst (λ (x : Role). IsFlawOf doc n x flaw) (one s other) of

-- Where it is so, it is so of the same.
pub both_ways : {A B C : Type 0} → (A ↔ B) → (B ↔ C) → A ↔ C
both_ways one other = (λ a. other.0 (one.0 a), λ c. one.1 (other.1 c))

-- ---- places

unread_at : ℕ → Unread
unread_at n =
    if nat_eq n 0 then unread.Root else
    if nat_eq n 1 then unread.Href else
    if nat_eq n 2 then unread.Submachine else
    if nat_eq n 3 then unread.Event else
    if nat_eq n 4 then unread.OtherType else
    if nat_eq n 5 then unread.Several else
    if nat_eq n 6 then unread.Language else
    if nat_eq n 7 then unread.DoubleName else
    if nat_eq n 8 then unread.LongName else
    if nat_eq n 9 then unread.Value else
    unread.TooMany

owed_at : ℕ → Owed
owed_at n =
    if nat_eq n 0 then owed.Type else
    if nat_eq n 1 then owed.Source else
    if nat_eq n 2 then owed.Target else
    if nat_eq n 3 then owed.Event else
    if nat_eq n 4 then owed.Signal else
    owed.Id

unread_there : (why : Unread) → unread_at (place_of_unread why) ≡ why
unfolding unread_at
unread_there unread.Root = refl
unread_there unread.Href = refl
unread_there unread.Submachine = refl
unread_there unread.Event = refl
unread_there unread.OtherType = refl
unread_there unread.Several = refl
unread_there unread.Language = refl
unread_there unread.DoubleName = refl
unread_there unread.LongName = refl
unread_there unread.Value = refl
unread_there unread.TooMany = refl

owed_there : (what : Owed) → owed_at (place_of_owed what) ≡ what
unfolding owed_at
owed_there owed.Type = refl
owed_there owed.Source = refl
owed_there owed.Target = refl
owed_there owed.Event = refl
owed_there owed.Signal = refl
owed_there owed.Id = refl

few_unread : (why : Unread) → place_of_unread why < 11
few_unread unread.Root = omega arith
few_unread unread.Href = omega arith
few_unread unread.Submachine = omega arith
few_unread unread.Event = omega arith
few_unread unread.OtherType = omega arith
few_unread unread.Several = omega arith
few_unread unread.Language = omega arith
few_unread unread.DoubleName = omega arith
few_unread unread.LongName = omega arith
few_unread unread.Value = omega arith
few_unread unread.TooMany = omega arith

few_owed : (what : Owed) → place_of_owed what < 6
few_owed owed.Type = omega arith
few_owed owed.Source = omega arith
few_owed owed.Target = omega arith
few_owed owed.Event = omega arith
few_owed owed.Signal = omega arith
few_owed owed.Id = omega arith

-- A flaw's place is one of eighteen.
pub few_places : (flaw : Flaw) → place_of flaw < 18
few_places flaws.DoubleId = omega arith
few_places (flaws.Unsupported why) = let few = few_unread why in omega (arith, few)
few_places (flaws.Missing what) = let few = few_owed what in omega (arith, few)

-- Two flaws at one place are the same.
pub same_flaw : (one other : Flaw) → place_of one ≡ place_of other → one ≡ other
same_flaw flaws.DoubleId flaws.DoubleId e = refl
same_flaw flaws.DoubleId (flaws.Unsupported why) e = absurd (omega (arith, e))
same_flaw flaws.DoubleId (flaws.Missing what) e = absurd (omega (arith, e))
same_flaw (flaws.Unsupported why) flaws.DoubleId e = absurd (omega (arith, e))
same_flaw (flaws.Unsupported why) (flaws.Unsupported other) e =
    let places : place_of_unread why ≡ place_of_unread other = omega (arith, e) in
    ap (λ (x : Unread). flaws.Unsupported x) (sym (unread_there why) ∙ ap unread_at places ∙ unread_there other)
same_flaw (flaws.Unsupported why) (flaws.Missing what) e = let few = few_unread why in absurd (omega (arith, e, few))
same_flaw (flaws.Missing what) flaws.DoubleId e = absurd (omega (arith, e))
same_flaw (flaws.Missing what) (flaws.Unsupported why) e = let few = few_unread why in absurd (omega (arith, e, few))
same_flaw (flaws.Missing what) (flaws.Missing other) e =
    let places : place_of_owed what ≡ place_of_owed other = omega (arith, e) in
    ap (λ (x : Owed). flaws.Missing x) (sym (owed_there what) ∙ ap owed_at places ∙ owed_there other)

-- ---- the walk

-- No flaw of the element stands before this place.
abbrev pub NoFlawBefore : List Element → ℕ → ℕ → Type 0
NoFlawBefore doc n place = (other : Flaw) → HasFlaw doc n other → place_of other < place → ⊥

pub none_further : (doc : List Element) (n place : ℕ) (flaw : Flaw)
    → NoFlawBefore doc n place → place_of flaw ≡ place → (HasFlaw doc n flaw → ⊥) → NoFlawBefore doc n (place + 1)
none_further doc n place flaw none is lacks other has less = elim (cases_lt (place_of other) place) [
  | inl before ↦ none other has before
  | inr most ↦ (
      let here : place_of other ≡ place_of flaw = omega (arith, most, less, is) in
      lacks (subst (λ (x : Flaw). HasFlaw doc n x) (same_flaw other flaw here) has)
      )
]

-- A call that tells whether it is so said so.
pub told_so : {A : Type 0} (b : Bool) → b ≡ true → (IsTrue b ↔ A) → A
told_so true is both = both.0 refl
told_so false is both = absurd cc

-- It said that it is not so.
pub told_not : {A : Type 0} (b : Bool) → b ≡ false → (IsTrue b ↔ A) → A → ⊥
told_not false is both a = absurd (let t = both.1 a in cc)
told_not true is both a = absurd cc

-- Behind the last place there is no flaw.
pub none_at_all : (doc : List Element) (n place : ℕ) → 18 ≤ place → NoFlawBefore doc n place → (flaw : Flaw) → HasFlaw doc n flaw → ⊥
none_at_all doc n place over none flaw has = let few = few_places flaw in none flaw has (omega (arith, few, over))
