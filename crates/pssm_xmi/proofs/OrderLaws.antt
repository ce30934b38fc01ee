-- The order of faults: no two stand at one place.
use Rattle.std.proofs.Common.{◌≡◌, ◌<◌, ℕ, List, [], ◌∷◌, refl, sym, ap, ◌∙◌, inl, inr, arith}
use Rattle.std.specs.Prelude.{slice_get, unwrap_or}
use Rattle.pssm_profile.specs.declared.fault.XmiFault.{XmiFault}
use Rattle.pssm_profile.specs.declared.fault.XmiFault.TheVariants as faults
use Rattle.pssm_profile.specs.declared.flaw.Flaw.{Flaw}
use Rattle.pssm_profile.specs.declared.flaw.Flaw.TheVariants as flaws
use Rattle.pssm_profile.specs.declared.flaw.Unread.TheVariants as unread
use Rattle.pssm_profile.specs.declared.flaw.Owed.TheVariants as owed
use Rattle.pssm_profile.specs.Faults.{place_of}
use Rattle.pssm_unmet.specs.declared.unmet.Unmet.{Unmet}
use Rattle.pssm_unmet.specs.declared.unmet.Unmet.TheVariants as unmet
use Rattle.pssm_numbering.specs.Numbering.{ModelFile}
use Rattle.pssm_xmi.specs.Faults.{of_unmet, HasSecondFault, byte_of, rank_of, IsFirstSecondFault}
use Rattle.pssm_xmi.specs.Faults.HasSecondFault.{reference, many}

-- ---- flaws

-- all flaws, in their order
abbrev all_flaws : List Flaw
all_flaws =
    flaws.DoubleId ∷ flaws.Unsupported unread.Root ∷ flaws.Unsupported unread.Href ∷ flaws.Unsupported unread.Submachine
    ∷ flaws.Unsupported unread.Event ∷ flaws.Unsupported unread.OtherType ∷ flaws.Unsupported unread.Several
    ∷ flaws.Unsupported unread.Language ∷ flaws.Unsupported unread.DoubleName ∷ flaws.Unsupported unread.LongName
    ∷ flaws.Unsupported unread.Value ∷ flaws.Unsupported unread.TooMany ∷ flaws.Missing owed.Type ∷ flaws.Missing owed.Source
    ∷ flaws.Missing owed.Target ∷ flaws.Missing owed.Event ∷ flaws.Missing owed.Signal ∷ flaws.Missing owed.Id ∷ []

-- the flaw at a place of the order
abbrev flaw_at : ℕ → Flaw
flaw_at n = unwrap_or (slice_get all_flaws n) flaws.DoubleId

at_place : (f : Flaw) → flaw_at (place_of f) ≡ f
at_place flaws.DoubleId = refl
at_place (flaws.Unsupported unread.Root) = refl
at_place (flaws.Unsupported unread.Href) = refl
at_place (flaws.Unsupported unread.Submachine) = refl
at_place (flaws.Unsupported unread.Event) = refl
at_place (flaws.Unsupported unread.OtherType) = refl
at_place (flaws.Unsupported unread.Several) = refl
at_place (flaws.Unsupported unread.Language) = refl
at_place (flaws.Unsupported unread.DoubleName) = refl
at_place (flaws.Unsupported unread.LongName) = refl
at_place (flaws.Unsupported unread.Value) = refl
at_place (flaws.Unsupported unread.TooMany) = refl
at_place (flaws.Missing owed.Type) = refl
at_place (flaws.Missing owed.Source) = refl
at_place (flaws.Missing owed.Target) = refl
at_place (flaws.Missing owed.Event) = refl
at_place (flaws.Missing owed.Signal) = refl
at_place (flaws.Missing owed.Id) = refl

-- A flaw's place determines it.
pub same_flaw : (f g : Flaw) → place_of f ≡ place_of g → f ≡ g
same_flaw f g same = sym (at_place f) ∙ ap flaw_at same ∙ at_place g

-- ---- faults of references and counts

same_unmet : (one other : Unmet) → byte_of (of_unmet one) ≡ byte_of (of_unmet other) → rank_of (of_unmet one) ≡ rank_of (of_unmet other)
    → of_unmet one ≡ of_unmet other
same_unmet (unmet.Unknown at) (unmet.Unknown to) byte rank = ap (λ (n : ℕ). let f : XmiFault = faults.UnknownRef n in f) byte
same_unmet (unmet.Unknown at) (unmet.Event to) byte rank = absurd (omega (arith, rank))
same_unmet (unmet.Event at) (unmet.Unknown to) byte rank = absurd (omega (arith, rank))
same_unmet (unmet.Event at) (unmet.Event to) byte rank = ap (λ (n : ℕ). let f : XmiFault = faults.Unsupported n unread.Event in f) byte

no_count : (one : Unmet) (to : ℕ) → rank_of (of_unmet one) ≡ rank_of (faults.Unsupported to unread.TooMany) → ⊥
no_count (unmet.Unknown at) to rank = absurd (omega (arith, rank))
no_count (unmet.Event at) to rank = absurd (omega (arith, rank))

same_second : (file : ModelFile) (f g : XmiFault) → HasSecondFault file f → HasSecondFault file g → byte_of f ≡ byte_of g → rank_of f ≡ rank_of g → f ≡ g
same_second file f g (reference {one = one} a) (reference {one = other} b) byte rank = same_unmet one other byte rank
same_second file f g (reference {one = one} a) (many {byte = to} b c) byte rank = absurd (no_count one to rank)
same_second file f g (many {byte = at} b c) (reference {one = other} a) byte rank = absurd (no_count other at (sym rank))
same_second file f g (many {byte = at} a c) (many {byte = to} b d) byte rank = ap (λ (n : ℕ). let f : XmiFault = faults.Unsupported n unread.TooMany in f) byte

-- One of them is the first, and no other.
pub one_first : (file : ModelFile) (f g : XmiFault) → IsFirstSecondFault file f → IsFirstSecondFault file g → f ≡ g
one_first file f g first other =
    let less : byte_of f < byte_of g → ⊥ = λ l. other.first f first.has (inl l) in
    let more : byte_of g < byte_of f → ⊥ = λ l. first.first g other.has (inl l) in
    let byte : byte_of f ≡ byte_of g = omega (arith, less, more) in
    let under : rank_of f < rank_of g → ⊥ = λ l. other.first f first.has (inr (byte, l)) in
    let over : rank_of g < rank_of f → ⊥ = λ l. first.first g other.has (inr (sym byte, l)) in
    let rank : rank_of f ≡ rank_of g = omega (arith, under, over) in
    same_second file f g first.has other.has byte rank
