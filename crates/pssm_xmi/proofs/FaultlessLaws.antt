-- A file in which nothing is found wrong is faultless.
use Rattle.std.proofs.Common.{◌≡◌, ◌<◌, ℕ, Bool, true, false, List, [], length, Option, Some, None, refl, ap, subst, arith}
use Rattle.std.specs.Prelude.{Contains, slice_get, option_map, unwrap_or}
use Rattle.std.proofs.lemmas.Option.{slice_get_within}
use Rattle.pssm_xml.specs.Documents.{Element}
use Rattle.pssm_xml.specs.Elements.{BeginsAt}
use Rattle.pssm_roles.specs.declared.role.Role.{Role}
use Rattle.pssm_roles.specs.declared.role.Role.TheVariants as role
use Rattle.pssm_roles.specs.References.{references}
use Rattle.pssm_roles.specs.Roles.{AreRolesOf}
use Rattle.pssm_profile.specs.Faults.{HasNoProfileFault}
use Rattle.pssm_profile.proofs.ChildLaws.{element_there}
use Rattle.pssm_numbering.specs.Numbering.{ModelFile, role_at, machines, classes, is_machine, is_class}
use Rattle.pssm_unmet.specs.References.{Followed, followed_of, means_other_event}
use Rattle.pssm_unmet.specs.Unmet.HasUnmet.{unknown, event}
use Rattle.pssm_unmet.proofs.ReferenceLaws.{stand_in, among_stands}
use Rattle.pssm_limits.specs.Limits.{PassesLimit}
use Rattle.pssm_limits.specs.Limits.PassesLimit.{elements, variables}
use Rattle.pssm_xmi.specs.Faultless.{StandBehind, MeansAll, HasNoLimitPassed, IsFaultless}
use Rattle.pssm_xmi.specs.Faults.{HasNoSecondFault}
use Rattle.pssm_xmi.specs.Faults.HasSecondFault.{reference, many}
use Rattle.pssm_xmi.proofs.Tests.{by_test}
use Rattle.pssm_xmi.proofs.Numbers.{stands_at}
use Rattle.pssm_xmi.proofs.Known.{OneRole, has_element, known, with_stands}

-- An element begins somewhere.
begins : (doc : List Element) (n : ℕ) → n < length doc → (byte : ℕ) × BeginsAt doc n byte
begins doc n less = let here = element_there doc n less in (here.0.at, ap (option_map (λ (e : Element). e.at)) here.1)

nothing_followed : {X : Type 0} (x : X) → Contains [] x → ⊥
nothing_followed x has = let less = has.1 in absurd (omega (arith, less))

module _ (one_role : OneRole) (file : ModelFile) (are : AreRolesOf file.doc file.roles) where
  -- what has a followed reference is an element
  follows : (n : ℕ) (f : Followed) → Contains (followed_of (role_at file n)) f → n < length file.doc
  follows n f asked = by_place (slice_get file.roles n) refl where
    by_place : (o : Option Role) → slice_get file.roles n ≡ o → n < length file.doc
    by_place None none =
        absurd (nothing_followed f (subst (λ (r : Role). Contains (followed_of r) f) (ap (λ (o : Option Role). unwrap_or o role.Passed) none) asked))
    by_place (Some r) at = let less = slice_get_within file.roles n r at in let same = are.counted in omega (arith, less, same)

  listed : (is : Role → Bool) (n : ℕ) → is role.Passed ≡ false → is (role_at file n) ≡ true → n < length file.doc
  listed is n other here = has_element file.doc n (role_at file n) (known one_role file are is n other here)

  -- what passes a limit is an element
  past_there : (n : ℕ) → PassesLimit file n → n < length file.doc
  past_there n (elements place at past) = listed is_machine n refl (with_stands file is_machine n (stands_at (machines file) place n at))
  past_there n (variables place at past) = listed is_class n refl (with_stands file is_class n (stands_at (classes file) place n at))

  module _ (none : HasNoSecondFault file) where
    no_limit : HasNoLimitPassed file
    no_limit n passes = let at = begins file.doc n (past_there n passes) in none _ (many passes at.1)

    no_unmet : MeansAll file
    no_unmet target at id is =
        let less = follows is.n _ is.asked in
        let within = among_stands (length file.doc) (references file.doc is.n is.name) (at, id) is.among (stand_in file.doc is.n is.name less) in
        let from = begins file.doc at within in
        by_test (means_other_event file target id)
        (λ other. none _ (reference (event is other from.1)))
        (λ own. none _ (reference (unknown is own from.1)))

    pub faultless : StandBehind file.doc → HasNoProfileFault file.doc → IsFaultless file
    faultless ordered profile = record { ordered = ordered; roles = are; profile = profile; references = no_unmet; limits = no_limit }
