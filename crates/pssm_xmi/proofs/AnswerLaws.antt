-- A file has one answer.
use Rattle.std.proofs.Common.{◌≡◌, ℕ, suc, List, [], ◌∷◌, length, Some, refl, sym, ap, subst, ◌∙◌, arith}
use Rattle.std.specs.Prelude.{slice_get, option_map}
use Rattle.pssm_model.specs.declared.draft_setting.Draft.{Draft}
use Rattle.pssm_xml.specs.declared.fault.TextFault.{TextFault}
use Rattle.pssm_xml.specs.Documents.{Element}
use Rattle.pssm_xml.specs.TextFaults.{HasElements}
use Rattle.pssm_xml.specs.Faults.{IsTextFault}
use Rattle.pssm_roles.specs.declared.role.Role.{Role}
use Rattle.pssm_roles.specs.Roles.{AreRolesOf}
use Rattle.pssm_profile.specs.declared.fault.XmiFault.{XmiFault}
use Rattle.pssm_profile.specs.declared.flaw.Flaw.{Flaw}
use Rattle.pssm_profile.specs.Faults.{place_of, of_text, fault_at, IsFirstFlaw, IsProfileFault, HasNoProfileFault}
use Rattle.pssm_numbering.specs.Numbering.{ModelFile, file_of}
use Rattle.pssm_drafting.specs.Drafts.{draft_of}
use Rattle.pssm_xmi.specs.Faults.{IsFirstSecondFault, IsFileOf, IsXmiFault, ReadsDraft}
use Rattle.pssm_xmi.specs.Faults.IsXmiFault.{text, first, second}
use Rattle.pssm_xmi.proofs.Known.{OneRole}
use Rattle.pssm_xmi.proofs.OrderLaws.{same_flaw, one_first}

-- Lists that are as long and have the same at each place are one list.
same_lists : {X : Type 0} (xs ys : List X) → length xs ≡ length ys
    → ((n : ℕ) (x y : X) → slice_get xs n ≡ Some x → slice_get ys n ≡ Some y → x ≡ y) → xs ≡ ys
same_lists [] [] counted each = refl
same_lists [] (y ∷ ys) counted each = absurd (omega (arith, counted))
same_lists (x ∷ xs) [] counted each = absurd (omega (arith, counted))
same_lists (x ∷ xs) (y ∷ ys) counted each =
    ap (λ a. a ∷ xs) (each 0 x y refl refl)
    ∙ ap (λ more. y ∷ more) (same_lists xs ys (omega (arith, counted)) (λ n a b at there. each (suc n) a b at there))

-- The fault of no flaw.
no_flaw : (doc : List Element) (f : XmiFault) → HasNoProfileFault doc → IsProfileFault doc f → ⊥
no_flaw doc f none is = none is.element is.flaw is.first.has

-- What is told of one text by which elements it has, which roles and which flaw.
pub record OneText : Type 0 where
  pub tree : (bytes : List ℕ) (d e : List Element) → HasElements bytes d → HasElements bytes e → d ≡ e
  pub apart : (bytes : List ℕ) (d : List Element) (f : TextFault) → HasElements bytes d → IsTextFault bytes f → ⊥
  pub fault : (bytes : List ℕ) (f g : TextFault) → IsTextFault bytes f → IsTextFault bytes g → f ≡ g
  pub role : OneRole
  pub flaw : (doc : List Element) (n m : ℕ) (one other : Flaw) → IsFirstFlaw doc n one → IsFirstFlaw doc m other → (n ≡ m) × (place_of one ≡ place_of other)

module _ (one : OneText) where
  same_roles : (doc : List Element) (rs ss : List Role) → AreRolesOf doc rs → AreRolesOf doc ss → rs ≡ ss
  same_roles doc rs ss are other =
      same_lists rs ss (are.counted ∙ sym other.counted) (λ n r s at there. one.role doc n r s (are.roles_are n r at) (other.roles_are n s there))

  same_file : (bytes : List ℕ) (f g : ModelFile) → IsFileOf bytes f → IsFileOf bytes g → f ≡ g
  same_file bytes f g is other =
      let doc = one.tree bytes f.doc g.doc is.text other.text in
      let roles = same_roles g.doc f.roles g.roles (subst (λ d. AreRolesOf d f.roles) doc is.roles) other.roles in
      ap (λ d. file_of d f.roles) doc ∙ ap (file_of g.doc) roles

  same_profile : (doc : List Element) (f g : XmiFault) → IsProfileFault doc f → IsProfileFault doc g → f ≡ g
  same_profile doc f g is other =
      let same = one.flaw doc is.element other.element is.flaw other.flaw is.first other.first in
      let flaw = same_flaw is.flaw other.flaw same.1 in
      let begins : Some is.at ≡ Some other.at = sym is.begins ∙ ap (λ n. option_map (λ (e : Element). e.at) (slice_get doc n)) same.0 ∙ other.begins in
      let at : is.at ≡ other.at = cc in
      is.told ∙ ap (λ n. fault_at n is.flaw) at ∙ ap (fault_at other.at) flaw ∙ sym other.told

  -- ---- one draft

  pub one_draft : (bytes : List ℕ) (d e : Draft) → ReadsDraft bytes d → ReadsDraft bytes e → d ≡ e
  one_draft bytes d e reads other =
      reads.is_draft ∙ ap draft_of (same_file bytes reads.file other.file reads.is_file other.is_file) ∙ sym other.is_draft

  -- ---- a draft and a fault

  pub apart_from : (bytes : List ℕ) (d : Draft) (f : XmiFault) → ReadsDraft bytes d → IsXmiFault bytes f → ⊥
  apart_from bytes d f reads (text {fault = t} is) = one.apart bytes reads.file.doc t reads.is_file.text is
  apart_from bytes d f reads (first {file = file} is wrong) =
      let same = same_file bytes file reads.file is reads.is_file in
      no_flaw reads.file.doc f reads.none_first (subst (λ (x : ModelFile). IsProfileFault x.doc f) same wrong)
  apart_from bytes d f reads (second {file = file} is none wrong) =
      let same = same_file bytes file reads.file is reads.is_file in
      reads.none_second f (subst (λ (x : ModelFile). IsFirstSecondFault x f) same wrong).has

  -- ---- one fault

  text_or_file : {P : Type 0} (bytes : List ℕ) (t : TextFault) (file : ModelFile) → IsTextFault bytes t → IsFileOf bytes file → P
  text_or_file bytes t file wrong is = absurd (one.apart bytes file.doc t is.text wrong)

  first_or_second : {P : Type 0} (bytes : List ℕ) (a b : ModelFile) (f : XmiFault) → IsFileOf bytes a → IsProfileFault a.doc f
      → IsFileOf bytes b → HasNoProfileFault b.doc → P
  first_or_second bytes a b f is wrong other none =
      absurd (no_flaw b.doc f none (subst (λ (x : ModelFile). IsProfileFault x.doc f) (same_file bytes a b is other) wrong))

  pub one_fault : (bytes : List ℕ) (f g : XmiFault) → IsXmiFault bytes f → IsXmiFault bytes g → f ≡ g
  one_fault bytes f g (text {fault = s} a) (text {fault = t} b) = ap of_text (one.fault bytes s t a b)
  one_fault bytes f g (text {fault = s} a) (first {file = file} is b) = text_or_file bytes s file a is
  one_fault bytes f g (text {fault = s} a) (second {file = file} is none b) = text_or_file bytes s file a is
  one_fault bytes f g (first {file = file} is a) (text {fault = t} b) = text_or_file bytes t file b is
  one_fault bytes f g (first {file = x} is a) (first {file = y} other b) =
      same_profile y.doc f g (subst (λ (z : ModelFile). IsProfileFault z.doc f) (same_file bytes x y is other) a) b
  one_fault bytes f g (first {file = x} is a) (second {file = y} other none b) = first_or_second bytes x y f is a other none
  one_fault bytes f g (second {file = file} is none a) (text {fault = t} b) = text_or_file bytes t file b is
  one_fault bytes f g (second {file = x} is none a) (first {file = y} other b) = first_or_second bytes y x g other b is none
  one_fault bytes f g (second {file = x} is none a) (second {file = y} other nothing b) =
      one_first y f g (subst (λ (z : ModelFile). IsFirstSecondFault z f) (same_file bytes x y is other) a) b
