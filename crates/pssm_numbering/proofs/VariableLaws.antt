-- One notion of a variable.
use Rattle.std.proofs.Common.{◌≡◌, ◌<◌, ◌≤◌, ◌↔◌, ◌∙◌, ℕ, zero, suc, Bool, true, false, not, ◌&&◌, ◌==◌, List, [], ◌∷◌, length, Option, Some, None, refl, sym, ap, subst, arith}
use Rattle.std.specs.Prelude.{slice_get, bytes_eq, codes, nat_le, unwrap_or, IsTrue}
use Rattle.std.specs.List.{list_any}
use Rattle.pssm_spelling.specs.Spelling.{is_name_text}
use Rattle.pssm_xml.specs.Documents.{Element}
use Rattle.pssm_xml.specs.Elements.{value_or_empty, children}
use Rattle.pssm_roles.specs.Roles.{AreRolesOf, HasRole, is_typed}
use Rattle.pssm_roles.specs.Roles.HasRole.{root, child}
use Rattle.pssm_roles.specs.declared.role.Role.{Role}
use Rattle.pssm_roles.specs.declared.role.Role.TheVariants as role
use Rattle.pssm_values.specs.Names.{reserved_words, CanNameVariable}
use Rattle.pssm_profile.specs.Counts.{references_count}
use Rattle.pssm_profile.specs.Kinds.{IsVariable}
use Rattle.pssm_profile.proofs.ChildLaws.{element_there}
use Rattle.pssm_numbering.specs.Numbering.{ModelFile, is_attribute, role_at}
use Rattle.pssm_numbering.specs.Meanings.{can_name_variable, are_plain, has_plain_type, has_plain_default, is_variable}

-- ---- tests

left_of : (a b : Bool) → IsTrue (a && b) → IsTrue a
left_of true b so = refl
left_of false b so = so

right_of : (a b : Bool) → IsTrue (a && b) → IsTrue b
right_of true b so = so
right_of false b so = absurd (let wrong : false ≡ true = so in cc)

both : (a b : Bool) → IsTrue a → IsTrue b → IsTrue (a && b)
both true b one other = other
both false b one other = one

turned : (b : Bool) → IsTrue (not b) → b ≡ false
turned true so = absurd (let wrong : false ≡ true = so in cc)
turned false so = refl

-- ---- names

named : (name : List ℕ) → IsTrue (can_name_variable name) ↔ CanNameVariable name
named name = (there, back) where
  short : Bool
  short = nat_le (length name) 64

  free : Bool
  free = not (list_any (bytes_eq name) reserved_words)

  there : IsTrue (can_name_variable name) → CanNameVariable name
  there so =
      let front = left_of (is_name_text name && short) free so in
      let few : nat_le (length name) 64 ≡ true = right_of (is_name_text name) short front in
      record {
        name = record { spelled = left_of (is_name_text name) short front; short = grind (arith, few) };
        free = turned (list_any (bytes_eq name) reserved_words) (right_of (is_name_text name && short) free so);
      }

  back : CanNameVariable name → IsTrue (can_name_variable name)
  back can =
      let few : length name ≤ 64 = can.name.short in
      let so : nat_le (length name) 64 ≡ true = grind (arith, few) in
      both (is_name_text name && short) free (both (is_name_text name) short can.name.spelled so) (ap not can.free)

-- ---- counts

none_counted : (count : ℕ) → IsTrue (count == 0) ↔ (count ≡ 0)
none_counted zero = (λ so. refl, λ so. refl)
none_counted (suc count) = (λ so. absurd (let wrong : (suc count == 0) ≡ true = so in grind (arith, wrong)), λ is. absurd (omega (arith, is)))

-- ---- defaults

plain : (xs : List Element) → IsTrue (are_plain xs) ↔ ((e : Element) → xs ≡ e ∷ [] → IsTrue (is_typed (codes "uml:LiteralInteger") e))
plain [] = (λ so e is. absurd cc, λ all. refl)
plain (x ∷ []) = (λ so e is. subst IsTrue (same e is) so, λ all. all x refl) where
  same : (e : Element) → x ∷ [] ≡ e ∷ [] → is_typed (codes "uml:LiteralInteger") x ≡ is_typed (codes "uml:LiteralInteger") e
  same e is = let own : x ≡ e = cc in ap (is_typed (codes "uml:LiteralInteger")) own
plain (x ∷ y ∷ xs) = (λ so e is. absurd (let more : suc (suc (length xs)) ≡ 1 = ap length is in omega (arith, more)), λ all. refl)

-- ---- roles

attribute_is : (r : Role) → IsTrue (is_attribute r) → r ≡ role.Attribute
attribute_is role.Attribute so = refl
attribute_is _ so = absurd cc

in_doc : (doc : List Element) (n : ℕ) (e : Element) → slice_get doc n ≡ Some e → n < length doc
in_doc [] n e at = absurd cc
in_doc (x ∷ doc) zero e at = omega arith
in_doc (x ∷ doc) (suc n) e at = let more = in_doc doc n e at in omega (arith, more)

among : {doc : List Element} {n : ℕ} {r : Role} → HasRole doc n r → n < length doc
among {doc = doc} {n = n} (root {e = e} at none) = in_doc doc n e at
among {doc = doc} {n = n} (child {e = e} at in_p above) = in_doc doc n e at

-- An element has one role.
abbrev pub OneRole : Type 0
OneRole = (doc : List Element) (n : ℕ) (r s : Role) → HasRole doc n r → HasRole doc n s → r ≡ s

module _ (one_role : OneRole) (file : ModelFile) (are : AreRolesOf file.doc file.roles) (n : ℕ) where
  attribute : IsTrue (is_attribute (role_at file n)) ↔ HasRole file.doc n role.Attribute
  attribute = (there (slice_get file.roles n) refl, back) where
    there : (o : Option Role) → slice_get file.roles n ≡ o → IsTrue (is_attribute (role_at file n)) → HasRole file.doc n role.Attribute
    there None is so = absurd (let wrong : false ≡ true = sym (ap (λ (o : Option Role). is_attribute (unwrap_or o role.Passed)) is) ∙ so in cc)
    there (Some r) is so =
        let own : is_attribute r ≡ true = sym (ap (λ (o : Option Role). is_attribute (unwrap_or o role.Passed)) is) ∙ so in
        subst (HasRole file.doc n) (attribute_is r own) (are.roles_are n r is)

    back : HasRole file.doc n role.Attribute → IsTrue (is_attribute (role_at file n))
    back has =
        let less = among has in let counted = are.counted in
        let at = element_there file.roles n (omega (arith, less, counted)) in
        ap (λ (o : Option Role). is_attribute (unwrap_or o role.Passed)) at.1
        ∙ ap is_attribute (one_role file.doc n at.0 role.Attribute (are.roles_are n at.0 at.1) has)

  pub same_variable : IsTrue (is_variable file n) ↔ IsVariable file.doc n
  same_variable = (there, back) where
    name : Bool
    name = can_name_variable (value_or_empty file.doc n (codes "name"))

    count : ℕ
    count = references_count file.doc n (codes "association")

    is : Bool
    is = is_attribute (role_at file n)

    type : Bool
    type = has_plain_type file n

    default : Bool
    default = has_plain_default file n

    there : IsTrue (is_variable file n) → IsVariable file.doc n
    there so =
        let four = left_of (is && name && (count == 0) && type) default so in
        let three = left_of (is && name && (count == 0)) type four in
        let two = left_of (is && name) (count == 0) three in
        record {
          attribute = attribute.0 (left_of is name two);
          named = (named (value_or_empty file.doc n (codes "name"))).0 (right_of is name two);
          no_association = (none_counted count).0 (right_of (is && name) (count == 0) three);
          primitive = right_of (is && name && (count == 0)) type four;
          integer = (plain (children file.doc n (codes "defaultValue"))).0 (right_of (is && name && (count == 0) && type) default so);
        }

    back : IsVariable file.doc n → IsTrue (is_variable file n)
    back variable =
        let two = both is name (attribute.1 variable.attribute) ((named (value_or_empty file.doc n (codes "name"))).1 variable.named) in
        let three = both (is && name) (count == 0) two ((none_counted count).1 variable.no_association) in
        let four = both (is && name && (count == 0)) type three variable.primitive in
        both (is && name && (count == 0) && type) default four ((plain (children file.doc n (codes "defaultValue"))).1 variable.integer)
