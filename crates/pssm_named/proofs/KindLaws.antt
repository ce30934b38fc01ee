-- In a file without faults the names of a kind are names, and later ones are others.
use Rattle.std.proofs.Common.{◌≢◌, ◌<◌, ◌≤◌, ℕ, List, length, inl, inr}
use Rattle.std.specs.Prelude.{codes}
use Rattle.std.proofs.lemmas.Bool.{cases_lt}
use Rattle.pssm_spelling.specs.Spelling.{IsName}
use Rattle.pssm_xml.specs.Documents.{Element}
use Rattle.pssm_xml.specs.Elements.{value_or_empty}
use Rattle.pssm_roles.specs.Roles.{HasRole}
use Rattle.pssm_roles.specs.declared.role.Role.{Role}
use Rattle.pssm_roles.specs.declared.role.Role.TheVariants as role
use Rattle.pssm_values.proofs.NameLaws.{is_spelled}
use Rattle.pssm_profile.specs.Faults.{HasNoProfileFault}
use Rattle.pssm_profile.specs.Flaws.HasFlaw.{by_role}
use Rattle.pssm_profile.specs.Kinds.{Kind, IsOfKind, name_of}
use Rattle.pssm_profile.specs.Kinds.Kind.{signals, classes, objects}
use Rattle.pssm_profile.specs.declared.flaw.Flaw.TheVariants as flaws
use Rattle.pssm_profile.specs.declared.flaw.Unread.TheVariants as unread

-- What is of a kind has a role.
its_role : (doc : List Element) (kind : Kind) (n : ℕ) → IsOfKind doc kind n → (r : Role) × HasRole doc n r
its_role doc signals n is = (role.Signal, is)
its_role doc classes n (inl is) = (role.ActiveClass, is)
its_role doc classes n (inr is) = (role.ClassMachine, is)
its_role doc objects n is = (role.Instance, is.instance)

module _ (doc : List Element) (faultless : HasNoProfileFault doc) (kind : Kind) where
  short : (n : ℕ) → IsOfKind doc kind n → length (name_of doc n) ≤ 64
  short n is = elim (cases_lt 64 (length (name_of doc n))) [
    | inl long ↦ absurd (let r = its_role doc kind n is in faultless n (flaws.Unsupported unread.LongName) (by_role r.0 r.1 (kind, is, long)))
    | inr few ↦ few
  ]

  -- Its name is one.
  pub named : (n : ℕ) → IsOfKind doc kind n → IsName (name_of doc n)
  named n is = record { spelled = is_spelled (value_or_empty doc n (codes "name")); short = short n is }

  -- What comes later has another name.
  pub differ : (m n : ℕ) → IsOfKind doc kind m → IsOfKind doc kind n → m < n → name_of doc m ≢ name_of doc n
  differ m n is later before same =
      let r = its_role doc kind n later in
      faultless n (flaws.Unsupported unread.DoubleName)
      (by_role r.0 r.1 (record { kind = kind; of = later; earlier = m; before = before; same = (is, same) }))
