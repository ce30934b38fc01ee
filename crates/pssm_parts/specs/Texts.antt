-- The texts of a file: behaviours and guards. Each is computed of any file, and says what the file means where it has no fault.
use Rattle.std.specs.Prelude.{ℕ, Bool, false, List, [], map, Option, option_map, unwrap_or, bytes_eq, codes, if◌then◌else◌}
use Rattle.std.specs.Option.{option_map_or}
use Rattle.pssm_model.specs.declared.draft_setting.Body.{Body}
use Rattle.pssm_model.specs.declared.draft_setting.PartGuard.{PartGuard}
use Rattle.pssm_model.specs.declared.draft_setting.PartGuard.TheVariants as guards
use Rattle.pssm_xml.specs.Documents.{Element}
use Rattle.pssm_xml.specs.Elements.{children}
use Rattle.pssm_roles.specs.declared.role.Role.{Role}
use Rattle.pssm_roles.specs.declared.role.Role.TheVariants as role
use Rattle.pssm_values.specs.Bodies.{behaviour_text}
use Rattle.pssm_values.specs.Ids.{ids_in, only}
use Rattle.pssm_numbering.specs.Numbering.{ModelFile, role_at, child_named}
use Rattle.pssm_numbering.specs.Meanings.{id_of, at_of, is_true}

-- ---- behaviours

-- the texts of the children of this name
abbrev pub texts : List ℕ → ModelFile → ℕ → List (List ℕ)
texts name file n = map (λ (e : Element). e.text) (children file.doc n name)

-- the text of a behaviour or an expression: that of the body that is meant (UML 2.5.1 13.4.7, OpaqueBehavior, and 8.6.16, OpaqueExpression)
abbrev pub text_of : ModelFile → ℕ → List ℕ
text_of file n = unwrap_or (behaviour_text (texts (codes "language") file n) (texts (codes "body") file n)) []

-- a body with this text, which is that of this element
abbrev pub body_with : ModelFile → ℕ → List ℕ → Body
body_with file n text = record { id = id_of file n; at = at_of file n; text = text }

-- the behaviour that stands in an element under a name
abbrev pub behaviour_named : List ℕ → ModelFile → ℕ → Option Body
behaviour_named name file n = option_map (λ b. body_with file b (text_of file b)) (child_named name file n)

-- ---- guards

-- the text of a literal truth value, as guards are written
abbrev pub truth_text : Bool → List ℕ
truth_text b = if b then codes "true" else codes "false"

-- The text, blanks around it dropped, is `else`: its only word is.
abbrev pub says_else : List ℕ → Bool
says_else text = option_map_or (λ word. bytes_eq word (codes "else")) (only (ids_in text)) false

-- what a value makes of a guard: a literal truth value is its text, `else` is no text, and any other text is that of the guard (UML 2.5.1 14.2.3.8 and 14.2.3.7)
abbrev pub guard_with : ModelFile → (guard value : ℕ) → PartGuard
guard_with file g v = by_role (role_at file v) where
  by_role : Role → PartGuard
  by_role role.Literal = guards.Given (body_with file g (truth_text (is_true (codes "value") file v)))
  by_role _ = if says_else (text_of file v) then guards.Otherwise else guards.Given (body_with file g (text_of file v))

-- the guard that an element is: without a value it is missing
abbrev pub guard_of : ModelFile → ℕ → PartGuard
guard_of file g = option_map_or (guard_with file g) (child_named (codes "specification") file g) guards.Missing
