-- Which body of a behaviour or of a guard is meant: its languages and its bodies belong together by their places (UML 2.5.1 13.4, OpaqueBehavior, and
-- 8.6, OpaqueExpression).
use Rattle.std.specs.Prelude.{◌≡◌, ℕ, zero, suc, Bool, List, [], ◌∷◌, length, map, position, Option, Some, None, slice_get, nat_lt, bytes_eq, codes, if◌then◌else◌}
use Rattle.std.specs.Char.{to_ascii_lowercase}
use Rattle.pssm_values.specs.declared.bodies.BodyChoice.{BodyChoice}
use Rattle.pssm_values.specs.declared.bodies.MeantBody.{MeantBody}
use Rattle.pssm_values.specs.declared.bodies.MeantBody.TheVariants.{Nothing, At, Unread}

-- The language is `pssm`, in any case of its letters; blanks are not dropped (this profile's choice).
abbrev pub is_language : List ℕ → Bool
is_language language = bytes_eq (map to_ascii_lowercase language) (codes "pssm")

-- the body at this place, where there is one; where there is none, the behaviour is in a language that is not read
abbrev pub body_at : ℕ → Option ℕ → MeantBody
body_at bodies None = Unread
body_at bodies (Some place) = if nat_lt place bodies then At place else Unread

-- the body that is meant among so many, where these are the languages: without a body the text is empty; without languages it is the only body; with languages
-- it is the one at the place of the first language that is `pssm` (this profile's choice)
abbrev pub meant_body : List (List ℕ) → ℕ → MeantBody
meant_body languages zero = Nothing
meant_body [] (suc zero) = At 0
meant_body [] (suc (suc more)) = Unread
meant_body (language ∷ languages) (suc more) = body_at (suc more) (position is_language (language ∷ languages))

-- the text of the body that is meant; none where it is not read
abbrev pub meant_text : MeantBody → List (List ℕ) → Option (List ℕ)
meant_text Nothing bodies = Some []
meant_text (At place) bodies = slice_get bodies place
meant_text Unread bodies = None

-- the text of a behaviour with these languages and bodies; none where it is in a language that is not read
abbrev pub behaviour_text : List (List ℕ) → List (List ℕ) → Option (List ℕ)
behaviour_text languages bodies = meant_text (meant_body languages (length bodies)) bodies

-- The choice has seen these languages and so many bodies.
pub record HasSeen (choice : BodyChoice) (languages : List (List ℕ)) (bodies : ℕ) : Type 0 where
  pub languages_counted : choice.languages ≡ length languages
  pub first : choice.pssm ≡ position is_language languages
  pub bodies_counted : choice.bodies ≡ bodies
