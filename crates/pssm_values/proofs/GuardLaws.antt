-- `else` among blanks.
use Rattle.std.proofs.Common.{◌≡◌, ℕ, Bool, true, false, List, ◌++◌, length, take, drop, Some, None, refl, sym, ap, subst, ◌∙◌, append_assoc}
use Rattle.std.specs.Prelude.{codes, IsTrue, ◌↔◌}
use Rattle.std.specs.List.{prefix_len, list_all}
use Rattle.std.proofs.lemmas.List.{take-append-drop}
use Rattle.std.proofs.Math.Seq.{drop-append_seam}
use Rattle.pssm_spelling.specs.SpellingReading.{stripped}
use Rattle.pssm_spelling.proofs.SpellingLaws.{stripped_takes, stripped_again, passes_front, front_again}
use Rattle.pssm_values.specs.Blanks.{is_blank}
use Rattle.pssm_values.specs.Guards.{SaysElse}

-- What follows blanks with a text behind that begins with none.
behind_front : (before more : List ℕ) → list_all is_blank before ≡ true → drop (prefix_len is_blank (before ++ codes "else" ++ more)) (before ++ codes "else" ++ more) ≡ codes "else" ++ more
behind_front before more all =
    let text = before ++ (codes "else" ++ more) in
    let blanks : prefix_len is_blank text ≡ length before = front_again is_blank before (codes "else" ++ more) all refl in
    subst (λ (t : List ℕ). drop (prefix_len is_blank t) t ≡ codes "else" ++ more) (sym (append_assoc before (codes "else") more))
    (ap (λ (n : ℕ). drop n text) blanks ∙ drop-append_seam before (codes "else" ++ more))

found : (body more : List ℕ) → drop (prefix_len is_blank body) body ≡ codes "else" ++ more → list_all is_blank more ≡ true → SaysElse body
found body more parts all = record {
  before = take (prefix_len is_blank body) body;
  behind = more;
  parts = sym (take-append-drop (prefix_len is_blank body) body) ∙ ap (λ (t : List ℕ). take (prefix_len is_blank body) body ++ t) parts
      ∙ sym (append_assoc (take (prefix_len is_blank body) body) (codes "else") more);
  blanks = (passes_front is_blank body, all);
}

-- what is left behind blanks and `else`
said : (body : List ℕ) → SaysElse body → (more : List ℕ) × (drop (prefix_len is_blank body) body ≡ codes "else" ++ more) × (list_all is_blank more ≡ true)
said body says = (says.behind, subst (λ (t : List ℕ). drop (prefix_len is_blank t) t ≡ codes "else" ++ says.behind) (sym says.parts) (behind_front says.before says.behind says.blanks.0), says.blanks.1)

pub else_is : (body rest more : List ℕ) (r : Bool) → rest ≡ drop (prefix_len is_blank body) body → Some more ≡ stripped (codes "else") rest → r ≡ list_all is_blank more → IsTrue r ↔ SaysElse body
else_is body rest more r behind is answer =
    let cut : rest ≡ codes "else" ++ more = stripped_takes (codes "else") rest more (sym is) in (
      λ yes. found body more (sym behind ∙ cut) (sym answer ∙ yes),
      λ says. let s = said body says in
          let again : stripped (codes "else") rest ≡ Some s.0 = ap (stripped (codes "else")) (behind ∙ s.1) ∙ stripped_again (codes "else") s.0 in
          let same : more ≡ s.0 = let e : Some more ≡ Some s.0 = is ∙ again in cc in
          answer ∙ ap (list_all is_blank) same ∙ s.2,
    )

pub else_is_not : (body rest : List ℕ) → rest ≡ drop (prefix_len is_blank body) body → None ≡ stripped (codes "else") rest → IsTrue false ↔ SaysElse body
else_is_not body rest behind is = (
  λ yes. absurd cc,
  λ says. let s = said body says in
      let again : stripped (codes "else") rest ≡ Some s.0 = ap (stripped (codes "else")) (behind ∙ s.1) ∙ stripped_again (codes "else") s.0 in
      absurd (let e : None ≡ Some s.0 = is ∙ again in cc),
)
