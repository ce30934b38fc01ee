-- Languages and bodies, one child after another.
use Rattle.std.proofs.Common.{◌≡◌, ◌<◌, ◌≤◌, ◌+◌, ◌++◌, ◌↔◌, ℕ, zero, suc, Bool, true, false, cond, List, [], ◌∷◌, map, length, take, filter, Option, Some, None, refl, sym, ap, subst, ◌∙◌, arith, append-nil, length-append}
use Rattle.std.proofs.lemmas.List.{length-map, map-append}
use Rattle.std.specs.Prelude.{slice_get, option_map, bytes_eq, codes, position, nat_lt}
use Rattle.std.proofs.lemmas.Option.{same_Some}
use Rattle.pssm_xml.specs.Documents.{Element}
use Rattle.pssm_xml.specs.Elements.{HasText, IsParent, IsNextChild, is_child_of}
use Rattle.pssm_values.specs.Bodies.{HasSeen, is_language, body_at, meant_body, meant_text, behaviour_text}
use Rattle.pssm_values.specs.declared.bodies.BodyChoice.{BodyChoice}
use Rattle.pssm_values.specs.declared.bodies.MeantBody.TheVariants.{At, Unread}
use Rattle.pssm_profile.specs.inner.Children.{before, named_child}
use Rattle.pssm_profile.specs.inner.Texts.{own_text, HasSeenTo, IsBehind}
use Rattle.pssm_profile.proofs.ChildLaws.{element_there, at_first, at_next}

-- The child has the name, or it has not.
pub named_so : (doc : List Element) (n : ℕ) (name : List ℕ) (e : Element) (t : Bool) → slice_get doc n ≡ Some e → option_map (λ (x : Element). bytes_eq x.name name) (slice_get doc n) ≡ Some t
    → named_child doc name n ≡ cond t (e ∷ []) []
named_so doc n name e t at called =
    let so : bytes_eq e.name name ≡ t = same_Some (bytes_eq e.name name) t (sym (ap (option_map (λ (x : Element). bytes_eq x.name name)) at) ∙ called) in
    rw at (rw so refl)

pub one_language : (doc : List Element) (n : ℕ) (name text : List ℕ) → n < length doc → option_map (λ (x : Element). bytes_eq x.name name) (slice_get doc n) ≡ Some true → HasText doc n text
    → map own_text (named_child doc name n) ≡ text ∷ []
one_language doc n name text in_doc called has =
    let e = element_there doc n in_doc in
    let own : e.0.text ≡ text = same_Some e.0.text text (sym (ap (option_map (λ (x : Element). x.text)) e.1) ∙ has) in
    ap (map own_text) (named_so doc n name e.0 true e.1 called) ∙ ap (λ (t : List ℕ). t ∷ []) own

pub no_language : (doc : List Element) (n : ℕ) (name : List ℕ) (languages : List (List ℕ)) → n < length doc → option_map (λ (x : Element). bytes_eq x.name name) (slice_get doc n) ≡ Some false
    → languages ++ map own_text (named_child doc name n) ≡ languages
no_language doc n name languages in_doc called =
    let e = element_there doc n in_doc in
    ap (λ (l : List Element). languages ++ map own_text l) (named_so doc n name e.0 false e.1 called) ∙ append-nil languages

pub one_body : (doc : List Element) (n : ℕ) (name : List ℕ) → n < length doc → option_map (λ (x : Element). bytes_eq x.name name) (slice_get doc n) ≡ Some true
    → length (named_child doc name n) ≡ 1
one_body doc n name in_doc called = let e = element_there doc n in_doc in ap length (named_so doc n name e.0 true e.1 called)

pub no_body : (doc : List Element) (n : ℕ) (name : List ℕ) → n < length doc → option_map (λ (x : Element). bytes_eq x.name name) (slice_get doc n) ≡ Some false
    → length (named_child doc name n) ≡ 0
no_body doc n name in_doc called = let e = element_there doc n in_doc in ap length (named_so doc n name e.0 false e.1 called)

-- What is meant is not read where there is no text.
pub unread_where : (languages bodies : List (List ℕ)) → (meant_body languages (length bodies) ≡ Unread) ↔ (behaviour_text languages bodies ≡ None)
unread_where languages [] = (λ is. absurd cc, λ is. absurd cc)
unread_where [] (body ∷ []) = (λ is. absurd cc, λ is. absurd cc)
unread_where [] (body ∷ other ∷ bodies) = (λ is. refl, λ is. refl)
unread_where (language ∷ languages) (body ∷ bodies) = by_place (position is_language (language ∷ languages)) where
  there : (place : ℕ) (t : Bool) → nat_lt place (length (body ∷ bodies)) ≡ t
      → (cond t (At place) Unread ≡ Unread) ↔ (meant_text (cond t (At place) Unread) (body ∷ bodies) ≡ None)
  there place false is = (λ same. refl, λ same. refl)
  there place true is =
      let less : place < length (body ∷ bodies) = grind (arith, is) in
      let e = element_there (body ∷ bodies) place less in
      (λ same. absurd cc, λ none. absurd (let wrong : Some e.0 ≡ None = sym e.1 ∙ none in cc))

  by_place : (o : Option ℕ) → (body_at (length (body ∷ bodies)) o ≡ Unread) ↔ (meant_text (body_at (length (body ∷ bodies)) o) (body ∷ bodies) ≡ None)
  by_place None = (λ is. refl, λ is. refl)
  by_place (Some place) = there place (nat_lt place (length (body ∷ bodies))) refl

-- ---- the loop

pub behind_first : (doc : List Element) (p : ℕ) (o : Option ℕ) → IsNextChild doc p 0 o → IsBehind doc p 0 o
behind_first doc p None next = tt
behind_first doc p (Some m) next = (omega arith, next.1)

pub behind_next : (doc : List Element) (p turn child : ℕ) (o : Option ℕ) → turn ≤ child → IsNextChild doc p (suc child) o → IsBehind doc p (turn + 1) o
behind_next doc p turn child None le next = tt
behind_next doc p turn child (Some m) le next = let more = next.0 in (omega (arith, le, more), next.1)

pub seen_first : (doc : List Element) (p : ℕ) (o : Option ℕ) (choice : BodyChoice) → HasSeen choice [] 0 → IsNextChild doc p 0 o → HasSeenTo doc p o choice
seen_first doc p o choice seen next =
    subst (λ (l : List Element). HasSeen choice (map own_text l) (length (before doc p (codes "body") o))) (sym (at_first doc p (codes "language") o next))
    (subst (λ (l : List Element). HasSeen choice [] (length l)) (sym (at_first doc p (codes "body") o next)) seen)

pub seen_next : (doc : List Element) (p m : ℕ) (o : Option ℕ) (choice : BodyChoice) → IsParent doc p m → IsNextChild doc p (suc m) o
    → HasSeen choice (map own_text (before doc p (codes "language") (Some m)) ++ map own_text (named_child doc (codes "language") m))
    (length (before doc p (codes "body") (Some m)) + length (named_child doc (codes "body") m))
    → HasSeenTo doc p o choice
seen_next doc p m o choice is next seen =
    let languages : map own_text (before doc p (codes "language") o) ≡ map own_text (before doc p (codes "language") (Some m)) ++ map own_text (named_child doc (codes "language") m) =
    ap (map own_text) (at_next doc p m (codes "language") o is next) ∙ map-append own_text (before doc p (codes "language") (Some m)) (named_child doc (codes "language") m) in
    let bodies : length (before doc p (codes "body") o) ≡ length (before doc p (codes "body") (Some m)) + length (named_child doc (codes "body") m) =
    ap length (at_next doc p m (codes "body") o is next) ∙ length-append (before doc p (codes "body") (Some m)) (named_child doc (codes "body") m) in
    subst (λ (l : List (List ℕ)). HasSeen choice l (length (before doc p (codes "body") o))) (sym languages)
    (subst (λ (k : ℕ). HasSeen choice (map own_text (before doc p (codes "language") (Some m)) ++ map own_text (named_child doc (codes "language") m)) k) (sym bodies) seen)

few_filtered : (t : Element → Bool) (xs : List Element) → length (filter t xs) ≤ length xs
few_filtered t [] = omega arith
few_filtered t (x ∷ xs) = by_test (t x) (few_filtered t xs) where
  by_test : (b : Bool) → length (filter t xs) ≤ length xs → length (cond b (x ∷ filter t xs) (filter t xs)) ≤ suc (length xs)
  by_test true le = omega (arith, le)
  by_test false le = omega (arith, le)

few_taken : (doc : List Element) (m : ℕ) → length (take m doc) ≤ length doc
few_taken [] zero = omega arith
few_taken [] (suc m) = omega arith
few_taken (e ∷ es) zero = omega arith
few_taken (e ∷ es) (suc m) = let le = few_taken es m in omega (arith, le)

pub few_before : (doc : List Element) (p m : ℕ) (name : List ℕ) → length (before doc p name (Some m)) ≤ length doc
few_before doc p m name = let few = few_filtered (is_child_of p name) (take m doc) in let all = few_taken doc m in omega (arith, few, all)

pub few_languages : (doc : List Element) (p m : ℕ) (choice : BodyChoice) → HasSeenTo doc p (Some m) choice → choice.languages ≤ length doc
few_languages doc p m choice seen =
    let same = seen.languages_counted ∙ length-map (before doc p (codes "language") (Some m)) own_text in let few = few_before doc p m (codes "language") in omega (arith, same, few)
