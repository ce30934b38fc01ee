-- Slots are put at the end, element by element.
use Rattle.std.proofs.Common.{◌≡◌, ◌<◌, ◌+◌, ℕ, List, [], ◌∷◌, ◌++◌, length, take, get_or, sym, ◌∙◌, ap, Option, Bor}
use Rattle.std.specs.Prelude.{option_and_then}
use Rattle.std.specs.List.{flat_map}
use Rattle.std.specs.Option.{option_copied}
use Rattle.std.proofs.lemmas.List.{map_push, take_more, append-nil, append_assoc}
use Rattle.std.proofs.lemmas.Grind.{flat_map-append}
use Rattle.pssm_model.specs.declared.draft_setting.Body.{Body}
use Rattle.pssm_model.specs.declared.draft_setting.Draft.{Draft}
use Rattle.pssm_model.specs.declared.draft_setting.ElementRef.{ElementRef}
use Rattle.pssm_redefine.specs.Forms.{last_given, given_entry, given_exit, given_steps, given_guard, given_effect, guard_text}
use Rattle.pssm_redefine.specs.Merging.{vertex_slots, transition_slots}
use Rattle.pssm_redefine.specs.inner.Gathered.{lent_bodies}

-- the slots of one element more
flat_more : {A B : Type 0} (f : A → List B) (xs : List A) (i : ℕ) (d : A) → i < length xs → flat_map f (take (i + 1) xs) ≡ flat_map f (take i xs) ++ f (get_or xs i d)
flat_more f xs i d lt =
    ap (flat_map f) (take_more xs i d lt) ∙ flat_map-append f (take i xs) (get_or xs i d ∷ []) ∙ ap (λ ys. flat_map f (take i xs) ++ ys) (append-nil (f (get_or xs i d)))

two_lent : (slots : List (Option (Bor Body))) (a b : Option (Bor Body)) → lent_bodies ((slots ++ a ∷ []) ++ b ∷ []) ≡ lent_bodies slots ++ option_copied a ∷ option_copied b ∷ []
two_lent slots a b =
    map_push option_copied (slots ++ a ∷ []) b ∙ ap (λ xs. xs ++ option_copied b ∷ []) (map_push option_copied slots a)
    ∙ append_assoc (lent_bodies slots) (option_copied a ∷ []) (option_copied b ∷ [])

three_lent : (slots : List (Option (Bor Body))) (a b c : Option (Bor Body))
    → lent_bodies (((slots ++ a ∷ []) ++ b ∷ []) ++ c ∷ []) ≡ lent_bodies slots ++ option_copied a ∷ option_copied b ∷ option_copied c ∷ []
three_lent slots a b c =
    map_push option_copied ((slots ++ a ∷ []) ++ b ∷ []) c ∙ ap (λ xs. xs ++ option_copied c ∷ []) (two_lent slots a b)
    ∙ append_assoc (lent_bodies slots) (option_copied a ∷ option_copied b ∷ []) (option_copied c ∷ [])

-- a turn of the loop over the vertices
pub three_more : {A : Type 0} (f : A → List (Option Body)) (xs : List A) (i : ℕ) (x : A) (slots new : List (Option (Bor Body))) (a b c : Option (Bor Body)) → i < length xs
    → x ≡ get_or xs i x → new ≡ ((slots ++ a ∷ []) ++ b ∷ []) ++ c ∷ [] → f x ≡ option_copied a ∷ option_copied b ∷ option_copied c ∷ []
    → lent_bodies slots ≡ flat_map f (take i xs) → lent_bodies new ≡ flat_map f (take (i + 1) xs)
three_more f xs i x slots new a b c lt at is gives before =
    ap lent_bodies is ∙ three_lent slots a b c ∙ ap (λ ys. lent_bodies slots ++ ys) (sym gives ∙ ap f at) ∙ ap (λ ys. ys ++ f (get_or xs i x)) before
    ∙ sym (flat_more f xs i x lt)

-- a turn of the loop over the transitions
pub two_more : {A : Type 0} (f : A → List (Option Body)) (xs : List A) (i : ℕ) (x : A) (first : List (Option Body)) (slots new : List (Option (Bor Body))) (a b : Option (Bor Body))
    → i < length xs → x ≡ get_or xs i x → new ≡ (slots ++ a ∷ []) ++ b ∷ [] → f x ≡ option_copied a ∷ option_copied b ∷ []
    → lent_bodies slots ≡ first ++ flat_map f (take i xs) → lent_bodies new ≡ first ++ flat_map f (take (i + 1) xs)
two_more f xs i x first slots new a b lt at is gives before =
    ap lent_bodies is ∙ two_lent slots a b ∙ ap (λ ys. lent_bodies slots ++ ys) (sym gives ∙ ap f at) ∙ ap (λ ys. ys ++ f (get_or xs i x)) before
    ∙ append_assoc first (flat_map f (take i xs)) (f (get_or xs i x)) ∙ ap (λ ys. first ++ ys) (sym (flat_more f xs i x lt))

-- the slots of a vertex, as they are read
pub three_slots : (draft : Draft) (forms s1 s2 s3 : List ElementRef) (a b c : Option (Bor Body)) → s1 ≡ forms → s2 ≡ forms → s3 ≡ forms
    → option_copied a ≡ last_given (given_entry draft) s1 → option_copied b ≡ last_given (given_exit draft) s2 → option_copied c ≡ last_given (given_steps draft) s3
    → vertex_slots draft forms ≡ option_copied a ∷ option_copied b ∷ option_copied c ∷ []
three_slots draft forms s1 s2 s3 a b c e1 e2 e3 ga gb gc =
    ap (λ x. x ∷ last_given (given_exit draft) forms ∷ last_given (given_steps draft) forms ∷ []) (sym (ga ∙ ap (last_given (given_entry draft)) e1))
    ∙ ap (λ x. option_copied a ∷ x ∷ last_given (given_steps draft) forms ∷ []) (sym (gb ∙ ap (last_given (given_exit draft)) e2))
    ∙ ap (λ x. option_copied a ∷ option_copied b ∷ x ∷ []) (sym (gc ∙ ap (last_given (given_steps draft)) e3))

-- the slots of a transition
pub two_slots : (draft : Draft) (forms s1 s2 : List ElementRef) (a b : Option (Bor Body)) → s1 ≡ forms → s2 ≡ forms
    → option_copied a ≡ option_and_then guard_text (last_given (given_guard draft) s1) → option_copied b ≡ last_given (given_effect draft) s2
    → transition_slots draft forms ≡ option_copied a ∷ option_copied b ∷ []
two_slots draft forms s1 s2 a b e1 e2 ga gb =
    ap (λ x. x ∷ last_given (given_effect draft) forms ∷ []) (sym (ga ∙ ap (λ s. option_and_then guard_text (last_given (given_guard draft) s)) e1))
    ∙ ap (λ x. option_copied a ∷ x ∷ []) (sym (gb ∙ ap (last_given (given_effect draft)) e2))
