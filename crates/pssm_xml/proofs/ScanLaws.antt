-- Words are looked for from the left.
use Rattle.std.proofs.Common.{◌≡◌, ◌<◌, ℕ, ◌+◌, List, [], ◌∷◌, ◌++◌, take, drop, length, get_or, Option, Some, None, refl, sym, ◌∙◌, ap, append_assoc}
use Rattle.std.specs.Prelude.{option_map}
use Rattle.std.proofs.lemmas.List.{take_more, drop_more, append-nil}
use Rattle.pssm_spelling.specs.SpellingReading.{stripped}
use Rattle.pssm_xml.specs.inner.Reading.{until, until_here, with_first, with_text_before}

-- nothing before
pub nothing_before : (r : Option (List ℕ × List ℕ)) → option_map (with_text_before []) r ≡ r
nothing_before None = refl
nothing_before (Some r) = refl

-- one character between
between : (front : List ℕ) (c : ℕ) (r : Option (List ℕ × List ℕ)) → option_map (with_text_before front) (option_map (with_first c) r) ≡ option_map (with_text_before (front ++ c ∷ [])) r
between front c None = refl
between front c (Some r) = ap (λ t. Some (t, r.1)) (sym (append_assoc front (c ∷ []) r.0))

-- one turn further
pub until_turn : (word bytes : List ℕ) (i : ℕ) → i < length bytes → None ≡ stripped word (drop i bytes)
    → until word bytes ≡ option_map (with_text_before (take i bytes)) (until word (drop i bytes))
    → until word bytes ≡ option_map (with_text_before (take (i + 1) bytes)) (until word (drop (i + 1) bytes))
until_turn word bytes i within none before =
    let c = get_or bytes i 0 in let parts : drop i bytes ≡ c ∷ drop (i + 1) bytes = drop_more bytes i 0 within in
    let none_at : None ≡ stripped word (c ∷ drop (i + 1) bytes) = none ∙ ap (stripped word) parts in
    before ∙ ap (λ t. option_map (with_text_before (take i bytes)) (until word t)) parts
    ∙ ap (λ r. option_map (with_text_before (take i bytes)) (until_here r (option_map (with_first c) (until word (drop (i + 1) bytes))))) (sym none_at)
    ∙ between (take i bytes) c (until word (drop (i + 1) bytes))
    ∙ ap (λ t. option_map (with_text_before t) (until word (drop (i + 1) bytes))) (sym (take_more bytes i 0 within))

-- the word stands there
pub until_found : (word bytes more : List ℕ) (i : ℕ) → i < length bytes → Some more ≡ stripped word (drop i bytes)
    → until word bytes ≡ option_map (with_text_before (take i bytes)) (until word (drop i bytes)) → Some (take i bytes, more) ≡ until word bytes
until_found word bytes more i within found before =
    let c = get_or bytes i 0 in let parts : drop i bytes ≡ c ∷ drop (i + 1) bytes = drop_more bytes i 0 within in
    let at : Some more ≡ stripped word (c ∷ drop (i + 1) bytes) = found ∙ ap (stripped word) parts in
    sym (before ∙ ap (λ t. option_map (with_text_before (take i bytes)) (until word t)) parts
    ∙ ap (λ r. option_map (with_text_before (take i bytes)) (until_here r (option_map (with_first c) (until word (drop (i + 1) bytes))))) (sym at)
    ∙ ap (λ t. Some (t, more)) (append-nil (take i bytes)))
