-- What the last form gives, as a loop over the forms finds it.
use Rattle.std.proofs.Common.{◌≡◌, ◌<◌, ◌+◌, ℕ, List, [], ◌∷◌, ◌++◌, take, length, get_or, refl, sym, ◌∙◌, ap, Option, Some, None, Bor}
use Rattle.std.specs.Option.{option_or, option_copied}
use Rattle.std.proofs.lemmas.List.{take_more}
use Rattle.pssm_model.specs.declared.draft_setting.ElementRef.{ElementRef}
use Rattle.pssm_redefine.specs.Forms.{last_given}

or_none : {A : Type 0} (o : Option A) → option_or o None ≡ o
or_none None = refl
or_none (Some x) = refl

or_assoc : {A : Type 0} (a b c : Option A) → option_or (option_or a b) c ≡ option_or a (option_or b c)
or_assoc None b c = refl
or_assoc (Some x) b c = refl

-- one form more
last_given_push : {A : Type 0} (give : ElementRef → Option A) (forms : List ElementRef) (form : ElementRef)
    → last_given give (forms ++ form ∷ []) ≡ option_or (give form) (last_given give forms)
last_given_push give [] form = sym (or_none (give form))
last_given_push give (f ∷ forms) form =
    ap (λ o. option_or o (give f)) (last_given_push give forms form) ∙ or_assoc (give form) (last_given give forms) (give f)

pub last_given_more : {A : Type 0} (give : ElementRef → Option A) (forms : List ElementRef) (i : ℕ) (d : ElementRef) → i < length forms
    → last_given give (take (i + 1) forms) ≡ option_or (give (get_or forms i d)) (last_given give (take i forms))
last_given_more give forms i d lt = ap (last_given give) (take_more forms i d lt) ∙ last_given_push give (take i forms) (get_or forms i d)

-- a choice of what is lent
pub copied_or : {A : Type 0} (a b : Option (Bor A)) → option_copied (option_or a b) ≡ option_or (option_copied a) (option_copied b)
copied_or None b = refl
copied_or (Some x) b = refl

-- a turn of the loop over the forms, for what is lent
pub last_step : {A : Type 0} (give : ElementRef → Option A) (forms : List ElementRef) (i : ℕ) (d : ElementRef) (now last result : Option (Bor A)) → i < length forms
    → option_copied now ≡ give (get_or forms i d) → result ≡ option_or now last → option_copied last ≡ last_given give (take i forms)
    → option_copied result ≡ last_given give (take (i + 1) forms)
last_step give forms i d now last result lt is or before =
    ap option_copied or ∙ copied_or now last ∙ ap (λ o. option_or o (option_copied last)) is ∙ ap (option_or (give (get_or forms i d))) before
    ∙ sym (last_given_more give forms i d lt)

-- the same for what is copied
pub last_step_copied : {A : Type 0} (give : ElementRef → Option A) (forms : List ElementRef) (i : ℕ) (d : ElementRef) (now last result : Option A) → i < length forms
    → now ≡ give (get_or forms i d) → result ≡ option_or now last → last ≡ last_given give (take i forms) → result ≡ last_given give (take (i + 1) forms)
last_step_copied give forms i d now last result lt is or before =
    or ∙ ap (λ o. option_or o last) is ∙ ap (option_or (give (get_or forms i d))) before ∙ sym (last_given_more give forms i d lt)
