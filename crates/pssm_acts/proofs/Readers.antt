-- What any reader does with tokens, one after another, to the end of the text or to the first fault.
use Rattle.std.proofs.Common.{◌≡◌, List, [], ◌∷◌, ◌++◌, Result, Ok, Err, refl, sym, ap, ◌∙◌, subst, append_assoc}
use Rattle.std.specs.Prelude.{IsErrAnd}
use Rattle.std.proofs.lemmas.List.{append-nil}
use Rattle.pssm_acts.specs.declared.act_fault.ActFault.{ActFault}
use Rattle.pssm_acts.specs.declared.act_fault.ActFault.TheVariants.{Syntax, UnknownName, WideNumber, Arity, TooLong, NoMemory}
use Rattle.pssm_acts.specs.Answers.{Answers}
use Rattle.pssm_acts.specs.inner.ExprReading.{and_then}
use Rattle.pssm_acts.specs.inner.Readers.{read_through}
use Rattle.pssm_acts.specs.Tokens.{Token}

-- The tokens take a reader from one state to another.
pub data Leads {S : Type 0} (step : S → Token → Result S ActFault) : S → List Token → S → Type 0 where
  done : {s : S} → Leads step s [] s
  next : {s m n : S} {t : Token} {ts : List Token} → step s t ≡ Ok m → Leads step m ts n → Leads step s (t ∷ ts) n

pub one : {S : Type 0} {step : S → Token → Result S ActFault} {s n : S} {t : Token} → step s t ≡ Ok n → Leads step s (t ∷ []) n
one is = next is done

pub onward : {S : Type 0} {step : S → Token → Result S ActFault} {s m n : S} {ts us : List Token} → Leads step s ts m → Leads step m us n → Leads step s (ts ++ us) n
onward done second = second
onward (next is rest) second = next is (onward rest second)

-- What each step of a part does in the whole, so do all.
pub within : {S W : Type 0} {step : S → Token → Result S ActFault} {whole : W → Token → Result W ActFault} {s n : S} {ts : List Token} (f : S → W)
    → ((s n : S) (t : Token) → step s t ≡ Ok n → whole (f s) t ≡ Ok (f n)) → Leads step s ts n → Leads whole (f s) ts (f n)
within f takes done = done
within f takes (next {s} {m} {n} {t} is rest) = next (takes s m t is) (within f takes rest)

-- So do they where the whole begins with the first token of the part.
pub begun : {S W : Type 0} {step : S → Token → Result S ActFault} {whole : W → Token → Result W ActFault} {s n : S} {ts : List Token} (f : S → W) (start : W)
    → ((n : S) (t : Token) → step s t ≡ Ok n → whole start t ≡ Ok (f n)) → ((s n : S) (t : Token) → step s t ≡ Ok n → whole (f s) t ≡ Ok (f n)) → (s ≡ n → ⊥)
    → Leads step s ts n → Leads whole start ts (f n)
begun f start begins takes never done = absurd (never refl)
begun f start begins takes never (next {s} {m} {n} {t} is rest) = next (begins m t is) (within f takes rest)

-- the first token of a run, and the others
pub first_of : {S : Type 0} {step : S → Token → Result S ActFault} {s n : S} (t : Token) (ts : List Token) {xs : List Token} → xs ≡ t ∷ ts → Leads step s xs n → (m : S) × (step s t ≡ Ok m) × Leads step m ts n
first_of t ts same done = absurd cc
first_of {step = step} t ts same (next {s = s} {m = m} {n = n} {t = u} {ts = us} is rest) =
    let head : u ≡ t = cc in
    let tail : us ≡ ts = cc in
    (m, subst (λ x. step s x ≡ Ok m) head is, subst (λ x. Leads step m x n) tail rest)

-- a run in two parts
pub parted : {S : Type 0} {step : S → Token → Result S ActFault} {n : S} (ts us : List Token) {s : S} → Leads step s (ts ++ us) n → (m : S) × Leads step s ts m × Leads step m us n
parted [] us {s} run = (s, done, run)
parted (t ∷ ts) us run =
    let it = first_of t (ts ++ us) refl run in
    let rest = parted ts us it.2 in
    (rest.0, next it.1 rest.1, rest.2)

-- What each step keeps of the tokens before, a run keeps.
pub kept : {S : Type 0} {step : S → Token → Result S ActFault} (Held : S → List Token → Type 0) → ((s n : S) (us : List Token) (t : Token) → step s t ≡ Ok n → Held s us → Held n (us ++ t ∷ []))
    → {s n : S} {ts : List Token} (us : List Token) → Leads step s ts n → Held s us → Held n (us ++ ts)
kept Held more us (done {s}) h = subst (Held s) (sym (append-nil us)) h
kept Held more us (next {s} {m} {n} {t} {ts} is rest) h = subst (Held n) (append_assoc us (t ∷ []) ts) (kept Held more (us ++ t ∷ []) rest (more s m us t is h))

-- ---- to the end of the text

pub through : {S V : Type 0} {step : S → Token → Result S ActFault} (worth : S → Result V ActFault) {s n : S} {ts : List Token} → Leads step s ts n → read_through step worth s ts ≡ worth n
unfolding read_through
through worth done = refl
through {step = step} worth (next {ts = ts} is rest) = ap (λ x. and_then x (λ m. read_through step worth m ts)) is ∙ through worth rest

-- How a reading ends: at a token, or at the end of the text.
pub data Outcome {S V : Type 0} (step : S → Token → Result S ActFault) (worth : S → Result V ActFault) (s : S) (ts : List Token) (result : Result V ActFault) : Type 0 where
  at_token : (before after : List Token) (t : Token) (n : S) (fault : ActFault) → ts ≡ before ++ t ∷ after → Leads step s before n → step n t ≡ Err fault → result ≡ Err fault → Outcome step worth s ts result
  at_end : (n : S) → Leads step s ts n → result ≡ worth n → Outcome step worth s ts result

pub outcome : {S V : Type 0} (step : S → Token → Result S ActFault) (worth : S → Result V ActFault) (s : S) (ts : List Token) → Outcome step worth s ts (read_through step worth s ts)
unfolding read_through
outcome step worth s [] = at_end s done refl
outcome {S} {V} step worth s (t ∷ ts) = go (λ n. outcome step worth n ts) (step s t) refl where
  behind : (n : S) → step s t ≡ Ok n → (r : Result V ActFault) → Outcome step worth n ts r → Outcome step worth s (t ∷ ts) r
  behind n is r (at_token before after u m fault whole run stops e) = at_token (t ∷ before) after u m fault (ap (λ x. t ∷ x) whole) (next is run) stops e
  behind n is r (at_end m run e) = at_end m (next is run) e

  go : ((n : S) → Outcome step worth n ts (read_through step worth n ts)) → (x : Result S ActFault) → step s t ≡ x → Outcome step worth s (t ∷ ts) (and_then x (λ n. read_through step worth n ts))
  go more (Ok n) is = behind n is (read_through step worth n ts) (more n)
  go more (Err fault) is = at_token [] ts t s fault refl done is refl

-- What is read has been read to its end.
pub to_the_end : {S V : Type 0} (step : S → Token → Result S ActFault) (worth : S → Result V ActFault) (s : S) (ts : List Token) (v : V) → read_through step worth s ts ≡ Ok v → (n : S) × Leads step s ts n × (worth n ≡ Ok v)
to_the_end {S} step worth s ts v is = go (outcome step worth s ts) where
  go : Outcome step worth s ts (read_through step worth s ts) → (n : S) × Leads step s ts n × (worth n ≡ Ok v)
  go (at_token before after t n fault whole run stops e) = absurd cc
  go (at_end n run e) = (n, run, sym e ∙ is)

-- ---- where tokens are taken one at a time

-- A step that fails ends the reading with its fault.
pub failed : {A B : Type 0} (first : Result A ActFault) (after : A → Result B ActFault) (due : Result B ActFault) (fault : ActFault) → Answers first (Err fault) → and_then first after ≡ due → Answers due (Err fault)
failed first after due NoMemory step same = tt
failed first after due (Syntax at) step same = sym same ∙ ap (λ x. and_then x after) step
failed first after due (UnknownName at) step same = sym same ∙ ap (λ x. and_then x after) step
failed first after due (WideNumber at) step same = sym same ∙ ap (λ x. and_then x after) step
failed first after due (Arity at) step same = sym same ∙ ap (λ x. and_then x after) step
failed first after due (TooLong at) step same = sym same ∙ ap (λ x. and_then x after) step

-- What is read of the tokens that are left is what is due: so it stays where the first one is taken, a fault at it is the fault that is due, and where none are left the reader is worth what is due.
module _ {S V : Type 0} (step : S → Token → Result S ActFault) (worth : S → Result V ActFault) (due : Result V ActFault) (s : S) where
  first_step : (t : Token) (ts us : List Token) → us ≡ t ∷ ts → read_through step worth s us ≡ due → and_then (step s t) (λ n. read_through step worth n ts) ≡ due
  unfolding read_through
  first_step t ts us same is = sym (ap (λ x. read_through step worth s x) same) ∙ is

  pub taken : (n : S) (t : Token) (ts us : List Token) → us ≡ t ∷ ts → read_through step worth s us ≡ due → step s t ≡ Ok n → read_through step worth n ts ≡ due
  taken n t ts us same is takes = sym (ap (λ x. and_then x (λ m. read_through step worth m ts)) takes) ∙ first_step t ts us same is

  pub refused : (t : Token) (ts us : List Token) (fault : ActFault) → us ≡ t ∷ ts → read_through step worth s us ≡ due → Answers (step s t) (Err fault) → Answers due (Err fault)
  refused t ts us fault same is refuses = failed (step s t) (λ n. read_through step worth n ts) due fault refuses (first_step t ts us same is)

  pub ended : (us : List Token) → us ≡ [] → read_through step worth s us ≡ due → worth s ≡ due
  unfolding read_through
  ended us same is = sym (ap (λ x. read_through step worth s x) same) ∙ is

-- A fault that `?` hands on stays the fault that is due.
pub handed_on : {A : Type 0} (due r : Result A ActFault) (fault : ActFault) → IsErrAnd r (λ f. f ≡ fault) → Answers due (Err fault) → Answers due r
handed_on due (Ok x) fault is h = absurd is
handed_on due (Err f) fault is h = subst (λ x. Answers due (Err x)) (sym is) h
