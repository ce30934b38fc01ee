-- An answer that is due stays due where the marks are carried along.
use Rattle.std.proofs.Common.{◌≡◌, ℕ, Bool, true, false, if◌then◌else◌, List, [], ◌∷◌, Option, Some, None, position, bytes_eq, Result, Ok, Err, refl, sym, ap, ◌∙◌, subst}
use Rattle.std.proofs.Math.Seq.{take-length, take-append_seam}
use Rattle.pssm_acts.specs.declared.act_fault.ActFault.{ActFault}
use Rattle.pssm_acts.specs.declared.act_fault.ActFault.TheVariants.{Syntax, UnknownName, WideNumber, Arity, TooLong, NoMemory}
use Rattle.pssm_acts.specs.inner.ExprReading.{Answers, and_then}
use Rattle.pssm_acts.specs.Marks.{KeepsMarks, grown, with_mark}
use Rattle.pssm_acts.specs.inner.PhraseReading.{AnswersWith, beside}

-- A fault is no value that is read, and what is read is one value.
pub never_read : {A : Type 0} (fault : ActFault) (x : A) → Err fault ≡ Ok x → ⊥
never_read fault x is = cc

pub never_refused : {A : Type 0} (x : A) (fault : ActFault) → Ok x ≡ Err fault → ⊥
never_refused x fault is = cc

abbrev pub read : {A : Type 0} → A → Result A ActFault
read x = Ok x

pub read_same : {A : Type 0} (x y : A) → read x ≡ read y → x ≡ y
read_same x y is = cc

-- What a step behind a first one gives, the first one gave something for.
pub passed : {A B : Type 0} (x : Result A ActFault) (f : A → Result B ActFault) (b : B) → and_then x f ≡ Ok b → (a : A) × (x ≡ Ok a) × (f a ≡ Ok b)
passed (Ok a) f b e = (a, refl, e)
passed (Err fault) f b e = absurd cc

-- What is given only where something holds, or does not hold.
pub room_for : {A : Type 0} (b : Bool) (r : Result A ActFault) (fault : ActFault) (x : A) → (if b then r else Err fault) ≡ Ok x → (b ≡ true) × (r ≡ Ok x)
room_for true r fault x is = (refl, is)
room_for false r fault x is = absurd cc

pub not_past : {A : Type 0} (b : Bool) (r : Result A ActFault) (fault : ActFault) (x : A) → (if b then Err fault else r) ≡ Ok x → (b ≡ false) × (r ≡ Ok x)
not_past true r fault x is = absurd cc
not_past false r fault x is = (refl, is)

pub beside_answers : {A M : Type 0} (due r : Result A ActFault) (marks left : M) → Answers due r → left ≡ marks → AnswersWith (beside marks due) r left
beside_answers due (Ok x) marks left h same = ap (λ d. beside marks d) h ∙ ap (λ m. Ok (x, m)) (sym same)
beside_answers due (Err NoMemory) marks left h same = tt
beside_answers due (Err (Syntax at)) marks left h same = ap (λ d. beside marks d) h
beside_answers due (Err (UnknownName at)) marks left h same = ap (λ d. beside marks d) h
beside_answers due (Err (WideNumber at)) marks left h same = ap (λ d. beside marks d) h
beside_answers due (Err (Arity at)) marks left h same = ap (λ d. beside marks d) h
beside_answers due (Err (TooLong at)) marks left h same = ap (λ d. beside marks d) h

answers_same : {A : Type 0} (due r : Result A ActFault) → r ≡ due → Answers due r
answers_same due (Ok x) same = sym same
answers_same due (Err NoMemory) same = tt
answers_same due (Err (Syntax at)) same = sym same
answers_same due (Err (UnknownName at)) same = sym same
answers_same due (Err (WideNumber at)) same = sym same
answers_same due (Err (Arity at)) same = sym same
answers_same due (Err (TooLong at)) same = sym same

pub beside_same : {A M : Type 0} (due r : Result A ActFault) (marks left : M) → r ≡ due → left ≡ marks → AnswersWith (beside marks due) r left
beside_same due r marks left same kept = beside_answers due r marks left (answers_same due r same) kept

-- ---- the marks

pub same_kept : (marks more : List (List ℕ)) → more ≡ marks → KeepsMarks marks more
same_kept marks more same = subst (λ x. KeepsMarks marks x) (sym same) (take-length marks)

grown_kept : (place : Option ℕ) (marks : List (List ℕ)) (name : List ℕ) → KeepsMarks marks (grown place marks name)
grown_kept (Some k) marks name = take-length marks
grown_kept None marks name = take-append_seam marks (name ∷ [])

pub mark_kept : (marks more : List (List ℕ)) (name : List ℕ) → more ≡ with_mark marks name → KeepsMarks marks more
mark_kept marks more name same = subst (λ x. KeepsMarks marks x) (sym same) (grown_kept (position (λ m. bytes_eq m name) marks) marks name)
