-- How what is written begins with tokens that spell it: one token, something between an opening and a closing sign, and two operands with a sign between them.
use Rattle.std.proofs.Common.{◌≡◌, ℕ, Bool, false, List, [], ◌∷◌, ◌++◌, sym, ap, ◌∙◌, subst, append_assoc}
use Rattle.pssm_spelling.specs.SpellingReading.{EndsRun}
use Rattle.pssm_acts.specs.declared.token.Kind.{Kind}
use Rattle.pssm_acts.specs.Tokens.{Token, cut}
use Rattle.pssm_acts.proofs.FrontLaws.{Begins, is_equals}

-- The bytes begin with tokens that spell something, and others are left behind it; `after` says whether an operand ends with them.
pub record BeginsWith (Spells : List Token → Type 0) (end : ℕ) (after : Bool) (bytes rest : List ℕ) : Type 0 where
  pub ts : List Token
  pub spelled : Spells ts
  pub same : cut end false 0 bytes ≡ ts ++ cut end after 0 rest
  pub unequal : EndsRun is_equals bytes

-- Tokens of three parts are those of the whole.
pub three_cut : (first : List ℕ) (sign second rest : List ℕ) → (first ++ sign ++ second) ++ rest ≡ first ++ (sign ++ (second ++ rest))
three_cut first sign second rest = append_assoc (first ++ sign) second rest ∙ append_assoc first sign (second ++ rest)

-- The same tokens spell something else.
pub spelled_as : {Part Whole : List Token → Type 0} {end : ℕ} {after : Bool} {bytes rest : List ℕ} → ((ts : List Token) → Part ts → Whole ts) → BeginsWith Part end after bytes rest → BeginsWith Whole end after bytes rest
spelled_as make part = record { ts = part.ts; spelled = make part.ts part.spelled; same = part.same; unequal = part.unequal }

module _ {Whole : List Token → Type 0} {end : ℕ} where
  pub one_token : {kind : Kind} {word bytes rest : List ℕ} {after : Bool} → Begins end false bytes kind word after rest → EndsRun is_equals bytes → ((t : Token) → t.kind ≡ kind → t.word ≡ word → Whole (t ∷ [])) → BeginsWith Whole end after bytes rest
  one_token t unequal make = record { ts = t.token ∷ []; spelled = make t.token t.is t.worded; same = t.same; unequal = unequal }

  pub enclosed : {Part : List Token → Type 0} {opens closes : Kind} {before behind : List ℕ} {a after : Bool} (first text last rest : List ℕ)
      → Begins end false (first ++ (text ++ (last ++ rest))) opens before false (text ++ (last ++ rest)) → BeginsWith Part end a (text ++ (last ++ rest)) (last ++ rest) → Begins end a (last ++ rest) closes behind after rest
      → EndsRun is_equals (first ++ (text ++ (last ++ rest))) → ((opening closing : Token) (ts : List Token) → opening.kind ≡ opens → Part ts → closing.kind ≡ closes → Whole (opening ∷ (ts ++ closing ∷ [])))
      → BeginsWith Whole end after ((first ++ text ++ last) ++ rest) rest
  enclosed {after = after} first text last rest opening part closing unequal make = record {
    ts = opening.token ∷ (part.ts ++ closing.token ∷ []);
    spelled = make opening.token closing.token part.ts opening.is part.spelled closing.is;
    same = ap (λ bytes. cut end false 0 bytes) (three_cut first text last rest) ∙ opening.same
        ∙ ap (λ ts. opening.token ∷ ts) (part.same ∙ ap (λ ts. part.ts ++ ts) closing.same ∙ sym (append_assoc part.ts (closing.token ∷ []) (cut end after 0 rest)));
    unequal = subst (EndsRun is_equals) (sym (three_cut first text last rest)) unequal;
  }

  pub operands : {Left Right : List Token → Type 0} {kind : Kind} {word : List ℕ} {a after : Bool} (first sign second rest : List ℕ)
      → BeginsWith Left end a (first ++ (sign ++ (second ++ rest))) (sign ++ (second ++ rest)) → Begins end a (sign ++ (second ++ rest)) kind word false (second ++ rest) → BeginsWith Right end after (second ++ rest) rest
      → ((t : Token) (ts us : List Token) → Left ts → t.kind ≡ kind → Right us → Whole (ts ++ t ∷ us)) → BeginsWith Whole end after ((first ++ sign ++ second) ++ rest) rest
  operands {after = after} first sign second rest left middle right make = record {
    ts = left.ts ++ middle.token ∷ right.ts;
    spelled = make middle.token left.ts right.ts left.spelled middle.is right.spelled;
    same = ap (λ bytes. cut end false 0 bytes) (three_cut first sign second rest) ∙ left.same
        ∙ ap (λ ts. left.ts ++ ts) (middle.same ∙ ap (λ ts. middle.token ∷ ts) right.same) ∙ sym (append_assoc left.ts (middle.token ∷ right.ts) (cut end after 0 rest));
    unequal = subst (EndsRun is_equals) (sym (three_cut first sign second rest)) left.unequal;
  }
