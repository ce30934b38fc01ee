-- What an assignment, a send or a mark that has been read in part holds of the tokens before.
use Rattle.std.proofs.Common.{◌≡◌, ◌-◌, ◌<◌, ℕ, List, [], ◌∷◌, ◌++◌, Option, Some, position, bytes_eq}
use Rattle.pssm_model.specs.declared.ids.MarkId.{MarkId}
use Rattle.pssm_model.specs.declared.ids.SignalId.{SignalId}
use Rattle.pssm_acts.specs.declared.argument_reader.Arguments.{Arguments}
use Rattle.pssm_semantics.specs.declared.entry.ObjectId.{ObjectId}
use Rattle.pssm_acts.specs.declared.expr_reader.ExprReader.{ExprReader}
use Rattle.pssm_acts.specs.declared.phrase_reader.Call.{Call}
use Rattle.pssm_acts.specs.declared.phrase_reader.Call.TheVariants as calls
use Rattle.pssm_acts.specs.declared.phrase_reader.Phrase.{Phrase}
use Rattle.pssm_acts.specs.declared.phrase_reader.Phrase.TheVariants.{Variable, Value, Receiver, Dotted, Named, Called, Whole}
use Rattle.pssm_acts.specs.declared.phrase_reader.Phrase.TheVariants as phrases
use Rattle.pssm_acts.specs.declared.phrase_reader.Phrased.{Phrased}
use Rattle.pssm_acts.specs.declared.phrase_reader.Phrased.TheVariants.{Goes, Ends}
use Rattle.pssm_semantics.specs.declared.setting.Names.{Names}
use Rattle.pssm_acts.specs.declared.token.Kind.{Kind}
use Rattle.pssm_acts.specs.declared.token.Kind.TheVariants as kinds
use Rattle.pssm_acts.specs.ActGrammar.{NamesReceiver, SpellsPhrase}
use Rattle.pssm_acts.specs.Marks.{mark_of, with_mark}
use Rattle.pssm_acts.specs.inner.PhraseReading.{signal_count}
use Rattle.pssm_acts.specs.Tokens.{Token}
use Rattle.pssm_acts.proofs.ExprHeld.{ExprHeld}
use Rattle.pssm_acts.proofs.ArgumentHeld.{ArgumentsHeld}

-- `x`
pub record VariableHeld (names : Names) (x : ℕ) (ts : List Token) : Type 0 where
  pub variable : Token
  pub is : variable.kind ≡ kinds.Name
  pub found : position (λ name. bytes_eq name variable.word) names.vars ≡ Some x
  pub whole : ts ≡ variable ∷ []

-- `x := ..`
pub record ValueHeld (names : Names) (l : ℕ) (x : ℕ) (reader : ExprReader) (ts : List Token) : Type 0 where
  pub variable : Token
  pub becomes : Token
  pub us : List Token
  pub is : variable.kind ≡ kinds.Name
  pub found : position (λ name. bytes_eq name variable.word) names.vars ≡ Some x
  pub assigns : becomes.kind ≡ kinds.Becomes
  pub held : ExprHeld names l reader us
  pub whole : ts ≡ variable ∷ becomes ∷ us

-- `send` or `mark`
pub record WordHeld (kind : Kind) (ts : List Token) : Type 0 where
  pub word : Token
  pub is : word.kind ≡ kind
  pub whole : ts ≡ word ∷ []

-- `send b`
pub record ReceiverHeld (names : Names) (to : Option ObjectId) (ts : List Token) : Type 0 where
  pub send : Token
  pub receiver : Token
  pub is : send.kind ≡ kinds.Send
  pub receives : NamesReceiver names receiver to
  pub whole : ts ≡ send ∷ receiver ∷ []

-- `send b.`
pub record DottedHeld (names : Names) (to : Option ObjectId) (ts : List Token) : Type 0 where
  pub send : Token
  pub receiver : Token
  pub dot : Token
  pub is : send.kind ≡ kinds.Send
  pub receives : NamesReceiver names receiver to
  pub dots : dot.kind ≡ kinds.Dot
  pub whole : ts ≡ send ∷ receiver ∷ dot ∷ []

-- `send b.Go`
pub record SendHeld (names : Names) (to : Option ObjectId) (signal : SignalId) (count : ℕ) (ts : List Token) : Type 0 where
  pub send : Token
  pub receiver : Token
  pub dot : Token
  pub name : Token
  pub is : send.kind ≡ kinds.Send
  pub receives : NamesReceiver names receiver to
  pub dots : dot.kind ≡ kinds.Dot
  pub names' : name.kind ≡ kinds.Name
  pub found : position (λ d. bytes_eq d.name name.word) names.signals ≡ Some signal.0
  pub counts : count ≡ signal_count names.signals signal.0
  pub whole : ts ≡ send ∷ receiver ∷ dot ∷ name ∷ []

-- `mark m`
pub record MarkHeld (noted : List (List ℕ)) (mark : MarkId) (ts : List Token) (marks : List (List ℕ)) : Type 0 where
  pub word : Token
  pub name : Token
  pub is : word.kind ≡ kinds.Mark
  pub names' : name.kind ≡ kinds.Name
  pub which : mark ≡ mark_of noted name.word
  pub more : marks ≡ with_mark noted name.word
  pub whole : ts ≡ word ∷ name ∷ []

abbrev pub CallHeld : Names → List (List ℕ) → Call → List Token → List (List ℕ) → Type 0
CallHeld names noted (calls.Send to signal count) ts marks = SendHeld names to signal count ts × (marks ≡ noted)
CallHeld names noted (calls.Mark mark) ts marks = MarkHeld noted mark ts marks

-- the same and `(..`
pub record CalledHeld (names : Names) (noted : List (List ℕ)) (l : ℕ) (call : Call) (args : Arguments) (ts : List Token) (marks : List (List ℕ)) : Type 0 where
  pub front : List Token
  pub opening : Token
  pub us : List Token
  pub calls : CallHeld names noted call front marks
  pub opens : opening.kind ≡ kinds.Open
  pub deep : 0 < l
  pub held : ArgumentsHeld names (l - 1) args us
  pub whole : ts ≡ front ++ opening ∷ us

-- what the tokens of a statement spell that has been read in part, where these were the marks before it
abbrev pub PhraseHeld : Names → List (List ℕ) → ℕ → Phrase → List Token → List (List ℕ) → Type 0
PhraseHeld names noted l (Variable x) ts marks = VariableHeld names x ts × (marks ≡ noted)
PhraseHeld names noted l (Value x reader) ts marks = ValueHeld names l x reader ts × (marks ≡ noted)
PhraseHeld names noted l phrases.Send ts marks = WordHeld kinds.Send ts × (marks ≡ noted)
PhraseHeld names noted l (Receiver to) ts marks = ReceiverHeld names to ts × (marks ≡ noted)
PhraseHeld names noted l (Dotted to) ts marks = DottedHeld names to ts × (marks ≡ noted)
PhraseHeld names noted l phrases.Mark ts marks = WordHeld kinds.Mark ts × (marks ≡ noted)
PhraseHeld names noted l (Named call) ts marks = CallHeld names noted call ts marks
PhraseHeld names noted l (Called call args) ts marks = CalledHeld names noted l call args ts marks
PhraseHeld names noted l (Whole s) ts marks = (semicolon : Token) → semicolon.kind ≡ kinds.Semicolon → SpellsPhrase names noted l (ts ++ semicolon ∷ []) s marks

abbrev pub PhrasedHeld : Names → List (List ℕ) → ℕ → Phrased → List Token → List (List ℕ) → Type 0
PhrasedHeld names noted l (Goes phrase) ts marks = PhraseHeld names noted l phrase ts marks
PhrasedHeld names noted l (Ends s) ts marks = SpellsPhrase names noted l ts s marks
