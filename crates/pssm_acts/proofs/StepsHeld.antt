-- What behaviours that have been read in part hold of the tokens before: steps that are whole, blocks, and the statement that has begun.
use Rattle.std.proofs.Common.{◌≡◌, ◌-◌, ◌<◌, ℕ, Bool, List, [], ◌∷◌, ◌++◌, length, refl, sym, ap, ◌∙◌, subst, append_assoc}
use Rattle.std.proofs.lemmas.List.{append-nil}
use Rattle.pssm_acts.specs.declared.acts_reader.ActsReader.{ActsReader}
use Rattle.pssm_acts.specs.declared.read_blocks.Blocks.{Blocks}
use Rattle.pssm_acts.specs.declared.read_blocks.OpenIf.{OpenIf}
use Rattle.pssm_acts.specs.declared.acts_reader.Turn.{Turn}
use Rattle.pssm_acts.specs.declared.acts_reader.Turn.TheVariants.{Begins, Within, Condition, Chosen, Else}
use Rattle.pssm_acts.specs.declared.acts_reader.Turn.TheVariants as turns
use Rattle.pssm_acts.specs.declared.guard_reader.GuardReader.{GuardReader}
use Rattle.pssm_semantics.specs.declared.setting.Names.{Names}
use Rattle.pssm_acts.specs.declared.token.Kind.TheVariants as kinds
use Rattle.pssm_semantics.specs.declared.tree.Act.{Act}
use Rattle.pssm_semantics.specs.declared.tree.Stmt.{Stmt}
use Rattle.pssm_acts.specs.ActGrammar.{SpellsBehaviour, SpellsBehaviours, first, step}
use Rattle.pssm_acts.specs.inner.ActReading.{fresh_blocks}
use Rattle.pssm_acts.specs.Tokens.{Token}
use Rattle.pssm_acts.proofs.GuardHeld.{Held}
use Rattle.pssm_acts.proofs.PhraseTokens.{PhraseHeld}
use Rattle.pssm_acts.proofs.BlockHeld.{ChosenHeld, ElseHeld, BlocksHeld}
use Rattle.pssm_acts.proofs.BlockCounts.{Counted}

-- the tokens of steps and of the `step;` behind them
pub record StepsHeld (names : Names) (start : List (List ℕ)) (acts : List Act) (ts : List Token) (began : List (List ℕ)) : Type 0 where
  pub front : List Token
  pub step' : Token
  pub semicolon : Token
  pub spelled : SpellsBehaviours names start front acts began
  pub is : step'.kind ≡ kinds.Step
  pub ends : semicolon.kind ≡ kinds.Semicolon
  pub whole : ts ≡ front ++ step' ∷ semicolon ∷ []

abbrev pub EarlierHeld : Names → List (List ℕ) → List Act → List Token → List (List ℕ) → Type 0
EarlierHeld names start [] ts began = (ts ≡ []) × (began ≡ start)
EarlierHeld names start (act ∷ acts) ts began = StepsHeld names start (act ∷ acts) ts began

-- the steps with one more
pub step_joined : (names : Names) (start began noted : List (List ℕ)) (earlier : List Act) (act : Act) (ts us : List Token) → EarlierHeld names start earlier ts began → SpellsBehaviour names began us act noted
    → SpellsBehaviours names start (ts ++ us) (earlier ++ act ∷ []) noted
step_joined names start began noted [] act ts us h spelled =
    subst (λ x. SpellsBehaviours names start (x ++ us) (act ∷ []) noted) (sym h.0) (first (subst (λ m. SpellsBehaviour names m us act noted) h.1 spelled))
step_joined names start began noted (a ∷ acts) act ts us h spelled =
    let same : ts ++ us ≡ h.front ++ h.step' ∷ h.semicolon ∷ us = ap (λ x. x ++ us) h.whole ∙ append_assoc h.front (h.step' ∷ h.semicolon ∷ []) us in
    subst (λ x. SpellsBehaviours names start x ((a ∷ acts) ++ act ∷ []) noted) (sym same) (step h.step' h.semicolon h.spelled h.is h.ends spelled)

pub step_ended : (names : Names) (start noted : List (List ℕ)) (earlier : List Act) (act : Act) (ts : List Token) (t semicolon : Token) → SpellsBehaviours names start ts (earlier ++ act ∷ []) noted → t.kind ≡ kinds.Step
    → semicolon.kind ≡ kinds.Semicolon → EarlierHeld names start (earlier ++ act ∷ []) (ts ++ t ∷ semicolon ∷ []) noted
step_ended names start noted [] act ts t semicolon spelled is ends = record { front = ts; step' = t; semicolon = semicolon; spelled = spelled; is = is; ends = ends; whole = refl }
step_ended names start noted (a ∷ acts) act ts t semicolon spelled is ends = record { front = ts; step' = t; semicolon = semicolon; spelled = spelled; is = is; ends = ends; whole = refl }

-- `if ..`
pub record ConditionHeld (names : Names) (room : ℕ) (guard : GuardReader) (ts : List Token) : Type 0 where
  pub if' : Token
  pub cs : List Token
  pub is : if'.kind ≡ kinds.If
  pub held : Held names room guard cs
  pub whole : ts ≡ if' ∷ cs

-- the tokens of the statement that has begun, where these were the marks before it
abbrev pub TurnHeld : Names → List OpenIf → List (List ℕ) → Turn → List Token → List (List ℕ) → Type 0
TurnHeld names outer noted Begins vs marks = (vs ≡ []) × (marks ≡ noted)
TurnHeld names outer noted (Within phrase) vs marks = PhraseHeld names noted (16 - length outer) phrase vs marks
TurnHeld names outer noted (Condition guard) vs marks = ConditionHeld names (16 - length outer) guard vs × (marks ≡ noted)
TurnHeld names outer noted (Chosen c body) vs marks = (length outer < 16) × ChosenHeld names noted (15 - length outer) c body vs marks
TurnHeld names outer noted (Else c body) vs marks = (length outer < 16) × ElseHeld names noted (15 - length outer) c body vs marks
TurnHeld names outer noted turns.Step vs marks = (vs ≡ []) × (marks ≡ noted)

-- a behaviour of which some has been read, behind steps
pub record BehaviourHeld (names : Names) (stepped : Bool) (start : List (List ℕ)) (blocks : Blocks) (turn : Turn) (ts : List Token) (marks : List (List ℕ)) : Type 0 where
  pub steps : List Token
  pub xs : List Token
  pub vs : List Token
  pub began : List (List ℕ)
  pub noted : List (List ℕ)
  pub done : EarlierHeld names start blocks.earlier steps began
  pub block : BlocksHeld names began blocks.outer blocks.stmts xs noted
  pub here : TurnHeld names blocks.outer noted turn vs marks
  pub counts : Counted stepped blocks.earlier blocks.outer blocks.stmts blocks.begun turn
  pub whole : ts ≡ steps ++ (xs ++ vs)

-- steps, and the word `step` behind them
pub record StepHeld (names : Names) (stepped : Bool) (start : List (List ℕ)) (blocks : Blocks) (ts : List Token) (marks : List (List ℕ)) : Type 0 where
  pub done : (semicolon : Token) → semicolon.kind ≡ kinds.Semicolon → EarlierHeld names start blocks.earlier (ts ++ semicolon ∷ []) marks
  pub bare : blocks ≡ fresh_blocks blocks.earlier
  pub counts : Counted stepped blocks.earlier blocks.outer blocks.stmts blocks.begun turns.Step

abbrev pub StateHeld : Names → Bool → List (List ℕ) → Blocks → Turn → List Token → List (List ℕ) → Type 0
StateHeld names stepped start blocks turns.Step ts marks = StepHeld names stepped start blocks ts marks
StateHeld names stepped start blocks turn ts marks = BehaviourHeld names stepped start blocks turn ts marks

abbrev pub ReaderHeld : Names → Bool → List (List ℕ) → ActsReader → List Token → List (List ℕ) → Type 0
ReaderHeld names stepped start reader ts marks = StateHeld names stepped start reader.blocks reader.turn ts marks

abbrev pub blocks_at : List Act → List OpenIf → List Stmt → ℕ → Blocks
blocks_at earlier outer block begun = record { earlier = earlier; outer = outer; stmts = block; begun = begun }

module _ (names : Names) (stepped : Bool) (start : List (List ℕ)) (blocks : Blocks) (turn : Turn) (ts : List Token) (t : Token) (marks : List (List ℕ)) (h : BehaviourHeld names stepped start blocks turn ts marks) where
  behind : ts ++ t ∷ [] ≡ h.steps ++ (h.xs ++ (h.vs ++ t ∷ []))
  behind = ap (λ x. x ++ t ∷ []) h.whole ∙ append_assoc h.steps (h.xs ++ h.vs) (t ∷ []) ∙ ap (λ x. h.steps ++ x) (append_assoc h.xs h.vs (t ∷ []))

  -- one token more of a statement
  pub statement_goes : (next : Turn) (begun : ℕ) (more : List (List ℕ)) → TurnHeld names blocks.outer h.noted next (h.vs ++ t ∷ []) more → Counted stepped blocks.earlier blocks.outer blocks.stmts begun next
      → BehaviourHeld names stepped start (blocks_at blocks.earlier blocks.outer blocks.stmts begun) next (ts ++ t ∷ []) more
  statement_goes next begun more here counts =
      record { steps = h.steps; xs = h.xs; vs = h.vs ++ t ∷ []; began = h.began; noted = h.noted; done = h.done; block = h.block; here = here; counts = counts; whole = behind }

  -- the last token of a statement, or one that opens or closes a block
  pub statement_ends : (outer : List OpenIf) (block : List Stmt) (begun : ℕ) (more : List (List ℕ)) → BlocksHeld names h.began outer block (h.xs ++ (h.vs ++ t ∷ [])) more
      → Counted stepped blocks.earlier outer block begun Begins → BehaviourHeld names stepped start (blocks_at blocks.earlier outer block begun) Begins (ts ++ t ∷ []) more
  statement_ends outer block begun more held counts =
      let all = h.xs ++ (h.vs ++ t ∷ []) in
      record { steps = h.steps; xs = all; vs = []; began = h.began; noted = more; done = h.done; block = held; here = (refl, refl); counts = counts; whole = behind ∙ ap (λ x. h.steps ++ x) (sym (append-nil all)) }

-- where a statement may begin
pub record BeginsHeld (names : Names) (stepped : Bool) (start : List (List ℕ)) (earlier : List Act) (outer : List OpenIf) (block : List Stmt) (begun : ℕ) (ts : List Token) (marks : List (List ℕ)) : Type 0 where
  pub steps : List Token
  pub xs : List Token
  pub began : List (List ℕ)
  pub done : EarlierHeld names start earlier steps began
  pub blocks : BlocksHeld names began outer block xs marks
  pub counts : Counted stepped earlier outer block begun Begins
  pub whole : ts ≡ steps ++ xs

pub at_beginning : (names : Names) (stepped : Bool) (start : List (List ℕ)) (blocks : Blocks) (ts : List Token) (marks : List (List ℕ)) → BehaviourHeld names stepped start blocks Begins ts marks
    → BeginsHeld names stepped start blocks.earlier blocks.outer blocks.stmts blocks.begun ts marks
at_beginning names stepped start blocks ts marks h = record {
  steps = h.steps;
  xs = h.xs;
  began = h.began;
  done = h.done;
  blocks = subst (λ m. BlocksHeld names h.began blocks.outer blocks.stmts h.xs m) (sym h.here.1) h.block;
  counts = h.counts;
  whole = h.whole ∙ ap (λ x. h.steps ++ (h.xs ++ x)) h.here.0 ∙ ap (λ x. h.steps ++ x) (append-nil h.xs);
}

pub from_beginning : (names : Names) (stepped : Bool) (start : List (List ℕ)) (blocks : Blocks) (ts : List Token) (marks : List (List ℕ))
    → BeginsHeld names stepped start blocks.earlier blocks.outer blocks.stmts blocks.begun ts marks → BehaviourHeld names stepped start blocks Begins ts marks
from_beginning names stepped start blocks ts marks h = record {
  steps = h.steps;
  xs = h.xs;
  vs = [];
  began = h.began;
  noted = marks;
  done = h.done;
  block = h.blocks;
  here = (refl, refl);
  counts = h.counts;
  whole = h.whole ∙ ap (λ x. h.steps ++ x) (sym (append-nil h.xs));
}
