-- What is spelled has its shape.
use Rattle.std.proofs.Common.{◌≡◌, ◌⊎◌, inl, inr, ℕ, ℤ, Bool, true, false, List, ◌++◌, subst, append_assoc}
use Rattle.pssm_semantics.specs.declared.entry.ObjectId.{ObjectId}
use Rattle.pssm_semantics.specs.declared.setting.Names.{Names}
use Rattle.pssm_acts.specs.declared.token.Kind.TheVariants as kinds
use Rattle.pssm_semantics.specs.declared.tree.Act.{Act}
use Rattle.pssm_semantics.specs.declared.tree.Cond.{Cond}
use Rattle.pssm_semantics.specs.declared.tree.Expr.{Expr}
use Rattle.pssm_semantics.specs.declared.tree.Stmt.{Stmt}
use Rattle.std.proofs.Common.{Option}
use Rattle.pssm_acts.specs.Tokens.{Token}
use Rattle.pssm_spelling.specs.Numbers.{SpellsNumber}
use Rattle.pssm_spelling.specs.Numbers as spelled
use Rattle.pssm_acts.specs.Grammar.{Part, GuardPart, SpellsExpr, SpellsGuard}
use Rattle.pssm_acts.specs.Grammar as grammar
use Rattle.pssm_acts.specs.ActGrammar.{NamesReceiver, SpellsList, SpellsArguments, SpellsPhrase, SpellsStmts, SpellsBehaviours}
use Rattle.pssm_acts.specs.ActGrammar as acts
use Rattle.pssm_acts.specs.Shapes.{IsWritten, natural, negative, ExprShape, GuardShape, ListShape, ArgumentsShape, PhraseShape, StmtsShape, StepsShape, Begins}
use Rattle.pssm_acts.specs.Shapes as shapes

written_of : {word : List ℕ} {n : ℤ} → SpellsNumber word n → IsWritten word
written_of (spelled.natural plain small) = natural plain
written_of (spelled.negative plain some small) = negative plain some

pub expr_shape : {names : Names} {part : Part} {l : ℕ} {ts : List Token} {e : Expr} → SpellsExpr names part l ts e → ExprShape part ts
expr_shape (grammar.number is spelled') = shapes.number is (written_of spelled')
expr_shape (grammar.variable is found) = shapes.name is
expr_shape (grammar.parameter is) = shapes.parameter is
expr_shape (grammar.parentheses closing opens inner closes) = shapes.parentheses closing opens (expr_shape inner) closes
expr_shape (grammar.atom a) = shapes.atom (expr_shape a)
expr_shape (grammar.times t front is back) = shapes.times t (expr_shape front) is (expr_shape back)
expr_shape (grammar.product p) = shapes.product (expr_shape p)
expr_shape (grammar.plus t front is back) = shapes.plus t (expr_shape front) is (expr_shape back)
expr_shape (grammar.minus t front is back) = shapes.minus t (expr_shape front) is (expr_shape back)

pub guard_shape : {names : Names} {part : GuardPart} {l : ℕ} {ts : List Token} {c : Cond} → SpellsGuard names part l ts c → GuardShape part ts
guard_shape (grammar.truth is) = shapes.truth is
guard_shape (grammar.falsity is) = shapes.falsity is
guard_shape (grammar.negation is inner) = shapes.negation is (guard_shape inner)
guard_shape (grammar.brackets closing opens inner closes) = shapes.brackets closing opens (guard_shape inner) closes
guard_shape (grammar.relation t {rel = rel} left is right) = shapes.relation t rel (expr_shape left) is (expr_shape right)
guard_shape (grammar.lone_unit u) = shapes.lone_unit (guard_shape u)
guard_shape (grammar.conjoined t front is back) = shapes.conjoined t (guard_shape front) is (guard_shape back)
guard_shape (grammar.lone_conjunction b) = shapes.lone_conjunction (guard_shape b)
guard_shape (grammar.disjoined t front is back) = shapes.disjoined t (guard_shape front) is (guard_shape back)

pub list_shape : {names : Names} {l : ℕ} {ts : List Token} {es : List Expr} → SpellsList names l ts es → ListShape ts
list_shape (acts.one spelled') = shapes.one (expr_shape spelled')
list_shape (acts.further comma front is back) = shapes.further comma (list_shape front) is (expr_shape back)

pub arguments_shape : {names : Names} {l : ℕ} {ts : List Token} {es : List Expr} → SpellsArguments names l ts es → ArgumentsShape ts
arguments_shape (acts.none opens closes) = shapes.none opens closes
arguments_shape (acts.some closing opens inner closes) = shapes.some closing opens (list_shape inner) closes

pub receiver_shape : {names : Names} {t : Token} {to : Option ObjectId} → NamesReceiver names t to → (t.kind ≡ kinds.Name) ⊎ (t.kind ≡ kinds.Own)
receiver_shape (acts.object is found) = inl is
receiver_shape (acts.running is) = inr is

pub phrase_shape : {names : Names} {marks noted : List (List ℕ)} {l : ℕ} {ts : List Token} {s : Stmt} → SpellsPhrase names marks l ts s noted → PhraseShape ts
phrase_shape (acts.assignment semicolon is found becoming spelled' ends) = shapes.assignment semicolon is becoming (expr_shape spelled') ends
phrase_shape (acts.sending semicolon is receives dots names' found spelled' many ends) = shapes.sending semicolon is (receiver_shape receives) dots names' (arguments_shape spelled') ends
phrase_shape (acts.bare_mark is names' ends) = shapes.bare_mark is names' ends
phrase_shape (acts.marking semicolon is names' spelled' few ends) = shapes.marking semicolon is names' (arguments_shape spelled') ends

pub stmts_shape : {names : Names} {marks noted : List (List ℕ)} {l : ℕ} {ts : List Token} {block : List Stmt} → SpellsStmts names marks l ts block noted → StmtsShape ts
stmts_shape acts.nothing = shapes.nothing
stmts_shape (acts.phrase front spelled') = shapes.phrase (stmts_shape front) (phrase_shape spelled')
stmts_shape (acts.choice if' opening closing front is guard opens inner closes) = shapes.choice if' opening closing (stmts_shape front) is (guard_shape guard) opens (stmts_shape inner) closes
stmts_shape (acts.alternative if' opening closing else' opening' closing' front is guard opens inner closes elses opens' other closes') =
    shapes.alternative if' opening closing else' opening' closing' (stmts_shape front) is (guard_shape guard) opens (stmts_shape inner) closes elses opens' (stmts_shape other) closes'

pub steps_shape : {names : Names} {marks noted : List (List ℕ)} {ts : List Token} {steps : List Act} → SpellsBehaviours names marks ts steps noted → StepsShape ts
steps_shape (acts.first spells) = shapes.first (stmts_shape spells.spelled)
steps_shape (acts.step step' semicolon front is ends spells) = shapes.step step' semicolon (steps_shape front) is ends (stmts_shape spells.spelled)

-- What begins a shape begins it without the last of its tokens.
pub begins_shorter : {Shape : List Token → Type 0} (ts us : List Token) → Begins Shape (ts ++ us) → Begins Shape ts
begins_shorter {Shape} ts us b = record { more = us ++ b.more; shape = subst Shape (append_assoc ts us b.more) b.shape }

-- the same tokens
pub begins_same : {Shape : List Token → Type 0} {ts us : List Token} → ts ≡ us → Begins Shape ts → Begins Shape us
begins_same {Shape} same b = subst (λ x. Begins Shape x) same b

-- the shape of steps, or of one behaviour
abbrev pub ShapeOf : Bool → List Token → Type 0
ShapeOf true = StepsShape
ShapeOf false = StmtsShape
