-- A behaviour that fits a class has no more arguments anywhere than an output can hold.
use Rattle.std.proofs.Common.{ℕ, ◌≤◌, length, slice_index_or, Option}
use Rattle.pssm_model.specs.declared.ids.SignalId.{SignalId}
use Rattle.pssm_semantics.specs.declared.entry.ObjectId.{ObjectId}
use Rattle.pssm_semantics.specs.declared.tree.Act.{Act}
use Rattle.pssm_semantics.specs.declared.tree.Stmt.{Stmt, Assign, Choose', Send, Mark, Row_of-Stmt, end_of-Stmt, more_of-Stmt, Held-Stmt-Choose-2, None', Some'}
use Rattle.pssm_semantics.specs.Arguments.{StmtArgsFit, BlockArgsFit, OtherwiseArgsFit, ActArgsFit}
use Rattle.pssm_semantics.specs.Fits.{Vocabulary, StmtFits, BlockFits, OtherwiseFits, ActFits}

-- no signal that may be sent has more than eight parameters
abbrev pub SendsFew : Vocabulary → Type 0
SendsFew vocabulary = (to : Option ObjectId) (signal : SignalId) (n : ℕ) → vocabulary.Sends to signal n → n ≤ 8

mutual
  stmt_args : (vocabulary : Vocabulary) → SendsFew vocabulary → (stmt : Stmt) → StmtFits vocabulary stmt → StmtArgsFit stmt
  stmt_args vocabulary few (Assign x e) fits = tt
  stmt_args vocabulary few (Choose' c shape body otherwise) fits = (block_args vocabulary few body fits.1, otherwise_args vocabulary few otherwise fits.2)
  stmt_args vocabulary few (Send to signal args) fits = few to signal (length args) fits.0
  stmt_args vocabulary few (Mark mark args) fits = fits.1

  block_args : {n : _} (vocabulary : Vocabulary) → SendsFew vocabulary → (block : Row_of-Stmt n) → BlockFits vocabulary block → BlockArgsFit block
  block_args vocabulary few end_of-Stmt fits = tt
  block_args vocabulary few (more_of-Stmt stmt rest) fits = (stmt_args vocabulary few stmt fits.0, block_args vocabulary few rest fits.1)

  otherwise_args : (vocabulary : Vocabulary) → SendsFew vocabulary → (otherwise : Held-Stmt-Choose-2) → OtherwiseFits vocabulary otherwise → OtherwiseArgsFit otherwise
  otherwise_args vocabulary few None' fits = tt
  otherwise_args vocabulary few (Some' shape block) fits = block_args vocabulary few block fits

-- So it may be run.
pub ActFits-args : (vocabulary : Vocabulary) → SendsFew vocabulary → (act : Act) → ActFits vocabulary act → ActArgsFit act
ActFits-args vocabulary few act fits = λ k d h. stmt_args vocabulary few (slice_index_or act.stmts k d) (fits.0 k d h)

-- what fits where some sends may be made fits where others may, if each of the first is one of the second
abbrev pub SendsMore : Vocabulary → (Option ObjectId → SignalId → ℕ → Type 0) → Type 0
SendsMore vocabulary Sends = (to : Option ObjectId) (signal : SignalId) (n : ℕ) → vocabulary.Sends to signal n → Sends to signal n

module _ (vocabulary : Vocabulary) (Sends : Option ObjectId → SignalId → ℕ → Type 0) (more : SendsMore vocabulary Sends) where
  abbrev wider : Vocabulary
  wider = record { vars = vocabulary.vars; marks = vocabulary.marks; Sends = Sends }

  mutual
    stmt_wider : (stmt : Stmt) → StmtFits vocabulary stmt → StmtFits wider stmt
    stmt_wider (Assign x e) fits = fits
    stmt_wider (Choose' c shape body otherwise) fits = (fits.0, block_wider body fits.1, otherwise_wider otherwise fits.2)
    stmt_wider (Send to signal args) fits = (more to signal (length args) fits.0, fits.1)
    stmt_wider (Mark mark args) fits = fits

    block_wider : {n : _} → (block : Row_of-Stmt n) → BlockFits vocabulary block → BlockFits wider block
    block_wider end_of-Stmt fits = tt
    block_wider (more_of-Stmt stmt rest) fits = (stmt_wider stmt fits.0, block_wider rest fits.1)

    otherwise_wider : (otherwise : Held-Stmt-Choose-2) → OtherwiseFits vocabulary otherwise → OtherwiseFits wider otherwise
    otherwise_wider None' fits = tt
    otherwise_wider (Some' shape block) fits = block_wider block fits

  pub ActFits-wider : (act : Act) → ActFits vocabulary act → ActFits wider act
  ActFits-wider act fits = ((λ k d h. stmt_wider (slice_index_or act.stmts k d) (fits.0 k d h)), fits.1)
