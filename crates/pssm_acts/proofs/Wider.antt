-- A behaviour fits where more may be named.
use Rattle.std.proofs.Common.{◌≤◌, ℕ, length, Option, arith}
use Rattle.std.proofs.lemmas.List.Elements.{recursion_from_All}
use Rattle.pssm_model.specs.declared.ids.SignalId.{SignalId}
use Rattle.pssm_semantics.specs.declared.entry.ObjectId.{ObjectId}
use Rattle.pssm_semantics.specs.declared.tree.Act.{Act}
use Rattle.pssm_semantics.specs.declared.tree.Stmt.{Stmt, Assign, Choose', Send, Mark, Row_of-Stmt, end_of-Stmt, more_of-Stmt, Held-Stmt-Choose-2, None', Some'}
use Rattle.pssm_semantics.specs.Fits.{Vocabulary, StmtFits, BlockFits, OtherwiseFits, ActFits}
use Rattle.pssm_acts.proofs.Each.{all_map}

module _ (vars m n : ℕ) (S T : Option ObjectId → SignalId → ℕ → Type 0) (more : m ≤ n)
    (sends : (to : Option ObjectId) (signal : SignalId) (count : ℕ) → S to signal count → T to signal count) where
  abbrev few : Vocabulary
  few = record { vars = vars; marks = m; Sends = S }

  abbrev wide : Vocabulary
  wide = record { vars = vars; marks = n; Sends = T }

  mutual
    stmt_wider : (s : Stmt) → StmtFits few s → StmtFits wide s
    stmt_wider (Assign x e) fits = fits
    stmt_wider (Choose' c shape body otherwise) fits = (fits.0, block_wider body fits.1, otherwise_wider otherwise fits.2)
    stmt_wider (Send to signal args) fits = (sends to signal (length args) fits.0, fits.1)
    stmt_wider (Mark mark args) fits = (let less = fits.0 in omega (arith, less, more), fits.1, fits.2)

    block_wider : {k : _} (rows : Row_of-Stmt k) → BlockFits few rows → BlockFits wide rows
    block_wider end_of-Stmt fits = tt
    block_wider (more_of-Stmt s rest) fits = (stmt_wider s fits.0, block_wider rest fits.1)

    otherwise_wider : (o : Held-Stmt-Choose-2) → OtherwiseFits few o → OtherwiseFits wide o
    otherwise_wider None' fits = tt
    otherwise_wider (Some' shape block) fits = block_wider block fits

  pub act_wider : (act : Act) → ActFits few act → ActFits wide act
  act_wider act fits = (all_map (StmtFits few) (StmtFits wide) act.stmts stmt_wider (recursion_from_All (StmtFits few) act.stmts fits.0), fits.1)
