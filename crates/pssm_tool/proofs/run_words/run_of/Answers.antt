use Rattle.clap.specs.Words.{found_of, rows_of}
use Rattle.pssm_tool.specs.Words.{texts}
use Rattle.pssm_tool.proofs.RunWordLaws.{not_taken, run_reads, run_usage}
use Rattle.pssm_tool.proofs.run_words.run_of.Goals as goal

-- Clap refuses the words.
pub returns-in_default-clause-usage : goal.returns-in_default-clause-usage
returns-in_default-clause-usage c = not_taken (texts c.args.words.now) c.requires (rw c.in_default.is at c.in_ok-matches.ensures.refuses)

-- Clap takes them.
pub returns-clause-reads : goal.returns-clause-reads
returns-clause-reads c =
    let takes = rw c.in-Some.is at c.in_ok-matches.ensures.takes in
    run_reads (texts c.args.words.now) c.requires (rows_of (found_of c.in-Some.matches)) takes.0 takes.1 c.run_in-run.result c.run_in-run.ensures.reads

pub returns-clause-usage : goal.returns-clause-usage
returns-clause-usage c =
    let takes = rw c.in-Some.is at c.in_ok-matches.ensures.takes in
    run_usage (texts c.args.words.now) c.requires (rows_of (found_of c.in-Some.matches)) takes.0 takes.1 c.run_in-run.result c.run_in-run.ensures.none
