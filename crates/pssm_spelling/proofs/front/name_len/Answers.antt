use Rattle.std.proofs.Common.{refl, sym, ◌∙◌, arith}
use Rattle.pssm_spelling.specs.Spelling.{continues_name}
use Rattle.pssm_spelling.proofs.Runs.{run_more, run_ends, run_is_all}
use Rattle.pssm_spelling.proofs.front.name_len.Goals as goal

pub loop-c-init : goal.loop-c-init
loop-c-init c = record { at = omega arith; run = refl }

-- the byte does not
pub returns-then-not-continues : goal.returns-then-not-continues
returns-then-not-continues c =
    let l = c.loop-c in
    l.invariant.at ∙ run_ends continues_name c.args.bytes.now l.c-index l.invariant.run (omega arith) (sym c.continues.ensures ∙ c.if-not-continues.true)

-- it does
pub loop-c-preserved : goal.loop-c-preserved
loop-c-preserved c =
    let l = c.loop-c in
    record {
      at = omega (arith, l.invariant.at);
      run = run_more continues_name c.args.bytes.now l.c-index l.invariant.run (omega arith) (sym c.continues.ensures ∙ c.if-not-continues.false);
    }

-- all bytes do
pub returns : goal.returns
returns c =
    let l = c.loop-c in
    l.invariant.at ∙ run_is_all continues_name c.args.bytes.now l.c-index l.invariant.run (omega arith) (omega arith)
