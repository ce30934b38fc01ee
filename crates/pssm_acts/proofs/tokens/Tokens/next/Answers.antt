use Rattle.std.proofs.Common.{length, sym, ◌∙◌, eqb-true}
use Rattle.pssm_acts.proofs.CutLaws.{none_left, piece_first}
use Rattle.pssm_acts.proofs.tokens.Tokens.next.Goals as goal

pub returns-then-is_empty-clause-first : goal.returns-then-is_empty-clause-first
returns-then-is_empty-clause-first c =
    none_left (length c.args.self.now.text.now) c.args.self.now.after_operand c.args.self.now.rest.now c.behind_blanks-rest.result.now (c.behind_blanks-rest.ensures.same (length c.args.self.now.text.now) c.args.self.now.after_operand)
    (eqb-true (length c.behind_blanks-rest.result.now) 0 (sym c.is_empty.ensures ∙ c.if-is_empty.true))

pub returns-clause-first : goal.returns-clause-first
returns-clause-first c =
    let end = length c.args.self.now.text.now in
    let a = c.args.self.now.after_operand in
    let rest = c.behind_blanks-rest in
    let kind = c.token_at-kind.result.0 in
    rw c.closes_operand-self.ensures
    (piece_first end a c.args.self.now.rest.now rest.result.now c.split_at.result.0.now c.split_at.result.1.now kind c.token_at-kind.result.1 (rest.ensures.same end a) rest.ensures.solid
    (sym c.token_at-kind.ensures.gives) c.token_at-kind.ensures.some c.token_at-kind.ensures.within c.split_at.ensures.front c.split_at.ensures.back)
