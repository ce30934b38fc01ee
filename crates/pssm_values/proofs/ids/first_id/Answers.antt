use Rattle.pssm_values.proofs.IdLaws.{nothing_held, first_held}
use Rattle.pssm_values.proofs.ids.first_id.Goals as goal

pub returns-then-len-eq0-clause-ids : goal.returns-then-len-eq0-clause-ids
returns-then-len-eq0-clause-ids c =
    nothing_held c.args.value.now c.behind_blanks-text.result.now c.word_len-len.result c.behind_blanks-text.ensures c.word_len-len.ensures.len c.if-len-eq0.true

pub returns-clause-ids : goal.returns-clause-ids
returns-clause-ids c =
    first_held c.args.value.now c.behind_blanks-text.result.now c.split_at.result.0.now c.split_at.result.1.now c.word_len-len.result c.behind_blanks-text.ensures c.word_len-len.ensures.len c.if-len-eq0.false
    c.split_at.ensures.front c.split_at.ensures.back
