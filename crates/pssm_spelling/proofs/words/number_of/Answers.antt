use Rattle.std.proofs.Common.{ℕ, List, subst, sym, arith}
use Rattle.pssm_spelling.proofs.WordNumbers.{IsPlain, not_plain, read_some, read_none, read_is}
use Rattle.pssm_spelling.proofs.words.number_of.Goals as goal

-- a sign or a leading zero
pub returns-then-not-is_plain-clause-none : goal.returns-then-not-is_plain-clause-none
returns-then-not-is_plain-clause-none c = λ n p.
    not_plain c.args.word.now c.args.least c.args.greatest n (omega arith)
    (λ plain. let yes = c.is_plain.ensures.1 (subst (λ (t : List ℕ). IsPlain t) (sym c.as_bytes.ensures.value) plain) in cc) p

pub returns-in-Ok-clause-number : goal.returns-in-Ok-clause-number
returns-in-Ok-clause-number c =
    let plain = subst (λ (t : List ℕ). IsPlain t) c.as_bytes.ensures.value (c.is_plain.ensures.0 c.if-not-is_plain.false) in
    record {
      spelled = (read_some c.args.word.now c.parse.result c.in-Ok.n c.parse.ensures.value.0 c.in-Ok.is plain).0;
      low = omega arith;
      high = omega arith;
    }

-- a number past the greatest, one below the least, and no number
pub returns-in_default-clause-none : goal.returns-in_default-clause-none
returns-in_default-clause-none c = λ n p.
    let plain = subst (λ (t : List ℕ). IsPlain t) c.as_bytes.ensures.value (c.is_plain.ensures.0 c.if-not-is_plain.false) in
    let spelled = read_some c.args.word.now c.parse.result c.in-Ok.n c.parse.ensures.value.0 c.in-Ok.is plain in
    let same = read_is c.args.word.now c.args.least c.args.greatest c.in-Ok.n n (omega arith) spelled.1 spelled.0 p in
    let high = p.high in omega arith

pub returns-in_default-2-clause-none : goal.returns-in_default-2-clause-none
returns-in_default-2-clause-none c = λ n p.
    let plain = subst (λ (t : List ℕ). IsPlain t) c.as_bytes.ensures.value (c.is_plain.ensures.0 c.if-not-is_plain.false) in
    let spelled = read_some c.args.word.now c.parse.result c.in-Ok.n c.parse.ensures.value.0 c.in-Ok.is plain in
    let same = read_is c.args.word.now c.args.least c.args.greatest c.in-Ok.n n (omega arith) spelled.1 spelled.0 p in
    let low = p.low in omega arith

pub returns-in_default-3-clause-none : goal.returns-in_default-3-clause-none
returns-in_default-3-clause-none c = λ n p.
    let high = p.high in
    read_none c.args.word.now c.parse.result c.in_default.field-0 c.parse.ensures.value.0 c.in_default.is n (omega arith) p.spelled
