use Rattle.std.proofs.Common.{◌∙◌, codes, ap, sym}
use Rattle.std.proofs.lemmas.Slice.Eq.{bytes_eq-Decides}
use Rattle.pssm_tool.specs.Words.{texts}
use Rattle.pssm_tool.proofs.Three.{two_items, three_items}
use Rattle.pssm_tool.proofs.WordLaws.{first_and_rest, words_first, gen_read}
use Rattle.pssm_tool.proofs.words.command_of.Goals as goal

-- The first word is `run`.
pub run_of-requires : goal.run_of-requires
run_of-requires c =
    let all = first_and_rest c.args.words.now c.verb-item.result c.in-len1-up.len_at_least c.verb-item.is in
    let verb = (bytes_eq-Decides c.as_str.result.now (codes "run")).0 (sym (c.if-eq.ensures {u = tt})) in
    (texts _, words_first c.args.words.now _ c.verb-item.result (codes "run") all (sym c.as_str.ensures.value ∙ verb))

-- The three words are the verb and the two paths that were read.
pub returns-in-len3-clause-reads : goal.returns-in-len3-clause-reads
returns-in-len3-clause-reads c =
    let all = three_items c.args.words.now c.verb-item-then-words-lt4.result c.model-item-then-words-lt4.result c.journal-item.result c.in-len3.len_at_least c.in-len3.len_below c.verb-item-then-words-lt4.is c.model-item-then-words-lt4.is c.journal-item.is in
    let verb = (bytes_eq-Decides c.as_str-then-words-lt4.result.now (codes "judge")).0 (sym (c.if-eq-5.ensures {u = tt})) in
    let read = ap texts all in
    cc (read, verb, c.as_str-then-words-lt4.ensures.value, c.as_str-in-len3.ensures.value, c.as_str-in-len3-2.ensures.value)

-- The two words are the verb and the path that was read.
pub returns-in-len2-clause-reads : goal.returns-in-len2-clause-reads
returns-in-len2-clause-reads c =
    let all = two_items c.args.words.now c.verb-item-then-words-lt3.result c.model-item.result c.in-len2.len_at_least c.in-len2.len_below c.verb-item-then-words-lt3.is c.model-item.is in
    let verb = (bytes_eq-Decides c.as_str-then-words-lt3.result.now (codes "check")).0 (sym (c.if-eq-2.ensures {u = tt})) in
    let read = ap texts all in
    cc (read, verb, c.as_str-then-words-lt3.ensures.value, c.as_str-in-len2.ensures.value)

pub returns-in-len2-2-clause-reads : goal.returns-in-len2-2-clause-reads
returns-in-len2-2-clause-reads c =
    let all = two_items c.args.words.now c.verb-item-then-words-lt3-2.result c.model-item-then-words-lt3.result c.in-len2.len_at_least c.in-len2.len_below c.verb-item-then-words-lt3-2.is c.model-item-then-words-lt3.is in
    let verb = (bytes_eq-Decides c.as_str-then-words-lt3-2.result.now (codes "flat")).0 (sym (c.if-eq-3.ensures {u = tt})) in
    let read = ap texts all in
    cc (read, verb, c.as_str-then-words-lt3-2.ensures.value, c.as_str-in-len2-2.ensures.value)

-- The two words are the verb and a number.
pub returns-in-len2-3-clause-reads : goal.returns-in-len2-3-clause-reads
returns-in-len2-3-clause-reads c =
    let all = two_items c.args.words.now c.verb-item-then-words-lt3-3.result c.number-item.result c.in-len2.len_at_least c.in-len2.len_below c.verb-item-then-words-lt3-3.is c.number-item.is in
    let verb = (bytes_eq-Decides c.as_str-then-words-lt3-3.result.now (codes "gen")).0 (sym (c.if-eq-4.ensures {u = tt})) in
    let read = ap texts all in
    gen_read c.generated.result (texts c.args.words.now) c.as_str-in-len2-3.result.now (cc (read, verb, c.as_str-then-words-lt3-3.ensures.value, c.as_str-in-len2-3.ensures.value))
    c.generated.ensures.reads
