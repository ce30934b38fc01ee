use Rattle.std.proofs.Common.{rules, ◌≡◌, ℕ, ◌+◌, ◌<◌, ◌^◌, true, false, cond, List, length, get_or, drop, sym, ap, ◌∙◌, arith}
use Rattle.std.proofs.lemmas.Iterator.{YieldsList-from_chars}
use Rattle.std.proofs.lemmas.List.{at_drop_more, at_drop_all, length_push}
use Rattle.std.proofs.lemmas.Iterator.Consumers.{YieldsList-turn, YieldsList-end}
use Rattle.std.specs.Str.{chars}
use Rattle.std.specs.Char.{len_utf8}
use Rattle.std.proofs.lemmas.Bool.{cond-true, cond-false}
use Rattle.pssm_xml.specs.inner.Reading.{is_xml, good_bytes}
use Rattle.pssm_xml.proofs.GoodLaws.{good_within}
use Rattle.pssm_xml.proofs.characters.good_len.Goals as goal

at_next : (cs : List ℕ) (n c : ℕ) → (n < length cs) × (c ≡ get_or cs n c) → good_bytes (drop n cs) ≡ cond (is_xml c) (len_utf8 c + good_bytes (drop (n + 1) cs)) 0
at_next cs n c h = at_drop_more good_bytes cs n c h.0 ∙ ap (λ x. cond (is_xml x) (len_utf8 x + good_bytes (drop (n + 1) cs)) 0) (sym h.1)

pub returns-then-not-is_xml_character : goal.returns-then-not-is_xml_character
returns-then-not-is_xml_character c =
    let t = YieldsList-turn (YieldsList-from_chars c.args.text.now c.utf8.text cc) c.loop-c.yielded _ c.loop-c.yielded_by _ _ c.in-Some.c c.in-Some.is c.next.ensures.steps in
    let e = at_next (chars c.args.text.now) (length c.loop-c.yielded) c.in-Some.c t in
    let bad : is_xml c.in-Some.c ≡ false = search rules in
    let stop = cond-false (is_xml c.in-Some.c) (len_utf8 c.in-Some.c + good_bytes (drop (length c.loop-c.yielded + 1) (chars c.args.text.now))) 0 bad in
    let i = c.loop-c.invariant in omega (arith, i, e, stop)

pub overflow_add-len : goal.overflow_add-len
overflow_add-len c =
    let t = YieldsList-turn (YieldsList-from_chars c.args.text.now c.utf8.text cc) c.loop-c.yielded _ c.loop-c.yielded_by _ _ c.in-Some.c c.in-Some.is c.next.ensures.steps in
    let e = at_next (chars c.args.text.now) (length c.loop-c.yielded) c.in-Some.c t in
    let good : is_xml c.in-Some.c ≡ true = search rules in
    let goes = cond-true (is_xml c.in-Some.c) (len_utf8 c.in-Some.c + good_bytes (drop (length c.loop-c.yielded + 1) (chars c.args.text.now))) 0 good in
    let i = c.loop-c.invariant in let within = good_within c.args.text.now c.utf8.text in let l = c.len_utf8-len.ensures.value in
    let bound : length c.args.text.now < 2 ^ 64 = search rules in omega (arith, i, e, goes, within, l, bound)

pub loop-c-preserved : goal.loop-c-preserved
loop-c-preserved c =
    let t = YieldsList-turn (YieldsList-from_chars c.args.text.now c.utf8.text cc) c.loop-c.yielded _ c.loop-c.yielded_by _ _ c.in-Some.c c.in-Some.is c.next.ensures.steps in
    let e = at_next (chars c.args.text.now) (length c.loop-c.yielded) c.in-Some.c t in
    let good : is_xml c.in-Some.c ≡ true = search rules in
    let goes = cond-true (is_xml c.in-Some.c) (len_utf8 c.in-Some.c + good_bytes (drop (length c.loop-c.yielded + 1) (chars c.args.text.now))) 0 good in
    let n = length_push c.loop-c.yielded c.in-Some.c in
    let l = c.len_utf8-len.ensures.value in
    let i = c.loop-c.invariant in
    rw n (omega (arith, i, e, goes, l))

pub returns : goal.returns
returns c =
    let t = YieldsList-end (YieldsList-from_chars c.args.text.now c.utf8.text cc) c.loop-c.yielded _ c.loop-c.yielded_by _ _ c.in-None.is c.next.ensures.steps in
    let i = c.loop-c.invariant in
    omega (arith, i, at_drop_all good_bytes (chars c.args.text.now) (length c.loop-c.yielded) (omega (arith, t.1)))
