use Rattle.std.proofs.Common.{codes}
use Rattle.clap.specs.Words.{found_of, rows_of}
use Rattle.pssm_tool.proofs.WordLaws.{true_and_false}
use Rattle.pssm_tool.proofs.RunWordLaws.{list_is, no_options, no_list, no_words, bad_stimuli, is_asked}
use Rattle.pssm_tool.proofs.run_words.run_in.Goals as goal

-- The number of an option is none of its range.
pub returns-in_default-clause-none : goal.returns-in_default-clause-none
returns-in_default-clause-none c = no_options (rows_of (found_of c.args.matches.now)) c.in_default.ensures.none

-- There is no word but those of options.
pub returns-in_default-get_strs-clause-none : goal.returns-in_default-get_strs-clause-none
returns-in_default-get_strs-clause-none c =
    no_list (rows_of (found_of c.args.matches.now)) (list_is (found_of c.args.matches.now) (codes "words") c.get_strs.result _ c.get_strs.ensures c.in_default-get_strs.is)

pub returns-in_default-split_first-clause-none : goal.returns-in_default-split_first-clause-none
returns-in_default-split_first-clause-none c =
    no_words (rows_of (found_of c.args.matches.now)) c.in-Some-get_strs.list.now
    (list_is (found_of c.args.matches.now) (codes "words") c.get_strs.result _ c.get_strs.ensures c.in-Some-get_strs.is) c.in_default-split_first.ensures.cases

-- A word is not spelled as a stimulus.
pub returns-then-not-branch-clause-none : goal.returns-then-not-branch-clause-none
returns-then-not-branch-clause-none c =
    bad_stimuli (rows_of (found_of c.args.matches.now)) c.in-Some-get_strs.list.now
    (list_is (found_of c.args.matches.now) (codes "words") c.get_strs.result _ c.get_strs.ensures c.in-Some-get_strs.is)
    c.in-Some-split_first.model.now c.in-Some-split_first.stimuli.now c.in-Some-split_first.ensures.cases.0
    (λ spelled. true_and_false c.in_ok-are_spelled.field-0 (c.in_ok-are_spelled.ensures.1 spelled) c.if-not-branch.true)

pub returns-clause-reads : goal.returns-clause-reads
returns-clause-reads c =
    is_asked (rows_of (found_of c.args.matches.now)) c.in-Some-get_strs.list.now
    (list_is (found_of c.args.matches.now) (codes "words") c.get_strs.result _ c.get_strs.ensures c.in-Some-get_strs.is)
    c.in-Some-split_first.model.now c.in-Some-split_first.stimuli.now c.in-Some-split_first.ensures.cases.0
    c.in-Some.options c.in_ok-from_slice.field-0.items c.in-Some.ensures.reads c.in_ok-from_slice.ensures.items
    (c.in_ok-are_spelled.ensures.0 c.if-not-branch.false)
