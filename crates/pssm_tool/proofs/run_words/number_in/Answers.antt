use Rattle.std.proofs.Common.{List, ℕ, Option, IfSome, IfNone, refl, sym, subst}
use Rattle.clap.specs.Words.{found_of}
use Rattle.pssm_tool.specs.Words.{HasNumber}
use Rattle.pssm_tool.proofs.RunWordLaws.{given_is}
use Rattle.pssm_tool.proofs.run_words.number_in.Goals as goal

-- The option is given.
pub returns-in-Some-clause-has : goal.returns-in-Some-clause-has
returns-in-Some-clause-has c =
    subst (λ (given : Option (List ℕ)). IfSome c.number_of.result (HasNumber c.args.least c.args.greatest c.args.otherwise given))
    (sym (given_is (found_of c.args.matches.now) c.args.name.now c.get_str.result _ c.get_str.ensures c.in-Some.is)) c.number_of.ensures.number

pub returns-in-Some-clause-none : goal.returns-in-Some-clause-none
returns-in-Some-clause-none c =
    subst (λ (given : Option (List ℕ)). IfNone c.number_of.result ((n : ℕ) → HasNumber c.args.least c.args.greatest c.args.otherwise given n → ⊥))
    (sym (given_is (found_of c.args.matches.now) c.args.name.now c.get_str.result _ c.get_str.ensures c.in-Some.is)) c.number_of.ensures.none

-- It is left out.
pub returns-in-None-clause-has : goal.returns-in-None-clause-has
returns-in-None-clause-has c =
    subst (λ (given : Option (List ℕ)). HasNumber c.args.least c.args.greatest c.args.otherwise given c.args.otherwise)
    (sym (given_is (found_of c.args.matches.now) c.args.name.now c.get_str.result _ c.get_str.ensures c.in-None.is)) refl
