use Rattle.std.proofs.Common.{◌≡◌, ◌<◌, ℕ, List, length, sym, subst}
use Rattle.std.specs.List.{All}
use Rattle.pssm_numbering.specs.Meanings.{variables}
use Rattle.std.proofs.lemmas.Result.{IfOk-weaker}
use Rattle.pssm_drafting.proofs.ListLaws.{variables_within}
use Rattle.pssm_drafting.proofs.classes.known_variables.Goals as goal

pub returns-clause-within : goal.returns-clause-within
returns-clause-within c =
    IfOk-weaker c.variable_places.result
    (λ list. list.items ≡ variables c.args.file.now c.args.c)
    (λ list. All {X = ℕ} (λ n. n < length c.args.file.now.doc) list.items)
    (λ list is. subst (λ (xs : List ℕ). All (λ n. n < length c.args.file.now.doc) xs) (sym is) (variables_within c.args.file.now c.args.c))
    c.variable_places.ensures
