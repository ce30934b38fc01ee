-- what leaves the vertex is in the list of what does
use Rattle.std.proofs.Common.{Option, Some, None}
use Rattle.std.specs.Option.{IfNone}
use Rattle.std.proofs.lemmas.Option.{IfSome_then}
use Rattle.pssm_legs.proofs.path.out_among.Goals as goal

none_as : {X P Q : Type 0} (r : Option X) → (P → Q) → IfNone r P → IfNone r Q
none_as None f h = f h
none_as (Some x) f h = h

pub returns-else-few-clause-some : goal.returns-else-few-clause-some
returns-else-few-clause-some c =
    IfSome_then c.one_among.result c.one_among.ensures.some (λ t h. (h.1, (c.outgoing-outgoing.ensures.items t).0 h.0))

pub returns-else-few-clause-none : goal.returns-else-few-clause-none
returns-else-few-clause-none c =
    none_as c.one_among.result (λ none t there l. none t ((c.outgoing-outgoing.ensures.items t).1 l) there) c.one_among.ensures.none
