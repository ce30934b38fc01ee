use Rattle.std.proofs.Common.{◌∙◌, ap, subst, sym}
use Rattle.pssm_heritage.specs.Heritages.{numbering_of}
use Rattle.pssm_heritage.specs.inner.Tables.{element_at}
use Rattle.pssm_breaches.specs.Latest.{IsWithin, AreLatestBefore}
use Rattle.pssm_breaches.specs.Broken.{IsBroken}
use Rattle.pssm_breaches.specs.inner.Walks.{after, breach_of, IsFirstOfTwo}
use Rattle.pssm_breaches.proofs.TableLaws.{is_within}
use Rattle.pssm_breaches.proofs.StepLaws.{search_goes_on}
use Rattle.pssm_breaches.proofs.walk.go_on.Goals as goal

pub broken_by-broken-requires-clause-within : goal.broken_by-broken-requires-clause-within
broken_by-broken-requires-clause-within c =
    subst (λ ms. IsWithin c.args.draft.now c.args.m c.args.kind (element_at ms c.args.k c.args.i)) (sym c.machines.ensures)
    (is_within c.args.draft.now c.args.m c.args.kind c.args.heritage.now c.requires.lineage c.args.k c.args.i c.requires.place c.requires.there)

pub note-requires-clause-within : goal.note-requires-clause-within
note-requires-clause-within c =
    subst (λ ms. IsWithin c.args.draft.now c.args.m c.args.kind (element_at ms c.args.k c.args.i)) (sym c.machines.ensures)
    (is_within c.args.draft.now c.args.m c.args.kind c.args.heritage.now c.requires.lineage c.args.k c.args.i c.requires.place c.requires.there)

pub returns : goal.returns
returns c =
    search_goes_on c.args.draft.now c.args.m c.args.kind c.args.heritage.now c.requires.lineage c.args.k c.args.i c.args.walk.now.latest.items c.note.new.latest.items
    c.broken_by-broken.result c.args.walk.now.found c.first_of_two-walk.result c.requires.so_far
    (subst (λ ms. IsBroken c.args.draft.now c.args.m c.args.kind (element_at ms c.args.k c.args.i) c.broken_by-broken.result) c.machines.ensures c.broken_by-broken.ensures)
    (subst (λ ms. AreLatestBefore c.args.draft.now c.args.kind (after (element_at ms c.args.k c.args.i)) (numbering_of c.args.kind c.args.heritage.now).firsts
    c.note.new.latest.items) c.machines.ensures c.note.ensures)
    (subst (λ one. IsFirstOfTwo c.args.draft.now c.args.walk.now.found one c.first_of_two-walk.result)
    (c.one_breach.ensures ∙ ap (λ ms. breach_of c.args.kind (element_at ms c.args.k c.args.i) c.broken_by-broken.result) c.machines.ensures)
    c.first_of_two-walk.ensures)
