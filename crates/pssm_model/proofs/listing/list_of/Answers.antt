-- the list at the place, in which what is listed is there
use Rattle.std.proofs.lemmas.List.Elements.{Contains-get_or}
use Rattle.pssm_model.proofs.ListsFilled.{at_place, listed_there}
use Rattle.pssm_model.proofs.listing.list_of.Goals as goal

pub returns-clause-items : goal.returns-clause-items
returns-clause-items g c =
    rw (at_place c.args.lists.now c.as_slice.result.now c.index-as_slice-place.result c.as_slice-2.result.now c.args.place c.as_slice.ensures
    c.index-as_slice-place.is c.as_slice-2.ensures (rw c.requires.lists.all c.requires.place))
    (c.requires.lists.items c.args.place)

pub returns-clause-there : goal.returns-clause-there
returns-clause-there g c =
    rw (at_place c.args.lists.now c.as_slice.result.now c.index-as_slice-place.result c.as_slice-2.result.now c.args.place c.as_slice.ensures
    c.index-as_slice-place.is c.as_slice-2.ensures (rw c.requires.lists.all c.requires.place))
    (λ k d lt. (listed_there c.args.draft.now c.requires.shape c.args.listing c.args.place _
    ((c.requires.lists.items c.args.place _).0 (Contains-get_or _ k d lt))).1)

pub returns-clause-ascending : goal.returns-clause-ascending
returns-clause-ascending g c =
    rw (at_place c.args.lists.now c.as_slice.result.now c.index-as_slice-place.result c.as_slice-2.result.now c.args.place c.as_slice.ensures
    c.index-as_slice-place.is c.as_slice-2.ensures (rw c.requires.lists.all c.requires.place))
    (c.requires.lists.ascending c.args.place)
