use Rattle.std.proofs.lemmas.List.Filters.{dedup_is}
use Rattle.pssm_redefine.proofs.DeferLaws.{united_from}
use Rattle.pssm_redefine.proofs.defers.united.Goals as goal

pub returns : goal.returns
returns c =
    united_from c.args.all.items c.sort_unstable.new.self.items c.dedup.new.self.items c.sort_unstable.ensures.permutation c.sort_unstable.ensures.sorted
    (dedup_is _ _ _ c.dedup.ensures.filtered)
