-- where ways end behind the last of the entry points a way leads on, and else the marks tell
use Rattle.std.proofs.Common.{refl}
use Rattle.pssm_enabled.proofs.EntryLaws.{ends_behind}
use Rattle.pssm_enabled.proofs.opening.passes_entry.Goals as goal

pub returns-then-ends_all_ways : goal.returns-then-ends_all_ways
returns-then-ends_all_ways g c values tells = (
  λ h. (c.last_entry-last.ensures.same values).1
      (ends_behind c.args.machine.now values c.last_entry-last.result c.last_entry-last.ensures.entry (c.ends_all_ways.ensures c.if-ends_all_ways.true)),
  λ way. refl,
)

pub returns : goal.returns
returns g c values tells =
    let is = c.has_way.ensures values tells in
    let same = c.last_entry-last.ensures.same values in
    (λ h. same.1 (is.0 h), λ way. is.1 (same.0 way))
