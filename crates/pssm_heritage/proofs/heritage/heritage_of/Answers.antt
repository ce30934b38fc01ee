use Rattle.std.proofs.Common.{length, subst}
use Rattle.pssm_heritage.specs.declared.kinds.ElementKind.TheVariants.{Region, Vertex, Transition}
use Rattle.pssm_heritage.specs.inner.Tables.{IsNumbering}
use Rattle.pssm_heritage.proofs.NumberLaws.{numbers_known}
use Rattle.pssm_heritage.proofs.heritage.heritage_of.Goals as goal

pub returns : goal.returns
returns c = record {
  chain = c.requires.chain;
  regions = numbers_known c.args.draft.now Region c.args._m c.args.machines.items c.in_ok-regions.regions c.requires.chain
      (subst
      (λ ms. IsNumbering c.args.draft.now Region ms (length ms) 0 c.in_ok-regions.regions.rows.items c.in_ok-regions.regions.firsts.items)
      c.as_slice.ensures.value
      c.in_ok-regions.ensures);
  vertices = numbers_known c.args.draft.now Vertex c.args._m c.args.machines.items c.in_ok-vertices.vertices c.requires.chain
      (subst
      (λ ms. IsNumbering c.args.draft.now Vertex ms (length ms) 0 c.in_ok-vertices.vertices.rows.items c.in_ok-vertices.vertices.firsts.items)
      c.as_slice-2.ensures.value
      c.in_ok-vertices.ensures);
  transitions = numbers_known c.args.draft.now Transition c.args._m c.args.machines.items c.in_ok-transitions.transitions c.requires.chain
      (subst
      (λ ms. IsNumbering c.args.draft.now Transition ms (length ms) 0 c.in_ok-transitions.transitions.rows.items c.in_ok-transitions.transitions.firsts.items)
      c.as_slice-3.ensures.value
      c.in_ok-transitions.ensures);
}
