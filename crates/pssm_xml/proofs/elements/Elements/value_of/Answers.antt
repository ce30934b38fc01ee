use Rattle.std.proofs.Common.{◌∙◌, ap, ◌≡◌, List, ℕ}
use Rattle.std.specs.Prelude.{map}
use Rattle.pssm_xml.proofs.TreeLaws.{element_in, has_value}
use Rattle.pssm_xml.specs.declared.elements.Pair.{Pair}
use Rattle.pssm_xml.specs.inner.Trees.{element_of, value_among, attribute_of, in_span}
use Rattle.pssm_xml.proofs.elements.Elements.value_of.Goals as goal

pub returns : goal.returns
returns c =
    let pairs : c.pairs_in.result.now ≡ in_span c.self.inside.pairs.items c.node_at.result.attributes = c.pairs_in.ensures ∙ ap (λ (all : List Pair). in_span all c.node_at.result.attributes) c.deref-2.ensures.value in
    let bytes = c.deref-3.ensures.value in
    has_value c.args.self.now c.args.n c.args.name.now (element_of c.self.inside.pairs.items c.self.inside.bytes.items c.node_at.result) c.value_in.result
    (element_in c.self.inside c.deref.result.now c.args.self.now c.args.n c.node_at.result c.self.view_is c.deref.ensures.value c.node_at.ensures)
    (c.value_in.ensures ∙ ap (λ (p : List Pair). value_among c.args.name.now (map (attribute_of c.deref-3.result.now) p)) pairs
    ∙ ap (λ (b : List ℕ). value_among c.args.name.now (map (attribute_of b) (in_span c.self.inside.pairs.items c.node_at.result.attributes))) bytes)
