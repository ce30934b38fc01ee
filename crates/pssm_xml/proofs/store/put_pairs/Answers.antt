use Rattle.std.proofs.Common.{map, take, subst, List, ℕ}
use Rattle.pssm_xml.specs.inner.Cuts.{given_attribute}
use Rattle.pssm_xml.specs.inner.Stores.{IsPut}
use Rattle.pssm_xml.proofs.StoreLaws.{put_nothing, put_more, given_turn}
use Rattle.pssm_xml.proofs.store.put_pairs.Goals as goal

pub loop-attribute-init : goal.loop-attribute-init
loop-attribute-init c = put_nothing c.args.bytes.items c.args.pairs.items

pub loop-attribute-preserved : goal.loop-attribute-preserved
loop-attribute-preserved c =
    let value : IsPut c.in_ok-named.named.items c.attribute-item.result.value.items c.in_ok-valued.valued.items c.in_ok-valued.value =
    subst (λ (t : List ℕ). IsPut c.in_ok-named.named.items t c.in_ok-valued.valued.items c.in_ok-valued.value) c.as_slice.ensures.value c.in_ok-valued.ensures in
    put_more c.args.bytes.items c.args.pairs.items (map given_attribute (take c.loop-attribute.attribute-index c.args.attributes.now)) _ c.loop-attribute.bytes.items c.in_ok-named.named.items
    c.in_ok-valued.valued.items c.loop-attribute.pairs.items c.push.new.self.items c.attribute-item.result.name.now c.attribute-item.result.value.items c.in_ok-named.name c.in_ok-valued.value
    c.loop-attribute.invariant c.in_ok-named.ensures value c.in_ok-push.ensures.items
    (given_turn c.args.attributes.now c.loop-attribute.attribute-index c.attribute-item.result c.loop-attribute-test.true c.attribute-item.is)
