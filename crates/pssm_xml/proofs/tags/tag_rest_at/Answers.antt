use Rattle.std.proofs.Common.{◌≡◌, ◌+◌, length, map, ap, ◌∙◌, None, Some, ◌++◌, ◌∷◌, []}
use Rattle.std.proofs.lemmas.List.{map-append}
use Rattle.pssm_xml.specs.inner.Reading.{tag_rest_taken, attribute_taken}
use Rattle.pssm_xml.specs.inner.Cuts.{given_attribute}
use Rattle.pssm_xml.proofs.LoopLaws.{tag_start, tag_ends, tag_none, tag_turn}
use Rattle.pssm_xml.proofs.tags.tag_rest_at.Goals as goal

pub loop-i-init : goal.loop-i-init
loop-i-init c = tag_start (length c.args.bytes.now + 1) c.args.bytes.now _ (ap (map given_attribute) c.new-attributes.ensures.items)

pub returns-in-Some : goal.returns-in-Some
returns-in-Some c =
    tag_ends (tag_rest_taken (length c.args.bytes.now + 1) c.args.bytes.now) (length c.args.bytes.now + 1) c.loop-i.i (map given_attribute c.loop-i.attributes.items) c.loop-i.rest.now
    c.in-Some.more.now c.in-Some.empty c.loop-i-test.true c.in-Some.ensures c.loop-i.invariant

pub returns-in_default-2 : goal.returns-in_default-2
returns-in_default-2 c =
    let none : None ≡ attribute_taken c.loop-i.rest.now = rw c.in_default-2.is at c.in_ok-attribute.ensures in
    tag_none (tag_rest_taken (length c.args.bytes.now + 1) c.args.bytes.now) (length c.args.bytes.now + 1) c.loop-i.i (map given_attribute c.loop-i.attributes.items) c.loop-i.rest.now
    c.loop-i-test.true c.in_default.ensures none c.loop-i.invariant

pub loop-i-preserved : goal.loop-i-preserved
loop-i-preserved c =
    let a : Some (given_attribute c.in-Some-2.attribute, c.in-Some-2.more.now) ≡ attribute_taken c.loop-i.rest.now = rw c.in-Some-2.is at c.in_ok-attribute.ensures in
    let more : map given_attribute c.push.new.self.items ≡ map given_attribute c.loop-i.attributes.items ++ given_attribute c.in-Some-2.attribute ∷ [] =
    ap (map given_attribute) c.in_ok-push.ensures.items ∙ map-append given_attribute c.loop-i.attributes.items (c.in-Some-2.attribute ∷ []) in
    tag_turn (tag_rest_taken (length c.args.bytes.now + 1) c.args.bytes.now) (length c.args.bytes.now + 1) c.loop-i.i (map given_attribute c.loop-i.attributes.items) _ c.loop-i.rest.now
    c.in-Some-2.more.now (given_attribute c.in-Some-2.attribute) c.loop-i-test.true c.in_default.ensures a more c.loop-i.invariant
