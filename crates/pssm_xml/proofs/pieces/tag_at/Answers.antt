use Rattle.std.proofs.Common.{◌≡◌, ◌∙◌, ◌+◌, ap, sym, map, length, Some, List}
use Rattle.pssm_xml.specs.declared.tags.Given.{Given}
use Rattle.pssm_xml.specs.inner.Reading.{tag_rest_taken, all_different, TagParts}
use Rattle.pssm_xml.specs.inner.Cuts.{given_attribute, given_name}
use Rattle.pssm_xml.proofs.LoopLaws.{tag_by_parts}
use Rattle.pssm_xml.proofs.pieces.tag_at.Goals as goal

pub returns-then-branch : goal.returns-then-branch
returns-then-branch c =
    let parts : Some (let z : TagParts = (map given_attribute c.in-Some-2.attributes.items, c.in-Some-2.empty, c.in-Some-2.rest.now) in z) ≡ tag_rest_taken (length c.in-Some.behind.now + 1) c.in-Some.behind.now =
    rw c.in-Some-2.is at c.in_ok-attributes.ensures in
    let tested : c.in_ok-are_different.field-0 ≡ all_different (map given_name c.in-Some-2.attributes.items) =
    c.in_ok-are_different.ensures ∙ ap (λ (gs : List Given). all_different (map given_name gs)) c.deref.ensures.value in
    let is = c.if-branch.true in
    tag_by_parts c.args.bytes.now c.in-Some.name.now c.in-Some.behind.now c.in-Some-2.attributes.items c.in-Some-2.empty c.in-Some-2.rest.now _ c.in-Some.ensures parts (sym is ∙ tested)

pub returns : goal.returns
returns c =
    let parts : Some (let z : TagParts = (map given_attribute c.in-Some-2.attributes.items, c.in-Some-2.empty, c.in-Some-2.rest.now) in z) ≡ tag_rest_taken (length c.in-Some.behind.now + 1) c.in-Some.behind.now =
    rw c.in-Some-2.is at c.in_ok-attributes.ensures in
    let tested : c.in_ok-are_different.field-0 ≡ all_different (map given_name c.in-Some-2.attributes.items) =
    c.in_ok-are_different.ensures ∙ ap (λ (gs : List Given). all_different (map given_name gs)) c.deref.ensures.value in
    let is = c.if-branch.false in
    tag_by_parts c.args.bytes.now c.in-Some.name.now c.in-Some.behind.now c.in-Some-2.attributes.items c.in-Some-2.empty c.in-Some-2.rest.now _ c.in-Some.ensures parts (sym is ∙ tested)
