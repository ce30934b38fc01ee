-- Ids of elements: which element an id means, and which elements repeat an id (XMI 2.5.1 7.6.1, element identification attributes).
use Rattle.std.specs.Prelude.{◌<◌, ◌≢◌, ℕ, Bool, false, List, [], Option, bytes_eq, codes, position, slice_get}
use Rattle.std.specs.Option.{option_map_or, option_and_then}
use Rattle.pssm_xml.specs.Documents.{Element}
use Rattle.pssm_xml.specs.Elements.{attribute_value, HasValue}

-- The element has this id.
abbrev pub has_id : List ℕ → Element → Bool
has_id id e = option_map_or (λ own. bytes_eq own id) (attribute_value (codes "xmi:id") e) false

-- the number of the element that an id means, which is the first that has it; none where no element has it (this profile's choice: a file with doubled ids is
-- refused)
abbrev pub meant_by : List Element → List ℕ → Option ℕ
meant_by doc id = position (has_id id) doc

-- the element itself
abbrev pub element_meant : List Element → List ℕ → Option Element
element_meant doc id = option_and_then (slice_get doc) (meant_by doc id)

-- The element with this number has an id that an element before it has, so that the id means another one. An empty `xmi:id` is none (this profile's choice).
pub record RepeatsId (doc : List Element) (n : ℕ) : Type 0 where
  pub id : List ℕ
  pub some : id ≢ []
  pub earlier : ℕ
  pub own : HasValue doc n (codes "xmi:id") id
  pub before : earlier < n
  pub same : HasValue doc earlier (codes "xmi:id") id
