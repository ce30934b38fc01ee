-- Transitions in an order, as a clause sees them.
use Rattle.std.specs.Prelude.{List}
use Rattle.pssm_model.specs.declared.ids.TransId.{TransId}

-- transitions in a row (UML 2.5.1 14.2.3.7, junction)
pub record Transitions : Type 0 where
  pub items : List TransId
