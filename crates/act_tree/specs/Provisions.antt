-- What provisions say of themselves.
use Rattle.std.specs.Prelude.{ℕ, List}
use Rattle.eid_paths.specs.declared.element.Element.{Element}

-- what a node says of itself, wherever it stands: its element, num, heading, content and refs
pub record Own : Type 0 where
  pub element : Element
  pub num : List ℕ
  pub heading : List ℕ
  pub content : List ℕ
  pub refs : List (List ℕ)

-- a provision of an act: its wId, which never changes, and what it says of itself
pub record Provision : Type 0 where
  pub wid : List ℕ
  pub own : Own
