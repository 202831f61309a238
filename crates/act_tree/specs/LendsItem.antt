-- What a list ends as, where a `&mut` to one of its values is returned.
use Rattle.std.specs.Prelude.{ℕ, List}
use Rattle.std.specs.Borrow.{Lends, Fml, RattleType, MutBor, Array}
use Rattle.act_tree.specs.KeptLists.{ListValue, with_value, with_values}
use Rattle.act_tree.specs.contracts.kept_list.KeptList.{the_row}

module _ (T SIZE : RattleType) (l : MutBor (ListValue T.Denot)) where
  -- once the borrow r ends, the place has the last value written through r
  abbrev pub lends_value : ℕ → MutBor T.Denot → Fml
  lends_value i r = Lends (the_row T SIZE) T l r (with_value l.now i)

  -- the same where r shows all values
  abbrev pub lends_all : MutBor (List T.Denot) → Fml
  lends_all r = Lends (the_row T SIZE) (Array T 0) l r (with_values l.now)
