-- What an answer says of a provision.
use Rattle.std.specs.Prelude.{ℕ, Bool, List, refl}
use Rattle.std.specs.Coded.{Coded, code_by, coded×, coded_ℕ, coded_bool, coded_list}
use Rattle.act_tree.specs.Provisions.{Own}
use Rattle.act_tree.specs.OwnCode.{own_code}

-- its wId, its eId in this expression, whether it bears, and what it says of itself
pub record Shown : Type 0 where
  pub wid : List ℕ
  pub eid : List ℕ
  pub bears : Bool
  pub own : Own

-- it is told apart by its four parts
abbrev pub shown_code : Coded Shown
shown_code =
    code_by (List ℕ × (List ℕ × (Bool × Own)))
    (coded× (coded_list coded_ℕ) (coded× (coded_list coded_ℕ) (coded× coded_bool own_code)))
    (λ s. (s.wid, (s.eid, (s.bears, s.own))))
    (λ t. record { wid = t.0; eid = t.1.0; bears = t.1.1.0; own = t.1.1.1 })
    (λ _. refl)
