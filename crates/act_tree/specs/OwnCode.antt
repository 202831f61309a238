-- The code of what a node says of itself.
use Rattle.std.specs.Prelude.{ℕ, List, refl}
use Rattle.std.specs.Coded.{Coded, code_by, coded×, coded_ℕ, coded_list}
use Rattle.eid_paths.specs.declared.element.Element.{Element}
use Rattle.eid_paths.specs.ElementCode.{element_code}
use Rattle.act_tree.specs.Provisions.{Own}

-- what a node says of itself is told apart by its five parts
abbrev pub own_code : Coded Own
own_code =
    code_by (Element × (List ℕ × (List ℕ × (List ℕ × List (List ℕ)))))
    (coded× element_code (coded× (coded_list coded_ℕ) (coded× (coded_list coded_ℕ)
    (coded× (coded_list coded_ℕ) (coded_list (coded_list coded_ℕ))))))
    (λ o. (o.element, (o.num, (o.heading, (o.content, o.refs)))))
    (λ t. record { element = t.0; num = t.1.0; heading = t.1.1.0; content = t.1.1.1.0; refs = t.1.1.1.1 })
    (λ _. refl)
