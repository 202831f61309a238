-- The mark of an id that is changed where it stands.
use Rattle.std.proofs.Common.{◌≡◌, ◌∙◌, sym, ap, Bool, true, false, cond, List, Some, is_some, option_map, refl}
use Rattle.std.specs.Map.{lookup, set_value}
use Rattle.desk_base.specs.declared.id.Id.{Id}
use Rattle.law_register.specs.Answer.Counted.{is_same_id}
use Rattle.law_register.proofs.Puts.{put, set_is_put, id_same, id_tells, id_either}

pub id_changed : {X : Type 0} (change : X → X) (new es : List (Id × X)) (own i : Id) (old v : X)
    → Some old ≡ lookup (is_same_id own) es → v ≡ change old → new ≡ set_value (is_same_id own) es v
    → lookup (is_same_id i) new ≡ cond (is_same_id own i) (option_map change (lookup (is_same_id i) es)) (lookup (is_same_id i) es)
id_changed {X} change new es own i old v found made is =
    ap (lookup (is_same_id i)) (is ∙ set_is_put is_same_id own v es (sym (ap is_some found)))
    ∙ put is_same_id (is_same_id i) own v (id_tells i own) es
    ∙ ap (λ b. cond b (Some v) (lookup (is_same_id i) es)) (id_either i own)
    ∙ by (is_same_id own i) refl
  where
    by : (b : Bool) → is_same_id own i ≡ b → cond b (Some v) (lookup (is_same_id i) es) ≡ cond b (option_map change (lookup (is_same_id i) es)) (lookup (is_same_id i) es)
    by true same = ap (λ x. Some x) made ∙ ap (option_map change) (found ∙ ap (λ t. lookup (is_same_id t) es) (id_same own i same))
    by false same = refl
