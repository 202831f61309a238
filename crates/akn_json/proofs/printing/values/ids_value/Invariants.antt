use Rattle.std.proofs.Common.{◌≡◌, map, take}
use Rattle.serde_json.specs.View.{view}
use Rattle.serde_json.specs.Data.{string}
use Rattle.desk_base.specs.Ids.{id_text}
use Rattle.akn_json.proofs.printing.values.ids_value.Given as goal

abbrev pub invariant-loop-id : goal.invariant-loop-id
invariant-loop-id l = map view l.list.items ≡ map (λ id. string (id_text id)) (take l.id-index l.ids)
