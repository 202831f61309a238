-- What is left to record makes of the marks what all of it makes of those at the start.
use Rattle.std.proofs.Common.{◌≡◌, ◌+◌, ◌≤◌, drop}
use Rattle.indexmap.specs.IndexMap.{get_by, spare}
use Rattle.desk_base.specs.declared.id.Id.{Id}
use Rattle.law_register.specs.Answer.Counted.{is_same_id}
use Rattle.law_register.specs.Register.Indexes.{recorded_from}
use Rattle.law_register.proofs.register.marks.record.Given as goal

abbrev pub invariant-loop-body : goal.invariant-loop-body
invariant-loop-body l = record {
  marks : (i : Id) → recorded_from l.number l.recorded l.item (drop l.body-index l.bodies) i (get_by (is_same_id i) l.ids)
      ≡ recorded_from l.number l.recorded 1 l.bodies i (get_by (is_same_id i) l.initial.ids);
  item : l.item ≡ l.body-index + 1;
  room : 64 ≤ spare l.ids + l.body-index;
}
