-- The work's own text ends where its number does.
use Rattle.std.proofs.Common.{rules}
use Rattle.frbr_names.specs.WorkViews.{front_view}
use Rattle.frbr_names.proofs.WorkLemmas.{work_boundary, own_work}
use Rattle.frbr_names.proofs.expression_reading.work_in.Goals as goal

pub range-requires-clause-end_boundary : goal.range-requires-clause-end_boundary
range-requires-clause-end_boundary c =
    work_boundary c.args.text.now c.part-number.result.now c.place_of.result (front_view c.args.front.now) c.requires.front c.requires.number
    c.part-number.ensures c.place_of.ensures

pub invariant_of-result : goal.invariant_of-result
invariant_of-result c = record {
  is_read =
      own_work c.args.text.now c.range.result.now c.part-number.result.now c.place_of.result (front_view c.args.front.now) c.requires.front c.requires.number
      c.part-number.ensures c.place_of.ensures (search rules);
}
