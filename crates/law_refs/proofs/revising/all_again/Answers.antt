use Rattle.law_refs.proofs.Behind.{steps_go_on, works_go_on}
use Rattle.law_refs.proofs.revising.all_again.Goals as goal

pub loop-work-preserved-in_ok-insert : goal.loop-work-preserved-in_ok-insert
loop-work-preserved-in_ok-insert g c = record {
  ordered = c.loop-work.invariant.ordered;
  works = works_go_on (g.T.Targets.broken_rule c.args.targets.now) c.args.moved.now c.args.rows.now c.args.old.now.entries c.loop-work.works.entries
      c.loop-work.work-iterator c.next.new.self c.insert.new.self.entries c.in-Some.work.now c.in_ok-copy.field-0 c.in-Some.kept.now c.in_ok-stays.stays c.in_ok-now.now
      c.in_ok-insert.ensures.entries c.in_ok-copy.ensures c.in_ok-now.ensures.kept c.in_ok-stays.ensures c.in-Some.ensures.steps c.loop-work.invariant.ordered c.loop-work.invariant.works;
  steps = steps_go_on c.args.moved.now c.args.rows.now c.loop-work.work-iterator c.next.new.self c.in-Some.work.now c.in-Some.kept.now c.in_ok-stays.stays
      c.loop-work.steps c.again.new.steps _
      c.in-Some.ensures.steps c.in_ok-stays.ensures c.in_ok-now.ensures.steps c.loop-work.invariant.steps;
}

pub loop-work-preserved : goal.loop-work-preserved
loop-work-preserved g c = record {
  ordered = c.loop-work.invariant.ordered;
  works = works_go_on (g.T.Targets.broken_rule c.args.targets.now) c.args.moved.now c.args.rows.now c.args.old.now.entries c.loop-work.works.entries
      c.loop-work.work-iterator c.next.new.self c.insert.new.self.entries c.in-Some.work.now c.in_ok-copy.field-0 c.in-Some.kept.now c.in_ok-stays.stays c.in_ok-now.now
      c.in_ok-insert.ensures.entries c.in_ok-copy.ensures c.in_ok-now.ensures.kept c.in_ok-stays.ensures c.in-Some.ensures.steps c.loop-work.invariant.ordered c.loop-work.invariant.works;
  steps = steps_go_on c.args.moved.now c.args.rows.now c.loop-work.work-iterator c.next.new.self c.in-Some.work.now c.in-Some.kept.now c.in_ok-stays.stays
      c.loop-work.steps c.again.new.steps _
      c.in-Some.ensures.steps c.in_ok-stays.ensures c.in_ok-now.ensures.steps c.loop-work.invariant.steps;
}
