use Rattle.std.proofs.Common.{rules, ◌∙◌, ◌+◌, ◌<◌, sym, ap, length}
use Rattle.held_provisions.proofs.Until.{front_more, front_told, room_left}
use Rattle.held_provisions.proofs.lines.entries_until.Goals as goal

pub returns-then-known-viewpoint-clause-law : goal.returns-then-known-viewpoint-clause-law
returns-then-known-viewpoint-clause-law c =
    front_told c.args.register.now.entries c.loop-index.index c.args.viewpoint
    (sym c.if-known-viewpoint.true ∙ c.loop-index.invariant.known)

pub loop-index-preserved : goal.loop-index-preserved
loop-index-preserved c =
    let es = c.args.register.now.entries in
    let within : c.loop-index.index < length es = search rules in
    record {
      known =
          ap (λ n. c.loop-index.known + n) c.law_count-known.ensures
          ∙ front_more es c.loop-index.index c.entry.result.now c.loop-index.known within c.entry.ensures c.loop-index.invariant.known;
      few =
          room_left c.loop-index.known c.args.viewpoint c.law_count-known.result c.entry.result.now.command c.loop-index.invariant.few
          c.if-known-viewpoint.false c.law_count-known.ensures;
    }
