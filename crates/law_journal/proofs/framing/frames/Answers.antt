use Rattle.std.proofs.Common.{rules, ◌≡◌, ◌+◌, ◌<◌, ◌≤◌, ◌∙◌, length, map, get_or, arith}
use Rattle.std.proofs.lemmas.List.{places}
use Rattle.law_journal.proofs.Framed.{framed_more, framed_all}
use Rattle.law_journal.proofs.framing.frames.Goals as goal

pub loop-payload-preserved : goal.loop-payload-preserved
loop-payload-preserved c =
    let i = c.loop-payload.payload-index + 1 in
    let payload = c.payload-item.result in
    let within : i < length c.args.payloads.now = omega (arith, c.requires.some, c.loop-payload-test.true) in
    let here : payload ≡ get_or c.args.payloads.now i payload = c.payload-item.is ∙ search (rules, places) in
    let new = c.in_ok-put_sized-2.ensures in
    framed_more c.args.payloads.now i payload within here c.loop-payload.framed.items c.put_sized-in-loop-payload.new.framed.items c.loop-payload.invariant (search rules)

pub returns-clause-frames : goal.returns-clause-frames
returns-clause-frames c =
    let i = c.loop-payload.payload-index + 1 in
    let whole : length c.args.payloads.now ≤ i = omega (arith, c.requires.some, c.loop-payload-test.false) in
    framed_all c.args.payloads.now i whole c.requires.sizes c.loop-payload.framed.items c.push-2.new.self.items c.loop-payload.invariant c.in_ok-push-2.ensures.items

pub returns-clause-framed : goal.returns-clause-framed
returns-clause-framed c = (map (λ payload. payload.items) c.args.payloads.now, returns-clause-frames c)
