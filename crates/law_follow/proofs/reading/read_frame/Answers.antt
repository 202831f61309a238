use Rattle.std.proofs.Common.{◌≡◌, ◌∙◌, ◌≤◌, ◌<◌, sym, arith, ℕ, List, length, take, length-take}
use Rattle.law_follow.specs.declared.frame.TheConstants.{HEAD_SIZE}
use Rattle.law_follow.proofs.Fronts.{broken_read, headed_read, none_read}
use Rattle.law_follow.proofs.Heads.{framed_ruled, some_payload}
use Rattle.law_follow.proofs.reading.read_frame.Goals as goal

pub returns-then-count-eq0-clause-read : goal.returns-then-count-eq0-clause-read
returns-then-count-eq0-clause-read g c =
    let left = g.S.Source.left in
    let bytes : List ℕ = take c.in_ok-count.count c.fill.new.into in
    let none : length bytes ≡ 0 = omega (arith, length-take c.in_ok-count.count c.fill.new.into, c.if-count-eq0.true) in
    none_read (left c.args.source.now) (left c.fill.new.source) bytes c.in_ok-count.ensures.taken none

pub read_payload-requires : goal.read_payload-requires
read_payload-requires g c =
    some_payload (take c.in_ok-count.count c.fill.new.into) c.in-Some.head (sym c.head_in.ensures ∙ c.in-Some.is)

pub returns-in-Some-clause-read : goal.returns-in-Some-clause-read
returns-in-Some-clause-read g c =
    let left = g.S.Source.left in
    let bytes : List ℕ = take c.in_ok-count.count c.fill.new.into in
    let long = length-take c.in_ok-count.count c.fill.new.into in
    let most : length bytes ≤ HEAD_SIZE = omega (arith, long, c.in_ok-count.ensures.most) in
    let some : 0 < length bytes = omega (arith, long, c.if-count-eq0.false, c.in_ok-count.ensures.most, c.fill.ensures.long) in
    rw c.framed.ensures
    (headed_read (left c.args.source.now) (left c.fill.new.source) (left c.read_payload.new.source) bytes c.in-Some.head
    c.read_payload.result c.in_ok-count.ensures.taken most some (sym c.head_in.ensures ∙ c.in-Some.is) c.read_payload.ensures.read)

pub returns-in-Some-clause-message : goal.returns-in-Some-clause-message
returns-in-Some-clause-message g c =
    rw c.framed.ensures
    (framed_ruled (take c.in_ok-count.count c.fill.new.into) c.in-Some.head c.read_payload.result (sym c.head_in.ensures ∙ c.in-Some.is)
    c.read_payload.ensures.frame)

pub returns-in-None-clause-read : goal.returns-in-None-clause-read
returns-in-None-clause-read g c =
    let left = g.S.Source.left in
    let bytes : List ℕ = take c.in_ok-count.count c.fill.new.into in
    let long = length-take c.in_ok-count.count c.fill.new.into in
    let most : length bytes ≤ HEAD_SIZE = omega (arith, long, c.in_ok-count.ensures.most) in
    let some : 0 < length bytes = omega (arith, long, c.if-count-eq0.false, c.in_ok-count.ensures.most, c.fill.ensures.long) in
    broken_read (left c.args.source.now) (left c.fill.new.source) bytes c.in_ok-count.ensures.taken most some (sym c.head_in.ensures ∙ c.in-None.is)
