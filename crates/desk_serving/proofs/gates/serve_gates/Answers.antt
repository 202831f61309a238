-- The gates are those of the list, one after another.
use Rattle.std.proofs.Common.{arith, ◌≡◌, length, List}
use Rattle.desk_serving.proofs.OneByOne.{four_are, four_set, one_get}
use Rattle.desk_serving.proofs.Visits.{were_served_in}
use Rattle.desk_serving.proofs.gates.serve_gates.Goals as goal

pub returns-clause-served : goal.returns-clause-served
returns-clause-served g c =
    let one = c.split_at_mut-a.ensures.front_len in
    let two : length c.split_at_mut-a.result.1.now ≡ 1 = omega (arith, c.split_at_mut-a.ensures.back_len, c.split_at_mut-front.ensures.front_len) in
    let three = c.split_at_mut-c.ensures.front_len in
    let four : length c.split_at_mut-c.result.1.now ≡ 1 = omega (arith, c.split_at_mut-c.ensures.back_len, c.split_at_mut-front.ensures.back_len, c.requires.four) in
    were_served_in g.G.Conn.Link.left g.G.Conn.Link.written g.G.Conn.Link.read_faults g.G.Conn.Link.write_faults g.G.Gate.tally g.G.Gate.faults
    c.args.job.connections _ _ _ c.well_answered_stays.ensures _ _ _ _ _
    (four_are c.args.gates.now c.split_at_mut-front.result.0.now c.split_at_mut-front.result.1.now
    c.split_at_mut-a.result.0.now c.split_at_mut-a.result.1.now c.split_at_mut-c.result.0.now c.split_at_mut-c.result.1.now _ _ _ _
    c.split_at_mut-front.ensures.value c.split_at_mut-a.ensures.value c.split_at_mut-c.ensures.value
    (one_get c.split_at_mut-a.result.0.now _ one) (one_get c.split_at_mut-a.result.1.now _ two)
    (one_get c.split_at_mut-c.result.0.now _ three) (one_get c.split_at_mut-c.result.1.now _ four))
    (four_set c.split_at_mut-a.result.0.now c.split_at_mut-a.result.1.now c.split_at_mut-c.result.0.now c.split_at_mut-c.result.1.now
    c.serve_four.new.a c.serve_four.new.b c.serve_four.new.c c.serve_four.new.d one two three four)
    c.serve_four.ensures.served
