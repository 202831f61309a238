use Rattle.std.proofs.Common.{rules, ◌≡◌, ◌∙◌, sym, subst, arith, ℕ, ◌+◌, ◌<◌, ◌≤◌, List, [], length, get_or, IsTrue, Vec}
use Rattle.std.specs.declared.alloc.Global.{Global}
use Rattle.std.proofs.lemmas.List.{places}
use Rattle.std.proofs.lemmas.List.Elements.{All-get_or}
use Rattle.std.proofs.lemmas.Result.{err_from_is_err_and}
use Rattle.law_journal.specs.Grammar.{is_size}
use Rattle.law_keeper.specs.Keepers.{bytes_of}
use Rattle.law_keeper.proofs.Several.{bytes_at, bytes_long, none_added, one_added, one_refused, one_leaves, and_leaves, all_added}
use Rattle.law_keeper.proofs.keeper.Keeper.append_all.Goals as goal

pub returns-in_err-end-clause-appended : goal.returns-in_err-end-clause-appended
returns-in_err-end-clause-appended g c =
    let all = bytes_of c.args.payloads.now in
    let old = g.Self.Keeper.holding c.args.self.now in
    let next = g.Self.Keeper.holding c.append.new.self in
    let within : 0 < length all = omega (arith, c.requires.some, bytes_long c.args.payloads.now) in
    let here : c.as_slice.result.now ≡ get_or all 0 [] = c.as_slice.ensures.value ∙ bytes_at c.args.payloads.now 0 c.index-payloads-0.result c.requires.some c.index-payloads-0.is in
    let p = err_from_is_err_and c.from_residual.result c.from_residual.ensures.1 in
    rw (p.1, p.2) (one_refused all 0 _ within here old old next _ (none_added all old) c.in_err-end.ensures.appended)

pub returns-in_err-end-clause-crash : goal.returns-in_err-end-clause-crash
returns-in_err-end-clause-crash g c =
    let all = bytes_of c.args.payloads.now in
    let old = g.Self.Keeper.holding c.args.self.now in
    let next = g.Self.Keeper.holding c.append.new.self in
    let within : 0 < length all = omega (arith, c.requires.some, bytes_long c.args.payloads.now) in
    let here : c.as_slice.result.now ≡ get_or all 0 [] = c.as_slice.ensures.value ∙ bytes_at c.args.payloads.now 0 c.index-payloads-0.result c.requires.some c.index-payloads-0.is in
    one_leaves all 0 _ within here old old next (none_added all old) c.append.ensures.crash

pub loop-payload-init : goal.loop-payload-init
loop-payload-init g c =
    let all = bytes_of c.args.payloads.now in
    let old = g.Self.Keeper.holding c.args.self.now in
    let next = g.Self.Keeper.holding c.append.new.self in
    let within : 0 < length all = omega (arith, c.requires.some, bytes_long c.args.payloads.now) in
    let here : c.as_slice.result.now ≡ get_or all 0 [] = c.as_slice.ensures.value ∙ bytes_at c.args.payloads.now 0 c.index-payloads-0.result c.requires.some c.index-payloads-0.is in
    record {
      added = one_added all 0 _ within here old old next _ (none_added all old) c.in_ok-end.ensures.appended;
      end = c.in_ok-end.ensures.appended.end;
      crash = one_leaves all 0 _ within here old old next (none_added all old) c.append.ensures.crash;
      settled = c.append.ensures.settled c.in_ok-end.ensures.ready;
      ready = c.in_ok-end.ensures.ready;
      same_count = c.in_ok-end.ensures.cause;
    }

pub append-requires-in-loop-payload-clause-size : goal.append-requires-in-loop-payload-clause-size
append-requires-in-loop-payload-clause-size g c =
    let i = c.loop-payload.payload-index + 1 in
    let far : i < length c.args.payloads.now = omega (arith, c.requires.some, c.loop-payload-test.true) in
    let at : c.payload-item.result ≡ get_or c.args.payloads.now i c.payload-item.result = c.payload-item.is ∙ search (rules, places) in
    let P = λ (p : Vec ℕ Global). IsTrue (is_size (length p.items)) in
    let sized = subst P (sym at) (All-get_or P c.args.payloads.now i c.payload-item.result far c.requires.sizes) in
    subst (λ (l : List ℕ). IsTrue (is_size (length l))) (sym c.as_slice-in-loop-payload.ensures.value) sized

pub returns-in_err-end-2-clause-appended : goal.returns-in_err-end-2-clause-appended
returns-in_err-end-2-clause-appended g c =
    let i = c.loop-payload.payload-index + 1 in
    let far : i < length c.args.payloads.now = omega (arith, c.requires.some, c.loop-payload-test.true) in
    let at : c.payload-item.result ≡ get_or c.args.payloads.now i c.payload-item.result = c.payload-item.is ∙ search (rules, places) in
    let all = bytes_of c.args.payloads.now in
    let old = g.Self.Keeper.holding c.args.self.now in
    let now = g.Self.Keeper.holding c.loop-payload.self in
    let next = g.Self.Keeper.holding c.append-in-loop-payload.new.self in
    let within : i < length all = omega (arith, far, bytes_long c.args.payloads.now) in
    let here : c.as_slice-in-loop-payload.result.now ≡ get_or all i [] = c.as_slice-in-loop-payload.ensures.value ∙ bytes_at c.args.payloads.now i c.payload-item.result far at in
    let p = err_from_is_err_and c.from_residual-in_err-end-2.result c.from_residual-in_err-end-2.ensures.1 in
    rw (p.1, p.2) (one_refused all i _ within here old now next _ c.loop-payload.invariant.added c.in_err-end-2.ensures.appended)

pub returns-in_err-end-2-clause-crash : goal.returns-in_err-end-2-clause-crash
returns-in_err-end-2-clause-crash g c =
    let i = c.loop-payload.payload-index + 1 in
    let far : i < length c.args.payloads.now = omega (arith, c.requires.some, c.loop-payload-test.true) in
    let at : c.payload-item.result ≡ get_or c.args.payloads.now i c.payload-item.result = c.payload-item.is ∙ search (rules, places) in
    let all = bytes_of c.args.payloads.now in
    let old = g.Self.Keeper.holding c.args.self.now in
    let now = g.Self.Keeper.holding c.loop-payload.self in
    let next = g.Self.Keeper.holding c.append-in-loop-payload.new.self in
    let within : i < length all = omega (arith, far, bytes_long c.args.payloads.now) in
    let here : c.as_slice-in-loop-payload.result.now ≡ get_or all i [] = c.as_slice-in-loop-payload.ensures.value ∙ bytes_at c.args.payloads.now i c.payload-item.result far at in
    let so_far = c.loop-payload.invariant in
    and_leaves all old now next so_far.crash (one_leaves all i _ within here old now next so_far.added c.append-in-loop-payload.ensures.crash)

pub loop-payload-preserved : goal.loop-payload-preserved
loop-payload-preserved g c =
    let i = c.loop-payload.payload-index + 1 in
    let far : i < length c.args.payloads.now = omega (arith, c.requires.some, c.loop-payload-test.true) in
    let at : c.payload-item.result ≡ get_or c.args.payloads.now i c.payload-item.result = c.payload-item.is ∙ search (rules, places) in
    let all = bytes_of c.args.payloads.now in
    let old = g.Self.Keeper.holding c.args.self.now in
    let now = g.Self.Keeper.holding c.loop-payload.self in
    let next = g.Self.Keeper.holding c.append-in-loop-payload.new.self in
    let within : i < length all = omega (arith, far, bytes_long c.args.payloads.now) in
    let here : c.as_slice-in-loop-payload.result.now ≡ get_or all i [] = c.as_slice-in-loop-payload.ensures.value ∙ bytes_at c.args.payloads.now i c.payload-item.result far at in
    let so_far = c.loop-payload.invariant in
    let more = c.in_ok-end-2.ensures in
    record {
      added = one_added all i _ within here old now next _ so_far.added more.appended;
      end = λ t. more.appended.end (so_far.added.tells.0 t);
      crash = and_leaves all old now next so_far.crash (one_leaves all i _ within here old now next so_far.added c.append-in-loop-payload.ensures.crash);
      settled = c.append-in-loop-payload.ensures.settled more.ready;
      ready = more.ready;
      same_count = more.cause ∙ so_far.same_count;
    }

pub returns-clause-appended : goal.returns-clause-appended
returns-clause-appended g c =
    let all = bytes_of c.args.payloads.now in
    let count = c.loop-payload.payload-index + 1 in
    let whole : length all ≤ count = omega (arith, c.requires.some, c.loop-payload-test.false, bytes_long c.args.payloads.now) in
    let so_far = c.loop-payload.invariant in
    all_added all count (g.Self.Keeper.holding c.args.self.now) (g.Self.Keeper.holding c.loop-payload.self) c.loop-payload.end whole so_far.added so_far.end

pub returns-clause-crash : goal.returns-clause-crash
returns-clause-crash g c = c.loop-payload.invariant.crash
