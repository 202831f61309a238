use Rattle.std.proofs.Common.{◌≡◌, ℕ, List, true, false, Option, Ok, subst, sym, ap, ◌∙◌, rules}
use Rattle.std.specs.Str.{bytes_eq}
use Rattle.law_journal.specs.Journals.{read_into}
use Rattle.law_keeper.specs.Keepers.{Gives}
use Rattle.sql_keeper.proofs.Moves.{came, ends, goes_beyond, has_another, goes_on}
use Rattle.sql_keeper.proofs.moving.walk_both.Goals as goal

pub returns-clause-agreed : goal.returns-clause-agreed
returns-clause-agreed g c =
    let h = g.A.Keeper.holding in
    let h_to = g.B.Keeper.holding in
    let w = c.walk.invariant in
    let next_to = h_to c.load.new.self in
    ends (h c.args.from.now) (h c.walk.from) (h_to c.args.to.now) (h_to c.walk.to) c.walk.cursor c.walk.cursor_to c.walk.place w.come w.come_to w.same next_to
    (subst (λ (o : Option ℕ). Gives (h_to c.walk.to) c.walk.cursor_to next_to (read_into c.load.new.into.items (Ok o))) c.in_default.is c.in_ok-next_to.ensures.given)

pub returns-in_default-2-clause-agreed : goal.returns-in_default-2-clause-agreed
returns-in_default-2-clause-agreed g c =
    let h = g.A.Keeper.holding in
    let h_to = g.B.Keeper.holding in
    let w = c.walk.invariant in
    let next = h c.load-in-Some.new.self in
    let next_to = h_to c.load.new.self in
    let theirs : List ℕ × ℕ = (c.load.new.into.items, c.in-Some.next_to) in
    goes_beyond (h c.args.from.now) (h c.walk.from) (h_to c.args.to.now) (h_to c.walk.to) c.walk.cursor c.walk.cursor_to c.walk.place w.come w.come_to w.same next next_to theirs
    (subst (λ (o : Option ℕ). Gives (h_to c.walk.to) c.walk.cursor_to next_to (read_into c.load.new.into.items (Ok o))) c.in-Some.is c.in_ok-next_to.ensures.given)
    (subst (λ (o : Option ℕ). Gives (h c.walk.from) c.walk.cursor next (read_into c.load-in-Some.new.into.items (Ok o))) c.in_default-2.is c.in_ok-next.ensures.given)

pub returns-then-not-is_one-clause-agreed : goal.returns-then-not-is_one-clause-agreed
returns-then-not-is_one-clause-agreed g c =
    let h = g.A.Keeper.holding in
    let h_to = g.B.Keeper.holding in
    let w = c.walk.invariant in
    let next = h c.load-in-Some.new.self in
    let next_to = h_to c.load.new.self in
    let ours : List ℕ × ℕ = (c.load-in-Some.new.into.items, c.in-Some-2.next) in
    let theirs : List ℕ × ℕ = (c.load.new.into.items, c.in-Some.next_to) in
    let test : bytes_eq theirs.0 ours.0 ≡ false =
    ap (λ (l : List ℕ). bytes_eq l ours.0) (sym c.as_slice.ensures.value) ∙ ap (bytes_eq c.as_slice.result.now) (sym c.as_slice-in-Some.ensures.value) ∙ sym c.is_one.ensures ∙ c.if-not-is_one.true in
    has_another (h c.args.from.now) (h c.walk.from) (h_to c.args.to.now) (h_to c.walk.to) c.walk.cursor c.walk.cursor_to c.walk.place w.come w.come_to w.same next next_to ours theirs
    (subst (λ (o : Option ℕ). Gives (h c.walk.from) c.walk.cursor next (read_into c.load-in-Some.new.into.items (Ok o))) c.in-Some-2.is c.in_ok-next.ensures.given)
    (subst (λ (o : Option ℕ). Gives (h_to c.walk.to) c.walk.cursor_to next_to (read_into c.load.new.into.items (Ok o))) c.in-Some.is c.in_ok-next_to.ensures.given)
    test

pub walk-preserved : goal.walk-preserved
walk-preserved g c =
    let h = g.A.Keeper.holding in
    let h_to = g.B.Keeper.holding in
    let w = c.walk.invariant in
    let next = h c.load-in-Some.new.self in
    let next_to = h_to c.load.new.self in
    let ours : List ℕ × ℕ = (c.load-in-Some.new.into.items, c.in-Some-2.next) in
    let theirs : List ℕ × ℕ = (c.load.new.into.items, c.in-Some.next_to) in
    let given = subst (λ (o : Option ℕ). Gives (h c.walk.from) c.walk.cursor next (read_into c.load-in-Some.new.into.items (Ok o))) c.in-Some-2.is c.in_ok-next.ensures.given in
    let given_to = subst (λ (o : Option ℕ). Gives (h_to c.walk.to) c.walk.cursor_to next_to (read_into c.load.new.into.items (Ok o))) c.in-Some.is c.in_ok-next_to.ensures.given in
    let test : bytes_eq theirs.0 ours.0 ≡ true =
    ap (λ (l : List ℕ). bytes_eq l ours.0) (sym c.as_slice.ensures.value) ∙ ap (bytes_eq c.as_slice.result.now) (sym c.as_slice-in-Some.ensures.value) ∙ sym c.is_one.ensures ∙ c.if-not-is_one.false in
    record {
      come = came (h c.args.from.now) (h c.walk.from) c.walk.cursor c.walk.place w.come next ours given c.in_ok-next.ensures.same c.in_ok-next.ensures.crash (c.in_ok-next.ensures.settled c.in_ok-next.ensures.ready);
      come_to = came (h_to c.args.to.now) (h_to c.walk.to) c.walk.cursor_to c.walk.place w.come_to next_to theirs given_to c.in_ok-next_to.ensures.same c.in_ok-next_to.ensures.crash (c.in_ok-next_to.ensures.settled c.in_ok-next_to.ensures.ready);
      same = goes_on (h c.args.from.now) (h c.walk.from) (h_to c.args.to.now) (h_to c.walk.to) c.walk.cursor c.walk.cursor_to c.walk.place w.come w.come_to w.same next next_to ours theirs given given_to test;
      ready = search rules;
      ready_to = search rules;
      same_count = search rules;
      same_count_to = search rules;
      low = search rules;
    }
