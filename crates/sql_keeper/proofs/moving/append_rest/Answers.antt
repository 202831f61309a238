use Rattle.std.proofs.Common.{◌≡◌, ℕ, List, false, Option, Ok, Err, length, subst, sym, ap, ◌∙◌, rules}
use Rattle.std.proofs.lemmas.Result.{err_from_is_err_and}
use Rattle.law_journal.specs.Grammar.{is_size}
use Rattle.law_journal.specs.Journals.{read_into}
use Rattle.law_keeper.specs.Keepers.{Appends, Gives, LeavesOneOfTwo}
use Rattle.sql_keeper.proofs.Appending.{passed_on, all_added, not_loaded, no_other_size, not_added, crash_on, added_one}
use Rattle.sql_keeper.proofs.moving.append_rest.Goals as goal

pub returns-clause-added : goal.returns-clause-added
returns-clause-added g c =
    let h = g.A.Keeper.holding in
    let h_to = g.B.Keeper.holding in
    let w = c.rest.invariant in
    all_added (h c.args.from.now) (h c.rest.from) (h_to c.args.to.now) (h_to c.rest.to) c.args.start c.rest.cursor c.rest.count w.passed w.added (h c.load.new.self)
    (subst (λ (o : Option ℕ). Gives (h c.rest.from) c.rest.cursor (h c.load.new.self) (read_into c.load.new.into.items (Ok o))) c.in_default.is c.in_ok-next.ensures.given)

pub returns-in_err-next-clause-added : goal.returns-in_err-next-clause-added
returns-in_err-next-clause-added g c =
    let h = g.A.Keeper.holding in
    let h_to = g.B.Keeper.holding in
    let w = c.rest.invariant in
    let p = err_from_is_err_and c.from_residual.result c.from_residual.ensures.1 in
    rw (p.1, p.2) (not_loaded (h c.args.from.now) (h c.rest.from) (h_to c.args.to.now) (h_to c.rest.to) c.args.start c.rest.cursor c.rest.count w.passed w.added (h c.load.new.self) c.in_err-next.field-0.0 c.in_err-next.ensures.given)

pub returns-then-not-is_payload-clause-added : goal.returns-then-not-is_payload-clause-added
returns-then-not-is_payload-clause-added g c = λ told told_to whole before starts.
    let h = g.A.Keeper.holding in
    let h_to = g.B.Keeper.holding in
    let w = c.rest.invariant in
    let next = h c.load.new.self in
    let entry : List ℕ × ℕ = (c.load.new.into.items, c.in-Some.next) in
    let none : is_size (length entry.0) ≡ false = ap (λ (l : List ℕ). is_size (length l)) (sym c.as_slice.ensures.value) ∙ sym c.is_payload.ensures ∙ c.if-not-is_payload.true in
    no_other_size (h c.args.from.now) (h c.rest.from) (h_to c.args.to.now) (h_to c.rest.to) c.args.start c.rest.cursor c.rest.count w.passed w.added next entry
    (subst (λ (o : Option ℕ). Gives (h c.rest.from) c.rest.cursor next (read_into c.load.new.into.items (Ok o))) c.in-Some.is c.in_ok-next.ensures.given) none told whole before starts

pub returns-in_err-append-clause-added : goal.returns-in_err-append-clause-added
returns-in_err-append-clause-added g c =
    let h = g.A.Keeper.holding in
    let h_to = g.B.Keeper.holding in
    let w = c.rest.invariant in
    let next = h c.load.new.self in
    let next_to = h_to c.append.new.self in
    let entry : List ℕ × ℕ = (c.load.new.into.items, c.in-Some.next) in
    let p = err_from_is_err_and c.from_residual-in_err-append.result c.from_residual-in_err-append.ensures.1 in
    rw (p.1, p.2) (not_added (h c.args.from.now) (h c.rest.from) (h_to c.args.to.now) (h_to c.rest.to) c.args.start c.rest.cursor c.rest.count w.passed w.added next entry
    (subst (λ (o : Option ℕ). Gives (h c.rest.from) c.rest.cursor next (read_into c.load.new.into.items (Ok o))) c.in-Some.is c.in_ok-next.ensures.given) next_to c.in_err-append.field-0.0
    (subst (λ (l : List ℕ). Appends l (h_to c.rest.to) next_to (Err c.in_err-append.field-0.0)) c.as_slice-in-Some.ensures.value c.in_err-append.ensures.appended))

pub returns-in_err-append-clause-crash_to : goal.returns-in_err-append-clause-crash_to
returns-in_err-append-clause-crash_to g c =
    let h = g.A.Keeper.holding in
    let h_to = g.B.Keeper.holding in
    let w = c.rest.invariant in
    let next = h c.load.new.self in
    let next_to = h_to c.append.new.self in
    let entry : List ℕ × ℕ = (c.load.new.into.items, c.in-Some.next) in
    crash_on (h c.args.from.now) (h c.rest.from) (h_to c.args.to.now) (h_to c.rest.to) c.args.start c.rest.cursor c.rest.count w.passed w.added next entry
    (subst (λ (o : Option ℕ). Gives (h c.rest.from) c.rest.cursor next (read_into c.load.new.into.items (Ok o))) c.in-Some.is c.in_ok-next.ensures.given) next_to
    (subst (λ (l : List ℕ). LeavesOneOfTwo l (h_to c.rest.to) next_to) c.as_slice-in-Some.ensures.value c.in_err-append.ensures.crash)

pub rest-preserved : goal.rest-preserved
rest-preserved g c =
    let h = g.A.Keeper.holding in
    let h_to = g.B.Keeper.holding in
    let w = c.rest.invariant in
    let next = h c.load.new.self in
    let next_to = h_to c.append.new.self in
    let entry : List ℕ × ℕ = (c.load.new.into.items, c.in-Some.next) in
    let given = subst (λ (o : Option ℕ). Gives (h c.rest.from) c.rest.cursor next (read_into c.load.new.into.items (Ok o))) c.in-Some.is c.in_ok-next.ensures.given in
    record {
      passed = passed_on (h c.args.from.now) (h c.rest.from) next c.args.start c.rest.cursor c.rest.count entry w.passed given c.in_ok-next.ensures.same c.in_ok-next.ensures.crash (c.in_ok-next.ensures.settled c.in_ok-next.ensures.ready);
      added = added_one (h c.args.from.now) (h c.rest.from) (h_to c.args.to.now) (h_to c.rest.to) c.args.start c.rest.cursor c.rest.count w.passed w.added next entry given next_to
          (subst (λ (l : List ℕ). LeavesOneOfTwo l (h_to c.rest.to) next_to) c.as_slice-in-Some.ensures.value c.in_ok-append.ensures.crash)
          c.in_ok-append.field-0
          (subst (λ (l : List ℕ). Appends l (h_to c.rest.to) next_to (Ok c.in_ok-append.field-0)) c.as_slice-in-Some.ensures.value c.in_ok-append.ensures.appended)
          (c.in_ok-append.ensures.settled c.in_ok-append.ensures.ready);
      ready = search rules;
      ready_to = search rules;
      same_count = search rules;
      same_count_to = search rules;
      low = search rules;
    }
