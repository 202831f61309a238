-- How a run of a keeper's calls goes on.
use Rattle.std.proofs.Common.{inl, inr, ⊎_elim, arith, ◌∙◌}
use Rattle.law_journal.specs.Grammar.{Listing}
use Rattle.law_keeper.specs.Keepers.{Holding, IsHolding, Keeps, LeavesOnly}

-- a run behind a run
pub then_runs : (P : Listing → Type 0) (o m n : Holding) → LeavesOnly P o m → LeavesOnly P m n → LeavesOnly P o n
then_runs P o m n first second = record {
  tells = second.tells;
  now = second.now;
  any_moment = λ moments.
      let a = first.any_moment moments in
      let b = second.any_moment a.tells in
      record {
        tells = b.tells;
        later = omega (arith, a.later, b.later);
        since = λ list left. ⊎_elim (a.since list) (λ p. p) (b.before o.moment list a.later left);
        before = λ t list le left. ⊎_elim (a.before t list le) (λ p. inr p) (b.before t list (omega (arith, le, a.later)) left);
      };
}

-- what has P has Q
pub weaker : (P Q : Listing → Type 0) (o n : Holding) → ((list : Listing) → P list → Q list) → LeavesOnly P o n → LeavesOnly Q o n
weaker P Q o n leads run = record {
  tells = run.tells;
  now = λ list left. leads list (run.now list left);
  any_moment = λ moments.
      let a = run.any_moment moments in
      record {
        tells = a.tells;
        later = a.later;
        since = λ list left. leads list (a.since list left);
        before = λ t list le left. ⊎_elim (λ old. inl old) (λ p. inr (leads list p)) (a.before t list le left);
      };
}

-- a run after which a crash leaves nothing that it could not leave before
pub idles_on : (P : Listing → Type 0) (o m n : Holding) → LeavesOnly P o m → LeavesOnly m.may_leave m n → LeavesOnly P o n
idles_on P o m n first second = then_runs P o m n first (weaker m.may_leave P m n first.now second)

-- no call at all
pub rests : (h : Holding) → IsHolding h → h.tells_crash → LeavesOnly h.may_leave h h
rests h is crash = record {
  tells = crash;
  now = λ list may. may;
  any_moment = λ moments. record {
    tells = moments;
    later = omega arith;
    since = λ list left. is.only_now moments list left;
    before = λ t list le left. inl left;
  };
}

-- calls that change no payload
pub keeps_both : (o m n : Holding) → Keeps o m → Keeps m n → Keeps o n
keeps_both o m n first second = record {
  tells = (λ t. second.tells.0 (first.tells.0 t), λ t. first.tells.1 (second.tells.1 t));
  tells_crash = (λ t. second.tells_crash.0 (first.tells_crash.0 t), λ t. first.tells_crash.1 (second.tells_crash.1 t));
  list = λ t. second.list (first.tells.0 t) ∙ first.list t;
  places = λ t cursor n at. second.places (first.tells.0 t) cursor n (first.places t cursor n at);
}
