-- How a run of device calls goes on.
use Rattle.std.proofs.Common.{inl, inr, ⊎_elim, ℕ, List, refl, ◌∙◌, arith}
use Rattle.law_journal.specs.Disks.{Outlook, IsOutlook, Elapses, Idles, LeavesOnly}

module _ (P : List ℕ → Type 0) where
  -- before the first call
  pub started : (o : Outlook) → IsOutlook o → o.tells → ((c : List ℕ) → o.may_leave c → P c) → LeavesOnly P o o
  started o is tells now = record { tells = tells; later = omega arith; now = now; since = λ c left. now c (is.only_now c left); before = λ t c le left. inl left }

  -- one call more, after which a crash leaves what has P
  pub goes_on : (o m n : Outlook) → LeavesOnly P o m → Elapses m n → n.tells → ((c : List ℕ) → n.may_leave c → P c) → LeavesOnly P o n
  goes_on o m n so_far time tells here = record {
    tells = tells;
    later = omega (arith, so_far.later, time.later);
    now = here;
    since = λ c left. ⊎_elim (so_far.since c) (here c) (time.nothing_else o.moment c so_far.later left);
    before = λ t c le left. ⊎_elim (so_far.before t c le) (λ now. inr (here c now)) (time.nothing_else t c (omega (arith, le, so_far.later)) left);
  }

  -- a call that leaves the bytes as they are
  pub idles_on : (o m n : Outlook) → LeavesOnly P o m → Idles m n → LeavesOnly P o n
  idles_on o m n so_far idle = goes_on o m n so_far idle.time (idle.tells.0 so_far.tells) (λ c left. so_far.now c (idle.crash c left))

  -- a run behind a run
  pub then_runs : (o m n : Outlook) → LeavesOnly P o m → LeavesOnly P m n → LeavesOnly P o n
  then_runs o m n first second = record {
    tells = second.tells;
    later = omega (arith, first.later, second.later);
    now = second.now;
    since = λ c left. ⊎_elim (first.since c) (λ p. p) (second.before o.moment c first.later left);
    before = λ t c le left. ⊎_elim (first.before t c le) (λ p. inr p) (second.before t c (omega (arith, le, first.later)) left);
  }

-- what has P has Q
pub weaker : (P Q : List ℕ → Type 0) (o n : Outlook) → ((c : List ℕ) → P c → Q c) → LeavesOnly P o n → LeavesOnly Q o n
weaker P Q o n leads run = record {
  tells = run.tells;
  later = run.later;
  now = λ c left. leads c (run.now c left);
  since = λ c left. leads c (run.since c left);
  before = λ t c le left. ⊎_elim (λ old. inl old) (λ p. inr (leads c p)) (run.before t c le left);
}

-- a call that was not made
pub idle_none : (o : Outlook) → Idles o o
idle_none o = record {
  tells = (λ t. t, λ t. t);
  seen = refl;
  crash = λ c left. left;
  time = record { later = omega arith; nothing_else = λ t c le left. inl left; keeps = λ t c le left. left };
}

-- an idle call behind another
pub idle_both : (o m n : Outlook) → IsOutlook o → Idles o m → Idles m n → Idles o n
idle_both o m n is first second = record {
  tells = (λ t. second.tells.0 (first.tells.0 t), λ t. first.tells.1 (second.tells.1 t));
  seen = second.seen ∙ first.seen;
  crash = λ c left. first.crash c (second.crash c left);
  time = record {
    later = omega (arith, first.time.later, second.time.later);
    nothing_else = λ t c le left. ⊎_elim
        (λ mid. ⊎_elim (λ old. inl old) (λ now. inl (is.counts_now t c le (first.crash c now))) (first.time.nothing_else t c le mid))
        (λ now. inr now)
        (second.time.nothing_else t c (omega (arith, le, first.time.later)) left);
    keeps = λ t c le left. second.time.keeps t c (omega (arith, le, first.time.later)) (first.time.keeps t c le left);
  };
}
