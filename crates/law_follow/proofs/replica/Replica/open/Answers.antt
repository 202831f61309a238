use Rattle.std.proofs.Common.{subst, ℕ}
use Rattle.std.proofs.lemmas.Result.{err_from_is_err_and}
use Rattle.law_follow.specs.Opening.{StaysUnlessFailed}
use Rattle.law_follow.proofs.Loading.{found_stays, keeps_then}
use Rattle.law_follow.proofs.replica.Replica.open.Goals as goal

pub returns-in-Err-clause-same : goal.returns-in-Err-clause-same
returns-in-Err-clause-same g c = keeps_then _ _ _ c.in_ok-reopen.ensures.same c.load_entries.ensures.same

pub returns-in_err-reopen-clause-stays : goal.returns-in_err-reopen-clause-stays
returns-in_err-reopen-clause-stays g c =
    let p = err_from_is_err_and c.from_residual.result c.from_residual.ensures.1 in
    rw (p.1, p.2)
    (found_stays _ (g.K.Keeper.holding c.args.keeper.now) _ _ c.in_err-reopen.field-0.0 c.in_err-reopen.ensures.found c.in_err-reopen.ensures.cause)

pub returns-in-Err-clause-stays : goal.returns-in-Err-clause-stays
returns-in-Err-clause-stays g c = λ told.
    subst (λ (n : ℕ). StaysUnlessFailed n (g.K.Keeper.faults c.load_entries.new.keeper) c.in-Err.fault) c.in_ok-reopen.ensures.cause
    (c.in-Err.ensures.stays (c.in_ok-reopen.ensures.same.tells.0 told))
