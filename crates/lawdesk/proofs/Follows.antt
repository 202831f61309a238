-- What a run of `follow` leaves follows of how it ended.
use Rattle.std.proofs.Common.{◌≡◌, ◌≢◌, ◌⊎◌, inl, inr, ℕ, List, Option, Result, Ok, Err, arith, refl, subst, sym, ap, ◌∙◌}
use Rattle.desk_base.specs.Streams.{risen}
use Rattle.dossier_text.specs.Reports.{Told}
use Rattle.law_follow.specs.Following.{FollowsOver, HasKeeperCause, HasSourceCause, LeavesSource}
use Rattle.law_follow.specs.Following as over
use Rattle.law_follow.specs.Opening.{HasFirstCause, Refuses, opened_of}
use Rattle.law_follow.specs.declared.followed.Followed.{Followed}
use Rattle.law_follow.specs.declared.followed.FollowFault.{FollowFault}
use Rattle.law_follow.specs.declared.followed.FollowFault.TheVariants as stops
use Rattle.law_follow.specs.declared.followed.Refusal.{Refusal}
use Rattle.law_keeper.specs.Keepers.{Holding, Keeps, LeavesOldOrSame}
use Rattle.law_register.specs.declared.desk.open_fault.OpenFault.{OpenFault}
use Rattle.lawdesk.specs.Following.{IsFollowStatus, RanFollow, TellsFollowed, told_followed, told_refusal}
use Rattle.lawdesk.specs.Telling.{Tells, TellsUnopened}
use Rattle.lawdesk.proofs.SameOpening.{refuses_same}
use Rattle.lawdesk.proofs.Tellings.{four_cause, four_stays, one_of_three, opening_cause, opening_stays, unopened_cause, unopened_stays, unopened_status}

of_unopened : (status : ℕ) → (status ≡ 4) ⊎ ((status ≡ 5) ⊎ ((status ≡ 6) ⊎ (status ≡ 7))) → IsFollowStatus status
of_unopened status (inl four) = inr (inr (inl four))
of_unopened status (inr (inl five)) = inr (inr (inr (inl five)))
of_unopened status (inr (inr (inl six))) = inr (inr (inr (inr (inl six))))
of_unopened status (inr (inr (inr seven))) = inr (inr (inr (inr (inr (inl seven)))))

-- a register that was not opened ends with no status of one that was
abbrev Others : ℕ → Type 0
Others status = (status ≡ 0) ⊎ ((status ≡ 3) ⊎ (status ≡ 12))

no_other : (status : ℕ) → (status ≡ 4) ⊎ ((status ≡ 5) ⊎ ((status ≡ 6) ⊎ (status ≡ 7))) → Others status → ⊥
no_other status (inl four) (inl other) = omega (arith, four, other)
no_other status (inl four) (inr (inl other)) = omega (arith, four, other)
no_other status (inl four) (inr (inr other)) = omega (arith, four, other)
no_other status (inr (inl five)) (inl other) = omega (arith, five, other)
no_other status (inr (inl five)) (inr (inl other)) = omega (arith, five, other)
no_other status (inr (inl five)) (inr (inr other)) = omega (arith, five, other)
no_other status (inr (inr (inl six))) (inl other) = omega (arith, six, other)
no_other status (inr (inr (inl six))) (inr (inl other)) = omega (arith, six, other)
no_other status (inr (inr (inl six))) (inr (inr other)) = omega (arith, six, other)
no_other status (inr (inr (inr seven))) (inl other) = omega (arith, seven, other)
no_other status (inr (inr (inr seven))) (inr (inl other)) = omega (arith, seven, other)
no_other status (inr (inr (inr seven))) (inr (inr other)) = omega (arith, seven, other)

no_three : (status : ℕ) → (status ≡ 4) ⊎ ((status ≡ 5) ⊎ ((status ≡ 6) ⊎ (status ≡ 7))) → status ≢ 3
no_three status known three = no_other status known (inr (inl three))

-- what is told of a stream has one of these statuses
of_told : (status own : ℕ) → (own ≡ 0) ⊎ (own ≡ 12) → (status ≡ own) ⊎ ((status ≡ 4) ⊎ (status ≡ 7)) → IsFollowStatus status
of_told status own (inl zero_is) (inl is) = inl (is ∙ zero_is)
of_told status own (inr twelve) (inl is) = inr (inr (inr (inr (inr (inr (is ∙ twelve))))))
of_told status own either (inr (inl four)) = inr (inr (inl four))
of_told status own either (inr (inr seven)) = inr (inr (inr (inr (inr (inl seven)))))

own_is_not_four : (own : ℕ) → (own ≡ 0) ⊎ (own ≡ 12) → own ≢ 4
own_is_not_four own (inl none) four = omega (arith, none, four)
own_is_not_four own (inr twelve) four = omega (arith, twelve, four)

never : (n status own : ℕ) → (n ≡ 3) ⊎ (n ≡ 5) → (own ≡ 0) ⊎ (own ≡ 12) → (status ≡ own) ⊎ ((status ≡ 4) ⊎ (status ≡ 7)) → status ≢ n
never n status own (inl three) (inl none) (inl is) same = omega (arith, three, none, is, same)
never n status own (inl three) (inr twelve) (inl is) same = omega (arith, three, twelve, is, same)
never n status own (inr five) (inl none) (inl is) same = omega (arith, five, none, is, same)
never n status own (inr five) (inr twelve) (inl is) same = omega (arith, five, twelve, is, same)
never n status own (inl three) either (inr (inl four)) same = omega (arith, three, four, same)
never n status own (inr five) either (inr (inl four)) same = omega (arith, five, four, same)
never n status own (inl three) either (inr (inr seven)) same = omega (arith, three, seven, same)
never n status own (inr five) either (inr (inr seven)) same = omega (arith, five, seven, same)

module _ {S W K : Type 0} (left : S → Option (List ℕ)) (read_faults : S → ℕ)
    (written : W → Option (List ℕ)) (write_faults : W → ℕ) (holding : K → Holding) (keeper_faults : K → ℕ)
    (source source_new : S) (sink sink_new : W) (keeper keeper_new : K) where
  abbrev Ran : ℕ → Type 0
  Ran status = RanFollow left read_faults written write_faults holding keeper_faults source source_new sink sink_new keeper keeper_new status

  abbrev Follows : Result Followed FollowFault → Type 0
  Follows ended = FollowsOver (left source) (left source_new) (holding keeper) (holding keeper_new) ended

  pub follow_unopened : (fault : OpenFault) (status : ℕ)
      → ((holding keeper).tells → Refuses fault (opened_of (holding keeper).list))
      → HasFirstCause (holding keeper) (keeper_faults keeper) (keeper_faults keeper_new) fault
      → TellsUnopened written write_faults sink sink_new status fault
      → source_new ≡ source → Keeps (holding keeper) (holding keeper_new) → LeavesOldOrSame (holding keeper) (holding keeper_new)
      → Ran status
  follow_unopened fault status refused cause tells same_source same crash =
      let known = unopened_status written write_faults sink sink_new status fault tells in
      record {
        status_is = of_unopened status known;
        went = inl (record {
          fault = fault;
          refused = λ told. refuses_same fault (holding keeper).list (refused told);
          told = tells;
          same_source = same_source;
          same = same;
          crash = crash;
        });
        source_cause = λ three. absurd (no_three status known three);
        sink_cause = unopened_cause written write_faults sink sink_new status fault tells;
        keeper_cause = opening_cause written write_faults sink sink_new status (holding keeper) (keeper_faults keeper) (keeper_faults keeper_new) fault cause tells;
        source_stays = λ other. ap read_faults same_source;
        sink_stays = unopened_stays written write_faults sink sink_new status fault tells;
        keeper_stays = λ other. absurd (no_other status known other);
        damage_is_no_fault = opening_stays written write_faults sink sink_new status (holding keeper) (keeper_faults keeper) (keeper_faults keeper_new) fault cause tells;
      }

  -- a stream that was followed, of which this is told
  follow_told : (told : Told) (ended : Result Followed FollowFault) (status : ℕ) → (told.status ≡ 0) ⊎ (told.status ≡ 12)
      → Follows ended → TellsFollowed left read_faults written write_faults holding keeper_faults source source_new sink sink_new keeper keeper_new ended status
      → Tells written write_faults sink sink_new status told
      → read_faults source_new ≡ read_faults source → keeper_faults keeper_new ≡ keeper_faults keeper → Ran status
  follow_told told ended status own followed tells_so tells source_stays keeper_stays =
      let known = one_of_three written write_faults sink sink_new status told tells in
      record {
        status_is = of_told status told.status own known;
        went = inr (record { ended = ended; followed = followed; told = tells_so });
        source_cause = λ three. absurd (never 3 status told.status (inl refl) own known three);
        sink_cause = four_cause written write_faults sink sink_new status told (own_is_not_four told.status own) tells;
        keeper_cause = λ five. absurd (never 5 status told.status (inr refl) own known five);
        source_stays = λ other. source_stays;
        sink_stays = four_stays written write_faults sink sink_new status told tells;
        keeper_stays = λ other. keeper_stays;
        damage_is_no_fault = λ other h. keeper_stays;
      }

  pub follow_ended : (done : Followed) (status : ℕ) → Follows (Ok done)
      → Tells written write_faults sink sink_new status (told_followed done)
      → read_faults source_new ≡ read_faults source → keeper_faults keeper_new ≡ keeper_faults keeper → Ran status
  follow_ended done status followed tells source_stays keeper_stays =
      follow_told (told_followed done) (Ok done) status (inl refl) followed tells tells source_stays keeper_stays

  pub follow_refused : (refusal : Refusal) (status : ℕ) → Follows (Err (stops.Refused refusal))
      → Tells written write_faults sink sink_new status (told_refusal refusal)
      → read_faults source_new ≡ read_faults source → keeper_faults keeper_new ≡ keeper_faults keeper → Ran status
  follow_refused refusal status followed tells source_stays keeper_stays =
      follow_told (told_refusal refusal) (Err (stops.Refused refusal)) status (inr refl) followed tells tells source_stays keeper_stays

  pub follow_unread : Follows (Err stops.ReadFault) → sink_new ≡ sink
      → read_faults source_new ≡ risen (read_faults source) → keeper_faults keeper_new ≡ keeper_faults keeper → Ran 3
  follow_unread followed same rises keeper_stays = record {
    status_is = inr (inl refl);
    went = inr (record { ended = Err stops.ReadFault; followed = followed; told = record { status_is = refl; same = same } });
    source_cause = λ three. rises;
    sink_cause = λ four. absurd (omega (arith, four));
    keeper_cause = λ five. absurd (omega (arith, five));
    source_stays = λ other. absurd (other refl);
    sink_stays = λ other. ap write_faults same;
    keeper_stays = λ other. keeper_stays;
    damage_is_no_fault = λ other h. keeper_stays;
  }

  pub follow_unkept : Follows (Err stops.KeeperFault) → sink_new ≡ sink
      → read_faults source_new ≡ read_faults source → keeper_faults keeper_new ≡ risen (keeper_faults keeper) → Ran 5
  follow_unkept followed same source_stays rises = record {
    status_is = inr (inr (inr (inl refl)));
    went = inr (record { ended = Err stops.KeeperFault; followed = followed; told = record { status_is = refl; same = same } });
    source_cause = λ three. absurd (omega (arith, three));
    sink_cause = λ four. absurd (omega (arith, four));
    keeper_cause = λ five. rises;
    source_stays = λ other. source_stays;
    sink_stays = λ other. ap write_faults same;
    keeper_stays = λ other. absurd (no_other 5 (inr (inl refl)) other);
    damage_is_no_fault = λ other h. absurd (other refl);
  }

  pub follow_wanting : Follows (Err stops.Memory) → sink_new ≡ sink
      → read_faults source_new ≡ read_faults source → keeper_faults keeper_new ≡ keeper_faults keeper → Ran 7
  follow_wanting followed same source_stays keeper_stays = record {
    status_is = inr (inr (inr (inr (inr (inl refl)))));
    went = inr (record { ended = Err stops.Memory; followed = followed; told = record { status_is = refl; same = same } });
    source_cause = λ three. absurd (omega (arith, three));
    sink_cause = λ four. absurd (omega (arith, four));
    keeper_cause = λ five. absurd (omega (arith, five));
    source_stays = λ other. source_stays;
    sink_stays = λ other. ap write_faults same;
    keeper_stays = λ other. keeper_stays;
    damage_is_no_fault = λ other h. keeper_stays;
  }

  -- what following that ended so is to leave with a status
  abbrev Ends : FollowFault → ℕ → Type 0
  Ends fault status = over.Follows (left source) (left source_new) (holding keeper) (holding keeper_new) (Err fault)
      → LeavesSource source source_new (Err fault)
      → HasSourceCause {T = Followed} (read_faults source) (read_faults source_new) (Err fault)
      → HasKeeperCause {T = Followed} (holding keeper) (keeper_faults keeper) (keeper_faults keeper_new) (Err fault)
      → Ran status

  pub ends_unopened : (fault : FollowFault) (why : OpenFault) (status : ℕ) → fault ≡ stops.Open why
      → TellsUnopened written write_faults sink sink_new status why → Ends fault status
  ends_unopened fault why status is told =
      subst (λ f. Ends f status) (sym is)
      (λ follows unread source_cause cause.
      follow_unopened why status follows.refused cause told unread follows.same follows.crash)

  pub ends_refused : (fault : FollowFault) (refusal : Refusal) (status : ℕ) → fault ≡ stops.Refused refusal
      → Tells written write_faults sink sink_new status (told_refusal refusal) → Ends fault status
  ends_refused fault refusal status is told =
      subst (λ f. Ends f status) (sym is)
      (λ follows unread source_cause cause. follow_refused refusal status follows told source_cause cause)

  pub ends_unread : (fault : FollowFault) → fault ≡ stops.ReadFault → sink_new ≡ sink → Ends fault 3
  ends_unread fault is same =
      subst (λ f. Ends f 3) (sym is) (λ follows unread source_cause cause. follow_unread follows same source_cause cause)

  pub ends_unkept : (fault : FollowFault) → fault ≡ stops.KeeperFault → sink_new ≡ sink → Ends fault 5
  ends_unkept fault is same =
      subst (λ f. Ends f 5) (sym is) (λ follows unread source_cause cause. follow_unkept follows same source_cause cause)

  pub ends_wanting : (fault : FollowFault) → fault ≡ stops.Memory → sink_new ≡ sink → Ends fault 7
  ends_wanting fault is same =
      subst (λ f. Ends f 7) (sym is) (λ follows unread source_cause cause. follow_wanting follows same source_cause cause)
