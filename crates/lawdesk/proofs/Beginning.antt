-- What a crash leaves from the beginning of a run on, in the midst of the opening too.
use Rattle.std.proofs.Common.{◌≡◌, ◌∙◌, refl, sym, ap, subst, inl, inr, ⊎_elim, ℕ, List, [], ◌∷◌, Option, Ok}
use Rattle.desk_base.specs.Crashes.{Crashes, LeavesOnly}
use Rattle.law_http.specs.Streaming.{AreServed, Exchange}
use Rattle.law_http.specs.declared.streaming.Served.{Served}
use Rattle.law_keeper.specs.Keepers.{Holding, IsOldOrSame, Keeps, LeavesOldOrSame}
use Rattle.law_office.specs.Crashing.{crashes_of}
use Rattle.law_office.specs.Offices.{OfficeState, desk_of}
use Rattle.law_office.specs.Opening.{opened_of}
use Rattle.law_office.proofs.Images.{found_of_lists}
use Rattle.law_register.specs.Desk.States.{DeskState, Found}
use Rattle.law_register.specs.declared.answer.past_key.PastKey.{PastKey}
use Rattle.law_register.specs.declared.register.entry.Entry.{Entry}
use Rattle.lawdesk.specs.Batching.{ServesOver}
use Rattle.lawdesk.specs.Outliving.{IsKept, IsOldOrKept, OutliveAll, Outlives}
use Rattle.lawdesk.proofs.Outliving.{then_runs, weaker}
use Rattle.lawdesk.proofs.Stepping.{begin_same}

-- what outlives a crash from each response on outlives it from the first request on
outlive_whole : {D : Type 0} (state : D → DeskState) (crashes : D → Crashes Found) (past : D → List PastKey) (all exchanges : List Exchange)
    (old new : D) (served : AreServed state crashes past exchanges old new)
    → OutliveAll state crashes past all exchanges old new served → Outlives state crashes all old new
outlive_whole state crashes past all [] old new served outlive = outlive
outlive_whole state crashes past all (e ∷ es) old new served outlive = outlive.0

module _ {S W K C : Type 0} (left : S → Option (List ℕ)) (written : W → Option (List ℕ))
    (holding : K → Holding) (keeper_faults : K → ℕ) (days : C → Option (ℕ → ℕ))
    (source source_new : S) (sink sink_new : W) (keeper opened keeper_new : K) (clock clock_new : C) (steps later : ℕ)
    (entries : List Entry) (served : Served)
    (stand_for : (holding keeper).tells → opened_of (holding keeper).list ≡ Ok entries)
    (same : Keeps (holding keeper) (holding opened)) (crash : LeavesOldOrSame (holding keeper) (holding opened))
    (serves : ServesOver left written holding keeper_faults days source source_new sink sink_new opened keeper_new clock clock_new
    steps later entries served) where
  -- a crash leaves this
  abbrev pub IsLeft : Found → Type 0
  IsLeft = IsOldOrKept (crashes_of (holding keeper)) entries (serves.closed).entries (serves.streamed).exchanges

  -- while the register is opened, a crash leaves what it could leave before, or the list
  opening : (holding keeper).tells → (holding keeper).tells_crash
      → LeavesOnly IsLeft (crashes_of (holding keeper)) (crashes_of (holding opened))
  opening told tells =
      found_of_lists (IsOldOrSame (holding keeper)) IsLeft (holding keeper) (holding opened) (same.tells.0 told)
      (λ list either. ⊎_elim
      (λ may. inl (list, may, refl))
      (λ is. inr (record {
        entries = entries;
        is = ap opened_of is ∙ stand_for told;
        holds = begin_same entries entries refl;
        among = inl serves.begin;
      }))
      either)
      (crash tells)

  -- while the stream is served, it leaves what outlives it
  serving : (holding opened).tells → (holding opened).tells_crash
      → LeavesOnly IsLeft (crashes_of (holding opened)) (crashes_of (holding keeper_new))
  serving told tells =
      let crashes : OfficeState K C → Crashes Found = λ o. crashes_of (holding o.keeper) in
      let final = (serves.closed).entries in
      let all = (serves.streamed).exchanges in
      let whole : LeavesOnly (IsKept (serves.office).entries final all) (crashes_of (holding (serves.office).keeper))
      (crashes_of (holding (serves.closed).keeper)) =
      outlive_whole (desk_of keeper_faults days) crashes (λ (o : OfficeState K C). o.past) all all serves.office serves.closed (serves.streamed).answered
      (serves.outlives told tells) in
      weaker (IsKept entries final all) IsLeft (crashes_of (holding opened)) (crashes_of (holding keeper_new))
      (λ found kept. inr kept)
      (subst (λ (es : List Entry). LeavesOnly (IsKept es final all) (crashes_of (holding opened))
      (crashes_of (holding keeper_new))) (serves.is_new).entries_are
      (subst (λ (k : K). LeavesOnly (IsKept (serves.office).entries final all) (crashes_of (holding k))
      (crashes_of (holding keeper_new))) (serves.is_new).keeper_is
      (subst (λ (k : K). LeavesOnly (IsKept (serves.office).entries final all)
      (crashes_of (holding (serves.office).keeper)) (crashes_of (holding k))) (sym serves.kept) whole)))

  pub since_began : (holding keeper).tells → (holding keeper).tells_crash
      → LeavesOnly IsLeft (crashes_of (holding keeper)) (crashes_of (holding keeper_new))
  since_began told tells =
      then_runs IsLeft (crashes_of (holding keeper)) (crashes_of (holding opened)) (crashes_of (holding keeper_new))
      (opening told tells) (serving (same.tells.0 told) (same.tells_crash.0 tells))
