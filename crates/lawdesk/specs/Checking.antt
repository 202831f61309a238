-- What is told of what a keeper has: how many entries its register has, or what keeps it from being one.
use Rattle.std.specs.Prelude.{ℕ, ◌≡◌, List, [], ◌∷◌, ◌++◌, length, Option, Result, Ok, Err, ◌⊎◌, codes}
use Rattle.std.specs.Fmt.{decimal}
use Rattle.law_journal.specs.Grammar.{Listing}
use Rattle.law_keeper.specs.Keepers.{Holding}
use Rattle.law_office.specs.Opening.{opened_of}
use Rattle.law_register.specs.Register.LawList.{front}
use Rattle.law_register.specs.declared.desk.damage.Damage.{Damage}
use Rattle.law_register.specs.declared.desk.open_fault.OpenFault.{OpenFault}
use Rattle.law_register.specs.declared.register.entry.Entry.{Entry}
use Rattle.dossier_text.specs.Reports.{Told}
use Rattle.dossier_text.specs.declared.report.Report.{Report}
use Rattle.lawdesk.specs.Kept.{HasKeptCause, RanKept}
use Rattle.lawdesk.specs.Telling.{told_damage}

-- how many entries, and how many law entries there are
abbrev pub told_register : List Entry → Told
told_register entries = record {
  status = 0;
  bytes = codes "entries " ++ decimal (length entries) ++ codes " law " ++ decimal (front entries) ++ 10 ∷ [];
}

abbrev pub told_opened : Result (List Entry) Damage → Told
told_opened (Ok entries) = told_register entries
told_opened (Err damage) = told_damage damage

-- what is told of the list of a keeper
unfoldable pub checked : Listing → Told
checked list = told_opened (opened_of list)

-- the statuses with which a check is done: 0 it is a register, 6 it is damaged
abbrev pub IsCheckDone : ℕ → Type 0
IsCheckDone status = (status ≡ 0) ⊎ (status ≡ 6)

-- the statuses of `check`: beside these, 4 and 5 for a sink and a keeper that failed, 7 for want of memory
abbrev pub IsCheckStatus : ℕ → Type 0
IsCheckStatus status = IsCheckDone status ⊎ ((status ≡ 4) ⊎ ((status ≡ 5) ⊎ (status ≡ 7)))

-- that with which no fault of the keeper was counted
abbrev pub IsFineCheck : ℕ → Type 0
IsFineCheck status = status ≡ 0

-- this is told of a list
abbrev pub IsChecked : Listing → Told → Type 0
IsChecked list told = told ≡ checked list

abbrev pub HasCheckCause : ℕ → ℕ → Result Report OpenFault → Type 0
HasCheckCause before now report = HasKeptCause IsCheckDone IsFineCheck before now report

-- what a run of `check` leaves, of a keeper and a sink that clauses see by these functions
abbrev pub RanCheck : {K W : Type 0} → (K → Holding) → (K → ℕ) → (W → Option (List ℕ)) → (W → ℕ) → K → K → W → W → ℕ → Type 0
RanCheck holding faults written write_faults keeper keeper_new sink sink_new status =
    RanKept IsCheckDone IsFineCheck holding faults written write_faults IsChecked keeper keeper_new sink sink_new status
