-- How far an opening has come.
use Rattle.std.proofs.Common.{◌≡◌, inl, ◌∙◌, sym, ap, subst, refl, ℕ, zero, suc, List, [], ◌∷◌, ◌++◌, length, drop, Option, Some, None, Result, Ok, Err, IfOk, OnOk, arith}
use Rattle.std.proofs.lemmas.List.{append-nil, length-append}
use Rattle.std.specs.Prelude.{slice_get}
use Rattle.law_journal.specs.Grammar.{Listing}
use Rattle.law_keeper.specs.Keepers.{Finds, HasReadCause, Holding, IsHolding, IsSettled, Keeps, LeavesNoMore, LeavesOnly, Gives}
use Rattle.law_keeper.specs.declared.readiness.Readiness.{Readiness}
use Rattle.law_keeper.specs.declared.readiness.Readiness.TheVariants.{Unopened, Ready, Stopped}
use Rattle.law_keeper.proofs.Moments.{idles_on, keeps_both, rests}
use Rattle.law_keeper.proofs.Walks.{HasWalked, ok_is, one_more}
use Rattle.law_register.specs.declared.desk.damage.Damage.{Damage}
use Rattle.law_register.specs.declared.desk.damage.Damage.TheVariants as damage
use Rattle.law_register.specs.declared.desk.open_fault.OpenFault.{OpenFault}
use Rattle.law_register.specs.declared.desk.open_fault.OpenFault.TheVariants as fails
use Rattle.law_register.specs.declared.register.entry.Entry.{Entry}
use Rattle.law_register.specs.Desk.Openings.{opening_fault}
use Rattle.desk_base.specs.declared.load_fault.LoadFault.{LoadFault}
use Rattle.desk_base.specs.declared.load_fault.LoadFault.TheVariants as load
use Rattle.entry_codec.specs.Entries.{spelling}
use Rattle.law_office.specs.Opening.{spellings, with_payload, goes_on, opened_behind, opened, opened_of, Refuses, IsOfPayload, HasOpenCause, StaysUnlessFailed}
use Rattle.law_office.specs.Offices.{Spells}

-- so many entries were opened from the front of the list, and the cursor stands behind them
pub record HasOpened (old now : Holding) (cursor : ℕ) (entries : List Entry) : Type 0 where
  pub walked : HasWalked old now cursor (spellings entries)
  pub same : old.tells → IfOk old.list (λ payloads. opened_behind entries (drop (length (spellings entries)) payloads) ≡ opened payloads)

-- the payloads that spell entries with one more
pub spellings_last : (entries : List Entry) (e : Entry) → spellings (entries ++ e ∷ []) ≡ spellings entries ++ spelling e ∷ []
spellings_last [] e = refl
spellings_last (first ∷ entries) e = ap (λ (more : List (List ℕ)). spelling first ∷ more) (spellings_last entries e)

pub spellings_length : (entries : List Entry) → length (spellings entries) ≡ length entries
spellings_length [] = refl
spellings_length (first ∷ entries) = ap suc (spellings_length entries)

-- what follows of a call that succeeded
pub on_ok : {A E : Type 0} (r : Result A E) (P Q : Type 0) → (P → Q) → OnOk r P → OnOk r Q
on_ok (Ok value) P Q leads p = leads p
on_ok (Err fault) P Q leads p = p

drop_get : (payloads : List (List ℕ)) (n : ℕ) (payload : List ℕ) → slice_get payloads n ≡ Some payload → drop n payloads ≡ payload ∷ drop (suc n) payloads
drop_get [] n payload is = absurd (cc is)
drop_get (first ∷ payloads) zero payload is = let same : first ≡ payload = cc is in ap (λ (p : List ℕ). p ∷ payloads) same
drop_get (first ∷ payloads) (suc n) payload is = drop_get payloads n payload is

drop_all : (payloads : List (List ℕ)) → drop (length payloads) payloads ≡ []
drop_all [] = refl
drop_all (first ∷ payloads) = drop_all payloads

-- a keeper that calls leave as it is
pub keeps_self : (h : Holding) → Keeps h h
keeps_self h = record { tells = (λ t. t, λ t. t); tells_crash = (λ t. t, λ t. t); list = λ t. refl; places = λ t cursor n at. at }

any_ok : (P : List (List ℕ) → Type 0) → ((payloads : List (List ℕ)) → P payloads) → (listing : Listing) → IfOk listing P
any_ok P all (Ok payloads) = all payloads
any_ok P all (Err broken) = tt

-- nothing is opened yet
pub opened_none : (h : Holding) → IsHolding h → IsSettled h → HasOpened h h 0 []
opened_none h is settled = record {
  walked = record {
    keeps = keeps_self h;
    at = settled.first;
    front = λ told. any_ok (λ payloads. [] ++ drop 0 payloads ≡ payloads) (λ payloads. refl) h.list;
    crash = rests h is;
  };
  same = λ told. any_ok (λ payloads. opened_behind [] (drop 0 payloads) ≡ opened payloads) (λ payloads. refl) h.list;
}

-- two calls that change no payload
pub keeps_then : (o m n : Holding) → Keeps o m → Keeps m n → Keeps o n
keeps_then = keeps_both

-- a payload that is refused leaves the count of faults as it is
pub payload_cause : (A : Type 0) (before now : ℕ) (fault : OpenFault) → IsOfPayload fault → now ≡ before → HasOpenCause {A = A} before now (Err fault)
payload_cause A before now fails.Failed of same = absurd of
payload_cause A before now (fails.Damaged (damage.Journal place byte)) of same = inl same
payload_cause A before now (fails.Damaged (damage.Entry number place byte)) of same = same
payload_cause A before now (fails.Damaged (damage.Order number rule)) of same = same
payload_cause A before now fails.Memory of same = same

-- where the count of faults is as it was, it stays
pub same_stays : (before now : ℕ) (fault : OpenFault) → now ≡ before → StaysUnlessFailed before now fault
same_stays before now fails.Failed same = tt
same_stays before now (fails.Damaged broken) same = same
same_stays before now fails.Memory same = same

-- damage that is found where a keeper tells its list is found at its first opening, which counts none
pub found_stays : (readiness : Readiness) (h : Holding) (before now : ℕ) (fault : LoadFault) → Finds readiness h (Err fault)
    → HasReadCause {T = Unit {0}} readiness before now (Err fault) → h.tells → StaysUnlessFailed before now (opening_fault fault)
found_stays readiness h before now load.Failed found cause told = tt
found_stays readiness h before now load.Memory found cause told = cause
found_stays Unopened h before now (load.Damaged place byte) found cause told = cause
found_stays Ready h before now (load.Damaged place byte) found cause told = absurd ((found told).1 (λ is. absurd (cc is)))
found_stays Stopped h before now (load.Damaged place byte) found cause told = absurd ((found told).1 (λ is. absurd (cc is)))

module _ (old now next : Holding) (cursor : ℕ) (entries : List Entry) (opening : HasOpened old now cursor entries) where
  -- payloads were loaded
  pub loads_more : LeavesNoMore now next → LeavesNoMore old next
  loads_more crash = λ told. let far = opening.walked.crash told in idles_on old.may_leave old now next far (crash far.tells)

  told_list : old.tells → IsSettled now → (payloads : List (List ℕ)) × (old.list ≡ Ok payloads)
  told_list told settled =
      let found = ok_is now.list (settled.has_list (opening.walked.keeps.tells.0 told)) in
      (found.0, sym (opening.walked.keeps.list told) ∙ found.1)

  now_list : (told : old.tells) (payloads : List (List ℕ)) → old.list ≡ Ok payloads → now.list ≡ Ok payloads
  now_list told payloads is = opening.walked.keeps.list told ∙ is

  same_of : (told : old.tells) (payloads : List (List ℕ)) → old.list ≡ Ok payloads → opened_behind entries (drop (length (spellings entries)) payloads) ≡ opened payloads
  same_of told payloads is =
      subst (λ (listing : Listing). IfOk listing (λ payloads. opened_behind entries (drop (length (spellings entries)) payloads) ≡ opened payloads)) is (opening.same told)

  -- what is opened in all, by what the next payload makes of it
  on_payload : (told : old.tells) (entry : List ℕ × ℕ) → Gives now cursor next (Ok (Some entry)) → (payloads : List (List ℕ)) → old.list ≡ Ok payloads
      → goes_on (with_payload entries entry.0) (λ more. opened_behind more (drop (suc (length (spellings entries))) payloads)) ≡ opened payloads
  on_payload told entry given payloads is =
      let found = given (opening.walked.keeps.tells.0 told) payloads (length (spellings entries)) (now_list told payloads is) (opening.walked.at told) in
      ap (opened_behind entries) (sym (drop_get payloads (length (spellings entries)) entry.0 found.0)) ∙ same_of told payloads is

  -- the next payload spells an entry that is accepted
  pub opens_more : (entry : List ℕ × ℕ) (more : List Entry) → IsSettled now → Keeps now next → Gives now cursor next (Ok (Some entry))
      → (now.tells_crash → LeavesOnly now.may_leave now next) → with_payload entries entry.0 ≡ Ok more
      → spellings more ≡ spellings entries ++ entry.0 ∷ [] → HasOpened old next entry.1 more
  opens_more entry more settled keeps given crash is spelled =
      let size : length (spellings more) ≡ suc (length (spellings entries)) = omega (arith, ap length spelled, length-append (spellings entries) (entry.0 ∷ [])) in
      record {
        walked = subst (λ (taken : List (List ℕ)). HasWalked old next entry.1 taken) (sym spelled)
            (one_more old now next cursor (spellings entries) entry opening.walked settled keeps given crash);
        same = λ told.
            let list = told_list told settled in
            let F = λ (listing : Listing). IfOk listing (λ payloads. opened_behind more (drop (length (spellings more)) payloads) ≡ opened payloads) in
            subst F (sym list.1)
            (ap (λ n. opened_behind more (drop n list.0)) size
            ∙ sym (ap (λ (made : Result (List Entry) Damage). goes_on made (λ more. opened_behind more (drop (suc (length (spellings entries))) list.0))) is)
            ∙ on_payload told entry given list.0 list.1);
      }

  -- the next payload shows damage
  pub opens_damaged : (entry : List ℕ × ℕ) (broken : Damage) → IsSettled now → Gives now cursor next (Ok (Some entry)) → with_payload entries entry.0 ≡ Err broken
      → old.tells → opened_of old.list ≡ Err broken
  opens_damaged entry broken settled given is told =
      let list = told_list told settled in
      ap opened_of list.1
      ∙ sym (on_payload told entry given list.0 list.1)
      ∙ ap (λ (made : Result (List Entry) Damage). goes_on made (λ more. opened_behind more (drop (suc (length (spellings entries))) list.0))) is

  -- there is no payload more
  all_taken : (told : old.tells) → Gives now cursor next (Ok None) → (payloads : List (List ℕ)) → old.list ≡ Ok payloads → length (spellings entries) ≡ length payloads
  all_taken told given payloads is = given (opening.walked.keeps.tells.0 told) payloads (length (spellings entries)) (now_list told payloads is) (opening.walked.at told)

  pub opens_all : IsSettled now → Gives now cursor next (Ok None) → old.tells → opened_of old.list ≡ Ok entries
  opens_all settled given told =
      let list = told_list told settled in
      let size = all_taken told given list.0 list.1 in
      ap opened_of list.1
      ∙ sym (same_of told list.0 list.1)
      ∙ ap (opened_behind entries) (ap (λ n. drop n list.0) size ∙ drop_all list.0)

  pub spells_all : IsSettled now → Keeps now next → Gives now cursor next (Ok None) → next.tells → Spells entries None next.list
  spells_all settled keeps given told =
      let old_told = opening.walked.keeps.tells.1 (keeps.tells.1 told) in
      let list = told_list old_told settled in
      let size = all_taken old_told given list.0 list.1 in
      let F = λ (listing : Listing). IfOk listing (λ payloads. spellings entries ++ drop (length (spellings entries)) payloads ≡ payloads) in
      let front = subst F list.1 (opening.walked.front old_told) in
      keeps.list (keeps.tells.1 told)
      ∙ now_list old_told list.0 list.1
      ∙ ap Ok (sym front ∙ ap (λ (rest : List (List ℕ)). spellings entries ++ rest) (ap (λ n. drop n list.0) size ∙ drop_all list.0) ∙ append-nil (spellings entries))

  pub ends_there : Keeps now next → next.tells → next.place_of cursor ≡ Some (length entries)
  ends_there keeps told =
      let old_told = opening.walked.keeps.tells.1 (keeps.tells.1 told) in
      keeps.places (keeps.tells.1 told) cursor (length entries) (opening.walked.at old_told ∙ ap Some (spellings_length entries))

  -- a payload that is not given is no damage
  no_damage : (place : ℕ) (byte : Option ℕ) → IsSettled now → Gives now cursor next (Err (load.Damaged place byte)) → old.tells → ⊥
  no_damage place byte settled given told =
      let list = told_list told settled in
      given (opening.walked.keeps.tells.0 told) list.0 (length (spellings entries)) (now_list told list.0 list.1) (opening.walked.at told)

  pub opens_refused : (fault : LoadFault) → IsSettled now → Gives now cursor next (Err fault) → old.tells → Refuses (opening_fault fault) (opened_of old.list)
  opens_refused load.Failed settled given told = tt
  opens_refused load.Memory settled given told = tt
  opens_refused (load.Damaged place byte) settled given told = absurd (no_damage place byte settled given told)

  -- nor is it a fault, unless the keeper failed
  pub refused_stays : (before counted later : ℕ) (fault : LoadFault) → IsSettled now → Gives now cursor next (Err fault)
      → HasReadCause {T = Option ℕ} Ready counted later (Err fault) → counted ≡ before → old.tells
      → StaysUnlessFailed before later (opening_fault fault)
  refused_stays before counted later load.Failed settled given cause same told = tt
  refused_stays before counted later load.Memory settled given cause same told = cause ∙ same
  refused_stays before counted later (load.Damaged place byte) settled given cause same told = absurd (no_damage place byte settled given told)

  -- the next payload is refused
  pub opens_fault : (entry : List ℕ × ℕ) (fault : OpenFault) → IsSettled now → Gives now cursor next (Ok (Some entry)) → Refuses fault (with_payload entries entry.0)
      → old.tells → Refuses fault (opened_of old.list)
  opens_fault entry fails.Failed settled given refused told = tt
  opens_fault entry fails.Memory settled given refused told = tt
  opens_fault entry (fails.Damaged broken) settled given refused told = opens_damaged entry broken settled given refused told
