-- How a move goes along the lists of two keepers.
use Rattle.std.proofs.Common.{◌≡◌, ℕ, zero, suc, ◌+◌, Bool, true, false, List, [], ◌∷◌, ◌++◌, length, drop, Option, Some, None, Ok, IfOk, IsTrue, refl, sym, ap, subst, ◌∙◌, arith}
use Rattle.std.specs.Prelude.{slice_get, if◌then◌else◌}
use Rattle.std.specs.Str.{bytes_eq}
use Rattle.std.proofs.Math.Seq.{drop-length}
use Rattle.std.proofs.lemmas.List.Elements.{All-get_or}
use Rattle.std.proofs.lemmas.Option.{slice_get_within, get_or_from_slice_get}
use Rattle.std.proofs.lemmas.Slice.Eq.{bytes_eq-Decides}
use Rattle.law_journal.specs.Grammar.{Listing, is_size}
use Rattle.law_keeper.specs.Keepers.{Holding, HaveSizes, IsSettled, Keeps, LeavesNoMore, Gives}
use Rattle.sql_keeper.specs.Moving.{differs_from, AreLists, Agrees, IsPrefix}
use Rattle.law_keeper.proofs.Moments.{idles_on, keeps_both}
use Rattle.law_keeper.proofs.Walks.{ok_is}

drop_get : (payloads : List (List ℕ)) (n : ℕ) (payload : List ℕ) → slice_get payloads n ≡ Some payload → drop n payloads ≡ payload ∷ drop (suc n) payloads
drop_get [] n payload is = absurd (cc is)
drop_get (first ∷ payloads) zero payload is = let same : first ≡ payload = cc is in ap (λ (p : List ℕ). p ∷ payloads) same
drop_get (first ∷ payloads) (suc n) payload is = drop_get payloads n payload is

-- how far a walk has come: the cursor stands behind so many payloads of the list
pub record HasCome (old now : Holding) (cursor place : ℕ) : Type 0 where
  pub keeps : Keeps old now
  pub at : old.tells → now.place_of cursor ≡ Some place
  pub settled : IsSettled now
  pub crash : LeavesNoMore old now

module _ (old now : Holding) (cursor place : ℕ) (come : HasCome old now cursor place) where
  -- the list that is walked along
  pub list_of : old.tells → (payloads : List (List ℕ)) × (old.list ≡ Ok payloads)
  list_of told =
      let list = ok_is now.list (come.settled.has_list (come.keeps.tells.0 told)) in
      (list.0, sym (come.keeps.list told) ∙ list.1)

  -- what is found there, and that the list ends there
  pub found : (next : Holding) (entry : List ℕ × ℕ) → Gives now cursor next (Ok (Some entry)) → old.tells → (payloads : List (List ℕ)) → old.list ≡ Ok payloads
      → (slice_get payloads place ≡ Some entry.0) × (next.place_of entry.1 ≡ Some (place + 1))
  found next entry given told payloads is = given (come.keeps.tells.0 told) payloads place (come.keeps.list told ∙ is) (come.at told)

  pub ended : (next : Holding) → Gives now cursor next (Ok None) → old.tells → (payloads : List (List ℕ)) → old.list ≡ Ok payloads → place ≡ length payloads
  ended next given told payloads is = given (come.keeps.tells.0 told) payloads place (come.keeps.list told ∙ is) (come.at told)

  -- one payload further
  pub came : (next : Holding) (entry : List ℕ × ℕ) → Gives now cursor next (Ok (Some entry)) → Keeps now next → LeavesNoMore now next → IsSettled next → HasCome old next entry.1 (place + 1)
  came next entry given keeps crash settled = record {
    keeps = keeps_both old now next come.keeps keeps;
    at = λ told. let list = list_of told in (found next entry given told list.0 list.1).1;
    settled = settled;
    crash = λ told. let far = come.crash told in idles_on old.may_leave old now next far (crash far.tells);
  }

  -- a payload of the list has its size
  pub sized : (payload : List ℕ) → old.tells → (payloads : List (List ℕ)) → old.list ≡ Ok payloads → slice_get payloads place ≡ Some payload → IsTrue (is_size (length payload))
  sized payload told payloads is got =
      let P = λ (bytes : List ℕ). IsTrue (is_size (length bytes)) in
      let sizes : HaveSizes payloads = subst (λ (l : Listing). IfOk l HaveSizes) (come.keeps.list told ∙ is) (come.settled.sizes (come.keeps.tells.0 told)) in
      subst P (get_or_from_slice_get payloads place payload [] got) (All-get_or P payloads place [] (slice_get_within payloads place payload got) sizes)

suc_is : (n : ℕ) → suc n ≡ n + 1
suc_is n = omega arith

-- the first difference of what is left
module _ (place : ℕ) (whole before : List (List ℕ)) where
  abbrev Left : Option ℕ
  Left = differs_from (suc place) (drop place whole) (drop place before)

  none_left : place ≡ length before → Left ≡ None
  none_left at = ap (differs_from (suc place) (drop place whole)) (ap (λ n. drop n before) at ∙ drop-length before)

  beyond : (theirs : List ℕ) → place ≡ length whole → slice_get before place ≡ Some theirs → Left ≡ Some (suc place)
  beyond theirs at got =
      ap (λ l. differs_from (suc place) l (drop place before)) (ap (λ n. drop n whole) at ∙ drop-length whole)
      ∙ ap (differs_from (suc place) []) (drop_get before place theirs got)

  both : (ours theirs : List ℕ) → slice_get whole place ≡ Some ours → slice_get before place ≡ Some theirs
      → Left ≡ (if bytes_eq theirs ours then differs_from (suc (suc place)) (drop (suc place) whole) (drop (suc place) before) else Some (suc place))
  both ours theirs got got_to =
      ap (λ l. differs_from (suc place) l (drop place before)) (drop_get whole place ours got)
      ∙ ap (differs_from (suc place) (ours ∷ drop (suc place) whole)) (drop_get before place theirs got_to)

-- what is left of both lists differs where they do
abbrev pub AgreesSoFar : Holding → Holding → ℕ → Type 0
AgreesSoFar from to place = from.tells → to.tells → (whole before : List (List ℕ)) → from.list ≡ Ok whole → to.list ≡ Ok before
    → differs_from (suc place) (drop place whole) (drop place before) ≡ differs_from 1 whole before

-- a walk along both lists
module _ (from now to now_to : Holding) (cursor cursor_to place : ℕ) (come : HasCome from now cursor place) (come_to : HasCome to now_to cursor_to place) (same : AgreesSoFar from to place) where
  are_lists : (told : from.tells) (told_to : to.tells) (at : Option ℕ)
      → ((whole before : List (List ℕ)) → from.list ≡ Ok whole → to.list ≡ Ok before → differs_from (suc place) (drop place whole) (drop place before) ≡ at) → AreLists from.list to.list at
  are_lists told told_to at left =
      let list = list_of from now cursor place come told in
      let list_to = list_of to now_to cursor_to place come_to told_to in
      record {
        whole = list.0;
        before = list_to.0;
        whole_is = list.1;
        before_is = list_to.1;
        differs = sym (same told told_to list.0 list_to.0 list.1 list_to.1) ∙ left list.0 list_to.0 list.1 list_to.1;
      }

  -- the second ends
  pub ends : (next_to : Holding) → Gives now_to cursor_to next_to (Ok None) → from.tells → to.tells → Agrees from.list to.list now.place_of (Ok cursor)
  ends next_to given told told_to =
      let lists = are_lists told told_to None (λ whole before is is_to. none_left place whole before (ended to now_to cursor_to place come_to next_to given told_to before is_to)) in
      (lists, come.at told ∙ ap Some (ended to now_to cursor_to place come_to next_to given told_to lists.before lists.before_is))

  -- the second goes on behind the first
  pub goes_beyond : (next next_to : Holding) (theirs : List ℕ × ℕ) → Gives now_to cursor_to next_to (Ok (Some theirs)) → Gives now cursor next (Ok None) → from.tells → to.tells → AreLists from.list to.list (Some (place + 1))
  goes_beyond next next_to theirs given_to given told told_to = are_lists told told_to (Some (place + 1)) (λ whole before is is_to. beyond place whole before theirs.0
      (ended from now cursor place come next given told whole is) (found to now_to cursor_to place come_to next_to theirs given_to told_to before is_to).0 ∙ ap Some (suc_is place))

  -- the second has another payload
  module _ (next next_to : Holding) (ours theirs : List ℕ × ℕ) (given : Gives now cursor next (Ok (Some ours))) (given_to : Gives now_to cursor_to next_to (Ok (Some theirs))) where
    next_left : (told : from.tells) (told_to : to.tells) (t : Bool) → bytes_eq theirs.0 ours.0 ≡ t → (whole before : List (List ℕ)) → from.list ≡ Ok whole → to.list ≡ Ok before
        → differs_from (suc place) (drop place whole) (drop place before) ≡ (if t then differs_from (suc (suc place)) (drop (suc place) whole) (drop (suc place) before) else Some (suc place))
    next_left told told_to t test whole before is is_to =
        both place whole before ours.0 theirs.0 (found from now cursor place come next ours given told whole is).0 (found to now_to cursor_to place come_to next_to theirs given_to told_to before is_to).0
        ∙ ap (λ t. if t then differs_from (suc (suc place)) (drop (suc place) whole) (drop (suc place) before) else Some (suc place)) test

    pub has_another : bytes_eq theirs.0 ours.0 ≡ false → from.tells → to.tells → AreLists from.list to.list (Some (place + 1))
    has_another test told told_to = are_lists told told_to (Some (place + 1)) (λ whole before is is_to. next_left told told_to false test whole before is is_to ∙ ap Some (suc_is place))

    -- both have the same
    pub goes_on : bytes_eq theirs.0 ours.0 ≡ true → AgreesSoFar from to (place + 1)
    goes_on test = subst (AgreesSoFar from to) (suc_is place) (λ told told_to whole before is is_to. sym (next_left told told_to true test whole before is is_to) ∙ same told told_to whole before is is_to)

-- payloads that differ nowhere from a list are a prefix of it
pub prefix_of : (place : ℕ) (whole before : List (List ℕ)) → differs_from place whole before ≡ None → IsPrefix before whole
prefix_of place whole [] is = (whole, refl)
prefix_of place [] (payload ∷ before) is = absurd (cc)
prefix_of place (first ∷ whole) (payload ∷ before) is = go (prefix_of (suc place) whole before) (bytes_eq payload first) refl is
  where
    go : (differs_from (suc place) whole before ≡ None → IsPrefix before whole) → (t : Bool) → bytes_eq payload first ≡ t → (if t then differs_from (suc place) whole before else Some place) ≡ None → IsPrefix (payload ∷ before) (first ∷ whole)
    go behind true test is =
        let more = behind is in
        (more.0, ap (λ (p : List ℕ). p ∷ before ++ more.0) ((bytes_eq-Decides payload first).0 test) ∙ ap (λ (l : List (List ℕ)). first ∷ l) more.1)
    go behind false test is = absurd (cc)
