-- How a move appends what a list lacks.
use Rattle.std.proofs.Common.{◌≡◌, inl, inr, ℕ, ◌+◌, List, [], ◌∷◌, ◌++◌, length, Some, None, Result, Ok, Err, true, false, sym, ap, subst, ◌∙◌, arith, append_assoc, length-append}
use Rattle.std.specs.Prelude.{slice_get}
use Rattle.std.proofs.lemmas.List.{append-nil, nil_from_length}
use Rattle.desk_base.specs.declared.load_fault.LoadFault.{LoadFault}
use Rattle.desk_base.specs.declared.load_fault.LoadFault.TheVariants as load
use Rattle.law_journal.specs.Grammar.{Listing, is_size, with_last}
use Rattle.law_keeper.specs.declared.keep_fault.KeepFault.{KeepFault}
use Rattle.law_keeper.specs.declared.keep_fault.KeepFault.TheVariants as keep
use Rattle.law_keeper.specs.Keepers.{Holding, IsHolding, IsSettled, Keeps, LeavesNoMore, LeavesOnly, LeavesOneOfTwo, IsWithOrWithout, Gives, Appends}
use Rattle.sql_keeper.specs.Moving.{IsPrefix, IsOnTheWay, Grows, StartsAt, Adds, of_load_fault, of_keep_fault}
use Rattle.law_keeper.proofs.Moments.{then_runs, weaker, rests, keeps_both, idles_on}
use Rattle.sql_keeper.proofs.Moves.{HasCome, found, ended, came, sized}

-- how far the first was read: the cursor stands so many payloads behind the one at which it began
pub record HasPassed (old now : Holding) (start cursor count : ℕ) : Type 0 where
  pub keeps : Keeps old now
  pub at : old.tells → (place : ℕ) → old.place_of start ≡ Some place → now.place_of cursor ≡ Some (place + count)
  pub settled : IsSettled now
  pub crash : LeavesNoMore old now

pub come : (old now : Holding) (start cursor count : ℕ) → HasPassed old now start cursor count → (place : ℕ) → old.tells → old.place_of start ≡ Some place → HasCome old now cursor (place + count)
come old now start cursor count passed place told is = record { keeps = passed.keeps; at = λ told. passed.at told place is; settled = passed.settled; crash = passed.crash }

pub passed_on : (old now next : Holding) (start cursor count : ℕ) (entry : List ℕ × ℕ) → HasPassed old now start cursor count → Gives now cursor next (Ok (Some entry)) → Keeps now next → LeavesNoMore now next → IsSettled next
    → HasPassed old next start entry.1 (count + 1)
passed_on old now next start cursor count entry passed given keeps crash settled = record {
  keeps = keeps_both old now next passed.keeps keeps;
  at = λ told place is. (came old now cursor (place + count) (come old now start cursor count passed place told is) next entry given keeps crash settled).at told ∙ ap Some (omega arith);
  settled = settled;
  crash = λ told. let far = passed.crash told in idles_on old.may_leave old now next far (crash far.tells);
}

-- so many payloads of a list stand behind those before
pub record IsUpTo (whole before : List (List ℕ)) (count : ℕ) (listing : Listing) : Type 0 where
  pub payloads : List (List ℕ)
  pub is_list : listing ≡ Ok payloads
  pub size : length payloads ≡ length before + count
  pub begins : IsPrefix before payloads
  pub within : IsPrefix payloads whole

pub on_the_way : (whole before : List (List ℕ)) (count : ℕ) (listing : Listing) → IsUpTo whole before count listing → IsOnTheWay whole before listing
on_the_way whole before count listing up = record { payloads = up.payloads; is_list = up.is_list; begins = up.begins; within = up.within }

with_next : (payloads rest : List (List ℕ)) (payload : List ℕ) → slice_get (payloads ++ rest) (length payloads) ≡ Some payload → IsPrefix (payloads ++ payload ∷ []) (payloads ++ rest)
with_next [] [] payload got = absurd (cc)
with_next [] (first ∷ rest) payload got = let e : first ≡ payload = cc in (rest, ap (λ (p : List ℕ). p ∷ rest) (sym e))
with_next (x ∷ payloads) rest payload got = let more = with_next payloads rest payload got in (more.0, ap (λ (l : List (List ℕ)). x ∷ l) more.1)

one_more : (whole before : List (List ℕ)) (count : ℕ) (payload : List ℕ) (listing next : Listing) → IsUpTo whole before count listing → slice_get whole (length before + count) ≡ Some payload → next ≡ with_last payload listing → IsUpTo whole before (count + 1) next
one_more whole before count payload listing next up got is = record {
  payloads = up.payloads ++ payload ∷ [];
  is_list = is ∙ ap (with_last payload) up.is_list;
  size = omega (arith, length-append up.payloads (payload ∷ []), up.size);
  begins = (up.begins.0 ++ payload ∷ [], sym (append_assoc before up.begins.0 (payload ∷ [])) ∙ ap (λ (l : List (List ℕ)). l ++ payload ∷ []) up.begins.1);
  within = subst (IsPrefix (up.payloads ++ payload ∷ [])) up.within.1
      (with_next up.payloads up.within.0 payload (ap (λ (l : List (List ℕ)). slice_get l (length up.payloads)) up.within.1 ∙ ap (slice_get whole) up.size ∙ got));
}

-- all of the list
all_of : (payloads rest whole : List (List ℕ)) → payloads ++ rest ≡ whole → length payloads ≡ length whole → payloads ≡ whole
all_of payloads rest whole is size =
    let none : rest ≡ [] = nil_from_length rest (omega (arith, length-append payloads rest, ap length is, size)) in
    sym (append-nil payloads) ∙ ap (λ (l : List (List ℕ)). payloads ++ l) (sym none) ∙ is

-- how far the second has come
pub record HasAdded (from to now : Holding) (start count : ℕ) : Type 0 where
  pub grows : Grows to now
  pub settled : IsSettled now
  pub list : from.tells → to.tells → (whole before : List (List ℕ)) → StartsAt from start to whole before → IsUpTo whole before count now.list
  pub crash : from.tells → to.tells → to.tells_crash → (whole before : List (List ℕ)) → StartsAt from start to whole before → LeavesOnly (IsOnTheWay whole before) to now

module _ (from now to now_to : Holding) (start cursor count : ℕ) (passed : HasPassed from now start cursor count) (added : HasAdded from to now_to start count) where
  at_start : from.tells → (whole before : List (List ℕ)) → StartsAt from start to whole before → HasCome from now cursor (length before + count)
  at_start told whole before starts = come from now start cursor count passed (length before) told starts.at

  -- the first ends
  pub all_added : (next : Holding) → Gives now cursor next (Ok None) → from.tells → to.tells → (whole before : List (List ℕ)) → StartsAt from start to whole before → Adds whole before now_to.list (Ok count)
  all_added next given told told_to whole before starts =
      let up = added.list told told_to whole before starts in
      let end = ended from now cursor (length before + count) (at_start told whole before starts) next given told whole starts.from_is in
      (up.is_list ∙ ap Ok (all_of up.payloads up.within.0 whole up.within.1 (up.size ∙ end)), end)

  -- it can't be read
  pub not_loaded : (next : Holding) (fault : LoadFault) → Gives now cursor next (Err fault) → from.tells → to.tells → (whole before : List (List ℕ)) → StartsAt from start to whole before → Adds whole before now_to.list (Err (of_load_fault fault))
  not_loaded next load.Failed given told told_to whole before starts = on_the_way whole before count now_to.list (added.list told told_to whole before starts)
  not_loaded next (load.Damaged place byte) given told told_to whole before starts = given (passed.keeps.tells.0 told) whole (length before + count) (passed.keeps.list told ∙ starts.from_is) (passed.at told (length before) starts.at)
  not_loaded next load.Memory given told told_to whole before starts = on_the_way whole before count now_to.list (added.list told told_to whole before starts)

  module _ (next : Holding) (entry : List ℕ × ℕ) (given : Gives now cursor next (Ok (Some entry))) where
    got : (told : from.tells) (whole before : List (List ℕ)) (starts : StartsAt from start to whole before) → slice_get whole (length before + count) ≡ Some entry.0
    got told whole before starts = (found from now cursor (length before + count) (at_start told whole before starts) next entry given told whole starts.from_is).0

    -- what is read has its size
    pub no_other_size : is_size (length entry.0) ≡ false → from.tells → (whole before : List (List ℕ)) → StartsAt from start to whole before → ⊥
    no_other_size none told whole before starts =
        let is : is_size (length entry.0) ≡ true = sized from now cursor (length before + count) (at_start told whole before starts) entry.0 told whole starts.from_is (got told whole before starts) in
        cc

    module _ (next_to : Holding) where
      way : from.tells → to.tells → (whole before : List (List ℕ)) → StartsAt from start to whole before → (list : Listing) → IsWithOrWithout now_to.list entry.0 list → IsOnTheWay whole before list
      way told told_to whole before starts list (inl same) = subst (IsOnTheWay whole before) (sym same) (on_the_way whole before count now_to.list (added.list told told_to whole before starts))
      way told told_to whole before starts list (inr more) =
          on_the_way whole before (count + 1) list (one_more whole before count entry.0 now_to.list list (added.list told told_to whole before starts) (got told whole before starts) more)

      -- the second refuses
      pub not_added : (fault : KeepFault) → Appends entry.0 now_to next_to (Err fault) → from.tells → to.tells → (whole before : List (List ℕ)) → StartsAt from start to whole before → Adds whole before next_to.list (Err (of_keep_fault fault))
      not_added keep.Failed appends told told_to whole before starts = way told told_to whole before starts next_to.list (appends.list (added.grows.tells.0 told_to))
      not_added keep.Memory appends told told_to whole before starts = way told told_to whole before starts next_to.list (inl (appends.list (added.grows.tells.0 told_to)))

      pub grown : (result : Result ℕ KeepFault) → Appends entry.0 now_to next_to result → Grows to next_to
      grown result appends = record {
        tells = (λ t. appends.tells.0 (added.grows.tells.0 t), λ t. added.grows.tells.1 (appends.tells.1 t));
        tells_crash = (λ t. appends.tells_crash.0 (added.grows.tells_crash.0 t), λ t. added.grows.tells_crash.1 (appends.tells_crash.1 t));
        places = λ t cursor n at. appends.places (added.grows.tells.0 t) cursor n (added.grows.places t cursor n at);
      }

      module _ (crash : LeavesOneOfTwo entry.0 now_to next_to) where
        pub crash_on : from.tells → to.tells → to.tells_crash → (whole before : List (List ℕ)) → StartsAt from start to whole before → LeavesOnly (IsOnTheWay whole before) to next_to
        crash_on told told_to crashes whole before starts =
            then_runs (IsOnTheWay whole before) to now_to next_to (added.crash told told_to crashes whole before starts)
            (weaker (IsWithOrWithout now_to.list entry.0) (IsOnTheWay whole before) now_to next_to (way told told_to whole before starts) (crash (added.grows.tells_crash.0 crashes)))

        -- one payload further
        pub added_one : (end : ℕ) → Appends entry.0 now_to next_to (Ok end) → IsSettled next_to → HasAdded from to next_to start (count + 1)
        added_one end appends settled = record {
          grows = grown (Ok end) appends;
          settled = settled;
          list = λ told told_to whole before starts. one_more whole before count entry.0 now_to.list next_to.list (added.list told told_to whole before starts) (got told whole before starts) (appends.list (added.grows.tells.0 told_to));
          crash = crash_on;
        }
