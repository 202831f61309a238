-- Several payloads that are added one by one.
use Rattle.std.proofs.Common.{◌≡◌, ◌↔◌, inl, inr, ℕ, zero, suc, ◌+◌, ◌<◌, ◌≤◌, List, [], ◌∷◌, ◌++◌, length, take, get_or, Ok, Err, refl, sym, ◌∙◌, ap, arith, append_assoc, Vec}
use Rattle.std.specs.declared.alloc.Global.{Global}
use Rattle.std.proofs.lemmas.List.{append-nil, take_all, take_more}
use Rattle.law_journal.specs.Grammar.{Listing, with_last, with_more}
use Rattle.law_keeper.specs.Keepers.{Holding, KeepsPlaces, IsWithOrWithout, IsWithFront, LeavesOnly, LeavesOneOfTwo, LeavesFront, Appends, AppendsAll, Becomes, bytes_of, size_of}
use Rattle.law_keeper.specs.declared.keep_fault.KeepFault.{KeepFault}
use Rattle.law_keeper.specs.declared.keep_fault.KeepFault.TheVariants as keep
use Rattle.law_keeper.proofs.Moments.{then_runs, weaker}

-- none more
pub more_none : (listing : Listing) → with_more [] listing ≡ listing
more_none (Ok payloads) = ap (λ (l : List (List ℕ)). listing_of l) (append-nil payloads)
  where
    listing_of : List (List ℕ) → Listing
    listing_of l = Ok l
more_none (Err damage) = refl

-- one more behind several
more_last : (payloads : List (List ℕ)) (payload : List ℕ) (listing : Listing) → with_last payload (with_more payloads listing) ≡ with_more (payloads ++ payload ∷ []) listing
more_last payloads payload (Ok others) = ap (λ (l : List (List ℕ)). listing_of l) (append_assoc others payloads (payload ∷ []))
  where
    listing_of : List (List ℕ) → Listing
    listing_of l = Ok l
more_last payloads payload (Err damage) = refl

-- the bytes of a payload at a place
pub bytes_at : (payloads : List (Vec ℕ Global)) (i : ℕ) (payload : Vec ℕ Global) → i < length payloads → payload ≡ get_or payloads i payload → payload.items ≡ get_or (bytes_of payloads) i []
bytes_at [] i payload within here = absurd (omega (arith, within))
bytes_at (first ∷ payloads) zero payload within here = ap (λ (p : Vec ℕ Global). p.items) here
bytes_at (first ∷ payloads) (suc i) payload within here = bytes_at payloads i payload (omega (arith, within)) here

pub bytes_long : (payloads : List (Vec ℕ Global)) → length (bytes_of payloads) ≡ length payloads
bytes_long [] = refl
bytes_long (first ∷ payloads) = ap suc (bytes_long payloads)

-- so many of the payloads were added
pub record HasAdded (all : List (List ℕ)) (count : ℕ) (old now : Holding) : Type 0 where
  pub tells : old.tells ↔ now.tells
  pub tells_crash : old.tells_crash ↔ now.tells_crash
  pub list : old.tells → now.list ≡ with_more (take count all) old.list
  pub places : old.tells → KeepsPlaces old.place_of now.place_of

pub none_added : (all : List (List ℕ)) (old : Holding) → HasAdded all 0 old old
none_added all old = record {
  tells = (λ t. t, λ t. t);
  tells_crash = (λ t. t, λ t. t);
  list = λ t. sym (more_none old.list);
  places = λ t cursor n at. at;
}

-- the next one, at this place
module _ (all : List (List ℕ)) (count : ℕ) (payload : List ℕ) (within : count < length all) (here : payload ≡ get_or all count []) where
  one_further : (old : Listing) → with_last payload (with_more (take count all) old) ≡ with_more (take (count + 1) all) old
  one_further old =
      more_last (take count all) payload old
      ∙ ap (λ (p : List ℕ). with_more (take count all ++ p ∷ []) old) here
      ∙ ap (λ (l : List (List ℕ)). with_more l old) (sym (take_more all count [] within))

  leads : (old now : Listing) → now ≡ with_more (take count all) old → (list : Listing) → IsWithOrWithout now payload list → IsWithFront old all list
  leads old now same list (inl without) = (count, without ∙ same)
  leads old now same list (inr with) = (count + 1, with ∙ ap (with_last payload) same ∙ one_further old)

  became : (old now : Listing) (fault : KeepFault) (next : Listing) → now ≡ with_more (take count all) old → Becomes now payload (Err fault) next → IsWithFront old all next
  became old now keep.Failed next same may = leads old now same next may
  became old now keep.Memory next same stays = (count, stays ∙ same)

  -- its append is done, or refused, and what a crash leaves of that
  pub one_added : (old now next : Holding) (end : ℕ) → HasAdded all count old now → Appends payload now next (Ok end) → HasAdded all (count + 1) old next
  one_added old now next end had more = record {
    tells = (λ t. more.tells.0 (had.tells.0 t), λ t. had.tells.1 (more.tells.1 t));
    tells_crash = (λ t. more.tells_crash.0 (had.tells_crash.0 t), λ t. had.tells_crash.1 (more.tells_crash.1 t));
    list = λ t. more.list (had.tells.0 t) ∙ ap (with_last payload) (had.list t) ∙ one_further old.list;
    places = λ t cursor n at. more.places (had.tells.0 t) cursor n (had.places t cursor n at);
  }

  pub one_refused : (old now next : Holding) (fault : KeepFault) → HasAdded all count old now → Appends payload now next (Err fault) → AppendsAll all old next (Err fault)
  one_refused old now next fault had more = record {
    tells = (λ t. more.tells.0 (had.tells.0 t), λ t. had.tells.1 (more.tells.1 t));
    tells_crash = (λ t. more.tells_crash.0 (had.tells_crash.0 t), λ t. had.tells_crash.1 (more.tells_crash.1 t));
    list = λ t. became old.list now.list fault next.list (had.list t) (more.list (had.tells.0 t));
    places = λ t cursor n at. more.places (had.tells.0 t) cursor n (had.places t cursor n at);
    end = λ t. tt;
  }

  pub one_leaves : (old now next : Holding) → HasAdded all count old now → LeavesOneOfTwo payload now next → old.tells → old.tells_crash → LeavesOnly (IsWithFront old.list all) now next
  one_leaves old now next had leaves t crash =
      weaker (IsWithOrWithout now.list payload) (IsWithFront old.list all) now next (λ list may. leads old.list now.list (had.list t) list may) (leaves (had.tells_crash.0 crash))

-- what a crash leaves behind those that were added
pub and_leaves : (all : List (List ℕ)) (old now next : Holding) → LeavesFront all old now → (old.tells → old.tells_crash → LeavesOnly (IsWithFront old.list all) now next) → LeavesFront all old next
and_leaves all old now next first second = λ t crash. then_runs (IsWithFront old.list all) old now next (first t crash) (second t crash)

-- all of them were added, up to this cursor
pub all_added : (all : List (List ℕ)) (count : ℕ) (old now : Holding) (end : ℕ) → length all ≤ count → HasAdded all count old now → (old.tells → now.place_of end ≡ size_of now.list) → AppendsAll all old now (Ok end)
all_added all count old now end whole had at = record {
  tells = had.tells;
  tells_crash = had.tells_crash;
  list = λ t. had.list t ∙ ap (λ (l : List (List ℕ)). with_more l old.list) (take_all count all whole);
  places = had.places;
  end = at;
}
