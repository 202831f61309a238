-- A walk along the list of a keeper.
use Rattle.std.proofs.Common.{◌≡◌, ℕ, zero, suc, ◌+◌, List, [], ◌∷◌, ◌++◌, length, drop, Some, Ok, Err, IsOk, IfOk, refl, sym, subst, ◌∙◌, ap, arith, append_assoc, length-append, Vec}
use Rattle.std.specs.Prelude.{slice_get}
use Rattle.std.specs.declared.alloc.Global.{Global}
use Rattle.law_journal.specs.Grammar.{Listing}
use Rattle.law_keeper.specs.Keepers.{Holding, IsSettled, Keeps, LeavesOnly, Gives, bytes_of}
use Rattle.law_keeper.proofs.Moments.{idles_on, keeps_both}

-- how far a walk has come: so many payloads were taken from the front of the list, and the cursor stands behind them
pub record HasWalked (old now : Holding) (cursor : ℕ) (taken : List (List ℕ)) : Type 0 where
  pub keeps : Keeps old now
  pub at : old.tells → now.place_of cursor ≡ Some (length taken)
  pub front : old.tells → IfOk old.list (λ payloads. taken ++ drop (length taken) payloads ≡ payloads)
  pub crash : old.tells_crash → LeavesOnly old.may_leave old now

-- a listing that is no damage is a list
pub ok_is : (listing : Listing) → IsOk listing → (payloads : List (List ℕ)) × (listing ≡ Ok payloads)
ok_is (Ok payloads) is = (payloads, refl)
ok_is (Err damage) is = absurd (cc is)

drop_get : (payloads : List (List ℕ)) (n : ℕ) (payload : List ℕ) → slice_get payloads n ≡ Some payload → drop n payloads ≡ payload ∷ drop (suc n) payloads
drop_get [] n payload is = absurd (cc is)
drop_get (first ∷ payloads) zero payload is = let same : first ≡ payload = cc is in ap (λ (p : List ℕ). p ∷ payloads) same
drop_get (first ∷ payloads) (suc n) payload is = drop_get payloads n payload is

-- the payload behind those taken is taken
further : (payloads taken : List (List ℕ)) (payload : List ℕ) → taken ++ drop (length taken) payloads ≡ payloads → slice_get payloads (length taken) ≡ Some payload
    → (taken ++ payload ∷ []) ++ drop (length (taken ++ payload ∷ [])) payloads ≡ payloads
further payloads taken payload front is =
    let size : length (taken ++ payload ∷ []) ≡ suc (length taken) = omega (arith, length-append taken (payload ∷ [])) in
    ap (λ n. (taken ++ payload ∷ []) ++ drop n payloads) size
    ∙ append_assoc taken (payload ∷ []) (drop (suc (length taken)) payloads)
    ∙ ap (λ (rest : List (List ℕ)). taken ++ rest) (sym (drop_get payloads (length taken) payload is))
    ∙ front

pub one_more : (old now next : Holding) (cursor : ℕ) (taken : List (List ℕ)) (entry : List ℕ × ℕ) → HasWalked old now cursor taken → IsSettled now → Keeps now next
    → Gives now cursor next (Ok (Some entry)) → (now.tells_crash → LeavesOnly now.may_leave now next) → HasWalked old next entry.1 (taken ++ entry.0 ∷ [])
one_more old now next cursor taken entry walked settled keeps given crash = record {
  keeps = keeps_both old now next walked.keeps keeps;
  at = λ told. (found told).1 ∙ ap Some (omega (arith, length-append taken (entry.0 ∷ [])));
  front = λ told.
      let F = λ (more : List (List ℕ)) (listing : Listing). IfOk listing (λ payloads. more ++ drop (length more) payloads ≡ payloads) in
      subst (F (taken ++ entry.0 ∷ [])) (sym (old_is told)) (further (list told).0 taken entry.0 (subst (F taken) (old_is told) (walked.front told)) (found told).0);
  crash = λ told. let far = walked.crash told in idles_on old.may_leave old now next far (crash far.tells);
}
  where
    list : old.tells → (payloads : List (List ℕ)) × (now.list ≡ Ok payloads)
    list told = ok_is now.list (settled.has_list (walked.keeps.tells.0 told))

    old_is : (told : old.tells) → old.list ≡ Ok (list told).0
    old_is told = sym (walked.keeps.list told) ∙ (list told).1

    found : (told : old.tells) → (slice_get (list told).0 (length taken) ≡ Some entry.0) × (next.place_of entry.1 ≡ Some (length taken + 1))
    found told = given (walked.keeps.tells.0 told) (list told).0 (length taken) (list told).1 (walked.at told)

-- payloads with one more behind
pub bytes_last : (payloads : List (Vec ℕ Global)) (payload : Vec ℕ Global) → bytes_of (payloads ++ payload ∷ []) ≡ bytes_of payloads ++ payload.items ∷ []
bytes_last [] payload = refl
bytes_last (first ∷ payloads) payload = ap (λ (more : List (List ℕ)). first.items ∷ more) (bytes_last payloads payload)
