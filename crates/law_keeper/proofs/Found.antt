-- A payload that may stand at the end of a list is found there exactly where it does.
use Rattle.std.proofs.Common.{◌≡◌, ⊎_elim, ℕ, ◌+◌, List, [], ◌∷◌, ◌++◌, length, Some, None, Ok, refl, ◌∙◌, arith}
use Rattle.std.specs.Prelude.{slice_get}
use Rattle.std.proofs.lemmas.Option.{slice_get_past}
use Rattle.law_keeper.specs.Keepers.{Holding, Keeps, Gives, IsFound}

-- the last of a list
pub last_of : (payloads : List (List ℕ)) (payload : List ℕ) → slice_get (payloads ++ payload ∷ []) (length payloads) ≡ Some payload
last_of [] payload = refl
last_of (first ∷ payloads) payload = last_of payloads payload

module _ (old mid new : Holding) (end : ℕ) (payload : List ℕ) (first : Keeps old mid) (second : Keeps mid new) where
  -- what was loaded at the end of the payloads is what the list has there
  loaded : (told : old.tells) (entry : List ℕ × ℕ) → Gives mid end new (Ok (Some entry)) → (payloads all : List (List ℕ)) → old.place_of end ≡ Some (length payloads) → old.list ≡ Ok all
      → (slice_get all (length payloads) ≡ Some entry.0) × (new.place_of entry.1 ≡ Some (length payloads + 1))
  loaded told entry given payloads all at is = given (first.tells.0 told) all (length payloads) (first.list told ∙ is) (first.places told end (length payloads) at)

  kept : (told : old.tells) (payloads : List (List ℕ)) → old.list ≡ Ok payloads → new.list ≡ Ok payloads
  kept told payloads is = second.list (first.tells.0 told) ∙ first.list told ∙ is

  pub same_found : (entry : List ℕ × ℕ) → Gives mid end new (Ok (Some entry)) → entry.0 ≡ payload → IsFound old end payload new (Some entry.1)
  same_found entry given same = λ told payloads at may.
      ⊎_elim
      (λ without. let got = loaded told entry given payloads payloads at without in absurd (cc (slice_get_past payloads (length payloads) (omega arith), got.0)))
      (λ with. (kept told (payloads ++ payload ∷ []) with, (loaded told entry given payloads (payloads ++ payload ∷ []) at with).1))
      may

  pub other_found : (entry : List ℕ × ℕ) → Gives mid end new (Ok (Some entry)) → (entry.0 ≡ payload → ⊥) → IsFound old end payload new None
  other_found entry given differs = λ told payloads at may.
      ⊎_elim
      (λ without. kept told payloads without)
      (λ with. let got = loaded told entry given payloads (payloads ++ payload ∷ []) at with in absurd (differs (cc (last_of payloads payload, got.0))))
      may
