-- What slots lay down after one is added or changed.
use Rattle.std.proofs.Common.{◌≡◌, ◌∙◌, sym, ap, refl, ℕ, zero, suc, ◌<◌, ◌≤◌, List, [], ◌∷◌, ◌++◌, length, get_or, option_map, Some, None, inl, inr, arith}
use Rattle.std.proofs.lemmas.Option.{slice_get_past, slice_get-get_or}
use Rattle.std.proofs.lemmas.Bool.{cases_lt}
use Rattle.act_tree.specs.declared.arena.Slot.{Slot}
use Rattle.act_tree.specs.Arena.{Laid}
use Rattle.act_tree.specs.Slots.{laid, laid_of}

pub laid_past : (ss : List Slot) (k : ℕ) → length ss ≤ k → laid ss k ≡ None
laid_past ss k past = ap (option_map laid_of) (slice_get_past ss k past)

pub laid_within : (ss : List Slot) (k : ℕ) (x : Laid) → laid ss k ≡ Some x → k < length ss
laid_within ss k x here =
    elim (cases_lt k (length ss)) [ inl within ↦ within | inr past ↦ absurd (let none : laid ss k ≡ None = laid_past ss k past in cc) ]

pub laid_is : (ss : List Slot) (k : ℕ) (d : Slot) → k < length ss → laid ss k ≡ Some (laid_of (get_or ss k d))
laid_is ss k d within = ap (option_map laid_of) (slice_get-get_or ss k d within)

pub laid_before : (ss : List Slot) (s : Slot) (k : ℕ) → k < length ss → laid (ss ++ s ∷ []) k ≡ laid ss k
laid_before [] s k within = absurd (omega arith)
laid_before (x ∷ ss) s zero within = refl
laid_before (x ∷ ss) s (suc k) within = laid_before ss s k (omega arith)

pub laid_last : (ss : List Slot) (s : Slot) → laid (ss ++ s ∷ []) (length ss) ≡ Some (laid_of s)
laid_last [] s = refl
laid_last (x ∷ ss) s = laid_last ss s

pub laid_slot : (ss : List Slot) (i : ℕ) (s : Slot) → i < length ss → s ≡ get_or ss i s → laid ss i ≡ Some (laid_of s)
laid_slot ss i s within it = laid_is ss i s within ∙ ap (λ x. Some (laid_of x)) (sym it)
