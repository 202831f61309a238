-- What one modification more makes of a version.
use Rattle.std.proofs.Common.{◌≡◌, ◌∙◌, sym, ap, refl, subst, Bool, true, false, List, [], ◌∷◌, ◌++◌, append_assoc, cond, Option, Some, None, Ok, Err, Result}
use Rattle.std.specs.List.{All, AllByRecursion, find}
use Rattle.std.proofs.lemmas.List.Elements.{All-head, All-tail}
use Rattle.desk_base.specs.declared.id.Id.{Id}
use Rattle.act_tree.specs.declared.cause.Cause.{Cause}
use Rattle.act_tree.specs.Branches.{Branches, branches_of}
use Rattle.act_tree.specs.Faults.{first_fault}
use Rattle.act_tree.specs.Provisions.{Provision}
use Rattle.textual_mods.proofs.Starting.{enacted_brings_none, enacted_fits}
use Rattle.textual_mods.specs.Edits as edits
use Rattle.textual_mods.specs.declared.edit.TextualMod.{TextualMod}
use Rattle.law_register.specs.declared.law.act.Act.{Act}
use Rattle.law_register.specs.declared.register.known.KnownMod.{KnownMod}
use Rattle.law_register.specs.Answer.Replay.{VersionValue, as_enacted, taken, edit_of, edited_by, replayed}
use Rattle.law_register.specs.Answer.Soundness.{IsReplayed, IsSoundBody, id_twice}
use Rattle.law_register.proofs.ApartIds.{one_less}

-- the act as enacted is as replay makes a version
pub enacted_replayed : (act : Act) → first_fault act.numbering act.limit (branches_of act.body) ≡ None → (v : VersionValue) → v ≡ as_enacted act → IsReplayed v
enacted_replayed act sound v is = subst IsReplayed (sym is) (record {
  fits = enacted_fits act.numbering act.limit (branches_of act.body) sound;
  fresh = λ other law item none. enacted_brings_none act.numbering (branches_of act.body) other;
  changes = refl;
})

-- those to come still differ from each other and from those applied
pub edited_apart : (v : VersionValue) (id : Id) (edit : Option TextualMod) (ids : List Id) → id_twice (v.applied ++ id ∷ ids) ≡ false
    → id_twice ((edited_by v id edit).applied ++ ids) ≡ false
edited_apart v id None ids h = one_less v.applied ids id h
edited_apart v id (Some edit) ids h = by (edits.applied v.tree id edit)
  where
    by : (r : Result (Branches Provision) Cause) → id_twice ((taken v id r).applied ++ ids) ≡ false
    by (Err cause) = one_less v.applied ids id h
    by (Ok body) = ap id_twice (append_assoc v.applied (id ∷ []) ids) ∙ h

-- replay of some and then of others is replay of all
pub replayed_on : (mods : List KnownMod) (v : VersionValue) (xs ys : List Id) → replayed mods v (xs ++ ys) ≡ replayed mods (replayed mods v xs) ys
replayed_on mods v [] ys = refl
replayed_on mods v (id ∷ ids) ys = replayed_on mods (edited_by v id (edit_of mods id)) ids ys

-- those to come after a replay still differ from those that it applied
pub replayed_apart : (mods : List KnownMod) (v : VersionValue) (xs ys : List Id) → id_twice (v.applied ++ (xs ++ ys)) ≡ false
    → id_twice ((replayed mods v xs).applied ++ ys) ≡ false
replayed_apart mods v [] ys h = h
replayed_apart mods v (id ∷ ids) ys h =
    replayed_apart mods (edited_by v id (edit_of mods id)) ids ys (edited_apart v id (edit_of mods id) (ids ++ ys) h)

-- a modification that is found among sound ones is sound
pub found_sound : (test : KnownMod → Bool) (mods : List KnownMod) (m : KnownMod) → All (λ k. IsSoundBody k.body) mods → find test mods ≡ Some m → IsSoundBody m.body
found_sound test [] m sound is = absurd (let wrong : None ≡ Some m = is in cc)
found_sound test (k ∷ ks) m sound is = by (found_sound test ks m (All-tail (λ j. IsSoundBody j.body) k ks sound)) (test k) is
  where
    same : (j : KnownMod) → Some k ≡ Some j → k ≡ j
    same j e = cc

    by : (find test ks ≡ Some m → IsSoundBody m.body) → (b : Bool) → cond b (Some k) (find test ks) ≡ Some m → IsSoundBody m.body
    by below true e = subst (λ (j : KnownMod). IsSoundBody j.body) (same m e) (All-head (λ j. IsSoundBody j.body) k ks sound)
    by below false e = below e

-- a replay reads of what is known no more than the edits of its ids
pub replayed_alike : (mods others : List KnownMod) (v : VersionValue) (ids : List Id) → AllByRecursion (λ id. edit_of mods id ≡ edit_of others id) ids
    → replayed mods v ids ≡ replayed others v ids
replayed_alike mods others v [] same = refl
replayed_alike mods others v (id ∷ ids) same =
    ap (λ e. replayed mods (edited_by v id e) ids) same.0 ∙ replayed_alike mods others (edited_by v id (edit_of others id)) ids same.1
