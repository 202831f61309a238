-- Before the day from which an entry may change flags of its work, the same is counted for each provision.
use Rattle.std.proofs.Common.{◌≡◌, ◌∙◌, sym, ap, refl, subst, ℕ, ◌+◌, ◌<◌, ◌⊎◌, inl, inr, Bool, true, false, cond, ◌&&◌, nat_le, List, [], ◌∷◌, ◌++◌, length, map, Option, Some, None, option_map, arith}
use Rattle.std.proofs.lemmas.Bool.Decides.{nat_tests}
use Rattle.std.specs.List.{AllByRecursion}
use Rattle.std.specs.Str.{bytes_eq}
use Rattle.desk_base.specs.declared.id.Id.{Id}
use Rattle.bearing_mods.specs.Turns.{efficacy_turn, force_turn}
use Rattle.bearing_mods.specs.declared.efficacy.CountedEfficacy.{CountedEfficacy}
use Rattle.bearing_mods.specs.declared.force.CountedForce.{CountedForce}
use Rattle.law_register.specs.declared.law.act.Act.{Act}
use Rattle.law_register.specs.declared.law.command.Command.{Command}
use Rattle.law_register.specs.declared.law.command.Command.TheVariants.{Enact, Record, Correct, Withdraw, Restore, DraftAdd, DraftDrop, File}
use Rattle.law_register.specs.declared.law.modification.Destination.TheVariants as to
use Rattle.law_register.specs.declared.law.modification.Modification.{Modification}
use Rattle.law_register.specs.declared.law.modification.Modification.TheVariants.{Textual, Force, Efficacy}
use Rattle.law_register.specs.declared.register.entry.Entry.{Entry}
use Rattle.law_register.specs.declared.register.known.Known.{Known}
use Rattle.law_register.specs.declared.register.known.KnownMod.{KnownMod}
use Rattle.law_register.specs.Answer.Counted.{efficacies_on, efficacy_from, force_from, forces_on, is_same_id, take_turns}
use Rattle.law_register.specs.Answer.Touched.{work_entered}
use Rattle.law_register.specs.Register.Concerns.{is_named}
use Rattle.law_register.specs.Register.Drafts.{draft_of}
use Rattle.law_register.specs.Register.KnownIds.{IdFacts, enacted, facts_of, ids_of, known_as, known_by, known_ids}
use Rattle.law_register.specs.Register.KnownNext.{bodies_in, bodies_known, known_by_entry, known_next, known_now, known_then, mod_after, saying, standing_as, up_to}
use Rattle.law_register.specs.Register.LawList.{front, law_of, laws}
use Rattle.law_register.specs.Register.Verdicts.{is_legal}
use Rattle.law_register.proofs.Next.{entry_apart, entry_next, now_known, one_at_most}
use Rattle.law_register.proofs.Puts.{id_same}
use Rattle.version_cache.specs.Agreement.{IsBefore}
use Rattle.version_cache.proofs.Mute.{before_both}
use Rattle.law_register.specs.Provisions.Touching.{first_flag_day, flag_day, flag_day_changed, flag_day_corrected, flag_day_entered, flag_day_known, flags_from, is_concerned}

not_by : (on day : ℕ) → day < on → nat_le on day ≡ false
not_by on day h = grind (arith, nat_tests)

never : {A : Type 0} (b : Bool) (x y : A) → cond (b && false) x y ≡ y
never true x y = refl
never false x y = refl

none_if : {A : Type 0} (b : Bool) (xs : List A) → xs ≡ [] → cond b xs [] ≡ []
none_if true xs h = h
none_if false xs h = refl

-- modifications that are known by what a law says of their ids
abbrev IsSaid : List Command → KnownMod → Type 0
IsSaid L m = (f : IdFacts) × (facts_of m.id L ≡ Some f) × (f.body ≡ m.body)

all_said : (L : List Command) (ids : List Id) → AllByRecursion (IsSaid L) (known_ids L ids)
all_said L [] = tt
all_said L (id ∷ ids) = by (facts_of id L) refl (all_said L ids)
  where
    by : (f : Option IdFacts) → facts_of id L ≡ f → AllByRecursion (IsSaid L) (known_ids L ids) → AllByRecursion (IsSaid L) (known_as id f ++ known_ids L ids)
    by None is rest = rest
    by (Some f) is rest = ((f, is, refl), rest)

abbrev mods_in_or : List KnownMod → Option Known → List KnownMod
mods_in_or ms None = ms
mods_in_or ms (Some k) = k.mods

mods_said : (es : List Entry) (w : List ℕ) (known : Known) → known_now es w ≡ Some known → AllByRecursion (IsSaid (laws es)) known.mods
mods_said es w known is = by (enacted w (laws es)) (sym (now_known es w) ∙ is)
  where
    by : (found : Option (ℕ × Act)) → known_by w (length (laws es)) (length (laws es)) (laws es) found ≡ Some known → AllByRecursion (IsSaid (laws es)) known.mods
    by None e = absurd (let wrong : None ≡ Some known = e in cc)
    by (Some found) e =
        subst (AllByRecursion (IsSaid (laws es))) (ap (mods_in_or (known_ids (laws es) (ids_of w (laws es)))) e) (all_said (laws es) (ids_of w (laws es)))

module _ (es : List Entry) (day : ℕ) (l : Command) (before : IsBefore day (flag_day_changed es l)) where
  -- of a modification after a law entry: it is as it was, or counts for no provision by the day, neither before nor after
  corrected_quiet : (id : Id) (body : Modification) → IsBefore day (flag_day_changed es (Correct id body)) → (m : KnownMod) → IsSaid (laws es) m
      → (mod_after (Correct id body) m ≡ m) ⊎ (IsBefore day (flag_day m.body) × IsBefore day (flag_day (mod_after (Correct id body) m).body))
  corrected_quiet id body early m (f, says, is) = by (is_same_id id m.id) refl
    where
      both : is_same_id id m.id ≡ true → IsBefore day (flag_day m.body) × IsBefore day (flag_day body)
      both same =
          let parts : IsBefore day (flag_day f.body) × IsBefore day (flag_day body) =
          before_both day (flag_day f.body) (flag_day body) (subst (λ o. IsBefore day (flag_day_corrected body o)) (ap (λ i. facts_of i (laws es)) (id_same id m.id same) ∙ says) early) in
          (subst (λ (b : Modification). IsBefore day (flag_day b)) is parts.0, parts.1)

      by : (b : Bool) → is_same_id id m.id ≡ b
          → (mod_after (Correct id body) m ≡ m) ⊎ (IsBefore day (flag_day m.body) × IsBefore day (flag_day (mod_after (Correct id body) m).body))
      by true same =
          let quiet : IsBefore day (flag_day m.body) × IsBefore day (flag_day body) = both same in
          inr (quiet.0, subst (λ b. IsBefore day (flag_day (cond b (saying body m) m).body)) (sym same) quiet.1)
      by false other = inl (ap (λ b. cond b (saying body m) m) other)

  stood_quiet : (id : Id) (live : Bool) → IsBefore day (flag_day_known (facts_of id (laws es))) → (m : KnownMod) → IsSaid (laws es) m
      → (cond (is_same_id id m.id) (standing_as live m) m ≡ m)
      ⊎ (IsBefore day (flag_day m.body) × IsBefore day (flag_day (cond (is_same_id id m.id) (standing_as live m) m).body))
  stood_quiet id live early m (f, says, is) = by (is_same_id id m.id) refl
    where
      quiet : is_same_id id m.id ≡ true → IsBefore day (flag_day m.body)
      quiet same =
          subst (λ (b : Modification). IsBefore day (flag_day b)) is
          (subst (λ o. IsBefore day (flag_day_known o)) (ap (λ i. facts_of i (laws es)) (id_same id m.id same) ∙ says) early)

      by : (b : Bool) → is_same_id id m.id ≡ b
          → (cond (is_same_id id m.id) (standing_as live m) m ≡ m)
          ⊎ (IsBefore day (flag_day m.body) × IsBefore day (flag_day (cond (is_same_id id m.id) (standing_as live m) m).body))
      by true same = inr (quiet same, subst (λ b. IsBefore day (flag_day (cond b (standing_as live m) m).body)) (sym same) (quiet same))
      by false other = inl (ap (λ b. cond b (standing_as live m) m) other)

  stays_or_quiet : (m : KnownMod) → IsSaid (laws es) m → (mod_after l m ≡ m) ⊎ (IsBefore day (flag_day m.body) × IsBefore day (flag_day (mod_after l m).body))
  stays_or_quiet m said = by l before
    where
      by : (k : Command) → IsBefore day (flag_day_changed es k) → (mod_after k m ≡ m) ⊎ (IsBefore day (flag_day m.body) × IsBefore day (flag_day (mod_after k m).body))
      by (Correct id body) early = corrected_quiet id body early m said
      by (Withdraw id) early = stood_quiet id false early m said
      by (Restore id) early = stood_quiet id true early m said
      by (Enact act) early = inl refl
      by (Record other bodies) early = inl refl
      by (DraftAdd other body) early = inl refl
      by (DraftDrop item) early = inl refl
      by (File other seen) early = inl refl

  -- force
  one_force : (wid : List ℕ) (id : Id) (body : Modification) → IsBefore day (flag_day body) → force_from (to.Node wid) day id body ≡ []
  one_force wid id (Textual source own edit) h = refl
  one_force wid id (Efficacy source destination on effect) h = refl
  one_force wid id (Force source (to.Modification k) on effect) h = refl
  one_force wid id (Force source (to.Node v) on effect) h =
      let one : List CountedForce = record { id = id; on = on; effect = effect } ∷ [] in
      ap (λ t. cond (bytes_eq v wid && t) one []) (not_by on day h) ∙ never (bytes_eq v wid) one []

  force_still : (wid : List ℕ) (m : KnownMod) → IsSaid (laws es) m
      → cond (mod_after l m).live (force_from (to.Node wid) day (mod_after l m).id (mod_after l m).body) [] ≡ cond m.live (force_from (to.Node wid) day m.id m.body) []
  force_still wid m said = by (stays_or_quiet m said)
    where
      by : (mod_after l m ≡ m) ⊎ (IsBefore day (flag_day m.body) × IsBefore day (flag_day (mod_after l m).body))
          → cond (mod_after l m).live (force_from (to.Node wid) day (mod_after l m).id (mod_after l m).body) [] ≡ cond m.live (force_from (to.Node wid) day m.id m.body) []
      by (inl same) = ap (λ (k : KnownMod). cond k.live (force_from (to.Node wid) day k.id k.body) []) same
      by (inr quiet) =
          none_if (mod_after l m).live (force_from (to.Node wid) day (mod_after l m).id (mod_after l m).body) (one_force wid (mod_after l m).id (mod_after l m).body quiet.1)
          ∙ sym (none_if m.live (force_from (to.Node wid) day m.id m.body) (one_force wid m.id m.body quiet.0))

  force_behind : (wid : List ℕ) (law item : ℕ) (bodies : List Modification) → IsBefore day (first_flag_day bodies) → forces_on (to.Node wid) day (bodies_known law item bodies) ≡ []
  force_behind wid law item [] h = refl
  force_behind wid law item (body ∷ bodies) h =
      let both : IsBefore day (flag_day body) × IsBefore day (first_flag_day bodies) = before_both day (flag_day body) (first_flag_day bodies) h in
      ap (λ ones. take_turns force_turn ones (forces_on (to.Node wid) day (bodies_known law (item + 1) bodies))) (one_force wid (let id : Id = record { law = law; item = item } in id) body both.0)
      ∙ force_behind wid law (item + 1) bodies both.1

  forces_after : (wid : List ℕ) (ms more : List KnownMod) → AllByRecursion (IsSaid (laws es)) ms → forces_on (to.Node wid) day more ≡ []
      → forces_on (to.Node wid) day (map (mod_after l) ms ++ more) ≡ forces_on (to.Node wid) day ms
  forces_after wid [] more said none = none
  forces_after wid (m ∷ ms) more said none =
      ap (λ ones. take_turns force_turn ones (forces_on (to.Node wid) day (map (mod_after l) ms ++ more))) (force_still wid m said.0)
      ∙ ap (take_turns force_turn (cond m.live (force_from (to.Node wid) day m.id m.body) [])) (forces_after wid ms more said.1 none)

  -- efficacy
  one_efficacy : (wid : List ℕ) (id : Id) (body : Modification) → IsBefore day (flag_day body) → efficacy_from (to.Node wid) day id body ≡ []
  one_efficacy wid id (Textual source own edit) h = refl
  one_efficacy wid id (Force source destination on effect) h = refl
  one_efficacy wid id (Efficacy source (to.Modification k) on effect) h = refl
  one_efficacy wid id (Efficacy source (to.Node v) on effect) h =
      let one : List CountedEfficacy = record { id = id; on = on; effect = effect } ∷ [] in
      ap (λ t. cond (bytes_eq v wid && t) one []) (not_by on day h) ∙ never (bytes_eq v wid) one []

  efficacy_still : (wid : List ℕ) (m : KnownMod) → IsSaid (laws es) m
      → cond (mod_after l m).live (efficacy_from (to.Node wid) day (mod_after l m).id (mod_after l m).body) [] ≡ cond m.live (efficacy_from (to.Node wid) day m.id m.body) []
  efficacy_still wid m said = by (stays_or_quiet m said)
    where
      by : (mod_after l m ≡ m) ⊎ (IsBefore day (flag_day m.body) × IsBefore day (flag_day (mod_after l m).body))
          → cond (mod_after l m).live (efficacy_from (to.Node wid) day (mod_after l m).id (mod_after l m).body) [] ≡ cond m.live (efficacy_from (to.Node wid) day m.id m.body) []
      by (inl same) = ap (λ (k : KnownMod). cond k.live (efficacy_from (to.Node wid) day k.id k.body) []) same
      by (inr quiet) =
          none_if (mod_after l m).live (efficacy_from (to.Node wid) day (mod_after l m).id (mod_after l m).body) (one_efficacy wid (mod_after l m).id (mod_after l m).body quiet.1)
          ∙ sym (none_if m.live (efficacy_from (to.Node wid) day m.id m.body) (one_efficacy wid m.id m.body quiet.0))

  efficacy_behind : (wid : List ℕ) (law item : ℕ) (bodies : List Modification) → IsBefore day (first_flag_day bodies) → efficacies_on (to.Node wid) day (bodies_known law item bodies) ≡ []
  efficacy_behind wid law item [] h = refl
  efficacy_behind wid law item (body ∷ bodies) h =
      let both : IsBefore day (flag_day body) × IsBefore day (first_flag_day bodies) = before_both day (flag_day body) (first_flag_day bodies) h in
      ap (λ ones. take_turns efficacy_turn ones (efficacies_on (to.Node wid) day (bodies_known law (item + 1) bodies))) (one_efficacy wid (let id : Id = record { law = law; item = item } in id) body both.0)
      ∙ efficacy_behind wid law (item + 1) bodies both.1

  efficacies_after : (wid : List ℕ) (ms more : List KnownMod) → AllByRecursion (IsSaid (laws es)) ms → efficacies_on (to.Node wid) day more ≡ []
      → efficacies_on (to.Node wid) day (map (mod_after l) ms ++ more) ≡ efficacies_on (to.Node wid) day ms
  efficacies_after wid [] more said none = none
  efficacies_after wid (m ∷ ms) more said none =
      ap (λ ones. take_turns efficacy_turn ones (efficacies_on (to.Node wid) day (map (mod_after l) ms ++ more))) (efficacy_still wid m said.0)
      ∙ ap (take_turns efficacy_turn (cond m.live (efficacy_from (to.Node wid) day m.id m.body) [])) (efficacies_after wid ms more said.1 none)

  -- what a law entry records in the work
  recorded_quiet : (w : List ℕ) → is_named w (work_entered es (l ∷ [])) ≡ true → IsBefore day (first_flag_day (bodies_in w l))
  recorded_quiet w own = by l before
    where
      only : (b : Bool) (bodies : List Modification) → IsBefore day (first_flag_day bodies) → IsBefore day (first_flag_day (cond b bodies []))
      only true bodies h = h
      only false bodies h = tt

      by : (k : Command) → IsBefore day (flag_day_changed es k) → IsBefore day (first_flag_day (bodies_in w k))
      by (Record other bodies) early = only (bytes_eq other w) bodies early
      by (Correct id body) early = tt
      by (Withdraw id) early = tt
      by (Restore id) early = tt
      by (Enact act) early = tt
      by (DraftAdd other body) early = tt
      by (DraftDrop item) early = tt
      by (File other seen) early = tt

  pub forces_then : (w wid : List ℕ) (known : Known) → AllByRecursion (IsSaid (laws es)) known.mods → is_named w (work_entered es (l ∷ [])) ≡ true
      → forces_on (to.Node wid) day (known_then w l known).mods ≡ forces_on (to.Node wid) day known.mods
  forces_then w wid known said own =
      forces_after wid known.mods (bodies_known (known.front + 1) 1 (bodies_in w l)) said (force_behind wid (known.front + 1) 1 (bodies_in w l) (recorded_quiet w own))

  pub efficacies_then : (w wid : List ℕ) (known : Known) → AllByRecursion (IsSaid (laws es)) known.mods → is_named w (work_entered es (l ∷ [])) ≡ true
      → efficacies_on (to.Node wid) day (known_then w l known).mods ≡ efficacies_on (to.Node wid) day known.mods
  efficacies_then w wid known said own =
      efficacies_after wid known.mods (bodies_known (known.front + 1) 1 (bodies_in w l)) said (efficacy_behind wid (known.front + 1) 1 (bodies_in w l) (recorded_quiet w own))

-- the same is counted for each provision of a work before and after an entry
pub record CountsAlike (day : ℕ) (old new : Known) : Type 0 where
  pub forces : (wid : List ℕ) → forces_on (to.Node wid) day new.mods ≡ forces_on (to.Node wid) day old.mods
  pub efficacies : (wid : List ℕ) → efficacies_on (to.Node wid) day new.mods ≡ efficacies_on (to.Node wid) day old.mods

alike_mods : (day : ℕ) (old new : Known) → new.mods ≡ old.mods → CountsAlike day old new
alike_mods day old new same = record {
  forces = λ wid. ap (forces_on (to.Node wid) day) same;
  efficacies = λ wid. ap (efficacies_on (to.Node wid) day) same;
}

pub counts_alike : (es : List Entry) (e : Entry) (w : List ℕ) (old new : Known) (day : ℕ) → is_legal es ≡ true → known_now es w ≡ Some old
    → known_now (es ++ e ∷ []) w ≡ Some new → IsBefore day (flags_from es e w) → CountsAlike day old new
counts_alike es e w old new day legal was is before = by (is_concerned es e w) refl
  where
    inner : (a b : Known) → Some a ≡ Some b → a ≡ b
    inner a b h = cc

    next : Some new ≡ known_by_entry (front es) w (law_of es e) (Some old)
    next = sym is ∙ entry_next es e w legal ∙ ap (known_next es e w) was

    said : AllByRecursion (IsSaid (laws es)) old.mods
    said = mods_said es w old was

    changed : (is_concerned es e w ≡ true) → IsBefore day (flag_day_entered es (law_of es e))
    changed own = subst (λ b. IsBefore day (cond b (flag_day_entered es (law_of es e)) None)) own before

    by_law : is_concerned es e w ≡ true → (law_of es e ≡ []) ⊎ ((l : Command) × (law_of es e ≡ l ∷ [])) → CountsAlike day old new
    by_law own (inl none) =
        alike_mods day old new (ap (λ (k : Known). k.mods) (inner new old (next ∙ ap (λ ls. known_by_entry (front es) w ls (Some old)) none)))
    by_law own (inr (l, one)) =
        let then_is : new ≡ known_then w l old = inner new (known_then w l old) (next ∙ ap (λ ls. known_by_entry (front es) w ls (Some old)) one) in
        let early : IsBefore day (flag_day_changed es l) = subst (λ ls. IsBefore day (flag_day_entered es ls)) one (changed own) in
        let mine : is_named w (work_entered es (l ∷ [])) ≡ true = ap (λ ls. is_named w (work_entered es ls)) (sym one) ∙ own in
        record {
          forces = λ wid. ap (λ (k : Known). forces_on (to.Node wid) day k.mods) then_is ∙ forces_then es day l early w wid old said mine;
          efficacies = λ wid. ap (λ (k : Known). efficacies_on (to.Node wid) day k.mods) then_is ∙ efficacies_then es day l early w wid old said mine;
        }

    by : (b : Bool) → is_concerned es e w ≡ b → CountsAlike day old new
    by true own = by_law own (one_at_most (draft_of e.drafter es) e.command)
    by false apart =
        alike_mods day old new (ap (λ (k : Known). k.mods) (inner new (up_to (front (es ++ e ∷ [])) old) (sym is ∙ entry_apart es e w apart ∙ ap (option_map (up_to (front (es ++ e ∷ [])))) was)))
