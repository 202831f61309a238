-- An entry that concerns no work moves none.
use Rattle.std.proofs.Common.{◌≡◌, ◌∙◌, ap, ap₂, refl, ℕ, false, cond, ◌||◌, is_some, List, [], ◌∷◌, ◌++◌, map, Option, Some, None, option_map}
use Rattle.std.specs.List.{list_any}
use Rattle.law_register.specs.declared.law.command.Command.{Command}
use Rattle.law_register.specs.declared.law.command.Command.TheVariants.{Enact, Record, Correct, Withdraw, Restore, DraftAdd, DraftDrop, File}
use Rattle.law_register.specs.declared.register.entry.Entry.{Entry}
use Rattle.law_register.specs.Answer.Touched.{day_among, sooner, touched_day, work_entered}
use Rattle.law_register.specs.Provisions.Carrying.{held_now}
use Rattle.law_register.specs.Provisions.Depending.{depends_in}
use Rattle.law_register.specs.Provisions.Line.{line}
use Rattle.law_register.specs.Provisions.Touching.{enacts, flag_day_entered, is_concerned, own, reach, touched, touched_along, touched_works}
use Rattle.law_register.specs.Register.Concerns.{is_named}
use Rattle.law_register.specs.Register.Drafts.{draft_of}
use Rattle.law_register.specs.Register.Indexes.{act_of}
use Rattle.law_register.specs.Register.KnownIds.{enacted_by}
use Rattle.law_register.specs.Register.KnownNext.{up_to}
use Rattle.law_register.specs.Register.LawList.{front, law_command, law_of, laws}
use Rattle.law_register.proofs.Next.{entry_apart}
use Rattle.law_register.proofs.Unreached.{either_none, told_none}
use Rattle.version_cache.specs.Works.{IsForIf, WorkValue}
use Rattle.law_refs.specs.Handing.{moved_by, work_enacted}
use Rattle.law_office.specs.Tables.{AreTablesOf, Kept, Matches}
use Rattle.law_office.proofs.Moved.{held_none, not_held}

module _ (es : List Entry) (e : Entry) (none : work_entered es (law_of es e) ≡ None) where
  apart : (w : List ℕ) → is_concerned es e w ≡ false
  apart w = ap (is_named w) none

  none_own : (w : List ℕ) → own es e w ≡ None
  none_own w = ap (λ b. cond b (touched_day es e) None) (apart w)

  none_enacted : (w : List ℕ) → enacts es e w ≡ false
  none_enacted w = by e.command none
    where
      by : (c : Command) → work_entered es (law_command (draft_of e.drafter es) c) ≡ None
          → list_any (λ command. is_some (enacted_by w command)) (law_command (draft_of e.drafter es) c) ≡ false
      by (Enact act) some = absurd (let no : Some act.work ≡ None = some in cc)
      by (Record work mods) some = refl
      by (Correct id body) some = refl
      by (Withdraw id) some = refl
      by (Restore id) some = refl
      by (DraftAdd work body) some = refl
      by (DraftDrop item) some = refl
      by (File work seen) some = refl

  none_act : act_of e.command ≡ None
  none_act = by e.command none
    where
      by : (c : Command) → work_entered es (law_command (draft_of e.drafter es) c) ≡ None → act_of c ≡ None
      by (Enact act) some = absurd (let no : Some act.work ≡ None = some in cc)
      by (Record work mods) some = refl
      by (Correct id body) some = refl
      by (Withdraw id) some = refl
      by (Restore id) some = refl
      by (DraftAdd work body) some = refl
      by (DraftDrop item) some = refl
      by (File work seen) some = refl

  none_reach : (w : List ℕ) → reach es e w None ≡ None
  none_reach w =
      ap (λ b. cond b (Some 1) (sooner None (cond (is_concerned es e w) (flag_day_entered es (law_of es e)) None))) (none_enacted w)
      ∙ ap (λ b. sooner None (cond b (flag_day_entered es (law_of es e)) None)) (apart w)

  none_touched : touched_works es e ≡ []
  unfolding touched_works touched_along
  none_touched =
      told_none es e (line (laws es)) (line (laws (es ++ e ∷ []))) none_own
      (λ x w. either_none (depends_in (line (laws es)) x w || depends_in (line (laws (es ++ e ∷ []))) x w) (reach es e w None) (none_reach w))

  pub none_moved : moved_by es e ≡ []
  unfolding moved_by
  none_moved = ap₂ (λ act told. work_enacted act ++ map (λ touched. touched.0) told) none_act none_touched

  pub all_rest : ((work : List ℕ) (one : WorkValue) → IsForIf (held_now es work) one → is_concerned es e work ≡ false → touched es e work ≡ None
      → IsForIf (held_now (es ++ e ∷ []) work) one)
      → (kept : Kept) → AreTablesOf es kept → AreTablesOf (es ++ e ∷ []) kept
  all_rest stays kept right w = by (kept w) (right w)
    where
      by : (k : Option WorkValue) → Matches (held_now es w) k → Matches (held_now (es ++ e ∷ []) w) k
      by None unknown =
          held_none (es ++ e ∷ []) w (entry_apart es e w (apart w) ∙ ap (option_map (up_to (front (es ++ e ∷ [])))) (not_held es w unknown))
      by (Some one) for = stays w one for (apart w) (ap (λ ts. day_among ts w) none_touched)
