-- An entry that concerns a work reaches those who depend on it, from some day on.
use Rattle.std.proofs.Common.{◌≡◌, ◌∙◌, sym, ap, ap₂, refl, ℕ, ◌==◌, Bool, true, false, cond, ◌&&◌, ◌||◌, not, is_some, nat_le, nat_lt, List, [], ◌∷◌, length, map, Option, Some, None, option_map}
use Rattle.std.specs.List.{list_any}
use Rattle.desk_base.specs.declared.id.Id.{Id}
use Rattle.law_register.specs.declared.law.command.Command.{Command}
use Rattle.law_register.specs.declared.law.command.Command.TheVariants.{Enact, Record, Correct, Withdraw, Restore, DraftAdd, DraftDrop, File}
use Rattle.law_register.specs.declared.law.modification.Destination.{Destination}
use Rattle.law_register.specs.declared.law.modification.Destination.TheVariants as to
use Rattle.law_register.specs.declared.law.modification.Modification.{Modification}
use Rattle.law_register.specs.declared.law.modification.Modification.TheVariants.{Textual, Force, Efficacy}
use Rattle.law_register.specs.declared.register.draft.DraftItem.{DraftItem}
use Rattle.law_register.specs.declared.register.entry.Entry.{Entry}
use Rattle.law_register.specs.declared.register.rules.Rule.TheVariants.{BadModification, EmptyDraft}
use Rattle.law_register.specs.Answer.Touched.{day_at, day_corrected, day_entered, day_known, day_recorded, first_on, mods_of, own_day, sooner, touched_day, work_entered}
use Rattle.law_register.specs.Provisions.Touching.{day_at_node, first_flag_day, flag_day, flag_day_corrected, flag_day_entered, flag_day_known, is_concerned, own, reach}
use Rattle.law_register.specs.Register.Concerns.{is_named}
use Rattle.law_register.specs.Register.Drafts.{draft_of, items_of}
use Rattle.law_register.specs.Register.KnownIds.{IdFacts, enacted_by, facts_of}
use Rattle.law_register.specs.Register.LawList.{law_command, law_of, laws}
use Rattle.law_register.specs.Register.Verdicts.{bad_modification, broken_where, empty_draft, is_accepted, verdict}
use Rattle.law_register.proofs.Legal.{accepted_new, first_kept, kept_rules, not_broken}
use Rattle.textual_mods.specs.declared.fitting.TheConstants.{MAX_ITEMS}

pub none_left : (a b : Option ℕ) → sooner a b ≡ None → a ≡ None
none_left None b h = refl
none_left (Some x) None h = h
none_left (Some x) (Some y) h = absurd (let no : Some _ ≡ None = h in cc)

pub none_right : (a b : Option ℕ) → sooner a b ≡ None → b ≡ None
none_right None b h = h
none_right (Some x) None h = refl
none_right (Some x) (Some y) h = absurd (let no : Some _ ≡ None = h in cc)

-- a modification touches a day, or changes flags from one on
at_either : (destination : Destination) (on : ℕ) → day_at destination on ≡ None → day_at_node destination on ≡ None → ⊥
at_either (to.Modification id) on none apart = let no : Some on ≡ None = none in cc
at_either (to.Node wid) on none apart = let no : Some on ≡ None = apart in cc

has_day : (body : Modification) → own_day body ≡ None → flag_day body ≡ None → ⊥
has_day (Textual source force edit) none apart = let no : Some force.start ≡ None = none in cc
has_day (Force source destination on effect) none apart = at_either destination on none apart
has_day (Efficacy source destination on effect) none apart = at_either destination on none apart

recorded : (bodies : List Modification) → nat_lt 0 (length bodies) ≡ true → day_recorded bodies ≡ None → first_flag_day bodies ≡ None → ⊥
recorded [] some none apart = let no : false ≡ true = some in cc
recorded (body ∷ bodies) some none apart =
    has_day body (none_left (own_day body) (day_recorded bodies) none) (none_left (flag_day body) (first_flag_day bodies) apart)

module _ (es : List Entry) (w : List ℕ) (X : Option ℕ) where
  -- what the law entry of a command reaches
  abbrev reached_by : List Command → Option ℕ
  reached_by law =
      cond (list_any (λ command. is_some (enacted_by w command)) law) (Some 1)
      (sooner (sooner (day_entered es law) X) (flag_day_entered es law))

  both_none : (law : Command) → enacted_by w law ≡ None → reached_by (law ∷ []) ≡ None → (day_entered es (law ∷ []) ≡ None) × (flag_day_entered es (law ∷ []) ≡ None)
  both_none law other none =
      let rest : sooner (sooner (day_entered es (law ∷ [])) X) (flag_day_entered es (law ∷ [])) ≡ None =
      sym (ap (λ act. cond (is_some act || false) (Some 1) (sooner (sooner (day_entered es (law ∷ [])) X) (flag_day_entered es (law ∷ [])))) other) ∙ none in (
        none_left (day_entered es (law ∷ [])) X (none_left (sooner (day_entered es (law ∷ [])) X) (flag_day_entered es (law ∷ [])) rest),
        none_right (sooner (day_entered es (law ∷ [])) X) (flag_day_entered es (law ∷ [])) rest,
      )

  -- what an id says which is known touches a day, or changes flags from one on
  marked_day : (id : Id) (found : Option IdFacts) → is_named w (option_map (λ f. f.work) found) ≡ true → day_known es id found ≡ None → flag_day_known found ≡ None → ⊥
  marked_day id None named none apart = let no : false ≡ true = named in cc
  marked_day id (Some f) named none apart = has_day f.body (none_left (own_day f.body) (first_on id (mods_of es f.work)) none) apart

  corrected_day : (id : Id) (body : Modification) (found : Option IdFacts) → is_named w (option_map (λ f. f.work) found) ≡ true → day_known es id found ≡ None
      → flag_day_corrected body found ≡ None → ⊥
  corrected_day id body None named none apart = let no : false ≡ true = named in cc
  corrected_day id body (Some f) named none apart =
      has_day f.body (none_left (own_day f.body) (first_on id (mods_of es f.work)) none) (none_left (flag_day f.body) (flag_day body) apart)

  some_mods : (a b : Bool) → not (a && b) ≡ false → a ≡ true
  some_mods true b h = refl
  some_mods false b h = absurd (let no : true ≡ false = h in cc)

  filed : (items : List DraftItem) → (length items == 0) ≡ false → day_recorded (map (λ i. i.body) items) ≡ None → first_flag_day (map (λ i. i.body) items) ≡ None → ⊥
  filed [] some none apart = let no : true ≡ false = some in cc
  filed (i ∷ items) some none apart =
      has_day i.body (none_left (own_day i.body) (day_recorded (map (λ i. i.body) items)) none)
      (none_left (flag_day i.body) (first_flag_day (map (λ i. i.body) items)) apart)

  reached_some : (draft : List DraftItem) (c : Command) → bad_modification c ≡ None → empty_draft draft c ≡ None
      → is_named w (work_entered es (law_command draft c)) ≡ true → reached_by (law_command draft c) ≡ None → ⊥
  reached_some draft (Enact act) good filled named none =
      let no : Some 1 ≡ None =
      sym (ap (λ b. cond (is_some (cond b (Some act) None) || false) (Some 1)
      (sooner (sooner (day_entered es (Enact act ∷ [])) X) (flag_day_entered es (Enact act ∷ [])))) named) ∙ none in cc
  reached_some draft (Record work mods) good filled named none =
      let both = both_none (Record work mods) refl none in
      recorded mods
      (some_mods (nat_lt 0 (length mods)) (nat_le (length mods) MAX_ITEMS)
      (not_broken (not (nat_lt 0 (length mods) && nat_le (length mods) MAX_ITEMS)) (BadModification 0)
      (first_kept (broken_where (not (nat_lt 0 (length mods) && nat_le (length mods) MAX_ITEMS)) (BadModification 0)) _ good)))
      both.0 both.1
  reached_some draft (Correct id body) good filled named none =
      let both = both_none (Correct id body) refl none in
      corrected_day id body (facts_of id (laws es)) named
      (none_left (day_known es id (facts_of id (laws es))) (day_corrected es id body (facts_of id (laws es))) both.0) both.1
  reached_some draft (Withdraw id) good filled named none =
      let both = both_none (Withdraw id) refl none in marked_day id (facts_of id (laws es)) named both.0 both.1
  reached_some draft (Restore id) good filled named none =
      let both = both_none (Restore id) refl none in marked_day id (facts_of id (laws es)) named both.0 both.1
  reached_some draft (DraftAdd work body) good filled named none = let no : false ≡ true = named in cc
  reached_some draft (DraftDrop item) good filled named none = let no : false ≡ true = named in cc
  reached_some draft (File work seen) good filled named none =
      let both = both_none (Record work (map (λ i. i.body) (items_of work draft))) refl none in
      filed (items_of work draft) (not_broken (length (items_of work draft) == 0) (EmptyDraft work) filled) both.0 both.1

-- so what is not reached is not concerned
pub apart_where_unreached : (es : List Entry) (e : Entry) (w : List ℕ) (X : Option ℕ) → is_accepted e.law (verdict es e.drafter e.request e.command) ≡ true
    → reach es e w (sooner (own es e w) X) ≡ None → is_concerned es e w ≡ false
unfolding touched_day
apart_where_unreached es e w X accepted none = by (is_concerned es e w) refl
  where
    concerned : is_concerned es e w ≡ true → reached_by es w X (law_of es e) ≡ None
    concerned named =
        sym (ap₂ (λ own_named flag_named. cond (list_any (λ command. is_some (enacted_by w command)) (law_of es e)) (Some 1)
        (sooner (sooner (cond own_named (day_entered es (law_of es e)) None) X) (cond flag_named (flag_day_entered es (law_of es e)) None))) named named)
        ∙ none

    by : (b : Bool) → is_concerned es e w ≡ b → is_concerned es e w ≡ false
    by true named =
        let rules = kept_rules es e.drafter e.command ((accepted_new es e.drafter e.request e.command e.law accepted).kept) in
        absurd (reached_some es w X (draft_of e.drafter es) e.command rules.modification rules.filled named (concerned named))
    by false apart = apart
