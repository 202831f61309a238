-- What an entry hands in that comes to stand behind others is what the register has with it.
use Rattle.std.proofs.Common.{◌≡◌, ◌∙◌, ℕ, ◌+◌, ◌<◌, ◌≤◌, sym, ap, ap₂, refl, subst, Bool, true, false, cond, List, [], ◌∷◌, ◌++◌, map, Option, Some, None, option_map}
use Rattle.std.proofs.lemmas.List.{append-nil}
use Rattle.std.specs.Option.{option_or}
use Rattle.std.specs.Str.{bytes_eq}
use Rattle.law_register.specs.declared.answer.question.Reading.TheVariants.{Force}
use Rattle.law_register.specs.declared.law.act.Act.{Act}
use Rattle.law_register.specs.declared.law.command.Command.{Command}
use Rattle.law_register.specs.declared.law.command.Command.TheVariants.{Enact, Record, Correct, Withdraw, Restore, DraftAdd, DraftDrop, File}
use Rattle.law_register.specs.declared.register.draft.DraftItem.{DraftItem}
use Rattle.law_register.specs.declared.register.entry.Entry.{Entry}
use Rattle.law_register.specs.declared.register.known.Known.{Known}
use Rattle.law_register.specs.Answer.Replay.{VersionValue}
use Rattle.law_register.specs.Answer.Touched.{day_among, work_entered}
use Rattle.law_register.specs.Provisions.Carrying.{carrying, held_now}
use Rattle.law_register.specs.Provisions.Line.{line}
use Rattle.law_register.specs.Provisions.Touching.{touched, touched_works}
use Rattle.law_register.specs.Register.Concerns.{is_named}
use Rattle.law_register.specs.Register.Drafts.{draft_of}
use Rattle.law_register.specs.Register.Indexes.{act_of}
use Rattle.law_register.specs.Register.KnownNext.{known_by_entry, known_next, known_now, known_then, newly_known, up_to}
use Rattle.law_register.specs.Register.LawList.{front, law_command, law_of, laws}
use Rattle.law_register.specs.Register.Verdicts.{is_accepted, is_legal, verdict}
use Rattle.law_register.proofs.ApartIds.{none_left, none_right}
use Rattle.law_register.proofs.Grown.{IsAccepted, enact_known}
use Rattle.law_register.proofs.Next.{entry_apart, entry_next}
use Rattle.law_register.proofs.Puts.{and_true, bytes_either, bytes_same, left_true, right_true}
use Rattle.law_register.proofs.Snoc.{legal_more}
use Rattle.version_cache.specs.Agreement.{IsEarly}
use Rattle.source_provisions.proofs.Enacted.{itself_untouched}
use Rattle.source_provisions.proofs.HeldNow.{early_version, held_is, same_act}
use Rattle.source_provisions.specs.Once.{AreOnce}
use Rattle.source_provisions.proofs.Once.{touched_once}
use Rattle.law_refs.specs.Handing.{moved_by, rows_enacted, rows_from, rows_if, rows_made, rows_of_entry, rows_touched, work_enacted}
use Rattle.law_refs.specs.Index.{first_day}
use Rattle.law_refs.specs.Missing.{refs_in_force, text_refs}
use Rattle.law_refs.specs.Names.{is_among}
use Rattle.law_refs.specs.OfRegister.{FollowsChange, HasSameRefs, IsHandedIn, SameRefs, rows_given}
use Rattle.law_refs.specs.declared.ref_row.RefRow.{RefRow}
use Rattle.law_refs.proofs.Opening.{first_both, given_both}
use Rattle.law_refs.proofs.Revised.{nothing_given}
use Rattle.law_refs.proofs.Texts.{first_other, from_handed, from_of, made_handed, made_of, now_steady}
use Rattle.law_refs.proofs.Unmoved.{IsUnmoved, unmoved_missing, unmoved_refs}

-- ---- what an entry leaves

-- a work that is known stays known
still_known : (n : ℕ) (work : List ℕ) (ls : List Command) (old : Known) → known_by_entry n work ls (Some old) ≡ None → ⊥
still_known n work [] old is = let no : Some old ≡ None = is in cc
still_known n work (law ∷ ls) old is = let no : Some (known_then work law old) ≡ None = is in cc

-- and only an Enact makes one known
none_enacted : (n : ℕ) (work : List ℕ) (draft : List DraftItem) (command : Command) → act_of command ≡ None → known_by_entry n work (law_command draft command) None ≡ None
none_enacted n work draft (Enact act) none = absurd (let no : Some act ≡ None = none in cc)
none_enacted n work draft (Record other mods) none = refl
none_enacted n work draft (Correct id body) none = refl
none_enacted n work draft (Withdraw id) none = refl
none_enacted n work draft (Restore id) none = refl
none_enacted n work draft (DraftAdd other body) none = refl
none_enacted n work draft (DraftDrop item) none = refl
none_enacted n work draft (File other seen) none = refl

module _ (es : List Entry) (e : Entry) (legal : is_legal es ≡ true) where
  abbrev more : List Entry
  more = es ++ e ∷ []

  abbrev held_old : Option Known → Option Known
  held_old known = option_map (carrying (line (laws es))) known

  abbrev held_new : Option Known → Option Known
  held_new known = option_map (carrying (line (laws more))) known

  lost_is_not : (work : List ℕ) (old : Known) → known_now es work ≡ Some old → known_now more work ≡ None → ⊥
  lost_is_not work old was none =
      still_known (front es) work (law_of es e) old (sym (entry_next es e work legal ∙ ap (known_next es e work) was) ∙ none)

  -- a work that is not touched, and which the entry does not make known, is unmoved
  module _ (work : List ℕ) (unknown : known_now es work ≡ None → known_now more work ≡ None) where
    untouched : touched es e work ≡ None → IsUnmoved (held_now es work) (held_now more work)
    untouched none =
        subst (λ held. IsUnmoved held (held_now more work)) (sym (held_is es work))
        (subst (IsUnmoved (held_old (known_now es work))) (sym (held_is more work)) (by (known_now es work) (known_now more work) refl refl))
      where
        by : (old new : Option Known) → known_now es work ≡ old → known_now more work ≡ new → IsUnmoved (held_old old) (held_new new)
        by None None was is = tt
        by None (Some new) was is = absurd (let no : None ≡ Some new = sym (unknown was) ∙ is in cc)
        by (Some old) None was is = absurd (lost_is_not work old was is)
        by (Some old) (Some new) was is = record {
          act = same_act es e legal work old new was is;
          texts = λ day. early_version es e legal work old new was is Force day (subst (IsEarly day) (sym none) tt);
        }

    -- before its touched day a work has the references that it had
    early_refs : (day : ℕ) (new : Known) → known_now more work ≡ Some new → touched es e work ≡ Some day
        → (early : ℕ) → 1 ≤ early → early < day → SameRefs early (held_now es work) (carrying (line (laws more)) new)
    unfolding refs_in_force
    early_refs day new is among early real less =
        subst (λ held. SameRefs early held (carrying (line (laws more)) new)) (sym (held_is es work)) (by (known_now es work) refl)
      where
        by : (old : Option Known) → known_now es work ≡ old → SameRefs early (held_old old) (carrying (line (laws more)) new)
        by None was = absurd (let no : None ≡ Some new = sym (unknown was) ∙ is in cc)
        by (Some old) was =
            ap (λ (v : VersionValue). text_refs v.tree)
            (early_version es e legal work old new was is Force early (subst (IsEarly early) (sym among) (real, less)))

  -- ---- the rows of touched works

  from_other : (own work : List ℕ) (day : ℕ) (known : Option Known) → bytes_eq own work ≡ false → first_day work (rows_if (rows_from own day) known) ≡ None
  from_other own work day None other = refl
  from_other own work day (Some known) other = first_other own work (rows_from own day known) (from_of own known day) other

  abbrev own_rows : List ℕ → ℕ → List RefRow
  own_rows work day = rows_if (rows_from work day) (held_now more work)

  none_first : (work : List ℕ) (ds : List (List ℕ × ℕ)) → day_among ds work ≡ None → first_day work (rows_touched more ds) ≡ None
  none_first work [] none = refl
  none_first work (d ∷ ds) none = by (bytes_eq d.0 work) refl none (none_first work ds)
    where
      by : (b : Bool) → bytes_eq d.0 work ≡ b → cond b (Some d.1) (day_among ds work) ≡ None
          → (day_among ds work ≡ None → first_day work (rows_touched more ds) ≡ None) → first_day work (own_rows d.0 d.1 ++ rows_touched more ds) ≡ None
      by true same none rest = absurd (let no : Some d.1 ≡ None = none in cc)
      by false other none rest =
          first_both work (own_rows d.0 d.1) (rows_touched more ds)
          ∙ ap (λ first. option_or first (first_day work (rows_touched more ds))) (from_other d.0 work d.1 (held_now more d.0) other)
          ∙ rest none

  or_none : (o : Option (Option ℕ)) → option_or o None ≡ o
  or_none None = refl
  or_none (Some day) = refl

  -- of a work that is touched they are its own
  abbrev AreOwn : List ℕ → ℕ → List (List ℕ × ℕ) → Type 0
  AreOwn work day ds =
      (first_day work (rows_touched more ds) ≡ first_day work (own_rows work day))
      × (rows_given work (rows_touched more ds) ≡ rows_given work (own_rows work day))

  own_given : (work : List ℕ) (day : ℕ) (ds : List (List ℕ × ℕ)) → AreOnce ds → day_among ds work ≡ Some day → AreOwn work day ds
  own_given work day [] once among = absurd (let no : None ≡ Some day = among in cc)
  own_given work day (d ∷ ds) once among = by (bytes_eq d.0 work) refl among (own_given work day ds once.1)
    where
      same_day : (a b : ℕ) → Some a ≡ Some b → a ≡ b
      same_day a b h = cc

      here : d.0 ≡ work → d.1 ≡ day → AreOwn work day (d ∷ ds)
      here same is =
          let none : first_day work (rows_touched more ds) ≡ None = none_first work ds (ap (day_among ds) (sym same) ∙ once.0) in
          let own : own_rows d.0 d.1 ≡ own_rows work day = ap₂ own_rows same is in (
            first_both work (own_rows d.0 d.1) (rows_touched more ds)
                ∙ ap₂ (λ (rows : List RefRow) first. option_or (first_day work rows) first) own none
                ∙ or_none (first_day work (own_rows work day)),
            given_both work (own_rows d.0 d.1) (rows_touched more ds)
                ∙ ap₂ (λ (rows behind : List RefRow). rows_given work rows ++ behind) own (nothing_given work (rows_touched more ds) none)
                ∙ append-nil (rows_given work (own_rows work day)),
          )

      there : bytes_eq d.0 work ≡ false → AreOwn work day ds → AreOwn work day (d ∷ ds)
      there other rest =
          let none : first_day work (own_rows d.0 d.1) ≡ None = from_other d.0 work d.1 (held_now more d.0) other in (
            first_both work (own_rows d.0 d.1) (rows_touched more ds)
                ∙ ap₂ option_or none rest.0,
            given_both work (own_rows d.0 d.1) (rows_touched more ds)
                ∙ ap₂ (λ (rows behind : List RefRow). rows ++ behind) (nothing_given work (own_rows d.0 d.1) none) rest.1,
          )

      by : (b : Bool) → bytes_eq d.0 work ≡ b → cond b (Some d.1) (day_among ds work) ≡ Some day → (day_among ds work ≡ Some day → AreOwn work day ds) → AreOwn work day (d ∷ ds)
      by true same among rest = here (bytes_same d.0 work same) (same_day d.1 day among)
      by false other among rest = there other (rest among)

  -- ---- what touched works hand in

  module _ (still : is_legal more ≡ true) where
    abbrev rows : List RefRow
    rows = rows_touched more (touched_works es e)

    abbrev IsOwnGiven : List ℕ → ℕ → Option Known → Type 0
    IsOwnGiven work day held =
        IsHandedIn (held_now es work) held (first_day work (rows_if (rows_from work day) held)) (rows_given work (rows_if (rows_from work day) held))

    own_handed : (work : List ℕ) → (known_now es work ≡ None → known_now more work ≡ None) → (day : ℕ) → touched es e work ≡ Some day
        → IsHandedIn (held_now es work) (held_now more work) (first_day work (own_rows work day)) (rows_given work (own_rows work day))
    own_handed work unknown day among =
        by (known_now more work) refl
      where
        gone : known_now more work ≡ None → HasSameRefs (held_now es work) None
        gone none = subst (λ held. HasSameRefs held None) (sym (held_is es work)) (was_none (known_now es work) refl)
          where
            was_none : (old : Option Known) → known_now es work ≡ old → HasSameRefs (held_old old) None
            was_none None was = tt
            was_none (Some old) was = absurd (lost_is_not work old was none)

        by : (new : Option Known) → known_now more work ≡ new → IsOwnGiven work day (held_now more work)
        by None is = subst (IsOwnGiven work day) (sym (held_is more work ∙ ap held_new is)) (gone is)
        by (Some new) is =
            subst (IsOwnGiven work day) (sym (held_is more work ∙ ap held_new is))
            (from_handed work (carrying (line (laws more)) new)
            (now_steady more work (carrying (line (laws more)) new) still (held_is more work ∙ ap held_new is)) (held_now es work) day
            (early_refs work unknown day new is among))

    touched_handed : (work : List ℕ) → (known_now es work ≡ None → known_now more work ≡ None)
        → IsHandedIn (held_now es work) (held_now more work) (first_day work rows) (rows_given work rows)
    touched_handed work unknown = by (touched es e work) refl
      where
        by : (day : Option ℕ) → touched es e work ≡ day → IsHandedIn (held_now es work) (held_now more work) (first_day work rows) (rows_given work rows)
        by None none =
            subst (λ first. IsHandedIn (held_now es work) (held_now more work) first (rows_given work rows)) (sym (none_first work (touched_works es e) none))
            (unmoved_refs (held_now es work) (held_now more work) (untouched work unknown none))
        by (Some day) some =
            let own : AreOwn work day (touched_works es e) = own_given work day (touched_works es e) (touched_once es e legal) some in
            subst (λ first. IsHandedIn (held_now es work) (held_now more work) first (rows_given work rows)) (sym own.0)
            (subst (IsHandedIn (held_now es work) (held_now more work) (first_day work (own_rows work day))) (sym own.1)
            (own_handed work unknown day some))

    -- ---- where it enacts no act

    touch_leaves : act_of e.command ≡ None → (work : List ℕ) → known_now es work ≡ None → known_now more work ≡ None
    touch_leaves none work unknown =
        entry_next es e work legal ∙ ap (known_next es e work) unknown ∙ none_enacted (front es) work (draft_of e.drafter es) e.command none

    not_among : (work : List ℕ) (ds : List (List ℕ × ℕ)) → is_among work (map (λ d. d.0) ds) ≡ false → day_among ds work ≡ None
    not_among work [] none = refl
    not_among work (d ∷ ds) none =
        ap (λ b. cond b (Some d.1) (day_among ds work))
        (bytes_either d.0 work ∙ none_left (bytes_eq work d.0) (is_among work (map (λ d. d.0) ds)) none)
        ∙ not_among work ds (none_right (bytes_eq work d.0) (is_among work (map (λ d. d.0) ds)) none)

    touched_in : act_of e.command ≡ None → FollowsChange es more (map (λ d. d.0) (touched_works es e)) rows
    touched_in none = record {
      given = λ work. touched_handed work (touch_leaves none work);
      targets = λ target apart.
          unmoved_missing es more legal still target
          (untouched target.work.text (touch_leaves none target.work.text) (not_among target.work.text (touched_works es e) apart));
    }

    -- ---- where it enacts one

    module _ (act : Act) (enacts : e.command ≡ Enact act) (accepted : IsAccepted es e) where
      enact_concerns : work_entered es (law_of es e) ≡ Some act.work
      enact_concerns = ap (λ (command : Command). work_entered es (law_command (draft_of e.drafter es) command)) enacts

      enact_leaves : (work : List ℕ) → bytes_eq act.work work ≡ false → known_now es work ≡ None → known_now more work ≡ None
      enact_leaves work other unknown =
          entry_apart es e work (ap (is_named work) enact_concerns ∙ other) ∙ ap (option_map (up_to (front more))) unknown

      abbrev made : List RefRow
      made = rows_if (rows_made act.work) (held_now more act.work)

      made_other : (own work : List ℕ) (known : Option Known) → bytes_eq own work ≡ false → first_day work (rows_if (rows_made own) known) ≡ None
      made_other own work None other = refl
      made_other own work (Some known) other = first_other own work (rows_made own known) (made_of own known) other

      abbrev IsGiven : List ℕ → List RefRow → Type 0
      IsGiven work rows = IsHandedIn (held_now es work) (held_now more work) (first_day work rows) (rows_given work rows)

      abbrev held : Known
      held = carrying (line (laws more)) (newly_known (front es + 1) act)

      held_made : held_now more act.work ≡ Some held
      held_made = held_is more act.work ∙ ap held_new (enact_known es e act legal accepted enacts)

      own_made : IsGiven act.work made
      own_made =
          subst (λ known. IsHandedIn (held_now es act.work) known (first_day act.work (rows_if (rows_made act.work) known)) (rows_given act.work (rows_if (rows_made act.work) known)))
          (sym held_made)
          (made_handed act.work held (now_steady more act.work held still held_made) (held_now es act.work))

      own_all : IsGiven act.work (made ++ rows)
      own_all =
          let none : first_day act.work rows ≡ None = none_first act.work (touched_works es e) (itself_untouched es e act enacts legal accepted) in
          subst (λ first. IsHandedIn (held_now es act.work) (held_now more act.work) first (rows_given act.work (made ++ rows)))
          (sym (first_both act.work made rows ∙ ap (option_or (first_day act.work made)) none ∙ or_none (first_day act.work made)))
          (subst (IsHandedIn (held_now es act.work) (held_now more act.work) (first_day act.work made))
          (sym (given_both act.work made rows
          ∙ ap (λ behind. rows_given act.work made ++ behind) (nothing_given act.work rows none)
          ∙ append-nil (rows_given act.work made))) own_made)

      other_all : (work : List ℕ) → bytes_eq act.work work ≡ false → IsGiven work (made ++ rows)
      other_all work other =
          let none : first_day work made ≡ None = made_other act.work work (held_now more act.work) other in
          subst (λ first. IsHandedIn (held_now es work) (held_now more work) first (rows_given work (made ++ rows)))
          (sym (first_both work made rows ∙ ap (λ first. option_or first (first_day work rows)) none))
          (subst (IsHandedIn (held_now es work) (held_now more work) (first_day work rows))
          (sym (given_both work made rows ∙ ap (λ first. first ++ rows_given work rows) (nothing_given work made none)))
          (touched_handed work (enact_leaves work other)))

      all_given : (work : List ℕ) → IsGiven work (made ++ rows)
      all_given work = by (bytes_eq act.work work) refl
        where
          by : (t : Bool) → bytes_eq act.work work ≡ t → IsGiven work (made ++ rows)
          by true same = subst (λ w. IsGiven w (made ++ rows)) (bytes_same act.work work same) own_all
          by false other = other_all work other

      enacted_in : FollowsChange es more (act.work ∷ map (λ d. d.0) (touched_works es e)) (made ++ rows)
      enacted_in = record {
        given = all_given;
        targets = λ target apart.
            let others : is_among target.work.text (map (λ d. d.0) (touched_works es e)) ≡ false =
            none_right (bytes_eq target.work.text act.work) (is_among target.work.text (map (λ d. d.0) (touched_works es e))) apart in
            let other : bytes_eq act.work target.work.text ≡ false =
            bytes_either act.work target.work.text
            ∙ none_left (bytes_eq target.work.text act.work) (is_among target.work.text (map (λ d. d.0) (touched_works es e))) apart in
            unmoved_missing es more legal still target
            (untouched target.work.text (enact_leaves target.work.text other) (not_among target.work.text (touched_works es e) others));
      }

-- ---- all of it

-- an act that a command enacts
enacts_act : (command : Command) (act : Act) → act_of command ≡ Some act → command ≡ Enact act
enacts_act (Enact other) act is = let both : Some other ≡ Some act = is in let same : other ≡ act = cc in ap Enact same
enacts_act (Record work mods) act is = absurd (let no : None ≡ Some act = is in cc)
enacts_act (Correct id body) act is = absurd (let no : None ≡ Some act = is in cc)
enacts_act (Withdraw id) act is = absurd (let no : None ≡ Some act = is in cc)
enacts_act (Restore id) act is = absurd (let no : None ≡ Some act = is in cc)
enacts_act (DraftAdd work body) act is = absurd (let no : None ≡ Some act = is in cc)
enacts_act (DraftDrop item) act is = absurd (let no : None ≡ Some act = is in cc)
enacts_act (File work seen) act is = absurd (let no : None ≡ Some act = is in cc)

entry_in : (es : List Entry) (e : Entry) → is_legal es ≡ true → is_legal (es ++ e ∷ []) ≡ true → IsAccepted es e → (act : Option Act) → act_of e.command ≡ act
    → FollowsChange es (es ++ e ∷ []) (work_enacted act ++ map (λ (t : List ℕ × ℕ). t.0) (touched_works es e))
    (rows_enacted (es ++ e ∷ []) act ++ rows_touched (es ++ e ∷ []) (touched_works es e))
entry_in es e legal still accepted None none = touched_in es e legal still none
entry_in es e legal still accepted (Some act) is = enacted_in es e legal still act (enacts_act e.command act is) accepted

-- what is handed in by an entry that is accepted behind legal ones
pub accepted_hands_in : (es : List Entry) (e : Entry) → is_legal es ≡ true → IsAccepted es e → FollowsChange es (es ++ e ∷ []) (moved_by es e) (rows_of_entry es e)
unfolding moved_by rows_of_entry
accepted_hands_in es e legal accepted =
    entry_in es e legal (legal_more es e ∙ and_true (is_legal es) (is_accepted e.law (verdict es e.drafter e.request e.command)) legal accepted) accepted (act_of e.command) refl

-- the same where all are legal
pub entry_hands_in : (es : List Entry) (e : Entry) → is_legal (es ++ e ∷ []) ≡ true → FollowsChange es (es ++ e ∷ []) (moved_by es e) (rows_of_entry es e)
entry_hands_in es e legal =
    let both = sym (legal_more es e) ∙ legal in
    accepted_hands_in es e (left_true (is_legal es) (is_accepted e.law (verdict es e.drafter e.request e.command)) both)
    (right_true (is_legal es) (is_accepted e.law (verdict es e.drafter e.request e.command)) both)
