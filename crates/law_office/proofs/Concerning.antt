-- The work that an entry concerns or enacts: what is kept of it, and what is made of it.
use Rattle.std.proofs.Common.{◌≡◌, ◌∙◌, sym, ap, subst, refl, ℕ, true, false, is_some, List, [], ◌∷◌, ◌++◌, Option, Some, None, option_map}
use Rattle.law_register.specs.declared.law.act.Act.{Act}
use Rattle.law_register.specs.declared.law.command.Command.{Command}
use Rattle.law_register.specs.declared.law.command.Command.TheVariants.{Enact, Record, Correct, Withdraw, Restore, DraftAdd, DraftDrop, File}
use Rattle.law_register.specs.declared.register.entry.Entry.{Entry}
use Rattle.law_register.specs.declared.register.known.Known.{Known}
use Rattle.law_register.specs.declared.register.known.KnownMod.{KnownMod}
use Rattle.law_register.specs.Answer.Soundness.{IsSound}
use Rattle.law_register.specs.Answer.Touched.{touched_day, work_entered}
use Rattle.law_register.specs.Provisions.Carrying.{carrying, held_now}
use Rattle.law_register.specs.Provisions.Line.{line}
use Rattle.law_register.specs.Provisions.Looking.{names_any}
use Rattle.law_register.specs.Provisions.Touching.{is_concerned}
use Rattle.law_register.specs.Register.Concerns.{is_named}
use Rattle.law_register.specs.Register.Drafts.{draft_of}
use Rattle.law_register.specs.Register.Indexes.{act_of}
use Rattle.law_register.specs.Register.KnownNext.{known_now}
use Rattle.law_register.specs.Register.LawList.{front, law_command, law_of, laws}
use Rattle.law_register.specs.Register.Verdicts.{is_legal}
use Rattle.law_register.proofs.CarryingNothing.{known_at_alone}
use Rattle.law_register.proofs.Grown.{enact_known, grown_sound}
use Rattle.law_register.proofs.Next.{now_known}
use Rattle.law_register.proofs.Puts.{bytes_are, bytes_same}
use Rattle.source_provisions.proofs.Carrying.{unnamed_carry_nothing}
use Rattle.source_provisions.proofs.Enacted.{not_known_yet}
use Rattle.source_provisions.proofs.HeldNow.{held_is}
use Rattle.version_cache.specs.Works.{IsFor, IsForIf, WorkValue, work_of}
use Rattle.law_office.specs.Movements.{IsAccepted, IsMadeIf}
use Rattle.law_office.specs.Tables.{AreTablesOf, Kept, Matches}
use Rattle.law_office.proofs.KeptOf.{kept_named, now_named}
use Rattle.law_office.proofs.Moved.{Enacts, enacting_touches_none, held_none, newly_enacted, not_held}
use Rattle.law_office.proofs.Recorded.{entered_known}

-- an act that a command enacts
pub enacts : (c : Command) (act : Act) → Some act ≡ act_of c → c ≡ Enact act
enacts (Enact other) act is = let same : act ≡ other = cc is in ap Enact (sym same)
enacts (Record work mods) act is = absurd (let no : Some act ≡ None = is in cc)
enacts (Correct id body) act is = absurd (let no : Some act ≡ None = is in cc)
enacts (Withdraw id) act is = absurd (let no : Some act ≡ None = is in cc)
enacts (Restore id) act is = absurd (let no : Some act ≡ None = is in cc)
enacts (DraftAdd work body) act is = absurd (let no : Some act ≡ None = is in cc)
enacts (DraftDrop item) act is = absurd (let no : Some act ≡ None = is in cc)
enacts (File work seen) act is = absurd (let no : Some act ≡ None = is in cc)

-- the work that is concerned is the one that is entered
pub entered : (es : List Entry) (e : Entry) (w : List ℕ) → is_concerned es e w ≡ true → work_entered es (law_of es e) ≡ Some w
entered es e w own = by (work_entered es (law_of es e)) own
  where
    by : (named : Option (List ℕ)) → is_named w named ≡ true → named ≡ Some w
    by None own = absurd (let no : false ≡ true = own in cc)
    by (Some work) own = ap Some (bytes_same work w own)

pub nothing : (k : Option WorkValue) → is_some k ≡ false → k ≡ None
nothing None none = refl
nothing (Some one) some = absurd (let no : true ≡ false = some in cc)

-- the work that it enacts, and the one that it concerns, as they are known with it
pub enacted_known : (es : List Entry) (e : Entry) (act : Act) (known : Known) → e.command ≡ Enact act → known_now (es ++ e ∷ []) act.work ≡ Some known
    → (known_now (es ++ e ∷ []) known.act.work ≡ Some known) × (is_concerned es e known.act.work ≡ true)
enacted_known es e act known enacts is =
    let named : known.act.work ≡ act.work = now_named (es ++ e ∷ []) act.work known is in (
      subst (λ (w : List ℕ). known_now (es ++ e ∷ []) w ≡ Some known) (sym named) is,
      ap (λ (command : Command). is_named known.act.work (work_entered es (law_command (draft_of e.drafter es) command))) enacts
          ∙ bytes_are act.work known.act.work (sym named),
    )

pub concerned_known : (es : List Entry) (e : Entry) (w : List ℕ) (one : WorkValue) (known : Known) → IsForIf (held_now es w) one
    → Some w ≡ work_entered es (law_of es e) → known_now (es ++ e ∷ []) one.known.act.work ≡ Some known
    → (known_now (es ++ e ∷ []) known.act.work ≡ Some known) × (is_concerned es e known.act.work ≡ true)
concerned_known es e w one known for entered is =
    let here : known_now (es ++ e ∷ []) w ≡ Some known = subst (λ (v : List ℕ). known_now (es ++ e ∷ []) v ≡ Some known) (kept_named es w one for) is in
    let named : known.act.work ≡ w = now_named (es ++ e ∷ []) w known here in (
      subst (λ (v : List ℕ). known_now (es ++ e ∷ []) v ≡ Some known) (sym named) here,
      ap (is_named known.act.work) (sym entered) ∙ bytes_are w known.act.work (sym named),
    )

-- a work of which nothing is kept is entered by what enacts it alone
pub kept_if_entered : (es : List Entry) (e : Entry) (kept : Kept) (w : List ℕ) → is_legal es ≡ true → IsAccepted es e → AreTablesOf es kept
    → Some w ≡ work_entered es (law_of es e) → None ≡ act_of e.command → None ≡ kept w → ⊥
kept_if_entered es e kept w legal accepted right entered none unkept =
    entered_known es e legal accepted w (sym entered) (sym none) (not_held es w (subst (Matches (held_now es w)) (sym unkept) (right w)))

module _ (es : List Entry) (e : Entry) (legal : is_legal es ≡ true) (kept : Kept) (right : AreTablesOf es kept) (c : Known)
    (now : known_now (es ++ e ∷ []) c.act.work ≡ Some c) where
  abbrev after : List Entry
  after = es ++ e ∷ []

  -- one of which nothing is kept is enacted by the entry
  pub is_enacted : kept c.act.work ≡ None → Enacts e c.act.work
  is_enacted none = newly_enacted es e c.act.work c legal (not_held es c.act.work (subst (Matches (held_now es c.act.work)) none (right c.act.work))) now

  pub none_touched : kept c.act.work ≡ None → None ≡ touched_day es e
  none_touched none = sym (enacting_touches_none es e c.act.work (is_enacted none))

  module _ (accepted : IsAccepted es e) where
    -- where something is kept of it, the entry enacts none
    pub none_made : is_concerned es e c.act.work ≡ true → (one : WorkValue) → kept c.act.work ≡ Some one → IsMadeIf after (act_of e.command) None
    none_made own one is = by e.command refl
      where
        by : (command : Command) → e.command ≡ command → IsMadeIf after (act_of command) None
        by (Enact act) enacts =
            absurd (subst (λ (held : Option Known). Matches held (Some one)) unknown (subst (Matches (held_now es c.act.work)) is (right c.act.work)))
          where
            own_act : (named : Option (List ℕ)) → named ≡ Some act.work → is_named c.act.work named ≡ true → act.work ≡ c.act.work
            own_act None none named = absurd (let no : None ≡ Some act.work = none in cc)
            own_act (Some work) some named = let same : work ≡ act.work = cc in sym same ∙ bytes_same work c.act.work named

            same : c.act.work ≡ act.work
            same =
                sym (own_act (work_entered es (law_of es e)) (ap (λ (command : Command). work_entered es (law_command (draft_of e.drafter es) command)) enacts) own)

            unknown : held_now es c.act.work ≡ None
            unknown = held_none es c.act.work (ap (known_now es) same ∙ now_known es act.work ∙ not_known_yet es e act e.law accepted enacts)
        by (Record work mods) enacts = tt
        by (Correct id body) enacts = tt
        by (Withdraw id) enacts = tt
        by (Restore id) enacts = tt
        by (DraftAdd work body) enacts = tt
        by (DraftDrop item) enacts = tt
        by (File work seen) enacts = tt

    pub none_made_of : is_concerned es e c.act.work ≡ true → is_some (kept c.act.work) ≡ true → IsMadeIf after (act_of e.command) None
    none_made_of own some = by (kept c.act.work) refl some
      where
        by : (k : Option WorkValue) → kept c.act.work ≡ k → is_some k ≡ true → IsMadeIf after (act_of e.command) None
        by None none some = absurd (let no : false ≡ true = some in cc)
        by (Some one) is some = none_made own one is

    -- else it is bare
    pub bare : kept c.act.work ≡ None → c.mods ≡ []
    bare none =
        let one = is_enacted none in
        ap mods_in (sym now ∙ ap (known_now after) (sym one.named) ∙ enact_known es e one.act legal accepted one.is)
      where
        mods_in : Option Known → List KnownMod
        mods_in None = []
        mods_in (Some k) = k.mods

    pub sound : IsSound c
    sound = grown_sound es e c.act.work c legal accepted now

    held_itself : kept c.act.work ≡ None → held_now after c.act.work ≡ Some c
    held_itself none =
        held_is after c.act.work ∙ ap (option_map (carrying (line (laws after)))) now
        ∙ ap Some (unnamed_carry_nothing (line (laws after)) c (unnamed c (bare none)) ∙ known_at_alone after c.act.work (front after) c now)
      where
        unnamed : (k : Known) → k.mods ≡ [] → names_any k ≡ false
        unnamed k none = ap (λ (ms : List KnownMod). names_any (record k { mods = ms })) none

    pub is_made : kept c.act.work ≡ None → (name : List ℕ) (known : Known) (made : WorkValue) → name ≡ c.act.work → known ≡ c → made ≡ work_of known → IsFor known made
        → IsMadeIf after (act_of e.command) (Some (name, made))
    is_made none name known made named same is for =
        let one = is_enacted none in
        subst (λ (act : Option Act). IsMadeIf after act (Some (name, made))) (sym (ap act_of one.is))
        (record {
          held = c;
          name = named ∙ sym one.named;
          known = ap (held_now after) one.named ∙ held_itself none;
          made = is ∙ ap work_of same;
          right = subst (λ (k : Known). IsFor k made) same for;
        })
