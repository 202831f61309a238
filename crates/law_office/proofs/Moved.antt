-- What is kept of works as an entry moves them in line, one after another.
use Rattle.std.proofs.Common.{◌≡◌, ◌≢◌, ◌∙◌, sym, ap, subst, refl, ℕ, ◌+◌, ◌-◌, ◌<◌, Bool, true, false, cond, ◌||◌, is_some, List, [], ◌∷◌, ◌++◌, drop, get_or, length, map, take, Option, Some, None, IfSome, option_map, OnOk, Result, Ok, Err, arith}
use Rattle.std.proofs.lemmas.List.{append_assoc, drop_more, take_rest}
use Rattle.std.proofs.lemmas.List.Sums.{sum_by-cons}
use Rattle.std.specs.List.{AllByRecursion, list_any, sum_by}
use Rattle.std.specs.Option.{option_map_or}
use Rattle.std.specs.Str.{bytes_eq}
use Rattle.law_register.specs.declared.law.act.Act.{Act}
use Rattle.law_register.specs.declared.law.command.Command.{Command}
use Rattle.law_register.specs.declared.law.command.Command.TheVariants.{Enact, Record, Correct, Withdraw, Restore, DraftAdd, DraftDrop, File}
use Rattle.law_register.specs.declared.answer.question.Reading.TheVariants.{Force}
use Rattle.law_register.specs.declared.register.entry.Entry.{Entry}
use Rattle.law_register.specs.declared.register.known.Known.{Known}
use Rattle.law_register.specs.Answer.Renewing.{both_costs, costs_from, costs_touched}
use Rattle.law_register.specs.Answer.Touched.{day_among, day_entered, touched_day, with_day}
use Rattle.law_register.specs.Provisions.Carrying.{carrying, held_now}
use Rattle.law_register.specs.Provisions.Depending.{depends}
use Rattle.law_register.specs.Provisions.Line.{IsLine, line, work_in}
use Rattle.law_register.specs.Provisions.Touching.{WorkTouched, days_told, enacts, is_concerned, touched, touched_along, touched_works}
use Rattle.law_register.specs.Register.Drafts.{draft_of}
use Rattle.law_register.specs.Register.Indexes.{act_of}
use Rattle.law_register.specs.Register.KnownIds.{enacted_by}
use Rattle.law_register.specs.Register.KnownNext.{known_now, up_to}
use Rattle.law_register.specs.Register.LawList.{front, law_command, laws}
use Rattle.law_register.specs.Register.Verdicts.{is_legal}
use Rattle.law_register.proofs.Next.{entry_apart}
use Rattle.law_register.proofs.Puts.{bytes_are, bytes_either, bytes_same}
use Rattle.source_provisions.proofs.BeforeTouched.{is_known, known_along, newly}
use Rattle.source_provisions.proofs.Enacted.{itself_untouched}
use Rattle.source_provisions.proofs.HeldNow.{held_is, known_still, same_act}
use Rattle.version_cache.specs.Works.{AreRevisionsOf, AreRightEarly, AreRightEarlyIf, IsFor, IsForIf, WorkRevisionValue, WorkValue, renewed, renewed_if, revisions_of, work_revision_of}
use Rattle.held_provisions.specs.Sources.{AreSources, IsKeptFor, IsOfLine}
use Rattle.law_office.specs.declared.line.DatedWork.{DatedWork}
use Rattle.law_office.specs.Asked.{is_that}
use Rattle.law_office.specs.Movements.{AreMoved, AreMoving, Enacted, FitOnce, IsConcernedThen, IsAccepted, IsMadeIf, IsMove, IsRevisedAs, Revised, StandAhead, costs_told, days_at, days_moved, revision_among, then_of}
use Rattle.law_office.specs.Tables.{AreTablesOf, Kept, Matches, with_enacted}
use Rattle.law_office.proofs.After.{still}
use Rattle.law_office.proofs.KeptOf.{of_kept}
use Rattle.law_office.proofs.HasSources.{of_line, right_for, source_held, there_of}

-- ---- lists of works

-- a work that is one of these, or of those behind one of them
later : (work w : List ℕ) (works : List (List ℕ)) → list_any (λ (other : List ℕ). bytes_eq other w) works ≡ true
    → list_any (λ (other : List ℕ). bytes_eq other w) (work ∷ works) ≡ true
later work w works is = by (bytes_eq work w)
  where
    by : (b : Bool) → (b || list_any (λ (other : List ℕ). bytes_eq other w) works) ≡ true
    by true = refl
    by false = is

first : (w : List ℕ) (works : List (List ℕ)) → list_any (λ (other : List ℕ). bytes_eq other w) (w ∷ works) ≡ true
first w works = ap (λ (b : Bool). b || list_any (λ (other : List ℕ). bytes_eq other w) works) (bytes_are w w refl)

-- ---- revisions with one more

among_more : (revised : Revised) (w : List ℕ) (r : WorkRevisionValue) (v : List ℕ) → bytes_eq w v ≡ false
    → revision_among (revised ++ (w, r) ∷ []) v ≡ revision_among revised v
among_more [] w r v other = ap (λ (b : Bool). cond b (Some r) None) other
among_more (one ∷ others) w r v other = ap (cond (bytes_eq one.0 v) (Some one.1)) (among_more others w r v other)

among_last : (revised : Revised) (w : List ℕ) (r : WorkRevisionValue) → revision_among revised w ≡ None
    → revision_among (revised ++ (w, r) ∷ []) w ≡ Some r
among_last [] w r none = ap (λ (b : Bool). cond b (Some r) None) (bytes_are w w refl)
among_last (one ∷ others) w r none = by (bytes_eq one.0 w) none (among_last others w r)
  where
    by : (b : Bool) → cond b (Some one.1) (revision_among others w) ≡ None → (revision_among others w ≡ None → revision_among (others ++ (w, r) ∷ []) w ≡ Some r)
        → cond b (Some one.1) (revision_among (others ++ (w, r) ∷ []) w) ≡ Some r
    by true found rest = absurd (let no : Some one.1 ≡ None = found in cc)
    by false none rest = rest none

-- one that is not revised is no other
not_revised : (one : List ℕ × WorkRevisionValue) (others : Revised) (w : List ℕ) → revision_among (one ∷ others) w ≡ None
    → (bytes_eq one.0 w ≡ false) × (revision_among others w ≡ None)
not_revised one others w none = by (bytes_eq one.0 w) refl none
  where
    by : (b : Bool) → bytes_eq one.0 w ≡ b → cond b (Some one.1) (revision_among others w) ≡ None → (bytes_eq one.0 w ≡ false) × (revision_among others w ≡ None)
    by true same found = absurd (let no : Some one.1 ≡ None = found in cc)
    by false other none = (other, none)

any_more : (others : Revised) (w : List ℕ) (r : WorkRevisionValue) (v : List ℕ) → bytes_eq w v ≡ false
    → list_any (λ (other : List ℕ × WorkRevisionValue). bytes_eq other.0 v) others ≡ false
    → list_any (λ (other : List ℕ × WorkRevisionValue). bytes_eq other.0 v) (others ++ (w, r) ∷ []) ≡ false
any_more [] w r v other none = ap (λ (b : Bool). b || false) other
any_more (one ∷ others) w r v other none = by (bytes_eq one.0 v) none (any_more others w r v other)
  where
    by : (b : Bool) → (b || list_any (λ (other : List ℕ × WorkRevisionValue). bytes_eq other.0 v) others) ≡ false
        → (list_any (λ (other : List ℕ × WorkRevisionValue). bytes_eq other.0 v) others ≡ false
        → list_any (λ (other : List ℕ × WorkRevisionValue). bytes_eq other.0 v) (others ++ (w, r) ∷ []) ≡ false)
        → (b || list_any (λ (other : List ℕ × WorkRevisionValue). bytes_eq other.0 v) (others ++ (w, r) ∷ [])) ≡ false
    by true some rest = some
    by false none rest = rest none

fit_more : (revised : Revised) (kept : Kept) (w : List ℕ) (r : WorkRevisionValue) (old : WorkValue) → FitOnce revised kept → revision_among revised w ≡ None
    → kept w ≡ Some old → AreRevisionsOf old r.tables → FitOnce (revised ++ (w, r) ∷ []) kept
fit_more [] kept w r old fit none is fits = (refl, subst (λ (k : Option WorkValue). IfSome k (λ one. AreRevisionsOf one r.tables)) (sym is) fits, tt)
fit_more (one ∷ others) kept w r old fit none is fits =
    let apart = not_revised one others w none in
    (any_more others w r one.0 (bytes_either w one.0 ∙ apart.0) fit.0, fit.1, fit_more others kept w r old fit.2 apart.1 is fits)

all_more : {A : Type 0} (P : A → Type 0) (xs : List A) (x : A) → AllByRecursion P xs → P x → AllByRecursion P (xs ++ x ∷ [])
all_more P [] x all one = (one, tt)
all_more P (y ∷ ys) x all one = (all.0, all_more P ys x all.1 one)

days_more : (revised : Revised) (w : List ℕ) (r : WorkRevisionValue)
    → days_moved (revised ++ (w, r) ∷ []) ≡ days_moved revised ++ with_day (Some w) (option_map (λ both. both.0.touched) r.tables)
days_more [] w r = last (with_day (Some w) (option_map (λ both. both.0.touched) r.tables))
  where
    last : (xs : List (List ℕ × ℕ)) → xs ++ [] ≡ xs
    last [] = refl
    last (x ∷ xs) = ap (λ ys. x ∷ ys) (last xs)
days_more (one ∷ others) w r =
    let day = with_day (Some one.0) (option_map (λ both. both.0.touched) one.1.tables) in
    ap (λ (ds : List (List ℕ × ℕ)). day ++ ds) (days_more others w r)
    ∙ sym (append_assoc day (days_moved others) (with_day (Some w) (option_map (λ both. both.0.touched) r.tables)))

-- the days of a revision are those from which on it was made
day_of : (old : WorkValue) (held : Known) (day : Option ℕ) → option_map (λ both. both.0.touched) (revisions_of old held day) ≡ day
day_of old held None = refl
day_of old held (Some day) = refl

-- ---- what is kept then of a work that is not revised, and of one that is enacted

is_for_it : (after : List Entry) (act : Option Act) (new : List ℕ × WorkValue) → IsMadeIf after act (Some new) → IsForIf (held_now after new.0) new.1
is_for_it after None new made = absurd made
is_for_it after (Some act) new made =
    subst (λ (name : List ℕ). IsForIf (held_now after name) new.1) (sym made.name)
    (subst (λ (held : Option Known). IsForIf held new.1) (sym made.known) made.right)

made_or : (after : List Entry) (e : Entry) (enacted : Enacted) (w : List ℕ) (k : Option WorkValue) → IsMadeIf after (act_of e.command) enacted
    → Matches (held_now after w) k → Matches (held_now after w) (with_enacted enacted w k)
made_or after e None w k made right = right
made_or after e (Some new) w k made right = by (bytes_eq new.0 w) refl
  where
    by : (b : Bool) → bytes_eq new.0 w ≡ b → Matches (held_now after w) (cond b (Some new.1) k)
    by true same = subst (λ (name : List ℕ). IsForIf (held_now after name) new.1) (bytes_same new.0 w same) (is_for_it after (act_of e.command) new made)
    by false other = right

still_kept : (enacted : Enacted) (revised : Revised) (kept : Kept) (w : List ℕ) → revision_among revised w ≡ None
    → then_of enacted revised kept w ≡ with_enacted enacted w (kept w)
still_kept enacted revised kept w none =
    ap (λ (r : Option WorkRevisionValue). with_enacted enacted w (option_map (λ one. renewed_if one r) (kept w))) none
    ∙ ap (with_enacted enacted w) (still (kept w))

-- the work that an entry enacts
pub record Enacts (e : Entry) (w : List ℕ) : Type 0 where
  pub act : Act
  pub is : e.command ≡ Enact act
  pub named : act.work ≡ w

enacts_act : (es : List Entry) (e : Entry) (w : List ℕ) → enacts es e w ≡ true → Enacts e w
enacts_act es e w is = by e.command refl is
  where
    by : (c : Command) → e.command ≡ c → list_any (λ command. is_some (enacted_by w command)) (law_command (draft_of e.drafter es) c) ≡ true → Enacts e w
    by (Enact act) command is = here (bytes_eq act.work w) refl is
      where
        here : (b : Bool) → bytes_eq act.work w ≡ b → (is_some (cond b (Some act) None) || false) ≡ true → Enacts e w
        here true same is = record { act = act; is = command; named = bytes_same act.work w same }
        here false other is = absurd (let no : false ≡ true = is in cc)
    by (Record work mods) command is = absurd (let no : false ≡ true = is in cc)
    by (Correct id body) command is = absurd (let no : false ≡ true = is in cc)
    by (Withdraw id) command is = absurd (let no : false ≡ true = is in cc)
    by (Restore id) command is = absurd (let no : false ≡ true = is in cc)
    by (DraftAdd work body) command is = absurd (let no : false ≡ true = is in cc)
    by (DraftDrop item) command is = absurd (let no : false ≡ true = is in cc)
    by (File work seen) command is = absurd (let no : false ≡ true = is in cc)

-- a work that is known with an entry alone is enacted by it, which touches no day of its own
pub newly_enacted : (es : List Entry) (e : Entry) (w : List ℕ) (new : Known) → is_legal es ≡ true → known_now es w ≡ None
    → known_now (es ++ e ∷ []) w ≡ Some new → Enacts e w
newly_enacted es e w new legal none known = enacts_act es e w (newly es e legal Force 0 w new none known)

pub enacting_touches_none : (es : List Entry) (e : Entry) (w : List ℕ) → Enacts e w → touched_day es e ≡ None
unfolding touched_day
enacting_touches_none es e w one = ap (λ (c : Command). day_entered es (law_command (draft_of e.drafter es) c)) one.is

pub not_held : (es : List Entry) (w : List ℕ) → held_now es w ≡ None → known_now es w ≡ None
not_held es w none = by (known_now es w) (sym (held_is es w) ∙ none)
  where
    by : (known : Option Known) → option_map (carrying (line (laws es))) known ≡ None → known ≡ None
    by None is = refl
    by (Some known) is = absurd (let no : Some (carrying (line (laws es)) known) ≡ None = is in cc)

pub held_none : (es : List Entry) (w : List ℕ) → known_now es w ≡ None → held_now es w ≡ None
held_none es w none = held_is es w ∙ ap (option_map (carrying (line (laws es)))) none

module _ (es : List Entry) (e : Entry) (legal : is_legal es ≡ true) (enacted : Enacted) (made : IsMadeIf (es ++ e ∷ []) (act_of e.command) enacted) where
  abbrev after : List Entry
  after = es ++ e ∷ []

  -- what is kept then of a work that was not known
  pub not_known_then : (w : List ℕ) → known_now es w ≡ None → Matches (held_now after w) (with_enacted enacted w None)
  not_known_then w none = by (known_now after w) refl
    where
      by : (new : Option Known) → known_now after w ≡ new → Matches (held_now after w) (with_enacted enacted w None)
      by None unknown = made_or after e enacted w None made (held_none after w unknown)
      by (Some new) known = got (enacts_act es e w (newly es e legal Force 0 w new none known))
        where
          got : Enacts e w → Matches (held_now after w) (with_enacted enacted w None)
          got one = there enacted (subst (λ (act : Option Act). IsMadeIf after act enacted) (ap act_of one.is) made)
            where
              there : (new : Enacted) → IsMadeIf after (Some one.act) new → Matches (held_now after w) (with_enacted new w None)
              there None made = absurd made
              there (Some new) made =
                  subst (λ (b : Bool). Matches (held_now after w) (cond b (Some new.1) None)) (sym (bytes_are new.0 w (made.name ∙ one.named)))
                  (subst (λ (held : Option Known). IsForIf held new.1) (sym made.known ∙ ap (held_now after) one.named) made.right)

  -- an entry that neither concerns nor touches a work leaves what is kept of it
  pub untouched_then : ((work : List ℕ) (one : WorkValue) → IsForIf (held_now es work) one → is_concerned es e work ≡ false → touched es e work ≡ None
      → IsForIf (held_now after work) one)
      → (kept : Kept) → AreTablesOf es kept → (revised : Revised) (w : List ℕ) → revision_among revised w ≡ None → is_concerned es e w ≡ false
      → touched es e w ≡ None → Matches (held_now after w) (then_of enacted revised kept w)
  untouched_then stays kept right revised w none apart quiet =
      subst (Matches (held_now after w)) (sym (still_kept enacted revised kept w none)) (made_or after e enacted w (kept w) made (by (kept w) (right w)))
    where
      by : (k : Option WorkValue) → Matches (held_now es w) k → Matches (held_now after w) k
      by None unknown = held_none after w (entry_apart es e w apart ∙ ap (option_map (up_to (front after))) (not_held es w unknown))
      by (Some one) for = stays w one for apart quiet

  -- one of which nothing is kept
  pub not_kept_then : (kept : Kept) → AreTablesOf es kept → (revised : Revised) (w : List ℕ) → revision_among revised w ≡ None → kept w ≡ None
      → Matches (held_now after w) (then_of enacted revised kept w)
  not_kept_then kept right revised w none nothing =
      subst (Matches (held_now after w)) (sym (still_kept enacted revised kept w none ∙ ap (with_enacted enacted w) nothing))
      (not_known_then w (not_held es w (subst (Matches (held_now es w)) nothing (right w))))

-- the act of a work of which something is kept stays
pub act_stays : (es : List Entry) (e : Entry) → is_legal es ≡ true → (name : List ℕ) (one : WorkValue) → IsForIf (held_now es name) one
    → IsOfLine (line (laws (es ++ e ∷ []))) name one
act_stays es e legal name one for =
    let got = of_kept es name one for in
    let new = known_still es e name got.known legal got.is in
    record {
      known = new.0;
      there = there_of (es ++ e ∷ []) name new.0 new.1;
      act = got.alike.act ∙ same_act es e legal name got.known new.0 got.is new.1;
    }

-- ---- steps

module _ (es : List Entry) (e : Entry) (kept : Kept) (enacted : Enacted) (revised : Revised) (w : List ℕ) (to_come : List (List ℕ))
    (moving : AreMoving es e kept enacted revised (w ∷ to_come)) where
  abbrev then_entries : List Entry
  then_entries = es ++ e ∷ []

  pub not_yet : revision_among revised w ≡ None
  not_yet = moving.still w (first w to_come)

  days_now : (day : Option ℕ) → touched es e w ≡ day
      → (days_moved revised ++ with_day (Some w) day) ++ days_at (touched_works es e) to_come ≡ touched_works es e
  days_now day is =
      append_assoc (days_moved revised) (with_day (Some w) day) (days_at (touched_works es e) to_come)
      ∙ ap (λ (d : Option ℕ). days_moved revised ++ (with_day (Some w) d ++ days_at (touched_works es e) to_come)) (sym is)
      ∙ moving.days

  right_else : (v : List ℕ) → list_any (λ (other : List ℕ). bytes_eq other v) to_come ≡ false → bytes_eq w v ≡ false
      → Matches (held_now then_entries v) (then_of enacted revised kept v)
  right_else v none other = moving.right v (ap (λ (b : Bool). b || list_any (λ (x : List ℕ). bytes_eq x v) to_come) other ∙ none)

  -- a work that does not move
  pub rests : touched es e w ≡ None → Matches (held_now then_entries w) (then_of enacted revised kept w) → AreMoving es e kept enacted revised to_come
  rests quiet here = record {
    fit = moving.fit;
    moves = moving.moves;
    made = moving.made;
    days = sym (ap (λ (ds : List (List ℕ × ℕ)). ds ++ days_at (touched_works es e) to_come) (nothing_more (days_moved revised))) ∙ days_now None quiet;
    right = λ v none. by v none (bytes_eq w v) refl;
    still = λ v is. moving.still v (later w v to_come is);
  }
    where
      nothing_more : (xs : List (List ℕ × ℕ)) → xs ++ [] ≡ xs
      nothing_more [] = refl
      nothing_more (x ∷ xs) = ap (λ ys. x ∷ ys) (nothing_more xs)

      by : (v : List ℕ) → list_any (λ (other : List ℕ). bytes_eq other v) to_come ≡ false → (b : Bool) → bytes_eq w v ≡ b
          → Matches (held_now then_entries v) (then_of enacted revised kept v)
      by v none true same = subst (λ (x : List ℕ). Matches (held_now then_entries x) (then_of enacted revised kept x)) (bytes_same w v same) here
      by v none false other = right_else v none other

  -- a work that is revised
  pub moves_on : (once : list_any (λ (other : List ℕ). bytes_eq other w) to_come ≡ false) (old : WorkValue) (held : Known) (day : Option ℕ) (r : WorkRevisionValue)
      → kept w ≡ Some old → held_now then_entries w ≡ Some held → day ≡ touched es e w → r ≡ work_revision_of old held day
      → AreRevisionsOf old r.tables → IsFor held (renewed old r) → AreMoving es e kept enacted (revised ++ (w, r) ∷ []) to_come
  moves_on once old held day r is known on made fits for = record {
    fit = fit_more revised kept w r old moving.fit not_yet is fits;
    moves = all_more (IsMove es e kept) revised (w, r) moving.moves
        (record {
          old = old;
          held = held;
          is = is;
          known = known;
          made = made ∙ ap (work_revision_of old held) on;
          fits = fits;
          right = for;
        });
    made = moving.made;
    days = ap (λ (ds : List (List ℕ × ℕ)). ds ++ days_at (touched_works es e) to_come) (days_more revised w r)
        ∙ days_now (option_map (λ both. both.0.touched) r.tables)
        (sym (ap (λ (v : WorkRevisionValue). option_map (λ both. both.0.touched) v.tables) made ∙ day_of old held day ∙ on));
    right = λ v none. by v none (bytes_eq w v) refl;
    still = λ v is. among_more revised w r v (apart v is) ∙ moving.still v (later w v to_come is);
  }
    where
      apart : (v : List ℕ) → list_any (λ (other : List ℕ). bytes_eq other v) to_come ≡ true → bytes_eq w v ≡ false
      apart v some = by (bytes_eq w v) refl
        where
          by : (b : Bool) → bytes_eq w v ≡ b → b ≡ false
          by true same =
              absurd (let no : true ≡ false = sym some ∙ ap (λ (x : List ℕ). list_any (λ (other : List ℕ). bytes_eq other x) to_come) (sym (bytes_same w v same)) ∙ once in cc)
          by false other = refl

      after_it : then_of enacted (revised ++ (w, r) ∷ []) kept w ≡ with_enacted enacted w (Some (renewed old r))
      after_it =
          ap (λ (x : Option WorkRevisionValue). with_enacted enacted w (option_map (λ one. renewed_if one x) (kept w))) (among_last revised w r not_yet)
          ∙ ap (λ (k : Option WorkValue). with_enacted enacted w (option_map (λ one. renewed one r) k)) is

      here : Matches (held_now then_entries w) (then_of enacted (revised ++ (w, r) ∷ []) kept w)
      here =
          subst (Matches (held_now then_entries w)) (sym after_it)
          (made_or then_entries e enacted w (Some (renewed old r)) moving.made
          (subst (λ (k : Option Known). IsForIf k (renewed old r)) (sym known) for))

      by : (v : List ℕ) → list_any (λ (other : List ℕ). bytes_eq other v) to_come ≡ false → (b : Bool) → bytes_eq w v ≡ b
          → Matches (held_now then_entries v) (then_of enacted (revised ++ (w, r) ∷ []) kept v)
      by v none true same =
          subst (λ (x : List ℕ). Matches (held_now then_entries x) (then_of enacted (revised ++ (w, r) ∷ []) kept x)) (bytes_same w v same) here
      by v none false other =
          subst (λ (x : Option WorkRevisionValue). Matches (held_now then_entries v) (with_enacted enacted v (option_map (λ one. renewed_if one x) (kept v))))
          (sym (among_more revised w r v other)) (right_else v none other)

  -- what is kept then has the sources of the work
  module _ (legal : is_legal es ≡ true) (right : AreTablesOf es kept)
      (ahead : StandAhead (line (laws then_entries)) (w ∷ to_come)) (known : Known) (now : known_now then_entries w ≡ Some known) where
    abbrev works : List Known
    works = line (laws then_entries)

    of_line_then : (name : List ℕ) (one : WorkValue) → then_of enacted revised kept name ≡ Some one → IsOfLine works name one
    of_line_then name one is = by (list_any (λ (other : List ℕ). bytes_eq other name) (w ∷ to_come)) refl
      where
        by : (b : Bool) → list_any (λ (other : List ℕ). bytes_eq other name) (w ∷ to_come) ≡ b → IsOfLine works name one
        by false none = of_line then_entries name one (subst (Matches (held_now then_entries name)) is (moving.right name none))
        by true some =
            of_enacted enacted moving.made (sym (still_kept enacted revised kept name (moving.still name some)) ∙ is)
          where
            of_kept : (k : Option WorkValue) → Matches (held_now es name) k → k ≡ Some one → IsOfLine works name one
            of_kept None none is = absurd (let no : None ≡ Some one = is in cc)
            of_kept (Some k) for is = act_stays es e legal name one (subst (Matches (held_now es name)) is for)

            of_enacted : (made : Enacted) → IsMadeIf then_entries (act_of e.command) made → with_enacted made name (kept name) ≡ Some one → IsOfLine works name one
            of_enacted None made is = of_kept (kept name) (right name) is
            of_enacted (Some new) made is = here (bytes_eq new.0 name) refl is
              where
                here : (b : Bool) → bytes_eq new.0 name ≡ b → cond b (Some new.1) (kept name) ≡ Some one → IsOfLine works name one
                here true same is =
                    let value : new.1 ≡ one = cc in
                    subst (IsOfLine works name) value
                    (subst (λ (v : List ℕ). IsOfLine works v new.1) (bytes_same new.0 name same)
                    (of_line then_entries new.0 new.1 (is_for_it then_entries (act_of e.command) new made)))
                here false other is = of_kept (kept name) (right name) is

    right_then : (name : List ℕ) → depends works known name ≡ true
        → (one : WorkValue) × (then_of enacted revised kept name ≡ Some one) × IsKeptFor works one
    right_then name on =
        by (then_of enacted revised kept name) refl (moving.right name (ahead.0 known (there_of then_entries w known now) name on))
      where
        by : (found : Option WorkValue) → then_of enacted revised kept name ≡ found → Matches (held_now then_entries name) found
            → (one : WorkValue) × (then_of enacted revised kept name ≡ Some one) × IsKeptFor works one
        by None none unknown = absurd (source_held then_entries known name on unknown)
        by (Some one) is for = (one, is, right_for then_entries name one for)

    pub sources_then : AreSources works known (then_of enacted revised kept)
    sources_then = record { acts = of_line_then; right = right_then }

    -- so what it carries by what is kept then is what is held of it
    pub held_then : (carried : Known) → IsLine works
        → ((ws : List Known) → IsLine ws → AreSources ws known (then_of enacted revised kept) → carried ≡ carrying ws known)
        → held_now then_entries w ≡ Some carried
    held_then carried is_line is =
        held_is then_entries w ∙ ap (option_map (carrying works)) now ∙ ap Some (sym (is works is_line sources_then))

-- ---- what comes of a work whose turn has come

none_told : (w : List ℕ) (ts : List WorkTouched) → work_in w (map (λ t. t.known) ts) ≡ None → day_among (days_told ts) w ≡ None
none_told w [] none = refl
none_told w (t ∷ ts) none = by (bytes_eq t.known.act.work w) refl none (none_told w ts)
  where
    told : (day : Option ℕ) → bytes_eq t.known.act.work w ≡ false → day_among (days_told ts) w ≡ None
        → day_among (with_day (Some t.known.act.work) day ++ days_told ts) w ≡ None
    told None other rest = rest
    told (Some day) other rest = ap (λ (b : Bool). cond b (Some day) (day_among (days_told ts) w)) other ∙ rest

    by : (b : Bool) → bytes_eq t.known.act.work w ≡ b → cond b (Some t.known) (work_in w (map (λ t. t.known) ts)) ≡ None
        → (work_in w (map (λ t. t.known) ts) ≡ None → day_among (days_told ts) w ≡ None)
        → day_among (with_day (Some t.known.act.work) t.touched ++ days_told ts) w ≡ None
    by true same none rest = absurd (let no : Some t.known ≡ None = none in cc)
    by false other none rest = told t.touched other (rest none)

-- a work that is not known then is not touched
unknown_untouched : (es : List Entry) (e : Entry) → is_legal es ≡ true → (w : List ℕ) → known_now (es ++ e ∷ []) w ≡ None → touched es e w ≡ None
unfolding touched_works
unknown_untouched es e legal w unknown = none_told w (touched_along es e) (ap (work_in w) (known_along es e legal Force 0) ∙ none (work_in w (line (laws (es ++ e ∷ [])))) refl)
  where
    none : (found : Option Known) → work_in w (line (laws (es ++ e ∷ []))) ≡ found → found ≡ None
    none None is = refl
    none (Some k) is = absurd (let no : None ≡ Some k = sym unknown ∙ is_known es e legal Force 0 w k is in cc)

-- what is kept is right on early days for what is known then
pub right_early : (es : List Entry) (e : Entry)
    → ((work : List ℕ) (one : WorkValue) → IsForIf (held_now es work) one → AreRightEarlyIf (held_now (es ++ e ∷ []) work) (touched es e work) one)
    → (kept : Kept) → AreTablesOf es kept → (w : List ℕ) (held : Known) (day : Option ℕ) → held_now (es ++ e ∷ []) w ≡ Some held → day ≡ touched es e w
    → IfSome (kept w) (AreRightEarly held day)
right_early es e law kept right w held day known on = by (kept w) (right w)
  where
    by : (k : Option WorkValue) → Matches (held_now es w) k → IfSome k (AreRightEarly held day)
    by None unknown = tt
    by (Some one) for =
        subst (λ (d : Option ℕ). AreRightEarly held d one) (sym on)
        (subst (λ (h : Option Known). AreRightEarlyIf h (touched es e w) one) known (law w one for))

module _ (es : List Entry) (e : Entry) (legal : is_legal es ≡ true) (accepted : IsAccepted es e) (kept : Kept) (right : AreTablesOf es kept)
    (enacted : Enacted) (revised : Revised) (w : List ℕ) (to_come : List (List ℕ)) (moving : AreMoving es e kept enacted revised (w ∷ to_come)) where
  pub on_revised : list_any (λ (other : List ℕ). bytes_eq other w) to_come ≡ false → (held : Known) (day : Option ℕ) (r : WorkRevisionValue)
      → held_now (es ++ e ∷ []) w ≡ Some held → day ≡ touched es e w → IsRevisedAs held day (kept w) (Some r)
      → AreMoving es e kept enacted (revised ++ (w, r) ∷ []) to_come
  on_revised once held day r known on made = by (kept w) refl made
    where
      by : (k : Option WorkValue) → kept w ≡ k → IsRevisedAs held day k (Some r) → AreMoving es e kept enacted (revised ++ (w, r) ∷ []) to_come
      by None none made = absurd made
      by (Some old) is made = moves_on es e kept enacted revised w to_come moving once old held day r is known on made.0 made.1 made.2

  unkept : kept w ≡ None → Matches (held_now (es ++ e ∷ []) w) (then_of enacted revised kept w)
  unkept none = not_kept_then es e legal enacted moving.made kept right revised w (not_yet es e kept enacted revised w to_come moving) none

  pub on_unkept : kept w ≡ None → AreMoving es e kept enacted revised to_come
  on_unkept none = by (known_now (es ++ e ∷ []) w) refl
    where
      before : known_now es w ≡ None
      before = not_held es w (subst (Matches (held_now es w)) none (right w))

      by : (known : Option Known) → known_now (es ++ e ∷ []) w ≡ known → AreMoving es e kept enacted revised to_come
      by None unknown = rests es e kept enacted revised w to_come moving (unknown_untouched es e legal w unknown) (unkept none)
      by (Some known) is =
          let one = newly_enacted es e w known legal before is in
          rests es e kept enacted revised w to_come moving
          (ap (touched es e) (sym one.named) ∙ itself_untouched es e one.act one.is legal accepted) (unkept none)

  pub on_none : (held : Known) (day : Option ℕ) → IsRevisedAs held day (kept w) None → AreMoving es e kept enacted revised to_come
  on_none held day made = by (kept w) refl made
    where
      by : (k : Option WorkValue) → kept w ≡ k → IsRevisedAs held day k None → AreMoving es e kept enacted revised to_come
      by None none made = on_unkept none
      by (Some old) is made = absurd made

  pub on_unknown : (kept w ≢ None → None ≡ known_now (es ++ e ∷ []) w) → AreMoving es e kept enacted revised to_come
  on_unknown found = by (kept w) refl
    where
      some : (one : WorkValue) → kept w ≡ Some one → kept w ≢ None
      some one is none = let no : Some one ≡ None = sym is ∙ none in cc

      by : (k : Option WorkValue) → kept w ≡ k → AreMoving es e kept enacted revised to_come
      by None none = on_unkept none
      by (Some one) is =
          let got = of_kept es w one (subst (Matches (held_now es w)) is (right w)) in
          let new = known_still es e w got.known legal got.is in
          absurd (let no : None ≡ Some new.0 = found (some one is) ∙ new.1 in cc)

  pub on_quiet : ((work : List ℕ) (one : WorkValue) → IsForIf (held_now es work) one → is_concerned es e work ≡ false → touched es e work ≡ None
      → IsForIf (held_now (es ++ e ∷ []) work) one)
      → is_concerned es e w ≡ false → touched es e w ≡ None → AreMoving es e kept enacted revised to_come
  on_quiet stays apart quiet =
      rests es e kept enacted revised w to_come moving quiet
      (untouched_then es e legal enacted moving.made stays kept right revised w (not_yet es e kept enacted revised w to_come moving) apart quiet)

  -- the same, where what is kept stays as it was
  pub on_still : (new : Kept) → ((v : List ℕ) → new v ≡ kept v) → AreMoving es e kept enacted revised to_come → AreMoving es e new enacted revised to_come
  on_still new same moves = subst (λ (k : Kept). AreMoving es e k enacted revised to_come) (sym all) moves
    where
      all : new ≡ kept
      all = λ i v. same v i

  pub on_pushed : (new : Kept) → ((v : List ℕ) → new v ≡ kept v) → list_any (λ (other : List ℕ). bytes_eq other w) to_come ≡ false
      → (held : Known) (day : Option ℕ) (name : List ℕ) (r : WorkRevisionValue) (all : Revised) → held_now (es ++ e ∷ []) w ≡ Some held → day ≡ touched es e w
      → name ≡ w → IsRevisedAs held day (kept w) (Some r) → all ≡ revised ++ (name, r) ∷ [] → AreMoving es e new enacted all to_come
  on_pushed new same once held day name r all known on named made are =
      subst (λ (rs : Revised). AreMoving es e new enacted rs to_come) (sym (are ∙ ap (λ (n : List ℕ). revised ++ (n, r) ∷ []) named))
      (subst (λ (k : Kept). AreMoving es e k enacted (revised ++ (w, r) ∷ []) to_come) (sym stays) (on_revised once held day r known on made))
    where
      stays : new ≡ kept
      stays = λ i v. same v i

-- ---- the works to come

pub no_day : (day : Option ℕ) → is_some day ≡ false → day ≡ None
no_day None none = refl
no_day (Some d) some = absurd (let no : true ≡ false = some in cc)

pub on_any : {A E : Type 0} (P : Type 0) (r : Result A E) → P → OnOk r P
on_any P (Ok a) holds = holds
on_any P (Err e) holds = tt

-- what is lent is seen as what it is of
pub lent : {A B C : Type 0} (now : A → B) (see : B → C) (r : Option A) (o : Option B) → option_map now r ≡ o
    → option_map (λ x. see (now x)) r ≡ option_map see o
lent {A} {B} {C} now see None o is = ap (option_map see) is
lent {A} {B} {C} now see (Some a) o is = ap (option_map see) is

-- what is found is seen
pub seen : {A B C : Type 0} (now : A → B) (see : B → C) (r : Option A) (o : Option B) → option_map now r ≡ o → is_some (option_map see o) ≡ is_some r
seen {A} {B} {C} now see None o is = ap (λ (x : Option B). is_some (option_map see x)) (sym is)
seen {A} {B} {C} now see (Some a) o is = ap (λ (x : Option B). is_some (option_map see x)) (sym is)

-- the works that are left are the one whose turn it is, and those behind it
pub left_is : (names : List DatedWork) (i : ℕ) (d : DatedWork) → i < length names
    → map (λ (n : DatedWork). n.work) (drop i names) ≡ (get_or names i d).work ∷ map (λ (n : DatedWork). n.work) (take (length names - (i + 1)) (drop (i + 1) names))
left_is names i d within =
    ap (map (λ (n : DatedWork). n.work)) (drop_more names i d within)
    ∙ ap (λ (ns : List DatedWork). (get_or names i d).work ∷ map (λ (n : DatedWork). n.work) ns) (sym (take_rest names (i + 1)))

-- what is said of the work that is concerned
pub said_later : (es : List Entry) (e : Entry) (concerned : Option Known) (w : List ℕ) (to_come : List (List ℕ)) → IsConcernedThen es e concerned (w ∷ to_come)
    → IsConcernedThen es e concerned to_come
said_later es e concerned w to_come is = record { known = is.known; said = λ v some. is.said v (later w v to_come some) }

pub apart_of : (es : List Entry) (e : Entry) (concerned : Option Known) (w : List ℕ) (to_come : List (List ℕ)) → IsConcernedThen es e concerned (w ∷ to_come)
    → is_that concerned w ≡ false → is_concerned es e w ≡ false
apart_of es e concerned w to_come is none = sym (is.said w (first w to_come)) ∙ none

-- what is left costs what is left of all
pub cost_here : (entries : List Entry) (told : List (List ℕ × ℕ)) (w : List ℕ) (held : Known) → held_now entries w ≡ Some held
    → both_costs held (day_among told w) ≡ costs_told entries told (w ∷ [])
cost_here entries told w held is =
    by (day_among told w)
    ∙ ap (λ (k : Option Known). option_map_or (costs_from k) (day_among told w) 0) (sym is)
    ∙ alone (option_map_or (costs_from (held_now entries w)) (day_among told w) 0)
    ∙ sym (sum_by-cons (λ (name : List ℕ). option_map_or (costs_from (held_now entries name)) (day_among told name) 0) w [])
  where
    by : (day : Option ℕ) → both_costs held day ≡ option_map_or (costs_from (Some held)) day 0
    by None = refl
    by (Some day) = refl

    alone : (n : ℕ) → n ≡ n + 0
    alone n = omega arith

pub cost_now : (entries : List Entry) (told : List (List ℕ × ℕ)) (w : List ℕ) (held : Known) (day : Option ℕ) → held_now entries w ≡ Some held → day ≡ day_among told w
    → both_costs held day ≡ costs_told entries told (w ∷ [])
cost_now entries told w held day is on = ap (both_costs held) on ∙ cost_here entries told w held is

pub cost_more : (entries : List Entry) (told : List (List ℕ × ℕ)) (w : List ℕ) (ws : List (List ℕ))
    → costs_told entries told (w ∷ ws) ≡ costs_told entries told (w ∷ []) + costs_told entries told ws
cost_more entries told w ws =
    let cost : List ℕ → ℕ = λ name. option_map_or (costs_from (held_now entries name)) (day_among told name) 0 in
    let one = sum_by-cons cost w [] in
    let all = sum_by-cons cost w ws in
    add (cost w) (sum_by cost ws) (sum_by cost (w ∷ [])) (sum_by cost (w ∷ ws)) (sum_by cost []) one all refl
  where
    add : (a b c d z : ℕ) → c ≡ a + z → d ≡ a + b → z ≡ 0 → d ≡ c + b
    add a b c d z h k l = omega arith

pub costs_all : (entries : List Entry) (told : List (List ℕ × ℕ)) (ws : List (List ℕ)) → costs_told entries told ws ≡ costs_touched entries (days_at told ws)
costs_all entries told [] = refl
costs_all entries told (w ∷ ws) =
    sum_by-cons cost w ws ∙ by (day_among told w) (costs_all entries told ws)
  where
    cost : List ℕ → ℕ
    cost name = option_map_or (costs_from (held_now entries name)) (day_among told name) 0

    by : (day : Option ℕ) → costs_told entries told ws ≡ costs_touched entries (days_at told ws)
        → option_map_or (costs_from (held_now entries w)) day 0 + costs_told entries told ws ≡ costs_touched entries (with_day (Some w) day ++ days_at told ws)
    by None rest = nothing (costs_told entries told ws) ∙ rest
      where
        nothing : (n : ℕ) → 0 + n ≡ n
        nothing n = omega arith
    by (Some day) rest =
        ap (λ (n : ℕ). costs_from (held_now entries w) day + n) rest
        ∙ sym (sum_by-cons (λ (t : List ℕ × ℕ). costs_from (held_now entries t.0) t.1) (w, day) (days_at told ws))

-- all have moved
pub have_moved : (es : List Entry) (e : Entry) (kept : Kept) (enacted : Enacted) (revised : Revised) → AreMoving es e kept enacted revised [] → AreMoved es e kept enacted revised
have_moved es e kept enacted revised moving = record {
  fit = moving.fit;
  moves = moving.moves;
  made = moving.made;
  right = λ w. moving.right w refl;
  days = sym (nothing_more (days_moved revised)) ∙ moving.days;
}
  where
    nothing_more : (xs : List (List ℕ × ℕ)) → xs ++ [] ≡ xs
    nothing_more [] = refl
    nothing_more (x ∷ xs) = ap (λ ys. x ∷ ys) (nothing_more xs)
