-- An entry that enacts a work on which none depends touches nothing.
use Rattle.std.proofs.Common.{◌≡◌, ◌∙◌, sym, ap, ap₂, subst, refl, ℕ, ◌+◌, Bool, true, false, cond, ◌||◌, is_some, List, [], ◌∷◌, ◌++◌, length, Option, Some, None, option_map}
use Rattle.std.specs.List.{AllByRecursion, list_any}
use Rattle.std.specs.Option.{option_map_or}
use Rattle.std.specs.Str.{bytes_eq}
use Rattle.law_register.specs.declared.law.act.Act.{Act}
use Rattle.law_register.specs.declared.law.command.Command.{Command}
use Rattle.law_register.specs.declared.law.command.Command.TheVariants.{Enact}
use Rattle.law_register.specs.declared.register.entry.Entry.{Entry}
use Rattle.law_register.specs.declared.register.known.Known.{Known}
use Rattle.law_register.specs.declared.register.rules.Rule.TheVariants.{WorkExists}
use Rattle.law_register.specs.declared.register.verdict.Reply.{Reply}
use Rattle.law_register.specs.declared.register.verdict.Verdict.{Verdict}
use Rattle.law_register.specs.declared.register.verdict.Verdict.TheVariants.{Accepted, Repeat, Refused}
use Rattle.law_register.specs.Answer.Previews.{known_by_law}
use Rattle.law_register.specs.Answer.Renewing.{command_cost, cost_said, costs_touched}
use Rattle.law_register.specs.Answer.Touched.{day_among, day_entered, sooner, touched_day, with_day}
use Rattle.law_register.specs.Law.Same.{same_number}
use Rattle.law_register.specs.Provisions.Depending.{depends, depends_in}
use Rattle.law_register.specs.Provisions.Line.{line, work_in}
use Rattle.law_register.specs.Provisions.Looking.{is_after}
use Rattle.law_register.specs.Provisions.Touching.{WorkTouched, days_told, first_reached, flag_day_entered, is_concerned, own, reach, touched, touched_after, touched_along, touched_as, touched_by, touched_works}
use Rattle.law_register.specs.Register.Drafts.{draft_of}
use Rattle.law_register.specs.Register.KnownIds.{enacted, enacted_by, known_by}
use Rattle.law_register.specs.Register.KnownNext.{newly_known}
use Rattle.law_register.specs.Register.LawList.{front, law_command, law_of, laws}
use Rattle.law_register.specs.Register.Verdicts.{is_accepted, is_legal, verdict, work_exists}
use Rattle.law_register.proofs.ApartIds.{none_both}
use Rattle.law_register.proofs.Grown.{enact_known}
use Rattle.law_register.proofs.Legal.{accepted_new, kept_rules}
use Rattle.law_register.proofs.Next.{now_known}
use Rattle.law_register.proofs.Puts.{bytes_same, number_is}
use Rattle.law_register.proofs.Unreached.{all_and_one, either_none, same_works, told_none}
use Rattle.source_provisions.proofs.Complete.{line_has, line_known}
use Rattle.source_provisions.proofs.Looking.{depends_after}

-- no work of a line depends on one that the line does not have
none_depends : (works : List Known) (work : List ℕ) → work_in work works ≡ None → (x : List ℕ) → depends_in works x work ≡ false
none_depends works work none x = by (work_in x works)
  where
    here : (known : Known) (b : Bool) → depends works known work ≡ b → depends works known work ≡ false
    here known true is = absurd (let wrong : false ≡ true = sym (ap (is_after known.act.day) none) ∙ depends_after works known work is in cc)
    here known false is = is

    by : (found : Option Known) → option_map_or (λ known. depends works known work) found false ≡ false
    by None = refl
    by (Some known) = here known (depends works known work) refl

-- a work that a law does not make known is not in its line
not_in_line : (law : List Command) (work : List ℕ) → known_by_law law work ≡ None → work_in work (line law) ≡ None
not_in_line law work unknown = by (work_in work (line law)) refl
  where
    by : (found : Option Known) → work_in work (line law) ≡ found → work_in work (line law) ≡ None
    by None is = is
    by (Some known) is = absurd (let wrong : None ≡ Some known = sym unknown ∙ line_known law work known is in cc)

-- the work of an Enact that is accepted is new
same_itself : (law : Option ℕ) → same_number law law ≡ true
same_itself None = refl
same_itself (Some n) = number_is n n refl

unknown_yet : (work : List ℕ) (law : List Command) (found : Option (ℕ × Act)) → option_map (λ (f : ℕ × Act). WorkExists f.0) found ≡ None
    → known_by work (length law) (length law) law found ≡ None
unknown_yet work law None none = refl
unknown_yet work law (Some found) none = absurd (let wrong : Some (WorkExists found.0) ≡ None = none in cc)

pub not_known_yet : (es : List Entry) (e : Entry) (act : Act) (law : Option ℕ) → is_accepted law (verdict es e.drafter e.request e.command) ≡ true
    → e.command ≡ Enact act → known_by_law (laws es) act.work ≡ None
not_known_yet es e act law accepted is =
    let new = accepted_new es e.drafter e.request e.command law accepted in
    unknown_yet act.work (laws es) (enacted act.work (laws es)) (subst (λ c. work_exists (laws es) c ≡ None) is ((kept_rules es e.drafter e.command new.kept).new))

is_new : (es : List Entry) (e : Entry) (act : Act) (law : Option ℕ) (reply : Reply) → verdict es e.drafter e.request e.command ≡ Accepted law reply
    → e.command ≡ Enact act → known_by_law (laws es) act.work ≡ None
is_new es e act law reply accepted is = not_known_yet es e act law (ap (is_accepted law) accepted ∙ same_itself law) is

module _ (es : List Entry) (e : Entry) (act : Act) (is : e.command ≡ Enact act) where
  law_is : law_of es e ≡ Enact act ∷ []
  law_is = ap (law_command (draft_of e.drafter es)) is

  own_none : (w : List ℕ) → own es e w ≡ None
  unfolding touched_day
  own_none w = either_none (is_concerned es e w) (touched_day es e) (ap (day_entered es) law_is)

  reach_is : (w : List ℕ) → reach es e w None
      ≡ cond (is_some (cond (bytes_eq act.work w) (Some act) None) || false) (Some 1) (sooner None (cond (is_concerned es e w) None None))
  reach_is w =
      ap (λ law. cond (list_any (λ command. is_some (enacted_by w command)) law) (Some 1)
      (sooner None (cond (is_concerned es e w) (flag_day_entered es law) None))) law_is

  module _ (old new : List Known) (old_none : (x : List ℕ) → depends_in old x act.work ≡ false) (new_none : (x : List ℕ) → depends_in new x act.work ≡ false) where
    apart : (x w : List ℕ) → cond (depends_in old x w || depends_in new x w) (reach es e w None) None ≡ None
    apart x w = ap (λ day. cond (depends_in old x w || depends_in new x w) day None) (reach_is w) ∙ by (bytes_eq act.work w) refl
      where
        by : (b : Bool) → bytes_eq act.work w ≡ b
            → cond (depends_in old x w || depends_in new x w)
            (cond (is_some (cond b (Some act) None) || false) (Some 1) (sooner None (cond (is_concerned es e w) None None))) None ≡ None
        by true same =
            ap (λ d. cond d (Some 1) None) (subst (λ v. (depends_in old x v || depends_in new x v) ≡ false) (bytes_same act.work w same)
            (none_both (depends_in old x act.work) (depends_in new x act.work) (old_none x) (new_none x)))
        by false other =
            either_none (depends_in old x w || depends_in new x w) (sooner None (cond (is_concerned es e w) None None))
            (either_none (is_concerned es e w) None refl)

  touches_none : (law : Option ℕ) (reply : Reply) → verdict es e.drafter e.request e.command ≡ Accepted law reply
      → ((x : List ℕ) → depends_in (line (laws (es ++ e ∷ []))) x act.work ≡ false) → touched_works es e ≡ []
  unfolding touched_works touched_along
  touches_none law reply accepted none =
      let old_none = none_depends (line (laws es)) act.work (not_in_line (laws es) act.work (is_new es e act law reply accepted is)) in
      told_none es e (line (laws es)) (line (laws (es ++ e ∷ []))) own_none (apart (line (laws es)) (line (laws (es ++ e ∷ []))) old_none none)

pub enacting_is_free : (es : List Entry) (e : Entry) (act : Act) → e.command ≡ Enact act
    → ((work : List ℕ) → depends_in (line (laws (es ++ e ∷ []))) work act.work ≡ false) → command_cost es e ≡ 0
unfolding command_cost
enacting_is_free es e act is none = by (verdict es e.drafter e.request e.command) refl
  where
    by : (said : Verdict) → verdict es e.drafter e.request e.command ≡ said → cost_said es e said ≡ 0
    by (Accepted law reply) accepted =
        ap (costs_touched (es ++ record e { law = law } ∷ [])) (same_works es e law ∙ touches_none es e act is law reply accepted none)
    by (Repeat reply) accepted = refl
    by (Refused rule) accepted = refl

-- the work that is enacted is not touched itself: nothing modifies it yet
module _ (es : List Entry) (e : Entry) (act : Act) (is : e.command ≡ Enact act) (legal : is_legal es ≡ true)
    (accepted : is_accepted e.law (verdict es e.drafter e.request e.command) ≡ true) where
  abbrev L : List Known
  L = line (laws es)

  abbrev M : List Known
  M = line (laws (es ++ e ∷ []))

  there : work_in act.work M ≡ Some (newly_known (front es + 1) act)
  there =
      line_has (laws (es ++ e ∷ [])) act.work (newly_known (front es + 1) act)
      (sym (now_known (es ++ e ∷ []) act.work) ∙ enact_known es e act legal accepted is)

  none_before : (x : List ℕ) → depends_in L act.work x ≡ false
  none_before x =
      ap (λ known. option_map_or (λ k. depends L k x) known false) (not_in_line (laws es) act.work (not_known_yet es e act e.law accepted is))

  none_then : (x : List ℕ) → depends_in M act.work x ≡ false
  none_then x = ap (λ known. option_map_or (λ k. depends M k x) known false) there

  none_reached : (ts : List WorkTouched) → first_reached L M act.work ts ≡ None
  none_reached [] = refl
  none_reached (t ∷ ts) =
      ap (λ b. sooner (cond b t.reached None) (first_reached L M act.work ts))
      (none_both (depends_in L act.work t.known.act.work) (depends_in M act.work t.known.act.work) (none_before t.known.act.work) (none_then t.known.act.work))
      ∙ none_reached ts

  abbrev IsApart : WorkTouched → Type 0
  IsApart t = bytes_eq t.known.act.work act.work ≡ true → t.touched ≡ None

  apart_next : (ts : List WorkTouched) (known : Known) → IsApart (touched_as es e known (touched_by es e L M ts known.act.work))
  apart_next ts known same =
      ap (touched_by es e L M ts) (bytes_same known.act.work act.work same)
      ∙ ap₂ sooner (own_none es e act is act.work) (none_reached ts)

  all_apart : (ts : List WorkTouched) (works : List Known) → AllByRecursion IsApart ts → AllByRecursion IsApart (touched_after es e L M ts works)
  all_apart ts [] all = all
  all_apart ts (known ∷ works) all =
      all_apart (ts ++ touched_as es e known (touched_by es e L M ts known.act.work) ∷ []) works
      (all_and_one IsApart ts (touched_as es e known (touched_by es e L M ts known.act.work)) all (apart_next ts known))

  none_told : (ts : List WorkTouched) → AllByRecursion IsApart ts → day_among (days_told ts) act.work ≡ None
  none_told [] all = refl
  none_told (t ∷ ts) all = by t.touched refl (none_told ts all.1)
    where
      by : (day : Option ℕ) → t.touched ≡ day → day_among (days_told ts) act.work ≡ None
          → day_among (with_day (Some t.known.act.work) day ++ days_told ts) act.work ≡ None
      by None none rest = rest
      by (Some day) some rest = here (bytes_eq t.known.act.work act.work) refl
        where
          here : (b : Bool) → bytes_eq t.known.act.work act.work ≡ b → cond b (Some day) (day_among (days_told ts) act.work) ≡ None
          here true same = absurd (let wrong : Some day ≡ None = sym some ∙ all.0 same in cc)
          here false other = rest

  pub itself_untouched : touched es e act.work ≡ None
  unfolding touched_works touched_along
  itself_untouched = none_told (touched_after es e L M [] M) (all_apart [] M tt)
