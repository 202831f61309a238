-- The days of a work are its own and those of the works on which it depends.
use Rattle.std.proofs.Common.{◌≡◌, ◌∙◌, sym, ap, refl, subst, ℕ, Bool, true, false, cond, ◌&&◌, nat_lt, List, [], ◌∷◌, ◌++◌, append_assoc, map, Some}
use Rattle.std.proofs.lemmas.List.{append-nil}
use Rattle.std.specs.List.{AllByRecursion, list_any}
use Rattle.std.specs.List.Sorted.{IsStrictlySortedBy}
use Rattle.std.specs.Str.{bytes_eq}
use Rattle.std.specs.declared.cmp.Ordering.TheVariants.{Less}
use Rattle.law_register.specs.declared.register.known.Known.{Known}
use Rattle.law_register.specs.declared.register.known.KnownMod.{KnownMod}
use Rattle.law_register.specs.Answer.Breakpoints.{days_with, insert_days}
use Rattle.law_register.specs.Law.Sources.{source_of}
use Rattle.law_register.proofs.ApartIds.{none_both, none_left, none_right}
use Rattle.law_register.specs.Provisions.Depending.{WorkDays, breakpoints_of, comes_from, days_after, days_along, depends, own_days, source_days, work_days}
use Rattle.law_register.specs.Provisions.Line.{IsLine, line_cmp, work_in}
use Rattle.law_register.specs.Provisions.Looking.{is_after, looked_at, names_any}
use Rattle.source_provisions.proofs.Lines.{all_behind, itself_not_later, not_later_behind}
use Rattle.source_provisions.proofs.Looking.{all_unnamed, depends_after}

pub all_dropped : {A : Type 0} (P : A → Type 0) (xs ys : List A) → AllByRecursion P (xs ++ ys) → AllByRecursion P ys
all_dropped P [] ys all = all
all_dropped P (x ∷ xs) ys all = all_dropped P xs ys all.1

-- no work of a line depends on itself or on one that comes behind
not_depended : (line : List Known) (known other : Known) → work_in other.act.work line ≡ Some other → nat_lt known.act.day other.act.day ≡ false
    → depends line known other.act.work ≡ false
not_depended line known other there late = by (depends line known other.act.work) refl
  where
    by : (b : Bool) → depends line known other.act.work ≡ b → b ≡ false
    by false is = refl
    by true is =
        absurd (let wrong : true ≡ false =
        sym (depends_after line known other.act.work is) ∙ ap (is_after known.act.day) there ∙ late in cc)

none_behind : (line : List Known) (known : Known) (behind : List Known) → AllByRecursion (λ (k : Known). work_in k.act.work line ≡ Some k) behind
    → AllByRecursion (λ y. line_cmp known y ≡ Less) behind → AllByRecursion (λ (k : Known). depends line known k.act.work ≡ false) behind
none_behind line known [] own below = tt
none_behind line known (next ∷ behind) own below =
    (not_depended line known next own.0 (not_later_behind known next below.0), none_behind line known behind own.1 below.1)

module _ (line : List Known) where
  -- works on which a work does not depend give it no days
  pub no_more : (known : Known) (ws : List WorkDays) → AllByRecursion (λ (w : WorkDays). depends line known w.known.act.work ≡ false) ws → source_days line known ws ≡ []
  no_more known [] none = refl
  no_more known (w ∷ ws) none =
      ap (λ b. insert_days (cond b w.days []) (source_days line known ws)) none.0 ∙ no_more known ws none.1

  ahead_alone : (known : Known) (ahead more : List WorkDays) → AllByRecursion (λ (w : WorkDays). depends line known w.known.act.work ≡ false) more
      → source_days line known ahead ≡ source_days line known (ahead ++ more)
  ahead_alone known [] more none = sym (no_more known more none)
  ahead_alone known (w ∷ ws) more none = ap (insert_days (cond (depends line known w.known.act.work) w.days [])) (ahead_alone known ws more none)

  abbrev more_days : List WorkDays → List Known → List WorkDays
  more_days ahead [] = []
  more_days ahead (known ∷ works) = work_days line ahead known ∷ more_days (ahead ++ work_days line ahead known ∷ []) works

  pub days_behind : (ahead : List WorkDays) (works : List Known) → days_after line ahead works ≡ ahead ++ more_days ahead works
  days_behind ahead [] = sym (append-nil ahead)
  days_behind ahead (known ∷ works) =
      days_behind (ahead ++ work_days line ahead known ∷ []) works
      ∙ append_assoc ahead (work_days line ahead known ∷ []) (more_days (ahead ++ work_days line ahead known ∷ []) works)

  pub all_more : (P : Known → Type 0) (ahead : List WorkDays) (works : List Known) → AllByRecursion P works → AllByRecursion (λ (w : WorkDays). P w.known) (more_days ahead works)
  all_more P ahead [] all = tt
  all_more P ahead (known ∷ works) all = (all.0, all_more P (ahead ++ work_days line ahead known ∷ []) works all.1)

  -- each work has its own days and those of the works on which it depends, by the days of all
  abbrev IsOf : List WorkDays → WorkDays → Type 0
  IsOf all w = w.days ≡ days_with w.known (source_days line w.known all)

  all_of : (all ahead : List WorkDays) (front works : List Known) → front ++ works ≡ line → IsLine line → all ≡ ahead ++ more_days ahead works
      → AllByRecursion (IsOf all) (more_days ahead works)
  all_of all ahead front [] is right made = tt
  all_of all ahead front (known ∷ works) is right made = (
    ap (days_with known)
        (ahead_alone known ahead (more_days ahead (known ∷ works))
        (all_more (λ (k : Known). depends line known k.act.work ≡ false) ahead (known ∷ works) (
          not_depended line known known own.0 (itself_not_later known.act.day),
          none_behind line known works own.1 (all_behind front known works (subst (IsStrictlySortedBy line_cmp) (sym is) right.ascends)),
        ))
        ∙ ap (source_days line known) (sym made)),
    all_of all (ahead ++ work_days line ahead known ∷ []) (front ++ known ∷ []) works (append_assoc front (known ∷ []) works ∙ is) right
        (made ∙ sym (append_assoc ahead (work_days line ahead known ∷ []) (more_days (ahead ++ work_days line ahead known ∷ []) works))),
  )
    where
      own : AllByRecursion (λ (k : Known). work_in k.act.work line ≡ Some k) (known ∷ works)
      own = all_dropped (λ (k : Known). work_in k.act.work line ≡ Some k) front (known ∷ works) (subst (AllByRecursion (λ (k : Known). work_in k.act.work line ≡ Some k)) (sym is) right.own)

pub days_of_all : (line : List Known) → IsLine line
    → AllByRecursion (λ w. w.days ≡ breakpoints_of line w.known) (days_along line)
unfolding days_along
days_of_all line right =
    subst (AllByRecursion (IsOf line (days_after line [] line))) (sym (days_behind line [] line))
    (all_of line (days_after line [] line) [] [] line refl right (days_behind line [] line))

-- where no modification names a provision no work depends on another
pub independent : (line : List Known) (known : Known) (work : List ℕ) → names_any known ≡ false → depends line known work ≡ false
independent line known work none = by known.mods (all_unnamed line known.act.day known.mods none)
  where
    never : (b : Bool) → (b && false) ≡ false
    never true = refl
    never false = refl

    one : (m : KnownMod) → looked_at line known.act.day m.body ≡ false → comes_from line known.act.day work m ≡ false
    one m none = ap (λ b. m.live && (b && bytes_eq (source_of m.body).href work)) none ∙ never m.live

    by : (ms : List KnownMod) → list_any (λ m. looked_at line known.act.day m.body) ms ≡ false → list_any (comes_from line known.act.day work) ms ≡ false
    by [] none = refl
    by (m ∷ ms) none =
        none_both (comes_from line known.act.day work m) (list_any (comes_from line known.act.day work) ms)
        (one m (none_left (looked_at line known.act.day m.body) (list_any (λ k. looked_at line known.act.day k.body) ms) none))
        (by ms (none_right (looked_at line known.act.day m.body) (list_any (λ k. looked_at line known.act.day k.body) ms) none))

pub none_of : (line : List Known) (known : Known) (ws : List WorkDays) → names_any known ≡ false → AllByRecursion (λ (w : WorkDays). depends line known w.known.act.work ≡ false) ws
none_of line known [] none = tt
none_of line known (w ∷ ws) none = (independent line known w.known.act.work none, none_of line known ws none)

module _ (line : List Known) where
  days_alone : (ahead : List WorkDays) (known : Known) → names_any known ≡ false → work_days line ahead known ≡ own_days known
  days_alone ahead known none =
      ap (λ (days : List ℕ). (let w : WorkDays = record { known = known; days = days_with known days } in w)) (no_more line known ahead (none_of line known ahead none))

  all_days_alone : (ahead : List WorkDays) (works : List Known) → list_any names_any works ≡ false → days_after line ahead works ≡ ahead ++ map own_days works
  all_days_alone ahead [] none = sym (append-nil ahead)
  all_days_alone ahead (known ∷ works) none =
      ap (λ (w : WorkDays). days_after line (ahead ++ w ∷ []) works) (days_alone ahead known (none_left (names_any known) (list_any names_any works) none))
      ∙ all_days_alone (ahead ++ own_days known ∷ []) works (none_right (names_any known) (list_any names_any works) none)
      ∙ append_assoc ahead (own_days known ∷ []) (map own_days works)

pub days_by_themselves : (works : List Known) → list_any names_any works ≡ false → days_along works ≡ map own_days works
unfolding days_along
days_by_themselves works none = all_days_alone works [] works none
