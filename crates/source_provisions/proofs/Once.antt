-- Each work is told once among those that an entry touches.
use Rattle.std.proofs.Common.{◌≡◌, ◌∙◌, sym, ap, refl, subst, ℕ, Bool, true, false, cond, List, [], ◌∷◌, ◌++◌, map, Option, Some, None}
use Rattle.std.proofs.lemmas.Cmp.{nat_cmp_total, nat_list_cmp_total}
use Rattle.std.specs.Cmp.Lexicographic.{slice_cmp}
use Rattle.std.specs.List.{AllByRecursion}
use Rattle.std.specs.List.Sorted.{IsStrictlySortedBy}
use Rattle.std.specs.Ordering.{nat_cmp, ordering_reverse, ordering_then}
use Rattle.std.specs.Str.{bytes_eq}
use Rattle.std.specs.declared.cmp.Ordering.{Ordering}
use Rattle.std.specs.declared.cmp.Ordering.TheVariants.{Less, Equal, Greater}
use Rattle.law_register.specs.declared.answer.question.Reading.TheVariants.{Force}
use Rattle.law_register.specs.declared.law.command.Command.{Command}
use Rattle.law_register.specs.declared.register.entry.Entry.{Entry}
use Rattle.law_register.specs.declared.register.known.Known.{Known}
use Rattle.law_register.specs.Answer.Previews.{known_by_law}
use Rattle.law_register.specs.Answer.Touched.{day_among, with_day}
use Rattle.law_register.specs.Provisions.Line.{line, line_cmp, line_of}
use Rattle.law_register.specs.Provisions.Touching.{WorkTouched, days_told, touched_along, touched_works}
use Rattle.law_register.specs.Register.LawList.{laws, works_enacted}
use Rattle.law_register.specs.Register.Verdicts.{is_legal}
use Rattle.law_register.proofs.Puts.{bytes_same}
use Rattle.source_provisions.specs.Once.{AreOnce}
use Rattle.source_provisions.proofs.BeforeTouched.{known_along}
use Rattle.source_provisions.proofs.Own.{IsKnown, all_known, is_line}

-- no work stands below itself
below_none : (r : Ordering) → r ≡ ordering_reverse r → (s : Ordering) → s ≡ ordering_reverse s → ordering_then r s ≡ Less → ⊥
below_none Less h s i e = let no : Less ≡ Greater = h in cc
below_none Equal h Less i e = let no : Less ≡ Greater = i in cc
below_none Equal h Equal i e = let no : Equal ≡ Less = e in cc
below_none Equal h Greater i e = let no : Greater ≡ Less = e in cc
below_none Greater h s i e = let no : Greater ≡ Less = e in cc

not_below : (k : Known) → line_cmp k k ≡ Less → ⊥
not_below k h =
    below_none (nat_cmp k.act.day k.act.day) (nat_cmp_total.antisymm k.act.day k.act.day) (slice_cmp nat_cmp k.act.work k.act.work)
    (nat_list_cmp_total.antisymm k.act.work k.act.work) h

-- works of which no two have one IRI
abbrev pub AreApart : List Known → Type 0
AreApart [] = Unit {0}
AreApart (k ∷ ks) = AllByRecursion (λ (other : Known). bytes_eq other.act.work k.act.work ≡ false) ks × AreApart ks

module _ (law : List Command) where
  one_apart : (k other : Known) → IsKnown law k → IsKnown law other → line_cmp k other ≡ Less → bytes_eq other.act.work k.act.work ≡ false
  one_apart k other is there below = by (bytes_eq other.act.work k.act.work) refl
    where
      one : (a b : Known) → Some a ≡ Some b → a ≡ b
      one a b e = cc

      by : (b : Bool) → bytes_eq other.act.work k.act.work ≡ b → b ≡ false
      by true same =
          absurd (not_below k (subst (λ (x : Known). line_cmp k x ≡ Less)
          (one other k (sym there ∙ ap (known_by_law law) (bytes_same other.act.work k.act.work same) ∙ is)) below))
      by false other = refl

  others_apart : (k : Known) → IsKnown law k → (ks : List Known) → AllByRecursion (IsKnown law) ks → AllByRecursion (λ other. line_cmp k other ≡ Less) ks
      → AllByRecursion (λ (other : Known). bytes_eq other.act.work k.act.work ≡ false) ks
  others_apart k is [] all below = tt
  others_apart k is (other ∷ ks) all below = (one_apart k other is all.0 below.0, others_apart k is ks all.1 below.1)

  all_apart : (ks : List Known) → AllByRecursion (IsKnown law) ks → IsStrictlySortedBy line_cmp ks → AreApart ks
  unfolding IsStrictlySortedBy
  all_apart [] all up = tt
  all_apart (k ∷ ks) all up = (others_apart k all.0 ks all.1 up.0, all_apart ks all.1 up.1)

  pub line_apart : AreApart (line law)
  unfolding line
  line_apart = all_apart (line_of law (works_enacted law)) (all_known law (works_enacted law)) (is_line law).ascends

none_among : (work : List ℕ) (ts : List WorkTouched) → AllByRecursion (λ (other : Known). bytes_eq other.act.work work ≡ false) (map (λ t. t.known) ts)
    → day_among (days_told ts) work ≡ None
none_among work [] all = refl
none_among work (t ∷ ts) all = by t.touched (none_among work ts all.1)
  where
    by : (day : Option ℕ) → day_among (days_told ts) work ≡ None → day_among (with_day (Some t.known.act.work) day ++ days_told ts) work ≡ None
    by None rest = rest
    by (Some day) rest = ap (λ b. cond b (Some day) (day_among (days_told ts) work)) all.0 ∙ rest

told_once : (ts : List WorkTouched) → AreApart (map (λ t. t.known) ts) → AreOnce (days_told ts)
told_once [] apart = tt
told_once (t ∷ ts) apart = by t.touched (told_once ts apart.1)
  where
    by : (day : Option ℕ) → AreOnce (days_told ts) → AreOnce (with_day (Some t.known.act.work) day ++ days_told ts)
    by None rest = rest
    by (Some day) rest = (none_among t.known.act.work ts apart.0, rest)

pub touched_once : (es : List Entry) (e : Entry) → is_legal es ≡ true → AreOnce (touched_works es e)
unfolding touched_works
touched_once es e legal =
    told_once (touched_along es e) (subst AreApart (sym (known_along es e legal Force 1)) (line_apart (laws (es ++ e ∷ []))))
