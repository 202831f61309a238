-- What an opening hands in of the works that are enacted is what the register has, in whatever order they are taken.
use Rattle.std.proofs.Common.{◌≡◌, ◌∙◌, ℕ, ◌+◌, sym, ap, refl, subst, Bool, true, false, cond, ◌||◌, List, [], ◌∷◌, ◌++◌, map, append_assoc, take, Option, Some, None, is_some, option_map, arith}
use Rattle.std.specs.Prelude.{IsPermutation, length}
use Rattle.std.specs.List.{AllByRecursion, sum_by}
use Rattle.std.specs.Option.{option_or}
use Rattle.std.specs.Str.{bytes_eq}
use Rattle.std.proofs.lemmas.List.Sorted.{list_any-IsPermutation, sum_by-IsPermutation}
use Rattle.std.proofs.lemmas.List.Sums.{sum_by-cons}
use Rattle.law_register.specs.declared.law.act.Act.{Act}
use Rattle.law_register.specs.declared.law.command.Command.{Command}
use Rattle.law_register.specs.declared.law.command.Command.TheVariants.{Enact, Record, Correct, Withdraw, Restore, DraftAdd, DraftDrop, File}
use Rattle.law_register.specs.declared.register.entry.Entry.{Entry}
use Rattle.law_register.specs.declared.register.known.Known.{Known}
use Rattle.law_register.specs.Answer.Breakpoints.{breakpoints}
use Rattle.law_register.specs.Register.KnownIds.{enacted, enacted_by, enacted_from, enacted_or, known_by}
use Rattle.law_register.specs.Provisions.Carrying.{carrying, held_now}
use Rattle.law_register.specs.Provisions.Line.{line}
use Rattle.law_register.specs.Register.KnownNext.{known_now}
use Rattle.law_register.specs.Register.LawList.{front, laws, works_enacted}
use Rattle.law_register.specs.Register.Verdicts.{is_legal}
use Rattle.law_register.proofs.ApartIds.{none_left, none_right}
use Rattle.law_register.proofs.Next.{now_known}
use Rattle.law_register.proofs.Puts.{bytes_either, bytes_same}
use Rattle.version_cache.specs.Steady.{CarrySteadily}
use Rattle.law_refs.specs.Handing.{judged_at_opening, row_enacted, row_on, rows_if, rows_made, rows_opened}
use Rattle.law_refs.specs.Index.{first_day, refs_in}
use Rattle.law_refs.specs.Missing.{refs_in_force}
use Rattle.law_refs.specs.Names.{is_among}
use Rattle.law_refs.specs.OfRegister.{AreRowsFor, FollowsChange, IsHandedIn, latest_given, rows_given}
use Rattle.law_refs.specs.Rows.{has_begun, is_before}
use Rattle.law_refs.specs.declared.node_ref.NodeRef.{NodeRef}
use Rattle.law_refs.specs.declared.ref_row.RefRow.{RefRow}
use Rattle.law_refs.proofs.Texts.{first_other, first_own, given_other, given_own, made_for, made_of, made_texts, now_steady}
use Rattle.law_refs.proofs.Unmoved.{IsUnmoved, unmoved_missing}

-- ---- rows behind others

pub given_both : (work : List ℕ) (first second : List RefRow) → rows_given work (first ++ second) ≡ rows_given work first ++ rows_given work second
given_both work [] second = refl
given_both work (row ∷ first) second =
    ap (λ rest. cond (bytes_eq row.work work) (row ∷ []) [] ++ rest) (given_both work first second)
    ∙ sym (append_assoc (cond (bytes_eq row.work work) (row ∷ []) []) (rows_given work first) (rows_given work second))

pub first_both : (work : List ℕ) (first second : List RefRow) → first_day work (first ++ second) ≡ option_or (first_day work first) (first_day work second)
first_both work [] second = refl
first_both work (row ∷ first) second = by (bytes_eq row.work work) (first_both work first second)
  where
    by : (t : Bool) → first_day work (first ++ second) ≡ option_or (first_day work first) (first_day work second)
        → cond t (Some row.from) (first_day work (first ++ second)) ≡ option_or (cond t (Some row.from) (first_day work first)) (first_day work second)
    by true rest = refl
    by false rest = rest

latest_both : (day : ℕ) (found : List NodeRef) (first second : List RefRow) → latest_given day found (first ++ second) ≡ latest_given day (latest_given day found first) second
latest_both day found [] second = refl
latest_both day found (row ∷ first) second = latest_both day (cond (has_begun row.from day) row.refs found) first second

all_both : (P : RefRow → Type 0) (first second : List RefRow) → AllByRecursion P first → AllByRecursion P second → AllByRecursion P (first ++ second)
all_both P [] second all rest = rest
all_both P (row ∷ first) second all rest = (all.0, all_both P first second all.1 rest)

-- ---- the rows of a work that is known

module _ (entries : List Entry) (work : List ℕ) where
  -- another work has none of them
  other_first : (own : List ℕ) (known : Option Known) → bytes_eq own work ≡ false → first_day work (rows_if (rows_made own) known) ≡ None
  other_first own None other = refl
  other_first own (Some known) other = first_other own work (rows_made own known) (made_of own known) other

  other_given : (own : List ℕ) (known : Option Known) → bytes_eq own work ≡ false → rows_given work (rows_if (rows_made own) known) ≡ []
  other_given own None other = refl
  other_given own (Some known) other = given_other own work (rows_made own known) (made_of own known) other

  none_first : (works : List (List ℕ)) → is_among work works ≡ false → first_day work (rows_opened entries works) ≡ None
  none_first [] none = refl
  none_first (own ∷ works) none =
      first_both work (rows_if (rows_made own) (held_now entries own)) (rows_opened entries works)
      ∙ ap (λ first. option_or first (first_day work (rows_opened entries works)))
      (other_first own (held_now entries own) (bytes_either own work ∙ none_left (bytes_eq work own) (is_among work works) none))
      ∙ none_first works (none_right (bytes_eq work own) (is_among work works) none)

  module _ (known : Known) (is : held_now entries work ≡ Some known) (steady : CarrySteadily known) where
    -- its rows, once for each time that it stands among works
    abbrev copies : List (List ℕ) → List RefRow
    copies [] = []
    copies (own ∷ works) = cond (bytes_eq own work) (rows_made work known) [] ++ copies works

    here_given : (own : List ℕ) → rows_given work (rows_if (rows_made own) (held_now entries own)) ≡ cond (bytes_eq own work) (rows_made work known) []
    here_given own = by (bytes_eq own work) refl
      where
        by : (t : Bool) → bytes_eq own work ≡ t → rows_given work (rows_if (rows_made own) (held_now entries own)) ≡ cond t (rows_made work known) []
        by true same =
            ap (λ w. rows_given work (rows_if (rows_made w) (held_now entries w))) (bytes_same own work same)
            ∙ ap (λ now. rows_given work (rows_if (rows_made work) now)) is
            ∙ given_own work (rows_made work known) (made_of work known)
        by false other = other_given own (held_now entries own) other

    copies_given : (works : List (List ℕ)) → rows_given work (rows_opened entries works) ≡ copies works
    copies_given [] = refl
    copies_given (own ∷ works) =
        given_both work (rows_if (rows_made own) (held_now entries own)) (rows_opened entries works)
        ∙ ap (λ first. first ++ rows_given work (rows_opened entries works)) (here_given own)
        ∙ ap (λ rest. cond (bytes_eq own work) (rows_made work known) [] ++ rest) (copies_given works)

    some_first : (works : List (List ℕ)) → is_among work works ≡ true → first_day work (rows_opened entries works) ≡ Some None
    some_first [] some = absurd (let no : false ≡ true = some in cc)
    some_first (own ∷ works) some =
        first_both work (rows_if (rows_made own) (held_now entries own)) (rows_opened entries works)
        ∙ by (bytes_eq own work) refl (some_first works)
      where
        by : (t : Bool) → bytes_eq own work ≡ t → (is_among work works ≡ true → first_day work (rows_opened entries works) ≡ Some None)
            → option_or (first_day work (rows_if (rows_made own) (held_now entries own))) (first_day work (rows_opened entries works)) ≡ Some None
        by true same rest =
            ap (λ first. option_or first (first_day work (rows_opened entries works)))
            (ap (λ w. first_day work (rows_if (rows_made w) (held_now entries w))) (bytes_same own work same)
            ∙ ap (λ now. first_day work (rows_if (rows_made work) now)) is
            ∙ first_own work (row_enacted work known) (map (row_on work known) (breakpoints known)) refl)
        by false other rest =
            ap (λ first. option_or first (first_day work (rows_opened entries works))) (other_first own (held_now entries own) other)
            ∙ rest (sym (ap (λ t. t || is_among work works) (bytes_either work own ∙ other)) ∙ some)

    all_copies : (P : RefRow → Type 0) → AllByRecursion P (rows_made work known) → (works : List (List ℕ)) → AllByRecursion P (copies works)
    all_copies P all [] = tt
    all_copies P all (own ∷ works) = by (bytes_eq own work) (all_copies P all works)
      where
        by : (t : Bool) → AllByRecursion P (copies works) → AllByRecursion P (cond t (rows_made work known) [] ++ copies works)
        by true rest = all_both P (rows_made work known) (copies works) all rest
        by false rest = rest

    same_again : (day : ℕ) (works : List (List ℕ)) → latest_given day (refs_in_force known day) (copies works) ≡ refs_in_force known day
    same_again day [] = refl
    same_again day (own ∷ works) = by (bytes_eq own work) (same_again day works)
      where
        by : (t : Bool) → latest_given day (refs_in_force known day) (copies works) ≡ refs_in_force known day
            → latest_given day (refs_in_force known day) (cond t (rows_made work known) [] ++ copies works) ≡ refs_in_force known day
        by true rest =
            latest_both day (refs_in_force known day) (rows_made work known) (copies works)
            ∙ ap (λ found. latest_given day found (copies works)) (made_texts work known steady day (refs_in_force known day))
            ∙ rest
        by false rest = rest

    copies_texts : (day : ℕ) (works : List (List ℕ)) → is_among work works ≡ true → latest_given day [] (copies works) ≡ refs_in_force known day
    copies_texts day [] some = absurd (let no : false ≡ true = some in cc)
    copies_texts day (own ∷ works) some = by (bytes_eq own work) refl (copies_texts day works)
      where
        by : (t : Bool) → bytes_eq own work ≡ t → (is_among work works ≡ true → latest_given day [] (copies works) ≡ refs_in_force known day)
            → latest_given day [] (cond t (rows_made work known) [] ++ copies works) ≡ refs_in_force known day
        by true same rest =
            latest_both day [] (rows_made work known) (copies works)
            ∙ ap (λ found. latest_given day found (copies works)) (made_texts work known steady day [])
            ∙ same_again day works
        by false other rest = rest (sym (ap (λ t. t || is_among work works) (bytes_either work own ∙ other)) ∙ some)

    copies_for : (works : List (List ℕ)) → is_among work works ≡ true → AreRowsFor None known None (copies works)
    copies_for works some =
        let once : AreRowsFor None known None (rows_made work known) = made_for work known steady None in
        record {
          act_day = all_copies (λ (row : RefRow). row.act_day ≡ known.act.day) once.act_day works;
          days = all_copies (λ (row : RefRow). is_before row.from None ≡ false) once.days works;
          texts = λ day real begun. copies_texts day works some;
          earlier = once.earlier;
        }

    known_in : (works : List (List ℕ)) → is_among work works ≡ true
        → IsHandedIn None (Some known) (first_day work (rows_opened entries works)) (rows_given work (rows_opened entries works))
    known_in works some =
        subst (λ first. IsHandedIn None (Some known) first (rows_given work (rows_opened entries works))) (sym (some_first works some))
        (subst (λ rows. IsHandedIn None (Some known) (Some None) rows) (sym (copies_given works)) (copies_for works some))

-- ---- all works

-- works that are exactly those that are known
abbrev AreKnown : List Entry → List (List ℕ) → Type 0
AreKnown entries works = (work : List ℕ) → is_among work works ≡ is_some (held_now entries work)

work_in : (entries : List Entry) (works : List (List ℕ)) → is_legal entries ≡ true → AreKnown entries works → (work : List ℕ)
    → IsHandedIn None (held_now entries work) (first_day work (rows_opened entries works)) (rows_given work (rows_opened entries works))
work_in entries works legal are work = by (held_now entries work) refl
  where
    by : (known : Option Known) → held_now entries work ≡ known
        → IsHandedIn None known (first_day work (rows_opened entries works)) (rows_given work (rows_opened entries works))
    by None is =
        subst (λ first. IsHandedIn None None first (rows_given work (rows_opened entries works))) (sym (none_first entries work works (are work ∙ ap is_some is))) tt
    by (Some known) is = known_in entries work known is (now_steady entries work known legal is) works (are work ∙ ap is_some is)

not_known : (known : Option Known) → is_some known ≡ false → IsUnmoved None known
not_known None none = tt
not_known (Some known) none = absurd (let no : true ≡ false = none in cc)

known_hand_in : (entries : List Entry) (works : List (List ℕ)) → is_legal entries ≡ true → AreKnown entries works → FollowsChange [] entries works (rows_opened entries works)
known_hand_in entries works legal are = record {
  given = work_in entries works legal are;
  targets = λ target apart.
      unmoved_missing [] entries refl legal target (not_known (held_now entries target.work.text) (sym (are target.work.text) ∙ apart));
}

-- ---- the works that are enacted are those that are known

enacted_among : (n : ℕ) (work : List ℕ) (ls : List Command) → is_among work (works_enacted ls) ≡ is_some (enacted_from n work ls)
enacted_among n work [] = refl
enacted_among n work (l ∷ ls) = by l (enacted_among (n + 1) work ls)
  where
    first : (act : Act) (t : Bool) → bytes_eq act.work work ≡ t → is_among work (works_enacted ls) ≡ is_some (enacted_from (n + 1) work ls)
        → (t || is_among work (works_enacted ls)) ≡ is_some (enacted_or n (cond t (Some act) None) (enacted_from (n + 1) work ls))
    first act true same rest = refl
    first act false other rest = rest

    by : (l : Command) → is_among work (works_enacted ls) ≡ is_some (enacted_from (n + 1) work ls)
        → is_among work (works_enacted (l ∷ ls)) ≡ is_some (enacted_or n (enacted_by work l) (enacted_from (n + 1) work ls))
    by (Enact act) rest =
        ap (λ t. t || is_among work (works_enacted ls)) (bytes_either work act.work) ∙ first act (bytes_eq act.work work) refl rest
    by (Record other mods) rest = rest
    by (Correct id body) rest = rest
    by (Withdraw id) rest = rest
    by (Restore id) rest = rest
    by (DraftAdd other body) rest = rest
    by (DraftDrop item) rest = rest
    by (File other seen) rest = rest

known_among : (entries : List Entry) (work : List ℕ) → is_some (enacted work (laws entries)) ≡ is_some (held_now entries work)
known_among entries work = by (enacted work (laws entries)) ∙ sym (ap is_some (now_known entries work)) ∙ held_too (known_now entries work)
  where
    by : (found : Option (ℕ × Act)) → is_some found ≡ is_some (known_by work (front entries) (front entries) (laws entries) found)
    by None = refl
    by (Some found) = refl

    held_too : (known : Option Known) → is_some known ≡ is_some (option_map (carrying (line (take (front entries) (laws entries)))) known)
    held_too None = refl
    held_too (Some known) = refl

in_any_order : (entries : List Entry) (works : List (List ℕ)) → IsPermutation (works_enacted (laws entries)) works → AreKnown entries works
in_any_order entries works order work =
    sym (list_any-IsPermutation (bytes_eq work) (works_enacted (laws entries)) works order)
    ∙ enacted_among 1 work (laws entries) ∙ known_among entries work

-- what is handed in of the works that are enacted
pub opening_hands_in : (entries : List Entry) (works : List (List ℕ)) → is_legal entries ≡ true → IsPermutation (works_enacted (laws entries)) works
    → FollowsChange [] entries works (rows_opened entries works)
opening_hands_in entries works legal order = known_hand_in entries works legal (in_any_order entries works order)

-- ---- how many references they have

refs_both : (first second : List RefRow) → refs_in (first ++ second) ≡ refs_in first + refs_in second
refs_both [] second = alone (refs_in second)
  where
    alone : (n : ℕ) → n ≡ 0 + n
    alone n = omega arith
refs_both (row ∷ first) second = joined (length row.refs) (refs_in first) (refs_in second) (refs_in (first ++ second)) (refs_both first second)
  where
    joined : (a b c d : ℕ) → d ≡ b + c → a + d ≡ a + b + c
    joined a b c d h = omega (arith, h)

-- those of one work
abbrev refs_of_work : List Entry → List ℕ → ℕ
refs_of_work entries work = refs_in (rows_if (rows_made work) (held_now entries work))

summed : (entries : List Entry) (works : List (List ℕ)) → refs_in (rows_opened entries works) ≡ sum_by (refs_of_work entries) works
summed entries [] = refl
summed entries (work ∷ works) =
    refs_both (rows_if (rows_made work) (held_now entries work)) (rows_opened entries works)
    ∙ ap (λ rest. refs_of_work entries work + rest) (summed entries works)
    ∙ sym (sum_by-cons (refs_of_work entries) work works)

pub opening_judges : (entries : List Entry) (works : List (List ℕ)) → IsPermutation (works_enacted (laws entries)) works
    → refs_in (rows_opened entries works) ≡ judged_at_opening entries
unfolding judged_at_opening
opening_judges entries works order =
    summed entries works
    ∙ sum_by-IsPermutation (refs_of_work entries) (works_enacted (laws entries)) works order
    ∙ sym (summed entries (works_enacted (laws entries)))
