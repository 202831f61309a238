-- What an index of a register lists is what dangles by the register alone.
use Rattle.std.proofs.Common.{◌≡◌, ◌∙◌, ℕ, ◌≤◌, sym, ap, refl, subst, Bool, true, false, cond, ◌||◌, List, [], ◌∷◌, ◌++◌, map}
use Rattle.std.specs.Prelude.{nat_le, Option, Some, None, is_some}
use Rattle.std.specs.BTreeMap.{is_at}
use Rattle.std.specs.Cmp.Lexicographic.{slice_cmp}
use Rattle.std.specs.List.{AllByRecursion, list_any}
use Rattle.std.specs.List.Sorted.{IsStrictlySortedBy}
use Rattle.std.specs.Map.{keys_of}
use Rattle.std.specs.Ordering.{is_eq, nat_cmp}
use Rattle.std.specs.Str.{bytes_eq}
use Rattle.std.specs.declared.cmp.Ordering.TheVariants.{Less}
use Rattle.std.proofs.lemmas.Map.Entries.{lookup_head}
use Rattle.std.proofs.lemmas.Map.Keys.{sorted_head, sorted_tail}
use Rattle.std.proofs.lemmas.Map.Made.{is_some-lookup}
use Rattle.std.proofs.lemmas.Map.Text.{is_eq-slice_cmp}
use Rattle.std.proofs.lemmas.Slice.Eq.{bytes_eq-Decides}
use Rattle.law_register.specs.declared.register.entry.Entry.{Entry}
use Rattle.law_register.specs.declared.register.known.Known.{Known}
use Rattle.law_register.specs.Provisions.Carrying.{held_now}
use Rattle.law_refs.specs.Index.{Kept, kept_of}
use Rattle.law_refs.specs.Judging.{Answers, judged}
use Rattle.law_refs.specs.Listed.{all_listed, dangling_on, listed_of}
use Rattle.law_refs.specs.Missing.{IsDangling, dangling_if, dangling_in, dangling_of, missing}
use Rattle.law_refs.specs.Names.{is_among}
use Rattle.law_refs.specs.OfRegister.{IsFor, IsIndexOf, Matches, unjudged}
use Rattle.law_refs.specs.Right.{IsRight, anew_ref, anew_work}
use Rattle.law_refs.specs.Rows.{refs_on}
use Rattle.law_refs.specs.declared.node_ref.JudgedRef.{JudgedRef}
use Rattle.law_refs.specs.declared.ref_row.WorkRefs.{WorkRefs}
use Rattle.law_refs.proofs.Broken.{latest_anew}
use Rattle.law_refs.proofs.Handed.{same_work}

-- ---- one work

judged_unjudged : (answers : Answers) (refs : List JudgedRef) → map (judged answers) (map unjudged refs) ≡ map (anew_ref answers) refs
unfolding judged anew_ref
judged_unjudged answers [] = refl
judged_unjudged answers (kept ∷ refs) = ap (λ rest. anew_ref answers kept ∷ rest) (judged_unjudged answers refs)

refs_judged : (answers : Answers) (day : ℕ) (kept : WorkRefs) → anew_work answers kept ≡ kept → refs_on day kept.rows ≡ map (judged answers) (map unjudged (refs_on day kept.rows))
unfolding anew_work
refs_judged answers day kept right =
    ap (λ (one : WorkRefs). refs_on day one.rows) (sym right) ∙ latest_anew answers day [] kept.rows
    ∙ sym (judged_unjudged answers (refs_on day kept.rows))

listed_for : (entries : List Entry) (day : ℕ) → 1 ≤ day → (work : List ℕ) (known : Known) (kept : WorkRefs)
    → anew_work (missing entries) kept ≡ kept → IsFor known kept → listed_of day work kept ≡ dangling_of entries day work known
unfolding listed_of dangling_of
listed_for entries day real work known kept right for =
    ap (λ start. cond (nat_le start day) (all_listed work (refs_on day kept.rows)) []) for.act_day
    ∙ ap (λ refs. cond (nat_le known.act.day day) (all_listed work refs) [])
    (refs_judged (missing entries) day kept right ∙ ap (map (judged (missing entries))) (for.texts day real))

listed_if : (entries : List Entry) (day : ℕ) → 1 ≤ day → (work : List ℕ) (known : Option Known) (kept : WorkRefs)
    → anew_work (missing entries) kept ≡ kept → Matches known (Some kept) → listed_of day work kept ≡ dangling_if entries day work known
listed_if entries day real work None kept right none = absurd none
listed_if entries day real work (Some known) kept right for = listed_for entries day real work known kept right for

-- ---- all works

abbrev first_kept : WorkRefs → Kept → WorkRefs
first_kept other [] = other
first_kept other (e ∷ es) = e.1

abbrev others : Kept → Kept
others [] = []
others (e ∷ es) = es

listed_all : (entries : List Entry) (day : ℕ) → 1 ≤ day → (index : Kept) → AllByRecursion (λ e. Matches (held_now entries e.0) (Some e.1)) index → IsRight (missing entries) index
    → dangling_on day index ≡ dangling_in entries day (keys_of index)
listed_all entries day real [] each right = refl
listed_all entries day real (e ∷ es) each right =
    ap (λ here. here ++ dangling_on day es) (listed_if entries day real e.0 (held_now entries e.0) e.1 (ap (first_kept e.1) right) each.0)
    ∙ ap (λ rest. dangling_if entries day e.0 (held_now entries e.0) ++ rest) (listed_all entries day real es each.1 (ap others right))

itself : (work : List ℕ) → is_eq (slice_cmp nat_cmp work work) ≡ true
itself work = is_eq-slice_cmp work work ∙ (bytes_eq-Decides work work).1 refl

none_equal : (work : List ℕ) (works : List (List ℕ)) → AllByRecursion (λ other. slice_cmp nat_cmp work other ≡ Less) works → list_any (is_at (slice_cmp nat_cmp work)) works ≡ false
none_equal work [] below = refl
none_equal work (other ∷ works) below =
    ap (λ o. is_eq o || list_any (is_at (slice_cmp nat_cmp work)) works) below.0 ∙ none_equal work works below.1

not_found : (work : List ℕ) (kept : WorkRefs) (index : Kept) → list_any (is_at (slice_cmp nat_cmp work)) (keys_of index) ≡ false → kept_of work index ≡ Some kept → ⊥
not_found work kept index none found =
    let no : true ≡ false = ap is_some (sym found) ∙ is_some-lookup (is_at (slice_cmp nat_cmp work)) index ∙ none in cc

-- what is found behind the first is found in all
still_found : (e : List ℕ × WorkRefs) (es : Kept) (work : List ℕ) (kept : WorkRefs) → AllByRecursion (λ other. slice_cmp nat_cmp e.0 other ≡ Less) (keys_of es)
    → kept_of work es ≡ Some kept → kept_of work (e ∷ es) ≡ Some kept
still_found e es work kept below found = by (is_eq (slice_cmp nat_cmp work e.0)) refl
  where
    by : (t : Bool) → is_eq (slice_cmp nat_cmp work e.0) ≡ t → cond t (Some e.1) (kept_of work es) ≡ Some kept
    by true same =
        absurd (not_found work kept es (subst (λ w. list_any (is_at (slice_cmp nat_cmp w)) (keys_of es) ≡ false) (sym (same_work work e.0 same)) (none_equal e.0 (keys_of es) below)) found)
    by false other = found

each_for : (known : List ℕ → Option Known) (index : Kept) → IsStrictlySortedBy (slice_cmp nat_cmp) (keys_of index)
    → ((work : List ℕ) (kept : WorkRefs) → kept_of work index ≡ Some kept → Matches (known work) (Some kept))
    → AllByRecursion (λ e. Matches (known e.0) (Some e.1)) index
each_for known [] sorted at = tt
each_for known (e ∷ es) sorted at = (
  at e.0 e.1 (lookup_head (is_at (slice_cmp nat_cmp e.0)) e es (itself e.0)),
  each_for known es (sorted_tail (slice_cmp nat_cmp) e.0 (keys_of es) sorted)
      (λ work kept found. at work kept (still_found e es work kept (sorted_head (slice_cmp nat_cmp) e.0 (keys_of es) sorted) found)),
)

as_among : (work : List ℕ) (works : List (List ℕ)) → list_any (is_at (slice_cmp nat_cmp work)) works ≡ is_among work works
as_among work [] = refl
as_among work (other ∷ works) =
    ap (λ t. t || list_any (is_at (slice_cmp nat_cmp work)) works) (is_eq-slice_cmp work other)
    ∙ ap (λ t. bytes_eq work other || t) (as_among work works)

as_known : (known : Option Known) (kept : Option WorkRefs) → Matches known kept → is_some kept ≡ is_some known
as_known None None matches = refl
as_known None (Some kept) none = absurd none
as_known (Some known) None none = absurd none
as_known (Some known) (Some kept) matches = refl

pub lists_what_dangles : (index : Kept) → IsStrictlySortedBy (slice_cmp nat_cmp) (keys_of index) → (entries : List Entry) (day : ℕ) → 1 ≤ day → IsIndexOf entries index → IsDangling entries day (dangling_on day index)
lists_what_dangles index sorted entries day real of_register = record {
  works = keys_of index;
  all = λ work. sym (as_among work (keys_of index)) ∙ sym (is_some-lookup (is_at (slice_cmp nat_cmp work)) index) ∙ as_known (held_now entries work) (kept_of work index) (of_register.kept work);
  in_order = sorted;
  is = listed_all entries day real index
      (each_for (held_now entries) index sorted (λ work kept found. subst (Matches (held_now entries work)) found (of_register.kept work)))
      of_register.right;
}
