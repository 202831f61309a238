-- The front of a name is read as it is spelled, and spelled as it is read.
use Rattle.std.proofs.Common.{◌≡◌, ℕ, ◌<◌, ◌≤◌, Bool, true, false, ◌&&◌, if◌then◌else◌, nat_eq, List, [], ◌∷◌, ◌++◌, length, drop, Some, Ok, refl, sym, ap, ◌∙◌, inl, inr, append_assoc, subst, arith}
use Rattle.std.specs.Prelude.{codes}
use Rattle.std.specs.List.{list_all, starts_with}
use Rattle.std.specs.Str.{bytes_eq}
use Rattle.std.proofs.lemmas.Bool.{and_parts, and_from}
use Rattle.std.proofs.lemmas.Option.{cond_some}
use Rattle.std.proofs.lemmas.List.{length-append}
use Rattle.std.proofs.lemmas.List.Folds.{list_all-append}
use Rattle.std.proofs.lemmas.Slice.Eq.{starts_is, bytes_eq-Decides}
use Rattle.std.proofs.lemmas.Bool.Decides.{Decides-eqb}
use Rattle.frbr_names.specs.declared.date.IriDate.{IriDate}
use Rattle.frbr_names.specs.declared.fault.NameRule.TheVariants.{NotAkn, BadJurisdiction, NotAnAct, BadDate}
use Rattle.frbr_names.specs.Reads.{fault_at, place_of}
use Rattle.frbr_names.specs.Parts.{part_of, behind_part, after_front}
use Rattle.frbr_names.specs.Rules.{is_jurisdiction, is_word}
use Rattle.frbr_names.specs.Dates.{IsDate, date_of, spelled_date}
use Rattle.frbr_names.specs.Works.{Front, behind_word, front_of, words_text, front_text}
use Rattle.frbr_names.proofs.Readings.{kept_on, found_on}
use Rattle.frbr_names.proofs.Slashes.{part_of-cut, behind_part-cut, cut_again}
use Rattle.frbr_names.proofs.RuleLemmas.{word_no_slash, jurisdiction_no_slash, date_no_word}
use Rattle.frbr_names.proofs.DateLemmas.{date_no_slash, date_read, date_spelled}

-- a word is passed by, and what is none stays
word_passed : (w rest : List ℕ) → is_word w ≡ true → behind_word (w ++ 47 ∷ rest) ≡ rest
unfolding behind_word
word_passed w rest is = rw (part_of-cut w rest (word_no_slash w is), is) (behind_part-cut w rest (word_no_slash w is))

none_passed : (left : List ℕ) → is_word (part_of left) ≡ false → behind_word left ≡ left
unfolding behind_word
none_passed left other = rw other refl

words_first : (w : List ℕ) (ws : List (List ℕ)) (rest : List ℕ) → words_text (w ∷ ws) ++ rest ≡ w ++ 47 ∷ (words_text ws ++ rest)
unfolding words_text
words_first w ws rest = append_assoc w (47 ∷ words_text ws) rest

words_none : (rest : List ℕ) → words_text [] ++ rest ≡ rest
unfolding words_text
words_none rest = refl

-- at most two words are passed by
words_passed : (ws : List (List ℕ)) (rest : List ℕ) → list_all is_word ws ≡ true → length ws ≤ 2 → is_word (part_of rest) ≡ false
    → behind_word (behind_word (words_text ws ++ rest)) ≡ rest
words_passed [] rest all few other = rw (words_none rest, none_passed rest other) (none_passed rest other)
words_passed (w ∷ []) rest all few other =
    let parts = and_parts (is_word w) true all in
    rw (words_first w [] rest, words_none rest, word_passed w rest parts.0) (none_passed rest other)
words_passed (w ∷ v ∷ []) rest all few other =
    let parts = and_parts (is_word w) (is_word v && true) all in
    let last = and_parts (is_word v) true parts.1 in
    rw (words_first w (v ∷ []) rest, words_first v [] rest, words_none rest, word_passed w (v ++ 47 ∷ rest) parts.0) (word_passed v rest last.0)
words_passed (w ∷ v ∷ u ∷ ws) rest all few other = absurd (omega arith)

-- a front, and what is left behind it, part by part
front_parts : (j : List ℕ) (ws : List (List ℕ)) (d : IriDate) (left : List ℕ)
    → front_text j ws d ++ left ≡ codes "/akn/" ++ (j ++ 47 ∷ (codes "act" ++ 47 ∷ (words_text ws ++ (spelled_date d ++ 47 ∷ left))))
unfolding front_text
front_parts j ws d left = simp append_assoc refl

after_akn : (rest : List ℕ) → after_front (codes "/akn/") (codes "/akn/" ++ rest) ≡ Some rest
unfolding after_front
after_akn rest = refl

front_by : (text left kind dated j : List ℕ) (d : IriDate) → after_front (codes "/akn/") text ≡ Some left → part_of left ≡ j → is_jurisdiction j ≡ true
    → behind_part left ≡ kind → bytes_eq (part_of kind) (codes "act") ≡ true → behind_word (behind_word (behind_part kind)) ≡ dated
    → date_of (part_of dated) ≡ Some d → front_of text ≡ Ok (record { jurisdiction = j; date = d; left = behind_part dated })
unfolding front_of
front_by text left kind dated j d akn first is second act passed date =
    rw (akn, first, is, second, act, passed, date) refl

-- the front that is spelled is read as what it says
pub front_read : (j : List ℕ) (ws : List (List ℕ)) (d : IriDate) (left : List ℕ) → is_jurisdiction j ≡ true → list_all is_word ws ≡ true
    → length ws ≤ 2 → IsDate d → front_of (front_text j ws d ++ left) ≡ Ok (record { jurisdiction = j; date = d; left = left })
front_read j ws d left is all few date =
    let dated = spelled_date d ++ 47 ∷ left in
    let kind = codes "act" ++ 47 ∷ (words_text ws ++ dated) in
    let clean = date_no_slash d in
    let cut : part_of dated ≡ spelled_date d = part_of-cut (spelled_date d) left clean in
    ap front_of (front_parts j ws d left)
    ∙ front_by (codes "/akn/" ++ (j ++ 47 ∷ kind)) (j ++ 47 ∷ kind) kind dated j d (after_akn (j ++ 47 ∷ kind))
    (part_of-cut j kind (jurisdiction_no_slash j is)) is (behind_part-cut j kind (jurisdiction_no_slash j is))
    (ap (λ xs. bytes_eq xs (codes "act")) (part_of-cut (codes "act") (words_text ws ++ dated) refl))
    (ap (λ xs. behind_word (behind_word xs)) (behind_part-cut (codes "act") (words_text ws ++ dated) refl)
    ∙ words_passed ws dated all few (ap is_word cut ∙ date_no_word d))
    (ap date_of cut ∙ date_read d date)
    ∙ ap (λ xs. Ok (record { jurisdiction = j; date = d; left = xs })) (behind_part-cut (spelled_date d) left clean)

-- what stands behind a front that the text begins with
pub front_again : (front text rest : List ℕ) → after_front front text ≡ Some rest → text ≡ front ++ rest
unfolding after_front
front_again front text rest e =
    let test = cond_some (starts_with nat_eq text front) (drop (length front) text) rest e in
    (starts_is Decides-eqb text front (starts_with nat_eq text front) refl).0 test.0 ∙ ap (λ xs. front ++ xs) test.1

-- where something is left behind a part, the part ended with a `/`
pub cut_more : (left : List ℕ) → 0 < length (behind_part left) → left ≡ part_of left ++ 47 ∷ behind_part left
cut_more left more = elim (cut_again left) [
  | inl all ↦ absurd (omega (arith, ap length all.1))
  | inr cut ↦ cut
]

more_left : (left front rest : List ℕ) → left ≡ front ++ rest → 0 < length rest → 0 < length left
more_left left front rest e more = omega (arith, ap length e, length-append front rest)

-- the words that were passed by
record Passed (most : ℕ) (left rest : List ℕ) : Type 0 where
  words : List (List ℕ)
  are_words : list_all is_word words ≡ true
  few : length words ≤ most
  spelled : left ≡ words_text words ++ rest

one_passed : (left : List ℕ) → 0 < length (behind_word left) → Passed 1 left (behind_word left)
unfolding behind_word
one_passed left more = by (is_word (part_of left)) refl more
  where
    by : (t : Bool) → is_word (part_of left) ≡ t → 0 < length (if t then behind_part left else left) → Passed 1 left (if t then behind_part left else left)
    by true is more = record {
      words = part_of left ∷ [];
      are_words = rw is refl;
      few = omega arith;
      spelled = cut_more left more ∙ sym (words_first (part_of left) [] (behind_part left) ∙ ap (λ xs. part_of left ++ 47 ∷ xs) (words_none (behind_part left)));
    }
    by false other more = record { words = []; are_words = refl; few = omega arith; spelled = sym (words_none left) }

words_append : (ws vs : List (List ℕ)) (rest : List ℕ) → words_text ws ++ (words_text vs ++ rest) ≡ words_text (ws ++ vs) ++ rest
words_append [] vs rest = words_none (words_text vs ++ rest)
words_append (w ∷ ws) vs rest =
    words_first w ws (words_text vs ++ rest) ∙ ap (λ xs. w ++ 47 ∷ xs) (words_append ws vs rest) ∙ sym (words_first w (ws ++ vs) rest)

two_passed : (left : List ℕ) → 0 < length (behind_word (behind_word left)) → Passed 2 left (behind_word (behind_word left))
two_passed left more =
    let second = one_passed (behind_word left) more in
    let first = one_passed left (more_left (behind_word left) (words_text second.words) (behind_word (behind_word left)) second.spelled more) in
    record {
      words = first.words ++ second.words;
      are_words = list_all-append is_word first.words second.words ∙ and_from _ _ first.are_words second.are_words;
      few = omega (arith, length-append first.words second.words, first.few, second.few);
      spelled = first.spelled ∙ ap (λ xs. words_text first.words ++ xs) second.spelled ∙ words_append first.words second.words (behind_word (behind_word left));
    }

-- how a text spells the front that was read from it
pub record SpellsFront (text : List ℕ) (f : Front) : Type 0 where
  pub words : List (List ℕ)
  pub is_jurisdiction_kept : is_jurisdiction f.jurisdiction ≡ true
  pub are_words : list_all is_word words ≡ true
  pub few_words : length words ≤ 2
  pub is_date : IsDate f.date
  pub spelled : text ≡ front_text f.jurisdiction words f.date ++ f.left

put_together : (text left kind : List ℕ) (d : IriDate) → text ≡ codes "/akn/" ++ left → is_jurisdiction (part_of left) ≡ true → kind ≡ behind_part left
    → bytes_eq (part_of kind) (codes "act") ≡ true → date_of (part_of (behind_word (behind_word (behind_part kind)))) ≡ Some d
    → 0 < length (behind_part (behind_word (behind_word (behind_part kind))))
    → SpellsFront text (record { jurisdiction = part_of left; date = d; left = behind_part (behind_word (behind_word (behind_part kind))) })
put_together text left kind d begun is second act found more =
    let dated = behind_word (behind_word (behind_part kind)) in
    let date = date_spelled (part_of dated) d found in
    let date_cut : dated ≡ spelled_date d ++ 47 ∷ behind_part dated = cut_more dated more ∙ ap (λ xs. xs ++ 47 ∷ behind_part dated) date.1 in
    let dated_more : 0 < length dated = omega (arith, ap length (cut_more dated more), length-append (part_of dated) (47 ∷ behind_part dated)) in
    let passed = two_passed (behind_part kind) dated_more in
    let words_more : 0 < length (behind_part kind) = more_left (behind_part kind) (words_text passed.words) dated passed.spelled dated_more in
    let kind_cut : kind ≡ codes "act" ++ 47 ∷ behind_part kind =
    cut_more kind words_more ∙ ap (λ xs. xs ++ 47 ∷ behind_part kind) ((bytes_eq-Decides (part_of kind) (codes "act")).0 act) in
    let kind_more : 0 < length (behind_part left) = omega (arith, ap length kind_cut, ap length second) in
    let left_cut : left ≡ part_of left ++ 47 ∷ kind = cut_more left kind_more ∙ ap (λ xs. part_of left ++ 47 ∷ xs) (sym second) in
    let inside : behind_part kind ≡ words_text passed.words ++ (spelled_date d ++ 47 ∷ behind_part dated) = passed.spelled ∙ ap (λ xs. words_text passed.words ++ xs) date_cut in
    record {
      words = passed.words;
      is_jurisdiction_kept = is;
      are_words = passed.are_words;
      few_words = passed.few;
      is_date = date.0;
      spelled =
          begun ∙ ap (λ xs. codes "/akn/" ++ xs) (left_cut ∙ ap (λ xs. part_of left ++ 47 ∷ xs) (kind_cut ∙ ap (λ xs. codes "act" ++ 47 ∷ xs) inside))
          ∙ sym (front_parts (part_of left) passed.words d (behind_part dated));
    }

-- the front that was read is spelled so, where something is left behind it
pub front_spelled : (text : List ℕ) (f : Front) → front_of text ≡ Ok f → 0 < length f.left → SpellsFront text f
unfolding front_of
front_spelled text f e more =
    let (left, akn, rest) = found_on (fault_at NotAkn 0) (after_front (codes "/akn/") text) _ f e in
    let (is, rest2) = kept_on (fault_at BadJurisdiction (place_of text left)) (is_jurisdiction (part_of left)) _ f rest in
    let (act, rest3) = kept_on (fault_at NotAnAct (place_of text (behind_part left))) (bytes_eq (part_of (behind_part left)) (codes "act")) _ f rest2 in
    let dated = behind_word (behind_word (behind_part (behind_part left))) in
    let (d, date, same) = found_on (fault_at BadDate (place_of text dated)) (date_of (part_of dated)) _ f rest3 in
    let P : Front → Type 0 = λ f. 0 < length f.left → SpellsFront text f in
    let here : record { jurisdiction = part_of left; date = d; left = behind_part dated } ≡ f = cc in
    subst P here (put_together text left (behind_part left) d (front_again (codes "/akn/") text left akn) is refl act date) more
