-- The IRI of an expression is read as it is spelled, and spelled as it is read.
use Rattle.std.proofs.Common.{◌≡◌, ℕ, ◌+◌, ◌-◌, ◌<◌, Bool, true, false, not, ◌&&◌, ◌==◌, if◌then◌else◌, List, [], ◌∷◌, ◌++◌, length, take, drop, Option, Some, None, Ok, refl, sym, ap, ◌∙◌, inl, inr, ◌⊎◌, append_assoc, subst, arith}
use Rattle.std.specs.Prelude.{IfSome}
use Rattle.std.specs.List.{list_all}
use Rattle.std.specs.Char.{is_ascii_lowercase}
use Rattle.std.proofs.lemmas.Bool.{and_parts, and_from, eqb-true}
use Rattle.std.proofs.lemmas.Option.{cond_some}
use Rattle.std.proofs.lemmas.List.{length-append, nil_from_length, append-nil}
use Rattle.std.proofs.lemmas.List.Folds.{list_all-append}
use Rattle.std.proofs.Math.Seq.{take-append_seam, drop-append-add}
use Rattle.desk_base.specs.Days.{IsDay, day_of}
use Rattle.desk_base.proofs.DayLaws.{day_read, day_spelled}
use Rattle.frbr_names.specs.declared.fault.NameRule.TheVariants.{BadDate, BadNumber, BadLanguage}
use Rattle.frbr_names.specs.Reads.{◌>>=◌, fault_at, place_of, or_fault}
use Rattle.frbr_names.specs.Parts.{is_slash, part_of, behind_part, behind_slash}
use Rattle.frbr_names.specs.Rules.{is_number}
use Rattle.frbr_names.specs.Works.{Work, Front, front_of, work_of, front_text}
use Rattle.frbr_names.specs.Expressions.{Expression, language_of, behind_sign, version_in, ending_of, work_in, expression_behind, expression_of, is_language, version_text, portion_text, versioned_text, expression_text, KeepsRules, IsEnding, SpellsExpression}
use Rattle.frbr_names.proofs.Readings.{read_on, kept_on, found_on}
use Rattle.frbr_names.proofs.Slashes.{HasNoSlash, through, part_of-cut, part_of-all, behind_part-cut, behind_slash-cut, behind_slash-none, left_again}
use Rattle.frbr_names.proofs.RuleLemmas.{all_not_byte, number_no_slash}
use Rattle.frbr_names.proofs.DateLemmas.{day_text_no_slash, day_is_long}
use Rattle.frbr_names.proofs.FrontLemmas.{front_read, front_spelled, cut_more}
use Rattle.frbr_names.proofs.WorkLemmas.{text_is, work_by, work_spelled}
use Rattle.frbr_names.proofs.EndingLemmas.{ending_read, ending_again}

-- what stands behind the `@` of a language
sign_cut : (l rest : List ℕ) → list_all is_ascii_lowercase l ≡ true → behind_sign (l ++ 64 ∷ rest) ≡ rest
unfolding behind_sign
sign_cut l rest all =
    ap (λ n. drop (n + 1) (l ++ 64 ∷ rest)) (through (λ b. not (b == 64)) l rest 64 (all_not_byte 64 is_ascii_lowercase l refl all) refl)
    ∙ drop-append-add l (64 ∷ rest) 1

language_letters : (l : List ℕ) → is_language l ≡ true → (length l ≡ 3) × (list_all is_ascii_lowercase l ≡ true)
unfolding is_language
language_letters l is =
    let parts = and_parts (length l == 3) (list_all is_ascii_lowercase l) is in
    (eqb-true (length l) 3 parts.0, parts.1)

three_read : (l rest : List ℕ) → length l ≡ 3 → list_all is_ascii_lowercase l ≡ true → language_of (l ++ 64 ∷ rest) ≡ Some l
unfolding language_of
three_read [] rest three all = absurd (omega arith)
three_read (a ∷ []) rest three all = absurd (omega arith)
three_read (a ∷ b ∷ []) rest three all = absurd (omega arith)
three_read (a ∷ b ∷ c ∷ []) rest three all =
    let first = and_parts (is_ascii_lowercase a) (is_ascii_lowercase b && (is_ascii_lowercase c && true)) all in
    let second = and_parts (is_ascii_lowercase b) (is_ascii_lowercase c && true) first.1 in
    let third = and_parts (is_ascii_lowercase c) true second.1 in
    rw (first.0, second.0, third.0) refl
three_read (a ∷ b ∷ c ∷ d ∷ l) rest three all = absurd (omega arith)

-- the language that was read, and what stands behind its `@`
record IsBegun (part l : List ℕ) : Type 0 where
  version : List ℕ
  kept : is_language l ≡ true
  whole : part ≡ l ++ 64 ∷ version
  behind : behind_sign part ≡ version

begun : (a b c sign : ℕ) (rest l : List ℕ)
    → (is_ascii_lowercase a && is_ascii_lowercase b && is_ascii_lowercase c && sign == 64) ≡ true → a ∷ b ∷ c ∷ [] ≡ l → IsBegun (a ∷ b ∷ c ∷ sign ∷ rest) l
unfolding is_language
begun a b c sign rest l test same =
    let parts = and_parts (is_ascii_lowercase a && is_ascii_lowercase b && is_ascii_lowercase c) (sign == 64) test in
    let letters = and_parts (is_ascii_lowercase a && is_ascii_lowercase b) (is_ascii_lowercase c) parts.0 in
    let front = and_parts (is_ascii_lowercase a) (is_ascii_lowercase b) letters.0 in
    let all : list_all is_ascii_lowercase (a ∷ b ∷ c ∷ []) ≡ true = rw (front.0, front.1, letters.1) refl in
    let P : List ℕ → Type 0 = λ l. IsBegun (a ∷ b ∷ c ∷ sign ∷ rest) l in
    let is_sign : sign ≡ 64 = eqb-true sign 64 parts.1 in
    let whole : a ∷ b ∷ c ∷ sign ∷ rest ≡ (a ∷ b ∷ c ∷ []) ++ 64 ∷ rest = ap (λ s. a ∷ b ∷ c ∷ s ∷ rest) is_sign in
    subst P same (record { version = rest; kept = all; whole = whole; behind = ap behind_sign whole ∙ sign_cut (a ∷ b ∷ c ∷ []) rest all })

language_again : (part l : List ℕ) → language_of part ≡ Some l → IsBegun part l
unfolding language_of
language_again [] l e = cc
language_again (a ∷ []) l e = cc
language_again (a ∷ b ∷ []) l e = cc
language_again (a ∷ b ∷ c ∷ []) l e = cc
language_again (a ∷ b ∷ c ∷ sign ∷ rest) l e =
    let test = cond_some (is_ascii_lowercase a && is_ascii_lowercase b && is_ascii_lowercase c && sign == 64) (a ∷ b ∷ c ∷ []) l e in
    begun a b c sign rest l test.0 test.1

-- a version is read as it is spelled, and spelled as it is read
version_read : (place : ℕ) (v : Option ℕ) → IfSome v IsDay → version_in place (version_text v) ≡ Ok v
unfolding version_in
version_read place None is = refl
version_read place (Some day) is = rw (day_is_long day, day_read day is) refl

version_again : (place : ℕ) (spelled : List ℕ) (v : Option ℕ) → version_in place spelled ≡ Ok v → IfSome v IsDay × (spelled ≡ version_text v)
unfolding version_in
version_again place spelled v e = by (length spelled == 0) refl e
  where
    by : (t : Bool) → (length spelled == 0) ≡ t
        → (if t then Ok None else (or_fault (fault_at BadDate place) (day_of spelled) >>= (λ day. Ok (Some day)))) ≡ Ok v
        → IfSome v IsDay × (spelled ≡ version_text v)
    by true empty read =
        let here : None ≡ v = cc in
        let P : Option ℕ → Type 0 = λ v. IfSome v IsDay × (spelled ≡ version_text v) in
        subst P here (tt, nil_from_length spelled (eqb-true (length spelled) 0 empty))
    by false some read =
        let (day, found, same) = found_on (fault_at BadDate place) (day_of spelled) _ v read in
        let here : Some day ≡ v = cc in
        let P : Option ℕ → Type 0 = λ v. IfSome v IsDay × (spelled ≡ version_text v) in
        subst P here (day_spelled spelled day found)

version_no_slash : (v : Option ℕ) → HasNoSlash (version_text v)
version_no_slash None = refl
version_no_slash (Some day) = day_text_no_slash day

part_no_slash : (l version : List ℕ) → list_all is_ascii_lowercase l ≡ true → HasNoSlash version → HasNoSlash (l ++ 64 ∷ version)
part_no_slash l version all none =
    list_all-append (λ b. not (is_slash b)) l (64 ∷ version) ∙ and_from _ _ (all_not_byte 47 is_ascii_lowercase l refl all) none

-- a part, and what is found behind it
tail_read : (part ending : List ℕ) (behind : Option (List ℕ)) → HasNoSlash part
    → ((ending ≡ []) × (behind ≡ None)) ⊎ ((b : List ℕ) × (ending ≡ 47 ∷ b) × (behind ≡ Some b))
    → (part_of (part ++ ending) ≡ part) × (behind_slash (part ++ ending) ≡ behind)
tail_read part ending behind none (inl (nothing, is)) =
    let whole : part ++ ending ≡ part = ap (λ xs. part ++ xs) nothing ∙ append-nil part in
    (ap part_of whole ∙ part_of-all part none, ap behind_slash whole ∙ behind_slash-none part none ∙ sym is)
tail_read part ending behind none (inr (b, more, is)) =
    let whole : part ++ ending ≡ part ++ 47 ∷ b = ap (λ xs. part ++ xs) more in
    (ap part_of whole ∙ part_of-cut part b none, ap behind_slash whole ∙ behind_slash-cut part b none ∙ sym is)

-- the work that a name begins with ends where its number does
work_in_is : (text front tail : List ℕ) (f : Front) → text ≡ front ++ f.left → f.left ≡ part_of f.left ++ 47 ∷ tail
    → work_in text f ≡ record { text = front ++ part_of f.left; jurisdiction = f.jurisdiction; date = f.date; number = part_of f.left }
unfolding work_in
work_in_is text front tail f whole left =
    let number = part_of f.left in
    let spelled : text ≡ (front ++ number) ++ 47 ∷ tail = whole ∙ ap (λ xs. front ++ xs) left ∙ sym (append_assoc front number (47 ∷ tail)) in
    let end : length text - length f.left + length number ≡ length (front ++ number) =
    omega (arith, ap length whole, length-append front f.left, length-append front number) in
    let own : take (length text - length f.left + length number) text ≡ front ++ number =
    ap (λ k. take k text) end ∙ ap (take (length (front ++ number))) spelled ∙ take-append_seam (front ++ number) (47 ∷ tail) in
    ap (λ t. record { text = t; jurisdiction = f.jurisdiction; date = f.date; number = number }) own

-- a name up to its version, and its ending, part by part
versioned_is : (e : Expression) (ending : List ℕ)
    → versioned_text e ++ ending ≡ e.work.text ++ 47 ∷ (e.language ++ 64 ∷ (version_text e.version ++ ending))
unfolding versioned_text
versioned_is e ending = simp append_assoc refl

behind_by : (text tail part : List ℕ) (f : Front) (w : Work) (l : List ℕ) (v : Option ℕ) (p behind : Option (List ℕ)) → is_number (part_of f.left) ≡ true
    → behind_part f.left ≡ tail → part_of tail ≡ part → language_of part ≡ Some l → behind_sign part ≡ version_text v
    → version_in (place_of text tail + 4) (version_text v) ≡ Ok v → behind_slash tail ≡ behind → ending_of text behind ≡ Ok p → work_in text f ≡ w
    → expression_behind text f ≡ Ok (record { work = w; language = l; version = v; portion = p })
unfolding expression_behind
behind_by text tail part f w l v p behind is left first language sign version slash ending work =
    rw (is, left, first, language, sign, version, slash, ending, work) refl

expression_by : (text : List ℕ) (f : Front) (e : Expression) → front_of text ≡ Ok f → expression_behind text f ≡ Ok e → expression_of text ≡ Ok e
unfolding expression_of
expression_by text f e read behind = rw read behind

-- what is spelled is read as what it says
pub expression_read : (text : List ℕ) (e : Expression) → SpellsExpression text e → expression_of text ≡ Ok e
expression_read text e spells =
    let kept = spells.kept in
    let of_work = work_spelled e.work.text e.work kept.work in
    let parts = of_work.parts in
    let rules = of_work.kept in
    let front = front_text parts.jurisdiction parts.words parts.date in
    let number = parts.number in
    let letters = language_letters e.language kept.language in
    let part = e.language ++ 64 ∷ version_text e.version in
    let (behind, ends) = ending_read text spells.ending e.portion kept.portion spells.is_ending in
    let tail = part ++ spells.ending in
    let cut = tail_read part spells.ending behind (part_no_slash e.language (version_text e.version) letters.1 (version_no_slash e.version)) ends.spelled in
    let f : Front = record { jurisdiction = parts.jurisdiction; date = parts.date; left = number ++ 47 ∷ tail } in
    let number_part : part_of (number ++ 47 ∷ tail) ≡ number = part_of-cut number tail (number_no_slash number rules.number) in
    let own : e.work.text ≡ front ++ number = of_work.spelled ∙ text_is parts in
    let whole : text ≡ front ++ (number ++ 47 ∷ tail) =
    spells.spelled ∙ versioned_is e spells.ending
    ∙ ap (λ xs. e.work.text ++ 47 ∷ xs) (sym (append_assoc e.language (64 ∷ version_text e.version) spells.ending))
    ∙ ap (λ xs. xs ++ 47 ∷ tail) own ∙ append_assoc front number (47 ∷ tail) in
    let read : front_of text ≡ Ok f =
    ap front_of whole ∙ front_read parts.jurisdiction parts.words parts.date (number ++ 47 ∷ tail) rules.jurisdiction rules.words rules.few_words rules.date in
    let work : work_in text f ≡ e.work =
    work_in_is text front tail f whole (ap (λ xs. xs ++ 47 ∷ tail) (sym number_part))
    ∙ ap (λ n. record { text = front ++ n; jurisdiction = parts.jurisdiction; date = parts.date; number = n }) number_part
    ∙ ap (λ t. record { text = t; jurisdiction = parts.jurisdiction; date = parts.date; number = number }) (sym (text_is parts))
    ∙ sym of_work.same in
    expression_by text f e read
    (behind_by text tail part f e.work e.language e.version e.portion behind (ap is_number number_part ∙ rules.number)
    (behind_part-cut number tail (number_no_slash number rules.number)) cut.0 (three_read e.language (version_text e.version) letters.0 letters.1)
    (sign_cut e.language (version_text e.version) letters.1) (version_read (place_of text tail + 4) e.version kept.version) cut.1 ends.read work)

pub own_read : (e : Expression) → KeepsRules e → expression_of (expression_text e) ≡ Ok e
unfolding expression_text versioned_text
own_read e kept = expression_read (expression_text e) e (record { kept = kept; ending = portion_text e.portion; is_ending = inl refl; spelled = refl })

-- a name of its front, its number, its language, its version and its ending
name_whole : (text front left number tail part ending l version : List ℕ) → text ≡ front ++ left → left ≡ number ++ 47 ∷ tail → tail ≡ part ++ ending
    → part ≡ l ++ 64 ∷ version → text ≡ (front ++ number) ++ 47 ∷ (l ++ 64 ∷ (version ++ ending))
name_whole text front left number tail part ending l version whole left_is tail_is part_is =
    let rest : tail ≡ l ++ 64 ∷ (version ++ ending) = tail_is ∙ ap (λ xs. xs ++ ending) part_is ∙ append_assoc l (64 ∷ version) ending in
    let behind : left ≡ number ++ 47 ∷ (l ++ 64 ∷ (version ++ ending)) = left_is ∙ ap (λ xs. number ++ 47 ∷ xs) rest in
    whole ∙ ap (λ xs. front ++ xs) behind ∙ sym (append_assoc front number (47 ∷ (l ++ 64 ∷ (version ++ ending))))

spells_by : (text : List ℕ) (e : Expression) (end : List ℕ) → KeepsRules e → IsEnding e.portion end
    → text ≡ e.work.text ++ 47 ∷ (e.language ++ 64 ∷ (version_text e.version ++ end)) → SpellsExpression text e
spells_by text e end kept is whole = record { kept = kept; ending = end; is_ending = is; spelled = whole ∙ sym (versioned_is e end) }

for_work : (text l : List ℕ) (v : Option ℕ) (p : Option (List ℕ)) (one same : Work) → one ≡ same
    → SpellsExpression text (record { work = same; language = l; version = v; portion = p })
    → SpellsExpression text (record { work = one; language = l; version = v; portion = p })
for_work text l v p one same is spells =
    let P : Work → Type 0 = λ w. SpellsExpression text (record { work = w; language = l; version = v; portion = p }) in subst P (sym is) spells

-- what was read behind the front is spelled so
behind_again : (text : List ℕ) (f : Front) (l : List ℕ) (v : Option ℕ) (p : Option (List ℕ)) → front_of text ≡ Ok f → is_number (part_of f.left) ≡ true
    → language_of (part_of (behind_part f.left)) ≡ Some l → version_in (place_of text (behind_part f.left) + 4) (behind_sign (part_of (behind_part f.left))) ≡ Ok v
    → ending_of text (behind_slash (behind_part f.left)) ≡ Ok p
    → SpellsExpression text (record { work = work_in text f; language = l; version = v; portion = p })
behind_again text f l v p read is language version ending =
    let tail = behind_part f.left in
    let number = part_of f.left in
    let letters = language_again (part_of tail) l language in
    let day = version_again (place_of text tail + 4) (behind_sign (part_of tail)) v version in
    let (end, named, how) = ending_again text (behind_slash tail) p ending in
    let tail_is : tail ≡ part_of tail ++ end = left_again tail end (behind_slash tail) refl how in
    let part_is : part_of tail ≡ l ++ 64 ∷ version_text v = letters.whole ∙ ap (λ xs. l ++ 64 ∷ xs) (sym letters.behind ∙ day.1) in
    let some : 0 < length tail = omega (arith, ap length tail_is, ap length part_is, length-append (part_of tail) end, length-append l (64 ∷ version_text v)) in
    let left : f.left ≡ number ++ 47 ∷ tail = cut_more f.left some in
    let more : 0 < length f.left = omega (arith, ap length left, length-append number (47 ∷ tail)) in
    let spelled = front_spelled text f read more in
    let front = front_text f.jurisdiction spelled.words f.date in
    let w : Work = record { text = front ++ number; jurisdiction = f.jurisdiction; date = f.date; number = number } in
    let work : work_in text f ≡ w = work_in_is text front tail f spelled.spelled left in
    let own : work_of (front ++ number) ≡ Ok w =
    work_by (front ++ number) (record { jurisdiction = f.jurisdiction; date = f.date; left = number })
    (front_read f.jurisdiction spelled.words f.date number spelled.is_jurisdiction_kept spelled.are_words spelled.few_words spelled.is_date) is in
    let e : Expression = record { work = w; language = l; version = v; portion = p } in
    let whole = name_whole text front f.left number tail (part_of tail) end l (version_text v) spelled.spelled left tail_is part_is in
    for_work text l v p (work_in text f) w work
    (spells_by text e end (record { work = own; language = letters.kept; version = day.0; portion = named.kept }) named.is whole)

-- what is read is spelled so
pub expression_spelled : (text : List ℕ) (e : Expression) → expression_of text ≡ Ok e → SpellsExpression text e
unfolding expression_of expression_behind
expression_spelled text e read =
    let (f, front, rest) = read_on (front_of text) (expression_behind text) e read in
    let tail = behind_part f.left in
    let (is, rest2) = kept_on (fault_at BadNumber (place_of text f.left)) (is_number (part_of f.left)) _ e rest in
    let (l, language, rest3) = found_on (fault_at BadLanguage (place_of text tail)) (language_of (part_of tail)) _ e rest2 in
    let (v, version, rest4) = read_on (version_in (place_of text tail + 4) (behind_sign (part_of tail))) _ e rest3 in
    let (p, ending, same) = read_on (ending_of text (behind_slash tail)) _ e rest4 in
    let P : Expression → Type 0 = λ e. SpellsExpression text e in
    let here : record { work = work_in text f; language = l; version = v; portion = p } ≡ e = cc in
    subst P here (behind_again text f l v p front is language version ending)
