-- The IRI of a work is read as it is spelled, and spelled as it is read; alone, and at the front of an expression's.
use Rattle.std.proofs.Common.{◌≡◌, ℕ, ◌+◌, ◌-◌, ◌<◌, true, List, [], ◌∷◌, ◌++◌, length, take, get_or, Some, Ok, Err, refl, sym, ap, ◌∙◌, inl, inr, append_assoc, subst, arith}
use Rattle.std.specs.Str.{IsCharBoundary}
use Rattle.std.proofs.lemmas.List.{length-append, append-nil, get_or-append-add}
use Rattle.std.proofs.Math.Seq.{take-append_seam}
use Rattle.frbr_names.specs.declared.date.IriDate.{IriDate}
use Rattle.frbr_names.specs.declared.fault.NameRule.TheVariants.{BadNumber}
use Rattle.frbr_names.specs.Reads.{Read, fault_at, place_of}
use Rattle.frbr_names.specs.Parts.{part_of, behind_part}
use Rattle.frbr_names.specs.Rules.{is_number}
use Rattle.frbr_names.specs.Works.{Work, Front, front_of, work_of, WorkParts, KeepRules, front_text, work_text, work_from, SpellsWork, date_read, date_named}
use Rattle.frbr_names.specs.Dates.{IsDate}
use Rattle.frbr_names.proofs.Readings.{read_on, kept_on}
use Rattle.frbr_names.proofs.Slashes.{cut_again}
use Rattle.frbr_names.proofs.RuleLemmas.{number_is_some}
use Rattle.frbr_names.proofs.FrontLemmas.{front_read, front_spelled}

pub text_is : (parts : WorkParts) → work_text parts ≡ front_text parts.jurisdiction parts.words parts.date ++ parts.number
unfolding work_text
text_is parts = refl

pub work_by : (text : List ℕ) (f : Front) → front_of text ≡ Ok f → is_number f.left ≡ true
    → work_of text ≡ Ok (record { text = text; jurisdiction = f.jurisdiction; date = f.date; number = f.left })
unfolding work_of
work_by text f read is = rw (read, is) refl

-- what parts spell is read as what they say
pub work_read : (parts : WorkParts) → KeepRules parts → work_of (work_text parts) ≡ Ok (work_from parts)
work_read parts kept =
    work_by (work_text parts) (record { jurisdiction = parts.jurisdiction; date = parts.date; left = parts.number })
    (ap front_of (text_is parts) ∙ front_read parts.jurisdiction parts.words parts.date parts.number kept.jurisdiction kept.words kept.few_words kept.date)
    kept.number

-- what is read is spelled of such parts
pub work_spelled : (text : List ℕ) (work : Work) → work_of text ≡ Ok work → SpellsWork text work
unfolding work_of
work_spelled text work e =
    let (f, read, rest) = read_on (front_of text) _ work e in
    let (is, same) = kept_on (fault_at BadNumber (place_of text f.left)) (is_number f.left) _ work rest in
    let front = front_spelled text f read (number_is_some f.left is) in
    let parts : WorkParts = record { jurisdiction = f.jurisdiction; words = front.words; date = f.date; number = f.left } in
    let spelled : text ≡ work_text parts = front.spelled ∙ sym (text_is parts) in
    let here : record { text = text; jurisdiction = f.jurisdiction; date = f.date; number = f.left } ≡ work = cc in
    record {
      parts = parts;
      kept = record { jurisdiction = front.is_jurisdiction_kept; words = front.are_words; few_words = front.few_words; date = front.is_date; number = is };
      spelled = spelled;
      same = sym here ∙ ap (λ t. record { text = t; jurisdiction = f.jurisdiction; date = f.date; number = f.left }) spelled;
    }

-- a part, and what stands behind it, which begins with a `/` if it is anything
pub record EndsPart (left rest : List ℕ) : Type 0 where
  pub whole : left ≡ part_of left ++ rest
  slash : 0 < length rest → get_or rest 0 0 ≡ 47

pub part_ends : (left : List ℕ) → (rest : List ℕ) × EndsPart left rest
part_ends left = elim (cut_again left) [
  | inl all ↦ ([], record { whole = sym all.0 ∙ sym (append-nil (part_of left)); slash = λ some. absurd (omega arith) })
  | inr cut ↦ (47 ∷ behind_part left, record { whole = cut; slash = λ some. refl })
]

-- a work that a name begins with: its own text, and what stands behind it
record WorkCut (text : List ℕ) (f : Front) : Type 0 where
  own : List ℕ
  rest : List ℕ
  whole : text ≡ own ++ rest
  end : length text - length f.left + length (part_of f.left) ≡ length own
  slash : 0 < length rest → get_or rest 0 0 ≡ 47
  read : work_of own ≡ Ok (record { text = own; jurisdiction = f.jurisdiction; date = f.date; number = part_of f.left })

work_cut : (text : List ℕ) (f : Front) → front_of text ≡ Ok f → is_number (part_of f.left) ≡ true → WorkCut text f
work_cut text f read is =
    let (rest, ends) = part_ends f.left in
    let number = part_of f.left in
    let some : 0 < length f.left = omega (arith, number_is_some number is, ap length ends.whole, length-append number rest) in
    let front = front_spelled text f read some in
    let begun = front_text f.jurisdiction front.words f.date in
    record {
      own = begun ++ number;
      rest = rest;
      whole = front.spelled ∙ ap (λ xs. begun ++ xs) ends.whole ∙ sym (append_assoc begun number rest);
      end = omega (arith, ap length front.spelled, length-append begun f.left, length-append begun number);
      slash = ends.slash;
      read =
          work_by (begun ++ number) (record { jurisdiction = f.jurisdiction; date = f.date; left = number })
          (front_read f.jurisdiction front.words f.date number front.is_jurisdiction_kept front.are_words front.few_words front.is_date) is;
    }

-- the name may be cut behind the number of its work
pub work_boundary : (text n : List ℕ) (at : ℕ) (f : Front) → front_of text ≡ Ok f → is_number (part_of f.left) ≡ true → n ≡ part_of f.left
    → at ≡ length text - length f.left → IsCharBoundary text (at + length n)
work_boundary text n at f read is same begin =
    let cut = work_cut text f read is in
    let end : at + length n ≡ length cut.own = omega (arith, cut.end, ap length same) in
    let seam : at + length n ≡ length cut.own + 0 = omega arith in
    let long = ap length cut.whole in
    let byte : get_or text (at + length n) 0 ≡ get_or cut.rest 0 0 =
    ap (λ xs. get_or xs (at + length n) 0) cut.whole ∙ ap (λ k. get_or (cut.own ++ cut.rest) k 0) seam ∙ get_or-append-add cut.own cut.rest 0 0 in
    (omega (arith, length-append cut.own cut.rest), λ inside high. absurd (omega (arith, length-append cut.own cut.rest, cut.slash)))

-- what stands before that place is the IRI of the work
pub own_work : (text t n : List ℕ) (at : ℕ) (f : Front) → front_of text ≡ Ok f → is_number (part_of f.left) ≡ true → n ≡ part_of f.left
    → at ≡ length text - length f.left → t ≡ take (at + length n) text
    → work_of t ≡ Ok (record { text = t; jurisdiction = f.jurisdiction; date = f.date; number = n })
own_work text t n at f read is same begin cut_off =
    let cut = work_cut text f read is in
    let end : at + length n ≡ length cut.own = omega (arith, cut.end, ap length same) in
    let own : cut.own ≡ t =
    sym (cut_off ∙ ap (λ k. take k text) end ∙ ap (take (length cut.own)) cut.whole ∙ take-append_seam cut.own cut.rest) in
    let P : List ℕ → List ℕ → Type 0 = λ t n. work_of t ≡ Ok (record { text = t; jurisdiction = f.jurisdiction; date = f.date; number = n }) in
    subst (λ m. P t m) (sym same) (subst (λ xs. P xs (part_of f.left)) own cut.read)

-- the work that was read has its date, and that is a date
pub named : (text : List ℕ) (work : Work) → work_of text ≡ Ok work → date_named text ≡ Some work.date
unfolding date_named
named text work e = ap date_read e

pub named_date : (text : List ℕ) (date : IriDate) → date_named text ≡ Some date → IsDate date
unfolding date_named
named_date text date e = by (work_of text) refl e
  where
    by : (r : Read Work) → work_of text ≡ r → date_read r ≡ Some date → IsDate date
    by (Ok work) is found =
        let spells = work_spelled text work is in
        let same : spells.parts.date ≡ date = sym (ap (λ w. w.date) spells.same) ∙ (let kept : work.date ≡ date = cc in kept) in
        subst IsDate same spells.kept.date
    by (Err fault) is found = cc
