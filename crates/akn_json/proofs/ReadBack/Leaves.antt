-- The parts of a modification, as they are printed, are read as those parts.
use Rattle.std.proofs.Common.{◌≡◌, ◌≤◌, ◌∙◌, ℕ, ◌+◌, true, not, List, ◌∷◌, take, drop, Option, Some, None, Ok, Err, is_ok, refl, sym, ap, arith}
use Rattle.std.specs.Prelude.{IfSome}
use Rattle.std.specs.Char.{is_ascii_digit}
use Rattle.std.specs.Fmt.{decimal}
use Rattle.std.specs.List.{list_all}
use Rattle.std.proofs.lemmas.Bool.{le-leb}
use Rattle.std.proofs.lemmas.Fmt.{decimal_is_IsNumeral}
use Rattle.std.proofs.Math.Seq.{take-append_seam, drop-append-add}
use Rattle.serde_json.specs.Data.{string}
use Rattle.desk_base.specs.Days.{IsDay}
use Rattle.desk_base.specs.Decimals.{decimal_up_to}
use Rattle.desk_base.specs.Ids.{id_text, is_stop, law_of, item_of, id_of}
use Rattle.desk_base.specs.declared.id.Id.{Id}
use Rattle.desk_base.specs.declared.period.Period.{Period}
use Rattle.desk_base.proofs.DayLaws.{day_read}
use Rattle.desk_base.proofs.Numerals.{own, number_read}
use Rattle.frbr_names.specs.Reads.{Read as NameRead}
use Rattle.frbr_names.specs.Rules.{is_portion}
use Rattle.frbr_names.specs.Works.{Work, work_of}
use Rattle.frbr_names.proofs.RuleLemmas.{all_not_byte}
use Rattle.frbr_names.proofs.Slashes.{through}
use Rattle.frbr_names.proofs.WorkLemmas.{work_spelled}
use Rattle.law_register.specs.Law.Spelling.{is_spelled_provision, is_spelled_source}
use Rattle.law_register.specs.declared.law.modification.ModSource.{ModSource}
use Rattle.akn_json.specs.Printing.Parts.{day_data, period_data, source_data}
use Rattle.akn_json.specs.Printing.Refusals.{number_data}
use Rattle.akn_json.specs.Printing.Typed.{IsTypedId, IsTypedPeriod, IsTypedSource}
use Rattle.akn_json.specs.Reading.Fields.{has_members, members_in, field_in, optional_in, text_in, number_in, day_in, end_in, period_in}
use Rattle.akn_json.specs.Reading.Names.{work_read, work_in, id_in, provision_in, source_in}

pub number_back : (most n : ℕ) → n ≤ most → number_in most (number_data n) ≡ Ok n
unfolding number_in
number_back most n within = rw (le-leb n most within) refl

pub day_back : (day : ℕ) → IsDay day → day_in (day_data day) ≡ Ok day
unfolding day_in text_in
day_back day is = rw (day_read day is) refl

period_of : (start : ℕ) (end : Option ℕ) → IsDay start → IfSome end IsDay
    → period_in (period_data (record { start = start; end = end })) ≡ Ok (record { start = start; end = end })
unfolding period_in members_in has_members field_in optional_in end_in
period_of start None is last = rw (day_back start is) refl
period_of start (Some end) is last = rw (day_back start is, day_back end last) refl

pub period_back : (p : Period) → IsTypedPeriod p → period_in (period_data p) ≡ Ok p
period_back p typed = period_of p.start p.end typed.0 typed.1

-- the IRI of a work is read as itself
pub work_back : (iri : List ℕ) → is_ok (work_of iri) ≡ true → work_in (string iri) ≡ Ok iri
unfolding work_in text_in
work_back iri is = by (work_of iri) refl is
  where
    by : (r : NameRead Work) → work_of iri ≡ r → is_ok r ≡ true → work_read r ≡ Ok iri
    by (Ok work) read is =
        let spells = work_spelled iri work read in
        ap Ok (ap (λ (w : Work). w.text) spells.same ∙ sym spells.spelled)
    by (Err fault) read is = absurd (cc is)

-- the provision that a source names
named_back : (wid : List ℕ) → is_portion wid ≡ true → provision_in (string wid) ≡ Ok (Some wid)
unfolding provision_in text_in
named_back wid is = rw is refl

source_of : (href : List ℕ) (place : ℕ) (provision : Option (List ℕ)) → is_ok (work_of href) ≡ true → place ≤ 65535
    → is_spelled_provision provision ≡ true → source_in (source_data (record { href = href; place = place; provision = provision }))
    ≡ Ok (record { href = href; place = place; provision = provision })
unfolding source_in members_in has_members field_in optional_in
source_of href place None work few named = rw (work_back href work, number_back 65535 place few) refl
source_of href place (Some wid) work few named =
    rw (work_back href work, number_back 65535 place few, named_back wid named) refl

pub source_back : (s : ModSource) → IsTypedSource s → is_spelled_source s ≡ true → source_in (source_data s) ≡ Ok s
source_back s typed well = source_of s.href s.place s.provision typed.0.0 typed.1 well

-- no digit is a full stop
no_stop : (n : ℕ) → n ≤ 4294967295 → list_all (λ b. not (is_stop b)) (decimal n) ≡ true
no_stop n small =
    all_not_byte 46 is_ascii_digit (decimal n) refl (own.from (decimal n) (decimal_is_IsNumeral n (omega (arith, small))).0.1)

law_back : (id : Id) → IsTypedId id → law_of (id_text id) ≡ Some id.law
unfolding law_of
law_back id typed =
    ap (decimal_up_to 4294967295)
    (ap (λ n. take n (id_text id)) (through (λ b. not (is_stop b)) (decimal id.law) (decimal id.item) 46 (no_stop id.law typed.0) refl)
    ∙ take-append_seam (decimal id.law) (46 ∷ decimal id.item))
    ∙ number_read 4294967295 id.law typed.0 (omega (arith, typed.0))

item_back : (id : Id) → IsTypedId id → item_of (id_text id) ≡ Some id.item
unfolding item_of
item_back id typed =
    ap (decimal_up_to 65535)
    (ap (λ n. drop (n + 1) (id_text id)) (through (λ b. not (is_stop b)) (decimal id.law) (decimal id.item) 46 (no_stop id.law typed.0) refl)
    ∙ drop-append-add (decimal id.law) (46 ∷ decimal id.item) 1)
    ∙ number_read 65535 id.item typed.1 (omega (arith, typed.1))

pub id_back : (id : Id) → IsTypedId id → id_in (string (id_text id)) ≡ Ok id
unfolding id_in text_in id_of
id_back id typed = rw (law_back id typed, item_back id typed) refl
