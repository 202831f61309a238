-- What is decoded is spelled so, and what is spelled is decoded so.
use Rattle.std.proofs.Common.{◌≡◌, ℕ, ◌<◌, ◌==◌, Bool, true, false, if◌then◌else◌, List, [], ◌++◌, length, get_or, Result, Ok, Err, refl, sym, ap, ◌∙◌, arith}
use Rattle.std.proofs.lemmas.Bool.{eqb-true, eq-eqb}
use Rattle.std.proofs.lemmas.List.{append-nil, nil_from_length}
use Rattle.law_register.specs.Law.Formats.{format_number, format_of}
use Rattle.law_register.specs.declared.law.format.EntryFormat.{EntryFormat}
use Rattle.law_register.specs.declared.law.format.EntryFormat.TheVariants.{First, Second}
use Rattle.law_register.specs.declared.register.entry.Entry.{Entry}
use Rattle.entry_codec.specs.declared.fault.CodecFault.{CodecFault}
use Rattle.entry_codec.specs.Reads.{Read}
use Rattle.entry_codec.specs.Entries.{entry, asked, spelling, keeps_rules, decoding, is_asked, if_asked, told, fault_at}
use Rattle.entry_codec.proofs.Exact.{AreBytes, are_bytes}
use Rattle.entry_codec.proofs.Formats.{entry_exact}

-- what was told is an entry that was read, with nothing left
record IsTold (bytes : List ℕ) (e : Entry) : Type 0 where
  spelled : spelling e ≡ bytes
  kept : keeps_rules e ≡ true

abbrev chosen : List ℕ → Bool → (EntryFormat × Entry) × List ℕ → Result Entry CodecFault
chosen bytes ended x = if ended then if_asked bytes x.0 else Err (fault_at bytes (length x.1))

no_rest : (bytes : List ℕ) (x : (EntryFormat × Entry) × List ℕ) (e : Entry) (ended : Bool) → (length x.1 == 0) ≡ ended → chosen bytes ended x ≡ Ok e
    → (if_asked bytes x.0 ≡ Ok e) × (length x.1 ≡ 0)
no_rest bytes x e true is h = (h, eqb-true (length x.1) 0 is)
no_rest bytes x e false is h = absurd cc

-- what was told stands in the format that its command asks for
same_number : (f g : EntryFormat) → format_number f ≡ format_number g → f ≡ g
same_number First First same = refl
same_number First Second same = absurd (omega (arith, same))
same_number Second First same = absurd (omega (arith, same))
same_number Second Second same = refl

abbrev told_if : List ℕ → Entry → Bool → Result Entry CodecFault
told_if bytes e right = if right then Ok e else Err (fault_at bytes (length bytes))

same_entry : (x e : Entry) → (let r : Result Entry CodecFault = Ok x in r) ≡ Ok e → x ≡ e
same_entry x e h = cc

abbrev with_entry : Entry → EntryFormat → EntryFormat × Entry
with_entry e format = (format, e)

asked_is : (bytes : List ℕ) (x : EntryFormat × Entry) (e : Entry) → if_asked bytes x ≡ Ok e → x ≡ asked e
asked_is bytes x e h = by (is_asked x) refl h
  where
    by : (right : Bool) → is_asked x ≡ right → told_if bytes x.1 right ≡ Ok e → x ≡ asked e
    by true is told =
        ap (with_entry x.1) (same_number x.0 (format_of x.1.command) (eqb-true (format_number x.0) (format_number (format_of x.1.command)) is))
        ∙ ap asked (same_entry x.1 e told)
    by false is told = absurd cc

told_is : (bytes : List ℕ) (e : Entry) → AreBytes bytes → (reading : Read (EntryFormat × Entry)) → entry.read bytes ≡ reading → told bytes reading ≡ Ok e → IsTold bytes e
unfolding spelling keeps_rules
told_is bytes e are (Ok x) read h =
    let end = no_rest bytes x e (length x.1 == 0) refl h in
    let same = asked_is bytes x.0 e end.0 in
    let t = entry_exact.takes bytes x.0 x.1 are read in
    let all : bytes ≡ entry.spell x.0 = t.parts ∙ ap (λ rest. entry.spell x.0 ++ rest) (nil_from_length x.1 end.1) ∙ append-nil (entry.spell x.0) in
    record {
      spelled = sym (all ∙ ap entry.spell same);
      kept = ap entry.fits (sym same) ∙ t.fits;
    }
told_is bytes e are (Err left) read h = absurd cc

decoded : (bytes : List ℕ) (e : Entry) → AreBytes bytes → decoding bytes ≡ Ok e → IsTold bytes e
unfolding decoding
decoded bytes e are h = told_is bytes e are (entry.read bytes) refl h

pub decoded_spelling : (bytes : List ℕ) → ((i : ℕ) → get_or bytes i 0 < 256) → (e : Entry) → decoding bytes ≡ Ok e → spelling e ≡ bytes
decoded_spelling bytes small e h = (decoded bytes e (are_bytes bytes small) h).spelled

pub decoded_bytes : (bytes : List ℕ) → AreBytes bytes → (e : Entry) → decoding bytes ≡ Ok e → spelling e ≡ bytes
decoded_bytes bytes are e h = (decoded bytes e are h).spelled

pub decoded_keeps : (bytes : List ℕ) → ((i : ℕ) → get_or bytes i 0 < 256) → (e : Entry) → decoding bytes ≡ Ok e → keeps_rules e ≡ true
decoded_keeps bytes small e h = (decoded bytes e (are_bytes bytes small) h).kept

pub spelled_decoding : (e : Entry) → keeps_rules e ≡ true → decoding (spelling e) ≡ Ok e
unfolding decoding spelling keeps_rules
spelled_decoding e kept =
    let bytes = entry.spell (asked e) in
    ap (λ all. told bytes (entry.read all)) (sym (append-nil bytes))
    ∙ ap (told bytes) (entry_exact.again (asked e) [] kept)
    ∙ ap (told_if bytes e) (eq-eqb (format_number (format_of e.command)) (format_number (format_of e.command)) refl)

same_rest : (x y : (EntryFormat × Entry) × List ℕ) → (let r : Read (EntryFormat × Entry) = Ok x in r) ≡ Ok y → x ≡ y
same_rest x y h = cc

pub no_front : (e f : Entry) (rest : List ℕ) → keeps_rules e ≡ true → keeps_rules f ≡ true → spelling e ++ rest ≡ spelling f → rest ≡ []
unfolding spelling keeps_rules
no_front e f rest kept other same =
    let read : entry.read (entry.spell (asked e) ++ rest) ≡ Ok (asked f, []) = ap entry.read (same ∙ sym (append-nil (entry.spell (asked f)))) ∙ entry_exact.again (asked f) [] other in
    ap (λ (x : (EntryFormat × Entry) × List ℕ). x.1) (same_rest (asked e, rest) (asked f, []) (sym (entry_exact.again (asked e) rest kept) ∙ read))
