-- What is opened is a legal register, and the payloads are what spells it.
use Rattle.std.proofs.Common.{◌≡◌, ◌∙◌, sym, ap, subst, refl, Bool, true, false, ◌&&◌, ◌<◌, ℕ, zero, suc, List, [], ◌∷◌, ◌++◌, append_assoc, get_or, Option, Some, None, Result, Ok, Err, arith}
use Rattle.std.specs.List.{AllByRecursion, list_all}
use Rattle.std.specs.Prelude.{if◌then◌else◌}
use Rattle.std.proofs.lemmas.List.{append-nil}
use Rattle.law_journal.specs.Grammar.{Listing}
use Rattle.law_register.specs.declared.desk.damage.Damage.{Damage}
use Rattle.law_register.specs.declared.register.entry.Entry.{Entry}
use Rattle.law_register.specs.declared.register.verdict.Verdict.{Verdict}
use Rattle.law_register.specs.declared.register.verdict.Verdict.TheVariants.{Accepted, Repeat, Refused}
use Rattle.law_register.specs.Law.Same.{same_number}
use Rattle.law_register.specs.Register.Verdicts.{is_accepted, is_legal, is_legal_from, verdict}
use Rattle.entry_codec.specs.declared.fault.CodecFault.{CodecFault}
use Rattle.entry_codec.specs.Entries.{decoding, keeps_rules, spelling}
use Rattle.entry_codec.proofs.Decoding.{decoded_keeps, decoded_spelling}
use Rattle.law_office.specs.Opening.{AreOfBytes, HasBytes, goes_on, opened_behind, opened_of, order_rule, spellings, with_decoded, with_entry, with_ordered, with_payload}

-- payloads are decoded as entries, one after another
abbrev Decode : List (List ℕ) → List Entry → Type 0
Decode [] [] = Unit {0}
Decode [] (e ∷ es) = ⊥
Decode (payload ∷ payloads) [] = ⊥
Decode (payload ∷ payloads) (e ∷ es) = (decoding payload ≡ Ok e) × Decode payloads es

-- entries that payloads stand for behind others
record AreOpened (before : List Entry) (payloads : List (List ℕ)) (entries : List Entry) : Type 0 where
  more : List Entry
  are : entries ≡ before ++ more
  legal : is_legal_from before more ≡ true
  decoded : Decode payloads more

-- the entry that a payload spells stands behind others
record IsNext (before : List Entry) (payload : List ℕ) (entries : List Entry) : Type 0 where
  entry : Entry
  decoded : decoding payload ≡ Ok entry
  accepted : is_accepted entry.law (verdict before entry.drafter entry.request entry.command) ≡ true
  are : entries ≡ before ++ entry ∷ []

no_rule_accepted : (law : Option ℕ) (said : Verdict) → order_rule law said ≡ None → is_accepted law said ≡ true
no_rule_accepted law (Accepted number reply) none = by (same_number law number) none
  where
    by : (t : Bool) → (let rule : Option ℕ = (if t then None else Some 0) in rule) ≡ None → t ≡ true
    by true none = refl
    by false none = absurd (cc none)
no_rule_accepted law (Repeat reply) none = absurd (cc none)
no_rule_accepted law (Refused rule) none = absurd (cc none)

ordered_is : (before : List Entry) (e : Entry) (entries : List Entry) (rule : Option ℕ) → with_ordered before e rule ≡ Ok entries
    → (rule ≡ None) × (entries ≡ before ++ e ∷ [])
ordered_is before e entries None is = (refl, sym (same_list (before ++ e ∷ []) entries is))
  where
    same_list : (xs ys : List Entry) → (let r : Result (List Entry) Damage = Ok xs in r) ≡ Ok ys → xs ≡ ys
    same_list xs ys is = cc is
ordered_is before e entries (Some rule) is = absurd (cc is)

entry_is : (before : List Entry) (e : Entry) (entries : List Entry) → with_entry before e ≡ Ok entries
    → (is_accepted e.law (verdict before e.drafter e.request e.command) ≡ true) × (entries ≡ before ++ e ∷ [])
unfolding with_entry
entry_is before e entries is =
    let said : Verdict = verdict before e.drafter e.request e.command in
    let parts = ordered_is before e entries (order_rule e.law said) is in
    (no_rule_accepted e.law said parts.0, parts.1)

payload_is : (before : List Entry) (payload : List ℕ) (entries : List Entry) → with_payload before payload ≡ Ok entries
    → IsNext before payload entries
unfolding with_payload
payload_is before payload entries is = by (decoding payload) refl is
  where
    by : (r : Result Entry CodecFault) → decoding payload ≡ r → with_decoded before r ≡ Ok entries → IsNext before payload entries
    by (Ok e) decoded is =
        let parts = entry_is before e entries is in
        record { entry = e; decoded = decoded; accepted = parts.0; are = parts.1 }
    by (Err fault) decoded is = absurd (cc is)

and_both : (a b : Bool) → a ≡ true → b ≡ true → (a && b) ≡ true
and_both true true first second = refl
and_both true false first second = absurd (cc second)
and_both false b first second = absurd (cc first)

one_more : (before : List Entry) (payload : List ℕ) (payloads : List (List ℕ)) (next entries : List Entry)
    → IsNext before payload next → AreOpened next payloads entries → AreOpened before (payload ∷ payloads) entries
one_more before payload payloads next entries is rest = record {
  more = is.entry ∷ rest.more;
  are = rest.are ∙ ap (λ (es : List Entry). es ++ rest.more) is.are ∙ append_assoc before (is.entry ∷ []) rest.more;
  legal = and_both (is_accepted is.entry.law (verdict before is.entry.drafter is.entry.request is.entry.command))
      (is_legal_from (before ++ is.entry ∷ []) rest.more) is.accepted
      (subst (λ (es : List Entry). is_legal_from es rest.more ≡ true) is.are rest.legal);
  decoded = (is.decoded, rest.decoded);
}

same_entries : (xs ys : List Entry) → (let r : Result (List Entry) Damage = Ok xs in r) ≡ Ok ys → xs ≡ ys
same_entries xs ys is = cc is

opened_are : (before : List Entry) (payloads : List (List ℕ)) (entries : List Entry)
    → opened_behind before payloads ≡ Ok entries → AreOpened before payloads entries
opened_are before [] entries is = record {
  more = [];
  are = sym (same_entries before entries is) ∙ sym (append-nil before);
  legal = refl;
  decoded = tt;
}
opened_are before (payload ∷ payloads) entries is =
    by (with_payload before payload) refl is (λ next. opened_are next payloads entries)
  where
    by : (r : Result (List Entry) Damage) → with_payload before payload ≡ r
        → goes_on r (λ more. opened_behind more payloads) ≡ Ok entries
        → ((next : List Entry) → opened_behind next payloads ≡ Ok entries → AreOpened next payloads entries)
        → AreOpened before (payload ∷ payloads) entries
    by (Ok next) made is behind =
        one_more before payload payloads next entries (payload_is before payload next made) (behind next is)
    by (Err broken) made is behind = absurd (cc is)

-- of a list of bytes each is one
byte_at : (bytes : List ℕ) → AllByRecursion (λ byte. byte < 256) bytes → (i : ℕ) → get_or bytes i 0 < 256
byte_at [] are i = omega arith
byte_at (byte ∷ bytes) are zero = are.0
byte_at (byte ∷ bytes) are (suc i) = byte_at bytes are.1 i

spelled_so : (payloads : List (List ℕ)) (es : List Entry) → AreOfBytes payloads → Decode payloads es → payloads ≡ spellings es
spelled_so [] [] are decode = refl
spelled_so [] (e ∷ es) are decode = absurd decode
spelled_so (payload ∷ payloads) [] are decode = absurd decode
spelled_so (payload ∷ payloads) (e ∷ es) are decode =
    ap (λ (p : List ℕ). p ∷ payloads) (sym (decoded_spelling payload (byte_at payload are.0) e decode.0))
    ∙ ap (λ (ps : List (List ℕ)). spelling e ∷ ps) (spelled_so payloads es are.1 decode.1)

keep_rules : (payloads : List (List ℕ)) (es : List Entry) → AreOfBytes payloads → Decode payloads es → list_all keeps_rules es ≡ true
keep_rules [] [] are decode = refl
keep_rules [] (e ∷ es) are decode = absurd decode
keep_rules (payload ∷ payloads) [] are decode = absurd decode
keep_rules (payload ∷ payloads) (e ∷ es) are decode =
    and_both (keeps_rules e) (list_all keeps_rules es) (decoded_keeps payload (byte_at payload are.0) e decode.0)
    (keep_rules payloads es are.1 decode.1)

pub opened_is_legal : (list : Listing) (entries : List Entry) → opened_of list ≡ Ok entries → is_legal entries ≡ true
opened_is_legal (Ok payloads) entries is =
    let o = opened_are [] payloads entries is in
    subst (λ (es : List Entry). is_legal es ≡ true) (sym o.are) o.legal
opened_is_legal (Err broken) entries is = absurd (cc is)

pub opened_is_spelled : (list : Listing) (entries : List Entry) → HasBytes list → opened_of list ≡ Ok entries → list ≡ Ok (spellings entries)
opened_is_spelled (Ok payloads) entries are is =
    let o = opened_are [] payloads entries is in
    ap Ok (spelled_so payloads o.more are o.decoded ∙ ap spellings (sym o.are))
opened_is_spelled (Err broken) entries are is = absurd (cc is)

pub opened_keeps_rules : (list : Listing) (entries : List Entry) → HasBytes list → opened_of list ≡ Ok entries → list_all keeps_rules entries ≡ true
opened_keeps_rules (Ok payloads) entries are is =
    let o = opened_are [] payloads entries is in
    subst (λ (es : List Entry). list_all keeps_rules es ≡ true) (sym o.are) (keep_rules payloads o.more are o.decoded)
opened_keeps_rules (Err broken) entries are is = absurd (cc is)
