-- What spells entries is opened as these entries.
use Rattle.std.proofs.Common.{◌≡◌, ◌∙◌, sym, ap, subst, refl, Bool, true, List, [], ◌∷◌, ◌++◌, ℕ, Option, Some, None, Result, Ok, Err, append_assoc}
use Rattle.std.specs.Prelude.{if◌then◌else◌}
use Rattle.std.specs.List.{list_all}
use Rattle.std.proofs.lemmas.Bool.{and_parts}
use Rattle.std.proofs.lemmas.List.{append-nil}
use Rattle.law_register.specs.declared.desk.damage.Damage.{Damage}
use Rattle.law_register.specs.declared.register.entry.Entry.{Entry}
use Rattle.law_register.specs.declared.register.verdict.Verdict.{Verdict}
use Rattle.law_register.specs.declared.register.verdict.Verdict.TheVariants.{Accepted, Repeat, Refused}
use Rattle.law_register.specs.Desk.States.{MayFollow}
use Rattle.law_register.specs.Register.Verdicts.{is_accepted, is_legal, is_legal_from, verdict}
use Rattle.entry_codec.specs.Entries.{keeps_rules, spelling}
use Rattle.entry_codec.proofs.Decoding.{spelled_decoding}
use Rattle.law_office.specs.Opening.{spellings, order_rule, with_ordered, with_entry, with_decoded, with_payload, goes_on, opened_behind, opened}
use Rattle.law_office.proofs.Loading.{spellings_last}

-- what is opened of payloads with one more, by what is opened of the payloads
goes_to_end : (r : Result (List Entry) Damage) → goes_on r (λ more. Ok more) ≡ r
goes_to_end (Ok more) = refl
goes_to_end (Err broken) = refl

pub opened_last : (entries : List Entry) (payloads : List (List ℕ)) (payload : List ℕ)
    → opened_behind entries (payloads ++ payload ∷ []) ≡ goes_on (opened_behind entries payloads) (λ more. with_payload more payload)
opened_last entries [] payload = goes_to_end (with_payload entries payload)
opened_last entries (first ∷ payloads) payload = by (with_payload entries first) (λ more. opened_last more payloads payload)
  where
    by : (r : Result (List Entry) Damage)
        → ((more : List Entry) → opened_behind more (payloads ++ payload ∷ []) ≡ goes_on (opened_behind more payloads) (λ all. with_payload all payload))
        → goes_on r (λ more. opened_behind more (payloads ++ payload ∷ []))
        ≡ goes_on (goes_on r (λ more. opened_behind more payloads)) (λ more. with_payload more payload)
    by (Ok more) behind = behind more
    by (Err broken) behind = refl

-- a payload that is opened behind those that are
pub opened_behind_them : (entries more : List Entry) (payload : List ℕ) → opened (spellings entries) ≡ Ok entries
    → with_payload entries payload ≡ Ok more → spellings more ≡ spellings entries ++ payload ∷ [] → opened (spellings more) ≡ Ok more
opened_behind_them entries more payload opens is spelled =
    ap opened spelled
    ∙ opened_last [] (spellings entries) payload
    ∙ ap (λ (r : Result (List Entry) Damage). goes_on r (λ all. with_payload all payload)) opens
    ∙ is

-- an accepted entry breaks no rule
no_rule : (law : Option ℕ) (said : Verdict) → is_accepted law said ≡ true → order_rule law said ≡ None
no_rule law (Accepted number reply) accepted = ap (λ (t : Bool). if t then None else Some 0) accepted
no_rule law (Repeat reply) accepted = absurd (cc accepted)
no_rule law (Refused rule) accepted = absurd (cc accepted)

accepted_is_opened : (entries : List Entry) (e : Entry)
    → is_accepted e.law (verdict entries e.drafter e.request e.command) ≡ true → with_entry entries e ≡ Ok (entries ++ e ∷ [])
unfolding with_entry
accepted_is_opened entries e accepted =
    ap (with_ordered entries e) (no_rule e.law (verdict entries e.drafter e.request e.command) accepted)

spelled_is_opened : (entries : List Entry) (e : Entry) → keeps_rules e ≡ true
    → is_accepted e.law (verdict entries e.drafter e.request e.command) ≡ true
    → with_payload entries (spelling e) ≡ Ok (entries ++ e ∷ [])
unfolding with_payload
spelled_is_opened entries e kept accepted =
    ap (with_decoded entries) (spelled_decoding e kept) ∙ accepted_is_opened entries e accepted

pub opened_with : (entries : List Entry) (e : Entry) → opened (spellings entries) ≡ Ok entries → keeps_rules e ≡ true
    → is_accepted e.law (verdict entries e.drafter e.request e.command) ≡ true
    → opened (spellings (entries ++ e ∷ [])) ≡ Ok (entries ++ e ∷ [])
opened_with entries e opens kept accepted =
    opened_behind_them entries (entries ++ e ∷ []) (spelling e) opens (spelled_is_opened entries e kept accepted) (spellings_last entries e)

pub opened_more : (entries : List Entry) (e : Entry) → opened (spellings entries) ≡ Ok entries → MayFollow entries e
    → keeps_rules e ≡ true → opened (spellings (entries ++ e ∷ [])) ≡ Ok (entries ++ e ∷ [])
opened_more entries e opens follows kept = opened_with entries e opens kept follows.accepted

-- legal entries that keep the rules
legal_behind : (before entries : List Entry) → opened (spellings before) ≡ Ok before → is_legal_from before entries ≡ true
    → list_all keeps_rules entries ≡ true → opened (spellings (before ++ entries)) ≡ Ok (before ++ entries)
legal_behind before [] opens legal kept =
    subst (λ (all : List Entry). opened (spellings all) ≡ Ok all) (sym (append-nil before)) opens
legal_behind before (e ∷ es) opens legal kept =
    let now = and_parts (is_accepted e.law (verdict before e.drafter e.request e.command)) (is_legal_from (before ++ e ∷ []) es) legal in
    let rules = and_parts (keeps_rules e) (list_all keeps_rules es) kept in
    subst (λ (all : List Entry). opened (spellings all) ≡ Ok all) (append_assoc before (e ∷ []) es)
    (legal_behind (before ++ e ∷ []) es (opened_with before e opens rules.0 now.0) now.1 rules.1)

pub legal_is_opened : (entries : List Entry) → is_legal entries ≡ true → list_all keeps_rules entries ≡ true
    → opened (spellings entries) ≡ Ok entries
legal_is_opened entries legal kept = legal_behind [] entries refl legal kept
