-- What is opened of payloads with others behind them.
use Rattle.std.proofs.Common.{◌≡◌, ◌∙◌, sym, ap, refl, true, List, [], ◌∷◌, ◌++◌, ℕ, Result, Ok, Err}
use Rattle.std.specs.Prelude.{is_ok}
use Rattle.law_register.specs.declared.desk.damage.Damage.{Damage}
use Rattle.law_register.specs.declared.register.entry.Entry.{Entry}
use Rattle.law_follow.specs.Opening.{spellings, with_payload, goes_on, opened_behind, opened}
use Rattle.law_follow.specs.Worlds.{is_register}
use Rattle.entry_codec.specs.Entries.{spelling}

-- the payloads that spell entries with one more
pub spellings_last : (entries : List Entry) (e : Entry) → spellings (entries ++ e ∷ []) ≡ spellings entries ++ spelling e ∷ []
spellings_last [] e = refl
spellings_last (first ∷ entries) e = ap (λ (more : List (List ℕ)). spelling first ∷ more) (spellings_last entries e)

-- what is opened of payloads, and then of those behind them
pub opened_append : (entries : List Entry) (payloads rest : List (List ℕ))
    → opened_behind entries (payloads ++ rest) ≡ goes_on (opened_behind entries payloads) (λ more. opened_behind more rest)
opened_append entries [] rest = refl
opened_append entries (first ∷ payloads) rest = by (with_payload entries first) (λ more. opened_append more payloads rest)
  where
    by : (r : Result (List Entry) Damage)
        → ((more : List Entry) → opened_behind more (payloads ++ rest) ≡ goes_on (opened_behind more payloads) (λ all. opened_behind all rest))
        → goes_on r (λ more. opened_behind more (payloads ++ rest))
        ≡ goes_on (goes_on r (λ more. opened_behind more payloads)) (λ more. opened_behind more rest)
    by (Ok more) behind = behind more
    by (Err broken) behind = refl

goes_to_end : (r : Result (List Entry) Damage) → goes_on r (λ more. Ok more) ≡ r
goes_to_end (Ok more) = refl
goes_to_end (Err broken) = refl

-- one payload behind those that spell entries
pub opened_next : (entries : List Entry) (payload : List ℕ) → opened (spellings entries) ≡ Ok entries
    → opened (spellings entries ++ payload ∷ []) ≡ with_payload entries payload
opened_next entries payload opens =
    opened_append [] (spellings entries) (payload ∷ [])
    ∙ ap (λ (r : Result (List Entry) Damage). goes_on r (λ more. opened_behind more (payload ∷ []))) opens
    ∙ goes_to_end (with_payload entries payload)

-- a payload that is opened behind those that are
pub opened_behind_them : (entries more : List Entry) (payload : List ℕ) → opened (spellings entries) ≡ Ok entries
    → with_payload entries payload ≡ Ok more → spellings more ≡ spellings entries ++ payload ∷ [] → opened (spellings more) ≡ Ok more
opened_behind_them entries more payload opens is spelled = ap opened spelled ∙ opened_next entries payload opens ∙ is

-- the front of a register is one
pub front_registers : (front rest : List (List ℕ)) → is_register (front ++ rest) ≡ true → is_register front ≡ true
front_registers front rest is =
    by (opened front) (sym (ap (λ (r : Result (List Entry) Damage). is_ok r) (opened_append [] front rest)) ∙ is)
  where
    by : (r : Result (List Entry) Damage) → is_ok (goes_on r (λ more. opened_behind more rest)) ≡ true → is_ok r ≡ true
    by (Ok more) both = refl
    by (Err broken) both = both
