-- What a follower opens of a list is what the desk opens of it.
use Rattle.std.proofs.Common.{◌≡◌, ◌∙◌, ℕ, List, [], ◌∷◌, Result, Ok, Err, ap, refl, sym}
use Rattle.law_follow.specs.Opening as follow
use Rattle.law_journal.specs.Grammar.{Listing}
use Rattle.law_office.specs.Opening as office
use Rattle.law_register.specs.declared.desk.damage.Damage.{Damage}
use Rattle.law_register.specs.declared.desk.open_fault.OpenFault.{OpenFault}
use Rattle.law_register.specs.declared.desk.open_fault.OpenFault.TheVariants as fails
use Rattle.law_register.specs.declared.register.entry.Entry.{Entry}

payload_same : (entries : List Entry) (payload : List ℕ) → follow.with_payload entries payload ≡ office.with_payload entries payload
unfolding follow.with_payload office.with_payload follow.with_entry office.with_entry
payload_same entries payload = refl

goes_same : (found : Result (List Entry) Damage) (payloads : List (List ℕ))
    → ((more : List Entry) → follow.opened_behind more payloads ≡ office.opened_behind more payloads)
    → follow.goes_on found (λ more. follow.opened_behind more payloads) ≡ office.goes_on found (λ more. office.opened_behind more payloads)
goes_same (Ok more) payloads again = again more
goes_same (Err broken) payloads again = refl

behind_same : (payloads : List (List ℕ)) (entries : List Entry)
    → follow.opened_behind entries payloads ≡ office.opened_behind entries payloads
behind_same [] entries = refl
behind_same (payload ∷ payloads) entries =
    ap (λ found. follow.goes_on found (λ more. follow.opened_behind more payloads)) (payload_same entries payload)
    ∙ goes_same (office.with_payload entries payload) payloads (λ more. behind_same payloads more)

opened_same : (list : Listing) → follow.opened_of list ≡ office.opened_of list
opened_same (Ok payloads) = behind_same payloads []
opened_same (Err broken) = refl

pub refuses_same : (fault : OpenFault) (list : Listing) → follow.Refuses fault (follow.opened_of list)
    → office.Refuses fault (office.opened_of list)
refuses_same (fails.Damaged broken) list refuses = sym (opened_same list) ∙ refuses
refuses_same fails.Failed list refuses = tt
refuses_same fails.Memory list refuses = tt
