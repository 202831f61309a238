-- An entry that is added while a keeper is opened.
use Rattle.std.proofs.Common.{◌≡◌, ◌∙◌, sym, ap, subst, ℕ, List, [], ◌∷◌, ◌++◌, Result, Ok, Err, IfOk, OnOk}
use Rattle.std.specs.Prelude.{IfErr}
use Rattle.law_register.specs.declared.desk.damage.Damage.{Damage}
use Rattle.law_register.specs.declared.desk.open_fault.OpenFault.{OpenFault}
use Rattle.law_register.specs.declared.desk.open_fault.OpenFault.TheVariants as fails
use Rattle.law_register.specs.declared.register.entry.Entry.{Entry}
use Rattle.entry_codec.specs.Entries.{spelling}
use Rattle.law_follow.specs.Opening.{IsOfPayload, Opens, Refuses, spellings}
use Rattle.law_follow.specs.Replicas.{IsDamageOf, Judges}
use Rattle.law_follow.specs.declared.unfit.Unfit.{Unfit}
use Rattle.law_follow.specs.declared.unfit.Unfit.TheVariants as unfit
use Rattle.law_follow.proofs.Openings.{spellings_last}

pub added : (made : Result Unit OpenFault) (told : Result (List Entry) Damage) (old new : List Entry) (e : Entry) → told ≡ Ok (old ++ e ∷ [])
    → IfOk made (λ done. new ≡ old ++ e ∷ []) → IfErr made (λ fault. fault ≡ fails.Memory) → Opens (λ done. new) made told
added (Ok done) told old new e judged same memory = judged ∙ ap Ok (sym same)
added (Err fault) told old new e judged same memory = subst (λ (f : OpenFault). Refuses f told) (sym memory) tt

pub added_spelled : (made : Result Unit OpenFault) (old new : List Entry) (e : Entry) (payload : List ℕ) → spelling e ≡ payload
    → IfOk made (λ done. new ≡ old ++ e ∷ []) → OnOk made (spellings new ≡ spellings old ++ payload ∷ [])
added_spelled (Ok done) old new e payload is same =
    ap spellings same ∙ spellings_last old e ∙ ap (λ (p : List ℕ). spellings old ++ p ∷ []) is
added_spelled (Err fault) old new e payload is same = tt

pub added_refused : (made : Result Unit OpenFault) → IfErr made (λ fault. fault ≡ fails.Memory) → IfErr made IsOfPayload
added_refused (Ok done) memory = tt
added_refused (Err fault) memory = subst IsOfPayload (sym memory) tt

pub refused_payload : (entries : List Entry) (why : Unfit) (given : OpenFault) (told : Result (List Entry) Damage) → Judges entries (Err why) told
    → IsDamageOf entries why given → Refuses given told
refused_payload entries (unfit.NoEntry broken) given told judged is = subst (λ (f : OpenFault). Refuses f told) (sym is) judged
refused_payload entries (unfit.NotAccepted rule) given told judged is = subst (λ (f : OpenFault). Refuses f told) (sym is) judged
refused_payload entries unfit.Memory given told judged is = subst (λ (f : OpenFault). Refuses f told) (sym is) tt
