use Rattle.std.proofs.Common.{◌≡◌, ◌∙◌, ap, List, ℕ, [], ◌∷◌, ◌++◌}
use Rattle.law_office.specs.Opening.{spellings}
use Rattle.law_office.proofs.Loading.{on_ok, spellings_last}
use Rattle.law_office.proofs.opening.add_payload.Goals as goal

pub returns-in-Ok-clause-spelled : goal.returns-in-Ok-clause-spelled
returns-in-Ok-clause-spelled c =
    let old = c.args.register.now.entries in
    on_ok c.add_entry.result _ _
    (λ (is : c.add_entry.new.register.entries ≡ old ++ c.in-Ok.entry ∷ []).
    ap spellings is
    ∙ spellings_last old c.in-Ok.entry
    ∙ ap (λ (p : List ℕ). spellings old ++ p ∷ []) (c.decoded_is_spelled.ensures.spelling c.in-Ok.entry c.in-Ok.ensures.value))
    c.add_entry.ensures.appended
