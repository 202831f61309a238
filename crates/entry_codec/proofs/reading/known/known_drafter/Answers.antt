use Rattle.std.proofs.Common.{◌≡◌, ◌∙◌, sym, ap, true, List, ℕ, drop, Ok, refl}
use Rattle.law_register.specs.Register.Drafters.{is_drafter}
use Rattle.entry_codec.proofs.Texts.{ruled_read}
use Rattle.entry_codec.proofs.reading.known.known_drafter.Goals as goal

pub returns-in-Ok-clause-read : goal.returns-in-Ok-clause-read
returns-in-Ok-clause-read c =
    let kept : is_drafter c.as_str.result.now ≡ true = ap is_drafter c.as_str.ensures ∙ c.drafters_are_named.ensures in
    ruled_read is_drafter c.args.len c.args.bytes.now c.as_str.result.now _ (c.if-not-begin_with.ensures.chunk refl) c.begin_with.ensures.utf8 kept
    ∙ ap (λ (t : List ℕ). Ok (t, drop c.args.len c.args.bytes.now)) (c.as_str.ensures ∙ sym c.in-Ok.ensures)
