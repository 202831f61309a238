use Rattle.std.proofs.Common.{◌≡◌, ◌∙◌, sym, ap, true, List, ℕ, drop, Ok, refl}
use Rattle.entry_codec.specs.Values.{is_work}
use Rattle.entry_codec.proofs.Texts.{ruled_read}
use Rattle.entry_codec.proofs.TypedParts.{work_named}
use Rattle.entry_codec.proofs.reading.known.known_work.Goals as goal

pub returns-in-Ok-clause-read : goal.returns-in-Ok-clause-read
returns-in-Ok-clause-read c =
    let kept : is_work c.as_str.result.now ≡ true = ap is_work c.as_str.ensures ∙ work_named _ _ c.date.ensures in
    ruled_read is_work c.args.len c.args.bytes.now c.as_str.result.now _ (c.if-not-begin_with.ensures.chunk refl) c.begin_with.ensures.utf8 kept
    ∙ ap (λ (t : List ℕ). Ok (t, drop c.args.len c.args.bytes.now)) (c.as_str.ensures ∙ sym c.in-Ok.ensures)
