use Rattle.std.proofs.Common.{[], ap, sym, ◌∙◌}
use Rattle.http1.specs.Fields.{is_number}
use Rattle.law_http.proofs.Lengths.{one_field, length_or_not, is_value, is_no_value, few_digits}
use Rattle.law_http.proofs.framing.written_length.Goals as goal

pub returns-in-Value : goal.returns-in-Value
returns-in-Value c =
    let v = c.args.value.now in
    let read = sym (one_field v) ∙ sym (ap (λ k. k.content_length) (c.add.ensures [] c.new-known.ensures)) ∙ c.in-Value.is in
    is_value v (is_number v) c.in-Value.length read ∙ sym (ap (length_or_not v) (few_digits v c.if-value-gt-MAX_DIGITS.false))

pub returns-in_default : goal.returns-in_default
returns-in_default c =
    let v = c.args.value.now in
    let same = ap (λ k. k.content_length) (c.add.ensures [] c.new-known.ensures) ∙ one_field v in
    is_no_value v (is_number v) (λ n is. c.in_default.not-Value n (same ∙ is)) ∙ sym (ap (length_or_not v) (few_digits v c.if-value-gt-MAX_DIGITS.false))
