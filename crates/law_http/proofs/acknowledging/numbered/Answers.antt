use Rattle.std.proofs.Common.{None, length, ◌+◌, ◌++◌, ap, ◌∙◌}
use Rattle.std.specs.Fmt.{decimal}
use Rattle.law_http.specs.Responses.{first_lines}
use Rattle.law_http.specs.declared.response.Response.TheVariants.{Made}
use Rattle.law_http.proofs.Acknowledged.{laid}
use Rattle.law_http.proofs.acknowledging.numbered.Goals as goal

pub returns : goal.returns
returns c =
    ap (λ message. Made message c.args.closes) (c.from_vec.ensures
    ∙ laid (first_lines c.args.status None c.args.closes) c.args.key.now (decimal c.args.number) _ _ _ _ _ _
    (ap (λ digits. length c.args.key.now + length digits + 1) c.format-digits.ensures.text)
    c.requires.begun
    c.put_body_lines.ensures.items
    (c.put_behind.ensures.items ∙ ap (λ bytes. c.put_body_lines.new.message.items ++ bytes) c.as_bytes.ensures.value)
    (c.put_behind-2.ensures.items ∙ ap (λ bytes. c.put_behind.new.message.items ++ bytes) (c.as_bytes-2.ensures.value ∙ c.format-digits.ensures.text))
    c.put_behind-3.ensures.items)
