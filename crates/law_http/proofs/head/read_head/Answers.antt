use Rattle.std.proofs.Common.{rules, subst, Ok, ◌∙◌, map, take}
use Rattle.httparse.specs.Outcome.{IfComplete}
use Rattle.httparse.specs.Spans.{IsRequestOf, header_bytes}
use Rattle.httparse.specs.declared.Error.{Error}
use Rattle.law_http.specs.Heads.{framed}
use Rattle.law_http.proofs.SaidHeads.{head_said, if_ok_on}
use Rattle.law_http.proofs.head.read_head.Goals as goal

pub returns-clause-said : goal.returns-clause-said
returns-clause-said c =
    let bytes = c.args.bytes.now in
    let headers = c.parse_request.new.headers in
    let spans = c.in-Ok-Complete.spans in
    let request = IsRequestOf bytes headers in
    let found : request spans = subst (λ s. IfComplete {E = Error} (Ok s) request) c.in-Ok-Complete.field-0-is c.in-Ok-Complete.ensures.complete in
    if_ok_on c.framed.result
    (λ said is. head_said bytes headers spans said found (search rules) (search rules)
    (is ∙ (λ i. framed (c.of-method.ensures i) (c.of-target.ensures i) spans.version (map (header_bytes bytes) (take spans.headers headers)))))
    c.framed.ensures.value
