use Rattle.std.proofs.Common.{rules, sym, ◌∙◌}
use Rattle.law_http.proofs.Kept.{keeps_request, request_then}
use Rattle.law_http.proofs.SaidHeads.{if_ok_on}
use Rattle.law_http.proofs.Members.{head_found, whole_heard, refusal_heard, on_err_on}
use Rattle.law_http.proofs.WithPieces.{end_with_piece, refusal_with_piece, then_kept, whole_with_piece}
use Rattle.law_http.proofs.hearing.hear.Goals as goal

pub returns-in-Ok-clause-heard : goal.returns-in-Ok-clause-heard
returns-in-Ok-clause-heard g c =
    let found = sym c.in_ok-head.ensures.head.value ∙ c.in-Ok.is in
    let within = (head_found _ _ _ c.in_ok-head.ensures.head c.in-Ok.is).within in
    if_ok_on c.hear_body.result
    (λ h is. whole_heard _ c.await_head.new.bytes c.hear_body.new.bytes (g.L.Link.left c.await_head.new.link) (g.L.Link.left c.hear_body.new.link) c.in-Ok.head h
    c.in_ok-head.ensures.stream c.in_ok-head.ensures.ready found within.0 within.1 is)
    c.hear_body.ensures.heard

pub returns-in-Ok-clause-kept : goal.returns-in-Ok-clause-kept
returns-in-Ok-clause-kept g c =
    on_err_on c.hear_body.result (λ kept. request_then _ _ _ c.in_ok-head.ensures.stream (keeps_request _ _ kept)) c.hear_body.ensures.kept

pub returns-in-Err-clause-heard : goal.returns-in-Err-clause-heard
returns-in-Err-clause-heard g c =
    let found = sym c.in_ok-head.ensures.head.value ∙ c.in-Err.is in
    refusal_heard _ c.await_head.new.bytes (g.L.Link.left c.await_head.new.link) c.in-Err.refusal
    c.in_ok-head.ensures.stream c.in_ok-head.ensures.ready found (search rules)

pub returns-in-Ok-clause-heard_of_own : goal.returns-in-Ok-clause-heard_of_own
returns-in-Ok-clause-heard_of_own g c =
    let found = sym c.in_ok-head.ensures.head.value ∙ c.in-Ok.is in
    let within = (head_found _ _ _ c.in_ok-head.ensures.head c.in-Ok.is).within in
    if_ok_on c.hear_body.result
    (λ h is. whole_with_piece _ c.await_head.new.bytes c.hear_body.new.bytes c.in-Ok.head h c.in_ok-head.ensures.piece c.in_ok-head.ensures.begins
    found within.0 within.1 is)
    c.hear_body.ensures.heard_of_own

pub returns-in-Ok-clause-kept_own : goal.returns-in-Ok-clause-kept_own
returns-in-Ok-clause-kept_own g c =
    on_err_on c.hear_body.result (λ kept. then_kept _ _ _ c.in_ok-head.ensures.piece kept) c.hear_body.ensures.kept_own

pub returns-in-Err-clause-heard_of_own : goal.returns-in-Err-clause-heard_of_own
returns-in-Err-clause-heard_of_own g c =
    let found = sym c.in_ok-head.ensures.head.value ∙ c.in-Err.is in
    refusal_with_piece _ c.await_head.new.bytes c.in-Err.refusal c.in_ok-head.ensures.piece c.in_ok-head.ensures.begins found (search rules)
