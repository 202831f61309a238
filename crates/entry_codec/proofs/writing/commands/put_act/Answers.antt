use Rattle.entry_codec.proofs.writing.commands.put_act.Goals as goal

pub returns-clause-typed : goal.returns-clause-typed
returns-clause-typed c =
    let rest = c.in_ok-put_act_rest.ensures.typed in
    (c.in_ok-put_work.ensures.typed, c.in_ok-put_language.ensures.typed, rest.0, rest.1, rest.2, rest.3)
