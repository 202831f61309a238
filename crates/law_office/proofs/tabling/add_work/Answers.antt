use Rattle.std.proofs.Common.{◌≡◌, ◌∙◌, sym, ap, subst, ℕ, List, ◌++◌, OnOk, option_map}
use Rattle.law_register.specs.Provisions.Carrying.{held_now}
use Rattle.law_refs.specs.Handing.{rows_made}
use Rattle.version_cache.specs.Seen.{work_view}
use Rattle.law_office.proofs.Tabled.{rows_of_made}
use Rattle.law_office.proofs.tabling.add_work.Goals as goal

pub returns-in-Some-clause-rows : goal.returns-in-Some-clause-rows
returns-in-Some-clause-rows g c =
    let done = c.add_with_rows.result in
    let new = c.add_with_rows.new.rows in
    rows_of_made done c.args.work.now (work_view c.in-Some.made) (held_now c.args.register.now.entries c.args.work.now) c.args.rows.now new
    (ap (option_map work_view) (sym c.in-Some.is) ∙ c.in_ok-made.ensures.is)
    (λ known made. subst (λ (w : List ℕ). OnOk done (new ≡ c.args.rows.now ++ rows_made w known)) c.in_ok-name.ensures
    (c.add_with_rows.ensures.rows known made))
