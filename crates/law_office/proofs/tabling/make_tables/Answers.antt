use Rattle.std.proofs.Common.{◌∙◌, sym, subst, ap, arith, ℕ, List}
use Rattle.std.specs.List.{sum_by}
use Rattle.law_register.specs.Answer.Renewing.{costs_from, opening_cost}
use Rattle.law_register.specs.Provisions.Carrying.{held_now}
use Rattle.law_refs.specs.Handing.{rows_opened}
use Rattle.law_office.specs.declared.line.DatedWork.{DatedWork}
use Rattle.law_office.specs.Line.{AreInLine}
use Rattle.law_office.proofs.InLine.{sum_in_line, works_of}
use Rattle.law_office.proofs.tabling.make_tables.Goals as goal

pub add_all-requires-clause-line : goal.add_all-requires-clause-line
add_all-requires-clause-line g c =
    subst (λ (line : List DatedWork). AreInLine c.args.register.now.entries (works_of line)) (sym c.as_slice.ensures.value) c.in_ok-line.ensures

pub returns-in_err-add_all-clause-steps : goal.returns-in_err-add_all-clause-steps
unfolding opening_cost
returns-in_err-add_all-clause-steps g c =
    let es = c.args.register.now.entries in
    let cost : List ℕ → ℕ = λ w. costs_from (held_now es w) 0 in
    omega (
      arith,
      c.add_all.ensures.steps,
      ap (λ (line : List DatedWork). sum_by cost (works_of line)) c.as_slice.ensures.value,
      sum_in_line cost es (works_of c.in_ok-line.line.items) c.in_ok-line.ensures,
    )

pub returns-clause-steps : goal.returns-clause-steps
unfolding opening_cost
returns-clause-steps g c =
    let es = c.args.register.now.entries in
    let cost : List ℕ → ℕ = λ w. costs_from (held_now es w) 0 in
    omega (
      arith,
      c.add_all.ensures.steps,
      ap (λ (line : List DatedWork). sum_by cost (works_of line)) c.as_slice.ensures.value,
      sum_in_line cost es (works_of c.in_ok-line.line.items) c.in_ok-line.ensures,
    )

pub returns-clause-line : goal.returns-clause-line
returns-clause-line g c =
    subst (AreInLine c.args.register.now.entries)
    (ap works_of (sym c.as_slice.ensures.value) ∙ sym c.in_ok-add_all.ensures.keys) c.in_ok-line.ensures

pub returns-clause-rows : goal.returns-clause-rows
returns-clause-rows g c = c.in_ok-add_all.ensures.rows ∙ ap (rows_opened c.args.register.now.entries) (sym c.in_ok-add_all.ensures.keys)
