use Rattle.std.proofs.Common.{◌∙◌, sym, subst, option_map, Option}
use Rattle.frbr_names.specs.ExpressionViews.{expression_view}
use Rattle.law_register.specs.Provisions.Carrying.{held_now}
use Rattle.version_cache.specs.Works.{WorkValue}
use Rattle.version_cache.proofs.Answered.{enacted_of}
use Rattle.law_office.specs.Tables.{Matches}
use Rattle.law_office.specs.Targets.{then_view, with_entry}
use Rattle.law_office.proofs.TargetRules.{missing_kept, missing_unknown}
use Rattle.law_office.proofs.targets_after.TargetsAfter.rule.Goals as goal

pub kept_then-requires : goal.kept_then-requires
kept_then-requires c = c.self.invariant.fits

pub rule-requires : goal.rule-requires
rule-requires c =
    let self = c.self.inside in
    let es = with_entry self.register.now.entries (option_map (λ e. e.now) self.entry) in
    let work = c.args.target.now.work.text.now in
    enacted_of (held_now es work) (then_view c.in-Some.kept)
    (subst (λ (k : Option WorkValue). Matches (held_now es work) k) (sym c.in-Some.ensures) (c.self.invariant.right work))

pub returns-in-Some : goal.returns-in-Some
returns-in-Some c =
    let self = c.self.inside in
    let es = with_entry self.register.now.entries (option_map (λ e. e.now) self.entry) in
    let target = expression_view c.args.target.now in
    rw (sym c.self.view_is)
    (c.rule.ensures
    ∙ missing_kept es target (then_view c.in-Some.kept) c.self.invariant.legal
    (subst (λ (k : Option WorkValue). Matches (held_now es target.work.text) k) (sym c.in-Some.ensures) (c.self.invariant.right target.work.text)))

pub returns-in-None : goal.returns-in-None
returns-in-None c =
    let self = c.self.inside in
    let es = with_entry self.register.now.entries (option_map (λ e. e.now) self.entry) in
    let target = expression_view c.args.target.now in
    rw (sym c.self.view_is)
    (missing_unknown es target c.self.invariant.legal
    (subst (λ (k : Option WorkValue). Matches (held_now es target.work.text) k) (sym c.in-None.ensures) (c.self.invariant.right target.work.text)))
