use Rattle.std.proofs.Common.{sym, ap, subst, ℕ, List, Option, Some, None, option_map, is_some}
use Rattle.std.specs.Option.{IfSome}
use Rattle.std.specs.Str.{bytes_eq}
use Rattle.indexmap.specs.IndexMap.{get_by}
use Rattle.version_cache.specs.declared.work_tables.WorkTables.{WorkTables}
use Rattle.version_cache.specs.Seen.{work_revision_view, work_view}
use Rattle.version_cache.specs.Works.{AreRightEarly, WorkValue}
use Rattle.law_office.specs.Movements.{IsRevisedAs}
use Rattle.law_office.proofs.Puts.{put_same}
use Rattle.law_office.proofs.moving.revise_kept.Goals as goal

pub revise-requires-clause-right : goal.revise-requires-clause-right
revise-requires-clause-right g c =
    subst (λ (k : Option WorkValue). IfSome k (AreRightEarly c.args.held c.args.day))
    (sym (ap (λ (o : Option WorkTables). option_map work_view o) c.in-Some.ensures.value)) c.requires.right

pub returns-in_err-revision-in-Some-clause-same : goal.returns-in_err-revision-in-Some-clause-same
returns-in_err-revision-in-Some-clause-same g c =
    let kept = c.revise.new.self in
    let put = (c.get_mut.follows.holds kept).3 (sym (ap is_some c.in-Some.ensures.value)) in
    put_same work_view (λ (w : List ℕ). get_by (bytes_eq w) c.args.tables.now) (λ (w : List ℕ). get_by (bytes_eq w) (c.get_mut.follows.lender kept))
    c.args.work.now c.in-Some.kept.now kept c.in-Some.ensures.value c.revise.ensures.same put.0

pub returns-in_ok-revision-in-Some-clause-same : goal.returns-in_ok-revision-in-Some-clause-same
returns-in_ok-revision-in-Some-clause-same g c =
    let kept = c.revise.new.self in
    let put = (c.get_mut.follows.holds kept).3 (sym (ap is_some c.in-Some.ensures.value)) in
    put_same work_view (λ (w : List ℕ). get_by (bytes_eq w) c.args.tables.now) (λ (w : List ℕ). get_by (bytes_eq w) (c.get_mut.follows.lender kept))
    c.args.work.now c.in-Some.kept.now kept c.in-Some.ensures.value c.revise.ensures.same put.0

pub returns-in_ok-revision-in-Some-clause-made : goal.returns-in_ok-revision-in-Some-clause-made
returns-in_ok-revision-in-Some-clause-made g c =
    subst (λ (k : Option WorkValue). IsRevisedAs c.args.held c.args.day k (Some (work_revision_view c.in_ok-revision-in-Some.revision)))
    (ap (λ (o : Option WorkTables). option_map work_view o) c.in-Some.ensures.value)
    (c.in_ok-revision-in-Some.ensures.revision, c.in_ok-revision-in-Some.ensures.fits, c.in_ok-revision-in-Some.ensures.right)

pub returns-in-None-clause-made : goal.returns-in-None-clause-made
returns-in-None-clause-made g c =
    subst (λ (k : Option WorkValue). IsRevisedAs c.args.held c.args.day k None)
    (ap (λ (o : Option WorkTables). option_map work_view o) c.in-None.ensures.value) tt
