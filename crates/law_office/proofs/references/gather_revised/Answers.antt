use Rattle.std.proofs.Common.{rules, ◌≡◌, ◌∙◌, ◌++◌, ◌∷◌, [], ◌+◌, ◌<◌, sym, ap, subst, drop, length, map, ℕ, List}
use Rattle.std.proofs.lemmas.List.{drop_more}
use Rattle.law_refs.specs.Handing.{rows_touched}
use Rattle.version_cache.specs.declared.work_revision.WorkRevision.{WorkRevision}
use Rattle.law_office.specs.Movements.{days_moved}
use Rattle.law_office.specs.Tables.{kept_in, revised_view}
use Rattle.law_office.proofs.Gathered.{AreLeft, others_left}
use Rattle.law_office.proofs.references.gather_revised.Goals as goal

pub loop-work-preserved : goal.loop-work-preserved
loop-work-preserved c =
    let es = c.args._register.now.entries in
    let e = c.args._entry.now in
    let kept = kept_in c.args.tables.now in
    let revised : List (List ℕ × WorkRevision) = c.args.revised.now in
    let i : ℕ = c.loop-work.work-index in
    let one : List ℕ × WorkRevision = c.loop-work-item.result in
    let rest : List (List ℕ × WorkRevision) = drop (i + 1) revised in
    let all = days_moved (map revised_view revised) in
    let names = c.args.works.now ++ map (λ t. t.0) all in
    let rows = c.args.rows.now ++ rows_touched (es ++ e ∷ []) all in
    let within : i < length revised = search rules in
    let cut : drop i revised ≡ one ∷ rest = drop_more revised i one within ∙ ap (λ (x : List ℕ × WorkRevision). x ∷ rest) (sym c.loop-work-item.is) in
    others_left es e kept c.loop-work.works names c.loop-work.rows rows (revised_view one) (map revised_view rest)
    (subst (λ (left : List (List ℕ × WorkRevision)). AreLeft es e kept c.loop-work.works names c.loop-work.rows rows (map revised_view left)) cut c.loop-work.invariant)
    c.gather_one.new.works c.gather_one.new.rows c.in_ok-gather_one.ensures.works c.in_ok-gather_one.ensures.rows
