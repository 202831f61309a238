use Rattle.std.proofs.Common.{◌∙◌, sym, ap, subst, map, option_map, Option}
use Rattle.version_cache.specs.declared.work_tables.WorkTables.{WorkTables}
use Rattle.version_cache.specs.Seen.{work_view}
use Rattle.version_cache.specs.Works.{IsRevisionIf}
use Rattle.law_office.specs.Movements.{revision_among}
use Rattle.law_office.specs.Tables.{kept_in, revised_view}
use Rattle.law_office.proofs.Committing.{fits_among}
use Rattle.law_office.proofs.sources_then.found_kept.Goals as goal

pub invariant_of-result : goal.invariant_of-result
invariant_of-result c =
    let kept = work_view c.in_ok-tables.tables.now in
    let revised = map revised_view c.args.revised.now in
    record {
      fits = subst (IsRevisionIf kept) (sym (c.revision_among-revision.ensures ∙ ap (revision_among revised) c.as_str.ensures))
          (fits_among revised (kept_in c.args.tables.now) c.requires c.args.work.now kept
          (ap (λ (o : Option WorkTables). option_map work_view o) (sym c.in_ok-tables.ensures.value)));
    }
