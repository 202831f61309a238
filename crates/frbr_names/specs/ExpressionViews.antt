-- The IRIs of expressions, as clauses see them.
use Rattle.std.specs.Option.{option_copied}
use Rattle.frbr_names.specs.Expressions.{Expression}
use Rattle.frbr_names.specs.WorkViews.{work_view}
use Rattle.frbr_names.specs.declared.expression_iri.ExpressionIri.{ExpressionIri}

-- the IRI of an expression as what it says
abbrev pub expression_view : ExpressionIri → Expression
expression_view iri = record {
  work = work_view iri.work;
  language = iri.language;
  version = iri.version;
  portion = option_copied iri.portion;
}
