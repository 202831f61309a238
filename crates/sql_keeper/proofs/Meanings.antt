-- What the statements of a keeper mean.
use Rattle.std.proofs.Common.{◌≡◌, pos, negsuc, List, [], ◌∷◌, codes, false, None, Ok, refl}
use Rattle.sqlite.specs.declared.types.Value.TheVariants.{Null, Int}
use Rattle.sqlite.specs.Term.{Term, lit, col, op2}
use Rattle.sqlite.specs.Query.{Query, inner, end}
use Rattle.sqlite_value.specs.Keys.{ascending}
use Rattle.sqlite_value.specs.declared.keys.Collation.TheVariants.{Binary}
use Rattle.sqlite.specs.Command.TheVariants.{Insert, Select, CreateTable, Nothing}
use Rattle.sqlite.specs.Source.TheVariants.{Values}
use Rattle.sqlite.specs.Compile.{table_defined_by}
use Rattle.sqlite.specs.Listing.{understood, reads_listing}
use Rattle.sqlite_tied.specs.Compute.{everything}
use Rattle.sqlite.proofs.Callers.{IsPlain, command_of, statement_of}
use Rattle.sqlite_sql.specs.declared.ops.BinaryOp.TheVariants.{Compare}
use Rattle.sqlite_sql.specs.declared.ops.CompareOp.TheVariants.{Eq}
use Rattle.sql_keeper.specs.Tables.{entry, entry_schema, no_schema, create_text, insert_text, rows_text, row_text}

abbrev pub rows_query : Query
rows_query = record {
  from = inner 0 end;
  filter = [];
  group = None;
  project = col 1 0 ∷ col 1 2 ∷ [];
  distinct = false;
  collations = [];
  order = (col 1 0, ascending Binary) ∷ [];
  limit = lit (Int (negsuc 0));
  offset = lit (Int (pos 0));
}

abbrev pub row_query : Query
row_query = record {
  from = inner 0 end;
  filter = op2 (Compare Eq Binary) (col 1 0) (col 0 0) ∷ [];
  group = None;
  project = col 1 2 ∷ [];
  distinct = false;
  collations = [];
  order = [];
  limit = lit (Int (negsuc 0));
  offset = lit (Int (pos 0));
}

abbrev pub insert_terms : List Term
insert_terms = col 0 0 ∷ lit Null ∷ col 0 1 ∷ []

pub create_is : (command_of (understood no_schema create_text) ≡ CreateTable) × (statement_of create_text (understood no_schema create_text) ≡ create_text) × (table_defined_by create_text ≡ Ok entry)
unfolding understood everything
create_is = (refl, refl, refl)

pub create_plain : IsPlain (understood no_schema create_text)
unfolding understood everything
create_plain = (refl, refl)

pub again_is : command_of (understood entry_schema create_text) ≡ Nothing
unfolding understood everything
again_is = refl

pub again_plain : IsPlain (understood entry_schema create_text)
unfolding understood everything
again_plain = (refl, refl)

pub insert_is : command_of (understood entry_schema insert_text) ≡ Insert 0 (Values insert_terms 3)
unfolding understood everything
insert_is = refl

pub insert_plain : IsPlain (understood entry_schema insert_text)
unfolding understood everything
insert_plain = (refl, refl)

pub rows_is : (command_of (understood entry_schema rows_text) ≡ Select (record { lets = []; body = rows_query }) (codes "number" ∷ codes "payload" ∷ [])) × (reads_listing entry_schema rows_text ≡ false)
unfolding understood everything
rows_is = (refl, refl)

pub rows_plain : IsPlain (understood entry_schema rows_text)
unfolding understood everything
rows_plain = (refl, refl)

pub row_is : (command_of (understood entry_schema row_text) ≡ Select (record { lets = []; body = row_query }) (codes "payload" ∷ [])) × (reads_listing entry_schema row_text ≡ false)
unfolding understood everything
row_is = (refl, refl)

pub row_plain : IsPlain (understood entry_schema row_text)
unfolding understood everything
row_plain = (refl, refl)
