-- What the statements of a keeper leave of a connection.
use Rattle.std.proofs.Common.{◌≡◌, ◌⊎◌, inl, inr, ℕ, suc, ◌+◌, pos, Bool, true, false, IsTrue, List, [], ◌∷◌, ◌++◌, length, map, cond, codes, Option, None, Some, Ok, Err, Result, OnOk, refl, sym, ap, subst, ◌∙◌, arith}
use Rattle.std.specs.Prelude.{MatchResult, slice_get, option_map, option_and_then, unwrap_or}
use Rattle.std.proofs.lemmas.Bool.{cases_Bool}
use Rattle.sqlite.specs.declared.types.Value.{Value}
use Rattle.sqlite.specs.declared.types.Value.TheVariants.{Null, Int, Blob}
use Rattle.sqlite.specs.declared.error.Error.{Error}
use Rattle.sqlite.specs.Order.{Row}
use Rattle.sqlite.specs.Tree.{Trees, IsTable, put_row}
use Rattle.sqlite.specs.Schema.{Schema}
use Rattle.sqlite.specs.Kind.TheVariants.{Integer}
use Rattle.sqlite.specs.Source.TheVariants.{Values}
use Rattle.sqlite.specs.Command.TheVariants.{Insert, CreateTable, Nothing}
use Rattle.sqlite.specs.Cast.{cast}
use Rattle.sqlite.specs.Ops.{unary}
use Rattle.sqlite.specs.Rowids.TheVariants.{Chosen}
use Rattle.sqlite.specs.Edit.{edit_of, edited}
use Rattle.sqlite.specs.Change.{created, next_tree}
use Rattle.sqlite.specs.Effect.{Database}
use Rattle.sqlite.specs.Does.{Tally, Does, lacks_sequence}
use Rattle.sqlite.specs.Rows.{Written}
use Rattle.sqlite.specs.Listing.{understood}
use Rattle.sqlite.specs.State.{State, mode_of, Writes, Executes, ExecutesIn, IsNotRun, IsUnchanged, IsRolledBack, Fails, FailsToQuery, FailsToShow, RunsCommand, shows_rows}
use Rattle.sqlite.proofs.Callers.{statement_of, runs_as, one_step}
use Rattle.sqlite_resolve.specs.declared.compiled.Compiled.{Compiled}
use Rattle.sqlite_schema.specs.Names.{table_named, same_name}
use Rattle.sqlite_schema.specs.declared.command.Returning.{Returning}
use Rattle.sqlite_trees.specs.View.{doubt}
use Rattle.sqlite_trees.proofs.Doubt.{no_doubt}
use Rattle.sqlite_trees.proofs.TreeLemmas.{IsTable-put_row}
use Rattle.law_journal.specs.Grammar.{is_size}
use Rattle.sql_keeper.specs.Tables.{entry, entry_schema, no_schema, rows_in, stored, shown, list_from, list_of, create_text, insert_text}
use Rattle.sql_keeper.specs.Connections.{IsAtRest, HasTable, MayHaveTable, IsSame}
use Rattle.sql_keeper.proofs.Meanings.{create_is, create_plain, again_is, again_plain, insert_terms, insert_is, insert_plain}
use Rattle.sql_keeper.proofs.Rows.{put_behind, listed_behind}

-- a store that is open has been given what was written
pub open_is_clean : (is_open is_clean : Bool) → (is_clean ≡ false → is_open ≡ false) → IsTrue is_open → doubt is_clean ≡ 0
open_is_clean is_open true shut live = no_doubt true refl
open_is_clean is_open false shut live = absurd (let e = shut refl in cc)

-- the rows by a schema
abbrev rows_by : Schema → Trees → List Row
rows_by schema trees = unwrap_or (option_map (λ t. trees t.tree) (option_and_then (slice_get schema.tables) (table_named schema (codes "entry")))) []

rows_with : (trees : Trees) → rows_by entry_schema trees ≡ trees 0
unfolding same_name
rows_with trees = refl

pub rows_there : (d : Database) → d.schema ≡ entry_schema → rows_in d ≡ d.trees 0
rows_there d has = ap (λ s. rows_by s d.trees) has ∙ rows_with d.trees

pub rows_none : (d : Database) → d.schema ≡ no_schema → rows_in d ≡ []
rows_none d has = ap (λ s. rows_by s d.trees) has

-- what leaves a connection as it was, and what goes back to the last commit
module _ (old new : State) (rest : IsAtRest old) (live : IsTrue new.is_open) where
  pub unchanged : IsUnchanged old new → IsSame old new
  unchanged same =
      let s = same.0 in (
        record { is_open = live; autocommit = s.mode ∙ rest.autocommit; committed = s.committed_is ∙ rest.committed ∙ sym s.now_is; ascends = subst (λ (d : Database). IsTable (rows_in d)) (sym s.now_is) rest.ascends },
        s.now_is,
      )

  rolled : IsRolledBack old new → IsSame old new
  rolled back =
      let u = back.undone live in
      let now : new.now ≡ old.now = u.0 ∙ rest.committed in (
        record { is_open = live; autocommit = back.autocommit; committed = u.1 ∙ rest.committed ∙ sym now; ascends = subst (λ (d : Database). IsTable (rows_in d)) (sym now) rest.ascends },
        now,
      )

  pub failed : (P : Type 0) (e : Error) → Fails old new P e → IsSame old new
  failed P e h = rolled h.3

  not_run : (sql : List ℕ) (params : Row) (e : Error) → IsNotRun old new sql params e → IsSame old new
  unfolding IsNotRun
  not_run sql params e (inl h) = unchanged h.1
  not_run sql params e (inr h) = failed ⊥ e h

  not_done : (sql : List ℕ) (c : Compiled) (params : Row) (e : Error) → RunsCommand old new sql c params (Err e) → IsSame old new
  not_done sql c params e (inl h) = unchanged h.1
  not_done sql c params e (inr h) = failed _ e h

  pub refused : (sql : List ℕ) (params : Row) (e : Error) → Executes sql params old new (Err e) → IsSame old new
  unfolding ExecutesIn
  refused sql params e (inl h) = not_run sql params e h
  refused sql params e (inr h) = elim (cases_Bool (shows_rows false h.0)) [
    | inl shows ↦ unchanged (rw shows at h.2).1
    | inr runs ↦ not_done sql h.0 _ e (rw runs at h.2)
  ]

  not_shown : (sql : List ℕ) (c : Compiled) (params : Row) (e : Error) (r : Option Returning) → FailsToShow old new sql c params e r → IsSame old new
  not_shown sql c params e None h = unchanged h.3
  not_shown sql c params e (Some what) h = not_done sql c params e h

  pub not_queried : (sql : List ℕ) (params : Row) (e : Error) → FailsToQuery sql params old new e → IsSame old new
  unfolding FailsToQuery
  not_queried sql params e (inl h) = not_run sql params e h
  not_queried sql params e (inr h) = not_shown sql h.0 _ e h.0.returning h.2

-- what stays is still the table, with its list
pub still_table : (old new : State) → HasTable old → IsSame old new → HasTable new
still_table old new has same = (same.0, ap (λ (d : Database). d.schema) same.1 ∙ has.1)

pub still_may : (old new : State) → MayHaveTable old → IsSame old new → MayHaveTable new
still_may old new may same = (same.0, subst (λ (d : Database). (d.schema ≡ no_schema) ⊎ (d.schema ≡ entry_schema)) (sym same.1) may.1)

-- a part that gave a value did not stop on the way
went : {B E R : Type 0} {b : B} {Stops : E → Type 0} → ((stop : E) × Stops stop × (Ok b ≡ Err stop)) ⊎ R → R
went (inl stopped) = absurd (let e = stopped.2 in cc)
went (inr on) = on

same_value : {B E : Type 0} {a b : B} → ◌≡◌ {A = Result B E} (Ok a) (Ok b) → a ≡ b
same_value e = cc

-- a write outside a transaction is committed
written : (old new : State) (returning : Option Returning) (command : _) (text : List ℕ) (params : Row) (count : ℕ) → IsAtRest old → Writes old new returning command text params count → IsTable (rows_in new.now) → IsAtRest new
written old new returning command text params count rest w ascends = record {
  is_open = w.shown.is_open;
  autocommit = w.shown.mode ∙ rest.autocommit;
  committed = w.shown.committed_is ∙ ap (λ b. cond b old.committed new.now) rest.autocommit;
  ascends = ascends;
}

-- the table is made where there is none
made : (old new : State) (count : ℕ) → IsAtRest old → old.now.schema ≡ no_schema → Executes create_text [] old new (Ok count) → HasTable new × (list_of new.now ≡ Ok [])
made old new count rest has h =
    let w = subst (λ t. Writes old new None CreateTable t [] count) create_is.1 (runs_as create_text [] old new no_schema has CreateTable create_is.0 create_plain count h) in
    let all = went w.changed in
    let first = went all.1 in
    let made = first.1 in
    let both : Ok made.table ≡ Ok entry = sym made.defined ∙ create_is.2 in
    let same : made.table ≡ entry = cc in
    let schema : first.0.schema ≡ entry_schema = made.is ∙ ap (λ s. created s made.table) has ∙ ap (created no_schema) same in
    let plain : lacks_sequence first.0.schema ≡ false = ap lacks_sequence schema in
    let now : new.now ≡ first.0 = ap (λ (p : Tally × Database). p.1) (same_value all.2) ∙ same_value (rw plain at first.2) in
    let is : new.now.schema ≡ entry_schema = ap (λ (d : Database). d.schema) now ∙ schema in
    let empty : rows_in new.now ≡ [] = rows_there new.now is ∙ ap (λ (d : Database). d.trees 0) now ∙ subst (λ s. first.0.trees (next_tree s) ≡ []) has made.empty in
    ((written old new None CreateTable create_text [] count rest w (subst IsTable (sym empty) tt), is), ap (λ (rows : List Row). list_from 1 (map shown rows)) empty)

pub makes : (old new : State) (r : Result ℕ Error) → Executes create_text [] old new r → IsTrue new.is_open → MayHaveTable old → MayHaveTable new × (list_of new.now ≡ list_of old.now) × OnOk r (HasTable new)
makes old new (Err e) h live may =
    let same = refused old new may.0 live create_text [] e h in
    (still_may old new may same, ap list_of same.1, tt)
makes old new (Ok count) h live (rest, inl none) =
    let made = made old new count rest none h in
    ((made.0.0, inr made.0.1), made.1 ∙ sym (ap (λ (rows : List Row). list_from 1 (map shown rows)) (rows_none old.now none)), made.0)
makes old new (Ok count) h live (rest, inr has) =
    let same = unchanged old new rest live (runs_as create_text [] old new entry_schema has Nothing again_is again_plain count h).0 in
    let table = still_table old new (rest, has) same in
    ((table.0, inr table.1), ap list_of same.1, table)

either : (b : Bool) (x : Value) → cond b x x ≡ x
either true x = refl
either false x = refl

cast_number : (number : ℕ) → cast Integer (Int (pos number)) ≡ Int (pos number)
unfolding unary
cast_number number = either _ (Int (pos number))

cast_null : cast Integer Null ≡ Null
unfolding unary
cast_null = either _ Null

-- a row is put into the table
put_in : (old new : State) (number : ℕ) (payload : List ℕ) (count : ℕ) → HasTable old → Executes insert_text (Int (pos number) ∷ Blob payload ∷ []) old new (Ok count)
    → HasTable new × (rows_in new.now ≡ put_row (stored number payload) (rows_in old.now))
put_in old new number payload count (rest, has) h =
    let params = Int (pos number) ∷ Blob payload ∷ [] in
    let db = old.now.trees in
    let command = Insert 0 (Values insert_terms 3) in
    let w = runs_as insert_text params old new entry_schema has command insert_is insert_plain count h in
    let text = statement_of insert_text (understood entry_schema insert_text) in
    let done = went (subst (λ s. Does old.step_limit (mode_of old) params (record old.now { schema = s }) text None command (Ok (w.tally, new.now))) has w.changed) in
    let now = ap (λ (p : Tally × Database). p.1) (same_value (went (went done.2).2).2) in
    let given = went done.1 in
    let mid = went (went given.2).2 in
    let counted = went mid.2 in
    let trees : done.0.trees ≡ mid.0 = ap (λ (it : Written). it.trees) (same_value counted.2) ∙ same_value counted.1 in
    let rows = (one_step entry_schema _ db mid.0 (edit_of db entry [] Chosen 0 given.0) refl mid.1).rows in
    let edit : edited db (edit_of db entry [] Chosen 0 given.0) ≡ put_row (stored number payload) (db 0) = ap (λ all. edited db (edit_of db entry [] Chosen 0 all)) given.1.1 ∙ rw (cast_number number, cast_null) in
    let is : new.now.schema ≡ entry_schema = ap (λ (d : Database). d.schema) now in
    let put : rows_in new.now ≡ put_row (stored number payload) (rows_in old.now) =
    rows_there new.now is ∙ ap (λ (d : Database). d.trees 0) now ∙ ap (λ (t : Trees). t 0) trees ∙ rows ∙ edit ∙ ap (put_row (stored number payload)) (sym (rows_there old.now has)) in
    ((written old new None command text params count rest w (subst IsTable (sym put) (IsTable-put_row (stored number payload) (rows_in old.now) rest.ascends)), is), put)

map-last : (rows : List Row) (row : Row) → map shown (rows ++ row ∷ []) ≡ map shown rows ++ shown row ∷ []
map-last [] row = refl
map-last (first ∷ rows) row = ap (λ (l : List Row). shown first ∷ l) (map-last rows row)

-- the list with the payload behind it
behind : (old new : List Row) (number : ℕ) (payload : List ℕ) → new ≡ put_row (stored number payload) old → (payloads : List (List ℕ)) → list_from 1 (map shown old) ≡ Ok payloads
    → number ≡ suc (length payloads) → IsTrue (is_size (length payload)) → list_from 1 (map shown new) ≡ Ok (payloads ++ payload ∷ [])
behind old new number payload put payloads is at sized =
    let next : number ≡ 1 + length payloads = omega (arith, at) in
    ap (λ (rows : List Row). list_from 1 (map shown rows)) (put ∙ put_behind 1 old payloads number payload is next)
    ∙ ap (list_from 1) (map-last old (stored number payload))
    ∙ listed_behind 1 (map shown old) payloads number payload is next sized

pub puts : (old new : State) (number : ℕ) (payload : List ℕ) (r : Result ℕ Error) → Executes insert_text (Int (pos number) ∷ Blob payload ∷ []) old new r → IsTrue new.is_open → HasTable old
    → HasTable new × MatchResult r
    (λ count. (payloads : List (List ℕ)) → list_of old.now ≡ Ok payloads → number ≡ suc (length payloads) → IsTrue (is_size (length payload)) → list_of new.now ≡ Ok (payloads ++ payload ∷ []))
    (λ e. list_of new.now ≡ list_of old.now)
puts old new number payload (Err e) h live has =
    let same = refused old new has.0 live insert_text (Int (pos number) ∷ Blob payload ∷ []) e h in (still_table old new has same, ap list_of same.1)
puts old new number payload (Ok count) h live has =
    let put = put_in old new number payload count has h in (put.0, behind (rows_in old.now) (rows_in new.now) number payload put.1)
