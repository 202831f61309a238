-- What may cross threads: an office, where its keeper and its clock may. The nodes that its entries share lie behind a
-- count, and are never changed.
use denote.RattleType.{RattleType}
use denote.Hole.{as_row}
use denote.Ref.{MutRef, NamedLft}
use denote.Struct.Field.{row_field}
use denote.Param.Send.{IsSend, mut_send, sendable, view_send}
use denote.Param.SendFields.{as_row_send, declared_send}
use Rattle.std.proofs.Crossing.{crosses}
use Rattle.desk_base.proofs.day.Day.TheSendSync as day
use Rattle.desk_base.proofs.id.Id.TheSendSync as id
use Rattle.desk_base.proofs.period.Period.TheSendSync as period
use Rattle.desk_base.proofs.text.Text.TheSendSync as text
use Rattle.frbr_names.proofs.work_name.WorkName.TheSendSync as work
use Rattle.eid_paths.proofs.num.Num.TheSendSync as num
use Rattle.eid_paths.proofs.numbering.Numbering.TheSendSync as numbering
use Rattle.act_tree.proofs.node_spec.Nodes.TheLaws.TheKnot as knot
use Rattle.act_tree.specs.contracts.shared_nodes.SharedNodes as shared
use Rattle.textual_mods.proofs.edit.Pos.TheSendSync as pos
use Rattle.textual_mods.proofs.edit.SplitAt.TheSendSync as split_at
use Rattle.textual_mods.proofs.edit.Spot.TheSendSync as spot
use Rattle.textual_mods.proofs.edit.TextPos.TheSendSync as text_pos
use Rattle.textual_mods.proofs.pairs.Pairs.TheSendSync as pairs
use Rattle.textual_mods.specs.contracts.edit.TextualMod as textual
use Rattle.bearing_mods.proofs.efficacy.EfficacyEffect.TheSendSync as efficacy
use Rattle.bearing_mods.proofs.force.ForceEffect.TheSendSync as force
use Rattle.law_register.proofs.law.modification.Destination.TheSendSync as destination
use Rattle.law_register.proofs.law.modification.ModSource.TheSendSync as source
use Rattle.law_register.proofs.register.drafter.Drafter.TheSendSync as drafter
use Rattle.law_register.proofs.register.indexes.Indexes.TheSendSync as indexes
use Rattle.law_register.proofs.series.Series.TheSendSync as series
use Rattle.law_register.specs.contracts.law.act.Act as act
use Rattle.law_register.specs.contracts.law.command.Command as command
use Rattle.law_register.specs.contracts.law.modification.Modification as modification
use Rattle.law_register.specs.contracts.register.carried.Carried as carried
use Rattle.law_register.specs.contracts.register.entry.Entry as entry
use Rattle.law_register.specs.contracts.register.known.Known as known
use Rattle.law_register.specs.contracts.register.known.KnownMod as known_mod
use Rattle.law_register.specs.contracts.register.register.Register as register
use Rattle.indexmap.proofs.map.IndexMap.TheSendSync as index_map
use Rattle.indexmap.proofs.set.IndexSet.TheSendSync as index_set
use Rattle.lru.proofs.cache.LruCache.TheSendSync as lru
use Rattle.law_register.proofs.answer.past_key.PastKey.TheSendSync as past_key
use Rattle.law_register.proofs.desk.fault_mark.FaultMark.TheSendSync as fault_mark
use Rattle.version_cache.proofs.revision.Revision.TheSendSync as revision
use Rattle.version_cache.proofs.table.Table.TheSendSync as table
use Rattle.version_cache.specs.contracts.work_revision.WorkRevision as work_revision
use Rattle.version_cache.specs.contracts.work_tables.WorkTables as work_tables
use Rattle.law_refs.proofs.ref_index.RefIndex.TheSendSync as ref_index
use Rattle.law_refs.proofs.ref_index.RefRevision.TheSendSync as ref_revision
use Rattle.viewpoints.specs.contracts.past_tables.PastTable as past_table
use Rattle.viewpoints.specs.contracts.past_tables.PastTables as past_tables
use Rattle.desk_base.specs.declared.clock.Clock as clock
use Rattle.law_keeper.specs.declared.keeper.Keeper as keeper
use Rattle.law_office.specs.contracts.book.Book as book
use Rattle.law_office.specs.contracts.book.Changes as changes
use Rattle.law_office.specs.contracts.book.Pending as pending
use Rattle.law_office.specs.contracts.office.Office as office
use Rattle.law_office.specs.contracts.office.Office.TheInside as inside
use Rattle.std.specs.contracts.snapshot.Snapshot as snapshot

pub shared_send : IsSend shared.the_row
shared_send = search (knot.both_send-Nodes, knot.both_sync-Nodes, sendable, crosses) depth 30 fits 30000

pub act_field_send : IsSend (act.the_field).row
act_field_send = search (shared_send, work.the_send, day.the_send, numbering.the_field_send, period.the_field_send, sendable, crosses) depth 30 fits 30000

pub textual_field_send : IsSend (textual.the_field).row
textual_field_send = search (shared_send, text.the_send, num.the_send, pairs.the_send, pos.the_field_send, split_at.the_field_send, spot.the_field_send, text_pos.the_field_send, sendable, crosses) depth 30 fits 30000

pub modification_field_send : IsSend (modification.the_field).row
modification_field_send = search (textual_field_send, source.the_field_send, destination.the_field_send, period.the_field_send, day.the_send, force.the_field_send, efficacy.the_field_send, sendable, crosses) depth 30 fits 30000

pub modification_send : IsSend modification.the_row
modification_send = search (modification_field_send, sendable) depth 10

pub command_field_send : IsSend (command.the_field).row
command_field_send = search (act_field_send, modification_field_send, modification_send, series.the_send, work.the_send, id.the_field_send, sendable, crosses) depth 30 fits 30000

pub entry_field_send : IsSend (entry.the_field).row
entry_field_send = search (command_field_send, drafter.the_send, day.the_send, sendable, crosses) depth 30 fits 30000

pub entry_send : IsSend entry.the_row
entry_send = search (entry_field_send, sendable) depth 10

pub carried_field_send : IsSend (carried.the_field).row
carried_field_send = search (series.the_send, period.the_send, sendable, crosses) depth 30 fits 30000

pub carried_send : IsSend carried.the_row
carried_send = search (carried_field_send, sendable) depth 10

pub known_mod_field_send : IsSend (known_mod.the_field).row
known_mod_field_send = search (modification_field_send, carried_send, id.the_field_send, sendable, crosses) depth 30 fits 30000

pub known_mod_send : IsSend known_mod.the_row
known_mod_send = search (known_mod_field_send, sendable) depth 10

pub known_field_send : IsSend (known.the_field).row
known_field_send = search (act_field_send, known_mod_send, series.the_send, day.the_send, sendable, crosses) depth 30 fits 30000

pub register_send : IsSend register.the_row
register_send = search (entry_send, indexes.the_field_send, sendable, crosses) depth 30 fits 30000

pub work_tables_field_send : IsSend (work_tables.the_field).row
work_tables_field_send = search (known_field_send, series.the_send, day.the_send, table.the_field_send, sendable, crosses) depth 30 fits 30000

pub work_tables_send : IsSend work_tables.the_row
work_tables_send = search (work_tables_field_send, sendable) depth 10

pub work_revision_field_send : IsSend (work_revision.the_field).row
work_revision_field_send = search (known_field_send, series.the_send, day.the_send, revision.the_send, sendable, crosses) depth 30 fits 30000

pub work_revision_send : IsSend work_revision.the_row
work_revision_send = search (work_revision_field_send, sendable) depth 10

pub changes_field_send : IsSend (changes.the_field).row
changes_field_send = search (work_tables_send, work_revision_send, ref_revision.the_send, work.the_send, sendable, crosses) depth 30 fits 30000

pub pending_field_send : IsSend (pending.the_field).row
pending_field_send = search (entry_field_send, changes_field_send, sendable, crosses) depth 30 fits 30000

pub pending_send : IsSend pending.the_row
pending_send = search (pending_field_send, sendable) depth 10

pub past_table_send : (T : RattleType) → IsSend T → IsSend (past_table.the_row T)
past_table_send T t = search (known_field_send, sendable, crosses) depth 30 fits 30000

pub past_tables_send : (T : RattleType) → IsSend T → IsSend (past_tables.the_row T)
past_tables_send T t = search (past_table_send, past_key.the_send, past_key.the_sync, lru.the_send, sendable, crosses) depth 30 fits 30000

pub book_field_send : IsSend (book.the_field).row
book_field_send = search (register_send, pending_send, fault_mark.the_send, work.the_send, work_tables_send, table.the_send, past_tables_send, ref_index.the_send, index_map.the_send, index_set.the_send, sendable, crosses) depth 30 fits 30000

pub book_send : IsSend book.the_row
book_send = search (book_field_send, sendable) depth 10

-- an office may cross threads where its keeper and its clock may
pub office_send : (κ ℓ : NamedLft) (K C : RattleType) (k : keeper.Ghosts K.Denot) (c : clock.Ghosts C.Denot) → IsSend K → IsSend C
    → IsSend (office.the_row κ ℓ K C k c)
office_send κ ℓ K C k c s d =
    let opened : IsSend (as_row (row_field (snapshot.the_row K))) = search (sendable, crosses) depth 20 in
    view_send _ _ _ _ _ (declared_send (inside.the_type κ ℓ K C k c) (
      as_row_send (row_field (MutRef κ.mir κ.lft K)) (mut_send κ.mir κ.lft K s),
      (as_row_send (row_field (MutRef ℓ.mir ℓ.lft C)) (mut_send ℓ.mir ℓ.lft C d), (book_send, (opened, tt))),
    ))
