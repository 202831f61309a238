-- What may cross threads: the keeper over SQLite. The list of a file's calls owns nothing; of every other type below its
-- library says so.
use denote.Ref.{NamedLft}
use denote.Param.Send.{IsSend, owning_send, sendable}
use denote.Param.SendFields.{declared_send}
use Rattle.std.proofs.Crossing.{crosses}
use Rattle.std.proofs.fs.File.TheSendSync as file
use Rattle.sqlite_disk.proofs.modelled.Modelled.TheSendSync as modelled
use Rattle.sqlite_disk.specs.contracts.start.Wary as wary
use Rattle.sqlite_std_file.specs.contracts.host.Host as host
use Rattle.sqlite_std_file.specs.contracts.record.Record as calls
use Rattle.sqlite_store.proofs.store.FileStore.TheSendSync as store
use Rattle.sql_keeper.proofs.file_opener.FileOpener.TheSendSync as opener
use Rattle.sql_keeper.proofs.sql_keeper.SqlKeeper.TheSendSync as keeper
use Rattle.sql_keeper.specs.contracts.file_opener.FileOpenerOpener.TheImpl as opening
use Rattle.lawdesk.specs.contracts.database.Database as database

pub calls_send : IsSend calls.the_row
calls_send = owning_send calls.the_type (search (sendable, crosses) depth 10, tt) (λ d. tt) (λ k d w. tt)

pub host_send : IsSend host.the_row
host_send = declared_send host.the_type (file.the_send, (calls_send, tt))

pub database_send : (κ : NamedLft) → IsSend (database.the_row κ)
database_send κ =
    let stored = store.the_send _ _ (modelled.the_send _ wary.the_row _ _ host_send) in
    declared_send (database.the_type κ) (keeper.the_send _ _ opening.ghosts _ (opener.the_send κ) stored, tt)
