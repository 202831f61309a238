-- The table of all that dangles is that of the register.
use Rattle.std.proofs.Common.{◌≡◌, ℕ, List}
use Rattle.std.specs.Prelude.{IfOk, Result, Ok, Err, Vec}
use Rattle.std.specs.Global.{Global}
use Rattle.law_register.specs.declared.register.entry.Entry.{Entry}
use Rattle.law_refs.specs.Missing.{IsDangling}
use Rattle.law_refs.specs.declared.dangling.DanglingRef.{DanglingRef}
use Rattle.law_reports.specs.Dangling.{IsDanglingTable, dangling_table}

pub is_of_register : {E : Type 0} (result : Result (Vec ℕ Global) E) (entries : List Entry) (day : ℕ) (found : List DanglingRef)
    → IsDangling entries day found → IfOk result (λ bytes. bytes.items ≡ dangling_table found)
    → IfOk result (λ bytes. IsDanglingTable entries day bytes.items)
is_of_register (Ok bytes) entries day found all is = record { found = found; all = all; is = is }
is_of_register (Err fault) entries day found all is = is
