-- What an index lists is what dangles by its register.
use Rattle.std.proofs.Common.{◌≡◌, sym, subst, ℕ, List}
use Rattle.std.specs.Prelude.{IfOk, Result, Ok, Err}
use Rattle.law_register.specs.declared.register.entry.Entry.{Entry}
use Rattle.law_refs.specs.Index.{Kept}
use Rattle.law_refs.specs.Listed.{dangling_on}
use Rattle.law_refs.specs.Missing.{IsDangling}
use Rattle.law_refs.specs.declared.dangling.DanglingRef.{DanglingRef}

pub listed : {E : Type 0} (result : Result (List DanglingRef) E) (entries : List Entry) (day : ℕ) (index : Kept)
    → IsDangling entries day (dangling_on day index) → IfOk result (λ found. found ≡ dangling_on day index)
    → IfOk result (λ found. IsDangling entries day found)
listed (Ok found) entries day index all is = subst (λ (f : List DanglingRef). IsDangling entries day f) (sym is) all
listed (Err fault) entries day index all is = is
