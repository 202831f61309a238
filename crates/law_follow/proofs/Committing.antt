-- A replica whose register has grown, or has room, is right still.
use Rattle.std.proofs.Common.{◌≡◌, sym, subst, List, [], ◌∷◌, ◌++◌, Option, None, Ok}
use Rattle.std.specs.Prelude.{IfSome}
use Rattle.law_register.specs.declared.register.entry.Entry.{Entry}
use Rattle.entry_codec.specs.Entries.{spelling}
use Rattle.law_follow.specs.Opening.{opened, spellings}
use Rattle.law_follow.specs.Replicas.{IsPendingOn, IsRight}
use Rattle.law_follow.specs.Taking.{Fits}
use Rattle.law_follow.specs.declared.replica.Pending.{Pending}
use Rattle.law_follow.specs.declared.replica.Replica.{Replica}
use Rattle.law_follow.proofs.Openings.{opened_behind_them, spellings_last}

pub pushed_right : (old new : Replica) (e : Entry) → IsRight old → Fits old.register.entries e (spelling e)
    → new.register.entries ≡ old.register.entries ++ e ∷ [] → new.pending ≡ None → IsRight new
pushed_right old new e right fits same none = record {
  opens = subst (λ (es : List Entry). opened (spellings es) ≡ Ok es) (sym same)
      (opened_behind_them old.register.entries (old.register.entries ++ e ∷ []) (spelling e) right.opens fits
      (spellings_last old.register.entries e));
  pending = subst (λ (o : Option Pending). IfSome o (IsPendingOn new.register)) (sym none) tt;
}

pub reserved_right : (old new : Replica) → IsRight old → new.register.entries ≡ old.register.entries → new.pending ≡ None → IsRight new
reserved_right old new right same none = record {
  opens = subst (λ (es : List Entry). opened (spellings es) ≡ Ok es) (sym same) right.opens;
  pending = subst (λ (o : Option Pending). IfSome o (IsPendingOn new.register)) (sym none) tt;
}
