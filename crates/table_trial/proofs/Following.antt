-- With one entry more what is kept is right before the day that the entry touches.
use Rattle.std.proofs.Common.{◌≡◌, ◌∙◌, sym, subst, ℕ, true, List, [], ◌∷◌, ◌++◌, Option, Some, None, IfSome}
use Rattle.law_register.specs.declared.register.entry.Entry.{Entry}
use Rattle.law_register.specs.Answer.Touched.{touched_day}
use Rattle.law_register.specs.Register.Verdicts.{is_accepted, is_legal, verdict}
use Rattle.law_register.proofs.Puts.{and_true}
use Rattle.law_register.proofs.Snoc.{legal_more}
use Rattle.version_cache.proofs.Following.{tables_follow}
use Rattle.version_cache.specs.Seen.{work_view}
use Rattle.table_trial.specs.declared.kept.Kept.{Kept}
use Rattle.table_trial.specs.Keeping.{Holds, HoldsUntil, IsHeld, IsHeldUntil}

held_until : (es : List Entry) (e : Entry) (kept : Option Kept) → is_legal es ≡ true → IfSome kept (IsHeld es) → IfSome kept (IsHeldUntil (es ++ e ∷ []) (touched_day es e))
held_until es e None legal held = tt
held_until es e (Some kept) legal held = tables_follow es e kept.work (work_view kept.tables) legal held

pub holds_until : (es : List Entry) (e : Entry) (kept : Option Kept) → is_accepted e.law (verdict es e.drafter e.request e.command) ≡ true → Holds es kept
    → HoldsUntil (es ++ e ∷ []) (touched_day es e) kept
holds_until es e kept accepted holds = record {
  legal = legal_more es e ∙ and_true (is_legal es) (is_accepted e.law (verdict es e.drafter e.request e.command)) holds.legal accepted;
  right = held_until es e kept holds.legal holds.held;
}

pub held_then : (es : List Entry) (e : Entry) (now : List Entry) (touched : Option ℕ) (kept : Option Kept) → now ≡ es ++ e ∷ [] → touched ≡ touched_day es e
    → is_accepted e.law (verdict es e.drafter e.request e.command) ≡ true → Holds es kept → HoldsUntil now touched kept
held_then es e now touched kept grown touches accepted holds =
    subst (λ entries. HoldsUntil entries touched kept) (sym grown)
    (subst (λ day. HoldsUntil (es ++ e ∷ []) day kept) (sym touches) (holds_until es e kept accepted holds))
