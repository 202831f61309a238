-- What is kept of a work stays right before its touched day.
use Rattle.std.proofs.Common.{◌≡◌, ◌∙◌, sym, ap, refl, subst, true, List, [], ◌∷◌, ◌++◌, ℕ, Option, Some, None, option_map}
use Rattle.law_register.specs.declared.register.entry.Entry.{Entry}
use Rattle.law_register.specs.declared.register.known.Known.{Known}
use Rattle.law_register.specs.Answer.Replay.{as_enacted}
use Rattle.law_register.specs.Provisions.Carrying.{carrying, held_now}
use Rattle.law_register.specs.Provisions.Line.{line}
use Rattle.law_register.specs.Provisions.Touching.{touched}
use Rattle.law_register.specs.Register.KnownNext.{known_now}
use Rattle.law_register.specs.Register.LawList.{laws}
use Rattle.law_register.specs.Register.Verdicts.{is_legal}
use Rattle.version_cache.specs.Works.{AreRightEarly, AreRightEarlyIf, AreRightUntil, IsForIf, WorkValue, table_in}
use Rattle.source_provisions.proofs.HeldNow.{early_version, held_is, known_still, legal_before, same_act}

right_early : (es : List Entry) (e : Entry) (legal : is_legal es ≡ true) (w : List ℕ) (old new : Known) (was : known_now es w ≡ Some old)
    (is : known_now (es ++ e ∷ []) w ≡ Some new) (kept : WorkValue) → AreRightUntil (carrying (line (laws es)) old) None kept
    → AreRightEarly (carrying (line (laws (es ++ e ∷ []))) new) (touched es e w) kept
right_early es e legal w old new was is kept right = record {
  readings = right.readings;
  right = λ reading. record {
    enacted = (right.right reading).enacted ∙ ap as_enacted (same_act es e legal w old new was is);
    versions = λ day early.
        (right.right reading).versions day ∙ early_version es e legal w old new was is (table_in reading kept).reading day early;
  };
}

pub right_until_touched : (es : List Entry) (e : Entry) (w : List ℕ) (kept : WorkValue) → is_legal (es ++ e ∷ []) ≡ true → IsForIf (held_now es w) kept
    → AreRightEarlyIf (held_now (es ++ e ∷ []) w) (touched es e w) kept
right_until_touched es e w kept legal right =
    by (known_now es w) refl (subst (λ held. IsForIf held kept) (held_is es w) right)
  where
    before : is_legal es ≡ true
    before = legal_before es e legal

    with_new : (old : Known) → known_now es w ≡ Some old → IsForIf (Some (carrying (line (laws es)) old)) kept
        → (new : Known) × (known_now (es ++ e ∷ []) w ≡ Some new) → AreRightEarlyIf (held_now (es ++ e ∷ []) w) (touched es e w) kept
    with_new old was for (new, is) =
        subst (λ held. AreRightEarlyIf held (touched es e w) kept)
        (sym (held_is (es ++ e ∷ []) w ∙ ap (option_map (carrying (line (laws (es ++ e ∷ []))))) is))
        (right_early es e before w old new was is kept for.tables)

    by : (known : Option Known) → known_now es w ≡ known → IsForIf (option_map (carrying (line (laws es))) known) kept
        → AreRightEarlyIf (held_now (es ++ e ∷ []) w) (touched es e w) kept
    by None was for = absurd for
    by (Some old) was for = with_new old was for (known_still es e w old before was)
