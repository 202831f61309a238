-- What is kept of a work stays for it, where an entry neither concerns nor touches the work.
use Rattle.std.proofs.Common.{◌≡◌, ◌∙◌, sym, ap, refl, subst, ℕ, true, false, ◌||◌, List, [], ◌∷◌, ◌++◌, map, Option, Some, None, option_map}
use Rattle.std.specs.List.{list_any}
use Rattle.law_register.specs.declared.register.entry.Entry.{Entry}
use Rattle.law_register.specs.declared.register.known.Known.{Known}
use Rattle.law_register.specs.declared.register.known.KnownMod.{KnownMod}
use Rattle.law_register.specs.Answer.Replay.{as_enacted}
use Rattle.law_register.specs.Answer.Standing.{alone}
use Rattle.law_register.specs.Law.Sources.{names_provision}
use Rattle.law_register.specs.Provisions.Carrying.{carrying, held_now, mod_carrying}
use Rattle.law_register.specs.Provisions.Line.{line}
use Rattle.law_register.specs.Provisions.Looking.{names_any}
use Rattle.law_register.specs.Provisions.Touching.{is_concerned, touched}
use Rattle.law_register.specs.Register.KnownNext.{known_now, up_to}
use Rattle.law_register.specs.Register.LawList.{front, laws}
use Rattle.law_register.specs.Register.Verdicts.{is_accepted, is_legal, verdict}
use Rattle.law_register.proofs.CarryingNothing.{carrying_alone}
use Rattle.law_register.proofs.Next.{entry_apart}
use Rattle.law_register.proofs.Puts.{right_true}
use Rattle.law_register.proofs.Snoc.{legal_more}
use Rattle.version_cache.specs.Agreement.{IsEarly}
use Rattle.version_cache.specs.Works.{IsAlike, IsFor, IsForIf, WorkValue, table_in}
use Rattle.source_provisions.proofs.Carrying.{carried_days}
use Rattle.source_provisions.proofs.HeldNow.{early_version, held_is, is_there, known_still, legal_before, was_there}
use Rattle.held_provisions.proofs.DaysStay.{days_stay}

-- what is carried names no other provisions
named_in : (works : List Known) (day : ℕ) (ms : List KnownMod) → list_any (λ m. names_provision m.body) (map (mod_carrying works day) ms) ≡ list_any (λ m. names_provision m.body) ms
named_in works day [] = refl
named_in works day (m ∷ ms) = ap (λ b. names_provision m.body || b) (named_in works day ms)

names_carrying : (works : List Known) (known : Known) → names_any (carrying works known) ≡ names_any known
names_carrying works known = named_in works known.act.day known.mods

module _ (es : List Entry) (e : Entry) (whole : is_legal (es ++ e ∷ []) ≡ true) (w : List ℕ) (kept : WorkValue) (apart : is_concerned es e w ≡ false)
    (none : touched es e w ≡ None) where
  legal : is_legal es ≡ true
  legal = legal_before es e whole

  accepted : is_accepted e.law (verdict es e.drafter e.request e.command) ≡ true
  accepted = right_true (is_legal es) (is_accepted e.law (verdict es e.drafter e.request e.command)) (sym (legal_more es e) ∙ whole)

  abbrev L : List Known
  L = line (laws es)

  abbrev M : List Known
  M = line (laws (es ++ e ∷ []))

  one_of : (a b : Known) → Some a ≡ Some b → a ≡ b
  one_of a b h = cc

  module _ (old new : Known) (was : known_now es w ≡ Some old) (is : known_now (es ++ e ∷ []) w ≡ Some new) (right : IsFor (carrying L old) kept) where
    same : new ≡ up_to (front (es ++ e ∷ [])) old
    same = one_of new (up_to (front (es ++ e ∷ [])) old) (sym is ∙ entry_apart es e w apart ∙ ap (option_map (up_to (front (es ++ e ∷ [])))) was)

    alike_before : IsAlike kept.known (alone old)
    alike_before = subst (IsAlike kept.known) (carrying_alone L old) right.alike

    alike_then : IsAlike kept.known (alone (up_to (front (es ++ e ∷ [])) old))
    alike_then = record { act = alike_before.act; enacted = alike_before.enacted; mods = alike_before.mods; sources = alike_before.sources }

    stays : IsFor (carrying M new) kept
    stays = record {
      alike = subst (IsAlike kept.known) (sym (carrying_alone M new ∙ ap alone same)) alike_then;
      names = right.names ∙ names_carrying L old ∙ sym (names_carrying M new ∙ ap names_any same);
      days = right.days ∙ carried_days L old
          ∙ days_stay es e legal accepted w old new (was_there es e legal w old new was is) (is_there es e legal w old new was is) apart none
          ∙ sym (carried_days M new);
      tables = record {
        readings = right.tables.readings;
        right = λ reading. record {
          enacted = (right.tables.right reading).enacted ∙ ap (λ (k : Known). as_enacted k.act) (sym same);
          versions = λ day.
              (right.tables.right reading).versions day
              ∙ early_version es e legal w old new was is (table_in reading kept).reading day (subst (IsEarly day) (sym none) tt);
        };
      };
    }

  with_new : (old : Known) → known_now es w ≡ Some old → IsFor (carrying L old) kept → (new : Known) × (known_now (es ++ e ∷ []) w ≡ Some new)
      → IsForIf (held_now (es ++ e ∷ []) w) kept
  with_new old was right (new, is) =
      subst (λ held. IsForIf held kept) (sym (held_is (es ++ e ∷ []) w ∙ ap (option_map (carrying M)) is)) (stays old new was is right)

  pub untouched_stay : IsForIf (held_now es w) kept → IsForIf (held_now (es ++ e ∷ []) w) kept
  untouched_stay right = by (known_now es w) refl (subst (λ held. IsForIf held kept) (held_is es w) right)
    where
      by : (known : Option Known) → known_now es w ≡ known → IsForIf (option_map (carrying L) known) kept → IsForIf (held_now (es ++ e ∷ []) w) kept
      by None was right = absurd right
      by (Some old) was right = with_new old was right (known_still es e w old legal was)
