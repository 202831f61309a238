-- What is held at the front: by the line of all law entries, sound, and with one entry more the same before the touched day.
use Rattle.std.proofs.Common.{◌≡◌, ◌∙◌, sym, ap, refl, subst, ℕ, ◌≤◌, true, List, [], ◌∷◌, ◌++◌, take, Option, Some, None, option_map, arith}
use Rattle.std.specs.Option.{IfSome}
use Rattle.law_register.specs.declared.answer.question.Reading.{Reading}
use Rattle.law_register.specs.declared.answer.question.Reading.TheVariants.{Force}
use Rattle.law_register.specs.declared.law.command.Command.{Command}
use Rattle.law_register.specs.declared.register.entry.Entry.{Entry}
use Rattle.law_register.specs.declared.register.known.Known.{Known}
use Rattle.law_register.specs.Answer.Replay.{replay_on}
use Rattle.law_register.specs.Answer.Soundness.{IsSound}
use Rattle.law_register.specs.Provisions.Carrying.{carrying, held_now}
use Rattle.law_register.specs.Provisions.Line.{line, work_in}
use Rattle.law_register.specs.Provisions.Touching.{touched}
use Rattle.law_register.specs.Register.KnownNext.{known_by_entry, known_next, known_now, known_then}
use Rattle.law_register.specs.Register.LawList.{front, law_of, laws}
use Rattle.law_register.specs.Register.Verdicts.{is_accepted, is_legal, verdict}
use Rattle.law_register.proofs.CarryingNothing.{known_at_alone}
use Rattle.law_register.proofs.Next.{entry_next, now_known, now_sound}
use Rattle.law_register.proofs.Past.{all_known}
use Rattle.law_register.proofs.Puts.{left_true}
use Rattle.law_register.proofs.Snoc.{legal_more}
use Rattle.version_cache.specs.Agreement.{IsEarly}
use Rattle.version_cache.proofs.OneMore.{one_more_of}
use Rattle.source_provisions.proofs.BeforeTouched.{nothing_before}
use Rattle.source_provisions.proofs.Carrying.{carried_sound, carried_versions}
use Rattle.source_provisions.proofs.Complete.{line_has}
use Rattle.source_provisions.proofs.Own.{is_line}

pub held_is : (es : List Entry) (w : List ℕ) → held_now es w ≡ option_map (carrying (line (laws es))) (known_now es w)
held_is es w = ap (λ law. option_map (carrying (line law)) (known_now es w)) (sym (all_known es (front es) (least (front es))))
  where
    least : (n : ℕ) → n ≤ n
    least n = omega arith

pub held_sound : (es : List Entry) (w : List ℕ) → is_legal es ≡ true → IfSome (held_now es w) IsSound
held_sound es w legal = by (known_now es w) refl (now_sound es w legal)
  where
    by : (known : Option Known) → known_now es w ≡ known → IfSome known IsSound
        → IfSome (option_map (carrying (line (take (front es) (laws es)))) known) IsSound
    by None is sound = tt
    by (Some known) is sound =
        carried_sound (line (take (front es) (laws es))) (is_line (take (front es) (laws es))) known (subst IsSound (sym (known_at_alone es w (front es) known is)) sound)

-- entries are legal without their last
pub legal_before : (es : List Entry) (e : Entry) → is_legal (es ++ e ∷ []) ≡ true → is_legal es ≡ true
legal_before es e legal =
    left_true (is_legal es) (is_accepted e.law (verdict es e.drafter e.request e.command)) (sym (legal_more es e) ∙ legal)

-- a work that is known is known with an entry more
pub known_still : (es : List Entry) (e : Entry) (w : List ℕ) (old : Known) → is_legal es ≡ true → known_now es w ≡ Some old
    → (new : Known) × (known_now (es ++ e ∷ []) w ≡ Some new)
known_still es e w old legal was = by (law_of es e) (entry_next es e w legal ∙ ap (known_next es e w) was)
  where
    by : (ls : List Command) → known_now (es ++ e ∷ []) w ≡ known_by_entry (front es) w ls (Some old) → (new : Known) × (known_now (es ++ e ∷ []) w ≡ Some new)
    by [] is = (old, is)
    by (l ∷ ls) is = (known_then w l old, is)

module _ (es : List Entry) (e : Entry) (legal : is_legal es ≡ true) (w : List ℕ) (old new : Known)
    (was : known_now es w ≡ Some old) (is : known_now (es ++ e ∷ []) w ≡ Some new) where
  abbrev L : List Known
  L = line (laws es)

  abbrev M : List Known
  M = line (laws (es ++ e ∷ []))

  pub was_there : work_in w L ≡ Some old
  was_there = line_has (laws es) w old (sym (now_known es w) ∙ was)

  pub is_there : work_in w M ≡ Some new
  is_there = line_has (laws (es ++ e ∷ [])) w new (sym (now_known (es ++ e ∷ []) w) ∙ is)

  pub same_act : old.act ≡ new.act
  same_act = (one_more_of es e legal w Force old new was is).act

  -- on an early day both make the same text
  pub early_version : (r : Reading) (day : ℕ) → IsEarly day (touched es e w)
      → replay_on (carrying (line (laws es)) old) r day ≡ replay_on (carrying (line (laws (es ++ e ∷ []))) new) r day
  early_version r day early =
      carried_versions L old r day (is_line (laws es))
      ∙ (nothing_before es e legal r day w old new was_there is_there early).2
      ∙ sym (carried_versions M new r day (is_line (laws (es ++ e ∷ []))))
