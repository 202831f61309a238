-- What is kept of works is right for a line; what is kept ahead of a work has its sources there.
use Rattle.std.proofs.Common.{◌≡◌, ◌∙◌, sym, ap, subst, refl, ℕ, true, false, List, [], Option, Some, None, is_some, option_map}
use Rattle.law_register.specs.declared.register.entry.Entry.{Entry}
use Rattle.law_register.specs.declared.register.known.Known.{Known}
use Rattle.law_register.specs.Answer.Previews.{known_by_law}
use Rattle.law_register.specs.Provisions.Carrying.{carrying, held_now}
use Rattle.law_register.specs.Provisions.Depending.{depends}
use Rattle.law_register.specs.Provisions.Line.{line, work_in}
use Rattle.law_register.specs.Provisions.Looking.{is_after}
use Rattle.law_register.specs.Register.KnownNext.{known_now}
use Rattle.law_register.specs.Register.LawList.{laws}
use Rattle.law_register.proofs.CarryingNothing.{known_by_law_alone}
use Rattle.law_register.proofs.Next.{now_known}
use Rattle.source_provisions.proofs.Carrying.{carried_days, carried_versions}
use Rattle.source_provisions.proofs.Complete.{line_has, line_known}
use Rattle.source_provisions.proofs.HeldNow.{held_is}
use Rattle.source_provisions.proofs.Looking.{depends_after}
use Rattle.source_provisions.proofs.Own.{is_line, known_own}
use Rattle.version_cache.specs.Works.{IsForIf, WorkValue}
use Rattle.held_provisions.specs.Sources.{AreSources, IsKeptFor, IsOfLine}
use Rattle.held_provisions.proofs.MadeRight.{made_right}
use Rattle.law_office.specs.Movements.{then_of}
use Rattle.law_office.specs.Tables.{AreAhead, Kept}
use Rattle.law_office.proofs.After.{still}

module _ (es : List Entry) where
  abbrev works : List Known
  works = line (laws es)

  pub by_law : (name : List ℕ) (known : Known) → known_now es name ≡ Some known → known_by_law (laws es) name ≡ Some known
  by_law name known now = sym (now_known es name) ∙ now

  pub there_of : (name : List ℕ) (known : Known) → known_now es name ≡ Some known → work_in name works ≡ Some known
  there_of name known now = line_has (laws es) name known (by_law name known now)

  -- what is kept of a work is for what it carries in the line
  pub of_line : (name : List ℕ) (one : WorkValue) → IsForIf (held_now es name) one → IsOfLine works name one
  of_line name one for = by (known_now es name) refl (subst (λ held. IsForIf held one) (held_is es name) for)
    where
      by : (now : Option Known) → known_now es name ≡ now → IsForIf (option_map (carrying works) now) one → IsOfLine works name one
      by None unknown for = absurd for
      by (Some known) now for = record {
        known = known;
        there = there_of name known now;
        act = for.alike.act;
      }

  pub right_for : (name : List ℕ) (one : WorkValue) → IsForIf (held_now es name) one → IsKeptFor works one
  right_for name one for = by (known_now es name) refl (subst (λ held. IsForIf held one) (held_is es name) for)
    where
      by : (now : Option Known) → known_now es name ≡ now → IsForIf (option_map (carrying works) now) one → IsKeptFor works one
      by None unknown for = absurd for
      by (Some known) now for =
          let named = by_law name known now in
          made_right works known (known_by_law_alone (laws es) name known named) (carrying works known) one refl for
          (ap (λ w. work_in w works) (known_own (laws es) name known named) ∙ line_has (laws es) name known named)
          (λ reading day. carried_versions works known reading day (is_line (laws es)))
          (carried_days works known)

  -- a work on which one depends is held
  pub source_held : (known : Known) (name : List ℕ) → depends works known name ≡ true → held_now es name ≡ None → ⊥
  source_held known name on none = by (work_in name works) refl (depends_after works known name on)
    where
      by : (found : Option Known) → work_in name works ≡ found → is_after known.act.day found ≡ true → ⊥
      by None nowhere later = let no : false ≡ true = later in cc
      by (Some source) found later =
          let held : held_now es name ≡ Some (carrying works source) =
          held_is es name ∙ ap (option_map (carrying works)) (now_known es name ∙ line_known (laws es) name source found) in
          let no : false ≡ true = ap is_some (sym none ∙ held) in cc

module _ (es : List Entry) (work : List ℕ) (kept : Kept) (ahead : AreAhead es work kept) (known : Known) (now : known_now es work ≡ Some known) where
  right_of : (name : List ℕ) → depends (line (laws es)) known name ≡ true
      → (one : WorkValue) × (then_of None [] kept name ≡ Some one) × IsKeptFor (line (laws es)) one
  right_of name on = by (kept name) refl
    where
      by : (found : Option WorkValue) → kept name ≡ found
          → (one : WorkValue) × (then_of None [] kept name ≡ Some one) × IsKeptFor (line (laws es)) one
      by None none = absurd (ahead.there known now name on none)
      by (Some one) is = (one, still (kept name) ∙ is, right_for es name one (ahead.right name one is))

  pub sources_ahead : AreSources (line (laws es)) known (then_of None [] kept)
  sources_ahead = record {
    acts = λ name one is. of_line es name one (ahead.right name one (sym (still (kept name)) ∙ is));
    right = right_of;
  }
