-- What a preview knows: what was known, and the items behind it; it can be replayed.
use Rattle.std.proofs.Common.{◌≡◌, ◌∙◌, ap, sym, ℕ, true, cond, List, [], ◌∷◌, ◌++◌, length, map, Option, Some, None, option_map, refl}
use Rattle.std.specs.Option.{IfSome}
use Rattle.law_register.specs.declared.law.act.Act.{Act}
use Rattle.law_register.specs.declared.law.command.Command.{Command}
use Rattle.law_register.specs.declared.law.command.Command.TheVariants.{Record}
use Rattle.law_register.specs.declared.law.modification.Modification.{Modification}
use Rattle.law_register.specs.declared.register.draft.DraftItem.{DraftItem}
use Rattle.law_register.specs.declared.register.entry.Entry.{Entry}
use Rattle.law_register.specs.declared.register.known.Known.{Known}
use Rattle.law_register.specs.declared.register.known.KnownMod.{KnownMod}
use Rattle.law_register.specs.Answer.Previews.{law_with, known_by_law, known_previewed, with_items}
use Rattle.law_register.specs.Answer.Soundness.{IsSound}
use Rattle.law_register.specs.Register.Drafts.{draft_of, items_of}
use Rattle.law_register.specs.Register.KnownNext.{known_from, known_now, mod_after, with_bodies}
use Rattle.law_register.specs.Register.KnownIds.{enacted, known_by}
use Rattle.law_register.specs.Register.LawList.{laws, front}
use Rattle.law_register.specs.Register.Verdicts.{is_legal}
use Rattle.law_register.proofs.Next.{law_next, now_known}
use Rattle.law_register.proofs.Puts.{bytes_are}
use Rattle.law_register.proofs.Sound.{drafted_is_sound, known_is_sound}

-- what a law with one more record knows
nothing_new : (known : Option Known) → known ≡ option_map (with_items []) known
nothing_new None = refl
nothing_new (Some known) = refl

unchanged : (w : List ℕ) (ms : List Modification) (mods : List KnownMod) → map (mod_after (Record w ms)) mods ≡ mods
unchanged w ms [] = refl
unchanged w ms (m ∷ mods) = ap (λ l. m ∷ l) (unchanged w ms mods)

pub record_known : (L : List Command) (w : List ℕ) (items : List DraftItem) → known_by_law (law_with L w items) w ≡ option_map (with_items items) (known_by_law L w)
record_known L w [] = nothing_new (known_by_law L w)
record_known L w (i ∷ items) = law_next L w (Record w bodies) (λ act is. absurd (let no : None ≡ Some act = is in cc)) ∙ by (known_by_law L w)
  where
    bodies : List Modification
    bodies = map (λ (i : DraftItem). i.body) (i ∷ items)

    by : (known : Option Known) → known_from (length L) w (Record w bodies) known ≡ option_map (with_bodies bodies) known
    by None = refl
    by (Some known) =
        ap (λ own. Some (with_bodies (cond own bodies []) (record known { mods = map (mod_after (Record w bodies)) known.mods }))) (bytes_are w w refl)
        ∙ ap (λ mods. Some (with_bodies bodies (record known { mods = mods }))) (unchanged w bodies known.mods)

pub preview_known : (es : List Entry) (d w : List ℕ) → known_previewed es d w ≡ option_map (with_items (items_of w (draft_of d es))) (known_now es w)
preview_known es d w =
    let items = items_of w (draft_of d es) in
    record_known (laws es) w items ∙ sym (ap (option_map (with_items items)) (now_known es w))

-- it can be replayed
pub preview_sound : (es : List Entry) (d w : List ℕ) → is_legal es ≡ true → IfSome (known_previewed es d w) IsSound
preview_sound es d w h =
    by (items_of w (draft_of d es)) (known_is_sound w (front es) (front es) es h) (λ n. drafted_is_sound w d n n es h)
  where
    by : (items : List DraftItem) → IfSome (known_by_law (laws es) w) IsSound
        → ((n : ℕ) → IfSome (known_by w n n (laws es ++ Record w (map (λ (i : DraftItem). i.body) items) ∷ []) (enacted w (laws es ++ Record w (map (λ (i : DraftItem). i.body) items) ∷ []))) IsSound)
        → IfSome (known_by_law (law_with (laws es) w items) w) IsSound
    by [] plain more = plain
    by (i ∷ items) plain more = more (length (laws es ++ Record w (map (λ (i : DraftItem). i.body) (i ∷ items)) ∷ []))

-- the viewpoint of what a law makes known
pub known_viewpoint : (w : List ℕ) (v front : ℕ) (L : List Command) (found : Option (ℕ × Act)) (known : Known) → known_by w v front L found ≡ Some known → known.viewpoint ≡ v
known_viewpoint w v front L None known h = absurd (let no : None ≡ Some known = h in cc)
known_viewpoint w v front L (Some found) known h = by (ap (λ k. option_map (λ (x : Known). x.viewpoint) k) h)
  where
    by : Some v ≡ Some known.viewpoint → known.viewpoint ≡ v
    by e = cc
