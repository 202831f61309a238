-- What is known of a work of which something is kept.
use Rattle.std.proofs.Common.{◌≡◌, ◌∙◌, sym, ap, subst, refl, ℕ, ◌||◌, List, [], ◌∷◌, map, Option, Some, None, option_map}
use Rattle.law_register.specs.declared.law.act.Act.{Act}
use Rattle.law_register.specs.declared.register.entry.Entry.{Entry}
use Rattle.law_register.specs.declared.register.known.Known.{Known}
use Rattle.law_register.specs.declared.register.known.KnownMod.{KnownMod}
use Rattle.law_register.specs.Law.Sources.{names_provision}
use Rattle.law_register.specs.Provisions.Carrying.{carrying, held_now, mod_carrying}
use Rattle.law_register.specs.Provisions.Line.{line}
use Rattle.law_register.specs.Provisions.Looking.{names_any}
use Rattle.law_register.specs.Register.KnownNext.{known_now, up_to}
use Rattle.law_register.specs.Register.LawList.{front, laws}
use Rattle.law_register.proofs.CarryingNothing.{carrying_alone, known_at_alone}
use Rattle.law_register.proofs.Next.{now_counts, now_known}
use Rattle.source_provisions.proofs.HeldNow.{held_is}
use Rattle.source_provisions.proofs.Own.{known_own}
use Rattle.std.specs.List.{list_any}
use Rattle.version_cache.specs.Works.{IsAlike, IsForIf, WorkValue}

-- what is carried names no other provisions
named_in : (works : List Known) (day : ℕ) (ms : List KnownMod) → list_any (λ m. names_provision m.body) (map (mod_carrying works day) ms) ≡ list_any (λ m. names_provision m.body) ms
named_in works day [] = refl
named_in works day (m ∷ ms) = ap (λ b. names_provision m.body || b) (named_in works day ms)

names_carrying : (works : List Known) (known : Known) → names_any (carrying works known) ≡ names_any known
names_carrying works known = named_in works known.act.day known.mods

-- what is known of a work, where this is kept of it
pub record IsOf (es : List Entry) (w : List ℕ) (one : WorkValue) : Type 0 where
  pub known : Known
  pub is : known_now es w ≡ Some known
  pub alike : IsAlike one.known known
  pub names : one.names ≡ names_any known

pub of_kept : (es : List Entry) (w : List ℕ) (one : WorkValue) → IsForIf (held_now es w) one → IsOf es w one
of_kept es w one for = by (known_now es w) refl (subst (λ held. IsForIf held one) (held_is es w) for)
  where
    by : (now : Option Known) → known_now es w ≡ now → IsForIf (option_map (carrying (line (laws es))) now) one → IsOf es w one
    by None is for = absurd for
    by (Some known) is for = record {
      known = known;
      is = is;
      alike = subst (IsAlike one.known) (carrying_alone (line (laws es)) known ∙ known_at_alone es w (front es) known is) for.alike;
      names = for.names ∙ names_carrying (line (laws es)) known;
    }

pub now_named : (es : List Entry) (w : List ℕ) (known : Known) → known_now es w ≡ Some known → known.act.work ≡ w
now_named es w known is = known_own (laws es) w known (sym (now_known es w) ∙ is)

-- it is what is kept as known, and counts all law entries
pub kept_named : (es : List Entry) (w : List ℕ) (one : WorkValue) → IsForIf (held_now es w) one → one.known.act.work ≡ w
kept_named es w one for =
    let got = of_kept es w one for in
    ap (λ (a : Act). a.work) got.alike.act ∙ now_named es w got.known got.is

pub kept_known : (es : List Entry) (w : List ℕ) (one : WorkValue) → IsForIf (held_now es w) one
    → known_now es one.known.act.work ≡ Some (up_to (front es) one.known)
kept_known es w one for =
    let got = of_kept es w one for in
    ap (known_now es) (kept_named es w one for) ∙ got.is
    ∙ ap Some (sym (now_counts es w got.known got.is) ∙ sym (same one.known got.known got.alike))
  where
    same : (a b : Known) → IsAlike a b → up_to (front es) a ≡ up_to (front es) b
    same a b alike =
        ap (λ (act : Act). up_to (front es) (record a { act = act })) alike.act
        ∙ ap (λ (n : ℕ). up_to (front es) (record a { act = b.act; enacted = n })) alike.enacted
        ∙ ap (λ ms. up_to (front es) (record a { act = b.act; enacted = b.enacted; mods = ms })) alike.mods
        ∙ ap (λ days. up_to (front es) (record a { act = b.act; enacted = b.enacted; mods = b.mods; source_days = days })) alike.sources
