-- What a law makes known of a work carries nothing.
use Rattle.std.proofs.Common.{◌≡◌, ◌∙◌, sym, ap, refl, ℕ, cond, List, [], ◌∷◌, ◌++◌, length, map, take, Option, Some, None}
use Rattle.law_register.specs.declared.law.act.Act.{Act}
use Rattle.law_register.specs.declared.law.command.Command.{Command}
use Rattle.law_register.specs.declared.register.entry.Entry.{Entry}
use Rattle.law_register.specs.declared.register.known.Known.{Known}
use Rattle.law_register.specs.declared.register.known.KnownMod.{KnownMod}
use Rattle.desk_base.specs.declared.id.Id.{Id}
use Rattle.law_register.specs.Answer.Breakpoints.{insert_days}
use Rattle.law_register.specs.Answer.Previews.{known_by_law}
use Rattle.law_register.specs.Answer.Standing.{alone, mod_alone}
use Rattle.law_register.specs.Provisions.Carrying.{carrying, mod_carrying}
use Rattle.law_register.specs.Provisions.Depending.{WorkDays, days_along, depends, source_days}
use Rattle.law_register.specs.Register.KnownIds.{IdFacts, enacted, facts_of, ids_of, known_as, known_at, known_by, known_ids}
use Rattle.law_register.specs.Register.LawList.{front, laws}

each_alone : (law : List Command) (ids : List Id) → map mod_alone (known_ids law ids) ≡ known_ids law ids
each_alone law [] = refl
each_alone law (id ∷ ids) = by (facts_of id law) (each_alone law ids)
  where
    by : (f : Option IdFacts) → map mod_alone (known_ids law ids) ≡ known_ids law ids
        → map mod_alone (known_as id f ++ known_ids law ids) ≡ known_as id f ++ known_ids law ids
    by None rest = rest
    by (Some f) rest = ap (λ (ms : List KnownMod). known_as id (Some f) ++ ms) rest

known_alone : (work : List ℕ) (viewpoint number : ℕ) (law : List Command) (found : Option (ℕ × Act)) (known : Known)
    → known_by work viewpoint number law found ≡ Some known → alone known ≡ known
known_alone work viewpoint number law None known is = absurd (let wrong : None ≡ Some known = is in cc)
known_alone work viewpoint number law (Some found) known is =
    let made : Known = record {
      act = found.1;
      enacted = found.0;
      viewpoint = viewpoint;
      front = number;
      mods = known_ids law (ids_of work law);
      source_days = [];
    } in
    let own : made ≡ known = inner made known is in
    sym (ap alone own) ∙ ap (λ ms. (let k : Known = record made { mods = ms } in k)) (each_alone law (ids_of work law)) ∙ own
  where
    inner : (a b : Known) → Some a ≡ Some b → a ≡ b
    inner a b e = cc

pub known_by_law_alone : (law : List Command) (work : List ℕ) (known : Known) → known_by_law law work ≡ Some known → alone known ≡ known
known_by_law_alone law work known is = known_alone work (length law) (length law) law (enacted work law) known is

pub known_at_alone : (entries : List Entry) (work : List ℕ) (viewpoint : ℕ) (known : Known) → known_at entries work viewpoint ≡ Some known → alone known ≡ known
known_at_alone entries work viewpoint known is =
    known_alone work viewpoint (front entries) (take viewpoint (laws entries)) (enacted work (take viewpoint (laws entries))) known is

-- what a work carries is not of it by itself
mods_alone : (works : List Known) (day : ℕ) (ms : List KnownMod) → map mod_alone (map (mod_carrying works day) ms) ≡ map mod_alone ms
mods_alone works day [] = refl
mods_alone works day (m ∷ ms) = ap (λ (ks : List KnownMod). mod_alone m ∷ ks) (mods_alone works day ms)

pub carrying_alone : (works : List Known) (known : Known) → alone (carrying works known) ≡ alone known
carrying_alone works known =
    ap (λ (ms : List KnownMod). (let k : Known = record known { mods = ms; source_days = [] } in k)) (mods_alone works known.act.day known.mods)

-- nor does it depend on how many law entries there are, or on how many of them are known
module _ (works : List Known) (viewpoint number : ℕ) (known : Known) where
  abbrev pub seen_then : Known → Known
  seen_then k = record k { viewpoint = viewpoint; front = number }

  pub days_then : (ws : List WorkDays) → source_days works (seen_then known) ws ≡ source_days works known ws
  days_then [] = refl
  days_then (w ∷ ws) = ap (insert_days (cond (depends works known w.known.act.work) w.days [])) (days_then ws)

  pub carrying_then : carrying works (record known { viewpoint = viewpoint; front = number }) ≡ record (carrying works known) { viewpoint = viewpoint; front = number }
  carrying_then =
      ap (λ (days : List ℕ). (let k : Known = record (carrying works (seen_then known)) { source_days = days } in k)) (days_then (days_along works))
