-- The levels that a text spells, one by one.
use Rattle.std.proofs.Common.{◌≡◌, ℕ, zero, suc, ◌+◌, ◌<◌, List, [], ◌∷◌, length, Option, Some, None, refl, sym, ap, ◌∙◌, arith}
use Rattle.std.specs.Prelude.{Result, Ok, Err, slice_get, option_map, IsSome, IsOk}
use denote.Ref.{Bor}
use Rattle.eid_paths.specs.declared.level.Level.{Level}
use Rattle.eid_paths.specs.declared.eid_fault.EidRule.{EidRule}
use Rattle.eid_paths.specs.declared.eid_fault.EidFault.{EidFault}
use Rattle.eid_paths.specs.Levels.{level_of}
use Rattle.eid_paths.specs.Parts.{parts_of}
use Rattle.eid_paths.specs.Eids.{placed, in_front, levels_from, levels_in, eid_of}

-- a level and those behind it
pub record HasFirst (first : Result Level EidRule) (rest : Result (List Level) EidFault) (levels : List Level) : Type 0 where
  pub level : Level
  pub others : List Level
  pub is_first : first ≡ Ok level
  pub are_rest : rest ≡ Ok others
  pub are_levels : levels ≡ level ∷ others

pub has_first : (place : ℕ) (first : Result Level EidRule) (rest : Result (List Level) EidFault) (levels : List Level) → in_front (placed place first) rest ≡ Ok levels → HasFirst first rest levels
has_first place (Ok level) (Ok others) levels read = record { level = level; others = others; is_first = refl; are_rest = refl; are_levels = (cc) }
has_first place (Ok level) (Err fault) levels read = cc
has_first place (Err rule) rest levels read = cc

-- the level at an index is the one that the part there spells
pub record HasLevel (parts : List (List ℕ)) (levels : List Level) (i : ℕ) : Type 0 where
  pub part : List ℕ
  pub level : Level
  pub at_part : slice_get parts i ≡ Some part
  pub at_level : slice_get levels i ≡ Some level
  pub spells : level_of part ≡ Ok level

pub has_level : (place : ℕ) (parts : List (List ℕ)) (levels : List Level) (i : ℕ) → levels_from place parts ≡ Ok levels → i < length levels → HasLevel parts levels i
has_level place [] levels i read below =
    let none : [] ≡ levels = cc in
    absurd (omega (arith, ap length none))
has_level place (part ∷ parts) levels zero read below =
    let first = has_first place (level_of part) (levels_from (place + (length part + 2)) parts) levels read in
    record { part = part; level = first.level; at_part = refl; at_level = ap (λ ls. slice_get ls 0) first.are_levels; spells = first.is_first }
has_level place (part ∷ parts) levels (suc i) read below =
    let first = has_first place (level_of part) (levels_from (place + (length part + 2)) parts) levels read in
    let later = has_level (place + (length part + 2)) parts first.others i first.are_rest (omega (arith, ap length first.are_levels)) in
    record {
      part = later.part;
      level = later.level;
      at_part = later.at_part;
      at_level = ap (λ ls. slice_get ls (suc i)) first.are_levels ∙ later.at_level;
      spells = later.spells;
    }

pub level_there : (text : List ℕ) (levels : List Level) (i : ℕ) → levels_in text ≡ levels → eid_of text ≡ Ok (levels_in text) → i < length levels → HasLevel (parts_of text) levels i
level_there text levels i same read below = has_level 0 (parts_of text) levels i (read ∙ ap Ok same) below

pub some_from : (found : Option (Bor (List ℕ))) (part : List ℕ) → option_map (λ s. s.now) found ≡ Some part → IsSome found
some_from None part same = absurd (cc)
some_from (Some found) part same = refl

pub same_part : (found : Bor (List ℕ)) (part : List ℕ) → option_map (λ s. s.now) (Some found) ≡ Some part → found.now ≡ part
same_part found part same = cc

pub ok_from : (read : Result Level EidRule) (level : Level) → read ≡ Ok level → IsOk read
ok_from (Ok read) level same = refl
ok_from (Err rule) level same = absurd (cc)

pub ok_same : (read : Result Level EidRule) (level other : Level) → read ≡ Ok level → read ≡ Ok other → level ≡ other
ok_same read level other one two = let same : Ok level ≡ read = sym one in cc
