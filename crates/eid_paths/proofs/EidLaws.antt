-- What levels spell is read as those levels, and what is read has that spelling.
use Rattle.std.proofs.Common.{◌≡◌, ℕ, ◌+◌, ◌<◌, ◌≤◌, true, ◌&&◌, List, [], ◌∷◌, ◌++◌, length, drop, sym, ap, ◌∙◌, arith, Result, Ok, Err, IfOk}
use Rattle.std.proofs.lemmas.List.{append-nil, drop_all}
use Rattle.eid_paths.specs.declared.level.Level.{Level}
use Rattle.eid_paths.specs.declared.eid_fault.EidFault.{EidFault}
use Rattle.eid_paths.specs.Nums.{is_num}
use Rattle.eid_paths.specs.Levels.{level_text, level_of, have_nums}
use Rattle.eid_paths.specs.Parts.{parts_of}
use Rattle.eid_paths.specs.Eids.{placed, in_front, levels_from, eid_of, eid_text}
use Rattle.eid_paths.proofs.LevelLaws.{has_first}
use Rattle.eid_paths.proofs.PartLaws.{whole_alone, whole_in_front, behind_parts, joined, joined-parts_of, some_part}
use Rattle.eid_paths.proofs.SpellingLaws.{first_holds, second_holds, level_is_whole, level_is_read, level_is_spelled}
use Rattle.eid_paths.proofs.Spellings.{behind, eid_text-cons}

reads_first : (place : ℕ) (level : Level) (rest : Result (List Level) EidFault) → is_num level.num ≡ true → in_front (placed place (level_of (level_text level.element level.num))) rest ≡ in_front (Ok level) rest
reads_first place level rest kept = ap (λ read. in_front (placed place read) rest) (level_is_read level.element level.num kept)

pub spelled_is_read : (place : ℕ) (level : Level) (levels : List Level) → have_nums (level ∷ levels) ≡ true → levels_from place (parts_of (eid_text (level ∷ levels))) ≡ Ok (level ∷ levels)
spelled_is_read place level [] kept =
    let num = first_holds (is_num level.num) true kept in
    ap (levels_from place) (whole_alone (level_text level.element level.num) (level_is_whole level.element level.num num))
    ∙ reads_first place level (Ok []) num
spelled_is_read place level (next ∷ levels) kept =
    let num = first_holds (is_num level.num) (have_nums (next ∷ levels)) kept in
    let later = place + (length (level_text level.element level.num) + 2) in
    ap (levels_from place) (whole_in_front (level_text level.element level.num) (eid_text (next ∷ levels)) (level_is_whole level.element level.num num))
    ∙ reads_first place level (levels_from later (parts_of (eid_text (next ∷ levels)))) num
    ∙ ap (in_front (Ok level)) (spelled_is_read later next levels (second_holds (is_num level.num) (have_nums (next ∷ levels)) kept))

pub eid_is_read : (levels : List Level) → 0 < length levels → have_nums levels ≡ true → eid_of (eid_text levels) ≡ Ok levels
eid_is_read [] some kept = absurd (omega arith)
eid_is_read (level ∷ levels) some kept = spelled_is_read 0 level levels kept

-- levels that were read have nums, and spell what they were read from
pub record AreSpelled (parts : List (List ℕ)) (levels : List Level) : Type 0 where
  pub rest : behind_parts parts ≡ behind levels
  pub whole : joined parts ≡ eid_text levels
  pub kept : have_nums levels ≡ true

pub read_is_spelled : (place : ℕ) (parts : List (List ℕ)) (levels : List Level) → levels_from place parts ≡ Ok levels → AreSpelled parts levels
read_is_spelled place [] levels read =
    let none : [] ≡ levels = cc in
    record { rest = ap behind none; whole = ap eid_text none; kept = ap have_nums (sym none) }
read_is_spelled place (part ∷ parts) levels read =
    let first = has_first place (level_of part) (levels_from (place + (length part + 2)) parts) levels read in
    let level = level_is_spelled part first.level first.is_first in
    let others = read_is_spelled (place + (length part + 2)) parts first.others first.are_rest in
    let text : part ++ behind_parts parts ≡ level_text first.level.element first.level.num ++ behind first.others =
    ap (λ t. t ++ behind_parts parts) level.spelled ∙ ap (λ t. level_text first.level.element first.level.num ++ t) others.rest in
    record {
      rest = ap (λ t. 95 ∷ 95 ∷ t) text ∙ ap behind (sym first.are_levels);
      whole = text ∙ sym (eid_text-cons first.level first.others) ∙ ap eid_text (sym first.are_levels);
      kept = ap have_nums first.are_levels ∙ ap (λ b. b && have_nums first.others) level.has_num ∙ others.kept;
    }

pub eid_is_spelled : (text : List ℕ) (levels : List Level) → eid_of text ≡ Ok levels → (text ≡ eid_text levels) × (have_nums levels ≡ true)
eid_is_spelled text levels read =
    let are = read_is_spelled 0 (parts_of text) levels read in
    (sym (joined-parts_of text) ∙ are.whole, are.kept)

some_from_parts : (place : ℕ) (parts : List (List ℕ)) (levels : List Level) → 0 < length parts → levels_from place parts ≡ Ok levels → 0 < length levels
some_from_parts place [] levels some read = absurd (omega arith)
some_from_parts place (part ∷ parts) levels some read =
    let first = has_first place (level_of part) (levels_from (place + (length part + 2)) parts) levels read in
    omega (arith, ap length first.are_levels)

-- an eId has at least one level
pub some_level : (text : List ℕ) (levels : List Level) → eid_of text ≡ Ok levels → 0 < length levels
some_level text levels read = some_from_parts 0 (parts_of text) levels (some_part text) read

-- where no level is left to be spelled, what was spelled is read as the levels
pub all_spelled : (spelled : List ℕ) (rest levels : List Level) (i : ℕ) → length rest ≤ i → 0 < length levels → spelled ++ behind (drop i rest) ≡ eid_text levels → have_nums (drop i rest) ≡ have_nums levels → eid_of spelled ≡ Ok levels
all_spelled spelled rest levels i ended some text nums =
    let none = drop_all i rest ended in
    ap eid_of (sym (append-nil spelled) ∙ ap (λ ls. spelled ++ behind ls) (sym none) ∙ text) ∙ eid_is_read levels some (sym nums ∙ ap have_nums none)

pub carried : {E : Type 0} → (result : Result (List ℕ) E) (spelled : List ℕ) (levels : List Level) → IfOk result (λ t. t ≡ spelled) → eid_of spelled ≡ Ok levels → IfOk result (λ t. eid_of t ≡ Ok levels)
carried (Ok text) spelled levels same read = ap eid_of same ∙ read
carried (Err fail) spelled levels same read = tt
