-- How levels are spelled one after another.
use Rattle.std.proofs.Common.{◌≡◌, ℕ, true, ◌&&◌, ◌-◌, ◌<◌, List, [], ◌∷◌, ◌++◌, length, take, drop, get_or, sym, ap, ◌∙◌, arith}
use Rattle.std.proofs.lemmas.List.{append-nil, take_all}
use Rattle.eid_paths.specs.declared.level.Level.{Level}
use Rattle.eid_paths.specs.Nums.{is_num}
use Rattle.eid_paths.specs.Levels.{level_text, have_nums}
use Rattle.eid_paths.specs.Eids.{eid_text}

-- levels, each behind a `__`
abbrev pub behind : List Level → List ℕ
behind [] = []
behind (level ∷ levels) = 95 ∷ 95 ∷ (level_text level.element level.num ++ behind levels)

pub eid_text-cons : (level : Level) (levels : List Level) → eid_text (level ∷ levels) ≡ level_text level.element level.num ++ behind levels
eid_text-cons level [] = sym (append-nil (level_text level.element level.num))
eid_text-cons level (next ∷ levels) = ap (λ t. level_text level.element level.num ++ 95 ∷ 95 ∷ t) (eid_text-cons next levels)

-- the first level, and the others behind it
pub begun : (levels : List Level) (first : Level) → 0 < length levels → first ≡ get_or levels 0 first → level_text first.element first.num ++ behind (take (length levels - 1) (drop 1 levels)) ≡ eid_text levels
begun [] first some same = absurd (omega arith)
begun (level ∷ levels) first some same =
    ap (λ ls. level_text first.element first.num ++ behind ls) (take_all (length (level ∷ levels) - 1) levels (omega arith))
    ∙ ap (λ (l : Level). level_text l.element l.num ++ behind levels) same ∙ sym (eid_text-cons level levels)

pub begun_nums : (levels : List Level) (first : Level) → 0 < length levels → first ≡ get_or levels 0 first → is_num first.num ≡ true → have_nums (take (length levels - 1) (drop 1 levels)) ≡ have_nums levels
begun_nums [] first some same kept = absurd (omega arith)
begun_nums (level ∷ levels) first some same kept =
    ap have_nums (take_all (length (level ∷ levels) - 1) levels (omega arith))
    ∙ ap (λ b. b && have_nums levels) (sym kept ∙ ap (λ (l : Level). is_num l.num) same)
