-- The links of a gate in memory that are still to be given.
use Rattle.std.proofs.Common.{◌≡◌, All, List, drop}
use Rattle.std.proofs.lemmas.List.Elements.{All-drop}

-- where each link was unused, each of the others is, once the first was given
pub others_unused : {L : Type 0} (IsOne : L → Type 0) (links others : List L) → others ≡ drop 1 links → All IsOne links → All IsOne others
others_unused IsOne links others are each = rw are (All-drop IsOne 1 links each)
