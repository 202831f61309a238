-- What is left of the text, parted behind the others that are left, is the second part of the whole.
use Rattle.std.proofs.Common.{◌≡◌, ◌-◌}
use Rattle.std.specs.Prelude.{option_map, string_bytes}
use denote.Text.{Utf8}
use denote.Shadow.{shadow}
use Rattle.textual_mods.specs.Occurrences.{parted_after, behind_front}
use Rattle.textual_mods.proofs.occurrences.parted_at.Given as goal

abbrev pub invariant-loop-others : goal.invariant-loop-others
invariant-loop-others l =
    shadow (Utf8 l.rest) × (option_map (behind_front (string_bytes l.front)) (parted_after l.old l.others l.rest) ≡ parted_after l.old (l.number - 1) l.text)

abbrev pub decreases-loop-others : goal.decreases-loop-others
decreases-loop-others l = l.others
