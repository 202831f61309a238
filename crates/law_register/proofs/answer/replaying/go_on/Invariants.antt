-- The version so far, with those to come applied, is the version with all of them applied, and they still differ.
use Rattle.std.proofs.Common.{◌≡◌, ◌+◌, ◌≤◌, ◌++◌, false, true, drop}
use Rattle.act_tree.specs.Seen.{is_own}
use Rattle.law_register.specs.Answer.Replay.{replayed}
use Rattle.law_register.specs.Answer.Soundness.{IsReplayed, id_twice}
use Rattle.law_register.specs.Answer.Versions.{version_view}
use Rattle.law_register.proofs.answer.replaying.go_on.Given as goal

abbrev pub invariant-loop-id : goal.invariant-loop-id
invariant-loop-id g l = record {
  version : replayed l.mods (version_view l.version) (drop l.id-index l.ids) ≡ replayed l.mods (version_view l.initial.version) l.ids;
  own : is_own l.version.tree ≡ true;
  replayed : IsReplayed (version_view l.version);
  apart : id_twice (l.version.applied ++ drop l.id-index l.ids) ≡ false;
  steps : l.steps ≤ l.initial.steps + l.id-index;
}
