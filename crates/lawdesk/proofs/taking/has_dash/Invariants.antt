-- Some of the words left begins with a dash exactly where some of all does, for none of those passed does.
use Rattle.std.proofs.Common.{◌≡◌, drop, map}
use Rattle.std.specs.Prelude.{string_bytes}
use Rattle.std.specs.List.{list_any}
use Rattle.lawdesk.specs.Taking.{begins_with_dash}
use Rattle.lawdesk.proofs.taking.has_dash.Given as goal

abbrev pub invariant-loop-word : goal.invariant-loop-word
invariant-loop-word l =
    list_any begins_with_dash (map string_bytes (drop l.word-index l.words)) ≡ list_any begins_with_dash (map string_bytes l.words)
