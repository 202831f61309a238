-- None of those passed has the name, so the rest decides.
use Rattle.std.proofs.Common.{◌≡◌, drop, map}
use Rattle.std.specs.List.{find}
use Rattle.std.specs.Str.{bytes_eq}
use Rattle.version_cache.specs.Seen.{work_view}
use Rattle.held_provisions.proofs.sources.first_named.Given as goal

abbrev pub invariant-loop-one : goal.invariant-loop-one
invariant-loop-one l =
    find (λ kept. bytes_eq kept.known.act.work l.work) (map work_view (drop l.one-index l.made)) ≡ find (λ kept. bytes_eq kept.known.act.work l.work) (map work_view l.made)
