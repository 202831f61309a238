-- What is sought among those that are left is what is sought among all.
use Rattle.std.proofs.Common.{◌≡◌, drop, find}
use Rattle.std.specs.Str.{bytes_eq}
use Rattle.akn_json.proofs.reading.word.named.Given as goal

abbrev pub invariant-loop-one : goal.invariant-loop-one
invariant-loop-one g l =
    find (λ one. bytes_eq (g.W.Worded.spelled one) l.word) (drop l.one-index l.all) ≡ find (λ one. bytes_eq (g.W.Worded.spelled one) l.word) l.all
