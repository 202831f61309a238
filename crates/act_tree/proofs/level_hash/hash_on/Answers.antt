use Rattle.std.proofs.Common.{◌+◌, ◌∙◌, sym, ap, ℕ, List, drop}
use Rattle.std.proofs.lemmas.List.{drop_more, drop_all}
use Rattle.act_tree.specs.LevelHashes.{hash_on}
use Rattle.act_tree.proofs.HashedLevels.{hash_none, hash_one}
use Rattle.act_tree.proofs.level_hash.hash_on.Goals as goal

pub loop-byte-preserved : goal.loop-byte-preserved
loop-byte-preserved c =
    let i : ℕ = c.loop-byte.byte-index in
    let bytes : List ℕ = c.args.bytes.now in
    ap (λ (h : ℕ). hash_on h (drop (i + 1) bytes)) c.hash_with-hash.ensures ∙ sym (hash_one c.loop-byte.hash _ (drop (i + 1) bytes))
    ∙ sym (ap (hash_on c.loop-byte.hash) (drop_more bytes i 0 c.loop-byte-test.true)) ∙ c.loop-byte.invariant

pub returns : goal.returns
returns c =
    sym (hash_none c.loop-byte.hash) ∙ sym (ap (hash_on c.loop-byte.hash) (drop_all c.loop-byte.byte-index c.args.bytes.now c.loop-byte-test.false)) ∙ c.loop-byte.invariant
