use Rattle.std.proofs.Common.{◌∙◌, ap, ℕ, [], ◌∷◌}
use Rattle.eid_paths.specs.Elements.{element_word}
use Rattle.act_tree.specs.LevelHashes.{hash_on}
use Rattle.act_tree.proofs.HashedLevels.{hash_parts}
use Rattle.act_tree.proofs.level_hash.level_hash.Goals as goal

pub returns : goal.returns
returns c =
    c.hash_on.ensures ∙ ap (hash_on c.hash_on-joined.result) c.as_bytes-2.ensures
    ∙ ap (λ (n : ℕ). hash_on n c.args.num.now) (c.hash_on-joined.ensures ∙ ap (λ (n : ℕ). hash_on n (95 ∷ [])) (c.hash_on-word.ensures ∙ ap (hash_on 0) (c.as_bytes.ensures.value ∙ c.word.ensures)))
    ∙ hash_parts 0 (element_word c.args.element) c.args.num.now 95
