use Rattle.std.proofs.Common.{rules, ◌≡◌, ◌∙◌, ◌+◌, ◌<◌, ◌≤◌, ◌++◌, sym, ap, arith, ℕ, Option, List, [], ◌∷◌, drop, take, length, length-take, min, BTreeSet}
use Rattle.std.proofs.lemmas.List.{drop_more, take_more}
use Rattle.law_register.specs.declared.register.known.KnownMod.{KnownMod}
use Rattle.replay_core.proofs.DueByDays.{changed_next, kept_next}
use Rattle.replay_core.proofs.orders.change_all.Goals as goal
use Rattle.replay_core.proofs.orders.change_all.Goals.{then-is_other+in_ok-change, else-is_other}

pub loop-index-preserved : goal.loop-index-preserved
loop-index-preserved c =
    let i : ℕ = c.loop-index.index in
    let mods : List KnownMod = c.args.mods.now in
    let olds : List (Option ℕ) = c.args.olds.now in
    let news : List (Option ℕ) = c.args.news.now in
    let within : i < length mods = search rules in
    let in_olds : i < length olds = omega (arith, within, c.requires.olds) in
    let in_news : i < length news = omega (arith, within, c.requires.news) in
    let len : length (take i mods) ≡ length (take i news) = length-take i mods ∙ ap (λ n. min i n) (sym c.requires.news) ∙ sym (length-take i news) in
    elim c.if-is_other.branch [
      | then-is_other+in_ok-change w ↦
          ap (λ s. s.keys) w.dues-is ∙ w.in_ok-change.ensures
          ∙ changed_next mods olds news i w.index-mods-index.result w.index-olds-index-then-is_other.result w.index-news-index-then-is_other.result c.loop-index.dues.keys
          (drop_more mods i w.index-mods-index.result within ∙ ap (λ m. m ∷ drop (i + 1) mods) (sym w.index-mods-index.is))
          (drop_more olds i w.index-olds-index-then-is_other.result in_olds ∙ ap (λ s. s ∷ drop (i + 1) olds) (sym w.index-olds-index-then-is_other.is))
          (take_more news i w.index-news-index-then-is_other.result in_news ∙ ap (λ s. take i news ++ s ∷ []) (sym w.index-news-index-then-is_other.is))
          len c.requires.once c.loop-index.invariant
      | else-is_other w ↦
          ap (λ s. s.keys) w.dues-is
          ∙ kept_next mods olds news i c.index-olds-index.result c.index-news-index.result c.loop-index.dues.keys
          (drop_more olds i c.index-olds-index.result in_olds ∙ ap (λ s. s ∷ drop (i + 1) olds) (sym c.index-olds-index.is))
          (take_more news i c.index-news-index.result in_news ∙ ap (λ s. take i news ++ s ∷ []) (sym c.index-news-index.is))
          (c.is_other.ensures w.if-is_other.false) c.loop-index.invariant
    ]
