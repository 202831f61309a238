use Rattle.std.proofs.Common.{◌≡◌, ◌∙◌, ap, true, Bool}
use Rattle.act_tree.specs.Branches.{branches_of}
use Rattle.act_tree.specs.EidLevels.{all_beginning}
use Rattle.act_tree.specs.Faults.{all_owns}
use Rattle.act_tree.specs.Seen.{tree_view}
use Rattle.textual_mods.specs.Insertions.{all_begun_among, is_root}
use Rattle.textual_mods.specs.Substitutions.{text_left, left_below}
use Rattle.textual_mods.proofs.InsertedTrees.{root_told, taken_begun, taken_on, taken_twice}
use Rattle.textual_mods.proofs.Substituted.{clean_left, numbered_left}
use Rattle.textual_mods.proofs.inserting.is_number_taken.Goals as goal

pub returns-then-begin_again : goal.returns-then-begin_again
returns-then-begin_again c =
    let t = c.args.tree.now in
    let n = (tree_view t).numbering in
    let body = text_left t c.args.gone.now in
    let new = branches_of c.args.new.now in
    let top : c.eq-top.result ≡ is_root t c.args.parent = root_told t c.args.parent c.root.result c.eq-top.result c.requires.node c.root.ensures.root c.eq-top.ensures in
    taken_begun n (tree_view t).limit body (record { law = 0; item = 0 }) new (clean_left t c.args.gone.now c.requires.fits) (numbered_left t c.args.gone.now) c.requires.payload c.requires.nums
    (is_root t c.args.parent) (left_below t c.args.gone.now c.args.parent) c.begin_again.result (c.begin_again.ensures.again ∙ ap (λ (s : Bool). all_begun_among (all_beginning n true (all_owns body)) n s new) top) c.if-begin_again.true

pub returns-then-goes_on_taken : goal.returns-then-goes_on_taken
returns-then-goes_on_taken c =
    let t = c.args.tree.now in
    taken_on (tree_view t).numbering (tree_view t).limit (text_left t c.args.gone.now) (record { law = 0; item = 0 }) (branches_of c.args.new.now) (clean_left t c.args.gone.now c.requires.fits) (numbered_left t c.args.gone.now) c.requires.payload c.requires.nums
    (is_root t c.args.parent) (left_below t c.args.gone.now c.args.parent) c.goes_on_taken.result c.goes_on_taken.ensures c.if-goes_on_taken.true

pub returns : goal.returns
returns c =
    let t = c.args.tree.now in
    let n = (tree_view t).numbering in
    let body = text_left t c.args.gone.now in
    let new = branches_of c.args.new.now in
    let top : c.eq-top.result ≡ is_root t c.args.parent = root_told t c.args.parent c.root.result c.eq-top.result c.requires.node c.root.ensures.root c.eq-top.ensures in
    taken_twice n (tree_view t).limit body (record { law = 0; item = 0 }) new (clean_left t c.args.gone.now c.requires.fits) (numbered_left t c.args.gone.now) c.requires.payload c.requires.nums
    (is_root t c.args.parent) (left_below t c.args.gone.now c.args.parent) c.begin_again.result c.goes_on_taken.result c.in_ok-twice.twice
    (c.begin_again.ensures.again ∙ ap (λ (s : Bool). all_begun_among (all_beginning n true (all_owns body)) n s new) top) c.if-begin_again.false
    c.goes_on_taken.ensures c.if-goes_on_taken.false c.in_ok-twice.ensures
