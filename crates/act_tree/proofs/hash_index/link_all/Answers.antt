use Rattle.std.proofs.Common.{◌≡◌, ◌∙◌, ◌<◌, ℕ, List, length, get_or, set, arith, rules}
use Rattle.std.proofs.lemmas.List.{get_or-set_same, get_or-set_other}
use Rattle.act_tree.specs.HashIndex.{buckets, bucket_of}
use Rattle.act_tree.proofs.HashIndexLinks.{none_linked, linked_more}
use Rattle.act_tree.proofs.HashIndexMoves.{bucket_at}
use Rattle.act_tree.proofs.hash_index.link_all.Goals as goal

pub loop-number-init : goal.loop-number-init
loop-number-init c = none_linked (length c.args.heads.now) (buckets (length c.args.heads.now) c.args.hashes.now) c.empty.new.heads c.args.before.now c.empty.ensures

pub loop-number-preserved : goal.loop-number-preserved
loop-number-preserved c =
    let w : ℕ = length c.args.heads.now in
    let hashes : List ℕ = c.args.hashes.now in
    let heads : List ℕ = c.loop-number.heads in
    let before : List ℕ = c.loop-number.before in
    let n : ℕ = c.loop-number.number in
    let b : ℕ = c.bucket_of-bucket.result in
    let heads_many : length heads ≡ w = search rules in
    let low : b < w = omega (arith, c.bucket_of-bucket.ensures.within) in
    let within : n < length hashes = search rules in
    let inside : n < length before = omega (arith, c.requires.links) in
    let is : b ≡ bucket_of w (get_or hashes n 0) = search rules in
    linked_more w (buckets w hashes) heads before (set before n (get_or heads b 0)) n b c.loop-number.invariant heads_many low (bucket_at w hashes n within ∙ search rules)
    (get_or-set_same before n (get_or heads b 0) 0 inside) (λ k less. get_or-set_other before n k (get_or heads b 0) 0 (λ e. omega arith))
