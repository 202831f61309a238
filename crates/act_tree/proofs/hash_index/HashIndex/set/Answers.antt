use Rattle.std.proofs.Common.{◌≡◌, ◌∙◌, ◌<◌, ℕ, List, length, get_or, sym, refl, subst, ap, arith}
use Rattle.std.proofs.lemmas.List.{get_or_read}
use Rattle.act_tree.specs.HashIndex.{IndexValue, IsNext, bucket_of, buckets}
use Rattle.act_tree.specs.KeptLists.{ListValue}
use Rattle.act_tree.proofs.HashIndexMoves.{index_same, index_put}
use Rattle.act_tree.proofs.OwnIndexes.{same_width}
use Rattle.act_tree.proofs.hash_index.HashIndex.set.Goals as goal

pub invariant_of-self : goal.invariant_of-self
invariant_of-self c =
    let a = c.self.inside in
    let w : ℕ = length a.heads.items in
    let hashes : List ℕ = a.hashes.items in
    let number : ℕ = c.args.number in
    let low : number < length hashes = subst (λ (v : IndexValue). number < length v.hashes) (sym c.self.view_is) c.requires.within in
    let read : c.index.result.now ≡ get_or hashes number 0 = get_or_read hashes number c.index.result.now low c.index.ensures 0 in
    let from : c.bucket_of-from.result ≡ bucket_of w (get_or hashes number 0) =
    c.bucket_of-from.ensures.value ∙ ap (λ (i : ℕ). bucket_of i c.index.result.now) c.len-width.ensures ∙ ap (bucket_of w) read in
    let to : c.bucket_of-to.result ≡ bucket_of w c.args.hash = c.bucket_of-to.ensures.value ∙ ap (λ (i : ℕ). bucket_of i c.args.hash) c.len-width.ensures in
    record {
      index = index_same w hashes a.heads.items a.before.items number c.args.hash c.self.invariant.index low (sym from ∙ c.if-from-to.true ∙ to);
      heads_alike = c.self.invariant.heads_alike;
      links_alike = c.self.invariant.links_alike;
    }

pub invariant_of-self-2 : goal.invariant_of-self-2
invariant_of-self-2 c =
    let a = c.self.inside in
    let w : ℕ = length a.heads.items in
    let hashes : List ℕ = a.hashes.items in
    let number : ℕ = c.args.number in
    let low : number < length hashes = subst (λ (v : IndexValue). number < length v.hashes) (sym c.self.view_is) c.requires.within in
    let read : c.index.result.now ≡ get_or hashes number 0 = get_or_read hashes number c.index.result.now low c.index.ensures 0 in
    let from : c.bucket_of-from.result ≡ bucket_of w (get_or hashes number 0) =
    c.bucket_of-from.ensures.value ∙ ap (λ (i : ℕ). bucket_of i c.index.result.now) c.len-width.ensures ∙ ap (bucket_of w) read in
    let to : c.bucket_of-to.result ≡ bucket_of w c.args.hash = c.bucket_of-to.ensures.value ∙ ap (λ (i : ℕ). bucket_of i c.args.hash) c.len-width.ensures in
    let from_low : c.bucket_of-from.result < w = omega (arith, c.bucket_of-from.ensures.within, c.len-width.ensures) in
    let to_low : c.bucket_of-to.result < w = omega (arith, c.bucket_of-to.ensures.within, c.len-width.ensures) in
    let out : IsNext (buckets w hashes) (length hashes) c.bucket_of-from.result number c.next_in-out.result =
    subst (λ (v : IndexValue). IsNext (buckets v.width v.hashes) (length v.hashes) c.bucket_of-from.result number c.next_in-out.result) (sym c.self.view_is) c.next_in-out.ensures.next in
    let into : IsNext (buckets w hashes) (length hashes) c.bucket_of-to.result number c.next_in-into.result =
    subst (λ (v : IndexValue). IsNext (buckets v.width v.hashes) (length v.hashes) c.bucket_of-to.result number c.next_in-into.result) (sym c.self.view_is) c.next_in-into.ensures.next in
    record {
      index = same_width (index_put w hashes a.heads.items a.before.items a.heads.items a.before.items c.move_over.new.heads.items c.move_over.new.before.items number c.args.hash
          c.bucket_of-from.result c.bucket_of-to.result c.next_in-out.result c.next_in-into.result refl refl
          (ap (λ (v : ListValue ℕ). v.items) c.move_over.ensures.heads) (ap (λ (v : ListValue ℕ). v.items) c.move_over.ensures.links)
          c.self.invariant.index low from to from_low to_low c.if-from-to.false out into);
      heads_alike = ap (λ (v : ListValue ℕ). v.is_own) c.move_over.ensures.heads ∙ c.self.invariant.heads_alike;
      links_alike = ap (λ (v : ListValue ℕ). v.is_own) c.move_over.ensures.links ∙ c.self.invariant.links_alike;
    }
