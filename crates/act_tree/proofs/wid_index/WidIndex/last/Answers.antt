use Rattle.std.proofs.Common.{◌≡◌, ◌∙◌, ◌-◌, ◌<◌, ℕ, false, List, [], length, map, get_or, sym, ap, arith}
use Rattle.std.specs.Str.{bytes_eq}
use Rattle.std.proofs.lemmas.List.{get_or_read}
use Rattle.act_tree.specs.LastNumbers.{is_named}
use Rattle.act_tree.specs.WidIndexes.{WidIndexValue}
use Rattle.act_tree.specs.LevelHashes.{hash_on}
use Rattle.act_tree.specs.HashIndex.{last_in}
use Rattle.act_tree.proofs.SoughtWids.{as_many, begun, begun_in, passed, passed_in}
use Rattle.act_tree.proofs.wid_index.WidIndex.last.Goals as goal

pub loop-end-init : goal.loop-end-init
loop-end-init c =
    let wids : List (List ℕ) = c.args.self.now.wids in
    let chains = c.self.inside.chains in
    let wid : List ℕ = c.args.wid.now in
    let hashed : chains.hashes ≡ map (hash_on 0) wids = c.self.invariant.0 ∙ ap (λ (v : WidIndexValue). map (hash_on 0) v.wids) c.self.view_is in
    let end : c.last-end.result ≡ last_in chains (hash_on 0 wid) = c.last-end.ensures.value ∙ ap (last_in chains) c.hash_on.ensures in
    record {
      most = omega (arith, as_many wids chains hashed wid, c.last-end.ensures.within);
      same = begun wids chains hashed wid c.last-end.result end;
      here = begun_in wids chains hashed wid c.last-end.result end;
    }

pub loop-end-preserved : goal.loop-end-preserved
loop-end-preserved c =
    let wids : List (List ℕ) = c.args.self.now.wids in
    let chains = c.self.inside.chains in
    let wid : List ℕ = c.args.wid.now in
    let hashed : chains.hashes ≡ map (hash_on 0) wids = c.self.invariant.0 ∙ ap (λ (v : WidIndexValue). map (hash_on 0) v.wids) c.self.view_is in
    let end : ℕ = c.loop-end.end in
    let some : 0 < end = omega arith in
    let read : c.index.result.now ≡ get_or wids (end - 1) c.index.result.now = c.index.ensures ∙ ap (λ (v : WidIndexValue). get_or v.wids (end - 1) c.index.result.now) c.self.view_is in
    let low : end - 1 < length wids = omega (arith, c.loop-end.invariant.most) in
    let here : c.as_bytes.result.now ≡ get_or wids (end - 1) [] = c.as_bytes.ensures.value ∙ c.as_str.ensures ∙ get_or_read wids (end - 1) c.index.result.now low read [] in
    let other : is_named wids wid (end - 1) ≡ false = sym (ap (bytes_eq wid) here) ∙ sym c.eq.ensures ∙ c.if-eq.false in
    record {
      most = omega (arith, c.previous-end.ensures.within, c.loop-end.invariant.most);
      same = passed wids chains hashed wid end c.previous-end.result some c.loop-end.invariant.most other c.loop-end.invariant.here c.previous-end.ensures.value ∙ c.loop-end.invariant.same;
      here = passed_in wids chains hashed wid end c.previous-end.result some c.loop-end.invariant.here c.previous-end.ensures.value;
    }
