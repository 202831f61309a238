use Rattle.std.proofs.Common.{◌≡◌, ◌∙◌, sym, ap, subst, ℕ, ◌==◌, List, [], ◌<◌, ◌≤◌, arith}
use Rattle.std.specs.List.{All, list_any}
use Rattle.act_tree.specs.Arena.{provision_in, below_in}
use Rattle.act_tree.specs.Grafted.{put_numbers}
use Rattle.act_tree.specs.Relisted.{IsRelisted}
use Rattle.act_tree.specs.Slots.{at, size}
use Rattle.act_tree.proofs.Growing.{not_laid, all_laid}
use Rattle.act_tree.proofs.OwnArenas.{still_own}
use Rattle.act_tree.proofs.Settling.{listed}
use Rattle.act_tree.proofs.arena.Arena.graft.Goals as goal

pub take_in-requires-clause-within : goal.take_in-requires-clause-within
take_in-requires-clause-within c =
    let rises : size c.args.self.now ≤ size c.lay_all.new.arena = c.in_ok-ids.ensures.laid.grown.rises in
    let low : c.args.parent < size c.args.self.now = c.requires.within in
    omega arith

pub take_in-requires-clause-come : goal.take_in-requires-clause-come
take_in-requires-clause-come c =
    let P : List ℕ → Type 0 = λ ks. All (λ k. k < size c.lay_all.new.arena) ks in
    subst P (sym c.deref-2.ensures.value) (all_laid c.args.self.now c.lay_all.new.arena c.in_ok-ids.ids.items _ c.in_ok-ids.ensures.laid)

pub take_in-requires-clause-apart : goal.take_in-requires-clause-apart
take_in-requires-clause-apart c =
    ap (list_any (λ j. j == c.args.parent)) c.deref-2.ensures.value ∙ not_laid c.args.self.now c.lay_all.new.arena c.in_ok-ids.ids.items _ c.in_ok-ids.ensures.laid c.args.parent c.requires.within

pub returns-clause-grafted : goal.returns-clause-grafted
returns-clause-grafted c =
    let s = c.index.result.now in
    let mid = c.lay_all.new.arena in
    let ids : List ℕ = c.in_ok-ids.ids.items in
    let laid = c.in_ok-ids.ensures.laid in
    let inside : c.args.parent < size mid = (let rises : size c.args.self.now ≤ size mid = laid.grown.rises in let low : c.args.parent < size c.args.self.now = c.requires.within in omega arith) in
    let lists : s.below.items ≡ below_in (at c.args.self.now c.args.parent) = sym (listed mid.slots.items c.args.parent c.place.result s inside c.place.ensures c.index.ensures) ∙ ap below_in (laid.grown.kept c.args.parent c.requires.within) in
    let items : c.in_ok-below.below.items ≡ put_numbers c.args.place ids (below_in (at c.args.self.now c.args.parent)) =
    c.in_ok-below.ensures ∙ ap (λ ks. put_numbers c.args.place c.deref.result.now ks) c.as_slice.ensures ∙ ap (λ is. put_numbers c.args.place is s.below.items) c.deref.ensures.value ∙ ap (put_numbers c.args.place ids) lists in
    let P : List ℕ → Type 0 = λ come. IsRelisted (at mid) (at c.take_in.new.self) c.args.parent (provision_in (at mid c.args.parent)).own [] come c.in_ok-below.below.items in
    let Q : List ℕ → Type 0 = λ list. IsRelisted (at mid) (at c.take_in.new.self) c.args.parent (provision_in (at mid c.args.parent)).own [] ids list in
    record {
      between = mid;
      ids = ids;
      laid = laid;
      relisted = subst Q items (subst P c.deref-2.ensures.value c.take_in.ensures.relisted);
      numbers = c.take_in.ensures.numbers;
      sizes = c.take_in.ensures.size;
    }

pub take_in-requires-clause-own : goal.take_in-requires-clause-own
take_in-requires-clause-own c = c.in_ok-ids.ensures.laid.grown.own c.requires.own

pub returns-clause-own : goal.returns-clause-own
returns-clause-own c = still_own c.lay_all.new.arena c.take_in.new.self c.take_in.ensures.numbers (c.in_ok-ids.ensures.laid.grown.own c.requires.own)

pub returns-in_err-ids-clause-own : goal.returns-in_err-ids-clause-own
returns-in_err-ids-clause-own c = c.in_err-ids.ensures.kept.own c.requires.own

pub returns-in_err-below-clause-own : goal.returns-in_err-below-clause-own
returns-in_err-below-clause-own c = c.in_ok-ids.ensures.laid.grown.own c.requires.own
