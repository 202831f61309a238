use Rattle.std.proofs.Common.{◌≡◌, ◌∙◌, sym, ap, subst, refl, ℕ, ◌<◌, ◌==◌, true, false, List, inl, inr}
use Rattle.std.specs.List.{All, list_any}
use Rattle.std.proofs.lemmas.Bool.{cases_Bool}
use Rattle.act_tree.specs.Provisions.{Own}
use Rattle.act_tree.specs.Arena.{provision_in, below_in}
use Rattle.act_tree.specs.Moved.{IsFilled}
use Rattle.act_tree.specs.Slots.{at, size}
use Rattle.act_tree.proofs.Relistings.{below_kept}
use Rattle.act_tree.proofs.Settling.{joined_of, not_own}
use Rattle.act_tree.proofs.arena.Arena.join.Goals as goal

pub take_all-requires-clause-children : goal.take_all-requires-clause-children
take_all-requires-clause-children c =
    let P : List ℕ → Type 0 = λ ks. All (λ k. k < size c.take_off.new.self) ks in
    let Q : ℕ → Type 0 = λ n. All (λ k. k < n) (below_in (at c.args.self.now c.args.next)) in
    subst P (sym (ap below_in c.take_off.ensures.taken.here ∙ below_kept c.args.next (at c.args.self.now c.args.next))) (subst Q (sym c.take_off.ensures.size) c.requires.can.next_children)

pub take_all-requires-clause-apart : goal.take_all-requires-clause-apart
take_all-requires-clause-apart c =
    ap (list_any (λ j. j == c.args.next)) (ap below_in c.take_off.ensures.taken.here ∙ below_kept c.args.next (at c.args.self.now c.args.next)) ∙ not_own (at c.args.self.now) (size c.args.self.now) c.args.id c.args.next c.args.below.items c.requires.can

pub returns-clause-joined : goal.returns-clause-joined
returns-clause-joined c =
    let old = at c.args.self.now in
    let off = at c.take_off.new.self in
    let own : Own = record (provision_in (old c.args.id)).own { content = c.args.content; refs = c.args.refs } in
    let out : list_any (λ j. j == c.args.id) (below_in (off c.args.next)) ≡ false =
    elim (cases_Bool (list_any (λ j. j == c.args.id) (below_in (off c.args.next)))) [
      | inl found ↦ absurd (let never : list_any (λ j. j == c.args.id) c.args.below.items ≡ true = c.requires.can.taken_in c.args.id
          (sym (ap (list_any (λ j. j == c.args.id)) (ap below_in c.take_off.ensures.taken.here ∙ below_kept c.args.next (old c.args.next))) ∙ found) in let none = c.requires.can.outside in cc)
      | inr none ↦ none
    ] in
    let same = c.take_all.ensures.relisted.others c.args.id c.requires.can.other out refl ∙ c.take_off.ensures.taken.others c.args.id c.requires.can.other c.requires.can.not_above in
    let P : Own → Type 0 = λ o. IsFilled (at c.take_all.new.self) (at c.fill.new.self) c.args.id o c.args.below.items in
    record {
      off = c.take_off.new.self;
      bare = c.take_all.new.self;
      taken = c.take_off.ensures.taken;
      emptied = c.take_all.ensures.relisted;
      joined = joined_of old off (at c.take_all.new.self) (at c.fill.new.self) (at c.settle.new.self) (size c.args.self.now) c.args.id c.args.next own c.args.below.items c.requires.can c.take_off.ensures.taken c.take_all.ensures.relisted
          (subst P (ap {B = Own} (λ o. record (provision_in o).own { content = c.args.content; refs = c.args.refs }) same) c.fill.ensures.filled) c.settle.ensures.raised;
    }
