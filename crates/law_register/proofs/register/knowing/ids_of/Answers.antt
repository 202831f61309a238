use Rattle.std.proofs.Common.{◌≡◌, ◌∙◌, ap, sym, subst, ℕ, ◌-◌, ◌≤◌, [], List, length, take, Option, arith}
use Rattle.std.proofs.lemmas.List.{append-nil}
use Rattle.indexmap.specs.IndexMap.{get_by}
use Rattle.desk_base.specs.declared.id.Id.{Id}
use Rattle.law_register.specs.declared.register.indexes.BodyMark.{BodyMark}
use Rattle.law_register.specs.declared.register.indexes.IdMark.{IdMark}
use Rattle.law_register.specs.Answer.Counted.{is_same_id}
use Rattle.law_register.specs.Register.Indexes.{bodies_at, StepStands}
use Rattle.law_register.specs.Register.LawList.{laws}
use Rattle.law_register.proofs.Gathering.{IsNotedTo, noted_next, noted_turn, noted_more, next_step, step_within, few_in_step, all_marks, all_ids}
use Rattle.law_register.proofs.Lists.{take_none}
use Rattle.law_register.proofs.register.knowing.ids_of.Goals as goal

pub step_of-step-requires-clause-some : goal.step_of-step-requires-clause-some
step_of-step-requires-clause-some c =
    let E = c.args.entries.now in
    let w = c.args.work.now in
    let next = noted_next E w c.args.viewpoint c.in-Some.number c.loop-number.numbers.items c.pop.new.self.items (λ i. get_by (is_same_id i) c.loop-number.known.marks) c.loop-number.known.ids.items
    c.loop-number.invariant c.in-Some.ensures.items in
    omega (arith, next.number)

pub step_of-step-requires-clause-within : goal.step_of-step-requires-clause-within
step_of-step-requires-clause-within c =
    let E = c.args.entries.now in
    let w = c.args.work.now in
    let next = noted_next E w c.args.viewpoint c.in-Some.number c.loop-number.numbers.items c.pop.new.self.items (λ i. get_by (is_same_id i) c.loop-number.known.marks) c.loop-number.known.ids.items
    c.loop-number.invariant c.in-Some.ensures.items in
    omega (arith, next.number, next.within, step_within c.args.indexes.now E c.requires, ap length c.deref.ensures.value)

pub note-requires-clause-few : goal.note-requires-clause-few
note-requires-clause-few c =
    let E = c.args.entries.now in
    let w = c.args.work.now in
    let ix = c.args.indexes.now in
    let next = noted_next E w c.args.viewpoint c.in-Some.number c.loop-number.numbers.items c.pop.new.self.items (λ i. get_by (is_same_id i) c.loop-number.known.marks) c.loop-number.known.ids.items
    c.loop-number.invariant c.in-Some.ensures.items in
    let step = next_step ix E w c.in-Some.number c.deref.result.now c.step_of-step.result c.requires next c.deref.ensures.value c.step_of-step.ensures in
    let F : List BodyMark → Type 0 = λ bodies. length (bodies_at bodies c.step_of-step.result) ≤ 64 in
    subst F (sym c.deref-in-Some.ensures.value) (few_in_step ix E w c.in-Some.number c.step_of-step.result c.requires next step)

pub note-requires-clause-first : goal.note-requires-clause-first
note-requires-clause-first c =
    let E = c.args.entries.now in
    let w = c.args.work.now in
    let ix = c.args.indexes.now in
    let next = noted_next E w c.args.viewpoint c.in-Some.number c.loop-number.numbers.items c.pop.new.self.items (λ i. get_by (is_same_id i) c.loop-number.known.marks) c.loop-number.known.ids.items
    c.loop-number.invariant c.in-Some.ensures.items in
    let step = next_step ix E w c.in-Some.number c.deref.result.now c.step_of-step.result c.requires next c.deref.ensures.value c.step_of-step.ensures in
    step.first

pub note-requires-clause-until : goal.note-requires-clause-until
note-requires-clause-until c =
    let E = c.args.entries.now in
    let w = c.args.work.now in
    let ix = c.args.indexes.now in
    let next = noted_next E w c.args.viewpoint c.in-Some.number c.loop-number.numbers.items c.pop.new.self.items (λ i. get_by (is_same_id i) c.loop-number.known.marks) c.loop-number.known.ids.items
    c.loop-number.invariant c.in-Some.ensures.items in
    let step = next_step ix E w c.in-Some.number c.deref.result.now c.step_of-step.result c.requires next c.deref.ensures.value c.step_of-step.ensures in
    omega (arith, step.until, ap length c.deref-in-Some.ensures.value)

pub loop-number-preserved : goal.loop-number-preserved
loop-number-preserved c =
    let E = c.args.entries.now in
    let w = c.args.work.now in
    let ix = c.args.indexes.now in
    let v = c.args.viewpoint in
    let s = c.step_of-step.result in
    let ids = c.loop-number.known.ids.items in
    let old : Id → Option IdMark = λ i. get_by (is_same_id i) c.loop-number.known.marks in
    let new : Id → Option IdMark = λ i. get_by (is_same_id i) c.note.new.self.marks in
    let N : List ℕ → Type 0 = λ numbers. IsNotedTo E w v numbers old ids in
    let noted = subst N c.in-Some.ensures.items c.loop-number.invariant in
    let turn = noted_turn E w v c.in-Some.number c.pop.new.self.items old ids noted in
    let step = next_step ix E w c.in-Some.number c.deref.result.now s c.requires turn.next c.deref.ensures.value c.step_of-step.ensures in
    let B : List BodyMark → Type 0 = λ bodies. StepStands E bodies (take turn.next.at (laws E)) s turn.next.law in
    noted_more E w v c.in-Some.number c.pop.new.self.items old new ids c.note.new.self.ids.items c.deref-in-Some.result.now s noted turn
    (subst B (sym c.deref-in-Some.ensures.value) step) c.in_ok-note.ensures.marks c.in_ok-note.ensures.ids

pub returns-clause-marks : goal.returns-clause-marks
returns-clause-marks c =
    let mark : Id → Option IdMark = λ i. get_by (is_same_id i) c.loop-number.known.marks in
    let N : List ℕ → Type 0 = λ numbers. IsNotedTo c.args.entries.now c.args.work.now c.args.viewpoint numbers mark c.loop-number.known.ids.items in
    let none : c.loop-number.numbers.items ≡ [] =
    c.in_default.ensures.items ∙ append-nil c.pop.new.self.items ∙ c.in_default.ensures.rest ∙ ap (λ n. take (n - 1) c.loop-number.numbers.items) c.in_default.ensures.cases.0
    ∙ take_none c.loop-number.numbers.items in
    all_marks c.args.entries.now c.args.work.now c.args.viewpoint mark c.loop-number.known.ids.items (subst N none c.loop-number.invariant)

pub returns-clause-ids : goal.returns-clause-ids
returns-clause-ids c =
    let mark : Id → Option IdMark = λ i. get_by (is_same_id i) c.loop-number.known.marks in
    let N : List ℕ → Type 0 = λ numbers. IsNotedTo c.args.entries.now c.args.work.now c.args.viewpoint numbers mark c.loop-number.known.ids.items in
    let none : c.loop-number.numbers.items ≡ [] =
    c.in_default.ensures.items ∙ append-nil c.pop.new.self.items ∙ c.in_default.ensures.rest ∙ ap (λ n. take (n - 1) c.loop-number.numbers.items) c.in_default.ensures.cases.0
    ∙ take_none c.loop-number.numbers.items in
    all_ids c.args.entries.now c.args.work.now c.args.viewpoint mark c.loop-number.known.ids.items (subst N none c.loop-number.invariant)
