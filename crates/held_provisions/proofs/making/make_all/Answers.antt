use Rattle.std.proofs.Common.{rules, ◌≡◌, ◌∙◌, sym, ap, ℕ, ◌+◌, ◌<◌, List, [], ◌∷◌, ◌++◌, append_assoc, drop, length, map, Some}
use Rattle.std.proofs.lemmas.List.{drop_more, map_push}
use Rattle.std.specs.List.{sum_by}
use Rattle.law_register.specs.declared.register.known.Known.{Known}
use Rattle.law_register.specs.Answer.Soundness.{IsSound}
use Rattle.law_register.specs.Answer.Standing.{alone}
use Rattle.law_register.specs.Provisions.Costs.{full}
use Rattle.law_register.specs.Provisions.Line.{work_in}
use Rattle.version_cache.specs.declared.work_tables.WorkTables.{WorkTables}
use Rattle.held_provisions.proofs.MadeAll.{IsMade, all_first, all_later, all_one_more, are_sources, have_first, have_later, known_made}
use Rattle.held_provisions.proofs.Spent.{spent_by, spent_on}
use Rattle.held_provisions.proofs.making.make_all.Goals as goal

pub make-requires-clause-there : goal.make-requires-clause-there
make-requires-clause-there g c =
    let line : List Known = map g.T.InLine.known_of c.args.works.now in
    let all : List Known = c.args.needed.now in
    let i : ℕ = c.loop-known.known-index in
    let known : Known = c.known-item.result in
    let within : i < length all = search rules in
    let cut : drop i all ≡ known ∷ drop (i + 1) all = drop_more all i known within ∙ ap (λ (k : Known). k ∷ drop (i + 1) all) (sym c.known-item.is) in
    all_first (λ (k : Known). work_in k.act.work line ≡ Some k) known (drop (i + 1) all) (drop i all) cut c.loop-known.invariant.there

pub make-requires-clause-alone : goal.make-requires-clause-alone
make-requires-clause-alone g c =
    let all : List Known = c.args.needed.now in
    let i : ℕ = c.loop-known.known-index in
    let known : Known = c.known-item.result in
    let within : i < length all = search rules in
    let cut : drop i all ≡ known ∷ drop (i + 1) all = drop_more all i known within ∙ ap (λ (k : Known). k ∷ drop (i + 1) all) (sym c.known-item.is) in
    all_first (λ (k : Known). alone k ≡ k) known (drop (i + 1) all) (drop i all) cut c.loop-known.invariant.alone

pub make-requires-clause-sources : goal.make-requires-clause-sources
make-requires-clause-sources g c =
    let line : List Known = map g.T.InLine.known_of c.args.works.now in
    let all : List Known = c.args.needed.now in
    let i : ℕ = c.loop-known.known-index in
    let known : Known = c.known-item.result in
    let within : i < length all = search rules in
    let cut : drop i all ≡ known ∷ drop (i + 1) all = drop_more all i known within ∙ ap (λ (k : Known). k ∷ drop (i + 1) all) (sym c.known-item.is) in
    are_sources line known c.loop-known.made c.loop-known.invariant.right
    (have_first line (map known_made c.loop-known.made.made.items) (drop i all) (drop (i + 1) all) known cut c.loop-known.invariant.ahead)

pub make-requires-clause-sound : goal.make-requires-clause-sound
make-requires-clause-sound g c =
    let all : List Known = c.args.needed.now in
    let i : ℕ = c.loop-known.known-index in
    let known : Known = c.known-item.result in
    let within : i < length all = search rules in
    let cut : drop i all ≡ known ∷ drop (i + 1) all = drop_more all i known within ∙ ap (λ (k : Known). k ∷ drop (i + 1) all) (sym c.known-item.is) in
    all_first IsSound known (drop (i + 1) all) (drop i all) cut c.loop-known.invariant.sound

pub returns-in_err-next-clause-steps : goal.returns-in_err-next-clause-steps
returns-in_err-next-clause-steps g c =
    let cost : Known → ℕ = full (map g.T.InLine.known_of c.args.works.now) in
    let all : List Known = c.args.needed.now in
    let i : ℕ = c.loop-known.known-index in
    let known : Known = c.known-item.result in
    let within : i < length all = search rules in
    let cut : drop i all ≡ known ∷ drop (i + 1) all = drop_more all i known within ∙ ap (λ (k : Known). k ∷ drop (i + 1) all) (sym c.known-item.is) in
    spent_by cost known (drop (i + 1) all) (drop i all) c.loop-known.steps c.make.new.steps (c.args.steps.now + sum_by cost all) cut
    c.loop-known.invariant.steps c.make.ensures.steps

pub returns-in_err-push-clause-steps : goal.returns-in_err-push-clause-steps
returns-in_err-push-clause-steps g c =
    let cost : Known → ℕ = full (map g.T.InLine.known_of c.args.works.now) in
    let all : List Known = c.args.needed.now in
    let i : ℕ = c.loop-known.known-index in
    let known : Known = c.known-item.result in
    let within : i < length all = search rules in
    let cut : drop i all ≡ known ∷ drop (i + 1) all = drop_more all i known within ∙ ap (λ (k : Known). k ∷ drop (i + 1) all) (sym c.known-item.is) in
    spent_by cost known (drop (i + 1) all) (drop i all) c.loop-known.steps c.make.new.steps (c.args.steps.now + sum_by cost all) cut
    c.loop-known.invariant.steps c.make.ensures.steps

pub loop-known-preserved : goal.loop-known-preserved
loop-known-preserved g c =
    let line : List Known = map g.T.InLine.known_of c.args.works.now in
    let cost : Known → ℕ = full line in
    let all : List Known = c.args.needed.now in
    let i : ℕ = c.loop-known.known-index in
    let known : Known = c.known-item.result in
    let made : List WorkTables = c.loop-known.made.made.items in
    let next : WorkTables = c.in_ok-next.next in
    let within : i < length all = search rules in
    let cut : drop i all ≡ known ∷ drop (i + 1) all = drop_more all i known within ∙ ap (λ (k : Known). k ∷ drop (i + 1) all) (sym c.known-item.is) in
    let more : map known_made c.push.new.self.items ≡ map known_made made ++ known ∷ [] =
    ap (map known_made) c.in_ok-push.ensures.items ∙ map_push known_made made next ∙ ap (λ (k : Known). map known_made made ++ k ∷ []) c.in_ok-next.ensures.known in
    record {
      known =
          ap (λ (ks : List Known). ks ++ drop (i + 1) all) more
          ∙ append_assoc (map known_made made) (known ∷ []) (drop (i + 1) all)
          ∙ ap (λ (ks : List Known). map known_made made ++ ks) (sym cut)
          ∙ c.loop-known.invariant.known;
      right = all_one_more (IsMade line) made c.push.new.self.items next c.in_ok-push.ensures.items c.loop-known.invariant.right c.in_ok-next.ensures.right;
      there = all_later (λ (k : Known). work_in k.act.work line ≡ Some k) known (drop (i + 1) all) (drop i all) cut c.loop-known.invariant.there;
      ahead = have_later line (map known_made made) (map known_made c.push.new.self.items) (drop i all) (drop (i + 1) all) known cut more c.loop-known.invariant.ahead;
      alone = all_later (λ (k : Known). alone k ≡ k) known (drop (i + 1) all) (drop i all) cut c.loop-known.invariant.alone;
      sound = all_later IsSound known (drop (i + 1) all) (drop i all) cut c.loop-known.invariant.sound;
      steps =
          spent_on cost known (drop (i + 1) all) (drop i all) c.loop-known.steps c.make.new.steps (c.args.steps.now + sum_by cost all) cut
          c.loop-known.invariant.steps c.make.ensures.steps;
    }
