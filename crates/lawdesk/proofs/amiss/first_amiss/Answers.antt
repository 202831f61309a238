-- The word at an index is what is wanted, or is the first that is not.
use Rattle.std.proofs.Common.{◌≡◌, ◌∙◌, ◌<◌, ◌+◌, ℕ, Bool, true, false, List, [], get_or, length, map, sym, ap, string_bytes, rules, Some, drop}
use Rattle.std.proofs.lemmas.List.{get_or-map, length-map}
use Rattle.std.specs.Prelude.{cond}
use Rattle.lawdesk.specs.Amiss.{amiss_from, is_wanted}
use Rattle.lawdesk.specs.declared.amiss.Wanted.TheVariants.{Command, Nothing}
use Rattle.lawdesk.proofs.Misfits.{amiss_at, amiss_behind}
use Rattle.lawdesk.proofs.amiss.first_amiss.Goals as goal

pub returns-then-not-is_wanted : goal.returns-then-not-is_wanted
returns-then-not-is_wanted c =
    let words = map string_bytes c.args.words.now in
    let index = c.loop-index.index in
    let less : index < length c.args.words.now = search rules in
    let more : index < length words = rw (length-map c.args.words.now string_bytes) less in
    let here : get_or words index [] ≡ c.as_str.result.now =
    get_or-map string_bytes c.args.words.now index c.index-words-index.result [] less
    ∙ sym (ap string_bytes c.index-words-index.is) ∙ sym c.as_str.ensures.value in
    let wanted = get_or c.args.wants.now index Command in
    let is : is_wanted wanted (get_or words index []) ≡ false =
    ap (λ (word : List ℕ). is_wanted wanted word) here ∙ sym c.is_wanted.ensures ∙ c.if-not-is_wanted.true in
    sym (sym c.loop-index.invariant.1 ∙ amiss_at c.args.wants.now words index c.loop-index-test.true more
    ∙ ap (λ (b : Bool). cond b (amiss_from (index + 1) (drop (index + 1) c.args.wants.now) (drop (index + 1) words))
    (Some (record { index = index; wanted = wanted }))) is)

pub loop-index-preserved : goal.loop-index-preserved
loop-index-preserved c =
    let words = map string_bytes c.args.words.now in
    let index = c.loop-index.index in
    let less : index < length c.args.words.now = search rules in
    let more : index < length words = rw (length-map c.args.words.now string_bytes) less in
    let here : get_or words index [] ≡ c.as_str.result.now =
    get_or-map string_bytes c.args.words.now index c.index-words-index.result [] less
    ∙ sym (ap string_bytes c.index-words-index.is) ∙ sym c.as_str.ensures.value in
    let wanted = get_or c.args.wants.now index Command in
    let is : is_wanted wanted (get_or words index []) ≡ true =
    ap (λ (word : List ℕ). is_wanted wanted word) here ∙ sym c.is_wanted.ensures ∙ c.if-not-is_wanted.false in (
      search rules,
      sym (amiss_at c.args.wants.now words index c.loop-index-test.true more
          ∙ ap (λ (b : Bool). cond b (amiss_from (index + 1) (drop (index + 1) c.args.wants.now) (drop (index + 1) words))
          (Some (record { index = index; wanted = wanted }))) is) ∙ c.loop-index.invariant.1,
    )

pub returns : goal.returns
returns c =
    let words = map string_bytes c.args.words.now in
    let index = c.loop-index.index in
    let end : index ≡ length c.args.wants.now = search rules in
    let less : index < length c.args.words.now = search rules in
    let more : index < length words = rw (length-map c.args.words.now string_bytes) less in
    ap (λ n. Some (record { index = n; wanted = Nothing })) (sym end)
    ∙ sym (sym c.loop-index.invariant.1 ∙ amiss_behind c.args.wants.now words index c.loop-index-test.false more)
