-- What is accepted and well spelled can be spelled as bytes.
use Rattle.std.proofs.Common.{◌≡◌, ◌∙◌, sym, ap, subst, ℕ, ◌+◌, ◌≤◌, nat_le, nat_lt, inl, inr, Bool, true, false, cond, not, ◌&&◌, ◌||◌, List, [], ◌∷◌, ◌++◌, length, codes, Option, Some, None, Ok, Err, is_ok, unwrap_or, ◌<◌, refl, arith}
use Rattle.std.proofs.lemmas.List.{length-append}
use Rattle.std.proofs.lemmas.List.Folds.{list_all-append}
use Rattle.std.proofs.lemmas.Bool.Decides.{nat_tests}
use Rattle.std.specs.List.{list_all}
use Rattle.std.specs.Str.{bytes_eq}
use Rattle.frbr_names.specs.Reads.{Read}
use Rattle.frbr_names.specs.Rules.{is_portion, is_portion_byte}
use Rattle.frbr_names.specs.Expressions.{Expression, IsEnding, SpellsExpression, expression_of, is_expression, is_language, is_portion_or_none, portion_text, version_text, versioned_text}
use Rattle.frbr_names.proofs.DateLemmas.{day_is_long}
use Rattle.frbr_names.proofs.ExpressionLemmas.{expression_spelled}
use Rattle.frbr_names.specs.Works.{Work, date_named, date_read, work_of}
use Rattle.eid_paths.specs.declared.numbering.Numbering.{Numbering}
use Rattle.act_tree.specs.Branches.{Branch, Branches, branch, no_branches, more_branches, branches_of, listed, listed-branches_of, heights, count, counts}
use Rattle.act_tree.specs.Faults.{all_eids, first_fault, is_long, has_long, have_long}
use Rattle.act_tree.specs.Provisions.{Own}
use Rattle.act_tree.specs.Wids.{one_twice}
use Rattle.act_tree.specs.NodeLimits.{most_nodes}
use Rattle.act_tree.specs.declared.limits.NodeLimit.{NodeLimit}
use Rattle.act_tree.specs.declared.limits.NodeLimit.TheVariants.{Plain, Wide}
use Rattle.act_tree.specs.declared.build_fault.BuildFault.{BuildFault}
use Rattle.act_tree.specs.declared.build_fault.BuildFault.TheVariants.{EidTwice, TooDeep, TooManyNodes, TextTooLong}
use Rattle.textual_mods.specs.declared.edit.Spot.{Spot}
use Rattle.textual_mods.specs.declared.edit.SplitAt.{SplitAt}
use Rattle.textual_mods.specs.declared.edit.SplitAt.TheVariants as cuts
use Rattle.textual_mods.specs.declared.edit.TextPos.{TextPos}
use Rattle.textual_mods.specs.declared.edit.TextPos.TheVariants as stands
use Rattle.textual_mods.specs.declared.edit.TextualMod.{TextualMod}
use Rattle.textual_mods.specs.declared.edit.TextualMod.TheVariants.{Repeal, SubstituteNodes, SubstituteText, InsertNodes, InsertText, Renumber, Split, Join}
use Rattle.law_register.specs.declared.law.command.Command.{Command}
use Rattle.law_register.specs.declared.law.command.Command.TheVariants.{Enact, Record, Correct, Withdraw, Restore, DraftAdd, DraftDrop, File}
use Rattle.law_register.specs.declared.law.modification.Destination.{Destination}
use Rattle.law_register.specs.declared.law.modification.Destination.TheVariants as to
use Rattle.law_register.specs.declared.law.modification.Modification.{Modification}
use Rattle.law_register.specs.declared.law.modification.Modification.TheVariants.{Textual, Force, Efficacy}
use Rattle.law_register.specs.declared.register.entry.Entry.{Entry}
use Rattle.act_tree.specs.Limits.{has_few_refs, have_few_refs, is_wid}
use Rattle.textual_mods.specs.EditLimits.{text_fits, spot_fits, payload_fits, text_pos_fits, split_at_fits, edit_fits, payload_fault}
use Rattle.law_register.specs.Law.Bounds.{destination_fits, modification_fits, brought_fault}
use Rattle.law_register.specs.Law.Same.{same_number}
use Rattle.law_register.specs.Law.Spelling.{is_spelled_node, is_spelled_source, are_spelled_nodes, is_spelled_day, is_spelled_edit, is_spelled_modification, are_spelled_modifications, is_spelled_act, is_well_spelled}
use Rattle.law_register.specs.Law.Spellable.{is_counted, can_spell_own, can_spell_node, can_spell_nodes, can_spell_payload, can_spell_text_pos, can_spell_split_at, can_spell_edit, can_spell_destination, can_spell_modification, can_spell_command, can_be_spelled, can_all_be_spelled}
use Rattle.law_register.specs.Register.LawList.{front}
use Rattle.law_register.specs.Register.Registers.{are_well_spelled}
use Rattle.law_register.specs.Register.Verdicts.{tree_rule, first_item, bad_tree, bad_item, bad_modification, law_number, is_accepted, is_legal, verdict}
use Rattle.law_register.proofs.Legal.{first_kept, second_kept, not_broken, IsNew, accepted_new, kept_rules, legally}
use Rattle.law_register.proofs.Puts.{left_true, right_true, and_true, number_same}
use Rattle.law_register.proofs.ShortNames.{short_work}

at_most : (m n : ℕ) → nat_le m n ≡ true → m ≤ n
at_most m n h = grind (arith, nat_tests)

counted : (n : ℕ) → n ≤ 65535 → nat_le n 65535 ≡ true
counted n h = grind (arith, nat_tests)

not_above : (m n : ℕ) → nat_lt m n ≡ false → n ≤ m
not_above m n h = grind (arith, nat_tests)

neither_left : (a b : Bool) → a || b ≡ false → a ≡ false
neither_left true b h = h
neither_left false b h = refl

neither_right : (a b : Bool) → a || b ≡ false → b ≡ false
neither_right true b h = absurd (let no : true ≡ false = h in cc)
neither_right false b h = h

kept_test : (b : Bool) → not b ≡ false → b ≡ true
kept_test true h = refl
kept_test false h = absurd (let no : true ≡ false = h in cc)

-- a ref is short
ending_short : (portion : Option (List ℕ)) (ending : List ℕ) → is_portion_or_none portion ≡ true → IsEnding portion ending → length ending ≤ 1000
unfolding is_portion_or_none is_portion
ending_short portion ending kept is =
    elim is [
      | inl plain ↦ omega (arith, ap length plain, named portion kept)
      | inr other ↦ elim other [
        | inl main ↦ omega (arith, ap length main, length-append (codes "/!main") (portion_text portion), named portion kept)
        | inr tilde ↦ omega (arith, ap length tilde.2, length-append (codes "/!main~") tilde.0, short tilde.0 (subst (λ p. is_portion_or_none p ≡ true) tilde.1 kept))
      ]
    ]
  where
    short : (p : List ℕ) → is_portion_or_none (Some p) ≡ true → length p ≤ 512
    short p h = at_most (length p) 512 (right_true (nat_le 1 (length p)) (nat_le (length p) 512) (left_true (nat_le 1 (length p) && nat_le (length p) 512) (list_all is_portion_byte p) h))

    named : (p : Option (List ℕ)) → is_portion_or_none p ≡ true → length (portion_text p) ≤ 514
    named None h = omega arith
    named (Some p) h = omega (arith, length-append (codes "/~") p, short p h)

work_short : (text : List ℕ) (work : Work) → work_of text ≡ Ok work → length text ≤ 162
unfolding date_named
work_short text work is = short_work text work.date (ap date_read is)

version_short : (v : Option ℕ) → length (version_text v) ≤ 10
version_short None = omega arith
version_short (Some day) = omega (arith, day_is_long day)

expression_short : (text : List ℕ) (e : Expression) → SpellsExpression text e → length text ≤ 65535
unfolding versioned_text is_language
expression_short text e h =
    let letters : length e.language ≤ 3 = grind (arith, nat_tests, left_true, h.kept.language) in
    let a = length-append (e.work.text ++ codes "/" ++ e.language ++ codes "@" ++ version_text e.version) h.ending in
    let b = length-append (e.work.text ++ codes "/" ++ e.language ++ codes "@") (version_text e.version) in
    let c = length-append (e.work.text ++ codes "/" ++ e.language) (codes "@") in
    let d = length-append (e.work.text ++ codes "/") e.language in
    let f = length-append e.work.text (codes "/") in
    omega (
      arith,
      ap length h.spelled,
      a,
      b,
      c,
      d,
      f,
      letters,
      work_short e.work.text e.work h.kept.work,
      version_short e.version,
      ending_short e.portion h.ending h.kept.portion h.is_ending,
    )

ref_counted : (ref : List ℕ) → is_expression ref ≡ true → is_counted ref ≡ true
ref_counted ref h = by (expression_of ref) refl h
  where
    by : (r : Read Expression) → expression_of ref ≡ r → is_ok r ≡ true → is_counted ref ≡ true
    by (Ok e) is found = counted (length ref) (expression_short ref e (expression_spelled ref e is))
    by (Err fault) is found = absurd (let no : false ≡ true = found in cc)

refs_counted : (refs : List (List ℕ)) → list_all is_expression refs ≡ true → list_all is_counted refs ≡ true
refs_counted [] h = refl
refs_counted (ref ∷ refs) h =
    and_true (is_counted ref) (list_all is_counted refs) (ref_counted ref (left_true (is_expression ref) (list_all is_expression refs) h))
    (refs_counted refs (right_true (is_expression ref) (list_all is_expression refs) h))

-- nodes
listed_few : (bs : Branches Own) → length (listed bs) ≤ counts bs
listed_few no_branches = omega arith
listed_few (more_branches (branch own below) bs) = omega (arith, listed_few bs)

own_can : (own : Own) → is_long own ≡ false → nat_le (length own.refs) 16 ≡ true → list_all is_expression own.refs ≡ true → can_spell_own own ≡ true
own_can own long few spelled =
    and_true (is_counted own.heading) (is_counted own.content && (is_counted own.refs && list_all is_counted own.refs))
    (counted (length own.heading) (omega (arith, not_above 16384 (length own.heading) (neither_left (nat_lt 16384 (length own.heading)) (nat_lt 16384 (length own.content)) long))))
    (and_true (is_counted own.content) (is_counted own.refs && list_all is_counted own.refs)
    (counted (length own.content) (omega (arith, not_above 16384 (length own.content) (neither_right (nat_lt 16384 (length own.heading)) (nat_lt 16384 (length own.content)) long))))
    (and_true (is_counted own.refs) (list_all is_counted own.refs) (counted (length own.refs) (omega (arith, at_most (length own.refs) 16 few))) (refs_counted own.refs spelled)))

mutual
  node_can : (b : Branch Own) → count b ≤ 8192 → has_long b ≡ false → has_few_refs b ≡ true → is_spelled_node b ≡ true → can_spell_node b ≡ true
  node_can (branch own below) small long few spelled =
      and_true (can_spell_own own) (is_counted (listed below) && can_spell_nodes below)
      (own_can own (neither_left (is_long own) (have_long below) long) (left_true (nat_le (length own.refs) 16) (have_few_refs below) few)
      (left_true (list_all is_expression own.refs) (are_spelled_nodes below) spelled))
      (and_true (is_counted (listed below)) (can_spell_nodes below) (counted (length (listed below)) (omega (arith, listed_few below, small)))
      (nodes_can below (omega (arith, small)) (neither_right (is_long own) (have_long below) long)
      (right_true (nat_le (length own.refs) 16) (have_few_refs below) few) (right_true (list_all is_expression own.refs) (are_spelled_nodes below) spelled)))

  nodes_can : (bs : Branches Own) → counts bs ≤ 8192 → have_long bs ≡ false → have_few_refs bs ≡ true → are_spelled_nodes bs ≡ true → can_spell_nodes bs ≡ true
  nodes_can no_branches small long few spelled = refl
  nodes_can (more_branches b bs) small long few spelled =
      and_true (can_spell_node b) (can_spell_nodes bs)
      (node_can b (omega (arith, small)) (neither_left (has_long b) (have_long bs) long) (left_true (has_few_refs b) (have_few_refs bs) few)
      (left_true (is_spelled_node b) (are_spelled_nodes bs) spelled))
      (nodes_can bs (omega (arith, small)) (neither_right (has_long b) (have_long bs) long) (right_true (has_few_refs b) (have_few_refs bs) few)
      (right_true (is_spelled_node b) (are_spelled_nodes bs) spelled))

-- nodes without a fault are few, not deep and not long
record IsSmall (bs : Branches Own) : Type 0 where
  deep : heights bs ≤ 12
  few : counts bs ≤ 8192
  long : have_long bs ≡ false

no_limit_above : (limit : NodeLimit) → most_nodes limit ≤ 8192
no_limit_above Plain = omega arith
no_limit_above Wide = omega arith

small : (numbering : Numbering) (limit : NodeLimit) (bs : Branches Own) → first_fault numbering limit bs ≡ None → IsSmall bs
small numbering limit bs h = by (one_twice (all_eids numbering None bs)) (nat_lt 12 (heights bs)) (nat_lt (most_nodes limit) (counts bs)) (have_long bs) refl refl refl h
  where
    by : (a b c d : Bool) → nat_lt 12 (heights bs) ≡ b → nat_lt (most_nodes limit) (counts bs) ≡ c → have_long bs ≡ d
        → cond a (Some EidTwice) (cond b (Some TooDeep) (cond c (Some TooManyNodes) (cond d (Some TextTooLong) None))) ≡ None → IsSmall bs
    by true b c d deep few long h = cc
    by false true c d deep few long h = cc
    by false false true d deep few long h = cc
    by false false false true deep few long h = cc
    by false false false false deep few long h =
        record { deep = not_above 12 (heights bs) deep; few = omega (arith, not_above (most_nodes limit) (counts bs) few, no_limit_above limit); long = long }

payload_can : (numbering : Numbering) (limit : NodeLimit) (nodes : List (Branch Own)) → first_fault numbering limit (branches_of nodes) ≡ None → have_few_refs (branches_of nodes) ≡ true
    → are_spelled_nodes (branches_of nodes) ≡ true → can_spell_payload nodes ≡ true
payload_can numbering limit nodes sound few spelled =
    let is = small numbering limit (branches_of nodes) sound in
    and_true (is_counted nodes) (nat_le (heights (branches_of nodes)) 12 && can_spell_nodes (branches_of nodes))
    (counted (length nodes) (omega (arith, listed_few (branches_of nodes), ap length (listed-branches_of nodes), is.few)))
    (and_true (nat_le (heights (branches_of nodes)) 12) (can_spell_nodes (branches_of nodes)) (within (heights (branches_of nodes)) is.deep)
    (nodes_can (branches_of nodes) is.few is.long few spelled))
  where
    within : (n : ℕ) → n ≤ 12 → nat_le n 12 ≡ true
    within n h = grind (arith, nat_tests)

-- what an edit names
wid_can : (wid : List ℕ) → is_wid wid ≡ true → is_counted wid ≡ true
wid_can wid h = counted (length wid) (omega (arith, at_most (length wid) 512 (right_true (nat_lt 0 (length wid)) (nat_le (length wid) 512) h)))

text_can : (text : List ℕ) → text_fits text ≡ true → is_counted text ≡ true
text_can text h = counted (length text) (omega (arith, at_most (length text) 16384 h))

spot_can : (spot : Spot) → spot_fits spot ≡ true → is_counted spot.old ≡ true
spot_can spot h = text_can spot.old (right_true (nat_lt 0 (length spot.old)) (text_fits spot.old) (left_true (nat_lt 0 (length spot.old) && text_fits spot.old) (nat_lt 0 spot.occurrence) h))

text_pos_can : (at : TextPos) → text_pos_fits at ≡ true → can_spell_text_pos at ≡ true
text_pos_can stands.Start h = refl
text_pos_can stands.End h = refl
text_pos_can (stands.Before spot) h = spot_can spot h
text_pos_can (stands.After spot) h = spot_can spot h

split_at_can : (at : SplitAt) → split_at_fits at ≡ true → can_spell_split_at at ≡ true
split_at_can (cuts.Text spot) h = spot_can spot h
split_at_can (cuts.Child wid) h = wid_can wid h

pairs_named : (pairs : List (List ℕ × List ℕ)) → list_all (λ pair. is_wid pair.0) pairs ≡ true → list_all (λ pair. is_counted pair.0) pairs ≡ true
pairs_named [] h = refl
pairs_named (p ∷ pairs) h =
    and_true (is_counted p.0) (list_all (λ pair. is_counted pair.0) pairs) (wid_can p.0 (left_true (is_wid p.0) (list_all (λ pair. is_wid pair.0) pairs) h))
    (pairs_named pairs (right_true (is_wid p.0) (list_all (λ pair. is_wid pair.0) pairs) h))

edit_can : (edit : TextualMod) → payload_fault edit ≡ None → edit_fits edit ≡ true → is_spelled_edit edit ≡ true → can_spell_edit edit ≡ true
edit_can (Repeal wid) sound fits spelled = wid_can wid fits
edit_can (SubstituteNodes wid new) sound fits spelled =
    and_true (is_counted wid) (can_spell_payload new) (wid_can wid (left_true (is_wid wid) (payload_fits new) fits))
    (payload_can _ Plain new sound (right_true (nat_lt 0 (length new) && nat_le (length new) 64) (have_few_refs (branches_of new)) (right_true (is_wid wid) (payload_fits new) fits)) spelled)
edit_can (InsertNodes wid pos new) sound fits spelled =
    and_true (is_counted wid) (can_spell_payload new) (wid_can wid (left_true (is_wid wid) (payload_fits new) fits))
    (payload_can _ Plain new sound (right_true (nat_lt 0 (length new) && nat_le (length new) 64) (have_few_refs (branches_of new)) (right_true (is_wid wid) (payload_fits new) fits)) spelled)
edit_can (SubstituteText wid spot new) sound fits spelled =
    let front = left_true (is_wid wid && spot_fits spot) (text_fits new) fits in
    and_true (is_counted wid) (is_counted spot.old && is_counted new) (wid_can wid (left_true (is_wid wid) (spot_fits spot) front))
    (and_true (is_counted spot.old) (is_counted new) (spot_can spot (right_true (is_wid wid) (spot_fits spot) front))
    (text_can new (right_true (is_wid wid && spot_fits spot) (text_fits new) fits)))
edit_can (InsertText wid at new) sound fits spelled =
    let front = left_true (is_wid wid && text_pos_fits at) (text_fits new) fits in
    and_true (is_counted wid) (can_spell_text_pos at && is_counted new) (wid_can wid (left_true (is_wid wid) (text_pos_fits at) front))
    (and_true (can_spell_text_pos at) (is_counted new) (text_pos_can at (right_true (is_wid wid) (text_pos_fits at) front))
    (text_can new (right_true (is_wid wid && text_pos_fits at) (text_fits new) fits)))
edit_can (Renumber pairs) sound fits spelled =
    let named : list_all (λ (pair : List ℕ × List ℕ). is_wid pair.0) pairs ≡ true = right_true (nat_lt 0 (length pairs) && nat_le (length pairs) 64) _ (left_true _ _ fits) in
    let few = at_most (length pairs) 64 (right_true (nat_lt 0 (length pairs)) (nat_le (length pairs) 64) (left_true (nat_lt 0 (length pairs) && nat_le (length pairs) 64) _ (left_true _ _ fits))) in
    and_true (is_counted pairs) (list_all (λ pair. is_counted pair.0) pairs) (counted (length pairs) (omega (arith, few))) (pairs_named pairs named)
edit_can (Split wid at num heading) sound fits spelled =
    let front = left_true (is_wid wid && split_at_fits at) (text_fits heading) fits in
    and_true (is_counted wid) (can_spell_split_at at && is_counted heading) (wid_can wid (left_true (is_wid wid) (split_at_fits at) front))
    (and_true (can_spell_split_at at) (is_counted heading) (split_at_can at (right_true (is_wid wid) (split_at_fits at) front))
    (text_can heading (right_true (is_wid wid && split_at_fits at) (text_fits heading) fits)))
edit_can (Join wid second separator) sound fits spelled =
    let front = left_true (is_wid wid && is_wid second && not (bytes_eq wid second)) (text_fits separator) fits in
    let names = left_true (is_wid wid && is_wid second) (not (bytes_eq wid second)) front in
    and_true (is_counted wid) (is_counted second && is_counted separator) (wid_can wid (left_true (is_wid wid) (is_wid second) names))
    (and_true (is_counted second) (is_counted separator) (wid_can second (right_true (is_wid wid) (is_wid second) names))
    (text_can separator (right_true (is_wid wid && is_wid second && not (bytes_eq wid second)) (text_fits separator) fits)))

destination_can : (destination : Destination) → destination_fits destination ≡ true → can_spell_destination destination ≡ true
destination_can (to.Modification id) h = refl
destination_can (to.Node wid) h = wid_can wid h

no_fault : (fault : Option BuildFault) → tree_rule fault ≡ None → fault ≡ None
no_fault None h = refl
no_fault (Some fault) h = cc

modification_can : (m : Modification) → brought_fault m ≡ None → modification_fits m ≡ true → is_spelled_modification m ≡ true → can_spell_modification m ≡ true
modification_can (Textual source force edit) sound fits spelled =
    edit_can edit sound fits (right_true (is_spelled_source source) (is_spelled_edit edit) spelled)
modification_can (Force source destination on effect) sound fits spelled = destination_can destination fits
modification_can (Efficacy source destination on effect) sound fits spelled = destination_can destination fits

mods_can : (i j : ℕ) (ms : List Modification) → first_item (λ number m. tree_rule (brought_fault m)) i ms ≡ None → first_item bad_item j ms ≡ None
    → list_all is_spelled_modification ms ≡ true → list_all can_spell_modification ms ≡ true
mods_can i j [] sound fits spelled = refl
mods_can i j (m ∷ ms) sound fits spelled =
    let rest = first_item (λ number k. tree_rule (brought_fault k)) (i + 1) ms in
    let others = first_item bad_item (j + 1) ms in
    and_true (can_spell_modification m) (list_all can_spell_modification ms)
    (modification_can m (no_fault (brought_fault m) (first_kept (tree_rule (brought_fault m)) rest sound))
    (kept_test (modification_fits m) (not_broken (not (modification_fits m)) _ (first_kept (bad_item j m) others fits)))
    (left_true (is_spelled_modification m) (list_all is_spelled_modification ms) spelled))
    (mods_can (i + 1) (j + 1) ms (second_kept (tree_rule (brought_fault m)) rest sound) (second_kept (bad_item j m) others fits)
    (right_true (is_spelled_modification m) (list_all is_spelled_modification ms) spelled))

one_can : (m : Modification) → first_item (λ number k. tree_rule (brought_fault k)) 1 (m ∷ []) ≡ None → first_item bad_item 1 (m ∷ []) ≡ None
    → is_spelled_modification m ≡ true → can_spell_modification m ≡ true
one_can m sound fits spelled =
    left_true (can_spell_modification m) true (mods_can 1 1 (m ∷ []) sound fits (and_true (is_spelled_modification m) true spelled refl))

command_can : (c : Command) → bad_tree c ≡ None → bad_modification c ≡ None → is_well_spelled c ≡ true → can_spell_command c ≡ true
unfolding is_well_spelled is_spelled_act are_spelled_modifications
command_can (Enact act) tree fits spelled =
    payload_can act.numbering act.limit act.body (no_fault _ tree)
    (kept_test (have_few_refs (branches_of act.body)) (not_broken (not (have_few_refs (branches_of act.body))) _ fits))
    (right_true (is_language act.language && is_spelled_day (date_named act.work) act.day) (are_spelled_nodes (branches_of act.body)) spelled)
command_can (Record work mods) tree fits spelled =
    let list = not_broken (not (nat_lt 0 (length mods) && nat_le (length mods) 64)) _ (first_kept _ (first_item bad_item 1 mods) fits) in
    let few = at_most (length mods) 64 (right_true (nat_lt 0 (length mods)) (nat_le (length mods) 64) (kept_test (nat_lt 0 (length mods) && nat_le (length mods) 64) list)) in
    and_true (is_counted mods) (list_all can_spell_modification mods) (counted (length mods) (omega (arith, few)))
    (mods_can 1 1 mods tree (second_kept _ (first_item bad_item 1 mods) fits) spelled)
command_can (Correct id body) tree fits spelled = one_can body tree fits spelled
command_can (DraftAdd work body) tree fits spelled = one_can body tree fits spelled
command_can (Withdraw id) tree fits spelled = refl
command_can (Restore id) tree fits spelled = refl
command_can (DraftDrop item) tree fits spelled = refl
command_can (File work seen) tree fits spelled = refl

-- a law number
numbered : (law : Option ℕ) (n : ℕ) → same_number law (Some (n + 1)) ≡ true → nat_lt 0 (unwrap_or law 1) ≡ true
numbered None n h = refl
numbered (Some k) n h = let is : k ≡ n + 1 = number_same k (n + 1) h in above k (omega (arith, is))
  where
    above : (k : ℕ) → 0 < k → nat_lt 0 k ≡ true
    above k h = grind (arith, nat_tests)

not_numbered : (law : Option ℕ) → same_number law None ≡ true → nat_lt 0 (unwrap_or law 1) ≡ true
not_numbered None h = refl
not_numbered (Some k) h = absurd (let no : false ≡ true = h in cc)

number_can : (es : List Entry) (law : Option ℕ) (c : Command) → same_number law (law_number es c) ≡ true → nat_lt 0 (unwrap_or law 1) ≡ true
number_can es law (DraftAdd work body) h = not_numbered law h
number_can es law (DraftDrop item) h = not_numbered law h
number_can es law (Enact act) h = numbered law (front es) h
number_can es law (Record work mods) h = numbered law (front es) h
number_can es law (Correct id body) h = numbered law (front es) h
number_can es law (Withdraw id) h = numbered law (front es) h
number_can es law (Restore id) h = numbered law (front es) h
number_can es law (File work seen) h = numbered law (front es) h

new_can : (es : List Entry) (e : Entry) → IsNew es e.drafter e.request e.command e.law → is_well_spelled e.command ≡ true → can_be_spelled e ≡ true
unfolding can_be_spelled
new_can es e new spelled =
    let kept = kept_rules es e.drafter e.command new.kept in
    and_true (nat_lt 0 (unwrap_or e.law 1)) (can_spell_command e.command) (number_can es e.law e.command new.number)
    (command_can e.command kept.tree kept.modification spelled)

-- an accepted entry, and all of a legal register
pub accepted_can : (es : List Entry) (e : Entry) → is_accepted e.law (verdict es e.drafter e.request e.command) ≡ true → is_well_spelled e.command ≡ true
    → can_be_spelled e ≡ true
accepted_can es e accepted spelled = new_can es e (accepted_new es e.drafter e.request e.command e.law accepted) spelled

abbrev AllCan : List Entry → Type 0
AllCan es = are_well_spelled es ≡ true → can_all_be_spelled es ≡ true

all_step : (es : List Entry) (e : Entry) → AllCan es → IsNew es e.drafter e.request e.command e.law → AllCan (es ++ e ∷ [])
all_step es e h new spelled =
    let spells : Entry → Bool = λ x. is_well_spelled x.command in
    let both : are_well_spelled es && list_all spells (e ∷ []) ≡ true = sym (list_all-append spells es (e ∷ [])) ∙ spelled in
    let mine = left_true (is_well_spelled e.command) true (right_true (are_well_spelled es) (list_all spells (e ∷ [])) both) in
    list_all-append can_be_spelled es (e ∷ [])
    ∙ and_true (can_all_be_spelled es) (list_all can_be_spelled (e ∷ [])) (h (left_true (are_well_spelled es) (list_all spells (e ∷ [])) both))
    (and_true (can_be_spelled e) true (new_can es e new mine) refl)

pub all_can : (es : List Entry) → is_legal es ≡ true → are_well_spelled es ≡ true → can_all_be_spelled es ≡ true
all_can es legal = legally AllCan all_step (λ _. refl) es legal
