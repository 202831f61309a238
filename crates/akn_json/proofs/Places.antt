-- A fault of a dossier or of a command stands at a place that is no greater than the number of modifications that its bytes have room for.
use Rattle.std.proofs.Common.{◌≡◌, ℕ, suc, ◌+◌, ◌≤◌, Bool, true, false, nat_le, List, [], length, Option, Some, None, Result, Ok, Err, refl, subst, arith}
use Rattle.std.specs.Str.{bytes_eq}
use Rattle.serde_json.specs.Data.{Data, null, boolean, number, string, array, object, Items, no_items, item, Members, no_members, member}
use Rattle.serde_json.specs.Events.{items_len}
use Rattle.serde_json.specs.Find.{get}
use Rattle.eid_paths.specs.declared.numbering.TheConstants.Numbering.{DEFAULT}
use Rattle.frbr_names.specs.Reads.{Read as NameRead}
use Rattle.frbr_names.specs.Works.{Work, work_of}
use Rattle.akn_json.specs.declared.fault.FormFault.{FormFault}
use Rattle.akn_json.specs.declared.fault.FormRule.TheVariants.{NotJson, TooLong}
use Rattle.akn_json.specs.declared.reading.command_kinds.CommandKind.{CommandKind}
use Rattle.akn_json.specs.declared.reading.command_kinds.CommandKind.TheVariants as kind
use Rattle.akn_json.specs.declared.reading.key.Key.{Key}
use Rattle.akn_json.specs.declared.reading.key.Key.TheVariants as key
use Rattle.akn_json.specs.declared.reading.tables.Keys.{Keys}
use Rattle.akn_json.specs.declared.reading.tables.TheConstants.{DOSSIER}
use Rattle.akn_json.specs.Reading.Reads.{Read, ◌>>=◌, ◌>>◌, broken, or_fault, unless_broken, inside}
use Rattle.akn_json.specs.Reading.Keys.{key_name}
use Rattle.akn_json.specs.Reading.Fields.{members_in, field_in, items_in, text_in, number_in, day_in, end_in, period_in, optional_in}
use Rattle.akn_json.specs.Reading.Names.{work_read, work_in, expression_in, id_in}
use Rattle.akn_json.specs.Reading.Nodes.{element_in, num_in, refs_in, own_in, node_in, children_in, nodes_in, each_node}
use Rattle.akn_json.specs.Reading.Acts.{act_day_in, language_in, numbering_in, node_limit_in, act_in}
use Rattle.akn_json.specs.Reading.Modifications.{modification_in, each_from, mods_in}
use Rattle.akn_json.specs.Reading.Widths.{width}
use Rattle.akn_json.specs.Reading.Bytes.{most_bytes, json_of, value_of}
use Rattle.akn_json.specs.Reading.Dossiers.{dossier_in, dossier_of}
use Rattle.akn_json.specs.Reading.Commands.{command_kind_in, command_keys_in, drafter_in, asked_work_in, asked_id_in, body_in, count_in, enact_in, record_in, correct_in, withdraw_in, restore_in, draft_add_in, draft_drop_in, file_in, command_in, asked_in, asked_of}
use Rattle.akn_json.proofs.Placing.{IsWithin, placing, within_ok, within_broken, within_found, within_kept, within_on, within_then, within_either, within_inside, within_or, within_each}
use Rattle.akn_json.proofs.Widths.{field-width, items-width, value-width}

members_within : {R O : ℕ} (most : ℕ) (keys : Keys R O) (d : Data) → IsWithin most (members_in keys d)
unfolding members_in
members_within most keys d = within_kept most _ _

field_within : (most : ℕ) (at : Key) (d : Data) → IsWithin most (field_in at d)
unfolding field_in
field_within most at d = within_found most _ _

items_within : (most : ℕ) (d : Data) → IsWithin most (items_in d)
unfolding items_in
items_within most d = within_found most _ _

text_within : (most : ℕ) (d : Data) → IsWithin most (text_in d)
unfolding text_in
text_within most d = within_found most _ _

number_within : (most limit : ℕ) (d : Data) → IsWithin most (number_in limit d)
unfolding number_in
number_within most limit d = search placing depth 24

day_within : (most : ℕ) (d : Data) → IsWithin most (day_in d)
unfolding day_in
day_within most d = search (placing, text_within) depth 24

optional_within : {A : Type 0} (most : ℕ) (at : Key) (absent : A) (reading : Data → Read A) (d : Data) → ((e : Data) → IsWithin most (reading e))
    → IsWithin most (optional_in at absent reading d)
unfolding optional_in
optional_within most at absent reading d h = within_or most absent reading (get (key_name at) d) h

end_within : (most : ℕ) (d : Data) → IsWithin most (end_in d)
unfolding end_in
end_within most d = search (placing, day_within) depth 24

period_within : (most : ℕ) (d : Data) → IsWithin most (period_in d)
unfolding period_in
period_within most d = search (placing, members_within, field_within, day_within, optional_within, end_within) depth 40

work_within : (most : ℕ) (d : Data) → IsWithin most (work_in d)
unfolding work_in
work_within most d = within_on most (text_in d) _ (text_within most d) (λ text _. by (work_of text))
  where
    by : (r : NameRead Work) → IsWithin most (work_read r)
    by (Ok work) = within_ok most _
    by (Err fault) = within_broken _ most _

expression_within : (most : ℕ) (d : Data) → IsWithin most (expression_in d)
unfolding expression_in
expression_within most d = search (placing, text_within) depth 24

id_within : (most : ℕ) (d : Data) → IsWithin most (id_in d)
unfolding id_in
id_within most d = search (placing, text_within) depth 24

element_within : (most : ℕ) (d : Data) → IsWithin most (element_in d)
unfolding element_in
element_within most d = search (placing, text_within) depth 24

num_within : (most : ℕ) (d : Data) → IsWithin most (num_in d)
unfolding num_in
num_within most d = search (placing, text_within) depth 24

refs_within : (most : ℕ) (d : Data) → IsWithin most (refs_in d)
unfolding refs_in
refs_within most d =
    within_on most (items_in d) _ (items_within most d) (λ items _. within_each most expression_in (expression_within most) items)

own_within : (most : ℕ) (d : Data) → IsWithin most (own_in d)
unfolding own_in
own_within most d =
    search (placing, members_within, field_within, element_within, num_within, optional_within, text_within, refs_within) depth 60

mutual
  node_within : (most : ℕ) (d : Data) → IsWithin most (node_in d)
  node_within most null = within_broken _ most _
  node_within most (boolean b) = within_broken _ most _
  node_within most (number n) = within_broken _ most _
  node_within most (string s) = within_broken _ most _
  node_within most (array ds) = within_broken _ most _
  node_within most (object ms) =
      within_on most (own_in (object ms)) _ (own_within most (object ms))
      (λ own _. within_on most (children_in ms) _ (children_within most ms) (λ below _. within_ok most _))

  children_within : (most : ℕ) (ms : Members) → IsWithin most (children_in ms)
  children_within most no_members = within_ok most _
  children_within most (member name d ms) =
      within_either most (bytes_eq name (key_name key.Children)) (nodes_in d) (children_in ms) (nodes_within most d) (children_within most ms)

  nodes_within : (most : ℕ) (d : Data) → IsWithin most (nodes_in d)
  nodes_within most null = within_broken _ most _
  nodes_within most (boolean b) = within_broken _ most _
  nodes_within most (number n) = within_broken _ most _
  nodes_within most (string s) = within_broken _ most _
  nodes_within most (array ds) = each_node_within most ds
  nodes_within most (object ms) = within_broken _ most _

  each_node_within : (most : ℕ) (ds : Items) → IsWithin most (each_node ds)
  each_node_within most no_items = within_ok most _
  each_node_within most (item d ds) =
      within_on most (node_in d) _ (node_within most d)
      (λ node _. within_on most (each_node ds) _ (each_node_within most ds) (λ rest _. within_ok most _))

act_day_within : (most : ℕ) (work : List ℕ) (d : Data) → IsWithin most (act_day_in work d)
unfolding act_day_in
act_day_within most work d = search (placing, day_within) depth 40

language_within : (most : ℕ) (d : Data) → IsWithin most (language_in d)
unfolding language_in
language_within most d = search (placing, text_within) depth 40

numbering_within : (most : ℕ) (d : Data) → IsWithin most (numbering_in d)
unfolding numbering_in
numbering_within most d = search (placing, items_within, within_each, element_within) depth 40

node_limit_within : (most : ℕ) (d : Data) → IsWithin most (node_limit_in d)
unfolding node_limit_in
node_limit_within most d = search (placing, number_within) depth 40

act_within : (most : ℕ) (d : Data) → IsWithin most (act_in d)
unfolding act_in
act_within most d =
    search (placing, members_within, field_within, work_within, act_day_within, language_within, optional_within, numbering_within, node_limit_within, period_within, nodes_within) depth 80

each_within : (most place : ℕ) (ds : Items) → place + items_len ds ≤ suc most → IsWithin most (each_from place ds)
each_within most place no_items room = within_ok most _
each_within most place (item d ds) room =
    within_on most (inside place (modification_in d)) _ (within_inside most place (modification_in d) (omega (arith, room)))
    (λ m _. within_on most (each_from (place + 1) ds) _ (each_within most (place + 1) ds (omega (arith, room))) (λ rest _. within_ok most _))

mods_within : (most : ℕ) (d : Data) → width d ≤ most → IsWithin most (mods_in d)
unfolding mods_in
mods_within most d short =
    within_on most (items_in d) _ (items_within most d) (λ items is. each_within most 1 items (omega (arith, items-width d items most short is)))

dossier_within : (most : ℕ) (d : Data) → width d ≤ most → IsWithin most (dossier_in d)
unfolding dossier_in
dossier_within most d short =
    within_then most (members_in DOSSIER d) _ (members_within most DOSSIER d)
    (within_on most (field_in key.Act d) _ (field_within most key.Act d)
    (λ a _. within_on most (act_in a) _ (act_within most a)
    (λ act _. within_on most (field_in key.Modifications d) _ (field_within most key.Modifications d)
    (λ m is. within_on most (mods_in m) _ (mods_within most m (field-width key.Modifications d m most short is)) (λ mods _. within_ok most _)))))

command_kind_within : (most : ℕ) (d : Data) → IsWithin most (command_kind_in d)
unfolding command_kind_in
command_kind_within most d = search (placing, field_within, text_within) depth 40

command_keys_within : (most : ℕ) (k : CommandKind) (d : Data) → IsWithin most (command_keys_in k d)
command_keys_within most kind.Enact d = members_within most _ d
command_keys_within most kind.Record d = members_within most _ d
command_keys_within most kind.Correct d = members_within most _ d
command_keys_within most kind.Withdraw d = members_within most _ d
command_keys_within most kind.Restore d = members_within most _ d
command_keys_within most kind.DraftAdd d = members_within most _ d
command_keys_within most kind.DraftDrop d = members_within most _ d
command_keys_within most kind.File d = members_within most _ d

drafter_within : (most : ℕ) (d : Data) → IsWithin most (drafter_in d)
unfolding drafter_in
drafter_within most d = search (placing, field_within, text_within) depth 40

asked_work_within : (most : ℕ) (d : Data) → IsWithin most (asked_work_in d)
unfolding asked_work_in
asked_work_within most d = search (placing, field_within, work_within) depth 40

asked_id_within : (most : ℕ) (d : Data) → IsWithin most (asked_id_in d)
unfolding asked_id_in
asked_id_within most d = search (placing, field_within, id_within) depth 40

body_within : (most : ℕ) (d : Data) → 1 ≤ most → IsWithin most (body_in d)
unfolding body_in
body_within most d some =
    within_on most (field_in key.Modification d) _ (field_within most key.Modification d) (λ m _. within_inside most 1 (modification_in m) some)

count_within : (most : ℕ) (at : Key) (d : Data) → IsWithin most (count_in at d)
unfolding count_in
count_within most at d = search (placing, field_within, number_within) depth 40

record_within : (most : ℕ) (d : Data) → width d ≤ most → IsWithin most (record_in d)
unfolding record_in
record_within most d short =
    within_on most (asked_work_in d) _ (asked_work_within most d)
    (λ work _. within_on most (field_in key.Modifications d) _ (field_within most key.Modifications d)
    (λ m is. within_on most (mods_in m) _ (mods_within most m (field-width key.Modifications d m most short is)) (λ mods _. within_ok most _)))

command_within : (most : ℕ) (k : CommandKind) (d : Data) → 1 ≤ most → width d ≤ most → IsWithin most (command_in k d)
unfolding enact_in correct_in withdraw_in restore_in draft_add_in draft_drop_in file_in
command_within most kind.Enact d some short = search (placing, field_within, act_within) depth 40
command_within most kind.Record d some short = record_within most d short
command_within most kind.Correct d some short = search (placing, asked_id_within, body_within, some) depth 40
command_within most kind.Withdraw d some short = search (placing, asked_id_within) depth 40
command_within most kind.Restore d some short = search (placing, asked_id_within) depth 40
command_within most kind.DraftAdd d some short = search (placing, asked_work_within, body_within, some) depth 40
command_within most kind.DraftDrop d some short = search (placing, count_within) depth 40
command_within most kind.File d some short = search (placing, asked_work_within, count_within) depth 40

asked_within : (most : ℕ) (d : Data) → 1 ≤ most → width d ≤ most → IsWithin most (asked_in d)
unfolding asked_in
asked_within most d some short =
    within_on most (command_kind_in d) _ (command_kind_within most d)
    (λ k _. within_then most (command_keys_in k d) _ (command_keys_within most k d)
    (within_on most (drafter_in d) _ (drafter_within most d)
    (λ drafter _. within_on most (field_in key.Request d) _ (field_within most key.Request d)
    (λ r _. within_on most (number_in 18446744073709551615 r) _ (number_within most 18446744073709551615 r)
    (λ request _. within_on most (command_in k d) _ (command_within most k d some short) (λ command _. within_ok most _))))))

value_within : (most : ℕ) (bytes : List ℕ) → IsWithin most (value_of bytes)
value_within most bytes =
    within_then most (unless_broken (broken TooLong) (nat_le (length bytes) most_bytes)) (or_fault (broken NotJson) (json_of bytes)) (within_kept most _ _)
    (within_found most _ (json_of bytes))

placed : {A : Type 0} (r : Read A) (most : ℕ) → IsWithin most r → (fault : FormFault) → r ≡ Err fault → fault.place ≤ most
unfolding IsWithin
placed (Ok a) most is fault broken = cc
placed (Err other) most is fault broken = subst (λ (f : FormFault). f.place ≤ most) same is
  where
    same : other ≡ fault
    same = cc

pub dossier_placed : (bytes : List ℕ) (fault : FormFault) → dossier_of bytes ≡ Err fault → fault.place ≤ most_bytes
unfolding dossier_of
dossier_placed bytes fault broken =
    placed (value_of bytes >>= dossier_in) most_bytes
    (within_on most_bytes (value_of bytes) dossier_in (value_within most_bytes bytes) (λ d is. dossier_within most_bytes d (value-width bytes d is))) fault broken

pub asked_placed : (bytes : List ℕ) (fault : FormFault) → asked_of bytes ≡ Err fault → fault.place ≤ most_bytes
unfolding asked_of
asked_placed bytes fault broken =
    placed (value_of bytes >>= asked_in) most_bytes
    (within_on most_bytes (value_of bytes) asked_in (value_within most_bytes bytes) (λ d is. asked_within most_bytes d (omega arith) (value-width bytes d is))) fault broken
