-- What a draft prints of a modification has one text.
use Rattle.std.proofs.Common.{◌≡◌, ◌≤◌, ◌<◌, ℕ, true, List, [], ◌∷◌, Option, Some, None, decimal, IsUtf8, refl, arith}
use Rattle.std.specs.Prelude.{All, IfSome, nat_le, ◌&&◌, length}
use Rattle.std.specs.List.{list_all}
use Rattle.std.proofs.lemmas.Bool.{and_parts, and_from, lt-ltb}
use Rattle.std.proofs.lemmas.Bool.Decides.{nat_tests}
use Rattle.std.proofs.lemmas.Fmt.{IsAscii-decimal}
use Rattle.std.proofs.lemmas.List.Elements.{All-head, All-tail}
use Rattle.std.proofs.lemmas.Str.{IsUtf8-append, IsUtf8-from_ascii, IsUtf8-from_is_utf8}
use Rattle.json.proofs.Printed.Utf8.{are_ascii, IsUtf8-are_ascii}
use Rattle.desk_base.specs.Ids.{id_text}
use Rattle.desk_base.specs.declared.id.Id.{Id}
use Rattle.desk_base.specs.declared.period.Period.{Period}
use Rattle.desk_base.proofs.Calendar.{text_ascii}
use Rattle.eid_paths.specs.Elements.{element_name}
use Rattle.eid_paths.specs.Nums.{is_num, is_num_byte}
use Rattle.eid_paths.specs.declared.element.Element.{Element}
use Rattle.eid_paths.specs.declared.element.Element.TheVariants as element
use Rattle.act_tree.specs.Branches.{Branch, Branches, branch, no_branches, more_branches, branches_of}
use Rattle.act_tree.specs.Provisions.{Own}
use Rattle.bearing_mods.specs.declared.efficacy.EfficacyEffect.{EfficacyEffect}
use Rattle.bearing_mods.specs.declared.efficacy.EfficacyEffect.TheVariants as made
use Rattle.bearing_mods.specs.declared.force.ForceEffect.{ForceEffect}
use Rattle.bearing_mods.specs.declared.force.ForceEffect.TheVariants as effect
use Rattle.textual_mods.specs.declared.edit.Pos.{Pos}
use Rattle.textual_mods.specs.declared.edit.Pos.TheVariants as pos
use Rattle.textual_mods.specs.declared.edit.SplitAt.TheVariants as cuts
use Rattle.textual_mods.specs.declared.edit.TextPos.TheVariants as stands
use Rattle.textual_mods.specs.declared.edit.TextualMod.{TextualMod}
use Rattle.textual_mods.specs.declared.edit.TextualMod.TheVariants.{Repeal, SubstituteNodes, SubstituteText, InsertNodes, InsertText, Renumber, Split, Join}
use Rattle.law_register.specs.declared.law.modification.Destination.{Destination}
use Rattle.law_register.specs.declared.law.modification.Destination.TheVariants as destination
use Rattle.law_register.specs.declared.law.modification.ModSource.{ModSource}
use Rattle.law_register.specs.declared.law.modification.Modification.{Modification}
use Rattle.law_register.specs.declared.law.modification.Modification.TheVariants.{Textual, Force, Efficacy}
use Rattle.law_register.specs.declared.register.draft.DraftItem.{DraftItem}
use Rattle.akn_json.specs.Printing.Answers.{texts_data}
use Rattle.akn_json.specs.Printing.Bearings.{destination_data, force_data, efficacy_data}
use Rattle.akn_json.specs.Printing.Drafts.{modification_data, draft_item_data, draft_items_data, draft_value}
use Rattle.akn_json.specs.Printing.Edits.{pos_word, anchor_data, pair_data, pairs_data, textual_data}
use Rattle.akn_json.specs.Printing.Nodes.{brought_data, all_brought_data, payload_data}
use Rattle.akn_json.specs.Printing.Parts.{period_data, source_data}
use Rattle.akn_json.specs.Printing.Refusals.{number_data}
use Rattle.akn_json.specs.Printing.Typed.{IsTypedText, IsTypedSource, IsTypedId, IsTypedDestination, IsTypedNode, AreTypedNodes, IsTypedPayload, IsTypedPair, IsTypedEdit, IsTypedEffect, IsTypedModification, IsTypedItem}
use Rattle.akn_json.proofs.ReadBack.Texts.{IsPlain, ArePlainItems}

text_plain : (text : List ℕ) → IsTypedText text → IsUtf8 text
text_plain text typed = IsUtf8-from_is_utf8 text typed

-- nums and the names of elements are ASCII
num_low : (b : ℕ) → is_num_byte b ≡ true → b < 128
num_low b is = grind (arith, nat_tests)

num_ascii : (bytes : List ℕ) → list_all is_num_byte bytes ≡ true → are_ascii bytes ≡ true
num_ascii [] are = refl
num_ascii (b ∷ bytes) are =
    let parts = and_parts (is_num_byte b) (list_all is_num_byte bytes) are in
    and_from _ _ (lt-ltb b 128 (num_low b parts.0)) (num_ascii bytes parts.1)

num_utf8 : (num : List ℕ) → is_num num ≡ true → IsUtf8 num
num_utf8 num is =
    IsUtf8-are_ascii num (num_ascii num (and_parts (nat_le 1 (length num) && nat_le (length num) 16) (list_all is_num_byte num) is).1)

element_utf8 : (e : Element) → IsUtf8 (element_name e)
element_utf8 element.Article = IsUtf8-are_ascii _ refl
element_utf8 element.Section = IsUtf8-are_ascii _ refl
element_utf8 element.Chapter = IsUtf8-are_ascii _ refl
element_utf8 element.Paragraph = IsUtf8-are_ascii _ refl
element_utf8 element.Subparagraph = IsUtf8-are_ascii _ refl
element_utf8 element.Subsection = IsUtf8-are_ascii _ refl
element_utf8 element.Clause = IsUtf8-are_ascii _ refl
element_utf8 element.Subclause = IsUtf8-are_ascii _ refl
element_utf8 element.Alinea = IsUtf8-are_ascii _ refl
element_utf8 element.Part = IsUtf8-are_ascii _ refl
element_utf8 element.Title = IsUtf8-are_ascii _ refl
element_utf8 element.Book = IsUtf8-are_ascii _ refl
element_utf8 element.Point = IsUtf8-are_ascii _ refl
element_utf8 element.Indent = IsUtf8-are_ascii _ refl

-- ids, sources, periods and what a modification is directed at
number_utf8 : (n : ℕ) → n ≤ 4294967295 → IsUtf8 (decimal n)
number_utf8 n few = IsUtf8-from_ascii (decimal n) (IsAscii-decimal n (omega (arith, few)))

id_utf8 : (id : Id) → IsTypedId id → IsUtf8 (id_text id)
id_utf8 id typed =
    let few = typed.1 in
    IsUtf8-append (decimal id.law) (46 ∷ decimal id.item) (number_utf8 id.law typed.0)
    (IsUtf8-append (46 ∷ []) (decimal id.item) (IsUtf8-are_ascii _ refl) (number_utf8 id.item (omega (arith, few))))

number_plain : (n : ℕ) → n ≤ 4294967295 → IsPlain (number_data n)
number_plain n few = omega (arith, few)

small_plain : (n : ℕ) → n ≤ 65535 → IsPlain (number_data n)
small_plain n few = omega (arith, few)

source_plain_of : (href : List ℕ) (place : ℕ) (provision : Option (List ℕ)) → IsTypedText href → place ≤ 65535 → IfSome provision IsTypedText
    → IsPlain (source_data (record { href = href; place = place; provision = provision }))
source_plain_of href place None work few named = (refl, (text_plain href work, (small_plain place few, tt)))
source_plain_of href place (Some wid) work few named = (refl, (text_plain href work, (small_plain place few, (text_plain wid named, tt))))

source_plain : (s : ModSource) → IsTypedSource s → IsPlain (source_data s)
source_plain s typed = source_plain_of s.href s.place s.provision typed.0.1 typed.1 typed.2

period_plain_of : (start : ℕ) (end : Option ℕ) → IsPlain (period_data (record { start = start; end = end }))
period_plain_of start None = (refl, (text_ascii start, tt))
period_plain_of start (Some day) = (refl, (text_ascii start, (text_ascii day, tt)))

period_plain : (p : Period) → IsPlain (period_data p)
period_plain p = period_plain_of p.start p.end

destination_plain : (to : Destination) → IsTypedDestination to → IsPlain (destination_data to)
destination_plain (destination.Modification id) typed = (refl, (id_utf8 id typed, tt))
destination_plain (destination.Node wid) typed = (refl, (text_plain wid typed, tt))

-- nodes
texts_plain : (texts : List (List ℕ)) → All IsTypedText texts → ArePlainItems (texts_data texts)
texts_plain [] are = tt
texts_plain (text ∷ texts) are =
    (text_plain text (All-head IsTypedText text texts are), texts_plain texts (All-tail IsTypedText text texts are))

mutual
  node_plain : (b : Branch Own) → IsTypedNode b → IsPlain (brought_data b)
  node_plain (branch own below) typed =
      let says = typed.0 in (
        refl,
        (
          nodes_plain below typed.1,
          (text_plain own.content says.2, (element_utf8 own.element, (text_plain own.heading says.1, (num_utf8 own.num says.0, (texts_plain own.refs says.3, tt))))),
        ),
      )

  nodes_plain : (bs : Branches Own) → AreTypedNodes bs → ArePlainItems (all_brought_data bs)
  nodes_plain no_branches typed = tt
  nodes_plain (more_branches b bs) typed = (node_plain b typed.0, nodes_plain bs typed.1)

payload_plain : (nodes : List (Branch Own)) → IsTypedPayload nodes → IsPlain (payload_data nodes)
payload_plain nodes typed = nodes_plain (branches_of nodes) typed

-- edits
anchor_plain : (wid : List ℕ) (at : Pos) → IsTypedText wid → IsPlain (anchor_data wid at)
anchor_plain wid pos.Before typed = (refl, (IsUtf8-are_ascii _ refl, (text_plain wid typed, tt)))
anchor_plain wid pos.After typed = (refl, (IsUtf8-are_ascii _ refl, (text_plain wid typed, tt)))
anchor_plain wid pos.Start typed = (refl, (IsUtf8-are_ascii _ refl, (text_plain wid typed, tt)))
anchor_plain wid pos.End typed = (refl, (IsUtf8-are_ascii _ refl, (text_plain wid typed, tt)))

pairs_plain : (pairs : List (List ℕ × List ℕ)) → All IsTypedPair pairs → ArePlainItems (pairs_data pairs)
pairs_plain [] are = tt
pairs_plain (pair ∷ pairs) are =
    let typed = All-head IsTypedPair pair pairs are in
    ((refl, (num_utf8 pair.1 typed.0, (text_plain pair.0 typed.1, tt))), pairs_plain pairs (All-tail IsTypedPair pair pairs are))

textual_plain : (source : ModSource) (force : Period) (edit : TextualMod) → IsTypedSource source → IsTypedEdit edit
    → IsPlain (textual_data source force edit)
unfolding textual_data
textual_plain source force (Repeal wid) from typed =
    (refl, ((refl, (text_plain wid typed, tt)), (period_plain force, (source_plain source from, (IsUtf8-are_ascii _ refl, tt)))))
textual_plain source force (SubstituteNodes wid new) from typed =
    (refl, ((refl, (text_plain wid typed.0, tt)), (period_plain force, (payload_plain new typed.1, (source_plain source from, (IsUtf8-are_ascii _ refl, tt))))))
textual_plain source force (SubstituteText wid spot new) from typed =
    let at = typed.1 in
    (refl, ((refl, (text_plain wid typed.0, tt)), (period_plain force, (text_plain new typed.2, (small_plain spot.occurrence at.0, (text_plain spot.old at.1, (source_plain source from, (IsUtf8-are_ascii _ refl, tt))))))))
textual_plain source force (InsertNodes wid at new) from typed =
    (refl, (anchor_plain wid at typed.0, (period_plain force, (payload_plain new typed.1, (source_plain source from, (IsUtf8-are_ascii _ refl, tt))))))
textual_plain source force (InsertText wid stands.Start new) from typed =
    (refl, (anchor_plain wid pos.Start typed.0, (period_plain force, (text_plain new typed.2, (source_plain source from, (IsUtf8-are_ascii _ refl, tt))))))
textual_plain source force (InsertText wid stands.End new) from typed =
    (refl, (anchor_plain wid pos.End typed.0, (period_plain force, (text_plain new typed.2, (source_plain source from, (IsUtf8-are_ascii _ refl, tt))))))
textual_plain source force (InsertText wid (stands.Before spot) new) from typed =
    let at = typed.1 in
    (refl, (anchor_plain wid pos.Before typed.0, (period_plain force, (text_plain new typed.2, (small_plain spot.occurrence at.0, (text_plain spot.old at.1, (source_plain source from, (IsUtf8-are_ascii _ refl, tt))))))))
textual_plain source force (InsertText wid (stands.After spot) new) from typed =
    let at = typed.1 in
    (refl, (anchor_plain wid pos.After typed.0, (period_plain force, (text_plain new typed.2, (small_plain spot.occurrence at.0, (text_plain spot.old at.1, (source_plain source from, (IsUtf8-are_ascii _ refl, tt))))))))
textual_plain source force (Renumber pairs) from typed =
    (refl, (period_plain force, (pairs_plain pairs typed, (source_plain source from, (IsUtf8-are_ascii _ refl, tt)))))
textual_plain source force (Split wid (cuts.Text spot) num heading) from typed =
    let at = typed.1 in
    (refl, ((refl, (text_plain wid typed.0, tt)), (period_plain force, (text_plain heading typed.3, (num_utf8 num typed.2, (small_plain spot.occurrence at.0, (text_plain spot.old at.1, (source_plain source from, (IsUtf8-are_ascii _ refl, tt)))))))))
textual_plain source force (Split wid (cuts.Child child) num heading) from typed =
    (refl, (text_plain child typed.1, ((refl, (text_plain wid typed.0, tt)), (period_plain force, (text_plain heading typed.3, (num_utf8 num typed.2, (source_plain source from, (IsUtf8-are_ascii _ refl, tt))))))))
textual_plain source force (Join wid second separator) from typed =
    (refl, ((refl, (text_plain wid typed.0, tt)), (period_plain force, (text_plain second typed.1, (text_plain separator typed.2, (source_plain source from, (IsUtf8-are_ascii _ refl, tt)))))))

-- modifications of force and of efficacy
force_plain : (source : ModSource) (to : Destination) (on : ℕ) (e : ForceEffect) → IsTypedSource source → IsTypedDestination to
    → IsPlain (force_data source to on e)
force_plain source to on (effect.Entry date) from at =
    (refl, (text_ascii date, (destination_plain to at, (text_ascii on, (source_plain source from, (IsUtf8-are_ascii _ refl, tt))))))
force_plain source to on (effect.Postponed date) from at =
    (refl, (text_ascii date, (destination_plain to at, (text_ascii on, (source_plain source from, (IsUtf8-are_ascii _ refl, tt))))))
force_plain source to on (effect.Ended date) from at =
    (refl, (text_ascii date, (destination_plain to at, (text_ascii on, (source_plain source from, (IsUtf8-are_ascii _ refl, tt))))))
force_plain source to on (effect.Prorogued date) from at =
    (refl, (text_ascii date, (destination_plain to at, (text_ascii on, (source_plain source from, (IsUtf8-are_ascii _ refl, tt))))))
force_plain source to on (effect.ReEnacted date) from at =
    (refl, (text_ascii date, (destination_plain to at, (text_ascii on, (source_plain source from, (IsUtf8-are_ascii _ refl, tt))))))

efficacy_plain : (source : ModSource) (to : Destination) (on : ℕ) (e : EfficacyEffect) → IsTypedSource source → IsTypedDestination to
    → IsPlain (efficacy_data source to on e)
efficacy_plain source to on (made.Entry date) from at =
    (refl, (text_ascii date, (destination_plain to at, (text_ascii on, (source_plain source from, (IsUtf8-are_ascii _ refl, tt))))))
efficacy_plain source to on (made.Ended date) from at =
    (refl, (text_ascii date, (destination_plain to at, (text_ascii on, (source_plain source from, (IsUtf8-are_ascii _ refl, tt))))))
efficacy_plain source to on (made.Retroactive date) from at =
    (refl, (text_ascii date, (destination_plain to at, (source_plain source from, (IsUtf8-are_ascii _ refl, tt)))))
efficacy_plain source to on (made.Postponed date) from at =
    (refl, (text_ascii date, (destination_plain to at, (text_ascii on, (source_plain source from, (IsUtf8-are_ascii _ refl, tt))))))
efficacy_plain source to on (made.Prorogued date) from at =
    (refl, (text_ascii date, (destination_plain to at, (text_ascii on, (source_plain source from, (IsUtf8-are_ascii _ refl, tt))))))
efficacy_plain source to on made.Extra from at =
    (refl, (destination_plain to at, (text_ascii on, (source_plain source from, (IsUtf8-are_ascii _ refl, tt)))))
efficacy_plain source to on (made.Inapplied days) from at =
    (refl, (period_plain days, (destination_plain to at, (text_ascii on, (source_plain source from, (IsUtf8-are_ascii _ refl, tt))))))

-- a modification, and the items of a draft
pub modification_plain : (m : Modification) → IsTypedModification m → IsPlain (modification_data m)
unfolding modification_data
modification_plain (Textual source force edit) typed = (refl, (textual_plain source force edit typed.0 typed.2, tt))
modification_plain (Force source to on e) typed = (refl, (force_plain source to on e typed.0 typed.1, tt))
modification_plain (Efficacy source to on e) typed = (refl, (efficacy_plain source to on e typed.0 typed.1, tt))

items_plain : (items : List DraftItem) → All IsTypedItem items → ArePlainItems (draft_items_data items)
items_plain [] are = tt
items_plain (i ∷ items) are =
    let typed = All-head IsTypedItem i items are in (
      (refl, (number_plain i.item typed.0, (modification_plain i.body typed.2, (text_plain i.work typed.1.1, tt)))),
      items_plain items (All-tail IsTypedItem i items are),
    )

pub draft_plain : (items : List DraftItem) → All IsTypedItem items → IsPlain (draft_value items)
draft_plain items are = (refl, (items_plain items are, tt))
