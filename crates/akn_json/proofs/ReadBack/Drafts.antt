-- A draft, as it is printed, is read as that draft.
use Rattle.std.proofs.Common.{◌≡◌, ◌∙◌, true, List, [], ◌∷◌, Ok, refl, ap, arith}
use Rattle.std.specs.Prelude.{All}
use Rattle.std.proofs.lemmas.Bool.{and_parts}
use Rattle.std.proofs.lemmas.List.Elements.{All-head, All-tail}
use Rattle.serde_json.specs.Data.{Data}
use Rattle.serde_json.specs.Written.{compact_text}
use Rattle.law_register.specs.Law.Spellable.{can_spell_modification}
use Rattle.law_register.specs.Law.Spelling.{is_spelled_modification}
use Rattle.law_register.specs.declared.law.modification.Modification.{Modification}
use Rattle.law_register.specs.declared.register.draft.DraftItem.{DraftItem}
use Rattle.akn_json.specs.Printing.Drafts.{modification_data, draft_item_data, draft_items_data, draft_value}
use Rattle.akn_json.specs.Printing.Typed.{IsTypedModification, IsTypedItem}
use Rattle.akn_json.specs.Reading.Reads.{Read, ◌>>=◌}
use Rattle.akn_json.specs.Reading.Fields.{field_in, items_in, each}
use Rattle.akn_json.specs.Reading.Drafts.{draft_item_in, draft_in, draft_told, modification_told, are_spelled_items, can_spell_items}
use Rattle.akn_json.specs.Reading.Modifications.{modification_in}
use Rattle.akn_json.proofs.Forms.{json_of-read}
use Rattle.akn_json.proofs.ReadBack.Leaves.{number_back, work_back}
use Rattle.akn_json.proofs.ReadBack.Modifications.{modification_back}
use Rattle.akn_json.proofs.ReadBack.Texts.{text_utf8, text_read}
use Rattle.akn_json.proofs.ReadBack.Plain.{modification_plain, draft_plain}
use Rattle.akn_json.proofs.ReadBack.Depths.{modification_low, draft_low}

-- the text of a modification
pub modification_text_back : (m : Modification) → IsTypedModification m → is_spelled_modification m ≡ true → can_spell_modification m ≡ true
    → modification_told (compact_text (modification_data m)) ≡ Ok m
modification_text_back m typed well able =
    let plain = modification_plain m typed in
    let value = json_of-read (compact_text (modification_data m)) (modification_data m) (text_utf8 (modification_data m) plain)
    (text_read (modification_data m) plain (omega (arith, modification_low m able))) in
    ap (λ (r : Read Data). r >>= λ (d : Data). modification_in d) value ∙ modification_back m typed well

item_back : (i : DraftItem) → IsTypedItem i → is_spelled_modification i.body ≡ true → draft_item_in (draft_item_data i) ≡ Ok i
unfolding draft_item_in field_in
item_back i typed well =
    rw (number_back 4294967295 i.item typed.0, work_back i.work typed.1.0, modification_back i.body typed.2 well) refl

items_back : (items : List DraftItem) → All IsTypedItem items → are_spelled_items items ≡ true
    → each draft_item_in (draft_items_data items) ≡ Ok items
items_back [] typed well = refl
items_back (i ∷ items) typed well =
    let parts = and_parts (is_spelled_modification i.body) (are_spelled_items items) well in
    rw (item_back i (All-head IsTypedItem i items typed) parts.0, items_back items (All-tail IsTypedItem i items typed) parts.1) refl

value_back : (items : List DraftItem) → All IsTypedItem items → are_spelled_items items ≡ true
    → draft_in (draft_value items) ≡ Ok items
unfolding draft_in items_in
value_back items typed well = items_back items typed well

pub draft_back : (items : List DraftItem) → All IsTypedItem items → are_spelled_items items ≡ true
    → can_spell_items items ≡ true → draft_told (compact_text (draft_value items)) ≡ Ok items
draft_back items typed well able =
    let plain = draft_plain items typed in
    let value = json_of-read (compact_text (draft_value items)) (draft_value items) (text_utf8 (draft_value items) plain)
    (text_read (draft_value items) plain (omega (arith, draft_low items able))) in
    ap (λ (r : Read Data). r >>= λ (d : Data). draft_in d) value ∙ value_back items typed well
