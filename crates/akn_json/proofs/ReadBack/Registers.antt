-- What the drafts of a register hold is well spelled and can be spelled, since its entries are and can.
use Rattle.std.proofs.Common.{◌≡◌, ◌∙◌, ℕ, ◌+◌, ◌==◌, Bool, true, false, not, ◌&&◌, List, [], ◌∷◌, ◌++◌, if◌then◌else◌, refl, ap}
use Rattle.std.specs.Prelude.{filter, nat_lt, unwrap_or}
use Rattle.std.specs.List.{list_all}
use Rattle.std.specs.Str.{bytes_eq}
use Rattle.std.proofs.lemmas.Bool.{and_parts, and_from}
use Rattle.law_register.specs.Law.Spellable.{can_spell_modification, can_spell_command, can_be_spelled, can_all_be_spelled}
use Rattle.law_register.specs.Law.Spelling.{is_spelled_modification, is_well_spelled}
use Rattle.law_register.specs.Register.Drafts.{is_by, additions, items_but, redrafted, drafted_from, draft_of}
use Rattle.law_register.specs.Register.Registers.{are_well_spelled}
use Rattle.law_register.specs.declared.law.command.Command.{Command}
use Rattle.law_register.specs.declared.law.command.Command.TheVariants.{Enact, Record, Correct, Withdraw, Restore, DraftAdd, DraftDrop, File}
use Rattle.law_register.specs.declared.law.modification.Modification.{Modification}
use Rattle.law_register.specs.declared.register.draft.DraftItem.{DraftItem}
use Rattle.law_register.specs.declared.register.entry.Entry.{Entry}
use Rattle.akn_json.specs.Reading.Drafts.{are_spelled_items, can_spell_items}

module _ (test : Modification → Bool) where
  abbrev pub holds : List DraftItem → Bool
  holds items = list_all (λ i. test i.body) items

  holds_last : (items : List DraftItem) (i : DraftItem) → holds items ≡ true → test i.body ≡ true → holds (items ++ i ∷ []) ≡ true
  holds_last [] i all last = rw last refl
  holds_last (j ∷ items) i all last =
      let parts = and_parts (test j.body) (holds items) all in
      and_from _ _ parts.0 (holds_last items i parts.1 last)

  holds_kept : (keep : DraftItem → Bool) (items : List DraftItem) → holds items ≡ true → holds (filter keep items) ≡ true
  holds_kept keep [] all = refl
  holds_kept keep (i ∷ items) all =
      let parts = and_parts (test i.body) (holds items) all in
      by (keep i) parts.0 (holds_kept keep items parts.1)
    where
      by : (k : Bool) → test i.body ≡ true → holds (filter keep items) ≡ true → holds (if k then i ∷ filter keep items else filter keep items) ≡ true
      by true one rest = and_from _ _ one rest
      by false one rest = rest

  -- what a command brings to a draft
  abbrev brings : Command → Bool
  brings (DraftAdd work body) = test body
  brings _ = true

  holds_redrafted : (number : ℕ) (c : Command) (items : List DraftItem) → brings c ≡ true → holds items ≡ true → holds (redrafted number c items) ≡ true
  holds_redrafted number (DraftAdd work body) items new all = holds_last items (record { item = number; work = work; body = body }) all new
  holds_redrafted number (DraftDrop item) items new all = holds_kept (λ i. not (i.item == item)) items all
  holds_redrafted number (File work seen) items new all = holds_kept (λ i. not (bytes_eq i.work work)) items all
  holds_redrafted number (Enact act) items new all = all
  holds_redrafted number (Record work mods) items new all = all
  holds_redrafted number (Correct id body) items new all = all
  holds_redrafted number (Withdraw id) items new all = all
  holds_redrafted number (Restore id) items new all = all

  abbrev pub all_bring : List Entry → Bool
  all_bring entries = list_all (λ e. brings e.command) entries

  pub holds_drafted : (drafter : List ℕ) (count : ℕ) (items : List DraftItem) (entries : List Entry) → all_bring entries ≡ true → holds items ≡ true
      → holds (drafted_from drafter count items entries) ≡ true
  holds_drafted drafter count items [] bring all = all
  holds_drafted drafter count items (e ∷ entries) bring all =
      let parts = and_parts (brings e.command) (all_bring entries) bring in
      by (is_by drafter e) (holds_drafted drafter (count + additions e.command) (redrafted (count + 1) e.command items) entries parts.1
      (holds_redrafted (count + 1) e.command items parts.0 all))
      (holds_drafted drafter count items entries parts.1 all)
    where
      by : (own : Bool) → holds (drafted_from drafter (count + additions e.command) (redrafted (count + 1) e.command items) entries) ≡ true
          → holds (drafted_from drafter count items entries) ≡ true
          → holds (if own then drafted_from drafter (count + additions e.command) (redrafted (count + 1) e.command items) entries
          else drafted_from drafter count items entries) ≡ true
      by true own other = own
      by false own other = other

-- an entry of a register brings what is well spelled
spelled_brings : (c : Command) → is_well_spelled c ≡ true → brings is_spelled_modification c ≡ true
unfolding is_well_spelled
spelled_brings (DraftAdd work body) well = well
spelled_brings (Enact act) well = refl
spelled_brings (Record work mods) well = refl
spelled_brings (Correct id body) well = refl
spelled_brings (Withdraw id) well = refl
spelled_brings (Restore id) well = refl
spelled_brings (DraftDrop item) well = refl
spelled_brings (File work seen) well = refl

able_brings : (c : Command) → can_spell_command c ≡ true → brings can_spell_modification c ≡ true
able_brings (DraftAdd work body) able = able
able_brings (Enact act) able = refl
able_brings (Record work mods) able = refl
able_brings (Correct id body) able = refl
able_brings (Withdraw id) able = refl
able_brings (Restore id) able = refl
able_brings (DraftDrop item) able = refl
able_brings (File work seen) able = refl

entries_bring : (entries : List Entry) → are_well_spelled entries ≡ true → all_bring is_spelled_modification entries ≡ true
entries_bring [] well = refl
entries_bring (e ∷ entries) well =
    let parts = and_parts (is_well_spelled e.command) (are_well_spelled entries) well in
    and_from _ _ (spelled_brings e.command parts.0) (entries_bring entries parts.1)

entries_able : (entries : List Entry) → can_all_be_spelled entries ≡ true → all_bring can_spell_modification entries ≡ true
unfolding can_be_spelled
entries_able [] able = refl
entries_able (e ∷ entries) able =
    let parts = and_parts (nat_lt 0 (unwrap_or e.law 1) && can_spell_command e.command) (can_all_be_spelled entries) able in
    and_from _ _ (able_brings e.command (and_parts (nat_lt 0 (unwrap_or e.law 1)) (can_spell_command e.command) parts.0).1) (entries_able entries parts.1)

pub draft_spelled : (drafter : List ℕ) (entries : List Entry) → are_well_spelled entries ≡ true
    → are_spelled_items (draft_of drafter entries) ≡ true
draft_spelled drafter entries well = holds_drafted is_spelled_modification drafter 0 [] entries (entries_bring entries well) refl

pub draft_able : (drafter : List ℕ) (entries : List Entry) → can_all_be_spelled entries ≡ true
    → can_spell_items (draft_of drafter entries) ≡ true
draft_able drafter entries able = holds_drafted can_spell_modification drafter 0 [] entries (entries_able entries able) refl
