-- What look-ups in the indexes tell, by what the marks stand for.
use Rattle.std.proofs.Common.{◌≡◌, ◌∙◌, ap, ℕ, ◌==◌, Bool, true, false, cond, ◌||◌, List, [], ◌∷◌, ◌++◌, length, filter, Option, Some, None, option_map, suc, refl}
use Rattle.std.specs.List.{list_any}
use Rattle.std.specs.Str.{bytes_eq}
use Rattle.law_register.specs.declared.law.act.Act.{Act}
use Rattle.law_register.specs.declared.register.draft.DraftItem.{DraftItem}
use Rattle.law_register.specs.declared.register.entry.Entry.{Entry}
use Rattle.law_register.specs.declared.register.indexes.EnactedMark.{EnactedMark}
use Rattle.law_register.specs.declared.register.indexes.ItemMark.{ItemMark}
use Rattle.law_register.specs.declared.register.verdict.Reply.{Reply}
use Rattle.law_register.specs.Register.Drafts.{items_of}
use Rattle.law_register.specs.Register.Indexes.{told_at, work_named, act_of, body_of, marks_work, ItemsStand, EnactedStands}
use Rattle.law_register.specs.Register.Concerns.{is_named}
use Rattle.law_register.specs.Register.Listing.{item_told, items_marked}
use Rattle.law_register.specs.declared.law.modification.Modification.{Modification}
use Rattle.law_register.specs.Register.Verdicts.{again, has_item}
use Rattle.law_register.specs.declared.law.command.Command.{Command}

-- a draft's marks are as many as its items, with their numbers and works
pub items_length : (es : List Entry) (ms : List ItemMark) (items : List DraftItem) → ItemsStand es ms items → length ms ≡ length items
items_length es [] [] h = refl
items_length es (m ∷ ms) (i ∷ items) h = ap suc (items_length es ms items h.3)
items_length es [] (i ∷ items) h = absurd h
items_length es (m ∷ ms) [] h = absurd h

pub items_any : (item : ℕ) (es : List Entry) (ms : List ItemMark) (items : List DraftItem) → ItemsStand es ms items → list_any (λ m. m.item == item) ms ≡ has_item item items
items_any item es [] [] h = refl
items_any item es (m ∷ ms) (i ∷ items) h =
    ap (λ n. (n == item) || list_any (λ k. k.item == item) ms) h.0 ∙ ap (λ b. (i.item == item) || b) (items_any item es ms items h.3)
items_any item es [] (i ∷ items) h = absurd h
items_any item es (m ∷ ms) [] h = absurd h

pub mark_works : (w : List ℕ) (es : List Entry) (m : ItemMark) (i : DraftItem) → told_at es m.entry work_named ≡ Some i.work → marks_work es w m ≡ bytes_eq i.work w
mark_works w es m i h = ap (is_named w) h

-- the marks that pass a test stand for the items that pass the same
pub items_filter : (p : ItemMark → Bool) (q : DraftItem → Bool) (es : List Entry) (ms : List ItemMark) (items : List DraftItem)
    → ((m : ItemMark) (i : DraftItem) → m.item ≡ i.item → told_at es m.entry work_named ≡ Some i.work → p m ≡ q i)
    → ItemsStand es ms items → ItemsStand es (filter p ms) (filter q items)
items_filter p q es [] [] agree h = h
items_filter p q es (m ∷ ms) (i ∷ items) agree h = by (p m) (q i) (agree m i h.0 h.1) (items_filter p q es ms items agree h.3)
  where
    by : (b c : Bool) → b ≡ c → ItemsStand es (filter p ms) (filter q items) → ItemsStand es (cond b (m ∷ filter p ms) (filter p ms)) (cond c (i ∷ filter q items) (filter q items))
    by true true e rest = (h.0, h.1, h.2, rest)
    by false false e rest = rest
    by true false e rest = absurd (let no : true ≡ false = e in cc)
    by false true e rest = absurd (let no : false ≡ true = e in cc)
items_filter p q es [] (i ∷ items) agree h = absurd h
items_filter p q es (m ∷ ms) [] agree h = absurd h

pub items_filed : (w : List ℕ) (es : List Entry) (ms : List ItemMark) (items : List DraftItem) → ItemsStand es ms items
    → ItemsStand es (filter (marks_work es w) ms) (items_of w items)
items_filed w es ms items h = items_filter (marks_work es w) (λ i. bytes_eq i.work w) es ms items (λ m i number work. mark_works w es m i work) h

pub items_counted : (w : List ℕ) (es : List Entry) (ms : List ItemMark) (items : List DraftItem) → ItemsStand es ms items
    → length (filter (marks_work es w) ms) ≡ length (items_of w items)
items_counted w es ms items h = items_length es (filter (marks_work es w) ms) (items_of w items) (items_filed w es ms items h)

-- what is said again, by the entry and the reply
pub found_again : (c : Command) (found : Option (Entry × Reply)) (e : Entry) (r : Reply)
    → Some e ≡ option_map (λ (p : Entry × Reply). p.0) found → Some r ≡ option_map (λ (p : Entry × Reply). p.1) found
    → Some (again c (e, r)) ≡ option_map (λ p. again c p) found
found_again c None e r is also = absurd (let no : Some e ≡ None = is in cc)
found_again c (Some p) e r is also =
    let entry : e ≡ p.0 = cc in
    let reply : r ≡ p.1 = cc in
    ap (λ x. Some (again c (x, r))) entry ∙ ap (λ x. Some (again c (p.0, x))) reply

-- the act of a work, by its mark
pub enacted_told : (es : List Entry) (m : EnactedMark) (found : Option (ℕ × Act)) → EnactedStands es (Some m) found
    → option_map (λ (a : Act). (m.number, a)) (told_at es m.entry act_of) ≡ found
enacted_told es m None h = absurd h
enacted_told es m (Some found) h =
    ap (option_map (λ (a : Act). (m.number, a))) h.1 ∙ ap (λ n. Some (n, found.1)) h.0

pub enacted_none : (es : List Entry) (found : Option (ℕ × Act)) → EnactedStands es None found → None ≡ found
enacted_none es None h = refl
enacted_none es (Some found) h = absurd h

-- the items of a draft, by their marks
pub items_are : (es : List Entry) (ms : List ItemMark) (items : List DraftItem) → ItemsStand es ms items → items_marked es ms ≡ items
items_are es [] [] h = refl
items_are es (m ∷ ms) (i ∷ items) h =
    ap (λ l. l ++ items_marked es ms) (one (told_at es m.entry work_named) (told_at es m.entry (body_of 0)) h.1 h.2)
    ∙ ap (λ n. record { item = n; work = i.work; body = i.body } ∷ items_marked es ms) h.0
    ∙ ap (λ l. i ∷ l) (items_are es ms items h.3)
  where
    one : (work : Option (List ℕ)) (body : Option Modification) → work ≡ Some i.work → body ≡ Some i.body
        → item_told m.item work body ≡ record { item = m.item; work = i.work; body = i.body } ∷ []
    one work body w b = ap (λ x. item_told m.item x body) w ∙ ap (λ x. item_told m.item (Some i.work) x) b
items_are es [] (i ∷ items) h = absurd h
items_are es (m ∷ ms) [] h = absurd h
