-- An entry that can be spelled and is well spelled keeps the rules of the format, for what its types promise.
use Rattle.std.proofs.Common.{◌≡◌, ℕ, zero, suc, ◌+◌, ◌≤◌, ◌<◌, ◌==◌, ◌^◌, ◌/◌, ◌%◌, Bool, true, false, not, ◌&&◌, ◌||◌, List, [], ◌∷◌, length, min, Option, Some, None, refl, sym, ap, ◌∙◌, arith}
use Rattle.std.specs.Prelude.{All, IfSome, nat_lt, nat_le, slice_index, is_some, unwrap_or, if◌then◌else◌}
use Rattle.std.specs.Int.{byte_at, bytes_high_first}
use Rattle.std.specs.List.{list_all, list_any}
use Rattle.std.proofs.lemmas.Bool.{and_parts, and_from, leb-true, le-leb, lt-ltb, eq-eqb}
use Rattle.std.proofs.lemmas.Bool.Decides.{nat_tests}
use Rattle.std.proofs.lemmas.List.Elements.{All-head, All-tail}
use Rattle.std.proofs.lemmas.Str.{is_utf8-from_IsUtf8, IsUtf8-from_ascii}
use Rattle.desk_base.specs.Days.{IsDay}
use Rattle.desk_base.specs.declared.id.Id.{Id}
use Rattle.desk_base.specs.declared.period.Period.{Period}
use Rattle.eid_paths.specs.Nums.{is_num_byte}
use Rattle.eid_paths.specs.declared.element.Element.{Element}
use Rattle.eid_paths.specs.declared.element.Element.TheVariants as element_is
use Rattle.eid_paths.specs.Elements.{is_throughout}
use Rattle.eid_paths.specs.declared.numbering.Numbering.{Numbering}
use Rattle.frbr_names.specs.Expressions.{is_expression, is_language}
use Rattle.frbr_names.specs.Rules.{is_portion, is_portion_byte}
use Rattle.frbr_names.specs.Works.{date_named}
use Rattle.act_tree.specs.Branches.{Branch, Branches, branch, no_branches, more_branches, branches_of, listed, heights, listed-branches_of}
use Rattle.act_tree.specs.Provisions.{Own}
use Rattle.act_tree.specs.declared.limits.NodeLimit.{NodeLimit}
use Rattle.act_tree.specs.declared.limits.NodeLimit.TheVariants.{Plain, Wide}
use Rattle.bearing_mods.specs.declared.efficacy.EfficacyEffect.{EfficacyEffect}
use Rattle.bearing_mods.specs.declared.efficacy.EfficacyEffect.TheVariants as efficacy
use Rattle.bearing_mods.specs.declared.force.ForceEffect.{ForceEffect}
use Rattle.bearing_mods.specs.declared.force.ForceEffect.TheVariants as force
use Rattle.textual_mods.specs.declared.edit.Pos.{Pos}
use Rattle.textual_mods.specs.declared.edit.Pos.TheVariants as places
use Rattle.textual_mods.specs.declared.edit.SplitAt.{SplitAt}
use Rattle.textual_mods.specs.declared.edit.SplitAt.TheVariants as cuts
use Rattle.textual_mods.specs.declared.edit.Spot.{Spot}
use Rattle.textual_mods.specs.declared.edit.TextPos.{TextPos}
use Rattle.textual_mods.specs.declared.edit.TextPos.TheVariants as stands
use Rattle.textual_mods.specs.declared.edit.TextualMod.{TextualMod}
use Rattle.textual_mods.specs.declared.edit.TextualMod.TheVariants.{Repeal, SubstituteNodes, SubstituteText, InsertNodes, InsertText, Renumber, Split, Join}
use Rattle.law_register.specs.declared.law.act.Act.{Act}
use Rattle.law_register.specs.declared.law.command.Command.{Command}
use Rattle.law_register.specs.declared.law.command.Command.TheVariants.{Enact, Record, Correct, Withdraw, Restore, DraftAdd, DraftDrop, File}
use Rattle.law_register.specs.declared.law.format.EntryFormat.{EntryFormat}
use Rattle.law_register.specs.declared.law.format.EntryFormat.TheVariants as formats_of
use Rattle.law_register.specs.declared.law.modification.Destination.{Destination}
use Rattle.law_register.specs.declared.law.modification.Destination.TheVariants as to
use Rattle.law_register.specs.declared.law.modification.ModSource.{ModSource}
use Rattle.law_register.specs.declared.law.modification.Modification.{Modification}
use Rattle.law_register.specs.declared.law.modification.Modification.TheVariants as mods
use Rattle.law_register.specs.declared.register.entry.Entry.{Entry}
use Rattle.law_register.specs.Law.Formats.{is_wide, asks_second, format_of}
use Rattle.law_register.specs.Law.Sources.{names_provision}
use Rattle.law_register.specs.Law.Spellable.{is_counted, can_spell_own, can_spell_nodes, can_spell_payload, can_spell_text_pos, can_spell_split_at, can_spell_edit, can_spell_destination, can_spell_modification, can_spell_command, can_be_spelled}
use Rattle.law_register.specs.Law.Spelling.{are_spelled_nodes, is_spelled_payload, is_spelled_edit, is_spelled_effect, is_spelled_provision, is_spelled_source, is_spelled_modification, are_spelled_modifications, is_spelled_day, is_spelled_act, is_well_spelled}
use Rattle.law_register.specs.Register.Drafters.{is_drafter_byte}
use Rattle.entry_codec.specs.Fields.{Field}
use Rattle.entry_codec.specs.Values.{number16, number32, number64, text_of, text, text_where, num, drafter, work, expression, list_of, refs, is_day, day, day_or_none, law, period, id, language, act_day, bit_of, numbering_number, numbering, destination, spot}
use Rattle.entry_codec.specs.Nodes.{element, own, nodes, node, payload}
use Rattle.entry_codec.specs.Acts.{act, act_rest}
use Rattle.entry_codec.specs.Formats.{limit, is_empty_or_portion, provision, format_in}
use Rattle.entry_codec.specs.Modifications.{pos, text_pos, split_at, num_pair, num_pairs, edit, force_effect, efficacy_effect, source, modification, modifications}
use Rattle.entry_codec.specs.Commands.{command}
use Rattle.entry_codec.specs.Entries.{fields, keeps_rules}
use Rattle.entry_codec.specs.Typed.{IsNumber16, IsNumber32, IsNumber64, IsText, IsDrafterName, IsNumText, IsWorkText, IsLanguageBytes, IsPeriod, IsId, IsNumbering, IsSource, IsDestination, IsSpot, IsOwn, AreNodes, IsPayload, IsTextPos, IsSplitAt, IsNumPair, IsEdit, IsForceEffect, IsEfficacyEffect, IsModification, IsAct, IsCommand, IsTyped}
use Rattle.entry_codec.proofs.Exact.{AreBytes}
use Rattle.entry_codec.proofs.Standing.{standing_fits}

-- the parts of what holds
first : (x y : Bool) → (x && y) ≡ true → x ≡ true
first x y e = (and_parts x y e).0

second : (x y : Bool) → (x && y) ≡ true → y ≡ true
second x y e = (and_parts x y e).1

-- numbers
byte_small : (k n : ℕ) → byte_at k n < 256
byte_small zero n = omega arith
byte_small (suc k) n = small_rest (n / 256 ^ suc k)
  where
    small_rest : (m : ℕ) → m % 256 < 256
    small_rest m = omega arith

high_bytes : (k n : ℕ) → AreBytes (bytes_high_first k n)
high_bytes zero n = refl
high_bytes (suc k) n = and_from _ _ (lt-ltb _ _ (byte_small k n)) (high_bytes k n)

number16_kept : (n : ℕ) → IsNumber16 n → number16.fits n ≡ true
unfolding number16
number16_kept n few = and_from _ _ (lt-ltb n 65536 (omega (arith, few))) (high_bytes 2 n)

number32_kept : (n : ℕ) → IsNumber32 n → number32.fits n ≡ true
unfolding number32
number32_kept n few = and_from _ _ (lt-ltb n 4294967296 (omega (arith, few))) (high_bytes 4 n)

number64_kept : (n : ℕ) → IsNumber64 n → number64.fits n ≡ true
unfolding number64
number64_kept n few = and_from _ _ (lt-ltb n 18446744073709551616 (omega (arith, few))) (high_bytes 8 n)

-- texts
counted_is : {X : Type 0} (xs : List X) (most : ℕ) → length xs ≤ most → length xs ≡ min (length xs) most
counted_is xs most few = omega (arith, few)

few_of : {X : Type 0} (xs : List X) → is_counted xs ≡ true → length xs ≤ 65535
few_of xs counted = leb-true (length xs) 65535 counted

text_of_kept : (n : ℕ) (t : List ℕ) → length t ≡ n → IsText t → (text_of n).fits t ≡ true
unfolding text_of
text_of_kept n t same typed = and_from _ _ typed.utf8 (and_from _ _ (eq-eqb _ _ same) typed.bytes)

count_kept : {X : Type 0} (xs : List X) → number16.fits (min (length xs) 65535) ≡ true
count_kept xs = number16_kept (min (length xs) 65535) (omega arith)

text_kept : (t : List ℕ) → IsText t → is_counted t ≡ true → text.fits t ≡ true
unfolding text
text_kept t typed counted =
    and_from _ _ (count_kept t) (text_of_kept _ t (counted_is t 65535 (few_of t counted)) typed)

work_kept : (t : List ℕ) → IsWorkText t → work.fits t ≡ true
unfolding work
work_kept t typed =
    let short = typed.short in
    and_from _ _ (count_kept t)
    (and_from _ _ typed.rule (text_of_kept _ t (counted_is t 65535 (omega (arith, short))) typed.text))

text_where_kept : (rule : List ℕ → Bool) (t : List ℕ) → IsText t → is_counted t ≡ true → rule t ≡ true → (text_where rule).fits t ≡ true
text_where_kept rule t typed counted kept =
    and_from _ _ (count_kept t)
    (and_from _ _ kept (text_of_kept _ t (counted_is t 65535 (few_of t counted)) typed))

expression_kept : (t : List ℕ) → IsText t → is_counted t ≡ true → is_expression t ≡ true → expression.fits t ≡ true
unfolding expression
expression_kept t typed counted rule = text_where_kept is_expression t typed counted rule

-- names and nums have ASCII alone
ascii_text : (t : List ℕ) (p : ℕ → Bool) → ((b : ℕ) → p b ≡ true → b < 128) → list_all p t ≡ true → IsText t
ascii_text t p low all = record {
  utf8 = is_utf8-from_IsUtf8 t (IsUtf8-from_ascii t (λ i. lower t all i));
  bytes = bytes t all;
}
  where
    lower : (xs : List ℕ) → list_all p xs ≡ true → (i : ℕ) → slice_index xs i < 128
    lower [] all i = omega arith
    lower (x ∷ xs) all zero = low x (first (p x) (list_all p xs) all)
    lower (x ∷ xs) all (suc i) = lower xs (second (p x) (list_all p xs) all) i

    bytes : (xs : List ℕ) → list_all p xs ≡ true → AreBytes xs
    bytes [] all = refl
    bytes (x ∷ xs) all =
        let below = low x (first (p x) (list_all p xs) all) in
        and_from _ _ (lt-ltb x 256 (omega (arith, below))) (bytes xs (second (p x) (list_all p xs) all))

num_low : (b : ℕ) → is_num_byte b ≡ true → b < 128
num_low b is = grind (arith, nat_tests)

drafter_low : (b : ℕ) → is_drafter_byte b ≡ true → b < 128
drafter_low b is = grind (arith, nat_tests)

num_kept : (t : List ℕ) → IsNumText t → num.fits t ≡ true
unfolding num
num_kept t rule =
    let sizes = first (nat_le 1 (length t) && nat_le (length t) 16) (list_all is_num_byte t) rule in
    let short = leb-true (length t) 16 (second (nat_le 1 (length t)) (nat_le (length t) 16) sizes) in
    let typed = ascii_text t is_num_byte num_low (second (nat_le 1 (length t) && nat_le (length t) 16) (list_all is_num_byte t) rule) in
    and_from _ _ (lt-ltb (min (length t) 255) 256 (omega arith))
    (and_from _ _ rule (text_of_kept _ t (counted_is t 255 (omega (arith, short))) typed))

drafter_kept : (t : List ℕ) → IsDrafterName t → drafter.fits t ≡ true
unfolding drafter
drafter_kept t rule =
    let rest = second (nat_lt 0 (length t)) (nat_le (length t) 32 && list_all is_drafter_byte t) rule in
    let short = leb-true (length t) 32 (first (nat_le (length t) 32) (list_all is_drafter_byte t) rest) in
    let typed = ascii_text t is_drafter_byte drafter_low (second (nat_le (length t) 32) (list_all is_drafter_byte t) rest) in
    and_from _ _ (lt-ltb (min (length t) 255) 256 (omega arith))
    (and_from _ _ rule (text_of_kept _ t (counted_is t 255 (omega (arith, short))) typed))

-- lists
list_kept : {V : Type 0} (f : Field V) (vs : List V) → is_counted vs ≡ true → list_all f.fits vs ≡ true → (list_of f).fits vs ≡ true
list_kept f vs counted all =
    and_from _ _ (count_kept vs) (and_from _ _ (eq-eqb _ _ (counted_is vs 65535 (few_of vs counted))) all)

all_kept : {V : Type 0} (P : V → Type 0) (able well fits : V → Bool) → ((v : V) → P v → able v ≡ true → well v ≡ true → fits v ≡ true)
    → (vs : List V) → All P vs → list_all able vs ≡ true → list_all well vs ≡ true → list_all fits vs ≡ true
all_kept P able well fits each [] all ables wells = refl
all_kept P able well fits each (v ∷ vs) all ables wells =
    and_from _ _
    (each v (All-head P v vs all) (first (able v) (list_all able vs) ables) (first (well v) (list_all well vs) wells))
    (all_kept P able well fits each vs (All-tail P v vs all) (second (able v) (list_all able vs) ables) (second (well v) (list_all well vs) wells))

refs_kept : (ts : List (List ℕ)) → All IsText ts → (is_counted ts && list_all is_counted ts) ≡ true → list_all is_expression ts ≡ true
    → refs.fits ts ≡ true
unfolding refs
refs_kept ts typed able well =
    list_kept expression ts (first (is_counted ts) (list_all is_counted ts) able)
    (all_kept IsText is_counted is_expression expression.fits expression_kept ts typed (second (is_counted ts) (list_all is_counted ts) able) well)

-- days, ids and numberings
day_rule : (d : ℕ) → IsDay d → is_day d ≡ true
day_rule d is = and_from _ _ (le-leb 1 d is.0) (le-leb d 3652059 is.1)

day_number : (d : ℕ) → IsDay d → number32.fits d ≡ true
day_number d is = let most = is.1 in number32_kept d (omega (arith, most))

day_kept : (d : ℕ) → IsDay d → day.fits d ≡ true
unfolding day
day_kept d is = and_from _ _ (day_rule d is) (day_number d is)

or_right : (x y : Bool) → y ≡ true → (x || y) ≡ true
or_right true y e = refl
or_right false y e = e

day_or_none_kept : (o : Option ℕ) → IfSome o IsDay → day_or_none.fits o ≡ true
unfolding day_or_none
day_or_none_kept None is = number32_kept 0 (omega arith)
day_or_none_kept (Some d) is =
    let some = is.0 in
    and_from _ _ (lt-ltb 0 d (omega (arith, some))) (and_from _ _ (or_right (d == 0) (is_day d) (day_rule d is)) (day_number d is))

law_kept : (o : Option ℕ) → IfSome o IsNumber32 → nat_lt 0 (unwrap_or o 1) ≡ true → law.fits o ≡ true
unfolding law
law_kept None typed able = number32_kept 0 (omega arith)
law_kept (Some n) typed able = and_from _ _ able (number32_kept n typed)

period_kept : (p : Period) → IsPeriod p → period.fits p ≡ true
unfolding period
period_kept p typed = and_from _ _ (day_kept p.start typed.0) (day_or_none_kept p.end typed.1)

id_kept : (i : Id) → IsId i → id.fits i ≡ true
unfolding id
id_kept i typed = and_from _ _ (number32_kept i.law typed.0) (number16_kept i.item typed.1)

language_kept : (l : List ℕ) → IsLanguageBytes l → is_language l ≡ true → language.fits l ≡ true
unfolding language
language_kept l typed rule = and_from _ _ rule (and_from _ _ (eq-eqb _ _ typed.three) typed.bytes)

act_day_kept : (iri : List ℕ) (d : ℕ) → IsDay d → is_spelled_day (date_named iri) d ≡ true → (act_day iri).fits d ≡ true
unfolding act_day
act_day_kept iri d typed agrees = and_from _ _ agrees (day_kept d typed)

bit_small : (n : Numbering) (e : Element) (bit : ℕ) → bit_of n e bit ≤ bit
bit_small n e bit = by (is_throughout n e)
  where
    by : (t : Bool) → (if t then bit else 0) ≤ bit
    by true = omega arith
    by false = omega arith

sum_small : (a0 a1 a2 a3 a4 a5 a6 a7 a8 a9 a10 a11 a12 a13 : ℕ) → a0 ≤ 1 → a1 ≤ 2 → a2 ≤ 4 → a3 ≤ 8 → a4 ≤ 16 → a5 ≤ 32 → a6 ≤ 64 → a7 ≤ 128 → a8 ≤ 256 → a9 ≤ 512 → a10 ≤ 1024 → a11 ≤ 2048 → a12 ≤ 4096 → a13 ≤ 8192
    → a0 + a1 + a2 + a3 + a4 + a5 + a6 + a7 + a8 + a9 + a10 + a11 + a12 + a13 < 16384
sum_small a0 a1 a2 a3 a4 a5 a6 a7 a8 a9 a10 a11 a12 a13 h0 h1 h2 h3 h4 h5 h6 h7 h8 h9 h10 h11 h12 h13 = omega arith

numbering_small : (n : Numbering) → numbering_number n < 16384
unfolding numbering_number
numbering_small n =
    sum_small (bit_of n element_is.Article 1)
    (bit_of n element_is.Section 2)
    (bit_of n element_is.Chapter 4)
    (bit_of n element_is.Paragraph 8)
    (bit_of n element_is.Subparagraph 16)
    (bit_of n element_is.Subsection 32)
    (bit_of n element_is.Clause 64)
    (bit_of n element_is.Subclause 128)
    (bit_of n element_is.Alinea 256)
    (bit_of n element_is.Part 512)
    (bit_of n element_is.Title 1024)
    (bit_of n element_is.Book 2048)
    (bit_of n element_is.Point 4096)
    (bit_of n element_is.Indent 8192)
    (bit_small n element_is.Article 1)
    (bit_small n element_is.Section 2)
    (bit_small n element_is.Chapter 4)
    (bit_small n element_is.Paragraph 8)
    (bit_small n element_is.Subparagraph 16)
    (bit_small n element_is.Subsection 32)
    (bit_small n element_is.Clause 64)
    (bit_small n element_is.Subclause 128)
    (bit_small n element_is.Alinea 256)
    (bit_small n element_is.Part 512)
    (bit_small n element_is.Title 1024)
    (bit_small n element_is.Book 2048)
    (bit_small n element_is.Point 4096)
    (bit_small n element_is.Indent 8192)

numbering_kept : (n : Numbering) → IsNumbering n → numbering.fits n ≡ true
unfolding numbering
numbering_kept n typed =
    let small = numbering_small n in
    and_from _ _ (eq-eqb _ _ typed) (and_from _ _ (lt-ltb (numbering_number n) 16384 small) (number16_kept (numbering_number n) (omega (arith, small))))

-- a format says what asks for no other: the first neither that an act is wide nor a provision, the second all
abbrev says : EntryFormat → Bool → Bool
says formats_of.First asks = not asks
says formats_of.Second asks = true

limit_kept : (f : EntryFormat) (l : NodeLimit) → says f (is_wide l) ≡ true → (format_in f).limit.fits l ≡ true
unfolding limit
limit_kept formats_of.First l said = and_from _ _ said refl
limit_kept formats_of.Second Plain said = number16_kept 4096 (omega arith)
limit_kept formats_of.Second Wide said = number16_kept 8192 (omega arith)

portion_short : (t : List ℕ) → is_portion t ≡ true → is_counted t ≡ true
unfolding is_portion
portion_short t rule =
    let sizes = first (nat_le 1 (length t) && nat_le (length t) 512) (list_all is_portion_byte t) rule in
    let short = leb-true (length t) 512 (second (nat_le 1 (length t)) (nat_le (length t) 512) sizes) in
    le-leb (length t) 65535 (omega (arith, short))

provision_kept : (f : EntryFormat) (p : Option (List ℕ)) → IfSome p IsText → is_spelled_provision p ≡ true → says f (is_some p) ≡ true
    → (format_in f).provision.fits p ≡ true
unfolding provision
provision_kept formats_of.First p typed well said = and_from _ _ said refl
provision_kept formats_of.Second None typed well said = text_where_kept is_empty_or_portion [] (ascii_text [] is_num_byte num_low refl) refl refl
provision_kept formats_of.Second (Some t) typed well said =
    and_from _ _ well (text_where_kept is_empty_or_portion t typed (portion_short t well) (or_right (length t == 0) (is_portion t) well))

said_both : (f : EntryFormat) (x y : Bool) → says f (x || y) ≡ true → (says f x ≡ true) × (says f y ≡ true)
said_both formats_of.First true y said = absurd cc
said_both formats_of.First false y said = (refl, said)
said_both formats_of.Second x y said = (refl, refl)

source_kept : (f : EntryFormat) (s : ModSource) → IsSource s → is_spelled_source s ≡ true → says f (is_some s.provision) ≡ true
    → (source (format_in f)).fits s ≡ true
unfolding source
source_kept f s typed well said =
    and_from _ _ (work_kept s.href typed.0)
    (and_from _ _ (number16_kept s.place typed.1) (provision_kept f s.provision typed.2 well said))

-- what a modification is directed at, and occurrences
destination_kept : (d : Destination) → IsDestination d → can_spell_destination d ≡ true → destination.fits d ≡ true
unfolding destination
destination_kept (to.Modification i) typed able = id_kept i typed
destination_kept (to.Node wid) typed able = text_kept wid typed able

spot_kept : (s : Spot) → IsSpot s → is_counted s.old ≡ true → spot.fits s ≡ true
unfolding spot
spot_kept s typed able = and_from _ _ (text_kept s.old typed.0 able) (number16_kept s.occurrence typed.1)

-- nodes
own_kept : (o : Own) → IsOwn o → can_spell_own o ≡ true → list_all is_expression o.refs ≡ true → own.fits o ≡ true
unfolding own element
own_kept o typed able well =
    let rest = second (is_counted o.heading) (is_counted o.content && (is_counted o.refs && list_all is_counted o.refs)) able in
    and_from _ _ (num_kept o.num typed.0)
    (and_from _ _ (text_kept o.heading typed.1 (first (is_counted o.heading) _ able))
    (and_from _ _ (text_kept o.content typed.2 (first (is_counted o.content) _ rest))
    (refs_kept o.refs typed.3 (second (is_counted o.content) (is_counted o.refs && list_all is_counted o.refs) rest) well)))

record CanBe (depth : ℕ) (bs : Branches Own) : Type 0 where
  typed : AreNodes bs
  able : can_spell_nodes bs ≡ true
  well : are_spelled_nodes bs ≡ true
  low : heights bs ≤ depth

each_node_kept : (depth : ℕ) → ((bs : Branches Own) → CanBe depth bs → is_counted (listed bs) ≡ true → (nodes depth).fits (listed bs) ≡ true)
    → (bs : Branches Own) → CanBe (depth + 1) bs → list_all (node depth).fits (listed bs) ≡ true
each_node_kept depth below no_branches can = refl
each_node_kept depth below (more_branches (branch o inner) bs) can =
    let low = can.low in
    let able = first (can_spell_own o && (is_counted (listed inner) && can_spell_nodes inner)) (can_spell_nodes bs) can.able in
    let well = first (list_all is_expression o.refs && are_spelled_nodes inner) (are_spelled_nodes bs) can.well in
    let under = second (can_spell_own o) (is_counted (listed inner) && can_spell_nodes inner) able in
    let inside : CanBe depth inner = record {
      typed = can.typed.0.1;
      able = second (is_counted (listed inner)) (can_spell_nodes inner) under;
      well = second (list_all is_expression o.refs) (are_spelled_nodes inner) well;
      low = omega (arith, low);
    } in
    let beside : CanBe (depth + 1) bs = record {
      typed = can.typed.1;
      able = second (can_spell_own o && (is_counted (listed inner) && can_spell_nodes inner)) (can_spell_nodes bs) can.able;
      well = second (list_all is_expression o.refs && are_spelled_nodes inner) (are_spelled_nodes bs) can.well;
      low = omega (arith, low);
    } in
    and_from _ _
    (and_from _ _
    (own_kept o can.typed.0.0 (first (can_spell_own o) _ able) (first (list_all is_expression o.refs) _ well))
    (below inner inside (first (is_counted (listed inner)) _ under)))
    (each_node_kept depth below bs beside)

nodes_kept : (depth : ℕ) (bs : Branches Own) → CanBe depth bs → is_counted (listed bs) ≡ true → (nodes depth).fits (listed bs) ≡ true
unfolding nodes
nodes_kept zero no_branches can counted = number16_kept 0 (omega arith)
nodes_kept zero (more_branches (branch o inner) bs) can counted = let low = can.low in absurd (omega (arith, low))
nodes_kept (suc depth) bs can counted =
    let low = can.low in
    list_kept (node depth) (listed bs) counted
    (each_node_kept depth (nodes_kept depth) bs (record { typed = can.typed; able = can.able; well = can.well; low = omega (arith, low) }))

payload_kept : (ns : List (Branch Own)) → IsPayload ns → can_spell_payload ns ≡ true → is_spelled_payload ns ≡ true → payload.fits ns ≡ true
unfolding payload
payload_kept ns typed able well =
    let rest = second (is_counted ns) (nat_le (heights (branches_of ns)) 12 && can_spell_nodes (branches_of ns)) able in
    let low = leb-true (heights (branches_of ns)) 12 (first _ (can_spell_nodes (branches_of ns)) rest) in
    ap (nodes 12).fits (sym (listed-branches_of ns))
    ∙ nodes_kept 12 (branches_of ns)
    (record { typed = typed low; able = second (nat_le (heights (branches_of ns)) 12) _ rest; well = well; low = low })
    (ap is_counted (listed-branches_of ns) ∙ first (is_counted ns) _ able)

-- edits
pos_kept : (p : Pos) → pos.fits p ≡ true
unfolding pos
pos_kept places.Before = refl
pos_kept places.After = refl
pos_kept places.Start = refl
pos_kept places.End = refl

text_pos_kept : (p : TextPos) → IsTextPos p → can_spell_text_pos p ≡ true → text_pos.fits p ≡ true
unfolding text_pos
text_pos_kept (stands.Before s) typed able = spot_kept s typed able
text_pos_kept (stands.After s) typed able = spot_kept s typed able
text_pos_kept stands.Start typed able = refl
text_pos_kept stands.End typed able = refl

split_at_kept : (s : SplitAt) → IsSplitAt s → can_spell_split_at s ≡ true → split_at.fits s ≡ true
unfolding split_at
split_at_kept (cuts.Text s) typed able = spot_kept s typed able
split_at_kept (cuts.Child wid) typed able = text_kept wid typed able

pair_kept : (p : List ℕ × List ℕ) → IsNumPair p → is_counted p.0 ≡ true → true ≡ true → num_pair.fits p ≡ true
unfolding num_pair
pair_kept p typed able well = and_from _ _ (text_kept p.0 typed.0 able) (num_kept p.1 typed.1)

all_true : {V : Type 0} (vs : List V) → list_all (λ _. true) vs ≡ true
all_true [] = refl
all_true (v ∷ vs) = all_true vs

pairs_kept : (ps : List (List ℕ × List ℕ)) → All IsNumPair ps → (is_counted ps && list_all (λ p. is_counted p.0) ps) ≡ true → num_pairs.fits ps ≡ true
unfolding num_pairs
pairs_kept ps typed able =
    list_kept num_pair ps (first (is_counted ps) _ able)
    (all_kept IsNumPair (λ (p : List ℕ × List ℕ). is_counted p.0) (λ _. true) num_pair.fits pair_kept ps typed (second (is_counted ps) (list_all (λ (p : List ℕ × List ℕ). is_counted p.0) ps) able) (all_true ps))

edit_kept : (e : TextualMod) → IsEdit e → can_spell_edit e ≡ true → is_spelled_edit e ≡ true → edit.fits e ≡ true
unfolding edit
edit_kept (Repeal wid) typed able well = text_kept wid typed able
edit_kept (SubstituteNodes wid new) typed able well =
    and_from _ _ (text_kept wid typed.0 (first (is_counted wid) (can_spell_payload new) able))
    (payload_kept new typed.1 (second (is_counted wid) (can_spell_payload new) able) well)
edit_kept (SubstituteText wid at new) typed able well =
    let rest = second (is_counted wid) (is_counted at.old && is_counted new) able in
    and_from _ _ (text_kept wid typed.0 (first (is_counted wid) _ able))
    (and_from _ _ (spot_kept at typed.1 (first (is_counted at.old) _ rest)) (text_kept new typed.2 (second (is_counted at.old) _ rest)))
edit_kept (InsertNodes wid at new) typed able well =
    and_from _ _ (text_kept wid typed.0 (first (is_counted wid) (can_spell_payload new) able))
    (and_from _ _ (pos_kept at) (payload_kept new typed.1 (second (is_counted wid) (can_spell_payload new) able) well))
edit_kept (InsertText wid at new) typed able well =
    let rest = second (is_counted wid) (can_spell_text_pos at && is_counted new) able in
    and_from _ _ (text_kept wid typed.0 (first (is_counted wid) _ able))
    (and_from _ _ (text_pos_kept at typed.1 (first (can_spell_text_pos at) _ rest)) (text_kept new typed.2 (second (can_spell_text_pos at) _ rest)))
edit_kept (Renumber pairs) typed able well = pairs_kept pairs typed able
edit_kept (Split wid at number heading) typed able well =
    let rest = second (is_counted wid) (can_spell_split_at at && is_counted heading) able in
    and_from _ _ (text_kept wid typed.0 (first (is_counted wid) _ able))
    (and_from _ _ (split_at_kept at typed.1 (first (can_spell_split_at at) _ rest))
    (and_from _ _ (num_kept number typed.2) (text_kept heading typed.3 (second (can_spell_split_at at) _ rest))))
edit_kept (Join wid other separator) typed able well =
    let rest = second (is_counted wid) (is_counted other && is_counted separator) able in
    and_from _ _ (text_kept wid typed.0 (first (is_counted wid) _ able))
    (and_from _ _ (text_kept other typed.1 (first (is_counted other) _ rest)) (text_kept separator typed.2 (second (is_counted other) _ rest)))

-- effects
dates_kept : (on date : ℕ) → IsDay on × IsDay date → (day.fits on && day.fits date) ≡ true
dates_kept on date typed = and_from _ _ (day_kept on typed.0) (day_kept date typed.1)

force_kept : (on : ℕ) (e : ForceEffect) → IsForceEffect on e → force_effect.fits (on, e) ≡ true
unfolding force_effect
force_kept on (force.Entry date) typed = dates_kept on date typed
force_kept on (force.Postponed date) typed = dates_kept on date typed
force_kept on (force.Ended date) typed = dates_kept on date typed
force_kept on (force.Prorogued date) typed = dates_kept on date typed
force_kept on (force.ReEnacted date) typed = dates_kept on date typed

efficacy_kept : (on : ℕ) (e : EfficacyEffect) → IsEfficacyEffect on e → is_spelled_effect on e ≡ true → efficacy_effect.fits (on, e) ≡ true
unfolding efficacy_effect
efficacy_kept on (efficacy.Entry date) typed well = dates_kept on date typed
efficacy_kept on (efficacy.Ended date) typed well = dates_kept on date typed
efficacy_kept on (efficacy.Retroactive date) typed well = and_from _ _ well (day_kept date typed)
efficacy_kept on (efficacy.Postponed date) typed well = dates_kept on date typed
efficacy_kept on (efficacy.Prorogued date) typed well = dates_kept on date typed
efficacy_kept on efficacy.Extra typed well = day_kept on typed
efficacy_kept on (efficacy.Inapplied days) typed well = and_from _ _ (day_kept on typed.0) (period_kept days typed.1)

-- seven that hold
all_seven : (a b c d e f g : Bool) → a ≡ true → b ≡ true → c ≡ true → d ≡ true → e ≡ true → f ≡ true → g ≡ true
    → (a && (b && (c && (d && (e && (f && g)))))) ≡ true
all_seven a b c d e f g ha hb hc hd he hf hg =
    and_from a _ ha (and_from b _ hb (and_from c _ hc (and_from d _ hd (and_from e _ he (and_from f g hf hg)))))

-- acts, modifications and commands, in a format that says what they ask for
module _ (f : EntryFormat) where
  act_kept : (a : Act) → IsAct a → can_spell_payload a.body ≡ true → is_spelled_act a ≡ true → says f (is_wide a.limit) ≡ true
      → (act (format_in f)).fits a ≡ true
  unfolding act act_rest is_spelled_act
  act_kept a typed able well said =
      let dated : Bool = is_language a.language && is_spelled_day (date_named a.work) a.day in
      let front : dated ≡ true = first dated (is_spelled_payload a.body) well in
      all_seven (work.fits a.work) (language.fits a.language) ((act_day a.work).fits a.day) (numbering.fits a.numbering) ((format_in f).limit.fits a.limit)
      (period.fits a.force) (payload.fits a.body)
      (work_kept a.work typed.0)
      (language_kept a.language typed.1 (first (is_language a.language) (is_spelled_day (date_named a.work) a.day) front))
      (act_day_kept a.work a.day typed.2 (second (is_language a.language) (is_spelled_day (date_named a.work) a.day) front))
      (numbering_kept a.numbering typed.3)
      (limit_kept f a.limit said)
      (period_kept a.force typed.4)
      (payload_kept a.body typed.5 able (second dated (is_spelled_payload a.body) well))

  modification_kept : (m : Modification) → IsModification m → can_spell_modification m ≡ true → is_spelled_modification m ≡ true
      → says f (names_provision m) ≡ true → (modification (format_in f)).fits m ≡ true
  unfolding modification
  modification_kept (mods.Textual s p e) typed able well said =
      and_from _ _ (source_kept f s typed.0 (first (is_spelled_source s) (is_spelled_edit e) well) said)
      (and_from _ _ (period_kept p typed.1) (edit_kept e typed.2 able (second (is_spelled_source s) (is_spelled_edit e) well)))
  modification_kept (mods.Force s t on e) typed able well said =
      and_from _ _ (source_kept f s typed.0 well said) (and_from _ _ (destination_kept t typed.1 able) (force_kept on e typed.2))
  modification_kept (mods.Efficacy s t on e) typed able well said =
      and_from _ _ (source_kept f s typed.0 (first (is_spelled_source s) (is_spelled_effect on e) well) said)
      (and_from _ _ (destination_kept t typed.1 able) (efficacy_kept on e typed.2 (second (is_spelled_source s) (is_spelled_effect on e) well)))

  -- each of some modifications is well spelled, and the format says what it asks for
  abbrev is_said : Modification → Bool
  is_said m = is_spelled_modification m && says f (names_provision m)

  all_said : (ms : List Modification) → list_all is_spelled_modification ms ≡ true → says f (list_any names_provision ms) ≡ true → list_all is_said ms ≡ true
  all_said [] well said = refl
  all_said (m ∷ ms) well said =
      let parts = and_parts (is_spelled_modification m) (list_all is_spelled_modification ms) well in
      let both = said_both f (names_provision m) (list_any names_provision ms) said in
      and_from _ _ (and_from _ _ parts.0 both.0) (all_said ms parts.1 both.1)

  each_kept : (m : Modification) → IsModification m → can_spell_modification m ≡ true → is_said m ≡ true → (modification (format_in f)).fits m ≡ true
  each_kept m typed able said =
      let parts = and_parts (is_spelled_modification m) (says f (names_provision m)) said in
      modification_kept m typed able parts.0 parts.1

  modifications_kept : (ms : List Modification) → All IsModification ms → (is_counted ms && list_all can_spell_modification ms) ≡ true
      → are_spelled_modifications ms ≡ true → says f (list_any names_provision ms) ≡ true → (modifications (format_in f)).fits ms ≡ true
  unfolding modifications are_spelled_modifications
  modifications_kept ms typed able well said =
      list_kept (modification (format_in f)) ms (first (is_counted ms) _ able)
      (all_kept IsModification can_spell_modification is_said (modification (format_in f)).fits each_kept ms typed
      (second (is_counted ms) (list_all can_spell_modification ms) able) (all_said ms well said))

  command_kept : (c : Command) → IsCommand c → can_spell_command c ≡ true → is_well_spelled c ≡ true → says f (asks_second c) ≡ true
      → (command (format_in f)).fits c ≡ true
  unfolding command is_well_spelled asks_second
  command_kept (Enact a) typed able well said = act_kept a typed able well said
  command_kept (Record iri ms) typed able well said = and_from _ _ (work_kept iri typed.0) (modifications_kept ms typed.1 able well said)
  command_kept (Correct i body) typed able well said = and_from _ _ (id_kept i typed.0) (modification_kept body typed.1 able well said)
  command_kept (Withdraw i) typed able well said = id_kept i typed
  command_kept (Restore i) typed able well said = id_kept i typed
  command_kept (DraftAdd iri body) typed able well said = and_from _ _ (work_kept iri typed.0) (modification_kept body typed.1 able well said)
  command_kept (DraftDrop item) typed able well said = number32_kept item typed
  command_kept (File iri seen) typed able well said = and_from _ _ (work_kept iri typed.0) (number32_kept seen typed.1)

  -- entries
  fields_kept : (e : Entry) → IsTyped e → can_be_spelled e ≡ true → is_well_spelled e.command ≡ true → says f (asks_second e.command) ≡ true
      → (fields (format_in f)).fits e ≡ true
  unfolding fields can_be_spelled
  fields_kept e typed able well said =
      and_from _ _ (drafter_kept e.drafter typed.0)
      (and_from _ _ (number64_kept e.request typed.1)
      (and_from _ _ (day_kept e.day typed.2)
      (and_from _ _ (law_kept e.law typed.3 (first (nat_lt 0 (unwrap_or e.law 1)) (can_spell_command e.command) able))
      (command_kept e.command typed.4 (second (nat_lt 0 (unwrap_or e.law 1)) (can_spell_command e.command) able) well said))))

-- the format that is asked for says what is asked for
asked_says : (asks : Bool) → says (if asks then formats_of.Second else formats_of.First) asks ≡ true
asked_says true = refl
asked_says false = refl

pub entry_kept : (e : Entry) → IsTyped e → can_be_spelled e ≡ true → is_well_spelled e.command ≡ true → keeps_rules e ≡ true
unfolding keeps_rules
entry_kept e typed able well =
    standing_fits (format_of e.command) e ∙ fields_kept (format_of e.command) e typed able well (asked_says (asks_second e.command))
