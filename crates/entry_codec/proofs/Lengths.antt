-- How long the spelling of an entry is: as long as its size says, where its nodes nest at most 12 deep.
use Rattle.std.proofs.Common.{◌≡◌, ℕ, zero, suc, ◌+◌, ◌≤◌, Bool, true, false, ◌&&◌, ◌==◌, List, [], ◌∷◌, ◌++◌, length, min, Option, refl, sym, ap, ◌∙◌, arith, length-append}
use Rattle.std.specs.List.{flat_map, list_all}
use Rattle.std.specs.Prelude.{nat_le, unwrap_or}
use Rattle.std.proofs.lemmas.Bool.{and_parts, eqb-true, leb-true}
use Rattle.desk_base.specs.Sizes.{name_size, text_size}
use Rattle.act_tree.specs.Branches.{Branch, Branches, branch, no_branches, more_branches, branches_of, listed, heights, listed-branches_of}
use Rattle.act_tree.specs.NodeSizes.{texts_size, nodes_size, payload_size}
use Rattle.act_tree.specs.Provisions.{Own}
use Rattle.act_tree.specs.declared.limits.NodeLimit.{NodeLimit}
use Rattle.bearing_mods.specs.Sizes.{force_size, efficacy_size}
use Rattle.bearing_mods.specs.declared.efficacy.EfficacyEffect.{EfficacyEffect}
use Rattle.bearing_mods.specs.declared.efficacy.EfficacyEffect.TheVariants as efficacy
use Rattle.bearing_mods.specs.declared.force.ForceEffect.{ForceEffect}
use Rattle.bearing_mods.specs.declared.force.ForceEffect.TheVariants as force
use Rattle.textual_mods.specs.EditSizes.{spot_size, text_pos_size, split_at_size, pairs_size, edit_size}
use Rattle.textual_mods.specs.declared.edit.Pos.{Pos}
use Rattle.textual_mods.specs.declared.edit.Pos.TheVariants as places
use Rattle.textual_mods.specs.declared.edit.SplitAt.{SplitAt}
use Rattle.textual_mods.specs.declared.edit.SplitAt.TheVariants as cuts
use Rattle.textual_mods.specs.declared.edit.Spot.{Spot}
use Rattle.textual_mods.specs.declared.edit.TextPos.{TextPos}
use Rattle.textual_mods.specs.declared.edit.TextPos.TheVariants as stands
use Rattle.textual_mods.specs.declared.edit.TextualMod.{TextualMod}
use Rattle.textual_mods.specs.declared.edit.TextualMod.TheVariants.{Repeal, SubstituteNodes, SubstituteText, InsertNodes, InsertText, Renumber, Split, Join}
use Rattle.law_register.specs.Law.Formats.{format_number, format_of}
use Rattle.law_register.specs.Law.Sizes.{limit_size, act_size, provision_size, source_size, destination_size, modification_size, modifications_size, command_size, entry_size}
use Rattle.law_register.specs.Law.Spellable.{is_counted, can_spell_payload, can_spell_nodes, can_spell_edit, can_spell_modification, can_spell_command, can_be_spelled}
use Rattle.law_register.specs.declared.law.act.Act.{Act}
use Rattle.law_register.specs.declared.law.command.Command.{Command}
use Rattle.law_register.specs.declared.law.command.Command.TheVariants.{Enact, Record, Correct, Withdraw, Restore, DraftAdd, DraftDrop, File}
use Rattle.law_register.specs.declared.law.format.EntryFormat.{EntryFormat}
use Rattle.law_register.specs.declared.law.format.EntryFormat.TheVariants.{First, Second}
use Rattle.law_register.specs.declared.law.modification.Destination.{Destination}
use Rattle.law_register.specs.declared.law.modification.Destination.TheVariants as to
use Rattle.law_register.specs.declared.law.modification.ModSource.{ModSource}
use Rattle.law_register.specs.declared.law.modification.Modification.{Modification}
use Rattle.law_register.specs.declared.law.modification.Modification.TheVariants as mods
use Rattle.law_register.specs.declared.register.entry.Entry.{Entry}
use Rattle.desk_base.specs.declared.period.Period.{Period}
use Rattle.desk_base.specs.declared.id.Id.{Id}
use Rattle.eid_paths.specs.declared.numbering.Numbering.{Numbering}
use Rattle.eid_paths.specs.Elements.{element_place}
use Rattle.frbr_names.specs.Expressions.{is_language}
use Rattle.frbr_names.specs.Works.{date_named}
use Rattle.std.specs.Char.{is_ascii_lowercase}
use Rattle.law_register.specs.Law.Spelling.{is_well_spelled, is_spelled_act, is_spelled_day, is_spelled_payload}
use Rattle.entry_codec.specs.Values as values
use Rattle.entry_codec.specs.Values.{number16, number32, number64, text_of}
use Rattle.entry_codec.specs.Nodes.{element, own, nodes, node, payload}
use Rattle.entry_codec.specs.Acts as acts
use Rattle.entry_codec.specs.Formats.{limit_number, limit, provision, format_in}
use Rattle.entry_codec.specs.Modifications as changes
use Rattle.entry_codec.specs.Commands as commands
use Rattle.entry_codec.specs.Entries.{spelling, fields}
use Rattle.entry_codec.proofs.Standing.{standing_spelled}

-- the length of two parts, and of a part behind a byte
both : (a b : List ℕ) (m n : ℕ) → length a ≡ m → length b ≡ n → length (a ++ b) ≡ m + n
both a b m n p q = length-append a b ∙ ap (λ k. k + length b) p ∙ ap (λ k. m + k) q

behind : (k : ℕ) (a : List ℕ) (n : ℕ) → length a ≡ n → length (k ∷ a) ≡ 1 + n
behind k a n p = let e : suc (length a) ≡ 1 + length a = omega arith in e ∙ ap (λ j. 1 + j) p

-- numbers
long16 : (n : ℕ) → length (number16.spell n) ≡ 2
unfolding number16
long16 n = refl

long32 : (n : ℕ) → length (number32.spell n) ≡ 4
unfolding number32
long32 n = refl

long64 : (n : ℕ) → length (number64.spell n) ≡ 8
unfolding number64
long64 n = refl

-- texts
text_long : (t : List ℕ) → length (values.text.spell t) ≡ text_size t
unfolding values.text text_of
text_long t = both (number16.spell (min (length t) 65535)) t 2 (length t) (long16 _) refl

work_long : (t : List ℕ) → length (values.work.spell t) ≡ text_size t
unfolding values.work text_of
work_long t = both (number16.spell (min (length t) 65535)) t 2 (length t) (long16 _) refl

expression_long : (t : List ℕ) → length (values.expression.spell t) ≡ text_size t
unfolding values.expression text_of
expression_long t = both (number16.spell (min (length t) 65535)) t 2 (length t) (long16 _) refl

drafter_long : (t : List ℕ) → length (values.drafter.spell t) ≡ name_size t
unfolding values.drafter text_of
drafter_long t = behind (min (length t) 255) t (length t) refl

num_long : (t : List ℕ) → length (values.num.spell t) ≡ name_size t
unfolding values.num text_of
num_long t = behind (min (length t) 255) t (length t) refl

texts_long : (ts : List (List ℕ)) → length (flat_map values.expression.spell ts) ≡ texts_size ts
texts_long [] = refl
texts_long (t ∷ ts) =
    both (values.expression.spell t) (flat_map values.expression.spell ts) (text_size t) (texts_size ts) (expression_long t) (texts_long ts)

refs_long : (ts : List (List ℕ)) → length (values.refs.spell ts) ≡ 2 + texts_size ts
unfolding values.refs
refs_long ts =
    both (number16.spell (min (length ts) 65535)) (flat_map values.expression.spell ts) 2 (texts_size ts) (long16 _) (texts_long ts)

-- nodes
five : (a b c d : ℕ) → 1 + (a + (b + (c + d))) ≡ 1 + a + b + c + d
five a b c d = omega arith

own_long : (o : Own) → length (own.spell o) ≡ 1 + name_size o.num + text_size o.heading + text_size o.content + (2 + texts_size o.refs)
unfolding own element
own_long o =
    let d = refs_long o.refs in
    let c = both (values.text.spell o.content) (values.refs.spell o.refs) (text_size o.content) (2 + texts_size o.refs) (text_long o.content) d in
    let b = both (values.text.spell o.heading) (values.text.spell o.content ++ values.refs.spell o.refs) (text_size o.heading) (text_size o.content + (2 + texts_size o.refs)) (text_long o.heading) c in
    let a = both (values.num.spell o.num) (values.text.spell o.heading ++ (values.text.spell o.content ++ values.refs.spell o.refs)) (name_size o.num) (text_size o.heading + (text_size o.content + (2 + texts_size o.refs))) (num_long o.num) b in
    behind (element_place o.element) (values.num.spell o.num ++ (values.text.spell o.heading ++ (values.text.spell o.content ++ values.refs.spell o.refs))) _ a
    ∙ five (name_size o.num) (text_size o.heading) (text_size o.content) (2 + texts_size o.refs)

all_long : (d : ℕ) → ((bs : Branches Own) → heights bs ≤ d → length ((nodes d).spell (listed bs)) ≡ 2 + nodes_size bs)
    → (bs : Branches Own) → heights bs ≤ d + 1 → length (flat_map (node d).spell (listed bs)) ≡ nodes_size bs
all_long d below no_branches h = refl
all_long d below (more_branches (branch o inner) bs) h =
    let first = both (own.spell o) ((nodes d).spell (listed inner)) _ (2 + nodes_size inner) (own_long o) (below inner (omega arith)) in
    both (own.spell o ++ (nodes d).spell (listed inner)) (flat_map (node d).spell (listed bs)) _ (nodes_size bs) first (all_long d below bs (omega arith))

listed_long : (d : ℕ) (bs : Branches Own) → heights bs ≤ d → length ((nodes d).spell (listed bs)) ≡ 2 + nodes_size bs
unfolding nodes
listed_long zero no_branches h = long16 0
listed_long zero (more_branches (branch o inner) bs) h = absurd (omega arith)
listed_long (suc d) bs h =
    both (number16.spell (min (length (listed bs)) 65535)) (flat_map (node d).spell (listed bs)) 2 (nodes_size bs) (long16 _)
    (all_long d (listed_long d) bs (omega arith))

pub payload_long : (ns : List (Branch Own)) → can_spell_payload ns ≡ true → length (payload.spell ns) ≡ payload_size ns
unfolding payload
payload_long ns able =
    let rest = and_parts (is_counted ns) (nat_le (heights (branches_of ns)) 12 && can_spell_nodes (branches_of ns)) able in
    let flat = and_parts (nat_le (heights (branches_of ns)) 12) (can_spell_nodes (branches_of ns)) rest.1 in
    ap (λ xs. length ((nodes 12).spell xs)) (sym (listed-branches_of ns)) ∙ listed_long 12 (branches_of ns) (leb-true _ _ flat.0)

-- small values
period_long : (p : Period) → length (values.period.spell p) ≡ 8
unfolding values.period values.day values.day_or_none
period_long p = both _ _ 4 4 (long32 p.start) (long32 _)

id_long : (i : Id) → length (values.id.spell i) ≡ 6
unfolding values.id
id_long i = both _ _ 4 2 (long32 i.law) (long16 i.item)

day_long : (d : ℕ) → length (values.day.spell d) ≡ 4
unfolding values.day
day_long d = long32 d

law_long : (o : Option ℕ) → length (values.law.spell o) ≡ 4
unfolding values.law
law_long o = long32 _

numbering_long : (n : Numbering) → length (values.numbering.spell n) ≡ 2
unfolding values.numbering
numbering_long n = long16 _

destination_long : (d : Destination) → length (values.destination.spell d) ≡ destination_size d
unfolding values.destination
destination_long (to.Modification i) = behind 0 (values.id.spell i) 6 (id_long i)
destination_long (to.Node wid) = behind 1 (values.text.spell wid) _ (text_long wid)

spot_long : (s : Spot) → length (values.spot.spell s) ≡ spot_size s
unfolding values.spot
spot_long s = both (values.text.spell s.old) (number16.spell s.occurrence) _ 2 (text_long s.old) (long16 s.occurrence)

-- effects
dates_long : (p : ℕ × ℕ) → length (changes.dates.spell p) ≡ 8
dates_long p = both (values.day.spell p.0) (values.day.spell p.1) 4 4 (day_long p.0) (day_long p.1)

days_long : (on : ℕ) (days : Period) → length (changes.inapplied.spell (on, days)) ≡ 12
days_long on days = both (values.day.spell on) (values.period.spell days) 4 8 (day_long on) (period_long days)

force_long : (on : ℕ) (f : ForceEffect) → length (changes.force_effect.spell (on, f)) ≡ 4 + force_size f
unfolding changes.force_effect
force_long on (force.Entry d) = behind 1 (changes.dates.spell (on, d)) 8 (dates_long (on, d))
force_long on (force.Postponed d) = behind 2 (changes.dates.spell (on, d)) 8 (dates_long (on, d))
force_long on (force.Ended d) = behind 3 (changes.dates.spell (on, d)) 8 (dates_long (on, d))
force_long on (force.Prorogued d) = behind 4 (changes.dates.spell (on, d)) 8 (dates_long (on, d))
force_long on (force.ReEnacted d) = behind 5 (changes.dates.spell (on, d)) 8 (dates_long (on, d))

efficacy_long : (on : ℕ) (e : EfficacyEffect) → length (changes.efficacy_effect.spell (on, e)) ≡ 4 + efficacy_size e
unfolding changes.efficacy_effect
efficacy_long on (efficacy.Entry d) = behind 1 (changes.dates.spell (on, d)) 8 (dates_long (on, d))
efficacy_long on (efficacy.Ended d) = behind 2 (changes.dates.spell (on, d)) 8 (dates_long (on, d))
efficacy_long on (efficacy.Retroactive d) = behind 3 (values.day.spell d) 4 (day_long d)
efficacy_long on (efficacy.Postponed d) = behind 4 (changes.dates.spell (on, d)) 8 (dates_long (on, d))
efficacy_long on (efficacy.Prorogued d) = behind 5 (changes.dates.spell (on, d)) 8 (dates_long (on, d))
efficacy_long on efficacy.Extra = behind 6 (values.day.spell on) 4 (day_long on)
efficacy_long on (efficacy.Inapplied days) = behind 7 (changes.inapplied.spell (on, days)) 12 (days_long on days)

-- edits
pos_long : (p : Pos) → length (changes.pos.spell p) ≡ 1
unfolding changes.pos
pos_long places.Before = refl
pos_long places.After = refl
pos_long places.Start = refl
pos_long places.End = refl

text_pos_long : (p : TextPos) → length (changes.text_pos.spell p) ≡ text_pos_size p
unfolding changes.text_pos
text_pos_long (stands.Before s) = behind 0 (values.spot.spell s) _ (spot_long s)
text_pos_long (stands.After s) = behind 1 (values.spot.spell s) _ (spot_long s)
text_pos_long stands.Start = refl
text_pos_long stands.End = refl

split_at_long : (s : SplitAt) → length (changes.split_at.spell s) ≡ split_at_size s
unfolding changes.split_at
split_at_long (cuts.Text s) = behind 0 (values.spot.spell s) _ (spot_long s)
split_at_long (cuts.Child wid) = behind 1 (values.text.spell wid) _ (text_long wid)

pair_long : (p : List ℕ × List ℕ) → length (changes.num_pair.spell p) ≡ text_size p.0 + name_size p.1
unfolding changes.num_pair
pair_long p = both (values.text.spell p.0) (values.num.spell p.1) _ _ (text_long p.0) (num_long p.1)

each_pair_long : (ps : List (List ℕ × List ℕ)) → length (flat_map changes.num_pair.spell ps) ≡ pairs_size ps
each_pair_long [] = refl
each_pair_long (p ∷ ps) = both (changes.num_pair.spell p) (flat_map changes.num_pair.spell ps) _ _ (pair_long p) (each_pair_long ps)

pairs_long : (ps : List (List ℕ × List ℕ)) → length (changes.num_pairs.spell ps) ≡ 2 + pairs_size ps
unfolding changes.num_pairs
pairs_long ps =
    both (number16.spell (min (length ps) 65535)) (flat_map changes.num_pair.spell ps) 2 (pairs_size ps) (long16 _) (each_pair_long ps)

two : (a b : ℕ) → 1 + (a + b) ≡ 1 + a + b
two a b = omega arith

three : (a b c : ℕ) → 1 + (a + (b + c)) ≡ 1 + a + b + c
three a b c = omega arith

edit_long : (e : TextualMod) → can_spell_edit e ≡ true → length (changes.edit.spell e) ≡ edit_size e
unfolding changes.edit
edit_long (Repeal wid) able = behind 1 (values.text.spell wid) _ (text_long wid)
edit_long (SubstituteNodes wid new) able =
    let parts = and_parts (is_counted wid) (can_spell_payload new) able in
    behind 2 (values.text.spell wid ++ payload.spell new) _
    (both (values.text.spell wid) (payload.spell new) _ _ (text_long wid) (payload_long new parts.1))
    ∙ two (text_size wid) (payload_size new)
edit_long (SubstituteText wid spot new) able =
    behind 3 (values.text.spell wid ++ (values.spot.spell spot ++ values.text.spell new)) _
    (both (values.text.spell wid) (values.spot.spell spot ++ values.text.spell new) _ _ (text_long wid)
    (both (values.spot.spell spot) (values.text.spell new) _ _ (spot_long spot) (text_long new)))
    ∙ three (text_size wid) (spot_size spot) (text_size new)
edit_long (InsertNodes wid pos new) able =
    let parts = and_parts (is_counted wid) (can_spell_payload new) able in
    behind 4 (values.text.spell wid ++ (changes.pos.spell pos ++ payload.spell new)) _
    (both (values.text.spell wid) (changes.pos.spell pos ++ payload.spell new) _ _ (text_long wid)
    (both (changes.pos.spell pos) (payload.spell new) _ _ (pos_long pos) (payload_long new parts.1)))
    ∙ three (text_size wid) 1 (payload_size new)
edit_long (InsertText wid at new) able =
    behind 5 (values.text.spell wid ++ (changes.text_pos.spell at ++ values.text.spell new)) _
    (both (values.text.spell wid) (changes.text_pos.spell at ++ values.text.spell new) _ _ (text_long wid)
    (both (changes.text_pos.spell at) (values.text.spell new) _ _ (text_pos_long at) (text_long new)))
    ∙ three (text_size wid) (text_pos_size at) (text_size new)
edit_long (Renumber pairs) able = behind 6 (changes.num_pairs.spell pairs) _ (pairs_long pairs)
edit_long (Split wid at num heading) able =
    behind 7 (values.text.spell wid ++ (changes.split_at.spell at ++ (values.num.spell num ++ values.text.spell heading))) _
    (both (values.text.spell wid) (changes.split_at.spell at ++ (values.num.spell num ++ values.text.spell heading)) _ _ (text_long wid)
    (both (changes.split_at.spell at) (values.num.spell num ++ values.text.spell heading) _ _ (split_at_long at)
    (both (values.num.spell num) (values.text.spell heading) _ _ (num_long num) (text_long heading))))
    ∙ five (text_size wid) (split_at_size at) (name_size num) (text_size heading)
edit_long (Join wid second separator) able =
    behind 8 (values.text.spell wid ++ (values.text.spell second ++ values.text.spell separator)) _
    (both (values.text.spell wid) (values.text.spell second ++ values.text.spell separator) _ _ (text_long wid)
    (both (values.text.spell second) (values.text.spell separator) _ _ (text_long second) (text_long separator)))
    ∙ three (text_size wid) (text_size second) (text_size separator)

-- what the formats spell in ways of their own
limit_long : (f : EntryFormat) (l : NodeLimit) → length ((format_in f).limit.spell l) ≡ limit_size f
unfolding limit
limit_long First l = refl
limit_long Second l = long16 (limit_number l)

provision_long : (f : EntryFormat) (p : Option (List ℕ)) → length ((format_in f).provision.spell p) ≡ provision_size f p
unfolding provision text_of
provision_long First p = refl
provision_long Second p = let t = unwrap_or p [] in both (number16.spell (min (length t) 65535)) t 2 (length t) (long16 _) refl

-- the language of the act that a command enacts has three letters
abbrev HasLetters : Command → Type 0
HasLetters (Enact a) = length a.language ≡ 3
HasLetters _ = Unit {0}

language_long : (l : List ℕ) → is_language l ≡ true → length l ≡ 3
unfolding is_language
language_long l is = eqb-true (length l) 3 (and_parts (length l == 3) (list_all is_ascii_lowercase l) is).0

is_first : (x y z : Bool) → (x && y && z) ≡ true → x ≡ true
is_first true y z e = refl
is_first false y z e = e

letters_of : (c : Command) → is_well_spelled c ≡ true → HasLetters c
unfolding is_well_spelled is_spelled_act
letters_of (Enact a) well = language_long a.language (is_first (is_language a.language) (is_spelled_day (date_named a.work) a.day) (is_spelled_payload a.body) well)
letters_of (Record _ _) well = tt
letters_of (Correct _ _) well = tt
letters_of (Withdraw _) well = tt
letters_of (Restore _) well = tt
letters_of (DraftAdd _ _) well = tt
letters_of (DraftDrop _) well = tt
letters_of (File _ _) well = tt

-- acts, sources, modifications and commands. A language has three letters
more : (a b c : ℕ) → a + (b + c) ≡ a + b + c
more a b c = omega arith

seven : (a l b : ℕ) → a + (3 + (4 + (2 + (l + (8 + b))))) ≡ a + 3 + 4 + 2 + l + 8 + b
seven a l b = omega arith

module _ (f : EntryFormat) where
  act_rest_long : (iri : List ℕ) (d : ℕ) (n : Numbering) (l : NodeLimit) (p : Period) (ns : List (Branch Own)) → can_spell_payload ns ≡ true
      → length ((acts.act_rest (format_in f) iri).spell (d, (n, (l, (p, ns))))) ≡ 4 + (2 + (limit_size f + (8 + payload_size ns)))
  unfolding acts.act_rest values.act_day
  act_rest_long iri d n l p ns able =
      let said : List ℕ = (format_in f).limit.spell l in
      both (values.day.spell d) (values.numbering.spell n ++ (said ++ (values.period.spell p ++ payload.spell ns))) 4 _ (day_long d)
      (both (values.numbering.spell n) (said ++ (values.period.spell p ++ payload.spell ns)) 2 _ (numbering_long n)
      (both said (values.period.spell p ++ payload.spell ns) (limit_size f) _ (limit_long f l)
      (both (values.period.spell p) (payload.spell ns) 8 _ (period_long p) (payload_long ns able))))

  act_long : (a : Act) → length a.language ≡ 3 → can_spell_payload a.body ≡ true → length ((acts.act (format_in f)).spell a) ≡ act_size f a
  unfolding acts.act values.language
  act_long a letters able =
      let rest : List ℕ = (acts.act_rest (format_in f) a.work).spell (a.day, (a.numbering, (a.limit, (a.force, a.body)))) in
      both (values.work.spell a.work) (a.language ++ rest) _ _ (work_long a.work)
      (both a.language rest 3 _ letters (act_rest_long a.work a.day a.numbering a.limit a.force a.body able))
      ∙ seven (text_size a.work) (limit_size f) (payload_size a.body)

  source_long : (s : ModSource) → length ((changes.source (format_in f)).spell s) ≡ source_size f s
  unfolding changes.source
  source_long s =
      let named : List ℕ = (format_in f).provision.spell s.provision in
      both (values.work.spell s.href) (number16.spell s.place ++ named) _ _ (work_long s.href)
      (both (number16.spell s.place) named 2 _ (long16 s.place) (provision_long f s.provision))
      ∙ more (text_size s.href) 2 (provision_size f s.provision)

  modification_long : (m : Modification) → can_spell_modification m ≡ true → length ((changes.modification (format_in f)).spell m) ≡ modification_size f m
  unfolding changes.modification
  modification_long (mods.Textual source period edit) able =
      behind 1 ((changes.source (format_in f)).spell source ++ (values.period.spell period ++ changes.edit.spell edit)) _
      (both ((changes.source (format_in f)).spell source) (values.period.spell period ++ changes.edit.spell edit) _ _ (source_long source)
      (both (values.period.spell period) (changes.edit.spell edit) _ _ (period_long period) (edit_long edit able)))
      ∙ three (source_size f source) 8 (edit_size edit)
  modification_long (mods.Force source target on effect) able =
      behind 2 ((changes.source (format_in f)).spell source ++ (values.destination.spell target ++ changes.force_effect.spell (on, effect))) _
      (both ((changes.source (format_in f)).spell source) (values.destination.spell target ++ changes.force_effect.spell (on, effect)) _ _ (source_long source)
      (both (values.destination.spell target) (changes.force_effect.spell (on, effect)) _ _ (destination_long target) (force_long on effect)))
      ∙ three (source_size f source) (destination_size target) (4 + force_size effect)
  modification_long (mods.Efficacy source target on effect) able =
      behind 3 ((changes.source (format_in f)).spell source ++ (values.destination.spell target ++ changes.efficacy_effect.spell (on, effect))) _
      (both ((changes.source (format_in f)).spell source) (values.destination.spell target ++ changes.efficacy_effect.spell (on, effect)) _ _ (source_long source)
      (both (values.destination.spell target) (changes.efficacy_effect.spell (on, effect)) _ _ (destination_long target) (efficacy_long on effect)))
      ∙ three (source_size f source) (destination_size target) (4 + efficacy_size effect)

  each_modification_long : (ms : List Modification) → list_all can_spell_modification ms ≡ true
      → length (flat_map (changes.modification (format_in f)).spell ms) ≡ modifications_size f ms
  each_modification_long [] able = refl
  each_modification_long (m ∷ ms) able =
      let parts = and_parts (can_spell_modification m) (list_all can_spell_modification ms) able in
      both ((changes.modification (format_in f)).spell m) (flat_map (changes.modification (format_in f)).spell ms) _ _
      (modification_long m parts.0) (each_modification_long ms parts.1)

  modifications_long : (ms : List Modification) → list_all can_spell_modification ms ≡ true
      → length ((changes.modifications (format_in f)).spell ms) ≡ 2 + modifications_size f ms
  unfolding changes.modifications
  modifications_long ms able =
      both (number16.spell (min (length ms) 65535)) (flat_map (changes.modification (format_in f)).spell ms) 2 (modifications_size f ms) (long16 _)
      (each_modification_long ms able)

  command_long : (c : Command) → HasLetters c → can_spell_command c ≡ true → length ((commands.command (format_in f)).spell c) ≡ command_size f c
  unfolding commands.command
  command_long (Enact a) letters able = behind 1 ((acts.act (format_in f)).spell a) _ (act_long a letters able)
  command_long (Record iri ms) letters able =
      let parts = and_parts (is_counted ms) (list_all can_spell_modification ms) able in
      behind 2 (values.work.spell iri ++ (changes.modifications (format_in f)).spell ms) _
      (both (values.work.spell iri) ((changes.modifications (format_in f)).spell ms) _ _ (work_long iri) (modifications_long ms parts.1))
      ∙ two (text_size iri) (2 + modifications_size f ms)
  command_long (Correct i body) letters able =
      behind 3 (values.id.spell i ++ (changes.modification (format_in f)).spell body) _
      (both (values.id.spell i) ((changes.modification (format_in f)).spell body) _ _ (id_long i) (modification_long body able))
      ∙ two 6 (modification_size f body)
  command_long (Withdraw i) letters able = behind 4 (values.id.spell i) _ (id_long i)
  command_long (Restore i) letters able = behind 5 (values.id.spell i) _ (id_long i)
  command_long (DraftAdd iri body) letters able =
      behind 6 (values.work.spell iri ++ (changes.modification (format_in f)).spell body) _
      (both (values.work.spell iri) ((changes.modification (format_in f)).spell body) _ _ (work_long iri) (modification_long body able))
      ∙ two (text_size iri) (modification_size f body)
  command_long (DraftDrop item) letters able = behind 7 (number32.spell item) _ (long32 item)
  command_long (File iri seen) letters able =
      behind 8 (values.work.spell iri ++ number32.spell seen) _
      (both (values.work.spell iri) (number32.spell seen) _ _ (work_long iri) (long32 seen))
      ∙ two (text_size iri) 4

  fields_long : (e : Entry) → is_well_spelled e.command ≡ true → can_be_spelled e ≡ true
      → length ((fields (format_in f)).spell e) ≡ name_size e.drafter + (8 + (4 + (4 + command_size f e.command)))
  unfolding fields can_be_spelled
  fields_long e well able =
      let parts = and_parts _ (can_spell_command e.command) able in
      let end : List ℕ = (commands.command (format_in f)).spell e.command in
      both (values.drafter.spell e.drafter) (number64.spell e.request ++ (values.day.spell e.day ++ (values.law.spell e.law ++ end))) _ _ (drafter_long e.drafter)
      (both (number64.spell e.request) (values.day.spell e.day ++ (values.law.spell e.law ++ end)) 8 _ (long64 e.request)
      (both (values.day.spell e.day) (values.law.spell e.law ++ end) 4 _ (day_long e.day)
      (both (values.law.spell e.law) end 4 _ (law_long e.law) (command_long e.command (letters_of e.command well) parts.1))))

six : (a b : ℕ) → 1 + (a + (8 + (4 + (4 + b)))) ≡ 1 + a + 8 + 4 + 4 + b
six a b = omega arith

pub entry_long : (e : Entry) → is_well_spelled e.command ≡ true → can_be_spelled e ≡ true → length (spelling e) ≡ entry_size e
unfolding spelling
entry_long e well able =
    let f = format_of e.command in
    ap length (standing_spelled f e)
    ∙ behind (format_number f) ((fields (format_in f)).spell e) _ (fields_long f e well able)
    ∙ six (name_size e.drafter) (command_size f e.command)
