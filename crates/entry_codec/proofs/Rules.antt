-- What keeps the rules of the format can be spelled, and is well spelled.
use Rattle.std.proofs.Common.{◌≡◌, ℕ, zero, suc, ◌+◌, ◌≤◌, ◌==◌, Bool, true, ◌&&◌, List, [], ◌∷◌, length, min, Option, Some, None, Result, Ok, Err, get_or, ◌<◌, refl, sym, ap, subst, ◌∙◌, arith}
use Rattle.std.specs.Prelude.{nat_lt, unwrap_or}
use Rattle.std.specs.List.{list_all}
use Rattle.std.specs.Str.{is_utf8}
use Rattle.std.proofs.lemmas.Bool.{and_parts, and_from, le-leb, eqb-true}
use Rattle.std.proofs.Math.Nat.{min-le_right}
use Rattle.frbr_names.specs.Expressions.{is_expression, is_language}
use Rattle.frbr_names.specs.Works.{date_named}
use Rattle.act_tree.specs.Branches.{Branch, Branches, branch, no_branches, more_branches, branches_of, listed, heights, listed-branches_of}
use Rattle.act_tree.specs.Provisions.{Own}
use Rattle.bearing_mods.specs.declared.efficacy.EfficacyEffect.{EfficacyEffect}
use Rattle.bearing_mods.specs.declared.efficacy.EfficacyEffect.TheVariants as efficacy
use Rattle.textual_mods.specs.declared.edit.SplitAt.{SplitAt}
use Rattle.textual_mods.specs.declared.edit.SplitAt.TheVariants as cuts
use Rattle.textual_mods.specs.declared.edit.Spot.{Spot}
use Rattle.textual_mods.specs.declared.edit.TextPos.{TextPos}
use Rattle.textual_mods.specs.declared.edit.TextPos.TheVariants as stands
use Rattle.textual_mods.specs.declared.edit.TextualMod.{TextualMod}
use Rattle.textual_mods.specs.declared.edit.TextualMod.TheVariants.{Repeal, SubstituteNodes, SubstituteText, InsertNodes, InsertText, Renumber, Split, Join}
use Rattle.law_register.specs.Law.Formats.{format_of}
use Rattle.law_register.specs.Law.Spellable.{is_counted, can_spell_own, can_spell_nodes, can_spell_payload, can_spell_text_pos, can_spell_split_at, can_spell_edit, can_spell_destination, can_spell_modification, can_spell_command, can_be_spelled}
use Rattle.law_register.specs.Law.Spelling.{are_spelled_nodes, is_spelled_payload, is_spelled_edit, is_spelled_effect, is_spelled_provision, is_spelled_source, is_spelled_modification, are_spelled_modifications, is_spelled_day, is_spelled_act, is_well_spelled}
use Rattle.law_register.specs.declared.law.act.Act.{Act}
use Rattle.law_register.specs.declared.law.command.Command.{Command}
use Rattle.law_register.specs.declared.law.command.Command.TheVariants.{Enact, Record, Correct, Withdraw, Restore, DraftAdd, DraftDrop, File}
use Rattle.law_register.specs.declared.law.format.EntryFormat.{EntryFormat}
use Rattle.law_register.specs.declared.law.format.EntryFormat.TheVariants as formats_of
use Rattle.law_register.specs.declared.law.modification.Destination.{Destination}
use Rattle.law_register.specs.declared.law.modification.Destination.TheVariants as to
use Rattle.law_register.specs.declared.law.modification.ModSource.{ModSource}
use Rattle.law_register.specs.declared.law.modification.Modification.{Modification}
use Rattle.law_register.specs.declared.law.modification.Modification.TheVariants as mods
use Rattle.law_register.specs.declared.register.entry.Entry.{Entry}
use Rattle.entry_codec.specs.Fields.{Field, each}
use Rattle.entry_codec.specs.Values.{number16, number64, text_of, text, num, drafter, work, expression, list_of, refs, day, law, period, id, language, act_day, numbering, destination, spot}
use Rattle.entry_codec.specs.Nodes.{element, own, nodes, node, payload}
use Rattle.entry_codec.specs.Acts.{act, act_rest}
use Rattle.entry_codec.specs.Formats.{Format, provision, format_in}
use Rattle.entry_codec.specs.Modifications.{pos, text_pos, split_at, num_pair, num_pairs, edit, efficacy_effect, source, modification, modifications}
use Rattle.entry_codec.specs.Commands.{command}
use Rattle.entry_codec.specs.Entries.{fields, keeps_rules, decoding}
use Rattle.entry_codec.specs.Reads.{Gives}
use Rattle.entry_codec.specs.declared.fault.DecodeFail.{DecodeFail}
use Rattle.entry_codec.proofs.Decoding.{decoded_keeps}
use Rattle.entry_codec.proofs.Standing.{standing_fits}
use Rattle.std.specs.Prelude.{IfOk}

-- a first and a second part of what holds
first : (x y : Bool) → (x && y) ≡ true → x ≡ true
first x y e = (and_parts x y e).0

second : (x y : Bool) → (x && y) ≡ true → y ≡ true
second x y e = (and_parts x y e).1

-- lists and texts are no longer than is counted
short : {X : Type 0} (xs : List X) → (length xs == min (length xs) 65535) ≡ true → is_counted xs ≡ true
short xs e =
    let same : length xs ≡ min (length xs) 65535 = eqb-true (length xs) (min (length xs) 65535) e in
    le-leb (length xs) 65535 (subst (λ n. n ≤ 65535) (sym same) (min-le_right (length xs) 65535))

text_of_short : (t : List ℕ) → (text_of (min (length t) 65535)).fits t ≡ true → is_counted t ≡ true
unfolding text_of
text_of_short t fits = short t (first _ _ (second (is_utf8 t) _ fits))

text_short : (t : List ℕ) → text.fits t ≡ true → is_counted t ≡ true
unfolding text
text_short t fits = text_of_short t (second (number16.fits (min (length t) 65535)) _ fits)

expression_short : (t : List ℕ) → expression.fits t ≡ true → is_counted t ≡ true
unfolding expression
expression_short t fits = text_of_short t (second (is_expression t) _ (second (number16.fits (min (length t) 65535)) _ fits))

expression_ruled : (t : List ℕ) → expression.fits t ≡ true → is_expression t ≡ true
unfolding expression
expression_ruled t fits = first (is_expression t) _ (second (number16.fits (min (length t) 65535)) _ fits)

all_from : {X : Type 0} (p q : X → Bool) → ((x : X) → p x ≡ true → q x ≡ true) → (xs : List X) → list_all p xs ≡ true → list_all q xs ≡ true
all_from p q each [] all = refl
all_from p q each (x ∷ xs) all =
    and_from (q x) (list_all q xs) (each x (first (p x) (list_all p xs) all)) (all_from p q each xs (second (p x) (list_all p xs) all))

list_short : {V : Type 0} (f : Field V) (vs : List V) → (list_of f).fits vs ≡ true → is_counted vs ≡ true
list_short f vs fits = short vs (first _ (list_all f.fits vs) (second (number16.fits (min (length vs) 65535)) _ fits))

list_each : {V : Type 0} (f : Field V) (vs : List V) → (list_of f).fits vs ≡ true → list_all f.fits vs ≡ true
list_each f vs fits = second _ (list_all f.fits vs) (second (number16.fits (min (length vs) 65535)) _ fits)

-- what a node says of itself
refs_ruled : (ts : List (List ℕ)) → refs.fits ts ≡ true → list_all is_expression ts ≡ true
unfolding refs
refs_ruled ts fits = all_from expression.fits is_expression expression_ruled ts (list_each expression ts fits)

refs_short : (ts : List (List ℕ)) → refs.fits ts ≡ true → (is_counted ts && list_all is_counted ts) ≡ true
unfolding refs
refs_short ts fits =
    and_from _ _ (list_short expression ts fits) (all_from expression.fits is_counted expression_short ts (list_each expression ts fits))

record OwnKept (o : Own) : Type 0 where
  able : can_spell_own o ≡ true
  well : list_all is_expression o.refs ≡ true

own_kept : (o : Own) → own.fits o ≡ true → OwnKept o
unfolding own
own_kept o fits =
    let a = second (num.fits o.num) _ (second (element.fits o.element) _ fits) in
    let b = second (text.fits o.heading) _ a in
    let c = second (text.fits o.content) (refs.fits o.refs) b in
    record {
      able = and_from _ _ (text_short o.heading (first _ _ a)) (and_from _ _ (text_short o.content (first _ _ b)) (refs_short o.refs c));
      well = refs_ruled o.refs c;
    }

-- nodes
record NodesKept (depth : ℕ) (bs : Branches Own) : Type 0 where
  short : is_counted (listed bs) ≡ true
  low : heights bs ≤ depth
  able : can_spell_nodes bs ≡ true
  well : are_spelled_nodes bs ≡ true

record EachKept (depth : ℕ) (bs : Branches Own) : Type 0 where
  low : heights bs ≤ depth + 1
  able : can_spell_nodes bs ≡ true
  well : are_spelled_nodes bs ≡ true

each_kept : (depth : ℕ) → ((bs : Branches Own) → (nodes depth).fits (listed bs) ≡ true → NodesKept depth bs)
    → (bs : Branches Own) → list_all (node depth).fits (listed bs) ≡ true → EachKept depth bs
each_kept depth below no_branches all = record { low = omega arith; able = refl; well = refl }
each_kept depth below (more_branches (branch o inner) bs) all =
    let one : (own.fits o && (nodes depth).fits (listed inner)) ≡ true = first ((node depth).fits (branch o inner)) (list_all (node depth).fits (listed bs)) all in
    let rest = each_kept depth below bs (second ((node depth).fits (branch o inner)) (list_all (node depth).fits (listed bs)) all) in
    let o_kept = own_kept o (first (own.fits o) ((nodes depth).fits (listed inner)) one) in
    let inner_kept = below inner (second (own.fits o) ((nodes depth).fits (listed inner)) one) in
    let low = inner_kept.low in
    let later = rest.low in
    record {
      low = omega (arith, low, later);
      able = and_from _ _ (and_from _ _ o_kept.able (and_from _ _ inner_kept.short inner_kept.able)) rest.able;
      well = and_from _ _ (and_from _ _ o_kept.well inner_kept.well) rest.well;
    }

nodes_kept : (depth : ℕ) (bs : Branches Own) → (nodes depth).fits (listed bs) ≡ true → NodesKept depth bs
unfolding nodes
nodes_kept zero no_branches fits = record { short = refl; low = omega arith; able = refl; well = refl }
nodes_kept zero (more_branches b bs) fits =
    let none = eqb-true (length (listed (more_branches b bs))) 0 (first (length (listed (more_branches b bs)) == 0) _ fits) in
    absurd (omega (arith, none))
nodes_kept (suc depth) bs fits =
    let k = each_kept depth (nodes_kept depth) bs (list_each (node depth) (listed bs) fits) in
    let low = k.low in
    record { short = list_short (node depth) (listed bs) fits; low = omega (arith, low); able = k.able; well = k.well }

record PayloadKept (ns : List (Branch Own)) : Type 0 where
  able : can_spell_payload ns ≡ true
  well : is_spelled_payload ns ≡ true

payload_kept : (ns : List (Branch Own)) → payload.fits ns ≡ true → PayloadKept ns
unfolding payload
payload_kept ns fits =
    let k = nodes_kept 12 (branches_of ns) (ap (nodes 12).fits (listed-branches_of ns) ∙ fits) in
    record {
      able = and_from _ _ (ap is_counted (sym (listed-branches_of ns)) ∙ k.short) (and_from _ _ (le-leb _ 12 k.low) k.able);
      well = k.well;
    }

-- edits
spot_short : (s : Spot) → spot.fits s ≡ true → is_counted s.old ≡ true
unfolding spot
spot_short s fits = text_short s.old (first (text.fits s.old) (number16.fits s.occurrence) fits)

text_pos_able : (p : TextPos) → text_pos.fits p ≡ true → can_spell_text_pos p ≡ true
unfolding text_pos
text_pos_able (stands.Before s) fits = spot_short s fits
text_pos_able (stands.After s) fits = spot_short s fits
text_pos_able stands.Start fits = refl
text_pos_able stands.End fits = refl

split_at_able : (s : SplitAt) → split_at.fits s ≡ true → can_spell_split_at s ≡ true
unfolding split_at
split_at_able (cuts.Text s) fits = spot_short s fits
split_at_able (cuts.Child wid) fits = text_short wid fits

pair_short : (p : List ℕ × List ℕ) → num_pair.fits p ≡ true → is_counted p.0 ≡ true
unfolding num_pair
pair_short p fits = text_short p.0 (first (text.fits p.0) (num.fits p.1) fits)

pairs_able : (ps : List (List ℕ × List ℕ)) → num_pairs.fits ps ≡ true → (is_counted ps && list_all (λ p. is_counted p.0) ps) ≡ true
unfolding num_pairs
pairs_able ps fits = and_from _ _ (list_short num_pair ps fits) (all_from num_pair.fits (λ p. is_counted p.0) pair_short ps (list_each num_pair ps fits))

record EditKept (e : TextualMod) : Type 0 where
  able : can_spell_edit e ≡ true
  well : is_spelled_edit e ≡ true

edit_kept : (e : TextualMod) → edit.fits e ≡ true → EditKept e
unfolding edit
edit_kept (Repeal wid) fits = record { able = text_short wid fits; well = refl }
edit_kept (SubstituteNodes wid new) fits =
    let k = payload_kept new (second (text.fits wid) (payload.fits new) fits) in
    record { able = and_from _ _ (text_short wid (first (text.fits wid) _ fits)) k.able; well = k.well }
edit_kept (SubstituteText wid at new) fits =
    let rest = second (text.fits wid) _ fits in
    record {
      able = and_from _ _ (text_short wid (first (text.fits wid) _ fits)) (and_from _ _ (spot_short at (first (spot.fits at) _ rest)) (text_short new (second (spot.fits at) _ rest)));
      well = refl;
    }
edit_kept (InsertNodes wid at new) fits =
    let k = payload_kept new (second (pos.fits at) (payload.fits new) (second (text.fits wid) _ fits)) in
    record { able = and_from _ _ (text_short wid (first (text.fits wid) _ fits)) k.able; well = k.well }
edit_kept (InsertText wid at new) fits =
    let rest = second (text.fits wid) _ fits in
    record {
      able = and_from _ _ (text_short wid (first (text.fits wid) _ fits)) (and_from _ _ (text_pos_able at (first (text_pos.fits at) _ rest)) (text_short new (second (text_pos.fits at) _ rest)));
      well = refl;
    }
edit_kept (Renumber pairs) fits = record { able = pairs_able pairs fits; well = refl }
edit_kept (Split wid at number heading) fits =
    let rest = second (text.fits wid) _ fits in
    let end = second (num.fits number) (text.fits heading) (second (split_at.fits at) _ rest) in
    record {
      able = and_from _ _ (text_short wid (first (text.fits wid) _ fits)) (and_from _ _ (split_at_able at (first (split_at.fits at) _ rest)) (text_short heading end));
      well = refl;
    }
edit_kept (Join wid other separator) fits =
    let rest = second (text.fits wid) _ fits in
    record {
      able = and_from _ _ (text_short wid (first (text.fits wid) _ fits)) (and_from _ _ (text_short other (first (text.fits other) _ rest)) (text_short separator (second (text.fits other) _ rest)));
      well = refl;
    }

-- what modifications are directed at, and effects
destination_able : (d : Destination) → destination.fits d ≡ true → can_spell_destination d ≡ true
unfolding destination
destination_able (to.Modification i) fits = refl
destination_able (to.Node wid) fits = text_short wid fits

effect_well : (on : ℕ) (e : EfficacyEffect) → efficacy_effect.fits (on, e) ≡ true → is_spelled_effect on e ≡ true
unfolding efficacy_effect
effect_well on (efficacy.Entry d) fits = refl
effect_well on (efficacy.Ended d) fits = refl
effect_well on (efficacy.Retroactive d) fits = first (on == d) (day.fits d) fits
effect_well on (efficacy.Postponed d) fits = refl
effect_well on (efficacy.Prorogued d) fits = refl
effect_well on efficacy.Extra fits = refl
effect_well on (efficacy.Inapplied d) fits = refl

-- acts
language_well : (l : List ℕ) → language.fits l ≡ true → is_language l ≡ true
unfolding language
language_well l fits = first (is_language l) _ fits

day_well : (iri : List ℕ) (d : ℕ) → (act_day iri).fits d ≡ true → is_spelled_day (date_named iri) d ≡ true
unfolding act_day
day_well iri d fits = first (is_spelled_day (date_named iri) d) (day.fits d) fits

-- provisions that fit are well spelled, in every format
provision_well : (f : EntryFormat) (p : Option (List ℕ)) → (format_in f).provision.fits p ≡ true → is_spelled_provision p ≡ true
unfolding provision
provision_well formats_of.First None fits = refl
provision_well formats_of.First (Some p) fits = absurd cc
provision_well formats_of.Second p fits = first (is_spelled_provision p) _ fits

record ActKept (a : Act) : Type 0 where
  able : can_spell_payload a.body ≡ true
  well : is_spelled_act a ≡ true

-- acts, modifications and commands, in a format in which provisions that fit are well spelled
module _ (format : Format) (names : (p : Option (List ℕ)) → format.provision.fits p ≡ true → is_spelled_provision p ≡ true) where
  act_kept : (a : Act) → (act format).fits a ≡ true → ActKept a
  unfolding act act_rest is_spelled_act
  act_kept a fits =
      let b = second (work.fits a.work) _ fits in
      let c = second (language.fits a.language) _ b in
      let d = second (numbering.fits a.numbering) _ (second ((act_day a.work).fits a.day) _ c) in
      let k = payload_kept a.body (second (period.fits a.force) (payload.fits a.body) (second (format.limit.fits a.limit) _ d)) in
      record {
        able = k.able;
        well = and_from _ _ (and_from _ _ (language_well a.language (first _ _ b)) (day_well a.work a.day (first _ _ c))) k.well;
      }

  source_well : (s : ModSource) → (source format).fits s ≡ true → is_spelled_source s ≡ true
  unfolding source
  source_well s fits = names s.provision (second (number16.fits s.place) (format.provision.fits s.provision) (second (work.fits s.href) _ fits))

  modification_able : (m : Modification) → (modification format).fits m ≡ true → can_spell_modification m ≡ true
  unfolding modification
  modification_able (mods.Textual s p e) fits = (edit_kept e (second (period.fits p) (edit.fits e) (second ((source format).fits s) _ fits))).able
  modification_able (mods.Force s t on e) fits = destination_able t (first (destination.fits t) _ (second ((source format).fits s) _ fits))
  modification_able (mods.Efficacy s t on e) fits = destination_able t (first (destination.fits t) _ (second ((source format).fits s) _ fits))

  modification_well : (m : Modification) → (modification format).fits m ≡ true → is_spelled_modification m ≡ true
  unfolding modification
  modification_well (mods.Textual s p e) fits =
      and_from _ _ (source_well s (first ((source format).fits s) _ fits)) (edit_kept e (second (period.fits p) (edit.fits e) (second ((source format).fits s) _ fits))).well
  modification_well (mods.Force s t on e) fits = source_well s (first ((source format).fits s) _ fits)
  modification_well (mods.Efficacy s t on e) fits =
      and_from _ _ (source_well s (first ((source format).fits s) _ fits)) (effect_well on e (second (destination.fits t) _ (second ((source format).fits s) _ fits)))

  modifications_able : (ms : List Modification) → (modifications format).fits ms ≡ true → (is_counted ms && list_all can_spell_modification ms) ≡ true
  unfolding modifications
  modifications_able ms fits = and_from _ _ (list_short (modification format) ms fits) (all_from (modification format).fits can_spell_modification modification_able ms (list_each (modification format) ms fits))

  modifications_well : (ms : List Modification) → (modifications format).fits ms ≡ true → are_spelled_modifications ms ≡ true
  unfolding modifications are_spelled_modifications
  modifications_well ms fits = all_from (modification format).fits is_spelled_modification modification_well ms (list_each (modification format) ms fits)

  command_able : (c : Command) → (command format).fits c ≡ true → can_spell_command c ≡ true
  unfolding command
  command_able (Enact a) fits = (act_kept a fits).able
  command_able (Record iri ms) fits = modifications_able ms (second (work.fits iri) ((modifications format).fits ms) fits)
  command_able (Correct i body) fits = modification_able body (second (id.fits i) ((modification format).fits body) fits)
  command_able (Withdraw i) fits = refl
  command_able (Restore i) fits = refl
  command_able (DraftAdd iri body) fits = modification_able body (second (work.fits iri) ((modification format).fits body) fits)
  command_able (DraftDrop item) fits = refl
  command_able (File iri seen) fits = refl

  command_well : (c : Command) → (command format).fits c ≡ true → is_well_spelled c ≡ true
  unfolding command is_well_spelled
  command_well (Enact a) fits = (act_kept a fits).well
  command_well (Record iri ms) fits = modifications_well ms (second (work.fits iri) ((modifications format).fits ms) fits)
  command_well (Correct i body) fits = modification_well body (second (id.fits i) ((modification format).fits body) fits)
  command_well (Withdraw i) fits = refl
  command_well (Restore i) fits = refl
  command_well (DraftAdd iri body) fits = modification_well body (second (work.fits iri) ((modification format).fits body) fits)
  command_well (DraftDrop item) fits = refl
  command_well (File iri seen) fits = refl

-- entries
law_able : (o : Option ℕ) → law.fits o ≡ true → nat_lt 0 (unwrap_or o 1) ≡ true
unfolding law
law_able o fits = first (nat_lt 0 (unwrap_or o 1)) _ fits

command_of : (format : Format) (e : Entry) → (fields format).fits e ≡ true → (law.fits e.law && (command format).fits e.command) ≡ true
unfolding fields
command_of format e fits = second (day.fits e.day) _ (second (number64.fits e.request) _ (second (drafter.fits e.drafter) _ fits))

-- the law number and the command of an entry that keeps the rules fit, in the format that its command asks for
kept_command : (e : Entry) → keeps_rules e ≡ true → (law.fits e.law && (command (format_in (format_of e.command))).fits e.command) ≡ true
unfolding keeps_rules
kept_command e kept = command_of (format_in (format_of e.command)) e (sym (standing_fits (format_of e.command) e) ∙ kept)

pub entry_able : (e : Entry) → keeps_rules e ≡ true → can_be_spelled e ≡ true
unfolding can_be_spelled
entry_able e kept =
    let f = format_of e.command in
    let parts = and_parts (law.fits e.law) ((command (format_in f)).fits e.command) (kept_command e kept) in
    and_from _ _ (law_able e.law parts.0) (command_able (format_in f) (provision_well f) e.command parts.1)

pub entry_well : (e : Entry) → keeps_rules e ≡ true → is_well_spelled e.command ≡ true
entry_well e kept =
    let f = format_of e.command in
    command_well (format_in f) (provision_well f) e.command (second (law.fits e.law) ((command (format_in f)).fits e.command) (kept_command e kept))

-- what a call gives that gives what is decoded
pub given_well : (bytes : List ℕ) → ((i : ℕ) → get_or bytes i 0 < 256) → (result : Result Entry DecodeFail) → Gives (λ e. e) result (decoding bytes)
    → IfOk result (λ e. is_well_spelled e.command ≡ true)
given_well bytes small (Ok e) gives = entry_well e (decoded_keeps bytes small e gives)
given_well bytes small (Err fail) gives = tt

pub given_able : (bytes : List ℕ) → ((i : ℕ) → get_or bytes i 0 < 256) → (result : Result Entry DecodeFail) → Gives (λ e. e) result (decoding bytes)
    → IfOk result (λ e. can_be_spelled e ≡ true)
given_able bytes small (Ok e) gives = entry_able e (decoded_keeps bytes small e gives)
given_able bytes small (Err fail) gives = tt
