-- Each field of the format is exact.
use Rattle.std.proofs.Common.{◌≡◌, ℕ, zero, suc, ◌≤◌, ◌==◌, Bool, true, false, not, ◌&&◌, ◌||◌, if◌then◌else◌, List, [], ◌∷◌, length, min, Option, Some, None, refl, sym, ap, subst, ◌∙◌, arith}
use Rattle.std.specs.Prelude.{nat_lt, is_some, unwrap_or}
use Rattle.std.specs.List.{list_all}
use Rattle.std.specs.Int.{w32, w64}
use Rattle.std.specs.Str.{is_utf8}
use Rattle.std.proofs.lemmas.Bool.{and_parts, ltb-true, lt-ltb, eqb-true, eq-eqb, ne_eqb}
use Rattle.eid_paths.specs.Nums.{is_num}
use Rattle.eid_paths.specs.declared.element.Element.{Element}
use Rattle.eid_paths.specs.declared.numbering.Numbering.{Numbering}
use Rattle.desk_base.specs.declared.period.Period.{Period}
use Rattle.frbr_names.specs.Expressions.{is_expression, is_language}
use Rattle.frbr_names.specs.Rules.{is_portion}
use Rattle.frbr_names.specs.Works.{date_named}
use Rattle.act_tree.specs.Branches.{Branch, branch, listed, listed-branches_of, branches_of-listed}
use Rattle.act_tree.specs.Provisions.{Own}
use Rattle.act_tree.specs.declared.limits.NodeLimit.{NodeLimit}
use Rattle.act_tree.specs.declared.limits.NodeLimit.TheVariants.{Plain, Wide}
use Rattle.bearing_mods.specs.declared.efficacy.EfficacyEffect.{EfficacyEffect}
use Rattle.bearing_mods.specs.declared.efficacy.EfficacyEffect.TheVariants as efficacy
use Rattle.bearing_mods.specs.declared.force.ForceEffect.{ForceEffect}
use Rattle.bearing_mods.specs.declared.force.ForceEffect.TheVariants as force
use Rattle.textual_mods.specs.declared.edit.Pos.TheVariants as places
use Rattle.textual_mods.specs.declared.edit.SplitAt.TheVariants as cuts
use Rattle.textual_mods.specs.declared.edit.TextPos.TheVariants as stands
use Rattle.textual_mods.specs.declared.edit.TextualMod.TheVariants.{Repeal, SubstituteNodes, SubstituteText, InsertNodes, InsertText, Renumber, Split, Join}
use Rattle.law_register.specs.Law.Formats.{is_wide}
use Rattle.law_register.specs.Law.Spelling.{is_spelled_day, is_spelled_provision}
use Rattle.law_register.specs.Register.Drafters.{is_drafter}
use Rattle.law_register.specs.declared.law.act.Act.{Act}
use Rattle.law_register.specs.declared.law.command.Command.{Command}
use Rattle.law_register.specs.declared.law.command.Command.TheVariants.{Enact, Record, Correct, Withdraw, Restore, DraftAdd, DraftDrop, File}
use Rattle.law_register.specs.declared.law.format.EntryFormat.{EntryFormat}
use Rattle.law_register.specs.declared.law.format.EntryFormat.TheVariants as formats_of
use Rattle.law_register.specs.declared.law.modification.Destination.TheVariants as to
use Rattle.law_register.specs.declared.law.modification.Modification.TheVariants.{Textual, Force, Efficacy}
use Rattle.law_register.specs.declared.register.entry.Entry.{Entry}
use Rattle.entry_codec.specs.Fields.{Field, nothing, byte, chunk, tested, given, pair, made, kind_value, each}
use Rattle.entry_codec.specs.Values.{number16, number32, number64, text_of, ruled_text, text, text_where, name_where, drafter, num, is_work, work, expression, list_of, refs, is_day, day, some_but_zero, or_none, day_or_none, law, period_from, period, id_from, id, language, act_day, numbering, destination_kinds, destination_parts, destination, spot_from, spot}
use Rattle.entry_codec.specs.Nodes.{element, own_from, own, node_from, node_parts, nodes, node, payload}
use Rattle.entry_codec.specs.Acts.{act_rest, act_from, act}
use Rattle.entry_codec.specs.Formats.{Format, unsaid, limit_number, limit_numbered, limit, some_but_empty, is_empty_or_portion, provision, format_in}
use Rattle.entry_codec.specs.Modifications.{pos_kinds, pos_parts, pos, text_pos_kinds, text_pos_parts, text_pos, split_at_kinds, split_at_parts, split_at, num_pair, num_pairs, edit_kinds, edit_parts, edit, dates, one_day, same_dates, force_kinds, force_parts, force_effect, efficacy_kinds, efficacy_parts, efficacy_effect, source_from, source, modification_kinds, modification_parts, modification, modifications}
use Rattle.entry_codec.specs.Commands.{command_kinds, command_parts, command}
use Rattle.entry_codec.specs.Entries.{entry_from, fields, formats, format_parts, entry}
use Rattle.entry_codec.proofs.Exact.{IsExact, is_byte, some_is, byte_exact, chunk_exact, tested_exact, given_exact, pair_exact, made_exact, number_exact, wide32, wide64, nothing_exact, one_of_exact, each_exact, counted_exact}
use Rattle.entry_codec.proofs.Numberings.{element_exact, number16_exact, numbering_exact}

-- what is made of the parts of a value, whatever they are
iso_exact : {A V : Type 0} (make : A → V) (parts : V → A) (f : Field A) → IsExact f → ((a : A) → parts (make a) ≡ a) → ((v : V) → make (parts v) ≡ v)
    → IsExact (made make (λ v. Some (parts v)) f)
iso_exact make parts f exact there back = made_exact (λ _. true) make (λ v. Some (parts v)) f exact (record {
  parted = λ a fits. ap Some (there a);
  ruled = λ a fits. refl;
  whole = λ v a rule apart. ap make (sym (some_is (parts v) a apart)) ∙ back v;
})

-- numbers and texts
number32_exact : IsExact number32
unfolding number32
number32_exact = number_exact w32 wide32

number64_exact : IsExact number64
unfolding number64
number64_exact = number_exact w64 wide64

number16_small : (n : ℕ) → number16.fits n ≡ true → n ≤ 65535
unfolding number16
number16_small n fits = let lt = ltb-true n 65536 (and_parts (nat_lt n 65536) _ fits).0 in omega (arith, lt)

byte_small : (n : ℕ) → byte.fits n ≡ true → n ≤ 255
byte_small n fits = let lt = ltb-true n 256 fits in omega (arith, lt)

text_of_exact : (n : ℕ) → IsExact (text_of n)
unfolding text_of
text_of_exact n = tested_exact is_utf8 (chunk n) (chunk_exact n)

text_of_long : (n : ℕ) (t : List ℕ) → (text_of n).fits t ≡ true → length t ≡ n
unfolding text_of
text_of_long n t fits = eqb-true _ _ (and_parts (length t == n) (list_all is_byte t) (and_parts (is_utf8 t) ((chunk n).fits t) fits).1).0

ruled_exact : (rule : List ℕ → Bool) (n : ℕ) → IsExact (ruled_text rule n)
ruled_exact rule n = tested_exact rule (text_of n) (text_of_exact n)

ruled_long : (rule : List ℕ → Bool) (n : ℕ) (t : List ℕ) → (ruled_text rule n).fits t ≡ true → length t ≡ n
ruled_long rule n t fits = text_of_long n t (and_parts (rule t) ((text_of n).fits t) fits).1

pub text_exact : IsExact text
unfolding text
text_exact = counted_exact 65535 number16 text_of number16_exact text_of_exact text_of_long number16_small

text_where_exact : (rule : List ℕ → Bool) → IsExact (text_where rule)
text_where_exact rule = counted_exact 65535 number16 (ruled_text rule) number16_exact (ruled_exact rule) (ruled_long rule) number16_small

name_where_exact : (rule : List ℕ → Bool) → IsExact (name_where rule)
name_where_exact rule = counted_exact 255 byte (ruled_text rule) byte_exact (ruled_exact rule) (ruled_long rule) byte_small

drafter_exact : IsExact drafter
unfolding drafter
drafter_exact = name_where_exact is_drafter

num_exact : IsExact num
unfolding num
num_exact = name_where_exact is_num

work_exact : IsExact work
unfolding work
work_exact = text_where_exact is_work

expression_exact : IsExact expression
unfolding expression
expression_exact = text_where_exact is_expression

each_long : {V : Type 0} (f : Field V) (n : ℕ) (vs : List V) → (each f n).fits vs ≡ true → length vs ≡ n
each_long f n vs fits = eqb-true _ _ (and_parts (length vs == n) (list_all f.fits vs) fits).0

list_exact : {V : Type 0} (f : Field V) → IsExact f → IsExact (list_of f)
list_exact f exact = counted_exact 65535 number16 (each f) number16_exact (each_exact f exact) (each_long f) number16_small

refs_exact : IsExact refs
unfolding refs
refs_exact = list_exact expression expression_exact

-- days and what is made of them
day_exact : IsExact day
unfolding day
day_exact = tested_exact is_day number32 number32_exact

abbrev some_unless : ℕ → Bool → Option ℕ
some_unless n none = if none then None else Some n

some_suc : (n : ℕ) → some_but_zero (suc n) ≡ Some (suc n)
some_suc n = ap (some_unless (suc n)) (ne_eqb (suc n) 0 (λ e. omega (arith, e)))

or_zero : (a : ℕ) → unwrap_or (some_but_zero a) 0 ≡ a
or_zero zero = refl
or_zero (suc a) = ap (λ o. unwrap_or o 0) (some_suc a)

or_one : (a : ℕ) → nat_lt 0 (unwrap_or (some_but_zero a) 1) ≡ true
or_one zero = refl
or_one (suc a) = ap (λ o. nat_lt 0 (unwrap_or o 1)) (some_suc a) ∙ lt-ltb 0 (suc a) (omega arith)

not_zero : (n : ℕ) → nat_lt 0 n ≡ true → some_but_zero n ≡ Some n
not_zero zero e = absurd cc
not_zero (suc n) e = some_suc n

or_none_whole : (v : Option ℕ) (a : ℕ) → nat_lt 0 (unwrap_or v 1) ≡ true → Some (unwrap_or v 0) ≡ Some a → some_but_zero a ≡ v
or_none_whole None a rule apart = ap some_but_zero (sym (some_is 0 a apart))
or_none_whole (Some n) a rule apart = ap some_but_zero (sym (some_is n a apart)) ∙ not_zero n rule

or_none_exact : (f : Field ℕ) → IsExact f → IsExact (or_none f)
or_none_exact f exact = made_exact (λ o. nat_lt 0 (unwrap_or o 1)) some_but_zero (λ o. Some (unwrap_or o 0)) f exact (record {
  parted = λ a fits. ap Some (or_zero a);
  ruled = λ a fits. or_one a;
  whole = or_none_whole;
})

day_or_none_exact : IsExact day_or_none
unfolding day_or_none
day_or_none_exact = or_none_exact (tested (λ n. n == 0 || is_day n) number32) (tested_exact (λ n. n == 0 || is_day n) number32 number32_exact)

law_exact : IsExact law
unfolding law
law_exact = or_none_exact number32 number32_exact

period_exact : IsExact period
unfolding period
period_exact = iso_exact period_from (λ p. (p.start, p.end)) (pair day day_or_none) (pair_exact day day_or_none day_exact day_or_none_exact) (λ _. refl) (λ _. refl)

id_exact : IsExact id
unfolding id
id_exact = iso_exact id_from (λ i. (i.law, i.item)) (pair number32 number16) (pair_exact number32 number16 number32_exact number16_exact) (λ _. refl) (λ _. refl)

language_exact : IsExact language
unfolding language
language_exact = tested_exact is_language (chunk 3) (chunk_exact 3)

act_day_exact : (iri : List ℕ) → IsExact (act_day iri)
unfolding act_day
act_day_exact iri = tested_exact (is_spelled_day (date_named iri)) day day_exact

spot_exact : IsExact spot
unfolding spot
spot_exact = iso_exact spot_from (λ s. (s.old, s.occurrence)) (pair text number16) (pair_exact text number16 text_exact number16_exact) (λ _. refl) (λ _. refl)

destination_exact : IsExact destination
unfolding destination
destination_exact =
    one_of_exact destination_kinds destination_parts refl (elim [ to.Modification _ ↦ refl | to.Node _ ↦ refl ])
    (id_exact, (λ _ _. refl), (text_exact, (λ _ _. refl), tt))

-- nodes
abbrev of_own : Own → Element × (List ℕ × (List ℕ × (List ℕ × List (List ℕ))))
of_own o = (o.element, (o.num, (o.heading, (o.content, o.refs))))

own_exact : IsExact own
unfolding own
own_exact =
    iso_exact own_from of_own (pair element (pair num (pair text (pair text refs))))
    (pair_exact element (pair num (pair text (pair text refs))) element_exact (pair_exact num (pair text (pair text refs)) num_exact
    (pair_exact text (pair text refs) text_exact (pair_exact text refs text_exact refs_exact))))
    (λ _. refl) (λ _. refl)

abbrev of_node : Own → List (Branch Own) → Own × List (Branch Own)
of_node o below = (o, below)

node_parted : (a : Own × List (Branch Own)) → node_parts (node_from a) ≡ Some a
node_parted a = ap (λ below. Some (of_node a.0 below)) (listed-branches_of a.1)

node_whole : (b : Branch Own) (a : Own × List (Branch Own)) → node_parts b ≡ Some a → node_from a ≡ b
node_whole (branch o below) a e = ap node_from (sym (some_is (of_node o (listed below)) a e)) ∙ ap (branch o) (branches_of-listed below)

node_exact : (depth : ℕ) → IsExact (nodes depth) → IsExact (node depth)
node_exact depth exact = made_exact (λ _. true) node_from node_parts (pair own (nodes depth)) (pair_exact own (nodes depth) own_exact exact) (record {
  parted = λ a fits. node_parted a;
  ruled = λ a fits. refl;
  whole = λ b a rule apart. node_whole b a apart;
})

no_nodes : (v : List (Branch Own)) (a : ℕ) → (length v == 0) ≡ true → Some 0 ≡ Some a → [] ≡ v
no_nodes [] a rule apart = refl
no_nodes (b ∷ bs) a rule apart = let e = eqb-true (length (b ∷ bs)) 0 rule in absurd (omega (arith, e))

zero_is : (a : ℕ) → (a == 0 && number16.fits a) ≡ true → Some 0 ≡ Some a
zero_is a fits = ap Some (sym (eqb-true a 0 (and_parts (a == 0) (number16.fits a) fits).0))

pub nodes_exact : (depth : ℕ) → IsExact (nodes depth)
unfolding nodes
nodes_exact zero = made_exact (λ ns. length ns == 0) (λ _. []) (λ _. Some 0) (tested (λ n. n == 0) number16) (tested_exact (λ n. n == 0) number16 number16_exact) (record {
  parted = zero_is;
  ruled = λ a fits. refl;
  whole = no_nodes;
})
nodes_exact (suc depth) = list_exact (node depth) (node_exact depth (nodes_exact depth))

payload_exact : IsExact payload
unfolding payload
payload_exact = nodes_exact 12

-- edits
pos_exact : IsExact pos
unfolding pos
pos_exact =
    one_of_exact pos_kinds pos_parts refl
    (elim [ places.Before ↦ refl | places.After ↦ refl | places.Start ↦ refl | places.End ↦ refl ])
    (nothing_exact, (λ _ _. refl), (nothing_exact, (λ _ _. refl), (nothing_exact, (λ _ _. refl), (nothing_exact, (λ _ _. refl), tt))))

text_pos_exact : IsExact text_pos
unfolding text_pos
text_pos_exact =
    one_of_exact text_pos_kinds text_pos_parts refl
    (elim [ stands.Before _ ↦ refl | stands.After _ ↦ refl | stands.Start ↦ refl | stands.End ↦ refl ])
    (spot_exact, (λ _ _. refl), (spot_exact, (λ _ _. refl), (nothing_exact, (λ _ _. refl), (nothing_exact, (λ _ _. refl), tt))))

split_at_exact : IsExact split_at
unfolding split_at
split_at_exact =
    one_of_exact split_at_kinds split_at_parts refl (elim [ cuts.Text _ ↦ refl | cuts.Child _ ↦ refl ])
    (spot_exact, (λ _ _. refl), (text_exact, (λ _ _. refl), tt))

num_pair_exact : IsExact num_pair
unfolding num_pair
num_pair_exact = pair_exact text num text_exact num_exact

num_pairs_exact : IsExact num_pairs
unfolding num_pairs
num_pairs_exact = list_exact num_pair num_pair_exact

edit_exact : IsExact edit
unfolding edit
edit_exact =
    one_of_exact edit_kinds edit_parts refl
    (elim [ Repeal _ ↦ refl | SubstituteNodes _ _ ↦ refl | SubstituteText _ _ _ ↦ refl | InsertNodes _ _ _ ↦ refl | InsertText _ _ _ ↦ refl | Renumber _ ↦ refl | Split _ _ _ _ ↦ refl | Join _ _ _ ↦ refl ]) (
      text_exact,
      (λ _ _. refl),
      (
        pair_exact text payload text_exact payload_exact,
        (λ _ _. refl),
        (
          pair_exact text (pair spot text) text_exact (pair_exact spot text spot_exact text_exact),
          (λ _ _. refl),
          (
            pair_exact text (pair pos payload) text_exact (pair_exact pos payload pos_exact payload_exact),
            (λ _ _. refl),
            (
              pair_exact text (pair text_pos text) text_exact (pair_exact text_pos text text_pos_exact text_exact),
              (λ _ _. refl),
              (
                num_pairs_exact,
                (λ _ _. refl),
                (
                  pair_exact text (pair split_at (pair num text)) text_exact (pair_exact split_at (pair num text) split_at_exact (pair_exact num text num_exact text_exact)),
                  (λ _ _. refl),
                  (pair_exact text (pair text text) text_exact (pair_exact text text text_exact text_exact), (λ _ _. refl), tt),
                ),
              ),
            ),
          ),
        ),
      ),
    )

-- effects
dates_exact : IsExact dates
dates_exact = pair_exact day day day_exact day_exact

abbrev beside : ℕ → ℕ → ℕ × ℕ
beside on date = (on, date)

same_dates_whole : (p : ℕ × ℕ) (d : ℕ) → (p.0 == p.1) ≡ true → Some p.1 ≡ Some d → beside d d ≡ p
same_dates_whole p d same apart = ap (λ n. beside n n) (sym (some_is p.1 d apart)) ∙ ap (λ n. beside n p.1) (sym (eqb-true p.0 p.1 same))

same_dates_exact : IsExact same_dates
same_dates_exact = made_exact (λ p. p.0 == p.1) (λ d. beside d d) (λ p. Some p.1) one_day day_exact (record {
  parted = λ a fits. refl;
  ruled = λ a fits. eq-eqb a a refl;
  whole = same_dates_whole;
})

force_whole : (on : ℕ) (e : ForceEffect) → kind_value force_kinds (force_parts on e) ≡ (on, e)
force_whole on = elim [ force.Entry _ ↦ refl | force.Postponed _ ↦ refl | force.Ended _ ↦ refl | force.Prorogued _ ↦ refl | force.ReEnacted _ ↦ refl ]

force_effect_exact : IsExact force_effect
unfolding force_effect
force_effect_exact =
    one_of_exact force_kinds (λ p. force_parts p.0 p.1) refl (λ p. force_whole p.0 p.1)
    (dates_exact, (λ _ _. refl), (dates_exact, (λ _ _. refl), (dates_exact, (λ _ _. refl), (dates_exact, (λ _ _. refl), (dates_exact, (λ _ _. refl), tt)))))

efficacy_whole : (on : ℕ) (e : EfficacyEffect) → kind_value efficacy_kinds (efficacy_parts on e) ≡ (on, e)
efficacy_whole on = elim [ efficacy.Entry _ ↦ refl | efficacy.Ended _ ↦ refl | efficacy.Retroactive _ ↦ refl | efficacy.Postponed _ ↦ refl | efficacy.Prorogued _ ↦ refl | efficacy.Extra ↦ refl | efficacy.Inapplied _ ↦ refl ]

efficacy_effect_exact : IsExact efficacy_effect
unfolding efficacy_effect
efficacy_effect_exact =
    one_of_exact efficacy_kinds (λ p. efficacy_parts p.0 p.1) refl (λ p. efficacy_whole p.0 p.1) (
      dates_exact,
      (λ _ _. refl),
      (
        dates_exact,
        (λ _ _. refl),
        (
          same_dates_exact,
          (λ _ _. refl),
          (
            dates_exact,
            (λ _ _. refl),
            (
              dates_exact,
              (λ _ _. refl),
              (day_exact, (λ _ _. refl), (pair_exact day period day_exact period_exact, (λ _ _. refl), tt)),
            ),
          ),
        ),
      ),
    )

-- what a format does not say
unsaid_exact : {V : Type 0} (is_it : V → Bool) (value : V) → is_it value ≡ true → ((v : V) → is_it v ≡ true → value ≡ v) → IsExact (unsaid is_it value)
unsaid_exact is_it value is only = made_exact is_it (λ _. value) (λ _. Some tt) nothing nothing_exact (record {
  parted = λ a fits. refl;
  ruled = λ a fits. is;
  whole = λ v a rule apart. only v rule;
})

plain_alone : (l : NodeLimit) → not (is_wide l) ≡ true → Plain ≡ l
plain_alone Plain plain = refl
plain_alone Wide plain = absurd cc

none_alone : (p : Option (List ℕ)) → not (is_some p) ≡ true → None ≡ p
none_alone None none = refl
none_alone (Some p) none = absurd cc

-- the limit of an act
limit_there : (n : ℕ) → (n == 4096 || n == 8192) ≡ true → limit_number (limit_numbered n) ≡ n
limit_there n is = by (n == 4096) refl is
  where
    as_is : (m : ℕ) → limit_number (limit_numbered m) ≡ m → n ≡ m → limit_number (limit_numbered n) ≡ n
    as_is m there same = subst (λ k. limit_number (limit_numbered k) ≡ k) (sym same) there

    by : (t : Bool) → (n == 4096) ≡ t → (t || n == 8192) ≡ true → limit_number (limit_numbered n) ≡ n
    by true plain either = as_is 4096 refl (eqb-true n 4096 plain)
    by false plain either = as_is 8192 refl (eqb-true n 8192 either)

limit_back : (l : NodeLimit) → limit_numbered (limit_number l) ≡ l
limit_back Plain = refl
limit_back Wide = refl

limit_exact : IsExact limit
unfolding limit
limit_exact = made_exact (λ _. true) limit_numbered (λ l. Some (limit_number l)) (tested (λ n. n == 4096 || n == 8192) number16) (tested_exact (λ n. n == 4096 || n == 8192) number16 number16_exact) (record {
  parted = λ a fits. ap Some (limit_there a (and_parts (a == 4096 || a == 8192) (number16.fits a) fits).0);
  ruled = λ a fits. refl;
  whole = λ l a rule apart. ap limit_numbered (sym (some_is (limit_number l) a apart)) ∙ limit_back l;
})

-- the provision of a source
not_empty : (b : ℕ) (t : List ℕ) → (length (b ∷ t) == 0) ≡ false
not_empty b t = ne_eqb (length (b ∷ t)) 0 (λ e. omega (arith, e))

abbrev some_if : List ℕ → Bool → Option (List ℕ)
some_if t empty = if empty then None else Some t

some_more : (b : ℕ) (t : List ℕ) → some_but_empty (b ∷ t) ≡ Some (b ∷ t)
some_more b t = ap (some_if (b ∷ t)) (not_empty b t)

text_there : (t : List ℕ) → unwrap_or (some_but_empty t) [] ≡ t
text_there [] = refl
text_there (b ∷ t) = ap (λ o. unwrap_or o []) (some_more b t)

provision_ruled : (t : List ℕ) → is_empty_or_portion t ≡ true → is_spelled_provision (some_but_empty t) ≡ true
provision_ruled [] rule = refl
provision_ruled (b ∷ t) rule = ap is_spelled_provision (some_more b t) ∙ sym (ap (λ x. x || is_portion (b ∷ t)) (not_empty b t)) ∙ rule

provision_whole : (v : Option (List ℕ)) (t : List ℕ) → is_spelled_provision v ≡ true → Some (unwrap_or v []) ≡ Some t → some_but_empty t ≡ v
unfolding is_portion
provision_whole None t rule apart = ap some_but_empty (sym (some_is [] t apart))
provision_whole (Some []) t rule apart = absurd cc
provision_whole (Some (b ∷ p)) t rule apart = ap some_but_empty (sym (some_is (b ∷ p) t apart)) ∙ some_more b p

text_where_rule : (rule : List ℕ → Bool) (t : List ℕ) → (text_where rule).fits t ≡ true → rule t ≡ true
text_where_rule rule t fits =
    (and_parts (rule t) ((text_of (min (length t) 65535)).fits t) (and_parts (number16.fits (min (length t) 65535)) ((ruled_text rule (min (length t) 65535)).fits t) fits).1).0

provision_exact : IsExact provision
unfolding provision
provision_exact = made_exact is_spelled_provision some_but_empty (λ p. Some (unwrap_or p [])) (text_where is_empty_or_portion) (text_where_exact is_empty_or_portion) (record {
  parted = λ a fits. ap Some (text_there a);
  ruled = λ a fits. provision_ruled a (text_where_rule is_empty_or_portion a fits);
  whole = provision_whole;
})

-- a format is exact where what it spells in a way of its own is, and so is then all that is spelled around that
record IsExactFormat (format : Format) : Type 0 where
  limit : IsExact format.limit
  provision : IsExact format.provision

format_exact : (format : EntryFormat) → IsExactFormat (format_in format)
format_exact formats_of.First = record {
  limit = unsaid_exact (λ l. not (is_wide l)) Plain refl plain_alone;
  provision = unsaid_exact (λ p. not (is_some p)) None refl none_alone;
}
format_exact formats_of.Second = record { limit = limit_exact; provision = provision_exact }

abbrev act_of : Act → List ℕ × (List ℕ × (ℕ × (Numbering × (NodeLimit × (Period × List (Branch Own))))))
act_of a = (a.work, (a.language, (a.day, (a.numbering, (a.limit, (a.force, a.body))))))

abbrev entry_of : Entry → List ℕ × (ℕ × (ℕ × (Option ℕ × Command)))
entry_of e = (e.drafter, (e.request, (e.day, (e.law, e.command))))

module _ (format : Format) (exact : IsExactFormat format) where
  act_rest_exact : (iri : List ℕ) → IsExact (act_rest format iri)
  unfolding act_rest
  act_rest_exact iri =
      pair_exact (act_day iri) (pair numbering (pair format.limit (pair period payload))) (act_day_exact iri)
      (pair_exact numbering (pair format.limit (pair period payload)) numbering_exact
      (pair_exact format.limit (pair period payload) exact.limit (pair_exact period payload period_exact payload_exact)))

  act_exact : IsExact (act format)
  unfolding act
  act_exact =
      iso_exact act_from act_of (given work (λ iri. pair language (act_rest format iri)))
      (given_exact work (λ iri. pair language (act_rest format iri)) work_exact (λ iri. pair_exact language (act_rest format iri) language_exact (act_rest_exact iri)))
      (λ _. refl) (λ _. refl)

  source_exact : IsExact (source format)
  unfolding source
  source_exact =
      iso_exact source_from (λ s. (s.href, (s.place, s.provision))) (pair work (pair number16 format.provision))
      (pair_exact work (pair number16 format.provision) work_exact (pair_exact number16 format.provision number16_exact exact.provision))
      (λ _. refl) (λ _. refl)

  modification_exact : IsExact (modification format)
  unfolding modification
  modification_exact =
      one_of_exact (modification_kinds format) (modification_parts format) refl
      (elim [ Textual _ _ _ ↦ refl | Force _ _ _ _ ↦ refl | Efficacy _ _ _ _ ↦ refl ]) (
        pair_exact (source format) (pair period edit) source_exact (pair_exact period edit period_exact edit_exact),
        (λ _ _. refl),
        (
          pair_exact (source format) (pair destination force_effect) source_exact (pair_exact destination force_effect destination_exact force_effect_exact),
          (λ _ _. refl),
          (pair_exact (source format) (pair destination efficacy_effect) source_exact (pair_exact destination efficacy_effect destination_exact efficacy_effect_exact), (λ _ _. refl), tt),
        ),
      )

  modifications_exact : IsExact (modifications format)
  unfolding modifications
  modifications_exact = list_exact (modification format) modification_exact

  command_exact : IsExact (command format)
  unfolding command
  command_exact =
      one_of_exact (command_kinds format) (command_parts format) refl
      (elim [ Enact _ ↦ refl | Record _ _ ↦ refl | Correct _ _ ↦ refl | Withdraw _ ↦ refl | Restore _ ↦ refl | DraftAdd _ _ ↦ refl | DraftDrop _ ↦ refl | File _ _ ↦ refl ]) (
        act_exact,
        (λ _ _. refl),
        (
          pair_exact work (modifications format) work_exact modifications_exact,
          (λ _ _. refl),
          (
            pair_exact id (modification format) id_exact modification_exact,
            (λ _ _. refl),
            (
              id_exact,
              (λ _ _. refl),
              (
                id_exact,
                (λ _ _. refl),
                (
                  pair_exact work (modification format) work_exact modification_exact,
                  (λ _ _. refl),
                  (
                    number32_exact,
                    (λ _ _. refl),
                    (pair_exact work number32 work_exact number32_exact, (λ _ _. refl), tt),
                  ),
                ),
              ),
            ),
          ),
        ),
      )

  fields_exact : IsExact (fields format)
  unfolding fields
  fields_exact =
      iso_exact entry_from entry_of (pair drafter (pair number64 (pair day (pair law (command format)))))
      (pair_exact drafter (pair number64 (pair day (pair law (command format)))) drafter_exact
      (pair_exact number64 (pair day (pair law (command format))) number64_exact
      (pair_exact day (pair law (command format)) day_exact (pair_exact law (command format) law_exact command_exact))))
      (λ _. refl) (λ _. refl)

entry_whole : (format : EntryFormat) (e : Entry) → kind_value formats (format_parts format e) ≡ (format, e)
entry_whole formats_of.First e = refl
entry_whole formats_of.Second e = refl

pub entry_exact : IsExact entry
unfolding entry
entry_exact =
    one_of_exact formats (λ x. format_parts x.0 x.1) refl (λ x. entry_whole x.0 x.1) (
      fields_exact (format_in formats_of.First) (format_exact formats_of.First),
      (λ _ _. refl),
      (fields_exact (format_in formats_of.Second) (format_exact formats_of.Second), (λ _ _. refl), tt),
    )
