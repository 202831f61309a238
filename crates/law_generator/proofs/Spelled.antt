-- The command of each request is well spelled.
use Rattle.std.proofs.Common.{◌≡◌, refl, ℕ, zero, suc, ◌==◌, Bool, true, false, List, [], ◌∷◌, ◌++◌, if◌then◌else◌}
use Rattle.std.proofs.lemmas.Bool.{and_from, and_parts}
use Rattle.act_tree.specs.Branches.{Branch, branches_of}
use Rattle.act_tree.specs.Provisions.{Own}
use Rattle.desk_base.specs.Days.{day_of, day_on, pair_of, number_of}
use Rattle.jiff_core.specs.Calendar.{day_count, days_of_months, days_of_years}
use Rattle.frbr_names.specs.Dates.{date_of, year_of}
use Rattle.frbr_names.specs.Expressions.{is_language}
use Rattle.frbr_names.specs.Parts.{after_front, behind_part, part_of}
use Rattle.frbr_names.specs.Rules.{begins_with_letter, is_jurisdiction, is_number, is_subdivision, is_word}
use Rattle.frbr_names.specs.Works.{behind_word, date_named, front_of, work_of}
use Rattle.law_generator.specs.Acts.{act, enactment, first_day, section, sections, work}
use Rattle.law_generator.specs.Drawn.{asked, behind, choice_of, chosen, drawn, next}
use Rattle.law_generator.specs.declared.choice.Choice.{Choice}
use Rattle.law_generator.specs.declared.choice.Choice.TheVariants.{Substitution, Repeal, Withdrawal, Correction}
use Rattle.law_register.specs.Law.Spelling.{are_spelled_modifications, are_spelled_nodes, is_spelled_act, is_spelled_day, is_spelled_node, is_spelled_payload, is_well_spelled}

-- one node more behind others
spelled_behind : (bs : List (Branch Own)) (b : Branch Own) → are_spelled_nodes (branches_of bs) ≡ true → is_spelled_node b ≡ true
    → are_spelled_nodes (branches_of (bs ++ b ∷ [])) ≡ true
spelled_behind [] b all one = and_from _ _ one refl
spelled_behind (x ∷ xs) b all one =
    let (first, later) = and_parts (is_spelled_node x) (are_spelled_nodes (branches_of xs)) all in
    and_from _ _ first (spelled_behind xs b later one)

sections_are : (n : ℕ) → is_spelled_payload (sections n) ≡ true
unfolding sections
sections_are zero = refl
sections_are (suc n) = spelled_behind (sections n) (section (suc n)) (sections_are n) refl

day_is : is_spelled_day (date_named work) first_day ≡ true
unfolding work date_named work_of front_of behind_word after_front behind_part part_of date_of day_of day_on pair_of number_of day_count days_of_years days_of_months year_of begins_with_letter is_jurisdiction is_number is_subdivision is_word
day_is = refl

act_is : is_spelled_act act ≡ true
unfolding is_spelled_act act is_language
act_is = and_from _ _ (and_from _ _ refl day_is) (sections_are 64)

chosen_is : (choice : Choice) (front x : ℕ) → is_well_spelled (chosen choice front x).command ≡ true
unfolding is_well_spelled are_spelled_modifications
chosen_is Substitution front x = refl
chosen_is Repeal front x = refl
chosen_is Withdrawal front x = refl
chosen_is Correction front x = refl

behind_is : (front x : ℕ) → is_well_spelled (behind front x).command ≡ true
unfolding behind
behind_is front x = chosen_is (choice_of front (drawn 8 (next x))) front (next x)

enactment_is : is_well_spelled enactment ≡ true
unfolding is_well_spelled
enactment_is = act_is

pub command_is : (request front x : ℕ) → is_well_spelled (asked request front x).command ≡ true
unfolding asked
command_is request front x = by (request == 1)
  where
    by : (first : Bool) → is_well_spelled (if first then record { command = enactment; state = x } else behind front x).command ≡ true
    by true = enactment_is
    by false = behind_is front x
