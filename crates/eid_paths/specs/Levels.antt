-- The levels of eIds: an element's word, `_` and a num.
use Rattle.std.specs.List.{list_all}
use Rattle.std.specs.Prelude.{ℕ, ◌+◌, ◌==◌, Bool, List, ◌∷◌, ◌++◌, Option, Some, None, Result, Ok, Err, if◌then◌else◌, length, take, drop, position, option_map}
use Rattle.eid_paths.specs.declared.element.Element.{Element}
use Rattle.eid_paths.specs.declared.level.Level.{Level}
use Rattle.eid_paths.specs.declared.eid_fault.EidRule.{EidRule}
use Rattle.eid_paths.specs.declared.eid_fault.EidRule.TheVariants.{UnknownElement, BadNum, EmptyLevel}
use Rattle.eid_paths.specs.Elements.{element_word, element_of_word}
use Rattle.eid_paths.specs.Nums.{num_of, is_num}

-- how an element and a num spell a level: the word of the element, `_` and the num
abbrev pub level_text : Element → List ℕ → List ℕ
level_text element num = element_word element ++ 95 ∷ num

-- what stands before the first `_` of a text, and what stands behind it, if it has one
abbrev pub word_and_num : List ℕ → Option (List ℕ × List ℕ)
word_and_num text = option_map (λ i. (take i text, drop (i + 1) text)) (position (λ b. b == 95) text)

-- the level of an element and a num; where either is missing, that is the rule that is broken
abbrev pub level_with : Option Element → Option (List ℕ) → Result Level EidRule
level_with None num = Err UnknownElement
level_with (Some element) None = Err BadNum
level_with (Some element) (Some num) = Ok (record { element = element; num = num })

-- the level of a word and of what stands behind the `_`
abbrev pub level_in : Option (List ℕ × List ℕ) → Result Level EidRule
level_in None = Err UnknownElement
level_in (Some halves) = level_with (element_of_word halves.0) (num_of halves.1)

-- the level that a text spells, or the rule that it breaks
abbrev pub level_of : List ℕ → Result Level EidRule
level_of text = if length text == 0 then Err EmptyLevel else level_in (word_and_num text)

-- each of these levels has a num that keeps the rule of nums
abbrev pub have_nums : List Level → Bool
have_nums levels = list_all (λ level. is_num level.num) levels
