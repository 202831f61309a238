-- The words of the command line, as they are taken.
use Rattle.std.specs.Prelude.{ℕ, ◌==◌, Bool, false, List, [], ◌∷◌, Option, Some, None, option_map, codes}
use Rattle.clap.specs.Words.{found_of, matched_of, raw_values}
use Rattle.clap.specs.declared.parser.matches.ArgMatches.{ArgMatches}

-- a word begins with a dash
abbrev pub begins_with_dash : List ℕ → Bool
begins_with_dash [] = false
begins_with_dash (byte ∷ bytes) = byte == 45

-- what is given of an argument that takes all words: nothing, where there is none
abbrev pub given : List (List ℕ) → Option (List (List ℕ))
given [] = None
given (word ∷ words) = Some (word ∷ words)

-- the words that were found of that argument
abbrev pub words_in : ArgMatches → Option (List (List ℕ))
words_in matches = option_map raw_values (matched_of (found_of matches) (codes "words"))
