-- What clap takes of words of which none begins with a dash: a command with one positional that takes every word.
use Rattle.std.proofs.Common.{◌≡◌, ◌∙◌, Bool, true, false, List, [], ◌∷◌, ◌++◌, codes, Some, None, option_map, refl, ap, append_assoc, fold, true≢false}
use Rattle.std.specs.Prelude.{◌&&◌, ◌||◌, option_and_then, cond}
use Rattle.std.specs.List.{list_any}
use Rattle.std.specs.Str.{bytes_eq}
use Rattle.clap.specs.Lexer.{long_of, long_of_rest, short_of, short_of_rest, strip_byte}
use Rattle.clap.specs.Walk.{Row, Rule, Text, Walk, after_step, all_of, rows_of, finished, idle, nothing_held, positional, value, walk, walk_from, walked, word_met}
use Rattle.clap.specs.Simple.{App, built, is_simple, matches_of, new_app, new_rule, on_top, with_rule}
use Rattle.clap.specs.Takes.{level_passes, settle_passes, takes, turn_passes, walk_passes}
use Rattle.clap.specs.declared.builder.action.ArgAction.TheVariants.{Append}
use Rattle.clap.specs.declared.builder.value_parser.ValueParser.TheVariants as vp
use Rattle.clap.specs.declared.parser.matches.ValueSource.TheVariants.{CommandLine}
use Rattle.clap.specs.Values.{reading_of}
use Rattle.clap.specs.Matches.{matched_of, raw_values}
use Rattle.clap.specs.declared.parser.matches.Found.{Found}
use Rattle.clap.proofs.WalkLemmas.{raw_values-rows}
use Rattle.clap.proofs.TakesLemmas.{leaf_takes}
use Rattle.lawdesk.specs.Taking.{begins_with_dash, given}

-- the argument that takes every word, and the command
abbrev pub rest : Rule
rest = record (new_rule (codes "words")) { action = Some Append; trailing_var_arg = true }

abbrev pub bare : App
bare = on_top (λ s. record s { no_binary_name = true; disable_help_flag = true }) (new_app (codes "lawdesk"))

abbrev pub app : App
app = with_rule bare rest

-- the argument as it is built
abbrev full : List Rule
full = (built app).top.rules

pub simple : is_simple app ≡ true
simple = refl

-- the row of words that were used
abbrev row : List Text → List Row
row [] = []
row (v ∷ vs) = record {
  id = codes "words";
  values = v ∷ vs;
  count = None;
  source = Some CommandLine;
  reading = reading_of vp.String;
} ∷ []

-- where the walk stands behind words, of which the last is still pending
abbrev at : List Text → Text → Walk
at front last = record {
  held = record { rows = row front; pending = Some (codes "words", last ∷ []); skip = 0 };
  waiting = positional;
  position = 1;
  is_trailing = true;
  stopped = None;
}

-- of two tests neither holds
neither : (a b : Bool) → (a || b) ≡ false → (a ≡ false) × (b ≡ false)
neither true b none = absurd (true≢false none)
neither false b none = (refl, none)

moves : (front : List Text) (last word : Text) → walked full [] (at front last) word ≡ at (front ++ last ∷ []) word
unfolding walked
moves [] last word = refl
moves (v ∷ vs) last word = refl

-- the row of all words, the last of them too, is what the walk ends with
finishes : (front : List Text) (last : Text) (words : List Text)
    → finished full (fold (walked full []) (at front last) words).held ≡ row (front ++ last ∷ words)
finishes [] last [] = refl
finishes (v ∷ vs) last [] = refl
finishes front last (word ∷ words) =
    ap (λ w. finished full (fold (walked full []) w words).held) (moves front last word)
    ∙ finishes (front ++ last ∷ []) word words ∙ ap row (append_assoc front (last ∷ []) (word ∷ words))

-- each word behind the first passes
passes : (front : List Text) (last : Text) (words : List Text) → walk_passes (built app).top [] (at front last) words ≡ true
unfolding walk_passes
passes front last [] = refl
passes front last (word ∷ words) =
    ap (λ w. walk_passes (built app).top [] w words) (moves front last word) ∙ passes (front ++ last ∷ []) word words

-- and what is pending at the end does
settles : (front : List Text) (last : Text) (words : List Text)
    → settle_passes (built app).top.rules (built app).top.args_override_self (fold (walked full []) (at front last) words).held ≡ true
settles front last [] = refl
settles front last (word ∷ words) =
    ap (λ w. settle_passes (built app).top.rules (built app).top.args_override_self (fold (walked full []) w words).held) (moves front last word)
    ∙ settles (front ++ last ∷ []) word words

-- a word that begins with no dash is no flag
no_dash : (word : Text) → begins_with_dash word ≡ false → strip_byte 45 word ≡ None
no_dash [] plain = refl
no_dash (byte ∷ bytes) plain = ap (λ b. cond b (Some bytes) None) plain

no_long : (word : Text) → begins_with_dash word ≡ false → long_of word ≡ None
no_long word plain = ap (λ o. option_and_then long_of_rest (option_and_then (strip_byte 45) o)) (no_dash word plain)

no_short : (word : Text) → begins_with_dash word ≡ false → short_of word ≡ None
no_short word plain = ap (λ o. option_and_then short_of_rest o) (no_dash word plain)

no_dashes : (word : Text) → begins_with_dash word ≡ false → bytes_eq word (45 ∷ 45 ∷ []) ≡ false
no_dashes [] plain = refl
no_dashes (byte ∷ bytes) plain = ap (λ b. b && bytes_eq bytes (45 ∷ [])) plain

-- so the first word is a value
meets : (word : Text) → begins_with_dash word ≡ false → word_met full [] false idle 1 word nothing_held ≡ (nothing_held, value)
meets word plain = rw (no_dashes word plain, no_long word plain, no_short word plain) refl

begins : (word : Text) → begins_with_dash word ≡ false → walked full [] (walk_from nothing_held) word ≡ at [] word
unfolding walked
begins word plain = ap (λ met. after_step full word (walk_from nothing_held) met.0 met.1) (meets word plain)

-- what is found is all words
finds : (words : List Text) → list_any begins_with_dash words ≡ false → matches_of app words ≡ row words
finds [] plain = refl
finds (word ∷ words) plain =
    ap (λ w. finished full (fold (walked full []) w words).held) (begins word (neither _ _ plain).0) ∙ finishes [] word words

-- the first word passes, and those behind it
starts : (word : Text) → begins_with_dash word ≡ false → turn_passes (built app).top [] (walk_from nothing_held) word ≡ true
starts word plain = rw (no_dashes word plain, no_long word plain, no_short word plain) refl

all_pass : (words : List Text) → list_any begins_with_dash words ≡ false → walk_passes (built app).top [] (walk_from nothing_held) words ≡ true
unfolding walk_passes
all_pass [] plain = refl
all_pass (word ∷ words) plain =
    let first = (neither _ _ plain).0 in
    ap (λ b. b && walk_passes (built app).top [] (walked full [] (walk_from nothing_held) word) words) (starts word first)
    ∙ ap (λ w. walk_passes (built app).top [] w words) (begins word first) ∙ passes [] word words

ends : (words : List Text) → list_any begins_with_dash words ≡ false
    → settle_passes (built app).top.rules (built app).top.args_override_self (walk full [] nothing_held words).held ≡ true
ends [] plain = refl
ends (word ∷ words) plain =
    ap (λ w. settle_passes (built app).top.rules (built app).top.args_override_self (fold (walked full []) w words).held)
    (begins word (neither _ _ plain).0) ∙ settles [] word words

taken_all : (words : List Text) → list_any begins_with_dash words ≡ false → level_passes (built app).top [] nothing_held words false ≡ true
taken_all words plain = rw (all_pass words plain, ends words plain) refl

pub takes_words : (words : List Text) → list_any begins_with_dash words ≡ false → takes app words ≡ true
takes_words words plain = leaf_takes (built app) nothing_held words refl (taken_all words plain)

given_row : (words : List Text) → all_of (codes "words") (row words) ≡ given words
given_row [] = refl
given_row (word ∷ words) = refl

pub words_found : (f : Found) (words : List Text) → list_any begins_with_dash words ≡ false → rows_of f ≡ matches_of app words
    → option_map raw_values (matched_of f (codes "words")) ≡ given words
words_found f words plain same =
    raw_values-rows f (codes "words") ∙ ap (all_of (codes "words")) (same ∙ finds words plain) ∙ given_row words

-- what was given determines the words
pub given_some : (words taken : List Text) → given words ≡ Some taken → words ≡ taken
given_some [] taken same = cc
given_some (word ∷ words) taken same = cc

pub given_none : (words : List Text) → given words ≡ None → words ≡ []
given_none [] same = refl
given_none (word ∷ words) same = cc
