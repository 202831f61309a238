-- The command is the one that takes all words, and they have no dash.
use Rattle.std.proofs.Common.{rules, ap, ap₂, map, ◌≡◌, ◌∙◌}
use Rattle.std.specs.Prelude.{string_bytes}
use Rattle.std.proofs.lemmas.Result.{IfErr-weaker, IfOk-weaker}
use Rattle.clap.specs.Words.{app_of, found_of, is_simple, matches_of, rule_of, takes, with_rule}
use Rattle.lawdesk.proofs.WordWalk.{app, bare, rest, simple, takes_words, words_found}
use Rattle.lawdesk.proofs.taking.take_words.Goals as goal

pub returns-clause-memory : goal.returns-clause-memory
returns-clause-memory c =
    let rest_is : rule_of c.trailing_var_arg-rest.result ≡ rest = search rules in
    let bare_is : app_of c.disable_help_flag.result ≡ bare = search rules in
    let app_is : app_of c.in_ok-command.command ≡ app = c.in_ok-command.ensures.shape (search rules) ∙ ap₂ with_rule bare_is rest_is in
    let parse = c.try_get_matches_from in
    IfErr-weaker parse.result _ _ (λ e h. h (ap (λ a. takes a (map string_bytes c.args.words.now)) app_is ∙ takes_words (map string_bytes c.args.words.now) c.requires)) parse.ensures.passes

pub returns-clause-taken : goal.returns-clause-taken
returns-clause-taken c =
    let rest_is : rule_of c.trailing_var_arg-rest.result ≡ rest = search rules in
    let bare_is : app_of c.disable_help_flag.result ≡ bare = search rules in
    let app_is : app_of c.in_ok-command.command ≡ app = c.in_ok-command.ensures.shape (search rules) ∙ ap₂ with_rule bare_is rest_is in
    let parse = c.try_get_matches_from in
    IfOk-weaker parse.result _ _ (λ m h.
    words_found (found_of m) (map string_bytes c.args.words.now) c.requires ((h (ap is_simple app_is ∙ simple)).0 ∙ ap (λ a. matches_of a (map string_bytes c.args.words.now)) app_is))
    parse.ensures.matches
