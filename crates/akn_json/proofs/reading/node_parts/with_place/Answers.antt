-- The value at the key of the name is that of the new member, and the others stay.
use Rattle.std.proofs.Common.{◌≡◌, true, bytes_eq, Some, rules}
use Rattle.akn_json.specs.Reading.Keys.{key_name}
use Rattle.akn_json.specs.Reading.Parts.{shown_at}
use Rattle.akn_json.specs.declared.reading.key.Key.TheVariants as key
use Rattle.akn_json.proofs.Parts.{put_at}
use Rattle.akn_json.proofs.reading.node_parts.with_place.Goals as goal

pub returns-then-eq-clause-put : goal.returns-then-eq-clause-put
returns-then-eq-clause-put c all ms d is are =
    let named : bytes_eq c.args.name.now (key_name key.Element) ≡ true = search rules in
    put_at all c.args.places d ms are (key_name key.Element) c.args.name.now named (shown_at all (Some c.args.at)) is

pub returns-then-eq-2-clause-put : goal.returns-then-eq-2-clause-put
returns-then-eq-2-clause-put c all ms d is are =
    let named : bytes_eq c.args.name.now (key_name key.Num) ≡ true = search rules in
    put_at all c.args.places d ms are (key_name key.Num) c.args.name.now named (shown_at all (Some c.args.at)) is

pub returns-then-eq-3-clause-put : goal.returns-then-eq-3-clause-put
returns-then-eq-3-clause-put c all ms d is are =
    let named : bytes_eq c.args.name.now (key_name key.Content) ≡ true = search rules in
    put_at all c.args.places d ms are (key_name key.Content) c.args.name.now named (shown_at all (Some c.args.at)) is

pub returns-then-eq-4-clause-put : goal.returns-then-eq-4-clause-put
returns-then-eq-4-clause-put c all ms d is are =
    let named : bytes_eq c.args.name.now (key_name key.Heading) ≡ true = search rules in
    put_at all c.args.places d ms are (key_name key.Heading) c.args.name.now named (shown_at all (Some c.args.at)) is

pub returns-then-eq-5-clause-put : goal.returns-then-eq-5-clause-put
returns-then-eq-5-clause-put c all ms d is are =
    let named : bytes_eq c.args.name.now (key_name key.Children) ≡ true = search rules in
    put_at all c.args.places d ms are (key_name key.Children) c.args.name.now named (shown_at all (Some c.args.at)) is

pub returns-then-eq-6-clause-put : goal.returns-then-eq-6-clause-put
returns-then-eq-6-clause-put c all ms d is are =
    let named : bytes_eq c.args.name.now (key_name key.Refs) ≡ true = search rules in
    put_at all c.args.places d ms are (key_name key.Refs) c.args.name.now named (shown_at all (Some c.args.at)) is
