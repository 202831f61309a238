-- What the reader says of the tokens is what is read of the text.
use Rattle.std.proofs.Common.{◌≡◌, [], Some, true, false, ap, rules}
use Rattle.json.specs.Json.{value}
use Rattle.json.specs.Lex.{tokens}
use Rattle.json.specs.Value.{value_view}
use Rattle.serde_json.specs.Read.{max_depth}
use Rattle.akn_json.specs.declared.fault.FormRule.TheVariants.{NotJson}
use Rattle.akn_json.specs.Reading.Reads.{broken, or_fault}
use Rattle.akn_json.specs.Reading.Values.{is_in_range, seen}
use Rattle.serde_json.proofs.Nesting.{depth-read}
use Rattle.akn_json.proofs.Values.{read_seen, read_beyond}
use Rattle.akn_json.proofs.Widths.{width-read}
use Rattle.akn_json.proofs.reading.bytes.read.Goals as goal

pub returns-clause-value : goal.returns-clause-value
returns-clause-value c =
    let text = c.args.text.now in
    let none : c.read.new.reader ≡ [] = search rules in
    let whole : value max_depth (tokens text) ≡ Some (value_view c.in-Ok.value, []) = rw (c.in_ok-reader.ensures.ok, none) at c.in-Ok.ensures.ok in
    let within : is_in_range (value_view c.in-Ok.value) ≡ true = search rules in
    ap (or_fault (broken NotJson)) (read_seen text (value_view c.in-Ok.value) whole within)

pub returns-clause-nests : goal.returns-clause-nests
returns-clause-nests c =
    let text = c.args.text.now in
    let none : c.read.new.reader ≡ [] = search rules in
    let whole : value max_depth (tokens text) ≡ Some (value_view c.in-Ok.value, []) = rw (c.in_ok-reader.ensures.ok, none) at c.in-Ok.ensures.ok in
    let within : is_in_range (value_view c.in-Ok.value) ≡ true = search rules in
    depth-read text (seen c.in-Ok.value) (read_seen text (value_view c.in-Ok.value) whole within)

pub returns-clause-lists : goal.returns-clause-lists
returns-clause-lists c =
    let text = c.args.text.now in
    let none : c.read.new.reader ≡ [] = search rules in
    let whole : value max_depth (tokens text) ≡ Some (value_view c.in-Ok.value, []) = rw (c.in_ok-reader.ensures.ok, none) at c.in-Ok.ensures.ok in
    let within : is_in_range (value_view c.in-Ok.value) ≡ true = search rules in
    width-read text (seen c.in-Ok.value) (read_seen text (value_view c.in-Ok.value) whole within)

pub returns-then-not-is_in_range-clause-value : goal.returns-then-not-is_in_range-clause-value
returns-then-not-is_in_range-clause-value c =
    let text = c.args.text.now in
    let none : c.read.new.reader ≡ [] = search rules in
    let whole : value max_depth (tokens text) ≡ Some (value_view c.in-Ok.value, []) = rw (c.in_ok-reader.ensures.ok, none) at c.in-Ok.ensures.ok in
    let beyond : is_in_range (value_view c.in-Ok.value) ≡ false = search rules in
    ap (or_fault (broken NotJson)) (read_beyond text (value_view c.in-Ok.value) whole beyond)
