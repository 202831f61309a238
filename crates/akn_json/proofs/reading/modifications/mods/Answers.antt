use Rattle.std.proofs.Common.{ap, arith, length, sym, subst, ◌≤◌}
use Rattle.serde_json.specs.Data.{items_depth}
use Rattle.serde_json.specs.Read.{max_depth}
use Rattle.akn_json.specs.Reading.Values.{seen, items_seen}
use Rattle.akn_json.proofs.Nesting.{items_low}
use Rattle.akn_json.proofs.Values.{items_len_seen}
use Rattle.akn_json.proofs.Widths.{items-width}
use Rattle.akn_json.proofs.reading.modifications.mods.Goals as goal

pub each_modification-requires-clause-lists : goal.each_modification-requires-clause-lists
each_modification-requires-clause-lists c =
    omega (arith, items-width _ _ _ c.requires.lists c.in_ok-items.ensures, items_len_seen c.in_ok-items.field-0.now.items, ap length c.deref.ensures.value)

pub each_modification-requires-clause-depth : goal.each_modification-requires-clause-depth
each_modification-requires-clause-depth c =
    subst (λ vs. items_depth (items_seen vs) ≤ max_depth) (sym c.deref.ensures.value) (items_low (seen c.args.value.now) _ max_depth c.requires.depth c.in_ok-items.ensures)
