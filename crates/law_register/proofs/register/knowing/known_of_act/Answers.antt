use Rattle.std.proofs.Common.{◌∙◌, ap, ℕ, List, [], take, Option, Some, option_map}
use Rattle.indexmap.specs.IndexMap.{get_by}
use Rattle.desk_base.specs.declared.id.Id.{Id}
use Rattle.law_register.specs.declared.law.act.Act.{Act}
use Rattle.law_register.specs.declared.register.indexes.IdMark.{IdMark}
use Rattle.law_register.specs.declared.register.known.Known.{Known}
use Rattle.law_register.specs.declared.register.known.KnownMod.{KnownMod}
use Rattle.law_register.specs.Answer.Counted.{is_same_id}
use Rattle.law_register.specs.Register.KnownIds.{known_by}
use Rattle.law_register.specs.Register.LawList.{laws}
use Rattle.law_register.specs.Register.Listing.{known_marks}
use Rattle.law_register.proofs.Listed.{work_known}
use Rattle.law_register.proofs.register.knowing.known_of_act.Goals as goal

pub returns-in_ok-known_mods-in-Some : goal.returns-in_ok-known_mods-in-Some
returns-in_ok-known_mods-in-Some c =
    let E = c.args.entries.now in
    let w = c.args.work.now in
    let v = c.args.viewpoint in
    let n = c.args.mark.number in
    let T = take v (laws E) in
    let known = c.in_ok-known-in-Some in
    let mark : Id → Option IdMark = λ i. get_by (is_same_id i) known.known.marks in
    let as_known : Act → List KnownMod → List ℕ → Option Known =
    λ act mods days. Some (record { act = act; enacted = n; viewpoint = v; front = c.args.front; mods = mods; source_days = days }) in
    ap (λ act. as_known act c.in_ok-known_mods-in-Some.field-0 c.new.result) c.in_ok-copy-in-Some.ensures
    ∙ ap (as_known c.in-Some.act.now c.in_ok-known_mods-in-Some.field-0) c.new.ensures
    ∙ ap (λ (mods : List KnownMod). as_known c.in-Some.act.now mods []) (c.in_ok-known_mods-in-Some.ensures ∙ ap (known_marks E mark) known.ensures.ids ∙ work_known E w T mark known.ensures.marks)
    ∙ ap (λ act. known_by w v c.args.front T (option_map (λ (a : Act). (n, a)) act)) c.in-Some.ensures
