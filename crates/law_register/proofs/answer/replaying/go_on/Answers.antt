use Rattle.std.proofs.Common.{rules, ◌≡◌, ◌∙◌, ◌+◌, ◌<◌, ◌++◌, sym, ap, arith, drop, get_or, length, List, ◌∷◌}
use Rattle.std.proofs.lemmas.List.{drop_more}
use Rattle.desk_base.specs.declared.id.Id.{Id}
use Rattle.law_register.specs.declared.register.known.KnownMod.{KnownMod}
use Rattle.law_register.specs.Answer.Replay.{VersionValue, edit_of, edited_by, replayed}
use Rattle.law_register.specs.Answer.Soundness.{id_twice}
use Rattle.law_register.specs.Answer.Versions.{version_view}
use Rattle.law_register.proofs.ApartIds.{first_apart}
use Rattle.law_register.proofs.Continuing.{edited_apart}
use Rattle.law_register.proofs.answer.replaying.go_on.Goals as goal

none : Id
none = record { law = 0; item = 0 }

pub apply_id-requires-clause-fresh : goal.apply_id-requires-clause-fresh
unfolding none
apply_id-requires-clause-fresh g c =
    let ids : List Id = c.args.ids.now in
    let i = c.loop-id.id-index in
    let applied : List Id = c.loop-id.version.applied in
    let within : i < length ids = search rules in
    let rest : drop i ids ≡ get_or ids i none ∷ drop (i + 1) ids = drop_more ids i none within in
    first_apart applied (drop (i + 1) ids) (get_or ids i none) (sym (ap (λ t. id_twice (applied ++ t)) rest) ∙ c.loop-id.invariant.apart)

pub loop-id-preserved : goal.loop-id-preserved
unfolding none
loop-id-preserved g c =
    let mods : List KnownMod = c.args.mods.now in
    let ids : List Id = c.args.ids.now in
    let i = c.loop-id.id-index in
    let id : Id = get_or ids i none in
    let old : VersionValue = version_view c.loop-id.version in
    let new : VersionValue = version_view c.apply_id.new.version in
    let within : i < length ids = search rules in
    let rest : drop i ids ≡ id ∷ drop (i + 1) ids = drop_more ids i none within in
    let made : new ≡ edited_by old id (edit_of mods id) = c.in_ok-apply_id.ensures.version ∙ ap (λ ms. edited_by old id (edit_of ms id)) c.as_slice.ensures in
    record {
      version = ap (λ v. replayed mods v (drop (i + 1) ids)) made ∙ sym (ap (replayed mods old) rest) ∙ c.loop-id.invariant.version;
      own = c.apply_id.ensures.own;
      replayed = c.in_ok-apply_id.ensures.replayed;
      apart =
          ap (λ (v : VersionValue). id_twice (v.applied ++ drop (i + 1) ids)) made
          ∙ edited_apart old id (edit_of mods id) (drop (i + 1) ids) (sym (ap (λ t. id_twice (old.applied ++ t)) rest) ∙ c.loop-id.invariant.apart);
      steps = omega (arith, c.loop-id.invariant.steps, c.apply_id.ensures.steps);
    }
