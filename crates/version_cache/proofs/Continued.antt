-- A version is continued where the ids begin with those that made it.
use Rattle.std.proofs.Common.{◌≡◌, ◌∙◌, sym, ap, true, false, List, ◌++◌, drop, length}
use Rattle.desk_base.specs.declared.id.Id.{Id}
use Rattle.law_register.specs.declared.register.known.Known.{Known}
use Rattle.law_register.specs.Answer.Applied.{begins_with}
use Rattle.law_register.specs.Answer.Replay.{VersionValue, as_enacted, replayed}
use Rattle.law_register.specs.Answer.Soundness.{id_twice}
use Rattle.law_register.proofs.Continuing.{replayed_apart, replayed_on}
use Rattle.version_cache.proofs.Fronts.{front_and_rest}

module _ (known : Known) (before ids : List Id) (begins : begins_with before ids ≡ true) (last : VersionValue)
    (is : last ≡ replayed known.mods (as_enacted known.act) before) (rest : List Id) (rest_is : rest ≡ drop (length before) ids) where
  whole : ids ≡ before ++ rest
  whole = front_and_rest before ids begins ∙ ap (λ more. before ++ more) (sym rest_is)

  pub rest_apart : id_twice ids ≡ false → id_twice (last.applied ++ rest) ≡ false
  rest_apart once =
      ap (λ (v : VersionValue). id_twice (v.applied ++ rest)) is
      ∙ replayed_apart known.mods (as_enacted known.act) before rest (sym (ap id_twice whole) ∙ once)

  pub rest_makes : replayed known.mods last rest ≡ replayed known.mods (as_enacted known.act) ids
  rest_makes =
      ap (λ (v : VersionValue). replayed known.mods v rest) is
      ∙ sym (replayed_on known.mods (as_enacted known.act) before rest)
      ∙ ap (replayed known.mods (as_enacted known.act)) (sym whole)
