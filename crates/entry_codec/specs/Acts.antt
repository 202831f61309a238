-- The fields of acts, in any format.
use Rattle.std.specs.Prelude.{ℕ, List, Option, Some}
use Rattle.desk_base.specs.declared.period.Period.{Period}
use Rattle.eid_paths.specs.declared.numbering.Numbering.{Numbering}
use Rattle.act_tree.specs.Branches.{Branch}
use Rattle.act_tree.specs.Provisions.{Own}
use Rattle.act_tree.specs.declared.limits.NodeLimit.{NodeLimit}
use Rattle.law_register.specs.declared.law.act.Act.{Act}
use Rattle.entry_codec.specs.Fields.{Field, given, pair, made}
use Rattle.entry_codec.specs.Values.{work, language, act_day, numbering, period}
use Rattle.entry_codec.specs.Nodes.{payload}
use Rattle.entry_codec.specs.Formats.{Format}

-- an act
abbrev pub act_from : List ℕ × (List ℕ × (ℕ × (Numbering × (NodeLimit × (Period × List (Branch Own)))))) → Act
act_from p = record {
  work = p.0;
  language = p.1.0;
  day = p.1.1.0;
  numbering = p.1.1.1.0;
  limit = p.1.1.1.1.0;
  force = p.1.1.1.1.1.0;
  body = p.1.1.1.1.1.1;
}

abbrev pub act_parts : Act → Option (List ℕ × (List ℕ × (ℕ × (Numbering × (NodeLimit × (Period × List (Branch Own)))))))
act_parts a = Some (a.work, (a.language, (a.day, (a.numbering, (a.limit, (a.force, a.body))))))

module _ (format : Format) where
  -- the day of an act, and what stands behind it: its numbering, its limit, its force and its nodes
  unfoldable pub act_rest : List ℕ → Field (ℕ × (Numbering × (NodeLimit × (Period × List (Branch Own)))))
  act_rest iri = pair (act_day iri) (pair numbering (pair format.limit (pair period payload)))

  unfoldable pub act : Field Act
  act = made act_from act_parts (given work (λ iri. pair language (act_rest iri)))
