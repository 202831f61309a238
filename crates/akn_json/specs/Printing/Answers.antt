-- An answer as JSON, with the keys of each object in ascending byte order.
use Rattle.std.specs.Prelude.{ℕ, List, map, if◌then◌else◌, codes, encode_utf8_all}
use Rattle.std.specs.Str.{bytes_eq}
use Rattle.serde_json.specs.Data.{Data, unsigned, boolean, number, string, array, object, Items, no_items, item, Members, no_members, member}
use Rattle.serde_json.specs.View.{items_of}
use Rattle.desk_base.specs.Ids.{id_text}
use Rattle.desk_base.specs.declared.id.Id.{Id}
use Rattle.frbr_names.specs.Expressions.{spelled_expression}
use Rattle.act_tree.specs.declared.cause.Cause.{Cause}
use Rattle.eid_paths.specs.Elements.{element_name}
use Rattle.act_tree.specs.Causes.{cause_name}
use Rattle.act_tree.specs.Branches.{Branch, Branches, branch, no_branches, more_branches, branches_of}
use Rattle.law_register.specs.Answer.Shown.{Shown}
use Rattle.law_register.specs.Answer.Questions.{reading_name}
use Rattle.law_register.specs.declared.answer.question.Question.{Question}
use Rattle.law_register.specs.declared.answer.answer.Answer.{Answer}

-- texts, as the items of a list
abbrev pub texts_data : List (List ℕ) → Items
texts_data texts = items_of (map string texts)

-- the wId of a provision, exactly where it differs from its eId
abbrev pub wid_data : List ℕ → List ℕ → Members
wid_data wid eid = if bytes_eq wid eid then no_members else member (codes "wId") (string wid) no_members

-- a provision over the data of those right beneath it
abbrev pub shown_data : Shown → Items → Data
shown_data s children =
    object (member (codes "bears") (boolean s.bears)
    (member (codes "children") (array children)
    (member (codes "content") (string s.own.content)
    (member (codes "eId") (string s.eid)
    (member (codes "element") (string (element_name s.own.element))
    (member (codes "heading") (string s.own.heading)
    (member (codes "num") (string s.own.num)
    (member (codes "refs") (array (texts_data s.own.refs))
    (wid_data s.wid s.eid)))))))))

-- a provision with all beneath it, and provisions side by side
abbrev mutual
  pub node_data : Branch Shown → Data
  node_data (branch shown below) = shown_data shown (nodes_data below)

  pub nodes_data : Branches Shown → Items
  nodes_data no_branches = no_items
  nodes_data (more_branches b bs) = item (node_data b) (nodes_data bs)

-- the ids of the modifications that were applied
abbrev pub ids_data : List Id → Items
ids_data ids = items_of (map (λ id. string (id_text id)) ids)

-- a modification that could not be applied, with its cause
abbrev pub missed_data : Id × Cause → Data
missed_data m =
    object (member (codes "cause") (string (cause_name m.1)) (member (codes "id") (string (id_text m.0)) no_members))

-- the modifications that could not be applied
abbrev pub unapplied_data : List (Id × Cause) → Items
unapplied_data list = items_of (map missed_data list)

-- the IRI of the expression that a question asks for, of the letters of its language
abbrev pub asked_expression : Question → List ℕ
asked_expression q = spelled_expression q.work (encode_utf8_all q.language) q.version q.portion

-- an answer
unfoldable pub answer_data : Answer → Data
answer_data a =
    object (member (codes "applied") (array (ids_data a.applied))
    (member (codes "bears") (boolean a.bears)
    (member (codes "body") (array (nodes_data (branches_of a.nodes)))
    (member (codes "expression") (string (asked_expression a.question))
    (member (codes "reading") (string (reading_name a.question.reading))
    (member (codes "unapplied") (array (unapplied_data a.unapplied))
    (member (codes "viewpoint") (number (unsigned a.question.viewpoint)) no_members)))))))
