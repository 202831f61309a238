-- The act of the generated register: 64 sections of one sentence each.
use Rattle.std.specs.Prelude.{ℕ, zero, suc, List, [], ◌∷◌, ◌++◌, codes, None}
use Rattle.std.specs.Fmt.{decimal}
use Rattle.eid_paths.specs.declared.element.Element.TheVariants.{Section}
use Rattle.act_tree.specs.declared.limits.NodeLimit.TheVariants.{Plain}
use Rattle.act_tree.specs.Branches.{Branch, branch, no_branches}
use Rattle.act_tree.specs.Provisions.{Own}
use Rattle.eid_paths.specs.declared.numbering.TheConstants.Numbering.{DEFAULT}
use Rattle.law_register.specs.declared.law.act.Act.{Act}
use Rattle.law_register.specs.declared.law.command.Command.{Command}
use Rattle.law_register.specs.declared.law.command.Command.TheVariants.{Enact}

-- 2000-01-01
abbrev pub first_day : ℕ
first_day = 730120

-- the work of the act
unfoldable pub work : List ℕ
work = codes "/akn/gb/act/2000-01-01/1"

-- the num of a section
abbrev pub section_num : ℕ → List ℕ
section_num number = decimal number

-- the sentence of a section, which names its number
abbrev pub sentence : ℕ → List ℕ
sentence number = codes "Text " ++ decimal number ++ 46 ∷ []

-- what a section says of itself
abbrev pub own_of_section : ℕ → Own
own_of_section number = record {
  element = Section;
  num = section_num number;
  heading = [];
  content = sentence number;
  refs = [];
}

-- a section
abbrev pub section : ℕ → Branch Own
section number = branch (own_of_section number) no_branches

-- the first so many sections, in order
unfoldable pub sections : ℕ → List (Branch Own)
sections zero = []
sections (suc n) = sections n ++ section (suc n) ∷ []

-- the act, in force from its day on
unfoldable pub act : Act
act = record {
  work = work;
  language = codes "eng";
  day = first_day;
  numbering = DEFAULT;
  limit = Plain;
  force = record { start = first_day; end = None };
  body = sections 64;
}

-- the command that enacts it
abbrev pub enactment : Command
enactment = Enact act
