-- What a reference names, by what is kept of its work: the rule that it breaks is the one that the register's answer breaks.
use Rattle.std.proofs.Common.{◌≡◌, ◌∙◌, sym, ap, ap₂, subst, refl, ℕ, suc, ◌+◌, ◌<◌, Bool, true, false, not, cond, ◌||◌, nat_lt, length, List, [], ◌∷◌, take, Option, Some, None, is_some, option_map, arith}
use Rattle.std.specs.Str.{bytes_eq}
use Rattle.std.proofs.lemmas.Bool.Decides.{nat_tests}
use Rattle.std.proofs.lemmas.List.Folds.{list_any-append}
use Rattle.eid_paths.specs.declared.numbering.Numbering.{Numbering}
use Rattle.act_tree.specs.Branches.{Branch, Branches, branch, no_branches, more_branches}
use Rattle.act_tree.specs.Eids.{eid_below}
use Rattle.act_tree.specs.Faults.{all_eids, all_owns}
use Rattle.act_tree.specs.Provisions.{Provision}
use Rattle.act_tree.specs.Wids.{is_among}
use Rattle.act_tree.specs.declared.tree.Tree.{Tree}
use Rattle.act_tree.specs.EidsOfWids.{has_eid}
use Rattle.act_tree.specs.Seen.{tree_view}
use Rattle.act_tree.proofs.Texts.{bytes_eq_sym}
use Rattle.act_tree.proofs.Ways.{has_eid_is}
use Rattle.frbr_names.specs.Expressions.{Expression}
use Rattle.law_register.specs.declared.answer.queries.QueryRule.{QueryRule}
use Rattle.law_register.specs.declared.answer.queries.QueryRule.TheVariants.{UnknownWork, ViewpointAhead, NotYetEnacted, OtherLanguage}
use Rattle.law_register.specs.declared.answer.question.Question.{Question}
use Rattle.law_register.specs.declared.answer.question.Reading.{Reading}
use Rattle.law_register.specs.declared.law.act.Act.{Act}
use Rattle.law_register.specs.declared.law.command.Command.{Command}
use Rattle.law_register.specs.declared.law.command.Command.TheVariants.{Enact, Record, Correct, Withdraw, Restore, DraftAdd, DraftDrop, File}
use Rattle.law_register.specs.declared.register.entry.Entry.{Entry}
use Rattle.law_register.specs.declared.register.known.Known.{Known}
use Rattle.law_register.specs.Answer.Answers.{all_shown, answer_of_text, answer_part, asked_day, asked_part, found_portion, is_too_early, or_else, portion_among, portion_in, shown_as, unless_broken}
use Rattle.law_register.specs.Answer.Flags.{flag_below, root_flag}
use Rattle.law_register.specs.Answer.Replay.{VersionValue, as_enacted}
use Rattle.law_register.specs.Provisions.Carrying.{carrying, held_now}
use Rattle.law_register.specs.Provisions.Line.{line}
use Rattle.law_register.specs.Answer.Shown.{Shown}
use Rattle.law_register.specs.Register.KnownIds.{enacted, enacted_by, enacted_from, enacted_or, known_by}
use Rattle.law_register.specs.Register.KnownNext.{bare, known_now}
use Rattle.law_register.specs.Register.LawList.{front, laws}
use Rattle.law_register.specs.Register.Verdicts.{is_legal}
use Rattle.law_register.proofs.Next.{now_known}
use Rattle.law_refs.specs.Missing.{missing, question_for, refused_by}
use Rattle.version_cache.specs.Answering.{answer_dated, answer_kept}
use Rattle.version_cache.specs.Tables.{version_on}
use Rattle.version_cache.specs.Works.{IsForIf, WorkValue}
use Rattle.version_cache.proofs.Answered.{answered}
use Rattle.law_office.specs.Targets.{portion_rule, rule_broken, version_named}
use Rattle.law_office.proofs.AskedFor.{unknown_answer}

some_or : (a b : Option (Branch Shown)) → is_some (or_else a b) ≡ (is_some a || is_some b)
some_or None b = refl
some_or (Some s) b = refl

-- a provision is found by its eId exactly where one has it
module _ (known : Known) (reading : Reading) (day : ℕ) (n : Numbering) (e : List ℕ) where
  portion_there : (f : Bool) (above : Option (List ℕ)) (bs : Branches Provision)
      → is_some (portion_among e (all_shown known reading day n f above bs)) ≡ is_among e (all_eids n above (all_owns bs))
  portion_there f above no_branches = refl
  portion_there f above (more_branches (branch p below) bs) =
      let own : List ℕ = eid_below n above p.own.element p.own.num in
      let bears : Bool = flag_below known reading day f p.wid in
      let under : Branches Shown = all_shown known reading day n bears (Some own) below in
      let rest : Branches Shown = all_shown known reading day n f above bs in
      some_or (portion_in e (branch (shown_as bears own p) under)) (portion_among e rest)
      ∙ ap₂ (λ (a b : Bool). a || b)
      (first (bytes_eq own e) (branch (shown_as bears own p) under) (portion_among e under)
      ∙ ap₂ (λ (a b : Bool). a || b) (bytes_eq_sym own e) (portion_there bears (Some own) below))
      (portion_there f above bs)
      ∙ sym (list_any-append (bytes_eq e) (own ∷ all_eids n (Some own) (all_owns below)) (all_eids n above (all_owns bs)))
    where
      first : (b : Bool) (s : Branch Shown) (o : Option (Branch Shown)) → is_some (cond b (Some s) o) ≡ (b || is_some o)
      first true s o = refl
      first false s o = refl

-- a tree finds the provision of an eId exactly where one has it
pub portion_found : (t : Tree) (eid : List ℕ) (found : Bool) → found ≡ has_eid eid (tree_view t) → cond found None (Some 5) ≡ portion_rule (tree_view t) (Some eid)
portion_found t eid found is = ap (λ (b : Bool). cond b None (Some 5)) (is ∙ has_eid_is t eid)

-- so it is with the rule that is broken where none has it
module _ (known : Known) (version : VersionValue) (q : Question) where
  abbrev flag : Bool
  flag = root_flag known q.reading (asked_day q.version known.act)

  abbrev text : Branches Shown
  text = all_shown known q.reading (asked_day q.version known.act) version.tree.numbering flag None version.tree.body

  part : (eid : List ℕ) (o : Option (Branch Shown)) → refused_by (answer_part known version q (found_portion eid o)) ≡ cond (is_some o) None (Some 5)
  part eid None = refl
  part eid (Some s) = refl

  part_rule : (portion : Option (List ℕ)) → refused_by (answer_part known version q (asked_part portion text)) ≡ portion_rule version.tree portion
  part_rule None = refl
  part_rule (Some eid) =
      part eid (portion_among eid text)
      ∙ ap (λ (b : Bool). cond b None (Some 5))
      (portion_there known q.reading (asked_day q.version known.act) version.tree.numbering eid flag None version.tree.body)

  text_rule : refused_by (answer_of_text known version q) ≡ portion_rule version.tree q.portion
  text_rule = part_rule q.portion

-- the first rule that is broken, where the work was enacted by then
module _ (work : WorkValue) (n : ℕ) (target : Expression) where
  abbrev known : Known
  known = work.known

  abbrev asked : Question
  asked = question_for n target

  abbrev others : Bool → Bool → Option QueryRule
  others early other = cond early (Some (NotYetEnacted known.act.day)) (cond (not other) (Some (OtherLanguage known.act.language)) None)

  abbrev said : Bool → Bool → Option ℕ
  said unknown ahead =
      refused_by
      (unless_broken
      (cond unknown (Some (UnknownWork asked.work))
      (cond ahead (Some (ViewpointAhead n)) (others (is_too_early target.version known.act) (bytes_eq target.language known.act.language))))
      (answer_dated work asked asked.version))

  dated : (version : Option ℕ) → target.version ≡ version → refused_by (answer_dated work asked version) ≡ portion_rule (version_named work version).tree target.portion
  dated None is = text_rule (bare known) (as_enacted known.act) asked
  dated (Some day) is = text_rule known (version_on work.force day) asked

  in_language : (b : Bool) → refused_by (unless_broken (others false b) (answer_dated work asked asked.version))
      ≡ cond (not b) (Some 4) (portion_rule (version_named work target.version).tree target.portion)
  in_language true = dated target.version refl
  in_language false = refl

  in_time : (b : Bool) → refused_by (unless_broken (others b (bytes_eq target.language known.act.language)) (answer_dated work asked asked.version))
      ≡ cond b (Some 3) (cond (not (bytes_eq target.language known.act.language)) (Some 4) (portion_rule (version_named work target.version).tree target.portion))
  in_time true = refl
  in_time false = in_language (bytes_eq target.language known.act.language)

  kept_rule : nat_lt n known.enacted ≡ false → refused_by (answer_kept work n asked) ≡ rule_broken work target
  kept_rule late =
      let now : nat_lt n n ≡ false = grind (arith, nat_tests) in
      ap (λ (b : Bool). said b (nat_lt n n)) late ∙ ap (said false) now ∙ in_time (is_too_early target.version known.act)

-- the law entry that enacts a work is one of them
enacted_within : (n : ℕ) (w : List ℕ) (ls : List Command) (f : ℕ × Act) → enacted_from n w ls ≡ Some f → f.0 < n + length ls
enacted_within n w [] f is = absurd (let no : None ≡ Some f = is in cc)
enacted_within n w (l ∷ ls) f is = by l is (enacted_within (n + 1) w ls f)
  where
    more : (m k : ℕ) → m < (n + 1) + k → m < n + suc k
    more m k less = omega arith

    later : (enacted_from (n + 1) w ls ≡ Some f → f.0 < (n + 1) + length ls) → enacted_from (n + 1) w ls ≡ Some f → f.0 < n + length (l ∷ ls)
    later rest is = more f.0 (length ls) (rest is)

    first : (act : Act) (b : Bool) → enacted_or n (cond b (Some act) None) (enacted_from (n + 1) w ls) ≡ Some f
        → (enacted_from (n + 1) w ls ≡ Some f → f.0 < (n + 1) + length ls) → f.0 < n + length (l ∷ ls)
    first act true is rest =
        let both : (n, act) ≡ f = cc is in
        let same : n ≡ f.0 = ap (λ (g : ℕ × Act). g.0) both in
        at_once n f.0 (length ls) same
      where
        at_once : (a b k : ℕ) → a ≡ b → b < a + suc k
        at_once a b k h = omega arith
    first act false is rest = later rest is

    by : (c : Command) → enacted_or n (enacted_by w c) (enacted_from (n + 1) w ls) ≡ Some f
        → (enacted_from (n + 1) w ls ≡ Some f → f.0 < (n + 1) + length ls) → f.0 < n + length (l ∷ ls)
    by (Enact act) is rest = first act (bytes_eq act.work w) is rest
    by (Record work mods) is rest = later rest is
    by (Correct id body) is rest = later rest is
    by (Withdraw id) is rest = later rest is
    by (Restore id) is rest = later rest is
    by (DraftAdd work body) is rest = later rest is
    by (DraftDrop item) is rest = later rest is
    by (File work seen) is rest = later rest is

-- so a work that is known at the front was enacted by then
enacted_by_front : (es : List Entry) (w : List ℕ) (known : Known) → known_now es w ≡ Some known → nat_lt (front es) known.enacted ≡ false
enacted_by_front es w known is = by (enacted w (laws es)) refl (sym (now_known es w) ∙ is)
  where
    number : Option Known → ℕ
    number None = known.enacted
    number (Some k) = k.enacted

    by : (found : Option (ℕ × Act)) → enacted w (laws es) ≡ found → known_by w (front es) (front es) (laws es) found ≡ Some known
        → nat_lt (front es) known.enacted ≡ false
    by None found is = absurd (let no : None ≡ Some known = is in cc)
    by (Some f) found is =
        let same : f.0 ≡ known.enacted = ap number is in
        let within : f.0 < 1 + front es = enacted_within 1 w (laws es) f found in
        grind (arith, nat_tests, same, within)

-- what breaks a target, by what is kept of its work
pub missing_kept : (es : List Entry) (target : Expression) (work : WorkValue) → is_legal es ≡ true → IsForIf (held_now es target.work.text) work
    → rule_broken work target ≡ missing es target
unfolding missing
missing_kept es target work legal right =
    sym
    (ap refused_by (answered es (question_for (front es) target) work legal (omega arith) right)
    ∙ kept_rule work (front es) target (from (known_now es target.work.text) refl right))
  where
    from : (now : Option Known) → known_now es target.work.text ≡ now
        → IsForIf (option_map (carrying (line (take (front es) (laws es)))) now) work → nat_lt (front es) work.known.enacted ≡ false
    from None is right = absurd right
    from (Some known) is right =
        subst (λ (n : ℕ). nat_lt (front es) n ≡ false) (sym right.alike.enacted) (enacted_by_front es target.work.text known is)

-- and where nothing is known of it
pub missing_unknown : (es : List Entry) (target : Expression) → is_legal es ≡ true → held_now es target.work.text ≡ None → Some 1 ≡ missing es target
unfolding missing
missing_unknown es target legal unknown =
    sym (ap refused_by (unknown_answer es (question_for (front es) target) target.work.text legal unknown (omega arith) refl))
