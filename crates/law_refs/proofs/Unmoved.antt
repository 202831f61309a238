-- A work of which only the numbers of law entries change has the references that it had, and what refers to it is answered as before.
use Rattle.std.proofs.Common.{◌≡◌, ◌∙◌, ℕ, ◌+◌, ◌<◌, ◌≤◌, sym, ap, refl, subst, Bool, true, false, cond, ◌||◌, not, nat_lt, List, [], ◌∷◌, length, take, Option, Some, None, is_some, option_map, arith}
use Rattle.std.proofs.lemmas.Bool.Decides.{nat_tests}
use Rattle.std.specs.Str.{bytes_eq}
use Rattle.eid_paths.specs.declared.numbering.Numbering.{Numbering}
use Rattle.act_tree.specs.Branches.{Branch, Branches, branch, no_branches, more_branches}
use Rattle.act_tree.specs.Eids.{eid_below}
use Rattle.act_tree.specs.Provisions.{Provision}
use Rattle.act_tree.specs.Trees.{TreeValue}
use Rattle.frbr_names.specs.Expressions.{Expression}
use Rattle.law_register.specs.declared.answer.queries.QueryRule.TheVariants.{UnknownWork, ViewpointAhead, NotYetEnacted, OtherLanguage}
use Rattle.law_register.specs.declared.answer.question.Question.{Question}
use Rattle.law_register.specs.declared.answer.question.Reading.{Reading}
use Rattle.law_register.specs.declared.answer.question.Reading.TheVariants.{Force}
use Rattle.law_register.specs.declared.law.act.Act.{Act}
use Rattle.law_register.specs.declared.law.command.Command.{Command}
use Rattle.law_register.specs.declared.register.entry.Entry.{Entry}
use Rattle.law_register.specs.declared.register.known.Known.{Known}
use Rattle.law_register.specs.Answer.Answers.{all_shown, answer_from, answer_of_text, answer_on, answer_part, asked_day, asked_part, found_portion, is_too_early, or_else, portion_among, portion_in, shown, shown_tree, unless_broken}
use Rattle.law_register.specs.Answer.Asking.{answer_at, answer_by, known_for}
use Rattle.law_register.specs.Answer.Flags.{flag_below, root_flag}
use Rattle.law_register.specs.Answer.Replay.{VersionValue, as_enacted, replay_on}
use Rattle.law_register.specs.Answer.Shown.{Shown}
use Rattle.law_register.specs.Register.KnownIds.{enacted, enacted_by, enacted_from, enacted_or, known_by}
use Rattle.law_register.specs.Provisions.Carrying.{carrying, held_now}
use Rattle.law_register.specs.Provisions.Line.{line}
use Rattle.law_register.specs.Register.KnownNext.{bare, known_now}
use Rattle.law_register.specs.Register.LawList.{front, laws}
use Rattle.law_register.specs.Register.Verdicts.{is_legal}
use Rattle.law_register.proofs.Next.{now_known}
use Rattle.law_register.proofs.WhenEnacted.{enacted_bare}
use Rattle.law_refs.specs.Missing.{missing, question_for, refs_in_force, refused_by, text_refs}
use Rattle.law_refs.specs.OfRegister.{HasSameRefs}

-- ---- two views of a work that differ in the numbers of law entries alone, and in what bears on no text

-- they have the same act, and on each day the same text in force
pub record IsSameView (old new : Known) : Type 0 where
  pub act : old.act ≡ new.act
  pub texts : (day : ℕ) → replay_on old Force day ≡ replay_on new Force day

-- a work that is known in neither, or has such views
abbrev pub IsUnmoved : Option Known → Option Known → Type 0
IsUnmoved None None = Unit {0}
IsUnmoved None (Some new) = ⊥
IsUnmoved (Some old) None = ⊥
IsUnmoved (Some old) (Some new) = IsSameView old new

-- it has the references that it had
pub unmoved_refs : (old new : Option Known) → IsUnmoved old new → HasSameRefs old new
unfolding refs_in_force
unmoved_refs None None is = tt
unmoved_refs None (Some new) is = absurd is
unmoved_refs (Some old) None is = absurd is
unmoved_refs (Some old) (Some new) is = (ap (λ (act : Act). act.day) is.act, λ day real. ap (λ (v : VersionValue). text_refs v.tree) (is.texts day))

-- ---- whether a text has a portion is told by its provisions alone

abbrev mutual
  has_portion : List ℕ → Numbering → Option (List ℕ) → Branch Provision → Bool
  has_portion eid numbering above (branch p below) =
      bytes_eq (eid_below numbering above p.own.element p.own.num) eid
      || have_portion eid numbering (Some (eid_below numbering above p.own.element p.own.num)) below

  have_portion : List ℕ → Numbering → Option (List ℕ) → Branches Provision → Bool
  have_portion eid numbering above no_branches = false
  have_portion eid numbering above (more_branches b bs) = has_portion eid numbering above b || have_portion eid numbering above bs

is_either : (a b : Option (Branch Shown)) → is_some (or_else a b) ≡ (is_some a || is_some b)
is_either None b = refl
is_either (Some found) b = refl

is_here : (t : Bool) (here : Branch Shown) (below : Option (Branch Shown)) → is_some (cond t (Some here) below) ≡ (t || is_some below)
is_here true here below = refl
is_here false here below = refl

module _ (known : Known) (reading : Reading) (day : ℕ) (numbering : Numbering) (eid : List ℕ) where
  mutual
    portion_here : (flag : Bool) (above : Option (List ℕ)) (b : Branch Provision)
        → is_some (portion_in eid (shown known reading day numbering flag above b)) ≡ has_portion eid numbering above b
    portion_here flag above (branch p below) =
        let own : List ℕ = eid_below numbering above p.own.element p.own.num in
        let under : Branches Shown = all_shown known reading day numbering (flag_below known reading day flag p.wid) (Some own) below in
        is_here (bytes_eq own eid) (shown known reading day numbering flag above (branch p below)) (portion_among eid under)
        ∙ ap (λ t. bytes_eq own eid || t) (portion_there (flag_below known reading day flag p.wid) (Some own) below)

    portion_there : (flag : Bool) (above : Option (List ℕ)) (bs : Branches Provision)
        → is_some (portion_among eid (all_shown known reading day numbering flag above bs)) ≡ have_portion eid numbering above bs
    portion_there flag above no_branches = refl
    portion_there flag above (more_branches b bs) =
        is_either (portion_in eid (shown known reading day numbering flag above b)) (portion_among eid (all_shown known reading day numbering flag above bs))
        ∙ ap (λ t. t || is_some (portion_among eid (all_shown known reading day numbering flag above bs))) (portion_here flag above b)
        ∙ ap (λ t. has_portion eid numbering above b || t) (portion_there flag above bs)

-- a text lacks what was asked for of it
abbrev lacks : Option (List ℕ) → TreeValue → Bool
lacks None tree = false
lacks (Some eid) tree = not (have_portion eid tree.numbering None tree.body)

-- ---- by which rule a question is refused

-- the number of the first rule that is broken: the work is not known by then, or the viewpoint is ahead, or the day before the act's, or
-- the language another, or the portion not there
abbrev refusal : Bool → Bool → Bool → Bool → Bool → Option ℕ
refusal unknown ahead early named lacking =
    cond unknown (Some 1) (cond ahead (Some 2) (cond early (Some 3) (cond (not named) (Some 4) (cond lacking (Some 5) None))))

module _ (known : Known) (q : Question) (version : VersionValue) where
  found_or_not : (eid : List ℕ) (o : Option (Branch Shown)) → refused_by (answer_part known version q (found_portion eid o)) ≡ cond (not (is_some o)) (Some 5) None
  found_or_not eid None = refl
  found_or_not eid (Some found) = refl

  part_refused : (portion : Option (List ℕ)) (day : ℕ) (flag : Bool)
      → refused_by (answer_part known version q (asked_part portion (shown_tree known q.reading day flag version.tree))) ≡ cond (lacks portion version.tree) (Some 5) None
  part_refused None day flag = refl
  part_refused (Some eid) day flag =
      found_or_not eid (portion_among eid (shown_tree known q.reading day flag version.tree))
      ∙ ap (λ t. cond (not t) (Some 5) None) (portion_there known q.reading day version.tree.numbering eid flag None version.tree.body)

  text_refused : refused_by (answer_of_text known version q) ≡ cond (lacks q.portion version.tree) (Some 5) None
  text_refused = part_refused q.portion (asked_day q.version known.act) (root_flag known q.reading (asked_day q.version known.act))

  refused : refused_by (answer_from known version q)
      ≡ refusal (nat_lt q.viewpoint known.enacted) (nat_lt known.front q.viewpoint) (is_too_early q.version known.act) (bytes_eq q.language known.act.language)
      (lacks q.portion version.tree)
  refused =
      by (nat_lt q.viewpoint known.enacted) (nat_lt known.front q.viewpoint) (is_too_early q.version known.act) (bytes_eq q.language known.act.language)
    where
      by : (unknown ahead early named : Bool)
          → refused_by
          (unless_broken
          (cond unknown (Some (UnknownWork q.work))
          (cond ahead (Some (ViewpointAhead known.front)) (cond early (Some (NotYetEnacted known.act.day)) (cond (not named) (Some (OtherLanguage known.act.language)) None))))
          (answer_of_text known version q))
          ≡ refusal unknown ahead early named (lacks q.portion version.tree)
      by true ahead early named = refl
      by false true early named = refl
      by false false true named = refl
      by false false false false = refl
      by false false false true = text_refused

-- ---- what a register knows counts its law entries

abbrev Counts : ℕ → Option Known → Type 0
Counts n None = Unit {0}
Counts n (Some known) = (known.front ≡ n) × (known.enacted ≤ n)

-- a law entry that enacts a work is one of them
within : (n : ℕ) (work : List ℕ) (ls : List Command) (found : ℕ × Act) → enacted_from n work ls ≡ Some found → found.0 < n + length ls
within n work [] found is = absurd (let no : None ≡ Some found = is in cc)
within n work (l ∷ ls) found is = by (enacted_by work l) is (within (n + 1) work ls found)
  where
    here : (number : ℕ) → n ≡ number → number < n + length (l ∷ ls)
    here number same = omega (arith, same)

    behind : found.0 < n + 1 + length ls → found.0 < n + length (l ∷ ls)
    behind less = omega (arith, less)

    by : (act : Option Act) → enacted_or n act (enacted_from (n + 1) work ls) ≡ Some found → (enacted_from (n + 1) work ls ≡ Some found → found.0 < n + 1 + length ls)
        → found.0 < n + length (l ∷ ls)
    by (Some act) first rest =
        let same : Some (n, act) ≡ Some found = first in
        let both : (n, act) ≡ found = cc in here found.0 (ap (λ (f : ℕ × Act). f.0) both)
    by None later rest = behind (rest later)

held_counts : (works : List Known) (n : ℕ) (known : Option Known) → Counts n known → Counts n (option_map (carrying works) known)
held_counts works n None counted = tt
held_counts works n (Some known) counted = counted

pub counts : (entries : List Entry) (work : List ℕ) → Counts (front entries) (held_now entries work)
counts entries work =
    held_counts (line (take (front entries) (laws entries))) (front entries) (known_now entries work)
    (subst (Counts (front entries)) (sym (now_known entries work)) (by (enacted work (laws entries)) refl))
  where
    least : (m n : ℕ) → m < 1 + n → m ≤ n
    least m n less = omega (arith, less)

    by : (found : Option (ℕ × Act)) → enacted work (laws entries) ≡ found → Counts (front entries) (known_by work (front entries) (front entries) (laws entries) found)
    by None is = tt
    by (Some found) is = (refl, least found.0 (front entries) (within 1 work (laws entries) found is))

-- ---- what refers to it is answered as before

-- what is known of the work that a question with this version asks for
abbrev as_asked : Option ℕ → Option Known → Option Known
as_asked None known = option_map bare known
as_asked (Some day) known = known

-- the act as enacted carries nothing
bare_too : (works : List Known) (known : Option Known) → option_map bare known ≡ option_map bare (option_map (carrying works) known)
bare_too works None = refl
bare_too works (Some known) = refl

asked_is : (entries : List Entry) → is_legal entries ≡ true → (work : List ℕ) (version : Option ℕ) → known_for entries work (front entries) version ≡ as_asked version (held_now entries work)
asked_is entries legal work None =
    enacted_bare entries work legal ∙ bare_too (line (take (front entries) (laws entries))) (known_now entries work)
asked_is entries legal work (Some day) = refl

missing_is : (entries : List Entry) → is_legal entries ≡ true → (target : Expression)
    → missing entries target ≡ refused_by (answer_by (question_for (front entries) target) (as_asked target.version (held_now entries target.work.text)))
unfolding missing answer_at
missing_is entries legal target =
    ap (λ known. refused_by (answer_by (question_for (front entries) target) known)) (asked_is entries legal target.work.text target.version)

not_more : (m n : ℕ) → m ≤ n → nat_lt n m ≡ false
not_more m n h = grind (arith, nat_tests)

not_itself : (m n : ℕ) → m ≡ n → nat_lt m n ≡ false
not_itself m n h = grind (arith, nat_tests)

-- by which rule a target is refused whose work is known, where all law entries are counted
abbrev refused_as : Expression → Known → VersionValue → Option ℕ
refused_as target known version =
    refusal false false (is_too_early target.version known.act) (bytes_eq target.language known.act.language) (lacks target.portion version.tree)

at_front : (n : ℕ) (target : Expression) (known : Known) (version : VersionValue) → known.front ≡ n → known.enacted ≤ n
    → refused_by (answer_from known version (question_for n target)) ≡ refused_as target known version
at_front n target known version counted below =
    refused known (question_for n target) version
    ∙ ap
    (λ t. refusal t (nat_lt known.front n) (is_too_early target.version known.act) (bytes_eq target.language known.act.language) (lacks target.portion version.tree))
    (not_more known.enacted n below)
    ∙ ap (λ t. refusal false t (is_too_early target.version known.act) (bytes_eq target.language known.act.language) (lacks target.portion version.tree))
    (not_itself known.front n counted)

-- the version that a target names
abbrev version_for : Option ℕ → Known → VersionValue
version_for None known = replay_on (bare known) Force known.act.day
version_for (Some day) known = replay_on known Force day

named : (n : ℕ) (target : Expression) (version : Option ℕ) (known : Known) → target.version ≡ version → known.front ≡ n → known.enacted ≤ n
    → refused_by (answer_by (question_for n target) (as_asked version (Some known))) ≡ refused_as target known (version_for version known)
unfolding answer_on
named n target None known is counted below =
    ap (λ version. refused_by (answer_from (bare known) (replay_on (bare known) Force (asked_day version known.act)) (question_for n target))) is
    ∙ at_front n target (bare known) (version_for None known) counted below
named n target (Some day) known is counted below =
    ap (λ version. refused_by (answer_from known (replay_on known Force (asked_day version known.act)) (question_for n target))) is
    ∙ at_front n target known (version_for (Some day) known) counted below

-- what is known when a work was enacted is told by its act
bare_text : (old new : Known) → old.act ≡ new.act → (version_for None old).tree ≡ (version_for None new).tree
bare_text old new same = ap (λ (act : Act). (as_enacted act).tree) same

same_text : (version : Option ℕ) (old new : Known) → IsSameView old new → (version_for version old).tree ≡ (version_for version new).tree
same_text None old new is = bare_text old new is.act
same_text (Some day) old new is = ap (λ (v : VersionValue). v.tree) (is.texts day)

same_refusal : (target : Expression) (old new : Known) → IsSameView old new
    → refused_as target old (version_for target.version old) ≡ refused_as target new (version_for target.version new)
same_refusal target old new is =
    ap (λ (act : Act). refusal false false (is_too_early target.version act) (bytes_eq target.language act.language) (lacks target.portion (version_for target.version old).tree)) is.act
    ∙ ap (λ (tree : TreeValue). refusal false false (is_too_early target.version new.act) (bytes_eq target.language new.act.language) (lacks target.portion tree))
    (same_text target.version old new is)

answered_alike : (n m : ℕ) (target : Expression) (old new : Option Known) → IsUnmoved old new → Counts n old → Counts m new
    → refused_by (answer_by (question_for m target) (as_asked target.version new)) ≡ refused_by (answer_by (question_for n target) (as_asked target.version old))
answered_alike n m target None None is before after = by target.version
  where
    by : (version : Option ℕ) → refused_by (answer_by (question_for m target) (as_asked version None)) ≡ refused_by (answer_by (question_for n target) (as_asked version None))
    by None = refl
    by (Some day) = refl
answered_alike n m target None (Some new) is before after = absurd is
answered_alike n m target (Some old) None is before after = absurd is
answered_alike n m target (Some old) (Some new) is before after =
    named m target target.version new refl after.0 after.1
    ∙ sym (same_refusal target old new is)
    ∙ sym (named n target target.version old refl before.0 before.1)

pub unmoved_missing : (before after : List Entry) → is_legal before ≡ true → is_legal after ≡ true → (target : Expression)
    → IsUnmoved (held_now before target.work.text) (held_now after target.work.text) → missing after target ≡ missing before target
unmoved_missing before after legal still target is =
    missing_is after still target
    ∙ answered_alike (front before) (front after) target (held_now before target.work.text) (held_now after target.work.text) is
    (counts before target.work.text) (counts after target.work.text)
    ∙ sym (missing_is before legal target)
