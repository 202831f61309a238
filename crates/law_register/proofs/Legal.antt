-- What is so of a legal register, and of a command that is accepted behind it.
use Rattle.std.proofs.Common.{◌≡◌, sym, ap, subst, ℕ, ◌+◌, ◌≤◌, nat_le, nat_lt, Bool, true, false, cond, ◌||◌, List, [], ◌∷◌, ◌++◌, length, Option, Some, None, refl, append_assoc, arith}
use Rattle.std.proofs.lemmas.List.{append-nil, length-append}
use Rattle.std.proofs.lemmas.Bool.Decides.{nat_tests}
use Rattle.std.specs.Option.{option_map_or, option_or}
use Rattle.law_register.specs.declared.law.command.Command.{Command}
use Rattle.law_register.specs.declared.law.command.Command.TheVariants.{Enact, Record, Correct, Withdraw, Restore, DraftAdd, DraftDrop, File}
use Rattle.law_register.specs.declared.register.draft.DraftItem.{DraftItem}
use Rattle.law_register.specs.declared.register.entry.Entry.{Entry}
use Rattle.law_register.specs.declared.register.limits.TheConstants.{MOST_LAWS, MOST_ENTRY_BYTES, MOST_REGISTER_BYTES}
use Rattle.law_register.specs.declared.register.rules.Rule.{Rule}
use Rattle.law_register.specs.declared.register.rules.Rule.TheVariants.{LawFull}
use Rattle.law_register.specs.declared.register.verdict.Reply.{Reply}
use Rattle.law_register.specs.declared.register.verdict.Verdict.TheVariants.{Accepted, Repeat, Refused}
use Rattle.law_register.specs.Register.Drafts.{additions, added, is_by, draft_of}
use Rattle.law_register.specs.Register.LawList.{law_command, law_of, laws, front}
use Rattle.law_register.specs.Law.Formats.{format_of}
use Rattle.law_register.specs.Law.Same.{same_number}
use Rattle.desk_base.specs.Sizes.{name_size}
use Rattle.law_register.specs.Law.Sizes.{command_size, size_of, entry_size, entries_size}
use Rattle.law_register.specs.Register.Verdicts as v
use Rattle.law_register.specs.Register.Verdicts.{broken_where, again, newly, reply_to, law_number, request_of, first_rule, verdict, is_accepted, is_legal_from, is_legal}
use Rattle.law_register.proofs.Puts.{left_true, right_true}
use Rattle.law_register.proofs.Snoc.{laws_more, size_more}

pub first_kept : (a b : Option Rule) → option_or a b ≡ None → a ≡ None
first_kept None b h = refl
first_kept (Some rule) b h = h

pub second_kept : (a b : Option Rule) → option_or a b ≡ None → b ≡ None
second_kept None b h = h
second_kept (Some rule) b h = cc

pub not_broken : (test : Bool) (rule : Rule) → broken_where test rule ≡ None → test ≡ false
not_broken true rule h = cc
not_broken false rule h = refl

-- a command that is accepted is new, breaks no rule, and gets that number
pub record IsNew (entries : List Entry) (drafter : List ℕ) (request : ℕ) (command : Command) (law : Option ℕ) : Type 0 where
  pub new : request_of entries drafter request ≡ None
  pub kept : first_rule entries drafter command ≡ None
  pub number : same_number law (law_number entries command) ≡ true

not_again : (law : Option ℕ) (rule : Option Rule) (reply : Reply) → is_accepted law (option_map_or (λ r. Refused r) rule (Repeat reply)) ≡ true → ⊥
not_again law None reply h = let no : false ≡ true = h in cc
not_again law (Some rule) reply h = let no : false ≡ true = h in cc

by_rule : (es : List Entry) (d : List ℕ) (r : ℕ) (c : Command) (law : Option ℕ) (rule : Option Rule) → request_of es d r ≡ None → first_rule es d c ≡ rule
    → is_accepted law (option_map_or (λ x. Refused x) rule (Accepted (law_number es c) (reply_to es d c))) ≡ true → IsNew es d r c law
by_rule es d r c law None new is h = record { new = new; kept = is; number = h }
by_rule es d r c law (Some rule) new is h = absurd (let no : false ≡ true = h in cc)

by_found : (es : List Entry) (d : List ℕ) (r : ℕ) (c : Command) (law : Option ℕ) (found : Option (Entry × Reply)) → request_of es d r ≡ found
    → is_accepted law (option_map_or (λ f. again c f) found (newly es d c)) ≡ true → IsNew es d r c law
by_found es d r c law None is h = by_rule es d r c law (first_rule es d c) is refl h
by_found es d r c law (Some found) is h = absurd (not_again law (v.number_reused c found) found.1 h)

pub accepted_new : (es : List Entry) (d : List ℕ) (r : ℕ) (c : Command) (law : Option ℕ) → is_accepted law (verdict es d r c) ≡ true → IsNew es d r c law
unfolding verdict
accepted_new es d r c law h = by_found es d r c law (request_of es d r) refl h

-- the rules that a command keeps which are asked for here
pub record Keeps (entries : List Entry) (drafter : List ℕ) (command : Command) : Type 0 where
  pub modification : v.bad_modification command ≡ None
  pub draft : v.draft_full (draft_of drafter entries) command ≡ None
  pub work : v.work_full (laws entries) (draft_of drafter entries) command ≡ None
  pub law : v.law_full entries command ≡ None
  pub register : v.register_full entries drafter command ≡ None
  pub tree : v.bad_tree command ≡ None
  pub known : v.unknown_work (laws entries) command ≡ None
  pub new : v.work_exists (laws entries) command ≡ None
  pub filled : v.empty_draft (draft_of drafter entries) command ≡ None

pub kept_rules : (es : List Entry) (d : List ℕ) (c : Command) → first_rule es d c ≡ None → Keeps es d c
kept_rules es d c h =
    let h2 = second_kept (v.drafters_full es d) _ h in
    let h3 = second_kept (v.unknown_work (laws es) c) _ h2 in
    let h4 = second_kept (v.work_exists (laws es) c) _ h3 in
    let h5 = second_kept (v.bad_tree c) _ h4 in
    let h6 = second_kept (v.bad_modification c) _ h5 in
    let h7 = second_kept (v.bad_period c) _ h6 in
    let h8 = second_kept (v.unknown_modification (laws es) (draft_of d es) c) _ h7 in
    let h9 = second_kept (v.already_withdrawn (laws es) c) _ h8 in
    let h10 = second_kept (v.not_withdrawn (laws es) c) _ h9 in
    let h11 = second_kept (v.wrong_kind (laws es) c) _ h10 in
    let h12 = second_kept (v.stale (laws es) c) _ h11 in
    let h13 = second_kept (v.empty_draft (draft_of d es) c) _ h12 in
    let h14 = second_kept (v.draft_full (draft_of d es) c) _ h13 in
    let h15 = second_kept (v.work_full (laws es) (draft_of d es) c) _ h14 in
    record {
      modification = first_kept (v.bad_modification c) _ h5;
      draft = first_kept (v.draft_full (draft_of d es) c) _ h13;
      work = first_kept (v.work_full (laws es) (draft_of d es) c) _ h14;
      law = first_kept (v.law_full es c) (v.register_full es d c) h15;
      register = second_kept (v.law_full es c) (v.register_full es d c) h15;
      tree = first_kept (v.bad_tree c) _ h4;
      known = first_kept (v.unknown_work (laws es) c) _ h2;
      new = first_kept (v.work_exists (laws es) c) _ h3;
      filled = first_kept (v.empty_draft (draft_of d es) c) _ h12;
    }

-- what holds of no entries, and of one accepted entry more, holds of a legal register
module _ (P : List Entry → Type 0) (more : (es : List Entry) (e : Entry) → P es → IsNew es e.drafter e.request e.command e.law → P (es ++ e ∷ [])) where
  along : (before es : List Entry) → P before → is_legal_from before es ≡ true → P (before ++ es)
  along before [] p h = subst P (sym (append-nil before)) p
  along before (e ∷ es) p h =
      let new = accepted_new before e.drafter e.request e.command e.law (left_true (is_accepted e.law (verdict before e.drafter e.request e.command)) (is_legal_from (before ++ e ∷ []) es) h) in
      subst P (append_assoc before (e ∷ []) es)
      (along (before ++ e ∷ []) es (more before e p new) (right_true (is_accepted e.law (verdict before e.drafter e.request e.command)) (is_legal_from (before ++ e ∷ []) es) h))

  pub legally : P [] → (es : List Entry) → is_legal es ≡ true → P es
  legally p es h = along [] es p h

-- the size of all entries
not_above : (m n : ℕ) → nat_lt m n ≡ false → n ≤ m
not_above m n h = grind (arith, nat_tests)

neither : (a b : Bool) → a || b ≡ false → b ≡ false
neither true b h = absurd (let no : true ≡ false = h in cc)
neither false b h = h

abbrev SizeFits : List Entry → Type 0
SizeFits es = entries_size es ≤ MOST_REGISTER_BYTES

size_step : (es : List Entry) (e : Entry) → SizeFits es → IsNew es e.drafter e.request e.command e.law → SizeFits (es ++ e ∷ [])
size_step es e fits new =
    let kept = (kept_rules es e.drafter e.command new.kept).register in
    let small = not_broken (nat_lt MOST_ENTRY_BYTES (size_of e.drafter e.command) || nat_lt MOST_REGISTER_BYTES (entries_size es + size_of e.drafter e.command)) _ kept in
    let all = not_above MOST_REGISTER_BYTES (entries_size es + size_of e.drafter e.command)
    (neither (nat_lt MOST_ENTRY_BYTES (size_of e.drafter e.command)) (nat_lt MOST_REGISTER_BYTES (entries_size es + size_of e.drafter e.command)) small) in
    subst (λ n. n ≤ MOST_REGISTER_BYTES) (sym (size_more es e)) all

pub legal_size : (es : List Entry) → is_legal es ≡ true → entries_size es ≤ 536870912
legal_size es h = legally SizeFits size_step (omega arith) es h

-- how many law entries there are
abbrev FrontFits : List Entry → Type 0
FrontFits es = front es ≤ 65535

below : (es : List Entry) → broken_where (nat_le MOST_LAWS (front es)) (LawFull MOST_LAWS) ≡ None → front es + 1 ≤ 65535
below es kept = above (front es) (not_broken (nat_le MOST_LAWS (front es)) (LawFull MOST_LAWS) kept)
  where
    above : (n : ℕ) → nat_le 65535 n ≡ false → n + 1 ≤ 65535
    above n h = grind (arith, nat_tests)

one_law : (draft : List DraftItem) (es : List Entry) (c : Command) → front es ≤ 65535 → v.law_full es c ≡ None → front es + length (law_command draft c) ≤ 65535
one_law draft es (DraftAdd work body) fits kept = omega arith
one_law draft es (DraftDrop item) fits kept = omega arith
one_law draft es (Enact act) fits kept = below es kept
one_law draft es (Record work mods) fits kept = below es kept
one_law draft es (Correct id body) fits kept = below es kept
one_law draft es (Withdraw id) fits kept = below es kept
one_law draft es (Restore id) fits kept = below es kept
one_law draft es (File work seen) fits kept = below es kept

front_step : (es : List Entry) (e : Entry) → FrontFits es → IsNew es e.drafter e.request e.command e.law → FrontFits (es ++ e ∷ [])
front_step es e fits new =
    let one = one_law (draft_of e.drafter es) es e.command fits (kept_rules es e.drafter e.command new.kept).law in
    omega (arith, ap length (laws_more es e), length-append (laws es) (law_of es e), one)

pub legal_front : (es : List Entry) → is_legal es ≡ true → front es ≤ 65535
legal_front es h = legally FrontFits front_step (omega arith) es h

-- how many items a drafter has added
one_addition : (own : Bool) (c : Command) → cond own (additions c) 0 ≤ 1
one_addition false c = omega arith
one_addition true (DraftAdd work body) = omega arith
one_addition true (DraftDrop item) = omega arith
one_addition true (Enact act) = omega arith
one_addition true (Record work mods) = omega arith
one_addition true (Correct id body) = omega arith
one_addition true (Withdraw id) = omega arith
one_addition true (Restore id) = omega arith
one_addition true (File work seen) = omega arith

pub some_size : (d : List ℕ) (c : Command) → 1 ≤ size_of d c
some_size d c = more (name_size d) (command_size (format_of c) c)
  where
    more : (n k : ℕ) → 1 ≤ 1 + n + 8 + 4 + 4 + k
    more n k = omega arith

pub added_size : (d : List ℕ) (es : List Entry) → added d es ≤ entries_size es
added_size d [] = omega arith
added_size d (e ∷ es) = add (cond (is_by d e) (additions e.command) 0) (added d es) (entry_size e) (entries_size es) (one_addition (is_by d e) e.command) (some_size e.drafter e.command) (added_size d es)
  where
    add : (a b c n : ℕ) → a ≤ 1 → 1 ≤ c → b ≤ n → a + b ≤ c + n
    add a b c n h i j = omega arith

pub entries_few : (es : List Entry) → length es ≤ entries_size es
entries_few [] = omega arith
entries_few (e ∷ es) = omega (arith, some_size e.drafter e.command, entries_few es)

pub legal_added : (d : List ℕ) (es : List Entry) → is_legal es ≡ true → added d es ≤ 536870912
legal_added d es h = omega (arith, added_size d es, legal_size es h)
