-- What a command makes of its keeper's list follows of what it makes of the book, and of how the keeper stands to that.
use Rattle.std.proofs.Common.{◌≡◌, ◌∙◌, sym, ap, subst, refl, inl, inr, ℕ, ◌+◌, ◌≤◌, List, Option, None, Result, Ok, Err, arith}
use Rattle.std.specs.Prelude.{◌↔◌}
use Rattle.desk_base.specs.Clocks.{GivesDay}
use Rattle.law_journal.specs.Grammar.{Listing}
use Rattle.law_keeper.specs.Keepers.{Holding, Keeps, IsWithOrWithout}
use Rattle.law_keeper.specs.declared.readiness.Readiness.{Readiness}
use Rattle.law_register.specs.declared.desk.command_fault.CommandFault.{CommandFault}
use Rattle.law_register.specs.declared.desk.command_fault.CommandFault.TheVariants as fails
use Rattle.law_register.specs.declared.law.command.Command.{Command}
use Rattle.law_register.specs.declared.register.entry.Entry.{Entry}
use Rattle.law_register.specs.declared.register.rules.Rule.{Rule}
use Rattle.law_register.specs.declared.register.verdict.Reply.{Reply}
use Rattle.law_register.specs.declared.register.verdict.Verdict.{Verdict}
use Rattle.law_register.specs.declared.register.verdict.Verdict.TheVariants.{Accepted, Repeat, Refused}
use Rattle.law_register.specs.Answer.Renewing.{command_cost, cost_said, judging_cost, judging_said}
use Rattle.law_register.specs.Desk.Commands.{AreSettled, Begins, EndsWithin, IsIdle, IsPending, IsRefused, IsReplied, Waits}
use Rattle.law_register.specs.Desk.States.{Standing}
use Rattle.law_register.specs.Register.Entering.{entered, entered_by, entry_of}
use Rattle.law_register.specs.Register.Verdicts.{verdict}
use Rattle.entry_codec.specs.Entries.{spelling}
use Rattle.law_refs.specs.Handing.{judged_for}
use Rattle.law_refs.specs.Index.{Kept}
use Rattle.law_office.specs.Acting.{Acts, IsStill, Settles}
use Rattle.law_office.specs.Lists.{EndsOver, EndsWith, SpellsExactly}
use Rattle.law_office.specs.Offices.{HoldsBook, Spells, index_standing, judging_of, pending_of, standing_of}
use Rattle.law_office.specs.Opening.{spellings}
use Rattle.law_office.specs.declared.book.Book.{Book}

-- the list of a keeper that holds a book in which nothing is pending
pub spelled_none : (h : Holding) (readiness : Readiness) (book : Book) → HoldsBook h readiness book
    → pending_of book.pending ≡ None → h.tells → SpellsExactly book.register.entries h.list
spelled_none h readiness book held none told =
    subst (λ (p : Option Entry). Spells book.register.entries p h.list) none (held.list told)

both_tell : (A B C : Type 0) → (A ↔ B) → (B ↔ C) → (A ↔ C)
both_tell A B C first second = (λ a. second.0 (first.0 a), λ c. first.1 (second.1 c))

-- nothing has come of a command
waits_of : (days : Option (ℕ → ℕ)) (old new : Book) → new ≡ old → Waits (standing_of old days) (standing_of new days)
waits_of days old new same = record {
  entries = ap (λ (b : Book). b.register.entries) same;
  pending = ap (λ (b : Book). pending_of b.pending) same;
  days = refl;
}

-- it took no step
pub waits_within : (drafter : List ℕ) (request : ℕ) (command : Command) (old new : Standing) (judging : List Entry → Entry → ℕ) (steps : ℕ)
    → Waits old new → EndsWithin drafter request command old new judging steps steps (Err fails.Memory)
waits_within drafter request command old new judging steps waits = record { ends = inl waits; within = omega arith }

-- so it is where what was pending could not be settled
pub stops_within : (drafter : List ℕ) (request : ℕ) (command : Command) (days : Option (ℕ → ℕ)) (old new : Book) (steps : ℕ) (fault : CommandFault)
    → Settles old new (Err fault) → EndsWithin drafter request command (standing_of old days) (standing_of new days) (judging_of old) steps steps (Err fault)
stops_within drafter request command days old new steps (fails.Rule rule) settles = absurd settles
stops_within drafter request command days old new steps fails.KeeperFault settles =
    record { ends = inl (waits_of days old new settles.0, settles.1); within = omega arith }
stops_within drafter request command days old new steps fails.Memory settles =
    waits_within drafter request command (standing_of old days) (standing_of new days) (judging_of old) steps (waits_of days old new settles)

-- a command that breaks a rule costs nothing
refused_free : (es : List Entry) (drafter : List ℕ) (request day : ℕ) (command : Command) (rule : Rule) → entered es drafter request day command ≡ Err rule
    → command_cost es (entry_of drafter request day None command) ≡ 0
unfolding entered command_cost
refused_free es drafter request day command rule is = by (verdict es drafter request command) is
  where
    by : (said : Verdict) → entered_by es drafter request day command said ≡ Err rule → cost_said es (entry_of drafter request day None command) said ≡ 0
    by (Accepted law reply) is = absurd (cc is)
    by (Repeat reply) is = absurd (cc is)
    by (Refused other) is = refl

-- nor is a reference judged for it
refused_unjudged : (judging : List Entry → Entry → ℕ) (es : List Entry) (drafter : List ℕ) (request day : ℕ) (command : Command) (rule : Rule)
    → entered es drafter request day command ≡ Err rule → judging_cost judging es (entry_of drafter request day None command) ≡ 0
unfolding entered judging_cost
refused_unjudged judging es drafter request day command rule is = by (verdict es drafter request command) is
  where
    by : (said : Verdict) → entered_by es drafter request day command said ≡ Err rule → judging_said judging es (entry_of drafter request day None command) said ≡ 0
    by (Accepted law reply) is = absurd (cc is)
    by (Repeat reply) is = absurd (cc is)
    by (Refused other) is = refl

-- as many references are judged, where as many are for each entry that comes to stand behind these
judged_alike : (first second : List Entry → Entry → ℕ) (es : List Entry) (e : Entry) → ((entry : Entry) → first es entry ≡ second es entry)
    → judging_cost first es e ≡ judging_cost second es e
unfolding judging_cost
judged_alike first second es e same = by (verdict es e.drafter e.request e.command)
  where
    by : (said : Verdict) → judging_said first es e said ≡ judging_said second es e said
    by (Accepted law reply) = same (record e { law = law })
    by (Repeat reply) = refl
    by (Refused rule) = refl

-- the list stays, and the command ends so over a list that stays
stays_over : (drafter : List ℕ) (request : ℕ) (command : Command) (old new : Standing) (h k : Holding)
    (result : Result Reply CommandFault) → Keeps h k → EndsWith drafter request command old new h.list h.list result
    → EndsOver drafter request command old new h k result
stays_over drafter request command old new h k result keeps ends = record {
  tells = keeps.tells;
  ends = λ told.
      subst (λ (list : Listing). EndsWith drafter request command old new h.list list result)
      (sym (keeps.list told)) ends;
}

-- what was pending could not be settled
pub stops_over : (drafter : List ℕ) (request : ℕ) (command : Command) (days : Option (ℕ → ℕ)) (old new : Book)
    (h k : Holding) (fault : CommandFault) → Settles old new (Err fault) → Keeps h k
    → EndsOver drafter request command (standing_of old days) (standing_of new days) h k (Err fault)
stops_over drafter request command days old new h k (fails.Rule rule) settles keeps = absurd settles
stops_over drafter request command days old new h k fails.KeeperFault settles keeps =
    stays_over drafter request command (standing_of old days) (standing_of new days) h k (Err fails.KeeperFault) keeps
    (inl ((waits_of days old new settles.0, refl), settles.1))
stops_over drafter request command days old new h k fails.Memory settles keeps =
    stays_over drafter request command (standing_of old days) (standing_of new days) h k (Err fails.Memory) keeps
    (inl (waits_of days old new settles), refl)

module _ (drafter : List ℕ) (request : ℕ) (command : Command) (day : ℕ) (days later : Option (ℕ → ℕ))
    (old mid new : Book) (h m n : Holding) (before after : Readiness)
    (settles : AreSettled old.register.entries (pending_of old.pending) mid.register.entries)
    (none : mid.pending ≡ None) (keeps : Keeps h m) (gives : GivesDay days later day) (index : mid.refs ≡ index_standing old mid.register.entries)
    (held : HoldsBook m before mid) (holds : HoldsBook n after new) where
  -- the entry of the command, whose law number is not known yet
  abbrev pub e : Entry
  e = entry_of drafter request day None command

  -- the list spelled the settled entries
  had : h.tells → SpellsExactly mid.register.entries h.list
  had told =
      sym (keeps.list told)
      ∙ spelled_none m before mid held (ap pending_of none) (keeps.tells.0 told)

  had_same : new.register.entries ≡ mid.register.entries → h.tells → SpellsExactly new.register.entries h.list
  had_same same told = had told ∙ ap (λ (es : List Entry). Ok (spellings es)) (sym same)

  has : (m.tells → n.tells) → pending_of new.pending ≡ None → h.tells → SpellsExactly new.register.entries n.list
  has leads settled told = spelled_none n after new holds settled (leads (keeps.tells.0 told))

  begins : new.register.entries ≡ mid.register.entries
      → Begins (standing_of old days) (standing_of new later) new.register.entries day
  begins same = record {
    settles = subst (λ (es : List Entry). AreSettled old.register.entries (pending_of old.pending) es) (sym same) settles;
    gives = gives;
  }

  replied : (reply : Reply) → Acts e mid new (Ok reply) → IsReplied drafter request command (standing_of old days) (standing_of new later) reply
  replied reply acts = record {
    settled = mid.register.entries;
    day = day;
    begins = record { settles = settles; gives = gives };
    entered = acts.0;
    pending = ap pending_of acts.1;
  }

  refused : (rule : Rule) → Acts e mid new (Err (fails.Rule rule)) → IsRefused drafter request command (standing_of old days) (standing_of new later) rule
  refused rule acts = record {
    day = day;
    begins = begins (acts.1).entries;
    refused = subst (λ (es : List Entry). entered es drafter request day command ≡ Err rule) (sym (acts.1).entries) acts.0;
    pending = ap pending_of (acts.1).pending;
  }

  left : Acts e mid new (Err fails.KeeperFault) → IsPending drafter request command (standing_of old days) (standing_of new later)
  left acts = record {
    day = day;
    begins = begins acts.entries;
    law = acts.law;
    reply = acts.reply;
    accepted = subst (λ (es : List Entry). verdict es drafter request command ≡ Accepted acts.law acts.reply)
        (sym acts.entries) acts.accepted;
    pending = acts.pending;
  }

  idle : Acts e mid new (Err fails.Memory) → IsIdle drafter request command (standing_of old days) (standing_of new later)
  idle acts = record { day = day; begins = begins acts.entries; pending = ap pending_of acts.pending }

  -- what the command costs behind settled entries
  abbrev cost_of : List Entry → ℕ
  cost_of settled = command_cost settled e + judging_cost (judging_of old) settled e

  cost_same : (before after : ℕ) → new.register.entries ≡ mid.register.entries → after ≤ before + cost_of mid.register.entries
      → after ≤ before + cost_of new.register.entries
  cost_same before after same = subst (λ (es : List Entry). after ≤ before + cost_of es) (sym same)

  -- the index that was settled is that which stands with the settled entries
  judged_same : judging_cost (judged_for mid.refs) mid.register.entries e ≡ judging_cost (judging_of old) mid.register.entries e
  judged_same =
      judged_alike (judged_for mid.refs) (judging_of old) mid.register.entries e
      (λ entry. ap (λ (i : Kept). judged_for i mid.register.entries entry) index)

  ended : (before after : ℕ) (result : Result Reply CommandFault) → Acts e mid new result → after ≤ before + cost_of mid.register.entries
      → EndsWithin drafter request command (standing_of old days) (standing_of new later) (judging_of old) before after result
  unfolding replied left idle
  ended before after (Ok reply) acts cost = record { ends = replied reply acts; within = cost }
  ended before after (Err (fails.Rule rule)) acts cost =
      let none_applied = refused_free mid.register.entries drafter request day command rule acts.0 in
      let none_judged = refused_unjudged (judging_of old) mid.register.entries drafter request day command rule acts.0 in
      record { ends = refused rule acts; within = omega (arith, cost, none_applied, none_judged) }
  ended before after (Err fails.KeeperFault) acts cost =
      record { ends = inr (left acts); within = cost_same before after acts.entries cost }
  ended before after (Err fails.Memory) acts cost =
      record { ends = inr (idle acts); within = cost_same before after acts.entries cost }

  -- a command ends within the steps that it may take
  pub ends_within : (before after : ℕ) (result : Result Reply CommandFault) → Acts e mid new result
      → after ≤ before + (command_cost mid.register.entries e + judging_cost (judged_for mid.refs) mid.register.entries e)
      → EndsWithin drafter request command (standing_of old days) (standing_of new later) (judging_of old) before after result
  ends_within before after result acts cost =
      ended before after result acts (subst (λ (n : ℕ). after ≤ before + (command_cost mid.register.entries e + n)) judged_same cost)

  ends_still : (m.tells → n.tells) → (still : IsStill mid new) → h.tells → n.list ≡ h.list
  ends_still leads still told = has leads (ap pending_of still.pending) told ∙ sym (had_same still.entries told)

  ends_with : (m.tells → n.tells) → (result : Result Reply CommandFault) → Acts e mid new result → h.tells
      → EndsWith drafter request command (standing_of old days) (standing_of new later) h.list n.list result
  unfolding replied left
  ends_with leads (Ok reply) acts told = record {
    replied = replied reply acts;
    found = had told;
    kept = has leads (ap pending_of acts.1) told;
    stays = λ same. has leads (ap pending_of acts.1) told ∙ sym (had_same same told);
  }
  ends_with leads (Err (fails.Rule rule)) acts told = record {
    refused = refused rule acts;
    found = had_same (acts.1).entries told;
    stays = ends_still leads acts.1 told;
  }
  ends_with leads (Err fails.KeeperFault) acts told = inr (record {
    left = left acts;
    found = had_same acts.entries told;
    kept = subst (λ (list : Listing). IsWithOrWithout list (spelling (entry_of drafter request day acts.law command)) n.list)
        (sym (had_same acts.entries told))
        (subst (λ (p : Option Entry). Spells new.register.entries p n.list) acts.pending
        (holds.list (leads (keeps.tells.0 told))));
  })
  ends_with leads (Err fails.Memory) acts told =
      (inr (record { idle = idle acts; found = had_same acts.entries told }), ends_still leads acts told)

  pub ends_over : (m.tells ↔ n.tells) → (result : Result Reply CommandFault) → Acts e mid new result
      → EndsOver drafter request command (standing_of old days) (standing_of new later) h n result
  ends_over tells result acts = record {
    tells = both_tell h.tells m.tells n.tells keeps.tells tells;
    ends = ends_with tells.0 result acts;
  }
