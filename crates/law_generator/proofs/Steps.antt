-- One section more, and one request more.
use Rattle.std.proofs.Common.{◌≡◌, refl, sym, ap, subst, ◌∙◌, ℕ, zero, suc, ◌+◌, ◌-◌, ◌≤◌, List, [], ◌∷◌, ◌++◌, arith}
use Rattle.law_generator.specs.Acts.{section, sections}
use Rattle.law_generator.specs.Courses.{AreJudgedWithin, Course, IsCut, after_command, command_after, course, course_cost, entries_of, generated, goes_on, judging_sent, question_at, sending_cost, told_of}
use Rattle.law_generator.specs.declared.generated.Generated.{Generated}
use Rattle.law_generator.specs.Drawn.{asked}
use Rattle.law_register.specs.Register.LawList.{front}
use Rattle.law_register.specs.declared.law.command.Command.{Command}
use Rattle.law_register.specs.declared.register.entry.Entry.{Entry}

pub sections_none : sections 0 ≡ []
unfolding sections
sections_none = refl

sections_next : (m n : ℕ) → m ≡ suc n → sections m ≡ sections n ++ section m ∷ []
unfolding sections
sections_next m n e = rw e refl

pub sections_more : (n : ℕ) → sections (n + 1) ≡ sections n ++ section (n + 1) ∷ []
sections_more n = sections_next (n + 1) n (omega arith)

pub course_none : (seed : ℕ) → course seed 0 ≡ record { entries = []; state = seed }
unfolding course
course_none seed = refl

course_next : (seed m n : ℕ) → m ≡ suc n
    → course seed m ≡ goes_on (course seed n).entries m (asked m (front (course seed n).entries) (course seed n).state)
unfolding course
course_next seed m n e = rw e refl

cost_next : (most : ℕ → ℕ) (seed m n : ℕ) → m ≡ suc n
    → course_cost most seed m
    ≡ course_cost most seed n + sending_cost (course seed n).entries m (asked m (front (course seed n).entries) (course seed n).state).command + most n
unfolding course_cost
cost_next most seed m n e = rw e refl

more_costs : (most : ℕ → ℕ) (seed n k : ℕ) → course_cost most seed n ≤ course_cost most seed (n + k)
more_costs most seed n zero =
    let same : n ≡ n + 0 = omega arith in
    subst (λ (m : ℕ). course_cost most seed n ≤ course_cost most seed m) same (omega arith)
more_costs most seed n (suc k) = omega (arith, more_costs most seed n k, cost_next most seed (n + suc k) (n + k) (omega arith))

-- the first requests cost no more than all
pub costs_within : (most : ℕ → ℕ) (seed done count : ℕ) → done ≤ count → course_cost most seed done ≤ course_cost most seed count
costs_within most seed done count le =
    let same : done + (count - done) ≡ count = omega (arith, le) in
    subst (λ (m : ℕ). course_cost most seed done ≤ course_cost most seed m) same (more_costs most seed done (count - done))

-- what is judged for a request behind the first so many is within what it may be
module _ {D : Type 0} (entries_in : D → List Entry) (judging : D → List Entry → Entry → ℕ) (seed : ℕ) (most : ℕ → ℕ)
    (bounded : AreJudgedWithin entries_in judging seed most) (desk : D) (done : ℕ) (entries_are : entries_in desk ≡ (course seed done).entries) where
  pub judged_within : (request : ℕ) (command : Command) → request ≡ suc done → command ≡ command_after seed done
      → judging_sent (judging desk) (entries_in desk) request command ≤ most done
  judged_within request command next is =
      let Within : ℕ → Command → Type 0 = λ r c. judging_sent (judging desk) (entries_in desk) r c ≤ most done in
      subst (λ r. Within r command) (sym next) (subst (λ c. Within (suc done) c) (sym is) (bounded desk done entries_are))

-- a course after one request more, whose command was asked for and done
module _ (seed done : ℕ) (old : List Entry) (state : ℕ)
    (entries_are : old ≡ (course seed done).entries) (state_is : state ≡ (course seed done).state) where
  goes : course seed (done + 1) ≡ goes_on old (done + 1) (asked (done + 1) (front old) state)
  goes =
      let On : List Entry → ℕ → Type 0 =
      λ entries x. course seed (done + 1) ≡ goes_on entries (done + 1) (asked (done + 1) (front entries) x) in
      subst (λ entries. On entries state) (sym entries_are)
      (subst (λ x. On (course seed done).entries x) (sym state_is) (course_next seed (done + 1) done (omega arith)))

  pub entries_go_on : (command : Command) (new : List Entry) → command ≡ (asked (done + 1) (front old) state).command
      → new ≡ after_command old (done + 1) command → new ≡ (course seed (done + 1)).entries
  entries_go_on command new is made =
      made ∙ ap (λ asking. after_command old (done + 1) asking) is ∙ sym (ap (λ (c : Course). c.entries) goes)

  pub command_is_next : (command : Command) → command ≡ (asked (done + 1) (front old) state).command → command ≡ command_after seed done
  command_is_next command is =
      let next : done + 1 ≡ suc done = omega arith in
      is ∙ (λ i. (asked (next i) (front (entries_are i)) (state_is i)).command)

  pub costs_go_on : (most : ℕ → ℕ) (command : Command) (judged start before after : ℕ) → command ≡ (asked (done + 1) (front old) state).command
      → before ≤ start + course_cost most seed done → after ≤ before + sending_cost old (done + 1) command + judged → judged ≤ most done
      → after ≤ start + course_cost most seed (done + 1)
  costs_go_on most command judged start before after is so_far more few =
      let own : sending_cost old (done + 1) command
      ≡ sending_cost (course seed done).entries (done + 1) (asked (done + 1) (front (course seed done).entries) (course seed done).state).command =
      ap (sending_cost old (done + 1)) is
      ∙ (λ i. sending_cost (entries_are i) (done + 1) (asked (done + 1) (front (entries_are i)) (state_is i)).command) in
      omega (arith, so_far, more, few, own, cost_next most seed (done + 1) done (omega arith))

  pub state_goes_on : (new : ℕ) → new ≡ (asked (done + 1) (front old) state).state → new ≡ (course seed (done + 1)).state
  state_goes_on new is = is ∙ sym (ap (λ (c : Course). c.state) goes)

-- the viewpoint of the question is the one that it is asked at
pub viewpoint_is : (viewpoint : ℕ) → (question_at viewpoint).viewpoint ≡ viewpoint
unfolding question_at
viewpoint_is viewpoint = refl

-- the entries of a course that is cut, before the first request, behind some, or behind all
pub cut_first : (seed count : ℕ) (entries : List Entry) → entries ≡ [] → IsCut seed count entries
unfolding entries_of
cut_first seed count entries none = record {
  done = 0;
  within = omega arith;
  entries_are = none ∙ sym (ap (λ (c : Course). c.entries) (course_none seed));
}

pub cut_at : (seed count done : ℕ) (entries : List Entry) → done ≤ count → entries ≡ (course seed done).entries → IsCut seed count entries
unfolding entries_of
cut_at seed count done entries within is = record { done = done; within = within; entries_are = is }

pub cut_last : (seed count : ℕ) (entries : List Entry) → entries ≡ entries_of seed count → IsCut seed count entries
cut_last seed count entries is = record { done = count; within = omega arith; entries_are = is }

-- what is told of the entries of a course
pub told_is : (seed count : ℕ) (entries : List Entry) (told : Generated) → entries ≡ entries_of seed count → told ≡ told_of count entries
    → told ≡ generated seed count
unfolding generated
told_is seed count entries told same is = is ∙ ap (told_of count) same
