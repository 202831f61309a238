-- Nothing changes in a work before its touched day.
use Rattle.std.proofs.Common.{◌≡◌, ◌∙◌, sym, ap, refl, subst, ℕ, ◌+◌, ◌<◌, ◌≤◌, Bool, true, false, cond, ◌&&◌, ◌||◌, is_some, nat_lt, List, [], ◌∷◌, ◌++◌, filter, map, Option, Some, None, length, option_map, option_and_then, arith}
use Rattle.std.proofs.lemmas.List.{append-nil}
use Rattle.std.specs.List.{AllByRecursion, find, list_any}
use Rattle.std.specs.List.Sorted.{IsStrictlySortedBy}
use Rattle.std.specs.Option.{option_map_or}
use Rattle.std.specs.Str.{bytes_eq}
use Rattle.desk_base.specs.declared.id.Id.{Id}
use Rattle.act_tree.specs.Branches.{Branch, Branches, branch, no_branches, more_branches}
use Rattle.act_tree.specs.Changes.{root_wid}
use Rattle.act_tree.specs.Provisions.{Provision}
use Rattle.bearing_mods.specs.Efficacy.{efficacy_at}
use Rattle.bearing_mods.specs.Force.{force_at}
use Rattle.bearing_mods.specs.declared.efficacy.CountedEfficacy.{CountedEfficacy}
use Rattle.bearing_mods.specs.declared.force.CountedForce.{CountedForce}
use Rattle.desk_base.specs.declared.period.Period.{Period}
use Rattle.desk_base.specs.Periods.{includes}
use Rattle.law_register.specs.declared.answer.question.Reading.{Reading}
use Rattle.law_register.specs.declared.answer.question.Reading.TheVariants as reading
use Rattle.law_register.specs.declared.law.act.Act.{Act}
use Rattle.law_register.specs.declared.law.command.Command.{Command}
use Rattle.law_register.specs.declared.law.modification.Destination.TheVariants as to
use Rattle.law_register.specs.declared.law.modification.ModSource.{ModSource}
use Rattle.law_register.specs.declared.law.modification.Modification.{Modification}
use Rattle.law_register.specs.declared.law.modification.Modification.TheVariants.{Textual, Force, Efficacy}
use Rattle.law_register.specs.declared.register.entry.Entry.{Entry}
use Rattle.law_register.specs.declared.register.known.Known.{Known}
use Rattle.law_register.specs.declared.register.known.KnownMod.{KnownMod}
use Rattle.law_register.specs.Answer.Bearing.{force_of_act, force_of_node, force_on, node_bears}
use Rattle.law_register.specs.Answer.Counted.{efficacies_on, forces_on, is_same_id}
use Rattle.law_register.specs.Answer.Flags.{flag_among, flag_below, flag_in, has_some, is_marked, or_else, root_flag}
use Rattle.law_register.specs.Answer.Order.{due_as, is_due, order}
use Rattle.law_register.specs.Answer.Replay.{VersionValue, as_enacted, edit_in, edit_of, replayed}
use Rattle.law_register.specs.Answer.Soundness.{id_twice}
use Rattle.law_register.specs.Answer.Standing.{stands_by}
use Rattle.law_register.specs.Answer.Touched.{day_among, sooner, touched_days, with_day}
use Rattle.law_register.specs.Law.Sources.{source_of}
use Rattle.law_register.specs.Answer.Previews.{known_by_law}
use Rattle.law_register.specs.Register.KnownIds.{enacted, enacted_by, ids_of, known_by, known_ids}
use Rattle.law_register.specs.Register.KnownNext.{known_by_entry, known_next, known_now, known_then, newly_known}
use Rattle.law_register.specs.Register.LawList.{front, law_of, laws}
use Rattle.law_register.specs.Register.Verdicts.{is_legal}
use Rattle.law_register.proofs.ApartIds.{none_left, none_right, same_self, same_sym}
use Rattle.law_register.proofs.Ascending.{known_once}
use Rattle.law_register.proofs.CarryingNothing.{known_by_law_alone}
use Rattle.law_register.proofs.Continuing.{replayed_alike}
use Rattle.law_register.proofs.DueOnce.{order_members}
use Rattle.law_register.proofs.Next.{entry_next, now_known}
use Rattle.law_register.proofs.Puts.{and_true, bytes_are, bytes_same, id_same, left_true, right_true}
use Rattle.version_cache.specs.Agreement.{Agree, AgreeOn, IsBefore, IsEarly, body_of}
use Rattle.version_cache.proofs.Early.{early_before}
use Rattle.version_cache.proofs.Mute.{before_both}
use Rattle.version_cache.proofs.OneMore.{one_more_of}
use Rattle.law_register.specs.Provisions.Depending.{comes_from, depends, depends_in}
use Rattle.law_register.specs.Provisions.Line.{IsLine, line, line_cmp, work_in}
use Rattle.law_register.specs.Provisions.Looking.{is_after, looked_at, source_looked_at}
use Rattle.law_register.specs.Provisions.Touching.{WorkTouched, days_told, enacts, first_reached, flags_from, own, reach, touched, touched_after, touched_along, touched_as, touched_by, touched_works}
use Rattle.law_register.specs.Provisions.Trees.{WorkText, borne, is_borne, is_borne_id, is_raised, named_stands, order_in, source_stands, stands, stands_in, text_in, text_on, texts_after, trees, version_in, work_borne}
use Rattle.source_provisions.proofs.Ahead.{each_of_all, knowns}
use Rattle.source_provisions.proofs.Complete.{line_has, line_known}
use Rattle.source_provisions.proofs.CountedAlike.{CountsAlike, counts_alike}
use Rattle.source_provisions.proofs.Days.{all_dropped}
use Rattle.source_provisions.proofs.LeftOut.{orders_leave_out}
use Rattle.source_provisions.proofs.Lines.{not_after}
use Rattle.source_provisions.proofs.Own.{is_line}
use Rattle.source_provisions.proofs.Touching.{own_is}

-- a flag follows from the act and from what is counted for provisions
module _ (old new : Known) (r : Reading) (day : ℕ) (act : old.act ≡ new.act) (counts : CountsAlike day old new) where
  act_same : force_of_act old day ≡ force_of_act new day
  act_same =
      ap (λ (a : Act). force_at a.force (forces_on (to.Node root_wid) day old.mods)) act
      ∙ sym (ap (force_at new.act.force) (counts.forces root_wid))

  node_same : (wid : List ℕ) → force_of_node old wid day ≡ force_of_node new wid day
  node_same wid = by (bytes_eq wid root_wid)
    where
      by : (b : Bool) → cond b (force_of_act old day) (force_on old.mods (to.Node wid) (force_of_act old day) day)
          ≡ cond b (force_of_act new day) (force_on new.mods (to.Node wid) (force_of_act new day) day)
      by true = act_same
      by false =
          ap (λ (p : Period). force_on old.mods (to.Node wid) p day) act_same
          ∙ sym (ap (force_at (force_of_act new day)) (counts.forces wid))

  bears_same : (wid : List ℕ) → node_bears old r day wid ≡ node_bears new r day wid
  bears_same wid = by r
    where
      by : (r : Reading) → node_bears old r day wid ≡ node_bears new r day wid
      by reading.Force = ap (λ (p : Period). includes p day) (node_same wid)
      by reading.Efficacy =
          ap (λ (p : Period). (efficacy_at p (efficacies_on (to.Node wid) day old.mods) day).holds) (node_same wid)
          ∙ sym (ap (λ (ones : List CountedEfficacy). (efficacy_at (force_of_node new wid day) ones day).holds) (counts.efficacies wid))

  marked_same : (wid : List ℕ) → is_marked r old.mods day wid ≡ is_marked r new.mods day wid
  marked_same wid = by r
    where
      by : (r : Reading) → is_marked r old.mods day wid ≡ is_marked r new.mods day wid
      by reading.Force = sym (ap has_some (counts.forces wid))
      by reading.Efficacy =
          sym (ap (λ (ones : List CountedForce). has_some ones || has_some (efficacies_on (to.Node wid) day new.mods)) (counts.forces wid)
          ∙ ap (λ (ones : List CountedEfficacy). has_some (forces_on (to.Node wid) day old.mods) || has_some ones) (counts.efficacies wid))

  below_same : (above : Bool) (wid : List ℕ) → flag_below old r day above wid ≡ flag_below new r day above wid
  below_same above wid =
      ap (λ b. cond b (node_bears old r day wid) above) (marked_same wid) ∙ ap (λ b. cond (is_marked r new.mods day wid) b above) (bears_same wid)

  mutual
    flag_in_same : (above : Bool) (wid : List ℕ) (b : Branch Provision) → flag_in old r day above wid b ≡ flag_in new r day above wid b
    flag_in_same above wid (branch p below) =
        ap (λ f. cond (bytes_eq p.wid wid) (Some f) (flag_among old r day (flag_below old r day above p.wid) wid below)) (below_same above wid)
        ∙ ap (λ f. cond (bytes_eq p.wid wid) (Some (flag_below new r day above wid)) (flag_among old r day f wid below)) (below_same above p.wid)
        ∙ ap (λ o. cond (bytes_eq p.wid wid) (Some (flag_below new r day above wid)) o) (flag_among_same (flag_below new r day above p.wid) wid below)

    flag_among_same : (above : Bool) (wid : List ℕ) (bs : Branches Provision) → flag_among old r day above wid bs ≡ flag_among new r day above wid bs
    flag_among_same above wid no_branches = refl
    flag_among_same above wid (more_branches b bs) =
        ap (λ o. or_else o (flag_among old r day above wid bs)) (flag_in_same above wid b)
        ∙ ap (or_else (flag_in new r day above wid b)) (flag_among_same above wid bs)

  flags_same : (wid : List ℕ) (body : Branches Provision) → flag_among old r day (root_flag old r day) wid body ≡ flag_among new r day (root_flag new r day) wid body
  flags_same wid body =
      ap (λ f. flag_among old r day f wid body) (bears_same root_wid) ∙ flag_among_same (root_flag new r day) wid body

-- the texts of a line are of its works
texts_known : (line : List Known) (r : Reading) (day : ℕ) (texts : List WorkText) (works : List Known) → knowns (texts_after line r day texts works) ≡ knowns texts ++ works
texts_known line r day texts [] = sym (append-nil (knowns texts))
texts_known line r day texts (known ∷ works) =
    texts_known line r day (texts ++ text_on line r day texts known ∷ []) works ∙ joined texts (text_on line r day texts known) works
  where
    joined : (ts : List WorkText) (t : WorkText) (works : List Known) → knowns (ts ++ t ∷ []) ++ works ≡ knowns ts ++ t.known ∷ works
    joined [] t works = refl
    joined (s ∷ ts) t works = ap (λ ks. s.known ∷ ks) (joined ts t works)

all_known_texts : (line : List Known) (r : Reading) (day : ℕ) → knowns (trees line r day) ≡ line
unfolding trees
all_known_texts line r day = texts_known line r day [] line

-- the text of a work that is there
text_there : (P : WorkText → Type 0) (w : List ℕ) (known : Known) (texts : List WorkText) → AllByRecursion P texts → work_in w (knowns texts) ≡ Some known
    → (t : WorkText) × (text_in w texts ≡ Some t) × (t.known ≡ known) × P t
text_there P w known [] all h = absurd (let wrong : None ≡ Some known = h in cc)
text_there P w known (t ∷ ts) all h = by (bytes_eq t.known.act.work w) (text_there P w known ts all.1) h
  where
    same : (a b : Known) → Some a ≡ Some b → a ≡ b
    same a b e = cc

    by : (b : Bool) → (work_in w (knowns ts) ≡ Some known → (x : WorkText) × (text_in w ts ≡ Some x) × (x.known ≡ known) × P x)
        → cond b (Some t.known) (work_in w (knowns ts)) ≡ Some known
        → (x : WorkText) × (cond b (Some t) (text_in w ts) ≡ Some x) × (x.known ≡ known) × P x
    by true rest h = (t, refl, same t.known known h, all.0)
    by false rest h = rest h

-- whether a provision of a work of a line stands, by the work and its version
stands_by_version : (works : List Known) (r : Reading) (day : ℕ) (w wid : List ℕ) (known : Known) → IsLine works → work_in w works ≡ Some known
    → stands (trees works r day) r day w wid ≡ is_raised (flag_among known r day (root_flag known r day) wid (version_in works known r day).tree.body)
stands_by_version works r day w wid known right there =
    by (text_there (λ t. t.version ≡ version_in works t.known r day) w known (trees works r day) (each_of_all works r day right.ascends)
    (ap (work_in w) (all_known_texts works r day) ∙ there))
  where
    by : (t : WorkText) × (text_in w (trees works r day) ≡ Some t) × (t.known ≡ known) × (t.version ≡ version_in works t.known r day)
        → stands (trees works r day) r day w wid ≡ is_raised (flag_among known r day (root_flag known r day) wid (version_in works known r day).tree.body)
    by (t, found, same, version) =
        ap (stands_in r day wid) found
        ∙ ap (λ (v : VersionValue). is_raised (flag_among t.known r day (root_flag t.known r day) wid v.tree.body)) version
        ∙ ap (λ (k : Known). is_raised (flag_among k r day (root_flag k r day) wid (version_in works k r day).tree.body)) same

-- lists that pass tests alike
filter_same : (p q : Id → Bool) (ids : List Id) → AllByRecursion (λ id. p id ≡ q id) ids → filter p ids ≡ filter q ids
filter_same p q [] same = refl
filter_same p q (id ∷ ids) same =
    ap (λ b. cond b (id ∷ filter p ids) (filter p ids)) same.0 ∙ ap (λ xs. cond (q id) (id ∷ xs) xs) (filter_same p q ids same.1)

filter_all : (P : Id → Type 0) (q : Id → Bool) (ids : List Id) → AllByRecursion P ids → AllByRecursion P (filter q ids)
filter_all P q [] all = tt
filter_all P q (id ∷ ids) all = by (q id) (filter_all P q ids all.1)
  where
    by : (b : Bool) → AllByRecursion P (filter q ids) → AllByRecursion P (cond b (id ∷ filter q ids) (filter q ids))
    by true rest = (all.0, rest)
    by false rest = rest

-- by what a modification says
by_body : (mods : List KnownMod) (id : Id) (g : Modification → Bool)
    → option_map_or (λ m. g m.body) (find (λ m. is_same_id m.id id) mods) true ≡ option_map_or g (body_of mods id) true
by_body mods id g = by (find (λ m. is_same_id m.id id) mods)
  where
    by : (o : Option KnownMod) → option_map_or (λ m. g m.body) o true ≡ option_map_or g (option_map (λ m. m.body) o) true
    by None = refl
    by (Some m) = refl

edit_by_body : (mods : List KnownMod) (id : Id) → edit_of mods id ≡ option_and_then edit_in (body_of mods id)
edit_by_body mods id = by (find (λ m. is_same_id m.id id) mods)
  where
    by : (o : Option KnownMod) → option_and_then (λ m. edit_in m.body) o ≡ option_and_then edit_in (option_map (λ m. m.body) o)
    by None = refl
    by (Some m) = refl

-- what is borne says what it said
borne_body : (line : List Known) (texts : List WorkText) (r : Reading) (day act_day : ℕ) (mods : List KnownMod) (id : Id)
    → body_of (map (borne line texts r day act_day) mods) id ≡ body_of mods id
borne_body line texts r day act_day [] id = refl
borne_body line texts r day act_day (m ∷ ms) id = by (is_same_id m.id id) (borne_body line texts r day act_day ms id)
  where
    by : (b : Bool) → body_of (map (borne line texts r day act_day) ms) id ≡ body_of ms id
        → option_map (λ k. k.body) (cond b (Some (borne line texts r day act_day m)) (find (λ k. is_same_id k.id id) (map (borne line texts r day act_day) ms)))
        ≡ option_map (λ k. k.body) (cond b (Some m) (find (λ k. is_same_id k.id id) ms))
    by true rest = refl
    by false rest = rest

or_true : (b c : Bool) → c ≡ true → (b || c) ≡ true
or_true true c h = refl
or_true false c h = h

-- of an id in the order the modification that is found stands
found_live : (r : Reading) (day : ℕ) (all : List KnownMod) (id : Id) (k : KnownMod) (ms : List KnownMod)
    → list_any (λ m. is_same_id id m.id && is_due r day all m) ms ≡ true → id_twice (map (λ m. m.id) ms) ≡ false
    → find (λ m. is_same_id m.id id) ms ≡ Some k → k.live ≡ true
found_live r day all id k [] any apart found = absurd (let wrong : false ≡ true = any in cc)
found_live r day all id k (m ∷ ms) any apart found =
    by (is_same_id m.id id) refl found
    (found_live r day all id k ms) (is_same_id id m.id && is_due r day all m) refl any
  where
    same : (a b : KnownMod) → Some a ≡ Some b → a ≡ b
    same a b e = cc

    stands_so : (is_same_id id m.id && is_due r day all m) ≡ true → m.live ≡ true
    stands_so h =
        left_true m.live (stands_by r day m.carried)
        (left_true (m.live && stands_by r day m.carried) (is_some (due_as r day all m.id m.body)) (right_true (is_same_id id m.id) (is_due r day all m) h))

    other : (x : KnownMod) → is_same_id m.id id ≡ true → (is_same_id id x.id && is_due r day all x) ≡ true → is_same_id m.id x.id ≡ true
    other x one two =
        ap (λ i. is_same_id i x.id) (id_same m.id id one) ∙ left_true (is_same_id id x.id) (is_due r day all x) two

    twice : is_same_id m.id id ≡ true → list_any (λ x. is_same_id id x.id && is_due r day all x) ms ≡ true → ⊥
    twice one any =
        let among : list_any (is_same_id m.id) (map (λ x. x.id) ms) ≡ true = there ms any in
        let wrong : true ≡ false = sym among ∙ none_left (list_any (is_same_id m.id) (map (λ x. x.id) ms)) (id_twice (map (λ x. x.id) ms)) apart in
        cc
      where
        there : (xs : List KnownMod) → list_any (λ x. is_same_id id x.id && is_due r day all x) xs ≡ true → list_any (is_same_id m.id) (map (λ x. x.id) xs) ≡ true
        there [] h = absurd (let wrong : false ≡ true = h in cc)
        there (x ∷ xs) h = step (is_same_id id x.id && is_due r day all x) refl h (there xs)
          where
            step : (b : Bool) → (is_same_id id x.id && is_due r day all x) ≡ b → (b || list_any (λ y. is_same_id id y.id && is_due r day all y) xs) ≡ true
                → (list_any (λ y. is_same_id id y.id && is_due r day all y) xs ≡ true → list_any (is_same_id m.id) (map (λ y. y.id) xs) ≡ true)
                → (is_same_id m.id x.id || list_any (is_same_id m.id) (map (λ y. y.id) xs)) ≡ true
            step true is h rest = ap (λ b. b || list_any (is_same_id m.id) (map (λ y. y.id) xs)) (other x one is)
            step false is h rest = or_true (is_same_id m.id x.id) (list_any (is_same_id m.id) (map (λ y. y.id) xs)) (rest h)

    by : (b : Bool) → is_same_id m.id id ≡ b → cond b (Some m) (find (λ x. is_same_id x.id id) ms) ≡ Some k
        → (list_any (λ x. is_same_id id x.id && is_due r day all x) ms ≡ true → id_twice (map (λ x. x.id) ms) ≡ false → find (λ x. is_same_id x.id id) ms ≡ Some k → k.live ≡ true)
        → (c : Bool) → (is_same_id id m.id && is_due r day all m) ≡ c → (c || list_any (λ x. is_same_id id x.id && is_due r day all x) ms) ≡ true → k.live ≡ true
    by true one found rest true here any = ap (λ (x : KnownMod). x.live) (sym (same m k found)) ∙ stands_so here
    by true one found rest false here any = absurd (twice one any)
    by false one found rest true here any =
        absurd (let wrong : true ≡ false = sym (same_sym id m.id true (left_true (is_same_id id m.id) (is_due r day all m) here)) ∙ one in cc)
    by false one found rest false here any = rest any (none_right (list_any (is_same_id m.id) (map (λ x. x.id) ms)) (id_twice (map (λ x. x.id) ms)) apart) found

found_passes : (p test : KnownMod → Bool) (xs : List KnownMod) (a : KnownMod) → find p xs ≡ Some a → test a ≡ true → list_any test xs ≡ true
found_passes p test [] a found h = absurd (let wrong : None ≡ Some a = found in cc)
found_passes p test (x ∷ xs) a found h = by (p x) found (found_passes p test xs a)
  where
    same : (a b : KnownMod) → Some a ≡ Some b → a ≡ b
    same a b e = cc

    by : (b : Bool) → cond b (Some x) (find p xs) ≡ Some a → (find p xs ≡ Some a → test a ≡ true → list_any test xs ≡ true) → (test x || list_any test xs) ≡ true
    by true found rest = ap (λ b. b || list_any test xs) (ap test (same x a found) ∙ h)
    by false found rest = or_true (test x) (list_any test xs) (rest found h)

abbrev mods_in_or : List KnownMod → Option Known → List KnownMod
mods_in_or ms None = ms
mods_in_or ms (Some k) = k.mods

mods_once : (law : List Command) (w : List ℕ) (k : Known) → known_by_law law w ≡ Some k → id_twice (map (λ (m : KnownMod). m.id) k.mods) ≡ false
mods_once law w k is = by (enacted w law) is
  where
    by : (found : Option (ℕ × Act)) → known_by w (length law) (length law) law found ≡ Some k → id_twice (map (λ (m : KnownMod). m.id) k.mods) ≡ false
    by None e = absurd (let wrong : None ≡ Some k = e in cc)
    by (Some found) e =
        subst (λ ms. id_twice (map (λ (m : KnownMod). m.id) ms) ≡ false) (ap (mods_in_or (known_ids law (ids_of w law))) e) (known_once law w)

-- what bears of what a law makes known is what bears of it by its own periods, without what is not borne
known_orders : (law : List Command) (w : List ℕ) (k : Known) → known_by_law law w ≡ Some k → (works : List Known) (r : Reading) (day : ℕ)
    → order_in works k r day ≡ filter (is_borne_id works (trees works r day) r day k) (order k r day)
known_orders law w k is works r day =
    orders_leave_out works k r day (mods_once law w k is)
    ∙ ap (λ (x : Known). filter (is_borne_id works (trees works r day) r day k) (order x r day)) (known_by_law_alone law w k is)

-- what holds of a list holds of each that it has
each_in_order : (P : Id → Type 0) (all ids : List Id) → ((id : Id) → list_any (is_same_id id) all ≡ true → P id)
    → ((test : Id → Bool) → list_any test ids ≡ true → list_any test all ≡ true) → AllByRecursion P ids
each_in_order P all [] one among = tt
each_in_order P all (id ∷ ids) one among = (
  one id (among (is_same_id id) (ap (λ b. b || list_any (is_same_id id) ids) (same_self id))),
  each_in_order P all ids one (λ test there. among test (or_true (test id) (list_any test ids) there)),
)

-- of two facts on each
all_both : (P Q R : Id → Type 0) → ((id : Id) → P id → Q id → R id) → (ids : List Id) → AllByRecursion P ids → AllByRecursion Q ids → AllByRecursion R ids
all_both P Q R both [] p q = tt
all_both P Q R both (id ∷ ids) p q = (both id p.0 q.0, all_both P Q R both ids p.1 q.1)

all_of : {A : Type 0} (P Q : A → Type 0) → ((a : A) → P a → Q a) → (xs : List A) → AllByRecursion P xs → AllByRecursion Q xs
all_of P Q one [] all = tt
all_of P Q one (x ∷ xs) all = (one x all.0, all_of P Q one xs all.1)

-- a day before the sooner of two days is before both
early_both : (day : ℕ) (a b : Option ℕ) → IsEarly day (sooner a b) → IsEarly day a × IsEarly day b
early_both day None b h = (tt, h)
early_both day (Some x) None h = (h, tt)
early_both day (Some x) (Some y) h =
    let both : IsBefore day (Some x) × IsBefore day (Some y) = before_both day (Some x) (Some y) h.1 in ((h.0, both.0), (h.0, both.1))

module _ (es : List Entry) (e : Entry) (legal : is_legal es ≡ true) (r : Reading) (day : ℕ) where
  abbrev L : List Known
  L = line (laws es)

  abbrev M : List Known
  M = line (laws (es ++ e ∷ []))

  abbrev T : List WorkText
  T = trees L r day

  abbrev U : List WorkText
  U = trees M r day

  pub was_known : (w : List ℕ) (k : Known) → work_in w L ≡ Some k → known_now es w ≡ Some k
  was_known w k there = now_known es w ∙ line_known (laws es) w k there

  pub is_known : (w : List ℕ) (k : Known) → work_in w M ≡ Some k → known_now (es ++ e ∷ []) w ≡ Some k
  is_known w k there = now_known (es ++ e ∷ []) w ∙ line_known (laws (es ++ e ∷ [])) w k there

  pub not_yet : (w : List ℕ) → work_in w L ≡ None → known_now es w ≡ None
  not_yet w none = now_known es w ∙ by (known_by_law (laws es) w) refl
    where
      by : (o : Option Known) → known_by_law (laws es) w ≡ o → o ≡ None
      by None is = refl
      by (Some k) is = absurd (let wrong : Some k ≡ None = sym (line_has (laws es) w k is) ∙ none in cc)

  -- a work that was known is known still, and one that was not is enacted by the entry
  known_still : (w : List ℕ) (old : Known) → known_now es w ≡ Some old → (new : Known) × (known_now (es ++ e ∷ []) w ≡ Some new)
  known_still w old was = by (law_of es e) (entry_next es e w legal ∙ ap (known_next es e w) was)
    where
      by : (ls : List Command) → known_now (es ++ e ∷ []) w ≡ known_by_entry (front es) w ls (Some old) → (new : Known) × (known_now (es ++ e ∷ []) w ≡ Some new)
      by [] is = (old, is)
      by (l ∷ ls) is = (known_then w l old, is)

  pub newly : (w : List ℕ) (new : Known) → known_now es w ≡ None → known_now (es ++ e ∷ []) w ≡ Some new → enacts es e w ≡ true
  newly w new none is = by (law_of es e) (sym is ∙ entry_next es e w legal ∙ ap (known_next es e w) none)
    where
      here : (l : Command) (o : Option Act) → Some new ≡ option_map (newly_known (front es + 1)) o → is_some o ≡ true
      here l None h = absurd (let wrong : Some new ≡ None = h in cc)
      here l (Some act) h = refl

      by : (ls : List Command) → Some new ≡ known_by_entry (front es) w ls None → list_any (λ c. is_some (enacted_by w c)) ls ≡ true
      by [] h = absurd (let wrong : Some new ≡ None = h in cc)
      by (l ∷ ls) h = ap (λ b. b || list_any (λ c. is_some (enacted_by w c)) ls) (here l (enacted_by w l) h)

  never_before : IsEarly day (Some 1) → ⊥
  never_before h = let real : 1 ≤ day = h.0 in let early : day < 1 = h.1 in omega (arith, early, real)

  -- the act of a work stays
  pub still_after : (w : List ℕ) (act_day : ℕ) (o : Known) → work_in w L ≡ Some o → (n : Known) × (work_in w M ≡ Some n) × (is_after act_day (Some n) ≡ is_after act_day (Some o))
  still_after w act_day o there =
      let was : known_now es w ≡ Some o = was_known w o there in
      by was (known_still w o was)
    where
      by : known_now es w ≡ Some o → (new : Known) × (known_now (es ++ e ∷ []) w ≡ Some new)
          → (n : Known) × (work_in w M ≡ Some n) × (is_after act_day (Some n) ≡ is_after act_day (Some o))
      by was (n, is) = (
        n,
        line_has (laws (es ++ e ∷ [])) w n (sym (now_known (es ++ e ∷ []) w) ∙ is),
        ap (λ (a : Act). nat_lt act_day a.day) (sym (one_more_of es e legal w r o n was is).act),
      )

  -- in both views the same bears, in the same order, and makes the same text
  abbrev AgreesIn : Known → Known → Type 0
  AgreesIn old new =
      (order_in L old r day ≡ order_in M new r day)
      × AllByRecursion (λ id. body_of old.mods id ≡ body_of new.mods id) (order_in M new r day)
      × (version_in L old r day ≡ version_in M new r day)

  abbrev StandsAlike : List ℕ → Type 0
  StandsAlike w = (wid : List ℕ) → stands T r day w wid ≡ stands U r day w wid

  -- what is claimed of a work with its touched day
  abbrev Claim : WorkTouched → Type 0
  Claim t =
      (t.reached ≡ reach es e t.known.act.work t.touched)
      × ((old : Known) → work_in t.known.act.work L ≡ Some old → (IsEarly day t.touched → AgreesIn old t.known) × (IsEarly day t.reached → StandsAlike t.known.act.work))

  -- those on which a work depends stand alike, and were enacted before
  module _ (w href : List ℕ) (on : (depends_in L w href || depends_in M w href) ≡ true) where
    source_there : (ts : List WorkTouched) → AllByRecursion Claim ts → AllByRecursion (λ (t : WorkTouched). work_in t.known.act.work M ≡ Some t.known) ts
        → IsEarly day (first_reached L M w ts) → (s : Known) → work_in href (map (λ t. t.known) ts) ≡ Some s
        → (o : Known) × (work_in href L ≡ Some o) × StandsAlike href
    source_there [] claims own before s there = absurd (let wrong : None ≡ Some s = there in cc)
    source_there (t ∷ ts) claims own before s there =
        by (bytes_eq t.known.act.work href) refl there
        (early_both day (cond (depends_in L w t.known.act.work || depends_in M w t.known.act.work) t.reached None) (first_reached L M w ts) before)
        (source_there ts claims.1 own.1)
      where
        reached_first : t.known.act.work ≡ href → IsEarly day (cond (depends_in L w t.known.act.work || depends_in M w t.known.act.work) t.reached None) → IsEarly day t.reached
        reached_first same h =
            subst (λ b. IsEarly day (cond b t.reached None)) (ap (λ v. depends_in L w v || depends_in M w v) same ∙ on) h

        here : t.known.act.work ≡ href → IsEarly day t.reached → (o : Option Known) → work_in href L ≡ o → (k : Known) × (work_in href L ≡ Some k) × StandsAlike href
        here same h (Some o) is =
            (o, is, subst StandsAlike same ((claims.0.1 o (ap (λ v. work_in v L) same ∙ is)).1 h))
        here same h None is =
            absurd (never_before (subst (λ d. IsEarly day d)
            (claims.0.0
            ∙ ap (λ b. cond b (Some 1) (sooner t.touched (flags_from es e t.known.act.work)))
            (newly t.known.act.work t.known (not_yet t.known.act.work (ap (λ v. work_in v L) same ∙ is)) (is_known t.known.act.work t.known own.0))) h))

        by : (b : Bool) → bytes_eq t.known.act.work href ≡ b → cond b (Some t.known) (work_in href (map (λ x. x.known) ts)) ≡ Some s
            → IsEarly day (cond (depends_in L w t.known.act.work || depends_in M w t.known.act.work) t.reached None) × IsEarly day (first_reached L M w ts)
            → (IsEarly day (first_reached L M w ts) → (s : Known) → work_in href (map (λ x. x.known) ts) ≡ Some s → (o : Known) × (work_in href L ≡ Some o) × StandsAlike href)
            → (o : Known) × (work_in href L ≡ Some o) × StandsAlike href
        by true same there both rest =
            here (bytes_same t.known.act.work href same) (reached_first (bytes_same t.known.act.work href same) both.0) (work_in href L) refl
        by false other there both rest = rest both.1 s there

  -- a work of the line, behind those of which the claim holds
  module _ (ts : List WorkTouched) (known : Known) (behind : List Known) (split : map (λ t. t.known) ts ++ known ∷ behind ≡ M)
      (claims : AllByRecursion Claim ts) (own_ts : AllByRecursion (λ (t : WorkTouched). work_in t.known.act.work M ≡ Some t.known) ts)
      (there : work_in known.act.work M ≡ Some known) (old : Known) (was_there : work_in known.act.work L ≡ Some old)
      (before : IsEarly day (touched_by es e L M ts known.act.work)) where
    was : known_now es known.act.work ≡ Some old
    was = was_known known.act.work old was_there

    is : known_now (es ++ e ∷ []) known.act.work ≡ Some known
    is = is_known known.act.work known there

    parts : IsEarly day (own es e known.act.work) × IsEarly day (first_reached L M known.act.work ts)
    parts = early_both day (own es e known.act.work) (first_reached L M known.act.work ts) before

    agree : Agree old known r (day_among (touched_days es e) known.act.work)
    agree = one_more_of es e legal known.act.work r old known was is

    agrees_then : AgreeOn old known r day
    agrees_then =
        agree.days day (early_before day (day_among (touched_days es e) known.act.work) (subst (IsEarly day) (own_is es e known.act.work) parts.0))

    same_day : old.act.day ≡ known.act.day
    same_day = ap (λ (a : Act). a.day) agree.act

    sorted : IsStrictlySortedBy line_cmp (map (λ t. t.known) ts ++ known ∷ behind)
    sorted = subst (IsStrictlySortedBy line_cmp) (sym split) (is_line (laws (es ++ e ∷ []))).ascends

    -- a source that is looked at in the new line, and on which the work depends there
    source_alike : (href : List ℕ) → is_after known.act.day (work_in href M) ≡ true → depends M known href ≡ true → (o : Known) × (work_in href L ≡ Some o) × StandsAlike href
    source_alike href after on_it = by (work_in href (map (λ t. t.known) ts)) refl
      where
        dependent : (depends_in L known.act.work href || depends_in M known.act.work href) ≡ true
        dependent =
            or_true (depends_in L known.act.work href) (depends_in M known.act.work href)
            (ap (λ o. option_map_or (λ k. depends M k href) o false) there ∙ on_it)

        by : (s : Option Known) → work_in href (map (λ t. t.known) ts) ≡ s → (o : Known) × (work_in href L ≡ Some o) × StandsAlike href
        by (Some s) found = source_there known.act.work href dependent ts claims own_ts parts.1 s found
        by None none =
            absurd (let wrong : true ≡ false =
            sym after ∙ ap (λ works. is_after known.act.day (work_in href works)) (sym split)
            ∙ not_after (map (λ t. t.known) ts) known behind sorted href none in cc)

    -- a modification that stands now and says this is borne alike
    source_borne : (source : ModSource) → (source_looked_at M known.act.day source ≡ true → depends M known source.href ≡ true)
        → cond (source_looked_at L known.act.day source) (source_stands T r day source) true
        ≡ cond (source_looked_at M known.act.day source) (source_stands U r day source) true
    source_borne source comes =
        by (source_looked_at L known.act.day source) refl (source_looked_at M known.act.day source) refl
      where
        after_both : (o : Option Known) → work_in source.href L ≡ o → source_looked_at L known.act.day source ≡ true → source_looked_at M known.act.day source ≡ true
        after_both None none looked =
            absurd (let wrong : true ≡ false =
            sym (right_true (is_some source.provision) (is_after known.act.day (work_in source.href L)) looked) ∙ ap (is_after known.act.day) none in cc)
        after_both (Some o) found looked = with_still (still_after source.href known.act.day o found)
          where
            with_still : (n : Known) × (work_in source.href M ≡ Some n) × (is_after known.act.day (Some n) ≡ is_after known.act.day (Some o)) → source_looked_at M known.act.day source ≡ true
            with_still (n, there, same) =
                and_true (is_some source.provision) (is_after known.act.day (work_in source.href M))
                (left_true (is_some source.provision) (is_after known.act.day (work_in source.href L)) looked)
                (ap (is_after known.act.day) there ∙ same ∙ sym (ap (is_after known.act.day) found)
                ∙ right_true (is_some source.provision) (is_after known.act.day (work_in source.href L)) looked)

        alike : source_looked_at M known.act.day source ≡ true → (o : Known) × (work_in source.href L ≡ Some o) × StandsAlike source.href
        alike looked =
            source_alike source.href (right_true (is_some source.provision) (is_after known.act.day (work_in source.href M)) looked) (comes looked)

        named : (p : Option (List ℕ)) → StandsAlike source.href → named_stands T r day source.href p ≡ named_stands U r day source.href p
        named None h = refl
        named (Some wid) h = h wid

        looked_before : source_looked_at M known.act.day source ≡ true → source_looked_at L known.act.day source ≡ true
        looked_before looked = with_old (alike looked)
          where
            with_old : (o : Known) × (work_in source.href L ≡ Some o) × StandsAlike source.href → source_looked_at L known.act.day source ≡ true
            with_old (o, found, h) = with_still (still_after source.href known.act.day o found)
              where
                with_still : (n : Known) × (work_in source.href M ≡ Some n) × (is_after known.act.day (Some n) ≡ is_after known.act.day (Some o)) → source_looked_at L known.act.day source ≡ true
                with_still (n, there, same) =
                    and_true (is_some source.provision) (is_after known.act.day (work_in source.href L))
                    (left_true (is_some source.provision) (is_after known.act.day (work_in source.href M)) looked)
                    (ap (is_after known.act.day) found ∙ sym same ∙ sym (ap (is_after known.act.day) there)
                    ∙ right_true (is_some source.provision) (is_after known.act.day (work_in source.href M)) looked)

        by : (b : Bool) → source_looked_at L known.act.day source ≡ b → (c : Bool) → source_looked_at M known.act.day source ≡ c
            → cond b (source_stands T r day source) true ≡ cond c (source_stands U r day source) true
        by true one true two = named source.provision (alike two).2
        by false one false two = refl
        by true one false two = absurd (let wrong : true ≡ false = sym (after_both (work_in source.href L) refl one) ∙ two in cc)
        by false one true two = absurd (let wrong : true ≡ false = sym (looked_before two) ∙ one in cc)

    body_borne : (body : Modification) → ((href : List ℕ) → looked_at M known.act.day body ≡ true → (source_of body).href ≡ href → depends M known href ≡ true)
        → is_borne L T r day known.act.day body ≡ is_borne M U r day known.act.day body
    body_borne (Textual source force edit) comes = source_borne source (λ looked. comes source.href looked refl)
    body_borne (Force source destination on effect) comes = refl
    body_borne (Efficacy source destination on effect) comes = refl

    borne_old : order_in L old r day ≡ filter (is_borne_id L T r day old) (order old r day)
    borne_old = known_orders (laws es) known.act.work old (line_known (laws es) known.act.work old was_there) L r day

    borne_new : order_in M known r day ≡ filter (is_borne_id M U r day known) (order known r day)
    borne_new = known_orders (laws (es ++ e ∷ [])) known.act.work known (line_known (laws (es ++ e ∷ [])) known.act.work known there) M r day

    apart_new : id_twice (map (λ (m : KnownMod). m.id) known.mods) ≡ false
    apart_new = mods_once (laws (es ++ e ∷ [])) known.act.work known (line_known (laws (es ++ e ∷ [])) known.act.work known there)

    -- of an id that bears
    id_borne : (id : Id) → list_any (is_same_id id) (order known r day) ≡ true → body_of old.mods id ≡ body_of known.mods id
        → is_borne_id L T r day old id ≡ is_borne_id M U r day known id
    id_borne id listed bodies =
        by_body old.mods id (is_borne L T r day old.act.day)
        ∙ ap (λ d. option_map_or (is_borne L T r day d) (body_of old.mods id) true) same_day
        ∙ ap (λ o. option_map_or (is_borne L T r day known.act.day) o true) bodies
        ∙ by (find (λ m. is_same_id m.id id) known.mods) refl
        ∙ sym (by_body known.mods id (is_borne M U r day known.act.day))
      where
        any_due : list_any (λ m. is_same_id id m.id && is_due r day known.mods m) known.mods ≡ true
        any_due = sym (order_members known r day id) ∙ listed

        comes : (k : KnownMod) → find (λ m. is_same_id m.id id) known.mods ≡ Some k → (href : List ℕ) → looked_at M known.act.day k.body ≡ true → (source_of k.body).href ≡ href
            → depends M known href ≡ true
        comes k found href looked same =
            found_passes (λ m. is_same_id m.id id) (comes_from M known.act.day href) known.mods k found
            (and_true k.live (looked_at M known.act.day k.body && bytes_eq (source_of k.body).href href)
            (found_live r day known.mods id k known.mods any_due apart_new found)
            (and_true (looked_at M known.act.day k.body) (bytes_eq (source_of k.body).href href) looked (bytes_are (source_of k.body).href href same)))

        by : (o : Option KnownMod) → find (λ m. is_same_id m.id id) known.mods ≡ o
            → option_map_or (is_borne L T r day known.act.day) (option_map (λ m. m.body) o) true ≡ option_map_or (is_borne M U r day known.act.day) (option_map (λ m. m.body) o) true
        by None none = refl
        by (Some k) found = body_borne k.body (comes k found)

    ids_borne : AllByRecursion (λ id. is_borne_id L T r day old id ≡ is_borne_id M U r day known id) (order known r day)
    ids_borne =
        all_both (λ id. list_any (is_same_id id) (order known r day) ≡ true) (λ id. body_of old.mods id ≡ body_of known.mods id)
        (λ id. is_borne_id L T r day old id ≡ is_borne_id M U r day known id) id_borne (order known r day)
        (each_in_order (λ id. list_any (is_same_id id) (order known r day) ≡ true) (order known r day) (order known r day) (λ id h. h) (λ test h. h)) agrees_then.bodies

    orders_in : order_in L old r day ≡ order_in M known r day
    orders_in =
        borne_old
        ∙ ap (filter (is_borne_id L T r day old)) agrees_then.orders
        ∙ filter_same (is_borne_id L T r day old) (is_borne_id M U r day known) (order known r day) ids_borne
        ∙ sym borne_new

    bodies_in : AllByRecursion (λ id. body_of old.mods id ≡ body_of known.mods id) (order_in M known r day)
    bodies_in =
        subst (AllByRecursion (λ id. body_of old.mods id ≡ body_of known.mods id)) (sym borne_new)
        (filter_all (λ id. body_of old.mods id ≡ body_of known.mods id) (is_borne_id M U r day known) (order known r day) agrees_then.bodies)

    one_edit : (id : Id) → body_of old.mods id ≡ body_of known.mods id
        → edit_of (work_borne L T r day old).mods id ≡ edit_of (work_borne M U r day known).mods id
    one_edit id same =
        edit_by_body (work_borne L T r day old).mods id
        ∙ ap (option_and_then edit_in) (borne_body L T r day old.act.day old.mods id ∙ same ∙ sym (borne_body M U r day known.act.day known.mods id))
        ∙ sym (edit_by_body (work_borne M U r day known).mods id)

    edits : AllByRecursion (λ id. edit_of (work_borne L T r day old).mods id ≡ edit_of (work_borne M U r day known).mods id) (order_in M known r day)
    edits =
        all_of (λ id. body_of old.mods id ≡ body_of known.mods id) (λ id. edit_of (work_borne L T r day old).mods id ≡ edit_of (work_borne M U r day known).mods id)
        one_edit (order_in M known r day) bodies_in

    versions_in : version_in L old r day ≡ version_in M known r day
    versions_in =
        ap (replayed (work_borne L T r day old).mods (as_enacted old.act)) orders_in
        ∙ replayed_alike (work_borne L T r day old).mods (work_borne M U r day known).mods (as_enacted old.act) (order_in M known r day) edits
        ∙ ap (λ (a : Act). replayed (work_borne M U r day known).mods (as_enacted a) (order_in M known r day)) agree.act

    stand_alike : CountsAlike day old known → StandsAlike known.act.work
    stand_alike counts wid =
        stands_by_version L r day known.act.work wid old (is_line (laws es)) was_there
        ∙ ap (λ (v : VersionValue). is_raised (flag_among old r day (root_flag old r day) wid v.tree.body)) versions_in
        ∙ ap is_raised (flags_same old known r day agree.act counts wid (version_in M known r day).tree.body)
        ∙ sym (stands_by_version M r day known.act.work wid known (is_line (laws (es ++ e ∷ []))) there)

  -- the claim holds of one work more
  claim_more : (ts : List WorkTouched) (known : Known) (behind : List Known) → map (λ t. t.known) ts ++ known ∷ behind ≡ M → AllByRecursion Claim ts
      → AllByRecursion (λ (t : WorkTouched). work_in t.known.act.work M ≡ Some t.known) ts → work_in known.act.work M ≡ Some known
      → Claim (touched_as es e known (touched_by es e L M ts known.act.work))
  claim_more ts known behind split claims own_ts there = (
    refl,
    λ old was_there. (
      (λ before. (
        orders_in ts known behind split claims own_ts there old was_there before,
        bodies_in ts known behind split claims own_ts there old was_there before,
        versions_in ts known behind split claims own_ts there old was_there before,
      )),
      (λ early. reached_alike old was_there (enacts es e known.act.work) refl early),
    ),
  )
    where
      reached_alike : (old : Known) → work_in known.act.work L ≡ Some old → (b : Bool) → enacts es e known.act.work ≡ b
          → IsEarly day (reach es e known.act.work (touched_by es e L M ts known.act.work)) → StandsAlike known.act.work
      reached_alike old was_there true enacting early =
          absurd (never_before (subst (λ b. IsEarly day (cond b (Some 1) (sooner (touched_by es e L M ts known.act.work) (flags_from es e known.act.work)))) enacting early))
      reached_alike old was_there false other early =
          let both : IsEarly day (touched_by es e L M ts known.act.work) × IsEarly day (flags_from es e known.act.work) =
          early_both day (touched_by es e L M ts known.act.work) (flags_from es e known.act.work)
          (subst (λ b. IsEarly day (cond b (Some 1) (sooner (touched_by es e L M ts known.act.work) (flags_from es e known.act.work)))) other early) in
          stand_alike ts known behind split claims own_ts there old was_there both.0
          (counts_alike es e known.act.work old known day legal (was_known known.act.work old was_there) (is_known known.act.work known there)
          (early_before day (flags_from es e known.act.work) both.1))

  pub pushed : (P : WorkTouched → Type 0) (ts : List WorkTouched) (t : WorkTouched) → AllByRecursion P ts → P t → AllByRecursion P (ts ++ t ∷ [])
  pushed P [] t all one = (one, tt)
  pushed P (x ∷ xs) t all one = (all.0, pushed P xs t all.1 one)

  pub known_pushed : (ts : List WorkTouched) (t : WorkTouched) (works : List Known) → map (λ x. x.known) (ts ++ t ∷ []) ++ works ≡ map (λ x. x.known) ts ++ t.known ∷ works
  known_pushed [] t works = refl
  known_pushed (x ∷ xs) t works = ap (λ ks. x.known ∷ ks) (known_pushed xs t works)

  all_claims : (ts : List WorkTouched) (works : List Known) → map (λ t. t.known) ts ++ works ≡ M → AllByRecursion Claim ts
      → AllByRecursion (λ (t : WorkTouched). work_in t.known.act.work M ≡ Some t.known) ts → AllByRecursion Claim (touched_after es e L M ts works)
  all_claims ts [] split claims own_ts = claims
  all_claims ts (known ∷ works) split claims own_ts =
      all_claims (ts ++ touched_as es e known (touched_by es e L M ts known.act.work) ∷ []) works
      (known_pushed ts (touched_as es e known (touched_by es e L M ts known.act.work)) works ∙ split)
      (pushed Claim ts (touched_as es e known (touched_by es e L M ts known.act.work)) claims (claim_more ts known works split claims own_ts there))
      (pushed (λ (t : WorkTouched). work_in t.known.act.work M ≡ Some t.known) ts (touched_as es e known (touched_by es e L M ts known.act.work)) own_ts there)
    where
      there : work_in known.act.work M ≡ Some known
      there =
          (all_dropped (λ (k : Known). work_in k.act.work M ≡ Some k) (map (λ t. t.known) ts) (known ∷ works)
          (subst (AllByRecursion (λ (k : Known). work_in k.act.work M ≡ Some k)) (sym split) (is_line (laws (es ++ e ∷ []))).own)).0

  pub along_known : (ts : List WorkTouched) (works : List Known) → map (λ t. t.known) (touched_after es e L M ts works) ≡ map (λ t. t.known) ts ++ works
  along_known ts [] = sym (append-nil (map (λ t. t.known) ts))
  along_known ts (known ∷ works) =
      along_known (ts ++ touched_as es e known (touched_by es e L M ts known.act.work) ∷ []) works
      ∙ known_pushed ts (touched_as es e known (touched_by es e L M ts known.act.work)) works

  -- the touched day of a work is that of its own among those that are told
  found_told : (w : List ℕ) (new : Known) (ts : List WorkTouched) → AllByRecursion Claim ts → work_in w (map (λ t. t.known) ts) ≡ Some new
      → IsEarly day (day_among (days_told ts) w)
      → (t : WorkTouched) × Claim t × (t.known ≡ new) × (t.known.act.work ≡ w) × IsEarly day t.touched
  found_told w new [] claims h before = absurd (let wrong : None ≡ Some new = h in cc)
  found_told w new (t ∷ ts) claims h before =
      by (bytes_eq t.known.act.work w) refl h t.touched refl before (found_told w new ts claims.1)
    where
      same : (a b : Known) → Some a ≡ Some b → a ≡ b
      same a b e = cc

      by : (b : Bool) → bytes_eq t.known.act.work w ≡ b → cond b (Some t.known) (work_in w (map (λ x. x.known) ts)) ≡ Some new
          → (d : Option ℕ) → t.touched ≡ d → IsEarly day (day_among (with_day (Some t.known.act.work) d ++ days_told ts) w)
          → (work_in w (map (λ x. x.known) ts) ≡ Some new → IsEarly day (day_among (days_told ts) w)
          → (x : WorkTouched) × Claim x × (x.known ≡ new) × (x.known.act.work ≡ w) × IsEarly day x.touched)
          → (x : WorkTouched) × Claim x × (x.known ≡ new) × (x.known.act.work ≡ w) × IsEarly day x.touched
      by true at h None none before rest =
          (t, claims.0, same t.known new h, bytes_same t.known.act.work w at, subst (IsEarly day) (sym none) tt)
      by true at h (Some d) some before rest = (
        t,
        claims.0,
        same t.known new h,
        bytes_same t.known.act.work w at,
        subst (IsEarly day) (sym some) (subst (λ b. IsEarly day (cond b (Some d) (day_among (days_told ts) w))) at before),
      )
      by false at h None none before rest = rest h before
      by false at h (Some d) some before rest = rest h (subst (λ b. IsEarly day (cond b (Some d) (day_among (days_told ts) w))) at before)

  all_along : AllByRecursion Claim (touched_along es e)
  unfolding touched_along
  all_along = all_claims [] M refl tt tt

  pub known_along : map (λ t. t.known) (touched_along es e) ≡ line (laws (es ++ e ∷ []))
  unfolding touched_along
  known_along = along_known [] M

  pub nothing_before : (w : List ℕ) (old new : Known) → work_in w L ≡ Some old → work_in w M ≡ Some new → IsEarly day (touched es e w) → AgreesIn old new
  unfolding touched_works
  nothing_before w old new was_there there before =
      by (found_told w new (touched_along es e) all_along (ap (work_in w) known_along ∙ there) before)
    where
      by : (t : WorkTouched) × Claim t × (t.known ≡ new) × (t.known.act.work ≡ w) × IsEarly day t.touched → AgreesIn old new
      by (t, claim, same, own, early) =
          subst (AgreesIn old) same ((claim.1 old (ap (λ v. work_in v L) own ∙ was_there)).0 early)
