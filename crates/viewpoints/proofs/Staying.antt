-- What is right stays right behind more entries.
use Rattle.std.proofs.Common.{◌≡◌, ◌∙◌, sym, ap, subst, ℕ, ◌+◌, ◌≤◌, cond, List, [], ◌∷◌, ◌++◌, length, take, Option, Some, None, option_map, Contains, refl, append_assoc, arith}
use Rattle.std.proofs.lemmas.List.{append-nil, length-append, take-append-le}
use Rattle.lru.proofs.Splits.{Contains-nil}
use Rattle.law_register.specs.Answer.Replay.{VersionValue}
use Rattle.law_register.specs.Answer.Breakpoints.{insert_days}
use Rattle.law_register.specs.Provisions.Carrying.{carrying, known_held}
use Rattle.law_register.specs.Provisions.Depending.{WorkDays, days_along, depends, source_days}
use Rattle.law_register.specs.Provisions.Line.{line}
use Rattle.law_register.specs.Register.KnownIds.{enacted, ids_of, known_by, known_ids}
use Rattle.law_register.specs.Register.LawList.{law_of, laws, front}
use Rattle.law_register.specs.declared.law.act.Act.{Act}
use Rattle.law_register.specs.declared.law.command.Command.{Command}
use Rattle.law_register.specs.declared.register.entry.Entry.{Entry}
use Rattle.law_register.specs.declared.register.known.Known.{Known}
use Rattle.law_register.proofs.Snoc.{laws_more}
use Rattle.viewpoints.specs.Right.{IsRight, IsRightAt, with_front}
use Rattle.law_register.specs.declared.answer.past_key.PastKey.{PastKey}
use Rattle.viewpoints.specs.declared.past_tables.PastTable.{PastTable}

taken_more : (es : List Entry) (e : Entry) (v : ℕ) → v ≤ front es → take v (laws (es ++ e ∷ [])) ≡ take v (laws es)
taken_more es e v reached = ap (take v) (laws_more es e) ∙ take-append-le v (laws es) (law_of es e) reached

front_more : (es : List Entry) (e : Entry) → front es ≤ front (es ++ e ∷ [])
front_more es e =
    let more : front (es ++ e ∷ []) ≡ front es + length (law_of es e) = ap length (laws_more es e) ∙ length-append (laws es) (law_of es e) in
    omega (arith, more)

-- what a work carries does not depend on how many law entries there are
days_front : (works : List Known) (n : ℕ) (k : Known) (ws : List WorkDays) → source_days works (with_front n k) ws ≡ source_days works k ws
days_front works n k [] = refl
days_front works n k (w ∷ ws) = ap (insert_days (cond (depends works k w.known.act.work) w.days [])) (days_front works n k ws)

carrying_front : (works : List Known) (n : ℕ) (k : Known) → carrying works (with_front n k) ≡ with_front n (carrying works k)
carrying_front works n k =
    ap (λ (days : List ℕ). (let held : Known = record (carrying works (with_front n k)) { source_days = days } in held)) (days_front works n k (days_along works))

held_by_front : (works : List Known) (w : List ℕ) (v m n : ℕ) (ls : List Command) (found : Option (ℕ × Act)) (k : Known)
    → option_map (carrying works) (known_by w v m ls found) ≡ Some (with_front m k) → option_map (carrying works) (known_by w v n ls found) ≡ Some (with_front n k)
held_by_front works w v m n ls None k h = absurd (let no : None ≡ Some (with_front m k) = h in cc)
held_by_front works w v m n ls (Some found) k h =
    let known : Known = record {
      act = found.1;
      enacted = found.0;
      viewpoint = v;
      front = m;
      mods = known_ids ls (ids_of w ls);
      source_days = [];
    } in
    ap (λ (held : Known). (let here : Option Known = Some held in here)) (carrying_front works n known) ∙ ap (option_map (with_front n)) h

known_more : (es : List Entry) (e : Entry) (w : List ℕ) (v : ℕ) (k : Known) → v ≤ front es
    → known_held es w v ≡ Some (with_front (front es) k) → known_held (es ++ e ∷ []) w v ≡ Some (with_front (front (es ++ e ∷ [])) k)
known_more es e w v k reached h =
    ap (λ ls. option_map (carrying (line ls)) (known_by w v (front (es ++ e ∷ [])) ls (enacted w ls))) (taken_more es e v reached)
    ∙ held_by_front (line (take v (laws es))) w v (front es) (front (es ++ e ∷ [])) (take v (laws es)) (enacted w (take v (laws es))) k h

module _ {T : Type 0} (version_on : T → ℕ → VersionValue) where
  right_more : (es : List Entry) (e : Entry) (key : PastKey) (kept : PastTable T) → IsRightAt version_on es key kept → IsRightAt version_on (es ++ e ∷ []) key kept
  right_more es e key kept right = record {
    reached = omega (arith, right.reached, front_more es e);
    known = known_more es e key.work key.viewpoint kept.known right.reached right.known;
    made = right.made;
    versions = right.versions;
  }

  pub nothing_is_right : (past : List (PastKey × PastTable T)) → past ≡ [] → (entries : List Entry) → IsRight version_on entries past
  nothing_is_right past none entries = λ e has. absurd (Contains-nil e (subst (λ l. Contains l e) none has))

  pub right_stays : (past : List (PastKey × PastTable T)) (es more : List Entry) → IsRight version_on es past → IsRight version_on (es ++ more) past
  right_stays past es [] right = subst (λ l. IsRight version_on l past) (sym (append-nil es)) right
  right_stays past es (e ∷ more) right =
      subst (λ l. IsRight version_on l past) (append_assoc es (e ∷ []) more)
      (right_stays past (es ++ e ∷ []) more (λ x has. right_more es e x.0 x.1 (right x has)))
