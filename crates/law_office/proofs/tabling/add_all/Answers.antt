use Rattle.std.proofs.Common.{rules, ◌≡◌, ◌∙◌, ◌+◌, ◌<◌, sym, ap, subst, arith, drop, take, length, List, [], ◌∷◌, ◌++◌, ℕ, option_map}
use Rattle.std.proofs.lemmas.List.{append_assoc, drop_more, map-append, take_more}
use Rattle.std.proofs.lemmas.List.Sums.{sum_by-cons}
use Rattle.std.specs.List.{sum_by}
use Rattle.std.specs.Map.{keys_of, lookup}
use Rattle.std.specs.Str.{bytes_eq}
use Rattle.law_register.specs.Answer.Renewing.{costs_from}
use Rattle.law_register.specs.Provisions.Carrying.{held_now}
use Rattle.law_refs.specs.Handing.{rows_if, rows_made, rows_opened}
use Rattle.law_refs.specs.declared.ref_row.RefRow.{RefRow}
use Rattle.version_cache.specs.Seen.{work_view}
use Rattle.law_office.specs.declared.line.DatedWork.{DatedWork}
use Rattle.law_office.specs.Tables.{kept_in}
use Rattle.law_office.proofs.Ahead.{ahead_of}
use Rattle.law_office.proofs.Adding.{AreSoFar, none_so_far, one_more}
use Rattle.law_office.proofs.InLine.{all_in_line, cut_at, is_known, is_new, works_of}
use Rattle.law_office.proofs.tabling.add_all.Goals as goal

pub loop-dated-init : goal.loop-dated-init
loop-dated-init g c =
    let es = c.args.register.now.entries in
    let works : List (List ℕ) = works_of c.args.line.now in
    record {
      kept = none_so_far es (kept_in c.args.tables.now) works
          (λ w. ap (λ es. option_map work_view (lookup (bytes_eq w) es)) c.requires.none) (all_in_line es works c.requires.line);
      keys = ap keys_of c.requires.none;
      rows = ap (λ (rows : List RefRow). rows ++ rows_opened es works) c.requires.no_rows;
      steps = omega arith;
    }

pub add_work-requires : goal.add_work-requires
add_work-requires g c =
    let es = c.args.register.now.entries in
    let legal = c.entries_are_legal.ensures in
    let line : List DatedWork = c.args.line.now in
    let i : ℕ = c.loop-dated.dated-index in
    let d : DatedWork = c.dated-item.result in
    let within : i < length line = search rules in
    let cut : drop i line ≡ d ∷ drop (i + 1) line = drop_more line i d within ∙ ap (λ x. x ∷ drop (i + 1) line) (sym c.dated-item.is) in
    record {
      ahead = ahead_of es legal (works_of line) (works_of (take i line)) d.work (works_of (drop (i + 1) line)) c.requires.line (cut_at line i d cut)
          (kept_in c.loop-dated.tables)
          (subst (λ (ws : List (List ℕ)). AreSoFar es (kept_in c.loop-dated.tables) ws) (ap works_of cut) c.loop-dated.invariant.kept);
    }

pub loop-dated-preserved : goal.loop-dated-preserved
loop-dated-preserved g c =
    let es = c.args.register.now.entries in
    let legal = c.entries_are_legal.ensures in
    let line : List DatedWork = c.args.line.now in
    let i : ℕ = c.loop-dated.dated-index in
    let d : DatedWork = c.dated-item.result in
    let rest : List (List ℕ) = works_of (drop (i + 1) line) in
    let before : List (List ℕ) = works_of (take i line) in
    let cost : List ℕ → ℕ = λ w. costs_from (held_now es w) 0 in
    let within : i < length line = search rules in
    let cut : drop i line ≡ d ∷ drop (i + 1) line = drop_more line i d within ∙ ap (λ x. x ∷ drop (i + 1) line) (sym c.dated-item.is) in
    let taken : take (i + 1) line ≡ take i line ++ d ∷ [] = take_more line i d within ∙ ap (λ x. take i line ++ x ∷ []) (sym c.dated-item.is) in
    let left : works_of (drop i line) ≡ d.work ∷ rest = ap works_of cut in
    let known = is_known es legal (works_of line) before d.work rest c.requires.line (cut_at line i d cut) in
    let none = is_new es legal (works_of line) before d.work rest c.requires.line (cut_at line i d cut) c.loop-dated.tables.entries c.loop-dated.invariant.keys in
    let sum = ap (sum_by cost) left ∙ sum_by-cons cost d.work rest in
    record {
      kept = one_more es (kept_in c.loop-dated.tables) (kept_in c.add_work.new.tables) d.work rest
          (subst (λ (ws : List (List ℕ)). AreSoFar es (kept_in c.loop-dated.tables) ws) left c.loop-dated.invariant.kept) c.in_ok-add_work.ensures.kept;
      keys = c.in_ok-add_work.ensures.key known (ap (option_map work_view) none)
          ∙ ap (λ (ks : List (List ℕ)). ks ++ d.work ∷ []) c.loop-dated.invariant.keys
          ∙ sym (ap works_of taken ∙ map-append (λ (d : DatedWork). d.work) (take i line) (d ∷ []));
      rows = ap (λ (rows : List RefRow). rows ++ rows_opened es rest) c.in_ok-add_work.ensures.rows
          ∙ append_assoc c.loop-dated.rows (rows_if (rows_made d.work) (held_now es d.work)) (rows_opened es rest)
          ∙ ap (λ (ws : List (List ℕ)). c.loop-dated.rows ++ rows_opened es ws) (sym left)
          ∙ c.loop-dated.invariant.rows;
      steps = omega (arith, sum, c.loop-dated.invariant.steps, c.add_work.ensures.steps);
    }
