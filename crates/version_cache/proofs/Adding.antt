-- What one row more makes of the rows so far, of the orders that are left, and of what the rest costs.
use Rattle.std.proofs.Common.{◌≡◌, ◌∙◌, sym, ap, ℕ, suc, ◌+◌, ◌-◌, ◌≤◌, ◌<◌, true, cond, nat_le, drop, get_or, length, map, List, [], ◌∷◌, ◌++◌, append_assoc, append-nil, arith}
use Rattle.std.proofs.lemmas.Bool.Decides.{nat_tests}
use Rattle.std.proofs.lemmas.List.{drop_more, length-drop, length-map, map-append, nil_from_length}
use Rattle.desk_base.specs.declared.id.Id.{Id}
use Rattle.law_register.specs.declared.answer.question.Reading.{Reading}
use Rattle.law_register.specs.declared.register.known.Known.{Known}
use Rattle.law_register.specs.Answer.Applied.{ids_applied}
use Rattle.law_register.specs.Answer.Costs.{cost_after}
use Rattle.law_register.specs.Answer.Order.{order}
use Rattle.law_register.specs.Answer.Replay.{VersionValue, as_enacted, replay_on, replayed}
use Rattle.version_cache.specs.declared.row.Row.{Row}
use Rattle.version_cache.specs.Rows.{row_view, rows_view}
use Rattle.version_cache.specs.Tables.{last_version, rows_on}
use Rattle.version_cache.proofs.LastRow.{last_added}

least : (d : ℕ) → nat_le 0 d ≡ true
least d = grind (arith, nat_tests)

-- the day whose order is the first of those that are left
pub record NextDay (known : Known) (r : Reading) (days : List ℕ) (i : ℕ) (ids : List Id) : Type 0 where
  pub day : ℕ
  pub cut : drop i days ≡ day ∷ drop (i + 1) days
  pub ordered : ids ≡ order known r day

module _ (known : Known) (r : Reading) where
  -- the version that some ids make of the act as enacted
  abbrev pub made_by : List Id → VersionValue
  made_by ids = replayed known.mods (as_enacted known.act) ids

  version_is : (version : VersionValue) (ids : List Id) (day : ℕ) → ids ≡ order known r day → version ≡ made_by ids → version ≡ replay_on known r day
  version_is version ids day ordered made = made ∙ ap made_by ordered

  pub rows_step : (rows : List Row) (row : Row) (ids : List Id) (rest left all : List ℕ) → left ≡ row.day ∷ rest → ids ≡ order known r row.day
      → (row_view row).version ≡ made_by ids → rows_view rows ++ rows_on known r left ≡ rows_on known r all
      → rows_view (rows ++ row ∷ []) ++ rows_on known r rest ≡ rows_on known r all
  rows_step rows row ids rest left all cut ordered made so_far =
      ap (λ xs. xs ++ rows_on known r rest) (map-append row_view rows (row ∷ []))
      ∙ append_assoc (rows_view rows) (row_view row ∷ []) (rows_on known r rest)
      ∙ ap (λ (version : VersionValue). rows_view rows ++ (record { day = row.day; version = version } ∷ rows_on known r rest)) (version_is (row_view row).version ids row.day ordered made)
      ∙ sym (ap (λ days. rows_view rows ++ rows_on known r days) cut)
      ∙ so_far

  -- where no order is left, no day is, and the rows so far are all
  pub rows_whole : (rows : List Row) (orders : List (List Id)) (left all : List ℕ) → length orders ≡ 0 → orders ≡ map (order known r) left
      → rows_view rows ++ rows_on known r left ≡ rows_on known r all → rows_view rows ≡ rows_on known r all
  rows_whole rows orders left all none is so_far =
      let no_day : left ≡ [] = nil_from_length left (sym (length-map left (order known r)) ∙ sym (ap length is) ∙ none) in
      sym (ap (λ days. rows_view rows ++ rows_on known r days) no_day ∙ append-nil (rows_view rows)) ∙ so_far

  pub last_step : (before : VersionValue) (rows : List Row) (row : Row) (ids : List Id) → (row_view row).version ≡ made_by ids
      → last_version before (rows_view (rows ++ row ∷ [])) ≡ made_by ids
  last_step before rows row ids made =
      ap (last_version before) (map-append row_view rows (row ∷ [])) ∙ last_added before (rows_view rows) (row_view row) ∙ made

  -- where the order of a day is left, so is the day
  pub day_left : (days : List ℕ) (i : ℕ) (ids : List Id) (more : List (List Id)) → ids ∷ more ≡ map (order known r) (drop i days) → i < length days
  day_left days i ids more left =
      let same = ap length left ∙ length-map (drop i days) (order known r) ∙ length-drop i days in
      within (length more) (length days) i same
    where
      within : (m n i : ℕ) → suc m ≡ n - i → i < n
      within m n i h = omega arith

  -- the first of the orders that are left is that of the day, and the others are those of the days behind it
  pub orders_step : (ids : List Id) (more : List (List Id)) (day : ℕ) (rest left : List ℕ) → left ≡ day ∷ rest → ids ∷ more ≡ map (order known r) left
      → (ids ≡ order known r day) × (more ≡ map (order known r) rest)
  orders_step ids more day rest left cut orders =
      let same : ids ∷ more ≡ order known r day ∷ map (order known r) rest = orders ∙ ap (map (order known r)) cut in
      (ap (λ (os : List (List Id)). get_or os 0 ids) same, ap (λ (os : List (List Id)). drop 1 os) same)

  pub next_day : (days : List ℕ) (i : ℕ) (ids : List Id) (more : List (List Id)) → ids ∷ more ≡ map (order known r) (drop i days) → NextDay known r days i ids
  next_day days i ids more left =
      let within : i < length days = day_left days i ids more left in
      let day : ℕ = get_or days i 0 in
      let cut : drop i days ≡ day ∷ drop (i + 1) days = drop_more days i 0 within in
      record { day = day; cut = cut; ordered = (orders_step ids more day (drop (i + 1) days) (drop i days) cut left).0 }

  -- what the days to come cost is what this one does, and the rest
  next_cost : (before : List Id) (day : ℕ) (rest left : List ℕ) → left ≡ day ∷ rest
      → cost_after known r 0 before left ≡ ids_applied before (order known r day) + cost_after known r 0 (order known r day) rest
  next_cost before day rest left cut =
      ap (cost_after known r 0 before) cut
      ∙ ap (λ b. cond b (ids_applied before (order known r day)) 0 + cost_after known r 0 (order known r day) rest) (least day)

  pub cost_step : (before ids : List Id) (day : ℕ) (rest left : List ℕ) (old now total : ℕ) → left ≡ day ∷ rest → ids ≡ order known r day
      → old + cost_after known r 0 before left ≤ total → now ≤ old + ids_applied before ids → now + cost_after known r 0 ids rest ≤ total
  cost_step before ids day rest left old now total cut ordered so_far step =
      let next = next_cost before day rest left cut in
      let applied : ids_applied before ids ≡ ids_applied before (order known r day) = ap (ids_applied before) ordered in
      let later : cost_after known r 0 ids rest ≡ cost_after known r 0 (order known r day) rest = ap (λ i. cost_after known r 0 i rest) ordered in
      fits old now (ids_applied before ids) (cost_after known r 0 ids rest) (cost_after known r 0 before left) total
      (next ∙ ap (λ n. n + cost_after known r 0 (order known r day) rest) (sym applied) ∙ ap (λ n. ids_applied before ids + n) (sym later)) so_far step
    where
      fits : (old now one rest left total : ℕ) → left ≡ one + rest → old + left ≤ total → now ≤ old + one → now + rest ≤ total
      fits old now one rest left total is h k = omega arith

  -- what was spent up to a row is no more than what all days cost
  pub spent_by : (days : List ℕ) (i : ℕ) (before ids : List Id) (more : List (List Id)) (old now total : ℕ) → ids ∷ more ≡ map (order known r) (drop i days)
      → old + cost_after known r 0 before (drop i days) ≤ total → now ≤ old + ids_applied before ids → now ≤ total
  spent_by days i before ids more old now total left so_far step =
      let next : NextDay known r days i ids = next_day days i ids more left in
      let all = cost_step before ids next.day (drop (i + 1) days) (drop i days) old now total next.cut next.ordered so_far step in
      omega (arith, all)
