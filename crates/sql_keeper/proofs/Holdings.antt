-- What the parts of a keeper make of what is known of it.
use Rattle.std.proofs.Common.{◌≡◌, ◌⊎◌, inl, inr, ℕ, ◌≤◌, Bool, true, false, is_ok, nat_le, List, [], ◌∷◌, ◌++◌, length, map, Option, None, Some, Ok, IsTrue, IsOk, IfOk, refl, sym, ap, subst, ◌∙◌, arith, length-append}
use Rattle.std.specs.Prelude.{if◌then◌else◌}
use Rattle.std.proofs.lemmas.Bool.Decides.{nat_tests}
use Rattle.desk_base.specs.declared.load_fault.LoadFault.{LoadFault}
use Rattle.desk_base.specs.declared.load_fault.LoadFault.TheVariants.{Failed, Damaged, Memory}
use Rattle.law_journal.specs.Grammar.{Listing, is_size, with_last}
use Rattle.law_journal.specs.Journals.{IsNoDamage, Tells}
use Rattle.law_keeper.specs.Keepers.{IsSettled, HaveSizes, Appends, size_of, LeavesOnly}
use Rattle.sqlite.specs.Store.{Ghosts}
use Rattle.sqlite.specs.Tree.{Trees}
use Rattle.sqlite.specs.Effect.{Database}
use Rattle.sqlite.specs.Held.{Held, state}
use Rattle.sql_keeper.specs.Tables.{list_of, rows_in, shown}
use Rattle.sql_keeper.specs.SqlKeepers.{place_in, StaysOpen, list_in, IsInOrder, TableIsIn, left_in, holding_of, HasList, ListsRows, AppendsRow}
use Rattle.sql_keeper.proofs.Rows.{have_sizes}

-- the place of a cursor
pub place_here : (payloads : List (List ℕ)) (cursor : ℕ) → cursor ≤ length payloads → place_in (Ok payloads) cursor ≡ Some cursor
place_here payloads cursor low = let yes : nat_le cursor (length payloads) ≡ true = grind (arith, nat_tests) in ap (λ t. if t then Some cursor else None) yes

pub at_place : (payloads : List (List ℕ)) (cursor n : ℕ) → place_in (Ok payloads) cursor ≡ Some n → (n ≡ cursor) × (cursor ≤ length payloads)
at_place payloads cursor n is = go (nat_le cursor (length payloads)) refl is
  where
    go : (t : Bool) → nat_le cursor (length payloads) ≡ t → (if t then Some cursor else None) ≡ Some n → (n ≡ cursor) × (cursor ≤ length payloads)
    go true low same = let e : cursor ≡ n = cc in (sym e, grind (arith, nat_tests))
    go false low same = absurd (cc)

-- a list that there is has no damage to tell
pub no_damage : (listing : Listing) (fault : LoadFault) → IsOk listing → Tells listing fault → IsNoDamage fault
no_damage listing Failed is told = tt
no_damage listing (Damaged place byte) is told = absurd (let e = rw told at is in cc)
no_damage listing Memory is told = tt

module _ {S : Type 0} (g : Ghosts S) where
  -- what stays of a list
  pub in_order : (connection : Option (Held S)) → TableIsIn g connection → IsInOrder g connection
  in_order None has = absurd has
  in_order (Some connection) has = (has.0, inr has.1)

  pub still_listed : (found : Listing) (old new : Option (Held S)) (rows : ℕ) → TableIsIn g new → list_in g found new ≡ list_in g found old → HasList g found old rows → HasList g found new rows
  still_listed found old new rows has same list = (has, (list.1.0, same ∙ list.1.1, list.1.2))

  have_sizes_in : (found : Listing) (connection : Option (Held S)) (payloads : List (List ℕ)) → TableIsIn g connection → list_in g found connection ≡ Ok payloads → HaveSizes payloads
  have_sizes_in found None payloads has is = absurd has
  have_sizes_in found (Some connection) payloads has is = have_sizes 1 (map shown (rows_in (state g connection).now)) payloads is

  -- the list that was counted
  pub counted_list : (found : Listing) (old new : Option (Held S)) (rows : ℕ) → ListsRows g found old new (Ok rows) → StaysOpen g → IsInOrder g old → HasList g found new rows
  counted_list found old new rows lists stays order =
      let it = lists stays order in
      (it.3, (it.2.0, it.1 ∙ it.2.1, it.2.2))

  -- what a payload more makes of a list
  pub longer_list : (found : Listing) (old new : Option (Held S)) (payload : List ℕ) (rows now : ℕ) → AppendsRow g old new rows payload (Ok now) → StaysOpen g → HasList g found old rows → IsTrue (is_size (length payload)) → HasList g found new now
  longer_list found old new payload rows now appends stays list sized =
      let it = appends stays list.0 found in
      let more = it.1 list.1.0 list.1.1 list.1.2 sized in
      (it.0, (list.1.0 ++ payload ∷ [], more.0, omega (arith, length-append list.1.0 (payload ∷ []), list.1.2, more.1)))

  pub with_payload : (found : Listing) (old new : Option (Held S)) (payload : List ℕ) (rows now : ℕ) → AppendsRow g old new rows payload (Ok now) → StaysOpen g → HasList g found old rows → IsTrue (is_size (length payload))
      → list_in g found new ≡ with_last payload (list_in g found old)
  with_payload found old new payload rows now appends stays list sized =
      let more = (appends stays list.0 found).1 list.1.0 list.1.1 list.1.2 sized in
      more.0 ∙ ap (with_last payload) (sym list.1.1)

  pub appended : (told : Type 0) (found : Listing) (old new : Option (Held S)) (payload : List ℕ) (rows now : ℕ) → AppendsRow g old new rows payload (Ok now) → (told → StaysOpen g) → (told → HasList g found old rows) → IsTrue (is_size (length payload))
      → Appends payload (holding_of g told found old) (holding_of g told found new) (Ok now)
  appended told found old new payload rows now appends stays list sized = record {
    tells = (λ t. t, λ t. t);
    tells_crash = (λ t. t, λ t. t);
    list = λ t. with_payload found old new payload rows now appends (stays t) (list t) sized;
    places = λ t cursor n at.
        let is = (list t).1 in
        let all = (longer_list found old new payload rows now appends (stays t) (list t) sized).1 in
        let counted = ((appends (stays t) (list t).0 found).1 is.0 is.1 is.2 sized).1 in
        let p = at_place is.0 cursor n (subst (λ (l : Listing). place_in l cursor ≡ Some n) is.1 at) in
        ap (λ (l : Listing). place_in l cursor) all.1 ∙ place_here all.0 cursor (omega (arith, all.2, is.2, counted, p.1)) ∙ ap Some (sym p.0);
    end = λ t.
        let all = (longer_list found old new payload rows now appends (stays t) (list t) sized).1 in
        ap (λ (l : Listing). place_in l now) all.1 ∙ place_here all.0 now (omega (arith, all.2)) ∙ ap Some (sym all.2) ∙ sym (ap size_of all.1);
  }

  module _ (law : (s : S) (trees : Trees) → IsTrue (g.view s).is_open → g.recovers s trees → trees ≡ (g.view s).committed) where
    -- a crash leaves the list
    pub only_list : StaysOpen g → (found : Listing) (connection : Option (Held S)) → IsInOrder g connection → (list : Listing) → (list ≡ list_in g found connection) ⊎ left_in g connection list → list ≡ list_in g found connection
    only_list stays found connection order list (inl is) = is
    only_list stays found None order list (inr left) = absurd left
    only_list stays found (Some connection) order list (inr left) =
        left.2 ∙ ap (λ (t : Trees). list_of (record { schema = connection.schema; trees = t })) (law connection.store left.0 (stays connection) left.1 ∙ ap (λ (d : Database). d.trees) order.0.committed)

    pub settled : (told : Type 0) (found : Listing) (connection : Option (Held S)) (rows : ℕ) → (told → StaysOpen g) → (told → HasList g found connection rows) → IsSettled (holding_of g told found connection)
    settled told found connection rows stays list = record {
      has_list = λ t. ap is_ok (list t).1.1;
      sizes = λ t. subst (λ (l : Listing). IfOk l HaveSizes) (sym (list t).1.1) (have_sizes_in found connection (list t).1.0 (list t).0 (list t).1.1);
      first = λ t. ap (λ (l : Listing). place_in l 0) (list t).1.1 ∙ place_here (list t).1.0 0 (omega arith);
      durable = λ t l left. only_list (stays t) found connection (in_order connection (list t).0) l left;
    }

    pub leaves : (P : Listing → Type 0) (told : Type 0) (found : Listing) (old new : Option (Held S)) → StaysOpen g → IsInOrder g new → P (list_in g found new) → told
        → LeavesOnly P (holding_of g told found old) (holding_of g told found new)
    leaves P told found old new stays order is t = record {
      tells = t;
      now = λ list left. subst P (sym (only_list stays found new order list left)) is;
      any_moment = λ moments. absurd moments;
    }
