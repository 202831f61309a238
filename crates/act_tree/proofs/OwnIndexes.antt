-- Indexes that can be written to: their three lists are own together.
use Rattle.std.proofs.Common.{◌≡◌, ◌∙◌, ap, sym, subst, true, ℕ, ◌-◌, ◌≤◌, min, List, length, arith}
use Rattle.act_tree.specs.HashIndex.{IndexValue, IsIndex, AreIndex}
use Rattle.act_tree.specs.KeptLists.{ListValue}

-- what is seen of three lists
abbrev pub index_seen : ListValue ℕ → ListValue ℕ → ListValue ℕ → IndexValue
index_seen hashes heads before = record {
  hashes = hashes.items;
  width = length heads.items;
  room = min (length heads.items - length hashes.items) (min hashes.room before.room);
  is_own = hashes.is_own;
}

module _ (hashes heads before : ListValue ℕ) (v : IndexValue) (are : AreIndex hashes heads before) (is : index_seen hashes heads before ≡ v) where
  pub hashes_own : v.is_own ≡ true → hashes.is_own ≡ true
  hashes_own own = ap (λ (u : IndexValue). u.is_own) is ∙ own

  pub heads_own : v.is_own ≡ true → heads.is_own ≡ true
  heads_own own = are.heads_alike ∙ hashes_own own

  pub links_own : v.is_own ≡ true → before.is_own ≡ true
  links_own own = are.links_alike ∙ hashes_own own

  pub hashes_room : 1 ≤ v.room → 1 ≤ hashes.room
  hashes_room some = (let room : min (length heads.items - length hashes.items) (min hashes.room before.room) ≡ v.room = ap (λ (u : IndexValue). u.room) is in omega (arith, room, some))

  pub links_room : 1 ≤ v.room → 1 ≤ before.room
  links_room some = (let room : min (length heads.items - length hashes.items) (min hashes.room before.room) ≡ v.room = ap (λ (u : IndexValue). u.room) is in omega (arith, room, some))

-- there are as many buckets as heads
pub same_width : {w : ℕ} {hashes heads before : List ℕ} → IsIndex w hashes heads before → IsIndex (length heads) hashes heads before
same_width {w} {hashes} {heads} {before} is = subst (λ (n : ℕ). IsIndex n hashes heads before) (sym is.as_many_heads) is

-- three lists of the values of an index are one, too, where they are own or kept together
pub are_too : (hashes heads before new_hashes new_heads new_links : ListValue ℕ) → AreIndex hashes heads before → new_hashes.items ≡ hashes.items → new_heads.items ≡ heads.items → new_links.items ≡ before.items
    → new_heads.is_own ≡ new_hashes.is_own → new_links.is_own ≡ new_hashes.is_own → AreIndex new_hashes new_heads new_links
are_too hashes heads before new_hashes new_heads new_links are same_hashes same_heads same_links heads_alike links_alike = record {
  index = subst (λ (xs : List ℕ). IsIndex (length new_heads.items) xs new_heads.items new_links.items) (sym same_hashes)
      (subst (λ (ys : List ℕ). IsIndex (length ys) hashes.items ys new_links.items) (sym same_heads)
      (subst (λ (zs : List ℕ). IsIndex (length heads.items) hashes.items heads.items zs) (sym same_links) are.index));
  heads_alike = heads_alike;
  links_alike = links_alike;
}
