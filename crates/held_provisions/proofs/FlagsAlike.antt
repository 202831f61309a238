-- The flags of a work follow from its act and its modifications.
use Rattle.std.proofs.Common.{◌≡◌, ◌∙◌, ap, refl, ℕ, Bool, cond, List, Some}
use Rattle.std.specs.Str.{bytes_eq}
use Rattle.act_tree.specs.Branches.{Branch, Branches, branch, no_branches, more_branches}
use Rattle.act_tree.specs.Changes.{root_wid}
use Rattle.act_tree.specs.Provisions.{Provision}
use Rattle.law_register.specs.declared.answer.question.Reading.{Reading}
use Rattle.law_register.specs.declared.law.act.Act.{Act}
use Rattle.law_register.specs.declared.law.modification.Destination.TheVariants as to
use Rattle.law_register.specs.declared.register.known.Known.{Known}
use Rattle.law_register.specs.declared.register.known.KnownMod.{KnownMod}
use Rattle.law_register.specs.Answer.Bearing.{act_itself, bears_on, force_on, node_bears}
use Rattle.law_register.specs.Answer.Flags.{flag_among, flag_below, flag_in, is_marked, or_else, root_flag}

module _ (old new : Known) (r : Reading) (day : ℕ) (act : old.act ≡ new.act) (mods : old.mods ≡ new.mods) where
  -- whether a provision bears, by the act and the modifications
  abbrev bears_by : List ℕ → Act → List KnownMod → Bool
  bears_by wid a ms =
      bears_on r ms (to.Node wid)
      (cond (bytes_eq wid root_wid) (force_on ms act_itself a.force day) (force_on ms (to.Node wid) (force_on ms act_itself a.force day) day)) day

  bears_same : (wid : List ℕ) → node_bears old r day wid ≡ node_bears new r day wid
  bears_same wid = ap (λ (a : Act). bears_by wid a old.mods) act ∙ ap (λ (ms : List KnownMod). bears_by wid new.act ms) mods

  marked_same : (wid : List ℕ) → is_marked r old.mods day wid ≡ is_marked r new.mods day wid
  marked_same wid = ap (λ (ms : List KnownMod). is_marked r ms day wid) mods

  below_same : (above : Bool) (wid : List ℕ) → flag_below old r day above wid ≡ flag_below new r day above wid
  below_same above wid =
      ap (λ b. cond b (node_bears old r day wid) above) (marked_same wid) ∙ ap (λ b. cond (is_marked r new.mods day wid) b above) (bears_same wid)

  mutual
    flag_in_same : (above : Bool) (wid : List ℕ) (b : Branch Provision) → flag_in old r day above wid b ≡ flag_in new r day above wid b
    flag_in_same above wid (branch p below) =
        ap (λ f. cond (bytes_eq p.wid wid) (Some f) (flag_among old r day (flag_below old r day above p.wid) wid below)) (below_same above wid)
        ∙ ap (λ f. cond (bytes_eq p.wid wid) (Some (flag_below new r day above wid)) (flag_among old r day f wid below)) (below_same above p.wid)
        ∙ ap (λ o. cond (bytes_eq p.wid wid) (Some (flag_below new r day above wid)) o) (flag_among_same (flag_below new r day above p.wid) wid below)

    flag_among_same : (above : Bool) (wid : List ℕ) (bs : Branches Provision) → flag_among old r day above wid bs ≡ flag_among new r day above wid bs
    flag_among_same above wid no_branches = refl
    flag_among_same above wid (more_branches b bs) =
        ap (λ o. or_else o (flag_among old r day above wid bs)) (flag_in_same above wid b)
        ∙ ap (or_else (flag_in new r day above wid b)) (flag_among_same above wid bs)

  pub flags_alike : (wid : List ℕ) (body : Branches Provision)
      → flag_among old r day (root_flag old r day) wid body ≡ flag_among new r day (root_flag new r day) wid body
  flags_alike wid body =
      ap (λ f. flag_among old r day f wid body) (bears_same root_wid) ∙ flag_among_same (root_flag new r day) wid body
