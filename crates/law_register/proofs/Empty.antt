-- The indexes of no entries.
use Rattle.std.proofs.Common.{◌≡◌, sym, ap, subst, ℕ, Bool, List, [], length, Option, None, is_some, refl}
use Rattle.std.specs.Str.{bytes_eq}
use Rattle.std.specs.Map.{lookup}
use Rattle.law_register.specs.declared.register.indexes.DrafterMark.{DrafterMark}
use Rattle.law_register.specs.declared.register.indexes.IdMark.{IdMark}
use Rattle.law_register.specs.declared.register.indexes.Indexes.{Indexes}
use Rattle.law_register.specs.declared.register.indexes.RequestMark.{RequestMark}
use Rattle.law_register.specs.declared.register.indexes.StepMark.{StepMark}
use Rattle.law_register.specs.declared.register.indexes.WorkMark.{WorkMark}
use Rattle.law_register.specs.Answer.Counted.{is_same_id}
use Rattle.law_register.specs.Register.Indexes.{is_request, RequestStands, DraftStands, WorkStands, IdStands, ActsStand, StepsStand, StandFor}

nothing : {K X : Type 0} (test : K → Bool) (es : List (K × X)) → es ≡ [] → None ≡ lookup test es
nothing test es e = ap (lookup test) (sym e)

no_draft : DraftStands [] None 0 []
no_draft = record { added = refl; items = tt }

no_work : WorkStands [] None None 0 0
no_work = record { act = tt; last = refl; ids = refl }

pub stand_for_none : (ix : Indexes) → ix.requests.entries ≡ [] → ix.drafters.entries ≡ [] → ix.works.entries ≡ [] → ix.ids.entries ≡ [] → ix.steps.items ≡ [] → ix.acts.items ≡ [] → ix.front ≡ 0 → ix.size ≡ 0
    → StandFor ix []
stand_for_none ix requests drafters works ids steps acts front size = record {
  requests = λ d r.
      let P : Option RequestMark → Type 0 = λ m. RequestStands [] m None in
      subst P (nothing (is_request d r) ix.requests.entries requests) tt;
  drafts = λ d.
      let P : Option DrafterMark → Type 0 = λ m. DraftStands [] m 0 [] in
      subst P (nothing (λ k. bytes_eq d k.items) ix.drafters.entries drafters) no_draft;
  present = λ d. sym (ap is_some (nothing (λ k. bytes_eq d k.items) ix.drafters.entries drafters));
  drafter_count = ap length drafters;
  works = λ w.
      let P : Option WorkMark → Type 0 = λ m. WorkStands [] m None 0 0 in
      subst P (nothing (λ k. bytes_eq w k.items) ix.works.entries works) no_work;
  ids = λ i.
      let P : Option IdMark → Type 0 = λ m. IdStands [] m None in
      subst P (nothing (is_same_id i) ix.ids.entries ids) tt;
  steps =
      let P : List StepMark → Type 0 = λ s. StepsStand [] ix.bodies.items [] s [] in
      subst P (sym steps) tt;
  acts =
      let P : List ℕ → Type 0 = λ ats. ActsStand [] ats [] in
      subst P (sym acts) tt;
  front = front;
  size = size;
}
