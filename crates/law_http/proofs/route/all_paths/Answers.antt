use Rattle.std.proofs.Common.{◌∙◌, ap, refl, codes}
use Rattle.std.specs.Prelude.{option_map}
use Rattle.matchit.proofs.OnLiterals.{matchit_on_literals}
use Rattle.matchit.specs.Router.{RouteOf}
use Rattle.matchit.specs.Seek.{same_text}
use Rattle.law_http.specs.declared.route.Route.{Route}
use Rattle.law_http.proofs.Literals.{first_of_five, found_by_text}
use Rattle.law_http.proofs.route.all_paths.Goals as goal

pub returns : goal.returns
unfolding matchit_on_literals
returns c =
    let a = c.in_ok-insert.ensures in
    let b = c.in_ok-insert-2.ensures in
    let d = c.in_ok-insert-3.ensures in
    let e = c.in_ok-insert-4.ensures in
    let f = c.in_ok-insert-5.ensures in
    rw (f.1, e.1, d.1, b.1, a.1, c.new-router.ensures) (λ path.
    ap (option_map (λ (r : RouteOf Route). r.value)) (found_by_text _ refl path)
    ∙ first_of_five (λ (r : RouteOf Route). r.value) (same_text (codes "/commands") path) (same_text (codes "/draft") path) (same_text (codes "/front") path)
    (same_text (codes "/preview") path) (same_text (codes "/text") path) _ _ _ _ _)
