use Rattle.std.proofs.Common.{◌≡◌, ◌∙◌, ◌++◌, ◌+◌, ◌<◌, ◌∷◌, [], ℕ, List, ap, sym, drop, get_or, length, map, set, take, arith}
use Rattle.std.proofs.lemmas.List.{append_assoc, drop_more, get_or_at, length-map, length-take-le, map-append, set_at, take_more}
use Rattle.law_register.specs.declared.register.known.KnownMod.{KnownMod}
use Rattle.law_register.specs.Answer.Standing.{mod_alone}
use Rattle.law_register.proofs.register.known.let_go.Goals as goal

-- one more lets go what it carries
one_more : (ms ns : List KnownMod) (i : ℕ) (d : KnownMod) → i < length ms → ns ≡ map mod_alone (take i ms) ++ drop i ms
    → set ns i (mod_alone (get_or ns i d)) ≡ map mod_alone (take (i + 1) ms) ++ drop (i + 1) ms
one_more ms ns i d lt is =
    let first : List KnownMod = map mod_alone (take i ms) in
    let here : KnownMod = get_or ms i d in
    let rest : List KnownMod = drop (i + 1) ms in
    let long : length first ≡ i = length-map (take i ms) mod_alone ∙ length-take-le i ms (omega arith) in
    let now : ns ≡ first ++ here ∷ rest = is ∙ ap (λ (l : List KnownMod). first ++ l) (drop_more ms i d lt) in
    let found : get_or ns i d ≡ here = ap (λ (l : List KnownMod). get_or l i d) now ∙ get_or_at first here rest d i long in
    let more : map mod_alone (take (i + 1) ms) ≡ first ++ mod_alone here ∷ [] =
    ap (map mod_alone) (take_more ms i d lt) ∙ map-append mod_alone (take i ms) (here ∷ []) in
    ap (λ (m : KnownMod). set ns i (mod_alone m)) found
    ∙ ap (λ (l : List KnownMod). set l i (mod_alone here)) now
    ∙ set_at first here rest (mod_alone here) i long
    ∙ sym (ap (λ (l : List KnownMod). l ++ rest) more ∙ append_assoc first (mod_alone here ∷ []) rest)

pub loop-known-preserved : goal.loop-known-preserved
loop-known-preserved c =
    one_more c.args.mods.now c.loop-known.mods c.loop-known.known-index c.known-item.result c.loop-known-test.true c.loop-known.invariant
