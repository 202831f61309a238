use Rattle.std.proofs.Common.{◌≡◌, ℕ, List, ◌++◌, take, subst, sym, ap, ◌∙◌, rules, slice_range}
use Rattle.std.specs.Io.KnownBytes.{Keeps, prepend_known}
use Rattle.law_http.proofs.Buffers.{lengthened, unread, filled, front_read, front_same, on_err}
use Rattle.law_http.proofs.Kept.{keeps_behind, keeps_same, keeps_piece}
use Rattle.law_http.proofs.buffer.Buffer.read_piece.Goals as goal

pub returns-in_err-lengthen-clause-stream : goal.returns-in_err-lengthen-clause-stream
returns-in_err-lengthen-clause-stream g c =
    let b = c.self.inside in let left = g.L.Link.left c.args.link.now in
    let same = lengthened b.bytes.items c.lengthen.new.bytes.items b.start b.end c.self.invariant.0 c.self.invariant.1 c.in_err-lengthen.ensures.items ∙ c.self.view_is ∙ c.settle.ensures in
    subst (λ (l : List ℕ). Keeps (prepend_known c.args.self.now left) (prepend_known l left)) (sym same) (keeps_same (prepend_known c.args.self.now left))

pub returns-in_err-lengthen-clause-unread : goal.returns-in_err-lengthen-clause-unread
returns-in_err-lengthen-clause-unread g c =
    let b = c.self.inside in
    on_err c.from_residual.result
    (lengthened b.bytes.items c.lengthen.new.bytes.items b.start b.end c.self.invariant.0 c.self.invariant.1 c.in_err-lengthen.ensures.items ∙ c.self.view_is ∙ c.settle.ensures)

pub returns-in-Ok-clause-stream : goal.returns-in-Ok-clause-stream
returns-in-Ok-clause-stream g c =
    let b = c.self.inside in let left = g.L.Link.left in
    let all = c.deref_mut.result.now in
    let before : slice_range all b.start b.end ≡ c.args.self.now =
    ap (λ (l : List ℕ). slice_range l b.start b.end) c.deref_mut.ensures.value
    ∙ lengthened b.bytes.items c.lengthen.new.bytes.items b.start b.end c.self.invariant.0 c.self.invariant.1 c.in_ok-lengthen.ensures.items ∙ c.self.view_is ∙ c.settle.ensures in
    let now = filled all c.read.new.into _ _ b.start b.end c.in-Ok.count c.lengthen.new.bytes.len c.self.invariant.0 (search rules) c.in-Ok.ensures.fits.0 (search rules)
    ∙ ap (λ l. l ++ take c.in-Ok.count c.read.new.into) before in
    subst (λ (l : List ℕ). Keeps (prepend_known c.args.self.now (left c.args.link.now)) (prepend_known l (left c.read.new.self))) (sym now)
    (keeps_piece c.args.self.now (take c.in-Ok.count c.read.new.into) (left c.args.link.now) (left c.read.new.self) c.in-Ok.ensures.taken.0)

pub returns-in-Err-clause-unread : goal.returns-in-Err-clause-unread
returns-in-Err-clause-unread g c =
    let b = c.self.inside in
    let all = c.deref_mut.result.now in
    unread all c.read.new.into _ _ b.start b.end c.lengthen.new.bytes.len c.self.invariant.0 (search rules) (search rules)
    ∙ ap (λ (l : List ℕ). slice_range l b.start b.end) c.deref_mut.ensures.value
    ∙ lengthened b.bytes.items c.lengthen.new.bytes.items b.start b.end c.self.invariant.0 c.self.invariant.1 c.in_ok-lengthen.ensures.items ∙ c.self.view_is ∙ c.settle.ensures

pub returns-in-Err-clause-stream : goal.returns-in-Err-clause-stream
returns-in-Err-clause-stream g c =
    let b = c.self.inside in let left = g.L.Link.left in
    let all = c.deref_mut.result.now in
    let same = unread all c.read.new.into _ _ b.start b.end c.lengthen.new.bytes.len c.self.invariant.0 (search rules) (search rules)
    ∙ ap (λ (l : List ℕ). slice_range l b.start b.end) c.deref_mut.ensures.value
    ∙ lengthened b.bytes.items c.lengthen.new.bytes.items b.start b.end c.self.invariant.0 c.self.invariant.1 c.in_ok-lengthen.ensures.items ∙ c.self.view_is ∙ c.settle.ensures in
    subst (λ (l : List ℕ). Keeps (prepend_known c.args.self.now (left c.args.link.now)) (prepend_known l (left c.read.new.self))) (sym same)
    (keeps_behind c.args.self.now (left c.args.link.now) (left c.read.new.self) c.in-Err.ensures.taken)

pub returns-in_err-lengthen-clause-front : goal.returns-in_err-lengthen-clause-front
returns-in_err-lengthen-clause-front g c =
    let b = c.self.inside in
    front_same _ _
    (lengthened b.bytes.items c.lengthen.new.bytes.items b.start b.end c.self.invariant.0 c.self.invariant.1 c.in_err-lengthen.ensures.items ∙ c.self.view_is ∙ c.settle.ensures)

pub returns-in-Ok-clause-front : goal.returns-in-Ok-clause-front
returns-in-Ok-clause-front g c =
    let b = c.self.inside in
    let all = c.deref_mut.result.now in
    let before : slice_range all b.start b.end ≡ c.args.self.now =
    ap (λ (l : List ℕ). slice_range l b.start b.end) c.deref_mut.ensures.value
    ∙ lengthened b.bytes.items c.lengthen.new.bytes.items b.start b.end c.self.invariant.0 c.self.invariant.1 c.in_ok-lengthen.ensures.items ∙ c.self.view_is ∙ c.settle.ensures in
    front_read c.args.self.now (take c.in-Ok.count c.read.new.into) _
    (filled all c.read.new.into _ _ b.start b.end c.in-Ok.count c.lengthen.new.bytes.len c.self.invariant.0 (search rules) c.in-Ok.ensures.fits.0 (search rules)
    ∙ ap (λ l. l ++ take c.in-Ok.count c.read.new.into) before)

pub returns-in-Err-clause-front : goal.returns-in-Err-clause-front
returns-in-Err-clause-front g c =
    let b = c.self.inside in
    let all = c.deref_mut.result.now in
    front_same _ _
    (unread all c.read.new.into _ _ b.start b.end c.lengthen.new.bytes.len c.self.invariant.0 (search rules) (search rules)
    ∙ ap (λ (l : List ℕ). slice_range l b.start b.end) c.deref_mut.ensures.value
    ∙ lengthened b.bytes.items c.lengthen.new.bytes.items b.start b.end c.self.invariant.0 c.self.invariant.1 c.in_ok-lengthen.ensures.items ∙ c.self.view_is ∙ c.settle.ensures)
