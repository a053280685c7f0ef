use Rattle.std.proofs.Common.{◌≡◌, sym, ap, ◌∙◌}
use Rattle.gm_ast.specs.Tree.{expr_of, stmt_of}
use Rattle.gm_dissect.proofs.Trees.{ok-then}
use Rattle.gm_forms.specs.Cut.{is_own_loop}
use Rattle.gm_cut.specs.Parts.{parted_loop}
use Rattle.gm_cut.proofs.Walks.{parted_walk, whole_walk}
use Rattle.gm_cut.proofs.pieces.part_loop.Goals as goal

pub returns-then-is_own : goal.returns-then-is_own
returns-then-is_own c =
    let k = c.args.site.key in
    let at = c.args.site.place in
    let h = c.args.site.head in
    let mask = c.taken_value-filter.result in
    let body = c.taken-body.result in
    let own : c.is_own.result ≡ is_own_loop h.iterator (stmt_of body) = c.is_own.ensures in
    ok-then c.whole_loop.result c.whole_loop.ensures (λ r e.
    e ∙ whole_walk k at h (expr_of mask) (stmt_of body) (sym own ∙ c.if-is_own.true)
    ∙ ap (λ f. parted_loop k at h (expr_of f) (stmt_of body)) c.taken_value-filter.ensures ∙ ap (λ s. parted_loop k at h (expr_of c.args.filter.now) (stmt_of s)) c.taken-body.ensures)

pub returns : goal.returns
returns c =
    let k = c.args.site.key in
    let at = c.args.site.place in
    let h = c.args.site.head in
    let mask = c.taken_value-filter.result in
    let body = c.taken-body.result in
    let own : c.is_own.result ≡ is_own_loop h.iterator (stmt_of body) = c.is_own.ensures in
    ok-then c.part.result c.part.ensures (λ r e.
    e ∙ parted_walk k at h (expr_of mask) (stmt_of body) (sym own ∙ c.if-is_own.false)
    ∙ ap (λ f. parted_loop k at h (expr_of f) (stmt_of body)) c.taken_value-filter.ensures ∙ ap (λ s. parted_loop k at h (expr_of c.args.filter.now) (stmt_of s)) c.taken-body.ensures)
