use Rattle.std.proofs.Common.{◌<◌, ◌∙◌, ◌&&◌, length, ap, arith}
use Rattle.gm_combiners.specs.declared.candidates.Candidates.{Candidates}
use Rattle.gm_combiners.specs.Candidates.{is_reduce, leaves, left_for}
use Rattle.gm_combiners.proofs.Walking.{read-left, narrowed, no-other}
use Rattle.gm_combiners.proofs.candidates.narrow_at.Goals as goal

pub returns-then-kind-len-clause-left : goal.returns-then-kind-len-clause-left
returns-then-kind-len-clause-left c = λ k r l.
    let cs = c.args.candidates.now.items in
    let i = c.args.kind in
    let by = is_reduce c.args.by r in
    let inside : i < length cs = omega (arith, c.if-kind-len.true, c.len.ensures) in
    narrowed cs i k c.narrow.result r by inside (c.narrow.ensures r ∙ ap (λ (x : Candidates). leaves x r && by) (read-left cs i c.index.result.now inside c.index.ensures))

pub returns-else-kind-len-clause-left : goal.returns-else-kind-len-clause-left
returns-else-kind-len-clause-left c = λ k r l.
    no-other c.args.kind k (leaves (left_for c.args.candidates.now.items k) r) (is_reduce c.args.by r) (λ q. absurd (omega (arith, q, l, c.if-kind-len.false, c.len.ensures)))
