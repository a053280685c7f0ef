use Rattle.std.proofs.Common.{◌∙◌, ◌||◌, Bool, List, [], ◌∷◌, take, map, sym, ap}
use Rattle.std.specs.Prelude.{nat_eq}
use Rattle.std.specs.HashSet.{contains}
use Rattle.gm_image.specs.declared.lines.VertexLine.{VertexLine}
use Rattle.gm_image.specs.Views.{line}
use Rattle.gm_image.specs.Parts.{is_among}
use Rattle.gm_merge_laws.specs.Joins.{put_globals}
use Rattle.gm_verify.proofs.Lists.{taken-all}
use Rattle.gm_verify.proofs.Slots.{or-assoc, or-none}
use Rattle.gm_merge.proofs.Putting.{puts-more}
use Rattle.gm_merge.proofs.puts.add_puts.Goals as goal

pub loop-vertex_line-init : goal.loop-vertex_line-init
loop-vertex_line-init c = λ n. or-none (contains nat_eq c.args.set.now n)

pub loop-vertex_line-preserved : goal.loop-vertex_line-preserved
loop-vertex_line-preserved c = λ n.
    let ls = c.args.lines.now in
    let i = c.loop-vertex_line.vertex_line-index in
    let x = c.vertex_line-item.result in
    let before = is_among n (put_globals (map line (take i ls))) in
    c.in_ok-add_line.ensures n
    ∙ ap (λ (b : Bool). b || is_among n (put_globals (line x ∷ []))) (c.loop-vertex_line.invariant n)
    ∙ or-assoc (contains nat_eq c.args.set.now n) before (is_among n (put_globals (line x ∷ [])))
    ∙ ap (λ (b : Bool). contains nat_eq c.args.set.now n || b) (sym (puts-more ls i x n c.loop-vertex_line-test.true c.vertex_line-item.is))

pub returns : goal.returns
returns c = λ n.
    c.loop-vertex_line.invariant n
    ∙ ap (λ (xs : List VertexLine). contains nat_eq c.args.set.now n || is_among n (put_globals (map line xs))) (taken-all c.args.lines.now c.loop-vertex_line.vertex_line-index c.loop-vertex_line-test.false)
