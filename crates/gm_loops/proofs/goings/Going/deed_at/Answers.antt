use Rattle.std.proofs.Common.{◌∙◌, sym}
use Rattle.std.proofs.Math.Path.{fun_ext}
use Rattle.gm_ast.specs.Tree.{expr_of}
use Rattle.gm_loops.specs.Around.{body_of, mode_in}
use Rattle.gm_loops.proofs.Effects.{scalar-bound}
use Rattle.gm_loops.proofs.Deeds.{deed-over, deed-passed}
use Rattle.gm_loops.proofs.goings.Going.deed_at.Goals as goal

pub returns-then-is_true-clause-turn : goal.returns-then-is_true-clause-turn
returns-then-is_true-clause-turn c =
    deed-passed c.args.around.now c.args.mode c.args.key (expr_of c.args.filter.now) (body_of c.args.body) c.args.iterator c.args.node c.args.self.now.store
    _ c.in_ok-passed.passed c.sight.result c.deed_of_body.result c.in_ok-passed.ensures c.sight.ensures (sym c.is_true.ensures ∙ c.if-is_true.true) c.deed_of_body.ensures.does
    (fun_ext (λ y. scalar-bound _ _ _ _ y))

pub returns-else-is_true-clause-turn : goal.returns-else-is_true-clause-turn
returns-else-is_true-clause-turn c =
    deed-over c.args.around.now c.args.mode c.args.key (expr_of c.args.filter.now) (body_of c.args.body) c.args.iterator c.args.node c.args.self.now.store
    _ c.in_ok-passed.passed c.sight.result c.in_ok-passed.ensures c.sight.ensures (sym c.is_true.ensures ∙ c.if-is_true.false)
    (fun_ext (λ y. scalar-bound _ _ _ _ y))
