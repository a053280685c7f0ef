use Rattle.std.proofs.Common.{◌≡◌, ◌∙◌, ◌∷◌, ◌+◌, List, ap, sym, drop, map}
use Rattle.std.specs.Prelude.{flat_map}
use Rattle.gm_ast.specs.Program.{Expr}
use Rattle.gm_ast.specs.Tree.{expr_of}
use Rattle.gm_ast.specs.Ways.{mentions}
use Rattle.gm_push_pull.specs.declared.reads.Reads.{Reads}
use Rattle.gm_push_pull.specs.Locals.{noted_all}
use Rattle.gm_push_pull.proofs.Answers.{noted_all-append}
use Rattle.gm_push_pull.proofs.Items.{drop-item}
use Rattle.gm_push_pull.proofs.locals.Locals.noted_each.Goals as goal

pub loop-value-preserved : goal.loop-value-preserved
loop-value-preserved c =
    let l = c.args.self.now in
    let values = c.args.values.now in
    let i = c.loop-value.value-index in
    let item = c.value-item.result in
    let all = c.loop-value.all in
    let left = flat_map mentions (map expr_of (drop (i + 1) values)) in
    let rest : map expr_of (drop i values) ≡ expr_of item ∷ map expr_of (drop (i + 1) values) = ap (map expr_of) (drop-item values i item c.loop-value-test.true c.value-item.is) in
    ap (λ (r : Reads). noted_all l r left) c.noted-all.ensures ∙ sym (noted_all-append l all (mentions (expr_of item)) left)
    ∙ ap (λ (es : List Expr). noted_all l all (flat_map mentions es)) (sym rest) ∙ c.loop-value.invariant
