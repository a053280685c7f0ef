use Rattle.std.proofs.Common.{◌≡◌, refl, sym, ap, ◌∙◌, rules}
use Rattle.gm_ast.specs.declared.tree.Stmt.{the_lemmas}
use Rattle.gm_ast.specs.Program.{Foreach}
use Rattle.gm_ast.specs.Tree.{expr_of, stmt_of}
use Rattle.gm_dissect.proofs.Trees.{stmt_of-Block, ok-then}
use Rattle.gm_cut.specs.Lean.{lean_loop}
use Rattle.gm_slices.specs.SliceWalks.{Nest}
use Rattle.gm_slices.proofs.SliceWalks.{nest_sliced}
use Rattle.gm_slices.proofs.slices.slice_taken.Goals as goal

pub returns-in-Foreach : goal.returns-in-Foreach
returns-in-Foreach c =
    let around = c.args.around in
    let body = stmt_of c.into_inner.result in
    let nest : Nest = record {
      key = around.key;
      place = around.place;
      head = around.head;
      mask = expr_of c.args.mask;
      inner_key = c.in-Foreach.key;
      inner_place = c.in-Foreach.place;
      inner_head = c.in-Foreach.head;
      test = expr_of c.in-Foreach.filter;
    } in
    let seen : stmt_of c.args.body ≡ Foreach c.in-Foreach.key c.in-Foreach.place c.in-Foreach.head (expr_of c.in-Foreach.filter) (stmt_of c.in-Foreach.body.value) = ap stmt_of c.in-Foreach.is ∙ search (rules, the_lemmas) in
    let whole : stmt_of c.args.body ≡ Foreach c.in-Foreach.key c.in-Foreach.place c.in-Foreach.head (expr_of c.in-Foreach.filter) body =
    seen ∙ ap (λ s. Foreach c.in-Foreach.key c.in-Foreach.place c.in-Foreach.head (expr_of c.in-Foreach.filter) (stmt_of s)) (sym c.into_inner.ensures) in
    ok-then c.slice_nest.result c.slice_nest.ensures (λ r e.
    e ∙ nest_sliced c.args.declarations.now nest body ∙ ap (lean_loop c.args.declarations.now around.key around.place around.head (expr_of c.args.mask)) (sym whole))

pub returns-in-Block : goal.returns-in-Block
returns-in-Block c =
    let around = c.args.around in
    ok-then c.keep_block.result c.keep_block.ensures (λ r e.
    e ∙ ap (lean_loop c.args.declarations.now around.key around.place around.head (expr_of c.args.mask)) (sym (ap stmt_of c.in-Block.is ∙ stmt_of-Block c.in-Block.stmts)))

pub returns-in_default : goal.returns-in_default
returns-in_default c = c.keep_loop.ensures
