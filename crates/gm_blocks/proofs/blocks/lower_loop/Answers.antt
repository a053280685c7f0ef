use Rattle.std.proofs.Common.{ap, sym, ◌∙◌}
use Rattle.std.specs.Prelude.{◌+◌}
use Rattle.gm_ast.specs.Tree.{expr_of, stmt_of}
use Rattle.gm_layouts.specs.Where.{where_of}
use Rattle.gm_blocks.proofs.Loops.{kinds_are, kinds_by, loop_is, loop_of}
use Rattle.gm_blocks.proofs.blocks.lower_loop.Goals as goal

pub returns-in_ok-made-in-Some-clause-blocks : goal.returns-in_ok-made-in-Some-clause-blocks
returns-in_ok-made-in-Some-clause-blocks c =
    let k = where_of c.args.layout.now in
    let mask = expr_of c.args.filter.now in
    let body = stmt_of c.args.body.now in
    c.in_ok-made-in-Some.ensures.blocks
    ∙ ap (λ i. loop_of k c.args.base c.args.kind c.args.node c.args.key mask body i) c.in-Some.ensures
    ∙ sym (loop_is k c.args.base c.args.kind c.args.node c.args.key mask body)

pub returns-in_ok-made-in-Some-clause-kinds : goal.returns-in_ok-made-in-Some-clause-kinds
returns-in_ok-made-in-Some-clause-kinds c =
    let ds = (where_of c.args.layout.now).declarations in
    let body = stmt_of c.args.body.now in
    c.in_ok-made-in-Some.ensures.kinds
    ∙ ap (λ i. c.args.kind + kinds_by ds c.args.node body i) c.in-Some.ensures
    ∙ sym (ap (λ n. c.args.kind + n) (kinds_are ds c.args.node body))

pub returns-in_ok-made-in-None-clause-blocks : goal.returns-in_ok-made-in-None-clause-blocks
returns-in_ok-made-in-None-clause-blocks c =
    let k = where_of c.args.layout.now in
    let mask = expr_of c.args.filter.now in
    let body = stmt_of c.args.body.now in
    c.in_ok-made-in-None.ensures.blocks
    ∙ ap (λ i. loop_of k c.args.base c.args.kind c.args.node c.args.key mask body i) c.in-None.ensures
    ∙ sym (loop_is k c.args.base c.args.kind c.args.node c.args.key mask body)

pub returns-in_ok-made-in-None-clause-kinds : goal.returns-in_ok-made-in-None-clause-kinds
returns-in_ok-made-in-None-clause-kinds c =
    let ds = (where_of c.args.layout.now).declarations in
    let body = stmt_of c.args.body.now in
    c.in_ok-made-in-None.ensures.kinds
    ∙ ap (λ i. c.args.kind + kinds_by ds c.args.node body i) c.in-None.ensures
    ∙ sym (ap (λ n. c.args.kind + n) (kinds_are ds c.args.node body))
