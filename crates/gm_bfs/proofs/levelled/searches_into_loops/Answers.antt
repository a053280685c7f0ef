use Rattle.std.proofs.Common.{◌≡◌, arith, length, refl, ap, ◌∙◌, true}
use Rattle.gm_ast.specs.Program.{Program}
use Rattle.gm_ast.specs.Tree.{program_of, stmt_of}
use Rattle.gm_bfs.specs.Levelled.{has_search, levelled, searches_out}
use Rattle.gm_bfs.specs.Variables.{fresh_from, with_fresh}
use Rattle.gm_bfs.proofs.levelled.searches_into_loops.Goals as goal

-- what a program with a search becomes
with-search : (p : Program) → has_search p.body ≡ true
    → record p { declarations = with_fresh p.declarations; body = searches_out (fresh_from (length p.declarations)) (length p.declarations) p.body } ≡ levelled p
with-search p h = rw h refl

pub returns : goal.returns
returns c searched =
    let p = program_of c.args.tree.now in
    let count : c.len-count.result ≡ length c.args.tree.now.declarations.items = omega (arith, c.len-count.ensures) in
    let fresh : c.in_ok-fresh.fresh ≡ fresh_from (length c.args.tree.now.declarations.items) = c.in_ok-fresh.ensures ∙ ap fresh_from count in
    let body : stmt_of c.searches_out.new.s ≡ searches_out (fresh_from (length c.args.tree.now.declarations.items)) (length c.args.tree.now.declarations.items) (stmt_of c.args.tree.now.body) =
    c.in_ok-searches_out.ensures ∙ (λ i. searches_out (fresh i) (count i) (stmt_of c.args.tree.now.body)) in
    (λ i. record p { declarations = c.in_ok-add_fresh.ensures i; body = body i }) ∙ with-search p searched
