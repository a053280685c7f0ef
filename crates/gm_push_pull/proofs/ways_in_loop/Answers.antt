use Rattle.std.proofs.Common.{◌∙◌, ◌++◌, ℕ, List, None, map, ap, sym, subst, option_map}
use Rattle.gm_base.specs.Rules.{broken_at}
use Rattle.gm_base.specs.declared.rules.Rule.TheVariants.{C7}
use Rattle.gm_ast.specs.declared.ways.Way.{Way}
use Rattle.gm_ast.specs.Tree.{expr_of, stmt_of}
use Rattle.gm_push_pull.specs.declared.reads.Reads.{Reads}
use Rattle.gm_push_pull.specs.Sweeps.{IsSettled}
use Rattle.gm_push_pull.specs.Finding.{reductions, way_found, first_against}
use Rattle.gm_push_pull.proofs.Found.{found-ways, found-against, around-filter}
use Rattle.gm_push_pull.proofs.ways_in_loop.Goals as goal

pub returns-clause-ways : goal.returns-clause-ways
returns-clause-ways c =
    let l = c.in_ok-locals.locals in
    let s = c.in_ok-locals.ensures in
    let h = c.args.head.now in
    let body = stmt_of c.args.body.now in
    let test = expr_of c.args.filter.now in
    let settled = subst (λ (i : ℕ). IsSettled l i body) (sym s.iterator) s in
    let f = c.in_ok-find.ensures in
    f.ways ∙ ap (λ (ws : List Way). ws ++ map (way_found h) (reductions l body c.noted-around.result)) c.new.ensures.items
    ∙ ap (λ (r : Reads). map (way_found h) (reductions l body r)) c.noted-around.ensures
    ∙ found-ways l body test settled h (sym s.iterator) _ (around-filter l body test settled h (sym s.iterator))

pub returns-clause-against : goal.returns-clause-against
returns-clause-against c =
    let l = c.in_ok-locals.locals in
    let s = c.in_ok-locals.ensures in
    let h = c.args.head.now in
    let body = stmt_of c.args.body.now in
    let test = expr_of c.args.filter.now in
    let settled = subst (λ (i : ℕ). IsSettled l i body) (sym s.iterator) s in
    let f = c.in_ok-find.ensures in
    c.refusal_at.ensures ∙ ap (option_map (broken_at C7)) (f.against ∙ ap (λ (r : Reads). first_against h None (reductions l body r)) c.noted-around.ensures)
    ∙ found-against l body test settled h (sym s.iterator) _ (around-filter l body test settled h (sym s.iterator))
