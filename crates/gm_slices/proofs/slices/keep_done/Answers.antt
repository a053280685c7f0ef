use Rattle.std.proofs.Common.{◌≡◌, rules, ◌∷◌, [], ◌++◌, length, refl, sym, ap, ◌∙◌, map, append-nil}
use Rattle.std.specs.Prelude.{filter}
use Rattle.std.specs.Vec.Iter.{into_iter_items, into_iter_len}
use Rattle.gm_ast.specs.Tree.{stmt_of}
use Rattle.gm_dissect.proofs.Trees.{nothing_left}
use Rattle.gm_slices.specs.Keeping.{may_serve_again}
use Rattle.gm_slices.proofs.Done.{one-first}
use Rattle.gm_slices.proofs.slices.keep_done.Goals as goal

pub loop-stmt-init : goal.loop-stmt-init
loop-stmt-init c = (refl, search rules)

pub loop-stmt-preserved : goal.loop-stmt-preserved
loop-stmt-preserved c =
    let ends = c.args.ends in
    let again = may_serve_again c.args.declarations.now (ends.outer ∷ ends.inner ∷ []) ends.outer in
    let at = c.loop-stmt.done in
    let left : into_iter_len c.next.new.self ≡ length (into_iter_items c.next.new.self) = search rules in (
      one-first again (map stmt_of at.items) (map stmt_of c.keep_one.new.done.items) (stmt_of c.in-Some.stmt) (map stmt_of (into_iter_items c.next.new.self)) c.in_ok-keep_one.ensures
          ∙ ap (λ l. map stmt_of at.items ++ filter again (map stmt_of l)) (sym c.in-Some.ensures.steps.0)
          ∙ c.loop-stmt.invariant.0,
      left,
    )

pub returns : goal.returns
returns c =
    let ends = c.args.ends in
    let again = may_serve_again c.args.declarations.now (ends.outer ∷ ends.inner ∷ []) ends.outer in
    let at = c.loop-stmt.done in
    let empty : into_iter_items c.loop-stmt.stmt-iterator ≡ [] = nothing_left _ (sym c.loop-stmt.invariant.1 ∙ c.in-None.ensures.steps.0) in
    sym (append-nil (map stmt_of at.items))
    ∙ ap (λ l. map stmt_of at.items ++ filter again (map stmt_of l)) (sym empty)
    ∙ c.loop-stmt.invariant.0
    ∙ ap (λ l. map stmt_of c.args.done.now.items ++ filter again (map stmt_of l)) c.into_iter-stmt-iterator.ensures.into_iter_gives.0
