use Rattle.std.proofs.Common.{◌≡◌, rules, [], ◌++◌, length, refl, sym, ap, ◌∙◌, map}
use Rattle.std.specs.Vec.Iter.{into_iter_items, into_iter_len}
use Rattle.gm_ast.specs.Tree.{stmt_of}
use Rattle.gm_dissect.proofs.Trees.{nothing_left}
use Rattle.gm_slices.specs.Nests.{nest_of}
use Rattle.gm_slices.specs.SliceWalks.{loops_behind}
use Rattle.gm_slices.proofs.slices.take_all.Goals as goal

pub loop-stmt-init : goal.loop-stmt-init
loop-stmt-init c = (refl, search rules)

pub loop-stmt-preserved : goal.loop-stmt-preserved
loop-stmt-preserved c =
    let at = c.loop-stmt.groups in
    let left : into_iter_len c.next.new.self ≡ length (into_iter_items c.next.new.self) = search rules in (
      c.in_ok-take.ensures (map stmt_of (into_iter_items c.next.new.self))
          ∙ ap (λ l. map stmt_of at.loops.items ++ loops_behind c.args.declarations.now (nest_of c.args.nest.now) at.fresh (map stmt_of at.done.items) (map stmt_of at.group.items) (map stmt_of at.waits.items) (map stmt_of l)) (sym c.in-Some.ensures.steps.0)
          ∙ c.loop-stmt.invariant.0,
      left,
    )

pub returns : goal.returns
returns c =
    let at = c.loop-stmt.groups in
    let first = c.args.groups.now in
    let empty : into_iter_items c.loop-stmt.stmt-iterator ≡ [] = nothing_left _ (sym c.loop-stmt.invariant.1 ∙ c.in-None.ensures.steps.0) in
    ap (λ l. map stmt_of at.loops.items ++ loops_behind c.args.declarations.now (nest_of c.args.nest.now) at.fresh (map stmt_of at.done.items) (map stmt_of at.group.items) (map stmt_of at.waits.items) (map stmt_of l)) (sym empty)
    ∙ c.loop-stmt.invariant.0
    ∙ ap (λ l. map stmt_of first.loops.items ++ loops_behind c.args.declarations.now (nest_of c.args.nest.now) first.fresh (map stmt_of first.done.items) (map stmt_of first.group.items) (map stmt_of first.waits.items) (map stmt_of l)) c.into_iter-stmt-iterator.ensures.into_iter_gives.0
