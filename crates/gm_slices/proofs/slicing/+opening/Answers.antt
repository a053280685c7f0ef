use Rattle.std.proofs.Common.{◌≡◌, rules, [], ◌++◌, length, refl, sym, ap, ◌∙◌, map, append-nil}
use Rattle.std.specs.Vec.Iter.{into_iter_items, into_iter_len}
use Rattle.gm_ast.specs.Program.{sequence}
use Rattle.gm_ast.specs.Tree.{stmt_of}
use Rattle.gm_dissect.proofs.Trees.{stmt_of-Block, nothing_left, ok-then}
use Rattle.gm_cut.specs.Slices.{statements_of}
use Rattle.gm_slices.proofs.SliceWalks.{opened-more}
use Rattle.gm_slices.proofs.slicing.+opening.Goals as goal

pub open_all-loop-stmt-init : goal.open_all-loop-stmt-init
open_all-loop-stmt-init t c = (refl, search rules)

pub open_all-loop-stmt-preserved : goal.open_all-loop-stmt-preserved
open_all-loop-stmt-preserved t c =
    let before = c.loop-stmt in
    let xs = map stmt_of before.behind.items in
    let left : into_iter_len c.next.new.self ≡ length (into_iter_items c.next.new.self) = search rules in (
      opened-more xs (map stmt_of c.in_ok-behind.behind.items) (statements_of (stmt_of c.in-Some.stmt)) (statements_of (sequence (map stmt_of (into_iter_items c.next.new.self)))) _
          c.in_ok-behind.ensures (ap (λ l. xs ++ statements_of (sequence (map stmt_of l))) (sym c.in-Some.ensures.steps.0) ∙ before.invariant.0),
      left,
    )

pub open_all-returns : goal.open_all-returns
open_all-returns t c =
    let last = c.loop-stmt in
    let xs = map stmt_of last.behind.items in
    let empty : into_iter_items last.stmt-iterator ≡ [] = nothing_left _ (sym last.invariant.1 ∙ c.in-None.ensures.steps.0) in
    sym (append-nil xs) ∙ ap (λ l. xs ++ statements_of (sequence (map stmt_of l))) (sym empty) ∙ last.invariant.0
    ∙ ap (λ l. map stmt_of c.args.list.items ++ statements_of (sequence (map stmt_of l))) c.into_iter-stmt-iterator.ensures.into_iter_gives.0

pub open-returns-in-Block : goal.open-returns-in-Block
open-returns-in-Block t c =
    let block : stmt_of c.args.s ≡ sequence (map stmt_of c.in-Block.stmts.items) = ap stmt_of c.in-Block.is ∙ stmt_of-Block c.in-Block.stmts in
    ok-then c.open_all.result c.open_all.ensures (λ r e. e ∙ ap (λ s. map stmt_of c.args.list.items ++ statements_of s) (sym block))

pub open-returns-in_default : goal.open-returns-in_default
open-returns-in_default t c = c.push_other.ensures
