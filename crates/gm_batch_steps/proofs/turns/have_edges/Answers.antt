use Rattle.std.proofs.Common.{◌∙◌, ◌++◌, ◌∷◌, ℕ, [], ap, arith, map, subst}
use Rattle.std.specs.Prelude.{All, nat_lt}
use Rattle.std.proofs.lemmas.List.{take_all}
use Rattle.std.proofs.lemmas.List.Elements.{All-nil}
use Rattle.gm_batch_steps.specs.Turns.{IsInGraph, has_edges}
use Rattle.gm_batch_steps.proofs.TurnLists.{all-more, map-more}
use Rattle.gm_batch_steps.proofs.turns.have_edges.Goals as goal

pub loop-i-init : goal.loop-i-init
loop-i-init c = (c.in_ok-flags.ensures.items, All-nil (IsInGraph c.args.context.now))

pub loop-i-preserved : goal.loop-i-preserved
loop-i-preserved c =
    let rows = c.args.rows.now in
    let i = c.loop-i.i in
    let flags = c.loop-i.flags.items in (
      map-more (has_edges c.args.context.now) rows i flags _ c.loop-i-test.true c.loop-i.invariant.0 (c.in_ok-push.ensures.items ∙ ap (λ d. flags ++ nat_lt 0 d ∷ []) c.out_degree.ensures.degree),
      all-more (IsInGraph c.args.context.now) rows i c.loop-i-test.true c.loop-i.invariant.1 (omega (arith, c.if-node-nodes.false, c.node_count-nodes.ensures.count)),
    )

pub returns-clause-flags : goal.returns-clause-flags
returns-clause-flags c = c.loop-i.invariant.0 ∙ ap (map (has_edges c.args.context.now)) (take_all c.loop-i.i c.args.rows.now (omega (arith, c.loop-i-test.false)))

pub returns-clause-nodes : goal.returns-clause-nodes
returns-clause-nodes c =
    let P : ℕ → Type 0 = IsInGraph c.args.context.now in
    subst (λ l. All P l) (take_all c.loop-i.i c.args.rows.now (omega (arith, c.loop-i-test.false))) c.loop-i.invariant.1
