use Rattle.std.proofs.Common.{◌∙◌, ap, arith, map, subst, sym}
use Rattle.std.proofs.lemmas.List.{take_all}
use Rattle.gm_columns.specs.Columns.{CanHold}
use Rattle.gm_machine.specs.Expressions.{edge_value_at}
use Rattle.gm_batch_steps.specs.Turns.{edges_at}
use Rattle.gm_batch_steps.proofs.TurnLists.{edge-more}
use Rattle.gm_batch_steps.proofs.turn_values.edge_values.Goals as goal

pub loop-i-init : goal.loop-i-init
loop-i-init c = (c.new-values.ensures.vtype, c.new-values.ensures.no_rows)

pub push-requires : goal.push-requires
push-requires c = subst (λ t. CanHold t c.edge_value-value.result) (sym c.loop-i.invariant.0) (c.can_hold.ensures c.if-not-can_hold.false)

pub loop-i-preserved : goal.loop-i-preserved
loop-i-preserved c = (
  c.in_ok-push.ensures.vtype ∙ c.loop-i.invariant.0,
  edge-more c.args.graph.now c.args.column c.args.edges.now c.loop-i.i c.edge_value-value.result c.loop-i.values.values _ c.loop-i-test.true c.loop-i.invariant.1
      c.edge_value-value.ensures c.in_ok-push.ensures.added,
)

pub returns : goal.returns
returns c =
    c.loop-i.invariant.1
    ∙ ap (λ es. map (λ edge. edge_value_at c.args.graph.now c.args.column edge) (edges_at c.args.graph.now es)) (take_all c.loop-i.i c.args.edges.now (omega (arith, c.loop-i-test.false)))
