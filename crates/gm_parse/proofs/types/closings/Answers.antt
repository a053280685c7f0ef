use Rattle.std.proofs.Common.{arith}
use Rattle.std.proofs.lemmas.List.{nil_from_length}
use Rattle.gm_parse.specs.Grammar.{rule}
use Rattle.gm_parse.specs.Factored.{factored}
use Rattle.gm_parse.specs.Nesting.{Closes}
use Rattle.gm_parse.proofs.Paths.{goes_first, goes_then}
use Rattle.gm_parse.proofs.NestingLaws.{at_end, closes_as, closes_nowhere, length_on, within_layered, within_more, within_none}
use Rattle.gm_parse.proofs.types.closings.Goals as goal

pub closing-init : goal.closing-init
unfolding rule factored
closing-init c = record { goes = λ r h. h; tree = λ us vs o t. record { middle = vs; openings = o; inner = t }; begun = omega arith; in_text = c.requires.1 }

pub returns-in_err-greater-clause-goes : goal.returns-in_err-greater-clause-goes
unfolding rule factored
returns-in_err-greater-clause-goes c = at_end c.from_residual.result c.from_residual.ensures.1 (c.closing.invariant.goes _ (closes_as (length_on _ _ c.in-Some.ensures.items) (Closes.more (goes_first c.in_err-greater.ensures.goes) Closes.fault)))

pub returns-in_err-graph-clause-goes : goal.returns-in_err-graph-clause-goes
unfolding rule factored
returns-in_err-graph-clause-goes c = at_end c.from_residual-in_err-graph.result c.from_residual-in_err-graph.ensures.1 (c.closing.invariant.goes _ (closes_as (length_on _ _ c.in-Some.ensures.items) (Closes.more (goes_then c.in_ok-greater.ensures.goes c.in_err-graph.ensures.goes) Closes.fault)))

pub returns-in_err-push-clause-goes : goal.returns-in_err-push-clause-goes
unfolding rule factored
returns-in_err-push-clause-goes c = at_end c.from_residual-in_err-push.result c.from_residual-in_err-push.ensures.1 (c.closing.invariant.goes _ (closes_as (length_on _ _ c.in-Some.ensures.items) (closes_nowhere _ _ _ _)))

pub closing-preserved : goal.closing-preserved
unfolding rule factored
closing-preserved c = record {
  goes = λ r h. c.closing.invariant.goes r (closes_as (length_on _ _ c.in-Some.ensures.items) (Closes.more (goes_then c.in_ok-greater.ensures.goes c.in_ok-graph.ensures.goes) h));
  tree = λ us vs o t. within_layered _ _ _ c.in_ok-push.ensures.items (within_more c.in-Some.ensures.items (c.closing.invariant.tree us vs o t) c.in_ok-greater.ensures.tree c.in_ok-graph.ensures.tree);
  begun = omega (arith, c.in_ok-greater.ensures.next.0, c.in_ok-graph.ensures.next.0, c.closing.invariant.begun);
  in_text = c.in_ok-graph.ensures.next.1 c.in_ok-greater.ensures.next.1;
}

pub returns-clause-goes : goal.returns-clause-goes
unfolding rule factored
returns-clause-goes c = c.closing.invariant.goes _ (closes_as (omega (arith, c.in_default.ensures.cases)) Closes.none)

pub returns-clause-tree : goal.returns-clause-tree
unfolding rule factored
returns-clause-tree c = λ us vs o t. within_none (nil_from_length _ (omega (arith, c.in_default.ensures.cases))) (c.closing.invariant.tree us vs o t)
