use Rattle.std.proofs.Common.{arith}
use Rattle.gm_batch_steps.proofs.TurnLists.{made-all, made-more, made-start}
use Rattle.gm_batch_steps.proofs.turns.turns_from.Goals as goal

pub loop-i-init : goal.loop-i-init
loop-i-init c = made-start c.args.context.now c.args.rows.now _ c.in_ok-from_slice.ensures.items c.new.ensures.items c.new-2.ensures.items c.new-3.ensures.items

pub push_turns-requires-clause-node : goal.push_turns-requires-clause-node
push_turns-requires-clause-node c = c.requires.nodes c.loop-i.i 0 c.loop-i-test.true

pub push_turns-requires-clause-storable : goal.push_turns-requires-clause-storable
push_turns-requires-clause-storable c = c.loop-i.invariant.storable

pub loop-i-preserved : goal.loop-i-preserved
loop-i-preserved c =
    made-more c.args.context.now c.args.rows.now c.loop-i.i c.loop-i.turns c.push_turns.new.turns c.loop-i.invariant c.loop-i-test.true
    c.in_ok-push_turns.ensures.rows c.in_ok-push_turns.ensures.sources c.in_ok-push_turns.ensures.targets c.in_ok-push_turns.ensures.edges c.in_ok-push_turns.ensures.storable

pub returns-clause-are : goal.returns-clause-are
returns-clause-are c =
    (made-all c.args.context.now c.args.rows.now c.loop-i.i c.loop-i.turns c.loop-i.invariant (omega (arith, c.loop-i-test.false)) c.requires.within c.requires.distinct).0

pub returns-clause-turns : goal.returns-clause-turns
returns-clause-turns c =
    (made-all c.args.context.now c.args.rows.now c.loop-i.i c.loop-i.turns c.loop-i.invariant (omega (arith, c.loop-i-test.false)) c.requires.within c.requires.distinct).1
