-- A target is asked for among all.
use Rattle.std.proofs.Common.{◌∙◌, ◌<◌, ◌≤◌, length, sym, arith}
use Rattle.gm_totals.proofs.Placing.{found-here, none-here, none-more}
use Rattle.gm_totals.proofs.totals.Totals.search.Goals as goal

pub returns-then-are_same-clause-found : goal.returns-then-are_same-clause-found
returns-then-are_same-clause-found c =
    let totals = c.args.self.now in
    let within : c.loop-k.k < length totals.pots.items = omega arith in
    found-here totals c.args.slots.now c.loop-k.k c.target_at.result.now within c.target_at.ensures (sym c.are_same.ensures ∙ c.if-are_same.true)

pub loop-k-preserved : goal.loop-k-preserved
loop-k-preserved c = none-more c.args.self.now c.args.slots.now c.loop-k.k c.target_at.result.now c.target_at.ensures (sym c.are_same.ensures ∙ c.if-are_same.false) c.loop-k.invariant

pub returns-clause-none : goal.returns-clause-none
returns-clause-none c = λ none.
    let past : length c.args.self.now.pots.items ≤ c.loop-k.k = omega arith in
    none-here c.args.self.now c.args.slots.now c.loop-k.k past c.loop-k.invariant
