-- What one contribution comes to.
use Rattle.std.proofs.Common.{sym, subst, ◌∷◌, [], Bool}
use Rattle.gm_totals.specs.declared.entries.Accumulator.TheVariants.{Several}
use Rattle.gm_totals.specs.Pots.{Counts}
use Rattle.gm_totals.proofs.Joining.{several-first}
use Rattle.gm_totals.proofs.entries.Accumulator.new.Goals as goal

pub returns-then-several : goal.returns-then-several
returns-then-several c =
    let tuple = c.in_ok-tuple.tuple in
    subst (λ (several : Bool). Counts several c.args.reduce (Several tuple) (c.args.values.now ∷ [])) (sym c.if-several.true)
    (several-first c.args.reduce c.args.values.now tuple.items c.in_ok-tuple.ensures)

pub returns : goal.returns
returns c =
    subst (λ (several : Bool). Counts several c.args.reduce c.in_ok-total.total (c.args.values.now ∷ [])) (sym c.if-several.false) (c.in_ok-total.ensures c.args.values.now c.in_ok-value.ensures)
