use Rattle.std.proofs.Common.{inl, inr, map, ◌≤◌, length}
use Rattle.std.specs.List.{zip}
use Rattle.std.proofs.lemmas.List.{length-map}
use Rattle.gm_listing.specs.Listing.{value_line}
use Rattle.gm_listing.proofs.Writing.{writes_none, writes_pair, writes_all, zip_ends}
use Rattle.gm_listing.proofs.scalars.put_scalars.Goals as goal

pub returns-then-i-values : goal.returns-then-i-values
returns-then-i-values c = writes_all (λ scalar. value_line c.args.graph.now.numbers scalar.0 scalar.1) c.args.text.now.items c.loop-i.text.items (zip (map (λ name. name.now) c.args.names.now) c.args.values.now) c.loop-i.i
    c.loop-i.invariant (zip_ends (map (λ name. name.now) c.args.names.now) c.args.values.now c.loop-i.i (inr c.if-i-values.true))

pub returns : goal.returns
returns c =
    let end : length (map (λ name. name.now) c.args.names.now) ≤ c.loop-i.i = rw length-map c.loop-i-test.false in
    writes_all (λ scalar. value_line c.args.graph.now.numbers scalar.0 scalar.1) c.args.text.now.items c.loop-i.text.items (zip (map (λ name. name.now) c.args.names.now) c.args.values.now) c.loop-i.i
    c.loop-i.invariant (zip_ends (map (λ name. name.now) c.args.names.now) c.args.values.now c.loop-i.i (inl end))

pub loop-i-init : goal.loop-i-init
loop-i-init c = writes_none (λ scalar. value_line c.args.graph.now.numbers scalar.0 scalar.1) c.args.text.now.items (zip (map (λ name. name.now) c.args.names.now) c.args.values.now)

pub loop-i-preserved : goal.loop-i-preserved
loop-i-preserved c = writes_pair (λ scalar. value_line c.args.graph.now.numbers scalar.0 scalar.1) (λ name. name.now) c.args.text.now.items c.loop-i.text.items c.put_value_line.new.text.items
    c.args.names.now c.args.values.now c.loop-i.i _ _ c.loop-i.invariant c.loop-i-test.true c.if-i-values.false c.in_ok-put_value_line.ensures
