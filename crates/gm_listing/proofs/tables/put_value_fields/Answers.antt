use Rattle.std.specs.Prelude.{slice_get}
use Rattle.gm_listing.specs.Listing.{value_field}
use Rattle.gm_listing.proofs.Writing.{writes_none, writes_on, writes_all}
use Rattle.gm_listing.proofs.tables.put_value_fields.Goals as goal

pub returns : goal.returns
returns c = writes_all (λ values. value_field c.args.graph.now.numbers (slice_get values c.args.node)) c.args.text.now.items c.loop-values.text.items c.args.properties.now c.loop-values.values-index
    c.loop-values.invariant c.loop-values-test.false

pub loop-values-init : goal.loop-values-init
loop-values-init c = writes_none (λ values. value_field c.args.graph.now.numbers (slice_get values c.args.node)) c.args.text.now.items c.args.properties.now

pub loop-values-preserved : goal.loop-values-preserved
loop-values-preserved c = writes_on (λ values. value_field c.args.graph.now.numbers (slice_get values c.args.node)) c.args.text.now.items c.loop-values.text.items c.put_value_field.new.text.items c.args.properties.now
    c.loop-values.values-index c.values-item.result c.loop-values.invariant c.loop-values-test.true c.values-item.is c.in_ok-put_value_field.ensures
