use Rattle.std.proofs.Common.{◌∙◌, ◌++◌, ap, sym}
use Rattle.std.proofs.lemmas.List.Folds.{flat_map-map}
use Rattle.gm_listing.specs.Listing.{name_field}
use Rattle.gm_listing.proofs.Writing.{writes_none, writes_at, writes_all}
use Rattle.gm_listing.proofs.tables.put_names.Goals as goal

pub returns : goal.returns
returns c = writes_all (λ name. name_field name.now) c.args.text.now.items c.loop-name.text.items c.args.names.now c.loop-name.name-index c.loop-name.invariant c.loop-name-test.false
    ∙ ap (λ all. c.args.text.now.items ++ all) (sym (flat_map-map name_field (λ name. name.now) c.args.names.now))

pub loop-name-init : goal.loop-name-init
loop-name-init c = writes_none (λ name. name_field name.now) c.args.text.now.items c.args.names.now

pub loop-name-preserved : goal.loop-name-preserved
loop-name-preserved c = writes_at (λ name. name_field name.now) c.args.text.now.items c.loop-name.text.items c.put_name_field.new.text.items c.args.names.now c.loop-name.name-index _
    c.loop-name.invariant c.loop-name-test.true c.in_ok-put_name_field.ensures
