use Rattle.std.proofs.lemmas.Result.{IfOk-weaker}
use Rattle.gm_loader.proofs.Reading.{made, buildable}
use Rattle.gm_loader.proofs.loads.make_graph.Goals as goal

pub build-requires : goal.build-requires
build-requires c =
    let h = c.requires in
    let raw = made c.args.shape.now c.in_ok-shape_like.field-0 h.limits h.before c.args.tables c.into_raw-raw.result c.in_ok-shape_like.ensures h.held c.into_raw-raw.ensures in
    rw raw (buildable c.args.shape.now h.limits h.before c.args.tables h.held h.few_nodes h.few_edges)

pub returns : goal.returns
returns c =
    IfOk-weaker c.build.result _ _
    (λ graph built. λ limits before h.
    let raw = made c.args.shape.now c.in_ok-shape_like.field-0 limits before c.args.tables c.into_raw-raw.result c.in_ok-shape_like.ensures h c.into_raw-raw.ensures in
    rw (← raw) built)
    c.build.ensures.made
