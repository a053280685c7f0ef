use Rattle.std.proofs.Common.{arith}
use Rattle.gm_mtx.proofs.Built.{made, raw_buildable, stands, has_columns}
use Rattle.gm_mtx.proofs.loads.consume_mtx.Goals as goal

pub build-requires : goal.build-requires
build-requires c =
    let h = c.in_ok-matrix.ensures.ok in
    let raw = made c.args.shape.now c.in_ok-shape_like.field-0 c.args.limits.now c.deref.result.now c.in_ok-matrix.matrix.size c.in_ok-matrix.matrix.tables c.in_ok-raw.raw c.in_ok-shape_like.ensures h c.in_ok-raw.ensures in
    raw_buildable c.args.shape.now c.args.limits.now c.deref.result.now c.in_ok-matrix.matrix.size c.in_ok-matrix.matrix.tables c.in_ok-raw.raw h c.requires.few_nodes c.requires.few_edges raw

pub returns-clause-graph : goal.returns-clause-graph
returns-clause-graph c =
    let h = c.in_ok-matrix.ensures.ok in
    let raw = made c.args.shape.now c.in_ok-shape_like.field-0 c.args.limits.now c.deref.result.now c.in_ok-matrix.matrix.size c.in_ok-matrix.matrix.tables c.in_ok-raw.raw c.in_ok-shape_like.ensures h c.in_ok-raw.ensures in
    rw (← c.deref.ensures.value) (stands c.args.shape.now c.args.limits.now c.deref.result.now c.in_ok-matrix.matrix.size c.in_ok-matrix.matrix.tables c.in_ok-raw.raw c.in_ok-build.field-0 (rw c.deref.ensures.value (omega arith)) h raw c.in_ok-build.ensures.made)

pub returns-clause-columns : goal.returns-clause-columns
returns-clause-columns c =
    let h = c.in_ok-matrix.ensures.ok in
    let raw = made c.args.shape.now c.in_ok-shape_like.field-0 c.args.limits.now c.deref.result.now c.in_ok-matrix.matrix.size c.in_ok-matrix.matrix.tables c.in_ok-raw.raw c.in_ok-shape_like.ensures h c.in_ok-raw.ensures in
    has_columns c.args.shape.now (record { size = c.in_ok-matrix.matrix.size; entries = h.entries }) c.in_ok-raw.raw c.in_ok-build.field-0 raw c.in_ok-build.ensures.made
