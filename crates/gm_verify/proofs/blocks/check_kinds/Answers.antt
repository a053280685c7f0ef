use Rattle.std.proofs.Common.{◌≡◌, ◌+◌, drop, length, map, arith}
use Rattle.std.proofs.lemmas.List.{length-map}
use Rattle.gm_image.specs.Views.{program}
use Rattle.gm_image.specs.Rows.{KindRow}
use Rattle.gm_verify.proofs.Sections.{mapped-at, mapped-end}
use Rattle.gm_verify.proofs.Walking.{walks-start, walks-next, walks-stop, walks-end, walks-room, stopped}
use Rattle.gm_verify.proofs.blocks.check_kinds.Goals as goal

pub next_line-requires : goal.next_line-requires
next_line-requires c =
    let p = program c.args.image.now in
    let ks = c.args.kinds.now in
    let i = c.loop-kind.kind-index in
    let x = c.kind-item.result in
    let here = mapped-at p c.args.number (map KindRow ks) c.loop-kind.next KindRow ks i x c.loop-kind-test.true c.kind-item.is c.loop-kind.invariant in
    let long : length (map KindRow ks) ≡ length ks = length-map ks KindRow in
    walks-room p c.args.number (map KindRow ks) c.loop-kind.next (KindRow x) (map KindRow (drop (i + 1) ks)) here (omega (arith, long, c.requires))

pub loop-kind-init : goal.loop-kind-init
loop-kind-init c = walks-start (program c.args.image.now) c.args.number (map KindRow c.args.kinds.now)

pub loop-kind-preserved : goal.loop-kind-preserved
loop-kind-preserved c =
    let p = program c.args.image.now in
    let ks = c.args.kinds.now in
    let i = c.loop-kind.kind-index in
    let x = c.kind-item.result in
    let here = mapped-at p c.args.number (map KindRow ks) c.loop-kind.next KindRow ks i x c.loop-kind-test.true c.kind-item.is c.loop-kind.invariant in
    walks-next p c.args.number (map KindRow ks) c.loop-kind.next c.in_ok-next.next (KindRow x) (map KindRow (drop (i + 1) ks)) c.kind_rule.result here
    c.kind_rule.ensures c.in_ok-next.ensures.0 c.in_ok-next.ensures.1

pub returns-in_err-next : goal.returns-in_err-next
returns-in_err-next c =
    let p = program c.args.image.now in
    let ks = c.args.kinds.now in
    let i = c.loop-kind.kind-index in
    let x = c.kind-item.result in
    let here = mapped-at p c.args.number (map KindRow ks) c.loop-kind.next KindRow ks i x c.loop-kind-test.true c.kind-item.is c.loop-kind.invariant in
    stopped p c.args.number (map KindRow ks) c.from_residual.result c.in_err-next.field-0.0 c.from_residual.ensures.1
    (walks-stop p c.args.number (map KindRow ks) c.loop-kind.next (KindRow x) (map KindRow (drop (i + 1) ks)) c.kind_rule.result here
    c.kind_rule.ensures c.in_err-next.field-0.0 c.in_err-next.ensures)

pub returns : goal.returns
returns c =
    let p = program c.args.image.now in
    let ks = c.args.kinds.now in
    walks-end p c.args.number (map KindRow ks) c.loop-kind.next
    (mapped-end p c.args.number (map KindRow ks) c.loop-kind.next KindRow ks c.loop-kind.kind-index c.loop-kind-test.false c.loop-kind.invariant)
