use Rattle.std.proofs.Common.{◌+◌, ◌≡◌, ◌≤◌, List, ◌++◌, ◌∷◌, [], drop, take, map, length, subst, arith}
use Rattle.std.proofs.lemmas.List.{length-map}
use Rattle.gm_image.specs.Program.{Item}
use Rattle.gm_image.specs.Views.{program, output}
use Rattle.gm_image.specs.Rows.{OutputRow, rows_after}
use Rattle.gm_image.specs.Soundness.{broken_rule}
use Rattle.gm_verify.specs.Items.{Shows}
use Rattle.gm_verify.proofs.Declared.{Declares, declares-room, declares-next, declares-few, rest-at, before-at}
use Rattle.gm_verify.proofs.Walking.{stopped, walks-stop}
use Rattle.gm_verify.proofs.Lists.{length-take-le}
use Rattle.gm_verify.proofs.items.check_outputs.Goals as goal

pub next_line-requires : goal.next_line-requires
next_line-requires c =
    let xs = c.args.outputs.now in
    let i = c.loop-declared.declared-index in
    let p = program c.args.image.now in
    let room : c.args.number + length (map output xs) ≤ 4294967296 = omega (arith, c.requires, length-map xs output) in
    declares-room p c.args.number OutputRow (map output xs) c.loop-declared.next c.loop-declared.seen (map output (take i xs)) (map output (drop (i + 1) xs)) (output c.declared-item.result)
    (subst (λ (ys : List Item). Declares p c.args.number OutputRow (map output xs) c.loop-declared.next c.loop-declared.seen (map output (take i xs)) ys)
    (rest-at output xs i c.declared-item.result c.loop-declared-test.true c.declared-item.is) c.loop-declared.invariant) room

pub add-requires : goal.add-requires
add-requires c =
    let xs = c.args.outputs.now in
    let i = c.loop-declared.declared-index in
    let few : length (map output (take i xs)) ≤ 4294967296 = omega (arith, c.requires, length-map (take i xs) output, length-take-le i xs) in
    declares-few (program c.args.image.now) c.args.number OutputRow (map output xs) c.loop-declared.next c.loop-declared.seen (map output (take i xs)) (map output (drop i xs)) c.loop-declared.invariant few

pub loop-declared-preserved : goal.loop-declared-preserved
loop-declared-preserved c =
    let xs = c.args.outputs.now in
    let i = c.loop-declared.declared-index in
    let p = program c.args.image.now in
    let x = c.declared-item.result in
    let all = map output xs in
    let before = map output (take i xs) in
    let later = map output (drop (i + 1) xs) in
    let seen = c.loop-declared.seen in
    let new = c.add.new.self in
    let here = subst (λ (ys : List Item). Declares p c.args.number OutputRow all c.loop-declared.next seen before ys) (rest-at output xs i x c.loop-declared-test.true c.declared-item.is) c.loop-declared.invariant in
    let same = c.item-item.ensures in
    subst (λ (ys : List Item). Declares p c.args.number OutputRow all c.in_ok-next.next new ys later) (before-at output xs i x c.loop-declared-test.true c.declared-item.is)
    (declares-next p c.args.number OutputRow all c.loop-declared.next c.in_ok-next.next seen new before later (output x) c.output_rule-rule.result here
    (subst (λ (y : Item). c.output_rule-rule.result ≡ broken_rule p (OutputRow before y)) same (c.output_rule-rule.ensures before here.shown)) c.in_ok-next.ensures.0 c.in_ok-next.ensures.1
    (subst (λ (y : Item). (b : List Item) → Shows seen b → Shows new (b ++ y ∷ [])) same c.in_ok-add.ensures))

pub returns-in_err-next : goal.returns-in_err-next
returns-in_err-next c =
    let xs = c.args.outputs.now in
    let i = c.loop-declared.declared-index in
    let p = program c.args.image.now in
    let x = c.declared-item.result in
    let all = map output xs in
    let before = map output (take i xs) in
    let later = map output (drop (i + 1) xs) in
    let seen = c.loop-declared.seen in
    let here = subst (λ (ys : List Item). Declares p c.args.number OutputRow all c.loop-declared.next seen before ys) (rest-at output xs i x c.loop-declared-test.true c.declared-item.is) c.loop-declared.invariant in
    let same = c.item-item.ensures in
    stopped p c.args.number (rows_after OutputRow [] all) c.from_residual.result c.in_err-next.field-0.0 c.from_residual.ensures.1
    (walks-stop p c.args.number (rows_after OutputRow [] all) c.loop-declared.next (OutputRow before (output x)) (rows_after OutputRow (before ++ output x ∷ []) later) c.output_rule-rule.result here.walked
    (subst (λ (y : Item). c.output_rule-rule.result ≡ broken_rule p (OutputRow before y)) same (c.output_rule-rule.ensures before here.shown))
    c.in_err-next.field-0.0 c.in_err-next.ensures)
