use Rattle.std.proofs.Common.{◌+◌, ◌≡◌, ◌≤◌, List, ◌++◌, ◌∷◌, [], drop, take, map, length, subst, arith}
use Rattle.std.proofs.lemmas.List.{length-map}
use Rattle.gm_image.specs.Program.{Item}
use Rattle.gm_image.specs.Views.{program, input}
use Rattle.gm_image.specs.Rows.{InputRow}
use Rattle.gm_image.specs.Soundness.{broken_rule}
use Rattle.gm_verify.specs.Items.{Shows}
use Rattle.gm_verify.proofs.Declared.{Declares, declares-room, declares-next, declares-few, rest-at, before-at}
use Rattle.gm_verify.proofs.Lists.{length-take-le}
use Rattle.gm_verify.proofs.items.check_inputs.Goals as goal

pub next_line-requires : goal.next_line-requires
next_line-requires c =
    let xs = c.args.inputs.now in
    let i = c.loop-declared.declared-index in
    let p = program c.args.image.now in
    let room : c.args.number + length (map input xs) ≤ 4294967296 = omega (arith, c.requires, length-map xs input) in
    declares-room p c.args.number InputRow (map input xs) c.loop-declared.next c.loop-declared.seen (map input (take i xs)) (map input (drop (i + 1) xs)) (input c.declared-item.result)
    (subst (λ (ys : List Item). Declares p c.args.number InputRow (map input xs) c.loop-declared.next c.loop-declared.seen (map input (take i xs)) ys)
    (rest-at input xs i c.declared-item.result c.loop-declared-test.true c.declared-item.is) c.loop-declared.invariant) room

pub add-requires : goal.add-requires
add-requires c =
    let xs = c.args.inputs.now in
    let i = c.loop-declared.declared-index in
    let few : length (map input (take i xs)) ≤ 4294967296 = omega (arith, c.requires, length-map (take i xs) input, length-take-le i xs) in
    declares-few (program c.args.image.now) c.args.number InputRow (map input xs) c.loop-declared.next c.loop-declared.seen (map input (take i xs)) (map input (drop i xs)) c.loop-declared.invariant few

pub loop-declared-preserved : goal.loop-declared-preserved
loop-declared-preserved c =
    let xs = c.args.inputs.now in
    let i = c.loop-declared.declared-index in
    let p = program c.args.image.now in
    let x = c.declared-item.result in
    let all = map input xs in
    let before = map input (take i xs) in
    let later = map input (drop (i + 1) xs) in
    let seen = c.loop-declared.seen in
    let new = c.add.new.self in
    let here = subst (λ (ys : List Item). Declares p c.args.number InputRow all c.loop-declared.next seen before ys) (rest-at input xs i x c.loop-declared-test.true c.declared-item.is) c.loop-declared.invariant in
    let same = c.item-item.ensures in
    subst (λ (ys : List Item). Declares p c.args.number InputRow all c.in_ok-next.next new ys later) (before-at input xs i x c.loop-declared-test.true c.declared-item.is)
    (declares-next p c.args.number InputRow all c.loop-declared.next c.in_ok-next.next seen new before later (input x) c.input_rule-rule.result here
    (subst (λ (y : Item). c.input_rule-rule.result ≡ broken_rule p (InputRow before y)) same (c.input_rule-rule.ensures before here.shown)) c.in_ok-next.ensures.0 c.in_ok-next.ensures.1
    (subst (λ (y : Item). (b : List Item) → Shows seen b → Shows new (b ++ y ∷ [])) same c.in_ok-add.ensures))
