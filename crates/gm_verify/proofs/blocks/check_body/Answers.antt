use Rattle.std.proofs.Common.{◌+◌, ◌∙◌, Bool, List, map, drop, ap, subst, refl, arith}
use Rattle.std.proofs.lemmas.List.{length-map, take_rest}
use Rattle.gm_image.specs.declared.lines.VertexLine.{VertexLine}
use Rattle.gm_image.specs.Views.{program, line}
use Rattle.gm_image.specs.Rows.{outside, around_next, body_rows}
use Rattle.gm_verify.specs.Scopes.{ShowsScope}
use Rattle.gm_verify.proofs.Walking.{stopped}
use Rattle.gm_verify.proofs.Bodies.{bodies-start, bodies-rule, bodies-next, bodies-stop, bodies-end}
use Rattle.gm_verify.proofs.blocks.check_body.Goals as goal

pub slice_bounds-spot-count : goal.slice_bounds-spot-count
slice_bounds-spot-count c = omega (arith, c.in_ok-insides.ensures.long, c.deref.ensures.len, length-map c.args.lines.now line)

pub next_line-requires : goal.next_line-requires
next_line-requires c = omega (arith, c.loop-index.invariant.at, c.requires)

pub loop-index-init : goal.loop-index-init
loop-index-init c = record {
  at = omega arith;
  held = λ earlier t. bodies-start (program c.args.image.now) c.args.number c.args.lines.now c.outside-scope.result c.args.puts.now earlier c.outside-scope.ensures t;
}

pub loop-index-preserved : goal.loop-index-preserved
loop-index-preserved c = record {
  at = omega (arith, c.loop-index.invariant.at, c.in_ok-next.ensures.1);
  held = λ earlier t.
      let p = program c.args.image.now in
      let n = c.args.number in
      let xs = c.args.lines.now in
      let i = c.loop-index.index in
      let next = c.loop-index.next in
      let now = c.loop-index.scope in
      let puts = c.loop-index.puts in
      let x = c.index-lines-index.result in
      let rule = c.in_ok-rule.rule in
      let b = c.loop-index.invariant.held earlier t in
      bodies-next p n xs i next c.in_ok-next.next now c.advance.new.self puts c.add_put.new.firsts earlier x rule b c.loop-index-test.true c.index-lines-index.is
      (bodies-rule p n xs i next now puts earlier x rule c.in_ok-insides.insides.items _ b c.loop-index-test.true c.index-lines-index.is c.in_ok-insides.ensures
      c.in_ok-rule.ensures (take_rest c.deref.result.now (i + 1) ∙ ap (λ (bs : List Bool). drop (i + 1) bs) c.deref.ensures.value) refl)
      c.in_ok-next.ensures.0 c.in_ok-next.ensures.1
      (λ a s. subst (λ (ls : List VertexLine). ShowsScope c.advance.new.self (around_next a (line x) (map line ls))) (take_rest xs (i + 1)) (c.in_ok-advance.ensures a s))
      c.in_ok-add_put.ensures;
}

pub returns-in_err-next : goal.returns-in_err-next
returns-in_err-next c = λ earlier t.
    let p = program c.args.image.now in
    let n = c.args.number in
    let xs = c.args.lines.now in
    let i = c.loop-index.index in
    let next = c.loop-index.next in
    let now = c.loop-index.scope in
    let puts = c.loop-index.puts in
    let x = c.index-lines-index.result in
    let rule = c.in_ok-rule.rule in
    let b = c.loop-index.invariant.held earlier t in
    stopped p n (body_rows earlier outside (map line xs)) c.from_residual-in_err-next.result c.in_err-next.field-0.0 c.from_residual-in_err-next.ensures.1
    (bodies-stop p n xs i next now puts earlier x rule b c.loop-index-test.true c.index-lines-index.is
    (bodies-rule p n xs i next now puts earlier x rule c.in_ok-insides.insides.items _ b c.loop-index-test.true c.index-lines-index.is c.in_ok-insides.ensures
    c.in_ok-rule.ensures (take_rest c.deref.result.now (i + 1) ∙ ap (λ (bs : List Bool). drop (i + 1) bs) c.deref.ensures.value) refl)
    c.in_err-next.field-0.0 c.in_err-next.ensures)

pub returns : goal.returns
returns c = λ earlier t.
    bodies-end (program c.args.image.now) c.args.number c.args.lines.now c.loop-index.index c.loop-index.next c.loop-index.scope c.loop-index.puts earlier
    (c.loop-index.invariant.held earlier t) c.loop-index-test.false
