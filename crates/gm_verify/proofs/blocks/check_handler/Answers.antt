use Rattle.std.proofs.Common.{◌+◌, ◌∙◌, Bool, List, map, drop, ap, refl, arith, rules}
use Rattle.std.proofs.lemmas.List.{length-map, take_rest}
use Rattle.gm_image.specs.Views.{program, line}
use Rattle.gm_image.specs.Rows.{handler_rows}
use Rattle.gm_verify.specs.declared.scopes.Scope.{Scope}
use Rattle.gm_verify.proofs.Walking.{stopped}
use Rattle.gm_verify.proofs.Handled.{handles-start, scope-more, handles-rule, handles-next, handles-stop, handles-end, handles-scope, handles-puts}
use Rattle.gm_verify.proofs.blocks.check_handler.Goals as goal

pub slice_bounds-spot-count : goal.slice_bounds-spot-count
slice_bounds-spot-count c = omega (arith, c.in_ok-insides.ensures.long, c.deref.ensures.len, length-map c.args.lines.now line)

pub next_line-requires : goal.next_line-requires
next_line-requires c = omega (arith, c.loop-index.invariant.at, c.requires)

pub loop-index-init : goal.loop-index-init
loop-index-init c = handles-start (program c.args.image.now) c.args.number c.args.lines.now c.args.kind c.args.scope.now c.args.puts.now

pub loop-index-preserved : goal.loop-index-preserved
loop-index-preserved c =
    let p = program c.args.image.now in
    let n = c.args.number in
    let xs = c.args.lines.now in
    let kind = c.args.kind in
    let i = c.loop-index.index in
    let next = c.loop-index.next in
    let old = c.args.scope.now in
    let now = c.loop-index.scope in
    let first = c.args.puts.now in
    let puts = c.loop-index.puts in
    let x = c.index-lines-index.result in
    let rule = c.in_ok-rule.rule in
    let new : Scope = record now { firsts = c.add_fold.new.firsts } in
    handles-next p n xs kind i next c.in_ok-next.next old now new first puts c.add_put.new.firsts x rule c.loop-index.invariant c.loop-index-test.true c.index-lines-index.is
    (handles-rule p n xs kind i next old now first puts x rule c.in_ok-insides.insides.items _ c.loop-index.invariant c.loop-index-test.true c.index-lines-index.is c.in_ok-insides.ensures
    c.in_ok-rule.ensures (take_rest c.deref.result.now (i + 1) ∙ ap (λ (bs : List Bool). drop (i + 1) bs) c.deref.ensures.value) refl)
    c.in_ok-next.ensures.0 c.in_ok-next.ensures.1
    (scope-more now new (line x) refl refl refl c.in_ok-add_fold.ensures) c.in_ok-add_put.ensures

pub returns-in_err-next : goal.returns-in_err-next
returns-in_err-next c =
    let p = program c.args.image.now in
    let n = c.args.number in
    let xs = c.args.lines.now in
    let kind = c.args.kind in
    let i = c.loop-index.index in
    let next = c.loop-index.next in
    let old = c.args.scope.now in
    let now = c.loop-index.scope in
    let first = c.args.puts.now in
    let puts = c.loop-index.puts in
    let x = c.index-lines-index.result in
    let rule = c.in_ok-rule.rule in
    record {
      checks = λ all before s t.
          stopped p n (handler_rows all kind before (map line xs)) c.from_residual-in_err-next.result c.in_err-next.field-0.0 c.from_residual-in_err-next.ensures.1
          (handles-stop p n xs kind i next old now first puts x rule c.loop-index.invariant c.loop-index-test.true c.index-lines-index.is
          (handles-rule p n xs kind i next old now first puts x rule c.in_ok-insides.insides.items _ c.loop-index.invariant c.loop-index-test.true c.index-lines-index.is c.in_ok-insides.ensures
          c.in_ok-rule.ensures (take_rest c.deref.result.now (i + 1) ∙ ap (λ (bs : List Bool). drop (i + 1) bs) c.deref.ensures.value) refl)
          c.in_err-next.field-0.0 c.in_err-next.ensures all before s t);
      counts = search rules;
      scope = search rules;
      puts = search rules;
    }

pub returns : goal.returns
returns c = record {
  checks = handles-end (program c.args.image.now) c.args.number c.args.lines.now c.args.kind c.loop-index.index c.loop-index.next c.args.scope.now c.loop-index.scope c.args.puts.now c.loop-index.puts
      c.loop-index.invariant c.loop-index-test.false;
  counts = omega (arith, c.loop-index.invariant.at, c.loop-index-test.false);
  scope = handles-scope (program c.args.image.now) c.args.number c.args.lines.now c.args.kind c.loop-index.index c.loop-index.next c.args.scope.now c.loop-index.scope c.args.puts.now c.loop-index.puts
      c.loop-index.invariant c.loop-index-test.false;
  puts = handles-puts (program c.args.image.now) c.args.number c.args.lines.now c.args.kind c.loop-index.index c.loop-index.next c.args.scope.now c.loop-index.scope c.args.puts.now c.loop-index.puts
      c.loop-index.invariant c.loop-index-test.false;
}
