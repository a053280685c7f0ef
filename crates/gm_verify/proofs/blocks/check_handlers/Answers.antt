use Rattle.std.proofs.Common.{◌≡◌, ◌+◌, ◌≤◌, ◌++◌, Ok, Err, List, length, map, take, ap, subst, arith, rules}
use Rattle.gm_image.specs.declared.lines.VertexLine.{VertexLine}
use Rattle.gm_image.specs.Program.{Line}
use Rattle.gm_image.specs.Views.{program, line, handler}
use Rattle.gm_image.specs.Rows.{in_handlers, handler_rows}
use Rattle.gm_verify.specs.Checks.{Checks, all_handlers_rows}
use Rattle.gm_verify.specs.Scopes.{ShowsScope, ShowsPuts}
use Rattle.gm_verify.proofs.Walking.{stopped}
use Rattle.gm_verify.proofs.Groups.{groups-start, groups-next, groups-stop, groups-broken, groups-end, groups-puts, groups-room}
use Rattle.gm_verify.proofs.blocks.check_handlers.Goals as goal

pub next_line-requires : goal.next_line-requires
next_line-requires c =
    let p = program c.args.image.now in
    let n = c.args.number in
    let hs = c.args.handlers.now in
    let i = c.loop-handled.handled-index in
    let next = c.loop-handled.next in
    let kinds = c.loop-handled.kinds in
    let scope = c.loop-handled.scope in
    let first = c.args.puts.now in
    let puts = c.loop-handled.puts in
    let x = c.handled-item.result in
    let room : next + 1 + length x.lines ≤ 4294967296 = groups-room p n hs i next kinds scope first puts x c.loop-handled.invariant c.loop-handled-test.true c.handled-item.is c.requires in
    omega (arith, room)

pub check_handler-requires : goal.check_handler-requires
check_handler-requires c =
    let p = program c.args.image.now in
    let n = c.args.number in
    let hs = c.args.handlers.now in
    let i = c.loop-handled.handled-index in
    let next = c.loop-handled.next in
    let kinds = c.loop-handled.kinds in
    let scope = c.loop-handled.scope in
    let first = c.args.puts.now in
    let puts = c.loop-handled.puts in
    let x = c.handled-item.result in
    let room : next + 1 + length x.lines ≤ 4294967296 = groups-room p n hs i next kinds scope first puts x c.loop-handled.invariant c.loop-handled-test.true c.handled-item.is c.requires in
    let at : c.in_ok-first.first ≡ next + 1 = c.in_ok-first.ensures.1 in
    let long : length c.as_slice-lines.result.now ≡ length x.lines = ap length c.as_slice-lines.ensures in
    omega (arith, room, at, long)

pub loop-handled-init : goal.loop-handled-init
loop-handled-init c = groups-start (program c.args.image.now) c.args.number c.args.handlers.now c.new-kinds.result c.in_ok-scope.scope c.args.puts.now c.new-kinds.ensures.empty c.in_ok-scope.ensures

pub loop-handled-preserved : goal.loop-handled-preserved
loop-handled-preserved c =
    let p = program c.args.image.now in
    let n = c.args.number in
    let hs = c.args.handlers.now in
    let i = c.loop-handled.handled-index in
    let next = c.loop-handled.next in
    let kinds = c.loop-handled.kinds in
    let scope = c.loop-handled.scope in
    let first = c.args.puts.now in
    let puts = c.loop-handled.puts in
    let x = c.handled-item.result in
    let rule = c.handler_rule.result in
    let ruled = c.handler_rule.ensures (map handler (take i hs)) c.loop-handled.invariant.members in
    let after = c.in_ok-next.next in
    let mid = c.in_ok-first.first in
    let new = c.check_handler.new.scope in
    let more = c.check_handler.new.puts in
    let same = c.as_slice-lines.ensures in
    groups-next p n hs i next mid after kinds c.insert.new.self scope new first puts more x rule c.loop-handled.invariant c.loop-handled-test.true c.handled-item.is ruled
    c.in_ok-first.ensures.0 c.in_ok-first.ensures.1
    (subst (λ (ls : List VertexLine). after ≡ mid + length ls) same c.in_ok-next.ensures.counts)
    (λ k. c.in_ok-insert.ensures.updates.0 k)
    (subst (λ (ls : List VertexLine). (all before : List Line) → ShowsScope scope (in_handlers all before) → ShowsScope new (in_handlers all (before ++ map line ls))) same c.in_ok-next.ensures.scope)
    (subst (λ (ls : List VertexLine). (before : List Line) → ShowsPuts puts before → ShowsPuts more (before ++ map line ls)) same c.in_ok-next.ensures.puts)
    (subst (λ (ls : List VertexLine). (all before : List Line) → ShowsScope scope (in_handlers all before) → ShowsPuts puts before → Checks p mid (handler_rows all x.kind before (map line ls)) (Ok after)) same
    c.in_ok-next.ensures.checks)

pub returns-in_err-next : goal.returns-in_err-next
returns-in_err-next c =
    let p = program c.args.image.now in
    let n = c.args.number in
    let hs = c.args.handlers.now in
    let i = c.loop-handled.handled-index in
    let next = c.loop-handled.next in
    let kinds = c.loop-handled.kinds in
    let scope = c.loop-handled.scope in
    let first = c.args.puts.now in
    let puts = c.loop-handled.puts in
    let x = c.handled-item.result in
    let rule = c.handler_rule.result in
    let ruled = c.handler_rule.ensures (map handler (take i hs)) c.loop-handled.invariant.members in
    let mid = c.in_ok-first.first in
    let e = c.in_err-next.field-0.0 in
    record {
      checks = λ t.
          stopped p n (all_handlers_rows (map handler hs)) c.from_residual-in_err-next.result e c.from_residual-in_err-next.ensures.1
          (groups-broken p n hs i next mid kinds scope first puts x rule c.loop-handled.invariant c.loop-handled-test.true c.handled-item.is ruled
          c.in_ok-first.ensures.0 c.in_ok-first.ensures.1 e
          (subst (λ (ls : List VertexLine). (all before : List Line) → ShowsScope scope (in_handlers all before) → ShowsPuts puts before → Checks p mid (handler_rows all x.kind before (map line ls)) (Err e))
          c.as_slice-lines.ensures c.in_err-next.ensures.checks) t);
      puts = search rules;
    }

pub returns-in_err-first : goal.returns-in_err-first
returns-in_err-first c =
    let p = program c.args.image.now in
    let n = c.args.number in
    let hs = c.args.handlers.now in
    let i = c.loop-handled.handled-index in
    let next = c.loop-handled.next in
    let kinds = c.loop-handled.kinds in
    let scope = c.loop-handled.scope in
    let first = c.args.puts.now in
    let puts = c.loop-handled.puts in
    let x = c.handled-item.result in
    let rule = c.handler_rule.result in
    let ruled = c.handler_rule.ensures (map handler (take i hs)) c.loop-handled.invariant.members in
    let e = c.in_err-first.field-0.0 in
    record {
      checks = λ t.
          stopped p n (all_handlers_rows (map handler hs)) c.from_residual-in_err-first.result e c.from_residual-in_err-first.ensures.1
          (groups-stop p n hs i next kinds scope first puts x rule c.loop-handled.invariant c.loop-handled-test.true c.handled-item.is ruled e c.in_err-first.ensures t);
      puts = search rules;
    }

pub returns : goal.returns
returns c =
    let p = program c.args.image.now in
    let n = c.args.number in
    let hs = c.args.handlers.now in
    let i = c.loop-handled.handled-index in
    let next = c.loop-handled.next in
    let kinds = c.loop-handled.kinds in
    let scope = c.loop-handled.scope in
    let first = c.args.puts.now in
    let puts = c.loop-handled.puts in
    record {
      checks = groups-end p n hs i next kinds scope first puts c.loop-handled.invariant c.loop-handled-test.false;
      puts = groups-puts p n hs i next kinds scope first puts c.loop-handled.invariant c.loop-handled-test.false;
    }
