use Rattle.std.proofs.Common.{◌≡◌, ◌+◌, ◌≤◌, ◌∙◌, Ok, Err, List, length, map, subst, sym, ap, arith}
use Rattle.std.proofs.lemmas.List.{length-map}
use Rattle.gm_image.specs.declared.images.Handler as H
use Rattle.gm_image.specs.declared.lines.VertexLine.{VertexLine}
use Rattle.gm_image.specs.Views.{program, line, handler, block}
use Rattle.gm_image.specs.Rows.{outside, body_rows, block_rows, handled_lines}
use Rattle.gm_verify.specs.Checks.{Checks, all_handlers_rows}
use Rattle.gm_verify.specs.Scopes.{ShowsPuts}
use Rattle.gm_verify.proofs.Walking.{stopped}
use Rattle.gm_verify.proofs.Groups.{lines_in}
use Rattle.gm_verify.proofs.Parts.{body_of, walks-tail, block-handlers, block-body, block-room, block-broken}
use Rattle.gm_verify.proofs.blocks.check_block.Goals as goal

pub overflow_add-number : goal.overflow_add-number
overflow_add-number c =
    let room = block-handlers (program c.args.image.now) c.args.number (block c.args.one.now) c.requires in
    omega (arith, room)

pub overflow_add-next : goal.overflow_add-next
overflow_add-next c =
    let p = program c.args.image.now in
    let n = c.args.number in
    let b = block c.args.one.now in
    let checks = subst (λ (hs : List H.Handler). Checks p (n + 1) (all_handlers_rows (map handler hs)) (Ok c.in_ok-next.next)) c.as_slice.ensures (c.in_ok-next.ensures.checks c.new-puts.ensures) in
    let room = block-room p n c.in_ok-next.next b checks c.requires in
    omega (arith, room)

pub check_handlers-requires : goal.check_handlers-requires
check_handlers-requires c =
    let p = program c.args.image.now in
    let n = c.args.number in
    let b = block c.args.one.now in
    subst (λ (hs : List H.Handler). n + 1 + length (all_handlers_rows (map handler hs)) ≤ 4294967296) (sym c.as_slice.ensures) (block-handlers p n b c.requires)

pub check_body-requires : goal.check_body-requires
check_body-requires c =
    let p = program c.args.image.now in
    let n = c.args.number in
    let b = block c.args.one.now in
    let checks = subst (λ (hs : List H.Handler). Checks p (n + 1) (all_handlers_rows (map handler hs)) (Ok c.in_ok-next.next)) c.as_slice.ensures (c.in_ok-next.ensures.checks c.new-puts.ensures) in
    let room = block-room p n c.in_ok-next.next b checks c.requires in
    let long : length c.as_slice-2.result.now ≡ length b.body = ap length c.as_slice-2.ensures ∙ sym (length-map c.args.one.now.body line) in
    omega (arith, room, long)

pub returns-in_err-next : goal.returns-in_err-next
returns-in_err-next c =
    let p = program c.args.image.now in
    let n = c.args.number in
    let b = block c.args.one.now in
    let e = c.in_err-next.field-0.0 in
    let checks = subst (λ (hs : List H.Handler). Checks p (n + 1) (all_handlers_rows (map handler hs)) (Err e)) c.as_slice.ensures (c.in_err-next.ensures.checks c.new-puts.ensures) in
    stopped p n (block_rows b) c.from_residual.result e c.from_residual.ensures.1 (block-broken p n b e checks)

pub returns : goal.returns
returns c =
    let p = program c.args.image.now in
    let n = c.args.number in
    let b = block c.args.one.now in
    let checks = subst (λ (hs : List H.Handler). Checks p (n + 1) (all_handlers_rows (map handler hs)) (Ok c.in_ok-next.next)) c.as_slice.ensures (c.in_ok-next.ensures.checks c.new-puts.ensures) in
    let puts = subst (λ (hs : List H.Handler). ShowsPuts c.check_handlers.new.puts (lines_in (map handler hs))) c.as_slice.ensures (c.in_ok-next.ensures.puts c.new-puts.ensures) in
    walks-tail p n (block_rows b) (c.in_ok-next.next + 1) (body_of b) (block-body p n c.in_ok-next.next b checks) c.check_body.result
    (subst (λ (ls : List VertexLine). Checks p (c.in_ok-next.next + 1) (body_rows (handled_lines b) outside (map line ls)) c.check_body.result) c.as_slice-2.ensures
    (c.check_body.ensures (handled_lines b) puts))
