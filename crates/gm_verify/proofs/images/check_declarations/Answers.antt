use Rattle.std.proofs.Common.{◌≡◌, ◌+◌, ◌∷◌, ◌∙◌, [], Ok, Err, List, length, map, subst, sym, ap, arith}
use Rattle.std.proofs.lemmas.List.{length-map}
use Rattle.gm_image.specs.declared.images.InputItem.{InputItem}
use Rattle.gm_image.specs.declared.images.OutputItem.{OutputItem}
use Rattle.gm_image.specs.Views.{program, input, output}
use Rattle.gm_image.specs.Rows.{Plain, NameRow, InputRow, OutputRow, ResultRow, rows_after}
use Rattle.gm_verify.specs.Checks.{Checks}
use Rattle.gm_verify.specs.Tails.{from_globals, from_inputs, from_outputs, from_result}
use Rattle.gm_verify.proofs.Wholes.{behind-version, behind-fits, behind-room, line-breaks, section-breaks, halted, at-inputs, at-outputs, at-result, at-globals, declared-fits}
use Rattle.gm_verify.proofs.images.check_declarations.Goals as goal

pub overflow_add-header : goal.overflow_add-header
overflow_add-header c = omega (arith, c.in_ok-header.ensures.1)

pub check_inputs-requires : goal.check_inputs-requires
check_inputs-requires c =
    let p = program c.args.image.now in
    let reached = at-inputs p c.in_ok-header.header c.name_rule.result c.name_rule.ensures c.in_ok-header.ensures.0 c.in_ok-header.ensures.1 in
    let first = c.in_ok-header.header + 1 in
    let fits = declared-fits p first InputRow p.inputs (Plain ∷ from_outputs p) reached c.requires in
    let long : length c.as_slice.result.now ≡ length p.inputs = ap length c.as_slice.ensures ∙ sym (length-map c.args.image.now.inputs input) in
    omega (arith, fits, long)

pub overflow_add-outputs : goal.overflow_add-outputs
overflow_add-outputs c =
    let p = program c.args.image.now in
    let reached = at-inputs p c.in_ok-header.header c.name_rule.result c.name_rule.ensures c.in_ok-header.ensures.0 c.in_ok-header.ensures.1 in
    let first = c.in_ok-header.header + 1 in
    let inputs = subst (λ (xs : List InputItem). Checks p first (rows_after InputRow [] (map input xs)) (Ok c.in_ok-outputs.outputs)) c.as_slice.ensures c.in_ok-outputs.ensures in
    let further = at-outputs p first c.in_ok-outputs.outputs reached inputs in
    let fits = behind-fits p (c.in_ok-outputs.outputs + 1) (from_outputs p) further c.requires in
    omega (arith, fits)

pub check_outputs-requires : goal.check_outputs-requires
check_outputs-requires c =
    let p = program c.args.image.now in
    let reached = at-inputs p c.in_ok-header.header c.name_rule.result c.name_rule.ensures c.in_ok-header.ensures.0 c.in_ok-header.ensures.1 in
    let first = c.in_ok-header.header + 1 in
    let inputs = subst (λ (xs : List InputItem). Checks p first (rows_after InputRow [] (map input xs)) (Ok c.in_ok-outputs.outputs)) c.as_slice.ensures c.in_ok-outputs.ensures in
    let further = at-outputs p first c.in_ok-outputs.outputs reached inputs in
    let second = c.in_ok-outputs.outputs + 1 in
    let fits = declared-fits p second OutputRow p.outputs (from_result p) further c.requires in
    let long : length c.as_slice-2.result.now ≡ length p.outputs = ap length c.as_slice-2.ensures ∙ sym (length-map c.args.image.now.outputs output) in
    omega (arith, fits, long)

pub next_line-requires-2 : goal.next_line-requires-2
next_line-requires-2 c =
    let p = program c.args.image.now in
    let reached = at-inputs p c.in_ok-header.header c.name_rule.result c.name_rule.ensures c.in_ok-header.ensures.0 c.in_ok-header.ensures.1 in
    let first = c.in_ok-header.header + 1 in
    let inputs = subst (λ (xs : List InputItem). Checks p first (rows_after InputRow [] (map input xs)) (Ok c.in_ok-outputs.outputs)) c.as_slice.ensures c.in_ok-outputs.ensures in
    let further = at-outputs p first c.in_ok-outputs.outputs reached inputs in
    let second = c.in_ok-outputs.outputs + 1 in
    let outputs = subst (λ (xs : List OutputItem). Checks p second (rows_after OutputRow [] (map output xs)) (Ok c.in_ok-returned.returned)) c.as_slice-2.ensures c.in_ok-returned.ensures in
    let last = at-result p second c.in_ok-returned.returned further outputs in
    behind-room p c.in_ok-returned.returned ResultRow (Plain ∷ from_globals p) last c.requires

pub overflow_add-result : goal.overflow_add-result
overflow_add-result c =
    let p = program c.args.image.now in
    let reached = at-inputs p c.in_ok-header.header c.name_rule.result c.name_rule.ensures c.in_ok-header.ensures.0 c.in_ok-header.ensures.1 in
    let first = c.in_ok-header.header + 1 in
    let inputs = subst (λ (xs : List InputItem). Checks p first (rows_after InputRow [] (map input xs)) (Ok c.in_ok-outputs.outputs)) c.as_slice.ensures c.in_ok-outputs.ensures in
    let further = at-outputs p first c.in_ok-outputs.outputs reached inputs in
    let second = c.in_ok-outputs.outputs + 1 in
    let outputs = subst (λ (xs : List OutputItem). Checks p second (rows_after OutputRow [] (map output xs)) (Ok c.in_ok-returned.returned)) c.as_slice-2.ensures c.in_ok-returned.ensures in
    let last = at-result p second c.in_ok-returned.returned further outputs in
    let after = at-globals p c.in_ok-returned.returned c.in_ok-globals.globals c.result_rule.result last c.result_rule.ensures c.in_ok-globals.ensures.0 c.in_ok-globals.ensures.1 in
    let fits = behind-fits p (c.in_ok-globals.globals + 1) (from_globals p) after c.requires in
    omega (arith, fits)

pub returns-in_err-header : goal.returns-in_err-header
returns-in_err-header c =
    let p = program c.args.image.now in
    halted p (from_globals p) c.from_residual.result c.in_err-header.field-0.0 c.from_residual.ensures.1
    (line-breaks p 2 NameRow (Plain ∷ from_inputs p) c.name_rule.result (behind-version p) c.name_rule.ensures c.in_err-header.field-0.0 c.in_err-header.ensures)

pub returns-in_err-outputs : goal.returns-in_err-outputs
returns-in_err-outputs c =
    let p = program c.args.image.now in
    let reached = at-inputs p c.in_ok-header.header c.name_rule.result c.name_rule.ensures c.in_ok-header.ensures.0 c.in_ok-header.ensures.1 in
    let first = c.in_ok-header.header + 1 in
    let e = c.in_err-outputs.field-0.0 in
    let inputs = subst (λ (xs : List InputItem). Checks p first (rows_after InputRow [] (map input xs)) (Err e)) c.as_slice.ensures c.in_err-outputs.ensures in
    halted p (from_globals p) c.from_residual-in_err-outputs.result e c.from_residual-in_err-outputs.ensures.1
    (section-breaks p first (rows_after InputRow [] p.inputs) (Plain ∷ from_outputs p) reached e inputs)

pub returns-in_err-returned : goal.returns-in_err-returned
returns-in_err-returned c =
    let p = program c.args.image.now in
    let reached = at-inputs p c.in_ok-header.header c.name_rule.result c.name_rule.ensures c.in_ok-header.ensures.0 c.in_ok-header.ensures.1 in
    let first = c.in_ok-header.header + 1 in
    let inputs = subst (λ (xs : List InputItem). Checks p first (rows_after InputRow [] (map input xs)) (Ok c.in_ok-outputs.outputs)) c.as_slice.ensures c.in_ok-outputs.ensures in
    let further = at-outputs p first c.in_ok-outputs.outputs reached inputs in
    let second = c.in_ok-outputs.outputs + 1 in
    let e = c.in_err-returned.field-0.0 in
    let outputs = subst (λ (xs : List OutputItem). Checks p second (rows_after OutputRow [] (map output xs)) (Err e)) c.as_slice-2.ensures c.in_err-returned.ensures in
    halted p (from_globals p) c.from_residual-in_err-returned.result e c.from_residual-in_err-returned.ensures.1
    (section-breaks p second (rows_after OutputRow [] p.outputs) (from_result p) further e outputs)

pub returns-in_err-globals : goal.returns-in_err-globals
returns-in_err-globals c =
    let p = program c.args.image.now in
    let reached = at-inputs p c.in_ok-header.header c.name_rule.result c.name_rule.ensures c.in_ok-header.ensures.0 c.in_ok-header.ensures.1 in
    let first = c.in_ok-header.header + 1 in
    let inputs = subst (λ (xs : List InputItem). Checks p first (rows_after InputRow [] (map input xs)) (Ok c.in_ok-outputs.outputs)) c.as_slice.ensures c.in_ok-outputs.ensures in
    let further = at-outputs p first c.in_ok-outputs.outputs reached inputs in
    let second = c.in_ok-outputs.outputs + 1 in
    let outputs = subst (λ (xs : List OutputItem). Checks p second (rows_after OutputRow [] (map output xs)) (Ok c.in_ok-returned.returned)) c.as_slice-2.ensures c.in_ok-returned.ensures in
    let last = at-result p second c.in_ok-returned.returned further outputs in
    let e = c.in_err-globals.field-0.0 in
    halted p (from_globals p) c.from_residual-in_err-globals.result e c.from_residual-in_err-globals.ensures.1
    (line-breaks p c.in_ok-returned.returned ResultRow (Plain ∷ from_globals p) c.result_rule.result last c.result_rule.ensures e c.in_err-globals.ensures)

pub returns : goal.returns
returns c =
    let p = program c.args.image.now in
    let reached = at-inputs p c.in_ok-header.header c.name_rule.result c.name_rule.ensures c.in_ok-header.ensures.0 c.in_ok-header.ensures.1 in
    let first = c.in_ok-header.header + 1 in
    let inputs = subst (λ (xs : List InputItem). Checks p first (rows_after InputRow [] (map input xs)) (Ok c.in_ok-outputs.outputs)) c.as_slice.ensures c.in_ok-outputs.ensures in
    let further = at-outputs p first c.in_ok-outputs.outputs reached inputs in
    let second = c.in_ok-outputs.outputs + 1 in
    let outputs = subst (λ (xs : List OutputItem). Checks p second (rows_after OutputRow [] (map output xs)) (Ok c.in_ok-returned.returned)) c.as_slice-2.ensures c.in_ok-returned.ensures in
    let last = at-result p second c.in_ok-returned.returned further outputs in
    at-globals p c.in_ok-returned.returned c.in_ok-globals.globals c.result_rule.result last c.result_rule.ensures c.in_ok-globals.ensures.0 c.in_ok-globals.ensures.1
