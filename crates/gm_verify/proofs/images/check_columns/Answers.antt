use Rattle.std.proofs.Common.{◌≡◌, ◌+◌, ◌++◌, ◌∷◌, length, arith}
use Rattle.gm_image.specs.Views.{program}
use Rattle.gm_image.specs.Rows.{Plain, ColumnsRow, plain_rows}
use Rattle.gm_verify.specs.Tails.{from_globals, from_columns, from_kinds}
use Rattle.gm_verify.proofs.Wholes.{behind-fits, behind-room, line-breaks, halted, long-globals, long-columns, at-columns, at-kinds}
use Rattle.gm_verify.proofs.images.check_columns.Goals as goal

pub next_part-fields-requires : goal.next_part-fields-requires
next_part-fields-requires c =
    let p = program c.args.image.now in
    let fits = behind-fits p c.args.number (from_globals p) c.requires.reached c.requires.room in
    omega (arith, fits, long-globals p, long-columns p, c.len.ensures)

pub next_part-registers-requires : goal.next_part-registers-requires
next_part-registers-requires c =
    let p = program c.args.image.now in
    let fits = behind-fits p c.args.number (from_globals p) c.requires.reached c.requires.room in
    let fields : c.next_part-fields.result ≡ c.args.number + length p.globals + 1 = omega (arith, c.next_part-fields.ensures, c.len.ensures) in
    omega (arith, fits, long-globals p, long-columns p, fields, c.len-2.ensures)

pub overflow_add-header : goal.overflow_add-header
overflow_add-header c =
    let p = program c.args.image.now in
    let fields : c.next_part-fields.result ≡ c.args.number + length p.globals + 1 = omega (arith, c.next_part-fields.ensures, c.len.ensures) in
    let registers : c.next_part-registers.result ≡ c.next_part-fields.result + length p.fields + 1 = omega (arith, c.next_part-registers.ensures, c.len-2.ensures) in
    let header : c.next_part-registers.result + c.len-3.result ≡ c.next_part-registers.result + length p.registers = omega (arith, c.len-3.ensures) in
    let reached = at-columns p c.args.number c.next_part-fields.result c.next_part-registers.result (c.next_part-registers.result + c.len-3.result) c.requires.reached fields registers header in
    let below = behind-room p (c.next_part-registers.result + c.len-3.result) ColumnsRow (plain_rows p.columns ++ Plain ∷ from_kinds p) reached c.requires.room in
    omega (arith, below)

pub next_line-requires : goal.next_line-requires
next_line-requires c =
    let p = program c.args.image.now in
    let fields : c.next_part-fields.result ≡ c.args.number + length p.globals + 1 = omega (arith, c.next_part-fields.ensures, c.len.ensures) in
    let registers : c.next_part-registers.result ≡ c.next_part-fields.result + length p.fields + 1 = omega (arith, c.next_part-registers.ensures, c.len-2.ensures) in
    let header : c.next_part-registers.result + c.len-3.result ≡ c.next_part-registers.result + length p.registers = omega (arith, c.len-3.ensures) in
    let reached = at-columns p c.args.number c.next_part-fields.result c.next_part-registers.result (c.next_part-registers.result + c.len-3.result) c.requires.reached fields registers header in
    behind-room p (c.next_part-registers.result + c.len-3.result) ColumnsRow (plain_rows p.columns ++ Plain ∷ from_kinds p) reached c.requires.room

pub next_part-requires : goal.next_part-requires
next_part-requires c =
    let p = program c.args.image.now in
    let fields : c.next_part-fields.result ≡ c.args.number + length p.globals + 1 = omega (arith, c.next_part-fields.ensures, c.len.ensures) in
    let registers : c.next_part-registers.result ≡ c.next_part-fields.result + length p.fields + 1 = omega (arith, c.next_part-registers.ensures, c.len-2.ensures) in
    let header : c.next_part-registers.result + c.len-3.result ≡ c.next_part-registers.result + length p.registers = omega (arith, c.len-3.ensures) in
    let reached = at-columns p c.args.number c.next_part-fields.result c.next_part-registers.result (c.next_part-registers.result + c.len-3.result) c.requires.reached fields registers header in
    let fits = behind-fits p (c.next_part-registers.result + c.len-3.result) (from_columns p) reached c.requires.room in
    let next : c.in_ok-columns.columns ≡ c.next_part-registers.result + c.len-3.result + 1 = c.in_ok-columns.ensures.1 in
    omega (arith, fits, next, long-columns p, c.len-4.ensures)

pub returns-in_err-columns : goal.returns-in_err-columns
returns-in_err-columns c =
    let p = program c.args.image.now in
    let fields : c.next_part-fields.result ≡ c.args.number + length p.globals + 1 = omega (arith, c.next_part-fields.ensures, c.len.ensures) in
    let registers : c.next_part-registers.result ≡ c.next_part-fields.result + length p.fields + 1 = omega (arith, c.next_part-registers.ensures, c.len-2.ensures) in
    let header : c.next_part-registers.result + c.len-3.result ≡ c.next_part-registers.result + length p.registers = omega (arith, c.len-3.ensures) in
    let reached = at-columns p c.args.number c.next_part-fields.result c.next_part-registers.result (c.next_part-registers.result + c.len-3.result) c.requires.reached fields registers header in
    let e = c.in_err-columns.field-0.0 in
    halted p (from_kinds p) c.from_residual.result e c.from_residual.ensures.1
    (line-breaks p (c.next_part-registers.result + c.len-3.result) ColumnsRow (plain_rows p.columns ++ Plain ∷ from_kinds p) c.columns_rule.result reached c.columns_rule.ensures e c.in_err-columns.ensures)

pub returns : goal.returns
returns c =
    let p = program c.args.image.now in
    let fields : c.next_part-fields.result ≡ c.args.number + length p.globals + 1 = omega (arith, c.next_part-fields.ensures, c.len.ensures) in
    let registers : c.next_part-registers.result ≡ c.next_part-fields.result + length p.fields + 1 = omega (arith, c.next_part-registers.ensures, c.len-2.ensures) in
    let header : c.next_part-registers.result + c.len-3.result ≡ c.next_part-registers.result + length p.registers = omega (arith, c.len-3.ensures) in
    let reached = at-columns p c.args.number c.next_part-fields.result c.next_part-registers.result (c.next_part-registers.result + c.len-3.result) c.requires.reached fields registers header in
    let kinds : c.next_part.result ≡ c.in_ok-columns.columns + length p.columns + 1 = omega (arith, c.next_part.ensures, c.len-4.ensures) in
    at-kinds p (c.next_part-registers.result + c.len-3.result) c.in_ok-columns.columns c.next_part.result c.columns_rule.result reached c.columns_rule.ensures c.in_ok-columns.ensures.0 c.in_ok-columns.ensures.1 kinds
