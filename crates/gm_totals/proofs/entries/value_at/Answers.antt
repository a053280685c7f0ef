-- One value of a tuple.
use Rattle.std.proofs.Common.{◌≡◌, ◌<◌, ◌≤◌, length, get_or, arith, sym, ◌∙◌, ap, FitsSigned, rules}
use Rattle.gm_value.specs.Numbers.{number_of, type_of, checked}
use Rattle.gm_value.specs.declared.values.VType.{VType}
use mir.Syntax.{w128}
use Rattle.std.proofs.lemmas.Int.{to_z-of_z}
use Rattle.std.proofs.lemmas.List.{get_or_default}
use Rattle.gm_totals.proofs.Tuples.{value-in, value-out, value-past}
use Rattle.gm_totals.proofs.entries.value_at.Goals as goal

pub returns-then-k-tuple : goal.returns-then-k-tuple
returns-then-k-tuple c = λ rest. let past : length c.args.tuple.now ≤ c.args.k = omega arith in value-past c.args.held c.args.tuple.now c.args.k past rest

pub returns-in-Ok : goal.returns-in-Ok
returns-in-Ok c = λ rest.
    let in_bits : FitsSigned w128 c.number.result = search rules in
    let is_checked = simp to_z-of_z at c.checked.ensures in
    let within : c.args.k < length c.args.tuple.now = omega arith in
    let number : c.number.result ≡ number_of (get_or c.args.tuple.now c.args.k c.args.held) = c.number.ensures.number ∙ ap number_of (get_or_default c.args.tuple.now c.args.k _ c.args.held within) in
    value-in c.args.held c.in-Ok.value c.args.tuple.now c.args.k c.args.held within
    (ap (checked (type_of c.args.held)) (sym number) ∙ ap (λ (t : VType). checked t c.number.result) (sym c.type_of.ensures) ∙ sym is_checked ∙ c.in-Ok.is) rest

pub returns-in-Err : goal.returns-in-Err
returns-in-Err c = λ rest.
    let in_bits : FitsSigned w128 c.number.result = search rules in
    let is_checked = simp to_z-of_z at c.checked.ensures in
    let within : c.args.k < length c.args.tuple.now = omega arith in
    let number : c.number.result ≡ number_of (get_or c.args.tuple.now c.args.k c.args.held) = c.number.ensures.number ∙ ap number_of (get_or_default c.args.tuple.now c.args.k _ c.args.held within) in
    value-out c.args.held c.args.tuple.now c.args.k c.args.held c.in-Err.field-0 within
    (ap (checked (type_of c.args.held)) (sym number) ∙ ap (λ (t : VType). checked t c.number.result) (sym c.type_of.ensures) ∙ sym is_checked ∙ c.in-Err.is) rest
