-- A product with one more factor.
use Rattle.std.proofs.Common.{FitsSigned, rules}
use mir.Syntax.{w128}
use Rattle.std.proofs.lemmas.Int.{to_z-of_z}
use Rattle.gm_value.specs.Numbers.{type_of, number_of}
use Rattle.gm_value.proofs.TotalLaws.{product_more}
use Rattle.gm_value.proofs.totals.with_member.Goals as goal

pub returns-in-Product-Product-clause-shows : goal.returns-in-Product-Product-clause-shows
returns-in-Product-Product-clause-shows c =
    let x_fits : FitsSigned w128 c.number-x.result = search rules in
    let value_fits : FitsSigned w128 c.in-Product-Product.value = search rules in
    let more = simp to_z-of_z at c.multiplied.ensures.product in
    product_more c.args.r c.args.a c.multiplied.result c.number-x.result (number_of c.args.b)
    c.in-Product-Product.value c.in-Product-Product.over c.in-Product-Product.is-0 c.in-Product-Product.is-1 c.number-x.ensures.number more

pub returns-in-Product-Product-clause-typed : goal.returns-in-Product-Product-clause-typed
returns-in-Product-Product-clause-typed c = λ _. c.multiplied.ensures.typed (type_of c.args.b)
