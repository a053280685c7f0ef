-- A product of two numbers of 64 bits fits 128 bits.
use Rattle.std.proofs.Common.{rules, ◌^◌, ◌*ℤ◌, FitsSigned, lit<}
use mir.Syntax.{w128}
use Rattle.std.proofs.lemmas.Int.{to_z-of_z, fits_signed_mul}
use Rattle.gm_value.proofs.operations.product.Goals as goal

pub returns : goal.returns
returns c =
    let x_fits : FitsSigned w128 c.args.x = c.ranges.x in
    let y_fits : FitsSigned w128 c.args.y = c.ranges.y in
    let fits : FitsSigned w128 (c.args.x *ℤ c.args.y) =
    fits_signed_mul w128 c.args.x c.args.y (2 ^ 63) (2 ^ 63) (search rules) (search rules) (lit< tt) in
    simp to_z-of_z
