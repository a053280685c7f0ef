use Rattle.std.proofs.Common.{◌∙◌, ap, sym}
use Rattle.std.specs.Option.{option_zip}
use Rattle.gm_ast.specs.Tree.{expr_of}
use Rattle.gm_types.specs.Parts.{part_of}
use Rattle.gm_types.proofs.Pairs.{zip_none}
use Rattle.gm_types.proofs.parts.choice.Goals as goal

pub returns-in-None-clause-part : goal.returns-in-None-clause-part
returns-in-None-clause-part c =
    let parts = ap (option_zip c.args.test) (sym c.zip.ensures) ∙ sym c.zip-2.ensures ∙ c.in-None.is in
    rw (zip_none expr_of part_of part_of c.args.test c.args.a c.args.b parts)

pub returns-in-None-clause-least : goal.returns-in-None-clause-least
returns-in-None-clause-least c =
    let parts = ap (option_zip c.args.test) (sym c.zip.ensures) ∙ sym c.zip-2.ensures ∙ c.in-None.is in
    rw (zip_none expr_of part_of part_of c.args.test c.args.a c.args.b parts)
