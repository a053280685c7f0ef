use Rattle.std.proofs.Common.{◌∙◌, ap, sym}
use Rattle.std.specs.Prelude.{Some}
use Rattle.gm_types.specs.Parts.{part_of}
use Rattle.gm_types.proofs.Operations.{connected-flags, unconnected}
use Rattle.std.proofs.lemmas.Result.{IfOk-from_err}
use Rattle.gm_types.proofs.parts.connection.Goals as goal

pub returns-in_err-part-clause-part : goal.returns-in_err-part-clause-part
returns-in_err-part-clause-part c = IfOk-from_err _ _ c.from_residual.ensures.0

pub returns-in_err-part-clause-least : goal.returns-in_err-part-clause-least
returns-in_err-part-clause-least c = IfOk-from_err _ _ c.from_residual.ensures.0

pub returns-then-are_flags-clause-part : goal.returns-then-are_flags-clause-part
returns-then-are_flags-clause-part c =
    rw (connected-flags c.args.place c.args.is_both (part_of c.args.a) (part_of c.args.b) (sym c.are_flags.ensures ∙ c.if-are_flags.true)) (ap Some c.in_ok-part.ensures)

pub returns-then-are_flags-clause-least : goal.returns-then-are_flags-clause-least
returns-then-are_flags-clause-least c =
    rw (connected-flags c.args.place c.args.is_both (part_of c.args.a) (part_of c.args.b) (sym c.are_flags.ensures ∙ c.if-are_flags.true))

pub returns-clause-part : goal.returns-clause-part
returns-clause-part c = rw (unconnected c.args.place c.args.is_both (part_of c.args.a) (part_of c.args.b) (sym c.are_flags.ensures ∙ c.if-are_flags.false))

pub returns-clause-least : goal.returns-clause-least
returns-clause-least c =
    rw (unconnected c.args.place c.args.is_both (part_of c.args.a) (part_of c.args.b) (sym c.are_flags.ensures ∙ c.if-are_flags.false)) c.note.ensures
