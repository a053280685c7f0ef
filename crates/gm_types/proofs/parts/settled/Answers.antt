use Rattle.std.proofs.Common.{◌≡◌, ◌<◌, ◌∙◌, sym, arith, length}
use Rattle.std.proofs.lemmas.Bool.Decides.{nat_tests}
use Rattle.std.proofs.lemmas.Result.{IfOk-from_err}
use Rattle.gm_types.specs.Parts.{part_of}
use Rattle.gm_types.proofs.Pairs.{no_member, some_member, settled-int, settled-long, settled-same}
use Rattle.gm_types.proofs.parts.settled.Goals as goal

pub returns-in_err-core-in-Flexible : goal.returns-in_err-core-in-Flexible
returns-in_err-core-in-Flexible c = IfOk-from_err _ _ c.from_residual.ensures.0

pub returns-then-is_empty : goal.returns-then-is_empty
returns-then-is_empty c =
    let tested = sym c.is_empty.ensures ∙ c.if-is_empty.true in
    let none : length c.args.part.large.items ≡ 0 = grind (arith, nat_tests, tested) in
    rw (c.in_ok-core-in-Flexible.ensures, c.new.ensures.items)
    (settled-int (part_of c.args.part) c.in-Flexible.is (no_member c.args.part.large.items none))

pub returns-in-Flexible : goal.returns-in-Flexible
returns-in-Flexible c =
    let tested = sym c.is_empty.ensures ∙ c.if-is_empty.false in
    let some : 0 < length c.args.part.large.items = grind (arith, nat_tests, tested) in
    rw c.new-else-is_empty.ensures.items
    (settled-long (part_of c.args.part) c.in-Flexible.is (some_member c.args.part.large.items some))

pub returns : goal.returns
returns c = settled-same (part_of c.args.part) c.in_default.not-Flexible
