use Rattle.std.proofs.Common.{◌≡◌, ◌≤◌, length, map, drop, option_map, nat_eq}
use Rattle.gm_base.specs.Rules.{least_from}
use Rattle.gm_ast.specs.Judged.{ok_of, errs_of}
use Rattle.gm_ast.specs.Statements.{fits_each, all_answers}
use Rattle.gm_ast.specs.Tree.{expr_of}
use Rattle.gm_types.specs.Parts.{part_of}
use Rattle.gm_types.specs.Shapes.{joined}
use Rattle.gm_types.proofs.Fits.{fits_left}
use Rattle.gm_types.proofs.lists.fits_each.Given as goal

-- the values so far, with those of the parts that are left, are all
abbrev pub invariant-loop-part : goal.invariant-loop-part
invariant-loop-part l = record {
  at_most : l.at ≤ length l.goals;
  part : joined (option_map (λ v. map expr_of v.items) l.values) (ok_of (all_answers (fits_left l.place (nat_eq (length l.goals) l.count) (drop l.at l.goals) (map part_of l.part-iterator.rest.items))))
      ≡ ok_of (all_answers (fits_each l.place l.goals (map part_of l.fn.parts.items)));
  least : least_from l.least (errs_of (all_answers (fits_left l.place (nat_eq (length l.goals) l.count) (drop l.at l.goals) (map part_of l.part-iterator.rest.items))))
      ≡ least_from l.initial.least (errs_of (all_answers (fits_each l.place l.goals (map part_of l.fn.parts.items))));
}
