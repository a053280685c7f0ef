use Rattle.std.proofs.Common.{◌≡◌, ◌+◌, ◌∷◌, List, ap, sym, ◌∙◌, arith, map, drop, length, nat_eq, option_map, get_or}
use Rattle.std.specs.Prelude.{Some, None}
use Rattle.gm_base.specs.declared.rules.Rule.TheVariants.{T9}
use Rattle.gm_base.specs.Rules.{least_from}
use Rattle.gm_ast.specs.declared.kinds.Goal.{Goal}
use Rattle.gm_ast.specs.declared.tree.Target.TheVariants as Target
use Rattle.gm_ast.specs.declared.tree.Expr as Tree
use Rattle.gm_ast.specs.Judged.{ok_of, errs_of}
use Rattle.gm_ast.specs.Statements.{fits_goal, all_answers}
use Rattle.gm_ast.specs.Tree.{expr_of}
use Rattle.gm_types.specs.declared.parts.Part as Held
use Rattle.gm_types.specs.Parts.{part_of}
use Rattle.gm_types.specs.Shapes.{joined, with_last}
use Rattle.gm_types.proofs.Leasts.{least_from-append}
use Rattle.gm_types.proofs.Sequences.{joined-none}
use Rattle.gm_types.proofs.Fits.{fits_left, fits-first, fits-next, fits-past, joined-answer, errs-answers, held-next}
use Rattle.std.proofs.lemmas.Result.{IfOk-from_err}
use Rattle.gm_types.proofs.lists.fits_each.Goals as goal

pub loop-part-init : goal.loop-part-init
loop-part-init c =
    let same = nat_eq (length c.args.goals.now) c.len-count.result in
    let items = c.into_iter-part-iterator.result.rest.items in
    let count : c.len-count.result ≡ length c.args.parts.items = omega arith in
    let first = fits-first c.args.place c.args.goals.now c.args.parts.items items c.len-count.result c.into_iter-part-iterator.ensures.into_iter_gives.0 count in
    record {
      at_most = omega arith;
      part = ap (λ (xs : List Tree.Expr). joined (Some (map expr_of xs)) (ok_of (all_answers (fits_left c.args.place same c.args.goals.now (map part_of items))))) c.new.ensures.items
          ∙ joined-none _ ∙ ap (λ answers. ok_of (all_answers answers)) first;
      least = ap (λ answers. least_from c.args.least.now (errs_of (all_answers answers))) first;
    }

pub loop-part-preserved-then-at-goals : goal.loop-part-preserved-then-at-goals
loop-part-preserved-then-at-goals c =
    let goals = c.args.goals.now in
    let at = c.loop-part.at in
    let same = nat_eq (length goals) c.len-count.result in
    let part = c.in-Some.part in
    let items = c.next.new.self.rest.items in
    let none : Goal = record { wanted = None; target = Target.Scalar 0 (record { line = 0; col = 0 }) } in
    let answer = fits_goal (get_or goals at none).wanted T9 c.args.place (part_of part) in
    let left = fits_left c.args.place same (drop (at + 1) goals) (map part_of items) in
    let held = option_map (λ v. map expr_of v.items) c.loop-part.values in
    let step : answer ∷ left ≡ fits_left c.args.place same (drop at goals) (map part_of c.loop-part.part-iterator.rest.items) =
    sym (fits-next c.args.place same goals at none (part_of part) (map part_of items) c.if-at-goals.true)
    ∙ ap (λ (ps : List Held.Part). fits_left c.args.place same (drop at goals) (map part_of ps)) (sym c.in-Some.ensures.steps.0) in
    let more : option_map (λ v. map expr_of v.items) c.in_ok-values.values ≡ with_last held (ok_of answer) =
    held-next expr_of c.loop-part.values c.in_ok-values.values c.in_ok-value.value c.in_ok-values.ensures ∙ ap (with_last held) c.in_ok-value.ensures.part in
    record {
      at_most = omega arith;
      part = ap (λ xs. joined xs (ok_of (all_answers left))) more ∙ sym (joined-answer held answer (all_answers left))
          ∙ ap (λ answers. joined held (ok_of (all_answers answers))) step ∙ c.loop-part.invariant.part;
      least = ap (λ l. least_from l (errs_of (all_answers left))) c.in_ok-value.ensures.least
          ∙ sym (least_from-append c.loop-part.least (errs_of answer) (errs_of (all_answers left)))
          ∙ ap (least_from c.loop-part.least) (sym (errs-answers (λ x xs. x ∷ xs) answer (all_answers left)))
          ∙ ap (λ answers. least_from c.loop-part.least (errs_of (all_answers answers))) step ∙ c.loop-part.invariant.least;
    }

pub loop-part-preserved : goal.loop-part-preserved
loop-part-preserved c =
    let goals = c.args.goals.now in
    let at = c.loop-part.at in
    let same = nat_eq (length goals) c.len-count.result in
    let part = c.in-Some.part in
    let items = c.next.new.self.rest.items in
    let step : fits_left c.args.place same (drop at goals) (map part_of items) ≡ fits_left c.args.place same (drop at goals) (map part_of c.loop-part.part-iterator.rest.items) =
    sym (fits-past c.args.place same goals at (part_of part) (map part_of items) c.if-at-goals.false)
    ∙ ap (λ (ps : List Held.Part). fits_left c.args.place same (drop at goals) (map part_of ps)) (sym c.in-Some.ensures.steps.0) in
    record {
      at_most = c.loop-part.invariant.at_most;
      part = ap (λ answers. joined (option_map (λ v. map expr_of v.items) c.loop-part.values) (ok_of (all_answers answers))) step ∙ c.loop-part.invariant.part;
      least = ap (λ answers. least_from c.loop-part.least (errs_of (all_answers answers))) step ∙ c.loop-part.invariant.least;
    }

pub returns-in_err-value-clause-part : goal.returns-in_err-value-clause-part
returns-in_err-value-clause-part c = IfOk-from_err _ _ c.from_residual.ensures.0

pub returns-in_err-value-clause-least : goal.returns-in_err-value-clause-least
returns-in_err-value-clause-least c = IfOk-from_err _ _ c.from_residual.ensures.0

pub returns-in_err-values-clause-part : goal.returns-in_err-values-clause-part
returns-in_err-values-clause-part c = IfOk-from_err _ _ c.from_residual-in_err-values.ensures.0

pub returns-in_err-values-clause-least : goal.returns-in_err-values-clause-least
returns-in_err-values-clause-least c = IfOk-from_err _ _ c.from_residual-in_err-values.ensures.0
