-- A program with the reductions of its parallel bodies as loops keeps what every pass keeps.
use Rattle.std.proofs.Common.{◌≤◌, ◌+◌, ◌++◌, [], length, ◌∙◌, arith}
use Rattle.std.specs.Prelude.{nat_le}
use Rattle.std.specs.List.{list_all}
use Rattle.std.proofs.lemmas.Bool.{leb-true, le-leb}
use Rattle.std.proofs.lemmas.List.{length-append}
use Rattle.gm_ast.specs.Program.{Program}
use Rattle.gm_semantics.specs.Frames.{NamesBelow}
use Rattle.gm_forms.specs.Uses.{suits, uses_of}
use Rattle.gm_forms.proofs.Named.{both-true, names-below}
use Rattle.gm_forms.proofs.Weaker.{and-true}
use Rattle.gm_desugar.proofs.Appended.{variable-appended, all-suit-appended}
use Rattle.gm_desugar.proofs.Longer.{typed-longer, loops-longer, phase-form-longer}
use Rattle.gm_hoisting.specs.Hoisting.{phase_added, phase_out, without_inner_folds}
use Rattle.gm_hoisting.specs.Stages.{CanBeHoisted, WithoutInnerFolds}
use Rattle.gm_hoisting.specs.Totals.{totals_stand, loops_stand}
use Rattle.gm_hoisting.proofs.BodyKept.{phase-good}
use Rattle.gm_hoisting.proofs.PhaseOrder.{phase-ordered}
use Rattle.gm_hoisting.proofs.PhaseShare.{phase-shares}
use Rattle.gm_hoisting.proofs.Placed.{placed-at-end}

pub kept : (p : Program) → CanBeHoisted p → WithoutInnerFolds (without_inner_folds p)
kept p h =
    let ds = p.declarations in
    let k = length ds in
    let least : k ≤ k = omega arith in
    let more = phase_added [] p.body in
    let es = ds ++ more in
    let same = variable-appended ds more in
    let parts = both-true (nat_le (p.inputs + p.outputs) k) (list_all (suits ds) (uses_of p.body)) h.ready.sane.named in
    let names : NamesBelow k p.body = names-below ds p.body parts.1 in
    let placed = placed-at-end ds more in
    let stand = both-true (totals_stand p) (loops_stand p.body) h.stands in
    let form = phase-form-longer ds es k same p.body names ∙ h.ready.form in
    let good = phase-good es p.result p.body [] k placed (all-suit-appended ds more (uses_of p.body) parts.1) (typed-longer ds es k same p.result p.body names ∙ h.ready.sane.typed) form in
    let within : p.inputs + p.outputs ≤ length es = (let e = length-append ds more in let b = leb-true (p.inputs + p.outputs) k parts.0 in omega (arith, e, b)) in
    record {
      ready = record {
        sane = record {
          named = and-true (nat_le (p.inputs + p.outputs) (length es)) (list_all (suits es) (uses_of (phase_out [] k p.body))) (le-leb (p.inputs + p.outputs) (length es) within) good.named;
          typed = good.typed;
          ordered = phase-ordered es p.body [] k form stand.0 stand.1;
          race_free = phase-shares es k p.body [] k least names placed (loops-longer ds es k same p.body names ∙ h.ready.sane.race_free);
        };
        form = good.form;
      };
      none = good.none;
    }
