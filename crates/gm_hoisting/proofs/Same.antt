-- A program means the same when the reductions of its parallel bodies are loops.
use Rattle.std.proofs.Common.{◌≡◌, ◌≤◌, ◌+◌, ◌++◌, ℕ, true, false, [], length, refl, ◌∙◌, arith}
use Rattle.std.specs.Prelude.{nat_le}
use Rattle.std.specs.List.{list_all}
use Rattle.std.proofs.lemmas.Bool.{both_ways, leb-true}
use Rattle.gm_ast.specs.Program.{Program}
use Rattle.gm_semantics.specs.Frames.{NamesBelow, AlikeStates}
use Rattle.gm_semantics.specs.Statements.{State}
use Rattle.gm_forms.specs.Extends.{Extends, run_of, start_of}
use Rattle.gm_forms.specs.Meanings.{SameMeaning}
use Rattle.gm_forms.specs.Ready.{is_checked}
use Rattle.gm_forms.specs.Uses.{suits, uses_of, is_named}
use Rattle.gm_forms.proofs.Named.{both-true, names-below}
use Rattle.gm_forms.proofs.Tables.{same-alike}
use Rattle.gm_desugar.proofs.Appended.{variable-appended, all-suit-appended}
use Rattle.gm_desugar.proofs.Longer.{phase-form-longer}
use Rattle.gm_hoisting.specs.Hoisting.{phase_added, without_inner_folds}
use Rattle.gm_hoisting.specs.Totals.{totals_stand}
use Rattle.gm_hoisting.proofs.Around.{Around}
use Rattle.gm_hoisting.proofs.Late.{phase-late}
use Rattle.gm_hoisting.proofs.Phases.{phase-alike}
use Rattle.gm_hoisting.proofs.Placed.{placed-at-end}

agree-itself : (n : ℕ) (s : State) → AlikeStates n s s
agree-itself n s = record { store = record { scalar = λ x b. refl; node = λ x m b. refl; edge = λ x e b. refl }; turns = refl }

pub same-without_inner_folds : (p : Program) → is_named p ≡ true → is_checked p ≡ true → totals_stand p ≡ true → SameMeaning p (without_inner_folds p)
same-without_inner_folds p named form order =
    let ds = p.declarations in
    let k = length ds in
    let least : k ≤ k = omega arith in
    let more = phase_added [] p.body in
    let parts = both-true (nat_le (p.inputs + p.outputs) (length ds)) (list_all (suits ds) (uses_of p.body)) named in
    let names : NamesBelow k p.body = names-below ds p.body parts.1 in
    let extends : Extends k p (without_inner_folds p) = record {
      inputs = refl;
      outputs = refl;
      result = refl;
      within = leb-true (p.inputs + p.outputs) (length ds) parts.0;
      variables = variable-appended ds more;
    } in
    same-alike k p (without_inner_folds p) extends names
    (λ g args bound fits.
    let run = run_of (without_inner_folds p) g bound in
    let around : Around run [] p.body = record { named = all-suit-appended ds more (uses_of p.body) parts.1; iterators = λ y i. absurd (both_ways false refl i) } in
    let longer = phase-form-longer ds (ds ++ more) k (variable-appended ds more) p.body names ∙ form in
    phase-alike k run p.body [] k least names longer (placed-at-end ds more) (phase-late k run fits.graph p.body longer order) around (start_of (without_inner_folds p) g args) (start_of (without_inner_folds p) g args) (λ y i. absurd (both_ways false refl i)) (agree-itself k (start_of (without_inner_folds p) g args)))
