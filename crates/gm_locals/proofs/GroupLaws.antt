-- A program whose loops keep locals in properties together means the same, and is as ready as it was.
use Rattle.std.proofs.Common.{◌≤◌, arith, ℕ, length, refl, List, ◌++◌, map}
use Rattle.std.specs.Prelude.{◌+◌, nat_le}
use Rattle.std.specs.List.{list_all}
use Rattle.std.proofs.lemmas.Bool.{leb-true, le-leb}
use Rattle.gm_ast.specs.Program.{Program}
use Rattle.gm_forms.specs.Extends.{run_of, start_of}
use Rattle.gm_forms.specs.Meanings.{SameMeaning}
use Rattle.gm_forms.specs.Ready.{Ready2}
use Rattle.gm_forms.specs.Uses.{suits, uses_of}
use Rattle.gm_forms.proofs.Named.{both-true, names-below}
use Rattle.gm_forms.proofs.Tables.{same-alike}
use Rattle.gm_forms.proofs.Weaker.{and-true}
use Rattle.gm_dissect.specs.Deferred.{copy_of}
use Rattle.gm_dissect.proofs.DeferredLaws.{variable-longer, known-phase, longer}
use Rattle.gm_dissect.proofs.Kept.{Sound, phase-kept}
use Rattle.gm_dissect.proofs.Phases.{phase-alike}
use Rattle.gm_locals.specs.Groups.{kept_loop, with_locals_kept}
use Rattle.gm_locals.proofs.GroupKept.{more, group-sound}
use Rattle.gm_locals.proofs.GroupLoops.{group-alike}

pub same-kept : (xs : List ℕ) (p : Program) → Ready2 p → SameMeaning p (with_locals_kept xs p)
same-kept xs p r =
    let ds = p.declarations in
    let known = known-phase p r in
    let q = with_locals_kept xs p in
    same-alike (length ds) p q (longer p (map (copy_of ds) xs) q r refl) (names-below ds p.body known.named)
    (λ g args bound fits.
    let run = run_of q g bound in
    phase-alike ds run (kept_loop ds xs (length ds)) (group-alike ds run (λ y h. variable-longer ds (map (copy_of ds) xs) y h) xs) p.body known (start_of q g args) (start_of q g args)
    (record { store = record { scalar = λ y b. refl; node = λ y n b. refl; edge = λ y n b. refl }; turns = refl }))

pub ready-kept : (xs : List ℕ) (p : Program) → Ready2 p → Ready2 (with_locals_kept xs p)
ready-kept xs p r =
    let ds = p.declarations in
    let dt = ds ++ map (copy_of ds) xs in
    let longer-table : length ds ≤ length dt = more ds xs p.result in
    let m = both-true (nat_le (p.inputs + p.outputs) (length ds)) (list_all (suits ds) (uses_of p.body)) r.sane.named in
    let sound : Sound ds p.result p.body = record { named = m.1; typed = r.sane.typed; order = r.sane.ordered; share = r.sane.race_free; form = r.form } in
    let kept = phase-kept ds dt (λ y h. variable-longer ds (map (copy_of ds) xs) y h) longer-table p.result (kept_loop ds xs (length ds)) (group-sound ds xs p.result) p.body sound in
    let within = leb-true (p.inputs + p.outputs) (length ds) m.0 in
    record {
      sane = record {
        named = and-true (nat_le (p.inputs + p.outputs) (length dt)) (list_all (suits dt) (uses_of (with_locals_kept xs p).body)) (le-leb (p.inputs + p.outputs) (length dt) (omega (arith, within, longer-table))) kept.named;
        typed = kept.typed;
        ordered = kept.order;
        race_free = kept.share;
      };
      form = kept.form;
    }
