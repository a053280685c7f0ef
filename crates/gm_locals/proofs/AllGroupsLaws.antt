-- A program whose loops keep in properties all locals that they can means the same, and is as ready as it was.
use Rattle.std.proofs.Common.{◌≤◌, arith, length, refl, ◌++◌, map}
use Rattle.std.specs.Prelude.{◌+◌, nat_le}
use Rattle.std.specs.List.{list_all}
use Rattle.std.proofs.lemmas.Bool.{leb-true, le-leb}
use Rattle.gm_ast.specs.Program.{Program}
use Rattle.gm_forms.specs.Extends.{run_of, start_of}
use Rattle.gm_forms.specs.Meanings.{SameMeaning}
use Rattle.gm_forms.specs.Ready.{Ready2}
use Rattle.gm_forms.specs.Uses.{suits, uses_of}
use Rattle.gm_forms.proofs.Named.{both-true, names-below}
use Rattle.gm_forms.proofs.Tables.{same-alike}
use Rattle.gm_forms.proofs.Weaker.{and-true}
use Rattle.gm_dissect.specs.Deferred.{copy_of}
use Rattle.gm_dissect.proofs.DeferredLaws.{variable-longer, known-phase, longer}
use Rattle.gm_dissect.proofs.Kept.{Sound}
use Rattle.gm_locals.specs.AllGroups.{groups_in, with_groups_kept}
use Rattle.gm_locals.proofs.GroupKept.{longer-length, added-behind}
use Rattle.gm_locals.proofs.AllGroupsAlike.{groups-alike}
use Rattle.gm_locals.proofs.AllGroupsKept.{groups-kept}

pub groups-same : (p : Program) → Ready2 p → SameMeaning p (with_groups_kept p)
groups-same p r =
    let ds = p.declarations in
    let xs = groups_in ds p.body in
    let known = known-phase p r in
    let q = with_groups_kept p in
    same-alike (length ds) p q (longer p (map (copy_of ds) xs) q r refl) (names-below ds p.body known.named)
    (λ g args bound fits.
    let run = run_of q g bound in
    groups-alike ds run (λ y h. variable-longer ds (map (copy_of ds) xs) y h) p.body (length ds) (omega arith) known (start_of q g args) (start_of q g args)
    (record { store = record { scalar = λ y b. refl; node = λ y n b. refl; edge = λ y n b. refl }; turns = refl }))

pub groups-ready : (p : Program) → Ready2 p → Ready2 (with_groups_kept p)
groups-ready p r =
    let ds = p.declarations in
    let xs = groups_in ds p.body in
    let dt = ds ++ map (copy_of ds) xs in
    let longer-table : length ds ≤ length dt = longer-length ds (map (copy_of ds) xs) in
    let m = both-true (nat_le (p.inputs + p.outputs) (length ds)) (list_all (suits ds) (uses_of p.body)) r.sane.named in
    let sound : Sound ds p.result p.body = record { named = m.1; typed = r.sane.typed; order = r.sane.ordered; share = r.sane.race_free; form = r.form } in
    let kept = groups-kept ds dt (λ y h. variable-longer ds (map (copy_of ds) xs) y h) longer-table p.result p.body (length ds) (omega arith) (added-behind ds ds xs) sound in
    let within = leb-true (p.inputs + p.outputs) (length ds) m.0 in
    record {
      sane = record {
        named = and-true (nat_le (p.inputs + p.outputs) (length dt)) (list_all (suits dt) (uses_of (with_groups_kept p).body)) (le-leb (p.inputs + p.outputs) (length dt) (omega (arith, within, longer-table))) kept.named;
        typed = kept.typed;
        ordered = kept.order;
        race_free = kept.share;
      };
      form = kept.form;
    }
