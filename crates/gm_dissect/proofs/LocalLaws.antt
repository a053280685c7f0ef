-- A program whose loops keep a local in a property means the same, and is as ready as it was.
use Rattle.std.proofs.Common.{◌≡◌, ◌≤◌, arith, ℕ, Bool, true, false, cond, length, refl, List, [], ◌∷◌, ◌++◌}
use Rattle.std.specs.Prelude.{◌+◌, ◌&&◌, nat_le}
use Rattle.std.specs.List.{list_all}
use Rattle.std.proofs.lemmas.Bool.{leb-true, le-leb}
use Rattle.gm_ast.specs.declared.tree.Declaration.{Declaration}
use Rattle.gm_ast.specs.Program.{Program}
use Rattle.gm_forms.specs.Extends.{run_of, start_of}
use Rattle.gm_forms.specs.Meanings.{SameMeaning}
use Rattle.gm_forms.specs.Ready.{Ready2}
use Rattle.gm_forms.specs.Uses.{suits, uses_of}
use Rattle.gm_forms.proofs.Meanings.{same-refl, same-trans}
use Rattle.gm_forms.proofs.Named.{both-true, names-below}
use Rattle.gm_forms.proofs.Tables.{same-alike}
use Rattle.gm_forms.proofs.Weaker.{and-true}
use Rattle.gm_dissect.specs.Deferred.{copy_of}
use Rattle.gm_dissect.specs.Locals.{local_loop, with_kept_local, some_keeps, locals_in, with_each_kept, with_kept_locals}
use Rattle.gm_dissect.proofs.DeferredKept.{length-one}
use Rattle.gm_dissect.proofs.DeferredLaws.{variable-longer, known-phase, longer}
use Rattle.gm_dissect.proofs.Kept.{Sound, phase-kept}
use Rattle.gm_dissect.proofs.LocalKept.{local-sound}
use Rattle.gm_dissect.proofs.LocalLoops.{local-alike}
use Rattle.gm_dissect.proofs.Phases.{phase-alike}

pub same-kept : (x : ℕ) (p : Program) → Ready2 p → SameMeaning p (with_kept_local x p)
same-kept x p r =
    let ds = p.declarations in
    let known = known-phase p r in
    let q = with_kept_local x p in
    same-alike (length ds) p q (longer p (copy_of ds x ∷ []) q r refl) (names-below ds p.body known.named)
    (λ g args bound fits.
    let run = run_of q g bound in
    phase-alike ds run (local_loop ds x (length ds)) (local-alike ds run (λ y h. variable-longer ds (copy_of ds x ∷ []) y h) x) p.body known (start_of q g args) (start_of q g args)
    (record { store = record { scalar = λ y b. refl; node = λ y n b. refl; edge = λ y n b. refl }; turns = refl }))

pub ready-kept : (x : ℕ) (p : Program) → Ready2 p → Ready2 (with_kept_local x p)
ready-kept x p r =
    let ds = p.declarations in
    let dt = ds ++ (copy_of ds x ∷ []) in
    let one = length-one ds (copy_of ds x) in
    let more : length ds ≤ length dt = omega (arith, one) in
    let m = both-true (nat_le (p.inputs + p.outputs) (length ds)) (list_all (suits ds) (uses_of p.body)) r.sane.named in
    let sound : Sound ds p.result p.body = record { named = m.1; typed = r.sane.typed; order = r.sane.ordered; share = r.sane.race_free; form = r.form } in
    let kept = phase-kept ds dt (λ y h. variable-longer ds (copy_of ds x ∷ []) y h) more p.result (local_loop ds x (length ds)) (local-sound ds x p.result) p.body sound in
    let within = leb-true (p.inputs + p.outputs) (length ds) m.0 in
    record {
      sane = record {
        named = and-true (nat_le (p.inputs + p.outputs) (length dt)) (list_all (suits dt) (uses_of (with_kept_local x p).body)) (le-leb (p.inputs + p.outputs) (length dt) (omega (arith, within, more))) kept.named;
        typed = kept.typed;
        ordered = kept.order;
        race_free = kept.share;
      };
      form = kept.form;
    }

-- one local after another
abbrev step : ℕ → Program → Program
step x p = cond (some_keeps p.declarations x p.body) (with_kept_local x p) p

step-same : (x : ℕ) (p : Program) → Ready2 p → SameMeaning p (step x p)
step-same x p r = by (some_keeps p.declarations x p.body)
  where
    by : (b : Bool) → SameMeaning p (cond b (with_kept_local x p) p)
    by true = same-kept x p r
    by false = same-refl p

step-ready : (x : ℕ) (p : Program) → Ready2 p → Ready2 (step x p)
step-ready x p r = by (some_keeps p.declarations x p.body)
  where
    by : (b : Bool) → Ready2 (cond b (with_kept_local x p) p)
    by true = ready-kept x p r
    by false = r

each-same : (xs : List ℕ) (p : Program) → Ready2 p → SameMeaning p (with_each_kept xs p)
each-same [] p r = same-refl p
each-same (x ∷ xs) p r = same-trans p (step x p) (with_each_kept xs (step x p)) (step-same x p r) (each-same xs (step x p) (step-ready x p r))

each-ready : (xs : List ℕ) (p : Program) → Ready2 p → Ready2 (with_each_kept xs p)
each-ready [] p r = r
each-ready (x ∷ xs) p r = each-ready xs (step x p) (step-ready x p r)

pub all-same : (p : Program) → Ready2 p → SameMeaning p (with_kept_locals p)
all-same p r = each-same (locals_in p.body) p r

pub all-ready : (p : Program) → Ready2 p → Ready2 (with_kept_locals p)
all-ready p r = each-ready (locals_in p.body) p r
