-- A program without deferred writes to a property means the same.
use Rattle.std.proofs.Common.{◌≡◌, ◌<◌, ◌≤◌, arith, ℕ, zero, suc, true, List, [], ◌∷◌, ◌++◌, length, refl, ap, ◌∙◌, slice_get}
use Rattle.std.specs.Prelude.{◌+◌, ◌&&◌, nat_le, option_map}
use Rattle.std.specs.List.{list_all}
use Rattle.std.proofs.lemmas.Bool.{leb-true}
use Rattle.gm_ast.specs.declared.tree.Declaration.{Declaration}
use Rattle.gm_ast.specs.Program.{Program}
use Rattle.gm_semantics.specs.Statements.{variable_or, variable_at}
use Rattle.gm_forms.specs.Extends.{Extends, run_of, start_of}
use Rattle.gm_forms.specs.Meanings.{SameMeaning}
use Rattle.gm_forms.specs.Ready.{Ready2}
use Rattle.gm_forms.specs.Uses.{suits, uses_of}
use Rattle.gm_forms.proofs.Named.{both-true, names-below}
use Rattle.gm_forms.proofs.Tables.{same-alike}
use Rattle.gm_dissect.specs.Deferred.{copy_of, undeferred_loop, without_deferred_to}
use Rattle.gm_dissect.proofs.DeferredLoops.{undeferred-alike}
use Rattle.gm_dissect.proofs.Phases.{KnownPhase, phase-alike}

-- a longer table has the same variables where the shorter one has any
get-longer : (xs ys : List Declaration) (x : ℕ) → x < length xs → slice_get (xs ++ ys) x ≡ slice_get xs x
get-longer [] ys x h = absurd (omega (arith, h))
get-longer (d ∷ xs) ys zero h = refl
get-longer (d ∷ xs) ys (suc x) h = get-longer xs ys x (omega (arith, h))

pub variable-longer : (xs ys : List Declaration) (x : ℕ) → x < length xs → variable_at (xs ++ ys) x ≡ variable_at xs x
variable-longer xs ys x h = ap (λ o. variable_or (option_map (λ (d : Declaration). d.variable) o)) (get-longer xs ys x h)

pub known-phase : (p : Program) → Ready2 p → KnownPhase p.declarations p.body
known-phase p r =
    let n = both-true (nat_le (p.inputs + p.outputs) (length p.declarations)) (list_all (suits p.declarations) (uses_of p.body)) r.sane.named in
    record { named = n.1; form = r.form; share = r.sane.race_free }

pub longer : (p : Program) (ds : List Declaration) (q : Program) → Ready2 p → q ≡ record p { declarations = p.declarations ++ ds; body = q.body } → Extends (length p.declarations) p q
longer p ds q r e =
    let n = both-true (nat_le (p.inputs + p.outputs) (length p.declarations)) (list_all (suits p.declarations) (uses_of p.body)) r.sane.named in
    record {
      inputs = ap (λ (x : Program). x.inputs) e;
      outputs = ap (λ (x : Program). x.outputs) e;
      result = ap (λ (x : Program). x.result) e;
      within = leb-true (p.inputs + p.outputs) (length p.declarations) n.0;
      variables = λ x b. ap (λ (y : Program). variable_at y.declarations x) e ∙ variable-longer p.declarations ds x b;
    }

pub same-without_deferred : (x : ℕ) (p : Program) → Ready2 p → SameMeaning p (without_deferred_to x p)
same-without_deferred x p r =
    let ds = p.declarations in
    let known = known-phase p r in
    let q = without_deferred_to x p in
    same-alike (length ds) p q (longer p (copy_of ds x ∷ []) q r refl) (names-below ds p.body known.named)
    (λ g args bound fits.
    let run = run_of q g bound in
    phase-alike ds run (undeferred_loop x (length ds)) (undeferred-alike ds run x) p.body known (start_of q g args) (start_of q g args)
    (record { store = record { scalar = λ y b. refl; node = λ y n b. refl; edge = λ y n b. refl }; turns = refl }))
