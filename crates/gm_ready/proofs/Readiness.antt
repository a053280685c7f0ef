-- What a program that breaks no rule is for the passes.
use Rattle.std.proofs.Common.{◌≡◌, ◌+◌, ℕ, Bool, true, false, List, length, refl}
use Rattle.std.specs.Prelude.{nat_le}
use Rattle.std.specs.List.{list_all}
use Rattle.std.specs.Cmp.Derive.{both_true}
use Rattle.gm_ast.specs.declared.tree.Declaration.{Declaration}
use Rattle.gm_ast.specs.Accesses.{accesses}
use Rattle.gm_ast.specs.Canonical.{IsCanonical}
use Rattle.gm_ast.specs.Procedures.{IsTyped}
use Rattle.gm_ast.specs.Program.{Stmt, Skip, Then, Declare, DeclareEdge, Assign, Defer, Combine, Group, Foreach, For, If, While, Do, InBfs, InBfsBoth, Return, Program}
use Rattle.gm_forms.specs.Order.{is_ordered}
use Rattle.gm_forms.specs.Ready.{is_checked, Ready0}
use Rattle.gm_forms.specs.Sharing.{is_race_free}
use Rattle.gm_forms.specs.Uses.{suits, uses_of}
use Rattle.gm_forms.proofs.Named.{both-true}
use Rattle.gm_ready.specs.Alike.{reduces_alike_in, reduces_alike}
use Rattle.gm_ready.specs.Rising.{numbers_rise}
use Rattle.gm_ready.specs.Spelled.{is_spelled}
use Rattle.gm_ready.proofs.CheckedForms.{phase-code}
use Rattle.gm_ready.proofs.LoopFacts.{phase-shares}
use Rattle.gm_ready.proofs.Placing.{Placed}
use Rattle.gm_ready.proofs.PlacedProcedures.{program-placed}
use Rattle.gm_ready.proofs.Procedures.{typed-named, typed-typed}
use Rattle.gm_ready.proofs.Rises.{numbers-rise}
use Rattle.gm_ready.proofs.Racing.{clean-of}

-- reductions that stand in a tree as they were judged are alike
alike-in : (ds : List Declaration) (d : ℕ) (edge : Bool) (s : Stmt) → Placed ds d edge s → reduces_alike_in s ≡ true
alike-in ds d edge Skip h = refl
alike-in ds d edge (Then a b) h = both_true (alike-in ds d edge a h.0) (alike-in ds d h.1.0 b h.1.1.1)
alike-in ds d edge (Declare k x e) h = refl
alike-in ds d edge (DeclareEdge x y at) h = refl
alike-in ds d edge (Assign k t e) h = refl
alike-in ds d edge (Defer k t e) h = refl
alike-in ds d edge (Combine k total r ts es) h = h.1.1
alike-in ds d edge (Group k at g p e) h = refl
alike-in ds d edge (Foreach k at hd test body) h = alike-in ds (d + 1) edge body h.1.1
alike-in ds d edge (For k at hd test body) h = alike-in ds (d + 0) edge body h.1.1
alike-in ds d edge (If k c a b) h = both_true (alike-in ds d edge a h.1.0) (alike-in ds d edge b h.1.1)
alike-in ds d edge (While k at c body) h = alike-in ds d edge body h.1
alike-in ds d edge (Do k at body c) h = alike-in ds d edge body h.0
alike-in ds d edge (InBfs k at s test body) h = alike-in ds (d + 1) edge body h.1.1
alike-in ds d edge (InBfsBoth k at s test body bk bt back) h = both_true (alike-in ds (d + 1) edge body h.1.0.1) (alike-in ds (d + 1) edge back h.1.1.1)
alike-in ds d edge (Return k at e) h = refl

pub typed-alike : (p : Program) → IsTyped p → reduces_alike p ≡ true
typed-alike p typed = alike-in p.declarations 0 false p.body (program-placed p typed)

pub typed-rises : (p : Program) → IsTyped p → is_ordered p ≡ true → numbers_rise p ≡ true
typed-rises p typed ordered = numbers-rise p.declarations 0 false p.body (program-placed p typed) ordered

pub canonical-checked : (p : Program) → IsCanonical p → is_checked p ≡ true
canonical-checked p canonical =
    phase-code p.declarations (accesses p) (clean-of p.declarations (accesses p) canonical.race_free) p.body (program-placed p canonical.typed) canonical.canonical 1 (λ x m. m)

pub canonical-free : (p : Program) → IsCanonical p → is_ordered p ≡ true → is_race_free p ≡ true
canonical-free p canonical ordered =
    let ds = p.declarations in
    let named = both-true (nat_le (p.inputs + p.outputs) (length ds)) (list_all (suits ds) (uses_of p.body)) (typed-named p canonical.typed) in
    phase-shares ds (accesses p) (clean-of ds (accesses p) canonical.race_free) false p.body 1 (canonical-checked p canonical) (program-placed p canonical.typed) named.1 (typed-rises p canonical.typed ordered) (λ x m. m)

pub checked-ready : (p : Program) → IsCanonical p → is_spelled p ≡ true → is_ordered p ≡ true → Ready0 p
checked-ready p canonical spelled ordered = record {
  sane = record { named = typed-named p canonical.typed; typed = typed-typed p canonical.typed spelled; ordered = ordered; race_free = canonical-free p canonical ordered };
  form = canonical-checked p canonical;
}
