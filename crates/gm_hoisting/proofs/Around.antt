-- What is known of a statement inside some Fors: no statement writes their iterators, which go on to hold nodes.
use Rattle.std.proofs.Common.{◌≡◌, ℕ, Bool, true, false, List, ◌∷◌, refl, sym, subst, Some}
use Rattle.std.specs.Prelude.{◌||◌, length, nat_eq, nat_lt}
use Rattle.std.specs.List.{list_all}
use Rattle.std.proofs.lemmas.Bool.{both_ways, eqb-true}
use Rattle.gm_value.specs.declared.values.Value.TheVariants.{At}
use Rattle.gm_value.specs.Operations.{is_true}
use Rattle.gm_ast.specs.declared.tree.Declaration.{Declaration}
use Rattle.gm_ast.specs.declared.tree.Head.{Head}
use Rattle.gm_ast.specs.declared.tree.Key.{Key}
use Rattle.gm_ast.specs.declared.tree.Sort.{Sort}
use Rattle.gm_ast.specs.declared.tree.Sort.TheVariants as Sorts
use Rattle.gm_ast.specs.declared.tree.Variable.{Variable}
use Rattle.gm_ast.specs.Names.{is, sort_eq}
use Rattle.gm_ast.specs.Program.{Expr, Stmt}
use Rattle.gm_ast.specs.Ways.{is_in}
use Rattle.gm_semantics.specs.declared.slots.Slot.TheVariants.{Scalar}
use Rattle.gm_semantics.specs.Stores.{write}
use Rattle.gm_semantics.specs.Expressions.{value}
use Rattle.gm_semantics.specs.Statements.{Run, State, Course, Goes, Returns, Faults, Stops, variable_at, view_of, with_value, either_way, sequential}
use Rattle.gm_forms.specs.Doing.{Held}
use Rattle.gm_forms.specs.Uses.{Iterates, suits, has_role, use_as, uses_of}
use Rattle.gm_forms.proofs.Named.{both-true}
use Rattle.gm_reductions.proofs.Iterators.{Leads, sequential-leads}
use Rattle.gm_reductions.proofs.TypedAlike.{Led}

-- what may be iterated is no scalar
no-scalar : (v : Variable) → has_role v Iterates ≡ true → is Sorts.Scalar v ≡ false
no-scalar v h = by v.sort h
  where
    by : (s : Sort) → sort_eq Sorts.Iterator s || sort_eq Sorts.Graph s ≡ true → sort_eq Sorts.Scalar s ≡ false
    by Sorts.Graph h = refl
    by Sorts.Iterator h = refl
    by Sorts.Scalar h = absurd (both_ways false refl h)
    by Sorts.Edge h = refl
    by Sorts.NodeProperty h = refl
    by Sorts.EdgeProperty h = refl

-- variables that no statement writes
abbrev pub NoScalars : List Declaration → List ℕ → Type 0
NoScalars ds its = (y : ℕ) → is_in its y ≡ true → is Sorts.Scalar (variable_at ds y) ≡ false

pub one-more : (ds : List Declaration) (n : ℕ) (its : List ℕ) → list_all (suits ds) (use_as Iterates n) ≡ true → NoScalars ds its → NoScalars ds (n ∷ its)
one-more ds n its new known y i = by (nat_eq y n) refl i
  where
    by : (b : Bool) → nat_eq y n ≡ b → b || is_in its y ≡ true → is Sorts.Scalar (variable_at ds y) ≡ false
    by true e i =
        let s = both-true (suits ds (record { variable = n; role = Iterates })) true new in
        let r = both-true (nat_lt n (length ds)) (has_role (variable_at ds n) Iterates) s.0 in
        subst (λ z. is Sorts.Scalar (variable_at ds z) ≡ false) (sym (eqb-true y n e)) (no-scalar (variable_at ds n) r.1)
    by false e i = known y i

module _ (run : Run) where
  pub record Around (its : List ℕ) (s : Stmt) : Type 0 where
    pub named : list_all (suits run.declarations) (uses_of s) ≡ true
    pub iterators : NoScalars run.declarations its

  -- iterators go on to hold nodes
  pub led : (k : ℕ) (its : List ℕ) (off : NoScalars run.declarations its) (c : Course) → ((y : ℕ) (i : is_in its y ≡ true) → Leads run.declarations y (off y i) run refl c) → Led (Held run.graph its) k c
  led k its off (Goes s) h = h
  led k its off (Returns v s) h = tt
  led k its off (Faults e) h = tt
  led k its off Stops h = tt

  pub holds-on : (k : ℕ) (its : List ℕ) (s : Stmt) (a : State) → Around its s → Held run.graph its a.store → Led (Held run.graph its) k (sequential s run a)
  holds-on k its s a h t = led k its h.iterators (sequential s run a) (λ y i. sequential-leads run.declarations y (h.iterators y i) run refl s a h.named (t y i))

  -- a turn of a For
  abbrev pub turn : Key → Head → Expr → Stmt → ℕ → State → Course
  turn key head e s n t =
      let v : State = record t { store = write t.store (Scalar head.iterator) (At (Some n)) } in
      with_value (value e (view_of run v key)) (λ x. either_way (is_true x) (sequential s run) Goes v)
