-- What a body writes or reduces is no iterator.
use Rattle.std.proofs.Common.{◌≡◌, ℕ, Bool, true, false, List, [], ◌∷◌, ◌++◌, length, refl, ap, ◌∙◌, Option, Some, None, ⊎_elim}
use Rattle.std.specs.Prelude.{◌&&◌, ◌||◌, not, nat_eq, nat_lt}
use Rattle.std.specs.List.{list_all}
use Rattle.std.proofs.lemmas.Bool.{both_ways}
use Rattle.gm_value.specs.Bag.{IsIn}
use Rattle.gm_ast.specs.declared.tree.Declaration.{Declaration}
use Rattle.gm_base.specs.declared.places.Place.{Place}
use Rattle.gm_ast.specs.declared.tree.Head.{Head}
use Rattle.gm_ast.specs.declared.tree.Key.{Key}
use Rattle.gm_ast.specs.declared.tree.Sort.{Sort}
use Rattle.gm_ast.specs.declared.tree.Sort.TheVariants as Sorts
use Rattle.gm_ast.specs.declared.tree.Target.{Target}
use Rattle.gm_ast.specs.declared.tree.Target.TheVariants as T
use Rattle.gm_ast.specs.declared.tree.Variable.{Variable}
use Rattle.gm_ast.specs.Names.{sort_eq}
use Rattle.gm_ast.specs.Program.{Expr, Stmt, Then, Declare, Assign, Defer, Combine, Foreach, If}
use Rattle.gm_semantics.specs.Statements.{variable_at}
use Rattle.gm_forms.specs.Cut.{touched, keeps_iterators}
use Rattle.gm_forms.specs.Sharing.{written_by, variables_of}
use Rattle.gm_forms.specs.Uses.{Role, Iterates, Written, Declared, NodeValue, Owner, Use, has_role, suits, use_as, owner_role, uses_in, uses_of_head, uses_of_target, uses_of_targets, uses_of_declared, uses_in_all, uses_of}
use Rattle.gm_forms.proofs.CutTests.{found}
use Rattle.gm_forms.proofs.Doings.{in-either}
use Rattle.gm_forms.proofs.Named.{both-true, all-append}
use Rattle.gm_forms.proofs.Weaker.{and-true}
use Rattle.gm_ast.specs.Ways.{is_in}

-- a variable that iterates is nothing else that a body may change
scalars-apart : (v : Variable) → has_role v Iterates ≡ true → has_role v Written ≡ true → ⊥
scalars-apart v h w = by v.sort h w
  where
    by : (s : Sort) → sort_eq Sorts.Iterator s || sort_eq Sorts.Graph s ≡ true → sort_eq Sorts.Scalar s ≡ true → ⊥
    by Sorts.Graph h w = both_ways false refl w
    by Sorts.Iterator h w = both_ways false refl w
    by Sorts.Scalar h w = both_ways false refl h
    by Sorts.Edge h w = both_ways false refl h
    by Sorts.NodeProperty h w = both_ways false refl h
    by Sorts.EdgeProperty h w = both_ways false refl h

properties-apart : (v : Variable) → has_role v Iterates ≡ true → has_role v NodeValue ≡ true → ⊥
properties-apart v h w = by v.sort h w
  where
    by : (s : Sort) → sort_eq Sorts.Iterator s || sort_eq Sorts.Graph s ≡ true → sort_eq Sorts.NodeProperty s ≡ true → ⊥
    by Sorts.Graph h w = both_ways false refl w
    by Sorts.Iterator h w = both_ways false refl w
    by Sorts.Scalar h w = both_ways false refl h
    by Sorts.Edge h w = both_ways false refl h
    by Sorts.NodeProperty h w = both_ways false refl h
    by Sorts.EdgeProperty h w = both_ways false refl h

declared-apart : (v : Variable) → has_role v Iterates ≡ true → has_role v Declared ≡ true → ⊥
declared-apart v h w = by v.sort h w
  where
    by : (s : Sort) → sort_eq Sorts.Iterator s || sort_eq Sorts.Graph s ≡ true → sort_eq Sorts.Scalar s || (sort_eq Sorts.NodeProperty s && nat_eq v.depth 0) ≡ true → ⊥
    by Sorts.Graph h w = both_ways false refl w
    by Sorts.Iterator h w = both_ways false refl w
    by Sorts.Scalar h w = both_ways false refl h
    by Sorts.Edge h w = both_ways false refl h
    by Sorts.NodeProperty h w = both_ways false refl h
    by Sorts.EdgeProperty h w = both_ways false refl h

module _ (ds : List Declaration) where
  abbrev Suit : List Use → Type 0
  Suit us = list_all (suits ds) us ≡ true

  role-of : (role : Role) (x : ℕ) → Suit (use_as role x) → has_role (variable_at ds x) role ≡ true
  role-of role x h = (both-true (nat_lt x (length ds)) (has_role (variable_at ds x) role) (both-true (suits ds (record { variable = x; role = role })) true h).0).1

  -- y: an iterator
  module _ (y : ℕ) (iterates : has_role (variable_at ds y) Iterates ≡ true) where
    same-role : (role : Role) (x : ℕ) → y ≡ x → Suit (use_as role x) → has_role (variable_at ds y) role ≡ true
    same-role role x e h = ap (λ z. has_role (variable_at ds z) role) e ∙ role-of role x h

    target-apart : (t : Target) → Suit (uses_of_target t) → IsIn y (written_by t) → ⊥
    target-apart (T.Scalar x at) h i = ⊎_elim (λ e. scalars-apart (variable_at ds y) iterates (same-role Written x e h)) (λ j. j) i
    target-apart (T.Property x p at) h i = ⊎_elim (λ e. properties-apart (variable_at ds y) iterates (same-role NodeValue p e (all-append (suits ds) (use_as Owner x) (use_as NodeValue p) h).1)) (λ j. j) i

    targets-apart : (ts : List Target) → Suit (uses_of_targets ts) → IsIn y (variables_of ts) → ⊥
    targets-apart [] h i = i
    targets-apart (t ∷ ts) h i =
        let r = all-append (suits ds) (uses_of_target t) (uses_of_targets ts) h in
        ⊎_elim (λ j. target-apart t r.0 j) (λ j. targets-apart ts r.1 j) (in-either y (written_by t) (variables_of ts) i)

    declare-apart : (x : ℕ) (e : Option Expr) → Suit (uses_of_declared x e) → y ≡ x → ⊥
    declare-apart x None h e = declared-apart (variable_at ds y) iterates (same-role Declared x e h)
    declare-apart x (Some v) h e = scalars-apart (variable_at ds y) iterates (same-role Written x e (all-append (suits ds) (use_as Written x) (uses_in v) h).0)

    pub touched-apart : (s : Stmt) → Suit (uses_of s) → IsIn y (touched s) → ⊥
    touched-apart (Then a b) h i = let r = all-append (suits ds) (uses_of a) (uses_of b) h in ⊎_elim (λ j. touched-apart a r.0 j) (λ j. touched-apart b r.1 j) (in-either y (touched a) (touched b) i)
    touched-apart (Declare k x e) h i = ⊎_elim (λ j. declare-apart x e h j) (λ j. j) i
    touched-apart (Assign k t e) h i = target-apart t (all-append (suits ds) (uses_of_target t) (uses_in e) h).0 i
    touched-apart (Defer k t e) h i = target-apart t (all-append (suits ds) (uses_of_target t) (uses_in e) h).0 i
    touched-apart (Combine k total r ts es) h i = targets-apart ts (all-append (suits ds) (uses_of_targets ts) (uses_in_all es) h).0 i
    touched-apart (Foreach k at hd test body) h i = touched-apart body (all-append (suits ds) (uses_in test) (uses_of body) (all-append (suits ds) (uses_of_head hd) (uses_in test ++ uses_of body) h).1).1 i
    touched-apart (If k c a b) h i =
        let r = all-append (suits ds) (uses_of a) (uses_of b) (all-append (suits ds) (uses_in c) (uses_of a ++ uses_of b) h).1 in
        ⊎_elim (λ j. touched-apart a r.0 j) (λ j. touched-apart b r.1 j) (in-either y (touched a) (touched b) i)
    touched-apart s h i = i

  pub iterates-of : (k : Key) (at : Place) (hd : Head) (test : Expr) (body : Stmt) → Suit (uses_of (Foreach k at hd test body)) → has_role (variable_at ds hd.iterator) Iterates ≡ true
  iterates-of k at hd test body h =
      role-of Iterates hd.iterator (all-append (suits ds) (use_as Iterates hd.iterator) (use_as (owner_role hd.domain) hd.owner) (all-append (suits ds) (uses_of_head hd) (uses_in test ++ uses_of body) h).0).0

  -- so no inner loop writes its own iterator
  pub keeps-named : (s : Stmt) → Suit (uses_of s) → keeps_iterators s ≡ true
  keeps-named (Then a b) h = let r = all-append (suits ds) (uses_of a) (uses_of b) h in and-true (keeps_iterators a) (keeps_iterators b) (keeps-named a r.0) (keeps-named b r.1)
  keeps-named (If k c a b) h =
      let r = all-append (suits ds) (uses_of a) (uses_of b) (all-append (suits ds) (uses_in c) (uses_of a ++ uses_of b) h).1 in
      and-true (keeps_iterators a) (keeps_iterators b) (keeps-named a r.0) (keeps-named b r.1)
  keeps-named (Foreach k at hd test body) h = by (is_in (touched body) hd.iterator) refl
    where
      by : (b : Bool) → is_in (touched body) hd.iterator ≡ b → not b ≡ true
      by true e =
          absurd (touched-apart hd.iterator (iterates-of k at hd test body h) body (all-append (suits ds) (uses_in test) (uses_of body) (all-append (suits ds) (uses_of_head hd) (uses_in test ++ uses_of body) h).1).1
          (found (touched body) hd.iterator e))
      by false e = refl
  keeps-named s h = refl
