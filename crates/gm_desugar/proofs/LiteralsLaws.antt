-- A program with negative literals means the same, and keeps what every pass keeps.
use Rattle.std.proofs.Common.{◌≡◌, ℕ, Option, Bool, true, false, List, [], ◌∷◌, map, refl, sym, ap, subst, ◌∙◌, Some, None, Result, Ok, Err}
use Rattle.std.specs.Prelude.{◌&&◌, neg_ℤ, option_map, IfOk}
use Rattle.std.specs.List.{list_all}
use Rattle.gm_base.specs.declared.places.Place.{Place}
use Rattle.gm_value.specs.declared.faults.FaultKind.{FaultKind}
use Rattle.gm_value.specs.declared.operations.Op1.{Op1}
use Rattle.gm_value.specs.declared.operations.Op1.TheVariants.{Neg}
use Rattle.gm_value.specs.declared.values.VType.{VType}
use Rattle.gm_value.specs.declared.values.Value.{Value}
use Rattle.gm_value.specs.Numbers.{type_of, number_of, fits, IsOf}
use Rattle.gm_value.specs.Operations.{result1, fits1}
use Rattle.gm_value.proofs.NumberLaws.{checked-typed}
use Rattle.gm_ast.specs.declared.tree.Declaration.{Declaration}
use Rattle.gm_ast.specs.Program.{Expr, Const, Unary, Binary, Both, Either, Choose, Folded, Stmt, Then, Declare, Assign, Defer, Combine, Group, Foreach, For, If, While, Do, InBfs, InBfsBoth, Return, Program}
use Rattle.gm_semantics.specs.Expressions.{plain, located}
use Rattle.gm_forms.specs.Meanings.{SameMeaning}
use Rattle.gm_forms.specs.Sharing.{sights_in}
use Rattle.gm_forms.specs.Typing.{type_if, by_one}
use Rattle.gm_forms.proofs.Named.{both-true}
use Rattle.gm_forms.proofs.Weaker.{and-true}
use Rattle.gm_desugar.specs.Compounds.{has_no_compounds_in, has_no_compounds}
use Rattle.gm_desugar.specs.Groups.{has_no_groups}
use Rattle.gm_desugar.specs.Literals.{negated, applied, with_literals, constant_or, each_expr_in, each_expr, with_negative_literals, is_err, has_literals, passes, all_exprs_in, all_exprs}
use Rattle.gm_desugar.specs.Stages.{WithoutCompounds, WithLiterals}
use Rattle.gm_desugar.proofs.EachExpr.{phase-each}
use Rattle.gm_desugar.proofs.Fewer.{same-sights}
use Rattle.gm_desugar.proofs.Replacing.{ForExpr, expr-same, expr-trans, means-same, ready-same}
use Rattle.gm_desugar.proofs.ReplacingExprs.{no-type, expr-unary, expr-binary, expr-both, expr-either, expr-choose, expr-fold}

-- a minus keeps the type of its constant
known : (c : Bool) (u t : VType) → type_if c u ≡ Some t → Some u ≡ Some t
known true u t h = h
known false u t h = no-type t h

minus-typed : (b : Bool) (u t : VType) → by_one (type_if b u) (λ x. type_if (fits1 Neg x) x) ≡ Some t → Some u ≡ Some t
minus-typed true u t h = known (fits1 Neg u) u t h
minus-typed false u t h = no-type t h

negative-typed : (v n : Value) (t : VType) → result1 Neg v ≡ Ok n → by_one (type_if (fits (type_of v) (number_of v)) (type_of v)) (λ x. type_if (fits1 Neg x) x) ≡ Some t → type_if (fits (type_of n) (number_of n)) (type_of n) ≡ Some t
negative-typed v n t h i =
    let is : IsOf (type_of v) n = subst (λ (x : Result Value FaultKind). IfOk x (IsOf (type_of v))) h (checked-typed (type_of v) (neg_ℤ (number_of v))) in
    ap (λ (x : VType). type_if (fits x (number_of n)) x) is.0 ∙ (ap (λ (b : Bool). type_if b (type_of v)) is.1 ∙ minus-typed (fits (type_of v) (number_of v)) (type_of v) t i)

module _ (ds : List Declaration) where
  for-constant : (at : Place) (v n : Value) → result1 Neg v ≡ Ok n → ForExpr ds (Unary Neg at (Const v)) (Const n)
  for-constant at v n h = record {
    same = λ w. sym (ap (λ (x : Result Value FaultKind). plain (located w at x)) h);
    named = λ i. i;
    typed = λ t i. negative-typed v n t h i;
    hoisted = λ f i. i;
    rest = λ k f i. absurd i;
    hoists = λ i. refl;
    safe = λ i. refl;
    folds = λ i. refl;
    seen = same-sights (sights_in (Const n));
    away = λ x i. i;
    flat = λ its edge i. refl;
    outer = λ levels m i. refl;
    phase = λ i. refl;
  }

  for-negated : (at : Place) (e : Expr) → ForExpr ds (Unary Neg at e) (negated at e)
  for-negated at (Const v) = by (result1 Neg v) refl
    where
      by : (x : Result Value FaultKind) → result1 Neg v ≡ x → ForExpr ds (Unary Neg at (Const v)) (constant_or at v x)
      by (Ok n) h = for-constant at v n h
      by (Err f) h = expr-same ds (Unary Neg at (Const v))
  for-negated at e = expr-same ds (Unary Neg at e)

  for-applied : (op : Op1) (at : Place) (e : Expr) → ForExpr ds (Unary op at e) (applied op at e)
  for-applied Neg at e = for-negated at e
  for-applied op at e = expr-same ds (Unary op at e)

  for-literals : (e : Expr) → ForExpr ds e (with_literals e)
  for-literals (Unary op at e) = expr-trans ds (Unary op at e) (Unary op at (with_literals e)) (applied op at (with_literals e)) (expr-unary ds op at e (with_literals e) (for-literals e)) (for-applied op at (with_literals e))
  for-literals (Binary op at a b) = expr-binary ds a (with_literals a) b (with_literals b) (for-literals a) (for-literals b) op at
  for-literals (Both a b) = expr-both ds a (with_literals a) b (with_literals b) (for-literals a) (for-literals b)
  for-literals (Either a b) = expr-either ds a (with_literals a) b (with_literals b) (for-literals a) (for-literals b)
  for-literals (Choose c a b) = expr-choose ds c (with_literals c) a (with_literals a) b (with_literals b) (for-literals c) (for-literals a) (for-literals b)
  for-literals (Folded f h a b) = expr-fold ds a (with_literals a) b (with_literals b) (for-literals a) (for-literals b) f h
  for-literals e = expr-same ds e

-- none is left
negated-has : (at : Place) (e : Expr) → has_literals e ≡ true → has_literals (negated at e) ≡ true
negated-has at (Const v) h = by (result1 Neg v) refl
  where
    by : (x : Result Value FaultKind) → result1 Neg v ≡ x → has_literals (constant_or at v x) ≡ true
    by (Ok n) h = refl
    by (Err f) h = ap (λ (x : Result Value FaultKind). is_err x && true) h
negated-has at e h = h

applied-has : (op : Op1) (at : Place) (e : Expr) → has_literals e ≡ true → has_literals (applied op at e) ≡ true
applied-has Neg at e h = negated-has at e h
applied-has op at e h = h

two-have : (a b : Expr) → has_literals a ≡ true → has_literals b ≡ true → has_literals a && has_literals b ≡ true
two-have a b h k = and-true (has_literals a) (has_literals b) h k

have : (e : Expr) → has_literals (with_literals e) ≡ true
have (Unary op at e) = applied-has op at (with_literals e) (have e)
have (Binary op at a b) = two-have (with_literals a) (with_literals b) (have a) (have b)
have (Both a b) = two-have (with_literals a) (with_literals b) (have a) (have b)
have (Either a b) = two-have (with_literals a) (with_literals b) (have a) (have b)
have (Choose c a b) = and-true (has_literals (with_literals c)) (has_literals (with_literals a) && has_literals (with_literals b)) (have c) (two-have (with_literals a) (with_literals b) (have a) (have b))
have (Folded f h a b) = two-have (with_literals a) (with_literals b) (have a) (have b)
have e = refl

option-has : (e : Option Expr) → passes has_literals (option_map with_literals e) ≡ true
option-has None = refl
option-has (Some e) = have e

all-have : (es : List Expr) → list_all has_literals (map with_literals es) ≡ true
all-have [] = refl
all-have (e ∷ es) = and-true (has_literals (with_literals e)) (list_all has_literals (map with_literals es)) (have e) (all-have es)

abbrev In : Stmt → Bool
In s = all_exprs_in has_literals (each_expr_in with_literals s)

body-has : (s : Stmt) → In s ≡ true
body-has (Then a b) = and-true (In a) (In b) (body-has a) (body-has b)
body-has (Declare k x e) = option-has e
body-has (Assign k t e) = have e
body-has (Defer k t e) = have e
body-has (Combine k total r ts es) = all-have es
body-has (If k c a b) = and-true (has_literals (with_literals c)) (In a && In b) (have c) (and-true (In a) (In b) (body-has a) (body-has b))
body-has (Foreach k at h c s) = and-true (has_literals (with_literals c)) (In s) (have c) (body-has s)
body-has s = refl

abbrev Has : Stmt → Bool
Has s = all_exprs has_literals (each_expr with_literals s)

phase-has : (s : Stmt) → Has s ≡ true
phase-has (Then a b) = and-true (Has a) (Has b) (phase-has a) (phase-has b)
phase-has (Declare k x e) = option-has e
phase-has (Assign k t e) = have e
phase-has (Combine k total r ts es) = all-have es
phase-has (Group k at g p e) = have e
phase-has (Foreach k at h c s) = and-true (has_literals (with_literals c)) (In s) (have c) (body-has s)
phase-has (For k at h c s) = and-true (has_literals (with_literals c)) (Has s) (have c) (phase-has s)
phase-has (If k c a b) = and-true (has_literals (with_literals c)) (Has a && Has b) (have c) (and-true (Has a) (Has b) (phase-has a) (phase-has b))
phase-has (While k at c s) = and-true (has_literals (with_literals c)) (Has s) (have c) (phase-has s)
phase-has (Do k at s c) = and-true (Has s) (has_literals (with_literals c)) (phase-has s) (have c)
phase-has (InBfs k at h c s) = and-true (has_literals (with_literals c)) (In s) (have c) (body-has s)
phase-has (InBfsBoth k at h c s back_key d back) =
    and-true (has_literals (with_literals c)) (In s && (has_literals (with_literals d) && In back)) (have c)
    (and-true (In s) (has_literals (with_literals d) && In back) (body-has s) (and-true (has_literals (with_literals d)) (In back) (have d) (body-has back)))
phase-has (Return k at e) = option-has e
phase-has s = refl

-- what was taken out before stays out
groups-each : (f : Expr → Expr) (s : Stmt) → has_no_groups s ≡ true → has_no_groups (each_expr f s) ≡ true
groups-each f (Then a b) h = let q = both-true (has_no_groups a) (has_no_groups b) h in and-true (has_no_groups (each_expr f a)) (has_no_groups (each_expr f b)) (groups-each f a q.0) (groups-each f b q.1)
groups-each f (For k at hd c s) h = groups-each f s h
groups-each f (If k c a b) h = let q = both-true (has_no_groups a) (has_no_groups b) h in and-true (has_no_groups (each_expr f a)) (has_no_groups (each_expr f b)) (groups-each f a q.0) (groups-each f b q.1)
groups-each f (While k at c s) h = groups-each f s h
groups-each f (Do k at s c) h = groups-each f s h
groups-each f s h = h

module _ (ds : List Declaration) (f : Expr → Expr) where
  compounds-in-each : (n : ℕ) (inner : Bool) (s : Stmt) → has_no_compounds_in ds n inner s ≡ true → has_no_compounds_in ds n inner (each_expr_in f s) ≡ true
  compounds-in-each n inner (Then a b) h =
      let q = both-true (has_no_compounds_in ds n inner a) (has_no_compounds_in ds n inner b) h in
      and-true (has_no_compounds_in ds n inner (each_expr_in f a)) (has_no_compounds_in ds n inner (each_expr_in f b)) (compounds-in-each n inner a q.0) (compounds-in-each n inner b q.1)
  compounds-in-each n inner (If k c a b) h =
      let q = both-true (has_no_compounds_in ds n inner a) (has_no_compounds_in ds n inner b) h in
      and-true (has_no_compounds_in ds n inner (each_expr_in f a)) (has_no_compounds_in ds n inner (each_expr_in f b)) (compounds-in-each n inner a q.0) (compounds-in-each n inner b q.1)
  compounds-in-each n inner (Foreach k at hd c s) h = compounds-in-each n true s h
  compounds-in-each n inner s h = h

  compounds-each : (s : Stmt) → has_no_compounds ds s ≡ true → has_no_compounds ds (each_expr f s) ≡ true
  compounds-each (Then a b) h = let q = both-true (has_no_compounds ds a) (has_no_compounds ds b) h in and-true (has_no_compounds ds (each_expr f a)) (has_no_compounds ds (each_expr f b)) (compounds-each a q.0) (compounds-each b q.1)
  compounds-each (Foreach k at hd c s) h = compounds-in-each hd.iterator false s h
  compounds-each (For k at hd c s) h = compounds-each s h
  compounds-each (If k c a b) h = let q = both-true (has_no_compounds ds a) (has_no_compounds ds b) h in and-true (has_no_compounds ds (each_expr f a)) (has_no_compounds ds (each_expr f b)) (compounds-each a q.0) (compounds-each b q.1)
  compounds-each (While k at c s) h = compounds-each s h
  compounds-each (Do k at s c) h = compounds-each s h
  compounds-each (InBfs k at hd c s) h = compounds-in-each hd.iterator false s h
  compounds-each (InBfsBoth k at hd c s back_key d back) h =
      let q = both-true (has_no_compounds_in ds hd.iterator false s) (has_no_compounds_in ds hd.iterator false back) h in
      and-true (has_no_compounds_in ds hd.iterator false (each_expr_in f s)) (has_no_compounds_in ds hd.iterator false (each_expr_in f back)) (compounds-in-each hd.iterator false s q.0) (compounds-in-each hd.iterator false back q.1)
  compounds-each s h = h

pub same-with_negative_literals : (p : Program) → SameMeaning p (with_negative_literals p)
same-with_negative_literals p = means-same p (each_expr with_literals p.body) (phase-each p.declarations with_literals (for-literals p.declarations) p.result p.body)

pub kept : (p : Program) → WithoutCompounds p → WithLiterals (with_negative_literals p)
kept p r = record {
  without_compounds = record {
    without_groups = record {
      ready = ready-same p (each_expr with_literals p.body) (phase-each p.declarations with_literals (for-literals p.declarations) p.result p.body) r.without_groups.ready;
      no_groups = groups-each with_literals p.body r.without_groups.no_groups;
    };
    no_compounds = compounds-each p.declarations with_literals p.body r.no_compounds;
  };
  literals = phase-has p.body;
}
