-- How a checker judges the forms of expressions.
use Rattle.std.proofs.Common.{◌≡◌, ℕ, ◌+◌, Option, length, subst, sym, ap}
use Rattle.std.specs.Prelude.{Some}
use Rattle.gm_base.specs.declared.places.Place.{Place}
use Rattle.gm_base.specs.Rules.{least_from}
use Rattle.gm_ast.specs.declared.surface.Prefix.{Prefix}
use Rattle.gm_ast.specs.declared.surface.Infix.{Infix}
use Rattle.gm_ast.specs.declared.surface.ReductionWord.{ReductionWord}
use Rattle.gm_ast.specs.declared.kinds.Binding.{Binding}
use Rattle.gm_ast.specs.declared.kinds.Reducer.{Reducer}
use Rattle.gm_ast.specs.Surface.{SurfaceName, SurfaceHead, SurfaceExpr, Member, Method, Prefixed, Infixed, Choose, Reduction}
use Rattle.gm_ast.specs.Program.{Expr}
use Rattle.gm_ast.specs.Judged.{Judged, judge, both_of, part_by, broken_by}
use Rattle.gm_ast.specs.Names.{Env, used, both, counted}
use Rattle.gm_ast.specs.Kinds.{Part}
use Rattle.gm_ast.specs.Typing.{typed, condition, start_of, prefix_part, infix_part, choice_part, member_part, method_part, query_of, ranged, reducer_at, fold_numbers, reduction_rule}
use Rattle.gm_types.specs.declared.names.Checker.{Checker}
use Rattle.gm_types.specs.Folding.{folded_parts}
use Rattle.gm_types.specs.Views.{env_of, Judges}
use Rattle.gm_types.proofs.Walks.{judges-both, judges-by, judges-counted}

pub judges-Member : {old mid mid2 new : Checker} {p q : Option Binding} {r : Option Part} (x m : SurfaceName)
    → Judges old mid (used x (env_of old)) p → Judges mid mid2 (used m (env_of mid)) q
    → r ≡ part_by (both_of p q) (member_part old.group x.place) → new.least ≡ least_from mid2.least (broken_by (both_of p q) (member_part old.group x.place))
    → new.declarations.items ≡ mid2.declarations.items → env_of new ≡ env_of mid2
    → Judges old new (typed (Member x m) (env_of old)) r
judges-Member {old = old} x m h k stands noted v n =
    judges-by (member_part old.group x.place) (judges-both (used x) (used m) h k) stands noted v n

pub judges-Method : {old mid new : Checker} {p : Option Binding} {r : Option Part} (x m : SurfaceName)
    → Judges old mid (used x (env_of old)) p
    → r ≡ part_by p (method_part old.group x.place (query_of m.text)) → new.least ≡ least_from mid.least (broken_by p (method_part old.group x.place (query_of m.text)))
    → new.declarations.items ≡ mid.declarations.items → env_of new ≡ env_of mid
    → Judges old new (typed (Method x m) (env_of old)) r
judges-Method {old = old} x m h stands noted v n = judges-by (method_part old.group x.place (query_of m.text)) h stands noted v n

pub judges-Prefix : {old mid new : Checker} {p r : Option Part} (at : Place) (op : Prefix) (e : SurfaceExpr)
    → Judges old mid (typed e (env_of old)) p
    → r ≡ part_by p (prefix_part at op) → new.least ≡ least_from mid.least (broken_by p (prefix_part at op))
    → new.declarations.items ≡ mid.declarations.items → env_of new ≡ env_of mid
    → Judges old new (typed (Prefixed at op e) (env_of old)) r
judges-Prefix at op e h stands noted v n = judges-by (prefix_part at op) h stands noted v n

pub judges-Infix : {old mid mid2 new : Checker} {p q r : Option Part} (at : Place) (op : Infix) (a b : SurfaceExpr)
    → Judges old mid (typed a (env_of old)) p → Judges mid mid2 (typed b (env_of mid)) q
    → r ≡ part_by (both_of p q) (infix_part at op) → new.least ≡ least_from mid2.least (broken_by (both_of p q) (infix_part at op))
    → new.declarations.items ≡ mid2.declarations.items → env_of new ≡ env_of mid2
    → Judges old new (typed (Infixed at op a b) (env_of old)) r
judges-Infix at op a b h k stands noted v n = judges-by (infix_part at op) (judges-both (typed a) (typed b) h k) stands noted v n

-- the parts of a choice, of which the condition is judged as such
pub judges-Choose : {old mid mid2 mid3 new : Checker} {p : Option Expr} {q q2 r : Option Part} (at : Place) (c a b : SurfaceExpr)
    → Judges old mid (condition (start_of c) (typed c) (env_of old)) p → Judges mid mid2 (typed a (env_of mid)) q → Judges mid2 mid3 (typed b (env_of mid2)) q2
    → r ≡ part_by (both_of p (both_of q q2)) (choice_part at) → new.least ≡ least_from mid3.least (broken_by (both_of p (both_of q q2)) (choice_part at))
    → new.declarations.items ≡ mid3.declarations.items → env_of new ≡ env_of mid3
    → Judges old new (typed (Choose at c a b) (env_of old)) r
judges-Choose at c a b h k l stands noted v n =
    judges-by (choice_part at) (judges-both (condition (start_of c) (typed c)) (both (typed a) (typed b)) h (judges-both (typed a) (typed b) k l)) stands noted v n

-- a reduction, whose filter and braces know its iterator
pub judges-Reduction : {old mid begun left new : Checker} {o : Option Binding} {q : Option (ℕ × (Expr × Part))} {r : Option Part}
    (at : Place) (word : ReductionWord) (h : SurfaceHead) (filter body : SurfaceExpr) (close : Place) (f : Reducer) (numbers : ℕ)
    → f ≡ reducer_at (env_of old) at word close → numbers ≡ fold_numbers (env_of old)
    → Judges old mid (ranged h (env_of old)) o
    → begun ≡ record mid { number = mid.number + numbers }
    → Judges begun left (folded_parts f h.iterator filter body (env_of begun)) q
    → r ≡ part_by (both_of o q) (reduction_rule f (start_of body) h)
    → new.least ≡ least_from left.least (broken_by (both_of o q) (reduction_rule f (start_of body) h))
    → new.declarations.items ≡ left.declarations.items → env_of new ≡ env_of left
    → Judges old new (typed (Reduction at word h filter body close) (env_of old)) r
judges-Reduction {old = old} {mid = mid} {begun = begun} {left = left} {new = new} {o = o} {q = q} {r = r} at word h filter body close f numbers is_f is_numbers k is_begun t stands noted v n =
    let parts = folded_parts f h.iterator filter body in
    let counted_from = subst (λ (s : Checker). Judges s left (parts (env_of s)) q) is_begun t in
    let all = judges-both (ranged h) (counted numbers parts) k (judges-counted {old = mid} numbers parts counted_from) in
    let judged = judges-by (reduction_rule f (start_of body) h) all stands noted v n in
    subst (λ (g : Reducer). Judges old new (judge_with g (fold_numbers (env_of old))) r) is_f (subst (λ (m : ℕ). Judges old new (judge_with f m) r) is_numbers judged)
  where
    judge_with : Reducer → ℕ → Judged Part
    judge_with g m = judge (both (ranged h) (counted m (folded_parts g h.iterator filter body)) (env_of old)) (reduction_rule g (start_of body) h)
