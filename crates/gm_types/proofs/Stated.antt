-- How a checker judges the forms of statements that hold statements.
use Rattle.std.proofs.Common.{◌≡◌, ℕ, ◌+◌, ◌-◌, refl, ap, subst, ◌∙◌, Option, length, take, sym, append-nil, arith}
use Rattle.std.specs.Prelude.{Some, Ok, option_map}
use Rattle.gm_base.specs.declared.places.Place.{Place}
use Rattle.gm_ast.specs.declared.surface.LoopWord.{LoopWord}
use Rattle.gm_ast.specs.declared.tree.Key.{Key}
use Rattle.gm_ast.specs.declared.kinds.Binding.{Binding}
use Rattle.gm_ast.specs.Surface.{SurfaceName, SurfaceHead, SurfaceExpr, SurfaceStmt, Skip, Loop, If, While, Do, InBfs, InBfsBoth}
use Rattle.gm_ast.specs.Program as P
use Rattle.gm_ast.specs.Program.{Expr, Stmt}
use Rattle.gm_ast.specs.Judged.{Judged, both_of, part_by}
use Rattle.gm_ast.specs.Names.{Env, both, iterated, numbered, operators_of}
use Rattle.gm_ast.specs.Typing.{ranged, head_with}
use Rattle.gm_ast.specs.Statements.{test, checked, searched, rooted, graph_searched, search_of, loops_of, loop_of}
use Rattle.gm_types.specs.declared.names.Checker.{Checker}
use Rattle.gm_types.specs.declared.statements.Around.{Around}
use Rattle.gm_types.specs.Views.{env_of, Judges, Follows, Enters, Leaves}
use Rattle.gm_types.specs.Shapes.{under_key}
use Rattle.gm_types.proofs.Walks.{same_counts, judges-both, judges-numbered}
use Rattle.gm_types.proofs.Scopes.{judges-iterated}
use Rattle.gm_types.proofs.Blocks.{judges-made, judges-scoped, begun_of}

-- a choice between statements
pub judges-If : {old m1 m2 new : Checker} {p : Option Expr} {q r t : Option Stmt} (at : Place) (c : SurfaceExpr) (a b : SurfaceStmt)
    → Judges old m1 (test c (env_of old)) p → Judges m1 m2 (numbered (checked a) (env_of m1)) q → Judges m2 new (numbered (checked b) (env_of m2)) r
    → t ≡ part_by (both_of p (both_of q r)) (λ ps. Ok (P.If old.key ps.0 ps.1.0 ps.1.1))
    → Judges old new (checked (If at c a b) (env_of old)) t
judges-If {old = old} at c a b h k l is =
    judges-made (λ ps. P.If old.key ps.0 ps.1.0 ps.1.1)
    (judges-both (test c) (both (numbered (checked a)) (numbered (checked b))) h (judges-both (numbered (checked a)) (numbered (checked b)) k l)) is

-- a loop with its condition first
pub judges-While : {old mid new : Checker} {p : Option Expr} {q t : Option Stmt} (at : Place) (c : SurfaceExpr) (s : SurfaceStmt)
    → Judges old mid (test c (env_of old)) p → Judges mid new (numbered (checked s) (env_of mid)) q
    → t ≡ part_by (both_of p q) (λ ps. Ok (P.While old.key at ps.0 ps.1))
    → Judges old new (checked (While at c s) (env_of old)) t
judges-While {old = old} at c s h k is = judges-made (λ ps. P.While old.key at ps.0 ps.1) (judges-both (test c) (numbered (checked s)) h k) is

-- a loop with its condition last
pub judges-Do : {old mid new : Checker} {p : Option Stmt} {q : Option Expr} {t : Option Stmt} (at : Place) (s : SurfaceStmt) (c : SurfaceExpr)
    → Judges old mid (numbered (checked s) (env_of old)) p → Judges mid new (test c (env_of mid)) q
    → t ≡ part_by (both_of p q) (λ ps. Ok (P.Do old.key at ps.0 ps.1))
    → Judges old new (checked (Do at s c) (env_of old)) t
judges-Do {old = old} at s c h k is = judges-made (λ ps. P.Do old.key at ps.0 ps.1) (judges-both (numbered (checked s)) (test c) h k) is

-- a loop over nodes or neighbours
pub judges-Loop : {old mid new : Checker} {o : Option Binding} {q : Option (ℕ × (Expr × Stmt))} {t : Option Stmt} (at : Place) (w : LoopWord) (h : SurfaceHead) (f : SurfaceExpr) (s : SurfaceStmt)
    → Judges old mid (ranged h (env_of old)) o → Judges mid new (iterated h.iterator (loops_of w) (both (test f) (numbered (checked s))) (env_of mid)) q
    → t ≡ part_by (both_of o q) (λ ps. Ok (loop_of w old.key at (head_with h ps.0 ps.1.0) ps.1.1.0 ps.1.1.1))
    → Judges old new (checked (Loop at w h f s) (env_of old)) t
judges-Loop {old = old} at w h f s k l is =
    judges-made (λ ps. loop_of w old.key at (head_with h ps.0 ps.1.0) ps.1.1.0 ps.1.1.1)
    (judges-both (ranged h) (iterated h.iterator (loops_of w) (both (test f) (numbered (checked s)))) k l) is

-- a search
pub judges-InBfs : {old m1 m2 new : Checker} {g r : Option Binding} {q : Option (ℕ × (Expr × Stmt))} {t : Option Stmt} (at : Place) (x graph root : SurfaceName) (f : SurfaceExpr) (s : SurfaceStmt)
    → Judges old m1 (graph_searched graph (env_of old)) g → Judges m1 m2 (rooted root (env_of m1)) r
    → Judges m2 new (iterated x 1 (both (test f) (numbered (checked s))) (env_of m2)) q
    → t ≡ part_by (both_of (both_of g r) q) (λ ps. Ok (P.InBfs old.key at (search_of root ps.0 ps.1.0) ps.1.1.0 ps.1.1.1))
    → Judges old new (checked (InBfs at x graph root f s) (env_of old)) t
judges-InBfs {old = old} at x graph root f s h k l is =
    judges-made (λ ps. P.InBfs old.key at (search_of root ps.0 ps.1.0) ps.1.1.0 ps.1.1.1)
    (judges-both (both (graph_searched graph) (rooted root)) (iterated x 1 (both (test f) (numbered (checked s))))
    (judges-both (graph_searched graph) (rooted root) h k) l) is

-- the part of a search after InReverse
pub judges-searched : {old new : Checker} {o : Option (Expr × Stmt)} (f : SurfaceExpr) (s : SurfaceStmt)
    → Judges old new (both (test f) (numbered (checked s)) (env_of old)) o
    → Judges old new (searched (test f) (numbered (checked s)) (env_of old)) (option_map (under_key old.key) o)
judges-searched {old = old} {o = o} f s h = judges-made (under_key old.key) h (made o)
  where
    made : (o : Option (Expr × Stmt)) → option_map (under_key old.key) o ≡ part_by o (λ ps. Ok (under_key old.key ps))
    made Option.None = refl
    made (Option.Some ps) = refl

-- a part leaves the key of the operators as it is
pub key-of : {A : Type 0} {old new : Checker} {x : Judged A} {p : Option A} → Judges old new x p → new.key ≡ old.key
key-of h = ap (λ (env : Env). env.key) h.names

-- the end of a loop, of which the names and the depth before it were kept
pub leaves-from : {old inner new : Checker} {known depth : ℕ} → known ≡ length old.scope.names.entries → depth ≡ old.depth → inner.key ≡ old.key
    → new.scope.names.entries ≡ take known inner.scope.names.entries → new.iterators.items ≡ take (length inner.iterators.items - 1) inner.iterators.items
    → new ≡ record inner { scope = new.scope; iterators = new.iterators; depth = depth } → Leaves old inner new
leaves-from {inner = inner} is_known is_depth is_key cut iterators rest = record {
  known = cut ∙ ap (λ n. take n inner.scope.names.entries) is_known;
  iterators = iterators;
  depth = ap (λ (c : Checker). c.depth) rest ∙ is_depth;
  number = ap (λ (c : Checker). c.number) rest;
  key = ap (λ (c : Checker). c.key) rest ∙ is_key;
  group = ap (λ (c : Checker). c.group) rest;
  result = ap (λ (c : Checker). c.result) rest;
  declared = ap (λ (c : Checker). c.declarations.items) rest;
  least = ap (λ (c : Checker). c.least) rest;
}

-- a statement that is a scope of its own, from its beginning to its end
pub judges-ended : {old begun inner new : Checker} {p : Option Stmt} (s : SurfaceStmt) (around : Around)
    → around ≡ record { key = old.key; known = length old.scope.names.entries } → begun ≡ begun_of old → Follows begun inner s (checked s (env_of begun)) p
    → new.scope.names.entries ≡ take around.known inner.scope.names.entries → new ≡ record inner { scope = new.scope; key = around.key }
    → Judges old new (numbered (checked s) (env_of old)) p
judges-ended {inner = inner} {new = new} s around is begun h cut rest =
    judges-scoped s begun h (cut ∙ ap (λ (a : Around). take a.known inner.scope.names.entries) is) (rest ∙ ap (λ (a : Around). record inner { scope = new.scope; key = a.key }) is)

-- an absent branch takes a number
pub judges-absent : {old new : Checker} → new ≡ record old { number = old.number + 1 } → Judges old new (numbered (checked Skip) (env_of old)) (Some P.Skip)
judges-absent {old = old} is = record {
  stands_for = refl;
  least = ap (λ (c : Checker). c.least) is;
  declared = ap (λ (c : Checker). c.declarations.items) is ∙ sym (append-nil old.declarations.items);
  names = ap env_of is ∙ same_counts (env_of old) _ _ _ _ (omega arith) (omega arith);
}

-- the part of a search after InReverse, with its number
pub judges-back : {old begun inner : Checker} {o : Option (Expr × Stmt)} (f : SurfaceExpr) (s : SurfaceStmt)
    → begun ≡ begun_of old → Judges begun inner (both (test f) (numbered (checked s)) (env_of begun)) o
    → Judges old (record inner { key = old.key }) (numbered (searched (test f) (numbered (checked s))) (env_of old)) (option_map (under_key begun.key) o)
judges-back {old = old} {begun = begun} {inner = inner} {o = o} f s is h =
    let part = searched (test f) (numbered (checked s)) in
    let held = subst (λ (b : Checker). Judges b inner (part (env_of b)) (option_map (under_key begun.key) o)) is (judges-searched f s h) in
    judges-numbered {old = old} part held

-- a search with a part after InReverse
pub judges-InBfsBoth : {old m1 m2 new : Checker} {g r : Option Binding} {q : Option (ℕ × ((Expr × Stmt) × (Key × (Expr × Stmt))))} {t : Option Stmt}
    (at : Place) (x graph root : SurfaceName) (f : SurfaceExpr) (s : SurfaceStmt) (reverse : Place) (h : SurfaceExpr) (b : SurfaceStmt)
    → Judges old m1 (graph_searched graph (env_of old)) g → Judges m1 m2 (rooted root (env_of m1)) r
    → Judges m2 new (iterated x 1 (both (both (test f) (numbered (checked s))) (numbered (searched (test h) (numbered (checked b))))) (env_of m2)) q
    → t ≡ part_by (both_of (both_of g r) q) (λ ps. Ok (P.InBfsBoth old.key at (search_of root ps.0 ps.1.0) ps.1.1.0.0 ps.1.1.0.1 ps.1.1.1.0 ps.1.1.1.1.0 ps.1.1.1.1.1))
    → Judges old new (checked (InBfsBoth at x graph root f s reverse h b) (env_of old)) t
judges-InBfsBoth {old = old} at x graph root f s reverse h b k l m is =
    judges-made (λ ps. P.InBfsBoth old.key at (search_of root ps.0 ps.1.0) ps.1.1.0.0 ps.1.1.0.1 ps.1.1.1.0 ps.1.1.1.1.0 ps.1.1.1.1.1)
    (judges-both (both (graph_searched graph) (rooted root)) (iterated x 1 (both (both (test f) (numbered (checked s))) (numbered (searched (test h) (numbered (checked b))))))
    (judges-both (graph_searched graph) (rooted root) k l) m) is
