-- The spots of a statement are added part by part.
use Rattle.std.proofs.Common.{◌≡◌, Vec, List, [], ◌∷◌, ◌++◌, map, refl, ap, ◌∙◌, rules}
use Rattle.std.specs.Prelude.{Box, box_value}
use Rattle.std.specs.declared.alloc.Global.{Global}
use Rattle.gm_value.specs.declared.reductions.Reduce.{Reduce}
use Rattle.gm_ast.specs.declared.tree.Expr as E
use Rattle.gm_ast.specs.declared.tree.Key.{Key}
use Rattle.gm_ast.specs.declared.tree.Stmt as S
use Rattle.gm_ast.specs.declared.tree.Stmt.{the_lemmas as stmt_lemmas}
use Rattle.gm_ast.specs.declared.tree.Target.{Target}
use Rattle.gm_ast.specs.declared.tree.TotalKey.{TotalKey}
use Rattle.gm_ast.specs.Program as P
use Rattle.gm_ast.specs.Tree.{expr_of, stmt_of}
use Rattle.gm_lowering.specs.Bodies.{reduce_spots}
use Rattle.gm_lowering.specs.Places.{Spot, spots_in, spots_in_all}
use Rattle.gm_lowering.specs.Plans.{Way, way_of}
use Rattle.gm_layouts.specs.Where.{where_of}
use Rattle.gm_places.specs.declared.spreads.BodySite.{BodySite}
use Rattle.gm_places.specs.Sites.{spots_at}

-- the syntax of a reduction and of a choice
pub stmt_of-Reduce : (key : Key) (total : TotalKey) (r : Reduce) (ts : Vec Target Global) (es : Vec E.Expr Global) → stmt_of (S.Reduce key total r ts es) ≡ P.Combine key total r ts.items (map expr_of es.items)
stmt_of-Reduce key total r ts es = search (rules, stmt_lemmas)

pub stmt_of-If : (key : Key) (test : E.Expr) (one other : Box S.Stmt Global) → stmt_of (S.If key test one other) ≡ P.If key (expr_of test) (stmt_of (box_value one)) (stmt_of (box_value other))
stmt_of-If key test one other = search (rules, stmt_lemmas)

append-assoc : {A : Type 0} (xs ys zs : List A) → (xs ++ ys) ++ zs ≡ xs ++ (ys ++ zs)
append-assoc [] ys zs = refl
append-assoc (x ∷ xs) ys zs = ap (λ l. x ∷ l) (append-assoc xs ys zs)

two-added : {A : Type 0} (old mid new a b : List A) → mid ≡ old ++ a → new ≡ mid ++ b → new ≡ old ++ (a ++ b)
two-added old mid new a b h k = k ∙ ap (λ z. z ++ b) h ∙ append-assoc old a b

-- the spots of a reduction
pub reduce_added : (site : BodySite) (k : Key) (total : TotalKey) (r : Reduce) (ts : List Target) (es : List P.Expr) (w : Way) (old mid new : List Spot)
    → w ≡ way_of (where_of site.layout.now).declarations site.node ts
    → mid ≡ old ++ spots_in_all es k
    → new ≡ mid ++ reduce_spots site.at_once site.iterators.now w k total ts
    → new ≡ old ++ spots_at site (P.Combine k total r ts es)
reduce_added site k total r ts es w old mid new u h l =
    let ways = way_of (where_of site.layout.now).declarations site.node ts in
    two-added old mid new (spots_in_all es k) (reduce_spots site.at_once site.iterators.now ways k total ts) h
    (l ∙ ap (λ v. mid ++ reduce_spots site.at_once site.iterators.now v k total ts) u)

-- the spots of a choice
pub choice_added : (site : BodySite) (k : Key) (e : P.Expr) (a b : P.Stmt) (old mid low new : List Spot)
    → mid ≡ old ++ spots_in e k
    → low ≡ mid ++ spots_at site a
    → new ≡ low ++ spots_at site b
    → new ≡ old ++ spots_at site (P.If k e a b)
choice_added site k e a b old mid low new h l m =
    two-added old mid new (spots_in e k) (spots_at site a ++ spots_at site b) h (two-added mid low new (spots_at site a) (spots_at site b) l m)
