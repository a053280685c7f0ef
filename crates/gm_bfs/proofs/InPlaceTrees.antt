-- Expressions and statements whose parts were changed where they stand.
use Rattle.std.proofs.Common.{◌≡◌, ℕ, Bool, List, rules, ap, sym, ◌∙◌, Result, Ok, Err}
use Rattle.std.specs.Prelude.{IfOk, OnOk, Box, box_value}
use Rattle.std.specs.declared.alloc.Global.{Global}
use Rattle.std.specs.Box.{with_value}
use Rattle.gm_base.specs.declared.places.Place.{Place}
use Rattle.gm_value.specs.declared.operations.Op1.{Op1}
use Rattle.gm_value.specs.declared.operations.Op2.{Op2}
use Rattle.gm_ast.specs.declared.tree.Fold.{Fold}
use Rattle.gm_ast.specs.declared.tree.Head.{Head}
use Rattle.gm_ast.specs.declared.tree.Expr as E
use Rattle.gm_ast.specs.declared.tree.Expr.{Expr, the_lemmas}
use Rattle.gm_ast.specs.declared.tree.Key.{Key}
use Rattle.gm_ast.specs.declared.tree.Stmt as S
use Rattle.gm_ast.specs.declared.tree.Stmt.{Stmt, the_lemmas as stmt_lemmas}
use Rattle.gm_ast.specs.Program as P
use Rattle.gm_ast.specs.Tree.{expr_of, stmt_of}
use Rattle.gm_bfs.specs.declared.fresh.Fresh.{Fresh}
use Rattle.gm_bfs.specs.Copies.{reading, inner_reading}
use Rattle.gm_bfs.specs.Searches.{by_levels, inner_loop}

-- what holds where a call was Ok gives what else does
pub on-ok : {X F : Type 0} {A B : Type 0} (r : Result X F) → OnOk r A → (A → B) → OnOk r B
on-ok (Ok x) h f = f h
on-ok (Err e) h f = tt

pub if-ok : {X F : Type 0} {P Q : X → Type 0} (r : Result X F) → IfOk r P → ((x : X) → P x → Q x) → IfOk r Q
if-ok (Ok x) h f = f x h
if-ok (Err e) h f = tt

-- the same of what a call says of the inside of a box
pub inside : (f : Fresh) (marks : List Bool) (w : ℕ) (b : Box Expr Global) (d d' : Expr) → d ≡ box_value b → expr_of d' ≡ reading f marks w (expr_of d) → expr_of d' ≡ reading f marks w (expr_of (box_value b))
inside f marks w b d d' value reads = reads ∙ ap (λ x. reading f marks w (expr_of x)) value

expr_of-Unary : (op : Op1) (at : Place) (b : Box Expr Global) → expr_of (E.Unary op at b) ≡ P.Unary op at (expr_of (box_value b))
expr_of-Unary op at b = search (rules, the_lemmas)

pub reads-Unary : (f : Fresh) (marks : List Bool) (w : ℕ) (op : Op1) (at : Place) (b : Box Expr Global) (e d : Expr) → e ≡ E.Unary op at b
    → expr_of d ≡ reading f marks w (expr_of (box_value b))
    → expr_of (E.Unary op at (with_value b d)) ≡ reading f marks w (expr_of e)
reads-Unary f marks w op at b e d is r =
    let new : expr_of (E.Unary op at (with_value b d)) ≡ P.Unary op at (expr_of d) = expr_of-Unary op at (with_value b d) in
    let old : reading f marks w (expr_of e) ≡ P.Unary op at (reading f marks w (expr_of (box_value b))) = ap (λ x. reading f marks w (expr_of x)) is ∙ ap (reading f marks w) (expr_of-Unary op at b) in
    cc

expr_of-Binary : (op : Op2) (at : Place) (b1 b2 : Box Expr Global) → expr_of (E.Binary op at b1 b2) ≡ P.Binary op at (expr_of (box_value b1)) (expr_of (box_value b2))
expr_of-Binary op at b1 b2 = search (rules, the_lemmas)

pub reads-Binary : (f : Fresh) (marks : List Bool) (w : ℕ) (op : Op2) (at : Place) (b1 b2 : Box Expr Global) (e d1 d2 : Expr) → e ≡ E.Binary op at b1 b2
    → expr_of d1 ≡ reading f marks w (expr_of (box_value b1)) → expr_of d2 ≡ reading f marks w (expr_of (box_value b2))
    → expr_of (E.Binary op at (with_value b1 d1) (with_value b2 d2)) ≡ reading f marks w (expr_of e)
reads-Binary f marks w op at b1 b2 e d1 d2 is r1 r2 =
    let new : expr_of (E.Binary op at (with_value b1 d1) (with_value b2 d2)) ≡ P.Binary op at (expr_of d1) (expr_of d2) = expr_of-Binary op at (with_value b1 d1) (with_value b2 d2) in
    let old : reading f marks w (expr_of e) ≡ P.Binary op at (reading f marks w (expr_of (box_value b1))) (reading f marks w (expr_of (box_value b2))) = ap (λ x. reading f marks w (expr_of x)) is ∙ ap (reading f marks w) (expr_of-Binary op at b1 b2) in
    cc

expr_of-Both : (b1 b2 : Box Expr Global) → expr_of (E.Both b1 b2) ≡ P.Both (expr_of (box_value b1)) (expr_of (box_value b2))
expr_of-Both b1 b2 = search (rules, the_lemmas)

pub reads-Both : (f : Fresh) (marks : List Bool) (w : ℕ) (b1 b2 : Box Expr Global) (e d1 d2 : Expr) → e ≡ E.Both b1 b2
    → expr_of d1 ≡ reading f marks w (expr_of (box_value b1)) → expr_of d2 ≡ reading f marks w (expr_of (box_value b2))
    → expr_of (E.Both (with_value b1 d1) (with_value b2 d2)) ≡ reading f marks w (expr_of e)
reads-Both f marks w b1 b2 e d1 d2 is r1 r2 =
    let new : expr_of (E.Both (with_value b1 d1) (with_value b2 d2)) ≡ P.Both (expr_of d1) (expr_of d2) = expr_of-Both (with_value b1 d1) (with_value b2 d2) in
    let old : reading f marks w (expr_of e) ≡ P.Both (reading f marks w (expr_of (box_value b1))) (reading f marks w (expr_of (box_value b2))) = ap (λ x. reading f marks w (expr_of x)) is ∙ ap (reading f marks w) (expr_of-Both b1 b2) in
    cc

expr_of-Either : (b1 b2 : Box Expr Global) → expr_of (E.Either b1 b2) ≡ P.Either (expr_of (box_value b1)) (expr_of (box_value b2))
expr_of-Either b1 b2 = search (rules, the_lemmas)

pub reads-Either : (f : Fresh) (marks : List Bool) (w : ℕ) (b1 b2 : Box Expr Global) (e d1 d2 : Expr) → e ≡ E.Either b1 b2
    → expr_of d1 ≡ reading f marks w (expr_of (box_value b1)) → expr_of d2 ≡ reading f marks w (expr_of (box_value b2))
    → expr_of (E.Either (with_value b1 d1) (with_value b2 d2)) ≡ reading f marks w (expr_of e)
reads-Either f marks w b1 b2 e d1 d2 is r1 r2 =
    let new : expr_of (E.Either (with_value b1 d1) (with_value b2 d2)) ≡ P.Either (expr_of d1) (expr_of d2) = expr_of-Either (with_value b1 d1) (with_value b2 d2) in
    let old : reading f marks w (expr_of e) ≡ P.Either (reading f marks w (expr_of (box_value b1))) (reading f marks w (expr_of (box_value b2))) = ap (λ x. reading f marks w (expr_of x)) is ∙ ap (reading f marks w) (expr_of-Either b1 b2) in
    cc

expr_of-Choose : (b1 b2 b3 : Box Expr Global) → expr_of (E.Choose b1 b2 b3) ≡ P.Choose (expr_of (box_value b1)) (expr_of (box_value b2)) (expr_of (box_value b3))
expr_of-Choose b1 b2 b3 = search (rules, the_lemmas)

pub reads-Choose : (f : Fresh) (marks : List Bool) (w : ℕ) (b1 b2 b3 : Box Expr Global) (e d1 d2 d3 : Expr) → e ≡ E.Choose b1 b2 b3
    → expr_of d1 ≡ reading f marks w (expr_of (box_value b1)) → expr_of d2 ≡ reading f marks w (expr_of (box_value b2)) → expr_of d3 ≡ reading f marks w (expr_of (box_value b3))
    → expr_of (E.Choose (with_value b1 d1) (with_value b2 d2) (with_value b3 d3)) ≡ reading f marks w (expr_of e)
reads-Choose f marks w b1 b2 b3 e d1 d2 d3 is r1 r2 r3 =
    let new : expr_of (E.Choose (with_value b1 d1) (with_value b2 d2) (with_value b3 d3)) ≡ P.Choose (expr_of d1) (expr_of d2) (expr_of d3) = expr_of-Choose (with_value b1 d1) (with_value b2 d2) (with_value b3 d3) in
    let old : reading f marks w (expr_of e) ≡ P.Choose (reading f marks w (expr_of (box_value b1))) (reading f marks w (expr_of (box_value b2))) (reading f marks w (expr_of (box_value b3))) = ap (λ x. reading f marks w (expr_of x)) is ∙ ap (reading f marks w) (expr_of-Choose b1 b2 b3) in
    cc

expr_of-Fold : (g : Fold) (h : Head) (b1 b2 : Box Expr Global) → expr_of (E.Fold g h b1 b2) ≡ P.Folded g h (expr_of (box_value b1)) (expr_of (box_value b2))
expr_of-Fold g h b1 b2 = search (rules, the_lemmas)

pub reads-Fold : (f : Fresh) (marks : List Bool) (w : ℕ) (g : Fold) (h : Head) (b1 b2 : Box Expr Global) (e d1 d2 : Expr) → e ≡ E.Fold g h b1 b2
    → expr_of d1 ≡ reading f marks w (expr_of (box_value b1)) → expr_of d2 ≡ reading f marks w (expr_of (box_value b2))
    → expr_of (E.Fold g h (with_value b1 d1) (with_value b2 d2)) ≡ reading f marks w (expr_of e)
reads-Fold f marks w g h b1 b2 e d1 d2 is r1 r2 =
    let new : expr_of (E.Fold g h (with_value b1 d1) (with_value b2 d2)) ≡ P.Folded g h (expr_of d1) (expr_of d2) = expr_of-Fold g h (with_value b1 d1) (with_value b2 d2) in
    let old : reading f marks w (expr_of e) ≡ P.Folded g h (reading f marks w (expr_of (box_value b1))) (reading f marks w (expr_of (box_value b2))) = ap (λ x. reading f marks w (expr_of x)) is ∙ ap (reading f marks w) (expr_of-Fold g h b1 b2) in
    cc

-- what a call says of the inside of a box that holds a statement
pub inside-stmt : (f : P.Stmt → P.Stmt) (b : Box Stmt Global) (d d' : Stmt) → d ≡ box_value b → stmt_of d' ≡ f (stmt_of d) → stmt_of d' ≡ f (stmt_of (box_value b))
inside-stmt f b d d' value changed = changed ∙ ap (λ x. f (stmt_of x)) value

stmt_of-If : (k : Key) (e : Expr) (a b : Box Stmt Global) → stmt_of (S.If k e a b) ≡ P.If k (expr_of e) (stmt_of (box_value a)) (stmt_of (box_value b))
stmt_of-If k e a b = search (rules, stmt_lemmas)

pub inner-If : (f : Fresh) (marks : List Bool) (w : ℕ) (s s' : Stmt) (k : Key) (e e' : Expr) (a b : Box Stmt Global) (a' b' : Stmt) → s ≡ S.If k e a b → s' ≡ S.If k e' (with_value a a') (with_value b b')
    → expr_of e' ≡ reading f marks w (expr_of e) → stmt_of a' ≡ inner_reading f marks w (stmt_of (box_value a)) → stmt_of b' ≡ inner_reading f marks w (stmt_of (box_value b))
    → stmt_of s' ≡ inner_reading f marks w (stmt_of s)
inner-If f marks w s s' k e e' a b a' b' is is' re ra rb =
    let new : stmt_of s' ≡ P.If k (expr_of e') (stmt_of a') (stmt_of b') = ap stmt_of is' ∙ stmt_of-If k e' (with_value a a') (with_value b b') in
    let old : inner_reading f marks w (stmt_of s) ≡ P.If k (reading f marks w (expr_of e)) (inner_reading f marks w (stmt_of (box_value a))) (inner_reading f marks w (stmt_of (box_value b))) = ap (λ x. inner_reading f marks w (stmt_of x)) is ∙ ap (inner_reading f marks w) (stmt_of-If k e a b) in
    cc

-- an If, a For, a While and a Do whose parts were changed as their whole is
pub changed-If : (f : P.Stmt → P.Stmt) → ((k : Key) (c : P.Expr) (a b : P.Stmt) → f (P.If k c a b) ≡ P.If k c (f a) (f b))
    → (s s' : Stmt) (k : Key) (e : Expr) (a b : Box Stmt Global) (a' b' : Stmt) → s ≡ S.If k e a b → s' ≡ S.If k e (with_value a a') (with_value b b')
    → stmt_of a' ≡ f (stmt_of (box_value a)) → stmt_of b' ≡ f (stmt_of (box_value b)) → stmt_of s' ≡ f (stmt_of s)
changed-If f does s s' k e a b a' b' is is' ra rb =
    let new : stmt_of s' ≡ P.If k (expr_of e) (stmt_of a') (stmt_of b') = ap stmt_of is' ∙ stmt_of-If k e (with_value a a') (with_value b b') in
    let old : f (stmt_of s) ≡ P.If k (expr_of e) (f (stmt_of (box_value a))) (f (stmt_of (box_value b))) = ap (λ x. f (stmt_of x)) is ∙ ap f (stmt_of-If k e a b) ∙ does k (expr_of e) (stmt_of (box_value a)) (stmt_of (box_value b)) in
    cc

stmt_of-For : (k : Key) (at : Place) (h : Head) (e : Expr) (a : Box Stmt Global) → stmt_of (S.For k at h e a) ≡ P.For k at h (expr_of e) (stmt_of (box_value a))
stmt_of-For k at h e a = search (rules, stmt_lemmas)

pub changed-For : (f : P.Stmt → P.Stmt) → ((k : Key) (at : Place) (h : Head) (c : P.Expr) (a : P.Stmt) → f (P.For k at h c a) ≡ P.For k at h c (f a))
    → (s s' : Stmt) (k : Key) (at : Place) (h : Head) (e : Expr) (a : Box Stmt Global) (a' : Stmt) → s ≡ S.For k at h e a → s' ≡ S.For k at h e (with_value a a')
    → stmt_of a' ≡ f (stmt_of (box_value a)) → stmt_of s' ≡ f (stmt_of s)
changed-For f does s s' k at h e a a' is is' ra =
    let new : stmt_of s' ≡ P.For k at h (expr_of e) (stmt_of a') = ap stmt_of is' ∙ stmt_of-For k at h e (with_value a a') in
    let old : f (stmt_of s) ≡ P.For k at h (expr_of e) (f (stmt_of (box_value a))) = ap (λ x. f (stmt_of x)) is ∙ ap f (stmt_of-For k at h e a) ∙ does k at h (expr_of e) (stmt_of (box_value a)) in
    cc

stmt_of-While : (k : Key) (at : Place) (e : Expr) (a : Box Stmt Global) → stmt_of (S.While k at e a) ≡ P.While k at (expr_of e) (stmt_of (box_value a))
stmt_of-While k at e a = search (rules, stmt_lemmas)

pub changed-While : (f : P.Stmt → P.Stmt) → ((k : Key) (at : Place) (c : P.Expr) (a : P.Stmt) → f (P.While k at c a) ≡ P.While k at c (f a))
    → (s s' : Stmt) (k : Key) (at : Place) (e : Expr) (a : Box Stmt Global) (a' : Stmt) → s ≡ S.While k at e a → s' ≡ S.While k at e (with_value a a')
    → stmt_of a' ≡ f (stmt_of (box_value a)) → stmt_of s' ≡ f (stmt_of s)
changed-While f does s s' k at e a a' is is' ra =
    let new : stmt_of s' ≡ P.While k at (expr_of e) (stmt_of a') = ap stmt_of is' ∙ stmt_of-While k at e (with_value a a') in
    let old : f (stmt_of s) ≡ P.While k at (expr_of e) (f (stmt_of (box_value a))) = ap (λ x. f (stmt_of x)) is ∙ ap f (stmt_of-While k at e a) ∙ does k at (expr_of e) (stmt_of (box_value a)) in
    cc

stmt_of-Do : (k : Key) (at : Place) (a : Box Stmt Global) (e : Expr) → stmt_of (S.Do k at a e) ≡ P.Do k at (stmt_of (box_value a)) (expr_of e)
stmt_of-Do k at a e = search (rules, stmt_lemmas)

pub changed-Do : (f : P.Stmt → P.Stmt) → ((k : Key) (at : Place) (a : P.Stmt) (c : P.Expr) → f (P.Do k at a c) ≡ P.Do k at (f a) c)
    → (s s' : Stmt) (k : Key) (at : Place) (a : Box Stmt Global) (e : Expr) (a' : Stmt) → s ≡ S.Do k at a e → s' ≡ S.Do k at (with_value a a') e
    → stmt_of a' ≡ f (stmt_of (box_value a)) → stmt_of s' ≡ f (stmt_of s)
changed-Do f does s s' k at a e a' is is' ra =
    let new : stmt_of s' ≡ P.Do k at (stmt_of a') (expr_of e) = ap stmt_of is' ∙ stmt_of-Do k at (with_value a a') e in
    let old : f (stmt_of s) ≡ P.Do k at (f (stmt_of (box_value a))) (expr_of e) = ap (λ x. f (stmt_of x)) is ∙ ap f (stmt_of-Do k at a e) ∙ does k at (stmt_of (box_value a)) (expr_of e) in
    cc

stmt_of-Foreach : (k : Key) (at : Place) (h : Head) (e : Expr) (a : Box Stmt Global) → stmt_of (S.Foreach k at h e a) ≡ P.Foreach k at h (expr_of e) (stmt_of (box_value a))
stmt_of-Foreach k at h e a = search (rules, stmt_lemmas)

pub levels-Foreach : (f : Fresh) (marks : List Bool) (s s' : Stmt) (k : Key) (at : Place) (h h' : Head) (e e' : Expr) (a : Box Stmt Global) (a' d : Stmt) → s ≡ S.Foreach k at h e a → s' ≡ S.Foreach k at h' e' (with_value a a') → d ≡ box_value a
    → ((k : Key) (at : Place) → P.Foreach k at h' (expr_of e') (stmt_of a') ≡ inner_loop f marks k at h (expr_of e) (stmt_of d) h.domain) → stmt_of s' ≡ by_levels f marks (stmt_of s)
levels-Foreach f marks s s' k at h h' e e' a a' d is is' inside made =
    ap stmt_of is' ∙ stmt_of-Foreach k at h' e' (with_value a a') ∙ made k at ∙ ap (λ x. inner_loop f marks k at h (expr_of e) (stmt_of x) h.domain) inside
    ∙ sym (ap (λ x. by_levels f marks (stmt_of x)) is ∙ ap (by_levels f marks) (stmt_of-Foreach k at h e a))

-- a loop of known parts
pub loop-of : (k : Key) (at : Place) (h : Head) (e : Expr) (b : Box Stmt Global) (h' : Head) (e' : P.Expr) (s' : P.Stmt) → h ≡ h' → expr_of e ≡ e' → stmt_of (box_value b) ≡ s'
    → stmt_of (S.Foreach k at h e b) ≡ P.Foreach k at h' e' s'
loop-of k at h e b h' e' s' same test body =
    let made : stmt_of (S.Foreach k at h e b) ≡ P.Foreach k at h (expr_of e) (stmt_of (box_value b)) = stmt_of-Foreach k at h e b in
    cc
