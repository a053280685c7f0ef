-- Statements whose parts are changed in place.
use Rattle.std.proofs.Common.{◌≡◌, ◌+◌, ℕ, Bool, List, refl, ap, ◌∙◌, map, rules}
use Rattle.std.specs.Prelude.{Box, box_value}
use Rattle.std.specs.Global.{Vec}
use Rattle.std.specs.declared.alloc.Global.{Global}
use Rattle.gm_base.specs.declared.places.Place.{Place}
use Rattle.gm_value.specs.declared.reductions.Reduce.{Reduce}
use Rattle.gm_ast.specs.declared.tree.Expr as E
use Rattle.gm_ast.specs.declared.tree.Key.{Key}
use Rattle.gm_ast.specs.declared.tree.Search.{Search}
use Rattle.gm_ast.specs.declared.tree.Stmt as S
use Rattle.gm_ast.specs.declared.tree.Stmt.{the_lemmas as stmt_lemmas}
use Rattle.gm_ast.specs.declared.tree.Target.{Target}
use Rattle.gm_ast.specs.declared.tree.TotalKey.{TotalKey}
use Rattle.gm_ast.specs.Program.{Expr, Stmt, Assign, Defer, Combine, If, InBfs, InBfsBoth}
use Rattle.gm_ast.specs.Tree.{expr_of, stmt_of}
use Rattle.gm_desugar.proofs.Trees.{stmt_of-Defer, stmt_of-InBfs, stmt_of-InBfsBoth}
use Rattle.gm_hoisting.specs.Hoisting.{is_sure, count_folds, count_loop, count_check, count_body, has_none, folds_set, all_set, told_from, all_told, behind, body_out, search_key, filter_left, opened, root_checked, phase_out}

-- what a statement is whose parts are known by equations
pub defer-is : {s : S.Stmt} {k j : Key} {t u : Target} {e d : E.Expr} → j ≡ k → u ≡ t → d ≡ e → s ≡ S.Defer k t e → stmt_of s ≡ Defer j u (expr_of d)
defer-is {k = k} {t = t} {e = e} p q r i = rw (p, q, r) (ap stmt_of i ∙ stmt_of-Defer k t e)

pub stmt_of-Reduce : (k : Key) (total : TotalKey) (r : Reduce) (ts : Vec Target) (es : Vec E.Expr) → stmt_of (S.Reduce k total r ts es) ≡ Combine k total r ts.items (map expr_of es.items)
stmt_of-Reduce k total r ts es = search (rules, stmt_lemmas)

pub reduce-is : {s : S.Stmt} {k j : Key} {total there : TotalKey} {r o : Reduce} {ts us : Vec Target} {es ds : Vec E.Expr} →
    j ≡ k → there ≡ total → o ≡ r → us ≡ ts → ds ≡ es → s ≡ S.Reduce k total r ts es → stmt_of s ≡ Combine j there o us.items (map expr_of ds.items)
reduce-is {k = k} {total = total} {r = r} {ts = ts} {es = es} p q o u v i = rw (p, q, o, u, v) (ap stmt_of i ∙ stmt_of-Reduce k total r ts es)

pub search-is : {s : S.Stmt} {k j : Key} {at there : Place} {h g : Search} {e d : E.Expr} {b a : Box S.Stmt Global} →
    j ≡ k → there ≡ at → g ≡ h → d ≡ e → a ≡ b → s ≡ S.InBfs k at h e b → stmt_of s ≡ InBfs j there g (expr_of d) (stmt_of (box_value a))
search-is {k = k} {at = at} {h = h} {e = e} {b = b} p q r u v i = rw (p, q, r, u, v) (ap stmt_of i ∙ stmt_of-InBfs k at h e b)

pub both-is : {s : S.Stmt} {k j : Key} {at there : Place} {h g : Search} {e d : E.Expr} {b a : Box S.Stmt Global} {l m : Key} {x y : E.Expr} {z w : Box S.Stmt Global} →
    j ≡ k → there ≡ at → g ≡ h → d ≡ e → a ≡ b → m ≡ l → y ≡ x → w ≡ z → s ≡ S.InBfsBoth k at h e b l x z → stmt_of s ≡ InBfsBoth j there g (expr_of d) (stmt_of (box_value a)) m (expr_of y) (stmt_of (box_value w))
both-is {k = k} {at = at} {h = h} {e = e} {b = b} {l = l} {x = x} {z = z} p q r u v p' q' r' i = rw (p, q, r, u, v, p', q', r') (ap stmt_of i ∙ stmt_of-InBfsBoth k at h e b l x z)

-- what becomes of a statement of an outer body whose parts have changed
pub assign-out : (n : ℕ) (k : Key) (t : Target) (e d : Expr) (first : List Stmt) → first ≡ folds_set n k e → d ≡ told_from n e → behind first (Assign k t d) ≡ body_out n (Assign k t e)
assign-out n k t e d first set told = rw (set, told) refl

pub defer-out : (n : ℕ) (k : Key) (t : Target) (e d : Expr) (first : List Stmt) → first ≡ folds_set n k e → d ≡ told_from n e → behind first (Defer k t d) ≡ body_out n (Defer k t e)
defer-out n k t e d first set told = rw (set, told) refl

pub reduce-out : (n : ℕ) (k : Key) (total : TotalKey) (r : Reduce) (ts : List Target) (es ds : List Expr) (first : List Stmt) →
    first ≡ all_set n k es → ds ≡ all_told n es → behind first (Combine k total r ts ds) ≡ body_out n (Combine k total r ts es)
reduce-out n k total r ts es ds first set told = rw (set, told) refl

pub if-out : (n : ℕ) (k : Key) (e d : Expr) (a b x y : Stmt) (first : List Stmt) →
    first ≡ folds_set n k e → d ≡ told_from n e → x ≡ body_out (n + count_folds e) a → y ≡ body_out ((n + count_folds e) + count_body a) b → behind first (If k d x y) ≡ body_out n (If k e a b)
if-out n k e d a b x y first set told one other = rw (set, told, one, other) refl

-- and of a search in a sequential phase
pub search-out : (its : List ℕ) (n m x : ℕ) (sure : Bool) (k j : Key) (at : Place) (h : Search) (e d : Expr) (s b : Stmt) →
    sure ≡ is_sure its h e → x ≡ n → m ≡ n + count_check (is_sure its h e) → j ≡ search_key (has_none e) k → d ≡ filter_left (has_none e) e → b ≡ opened m k e s →
    root_checked sure x k h (InBfs j at h d b) ≡ phase_out its n (InBfs k at h e s)
search-out its n m x sure k j at h e d s b is root more key test body = rw (is, root, body, more, key, test) refl

pub both-out : (its : List ℕ) (n m l x : ℕ) (sure : Bool) (k j : Key) (at : Place) (h : Search) (e d : Expr) (s b : Stmt) (k' j' : Key) (e' d' : Expr) (s' b' : Stmt) →
    sure ≡ is_sure its h e → x ≡ n → m ≡ n + count_check (is_sure its h e) → l ≡ m + count_loop e s → j ≡ search_key (has_none e) k → d ≡ filter_left (has_none e) e → b ≡ opened m k e s →
    j' ≡ search_key (has_none e') k' → d' ≡ filter_left (has_none e') e' → b' ≡ opened l k' e' s' →
    root_checked sure x k h (InBfsBoth j at h d b j' d' b') ≡ phase_out its n (InBfsBoth k at h e s k' e' s')
both-out its n m l x sure k j at h e d s b k' j' e' d' s' b' is root more last key test body key' test' body' = rw (is, root, body', last, body, more, key, test, key', test') refl
