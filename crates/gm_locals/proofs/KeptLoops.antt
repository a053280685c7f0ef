-- A loop of a sequential phase whose locals went to properties, behind the loops that set them.
use Rattle.std.proofs.Common.{◌≡◌, ◌+◌, ℕ, List, [], ◌++◌, length, map, refl, sym, ap, ◌∙◌, arith}
use Rattle.gm_base.specs.declared.places.Place.{Place}
use Rattle.gm_ast.specs.declared.tree.Declaration.{Declaration}
use Rattle.gm_ast.specs.declared.tree.Head.{Head}
use Rattle.gm_ast.specs.declared.tree.Key.{Key}
use Rattle.gm_ast.specs.Program.{Expr, Stmt, Foreach, Program}
use Rattle.gm_dissect.specs.Deferred.{copy_of}
use Rattle.gm_locals.specs.AllGroups.{group_of, groups_in, with_groups, with_groups_kept}
use Rattle.gm_locals.specs.AllMoved.{property_of, first_values, all_moved_in, all_moved, set_before}
use Rattle.gm_locals.proofs.AllMovedLemmas.{loop-at-once}

-- the loop, with what it is made of known by equations
pub loop-kept : {there within : Place} {g f : Head} {x y a : Stmt} {j : Key} {d : Expr} {first : ℕ} {xs : List ℕ}
    → y ≡ set_before first xs there g x → x ≡ Foreach j within f d a
    → (ds : List Declaration) (q : ℕ) (k : Key) (at : Place) (h : Head) (e : Expr) (s : Stmt)
    → d ≡ all_moved_in (property_of first xs) h.iterator e → a ≡ all_moved (property_of first xs) h.iterator at (first_values ds) s → first ≡ q → xs ≡ group_of ds h.iterator e s
    → there ≡ at → g ≡ h → j ≡ k → within ≡ at → f ≡ h
    → y ≡ with_groups ds q (Foreach k at h e s)
loop-kept set loop ds q k at h e s filter body number locals to node key there over =
    set ∙ rw (loop, filter, body, number, locals, to, node, key, there, over) (sym (loop-at-once ds (group_of ds h.iterator e s) q k at h e s))

-- the locals that are kept so far
pub loop-listed : {xs ys : List ℕ} (zs : List ℕ) → ys ≡ zs ++ xs → (ds : List Declaration) (k : Key) (at : Place) (h : Head) (e : Expr) (s : Stmt) → xs ≡ group_of ds h.iterator e s → ys ≡ zs ++ groups_in ds (Foreach k at h e s)
loop-listed zs more ds k at h e s same = more ∙ ap (λ l. zs ++ l) same

-- a program of which the loops keep their locals
pub program-kept : (p : Program) (all copies : List Declaration) (kept none : List ℕ) (body : Stmt) → kept ≡ none ++ groups_in p.declarations p.body → body ≡ with_groups p.declarations (length p.declarations + length none) p.body
    → all ≡ p.declarations ++ copies → none ≡ [] → copies ≡ map (copy_of p.declarations) kept
    → (record p { declarations = all; body = body }) ≡ with_groups_kept p
program-kept p all copies kept none body listed changed more begun made =
    let empty : length none ≡ 0 = ap length begun in
    let number : length p.declarations + length none ≡ length p.declarations = omega (arith, empty) in
    let groups : kept ≡ groups_in p.declarations p.body = listed ∙ ap (λ l. l ++ groups_in p.declarations p.body) begun in
    rw (more, made, groups, changed, number) refl
