-- The law of locals that are kept in node properties, also where they are reduced together with others.
use Rattle.std.specs.Prelude.{◌≡◌, ◌≢◌, ◌<◌, ◌≤◌, ℕ, nat_eq, Bool, true, false, ◌&&◌, ◌||◌, not, [], ◌∷◌}
use Rattle.std.specs.List.{list_all}
use Rattle.gm_base.specs.declared.places.Place.{Place}
use Rattle.gm_value.specs.Numbers.{zero_of}
use Rattle.gm_ast.specs.declared.tree.Key.{Key}
use Rattle.gm_ast.specs.declared.tree.Target.{Target}
use Rattle.gm_ast.specs.declared.tree.Target.TheVariants as T
use Rattle.gm_ast.specs.Program.{Expr, Var, always, Stmt, Then, Declare, Assign, Defer, Combine, Foreach, If}
use Rattle.gm_semantics.specs.Iterations.{Loop}
use Rattle.gm_semantics.specs.Frames.{ReadsBelow, NamesBelow}
use Rattle.gm_loop_laws.specs.Masks.{looped, in_turn, SameChange}
use Rattle.gm_loop_laws.specs.Localised.{moved_in, moved, names_plainly, option_plainly, is_apart, is_it}

-- whether a target is the iteration's own, and ends as a local of its body does: such a local, or a property of the loop's node that the loop does not push
abbrev pub is_mine : Loop → Target → Bool
is_mine loop (T.Scalar y at) = nat_eq (loop.depth y) 1 && not (nat_eq y loop.outer)
is_mine loop (T.Property y p at) = nat_eq y loop.outer && not (loop.pushed p)

-- whether a local of a loop's body may be kept in a property: it is no node through which something is reached, it is reduced with none but the iteration's own, and the iterator is not written
abbrev pub may_move_beside : Loop → ℕ → Stmt → Bool
may_move_beside loop x (Then a b) = may_move_beside loop x a && may_move_beside loop x b
may_move_beside loop x (Declare k y e) = not (nat_eq y loop.outer) && option_plainly x e
may_move_beside loop x (Assign k t e) = (is_apart x loop.outer t || is_it x (t ∷ [])) && names_plainly x e
may_move_beside loop x (Defer k t e) = is_apart x loop.outer t && names_plainly x e
may_move_beside loop x (Combine k total r ts es) = (list_all (is_apart x loop.outer) ts || list_all (is_mine loop) ts) && list_all (names_plainly x) es
may_move_beside loop x (If k c a b) = names_plainly x c && (may_move_beside loop x a && may_move_beside loop x b)
may_move_beside loop x (Foreach k at h test body) =
    not (nat_eq h.owner x) && (not (nat_eq h.iterator x) && (not (nat_eq h.iterator loop.outer) && (names_plainly x test && may_move_beside loop x body)))
may_move_beside loop x _ = true

-- such a local is kept in a fresh property, which has at every node what the local holds before the loop: the same fault, or stores that agree in all that the loop names
abbrev pub LocalsMoveBeside : Type 0
LocalsMoveBeside = (j : ℕ) (loop : Loop) (x q : ℕ) (key : Key) (at : Place) (test : Expr) (body : Stmt) →
    let n = loop.outer in
    let zero = zero_of (loop.vtype x) in
    x < j → n < j → x ≢ n → j ≤ q → loop.depth x ≡ 1 → loop.pushed q ≡ false → ReadsBelow j test → NamesBelow j body →
    names_plainly x test ≡ true → may_move_beside loop x body ≡ true →
    SameChange j (looped loop key test body) (in_turn (looped loop key always (Assign key (T.Property n q at) (Var x at))) (looped loop key (moved_in x q n at zero test) (moved x q n at zero body)))
