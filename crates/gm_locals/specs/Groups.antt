-- Locals that are reduced together, kept in properties of the loop's node at once.
use Rattle.std.specs.Prelude.{ℕ, suc, nat_eq, Bool, true, false, ◌&&◌, ◌||◌, not, if◌then◌else◌, List, [], ◌∷◌, ◌++◌, length, map}
use Rattle.std.specs.List.{list_all}
use Rattle.gm_base.specs.declared.places.Place.{Place}
use Rattle.gm_value.specs.Numbers.{zero_of}
use Rattle.gm_ast.specs.declared.tree.Declaration.{Declaration}
use Rattle.gm_ast.specs.declared.tree.Head.{Head}
use Rattle.gm_ast.specs.declared.tree.Key.{Key}
use Rattle.gm_ast.specs.declared.tree.Sort.TheVariants.{Scalar}
use Rattle.gm_ast.specs.declared.tree.Target.{Target}
use Rattle.gm_ast.specs.declared.tree.Target.TheVariants as T
use Rattle.gm_ast.specs.Names.{sort_eq}
use Rattle.gm_ast.specs.Ways.{is_in}
use Rattle.gm_ast.specs.Program.{Expr, Stmt, Then, Declare, Assign, Defer, Combine, Foreach, If, Program, sequence}
use Rattle.gm_semantics.specs.Statements.{variable_at}
use Rattle.gm_loop_laws.specs.Localised.{moved_in, moved, names_plainly, option_plainly, is_apart, is_it}
use Rattle.gm_dissect.specs.Conditions.{holds_cut}
use Rattle.gm_dissect.specs.Deferred.{copy_of}
use Rattle.gm_dissect.specs.Locals.{declares, set_to}
use Rattle.gm_dissect.specs.Loops.{each_loop}

-- whether a target is one of some scalars
abbrev pub is_among : List ℕ → Target → Bool
is_among xs (T.Scalar y at) = is_in xs y
is_among xs (T.Property y p at) = false

-- whether a local x of a body may be kept in a property together with others, xs: it is no node through which something is reached, it is reduced with these alone, and the iterator is not written
abbrev pub may_move_within : List ℕ → ℕ → ℕ → Stmt → Bool
may_move_within xs x n (Then a b) = may_move_within xs x n a && may_move_within xs x n b
may_move_within xs x n (Declare k y e) = not (nat_eq y n) && option_plainly x e
may_move_within xs x n (Assign k t e) = (is_apart x n t || is_it x (t ∷ [])) && names_plainly x e
may_move_within xs x n (Defer k t e) = is_apart x n t && names_plainly x e
may_move_within xs x n (Combine k total r ts es) = (list_all (is_apart x n) ts || list_all (is_among xs) ts) && list_all (names_plainly x) es
may_move_within xs x n (If k c a b) = names_plainly x c && (may_move_within xs x n a && may_move_within xs x n b)
may_move_within xs x n (Foreach k at h test body) =
    not (nat_eq h.owner x) && (not (nat_eq h.iterator x) && (not (nat_eq h.iterator n) && (names_plainly x test && may_move_within xs x n body)))
may_move_within xs x n _ = true

-- whether a loop may keep a scalar of its body in a property together with others
abbrev pub may_keep : List Declaration → List ℕ → ℕ → Expr → Stmt → ℕ → Bool
may_keep ds xs n test body x = sort_eq Scalar (variable_at ds x).sort && (declares x body && (names_plainly x test && may_move_within xs x n body))

-- whether a loop keeps some scalars of its body in properties: a part is cut from its body, and each of them may be kept together with the others
abbrev pub keeps_locals : List Declaration → List ℕ → ℕ → Expr → Stmt → Bool
keeps_locals ds xs n test body = holds_cut n body && list_all (may_keep ds xs n test body) xs

-- a loop that keeps locals in properties, the first of them q, in a row behind the loops that set each property to its local
abbrev pub locals_row : List Declaration → List ℕ → ℕ → Key → Place → Head → Expr → Stmt → List Stmt
locals_row ds [] q k at h test body = Foreach k at h test body ∷ []
locals_row ds (x ∷ xs) q k at h test body =
    let n = h.iterator in
    let zero = zero_of (variable_at ds x).vtype in
    set_to q x at h ∷ locals_row ds xs (suc q) k at h (moved_in x q n at zero test) (moved x q n at zero body)

-- the same as one statement: where there are no locals, the loop alone
abbrev pub locals_loop : List Declaration → List ℕ → ℕ → Key → Place → Head → Expr → Stmt → Stmt
locals_loop ds [] q k at h test body = Foreach k at h test body
locals_loop ds (x ∷ xs) q k at h test body = sequence (locals_row ds (x ∷ xs) q k at h test body)

-- a loop that keeps some locals so, and any other as it is
abbrev pub kept_loop : List Declaration → List ℕ → ℕ → Key → Place → Head → Expr → Stmt → Stmt
kept_loop ds xs q k at h test body = if keeps_locals ds xs h.iterator test body then locals_loop ds xs q k at h test body else Foreach k at h test body

-- a program whose loops keep some locals in properties, the last of its variables
abbrev pub with_locals_kept : List ℕ → Program → Program
with_locals_kept xs program = record program {
  declarations = program.declarations ++ map (copy_of program.declarations) xs;
  body = each_loop (kept_loop program.declarations xs (length program.declarations)) program.body;
}
