-- Locals of the bodies of parallel loops, declared in each body that names them.
use Rattle.std.specs.Prelude.{ℕ, Bool, ◌&&◌, ◌||◌, not, if◌then◌else◌, List, [], ◌∷◌, ◌++◌, filter, flat_map, Some}
use Rattle.gm_base.specs.declared.places.Place.{Place}
use Rattle.gm_ast.specs.declared.tree.Declaration.{Declaration}
use Rattle.gm_ast.specs.declared.tree.Head.{Head}
use Rattle.gm_ast.specs.declared.tree.Key.{Key}
use Rattle.gm_ast.specs.declared.tree.Sort.TheVariants.{Scalar}
use Rattle.gm_ast.specs.Names.{sort_eq}
use Rattle.gm_ast.specs.Program.{Expr, Var, Stmt, Then, Declare, Assign, Defer, Combine, Foreach, If, Program, sequence}
use Rattle.gm_semantics.specs.Statements.{variable_at}
use Rattle.gm_forms.specs.Cut.{is_own_loop, is_no_local}
use Rattle.gm_forms.specs.Sharing.{told_in, sights_in_option, sights_in_all}
use Rattle.gm_dissect.specs.Locals.{declares}
use Rattle.gm_dissect.specs.Loops.{each_loop}
use Rattle.gm_cut.specs.Parts.{each_passes}
use Rattle.gm_cut.specs.Slices.{told_at}
use Rattle.gm_parting.specs.Locals.{names_pass}
use Rattle.gm_parting.specs.Nodes.{is_body_local}

-- the scalars and nodes that a body names
abbrev pub names_of : Stmt → List ℕ
names_of (Then a b) = names_of a ++ names_of b
names_of (Declare k x e) = x ∷ (sights_in_option e).scalars
names_of (Assign k t e) = told_at t ++ told_in e
names_of (Defer k t e) = told_at t ++ told_in e
names_of (Combine k total r ts es) = flat_map told_at ts ++ (sights_in_all es).scalars
names_of (If k c a b) = told_in c ++ (names_of a ++ names_of b)
names_of (Foreach k at h test body) = h.owner ∷ (told_in test ++ names_of body)
names_of _ = []

-- whether a variable is a local of an outer body that it does not declare
abbrev pub is_undeclared : List Declaration → Stmt → ℕ → Bool
is_undeclared ds body x = is_body_local ds x && not (declares x body)

-- a body that declares some locals first, each as what it holds. at: the place of a read that cannot fault
abbrev pub declared_first : Key → Place → List ℕ → Stmt → Stmt
declared_first k at [] body = body
declared_first k at (x ∷ xs) body = sequence (Declare k x (Some (Var x at)) ∷ declared_first k at xs body ∷ [])

-- a loop that is not of own statements, with such a body
abbrev pub declared_loop : List Declaration → Key → Place → Head → Expr → Stmt → Stmt
declared_loop ds k at h test body =
    if is_own_loop h.iterator body then Foreach k at h test body
    else Foreach k at h test (declared_first k at (filter (is_undeclared ds body) (names_of body)) body)

-- a program whose loops declare all locals that they name
abbrev pub with_locals_declared : Program → Program
with_locals_declared program = record program { body = each_loop (declared_loop program.declarations) program.body }

-- whether each variable of a loop's body that is named in it is a scalar, or an iterator around
abbrev pub names_no_strangers : List Declaration → ℕ → Stmt → Bool
names_no_strangers ds n body = names_pass (λ its x. is_no_local ds its x || sort_eq Scalar (variable_at ds x).sort) (n ∷ []) body

-- whether each that a loop names is, if it is not of own statements
abbrev pub has_no_strangers : Program → Bool
has_no_strangers p = each_passes (λ k at h test body. is_own_loop h.iterator body || names_no_strangers p.declarations h.iterator body) p.body
