-- Loops that pull, as the loops of their other ends.
use Rattle.std.specs.Prelude.{ℕ, Bool, false, if◌then◌else◌}
use Rattle.gm_base.specs.declared.places.Place.{Place}
use Rattle.gm_value.specs.declared.values.Value.{Value}
use Rattle.gm_value.specs.declared.values.Value.TheVariants.{Flag}
use Rattle.gm_ast.specs.declared.tree.Head.{Head}
use Rattle.gm_ast.specs.declared.tree.Key.{Key}
use Rattle.gm_ast.specs.Program.{Expr, Const, always, Both, Stmt, Then, Foreach, For, If, While, Do, Program}
use Rattle.gm_forms.specs.Flip.{flipped_head}
use Rattle.gm_forms.specs.Order.{first_key}
use Rattle.gm_flip.specs.Pulling.{pulls}

-- whether a value is True
abbrev pub is_flag : Value → Bool
is_flag (Flag b) = b
is_flag v = false

-- whether a filter is the constant that passes everything
abbrev pub is_always : Expr → Bool
is_always (Const v) = is_flag v
is_always e = false

-- two filters in one: the first one is left out where it passes everything
abbrev pub joined : Expr → Expr → Expr
joined mask test = if is_always mask then test else Both mask test

-- a head over all nodes with another iterator
abbrev pub with_iterator : ℕ → Head → Head
with_iterator t h = record h { iterator = t }

-- the loop of the other end of an inner loop, one iteration for each edge: the inner iterator goes over all nodes, and the outer one over their neighbours against the range, where both filters let it pass. The body stays as it is. The loop over all nodes has no filter, and so the key before all others
abbrev pub turned : Key → Place → Head → Expr → Stmt → Stmt
turned k at h mask (Foreach j here i test body) =
    Foreach first_key at (with_iterator i.iterator h) always (Foreach j here (flipped_head h.iterator i) (joined mask test) body)
turned k at h mask s = Foreach k at h mask s

-- a loop over all nodes: one that pulls is turned, and all others stay
abbrev pub flipped_loop : Key → Place → Head → Expr → Stmt → Stmt
flipped_loop k at h mask body = if pulls h.iterator body then turned k at h mask body else Foreach k at h mask body

-- a sequential phase with each of its loops so
abbrev pub flipped : Stmt → Stmt
flipped (Then a b) = Then (flipped a) (flipped b)
flipped (Foreach k at h mask body) = flipped_loop k at h mask body
flipped (For k at h test body) = For k at h test (flipped body)
flipped (If k c a b) = If k c (flipped a) (flipped b)
flipped (While k at c body) = While k at c (flipped body)
flipped (Do k at body c) = Do k at (flipped body) c
flipped s = s

-- a program with no loop that pulls
abbrev pub without_pulls : Program → Program
without_pulls p = record p { body = flipped p.body }
