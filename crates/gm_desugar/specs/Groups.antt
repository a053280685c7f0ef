-- Group assignments as loops over all nodes.
use Rattle.std.specs.Prelude.{Bool, true, false, ◌&&◌}
use Rattle.gm_ast.specs.declared.tree.Domain.TheVariants.{Nodes}
use Rattle.gm_ast.specs.declared.tree.Target.TheVariants as T
use Rattle.gm_ast.specs.Program.{always, Stmt, Then, Assign, Group, Foreach, For, If, While, Do, Program}
use Rattle.gm_forms.specs.Order.{first_key}

-- a statement with each group assignment as a loop, in which the graph's own variable stands for the node, under the key before all faults
abbrev pub ungrouped : Stmt → Stmt
ungrouped (Then a b) = Then (ungrouped a) (ungrouped b)
ungrouped (Group k at g p e) =
    Foreach first_key at (record { iterator = g; domain = Nodes; owner = g; place = at }) always (Assign k (T.Property g p at) e)
ungrouped (For k at h test s) = For k at h test (ungrouped s)
ungrouped (If k c a b) = If k c (ungrouped a) (ungrouped b)
ungrouped (While k at c s) = While k at c (ungrouped s)
ungrouped (Do k at s c) = Do k at (ungrouped s) c
ungrouped s = s

-- a program with each group assignment as a loop
abbrev pub without_groups : Program → Program
without_groups p = record p { body = ungrouped p.body }

-- whether a sequential phase has no group assignment. No other code has one
abbrev pub has_no_groups : Stmt → Bool
has_no_groups (Then a b) = has_no_groups a && has_no_groups b
has_no_groups (Group k at g p e) = false
has_no_groups (For k at h test s) = has_no_groups s
has_no_groups (If k c a b) = has_no_groups a && has_no_groups b
has_no_groups (While k at c s) = has_no_groups s
has_no_groups (Do k at s c) = has_no_groups s
has_no_groups s = true
