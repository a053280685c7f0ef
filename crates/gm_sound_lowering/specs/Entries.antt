-- How many entries the tuples may have that are kept at once, so that the terms by which they are compared are not too deep.
use Rattle.std.specs.Prelude.{ℕ, nat_le, Bool, true, ◌&&◌, if◌then◌else◌, List, length}
use Rattle.gm_ast.specs.declared.tree.Declaration.{Declaration}
use Rattle.gm_ast.specs.declared.tree.Target.{Target}
use Rattle.gm_ast.specs.Program.{Stmt, Then, Combine, Foreach, For, If, While, Do, Program}
use Rattle.gm_lowering.specs.Plans.{Way, Picks, way_of, is_here}

-- two tuples of n entries are compared by a term of 2 n + 1 levels
abbrev pub entry_limit : ℕ
entry_limit = 511

abbrev pub has_few : List Target → Bool
has_few ts = nat_le (length ts) entry_limit

-- whether the targets of a reduction are few, where a body keeps them at once
abbrev pub are_few : Way → List Target → Bool
are_few Picks ts = has_few ts
are_few w ts = true

-- whether those that a body keeps at once are, where it is evaluated at a node
abbrev pub keeps_few : List Declaration → ℕ → Stmt → Bool
keeps_few ds n (Then a b) = keeps_few ds n a && keeps_few ds n b
keeps_few ds n (Combine k total r ts es) = are_few (way_of ds n ts) ts
keeps_few ds n (If k c a b) = keeps_few ds n a && keeps_few ds n b
keeps_few ds n _ = true

-- the same of a parallel loop: an inner loop's body is one at the node where it is evaluated
abbrev pub loop_keeps_few : List Declaration → ℕ → Stmt → Bool
loop_keeps_few ds n (Foreach k at h test body) = keeps_few ds (if is_here ds n h test body then n else h.iterator) body
loop_keeps_few ds n body = keeps_few ds n body

-- and of a statement of a sequential phase, which keeps all at once
abbrev pub phase_keeps_few : List Declaration → Stmt → Bool
phase_keeps_few ds (Then a b) = phase_keeps_few ds a && phase_keeps_few ds b
phase_keeps_few ds (Combine k total r ts es) = has_few ts
phase_keeps_few ds (Foreach k at h test body) = loop_keeps_few ds h.iterator body
phase_keeps_few ds (For k at h test body) = phase_keeps_few ds body
phase_keeps_few ds (If k c a b) = phase_keeps_few ds a && phase_keeps_few ds b
phase_keeps_few ds (While k at c body) = phase_keeps_few ds body
phase_keeps_few ds (Do k at body c) = phase_keeps_few ds body
phase_keeps_few ds _ = true

-- whether no tuple of a program that is kept at once has more entries
abbrev pub has_few_entries : Program → Bool
has_few_entries p = phase_keeps_few p.declarations p.body
