-- Inner loops that may stand alone.
use Rattle.std.specs.Prelude.{ℕ, nat_eq, nat_lt, Bool, true, ◌&&◌, ◌||◌, not, List, [], ◌∷◌}
use Rattle.std.specs.List.{list_all}
use Rattle.gm_ast.specs.declared.tree.Declaration.{Declaration}
use Rattle.gm_ast.specs.Program.{Stmt, Then, Foreach, If, Program}
use Rattle.gm_forms.specs.Cut.{is_own_loop, is_no_local, spares_locals}
use Rattle.gm_forms.specs.Forms.{depth_at}
use Rattle.gm_forms.specs.Sharing.{with_reads, sights_in, sights_of}
use Rattle.gm_cut.specs.Parts.{each_passes}

-- whether each inner loop of a body neither reads nor reduces a local of the outer body
abbrev pub inner_loops_apart : List Declaration → ℕ → Stmt → Bool
inner_loops_apart ds n (Then a b) = inner_loops_apart ds n a && inner_loops_apart ds n b
inner_loops_apart ds n (If k c a b) = inner_loops_apart ds n a && inner_loops_apart ds n b
inner_loops_apart ds n (Foreach k at h test body) =
    list_all (is_no_local ds (n ∷ h.iterator ∷ [])) (with_reads (sights_in test) (sights_of ds n true body)).scalars && spares_locals ds body
inner_loops_apart ds n _ = true

-- whether each inner iterator of a body is declared inside of a parallel loop
abbrev pub inner_iterators_deep : List Declaration → Stmt → Bool
inner_iterators_deep ds (Then a b) = inner_iterators_deep ds a && inner_iterators_deep ds b
inner_iterators_deep ds (If k c a b) = inner_iterators_deep ds a && inner_iterators_deep ds b
inner_iterators_deep ds (Foreach k at h test body) = not (nat_eq (depth_at ds h.iterator) 0)
inner_iterators_deep ds _ = true

-- whether the inner loops of each loop of a program that is not of own statements stand apart
abbrev pub has_inner_loops_apart : Program → Bool
has_inner_loops_apart p = each_passes (λ k at h test body. is_own_loop h.iterator body || inner_loops_apart p.declarations h.iterator body) p.body

-- whether the iterator of each such loop is declared inside of one parallel loop at most, and those of its inner loops inside of one at least
abbrev pub has_iterators_in_place : Program → Bool
has_iterators_in_place p = each_passes (λ k at h test body. is_own_loop h.iterator body || (nat_lt (depth_at p.declarations h.iterator) 2 && inner_iterators_deep p.declarations body)) p.body
