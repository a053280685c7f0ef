-- Programs with their searches as loops.
use Rattle.std.specs.Prelude.{ℕ, Bool, true, false, ◌||◌, if◌then◌else◌, length}
use Rattle.gm_ast.specs.Program.{Stmt, Then, For, If, While, Do, InBfs, InBfsBoth, Program}
use Rattle.gm_bfs.specs.declared.fresh.Fresh.{Fresh}
use Rattle.gm_bfs.specs.Variables.{fresh_from, with_fresh}
use Rattle.gm_bfs.specs.Searches.{search_out, search_both}

-- a sequential phase with each search as loops over levels, behind so many declared variables
abbrev pub searches_out : Fresh → ℕ → Stmt → Stmt
searches_out f count (Then a b) = Then (searches_out f count a) (searches_out f count b)
searches_out f count (For k at h test body) = For k at h test (searches_out f count body)
searches_out f count (If k c a b) = If k c (searches_out f count a) (searches_out f count b)
searches_out f count (While k at c body) = While k at c (searches_out f count body)
searches_out f count (Do k at body c) = Do k at (searches_out f count body) c
searches_out f count (InBfs k at search test body) = search_out f count k search test body
searches_out f count (InBfsBoth k at search test body back_key back_test back) = search_both f count k search test body back_key back_test back
searches_out f count s = s

-- whether a sequential phase has a search. No other code has one
abbrev pub has_search : Stmt → Bool
has_search (Then a b) = has_search a || has_search b
has_search (For k at h test body) = has_search body
has_search (If k c a b) = has_search a || has_search b
has_search (While k at c body) = has_search body
has_search (Do k at body c) = has_search body
has_search (InBfs k at search test body) = true
has_search (InBfsBoth k at search test body back_key back_test back) = true
has_search s = false

-- a program with each search as loops. One without searches stays as it is
abbrev pub levelled : Program → Program
levelled p =
    if has_search p.body
    then record p { declarations = with_fresh p.declarations; body = searches_out (fresh_from (length p.declarations)) (length p.declarations) p.body }
    else p
