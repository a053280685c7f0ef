-- Whole bodies that have types name variables as they are declared.
use Rattle.std.proofs.Common.{ℕ, List, ◌++◌, refl, ap, Option, Some, None}
use Rattle.std.specs.Prelude.{◌||◌, is_none, Ok}
use Rattle.gm_base.specs.declared.places.Place.{Place}
use Rattle.gm_base.specs.declared.rules.Rule.TheVariants.{T6, T14}
use Rattle.gm_value.specs.declared.values.VType.{VType}
use Rattle.gm_ast.specs.declared.tree.Declaration.{Declaration}
use Rattle.gm_ast.specs.declared.tree.Head.{Head}
use Rattle.gm_ast.specs.declared.tree.Key.{Key}
use Rattle.gm_ast.specs.declared.tree.Sort.TheVariants as Sorts
use Rattle.gm_ast.specs.declared.kinds.Binding.{Binding}
use Rattle.gm_ast.specs.declared.surface.LoopWord.{LoopWord}
use Rattle.gm_ast.specs.declared.surface.LoopWord.TheVariants as Loop
use Rattle.gm_ast.specs.Surface.{SurfaceName, SurfaceExpr, SurfaceStmt}
use Rattle.gm_ast.specs.Surface as S
use Rattle.gm_ast.specs.Program as P
use Rattle.gm_ast.specs.Program.{Expr, Stmt}
use Rattle.gm_ast.specs.Judged.{beside, ok_of, refused_unless}
use Rattle.gm_ast.specs.Names.{is, is_node, used, both, iterated, numbered}
use Rattle.gm_ast.specs.Kinds.{Part, fitted}
use Rattle.gm_ast.specs.Typing.{typed, start_of, ranged, domain_of, head_with}
use Rattle.gm_ast.specs.Statements.{following, loops_of, loop_of, test, graph_searched, rooted, search_of, searched, returned, reduced, deferred, checked}
use Rattle.gm_forms.specs.Uses as Uses
use Rattle.gm_forms.specs.Uses.{use_as, uses_of_head, uses_of_search, uses_in, uses_of}
use Rattle.gm_ready.proofs.Tables.{has-append, Binds, Suit, join, suit-as}
use Rattle.gm_ready.proofs.Judging.{IfPart, if-good, if-then, Good, gives-judge, gives-beside, good-both, good-used, good-numbered, IsIterator, good-iterated}
use Rattle.gm_ready.proofs.Expressions.{IsNamed, IsNamedPart, fitted-named, condition-named, typed-named, IsOwner, ranged-named, iterates, head-named}
use Rattle.gm_ready.proofs.Statements.{IsNamedStmt, assignment-named, deferred-named, reduced-named, increment-named, beside-iterator}
use Rattle.gm_ready.proofs.Declarations.{plain-named, valued-named, known-behind}

module _ (ds : List Declaration) where
  test-named : (e : SurfaceExpr) → Good ds (IsNamed ds) (test e)
  test-named e = condition-named ds (start_of e) (typed e) (typed-named ds e)

  -- a filter and a body behind it
  abbrev AreCode : Expr × Stmt → Type 0
  AreCode p = IsNamed ds p.0 × IsNamedStmt ds p.1

  code : (p : Expr × Stmt) → AreCode p → Suit ds (uses_in p.0 ++ uses_of p.1)
  code p h = join ds (uses_in p.0) (uses_of p.1) h.0 h.1

  loop-named : (word : LoopWord) (k : Key) (at : Place) (h : Head) (filter : Expr) (body : Stmt) → Suit ds (uses_of_head h ++ (uses_in filter ++ uses_of body)) → IsNamedStmt ds (loop_of word k at h filter body)
  loop-named Loop.Foreach k at h filter body s = s
  loop-named Loop.For k at h filter body s = s

  -- ---- searches

  root-named : (root : SurfaceName) → Good ds (λ b. Suit ds (use_as Uses.Owner b.index)) (rooted root)
  root-named root env known = gives-judge ds (Binds ds) (λ b. Suit ds (use_as Uses.Owner b.index)) env.next (used root env) (λ b. refused_unless (is_node b.variable) T6 root.place b)
      (good-used ds root env known) (λ b h. if-good (λ b. Suit ds (use_as Uses.Owner b.index)) (is_node b.variable) T6 root.place b (λ n. suit-as ds Uses.Owner b h (ap (λ t. t || is Sorts.Graph b.variable) n)))

  graph-named : (g : SurfaceName) → Good ds (λ b. Suit ds (use_as Uses.Anything b.index)) (graph_searched g)
  graph-named g env known = gives-judge ds (Binds ds) (λ b. Suit ds (use_as Uses.Anything b.index)) env.next (used g env) (λ b. refused_unless (is Sorts.Graph b.variable) T6 g.place b)
      (good-used ds g env known) (λ b h. if-good (λ b. Suit ds (use_as Uses.Anything b.index)) (is Sorts.Graph b.variable) T6 g.place b (λ _. suit-as ds Uses.Anything b h refl))

  abbrev AreSearched : Binding × Binding → Type 0
  AreSearched bs = Suit ds (use_as Uses.Anything bs.0.index) × Suit ds (use_as Uses.Owner bs.1.index)

  ends-named : (g root : SurfaceName) → Good ds AreSearched (both (graph_searched g) (rooted root))
  ends-named g root = good-both ds (λ b. Suit ds (use_as Uses.Anything b.index)) (λ b. Suit ds (use_as Uses.Owner b.index)) (graph_searched g) (rooted root) (graph-named g) (root-named root)

  search-named : (root : SurfaceName) (bs : Binding × Binding) (i : ℕ) → AreSearched bs → IsIterator ds i → Suit ds (uses_of_search (search_of root bs i))
  search-named root bs i h it = join ds (use_as Uses.Iterates i) (use_as Uses.Anything bs.0.index ++ use_as Uses.Owner bs.1.index) (iterates ds i it) (join ds (use_as Uses.Anything bs.0.index) (use_as Uses.Owner bs.1.index) h.0 h.1)

  returned-named : (k : Key) (at : Place) (o : Option VType) (p : Part) → IsNamedPart ds p → IfPart (IsNamedStmt ds) (ok_of (returned k at o p))
  returned-named k at None p h = tt
  returned-named k at (Some t) p h = if-then (IsNamed ds) (IsNamedStmt ds) (fitted t T14 at p) (λ e. P.Return k at (Some e)) (fitted-named ds t T14 at p h) (λ e n. n)

  -- ---- a statement

  code-named : (filter : SurfaceExpr) (body : SurfaceStmt) → Good ds (IsNamedStmt ds) (checked body) → Good ds AreCode (both (test filter) (numbered (checked body)))
  code-named filter body good = good-both ds (IsNamed ds) (IsNamedStmt ds) (test filter) (numbered (checked body)) (test-named filter) (good-numbered ds (IsNamedStmt ds) (checked body) good)

  pub checked-named : (s : SurfaceStmt) → Good ds (IsNamedStmt ds) (checked s)
  checked-named S.Skip env known = λ has clean. refl
  checked-named (S.Then a b) env known =
      let x = numbered (checked a) env in
      let y = checked b (following a env x) in
      gives-judge ds (λ p. IsNamedStmt ds p.0 × IsNamedStmt ds p.1) (IsNamedStmt ds) env.next (beside x y) (λ p. Ok (P.Then p.0 p.1))
      (λ has clean. gives-beside ds (IsNamedStmt ds) (IsNamedStmt ds) env.next x y (good-numbered ds (IsNamedStmt ds) (checked a) (checked-named a) env known)
      (checked-named b (following a env x) (known-behind ds a env known (has-append ds env.next x.declared y.declared has).0)) has clean)
      (λ p h. join ds (uses_of p.0) (uses_of p.1) h.0 h.1)
  checked-named (S.Declare t xs) env known = plain-named ds t xs env known
  checked-named (S.DeclareAs t x at e) env known = valued-named ds t x at e env known
  checked-named (S.Assign t at e) env known = assignment-named ds t.property t at e env known
  checked-named (S.Defer t at e iterator) env known = beside-iterator ds (deferred t at e) iterator (deferred-named ds t at e) env known
  checked-named (S.Combine ts r at es iterator) env known = beside-iterator ds (reduced ts r at es) iterator (reduced-named ds ts r at es) env known
  checked-named (S.Increment t at) env known = increment-named ds t at env known
  checked-named (S.Call r f es xs) env known = λ has clean. tt
  checked-named (S.Loop at word h filter body) env known =
      let inner = both (test filter) (numbered (checked body)) in
      gives-judge ds (λ p. IsOwner ds (domain_of h.range) p.0 × (IsIterator ds p.1.0 × AreCode p.1.1)) (IsNamedStmt ds) env.next (both (ranged h) (iterated h.iterator (loops_of word) inner) env)
      (λ p. Ok (loop_of word env.key at (head_with h p.0 p.1.0) p.1.1.0 p.1.1.1))
      (good-both ds (IsOwner ds (domain_of h.range)) (λ p. IsIterator ds p.0 × AreCode p.1) (ranged h) (iterated h.iterator (loops_of word) inner) (ranged-named ds h)
      (good-iterated ds AreCode h.iterator (loops_of word) inner (code-named filter body (checked-named body))) env known)
      (λ p n. loop-named word env.key at (head_with h p.0 p.1.0) p.1.1.0 p.1.1.1
      (join ds (uses_of_head (head_with h p.0 p.1.0)) (uses_in p.1.1.0 ++ uses_of p.1.1.1) (head-named ds h p.0 p.1.0 n.0 n.1.0) (code p.1.1 n.1.1)))
  checked-named (S.If at c a b) env known =
      let branches = both (numbered (checked a)) (numbered (checked b)) in
      gives-judge ds (λ p. IsNamed ds p.0 × (IsNamedStmt ds p.1.0 × IsNamedStmt ds p.1.1)) (IsNamedStmt ds) env.next (both (test c) branches env) (λ p. Ok (P.If env.key p.0 p.1.0 p.1.1))
      (good-both ds (IsNamed ds) (λ p. IsNamedStmt ds p.0 × IsNamedStmt ds p.1) (test c) branches (test-named c)
      (good-both ds (IsNamedStmt ds) (IsNamedStmt ds) (numbered (checked a)) (numbered (checked b))
      (good-numbered ds (IsNamedStmt ds) (checked a) (checked-named a)) (good-numbered ds (IsNamedStmt ds) (checked b) (checked-named b))) env known)
      (λ p h. join ds (uses_in p.0) (uses_of p.1.0 ++ uses_of p.1.1) h.0 (join ds (uses_of p.1.0) (uses_of p.1.1) h.1.0 h.1.1))
  checked-named (S.While at c body) env known =
      gives-judge ds AreCode (IsNamedStmt ds) env.next (both (test c) (numbered (checked body)) env) (λ p. Ok (P.While env.key at p.0 p.1))
      (code-named c body (checked-named body) env known) (λ p h. code p h)
  checked-named (S.Do at body c) env known =
      gives-judge ds (λ p. IsNamedStmt ds p.0 × IsNamed ds p.1) (IsNamedStmt ds) env.next (both (numbered (checked body)) (test c) env) (λ p. Ok (P.Do env.key at p.0 p.1))
      (good-both ds (IsNamedStmt ds) (IsNamed ds) (numbered (checked body)) (test c) (good-numbered ds (IsNamedStmt ds) (checked body) (checked-named body)) (test-named c) env known)
      (λ p h. join ds (uses_of p.0) (uses_in p.1) h.0 h.1)
  checked-named (S.InBfs at v g root filter body) env known =
      let ends = both (graph_searched g) (rooted root) in
      let inner = both (test filter) (numbered (checked body)) in
      gives-judge ds (λ p. AreSearched p.0 × (IsIterator ds p.1.0 × AreCode p.1.1)) (IsNamedStmt ds) env.next (both ends (iterated v 1 inner) env)
      (λ p. Ok (P.InBfs env.key at (search_of root p.0 p.1.0) p.1.1.0 p.1.1.1))
      (good-both ds AreSearched (λ p. IsIterator ds p.0 × AreCode p.1) ends (iterated v 1 inner) (ends-named g root) (good-iterated ds AreCode v 1 inner (code-named filter body (checked-named body))) env known)
      (λ p n. join ds (uses_of_search (search_of root p.0 p.1.0)) (uses_in p.1.1.0 ++ uses_of p.1.1.1) (search-named root p.0 p.1.0 n.0 n.1.0) (code p.1.1 n.1.1))
  checked-named (S.InBfsBoth at v g root filter body reverse back_filter back) env known =
      let ends = both (graph_searched g) (rooted root) in
      let there = both (test filter) (numbered (checked body)) in
      let back_part = searched (test back_filter) (numbered (checked back)) in
      let inner = both there (numbered back_part) in
      gives-judge ds (λ p. AreSearched p.0 × (IsIterator ds p.1.0 × (AreCode p.1.1.0 × AreCode p.1.1.1.1))) (IsNamedStmt ds) env.next (both ends (iterated v 1 inner) env)
      (λ p. Ok (P.InBfsBoth env.key at (search_of root p.0 p.1.0) p.1.1.0.0 p.1.1.0.1 p.1.1.1.0 p.1.1.1.1.0 p.1.1.1.1.1))
      (good-both ds AreSearched (λ p. IsIterator ds p.0 × (AreCode p.1.0 × AreCode p.1.1.1)) ends (iterated v 1 inner) (ends-named g root)
      (good-iterated ds (λ p. AreCode p.0 × AreCode p.1.1) v 1 inner
      (good-both ds AreCode (λ q. AreCode q.1) there (numbered back_part) (code-named filter body (checked-named body))
      (good-numbered ds (λ q. AreCode q.1) back_part
      (λ env known. gives-judge ds AreCode (λ q. AreCode q.1) env.next (both (test back_filter) (numbered (checked back)) env) (λ p. Ok (env.key, p))
      (code-named back_filter back (checked-named back) env known) (λ p h. h))))) env known)
      (λ p n. join ds (uses_of_search (search_of root p.0 p.1.0)) (uses_in p.1.1.0.0 ++ (uses_of p.1.1.0.1 ++ (uses_in p.1.1.1.1.0 ++ uses_of p.1.1.1.1.1))) (search-named root p.0 p.1.0 n.0 n.1.0)
      (join ds (uses_in p.1.1.0.0) (uses_of p.1.1.0.1 ++ (uses_in p.1.1.1.1.0 ++ uses_of p.1.1.1.1.1)) n.1.1.0.0
      (join ds (uses_of p.1.1.0.1) (uses_in p.1.1.1.1.0 ++ uses_of p.1.1.1.1.1) n.1.1.0.1 (code p.1.1.1.1 n.1.1.1))))
  checked-named (S.Return at None) env known = λ has clean. if-good (IsNamedStmt ds) (is_none env.result) T14 at (P.Return env.key at None) (λ _. refl)
  checked-named (S.Return at (Some e)) env known = gives-judge ds (IsNamedPart ds) (IsNamedStmt ds) env.next (typed e env) (returned env.key at env.result)
      (typed-named ds e env known) (λ p h. returned-named env.key at env.result p h)
