-- Each loop of a sequential phase shares what it shared when its reductions are inner loops.
use Rattle.std.proofs.Common.{◌≡◌, ◌≤◌, ◌<◌, ◌+◌, ◌++◌, ℕ, Bool, true, false, List, ◌∷◌, length, refl, sym, ap, subst, ◌∙◌, arith}
use Rattle.std.proofs.lemmas.List.{length-append}
use Rattle.gm_ast.specs.declared.tree.Declaration.{Declaration}
use Rattle.gm_ast.specs.declared.tree.Key.{Key}
use Rattle.gm_ast.specs.declared.tree.Search.{Search}
use Rattle.gm_ast.specs.Program.{Expr, Stmt, Then, Foreach, For, If, While, Do, InBfs, InBfsBoth}
use Rattle.gm_semantics.specs.Frames.{NamesBelow}
use Rattle.gm_forms.specs.Sharing.{search_shares, loops_share}
use Rattle.gm_forms.proofs.Named.{both-true}
use Rattle.gm_forms.proofs.Weaker.{and-true}
use Rattle.gm_hoisting.specs.Hoisting.{count_folds, fold_types, count_body, body_types, is_sure, has_none, filter_left, search_key, opened, root_checked, count_check, check_added, count_loop, loop_added, count_phase, phase_added, phase_out}
use Rattle.gm_hoisting.proofs.Placed.{length-folds, length-body, length-loop, length-check, length-phase, Placed, placed-both, placed-local}
use Rattle.gm_hoisting.proofs.ShareFolds.{Deep}
use Rattle.gm_hoisting.proofs.ShareKept.{loop-shares, search-shares}

module _ (es : List Declaration) (k : ℕ) where
  deep-loop : (outer n : ℕ) (test : Expr) (body : Stmt) → Placed es n (loop_added test body) → Deep es outer k n (count_folds test + count_body body)
  deep-loop outer n test body h i lo hi =
      placed-local es n (fold_types test ++ body_types body) i h lo
      (subst (λ c. i < n + c) (sym (length-append (fold_types test) (body_types body) ∙ ap (λ c. c + length (body_types body)) (length-folds test) ∙ ap (λ c. count_folds test + c) (length-body body))) hi)

  checked-shares : (b : Bool) (n : ℕ) (key : Key) (s : Search) (t : Stmt) → loops_share es t ≡ true → loops_share es (root_checked b n key s t) ≡ true
  checked-shares true n key s t h = h
  checked-shares false n key s t h = and-true (loops_share es t) true h refl

  pub phase-shares : (s : Stmt) (its : List ℕ) (n : ℕ) → k ≤ n → NamesBelow k s → Placed es n (phase_added its s) → loops_share es s ≡ true → loops_share es (phase_out its n s) ≡ true
  phase-shares (Then a b) its n l names placed h =
      let q = both-true (loops_share es a) (loops_share es b) h in
      let p = placed-both es n (phase_added its a) (phase_added its b) placed in
      and-true (loops_share es (phase_out its n a)) (loops_share es (phase_out its (n + count_phase its a) b)) (phase-shares a its n l names.0 p.0 q.0)
      (phase-shares b its (n + count_phase its a) (omega (arith, l)) names.1 (subst (λ c. Placed es (n + c) (phase_added its b)) (length-phase a its) p.1) q.1)
  phase-shares (Foreach key at hd test body) its n l names placed h = loop-shares es hd.iterator k n key test body l names.2 names.3 (deep-loop hd.iterator n test body placed) h
  phase-shares (For key at hd test body) its n l names placed h = phase-shares body (hd.iterator ∷ its) n l names.3 placed h
  phase-shares (If key c a b) its n l names placed h =
      let q = both-true (loops_share es a) (loops_share es b) h in
      let p = placed-both es n (phase_added its a) (phase_added its b) placed in
      and-true (loops_share es (phase_out its n a)) (loops_share es (phase_out its (n + count_phase its a) b)) (phase-shares a its n l names.1 p.0 q.0)
      (phase-shares b its (n + count_phase its a) (omega (arith, l)) names.2 (subst (λ c. Placed es (n + c) (phase_added its b)) (length-phase a its) p.1) q.1)
  phase-shares (While key at c body) its n l names placed h = phase-shares body its n l names.1 placed h
  phase-shares (Do key at body c) its n l names placed h = phase-shares body its n l names.0 placed h
  phase-shares (InBfs key at s test body) its n l names placed h =
      let none = has_none test in
      let sure = is_sure its s test in
      let m = n + count_check sure in
      let p = placed-both es n (check_added sure) (loop_added test body) placed in
      let there = subst (λ c. Placed es (n + c) (loop_added test body)) (length-check sure) p.1 in
      checked-shares sure n key s (InBfs (search_key none key) at s (filter_left none test) (opened m key test body)) (search-shares es s.iterator k m key test body (omega (arith, l)) names.2 names.3 (deep-loop s.iterator m test body there) h)
  phase-shares (InBfsBoth key at s test body back_key back_test back) its n l names placed h =
      let none = has_none test in
      let sure = is_sure its s test in
      let m = n + count_check sure in
      let m2 = m + count_loop test body in
      let p = placed-both es n (check_added sure) (loop_added test body ++ loop_added back_test back) placed in
      let p2 = placed-both es m (loop_added test body) (loop_added back_test back) (subst (λ c. Placed es (n + c) (loop_added test body ++ loop_added back_test back)) (length-check sure) p.1) in
      let there = subst (λ c. Placed es (m + c) (loop_added back_test back)) (length-loop test body) p2.1 in
      let q = both-true (search_shares es s.iterator test body) (search_shares es s.iterator back_test back) h in
      checked-shares sure n key s (InBfsBoth (search_key none key) at s (filter_left none test) (opened m key test body) (search_key (has_none back_test) back_key) (filter_left (has_none back_test) back_test) (opened m2 back_key back_test back))
      (and-true (search_shares es s.iterator (filter_left none test) (opened m key test body)) (search_shares es s.iterator (filter_left (has_none back_test) back_test) (opened m2 back_key back_test back))
      (search-shares es s.iterator k m key test body (omega (arith, l)) names.2 names.3 (deep-loop s.iterator m test body p2.0) q.0)
      (search-shares es s.iterator k m2 back_key back_test back (omega (arith, l)) names.4 names.5 (deep-loop s.iterator m2 back_test back there) q.1))
  phase-shares s its n l names placed h = h
