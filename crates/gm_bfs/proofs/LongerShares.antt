-- A loop shares under a longer table what it shares under the shorter one.
use Rattle.std.proofs.Common.{◌≡◌, ◌<◌, ℕ, Bool, true, false, cond, List, [], ◌∷◌, ◌++◌, refl, ap}
use Rattle.std.specs.Prelude.{◌&&◌, not, nat_eq, nat_lt}
use Rattle.std.specs.List.{list_all}
use Rattle.gm_value.specs.declared.reductions.Reduce.{Reduce}
use Rattle.gm_ast.specs.declared.tree.Declaration.{Declaration}
use Rattle.gm_ast.specs.declared.tree.Target.{Target}
use Rattle.gm_ast.specs.declared.tree.Target.TheVariants as T
use Rattle.gm_ast.specs.declared.tree.Variable.{Variable}
use Rattle.gm_ast.specs.Program.{Expr, always, Stmt, Then, Assign, Combine, Group, Foreach, For, If, While, Do, InBfs, InBfsBoth}
use Rattle.gm_semantics.specs.Frames.{TargetBelow, TargetsBelow, NamesBelow}
use Rattle.gm_semantics.specs.Statements.{variable_at}
use Rattle.gm_forms.specs.Forms.{depth_at}
use Rattle.gm_forms.specs.Sharing.{Sights, with_reads, reads_in, sights_in, sights_in_all, is_at_once, are_at_once, sights_of_target, sights_at_target, sights_by, sights_of_targets, sights_of, read_at, read_elsewhere, read_anywhere, written_by, variables_of, written_at_once, written, deferred, is_owned, is_kept, variables_where, Reduced, reduced_by, all_reduced_by, reduced, shared_in, kept_in, disjoint, all_agree, all_last_one_way, targets_alike, inner_shares, inners_share, shares, at_level, level_reads_in, level_reads_in_all, level_reads_of, search_shares, loops_share}

-- what a loop shares, by what it reads, reduces, writes, reads elsewhere and defers
abbrev pub sharing : Sights → List Reduced → (own elsewhere late : List ℕ) → (inner alike : Bool) → Bool
sharing seen all own elsewhere late inner alike =
    disjoint (shared_in all) (read_anywhere seen.properties ++ (seen.scalars ++ own))
    && (disjoint (own ++ kept_in all) elsewhere
    && (disjoint late (own ++ (shared_in all ++ kept_in all))
    && (all_agree all && (inner && alike))))

-- what an inner loop shares
abbrev pub inner-sharing : ℕ → Sights → List Reduced → Bool
inner-sharing n seen all = disjoint (kept_in all) (read_at n seen.properties ++ seen.scalars) && all_last_one_way all

module _ (ds es : List Declaration) (k : ℕ) (same : (x : ℕ) → x < k → variable_at es x ≡ variable_at ds x) where
  depth-same : (x : ℕ) → x < k → depth_at es x ≡ depth_at ds x
  depth-same x b = ap (λ (v : Variable). v.depth) (same x b)

  once-same : (n : ℕ) (inner : Bool) (t : Target) → TargetBelow k t → is_at_once es n inner t ≡ is_at_once ds n inner t
  once-same n false (T.Scalar x at) b = ap (λ d. not (nat_eq d 0)) (depth-same x b)
  once-same n false (T.Property x p at) b = refl
  once-same n true (T.Scalar x at) b = ap (λ d. nat_lt 1 d) (depth-same x b)
  once-same n true (T.Property x p at) b = refl

  owned-same : (n : ℕ) (t : Target) → TargetBelow k t → is_owned es n t ≡ is_owned ds n t
  owned-same n (T.Scalar x at) b = ap (λ d. not (nat_eq d 0)) (depth-same x b)
  owned-same n (T.Property x p at) b = refl

  kept-same : (n : ℕ) (t : Target) → TargetBelow k t → is_kept es n t ≡ is_kept ds n t
  kept-same n (T.Scalar x at) b = ap (λ d. nat_eq d 1) (depth-same x b)
  kept-same n (T.Property x p at) b = refl

  module _ (f g : Target → Bool) (each : (t : Target) → TargetBelow k t → f t ≡ g t) where
    all-same : (ts : List Target) → TargetsBelow k ts → list_all f ts ≡ list_all g ts
    all-same [] b = refl
    all-same (t ∷ ts) b = let p = each t b.0 in let q = all-same ts b.1 in λ i. p i && q i

    where-same : (ts : List Target) → TargetsBelow k ts → variables_where f ts ≡ variables_where g ts
    where-same [] b = refl
    where-same (t ∷ ts) b = let p = each t b.0 in let q = where-same ts b.1 in λ i. cond (p i) (written_by t ++ q i) (q i)

  are-same : (n : ℕ) (inner : Bool) (ts : List Target) → TargetsBelow k ts → are_at_once es n inner ts ≡ are_at_once ds n inner ts
  are-same n inner ts b = all-same (is_at_once es n inner) (is_at_once ds n inner) (once-same n inner) ts b

  by-same : (n number : ℕ) (r : Reduce) (ts : List Target) → TargetsBelow k ts → reduced_by es n number r ts ≡ reduced_by ds n number r ts
  by-same n number r ts b =
      let p = all-same (is_owned es n) (is_owned ds n) (owned-same n) ts b in
      let q = where-same (λ t. not (is_owned es n t)) (λ t. not (is_owned ds n t)) (λ t c. ap not (owned-same n t c)) ts b in
      let u = where-same (is_kept es n) (is_kept ds n) (kept-same n) ts b in
      λ i. record { variables = variables_of ts; reduce = r; number = number; own = p i; shared = q i; kept = u i }

  all-by-same : (n : ℕ) (inner : Bool) (number : ℕ) (r : Reduce) (ts : List Target) → TargetsBelow k ts → all_reduced_by es n inner number r ts ≡ all_reduced_by ds n inner number r ts
  all-by-same n inner number r ts b = let p = are-same n inner ts b in let q = by-same n number r ts b in λ i. cond (p i) [] (q i ∷ [])

  targets-seen : (n : ℕ) (inner : Bool) (ts : List Target) → TargetsBelow k ts → sights_of_targets es n inner ts ≡ sights_of_targets ds n inner ts
  targets-seen n inner ts b = ap (λ c. sights_by (cond c sights_at_target sights_of_target) ts) (are-same n inner ts b)

  targets-written : (n : ℕ) (inner : Bool) (ts : List Target) → TargetsBelow k ts → written_at_once es n inner ts ≡ written_at_once ds n inner ts
  targets-written n inner ts b = ap (λ c. cond c (variables_of ts) []) (are-same n inner ts b)

  seen-same : (n : ℕ) (inner : Bool) (s : Stmt) → NamesBelow k s → sights_of es n inner s ≡ sights_of ds n inner s
  seen-same n inner (Then a b) h = let p = seen-same n inner a h.0 in let q = seen-same n inner b h.1 in λ i. with_reads (p i) (q i)
  seen-same n inner (Combine key total r ts vs) h = ap (λ z. with_reads z (sights_in_all vs)) (targets-seen n inner ts h.0)
  seen-same n inner (If key c a b) h = let p = seen-same n inner a h.1 in let q = seen-same n inner b h.2 in λ i. with_reads (sights_in c) (with_reads (p i) (q i))
  seen-same n inner (Foreach key at hd test body) h = ap (λ z. with_reads (record { properties = []; scalars = hd.owner ∷ [] }) (with_reads (sights_in test) z)) (seen-same n true body h.3)
  seen-same n inner s h = refl

  written-same : (n : ℕ) (inner : Bool) (s : Stmt) → NamesBelow k s → written es n inner s ≡ written ds n inner s
  written-same n inner (Then a b) h = let p = written-same n inner a h.0 in let q = written-same n inner b h.1 in λ i. p i ++ q i
  written-same n inner (Combine key total r ts vs) h = targets-written n inner ts h.0
  written-same n inner (If key c a b) h = let p = written-same n inner a h.1 in let q = written-same n inner b h.2 in λ i. p i ++ q i
  written-same n inner (Foreach key at hd test body) h = written-same n true body h.3
  written-same n inner s h = refl

  reduced-same : (n : ℕ) (inner : Bool) (s : Stmt) → NamesBelow k s → reduced es n inner s ≡ reduced ds n inner s
  reduced-same n inner (Then a b) h = let p = reduced-same n inner a h.0 in let q = reduced-same n inner b h.1 in λ i. p i ++ q i
  reduced-same n inner (Combine key total r ts vs) h = all-by-same n inner total.key.statement r ts h.0
  reduced-same n inner (If key c a b) h = let p = reduced-same n inner a h.1 in let q = reduced-same n inner b h.2 in λ i. p i ++ q i
  reduced-same n inner (Foreach key at hd test body) h = reduced-same n true body h.3
  reduced-same n inner s h = refl

  inner-same : (n : ℕ) (test : Expr) (body : Stmt) → NamesBelow k body → inner_shares es n test body ≡ inner_shares ds n test body
  inner-same n test body h =
      let p = seen-same n true body h in
      let q = reduced-same n true body h in
      λ i. inner-sharing n (with_reads (sights_in test) (p i)) (q i)

  inners-same : (n : ℕ) (s : Stmt) → NamesBelow k s → inners_share es n s ≡ inners_share ds n s
  inners-same n (Then a b) h = let p = inners-same n a h.0 in let q = inners-same n b h.1 in λ i. p i && q i
  inners-same n (If key c a b) h = let p = inners-same n a h.1 in let q = inners-same n b h.2 in λ i. p i && q i
  inners-same n (Foreach key at hd test body) h = inner-same n test body h.3
  inners-same n s h = refl

  levels-same : (n : ℕ) (s : Stmt) → NamesBelow k s → level_reads_of es n s ≡ level_reads_of ds n s
  levels-same n (Then a b) h = let p = levels-same n a h.0 in let q = levels-same n b h.1 in λ i. p i ++ q i
  levels-same n (Combine key total r ts vs) h = ap (λ (z : Sights). z.properties ++ level_reads_in_all vs) (targets-seen n false ts h.0)
  levels-same n (If key c a b) h = let p = levels-same n a h.1 in let q = levels-same n b h.2 in λ i. level_reads_in c ++ (p i ++ q i)
  levels-same n (Foreach key at hd test body) h = ap (λ (z : Sights). at_level hd (reads_in test ++ z.properties)) (seen-same n true body h.3)
  levels-same n s h = refl

  shares-same : (n : ℕ) (test : Expr) (body : Stmt) → NamesBelow k body → shares es n test body ≡ shares ds n test body
  shares-same n test body h =
      let p = seen-same n false body h in
      let q = reduced-same n false body h in
      let w = written-same n false body h in
      let u = inners-same n body h in
      λ i. sharing (with_reads (sights_in test) (p i)) (q i) (w i) (read_elsewhere n (reads_in test ++ (p i).properties)) (deferred body) (u i) (targets_alike body)

  search-same : (n : ℕ) (test : Expr) (body : Stmt) → NamesBelow k body → search_shares es n test body ≡ search_shares ds n test body
  search-same n test body h =
      let p = seen-same n false body h in
      let q = reduced-same n false body h in
      let w = written-same n false body h in
      let u = inners-same n body h in
      let l = levels-same n body h in
      λ i. sharing (with_reads (sights_in test) (p i)) (q i) (w i) (read_elsewhere n (reads_in test ++ l i)) (deferred body) (u i) (targets_alike body)

  -- so do all loops of a phase
  pub phase-same : (s : Stmt) → NamesBelow k s → loops_share es s ≡ loops_share ds s
  phase-same (Then a b) h = let p = phase-same a h.0 in let q = phase-same b h.1 in λ i. p i && q i
  phase-same (Group key at g p e) h = shares-same g always (Assign key (T.Property g p at) e) ((h.0, h.1), h.2)
  phase-same (Foreach key at hd test body) h = shares-same hd.iterator test body h.3
  phase-same (For key at hd test body) h = phase-same body h.3
  phase-same (If key c a b) h = let p = phase-same a h.1 in let q = phase-same b h.2 in λ i. p i && q i
  phase-same (While key at c body) h = phase-same body h.1
  phase-same (Do key at body c) h = phase-same body h.0
  phase-same (InBfs key at search test body) h = search-same search.iterator test body h.3
  phase-same (InBfsBoth key at search test body back_key back_test back) h =
      let p = search-same search.iterator test body h.3 in
      let q = search-same search.iterator back_test back h.5 in
      λ i. p i && q i
  phase-same s h = refl
