-- What walks over sets of variables keep of an inner body is what is evaluated of it.
use Rattle.std.proofs.Common.{◌≡◌, ◌<◌, ◌≤◌, ℕ, zero, suc, Bool, true, false, true≢false, List, [], ◌∷◌, ◌++◌, length, get_or, map, refl, sym, ap, subst, ◌∙◌, arith, Option, Some, None, cond}
use Rattle.std.proofs.Math.ListN.{set}
use Rattle.std.proofs.Math.Path.{fun_ext}
use Rattle.std.specs.Prelude.{◌&&◌, ◌||◌, not, if◌then◌else◌}
use Rattle.std.specs.List.{list_any}
use Rattle.std.proofs.lemmas.List.{length-map, length-set}
use Rattle.gm_ast.specs.declared.tree.Declaration.{Declaration}
use Rattle.gm_ast.specs.declared.tree.Target.{Target}
use Rattle.gm_ast.specs.declared.tree.Target.TheVariants as T
use Rattle.gm_ast.specs.Program.{Expr, Stmt, Skip, Then, Declare, DeclareEdge, Assign, Defer, Combine, Group, Foreach, For, If, While, Do, InBfs, InBfsBoth, Return, sequence}
use Rattle.gm_ast.specs.Ways.{is_in}
use Rattle.gm_forms.specs.Sharing.{told_in, sights_in_all, sights_of_target, sights_at_target, sights_by, sights_of, are_at_once, variables_of, written}
use Rattle.gm_loop_laws.specs.Resumed.{is_still, serves, needs, kept, resumed}
use Rattle.gm_cut.specs.Slices.{statements_of}
use Rattle.gm_slices.specs.Keeping.{with_read_at, with_reads_at, is_plain, is_if, sets, with_read, is_wanted, with_wants, wanted, branches, with_branches, wanted_all, wanted_from, with_wants_from}
use Rattle.gm_slices.specs.Needs.{none, with_member, either, with_told, with_all_told, is_touched}
use Rattle.gm_slices.proofs.Needed.{over, over-one, over-list, both, told-same, all-told, option-told, single, target-touched, two}

-- ---- what is read

read-at : (held : Bool) (t : Target) (m : ℕ → Bool) → with_read_at held t m ≡ over (cond held (sights_at_target t) (sights_of_target t)).scalars m
read-at true (T.Scalar x at) m = over-one x m
read-at true (T.Property x p at) m = over-one x m
read-at false (T.Scalar x at) m = refl
read-at false (T.Property x p at) m = over-one x m

reads-at : (held : Bool) (ts : List Target) (m : ℕ → Bool) → with_reads_at held ts m ≡ over (sights_by (cond held sights_at_target sights_of_target) ts).scalars m
reads-at held [] m = refl
reads-at true (t ∷ ts) m = both (sights_at_target t).scalars (sights_by sights_at_target ts).scalars (with_read_at true t) (with_reads_at true ts) m (read-at true t m) (reads-at true ts)
reads-at false (t ∷ ts) m = both (sights_of_target t).scalars (sights_by sights_of_target ts).scalars (with_read_at false t) (with_reads_at false ts) m (read-at false t m) (reads-at false ts)

and-none : (b : Bool) → b && false ≡ false
and-none true = refl
and-none false = refl

module _ (ds : List Declaration) (its : List ℕ) (n : ℕ) where
  read-same : (s : Stmt) (m : ℕ → Bool) → with_read ds its n s m ≡ over (sights_of ds n true s).scalars m
  read-same Skip m = refl
  read-same (Then a b) m = both (sights_of ds n true a).scalars (sights_of ds n true b).scalars (with_read ds its n a) (with_read ds its n b) m (read-same a m) (read-same b)
  read-same (Declare k x e) m = option-told e m
  read-same (DeclareEdge x y at) m = refl
  read-same (Assign k t e) m = both (sights_of_target t).scalars (told_in e) (with_read_at false t) (with_told e) m (read-at false t m) (told-same e)
  read-same (Defer k t e) m = both (sights_of_target t).scalars (told_in e) (with_read_at false t) (with_told e) m (read-at false t m) (told-same e)
  read-same (Combine k total r ts es) m =
      let held = are_at_once ds n true ts in both (sights_by (cond held sights_at_target sights_of_target) ts).scalars (sights_in_all es).scalars (with_reads_at held ts) (with_all_told es) m (reads-at held ts m) (all-told es)
  read-same (Group k at g p e) m = refl
  read-same (Foreach k at h test body) m =
      both (h.owner ∷ []) (told_in test ++ (sights_of ds n true body).scalars) (with_member h.owner) (λ k. with_read ds its n body (with_told test k)) m (over-one h.owner m)
      (λ k. both (told_in test) (sights_of ds n true body).scalars (with_told test) (with_read ds its n body) k (told-same test k) (read-same body))
  read-same (For k at h test body) m = refl
  read-same (If k c a b) m =
      both (told_in c) ((sights_of ds n true a).scalars ++ (sights_of ds n true b).scalars) (with_told c) (λ k. with_read ds its n b (with_read ds its n a k)) m (told-same c m)
      (λ k. both (sights_of ds n true a).scalars (sights_of ds n true b).scalars (with_read ds its n a) (with_read ds its n b) k (read-same a k) (read-same b))
  read-same (While k at c body) m = refl
  read-same (Do k at body c) m = refl
  read-same (InBfs k at s test body) m = refl
  read-same (InBfsBoth k at s test body bk bt back) m = refl
  read-same (Return k at e) m = refl

  -- ---- what is set

  once-set : (b : Bool) (m : ℕ → Bool) (ts : List Target) → b && list_any (is_touched m) ts ≡ list_any m (cond b (variables_of ts) [])
  once-set true m ts = target-touched m ts
  once-set false m ts = refl

  sets-same : (m : ℕ → Bool) (s : Stmt) → sets ds its n m s ≡ list_any m (written ds n true s)
  sets-same m Skip = refl
  sets-same m (Then a b) = two m (written ds n true a) (written ds n true b) (sets ds its n m a) (sets ds its n m b) (sets-same m a) (sets-same m b)
  sets-same m (Declare k x e) = single (m x)
  sets-same m (DeclareEdge x y at) = refl
  sets-same m (Assign k (T.Scalar x at) e) = single (m x)
  sets-same m (Assign k (T.Property x p at) e) = single (m p)
  sets-same m (Defer k t e) = refl
  sets-same m (Combine k total r ts es) = once-set (are_at_once ds n true ts) m ts
  sets-same m (Group k at g p e) = refl
  sets-same m (Foreach k at h test body) = sets-same m body
  sets-same m (For k at h test body) = refl
  sets-same m (If k c a b) = two m (written ds n true a) (written ds n true b) (sets ds its n m a) (sets ds its n m b) (sets-same m a) (sets-same m b)
  sets-same m (While k at c body) = refl
  sets-same m (Do k at body c) = refl
  sets-same m (InBfs k at s test body) = refl
  sets-same m (InBfsBoth k at s test body bk bt back) = refl
  sets-same m (Return k at e) = refl

  -- ---- what is wanted

  wanted-same : (new : Bool) (xs : List ℕ) (s : Stmt) → is_wanted ds its n new (is_in xs) s ≡ serves ds its n new xs s
  wanted-same new xs s = ap (λ b. b || (new && not (is_still its s))) (sets-same (is_in xs) s)

  chosen : (b c : Bool) (m : ℕ → Bool) (xs ys : List ℕ) → b ≡ c → m ≡ is_in ys → (if b then m else is_in xs) ≡ is_in (if c then ys else xs)
  chosen b true m xs ys e f = ap (λ d. if d then m else is_in xs) e ∙ f
  chosen b false m xs ys e f = ap (λ d. if d then m else is_in xs) e

  leaf-wants : (new : Bool) (s : Stmt) (xs : List ℕ) → (if is_wanted ds its n new (is_in xs) s then with_read ds its n s (is_in xs) else is_in xs) ≡ is_in (if serves ds its n new xs s then (sights_of ds n true s).scalars ++ xs else xs)
  leaf-wants new s xs =
      let rs = (sights_of ds n true s).scalars in
      chosen (is_wanted ds its n new (is_in xs) s) (serves ds its n new xs s) (with_read ds its n s (is_in xs)) xs (rs ++ xs) (wanted-same new xs s) (read-same s (is_in xs) ∙ over-list rs xs)

  branch-wants : (c : Expr) (a b : ℕ → Bool) (ys zs : List ℕ) → a ≡ is_in ys → b ≡ is_in zs → with_told c (either a b) ≡ is_in (told_in c ++ (ys ++ zs))
  branch-wants c a b ys zs e f =
      ap (λ k. with_told c (either k b)) e ∙ ap (λ k. with_told c (either (is_in ys) k)) f ∙ told-same c (either (is_in ys) (is_in zs))
      ∙ ap (over (told_in c)) (over-list ys zs) ∙ over-list (told_in c) (ys ++ zs)

  pub wants-same : (new : Bool) (s : Stmt) (xs : List ℕ) → with_wants ds its n new s (is_in xs) ≡ is_in (needs ds its n new s xs)
  wants-same new Skip xs = refl
  wants-same new (Then a b) xs = ap (with_wants ds its n new a) (wants-same new b xs) ∙ wants-same new a (needs ds its n new b xs)
  wants-same new (DeclareEdge x y at) xs = refl
  wants-same new (If k c a b) xs =
      chosen (is_wanted ds its n new (is_in xs) (If k c a b)) (serves ds its n new xs (If k c a b)) (with_told c (either (with_wants ds its n new a (is_in xs)) (with_wants ds its n new b (is_in xs)))) xs
      (told_in c ++ (needs ds its n new a xs ++ needs ds its n new b xs)) (wanted-same new xs (If k c a b))
      (branch-wants c (with_wants ds its n new a (is_in xs)) (with_wants ds its n new b (is_in xs)) (needs ds its n new a xs) (needs ds its n new b xs) (wants-same new a xs) (wants-same new b xs))
  wants-same new (Declare k x e) xs = leaf-wants new (Declare k x e) xs
  wants-same new (Assign k t e) xs = leaf-wants new (Assign k t e) xs
  wants-same new (Defer k t e) xs = leaf-wants new (Defer k t e) xs
  wants-same new (Combine k total r ts es) xs = leaf-wants new (Combine k total r ts es) xs
  wants-same new (Group k at g p e) xs = leaf-wants new (Group k at g p e) xs
  wants-same new (Foreach k at h test body) xs = leaf-wants new (Foreach k at h test body) xs
  wants-same new (For k at h test body) xs = leaf-wants new (For k at h test body) xs
  wants-same new (While k at c body) xs = leaf-wants new (While k at c body) xs
  wants-same new (Do k at body c) xs = leaf-wants new (Do k at body c) xs
  wants-same new (InBfs k at s test body) xs = leaf-wants new (InBfs k at s test body) xs
  wants-same new (InBfsBoth k at s test body bk bt back) xs = leaf-wants new (InBfsBoth k at s test body bk bt back) xs
  wants-same new (Return k at e) xs = leaf-wants new (Return k at e) xs

  leaf-kept : (new : Bool) (s : Stmt) (xs : List ℕ) → (if is_wanted ds its n new (is_in xs) s then s else Skip) ≡ (if serves ds its n new xs s then s else Skip)
  leaf-kept new s xs = ap (λ b. if b then s else Skip) (wanted-same new xs s)

  pub kept-same : (new : Bool) (s : Stmt) (xs : List ℕ) → wanted ds its n new s (is_in xs) ≡ kept ds its n new s xs
  kept-same new Skip xs = refl
  kept-same new (Then a b) xs =
      ap (λ m. Then (wanted ds its n new a m) (wanted ds its n new b (is_in xs))) (wants-same new b xs) ∙ ap (λ s. Then s (wanted ds its n new b (is_in xs))) (kept-same new a (needs ds its n new b xs)) ∙ ap (Then (kept ds its n new a (needs ds its n new b xs))) (kept-same new b xs)
  kept-same new (DeclareEdge x y at) xs = refl
  kept-same new (If k c a b) xs =
      ap (λ d. if d then If k c (wanted ds its n new a (is_in xs)) (wanted ds its n new b (is_in xs)) else Skip) (wanted-same new xs (If k c a b))
      ∙ ap (λ s. if serves ds its n new xs (If k c a b) then If k c s (wanted ds its n new b (is_in xs)) else Skip) (kept-same new a xs) ∙ ap (λ s. if serves ds its n new xs (If k c a b) then If k c (kept ds its n new a xs) s else Skip) (kept-same new b xs)
  kept-same new (Declare k x e) xs = leaf-kept new (Declare k x e) xs
  kept-same new (Assign k t e) xs = leaf-kept new (Assign k t e) xs
  kept-same new (Defer k t e) xs = leaf-kept new (Defer k t e) xs
  kept-same new (Combine k total r ts es) xs = leaf-kept new (Combine k total r ts es) xs
  kept-same new (Group k at g p e) xs = leaf-kept new (Group k at g p e) xs
  kept-same new (Foreach k at h test body) xs = leaf-kept new (Foreach k at h test body) xs
  kept-same new (For k at h test body) xs = leaf-kept new (For k at h test body) xs
  kept-same new (While k at c body) xs = leaf-kept new (While k at c body) xs
  kept-same new (Do k at body c) xs = leaf-kept new (Do k at body c) xs
  kept-same new (InBfs k at s test body) xs = leaf-kept new (InBfs k at s test body) xs
  kept-same new (InBfsBoth k at s test body bk bt back) xs = leaf-kept new (InBfsBoth k at s test body bk bt back) xs
  kept-same new (Return k at e) xs = leaf-kept new (Return k at e) xs

  -- ---- statements that are neither blocks nor Ifs

  pub plain-kept : (new : Bool) (s : Stmt) (m : ℕ → Bool) → is_plain s ≡ true → is_wanted ds its n new m s ≡ true → s ≡ wanted ds its n new s m
  plain-kept new Skip m p e = absurd (true≢false (sym p))
  plain-kept new (Then a b) m p e = absurd (true≢false (sym p))
  plain-kept new (DeclareEdge x y at) m p e = absurd (true≢false (sym p))
  plain-kept new (If k c a b) m p e = absurd (true≢false (sym p))
  plain-kept new (Declare k x v) m p e = ap (λ d. if d then Declare k x v else Skip) (sym e)
  plain-kept new (Assign k t v) m p e = ap (λ d. if d then Assign k t v else Skip) (sym e)
  plain-kept new (Defer k t v) m p e = ap (λ d. if d then Defer k t v else Skip) (sym e)
  plain-kept new (Combine k total r ts es) m p e = ap (λ d. if d then Combine k total r ts es else Skip) (sym e)
  plain-kept new (Group k at g q v) m p e = ap (λ d. if d then Group k at g q v else Skip) (sym e)
  plain-kept new (Foreach k at h test body) m p e = ap (λ d. if d then Foreach k at h test body else Skip) (sym e)
  plain-kept new (For k at h test body) m p e = ap (λ d. if d then For k at h test body else Skip) (sym e)
  plain-kept new (While k at c body) m p e = ap (λ d. if d then While k at c body else Skip) (sym e)
  plain-kept new (Do k at body c) m p e = ap (λ d. if d then Do k at body c else Skip) (sym e)
  plain-kept new (InBfs k at s test body) m p e = ap (λ d. if d then InBfs k at s test body else Skip) (sym e)
  plain-kept new (InBfsBoth k at s test body bk bt back) m p e = ap (λ d. if d then InBfsBoth k at s test body bk bt back else Skip) (sym e)
  plain-kept new (Return k at v) m p e = ap (λ d. if d then Return k at v else Skip) (sym e)

  pub plain-needs : (new : Bool) (s : Stmt) (m : ℕ → Bool) → is_plain s ≡ true → is_wanted ds its n new m s ≡ true → with_read ds its n s m ≡ with_wants ds its n new s m
  plain-needs new Skip m p e = absurd (true≢false (sym p))
  plain-needs new (Then a b) m p e = absurd (true≢false (sym p))
  plain-needs new (DeclareEdge x y at) m p e = absurd (true≢false (sym p))
  plain-needs new (If k c a b) m p e = absurd (true≢false (sym p))
  plain-needs new (Declare k x v) m p e = ap (λ d. if d then with_read ds its n (Declare k x v) m else m) (sym e)
  plain-needs new (Assign k t v) m p e = ap (λ d. if d then with_read ds its n (Assign k t v) m else m) (sym e)
  plain-needs new (Defer k t v) m p e = ap (λ d. if d then with_read ds its n (Defer k t v) m else m) (sym e)
  plain-needs new (Combine k total r ts es) m p e = ap (λ d. if d then with_read ds its n (Combine k total r ts es) m else m) (sym e)
  plain-needs new (Group k at g q v) m p e = ap (λ d. if d then with_read ds its n (Group k at g q v) m else m) (sym e)
  plain-needs new (Foreach k at h test body) m p e = ap (λ d. if d then with_read ds its n (Foreach k at h test body) m else m) (sym e)
  plain-needs new (For k at h test body) m p e = ap (λ d. if d then with_read ds its n (For k at h test body) m else m) (sym e)
  plain-needs new (While k at c body) m p e = ap (λ d. if d then with_read ds its n (While k at c body) m else m) (sym e)
  plain-needs new (Do k at body c) m p e = ap (λ d. if d then with_read ds its n (Do k at body c) m else m) (sym e)
  plain-needs new (InBfs k at s test body) m p e = ap (λ d. if d then with_read ds its n (InBfs k at s test body) m else m) (sym e)
  plain-needs new (InBfsBoth k at s test body bk bt back) m p e = ap (λ d. if d then with_read ds its n (InBfsBoth k at s test body bk bt back) m else m) (sym e)
  plain-needs new (Return k at v) m p e = ap (λ d. if d then with_read ds its n (Return k at v) m else m) (sym e)

  pub plain-gone : (new : Bool) (s : Stmt) (m : ℕ → Bool) → is_plain s ≡ true → is_wanted ds its n new m s ≡ false → Skip ≡ wanted ds its n new s m
  plain-gone new Skip m p e = absurd (true≢false (sym p))
  plain-gone new (Then a b) m p e = absurd (true≢false (sym p))
  plain-gone new (DeclareEdge x y at) m p e = absurd (true≢false (sym p))
  plain-gone new (If k c a b) m p e = absurd (true≢false (sym p))
  plain-gone new (Declare k x v) m p e = ap (λ d. if d then Declare k x v else Skip) (sym e)
  plain-gone new (Assign k t v) m p e = ap (λ d. if d then Assign k t v else Skip) (sym e)
  plain-gone new (Defer k t v) m p e = ap (λ d. if d then Defer k t v else Skip) (sym e)
  plain-gone new (Combine k total r ts es) m p e = ap (λ d. if d then Combine k total r ts es else Skip) (sym e)
  plain-gone new (Group k at g q v) m p e = ap (λ d. if d then Group k at g q v else Skip) (sym e)
  plain-gone new (Foreach k at h test body) m p e = ap (λ d. if d then Foreach k at h test body else Skip) (sym e)
  plain-gone new (For k at h test body) m p e = ap (λ d. if d then For k at h test body else Skip) (sym e)
  plain-gone new (While k at c body) m p e = ap (λ d. if d then While k at c body else Skip) (sym e)
  plain-gone new (Do k at body c) m p e = ap (λ d. if d then Do k at body c else Skip) (sym e)
  plain-gone new (InBfs k at s test body) m p e = ap (λ d. if d then InBfs k at s test body else Skip) (sym e)
  plain-gone new (InBfsBoth k at s test body bk bt back) m p e = ap (λ d. if d then InBfsBoth k at s test body bk bt back else Skip) (sym e)
  plain-gone new (Return k at v) m p e = ap (λ d. if d then Return k at v else Skip) (sym e)

  pub plain-rest : (new : Bool) (s : Stmt) (m : ℕ → Bool) → is_plain s ≡ true → is_wanted ds its n new m s ≡ false → m ≡ with_wants ds its n new s m
  plain-rest new Skip m p e = absurd (true≢false (sym p))
  plain-rest new (Then a b) m p e = absurd (true≢false (sym p))
  plain-rest new (DeclareEdge x y at) m p e = absurd (true≢false (sym p))
  plain-rest new (If k c a b) m p e = absurd (true≢false (sym p))
  plain-rest new (Declare k x v) m p e = ap (λ d. if d then with_read ds its n (Declare k x v) m else m) (sym e)
  plain-rest new (Assign k t v) m p e = ap (λ d. if d then with_read ds its n (Assign k t v) m else m) (sym e)
  plain-rest new (Defer k t v) m p e = ap (λ d. if d then with_read ds its n (Defer k t v) m else m) (sym e)
  plain-rest new (Combine k total r ts es) m p e = ap (λ d. if d then with_read ds its n (Combine k total r ts es) m else m) (sym e)
  plain-rest new (Group k at g q v) m p e = ap (λ d. if d then with_read ds its n (Group k at g q v) m else m) (sym e)
  plain-rest new (Foreach k at h test body) m p e = ap (λ d. if d then with_read ds its n (Foreach k at h test body) m else m) (sym e)
  plain-rest new (For k at h test body) m p e = ap (λ d. if d then with_read ds its n (For k at h test body) m else m) (sym e)
  plain-rest new (While k at c body) m p e = ap (λ d. if d then with_read ds its n (While k at c body) m else m) (sym e)
  plain-rest new (Do k at body c) m p e = ap (λ d. if d then with_read ds its n (Do k at body c) m else m) (sym e)
  plain-rest new (InBfs k at s test body) m p e = ap (λ d. if d then with_read ds its n (InBfs k at s test body) m else m) (sym e)
  plain-rest new (InBfsBoth k at s test body bk bt back) m p e = ap (λ d. if d then with_read ds its n (InBfsBoth k at s test body bk bt back) m else m) (sym e)
  plain-rest new (Return k at v) m p e = ap (λ d. if d then with_read ds its n (Return k at v) m else m) (sym e)

  -- ---- Ifs

  pub if-kept : (new : Bool) (s : Stmt) (m : ℕ → Bool) → is_if s ≡ true → is_wanted ds its n new m s ≡ true → branches ds its n new s m ≡ wanted ds its n new s m
  if-kept new Skip m p e = absurd (true≢false (sym p))
  if-kept new (Then a b) m p e = absurd (true≢false (sym p))
  if-kept new (DeclareEdge x y at) m p e = absurd (true≢false (sym p))
  if-kept new (Declare k x v) m p e = absurd (true≢false (sym p))
  if-kept new (Assign k t v) m p e = absurd (true≢false (sym p))
  if-kept new (Defer k t v) m p e = absurd (true≢false (sym p))
  if-kept new (Combine k total r ts es) m p e = absurd (true≢false (sym p))
  if-kept new (Group k at g q v) m p e = absurd (true≢false (sym p))
  if-kept new (Foreach k at h test body) m p e = absurd (true≢false (sym p))
  if-kept new (For k at h test body) m p e = absurd (true≢false (sym p))
  if-kept new (While k at c body) m p e = absurd (true≢false (sym p))
  if-kept new (Do k at body c) m p e = absurd (true≢false (sym p))
  if-kept new (InBfs k at s test body) m p e = absurd (true≢false (sym p))
  if-kept new (InBfsBoth k at s test body bk bt back) m p e = absurd (true≢false (sym p))
  if-kept new (Return k at v) m p e = absurd (true≢false (sym p))
  if-kept new (If k c a b) m p e = ap (λ d. if d then If k c (wanted ds its n new a m) (wanted ds its n new b m) else Skip) (sym e)

  pub if-needs : (new : Bool) (s : Stmt) (m : ℕ → Bool) → is_if s ≡ true → is_wanted ds its n new m s ≡ true → with_branches ds its n new s m ≡ with_wants ds its n new s m
  if-needs new Skip m p e = absurd (true≢false (sym p))
  if-needs new (Then a b) m p e = absurd (true≢false (sym p))
  if-needs new (DeclareEdge x y at) m p e = absurd (true≢false (sym p))
  if-needs new (Declare k x v) m p e = absurd (true≢false (sym p))
  if-needs new (Assign k t v) m p e = absurd (true≢false (sym p))
  if-needs new (Defer k t v) m p e = absurd (true≢false (sym p))
  if-needs new (Combine k total r ts es) m p e = absurd (true≢false (sym p))
  if-needs new (Group k at g q v) m p e = absurd (true≢false (sym p))
  if-needs new (Foreach k at h test body) m p e = absurd (true≢false (sym p))
  if-needs new (For k at h test body) m p e = absurd (true≢false (sym p))
  if-needs new (While k at c body) m p e = absurd (true≢false (sym p))
  if-needs new (Do k at body c) m p e = absurd (true≢false (sym p))
  if-needs new (InBfs k at s test body) m p e = absurd (true≢false (sym p))
  if-needs new (InBfsBoth k at s test body bk bt back) m p e = absurd (true≢false (sym p))
  if-needs new (Return k at v) m p e = absurd (true≢false (sym p))
  if-needs new (If k c a b) m p e = ap (λ d. if d then with_told c (either (with_wants ds its n new a m) (with_wants ds its n new b m)) else m) (sym e)

  pub if-gone : (new : Bool) (s : Stmt) (m : ℕ → Bool) → is_if s ≡ true → is_wanted ds its n new m s ≡ false → Skip ≡ wanted ds its n new s m
  if-gone new Skip m p e = absurd (true≢false (sym p))
  if-gone new (Then a b) m p e = absurd (true≢false (sym p))
  if-gone new (DeclareEdge x y at) m p e = absurd (true≢false (sym p))
  if-gone new (Declare k x v) m p e = absurd (true≢false (sym p))
  if-gone new (Assign k t v) m p e = absurd (true≢false (sym p))
  if-gone new (Defer k t v) m p e = absurd (true≢false (sym p))
  if-gone new (Combine k total r ts es) m p e = absurd (true≢false (sym p))
  if-gone new (Group k at g q v) m p e = absurd (true≢false (sym p))
  if-gone new (Foreach k at h test body) m p e = absurd (true≢false (sym p))
  if-gone new (For k at h test body) m p e = absurd (true≢false (sym p))
  if-gone new (While k at c body) m p e = absurd (true≢false (sym p))
  if-gone new (Do k at body c) m p e = absurd (true≢false (sym p))
  if-gone new (InBfs k at s test body) m p e = absurd (true≢false (sym p))
  if-gone new (InBfsBoth k at s test body bk bt back) m p e = absurd (true≢false (sym p))
  if-gone new (Return k at v) m p e = absurd (true≢false (sym p))
  if-gone new (If k c a b) m p e = ap (λ d. if d then If k c (wanted ds its n new a m) (wanted ds its n new b m) else Skip) (sym e)

  pub if-rest : (new : Bool) (s : Stmt) (m : ℕ → Bool) → is_if s ≡ true → is_wanted ds its n new m s ≡ false → m ≡ with_wants ds its n new s m
  if-rest new Skip m p e = absurd (true≢false (sym p))
  if-rest new (Then a b) m p e = absurd (true≢false (sym p))
  if-rest new (DeclareEdge x y at) m p e = absurd (true≢false (sym p))
  if-rest new (Declare k x v) m p e = absurd (true≢false (sym p))
  if-rest new (Assign k t v) m p e = absurd (true≢false (sym p))
  if-rest new (Defer k t v) m p e = absurd (true≢false (sym p))
  if-rest new (Combine k total r ts es) m p e = absurd (true≢false (sym p))
  if-rest new (Group k at g q v) m p e = absurd (true≢false (sym p))
  if-rest new (Foreach k at h test body) m p e = absurd (true≢false (sym p))
  if-rest new (For k at h test body) m p e = absurd (true≢false (sym p))
  if-rest new (While k at c body) m p e = absurd (true≢false (sym p))
  if-rest new (Do k at body c) m p e = absurd (true≢false (sym p))
  if-rest new (InBfs k at s test body) m p e = absurd (true≢false (sym p))
  if-rest new (InBfsBoth k at s test body bk bt back) m p e = absurd (true≢false (sym p))
  if-rest new (Return k at v) m p e = absurd (true≢false (sym p))
  if-rest new (If k c a b) m p e = ap (λ d. if d then with_told c (either (with_wants ds its n new a m) (with_wants ds its n new b m)) else m) (sym e)

  -- ---- blocks

  pub branches-block : (new : Bool) (xs : List Stmt) (m : ℕ → Bool) → sequence xs ≡ branches ds its n new (sequence xs) m
  branches-block new [] m = refl
  branches-block new (x ∷ xs) m = refl

  pub branched-block : (new : Bool) (xs : List Stmt) (m : ℕ → Bool) → m ≡ with_branches ds its n new (sequence xs) m
  branched-block new [] m = refl
  branched-block new (x ∷ xs) m = refl

  wanted-block : (new : Bool) (xs : List Stmt) (m : ℕ → Bool) → sequence (wanted_all ds its n new xs m) ≡ wanted ds its n new (sequence xs) m
  wanted-block new [] m = refl
  wanted-block new (x ∷ xs) m = ap (Then (wanted ds its n new x (with_wants ds its n new (sequence xs) m))) (wanted-block new xs m)

  module _ (new : Bool) (m : ℕ → Bool) where
    abbrev from : ℕ → List Stmt → List Stmt
    from i xs = wanted_from ds its n new i xs m

    abbrev wants : ℕ → List Stmt → (ℕ → Bool)
    wants i xs = with_wants_from ds its n new i xs m

    -- at first all stand as they are
    from-end : (xs : List Stmt) → xs ≡ from (length xs) xs
    from-end [] = refl
    from-end (x ∷ xs) = ap (λ l. x ∷ l) (from-end xs)

    wants-end : (xs : List Stmt) → m ≡ wants (length xs) xs
    wants-end [] = refl
    wants-end (x ∷ xs) = wants-end xs

    module _ {X : Type 0} (f : X → Stmt) where
      -- one more statement before is kept as far as it is wanted
      one-kept : (xs : List Stmt) (ys : List X) (i : ℕ) (d y : X) (k : ℕ → Bool) → map f ys ≡ from (suc i) xs → i < length ys → k ≡ wants (suc i) xs → f y ≡ wanted ds its n new (f (get_or ys i d)) k → map f (set ys i y) ≡ from i xs
      one-kept xs [] i d y k e l w h = absurd (omega arith)
      one-kept [] (z ∷ ys) zero d y k e l w h = cc
      one-kept [] (z ∷ ys) (suc i) d y k e l w h = cc
      one-kept (x ∷ xs) (z ∷ ys) zero d y k e l w h = cc
      one-kept (x ∷ xs) (z ∷ ys) (suc i) d y k e l w h =
          let rest : map f ys ≡ from (suc i) xs = cc in
          let less : i < length ys = omega arith in
          let more : map f (set ys i y) ≡ from i xs = one-kept xs ys i d y k rest less w h in
          cc

      -- and gathers what it needs
      one-needs : (xs : List Stmt) (ys : List X) (i : ℕ) (d : X) (k q : ℕ → Bool) → map f ys ≡ from (suc i) xs → i < length ys → k ≡ wants (suc i) xs → q ≡ with_wants ds its n new (f (get_or ys i d)) k → q ≡ wants i xs
      one-needs xs [] i d k q e l w h = absurd (omega arith)
      one-needs [] (z ∷ ys) zero d k q e l w h = cc
      one-needs [] (z ∷ ys) (suc i) d k q e l w h = cc
      one-needs (x ∷ xs) (z ∷ ys) zero d k q e l w h = cc
      one-needs (x ∷ xs) (z ∷ ys) (suc i) d k q e l w h =
          let rest : map f ys ≡ from (suc i) xs = cc in
          let less : i < length ys = omega arith in
          one-needs xs ys i d k q rest less w h

      -- how far a walk from the end has come, whose sets are k
      pub record Reached (xs : List Stmt) (ys : List X) (left : ℕ) (k : ℕ → Bool) : Type 0 where
        pub within : left ≤ length ys
        pub kept : map f ys ≡ from left xs
        pub needs : k ≡ wants left xs

      pub begins-there : (ys : List X) → Reached (map f ys) ys (length ys) m
      begins-there ys =
          let long : length (map f ys) ≡ length ys = length-map ys f in
          record { within = omega arith; kept = from-end (map f ys) ∙ ap (λ l. from l (map f ys)) long; needs = wants-end (map f ys) ∙ ap (λ l. wants l (map f ys)) long }

      pub goes-before : (xs : List Stmt) (ys : List X) (left i : ℕ) (d y : X) (k q : ℕ → Bool) → Reached xs ys left k → left ≡ suc i → f y ≡ wanted ds its n new (f (get_or ys i d)) k → q ≡ with_wants ds its n new (f (get_or ys i d)) k →
          Reached xs (set ys i y) i q
      goes-before xs ys left i d y k q r e h g =
          let there : Reached xs ys (suc i) k = subst (λ l. Reached xs ys l k) e r in
          let long = length-set ys i y in
          let less : i < length ys = let few = there.within in omega arith in
          record { within = omega arith; kept = one-kept xs ys i d y k there.kept less there.needs h; needs = one-needs xs ys i d k q there.kept less there.needs g }

      pub ends-there : (xs : List Stmt) (ys : List X) (k : ℕ → Bool) → Reached xs ys 0 k → (sequence (map f ys) ≡ wanted ds its n new (sequence xs) m) × (k ≡ with_wants ds its n new (sequence xs) m)
      ends-there xs ys k r = (ap sequence r.kept ∙ wanted-block new xs m, r.needs)

-- what stands before an element is the same when that is changed
pub set-before : {X : Type 0} (ys : List X) (i k : ℕ) (y d : X) → k < i → get_or (set ys i y) k d ≡ get_or ys k d
set-before [] i k y d l = refl
set-before (z ∷ ys) zero k y d l = absurd (omega arith)
set-before (z ∷ ys) (suc i) zero y d l = refl
set-before (z ∷ ys) (suc i) (suc k) y d l = set-before ys i k y d (omega arith)

-- ---- the slice

nothing-needed : none ≡ is_in []
nothing-needed = fun_ext (λ y. refl)

pub slice-same : (ds : List Declaration) (its : List ℕ) (n : ℕ) (a b : Stmt) →
    statements_of (wanted ds its n false a (with_wants ds its n true b none)) ++ statements_of (wanted ds its n true b none) ≡ statements_of (resumed ds its n a b)
slice-same ds its n a b =
    let late = needs ds its n true b [] in
    ap (λ m. statements_of (wanted ds its n false a (with_wants ds its n true b m)) ++ statements_of (wanted ds its n true b m)) nothing-needed
    ∙ ap (λ m. statements_of (wanted ds its n false a m) ++ statements_of (wanted ds its n true b (is_in []))) (wants-same ds its n true b [])
    ∙ ap (λ s. statements_of s ++ statements_of (wanted ds its n true b (is_in []))) (kept-same ds its n false a late)
    ∙ ap (λ s. statements_of (kept ds its n false a late) ++ statements_of s) (kept-same ds its n true b [])
