-- The most of some locals that may go to properties together: what may go with others is among them.
use Rattle.std.proofs.Common.{◌≡◌, ◌<◌, ◌≤◌, arith, ℕ, zero, suc, Bool, true, false, cond, List, [], ◌∷◌, length, filter, refl, sym, ap, subst, ⊎_elim, inl, inr}
use Rattle.std.specs.Prelude.{◌&&◌, ◌||◌, not, nat_eq}
use Rattle.std.specs.List.{list_all}
use Rattle.std.proofs.lemmas.Bool.{both_ways, eq-eqb, eqb-true}
use Rattle.gm_value.specs.Bag.{IsIn}
use Rattle.gm_ast.specs.declared.tree.Declaration.{Declaration}
use Rattle.gm_ast.specs.declared.tree.Sort.TheVariants.{Scalar}
use Rattle.gm_ast.specs.declared.tree.Target.{Target}
use Rattle.gm_ast.specs.declared.tree.Target.TheVariants as T
use Rattle.gm_ast.specs.Names.{sort_eq}
use Rattle.gm_ast.specs.Program.{Expr, Stmt, Then, Declare, Assign, Defer, Combine, Foreach, If}
use Rattle.gm_ast.specs.Ways.{is_in}
use Rattle.gm_semantics.specs.Statements.{variable_at}
use Rattle.gm_forms.proofs.Named.{both-true}
use Rattle.gm_forms.proofs.Weaker.{and-true}
use Rattle.gm_loop_laws.specs.Localised.{names_plainly, is_apart}
use Rattle.gm_dissect.specs.Conditions.{holds_cut}
use Rattle.gm_dissect.specs.Locals.{declares, locals_of}
use Rattle.gm_locals.specs.Groups.{is_among, may_move_within, may_keep}
use Rattle.gm_locals.specs.AllGroups.{most_of, group_of}
use Rattle.gm_locals.proofs.AllGroupsAlike.{group-may}

-- ---- lists

pub found : (xs : List ℕ) (x : ℕ) → is_in xs x ≡ true → IsIn x xs
found [] x h = absurd (both_ways false refl h)
found (y ∷ xs) x h = by (nat_eq x y) refl h (found xs x)
  where
    by : (b : Bool) → nat_eq x y ≡ b → b || is_in xs x ≡ true → (is_in xs x ≡ true → IsIn x xs) → IsIn x (y ∷ xs)
    by true e h f = inl (eqb-true x y e)
    by false e h f = inr (f h)

pub finds : (xs : List ℕ) (x : ℕ) → IsIn x xs → is_in xs x ≡ true
finds [] x i = absurd i
finds (y ∷ xs) x i = ⊎_elim (λ (e : x ≡ y). ap (λ b. b || is_in xs x) (eq-eqb x y e)) (λ j. by (nat_eq x y) (finds xs x j)) i
  where
    by : (b : Bool) → is_in xs x ≡ true → b || is_in xs x ≡ true
    by true h = refl
    by false h = h

kept-in : (f : ℕ → Bool) (xs : List ℕ) (x : ℕ) → IsIn x xs → f x ≡ true → IsIn x (filter f xs)
kept-in f [] x i h = absurd i
kept-in f (y ∷ xs) x i h = by (f y) refl i (λ j. kept-in f xs x j h)
  where
    by : (b : Bool) → f y ≡ b → IsIn x (y ∷ xs) → (IsIn x xs → IsIn x (filter f xs)) → IsIn x (cond b (y ∷ filter f xs) (filter f xs))
    by true e i g = ⊎_elim (λ (s : x ≡ y). inl s) (λ j. inr (g j)) i
    by false e i g = ⊎_elim (λ (s : x ≡ y). absurd (both_ways (f y) e (subst (λ z. f z ≡ true) s h))) g i

of-filter : (f : ℕ → Bool) (xs : List ℕ) (x : ℕ) → IsIn x (filter f xs) → IsIn x xs
of-filter f [] x i = absurd i
of-filter f (y ∷ xs) x i = by (f y) i (of-filter f xs x)
  where
    by : (b : Bool) → IsIn x (cond b (y ∷ filter f xs) (filter f xs)) → (IsIn x (filter f xs) → IsIn x xs) → IsIn x (y ∷ xs)
    by true i g = ⊎_elim (λ (s : x ≡ y). inl s) (λ j. inr (g j)) i
    by false i g = inr (g i)

filter-length : (f : ℕ → Bool) (xs : List ℕ) → length (filter f xs) ≤ length xs
filter-length f [] = omega arith
filter-length f (y ∷ xs) = by (f y) (filter-length f xs)
  where
    by : (b : Bool) → length (filter f xs) ≤ length xs → length (cond b (y ∷ filter f xs) (filter f xs)) ≤ suc (length xs)
    by true h = omega (arith, h)
    by false h = omega (arith, h)

filter-less : (f : ℕ → Bool) (xs : List ℕ) → list_all f xs ≡ false → length (filter f xs) < length xs
filter-less f [] h = absurd (both_ways true h refl)
filter-less f (y ∷ xs) h = by (f y) h (filter-length f xs) (filter-less f xs)
  where
    by : (b : Bool) → b && list_all f xs ≡ false → length (filter f xs) ≤ length xs → (list_all f xs ≡ false → length (filter f xs) < length xs) → length (cond b (y ∷ filter f xs) (filter f xs)) < suc (length xs)
    by true h l g = let e = g h in omega (arith, e)
    by false h l g = omega (arith, l)

-- ---- with more locals

-- xs, ys: locals, the first among the second
module _ (xs ys : List ℕ) (among : (z : ℕ) → IsIn z xs → IsIn z ys) where
  targets-among : (ts : List Target) → list_all (is_among xs) ts ≡ true → list_all (is_among ys) ts ≡ true
  targets-among [] h = refl
  targets-among (T.Scalar z at ∷ ts) h = let r = both-true (is_in xs z) (list_all (is_among xs) ts) h in and-true (is_in ys z) (list_all (is_among ys) ts) (finds ys z (among z (found xs z r.0))) (targets-among ts r.1)
  targets-among (T.Property z p at ∷ ts) h = absurd (both_ways false refl h)

  either : (a b c : Bool) → (b ≡ true → c ≡ true) → a || b ≡ true → a || c ≡ true
  either true b c f h = refl
  either false b c f h = f h

  within-more : (x n : ℕ) (s : Stmt) → may_move_within xs x n s ≡ true → may_move_within ys x n s ≡ true
  within-more x n (Then a b) h = let r = both-true (may_move_within xs x n a) (may_move_within xs x n b) h in and-true (may_move_within ys x n a) (may_move_within ys x n b) (within-more x n a r.0) (within-more x n b r.1)
  within-more x n (Declare k y e) h = h
  within-more x n (Assign k t e) h = h
  within-more x n (Defer k t e) h = h
  within-more x n (Combine k total o ts es) h =
      let r = both-true (list_all (is_apart x n) ts || list_all (is_among xs) ts) (list_all (names_plainly x) es) h in
      and-true (list_all (is_apart x n) ts || list_all (is_among ys) ts) (list_all (names_plainly x) es) (either (list_all (is_apart x n) ts) (list_all (is_among xs) ts) (list_all (is_among ys) ts) (targets-among ts) r.0) r.1
  within-more x n (If k c a b) h =
      let q = both-true (names_plainly x c) (may_move_within xs x n a && may_move_within xs x n b) h in
      let r = both-true (may_move_within xs x n a) (may_move_within xs x n b) q.1 in
      and-true (names_plainly x c) (may_move_within ys x n a && may_move_within ys x n b) q.0 (and-true (may_move_within ys x n a) (may_move_within ys x n b) (within-more x n a r.0) (within-more x n b r.1))
  within-more x n (Foreach k at hd test body) h =
      let rest = names_plainly x test && may_move_within xs x n body in
      let a = both-true (not (nat_eq hd.owner x)) (not (nat_eq hd.iterator x) && (not (nat_eq hd.iterator n) && rest)) h in
      let b = both-true (not (nat_eq hd.iterator x)) (not (nat_eq hd.iterator n) && rest) a.1 in
      let c = both-true (not (nat_eq hd.iterator n)) rest b.1 in
      let d = both-true (names_plainly x test) (may_move_within xs x n body) c.1 in
      let more = names_plainly x test && may_move_within ys x n body in
      and-true (not (nat_eq hd.owner x)) (not (nat_eq hd.iterator x) && (not (nat_eq hd.iterator n) && more)) a.0
      (and-true (not (nat_eq hd.iterator x)) (not (nat_eq hd.iterator n) && more) b.0 (and-true (not (nat_eq hd.iterator n)) more c.0 (and-true (names_plainly x test) (may_move_within ys x n body) d.0 (within-more x n body d.1))))
  within-more x n s h = refl

  keep-more : (ds : List Declaration) (n : ℕ) (test : Expr) (body : Stmt) (x : ℕ) → may_keep ds xs n test body x ≡ true → may_keep ds ys n test body x ≡ true
  keep-more ds n test body x h =
      let a = both-true (sort_eq Scalar (variable_at ds x).sort) (declares x body && (names_plainly x test && may_move_within xs x n body)) h in
      let b = both-true (declares x body) (names_plainly x test && may_move_within xs x n body) a.1 in
      let c = both-true (names_plainly x test) (may_move_within xs x n body) b.1 in
      and-true (sort_eq Scalar (variable_at ds x).sort) (declares x body && (names_plainly x test && may_move_within ys x n body)) a.0
      (and-true (declares x body) (names_plainly x test && may_move_within ys x n body) b.0 (and-true (names_plainly x test) (may_move_within ys x n body) c.0 (within-more x n body c.1)))

-- ---- the most that may

module _ (ds : List Declaration) (n : ℕ) (test : Expr) (body : Stmt) where
  most-has : (rounds : ℕ) (xs ys : List ℕ) → length xs ≤ rounds → ((z : ℕ) → IsIn z ys → IsIn z xs) → ((z : ℕ) → IsIn z ys → may_keep ds ys n test body z ≡ true) → (z : ℕ) → IsIn z ys → IsIn z (most_of rounds ds n test body xs)
  most-has zero [] ys l among may z i = among z i
  most-has zero (x ∷ xs) ys l among may z i = absurd (omega (arith, l))
  most-has (suc rounds) xs ys l among may z i =
      let left = filter (may_keep ds xs n test body) xs in
      by (list_all (may_keep ds xs n test body) xs) refl
      (λ (less : length left < length xs). most-has rounds left ys (omega (arith, less, l)) (λ w j. kept-in (may_keep ds xs n test body) xs w (among w j) (keep-more ys xs among ds n test body w (may w j))) may z i)
    where
      by : (b : Bool) → list_all (may_keep ds xs n test body) xs ≡ b → (length (filter (may_keep ds xs n test body) xs) < length xs → IsIn z (most_of rounds ds n test body (filter (may_keep ds xs n test body) xs))) →
          IsIn z (cond b xs (most_of rounds ds n test body (filter (may_keep ds xs n test body) xs)))
      by true e g = among z i
      by false e g = g (filter-less (may_keep ds xs n test body) xs e)

  most-listed : (rounds : ℕ) (xs : List ℕ) (z : ℕ) → IsIn z (most_of rounds ds n test body xs) → IsIn z xs
  most-listed zero xs z i = absurd i
  most-listed (suc rounds) xs z i = by (list_all (may_keep ds xs n test body) xs) i (most-listed rounds (filter (may_keep ds xs n test body) xs) z)
    where
      left : List ℕ
      left = filter (may_keep ds xs n test body) xs

      by : (b : Bool) → IsIn z (cond b xs (most_of rounds ds n test body left)) → (IsIn z (most_of rounds ds n test body left) → IsIn z left) → IsIn z xs
      by true i g = i
      by false i g = of-filter (may_keep ds xs n test body) xs z (g i)

  -- what a loop from which something is cut keeps
  pub group-has : holds_cut n body ≡ true → (ys : List ℕ) → ((z : ℕ) → IsIn z ys → IsIn z (locals_of body)) → ((z : ℕ) → IsIn z ys → may_keep ds ys n test body z ≡ true) → (z : ℕ) → IsIn z ys → IsIn z (group_of ds n test body)
  group-has cut ys among may z i =
      subst (λ b. IsIn z (cond b (most_of (length (locals_of body)) ds n test body (locals_of body)) [])) (sym cut) (most-has (length (locals_of body)) (locals_of body) ys (omega arith) among may z i)

  pub group-listed : (z : ℕ) → IsIn z (group_of ds n test body) → IsIn z (locals_of body)
  group-listed z i = by (holds_cut n body) i
    where
      by : (b : Bool) → IsIn z (cond b (most_of (length (locals_of body)) ds n test body (locals_of body)) []) → IsIn z (locals_of body)
      by true i = most-listed (length (locals_of body)) (locals_of body) z i
      by false i = absurd i

  member : (f : ℕ → Bool) (xs : List ℕ) → list_all f xs ≡ true → (z : ℕ) → IsIn z xs → f z ≡ true
  member f [] h z i = absurd i
  member f (x ∷ xs) h z i = let r = both-true (f x) (list_all f xs) h in ⊎_elim (λ (e : z ≡ x). subst (λ w. f w ≡ true) (sym e) r.0) (member f xs r.1 z) i

  pub group-each : (z : ℕ) → IsIn z (group_of ds n test body) → may_keep ds (group_of ds n test body) n test body z ≡ true
  group-each z i = member (may_keep ds (group_of ds n test body) n test body) (group_of ds n test body) (group-may ds n test body) z i
