-- A part of a loop shares where the whole does.
use Rattle.std.proofs.Common.{◌≡◌, ℕ, Bool, true, false, cond, List, [], ◌∷◌, ◌++◌, refl, sym, ap, subst, ◌∙◌, ⊎_elim}
use Rattle.std.specs.Prelude.{◌&&◌, nat_eq}
use Rattle.gm_base.specs.declared.places.Place.{Place}
use Rattle.gm_value.specs.Bag.{IsIn}
use Rattle.gm_value.specs.declared.operations.Op1.TheVariants.{Not}
use Rattle.gm_ast.specs.declared.tree.Declaration.{Declaration}
use Rattle.gm_ast.specs.declared.tree.Key.{Key}
use Rattle.gm_ast.specs.Program.{Expr, Unary, Both, Stmt, Then, If}
use Rattle.gm_forms.specs.Sharing.{Read, Reduced, reads_in, told_in, sights_of, written, reduced, deferred, inners_share, targets_alike, read_anywhere, read_elsewhere, shared_in, kept_in, disjoint, agrees, all_agree, shares}
use Rattle.gm_forms.proofs.Doings.{in-left, in-right, in-either}
use Rattle.gm_forms.proofs.Named.{both-true}
use Rattle.gm_forms.proofs.Weaker.{and-true}
use Rattle.gm_loop_laws.proofs.Chosen.{disjoint-apart, apart-disjoint}
use Rattle.gm_cut.proofs.Grouped.{append-assoc}

-- ---- lists that hold less

abbrev pub Under : List ℕ → List ℕ → Type 0
Under xs ys = (x : ℕ) → IsIn x xs → IsIn x ys

pub under-both : (xs ys xs' ys' : List ℕ) → Under xs xs' → Under ys ys' → Under (xs ++ ys) (xs' ++ ys')
under-both xs ys xs' ys' f g x i = ⊎_elim (λ j. in-left x xs' ys' (f x j)) (λ j. in-right x xs' ys' (g x j)) (in-either x xs ys i)

pub fewer-apart : (xs ys xs' ys' : List ℕ) → Under xs xs' → Under ys ys' → disjoint xs' ys' ≡ true → disjoint xs ys ≡ true
fewer-apart xs ys xs' ys' f g h = apart-disjoint xs ys (λ y i j. disjoint-apart xs' ys' y h (f y i) (g y j))

-- what is listed of a list part by part
module _ {A : Type 0} (f : List A → List ℕ) (split : (xs ys : List A) → f (xs ++ ys) ≡ f xs ++ f ys) where
  pub listed-first : (xs ys : List A) → Under (f xs) (f (xs ++ ys))
  listed-first xs ys x i = subst (IsIn x) (sym (split xs ys)) (in-left x (f xs) (f ys) i)

  pub listed-second : (xs ys : List A) → Under (f ys) (f (xs ++ ys))
  listed-second xs ys x i = subst (IsIn x) (sym (split xs ys)) (in-right x (f xs) (f ys) i)

  listed-both : (xs ys zs : List A) → Under (f ys) (f zs) → Under (f (xs ++ ys)) (f (xs ++ zs))
  listed-both xs ys zs g x i =
      subst (IsIn x) (sym (split xs zs)) (under-both (f xs) (f ys) (f xs) (f zs) (λ y j. j) g x (subst (IsIn x) (split xs ys) i))

  -- m, a and b: of a mask and of both parts; c: of a condition
  pub block-first : (m a b : List A) → Under (f (m ++ a)) (f (m ++ (a ++ b)))
  block-first m a b = listed-both m a (a ++ b) (listed-first a b)

  pub block-second : (m a b : List A) → Under (f (m ++ b)) (f (m ++ (a ++ b)))
  block-second m a b = listed-both m b (a ++ b) (listed-second a b)

  pub branch-first : (m c a b : List A) → Under (f ((m ++ c) ++ a)) (f (m ++ (c ++ (a ++ b))))
  branch-first m c a b x i = listed-both m (c ++ a) (c ++ (a ++ b)) (block-first c a b) x (subst (λ l. IsIn x (f l)) (append-assoc m c a) i)

  pub branch-second : (m c a b : List A) → Under (f ((m ++ c) ++ b)) (f (m ++ (c ++ (a ++ b))))
  branch-second m c a b x i = listed-both m (c ++ b) (c ++ (a ++ b)) (block-second c a b) x (subst (λ l. IsIn x (f l)) (append-assoc m c b) i)

pub anywhere-split : (xs ys : List Read) → read_anywhere (xs ++ ys) ≡ read_anywhere xs ++ read_anywhere ys
anywhere-split [] ys = refl
anywhere-split (r ∷ xs) ys = ap (λ l. r.property ∷ l) (anywhere-split xs ys)

pub elsewhere-split : (n : ℕ) (xs ys : List Read) → read_elsewhere n (xs ++ ys) ≡ read_elsewhere n xs ++ read_elsewhere n ys
elsewhere-split n [] ys = refl
elsewhere-split n (r ∷ xs) ys = by (nat_eq r.owner n) (elsewhere-split n xs ys)
  where
    by : (b : Bool) → read_elsewhere n (xs ++ ys) ≡ read_elsewhere n xs ++ read_elsewhere n ys →
        cond b (read_elsewhere n (xs ++ ys)) (r.property ∷ read_elsewhere n (xs ++ ys)) ≡ cond b (read_elsewhere n xs) (r.property ∷ read_elsewhere n xs) ++ read_elsewhere n ys
    by true h = h
    by false h = ap (λ l. r.property ∷ l) h

pub shared-split : (xs ys : List Reduced) → shared_in (xs ++ ys) ≡ shared_in xs ++ shared_in ys
shared-split [] ys = refl
shared-split (r ∷ xs) ys = ap (λ l. r.shared ++ l) (shared-split xs ys) ∙ sym (append-assoc r.shared (shared_in xs) (shared_in ys))

pub kept-split : (xs ys : List Reduced) → kept_in (xs ++ ys) ≡ kept_in xs ++ kept_in ys
kept-split [] ys = refl
kept-split (r ∷ xs) ys = ap (λ l. r.kept ++ l) (kept-split xs ys) ∙ sym (append-assoc r.kept (kept_in xs) (kept_in ys))

same-split : (xs ys : List ℕ) → xs ++ ys ≡ xs ++ ys
same-split xs ys = refl

-- ---- reductions that agree

agrees-first : (a : Reduced) (xs ys : List Reduced) → agrees a (xs ++ ys) ≡ true → agrees a xs ≡ true
agrees-first a [] ys h = refl
agrees-first a (x ∷ xs) ys h = let r = both-true _ (agrees a (xs ++ ys)) h in and-true _ (agrees a xs) r.0 (agrees-first a xs ys r.1)

pub agree-first : (xs ys : List Reduced) → all_agree (xs ++ ys) ≡ true → all_agree xs ≡ true
agree-first [] ys h = refl
agree-first (x ∷ xs) ys h = let r = both-true (agrees x (xs ++ ys)) (all_agree (xs ++ ys)) h in and-true (agrees x xs) (all_agree xs) (agrees-first x xs ys r.0) (agree-first xs ys r.1)

pub agree-second : (xs ys : List Reduced) → all_agree (xs ++ ys) ≡ true → all_agree ys ≡ true
agree-second [] ys h = h
agree-second (x ∷ xs) ys h = agree-second xs ys (both-true (agrees x (xs ++ ys)) (all_agree (xs ++ ys)) h).1

-- ---- parts of loops

module _ (ds : List Declaration) (n : ℕ) where
  abbrev P : Stmt → List Read
  P s = (sights_of ds n false s).properties

  abbrev S : Stmt → List ℕ
  S s = (sights_of ds n false s).scalars

  abbrev W : Stmt → List ℕ
  W s = written ds n false s

  abbrev R : Stmt → List Reduced
  R s = reduced ds n false s

  -- a part does no more than the whole
  pub record Less (test test' : Expr) (s s' : Stmt) : Type 0 where
    pub anywhere : Under (read_anywhere (reads_in test' ++ P s')) (read_anywhere (reads_in test ++ P s))
    pub elsewhere : Under (read_elsewhere n (reads_in test' ++ P s')) (read_elsewhere n (reads_in test ++ P s))
    pub scalars : Under (told_in test' ++ S s') (told_in test ++ S s)
    pub changes : Under (W s') (W s)
    pub delays : Under (deferred s') (deferred s)
    pub shared : Under (shared_in (R s')) (shared_in (R s))
    pub kept : Under (kept_in (R s')) (kept_in (R s))

  pub fewer-share : (test test' : Expr) (s s' : Stmt) → Less test test' s s' → (all_agree (R s) ≡ true → all_agree (R s') ≡ true) → (inners_share ds n s ≡ true → inners_share ds n s' ≡ true) → (targets_alike s ≡ true → targets_alike s' ≡ true) →
      shares ds n test s ≡ true → shares ds n test' s' ≡ true
  fewer-share test test' s s' l agree inners alike h =
      let seen = read_anywhere (reads_in test ++ P s) ++ ((told_in test ++ S s) ++ W s) in
      let seen' = read_anywhere (reads_in test' ++ P s') ++ ((told_in test' ++ S s') ++ W s') in
      let else = read_elsewhere n (reads_in test ++ P s) in
      let else' = read_elsewhere n (reads_in test' ++ P s') in
      let more = W s ++ (shared_in (R s) ++ kept_in (R s)) in
      let more' = W s' ++ (shared_in (R s') ++ kept_in (R s')) in
      let a = both-true (disjoint (shared_in (R s)) seen) (disjoint (W s ++ kept_in (R s)) else && (disjoint (deferred s) more && (all_agree (R s) && (inners_share ds n s && targets_alike s)))) h in
      let b = both-true (disjoint (W s ++ kept_in (R s)) else) (disjoint (deferred s) more && (all_agree (R s) && (inners_share ds n s && targets_alike s))) a.1 in
      let c = both-true (disjoint (deferred s) more) (all_agree (R s) && (inners_share ds n s && targets_alike s)) b.1 in
      let d = both-true (all_agree (R s)) (inners_share ds n s && targets_alike s) c.1 in
      let e = both-true (inners_share ds n s) (targets_alike s) d.1 in
      and-true (disjoint (shared_in (R s')) seen') (disjoint (W s' ++ kept_in (R s')) else' && (disjoint (deferred s') more' && (all_agree (R s') && (inners_share ds n s' && targets_alike s'))))
      (fewer-apart (shared_in (R s')) seen' (shared_in (R s)) seen l.shared
      (under-both (read_anywhere (reads_in test' ++ P s')) ((told_in test' ++ S s') ++ W s') (read_anywhere (reads_in test ++ P s)) ((told_in test ++ S s) ++ W s) l.anywhere
      (under-both (told_in test' ++ S s') (W s') (told_in test ++ S s) (W s) l.scalars l.changes)) a.0)
      (and-true (disjoint (W s' ++ kept_in (R s')) else') (disjoint (deferred s') more' && (all_agree (R s') && (inners_share ds n s' && targets_alike s')))
      (fewer-apart (W s' ++ kept_in (R s')) else' (W s ++ kept_in (R s)) else (under-both (W s') (kept_in (R s')) (W s) (kept_in (R s)) l.changes l.kept) l.elsewhere b.0)
      (and-true (disjoint (deferred s') more') (all_agree (R s') && (inners_share ds n s' && targets_alike s'))
      (fewer-apart (deferred s') more' (deferred s) more l.delays
      (under-both (W s') (shared_in (R s') ++ kept_in (R s')) (W s) (shared_in (R s) ++ kept_in (R s)) l.changes (under-both (shared_in (R s')) (kept_in (R s')) (shared_in (R s)) (kept_in (R s)) l.shared l.kept)) c.0)
      (and-true (all_agree (R s')) (inners_share ds n s' && targets_alike s') (agree d.0) (and-true (inners_share ds n s') (targets_alike s') (inners e.0) (alike e.1)))))

  -- the targets of each of its reductions are alike
  pub shares-alike : (test : Expr) (s : Stmt) → shares ds n test s ≡ true → targets_alike s ≡ true
  shares-alike test s h =
      let seen = read_anywhere (reads_in test ++ P s) ++ ((told_in test ++ S s) ++ W s) in
      let else = read_elsewhere n (reads_in test ++ P s) in
      let more = W s ++ (shared_in (R s) ++ kept_in (R s)) in
      let a = both-true (disjoint (shared_in (R s)) seen) (disjoint (W s ++ kept_in (R s)) else && (disjoint (deferred s) more && (all_agree (R s) && (inners_share ds n s && targets_alike s)))) h in
      let b = both-true (disjoint (W s ++ kept_in (R s)) else) (disjoint (deferred s) more && (all_agree (R s) && (inners_share ds n s && targets_alike s))) a.1 in
      let c = both-true (disjoint (deferred s) more) (all_agree (R s) && (inners_share ds n s && targets_alike s)) b.1 in
      let d = both-true (all_agree (R s)) (inners_share ds n s && targets_alike s) c.1 in
      (both-true (inners_share ds n s) (targets_alike s) d.1).1

  -- both parts of a block
  pub first-shares : (mask : Expr) (a b : Stmt) → shares ds n mask (Then a b) ≡ true → shares ds n mask a ≡ true
  first-shares mask a b h =
      fewer-share mask mask (Then a b) a
      (record {
        anywhere = block-first read_anywhere anywhere-split (reads_in mask) (P a) (P b);
        elsewhere = block-first (read_elsewhere n) (elsewhere-split n) (reads_in mask) (P a) (P b);
        scalars = block-first (λ l. l) same-split (told_in mask) (S a) (S b);
        changes = listed-first (λ l. l) same-split (W a) (W b);
        delays = listed-first (λ l. l) same-split (deferred a) (deferred b);
        shared = listed-first shared_in shared-split (R a) (R b);
        kept = listed-first kept_in kept-split (R a) (R b);
      })
      (agree-first (R a) (R b)) (λ i. (both-true (inners_share ds n a) (inners_share ds n b) i).0) (λ i. (both-true (targets_alike a) (targets_alike b) i).0) h

  pub second-shares : (mask : Expr) (a b : Stmt) → shares ds n mask (Then a b) ≡ true → shares ds n mask b ≡ true
  second-shares mask a b h =
      fewer-share mask mask (Then a b) b
      (record {
        anywhere = block-second read_anywhere anywhere-split (reads_in mask) (P a) (P b);
        elsewhere = block-second (read_elsewhere n) (elsewhere-split n) (reads_in mask) (P a) (P b);
        scalars = block-second (λ l. l) same-split (told_in mask) (S a) (S b);
        changes = listed-second (λ l. l) same-split (W a) (W b);
        delays = listed-second (λ l. l) same-split (deferred a) (deferred b);
        shared = listed-second shared_in shared-split (R a) (R b);
        kept = listed-second kept_in kept-split (R a) (R b);
      })
      (agree-second (R a) (R b)) (λ i. (both-true (inners_share ds n a) (inners_share ds n b) i).1) (λ i. (both-true (targets_alike a) (targets_alike b) i).1) h

  -- both branches of an If, under each one's side of its condition
  pub yes-shares : (mask c : Expr) (k : Key) (a b : Stmt) → shares ds n mask (If k c a b) ≡ true → shares ds n (Both mask c) a ≡ true
  yes-shares mask c k a b h =
      fewer-share mask (Both mask c) (If k c a b) a
      (record {
        anywhere = branch-first read_anywhere anywhere-split (reads_in mask) (reads_in c) (P a) (P b);
        elsewhere = branch-first (read_elsewhere n) (elsewhere-split n) (reads_in mask) (reads_in c) (P a) (P b);
        scalars = branch-first (λ l. l) same-split (told_in mask) (told_in c) (S a) (S b);
        changes = listed-first (λ l. l) same-split (W a) (W b);
        delays = listed-first (λ l. l) same-split (deferred a) (deferred b);
        shared = listed-first shared_in shared-split (R a) (R b);
        kept = listed-first kept_in kept-split (R a) (R b);
      })
      (agree-first (R a) (R b)) (λ i. (both-true (inners_share ds n a) (inners_share ds n b) i).0) (λ i. (both-true (targets_alike a) (targets_alike b) i).0) h

  pub no-shares : (mask c : Expr) (at : Place) (k : Key) (a b : Stmt) → shares ds n mask (If k c a b) ≡ true → shares ds n (Both mask (Unary Not at c)) b ≡ true
  no-shares mask c at k a b h =
      fewer-share mask (Both mask (Unary Not at c)) (If k c a b) b
      (record {
        anywhere = branch-second read_anywhere anywhere-split (reads_in mask) (reads_in c) (P a) (P b);
        elsewhere = branch-second (read_elsewhere n) (elsewhere-split n) (reads_in mask) (reads_in c) (P a) (P b);
        scalars = branch-second (λ l. l) same-split (told_in mask) (told_in c) (S a) (S b);
        changes = listed-second (λ l. l) same-split (W a) (W b);
        delays = listed-second (λ l. l) same-split (deferred a) (deferred b);
        shared = listed-second shared_in shared-split (R a) (R b);
        kept = listed-second kept_in kept-split (R a) (R b);
      })
      (agree-second (R a) (R b)) (λ i. (both-true (inners_share ds n a) (inners_share ds n b) i).1) (λ i. (both-true (targets_alike a) (targets_alike b) i).1) h
