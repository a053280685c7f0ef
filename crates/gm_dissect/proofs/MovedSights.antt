-- What a body reads, writes and reduces whose local is kept in a property of the loop's node.
use Rattle.std.proofs.Common.{◌≡◌, ◌<◌, ◌≤◌, arith, ℕ, Bool, true, false, cond, List, [], ◌∷◌, ◌++◌, map, refl, sym, ap, subst, ◌∙◌, Option, Some, None, ◌⊎◌, ⊎_elim, inl, inr}
use Rattle.std.specs.Prelude.{◌&&◌, ◌||◌, not, nat_eq, nat_lt}
use Rattle.std.specs.List.{list_all}
use Rattle.std.proofs.lemmas.Bool.{both_ways, eq-eqb, eqb-true}
use Rattle.gm_base.specs.declared.places.Place.{Place}
use Rattle.gm_value.specs.Bag.{IsIn}
use Rattle.gm_value.specs.declared.values.VType.{VType}
use Rattle.gm_value.specs.declared.reductions.Reduce.{Reduce}
use Rattle.gm_value.specs.Numbers.{zero_of}
use Rattle.gm_ast.specs.declared.tree.Declaration.{Declaration}
use Rattle.gm_ast.specs.declared.tree.Key.{Key}
use Rattle.gm_ast.specs.declared.tree.Target.{Target}
use Rattle.gm_ast.specs.declared.tree.Target.TheVariants as T
use Rattle.gm_ast.specs.Races.{reduce_eq, variables_eq}
use Rattle.gm_ast.specs.Program.{Expr, Const, Var, Property, EdgeProperty, Degree, NodeCount, EdgeCount, Live, Unary, Binary, Both, Either, Choose, Folded, Stmt, Then, Declare, Assign, Defer, Combine, Foreach, If}
use Rattle.gm_semantics.specs.Frames.{ReadsBelow, MayReadBelow, AllReadBelow, TargetBelow, TargetsBelow, NamesBelow}
use Rattle.gm_semantics.specs.Statements.{variable_at}
use Rattle.gm_forms.specs.Forms.{depth_at}
use Rattle.gm_forms.specs.Sharing.{Read, Sights, nothing_read, with_reads, reads_in, told_in, sights_in, sights_in_option, sights_in_all, sights_of, sights_of_target, sights_at_target, sights_by, sights_of_targets, is_at_once, are_at_once, written_by, variables_of, variables_where, is_owned, is_kept, Reduced, reduced_by, written, reduced, deferred, read_at, read_elsewhere, read_anywhere, shared_in, kept_in, disjoint, does_same, agrees, all_agree, lasting, lasts_one_way, all_last_one_way, are_alike, are_distinct, targets_alike, inner_shares, inners_share}
use Rattle.gm_forms.specs.Uses.{Owner, NodeValue, Declared, Written, Iterates, Use, has_role, use_as, suits, uses_in, uses_in_option, uses_in_all, uses_of_head, uses_of_target, uses_of_targets, uses_of_declared, uses_of}
use Rattle.gm_forms.proofs.Doings.{in-left, in-right, in-either}
use Rattle.gm_forms.proofs.Named.{both-true, all-append}
use Rattle.gm_forms.proofs.Weaker.{and-true}
use Rattle.gm_loop_laws.specs.Localised.{moved_in, moved_target, moved_declared, moved, names_plainly, is_apart, is_it, may_move}
use Rattle.gm_loop_laws.proofs.Chosen.{disjoint-apart, apart-disjoint}
use Rattle.gm_loop_laws.proofs.Joins.{map-append}
use Rattle.gm_dissect.proofs.DeferredLoops.{either-true, never-iterates, target-declared}
use Rattle.gm_dissect.proofs.Moved.{target-moved, all-targets, at-depth, itself}
use Rattle.gm_dissect.proofs.Undeferred.{append-true, two-same}

-- reads of two parts
elsewhere-append : (n : ℕ) (xs ys : List Read) → read_elsewhere n (xs ++ ys) ≡ read_elsewhere n xs ++ read_elsewhere n ys
elsewhere-append n [] ys = refl
elsewhere-append n (r ∷ xs) ys = by (nat_eq r.owner n) (elsewhere-append n xs ys)
  where
    by : (b : Bool) → read_elsewhere n (xs ++ ys) ≡ read_elsewhere n xs ++ read_elsewhere n ys → cond b (read_elsewhere n (xs ++ ys)) (r.property ∷ read_elsewhere n (xs ++ ys)) ≡ cond b (read_elsewhere n xs) (r.property ∷ read_elsewhere n xs) ++ read_elsewhere n ys
    by true e = e
    by false e = ap (λ l. r.property ∷ l) e

around-append : (n : ℕ) (xs ys : List Read) → read_at n (xs ++ ys) ≡ read_at n xs ++ read_at n ys
around-append n [] ys = refl
around-append n (r ∷ xs) ys = by (nat_eq r.owner n) (around-append n xs ys)
  where
    by : (b : Bool) → read_at n (xs ++ ys) ≡ read_at n xs ++ read_at n ys → cond b (r.property ∷ read_at n (xs ++ ys)) (read_at n (xs ++ ys)) ≡ cond b (r.property ∷ read_at n xs) (read_at n xs) ++ read_at n ys
    by true e = ap (λ l. r.property ∷ l) e
    by false e = e

anywhere-append : (xs ys : List Read) → read_anywhere (xs ++ ys) ≡ read_anywhere xs ++ read_anywhere ys
anywhere-append [] ys = refl
anywhere-append (r ∷ xs) ys = ap (λ l. r.property ∷ l) (anywhere-append xs ys)

-- in one of both parts, or besides
either-besides : (B : Type 0) (z : ℕ) (xs ys us vs : List ℕ) → (IsIn z us → IsIn z xs ⊎ B) → (IsIn z vs → IsIn z ys ⊎ B) → IsIn z (us ++ vs) → IsIn z (xs ++ ys) ⊎ B
either-besides B z xs ys us vs f g i =
    ⊎_elim (λ l. ⊎_elim (λ m. inl (in-left z xs ys m)) (λ e. inr e) (f l)) (λ r. ⊎_elim (λ m. inl (in-right z xs ys m)) (λ e. inr e) (g r)) (in-either z us vs i)

-- dt: the table; x: the local; q: its property; n: the iterator; t: the local's type
module _ (dt : List Declaration) (x q n : ℕ) (at : Place) (t : VType) (deep : nat_eq (depth_at dt x) 1 ≡ true) where
  abbrev mi : Expr → Expr
  mi e = moved_in x q n at (zero_of t) e

  abbrev mt : Target → Target
  mt o = moved_target x q n at (zero_of t) o

  abbrev mv : Stmt → Stmt
  mv s = moved x q n at (zero_of t) s

  abbrev Suit : List Use → Type 0
  Suit us = list_all (suits dt) us ≡ true

  -- what is read after is what is read before, or the property at the node itself, where the local is read
  pub record Seen (a b : Sights) : Type 0 where
    pub elsewhere : read_elsewhere n a.properties ≡ read_elsewhere n b.properties
    pub anywhere : (z : ℕ) → IsIn z (read_anywhere a.properties) → IsIn z (read_anywhere b.properties) ⊎ (z ≡ q)
    pub around : (z : ℕ) → IsIn z (read_at n a.properties) → IsIn z (read_at n b.properties) ⊎ ((z ≡ q) × IsIn x b.scalars)
    pub told : (z : ℕ) → IsIn z a.scalars → IsIn z b.scalars ⊎ (z ≡ n)

  seen-itself : (a : Sights) → Seen a a
  seen-itself a = record { elsewhere = refl; anywhere = λ z i. inl i; around = λ z i. inl i; told = λ z i. inl i }

  pub seen-both : (a b c d : Sights) → Seen a c → Seen b d → Seen (with_reads a b) (with_reads c d)
  seen-both a b c d f g = record {
    elsewhere = elsewhere-append n a.properties b.properties ∙ two-same (λ l m. l ++ m) (read_elsewhere n a.properties) (read_elsewhere n b.properties) (read_elsewhere n c.properties) (read_elsewhere n d.properties) f.elsewhere g.elsewhere
        ∙ sym (elsewhere-append n c.properties d.properties);
    anywhere = λ z i.
        ⊎_elim (λ l. inl (subst (IsIn z) (sym (anywhere-append c.properties d.properties)) l)) (λ e. inr e)
        (either-besides (z ≡ q) z (read_anywhere c.properties) (read_anywhere d.properties) (read_anywhere a.properties) (read_anywhere b.properties) (f.anywhere z) (g.anywhere z) (subst (IsIn z) (anywhere-append a.properties b.properties) i));
    around = λ z i.
        ⊎_elim (λ l. inl (subst (IsIn z) (sym (around-append n c.properties d.properties)) l)) (λ e. inr e)
        (either-besides ((z ≡ q) × IsIn x (c.scalars ++ d.scalars)) z (read_at n c.properties) (read_at n d.properties) (read_at n a.properties) (read_at n b.properties)
        (λ l. ⊎_elim (λ m. inl m) (λ (m : (z ≡ q) × IsIn x c.scalars). inr (m.0, in-left x c.scalars d.scalars m.1)) (f.around z l))
        (λ l. ⊎_elim (λ m. inl m) (λ (m : (z ≡ q) × IsIn x d.scalars). inr (m.0, in-right x c.scalars d.scalars m.1)) (g.around z l))
        (subst (IsIn z) (around-append n a.properties b.properties) i));
    told = λ z i. either-besides (z ≡ n) z c.scalars d.scalars a.scalars b.scalars (f.told z) (g.told z) i;
  }

  -- a read of the property in place of the local
  seen-local : (y : ℕ) → nat_eq y x ≡ true → Seen (record { properties = record { owner = n; property = q } ∷ []; scalars = n ∷ [] }) (record { properties = []; scalars = y ∷ [] })
  seen-local y e = record {
    elsewhere = ap (λ b. cond b [] (q ∷ [])) (eq-eqb n n refl);
    anywhere = λ z i. ⊎_elim (λ (f : z ≡ q). inr f) (λ j. absurd j) i;
    around = λ z i. ⊎_elim (λ (f : z ≡ q). inr (f, inl (sym (eqb-true y x e)))) (λ j. absurd j) (subst (λ b. IsIn z (cond b (q ∷ []) [])) (eq-eqb n n refl) i);
    told = λ z i. ⊎_elim (λ (f : z ≡ n). inr f) (λ j. absurd j) i;
  }

  -- the iterator is told besides
  seen-besides : (a b : Sights) → Seen a b → Seen (with_reads (record { properties = []; scalars = n ∷ [] }) a) b
  seen-besides a b f = record { elsewhere = f.elsewhere; anywhere = f.anywhere; around = f.around; told = λ z i. ⊎_elim (λ (e : z ≡ n). inr e) (f.told z) i }

  pub seen-in : (e : Expr) → Seen (sights_in (mi e)) (sights_in e)
  seen-in (Var y p) = by (nat_eq y x) refl
    where
      by : (c : Bool) → nat_eq y x ≡ c → Seen (sights_in (cond c (Property n q p) (Var y p))) (sights_in (Var y p))
      by true e = seen-local y e
      by false e = seen-itself (sights_in (Var y p))
  seen-in (Unary op p e) = seen-in e
  seen-in (Binary op p a b) = seen-both (sights_in (mi a)) (sights_in (mi b)) (sights_in a) (sights_in b) (seen-in a) (seen-in b)
  seen-in (Both a b) = seen-both (sights_in (mi a)) (sights_in (mi b)) (sights_in a) (sights_in b) (seen-in a) (seen-in b)
  seen-in (Either a b) = seen-both (sights_in (mi a)) (sights_in (mi b)) (sights_in a) (sights_in b) (seen-in a) (seen-in b)
  seen-in (Choose c a b) =
      seen-both (sights_in (mi c)) (with_reads (sights_in (mi a)) (sights_in (mi b))) (sights_in c) (with_reads (sights_in a) (sights_in b)) (seen-in c)
      (seen-both (sights_in (mi a)) (sights_in (mi b)) (sights_in a) (sights_in b) (seen-in a) (seen-in b))
  seen-in e = seen-itself (sights_in e)

  seen-all : (es : List Expr) → Seen (sights_in_all (map mi es)) (sights_in_all es)
  seen-all [] = seen-itself nothing_read
  seen-all (e ∷ es) = seen-both (sights_in (mi e)) (sights_in_all (map mi es)) (sights_in e) (sights_in_all es) (seen-in e) (seen-all es)

  seen-target : (o : Target) → Seen (sights_of_target (mt o)) (sights_of_target o)
  seen-target (T.Scalar y p) = by (nat_eq y x)
    where
      by : (c : Bool) → Seen (sights_of_target (cond c (T.Property n q p) (T.Scalar y p))) nothing_read
      by true = seen-besides nothing_read nothing_read (seen-itself nothing_read)
      by false = seen-itself nothing_read
  seen-target (T.Property y r p) = seen-itself (sights_of_target (T.Property y r p))

  seen-held : (o : Target) → Seen (sights_at_target (mt o)) (sights_at_target o)
  seen-held (T.Scalar y p) = by (nat_eq y x) refl
    where
      by : (c : Bool) → nat_eq y x ≡ c → Seen (sights_at_target (cond c (T.Property n q p) (T.Scalar y p))) (sights_at_target (T.Scalar y p))
      by true e = seen-local y e
      by false e = seen-itself (sights_at_target (T.Scalar y p))
  seen-held (T.Property y r p) = seen-itself (sights_at_target (T.Property y r p))

  seen-by : (f : Target → Sights) → ((o : Target) → Seen (f (mt o)) (f o)) → (os : List Target) → Seen (sights_by f (map mt os)) (sights_by f os)
  seen-by f e [] = seen-itself nothing_read
  seen-by f e (o ∷ os) = seen-both (f (mt o)) (sights_by f (map mt os)) (f o) (sights_by f os) (e o) (seen-by f e os)

  once-moved : (inner : Bool) (o : Target) → is_at_once dt n inner (mt o) ≡ is_at_once dt n inner o
  once-moved false = target-moved dt x q n at t (is_at_once dt n false) true (λ p. eq-eqb n n refl) (λ y p e. at-depth dt x q n at t deep (λ d. not (nat_eq d 0)) y e)
  once-moved true = target-moved dt x q n at t (is_at_once dt n true) false (λ p. refl) (λ y p e. at-depth dt x q n at t deep (nat_lt 1) y e)

  pub all-once : (inner : Bool) (os : List Target) → are_at_once dt n inner (map mt os) ≡ are_at_once dt n inner os
  all-once inner os = all-targets dt x q n at t (is_at_once dt n inner) (once-moved inner) os

  seen-targets : (inner : Bool) (os : List Target) → Seen (sights_of_targets dt n inner (map mt os)) (sights_of_targets dt n inner os)
  seen-targets inner os = subst (λ b. Seen (sights_by (cond b sights_at_target sights_of_target) (map mt os)) (sights_of_targets dt n inner os)) (sym (all-once inner os)) (by (are_at_once dt n inner os))
    where
      by : (b : Bool) → Seen (sights_by (cond b sights_at_target sights_of_target) (map mt os)) (sights_by (cond b sights_at_target sights_of_target) os)
      by true = seen-by sights_at_target seen-held os
      by false = seen-by sights_of_target seen-target os

  seen-declared : (inner : Bool) (k : Key) (y : ℕ) (e : Option Expr) → Seen (sights_of dt n inner (moved_declared x q n at (zero_of t) k y e)) (sights_in_option e)
  seen-declared inner k y None = by (nat_eq y x)
    where
      by : (c : Bool) → Seen (sights_of dt n inner (cond c (Assign k (T.Property n q at) (Const (zero_of t))) (Declare k y None))) nothing_read
      by true = seen-besides nothing_read nothing_read (seen-itself nothing_read)
      by false = seen-itself nothing_read
  seen-declared inner k y (Some e) = by (nat_eq y x)
    where
      by : (c : Bool) → Seen (sights_of dt n inner (cond c (Assign k (T.Property n q at) (mi e)) (Declare k y (Some (mi e))))) (sights_in e)
      by true = seen-besides (sights_in (mi e)) (sights_in e) (seen-in e)
      by false = seen-in e

  pub seen-moved : (inner : Bool) (s : Stmt) → Seen (sights_of dt n inner (mv s)) (sights_of dt n inner s)
  seen-moved inner (Then a b) = seen-both (sights_of dt n inner (mv a)) (sights_of dt n inner (mv b)) (sights_of dt n inner a) (sights_of dt n inner b) (seen-moved inner a) (seen-moved inner b)
  seen-moved inner (Declare k y e) = seen-declared inner k y e
  seen-moved inner (Assign k o e) = seen-both (sights_of_target (mt o)) (sights_in (mi e)) (sights_of_target o) (sights_in e) (seen-target o) (seen-in e)
  seen-moved inner (Defer k o e) = seen-both (sights_of_target o) (sights_in (mi e)) (sights_of_target o) (sights_in e) (seen-itself (sights_of_target o)) (seen-in e)
  seen-moved inner (Combine k total r os es) = seen-both (sights_of_targets dt n inner (map mt os)) (sights_in_all (map mi es)) (sights_of_targets dt n inner os) (sights_in_all es) (seen-targets inner os) (seen-all es)
  seen-moved inner (If k c a b) =
      seen-both (sights_in (mi c)) (with_reads (sights_of dt n inner (mv a)) (sights_of dt n inner (mv b))) (sights_in c) (with_reads (sights_of dt n inner a) (sights_of dt n inner b)) (seen-in c)
      (seen-both (sights_of dt n inner (mv a)) (sights_of dt n inner (mv b)) (sights_of dt n inner a) (sights_of dt n inner b) (seen-moved inner a) (seen-moved inner b))
  seen-moved inner (Foreach k p hd test body) =
      let owner : Sights = record { properties = []; scalars = hd.owner ∷ [] } in
      seen-both owner (with_reads (sights_in (mi test)) (sights_of dt n true (mv body))) owner (with_reads (sights_in test) (sights_of dt n true body)) (seen-itself owner)
      (seen-both (sights_in (mi test)) (sights_of dt n true (mv body)) (sights_in test) (sights_of dt n true body) (seen-in test) (seen-moved true body))
  seen-moved inner s = seen-itself (sights_of dt n inner s)

  -- what is written
  pub rx : ℕ → ℕ
  rx y = cond (nat_eq y x) q y

  by-moved : (o : Target) (z : ℕ) → IsIn z (written_by (mt o)) → IsIn z (written_by o) ⊎ (z ≡ q)
  by-moved (T.Scalar y p) z i = by (nat_eq y x) i
    where
      by : (c : Bool) → IsIn z (written_by (cond c (T.Property n q p) (T.Scalar y p))) → IsIn z (y ∷ []) ⊎ (z ≡ q)
      by true i = ⊎_elim (λ (e : z ≡ q). inr e) (λ j. absurd j) i
      by false i = inl i
  by-moved (T.Property y r p) z i = inl i

  variables-moved : (os : List Target) (z : ℕ) → IsIn z (variables_of (map mt os)) → IsIn z (variables_of os) ⊎ (z ≡ q)
  variables-moved [] z i = absurd i
  variables-moved (o ∷ os) z i = either-besides (z ≡ q) z (written_by o) (variables_of os) (written_by (mt o)) (variables_of (map mt os)) (by-moved o z) (variables-moved os z) i

  written-declared : (inner : Bool) (k : Key) (y : ℕ) (e : Option Expr) (z : ℕ) → IsIn z (written dt n inner (moved_declared x q n at (zero_of t) k y e)) → IsIn z (y ∷ []) ⊎ (z ≡ q)
  written-declared inner k y None z i = by (nat_eq y x) i
    where
      by : (c : Bool) → IsIn z (written dt n inner (cond c (Assign k (T.Property n q at) (Const (zero_of t))) (Declare k y None))) → IsIn z (y ∷ []) ⊎ (z ≡ q)
      by true i = ⊎_elim (λ (e : z ≡ q). inr e) (λ j. absurd j) i
      by false i = inl i
  written-declared inner k y (Some e) z i = by (nat_eq y x) i
    where
      by : (c : Bool) → IsIn z (written dt n inner (cond c (Assign k (T.Property n q at) (mi e)) (Declare k y (Some (mi e))))) → IsIn z (y ∷ []) ⊎ (z ≡ q)
      by true i = ⊎_elim (λ (e : z ≡ q). inr e) (λ j. absurd j) i
      by false i = inl i

  pub written-moved : (inner : Bool) (s : Stmt) (z : ℕ) → IsIn z (written dt n inner (mv s)) → IsIn z (written dt n inner s) ⊎ (z ≡ q)
  written-moved inner (Then a b) z i = either-besides (z ≡ q) z (written dt n inner a) (written dt n inner b) (written dt n inner (mv a)) (written dt n inner (mv b)) (written-moved inner a z) (written-moved inner b z) i
  written-moved inner (Declare k y e) z i = written-declared inner k y e z i
  written-moved inner (Assign k o e) z i = by-moved o z i
  written-moved inner (Combine k total r os es) z i = by (are_at_once dt n inner os) (subst (λ b. IsIn z (cond b (variables_of (map mt os)) [])) (all-once inner os) i)
    where
      by : (b : Bool) → IsIn z (cond b (variables_of (map mt os)) []) → IsIn z (cond b (variables_of os) []) ⊎ (z ≡ q)
      by true i = variables-moved os z i
      by false i = absurd i
  written-moved inner (If k c a b) z i = either-besides (z ≡ q) z (written dt n inner a) (written dt n inner b) (written dt n inner (mv a)) (written dt n inner (mv b)) (written-moved inner a z) (written-moved inner b z) i
  written-moved inner (Foreach k p hd test body) z i = written-moved true body z i
  written-moved inner s z i = inl i

  pub deferred-moved : (s : Stmt) → deferred (mv s) ≡ deferred s
  deferred-moved (Then a b) = two-same (λ y z. y ++ z) (deferred (mv a)) (deferred (mv b)) (deferred a) (deferred b) (deferred-moved a) (deferred-moved b)
  deferred-moved (Declare k y None) = by (nat_eq y x)
    where
      by : (c : Bool) → deferred (cond c (Assign k (T.Property n q at) (Const (zero_of t))) (Declare k y None)) ≡ []
      by true = refl
      by false = refl
  deferred-moved (Declare k y (Some e)) = by (nat_eq y x)
    where
      by : (c : Bool) → deferred (cond c (Assign k (T.Property n q at) (mi e)) (Declare k y (Some (mi e)))) ≡ []
      by true = refl
      by false = refl
  deferred-moved (If k c a b) = two-same (λ y z. y ++ z) (deferred (mv a)) (deferred (mv b)) (deferred a) (deferred b) (deferred-moved a) (deferred-moved b)
  deferred-moved s = refl

  -- targets stay alike
  targets-apart : (os : List Target) → list_all (is_apart x n) os ≡ true → map mt os ≡ os
  targets-apart [] h = refl
  targets-apart (T.Scalar y p ∷ os) h =
      let r = both-true (not (nat_eq y x) && not (nat_eq y n)) (list_all (is_apart x n) os) h in
      let s = both-true (not (nat_eq y x)) (not (nat_eq y n)) r.0 in
      ap (λ o. o ∷ map mt os) (by (nat_eq y x) s.0) ∙ ap (λ l. T.Scalar y p ∷ l) (targets-apart os r.1)
    where
      by : (c : Bool) → not c ≡ true → cond c (T.Property n q p) (T.Scalar y p) ≡ T.Scalar y p
      by true e = absurd (both_ways false refl e)
      by false e = refl
  targets-apart (T.Property y r p ∷ os) h = ap (λ l. T.Property y r p ∷ l) (targets-apart os (both-true (not (nat_eq y x)) (list_all (is_apart x n) os) h).1)

  it-alike : (os : List Target) → is_it x os ≡ true → are_alike (map mt os) && are_distinct (variables_of (map mt os)) ≡ true
  it-alike [] h = absurd (both_ways false refl h)
  it-alike (T.Scalar y p ∷ []) h = ap (λ (c : Bool). are_alike (cond c (T.Property n q p) (T.Scalar y p) ∷ []) && are_distinct (variables_of (cond c (T.Property n q p) (T.Scalar y p) ∷ []))) h
  it-alike (T.Scalar y p ∷ (o ∷ os)) h = absurd (both_ways false refl h)
  it-alike (T.Property y r p ∷ os) h = absurd (both_ways false refl h)

  pub alike-moved : (s : Stmt) → may_move x n s ≡ true → targets_alike s ≡ true → targets_alike (mv s) ≡ true
  alike-moved (Then a b) m h =
      let r = both-true (may_move x n a) (may_move x n b) m in
      let s = both-true (targets_alike a) (targets_alike b) h in
      and-true (targets_alike (mv a)) (targets_alike (mv b)) (alike-moved a r.0 s.0) (alike-moved b r.1 s.1)
  alike-moved (Declare k y None) m h = by (nat_eq y x)
    where
      by : (c : Bool) → targets_alike (cond c (Assign k (T.Property n q at) (Const (zero_of t))) (Declare k y None)) ≡ true
      by true = refl
      by false = refl
  alike-moved (Declare k y (Some e)) m h = by (nat_eq y x)
    where
      by : (c : Bool) → targets_alike (cond c (Assign k (T.Property n q at) (mi e)) (Declare k y (Some (mi e)))) ≡ true
      by true = refl
      by false = refl
  alike-moved (Combine k total r os es) m h =
      let s = both-true (list_all (is_apart x n) os || is_it x os) (list_all (names_plainly x) es) m in
      ⊎_elim (λ a. ap (λ l. are_alike l && are_distinct (variables_of l)) (targets-apart os a) ∙ h) (λ i. it-alike os i) (either-true (list_all (is_apart x n) os) (is_it x os) s.0)
  alike-moved (If k c a b) m h =
      let q = both-true (names_plainly x c) (may_move x n a && may_move x n b) m in
      let r = both-true (may_move x n a) (may_move x n b) q.1 in
      let s = both-true (targets_alike a) (targets_alike b) h in
      and-true (targets_alike (mv a)) (targets_alike (mv b)) (alike-moved a r.0 s.0) (alike-moved b r.1 s.1)
  alike-moved (Foreach k p hd test body) m h =
      let rest = names_plainly x test && may_move x n body in
      let a = both-true (not (nat_eq hd.owner x)) (not (nat_eq hd.iterator x) && (not (nat_eq hd.iterator n) && rest)) m in
      let b = both-true (not (nat_eq hd.iterator x)) (not (nat_eq hd.iterator n) && rest) a.1 in
      let c = both-true (not (nat_eq hd.iterator n)) rest b.1 in
      let d = both-true (names_plainly x test) (may_move x n body) c.1 in
      alike-moved body d.1 h
  alike-moved s m h = h
