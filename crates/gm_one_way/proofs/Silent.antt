-- What is kept of an inner body for some variables reads nothing on which these do not rest.
use Rattle.std.proofs.Common.{◌≡◌, ◌⊎◌, ℕ, Bool, true, false, cond, List, [], ◌∷◌, ◌++◌, refl, sym, ap, ◌∙◌, Some, None, ⊎_elim, inl, inr}
use Rattle.std.specs.Prelude.{◌&&◌, ◌||◌, not, nat_eq}
use Rattle.std.specs.List.{list_all, list_any}
use Rattle.std.proofs.lemmas.Bool.{both_ways, eqb-true}
use Rattle.gm_ast.specs.Loops.{any}
use Rattle.gm_ast.specs.Ways.{Mention, mentions, variable_of, is_in}
use Rattle.gm_ast.specs.Ways
use Rattle.gm_ast.specs.declared.tree.Declaration.{Declaration}
use Rattle.gm_ast.specs.declared.tree.Target.{Target}
use Rattle.gm_ast.specs.declared.tree.Target.TheVariants as T
use Rattle.gm_ast.specs.Program.{Expr, Const, Var, Property, EdgeProperty, Degree, NodeCount, EdgeCount, Live, Unary, Binary, Both, Either, Choose, Folded, Stmt, Skip, Then, Declare, DeclareEdge, Assign, Defer, Combine, Group, Foreach, For, If, While, Do, InBfs, InBfsBoth, Return}
use Rattle.gm_forms.specs.Forms.{is_flat, is_inner_body, may, are_reduced, is_inner_given, is_within}
use Rattle.gm_forms.specs.Sharing.{told_in, sights_of, sights_in_all, sights_by, sights_at_target, sights_of_target, sights_of_targets, written, written_at_once, variables_of, are_at_once, is_at_once}
use Rattle.gm_forms.proofs.Named.{both-true}
use Rattle.gm_forms.proofs.Weaker.{and-true}
use Rattle.gm_loop_laws.specs.Masks.{is_certain}
use Rattle.gm_loop_laws.specs.Resumed.{is_still, serves, needs, kept}
use Rattle.gm_one_way.specs.Along.{holds_marked, tells, told_of, are_marked, marks}

-- ---- expressions and bodies that read nothing of a kind

abbrev pub quiet : (Mention → Bool) → Expr → Bool
quiet reads e = not (any reads (mentions e))

abbrev pub silent : (Mention → Bool) → Stmt → Bool
silent reads (Then a b) = silent reads a && silent reads b
silent reads (Declare k x e) = may (quiet reads) e
silent reads (Assign k t e) = quiet reads e
silent reads (Combine k total r ts es) = list_all (quiet reads) es
silent reads (If k c a b) = quiet reads c && (silent reads a && silent reads b)
silent reads _ = true

-- ---- truth values

pub none-either : (a b : Bool) → a || b ≡ false → (a ≡ false) × (b ≡ false)
none-either true b h = absurd (both_ways true h refl)
none-either false b h = (refl, h)

pub either-none : (a b : Bool) → a ≡ false → b ≡ false → a || b ≡ false
either-none a b p q = ap (λ z. z || b) p ∙ q

pub no-true : (a : Bool) → not a ≡ true → a ≡ false
no-true true h = sym h
no-true false h = refl

pub no-false : (a : Bool) → a ≡ false → not a ≡ true
no-false a h = ap not h

-- either of them, where one is
pub or-cases : (a b : Bool) → a || b ≡ true → (a ≡ true) ⊎ (b ≡ true)
or-cases true b h = inl refl
or-cases false b h = inr h

not-both : (a : Bool) → (a ≡ true → ⊥) → a ≡ false
not-both true f = absurd (f refl)
not-both false f = refl

-- ---- lists

pub any-none : {A : Type 0} (f : A → Bool) (xs ys : List A) → any f (xs ++ ys) ≡ false → (any f xs ≡ false) × (any f ys ≡ false)
any-none f [] ys h = (refl, h)
any-none f (x ∷ xs) ys h =
    let r = none-either (f x) (any f (xs ++ ys)) h in
    let q = any-none f xs ys r.1 in
    (either-none (f x) (any f xs) r.0 q.0, q.1)

pub none-any : {A : Type 0} (f : A → Bool) (xs ys : List A) → any f xs ≡ false → any f ys ≡ false → any f (xs ++ ys) ≡ false
none-any f [] ys p q = q
none-any f (x ∷ xs) ys p q = let r = none-either (f x) (any f xs) p in either-none (f x) (any f (xs ++ ys)) r.0 (none-any f xs ys r.1 q)

-- variables none of which is marked
abbrev pub clear : (ℕ → Bool) → List ℕ → Bool
clear marked xs = list_all (λ x. not (marked x)) xs

pub clear-both : (marked : ℕ → Bool) (xs ys : List ℕ) → clear marked xs ≡ true → clear marked ys ≡ true → clear marked (xs ++ ys) ≡ true
clear-both marked [] ys p q = q
clear-both marked (x ∷ xs) ys p q = let r = both-true (not (marked x)) (clear marked xs) p in and-true (not (marked x)) (clear marked (xs ++ ys)) r.0 (clear-both marked xs ys r.1 q)

-- one of the first is among the second, and so none of both can be all marked and clear
met : (marked : ℕ → Bool) (xs ys : List ℕ) → list_any (is_in xs) ys ≡ true → clear marked xs ≡ true → list_all marked ys ≡ true → ⊥
met marked xs [] h c m = both_ways false refl h
met marked xs (y ∷ ys) h c m =
    let r = both-true (marked y) (list_all marked ys) m in
    ⊎_elim (λ e. both_ways (marked y) (at xs e c) r.0) (λ e. met marked xs ys e c r.1) (or-cases (is_in xs y) (list_any (is_in xs) ys) h)
  where
    at : (xs : List ℕ) → is_in xs y ≡ true → clear marked xs ≡ true → marked y ≡ false
    at [] e c = absurd (both_ways false refl e)
    at (x ∷ xs) e c =
        let r = both-true (not (marked x)) (clear marked xs) c in
        ⊎_elim (λ i. ap marked (eqb-true y x i) ∙ no-true (marked x) r.0) (λ i. at xs i r.1) (or-cases (nat_eq y x) (is_in xs y) e)

-- ---- what an expression tells

module _ (ds : List Declaration) (n : ℕ) (reads : Mention → Bool) (marked : ℕ → Bool) where
  abbrev tell : Mention → Bool
  tell m = tells ds n reads marked m

  abbrev told : Expr → Bool
  told e = told_of ds n reads marked e

  -- it reads nothing of the kind
  quiet-mentions : (ms : List Mention) → any (tells ds n reads marked) ms ≡ false → any reads ms ≡ false
  quiet-mentions [] h = refl
  quiet-mentions (m ∷ ms) h =
      let r = none-either (tell m) (any tell ms) h in
      either-none (reads m) (any reads ms) (none-either (reads m) (holds_marked marked m) r.0).0 (quiet-mentions ms r.1)

  pub quiet-told : (e : Expr) → told_of ds n reads marked e ≡ false → quiet reads e ≡ true
  quiet-told e h = no-false (any reads (mentions e)) (quiet-mentions (mentions e) h)

  first-none : (m : Mention) → any (tells ds n reads marked) (m ∷ []) ≡ false → tells ds n reads marked m ≡ false
  first-none m h = (none-either (tell m) false h).0

  alone-clear : (x : ℕ) → any (tells ds n reads marked) (Ways.Alone x ∷ []) ≡ false → clear marked (x ∷ []) ≡ true
  alone-clear x h = and-true (not (marked x)) true (no-false (marked x) (none-either (reads (Ways.Alone x)) (marked x) (first-none (Ways.Alone x) h)).1) refl

  through-clear : (x : ℕ) → any (tells ds n reads marked) (Ways.Through x ∷ []) ≡ false → clear marked (x ∷ []) ≡ true
  through-clear x h = and-true (not (marked x)) true (no-false (marked x) (none-either (reads (Ways.Through x)) (marked x) (first-none (Ways.Through x) h)).1) refl

  -- what it names is not marked
  pub clear-told : (its : List ℕ) (e : Expr) → is_flat its true e ≡ true → told_of ds n reads marked e ≡ false → clear marked (told_in e) ≡ true
  clear-told its (Const v) f h = refl
  clear-told its (Var x at) f h = alone-clear x h
  clear-told its (Property x p at) f h = through-clear x h
  clear-told its (EdgeProperty x p at) f h = refl
  clear-told its (Degree d x at) f h = through-clear x h
  clear-told its NodeCount f h = refl
  clear-told its EdgeCount f h = refl
  clear-told its (Live x at) f h = alone-clear x h
  clear-told its (Unary op at e) f h = clear-told its e f h
  clear-told its (Binary op at a b) f h =
      let q = both-true (is_flat its true a) (is_flat its true b) f in
      let r = any-none tell (mentions a) (mentions b) h in clear-both marked (told_in a) (told_in b) (clear-told its a q.0 r.0) (clear-told its b q.1 r.1)
  clear-told its (Both a b) f h =
      let q = both-true (is_flat its true a) (is_flat its true b) f in
      let r = any-none tell (mentions a) (mentions b) h in clear-both marked (told_in a) (told_in b) (clear-told its a q.0 r.0) (clear-told its b q.1 r.1)
  clear-told its (Either a b) f h =
      let q = both-true (is_flat its true a) (is_flat its true b) f in
      let r = any-none tell (mentions a) (mentions b) h in clear-both marked (told_in a) (told_in b) (clear-told its a q.0 r.0) (clear-told its b q.1 r.1)
  clear-told its (Choose c a b) f h =
      let p = both-true (is_flat its true c) (is_flat its true a && is_flat its true b) f in
      let o = both-true (is_flat its true a) (is_flat its true b) p.1 in
      let r = any-none tell (mentions c) (mentions a ++ mentions b) h in
      let q = any-none tell (mentions a) (mentions b) r.1 in
      clear-both marked (told_in c) (told_in a ++ told_in b) (clear-told its c p.0 r.0) (clear-both marked (told_in a) (told_in b) (clear-told its a o.0 q.0) (clear-told its b o.1 q.1))
  clear-told its (Folded g hd test e) f h = absurd (both_ways false refl f)

  -- several
  pub all-quiet : (es : List Expr) → list_any (told_of ds n reads marked) es ≡ false → list_all (quiet reads) es ≡ true
  all-quiet [] h = refl
  all-quiet (e ∷ es) h = let r = none-either (told e) (list_any told es) h in and-true (quiet reads e) (list_all (quiet reads) es) (quiet-told e r.0) (all-quiet es r.1)

  pub all-clear : (its : List ℕ) (es : List Expr) → list_all (is_flat its true) es ≡ true → list_any (told_of ds n reads marked) es ≡ false → clear marked (sights_in_all es).scalars ≡ true
  all-clear its [] f h = refl
  all-clear its (e ∷ es) f h =
      let q = both-true (is_flat its true e) (list_all (is_flat its true) es) f in
      let r = none-either (told e) (list_any told es) h in clear-both marked (told_in e) (sights_in_all es).scalars (clear-told its e q.0 r.0) (all-clear its es q.1 r.1)

-- ---- what is kept

none-clear : (marked : ℕ → Bool) (ws : List ℕ) → list_any marked ws ≡ false → clear marked ws ≡ true
none-clear marked [] h = refl
none-clear marked (w ∷ ws) h = let r = none-either (marked w) (list_any marked ws) h in and-true (not (marked w)) (clear marked ws) (no-false (marked w) r.0) (none-clear marked ws r.1)

all-both : (p : ℕ → Bool) (xs ys : List ℕ) → list_all p xs ≡ true → list_all p ys ≡ true → list_all p (xs ++ ys) ≡ true
all-both p [] ys a b = b
all-both p (x ∷ xs) ys a b = let r = both-true (p x) (list_all p xs) a in and-true (p x) (list_all p (xs ++ ys)) r.0 (all-both p xs ys r.1 b)

-- ds: the table; n, t: the outer and the inner iterator
module _ (ds : List Declaration) (n t : ℕ) (reads : Mention → Bool) (marked : ℕ → Bool) where
  abbrev its : List ℕ
  its = n ∷ t ∷ []

  abbrev mark : Bool → Stmt → Bool
  mark b s = marks ds n reads marked b s

  abbrev of : Expr → Bool
  of e = told_of ds n reads marked e

  -- under a condition that tells, all that is set is marked
  all-marked : (s : Stmt) → is_inner_body ds (n ∷ t ∷ []) true s ≡ true → marks ds n reads marked true s ≡ true → list_all marked (written ds n true s) ≡ true
  all-marked Skip g h = refl
  all-marked (Then a b) g h =
      let q = both-true (is_inner_body ds its true a) (is_inner_body ds its true b) g in
      let r = both-true (mark true a) (mark true b) h in
      all-both marked (written ds n true a) (written ds n true b) (all-marked a q.0 r.0) (all-marked b q.1 r.1)
  all-marked (Declare k x None) g h = h
  all-marked (Declare k x (Some e)) g h = h
  all-marked (DeclareEdge x y at) g h = refl
  all-marked (Assign k u e) g h = h
  all-marked (Defer k u e) g h = refl
  all-marked (Combine k total r ts es) g h = h
  all-marked (Group k at u p e) g h = refl
  all-marked (Foreach k at hd test body) g h = absurd (both_ways false refl g)
  all-marked (For k at hd test body) g h = refl
  all-marked (If k c a b) g h =
      let o = both-true (is_flat its true c) (is_inner_body ds its true a && is_inner_body ds its true b) g in
      let q = both-true (is_inner_body ds its true a) (is_inner_body ds its true b) o.1 in
      let r = both-true (mark true a) (mark true b) h in
      all-both marked (written ds n true a) (written ds n true b) (all-marked a q.0 r.0) (all-marked b q.1 r.1)
  all-marked (While k at c body) g h = refl
  all-marked (Do k at body c) g h = refl
  all-marked (InBfs k at hd c body) g h = refl
  all-marked (InBfsBoth k at hd c body bk d back) g h = refl
  all-marked (Return k at e) g h = refl

  -- what sets a variable that is not marked is not told
  untold : (told : Bool) (xs ws : List ℕ) → are_marked ds n reads marked told ws ≡ true → list_any (is_in xs) ws ≡ true → clear marked xs ≡ true → told ≡ false
  untold true xs ws m h c = absurd (met marked xs ws h c m)
  untold false xs ws m h c = refl

  -- what serves, and is not new or only sets, sets one of them
  served : (new : Bool) (s : Stmt) (xs : List ℕ) → (new ≡ true → is_still (n ∷ t ∷ []) s ≡ true) → serves ds (n ∷ t ∷ []) n new xs s ≡ true → list_any (is_in xs) (written ds n true s) ≡ true
  served new s xs f h = ⊎_elim (λ e. e) (λ e. absurd (idle new f e)) (or-cases (list_any (is_in xs) (written ds n true s)) (new && not (is_still its s)) h)
    where
      idle : (b : Bool) → (b ≡ true → is_still (n ∷ t ∷ []) s ≡ true) → b && not (is_still (n ∷ t ∷ []) s) ≡ true → ⊥
      idle true f e = both_ways (is_still (n ∷ t ∷ []) s) (no-true (is_still (n ∷ t ∷ []) s) e) (f refl)
      idle false f e = both_ways false refl e

  -- a statement of which all is kept, or nothing
  leaf : (s : Stmt) (xs : List ℕ) (o : Bool) → (o ≡ true → (silent reads s ≡ true) × (clear marked (sights_of ds n true s).scalars ≡ true)) → clear marked xs ≡ true →
      (silent reads (cond o s Skip) ≡ true) × (clear marked (cond o ((sights_of ds n true s).scalars ++ xs) xs) ≡ true)
  leaf s xs true f c = let r = f refl in (r.0, clear-both marked (sights_of ds n true s).scalars xs r.1 c)
  leaf s xs false f c = (refl, c)

  -- scalars that are reduced together at once
  once-scalars : (ts : List Target) → are_at_once ds n true ts ≡ true → (sights_by sights_at_target ts).scalars ≡ variables_of ts
  once-scalars [] h = refl
  once-scalars (T.Scalar x at ∷ ts) h = ap (λ l. x ∷ l) (once-scalars ts (both-true (is_at_once ds n true (T.Scalar x at)) (are_at_once ds n true ts) h).1)
  once-scalars (T.Property x p at ∷ ts) h = absurd (both_ways false refl h)

  -- what is kept for variables that are not marked reads nothing of the kind, and needs no marked one. new: whether it is evaluated for the first time, and then only sets locals by what cannot fault
  pub keeps-silent : (new : Bool) (s : Stmt) (xs : List ℕ) (b : Bool) → marks ds n reads marked b s ≡ true → (new ≡ true → is_still (n ∷ t ∷ []) s ≡ true) → clear marked xs ≡ true → is_inner_body ds (n ∷ t ∷ []) true s ≡ true →
      (silent reads (kept ds (n ∷ t ∷ []) n new s xs) ≡ true) × (clear marked (needs ds (n ∷ t ∷ []) n new s xs) ≡ true)
  keeps-silent new Skip xs b m f c g = (refl, c)
  keeps-silent new (Then x y) xs b m f c g =
      let q = both-true (is_inner_body ds its true x) (is_inner_body ds its true y) g in
      let r = both-true (mark b x) (mark b y) m in
      let second = keeps-silent new y xs b r.1 (λ e. (both-true (is_still its x) (is_still its y) (f e)).1) c q.1 in
      let first = keeps-silent new x (needs ds its n new y xs) b r.0 (λ e. (both-true (is_still its x) (is_still its y) (f e)).0) second.1 q.0 in
      (and-true (silent reads (kept ds its n new x (needs ds its n new y xs))) (silent reads (kept ds its n new y xs)) first.0 second.0, first.1)
  keeps-silent new (Declare k x None) xs b m f c g = leaf (Declare k x None) xs (serves ds its n new xs (Declare k x None)) (λ o. (refl, refl)) c
  keeps-silent new (Declare k x (Some e)) xs b m f c g =
      leaf (Declare k x (Some e)) xs (serves ds its n new xs (Declare k x (Some e)))
      (λ o.
      let w = served new (Declare k x (Some e)) xs f o in
      let u = none-either b (of e) (untold (b || of e) xs (x ∷ []) m w c) in
      (quiet-told ds n reads marked e u.1, clear-told ds n reads marked its e (both-true _ (is_flat its true e) g).1 u.1)) c
  keeps-silent new (DeclareEdge x y at) xs b m f c g = (refl, c)
  keeps-silent new (Assign k (T.Scalar x at) e) xs b m f c g =
      leaf (Assign k (T.Scalar x at) e) xs (serves ds its n new xs (Assign k (T.Scalar x at) e))
      (λ o.
      let w = served new (Assign k (T.Scalar x at) e) xs f o in
      let u = none-either b (of e) (untold (b || of e) xs (x ∷ []) m w c) in
      (quiet-told ds n reads marked e u.1, clear-told ds n reads marked its e (both-true _ (is_flat its true e) g).1 u.1)) c
  keeps-silent new (Assign k (T.Property x p at) e) xs b m f c g = absurd (both_ways false refl g)
  keeps-silent new (Defer k u e) xs b m f c g = absurd (both_ways false refl g)
  keeps-silent new (Combine k total r ts es) xs b m f c g = leaf (Combine k total r ts es) xs (serves ds its n new xs (Combine k total r ts es)) (λ o. by (are_at_once ds n true ts) refl (served new (Combine k total r ts es) xs f o)) c
    where
      by : (o : Bool) → are_at_once ds n true ts ≡ o → list_any (is_in xs) (written_at_once ds n true ts) ≡ true → (list_all (quiet reads) es ≡ true) × (clear marked (sights_of ds n true (Combine k total r ts es)).scalars ≡ true)
      by false e w = absurd (both_ways (list_any (is_in xs) (written_at_once ds n true ts)) (ap (λ o. list_any (is_in xs) (cond o (variables_of ts) [])) e) w)
      by true e w =
          let ws = written_at_once ds n true ts in
          let u = none-either b (list_any marked ws || list_any of es) (untold (b || (list_any marked ws || list_any of es)) xs ws m w c) in
          let v = none-either (list_any marked ws) (list_any of es) u.1 in
          let own : clear marked (sights_by sights_at_target ts).scalars ≡ true = ap (clear marked) (once-scalars ts e) ∙ sym (ap (λ o. clear marked (cond o (variables_of ts) [])) e) ∙ none-clear marked ws v.0 in
          let at : clear marked (sights_of_targets ds n true ts).scalars ≡ true = ap (λ o. clear marked (sights_by (cond o sights_at_target sights_of_target) ts).scalars) e ∙ own in
          let body = both-true (are_reduced (is_inner_given ds) (is_within ds 2) r ts) (list_all (is_flat (n ∷ t ∷ []) true) es) g in
          (all-quiet ds n reads marked es v.1, clear-both marked (sights_of_targets ds n true ts).scalars (sights_in_all es).scalars at (all-clear ds n reads marked (n ∷ t ∷ []) es body.1 v.1))
  keeps-silent new (Group k at u p e) xs b m f c g = absurd (both_ways false refl g)
  keeps-silent new (Foreach k at hd test body) xs b m f c g = absurd (both_ways false refl g)
  keeps-silent new (For k at hd test body) xs b m f c g = absurd (both_ways false refl g)
  keeps-silent new (If k q x y) xs b m f c g = by (λ told r. keeps-silent new x xs told r (λ e. (still e).0) c bodies.0) (λ told r. keeps-silent new y xs told r (λ e. (still e).1) c bodies.1) (serves ds its n new xs (If k q x y)) refl
    where
      Kept : Stmt → Type 0
      Kept z = (told : Bool) → marks ds n reads marked told z ≡ true → (silent reads (kept ds (n ∷ t ∷ []) n new z xs) ≡ true) × (clear marked (needs ds (n ∷ t ∷ []) n new z xs) ≡ true)

      still : new ≡ true → (is_still (n ∷ t ∷ []) x ≡ true) × (is_still (n ∷ t ∷ []) y ≡ true)
      still e = both-true (is_still (n ∷ t ∷ []) x) (is_still (n ∷ t ∷ []) y) (both-true (is_certain (n ∷ t ∷ []) q) (is_still (n ∷ t ∷ []) x && is_still (n ∷ t ∷ []) y) (f e)).1

      forms : (is_flat (n ∷ t ∷ []) true q ≡ true) × (is_inner_body ds (n ∷ t ∷ []) true x && is_inner_body ds (n ∷ t ∷ []) true y ≡ true)
      forms = both-true (is_flat (n ∷ t ∷ []) true q) (is_inner_body ds (n ∷ t ∷ []) true x && is_inner_body ds (n ∷ t ∷ []) true y) g

      bodies : (is_inner_body ds (n ∷ t ∷ []) true x ≡ true) × (is_inner_body ds (n ∷ t ∷ []) true y ≡ true)
      bodies = both-true (is_inner_body ds (n ∷ t ∷ []) true x) (is_inner_body ds (n ∷ t ∷ []) true y) forms.1

      -- a condition that tells marks what is set
      apart : (told : Bool) → marks ds n reads marked told x && marks ds n reads marked told y ≡ true → list_any (is_in xs) (written ds n true x ++ written ds n true y) ≡ true → told ≡ false
      apart true m w =
          let r = both-true (marks ds n reads marked true x) (marks ds n reads marked true y) m in
          absurd (met marked xs (written ds n true x ++ written ds n true y) w c (all-both marked (written ds n true x) (written ds n true y) (all-marked x bodies.0 r.0) (all-marked y bodies.1 r.1)))
      apart false m w = refl

      by : Kept x → Kept y → (o : Bool) → serves ds (n ∷ t ∷ []) n new xs (If k q x y) ≡ o →
          (silent reads (cond o (If k q (kept ds (n ∷ t ∷ []) n new x xs) (kept ds (n ∷ t ∷ []) n new y xs)) Skip) ≡ true) × (clear marked (cond o (told_in q ++ (needs ds (n ∷ t ∷ []) n new x xs ++ needs ds (n ∷ t ∷ []) n new y xs)) xs) ≡ true)
      by on off false e = (refl, c)
      by on off true e =
          let told = b || told_of ds n reads marked q in
          let r = both-true (marks ds n reads marked told x) (marks ds n reads marked told y) m in
          let u = none-either b (told_of ds n reads marked q) (apart told m (served new (If k q x y) xs f e)) in
          let first = on told r.0 in
          let second = off told r.1 in
          let kx = kept ds (n ∷ t ∷ []) n new x xs in
          let ky = kept ds (n ∷ t ∷ []) n new y xs in (
            and-true (quiet reads q) (silent reads kx && silent reads ky) (quiet-told ds n reads marked q u.1) (and-true (silent reads kx) (silent reads ky) first.0 second.0),
            clear-both marked (told_in q) (needs ds (n ∷ t ∷ []) n new x xs ++ needs ds (n ∷ t ∷ []) n new y xs) (clear-told ds n reads marked (n ∷ t ∷ []) q forms.0 u.1)
                (clear-both marked (needs ds (n ∷ t ∷ []) n new x xs) (needs ds (n ∷ t ∷ []) n new y xs) first.1 second.1),
          )
  keeps-silent new (While k at q body) xs b m f c g = absurd (both_ways false refl g)
  keeps-silent new (Do k at body q) xs b m f c g = absurd (both_ways false refl g)
  keeps-silent new (InBfs k at hd q body) xs b m f c g = absurd (both_ways false refl g)
  keeps-silent new (InBfsBoth k at hd q body bk d back) xs b m f c g = absurd (both_ways false refl g)
  keeps-silent new (Return k at e) xs b m f c g = absurd (both_ways false refl g)
