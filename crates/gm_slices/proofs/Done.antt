-- Of the statements before a slice, those that set nothing are never evaluated again.
use Rattle.std.proofs.Common.{◌≡◌, ℕ, Bool, true, false, true≢false, List, [], ◌∷◌, ◌++◌, map, append-nil, refl, sym, ap, ◌∙◌}
use Rattle.std.specs.Prelude.{◌&&◌, ◌||◌, not, if◌then◌else◌, filter}
use Rattle.std.specs.List.{list_any}
use Rattle.std.proofs.lemmas.List.{append_assoc}
use Rattle.gm_ast.specs.declared.tree.Declaration.{Declaration}
use Rattle.gm_ast.specs.Program.{Stmt, Skip, Then, Declare, DeclareEdge, Assign, Defer, Combine, Group, Foreach, For, If, While, Do, InBfs, InBfsBoth, Return, sequence}
use Rattle.gm_loop_laws.specs.Resumed.{is_still}
use Rattle.gm_cut.specs.Slices.{statements_of}
use Rattle.gm_slices.specs.Keeping.{sets, may_serve_again, is_wanted, with_wants, wanted}
use Rattle.gm_slices.specs.Needs.{none, is_touched}
use Rattle.gm_slices.specs.SliceWalks.{Nest, goes, waits, nested, loops_joined, slice_to, slices_behind}
use Rattle.gm_slices.proofs.SliceWalks.{ends}
use Rattle.gm_slices.proofs.Wanted.{plain-gone, plain-rest, if-gone, if-rest, slice-same}

first-none : (a b : Bool) → a || b ≡ false → a ≡ false
first-none false b e = refl
first-none true b e = e

second-none : (a b : Bool) → a || b ≡ false → b ≡ false
second-none false b e = e
second-none true b e = absurd (true≢false e)

none-either : (a b : Bool) → a ≡ false → b ≡ false → a || b ≡ false
none-either a b e f = ap (λ x. x || b) e ∙ f

chosen : (b c c' : Bool) (x x' y y' z z' : List Stmt) → c ≡ c' → x ≡ x' → y ≡ y' → z ≡ z' → (if b then x else if c then y else z) ≡ (if b then x' else if c' then y' else z')
chosen b c c' x x' y y' z z' e f g h =
    ap (λ k. if b then x else if k then y else z) e ∙ ap (λ k. if b then k else if c' then y else z) f ∙ ap (λ k. if b then x' else if c' then k else z) g ∙ ap (λ k. if b then x' else if c' then y' else k) h

-- one statement is kept, or left out
pub one_kept : (f : Stmt → Bool) (xs : List Stmt) (s : Stmt) → f s ≡ true → xs ++ (s ∷ []) ≡ xs ++ filter f (s ∷ [])
one_kept f xs s e = ap (λ b. xs ++ (if b then s ∷ [] else [])) (sym e)

pub one_left : (f : Stmt → Bool) (xs : List Stmt) (s : Stmt) → f s ≡ false → xs ≡ xs ++ filter f (s ∷ [])
one_left f xs s e = sym (append-nil xs) ∙ ap (λ b. xs ++ (if b then s ∷ [] else [])) (sym e)

-- what was kept of one, and then of the others
pub one-first : (f : Stmt → Bool) (old new : List Stmt) (s : Stmt) (rest : List Stmt) → new ≡ old ++ filter f (s ∷ []) → new ++ filter f rest ≡ old ++ filter f (s ∷ rest)
one-first f old new s rest e = ap (λ l. l ++ filter f rest) e ∙ append_assoc old (filter f (s ∷ [])) (filter f rest) ∙ ap (λ l. old ++ l) (by (f s))
  where
    by : (b : Bool) → (if b then s ∷ [] else []) ++ filter f rest ≡ (if b then s ∷ filter f rest else filter f rest)
    by true = refl
    by false = refl

module _ (ds : List Declaration) (its : List ℕ) (n : ℕ) where
  sets-none : (m : ℕ → Bool) (s : Stmt) → may_serve_again ds its n s ≡ false → sets ds its n m s ≡ false
  sets-none m Skip e = refl
  sets-none m (Then a b) e =
      let p = may_serve_again ds its n a in
      let q = may_serve_again ds its n b in
      none-either (sets ds its n m a) (sets ds its n m b) (sets-none m a (first-none p q e)) (sets-none m b (second-none p q e))
  sets-none m (Declare k x v) e = absurd (true≢false e)
  sets-none m (DeclareEdge x y at) e = absurd (true≢false e)
  sets-none m (Assign k t v) e = absurd (true≢false e)
  sets-none m (Defer k t v) e = refl
  sets-none m (Combine k total r ts es) e = ap (λ b. b && list_any (is_touched m) ts) e
  sets-none m (Group k at g p v) e = refl
  sets-none m (Foreach k at h test body) e = sets-none m body e
  sets-none m (For k at h test body) e = refl
  sets-none m (If k c a b) e =
      let p = may_serve_again ds its n a in
      let q = may_serve_again ds its n b in
      none-either (sets ds its n m a) (sets ds its n m b) (sets-none m a (first-none p q e)) (sets-none m b (second-none p q e))
  sets-none m (While k at c body) e = refl
  sets-none m (Do k at body c) e = refl
  sets-none m (InBfs k at s test body) e = refl
  sets-none m (InBfsBoth k at s test body bk bt back) e = refl
  sets-none m (Return k at v) e = refl

  unwanted : (m : ℕ → Bool) (s : Stmt) → may_serve_again ds its n s ≡ false → is_wanted ds its n false m s ≡ false
  unwanted m s e = none-either (sets ds its n m s) (false && not (is_still its s)) (sets-none m s e) refl

  abbrev again : Stmt → (ℕ → Bool) → List Stmt
  again s m = statements_of (wanted ds its n false s m)

  abbrev before : Stmt → (ℕ → Bool) → (ℕ → Bool)
  before s m = with_wants ds its n false s m

  -- a statement that sets nothing
  gone : (s : Stmt) (m : ℕ → Bool) → may_serve_again ds its n s ≡ false → (again s m ≡ []) × (before s m ≡ m)
  gone Skip m e = (refl, refl)
  gone (Then a b) m e =
      let first = gone a (before b m) (first-none (may_serve_again ds its n a) (may_serve_again ds its n b) e) in
      let last = gone b m (second-none (may_serve_again ds its n a) (may_serve_again ds its n b) e) in
      (ap (λ l. l ++ again b m) first.0 ∙ last.0, first.1 ∙ last.1)
  gone (Declare k x v) m e = absurd (true≢false e)
  gone (DeclareEdge x y at) m e = absurd (true≢false e)
  gone (Assign k t v) m e = absurd (true≢false e)
  gone (Defer k t v) m e = let s = Defer k t v in let w = unwanted m s e in (sym (ap statements_of (plain-gone ds its n false s m refl w)), sym (plain-rest ds its n false s m refl w))
  gone (Combine k total r ts es) m e = let s = Combine k total r ts es in let w = unwanted m s e in (sym (ap statements_of (plain-gone ds its n false s m refl w)), sym (plain-rest ds its n false s m refl w))
  gone (Group k at g p v) m e = let s = Group k at g p v in let w = unwanted m s e in (sym (ap statements_of (plain-gone ds its n false s m refl w)), sym (plain-rest ds its n false s m refl w))
  gone (Foreach k at h test body) m e = let s = Foreach k at h test body in let w = unwanted m s e in (sym (ap statements_of (plain-gone ds its n false s m refl w)), sym (plain-rest ds its n false s m refl w))
  gone (For k at h test body) m e = let s = For k at h test body in let w = unwanted m s e in (sym (ap statements_of (plain-gone ds its n false s m refl w)), sym (plain-rest ds its n false s m refl w))
  gone (If k c a b) m e = let s = If k c a b in let w = unwanted m s e in (sym (ap statements_of (if-gone ds its n false s m refl w)), sym (if-rest ds its n false s m refl w))
  gone (While k at c body) m e = let s = While k at c body in let w = unwanted m s e in (sym (ap statements_of (plain-gone ds its n false s m refl w)), sym (plain-rest ds its n false s m refl w))
  gone (Do k at body c) m e = let s = Do k at body c in let w = unwanted m s e in (sym (ap statements_of (plain-gone ds its n false s m refl w)), sym (plain-rest ds its n false s m refl w))
  gone (InBfs k at x test body) m e = let s = InBfs k at x test body in let w = unwanted m s e in (sym (ap statements_of (plain-gone ds its n false s m refl w)), sym (plain-rest ds its n false s m refl w))
  gone (InBfsBoth k at x test body bk bt back) m e =
      let s = InBfsBoth k at x test body bk bt back in let w = unwanted m s e in (sym (ap statements_of (plain-gone ds its n false s m refl w)), sym (plain-rest ds its n false s m refl w))
  gone (Return k at v) m e = let s = Return k at v in let w = unwanted m s e in (sym (ap statements_of (plain-gone ds its n false s m refl w)), sym (plain-rest ds its n false s m refl w))

  -- statements of which the same is evaluated again, whatever is needed
  abbrev Alike : List Stmt → List Stmt → Type 0
  Alike d e = (m : ℕ → Bool) → (again (sequence d) m ≡ again (sequence e) m) × (before (sequence d) m ≡ before (sequence e) m)

  one-more : (s : Stmt) (some g : List Stmt) (m : ℕ → Bool) (b : Bool) → may_serve_again ds its n s ≡ b → (again (sequence some) m ≡ again (sequence g) m) × (before (sequence some) m ≡ before (sequence g) m)
      → (again (sequence (if b then s ∷ some else some)) m ≡ again (sequence (s ∷ g)) m) × (before (sequence (if b then s ∷ some else some)) m ≡ before (sequence (s ∷ g)) m)
  one-more s some g m true e rest = (
    ap (λ k. again s k ++ again (sequence some) m) rest.1 ∙ ap (λ l. again s (before (sequence g) m) ++ l) rest.0,
    ap (before s) rest.1,
  )
  one-more s some g m false e rest =
      let none = gone s (before (sequence g) m) e in (
        rest.0 ∙ sym (ap (λ l. l ++ again (sequence g) m) none.0),
        rest.1 ∙ sym none.1,
      )

  filtered : (g : List Stmt) → Alike (filter (may_serve_again ds its n) g) g
  filtered [] m = (refl, refl)
  filtered (s ∷ g) m = one-more s (filter (may_serve_again ds its n) g) g m (may_serve_again ds its n s) refl (filtered g m)

  append-before : (d x : List Stmt) (m : ℕ → Bool) → before (sequence (d ++ x)) m ≡ before (sequence d) (before (sequence x) m)
  append-before [] x m = refl
  append-before (s ∷ d) x m = ap (before s) (append-before d x m)

  append-again : (d x : List Stmt) (m : ℕ → Bool) → again (sequence (d ++ x)) m ≡ again (sequence d) (before (sequence x) m) ++ again (sequence x) m
  append-again [] x m = refl
  append-again (s ∷ d) x m =
      let k = before (sequence x) m in
      ap (λ q. again s q ++ again (sequence (d ++ x)) m) (append-before d x m) ∙ ap (λ l. again s (before (sequence d) k) ++ l) (append-again d x m)
      ∙ sym (append_assoc (again s (before (sequence d) k)) (again (sequence d) k) (again (sequence x) m))

  append-alike : (d e x y : List Stmt) → Alike d e → Alike x y → Alike (d ++ x) (e ++ y)
  append-alike d e x y p q m =
      let k = before (sequence x) m in
      let first = p k in
      let last = q m in (
        append-again d x m ∙ ap (λ l. l ++ again (sequence x) m) first.0 ∙ ap (λ j. again (sequence e) j ++ again (sequence x) m) last.1
            ∙ ap (λ l. again (sequence e) (before (sequence y) m) ++ l) last.0 ∙ sym (append-again e y m),
        append-before d x m ∙ first.1 ∙ ap (before (sequence e)) last.1 ∙ sym (append-before e y m),
      )

  alike-self : (d : List Stmt) → Alike d d
  alike-self d m = (refl, refl)

module _ (ds : List Declaration) (nest : Nest) where
  abbrev n : ℕ
  n = nest.head.iterator

  abbrev its : List ℕ
  its = n ∷ nest.inner_head.iterator ∷ []

  abbrev Same : List Stmt → List Stmt → Type 0
  Same d e = Alike ds its n d e

  slice-alike : (d e g : List Stmt) → Same d e → slice_to ds nest d g ≡ slice_to ds nest e g
  slice-alike d e g p =
      let late = with_wants ds its n true (sequence g) none in
      ap sequence (sym (slice-same ds its n (sequence d) (sequence g)) ∙ ap (λ l. l ++ statements_of (wanted ds its n true (sequence g) none)) (p late).0 ∙ slice-same ds its n (sequence e) (sequence g))

  walk-alike : (new : Bool) (d e group wait ss : List Stmt) → Same d e → slices_behind ds nest new d group wait ss ≡ slices_behind ds nest new e group wait ss
  walk-alike new d e group wait [] p = ap (λ s. s ∷ []) (slice-alike d e (group ++ wait) p)
  walk-alike new d e group wait (s ∷ ss) p =
      let next = wait ++ (s ∷ []) in
      chosen (waits ds nest s) (new || goes ds nest (slice_to ds nest d (group ++ next))) (new || goes ds nest (slice_to ds nest e (group ++ next)))
      (slices_behind ds nest new d group next ss) (slices_behind ds nest new e group next ss)
      (slices_behind ds nest false d (group ++ next) [] ss) (slices_behind ds nest false e (group ++ next) [] ss)
      (slice_to ds nest d group ∷ slices_behind ds nest false (d ++ group) next [] ss) (slice_to ds nest e group ∷ slices_behind ds nest false (e ++ group) next [] ss)
      (ap (λ l. new || goes ds nest l) (slice-alike d e (group ++ next) p))
      (walk-alike new d e group next ss p)
      (walk-alike false d e (group ++ next) [] ss p)
      (ap (λ l. l ∷ slices_behind ds nest false (d ++ group) next [] ss) (slice-alike d e group p) ∙ ap (λ l. slice_to ds nest e group ∷ l) (walk-alike false (d ++ group) (e ++ group) next [] ss (append-alike ds its n d e group group p (alike-self ds its n group))))

  -- a group ends, of which only those are done that may serve again
  pub ends-lean : (l l' d d' g g' nothing w ss : List Stmt) → l' ≡ l ++ (nested nest (slice_to ds nest d (g ++ nothing)) ∷ []) → nothing ≡ [] → d' ≡ d ++ filter (may_serve_again ds its n) g → g' ≡ [] →
      l' ++ loops_joined ds nest d' (g' ++ w) ss ≡ l ++ (nested nest (slice_to ds nest d g) ∷ loops_joined ds nest (d ++ g) w ss)
  ends-lean l l' d d' g g' nothing w ss e f h i =
      let some = filter (may_serve_again ds its n) g in
      let alike : Same (d ++ some) (d ++ g) = append-alike ds its n d d some g (alike-self ds its n d) (filtered ds its n g) in
      ap (λ x. l' ++ loops_joined ds nest x (g' ++ w) ss) h ∙ ap (λ x. l' ++ map (nested nest) x) (walk-alike false (d ++ some) (d ++ g) (g' ++ w) [] ss alike) ∙ ends ds nest l l' d (d ++ g) g g' nothing w ss e f refl i
