-- What the loops of an expression's reductions share: each keeps its total to a local.
use Rattle.std.proofs.Common.{◌≡◌, ◌≤◌, ◌<◌, ◌+◌, ◌++◌, ℕ, Bool, true, false, List, [], ◌∷◌, refl, sym, ap, subst, ◌∙◌, arith, ⊎_elim, inl, inr, Some}
use Rattle.std.specs.Prelude.{◌&&◌, nat_eq, if◌then◌else◌}
use Rattle.gm_value.specs.declared.reductions.Reduce.{Reduce}
use Rattle.gm_value.specs.declared.reductions.Reduce.TheVariants as R
use Rattle.gm_value.specs.Bag.{IsIn}
use Rattle.gm_ast.specs.declared.surface.ReductionWord.{ReductionWord}
use Rattle.gm_ast.specs.declared.surface.ReductionWord.TheVariants as W
use Rattle.gm_ast.specs.declared.tree.Declaration.{Declaration}
use Rattle.gm_ast.specs.declared.tree.Fold.{Fold}
use Rattle.gm_ast.specs.declared.tree.Head.{Head}
use Rattle.gm_ast.specs.declared.tree.Key.{Key}
use Rattle.gm_ast.specs.declared.tree.Target.TheVariants as T
use Rattle.gm_ast.specs.Program.{Expr, Const, Var, Property, EdgeProperty, Degree, NodeCount, EdgeCount, Live, Unary, Binary, Both, Either, Choose, Folded, Stmt, Declare, Combine, sequence}
use Rattle.gm_semantics.specs.Expressions.{reduce_of}
use Rattle.gm_semantics.specs.Frames.{ReadsBelow}
use Rattle.gm_forms.specs.Forms.{depth_at}
use Rattle.gm_forms.specs.Sharing.{Read, Sights, with_reads, reads_in, told_in, sights_in, sights_of, read_at, written, deferred, Reduced, reduced, kept_in, disjoint, all_agree, all_last_one_way, inner_shares, inners_share, targets_alike, at_level, level_reads_in, level_reads_of}
use Rattle.gm_forms.proofs.Doings.{in-left, in-right, in-either}
use Rattle.gm_forms.proofs.Weaker.{and-true}
use Rattle.gm_desugar.specs.Conditions.{nowhere}
use Rattle.gm_desugar.proofs.Fewer.{FewerReads, reads-both, at-level-fewer}
use Rattle.gm_reductions.specs.Folds.{unit_for}
use Rattle.gm_hoisting.specs.Hoisting.{joins, passing, adds, giving, looped, count_folds, total_behind, fold_set, folds_set}
use Rattle.gm_hoisting.proofs.Bare.{placed-any}
use Rattle.gm_hoisting.proofs.ShareLists.{disjoint-from, agree_two, agree-both, apart-agree, sights-both, written-both, reduced-both, deferred-both, levels-both, inners-both, alike-both}

-- ---- names below a number

abbrev pub FewerIds : List ℕ → List ℕ → Type 0
FewerIds xs ys = (y : ℕ) → IsIn y xs → IsIn y ys

pub ids-both : (xs ys us vs : List ℕ) → FewerIds us xs → FewerIds vs ys → FewerIds (us ++ vs) (xs ++ ys)
ids-both xs ys us vs p q y i = ⊎_elim (λ l. in-left y xs ys (p y l)) (λ r. in-right y xs ys (q y r)) (in-either y us vs i)

is-one : (y x k : ℕ) → x < k → IsIn y (x ∷ []) → y < k
is-one y x k b i = ⊎_elim (λ (e : y ≡ x). subst (λ z. z < k) (sym e) b) (λ n. absurd n) i

pub told-under : (k : ℕ) (e : Expr) → ReadsBelow k e → (y : ℕ) → IsIn y (told_in e) → y < k
told-under k (Const v) b y i = absurd i
told-under k (Var x at) b y i = is-one y x k b i
told-under k (Property x p at) b y i = is-one y x k b.0 i
told-under k (EdgeProperty x p at) b y i = absurd i
told-under k (Degree d x at) b y i = is-one y x k b i
told-under k NodeCount b y i = absurd i
told-under k EdgeCount b y i = absurd i
told-under k (Live x at) b y i = is-one y x k b i
told-under k (Unary op at e) b y i = told-under k e b y i
told-under k (Binary op at a c) b y i = ⊎_elim (λ l. told-under k a b.0 y l) (λ r. told-under k c b.1 y r) (in-either y (told_in a) (told_in c) i)
told-under k (Both a c) b y i = ⊎_elim (λ l. told-under k a b.0 y l) (λ r. told-under k c b.1 y r) (in-either y (told_in a) (told_in c) i)
told-under k (Either a c) b y i = ⊎_elim (λ l. told-under k a b.0 y l) (λ r. told-under k c b.1 y r) (in-either y (told_in a) (told_in c) i)
told-under k (Choose c a d) b y i =
    ⊎_elim (λ l. told-under k c b.0 y l) (λ r. ⊎_elim (λ l. told-under k a b.1 y l) (λ m. told-under k d b.2 y m) (in-either y (told_in a) (told_in d) r)) (in-either y (told_in c) (told_in a ++ told_in d) i)
told-under k (Folded f h test e) b y i =
    ⊎_elim (λ (s : y ≡ h.owner). subst (λ z. z < k) (sym s) b.0) (λ r. ⊎_elim (λ l. told-under k test b.1 y l) (λ m. told-under k e b.2 y m) (in-either y (told_in test) (told_in e) r)) i

one-read : (r : Read) (x p k : ℕ) → p < k → IsIn r (record { owner = x; property = p } ∷ []) → r.property < k
one-read r x p k b i = ⊎_elim (λ (e : r ≡ record { owner = x; property = p }). subst (λ z. z < k) (sym (ap (λ (q : Read). q.property) e)) b) (λ n. absurd n) i

pub reads-under : (k : ℕ) (e : Expr) → ReadsBelow k e → (r : Read) → IsIn r (reads_in e) → r.property < k
reads-under k (Const v) b r i = absurd i
reads-under k (Var x at) b r i = absurd i
reads-under k (Property x p at) b r i = one-read r x p k b.1 i
reads-under k (EdgeProperty x p at) b r i = absurd i
reads-under k (Degree d x at) b r i = absurd i
reads-under k NodeCount b r i = absurd i
reads-under k EdgeCount b r i = absurd i
reads-under k (Live x at) b r i = absurd i
reads-under k (Unary op at e) b r i = reads-under k e b r i
reads-under k (Binary op at a c) b r i = ⊎_elim (λ l. reads-under k a b.0 r l) (λ m. reads-under k c b.1 r m) (in-either r (reads_in a) (reads_in c) i)
reads-under k (Both a c) b r i = ⊎_elim (λ l. reads-under k a b.0 r l) (λ m. reads-under k c b.1 r m) (in-either r (reads_in a) (reads_in c) i)
reads-under k (Either a c) b r i = ⊎_elim (λ l. reads-under k a b.0 r l) (λ m. reads-under k c b.1 r m) (in-either r (reads_in a) (reads_in c) i)
reads-under k (Choose c a d) b r i =
    ⊎_elim (λ l. reads-under k c b.0 r l) (λ m. ⊎_elim (λ l. reads-under k a b.1 r l) (λ n. reads-under k d b.2 r n) (in-either r (reads_in a) (reads_in d) m)) (in-either r (reads_in c) (reads_in a ++ reads_in d) i)
reads-under k (Folded f h test e) b r i = ⊎_elim (λ l. reads-under k test b.1 r l) (λ m. reads-under k e b.2 r m) (in-either r (reads_in test) (reads_in e) i)

-- what is read at a node is a property
at-under : (k n : ℕ) (rs : List Read) → ((r : Read) → IsIn r rs → r.property < k) → (y : ℕ) → IsIn y (read_at n rs) → y < k
at-under k n [] h y i = absurd i
at-under k n (r ∷ rs) h y i = by (nat_eq r.owner n) (at-under k n rs (λ q j. h q (inr j)) y) i
  where
    by : (b : Bool) → (IsIn y (read_at n rs) → y < k) → IsIn y (if b then r.property ∷ read_at n rs else read_at n rs) → y < k
    by true rest i = ⊎_elim (λ (e : y ≡ r.property). subst (λ z. z < k) (sym e) (h r (inl refl))) rest i
    by false rest i = rest i

-- ---- a local's reduction

-- the total goes to a local among those from one number to another
pub record IsOwn (r : Reduced) (lo hi : ℕ) : Type 0 where
  pub variable : ℕ
  pub is : r.variables ≡ variable ∷ []
  pub from : lo ≤ variable
  pub to : variable < hi
  pub shared : r.shared ≡ []
  pub kept : r.kept ≡ variable ∷ []

pub own-wider : (r : Reduced) (lo hi lo' hi' : ℕ) → lo' ≤ lo → hi ≤ hi' → IsOwn r lo hi → IsOwn r lo' hi'
own-wider r lo hi lo' hi' p q o = record { variable = o.variable; is = o.is; from = (let a = o.from in omega (arith, a, p)); to = (let a = o.to in omega (arith, a, q)); shared = o.shared; kept = o.kept }

-- those of different locals agree
pub own-apart : (a b : Reduced) (lo mid hi : ℕ) → IsOwn a lo mid → IsOwn b mid hi → agree_two a b ≡ true
own-apart a b lo mid hi p q =
    apart-agree a b (disjoint-from a.variables b.variables (λ x i j.
    let s = one x a.variables p.variable p.is i in
    let t = one x b.variables q.variable q.is j in
    let u = p.to in let v = q.from in omega (arith, s, t, u, v)))
  where
    one : (x : ℕ) (xs : List ℕ) (y : ℕ) → xs ≡ y ∷ [] → IsIn x xs → x ≡ y
    one x xs y e i = ⊎_elim (λ s. s) (λ n. absurd n) (subst (IsIn x) e i)

abbrev pub own : ℕ → ℕ → Reduce → Reduced
own x number r = record { variables = x ∷ []; reduce = r; number = number; own = true; shared = []; kept = x ∷ [] }

module _ (es : List Declaration) (outer k : ℕ) where
  -- what the loops of reductions share, by what the reductions read
  pub record Prefix (xs : List Stmt) (e : Expr) (lo hi : ℕ) : Type 0 where
    pub seen : FewerReads (sights_of es outer false (sequence xs)).properties (reads_in e)
    pub told : FewerIds (sights_of es outer false (sequence xs)).scalars (told_in e)
    pub away : FewerReads (level_reads_of es outer (sequence xs)) (level_reads_in e)
    pub writes : (y : ℕ) → IsIn y (written es outer false (sequence xs)) → (lo ≤ y) × (y < hi)
    pub defers : deferred (sequence xs) ≡ []
    pub reduces : (r : Reduced) → IsIn r (reduced es outer false (sequence xs)) → IsOwn r lo hi
    pub agree : all_agree (reduced es outer false (sequence xs)) ≡ true
    pub inners : inners_share es outer (sequence xs) ≡ true
    pub alike : targets_alike (sequence xs) ≡ true

  -- ---- one reduction

  module _ (x : ℕ) (deep : depth_at es x ≡ 1) (above : k ≤ x) (f : Fold) (h : Head) (test e : Expr) (below : ReadsBelow k (Folded f h test e)) where
    abbrev made : Bool → ReductionWord → Stmt
    made j word = giving j word x f e

    abbrev sees : Bool → ReductionWord → Sights
    sees j word = sights_of es outer true (made j word)

    abbrev one_sight : Sights
    one_sight = record { properties = reads_in e ++ []; scalars = told_in e ++ [] }

    no-sight : sees true W.Count ≡ record { properties = []; scalars = [] }
    no-sight = rw deep refl

    value-sight : (r : Reduce) → sights_of es outer true (Combine f.body f.total r (T.Scalar x nowhere ∷ []) (e ∷ [])) ≡ one_sight
    value-sight r = rw deep refl

    count-sight : sees false W.Count ≡ one_sight
    count-sight = rw deep refl

    -- what the body of the loop reads
    giving-sight : (word : ReductionWord) → sees false word ≡ one_sight
    giving-sight W.Count = count-sight
    giving-sight W.Sum = value-sight (reduce_of W.Sum)
    giving-sight W.Product = value-sight (reduce_of W.Product)
    giving-sight W.Min = value-sight (reduce_of W.Min)
    giving-sight W.Max = value-sight (reduce_of W.Max)
    giving-sight W.Exist = value-sight (reduce_of W.Exist)
    giving-sight W.All = value-sight (reduce_of W.All)

    no-more : {A : Type 0} (y : A) (ys : List A) → IsIn y (ys ++ []) → IsIn y ys
    no-more y ys i = ⊎_elim (λ l. l) (λ n. absurd n) (in-either y ys [] i)

    -- the loop reads what the reduction does, at its nodes
    loop-reads : (j : Bool) (word : ReductionWord) → FewerReads (reads_in (passing j test e) ++ (sees j word).properties) (reads_in test ++ reads_in e)
    loop-reads true word r i =
        ⊎_elim (λ l. l) (λ m. absurd (subst (λ (s : Sights). IsIn r s.properties) no-sight m)) (in-either r (reads_in test ++ reads_in e) (sees true word).properties i)
    loop-reads false word r i =
        ⊎_elim (λ l. in-left r (reads_in test) (reads_in e) l) (λ m. in-right r (reads_in test) (reads_in e) (no-more r (reads_in e) (subst (λ (s : Sights). IsIn r s.properties) (giving-sight word) m))) (in-either r (reads_in test) (sees false word).properties i)

    loop-told : (j : Bool) (word : ReductionWord) → FewerIds (told_in (passing j test e) ++ (sees j word).scalars) (told_in test ++ told_in e)
    loop-told true word y i =
        ⊎_elim (λ l. l) (λ m. absurd (subst (λ (s : Sights). IsIn y s.scalars) no-sight m)) (in-either y (told_in test ++ told_in e) (sees true word).scalars i)
    loop-told false word y i =
        ⊎_elim (λ l. in-left y (told_in test) (told_in e) l) (λ m. in-right y (told_in test) (told_in e) (no-more y (told_in e) (subst (λ (s : Sights). IsIn y s.scalars) (giving-sight word) m))) (in-either y (told_in test) (sees false word).scalars i)

    -- what it reduces, and writes
    adds-reduced : reduced es outer true (adds x f) ≡ own x f.total.key.statement R.Sum ∷ []
    adds-reduced = rw deep refl

    value-reduced : (r : Reduce) → reduced es outer true (Combine f.body f.total r (T.Scalar x nowhere ∷ []) (e ∷ [])) ≡ own x f.total.key.statement r ∷ []
    value-reduced r = rw deep refl

    -- the reduction that a word does
    abbrev did : Bool → ReductionWord → Reduce
    did true word = R.Sum
    did false word = reduce_of word

    giving-reduced : (j : Bool) (word : ReductionWord) → reduced es outer true (made j word) ≡ own x f.total.key.statement (did j word) ∷ []
    giving-reduced true word = adds-reduced
    giving-reduced false W.Count = ap (λ l. l ++ []) adds-reduced
    giving-reduced false W.Sum = value-reduced (reduce_of W.Sum)
    giving-reduced false W.Product = value-reduced (reduce_of W.Product)
    giving-reduced false W.Min = value-reduced (reduce_of W.Min)
    giving-reduced false W.Max = value-reduced (reduce_of W.Max)
    giving-reduced false W.Exist = value-reduced (reduce_of W.Exist)
    giving-reduced false W.All = value-reduced (reduce_of W.All)

    nothing-written : (j : Bool) (word : ReductionWord) → written es outer true (made j word) ≡ []
    nothing-written true word = rw deep refl
    nothing-written false W.Count = rw deep refl
    nothing-written false W.Sum = rw deep refl
    nothing-written false W.Product = rw deep refl
    nothing-written false W.Min = rw deep refl
    nothing-written false W.Max = rw deep refl
    nothing-written false W.Exist = rw deep refl
    nothing-written false W.All = rw deep refl

    giving-alike : (j : Bool) (word : ReductionWord) → targets_alike (made j word) ≡ true
    giving-alike true word = refl
    giving-alike false W.Count = refl
    giving-alike false W.Sum = refl
    giving-alike false W.Product = refl
    giving-alike false W.Min = refl
    giving-alike false W.Max = refl
    giving-alike false W.Exist = refl
    giving-alike false W.All = refl

    -- the total is the local's, which the loop does not read
    giving-inner : (j : Bool) (word : ReductionWord) → inner_shares es outer (passing j test e) (made j word) ≡ true
    giving-inner j word =
        let seen = with_reads (sights_in (passing j test e)) (sees j word) in
        let one = own x f.total.key.statement (did j word) in
        subst (λ all. disjoint (kept_in all) (read_at outer seen.properties ++ seen.scalars) && all_last_one_way all ≡ true) (sym (giving-reduced j word))
        (and-true (disjoint (x ∷ []) (read_at outer seen.properties ++ seen.scalars)) true
        (disjoint-from (x ∷ []) (read_at outer seen.properties ++ seen.scalars) (λ y i m.
        let s : y ≡ x = ⊎_elim (λ q. q) (λ n. absurd n) i in
        let low : y < k = ⊎_elim (λ l. at-under k outer seen.properties reads-low y l) (λ r. told-low y r) (in-either y (read_at outer seen.properties) seen.scalars m) in
        omega (arith, s, low, above))) refl)
      where
        reads-low : (r : Read) → IsIn r (reads_in (passing j test e) ++ (sees j word).properties) → r.property < k
        reads-low r i = ⊎_elim (λ l. reads-under k test below.1 r l) (λ m. reads-under k e below.2 r m) (in-either r (reads_in test) (reads_in e) (loop-reads j word r i))

        told-low : (y : ℕ) → IsIn y (told_in (passing j test e) ++ (sees j word).scalars) → y < k
        told-low y i = ⊎_elim (λ l. told-under k test below.1 y l) (λ m. told-under k e below.2 y m) (in-either y (told_in test) (told_in e) (loop-told j word y i))

    pub fold-prefix : (key : Key) → Prefix (Declare key x (Some (Const (unit_for f))) ∷ looped x f h test e ∷ []) (Folded f h test e) x (x + 1)
    fold-prefix key =
        let j = joins f.word f in
        let word = f.word in
        record {
          seen = λ r i. loop-reads j word r (no-more r (reads_in (passing j test e) ++ (sees j word).properties) i);
          told = λ y i. ⊎_elim (λ (s : y ≡ h.owner). inl s) (λ m. inr (loop-told j word y m)) (no-more y (h.owner ∷ (told_in (passing j test e) ++ (sees j word).scalars)) i);
          away = λ r i. at-level-fewer h (reads_in (passing j test e) ++ (sees j word).properties) (reads_in test ++ reads_in e) (loop-reads j word) r (no-more r (at_level h (reads_in (passing j test e) ++ (sees j word).properties)) i);
          writes = λ y i. ⊎_elim (λ (s : y ≡ x). (omega (arith, s), omega (arith, s))) (λ m. absurd (subst (IsIn y) (ap (λ l. l ++ []) (nothing-written j word)) m)) i;
          defers = refl;
          reduces = λ r i. own-is r (no-more r (own x f.total.key.statement (did j word) ∷ []) (subst (λ l. IsIn r (l ++ [])) (giving-reduced j word) i));
          agree = ap (λ l. all_agree (l ++ [])) (giving-reduced j word);
          inners = and-true (inner_shares es outer (passing j test e) (made j word)) true (giving-inner j word) refl;
          alike = and-true (targets_alike (made j word)) true (giving-alike j word) refl;
        }
      where
        own-is : (r : Reduced) → IsIn r (own x f.total.key.statement (did (joins f.word f) f.word) ∷ []) → IsOwn r x (x + 1)
        own-is r i = ⊎_elim (λ (s : r ≡ own x f.total.key.statement (did (joins f.word f) f.word)). subst (λ z. IsOwn z x (x + 1)) (sym s) (record { variable = x; is = refl; from = omega arith; to = omega arith; shared = refl; kept = refl })) (λ n. absurd n) i

  -- ---- several

  nothing-prefix : (e : Expr) (lo hi : ℕ) → Prefix [] e lo hi
  nothing-prefix e lo hi = record { seen = λ r i. absurd i; told = λ y i. absurd i; away = λ r i. absurd i; writes = λ y i. absurd i; defers = refl; reduces = λ r i. absurd i; agree = refl; inners = refl; alike = refl }

  -- of two expressions
  pub prefix-two : (us vs : List Stmt) (a b w : Expr) (lo c d : ℕ) → reads_in w ≡ reads_in a ++ reads_in b → told_in w ≡ told_in a ++ told_in b → level_reads_in w ≡ level_reads_in a ++ level_reads_in b →
      Prefix us a lo (lo + c) → Prefix vs b (lo + c) ((lo + c) + d) → Prefix (us ++ vs) w lo (lo + (c + d))
  prefix-two us vs a b w lo c d r1 r2 r3 p q =
      let S = sights_of es outer false (sequence us) in
      let Z = sights_of es outer false (sequence vs) in
      let both = sights-both es outer false us vs in
      record {
        seen = λ r i. subst (IsIn r) (sym r1) (reads-both (reads_in a) (reads_in b) S.properties Z.properties p.seen q.seen r (subst (λ (s : Sights). IsIn r s.properties) both i));
        told = λ y i. subst (IsIn y) (sym r2) (ids-both (told_in a) (told_in b) S.scalars Z.scalars p.told q.told y (subst (λ (s : Sights). IsIn y s.scalars) both i));
        away = λ r i. subst (IsIn r) (sym r3) (reads-both (level_reads_in a) (level_reads_in b) (level_reads_of es outer (sequence us)) (level_reads_of es outer (sequence vs)) p.away q.away r (subst (IsIn r) (levels-both es outer us vs) i));
        writes = λ y i. ⊎_elim (λ l. let z = p.writes y l in let lw = z.0 in let hi = z.1 in (lw, omega (arith, hi))) (λ m. let z = q.writes y m in let lw = z.0 in let hi = z.1 in (omega (arith, lw), omega (arith, hi)))
            (in-either y (written es outer false (sequence us)) (written es outer false (sequence vs)) (subst (IsIn y) (written-both es outer false us vs) i));
        defers = deferred-both us vs ∙ ap (λ l. l ++ deferred (sequence vs)) p.defers ∙ q.defers;
        reduces = λ r i. ⊎_elim (λ l. own-wider r lo (lo + c) lo (lo + (c + d)) (omega arith) (omega arith) (p.reduces r l)) (λ m. own-wider r (lo + c) ((lo + c) + d) lo (lo + (c + d)) (omega arith) (omega arith) (q.reduces r m))
            (in-either r (reduced es outer false (sequence us)) (reduced es outer false (sequence vs)) (subst (IsIn r) (reduced-both es outer false us vs) i));
        agree = ap all_agree (reduced-both es outer false us vs)
            ∙ agree-both (reduced es outer false (sequence us)) (reduced es outer false (sequence vs)) p.agree q.agree (λ r s i j. own-apart r s lo (lo + c) ((lo + c) + d) (p.reduces r i) (q.reduces s j));
        inners = inners-both es outer us vs p.inners q.inners;
        alike = alike-both us vs p.alike q.alike;
      }

  -- locals of a table
  abbrev pub Deep : ℕ → ℕ → Type 0
  Deep lo c = (i : ℕ) → lo ≤ i → i < lo + c → depth_at es i ≡ 1

  deep-left : (lo c d : ℕ) → Deep lo (c + d) → Deep lo c
  deep-left lo c d h i l b = h i l (omega (arith, b))

  deep-right : (lo c d : ℕ) → Deep lo (c + d) → Deep (lo + c) d
  deep-right lo c d h i l b = h i (omega (arith, l)) (omega (arith, b))

  pub folds-prefix : (e : Expr) (lo : ℕ) (key : Key) → k ≤ lo → ReadsBelow k e → Deep lo (count_folds e) → Prefix (folds_set lo key e) e lo (lo + count_folds e)
  folds-prefix (Const v) lo key l b h = nothing-prefix (Const v) lo (lo + 0)
  folds-prefix (Var x at) lo key l b h = nothing-prefix (Var x at) lo (lo + 0)
  folds-prefix (Property x p at) lo key l b h = nothing-prefix (Property x p at) lo (lo + 0)
  folds-prefix (EdgeProperty x p at) lo key l b h = nothing-prefix (EdgeProperty x p at) lo (lo + 0)
  folds-prefix (Degree d x at) lo key l b h = nothing-prefix (Degree d x at) lo (lo + 0)
  folds-prefix NodeCount lo key l b h = nothing-prefix NodeCount lo (lo + 0)
  folds-prefix EdgeCount lo key l b h = nothing-prefix EdgeCount lo (lo + 0)
  folds-prefix (Live x at) lo key l b h = nothing-prefix (Live x at) lo (lo + 0)
  folds-prefix (Unary op at e) lo key l b h =
      let p = folds-prefix e lo key l b h in
      record { seen = p.seen; told = p.told; away = p.away; writes = p.writes; defers = p.defers; reduces = p.reduces; agree = p.agree; inners = p.inners; alike = p.alike }
  folds-prefix (Binary op at a c) lo key l b h =
      prefix-two (folds_set lo key a) (folds_set (lo + count_folds a) key c) a c (Binary op at a c) lo (count_folds a) (count_folds c) refl refl refl (folds-prefix a lo key l b.0 (deep-left lo (count_folds a) (count_folds c) h))
      (folds-prefix c (lo + count_folds a) key (omega (arith, l)) b.1 (deep-right lo (count_folds a) (count_folds c) h))
  folds-prefix (Both a c) lo key l b h =
      prefix-two (folds_set lo key a) (folds_set (lo + count_folds a) key c) a c (Both a c) lo (count_folds a) (count_folds c) refl refl refl (folds-prefix a lo key l b.0 (deep-left lo (count_folds a) (count_folds c) h))
      (folds-prefix c (lo + count_folds a) key (omega (arith, l)) b.1 (deep-right lo (count_folds a) (count_folds c) h))
  folds-prefix (Either a c) lo key l b h =
      prefix-two (folds_set lo key a) (folds_set (lo + count_folds a) key c) a c (Either a c) lo (count_folds a) (count_folds c) refl refl refl (folds-prefix a lo key l b.0 (deep-left lo (count_folds a) (count_folds c) h))
      (folds-prefix c (lo + count_folds a) key (omega (arith, l)) b.1 (deep-right lo (count_folds a) (count_folds c) h))
  folds-prefix (Choose c a d) lo key l b h =
      let n1 = lo + count_folds c in
      let rest = deep-right lo (count_folds c) (count_folds a + count_folds d) h in
      let more : k ≤ n1 = omega (arith, l) in
      prefix-two (folds_set lo key c) (folds_set n1 key a ++ folds_set (n1 + count_folds a) key d) c (Both a d) (Choose c a d) lo (count_folds c) (count_folds a + count_folds d) refl refl refl (folds-prefix c lo key l b.0 (deep-left lo (count_folds c) (count_folds a + count_folds d) h))
      (subst (Prefix (folds_set n1 key a ++ folds_set (n1 + count_folds a) key d) (Both a d) n1) (let e : n1 + (count_folds a + count_folds d) ≡ n1 + (count_folds a + count_folds d) = refl in e)
      (prefix-two (folds_set n1 key a) (folds_set (n1 + count_folds a) key d) a d (Both a d) n1 (count_folds a) (count_folds d) refl refl refl (folds-prefix a n1 key more b.1 (deep-left n1 (count_folds a) (count_folds d) rest))
      (folds-prefix d (n1 + count_folds a) key (omega (arith, more)) b.2 (deep-right n1 (count_folds a) (count_folds d) rest))))
  folds-prefix (Folded f hd test e) lo key l b h =
      placed-any (λ g. Prefix (fold_set lo key g hd test e) (Folded f hd test e) lo (lo + 1)) f hd test e
      (λ g.
      let p = fold-prefix lo (h lo (omega arith) (omega arith)) l (total_behind f g) hd test e b key in
      record { seen = p.seen; told = p.told; away = p.away; writes = p.writes; defers = p.defers; reduces = p.reduces; agree = p.agree; inners = p.inners; alike = p.alike })
      (fold-prefix lo (h lo (omega arith) (omega arith)) l f hd test e b key)
