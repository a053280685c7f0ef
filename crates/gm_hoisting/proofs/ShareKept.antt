-- Loops with their reductions as inner loops share what they shared.
use Rattle.std.proofs.Common.{◌≡◌, ◌≤◌, ◌<◌, ◌+◌, ◌++◌, ℕ, Bool, true, false, List, [], ◌∷◌, refl, sym, ap, subst, ◌∙◌, arith, append-nil, ⊎_elim, inl, inr, Option, Some, None}
use Rattle.std.specs.Prelude.{◌⊎◌, not, nat_eq, if◌then◌else◌}
use Rattle.gm_value.specs.declared.reductions.Reduce.{Reduce}
use Rattle.gm_value.specs.Bag.{IsIn}
use Rattle.gm_ast.specs.declared.tree.Declaration.{Declaration}
use Rattle.gm_ast.specs.declared.tree.Head.{Head}
use Rattle.gm_ast.specs.declared.tree.Key.{Key}
use Rattle.gm_ast.specs.declared.tree.TotalKey.{TotalKey}
use Rattle.gm_ast.specs.declared.tree.Target.{Target}
use Rattle.gm_ast.specs.declared.tree.Target.TheVariants as T
use Rattle.gm_ast.specs.Loops.{asks_levels}
use Rattle.gm_ast.specs.Program.{Expr, always, Const, Var, Property, EdgeProperty, Degree, NodeCount, EdgeCount, Live, Unary, Binary, Both, Either, Choose, Folded, Stmt, Skip, Then, Declare, Assign, Defer, Combine, Foreach, If, sequence}
use Rattle.gm_semantics.specs.Frames.{ReadsBelow, MayReadBelow, AllReadBelow, TargetBelow, TargetsBelow, NamesBelow}
use Rattle.gm_forms.specs.Sharing.{Read, Sights, with_reads, reads_in, told_in, sights_in, sights_in_option, sights_in_all, are_at_once, sights_of_target, sights_at_target, sights_by, sights_of_targets, sights_of, read_anywhere, read_elsewhere, written_by, variables_of, written, deferred, variables_where, is_owned, Reduced, reduced_by, reduced, shared_in, kept_in, disjoint, all_agree, inners_share, targets_alike, not_through, at_level, level_reads_in, level_reads_in_option, level_reads_in_all, level_reads_of, shares_beside, shares, search_shares}
use Rattle.gm_forms.proofs.CutLaws.{apart-out}
use Rattle.gm_forms.proofs.Doings.{in-left, in-right, in-either}
use Rattle.gm_forms.proofs.Named.{both-true}
use Rattle.gm_forms.proofs.Weaker.{and-true}
use Rattle.gm_desugar.proofs.Fewer.{FewerReads, reads-both, anywhere-fewer, elsewhere-fewer}
use Rattle.gm_hoisting.specs.Hoisting.{count_folds, count_all, count_body, has_none, folds_set, all_set, told_from, all_told, behind, body_out, filter_left, under, opened}
use Rattle.gm_hoisting.proofs.ShareFolds.{FewerIds, reads-under, IsOwn, own-wider, own-apart, Prefix, Deep, folds-prefix, prefix-two}
use Rattle.gm_hoisting.proofs.ShareLists.{disjoint-from, agree_two, Agree, agree-both, agree-parts, apart-agree, sights-behind, written-behind, reduced-behind, deferred-behind, levels-behind, inners-behind, alike-behind}

-- ---- what is left of an expression reads no more, but locals

told-reads : (e : Expr) (n : ℕ) → FewerReads (reads_in (told_from n e)) (reads_in e)
told-reads (Const v) n r i = i
told-reads (Var x at) n r i = i
told-reads (Property x p at) n r i = i
told-reads (EdgeProperty x p at) n r i = i
told-reads (Degree d x at) n r i = i
told-reads NodeCount n r i = i
told-reads EdgeCount n r i = i
told-reads (Live x at) n r i = i
told-reads (Unary op at e) n r i = told-reads e n r i
told-reads (Binary op at a b) n r i = reads-both (reads_in a) (reads_in b) (reads_in (told_from n a)) (reads_in (told_from (n + count_folds a) b)) (told-reads a n) (told-reads b (n + count_folds a)) r i
told-reads (Both a b) n r i = reads-both (reads_in a) (reads_in b) (reads_in (told_from n a)) (reads_in (told_from (n + count_folds a) b)) (told-reads a n) (told-reads b (n + count_folds a)) r i
told-reads (Either a b) n r i = reads-both (reads_in a) (reads_in b) (reads_in (told_from n a)) (reads_in (told_from (n + count_folds a) b)) (told-reads a n) (told-reads b (n + count_folds a)) r i
told-reads (Choose c a b) n r i =
    let n1 = n + count_folds c in
    reads-both (reads_in c) (reads_in a ++ reads_in b) (reads_in (told_from n c)) (reads_in (told_from n1 a) ++ reads_in (told_from (n1 + count_folds a) b)) (told-reads c n)
    (reads-both (reads_in a) (reads_in b) (reads_in (told_from n1 a)) (reads_in (told_from (n1 + count_folds a) b)) (told-reads a n1) (told-reads b (n1 + count_folds a))) r i
told-reads (Folded f h test e) n r i = absurd i

told-levels : (e : Expr) (n : ℕ) → FewerReads (level_reads_in (told_from n e)) (level_reads_in e)
told-levels (Const v) n r i = i
told-levels (Var x at) n r i = i
told-levels (Property x p at) n r i = i
told-levels (EdgeProperty x p at) n r i = i
told-levels (Degree d x at) n r i = i
told-levels NodeCount n r i = i
told-levels EdgeCount n r i = i
told-levels (Live x at) n r i = i
told-levels (Unary op at e) n r i = told-levels e n r i
told-levels (Binary op at a b) n r i = reads-both (level_reads_in a) (level_reads_in b) (level_reads_in (told_from n a)) (level_reads_in (told_from (n + count_folds a) b)) (told-levels a n) (told-levels b (n + count_folds a)) r i
told-levels (Both a b) n r i = reads-both (level_reads_in a) (level_reads_in b) (level_reads_in (told_from n a)) (level_reads_in (told_from (n + count_folds a) b)) (told-levels a n) (told-levels b (n + count_folds a)) r i
told-levels (Either a b) n r i = reads-both (level_reads_in a) (level_reads_in b) (level_reads_in (told_from n a)) (level_reads_in (told_from (n + count_folds a) b)) (told-levels a n) (told-levels b (n + count_folds a)) r i
told-levels (Choose c a b) n r i =
    let n1 = n + count_folds c in
    reads-both (level_reads_in c) (level_reads_in a ++ level_reads_in b) (level_reads_in (told_from n c)) (level_reads_in (told_from n1 a) ++ level_reads_in (told_from (n1 + count_folds a) b)) (told-levels c n)
    (reads-both (level_reads_in a) (level_reads_in b) (level_reads_in (told_from n1 a)) (level_reads_in (told_from (n1 + count_folds a) b)) (told-levels a n1) (told-levels b (n1 + count_folds a))) r i
told-levels (Folded f h test e) n r i = absurd i

-- among others, or a local
abbrev OrLocal : ℕ → List ℕ → List ℕ → Type 0
OrLocal k xs ys = (y : ℕ) → IsIn y xs → IsIn y ys ⊎ (k ≤ y)

or-both : (k : ℕ) (xs ys us vs : List ℕ) → OrLocal k us xs → OrLocal k vs ys → OrLocal k (us ++ vs) (xs ++ ys)
or-both k xs ys us vs p q y i =
    ⊎_elim (λ l. ⊎_elim (λ a. inl (in-left y xs ys a)) (λ b. inr b) (p y l)) (λ r. ⊎_elim (λ a. inl (in-right y xs ys a)) (λ b. inr b) (q y r)) (in-either y us vs i)

or-none : (k : ℕ) (xs ys : List ℕ) → FewerIds xs ys → OrLocal k xs ys
or-none k xs ys h y i = inl (h y i)

told-told : (k : ℕ) (e : Expr) (n : ℕ) → k ≤ n → OrLocal k (told_in (told_from n e)) (told_in e)
told-told k (Const v) n l y i = inl i
told-told k (Var x at) n l y i = inl i
told-told k (Property x p at) n l y i = inl i
told-told k (EdgeProperty x p at) n l y i = inl i
told-told k (Degree d x at) n l y i = inl i
told-told k NodeCount n l y i = inl i
told-told k EdgeCount n l y i = inl i
told-told k (Live x at) n l y i = inl i
told-told k (Unary op at e) n l y i = told-told k e n l y i
told-told k (Binary op at a b) n l y i = or-both k (told_in a) (told_in b) (told_in (told_from n a)) (told_in (told_from (n + count_folds a) b)) (told-told k a n l) (told-told k b (n + count_folds a) (omega (arith, l))) y i
told-told k (Both a b) n l y i = or-both k (told_in a) (told_in b) (told_in (told_from n a)) (told_in (told_from (n + count_folds a) b)) (told-told k a n l) (told-told k b (n + count_folds a) (omega (arith, l))) y i
told-told k (Either a b) n l y i = or-both k (told_in a) (told_in b) (told_in (told_from n a)) (told_in (told_from (n + count_folds a) b)) (told-told k a n l) (told-told k b (n + count_folds a) (omega (arith, l))) y i
told-told k (Choose c a b) n l y i =
    let n1 = n + count_folds c in
    or-both k (told_in c) (told_in a ++ told_in b) (told_in (told_from n c)) (told_in (told_from n1 a) ++ told_in (told_from (n1 + count_folds a) b)) (told-told k c n l)
    (or-both k (told_in a) (told_in b) (told_in (told_from n1 a)) (told_in (told_from (n1 + count_folds a) b)) (told-told k a n1 (omega (arith, l))) (told-told k b (n1 + count_folds a) (omega (arith, l)))) y i
told-told k (Folded f h test e) n l y i = inr (⊎_elim (λ (s : y ≡ n). omega (arith, s, l)) (λ m. absurd m) i)

-- ---- names below a number

variables-under : (k : ℕ) (ts : List Target) → TargetsBelow k ts → (y : ℕ) → IsIn y (variables_of ts) → y < k
variables-under k [] b y i = absurd i
variables-under k (T.Scalar x at ∷ ts) b y i = ⊎_elim (λ (s : y ≡ x). subst (λ z. z < k) (sym s) b.0) (λ m. variables-under k ts b.1 y m) i
variables-under k (T.Property x p at ∷ ts) b y i = ⊎_elim (λ (s : y ≡ p). subst (λ z. z < k) (sym s) b.0.1) (λ m. variables-under k ts b.1 y m) i

where-among : (test : Target → Bool) (ts : List Target) → FewerIds (variables_where test ts) (variables_of ts)
where-among test [] y i = absurd i
where-among test (t ∷ ts) y i = by (test t) (where-among test ts y) i
  where
    by : (b : Bool) → (IsIn y (variables_where test ts) → IsIn y (variables_of ts)) → IsIn y (if b then written_by t ++ variables_where test ts else variables_where test ts) → IsIn y (written_by t ++ variables_of ts)
    by true rest i = ⊎_elim (λ l. in-left y (written_by t) (variables_of ts) l) (λ m. in-right y (written_by t) (variables_of ts) (rest m)) (in-either y (written_by t) (variables_where test ts) i)
    by false rest i = in-right y (written_by t) (variables_of ts) (rest i)

module _ (es : List Declaration) (outer k : ℕ) where
  -- the variables of a reduction are below the number
  record Low (r : Reduced) : Type 0 where
    variables : (y : ℕ) → IsIn y r.variables → y < k
    shared : (y : ℕ) → IsIn y r.shared → y < k

  abbrev AllLow : List Reduced → Type 0
  AllLow rs = (r : Reduced) → IsIn r rs → Low r

  low-both : (xs ys : List Reduced) → AllLow xs → AllLow ys → AllLow (xs ++ ys)
  low-both xs ys p q r i = ⊎_elim (λ l. p r l) (λ m. q r m) (in-either r xs ys i)

  reduced-low : (inner : Bool) (s : Stmt) → NamesBelow k s → AllLow (reduced es outer inner s)
  reduced-low inner (Then a b) names = low-both (reduced es outer inner a) (reduced es outer inner b) (reduced-low inner a names.0) (reduced-low inner b names.1)
  reduced-low inner (Combine key total r ts vs) names = by (are_at_once es outer inner ts)
    where
      by : (b : Bool) → AllLow (if b then [] else reduced_by es outer total.key.statement r ts ∷ [])
      by true q i = absurd i
      by false q i =
          ⊎_elim (λ (s : q ≡ reduced_by es outer total.key.statement r ts). subst Low (sym s) (record {
            variables = variables-under k ts names.0;
            shared = λ y j. variables-under k ts names.0 y (where-among (λ t. not (is_owned es outer t)) ts y j);
          })) (λ n. absurd n) i
  reduced-low inner (If key c a b) names = low-both (reduced es outer inner a) (reduced es outer inner b) (reduced-low inner a names.1) (reduced-low inner b names.2)
  reduced-low inner (Foreach key at h test body) names = reduced-low true body names.3
  reduced-low inner s names = λ r i. absurd i

  written-by-under : (t : Target) → TargetBelow k t → (y : ℕ) → IsIn y (written_by t) → y < k
  written-by-under (T.Scalar x at) b y i = ⊎_elim (λ (s : y ≡ x). subst (λ z. z < k) (sym s) b) (λ m. absurd m) i
  written-by-under (T.Property x p at) b y i = ⊎_elim (λ (s : y ≡ p). subst (λ z. z < k) (sym s) b.1) (λ m. absurd m) i

  deferred-under : (s : Stmt) → NamesBelow k s → (y : ℕ) → IsIn y (deferred s) → y < k
  deferred-under (Then a b) names y i = ⊎_elim (λ l. deferred-under a names.0 y l) (λ r. deferred-under b names.1 y r) (in-either y (deferred a) (deferred b) i)
  deferred-under (Defer key t e) names y i = written-by-under t names.0 y i
  deferred-under (If key c a b) names y i = ⊎_elim (λ l. deferred-under a names.1 y l) (λ r. deferred-under b names.2 y r) (in-either y (deferred a) (deferred b) i)
  deferred-under s names y i = absurd i

  -- ---- a body in place of another

  pub record Shared (s t : Stmt) (lo hi : ℕ) : Type 0 where
    pub seen : FewerReads (sights_of es outer false t).properties (sights_of es outer false s).properties
    pub told : OrLocal k (sights_of es outer false t).scalars (sights_of es outer false s).scalars
    pub away : FewerReads (level_reads_of es outer t) (level_reads_of es outer s)
    pub writes : OrLocal k (written es outer false t) (written es outer false s)
    pub defers : deferred t ≡ deferred s
    pub reduces : (r : Reduced) → IsIn r (reduced es outer false t) → IsIn r (reduced es outer false s) ⊎ IsOwn r lo hi
    pub agree : all_agree (reduced es outer false t) ≡ true
    pub inners : inners_share es outer t ≡ true
    pub alike : targets_alike t ≡ true

  -- a local is none of the program's variables
  own-low : (a b : Reduced) (lo hi : ℕ) → k ≤ lo → IsOwn a lo hi → Low b → agree_two a b ≡ true
  own-low a b lo hi l p q =
      apart-agree a b (disjoint-from a.variables b.variables (λ x i j.
      let s : x ≡ p.variable = ⊎_elim (λ e. e) (λ n. absurd n) (subst (IsIn x) p.is i) in
      let low = q.variables x j in let from = p.from in omega (arith, s, low, from, l)))

  low-own : (a b : Reduced) (lo hi : ℕ) → k ≤ lo → Low a → IsOwn b lo hi → agree_two a b ≡ true
  low-own a b lo hi l q p =
      apart-agree a b (disjoint-from a.variables b.variables (λ x i j.
      let s : x ≡ p.variable = ⊎_elim (λ e. e) (λ n. absurd n) (subst (IsIn x) p.is j) in
      let low = q.variables x i in let from = p.from in omega (arith, s, low, from, l)))

  -- statements of the program, or locals' reductions, agree across two parts
  across : (us vs as' bs : List Reduced) (lo mid hi : ℕ) → k ≤ lo → lo ≤ mid → ((r : Reduced) → IsIn r us → IsIn r as' ⊎ IsOwn r lo mid) → ((r : Reduced) → IsIn r vs → IsIn r bs ⊎ IsOwn r mid hi) → AllLow as' → AllLow bs → Agree as' bs → Agree us vs
  across us vs as' bs lo mid hi l m p q lows lows2 h a b i j = by (p a i) (q b j)
    where
      by : IsIn a as' ⊎ IsOwn a lo mid → IsIn b bs ⊎ IsOwn b mid hi → agree_two a b ≡ true
      by (inl x) (inl y) = h a b x y
      by (inl x) (inr y) = low-own a b mid hi (omega (arith, l, m)) (lows a x) y
      by (inr x) (inl y) = own-low a b lo mid l x (lows2 b y)
      by (inr x) (inr y) = own-apart a b lo mid hi x y

  widen : (r : Reduced) (rs : List Reduced) (lo mid hi : ℕ) → lo ≤ mid → IsIn r rs ⊎ IsOwn r mid hi → IsIn r rs ⊎ IsOwn r lo hi
  widen r rs lo mid hi l (inl i) = inl i
  widen r rs lo mid hi l (inr o) = inr (own-wider r mid hi lo hi l (omega arith) o)

  -- a statement behind the loops of an expression's reductions
  prefix-shared : (xs : List Stmt) (e : Expr) (s t : Stmt) (lo mid hi : ℕ) → k ≤ lo → lo ≤ mid → mid ≤ hi → Prefix es outer k xs e lo mid → Shared s t mid hi →
      FewerReads (reads_in e) (sights_of es outer false s).properties → FewerIds (told_in e) (sights_of es outer false s).scalars → FewerReads (level_reads_in e) (level_reads_of es outer s) → AllLow (reduced es outer false s) →
      Shared s (behind xs t) lo hi
  prefix-shared xs e s t lo mid hi l m o p q seen told away lows =
      let X = sights_of es outer false (sequence xs) in
      let Z = sights_of es outer false t in
      let sights = sights-behind es outer false t xs in
      record {
        seen = λ r i. ⊎_elim (λ a. seen r (p.seen r a)) (λ b. q.seen r b) (in-either r X.properties Z.properties (subst (λ (w : Sights). IsIn r w.properties) sights i));
        told = λ y i. ⊎_elim (λ a. inl (told y (p.told y a))) (λ b. q.told y b) (in-either y X.scalars Z.scalars (subst (λ (w : Sights). IsIn y w.scalars) sights i));
        away = λ r i. ⊎_elim (λ a. away r (p.away r a)) (λ b. q.away r b) (in-either r (level_reads_of es outer (sequence xs)) (level_reads_of es outer t) (subst (IsIn r) (levels-behind es outer xs t) i));
        writes = λ y i. ⊎_elim (λ a. inr (let z = p.writes y a in let from = z.0 in omega (arith, from, l))) (λ b. q.writes y b)
            (in-either y (written es outer false (sequence xs)) (written es outer false t) (subst (IsIn y) (written-behind es outer false t xs) i));
        defers = deferred-behind xs t ∙ ap (λ z. z ++ deferred t) p.defers ∙ q.defers;
        reduces = λ r i. ⊎_elim (λ a. inr (own-wider r lo mid lo hi (omega arith) o (p.reduces r a))) (λ b. widen r (reduced es outer false s) lo mid hi m (q.reduces r b))
            (in-either r (reduced es outer false (sequence xs)) (reduced es outer false t) (subst (IsIn r) (reduced-behind es outer false t xs) i));
        agree = ap all_agree (reduced-behind es outer false t xs)
            ∙ agree-both (reduced es outer false (sequence xs)) (reduced es outer false t) p.agree q.agree
            (across (reduced es outer false (sequence xs)) (reduced es outer false t) [] (reduced es outer false s) lo mid hi l m (λ r i. inr (p.reduces r i)) q.reduces (λ r i. absurd i) lows (λ a b i j. absurd i));
        inners = inners-behind es outer xs t p.inners q.inners;
        alike = alike-behind xs t p.alike q.alike;
      }

  -- what is asked of a body
  record Free (s : Stmt) : Type 0 where
    agree : all_agree (reduced es outer false s) ≡ true
    inners : inners_share es outer s ≡ true
    alike : targets_alike s ≡ true

  -- two parts after, or beside, each other
  two-agree : (a b a' b' : Stmt) (lo mid hi : ℕ) → k ≤ lo → lo ≤ mid → Shared a a' lo mid → Shared b b' mid hi → Agree (reduced es outer false a) (reduced es outer false b) → AllLow (reduced es outer false a) → AllLow (reduced es outer false b) →
      all_agree (reduced es outer false a' ++ reduced es outer false b') ≡ true
  two-agree a b a' b' lo mid hi l m p q h la lb =
      agree-both (reduced es outer false a') (reduced es outer false b') p.agree q.agree
      (across (reduced es outer false a') (reduced es outer false b') (reduced es outer false a) (reduced es outer false b) lo mid hi l m p.reduces q.reduces la lb h)

  two-reduces : (a b a' b' : Stmt) (lo mid hi : ℕ) → lo ≤ mid → mid ≤ hi → Shared a a' lo mid → Shared b b' mid hi → (r : Reduced) → IsIn r (reduced es outer false a' ++ reduced es outer false b') → IsIn r (reduced es outer false a ++ reduced es outer false b) ⊎ IsOwn r lo hi
  two-reduces a b a' b' lo mid hi l m p q r i =
      let as' = reduced es outer false a in
      let bs = reduced es outer false b in
      ⊎_elim (λ x. ⊎_elim (λ y. inl (in-left r as' bs y)) (λ y. inr (own-wider r lo mid lo hi (omega arith) m y)) (p.reduces r x))
      (λ x. ⊎_elim (λ y. inl (in-right r as' bs y)) (λ y. inr (own-wider r mid hi lo hi l (omega arith) y)) (q.reduces r x))
      (in-either r (reduced es outer false a') (reduced es outer false b') i)

  then-shared : (a b a' b' : Stmt) (lo mid hi : ℕ) → k ≤ lo → lo ≤ mid → mid ≤ hi → Shared a a' lo mid → Shared b b' mid hi → Agree (reduced es outer false a) (reduced es outer false b) → AllLow (reduced es outer false a) → AllLow (reduced es outer false b) → Shared (Then a b) (Then a' b') lo hi
  then-shared a b a' b' lo mid hi l m o p q h la lb = record {
    seen = reads-both (sights_of es outer false a).properties (sights_of es outer false b).properties (sights_of es outer false a').properties (sights_of es outer false b').properties p.seen q.seen;
    told = or-both k (sights_of es outer false a).scalars (sights_of es outer false b).scalars (sights_of es outer false a').scalars (sights_of es outer false b').scalars p.told q.told;
    away = reads-both (level_reads_of es outer a) (level_reads_of es outer b) (level_reads_of es outer a') (level_reads_of es outer b') p.away q.away;
    writes = or-both k (written es outer false a) (written es outer false b) (written es outer false a') (written es outer false b') p.writes q.writes;
    defers = ap (λ z. z ++ deferred b') p.defers ∙ ap (λ z. deferred a ++ z) q.defers;
    reduces = two-reduces a b a' b' lo mid hi m o p q;
    agree = two-agree a b a' b' lo mid hi l m p q h la lb;
    inners = and-true (inners_share es outer a') (inners_share es outer b') p.inners q.inners;
    alike = and-true (targets_alike a') (targets_alike b') p.alike q.alike;
  }

  -- an If, whose condition is left
  if-shared : (key : Key) (c : Expr) (n : ℕ) (a b a' b' : Stmt) (lo mid hi : ℕ) → k ≤ n → k ≤ lo → lo ≤ mid → mid ≤ hi → Shared a a' lo mid → Shared b b' mid hi → Agree (reduced es outer false a) (reduced es outer false b) → AllLow (reduced es outer false a) → AllLow (reduced es outer false b) →
      Shared (If key c a b) (If key (told_from n c) a' b') lo hi
  if-shared key c n a b a' b' lo mid hi z l m o p q h la lb =
      let A = sights_of es outer false a in
      let B = sights_of es outer false b in
      let A' = sights_of es outer false a' in
      let B' = sights_of es outer false b' in
      record {
        seen = reads-both (reads_in c) (A.properties ++ B.properties) (reads_in (told_from n c)) (A'.properties ++ B'.properties) (told-reads c n) (reads-both A.properties B.properties A'.properties B'.properties p.seen q.seen);
        told = or-both k (told_in c) (A.scalars ++ B.scalars) (told_in (told_from n c)) (A'.scalars ++ B'.scalars) (told-told k c n z) (or-both k A.scalars B.scalars A'.scalars B'.scalars p.told q.told);
        away = reads-both (level_reads_in c) (level_reads_of es outer a ++ level_reads_of es outer b) (level_reads_in (told_from n c)) (level_reads_of es outer a' ++ level_reads_of es outer b') (told-levels c n)
            (reads-both (level_reads_of es outer a) (level_reads_of es outer b) (level_reads_of es outer a') (level_reads_of es outer b') p.away q.away);
        writes = or-both k (written es outer false a) (written es outer false b) (written es outer false a') (written es outer false b') p.writes q.writes;
        defers = ap (λ z. z ++ deferred b') p.defers ∙ ap (λ z. deferred a ++ z) q.defers;
        reduces = two-reduces a b a' b' lo mid hi m o p q;
        agree = two-agree a b a' b' lo mid hi l m p q h la lb;
        inners = and-true (inners_share es outer a') (inners_share es outer b') p.inners q.inners;
        alike = and-true (targets_alike a') (targets_alike b') p.alike q.alike;
      }

  -- a statement that stays
  same-shared : (s : Stmt) (lo hi : ℕ) → Free s → Shared s s lo hi
  same-shared s lo hi f = record { seen = λ r i. i; told = λ y i. inl i; away = λ r i. i; writes = λ y i. inl i; defers = refl; reduces = λ r i. inl i; agree = f.agree; inners = f.inners; alike = f.alike }

  -- a target and a value
  value-shared : (e : Expr) (n : ℕ) (key : Key) (s : Stmt) (t : Stmt) (T : Sights) → k ≤ n → ReadsBelow k e → Deep es outer k n (count_folds e) → Free s → AllLow (reduced es outer false s) →
      sights_of es outer false s ≡ with_reads T (sights_in e) → level_reads_of es outer s ≡ level_reads_in e →
      sights_of es outer false t ≡ with_reads T (sights_in (told_from n e)) → level_reads_of es outer t ≡ level_reads_in (told_from n e) → written es outer false t ≡ written es outer false s → deferred t ≡ deferred s → reduced es outer false t ≡ reduced es outer false s → inners_share es outer t ≡ true → targets_alike t ≡ true →
      Shared s (behind (folds_set n key e) t) n (n + count_folds e)
  value-shared e n key s t T l below deep f lows s1 s2 t1 t2 w d r i a =
      let hi = n + count_folds e in
      prefix-shared (folds_set n key e) e s t n hi hi l (omega arith) (omega arith) (folds-prefix es outer k e n key l below deep)
      (record {
        seen = λ z j. subst (λ (q : Sights). IsIn z q.properties) (sym s1) (reads-both T.properties (reads_in e) T.properties (reads_in (told_from n e)) (λ z j. j) (told-reads e n) z (subst (λ (q : Sights). IsIn z q.properties) t1 j));
        told = λ y j. ⊎_elim (λ m. inl (subst (λ (q : Sights). IsIn y q.scalars) (sym s1) m)) (λ m. inr m) (or-both k T.scalars (told_in e) T.scalars (told_in (told_from n e)) (λ y j. inl j) (told-told k e n l) y (subst (λ (q : Sights). IsIn y q.scalars) t1 j));
        away = λ z j. subst (IsIn z) (sym s2) (told-levels e n z (subst (IsIn z) t2 j));
        writes = λ y j. inl (subst (IsIn y) w j);
        defers = d;
        reduces = λ z j. inl (subst (IsIn z) r j);
        agree = ap all_agree r ∙ f.agree;
        inners = i;
        alike = a;
      })
      (λ z j. subst (λ (q : Sights). IsIn z q.properties) (sym s1) (in-right z T.properties (reads_in e) j)) (λ y j. subst (λ (q : Sights). IsIn y q.scalars) (sym s1) (in-right y T.scalars (told_in e) j)) (λ z j. subst (IsIn z) (sym s2) j) lows

  abbrev nothing : Sights
  nothing = record { properties = []; scalars = [] }

  -- several values as one expression
  abbrev all_of : List Expr → Expr
  all_of [] = always
  all_of (e ∷ vs) = Both e (all_of vs)

  all-reads : (vs : List Expr) → (sights_in_all vs).properties ≡ reads_in (all_of vs)
  all-reads [] = refl
  all-reads (e ∷ vs) = ap (λ z. reads_in e ++ z) (all-reads vs)

  all-told : (vs : List Expr) → (sights_in_all vs).scalars ≡ told_in (all_of vs)
  all-told [] = refl
  all-told (e ∷ vs) = ap (λ z. told_in e ++ z) (all-told vs)

  all-levels : (vs : List Expr) → level_reads_in_all vs ≡ level_reads_in (all_of vs)
  all-levels [] = refl
  all-levels (e ∷ vs) = ap (λ z. level_reads_in e ++ z) (all-levels vs)

  all-prefix : (vs : List Expr) (lo : ℕ) (key : Key) → k ≤ lo → AllReadBelow k vs → Deep es outer k lo (count_all vs) → Prefix es outer k (all_set lo key vs) (all_of vs) lo (lo + count_all vs)
  all-prefix [] lo key l b h = record { seen = λ r i. absurd i; told = λ y i. absurd i; away = λ r i. absurd i; writes = λ y i. absurd i; defers = refl; reduces = λ r i. absurd i; agree = refl; inners = refl; alike = refl }
  all-prefix (e ∷ vs) lo key l b h =
      prefix-two es outer k (folds_set lo key e) (all_set (lo + count_folds e) key vs) e (all_of vs) (Both e (all_of vs)) lo (count_folds e) (count_all vs) refl refl refl
      (folds-prefix es outer k e lo key l b.0 (λ i p q. h i p (omega (arith, q)))) (all-prefix vs (lo + count_folds e) key (omega (arith, l)) b.1 (λ i p q. h i (omega (arith, p)) (omega (arith, q))))

  left-reads : (vs : List Expr) (n : ℕ) → FewerReads (sights_in_all (all_told n vs)).properties (sights_in_all vs).properties
  left-reads [] n r i = i
  left-reads (e ∷ vs) n r i = reads-both (reads_in e) (sights_in_all vs).properties (reads_in (told_from n e)) (sights_in_all (all_told (n + count_folds e) vs)).properties (told-reads e n) (left-reads vs (n + count_folds e)) r i

  left-told : (vs : List Expr) (n : ℕ) → k ≤ n → OrLocal k (sights_in_all (all_told n vs)).scalars (sights_in_all vs).scalars
  left-told [] n l y i = inl i
  left-told (e ∷ vs) n l y i = or-both k (told_in e) (sights_in_all vs).scalars (told_in (told_from n e)) (sights_in_all (all_told (n + count_folds e) vs)).scalars (told-told k e n l) (left-told vs (n + count_folds e) (omega (arith, l))) y i

  left-levels : (vs : List Expr) (n : ℕ) → FewerReads (level_reads_in_all (all_told n vs)) (level_reads_in_all vs)
  left-levels [] n r i = i
  left-levels (e ∷ vs) n r i = reads-both (level_reads_in e) (level_reads_in_all vs) (level_reads_in (told_from n e)) (level_reads_in_all (all_told (n + count_folds e) vs)) (told-levels e n) (left-levels vs (n + count_folds e)) r i

  combine-shared : (key : Key) (total : TotalKey) (r : Reduce) (ts : List Target) (vs : List Expr) (n : ℕ) → k ≤ n → AllReadBelow k vs → Deep es outer k n (count_all vs) → Free (Combine key total r ts vs) → AllLow (reduced es outer false (Combine key total r ts vs)) →
      Shared (Combine key total r ts vs) (behind (all_set n key vs) (Combine key total r ts (all_told n vs))) n (n + count_all vs)
  combine-shared key total r ts vs n l below deep f lows =
      let hi = n + count_all vs in
      let s = Combine key total r ts vs in
      let t = Combine key total r ts (all_told n vs) in
      let T = sights_of_targets es outer false ts in
      prefix-shared (all_set n key vs) (all_of vs) s t n hi hi l (omega arith) (omega arith) (all-prefix vs n key l below deep)
      (record {
        seen = reads-both T.properties (sights_in_all vs).properties T.properties (sights_in_all (all_told n vs)).properties (λ z j. j) (left-reads vs n);
        told = or-both k T.scalars (sights_in_all vs).scalars T.scalars (sights_in_all (all_told n vs)).scalars (λ y j. inl j) (left-told vs n l);
        away = reads-both T.properties (level_reads_in_all vs) T.properties (level_reads_in_all (all_told n vs)) (λ z j. j) (left-levels vs n);
        writes = λ y j. inl j;
        defers = refl;
        reduces = λ z j. inl j;
        agree = f.agree;
        inners = refl;
        alike = f.alike;
      })
      (λ z j. in-right z T.properties (sights_in_all vs).properties (subst (IsIn z) (sym (all-reads vs)) j)) (λ y j. in-right y T.scalars (sights_in_all vs).scalars (subst (IsIn y) (sym (all-told vs)) j))
      (λ z j. in-right z T.properties (level_reads_in_all vs) (subst (IsIn z) (sym (all-levels vs)) j)) lows

  pub body-shared : (s : Stmt) (n : ℕ) → k ≤ n → NamesBelow k s → Deep es outer k n (count_body s) → all_agree (reduced es outer false s) ≡ true → inners_share es outer s ≡ true → targets_alike s ≡ true → Shared s (body_out n s) n (n + count_body s)
  body-shared (Then a b) n l names deep agree inners alike =
      let g = agree-parts (reduced es outer false a) (reduced es outer false b) agree in
      let i = both-true (inners_share es outer a) (inners_share es outer b) inners in
      let z = both-true (targets_alike a) (targets_alike b) alike in
      let mid = n + count_body a in
      let hi = mid + count_body b in
      let more : k ≤ mid = omega (arith, l) in
      let p = body-shared a n l names.0 (λ x u v. deep x u (omega (arith, v))) g.0 i.0 z.0 in
      let q = body-shared b mid more names.1 (λ x u v. deep x (omega (arith, u)) (omega (arith, v))) g.1 i.1 z.1 in
      subst (Shared (Then a b) (Then (body_out n a) (body_out mid b)) n) (let e : (n + count_body a) + count_body b ≡ n + (count_body a + count_body b) = omega arith in e)
      (then-shared a b (body_out n a) (body_out mid b) n mid hi l (omega arith) (omega arith) p q g.2 (reduced-low false a names.0) (reduced-low false b names.1))
  body-shared (Declare key x (Some e)) n l names deep agree inners alike =
      value-shared e n key (Declare key x (Some e)) (Declare key x (Some (told_from n e))) nothing l names.1 deep (record { agree = agree; inners = inners; alike = alike }) (λ r i. absurd i) refl refl refl refl refl refl refl refl refl
  body-shared (Assign key t e) n l names deep agree inners alike =
      value-shared e n key (Assign key t e) (Assign key t (told_from n e)) (sights_of_target t) l names.1 deep (record { agree = agree; inners = inners; alike = alike }) (λ r i. absurd i) refl refl refl refl refl refl refl refl refl
  body-shared (Defer key t e) n l names deep agree inners alike =
      value-shared e n key (Defer key t e) (Defer key t (told_from n e)) (sights_of_target t) l names.1 deep (record { agree = agree; inners = inners; alike = alike }) (λ r i. absurd i) refl refl refl refl refl refl refl refl refl
  body-shared (Combine key total r ts vs) n l names deep agree inners alike =
      combine-shared key total r ts vs n l names.1 deep (record { agree = agree; inners = inners; alike = alike }) (reduced-low false (Combine key total r ts vs) names)
  body-shared (If key c a b) n l names deep agree inners alike =
      let g = agree-parts (reduced es outer false a) (reduced es outer false b) agree in
      let i = both-true (inners_share es outer a) (inners_share es outer b) inners in
      let z = both-true (targets_alike a) (targets_alike b) alike in
      let n1 = n + count_folds c in
      let n2 = n1 + count_body a in
      let hi = n2 + count_body b in
      let l1 : k ≤ n1 = omega (arith, l) in
      let l2 : k ≤ n2 = omega (arith, l) in
      let p = body-shared a n1 l1 names.1 (λ x u v. deep x (omega (arith, u)) (omega (arith, v))) g.0 i.0 z.0 in
      let q = body-shared b n2 l2 names.2 (λ x u v. deep x (omega (arith, u)) (omega (arith, v))) g.1 i.1 z.1 in
      let la = reduced-low false a names.1 in
      let lb = reduced-low false b names.2 in
      let A = sights_of es outer false a in
      let B = sights_of es outer false b in
      subst (Shared (If key c a b) (behind (folds_set n key c) (If key (told_from n c) (body_out n1 a) (body_out n2 b))) n) (let e : ((n + count_folds c) + count_body a) + count_body b ≡ n + (count_folds c + (count_body a + count_body b)) = omega arith in e)
      (prefix-shared (folds_set n key c) c (If key c a b) (If key (told_from n c) (body_out n1 a) (body_out n2 b)) n n1 hi l (omega arith) (omega arith) (folds-prefix es outer k c n key l names.0 (λ x u v. deep x u (omega (arith, v))))
      (if-shared key c n a b (body_out n1 a) (body_out n2 b) n1 n2 hi l l1 (omega arith) (omega arith) p q g.2 la lb)
      (λ r i. in-left r (reads_in c) (A.properties ++ B.properties) i) (λ y i. in-left y (told_in c) (A.scalars ++ B.scalars) i) (λ r i. in-left r (level_reads_in c) (level_reads_of es outer a ++ level_reads_of es outer b) i)
      (low-both (reduced es outer false a) (reduced es outer false b) la lb))
  body-shared s n l names deep agree inners alike = same-shared s n (n + 0) (record { agree = agree; inners = inners; alike = alike })

  -- ---- a loop

  shared-among : (rs us : List Reduced) (lo hi : ℕ) → ((r : Reduced) → IsIn r us → IsIn r rs ⊎ IsOwn r lo hi) → FewerIds (shared_in us) (shared_in rs)
  shared-among rs [] lo hi h y i = absurd i
  shared-among rs (u ∷ us) lo hi h y i =
      ⊎_elim (λ a. ⊎_elim (λ m. member rs u m y a) (λ (o : IsOwn u lo hi). absurd (subst (IsIn y) o.shared a)) (h u (inl refl))) (λ b. shared-among rs us lo hi (λ r j. h r (inr j)) y b) (in-either y u.shared (shared_in us) i)
    where
      member : (rs : List Reduced) (r : Reduced) → IsIn r rs → (y : ℕ) → IsIn y r.shared → IsIn y (shared_in rs)
      member [] r m y a = absurd m
      member (q ∷ rs) r (inl e) y a = in-left y q.shared (shared_in rs) (subst (λ (z : Reduced). IsIn y z.shared) e a)
      member (q ∷ rs) r (inr m) y a = in-right y q.shared (shared_in rs) (member rs r m y a)

  kept-among : (rs us : List Reduced) (lo hi : ℕ) → k ≤ lo → ((r : Reduced) → IsIn r us → IsIn r rs ⊎ IsOwn r lo hi) → OrLocal k (kept_in us) (kept_in rs)
  kept-among rs [] lo hi l h y i = absurd i
  kept-among rs (u ∷ us) lo hi l h y i =
      ⊎_elim (λ a. ⊎_elim (λ m. inl (member rs u m y a)) (λ (o : IsOwn u lo hi). inr (local-is o (subst (IsIn y) o.kept a))) (h u (inl refl))) (λ b. kept-among rs us lo hi l (λ r j. h r (inr j)) y b) (in-either y u.kept (kept_in us) i)
    where
      member : (rs : List Reduced) (r : Reduced) → IsIn r rs → (y : ℕ) → IsIn y r.kept → IsIn y (kept_in rs)
      member [] r m y a = absurd m
      member (q ∷ rs) r (inl e) y a = in-left y q.kept (kept_in rs) (subst (λ (z : Reduced). IsIn y z.kept) e a)
      member (q ∷ rs) r (inr m) y a = in-right y q.kept (kept_in rs) (member rs r m y a)

      local-is : (o : IsOwn u lo hi) → IsIn y (o.variable ∷ []) → k ≤ y
      local-is o j = let from = o.from in ⊎_elim (λ (s : y ≡ o.variable). omega (arith, s, from, l)) (λ n. absurd n) j

  shared-low : (rs : List Reduced) → AllLow rs → (y : ℕ) → IsIn y (shared_in rs) → y < k
  shared-low [] h y i = absurd i
  shared-low (r ∷ rs) h y i = ⊎_elim (λ a. (h r (inl refl)).shared y a) (λ b. shared-low rs (λ q j. h q (inr j)) y b) (in-either y r.shared (shared_in rs) i)

  never-both : (y : ℕ) → y < k → k ≤ y → ⊥
  never-both y a b = omega (arith, a, b)

  beside : (elsewhere elsewhere' : List ℕ) (test test' : Expr) (body body' : Stmt) (lo hi : ℕ) → k ≤ lo → NamesBelow k body → FewerIds elsewhere' elsewhere → ((y : ℕ) → IsIn y elsewhere → y < k) →
      FewerReads (reads_in test' ++ (sights_of es outer false body').properties) (reads_in test ++ (sights_of es outer false body).properties) →
      OrLocal k (told_in test' ++ (sights_of es outer false body').scalars) (told_in test ++ (sights_of es outer false body).scalars) →
      OrLocal k (written es outer false body') (written es outer false body) → deferred body' ≡ deferred body → ((r : Reduced) → IsIn r (reduced es outer false body') → IsIn r (reduced es outer false body) ⊎ IsOwn r lo hi) →
      all_agree (reduced es outer false body') ≡ true → inners_share es outer body' ≡ true → targets_alike body' ≡ true → shares_beside elsewhere es outer test body ≡ true → shares_beside elsewhere' es outer test' body' ≡ true
  beside elsewhere elsewhere' test test' body body' lo hi l names fewer low seen told writes defers reduces agree inners alike h =
      let S = with_reads (sights_in test) (sights_of es outer false body) in
      let S' = with_reads (sights_in test') (sights_of es outer false body') in
      let all = reduced es outer false body in
      let all' = reduced es outer false body' in
      let own = written es outer false body in
      let own' = written es outer false body' in
      let visible = read_anywhere S.properties ++ (S.scalars ++ own) in
      let visible' = read_anywhere S'.properties ++ (S'.scalars ++ own') in
      let h1 = both-true (disjoint (shared_in all) visible) _ h in
      let h2 = both-true (disjoint (own ++ kept_in all) elsewhere) _ h1.1 in
      let h3 = both-true (disjoint (deferred body) (own ++ (shared_in all ++ kept_in all))) _ h2.1 in
      let shared = shared-among all all' lo hi reduces in
      let kept = kept-among all all' lo hi l reduces in
      let sees : OrLocal k visible' visible = or-both k (read_anywhere S.properties) (S.scalars ++ own) (read_anywhere S'.properties) (S'.scalars ++ own') (λ y i. inl (anywhere-fewer S'.properties S.properties seen y i)) (or-both k S.scalars own S'.scalars own' told writes) in
      let changes : OrLocal k (own' ++ kept_in all') (own ++ kept_in all) = or-both k own (kept_in all) own' (kept_in all') writes kept in
      let others : OrLocal k (own' ++ (shared_in all' ++ kept_in all')) (own ++ (shared_in all ++ kept_in all)) = or-both k own (shared_in all ++ kept_in all) own' (shared_in all' ++ kept_in all') writes (or-both k (shared_in all) (kept_in all) (shared_in all') (kept_in all') (λ y i. inl (shared y i)) kept) in
      and-true (disjoint (shared_in all') visible') _
      (disjoint-from (shared_in all') visible' (λ y i j. ⊎_elim (λ a. apart-out (shared_in all) visible y h1.0 (shared y i) a) (λ b. never-both y (shared-low all (reduced-low false body names) y (shared y i)) b) (sees y j)))
      (and-true (disjoint (own' ++ kept_in all') elsewhere') _
      (disjoint-from (own' ++ kept_in all') elsewhere' (λ y i j. ⊎_elim (λ a. apart-out (own ++ kept_in all) elsewhere y h2.0 a (fewer y j)) (λ b. never-both y (low y (fewer y j)) b) (changes y i)))
      (and-true (disjoint (deferred body') (own' ++ (shared_in all' ++ kept_in all'))) _
      (disjoint-from (deferred body') (own' ++ (shared_in all' ++ kept_in all')) (λ y i j.
      let d = subst (IsIn y) defers i in
      ⊎_elim (λ a. apart-out (deferred body) (own ++ (shared_in all ++ kept_in all)) y h3.0 d a) (λ b. never-both y (deferred-under body names y d) b) (others y j)))
      (and-true (all_agree all') _ agree (and-true (inners_share es outer body') (targets_alike body') inners alike))))

  -- properties that are read are below the number
  owner-under : (t : Target) → TargetBelow k t → (r : Read) → IsIn r (sights_at_target t).properties → r.property < k
  owner-under (T.Scalar x at) b r i = absurd i
  owner-under (T.Property x p at) b r i = ⊎_elim (λ (e : r ≡ record { owner = x; property = p }). subst (λ z. z < k) (sym (ap (λ (q : Read). q.property) e)) b.1) (λ n. absurd n) i

  target-sights : (t : Target) → (sights_of_target t).properties ≡ []
  target-sights (T.Scalar x at) = refl
  target-sights (T.Property x p at) = refl

  at-targets : (r : Read) (ts : List Target) → TargetsBelow k ts → IsIn r (sights_by sights_at_target ts).properties → r.property < k
  at-targets r [] b i = absurd i
  at-targets r (t ∷ ts) b i = ⊎_elim (λ l. owner-under t b.0 r l) (λ m. at-targets r ts b.1 m) (in-either r (sights_at_target t).properties (sights_by sights_at_target ts).properties i)

  of-targets : (r : Read) (ts : List Target) → IsIn r (sights_by sights_of_target ts).properties → r.property < k
  of-targets r [] i = absurd i
  of-targets r (t ∷ ts) i = ⊎_elim (λ l. absurd (subst (IsIn r) (target-sights t) l)) (λ m. of-targets r ts m) (in-either r (sights_of_target t).properties (sights_by sights_of_target ts).properties i)

  option-under : (e : Option Expr) → MayReadBelow k e → (r : Read) → IsIn r (sights_in_option e).properties → r.property < k
  option-under None b r i = absurd i
  option-under (Some e) b r i = reads-under k e b r i

  values-under : (vs : List Expr) → AllReadBelow k vs → (r : Read) → IsIn r (sights_in_all vs).properties → r.property < k
  values-under [] b r i = absurd i
  values-under (e ∷ vs) b r i = ⊎_elim (λ l. reads-under k e b.0 r l) (λ m. values-under vs b.1 r m) (in-either r (reads_in e) (sights_in_all vs).properties i)

  target-none : (t : Target) (r : Read) → IsIn r (sights_of_target t).properties → r.property < k
  target-none t r i = absurd (subst (IsIn r) (target-sights t) i)

  targets-any : (inner : Bool) (ts : List Target) → TargetsBelow k ts → (r : Read) → IsIn r (sights_of_targets es outer inner ts).properties → r.property < k
  targets-any inner ts b r i = by (are_at_once es outer inner ts) i
    where
      by : (c : Bool) → IsIn r (sights_by (if c then sights_at_target else sights_of_target) ts).properties → r.property < k
      by true i = at-targets r ts b i
      by false i = of-targets r ts i

  pub body-under : (inner : Bool) (s : Stmt) → NamesBelow k s → (r : Read) → IsIn r (sights_of es outer inner s).properties → r.property < k
  body-under inner (Then a b) names r i = ⊎_elim (λ l. body-under inner a names.0 r l) (λ m. body-under inner b names.1 r m) (in-either r (sights_of es outer inner a).properties (sights_of es outer inner b).properties i)
  body-under inner (Declare key x e) names r i = option-under e names.1 r i
  body-under inner (Assign key t e) names r i = ⊎_elim (λ l. target-none t r l) (λ m. reads-under k e names.1 r m) (in-either r (sights_of_target t).properties (reads_in e) i)
  body-under inner (Defer key t e) names r i = ⊎_elim (λ l. target-none t r l) (λ m. reads-under k e names.1 r m) (in-either r (sights_of_target t).properties (reads_in e) i)
  body-under inner (Combine key total op ts vs) names r i = ⊎_elim (λ l. targets-any inner ts names.0 r l) (λ m. values-under vs names.1 r m) (in-either r (sights_of_targets es outer inner ts).properties (sights_in_all vs).properties i)
  body-under inner (If key c a b) names r i =
      let A = (sights_of es outer inner a).properties in
      let B = (sights_of es outer inner b).properties in
      ⊎_elim (λ l. reads-under k c names.0 r l) (λ m. ⊎_elim (λ l. body-under inner a names.1 r l) (λ m. body-under inner b names.2 r m) (in-either r A B m)) (in-either r (reads_in c) (A ++ B) i)
  body-under inner (Foreach key at h test body) names r i = ⊎_elim (λ l. reads-under k test names.2 r l) (λ m. body-under true body names.3 r m) (in-either r (reads_in test) (sights_of es outer true body).properties i)
  body-under inner s names r i = absurd i

  -- reads but at nodes of other levels are reads
  through-fewer : (x : ℕ) (rs : List Read) → FewerReads (not_through x rs) rs
  through-fewer x [] r i = i
  through-fewer x (q ∷ rs) r i = by (nat_eq q.owner x) (through-fewer x rs r) i
    where
      by : (b : Bool) → (IsIn r (not_through x rs) → IsIn r rs) → IsIn r (if b then not_through x rs else q ∷ not_through x rs) → IsIn r (q ∷ rs)
      by true rest i = inr (rest i)
      by false rest (inl e) = inl e
      by false rest (inr m) = inr (rest m)

  level-fewer : (h : Head) (rs : List Read) → FewerReads (at_level h rs) rs
  level-fewer h rs r i = by (asks_levels h.domain) i
    where
      by : (b : Bool) → IsIn r (if b then not_through h.iterator rs else rs) → IsIn r rs
      by true i = through-fewer h.iterator rs r i
      by false i = i

  levels-read : (e : Expr) → FewerReads (level_reads_in e) (reads_in e)
  levels-read (Const v) r i = i
  levels-read (Var x at) r i = i
  levels-read (Property x p at) r i = i
  levels-read (EdgeProperty x p at) r i = i
  levels-read (Degree d x at) r i = i
  levels-read NodeCount r i = i
  levels-read EdgeCount r i = i
  levels-read (Live x at) r i = i
  levels-read (Unary op at e) r i = levels-read e r i
  levels-read (Binary op at a b) r i = reads-both (reads_in a) (reads_in b) (level_reads_in a) (level_reads_in b) (levels-read a) (levels-read b) r i
  levels-read (Both a b) r i = reads-both (reads_in a) (reads_in b) (level_reads_in a) (level_reads_in b) (levels-read a) (levels-read b) r i
  levels-read (Either a b) r i = reads-both (reads_in a) (reads_in b) (level_reads_in a) (level_reads_in b) (levels-read a) (levels-read b) r i
  levels-read (Choose c a b) r i =
      reads-both (reads_in c) (reads_in a ++ reads_in b) (level_reads_in c) (level_reads_in a ++ level_reads_in b) (levels-read c) (reads-both (reads_in a) (reads_in b) (level_reads_in a) (level_reads_in b) (levels-read a) (levels-read b)) r i
  levels-read (Folded f h test e) r i = level-fewer h (reads_in test ++ reads_in e) r i

  levels-option : (e : Option Expr) → FewerReads (level_reads_in_option e) (sights_in_option e).properties
  levels-option None r i = i
  levels-option (Some e) r i = levels-read e r i

  levels-values : (vs : List Expr) → FewerReads (level_reads_in_all vs) (sights_in_all vs).properties
  levels-values [] r i = i
  levels-values (e ∷ vs) r i = reads-both (reads_in e) (sights_in_all vs).properties (level_reads_in e) (level_reads_in_all vs) (levels-read e) (levels-values vs) r i

  pub levels-among : (s : Stmt) → FewerReads (level_reads_of es outer s) (sights_of es outer false s).properties
  levels-among (Then a b) r i = reads-both (sights_of es outer false a).properties (sights_of es outer false b).properties (level_reads_of es outer a) (level_reads_of es outer b) (levels-among a) (levels-among b) r i
  levels-among (Declare key x e) r i = levels-option e r i
  levels-among (Assign key t e) r i = in-right r (sights_of_target t).properties (reads_in e) (levels-read e r i)
  levels-among (Defer key t e) r i = in-right r (sights_of_target t).properties (reads_in e) (levels-read e r i)
  levels-among (Combine key total op ts vs) r i =
      reads-both (sights_of_targets es outer false ts).properties (sights_in_all vs).properties (sights_of_targets es outer false ts).properties (level_reads_in_all vs) (λ z j. j) (levels-values vs) r i
  levels-among (If key c a b) r i =
      reads-both (reads_in c) ((sights_of es outer false a).properties ++ (sights_of es outer false b).properties) (level_reads_in c) (level_reads_of es outer a ++ level_reads_of es outer b) (levels-read c)
      (reads-both (sights_of es outer false a).properties (sights_of es outer false b).properties (level_reads_of es outer a) (level_reads_of es outer b) (levels-among a) (levels-among b)) r i
  levels-among (Foreach key at h test body) r i = level-fewer h (reads_in test ++ (sights_of es outer true body).properties) r i
  levels-among s r i = absurd i

  -- reads elsewhere are of properties below the number
  elsewhere-under : (rs : List Read) → ((r : Read) → IsIn r rs → r.property < k) → (y : ℕ) → IsIn y (read_elsewhere outer rs) → y < k
  elsewhere-under [] h y i = absurd i
  elsewhere-under (r ∷ rs) h y i = by (nat_eq r.owner outer) (elsewhere-under rs (λ q j. h q (inr j)) y) i
    where
      by : (b : Bool) → (IsIn y (read_elsewhere outer rs) → y < k) → IsIn y (if b then read_elsewhere outer rs else r.property ∷ read_elsewhere outer rs) → y < k
      by true rest i = rest i
      by false rest i = ⊎_elim (λ (e : y ≡ r.property). subst (λ z. z < k) (sym e) (h r (inl refl))) rest i

  -- ---- a loop with its filter

  module _ (n : ℕ) (key : Key) (test : Expr) (body : Stmt) (l : k ≤ n) (reads : ReadsBelow k test) (names : NamesBelow k body) (deep : Deep es outer k n (count_folds test + count_body body)) where
    abbrev test' : Expr
    test' = filter_left (has_none test) test

    abbrev body' : Stmt
    body' = opened n key test body

    abbrev hi : ℕ
    hi = n + (count_folds test + count_body body)

    abbrev S : Sights
    S = sights_of es outer false body

    -- what is known of the loop's new body
    record Opened (t : Expr) (b : Stmt) : Type 0 where
      seen : FewerReads (reads_in t ++ (sights_of es outer false b).properties) (reads_in test ++ S.properties)
      told : OrLocal k (told_in t ++ (sights_of es outer false b).scalars) (told_in test ++ S.scalars)
      away : FewerReads (reads_in t ++ level_reads_of es outer b) (reads_in test ++ level_reads_of es outer body)
      writes : OrLocal k (written es outer false b) (written es outer false body)
      defers : deferred b ≡ deferred body
      reduces : (r : Reduced) → IsIn r (reduced es outer false b) → IsIn r (reduced es outer false body) ⊎ IsOwn r n hi
      agree : all_agree (reduced es outer false b) ≡ true
      inners : inners_share es outer b ≡ true
      alike : targets_alike b ≡ true

    no-end : {A : Type 0} (y : A) (as' bs : List A) → IsIn y (as' ++ (bs ++ [])) → IsIn y (as' ++ bs)
    no-end y as' bs i = ⊎_elim (λ a. in-left y as' bs a) (λ b. in-right y as' bs (⊎_elim (λ c. c) (λ d. absurd d) (in-either y bs [] b))) (in-either y as' (bs ++ []) i)

    level-test : FewerReads (level_reads_in test ++ level_reads_of es outer body) (reads_in test ++ level_reads_of es outer body)
    level-test = reads-both (reads_in test) (level_reads_of es outer body) (level_reads_in test) (level_reads_of es outer body) (levels-read test) (λ r i. i)

    opened-so : all_agree (reduced es outer false body) ≡ true → inners_share es outer body ≡ true → targets_alike body ≡ true → Opened test' body'
    opened-so agree inners alike = by (has_none test) refl
      where
        inside : Shared body (body_out (n + count_folds test) body) (n + count_folds test) ((n + count_folds test) + count_body body)
        inside = body-shared body (n + count_folds test) (omega (arith, l)) names (λ x u v. deep x (omega (arith, u)) (omega (arith, v))) agree inners alike

        whole : Shared (If key test body Skip) (body_out n (If key test body Skip)) n (n + (count_folds test + (count_body body + 0)))
        whole =
            body-shared (If key test body Skip) n l (reads, names, tt) (λ x u v. deep x u (omega (arith, v))) (ap all_agree (append-nil (reduced es outer false body)) ∙ agree)
            (and-true (inners_share es outer body) true inners refl) (and-true (targets_alike body) true alike refl)

        by : (b : Bool) → has_none test ≡ b → Opened (filter_left b test) (under b n key test (body_out (n + count_folds test) body))
        by true none =
            let S' = sights_of es outer false (body_out (n + count_folds test) body) in
            record {
              seen = reads-both (reads_in test) S.properties (reads_in test) S'.properties (λ r i. i) inside.seen;
              told = or-both k (told_in test) S.scalars (told_in test) S'.scalars (λ y i. inl i) inside.told;
              away = reads-both (reads_in test) (level_reads_of es outer body) (reads_in test) (level_reads_of es outer (body_out (n + count_folds test) body)) (λ r i. i) inside.away;
              writes = inside.writes;
              defers = inside.defers;
              reduces = λ r i. ⊎_elim (λ a. inl a) (λ o. inr (own-wider r (n + count_folds test) ((n + count_folds test) + count_body body) n hi (omega arith) (omega arith) o)) (inside.reduces r i);
              agree = inside.agree;
              inners = inside.inners;
              alike = inside.alike;
            }
        by false some = record {
          seen = λ r i. no-end r (reads_in test) S.properties (whole.seen r i);
          told = λ y i. ⊎_elim (λ a. inl (no-end y (told_in test) S.scalars a)) (λ b. inr b) (whole.told y i);
          away = λ r i. level-test r (no-end r (level_reads_in test) (level_reads_of es outer body) (whole.away r i));
          writes = λ y i. ⊎_elim (λ a. inl (⊎_elim (λ c. c) (λ d. absurd d) (in-either y (written es outer false body) [] a))) (λ b. inr b) (whole.writes y i);
          defers = whole.defers ∙ append-nil (deferred body);
          reduces = λ r i. ⊎_elim (λ a. inl (⊎_elim (λ c. c) (λ d. absurd d) (in-either r (reduced es outer false body) [] a))) (λ o. inr (own-wider r n (n + (count_folds test + (count_body body + 0))) n hi (omega arith) (omega arith) o)) (whole.reduces r i);
          agree = whole.agree;
          inners = whole.inners;
          alike = whole.alike;
        }

    asked : (elsewhere : List ℕ) → shares_beside elsewhere es outer test body ≡ true → (all_agree (reduced es outer false body) ≡ true) × (inners_share es outer body ≡ true) × (targets_alike body ≡ true)
    asked elsewhere h =
        let h1 = both-true (disjoint (shared_in (reduced es outer false body)) (read_anywhere (reads_in test ++ S.properties) ++ ((told_in test ++ S.scalars) ++ written es outer false body))) _ h in
        let h2 = both-true (disjoint (written es outer false body ++ kept_in (reduced es outer false body)) elsewhere) _ h1.1 in
        let h3 = both-true (disjoint (deferred body) (written es outer false body ++ (shared_in (reduced es outer false body) ++ kept_in (reduced es outer false body)))) _ h2.1 in
        let h4 = both-true (all_agree (reduced es outer false body)) _ h3.1 in
        let h5 = both-true (inners_share es outer body) (targets_alike body) h4.1 in
        (h4.0, h5.0, h5.1)

    pub loop-shares : shares es outer test body ≡ true → shares es outer test' body' ≡ true
    loop-shares h =
        let a = asked (read_elsewhere outer (reads_in test ++ S.properties)) h in
        let o = opened-so a.0 a.1 a.2 in
        let S' = sights_of es outer false body' in
        beside (read_elsewhere outer (reads_in test ++ S.properties)) (read_elsewhere outer (reads_in test' ++ S'.properties)) test test' body body' n hi l names
        (elsewhere-fewer outer (reads_in test' ++ S'.properties) (reads_in test ++ S.properties) o.seen)
        (elsewhere-under (reads_in test ++ S.properties) (λ r i. ⊎_elim (λ x. reads-under k test reads r x) (λ y. body-under false body names r y) (in-either r (reads_in test) S.properties i)))
        o.seen o.told o.writes o.defers o.reduces o.agree o.inners o.alike h

    pub search-shares : search_shares es outer test body ≡ true → search_shares es outer test' body' ≡ true
    search-shares h =
        let a = asked (read_elsewhere outer (reads_in test ++ level_reads_of es outer body)) h in
        let o = opened-so a.0 a.1 a.2 in
        beside (read_elsewhere outer (reads_in test ++ level_reads_of es outer body)) (read_elsewhere outer (reads_in test' ++ level_reads_of es outer body')) test test' body body' n hi l names
        (elsewhere-fewer outer (reads_in test' ++ level_reads_of es outer body') (reads_in test ++ level_reads_of es outer body) o.away)
        (elsewhere-under (reads_in test ++ level_reads_of es outer body) (λ r i. ⊎_elim (λ x. reads-under k test reads r x) (λ y. body-under false body names r (levels-among body r y)) (in-either r (reads_in test) (level_reads_of es outer body) i)))
        o.seen o.told o.writes o.defers o.reduces o.agree o.inners o.alike h
