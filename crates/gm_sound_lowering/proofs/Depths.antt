-- How deep the expressions of a program's image are.
use Rattle.std.proofs.Common.{◌≡◌, ◌≤◌, ℕ, suc, Bool, true, false, Some, None, List, [], ◌∷◌, ◌++◌, map, length, refl, arith}
use Rattle.std.specs.Prelude.{◌+◌, ◌&&◌, max, if◌then◌else◌}
use Rattle.std.specs.List.{list_all}
use Rattle.std.proofs.lemmas.Bool.{and_from, leb-true, le-leb}
use Rattle.std.proofs.lemmas.List.{length-map}
use Rattle.gm_value.specs.declared.reductions.Reduce.{Reduce}
use Rattle.gm_value.specs.declared.values.VType.{VType}
use Rattle.gm_value.specs.declared.values.VType.TheVariants as V
use Rattle.gm_value.specs.declared.operations.Op2.{Op2}
use Rattle.gm_value.specs.declared.operations.Op2.TheVariants as two
use Rattle.gm_ast.specs.declared.tree.Declaration.{Declaration}
use Rattle.gm_ast.specs.declared.tree.Direction.{Direction}
use Rattle.gm_ast.specs.declared.tree.Key.{Key}
use Rattle.gm_ast.specs.declared.tree.Target.{Target}
use Rattle.gm_ast.specs.declared.tree.Target.TheVariants as T
use Rattle.gm_ast.specs.declared.tree.TotalKey.{TotalKey}
use Rattle.gm_ast.specs.Program as S
use Rattle.gm_ast.specs.Program.{Expr, Stmt}
use Rattle.gm_ast.specs.Ways.{is_in}
use Rattle.gm_depth.specs.Depths as E
use Rattle.gm_depth.specs.Depths.{is_within, may_be_within, are_within, all_within}
use Rattle.gm_forms.proofs.Named.{both-true}
use Rattle.gm_typed_stores.specs.Values.{Each}
use Rattle.gm_image.specs.Parts.{depth, is_shallow, line_terms, terms_of}
use Rattle.gm_image.specs.Program.{Line, Fold, SetRegister, Put, Send, Skip}
use Rattle.gm_image.specs.Term as M
use Rattle.gm_image.specs.Term.{Term}
use Rattle.gm_lowering.specs.Bodies as B
use Rattle.gm_lowering.specs.Bodies.{Keeping, under, else_lines, choice_by, set_line, image_targets, target_node, fold_place, kept_lines, save_lines, take_lines, paired, replacing, compared, better, saved_pairs, with_types, reduce_lines, lines_of}
use Rattle.gm_lowering.specs.Layouts.{Layout}
use Rattle.gm_lowering.specs.Plans.{Way, Puts, Folds, Sends, Picks, way_of, aways}
use Rattle.gm_lowering.specs.Terms.{Env, term}
use Rattle.gm_sound_lowering.specs.Entries.{has_few, are_few, keeps_few}
use Rattle.gm_sound_lowering.proofs.Rowwise.{all-both}

pub low : (a : Term) → depth a ≤ 1024 → is_shallow a ≡ true
low a h = le-leb (depth a) 1024 h

pub one-low : (a : Term) → depth a ≤ 1024 → list_all is_shallow (a ∷ []) ≡ true
one-low a h = and_from (is_shallow a) true (low a h) refl

-- no term of a line is too deep
abbrev pub is_low : Line → Bool
is_low l = list_all is_shallow (line_terms l)

-- ---- numbers

below : (a b x y : ℕ) → x ≤ suc a → y ≤ suc b → suc (max x y) ≤ suc (suc (max a b))
below a b x y h k = omega (arith, h, k)

-- ---- terms

-- where the leaves of expressions are leaves of terms
pub record IsFlatEnv (v : Env) : Type 0 where
  pub scalar : (x : ℕ) → depth (v.scalar x) ≤ 1
  pub property : (x q : ℕ) → depth (v.property x q) ≤ 1
  pub degree : (d : Direction) (x : ℕ) → depth (v.degree d x) ≤ 1
  pub edge : (q : ℕ) → depth (v.edge q) ≤ 1

-- a term has a level more at most, where a variable is checked
pub term-depth : (v : Env) → IsFlatEnv v → (k : Key) (e : Expr) → depth (term v k e) ≤ suc (E.depth e)
term-depth v h k (S.Const c) = omega arith
term-depth v h k (S.Var x at) = let l = h.scalar x in omega (arith, l)
term-depth v h k (S.Property x q at) = let l = h.property x q in omega (arith, l)
term-depth v h k (S.EdgeProperty x q at) = let l = h.edge q in omega (arith, l)
term-depth v h k (S.Degree d x at) = let l = h.degree d x in omega (arith, l)
term-depth v h k S.NodeCount = omega arith
term-depth v h k S.EdgeCount = omega arith
term-depth v h k (S.Live x at) = let l = h.scalar x in omega (arith, l)
term-depth v h k (S.Unary op at a) = let l = term-depth v h k a in omega (arith, l)
term-depth v h k (S.Binary op at a b) = below (E.depth a) (E.depth b) (depth (term v k a)) (depth (term v k b)) (term-depth v h k a) (term-depth v h k b)
term-depth v h k (S.Both a b) = below (E.depth a) (E.depth b) (depth (term v k a)) (depth (term v k b)) (term-depth v h k a) (term-depth v h k b)
term-depth v h k (S.Either a b) = below (E.depth a) (E.depth b) (depth (term v k a)) (depth (term v k b)) (term-depth v h k a) (term-depth v h k b)
term-depth v h k (S.Choose c a b) =
    let x = term-depth v h k c in
    let y = term-depth v h k a in
    let z = term-depth v h k b in
    omega (arith, x, y, z)
term-depth v h k (S.Folded fold head c a) = omega arith

module _ (limit : ℕ) where
  -- a term is that of an expression within the limit
  abbrev pub Low : Term → Type 0
  Low a = depth a ≤ suc limit

  pub term-low : (v : Env) → IsFlatEnv v → (k : Key) (e : Expr) → is_within limit e ≡ true → Low (term v k e)
  term-low v h k e w = let l = term-depth v h k e in let m = leb-true (E.depth e) limit w in omega (arith, l, m)

  pub all-low : (v : Env) → IsFlatEnv v → (k : Key) (es : List Expr) → are_within limit es ≡ true → Each Low (map (term v k) es)
  all-low v h k [] w = tt
  all-low v h k (e ∷ es) w = let b = both-true (is_within limit e) (are_within limit es) w in (term-low v h k e b.0, all-low v h k es b.1)

  module _ (room : limit + 3 ≤ 1024) where
    pub low-term : (a : Term) → Low a → is_shallow a ≡ true
    low-term a h = low a (omega (arith, h, room))

    pub low-terms : (xs : List Term) → Each Low xs → list_all is_shallow xs ≡ true
    low-terms [] h = refl
    low-terms (a ∷ xs) h = and_from (is_shallow a) (list_all is_shallow xs) (low-term a h.0) (low-terms xs h.1)

    -- ---- what is kept at once

    module _ {L : Type 0} (k : Keeping L) (good : L → Bool) (set : (t : Target) (a : Term) → depth a ≤ 1024 → good (k.set t a) ≡ true) (save : (i : ℕ) (t : VType) (a : Term) → depth a ≤ 1024 → good (k.save i t a) ≡ true)
        (held : (t : Target) → depth (k.held t) ≤ 1) (saved : (i : ℕ) (t : VType) → depth (k.saved i t) ≤ 1) where
      saves : (i : ℕ) (types : List VType) (values : List Term) → Each Low values → list_all good (save_lines k i (paired types values)) ≡ true
      saves i [] values h = refl
      saves i (t ∷ types) [] h = refl
      saves i (t ∷ types) (a ∷ values) h =
          let l = h.0 in and_from (good (k.save i t a)) (list_all good (save_lines k (suc i) (paired types values))) (save i t a (omega (arith, l, room))) (saves (suc i) types values h.1)

      takes : (b : Term) (i : ℕ) (ts : List (VType × Target)) → depth b ≤ 1 → list_all good (take_lines k b i ts) ≡ true
      takes b i [] h = refl
      takes b i (t ∷ ts) h =
          let v = M.Choose b (k.saved i t.0) (k.held t.1) in
          let x = saved i t.0 in
          let y = held t.1 in
          and_from (good (k.set t.1 v)) (list_all good (take_lines k b (suc i) ts)) (set t.1 v (omega (arith, h, x, y))) (takes b (suc i) ts h)

      replaces : (op : Op2) (i : ℕ) (ts : List (VType × Target)) → depth (replacing op (saved_pairs k i ts)) ≤ suc (length ts + length ts)
      replaces op i [] = omega arith
      replaces op i (t ∷ []) = let x = saved i t.0 in let y = held t.1 in omega (arith, x, y)
      replaces op i (t ∷ (u ∷ ts)) =
          let x = saved i t.0 in
          let y = held t.1 in
          let z = replaces two.Lt (suc i) (u ∷ ts) in
          further (depth (k.saved i t.0)) (depth (k.held t.1)) (depth (replacing two.Lt (saved_pairs k (suc i) (u ∷ ts)))) (length ts) x y z where
            further : (a b r n : ℕ) → a ≤ 1 → b ≤ 1 → r ≤ suc (suc n + suc n) → suc (max (suc (max a b)) (suc (max (suc (suc (max b a))) r))) ≤ suc (suc (suc n) + suc (suc n))
            further a b r n x y z = omega (arith, x, y, z)

      tuples : (r : Reduce) (ts : List (VType × Target)) (values : List Term) → length ts ≤ 511 → Each Low values →
          list_all good (save_lines k 0 (paired (map (λ t. t.0) ts) values) ++ (k.save (length ts) V.Flag (replacing (better r) (saved_pairs k 0 ts)) ∷ take_lines k (k.saved (length ts) V.Flag) 0 ts)) ≡ true
      tuples r ts values few h =
          let z = replaces (better r) 0 ts in
          all-both good (save_lines k 0 (paired (map (λ t. t.0) ts) values)) (k.save (length ts) V.Flag (replacing (better r) (saved_pairs k 0 ts)) ∷ take_lines k (k.saved (length ts) V.Flag) 0 ts)
          (saves 0 (map (λ t. t.0) ts) values h)
          (and_from (good (k.save (length ts) V.Flag (replacing (better r) (saved_pairs k 0 ts)))) (list_all good (take_lines k (k.saved (length ts) V.Flag) 0 ts))
          (save (length ts) V.Flag (replacing (better r) (saved_pairs k 0 ts)) (omega (arith, few, z))) (takes (k.saved (length ts) V.Flag) 0 ts (saved (length ts) V.Flag)))

      pub kept-low : (r : Reduce) (ts : List (VType × Target)) (values : List Term) → length ts ≤ 511 → Each Low values → list_all good (kept_lines k r ts values) ≡ true
      kept-low r [] values few h = tuples r [] values few h
      kept-low r (t ∷ []) [] few h = tuples r (t ∷ []) [] few h
      kept-low r (t ∷ []) (a ∷ []) few h =
          let v = M.Choose (compared (better r) a (k.held t.1)) a (k.held t.1) in
          let x = h.0 in
          let y = held t.1 in
          and_from (good (k.set t.1 v)) true (set t.1 v (omega (arith, x, y, room))) refl
      kept-low r (t ∷ []) (a ∷ (b ∷ values)) few h = tuples r (t ∷ []) (a ∷ (b ∷ values)) few h
      kept-low r (t ∷ (u ∷ ts)) values few h = tuples r (t ∷ (u ∷ ts)) values few h

    pub few-kept : (c : Layout) (ts : List Target) → has_few ts ≡ true → length (with_types c ts) ≤ 511
    few-kept c ts h = let e : length (with_types c ts) ≡ length ts = length-map ts _ in let l = leb-true (length ts) 511 h in omega (arith, e, l)

    -- ---- the lines of a body

    sets-low : (c : Layout) (t : Target) (a : Term) → depth a ≤ 1024 → is_low (set_line c t a) ≡ true
    sets-low c (T.Scalar x at) a h = one-low a h
    sets-low c (T.Property x q at) a h = one-low a h

    pub held-low : (v : Env) → IsFlatEnv v → (t : Target) → depth (B.held_term v t) ≤ 1
    held-low v h (T.Scalar x at) = h.scalar x
    held-low v h (T.Property x q at) = h.property x q

    module _ (s : B.Site) (flat : IsFlatEnv s.env) where
      abbrev ds : List Declaration
      ds = s.layout.declarations

      targets-low : (ts : List Target) (values : List Term) → Each Low values → list_all is_shallow (terms_of (image_targets s.layout ts values)) ≡ true
      targets-low [] values h = refl
      targets-low (t ∷ ts) [] h = refl
      targets-low (t ∷ ts) (a ∷ values) h = and_from (is_shallow a) (list_all is_shallow (terms_of (image_targets s.layout ts values))) (low-term a h.0) (targets-low ts values h.1)

      node-low : (k : Key) (ts : List Target) → depth (target_node s k ts) ≤ 2
      node-low k [] = omega arith
      node-low k (T.Scalar x at ∷ ts) = node-low k ts
      node-low k (T.Property x q at ∷ ts) = let l = flat.scalar x in by (is_in s.iterators x) l where
        by : (b : Bool) → depth (s.env.scalar x) ≤ 1 → depth (if b then s.env.scalar x else M.Live (s.env.place k at) (s.env.scalar x)) ≤ 2
        by true l = omega (arith, l)
        by false l = omega (arith, l)

      reduction-low : (m : ℕ) (k : Key) (total : TotalKey) (r : Reduce) (ts : List Target) (values : List Term) (way : Way) → are_few way ts ≡ true → Each Low values → list_all is_low (reduce_lines s m way k total r ts values) ≡ true
      reduction-low m k total r ts values Puts f h = and_from (is_low (Put r (s.env.place total.key total.place) (image_targets s.layout ts values))) true (targets-low ts values h) refl
      reduction-low m k total r ts values Folds f h = and_from (is_low (Fold r (fold_place s k total) (image_targets s.layout ts values))) true (targets-low ts values h) refl
      reduction-low m k total r ts values Sends f h =
          let l = node-low k ts in
          and_from (is_low (Send m (target_node s k ts) values)) true (and_from (is_shallow (target_node s k ts)) (list_all is_shallow values) (low (target_node s k ts) (omega (arith, l))) (low-terms values h)) refl
      reduction-low m k total r ts values Picks f h =
          kept-low (B.keeping s) is_low (sets-low s.layout) (λ i t a l. one-low a l) (held-low s.env flat) (λ i t. omega arith) r (with_types s.layout ts) values (few-kept s.layout ts f) h

      else-low : (ls : List Line) → list_all is_low ls ≡ true → list_all is_low (else_lines ls) ≡ true
      else-low [] h = refl
      else-low (l ∷ ls) h = h

      choice-low : (t : Term) (xs ys : List Line) → Low t → list_all is_low xs ≡ true → list_all is_low ys ≡ true → list_all is_low (choice_by t xs ys) ≡ true
      choice-low t xs [] e h g = and_from (is_low (Skip (length xs) t)) (list_all is_low xs) (low-terms (t ∷ []) (e, tt)) h
      choice-low t xs (l ∷ ls) e h g =
          and_from (is_low (Skip (suc (length xs)) t)) (list_all is_low (xs ++ else_lines (l ∷ ls))) (low-terms (t ∷ []) (e, tt)) (all-both is_low xs (else_lines (l ∷ ls)) h (else-low (l ∷ ls) g))

      set-low : (t : Target) (a : Term) → Low a → list_all is_low (set_line s.layout t a ∷ []) ≡ true
      set-low t a h = and_from (is_low (set_line s.layout t a)) true (sets-low s.layout t a (omega (arith, h, room))) refl

      pub lines-low : (m : ℕ) (st : Stmt) → all_within limit st ≡ true → keeps_few ds s.node st ≡ true → list_all is_low (lines_of s m st) ≡ true
      lines-low m (S.Then a b) w f =
          let next = m + length (aways ds s.node a) in
          let w2 = both-true (all_within limit a) (all_within limit b) w in
          let f2 = both-true (keeps_few ds s.node a) (keeps_few ds s.node b) f in
          all-both is_low (lines_of s m a) (lines_of s next b) (lines-low m a w2.0 f2.0) (lines-low next b w2.1 f2.1)
      lines-low m (S.Declare k x None) w f = refl
      lines-low m (S.Declare k x (Some e)) w f = and_from (is_low (SetRegister (s.layout.register x) (term s.env k e))) true (low-terms (term s.env k e ∷ []) (term-low s.env flat k e w, tt)) refl
      lines-low m (S.Assign k t e) w f = set-low t (term s.env k e) (term-low s.env flat k e w)
      lines-low m (S.Combine k total r ts es) w f = reduction-low m k total r ts (map (term s.env k) es) (way_of ds s.node ts) f (all-low s.env flat k es w)
      lines-low m (S.If k e a b) w f =
          let next = m + length (aways ds s.node a) in
          let w2 = both-true (is_within limit e) (all_within limit a && all_within limit b) w in
          let w3 = both-true (all_within limit a) (all_within limit b) w2.1 in
          let f2 = both-true (keeps_few ds s.node a) (keeps_few ds s.node b) f in
          choice-low (term s.env k e) (lines_of s m a) (lines_of s next b) (term-low s.env flat k e w2.0) (lines-low m a w3.0 f2.0) (lines-low next b w3.1 f2.1)
      lines-low m _ w f = refl
