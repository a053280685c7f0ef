-- The lines of a program's image put to each global by one reduction in a block.
use Rattle.std.proofs.Common.{◌≡◌, ℕ, suc, Bool, true, false, Option, List, [], ◌∷◌, ◌++◌, map, length, refl, ap, ◌∙◌, sym, subst}
use Rattle.std.specs.Prelude.{◌+◌, ◌&&◌}
use Rattle.std.specs.List.{list_all, flat_map}
use Rattle.std.proofs.lemmas.Bool.{both_ways, and_from}
use Rattle.gm_value.specs.declared.reductions.Reduce.{Reduce}
use Rattle.gm_value.specs.declared.values.VType.{VType}
use Rattle.gm_value.specs.declared.values.VType.TheVariants as V
use Rattle.gm_ast.specs.declared.tree.Declaration.{Declaration}
use Rattle.gm_ast.specs.declared.tree.Key.{Key}
use Rattle.gm_ast.specs.declared.tree.Target.{Target}
use Rattle.gm_ast.specs.declared.tree.Target.TheVariants as T
use Rattle.gm_ast.specs.declared.tree.TotalKey.{TotalKey}
use Rattle.gm_ast.specs.Program as S
use Rattle.gm_ast.specs.Program.{Expr, Stmt, Program}
use Rattle.gm_forms.proofs.Named.{both-true}
use Rattle.gm_forms.specs.Sharing.{reduced, all_agree}
use Rattle.gm_forms.specs.Typing.{has_type, all_have_types, fits_targets, target_type, is_typed_in}
use Rattle.gm_forms.specs.Uses.{Use, uses_in, uses_in_all, uses_of_targets, uses_of}
use Rattle.gm_typed_stores.specs.Values.{Each}
use Rattle.gm_image.specs.Folds.{Reduction, puts_of}
use Rattle.gm_image.specs.Parts.{slots_of}
use Rattle.gm_image.specs.Program.{Line, SetField, Fold, SetRegister, Put, Send, Skip, Each as EachLine}
use Rattle.gm_image.specs.Term as M
use Rattle.gm_image.specs.Term.{Term}
use Rattle.gm_lowering.specs.Bodies as B
use Rattle.gm_lowering.specs.Bodies.{Keeping, under, else_lines, choice_by, set_line, slot_number, image_targets, kept_lines, save_lines, take_lines, paired, replacing, compared, better, saved_pairs, with_types, reduce_lines, lines_of}
use Rattle.gm_lowering.specs.Layouts.{Layout, layout, tested, is_global}
use Rattle.gm_lowering.specs.Plans.{Way, Puts, Folds, Sends, Picks, way_of, aways}
use Rattle.gm_lowering.specs.Terms.{Env, term}
use Rattle.gm_sound_lowering.specs.Types.{is_placed}
use Rattle.gm_sound_lowering.proofs.Leaves.{each-join, placed-split}
use Rattle.gm_sound_lowering.proofs.OneWay.{Combined, slotted, AreRanked, OneWay, agree-one-way}
use Rattle.gm_sound_lowering.proofs.Puts.{put_by, puts_in, puts-agree}
use Rattle.gm_sound_lowering.proofs.Reductions.{scalar-slots as slots-are-ranks, scalar-ranked}
use Rattle.gm_sound_lowering.proofs.Rowwise.{all-both}
use Rattle.gm_sound_lowering.proofs.Ways.{WayIs, way-is, scalar-slots}

abbrev pub puts : List Line → List Reduction
puts ls = flat_map puts_of ls

pub joined : {A : Type 0} (xs ys zs : List A) → xs ++ (ys ++ zs) ≡ (xs ++ ys) ++ zs
joined [] ys zs = refl
joined (x ∷ xs) ys zs = ap (λ us. x ∷ us) (joined xs ys zs)

pub nothing-behind : {A : Type 0} (xs : List A) → xs ++ [] ≡ xs
nothing-behind [] = refl
nothing-behind (x ∷ xs) = ap (λ us. x ∷ us) (nothing-behind xs)

pub puts-both : (xs ys : List Line) → puts (xs ++ ys) ≡ puts xs ++ puts ys
puts-both [] ys = refl
puts-both (x ∷ xs) ys = ap (λ us. puts_of x ++ us) (puts-both xs ys) ∙ joined (puts_of x) (puts xs) (puts ys)

pub map-both : {A B : Type 0} (f : A → B) (xs ys : List A) → map f (xs ++ ys) ≡ map f xs ++ map f ys
map-both f [] ys = refl
map-both f (x ∷ xs) ys = ap (λ us. f x ∷ us) (map-both f xs ys)

-- lines that put nothing
abbrev pub is_quiet : Line → Bool
is_quiet (Put r q ts) = false
is_quiet l = true

pub quiet-puts : (ls : List Line) → list_all is_quiet ls ≡ true → puts ls ≡ []
quiet-puts [] h = refl
quiet-puts (l ∷ ls) h = let b = both-true (is_quiet l) (list_all is_quiet ls) h in by l b.0 (quiet-puts ls b.1) where
  by : (l : Line) → is_quiet l ≡ true → puts ls ≡ [] → puts (l ∷ ls) ≡ []
  by (Put r q ts) e k = absurd (both_ways false refl e)
  by (SetField f a) e k = k
  by (Fold r q ts) e k = k
  by (SetRegister r a) e k = k
  by (Send k' to vs) e k = k
  by (Skip n a) e k = k
  by (EachLine d n) e k = k

sets-quiet : (c : Layout) (t : Target) (a : Term) → is_quiet (set_line c t a) ≡ true
sets-quiet c (T.Scalar x at) a = refl
sets-quiet c (T.Property x p at) a = refl

module _ (s : B.Site) where
  abbrev k : Keeping Line
  k = B.keeping s

  saves-quiet : (i : ℕ) (vs : List (VType × Term)) → list_all is_quiet (save_lines k i vs) ≡ true
  saves-quiet i [] = refl
  saves-quiet i (v ∷ vs) = saves-quiet (suc i) vs

  takes-quiet : (b : Term) (i : ℕ) (ts : List (VType × Target)) → list_all is_quiet (take_lines k b i ts) ≡ true
  takes-quiet b i [] = refl
  takes-quiet b i (t ∷ ts) =
      let v = M.Choose b (k.saved i t.0) (k.held t.1) in
      and_from (is_quiet (set_line s.layout t.1 v)) (list_all is_quiet (take_lines k b (suc i) ts)) (sets-quiet s.layout t.1 v) (takes-quiet b (suc i) ts)

  tuples-quiet : (r : Reduce) (ts : List (VType × Target)) (values : List Term) →
      list_all is_quiet (save_lines k 0 (paired (map (λ t. t.0) ts) values) ++ (k.save (length ts) V.Flag (replacing (better r) (saved_pairs k 0 ts)) ∷ take_lines k (k.saved (length ts) V.Flag) 0 ts)) ≡ true
  tuples-quiet r ts values =
      all-both is_quiet (save_lines k 0 (paired (map (λ t. t.0) ts) values)) (k.save (length ts) V.Flag (replacing (better r) (saved_pairs k 0 ts)) ∷ take_lines k (k.saved (length ts) V.Flag) 0 ts)
      (saves-quiet 0 (paired (map (λ t. t.0) ts) values)) (takes-quiet (k.saved (length ts) V.Flag) 0 ts)

  kept-quiet : (r : Reduce) (ts : List (VType × Target)) (values : List Term) → list_all is_quiet (kept_lines k r ts values) ≡ true
  kept-quiet r [] values = tuples-quiet r [] values
  kept-quiet r (t ∷ []) [] = tuples-quiet r (t ∷ []) []
  kept-quiet r (t ∷ []) (a ∷ []) =
      let v = M.Choose (compared (better r) a (k.held t.1)) a (k.held t.1) in and_from (is_quiet (set_line s.layout t.1 v)) true (sets-quiet s.layout t.1 v) refl
  kept-quiet r (t ∷ []) (a ∷ (b ∷ values)) = tuples-quiet r (t ∷ []) (a ∷ (b ∷ values))
  kept-quiet r (t ∷ (u ∷ ts)) values = tuples-quiet r (t ∷ (u ∷ ts)) values

-- ---- what a body puts

module _ (p : Program) where
  abbrev ds : List Declaration
  ds = p.declarations

  abbrev c : Layout
  c = layout p

  abbrev Named : List Use → Type 0
  Named us = list_all (is_placed p) us ≡ true

  abbrev put : Combined → Reduction
  put = slotted (tested p is_global) (length ds)

  pub slots-same : (f : Expr → Term) (ts : List Target) (es : List Expr) → all_have_types ds ts es ≡ true → slots_of (image_targets c ts (map f es)) ≡ map (slot_number c) ts
  slots-same f [] [] h = refl
  slots-same f (t ∷ ts) (e ∷ es) h = ap (λ xs. slot_number c t ∷ xs) (slots-same f ts es (both-true (has_type ds (target_type ds t) e) (all_have_types ds ts es) h).1)
  slots-same f [] (e ∷ es) h = absurd (both_ways false refl h)
  slots-same f (t ∷ ts) [] h = absurd (both_ways false refl h)

  module _ (env : Env) (node : ℕ) (iterators : List ℕ) (at_once : Bool) where
    abbrev s : B.Site
    s = record { layout = c; env = env; node = node; iterators = iterators; at_once = at_once }

    reduction-puts : (m : ℕ) (k : Key) (total : TotalKey) (r : Reduce) (ts : List Target) (es : List Expr) (way : Way) → WayIs p node way ts → all_have_types ds ts es ≡ true → fits_targets ds r ts ≡ true → Named (uses_of_targets ts)
        → puts (reduce_lines s m way k total r ts (map (term env k) es)) ≡ map put (put_by way r ts)
    reduction-puts m k total r [] es Puts w h f u = absurd (both_ways false refl f)
    reduction-puts m k total r (t ∷ ts) es Puts w h f u =
        ap (λ xs. record { reduce = r; slots = xs } ∷ []) (slots-same (term env k) (t ∷ ts) es h ∙ slots-are-ranks p (t ∷ ts) (scalar-slots p node (t ∷ ts) w u))
    reduction-puts m k total r ts es Folds w h f u = refl
    reduction-puts m k total r ts es Sends w h f u = refl
    reduction-puts m k total r ts es Picks w h f u = quiet-puts (kept_lines (B.keeping s) r (with_types c ts) (map (term env k) es)) (kept-quiet s r (with_types c ts) (map (term env k) es))

    choice-puts : (t : Term) (xs ys : List Line) → puts (choice_by t xs ys) ≡ puts xs ++ puts ys
    choice-puts t xs [] = sym (nothing-behind (puts xs))
    choice-puts t xs (l ∷ ls) = puts-both xs (else_lines (l ∷ ls))

    lines-put : (result : Option VType) (m : ℕ) (st : Stmt) → is_typed_in ds result st ≡ true → Named (uses_of st) → puts (lines_of s m st) ≡ map put (puts_in ds node st)
    lines-put result m (S.Then a b) h u =
        let next = m + length (aways ds node a) in
        let h2 = both-true (is_typed_in ds result a) (is_typed_in ds result b) h in
        let u2 = placed-split p (uses_of a) (uses_of b) u in
        puts-both (lines_of s m a) (lines_of s next b) ∙ ap (λ xs. xs ++ puts (lines_of s next b)) (lines-put result m a h2.0 u2.0) ∙ ap (λ xs. map put (puts_in ds node a) ++ xs) (lines-put result next b h2.1 u2.1)
        ∙ sym (map-both put (puts_in ds node a) (puts_in ds node b))
    lines-put result m (S.If k e a b) h u =
        let next = m + length (aways ds node a) in
        let h2 = both-true (is_typed_in ds result a) (is_typed_in ds result b) (both-true (has_type ds V.Flag e) (is_typed_in ds result a && is_typed_in ds result b) h).1 in
        let u2 = placed-split p (uses_of a) (uses_of b) (placed-split p (uses_in e) (uses_of a ++ uses_of b) u).1 in
        choice-puts (term env k e) (lines_of s m a) (lines_of s next b) ∙ ap (λ xs. xs ++ puts (lines_of s next b)) (lines-put result m a h2.0 u2.0) ∙ ap (λ xs. map put (puts_in ds node a) ++ xs) (lines-put result next b h2.1 u2.1)
        ∙ sym (map-both put (puts_in ds node a) (puts_in ds node b))
    lines-put result m (S.Declare k x e) h u = refl
    lines-put result m (S.Assign k (T.Scalar x at) e) h u = refl
    lines-put result m (S.Assign k (T.Property x q at) e) h u = refl
    lines-put result m (S.Combine k total r ts es) h u =
        let h2 = both-true (all_have_types ds ts es) (fits_targets ds r ts) h in
        reduction-puts m k total r ts es (way_of ds node ts) (way-is p node ts) h2.0 h2.1 (placed-split p (uses_of_targets ts) (uses_in_all es) u).0
    lines-put result m S.Skip h u = refl
    lines-put result m (S.DeclareEdge x y at) h u = refl
    lines-put result m (S.Defer k t e) h u = refl
    lines-put result m (S.Group k at x y e) h u = refl
    lines-put result m (S.Foreach k at head test body) h u = refl
    lines-put result m (S.For k at head test body) h u = refl
    lines-put result m (S.While k at test body) h u = refl
    lines-put result m (S.Do k at body test) h u = refl
    lines-put result m (S.InBfs k at how test body) h u = refl
    lines-put result m (S.InBfsBoth k at how test body back_key back_test back) h u = refl
    lines-put result m (S.Return k at e) h u = refl

  put-ranked : (node : ℕ) (r : Reduce) (ts : List Target) (way : Way) → WayIs p node way ts → Named (uses_of_targets ts) → Each (AreRanked (tested p is_global) (length ds)) (put_by way r ts)
  put-ranked node r [] Puts w u = tt
  put-ranked node r (t ∷ ts) Puts w u = (scalar-ranked p (t ∷ ts) (scalar-slots p node (t ∷ ts) w u), tt)
  put-ranked node r ts Folds w u = tt
  put-ranked node r ts Sends w u = tt
  put-ranked node r ts Picks w u = tt

  puts-ranked : (node : ℕ) (st : Stmt) → Named (uses_of st) → Each (AreRanked (tested p is_global) (length ds)) (puts_in ds node st)
  puts-ranked node (S.Then a b) u =
      let u2 = placed-split p (uses_of a) (uses_of b) u in each-join (AreRanked (tested p is_global) (length ds)) (puts_in ds node a) (puts_in ds node b) (puts-ranked node a u2.0) (puts-ranked node b u2.1)
  puts-ranked node (S.If k e a b) u =
      let u2 = placed-split p (uses_of a) (uses_of b) (placed-split p (uses_in e) (uses_of a ++ uses_of b) u).1 in each-join (AreRanked (tested p is_global) (length ds)) (puts_in ds node a) (puts_in ds node b) (puts-ranked node a u2.0) (puts-ranked node b u2.1)
  puts-ranked node (S.Combine k total r ts es) u = put-ranked node r ts (way_of ds node ts) (way-is p node ts) (placed-split p (uses_of_targets ts) (uses_in_all es) u).0
  puts-ranked node _ u = tt

  -- the lines of a body put one way
  pub body-one-way : (n node : ℕ) (inner : Bool) (env : Env) (iterators : List ℕ) (at_once : Bool) (result : Option VType) (m : ℕ) (st : Stmt) → is_typed_in ds result st ≡ true → Named (uses_of st) → all_agree (reduced ds n inner st) ≡ true
      → OneWay [] (puts (lines_of (record { layout = c; env = env; node = node; iterators = iterators; at_once = at_once }) m st))
  body-one-way n node inner env iterators at_once result m st h u a =
      subst (OneWay []) (sym (lines-put env node iterators at_once result m st h u))
      (agree-one-way (tested p is_global) (length ds) [] (puts_in ds node st) tt (puts-ranked node st u) tt (puts-agree p n node inner st a))
