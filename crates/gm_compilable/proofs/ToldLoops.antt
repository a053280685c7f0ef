-- The passes that make loops of reductions and searches keep what may be told.
use Rattle.std.proofs.Common.{◌≡◌, ◌≤◌, ◌+◌, ℕ, suc, Bool, true, false, cond, List, [], ◌∷◌, ◌++◌, map, refl, arith, Option, Some, None}
use Rattle.std.specs.Prelude.{◌&&◌, option_map, pos}
use Rattle.std.proofs.lemmas.Bool.{both_ways}
use Rattle.gm_base.specs.declared.places.Place.{Place}
use Rattle.gm_value.specs.declared.reductions.Reduce.TheVariants as R
use Rattle.gm_value.specs.declared.values.VType.{VType}
use Rattle.gm_value.specs.declared.values.VType.TheVariants as V
use Rattle.gm_value.specs.Numbers.{value_at}
use Rattle.gm_value.specs.Reductions.{unit_of, reduces}
use Rattle.gm_ast.specs.declared.surface.ReductionWord.{ReductionWord}
use Rattle.gm_ast.specs.declared.surface.ReductionWord.TheVariants as W
use Rattle.gm_ast.specs.declared.surface.ReductionWord.TheVariants.{Count}
use Rattle.gm_ast.specs.declared.tree.Domain.{Domain}
use Rattle.gm_ast.specs.declared.tree.Domain.TheVariants.{Nodes, OutNbrs, InNbrs, UpNbrs, DownNbrs}
use Rattle.gm_ast.specs.declared.tree.Fold.{Fold}
use Rattle.gm_ast.specs.declared.tree.Head.{Head}
use Rattle.gm_ast.specs.declared.tree.Key.{Key}
use Rattle.gm_ast.specs.declared.tree.Search.{Search}
use Rattle.gm_ast.specs.declared.tree.Target.{Target}
use Rattle.gm_ast.specs.declared.tree.Target.TheVariants as T
use Rattle.gm_ast.specs.Program.{Expr, Const, Var, Property, EdgeProperty, Degree, NodeCount, EdgeCount, Live, Unary, Binary, Both, Either, Choose, Folded, Stmt, Skip, Then, Declare, Assign, Defer, Combine, Foreach, For, If, While, Do, InBfs, InBfsBoth}
use Rattle.gm_semantics.specs.Expressions.{reduce_of}
use Rattle.gm_reductions.specs.Folds.{unit_for, given, assigned_out, declared_out, folds_out}
use Rattle.gm_reductions.specs.Folds as Folds
use Rattle.gm_hoisting.specs.Hoisting.{count_folds, has_none, key_eq, joins, passing, giving, is_bare, placed_if, placed, fold_set, folds_set, all_set, told_from, all_told, behind, count_body, body_out, filter_left, under, opened, is_sure, root_checked, count_check, count_loop, count_phase, phase_out}
use Rattle.gm_bfs.specs.declared.fresh.Fresh.{Fresh}
use Rattle.gm_bfs.specs.declared.fresh.Site.{Site}
use Rattle.gm_bfs.specs.Copies.{copied, asks_up, asks_down, reading, inner_reading}
use Rattle.gm_bfs.specs.Searches.{over_nodes, at_node, begin, next_level, level_before, reach, copies_from, unless_empty, copy, is_always, conjunction, is_on, ranged, inner_loop, by_levels, is_idle, is_safe, visit, where_asked, first_where, forward, backward, site_of}
use Rattle.gm_bfs.specs.Levelled.{searches_out}
use Rattle.gm_sound_lowering.specs.Asked.{is_plain_constant}
use Rattle.gm_compilable.proofs.Telling.{Tells, MayTell, AllTell, Body, Bodies, bodies-both, sequence-body, Phase, tells-more}

-- ---- constants

number-plain : (t : VType) → reduces R.Sum t ≡ true → is_plain_constant (value_at t (pos 1)) ≡ true
number-plain V.I32 h = refl
number-plain V.I64 h = refl
number-plain V.Flag h = refl
number-plain V.Node h = absurd (both_ways false refl h)

unit-of-plain : (w : ReductionWord) (t : VType) → reduces (reduce_of w) t ≡ true → is_plain_constant (value_at t (unit_of (reduce_of w) t)) ≡ true
unit-of-plain w V.I32 h = refl
unit-of-plain w V.I64 h = refl
unit-of-plain w V.Flag h = refl
unit-of-plain W.Max V.Node h = refl
unit-of-plain W.Sum V.Node h = absurd (both_ways false refl h)
unit-of-plain W.Product V.Node h = absurd (both_ways false refl h)
unit-of-plain W.Min V.Node h = absurd (both_ways false refl h)
unit-of-plain W.Count V.Node h = absurd (both_ways false refl h)
unit-of-plain W.Exist V.Node h = absurd (both_ways false refl h)
unit-of-plain W.All V.Node h = absurd (both_ways false refl h)

abbrev Fits : Fold → Type 0
Fits f = reduces (reduce_of f.word) f.vtype ≡ true

unit-plain : (f : Fold) → Fits f → is_plain_constant (unit_for f) ≡ true
unit-plain f h = unit-of-plain f.word f.vtype h

-- ---- reductions of a sequential phase

module _ (told : ℕ → Type 0) where
  given-tells : (word : ReductionWord) (f : Fold) (x : ℕ) (e : Expr) → reduces (reduce_of word) f.vtype ≡ true → Tells told e → Body told (given word f x e)
  given-tells Count f x e n h = (h, ((number-plain f.vtype n, tt), tt))
  given-tells word f x e n h = (h, tt)

module _ (fors out : ℕ → Type 0) (inn : ℕ → ℕ → Type 0) (wider : (n x : ℕ) → out x → inn n x) where
  looped-told : (first : Stmt) (x : ℕ) (f : Fold) (hd : Head) (test e : Expr) → Phase fors out inn first → Tells out (Folded f hd test e) → Phase fors out inn (Folds.looped first x f hd test e)
  looped-told first x f hd test e a h =
      let i = hd.iterator in (a, ((tells-more out (inn i) (wider i) test h.1.0, given-tells (inn i) f.word f x e h.0 (tells-more out (inn i) (wider i) e h.1.1)), tt))

  assigned-told : (k : Key) (t : Target) (e : Expr) → Tells out e → Phase fors out inn (assigned_out k t e)
  assigned-told k (T.Scalar x at) (Folded f hd test e) h = looped-told (Assign k (T.Scalar x at) (Const (unit_for f))) x f hd test e (unit-plain f h.0) h
  assigned-told k t e h = h

  declared-told : (k : Key) (x : ℕ) (e : Option Expr) → MayTell out e → Phase fors out inn (declared_out k x e)
  declared-told k x (Some (Folded f hd test e)) h = looped-told (Declare k x (Some (Const (unit_for f)))) x f hd test e (unit-plain f h.0) h
  declared-told k x e h = h

  pub folds-told : (s : Stmt) → Phase fors out inn s → Phase fors out inn (folds_out s)
  folds-told (Then a b) h = (folds-told a h.0, folds-told b h.1)
  folds-told (Declare k x e) h = declared-told k x e h
  folds-told (Assign k t e) h = assigned-told k t e h
  folds-told (For k at hd test s) h = (h.0, (h.1.0, folds-told s h.1.1))
  folds-told (If k c a b) h = (h.0, (folds-told a h.1.0, folds-told b h.1.1))
  folds-told (While k at c s) h = (h.0, folds-told s h.1)
  folds-told (Do k at s c) h = (folds-told s h.0, h.1)
  folds-told s h = h

-- ---- reductions of parallel loops and searches, onto locals behind the inputs

module _ (told : ℕ → Type 0) (bound : ℕ) (far : (x : ℕ) → bound ≤ x → told x) where
  told-tells : (e : Expr) (n : ℕ) → bound ≤ n → Tells told e → Tells told (told_from n e)
  told-tells (Unary op at e) n low h = told-tells e n low h
  told-tells (Binary op at a b) n low h = (told-tells a n low h.0, told-tells b (n + count_folds a) (omega (arith, low)) h.1)
  told-tells (Both a b) n low h = (told-tells a n low h.0, told-tells b (n + count_folds a) (omega (arith, low)) h.1)
  told-tells (Either a b) n low h = (told-tells a n low h.0, told-tells b (n + count_folds a) (omega (arith, low)) h.1)
  told-tells (Choose c a b) n low h =
      (told-tells c n low h.0, (told-tells a (n + count_folds c) (omega (arith, low)) h.1.0, told-tells b ((n + count_folds c) + count_folds a) (omega (arith, low)) h.1.1))
  told-tells (Folded f hd test e) n low h = far n low
  told-tells e n low h = h

  all-told-tell : (n : ℕ) (es : List Expr) → bound ≤ n → AllTell told es → AllTell told (all_told n es)
  all-told-tell n [] low h = tt
  all-told-tell n (e ∷ es) low h = (told-tells e n low h.0, all-told-tell (n + count_folds e) es (omega (arith, low)) h.1)

  passing-tells : (joined : Bool) (test e : Expr) → Tells told test → Tells told e → Tells told (passing joined test e)
  passing-tells true test e h k = (h, k)
  passing-tells false test e h k = h

  giving-tells : (word : ReductionWord) (x : ℕ) (f : Fold) (e : Expr) → reduces (reduce_of word) f.vtype ≡ true → Tells told e → Body told (giving (joins word f) word x f e)
  giving-tells Count x f e n h = by (key_eq f.filter f.body)
    where
      by : (joined : Bool) → Body told (giving joined Count x f e)
      by true = (number-plain f.vtype n, tt)
      by false = (h, ((number-plain f.vtype n, tt), tt))
  giving-tells word x f e n h = (h, tt)

  fold-tells : (n : ℕ) (k : Key) (f : Fold) (hd : Head) (test e : Expr) → Fits f → Tells told test → Tells told e → Bodies told (fold_set n k f hd test e)
  fold-tells n k f hd test e b h g = (unit-plain f b, ((passing-tells (joins f.word f) test e h g, giving-tells f.word n f e b g), tt))

  placed-fits : (f : Fold) (hd : Head) (test e : Expr) → Fits f → Fits (placed f hd test e)
  placed-fits f hd test e h = by (is_bare f e)
    where
      by : (bare : Bool) → Fits (placed_if bare f hd test)
      by true = h
      by false = h

  two-folds : (a b : Expr) (n m : ℕ) (k : Key) → Bodies told (folds_set n k a) → Bodies told (folds_set m k b) → Bodies told (folds_set n k a ++ folds_set m k b)
  two-folds a b n m k x y = bodies-both told (folds_set n k a) (folds_set m k b) x y

  folds-tell : (e : Expr) (n : ℕ) (k : Key) → Tells told e → Bodies told (folds_set n k e)
  folds-tell (Const v) n k h = tt
  folds-tell (Var x at) n k h = tt
  folds-tell (Property x p at) n k h = tt
  folds-tell (EdgeProperty x p at) n k h = tt
  folds-tell (Degree d x at) n k h = tt
  folds-tell NodeCount n k h = tt
  folds-tell EdgeCount n k h = tt
  folds-tell (Live x at) n k h = tt
  folds-tell (Unary op at e) n k h = folds-tell e n k h
  folds-tell (Binary op at a b) n k h = two-folds a b n (n + count_folds a) k (folds-tell a n k h.0) (folds-tell b (n + count_folds a) k h.1)
  folds-tell (Both a b) n k h = two-folds a b n (n + count_folds a) k (folds-tell a n k h.0) (folds-tell b (n + count_folds a) k h.1)
  folds-tell (Either a b) n k h = two-folds a b n (n + count_folds a) k (folds-tell a n k h.0) (folds-tell b (n + count_folds a) k h.1)
  folds-tell (Choose c a b) n k h =
      let m = n + count_folds c in
      bodies-both told (folds_set n k c) (folds_set m k a ++ folds_set (m + count_folds a) k b) (folds-tell c n k h.0)
      (two-folds a b m (m + count_folds a) k (folds-tell a m k h.1.0) (folds-tell b (m + count_folds a) k h.1.1))
  folds-tell (Folded f hd test e) n k h = fold-tells n k (placed f hd test e) hd test e (placed-fits f hd test e h.0) h.1.0 h.1.1

  all-folds-tell : (n : ℕ) (k : Key) (es : List Expr) → AllTell told es → Bodies told (all_set n k es)
  all-folds-tell n k [] h = tt
  all-folds-tell n k (e ∷ es) h = bodies-both told (folds_set n k e) (all_set (n + count_folds e) k es) (folds-tell e n k h.0) (all-folds-tell (n + count_folds e) k es h.1)

  behind-tells : (xs : List Stmt) (s : Stmt) → Bodies told xs → Body told s → Body told (behind xs s)
  behind-tells [] s h k = k
  behind-tells (x ∷ xs) s h k = sequence-body told ((x ∷ xs) ++ (s ∷ [])) (bodies-both told (x ∷ xs) (s ∷ []) h (k, tt))

  body-tells : (s : Stmt) (n : ℕ) → bound ≤ n → Body told s → Body told (body_out n s)
  body-tells (Then a b) n low h = (body-tells a n low h.0, body-tells b (n + count_body a) (omega (arith, low)) h.1)
  body-tells (Declare k x (Some e)) n low h = behind-tells (folds_set n k e) (Declare k x (Some (told_from n e))) (folds-tell e n k h) (told-tells e n low h)
  body-tells (Assign k t e) n low h = behind-tells (folds_set n k e) (Assign k t (told_from n e)) (folds-tell e n k h) (told-tells e n low h)
  body-tells (Defer k t e) n low h = behind-tells (folds_set n k e) (Defer k t (told_from n e)) (folds-tell e n k h) (told-tells e n low h)
  body-tells (Combine k total r ts es) n low h = behind-tells (all_set n k es) (Combine k total r ts (all_told n es)) (all-folds-tell n k es h) (all-told-tell n es low h)
  body-tells (If k c a b) n low h =
      let m = n + count_folds c in
      let l = m + count_body a in
      behind-tells (folds_set n k c) (If k (told_from n c) (body_out m a) (body_out l b)) (folds-tell c n k h.0)
      (told-tells c n low h.0, (body-tells a m (omega (arith, low)) h.1.0, body-tells b l (omega (arith, low)) h.1.1))
  body-tells s n low h = h

  left-tells : (none : Bool) (test : Expr) → Tells told test → Tells told (filter_left none test)
  left-tells true test h = h
  left-tells false test h = refl

  under-tells : (none : Bool) (n : ℕ) (k : Key) (test : Expr) (body : Stmt) → bound ≤ n → Tells told test → Body told body → Body told (under none n k test body)
  under-tells true n k test body low h x = x
  under-tells false n k test body low h x = behind-tells (folds_set n k test) _ (folds-tell test n k h) (told-tells test n low h, (x, tt))

  opened-tells : (n : ℕ) (k : Key) (test : Expr) (body : Stmt) → bound ≤ n → Tells told test → Body told body → Body told (opened n k test body)
  opened-tells n k test body low h x = let m = n + count_folds test in under-tells (has_none test) n k test (body_out m body) low h (body-tells body m (omega (arith, low)) x)

  -- a loop, with its filter
  loop-tells : (n : ℕ) (k : Key) (test : Expr) (body : Stmt) → bound ≤ n → Tells told test × Body told body → Tells told (filter_left (has_none test) test) × Body told (opened n k test body)
  loop-tells n k test body low h = (left-tells (has_none test) test h.0, opened-tells n k test body low h.0 h.1)

module _ (fors out : ℕ → Type 0) (inn : ℕ → ℕ → Type 0) (bound : ℕ) (far : (n x : ℕ) → bound ≤ x → inn n x) where
  checked-told : (sure : Bool) (n : ℕ) (k : Key) (s : Search) (t : Stmt) → Phase fors out inn t → Phase fors out inn (root_checked sure n k s t)
  checked-told true n k s t h = h
  checked-told false n k s t h = (tt, (h, tt))

  pub inner-folds-told : (s : Stmt) (its : List ℕ) (n : ℕ) → bound ≤ n → Phase fors out inn s → Phase fors out inn (phase_out its n s)
  inner-folds-told (Then a b) its n low h = (inner-folds-told a its n low h.0, inner-folds-told b its (n + count_phase its a) (omega (arith, low)) h.1)
  inner-folds-told (Foreach k at hd test body) its n low h = loop-tells (inn hd.iterator) bound (far hd.iterator) n k test body low h
  inner-folds-told (For k at hd test body) its n low h = (h.0, (h.1.0, inner-folds-told body (hd.iterator ∷ its) n low h.1.1))
  inner-folds-told (If k c a b) its n low h = (h.0, (inner-folds-told a its n low h.1.0, inner-folds-told b its (n + count_phase its a) (omega (arith, low)) h.1.1))
  inner-folds-told (While k at c body) its n low h = (h.0, inner-folds-told body its n low h.1)
  inner-folds-told (Do k at body c) its n low h = (inner-folds-told body its n low h.0, h.1)
  inner-folds-told (InBfs k at s test body) its n low h =
      let m = n + count_check (is_sure its s test) in checked-told (is_sure its s test) n k s _ (loop-tells (inn s.iterator) bound (far s.iterator) m k test body (omega (arith, low)) h)
  inner-folds-told (InBfsBoth k at s test body back_key back_test back) its n low h =
      let m = n + count_check (is_sure its s test) in
      checked-told (is_sure its s test) n k s _ (
        loop-tells (inn s.iterator) bound (far s.iterator) m k test body (omega (arith, low)) h.0,
        loop-tells (inn s.iterator) bound (far s.iterator) (m + count_loop test body) back_key back_test back (omega (arith, low)) h.1,
      )
  inner-folds-told s its n low h = h

-- ---- searches

module _ (told : ℕ → Type 0) (f : Fresh) (marks : List Bool) where
  module _ (w : ℕ) where
    reading-tells : (e : Expr) → Tells told e → Tells told (reading f marks w e)
    reading-tells (Unary op at e) h = reading-tells e h
    reading-tells (Binary op at a b) h = (reading-tells a h.0, reading-tells b h.1)
    reading-tells (Both a b) h = (reading-tells a h.0, reading-tells b h.1)
    reading-tells (Either a b) h = (reading-tells a h.0, reading-tells b h.1)
    reading-tells (Choose c a b) h = (reading-tells c h.0, (reading-tells a h.1.0, reading-tells b h.1.1))
    reading-tells (Folded g hd test e) h = (h.0, (reading-tells test h.1.0, reading-tells e h.1.1))
    reading-tells e h = h

    may-read : (o : Option Expr) → MayTell told o → MayTell told (option_map (reading f marks w) o)
    may-read None h = tt
    may-read (Some e) h = reading-tells e h

    all-read : (es : List Expr) → AllTell told es → AllTell told (map (reading f marks w) es)
    all-read [] h = tt
    all-read (e ∷ es) h = (reading-tells e h.0, all-read es h.1)

    inner-tells : (s : Stmt) → Body told s → Body told (inner_reading f marks w s)
    inner-tells (Then a b) h = (inner-tells a h.0, inner-tells b h.1)
    inner-tells (Declare k x e) h = may-read e h
    inner-tells (Assign k t e) h = reading-tells e h
    inner-tells (Combine k total r ts es) h = all-read es h
    inner-tells (If k c a b) h = (reading-tells c h.0, (inner-tells a h.1.0, inner-tells b h.1.1))
    inner-tells s h = h

  conjunction-tells : (a b : Expr) → Tells told a → Tells told b → Tells told (conjunction a b)
  conjunction-tells a b h k = by (is_always b)
    where
      by : (always : Bool) → Tells told (cond always a (Both a b))
      by true = h
      by false = (h, k)

  module _ (up : told f.up) (down : told f.down) where
    ranged-tells : (k : Key) (at : Place) (hd : Head) (test : Expr) (body : Stmt) (domain : Domain) (x : ℕ) → told x → Tells told test → Body told body → Body told (ranged f marks k at hd test body domain x)
    ranged-tells k at hd test body domain x t h b =
        (conjunction-tells (is_on f hd x) (reading f marks hd.iterator test) (tt, t) (reading-tells hd.iterator test h), inner-tells hd.iterator body b)

    inner-loop : (k : Key) (at : Place) (hd : Head) (test : Expr) (body : Stmt) (domain : Domain) → Tells told test → Body told body → Body told (inner_loop f marks k at hd test body domain)
    inner-loop k at hd test body UpNbrs h b = ranged-tells k at hd test body InNbrs f.up up h b
    inner-loop k at hd test body DownNbrs h b = ranged-tells k at hd test body OutNbrs f.down down h b
    inner-loop k at hd test body Nodes h b = (h, b)
    inner-loop k at hd test body OutNbrs h b = (h, b)
    inner-loop k at hd test body InNbrs h b = (h, b)

    levels-tell : (s : Stmt) → Body told s → Body told (by_levels f marks s)
    levels-tell (Then a b) h = (levels-tell a h.0, levels-tell b h.1)
    levels-tell (If k c a b) h = (h.0, (levels-tell a h.1.0, levels-tell b h.1.1))
    levels-tell (Foreach k at hd test body) h = inner-loop k at hd test body hd.domain h.0 h.1
    levels-tell s h = h

-- what levels are kept in may be told
pub record AreTold (told : ℕ → Type 0) (f : Fresh) : Type 0 where
  pub root : told f.root
  pub current : told f.current
  pub up : told f.up
  pub down : told f.down
  pub more : told f.more
  pub found : told f.found
  pub node : told f.node

module _ (fors out : ℕ → Type 0) (inn : ℕ → ℕ → Type 0) (wider : (n x : ℕ) → out x → inn n x) (f : Fresh) (are : AreTold out f) where
  module _ (s : Site) where
    visit-told : (marks : List Bool) (key : Key) (x : ℕ) (test : Expr) (body : Stmt) → Tells (inn x) test → Body (inn x) body → Phase fors out inn (visit s f marks key x test body)
    visit-told marks key x test body h b = by (is_idle body && is_safe x test)
      where
        by : (nothing : Bool) → Phase fors out inn (cond nothing Skip (Foreach key s.place (over_nodes s x) (conjunction (at_node s x f.active) test) (by_levels f marks body)))
        by true = tt
        by false =
            (conjunction-tells (inn x) f marks (at_node s x f.active) test tt h, levels-tell (inn x) f marks (wider x f.up are.up) (wider x f.down are.down) body b)

    begin-told : (key : Key) (root : ℕ) → Phase fors out inn (begin s f key root)
    begin-told key root =
        let n = f.node in (tt, ((refl, ((wider n n are.node, wider n f.root are.root), (refl, refl))), (refl, (refl, tt))))

    copies-told : (p : ℕ) (marks : List Bool) (told : ℕ → Type 0) → Bodies told (copies_from s f p marks)
    copies-told p [] told = tt
    copies-told p (true ∷ marks) told = (tt, copies-told (suc p) marks told)
    copies-told p (false ∷ marks) told = copies-told (suc p) marks told

    unless-told : (ss : List Stmt) → Bodies (inn f.node) ss → Phase fors out inn (unless_empty s f ss)
    unless-told [] h = tt
    unless-told (c ∷ cs) h = (refl, sequence-body (inn f.node) (c ∷ cs) h)

    copy-told : (marks : List Bool) → Phase fors out inn (copy s f marks)
    copy-told marks = unless-told (copies_from s f 0 marks) (copies-told 0 marks (inn f.node))

    asked-told : (test : Bool) (a : Stmt) → Phase fors out inn a → Phase fors out inn (where_asked test a)
    asked-told true a h = h
    asked-told false a h = tt

    first-told : (test : Bool) (a b : Stmt) → Phase fors out inn a → Phase fors out inn b → Phase fors out inn (first_where test a b)
    first-told true a b h k = (h, (k, tt))
    first-told false a b h k = (k, (h, tt))

    forward-told : (count : ℕ) (key : Key) (x : ℕ) (test : Expr) (body : Stmt) → Tells (inn x) test → Body (inn x) body → Phase fors out inn (forward s f count key x test body)
    forward-told count key x test body h b =
        let marks = copied count body in
        let n = f.node in (
          are.more,
          (
            (are.current, refl),
            (
              asked-told (asks_up body) (level_before s f f.up) (are.current, refl),
              (
                refl,
                (
                  (refl, (tt, wider n f.current are.current)),
                  (
                    copy-told marks,
                    (
                      first-told (asks_down body) (reach s f) (visit s f marks key x test body) (tt, (refl, (wider n f.down are.down, tt))) (visit-told marks key x test body h b),
                      ((refl, ((tt, wider n f.down are.down), tt)), (are.found, (are.down, tt))),
                    ),
                  ),
                ),
              ),
            ),
          ),
        )

    backward-told : (count : ℕ) (key : Key) (x : ℕ) (test : Expr) (body : Stmt) → Tells (inn x) test → Body (inn x) body → Phase fors out inn (backward s f count key x test body)
    backward-told count key x test body h b =
        let marks = copied count body in
        let n = f.node in (
          (are.current, refl),
          (
            (
              (are.current, refl),
              (
                asked-told (asks_down body) (next_level s f) (are.current, refl),
                (
                  asked-told (asks_up body) (level_before s f f.up) (are.current, refl),
                  ((refl, (tt, wider n f.current are.current)), (copy-told marks, (visit-told marks key x test body h b, ((are.current, refl), tt)))),
                ),
              ),
            ),
            tt,
          ),
        )

  pub searches-told : (count : ℕ) (s : Stmt) → Phase fors out inn s → Phase fors out inn (searches_out f count s)
  searches-told count (Then a b) h = (searches-told count a h.0, searches-told count b h.1)
  searches-told count (For k at hd test body) h = (h.0, (h.1.0, searches-told count body h.1.1))
  searches-told count (If k c a b) h = (h.0, (searches-told count a h.1.0, searches-told count b h.1.1))
  searches-told count (While k at c body) h = (h.0, searches-told count body h.1)
  searches-told count (Do k at body c) h = (searches-told count body h.0, h.1)
  searches-told count (InBfs k at search test body) h = let s = site_of k search in (begin-told s k search.root, (forward-told s count k search.iterator test body h.0 h.1, tt))
  searches-told count (InBfsBoth k at search test body back_key back_test back) h =
      let s = site_of k search in (
        begin-told s k search.root,
        (forward-told s count k search.iterator test body h.0.0 h.0.1, (backward-told s count back_key search.iterator back_test back h.1.0 h.1.1, tt)),
      )
  searches-told count s h = h
