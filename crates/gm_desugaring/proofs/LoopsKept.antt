-- Reductions that become inner loops leave a sequential phase as it was: what holds of it before holds after.
use Rattle.std.proofs.Common.{◌≡◌, ◌+◌, ◌++◌, ℕ, Bool, true, false, List, [], ◌∷◌, map, length, refl, sym, ap, subst, ◌∙◌, Some, None}
use Rattle.std.specs.Prelude.{◌&&◌, ◌||◌, not, nat_lt, nat_le}
use Rattle.std.specs.List.{list_all}
use Rattle.gm_base.specs.declared.places.Place.{Place}
use Rattle.gm_value.specs.declared.operations.Op1.{Op1}
use Rattle.gm_value.specs.declared.operations.Op1.TheVariants as O
use Rattle.gm_value.specs.declared.reductions.Reduce.{Reduce}
use Rattle.gm_value.specs.declared.reductions.Reduce.TheVariants as R
use Rattle.gm_value.specs.declared.values.VType.{VType}
use Rattle.gm_ast.specs.declared.surface.ReductionWord.{ReductionWord}
use Rattle.gm_ast.specs.declared.surface.ReductionWord.TheVariants as W
use Rattle.gm_ast.specs.declared.tree.Declaration.{Declaration}
use Rattle.gm_ast.specs.declared.tree.Fold.{Fold}
use Rattle.gm_ast.specs.declared.tree.Head.{Head}
use Rattle.gm_ast.specs.declared.tree.Key.{Key}
use Rattle.gm_ast.specs.declared.tree.Search.{Search}
use Rattle.gm_ast.specs.declared.tree.Target.TheVariants as T
use Rattle.gm_ast.specs.declared.tree.Variable.{Variable}
use Rattle.gm_ast.specs.Program.{Expr, Const, Var, Property, EdgeProperty, Degree, NodeCount, EdgeCount, Live, Unary, Binary, Both, Either, Choose, Folded, Stmt, Skip, Then, Declare, Assign, Defer, Combine, Foreach, For, If, While, Do, InBfs, InBfsBoth, Program, sequence}
use Rattle.gm_semantics.specs.Frames.{NamesBelow}
use Rattle.gm_forms.specs.Forms.{depth_at, is_told}
use Rattle.gm_forms.specs.Sharing.{are_at_once}
use Rattle.gm_forms.specs.Typing.{keeps_tuples}
use Rattle.gm_forms.specs.Uses.{suits, uses_of}
use Rattle.gm_forms.proofs.Named.{both-true, names-below}
use Rattle.gm_forms.proofs.Weaker.{and-true}
use Rattle.gm_desugar.specs.Compounds.{has_no_compounds_in, has_no_compounds}
use Rattle.gm_desugar.specs.Conditions.{nowhere, has_told_conditions}
use Rattle.gm_desugar.specs.Groups.{has_no_groups}
use Rattle.gm_desugar.specs.Literals.{stays, has_literals, all_exprs_in, all_exprs}
use Rattle.gm_desugar.specs.Reads.{has_reads_apart}
use Rattle.gm_desugar.proofs.Appended.{variable-appended}
use Rattle.gm_desugar.proofs.ConditionsOut.{compounds-longer}
use Rattle.gm_reductions.specs.Accesses.{has_no_accesses}
use Rattle.gm_reductions.specs.Folds.{has_no_folds}
use Rattle.gm_reductions.specs.Phases.{has_no_picks, KeepsNoPicks}
use Rattle.gm_reductions.specs.Stages.{WithLoopsAlone}
use Rattle.gm_hoisting.specs.Hoisting.{local, count_folds, fold_types, all_types, count_body, body_types, is_sure, has_none, joins, passing, adds, giving, looped, placed, folds_set, all_set, told_from, all_told, behind, body_out, filter_left, loop_key, search_key, under, opened, root_checked, count_check, check_added, count_loop, loop_added, count_phase, phase_added, phase_out, without_inner_folds}
use Rattle.gm_hoisting.specs.Stages.{CanBeHoisted}
use Rattle.gm_hoisting.proofs.Kept as Inner
use Rattle.gm_hoisting.proofs.Placed.{length-folds, length-body, length-loop, length-check, length-phase, Placed, placed-both, placed-at-end}
use Rattle.gm_hoisting.proofs.TextKept.{locals-two}

-- ---- tests of a sequential phase, which loops and searches pass one by one

module _ (c : Expr → Bool) (f : Stmt → Bool)
    (skips : f Skip ≡ true)
    (checks : (k : Key) (n y : ℕ) (at : Place) → f (Assign k (T.Scalar n nowhere) (Live y at)) ≡ true)
    (thens : (a b : Stmt) → f (Then a b) ≡ f a && f b)
    (fors : (k : Key) (at : Place) (h : Head) (e : Expr) (s : Stmt) → f (For k at h e s) ≡ c e && f s)
    (ifs : (k : Key) (e : Expr) (a b : Stmt) → f (If k e a b) ≡ c e && (f a && f b))
    (whiles : (k : Key) (at : Place) (e : Expr) (s : Stmt) → f (While k at e s) ≡ c e && f s)
    (dos : (k : Key) (at : Place) (s : Stmt) (e : Expr) → f (Do k at s e) ≡ f s && c e)
    (loops : (n : ℕ) (k j : Key) (at : Place) (h : Head) (test : Expr) (body : Stmt) → f (Foreach k at h test body) ≡ true → f (Foreach j at h (filter_left (has_none test) test) (opened n k test body)) ≡ true)
    (searches : (n : ℕ) (k j : Key) (at : Place) (s : Search) (test : Expr) (body : Stmt) → f (InBfs k at s test body) ≡ true → f (InBfs j at s (filter_left (has_none test) test) (opened n k test body)) ≡ true)
    (twice : (n m : ℕ) (k j : Key) (at : Place) (s : Search) (test : Expr) (body : Stmt) (back_key l : Key) (back_test : Expr) (back : Stmt) → f (InBfsBoth k at s test body back_key back_test back) ≡ true →
    f (InBfsBoth j at s (filter_left (has_none test) test) (opened n k test body) l (filter_left (has_none back_test) back_test) (opened m back_key back_test back)) ≡ true) where
  -- the check of a search's root passes them
  checked : (none : Bool) (n : ℕ) (k : Key) (s : Search) (t : Stmt) → f t ≡ true → f (root_checked none n k s t) ≡ true
  checked true n k s t h = h
  checked false n k s t h =
      let check = Assign k (T.Scalar n nowhere) (Live s.root s.place) in
      thens check (Then t Skip) ∙ and-true (f check) (f (Then t Skip)) (checks k n s.root s.place) (thens t Skip ∙ and-true (f t) (f Skip) h skips)

  pub phase-keeps : (s : Stmt) (its : List ℕ) (n : ℕ) → f s ≡ true → f (phase_out its n s) ≡ true
  phase-keeps (Then a b) its n h =
      let q = both-true (f a) (f b) (sym (thens a b) ∙ h) in
      thens (phase_out its n a) (phase_out its (n + count_phase its a) b) ∙ and-true (f (phase_out its n a)) (f (phase_out its (n + count_phase its a) b)) (phase-keeps a its n q.0) (phase-keeps b its (n + count_phase its a) q.1)
  phase-keeps (Foreach k at hd test body) its n h = loops n k (loop_key (has_none test) k) at hd test body h
  phase-keeps (For k at hd e s) its n h =
      let q = both-true (c e) (f s) (sym (fors k at hd e s) ∙ h) in
      fors k at hd e (phase_out (hd.iterator ∷ its) n s) ∙ and-true (c e) (f (phase_out (hd.iterator ∷ its) n s)) q.0 (phase-keeps s (hd.iterator ∷ its) n q.1)
  phase-keeps (If k e a b) its n h =
      let q = both-true (c e) (f a && f b) (sym (ifs k e a b) ∙ h) in
      let r = both-true (f a) (f b) q.1 in
      ifs k e (phase_out its n a) (phase_out its (n + count_phase its a) b) ∙ and-true (c e) (f (phase_out its n a) && f (phase_out its (n + count_phase its a) b)) q.0
      (and-true (f (phase_out its n a)) (f (phase_out its (n + count_phase its a) b)) (phase-keeps a its n r.0) (phase-keeps b its (n + count_phase its a) r.1))
  phase-keeps (While k at e s) its n h =
      let q = both-true (c e) (f s) (sym (whiles k at e s) ∙ h) in
      whiles k at e (phase_out its n s) ∙ and-true (c e) (f (phase_out its n s)) q.0 (phase-keeps s its n q.1)
  phase-keeps (Do k at s e) its n h =
      let q = both-true (f s) (c e) (sym (dos k at s e) ∙ h) in
      dos k at (phase_out its n s) e ∙ and-true (f (phase_out its n s)) (c e) (phase-keeps s its n q.0) q.1
  phase-keeps (InBfs k at s test body) its n h =
      let none = has_none test in
      let sure = is_sure its s test in
      let m = n + count_check sure in
      checked sure n k s (InBfs (search_key none k) at s (filter_left none test) (opened m k test body)) (searches m k (search_key none k) at s test body h)
  phase-keeps (InBfsBoth k at s test body back_key back_test back) its n h =
      let none = has_none test in
      let sure = is_sure its s test in
      let m = n + count_check sure in
      checked sure n k s (InBfsBoth (search_key none k) at s (filter_left none test) (opened m k test body) (search_key (has_none back_test) back_key) (filter_left (has_none back_test) back_test) (opened (m + count_loop test body) back_key back_test back))
      (twice m (m + count_loop test body) k (search_key none k) at s test body back_key (search_key (has_none back_test) back_key) back_test back h)
  phase-keeps s its n h = h

and-nothing : (b : Bool) → b ≡ b && true
and-nothing true = refl
and-nothing false = refl

-- those that ask nothing of loops
pub groups-kept : (s : Stmt) (its : List ℕ) (n : ℕ) → has_no_groups s ≡ true → has_no_groups (phase_out its n s) ≡ true
groups-kept =
    phase-keeps (λ e. true) has_no_groups refl (λ k n y at. refl) (λ a b. refl) (λ k at h e s. refl) (λ k e a b. refl) (λ k at e s. refl) (λ k at s e. and-nothing (has_no_groups s))
    (λ n k j at h test body p. refl) (λ n k j at s test body p. refl) (λ n m k j at s test body bk l bt back p. refl)

pub conditions-kept : (s : Stmt) (its : List ℕ) (n : ℕ) → has_told_conditions s ≡ true → has_told_conditions (phase_out its n s) ≡ true
conditions-kept =
    phase-keeps is_told has_told_conditions refl (λ k n y at. refl) (λ a b. refl) (λ k at h e s. refl) (λ k e a b. refl) (λ k at e s. refl) (λ k at s e. refl)
    (λ n k j at h test body p. refl) (λ n k j at s test body p. refl) (λ n m k j at s test body bk l bt back p. refl)

pub apart-kept : (s : Stmt) (its : List ℕ) (n : ℕ) → has_reads_apart s ≡ true → has_reads_apart (phase_out its n s) ≡ true
apart-kept =
    phase-keeps (λ e. true) has_reads_apart refl (λ k n y at. refl) (λ a b. refl) (λ k at h e s. refl) (λ k e a b. refl) (λ k at e s. refl) (λ k at s e. and-nothing (has_reads_apart s))
    (λ n k j at h test body p. refl) (λ n k j at s test body p. refl) (λ n m k j at s test body bk l bt back p. refl)

pub folds-kept : (s : Stmt) (its : List ℕ) (n : ℕ) → has_no_folds s ≡ true → has_no_folds (phase_out its n s) ≡ true
folds-kept =
    phase-keeps (λ e. true) has_no_folds refl (λ k n y at. refl) (λ a b. refl) (λ k at h e s. refl) (λ k e a b. refl) (λ k at e s. refl) (λ k at s e. and-nothing (has_no_folds s))
    (λ n k j at h test body p. refl) (λ n k j at s test body p. refl) (λ n m k j at s test body bk l bt back p. refl)

pub accesses-kept : (s : Stmt) (its : List ℕ) (n : ℕ) → has_no_accesses s ≡ true → has_no_accesses (phase_out its n s) ≡ true
accesses-kept =
    phase-keeps (λ e. true) has_no_accesses refl (λ k n y at. refl) (λ a b. refl) (λ k at h e s. refl) (λ k e a b. refl) (λ k at e s. refl) (λ k at s e. and-nothing (has_no_accesses s))
    (λ n k j at h test body p. refl) (λ n k j at s test body p. refl) (λ n m k j at s test body bk l bt back p. refl)

pub picks-kept : (s : Stmt) (its : List ℕ) (n : ℕ) → has_no_picks s ≡ true → has_no_picks (phase_out its n s) ≡ true
picks-kept =
    phase-keeps (λ e. true) has_no_picks refl (λ k n y at. refl) (λ a b. refl) (λ k at h e s. refl) (λ k e a b. refl) (λ k at e s. refl) (λ k at s e. and-nothing (has_no_picks s))
    (λ n k j at h test body p. refl) (λ n k j at s test body p. refl) (λ n m k j at s test body bk l bt back p. refl)

-- ---- a test of bodies that holds of each statement in them

module _ (g : Stmt → Bool) (skips : g Skip ≡ true) (thens : (a b : Stmt) → g (Then a b) ≡ g a && g b) where
  abbrev All : List Stmt → Type 0
  All [] = Unit {0}
  All (s ∷ ss) = (g s ≡ true) × All ss

  all-both : (xs ys : List Stmt) → All xs → All ys → All (xs ++ ys)
  all-both [] ys h k = k
  all-both (x ∷ xs) ys h k = (h.0, all-both xs ys h.1 k)

  all-sequence : (xs : List Stmt) → All xs → g (sequence xs) ≡ true
  all-sequence [] h = skips
  all-sequence (x ∷ xs) h = thens x (sequence xs) ∙ and-true (g x) (g (sequence xs)) h.0 (all-sequence xs h.1)

  all-behind : (xs : List Stmt) (t : Stmt) → All xs → g t ≡ true → g (behind xs t) ≡ true
  all-behind [] t h k = k
  all-behind (x ∷ xs) t h k = all-sequence ((x ∷ xs) ++ (t ∷ [])) (all-both (x ∷ xs) (t ∷ []) h (k, tt))

-- ---- literals

stays-told : (op : Op1) (e : Expr) (n : ℕ) → stays op e ≡ true → stays op (told_from n e) ≡ true
stays-told O.Neg (Const v) n h = h
stays-told O.Neg (Var x at) n h = refl
stays-told O.Neg (Property x p at) n h = refl
stays-told O.Neg (EdgeProperty x p at) n h = refl
stays-told O.Neg (Degree d x at) n h = refl
stays-told O.Neg NodeCount n h = refl
stays-told O.Neg EdgeCount n h = refl
stays-told O.Neg (Live x at) n h = refl
stays-told O.Neg (Unary op at e) n h = refl
stays-told O.Neg (Binary op at a b) n h = refl
stays-told O.Neg (Both a b) n h = refl
stays-told O.Neg (Either a b) n h = refl
stays-told O.Neg (Choose c a b) n h = refl
stays-told O.Neg (Folded f hd test e) n h = refl
stays-told O.Not e n h = refl
stays-told O.ToI32 e n h = refl
stays-told O.ToI64 e n h = refl

two-literals : (a b : Expr) → has_literals a ≡ true → has_literals b ≡ true → has_literals a && has_literals b ≡ true
two-literals a b h k = and-true (has_literals a) (has_literals b) h k

three-literals : (a b c : Expr) → has_literals a && (has_literals b && has_literals c) ≡ true → (has_literals a ≡ true) × (has_literals b ≡ true) × (has_literals c ≡ true)
three-literals a b c h =
    let q = both-true (has_literals a) (has_literals b && has_literals c) h in
    let r = both-true (has_literals b) (has_literals c) q.1 in
    (q.0, r.0, r.1)

told-literals : (e : Expr) (n : ℕ) → has_literals e ≡ true → has_literals (told_from n e) ≡ true
told-literals (Const v) n h = refl
told-literals (Var x at) n h = refl
told-literals (Property x p at) n h = refl
told-literals (EdgeProperty x p at) n h = refl
told-literals (Degree d x at) n h = refl
told-literals NodeCount n h = refl
told-literals EdgeCount n h = refl
told-literals (Live x at) n h = refl
told-literals (Unary op at e) n h =
    let q = both-true (stays op e) (has_literals e) h in and-true (stays op (told_from n e)) (has_literals (told_from n e)) (stays-told op e n q.0) (told-literals e n q.1)
told-literals (Binary op at a b) n h = let q = both-true (has_literals a) (has_literals b) h in two-literals (told_from n a) (told_from (n + count_folds a) b) (told-literals a n q.0) (told-literals b (n + count_folds a) q.1)
told-literals (Both a b) n h = let q = both-true (has_literals a) (has_literals b) h in two-literals (told_from n a) (told_from (n + count_folds a) b) (told-literals a n q.0) (told-literals b (n + count_folds a) q.1)
told-literals (Either a b) n h = let q = both-true (has_literals a) (has_literals b) h in two-literals (told_from n a) (told_from (n + count_folds a) b) (told-literals a n q.0) (told-literals b (n + count_folds a) q.1)
told-literals (Choose c a b) n h =
    let q = three-literals c a b h in
    let m = n + count_folds c in
    and-true (has_literals (told_from n c)) (has_literals (told_from m a) && has_literals (told_from (m + count_folds a) b)) (told-literals c n q.0)
    (two-literals (told_from m a) (told_from (m + count_folds a) b) (told-literals a m q.1) (told-literals b (m + count_folds a) q.2))
told-literals (Folded f hd test e) n h = refl

abbrev InLiterals : Stmt → Bool
InLiterals s = all_exprs_in has_literals s

abbrev AllLiterals : List Stmt → Type 0
AllLiterals xs = All InLiterals refl (λ a b. refl) xs

passing-literals : (joined : Bool) (test e : Expr) → has_literals test ≡ true → has_literals e ≡ true → has_literals (passing joined test e) ≡ true
passing-literals true test e h k = two-literals test e h k
passing-literals false test e h k = h

giving-literals : (joined : Bool) (word : ReductionWord) (x : ℕ) (f : Fold) (e : Expr) → has_literals e ≡ true → InLiterals (giving joined word x f e) ≡ true
giving-literals true word x f e h = refl
giving-literals false W.Count x f e h = and-true (has_literals e) true h refl
giving-literals false W.Sum x f e h = and-true (has_literals e) true h refl
giving-literals false W.Product x f e h = and-true (has_literals e) true h refl
giving-literals false W.Min x f e h = and-true (has_literals e) true h refl
giving-literals false W.Max x f e h = and-true (has_literals e) true h refl
giving-literals false W.Exist x f e h = and-true (has_literals e) true h refl
giving-literals false W.All x f e h = and-true (has_literals e) true h refl

looped-literals : (x : ℕ) (f : Fold) (hd : Head) (test e : Expr) → has_literals test ≡ true → has_literals e ≡ true → InLiterals (looped x f hd test e) ≡ true
looped-literals x f hd test e h k =
    and-true (has_literals (passing (joins f.word f) test e)) (InLiterals (giving (joins f.word f) f.word x f e)) (passing-literals (joins f.word f) test e h k) (giving-literals (joins f.word f) f.word x f e k)

both-literals : (xs ys : List Stmt) → AllLiterals xs → AllLiterals ys → AllLiterals (xs ++ ys)
both-literals xs ys h k = all-both InLiterals refl (λ a b. refl) xs ys h k

folds-literals : (e : Expr) (n : ℕ) (k : Key) → has_literals e ≡ true → AllLiterals (folds_set n k e)
folds-literals (Const v) n k h = tt
folds-literals (Var x at) n k h = tt
folds-literals (Property x p at) n k h = tt
folds-literals (EdgeProperty x p at) n k h = tt
folds-literals (Degree d x at) n k h = tt
folds-literals NodeCount n k h = tt
folds-literals EdgeCount n k h = tt
folds-literals (Live x at) n k h = tt
folds-literals (Unary op at e) n k h = folds-literals e n k (both-true (stays op e) (has_literals e) h).1
folds-literals (Binary op at a b) n k h =
    let q = both-true (has_literals a) (has_literals b) h in both-literals (folds_set n k a) (folds_set (n + count_folds a) k b) (folds-literals a n k q.0) (folds-literals b (n + count_folds a) k q.1)
folds-literals (Both a b) n k h =
    let q = both-true (has_literals a) (has_literals b) h in both-literals (folds_set n k a) (folds_set (n + count_folds a) k b) (folds-literals a n k q.0) (folds-literals b (n + count_folds a) k q.1)
folds-literals (Either a b) n k h =
    let q = both-true (has_literals a) (has_literals b) h in both-literals (folds_set n k a) (folds_set (n + count_folds a) k b) (folds-literals a n k q.0) (folds-literals b (n + count_folds a) k q.1)
folds-literals (Choose c a b) n k h =
    let q = three-literals c a b h in
    let m = n + count_folds c in
    both-literals (folds_set n k c) (folds_set m k a ++ folds_set (m + count_folds a) k b) (folds-literals c n k q.0)
    (both-literals (folds_set m k a) (folds_set (m + count_folds a) k b) (folds-literals a m k q.1) (folds-literals b (m + count_folds a) k q.2))
folds-literals (Folded f hd test e) n k h = let q = both-true (has_literals test) (has_literals e) h in (refl, (looped-literals n (placed f hd test e) hd test e q.0 q.1, tt))

all-set-literals : (es : List Expr) (n : ℕ) (k : Key) → list_all has_literals es ≡ true → AllLiterals (all_set n k es)
all-set-literals [] n k h = tt
all-set-literals (e ∷ es) n k h =
    let q = both-true (has_literals e) (list_all has_literals es) h in
    both-literals (folds_set n k e) (all_set (n + count_folds e) k es) (folds-literals e n k q.0) (all-set-literals es (n + count_folds e) k q.1)

all-told-literals : (es : List Expr) (n : ℕ) → list_all has_literals es ≡ true → list_all has_literals (all_told n es) ≡ true
all-told-literals [] n h = refl
all-told-literals (e ∷ es) n h =
    let q = both-true (has_literals e) (list_all has_literals es) h in
    and-true (has_literals (told_from n e)) (list_all has_literals (all_told (n + count_folds e) es)) (told-literals e n q.0) (all-told-literals es (n + count_folds e) q.1)

behind-literals : (xs : List Stmt) (t : Stmt) → AllLiterals xs → InLiterals t ≡ true → InLiterals (behind xs t) ≡ true
behind-literals xs t h k = all-behind InLiterals refl (λ a b. refl) xs t h k

body-literals : (s : Stmt) (n : ℕ) → InLiterals s ≡ true → InLiterals (body_out n s) ≡ true
body-literals (Then a b) n h =
    let q = both-true (InLiterals a) (InLiterals b) h in
    and-true (InLiterals (body_out n a)) (InLiterals (body_out (n + count_body a) b)) (body-literals a n q.0) (body-literals b (n + count_body a) q.1)
body-literals (Declare k x (Some e)) n h = behind-literals (folds_set n k e) (Declare k x (Some (told_from n e))) (folds-literals e n k h) (told-literals e n h)
body-literals (Assign k t e) n h = behind-literals (folds_set n k e) (Assign k t (told_from n e)) (folds-literals e n k h) (told-literals e n h)
body-literals (Defer k t e) n h = behind-literals (folds_set n k e) (Defer k t (told_from n e)) (folds-literals e n k h) (told-literals e n h)
body-literals (Combine k total r ts es) n h = behind-literals (all_set n k es) (Combine k total r ts (all_told n es)) (all-set-literals es n k h) (all-told-literals es n h)
body-literals (If k c a b) n h =
    let p = both-true (has_literals c) (InLiterals a && InLiterals b) h in
    let q = both-true (InLiterals a) (InLiterals b) p.1 in
    let m = n + count_folds c in
    let a' = body_out m a in
    let b' = body_out (m + count_body a) b in
    behind-literals (folds_set n k c) (If k (told_from n c) a' b') (folds-literals c n k p.0)
    (and-true (has_literals (told_from n c)) (InLiterals a' && InLiterals b') (told-literals c n p.0) (and-true (InLiterals a') (InLiterals b') (body-literals a m q.0) (body-literals b (m + count_body a) q.1)))
body-literals s n h = h

-- a loop's filter and body
opened-literals : (n : ℕ) (k : Key) (test : Expr) (body : Stmt) → has_literals test && InLiterals body ≡ true → has_literals (filter_left (has_none test) test) && InLiterals (opened n k test body) ≡ true
opened-literals n k test body h = by (has_none test)
  where
    body' : Stmt
    body' = body_out (n + count_folds test) body

    q : (has_literals test ≡ true) × (InLiterals body ≡ true)
    q = both-true (has_literals test) (InLiterals body) h

    inside : InLiterals body' ≡ true
    inside = body-literals body (n + count_folds test) q.1

    by : (none : Bool) → has_literals (filter_left none test) && InLiterals (under none n k test body') ≡ true
    by true = and-true (has_literals test) (InLiterals body') q.0 inside
    by false =
        behind-literals (folds_set n k test) (If k (told_from n test) body' Skip) (folds-literals test n k q.0)
        (and-true (has_literals (told_from n test)) (InLiterals body' && true) (told-literals test n q.0) (and-true (InLiterals body') true inside refl))

four : (a b c d : Bool) → a && (b && (c && d)) ≡ true → (a && b ≡ true) × (c && d ≡ true)
four a b c d h =
    let p = both-true a (b && (c && d)) h in
    let q = both-true b (c && d) p.1 in
    (and-true a b p.0 q.0, q.1)

of-four : (a b c d : Bool) → a && b ≡ true → c && d ≡ true → a && (b && (c && d)) ≡ true
of-four a b c d h k = let p = both-true a b h in and-true a (b && (c && d)) p.0 (and-true b (c && d) p.1 k)

pub literals-kept : (s : Stmt) (its : List ℕ) (n : ℕ) → all_exprs has_literals s ≡ true → all_exprs has_literals (phase_out its n s) ≡ true
literals-kept =
    phase-keeps has_literals (all_exprs has_literals) refl (λ k n y at. refl) (λ a b. refl) (λ k at h e s. refl) (λ k e a b. refl) (λ k at e s. refl) (λ k at s e. refl)
    (λ n k j at h test body p. opened-literals n k test body p) (λ n k j at s test body p. opened-literals n k test body p)
    (λ n m k j at s test body bk l bt back p.
    let q = four (has_literals test) (InLiterals body) (has_literals bt) (InLiterals back) p in
    of-four (has_literals (filter_left (has_none test) test)) (InLiterals (opened n k test body)) (has_literals (filter_left (has_none bt) bt)) (InLiterals (opened m bk bt back)) (opened-literals n k test body q.0) (opened-literals m bk bt back q.1))

-- ---- compound assignments

module _ (es : List Declaration) where
  abbrev Locals : ℕ → List VType → Type 0
  Locals n ts = Placed es n (map local ts)

  two-locals : (n c : ℕ) (ts us : List VType) → length ts ≡ c → Locals n (ts ++ us) → Locals n ts × Locals (n + c) us
  two-locals n c ts us e h = locals-two es None false 0 n c ts us e h

  module _ (outer : ℕ) where
    abbrev In : Stmt → Bool
    In s = has_no_compounds_in es outer false s

    abbrev AllIn : List Stmt → Type 0
    AllIn xs = All In refl (λ a b. refl) xs

    -- what is given to a local of the outer body is not done at once in an inner one
    given-later : (x : ℕ) (r : Reduce) → depth_at es x ≡ 1 → not (are_at_once es outer true (T.Scalar x nowhere ∷ [])) || keeps_tuples r ≡ true
    given-later x r deep = ap (λ d. not (nat_lt 1 d && true) || keeps_tuples r) deep

    giving-later : (joined : Bool) (word : ReductionWord) (x : ℕ) (f : Fold) (e : Expr) → depth_at es x ≡ 1 → has_no_compounds_in es outer true (giving joined word x f e) ≡ true
    giving-later true word x f e deep = given-later x R.Sum deep
    giving-later false W.Count x f e deep = and-true (has_no_compounds_in es outer true (adds x f)) true (given-later x R.Sum deep) refl
    giving-later false W.Sum x f e deep = given-later x R.Sum deep
    giving-later false W.Product x f e deep = given-later x R.Product deep
    giving-later false W.Min x f e deep = given-later x R.Min deep
    giving-later false W.Max x f e deep = given-later x R.Max deep
    giving-later false W.Exist x f e deep = given-later x R.Or deep
    giving-later false W.All x f e deep = given-later x R.And deep

    both-later : (xs ys : List Stmt) → AllIn xs → AllIn ys → AllIn (xs ++ ys)
    both-later xs ys h k = all-both In refl (λ a b. refl) xs ys h k

    two-later : (a b : Expr) (n : ℕ) (k : Key) → ((m : ℕ) → Locals m (fold_types a) → AllIn (folds_set m k a)) → ((m : ℕ) → Locals m (fold_types b) → AllIn (folds_set m k b)) → Locals n (fold_types a ++ fold_types b) →
        AllIn (folds_set n k a ++ folds_set (n + count_folds a) k b)
    two-later a b n k p q h =
        let l = two-locals n (count_folds a) (fold_types a) (fold_types b) (length-folds a) h in
        both-later (folds_set n k a) (folds_set (n + count_folds a) k b) (p n l.0) (q (n + count_folds a) l.1)

    folds-later : (e : Expr) (n : ℕ) (k : Key) → Locals n (fold_types e) → AllIn (folds_set n k e)
    folds-later (Const v) n k h = tt
    folds-later (Var x at) n k h = tt
    folds-later (Property x p at) n k h = tt
    folds-later (EdgeProperty x p at) n k h = tt
    folds-later (Degree d x at) n k h = tt
    folds-later NodeCount n k h = tt
    folds-later EdgeCount n k h = tt
    folds-later (Live x at) n k h = tt
    folds-later (Unary op at e) n k h = folds-later e n k h
    folds-later (Binary op at a b) n k h = two-later a b n k (λ m l. folds-later a m k l) (λ m l. folds-later b m k l) h
    folds-later (Both a b) n k h = two-later a b n k (λ m l. folds-later a m k l) (λ m l. folds-later b m k l) h
    folds-later (Either a b) n k h = two-later a b n k (λ m l. folds-later a m k l) (λ m l. folds-later b m k l) h
    folds-later (Choose c a b) n k h =
        let m = n + count_folds c in
        let l = two-locals n (count_folds c) (fold_types c) (fold_types a ++ fold_types b) (length-folds c) h in
        both-later (folds_set n k c) (folds_set m k a ++ folds_set (m + count_folds a) k b) (folds-later c n k l.0) (two-later a b m k (λ i l. folds-later a i k l) (λ i l. folds-later b i k l) l.1)
    folds-later (Folded f hd test e) n k h =
        let g = placed f hd test e in
        let deep : depth_at es n ≡ 1 = ap (λ (v : Variable). v.depth) h.0.1 in
        (refl, (giving-later (joins g.word g) g.word n g e deep, tt))

    all-later : (vs : List Expr) (n : ℕ) (k : Key) → Locals n (all_types vs) → AllIn (all_set n k vs)
    all-later [] n k h = tt
    all-later (v ∷ vs) n k h =
        let l = two-locals n (count_folds v) (fold_types v) (all_types vs) (length-folds v) h in
        both-later (folds_set n k v) (all_set (n + count_folds v) k vs) (folds-later v n k l.0) (all-later vs (n + count_folds v) k l.1)

    behind-later : (xs : List Stmt) (t : Stmt) → AllIn xs → In t ≡ true → In (behind xs t) ≡ true
    behind-later xs t h k = all-behind In refl (λ a b. refl) xs t h k

    body-later : (s : Stmt) (n : ℕ) → Locals n (body_types s) → In s ≡ true → In (body_out n s) ≡ true
    body-later (Then a b) n l h =
        let q = both-true (In a) (In b) h in
        let m = two-locals n (count_body a) (body_types a) (body_types b) (length-body a) l in
        and-true (In (body_out n a)) (In (body_out (n + count_body a) b)) (body-later a n m.0 q.0) (body-later b (n + count_body a) m.1 q.1)
    body-later (Declare k x (Some e)) n l h = behind-later (folds_set n k e) (Declare k x (Some (told_from n e))) (folds-later e n k l) refl
    body-later (Assign k t e) n l h = behind-later (folds_set n k e) (Assign k t (told_from n e)) (folds-later e n k l) refl
    body-later (Defer k t e) n l h = behind-later (folds_set n k e) (Defer k t (told_from n e)) (folds-later e n k l) refl
    body-later (Combine k total r ts vs) n l h = behind-later (all_set n k vs) (Combine k total r ts (all_told n vs)) (all-later vs n k l) h
    body-later (If k c a b) n l h =
        let q = both-true (In a) (In b) h in
        let m = n + count_folds c in
        let u = two-locals n (count_folds c) (fold_types c) (body_types a ++ body_types b) (length-folds c) l in
        let v = two-locals m (count_body a) (body_types a) (body_types b) (length-body a) u.1 in
        let a' = body_out m a in
        let b' = body_out (m + count_body a) b in
        behind-later (folds_set n k c) (If k (told_from n c) a' b') (folds-later c n k u.0) (and-true (In a') (In b') (body-later a m v.0 q.0) (body-later b (m + count_body a) v.1 q.1))
    body-later s n l h = h

    opened-later : (n : ℕ) (k : Key) (test : Expr) (body : Stmt) → Placed es n (loop_added test body) → In body ≡ true → In (opened n k test body) ≡ true
    opened-later n k test body l h = by (has_none test)
      where
        body' : Stmt
        body' = body_out (n + count_folds test) body

        both : Locals n (fold_types test) × Locals (n + count_folds test) (body_types body)
        both = two-locals n (count_folds test) (fold_types test) (body_types body) (length-folds test) l

        inside : In body' ≡ true
        inside = body-later body (n + count_folds test) both.1 h

        by : (none : Bool) → In (under none n k test body') ≡ true
        by true = inside
        by false = behind-later (folds_set n k test) (If k (told_from n test) body' Skip) (folds-later test n k both.0) (and-true (In body') true inside refl)

  abbrev None' : Stmt → Type 0
  None' s = has_no_compounds es s ≡ true

  checked-later : (none : Bool) (n : ℕ) (k : Key) (s : Search) (t : Stmt) → None' t → None' (root_checked none n k s t)
  checked-later true n k s t h = h
  checked-later false n k s t h = and-true (has_no_compounds es t) true h refl

  phase-later : (s : Stmt) (its : List ℕ) (n : ℕ) → Placed es n (phase_added its s) → None' s → None' (phase_out its n s)
  phase-later (Then a b) its n l h =
      let q = both-true (has_no_compounds es a) (has_no_compounds es b) h in
      let m = placed-both es n (phase_added its a) (phase_added its b) l in
      and-true (has_no_compounds es (phase_out its n a)) (has_no_compounds es (phase_out its (n + count_phase its a) b)) (phase-later a its n m.0 q.0)
      (phase-later b its (n + count_phase its a) (subst (λ c. Placed es (n + c) (phase_added its b)) (length-phase a its) m.1) q.1)
  phase-later (Foreach k at hd test body) its n l h = opened-later hd.iterator n k test body l h
  phase-later (For k at hd e s) its n l h = phase-later s (hd.iterator ∷ its) n l h
  phase-later (If k e a b) its n l h =
      let q = both-true (has_no_compounds es a) (has_no_compounds es b) h in
      let m = placed-both es n (phase_added its a) (phase_added its b) l in
      and-true (has_no_compounds es (phase_out its n a)) (has_no_compounds es (phase_out its (n + count_phase its a) b)) (phase-later a its n m.0 q.0)
      (phase-later b its (n + count_phase its a) (subst (λ c. Placed es (n + c) (phase_added its b)) (length-phase a its) m.1) q.1)
  phase-later (While k at e s) its n l h = phase-later s its n l h
  phase-later (Do k at s e) its n l h = phase-later s its n l h
  phase-later (InBfs k at s test body) its n l h =
      let none = has_none test in
      let sure = is_sure its s test in
      let m = n + count_check sure in
      let u = placed-both es n (check_added sure) (loop_added test body) l in
      let there = subst (λ c. Placed es (n + c) (loop_added test body)) (length-check sure) u.1 in
      checked-later sure n k s (InBfs (search_key none k) at s (filter_left none test) (opened m k test body)) (opened-later s.iterator m k test body there h)
  phase-later (InBfsBoth k at s test body back_key back_test back) its n l h =
      let none = has_none test in
      let sure = is_sure its s test in
      let m = n + count_check sure in
      let j = m + count_loop test body in
      let q = both-true (has_no_compounds_in es s.iterator false body) (has_no_compounds_in es s.iterator false back) h in
      let u = placed-both es n (check_added sure) (loop_added test body ++ loop_added back_test back) l in
      let v = placed-both es m (loop_added test body) (loop_added back_test back) (subst (λ c. Placed es (n + c) (loop_added test body ++ loop_added back_test back)) (length-check sure) u.1) in
      let there = subst (λ c. Placed es (m + c) (loop_added back_test back)) (length-loop test body) v.1 in
      let body' = opened m k test body in
      let back' = opened j back_key back_test back in
      checked-later sure n k s (InBfsBoth (search_key none k) at s (filter_left none test) body' (search_key (has_none back_test) back_key) (filter_left (has_none back_test) back_test) back')
      (and-true (has_no_compounds_in es s.iterator false body') (has_no_compounds_in es s.iterator false back') (opened-later s.iterator m k test body v.0 q.0) (opened-later s.iterator j back_key back_test back there q.1))
  phase-later s its n l h = h

-- under the longer table
pub compounds-kept : (p : Program) → NamesBelow (length p.declarations) p.body → has_no_compounds p.declarations p.body ≡ true → has_no_compounds (p.declarations ++ phase_added [] p.body) (phase_out [] (length p.declarations) p.body) ≡ true
compounds-kept p names h =
    let ds = p.declarations in
    let more = phase_added [] p.body in
    let es = ds ++ more in
    phase-later es p.body [] (length ds) (placed-at-end ds more) (compounds-longer ds es (length ds) (variable-appended ds more) p.body names ∙ h)

-- ---- the program

-- it has neither an access nor a reduction in its sequential phase, as before
pub alone-kept : (p : Program) → CanBeHoisted p → WithLoopsAlone p → WithLoopsAlone (without_inner_folds p)
alone-kept p can r =
    let ds = p.declarations in
    let n = length ds in
    let apart = r.without_folds.with_reads_apart in
    let literals = apart.with_conditions.with_literals in
    let compounds = literals.without_compounds in
    let named = both-true (nat_le (p.inputs + p.outputs) n) (list_all (suits ds) (uses_of p.body)) can.ready.sane.named in
    record {
      without_folds = record {
        with_reads_apart = record {
          with_conditions = record {
            with_literals = record {
              without_compounds = record {
                without_groups = record { ready = (Inner.kept p can).ready; no_groups = groups-kept p.body [] n compounds.without_groups.no_groups };
                no_compounds = compounds-kept p (names-below ds p.body named.1) compounds.no_compounds;
              };
              literals = literals-kept p.body [] n literals.literals;
            };
            conditions = conditions-kept p.body [] n apart.with_conditions.conditions;
          };
          apart = apart-kept p.body [] n apart.apart;
        };
        no_folds = folds-kept p.body [] n r.without_folds.no_folds;
      };
      no_accesses = accesses-kept p.body [] n r.no_accesses;
    }

-- and no pick where it had none
pub no-picks : (p : Program) → KeepsNoPicks p (without_inner_folds p)
no-picks p h = picks-kept p.body [] (length p.declarations) h
