-- A prepared program whose statements stand apart has inner loops that read nothing that they give, and so goes to slices that evaluate only what they need where each goes one way.
use Rattle.std.proofs.Common.{◌≡◌, ◌≤◌, ◌⊎◌, arith, ℕ, zero, suc, Bool, true, false, cond, List, [], ◌∷◌, ◌++◌, length, map, refl, sym, ap, subst, ◌∙◌, ⊎_elim, inl, inr}
use Rattle.std.specs.Prelude.{◌+◌, ◌&&◌, ◌||◌, not, nat_eq, nat_lt}
use Rattle.std.specs.List.{list_all}
use Rattle.std.proofs.lemmas.Bool.{both_ways, eqb-true, eq-eqb, lt-ltb}
use Rattle.gm_base.specs.declared.places.Place.{Place}
use Rattle.gm_value.specs.Bag.{IsIn}
use Rattle.gm_value.specs.declared.operations.Op1.TheVariants.{Not}
use Rattle.gm_value.specs.declared.values.VType.TheVariants as V
use Rattle.gm_ast.specs.declared.tree.Declaration.{Declaration}
use Rattle.gm_ast.specs.declared.tree.Head.{Head}
use Rattle.gm_ast.specs.declared.tree.Key.{Key}
use Rattle.gm_ast.specs.declared.tree.Target.{Target}
use Rattle.gm_ast.specs.declared.tree.Target.TheVariants as T
use Rattle.gm_ast.specs.Program.{Expr, Var, Unary, Both, Stmt, Skip, Then, Combine, Foreach, For, If, While, Do, Program, sequence}
use Rattle.gm_forms.specs.Cut.{is_own_loop}
use Rattle.gm_forms.specs.Forms.{depth_at}
use Rattle.gm_forms.specs.Meanings.{SameMeaning}
use Rattle.gm_forms.specs.Ready.{Ready2, Ready3}
use Rattle.gm_forms.specs.Sharing.{Read, Reduced, reads_in, told_in, sights_of, read_at, read_anywhere, read_elsewhere, written, reduced, reduced_by, is_owned, is_kept, variables_where, shared_in, kept_in, disjoint, are_at_once, is_through, are_alike, are_distinct, variables_of, targets_alike, all_agree, all_last_one_way, inner_shares, shares, loops_share}
use Rattle.gm_forms.proofs.Doings.{in-left, in-right, in-either}
use Rattle.gm_forms.proofs.Named.{both-true, names-below}
use Rattle.gm_forms.proofs.Weaker.{and-true}
use Rattle.gm_loop_laws.specs.Inner.{given_by}
use Rattle.gm_loop_laws.specs.Pieces.{Piece, piece, pieces_of}
use Rattle.gm_loop_laws.proofs.Chosen.{disjoint-apart, apart-disjoint}
use Rattle.gm_dissect.proofs.DeferredLaws.{variable-longer}
use Rattle.gm_dissect.proofs.Kept.{Sound}
use Rattle.gm_cut.specs.Lean.{can_be_lean, reads_no_given, gives_apart, has_slices_that_go}
use Rattle.gm_cut.specs.Parts.{goes_any_way, in_pieces, parts_of, parted_loop, piece_loop, IsPartedBy, each_passes}
use Rattle.gm_cut.specs.Runs.{with_runs, joins_run}
use Rattle.gm_cut.specs.Slices.{goes_one_way}
use Rattle.gm_cut.proofs.LeanFacts.{parted-leans}
use Rattle.gm_cut.proofs.LeanLaws.{same-lean, ready-lean}
use Rattle.gm_cut.proofs.LoopLaws.{parted-flat}
use Rattle.gm_cut.proofs.Shared.{Under, shares-alike, listed-first, listed-second, shared-split, kept-split, anywhere-split, elsewhere-split}
use Rattle.gm_parting.specs.Apart.{under, apart, apart_loop, most_ifs, inner_flags, with_statements_apart}
use Rattle.gm_parting.specs.Numbers.{count_ifs}
use Rattle.gm_parting.specs.Passes.{prepared, dissected, MayBePrepared}
use Rattle.gm_parting.specs.Tuples.{is_scalar_at, are_even, reduces_evenly, has_even_tuples}
use Rattle.gm_parting.proofs.ApartLaws.{same-apart}
use Rattle.gm_parting.proofs.Loops.{each-kept, sound-of}
use Rattle.gm_parting.proofs.MovedNames.{evenly-longer}
use Rattle.gm_parting.proofs.Prepared.{is-prepared, prepared-ready, pieces-same, pieces-cut, apart-cut}
use Rattle.gm_parting.proofs.Runs.{even-same}
use Rattle.gm_forms.proofs.Meanings.{same-trans}

-- ---- tuples of pieces

abbrev Even : List Declaration → Key → Place → Head → Expr → Stmt → Bool
Even ds k at h test body = is_own_loop h.iterator body || reduces_evenly ds body

or-second : (a b : Bool) → b ≡ true → a || b ≡ true
or-second true b h = refl
or-second false b h = h

all-both : {A : Type 0} (p : A → Bool) (xs ys : List A) → list_all p xs ≡ true → list_all p ys ≡ true → list_all p (xs ++ ys) ≡ true
all-both p [] ys h g = g
all-both p (x ∷ xs) ys h g = let r = both-true (p x) (list_all p xs) h in and-true (p x) (list_all p (xs ++ ys)) r.0 (all-both p xs ys r.1 g)

module _ (ds : List Declaration) where
  even-piece : Piece → Bool
  even-piece p = reduces_evenly ds p.part

  one-even : (mask : Expr) (s : Stmt) → reduces_evenly ds s ≡ true → list_all (λ (p : Piece). reduces_evenly ds p.part) (piece mask s) ≡ true
  one-even mask s h = and-true (reduces_evenly ds s) true h refl

  pieces-even : (whole : Stmt → Bool) (place : Place) (mask : Expr) (s : Stmt) → reduces_evenly ds s ≡ true → list_all (λ (p : Piece). reduces_evenly ds p.part) (pieces_of whole place mask s) ≡ true
  pieces-even whole place mask Skip h = refl
  pieces-even whole place mask (Then a b) h =
      let r = both-true (reduces_evenly ds a) (reduces_evenly ds b) h in by (whole (Then a b)) (pieces-even whole place mask a r.0) (pieces-even whole place mask b r.1)
    where
      by : (o : Bool) → list_all (λ (p : Piece). reduces_evenly ds p.part) (pieces_of whole place mask a) ≡ true → list_all (λ (p : Piece). reduces_evenly ds p.part) (pieces_of whole place mask b) ≡ true →
          list_all (λ (p : Piece). reduces_evenly ds p.part) (cond o (piece mask (Then a b)) (pieces_of whole place mask a ++ pieces_of whole place mask b)) ≡ true
      by true p q = one-even mask (Then a b) h
      by false p q = all-both (λ (p : Piece). reduces_evenly ds p.part) (pieces_of whole place mask a) (pieces_of whole place mask b) p q
  pieces-even whole place mask (If k c a b) h =
      let r = both-true (reduces_evenly ds a) (reduces_evenly ds b) h in by (whole (If k c a b)) (pieces-even whole place (Both mask c) a r.0) (pieces-even whole place (Both mask (Unary Not place c)) b r.1)
    where
      by : (o : Bool) → list_all (λ (p : Piece). reduces_evenly ds p.part) (pieces_of whole place (Both mask c) a) ≡ true → list_all (λ (p : Piece). reduces_evenly ds p.part) (pieces_of whole place (Both mask (Unary Not place c)) b) ≡ true →
          list_all (λ (p : Piece). reduces_evenly ds p.part) (cond o (piece mask (If k c a b)) (pieces_of whole place (Both mask c) a ++ pieces_of whole place (Both mask (Unary Not place c)) b)) ≡ true
      by true p q = one-even mask (If k c a b) h
      by false p q = all-both (λ (p : Piece). reduces_evenly ds p.part) (pieces_of whole place (Both mask c) a) (pieces_of whole place (Both mask (Unary Not place c)) b) p q
  pieces-even whole place mask s h = one-even mask s h

  loops-even : (k : Key) (at : Place) (h : Head) (ps : List Piece) → list_all (λ (p : Piece). reduces_evenly ds p.part) ps ≡ true → each_passes (Even ds) (sequence (map (piece_loop k at h) ps)) ≡ true
  loops-even k at h [] e = refl
  loops-even k at h (p ∷ ps) e =
      let r = both-true (reduces_evenly ds p.part) (list_all (λ (p : Piece). reduces_evenly ds p.part) ps) e in
      and-true (Even ds k at h p.mask p.part) (each_passes (Even ds) (sequence (map (piece_loop k at h) ps))) (or-second (is_own_loop h.iterator p.part) (reduces_evenly ds p.part) r.0) (loops-even k at h ps r.1)

  loop-even : (k : Key) (at : Place) (h : Head) (mask : Expr) (body : Stmt) → Even ds k at h mask body ≡ true → each_passes (Even ds) (parted_loop k at h mask body) ≡ true
  loop-even k at h mask body e = by (is_own_loop h.iterator body) refl e
    where
      by : (o : Bool) → is_own_loop h.iterator body ≡ o → o || reduces_evenly ds body ≡ true → each_passes (Even ds) (cond o (Foreach k at h mask body) (sequence (map (piece_loop k at h) (parts_of h.iterator at mask body)))) ≡ true
      by true q e = ap (λ o. o || reduces_evenly ds body) q
      by false q e =
          loops-even k at h (parts_of h.iterator at mask body)
          (pieces-even (is_own_loop h.iterator) at mask (with_runs h.iterator body) (even-same (is_own_loop h.iterator) (joins_run h.iterator) ds body ∙ e))

-- ---- tuples of statements that stand apart

module _ (ds : List Declaration) where
  under-even : (k : Key) (c : Expr) (s : Stmt) → reduces_evenly ds s ≡ true → reduces_evenly ds (under k c s) ≡ true
  under-even k c Skip h = refl
  under-even k c (Then a b) h = let r = both-true (reduces_evenly ds a) (reduces_evenly ds b) h in and-true (reduces_evenly ds (under k c a)) (reduces_evenly ds (under k c b)) (under-even k c a r.0) (under-even k c b r.1)
  under-even k c s h = and-true (reduces_evenly ds s) true h refl

  apart-even : (at : Place) (y : ℕ) (s : Stmt) → reduces_evenly ds s ≡ true → reduces_evenly ds (apart at y s) ≡ true
  apart-even at y (Then a b) h =
      let r = both-true (reduces_evenly ds a) (reduces_evenly ds b) h in and-true (reduces_evenly ds (apart at y a)) (reduces_evenly ds (apart at (y + count_ifs a) b)) (apart-even at y a r.0) (apart-even at (y + count_ifs a) b r.1)
  apart-even at y (If k c a b) h =
      let r = both-true (reduces_evenly ds a) (reduces_evenly ds b) h in
      let a' = under k (Var y at) (apart at (suc y) a) in
      let b' = under k (Unary Not at (Var y at)) (apart at (suc y + count_ifs a) b) in
      and-true (reduces_evenly ds a') (reduces_evenly ds b' && true) (under-even k (Var y at) (apart at (suc y) a) (apart-even at (suc y) a r.0))
      (and-true (reduces_evenly ds b') true (under-even k (Unary Not at (Var y at)) (apart at (suc y + count_ifs a) b) (apart-even at (suc y + count_ifs a) b r.1)) refl)
  apart-even at y s h = h

longer : {A : Type 0} (xs ys : List A) → length xs ≤ length (xs ++ ys)
longer [] ys = omega arith
longer (x ∷ xs) ys = let r = longer xs ys in omega arith

-- of all loops that are parted
pub apart-tuples : (p : Program) → IsPartedBy goes_any_way p → has_even_tuples p ≡ true → has_even_tuples (with_statements_apart p) ≡ true
apart-tuples p r e = each-kept ds p.result (Even ds) (Even dt) (apart_loop ds (length ds)) loops p.body (sound-of p (record { sane = r.sane; form = parted-flat p.declarations p.result p.body r.form })) e
  where
    ds : List Declaration
    ds = p.declarations

    dt : List Declaration
    dt = p.declarations ++ inner_flags (most_ifs p.body)

    on : (k : Key) (at : Place) (h : Head) (mask : Expr) (body : Stmt) → Sound p.declarations p.result (Foreach k at h mask body) → Even p.declarations k at h mask body ≡ true → Even dt k at h mask body ≡ true
    on k at h mask body s e = by (is_own_loop h.iterator body) e
      where
        by : (o : Bool) → o || reduces_evenly p.declarations body ≡ true → o || reduces_evenly dt body ≡ true
        by true e = refl
        by false e =
            evenly-longer 0 (length p.declarations) 0 at V.Flag p.declarations dt (λ x l. variable-longer p.declarations (inner_flags (most_ifs p.body)) x l) (longer p.declarations (inner_flags (most_ifs p.body))) refl body
            (names-below p.declarations (Foreach k at h mask body) s.named).3 e

    loops : (k : Key) (at : Place) (h : Head) (mask : Expr) (body : Stmt) → Sound p.declarations p.result (Foreach k at h mask body) → Even p.declarations k at h mask body ≡ true → each_passes (Even dt) (apart_loop p.declarations (length p.declarations) k at h mask body) ≡ true
    loops k at h mask (Foreach j here inner test body) s e = by (goes_one_way p.declarations h.iterator inner test body) (on k at h mask (Foreach j here inner test body) s e)
      where
        by : (o : Bool) → reduces_evenly dt body ≡ true → reduces_evenly dt (cond o body (apart here (length p.declarations) body)) ≡ true
        by true e = e
        by false e = apart-even dt here (length p.declarations) body e
    loops k at h mask body s e = on k at h mask body s e

-- and of pieces
pub pieces-tuples : (p : Program) → Ready2 p → has_even_tuples p ≡ true → has_even_tuples (in_pieces p) ≡ true
pieces-tuples p r e = each-kept p.declarations p.result (Even p.declarations) (Even p.declarations) parted_loop (λ k at h mask body s e. loop-even p.declarations k at h mask body e) p.body (sound-of p r) e

-- ---- what is given

module _ (ds : List Declaration) (n : ℕ) where
  abbrev R : Stmt → List Reduced
  R s = reduced ds n true s

  -- variables of scalars of one depth, or of properties through one variable, are all shared or all kept
  scalars-where : (test : Target → Bool) (d : ℕ) → ((x : ℕ) (at : Place) → nat_eq (depth_at ds x) d ≡ true → test (T.Scalar x at) ≡ true) → (ts : List Target) → list_all (is_scalar_at ds d) ts ≡ true → variables_where test ts ≡ variables_of ts
  scalars-where test d f [] h = refl
  scalars-where test d f (T.Scalar x at ∷ ts) h =
      let r = both-true (nat_eq (depth_at ds x) d) (list_all (is_scalar_at ds d) ts) h in
      ap (λ b. cond b (x ∷ variables_where test ts) (variables_where test ts)) (f x at r.0) ∙ ap (λ l. x ∷ l) (scalars-where test d f ts r.1)
  scalars-where test d f (T.Property x p at ∷ ts) h = absurd (both_ways false refl h)

  through-where : (test : Target → Bool) (z : ℕ) → ((p : ℕ) (at : Place) → test (T.Property z p at) ≡ true) → (ts : List Target) → list_all (is_through z) ts ≡ true → variables_where test ts ≡ variables_of ts
  through-where test z f [] h = refl
  through-where test z f (T.Scalar x at ∷ ts) h = absurd (both_ways false refl h)
  through-where test z f (T.Property x p at ∷ ts) h =
      let r = both-true (nat_eq x z) (list_all (is_through z) ts) h in
      ap (λ b. cond b (p ∷ variables_where test ts) (variables_where test ts)) (ap (λ w. test (T.Property w p at)) (eqb-true x z r.0) ∙ f p at) ∙ ap (λ l. p ∷ l) (through-where test z f ts r.1)

  abbrev shares? : Target → Bool
  shares? t = not (is_owned ds n t)

  abbrev keeps? : Target → Bool
  keeps? t = is_kept ds n t

  -- scalars that are not all done at once, side by side
  scalar-gives : (d : ℕ) (ts : List Target) → list_all (is_scalar_at ds d) ts ≡ true → are_at_once ds n true ts ≡ false → (variables_where shares? ts ≡ variables_of ts) ⊎ (variables_where keeps? ts ≡ variables_of ts)
  scalar-gives zero ts h o = inl (scalars-where shares? 0 (λ x at e. ap (λ b. not (not b)) e) ts h)
  scalar-gives (suc zero) ts h o = inr (scalars-where keeps? 1 (λ x at e. e) ts h)
  scalar-gives (suc (suc d)) ts h o = absurd (both_ways (are_at_once ds n true ts) o (all-once ts h))
    where
      once : (e : ℕ) → nat_eq e (suc (suc d)) ≡ true → nat_lt 1 e ≡ true
      once e h = let q = eqb-true e (suc (suc d)) h in lt-ltb 1 e (omega arith)

      all-once : (ts : List Target) → list_all (is_scalar_at ds (suc (suc d))) ts ≡ true → are_at_once ds n true ts ≡ true
      all-once [] h = refl
      all-once (T.Scalar x at ∷ ts) h = let r = both-true (nat_eq (depth_at ds x) (suc (suc d))) (list_all (is_scalar_at ds (suc (suc d))) ts) h in and-true (nat_lt 1 (depth_at ds x)) (are_at_once ds n true ts) (once (depth_at ds x) r.0) (all-once ts r.1)
      all-once (T.Property x p at ∷ ts) h = absurd (both_ways false refl h)

  targets-give : (ts : List Target) → are_alike ts ≡ true → are_even ds ts ≡ true → are_at_once ds n true ts ≡ false → (variables_where shares? ts ≡ variables_of ts) ⊎ (variables_where keeps? ts ≡ variables_of ts)
  targets-give [] a e o = inl refl
  targets-give (T.Scalar x at ∷ ts) a e o = scalar-gives (depth_at ds x) (T.Scalar x at ∷ ts) (and-true (nat_eq (depth_at ds x) (depth_at ds x)) (list_all (is_scalar_at ds (depth_at ds x)) ts) (eq-eqb (depth_at ds x) (depth_at ds x) refl) e) o
  targets-give (T.Property z q at ∷ ts) a e o = by (nat_eq z n) refl
    where
      all : list_all (is_through z) (T.Property z q at ∷ ts) ≡ true
      all = and-true (nat_eq z z) (list_all (is_through z) ts) (eq-eqb z z refl) a

      by : (b : Bool) → nat_eq z n ≡ b → (variables_where shares? (T.Property z q at ∷ ts) ≡ variables_of (T.Property z q at ∷ ts)) ⊎ (variables_where keeps? (T.Property z q at ∷ ts) ≡ variables_of (T.Property z q at ∷ ts))
      by true is = inr (through-where keeps? z (λ p at. is) (T.Property z q at ∷ ts) all)
      by false is = inl (through-where shares? z (λ p at. ap not is) (T.Property z q at ∷ ts) all)

  one-of : (v : ℕ) (ts : List Target) (r : Reduced) → r.shared ≡ variables_where shares? ts → r.kept ≡ variables_where keeps? ts → IsIn v (variables_of ts) → (variables_where shares? ts ≡ variables_of ts) ⊎ (variables_where keeps? ts ≡ variables_of ts) → IsIn v (r.shared ++ []) ⊎ IsIn v (r.kept ++ [])
  one-of v ts r p q i =
      ⊎_elim (λ (e : variables_where shares? ts ≡ variables_of ts). inl (in-left v r.shared [] (subst (IsIn v) (sym e ∙ sym p) i))) (λ (e : variables_where keeps? ts ≡ variables_of ts). inr (in-left v r.kept [] (subst (IsIn v) (sym e ∙ sym q) i)))

  first : (a b : Stmt) (v : ℕ) → IsIn v (shared_in (R a)) ⊎ IsIn v (kept_in (R a)) → IsIn v (shared_in (R a ++ R b)) ⊎ IsIn v (kept_in (R a ++ R b))
  first a b v m = ⊎_elim (λ i. inl (listed-first shared_in shared-split (R a) (R b) v i)) (λ i. inr (listed-first kept_in kept-split (R a) (R b) v i)) m

  second : (a b : Stmt) (v : ℕ) → IsIn v (shared_in (R b)) ⊎ IsIn v (kept_in (R b)) → IsIn v (shared_in (R a ++ R b)) ⊎ IsIn v (kept_in (R a ++ R b))
  second a b v m = ⊎_elim (λ i. inl (listed-second shared_in shared-split (R a) (R b) v i)) (λ i. inr (listed-second kept_in kept-split (R a) (R b) v i)) m

  -- what a body gives is shared or kept
  given-where : (s : Stmt) → targets_alike s ≡ true → reduces_evenly ds s ≡ true → (v : ℕ) → IsIn v (given_by ds n s) → IsIn v (shared_in (reduced ds n true s)) ⊎ IsIn v (kept_in (reduced ds n true s))
  given-where (Then a b) l e v i =
      let p = both-true (targets_alike a) (targets_alike b) l in
      let q = both-true (reduces_evenly ds a) (reduces_evenly ds b) e in
      ⊎_elim (λ m. first a b v (given-where a p.0 q.0 v m)) (λ m. second a b v (given-where b p.1 q.1 v m)) (in-either v (given_by ds n a) (given_by ds n b) i)
  given-where (If k c a b) l e v i =
      let p = both-true (targets_alike a) (targets_alike b) l in
      let q = both-true (reduces_evenly ds a) (reduces_evenly ds b) e in
      ⊎_elim (λ m. first a b v (given-where a p.0 q.0 v m)) (λ m. second a b v (given-where b p.1 q.1 v m)) (in-either v (given_by ds n a) (given_by ds n b) i)
  given-where (Foreach k at h test body) l e v i = given-where body l e v i
  given-where (Combine k total r ts es) l e v i = by (are_at_once ds n true ts) refl i
    where
      by : (b : Bool) → are_at_once ds n true ts ≡ b → IsIn v (cond b [] (variables_of ts)) → IsIn v (shared_in (cond b [] (reduced_by ds n total.key.statement r ts ∷ []))) ⊎ IsIn v (kept_in (cond b [] (reduced_by ds n total.key.statement r ts ∷ [])))
      by true o i = absurd i
      by false o i = one-of v ts (reduced_by ds n total.key.statement r ts) refl refl i (targets-give ts (both-true (are_alike ts) (are_distinct (variables_of ts)) l).0 e o)
  given-where s l e v i = absurd i

-- a read is through a variable, or through others
at-or-elsewhere : (n : ℕ) (rs : List Read) (v : ℕ) → IsIn v (read_anywhere rs) → IsIn v (read_at n rs) ⊎ IsIn v (read_elsewhere n rs)
at-or-elsewhere n [] v i = absurd i
at-or-elsewhere n (r ∷ rs) v i = by (nat_eq r.owner n) i (λ m. at-or-elsewhere n rs v m)
  where
    by : (b : Bool) → (v ≡ r.property) ⊎ IsIn v (read_anywhere rs) → (IsIn v (read_anywhere rs) → IsIn v (read_at n rs) ⊎ IsIn v (read_elsewhere n rs)) →
        IsIn v (cond b (r.property ∷ read_at n rs) (read_at n rs)) ⊎ IsIn v (cond b (read_elsewhere n rs) (r.property ∷ read_elsewhere n rs))
    by true i rest = ⊎_elim (λ e. inl (inl e)) (λ m. ⊎_elim (λ a. inl (inr a)) (λ b. inr b) (rest m)) i
    by false i rest = ⊎_elim (λ e. inr (inl e)) (λ m. ⊎_elim (λ a. inl a) (λ b. inr (inr b)) (rest m)) i

elsewhere-behind : (n : ℕ) (xs ys : List Read) → Under (read_elsewhere n ys) (read_elsewhere n (xs ++ ys))
elsewhere-behind n xs ys = listed-second (read_elsewhere n) (elsewhere-split n) xs ys

anywhere-behind : (xs ys : List Read) → Under (read_anywhere ys) (read_anywhere (xs ++ ys))
anywhere-behind xs ys = listed-second read_anywhere anywhere-split xs ys

-- a loop that shares what it may, and of even tuples
reads-none : (ds : List Declaration) (n : ℕ) (mask : Expr) (j : Key) (here : Place) (inner : Head) (test : Expr) (body : Stmt) → shares ds n mask (Foreach j here inner test body) ≡ true → reduces_evenly ds body ≡ true → reads_no_given ds n test body ≡ true
reads-none ds n mask j here inner test body share even = apart-disjoint (given_by ds n body) (told ++ read_anywhere reads) away
  where
    told : List ℕ
    told = told_in test ++ (sights_of ds n true body).scalars

    reads : List Read
    reads = reads_in test ++ (sights_of ds n true body).properties

    all : List Reduced
    all = reduced ds n true body

    own : List ℕ
    own = written ds n true body

    seen : List ℕ
    seen = read_anywhere (reads_in mask ++ ([] ++ (reads_in test ++ (sights_of ds n true body).properties))) ++ ((told_in mask ++ (inner.owner ∷ (told_in test ++ (sights_of ds n true body).scalars))) ++ own)

    else : List ℕ
    else = read_elsewhere n (reads_in mask ++ ([] ++ (reads_in test ++ (sights_of ds n true body).properties)))

    parts : (disjoint (shared_in all) seen ≡ true) × (disjoint (own ++ kept_in all) else ≡ true) × (inner_shares ds n test body ≡ true)
    parts =
        let rest = all_agree all && (inner_shares ds n test body && targets_alike body) in
        let a = both-true (disjoint (shared_in all) seen) (disjoint (own ++ kept_in all) else && (true && rest)) share in
        let b = both-true (disjoint (own ++ kept_in all) else) (true && rest) a.1 in
        let c = both-true (all_agree all) (inner_shares ds n test body && targets_alike body) b.1 in
        (a.0, b.0, (both-true (inner_shares ds n test body) (targets_alike body) c.1).0)

    away : (v : ℕ) → IsIn v (given_by ds n body) → IsIn v (told ++ read_anywhere reads) → ⊥
    away v g i =
        ⊎_elim
        (λ s.
        disjoint-apart (shared_in all) seen v parts.0 s
        (⊎_elim
        (λ t. in-right v (read_anywhere (reads_in mask ++ reads)) ((told_in mask ++ (inner.owner ∷ told)) ++ own) (in-left v (told_in mask ++ (inner.owner ∷ told)) own (in-right v (told_in mask) (inner.owner ∷ told) (inr t))))
        (λ r. in-left v (read_anywhere (reads_in mask ++ reads)) ((told_in mask ++ (inner.owner ∷ told)) ++ own) (anywhere-behind (reads_in mask) reads v r)) (in-either v told (read_anywhere reads) i)))
        (λ k.
        let inside = both-true (disjoint (kept_in all) (read_at n reads ++ told)) (all_last_one_way all) parts.2 in
        ⊎_elim (λ t. disjoint-apart (kept_in all) (read_at n reads ++ told) v inside.0 k (in-right v (read_at n reads) told t))
        (λ r. ⊎_elim (λ a. disjoint-apart (kept_in all) (read_at n reads ++ told) v inside.0 k (in-left v (read_at n reads) told a))
        (λ e. disjoint-apart (own ++ kept_in all) else v parts.1 (in-right v own (kept_in all) k) (elsewhere-behind n (reads_in mask) reads v e)) (at-or-elsewhere n reads v r)) (in-either v told (read_anywhere reads) i))
        (given-where ds n body (shares-alike ds n mask (Foreach j here inner test body) share) even v g)

-- all loops of a phase
givens-apart : (ds : List Declaration) (s : Stmt) → loops_share ds s ≡ true → each_passes (Even ds) s ≡ true → each_passes (gives_apart ds) s ≡ true
givens-apart ds (Then a b) h e =
    let r = both-true (loops_share ds a) (loops_share ds b) h in
    let q = both-true (each_passes (Even ds) a) (each_passes (Even ds) b) e in
    and-true (each_passes (gives_apart ds) a) (each_passes (gives_apart ds) b) (givens-apart ds a r.0 q.0) (givens-apart ds b r.1 q.1)
givens-apart ds (Foreach k at h mask body) s e = one body s e
  where
    one : (body : Stmt) → shares ds h.iterator mask body ≡ true → Even ds k at h mask body ≡ true → gives_apart ds k at h mask body ≡ true
    one (Foreach j here inner test body) s e = or-second (goes_one_way ds h.iterator inner test body) (reads_no_given ds h.iterator test body) (reads-none ds h.iterator mask j here inner test body s e)
    one body s e = refl
givens-apart ds (For k at h test body) s e = givens-apart ds body s e
givens-apart ds (If k c a b) h e =
    let r = both-true (loops_share ds a) (loops_share ds b) h in
    let q = both-true (each_passes (Even ds) a) (each_passes (Even ds) b) e in
    and-true (each_passes (gives_apart ds) a) (each_passes (gives_apart ds) b) (givens-apart ds a r.0 q.0) (givens-apart ds b r.1 q.1)
givens-apart ds (While k at c body) s e = givens-apart ds body s e
givens-apart ds (Do k at body c) s e = givens-apart ds body s e
givens-apart ds s h e = refl

-- ---- prepared programs

module _ (p : Program) (r : Ready2 p) (f : MayBePrepared p) where
  abbrev q : Program
  q = in_pieces (prepared p)

  abbrev a : Program
  a = with_statements_apart (in_pieces (prepared p))

  may-lean : has_slices_that_go a ≡ true → can_be_lean a ≡ true
  may-lean g =
      let even = apart-tuples q (pieces-cut p r f) (pieces-tuples (prepared p) (prepared-ready p r) (is-prepared p r f).tuples) in
      let cut = apart-cut p r f in
      parted-leans a cut (givens-apart a.declarations a.body cut.sane.race_free even) g

  pub lean-same : has_slices_that_go (with_statements_apart (in_pieces (prepared p))) ≡ true → SameMeaning p (dissected p)
  lean-same g = same-trans p q (dissected p) (pieces-same p r f) (same-trans q a (dissected p) (same-apart q (pieces-cut p r f)) (same-lean a (apart-cut p r f) (may-lean g)))

  pub lean-ready : has_slices_that_go (with_statements_apart (in_pieces (prepared p))) ≡ true → Ready3 (dissected p)
  lean-ready g = ready-lean a (apart-cut p r f) (may-lean g)
