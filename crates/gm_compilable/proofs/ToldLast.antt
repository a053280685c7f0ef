-- The last passes keep what may be told: a loop that is turned tells both its iterators in its inner loop, and what is asked at the outer node tells no inner iterator.
use Rattle.std.proofs.Common.{◌≡◌, ℕ, Bool, true, false, cond, List, ◌∷◌, refl}
use Rattle.std.specs.Prelude.{◌&&◌, ◌||◌, nat_eq}
use Rattle.std.proofs.lemmas.Bool.{both_ways, not-true}
use Rattle.gm_base.specs.declared.places.Place.{Place}
use Rattle.gm_ast.specs.declared.tree.Head.{Head}
use Rattle.gm_ast.specs.declared.tree.Key.{Key}
use Rattle.gm_ast.specs.Program.{Expr, Const, Var, Property, EdgeProperty, Degree, NodeCount, EdgeCount, Live, Unary, Binary, Both, Either, Choose, Folded, always, Stmt, Skip, Then, Declare, DeclareEdge, Assign, Defer, Combine, Group, Foreach, For, If, While, Do, InBfs, InBfsBoth, Return}
use Rattle.gm_ast.specs.Ways.{is_in}
use Rattle.gm_forms.specs.Cut.{is_mask, touched}
use Rattle.gm_forms.specs.Order.{cannot_fail}
use Rattle.gm_forms.proofs.Named.{both-true}
use Rattle.gm_loop_laws.specs.Masks.{spares}
use Rattle.gm_flip.specs.Flipped as Flipped
use Rattle.gm_flip.specs.Flipped.{joined, turned, flipped_loop, flipped}
use Rattle.gm_flip.specs.Pulling.{pulls}
use Rattle.gm_outward.specs.Gathered.{together, is_idle, is_one_reduction, conditions, reduction, gathered_filter, gathered_body}
use Rattle.gm_outward.specs.Outward.{is_outer, chosen, left, asked_loop, asked_outward}
use Rattle.gm_compilable.proofs.Telling.{Tells, MayTell, AllTell, Body, Phase, tells-more, body-more}

-- both: what may be told in an inner loop, by the outer iterator and the inner one
module _ (fors out : ℕ → Type 0) (inn : ℕ → ℕ → Type 0) (both : ℕ → ℕ → ℕ → Type 0) where
  -- the body of a loop at a node
  abbrev pub Edged : ℕ → Stmt → Type 0
  Edged n (Foreach k at h test body) = Tells (both n h.iterator) test × Body (both n h.iterator) body
  Edged n s = Body (inn n) s

  -- a sequential phase
  abbrev pub Last : Stmt → Type 0
  Last (Then a b) = Last a × Last b
  Last (Declare k x e) = MayTell out e
  Last (Assign k t e) = Tells out e
  Last (Combine k total r ts es) = AllTell out es
  Last (Group k at g p e) = Tells (inn g) e
  Last (Foreach k at h test body) = Tells (inn h.iterator) test × Edged h.iterator body
  Last (For k at h test body) = fors h.iterator × (Tells out test × Last body)
  Last (If k c a b) = Tells out c × (Last a × Last b)
  Last (While k at c body) = Tells out c × Last body
  Last (Do k at body c) = Last body × Tells out c
  Last (InBfs k at s test body) = Tells (inn s.iterator) test × Body (inn s.iterator) body
  Last (InBfsBoth k at s test body back_key back_test back) =
      (Tells (inn s.iterator) test × Body (inn s.iterator) body) × (Tells (inn s.iterator) back_test × Body (inn s.iterator) back)
  Last (Return k at e) = MayTell out e
  Last s = Unit {0}

  -- ---- loops that are turned

  module _ (outer : (n i x : ℕ) → inn n x → both n i x) (turns : (n i x : ℕ) → inn n x → both i n x) where
    edged : (n : ℕ) (s : Stmt) → Body (inn n) s → Edged n s
    edged n (Foreach k at hd test s) h = let i = hd.iterator in (tells-more (inn n) (both n i) (outer n i) test h.0, body-more (inn n) (both n i) (outer n i) s h.1)
    edged n Skip h = h
    edged n (Then a b) h = h
    edged n (Declare k x e) h = h
    edged n (DeclareEdge x y at) h = h
    edged n (Assign k t e) h = h
    edged n (Defer k t e) h = h
    edged n (Combine k total r ts es) h = h
    edged n (Group k at g p e) h = h
    edged n (For k at hd test s) h = h
    edged n (If k c a b) h = h
    edged n (While k at c s) h = h
    edged n (Do k at s c) h = h
    edged n (InBfs k at s test body) h = h
    edged n (InBfsBoth k at s test body back_key back_test back) h = h
    edged n (Return k at e) h = h

    joined-tells : (told : ℕ → Type 0) (mask test : Expr) → Tells told mask → Tells told test → Tells told (joined mask test)
    joined-tells told mask test h k = by (Flipped.is_always mask)
      where
        by : (nothing : Bool) → Tells told (cond nothing test (Both mask test))
        by true = k
        by false = (h, k)

    turned-told : (k : Key) (at : Place) (hd : Head) (mask : Expr) (s : Stmt) → Tells (inn hd.iterator) mask → Body (inn hd.iterator) s → Last (turned k at hd mask s)
    turned-told k at hd mask (Foreach j here i test body) h x =
        let n = hd.iterator in
        let t = both i.iterator n in
        let more = turns n i.iterator in
        (refl, (joined-tells t mask test (tells-more (inn n) t more mask h) (tells-more (inn n) t more test x.0), body-more (inn n) t more body x.1))
    turned-told k at hd mask Skip h x = (h, x)
    turned-told k at hd mask (Then a b) h x = (h, x)
    turned-told k at hd mask (Declare l y e) h x = (h, x)
    turned-told k at hd mask (DeclareEdge y z p) h x = (h, x)
    turned-told k at hd mask (Assign l t e) h x = (h, x)
    turned-told k at hd mask (Defer l t e) h x = (h, x)
    turned-told k at hd mask (Combine l total r ts es) h x = (h, x)
    turned-told k at hd mask (Group l p g q e) h x = (h, x)
    turned-told k at hd mask (For l p i test s) h x = (h, x)
    turned-told k at hd mask (If l c a b) h x = (h, x)
    turned-told k at hd mask (While l p c s) h x = (h, x)
    turned-told k at hd mask (Do l p s c) h x = (h, x)
    turned-told k at hd mask (InBfs l p s test body) h x = (h, x)
    turned-told k at hd mask (InBfsBoth l p s test body back_key back_test back) h x = (h, x)
    turned-told k at hd mask (Return l p e) h x = (h, x)

    loop-told : (k : Key) (at : Place) (hd : Head) (mask : Expr) (body : Stmt) → Tells (inn hd.iterator) mask → Body (inn hd.iterator) body → Last (flipped_loop k at hd mask body)
    loop-told k at hd mask body h x = by (pulls hd.iterator body)
      where
        by : (turn : Bool) → Last (cond turn (turned k at hd mask body) (Foreach k at hd mask body))
        by true = turned-told k at hd mask body h x
        by false = (h, edged hd.iterator body x)

    pub pulls-told : (s : Stmt) → Phase fors out inn s → Last (flipped s)
    pulls-told (Then a b) h = (pulls-told a h.0, pulls-told b h.1)
    pulls-told (Foreach k at hd mask body) h = loop-told k at hd mask body h.0 h.1
    pulls-told (For k at hd test body) h = (h.0, (h.1.0, pulls-told body h.1.1))
    pulls-told (If k c a b) h = (h.0, (pulls-told a h.1.0, pulls-told b h.1.1))
    pulls-told (While k at c body) h = (h.0, pulls-told body h.1)
    pulls-told (Do k at body c) h = (pulls-told body h.0, h.1)
    pulls-told Skip h = h
    pulls-told (Declare k x e) h = h
    pulls-told (DeclareEdge x y at) h = h
    pulls-told (Assign k t e) h = h
    pulls-told (Defer k t e) h = h
    pulls-told (Combine k total r ts es) h = h
    pulls-told (Group k at g p e) h = h
    pulls-told (InBfs k at s test body) h = h
    pulls-told (InBfsBoth k at s test body back_key back_test back) h = h
    pulls-told (Return k at e) h = h

  -- ---- conditions that are asked at the outer node

  module _ (apart : (n i x : ℕ) → nat_eq x i ≡ false → both n i x → inn n x) where
    together-tells : (told : ℕ → Type 0) (a b : Expr) → Tells told a → Tells told b → Tells told (together a b)
    together-tells told a b h k = by (Flipped.is_always a) (Flipped.is_always b)
      where
        by : (x y : Bool) → Tells told (cond x b (cond y a (Both a b)))
        by true y = k
        by false true = h
        by false false = (h, k)

    conditions-tell : (told : ℕ → Type 0) (s : Stmt) → Body told s → Tells told (conditions s)
    conditions-tell told (Then a b) h = by (is_idle a) (conditions-tell told a h.0) (conditions-tell told b h.1)
      where
        by : (idle : Bool) → Tells told (conditions a) → Tells told (conditions b) → Tells told (cond idle (conditions b) (conditions a))
        by true x y = y
        by false x y = x
    conditions-tell told (If k c a b) h = together-tells told c (conditions a) h.0 (conditions-tell told a h.1.0)
    conditions-tell told s h = refl

    reduction-tells : (told : ℕ → Type 0) (s : Stmt) → Body told s → Body told (reduction s)
    reduction-tells told (Then a b) h = by (is_idle a) (reduction-tells told a h.0) (reduction-tells told b h.1)
      where
        by : (idle : Bool) → Body told (reduction a) → Body told (reduction b) → Body told (cond idle (reduction b) (reduction a))
        by true x y = y
        by false x y = x
    reduction-tells told (If k c a b) h = reduction-tells told a h.1.0
    reduction-tells told s h = h

    filter-tells : (told : ℕ → Type 0) (test : Expr) (s : Stmt) → Tells told test → Body told s → Tells told (gathered_filter test s)
    filter-tells told test s h x = by (is_one_reduction s)
      where
        by : (lone : Bool) → Tells told (cond lone (together test (conditions s)) test)
        by true = together-tells told test (conditions s) h (conditions-tell told s x)
        by false = h

    body-tells : (told : ℕ → Type 0) (s : Stmt) → Body told s → Body told (gathered_body s)
    body-tells told s x = by (is_one_reduction s)
      where
        by : (lone : Bool) → Body told (cond lone (reduction s) s)
        by true = reduction-tells told s x
        by false = x

    spared : (n i : ℕ) (changed : List ℕ) (e : Expr) → spares (i ∷ changed) e ≡ true → Tells (both n i) e → Tells (inn n) e
    spared n i changed (Const v) s h = h
    spared n i changed (Var x at) s h = apart n i x (left-false (nat_eq x i) (is_in changed x) (not-true (is_in (i ∷ changed) x) s)) h
      where
        left-false : (a b : Bool) → a || b ≡ false → a ≡ false
        left-false false b e = refl
        left-false true b e = e
    spared n i changed (Property x p at) s h = tt
    spared n i changed (EdgeProperty x p at) s h = tt
    spared n i changed (Degree d x at) s h = tt
    spared n i changed NodeCount s h = tt
    spared n i changed EdgeCount s h = tt
    spared n i changed (Live x at) s h = tt
    spared n i changed (Unary op at e) s h = spared n i changed e s h
    spared n i changed (Binary op at a b) s h = let q = both-true (spares (i ∷ changed) a) (spares (i ∷ changed) b) s in (spared n i changed a q.0 h.0, spared n i changed b q.1 h.1)
    spared n i changed (Both a b) s h = let q = both-true (spares (i ∷ changed) a) (spares (i ∷ changed) b) s in (spared n i changed a q.0 h.0, spared n i changed b q.1 h.1)
    spared n i changed (Either a b) s h = let q = both-true (spares (i ∷ changed) a) (spares (i ∷ changed) b) s in (spared n i changed a q.0 h.0, spared n i changed b q.1 h.1)
    spared n i changed (Choose c a b) s h =
        let q = both-true (spares (i ∷ changed) c) (spares (i ∷ changed) a && spares (i ∷ changed) b) s in
        let r = both-true (spares (i ∷ changed) a) (spares (i ∷ changed) b) q.1 in
        (spared n i changed c q.0 h.0, (spared n i changed a r.0 h.1.0, spared n i changed b r.1 h.1.1))
    spared n i changed (Folded f hd test e) s h = absurd (both_ways false refl s)

    module _ (n : ℕ) (hd : Head) (s : Stmt) where
      abbrev i : ℕ
      i = hd.iterator

      one-tells : (e : Expr) → Tells (both n i) e → Tells (inn n) (cond (is_outer n hd s e) e always)
      one-tells e h = by (is_outer n hd s e) refl
        where
          by : (b : Bool) → is_outer n hd s e ≡ b → Tells (inn n) (cond b e always)
          by true q = spared n i (touched s) e (both-true (is_mask n e) (spares (i ∷ touched s) e) q).1 h
          by false q = refl

      chosen-tells : (e : Expr) → Tells (both n i) e → Tells (inn n) (chosen (is_outer n hd s) e)
      chosen-tells (Both a b) h =
          together-tells (inn n) (chosen (is_outer n hd s) a) (cond (cannot_fail a) (chosen (is_outer n hd s) b) always) (chosen-tells a h.0) (by (cannot_fail a) (chosen-tells b h.1))
        where
          by : (c : Bool) → Tells (inn n) (chosen (is_outer n hd s) b) → Tells (inn n) (cond c (chosen (is_outer n hd s) b) always)
          by true k = k
          by false k = refl
      chosen-tells e h = one-tells e h

      rest-tells : (e : Expr) → Tells (both n i) e → Tells (both n i) (cond (is_outer n hd s e) always e)
      rest-tells e h = by (is_outer n hd s e)
        where
          by : (b : Bool) → Tells (both n i) (cond b always e)
          by true = refl
          by false = h

      left-tells : (e : Expr) → Tells (both n i) e → Tells (both n i) (left (is_outer n hd s) e)
      left-tells (Both a b) h = together-tells (both n i) (left (is_outer n hd s) a) (cond (cannot_fail a) (left (is_outer n hd s) b) b) (left-tells a h.0) (by (cannot_fail a) (left-tells b h.1))
        where
          by : (c : Bool) → Tells (both n i) (left (is_outer n hd s) b) → Tells (both n i) (cond c (left (is_outer n hd s) b) b)
          by true k = k
          by false k = h.1
      left-tells e h = rest-tells e h

    asked-told : (k : Key) (at : Place) (hd : Head) (mask : Expr) (s : Stmt) → Tells (inn hd.iterator) mask → Edged hd.iterator s → Last (asked_loop k at hd mask s)
    asked-told k at hd mask (Foreach j here i test s) h x =
        let n = hd.iterator in
        let t = both n i.iterator in
        let filter = gathered_filter test s in
        let inner = gathered_body s in
        let f = filter-tells t test s x.0 x.1 in
        (together-tells (inn n) mask (chosen (is_outer n i inner) filter) h (chosen-tells n i inner filter f), (left-tells n i inner filter f, body-tells t s x.1))
    asked-told k at hd mask Skip h x = (h, x)
    asked-told k at hd mask (Then a b) h x = (h, x)
    asked-told k at hd mask (Declare l y e) h x = (h, x)
    asked-told k at hd mask (DeclareEdge y z p) h x = (h, x)
    asked-told k at hd mask (Assign l t e) h x = (h, x)
    asked-told k at hd mask (Defer l t e) h x = (h, x)
    asked-told k at hd mask (Combine l total r ts es) h x = (h, x)
    asked-told k at hd mask (Group l p g q e) h x = (h, x)
    asked-told k at hd mask (For l p i test s) h x = (h, x)
    asked-told k at hd mask (If l c a b) h x = (h, x)
    asked-told k at hd mask (While l p c s) h x = (h, x)
    asked-told k at hd mask (Do l p s c) h x = (h, x)
    asked-told k at hd mask (InBfs l p s test body) h x = (h, x)
    asked-told k at hd mask (InBfsBoth l p s test body back_key back_test back) h x = (h, x)
    asked-told k at hd mask (Return l p e) h x = (h, x)

    pub outward-told : (s : Stmt) → Last s → Last (asked_outward s)
    outward-told (Then a b) h = (outward-told a h.0, outward-told b h.1)
    outward-told (Foreach k at hd mask body) h = asked-told k at hd mask body h.0 h.1
    outward-told (For k at hd test body) h = (h.0, (h.1.0, outward-told body h.1.1))
    outward-told (If k c a b) h = (h.0, (outward-told a h.1.0, outward-told b h.1.1))
    outward-told (While k at c body) h = (h.0, outward-told body h.1)
    outward-told (Do k at body c) h = (outward-told body h.0, h.1)
    outward-told s h = h
