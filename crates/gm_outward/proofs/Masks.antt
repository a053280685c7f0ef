-- What moves to a mask is a mask.
use Rattle.std.proofs.Common.{◌≡◌, ℕ, Bool, true, false, cond, List, [], ◌∷◌, ◌++◌, refl, sym, ap, subst, ◌∙◌, ⊎_elim, inl, inr}
use Rattle.std.specs.Prelude.{◌&&◌, ◌⊎◌, not}
use Rattle.std.proofs.lemmas.Bool.{both_ways}
use Rattle.gm_value.specs.Bag.{IsIn}
use Rattle.gm_ast.specs.declared.tree.Head.{Head}
use Rattle.gm_ast.specs.Ways.{is_in}
use Rattle.gm_ast.specs.Program.{Expr, Both, Const, Var, Property, EdgeProperty, Degree, NodeCount, EdgeCount, Live, Unary, Binary, Either, Choose, Folded, always, Stmt}
use Rattle.gm_forms.specs.Cut.{is_mask, mask_stays, touched}
use Rattle.gm_forms.specs.Forms.{is_flat}
use Rattle.gm_forms.specs.Order.{can_fail1, can_fail2, cannot_fail}
use Rattle.gm_forms.specs.Sharing.{Read, disjoint, read_anywhere, reads_in, told_in}
use Rattle.gm_forms.proofs.CutReads.{anywhere-member}
use Rattle.gm_forms.proofs.CutTests.{found, finds, not-true}
use Rattle.gm_forms.proofs.Doings.{in-left, in-right, in-either}
use Rattle.gm_forms.proofs.Named.{both-true}
use Rattle.gm_forms.proofs.Weaker.{and-true}
use Rattle.gm_loop_laws.specs.Masks.{is_certain, spares}
use Rattle.gm_loop_laws.proofs.Chosen.{disjoint-apart, apart-disjoint}
use Rattle.gm_flip.specs.Flipped.{is_always}
use Rattle.gm_flip.proofs.Basics.{none}
use Rattle.gm_flip.proofs.Sane.{anywhere-out}
use Rattle.gm_outward.specs.Gathered.{together}
use Rattle.gm_outward.specs.Outward.{is_outer, chosen, left}
use Rattle.gm_outward.proofs.Parts.{Alone, by-parts}

-- what cannot fault where its iterators hold nodes
pub certain-of : (its : List ℕ) (edge : Bool) (e : Expr) → cannot_fail e ≡ true → is_flat its edge e ≡ true → is_certain its e ≡ true
certain-of its edge (Const v) c f = refl
certain-of its edge (Var x at) c f = refl
certain-of its edge (Property x p at) c f = f
certain-of its edge (EdgeProperty x p at) c f = refl
certain-of its edge (Degree d x at) c f = f
certain-of its edge NodeCount c f = refl
certain-of its edge EdgeCount c f = refl
certain-of its edge (Live x at) c f = none c
certain-of its edge (Unary op at e) c f = let q = both-true (not (can_fail1 op)) (cannot_fail e) c in and-true (not (can_fail1 op)) (is_certain its e) q.0 (certain-of its edge e q.1 f)
certain-of its edge (Binary op at a b) c f =
    let q = both-true (not (can_fail2 op)) (cannot_fail a && cannot_fail b) c in
    let r = both-true (cannot_fail a) (cannot_fail b) q.1 in
    let g = both-true (is_flat its edge a) (is_flat its edge b) f in
    and-true (not (can_fail2 op)) (is_certain its a && is_certain its b) q.0 (and-true (is_certain its a) (is_certain its b) (certain-of its edge a r.0 g.0) (certain-of its edge b r.1 g.1))
certain-of its edge (Both a b) c f =
    let r = both-true (cannot_fail a) (cannot_fail b) c in
    let g = both-true (is_flat its edge a) (is_flat its edge b) f in
    and-true (is_certain its a) (is_certain its b) (certain-of its edge a r.0 g.0) (certain-of its edge b r.1 g.1)
certain-of its edge (Either a b) c f =
    let r = both-true (cannot_fail a) (cannot_fail b) c in
    let g = both-true (is_flat its edge a) (is_flat its edge b) f in
    and-true (is_certain its a) (is_certain its b) (certain-of its edge a r.0 g.0) (certain-of its edge b r.1 g.1)
certain-of its edge (Choose e a b) c f =
    let q = both-true (cannot_fail e) (cannot_fail a && cannot_fail b) c in
    let r = both-true (cannot_fail a) (cannot_fail b) q.1 in
    let h = both-true (is_flat its edge e) (is_flat its edge a && is_flat its edge b) f in
    let g = both-true (is_flat its edge a) (is_flat its edge b) h.1 in
    and-true (is_certain its e) (is_certain its a && is_certain its b) (certain-of its edge e q.0 h.0) (and-true (is_certain its a) (is_certain its b) (certain-of its edge a r.0 g.0) (certain-of its edge b r.1 g.1))
certain-of its edge (Folded fold h t e) c f = none c

-- a property of expressions that two together have where both have it, and that the condition that passes everything has
module _ (Q : Expr → Type 0) (passes : Q always) (pair : (a b : Expr) → Q a → Q b → Q (Both a b)) where
  pub together-has : (a b : Expr) → Q a → Q b → Q (together a b)
  together-has a b p q = by (is_always a) (is_always b)
    where
      by : (c d : Bool) → Q (cond c b (cond d a (Both a b)))
      by true d = q
      by false true = p
      by false false = pair a b p q

  -- what is chosen has it where what passes the test does
  pub chosen-has : (test : Expr → Bool) → ((e : Expr) → test e ≡ true → Q e) → (e : Expr) → Q (chosen test e)
  chosen-has test fine = by-parts test (λ e. Q (chosen test e)) two one
    where
      way : (c : Bool) (b : Expr) → Q b → Q (cond c b always)
      way true b q = q
      way false b q = passes

      two : (a b : Expr) → Q (chosen test a) → Q (chosen test b) → Q (chosen test (Both a b))
      two a b p q = together-has (chosen test a) (cond (cannot_fail a) (chosen test b) always) p (way (cannot_fail a) (chosen test b) q)

      one : (e : Expr) → Alone test e → Q (chosen test e)
      one e alone = subst Q (sym alone.chosen_is) (by (test e) refl)
        where
          by : (b : Bool) → test e ≡ b → Q (cond b e always)
          by true t = fine e t
          by false t = passes

  -- both have it where all of the filter does
  module _ (halves : (a b : Expr) → Q (Both a b) → Q a × Q b) (test : Expr → Bool) where
    pub left-has : (e : Expr) → Q e → Q (left test e)
    left-has = by-parts test (λ e. Q e → Q (left test e)) two one
      where
        two : (a b : Expr) → (Q a → Q (left test a)) → (Q b → Q (left test b)) → Q (Both a b) → Q (left test (Both a b))
        two a b f g h = let p = halves a b h in together-has (left test a) (cond (cannot_fail a) (left test b) b) (f p.0) (by (cannot_fail a) p.1)
          where
            by : (c : Bool) → Q b → Q (cond c (left test b) b)
            by true q = g q
            by false q = q

        one : (e : Expr) → Alone test e → Q e → Q (left test e)
        one e alone q = subst Q (sym alone.left_is) (by (test e))
          where
            by : (b : Bool) → Q (cond b always e)
            by true = passes
            by false = q

    pub chosen-of : (e : Expr) → Q e → Q (chosen test e)
    chosen-of = by-parts test (λ e. Q e → Q (chosen test e)) two one
      where
        two : (a b : Expr) → (Q a → Q (chosen test a)) → (Q b → Q (chosen test b)) → Q (Both a b) → Q (chosen test (Both a b))
        two a b f g h = let p = halves a b h in together-has (chosen test a) (cond (cannot_fail a) (chosen test b) always) (f p.0) (by (cannot_fail a) p.1)
          where
            by : (c : Bool) → Q b → Q (cond c (chosen test b) always)
            by true q = g q
            by false q = passes

        one : (e : Expr) → Alone test e → Q e → Q (chosen test e)
        one e alone q = subst Q (sym alone.chosen_is) (by (test e))
          where
            by : (b : Bool) → Q (cond b e always)
            by true = q
            by false = passes

-- masks
mask-both : (n : ℕ) (a b : Expr) → is_mask n a ≡ true → is_mask n b ≡ true → is_mask n (Both a b) ≡ true
mask-both n a b p q =
    let r = both-true (cannot_fail a) (is_flat (n ∷ []) false a) p in
    let s = both-true (cannot_fail b) (is_flat (n ∷ []) false b) q in
    and-true (cannot_fail a && cannot_fail b) (is_flat (n ∷ []) false a && is_flat (n ∷ []) false b) (and-true (cannot_fail a) (cannot_fail b) r.0 s.0) (and-true (is_flat (n ∷ []) false a) (is_flat (n ∷ []) false b) r.1 s.1)

pub mask-together : (n : ℕ) (a b : Expr) → is_mask n a ≡ true → is_mask n b ≡ true → is_mask n (together a b) ≡ true
mask-together n = together-has (λ e. is_mask n e ≡ true) refl (mask-both n)

-- what is chosen of a filter is a mask of the outer node
pub mask-chosen : (n : ℕ) (h : Head) (body : Stmt) (e : Expr) → is_mask n (chosen (is_outer n h body) e) ≡ true
mask-chosen n h body = chosen-has (λ e. is_mask n e ≡ true) refl (mask-both n) (is_outer n h body) (λ e t. (both-true (is_mask n e) (spares (h.iterator ∷ touched body) e) t).0)

-- ---- what is read

-- the reads of an expression are among some
abbrev pub Reads : List Read → Expr → Type 0
Reads l e = (r : Read) → IsIn r (reads_in e) → IsIn r l

reads-both : (l : List Read) (a b : Expr) → Reads l a → Reads l b → Reads l (Both a b)
reads-both l a b p q r i = ⊎_elim (λ j. p r j) (λ j. q r j) (in-either r (reads_in a) (reads_in b) i)

reads-halves : (l : List Read) (a b : Expr) → Reads l (Both a b) → Reads l a × Reads l b
reads-halves l a b h = (λ r i. h r (in-left r (reads_in a) (reads_in b) i), λ r i. h r (in-right r (reads_in a) (reads_in b) i))

pub reads-together : (l : List Read) (a b : Expr) → Reads l a → Reads l b → Reads l (together a b)
reads-together l = together-has (Reads l) (λ r i. absurd i) (reads-both l)

pub reads-left : (l : List Read) (test : Expr → Bool) (e : Expr) → Reads l e → Reads l (left test e)
reads-left l test = left-has (Reads l) (λ r i. absurd i) (reads-both l) (reads-halves l) test

pub reads-chosen : (l : List Read) (test : Expr → Bool) (e : Expr) → Reads l e → Reads l (chosen test e)
reads-chosen l test = chosen-of (Reads l) (λ r i. absurd i) (reads-both l) (reads-halves l) test

-- so are the variables that it names
abbrev pub Tells : List ℕ → Expr → Type 0
Tells l e = (y : ℕ) → IsIn y (told_in e) → IsIn y l

tells-both : (l : List ℕ) (a b : Expr) → Tells l a → Tells l b → Tells l (Both a b)
tells-both l a b p q y i = ⊎_elim (λ j. p y j) (λ j. q y j) (in-either y (told_in a) (told_in b) i)

tells-halves : (l : List ℕ) (a b : Expr) → Tells l (Both a b) → Tells l a × Tells l b
tells-halves l a b h = (λ y i. h y (in-left y (told_in a) (told_in b) i), λ y i. h y (in-right y (told_in a) (told_in b) i))

pub tells-together : (l : List ℕ) (a b : Expr) → Tells l a → Tells l b → Tells l (together a b)
tells-together l = together-has (Tells l) (λ y i. absurd i) (tells-both l)

pub tells-left : (l : List ℕ) (test : Expr → Bool) (e : Expr) → Tells l e → Tells l (left test e)
tells-left l test = left-has (Tells l) (λ y i. absurd i) (tells-both l) (tells-halves l) test

pub tells-chosen : (l : List ℕ) (test : Expr → Bool) (e : Expr) → Tells l e → Tells l (chosen test e)
tells-chosen l test = chosen-of (Tells l) (λ y i. absurd i) (tells-both l) (tells-halves l) test

-- an expression that spares variables neither names nor reads any of them
module _ (xs : List ℕ) where
  abbrev pub Spared : Expr → Type 0
  Spared e = ((y : ℕ) → IsIn y (told_in e) → is_in xs y ≡ false) × ((y : ℕ) → IsIn y (read_anywhere (reads_in e)) → is_in xs y ≡ false)

  alone : (x y : ℕ) → not (is_in xs x) ≡ true → IsIn y (x ∷ []) → is_in xs y ≡ false
  alone x y h i = ⊎_elim (λ (e : y ≡ x). ap (is_in xs) e ∙ not-true (is_in xs x) h) (λ z. absurd z) i

  pair : (a b : Expr) → Spared a → Spared b → ((y : ℕ) → IsIn y (told_in a ++ told_in b) → is_in xs y ≡ false) × ((y : ℕ) → IsIn y (read_anywhere (reads_in a ++ reads_in b)) → is_in xs y ≡ false)
  pair a b p q = (
    λ y i. ⊎_elim (λ j. p.0 y j) (λ j. q.0 y j) (in-either y (told_in a) (told_in b) i),
    λ y i. let r = anywhere-out (reads_in a ++ reads_in b) y i in
        ⊎_elim (λ k. p.1 y (subst (λ z. IsIn z (read_anywhere (reads_in a))) (sym r.2) (anywhere-member (reads_in a) r.0 k))) (λ k. q.1 y (subst (λ z. IsIn z (read_anywhere (reads_in b))) (sym r.2) (anywhere-member (reads_in b) r.0 k)))
        (in-either r.0 (reads_in a) (reads_in b) r.1),
  )

  two : (a b : Expr) → (spares xs a ≡ true → Spared a) → (spares xs b ≡ true → Spared b) → spares xs a && spares xs b ≡ true → ((y : ℕ) → IsIn y (told_in a ++ told_in b) → is_in xs y ≡ false) × ((y : ℕ) → IsIn y (read_anywhere (reads_in a ++ reads_in b)) → is_in xs y ≡ false)
  two a b f g h = let r = both-true (spares xs a) (spares xs b) h in pair a b (f r.0) (g r.1)

  pub spared : (e : Expr) → spares xs e ≡ true → Spared e
  spared (Const v) h = (λ y i. absurd i, λ y i. absurd i)
  spared (Var x at) h = (λ y i. alone x y h i, λ y i. absurd i)
  spared (Property x p at) h = let r = both-true (not (is_in xs x)) (not (is_in xs p)) h in (λ y i. alone x y r.0 i, λ y i. alone p y r.1 i)
  spared (EdgeProperty x p at) h = (λ y i. absurd i, λ y i. absurd i)
  spared (Degree d x at) h = (λ y i. alone x y h i, λ y i. absurd i)
  spared NodeCount h = (λ y i. absurd i, λ y i. absurd i)
  spared EdgeCount h = (λ y i. absurd i, λ y i. absurd i)
  spared (Live x at) h = (λ y i. alone x y h i, λ y i. absurd i)
  spared (Unary op at e) h = spared e h
  spared (Binary op at a b) h = two a b (spared a) (spared b) h
  spared (Both a b) h = two a b (spared a) (spared b) h
  spared (Either a b) h = two a b (spared a) (spared b) h
  spared (Choose c a b) h =
      let r = both-true (spares xs c) (spares xs a && spares xs b) h in
      pair c (Both a b) (spared c r.0) (two a b (spared a) (spared b) r.1)
  spared (Folded f hd c e) h = none h

-- ---- masks that stay

module _ (n : ℕ) (h : Head) (body : Stmt) where
  abbrev t : ℕ
  t = h.iterator

  -- a mask stays where the body changes neither iterator nor what it reads, and it does not name the inner iterator
  pub record Stays (e : Expr) : Type 0 where
    pub ends : (y : ℕ) → IsIn y (touched body) → IsIn y (n ∷ (t ∷ [])) → ⊥
    pub read : (y : ℕ) → IsIn y (touched body) → IsIn y (read_anywhere (reads_in e)) → ⊥
    pub told : (y : ℕ) → IsIn y (touched body) → IsIn y (told_in e) → ⊥
    pub out : is_in (told_in e) t ≡ false

  pub stays-from : (e : Expr) → mask_stays n e h body ≡ true → Stays e
  stays-from e s =
      let m = both-true (disjoint (touched body) (n ∷ (t ∷ (read_anywhere (reads_in e) ++ told_in e)))) (not (is_in (told_in e) t)) s in
      let apart = disjoint-apart (touched body) (n ∷ (t ∷ (read_anywhere (reads_in e) ++ told_in e))) in
      record {
        ends = λ y i j. apart y m.0 i (⊎_elim (λ a. inl a) (λ r. ⊎_elim (λ b. inr (inl b)) (λ z. absurd z) r) j);
        read = λ y i j. apart y m.0 i (inr (inr (in-left y (read_anywhere (reads_in e)) (told_in e) j)));
        told = λ y i j. apart y m.0 i (inr (inr (in-right y (read_anywhere (reads_in e)) (told_in e) j)));
        out = not-true (is_in (told_in e) t) m.1;
      }

  pub stays-to : (e : Expr) → Stays e → mask_stays n e h body ≡ true
  stays-to e s =
      and-true (disjoint (touched body) (n ∷ (t ∷ (read_anywhere (reads_in e) ++ told_in e)))) (not (is_in (told_in e) t))
      (apart-disjoint (touched body) (n ∷ (t ∷ (read_anywhere (reads_in e) ++ told_in e)))
      (λ y i j. ⊎_elim (λ a. s.ends y i (inl a)) (λ r. ⊎_elim (λ b. s.ends y i (inr (inl b))) (λ q. ⊎_elim (λ a. s.read y i a) (λ b. s.told y i b) (in-either y (read_anywhere (reads_in e)) (told_in e) q)) r) j))
      (ap not s.out)

  stays-both : (a b : Expr) → Stays a → Stays b → Stays (Both a b)
  stays-both a b p q = record {
    ends = p.ends;
    read = λ y i j. let r = anywhere-out (reads_in a ++ reads_in b) y j in
        ⊎_elim (λ k. p.read y i (subst (λ z. IsIn z (read_anywhere (reads_in a))) (sym r.2) (anywhere-member (reads_in a) r.0 k))) (λ k. q.read y i (subst (λ z. IsIn z (read_anywhere (reads_in b))) (sym r.2) (anywhere-member (reads_in b) r.0 k)))
        (in-either r.0 (reads_in a) (reads_in b) r.1);
    told = λ y i j. ⊎_elim (λ k. p.told y i k) (λ k. q.told y i k) (in-either y (told_in a) (told_in b) j);
    out = by (is_in (told_in a ++ told_in b) t) refl;
  }
    where
      by : (c : Bool) → is_in (told_in a ++ told_in b) t ≡ c → is_in (told_in a ++ told_in b) t ≡ false
      by false e = e
      by true e = absurd (⊎_elim (λ k. both_ways (is_in (told_in a) t) p.out (finds (told_in a) t k)) (λ k. both_ways (is_in (told_in b) t) q.out (finds (told_in b) t k)) (in-either t (told_in a) (told_in b) (found (told_in a ++ told_in b) t e)))

  -- what is chosen stays where a mask does
  module _ (mask : Expr) (m : Stays mask) where
    always-stays : Stays always
    always-stays = record { ends = m.ends; read = λ y i j. absurd j; told = λ y i j. absurd j; out = refl }

    pub stays-together : (a b : Expr) → Stays a → Stays b → Stays (together a b)
    stays-together = together-has Stays always-stays stays-both

    outer-stays : (e : Expr) → spares (t ∷ touched body) e ≡ true → Stays e
    outer-stays e h =
        let s = spared (t ∷ touched body) e h in
        record {
          ends = m.ends;
          read = λ y i j. both_ways (is_in (t ∷ touched body) y) (s.1 y j) (finds (t ∷ touched body) y (inr i));
          told = λ y i j. both_ways (is_in (t ∷ touched body) y) (s.0 y j) (finds (t ∷ touched body) y (inr i));
          out = by (is_in (told_in e) t) refl (s.0 t);
        }
      where
        by : (b : Bool) → is_in (told_in e) t ≡ b → (IsIn t (told_in e) → is_in (t ∷ touched body) t ≡ false) → is_in (told_in e) t ≡ false
        by false g f = g
        by true g f = absurd (both_ways (is_in (t ∷ touched body) t) (f (found (told_in e) t g)) (finds (t ∷ touched body) t (inl refl)))

    pub stays-outer : (e : Expr) → is_outer n h body e ≡ true → Stays e
    stays-outer e c = outer-stays e (both-true (is_mask n e) (spares (t ∷ touched body) e) c).1

    pub stays-chosen : (e : Expr) → Stays (chosen (is_outer n h body) e)
    stays-chosen = chosen-has Stays always-stays stays-both (is_outer n h body) stays-outer
