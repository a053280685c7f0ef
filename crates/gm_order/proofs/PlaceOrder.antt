-- The order of places, and the place right behind one.
use Rattle.std.proofs.Common.{◌≡◌, ◌<◌, Bool, true, false, ◌⊎◌, inl, inr, refl, sym, ap, ◌∙◌, arith}
use Rattle.std.specs.Prelude.{◌&&◌, ◌||◌, nat_lt, nat_eq}
use Rattle.std.specs.Cmp.Derive.{both_true}
use Rattle.std.proofs.lemmas.Bool.{false≢true, ltb-true, lt-ltb, eqb-true, eq-eqb, or_left, or_right}
use Rattle.gm_base.specs.declared.places.Place.{Place}
use Rattle.gm_base.specs.Places.{place_lt}
use Rattle.gm_forms.proofs.Named.{both-true}
use Rattle.gm_order.specs.Places.{right_behind}

abbrev Before : Place → Place → Type 0
Before p q = (p.line < q.line) ⊎ ((p.line ≡ q.line) × (p.col < q.col))

before-of : (p q : Place) → place_lt p q ≡ true → Before p q
before-of p q h = by (nat_lt p.line q.line) refl
  where
    by : (b : Bool) → nat_lt p.line q.line ≡ b → Before p q
    by true e = inl (ltb-true p.line q.line e)
    by false e =
        let tail : nat_eq p.line q.line && nat_lt p.col q.col ≡ true = ap (λ c. c || (nat_eq p.line q.line && nat_lt p.col q.col)) (sym e) ∙ h in
        let s = both-true (nat_eq p.line q.line) (nat_lt p.col q.col) tail in
        inr (eqb-true p.line q.line s.0, ltb-true p.col q.col s.1)

lt-of : (p q : Place) → Before p q → place_lt p q ≡ true
lt-of p q (inl h) = or_left (nat_lt p.line q.line) (nat_eq p.line q.line && nat_lt p.col q.col) (lt-ltb p.line q.line h)
lt-of p q (inr h) = or_right (nat_lt p.line q.line) (nat_eq p.line q.line && nat_lt p.col q.col) (both_true (eq-eqb p.line q.line h.0) (lt-ltb p.col q.col h.1))

before-trans : (p q r : Place) → Before p q → Before q r → Before p r
before-trans p q r (inl a) (inl b) = inl (omega (arith, a, b))
before-trans p q r (inl a) (inr b) = let e = b.0 in inl (omega (arith, a, e))
before-trans p q r (inr a) (inl b) = let e = a.0 in inl (omega (arith, e, b))
before-trans p q r (inr a) (inr b) = let x = a.1 in let y = b.1 in inr (a.0 ∙ b.0, omega (arith, x, y))

pub place-trans : (p q r : Place) → place_lt p q ≡ true → place_lt q r ≡ true → place_lt p r ≡ true
place-trans p q r h k = lt-of p r (before-trans p q r (before-of p q h) (before-of q r k))

pub self-behind : (p : Place) → place_lt p (right_behind p) ≡ true
self-behind p = lt-of p (right_behind p) (inr (refl, omega arith))

pub later-behind : (p q : Place) → place_lt p q ≡ true → place_lt p (right_behind q) ≡ true
later-behind p q h = place-trans p q (right_behind q) h (self-behind q)

-- what is right behind a place stands before what comes behind a later one
pub behind-before : (p u q : Place) → place_lt p u ≡ true → place_lt u q ≡ true → place_lt (right_behind p) q ≡ true
behind-before p u q h k = lt-of (right_behind p) q (by (before-of p u h) (before-of u q k))
  where
    by : Before p u → Before u q → Before (right_behind p) q
    by (inl a) (inl b) = inl (omega (arith, a, b))
    by (inl a) (inr b) = let e = b.0 in inl (omega (arith, a, e))
    by (inr a) (inl b) = let e = a.0 in inl (omega (arith, e, b))
    by (inr a) (inr b) = let x = a.1 in let y = b.1 in inr (a.0 ∙ b.0, omega (arith, x, y))

-- what stands before the place right behind one does so behind a later one
pub under-later : (x f g : Place) → place_lt x (right_behind f) ≡ true → place_lt f g ≡ true → place_lt x (right_behind g) ≡ true
under-later x f g h k = place-trans x (right_behind f) (right_behind g) h (behind-before f g (right_behind g) k (self-behind g))

-- what does not stand behind a place stands before the one right behind it
pub not-before : (p q : Place) → place_lt p q ≡ false → place_lt q (right_behind p) ≡ true
not-before p q h = lt-of q (right_behind p) (by (nat_lt q.line p.line) refl)
  where
    no : Before p q → ⊥
    no b = false≢true (sym h ∙ lt-of p q b)

    by : (b : Bool) → nat_lt q.line p.line ≡ b → Before q (right_behind p)
    by true e = inl (ltb-true q.line p.line e)
    by false e =
        let above : q.line < p.line → ⊥ = λ l. false≢true (sym e ∙ lt-ltb q.line p.line l) in
        let below : p.line < q.line → ⊥ = λ l. no (inl l) in
        let line : q.line ≡ p.line = omega (arith, above, below) in
        let col : p.col < q.col → ⊥ = λ l. no (inr (sym line, l)) in
        inr (line, omega (arith, col))
