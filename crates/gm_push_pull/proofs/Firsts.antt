-- Places in their order, the first of some, and the least violation at these.
use Rattle.std.proofs.Common.{◌≡◌, ◌<◌, ◌≤◌, Bool, true, false, ◌||◌, ◌&&◌, not, List, [], ◌∷◌, map, refl, sym, ap, ◌∙◌, ◌⊎◌, inl, inr, Option, Some, None, is_some, option_map, arith}
use Rattle.std.specs.Prelude.{if◌then◌else◌, nat_lt, nat_eq}
use Rattle.std.proofs.lemmas.Bool.{true≢false, false≢true, and_parts, and_from, or_cases, or_left, or_right, ltb-true, eqb-true, eq-eqb, lt-ltb, cases_lt}
use Rattle.gm_base.specs.declared.places.Place.{Place}
use Rattle.gm_base.specs.declared.rules.Rule.TheVariants.{C7}
use Rattle.gm_base.specs.Places.{place_lt, place_eq}
use Rattle.gm_base.specs.Rules.{broken_at, refusal_lt, lesser, least_from}
use Rattle.gm_ast.specs.Loops.{any}
use Rattle.gm_push_pull.specs.Places.{earlier, first_from, is_by, there_by}
use Rattle.gm_push_pull.proofs.Ors.{or-assoc, or-nothing}

-- the order of places, in numbers
abbrev pub IsBefore : Place → Place → Type 0
IsBefore a b = (a.line < b.line) ⊎ ((a.line ≡ b.line) × (a.col < b.col))

pub before-true : (a b : Place) → place_lt a b ≡ true → IsBefore a b
before-true a b h = on (or_cases (nat_lt a.line b.line) (nat_eq a.line b.line && nat_lt a.col b.col) h)
  where
    on : ((nat_lt a.line b.line ≡ true) ⊎ ((nat_eq a.line b.line && nat_lt a.col b.col) ≡ true)) → IsBefore a b
    on (inl k) = inl (ltb-true a.line b.line k)
    on (inr k) = let p = and_parts (nat_eq a.line b.line) (nat_lt a.col b.col) k in inr (eqb-true a.line b.line p.0, ltb-true a.col b.col p.1)

pub true-before : (a b : Place) → IsBefore a b → place_lt a b ≡ true
true-before a b (inl h) = or_left (nat_lt a.line b.line) _ (lt-ltb a.line b.line h)
true-before a b (inr h) = or_right (nat_lt a.line b.line) _ (and_from (nat_eq a.line b.line) (nat_lt a.col b.col) (eq-eqb a.line b.line h.0) (lt-ltb a.col b.col h.1))

-- of two places in the order, a third stands before the later or not before the earlier
between : (q a b : Place) → IsBefore b a → IsBefore q b → IsBefore q a
between q a b (inl h) (inl k) = inl (omega arith)
between q a b (inl h) (inr k) = let e = k.0 in inl (omega (arith, e))
between q a b (inr h) (inl k) = let e = h.0 in inl (omega (arith, e))
between q a b (inr h) (inr k) =
    let e = h.0 in let f = k.0 in let x = h.1 in let y = k.1 in
    let l : q.line ≡ a.line = omega (arith, e, f) in
    let m : q.col < a.col = omega (arith, x, y) in
    inr (l, m)

pub compared : (a b : Place) → IsBefore a b ⊎ (IsBefore b a ⊎ ((a.line ≡ b.line) × (a.col ≡ b.col)))
compared a b = on (cases_lt a.line b.line)
  where
    cols : a.line ≡ b.line → IsBefore a b ⊎ (IsBefore b a ⊎ ((a.line ≡ b.line) × (a.col ≡ b.col)))
    cols e = by (cases_lt a.col b.col)
      where
        last : b.col ≤ a.col → IsBefore a b ⊎ (IsBefore b a ⊎ ((a.line ≡ b.line) × (a.col ≡ b.col)))
        last k = at (cases_lt b.col a.col)
          where
            at : ((b.col < a.col) ⊎ (a.col ≤ b.col)) → IsBefore a b ⊎ (IsBefore b a ⊎ ((a.line ≡ b.line) × (a.col ≡ b.col)))
            at (inl q) = inr (inl (inr (sym e, q)))
            at (inr q) = let s : a.col ≡ b.col = omega (arith, k, q) in inr (inr (e, s))

        by : ((a.col < b.col) ⊎ (b.col ≤ a.col)) → IsBefore a b ⊎ (IsBefore b a ⊎ ((a.line ≡ b.line) × (a.col ≡ b.col)))
        by (inl k) = inl (inr (e, k))
        by (inr k) = last k

    lines : b.line ≤ a.line → IsBefore a b ⊎ (IsBefore b a ⊎ ((a.line ≡ b.line) × (a.col ≡ b.col)))
    lines k = at (cases_lt b.line a.line)
      where
        at : ((b.line < a.line) ⊎ (a.line ≤ b.line)) → IsBefore a b ⊎ (IsBefore b a ⊎ ((a.line ≡ b.line) × (a.col ≡ b.col)))
        at (inl q) = inr (inl (inl q))
        at (inr q) = let s : a.line ≡ b.line = omega (arith, k, q) in cols s

    on : ((a.line < b.line) ⊎ (b.line ≤ a.line)) → IsBefore a b ⊎ (IsBefore b a ⊎ ((a.line ≡ b.line) × (a.col ≡ b.col)))
    on (inl h) = inl (inl h)
    on (inr h) = lines h

-- a place that is not before itself
pub not-before-itself : (a : Place) → place_lt a a ≡ false
not-before-itself a = by (place_lt a a) refl
  where
    bad : IsBefore a a → ⊥
    bad (inl h) = absurd (omega (arith, h))
    bad (inr h) = let k = h.1 in absurd (omega (arith, k))

    by : (b : Bool) → place_lt a a ≡ b → b ≡ false
    by true e = absurd (bad (before-true a a e))
    by false e = refl

-- the earlier of two places stands by a place where one of them does
pub by-earlier : (q : Place) (a b : Option Place) → there_by q (earlier a b) ≡ (there_by q a || there_by q b)
by-earlier q None b = refl
by-earlier q (Some x) None = sym (or-nothing (is_by q x))
by-earlier q (Some x) (Some y) = on (place_lt y x) refl
  where
    falls : (a b : Bool) → (a ≡ true → b ≡ true) → not a ≡ (not b || not a)
    falls true true h = refl
    falls true false h = absurd (false≢true (h refl))
    falls false true h = refl
    falls false false h = refl

    stays : (a b : Bool) → (a ≡ true → b ≡ true) → not a ≡ (not a || not b)
    stays true true h = refl
    stays true false h = absurd (false≢true (h refl))
    stays false b h = refl

    before : place_lt y x ≡ true → place_lt q y ≡ true → place_lt q x ≡ true
    before e h = true-before q x (between q x y (before-true y x e) (before-true q y h))

    behind : place_lt y x ≡ false → place_lt q x ≡ true → place_lt q y ≡ true
    behind e h = at (compared x y)
      where
        at : (IsBefore x y ⊎ (IsBefore y x ⊎ ((x.line ≡ y.line) × (x.col ≡ y.col)))) → place_lt q y ≡ true
        at (inl k) = true-before q y (between q y x k (before-true q x h))
        at (inr (inl k)) = absurd (false≢true (sym e ∙ true-before y x k))
        at (inr (inr k)) = by (before-true q x h)
          where
            by : IsBefore q x → place_lt q y ≡ true
            by (inl l) = let s = k.0 in let m : q.line < y.line = omega (arith, l, s) in true-before q y (inl m)
            by (inr l) = let s = k.0 in let r = k.1 in let u = l.0 in let v = l.1 in
                let m : q.line ≡ y.line = omega (arith, s, u) in
                let n : q.col < y.col = omega (arith, r, v) in true-before q y (inr (m, n))

    on : (b : Bool) → place_lt y x ≡ b → there_by q (if b then Some y else Some x) ≡ (is_by q x || is_by q y)
    on true e = falls (place_lt q y) (place_lt q x) (before e)
    on false e = stays (place_lt q x) (place_lt q y) (behind e)

-- a place is there where one of two is
pub some-earlier : (a b : Option Place) → is_some (earlier a b) ≡ (is_some a || is_some b)
some-earlier None b = refl
some-earlier (Some x) None = refl
some-earlier (Some x) (Some y) = on (place_lt y x)
  where
    on : (b : Bool) → is_some (if b then Some y else Some x) ≡ true
    on true = refl
    on false = refl

-- the first of some places stands by a place where one of them does
pub first-by : (q : Place) (best : Option Place) (ps : List Place) → there_by q (first_from best ps) ≡ (there_by q best || any (is_by q) ps)
first-by q best [] = sym (or-nothing (there_by q best))
first-by q best (p ∷ ps) = first-by q (earlier best (Some p)) ps ∙ ap (λ b. b || any (is_by q) ps) (by-earlier q best (Some p)) ∙ or-assoc (there_by q best) (is_by q p) (any (is_by q) ps)

-- places that stand by the same places are the same
pub same-place : (a b : Option Place) → ((q : Place) → there_by q a ≡ there_by q b) → a ≡ b
same-place None None e = refl
same-place None (Some p) e = absurd (false≢true (e p ∙ ap not (not-before-itself p)))
same-place (Some p) None e = absurd (true≢false (sym (ap not (not-before-itself p)) ∙ e p))
same-place (Some p) (Some q) e = on (compared p q)
  where
    on : (IsBefore p q ⊎ (IsBefore q p ⊎ ((p.line ≡ q.line) × (p.col ≡ q.col)))) → Some p ≡ Some q
    on (inl k) = absurd (true≢false (sym (ap not (not-before-itself p)) ∙ e p ∙ ap not (true-before p q k)))
    on (inr (inl k)) = absurd (false≢true (sym (ap not (true-before q p k)) ∙ e q ∙ ap not (not-before-itself q)))
    on (inr (inr k)) = λ j. Some (record { line = k.0 j; col = k.1 j })

-- the least violation is at the first place
less-at : (a b : Place) → refusal_lt (broken_at C7 a) (broken_at C7 b) ≡ place_lt a b
less-at a b = ap (λ c. place_lt a b || c) (nothing-more (place_eq a b)) ∙ or-nothing (place_lt a b)
  where
    nothing-more : (c : Bool) → (c && false) ≡ false
    nothing-more true = refl
    nothing-more false = refl

lesser-at : (best : Option Place) (p : Place) → lesser (option_map (broken_at C7) best) (broken_at C7 p) ≡ option_map (broken_at C7) (earlier best (Some p))
lesser-at None p = refl
lesser-at (Some b) p = on (refusal_lt (broken_at C7 p) (broken_at C7 b)) (place_lt p b) (less-at p b)
  where
    on : (c d : Bool) → c ≡ d → (if c then Some (broken_at C7 p) else Some (broken_at C7 b)) ≡ option_map (broken_at C7) (if d then Some p else Some b)
    on true true e = refl
    on true false e = absurd (true≢false e)
    on false true e = absurd (false≢true e)
    on false false e = refl

-- of several
pub least-at : (best : Option Place) (ps : List Place) → least_from (option_map (broken_at C7) best) (map (broken_at C7) ps) ≡ option_map (broken_at C7) (first_from best ps)
least-at best [] = refl
least-at best (p ∷ ps) = ap (λ o. least_from o (map (broken_at C7) ps)) (lesser-at best p) ∙ least-at (earlier best (Some p)) ps
