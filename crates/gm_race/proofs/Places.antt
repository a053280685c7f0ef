-- The order of places.
use Rattle.std.proofs.Common.{◌≡◌, Bool, true, false, Option, Some, None, ap, refl, sym, ◌∙◌, arith}
use Rattle.std.specs.Prelude.{◌&&◌, ◌||◌, not, if◌then◌else◌}
use Rattle.std.proofs.lemmas.Bool.Decides.{nat_tests}
use Rattle.gm_base.specs.declared.places.Place.{Place}
use Rattle.gm_base.specs.Places.{place_lt}
use Rattle.gm_race.specs.Uses.{earlier, earliest, reaches}

-- a place before one that another does not stand before, is before that one
pub lt-le : (a b c : Place) → place_lt a b ≡ true → place_lt c b ≡ false → place_lt a c ≡ true
lt-le a b c h k = grind (arith, nat_tests)

-- of two places one does not stand before the other
pub lt-asym : (a b : Place) → place_lt a b ≡ true → place_lt b a ≡ false
lt-asym a b h = grind (arith, nat_tests)

pub lt-lt : (a b c : Place) → place_lt a b ≡ true → place_lt b c ≡ true → place_lt a c ≡ true
lt-lt a b c h k = grind (arith, nat_tests)

-- a place that is not before a later one is not before an earlier one
pub not-lt-down : (a b c : Place) → place_lt a b ≡ true → place_lt c b ≡ false → place_lt c a ≡ false
not-lt-down a b c h k = grind (arith, nat_tests)

-- a place that is not before one that is not before another, is not before that one
pub not-lt-not-lt : (a b c : Place) → place_lt a b ≡ false → place_lt b c ≡ false → place_lt a c ≡ false
not-lt-not-lt a b c h k = grind (arith, nat_tests)

-- a place before one
before-both : (b c : Bool) → (b ≡ true → c ≡ true) → b ≡ (b && c)
before-both true c h = sym (h refl)
before-both false c h = refl

before-both-too : (b c : Bool) → (c ≡ true → b ≡ true) → c ≡ (b && c)
before-both-too true c h = refl
before-both-too false true h = sym (h refl)
before-both-too false false h = refl

-- a place before the earlier of two is before both
pub lt-earlier : (p a b : Place) → place_lt p (earlier a b) ≡ (place_lt p a && place_lt p b)
lt-earlier p a b = by (place_lt b a) refl
  where
    by : (c : Bool) → place_lt b a ≡ c → place_lt p (if c then b else a) ≡ (place_lt p a && place_lt p b)
    by true h = before-both-too (place_lt p a) (place_lt p b) (λ k. lt-lt p b a k h)
    by false h = before-both (place_lt p a) (place_lt p b) (λ k. lt-le p a b k h)

not-both : (b c : Bool) → not (b && c) ≡ (not b || not c)
not-both true c = refl
not-both false c = refl

-- the earlier of two places stands at a place or before it, where one of the two does
pub reaches-earlier : (at a b : Place) → not (place_lt at (earlier a b)) ≡ (not (place_lt at a) || not (place_lt at b))
reaches-earlier at a b = ap not (lt-earlier at a b) ∙ not-both (place_lt at a) (place_lt at b)

pub reaches-earliest : (o : Option Place) (b at : Place) → reaches (earliest o b) at ≡ (reaches o at || not (place_lt at b))
reaches-earliest None b at = refl
reaches-earliest (Some a) b at = reaches-earlier at a b
