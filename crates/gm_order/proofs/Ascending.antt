-- The places of the tokens of a text ascend, and so do those in its tree.
use Rattle.std.proofs.Common.{◌≡◌, ◌+◌, ◌<◌, ℕ, Bool, true, false, List, [], ◌∷◌, ◌++◌, map, refl, sym, ap, ◌∙◌, arith}
use Rattle.std.specs.Prelude.{◌&&◌, ◌||◌, ◌==◌, nat_lt, nat_eq, if◌then◌else◌}
use Rattle.std.specs.List.{list_all}
use Rattle.std.specs.Cmp.Derive.{both_true}
use Rattle.std.proofs.lemmas.Bool.{false≢true, ltb-true, lt-ltb, eqb-true, eq-eqb, or_left, or_right}
use Rattle.std.proofs.lemmas.List.Elements.{All-contains}
use Rattle.std.proofs.lemmas.List.Sums.{AllPass-from_list_all}
use Rattle.gm_base.specs.declared.places.Place.{Place}
use Rattle.gm_base.specs.Places.{place_lt}
use Rattle.gm_token.specs.declared.words.Word.{Word}
use Rattle.gm_token.specs.Places.{past_byte, past}
use Rattle.gm_token.specs.Words.{symbols}
use Rattle.gm_token.specs.Spellings.{IsNumber, IsToken}
use Rattle.gm_token.specs.Scanning.{Scans}
use Rattle.gm_token.specs.Tokens.{Token}
use Rattle.gm_forms.proofs.Named.{both-true}
use Rattle.gm_order.specs.Places.{is_before, ascend, right_behind}
use Rattle.gm_order.proofs.PlaceOrder.{self-behind, later-behind, behind-before}
use Rattle.gm_order.proofs.Picks.{Picks}

abbrev places_of_tokens : List Token → List Place
places_of_tokens us = map (λ t. t.place) us

-- ---- places that are picked from places that ascend

picks-before : {ps : List Place} {us vs : List Token} → Picks ps us vs → (p : Place) → is_before p (places_of_tokens us) ≡ true → is_before p ps ≡ true
picks-before Picks.done p h = refl
picks-before (Picks.skip {t} {us} k) p h = picks-before k p (both-true (place_lt p t.place) (is_before p (places_of_tokens us)) h).1
picks-before (Picks.pick {t} {us} k) p h = let s = both-true (place_lt p t.place) (is_before p (places_of_tokens us)) h in both_true s.0 (picks-before k p s.1)
picks-before (Picks.both {t} {u} {us} k) p h =
    let s = both-true (place_lt p t.place) (is_before p (u.place ∷ places_of_tokens us)) h in
    both_true s.0 (both_true (later-behind p t.place s.0) (picks-before k p (both-true (place_lt p u.place) (is_before p (places_of_tokens us)) s.1).1))

before-all : (p u : Place) (qs : List Place) → place_lt p u ≡ true → is_before u qs ≡ true → is_before (right_behind p) qs ≡ true
before-all p u [] lt h = refl
before-all p u (q ∷ qs) lt h = let s = both-true (place_lt u q) (is_before u qs) h in both_true (behind-before p u q lt s.0) (before-all p u qs lt s.1)

pub picks-ascend : {ps : List Place} {us vs : List Token} → Picks ps us vs → ascend (places_of_tokens us) ≡ true → ascend ps ≡ true
picks-ascend Picks.done h = refl
picks-ascend (Picks.skip {t} {us} k) h = picks-ascend k (both-true (is_before t.place (places_of_tokens us)) (ascend (places_of_tokens us)) h).1
picks-ascend (Picks.pick {t} {us} k) h =
    let s = both-true (is_before t.place (places_of_tokens us)) (ascend (places_of_tokens us)) h in
    both_true (picks-before k t.place s.0) (picks-ascend k s.1)
picks-ascend (Picks.both {t} {u} {us} k) h =
    let s = both-true (is_before t.place (u.place ∷ places_of_tokens us)) (ascend (u.place ∷ places_of_tokens us)) h in
    let a = both-true (place_lt t.place u.place) (is_before t.place (places_of_tokens us)) s.0 in
    let b = both-true (is_before u.place (places_of_tokens us)) (ascend (places_of_tokens us)) s.1 in
    both_true (both_true (self-behind t.place) (picks-before k t.place a.1)) (both_true (picks-before k (right_behind t.place) (before-all t.place u.place (places_of_tokens us) a.0 b.0)) (picks-ascend k b.1))

-- ---- places of a text

same-line : (p q : Place) → p.line ≡ q.line → p.col < q.col → place_lt p q ≡ true
same-line p q e h = or_right (nat_lt p.line q.line) (nat_eq p.line q.line && nat_lt p.col q.col) (both_true (eq-eqb p.line q.line e) (lt-ltb p.col q.col h))

line-before : (p q : Place) → p.line < q.line → place_lt p q ≡ true
line-before p q h = or_left (nat_lt p.line q.line) (nat_eq p.line q.line && nat_lt p.col q.col) (lt-ltb p.line q.line h)

byte-ahead : (at : Place) (b : ℕ) → place_lt at (past_byte at b) ≡ true
byte-ahead at b = by (b == 10)
  where
    by : (lf : Bool) → place_lt at (if lf then record { line = at.line + 1; col = 1 } else record { line = at.line; col = at.col + 1 }) ≡ true
    by true = line-before at (record { line = at.line + 1; col = 1 }) (omega arith)
    by false = same-line at (record { line = at.line; col = at.col + 1 }) refl (omega arith)

byte-later : (p at : Place) (b : ℕ) → place_lt p at ≡ true → place_lt p (past_byte at b) ≡ true
byte-later p at b h = by (b == 10) (nat_lt p.line at.line) refl
  where
    by : (lf earlier : Bool) → nat_lt p.line at.line ≡ earlier → place_lt p (if lf then record { line = at.line + 1; col = 1 } else record { line = at.line; col = at.col + 1 }) ≡ true
    by lf true e = on-line lf
      where
        on-line : (lf : Bool) → place_lt p (if lf then record { line = at.line + 1; col = 1 } else record { line = at.line; col = at.col + 1 }) ≡ true
        on-line true = line-before p (record { line = at.line + 1; col = 1 }) (let l : p.line < at.line = ltb-true p.line at.line e in omega (arith, l))
        on-line false = line-before p (record { line = at.line; col = at.col + 1 }) (ltb-true p.line at.line e)
    by lf false e = on-line lf
      where
        tail : nat_eq p.line at.line && nat_lt p.col at.col ≡ true
        tail = ap (λ c. c || (nat_eq p.line at.line && nat_lt p.col at.col)) (sym e) ∙ h

        line : p.line ≡ at.line
        line = eqb-true p.line at.line (both-true (nat_eq p.line at.line) (nat_lt p.col at.col) tail).0

        column : p.col < at.col
        column = ltb-true p.col at.col (both-true (nat_eq p.line at.line) (nat_lt p.col at.col) tail).1

        on-line : (lf : Bool) → place_lt p (if lf then record { line = at.line + 1; col = 1 } else record { line = at.line; col = at.col + 1 }) ≡ true
        on-line true = line-before p (record { line = at.line + 1; col = 1 }) (let l = line in omega (arith, l))
        on-line false = same-line p (record { line = at.line; col = at.col + 1 }) line (let c = column in omega (arith, c))

past-later : (p at : Place) (bs : List ℕ) → place_lt p at ≡ true → place_lt p (past at bs) ≡ true
past-later p at [] h = h
past-later p at (b ∷ bs) h = past-later p (past_byte at b) bs (byte-later p at b h)

-- ---- tokens are of one byte or more

is_some_text : List ℕ → Bool
is_some_text [] = false
is_some_text (b ∷ bs) = true

symbols_some : list_all (λ row. is_some_text row.0) symbols ≡ true
unfolding is_some_text symbols
symbols_some = refl

whole-some : (bs whole part : List ℕ) → IsNumber whole → bs ≡ whole ++ part → is_some_text bs ≡ true
unfolding is_some_text
whole-some bs [] part n e = absurd n
whole-some bs (b ∷ whole) part n e = ap is_some_text e

token-some : {w : Word} {bs rest : List ℕ} → IsToken w bs rest → is_some_text bs ≡ true
unfolding is_some_text
token-some {bs = []} (IsToken.name n e) = absurd n
token-some {bs = b ∷ bs} (IsToken.name n e) = refl
token-some {bs = []} (IsToken.number n e) = absurd n
token-some {bs = b ∷ bs} (IsToken.number n e) = refl
token-some {bs} (IsToken.real r e) = whole-some bs r.0 _ r.1.1 r.1.3
token-some {w} {bs} (IsToken.symbol c p) = All-contains (λ row. is_some_text row.0 ≡ true) symbols (bs, w) (AllPass-from_list_all (λ row. is_some_text row.0) symbols symbols_some) c

past-ahead : (at : Place) (bs : List ℕ) → is_some_text bs ≡ true → place_lt at (past at bs) ≡ true
unfolding is_some_text
past-ahead at [] h = absurd (false≢true h)
past-ahead at (b ∷ bs) h = past-later at (past_byte at b) bs (byte-ahead at b)

-- ---- a scanned text

scanned-before : {at to : Place} {text left : List ℕ} {ts : List Token} → Scans at text ts to left → (p : Place) → place_lt p at ≡ true → is_before p (places_of_tokens ts) ≡ true
scanned-before Scans.here p h = refl
scanned-before (Scans.gap {at} {bs} g s) p h = scanned-before s p (past-later p at bs h)
scanned-before (Scans.token {at} {bs} l n s) p h = both_true h (scanned-before s p (past-later p at bs h))

pub scanned-ascend : {at to : Place} {text left : List ℕ} {ts : List Token} → Scans at text ts to left → ascend (places_of_tokens ts) ≡ true
scanned-ascend Scans.here = refl
scanned-ascend (Scans.gap g s) = scanned-ascend s
scanned-ascend (Scans.token {at} {bs} l n s) = both_true (scanned-before s at (past-ahead at bs (token-some l.token))) (scanned-ascend s)
