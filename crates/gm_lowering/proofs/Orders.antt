-- Within a segment the indices of places are in the order of faults.
use Rattle.std.proofs.Common.{◌≡◌, ◌⊎◌, ◌<◌, ◌≤◌, inl, inr, ℕ, zero, suc, Bool, true, false, cond, Some, List, [], ◌∷◌, length, refl, ap, ◌∙◌, sym, subst, arith, ⊎_elim}
use Rattle.std.specs.Prelude.{◌&&◌, ◌||◌, nat_lt, nat_eq, if◌then◌else◌, filter}
use Rattle.std.proofs.lemmas.Bool.{both_ways, lt-ltb, le-ltb, eqb-true, eq-eqb, ne_eqb}
use Rattle.std.proofs.lemmas.Bool.Decides.{nat_tests}
use Rattle.gm_value.specs.declared.faults.FaultKind.{FaultKind}
use Rattle.gm_value.specs.declared.faults.FaultKind.TheVariants.{DivideByZero, NilNode, Overflow}
use Rattle.gm_value.specs.Bag.{IsIn}
use Rattle.gm_value.specs.Faults.{fault_number}
use Rattle.gm_ast.specs.declared.tree.Stage.{Stage}
use Rattle.gm_ast.specs.declared.tree.Stage.TheVariants.{Inner, Operator, Total}
use Rattle.gm_ast.specs.Keys as K
use Rattle.gm_ast.specs.Keys.{stage_rank, fault_lt}
use Rattle.gm_semantics.specs.declared.faults.Fault.{Fault}
use Rattle.gm_semantics.specs.Faults.{rank_of, comes_before, lower}
use Rattle.gm_semantics.proofs.LeastLaws.{lower-first, lower-second}
use Rattle.gm_forms.proofs.CutLaws.{fault-order}
use Rattle.gm_machine.specs.declared.faults.Fault as M
use Rattle.gm_machine.specs.Faults.{is_earlier, lesser}
use Rattle.gm_lowering.specs.Places.{Spot, Segment, segment, spot_lt, spot_at, inserted, ascending, place_index}
use Rattle.gm_lowering.specs.Terms.{Env}
use Rattle.gm_lowering.specs.Showing.{fault_of}
use Rattle.gm_lowering.specs.Settles.{HasSpot, spot_of_fault, HaveRoom}

-- where a fault stands, as numbers
abbrev pub rank4 : K.Fault → List ℕ
rank4 a = a.key.statement ∷ stage_rank a.key.stage ∷ a.place.line ∷ a.place.col ∷ []

no-more : (a b : Bool) → b ≡ b || (a && false)
no-more true true = refl
no-more true false = refl
no-more false true = refl
no-more false false = refl

lt-is : (a b : K.Fault) → fault_lt a b ≡ comes_before (rank4 a) (rank4 b)
lt-is a b =
    ap (λ c.
    nat_lt a.key.statement b.key.statement || (nat_eq a.key.statement b.key.statement && (nat_lt (stage_rank a.key.stage) (stage_rank b.key.stage)
    || (nat_eq (stage_rank a.key.stage) (stage_rank b.key.stage) && (nat_lt a.place.line b.place.line || (nat_eq a.place.line b.place.line && c))))))
    (no-more (nat_eq a.place.col b.place.col) (nat_lt a.place.col b.place.col))

before_itself : (xs : List ℕ) → comes_before xs xs ≡ false
before_itself [] = refl
before_itself (x ∷ xs) = let rest = before_itself xs in grind (arith, nat_tests)

before_trans : (xs ys zs : List ℕ) → comes_before xs ys ≡ true → comes_before ys zs ≡ true → comes_before xs zs ≡ true
before_trans [] ys zs h k = absurd (both_ways false refl h)
before_trans (x ∷ xs) [] zs h k = absurd (both_ways false refl h)
before_trans (x ∷ xs) (y ∷ ys) [] h k = absurd (both_ways false refl k)
before_trans (x ∷ xs) (y ∷ ys) (z ∷ zs) h k = let rest = before_trans xs ys zs in grind (arith, nat_tests)

before_tie : (xs ys : List ℕ) → length xs ≡ length ys → comes_before xs ys ≡ false → comes_before ys xs ≡ false → xs ≡ ys
before_tie [] [] e h k = refl
before_tie [] (y ∷ ys) e h k = absurd (omega arith)
before_tie (x ∷ xs) [] e h k = absurd (omega arith)
before_tie (x ∷ xs) (y ∷ ys) e h k = let rest = before_tie xs ys in grind (arith, nat_tests)

pub lt-itself : (a : K.Fault) → fault_lt a a ≡ false
lt-itself a = lt-is a a ∙ before_itself (rank4 a)

pub lt-trans : (a b c : K.Fault) → fault_lt a b ≡ true → fault_lt b c ≡ true → fault_lt a c ≡ true
lt-trans a b c h k = lt-is a c ∙ before_trans (rank4 a) (rank4 b) (rank4 c) (sym (lt-is a b) ∙ h) (sym (lt-is b c) ∙ k)

-- the stage of a number, and a fault of its rank
stage_of : ℕ → Stage
stage_of zero = Inner
stage_of (suc zero) = Operator
stage_of (suc (suc n)) = Total

stage_of-stage_rank : (s : Stage) → stage_of (stage_rank s) ≡ s
unfolding stage_of
stage_of-stage_rank Inner = refl
stage_of-stage_rank Operator = refl
stage_of-stage_rank Total = refl

ranked : List ℕ → K.Fault → K.Fault
ranked (a ∷ (b ∷ (c ∷ (d ∷ [])))) f = record { key = record { statement = a; stage = stage_of b }; place = record { line = c; col = d } }
ranked _ f = f

ranked-rank : (f g : K.Fault) → ranked (rank4 f) g ≡ f
unfolding ranked
ranked-rank f g = ap (λ s. record f { key = record { statement = f.key.statement; stage = s } }) (stage_of-stage_rank f.key.stage)

pub lt-tie : (a b : K.Fault) → fault_lt a b ≡ false → fault_lt b a ≡ false → a ≡ b
lt-tie a b h k =
    let same = before_tie (rank4 a) (rank4 b) refl (sym (lt-is a b) ∙ h) (sym (lt-is b a) ∙ k) in
    sym (ranked-rank a a) ∙ ap (λ r. ranked r a) same ∙ ranked-rank b a

-- what passes a weaker test is no less
pub kept-more : {A : Type 0} (p q : A → Bool) (xs : List A) → ((x : A) → p x ≡ true → q x ≡ true) → length (filter p xs) ≤ length (filter q xs)
kept-more p q [] h = omega arith
kept-more p q (x ∷ xs) h = by (p x) (q x) refl refl (kept-more p q xs h) where
  by : (b d : Bool) → p x ≡ b → q x ≡ d → length (filter p xs) ≤ length (filter q xs)
      → length (cond b (x ∷ filter p xs) (filter p xs)) ≤ length (cond d (x ∷ filter q xs) (filter q xs))
  by true true e f rest = omega arith
  by true false e f rest = absurd (both_ways (q x) f (h x e))
  by false true e f rest = omega arith
  by false false e f rest = rest

-- and is more where one member passes the weaker alone
pub kept-one-more : {A : Type 0} (p q : A → Bool) (xs : List A) (m : A) → ((x : A) → p x ≡ true → q x ≡ true) → IsIn m xs → p m ≡ false → q m ≡ true → length (filter p xs) < length (filter q xs)
kept-one-more p q [] m h i e f = absurd i
kept-one-more p q (x ∷ xs) m h i e f = by (p x) (q x) refl refl (λ j. kept-one-more p q xs m h j e f) where
  here : m ≡ x → (b d : Bool) → p x ≡ b → q x ≡ d → length (cond b (x ∷ filter p xs) (filter p xs)) < length (cond d (x ∷ filter q xs) (filter q xs))
  here i true d g k = absurd (both_ways (p m) e (ap p i ∙ g))
  here i false false g k = absurd (both_ways (q x) k (ap q (sym i) ∙ f))
  here i false true g k = let rest = kept-more p q xs h in omega arith

  there : length (filter p xs) < length (filter q xs) → (b d : Bool) → p x ≡ b → q x ≡ d → length (cond b (x ∷ filter p xs) (filter p xs)) < length (cond d (x ∷ filter q xs) (filter q xs))
  there rest true true g k = omega arith
  there rest true false g k = absurd (both_ways (q x) k (h x g))
  there rest false true g k = omega arith
  there rest false false g k = rest

  by : (b d : Bool) → p x ≡ b → q x ≡ d → (IsIn m xs → length (filter p xs) < length (filter q xs))
      → length (cond b (x ∷ filter p xs) (filter p xs)) < length (cond d (x ∷ filter q xs) (filter q xs))
  by b d g k go = ⊎_elim (λ (j : m ≡ x). here j b d g k) (λ (j : IsIn m xs). there (go j) b d g k) i

-- a spot of a fault
abbrev pub HasFault : K.Fault → List Spot → Type 0
HasFault f [] = ⊥
HasFault f (s ∷ ss) = (s.fault ≡ f) ⊎ HasFault f ss

pub fault-has : (z : Spot) (spots : List Spot) → HasSpot z spots → HasFault z.fault spots
fault-has z [] h = h
fault-has z (s ∷ ss) h = ⊎_elim (λ (e : s ≡ z). inl (ap (λ t. t.fault) e)) (λ (j : HasSpot z ss). inr (fault-has z ss j)) h

inserted-first : (s : Spot) (xs : List Spot) → HasFault s.fault (inserted s xs)
inserted-first s [] = inl refl
inserted-first s (x ∷ xs) = by (spot_lt s x) (spot_lt x s) refl refl (inserted-first s xs) where
  by : (b d : Bool) → spot_lt s x ≡ b → spot_lt x s ≡ d → HasFault s.fault (inserted s xs) → HasFault s.fault (if b then s ∷ (x ∷ xs) else (if d then x ∷ inserted s xs else x ∷ xs))
  by true d e f rest = inl refl
  by false true e f rest = inr rest
  by false false e f rest = inl (lt-tie x.fault s.fault f e)

inserted-more : (s : Spot) (xs : List Spot) (f : K.Fault) → HasFault f xs → HasFault f (inserted s xs)
inserted-more s [] f h = absurd h
inserted-more s (x ∷ xs) f h = by (spot_lt s x) (spot_lt x s) (λ j. inserted-more s xs f j) where
  by : (b d : Bool) → (HasFault f xs → HasFault f (inserted s xs)) → HasFault f (if b then s ∷ (x ∷ xs) else (if d then x ∷ inserted s xs else x ∷ xs))
  by true d go = inr h
  by false true go = ⊎_elim (λ (e : x.fault ≡ f). inl e) (λ (j : HasFault f xs). inr (go j)) h
  by false false go = h

pub ascending-has : (f : K.Fault) (spots : List Spot) → HasFault f spots → HasFault f (ascending spots)
ascending-has f [] h = h
ascending-has f (s ∷ ss) h =
    ⊎_elim
    (λ (e : s.fault ≡ f). subst (λ x. HasFault x (inserted s (ascending ss))) e (inserted-first s (ascending ss)))
    (λ (j : HasFault f ss). inserted-more s (ascending ss) f (ascending-has f ss j))
    h

pub spot-in : (f : K.Fault) (spots : List Spot) → HasFault f spots → (s : Spot) × (s.fault ≡ f) × IsIn s spots
spot-in f [] h = absurd h
spot-in f (s ∷ ss) h =
    ⊎_elim (λ (e : s.fault ≡ f). (s, e, inl refl)) (λ (j : HasFault f ss). let q = spot-in f ss j in (q.0, q.1, inr q.2)) h

-- a fault's index
abbrev pub index_of : Segment → K.Fault → ℕ
index_of g f = place_index g f.key f.place

-- a fault that has a spot and comes before another has a lesser index
pub index-order : (base : ℕ) (spots : List Spot) (f g : K.Fault) → HasFault f spots → fault_lt f g ≡ true → index_of (segment base spots) f < index_of (segment base spots) g
index-order base spots f g h lt =
    let all = ascending spots in
    let q = spot-in f all (ascending-has f spots h) in
    let less : length (filter (λ s. spot_lt s (spot_at f.key f.place)) all) < length (filter (λ s. spot_lt s (spot_at g.key g.place)) all) =
    kept-one-more (λ s. spot_lt s (spot_at f.key f.place)) (λ s. spot_lt s (spot_at g.key g.place)) all q.0 (λ x e. lt-trans x.fault f g e lt) q.2
    (ap (λ x. fault_lt x f) q.1 ∙ lt-itself f) (ap (λ x. fault_lt x g) q.1 ∙ lt) in
    omega arith

-- the index of a spot is among those of its segment
pub index-within : (base : ℕ) (spots : List Spot) (places : ℕ) → HaveRoom base spots places → (z : Spot) → HasSpot z spots → index_of (segment base spots) z.fault < places
index-within base spots places room z h =
    let all = ascending spots in
    let q = spot-in z.fault all (ascending-has z.fault spots (fault-has z spots h)) in
    let less : length (filter (λ s. spot_lt s (spot_at z.fault.key z.fault.place)) all) < length (filter (λ s. true) all) =
    kept-one-more (λ s. spot_lt s (spot_at z.fault.key z.fault.place)) (λ s. true) all q.0 (λ x e. refl) q.2 (ap (λ x. fault_lt x z.fault) q.1 ∙ lt-itself z.fault) refl in
    let most = all-kept all in
    let fit = room z h in
    omega (arith, less, most, fit) where
      all-kept : (xs : List Spot) → length (filter (λ s. true) xs) ≤ length xs
      all-kept [] = omega arith
      all-kept (x ∷ xs) = let rest = all-kept xs in omega (arith, rest)

-- the number of a kind tells it
same_kind : (a b : FaultKind) → fault_number a ≡ fault_number b → a ≡ b
same_kind DivideByZero DivideByZero e = refl
same_kind DivideByZero NilNode e = absurd (omega arith)
same_kind DivideByZero Overflow e = absurd (omega arith)
same_kind NilNode DivideByZero e = absurd (omega arith)
same_kind NilNode NilNode e = refl
same_kind NilNode Overflow e = absurd (omega arith)
same_kind Overflow DivideByZero e = absurd (omega arith)
same_kind Overflow NilNode e = absurd (omega arith)
same_kind Overflow Overflow e = refl

-- where a fault of the meaning stands
abbrev pub named : Fault → K.Fault
named f = record { key = f.key; place = f.place }

first-step : (x y : ℕ) (p q : Bool) → nat_lt x y || (nat_eq x y && p) ≡ true → (p ≡ true → q ≡ true) → nat_lt x y || (nat_eq x y && q) ≡ true
first-step x y true q h k = let z : q ≡ true = k refl in grind (arith, nat_tests)
first-step x y false q h k = grind (arith, nat_tests)

last-step : (x y : ℕ) (q : Bool) → nat_lt x y ≡ true → nat_lt x y || (nat_eq x y && q) ≡ true
last-step x y q h = ap (λ b. b || (nat_eq x y && q)) h

pub fault-before : (f g : Fault) → fault_lt (named f) (named g) ≡ true → comes_before (rank_of f) (rank_of g) ≡ true
fault-before f g h =
    first-step f.key.statement g.key.statement _ _ h (λ h.
    first-step (stage_rank f.key.stage) (stage_rank g.key.stage) _ _ h (λ h.
    first-step f.place.line g.place.line _ _ h (λ h. last-step f.place.col g.place.col _ h)))

-- whether one fault of the machine comes before another
earlier-lt : (a b : M.Fault) → a.place < b.place → (is_earlier a b ≡ true) × (is_earlier b a ≡ false)
earlier-lt a b lt = (
  ap (λ x. x || (nat_eq a.place b.place && nat_lt (fault_number a.kind) (fault_number b.kind))) (lt-ltb a.place b.place lt),
  ap (λ x. x || (nat_eq b.place a.place && nat_lt (fault_number b.kind) (fault_number a.kind))) (le-ltb b.place a.place (omega arith))
      ∙ ap (λ x. x && nat_lt (fault_number b.kind) (fault_number a.kind)) (ne_eqb b.place a.place (λ e. omega arith)),
)

earlier-same : (a b : M.Fault) → a.place ≡ b.place → is_earlier a b ≡ nat_lt (fault_number a.kind) (fault_number b.kind)
earlier-same a b e =
    ap (λ x. x || (nat_eq a.place b.place && nat_lt (fault_number a.kind) (fault_number b.kind))) (le-ltb a.place b.place (omega arith))
    ∙ ap (λ x. x && nat_lt (fault_number a.kind) (fault_number b.kind)) (eq-eqb a.place b.place e)

-- a fault with another place in the order
abbrev moved : Fault → K.Fault → Fault
moved f n = record { kind = f.kind; shown = f.shown; key = n.key; place = n.place }

same-step : (x : ℕ) (p : Bool) → nat_lt x x || (nat_eq x x && p) ≡ p
same-step x true = grind (arith, nat_tests)
same-step x false = grind (arith, nat_tests)

-- at one place the kinds decide, and then the places that are shown
abbrev rank_beyond : Fault → List ℕ
rank_beyond f = fault_number f.kind ∷ f.shown.line ∷ f.shown.col ∷ []

tied : (f g : Fault) → comes_before (rank_of (moved g (named f))) (rank_of f) ≡ comes_before (rank_beyond g) (rank_beyond f)
tied f g =
    same-step f.key.statement _ ∙ same-step (stage_rank f.key.stage) _ ∙ same-step f.place.line _ ∙ same-step f.place.col _

pub tied-rank : (f g : Fault) → named f ≡ named g → comes_before (rank_of g) (rank_of f) ≡ comes_before (rank_beyond g) (rank_beyond f)
tied-rank f g e = ap (λ n. comes_before (rank_of (moved g n)) (rank_of f)) (sym e) ∙ tied f g

-- of two faults with spots the lesser on the machine is the lower one
module _ (v : Env) (base : ℕ) (spots : List Spot) (places : v.place ≡ place_index (segment base spots)) where
  place-of : (f : Fault) → (fault_of v f).place ≡ index_of (segment base spots) (named f)
  place-of f = ap (λ p. p f.key f.place) places

  pub lesser-lower : (f g : Fault) → HasSpot (spot_of_fault f) spots → HasSpot (spot_of_fault g) spots → lesser (Some (fault_of v f)) (Some (fault_of v g)) ≡ Some (fault_of v (lower f g))
  lesser-lower f g h k = by (fault_lt (named f) (named g)) (fault_lt (named g) (named f)) refl refl where
    picks : (b d : Bool) → is_earlier (fault_of v g) (fault_of v f) ≡ b → comes_before (rank_of g) (rank_of f) ≡ b → lesser (Some (fault_of v f)) (Some (fault_of v g)) ≡ Some (fault_of v (lower f g))
    picks true d e i = ap (λ x. if x then Some (fault_of v g) else Some (fault_of v f)) e ∙ ap (λ x. Some (fault_of v x)) (sym (lower-second f g i))
    picks false d e i = ap (λ x. if x then Some (fault_of v g) else Some (fault_of v f)) e ∙ ap (λ x. Some (fault_of v x)) (sym (lower-first f g i))

    less : (x y : Fault) → HasFault (named x) spots → fault_lt (named x) (named y) ≡ true → (fault_of v x).place < (fault_of v y).place
    less x y o e = subst (λ a. a < (fault_of v y).place) (sym (place-of x)) (subst (λ b. index_of (segment base spots) (named x) < b) (sym (place-of y)) (index-order base spots (named x) (named y) o e))

    tie : named f ≡ named g → lesser (Some (fault_of v f)) (Some (fault_of v g)) ≡ Some (fault_of v (lower f g))
    tie e =
        let same : (fault_of v g).place ≡ (fault_of v f).place = ap (λ n. v.place n.key n.place) (sym e) in
        by_kind (nat_lt (fault_number g.kind) (fault_number f.kind)) (nat_eq (fault_number g.kind) (fault_number f.kind)) refl refl (earlier-same (fault_of v g) (fault_of v f) same) (tied-rank f g e) where
          by_kind : (b d : Bool) → nat_lt (fault_number g.kind) (fault_number f.kind) ≡ b → nat_eq (fault_number g.kind) (fault_number f.kind) ≡ d
              → is_earlier (fault_of v g) (fault_of v f) ≡ nat_lt (fault_number g.kind) (fault_number f.kind)
              → comes_before (rank_of g) (rank_of f) ≡ comes_before (rank_beyond g) (rank_beyond f)
              → lesser (Some (fault_of v f)) (Some (fault_of v g)) ≡ Some (fault_of v (lower f g))
          by_kind true d i j a r = picks true true (a ∙ i) (r ∙ ap (λ x. x || (nat_eq (fault_number g.kind) (fault_number f.kind) && comes_before (g.shown.line ∷ g.shown.col ∷ []) (f.shown.line ∷ f.shown.col ∷ []))) i)
          by_kind false false i j a r =
              picks false true (a ∙ i) (
              r ∙ ap (λ x. x || (nat_eq (fault_number g.kind) (fault_number f.kind) && comes_before (g.shown.line ∷ g.shown.col ∷ []) (f.shown.line ∷ f.shown.col ∷ []))) i
              ∙ ap (λ x. x && comes_before (g.shown.line ∷ g.shown.col ∷ []) (f.shown.line ∷ f.shown.col ∷ [])) j)
          by_kind false true i j a r =
              let kinds : g.kind ≡ f.kind = same_kind g.kind f.kind (eqb-true (fault_number g.kind) (fault_number f.kind) j) in
              let whole : fault_of v g ≡ fault_of v f = same-fault g f kinds (sym e) in
              ap (λ x. if x then Some (fault_of v g) else Some (fault_of v f)) (a ∙ i) ∙ either (comes_before (rank_of g) (rank_of f)) refl whole where
                same-fault : (x y : Fault) → x.kind ≡ y.kind → named x ≡ named y → fault_of v x ≡ fault_of v y
                same-fault x y p q =
                    let made : ℕ → FaultKind → M.Fault = λ place kind. record { place = place; kind = kind } in
                    ap (λ n. made (v.place n.key n.place) x.kind) q ∙ ap (made (v.place y.key y.place)) p

                either : (b : Bool) → comes_before (rank_of g) (rank_of f) ≡ b → fault_of v g ≡ fault_of v f → Some (fault_of v f) ≡ Some (fault_of v (lower f g))
                either true p w = ap Some (sym w) ∙ ap (λ x. Some (fault_of v x)) (sym (lower-second f g p))
                either false p w = ap (λ x. Some (fault_of v x)) (sym (lower-first f g p))

    by : (b d : Bool) → fault_lt (named f) (named g) ≡ b → fault_lt (named g) (named f) ≡ d → lesser (Some (fault_of v f)) (Some (fault_of v g)) ≡ Some (fault_of v (lower f g))
    by true d e i = picks false true (earlier-lt (fault_of v f) (fault_of v g) (less f g (fault-has (spot_of_fault f) spots h) e)).1 (fault-order f g e)
    by false true e i = picks true true (earlier-lt (fault_of v g) (fault_of v f) (less g f (fault-has (spot_of_fault g) spots k) i)).0 (fault-before g f i)
    by false false e i = tie (lt-tie (named f) (named g) e i)
