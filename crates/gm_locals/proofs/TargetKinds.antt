-- The targets of reductions are alike once all locals of a list have gone to properties.
use Rattle.std.proofs.Common.{◌≡◌, ◌<◌, arith, ℕ, Bool, true, false, cond, List, [], ◌∷◌, map, refl, sym, ap, subst, ◌∙◌, Some, None, ◌⊎◌, ⊎_elim, inl, inr}
use Rattle.std.specs.Prelude.{◌&&◌, ◌||◌, not, nat_eq}
use Rattle.std.specs.List.{list_all}
use Rattle.std.proofs.lemmas.Bool.{both_ways, eq-eqb, eqb-true, not-true}
use Rattle.gm_base.specs.declared.places.Place.{Place}
use Rattle.gm_value.specs.Bag.{IsIn}
use Rattle.gm_value.specs.declared.values.Value.{Value}
use Rattle.gm_ast.specs.declared.tree.Target.{Target}
use Rattle.gm_ast.specs.declared.tree.Target.TheVariants as T
use Rattle.gm_ast.specs.Ways.{is_in}
use Rattle.gm_ast.specs.Program.{Const, Stmt, Then, Declare, Assign, Combine, Foreach, If}
use Rattle.gm_semantics.specs.Frames.{TargetsBelow, NamesBelow}
use Rattle.gm_forms.specs.Sharing.{written_by, variables_of, are_distinct, is_through, are_alike, targets_alike}
use Rattle.gm_forms.proofs.CutTests.{found}
use Rattle.gm_forms.proofs.Named.{both-true}
use Rattle.gm_forms.proofs.Weaker.{and-true}
use Rattle.gm_loop_laws.specs.Localised.{moved_in, moved_target, moved, names_plainly, is_apart}
use Rattle.gm_dissect.proofs.DeferredLoops.{either-true}
use Rattle.gm_locals.specs.Groups.{is_among, may_move_within}

-- whether a target is no scalar of some
abbrev is_spared : List ℕ → Target → Bool
is_spared ys (T.Scalar z at) = not (is_in ys z)
is_spared ys (T.Property z p at) = true

-- whether a target is a scalar of some, or a property of a node
abbrev is_mixed : List ℕ → ℕ → Target → Bool
is_mixed ys n (T.Scalar z at) = is_in ys z
is_mixed ys n (T.Property z p at) = nat_eq z n

abbrev are_kind : List ℕ → ℕ → List Target → Bool
are_kind ys n ts = ((list_all (is_spared ys) ts && are_alike ts) || list_all (is_mixed ys n) ts) && are_distinct (variables_of ts)

-- whether the targets of each reduction of a body are none of some scalars, and alike, or all of them are, or properties of the node; and none stands twice
abbrev pub kinds : List ℕ → ℕ → Stmt → Bool
kinds ys n (Then a b) = kinds ys n a && kinds ys n b
kinds ys n (Combine k total r ts es) = are_kind ys n ts
kinds ys n (If k c a b) = kinds ys n a && kinds ys n b
kinds ys n (Foreach k at h test body) = kinds ys n body
kinds ys n _ = true

or-left : (a b : Bool) → a ≡ true → a || b ≡ true
or-left a b e = ap (λ c. c || b) e

or-right : (a b : Bool) → b ≡ true → a || b ≡ true
or-right true b e = refl
or-right false b e = e

-- where no scalar is left to go, targets are alike
all-through : (n z : ℕ) → z ≡ n → (ts : List Target) → list_all (is_mixed [] n) ts ≡ true → list_all (is_through z) ts ≡ true
all-through n z e [] h = refl
all-through n z e (T.Scalar y at ∷ ts) h = absurd (both_ways false refl h)
all-through n z e (T.Property y p at ∷ ts) h =
    let r = both-true (nat_eq y n) (list_all (is_mixed [] n) ts) h in and-true (nat_eq y z) (list_all (is_through z) ts) (eq-eqb y z (eqb-true y n r.0 ∙ sym e)) (all-through n z e ts r.1)

mixed-alike : (n : ℕ) (ts : List Target) → list_all (is_mixed [] n) ts ≡ true → are_alike ts ≡ true
mixed-alike n [] h = refl
mixed-alike n (T.Scalar y at ∷ ts) h = absurd (both_ways false refl h)
mixed-alike n (T.Property y p at ∷ ts) h = let r = both-true (nat_eq y n) (list_all (is_mixed [] n) ts) h in all-through n y (eqb-true y n r.0) ts r.1

pub kinds-alike : (n : ℕ) (s : Stmt) → kinds [] n s ≡ true → targets_alike s ≡ true
kinds-alike n (Then a b) h = let r = both-true (kinds [] n a) (kinds [] n b) h in and-true (targets_alike a) (targets_alike b) (kinds-alike n a r.0) (kinds-alike n b r.1)
kinds-alike n (Combine k total r ts es) h =
    let c = both-true ((list_all (is_spared []) ts && are_alike ts) || list_all (is_mixed [] n) ts) (are_distinct (variables_of ts)) h in
    and-true (are_alike ts) (are_distinct (variables_of ts))
    (⊎_elim (λ (a : list_all (is_spared []) ts && are_alike ts ≡ true). (both-true (list_all (is_spared []) ts) (are_alike ts) a).1) (λ (a : list_all (is_mixed [] n) ts ≡ true). mixed-alike n ts a)
    (either-true (list_all (is_spared []) ts && are_alike ts) (list_all (is_mixed [] n) ts) c.0)) c.1
kinds-alike n (If k c a b) h = let r = both-true (kinds [] n a) (kinds [] n b) h in and-true (targets_alike a) (targets_alike b) (kinds-alike n a r.0) (kinds-alike n b r.1)
kinds-alike n (Foreach k at hd test body) h = kinds-alike n body h
kinds-alike n s h = refl

-- a body whose locals may go together
module _ (xs : List ℕ) (n : ℕ) where
  among-mixed : (ts : List Target) → list_all (is_among xs) ts ≡ true → list_all (is_mixed xs n) ts ≡ true
  among-mixed [] h = refl
  among-mixed (T.Scalar y at ∷ ts) h = let r = both-true (is_in xs y) (list_all (is_among xs) ts) h in and-true (is_in xs y) (list_all (is_mixed xs n) ts) r.0 (among-mixed ts r.1)
  among-mixed (T.Property y p at ∷ ts) h = absurd (both_ways false refl h)

  -- what is apart from each of some is none of them
  spared-one : (ys : List ℕ) (t : Target) → ((x : ℕ) → IsIn x ys → is_apart x n t ≡ true) → is_spared ys t ≡ true
  spared-one ys (T.Scalar y at) h = by (is_in ys y) refl
    where
      by : (b : Bool) → is_in ys y ≡ b → not b ≡ true
      by true e = absurd (both_ways (nat_eq y y) (not-true (nat_eq y y) (both-true (not (nat_eq y y)) (not (nat_eq y n)) (h y (found ys y e))).0) (eq-eqb y y refl))
      by false e = refl
  spared-one ys (T.Property y p at) h = refl

  spared-all : (ys : List ℕ) (ts : List Target) → ((x : ℕ) → IsIn x ys → list_all (is_apart x n) ts ≡ true) → list_all (is_spared ys) ts ≡ true
  spared-all ys [] h = refl
  spared-all ys (t ∷ ts) h =
      and-true (is_spared ys t) (list_all (is_spared ys) ts) (spared-one ys t (λ x i. (both-true (is_apart x n t) (list_all (is_apart x n) ts) (h x i)).0))
      (spared-all ys ts (λ x i. (both-true (is_apart x n t) (list_all (is_apart x n) ts) (h x i)).1))

  abbrev AllMay : Stmt → Type 0
  AllMay s = (x : ℕ) → IsIn x xs → may_move_within xs x n s ≡ true

  pub kinds-first : (s : Stmt) → AllMay s → targets_alike s ≡ true → kinds xs n s ≡ true
  kinds-first (Then a b) m h =
      let r = both-true (targets_alike a) (targets_alike b) h in
      and-true (kinds xs n a) (kinds xs n b) (kinds-first a (λ x i. (both-true (may_move_within xs x n a) (may_move_within xs x n b) (m x i)).0) r.0)
      (kinds-first b (λ x i. (both-true (may_move_within xs x n a) (may_move_within xs x n b) (m x i)).1) r.1)
  kinds-first (Combine k total o ts es) m h =
      let r = both-true (are_alike ts) (are_distinct (variables_of ts)) h in
      and-true ((list_all (is_spared xs) ts && are_alike ts) || list_all (is_mixed xs n) ts) (are_distinct (variables_of ts)) (by (list_all (is_among xs) ts) refl r.0) r.1
    where
      by : (b : Bool) → list_all (is_among xs) ts ≡ b → are_alike ts ≡ true → (list_all (is_spared xs) ts && are_alike ts) || list_all (is_mixed xs n) ts ≡ true
      by true e alike = or-right (list_all (is_spared xs) ts && are_alike ts) (list_all (is_mixed xs n) ts) (among-mixed ts e)
      by false e alike = or-left (list_all (is_spared xs) ts && are_alike ts) (list_all (is_mixed xs n) ts)
          (and-true (list_all (is_spared xs) ts) (are_alike ts)
          (spared-all xs ts (λ x i.
          let c = both-true (list_all (is_apart x n) ts || list_all (is_among xs) ts) (list_all (names_plainly x) es) (m x i) in
          ⊎_elim (λ (a : list_all (is_apart x n) ts ≡ true). a) (λ (a : list_all (is_among xs) ts ≡ true). absurd (both_ways (list_all (is_among xs) ts) e a)) (either-true (list_all (is_apart x n) ts) (list_all (is_among xs) ts) c.0)))
          alike)
  kinds-first (If k c a b) m h =
      let r = both-true (targets_alike a) (targets_alike b) h in
      let inner : (x : ℕ) → IsIn x xs → may_move_within xs x n a && may_move_within xs x n b ≡ true = λ x i. (both-true (names_plainly x c) (may_move_within xs x n a && may_move_within xs x n b) (m x i)).1 in
      and-true (kinds xs n a) (kinds xs n b) (kinds-first a (λ x i. (both-true (may_move_within xs x n a) (may_move_within xs x n b) (inner x i)).0) r.0)
      (kinds-first b (λ x i. (both-true (may_move_within xs x n a) (may_move_within xs x n b) (inner x i)).1) r.1)
  kinds-first (Foreach k at hd test body) m h =
      kinds-first body (λ x i.
      let rest = names_plainly x test && may_move_within xs x n body in
      let a = both-true (not (nat_eq hd.owner x)) (not (nat_eq hd.iterator x) && (not (nat_eq hd.iterator n) && rest)) (m x i) in
      let b = both-true (not (nat_eq hd.iterator x)) (not (nat_eq hd.iterator n) && rest) a.1 in
      let c = both-true (not (nat_eq hd.iterator n)) rest b.1 in
      (both-true (names_plainly x test) (may_move_within xs x n body) c.1).1) h
  kinds-first s m h = refl

-- one local goes: x is the local, q its property, which no name reaches, and ys those that are left
module _ (x q n : ℕ) (at : Place) (zero : Value) (ys : List ℕ) where
  abbrev mt : Target → Target
  mt t = moved_target x q n at zero t

  abbrev mv : Stmt → Stmt
  mv s = moved x q n at zero s

  left-in : (y : ℕ) → nat_eq y x ≡ false → is_in (x ∷ ys) y ≡ is_in ys y
  left-in y e = ap (λ b. b || is_in ys y) e

  mixed-one : (t : Target) → is_mixed (x ∷ ys) n t ≡ true → is_mixed ys n (mt t) ≡ true
  mixed-one (T.Scalar y place) h = by (nat_eq y x) refl
    where
      by : (b : Bool) → nat_eq y x ≡ b → is_mixed ys n (cond b (T.Property n q place) (T.Scalar y place)) ≡ true
      by true e = eq-eqb n n refl
      by false e = sym (left-in y e) ∙ h
  mixed-one (T.Property y p place) h = h

  mixed-all : (ts : List Target) → list_all (is_mixed (x ∷ ys) n) ts ≡ true → list_all (is_mixed ys n) (map mt ts) ≡ true
  mixed-all [] h = refl
  mixed-all (t ∷ ts) h =
      let r = both-true (is_mixed (x ∷ ys) n t) (list_all (is_mixed (x ∷ ys) n) ts) h in and-true (is_mixed ys n (mt t)) (list_all (is_mixed ys n) (map mt ts)) (mixed-one t r.0) (mixed-all ts r.1)

  spared-same : (t : Target) → is_spared (x ∷ ys) t ≡ true → (mt t ≡ t) × (is_spared ys t ≡ true)
  spared-same (T.Scalar y place) h = by (nat_eq y x) refl
    where
      by : (b : Bool) → nat_eq y x ≡ b → (cond b (T.Property n q place) (T.Scalar y place) ≡ T.Scalar y place) × (not (is_in ys y) ≡ true)
      by true e = absurd (both_ways false refl (sym (ap (λ b. not (b || is_in ys y)) e) ∙ h))
      by false e = (refl, ap not (sym (left-in y e)) ∙ h)
  spared-same (T.Property y p place) h = (refl, refl)

  spared-list : (ts : List Target) → list_all (is_spared (x ∷ ys)) ts ≡ true → (map mt ts ≡ ts) × (list_all (is_spared ys) ts ≡ true)
  spared-list [] h = (refl, refl)
  spared-list (t ∷ ts) h =
      let r = both-true (is_spared (x ∷ ys) t) (list_all (is_spared (x ∷ ys)) ts) h in
      let a = spared-same t r.0 in
      let b = spared-list ts r.1 in
      (ap (λ z. z ∷ map mt ts) a.0 ∙ ap (λ l. t ∷ l) b.0, and-true (is_spared ys t) (list_all (is_spared ys) ts) a.1 b.1)

  -- what is written then is what was, or the property in the local's place
  one-written : (t : Target) (z : ℕ) → IsIn z (written_by (mt t)) → IsIn z (written_by t) ⊎ ((z ≡ q) × IsIn x (written_by t))
  one-written (T.Scalar y place) z i = by (nat_eq y x) refl i
    where
      by : (b : Bool) → nat_eq y x ≡ b → IsIn z (written_by (cond b (T.Property n q place) (T.Scalar y place))) → IsIn z (y ∷ []) ⊎ ((z ≡ q) × IsIn x (y ∷ []))
      by true e i = ⊎_elim (λ (f : z ≡ q). inr (f, inl (sym (eqb-true y x e)))) (λ j. absurd j) i
      by false e i = inl i
  one-written (T.Property y p place) z i = inl i

  all-written : (ts : List Target) (z : ℕ) → IsIn z (variables_of (map mt ts)) → IsIn z (variables_of ts) ⊎ ((z ≡ q) × IsIn x (variables_of ts))
  all-written [] z i = absurd i
  all-written (T.Scalar y place ∷ ts) z i = by (nat_eq y x) refl (all-written ts z) i
    where
      by : (b : Bool) → nat_eq y x ≡ b → (IsIn z (variables_of (map mt ts)) → IsIn z (variables_of ts) ⊎ ((z ≡ q) × IsIn x (variables_of ts))) → IsIn z (variables_of (cond b (T.Property n q place) (T.Scalar y place) ∷ map mt ts)) → IsIn z (y ∷ variables_of ts) ⊎ ((z ≡ q) × IsIn x (y ∷ variables_of ts))
      by true e rest i = ⊎_elim (λ (f : z ≡ q). inr (f, inl (sym (eqb-true y x e)))) (λ j. ⊎_elim (λ l. inl (inr l)) (λ (m : (z ≡ q) × IsIn x (variables_of ts)). inr (m.0, inr m.1)) (rest j)) i
      by false e rest i = ⊎_elim (λ (f : z ≡ y). inl (inl f)) (λ j. ⊎_elim (λ l. inl (inr l)) (λ (m : (z ≡ q) × IsIn x (variables_of ts)). inr (m.0, inr m.1)) (rest j)) i
  all-written (T.Property y p place ∷ ts) z i =
      ⊎_elim (λ (f : z ≡ p). inl (inl f)) (λ j. ⊎_elim (λ l. inl (inr l)) (λ (m : (z ≡ q) × IsIn x (variables_of ts)). inr (m.0, inr m.1)) (all-written ts z j)) i

  all-low : (ts : List Target) → TargetsBelow q ts → (z : ℕ) → IsIn z (variables_of ts) → z < q
  all-low [] b z i = absurd i
  all-low (T.Scalar y place ∷ ts) b z i = ⊎_elim (λ (e : z ≡ y). subst (λ w. w < q) (sym e) b.0) (λ j. all-low ts b.1 z j) i
  all-low (T.Property y p place ∷ ts) b z i = ⊎_elim (λ (e : z ≡ p). subst (λ w. w < q) (sym e) b.0.1) (λ j. all-low ts b.1 z j) i

  not-listed : (l : List ℕ) (z : ℕ) → (IsIn z l → ⊥) → not (is_in l z) ≡ true
  not-listed l z h = by (is_in l z) refl
    where
      by : (b : Bool) → is_in l z ≡ b → not b ≡ true
      by true e = absurd (h (found l z e))
      by false e = refl

  is-listed : (l : List ℕ) (z : ℕ) → IsIn z l → is_in l z ≡ true
  is-listed [] z i = absurd i
  is-listed (y ∷ l) z i = ⊎_elim (λ (e : z ≡ y). or-left (nat_eq z y) (is_in l z) (eq-eqb z y e)) (λ j. or-right (nat_eq z y) (is_in l z) (is-listed l z j)) i

  absent : (l : List ℕ) (z : ℕ) → not (is_in l z) ≡ true → IsIn z l → ⊥
  absent l z h i = both_ways (is_in l z) (not-true (is_in l z) h) (is-listed l z i)

  -- a name that was at the head of distinct ones is not behind it
  head-apart : (ts : List Target) (z : ℕ) → TargetsBelow q ts → z < q → not (is_in (variables_of ts) z) ≡ true → not (is_in (variables_of (map mt ts)) z) ≡ true
  head-apart ts z b low h = not-listed (variables_of (map mt ts)) z (λ i. ⊎_elim (λ l. absent (variables_of ts) z h l) (λ (m : (z ≡ q) × IsIn x (variables_of ts)). let e = m.0 in absurd (omega (arith, e, low))) (all-written ts z i))

  distinct-stay : (ts : List Target) → TargetsBelow q ts → are_distinct (variables_of ts) ≡ true → are_distinct (variables_of (map mt ts)) ≡ true
  distinct-stay [] b h = refl
  distinct-stay (T.Scalar y place ∷ ts) b h = by (nat_eq y x) refl (distinct-stay ts b.1 (both-true (not (is_in (variables_of ts) y)) (are_distinct (variables_of ts)) h).1)
    where
      r : (not (is_in (variables_of ts) y) ≡ true) × (are_distinct (variables_of ts) ≡ true)
      r = both-true (not (is_in (variables_of ts) y)) (are_distinct (variables_of ts)) h

      by : (c : Bool) → nat_eq y x ≡ c → are_distinct (variables_of (map mt ts)) ≡ true → are_distinct (variables_of (cond c (T.Property n q place) (T.Scalar y place) ∷ map mt ts)) ≡ true
      by true e rest =
          and-true (not (is_in (variables_of (map mt ts)) q)) (are_distinct (variables_of (map mt ts)))
          (not-listed (variables_of (map mt ts)) q (λ i.
          ⊎_elim (λ l. let low = all-low ts b.1 q l in absurd (omega (arith, low))) (λ (m : (q ≡ q) × IsIn x (variables_of ts)). absent (variables_of ts) y r.0 (subst (λ w. IsIn w (variables_of ts)) (sym (eqb-true y x e)) m.1)) (all-written ts q i)))
          rest
      by false e rest = and-true (not (is_in (variables_of (map mt ts)) y)) (are_distinct (variables_of (map mt ts))) (head-apart ts y b.1 b.0 r.0) rest
  distinct-stay (T.Property y p place ∷ ts) b h =
      let r = both-true (not (is_in (variables_of ts) p)) (are_distinct (variables_of ts)) h in
      and-true (not (is_in (variables_of (map mt ts)) p)) (are_distinct (variables_of (map mt ts))) (head-apart ts p b.1 b.0.1 r.0) (distinct-stay ts b.1 r.1)

  kind-stays : (ts : List Target) → TargetsBelow q ts → are_kind (x ∷ ys) n ts ≡ true → are_kind ys n (map mt ts) ≡ true
  kind-stays ts b h =
      let c = both-true ((list_all (is_spared (x ∷ ys)) ts && are_alike ts) || list_all (is_mixed (x ∷ ys) n) ts) (are_distinct (variables_of ts)) h in
      and-true ((list_all (is_spared ys) (map mt ts) && are_alike (map mt ts)) || list_all (is_mixed ys n) (map mt ts)) (are_distinct (variables_of (map mt ts)))
      (⊎_elim
      (λ (a : list_all (is_spared (x ∷ ys)) ts && are_alike ts ≡ true).
      let d = both-true (list_all (is_spared (x ∷ ys)) ts) (are_alike ts) a in
      let e = spared-list ts d.0 in
      or-left (list_all (is_spared ys) (map mt ts) && are_alike (map mt ts)) (list_all (is_mixed ys n) (map mt ts))
      (subst (λ l. list_all (is_spared ys) l && are_alike l ≡ true) (sym e.0) (and-true (list_all (is_spared ys) ts) (are_alike ts) e.1 d.1)))
      (λ (a : list_all (is_mixed (x ∷ ys) n) ts ≡ true). or-right (list_all (is_spared ys) (map mt ts) && are_alike (map mt ts)) (list_all (is_mixed ys n) (map mt ts)) (mixed-all ts a))
      (either-true (list_all (is_spared (x ∷ ys)) ts && are_alike ts) (list_all (is_mixed (x ∷ ys) n) ts) c.0))
      (distinct-stay ts b c.1)

  pub kinds-stay : (s : Stmt) → NamesBelow q s → kinds (x ∷ ys) n s ≡ true → kinds ys n (mv s) ≡ true
  kinds-stay (Then a b) w h =
      let r = both-true (kinds (x ∷ ys) n a) (kinds (x ∷ ys) n b) h in and-true (kinds ys n (mv a)) (kinds ys n (mv b)) (kinds-stay a w.0 r.0) (kinds-stay b w.1 r.1)
  kinds-stay (Declare k y None) w h = by (nat_eq y x)
    where
      by : (c : Bool) → kinds ys n (cond c (Assign k (T.Property n q at) (Const zero)) (Declare k y None)) ≡ true
      by true = refl
      by false = refl
  kinds-stay (Declare k y (Some e)) w h = by (nat_eq y x)
    where
      by : (c : Bool) → kinds ys n (cond c (Assign k (T.Property n q at) (moved_in x q n at zero e)) (Declare k y (Some (moved_in x q n at zero e)))) ≡ true
      by true = refl
      by false = refl
  kinds-stay (Combine k total r ts es) w h = kind-stays ts w.0 h
  kinds-stay (If k c a b) w h =
      let r = both-true (kinds (x ∷ ys) n a) (kinds (x ∷ ys) n b) h in and-true (kinds ys n (mv a)) (kinds ys n (mv b)) (kinds-stay a w.1 r.0) (kinds-stay b w.2 r.1)
  kinds-stay (Foreach k place hd test body) w h = kinds-stay body w.3 h
  kinds-stay s w h = h
