-- What a body reduces whose local is kept in a property of the loop's node: the same, with the property in the local's place.
use Rattle.std.proofs.Common.{◌≡◌, ◌<◌, ◌≤◌, arith, ℕ, Bool, true, false, cond, List, [], ◌∷◌, ◌++◌, map, refl, sym, ap, subst, ◌∙◌, Option, Some, None, ◌⊎◌, ⊎_elim, inl, inr}
use Rattle.std.specs.Prelude.{◌&&◌, ◌||◌, not, nat_eq, nat_lt}
use Rattle.std.specs.List.{list_all}
use Rattle.std.proofs.lemmas.Bool.{both_ways, eq-eqb, eqb-true}
use Rattle.gm_base.specs.declared.places.Place.{Place}
use Rattle.gm_value.specs.Bag.{IsIn}
use Rattle.gm_value.specs.declared.values.VType.{VType}
use Rattle.gm_value.specs.declared.reductions.Reduce.{Reduce}
use Rattle.gm_value.specs.Numbers.{zero_of}
use Rattle.gm_ast.specs.declared.tree.Declaration.{Declaration}
use Rattle.gm_ast.specs.declared.tree.Key.{Key}
use Rattle.gm_ast.specs.declared.tree.Target.{Target}
use Rattle.gm_ast.specs.declared.tree.Target.TheVariants as T
use Rattle.gm_ast.specs.Races.{reduce_eq, variables_eq}
use Rattle.gm_ast.specs.Program.{Expr, Const, Stmt, Then, Declare, Assign, Combine, Foreach, If}
use Rattle.gm_semantics.specs.Frames.{TargetBelow, TargetsBelow, NamesBelow}
use Rattle.gm_semantics.specs.Statements.{variable_at}
use Rattle.gm_forms.specs.Forms.{depth_at}
use Rattle.gm_forms.specs.Sharing.{written_by, variables_of, variables_where, are_at_once, is_owned, is_kept, Reduced, reduced_by, reduced, shared_in, kept_in, disjoint, does_same, agrees, all_agree, lasting, lasts_one_way, all_last_one_way}
use Rattle.gm_forms.specs.Uses.{Owner, NodeValue, Declared, Written, Use, has_role, use_as, suits, uses_in, uses_in_all, uses_of_head, uses_of_target, uses_of_targets, uses_of}
use Rattle.gm_forms.proofs.Doings.{in-left, in-right, in-either}
use Rattle.gm_forms.proofs.Named.{both-true, all-append}
use Rattle.gm_forms.proofs.Weaker.{and-true}
use Rattle.gm_loop_laws.specs.Localised.{moved_in, moved_target, moved_declared, moved}
use Rattle.gm_loop_laws.proofs.Chosen.{disjoint-apart, apart-disjoint}
use Rattle.gm_loop_laws.proofs.Joins.{map-append}
use Rattle.gm_dissect.proofs.DeferredLoops.{either-true, may_be_written, target-declared}
use Rattle.gm_dissect.proofs.Moved.{target-moved, all-targets, at-depth}
use Rattle.gm_dissect.proofs.MovedSights.{all-once}
use Rattle.gm_dissect.proofs.Undeferred.{two-same}

or-then : (a b c d : Bool) → (a ≡ true → c ≡ true) → (b ≡ true → d ≡ true) → a || b ≡ true → c || d ≡ true
or-then true b c d f g h = ap (λ z. z || d) (f refl)
or-then false b true d f g h = refl
or-then false b false d f g h = g h

-- x: the local; q: its property; k: a number that all names are below, but the property's
module _ (x q k : ℕ) (fresh : k ≤ q) where
  abbrev pub rx : ℕ → ℕ
  rx y = cond (nat_eq y x) q y

  -- a reduction with the property in the local's place
  abbrev pub renamed : Reduced → Reduced
  renamed r = record { variables = map rx r.variables; reduce = r.reduce; number = r.number; own = r.own; shared = map rx r.shared; kept = map rx r.kept }

  pub in-renamed : (z : ℕ) (xs : List ℕ) → IsIn z (map rx xs) → IsIn z xs ⊎ ((z ≡ q) × IsIn x xs)
  in-renamed z [] i = absurd i
  in-renamed z (y ∷ xs) i = ⊎_elim (λ (e : z ≡ rx y). by (nat_eq y x) refl e) (λ r. ⊎_elim (λ l. inl (inr l)) (λ (m : (z ≡ q) × IsIn x xs). inr (m.0, inr m.1)) (in-renamed z xs r)) i
    where
      by : (b : Bool) → nat_eq y x ≡ b → z ≡ cond b q y → IsIn z (y ∷ xs) ⊎ ((z ≡ q) × IsIn x (y ∷ xs))
      by true e h = inr (h, inl (sym (eqb-true y x e)))
      by false e h = inl (inl h)

  abbrev Low : List ℕ → Type 0
  Low xs = (z : ℕ) → IsIn z xs → z < k

  not-fresh : (z : ℕ) → z < k → z ≡ q → ⊥
  not-fresh z l e = omega (arith, l, e, fresh)

  pub disjoint-renamed : (xs ys : List ℕ) → Low xs → Low ys → disjoint xs ys ≡ true → disjoint (map rx xs) (map rx ys) ≡ true
  disjoint-renamed xs ys f g h = apart-disjoint (map rx xs) (map rx ys) (λ z i j.
      ⊎_elim (λ l. ⊎_elim (λ m. disjoint-apart xs ys z h l m) (λ (m : (z ≡ q) × IsIn x ys). not-fresh z (f z l) m.0) (in-renamed z ys j))
      (λ (l : (z ≡ q) × IsIn x xs). ⊎_elim (λ m. not-fresh z (g z m) l.0) (λ (m : (z ≡ q) × IsIn x ys). disjoint-apart xs ys x h l.1 m.1) (in-renamed z ys j)) (in-renamed z xs i))

  variables-renamed : (xs ys : List ℕ) → variables_eq xs ys ≡ true → variables_eq (map rx xs) (map rx ys) ≡ true
  variables-renamed [] [] h = refl
  variables-renamed [] (y ∷ ys) h = absurd (both_ways false refl h)
  variables-renamed (x ∷ xs) [] h = absurd (both_ways false refl h)
  variables-renamed (z ∷ xs) (y ∷ ys) h =
      let r = both-true (nat_eq z y) (variables_eq xs ys) h in
      and-true (nat_eq (rx z) (rx y)) (variables_eq (map rx xs) (map rx ys)) (eq-eqb (rx z) (rx y) (ap rx (eqb-true z y r.0))) (variables-renamed xs ys r.1)

  same-renamed : (a b : Reduced) → does_same a b ≡ true → does_same (renamed a) (renamed b) ≡ true
  same-renamed a b h =
      let r = both-true (reduce_eq a.reduce b.reduce) (variables_eq a.variables b.variables) h in
      and-true (reduce_eq a.reduce b.reduce) (variables_eq (map rx a.variables) (map rx b.variables)) r.0 (variables-renamed a.variables b.variables r.1)

  -- all names of a reduction are below
  pub record LowOne (r : Reduced) : Type 0 where
    pub variables : Low r.variables
    pub shared : Low r.shared
    pub kept : Low r.kept

  abbrev pub LowAll : List Reduced → Type 0
  LowAll [] = Unit {0}
  LowAll (r ∷ rs) = LowOne r × LowAll rs

  agrees-renamed : (a : Reduced) (bs : List Reduced) → LowOne a → LowAll bs → agrees a bs ≡ true → agrees (renamed a) (map renamed bs) ≡ true
  agrees-renamed a [] f g h = refl
  agrees-renamed a (b ∷ bs) f g h =
      let c = renamed a in
      let d = renamed b in
      let once = disjoint a.shared b.variables && disjoint b.shared a.variables in
      let once' = disjoint c.shared d.variables && disjoint d.shared c.variables in
      let r = both-true (disjoint a.variables b.variables || (nat_lt a.number b.number && (once || does_same a b))) (agrees a bs) h in
      and-true (disjoint c.variables d.variables || (nat_lt a.number b.number && (once' || does_same c d))) (agrees c (map renamed bs))
      (or-then (disjoint a.variables b.variables) (nat_lt a.number b.number && (once || does_same a b)) (disjoint c.variables d.variables) (nat_lt a.number b.number && (once' || does_same c d))
      (disjoint-renamed a.variables b.variables f.variables g.0.variables)
      (λ m. let s = both-true (nat_lt a.number b.number) (once || does_same a b) m in
      and-true (nat_lt a.number b.number) (once' || does_same c d) s.0
      (or-then once (does_same a b) once' (does_same c d)
      (λ o. let u = both-true (disjoint a.shared b.variables) (disjoint b.shared a.variables) o in
      and-true (disjoint c.shared d.variables) (disjoint d.shared c.variables) (disjoint-renamed a.shared b.variables f.shared g.0.variables u.0) (disjoint-renamed b.shared a.variables g.0.shared f.variables u.1))
      (same-renamed a b) s.1)) r.0)
      (agrees-renamed a bs f g.1 r.1)

  pub agree-renamed : (rs : List Reduced) → LowAll rs → all_agree rs ≡ true → all_agree (map renamed rs) ≡ true
  agree-renamed [] f h = refl
  agree-renamed (a ∷ rs) f h =
      let r = both-true (agrees a rs) (all_agree rs) h in
      and-true (agrees (renamed a) (map renamed rs)) (all_agree (map renamed rs)) (agrees-renamed a rs f.0 f.1 r.0) (agree-renamed rs f.1 r.1)

  lasting-low : (a : Reduced) → LowOne a → Low (lasting a)
  lasting-low a f z i = ⊎_elim (f.shared z) (f.kept z) (in-either z a.shared a.kept i)

  lasting-renamed : (a b : Reduced) → LowOne a → LowOne b → disjoint (lasting a) (lasting b) ≡ true → disjoint (lasting (renamed a)) (lasting (renamed b)) ≡ true
  lasting-renamed a b f g h =
      ap (λ l. disjoint l (lasting (renamed b))) (sym (map-append rx a.shared a.kept)) ∙ ap (disjoint (map rx (lasting a))) (sym (map-append rx b.shared b.kept))
      ∙ disjoint-renamed (lasting a) (lasting b) (lasting-low a f) (lasting-low b g) h

  lasts-renamed : (a : Reduced) (bs : List Reduced) → LowOne a → LowAll bs → lasts_one_way a bs ≡ true → lasts_one_way (renamed a) (map renamed bs) ≡ true
  lasts-renamed a [] f g h = refl
  lasts-renamed a (b ∷ bs) f g h =
      let r = both-true (disjoint (lasting a) (lasting b) || does_same a b) (lasts_one_way a bs) h in
      and-true (disjoint (lasting (renamed a)) (lasting (renamed b)) || does_same (renamed a) (renamed b)) (lasts_one_way (renamed a) (map renamed bs))
      (or-then (disjoint (lasting a) (lasting b)) (does_same a b) (disjoint (lasting (renamed a)) (lasting (renamed b))) (does_same (renamed a) (renamed b)) (lasting-renamed a b f g.0) (same-renamed a b) r.0)
      (lasts-renamed a bs f g.1 r.1)

  pub last-renamed : (rs : List Reduced) → LowAll rs → all_last_one_way rs ≡ true → all_last_one_way (map renamed rs) ≡ true
  last-renamed [] f h = refl
  last-renamed (a ∷ rs) f h =
      let r = both-true (lasts_one_way a rs) (all_last_one_way rs) h in
      and-true (lasts_one_way (renamed a) (map renamed rs)) (all_last_one_way (map renamed rs)) (lasts-renamed a rs f.0 f.1 r.0) (last-renamed rs f.1 r.1)

  pub shared-renamed : (rs : List Reduced) → shared_in (map renamed rs) ≡ map rx (shared_in rs)
  shared-renamed [] = refl
  shared-renamed (r ∷ rs) = ap (λ l. map rx r.shared ++ l) (shared-renamed rs) ∙ sym (map-append rx r.shared (shared_in rs))

  pub kept-renamed : (rs : List Reduced) → kept_in (map renamed rs) ≡ map rx (kept_in rs)
  kept-renamed [] = refl
  kept-renamed (r ∷ rs) = ap (λ l. map rx r.kept ++ l) (kept-renamed rs) ∙ sym (map-append rx r.kept (kept_in rs))

  low-append : (rs ss : List Reduced) → LowAll rs → LowAll ss → LowAll (rs ++ ss)
  low-append [] ss f g = g
  low-append (r ∷ rs) ss f g = (f.0, low-append rs ss f.1 g)

  target-low : (o : Target) → TargetBelow k o → Low (written_by o)
  target-low (T.Scalar y p) b z i = ⊎_elim (λ (e : z ≡ y). subst (λ w. w < k) (sym e) b) (λ j. absurd j) i
  target-low (T.Property y r p) b z i = ⊎_elim (λ (e : z ≡ r). subst (λ w. w < k) (sym e) b.1) (λ j. absurd j) i

  variables-low : (os : List Target) → TargetsBelow k os → Low (variables_of os)
  variables-low [] b z i = absurd i
  variables-low (o ∷ os) b z i = ⊎_elim (target-low o b.0 z) (variables-low os b.1 z) (in-either z (written_by o) (variables_of os) i)

  where-low : (f : Target → Bool) (os : List Target) → TargetsBelow k os → Low (variables_where f os)
  where-low f [] b z i = absurd i
  where-low f (o ∷ os) b z i = by (f o) (where-low f os b.1 z) i
    where
      by : (c : Bool) → (IsIn z (variables_where f os) → z < k) → IsIn z (cond c (written_by o ++ variables_where f os) (variables_where f os)) → z < k
      by true rest i = ⊎_elim (target-low o b.0 z) rest (in-either z (written_by o) (variables_where f os) i)
      by false rest i = rest i

  -- dt: the table; n: the iterator
  module _ (dt : List Declaration) (n : ℕ) where
    pub reduced-low : (inner : Bool) (s : Stmt) → NamesBelow k s → LowAll (reduced dt n inner s)
    reduced-low inner (Then a b) h = low-append (reduced dt n inner a) (reduced dt n inner b) (reduced-low inner a h.0) (reduced-low inner b h.1)
    reduced-low inner (Combine key total r os es) h = by (are_at_once dt n inner os)
      where
        by : (b : Bool) → LowAll (cond b [] (reduced_by dt n total.key.statement r os ∷ []))
        by true = tt
        by false = (record { variables = variables-low os h.0; shared = where-low (λ o. not (is_owned dt n o)) os h.0; kept = where-low (is_kept dt n) os h.0 }, tt)
    reduced-low inner (If key c a b) h = low-append (reduced dt n inner a) (reduced dt n inner b) (reduced-low inner a h.1) (reduced-low inner b h.2)
    reduced-low inner (Foreach key p hd test body) h = reduced-low true body h.3
    reduced-low inner s h = tt

    pub shared-low : (rs : List Reduced) → LowAll rs → Low (shared_in rs)
    shared-low [] f z i = absurd i
    shared-low (r ∷ rs) f z i = ⊎_elim (f.0.shared z) (shared-low rs f.1 z) (in-either z r.shared (shared_in rs) i)

    pub kept-low : (rs : List Reduced) → LowAll rs → Low (kept_in rs)
    kept-low [] f z i = absurd i
    kept-low (r ∷ rs) f z i = ⊎_elim (f.0.kept z) (kept-low rs f.1 z) (in-either z r.kept (kept_in rs) i)

    -- at: the place of what is moved; t: the local's type
    module _ (at : Place) (t : VType) (deep : nat_eq (depth_at dt x) 1 ≡ true) (plain : (p : ℕ) → list_all (suits dt) (use_as NodeValue p) ≡ true → nat_eq p x ≡ false) where
      abbrev mi : Expr → Expr
      mi e = moved_in x q n at (zero_of t) e

      abbrev mt : Target → Target
      mt o = moved_target x q n at (zero_of t) o

      abbrev mv : Stmt → Stmt
      mv s = moved x q n at (zero_of t) s

      abbrev Suit : List Use → Type 0
      Suit us = list_all (suits dt) us ≡ true

      written-renamed : (o : Target) → Suit (uses_of_target o) → written_by (mt o) ≡ map rx (written_by o)
      written-renamed (T.Scalar y p) h = by (nat_eq y x)
        where
          by : (c : Bool) → written_by (cond c (T.Property n q p) (T.Scalar y p)) ≡ cond c q y ∷ []
          by true = refl
          by false = refl
      written-renamed (T.Property y r p) h = ap (λ c. cond c q r ∷ []) (sym (plain r (all-append (suits dt) (use_as Owner y) (use_as NodeValue r) h).1))

      variables-are : (os : List Target) → Suit (uses_of_targets os) → variables_of (map mt os) ≡ map rx (variables_of os)
      variables-are [] h = refl
      variables-are (o ∷ os) h =
          let r = all-append (suits dt) (uses_of_target o) (uses_of_targets os) h in
          two-same (λ a b. a ++ b) (written_by (mt o)) (variables_of (map mt os)) (map rx (written_by o)) (map rx (variables_of os)) (written-renamed o r.0) (variables-are os r.1) ∙ sym (map-append rx (written_by o) (variables_of os))

      where-are : (f : Target → Bool) → ((o : Target) → f (mt o) ≡ f o) → (os : List Target) → Suit (uses_of_targets os) → variables_where f (map mt os) ≡ map rx (variables_where f os)
      where-are f e [] h = refl
      where-are f e (o ∷ os) h =
          let r = all-append (suits dt) (uses_of_target o) (uses_of_targets os) h in
          ap (λ b. cond b (written_by (mt o) ++ variables_where f (map mt os)) (variables_where f (map mt os))) (e o) ∙ by (f o) (written-renamed o r.0) (where-are f e os r.1)
        where
          by : (b : Bool) → written_by (mt o) ≡ map rx (written_by o) → variables_where f (map mt os) ≡ map rx (variables_where f os) →
              cond b (written_by (mt o) ++ variables_where f (map mt os)) (variables_where f (map mt os)) ≡ map rx (cond b (written_by o ++ variables_where f os) (variables_where f os))
          by true g h = two-same (λ a b. a ++ b) (written_by (mt o)) (variables_where f (map mt os)) (map rx (written_by o)) (map rx (variables_where f os)) g h ∙ sym (map-append rx (written_by o) (variables_where f os))
          by false g h = h

      owned-moved : (o : Target) → is_owned dt n (mt o) ≡ is_owned dt n o
      owned-moved = target-moved dt x q n at t (is_owned dt n) true (λ p. eq-eqb n n refl) (λ y p e. at-depth dt x q n at t deep (λ d. not (nat_eq d 0)) y e)

      keeps-moved : (o : Target) → is_kept dt n (mt o) ≡ is_kept dt n o
      keeps-moved = target-moved dt x q n at t (is_kept dt n) true (λ p. eq-eqb n n refl) (λ y p e. at-depth dt x q n at t deep (λ d. nat_eq d 1) y e)

      one-moved : (number : ℕ) (r : Reduce) (os : List Target) → Suit (uses_of_targets os) → reduced_by dt n number r (map mt os) ≡ renamed (reduced_by dt n number r os)
      one-moved number r os h =
          let others : Target → Bool = λ o. not (is_owned dt n o) in
          let variables = variables_of (map mt os) in
          let shared = variables_where others (map mt os) in
          let kept = variables_where (is_kept dt n) (map mt os) in
          let own = list_all (is_owned dt n) os in
          ap (λ b. record { variables = variables; reduce = r; number = number; own = b; shared = shared; kept = kept }) (all-targets dt x q n at t (is_owned dt n) owned-moved os)
          ∙ ap (λ l. record { variables = l; reduce = r; number = number; own = own; shared = shared; kept = kept }) (variables-are os h)
          ∙ ap (λ l. record { variables = map rx (variables_of os); reduce = r; number = number; own = own; shared = l; kept = kept }) (where-are others (λ o. ap not (owned-moved o)) os h)
          ∙ ap (λ l. record { variables = map rx (variables_of os); reduce = r; number = number; own = own; shared = map rx (variables_where others os); kept = l }) (where-are (is_kept dt n) keeps-moved os h)

      pub reduced-moved : (inner : Bool) (s : Stmt) → Suit (uses_of s) → reduced dt n inner (mv s) ≡ map renamed (reduced dt n inner s)
      reduced-moved inner (Then a b) h =
          let r = all-append (suits dt) (uses_of a) (uses_of b) h in
          two-same (λ y z. y ++ z) (reduced dt n inner (mv a)) (reduced dt n inner (mv b)) (map renamed (reduced dt n inner a)) (map renamed (reduced dt n inner b)) (reduced-moved inner a r.0) (reduced-moved inner b r.1)
          ∙ sym (map-append renamed (reduced dt n inner a) (reduced dt n inner b))
      reduced-moved inner (Declare key y None) h = by (nat_eq y x)
        where
          by : (c : Bool) → reduced dt n inner (cond c (Assign key (T.Property n q at) (Const (zero_of t))) (Declare key y None)) ≡ []
          by true = refl
          by false = refl
      reduced-moved inner (Declare key y (Some e)) h = by (nat_eq y x)
        where
          by : (c : Bool) → reduced dt n inner (cond c (Assign key (T.Property n q at) (mi e)) (Declare key y (Some (mi e)))) ≡ []
          by true = refl
          by false = refl
      reduced-moved inner (Combine key total r os es) h =
          let s = all-append (suits dt) (uses_of_targets os) (uses_in_all es) h in
          ap (λ b. cond b [] (reduced_by dt n total.key.statement r (map mt os) ∷ [])) (all-once dt x q n at t deep inner os)
          ∙ ap (λ o. cond (are_at_once dt n inner os) [] (o ∷ [])) (one-moved total.key.statement r os s.0) ∙ by (are_at_once dt n inner os)
        where
          by : (b : Bool) → cond b [] (renamed (reduced_by dt n total.key.statement r os) ∷ []) ≡ map renamed (cond b [] (reduced_by dt n total.key.statement r os ∷ []))
          by true = refl
          by false = refl
      reduced-moved inner (If key c a b) h =
          let r = all-append (suits dt) (uses_in c) (uses_of a ++ uses_of b) h in
          let s = all-append (suits dt) (uses_of a) (uses_of b) r.1 in
          two-same (λ y z. y ++ z) (reduced dt n inner (mv a)) (reduced dt n inner (mv b)) (map renamed (reduced dt n inner a)) (map renamed (reduced dt n inner b)) (reduced-moved inner a s.0) (reduced-moved inner b s.1)
          ∙ sym (map-append renamed (reduced dt n inner a) (reduced dt n inner b))
      reduced-moved inner (Foreach key p hd test body) h =
          let r = all-append (suits dt) (uses_of_head hd) (uses_in test ++ uses_of body) h in
          let s = all-append (suits dt) (uses_in test) (uses_of body) r.1 in
          reduced-moved true body s.1
      reduced-moved inner s h = refl

      -- what is shared is not the local
      where-apart : (os : List Target) → Suit (uses_of_targets os) → IsIn x (variables_where (λ o. not (is_owned dt n o)) os) → ⊥
      where-apart [] h i = absurd i
      where-apart (T.Scalar y p ∷ os) h i = by (nat_eq y x) refl (where-apart os (all-append (suits dt) (use_as Written y) (uses_of_targets os) h).1) i
        where
          rest : List ℕ
          rest = variables_where (λ o. not (is_owned dt n o)) os

          other : (c : Bool) → nat_eq y x ≡ false → (IsIn x rest → ⊥) → IsIn x (cond c (y ∷ rest) rest) → ⊥
          other true e more i = ⊎_elim (λ (s : x ≡ y). both_ways (nat_eq y x) e (eq-eqb y x (sym s))) more i
          other false e more i = more i

          by : (c : Bool) → nat_eq y x ≡ c → (IsIn x rest → ⊥) → IsIn x (cond (not (not (nat_eq (depth_at dt y) 0))) (y ∷ rest) rest) → ⊥
          by true e more i = more (subst (λ b. IsIn x (cond b (y ∷ rest) rest)) (at-depth dt x q n at t deep (λ d. not (not (nat_eq d 0))) y e) i)
          by false e more i = other (not (not (nat_eq (depth_at dt y) 0))) e more i
      where-apart (T.Property y r p ∷ os) h i =
          let s = all-append (suits dt) (use_as Owner y ++ use_as NodeValue r) (uses_of_targets os) h in
          let u = all-append (suits dt) (use_as Owner y) (use_as NodeValue r) s.0 in
          by (not (nat_eq y n)) (plain r u.1) (where-apart os s.1) i
        where
          rest : List ℕ
          rest = variables_where (λ o. not (is_owned dt n o)) os

          by : (c : Bool) → nat_eq r x ≡ false → (IsIn x rest → ⊥) → IsIn x (cond c (r ∷ rest) rest) → ⊥
          by true e more i = ⊎_elim (λ (s : x ≡ r). both_ways (nat_eq r x) e (eq-eqb r x (sym s))) more i
          by false e more i = more i

      shared-either : (rs ss : List Reduced) → (IsIn x (shared_in rs) → ⊥) → (IsIn x (shared_in ss) → ⊥) → IsIn x (shared_in (rs ++ ss)) → ⊥
      shared-either [] ss f g i = g i
      shared-either (r ∷ rs) ss f g i =
          ⊎_elim (λ l. f (in-left x r.shared (shared_in rs) l)) (λ m. shared-either rs ss (λ l. f (in-right x r.shared (shared_in rs) l)) g m) (in-either x r.shared (shared_in (rs ++ ss)) i)

      pub not-shared : (inner : Bool) (s : Stmt) → Suit (uses_of s) → IsIn x (shared_in (reduced dt n inner s)) → ⊥
      not-shared inner (Then a b) h i =
          let r = all-append (suits dt) (uses_of a) (uses_of b) h in shared-either (reduced dt n inner a) (reduced dt n inner b) (not-shared inner a r.0) (not-shared inner b r.1) i
      not-shared inner (Combine key total r os es) h i = by (are_at_once dt n inner os) (where-apart os (all-append (suits dt) (uses_of_targets os) (uses_in_all es) h).0) i
        where
          by : (b : Bool) → (IsIn x (variables_where (λ o. not (is_owned dt n o)) os) → ⊥) → IsIn x (shared_in (cond b [] (reduced_by dt n total.key.statement r os ∷ []))) → ⊥
          by true apart i = absurd i
          by false apart i = ⊎_elim (λ l. apart l) (λ j. absurd j) (in-either x (variables_where (λ o. not (is_owned dt n o)) os) [] i)
      not-shared inner (If key c a b) h i =
          let r = all-append (suits dt) (uses_in c) (uses_of a ++ uses_of b) h in
          let s = all-append (suits dt) (uses_of a) (uses_of b) r.1 in
          shared-either (reduced dt n inner a) (reduced dt n inner b) (not-shared inner a s.0) (not-shared inner b s.1) i
      not-shared inner (Foreach key p hd test body) h i =
          let r = all-append (suits dt) (uses_of_head hd) (uses_in test ++ uses_of body) h in
          let s = all-append (suits dt) (uses_in test) (uses_of body) r.1 in
          not-shared true body s.1 i
      not-shared inner s h i = absurd i

      -- what is reduced to is declared
      abbrev IsDeclared : ℕ → Type 0
      IsDeclared y = may_be_written (variable_at dt y) ≡ true

      where-declared : (f : Target → Bool) (os : List Target) (z : ℕ) → Suit (uses_of_targets os) → IsIn z (variables_where f os) → IsDeclared z
      where-declared f [] z h i = absurd i
      where-declared f (o ∷ os) z h i =
          let r = all-append (suits dt) (uses_of_target o) (uses_of_targets os) h in by (f o) (target-declared dt o z r.0) (where-declared f os z r.1) i
        where
          by : (c : Bool) → (IsIn z (written_by o) → IsDeclared z) → (IsIn z (variables_where f os) → IsDeclared z) → IsIn z (cond c (written_by o ++ variables_where f os) (variables_where f os)) → IsDeclared z
          by true one more i = ⊎_elim one more (in-either z (written_by o) (variables_where f os) i)
          by false one more i = more i

      abbrev Declares : List Reduced → Type 0
      Declares rs = ((z : ℕ) → IsIn z (shared_in rs) → IsDeclared z) × ((z : ℕ) → IsIn z (kept_in rs) → IsDeclared z)

      declares-none : Declares []
      declares-none = (λ z i. absurd i, λ z i. absurd i)

      declares-append : (rs ss : List Reduced) → Declares rs → Declares ss → Declares (rs ++ ss)
      declares-append [] ss f g = g
      declares-append (r ∷ rs) ss f g =
          let rest = declares-append rs ss (λ z i. f.0 z (in-right z r.shared (shared_in rs) i), λ z i. f.1 z (in-right z r.kept (kept_in rs) i)) g in (
            λ z i. ⊎_elim (λ l. f.0 z (in-left z r.shared (shared_in rs) l)) (rest.0 z) (in-either z r.shared (shared_in (rs ++ ss)) i),
            λ z i. ⊎_elim (λ l. f.1 z (in-left z r.kept (kept_in rs) l)) (rest.1 z) (in-either z r.kept (kept_in (rs ++ ss)) i),
          )

      pub reduced-declared : (inner : Bool) (s : Stmt) → Suit (uses_of s) → Declares (reduced dt n inner s)
      reduced-declared inner (Then a b) h =
          let r = all-append (suits dt) (uses_of a) (uses_of b) h in declares-append (reduced dt n inner a) (reduced dt n inner b) (reduced-declared inner a r.0) (reduced-declared inner b r.1)
      reduced-declared inner (Combine key total r os es) h = by (are_at_once dt n inner os) (all-append (suits dt) (uses_of_targets os) (uses_in_all es) h).0
        where
          by : (b : Bool) → Suit (uses_of_targets os) → Declares (cond b [] (reduced_by dt n total.key.statement r os ∷ []))
          by true s = declares-none
          by false s = (
            λ z i. ⊎_elim (where-declared (λ o. not (is_owned dt n o)) os z s) (λ j. absurd j) (in-either z (variables_where (λ o. not (is_owned dt n o)) os) [] i),
            λ z i. ⊎_elim (where-declared (is_kept dt n) os z s) (λ j. absurd j) (in-either z (variables_where (is_kept dt n) os) [] i),
          )
      reduced-declared inner (If key c a b) h =
          let r = all-append (suits dt) (uses_in c) (uses_of a ++ uses_of b) h in
          let s = all-append (suits dt) (uses_of a) (uses_of b) r.1 in
          declares-append (reduced dt n inner a) (reduced dt n inner b) (reduced-declared inner a s.0) (reduced-declared inner b s.1)
      reduced-declared inner (Foreach key p hd test body) h =
          let r = all-append (suits dt) (uses_of_head hd) (uses_in test ++ uses_of body) h in
          let s = all-append (suits dt) (uses_in test) (uses_of body) r.1 in
          reduced-declared true body s.1
      reduced-declared inner s h = declares-none
