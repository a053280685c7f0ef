-- What the expressions of a loop's body read, and the accesses that they are.
use Rattle.std.proofs.Common.{◌≡◌, ◌⊎◌, ◌+◌, ◌<◌, ℕ, inl, inr, Bool, true, false, List, [], ◌∷◌, ◌++◌, length, refl, sym, ap, subst, ◌∙◌, ⊎_elim, arith, Option, Some, None}
use Rattle.std.specs.Prelude.{◌&&◌, ◌||◌, not, nat_eq, nat_lt, if◌then◌else◌, slice_get, option_map}
use Rattle.std.specs.List.{list_all}
use Rattle.std.proofs.lemmas.Bool.{both_ways, ltb-true}
use Rattle.std.proofs.lemmas.Bool.Decides.{nat_tests}
use Rattle.std.proofs.lemmas.Option.{slice_get_cases}
use Rattle.gm_base.specs.declared.places.Place.{Place}
use Rattle.gm_ast.specs.declared.accesses.Access.{Access}
use Rattle.gm_ast.specs.declared.accesses.AccessKind.{AccessKind}
use Rattle.gm_ast.specs.declared.accesses.AccessKind.TheVariants.{OwnRead, OtherRead, LevelRead}
use Rattle.gm_ast.specs.declared.tree.Declaration.{Declaration}
use Rattle.gm_ast.specs.declared.tree.Domain.{Domain}
use Rattle.gm_ast.specs.declared.tree.Domain.TheVariants as Domains
use Rattle.gm_ast.specs.declared.tree.Head.{Head}
use Rattle.gm_ast.specs.declared.tree.Sort.{Sort}
use Rattle.gm_ast.specs.declared.tree.Sort.TheVariants as Sorts
use Rattle.gm_ast.specs.declared.tree.Variable.{Variable}
use Rattle.gm_ast.specs.Accesses.{Loop, Around, number_at, loops_outside, access, scalar_read, read_over, inner_read, read_kind, access_if, reads, loops_in, option_reads, reads_of_all}
use Rattle.gm_ast.specs.Loops.{declared_at, depth_of, is_property, is_scalar, asks_levels}
use Rattle.gm_ast.specs.Names.{is, is_node_type, sort_eq}
use Rattle.gm_ast.specs.Program.{Expr, Const, Var, Property, EdgeProperty, Degree, NodeCount, EdgeCount, Live, Unary, Binary, Both, Either, Choose, Folded}
use Rattle.gm_ast.specs.Ways.{is_in}
use Rattle.gm_semantics.specs.Statements.{variable_at, variable_or}
use Rattle.gm_forms.specs.Forms.{may, is_range, is_flat, is_inner_head}
use Rattle.gm_forms.specs.Ready.{is_outer_expr}
use Rattle.gm_forms.specs.Sharing.{Read, reads_in, Sights, sights_in, sights_in_option, sights_in_all, with_reads, not_through, at_level, level_reads_in, level_reads_in_option, level_reads_in_all}
use Rattle.gm_forms.specs.Uses.{Role, Iterates, Told, Owner, NodeValue, Use, use_as, has_role, suits, owner_role, uses_of_head, uses_in, uses_in_option, uses_in_all}
use Rattle.gm_forms.proofs.Named.{both-true, all-append}
use Rattle.gm_ready.proofs.Racing.{Member, Inside, inside-left, inside-right}
use Rattle.gm_ready.proofs.Pairs.{access_at, Has}
use Rattle.gm_ready.proofs.CheckedForms.{present}

-- ---- each member of a list

abbrev pub Every : {A : Type 0} → (A → Type 0) → List A → Type 0
Every P [] = Unit {0}
Every P (x ∷ xs) = P x × Every P xs

pub every-append : {A : Type 0} (P : A → Type 0) (xs ys : List A) → Every P xs → Every P ys → Every P (xs ++ ys)
every-append P [] ys h k = k
every-append P (x ∷ xs) ys h k = (h.0, every-append P xs ys h.1 k)

pub every-map : {A : Type 0} (P Q : A → Type 0) (xs : List A) → ((x : A) → P x → Q x) → Every P xs → Every Q xs
every-map P Q [] f h = tt
every-map P Q (x ∷ xs) f h = (f x h.0, every-map P Q xs f h.1)

pub flip : (a b : ℕ) → nat_eq a b ≡ nat_eq b a
flip a b = grind (arith, nat_tests)

-- ---- variables by their uses

module _ (ds : List Declaration) where
  abbrev pub Suit : List Use → Type 0
  Suit us = list_all (suits ds) us ≡ true

  pub split : (us vs : List Use) → Suit (us ++ vs) → Suit us × Suit vs
  split us vs h = all-append (suits ds) us vs h

  abbrev pub NoProp : ℕ → Type 0
  NoProp x = is_property (declared_at ds x) ≡ false

  abbrev pub IsProp : ℕ → Type 0
  IsProp x = is_property (declared_at ds x) ≡ true

  -- a scalar whose accesses count in the loop that has so many around it
  abbrev pub ScalarAt : ℕ → ℕ → Type 0
  ScalarAt k x = (is_scalar (declared_at ds x) ≡ true) × (loops_outside (declared_at ds x) ≡ k)

  used-as : (role : Role) (x : ℕ) → Suit (use_as role x) → (v : Variable) × ((declared_at ds x ≡ Some v) × (has_role v role ≡ true))
  used-as role x h =
      let s = both-true (nat_lt x (length ds) && has_role (variable_at ds x) role) true h in
      let t = both-true (nat_lt x (length ds)) (has_role (variable_at ds x) role) s.0 in
      let low : x < length ds = ltb-true x (length ds) t.0 in
      ⊎_elim
      (λ (f : (d : Declaration) × (x < length ds) × (slice_get ds x ≡ Some d) × _).
      let is_it : declared_at ds x ≡ Some f.0.variable = ap (λ o. option_map (λ (d : Declaration). d.variable) o) f.2 in
      (f.0.variable, (is_it, sym (ap (λ o. has_role (variable_or o) role) is_it) ∙ t.1)))
      (λ none. absurd (let out = none.0 in let no : ⊥ = omega (arith, low, out) in no))
      (slice_get_cases ds x).1

  pub owner-plain : (x : ℕ) → Suit (use_as Owner x) → NoProp x
  owner-plain x h = let u = used-as Owner x h in ap is_property u.1.0 ∙ by (is_node_type u.0.vtype) u.0.sort u.1.1
    where
      by : (t : Bool) (s : Sort) → (sort_eq Sorts.Iterator s || (sort_eq Sorts.Scalar s && t)) || sort_eq Sorts.Graph s ≡ true → sort_eq Sorts.NodeProperty s || sort_eq Sorts.EdgeProperty s ≡ false
      by t Sorts.Graph h = refl
      by t Sorts.Iterator h = refl
      by t Sorts.Scalar h = refl
      by t Sorts.Edge h = absurd (both_ways false refl h)
      by t Sorts.NodeProperty h = absurd (both_ways false refl h)
      by t Sorts.EdgeProperty h = absurd (both_ways false refl h)

  pub told-plain : (x : ℕ) → Suit (use_as Told x) → NoProp x
  told-plain x h = let u = used-as Told x h in ap is_property u.1.0 ∙ by u.0.sort u.1.1
    where
      by : (s : Sort) → sort_eq Sorts.Scalar s || (sort_eq Sorts.Iterator s || sort_eq Sorts.Graph s) ≡ true → sort_eq Sorts.NodeProperty s || sort_eq Sorts.EdgeProperty s ≡ false
      by Sorts.Graph h = refl
      by Sorts.Iterator h = refl
      by Sorts.Scalar h = refl
      by Sorts.Edge h = absurd (both_ways false refl h)
      by Sorts.NodeProperty h = absurd (both_ways false refl h)
      by Sorts.EdgeProperty h = absurd (both_ways false refl h)

  pub value-property : (p : ℕ) → Suit (use_as NodeValue p) → IsProp p
  value-property p h = let u = used-as NodeValue p h in ap is_property u.1.0 ∙ ap (λ c. c || is Sorts.EdgeProperty u.0) u.1.1

  -- the node variable of a range of neighbours is read
  pub head-plain : (levels : Bool) (h : Head) → is_range levels h.domain ≡ true → Suit (uses_of_head h) → NoProp h.owner
  head-plain levels h r u = by h.domain r (split (use_as Iterates h.iterator) (use_as (owner_role h.domain) h.owner) u).1
    where
      by : (d : Domain) → is_range levels d ≡ true → Suit (use_as (owner_role d) h.owner) → NoProp h.owner
      by Domains.Nodes r u = absurd (both_ways false refl r)
      by Domains.OutNbrs r u = owner-plain h.owner u
      by Domains.InNbrs r u = owner-plain h.owner u
      by Domains.UpNbrs r u = owner-plain h.owner u
      by Domains.DownNbrs r u = owner-plain h.owner u

  -- how a property is read through the iterator of a range of neighbours
  abbrev pub Over : Bool → Domain → AccessKind → Type 0
  Over levels d k = (read_over d ≡ Some k) × (((k ≡ OtherRead) × (asks_levels d ≡ false)) ⊎ ((k ≡ LevelRead) × ((levels ≡ true) × (asks_levels d ≡ true))))

  pub range-kind : (levels : Bool) (d : Domain) → is_range levels d ≡ true → (k : AccessKind) × Over levels d k
  range-kind levels Domains.Nodes r = absurd (both_ways false refl r)
  range-kind levels Domains.OutNbrs r = (OtherRead, (refl, inl (refl, refl)))
  range-kind levels Domains.InNbrs r = (OtherRead, (refl, inl (refl, refl)))
  range-kind levels Domains.UpNbrs r = (LevelRead, (refl, inr (refl, (r, refl))))
  range-kind levels Domains.DownNbrs r = (LevelRead, (refl, inr (refl, (r, refl))))

  -- ---- accesses in a loop

  -- accesses to a property count in the outermost loop
  pub property-counts : (p : ℕ) → IsProp p → loops_outside (declared_at ds p) ≡ 0
  property-counts p h = ap (λ c. if c then 0 else depth_of (declared_at ds p)) h

  module _ (all : List Access) where
    pub accessed : (w : Around) → w.declarations ≡ ds → (x : ℕ) (at : Place) (kind : AccessKind) (k : ℕ) → loops_outside (declared_at w.declarations x) ≡ k → nat_lt k (length w.loops) ≡ true
        → Inside (access w x at kind) all → Has all (number_at w.loops k) (number_at w.loops 1) kind x
    accessed w is x at kind k e lt i =
        let b = access_at at (number_at w.loops k) (number_at w.loops 1) x kind in
        (at, i b (subst (λ j. Member b (if nat_lt j (length w.loops) then access_at at (number_at w.loops j) (number_at w.loops 1) x kind ∷ [] else [])) (sym e) (present (nat_lt k (length w.loops)) b lt)))

    pub property-accessed : (loops : List Loop) (p : ℕ) (at : Place) (kind : AccessKind) → IsProp p → nat_lt 0 (length loops) ≡ true
        → Inside (access (record { declarations = ds; loops = loops }) p at kind) all → Has all (number_at loops 0) (number_at loops 1) kind p
    property-accessed loops p at kind is lt i =
        accessed (record { declarations = ds; loops = loops }) refl p at kind 0 (property-counts p is) lt i

    abbrev around : List Loop → Around
    around loops = record { declarations = ds; loops = loops }

    -- a read of a scalar that counts in a loop around it
    scalar-accessed : (loops : List Loop) (x : ℕ) (at : Place) (k : ℕ) → nat_lt k (length loops) ≡ true → Inside (scalar_read (around loops) x at) all → ScalarAt k x → Has all (number_at loops k) (number_at loops 1) OwnRead x
    scalar-accessed loops x at k lt i s =
        accessed (around loops) refl x at OwnRead k s.1 lt (subst (λ c. Inside (if c then access (around loops) x at OwnRead else []) all) s.0 i)

    -- a property that is read through a variable of a kind
    read-accessed : (loops : List Loop) (x p : ℕ) (at : Place) (kind : AccessKind) → IsProp p → nat_lt 0 (length loops) ≡ true → read_kind loops x ≡ Some kind → Inside (access_if (around loops) p at (read_kind loops x)) all
        → Has all (number_at loops 0) (number_at loops 1) kind p
    read-accessed loops x p at kind is lt e i = property-accessed loops p at kind is lt (subst (λ o. Inside (access_if (around loops) p at o) all) e i)

    module _ (l : Loop) where
      abbrev L : ℕ
      L = l.number

      abbrev n : ℕ
      n = l.iterator

      -- ---- an outer body

      -- an access in the loop, in an inner one or in none
      abbrev pub Somewhere : AccessKind → ℕ → Type 0
      Somewhere kind x = (j : ℕ) × Has all L j kind x

      abbrev pub ToldOut : ℕ → Type 0
      ToldOut x = NoProp x × (ScalarAt 0 x → Somewhere OwnRead x)

      abbrev pub ReadOut : Bool → Read → Type 0
      ReadOut levels r =
          IsProp r.property × (((nat_eq r.owner n ≡ true) × Somewhere OwnRead r.property)
          ⊎ ((nat_eq r.owner n ≡ false) × (Somewhere OtherRead r.property ⊎ ((levels ≡ true) × Somewhere LevelRead r.property))))

      abbrev pub SeenOut : Bool → Sights → Type 0
      SeenOut levels s = Every (ReadOut levels) s.properties × Every ToldOut s.scalars

      -- a read through the loop's own node, or one at neighbours of any level
      abbrev pub Away : Read → Type 0
      Away r = IsProp r.property × ((nat_eq r.owner n ≡ true) ⊎ Somewhere OtherRead r.property)

      pub seen-both : (levels : Bool) (a b : Sights) → SeenOut levels a → SeenOut levels b → SeenOut levels (with_reads a b)
      seen-both levels a b h k = (every-append (ReadOut levels) a.properties b.properties h.0 k.0, every-append ToldOut a.scalars b.scalars h.1 k.1)

      pub told-out : (x : ℕ) (at : Place) → NoProp x → Inside (scalar_read (around (l ∷ [])) x at) all → ToldOut x
      told-out x at plain i = (plain, λ s. (number_at (l ∷ []) 1, scalar-accessed (l ∷ []) x at 0 refl i s))

      -- ---- an inner one

      module _ (m : Loop) (levels : Bool) (kind : AccessKind) (over : Over levels m.domain kind) where
        abbrev M : ℕ
        M = m.number

        abbrev pub ToldIn : ℕ → Type 0
        ToldIn x = NoProp x × ((ScalarAt 0 x → Has all L M OwnRead x) × (ScalarAt 1 x → Has all M M OwnRead x))

        abbrev pub ReadIn : Read → Type 0
        ReadIn r =
            IsProp r.property × (((nat_eq r.owner n ≡ true) × Has all L M OwnRead r.property)
            ⊎ ((nat_eq r.owner n ≡ false) × ((nat_eq r.owner m.iterator ≡ true) × Has all L M kind r.property)))

        abbrev pub SeenIn : Sights → Type 0
        SeenIn s = Every ReadIn s.properties × Every ToldIn s.scalars

        pub in-both : (a b : Sights) → SeenIn a → SeenIn b → SeenIn (with_reads a b)
        in-both a b h k = (every-append ReadIn a.properties b.properties h.0 k.0, every-append ToldIn a.scalars b.scalars h.1 k.1)

        pub told-in : (x : ℕ) (at : Place) → NoProp x → Inside (scalar_read (around (l ∷ (m ∷ []))) x at) all → ToldIn x
        told-in x at plain i = (plain, (λ s. scalar-accessed (l ∷ (m ∷ [])) x at 0 refl i s, λ s. scalar-accessed (l ∷ (m ∷ [])) x at 1 refl i s))

        read-in : (x p : ℕ) (at : Place) → IsProp p → is_in (n ∷ (m.iterator ∷ [])) x ≡ true → Inside (access_if (around (l ∷ (m ∷ []))) p at (read_kind (l ∷ (m ∷ [])) x)) all → ReadIn (record { owner = x; property = p })
        read-in x p at is known i = (is, by (nat_eq x n) (nat_eq x m.iterator) refl refl known)
          where
            by : (a b : Bool) → nat_eq x n ≡ a → nat_eq x m.iterator ≡ b → a || (b || false) ≡ true
                → ((nat_eq x n ≡ true) × Has all L M OwnRead p) ⊎ ((nat_eq x n ≡ false) × ((nat_eq x m.iterator ≡ true) × Has all L M kind p))
            by true b e f k = inl (e, read-accessed (l ∷ (m ∷ [])) x p at OwnRead is refl (ap (λ c. if c then Some OwnRead else inner_read (m ∷ []) x) (flip n x ∙ e)) i)
            by false true e f k =
                inr (
                  e,
                  (
                    f,
                    read-accessed (l ∷ (m ∷ [])) x p at kind is refl
                        (ap (λ c. if c then Some OwnRead else inner_read (m ∷ []) x) (flip n x ∙ e) ∙ ap (λ c. if c then read_over m.domain else None) (flip m.iterator x ∙ f) ∙ over.0) i,
                  ),
                )
            by false false e f k = absurd (both_ways false refl k)

        flat-two : (edge : Bool) (a b : Expr) (k : ℕ) → is_flat (n ∷ (m.iterator ∷ [])) edge a && is_flat (n ∷ (m.iterator ∷ [])) edge b ≡ true → Suit (uses_in a ++ uses_in b)
            → Inside (reads a (around (l ∷ (m ∷ []))) k ++ reads b (around (l ∷ (m ∷ []))) (k + loops_in a)) all
            → (is_flat (n ∷ (m.iterator ∷ [])) edge a ≡ true → Suit (uses_in a) → Inside (reads a (around (l ∷ (m ∷ []))) k) all → SeenIn (sights_in a))
            → (is_flat (n ∷ (m.iterator ∷ [])) edge b ≡ true → Suit (uses_in b) → Inside (reads b (around (l ∷ (m ∷ []))) (k + loops_in a)) all → SeenIn (sights_in b)) → SeenIn (with_reads (sights_in a) (sights_in b))
        flat-two edge a b k h u i first second =
            let w = around (l ∷ (m ∷ [])) in
            let f = both-true (is_flat (n ∷ (m.iterator ∷ [])) edge a) (is_flat (n ∷ (m.iterator ∷ [])) edge b) h in
            let s = split (uses_in a) (uses_in b) u in
            let x = reads a w k in
            let y = reads b w (k + loops_in a) in
            in-both (sights_in a) (sights_in b) (first f.0 s.0 (inside-left x y all i)) (second f.1 s.1 (inside-right x y all i))

        pub flat-seen : (edge : Bool) (e : Expr) (k : ℕ) → is_flat (n ∷ (m.iterator ∷ [])) edge e ≡ true → Suit (uses_in e) → Inside (reads e (around (l ∷ (m ∷ []))) k) all → SeenIn (sights_in e)
        flat-seen edge (Const v) k h u i = (tt, tt)
        flat-seen edge (Var x at) k h u i = (tt, (told-in x at (told-plain x u) i, tt))
        flat-seen edge (Property x p at) k h u i =
            let w = around (l ∷ (m ∷ [])) in
            let s = split (use_as Owner x) (use_as NodeValue p) u in
            let more = access_if w p at (read_kind w.loops x) in
            ((read-in x p at (value-property p s.1) h (inside-right (scalar_read w x at) more all i), tt), (told-in x at (owner-plain x s.0) (inside-left (scalar_read w x at) more all i), tt))
        flat-seen edge (EdgeProperty x p at) k h u i = (tt, tt)
        flat-seen edge (Degree d x at) k h u i = (tt, (told-in x at (owner-plain x u) i, tt))
        flat-seen edge NodeCount k h u i = (tt, tt)
        flat-seen edge EdgeCount k h u i = (tt, tt)
        flat-seen edge (Live x at) k h u i = (tt, (told-in x at (owner-plain x u) i, tt))
        flat-seen edge (Unary op at e) k h u i = flat-seen edge e k h u i
        flat-seen edge (Binary op at a b) k h u i = flat-two edge a b k h u i (flat-seen edge a k) (flat-seen edge b (k + loops_in a))
        flat-seen edge (Both a b) k h u i = flat-two edge a b k h u i (flat-seen edge a k) (flat-seen edge b (k + loops_in a))
        flat-seen edge (Either a b) k h u i = flat-two edge a b k h u i (flat-seen edge a k) (flat-seen edge b (k + loops_in a))
        flat-seen edge (Choose c a b) k h u i =
            let w = around (l ∷ (m ∷ [])) in
            let f = both-true (is_flat (n ∷ (m.iterator ∷ [])) edge c) (is_flat (n ∷ (m.iterator ∷ [])) edge a && is_flat (n ∷ (m.iterator ∷ [])) edge b) h in
            let s = split (uses_in c) (uses_in a ++ uses_in b) u in
            let x = reads c w k in
            let y = reads a w (k + loops_in c) ++ reads b w (k + loops_in c + loops_in a) in
            in-both (sights_in c) (with_reads (sights_in a) (sights_in b)) (flat-seen edge c k f.0 s.0 (inside-left x y all i)) (flat-two edge a b (k + loops_in c) f.1 s.1 (inside-right x y all i) (flat-seen edge a (k + loops_in c)) (flat-seen edge b (k + loops_in c + loops_in a)))
        flat-seen edge (Folded f hd test e) k h u i = absurd (both_ways false refl h)

        -- as the outer body sees it
        out-of : Over levels m.domain kind → (p : ℕ) → Has all L M kind p → Somewhere OtherRead p ⊎ ((levels ≡ true) × Somewhere LevelRead p)
        out-of v p h =
            ⊎_elim
            (λ (o : (kind ≡ OtherRead) × (asks_levels m.domain ≡ false)). inl (M, subst (λ k. Has all L M k p) o.0 h))
            (λ (o : (kind ≡ LevelRead) × ((levels ≡ true) × (asks_levels m.domain ≡ true))). inr (o.1.0, (M, subst (λ k. Has all L M k p) o.0 h)))
            v.1

        read-out : (r : Read) → ReadIn r → ReadOut levels r
        read-out r h = (
          h.0,
          ⊎_elim (λ (o : (nat_eq r.owner n ≡ true) × Has all L M OwnRead r.property). inl (o.0, (M, o.1)))
              (λ (o : (nat_eq r.owner n ≡ false) × ((nat_eq r.owner m.iterator ≡ true) × Has all L M kind r.property)). inr (o.0, out-of over r.property o.1.1)) h.1,
        )

        told-out-of : (x : ℕ) → ToldIn x → ToldOut x
        told-out-of x h = (h.0, λ s. (M, h.1.0 s))

        pub seen-out : (s : Sights) → SeenIn s → SeenOut levels s
        seen-out s h = (every-map ReadIn (ReadOut levels) s.properties read-out h.0, every-map ToldIn ToldOut s.scalars told-out-of h.1)

        -- without what is read at other levels
        away-in : kind ≡ OtherRead → (r : Read) → ReadIn r → Away r
        away-in e r h = (
          h.0,
          ⊎_elim (λ (o : (nat_eq r.owner n ≡ true) × Has all L M OwnRead r.property). inl o.0)
              (λ (o : (nat_eq r.owner n ≡ false) × ((nat_eq r.owner m.iterator ≡ true) × Has all L M kind r.property)). inr (M, subst (λ k. Has all L M k r.property) e o.1.1)) h.1,
        )

        away-through : (rs : List Read) → Every ReadIn rs → Every Away (not_through m.iterator rs)
        away-through [] h = tt
        away-through (r ∷ rs) h = by (nat_eq r.owner m.iterator) refl (away-through rs h.1)
          where
            by : (c : Bool) → nat_eq r.owner m.iterator ≡ c → Every Away (not_through m.iterator rs) → Every Away (if c then not_through m.iterator rs else r ∷ not_through m.iterator rs)
            by true e more = more
            by false e more = (
              (
                h.0.0,
                ⊎_elim (λ (o : (nat_eq r.owner n ≡ true) × Has all L M OwnRead r.property). inl o.0)
                    (λ (o : (nat_eq r.owner n ≡ false) × ((nat_eq r.owner m.iterator ≡ true) × Has all L M kind r.property)). absurd (both_ways (nat_eq r.owner m.iterator) e o.1.0)) h.0.1,
              ),
              more,
            )

        pub away-at : (hd : Head) → hd.domain ≡ m.domain → hd.iterator ≡ m.iterator → (rs : List Read) → Every ReadIn rs → Every Away (at_level hd rs)
        away-at hd same i rs h =
            subst (λ d. Every Away (if asks_levels d then not_through hd.iterator rs else rs)) (sym same) (subst (λ x. Every Away (if asks_levels m.domain then not_through x rs else rs)) (sym i)
            (⊎_elim
            (λ (o : (kind ≡ OtherRead) × (asks_levels m.domain ≡ false)). subst (λ c. Every Away (if c then not_through m.iterator rs else rs)) (sym o.1) (every-map ReadIn Away rs (away-in o.0) h))
            (λ (o : (kind ≡ LevelRead) × ((levels ≡ true) × (asks_levels m.domain ≡ true))). subst (λ c. Every Away (if c then not_through m.iterator rs else rs)) (sym o.1.1) (away-through rs h))
            over.1))

      -- ---- expressions of an outer body

      abbrev pub Outside : Bool → Expr → Type 0
      Outside levels e = SeenOut levels (sights_in e) × Every Away (level_reads_in e)

      out-two : (levels : Bool) (a b : Expr) → Outside levels a → Outside levels b → SeenOut levels (with_reads (sights_in a) (sights_in b)) × Every Away (level_reads_in a ++ level_reads_in b)
      out-two levels a b x y = (seen-both levels (sights_in a) (sights_in b) x.0 y.0, every-append Away (level_reads_in a) (level_reads_in b) x.1 y.1)

      read-here : (x p : ℕ) (at : Place) → IsProp p → is_in (n ∷ []) x ≡ true → Inside (access_if (around (l ∷ [])) p at (read_kind (l ∷ []) x)) all → (nat_eq x n ≡ true) × Somewhere OwnRead p
      read-here x p at is known i =
          let e : nat_eq x n ≡ true = or-false-out (nat_eq x n) known in
          (e, (number_at (l ∷ []) 1, read-accessed (l ∷ []) x p at OwnRead is refl (ap (λ c. if c then Some OwnRead else inner_read [] x) (flip n x ∙ e)) i))
        where
          or-false-out : (b : Bool) → b || false ≡ true → b ≡ true
          or-false-out true h = refl
          or-false-out false h = h

      pub expr-seen : (levels : Bool) (e : Expr) (k : ℕ) → is_outer_expr levels n e ≡ true → Suit (uses_in e) → Inside (reads e (around (l ∷ [])) k) all → Outside levels e
      expr-seen levels (Const v) k h u i = ((tt, tt), tt)
      expr-seen levels (Var x at) k h u i = ((tt, (told-out x at (told-plain x u) i, tt)), tt)
      expr-seen levels (Property x p at) k h u i =
          let w = around (l ∷ []) in
          let s = split (use_as Owner x) (use_as NodeValue p) u in
          let more = access_if w p at (read_kind w.loops x) in
          let is = value-property p s.1 in
          let r = read-here x p at is h (inside-right (scalar_read w x at) more all i) in
          ((((is, inl r), tt), (told-out x at (owner-plain x s.0) (inside-left (scalar_read w x at) more all i), tt)), ((is, inl r.0), tt))
      expr-seen levels (EdgeProperty x p at) k h u i = ((tt, tt), tt)
      expr-seen levels (Degree d x at) k h u i = ((tt, (told-out x at (owner-plain x u) i, tt)), tt)
      expr-seen levels NodeCount k h u i = ((tt, tt), tt)
      expr-seen levels EdgeCount k h u i = ((tt, tt), tt)
      expr-seen levels (Live x at) k h u i = ((tt, (told-out x at (owner-plain x u) i, tt)), tt)
      expr-seen levels (Unary op at e) k h u i = expr-seen levels e k h u i
      expr-seen levels (Binary op at a b) k h u i =
          let w = around (l ∷ []) in
          let f = both-true (is_outer_expr levels n a) (is_outer_expr levels n b) h in
          let s = split (uses_in a) (uses_in b) u in
          let x = reads a w k in
          let y = reads b w (k + loops_in a) in
          out-two levels a b (expr-seen levels a k f.0 s.0 (inside-left x y all i)) (expr-seen levels b (k + loops_in a) f.1 s.1 (inside-right x y all i))
      expr-seen levels (Both a b) k h u i =
          let w = around (l ∷ []) in
          let f = both-true (is_outer_expr levels n a) (is_outer_expr levels n b) h in
          let s = split (uses_in a) (uses_in b) u in
          let x = reads a w k in
          let y = reads b w (k + loops_in a) in
          out-two levels a b (expr-seen levels a k f.0 s.0 (inside-left x y all i)) (expr-seen levels b (k + loops_in a) f.1 s.1 (inside-right x y all i))
      expr-seen levels (Either a b) k h u i =
          let w = around (l ∷ []) in
          let f = both-true (is_outer_expr levels n a) (is_outer_expr levels n b) h in
          let s = split (uses_in a) (uses_in b) u in
          let x = reads a w k in
          let y = reads b w (k + loops_in a) in
          out-two levels a b (expr-seen levels a k f.0 s.0 (inside-left x y all i)) (expr-seen levels b (k + loops_in a) f.1 s.1 (inside-right x y all i))
      expr-seen levels (Choose c a b) k h u i =
          let w = around (l ∷ []) in
          let f = both-true (is_outer_expr levels n c) (is_outer_expr levels n a && is_outer_expr levels n b) h in
          let g = both-true (is_outer_expr levels n a) (is_outer_expr levels n b) f.1 in
          let s = split (uses_in c) (uses_in a ++ uses_in b) u in
          let t = split (uses_in a) (uses_in b) s.1 in
          let x = reads c w k in
          let y = reads a w (k + loops_in c) in
          let z = reads b w (k + loops_in c + loops_in a) in
          let rest = inside-right x (y ++ z) all i in
          let two = out-two levels a b (expr-seen levels a (k + loops_in c) g.0 t.0 (inside-left y z all rest)) (expr-seen levels b (k + loops_in c + loops_in a) g.1 t.1 (inside-right y z all rest)) in
          let one = expr-seen levels c k f.0 s.0 (inside-left x (y ++ z) all i) in
          (seen-both levels (sights_in c) (with_reads (sights_in a) (sights_in b)) one.0 two.0, every-append Away (level_reads_in c) (level_reads_in a ++ level_reads_in b) one.1 two.1)
      expr-seen levels (Folded f hd test e) k h u i =
          let its = n ∷ (hd.iterator ∷ []) in
          let m : Loop = record { number = k; iterator = hd.iterator; domain = hd.domain } in
          let w = around (l ∷ (m ∷ [])) in
          let q = both-true (is_inner_head levels n hd) (is_flat its false test && is_flat its false e) h in
          let g = both-true (is_range levels hd.domain) (nat_eq hd.owner n && not (nat_eq hd.iterator n)) q.0 in
          let t = both-true (is_flat its false test) (is_flat its false e) q.1 in
          let kind = range-kind levels hd.domain g.0 in
          let s = split (uses_of_head hd) (uses_in test ++ uses_in e) u in
          let z = split (uses_in test) (uses_in e) s.1 in
          let o = scalar_read (around (l ∷ [])) hd.owner hd.place in
          let x = reads test w (k + 1) in
          let y = reads e w (k + 1 + loops_in test) in
          let rest = inside-right o (x ++ y) all i in
          let owner = told-out hd.owner hd.place (head-plain levels hd g.0 s.0) (inside-left o (x ++ y) all i) in
          let inner = in-both m levels kind.0 kind.1 (sights_in test) (sights_in e) (flat-seen m levels kind.0 kind.1 false test (k + 1) t.0 z.0 (inside-left x y all rest))
          (flat-seen m levels kind.0 kind.1 false e (k + 1 + loops_in test) t.1 z.1 (inside-right x y all rest)) in
          let out = seen-out m levels kind.0 kind.1 (with_reads (sights_in test) (sights_in e)) inner in
          ((out.0, (owner, out.1)), away-at m levels kind.0 kind.1 hd refl refl (reads_in test ++ reads_in e) inner.0)

      pub option-seen : (levels : Bool) (o : Option Expr) (k : ℕ) → may (is_outer_expr levels n) o ≡ true → Suit (uses_in_option o) → Inside (option_reads o (around (l ∷ [])) k) all
          → SeenOut levels (sights_in_option o) × Every Away (level_reads_in_option o)
      option-seen levels None k h u i = ((tt, tt), tt)
      option-seen levels (Some e) k h u i = expr-seen levels e k h u i

      pub all-seen : (levels : Bool) (es : List Expr) (k : ℕ) → list_all (is_outer_expr levels n) es ≡ true → Suit (uses_in_all es) → Inside (reads_of_all es (around (l ∷ [])) k) all
          → SeenOut levels (sights_in_all es) × Every Away (level_reads_in_all es)
      all-seen levels [] k h u i = ((tt, tt), tt)
      all-seen levels (e ∷ es) k h u i =
          let w = around (l ∷ []) in
          let f = both-true (is_outer_expr levels n e) (list_all (is_outer_expr levels n) es) h in
          let s = split (uses_in e) (uses_in_all es) u in
          let x = reads e w k in
          let y = reads_of_all es w (k + loops_in e) in
          let one = expr-seen levels e k f.0 s.0 (inside-left x y all i) in
          let more = all-seen levels es (k + loops_in e) f.1 s.1 (inside-right x y all i) in
          (seen-both levels (sights_in e) (sights_in_all es) one.0 more.0, every-append Away (level_reads_in e) (level_reads_in_all es) one.1 more.1)
