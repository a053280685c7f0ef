-- A body falls apart into pieces that are cut, where its conditions last, its locals stay within a piece, and its inner loops stand apart.
use Rattle.std.proofs.Common.{◌≡◌, arith, ℕ, Bool, true, false, cond, List, [], ◌∷◌, ◌++◌, refl, sym, ap, subst, ◌∙◌, ⊎_elim}
use Rattle.std.specs.Prelude.{◌&&◌, ◌||◌, not, nat_eq}
use Rattle.std.specs.List.{list_all, list_any}
use Rattle.std.proofs.lemmas.Bool.{both_ways}
use Rattle.std.proofs.lemmas.Bool.Decides.{nat_tests}
use Rattle.gm_base.specs.declared.places.Place.{Place}
use Rattle.gm_value.specs.Bag.{IsIn}
use Rattle.gm_value.specs.declared.operations.Op1.TheVariants.{Not}
use Rattle.gm_ast.specs.declared.tree.Declaration.{Declaration}
use Rattle.gm_ast.specs.declared.tree.Head.{Head}
use Rattle.gm_ast.specs.declared.tree.Key.{Key}
use Rattle.gm_ast.specs.declared.tree.Target.{Target}
use Rattle.gm_ast.specs.declared.tree.Target.TheVariants as T
use Rattle.gm_ast.specs.Program.{Expr, Unary, Both, Stmt, Skip, Then, Declare, Assign, Defer, Combine, Foreach, If}
use Rattle.gm_ast.specs.Ways.{is_in}
use Rattle.gm_semantics.specs.Statements.{variable_at}
use Rattle.gm_forms.specs.Cut.{is_mask, touched, can_overflow, is_there, adds_elsewhere, is_calm, adds_last, is_here, is_own_body, is_own_code, is_own_loop, is_no_local, spares_locals, knows_no_locals, mask_stays, has_plain_locals}
use Rattle.gm_forms.specs.Fission.{is_nil}
use Rattle.gm_forms.specs.Forms.{depth_at, is_flat, is_flat_loop, is_range, is_inner_head, is_inner_body, is_outer_body}
use Rattle.gm_forms.specs.Order.{cannot_fail}
use Rattle.gm_forms.specs.Sharing.{reads_in, told_in, sights_in, with_reads, sights_of, deferred, reduced, read_at, kept_in, inners_share, targets_alike, read_anywhere, disjoint, all_one, all_last_one_way}
use Rattle.gm_forms.specs.Uses.{Iterates, Use, has_role, suits, uses_in, uses_of_head, uses_of}
use Rattle.gm_forms.proofs.Doings.{in-left, in-right}
use Rattle.gm_forms.proofs.Named.{both-true, all-append}
use Rattle.gm_forms.proofs.Weaker.{and-true}
use Rattle.gm_loop_laws.specs.Masks.{is_stable}
use Rattle.gm_loop_laws.specs.Pieces.{Piece, piece, pieces_of}
use Rattle.gm_loop_laws.proofs.Chosen.{apart-disjoint}
use Rattle.gm_dissect.specs.Conditions.{holds_cut, is_random}
use Rattle.gm_dissect.proofs.Undeferred.{append-true}
use Rattle.gm_cut.specs.Parts.{goes_any_way, locals_stay, falls_apart, stands_at_edges, stands_along, is_parted, piece_is_parted}
use Rattle.gm_cut.proofs.Roles.{touched-apart, iterates-of}
use Rattle.gm_cut.proofs.Shared.{Under}
use Rattle.gm_parting.specs.Tuples.{reduces_evenly}
use Rattle.gm_parting.specs.Lasting.{is_outside, is_lasting, conditions_last}
use Rattle.gm_parting.specs.Staying.{locals_stay_within}
use Rattle.gm_parting.specs.InnerLoops.{inner_loops_apart, inner_iterators_deep}
use Rattle.gm_parting.proofs.InnerLoops.{plain-locals, all-same-way}
use Rattle.gm_parting.proofs.Lasting.{Lasts, lasts, lasts-fewer, lasts-both, lasts-not, lasts-stable, not-in, unread}
use Rattle.gm_parting.proofs.Reductions.{all-clear}

-- ---- what holds nothing to cut is own

-- own statements add nothing through another node variable
pub own-adds : (n : ℕ) (s : Stmt) → is_own_body n s ≡ true → (adds_elsewhere (n ∷ []) s ≡ false) × (adds_last (n ∷ []) s ≡ true)
own-adds n (Then a b) h =
    let r = both-true (is_own_body n a) (is_own_body n b) h in
    let p = own-adds n a r.0 in
    let q = own-adds n b r.1 in (
      ap (λ x. x || adds_elsewhere (n ∷ []) b) p.0 ∙ q.0,
      and-true (adds_last (n ∷ []) a) (adds_last (n ∷ []) b && (not (adds_elsewhere (n ∷ []) a) || is_calm (n ∷ []) b)) p.1
          (and-true (adds_last (n ∷ []) b) (not (adds_elsewhere (n ∷ []) a) || is_calm (n ∷ []) b) q.1 (ap (λ x. not x || is_calm (n ∷ []) b) p.0)),
    )
own-adds n (If k c a b) h =
    let r = both-true (is_own_body n a) (is_own_body n b) h in
    let p = own-adds n a r.0 in
    let q = own-adds n b r.1 in
    (ap (λ x. x || adds_elsewhere (n ∷ []) b) p.0 ∙ q.0, and-true (adds_last (n ∷ []) a) (adds_last (n ∷ []) b) p.1 q.1)
own-adds n (Combine k total r ts es) h = (by (can_overflow r) (there ts h), refl)
  where
    there : (ts : List Target) → list_all (is_here n) ts ≡ true → list_all (is_there (n ∷ [])) ts ≡ true
    there [] h = refl
    there (T.Scalar x at ∷ ts) h = there ts h
    there (T.Property x p at ∷ ts) h =
        let r = both-true (nat_eq x n) (list_all (is_here n) ts) h in
        and-true (is_in (n ∷ []) x) (list_all (is_there (n ∷ [])) ts) (ap (λ b. b || false) r.0) (there ts r.1)

    by : (b : Bool) → list_all (is_there (n ∷ [])) ts ≡ true → b && not (list_all (is_there (n ∷ [])) ts) ≡ false
    by true e = ap not e
    by false e = refl
own-adds n Skip h = (refl, refl)
own-adds n (Declare k x e) h = (refl, refl)
own-adds n (Assign k t e) h = (refl, refl)
own-adds n s h = absurd (both_ways false refl h)

-- own statements are own code
pub own-code : (n : ℕ) (s : Stmt) → is_own_body n s ≡ true → is_own_code n s ≡ true
own-code n (Then a b) h = let r = both-true (is_own_body n a) (is_own_body n b) h in and-true (is_own_code n a) (is_own_code n b) (own-code n a r.0) (own-code n b r.1)
own-code n (Combine k total r ts es) h = refl
own-code n (If k c a b) h = h
own-code n s h = h

none-random : (n : ℕ) (ts : List Target) → list_any (is_random n) ts ≡ false → list_all (is_here n) ts ≡ true
none-random n [] h = refl
none-random n (T.Scalar x at ∷ ts) h = none-random n ts h
none-random n (T.Property x p at ∷ ts) h = by (nat_eq x n) h (none-random n ts)
  where
    by : (b : Bool) → not b || list_any (is_random n) ts ≡ false → (list_any (is_random n) ts ≡ false → list_all (is_here n) ts ≡ true) → b && list_all (is_here n) ts ≡ true
    by true h rest = rest h
    by false h rest = absurd (both_ways true h refl)

neither : (a b : Bool) → a || b ≡ false → (a ≡ false) × (b ≡ false)
neither false b h = (refl, h)
neither true b h = absurd (both_ways true h refl)

nil-parts : (xs ys : List ℕ) → is_nil (xs ++ ys) ≡ true → (is_nil xs ≡ true) × (is_nil ys ≡ true)
nil-parts [] ys h = (refl, h)
nil-parts (x ∷ xs) ys h = absurd (both_ways false refl h)

pub own-uncut : (ds : List Declaration) (n : ℕ) (s : Stmt) → is_outer_body ds false n s ≡ true → is_nil (deferred s) ≡ true → holds_cut n s ≡ false → is_own_body n s ≡ true
own-uncut ds n (Then a b) f d h =
    let g = both-true (is_outer_body ds false n a) (is_outer_body ds false n b) f in
    let e = nil-parts (deferred a) (deferred b) d in
    let r = neither (holds_cut n a) (holds_cut n b) h in
    and-true (is_own_body n a) (is_own_body n b) (own-uncut ds n a g.0 e.0 r.0) (own-uncut ds n b g.1 e.1 r.1)
own-uncut ds n (If k c a b) f d h =
    let j = both-true (is_flat (n ∷ []) false c) (is_outer_body ds false n a && is_outer_body ds false n b) f in
    let g = both-true (is_outer_body ds false n a) (is_outer_body ds false n b) j.1 in
    let e = nil-parts (deferred a) (deferred b) d in
    let r = neither (holds_cut n a) (holds_cut n b) h in
    and-true (is_own_body n a) (is_own_body n b) (own-uncut ds n a g.0 e.0 r.0) (own-uncut ds n b g.1 e.1 r.1)
own-uncut ds n (Combine k total r ts es) f d h = none-random n ts h
own-uncut ds n (Foreach k at hd test body) f d h = absurd (both_ways true h refl)
own-uncut ds n (Defer k (T.Property x p at) e) f d h = absurd (both_ways false refl d)
own-uncut ds n (Defer k (T.Scalar x at) e) f d h = absurd (both_ways false refl d)
own-uncut ds n Skip f d h = refl
own-uncut ds n (Declare k x e) f d h = refl
own-uncut ds n (Assign k t e) f d h = refl
own-uncut ds n s f d h = absurd (both_ways false refl f)

-- ---- parts of a body

module _ (ds : List Declaration) (n : ℕ) where
  abbrev Suit : List Use → Type 0
  Suit us = list_all (suits ds) us ≡ true

  pub record Part (s : Stmt) : Type 0 where
    pub form : is_outer_body ds false n s ≡ true
    pub named : list_all (suits ds) (uses_of s) ≡ true
    pub nothing : is_nil (deferred s) ≡ true
    pub alike : targets_alike s ≡ true
    pub inners : inners_share ds n s ≡ true
    pub even : reduces_evenly ds s ≡ true
    pub last : conditions_last ds n s ≡ true
    pub apart : inner_loops_apart ds n s ≡ true
    pub deep : inner_iterators_deep ds s ≡ true

  part-both : (a b : Stmt) → Part (Then a b) → Part a × Part b
  part-both a b p =
      let f = both-true (is_outer_body ds false n a) (is_outer_body ds false n b) p.form in
      let u = all-append (suits ds) (uses_of a) (uses_of b) p.named in
      let d = nil-parts (deferred a) (deferred b) p.nothing in
      let t = both-true (targets_alike a) (targets_alike b) p.alike in
      let i = both-true (inners_share ds n a) (inners_share ds n b) p.inners in
      let e = both-true (reduces_evenly ds a) (reduces_evenly ds b) p.even in
      let l = both-true (conditions_last ds n a) (conditions_last ds n b) p.last in
      let o = both-true (inner_loops_apart ds n a) (inner_loops_apart ds n b) p.apart in
      let z = both-true (inner_iterators_deep ds a) (inner_iterators_deep ds b) p.deep in (
        record { form = f.0; named = u.0; nothing = d.0; alike = t.0; inners = i.0; even = e.0; last = l.0; apart = o.0; deep = z.0 },
        record { form = f.1; named = u.1; nothing = d.1; alike = t.1; inners = i.1; even = e.1; last = l.1; apart = o.1; deep = z.1 },
      )

  part-branches : (k : Key) (c : Expr) (a b : Stmt) → Part (If k c a b) → Part a × Part b
  part-branches k c a b p =
      part-both a b (record {
        form = (both-true (is_flat (n ∷ []) false c) (is_outer_body ds false n a && is_outer_body ds false n b) p.form).1;
        named = (all-append (suits ds) (uses_in c) (uses_of a ++ uses_of b) p.named).1;
        nothing = p.nothing;
        alike = p.alike;
        inners = p.inners;
        even = p.even;
        last = (both-true (not (holds_cut n a || holds_cut n b) || is_lasting ds n (touched a ++ touched b) c) (conditions_last ds n a && conditions_last ds n b) p.last).1;
        apart = p.apart;
        deep = p.deep;
      })

  abbrev own : Stmt → Bool
  own s = is_own_loop n s

  -- an If that is not own has a condition that lasts
  condition-lasts : (k : Key) (c : Expr) (a b : Stmt) → Part (If k c a b) → own (If k c a b) ≡ false → Lasts ds n (touched a ++ touched b) c
  condition-lasts k c a b p o = by (holds_cut n a || holds_cut n b) refl (both-true (not (holds_cut n a || holds_cut n b) || is_lasting ds n (touched a ++ touched b) c) (conditions_last ds n a && conditions_last ds n b) p.last).0
    where
      by : (h : Bool) → holds_cut n a || holds_cut n b ≡ h → not h || is_lasting ds n (touched a ++ touched b) c ≡ true → Lasts ds n (touched a ++ touched b) c
      by true e l = lasts ds n (touched a ++ touched b) c l
      by false e l =
          let w = own-uncut ds n (If k c a b) p.form p.nothing e in
          absurd (both_ways (own (If k c a b)) o (and-true (is_own_code n (If k c a b)) (adds_last (n ∷ []) (If k c a b)) w (own-adds n (If k c a b) w).1))

  module _ (iterates : has_role (variable_at ds n) Iterates ≡ true) (here : Place) where
    off : (s : Stmt) → Part s → IsIn n (touched s) → ⊥
    off s p = touched-apart ds n iterates s p.named

    first-less : (a b : Stmt) → Under (touched a) (touched a ++ touched b)
    first-less a b y i = in-left y (touched a) (touched b) i

    second-less : (a b : Stmt) → Under (touched b) (touched a ++ touched b)
    second-less a b y i = in-right y (touched a) (touched b) i

    -- under each side of a condition
    yes-lasts : (mask c : Expr) (a b : Stmt) → Lasts ds n (touched a ++ touched b) mask → Lasts ds n (touched a ++ touched b) c → Lasts ds n (touched a) (Both mask c)
    yes-lasts mask c a b l m = lasts-fewer ds n (touched a ++ touched b) (touched a) (Both mask c) (first-less a b) (lasts-both ds n (touched a ++ touched b) mask c l m)

    no-lasts : (mask c : Expr) (a b : Stmt) → Lasts ds n (touched a ++ touched b) mask → Lasts ds n (touched a ++ touched b) c → Lasts ds n (touched b) (Both mask (Unary Not here c))
    no-lasts mask c a b l m =
        lasts-fewer ds n (touched a ++ touched b) (touched b) (Both mask (Unary Not here c)) (second-less a b) (lasts-both ds n (touched a ++ touched b) mask (Unary Not here c) l (lasts-not ds n (touched a ++ touched b) here c m))

    first-stable : (a b : Stmt) (e : Expr) → Part a → Lasts ds n (touched a ++ touched b) e → is_stable n a e ≡ true
    first-stable a b e p l = lasts-stable ds n a e (off a p) (lasts-fewer ds n (touched a ++ touched b) (touched a) e (first-less a b) l)

    -- ---- it falls apart

    abbrev Falls : Expr → Stmt → Type 0
    Falls mask s = falls_apart ds n here mask s ≡ true

    pub falls : (s : Stmt) (mask : Expr) → Part s → Lasts ds n (touched s) mask → locals_stay_within ds n s ≡ true → Falls mask s
    falls (Then a b) mask p l w =
        let r = part-both a b p in
        by (own (Then a b)) w (λ v. falls a mask r.0 (lasts-fewer ds n (touched a ++ touched b) (touched a) mask (first-less a b) l) v) (λ v. falls b mask r.1 (lasts-fewer ds n (touched a ++ touched b) (touched b) mask (second-less a b) l) v)
        (first-stable a b mask r.0 l)
      where
        by : (o : Bool) → o || (locals_stay ds n a b && (locals_stay_within ds n a && locals_stay_within ds n b)) ≡ true → (locals_stay_within ds n a ≡ true → Falls mask a) → (locals_stay_within ds n b ≡ true → Falls mask b) → is_stable n a mask ≡ true →
            o || (locals_stay ds n a b && (is_stable n a mask && (falls_apart ds n here mask a && falls_apart ds n here mask b))) ≡ true
        by true w first second stable = refl
        by false w first second stable =
            let q = both-true (locals_stay ds n a b) (locals_stay_within ds n a && locals_stay_within ds n b) w in
            let v = both-true (locals_stay_within ds n a) (locals_stay_within ds n b) q.1 in
            and-true (locals_stay ds n a b) (is_stable n a mask && (falls_apart ds n here mask a && falls_apart ds n here mask b)) q.0
            (and-true (is_stable n a mask) (falls_apart ds n here mask a && falls_apart ds n here mask b) stable (and-true (falls_apart ds n here mask a) (falls_apart ds n here mask b) (first v.0) (second v.1)))
    falls (If k c a b) mask p l w =
        let r = part-branches k c a b p in
        by (own (If k c a b)) refl w (λ m v. falls a (Both mask c) r.0 (yes-lasts mask c a b l m) v) (λ m v. falls b (Both mask (Unary Not here c)) r.1 (no-lasts mask c a b l m) v) (first-stable a b mask r.0 l)
      where
        by : (o : Bool) → own (If k c a b) ≡ o → o || (locals_stay ds n a b && (locals_stay_within ds n a && locals_stay_within ds n b)) ≡ true →
            (Lasts ds n (touched a ++ touched b) c → locals_stay_within ds n a ≡ true → Falls (Both mask c) a) → (Lasts ds n (touched a ++ touched b) c → locals_stay_within ds n b ≡ true → Falls (Both mask (Unary Not here c)) b) → is_stable n a mask ≡ true →
            o || (locals_stay ds n a b && (is_stable n a mask && (is_stable n a c && (falls_apart ds n here (Both mask c) a && falls_apart ds n here (Both mask (Unary Not here c)) b)))) ≡ true
        by true e w first second stable = refl
        by false e w first second stable =
            let x = falls_apart ds n here (Both mask c) a in
            let y = falls_apart ds n here (Both mask (Unary Not here c)) b in
            let m = condition-lasts k c a b p e in
            let q = both-true (locals_stay ds n a b) (locals_stay_within ds n a && locals_stay_within ds n b) w in
            let v = both-true (locals_stay_within ds n a) (locals_stay_within ds n b) q.1 in
            and-true (locals_stay ds n a b) (is_stable n a mask && (is_stable n a c && (x && y))) q.0
            (and-true (is_stable n a mask) (is_stable n a c && (x && y)) stable
            (and-true (is_stable n a c) (x && y) (first-stable a b c (part-branches k c a b p).0 m) (and-true x y (first m v.0) (second m v.1))))
    falls s mask p l w = refl

    -- ---- each piece is cut

    abbrev Cut : List Piece → Type 0
    Cut ps = list_all (piece_is_parted goes_any_way ds n) ps ≡ true

    one-cut : (s : Stmt) (mask : Expr) → Part s → Lasts ds n (touched s) mask → own s || (is_mask n mask && stands_along goes_any_way ds n mask s) ≡ true → Cut (piece mask s)
    one-cut s mask p l h =
        let m = and-true (cannot_fail mask) (is_flat (n ∷ []) false mask) l.sure l.flat in
        let part : Piece = record { mask = mask; part = s } in
        and-true (piece_is_parted goes_any_way ds n part) true
        (and-true (is_mask n mask) (is_parted goes_any_way ds n mask s) m
        (and-true (is_flat_loop ds false n mask s) (own s || (is_mask n mask && stands_along goes_any_way ds n mask s)) (and-true (is_flat (n ∷ []) false mask) (is_outer_body ds false n s) l.flat p.form) h)) refl

    own-cut : (s : Stmt) (mask : Expr) → Part s → Lasts ds n (touched s) mask → own s ≡ true → Cut (piece mask s)
    own-cut s mask p l o = one-cut s mask p l (ap (λ b. b || (is_mask n mask && stands_along goes_any_way ds n mask s)) o)

    wider-locals : (t : ℕ) (xs : List ℕ) → list_all (is_outside ds n) xs ≡ true → list_all (is_no_local ds (n ∷ t ∷ [])) xs ≡ true
    wider-locals t [] h = refl
    wider-locals t (x ∷ xs) h =
        let r = both-true (is_outside ds n x) (list_all (is_outside ds n) xs) h in
        and-true (is_no_local ds (n ∷ t ∷ []) x) (list_all (is_no_local ds (n ∷ t ∷ [])) xs) (by (nat_eq x n) (nat_eq x t) (depth_at ds x) r.0) (wider-locals t xs r.1)
      where
        no-one : (d : ℕ) → nat_eq d 0 ≡ true → not (nat_eq d 1) ≡ true
        no-one d e = grind (arith, nat_tests, e)

        by : (a b : Bool) (d : ℕ) → a || nat_eq d 0 ≡ true → (a || (b || false)) || not (nat_eq d 1) ≡ true
        by true b d h = refl
        by false true d h = refl
        by false false d h = no-one d h

    told-once : (t : ℕ) (xs : List ℕ) → list_all (is_outside ds n) xs ≡ true → nat_eq t n ≡ false → not (nat_eq (depth_at ds t) 0) ≡ true → IsIn t xs → ⊥
    told-once t [] h e d i = i
    told-once t (x ∷ xs) h e d i =
        let r = both-true (is_outside ds n x) (list_all (is_outside ds n) xs) h in
        ⊎_elim (λ (f : t ≡ x). by (nat_eq t n) (nat_eq (depth_at ds t) 0) e d (subst (λ z. is_outside ds n z ≡ true) (sym f) r.0)) (λ j. told-once t xs r.1 e d j) i
      where
        by : (a b : Bool) → a ≡ false → not b ≡ true → a || b ≡ true → ⊥
        by true b e d h = both_ways true e refl
        by false true e d h = both_ways false refl d
        by false false e d h = both_ways false refl h

    -- an inner loop under a mask that lasts
    edge-cut : (k : Key) (at : Place) (hd : Head) (test : Expr) (body : Stmt) (mask : Expr) → Part (Foreach k at hd test body) → Lasts ds n (touched body) mask → Cut (piece mask (Foreach k at hd test body))
    edge-cut k at hd test body mask p l =
        let t = hd.iterator in
        let its = n ∷ (t ∷ []) in
        let seen = (with_reads (sights_in test) (sights_of ds n true body)).scalars in
        let all = reduced ds n true body in
        let f = both-true (is_inner_head false n hd) (is_flat its true test && is_inner_body ds its true body) p.form in
        let g = both-true (is_range false hd.domain) (nat_eq hd.owner n && not (nat_eq t n)) f.0 in
        let other = both-true (nat_eq hd.owner n) (not (nat_eq t n)) g.1 in
        let i = both-true (is_flat its true test) (is_inner_body ds its true body) f.1 in
        let u = all-append (suits ds) (uses_of_head hd) (uses_in test ++ uses_of body) p.named in
        let v = all-append (suits ds) (uses_in test) (uses_of body) u.1 in
        let a = both-true (list_all (is_no_local ds its) seen) (spares_locals ds body) p.apart in
        let c = both-true (disjoint (kept_in all) (read_at n (with_reads (sights_in test) (sights_of ds n true body)).properties ++ seen)) (all_last_one_way all) p.inners in
        let reads = read_anywhere (reads_in mask) ++ told_in mask in
        let knows : knows_no_locals ds n t mask test body ≡ true =
        and-true (list_all (is_no_local ds its) (told_in mask ++ seen)) (spares_locals ds body) (append-true (is_no_local ds its) (told_in mask) seen (wider-locals t (told_in mask) l.plain) a.0) a.1 in
        let clear : disjoint (touched body) (n ∷ (t ∷ reads)) ≡ true =
        apart-disjoint (touched body) (n ∷ (t ∷ reads)) (λ y j m.
        ⊎_elim (λ (e : y ≡ n). touched-apart ds n iterates body v.1 (subst (λ z. IsIn z (touched body)) e j))
        (λ q. ⊎_elim (λ (e : y ≡ t). touched-apart ds t (iterates-of ds k at hd test body p.named) body v.1 (subst (λ z. IsIn z (touched body)) e j)) (λ r. unread (touched body) mask l.spare y j r) q) m) in
        let stays : mask_stays n mask hd body ≡ true =
        and-true (disjoint (touched body) (n ∷ (t ∷ reads))) (not (is_in (told_in mask) t)) clear
        (not-in (told_in mask) t (told-once t (told_in mask) l.plain (no-true (nat_eq t n) other.1) p.deep)) in
        let edge : stands_at_edges ds n mask hd test body ≡ true =
        and-true (knows_no_locals ds n t mask test body) (mask_stays n mask hd body && (has_plain_locals ds n test body && all_one all)) knows
        (and-true (mask_stays n mask hd body) (has_plain_locals ds n test body && all_one all) stays
        (and-true (has_plain_locals ds n test body) (all_one all) (plain-locals ds n its test body i.0 i.1 v.0 v.1) (all-same-way all (all-clear ds n true body p.alike p.even) c.1))) in
        one-cut (Foreach k at hd test body) mask p l (and-true (is_mask n mask) (stands_at_edges ds n mask hd test body) (and-true (cannot_fail mask) (is_flat (n ∷ []) false mask) l.sure l.flat) edge)
      where
        no-true : (b : Bool) → not b ≡ true → b ≡ false
        no-true true h = absurd (both_ways false refl h)
        no-true false h = refl

    abbrev pieces : Expr → Stmt → List Piece
    pieces mask s = pieces_of own here mask s

    pub cuts : (s : Stmt) (mask : Expr) → Part s → Lasts ds n (touched s) mask → Cut (pieces mask s)
    cuts Skip mask p l = refl
    cuts (Then a b) mask p l =
        let r = part-both a b p in
        by (own (Then a b)) refl (cuts a mask r.0 (lasts-fewer ds n (touched a ++ touched b) (touched a) mask (first-less a b) l)) (cuts b mask r.1 (lasts-fewer ds n (touched a ++ touched b) (touched b) mask (second-less a b) l))
      where
        by : (o : Bool) → own (Then a b) ≡ o → Cut (pieces mask a) → Cut (pieces mask b) → Cut (cond o (piece mask (Then a b)) (pieces mask a ++ pieces mask b))
        by true o first second = own-cut (Then a b) mask p l o
        by false o first second = append-true (piece_is_parted goes_any_way ds n) (pieces mask a) (pieces mask b) first second
    cuts (If k c a b) mask p l =
        let r = part-branches k c a b p in
        by (own (If k c a b)) refl (λ m. cuts a (Both mask c) r.0 (yes-lasts mask c a b l m)) (λ m. cuts b (Both mask (Unary Not here c)) r.1 (no-lasts mask c a b l m))
      where
        by : (o : Bool) → own (If k c a b) ≡ o → (Lasts ds n (touched a ++ touched b) c → Cut (pieces (Both mask c) a)) → (Lasts ds n (touched a ++ touched b) c → Cut (pieces (Both mask (Unary Not here c)) b)) →
            Cut (cond o (piece mask (If k c a b)) (pieces (Both mask c) a ++ pieces (Both mask (Unary Not here c)) b))
        by true o first second = own-cut (If k c a b) mask p l o
        by false o first second =
            let m = condition-lasts k c a b p o in append-true (piece_is_parted goes_any_way ds n) (pieces (Both mask c) a) (pieces (Both mask (Unary Not here c)) b) (first m) (second m)
    cuts (Declare k x e) mask p l = own-cut (Declare k x e) mask p l refl
    cuts (Assign k t e) mask p l = own-cut (Assign k t e) mask p l refl
    cuts (Combine k total r ts es) mask p l = own-cut (Combine k total r ts es) mask p l refl
    cuts (Foreach k at hd test body) mask p l = edge-cut k at hd test body mask p l
    cuts (Defer k t e) mask p l = absurd (nothing-deferred t p.nothing)
      where
        nothing-deferred : (t : Target) → is_nil (deferred (Defer k t e)) ≡ true → ⊥
        nothing-deferred (T.Scalar x at) h = both_ways false refl h
        nothing-deferred (T.Property x q at) h = both_ways false refl h
    cuts s mask p l = absurd (both_ways false refl p.form)
