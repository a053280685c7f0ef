-- What the bodies of a loop read, write and reduce, and the accesses that these are.
use Rattle.std.proofs.Common.{◌≡◌, ◌⊎◌, ◌+◌, ℕ, suc, inl, inr, Bool, true, false, List, [], ◌∷◌, ◌++◌, refl, ap, subst, ◌∙◌, ⊎_elim, arith, Some, None}
use Rattle.std.specs.Prelude.{◌&&◌, ◌||◌, not, nat_eq, flat_map, if◌then◌else◌}
use Rattle.std.specs.List.{list_all}
use Rattle.std.specs.Cmp.Derive.{both_true}
use Rattle.std.proofs.lemmas.Bool.{both_ways, eqb-true, eq-eqb}
use Rattle.gm_base.specs.declared.places.Place.{Place}
use Rattle.gm_value.specs.declared.reductions.Reduce.{Reduce}
use Rattle.gm_ast.specs.declared.accesses.Access.{Access}
use Rattle.gm_ast.specs.declared.accesses.AccessKind.{AccessKind}
use Rattle.gm_ast.specs.declared.accesses.AccessKind.TheVariants.{OwnRead, OwnWrite, StrayWrite, OwnReduce, PushReduce, Deferred}
use Rattle.gm_ast.specs.declared.accesses.Operation.{Operation}
use Rattle.gm_ast.specs.declared.tree.Declaration.{Declaration}
use Rattle.gm_ast.specs.declared.tree.Key.{Key}
use Rattle.gm_ast.specs.declared.tree.Sort.TheVariants as Sorts
use Rattle.gm_ast.specs.declared.tree.Target.{Target}
use Rattle.gm_ast.specs.declared.tree.Target.TheVariants as T
use Rattle.gm_ast.specs.Accesses as A
use Rattle.gm_ast.specs.Accesses.{Loop, Around, number_at, loops_in, loops_of, access, scalar_read, is_outer, write_kind, plain_write, deferred_write, operation, reductions, reads, reads_of_all, option_reads, accesses_of}
use Rattle.gm_ast.specs.Loops.{declared_at, is_property}
use Rattle.gm_ast.specs.Names.{is}
use Rattle.gm_ast.specs.Program.{Expr, Stmt, Skip, Then, Declare, DeclareEdge, Assign, Defer, Combine, Group, Foreach, For, If, While, Do, InBfs, InBfsBoth, Return}
use Rattle.gm_ast.specs.Races.{is_push_reduce, operation_eq}
use Rattle.gm_forms.specs.Forms.{depth_at, is_within, is_range, is_flat, is_inner_head}
use Rattle.gm_forms.specs.Ready.{is_outer_expr, is_at_depth, is_inner_code, is_outer_code}
use Rattle.gm_forms.specs.Sharing.{Read, reads_in, Sights, with_reads, sights_in, sights_in_all, sights_of_target, sights_of_targets, sights_of, read_at, written, deferred, Reduced, reduced_by, reduced, kept_in, disjoint, does_same, lasting, lasts_one_way, all_last_one_way, inner_shares, inners_share, level_reads_in, level_reads_in_all, level_reads_of}
use Rattle.gm_forms.specs.Uses.{Owner, NodeValue, Written, use_as, uses_in, uses_in_all, uses_of_head, uses_of_target, uses_of_targets, uses_of}
use Rattle.gm_forms.proofs.Named.{both-true}
use Rattle.gm_ready.proofs.Placing.{PlacedTarget, PlacedName, Placed}
use Rattle.gm_ready.proofs.CheckedForms.{depth-is}
use Rattle.gm_ready.proofs.Racing.{Member, Inside, inside-left, inside-right, Clean}
use Rattle.gm_ready.proofs.Pairs.{reduce_kind, Has, never-pushed, never-reduced, one-way}
use Rattle.gm_ready.proofs.ReadFacts.{Every, every-append, every-map, flip, Suit, split, NoProp, IsProp, ScalarAt, owner-plain, head-plain, Over, range-kind, property-accessed, Somewhere, SeenOut, seen-both, told-out, Away, away-at, ToldIn, ReadIn, SeenIn, in-both, flat-seen, seen-out, expr-seen, all-seen}
use Rattle.gm_ready.proofs.TargetFacts.{variables-are, Local, scalar-is, local-at, operation_of, Own, Given, targets-out, sights-out, written-out, reduced-out, KeptIn, LastsBy, GivenIn, targets-in, sights-in, written-in, reduced-in}
use Rattle.gm_ready.proofs.Disjoint.{disjoint-from, common, operations-turn}

module _ (ds : List Declaration) where
  abbrev around : List Loop → Around
  around loops = record { declarations = ds; loops = loops }

  -- a declaration inside loops is one of a local
  declared-local : (d x : ℕ) → PlacedName ds (suc d) x → Local ds x
  declared-local d x h = by (is Sorts.Scalar h.0) refl
    where
      by : (c : Bool) → is Sorts.Scalar h.0 ≡ c → Local ds x
      by true e = let s = scalar-is ds x h.0 h.1.0 e in local-at ds x d s.0 s.1 (depth-is ds x h.0 h.1.0 ∙ h.1.1.0)
      by false e = absurd (let z : suc d ≡ 0 = h.1.1.1 e in omega (arith, z))

  target-local : (d e x : ℕ) (at : Place) → PlacedTarget ds e (T.Scalar x at) → nat_eq (depth_at ds x) (suc d) ≡ true → Local ds x
  target-local d e x at h deep = let s = scalar-is ds x h.0 h.1.0 h.1.1.0 in local-at ds x d s.0 s.1 (eqb-true (depth_at ds x) (suc d) deep)

  -- a reduction's accesses, with its operation as the passes see it
  seen-operation : (w : Around) (r : Reduce) (ts : List Target) (all : List Access) (l : Loop) (k : ℕ) → Inside (reductions w r ts) all → Inside (flat_map (A.reduced w (operation_of ds all l (reduced_by ds l.iterator k r ts))) ts) all
  seen-operation w r ts all l k i = subst (λ vs. Inside (flat_map (A.reduced w (record { reduce = r; targets = vs })) ts) all) (variables-are ts) i

  module _ (all : List Access) (l : Loop) where
    abbrev n : ℕ
    n = l.iterator

    abbrev L : ℕ
    L = l.number

    -- ---- an inner body

    module _ (m : Loop) (levels : Bool) (kind : AccessKind) (over : Over ds levels m.domain kind) where
      abbrev loops : List Loop
      loops = l ∷ (m ∷ [])

      abbrev its : List ℕ
      its = n ∷ (m.iterator ∷ [])

      abbrev Seen : Sights → Type 0
      Seen s = SeenIn ds all l m levels kind over s

      pub record InnerFacts (s : Stmt) : Type 0 where
        pub seen : SeenIn ds all l m levels kind over (sights_of ds n true s)
        pub own : Every (Own ds all l) (written ds n true s)
        pub reduced : Every (GivenIn ds all l m levels kind over) (reduced ds n true s)

      all-flat-seen : (es : List Expr) (k : ℕ) → list_all (is_flat its true) es ≡ true → Suit ds (uses_in_all es) → Inside (reads_of_all es (around loops) k) all → Seen (sights_in_all es)
      all-flat-seen [] k h u i = (tt, tt)
      all-flat-seen (e ∷ es) k h u i =
          let w = around loops in
          let f = both-true (is_flat its true e) (list_all (is_flat its true) es) h in
          let s = split ds (uses_in e) (uses_in_all es) u in
          let x = reads e w k in
          let y = reads_of_all es w (k + loops_in e) in
          in-both ds all l m levels kind over (sights_in e) (sights_in_all es) (flat-seen ds all l m levels kind over true e k f.0 s.0 (inside-left x y all i)) (all-flat-seen es (k + loops_in e) f.1 s.1 (inside-right x y all i))

      both-inner : (a b : Stmt) (s : Sights) → Seen s → InnerFacts a → InnerFacts b → (Seen (with_reads s (with_reads (sights_of ds n true a) (sights_of ds n true b))))
          × (Every (Own ds all l) (written ds n true a ++ written ds n true b) × Every (GivenIn ds all l m levels kind over) (reduced ds n true a ++ reduced ds n true b))
      both-inner a b s h x y = (
        in-both ds all l m levels kind over s (with_reads (sights_of ds n true a) (sights_of ds n true b)) h (in-both ds all l m levels kind over (sights_of ds n true a) (sights_of ds n true b) x.seen y.seen),
        (every-append (Own ds all l) (written ds n true a) (written ds n true b) x.own y.own, every-append (GivenIn ds all l m levels kind over) (reduced ds n true a) (reduced ds n true b) x.reduced y.reduced),
      )

      inner-facts : (edge : Bool) (s : Stmt) (k : ℕ) → is_inner_code ds its s ≡ true → Placed ds 2 edge s → Suit ds (uses_of s) → Inside (accesses_of s (around loops) k) all → InnerFacts s
      inner-facts edge Skip k h p u i = record { seen = (tt, tt); own = tt; reduced = tt }
      inner-facts edge (Then a b) k h p u i =
          let w = around loops in
          let f = both-true (is_inner_code ds its a) (is_inner_code ds its b) h in
          let s = split ds (uses_of a) (uses_of b) u in
          let x = accesses_of a w k in
          let y = accesses_of b w (k + loops_of a) in
          let one = inner-facts edge a k f.0 p.0 s.0 (inside-left x y all i) in
          let two = inner-facts p.1.0 b (k + loops_of a) f.1 p.1.1.1 s.1 (inside-right x y all i) in
          record {
            seen = in-both ds all l m levels kind over (sights_of ds n true a) (sights_of ds n true b) one.seen two.seen;
            own = every-append (Own ds all l) (written ds n true a) (written ds n true b) one.own two.own;
            reduced = every-append (GivenIn ds all l m levels kind over) (reduced ds n true a) (reduced ds n true b) one.reduced two.reduced;
          }
      inner-facts edge (Declare k' x None) k h p u i = record { seen = (tt, tt); own = (inl (declared-local 1 x p.0), tt); reduced = tt }
      inner-facts edge (Declare k' x (Some e)) k h p u i =
          let f = both-true (nat_eq (depth_at ds x) 2) (is_flat its true e) h in
          let s = split ds (use_as Written x) (uses_in e) u in
          record { seen = flat-seen ds all l m levels kind over true e k f.1 s.1 i; own = (inl (declared-local 1 x p.0), tt); reduced = tt }
      inner-facts edge (DeclareEdge x y at) k h p u i = record { seen = (tt, tt); own = tt; reduced = tt }
      inner-facts edge (Assign k' (T.Scalar x at) e) k h p u i =
          let w = around loops in
          let f = both-true (nat_eq (depth_at ds x) 2) (is_flat its true e) h in
          let s = split ds (use_as Written x) (uses_in e) u in
          let more = plain_write w (T.Scalar x at) in
          record { seen = flat-seen ds all l m levels kind over true e k f.1 s.1 (inside-right more (reads e w k) all i); own = (inl (target-local 1 2 x at p.0 f.0), tt); reduced = tt }
      inner-facts edge (Assign k' (T.Property x q at) e) k h p u i = absurd (both_ways false refl h)
      inner-facts edge (Combine k' total r ts es) k h p u i =
          let w = around loops in
          let f = both-true (list_all (is_within ds 2) ts) (list_all (is_flat its true) es) h in
          let s = split ds (uses_of_targets ts) (uses_in_all es) u in
          let x = reductions w r ts in
          let y = reads_of_all es w k in
          let op = operation_of ds all l (reduced_by ds n total.key.statement r ts) in
          let targets = targets-in ds all l m levels kind over op ts p.0.0 s.0 (seen-operation w r ts all l total.key.statement (inside-left x y all i)) in
          record {
            seen = in-both ds all l m levels kind over (sights_of_targets ds n true ts) (sights_in_all es) (sights-in ds all l m levels kind over op ts targets) (all-flat-seen es k f.1 s.1 (inside-right x y all i));
            own = written-in ds all l m levels kind over op ts targets;
            reduced = reduced-in ds all l m levels kind over total.key.statement r ts targets;
          }
      inner-facts edge (If k' c a b) k h p u i =
          let w = around loops in
          let f = both-true (is_flat its true c) (is_inner_code ds its a && is_inner_code ds its b) h in
          let g = both-true (is_inner_code ds its a) (is_inner_code ds its b) f.1 in
          let s = split ds (uses_in c) (uses_of a ++ uses_of b) u in
          let t = split ds (uses_of a) (uses_of b) s.1 in
          let x = reads c w k in
          let y = accesses_of a w (k + loops_in c) in
          let z = accesses_of b w (k + loops_in c + loops_of a) in
          let rest = inside-right x (y ++ z) all i in
          let all' = both-inner a b (sights_in c) (flat-seen ds all l m levels kind over true c k f.0 s.0 (inside-left x (y ++ z) all i))
          (inner-facts edge a (k + loops_in c) g.0 p.1.0 t.0 (inside-left y z all rest)) (inner-facts edge b (k + loops_in c + loops_of a) g.1 p.1.1 t.1 (inside-right y z all rest)) in
          record { seen = all'.0; own = all'.1.0; reduced = all'.1.1 }
      inner-facts edge (Defer k' t e) k h p u i = absurd (both_ways false refl h)
      inner-facts edge (Group k' at g q e) k h p u i = absurd (both_ways false refl h)
      inner-facts edge (Foreach k' at hd test body) k h p u i = absurd (both_ways false refl h)
      inner-facts edge (For k' at hd test body) k h p u i = absurd (both_ways false refl h)
      inner-facts edge (While k' at c body) k h p u i = absurd (both_ways false refl h)
      inner-facts edge (Do k' at body c) k h p u i = absurd (both_ways false refl h)
      inner-facts edge (InBfs k' at se test body) k h p u i = absurd (both_ways false refl h)
      inner-facts edge (InBfsBoth k' at se test body bk bt back) k h p u i = absurd (both_ways false refl h)
      inner-facts edge (Return k' at e) k h p u i = absurd (both_ways false refl h)

    -- ---- an outer body

    module _ (clean : (b : Access) → Member b all → Clean ds all b) where
      -- what an inner loop reduces one way
      module _ (m : Loop) (levels : Bool) (kind : AccessKind) (over : Over ds levels m.domain kind) where
        abbrev GivenHere : Reduced → Type 0
        GivenHere r = GivenIn ds all l m levels kind over r

        near-end : (a b : Bool) → a || (b || nat_eq m.number m.number) ≡ true
        near-end true b = refl
        near-end false true = refl
        near-end false false = eq-eqb m.number m.number refl

        one-more : (a b : Reduced) → GivenHere a → GivenHere b → disjoint (lasting a) (lasting b) || does_same a b ≡ true
        one-more a b h k = by (disjoint (lasting a) (lasting b)) refl
          where
            by : (c : Bool) → disjoint (lasting a) (lasting b) ≡ c → c || does_same a b ≡ true
            by true e = refl
            by false e =
                let p = operation_of ds all l a in
                let q = operation_of ds all l b in
                let c = common (LastsBy ds all l m levels kind over p) (LastsBy ds all l m levels kind over q) (lasting a) (lasting b) h.1.0 k.1.0 e in
                let x = c.1.0 in
                let y = c.1.1 in
                ⊎_elim (λ (s : operation_eq p q ≡ true). s) (λ (s : operation_eq q p ≡ true). operations-turn p q s)
                (one-way ds all clean (number_at (l ∷ (m ∷ [])) (A.loops_outside (declared_at ds c.0))) m.number m.number c.0 x.0 y.0 p q (near-end (is_push_reduce (reduce_kind x.0 p)) (is_push_reduce (reduce_kind y.0 q))) x.1 y.1)

        one-way-all : (a : Reduced) (bs : List Reduced) → GivenHere a → Every GivenHere bs → lasts_one_way a bs ≡ true
        one-way-all a [] h k = refl
        one-way-all a (b ∷ bs) h k = both_true (one-more a b h k.0) (one-way-all a bs h k.1)

        all-one-way : (rs : List Reduced) → Every GivenHere rs → all_last_one_way rs ≡ true
        all-one-way [] h = refl
        all-one-way (r ∷ rs) h = both_true (one-way-all r rs h.0 h.1) (all-one-way rs h.1)

        kept-each : (rs : List Reduced) → Every GivenHere rs → Every (KeptIn ds all l m levels kind over) (kept_in rs)
        kept-each [] h = tt
        kept-each (r ∷ rs) h = every-append (KeptIn ds all l m levels kind over) r.kept (kept_in rs) h.0.1.1 (kept-each rs h.1)

        -- a property of the loop's own node that the inner loop reads, or a scalar
        abbrev HereIn : ℕ → Type 0
        HereIn x = (IsProp ds x × Has all L m.number OwnRead x) ⊎ ToldIn ds all l m levels kind over x

        here-each : (rs : List Read) → Every (ReadIn ds all l m levels kind over) rs → Every HereIn (read_at n rs)
        here-each [] h = tt
        here-each (r ∷ rs) h = by (nat_eq r.owner n) refl (here-each rs h.1)
          where
            by : (c : Bool) → nat_eq r.owner n ≡ c → Every HereIn (read_at n rs) → Every HereIn (if c then r.property ∷ read_at n rs else read_at n rs)
            by false e more = more
            by true e more = (
              inl (
                h.0.0,
                ⊎_elim (λ (o : (nat_eq r.owner n ≡ true) × Has all L m.number OwnRead r.property). o.1)
                    (λ (o : (nat_eq r.owner n ≡ false) × ((nat_eq r.owner m.iterator ≡ true) × Has all L m.number kind r.property)). absurd (both_ways (nat_eq r.owner n) o.0 e)) h.0.1,
              ),
              more,
            )

        clash-in : (x : ℕ) → KeptIn ds all l m levels kind over x → HereIn x → ⊥
        clash-in x h k =
            ⊎_elim
            (λ (s : NoProp ds x × (ScalarAt ds 1 x × ((op : Operation) × Has all m.number m.number (PushReduce op) x))).
            ⊎_elim (λ (o : IsProp ds x × Has all L m.number OwnRead x). both_ways (is_property (declared_at ds x)) s.0 o.0)
            (λ (o : ToldIn ds all l m levels kind over x). never-pushed ds all clean m.number m.number m.number x OwnRead s.1.1.0 refl (o.1.1 s.1.0) s.1.1.1) k)
            (λ (s : IsProp ds x × ((op : Operation) × Has all L m.number (OwnReduce op) x)).
            ⊎_elim (λ (o : IsProp ds x × Has all L m.number OwnRead x). never-reduced ds all clean L m.number x s.1.0 o.1 s.1.1)
            (λ (o : ToldIn ds all l m levels kind over x). both_ways (is_property (declared_at ds x)) o.0 s.0) k)
            h

        inner-share : (test : Expr) (body : Stmt) → SeenIn ds all l m levels kind over (sights_in test) → InnerFacts m levels kind over body → inner_shares ds n test body ≡ true
        inner-share test body t b =
            let seen = with_reads (sights_in test) (sights_of ds n true body) in
            let rs = reduced ds n true body in
            let facts = in-both ds all l m levels kind over (sights_in test) (sights_of ds n true body) t b.seen in
            both_true
            (disjoint-from (KeptIn ds all l m levels kind over) HereIn clash-in (kept_in rs) (read_at n seen.properties ++ seen.scalars) (kept-each rs b.reduced)
            (every-append HereIn (read_at n seen.properties) seen.scalars (here-each seen.properties facts.0) (every-map (ToldIn ds all l m levels kind over) HereIn seen.scalars (λ x o. inr o) facts.1)))
            (all-one-way rs b.reduced)

      abbrev pub DeferredTo : ℕ → Type 0
      DeferredTo x = IsProp ds x × Somewhere ds all l Deferred x

      pub record OuterFacts (levels : Bool) (s : Stmt) : Type 0 where
        pub seen : SeenOut ds all l levels (sights_of ds n false s)
        pub away : Every (Away ds all l) (level_reads_of ds n s)
        pub own : Every (Own ds all l) (written ds n false s)
        pub reduced : Every (Given ds all l) (reduced ds n false s)
        pub deferred : Every DeferredTo (deferred s)
        pub inners : inners_share ds n s ≡ true

      both-outer : (levels : Bool) (a b : Stmt) → OuterFacts levels a → OuterFacts levels b → OuterFacts levels (Then a b)
      both-outer levels a b x y = record {
        seen = seen-both ds all l levels (sights_of ds n false a) (sights_of ds n false b) x.seen y.seen;
        away = every-append (Away ds all l) (level_reads_of ds n a) (level_reads_of ds n b) x.away y.away;
        own = every-append (Own ds all l) (written ds n false a) (written ds n false b) x.own y.own;
        reduced = every-append (Given ds all l) (reduced ds n false a) (reduced ds n false b) x.reduced y.reduced;
        deferred = every-append DeferredTo (deferred a) (deferred b) x.deferred y.deferred;
        inners = both_true x.inners y.inners;
      }

      -- a property of the loop's own node
      pub own-property : (x p : ℕ) (at : Place) → IsProp ds p → nat_eq x n ≡ true → Inside (access (around (l ∷ [])) p at (write_kind (l ∷ []) x)) all → Somewhere ds all l OwnWrite p
      own-property x p at is e i =
          (number_at (l ∷ []) 1, property-accessed ds all (l ∷ []) p at OwnWrite is refl (subst (λ c. Inside (access (around (l ∷ [])) p at (if c then OwnWrite else StrayWrite)) all) (flip n x ∙ e) i))

      placed-property : (d x p : ℕ) (at : Place) → PlacedTarget ds d (T.Property x p at) → IsProp ds p
      placed-property d x p at h = ap is_property h.1.0 ∙ ap (λ c. c || is Sorts.EdgeProperty h.0) h.1.1

      written-facts : (levels : Bool) (k : Key) (t : Target) (e : Expr) (j : ℕ) → is_at_depth ds 1 n t ≡ true → PlacedTarget ds 1 t → Suit ds (uses_of_target t) → Inside (plain_write (around (l ∷ [])) t) all
          → SeenOut ds all l levels (sights_in e) × Every (Away ds all l) (level_reads_in e) → OuterFacts levels (Assign k t e)
      written-facts levels k (T.Scalar x at) e j h p u i s = record { seen = s.0; away = s.1; own = (inl (target-local 0 1 x at p h), tt); reduced = tt; deferred = tt; inners = refl }
      written-facts levels k (T.Property x q at) e j h p u i s =
          let w = around (l ∷ []) in
          let z = split ds (use_as Owner x) (use_as NodeValue q) u in
          let is = placed-property 1 x q at p in
          let more = access w q at (write_kind w.loops x) in
          let told = told-out ds all l x at (owner-plain ds x z.0) (inside-left (scalar_read w x at) more all i) in
          record {
            seen = seen-both ds all l levels (sights_of_target (T.Property x q at)) (sights_in e) (tt, (told, tt)) s.0;
            away = s.1;
            own = (inr (is, own-property x q at is h (inside-right (scalar_read w x at) more all i)), tt);
            reduced = tt;
            deferred = tt;
            inners = refl;
          }

      pub outer-facts : (levels edge : Bool) (s : Stmt) (k : ℕ) → is_outer_code ds levels n s ≡ true → Placed ds 1 edge s → Suit ds (uses_of s) → Inside (accesses_of s (around (l ∷ [])) k) all → OuterFacts levels s
      outer-facts levels edge Skip k h p u i = record { seen = (tt, tt); away = tt; own = tt; reduced = tt; deferred = tt; inners = refl }
      outer-facts levels edge (Then a b) k h p u i =
          let w = around (l ∷ []) in
          let f = both-true (is_outer_code ds levels n a) (is_outer_code ds levels n b) h in
          let s = split ds (uses_of a) (uses_of b) u in
          let x = accesses_of a w k in
          let y = accesses_of b w (k + loops_of a) in
          both-outer levels a b (outer-facts levels edge a k f.0 p.0 s.0 (inside-left x y all i)) (outer-facts levels p.1.0 b (k + loops_of a) f.1 p.1.1.1 s.1 (inside-right x y all i))
      outer-facts levels edge (Declare k' x None) k h p u i = record { seen = (tt, tt); away = tt; own = (inl (declared-local 0 x p.0), tt); reduced = tt; deferred = tt; inners = refl }
      outer-facts levels edge (Declare k' x (Some e)) k h p u i =
          let f = both-true (nat_eq (depth_at ds x) 1) (is_outer_expr levels n e) h in
          let s = split ds (use_as Written x) (uses_in e) u in
          let t = expr-seen ds all l levels e k f.1 s.1 i in
          record { seen = t.0; away = t.1; own = (inl (declared-local 0 x p.0), tt); reduced = tt; deferred = tt; inners = refl }
      outer-facts levels edge (DeclareEdge x y at) k h p u i = absurd (both_ways false refl h)
      outer-facts levels edge (Assign k' t e) k h p u i =
          let w = around (l ∷ []) in
          let f = both-true (is_at_depth ds 1 n t) (is_outer_expr levels n e) h in
          let s = split ds (uses_of_target t) (uses_in e) u in
          let x = plain_write w t in
          let y = reads e w k in
          written-facts levels k' t e k f.0 p.0 s.0 (inside-left x y all i) (expr-seen ds all l levels e k f.1 s.1 (inside-right x y all i))
      outer-facts levels edge (Defer k' (T.Scalar x at) e) k h p u i = absurd (both_ways false refl h)
      outer-facts levels edge (Defer k' (T.Property x q at) e) k h p u i =
          let w = around (l ∷ []) in
          let f = both-true (nat_eq x n) (is_outer_expr levels n e) h in
          let s = split ds (use_as Owner x ++ use_as NodeValue q) (uses_in e) u in
          let z = split ds (use_as Owner x) (use_as NodeValue q) s.0 in
          let is = placed-property 1 x q at p.0.0 in
          let write = deferred_write w (T.Property x q at) in
          let y = reads e w k in
          let t = expr-seen ds all l levels e k f.1 s.1 (inside-right write y all i) in
          let stray = if is_outer w.loops x then [] else access w q at StrayWrite in
          let last = access w q at Deferred in
          let here = inside-left write y all i in
          let told = told-out ds all l x at (owner-plain ds x z.0) (inside-left (scalar_read w x at) (stray ++ last) all here) in
          let late = inside-right stray last all (inside-right (scalar_read w x at) (stray ++ last) all here) in
          record {
            seen = seen-both ds all l levels (sights_of_target (T.Property x q at)) (sights_in e) (tt, (told, tt)) t.0;
            away = t.1;
            own = tt;
            reduced = tt;
            deferred = ((is, (number_at (l ∷ []) 1, property-accessed ds all (l ∷ []) q at Deferred is refl late)), tt);
            inners = refl;
          }
      outer-facts levels edge (Combine k' total r ts es) k h p u i =
          let w = around (l ∷ []) in
          let f = both-true (list_all (is_within ds 1) ts) (list_all (is_outer_expr levels n) es) h in
          let s = split ds (uses_of_targets ts) (uses_in_all es) u in
          let x = reductions w r ts in
          let y = reads_of_all es w k in
          let op = operation_of ds all l (reduced_by ds n total.key.statement r ts) in
          let targets = targets-out ds all l op ts p.0.0 s.0 (seen-operation w r ts all l total.key.statement (inside-left x y all i)) in
          let seen = sights-out ds all l levels op ts targets in
          let values = all-seen ds all l levels es k f.1 s.1 (inside-right x y all i) in
          record {
            seen = seen-both ds all l levels (sights_of_targets ds n false ts) (sights_in_all es) seen.0 values.0;
            away = every-append (Away ds all l) (sights_of_targets ds n false ts).properties (level_reads_in_all es) seen.1 values.1;
            own = written-out ds all l op ts targets;
            reduced = reduced-out ds all l total.key.statement r ts targets;
            deferred = tt;
            inners = refl;
          }
      outer-facts levels edge (If k' c a b) k h p u i =
          let w = around (l ∷ []) in
          let f = both-true (is_outer_expr levels n c) (is_outer_code ds levels n a && is_outer_code ds levels n b) h in
          let g = both-true (is_outer_code ds levels n a) (is_outer_code ds levels n b) f.1 in
          let s = split ds (uses_in c) (uses_of a ++ uses_of b) u in
          let t = split ds (uses_of a) (uses_of b) s.1 in
          let x = reads c w k in
          let y = accesses_of a w (k + loops_in c) in
          let z = accesses_of b w (k + loops_in c + loops_of a) in
          let rest = inside-right x (y ++ z) all i in
          let test = expr-seen ds all l levels c k f.0 s.0 (inside-left x (y ++ z) all i) in
          let both = both-outer levels a b (outer-facts levels edge a (k + loops_in c) g.0 p.1.0 t.0 (inside-left y z all rest)) (outer-facts levels edge b (k + loops_in c + loops_of a) g.1 p.1.1 t.1 (inside-right y z all rest)) in
          record {
            seen = seen-both ds all l levels (sights_in c) (with_reads (sights_of ds n false a) (sights_of ds n false b)) test.0 both.seen;
            away = every-append (Away ds all l) (level_reads_in c) (level_reads_of ds n a ++ level_reads_of ds n b) test.1 both.away;
            own = both.own;
            reduced = both.reduced;
            deferred = both.deferred;
            inners = both.inners;
          }
      outer-facts levels edge (Foreach k' at hd test body) k h p u i =
          let its = n ∷ (hd.iterator ∷ []) in
          let m : Loop = record { number = k; iterator = hd.iterator; domain = hd.domain } in
          let w = around (l ∷ (m ∷ [])) in
          let q = both-true (is_inner_head levels n hd) (is_flat its true test && is_inner_code ds its body) h in
          let g = both-true (is_range levels hd.domain) (nat_eq hd.owner n && not (nat_eq hd.iterator n)) q.0 in
          let t = both-true (is_flat its true test) (is_inner_code ds its body) q.1 in
          let kind = range-kind ds levels hd.domain g.0 in
          let s = split ds (uses_of_head hd) (uses_in test ++ uses_of body) u in
          let z = split ds (uses_in test) (uses_of body) s.1 in
          let o = scalar_read (around (l ∷ [])) hd.owner hd.place in
          let x = reads test w (k + 1) in
          let y = accesses_of body w (k + 1 + loops_in test) in
          let rest = inside-right o (x ++ y) all i in
          let owner = told-out ds all l hd.owner hd.place (head-plain ds levels hd g.0 s.0) (inside-left o (x ++ y) all i) in
          let first = flat-seen ds all l m levels kind.0 kind.1 true test (k + 1) t.0 z.0 (inside-left x y all rest) in
          let inner = inner-facts m levels kind.0 kind.1 edge body (k + 1 + loops_in test) t.1 p.1.1 z.1 (inside-right x y all rest) in
          let seen = in-both ds all l m levels kind.0 kind.1 (sights_in test) (sights_of ds n true body) first inner.seen in
          let out = seen-out ds all l m levels kind.0 kind.1 (with_reads (sights_in test) (sights_of ds n true body)) seen in
          record {
            seen = (out.0, (owner, out.1));
            away = away-at ds all l m levels kind.0 kind.1 hd refl refl (reads_in test ++ (sights_of ds n true body).properties) seen.0;
            own = inner.own;
            reduced = every-map (GivenIn ds all l m levels kind.0 kind.1) (Given ds all l) (reduced ds n true body) (λ r b. b.0) inner.reduced;
            deferred = tt;
            inners = inner-share m levels kind.0 kind.1 test body first inner;
          }
      outer-facts levels edge (Group k' at g q e) k h p u i = absurd (both_ways false refl h)
      outer-facts levels edge (For k' at hd test body) k h p u i = absurd (both_ways false refl h)
      outer-facts levels edge (While k' at c body) k h p u i = absurd (both_ways false refl h)
      outer-facts levels edge (Do k' at body c) k h p u i = absurd (both_ways false refl h)
      outer-facts levels edge (InBfs k' at se test body) k h p u i = absurd (both_ways false refl h)
      outer-facts levels edge (InBfsBoth k' at se test body bk bt back) k h p u i = absurd (both_ways false refl h)
      outer-facts levels edge (Return k' at e) k h p u i = absurd (both_ways false refl h)
