-- The parallel loops of a program that breaks no rule share what ends with them alone.
use Rattle.std.proofs.Common.{◌≡◌, ◌⊎◌, ◌+◌, ℕ, inl, inr, Bool, true, false, List, [], ◌∷◌, ◌++◌, refl, ⊎_elim}
use Rattle.std.specs.Prelude.{◌&&◌, ◌||◌, nat_eq, nat_lt, if◌then◌else◌}
use Rattle.std.specs.Cmp.Derive.{both_true}
use Rattle.std.proofs.lemmas.Bool.{both_ways, eq-eqb}
use Rattle.gm_base.specs.declared.places.Place.{Place}
use Rattle.gm_ast.specs.declared.accesses.Access.{Access}
use Rattle.gm_ast.specs.declared.accesses.AccessKind.{AccessKind}
use Rattle.gm_ast.specs.declared.accesses.AccessKind.TheVariants.{OwnRead, OtherRead, LevelRead, OwnWrite, PushReduce}
use Rattle.gm_ast.specs.declared.accesses.Operation.{Operation}
use Rattle.gm_ast.specs.declared.tree.Declaration.{Declaration}
use Rattle.gm_ast.specs.declared.tree.Domain.TheVariants as Domains
use Rattle.gm_ast.specs.declared.tree.Key.{Key}
use Rattle.gm_ast.specs.declared.tree.Target.TheVariants as T
use Rattle.gm_ast.specs.Accesses as A
use Rattle.gm_ast.specs.Accesses.{Loop, Around, number_at, loops_in, loops_of, loops_in_option, access, scalar_read, write_kind, reads, accesses_of}
use Rattle.gm_ast.specs.Loops.{declared_at, is_property, is_nodes}
use Rattle.gm_ast.specs.Program.{Expr, always, Stmt, Skip, Then, Declare, DeclareEdge, Assign, Defer, Combine, Group, Foreach, For, If, While, Do, InBfs, InBfsBoth, Return}
use Rattle.gm_ast.specs.Races.{is_read, is_own_write, is_own_reduce, is_push_reduce, is_own_change, is_change, operation_eq}
use Rattle.gm_forms.specs.Ready.{is_outer_expr, is_outer_code, is_phase_expr, is_phase_code}
use Rattle.gm_forms.specs.Sharing.{Read, reads_in, with_reads, sights_in, sights_of, read_elsewhere, read_anywhere, written, deferred, Reduced, reduced, shared_in, kept_in, disjoint, does_same, agrees, all_agree, targets_alike, level_reads_of, shares_beside, shares, search_shares, loops_share}
use Rattle.gm_forms.specs.Uses.{NodeValue, Iterates, use_as, uses_in, uses_of_head, uses_of_search, uses_of}
use Rattle.gm_forms.proofs.Named.{both-true}
use Rattle.gm_ready.specs.Rising.{numbers_in, is_below, rise, numbers_rise_in}
use Rattle.gm_ready.proofs.Placing.{Placed}
use Rattle.gm_ready.proofs.Racing.{Member, Inside, inside-left, inside-right, Clean}
use Rattle.gm_ready.proofs.Pairs.{reduce_kind, never-changed, never-pushed, never-deferred, one-way}
use Rattle.gm_ready.proofs.ReadFacts.{Every, every-append, every-map, Suit, split, NoProp, IsProp, ScalarAt, value-property, Somewhere, ToldOut, ReadOut, SeenOut, seen-both, Away, expr-seen}
use Rattle.gm_ready.proofs.TargetFacts.{Local, operation_of, SharedBy, VariableOf, Kept, Own, Given}
use Rattle.gm_ready.proofs.Disjoint.{disjoint-from, common, operations-turn, numbers_of, reduced-rise}
use Rattle.gm_ready.proofs.BodyFacts.{DeferredTo, OuterFacts, outer-facts, own-property}

-- the targets of reductions that stand in a tree as they were judged are alike
alike-of : (ds : List Declaration) (d : ℕ) (edge : Bool) (s : Stmt) → Placed ds d edge s → targets_alike s ≡ true
alike-of ds d edge (Then a b) h = both_true (alike-of ds d edge a h.0) (alike-of ds d h.1.0 b h.1.1.1)
alike-of ds d edge (Combine k total r ts es) h = h.1.1
alike-of ds d edge (If k c a b) h = both_true (alike-of ds d edge a h.1.0) (alike-of ds d edge b h.1.1)
alike-of ds d edge (Foreach k at hd test body) h = alike-of ds (d + 1) edge body h.1.1
alike-of ds d edge Skip h = refl
alike-of ds d edge (Declare k x e) h = refl
alike-of ds d edge (DeclareEdge x y at) h = refl
alike-of ds d edge (Assign k t e) h = refl
alike-of ds d edge (Defer k t e) h = refl
alike-of ds d edge (Group k at g p e) h = refl
alike-of ds d edge (For k at hd test body) h = refl
alike-of ds d edge (While k at c body) h = refl
alike-of ds d edge (Do k at body c) h = refl
alike-of ds d edge (InBfs k at s test body) h = refl
alike-of ds d edge (InBfsBoth k at s test body bk bt back) h = refl
alike-of ds d edge (Return k at e) h = refl

change-of : (k : AccessKind) → is_own_change k ≡ true → is_change k ≡ true
change-of k h = by (is_own_write k) (is_own_reduce k) h
  where
    by : (a b : Bool) → a || b ≡ true → a || (b || is_push_reduce k) ≡ true
    by true b h = refl
    by false true h = refl
    by false false h = absurd (both_ways false refl h)

module _ (ds : List Declaration) (all : List Access) (clean : (b : Access) → Member b all → Clean ds all b) where
  abbrev around : List Loop → Around
  around loops = record { declarations = ds; loops = loops }

  module _ (l : Loop) where
    abbrev n : ℕ
    n = l.iterator

    abbrev Any : AccessKind → ℕ → Type 0
    Any kind x = Somewhere ds all l kind x

    -- ---- reductions of the loop to one variable

    same-where : (p q : Operation) (x : ℕ) → SharedBy ds all l p x → VariableOf ds all l q x → operation_eq p q ≡ true
    same-where p q x h k =
        ⊎_elim
        (λ (o : Local ds x). absurd (⊎_elim (λ (is : IsProp ds x). both_ways (is_property (declared_at ds x)) o.0 is) (λ (s : NoProp ds x × ScalarAt ds 0 x). o.1 s.1) h.0))
        (λ (o : ((own : Bool) × Any (reduce_kind own q) x) ⊎ (IsProp ds x × Any OwnWrite x)).
        ⊎_elim
        (λ (r : (own : Bool) × Any (reduce_kind own q) x).
        ⊎_elim (λ (s : operation_eq p q ≡ true). s) (λ (s : operation_eq q p ≡ true). operations-turn p q s) (one-way ds all clean l.number h.1.0 r.1.0 x false r.0 p q refl h.1.1 r.1.1))
        (λ (w : IsProp ds x × Any OwnWrite x). absurd (never-pushed ds all clean l.number w.1.0 h.1.0 x OwnWrite p refl w.1.1 h.1.1))
        o)
        k

    agree-two : (a b : Reduced) → Given ds all l a → Given ds all l b → (disjoint a.shared b.variables && disjoint b.shared a.variables) || does_same a b ≡ true
    agree-two a b h k = by (disjoint a.shared b.variables) (disjoint b.shared a.variables) refl refl
      where
        p : Operation
        p = operation_of ds all l a

        q : Operation
        q = operation_of ds all l b

        by : (c d : Bool) → disjoint a.shared b.variables ≡ c → disjoint b.shared a.variables ≡ d → (c && d) || does_same a b ≡ true
        by true true e f = refl
        by false d e f =
            let c = common (SharedBy ds all l (operation_of ds all l a)) (VariableOf ds all l (operation_of ds all l b)) a.shared b.variables h.0 k.1.0 e in
            same-where (operation_of ds all l a) (operation_of ds all l b) c.0 c.1.0 c.1.1
        by true false e f =
            let c = common (SharedBy ds all l (operation_of ds all l b)) (VariableOf ds all l (operation_of ds all l a)) b.shared a.variables k.0 h.1.0 f in
            operations-turn (operation_of ds all l a) (operation_of ds all l b) (same-where (operation_of ds all l b) (operation_of ds all l a) c.0 c.1.0 c.1.1)

    or-right : (a b : Bool) → b ≡ true → a || b ≡ true
    or-right true b h = refl
    or-right false b h = h

    agree-with : (a : Reduced) (bs : List Reduced) → Given ds all l a → Every (Given ds all l) bs → is_below a.number (numbers_of bs) ≡ true → agrees a bs ≡ true
    agree-with a [] h k o = refl
    agree-with a (b ∷ bs) h k o =
        let s = both-true (nat_lt a.number b.number) (is_below a.number (numbers_of bs)) o in
        both_true (or-right (disjoint a.variables b.variables) (nat_lt a.number b.number && ((disjoint a.shared b.variables && disjoint b.shared a.variables) || does_same a b)) (both_true s.0 (agree-two a b h k.0))) (agree-with a bs h k.1 s.1)

    agree-all : (rs : List Reduced) → Every (Given ds all l) rs → rise (numbers_of rs) ≡ true → all_agree rs ≡ true
    agree-all [] h o = refl
    agree-all (r ∷ rs) h o =
        let s = both-true (is_below r.number (numbers_of rs)) (rise (numbers_of rs)) o in
        both_true (agree-with r rs h.0 h.1 s.0) (agree-all rs h.1 s.1)

    -- ---- what is shared, and what is kept

    abbrev Shared : ℕ → Type 0
    Shared x = (op : Operation) × SharedBy ds all l op x

    shared-each : (rs : List Reduced) → Every (Given ds all l) rs → Every Shared (shared_in rs)
    shared-each [] h = tt
    shared-each (r ∷ rs) h = every-append Shared r.shared (shared_in rs) (every-map (SharedBy ds all l (operation_of ds all l r)) Shared r.shared (λ x s. (operation_of ds all l r, s)) h.0.0) (shared-each rs h.1)

    kept-each : (rs : List Reduced) → Every (Given ds all l) rs → Every (Kept ds all l) (kept_in rs)
    kept-each [] h = tt
    kept-each (r ∷ rs) h = every-append (Kept ds all l) r.kept (kept_in rs) h.0.1.1 (kept-each rs h.1)

    -- what is read or written in the loop
    abbrev Used : ℕ → Type 0
    Used x = (IsProp ds x × ((kind : AccessKind) × ((is_read kind || is_own_write kind ≡ true) × Any kind x))) ⊎ (NoProp ds x × (ScalarAt ds 0 x → Any OwnRead x))

    used-reads : (levels : Bool) (rs : List Read) → Every (ReadOut ds all l levels) rs → Every Used (read_anywhere rs)
    used-reads levels [] h = tt
    used-reads levels (r ∷ rs) h = (
      inl (
        h.0.0,
        ⊎_elim
            (λ (o : (nat_eq r.owner n ≡ true) × Any OwnRead r.property). (OwnRead, (refl, o.1)))
            (λ (o : (nat_eq r.owner n ≡ false) × (Any OtherRead r.property ⊎ ((levels ≡ true) × Any LevelRead r.property))).
            ⊎_elim (λ (s : Any OtherRead r.property). (OtherRead, (refl, s))) (λ (s : (levels ≡ true) × Any LevelRead r.property). (LevelRead, (refl, s.1))) o.1)
            h.0.1,
      ),
      used-reads levels rs h.1,
    )

    used-own : (x : ℕ) → Own ds all l x → Used x
    used-own x h = ⊎_elim (λ (o : Local ds x). inr (o.0, λ s. absurd (o.1 s))) (λ (o : IsProp ds x × Any OwnWrite x). inl (o.0, (OwnWrite, (refl, o.1)))) h

    shared-clash : (x : ℕ) → Shared x → Used x → ⊥
    shared-clash x h k =
        ⊎_elim
        (λ (u : IsProp ds x × ((kind : AccessKind) × ((is_read kind || is_own_write kind ≡ true) × Any kind x))).
        never-pushed ds all clean l.number u.1.1.1.0 h.1.1.0 x u.1.0 h.0 u.1.1.0 u.1.1.1.1 h.1.1.1)
        (λ (u : NoProp ds x × (ScalarAt ds 0 x → Any OwnRead x)).
        ⊎_elim (λ (is : IsProp ds x). both_ways (is_property (declared_at ds x)) u.0 is)
        (λ (s : NoProp ds x × ScalarAt ds 0 x). let r = u.1 s.1 in never-pushed ds all clean l.number r.0 h.1.1.0 x OwnRead h.0 refl r.1 h.1.1.1) h.1.0)
        k

    -- a property that is read at neighbours of any level
    abbrev Elsewhere : ℕ → Type 0
    Elsewhere x = IsProp ds x × Any OtherRead x

    elsewhere-each : (rs : List Read) → Every (Away ds all l) rs → Every Elsewhere (read_elsewhere n rs)
    elsewhere-each [] h = tt
    elsewhere-each (r ∷ rs) h = by (nat_eq r.owner n) refl (elsewhere-each rs h.1)
      where
        by : (c : Bool) → nat_eq r.owner n ≡ c → Every Elsewhere (read_elsewhere n rs) → Every Elsewhere (if c then read_elsewhere n rs else r.property ∷ read_elsewhere n rs)
        by true e more = more
        by false e more = ((h.0.0, ⊎_elim (λ (o : nat_eq r.owner n ≡ true). absurd (both_ways (nat_eq r.owner n) e o)) (λ (o : Any OtherRead r.property). o) h.0.1), more)

    own-kept : (x : ℕ) → Own ds all l x → Kept ds all l x
    own-kept x h = ⊎_elim (λ (o : Local ds x). inl o.0) (λ (o : IsProp ds x × Any OwnWrite x). inr (o.0, (OwnWrite, (refl, o.1)))) h

    kept-clash : (x : ℕ) → Kept ds all l x → Elsewhere x → ⊥
    kept-clash x h k =
        ⊎_elim (λ (none : NoProp ds x). both_ways (is_property (declared_at ds x)) none k.0)
        (λ (o : IsProp ds x × ((kind : AccessKind) × ((is_own_change kind ≡ true) × Any kind x))). never-changed ds all clean l.number k.1.0 o.1.1.1.0 x o.1.0 o.1.1.0 k.1.1 o.1.1.1.1) h

    -- what is changed in the loop, or no property
    abbrev Changed : ℕ → Type 0
    Changed x = NoProp ds x ⊎ ((kind : AccessKind) × ((is_change kind ≡ true) × Any kind x))

    kept-changed : (x : ℕ) → Kept ds all l x → Changed x
    kept-changed x h = ⊎_elim (λ (none : NoProp ds x). inl none) (λ (o : IsProp ds x × ((kind : AccessKind) × ((is_own_change kind ≡ true) × Any kind x))). inr (o.1.0, (change-of o.1.0 o.1.1.0, o.1.1.1))) h

    shared-changed : (x : ℕ) → Shared x → Changed x
    shared-changed x h = inr (PushReduce h.0, (refl, h.1.1))

    deferred-clash : (x : ℕ) → DeferredTo ds all l clean x → Changed x → ⊥
    deferred-clash x h k =
        ⊎_elim (λ (none : NoProp ds x). both_ways (is_property (declared_at ds x)) none h.0)
        (λ (o : (kind : AccessKind) × ((is_change kind ≡ true) × Any kind x)). never-deferred ds all clean l.number h.1.0 o.1.1.0 x o.0 o.1.0 h.1.1 o.1.1.1) k

    -- ---- a loop

    beside : (levels : Bool) (test : Expr) (body : Stmt) (elsewhere : List ℕ) → SeenOut ds all l levels (sights_in test) → OuterFacts ds all l clean levels body → Every Elsewhere elsewhere → rise (numbers_in body) ≡ true → targets_alike body ≡ true
        → shares_beside elsewhere ds n test body ≡ true
    beside levels test body elsewhere t b away up alike =
        let seen = with_reads (sights_in test) (sights_of ds n false body) in
        let rs = reduced ds n false body in
        let own = written ds n false body in
        let facts = seen-both ds all l levels (sights_in test) (sights_of ds n false body) t b.seen in
        let shared = shared-each rs b.reduced in
        let kept = kept-each rs b.reduced in
        let owns = every-map (Own ds all l) (Kept ds all l) own own-kept b.own in
        both_true
        (disjoint-from Shared Used shared-clash (shared_in rs) (read_anywhere seen.properties ++ (seen.scalars ++ own)) shared
        (every-append Used (read_anywhere seen.properties) (seen.scalars ++ own) (used-reads levels seen.properties facts.0)
        (every-append Used seen.scalars own (every-map (ToldOut ds all l) Used seen.scalars (λ x o. inr o) facts.1) (every-map (Own ds all l) Used own used-own b.own)))) (both_true
        (disjoint-from (Kept ds all l) Elsewhere kept-clash (own ++ kept_in rs) elsewhere (every-append (Kept ds all l) own (kept_in rs) owns kept) away) (both_true
        (disjoint-from (DeferredTo ds all l clean) Changed deferred-clash (deferred body) (own ++ (shared_in rs ++ kept_in rs)) b.deferred
        (every-append Changed own (shared_in rs ++ kept_in rs) (every-map (Kept ds all l) Changed own kept-changed owns)
        (every-append Changed (shared_in rs) (kept_in rs) (every-map Shared Changed (shared_in rs) shared-changed shared) (every-map (Kept ds all l) Changed (kept_in rs) kept-changed kept)))) (both_true
        (agree-all rs b.reduced (reduced-rise ds n body up)) (both_true b.inners alike))))

    -- without levels a read at another node is one at neighbours of any level
    away-of : (r : Read) → ReadOut ds all l false r → Away ds all l r
    away-of r h = (
      h.0,
      ⊎_elim (λ (o : (nat_eq r.owner n ≡ true) × Any OwnRead r.property). inl o.0)
          (λ (o : (nat_eq r.owner n ≡ false) × (Any OtherRead r.property ⊎ ((false ≡ true) × Any LevelRead r.property))).
          ⊎_elim (λ (s : Any OtherRead r.property). inr s) (λ (s : (false ≡ true) × Any LevelRead r.property). absurd (both_ways false refl s.0)) o.1) h.1,
    )

    -- and levels may be known
    read-more : (r : Read) → ReadOut ds all l false r → ReadOut ds all l true r
    read-more r h = (
      h.0,
      ⊎_elim (λ (o : (nat_eq r.owner n ≡ true) × Any OwnRead r.property). inl o)
          (λ (o : (nat_eq r.owner n ≡ false) × (Any OtherRead r.property ⊎ ((false ≡ true) × Any LevelRead r.property))).
          inr (o.0, ⊎_elim (λ (s : Any OtherRead r.property). inl s) (λ (s : (false ≡ true) × Any LevelRead r.property). absurd (both_ways false refl s.0)) o.1)) h.1,
    )

    loop-share : (edge : Bool) (test : Expr) (body : Stmt) (j k : ℕ) → is_outer_expr false n test ≡ true → is_outer_code ds false n body ≡ true → Placed ds 1 edge body → Suit ds (uses_in test) → Suit ds (uses_of body)
        → rise (numbers_in body) ≡ true → Inside (reads test (around (l ∷ [])) j) all → Inside (accesses_of body (around (l ∷ [])) k) all → shares ds n test body ≡ true
    loop-share edge test body j k ft fb p ut ub up it ib =
        let t = expr-seen ds all l false test j ft ut it in
        let b = outer-facts ds all l clean false edge body k fb p ub ib in
        let rs = reads_in test ++ (sights_of ds n false body).properties in
        let reads : Every (ReadOut ds all l false) rs = every-append (ReadOut ds all l false) (reads_in test) (sights_of ds n false body).properties t.0.0 b.seen.0 in
        beside false test body (read_elsewhere n rs) t.0 b (elsewhere-each rs (every-map (ReadOut ds all l false) (Away ds all l) rs away-of reads)) up (alike-of ds 1 edge body p)

    search-share : (edge : Bool) (test : Expr) (body : Stmt) (j k : ℕ) → is_outer_expr false n test ≡ true → is_outer_code ds true n body ≡ true → Placed ds 1 edge body → Suit ds (uses_in test) → Suit ds (uses_of body)
        → rise (numbers_in body) ≡ true → Inside (reads test (around (l ∷ [])) j) all → Inside (accesses_of body (around (l ∷ [])) k) all → search_shares ds n test body ≡ true
    search-share edge test body j k ft fb p ut ub up it ib =
        let t = expr-seen ds all l false test j ft ut it in
        let b = outer-facts ds all l clean true edge body k fb p ub ib in
        let rs = reads_in test ++ level_reads_of ds n body in
        let wide : SeenOut ds all l true (sights_in test) = (every-map (ReadOut ds all l false) (ReadOut ds all l true) (reads_in test) read-more t.0.0, t.0.1) in
        let away : Every (Away ds all l) rs = every-append (Away ds all l) (reads_in test) (level_reads_of ds n body) (every-map (ReadOut ds all l false) (Away ds all l) (reads_in test) away-of t.0.0) b.away in
        beside true test body (read_elsewhere n rs) wide b (elsewhere-each rs away) up (alike-of ds 1 edge body p)

    -- a group assignment, as a loop over all nodes
    group-share : (k : Key) (at : Place) (p : ℕ) (e : Expr) (j : ℕ) → is_outer_expr false n e ≡ true → Suit ds (use_as NodeValue p) → Suit ds (uses_in e)
        → Inside (access (around (l ∷ [])) p at (write_kind (l ∷ []) n)) all → Inside (reads e (around (l ∷ [])) j) all → shares ds n always (Assign k (T.Property n p at) e) ≡ true
    group-share k at p e j f up ue w i =
        let t = expr-seen ds all l false e j f ue i in
        let is = value-property ds p up in
        let rs = (sights_of ds n false (Assign k (T.Property n p at) e)).properties in
        let away : Every (Away ds all l) rs = every-map (ReadOut ds all l false) (Away ds all l) rs away-of t.0.0 in
        let own : Every (Own ds all l) (p ∷ []) = (inr (is, own-property ds all l clean n p at is (eq-eqb n n refl) w), tt) in
        both_true refl (both_true
        (disjoint-from (Kept ds all l) Elsewhere kept-clash (p ∷ []) (read_elsewhere n rs) (every-map (Own ds all l) (Kept ds all l) (p ∷ []) own-kept own) (elsewhere-each rs away)) refl)

  -- ---- sequential phases

  pub phase-shares : (edge : Bool) (s : Stmt) (k : ℕ) → is_phase_code ds s ≡ true → Placed ds 0 edge s → Suit ds (uses_of s) → numbers_rise_in s ≡ true → Inside (accesses_of s (A.sequential ds) k) all → loops_share ds s ≡ true
  phase-shares edge Skip k f p u o i = refl
  phase-shares edge (Then a b) k f p u o i =
      let w = A.sequential ds in
      let g = both-true (is_phase_code ds a) (is_phase_code ds b) f in
      let s = split ds (uses_of a) (uses_of b) u in
      let q = both-true (numbers_rise_in a) (numbers_rise_in b) o in
      let x = accesses_of a w k in
      let y = accesses_of b w (k + loops_of a) in
      both_true (phase-shares edge a k g.0 p.0 s.0 q.0 (inside-left x y all i)) (phase-shares p.1.0 b (k + loops_of a) g.1 p.1.1.1 s.1 q.1 (inside-right x y all i))
  phase-shares edge (Declare k' x e) k f p u o i = refl
  phase-shares edge (DeclareEdge x y at) k f p u o i = refl
  phase-shares edge (Assign k' t e) k f p u o i = refl
  phase-shares edge (Defer k' t e) k f p u o i = refl
  phase-shares edge (Combine k' total r ts es) k f p u o i = refl
  phase-shares edge (Group k' at g q e) k f p u o i =
      let l : Loop = record { number = k; iterator = g; domain = Domains.Nodes } in
      let s = split ds (use_as Iterates g) (use_as NodeValue q ++ uses_in e) u in
      let t = split ds (use_as NodeValue q) (uses_in e) s.1 in
      let x = access (around (l ∷ [])) q at (write_kind (l ∷ []) g) in
      let y = reads e (around (l ∷ [])) (k + 1) in
      group-share l k' at q e (k + 1) f t.0 t.1 (inside-left x y all i) (inside-right x y all i)
  phase-shares edge (Foreach k' at hd test body) k f p u o i =
      let l : Loop = record { number = k; iterator = hd.iterator; domain = hd.domain } in
      let g = both-true (is_nodes hd.domain) (is_outer_expr false hd.iterator test && is_outer_code ds false hd.iterator body) f in
      let h = both-true (is_outer_expr false hd.iterator test) (is_outer_code ds false hd.iterator body) g.1 in
      let s = split ds (uses_of_head hd) (uses_in test ++ uses_of body) u in
      let t = split ds (uses_in test) (uses_of body) s.1 in
      let x = reads test (around (l ∷ [])) (k + 1) in
      let y = accesses_of body (around (l ∷ [])) (k + 1 + loops_in test) in
      let inner = inside-right (scalar_read (A.sequential ds) hd.owner hd.place) (x ++ y) all i in
      loop-share l edge test body (k + 1) (k + 1 + loops_in test) h.0 h.1 p.1.1 t.0 t.1 o (inside-left x y all inner) (inside-right x y all inner)
  phase-shares edge (For k' at hd test body) k f p u o i =
      let w = A.sequential ds in
      let g = both-true (is_nodes hd.domain) (is_phase_expr test && is_phase_code ds body) f in
      let h = both-true (is_phase_expr test) (is_phase_code ds body) g.1 in
      let s = split ds (uses_of_head hd) (uses_in test ++ uses_of body) u in
      let t = split ds (uses_in test) (uses_of body) s.1 in
      let x = reads test w k in
      let y = accesses_of body w (k + loops_in test) in
      phase-shares edge body (k + loops_in test) h.1 p.1.1 t.1 o (inside-right x y all (inside-right (scalar_read w hd.owner hd.place) (x ++ y) all i))
  phase-shares edge (If k' c a b) k f p u o i =
      let w = A.sequential ds in
      let g = both-true (is_phase_expr c) (is_phase_code ds a && is_phase_code ds b) f in
      let h = both-true (is_phase_code ds a) (is_phase_code ds b) g.1 in
      let s = split ds (uses_in c) (uses_of a ++ uses_of b) u in
      let t = split ds (uses_of a) (uses_of b) s.1 in
      let q = both-true (numbers_rise_in a) (numbers_rise_in b) o in
      let x = accesses_of a w (k + loops_in c) in
      let y = accesses_of b w (k + loops_in c + loops_of a) in
      let rest = inside-right (reads c w k) (x ++ y) all i in
      both_true (phase-shares edge a (k + loops_in c) h.0 p.1.0 t.0 q.0 (inside-left x y all rest)) (phase-shares edge b (k + loops_in c + loops_of a) h.1 p.1.1 t.1 q.1 (inside-right x y all rest))
  phase-shares edge (While k' at c body) k f p u o i =
      let w = A.sequential ds in
      let g = both-true (is_phase_expr c) (is_phase_code ds body) f in
      let s = split ds (uses_in c) (uses_of body) u in
      phase-shares edge body (k + loops_in c) g.1 p.1 s.1 o (inside-right (reads c w k) (accesses_of body w (k + loops_in c)) all i)
  phase-shares edge (Do k' at body c) k f p u o i =
      let w = A.sequential ds in
      let g = both-true (is_phase_code ds body) (is_phase_expr c) f in
      let s = split ds (uses_of body) (uses_in c) u in
      phase-shares edge body k g.0 p.0 s.0 o (inside-left (accesses_of body w k) (reads c w (k + loops_of body)) all i)
  phase-shares edge (InBfs k' at se test body) k f p u o i =
      let l : Loop = record { number = k; iterator = se.iterator; domain = Domains.Nodes } in
      let h = both-true (is_outer_expr false se.iterator test) (is_outer_code ds true se.iterator body) f in
      let s = split ds (uses_of_search se) (uses_in test ++ uses_of body) u in
      let t = split ds (uses_in test) (uses_of body) s.1 in
      let x = reads test (around (l ∷ [])) (k + 1) in
      let y = accesses_of body (around (l ∷ [])) (k + 1 + loops_in test) in
      let inner = inside-right (scalar_read (A.sequential ds) se.root se.place) (x ++ y) all i in
      search-share l edge test body (k + 1) (k + 1 + loops_in test) h.0 h.1 p.1.1 t.0 t.1 o (inside-left x y all inner) (inside-right x y all inner)
  phase-shares edge (InBfsBoth k' at se test body bk bt back) k f p u o i =
      let m = k + 1 + loops_in test + loops_of body in
      let l : Loop = record { number = k; iterator = se.iterator; domain = Domains.Nodes } in
      let l2 : Loop = record { number = m; iterator = se.iterator; domain = Domains.Nodes } in
      let g = both-true (is_outer_expr false se.iterator test) (is_outer_code ds true se.iterator body && (is_outer_expr false se.iterator bt && is_outer_code ds true se.iterator back)) f in
      let h = both-true (is_outer_code ds true se.iterator body) (is_outer_expr false se.iterator bt && is_outer_code ds true se.iterator back) g.1 in
      let z = both-true (is_outer_expr false se.iterator bt) (is_outer_code ds true se.iterator back) h.1 in
      let s = split ds (uses_of_search se) (uses_in test ++ (uses_of body ++ (uses_in bt ++ uses_of back))) u in
      let t = split ds (uses_in test) (uses_of body ++ (uses_in bt ++ uses_of back)) s.1 in
      let v = split ds (uses_of body) (uses_in bt ++ uses_of back) t.1 in
      let c = split ds (uses_in bt) (uses_of back) v.1 in
      let q = both-true (rise (numbers_in body)) (rise (numbers_in back)) o in
      let x = reads test (around (l ∷ [])) (k + 1) in
      let y = accesses_of body (around (l ∷ [])) (k + 1 + loops_in test) in
      let x2 = reads bt (around (l2 ∷ [])) (m + 1) in
      let y2 = accesses_of back (around (l2 ∷ [])) (m + 1 + loops_in bt) in
      let one = inside-right (scalar_read (A.sequential ds) se.root se.place) (x ++ (y ++ (x2 ++ y2))) all i in
      let two = inside-right x (y ++ (x2 ++ y2)) all one in
      let three = inside-right y (x2 ++ y2) all two in
      both_true (search-share l edge test body (k + 1) (k + 1 + loops_in test) g.0 h.0 p.1.0.1 t.0 v.0 q.0 (inside-left x (y ++ (x2 ++ y2)) all one) (inside-left y (x2 ++ y2) all two))
      (search-share l2 edge bt back (m + 1) (m + 1 + loops_in bt) z.0 z.1 p.1.1.1 c.0 c.1 q.1 (inside-left x2 y2 all three) (inside-right x2 y2 all three))
  phase-shares edge (Return k' at e) k f p u o i = refl
