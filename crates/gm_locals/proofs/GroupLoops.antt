-- A loop that keeps locals in properties together goes alike.
use Rattle.std.proofs.Common.{◌≡◌, ◌≢◌, ◌<◌, ◌≤◌, arith, ℕ, suc, Bool, true, false, cond, List, [], ◌∷◌, ◌++◌, length, refl, sym, ap, subst, ◌∙◌, Result, Ok, Err, ⊎_elim}
use Rattle.std.proofs.Math.Path.{fun_ext}
use Rattle.std.specs.Prelude.{◌&&◌, ◌||◌, not, nat_eq}
use Rattle.std.specs.List.{list_all}
use Rattle.std.proofs.lemmas.Bool.{both_ways, eq-eqb, eqb-true, ne_eqb}
use Rattle.gm_base.specs.declared.places.Place.{Place}
use Rattle.gm_value.specs.Bag.{IsIn}
use Rattle.gm_value.specs.declared.values.Value.{Value}
use Rattle.gm_value.specs.declared.values.VType.{VType}
use Rattle.gm_value.specs.Numbers.{zero_of}
use Rattle.gm_ast.specs.declared.tree.Declaration.{Declaration}
use Rattle.gm_ast.specs.declared.tree.Head.{Head}
use Rattle.gm_ast.specs.declared.tree.Key.{Key}
use Rattle.gm_ast.specs.declared.tree.Sort.TheVariants as Sorts
use Rattle.gm_ast.specs.declared.tree.Target.{Target}
use Rattle.gm_ast.specs.declared.tree.Target.TheVariants as T
use Rattle.gm_ast.specs.declared.tree.Variable.{Variable}
use Rattle.gm_ast.specs.Names.{sort_eq}
use Rattle.gm_ast.specs.Program.{Expr, Var, always, Stmt, Then, Declare, Assign, Defer, Combine, Foreach, If, sequence}
use Rattle.gm_semantics.specs.declared.faults.Fault.{Fault}
use Rattle.gm_semantics.specs.Stores.{Store}
use Rattle.gm_semantics.specs.Faults.{then_with}
use Rattle.gm_semantics.specs.Levels.{no_levels}
use Rattle.gm_semantics.specs.Iterations.{Loop}
use Rattle.gm_semantics.specs.Loops.{pushes}
use Rattle.gm_semantics.specs.Statements.{Run, State, variable_at, loop_of, sequential, with_value, with_store}
use Rattle.gm_semantics.specs.Frames.{Agree, ReadsBelow, NamesBelow, AlikeStores, AlikeStates, AlikeCourses}
use Rattle.gm_semantics.proofs.StatementFrames.{sequential-alike}
use Rattle.gm_forms.specs.Forms.{depth_at, is_flat, is_outer_body}
use Rattle.gm_forms.specs.Order.{first_key, second_key}
use Rattle.gm_forms.specs.Uses.{Iterates, use_as, owner_role, suits, uses_in, uses_of_head, uses_of}
use Rattle.gm_forms.proofs.CutTests.{found}
use Rattle.gm_forms.proofs.Named.{both-true, all-append, names-below}
use Rattle.gm_forms.proofs.Weaker.{and-true}
use Rattle.gm_loop_laws.specs.Localised.{moved_in, moved, names_plainly, is_apart}
use Rattle.gm_loop_laws.specs.Masks.{Change, looped, in_turn, SameChange}
use Rattle.gm_loop_laws.proofs.Masks.{agree-refl, alike-trans, loop-same}
use Rattle.gm_loop_laws.proofs.Moves.{locals-any}
use Rattle.gm_loop_laws.proofs.Pieces.{own-loop, courses-alike}
use Rattle.gm_loop_laws.proofs.Pushes.{moved-pushes}
use Rattle.gm_dissect.specs.Conditions.{holds_cut}
use Rattle.gm_dissect.specs.Locals.{declares}
use Rattle.gm_dissect.proofs.DeferredLoops.{may_be_written, never-iterates, use-of, turns-do, last-do}
use Rattle.gm_dissect.proofs.LocalLoops.{pushes-fresh, IsLocal, declared-local}
use Rattle.gm_dissect.proofs.Phases.{KnownLoop, Rewrites}
use Rattle.gm_locals.specs.Beside.{is_mine, may_move_beside}
use Rattle.gm_locals.specs.Groups.{is_among, may_move_within, may_keep, keeps_locals, locals_row, locals_loop, kept_loop}
use Rattle.gm_locals.proofs.MovesBeside.{locals-move-beside}
use Rattle.gm_locals.proofs.Staying.{reads-below, names-below-moved, plain-stays, beside-stays}
use Rattle.gm_locals.proofs.UpTo.{reads-up-to, names-up-to}

-- what agrees below a number agrees below a lesser one
agree-down : (j k : ℕ) → j ≤ k → (s t : Store) → Agree k s t → Agree j s t
agree-down j k m s t a = record { scalar = λ x l. a.scalar x (omega (arith, l, m)); node = λ p y l. a.node p y (omega (arith, l, m)); edge = λ p e l. a.edge p e (omega (arith, l, m)) }

alike-down : (j k : ℕ) → j ≤ k → (a b : Result Store Fault) → AlikeStores k a b → AlikeStores j a b
alike-down j k m (Ok s) (Ok t) h = agree-down j k m s t h
alike-down j k m (Ok s) (Err f) h = absurd h
alike-down j k m (Err f) (Ok t) h = absurd h
alike-down j k m (Err f) (Err g) h = h

-- the same change before two that are the same from any store
same-behind : (j k : ℕ) → j ≤ k → (f g h : Change) → SameChange k g h → (t : Store) → AlikeStores j (in_turn f g t) (in_turn f h t)
same-behind j k m f g h same t = by (f t)
  where
    by : (r : Result Store Fault) → AlikeStores j (then_with r g) (then_with r h)
    by (Ok w) = alike-down j k m (g w) (h w) (same w w (agree-refl k w))
    by (Err e) = refl

-- locals of a loop's body that are reduced with one another are reduced with the iteration's own
module _ (loop : Loop) (xs : List ℕ) (mine : (y : ℕ) → IsIn y xs → (loop.depth y ≡ 1) × (nat_eq y loop.outer ≡ false)) where
  among-mine : (t : Target) → is_among xs t ≡ true → is_mine loop t ≡ true
  among-mine (T.Scalar y at) h =
      let m = mine y (found xs y h) in and-true (nat_eq (loop.depth y) 1) (not (nat_eq y loop.outer)) (eq-eqb (loop.depth y) 1 m.0) (ap not m.1)
  among-mine (T.Property y p at) h = absurd (both_ways false refl h)

  all-mine : (ts : List Target) → list_all (is_among xs) ts ≡ true → list_all (is_mine loop) ts ≡ true
  all-mine [] h = refl
  all-mine (t ∷ ts) h =
      let r = both-true (is_among xs t) (list_all (is_among xs) ts) h in and-true (is_mine loop t) (list_all (is_mine loop) ts) (among-mine t r.0) (all-mine ts r.1)

  or-more : (a b c : Bool) → (b ≡ true → c ≡ true) → a || b ≡ true → a || c ≡ true
  or-more true b c f h = refl
  or-more false b c f h = f h

  pub within-beside : (x : ℕ) (s : Stmt) → may_move_within xs x loop.outer s ≡ true → may_move_beside loop x s ≡ true
  within-beside x (Then a b) h =
      let r = both-true (may_move_within xs x loop.outer a) (may_move_within xs x loop.outer b) h in
      and-true (may_move_beside loop x a) (may_move_beside loop x b) (within-beside x a r.0) (within-beside x b r.1)
  within-beside x (Combine k total o ts es) h =
      let r = both-true (list_all (is_apart x loop.outer) ts || list_all (is_among xs) ts) (list_all (names_plainly x) es) h in
      and-true (list_all (is_apart x loop.outer) ts || list_all (is_mine loop) ts) (list_all (names_plainly x) es)
      (or-more (list_all (is_apart x loop.outer) ts) (list_all (is_among xs) ts) (list_all (is_mine loop) ts) (all-mine ts) r.0) r.1
  within-beside x (If k c a b) h =
      let r = both-true (names_plainly x c) (may_move_within xs x loop.outer a && may_move_within xs x loop.outer b) h in
      let s = both-true (may_move_within xs x loop.outer a) (may_move_within xs x loop.outer b) r.1 in
      and-true (names_plainly x c) (may_move_beside loop x a && may_move_beside loop x b) r.0 (and-true (may_move_beside loop x a) (may_move_beside loop x b) (within-beside x a s.0) (within-beside x b s.1))
  within-beside x (Foreach k at h test body) m =
      let rest = names_plainly x test && may_move_within xs x loop.outer body in
      let more = names_plainly x test && may_move_beside loop x body in
      let a = both-true (not (nat_eq h.owner x)) (not (nat_eq h.iterator x) && (not (nat_eq h.iterator loop.outer) && rest)) m in
      let b = both-true (not (nat_eq h.iterator x)) (not (nat_eq h.iterator loop.outer) && rest) a.1 in
      let c = both-true (not (nat_eq h.iterator loop.outer)) rest b.1 in
      let d = both-true (names_plainly x test) (may_move_within xs x loop.outer body) c.1 in
      and-true (not (nat_eq h.owner x)) (not (nat_eq h.iterator x) && (not (nat_eq h.iterator loop.outer) && more)) a.0
      (and-true (not (nat_eq h.iterator x)) (not (nat_eq h.iterator loop.outer) && more) b.0
      (and-true (not (nat_eq h.iterator loop.outer)) more c.0 (and-true (names_plainly x test) (may_move_beside loop x body) d.0 (within-beside x body d.1))))
  within-beside x (Declare k y e) h = h
  within-beside x (Assign k t e) h = h
  within-beside x (Defer k t e) h = h
  within-beside x s h = refl

-- ds: the table of the program; run: a run whose table is longer
module _ (ds : List Declaration) (run : Run) (same : (x : ℕ) → x < length ds → variable_at run.declarations x ≡ variable_at ds x) (key : Key) (at : Place) (h : Head) where
  abbrev n : ℕ
  n = h.iterator

  abbrev over : Stmt → Loop
  over body = loop_of run no_levels n body

  abbrev first_of : ℕ → Value
  first_of x = zero_of (variable_at ds x).vtype

  -- a loop by what it pushes itself
  abbrev alone : Expr → Stmt → Change
  alone test body = looped (over body) key test body

  abbrev into : ℕ → ℕ → Stmt
  into q x = Assign second_key (T.Property n q at) (Var x at)

  abbrev setting : ℕ → ℕ → Change
  setting q x = looped (over (into q x)) first_key always (into q x)

  -- what is known of a local that goes to a property of a number
  record Movable (q : ℕ) (test : Expr) (body : Stmt) (x : ℕ) : Type 0 where
    below : x < q
    apart : x ≢ n
    deep : (over body).depth x ≡ 1
    typed : (over body).vtype x ≡ (variable_at ds x).vtype
    plain : names_plainly x test ≡ true
    moves : may_move_beside (over body) x body ≡ true

  abbrev AllMovable : ℕ → Expr → Stmt → List ℕ → Type 0
  AllMovable q test body [] = Unit {0}
  AllMovable q test body (x ∷ xs) = Movable q test body x × AllMovable q test body xs

  -- what is known of the loop
  record Fits (q : ℕ) (test : Expr) (body : Stmt) : Type 0 where
    iterates : n < q
    reads : ReadsBelow q test
    names : NamesBelow q body
    quiet : (p : ℕ) → q ≤ p → pushes body n p ≡ false

  module _ (j q x : ℕ) (least : j ≤ q) (test : Expr) (body : Stmt) (fits : Fits j test body) (known : Movable j test body x) where
    abbrev asked : Expr
    asked = moved_in x q n at (first_of x) test

    abbrev inside : Stmt
    inside = moved x q n at (first_of x) body

    pushes-same : pushes inside n ≡ pushes body n
    pushes-same = fun_ext (λ p. moved-pushes x q n p at (first_of x) body)

    past : n < q
    past = let a = fits.iterates in omega (arith, a, least)

    law : SameChange j (alone test body) (in_turn (looped (over body) first_key always (into q x)) (looped (over body) key asked inside))
    law =
        let loop = over body in
        subst (λ f. SameChange j (alone test body) (in_turn f (looped loop key asked inside))) (sym (locals-any loop first_key second_key key x q at known.apart))
        (subst (λ (t : VType). SameChange j (alone test body) (in_turn (looped loop key always (Assign key (T.Property n q at) (Var x at))) (looped loop key (moved_in x q n at (zero_of t) test) (moved x q n at (zero_of t) body)))) known.typed
        (locals-move-beside j loop x q key at test body known.below fits.iterates known.apart least known.deep (fits.quiet q least) fits.reads fits.names known.plain known.moves))

    into-same : looped (over body) first_key always (into q x) ≡ setting q x
    into-same = fun_ext (λ s. own-loop (over body) (pushes (into q x) n) first_key always (into q x) refl s)

    within-same : looped (over body) key asked inside ≡ alone asked inside
    within-same = ap (λ (f : ℕ → Bool). looped (record (over body) { pushed = f }) key asked inside) (sym pushes-same)

    step : SameChange j (alone test body) (in_turn (setting q x) (alone asked inside))
    step =
        subst (λ f. SameChange j (alone test body) (in_turn f (alone asked inside))) into-same
        (subst (λ f. SameChange j (alone test body) (in_turn (looped (over body) first_key always (into q x)) f)) within-same law)

    -- what is known of the rest stays
    fits-still : Fits (suc q) asked inside
    fits-still = record {
      iterates = let a = past in omega (arith, a);
      reads = reads-below x q n at (first_of x) past test (reads-up-to j q least test fits.reads);
      names = names-below-moved x q n at (first_of x) past body (names-up-to j q least body fits.names);
      quiet = λ p l. ap (λ f. f p) pushes-same ∙ fits.quiet p (omega (arith, l, least));
    }

    movable-still : (y : ℕ) → Movable j test body y → Movable (suc q) asked inside y
    movable-still y m =
        let other : nat_eq n y ≡ false = ne_eqb n y (λ e. m.apart (sym e)) in
        record {
          below = let a = m.below in omega (arith, a, least);
          apart = m.apart;
          deep = m.deep;
          typed = m.typed;
          plain = plain-stays x q n at (first_of x) past y other test m.plain;
          moves = subst (λ (f : ℕ → Bool). may_move_beside (record (over body) { pushed = f }) y inside ≡ true) (sym pushes-same)
              (beside-stays x q n at (first_of x) past y other (over body) refl (fits.quiet q least) body m.moves);
        }

    all-movable-still : (ys : List ℕ) → AllMovable j test body ys → AllMovable (suc q) asked inside ys
    all-movable-still [] m = tt
    all-movable-still (y ∷ ys) m = (movable-still y m.0, all-movable-still ys m.1)

  -- what the loops do that keep locals
  abbrev changes : List ℕ → ℕ → Expr → Stmt → Change
  changes [] q test body = alone test body
  changes (x ∷ xs) q test body = in_turn (setting q x) (changes xs (suc q) (moved_in x q n at (first_of x) test) (moved x q n at (first_of x) body))

  changes-same : (xs : List ℕ) (j q : ℕ) → j ≤ q → (test : Expr) (body : Stmt) → Fits j test body → AllMovable j test body xs → SameChange j (alone test body) (changes xs q test body)
  changes-same [] j q least test body fits known s t agree = loop-same j (over body) key test body fits.reads fits.names s t agree
  changes-same (x ∷ xs) j q least test body fits known s t agree =
      let asks = asked j q x least test body fits known.0 in
      let does = inside j q x least test body fits known.0 in
      let behind = changes xs (suc q) asks does in
      let up : j ≤ suc q = omega (arith, least) in
      let rest = changes-same xs (suc q) (suc q) (omega arith) asks does (fits-still j q x least test body fits known.0) (all-movable-still j q x least test body fits known.0 xs known.1) in
      alike-trans j (alone test body s) (in_turn (setting q x) (alone asks does) t) (in_turn (setting q x) behind t)
      (step j q x least test body fits known.0 s t agree) (same-behind j (suc q) up (setting q x) (alone asks does) behind rest t)

  -- the statements do these changes
  row-does : (xs : List ℕ) (q : ℕ) (test : Expr) (body : Stmt) (v : State) → with_value (changes xs q test body v.store) (with_store v) ≡ sequential (sequence (locals_row ds xs q key at h test body)) run v
  row-does [] q test body v = last-do run v (alone test body v.store)
  row-does (x ∷ xs) q test body v =
      let asks = moved_in x q n at (first_of x) test in
      let does = moved x q n at (first_of x) body in
      turns-do (setting q x) (changes xs (suc q) asks does) (sequential (sequence (locals_row ds xs (suc q) key at h asks does)) run) v
      (λ w. row-does xs (suc q) asks does (record v { store = w }))

  changes-do : (xs : List ℕ) (q : ℕ) (test : Expr) (body : Stmt) (v : State) → with_value (changes xs q test body v.store) (with_store v) ≡ sequential (locals_loop ds xs q key at h test body) run v
  changes-do [] q test body v = refl
  changes-do (x ∷ xs) q test body v = row-does (x ∷ xs) q test body v

  locals-alike : (xs : List ℕ) (j q : ℕ) → j ≤ q → (test : Expr) (body : Stmt) → Fits j test body → AllMovable j test body xs → (u v : State) → AlikeStates j u v →
      AlikeCourses j (sequential (Foreach key at h test body) run u) (sequential (locals_loop ds xs q key at h test body) run v)
  locals-alike xs j q least test body fits known u v alike =
      subst (AlikeCourses j (sequential (Foreach key at h test body) run u)) (changes-do xs q test body v)
      (courses-alike j u v (alone test body u.store) (changes xs q test body v.store) (changes-same xs j q least test body fits known u.store v.store alike.store) alike.turns)

  -- from what the loop is known to be, and the test
  module _ (test : Expr) (body : Stmt) (known : KnownLoop ds key at h test body) where
    abbrev k : ℕ
    k = length ds

    below : NamesBelow k (Foreach key at h test body)
    below = names-below ds (Foreach key at h test body) known.named

    fits-first : Fits k test body
    fits-first = record { iterates = below.0; reads = below.2; names = below.3; quiet = λ p l. pushes-fresh k p n l body below.3 }

    local-of : (x : ℕ) → declares x body ≡ true → IsLocal ds n x
    local-of x d =
        let form = both-true (is_flat (n ∷ []) false test) (is_outer_body ds false n body) known.form in
        let r = all-append (suits ds) (uses_of_head h) (uses_in test ++ uses_of body) known.named in
        let q = all-append (suits ds) (uses_in test) (uses_of body) r.1 in
        declared-local ds n x body form.1 q.1 d

    not-iterator : (x : ℕ) → IsLocal ds n x → x ≢ n
    not-iterator x is e =
        let r = all-append (suits ds) (uses_of_head h) (uses_in test ++ uses_of body) known.named in
        let i = all-append (suits ds) (use_as Iterates n) (use_as (owner_role h.domain) h.owner) r.0 in
        never-iterates (variable_at ds n) (use-of ds Iterates n i.0).1 (subst (λ z. may_be_written (variable_at ds z) ≡ true) e is.1.1)

    depth-of : (x : ℕ) → IsLocal ds n x → (over body).depth x ≡ 1
    depth-of x is = ap (λ (w : Variable). w.depth) (same x is.0) ∙ eqb-true (depth_at ds x) 1 is.1.0

    -- each local of the list
    module _ (xs : List ℕ) where
      abbrev May : List ℕ → Type 0
      May ys = list_all (may_keep ds xs n test body) ys ≡ true

      declared-in : (y : ℕ) (ys : List ℕ) → May ys → IsIn y ys → declares y body ≡ true
      declared-in y [] m i = absurd i
      declared-in y (x ∷ ys) m i =
          let r = both-true (may_keep ds xs n test body x) (list_all (may_keep ds xs n test body) ys) m in
          let a = both-true (sort_eq Sorts.Scalar (variable_at ds x).sort) (declares x body && (names_plainly x test && may_move_within xs x n body)) r.0 in
          let b = both-true (declares x body) (names_plainly x test && may_move_within xs x n body) a.1 in
          ⊎_elim (λ (e : y ≡ x). subst (λ z. declares z body ≡ true) (sym e) b.0) (λ j. declared-in y ys r.1 j) i

      mine : May xs → (y : ℕ) → IsIn y xs → ((over body).depth y ≡ 1) × (nat_eq y n ≡ false)
      mine m y i = let is = local-of y (declared-in y xs m i) in (depth-of y is, ne_eqb y n (not-iterator y is))

      movable-first : May xs → (ys : List ℕ) → May ys → AllMovable k test body ys
      movable-first all [] m = tt
      movable-first all (x ∷ ys) m =
          let r = both-true (may_keep ds xs n test body x) (list_all (may_keep ds xs n test body) ys) m in
          let a = both-true (sort_eq Sorts.Scalar (variable_at ds x).sort) (declares x body && (names_plainly x test && may_move_within xs x n body)) r.0 in
          let b = both-true (declares x body) (names_plainly x test && may_move_within xs x n body) a.1 in
          let c = both-true (names_plainly x test) (may_move_within xs x n body) b.1 in
          let is = local-of x b.0 in (
            record {
              below = is.0;
              apart = not-iterator x is;
              deep = depth-of x is;
              typed = ap (λ (w : Variable). w.vtype) (same x is.0);
              plain = c.0;
              moves = within-beside (over body) xs (mine all) x body c.1;
            },
            movable-first all ys r.1,
          )

    -- locals that may all be kept together, in properties from a number on
    pub together-alike : (xs : List ℕ) (q : ℕ) → k ≤ q → May xs xs → (u v : State) → AlikeStates k u v →
        AlikeCourses k (sequential (Foreach key at h test body) run u) (sequential (locals_loop ds xs q key at h test body) run v)
    together-alike xs q least may u v alike = locals-alike xs k q least test body fits-first (movable-first xs may xs may) u v alike

    pub kept-alike : (xs : List ℕ) (u v : State) → AlikeStates k u v → AlikeCourses k (sequential (Foreach key at h test body) run u) (sequential (kept_loop ds xs k key at h test body) run v)
    kept-alike xs u v alike = by (keeps_locals ds xs n test body) refl
      where
        by : (b : Bool) → keeps_locals ds xs n test body ≡ b →
            AlikeCourses k (sequential (Foreach key at h test body) run u) (sequential (cond b (locals_loop ds xs k key at h test body) (Foreach key at h test body)) run v)
        by true e =
            let may = (both-true (holds_cut n body) (list_all (may_keep ds xs n test body) xs) e).1 in
            together-alike xs k (omega arith) may u v alike
        by false e = sequential-alike k (Foreach key at h test body) run u v below alike

-- the loops that keep the locals are written so
pub group-alike : (ds : List Declaration) (run : Run) → ((x : ℕ) → x < length ds → variable_at run.declarations x ≡ variable_at ds x) → (xs : List ℕ) → Rewrites ds run (kept_loop ds xs (length ds))
group-alike ds run same xs key at h test body known u v alike = kept-alike ds run same key at h test body known xs u v alike
