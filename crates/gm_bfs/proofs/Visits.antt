-- The loop over the active nodes does what the search does on a level, and leaves the fresh variables as they are.
use Rattle.std.proofs.Common.{◌≡◌, ◌<◌, ◌≤◌, ℕ, Bool, true, false, cond, List, [], ◌∷◌, ◌++◌, map, refl, sym, ap, subst, ◌∙◌, arith, Option, Some, None, Ok, Err, ⊎_elim, inl}
use Rattle.std.proofs.Math.Path.{fun_ext}
use Rattle.std.specs.Prelude.{◌≢◌, ◌&&◌, ◌||◌, filter, nat_eq}
use Rattle.std.proofs.lemmas.Bool.{both_ways, lt-ltb, eq-eqb}
use Rattle.gm_base.specs.declared.places.Place.{Place}
use Rattle.gm_value.specs.declared.operations.Op2.TheVariants.{Eq}
use Rattle.gm_value.specs.declared.values.Value.TheVariants.{Flag, At}
use Rattle.gm_value.specs.Operations.{is_true, result2}
use Rattle.gm_model.specs.Graphs.{IsGraph, node_count}
use Rattle.gm_ast.specs.declared.tree.Domain.{Domain}
use Rattle.gm_ast.specs.declared.tree.Domain.TheVariants as D
use Rattle.gm_ast.specs.declared.tree.Key.{Key}
use Rattle.gm_ast.specs.Program.{Expr, Property, Stmt, Skip, Then, Declare, DeclareEdge, Assign, Defer, Combine, Group, Foreach, For, If, While, Do, InBfs, InBfsBoth, Return}
use Rattle.gm_semantics.specs.declared.faults.Fault.{Fault}
use Rattle.gm_semantics.specs.declared.slots.Slot.{Slot}
use Rattle.gm_semantics.specs.declared.slots.Slot.TheVariants.{Scalar, Node}
use Rattle.gm_semantics.specs.declared.slots.Write.{Write}
use Rattle.gm_semantics.specs.Faults.{then_with, least, unless_fault, somes, joined}
use Rattle.gm_semantics.specs.Levels.{nodes, node_in, no_levels, is_next}
use Rattle.gm_semantics.specs.Stores.{Store, slot_eq, has_slot, read, write, overlaid}
use Rattle.gm_semantics.specs.Contributions.{Contribution, settled_store, total_faults}
use Rattle.gm_semantics.specs.Expressions.{Answer, node_held, plain, evaluated, value}
use Rattle.gm_semantics.specs.Iterations.{Loop, Iteration, begun, with_ok, one_way, as_it_is, Outermost, view_in, does}
use Rattle.gm_semantics.specs.Laws.{Away}
use Rattle.gm_semantics.specs.Loops.{pushes, iteration, left_at, own_left, parallel}
use Rattle.gm_semantics.specs.Statements.{Run, loop_of}
use Rattle.gm_semantics.specs.Frames.{Agree, ReadsBelow, NamesBelow, SlotBelow, SlotsBelow, GivesBelow, AlikeStores}
use Rattle.gm_semantics.proofs.BodyFrames.{turn-alike, does-alike, EachAlike, each-mapped, outermost-all_below}
use Rattle.gm_semantics.proofs.StatementFrames.{parallel-alike}
use Rattle.gm_semantics.proofs.ContributionLaws.{slot_eq-true, slot_eq-refl}
use Rattle.gm_semantics.proofs.TargetLaws.{never, read-settled, value-away}
use Rattle.gm_forms.specs.Doing.{IsFlat}
use Rattle.gm_forms.proofs.Doings.{fails}
use Rattle.gm_forms.proofs.ReadingFrames.{nat_eq-apart, read-write}
use Rattle.gm_bfs.specs.declared.fresh.Fresh.{Fresh}
use Rattle.gm_bfs.specs.Copies.{is_upward, is_downward, has_range, inner_reading}
use Rattle.gm_bfs.specs.Searches.{conjunction, inner_loop, by_levels}
use Rattle.gm_bfs.proofs.LevelFacts.{in-node}
use Rattle.gm_bfs.proofs.Expressions.{Copied}
use Rattle.gm_bfs.proofs.Kept.{MayLate, EachLate, late-append, MayWrite, Kept, kept-begun, keeps}
use Rattle.gm_bfs.proofs.Dropped.{Quiet, drop-loop}
use Rattle.gm_bfs.proofs.Ranges.{Outer, High, one_way-same, with_ok-same, value-levels, conjunction-true, conjunction-false}
use Rattle.gm_bfs.proofs.Bodies.{body-same}

-- what a body pushes does not depend on what it reads
inner-pushes : (f : Fresh) (marks : List Bool) (w : ℕ) (b : Stmt) (x p : ℕ) → pushes (inner_reading f marks w b) x p ≡ pushes b x p
inner-pushes f marks w Skip x p = refl
inner-pushes f marks w (Then a b) x p = ap (λ c. c || pushes (inner_reading f marks w b) x p) (inner-pushes f marks w a x p) ∙ ap (λ c. pushes a x p || c) (inner-pushes f marks w b x p)
inner-pushes f marks w (Declare key y e) x p = refl
inner-pushes f marks w (DeclareEdge y z at) x p = refl
inner-pushes f marks w (Assign key t e) x p = refl
inner-pushes f marks w (Defer key t e) x p = refl
inner-pushes f marks w (Combine key total r ts es) x p = refl
inner-pushes f marks w (Group key at y q e) x p = refl
inner-pushes f marks w (Foreach key at head test body) x p = refl
inner-pushes f marks w (For key at head test body) x p = refl
inner-pushes f marks w (If key c a b) x p = ap (λ c. c || pushes (inner_reading f marks w b) x p) (inner-pushes f marks w a x p) ∙ ap (λ c. pushes a x p || c) (inner-pushes f marks w b x p)
inner-pushes f marks w (While key at c body) x p = refl
inner-pushes f marks w (Do key at body c) x p = refl
inner-pushes f marks w (InBfs key at search c body) x p = refl
inner-pushes f marks w (InBfsBoth key at search c body back_key d back) x p = refl
inner-pushes f marks w (Return key at e) x p = refl

level-pushes : (f : Fresh) (marks : List Bool) (b : Stmt) (x p : ℕ) → pushes (by_levels f marks b) x p ≡ pushes b x p
level-pushes f marks Skip x p = refl
level-pushes f marks (Then a b) x p = ap (λ c. c || pushes (by_levels f marks b) x p) (level-pushes f marks a x p) ∙ ap (λ c. pushes a x p || c) (level-pushes f marks b x p)
level-pushes f marks (Declare key y e) x p = refl
level-pushes f marks (DeclareEdge y z at) x p = refl
level-pushes f marks (Assign key t e) x p = refl
level-pushes f marks (Defer key t e) x p = refl
level-pushes f marks (Combine key total r ts es) x p = refl
level-pushes f marks (Group key at y q e) x p = refl
level-pushes f marks (Foreach key at head test body) x p = by head.domain
  where
    by : (d : Domain) → pushes (inner_loop f marks key at head test body d) x p ≡ pushes body x p
    by D.Nodes = refl
    by D.OutNbrs = refl
    by D.InNbrs = refl
    by D.UpNbrs = inner-pushes f marks head.iterator body x p
    by D.DownNbrs = inner-pushes f marks head.iterator body x p
level-pushes f marks (For key at head test body) x p = refl
level-pushes f marks (If key c a b) x p = ap (λ c. c || pushes (by_levels f marks b) x p) (level-pushes f marks a x p) ∙ ap (λ c. pushes a x p || c) (level-pushes f marks b x p)
level-pushes f marks (While key at c body) x p = refl
level-pushes f marks (Do key at body c) x p = refl
level-pushes f marks (InBfs key at search c body) x p = refl
level-pushes f marks (InBfsBoth key at search c body back_key d back) x p = refl
level-pushes f marks (Return key at e) x p = refl

pub agree-refl : (k : ℕ) (s : Store) → Agree k s s
agree-refl k s = record { scalar = λ x b. refl; node = λ p n b. refl; edge = λ p e b. refl }

pub agree-trans : (k : ℕ) (s t u : Store) → Agree k s t → Agree k t u → Agree k s u
agree-trans k s t u a b = record { scalar = λ x l. b.scalar x l ∙ a.scalar x l; node = λ p n l. b.node p n l ∙ a.node p n l; edge = λ p e l. b.edge p e l ∙ a.edge p e l }

-- what the loop asks of a search's part
pub record Part (P Q : ℕ → Type 0) (k x : ℕ) (test : Expr) (body : Stmt) : Type 0 where
  pub below : x < k
  pub iterator : P x → ⊥
  pub reads : ReadsBelow k test
  pub flat : IsFlat test
  pub names : NamesBelow k body
  pub outer : Outer x body
  pub may : MayWrite P Q x body

module _ (P Q : ℕ → Type 0) (k : ℕ) (P-below : (y : ℕ) → P y → y < k) (Q-below : (p : ℕ) → Q p → p < k) (f : Fresh) (high : High k f) (marks : List Bool)
    (run : Run) (ok : IsGraph run.graph) (levels : ℕ → Option ℕ) (x : ℕ) (key : Key) (test : Expr) (body : Stmt) (part : Part P Q k x test body) where
  abbrev pub old : Loop
  old = loop_of run levels x body

  abbrev pub new : Loop
  new = loop_of run no_levels x (by_levels f marks body)

  abbrev bare' : Loop
  bare' = record old { levels = no_levels }

  new-is : new ≡ bare'
  new-is = ap (λ (g : ℕ → Bool). record bare' { pushed = g }) (fun_ext (level-pushes f marks body x))

  abbrev pub Tells : Store → ℕ → (ℕ → Bool) → Type 0
  Tells t y next = (m : ℕ) → m < node_count run.graph → result2 Eq (t.node f.level m) (t.scalar y) ≡ Ok (Flag (next m))

  module _ (place : Place) (t : Store) (active : ℕ → Bool) (marked : (n : ℕ) → n < node_count run.graph → t.node f.active n ≡ Flag (active n))
      (copied : (m : ℕ) → m < node_count run.graph → Copied f marks k t m)
      (ups : has_range is_upward body ≡ true → (n : ℕ) → n < node_count run.graph → active n ≡ true → Tells t f.up (λ m. is_next (levels m) (levels n)))
      (downs : has_range is_downward body ≡ true → (n : ℕ) → n < node_count run.graph → active n ≡ true → Tells t f.down (λ m. is_next (levels n) (levels m))) where
    abbrev filter' : Expr
    filter' = conjunction (Property x f.active place) test

    module _ (n : ℕ) (within : n < node_count run.graph) where
      abbrev entered : Store
      entered = write t (Scalar x) (At (Some n))

      abbrev start : Iteration
      start = begun entered

      here : entered.scalar x ≡ At (Some n)
      here = ap (λ c. cond c (At (Some n)) (t.scalar x)) (eq-eqb x x refl)

      stays : (y : ℕ) → k ≤ y → entered.scalar y ≡ t.scalar y
      stays y b = let less = part.below in let other : x ≢ y = λ e. omega arith in ap (λ c. cond c (At (Some n)) (t.scalar y)) (nat_eq-apart x y other)

      active-told : evaluated (Property x f.active place) (view_in bare' Outermost start key) ≡ plain (Ok (Flag (active n)))
      active-told =
          let w = view_in bare' Outermost start key in
          ap (λ v. plain (then_with (node_held w place (node_in run.graph v)) (λ i. Ok (t.node f.active i)))) here
          ∙ ap (λ c. plain (then_with (node_held w place (cond c (Some n) None)) (λ i. Ok (t.node f.active i)))) (lt-ltb n (node_count run.graph) within)
          ∙ ap (λ v. plain (Ok v)) (marked n within)

      tells : (y : ℕ) (next : ℕ → Bool) → k ≤ y → Tells t y next → Tells entered y next
      tells y next b h m less = ap (result2 Eq (t.node f.level m)) (stays y b) ∙ h m less

      on-node : active n ≡ true → iteration bare' key filter' (by_levels f marks body) t n ≡ iteration old key test body t n
      on-node on =
          ap (λ r. with_ok start r (λ v. one_way (is_true v) (does (by_levels f marks body) Outermost bare') as_it_is start))
          (conjunction-true (Property x f.active place) test (view_in bare' Outermost start key) (active-told ∙ ap (λ b. plain (Ok (Flag b))) on)
          ∙ value-levels old no_levels Outermost start key test part.flat)
          ∙ with_ok-same start (value test (view_in old Outermost start key)) _ _ (λ v.
          one_way-same (is_true v) (does (by_levels f marks body) Outermost bare') as_it_is (does body Outermost old) as_it_is start
          (body-same P Q k P-below Q-below f high marks n old part.iterator ok within entered here (λ m less. copied m less) body
          (λ e. tells f.up (λ m. is_next (levels m) (levels n)) high.up (ups e n within on)) (λ e. tells f.down (λ m. is_next (levels n) (levels m)) high.down (downs e n within on))
          part.outer part.names part.may start (kept-begun P Q x n entered)) refl)

      off-node : active n ≡ false → iteration bare' key filter' (by_levels f marks body) t n ≡ start
      off-node out =
          ap (λ r. with_ok start r (λ v. one_way (is_true v) (does (by_levels f marks body) Outermost bare') as_it_is start))
          (conjunction-false (Property x f.active place) test (view_in bare' Outermost start key) (active-told ∙ ap (λ b. plain (Ok (Flag b))) out) (fails (view_in bare' Outermost start key) refl [] (λ y e. absurd (both_ways false refl e)) test part.flat).hoisted)

    -- the loop over all nodes is the search's over the active ones
    visit-same : parallel new key filter' (by_levels f marks body) (nodes run.graph) t ≡ parallel old key test body (filter active (nodes run.graph)) t
    visit-same =
        ap (λ loop. parallel loop key filter' (by_levels f marks body) (nodes run.graph) t) new-is
        ∙ drop-loop active (iteration bare' key filter' (by_levels f marks body) t) (iteration old key test body t) t (nodes run.graph)
        (λ n i on. on-node n (in-node run.graph n i) on)
        (λ n i out. subst Quiet (sym (off-node n (in-node run.graph n i) out)) (record { inner = refl; outermost = refl; deferred = refl; fault = refl }))
        (λ n i out q m e. ap (λ (it : Iteration). it.store.node q m) (off-node n (in-node run.graph n i) out))

    pub visit-alike : (s : Store) → Agree k s t → AlikeStores k (parallel old key test body (filter active (nodes run.graph)) s) (parallel new key filter' (by_levels f marks body) (nodes run.graph) t)
    visit-alike s agree =
        subst (AlikeStores k (parallel old key test body (filter active (nodes run.graph)) s)) (sym visit-same) (parallel-alike k old key test body (filter active (nodes run.graph)) s t part.reads part.names agree)

  -- what a loop leaves of a slot that no iteration writes
  abbrev pub Beyond : Slot → Type 0
  Beyond (Scalar y) = k ≤ y
  Beyond (Node p m) = k ≤ p

  not-below : (slot other : Slot) → Beyond slot → SlotBelow k other → slot_eq slot other ≡ false
  not-below (Scalar y) (Scalar z) b l = nat_eq-apart y z (λ e. omega arith)
  not-below (Scalar y) (Node q m) b l = refl
  not-below (Node p n) (Scalar z) b l = refl
  not-below (Node p n) (Node q m) b l = ap (λ c. c && nat_eq n m) (nat_eq-apart p q (λ e. omega arith))

  none-below : (slot : Slot) (slots : List Slot) → Beyond slot → SlotsBelow k slots → has_slot slot slots ≡ false
  none-below slot [] b l = refl
  none-below slot (other ∷ slots) b l = ap (λ c. c || has_slot slot slots) (not-below slot other b l.0) ∙ none-below slot slots b l.1

  away : (slot : Slot) (cs : List Contribution) → Beyond slot → GivesBelow k cs → Away slot cs
  away slot [] b g c i = absurd i
  away slot (d ∷ cs) b g c i = ⊎_elim (λ (e : c ≡ d). ap (λ (z : Contribution). has_slot slot z.slots) e ∙ none-below slot d.slots b g.0) (λ r. away slot cs b g.1 c r) i

  late-below : (slot : Slot) → MayLate P Q slot → SlotBelow k slot
  late-below (Scalar y) h = P-below y h
  late-below (Node p m) h = Q-below p h

  late-stays : (slot : Slot) (ws : List Write) (s : Store) → Beyond slot → EachLate P Q ws → read (overlaid s ws) slot ≡ read s slot
  late-stays slot [] s b h = refl
  late-stays slot (w ∷ ws) s b h =
      late-stays slot ws (write s w.slot w.value) b h.1
      ∙ read-write s w.slot slot w.value
      ∙ ap (λ c. cond c w.value (read s slot)) (flip (slot_eq w.slot slot) refl)
    where
      flip : (c : Bool) → slot_eq w.slot slot ≡ c → c ≡ false
      flip true e = never (ap (slot_eq slot) (slot_eq-true w.slot slot e) ∙ slot_eq-refl slot) (not-below slot w.slot b (late-below w.slot h.0))
      flip false e = refl

  iteration-kept : (s : Store) (n : ℕ) → Kept P Q x n (write s (Scalar x) (At (Some n))) (iteration old key test body s n)
  iteration-kept s n = by (value test (view_in old Outermost (begun t) key))
    where
      t : Store
      t = write s (Scalar x) (At (Some n))

      by : (r : Answer) → Kept P Q x n t (with_ok (begun t) r (λ v. one_way (is_true v) (does body Outermost old) as_it_is (begun t)))
      by (Ok v) = way (is_true v)
        where
          way : (b : Bool) → Kept P Q x n t (one_way b (does body Outermost old) as_it_is (begun t))
          way true = keeps P Q x n part.iterator old refl body Outermost t (begun t) (ap (λ c. cond c (At (Some n)) (s.scalar x)) (eq-eqb x x refl)) part.may (kept-begun P Q x n t)
          way false = kept-begun P Q x n t
      by (Err e) = record { slots = λ slot. inl refl; inner = tt; deferred = tt }

  left-stays : (s : Store) (ks : List ℕ) (p m : ℕ) → k ≤ p → left_at ks (map (iteration old key test body s) ks) s p m ≡ s.node p m
  left-stays s [] p m b = refl
  left-stays s (n ∷ ks) p m b = by (nat_eq n m) (left-stays s ks p m b)
    where
      own : (iteration old key test body s n).store.node p m ≡ s.node p m
      own = ⊎_elim (λ (e : (iteration old key test body s n).store.node p m ≡ s.node p m). e) (λ may. let l = Q-below p may.0 in absurd (omega arith)) ((iteration-kept s n).slots (Node p m))

      by : (c : Bool) → left_at ks (map (iteration old key test body s) ks) s p m ≡ s.node p m → cond c ((iteration old key test body s n).store.node p m) (left_at ks (map (iteration old key test body s) ks) s p m) ≡ s.node p m
      by true rest = own
      by false rest = rest

  own-stays : (s : Store) (ks : List ℕ) (slot : Slot) → Beyond slot → read (own_left s ks (map (iteration old key test body s) ks)) slot ≡ read s slot
  own-stays s ks (Scalar y) b = refl
  own-stays s ks (Node p m) b = left-stays s ks p m b

  all-late : (s : Store) (ks : List ℕ) → EachLate P Q (joined (map (λ (it : Iteration). it.deferred) (map (iteration old key test body s) ks)))
  all-late s [] = tt
  all-late s (n ∷ ks) = late-append P Q (iteration old key test body s n).deferred _ (iteration-kept s n).deferred (all-late s ks)

  -- the fresh variables are as they were
  pub loop-stays : (s t : Store) (ks : List ℕ) → parallel old key test body ks s ≡ Ok t → (slot : Slot) → Beyond slot → read t slot ≡ read s slot
  loop-stays s t ks e slot b = by (least (somes (map (λ (it : Iteration). it.fault) its) ++ total_faults own cs)) e
    where
      its : List Iteration
      its = map (iteration old key test body s) ks

      own : Store
      own = own_left s ks its

      cs : List Contribution
      cs = joined (map (λ (it : Iteration). it.with_outermost) its)

      ws : List Write
      ws = joined (map (λ (it : Iteration). it.deferred) its)

      alike : EachAlike k its its
      alike = each-mapped k (iteration old key test body s) (iteration old key test body s) ks
          (λ i. turn-alike k old Outermost key test (does body Outermost old) x i s s part.reads (agree-refl k s) (λ a c g. does-alike k body Outermost old a c part.names g))

      by : (o : Option Fault) → unless_fault o (Ok (overlaid (settled_store own cs) ws)) ≡ Ok t → read t slot ≡ read s slot
      by None h =
          let is : overlaid (settled_store own cs) ws ≡ t = cc in
          ap (λ u. read u slot) (sym is)
          ∙ late-stays slot ws (settled_store own cs) b (all-late s ks)
          ∙ read-settled own cs slot ∙ value-away own slot cs (away slot cs b (outermost-all_below k its its alike))
          ∙ own-stays s ks slot b
      by (Some g) h = absurd (cc)

  -- so does the loop over all nodes
  pub visit-stays : (place : Place) (t : Store) (active : ℕ → Bool) (marked : (n : ℕ) → n < node_count run.graph → t.node f.active n ≡ Flag (active n))
      (copied : (m : ℕ) → m < node_count run.graph → Copied f marks k t m)
      (ups : has_range is_upward body ≡ true → (n : ℕ) → n < node_count run.graph → active n ≡ true → Tells t f.up (λ m. is_next (levels m) (levels n)))
      (downs : has_range is_downward body ≡ true → (n : ℕ) → n < node_count run.graph → active n ≡ true → Tells t f.down (λ m. is_next (levels n) (levels m)))
      (u : Store) → parallel new key (conjunction (Property x f.active place) test) (by_levels f marks body) (nodes run.graph) t ≡ Ok u → (slot : Slot) → Beyond slot → read u slot ≡ read t slot
  visit-stays place t active marked copied ups downs u e = loop-stays t u (filter active (nodes run.graph)) (sym (visit-same place t active marked copied ups downs) ∙ e)
