-- An inner loop that stands alone under a filter that cannot fault is the loop of its other end.
use Rattle.std.proofs.Common.{◌≡◌, ℕ, Bool, true, false, cond, List, [], ◌∷◌, ◌++◌, map, refl, sym, ap, subst, ◌∙◌, append-nil, Option, Some, Ok}
use Rattle.std.specs.Prelude.{◌&&◌, ◌||◌, not, nat_eq}
use Rattle.std.proofs.Math.Path.{fun_ext}
use Rattle.std.proofs.lemmas.Bool.{eqb-true, eq-eqb, both_ways}
use Rattle.gm_base.specs.declared.places.Place.{Place}
use Rattle.gm_value.specs.declared.values.Value.{Value}
use Rattle.gm_value.specs.declared.values.Value.TheVariants.{At}
use Rattle.gm_value.specs.Bag.{IsIn, SameBag}
use Rattle.gm_value.proofs.BagLaws.{SameBag-map, SameBag-sym}
use Rattle.gm_model.specs.Graphs.{NumberedGraph, IsGraph, Step, node_count}
use Rattle.gm_ast.specs.declared.tree.Declaration.{Declaration}
use Rattle.gm_ast.specs.declared.tree.Domain.{Domain}
use Rattle.gm_ast.specs.declared.tree.Domain.TheVariants.{Nodes, OutNbrs, InNbrs, UpNbrs, DownNbrs}
use Rattle.gm_ast.specs.declared.tree.Head.{Head}
use Rattle.gm_ast.specs.declared.tree.Key.{Key}
use Rattle.gm_ast.specs.Program.{Expr, always, Both, Stmt, Foreach, Property}
use Rattle.gm_ast.specs.Ways.{is_in}
use Rattle.gm_semantics.specs.declared.faults.Fault.{Fault}
use Rattle.gm_semantics.specs.declared.slots.Slot.TheVariants.{Scalar}
use Rattle.gm_semantics.specs.Stores.{Store, write}
use Rattle.gm_semantics.specs.Levels.{nodes}
use Rattle.gm_semantics.specs.Faults.{least, somes, joined, unless_fault}
use Rattle.gm_semantics.specs.Expressions.{evaluated, value, plain}
use Rattle.gm_semantics.specs.Contributions.{Contribution, settled_store, total_faults}
use Rattle.gm_semantics.specs.Iterations.{Loop, Mode, Iteration, begun, with_ok, one_way, as_it_is, Outermost, AtEdge, view_in, inner_done, turn_at, does}
use Rattle.gm_semantics.specs.Laws.{OneReduction}
use Rattle.gm_semantics.specs.Loops.{iteration, parallel}
use Rattle.gm_semantics.proofs.LeastLaws.{least-same}
use Rattle.gm_semantics.proofs.ContributionLaws.{somes-same, settled_store-same, total_faults-same}
use Rattle.gm_semantics.proofs.OrderLaws.{joined-same}
use Rattle.gm_semantics.proofs.TargetLaws.{never}
use Rattle.gm_forms.specs.Cut.{spares_locals}
use Rattle.gm_forms.specs.Forms.{depth_at, is_range, is_inner_body, avoids, is_flat, is_inner_head, is_outer_body}
use Rattle.gm_forms.specs.Flip.{reversed, flipped_head}
use Rattle.gm_forms.specs.Doing.{EachGiven, IsFlat}
use Rattle.gm_value.specs.Operations.{is_true}
use Rattle.gm_forms.proofs.Doings.{each-in}
use Rattle.gm_loop_laws.proofs.Joins.{map-append, map-compose, map-each, joined-append, filter-whole, filter-nothing}
use Rattle.gm_loop_laws.proofs.Settling.{somes-append}
use Rattle.gm_loop_laws.proofs.Edges.{flipped-bag}
use Rattle.gm_loop_laws.proofs.LoopEnds.{in-joined, loop-ends}
use Rattle.gm_loop_laws.proofs.Locals.{least-parts}
use Rattle.gm_loop_laws.proofs.Splits.{is_late_slot, split}
use Rattle.gm_loop_laws.proofs.Givens.{one-given, flat}
use Rattle.gm_loop_laws.proofs.Alone.{along, gives, faults, steps-at, nodes-below, Stands, avoided-ends-so, ended, ended-store, ended-outermost, ended-fault, stands}
use Rattle.gm_loop_laws.proofs.MaskValues.{mask_value, mask-held, saved-held}
use Rattle.gm_loop_laws.proofs.Masked.{at_outer, is_kept, out_kept, out_kept_faults, out-by, at_both, turn-split, turn_at_edge, turn-given, each-gives, By, RD, out_gives, out_faults, out-one, pulled}
use Rattle.gm_forms.proofs.CutTests.{not-true}
use Rattle.gm_forms.proofs.Named.{both-true}
use Rattle.gm_loop_laws.specs.Alone.{EndsAnywhere, Flipping}
use Rattle.gm_forms.specs.Sharing.{told_in}

-- what turns give, gathered from all of them
pub given-all : (G : Iteration → List Contribution) (f : ℕ → Step → Iteration) (S : ℕ → List Step) (ks : List ℕ) → joined (map (λ x. joined (map (λ e. G (f x e)) (S x))) ks) ≡ joined (map G (joined (map (λ x. map (f x) (S x)) ks)))
given-all G f S [] = refl
given-all G f S (k ∷ ks) =
    let rest = joined (map (λ x. map (f x) (S x)) ks) in
    ap (λ l. joined l ++ joined (map (λ x. joined (map (λ e. G (f x e)) (S x))) ks)) (sym (map-compose G (f k) (S k)))
    ∙ ap (λ l. joined (map G (map (f k) (S k))) ++ l) (given-all G f S ks)
    ∙ sym (ap joined (map-append G (map (f k) (S k)) rest) ∙ joined-append (map G (map (f k) (S k))) (map G rest))

pub faults-all : (F : Iteration → Option Fault) (f : ℕ → Step → Iteration) (S : ℕ → List Step) (ks : List ℕ) → joined (map (λ x. somes (map (λ e. F (f x e)) (S x))) ks) ≡ somes (map F (joined (map (λ x. map (f x) (S x)) ks)))
faults-all F f S [] = refl
faults-all F f S (k ∷ ks) =
    let rest = joined (map (λ x. map (f x) (S x)) ks) in
    ap (λ l. somes l ++ joined (map (λ x. somes (map (λ e. F (f x e)) (S x))) ks)) (sym (map-compose F (f k) (S k)))
    ∙ ap (λ l. somes (map F (map (f k) (S k))) ++ l) (faults-all F f S ks)
    ∙ sym (ap somes (map-append F (map (f k) (S k)) rest) ∙ somes-append (map F (map (f k) (S k))) (map F rest))

-- turns along all edges, from both ends
bag-turns : (d : Domain) (g : NumberedGraph) (f : ℕ → ℕ → ℕ → Iteration) → is_range false d ≡ true → IsGraph g →
    SameBag (joined (map (λ x. map (λ (e : Step). f x e.node e.edge) (along d g x)) (nodes g))) (joined (map (λ y. map (λ (e : Step). f e.node y e.edge) (along (reversed d) g y)) (nodes g)))
bag-turns Nodes g f h is = absurd (both_ways false refl h)
bag-turns OutNbrs g f h is = flipped-bag g f is
bag-turns InNbrs g f h is = SameBag-sym (flipped-bag g (λ a b e. f b a e) is)
bag-turns UpNbrs g f h is = absurd (both_ways false refl h)
bag-turns DownNbrs g f h is = absurd (both_ways false refl h)

reversed-range : (d : Domain) → is_range false d ≡ true → is_range false (reversed d) ≡ true
reversed-range Nodes h = h
reversed-range OutNbrs h = refl
reversed-range InNbrs h = refl
reversed-range UpNbrs h = h
reversed-range DownNbrs h = h

each-weaken : (Q R : Contribution → Type 0) → ((c : Contribution) → Q c → R c) → (cs : List Contribution) → EachGiven Q cs → EachGiven R cs
each-weaken Q R f [] h = tt
each-weaken Q R f (c ∷ cs) h = (f c h.0, each-weaken Q R f cs h.1)

module _ (ds : List Declaration) (some : List ℕ) (loop : Loop) (depths : (y : ℕ) → loop.depth y ≡ depth_at ds y) (known : (p : ℕ) → is_in some p ≡ true → loop.pushed p ≡ true)
    (mask : Expr) (held : ℕ → Value) (key k : Key) (here there : Place) (h : Head) (test : Expr) (body : Stmt) (s : Store) (saved : (x : ℕ) → IsIn x (nodes loop.graph) → (mode : Mode) (it : Iteration) (j : Key) → it.store.scalar loop.outer ≡ At (Some x) → it.store.node ≡ s.node → ((y : ℕ) → nat_eq loop.outer y ≡ false → nat_eq h.iterator y ≡ false → it.store.scalar y ≡ s.scalar y) → evaluated mask (view_in loop mode it j) ≡ plain (Ok (held x))) (apart : nat_eq h.iterator loop.outer ≡ false) (owner : h.owner ≡ loop.outer) (range : is_range false h.domain ≡ true)
    (flat-test : IsFlat test) (its : List ℕ) (inner-body : is_inner_body ds its true body ≡ true) (alone : Stands ds some loop.outer body)
    (others : ℕ → Bool) (away : avoids h.iterator body ≡ true) (spares : spares_locals ds body ≡ true) (is : IsGraph loop.graph) where
  abbrev n : ℕ
  n = loop.outer

  abbrev t : ℕ
  t = h.iterator

  abbrev g : NumberedGraph
  g = loop.graph

  abbrev ks : List ℕ
  ks = nodes g

  abbrev every : ℕ → Bool
  every p = true

  abbrev edge_turn : ℕ → ℕ → ℕ → Iteration
  edge_turn x y e = turn_at_edge ds some loop depths known mask held key k here h test body s saved apart owner range flat-test its inner-body alone x y e

  abbrev other : Loop
  other = record loop { outer = t; pushed = others }

  abbrev filter' : Expr
  filter' = Both mask test

  abbrev flipped : Stmt
  flipped = Foreach k there (flipped_head n h) filter' body

  abbrev at_inner : ℕ → Store
  at_inner y = write s (Scalar t) (At (Some y))

  inner-held : (y : ℕ) → (at_inner y).scalar t ≡ At (Some y)
  inner-held y = ap (λ b. cond b (At (Some y)) (s.scalar t)) (eq-eqb t t refl)

  -- the two iterators are written in either order
  commute : (x y : ℕ) → write (at_inner y) (Scalar n) (At (Some x)) ≡ at_both loop mask held key k h test body s saved apart x y
  commute x y = ap (λ f. record s { scalar = f }) (fun_ext (λ z. by z (nat_eq n z) (nat_eq t z) refl refl))
    where
      by : (z : ℕ) (b c : Bool) → nat_eq n z ≡ b → nat_eq t z ≡ c → cond b (At (Some x)) (cond c (At (Some y)) (s.scalar z)) ≡ cond c (At (Some y)) (cond b (At (Some x)) (s.scalar z))
      by z true true d e = never (eq-eqb t n (eqb-true t z e ∙ sym (eqb-true n z d))) apart
      by z true false d e = refl
      by z false true d e = refl
      by z false false d e = refl

  abbrev in_turn : ℕ → Step → Iteration
  in_turn y e = edge_turn e.node y e.edge

  abbrev in_gives : ℕ → List Contribution
  in_gives y = gives (in_turn y) (along (reversed h.domain) g y)

  abbrev in_faults : ℕ → List Fault
  in_faults y = faults (in_turn y) (along (reversed h.domain) g y)

  abbrev in_all : List Contribution
  in_all = joined (map in_gives ks)

  abbrev given_by : ℕ → Contribution → Type 0
  given_by x c = By ds some loop depths known mask held key k here h test body s saved apart owner range flat-test its inner-body alone x c

  abbrev Some_by : Contribution → Type 0
  Some_by c = (x : ℕ) × given_by x c

  in-by : (y : ℕ) (c : Contribution) → IsIn c (in_gives y) → Some_by c
  in-by y c i =
      each-in Some_by (in_gives y) c
      (each-gives ds some loop depths known mask held key k here h test body s saved apart owner range flat-test its inner-body alone Some_by (in_turn y) (along (reversed h.domain) g y)
      (λ e. each-weaken (given_by e.node) Some_by (λ c q. (e.node, q)) (in_turn y e).with_outermost (turn-given ds some loop depths known mask held key k here h test body s saved apart owner range flat-test its inner-body alone e.node y e.edge))) i

  abbrev run_other : ℕ → Iteration
  run_other y = iteration other key always flipped s y

  turn-other : (y : ℕ) (e : Step) → turn_at other (AtEdge e.edge) k filter' (does body (AtEdge e.edge) other) n e.node (at_inner y) ≡ split loop t others every (in_turn y e)
  turn-other y e =
      ap (λ st. with_ok (begun st) (value filter' (view_in loop (AtEdge e.edge) (begun st) k)) (λ v. one_way (is_true v) (does body (AtEdge e.edge) other) as_it_is (begun st))) (commute e.node y)
      ∙ turn-split loop mask held key k h test body s saved apart t others every (avoided-ends-so loop t others body away) (at_both loop mask held key k h test body s saved apart e.node y) e.edge (value filter' (view_in loop (AtEdge e.edge) (begun (at_both loop mask held key k h test body s saved apart e.node y)) k))

  run-other : (y : ℕ) → IsIn y ks → run_other y ≡ ended loop t others every (at_inner y) (in_turn y) (along (reversed h.domain) g y)
  run-other y i =
      ap (λ l. inner_done (begun (at_inner y)) (map (λ step. turn_at other (AtEdge step.edge) k filter' (does body (AtEdge step.edge) other) n step.node (at_inner y)) l))
      (steps-at (flipped_head n h) (view_in other Outermost (begun (at_inner y)) k) t y refl (inner-held y) (nodes-below g y i) (reversed-range h.domain range))
      ∙ ap (inner_done (begun (at_inner y))) (map-each _ (λ e. split loop t others every (in_turn y e)) (along (reversed h.domain) g y) (λ e j. turn-other y e))

  -- the flipped loop is what all its edges give
  pushed : parallel other key always flipped ks s ≡ unless_fault (least (joined (map in_faults ks) ++ total_faults s in_all)) (Ok (settled_store s in_all))
  pushed =
      loop-ends s (node_count g) (is_late_slot loop.depth every) at_inner in_gives in_faults
      (record {
        owns = λ y c i f. never ((in-by y c i).1.late spares) f;
        one = λ c d slot i j a b.
            let p = in-joined c in_gives ks i in
            let q = in-joined d in_gives ks j in
            let u = in-by p.0 c p.2 in
            let v = in-by q.0 d q.2 in
            one-given ds loop depths some loop.pushed known (RD ds some loop depths known mask held key k here h test body s saved apart owner range flat-test its inner-body alone) (spares_locals ds body ≡ true) alone.one u.0 v.0 c d slot u.1 v.1 a b;
        begins = λ y. refl;
      })
      run_other
      (record {
        node = λ y i p. ap (λ it. it.store.node p y) (run-other y i) ∙ ap (λ t. t.node p y) (ended-store loop t others every (at_inner y) (in_turn y) (along (reversed h.domain) g y));
        outermost = λ y i. ap (λ it. it.with_outermost) (run-other y i) ∙ ended-outermost loop t others every (at_inner y) (in_turn y) (along (reversed h.domain) g y);
        deferred = λ y i. ap (λ it. it.deferred) (run-other y i);
        fault = λ y i. ap (λ it. it.fault) (run-other y i) ∙ ended-fault loop t others every (at_inner y) (in_turn y) (along (reversed h.domain) g y);
      })

  abbrev outs_faults : ℕ → List Fault
  outs_faults x = out_faults ds some loop depths known mask held key k here h test body s saved apart owner range flat-test its inner-body alone x

  abbrev outs_gives : ℕ → List Contribution
  outs_gives x = out_gives ds some loop depths known mask held key k here h test body s saved apart owner range flat-test its inner-body alone x

  abbrev outs : List Contribution
  outs = joined (map outs_gives ks)

  kept : (x : ℕ) (c : Contribution) → IsIn c (outs_gives x) → is_kept ds some loop depths known mask held key k here h test body s saved apart owner range flat-test its inner-body alone c ≡ true
  kept x c i = (out-by ds some loop depths known mask held key k here h test body s saved apart owner range flat-test its inner-body alone x c i).late spares

  -- no local is reduced, so nothing is left out
  pulled-whole : parallel loop key mask (Foreach k here h test body) ks s ≡ unless_fault (least (joined (map outs_faults ks) ++ total_faults s outs)) (Ok (settled_store s outs))
  pulled-whole =
      pulled ds some loop depths known mask held key k here h test body s saved apart owner range flat-test its inner-body alone
      ∙ ap (λ l. unless_fault (least (joined l ++ total_faults s (joined (map (out_kept ds some loop depths known mask held key k here h test body s saved apart owner range flat-test its inner-body alone) ks)))) (Ok (settled_store s (joined (map (out_kept ds some loop depths known mask held key k here h test body s saved apart owner range flat-test its inner-body alone) ks)))))
      (map-each (out_kept_faults ds some loop depths known mask held key k here h test body s saved apart owner range flat-test its inner-body alone) outs_faults ks
      (λ x i. ap (λ l. outs_faults x ++ total_faults (at_outer loop mask held key k h test body s saved apart x) l) (filter-nothing (λ c. not (is_kept ds some loop depths known mask held key k here h test body s saved apart owner range flat-test its inner-body alone c)) (outs_gives x) (λ c j. ap not (kept x c j))) ∙ append-nil (outs_faults x)))
      ∙ ap (λ l. unless_fault (least (joined (map outs_faults ks) ++ total_faults s (joined l))) (Ok (settled_store s (joined l))))
      (map-each (out_kept ds some loop depths known mask held key k here h test body s saved apart owner range flat-test its inner-body alone) outs_gives ks (λ x i. filter-whole (is_kept ds some loop depths known mask held key k here h test body s saved apart owner range flat-test its inner-body alone) (outs_gives x) (kept x)))

  turns : SameBag (joined (map (λ x. map (λ (e : Step). edge_turn x e.node e.edge) (along h.domain g x)) ks)) (joined (map (λ y. map (λ (e : Step). edge_turn e.node y e.edge) (along (reversed h.domain) g y)) ks))
  turns = bag-turns h.domain g edge_turn range is

  same-given : SameBag outs in_all
  same-given =
      subst (λ l. SameBag l in_all) (sym (given-all (λ it. it.with_outermost) (λ x e. edge_turn x e.node e.edge) (along h.domain g) ks))
      (subst (λ l. SameBag (joined (map (λ it. it.with_outermost) (joined (map (λ x. map (λ (e : Step). edge_turn x e.node e.edge) (along h.domain g x)) ks)))) l) (sym (given-all (λ it. it.with_outermost) in_turn (along (reversed h.domain) g) ks))
      (joined-same (λ (it : Iteration). it.with_outermost) turns))

  same-faults : SameBag (joined (map outs_faults ks)) (joined (map in_faults ks))
  same-faults =
      subst (λ l. SameBag l (joined (map in_faults ks))) (sym (faults-all (λ it. it.fault) (λ x e. edge_turn x e.node e.edge) (along h.domain g) ks))
      (subst (λ l. SameBag (somes (map (λ it. it.fault) (joined (map (λ x. map (λ (e : Step). edge_turn x e.node e.edge) (along h.domain g x)) ks)))) l) (sym (faults-all (λ it. it.fault) in_turn (along (reversed h.domain) g) ks))
      (somes-same (SameBag-map (λ (it : Iteration). it.fault) turns)))

  one-outs : OneReduction outs
  one-outs c d slot i j a b =
      let p = in-joined c outs_gives ks i in
      let q = in-joined d outs_gives ks j in
      out-one ds some loop depths known mask held key k here h test body s saved apart owner range flat-test its inner-body alone c d p.0 q.0 p.2 q.2 slot a b

  -- the loop of the other end is the loop
  pub flips : parallel other key always flipped ks s ≡ parallel loop key mask (Foreach k here h test body) ks s
  flips =
      pushed
      ∙ ap (λ o. unless_fault o (Ok (settled_store s in_all)))
      (sym (least-parts (joined (map outs_faults ks)) (total_faults s outs) (joined (map in_faults ks)) (total_faults s in_all) (least-same same-faults) (total_faults-same s one-outs same-given)))
      ∙ ap (λ t. unless_fault (least (joined (map outs_faults ks) ++ total_faults s outs)) (Ok t)) (sym (settled_store-same s one-outs same-given))
      ∙ sym pulled-whole

-- an outer body that is one inner loop
pub record Lone (ds : List Declaration) (n : ℕ) (h : Head) (test : Expr) (body : Stmt) : Type 0 where
  pub apart : nat_eq h.iterator n ≡ false
  pub owner : h.owner ≡ n
  pub range : is_range false h.domain ≡ true
  pub test_flat : IsFlat test
  pub test_reads : is_flat (n ∷ h.iterator ∷ []) true test ≡ true
  pub inner : is_inner_body ds (n ∷ h.iterator ∷ []) true body ≡ true

pub lone : (ds : List Declaration) (n : ℕ) (k : Key) (here : Place) (h : Head) (test : Expr) (body : Stmt) → is_outer_body ds false n (Foreach k here h test body) ≡ true → Lone ds n h test body
lone ds n k here h test body o =
    let a = both-true (is_inner_head false n h) (is_flat (n ∷ h.iterator ∷ []) true test && is_inner_body ds (n ∷ h.iterator ∷ []) true body) o in
    let b = both-true (is_range false h.domain) (nat_eq h.owner n && not (nat_eq h.iterator n)) a.0 in
    let c = both-true (nat_eq h.owner n) (not (nat_eq h.iterator n)) b.1 in
    let d = both-true (is_flat (n ∷ h.iterator ∷ []) true test) (is_inner_body ds (n ∷ h.iterator ∷ []) true body) a.1 in
    record {
      apart = not-true (nat_eq h.iterator n) c.1;
      owner = eqb-true h.owner n c.0;
      range = b.0;
      test_flat = flat (n ∷ h.iterator ∷ []) true test d.0;
      test_reads = d.0;
      inner = d.1;
    }

-- the law of flipped loops
pub flipping-holds : Flipping
flipping-holds = λ ds some loop others key k here there h mask test body s is knows o masks out away spares alone.
    let l = lone ds loop.outer k here h test body o in
    flips ds some loop knows.depth (λ p e. knows.pushed_is p ∙ e) mask (mask_value loop key mask s) key k here there h test body s (mask-held loop key h.iterator mask s masks (not-true (is_in (told_in mask) h.iterator) out)) l.apart l.owner l.range l.test_flat (loop.outer ∷ h.iterator ∷ []) l.inner (stands ds some loop.outer body alone) others away spares is

-- and that of where reductions end
pub ends-anywhere : EndsAnywhere
ends-anywhere = λ ds some other loop others m key k at here h test body s knows knows_other o alone alone_other.
    let l = lone ds loop.outer k here h test body o in
    let n = loop.outer in
    pulled ds other (record loop { pushed = others }) knows_other.depth (λ p e. knows_other.pushed_is p ∙ e) (Property n m at) (s.node m) key k here h test body s (saved-held (record loop { pushed = others }) h.iterator m at s) l.apart l.owner l.range l.test_flat (n ∷ h.iterator ∷ []) l.inner (stands ds other n body alone_other)
    ∙ sym (pulled ds some loop knows.depth (λ p e. knows.pushed_is p ∙ e) (Property n m at) (s.node m) key k here h test body s (saved-held loop h.iterator m at s) l.apart l.owner l.range l.test_flat (n ∷ h.iterator ∷ []) l.inner (stands ds some n body alone))
