-- A turn of an inner loop, and one that evaluates a part of it again.
use Rattle.std.proofs.Common.{◌≡◌, arith, ℕ, zero, suc, Bool, true, false, cond, List, [], ◌∷◌, ◌++◌, refl, sym, ap, subst, ◌∙◌, append-nil, Option, Some, None, Result, Ok, Err, ⊎_elim, inr}
use Rattle.std.specs.Prelude.{◌&&◌, not, nat_lt}
use Rattle.std.specs.List.{list_all}
use Rattle.std.proofs.lemmas.Bool.{lt-ltb, both_ways}
use Rattle.gm_value.specs.declared.values.Value.{Value}
use Rattle.gm_value.specs.declared.reductions.Reduce.{Reduce}
use Rattle.gm_value.specs.Operations.{is_true}
use Rattle.gm_ast.specs.declared.tree.Declaration.{Declaration}
use Rattle.gm_ast.specs.declared.tree.Key.{Key}
use Rattle.gm_ast.specs.declared.tree.TotalKey.{TotalKey}
use Rattle.gm_ast.specs.declared.tree.Target.{Target}
use Rattle.gm_ast.specs.declared.tree.Target.TheVariants as T
use Rattle.gm_ast.specs.Ways.{is_in}
use Rattle.gm_ast.specs.Program.{Expr, Stmt, Skip, Then, Declare, DeclareEdge, Assign, Defer, Combine, Group, Foreach, For, If, While, Do, InBfs, InBfsBoth, Return}
use Rattle.gm_semantics.specs.declared.faults.Fault.{Fault}
use Rattle.gm_semantics.specs.declared.slots.Slot.{Slot}
use Rattle.gm_semantics.specs.declared.slots.Slot.TheVariants.{Scalar}
use Rattle.gm_semantics.specs.Stores.{read}
use Rattle.gm_semantics.specs.Expressions.{View, settled, evaluated, evaluated_all, value}
use Rattle.gm_semantics.specs.Iterations.{Loop, Mode, AtEdge, Iteration, unless_failed, go_on, with_ok, one_way, view_in, assigned, assigned_all, at_once, wrote, wrote_all, contribution, gave_outermost, ends_of_all, reduced, does}
use Rattle.gm_forms.specs.Forms.{depth_at, is_inner_body}
use Rattle.gm_forms.specs.Sharing.{are_at_once}
use Rattle.gm_forms.specs.Reading.{TargetGood, OwnerGood, HeldGood, EachTarget, ReducesGood, StepsGood, Agrees, Follows}
use Rattle.gm_forms.proofs.Named.{both-true}
use Rattle.gm_forms.proofs.ReadingFrames.{evaluated-good, does-follows}
use Rattle.gm_loop_laws.specs.Masks.{spares}
use Rattle.gm_loop_laws.specs.Slices.{spares_target}
use Rattle.gm_loop_laws.specs.Inner.{quiet, is_reached, reads_none}
use Rattle.gm_loop_laws.proofs.Splits.{ends_late, is_once, is_deep, ends_by, late-ends}
use Rattle.gm_loop_laws.proofs.Kept.{Untouched}
use Rattle.gm_loop_laws.proofs.Masks.{not-in}
use Rattle.gm_loop_laws.proofs.Slices.{reads-kept, off-iterator, target-kept, held-kept, each-kept, all-kept}

module _ (ds : List Declaration) (loop : Loop) (depths : (y : ℕ) → loop.depth y ≡ depth_at ds y) (gone its : List ℕ) (z e : ℕ) (here : is_in its loop.outer ≡ true) where
  abbrev n : ℕ
  n = loop.outer

  abbrev late : Loop
  late = ends_late loop

  abbrev mode : Mode
  mode = AtEdge e

  abbrev Good : Slot → Type 0
  Good = Untouched gone

  keep : (slot : Slot) → Untouched gone slot → Good slot
  keep slot h = h

  -- an iteration that gave, and one that did not
  pub record Quieter (i j : Iteration) : Type 0 where
    pub agree : Agrees Good i.store j.store
    pub follows : Follows Good n z i.store j.store i.with_outermost i j
    pub nothing : j.with_outermost ≡ []

  deep-once : (d : ℕ) → is_deep d ≡ nat_lt 1 d
  deep-once zero = refl
  deep-once (suc zero) = refl
  deep-once (suc (suc d)) = sym (lt-ltb 1 (suc (suc d)) (omega arith))

  once-same : (ts : List Target) → list_all (is_once loop.depth) ts ≡ are_at_once ds n true ts
  once-same [] = refl
  once-same (T.Scalar y at ∷ ts) = ap (λ b. b && list_all (is_once loop.depth) ts) (deep-once (loop.depth y) ∙ ap (nat_lt 1) (depths y)) ∙ ap (λ b. nat_lt 1 (depth_at ds y) && b) (once-same ts)
  once-same (T.Property y p at ∷ ts) = refl

  pub ends-once : (ts : List Target) → ends_of_all mode late ts ≡ ends_by (are_at_once ds n true ts) true
  ends-once ts = late-ends loop n loop.pushed loop.pushed e ts ∙ ap (λ b. ends_by b true) (once-same ts)

  -- what reads none of the variables reads others
  reached-good : (t : Target) → is_reached gone its t ≡ true → TargetGood Good n z t
  reached-good (T.Scalar y at) h = off-iterator gone Good keep n z its y here h
  reached-good (T.Property y p at) h = keep (Scalar y) (not-in gone y h)

  reached-node : (t : Target) → is_reached gone its t ≡ true → OwnerGood Good n z t
  reached-node (T.Scalar y at) h = tt
  reached-node (T.Property y p at) h = keep (Scalar y) (not-in gone y h)

  each-reached : (ts : List Target) → list_all (is_reached gone its) ts ≡ true → EachTarget Good n z (OwnerGood Good n z) ts
  each-reached [] h = tt
  each-reached (t ∷ ts) h = let r = both-true (is_reached gone its t) (list_all (is_reached gone its) ts) h in (reached-node t r.0, each-reached ts r.1)

  steps-good : (s : Stmt) → is_inner_body ds its true s ≡ true → reads_none ds n gone its s ≡ true → StepsGood Good n z s mode late
  steps-good Skip g h = tt
  steps-good (Then a b) g h =
      let o = both-true (is_inner_body ds its true a) (is_inner_body ds its true b) g in
      let r = both-true (reads_none ds n gone its a) (reads_none ds n gone its b) h in
      (steps-good a o.0 r.0, steps-good b o.1 r.1)
  steps-good (Declare k y None) g h = (off-iterator gone Good keep n z its y here (both-true (not (is_in its y)) true h).0, tt)
  steps-good (Declare k y (Some e)) g h = let r = both-true (not (is_in its y)) (spares gone e) h in (off-iterator gone Good keep n z its y here r.0, reads-kept gone Good keep n z e r.1)
  steps-good (DeclareEdge y w at) g h = tt
  steps-good (Assign k t e) g h = let r = both-true (is_reached gone its t) (spares gone e) h in (reached-good t r.0, reads-kept gone Good keep n z e r.1)
  steps-good (Defer k t e) g h = absurd (both_ways false refl g)
  steps-good (Combine k total r ts es) g h =
      let o = both-true (list_all (cond (are_at_once ds n true ts) (spares_target gone its) (is_reached gone its)) ts) (list_all (spares gone) es) h in
      subst (λ e. ReducesGood Good n z e ts es) (sym (ends-once ts)) (by (are_at_once ds n true ts) o.0 o.1)
    where
      by : (b : Bool) → list_all (cond b (spares_target gone its) (is_reached gone its)) ts ≡ true → list_all (spares gone) es ≡ true → ReducesGood Good n z (ends_by b true) ts es
      by true p q =
          (each-kept gone Good keep n z (TargetGood Good n z) its ts (λ t k. target-kept gone Good keep n z its t here k) p, each-kept gone Good keep n z (HeldGood Good n z) its ts (λ t k. held-kept gone Good keep n z its t k) p, all-kept gone Good keep n z es q)
      by false p q = (each-reached ts p, all-kept gone Good keep n z es q)
  steps-good (Group k at y p v) g h = absurd (both_ways false refl g)
  steps-good (Foreach k at head test body) g h = absurd (both_ways false refl g)
  steps-good (For k at head test body) g h = absurd (both_ways false refl g)
  steps-good (If k c a b) g h =
      let o1 = both-true _ (is_inner_body ds its true a && is_inner_body ds its true b) g in
      let o = both-true (is_inner_body ds its true a) (is_inner_body ds its true b) o1.1 in
      let r = both-true (spares gone c) (reads_none ds n gone its a && reads_none ds n gone its b) h in
      let s = both-true (reads_none ds n gone its a) (reads_none ds n gone its b) r.1 in
      (reads-kept gone Good keep n z c r.0, steps-good a o.0 s.0, steps-good b o.1 s.1)
  steps-good (While k at c body) g h = absurd (both_ways false refl g)
  steps-good (Do k at body c) g h = absurd (both_ways false refl g)
  steps-good (InBfs k at head c body) g h = absurd (both_ways false refl g)
  steps-good (InBfsBoth k at head c body back_key d back) g h = absurd (both_ways false refl g)
  steps-good (Return k at v) g h = absurd (both_ways false refl g)

  -- what both do
  both-do : (s : Stmt) → is_inner_body ds its true s ≡ true → reads_none ds n gone its s ≡ true → ((it : Iteration) → (does s mode late it).with_outermost ≡ it.with_outermost) → (i j : Iteration) → Quieter i j → Quieter (does s mode late i) (does s mode late j)
  both-do s g h still i j q =
      let f = does-follows Good n z s mode late i.store j.store i.with_outermost i j (steps-good s g h) q.agree q.follows in
      let none : (does s mode late j).with_outermost ≡ [] = still j ∙ q.nothing in
      record {
        agree = record {
          at = λ slot good. ⊎_elim (λ (c : read (does s mode late j).store slot ≡ read (does s mode late i).store slot). c)
              (λ (c : (read (does s mode late i).store slot ≡ read i.store slot) × (read (does s mode late j).store slot ≡ read j.store slot)). c.1 ∙ q.agree.at slot good ∙ sym c.0) (f.slots slot);
          edge = f.edge;
        };
        follows = record {
          slots = λ slot. inr (refl, refl);
          edge = f.edge;
          iterator = f.iterator;
          with_inner = f.with_inner;
          with_outermost = sym (ap (λ l. (does s mode late i).with_outermost ++ l) none ∙ append-nil (does s mode late i).with_outermost);
          deferred = f.deferred;
          fault = f.fault;
          inner_good = f.inner_good;
        };
        nothing = none;
      }

  still-ok : {A : Type 0} (it : Iteration) (r : Result A Fault) (f : A → Iteration) → ((v : A) → (f v).with_outermost ≡ it.with_outermost) → (with_ok it r f).with_outermost ≡ it.with_outermost
  still-ok it (Ok v) f h = h v
  still-ok it (Err g) f h = refl

  -- a reduction that is done at once, and one that is not
  combine-quieter : (k : Key) (total : TotalKey) (r : Reduce) (ts : List Target) (es : List Expr) (i j : Iteration) → is_inner_body ds its true (Combine k total r ts es) ≡ true → reads_none ds n gone its (quiet ds n (Combine k total r ts es)) ≡ true → (does (Combine k total r ts es) mode late i).fault ≡ None → i.fault ≡ None → Quieter i j →
      Quieter (does (Combine k total r ts es) mode late i) (does (quiet ds n (Combine k total r ts es)) mode late j)
  combine-quieter k total r ts es i j g h fine fresh q = by (are_at_once ds n true ts) refl h
    where
      w : View
      w = view_in late mode i k

      given : (x : Result (List Slot × List Value) Fault) → (with_ok i x (λ p. gave_outermost i (contribution total r p))).fault ≡ None → Quieter (with_ok i x (λ p. gave_outermost i (contribution total r p))) j
      given (Ok p) f =
          let l = q.follows in
          record {
            agree = q.agree;
            nothing = q.nothing;
            follows = record {
              slots = λ slot. inr (refl, refl);
              edge = l.edge;
              iterator = l.iterator;
              with_inner = l.with_inner;
              with_outermost = sym (ap (λ l. (i.with_outermost ++ contribution total r p ∷ []) ++ l) q.nothing ∙ append-nil (i.with_outermost ++ contribution total r p ∷ []));
              deferred = l.deferred;
              fault = l.fault;
              inner_good = l.inner_good;
            };
          }
      given (Err g) f = absurd (cc)

      by : (b : Bool) → are_at_once ds n true ts ≡ b → reads_none ds n gone its (cond b (Combine k total r ts es) Skip) ≡ true → Quieter (does (Combine k total r ts es) mode late i) (does (cond b (Combine k total r ts es) Skip) mode late j)
      by true c h = both-do (Combine k total r ts es) g h (λ it.
          ap (λ d. (reduced d (view_in late mode it k) it total r ts es).with_outermost) (ends-once ts ∙ ap (λ b. ends_by b true) c) ∙ still-ok it (at_once (view_in late mode it k) total.place r ts es) (wrote_all it) (λ p. refl)) i j q
      by false c h =
          let ends = ends-once ts ∙ ap (λ b. ends_by b true) c in
          subst (λ d. Quieter (reduced d (view_in late mode i k) i total r ts es) j) (sym ends)
          (given (assigned_all (view_in late mode i k) ts (evaluated_all es (view_in late mode i k))) (sym (ap (λ d. (reduced d (view_in late mode i k) i total r ts es).fault) ends) ∙ fine))

  quieter-way : (v : Bool) (f g f' g' : Iteration → Iteration) (i j : Iteration) → ((f i).fault ≡ None → Quieter (f i) (f' j)) → ((g i).fault ≡ None → Quieter (g i) (g' j)) → (one_way v f g i).fault ≡ None → Quieter (one_way v f g i) (one_way v f' g' j)
  quieter-way true f g f' g' i j p q h = p h
  quieter-way false f g f' g' i j p q h = q h

  -- what a part does without a fault, its quiet form does but for what it gives
  pub quieter : (s : Stmt) (i j : Iteration) → is_inner_body ds its true s ≡ true → reads_none ds n gone its (quiet ds n s) ≡ true → (does s mode late i).fault ≡ None → i.fault ≡ None → Quieter i j → Quieter (does s mode late i) (does (quiet ds n s) mode late j)
  quieter Skip i j g h fine fresh q = q
  quieter (Then s r) i j g h fine fresh q =
      let o = both-true (is_inner_body ds its true s) (is_inner_body ds its true r) g in
      let u = both-true (reads_none ds n gone its (quiet ds n s)) (reads_none ds n gone its (quiet ds n r)) h in
      by (does s mode late i) (does (quiet ds n s) mode late j) (does s mode late i).fault refl fine (λ d. quieter s i j o.0 u.0 d fresh q) (λ d f l. quieter r (does s mode late i) (does (quiet ds n s) mode late j) o.1 u.1 f d l)
    where
      by : (a b : Iteration) (x : Option Fault) → a.fault ≡ x → (unless_failed x a (does r mode late)).fault ≡ None → (a.fault ≡ None → Quieter a b) → (a.fault ≡ None → (does r mode late a).fault ≡ None → Quieter a b → Quieter (does r mode late a) (does (quiet ds n r) mode late b)) →
          Quieter (unless_failed x a (does r mode late)) (go_on b (does (quiet ds n r) mode late))
      by a b (Some f) d fine first second = let none : Some f ≡ None = sym d ∙ fine in absurd (cc)
      by a b None d fine first second =
          let l = first d in
          subst (λ x. Quieter (does r mode late a) (unless_failed x b (does (quiet ds n r) mode late))) (sym (l.follows.fault ∙ d)) (second d fine l)
  quieter (Declare k y None) i j g h fine fresh q = both-do (Declare k y None) g h (λ it. refl) i j q
  quieter (Declare k y (Some v)) i j g h fine fresh q = both-do (Declare k y (Some v)) g h (λ it. still-ok it (value v (view_in late mode it k)) _ (λ v. refl)) i j q
  quieter (DeclareEdge y w at) i j g h fine fresh q = q
  quieter (Assign k t v) i j g h fine fresh q = both-do (Assign k t v) g h (λ it. still-ok it (assigned (view_in late mode it k) t (evaluated v (view_in late mode it k))) (wrote it) (λ v. refl)) i j q
  quieter (Defer k t v) i j g h fine fresh q = absurd (both_ways false refl g)
  quieter (Combine k total r ts es) i j g h fine fresh q = combine-quieter k total r ts es i j g h fine fresh q
  quieter (Group k at y p v) i j g h fine fresh q = absurd (both_ways false refl g)
  quieter (Foreach k at head test body) i j g h fine fresh q = absurd (both_ways false refl g)
  quieter (For k at head test body) i j g h fine fresh q = absurd (both_ways false refl g)
  quieter (If k c s r) i j g h fine fresh q =
      let o1 = both-true _ (is_inner_body ds its true s && is_inner_body ds its true r) g in
      let o = both-true (is_inner_body ds its true s) (is_inner_body ds its true r) o1.1 in
      let u1 = both-true (spares gone c) (reads_none ds n gone its (quiet ds n s) && reads_none ds n gone its (quiet ds n r)) h in
      let u = both-true (reads_none ds n gone its (quiet ds n s)) (reads_none ds n gone its (quiet ds n r)) u1.1 in
      let same : value c (view_in late mode j k) ≡ value c (view_in late mode i k) = ap settled (evaluated-good Good n z (view_in late mode i k) j.store q.agree q.follows.iterator c (reads-kept gone Good keep n z c u1.0)) in
      subst (λ x. Quieter (does (If k c s r) mode late i) (with_ok j x (λ v. one_way (is_true v) (does (quiet ds n s) mode late) (does (quiet ds n r) mode late) j))) (sym same)
      (by (value c (view_in late mode i k)) fine (λ d. quieter s i j o.0 u.0 d fresh q) (λ d. quieter r i j o.1 u.1 d fresh q))
    where
      by : (x : Result Value Fault) → (with_ok i x (λ v. one_way (is_true v) (does s mode late) (does r mode late) i)).fault ≡ None →
          ((does s mode late i).fault ≡ None → Quieter (does s mode late i) (does (quiet ds n s) mode late j)) → ((does r mode late i).fault ≡ None → Quieter (does r mode late i) (does (quiet ds n r) mode late j)) →
          Quieter (with_ok i x (λ v. one_way (is_true v) (does s mode late) (does r mode late) i)) (with_ok j x (λ v. one_way (is_true v) (does (quiet ds n s) mode late) (does (quiet ds n r) mode late) j))
      by (Ok v) f p q = quieter-way (is_true v) (does s mode late) (does r mode late) (does (quiet ds n s) mode late) (does (quiet ds n r) mode late) i j p q f
      by (Err g) f p q = absurd (cc)
  quieter (While k at c body) i j g h fine fresh q = absurd (both_ways false refl g)
  quieter (Do k at body c) i j g h fine fresh q = absurd (both_ways false refl g)
  quieter (InBfs k at head c body) i j g h fine fresh q = absurd (both_ways false refl g)
  quieter (InBfsBoth k at head c body back_key d back) i j g h fine fresh q = absurd (both_ways false refl g)
  quieter (Return k at v) i j g h fine fresh q = absurd (both_ways false refl g)

  -- and what stands behind it does the same
  pub behind-quieter : (s r : Stmt) (i j : Iteration) → is_inner_body ds its true s ≡ true → is_inner_body ds its true r ≡ true → reads_none ds n gone its (quiet ds n s) ≡ true → reads_none ds n gone its r ≡ true → (does s mode late i).fault ≡ None → i.fault ≡ None → Quieter i j →
      ((does (Then s r) mode late i).fault ≡ (does (Then (quiet ds n s) r) mode late j).fault) × ((does (Then s r) mode late i).with_outermost ≡ (does s mode late i).with_outermost ++ (does (Then (quiet ds n s) r) mode late j).with_outermost)
  behind-quieter s r i j g gr h u fine fresh q =
      let l = quieter s i j g h fine fresh q in
      let a = does s mode late i in
      let b = does (quiet ds n s) mode late j in
      let f = does-follows Good n z r mode late a.store b.store a.with_outermost a b (steps-good r gr u) l.agree l.follows in
      let first : does (Then s r) mode late i ≡ does r mode late a = ap (λ x. unless_failed x a (does r mode late)) fine in
      let second : does (Then (quiet ds n s) r) mode late j ≡ does r mode late b = ap (λ x. unless_failed x b (does r mode late)) (l.follows.fault ∙ fine) in (
        ap (λ (x : Iteration). x.fault) first ∙ sym f.fault ∙ sym (ap (λ (x : Iteration). x.fault) second),
        ap (λ (x : Iteration). x.with_outermost) first ∙ f.with_outermost ∙ sym (ap (λ (x : Iteration). a.with_outermost ++ x.with_outermost) second),
      )
