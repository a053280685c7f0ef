-- One turn of a reduction's loop gives what the element puts into the bag.
use Rattle.std.proofs.Common.{◌≡◌, ℕ, Bool, true, false, List, [], ◌∷◌, map, refl, sym, ap, ◌∙◌, Option, Some, None, Result, Ok, Err}
use Rattle.std.specs.Prelude.{pos, nat_eq, if◌then◌else◌}
use Rattle.std.proofs.lemmas.Bool.{both_ways, eqb-true}
use Rattle.gm_value.specs.declared.reductions.Reduce.{Reduce}
use Rattle.gm_value.specs.declared.reductions.Reduce.TheVariants as R
use Rattle.gm_value.specs.declared.values.Value.{Value}
use Rattle.gm_value.specs.declared.values.Value.TheVariants.{I32, At}
use Rattle.gm_value.specs.Numbers.{value_at}
use Rattle.gm_value.specs.Operations.{is_true}
use Rattle.gm_ast.specs.declared.surface.ReductionWord.{ReductionWord}
use Rattle.gm_ast.specs.declared.surface.ReductionWord.TheVariants as W
use Rattle.gm_ast.specs.declared.tree.Fold.{Fold}
use Rattle.gm_ast.specs.declared.tree.Key.{Key}
use Rattle.gm_ast.specs.declared.tree.Stage.{Stage}
use Rattle.gm_ast.specs.declared.tree.Stage.TheVariants as S
use Rattle.gm_ast.specs.declared.tree.Target.TheVariants as T
use Rattle.gm_ast.specs.declared.tree.TotalKey.{TotalKey}
use Rattle.gm_ast.specs.Keys.{stage_rank}
use Rattle.gm_ast.specs.Program.{Expr, Const, Combine}
use Rattle.gm_semantics.specs.declared.faults.Fault.{Fault}
use Rattle.gm_semantics.specs.declared.slots.Slot.TheVariants.{Scalar}
use Rattle.gm_semantics.specs.Stores.{Store, write}
use Rattle.gm_semantics.specs.Faults.{first, then_with, unless_fault}
use Rattle.gm_semantics.specs.Expressions.{Answer, View, Evaluated, element, members_of, reduce_of, settled, both, evaluated, value}
use Rattle.gm_semantics.specs.Iterations.{Loop, Iteration, AtEdge, AtOnce, WithInner, begun, failed, with_ok, one_way, as_it_is, view_in, alone, ends_of_all, later, scalar_ends, gave_inner, contribution, reduced, turn_at, does}
use Rattle.gm_semantics.proofs.SingleLaws.{assigned-alone}
use Rattle.gm_forms.specs.Doing.{IsFlat, Held}
use Rattle.gm_forms.proofs.Doings.{fails}
use Rattle.gm_forms.proofs.Named.{both-true}
use Rattle.gm_desugar.specs.Conditions.{nowhere}
use Rattle.gm_reductions.proofs.Closing.{gives}
use Rattle.gm_hoisting.specs.Hoisting.{key_eq, joins, passing, adds, giving}
use Rattle.gm_hoisting.proofs.Lent.{lent}

abbrev pub OkOrFault : Type 0
OkOrFault = Result (List Value) Fault

-- an iteration that gives what an element puts into the bag, or ends with its fault
abbrev pub gave : ReductionWord → Fold → ℕ → Iteration → OkOrFault → Iteration
gave word f x start (Err e) = failed start e
gave word f x start (Ok vs) = record start { with_inner = map (λ v. gives f.total (reduce_of word) x (lent word f.vtype v)) vs }

-- keys that are one
stages-one : (a b : Stage) → nat_eq (stage_rank a) (stage_rank b) ≡ true → a ≡ b
stages-one S.Inner S.Inner h = refl
stages-one S.Inner S.Operator h = absurd (both_ways false refl h)
stages-one S.Inner S.Total h = absurd (both_ways false refl h)
stages-one S.Operator S.Inner h = absurd (both_ways false refl h)
stages-one S.Operator S.Operator h = refl
stages-one S.Operator S.Total h = absurd (both_ways false refl h)
stages-one S.Total S.Inner h = absurd (both_ways false refl h)
stages-one S.Total S.Operator h = absurd (both_ways false refl h)
stages-one S.Total S.Total h = refl

pub keys-one : (a b : Key) → key_eq a b ≡ true → a ≡ b
keys-one a b h =
    let q = both-true (nat_eq a.statement b.statement) (nat_eq (stage_rank a.stage) (stage_rank b.stage)) h in
    ap (λ n. let k : Key = record { statement = n; stage = a.stage } in k) (eqb-true a.statement b.statement q.0)
    ∙ ap (λ s. let k : Key = record { statement = b.statement; stage = s } in k) (stages-one a.stage b.stage q.1)

alone-settled : (x : ℕ) (h : Option Fault) (r : Answer) →
    alone (unless_fault h (then_with r (λ v. Ok (Scalar x, v)))) ≡ then_with (unless_fault h r) (λ v. Ok (Scalar x ∷ [], v ∷ []))
alone-settled x (Some e) r = refl
alone-settled x None (Ok v) = refl
alone-settled x None (Err e) = refl

-- of no iterators each holds a node
none-held : (w : View) → Held w.graph [] w.store
none-held w y h = absurd (both_ways false refl h)

-- `&&` of parts that hoist nothing
both-settled : (a b : Evaluated) → a.hoisted ≡ None → b.hoisted ≡ None → settled (both a b) ≡ then_with (settled a) (λ v. if is_true v then settled b else Ok v)
both-settled a b p q =
    ap (λ o. unless_fault o (then_with a.rest (λ v. if is_true v then b.rest else Ok v))) (ap (λ o. first o b.hoisted) p ∙ q)
    ∙ ap (λ o. then_with a.rest (λ v. if is_true v then unless_fault o b.rest else Ok v)) (sym q)
    ∙ ap (λ o. then_with (unless_fault o a.rest) (λ v. if is_true v then settled b else Ok v)) (sym p)

module _ (x : ℕ) (loop : Loop) (inside : loop.depth x ≡ 1) (d : ℕ) where
  -- the total ends with the inner loop
  ends-inner : ends_of_all (AtEdge d) loop (T.Scalar x nowhere ∷ []) ≡ WithInner
  ends-inner = ap (λ m. later (scalar_ends (AtEdge d) m) AtOnce) inside

  -- a contribution of a value, or its fault
  combine-does : (s : Store) (key : Key) (total : TotalKey) (r : Reduce) (e : Expr) →
      does (Combine key total r (T.Scalar x nowhere ∷ []) (e ∷ [])) (AtEdge d) loop (begun s) ≡ with_ok (begun s) (value e (view_in loop (AtEdge d) (begun s) key)) (λ v. gave_inner (begun s) (gives total r x v))
  combine-does s key total r e =
      let w = view_in loop (AtEdge d) (begun s) key in
      ap (λ ends. reduced ends w (begun s) total r (T.Scalar x nowhere ∷ []) (e ∷ [])) ends-inner
      ∙ ap (λ q. with_ok (begun s) q (λ p. gave_inner (begun s) (contribution total r p))) (assigned-alone w (T.Scalar x nowhere) e ∙ alone-settled x (evaluated e w).hoisted (evaluated e w).rest)
      ∙ by (value e w)
    where
      by : (q : Answer) → with_ok (begun s) (then_with q (λ v. Ok (Scalar x ∷ [], v ∷ []))) (λ p. gave_inner (begun s) (contribution total r p)) ≡ with_ok (begun s) q (λ v. gave_inner (begun s) (gives total r x v))
      by (Ok v) = refl
      by (Err g) = refl

  module _ (f : Fold) (test e : Expr) (flat-test : IsFlat test) (flat-body : IsFlat e) (s : Store) where
    abbrev start : Iteration
    start = begun s

    abbrev seen : Key → View
    seen key = view_in loop (AtEdge d) start key

    abbrev body : Bool → ReductionWord → Iteration → Iteration
    body joined word = does (giving joined word x f e) (AtEdge d) loop

    -- a turn behind its filter
    abbrev turned : Bool → ReductionWord → Iteration
    turned joined word = with_ok start (value (passing joined test e) (seen f.filter)) (λ v. one_way (is_true v) (body joined word) as_it_is start)

    abbrev Gives : Bool → ReductionWord → Type 0
    Gives joined word = turned joined word ≡ gave word f x start (element word (value test (seen f.filter)) (value e (seen f.body)))

    -- the filter asks, then the body
    behind-filter : (word : ReductionWord) → body false word start ≡ gave word f x start (then_with (value e (seen f.body)) (λ v. Ok (members_of word v))) → Gives false word
    behind-filter word does-so = by (value test (seen f.filter))
      where
        pass : (b : Bool) → one_way b (body false word) as_it_is start ≡ gave word f x start (if b then then_with (value e (seen f.body)) (λ v. Ok (members_of word v)) else Ok [])
        pass true = does-so
        pass false = refl

        by : (q : Answer) → with_ok start q (λ v. one_way (is_true v) (body false word) as_it_is start) ≡ gave word f x start (element word q (value e (seen f.body)))
        by (Err g) = refl
        by (Ok p) = pass (is_true p)

    -- any reduction but a count
    value-does : (word : ReductionWord) → ((v : Value) → members_of word v ≡ v ∷ []) → ((v : Value) → lent word f.vtype v ≡ v) →
        does (Combine f.body f.total (reduce_of word) (T.Scalar x nowhere ∷ []) (e ∷ [])) (AtEdge d) loop start ≡ gave word f x start (then_with (value e (seen f.body)) (λ v. Ok (members_of word v)))
    value-does word members same = combine-does s f.body f.total (reduce_of word) e ∙ by (value e (seen f.body))
      where
        by : (q : Answer) → with_ok start q (λ v. gave_inner start (gives f.total (reduce_of word) x v)) ≡ gave word f x start (then_with q (λ v. Ok (members_of word v)))
        by (Ok v) = sym (ap (λ vs. gave word f x start (Ok vs)) (members v) ∙ ap (λ u. gave_inner start (gives f.total (reduce_of word) x u)) (same v))
        by (Err g) = refl

    -- a count
    abbrev added : Iteration → Iteration
    added = does (adds x f) (AtEdge d) loop

    one : (b : Bool) → one_way b added as_it_is start ≡ gave W.Count f x start (Ok (if b then I32 (pos 1) ∷ [] else []))
    one true = combine-does s f.body f.total R.Sum (Const (value_at f.vtype (pos 1)))
    one false = refl

    count-does : body false W.Count start ≡ gave W.Count f x start (then_with (value e (seen f.body)) (λ v. Ok (members_of W.Count v)))
    count-does = by (value e (seen f.body))
      where
        by : (q : Answer) → with_ok start q (λ v. one_way (is_true v) added as_it_is start) ≡ gave W.Count f x start (then_with q (λ v. Ok (members_of W.Count v)))
        by (Ok v) = one (is_true v)
        by (Err g) = refl

    -- a count whose braces stand in the filter
    count-joined : key_eq f.filter f.body ≡ true → Gives true W.Count
    count-joined same =
        let p = fails (seen f.filter) refl [] (none-held (seen f.filter)) test flat-test in
        let q = fails (seen f.filter) refl [] (none-held (seen f.filter)) e flat-body in
        ap (λ r. with_ok start r (λ v. one_way (is_true v) added as_it_is start)) (both-settled (evaluated test (seen f.filter)) (evaluated e (seen f.filter)) p.hoisted q.hoisted)
        ∙ ap (λ k. with_ok start (then_with (value test (seen f.filter)) (λ v. if is_true v then value e (seen k) else Ok v)) (λ v. one_way (is_true v) added as_it_is start)) (keys-one f.filter f.body same)
        ∙ by (value test (seen f.filter)) (value e (seen f.body))
      where
        asked : (q : Answer) → with_ok start q (λ v. one_way (is_true v) added as_it_is start) ≡ gave W.Count f x start (then_with q (λ v. Ok (members_of W.Count v)))
        asked (Ok v) = one (is_true v)
        asked (Err g) = refl

        pass : (p : Value) (q : Answer) (b : Bool) → is_true p ≡ b →
            with_ok start (if b then q else Ok p) (λ v. one_way (is_true v) added as_it_is start) ≡ gave W.Count f x start (if b then then_with q (λ v. Ok (members_of W.Count v)) else Ok [])
        pass p q true h = asked q
        pass p q false h = ap (λ b. one_way b added as_it_is start) h

        by : (p q : Answer) → with_ok start (then_with p (λ v. if is_true v then q else Ok v)) (λ v. one_way (is_true v) added as_it_is start) ≡ gave W.Count f x start (element W.Count p q)
        by (Err g) q = refl
        by (Ok p) q = pass p q (is_true p) refl

    not-joined : (word : ReductionWord) → Gives false word → (j : Bool) → false ≡ j → Gives j word
    not-joined word h false e = h
    not-joined word h true e = absurd (both_ways false refl (sym (sym e)))

    turned-gives : (word : ReductionWord) (j : Bool) → joins word f ≡ j → Gives j word
    turned-gives W.Count true h = count-joined h
    turned-gives W.Count false h = behind-filter W.Count count-does
    turned-gives W.Sum j h = not-joined W.Sum (behind-filter W.Sum (value-does W.Sum (λ v. refl) (λ v. refl))) j h
    turned-gives W.Product j h = not-joined W.Product (behind-filter W.Product (value-does W.Product (λ v. refl) (λ v. refl))) j h
    turned-gives W.Min j h = not-joined W.Min (behind-filter W.Min (value-does W.Min (λ v. refl) (λ v. refl))) j h
    turned-gives W.Max j h = not-joined W.Max (behind-filter W.Max (value-does W.Max (λ v. refl) (λ v. refl))) j h
    turned-gives W.Exist j h = not-joined W.Exist (behind-filter W.Exist (value-does W.Exist (λ v. refl) (λ v. refl))) j h
    turned-gives W.All j h = not-joined W.All (behind-filter W.All (value-does W.All (λ v. refl) (λ v. refl))) j h

  -- a turn at a node
  pub turn-gives : (f : Fold) (test e : Expr) → IsFlat test → IsFlat e → (i n : ℕ) (s : Store) →
      let begins = begun (write s (Scalar i) (At (Some n))) in
      turn_at loop (AtEdge d) f.filter (passing (joins f.word f) test e) (does (giving (joins f.word f) f.word x f e) (AtEdge d) loop) i n s
      ≡ gave f.word f x begins (element f.word (value test (view_in loop (AtEdge d) begins f.filter)) (value e (view_in loop (AtEdge d) begins f.body)))
  turn-gives f test e p q i n s = turned-gives f test e p q (write s (Scalar i) (At (Some n))) f.word (joins f.word f) refl
