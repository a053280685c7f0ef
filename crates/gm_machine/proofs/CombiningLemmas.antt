-- The step of a vertex takes the messages of each combinable kind by their total.
use Rattle.std.proofs.Common.{inl, inr, ◌≡◌, ◌≢◌, ◌<◌, ◌≤◌, ◌+◌, ℕ, zero, suc, ℤ, true, cond, nat_eq, Option, Some, None, Result, Ok, Err, List, [], ◌∷◌, ◌++◌, map, find, length, refl, sym, ap, subst, ◌∙◌, arith, ⊎_elim}
use Rattle.std.specs.Prelude.{◌⊎◌, ◌==◌, ◌&&◌, ◌||◌, Bool, false, IsTrue, slice_get, slice_index_or}
use Rattle.std.specs.Option.{option_and_then}
use Rattle.std.specs.List.{list_all, list_any, flat_map, range_with_len, enumerate_from}
use Rattle.std.proofs.lemmas.Bool.{and_parts, cases_eq, eq-eqb, ne_eqb, eqb-true}
use Rattle.std.proofs.lemmas.List.{map-append}
use Rattle.std.proofs.lemmas.List.Concat.{flat_map-append}
use Rattle.std.proofs.lemmas.List.Elements.{filter-append}
use Rattle.gm_value.specs.declared.values.VType.{VType}
use Rattle.gm_value.specs.declared.values.Value.{Value}
use Rattle.gm_value.specs.declared.reductions.Reduce.{Reduce}
use Rattle.gm_value.specs.declared.reductions.Reduce.TheVariants as reduce
use Rattle.gm_value.specs.Bag.{SameBag, same_nil, same_cons, same_trans}
use Rattle.gm_value.specs.Numbers.{number_of, type_of, zero_of, checked}
use Rattle.gm_value.specs.Reductions.{combined, unit_of, total}
use Rattle.gm_value.specs.Tuples.{first_or}
use Rattle.gm_value.proofs.TakingLaws.{taken-bags}
use Rattle.gm_image.specs.Parts.{is_among}
use Rattle.gm_value.specs.Taking.{of_rank, then_take, at_rank, taken_bag, taken}
use Rattle.gm_value.proofs.BagLaws.{SameBag-sym, SameBag-filter, SameBag-map, SameBag-folded}
use Rattle.gm_value.proofs.MonoidLaws.{combined_assoc, combined_comm, combined_exchange}
use Rattle.gm_image.specs.declared.rules.ImageRule.TheVariants.{I8}
use Rattle.gm_image.specs.declared.images.Kind.{Kind}
use Rattle.gm_image.specs.Term as T
use Rattle.gm_image.specs.Program.{Program, Block, Handler, Line, Fold}
use Rattle.gm_image.specs.Rows.{Row, Plain, HandlerRow, block_rows, handlers_rows, handler_rows, handled_lines, body_rows, outside}
use Rattle.gm_image.specs.Folds.{Reduction, same_numbers, same_reduce, is_its_value, is_combining, combines, handles, of_other_kinds}
use Rattle.gm_image.specs.Soundness.{keeps, keeps_all, image_rules, is_sound}
use Rattle.gm_machine.specs.declared.faults.Fault.{Fault}
use Rattle.gm_machine.specs.Faults.{lesser, least_from, then_go}
use Rattle.gm_machine.specs.Taking.{Contribution, has_slot, first_reduction, to_target, closed, overflow_at, entry_of, slot_by, slot_after, value_or, fault_of, value_after, fault_after, settled, Settled}
use Rattle.gm_machine.specs.Expressions.{value, values, value_at}
use Rattle.gm_machine.specs.Vertex.{Message, VertexContext, VertexState, After, goes_on, lines_after, ended, handler_lines, lines_of, handler_run, gathered, begun, body_after, vertex_after}
use Rattle.gm_machine.specs.Machine.{block_at, no_block}
use Rattle.gm_machine.specs.Settling.{answer_of, are_some}
use Rattle.gm_machine.specs.Laws.{SameStep, LinesFoldBy, HandlersFoldBy}
use Rattle.gm_machine.proofs.LeastLaws.{lesser-assoc, least_right, least_from-right, least-permuted}
use Rattle.gm_machine.proofs.SoundHandlers.{all_front, all_back, all_first, all_rest, all_at, blocks_pass}
use Rattle.gm_machine.proofs.SoundFolds.{reduction_in, same_reduce-is, sound-folds}
use Rattle.gm_machine.specs.Combining.{combiner, carried, of_kind, more_exact, exact_of, SameTotal, SameKind, SameInboxes}
use Rattle.gm_machine.proofs.BagLemmas.{same_as, SameBag-both, flat_map-permuted, flat_map-map, map-map, flat-loses, flat-none}
use Rattle.gm_machine.proofs.OrderLaws.{AreBy, lines-by, handler-by, runs-by, first-by, slot-among, any-permuted, closed-bags, map-each, idle, goes-permuted}
use Rattle.gm_machine.proofs.SameTotals.{joined, total_of, joined-alike, closes-alike, never-none, none-never, totals-as}
use Rattle.gm_machine.proofs.SingleSteps.{firsts_of, closed_first, in_list, taken-single}

pub exact-append : (r : Reduce) (xs ys : List Value) → exact_of r (xs ++ ys) ≡ joined r (exact_of r xs) (exact_of r ys)
exact-append r [] ys = refl
exact-append r (v ∷ xs) ys = ap (λ o. Some (more_exact r (number_of v) o)) (exact-append r xs ys) ∙ by (exact_of r xs) (exact_of r ys) where
  by : (x y : Option ℤ) → Some (more_exact r (number_of v) (joined r x y)) ≡ joined r (Some (more_exact r (number_of v) x)) y
  by None None = refl
  by None (Some b) = refl
  by (Some a) None = refl
  by (Some a) (Some b) = ap Some (sym (combined_assoc r (number_of v) a b))

exact-permuted : (r : Reduce) {xs ys : List Value} → SameBag xs ys → exact_of r xs ≡ exact_of r ys
exact-permuted r = SameBag-folded (exact_of r) (λ v o. Some (more_exact r (number_of v) o)) (λ v rest. refl) (λ v w o. by (number_of v) (number_of w) o) where
  by : (a b : ℤ) (o : Option ℤ) → Some (more_exact r a (Some (more_exact r b o))) ≡ Some (more_exact r b (Some (more_exact r a o)))
  by a b None = ap Some (combined_comm r a b)
  by a b (Some e) = ap Some (combined_exchange r a b e)

total-exact : (r : Reduce) (t : VType) (bag : List Value) → total r t bag ≡ total_of r t (exact_of r bag)
total-exact r t [] = refl
total-exact r t (v ∷ bag) = ap (combined r (number_of v)) (total-exact r t bag) ∙ by (exact_of r bag) where
  by : (o : Option ℤ) → combined r (number_of v) (total_of r t o) ≡ combined r (more_exact r (number_of v) o) (unit_of r t)
  by None = refl
  by (Some e) = sym (combined_assoc r (number_of v) e (unit_of r t))

-- a closing of one slot takes its contributions by their exact total
bag-same : (r : Reduce) (s : ℕ) (held : Value) (cs ds : List Contribution) → SameTotal r (exact_of r (firsts_of held cs)) (exact_of r (firsts_of held ds)) →
    taken_bag (closed_first r) s held cs ≡ taken_bag (closed_first r) s held ds
bag-same r s held [] [] e = refl
bag-same r s held [] (d ∷ ds) e = absurd (never-none r (more_exact r (number_of (first_or held d.values)) (exact_of r (firsts_of held ds))) e)
bag-same r s held (c ∷ cs) [] e = absurd (none-never r (more_exact r (number_of (first_or held c.values)) (exact_of r (firsts_of held cs))) e)
bag-same r s held (c ∷ cs) (d ∷ ds) e =
    let some : List Value = firsts_of held (c ∷ cs) in
    let other : List Value = firsts_of held (d ∷ ds) in
    ap (λ a. at_rank s (answer_of a)) (
    ap (λ z. checked (type_of held) (combined r (number_of held) z)) (total-exact r (type_of held) some)
    ∙ closes-alike r (type_of held) (number_of held) (exact_of r some) (exact_of r other) e
    ∙ ap (λ z. checked (type_of held) (combined r (number_of held) z)) (sym (total-exact r (type_of held) other)))

taken-each : {C V : Type 0} (rank : C → ℕ) (close : V → List C → Option V) (n : ℕ) (held : V) (cs ds : List C) →
    ((s : ℕ) (v : V) → taken_bag close s v (of_rank rank s cs) ≡ taken_bag close s v (of_rank rank s ds)) → taken rank close n held cs ≡ taken rank close n held ds
taken-each rank close zero held cs ds same = refl
taken-each rank close (suc n) held cs ds same =
    ap (λ r. then_take r (λ v. taken_bag close n v (of_rank rank n cs))) (taken-each rank close n held cs ds same)
    ∙ each (taken rank close n held ds)
  where
    each : (r : Result _ ℕ) → then_take r (λ v. taken_bag close n v (of_rank rank n cs)) ≡ then_take r (λ v. taken_bag close n v (of_rank rank n ds))
    each (Ok v) = same n v
    each (Err e) = refl

and-off : (b : Bool) → b && false ≡ false
and-off true = refl
and-off false = refl

or-off : (b : Bool) → b || false ≡ b
or-off true = refl
or-off false = refl

-- messages by their kinds
abbrev top : List Message → ℕ
top [] = 0
top (m ∷ ms) = suc (m.kind + top ms)

abbrev AreBelow : ℕ → List Message → Type 0
AreBelow n [] = Unit {0}
AreBelow n (m ∷ ms) = (m.kind < n) × AreBelow n ms

below-top : (ms : List Message) (n : ℕ) → top ms ≤ n → AreBelow n ms
below-top [] n h = tt
below-top (m ∷ ms) n h = (omega (arith, h), below-top ms n (omega (arith, h)))

kind-same : (m : Message) (ms : List Message) (k : ℕ) → k ≡ m.kind → of_kind k (m ∷ ms) ≡ m ∷ of_kind k ms
kind-same m ms k is = ap (λ b. cond b (m ∷ of_kind k ms) (of_kind k ms)) (eq-eqb m.kind k (sym is))

kind-other : (m : Message) (ms : List Message) (k : ℕ) → k ≢ m.kind → of_kind k (m ∷ ms) ≡ of_kind k ms
kind-other m ms k differs = ap (λ b. cond b (m ∷ of_kind k ms) (of_kind k ms)) (ne_eqb m.kind k (λ e. differs (sym e)))

split-kinds : (n : ℕ) (ms : List Message) → AreBelow n ms → SameBag ms (flat_map (λ k. of_kind k ms) (range_with_len 0 n))
split-kinds n [] all = same_as (sym (flat-none (λ k. of_kind k []) 0 n (λ k low high. refl)))
split-kinds n (m ∷ ms) all =
    same_trans
    (same_cons m (split-kinds n ms all.1))
    (flat-loses (λ k. of_kind k (m ∷ ms)) (λ k. of_kind k ms) m.kind (λ k other. sym (kind-other m ms k other)) (m ∷ []) 0 n (sym (kind-same m ms m.kind refl)) (omega arith) (omega (arith, all.0)))

-- what is made of messages kind by kind, and does the same
module _ {X : Type 0} (Alike : X → X → Type 0) (own : (x : X) → Alike x x) (f : List Message → X) (op : X → X → X) (joins : (xs ys : List Message) → f (xs ++ ys) ≡ op (f xs) (f ys))
    (both : (x y z u : X) → Alike x y → Alike z u → Alike (op x z) (op y u)) where
  rows-alike : (u v : ℕ → List Message) (a n : ℕ) → ((k : ℕ) → Alike (f (u k)) (f (v k))) → Alike (f (flat_map u (range_with_len a n))) (f (flat_map v (range_with_len a n)))
  rows-alike u v a zero same = own (f [])
  rows-alike u v a (suc n) same =
      let us : List Message = flat_map u (range_with_len (a + 1) n) in
      let vs : List Message = flat_map v (range_with_len (a + 1) n) in
      subst (λ x. Alike x (f (v a ++ vs))) (sym (joins (u a) us))
      (subst (λ y. Alike (op (f (u a)) (f us)) y) (sym (joins (v a) vs)) (both (f (u a)) (f (v a)) (f us) (f vs) (same a) (rows-alike u v (a + 1) n same)))

  alike-by-kinds : ((xs ys : List Message) → SameBag xs ys → f xs ≡ f ys) → (ms ns : List Message) → ((k : ℕ) → Alike (f (of_kind k ms)) (f (of_kind k ns))) → Alike (f ms) (f ns)
  alike-by-kinds bags ms ns same =
      let n : ℕ = top ms + top ns in
      let some : List Message = flat_map (λ k. of_kind k ms) (range_with_len 0 n) in
      let other : List Message = flat_map (λ k. of_kind k ns) (range_with_len 0 n) in
      subst (λ x. Alike x (f ns)) (sym (bags ms some (split-kinds n ms (below-top ms n (omega arith)))))
      (subst (λ y. Alike (f some) y) (sym (bags ns other (split-kinds n ns (below-top ns n (omega arith))))) (rows-alike (λ k. of_kind k ms) (λ k. of_kind k ns) 0 n same))

-- and what is the same
by-kinds : {X : Type 0} (f : List Message → X) (op : X → X → X) (joins : (xs ys : List Message) → f (xs ++ ys) ≡ op (f xs) (f ys)) →
    ((xs ys : List Message) → SameBag xs ys → f xs ≡ f ys) → (ms ns : List Message) → ((k : ℕ) → f (of_kind k ms) ≡ f (of_kind k ns)) → f ms ≡ f ns
by-kinds f op joins = alike-by-kinds (λ x y. x ≡ y) (λ x. refl) f op joins (λ x y z u p q. ap (λ a. op a z) p ∙ ap (op y) q)

-- lists that are made of messages kind by kind
module _ {B : Type 0} (h : Message → List B) where
  lists-same : (u v : ℕ → List Message) (a n : ℕ) → ((k : ℕ) → SameBag (flat_map h (u k)) (flat_map h (v k))) → SameBag (flat_map h (flat_map u (range_with_len a n))) (flat_map h (flat_map v (range_with_len a n)))
  lists-same u v a zero same = same_nil
  lists-same u v a (suc n) same =
      same_trans
      (same_as (flat_map-append h (u a) (flat_map u (range_with_len (a + 1) n))))
      (same_trans
      (SameBag-both (same a) (lists-same u v (a + 1) n same))
      (same_as (sym (flat_map-append h (v a) (flat_map v (range_with_len (a + 1) n))))))

  lists-by-kinds : (ms ns : List Message) → ((k : ℕ) → SameBag (flat_map h (of_kind k ms)) (flat_map h (of_kind k ns))) → SameBag (flat_map h ms) (flat_map h ns)
  lists-by-kinds ms ns same =
      let n : ℕ = top ms + top ns in
      same_trans
      (flat_map-permuted h (split-kinds n ms (below-top ms n (omega arith))))
      (same_trans
      (lists-same (λ k. of_kind k ms) (λ k. of_kind k ns) 0 n same)
      (SameBag-sym (flat_map-permuted h (split-kinds n ns (below-top ns n (omega arith))))))

-- what the handler of a combinable kind is: none, or a line that folds the one value
pub data Shape (r : Reduce) : List Line → Type 0 where
  no_lines : Shape r []
  one_line : (place slot : ℕ) → Shape r (Fold r place (record { slot = slot; term = T.Message 0 } ∷ []) ∷ [])

its_value-is : (t : T.Term) → is_its_value t ≡ true → t ≡ T.Message 0
its_value-is (T.Message i) e = ap T.Message (eqb-true i 0 e)
its_value-is t e = cc

combining-shape : (r : Reduce) (ls : List Line) → is_combining r ls ≡ true → Shape r ls
combining-shape r (Fold s place (t ∷ []) ∷ []) e =
    let parts = and_parts (same_reduce r s) (is_its_value t.term) e in
    subst (λ x. Shape r (Fold x place (t ∷ []) ∷ [])) (same_reduce-is r s parts.0)
    (subst (λ x. Shape r (Fold r place (record { slot = t.slot; term = x } ∷ []) ∷ [])) (sym (its_value-is t.term parts.1)) (one_line place t.slot))
combining-shape r ls e = cc

module _ (p : Program) (k : ℕ) (r : Reduce) (has : combiner p k ≡ Some r) where
  kind-shape : (o : Option Kind) → slice_get p.kinds k ≡ o → (ls : List Line) → handles o ls ≡ true → Shape r ls
  kind-shape None at ls h =
      let none : combiner p k ≡ None = ap (option_and_then (λ (kind : Kind). kind.combiner)) at in
      let clash : Some r ≡ None = sym has ∙ none in cc
  kind-shape (Some kind) at ls h =
      let some : combiner p k ≡ kind.combiner = ap (option_and_then (λ (kind : Kind). kind.combiner)) at in
      combining-shape r ls (sym (ap (λ o. combines o ls) (sym some ∙ has)) ∙ h)

  handler-shape : (all earlier : List Line) (before hs : List Handler) → list_all (keeps_all p) (handlers_rows all earlier before hs) ≡ true → Shape r (handler_lines hs k)
  handler-shape all earlier before [] h = no_lines
  handler-shape all earlier before (g ∷ hs) h =
      let own : List Row = handler_rows all g.kind earlier g.lines in
      let more : List Row = handlers_rows all (earlier ++ g.lines) (before ++ g ∷ []) hs in
      let eight : 7 < length image_rules = omega arith in
      let both : list_all (keeps_all p) (own ++ more) ≡ true = all_rest (keeps_all p) (HandlerRow before g) (own ++ more) h in
      let kept : keeps p (HandlerRow before g) I8 ≡ true = all_at (keeps p (HandlerRow before g)) image_rules 7 I8 eight (all_first (keeps_all p) (HandlerRow before g) (own ++ more) h) in
      let held : handles (slice_get p.kinds g.kind) g.lines ≡ true = (and_parts (of_other_kinds g.kind before) (handles (slice_get p.kinds g.kind) g.lines) kept).1 in
      let rest : Shape r (handler_lines hs k) = handler-shape all (earlier ++ g.lines) (before ++ g ∷ []) hs (all_back (keeps_all p) own more both) in
      ⊎_elim
      (λ (here : g.kind ≡ k).
      subst (λ b. Shape r (lines_of (cond b (Some g) (find (λ x. nat_eq x.kind k) hs)))) (sym (eq-eqb g.kind k here))
      (kind-shape (slice_get p.kinds k) refl g.lines (ap (λ n. handles (slice_get p.kinds n) g.lines) (sym here) ∙ held)))
      (λ (other : g.kind ≡ k → ⊥).
      subst (λ b. Shape r (lines_of (cond b (Some g) (find (λ x. nat_eq x.kind k) hs)))) (sym (ne_eqb g.kind k other)) rest)
      (cases_eq g.kind k)

  blocks-shape : (blocks : List Block) → list_all (keeps_all p) (flat_map block_rows blocks) ≡ true → (q : ℕ) → Shape r (handler_lines (slice_index_or blocks q no_block).handlers k)
  blocks-shape [] h q = no_lines
  blocks-shape (b ∷ blocks) h zero =
      let of_handlers : List Row = handlers_rows (handled_lines b) [] [] b.handlers in
      let of_body : List Row = Plain ∷ body_rows (handled_lines b) outside b.body in
      handler-shape (handled_lines b) [] [] b.handlers (all_front (keeps_all p) of_handlers of_body (all_rest (keeps_all p) Plain (of_handlers ++ of_body) (all_front (keeps_all p) (block_rows b) (flat_map block_rows blocks) h)))
  blocks-shape (b ∷ blocks) h (suc q) = blocks-shape blocks (all_back (keeps_all p) (block_rows b) (flat_map block_rows blocks) h) q

  sound-shape : IsTrue (is_sound p) → (q : ℕ) → Shape r (handler_lines (block_at p q).handlers k)
  sound-shape sound q = blocks-shape p.blocks (blocks_pass p sound) q

-- what the handler of a combinable kind does for each of its messages
pub record Does (reduction : ℕ → Reduction) (r : Reduce) (run : Message → After) (k : ℕ) : Type 0 where
  pub given : Value → List Contribution
  pub shape : ((v : Value) → given v ≡ []) ⊎ ((place : ℕ) × (slot : ℕ) × ((record { reduce = r; slots = slot ∷ [] } ≡ reduction slot) × ((v : Value) → given v ≡ record { place = place; reduce = r; slots = slot ∷ []; values = v ∷ [] } ∷ [])))
  pub folds : (m : Message) → m.kind ≡ k → (run m).state.folds ≡ given (carried m)
  pub messages : (m : Message) → m.kind ≡ k → (run m).state.messages ≡ []
  pub puts : (m : Message) → m.kind ≡ k → (run m).state.puts ≡ []
  pub fault : (m : Message) → m.kind ≡ k → (run m).fault ≡ None

does-by : (reduction : ℕ → Reduction) (r : Reduce) (s : VertexContext) (hs : List Handler) (start : VertexState) (k : ℕ) → start.folds ≡ [] → start.messages ≡ [] → start.puts ≡ [] →
    {ls : List Line} → Shape r ls → handler_lines hs k ≡ ls → LinesFoldBy reduction ls → Does reduction r (handler_run s hs start) k
does-by reduction r s hs start k none_folded none_sent none_put no_lines is by = record {
  given = λ v. [];
  shape = inl (λ v. refl);
  folds = λ m at. ap (λ ls. (lines_after (record s { message = m.values }) ls 0 start).state.folds) (ap (handler_lines hs) at ∙ is) ∙ none_folded;
  messages = λ m at. ap (λ ls. (lines_after (record s { message = m.values }) ls 0 start).state.messages) (ap (handler_lines hs) at ∙ is) ∙ none_sent;
  puts = λ m at. ap (λ ls. (lines_after (record s { message = m.values }) ls 0 start).state.puts) (ap (handler_lines hs) at ∙ is) ∙ none_put;
  fault = λ m at. ap (λ ls. (lines_after (record s { message = m.values }) ls 0 start).fault) (ap (handler_lines hs) at ∙ is);
}
does-by reduction r s hs start k none_folded none_sent none_put (one_line place slot) is by = record {
  given = λ v. record { place = place; reduce = r; slots = slot ∷ []; values = v ∷ [] } ∷ [];
  shape = inr (place, slot, (by.0.0, λ v. refl));
  folds = λ m at.
      ap (λ ls. (lines_after (record s { message = m.values }) ls 0 start).state.folds) (ap (handler_lines hs) at ∙ is)
      ∙ ap (λ fs. fs ++ record { place = place; reduce = r; slots = slot ∷ []; values = carried m ∷ [] } ∷ []) none_folded;
  messages = λ m at. ap (λ ls. (lines_after (record s { message = m.values }) ls 0 start).state.messages) (ap (handler_lines hs) at ∙ is) ∙ none_sent;
  puts = λ m at. ap (λ ls. (lines_after (record s { message = m.values }) ls 0 start).state.puts) (ap (handler_lines hs) at ∙ is) ∙ none_put;
  fault = λ m at. ap (λ ls. (lines_after (record s { message = m.values }) ls 0 start).fault) (ap (handler_lines hs) at ∙ is);
}

-- the first values that contributions give to a slot alone at a place
module _ (slot s : ℕ) (h : Value) where
  abbrev values_at : List Contribution → List Value
  values_at cs = firsts_of h (of_rank (λ c. c.place) s (to_target (slot ∷ []) cs))

  values-append : (cs ds : List Contribution) → values_at (cs ++ ds) ≡ values_at cs ++ values_at ds
  values-append cs ds =
      ap (λ l. firsts_of h (of_rank (λ c. c.place) s l)) (filter-append (λ c. same_numbers c.slots (slot ∷ [])) cs ds)
      ∙ ap (firsts_of h) (filter-append (λ c. nat_eq c.place s) (to_target (slot ∷ []) cs) (to_target (slot ∷ []) ds))
      ∙ ap (map (first_or h)) (map-append (λ c. c.values) (of_rank (λ c. c.place) s (to_target (slot ∷ []) cs)) (of_rank (λ c. c.place) s (to_target (slot ∷ []) ds)))
      ∙ map-append (first_or h) (map (λ c. c.values) (of_rank (λ c. c.place) s (to_target (slot ∷ []) cs))) (map (λ c. c.values) (of_rank (λ c. c.place) s (to_target (slot ∷ []) ds)))

  -- contributions that are all to one slot and at one place
  module _ (r : Reduce) (place other : ℕ) (given : Value → List Contribution) (is : (v : Value) → given v ≡ record { place = place; reduce = r; slots = other ∷ []; values = v ∷ [] } ∷ []) where
    abbrev one : Value → Contribution
    one v = record { place = place; reduce = r; slots = other ∷ []; values = v ∷ [] }

    one-hit : other ≡ slot → place ≡ s → (v : Value) → values_at (one v ∷ []) ≡ v ∷ []
    one-hit here now v =
        ap (λ b. firsts_of h (of_rank (λ c. c.place) s (cond (b && true) (one v ∷ []) []))) (eq-eqb other slot here)
        ∙ ap (λ b. firsts_of h (cond b (one v ∷ []) [])) (eq-eqb place s now)

    one-elsewhere : (other ≡ slot → ⊥) → (v : Value) → values_at (one v ∷ []) ≡ []
    one-elsewhere away v = ap (λ b. firsts_of h (of_rank (λ c. c.place) s (cond (b && true) (one v ∷ []) []))) (ne_eqb other slot away)

    one-later : other ≡ slot → (place ≡ s → ⊥) → (v : Value) → values_at (one v ∷ []) ≡ []
    one-later here away v =
        ap (λ b. firsts_of h (of_rank (λ c. c.place) s (cond (b && true) (one v ∷ []) []))) (eq-eqb other slot here)
        ∙ ap (λ b. firsts_of h (cond b (one v ∷ []) [])) (ne_eqb place s away)

    all-hit : ((v : Value) → values_at (one v ∷ []) ≡ v ∷ []) → (vs : List Value) → values_at (flat_map given vs) ≡ vs
    all-hit each [] = refl
    all-hit each (v ∷ vs) =
        values-append (given v) (flat_map given vs)
        ∙ ap (λ l. values_at l ++ values_at (flat_map given vs)) (is v)
        ∙ ap (λ l. l ++ values_at (flat_map given vs)) (each v)
        ∙ ap (λ l. v ∷ l) (all-hit each vs)

    all-miss : ((v : Value) → values_at (one v ∷ []) ≡ []) → (vs : List Value) → values_at (flat_map given vs) ≡ []
    all-miss each [] = refl
    all-miss each (v ∷ vs) =
        values-append (given v) (flat_map given vs)
        ∙ ap (λ l. values_at l ++ values_at (flat_map given vs)) (is v)
        ∙ ap (λ l. l ++ values_at (flat_map given vs)) (each v)
        ∙ all-miss each vs

-- whether contributions to one slot have a slot: one does, and all do
one-has : (slot other place : ℕ) (r : Reduce) (given : Value → List Contribution) → ((v : Value) → given v ≡ record { place = place; reduce = r; slots = other ∷ []; values = v ∷ [] } ∷ []) →
    (vs : List Value) → list_any (has_slot slot) (flat_map given vs) ≡ (other == slot && are_some vs)
one-has slot other place r given is [] = and_off (other == slot) where
  and_off : (b : Bool) → false ≡ b && false
  and_off true = refl
  and_off false = refl
one-has slot other place r given is (v ∷ vs) =
    ap (λ l. list_any (has_slot slot) (l ++ flat_map given vs)) (is v)
    ∙ ap (λ b. ((other == slot) || false) || b) (one-has slot other place r given is vs)
    ∙ by (other == slot) (are_some vs)
  where
    by : (b some : Bool) → (b || false) || (b && some) ≡ (b && true)
    by true some = refl
    by false some = refl

exact-some : (r : Reduce) (vs ws : List Value) → SameTotal r (exact_of r vs) (exact_of r ws) → are_some vs ≡ are_some ws
exact-some r [] [] e = refl
exact-some r [] (w ∷ ws) e = absurd (never-none r (more_exact r (number_of w) (exact_of r ws)) e)
exact-some r (v ∷ vs) [] e = absurd (none-never r (more_exact r (number_of v) (exact_of r vs)) e)
exact-some r (v ∷ vs) (w ∷ ws) e = refl

any-append : {A : Type 0} (test : A → Bool) (xs ys : List A) → list_any test (xs ++ ys) ≡ (list_any test xs || list_any test ys)
any-append test [] ys = refl
any-append test (x ∷ xs) ys = ap (λ b. test x || b) (any-append test xs ys) ∙ by (test x) (list_any test xs) (list_any test ys) where
  by : (a b c : Bool) → a || (b || c) ≡ (a || b) || c
  by true b c = refl
  by false b c = refl

none-given : (given : Value → List Contribution) → ((v : Value) → given v ≡ []) → (vs : List Value) → flat_map given vs ≡ []
none-given given none [] = refl
none-given given none (v ∷ vs) = ap (λ l. l ++ flat_map given vs) (none v) ∙ none-given given none vs

-- lists that messages of one kind give
module _ {B : Type 0} (k : ℕ) (h : Message → List B) (given : Value → List B) (is : (m : Message) → m.kind ≡ k → h m ≡ given (carried m)) where
  gathers : (ms : List Message) → flat_map h (of_kind k ms) ≡ flat_map given (map carried (of_kind k ms))
  gathers [] = refl
  gathers (m ∷ ms) =
      ⊎_elim
      (λ (here : m.kind ≡ k).
      ap (flat_map h) (kind-same m ms k (sym here))
      ∙ ap (λ l. l ++ flat_map h (of_kind k ms)) (is m here)
      ∙ ap (λ l. given (carried m) ++ l) (gathers ms)
      ∙ sym (ap (λ l. flat_map given (map carried l)) (kind-same m ms k (sym here))))
      (λ (other : m.kind ≡ k → ⊥).
      ap (flat_map h) (kind-other m ms k (λ e. other (sym e)))
      ∙ gathers ms
      ∙ sym (ap (λ l. flat_map given (map carried l)) (kind-other m ms k (λ e. other (sym e)))))
      (cases_eq m.kind k)

abbrev no_list : {B : Type 0} → Value → List B
no_list v = []

nothing_comes : {B : Type 0} (vs : List Value) → flat_map (no_list {B = B}) vs ≡ []
nothing_comes [] = refl
nothing_comes (v ∷ vs) = nothing_comes vs

no-lists : {B : Type 0} (k : ℕ) (h : Message → List B) → ((m : Message) → m.kind ≡ k → h m ≡ []) → (ms : List Message) → flat_map h (of_kind k ms) ≡ []
no-lists {B} k h none ms = gathers k h (no_list {B = B}) none ms ∙ nothing_comes {B = B} (map carried (of_kind k ms))

no-faults : (k : ℕ) (run : Message → After) → ((m : Message) → m.kind ≡ k → (run m).fault ≡ None) → (ms : List Message) → least_right (map (λ m. (run m).fault) (of_kind k ms)) ≡ None
no-faults k run none [] = refl
no-faults k run none (m ∷ ms) =
    ⊎_elim
    (λ (here : m.kind ≡ k).
    ap (λ l. least_right (map (λ m. (run m).fault) l)) (kind-same m ms k (sym here))
    ∙ ap (λ f. lesser f (least_right (map (λ m. (run m).fault) (of_kind k ms)))) (none m here)
    ∙ no-faults k run none ms)
    (λ (other : m.kind ≡ k → ⊥). ap (λ l. least_right (map (λ m. (run m).fault) l)) (kind-other m ms k (λ e. other (sym e))) ∙ no-faults k run none ms)
    (cases_eq m.kind k)

least-joins : (fs gs : List (Option Fault)) → least_right (fs ++ gs) ≡ lesser (least_right fs) (least_right gs)
least-joins [] gs = refl
least-joins (f ∷ fs) gs = ap (lesser f) (least-joins fs gs) ∙ sym (lesser-assoc f (least_right fs) (least_right gs))

least-bags : {fs gs : List (Option Fault)} → SameBag fs gs → least_right fs ≡ least_right gs
least-bags {fs} {gs} same = sym (least_from-right None fs) ∙ least-permuted same ∙ least_from-right None gs

module _ (p : Program) (reduction : ℕ → Reduction) (run : Message → After) (does : (k : ℕ) (r : Reduce) → combiner p k ≡ Some r → Does reduction r run k)
    (ms ns : List Message) (alike : SameInboxes p ms ns) where
  abbrev folds : List Message → List Contribution
  folds xs = flat_map (λ m. (run m).state.folds) xs

  -- lists of which combinable kinds give nothing
  lists-alike : {B : Type 0} (h : Message → List B) → ((k : ℕ) (r : Reduce) → combiner p k ≡ Some r → (m : Message) → m.kind ≡ k → h m ≡ []) → SameBag (flat_map h ms) (flat_map h ns)
  lists-alike h none = lists-by-kinds h ms ns (λ k. one k (combiner p k) refl (alike k)) where
    one : (k : ℕ) (o : Option Reduce) → combiner p k ≡ o → SameKind o (of_kind k ms) (of_kind k ns) → SameBag (flat_map h (of_kind k ms)) (flat_map h (of_kind k ns))
    one k None is same = flat_map-permuted h same
    one k (Some r) is same = same_as (no-lists k h (none k r is) ms ∙ sym (no-lists k h (none k r is) ns))

  faults-alike : least_from None (map (λ a. a.fault) (map run ms)) ≡ least_from None (map (λ a. a.fault) (map run ns))
  faults-alike =
      ap (least_from None) (map-map run (λ a. a.fault) ms)
      ∙ least_from-right None (map (λ m. (run m).fault) ms)
      ∙ by-kinds (λ xs. least_right (map (λ m. (run m).fault) xs)) lesser
      (λ xs ys. ap least_right (map-append (λ m. (run m).fault) xs ys) ∙ least-joins (map (λ m. (run m).fault) xs) (map (λ m. (run m).fault) ys))
      (λ xs ys same. least-bags (SameBag-map (λ m. (run m).fault) same)) ms ns (λ k. one k (combiner p k) refl (alike k))
      ∙ sym (least_from-right None (map (λ m. (run m).fault) ns))
      ∙ ap (least_from None) (sym (map-map run (λ a. a.fault) ns))
    where
      one : (k : ℕ) (o : Option Reduce) → combiner p k ≡ o → SameKind o (of_kind k ms) (of_kind k ns) →
          least_right (map (λ m. (run m).fault) (of_kind k ms)) ≡ least_right (map (λ m. (run m).fault) (of_kind k ns))
      one k None is same = least-bags (SameBag-map (λ m. (run m).fault) same)
      one k (Some r) is same = no-faults k run (does k r is).fault ms ∙ sym (no-faults k run (does k r is).fault ns)

  -- whether a slot is folded
  any-alike : (slot : ℕ) → list_any (has_slot slot) (folds ms) ≡ list_any (has_slot slot) (folds ns)
  any-alike slot =
      by-kinds (λ xs. list_any (has_slot slot) (folds xs)) (λ a b. a || b)
      (λ xs ys. ap (list_any (has_slot slot)) (flat_map-append (λ m. (run m).state.folds) xs ys) ∙ any-append (has_slot slot) (folds xs) (folds ys))
      bags ms ns (λ k. one k (combiner p k) refl (alike k))
    where
      bags : (xs ys : List Message) → SameBag xs ys → list_any (has_slot slot) (folds xs) ≡ list_any (has_slot slot) (folds ys)
      bags xs ys same = any-permuted (has_slot slot) (flat_map-permuted (λ m. (run m).state.folds) same)

      made : (k : ℕ) (r : Reduce) (is : combiner p k ≡ Some r) (xs : List Message) → list_any (has_slot slot) (folds (of_kind k xs)) ≡ list_any (has_slot slot) (flat_map (does k r is).given (map carried (of_kind k xs)))
      made k r is xs = ap (list_any (has_slot slot)) (gathers k (λ m. (run m).state.folds) (does k r is).given (does k r is).folds xs)

      by : (k : ℕ) (r : Reduce) (is : combiner p k ≡ Some r) → SameTotal r (exact_of r (map carried (of_kind k ms))) (exact_of r (map carried (of_kind k ns))) →
          ((v : Value) → (does k r is).given v ≡ []) ⊎ ((place : ℕ) × (other : ℕ) × ((record { reduce = r; slots = other ∷ [] } ≡ reduction other) × ((v : Value) → (does k r is).given v ≡ record { place = place; reduce = r; slots = other ∷ []; values = v ∷ [] } ∷ []))) →
          list_any (has_slot slot) (folds (of_kind k ms)) ≡ list_any (has_slot slot) (folds (of_kind k ns))
      by k r is same (inl none) =
          made k r is ms ∙ ap (list_any (has_slot slot)) (none-given (does k r is).given none (map carried (of_kind k ms)))
          ∙ sym (made k r is ns ∙ ap (list_any (has_slot slot)) (none-given (does k r is).given none (map carried (of_kind k ns))))
      by k r is same (inr h) =
          made k r is ms
          ∙ one-has slot h.1 h.0 r (does k r is).given h.2.1 (map carried (of_kind k ms))
          ∙ ap (λ b. h.1 == slot && b) (exact-some r (map carried (of_kind k ms)) (map carried (of_kind k ns)) same)
          ∙ sym (made k r is ns ∙ one-has slot h.1 h.0 r (does k r is).given h.2.1 (map carried (of_kind k ns)))

      one : (k : ℕ) (o : Option Reduce) → combiner p k ≡ o → SameKind o (of_kind k ms) (of_kind k ns) → list_any (has_slot slot) (folds (of_kind k ms)) ≡ list_any (has_slot slot) (folds (of_kind k ns))
      one k None is same = bags (of_kind k ms) (of_kind k ns) same
      one k (Some r) is same = by k r is same (does k r is).shape

  -- the contributions to several slots: no combinable kind gives any
  bags-alike : (slots : List ℕ) → ((slot : ℕ) → same_numbers (slot ∷ []) slots ≡ false) → SameBag (to_target slots (folds ms)) (to_target slots (folds ns))
  bags-alike slots several =
      same_trans (same_as (target-each ms))
      (same_trans (lists-alike (λ m. to_target slots (run m).state.folds) (λ k r is m at. ap (to_target slots) ((does k r is).folds m at) ∙ none k r is (carried m) (does k r is).shape)) (same_as (sym (target-each ns))))
    where
      target-each : (xs : List Message) → to_target slots (folds xs) ≡ flat_map (λ m. to_target slots (run m).state.folds) xs
      target-each [] = refl
      target-each (m ∷ xs) =
          filter-append (λ c. same_numbers c.slots slots) (run m).state.folds (folds xs) ∙ ap (λ l. to_target slots (run m).state.folds ++ l) (target-each xs)

      none : (k : ℕ) (r : Reduce) (is : combiner p k ≡ Some r) (v : Value) →
          ((v : Value) → (does k r is).given v ≡ []) ⊎ ((place : ℕ) × (other : ℕ) × ((record { reduce = r; slots = other ∷ [] } ≡ reduction other) × ((v : Value) → (does k r is).given v ≡ record { place = place; reduce = r; slots = other ∷ []; values = v ∷ [] } ∷ []))) →
          to_target slots ((does k r is).given v) ≡ []
      none k r is v (inl nothing) = ap (to_target slots) (nothing v)
      none k r is v (inr h) =
          ap (to_target slots) (h.2.1 v)
          ∙ ap (λ b. cond b (record { place = h.0; reduce = r; slots = h.1 ∷ []; values = v ∷ [] } ∷ []) []) (several h.1)

  module _ (slot : ℕ) (q : Reduce) (own : reduction slot ≡ record { reduce = q; slots = slot ∷ [] }) (s : ℕ) (h : Value) where
    abbrev exact_at : List Message → Option ℤ
    exact_at xs = exact_of q (values_at slot s h (folds xs))

    exact-kind : (k : ℕ) (r : Reduce) → combiner p k ≡ Some r → SameTotal r (exact_of r (map carried (of_kind k ms))) (exact_of r (map carried (of_kind k ns))) → SameTotal q (exact_at (of_kind k ms)) (exact_at (of_kind k ns))
    exact-kind k r is same = by (does k r is).shape where
      made : (xs : List Message) → exact_at (of_kind k xs) ≡ exact_of q (values_at slot s h (flat_map (does k r is).given (map carried (of_kind k xs))))
      made xs = ap (λ l. exact_of q (values_at slot s h l)) (gathers k (λ m. (run m).state.folds) (does k r is).given (does k r is).folds xs)

      nothing : ((vs : List Value) → values_at slot s h (flat_map (does k r is).given vs) ≡ []) → SameTotal q (exact_at (of_kind k ms)) (exact_at (of_kind k ns))
      nothing none =
          inl (
          made ms ∙ ap (exact_of q) (none (map carried (of_kind k ms)))
          ∙ sym (made ns ∙ ap (exact_of q) (none (map carried (of_kind k ns)))))

      by : ((v : Value) → (does k r is).given v ≡ []) ⊎ ((place : ℕ) × (other : ℕ) × ((record { reduce = r; slots = other ∷ [] } ≡ reduction other) × ((v : Value) → (does k r is).given v ≡ record { place = place; reduce = r; slots = other ∷ []; values = v ∷ [] } ∷ []))) →
          SameTotal q (exact_at (of_kind k ms)) (exact_at (of_kind k ns))
      by (inl none) = nothing (λ vs. ap (values_at slot s h) (none-given (does k r is).given none vs))
      by (inr g) =
          ⊎_elim
          (λ (here : g.1 ≡ slot).
          ⊎_elim
          (λ (now : g.0 ≡ s).
          let all : (vs : List Value) → values_at slot s h (flat_map (does k r is).given vs) ≡ vs =
          all-hit slot s h r g.0 g.1 (does k r is).given g.2.1 (one-hit slot s h r g.0 g.1 (does k r is).given g.2.1 here now) in
          let same_reduction : q ≡ r = sym (ap (λ (x : Reduction). x.reduce) (g.2.0 ∙ ap reduction here ∙ own)) in
          totals-as q r (exact_at (of_kind k ms)) (exact_at (of_kind k ns)) (exact_of r (map carried (of_kind k ms))) (exact_of r (map carried (of_kind k ns))) same_reduction
          (made ms ∙ ap (exact_of q) (all (map carried (of_kind k ms))) ∙ ap (λ x. exact_of x (map carried (of_kind k ms))) same_reduction)
          (made ns ∙ ap (exact_of q) (all (map carried (of_kind k ns))) ∙ ap (λ x. exact_of x (map carried (of_kind k ns))) same_reduction)
          same)
          (λ (away : g.0 ≡ s → ⊥). nothing (all-miss slot s h r g.0 g.1 (does k r is).given g.2.1 (one-later slot s h r g.0 g.1 (does k r is).given g.2.1 here away)))
          (cases_eq g.0 s))
          (λ (away : g.1 ≡ slot → ⊥). nothing (all-miss slot s h r g.0 g.1 (does k r is).given g.2.1 (one-elsewhere slot s h r g.0 g.1 (does k r is).given g.2.1 away)))
          (cases_eq g.1 slot)

    exact-alike : SameTotal q (exact_at ms) (exact_at ns)
    exact-alike =
        alike-by-kinds (SameTotal q) (λ x. inl refl) exact_at (joined q)
        (λ xs ys.
        ap (λ l. exact_of q (values_at slot s h l)) (flat_map-append (λ m. (run m).state.folds) xs ys)
        ∙ ap (exact_of q) (values-append slot s h (folds xs) (folds ys))
        ∙ exact-append q (values_at slot s h (folds xs)) (values_at slot s h (folds ys)))
        (joined-alike q)
        bags ms ns (λ k. one k (combiner p k) refl (alike k))
      where
        bags : (xs ys : List Message) → SameBag xs ys → exact_at xs ≡ exact_at ys
        bags xs ys same = exact-permuted q (SameBag-map (first_or h) (SameBag-map (λ c. c.values) (SameBag-filter (λ c. nat_eq c.place s) (SameBag-filter (λ c. same_numbers c.slots (slot ∷ [])) (flat_map-permuted (λ m. (run m).state.folds) same)))))

        one : (k : ℕ) (o : Option Reduce) → combiner p k ≡ o → SameKind o (of_kind k ms) (of_kind k ns) → SameTotal q (exact_at (of_kind k ms)) (exact_at (of_kind k ns))
        one k None is same = inl (bags (of_kind k ms) (of_kind k ns) same)
        one k (Some r) is same = exact-kind k r is same

  module _ (by : AreBy reduction (folds ms)) (also : AreBy reduction (folds ns)) (places : ℕ) where
    abbrev taken_by : Reduction → List Value → List Contribution → Result (List Value) ℕ
    taken_by q held cs = taken (λ c. c.place) (closed q.reduce) places (map (value_at held) q.slots) (to_target q.slots cs)

    -- what the slots of a slot's reduction hold
    target-alike : (slot : ℕ) (held : List Value) → is_among slot (reduction slot).slots ≡ true → taken_by (reduction slot) held (folds ms) ≡ taken_by (reduction slot) held (folds ns)
    target-alike slot held among = each (reduction slot) refl among where
      each : (q : Reduction) → reduction slot ≡ q → is_among slot q.slots ≡ true → taken_by q held (folds ms) ≡ taken_by q held (folds ns)
      each q is has = of_slots q.slots refl where
        several : (slots : List ℕ) → q.slots ≡ slots → ((other : ℕ) → same_numbers (other ∷ []) slots ≡ false) → taken_by q held (folds ms) ≡ taken_by q held (folds ns)
        several slots are lone =
            taken-bags (λ c. c.place) (closed q.reduce) (closed-bags q.reduce) places (map (value_at held) q.slots) (to_target q.slots (folds ms)) (to_target q.slots (folds ns))
            (bags-alike q.slots (λ other. ap (same_numbers (other ∷ [])) are ∙ lone other))

        of_slots : (slots : List ℕ) → q.slots ≡ slots → taken_by q held (folds ms) ≡ taken_by q held (folds ns)
        of_slots [] are = several [] are (λ other. refl)
        of_slots (t ∷ (u ∷ more)) are = several (t ∷ (u ∷ more)) are (λ other. and-off (nat_eq other t))
        of_slots (t ∷ []) are =
            let here : t ≡ slot = eqb-true t slot (sym (or-off (t == slot)) ∙ sym (ap (is_among slot) are) ∙ has) in
            let slots_are : q.slots ≡ slot ∷ [] = are ∙ ap (λ x. x ∷ []) here in
            let made : List ℕ → Reduction = λ slots. record { reduce = q.reduce; slots = slots } in
            let own : reduction slot ≡ record { reduce = q.reduce; slots = slot ∷ [] } = is ∙ ap made slots_are in
            ap (λ slots. taken (λ c. c.place) (closed q.reduce) places (map (value_at held) slots) (to_target slots (folds ms))) slots_are
            ∙ taken-single q.reduce places (value_at held slot) (to_target (slot ∷ []) (folds ms))
            ∙ ap in_list (taken-each (λ c. c.place) (closed_first q.reduce) places (value_at held slot) (to_target (slot ∷ []) (folds ms)) (to_target (slot ∷ []) (folds ns))
            (λ s v. bag-same q.reduce s v (of_rank (λ c. c.place) s (to_target (slot ∷ []) (folds ms))) (of_rank (λ c. c.place) s (to_target (slot ∷ []) (folds ns))) (exact-alike slot q.reduce own s v)))
            ∙ sym (
            ap (λ slots. taken (λ c. c.place) (closed q.reduce) places (map (value_at held) slots) (to_target slots (folds ns))) slots_are
            ∙ taken-single q.reduce places (value_at held slot) (to_target (slot ∷ []) (folds ns)))

    slot-alike : (slot : ℕ) (held : List Value) → slot_after places (folds ms) held slot ≡ slot_after places (folds ns) held slot
    slot-alike slot held =
        ap (slot_by places (folds ms) held slot) (first-by reduction slot (folds ms) by)
        ∙ each (list_any (has_slot slot) (folds ms)) refl
        ∙ ap (λ b. slot_by places (folds ns) held slot (cond b (Some (reduction slot)) None)) (any-alike slot)
        ∙ sym (ap (slot_by places (folds ns) held slot) (first-by reduction slot (folds ns) also))
      where
        each : (b : Bool) → list_any (has_slot slot) (folds ms) ≡ b → slot_by places (folds ms) held slot (cond b (Some (reduction slot)) None) ≡ slot_by places (folds ns) held slot (cond b (Some (reduction slot)) None)
        each true any =
            ap (λ r. then_go (overflow_at r) (λ vs. Ok (entry_of slot (reduction slot).slots vs (value_at held slot)))) (target-alike slot held (slot-among reduction slot (folds ms) by any))
        each false any = refl

    settled-alike : (held : List Value) → settled places (folds ms) held ≡ settled places (folds ns) held
    settled-alike held =
        let made : List Value → List (Option Fault) → Settled = λ vs fs. record { values = vs; fault = least_from None fs } in
        ap (λ vs. made vs (map (fault_after places (folds ms) held) (enumerate_from 0 held)))
        (map-each (value_after places (folds ms) held) (value_after places (folds ns) held) (enumerate_from 0 held) (λ at. ap (value_or at.1) (slot-alike at.0 held)))
        ∙ ap (made (map (value_after places (folds ns) held) (enumerate_from 0 held)))
        (map-each (fault_after places (folds ms) held) (fault_after places (folds ns) held) (enumerate_from 0 held) (λ at. ap fault_of (slot-alike at.0 held)))

-- the step of a vertex takes the messages of each combinable kind by their total
pub vertex-combined : (p : Program) (q : ℕ) (s : VertexContext) (inbox other : List Message) (fields : List Value) → IsTrue (is_sound p) → SameInboxes p inbox other →
    SameStep (vertex_after p (block_at p q) s inbox fields) (vertex_after p (block_at p q) s other fields)
vertex-combined p q s inbox other fields sound alike =
    let b : Block = block_at p q in
    let start : VertexState = begun p.registers fields in
    let run : Message → After = handler_run s b.handlers start in
    let reduction : ℕ → Reduction = reduction_in (handled_lines b) in
    let by : HandlersFoldBy reduction b.handlers = sound-folds p sound q in
    let does : (k : ℕ) (r : Reduce) → combiner p k ≡ Some r → Does reduction r run k =
    λ k r is. does-by reduction r s b.handlers start k refl refl refl (sound-shape p k r is sound q) refl (handler-by reduction b.handlers k by) in
    let folds_by : (m : Message) → AreBy reduction (run m).state.folds = λ m. lines-by reduction (record s { message = m.values }) (handler_lines b.handlers m.kind) 0 start (handler-by reduction b.handlers m.kind by) tt in
    let some : VertexState = (gathered start (map run inbox)).state in
    let more : VertexState = (gathered start (map run other)).state in
    let some_is : (ms : List Message) → flat_map (λ a. a.state.folds) (map run ms) ≡ flat_map (λ m. (run m).state.folds) ms = λ ms. flat_map-map run (λ a. a.state.folds) ms in
    let settles : settled (length p.places) some.folds fields ≡ settled (length p.places) more.folds fields =
    ap (λ cs. settled (length p.places) cs fields) (some_is inbox)
    ∙ settled-alike p reduction run does inbox other alike
    (subst (AreBy reduction) (some_is inbox) (runs-by reduction run inbox folds_by))
    (subst (AreBy reduction) (some_is other) (runs-by reduction run other folds_by))
    (length p.places) fields
    ∙ ap (λ cs. settled (length p.places) cs fields) (sym (some_is other)) in
    let faults : least_from None (map (λ a. a.fault) (map run inbox)) ≡ least_from None (map (λ a. a.fault) (map run other)) = faults-alike p reduction run does inbox other alike in
    let sent : SameBag some.messages more.messages =
    same_trans (same_as (flat_map-map run (λ a. a.state.messages) inbox))
    (same_trans (lists-alike p reduction run does inbox other alike (λ m. (run m).state.messages) (λ k r is. (does k r is).messages)) (same_as (sym (flat_map-map run (λ a. a.state.messages) other)))) in
    let put : SameBag some.puts more.puts =
    same_trans (same_as (flat_map-map run (λ a. a.state.puts) inbox))
    (same_trans (lists-alike p reduction run does inbox other alike (λ m. (run m).state.puts) (λ k r is. (does k r is).puts)) (same_as (sym (flat_map-map run (λ a. a.state.puts) other)))) in
    let first : Settled = settled (length p.places) some.folds fields in
    let second : Settled = settled (length p.places) more.folds fields in
    let ends_as : List Message → List Contribution → Settled → Option Fault → After = λ ms ps t f. goes_on (ended (idle t.values (map zero_of p.registers) ms ps) (lesser f t.fault) 0) (λ k w. body_after (length p.places) s b.body 0 w) in
    subst (λ a. SameStep a (vertex_after p b s other fields))
    (sym (ap (λ t. ends_as some.messages some.puts t (least_from None (map (λ a. a.fault) (map run inbox)))) settles ∙ ap (ends_as some.messages some.puts second) faults))
    (goes-permuted (length p.places) s b.body second.values (map zero_of p.registers) some.messages more.messages some.puts more.puts (lesser (least_from None (map (λ a. a.fault) (map run other))) second.fault)
    sent put)
