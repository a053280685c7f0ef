-- Several expressions one after another, and when reductions to several targets end.
use Rattle.std.proofs.Common.{◌≡◌, ◌∙◌, ◌<◌, ◌≤◌, ◌+◌, ℕ, zero, suc, min, List, [], ◌∷◌, ◌++◌, length, take, drop, get_or, map, Option, Some, None, Result, Ok, Err, refl, ap, sym, subst, arith, append_assoc}
use Rattle.std.proofs.Math.Nat.{le-max_left, le-max_right}
use Rattle.std.proofs.lemmas.List.{append-nil}
use Rattle.gm_value.specs.declared.values.Value.{Value}
use Rattle.gm_base.specs.declared.places.Place.{Place}
use Rattle.gm_value.specs.declared.reductions.Reduce.{Reduce}
use Rattle.gm_ast.specs.declared.tree.Target.{Target}
use Rattle.gm_ast.specs.Program.{Expr}
use Rattle.gm_semantics.specs.declared.faults.Fault.{Fault}
use Rattle.gm_semantics.specs.declared.slots.Slot.{Slot}
use Rattle.gm_semantics.specs.declared.slots.Slot.TheVariants.{Scalar, Node}
use Rattle.gm_semantics.specs.Faults.{first, then_with}
use Rattle.gm_semantics.specs.Expressions as E
use Rattle.gm_semantics.specs.Expressions.{View}
use Rattle.gm_semantics.specs.Iterations.{Ends, AtOnce, WithInner, WithOutermost, Iteration, Loop, Mode, Outermost, later, ends_of, ends_of_all, slot_of, slots_of, wrote, wrote_all, at_once, together}
use Rattle.gm_semantics.specs.Stores.{Store, write, write_all}
use Rattle.gm_store.specs.Held.{HasSlot}
use Rattle.gm_loops.specs.Bounds.{target_bound, targets_bound}
use Rattle.gm_loops.specs.Targets.{and_next, followed, rest_and_one, room, AreSeveral}
use Rattle.gm_loops.specs.declared.goings.Going.{Going}
use Rattle.gm_loops.specs.declared.sights.Setting.{Setting}
use Rattle.gm_loops.specs.Goings.{Does}
use Rattle.gm_loops.proofs.Effects.{does-as, never-inner}
use Rattle.gm_loops.proofs.Turning.{does-both, does-none}
use Rattle.gm_loops.proofs.Statements.{drop-next, drop-end}

-- ---- the values of several expressions

no_more : (h : Option Fault) → first h None ≡ h
no_more None = refl
no_more (Some f) = refl

first-assoc : (a b c : Option Fault) → first (first a b) c ≡ first a (first b c)
first-assoc None b c = refl
first-assoc (Some f) b c = refl

rest-assoc : (a : Result (List Value) Fault) (p : E.Answer) (r : Result (List Value) Fault)
    → then_with (rest_and_one a p) (λ xs. then_with r (λ ys. Ok (xs ++ ys))) ≡ then_with a (λ xs. then_with (then_with p (λ x. then_with r (λ ys. Ok (x ∷ ys)))) (λ zs. Ok (xs ++ zs)))
rest-assoc (Err f) p r = refl
rest-assoc (Ok xs) (Err f) r = refl
rest-assoc (Ok xs) (Ok x) (Err f) = refl
rest-assoc (Ok xs) (Ok x) (Ok ys) = ap Ok (append_assoc xs (x ∷ []) ys)

parts-same : {a b : E.AllEvaluated} → a.hoisted ≡ b.hoisted → a.rest ≡ b.rest → a ≡ b
parts-same {a} {b} hoisted rest = ap (λ h. let e : E.AllEvaluated = record { hoisted = h; rest = a.rest } in e) hoisted ∙ ap (λ r. let e : E.AllEvaluated = record { hoisted = b.hoisted; rest = r } in e) rest

-- one more of them
followed-step : (a : E.AllEvaluated) (p : E.Evaluated) (r : E.AllEvaluated) → followed (and_next a p) r ≡ followed a (E.and_all p r)
followed-step a p r = parts-same (first-assoc a.hoisted p.hoisted r.hoisted) (rest-assoc a.rest p.rest r.rest)

rest-none : (r : Result (List Value) Fault) → then_with r (λ ys. Ok ys) ≡ r
rest-none (Ok ys) = refl
rest-none (Err f) = refl

rest-all : (r : Result (List Value) Fault) → then_with r (λ xs. Ok (xs ++ [])) ≡ r
rest-all (Ok xs) = ap Ok (append-nil xs)
rest-all (Err f) = refl

-- at first there is none of them
pub followed-first : (e r : E.AllEvaluated) → e ≡ record { hoisted = None; rest = Ok [] } → followed e r ≡ r
followed-first e r is = ap (λ a. followed a r) is ∙ parts-same refl (rest-none r.rest)

-- in the end there are all
pub followed-last : (a : E.AllEvaluated) → followed a (record { hoisted = None; rest = Ok [] }) ≡ a
followed-last a = parts-same (no_more a.hoisted) (rest-all a.rest)

-- the next expression of a list is evaluated
pub followed-next : {T : Type 0} (F : T → E.Evaluated) (All : List T → E.AllEvaluated) → ((x : T) (xs : List T) → All (x ∷ xs) ≡ E.and_all (F x) (All xs))
    → (all : E.AllEvaluated) (xs : List T) (i : ℕ) (d : T) (e : E.Evaluated) (whole : E.AllEvaluated) → i < length xs → e ≡ F (get_or xs i d) → followed all (All (drop i xs)) ≡ whole
    → followed (and_next all e) (All (drop (i + 1) xs)) ≡ whole
followed-next F All step all xs i d e whole lt is so_far =
    ap (λ p. followed (and_next all p) (All (drop (i + 1) xs))) is
    ∙ followed-step all (F (get_or xs i d)) (All (drop (i + 1) xs))
    ∙ ap (followed all) (sym (ap All (drop-next xs i d lt) ∙ step (get_or xs i d) (drop (i + 1) xs)))
    ∙ so_far

pub followed-end : {T : Type 0} (All : List T → E.AllEvaluated) → All [] ≡ record { hoisted = None; rest = Ok [] }
    → (all : E.AllEvaluated) (xs : List T) (i : ℕ) (whole : E.AllEvaluated) → length xs ≤ i → followed all (All (drop i xs)) ≡ whole → all ≡ whole
followed-end All nil all xs i whole le so_far = sym (followed-last all) ∙ ap (followed all) (sym (ap All (drop-end xs i le) ∙ nil)) ∙ so_far

-- ---- the slots of several targets

abbrev pub behind : List Slot → Result (List Slot) Fault → Result (List Slot) Fault
behind slots (Ok more) = Ok (slots ++ more)
behind slots (Err f) = Err f

pub behind-first : (r : Result (List Slot) Fault) → behind [] r ≡ r
behind-first (Ok ss) = refl
behind-first (Err f) = refl

more-slots : (slots : List Slot) (s : Slot) (r : Result (List Slot) Fault) → behind slots (then_with r (λ ss. Ok (s ∷ ss))) ≡ behind (slots ++ s ∷ []) r
more-slots slots s (Ok ss) = ap Ok (sym (append_assoc slots (s ∷ []) ss))
more-slots slots s (Err f) = refl

pub behind-next : (w : View) (ts : List Target) (i : ℕ) (d : Target) (slots : List Slot) (s : Slot) (whole : Result (List Slot) Fault) → i < length ts → slot_of w (get_or ts i d) ≡ Ok s
    → behind slots (slots_of w (drop i ts)) ≡ whole → behind (slots ++ s ∷ []) (slots_of w (drop (i + 1) ts)) ≡ whole
behind-next w ts i d slots s whole lt is so_far =
    sym (more-slots slots s (slots_of w (drop (i + 1) ts)))
    ∙ ap (behind slots) (sym (ap (slots_of w) (drop-next ts i d lt) ∙ ap (λ r. then_with r (λ k. then_with (slots_of w (drop (i + 1) ts)) (λ ss. Ok (k ∷ ss)))) is))
    ∙ so_far

pub behind-stop : (w : View) (ts : List Target) (i : ℕ) (d : Target) (slots : List Slot) (f : Fault) (whole : Result (List Slot) Fault) → i < length ts → slot_of w (get_or ts i d) ≡ Err f
    → behind slots (slots_of w (drop i ts)) ≡ whole → Err f ≡ whole
behind-stop w ts i d slots f whole lt is so_far =
    ap (behind slots) (sym (ap (slots_of w) (drop-next ts i d lt) ∙ ap (λ r. then_with r (λ k. then_with (slots_of w (drop (i + 1) ts)) (λ ss. Ok (k ∷ ss)))) is)) ∙ so_far

pub behind-end : (w : View) (ts : List Target) (i : ℕ) (slots : List Slot) (whole : Result (List Slot) Fault) → length ts ≤ i
    → behind slots (slots_of w (drop i ts)) ≡ whole → Ok slots ≡ whole
behind-end w ts i slots whole le so_far = ap Ok (sym (append-nil slots)) ∙ ap (behind slots) (sym (ap (slots_of w) (drop-end ts i le))) ∙ so_far

-- what one of the targets has room for, all have
pub room-more : (n b c : ℕ) (slot : Slot) → b ≤ c → HasSlot (room n b) slot → HasSlot (room n c) slot
room-more n b c (Scalar x) le lt = omega (arith, le, lt)
room-more n b c (Node p k) le lt = let here : p < b = lt.0 in (omega (arith, le, here), lt.1)

pub bound-at : (ts : List Target) (i : ℕ) (d : Target) → i < length ts → target_bound (get_or ts i d) ≤ targets_bound ts
bound-at [] i d lt = absurd (omega arith)
bound-at (t ∷ ts) zero d lt = le-max_left (target_bound t) (targets_bound ts)
bound-at (t ∷ ts) (suc i) d lt = let rest = bound-at ts i d (omega arith) in omega (arith, rest, le-max_right (target_bound t) (targets_bound ts))

-- ---- when they end

later-once : (e : Ends) → later AtOnce e ≡ e
later-once AtOnce = refl
later-once WithInner = refl
later-once WithOutermost = refl

outer-later : (e f : Ends) → (e ≡ WithInner → ⊥) → (f ≡ WithInner → ⊥) → later e f ≡ WithInner → ⊥
outer-later AtOnce AtOnce p q same = cc
outer-later AtOnce WithInner p q same = q refl
outer-later AtOnce WithOutermost p q same = cc
outer-later WithInner f p q same = absurd (p refl)
outer-later WithOutermost AtOnce p q same = cc
outer-later WithOutermost WithInner p q same = q refl
outer-later WithOutermost WithOutermost p q same = cc

-- in an outer body nothing ends with an inner loop
pub never-inner-all : (loop : Loop) (ts : List Target) → ends_of_all Outermost loop ts ≡ WithInner → ⊥
never-inner-all loop [] same = cc
never-inner-all loop (t ∷ ts) same = outer-later (ends_of Outermost loop t) (ends_of_all Outermost loop ts) (never-inner loop t) (never-inner-all loop ts) same

-- ---- writes to several slots

write-next : (s : Store) (xs : List Slot) (vs : List Value) (k : ℕ) (x : Slot) (v : Value) → k < length xs → k < length vs
    → write_all s (take (suc k) xs) (take (suc k) vs) ≡ write (write_all s (take k xs) (take k vs)) (get_or xs k x) (get_or vs k v)
write-next s [] vs k x v p q = absurd (omega arith)
write-next s (y ∷ ys) [] k x v p q = absurd (omega arith)
write-next s (y ∷ ys) (u ∷ us) zero x v p q = refl
write-next s (y ∷ ys) (u ∷ us) (suc k) x v p q = write-next (write s y u) ys us k x v (omega arith) (omega arith)

write-end : (s : Store) (xs : List Slot) (vs : List Value) (k : ℕ) → min (length xs) (length vs) ≤ k → write_all s (take k xs) (take k vs) ≡ write_all s xs vs
write-end s [] vs zero le = refl
write-end s [] vs (suc k) le = refl
write-end s (x ∷ xs) [] zero le = refl
write-end s (x ∷ xs) [] (suc k) le = refl
write-end s (x ∷ xs) (v ∷ vs) zero le = absurd (omega arith)
write-end s (x ∷ xs) (v ∷ vs) (suc k) le = write-end (write s x v) xs vs k (omega arith)

-- nothing is written at first
pub wrote-first : (f : Setting) (m : Mode) (g : Going) (xs : List Slot) (vs : List Value) → Does f m g g (λ it. wrote_all it (take 0 xs, take 0 vs))
wrote-first f m g xs vs = does-none f m g

-- one value more is written
pub wrote-next : (f : Setting) (m : Mode) (old mid new : Going) (xs : List Slot) (vs : List Value) (k : ℕ) (x : Slot) (v : Value) → k < length xs → k < length vs
    → Does f m old mid (λ it. wrote_all it (take k xs, take k vs)) → Does f m mid new (λ it. wrote it (get_or xs k x, get_or vs k v))
    → Does f m old new (λ it. wrote_all it (take (k + 1) xs, take (k + 1) vs))
wrote-next f m old mid new xs vs k x v p q first next =
    let more : k + 1 ≡ suc k = omega arith in
    does-as f m old new (λ it. wrote (wrote_all it (take k xs, take k vs)) (get_or xs k x, get_or vs k v)) (λ it. wrote_all it (take (k + 1) xs, take (k + 1) vs))
    (does-both f m old mid new (λ it. wrote_all it (take k xs, take k vs)) (λ it. wrote it (get_or xs k x, get_or vs k v)) first next)
    (λ it same.
    ap (λ s. let i : Iteration = record it { store = s } in i) (sym (write-next it.store xs vs k x v p q))
    ∙ ap (λ n. wrote_all it (take n xs, take n vs)) (sym more))

-- in the end all are written
pub wrote-last : (f : Setting) (m : Mode) (old new : Going) (xs : List Slot) (vs : List Value) (k : ℕ) → min (length xs) (length vs) ≤ k
    → Does f m old new (λ it. wrote_all it (take k xs, take k vs)) → Does f m old new (λ it. wrote_all it (xs, vs))
wrote-last f m old new xs vs k le all =
    does-as f m old new (λ it. wrote_all it (take k xs, take k vs)) (λ it. wrote_all it (xs, vs)) all
    (λ it same. ap (λ s. let i : Iteration = record it { store = s } in i) (write-end it.store xs vs k le))

-- ---- several targets at once

pub together-many : {X : Type 0} (w : View) (at : Place) (r : Reduce) (ts : List Target) (F : X → Expr) (xs : List X) → AreSeveral ts xs → together w at r ts (map F xs) ≡ at_once w at r ts (map F xs)
together-many w at r [] F xs many = refl
together-many w at r (t ∷ []) F [] many = refl
together-many w at r (t ∷ []) F (x ∷ []) many = absurd many
together-many w at r (t ∷ []) F (x ∷ (y ∷ xs)) many = refl
together-many w at r (t ∷ (u ∷ ts)) F xs many = refl
