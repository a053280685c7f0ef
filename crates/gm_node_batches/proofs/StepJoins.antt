-- Steps of nodes that follow one another.
use Rattle.std.proofs.Common.{◌≡◌, ◌∙◌, ◌<◌, ◌≤◌, ◌+◌, ◌-◌, ℕ, zero, suc, Option, None, List, [], ◌∷◌, ◌++◌, length, map, take, drop, get_or, refl, sym, ap, arith, append_assoc}
use Rattle.std.specs.List.{flat_map, range_with_len}
use Rattle.std.proofs.lemmas.List.{length-append, length-take-le, map-append}
use Rattle.std.proofs.lemmas.List.Concat.{flat_map-append}
use Rattle.std.proofs.lemmas.List.FromFn.{length-map-range_with_len}
use Rattle.gm_value.specs.declared.values.Value.{Value}
use Rattle.gm_image.specs.Views.{program}
use Rattle.gm_machine.specs.declared.faults.Fault.{Fault}
use Rattle.gm_machine.specs.declared.node_steps.Duty.{Duty}
use Rattle.gm_machine.specs.declared.node_steps.Nodes.{Nodes}
use Rattle.gm_machine.specs.declared.steps.Sent.{Sent}
use Rattle.gm_machine.specs.Duties.{StepsTo, between, node_of, place_after}
use Rattle.gm_machine.specs.Faults.{least_fault, lesser}
use Rattle.gm_machine.specs.Fields.{HeldFields}
use Rattle.gm_machine.specs.Steps.{step_after}
use Rattle.gm_machine.specs.Vertex.{After, Message}
use Rattle.gm_machine.proofs.LeastLaws.{least_from-right, least_right, lesser-assoc}
use Rattle.gm_machine.proofs.NodeSteps.{steps-long}

-- ranges
range-split : (a m n : ℕ) → range_with_len a (m + n) ≡ range_with_len a m ++ range_with_len (a + m) n
range-split a zero n = ap (λ k. range_with_len a k) (let e : 0 + n ≡ n = omega arith in e) ∙ ap (λ k. range_with_len k n) (let e : a ≡ a + 0 = omega arith in e)
range-split a (suc m) n =
    ap (range_with_len a) (let e : suc m + n ≡ suc (m + n) = omega arith in e)
    ∙ ap (λ l. a ∷ l) (range-split (a + 1) m n ∙ ap (λ k. range_with_len (a + 1) m ++ range_with_len k n) (let e : (a + 1) + m ≡ a + suc m = omega arith in e))

between-split : (from k to : ℕ) → from ≤ k → k ≤ to → between from to ≡ between from k ++ between k to
between-split from k to le more =
    ap (range_with_len from) (let e : to - from ≡ (k - from) + (to - k) = omega arith in e)
    ∙ range-split from (k - from) (to - k)
    ∙ ap (λ i. range_with_len from (k - from) ++ range_with_len i (to - k)) (let e : from + (k - from) ≡ k = omega arith in e)

pub map-range : {A : Type 0} (f f' : ℕ → A) (a n : ℕ) → ((i : ℕ) → a ≤ i → i < a + n → f i ≡ f' i) → map f (range_with_len a n) ≡ map f' (range_with_len a n)
map-range f f' a zero same = refl
map-range f f' a (suc n) same =
    ap (λ x. x ∷ map f (range_with_len (a + 1) n)) (same a (omega arith) (omega arith))
    ∙ ap (λ l. f' a ∷ l) (map-range f f' (a + 1) n (λ i low high. same i (omega arith) (omega arith)))

pub flat-range : {A : Type 0} (f f' : ℕ → List A) (a n : ℕ) → ((i : ℕ) → a ≤ i → i < a + n → f i ≡ f' i) → flat_map f (range_with_len a n) ≡ flat_map f' (range_with_len a n)
flat-range f f' a zero same = refl
flat-range f f' a (suc n) same =
    ap (λ x. x ++ flat_map f (range_with_len (a + 1) n)) (same a (omega arith) (omega arith))
    ∙ ap (λ l. f' a ++ l) (flat-range f f' (a + 1) n (λ i low high. same i (omega arith) (omega arith)))

least-append : (fs gs : List (Option Fault)) → least_fault (fs ++ gs) ≡ lesser (least_fault fs) (least_fault gs)
least-append fs gs =
    least_from-right None (fs ++ gs)
    ∙ both fs
    ∙ ap (λ f. lesser f (least_right gs)) (sym (least_from-right None fs))
    ∙ ap (lesser (least_fault fs)) (sym (least_from-right None gs))
  where
    both : (fs : List (Option Fault)) → least_right (fs ++ gs) ≡ lesser (least_right fs) (least_right gs)
    both [] = refl
    both (f ∷ fs) = ap (lesser f) (both fs) ∙ sym (lesser-assoc f (least_right fs) (least_right gs))

-- lists whose front is new
drop-nil : {A : Type 0} (k : ℕ) → (let l : List A = [] in drop k l) ≡ []
drop-nil zero = refl
drop-nil (suc k) = refl

behind : {A : Type 0} (xs ys : List A) (d : A) (i : ℕ) → length xs ≤ i → get_or (xs ++ drop (length xs) ys) i d ≡ get_or ys i d
behind [] ys d i low = refl
behind (x ∷ xs) ys d zero low = absurd (omega arith)
behind {A} (x ∷ xs) [] d (suc i) low = ap (λ l. get_or (xs ++ l) i d) (sym (drop-nil {A = A} (length xs))) ∙ behind xs [] d i (omega arith)
behind (x ∷ xs) (y ∷ ys) d (suc i) low = behind xs ys d i (omega arith)

front : {A : Type 0} (xs zs : List A) → take (length xs) (xs ++ zs) ≡ xs
front [] zs = refl
front (x ∷ xs) zs = ap (λ l. x ∷ l) (front xs zs)

past : {A : Type 0} (xs ys : List A) (k : ℕ) → length xs ≤ k → drop k (xs ++ drop (length xs) ys) ≡ drop k ys
past [] ys k low = refl
past (x ∷ xs) ys zero low = absurd (omega arith)
past {A} (x ∷ xs) [] (suc k) low = ap (λ l. drop k (xs ++ l)) (sym (drop-nil {A = A} (length xs))) ∙ past xs [] k (omega arith) ∙ drop-nil k
past (x ∷ xs) (y ∷ ys) (suc k) low = past xs ys k (omega arith)

-- some steps, and then those of the nodes behind
pub steps-next : (d : Duty) (ns : Nodes) (boxes : List (List Message)) (from k to : ℕ) (f0 f1 f2 : HeldFields) (s0 s1 s2 : Sent)
    → StepsTo (place_after d ns boxes f0.rows) from k f0 f1 s0 s1 → StepsTo (place_after d ns boxes f1.rows) k to f1 f2 s1 s2 → StepsTo (place_after d ns boxes f0.rows) from to f0 f2 s0 s2
steps-next d ns boxes from k to f0 f1 f2 s0 s1 s2 first second = record {
  ahead = omega (arith, first.ahead, second.ahead);
  within = omega (arith, second.within, steps-long a from k f0 f1 s0 s1 first);
  taken = record {
    width = second.taken.width ∙ first.taken.width;
    fields =
        second.taken.fields
        ∙ ap (λ l. l ++ (map (λ i. (b i).state.fields) (between k to) ++ drop to f1.rows))
        (ap (take k) rows ∙ ap (λ n. take n (done ++ drop (length done) f0.rows)) (sym many) ∙ front done (drop (length done) f0.rows))
        ∙ ap (λ l. done ++ (l ++ drop to f1.rows)) (map-range (λ i. (b i).state.fields) (λ i. (a i).state.fields) k (to - k) (λ i low high. ap (λ (x : After). x.state.fields) (same i low)))
        ∙ ap (λ l. done ++ (map (λ i. (a i).state.fields) (between k to) ++ l)) (ap (drop to) rows ∙ past done f0.rows to (omega (arith, many, second.ahead)))
        ∙ append_assoc (take from f0.rows) (map (λ i. (a i).state.fields) (between from k)) (map (λ i. (a i).state.fields) (between k to) ++ drop to f0.rows)
        ∙ ap (λ l. take from f0.rows ++ l)
        (sym (append_assoc (map (λ i. (a i).state.fields) (between from k)) (map (λ i. (a i).state.fields) (between k to)) (drop to f0.rows))
        ∙ ap (λ l. l ++ drop to f0.rows) (sym (ap (map (λ i. (a i).state.fields)) split ∙ map-append (λ i. (a i).state.fields) (between from k) (between k to))));
    messages = joined (λ x. x.state.messages) s0.messages s1.messages s2.messages first.taken.messages second.taken.messages;
    puts = joined (λ x. x.state.puts) s0.puts s1.puts s2.puts first.taken.puts second.taken.puts;
    fault =
        second.taken.fault
        ∙ ap (λ f. lesser f (least_fault (map (λ i. (b i).fault) (between k to)))) first.taken.fault
        ∙ ap (λ l. lesser (lesser s0.fault (least_fault (map (λ i. (a i).fault) (between from k)))) (least_fault l))
        (map-range (λ i. (b i).fault) (λ i. (a i).fault) k (to - k) (λ i low high. ap (λ (x : After). x.fault) (same i low)))
        ∙ lesser-assoc s0.fault (least_fault (map (λ i. (a i).fault) (between from k))) (least_fault (map (λ i. (a i).fault) (between k to)))
        ∙ ap (lesser s0.fault)
        (sym (least-append (map (λ i. (a i).fault) (between from k)) (map (λ i. (a i).fault) (between k to)))
        ∙ ap least_fault (sym (ap (map (λ i. (a i).fault)) split ∙ map-append (λ i. (a i).fault) (between from k) (between k to))));
  };
} where
  a : ℕ → After
  a i = place_after d ns boxes f0.rows i

  b : ℕ → After
  b i = place_after d ns boxes f1.rows i

  done : List (List Value)
  done = take from f0.rows ++ map (λ i. (a i).state.fields) (between from k)

  many : length done ≡ k
  many =
      let made : length (map (λ i. (a i).state.fields) (between from k)) ≡ k - from = length-map-range_with_len (λ i. (a i).state.fields) from (k - from) in
      omega (
        arith,
        length-append (take from f0.rows) (map (λ i. (a i).state.fields) (between from k)),
        length-take-le from f0.rows (omega (arith, first.ahead, first.within)),
        made,
        first.ahead,
      )

  rows : f1.rows ≡ done ++ drop (length done) f0.rows
  rows =
      first.taken.fields
      ∙ sym (append_assoc (take from f0.rows) (map (λ i. (a i).state.fields) (between from k)) (drop k f0.rows))
      ∙ ap (λ n. done ++ drop n f0.rows) (sym many)

  same : (i : ℕ) → k ≤ i → b i ≡ a i
  same i low =
      ap (λ l. step_after (program d.image.now) d.block d.globals.now d.graph.now (node_of ns i) (get_or boxes i []) l)
      (ap (λ l. get_or l i []) rows ∙ behind done f0.rows [] i (omega (arith, many, low)))

  split : between from to ≡ between from k ++ between k to
  split = between-split from k to (omega (arith, first.ahead)) (omega (arith, second.ahead))

  joined : {A : Type 0} (f : After → List A) (x0 x1 x2 : List A) → x1 ≡ x0 ++ flat_map (λ i. f (a i)) (between from k) → x2 ≡ x1 ++ flat_map (λ i. f (b i)) (between k to)
      → x2 ≡ x0 ++ flat_map (λ i. f (a i)) (between from to)
  joined f x0 x1 x2 one two =
      two
      ∙ ap (λ l. l ++ flat_map (λ i. f (b i)) (between k to)) one
      ∙ ap (λ l. (x0 ++ flat_map (λ i. f (a i)) (between from k)) ++ l) (flat-range (λ i. f (b i)) (λ i. f (a i)) k (to - k) (λ i low high. ap f (same i low)))
      ∙ append_assoc x0 (flat_map (λ i. f (a i)) (between from k)) (flat_map (λ i. f (a i)) (between k to))
      ∙ ap (λ l. x0 ++ l) (sym (ap (flat_map (λ i. f (a i))) split ∙ flat_map-append (λ i. f (a i)) (between from k) (between k to)))
