-- How sweeps, one after another, add to what is known of the locals.
use mathlib.Core.Bool.{beq}
use Rattle.std.proofs.Common.{◌≡◌, ℕ, ◌<◌, Bool, true, false, ◌||◌, ◌&&◌, cond, List, [], ◌∷◌, refl, sym, ap, subst, ◌∙◌, ◌⊎◌, inl, inr, Option, Some, None, is_some, arith}
use Rattle.std.specs.Prelude.{nat_eq, if◌then◌else◌}
use Rattle.std.proofs.lemmas.Bool.{true≢false, false≢true, or_cases, or_left, or_right, or_parts, and_from, eqb-true}
use Rattle.std.specs.Map.{lookup}
use Rattle.std.specs.Option.{option_eq}
use Rattle.gm_base.specs.declared.places.Place.{Place}
use Rattle.indexmap.specs.IndexMap.{get, insert_entry}
use Rattle.gm_ast.specs.declared.tree.Target.{Target}
use Rattle.gm_ast.specs.Program.{Stmt, Skip, Then, Declare, DeclareEdge, Assign, Defer, Combine, Group, Foreach, For, If, While, Do, InBfs, InBfsBoth, Return}
use Rattle.gm_ast.specs.Ways.{Mention, mentions, variable_of}
use Rattle.gm_ast.specs.Loops.{any}
use Rattle.gm_push_pull.specs.declared.reads.Reads.{Reads}
use Rattle.gm_push_pull.specs.declared.locals.Locals.{Locals}
use Rattle.gm_push_pull.specs.Reads.{joined, nothing, reads_rank}
use Rattle.gm_push_pull.specs.Tests.{Test, holds, passes_alone, passes}
use Rattle.gm_push_pull.specs.Locals.{is_known, held_so, or_nothing, noted_all}
use Rattle.gm_push_pull.specs.Sweeps.{compared, is_written, written, Demand, Demands, Below, facts_rank, Grows, Settles}
use Rattle.gm_push_pull.proofs.Ors.{or-assoc}
use Rattle.gm_push_pull.proofs.Among.{any-among, among-any}
use Rattle.gm_push_pull.proofs.Answers.{holds-joined, holds-nothing, holds-noted_all}

-- one sweep and then another
pub grows-then : {a b d : Locals} {D E : Test → (ℕ → Bool) → Type 0} {c e : Bool} → Grows a b D c → Grows b d E e → Grows a d (λ t B. D t B × E t B) (c || e)
grows-then {a = a} {b = b} {d = d} {E = E} {c = c} {e = e} first second = record {
  iterator = second.iterator ∙ first.iterator;
  known = λ x. second.known x ∙ first.known x;
  sound = λ t B h p. second.sound t B (first.sound t B h p.0) p.1;
  same = λ h. let k = or_parts c e h in second.same k.1 ∙ first.same k.0;
  settled = λ h t. let k = or_parts c e h in (first.settled k.0 t, subst (λ (l : Locals). E t (held_so l t)) (first.same k.0) (second.settled k.1 t));
  no_less = let p = first.no_less in let q = second.no_less in omega (arith, p, q);
  more = more c first.more second.more;
}
  where
    more : (x : Bool) → (x ≡ true → facts_rank b.facts.entries < facts_rank a.facts.entries) → (e ≡ true → facts_rank d.facts.entries < facts_rank b.facts.entries) → (x || e) ≡ true
        → facts_rank d.facts.entries < facts_rank a.facts.entries
    more true h k q = let p = h refl in let r = second.no_less in omega (arith, p, r)
    more false h k q = let p = k q in let r = first.no_less in omega (arith, p, r)

-- other demands that force the same
pub grows-by : {a b : Locals} {D E : Test → (ℕ → Bool) → Type 0} {c : Bool}
    → ((t : Test) (B : ℕ → Bool) → Below a t B → E t B → D t B) → ((t : Test) → D t (held_so a t) → E t (held_so a t)) → Grows a b D c → Grows a b E c
grows-by there back g = record {
  iterator = g.iterator;
  known = g.known;
  sound = λ t B h p. g.sound t B h (there t B h p);
  same = g.same;
  settled = λ h t. back t (g.settled h t);
  no_less = g.no_less;
  more = g.more;
}

-- nothing is added where nothing is demanded
pub grows-none : (a : Locals) {D : Test → (ℕ → Bool) → Type 0} → ((t : Test) → D t (held_so a t)) → Grows a a D false
grows-none a h = record {
  iterator = refl;
  known = λ x. refl;
  sound = λ t B k p. k;
  same = λ k. refl;
  settled = λ k. h;
  no_less = omega arith;
  more = λ k. absurd (false≢true k);
}

-- a smaller number for a local makes the sum smaller
less-inserted : (v : ℕ) (before after : Reads) (es : List (ℕ × Reads)) → lookup (nat_eq v) es ≡ Some before → reads_rank after < reads_rank before → facts_rank (insert_entry nat_eq es v after) < facts_rank es
less-inserted v before after [] h k = absurd (cc)
less-inserted v before after (e ∷ es) h k = on (nat_eq v e.0) h (less-inserted v before after es)
  where
    on : (b : Bool) → cond b (Some e.1) (lookup (nat_eq v) es) ≡ Some before
        → (lookup (nat_eq v) es ≡ Some before → reads_rank after < reads_rank before → facts_rank (insert_entry nat_eq es v after) < facts_rank es)
        → facts_rank (if b then (e.0, after) ∷ es else e ∷ insert_entry nat_eq es v after) < facts_rank (e ∷ es)
    on true q go = let same : e.1 ≡ before = cc in let r : reads_rank e.1 ≡ reads_rank before = ap reads_rank same in omega (arith, k, r)
    on false q go = let r = go q k in omega (arith, r)

-- what is known of one local more
pub grows-added : {a b : Locals} (v : ℕ) (before reads : Reads) → get nat_eq a.facts v ≡ Some before → b.iterator ≡ a.iterator
    → ((q : ℕ) → get nat_eq b.facts q ≡ cond (nat_eq v q) (Some (joined before reads)) (get nat_eq a.facts q))
    → b.facts.entries ≡ insert_entry nat_eq a.facts.entries v (joined before reads) → reads_rank (joined before reads) < reads_rank before
    → Grows a b (λ t B. Demand (is_known a) B (nat_eq v) (holds reads t)) true
grows-added {a = a} {b = b} v before reads at iterator updates entries lower = record {
  iterator = iterator;
  known = λ x. ap is_some (updates x) ∙ keeps x (nat_eq v x) refl;
  sound = λ t B h d x k. below t B h d x (nat_eq v x) refl (sym (ap (λ (o : Option Reads). holds (or_nothing o) t) (updates x)) ∙ k);
  same = λ h. absurd (true≢false h);
  settled = λ h. absurd (true≢false h);
  no_less = let p = smaller in omega (arith, p);
  more = λ h. smaller;
}
  where
    smaller : facts_rank b.facts.entries < facts_rank a.facts.entries
    smaller = subst (λ es. facts_rank es < facts_rank a.facts.entries) (sym entries) (less-inserted v before (joined before reads) a.facts.entries at lower)

    keeps : (x : ℕ) (c : Bool) → nat_eq v x ≡ c → is_some (cond c (Some (joined before reads)) (get nat_eq a.facts x)) ≡ is_known a x
    keeps x true e = sym (ap is_some (ap (get nat_eq a.facts) (sym (eqb-true v x e)) ∙ at))
    keeps x false e = refl

    below : (t : Test) (B : ℕ → Bool) → Below a t B → Demand (is_known a) B (nat_eq v) (holds reads t) → (x : ℕ) (c : Bool) → nat_eq v x ≡ c
        → holds (or_nothing (cond c (Some (joined before reads)) (get nat_eq a.facts x))) t ≡ true → B x ≡ true
    below t B h d x false e k = h x k
    below t B h d x true e k = on (or_cases (holds before t) (holds reads t) (sym (holds-joined t before reads) ∙ k))
      where
        here : get nat_eq a.facts x ≡ Some before
        here = ap (get nat_eq a.facts) (sym (eqb-true v x e)) ∙ at

        on : ((holds before t ≡ true) ⊎ (holds reads t ≡ true)) → B x ≡ true
        on (inl q) = h x (ap (λ (o : Option Reads). holds (or_nothing o) t) here ∙ q)
        on (inr q) = d x (ap is_some here) e q

-- a demand from less
pub demand-less : (known B writes : ℕ → Bool) (h k : Bool) → (h ≡ true → k ≡ true) → Demand known B writes k → Demand known B writes h
demand-less known B writes h k le d x a b c = d x a b (le c)

-- a condition or what is written, from less
or-more : (h k r : Bool) → (h ≡ true → k ≡ true) → (h || r) ≡ true → (k || r) ≡ true
or-more true k r le q = or_left k r (le refl)
or-more false k r le q = or_right k r q

-- the demands of a statement under conditions that hold of less
pub demands-less : (i : ℕ) (known : ℕ → Bool) (t : Test) (B : ℕ → Bool) (s : Stmt) (h k : Bool) → (h ≡ true → k ≡ true) → Demands i known t B s k → Demands i known t B s h
demands-less i known t B (Then a b) h k le d = (demands-less i known t B a h k le d.0, demands-less i known t B b h k le d.1)
demands-less i known t B (If key c a b) h k le d =
    let r = any (passes i t B) (mentions c) in
    (demands-less i known t B a (h || r) (k || r) (or-more h k r le) d.0, demands-less i known t B b (h || r) (k || r) (or-more h k r le) d.1)
demands-less i known t B (Declare key x (Some e)) h k le d = demand-less known B (nat_eq x) (h || any (passes i t B) (mentions e)) (k || any (passes i t B) (mentions e)) (or-more h k (any (passes i t B) (mentions e)) le) d
demands-less i known t B (Declare key x None) h k le d = demand-less known B (nat_eq x) h k le d
demands-less i known t B (Assign key target e) h k le d = demand-less known B (is_written target) (h || any (passes i t B) (mentions e)) (k || any (passes i t B) (mentions e)) (or-more h k (any (passes i t B) (mentions e)) le) d
demands-less i known t B (Combine key total r ts es) h k le d = demand-less known B (written ts) (h || any (passes i t B) (compared ts es)) (k || any (passes i t B) (compared ts es)) (or-more h k (any (passes i t B) (compared ts es)) le) d
demands-less i known t B Skip h k le d = tt
demands-less i known t B (DeclareEdge x y at) h k le d = tt
demands-less i known t B (Defer key target e) h k le d = tt
demands-less i known t B (Group key at g p e) h k le d = tt
demands-less i known t B (Foreach key at head f s) h k le d = tt
demands-less i known t B (For key at head f s) h k le d = tt
demands-less i known t B (While key at e s) h k le d = tt
demands-less i known t B (Do key at s e) h k le d = tt
demands-less i known t B (InBfs key at search f s) h k le d = tt
demands-less i known t B (InBfsBoth key at search f s kb fb sb) h k le d = tt
demands-less i known t B (Return key at e) h k le d = tt

-- a test of mentions, for answers that hold of more
any-more : (i : ℕ) (t : Test) (B C : ℕ → Bool) (ms : List Mention) → ((x : ℕ) → B x ≡ true → C x ≡ true) → any (passes i t B) ms ≡ true → any (passes i t C) ms ≡ true
any-more i t B C ms le h =
    let m = among-any (passes i t B) ms h in
    any-among (passes i t C) m.0 ms m.1 (on m.0 (or_cases (passes_alone i t m.0) (B (variable_of m.0)) m.2))
  where
    on : (m : Mention) → ((passes_alone i t m ≡ true) ⊎ (B (variable_of m) ≡ true)) → passes i t C m ≡ true
    on m (inl q) = or_left (passes_alone i t m) (C (variable_of m)) q
    on m (inr q) = or_right (passes_alone i t m) (C (variable_of m)) (le (variable_of m) q)

-- what is read with mentions added is no more than the demands' answers
pub noted-below : (a : Locals) (t : Test) (B : ℕ → Bool) (r : Reads) (ms : List Mention) → Below a t B → holds (noted_all a r ms) t ≡ true → (holds r t || any (passes a.iterator t B) ms) ≡ true
noted-below a t B r ms h k = on (or_cases (holds r t) (any (passes a.iterator t (held_so a t)) ms) (sym (holds-noted_all t a r ms) ∙ k))
  where
    on : ((holds r t ≡ true) ⊎ (any (passes a.iterator t (held_so a t)) ms ≡ true)) → (holds r t || any (passes a.iterator t B) ms) ≡ true
    on (inl q) = or_left (holds r t) _ q
    on (inr q) = or_right (holds r t) _ (any-more a.iterator t (held_so a t) B ms h q)

-- a value that is written
pub grows-written : {a b : Locals} {c : Bool} (writes : ℕ → Bool) (r : Reads) (ms : List Mention) → Grows a b (λ t B. Demand (is_known a) B writes (holds (noted_all a r ms) t)) c
    → Grows a b (λ t B. Demand (is_known a) B writes (holds r t || any (passes a.iterator t B) ms)) c
grows-written {a = a} writes r ms g = grows-by
    (λ t B h d. demand-less (is_known a) B writes (holds (noted_all a r ms) t) (holds r t || any (passes a.iterator t B) ms) (noted-below a t B r ms h) d)
    (λ t d. subst (Demand (is_known a) (held_so a t) writes) (holds-noted_all t a r ms) d)
    g

-- statements under a condition
pub grows-If : {a b d : Locals} {c e : Bool} (one other : Stmt) (r : Reads) (ms : List Mention)
    → Grows a b (λ t B. Demands a.iterator (is_known a) t B one (holds (noted_all a r ms) t)) c
    → Grows b d (λ t B. Demands b.iterator (is_known b) t B other (holds (noted_all a r ms) t)) e
    → Grows a d (λ t B. Demands a.iterator (is_known a) t B one (holds r t || any (passes a.iterator t B) ms) × Demands a.iterator (is_known a) t B other (holds r t || any (passes a.iterator t B) ms)) (c || e)
grows-If {a = a} {b = b} {d = d} {c = c} {e = e} one other r ms first second =
    let h = noted_all a r ms in
    let known : is_known b ≡ is_known a = λ j x. first.known x j in
    let second' : Grows b d (λ t B. Demands a.iterator (is_known a) t B other (holds (noted_all a r ms) t)) e =
    subst (λ (w : ℕ → Bool). Grows b d (λ t B. Demands a.iterator w t B other (holds (noted_all a r ms) t)) e) known
    (subst (λ (i : ℕ). Grows b d (λ t B. Demands i (is_known b) t B other (holds (noted_all a r ms) t)) e) first.iterator second) in
    grows-by
    (λ t B k p. (
      demands-less a.iterator (is_known a) t B one (holds (noted_all a r ms) t) (holds r t || any (passes a.iterator t B) ms) (noted-below a t B r ms k) p.0,
      demands-less a.iterator (is_known a) t B other (holds (noted_all a r ms) t) (holds r t || any (passes a.iterator t B) ms) (noted-below a t B r ms k) p.1,
    ))
    (λ t p. (
      subst (Demands a.iterator (is_known a) t (held_so a t) one) (holds-noted_all t a r ms) p.0,
      subst (Demands a.iterator (is_known a) t (held_so a t) other) (holds-noted_all t a r ms) p.1,
    ))
    (grows-then first second')

-- one statement of a block, and then what is left
pub grows-next : {a b d : Locals} {c e : Bool} (i : ℕ) (known : ℕ → Bool) (first rest : Stmt) (r : Reads) → b.iterator ≡ a.iterator → a.iterator ≡ i → is_known a ≡ known
    → Grows a b (λ t B. Demands a.iterator (is_known a) t B first (holds r t)) c → Grows b d (λ t B. Demands i known t B rest (holds r t)) e
    → Grows a d (λ t B. Demands i known t B (Then first rest) (holds r t)) (c || e)
grows-next {a = a} {b = b} {c = c} i known first rest r same at k g h =
    grows-then (subst (λ (w : ℕ → Bool). Grows a b (λ t B. Demands i w t B first (holds r t)) c) k (subst (λ (j : ℕ). Grows a b (λ t B. Demands j (is_known a) t B first (holds r t)) c) at g)) h

-- reads are the same as themselves
pub eq-itself : (same : Place → Place → Bool) → ((p : Place) → same p p ≡ true) → (r : Reads) → (beq r.neighbour r.neighbour && option_eq same r.edge r.edge) ≡ true
eq-itself same h r = and_from (beq r.neighbour r.neighbour) (option_eq same r.edge r.edge) (flag r.neighbour) (place r.edge)
  where
    flag : (b : Bool) → beq b b ≡ true
    flag true = refl
    flag false = refl

    place : (o : Option Place) → option_eq same o o ≡ true
    place None = refl
    place (Some p) = h p

-- one statement of a block more, where what is left is known to be enough
pub sweep-next : {z self mid : Locals} {e : Bool} (changed : Bool) (r : Reads) (all first rest : Stmt) → self.iterator ≡ z.iterator → ((x : ℕ) → is_known self x ≡ is_known z x)
    → ((new : Locals) (more : Bool) → Grows self new (λ t B. Demands z.iterator (is_known z) t B (Then first rest) (holds r t)) more → Grows z new (λ t B. Demands z.iterator (is_known z) t B all (holds r t)) (changed || more))
    → Grows self mid (λ t B. Demands self.iterator (is_known self) t B first (holds r t)) e
    → (new : Locals) (more : Bool) → Grows mid new (λ t B. Demands z.iterator (is_known z) t B rest (holds r t)) more → Grows z new (λ t B. Demands z.iterator (is_known z) t B all (holds r t)) ((changed || e) || more)
sweep-next {z = z} {self = self} {e = e} changed r all first rest iterator known left g new more h =
    subst (λ b. Grows z new (λ t B. Demands z.iterator (is_known z) t B all (holds r t)) b) (sym (or-assoc changed e more))
    (left new (e || more) (grows-next z.iterator (is_known z) first rest r g.iterator iterator (λ j x. known x j) g h))

-- a value that is written to one target more
pub write-next : {z self mid : Locals} {e : Bool} (changed : Bool) (r : Reads) (all : List Target) (first : Target) (rest : List Target) → ((x : ℕ) → is_known self x ≡ is_known z x)
    → ((new : Locals) (more : Bool) → Grows self new (λ t B. Demand (is_known z) B (written (first ∷ rest)) (holds r t)) more → Grows z new (λ t B. Demand (is_known z) B (written all) (holds r t)) (changed || more))
    → Grows self mid (λ t B. Demand (is_known self) B (is_written first) (holds r t)) e
    → (new : Locals) (more : Bool) → Grows mid new (λ t B. Demand (is_known z) B (written rest) (holds r t)) more → Grows z new (λ t B. Demand (is_known z) B (written all) (holds r t)) ((changed || e) || more)
write-next {z = z} {self = self} {mid = mid} {e = e} changed r all first rest known left g new more h =
    let g' : Grows self mid (λ t B. Demand (is_known z) B (is_written first) (holds r t)) e = subst (λ (w : ℕ → Bool). Grows self mid (λ t B. Demand w B (is_written first) (holds r t)) e) (λ j x. known x j) g in
    subst (λ b. Grows z new (λ t B. Demand (is_known z) B (written all) (holds r t)) b) (sym (or-assoc changed e more))
    (left new (e || more) (grows-by (λ t B k d. (λ x a b q. d x a (or_left (is_written first x) (written rest x) b) q, λ x a b q. d x a (or_right (is_written first x) (written rest x) b) q))
    (λ t d x a b q. either t d x a q (or_cases (is_written first x) (written rest x) b)) (grows-then g' h)))
  where
    either : (t : Test) → (Demand (is_known z) (held_so self t) (is_written first) (holds r t) × Demand (is_known z) (held_so self t) (written rest) (holds r t)) → (x : ℕ) → is_known z x ≡ true → holds r t ≡ true
        → ((is_written first x ≡ true) ⊎ (written rest x ≡ true)) → held_so self t x ≡ true
    either t d x a q (inl b) = d.0 x a b q
    either t d x a q (inr b) = d.1 x a b q

-- a sweep over a whole body keeps what is known within its demands
pub settles-sound : (z : Locals) {self mid : Locals} (s : Stmt) → self.iterator ≡ z.iterator → ((x : ℕ) → is_known self x ≡ is_known z x)
    → ((t : Test) (B : ℕ → Bool) → Below z t B → Demands z.iterator (is_known z) t B s false → Below self t B)
    → (changed : Bool) → Grows self mid (λ t B. Demands self.iterator (is_known self) t B s (holds nothing t)) changed
    → (t : Test) (B : ℕ → Bool) → Below z t B → Demands z.iterator (is_known z) t B s false → Below mid t B
settles-sound z {self = self} s iterator known sound changed g t B h d =
    g.sound t B (sound t B h d)
    (subst (λ (j : ℕ). Demands j (is_known self) t B s (holds nothing t)) (sym iterator)
    (subst (λ (w : ℕ → Bool). Demands z.iterator w t B s (holds nothing t)) (λ k x. sym (known x) k)
    (subst (Demands z.iterator (is_known z) t B s) (sym (holds-nothing t)) d)))

-- a sweep that changes nothing is the last
pub settles-end : (z : Locals) {self mid : Locals} (s : Stmt) → self.iterator ≡ z.iterator → ((x : ℕ) → is_known self x ≡ is_known z x)
    → ((t : Test) (B : ℕ → Bool) → Below z t B → Demands z.iterator (is_known z) t B s false → Below self t B)
    → (changed : Bool) → Grows self mid (λ t B. Demands self.iterator (is_known self) t B s (holds nothing t)) changed → changed ≡ false → Settles z mid s
settles-end z {self = self} {mid = mid} s iterator known sound changed g done = record {
  iterator = g.iterator ∙ iterator;
  known = λ x. g.known x ∙ known x;
  sound = settles-sound z s iterator known sound changed g;
  settled = λ t.
      subst (λ (l : Locals). Demands z.iterator (is_known z) t (held_so l t) s false) (sym (g.same done))
      (subst (λ (j : ℕ). Demands j (is_known z) t (held_so self t) s false) iterator
      (subst (λ (w : ℕ → Bool). Demands self.iterator w t (held_so self t) s false) (λ k x. known x k)
      (subst (Demands self.iterator (is_known self) t (held_so self t) s) (holds-nothing t) (g.settled done t))));
}
