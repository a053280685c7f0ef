-- What is found of a body whose locals are settled is what the definitions say.
use Rattle.std.proofs.Common.{◌≡◌, ℕ, Bool, true, false, ◌||◌, ◌&&◌, not, cond, List, [], ◌∷◌, ◌++◌, map, filter, refl, sym, ap, subst, ◌∙◌, Option, Some, None, is_some, option_map}
use Rattle.std.specs.Prelude.{nat_eq, flat_map, if◌then◌else◌}
use Rattle.std.proofs.lemmas.Bool.{true≢false, false≢true}
use Rattle.std.proofs.lemmas.List.Elements.{filter-append}
use Rattle.indexmap.specs.IndexMap.{get}
use Rattle.gm_base.specs.declared.places.Place.{Place}
use Rattle.gm_base.specs.declared.rules.Rule.TheVariants.{C7}
use Rattle.gm_base.specs.Rules.{broken_at, least}
use Rattle.gm_ast.specs.declared.tree.Head.{Head}
use Rattle.gm_ast.specs.declared.tree.Target.{Target}
use Rattle.gm_ast.specs.Program.{Expr, Stmt, Skip, Then, Declare, DeclareEdge, Assign, Defer, Combine, Group, Foreach, For, If, While, Do, InBfs, InBfsBoth, Return}
use Rattle.gm_ast.specs.Ways.{Mention, mentions, edge_reads, held_of, Action, actions, locals, is_in, is_local, all_local, owner_of, own_mentions, support, ends_with_loop, reductions_of, way_by, way_in, ways_of, is_against, reads_against, edges_against}
use Rattle.gm_ast.specs.Loops.{any}
use Rattle.gm_push_pull.specs.declared.reads.Reads.{Reads}
use Rattle.gm_push_pull.specs.declared.locals.Locals.{Locals}
use Rattle.gm_push_pull.specs.Places.{earlier, first_from, is_by, there_by}
use Rattle.gm_push_pull.specs.Reads.{nothing}
use Rattle.gm_push_pull.specs.Tests.{Test, Neighbour, AnyEdge, EdgeBy, holds, passes_alone, passes}
use Rattle.gm_push_pull.specs.Locals.{is_known, held_by, held_so, or_nothing, noted_all, Gathers}
use Rattle.gm_push_pull.specs.Sweeps.{compared, Demands, Settles, IsSettled}
use Rattle.gm_push_pull.specs.Finding.{known_target, all_known, Reduction, reductions, way_found, first_against}
use Rattle.gm_push_pull.proofs.Among.{any-append}
use Rattle.gm_push_pull.proofs.Ors.{or-assoc, or-swap, or-nothing}
use Rattle.gm_push_pull.proofs.Firsts.{by-earlier, first-by, same-place, least-at}
use Rattle.gm_push_pull.proofs.Answers.{holds-nothing, holds-noted_all}
use Rattle.gm_push_pull.proofs.Supports.{rests_on_such, least-closed, support-passes}
use Rattle.gm_push_pull.proofs.Bodies.{looked-at, demands-closed, closed-demands}

-- a body whose locals are gathered from none, and then settled
pub settled-body : {z mid l : Locals} (i : ℕ) (s : Stmt) → z.iterator ≡ i → ((x : ℕ) → get nat_eq z.facts x ≡ None) → Gathers z mid (locals s) → Settles mid l s → IsSettled l i s
settled-body {z = z} {mid = mid} {l = l} i s iterator none g h = record {
  iterator = h.iterator ∙ at;
  known = λ x. h.known x ∙ known x;
  sound = λ t B d. h.sound t B (λ x k. absurd (false≢true (sym (ap (λ (r : Reads). holds r t) (plain x) ∙ holds-nothing t) ∙ k)))
      (subst (λ (j : ℕ). Demands j (is_known mid) t B s false) (sym at) (subst (λ (w : ℕ → Bool). Demands i w t B s false) (λ j x. sym (known x) j) d));
  settled = λ t. subst (λ (j : ℕ). Demands j (is_in (locals s)) t (held_so l t) s false) at (subst (λ (w : ℕ → Bool). Demands mid.iterator w t (held_so l t) s false) (λ j x. known x j) (h.settled t));
}
  where
    at : mid.iterator ≡ i
    at = g.iterator ∙ iterator

    known : (x : ℕ) → is_known mid x ≡ is_in (locals s) x
    known x = g.known x ∙ ap (λ (o : Option Reads). is_some o || is_in (locals s) x) (none x)

    plain : (x : ℕ) → held_by mid x ≡ nothing
    plain = g.plain (λ x. ap or_nothing (none x))

-- a question of a reduction's own parts, where what is known of locals counts, is one of its support
pub support-so : (l : Locals) (i : ℕ) (body : Stmt) → IsSettled l i body → (t : Test) (test : Expr) (a : Action)
    → any (passes i t (held_so l t)) (own_mentions test a) ≡ any (passes_alone i t) (support body test a)
support-so l i body h t test a =
    let own = locals body in
    let all = actions body [] in
    let p = passes_alone i t in
    sym (support-passes own all p (held_so l t) (closed-demands i (is_in own) t (held_so l t) body [] (h.settled t))
    (h.sound t (rests_on_such own all p) (demands-closed i (is_in own) t (rests_on_such own all p) body [] (least-closed own all p))) (own_mentions test a))

-- targets that are all known are all locals
same-target : (l : Locals) (i : ℕ) (body : Stmt) → IsSettled l i body → (t : Target) → known_target l t ≡ is_local (locals body) t
same-target l i body h (Target.Scalar x at) = h.known x
same-target l i body h (Target.Property x p at) = refl

same-targets : (l : Locals) (i : ℕ) (body : Stmt) → IsSettled l i body → (ts : List Target) → all_known l ts ≡ all_local (locals body) ts
same-targets l i body h [] = refl
same-targets l i body h (t ∷ ts) = ap (λ b. b && all_known l ts) (same-target l i body h t) ∙ ap (λ b. is_local (locals body) t && b) (same-targets l i body h ts)

-- a value that is read under conditions, in the order of the walk and in that of the definition
under : (f c m : Bool) → ((f || c) || m) ≡ (f || (m || c))
under true c m = refl
under false c m = or-swap c m

parts : (f c v o : Bool) → (((f || c) || v) || o) ≡ ((c || v) || (o || f))
parts true true true true = refl
parts true true true false = refl
parts true true false true = refl
parts true true false false = refl
parts true false true true = refl
parts true false true false = refl
parts true false false true = refl
parts true false false false = refl
parts false true true true = refl
parts false true true false = refl
parts false true false true = refl
parts false true false false = refl
parts false false true true = refl
parts false false true false = refl
parts false false false true = refl
parts false false false false = refl

module _ (l : Locals) (body : Stmt) (test : Expr) (settled : IsSettled l l.iterator body) where
  -- a reduction as it is found, and as the definitions have it
  record Matches (x : Reduction) (a : Action) : Type 0 where
    targets : x.targets ≡ a.targets
    reads : (t : Test) → holds x.reads t ≡ any (passes l.iterator t (held_so l t)) (own_mentions test a)

  -- the same of several
  abbrev All : List Reduction → List Action → Type 0
  All [] [] = Unit {0}
  All [] (a ∷ as') = ⊥
  All (x ∷ xs) [] = ⊥
  All (x ∷ xs) (a ∷ as') = Matches x a × All xs as'

  all-append : (xs ys : List Reduction) (as' bs : List Action) → All xs as' → All ys bs → All (xs ++ ys) (as' ++ bs)
  all-append [] ys [] bs h k = k
  all-append [] ys (a ∷ as') bs h k = absurd h
  all-append (x ∷ xs) ys [] bs h k = absurd h
  all-append (x ∷ xs) ys (a ∷ as') bs h k = (h.0, all-append xs ys as' bs h.1 k)

  -- what is read around a statement is what the filter and the conditions mention
  abbrev Around : Reads → List Mention → Type 0
  Around r cs = (t : Test) → holds r t ≡ (any (passes l.iterator t (held_so l t)) (mentions test) || any (passes l.iterator t (held_so l t)) cs)

  around-more : (r : Reads) (ms cs : List Mention) → Around r cs → Around (noted_all l r ms) (ms ++ cs)
  around-more r ms cs h t =
      let p = passes l.iterator t (held_so l t) in
      holds-noted_all t l r ms ∙ ap (λ b. b || any p ms) (h t) ∙ under (any p (mentions test)) (any p cs) (any p ms)
      ∙ ap (λ b. any p (mentions test) || b) (sym (any-append p ms cs))

  -- ms: what it looks at; cs: the conditions around; both: these in some order
  one-match : (ts : List Target) (ms cs both : List Mention) (r : Reads) → Around r cs → ((p : Mention → Bool) → any p both ≡ (any p cs || any p ms))
      → Matches (record { targets = ts; reads = noted_all l (noted_all l r ms) (flat_map owner_of ts) }) (record { reduces = true; targets = ts; mentioned = both })
  one-match ts ms cs both r h same = record {
    targets = refl;
    reads = λ t.
        let p = passes l.iterator t (held_so l t) in
        holds-noted_all t l (noted_all l r ms) (flat_map owner_of ts) ∙ ap (λ b. b || any p (flat_map owner_of ts)) (holds-noted_all t l r ms ∙ ap (λ b. b || any p ms) (h t))
        ∙ parts (any p (mentions test)) (any p cs) (any p ms) (any p (flat_map owner_of ts))
        ∙ ap (λ b. b || (any p (flat_map owner_of ts) || any p (mentions test))) (sym (same p))
        ∙ ap (λ b. any p both || b) (sym (any-append p (flat_map owner_of ts) (mentions test)))
        ∙ sym (any-append p both (flat_map owner_of ts ++ mentions test));
  }

  one-or-none : (x : Reduction) (a : Action) → Matches x a → (b c : Bool) → b ≡ c → All (if b then [] else (x ∷ [])) (cond (not c) (a ∷ []) [])
  one-or-none x a m true true e = tt
  one-or-none x a m true false e = absurd (true≢false e)
  one-or-none x a m false true e = absurd (false≢true e)
  one-or-none x a m false false e = (m, tt)

  both-match : (xs ys : List Reduction) (as' bs : List Action) → All xs (filter (ends_with_loop (locals body)) as') → All ys (filter (ends_with_loop (locals body)) bs)
      → All (xs ++ ys) (filter (ends_with_loop (locals body)) (as' ++ bs))
  both-match xs ys as' bs h k = subst (All (xs ++ ys)) (sym (filter-append (ends_with_loop (locals body)) as' bs))
      (all-append xs ys (filter (ends_with_loop (locals body)) as') (filter (ends_with_loop (locals body)) bs) h k)

  -- the reductions of a statement
  all-match : (s : Stmt) (r : Reads) (cs : List Mention) → Around r cs → All (reductions l s r) (filter (ends_with_loop (locals body)) (actions s cs))
  all-match (Then a b) r cs h = both-match (reductions l a r) (reductions l b r) (actions a cs) (actions b cs) (all-match a r cs h) (all-match b r cs h)
  all-match (If k c a b) r cs h =
      let ds = mentions c ++ cs in
      let q = noted_all l r (mentions c) in
      both-match (reductions l a q) (reductions l b q) (actions a ds) (actions b ds) (all-match a q ds (around-more r (mentions c) cs h)) (all-match b q ds (around-more r (mentions c) cs h))
  all-match (Combine k total op ts es) r cs h =
      let both = flat_map mentions es ++ (flat_map held_of ts ++ cs) in
      one-or-none (record { targets = ts; reads = noted_all l (noted_all l r (compared ts es)) (flat_map owner_of ts) }) (record { reduces = true; targets = ts; mentioned = both })
      (one-match ts (compared ts es) cs both r h (λ p. looked-at p ts es cs)) (all_known l ts) (all_local (locals body) ts) (same-targets l l.iterator body settled ts)
  all-match (Declare k x (Some e)) r cs h = tt
  all-match (Declare k x None) r cs h = tt
  all-match (Assign k target e) r cs h = tt
  all-match Skip r cs h = tt
  all-match (DeclareEdge x y at) r cs h = tt
  all-match (Defer key target e) r cs h = tt
  all-match (Group key at g p e) r cs h = tt
  all-match (Foreach key at head f s) r cs h = tt
  all-match (For key at head f s) r cs h = tt
  all-match (While key at e s) r cs h = tt
  all-match (Do key at s e) r cs h = tt
  all-match (InBfs key at search f s) r cs h = tt
  all-match (InBfsBoth key at search f s kb fb sb) r cs h = tt
  all-match (Return key at e) r cs h = tt

  -- what the support of a reduction is found to read
  so : (x : Reduction) (a : Action) → Matches x a → (t : Test) → holds x.reads t ≡ any (passes_alone l.iterator t) (support body test a)
  so x a m t = m.reads t ∙ support-so l l.iterator body settled t test a

  module _ (h : Head) (at : h.iterator ≡ l.iterator) where
    -- its way
    same-way : (x : Reduction) (a : Action) → Matches x a → way_found h x ≡ way_in h test body a
    same-way x a m =
        let n : x.reads.neighbour ≡ any (passes_alone h.iterator Neighbour) (support body test a) = subst (λ (j : ℕ). x.reads.neighbour ≡ any (passes_alone j Neighbour) (support body test a)) (sym at) (so x a m Neighbour) in
        let e : is_some x.reads.edge ≡ any (passes_alone h.iterator AnyEdge) (support body test a) = subst (λ (j : ℕ). is_some x.reads.edge ≡ any (passes_alone j AnyEdge) (support body test a)) (sym at) (so x a m AnyEdge) in
        ap (λ ts. way_by h ts x.reads.neighbour (is_some x.reads.edge)) m.targets ∙ ap (λ b. way_by h a.targets b (is_some x.reads.edge)) n
        ∙ ap (way_by h a.targets (any (passes_alone h.iterator Neighbour) (support body test a))) e

    same-ways : (xs : List Reduction) (as' : List Action) → All xs as' → map (way_found h) xs ≡ map (way_in h test body) as'
    same-ways [] [] m = refl
    same-ways [] (a ∷ as') m = absurd m
    same-ways (x ∷ xs) [] m = absurd m
    same-ways (x ∷ xs) (a ∷ as') m = ap (λ w. w ∷ map (way_found h) xs) (same-way x a m.0) ∙ ap (λ ws. way_in h test body a ∷ ws) (same-ways xs as' m.1)

    pub found-ways : (r : Reads) → Around r [] → map (way_found h) (reductions l body r) ≡ ways_of h test body
    found-ways r around = same-ways (reductions l body r) (reductions_of body) (all-match body r [] around)

    -- whether an edge is read by a place, against the way of a reduction's message
    any-flat : {A B : Type 0} (f : B → Bool) (g : A → List B) (xs : List A) → any f (flat_map g xs) ≡ any (λ x. any f (g x)) xs
    any-flat f g [] = refl
    any-flat f g (x ∷ xs) = any-append f (g x) (flat_map g xs) ∙ ap (λ b. any f (g x) || b) (any-flat f g xs)

    against-one : (q : Place) (best : Option Place) (x : Reduction) (a : Action) → Matches x a
        → there_by q (if is_against h.domain (way_found h x) then earlier best x.reads.edge else best) ≡ (there_by q best || any (is_by q) (reads_against h test body a))
    against-one q best x a m = on (is_against h.domain (way_found h x)) (is_against h.domain (way_in h test body a)) (ap (is_against h.domain) (same-way x a m))
      where
        on : (b c : Bool) → b ≡ c → there_by q (if b then earlier best x.reads.edge else best) ≡ (there_by q best || any (is_by q) (if c then flat_map edge_reads (support body test a) else []))
        on true true e = by-earlier q best x.reads.edge ∙ ap (λ b. there_by q best || b) (so x a m (EdgeBy q) ∙ sym (any-flat (is_by q) edge_reads (support body test a)))
        on true false e = absurd (true≢false e)
        on false true e = absurd (false≢true e)
        on false false e = sym (or-nothing (there_by q best))

    against-by : (q : Place) (best : Option Place) (xs : List Reduction) (as' : List Action) → All xs as'
        → there_by q (first_against h best xs) ≡ (there_by q best || any (is_by q) (flat_map (reads_against h test body) as'))
    against-by q best [] [] m = sym (or-nothing (there_by q best))
    against-by q best [] (a ∷ as') m = absurd m
    against-by q best (x ∷ xs) [] m = absurd m
    against-by q best (x ∷ xs) (a ∷ as') m =
        against-by q (if is_against h.domain (way_found h x) then earlier best x.reads.edge else best) xs as' m.1
        ∙ ap (λ b. b || any (is_by q) (flat_map (reads_against h test body) as')) (against-one q best x a m.0)
        ∙ or-assoc (there_by q best) (any (is_by q) (reads_against h test body a)) (any (is_by q) (flat_map (reads_against h test body) as'))
        ∙ ap (λ b. there_by q best || b) (sym (any-append (is_by q) (reads_against h test body a) (flat_map (reads_against h test body) as')))

    pub found-against : (r : Reads) → Around r [] → option_map (broken_at C7) (first_against h None (reductions l body r)) ≡ least (map (broken_at C7) (edges_against h test body))
    found-against r around =
        ap (option_map (broken_at C7)) (same-place (first_against h None (reductions l body r)) (first_from None (edges_against h test body))
        (λ q. against-by q None (reductions l body r) (reductions_of body) (all-match body r [] around) ∙ sym (first-by q None (edges_against h test body))))
        ∙ sym (least-at None (edges_against h test body))

    -- what is read around a body is what the filter mentions
    pub around-filter : Around (noted_all l nothing (mentions test)) []
    around-filter t =
        let p = passes l.iterator t (held_so l t) in
        holds-noted_all t l nothing (mentions test) ∙ ap (λ b. b || any p (mentions test)) (holds-nothing t) ∙ sym (or-nothing (any p (mentions test)))
