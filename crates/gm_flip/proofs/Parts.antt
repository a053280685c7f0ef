-- What the form of cut loops says of a loop that pulls.
use Rattle.std.proofs.Common.{◌≡◌, ℕ, Bool, true, false, cond, List, [], ◌∷◌, refl, sym, ap, ◌∙◌, Option, Some, None}
use Rattle.std.specs.Prelude.{◌&&◌, ◌||◌, not, nat_eq}
use Rattle.std.specs.List.{list_all}
use Rattle.std.proofs.lemmas.Bool.{eq-eqb, ne_eqb, eqb-false}
use Rattle.gm_base.specs.declared.places.Place.{Place}
use Rattle.gm_ast.specs.declared.tree.Declaration.{Declaration}
use Rattle.gm_ast.specs.declared.tree.Domain.{Domain}
use Rattle.gm_ast.specs.declared.tree.Domain.TheVariants.{Nodes, OutNbrs, InNbrs, UpNbrs, DownNbrs}
use Rattle.gm_ast.specs.declared.tree.Head.{Head}
use Rattle.gm_ast.specs.declared.tree.Key.{Key}
use Rattle.gm_ast.specs.Program.{Expr, Const, Var, Property, EdgeProperty, Degree, NodeCount, EdgeCount, Live, Unary, Binary, Both, Either, Choose, Folded, always, Stmt, Skip, Then, Declare, DeclareEdge, Assign, Defer, Combine, Group, Foreach, For, If, While, Do, InBfs, InBfsBoth, Return}
use Rattle.gm_ast.specs.Ways.{is_in}
use Rattle.gm_forms.specs.Cut.{is_mask, is_own_loop, spares_locals, is_edge_loop, is_along_edges, is_cut}
use Rattle.gm_forms.specs.Forms.{depth_at, may, is_flat, is_range, is_inner_local, is_inner_given, is_within, are_reduced, is_inner_body, is_inner_head, is_outer_body, is_flat_loop, is_along, is_against, avoids, is_home, is_push, is_pull, has_a_way, goes_out}
use Rattle.gm_forms.specs.Flip.{reversed, flipped_head}
use Rattle.gm_forms.specs.Order.{first_key, cannot_fail, begins, loop_in_order}
use Rattle.gm_forms.specs.Sharing.{shares}
use Rattle.gm_forms.proofs.CutTests.{flat, not-true}
use Rattle.gm_forms.proofs.Named.{both-true}
use Rattle.gm_forms.proofs.Weaker.{and-true}
use Rattle.gm_flip.specs.Pulling.{sees, is_at_home, is_outgoing, pulls}
use Rattle.gm_flip.specs.Flipped.{is_always, joined}
use Rattle.gm_flip.proofs.Basics.{none}
use Rattle.gm_flip.proofs.Sane.{kept-parts, alone, order-turned, share-turned, edge-turned}
use Rattle.gm_flip.proofs.Turns.{lone, Turnable}

pub neither : (a b : Bool) → a || b ≡ false → (a ≡ false) × (b ≡ false)
neither true b h = none (sym h)
neither false b h = (refl, h)

-- more iterators at hand, and an edge
module _ (its more : List ℕ) (edge plus : Bool) (in-more : (x : ℕ) → is_in its x ≡ true → is_in more x ≡ true) (edge-more : edge ≡ true → plus ≡ true) where
  pub flat-more : (e : Expr) → is_flat its edge e ≡ true → is_flat more plus e ≡ true
  flat-more (Const v) h = refl
  flat-more (Var x at) h = refl
  flat-more (Property x p at) h = in-more x h
  flat-more (EdgeProperty x p at) h = edge-more h
  flat-more (Degree d x at) h = in-more x h
  flat-more NodeCount h = refl
  flat-more EdgeCount h = refl
  flat-more (Live x at) h = refl
  flat-more (Unary op at e) h = flat-more e h
  flat-more (Binary op at a b) h = let q = both-true (is_flat its edge a) (is_flat its edge b) h in and-true (is_flat more plus a) (is_flat more plus b) (flat-more a q.0) (flat-more b q.1)
  flat-more (Both a b) h = let q = both-true (is_flat its edge a) (is_flat its edge b) h in and-true (is_flat more plus a) (is_flat more plus b) (flat-more a q.0) (flat-more b q.1)
  flat-more (Either a b) h = let q = both-true (is_flat its edge a) (is_flat its edge b) h in and-true (is_flat more plus a) (is_flat more plus b) (flat-more a q.0) (flat-more b q.1)
  flat-more (Choose c a b) h =
      let q = both-true (is_flat its edge c) (is_flat its edge a && is_flat its edge b) h in
      let r = both-true (is_flat its edge a) (is_flat its edge b) q.1 in
      and-true (is_flat more plus c) (is_flat more plus a && is_flat more plus b) (flat-more c q.0) (and-true (is_flat more plus a) (is_flat more plus b) (flat-more a r.0) (flat-more b r.1))
  flat-more (Folded f head test e) h = none h

  may-more : (e : Option Expr) → may (is_flat its edge) e ≡ true → may (is_flat more plus) e ≡ true
  may-more None h = refl
  may-more (Some e) h = flat-more e h

  all-more : (es : List Expr) → list_all (is_flat its edge) es ≡ true → list_all (is_flat more plus) es ≡ true
  all-more [] h = refl
  all-more (e ∷ es) h = let q = both-true (is_flat its edge e) (list_all (is_flat its edge) es) h in and-true (is_flat more plus e) (list_all (is_flat more plus) es) (flat-more e q.0) (all-more es q.1)

  pub inner-more : (ds : List Declaration) (s : Stmt) → is_inner_body ds its edge s ≡ true → is_inner_body ds more plus s ≡ true
  inner-more ds Skip h = refl
  inner-more ds (Then a b) h = let q = both-true (is_inner_body ds its edge a) (is_inner_body ds its edge b) h in and-true (is_inner_body ds more plus a) (is_inner_body ds more plus b) (inner-more ds a q.0) (inner-more ds b q.1)
  inner-more ds (Declare k x e) h = let q = both-true (nat_eq (depth_at ds x) 2) (may (is_flat its edge) e) h in and-true (nat_eq (depth_at ds x) 2) (may (is_flat more plus) e) q.0 (may-more e q.1)
  inner-more ds (DeclareEdge x y at) h = refl
  inner-more ds (Assign k t e) h = let q = both-true (is_inner_local ds t) (is_flat its edge e) h in and-true (is_inner_local ds t) (is_flat more plus e) q.0 (flat-more e q.1)
  inner-more ds (Defer k t e) h = h
  inner-more ds (Combine k total r ts es) h =
      let q = both-true (are_reduced (is_inner_given ds) (is_within ds 2) r ts) (list_all (is_flat its edge) es) h in
      and-true (are_reduced (is_inner_given ds) (is_within ds 2) r ts) (list_all (is_flat more plus) es) q.0 (all-more es q.1)
  inner-more ds (If k c a b) h =
      let q = both-true (is_flat its edge c) (is_inner_body ds its edge a && is_inner_body ds its edge b) h in
      let r = both-true (is_inner_body ds its edge a) (is_inner_body ds its edge b) q.1 in
      and-true (is_flat more plus c) (is_inner_body ds more plus a && is_inner_body ds more plus b) (flat-more c q.0) (and-true (is_inner_body ds more plus a) (is_inner_body ds more plus b) (inner-more ds a r.0) (inner-more ds b r.1))
  inner-more ds (Group k at g p e) h = h
  inner-more ds (Foreach k at hd c s) h = h
  inner-more ds (For k at hd c s) h = h
  inner-more ds (While k at c s) h = h
  inner-more ds (Do k at s c) h = h
  inner-more ds (InBfs k at hd c s) h = h
  inner-more ds (InBfsBoth k at hd c s bk d back) h = h
  inner-more ds (Return k at e) h = h

-- an inner body sees what it reads
pub sees-of : (ds : List Declaration) (its : List ℕ) (edge : Bool) (s : Stmt) → is_inner_body ds its edge s ≡ true → sees its edge s ≡ true
sees-of ds its edge (Then a b) h = let q = both-true (is_inner_body ds its edge a) (is_inner_body ds its edge b) h in and-true (sees its edge a) (sees its edge b) (sees-of ds its edge a q.0) (sees-of ds its edge b q.1)
sees-of ds its edge (Declare k x e) h = (both-true (nat_eq (depth_at ds x) 2) (may (is_flat its edge) e) h).1
sees-of ds its edge (Assign k t e) h = (both-true (is_inner_local ds t) (is_flat its edge e) h).1
sees-of ds its edge (Combine k total r ts es) h = (both-true (are_reduced (is_inner_given ds) (is_within ds 2) r ts) (list_all (is_flat its edge) es) h).1
sees-of ds its edge (If k c a b) h =
    let q = both-true (is_flat its edge c) (is_inner_body ds its edge a && is_inner_body ds its edge b) h in
    let r = both-true (is_inner_body ds its edge a) (is_inner_body ds its edge b) q.1 in
    and-true (is_flat its edge c) (sees its edge a && sees its edge b) q.0 (and-true (sees its edge a) (sees its edge b) (sees-of ds its edge a r.0) (sees-of ds its edge b r.1))
sees-of ds its edge s h = refl

-- an end at which an inner loop is evaluated
module _ (ds : List Declaration) (its : List ℕ) (edge : Bool) (x : ℕ) (test : Expr) (body : Stmt) where
  pub end-of : is_flat its edge test && (is_inner_body ds its edge body && avoids x body) ≡ true → is_flat its edge test && (sees its edge body && avoids x body) ≡ true
  end-of h =
      let q = both-true (is_flat its edge test) (is_inner_body ds its edge body && avoids x body) h in
      let r = both-true (is_inner_body ds its edge body) (avoids x body) q.1 in
      and-true (is_flat its edge test) (sees its edge body && avoids x body) q.0 (and-true (sees its edge body) (avoids x body) (sees-of ds its edge body r.0) r.1)

-- what is known of a loop that pulls
pub record Parts (ds : List Declaration) (n : ℕ) (k : Key) (mask : Expr) (j : Key) (here : Place) (i : Head) (test : Expr) (body : Stmt) : Type 0 where
  pub turnable : Turnable ds n mask i test body
  pub pull : is_pull ds n i test body ≡ true
  pub mask_flat : is_flat (n ∷ []) false mask ≡ true
  pub order : (place : Place) → begins (n ∷ []) k place mask (Foreach j here i test body) && loop_in_order (n ∷ []) k mask (Foreach j here i test body) ≡ true →
      begins (i.iterator ∷ []) first_key place always (Foreach j here (flipped_head n i) (joined mask test) body) && loop_in_order (i.iterator ∷ []) first_key always (Foreach j here (flipped_head n i) (joined mask test) body) ≡ true
  pub edges : is_edge_loop ds i.iterator always (flipped_head n i) (joined mask test) body ≡ true
  pub share : shares ds i.iterator always (Foreach j here (flipped_head n i) (joined mask test) body) ≡ true

third : (a b c : Bool) → a || (b || c) ≡ true → a ≡ false → b ≡ false → c ≡ true
third a b c h e d = ap (λ z. z || c) (sym d) ∙ ap (λ z. z || (b || c)) (sym e) ∙ h

-- a test that does not hold of what another one that implies it asks
fails : (a b : Bool) → (a ≡ true → b ≡ true) → b ≡ false → a ≡ false
fails true b f e = none (sym e ∙ f refl)
fails false b f e = refl

pub parts : (ds : List Declaration) (n : ℕ) (k : Key) (mask : Expr) (j : Key) (here : Place) (i : Head) (test : Expr) (body : Stmt) →
    is_cut has_a_way ds n mask (Foreach j here i test body) ≡ true → pulls n (Foreach j here i test body) ≡ true → shares ds n mask (Foreach j here i test body) ≡ true → Parts ds n k mask j here i test body
parts ds n k mask j here i test body cut pulling shared =
    let inner = Foreach j here i test body in
    let c = both-true (is_flat_loop ds false n mask inner) (is_own_loop n inner || (is_mask n mask && is_along_edges (has_a_way ds) ds n mask inner)) cut in
    let f = both-true (is_flat (n ∷ []) false mask) (is_outer_body ds false n inner) c.0 in
    let m = both-true (is_mask n mask) (has_a_way ds n i test body && is_edge_loop ds n mask i test body) c.1 in
    let w = both-true (has_a_way ds n i test body) (is_edge_loop ds n mask i test body) m.1 in
    let may' = kept-parts ds n k mask j here i test body w.1 in
    let no = neither (is_at_home n i test body) (is_outgoing n i test body) (not-true (is_at_home n i test body || is_outgoing n i test body) pulling) in
    let not-home = fails (is_home ds n i test body) (is_at_home n i test body) (end-of ds (n ∷ []) (is_along i.domain) i.iterator test body) no.0 in
    let not-push = fails (is_push ds n i test body) (is_outgoing n i test body) (end-of ds (n ∷ i.iterator ∷ []) (is_along i.domain) n test body) no.1 in
    let pull = third (is_home ds n i test body) (is_push ds n i test body) (is_pull ds n i test body) w.0 not-home not-push in
    let p = both-true (is_flat (n ∷ i.iterator ∷ []) (is_against i.domain) test) (is_inner_body ds (n ∷ i.iterator ∷ []) (is_against i.domain) body && avoids i.iterator body) pull in
    let a = both-true (is_inner_body ds (n ∷ i.iterator ∷ []) (is_against i.domain) body) (avoids i.iterator body) p.1 in
    let l = lone ds n j here i test body f.1 in
    record {
      turnable = record { lone = l; mask_is = m.0; out = may'.out; away = a.1; spares = may'.spares; alone = alone ds n k mask j here i test body may' shared };
      pull = pull;
      mask_flat = f.0;
      order = order-turned ds n k mask j here i test body (flat (n ∷ []) false mask f.0) (both-true (cannot_fail mask) (is_flat (n ∷ []) false mask) m.0).0 (flat (n ∷ i.iterator ∷ []) true test l.test_flat);
      edges = edge-turned ds n k mask j here i test body (n ∷ i.iterator ∷ []) true l.inner a.1 may';
      share = share-turned ds n k mask j here i test body (n ∷ i.iterator ∷ []) true l.inner a.1 may' shared;
    }

-- a range against the edges, from its other end, leads along them
along-reversed : (d : Domain) → is_along (reversed d) ≡ is_against d
along-reversed Nodes = refl
along-reversed OutNbrs = refl
along-reversed InNbrs = refl
along-reversed UpNbrs = refl
along-reversed DownNbrs = refl

range-reversed : (d : Domain) → is_range false d ≡ true → is_range false (reversed d) ≡ true
range-reversed Nodes h = h
range-reversed OutNbrs h = refl
range-reversed InNbrs h = refl
range-reversed UpNbrs h = h
range-reversed DownNbrs h = h

joined-flat : (its : List ℕ) (edge : Bool) (mask test : Expr) → is_flat its edge mask ≡ true → is_flat its edge test ≡ true → is_flat its edge (joined mask test) ≡ true
joined-flat its edge mask test m t = by (is_always mask)
  where
    by : (b : Bool) → is_flat its edge (cond b test (Both mask test)) ≡ true
    by true = t
    by false = and-true (is_flat its edge mask) (is_flat its edge test) m t

module _ (n t : ℕ) where
  swapped : (x : ℕ) → is_in (n ∷ t ∷ []) x ≡ true → is_in (t ∷ n ∷ []) x ≡ true
  swapped x h = by (nat_eq x n) (nat_eq x t) h
    where
      by : (a b : Bool) → a || (b || false) ≡ true → b || (a || false) ≡ true
      by true true h = refl
      by true false h = refl
      by false true h = refl
      by false false h = h

  second : (x : ℕ) → is_in (n ∷ []) x ≡ true → is_in (t ∷ n ∷ []) x ≡ true
  second x h = by (nat_eq x n) (nat_eq x t) h
    where
      by : (a b : Bool) → a || false ≡ true → b || (a || false) ≡ true
      by true true h = refl
      by true false h = refl
      by false b h = none h

-- the turned loop is cut, and goes out
pub goes : (ds : List Declaration) (n : ℕ) (k : Key) (mask : Expr) (j : Key) (here : Place) (i : Head) (test : Expr) (body : Stmt) → Parts ds n k mask j here i test body →
    is_cut goes_out ds i.iterator always (Foreach j here (flipped_head n i) (joined mask test) body) ≡ true
goes ds n k mask j here i test body p =
    let t = i.iterator in
    let hd = flipped_head n i in
    let inner = Foreach j here hd (joined mask test) body in
    let l = p.turnable.lone in
    let filter = joined mask test in
    let a = both-true (is_flat (n ∷ t ∷ []) (is_against i.domain) test) (is_inner_body ds (n ∷ t ∷ []) (is_against i.domain) body && avoids t body) p.pull in
    let b = both-true (is_inner_body ds (n ∷ t ∷ []) (is_against i.domain) body) (avoids t body) a.1 in
    let mask-at : (edge : Bool) → is_flat (t ∷ n ∷ []) edge mask ≡ true = λ edge. flat-more (n ∷ []) (t ∷ n ∷ []) false edge (second n t) (λ e. none e) mask p.mask_flat in
    let apart : nat_eq n t ≡ false = ne_eqb n t (λ e. eqb-false t n l.apart (sym e)) in
    let head : is_inner_head false t hd ≡ true =
    and-true (is_range false (reversed i.domain)) (nat_eq t t && not (nat_eq n t)) (range-reversed i.domain l.range) (and-true (nat_eq t t) (not (nat_eq n t)) (eq-eqb t t refl) (ap not apart)) in
    let outer : is_outer_body ds false t inner ≡ true =
    and-true (is_inner_head false t hd) (is_flat (t ∷ n ∷ []) true filter && is_inner_body ds (t ∷ n ∷ []) true body) head
    (and-true (is_flat (t ∷ n ∷ []) true filter) (is_inner_body ds (t ∷ n ∷ []) true body)
    (joined-flat (t ∷ n ∷ []) true mask test (mask-at true) (flat-more (n ∷ t ∷ []) (t ∷ n ∷ []) true true (swapped n t) (λ e. e) test l.test_flat))
    (inner-more (n ∷ t ∷ []) (t ∷ n ∷ []) true true (swapped n t) (λ e. e) ds body l.inner)) in
    let edge : is_against i.domain ≡ true → is_along (reversed i.domain) ≡ true = λ e. along-reversed i.domain ∙ e in
    let push : is_push ds t hd filter body ≡ true =
    and-true (is_flat (t ∷ n ∷ []) (is_along (reversed i.domain)) filter) (is_inner_body ds (t ∷ n ∷ []) (is_along (reversed i.domain)) body && avoids t body)
    (joined-flat (t ∷ n ∷ []) (is_along (reversed i.domain)) mask test (mask-at (is_along (reversed i.domain))) (flat-more (n ∷ t ∷ []) (t ∷ n ∷ []) (is_against i.domain) (is_along (reversed i.domain)) (swapped n t) edge test a.0))
    (and-true (is_inner_body ds (t ∷ n ∷ []) (is_along (reversed i.domain)) body) (avoids t body)
    (inner-more (n ∷ t ∷ []) (t ∷ n ∷ []) (is_against i.domain) (is_along (reversed i.domain)) (swapped n t) edge ds body b.0) b.1) in
    and-true (is_flat_loop ds false t always inner) (goes_out ds t hd filter body && is_edge_loop ds t always hd filter body) outer (and-true (goes_out ds t hd filter body) (is_edge_loop ds t always hd filter body) (right (is_home ds t hd filter body) (is_push ds t hd filter body) push) p.edges)
  where
    right : (a b : Bool) → b ≡ true → a || b ≡ true
    right true b h = refl
    right false b h = h

-- an inner body that sees less is one with less at hand
inner-sees : (ds : List Declaration) (its less : List ℕ) (edge plus : Bool) (s : Stmt) → is_inner_body ds its edge s ≡ true → sees less plus s ≡ true → is_inner_body ds less plus s ≡ true
inner-sees ds its less edge plus Skip h v = refl
inner-sees ds its less edge plus (Then a b) h v =
    let q = both-true (is_inner_body ds its edge a) (is_inner_body ds its edge b) h in
    let w = both-true (sees less plus a) (sees less plus b) v in
    and-true (is_inner_body ds less plus a) (is_inner_body ds less plus b) (inner-sees ds its less edge plus a q.0 w.0) (inner-sees ds its less edge plus b q.1 w.1)
inner-sees ds its less edge plus (Declare k x e) h v = and-true (nat_eq (depth_at ds x) 2) (may (is_flat less plus) e) (both-true (nat_eq (depth_at ds x) 2) (may (is_flat its edge) e) h).0 v
inner-sees ds its less edge plus (DeclareEdge x y at) h v = refl
inner-sees ds its less edge plus (Assign k t e) h v = and-true (is_inner_local ds t) (is_flat less plus e) (both-true (is_inner_local ds t) (is_flat its edge e) h).0 v
inner-sees ds its less edge plus (Defer k t e) h v = h
inner-sees ds its less edge plus (Combine k total r ts es) h v =
    and-true (are_reduced (is_inner_given ds) (is_within ds 2) r ts) (list_all (is_flat less plus) es) (both-true (are_reduced (is_inner_given ds) (is_within ds 2) r ts) (list_all (is_flat its edge) es) h).0 v
inner-sees ds its less edge plus (If k c a b) h v =
    let q = both-true (is_flat its edge c) (is_inner_body ds its edge a && is_inner_body ds its edge b) h in
    let r = both-true (is_inner_body ds its edge a) (is_inner_body ds its edge b) q.1 in
    let w = both-true (is_flat less plus c) (sees less plus a && sees less plus b) v in
    let y = both-true (sees less plus a) (sees less plus b) w.1 in
    and-true (is_flat less plus c) (is_inner_body ds less plus a && is_inner_body ds less plus b) w.0
    (and-true (is_inner_body ds less plus a) (is_inner_body ds less plus b) (inner-sees ds its less edge plus a r.0 y.0) (inner-sees ds its less edge plus b r.1 y.1))
inner-sees ds its less edge plus (Group k at g p e) h v = h
inner-sees ds its less edge plus (Foreach k at hd c s) h v = h
inner-sees ds its less edge plus (For k at hd c s) h v = h
inner-sees ds its less edge plus (While k at c s) h v = h
inner-sees ds its less edge plus (Do k at s c) h v = h
inner-sees ds its less edge plus (InBfs k at hd c s) h v = h
inner-sees ds its less edge plus (InBfsBoth k at hd c s bk d back) h v = h
inner-sees ds its less edge plus (Return k at e) h v = h

back-of : (ds : List Declaration) (its : List ℕ) (edge : Bool) (x : ℕ) (all : List ℕ) (test : Expr) (body : Stmt) → is_inner_body ds all true body ≡ true →
    is_flat its edge test && (sees its edge body && avoids x body) ≡ true → is_flat its edge test && (is_inner_body ds its edge body && avoids x body) ≡ true
back-of ds its edge x all test body inner h =
    let q = both-true (is_flat its edge test) (sees its edge body && avoids x body) h in
    let r = both-true (sees its edge body) (avoids x body) q.1 in
    and-true (is_flat its edge test) (is_inner_body ds its edge body && avoids x body) q.0 (and-true (is_inner_body ds its edge body) (avoids x body) (inner-sees ds all its true edge body inner r.0) r.1)

-- a cut loop that does not pull goes out
pub goes-as-it-is : (ds : List Declaration) (n : ℕ) (mask : Expr) (j : Key) (here : Place) (i : Head) (test : Expr) (body : Stmt) →
    is_cut has_a_way ds n mask (Foreach j here i test body) ≡ true → pulls n (Foreach j here i test body) ≡ false → is_cut goes_out ds n mask (Foreach j here i test body) ≡ true
goes-as-it-is ds n mask j here i test body cut stays =
    let inner = Foreach j here i test body in
    let c = both-true (is_flat_loop ds false n mask inner) (is_own_loop n inner || (is_mask n mask && is_along_edges (has_a_way ds) ds n mask inner)) cut in
    let f = both-true (is_flat (n ∷ []) false mask) (is_outer_body ds false n inner) c.0 in
    let m = both-true (is_mask n mask) (has_a_way ds n i test body && is_edge_loop ds n mask i test body) c.1 in
    let w = both-true (has_a_way ds n i test body) (is_edge_loop ds n mask i test body) m.1 in
    let l = lone ds n j here i test body f.1 in
    let out : goes_out ds n i test body ≡ true =
    either (is_at_home n i test body) (is_outgoing n i test body) (is_home ds n i test body) (is_push ds n i test body)
    (back-of ds (n ∷ []) (is_along i.domain) i.iterator (n ∷ i.iterator ∷ []) test body l.inner)
    (back-of ds (n ∷ i.iterator ∷ []) (is_along i.domain) n (n ∷ i.iterator ∷ []) test body l.inner)
    (not-false (is_at_home n i test body || is_outgoing n i test body) stays) in
    and-true (is_flat_loop ds false n mask inner) (is_mask n mask && (goes_out ds n i test body && is_edge_loop ds n mask i test body)) c.0
    (and-true (is_mask n mask) (goes_out ds n i test body && is_edge_loop ds n mask i test body) m.0 (and-true (goes_out ds n i test body) (is_edge_loop ds n mask i test body) out w.1))
  where
    not-false : (b : Bool) → not b ≡ false → b ≡ true
    not-false true h = refl
    not-false false h = none (sym h)

    either : (a b c d : Bool) → (a ≡ true → c ≡ true) → (b ≡ true → d ≡ true) → a || b ≡ true → c || d ≡ true
    either true b c d f g h = ap (λ z. z || d) (f refl)
    either false b true d f g h = refl
    either false b false d f g h = g h
