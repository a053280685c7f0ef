-- How what is read is spread along a web, and is never more than the answers that fit it.
use Rattle.std.proofs.Common.{◌≡◌, ℕ, ◌<◌, ◌+◌, Bool, true, false, List, [], ◌∷◌, ◌++◌, length, get_or, refl, sym, ap, subst, ◌∙◌, arith}
use Rattle.std.specs.Prelude.{nat_eq, All}
use Rattle.std.proofs.lemmas.Bool.{false≢true, eqb-true}
use Rattle.std.proofs.lemmas.List.{length-append}
use Rattle.std.proofs.lemmas.List.Elements.{All-get_or}
use Rattle.gm_ast.specs.Program.{Stmt}
use Rattle.gm_push_pull.specs.declared.reads.Reads.{Reads}
use Rattle.gm_push_pull.specs.declared.locals.Locals.{Locals}
use Rattle.gm_push_pull.specs.declared.web.Node.{Node}
use Rattle.gm_push_pull.specs.declared.web.Link.{Link}
use Rattle.gm_push_pull.specs.declared.web.Seed.{Seed}
use Rattle.gm_push_pull.specs.declared.web.Web.{Web}
use Rattle.gm_push_pull.specs.Reads.{nothing}
use Rattle.gm_push_pull.specs.Tests.{Test, holds}
use Rattle.gm_push_pull.specs.Locals.{is_known, held_by, held_so}
use Rattle.gm_push_pull.specs.Sweeps.{Demand, Demands, Below, Grows, Settles}
use Rattle.gm_push_pull.specs.Webs.{told, Reached, Follows, FitsLink, FitsSeed, FitsWeb, IsWebOf, read_at, Flows, Drives, SpreadsWeb, Spreads}
use Rattle.gm_push_pull.proofs.Answers.{holds-nothing}
use Rattle.gm_push_pull.proofs.Webs.{all-through}

-- a condition on the answers
abbrev pub Condition : Type 1
Condition = Test → (ℕ → Bool) → (ℕ → Bool) → Type 0

-- what is read comes to a local, or to a site
pub flows-local : {a b : Locals} {c : Bool} (s : Locals) (x : ℕ) (r : Reads) → Grows a b (λ t B. Demand (is_known a) B (nat_eq x) (holds r t)) c
    → Flows a b s s (λ t B C. holds r t ≡ true → Reached (is_known a) B C (Node.Local x)) c
flows-local {a = a} s x r g = record {
  iterator = g.iterator;
  known = g.known;
  sound = λ t B C p low sites. (g.sound t B low (λ y k e h. subst (λ z. B z ≡ true) (eqb-true x y e) (p h (subst (λ z. is_known a z ≡ true) (sym (eqb-true x y e)) k))), sites);
  no_less = let p = g.no_less in omega (arith, p);
  more = λ h. let p = g.more h in omega (arith, p);
}

pub flows-site : {s u : Locals} {c : Bool} (a : Locals) (x : ℕ) (r : Reads) → Grows s u (λ t C. Demand (is_known s) C (nat_eq x) (holds r t)) c
    → Flows a a s u (λ t B C. holds r t ≡ true → Reached (is_known a) B C (Node.Site x)) c
flows-site a x r g = record {
  iterator = refl;
  known = λ y. refl;
  sound = λ t B C p low sites. (low, g.sound t C sites (λ y k e h. subst (λ z. C z ≡ true) (eqb-true x y e) (p h)));
  no_less = let p = g.no_less in omega (arith, p);
  more = λ h. let p = g.more h in omega (arith, p);
}

-- a node to which something new has come is to be visited, and no other
pub drives-woken : {a b s u : Locals} {P : Condition} (work : List Node) (node : Node) → Flows a b s u P true → Drives a b s u work (work ++ (node ∷ [])) P
drives-woken work node g = record {
  iterator = g.iterator;
  known = g.known;
  sound = g.sound;
  left = let p = g.more refl in let q = length-append work (node ∷ []) in omega (arith, p, q);
}

pub drives-asleep : {a b s u : Locals} {P : Condition} {c : Bool} (work : List Node) → Flows a b s u P c → Drives a b s u work work P
drives-asleep work g = record {
  iterator = g.iterator;
  known = g.known;
  sound = g.sound;
  left = let p = g.no_less in omega (arith, p);
}

-- nothing is spread
pub drives-none : {a s : Locals} (work : List Node) (P : Condition) → Drives a a s s work work P
drives-none work P = record {
  iterator = refl;
  known = λ x. refl;
  sound = λ t B C p low sites. (low, sites);
  left = omega arith;
}

-- one thing is spread and then another
pub drives-then : {a b d s u v : Locals} {before work after : List Node} {P Q : Condition} → Drives a b s u before work P → Drives b d u v work after Q
    → (R : Condition) → ((t : Test) (B C : ℕ → Bool) → R t B C → P t B C) → ((t : Test) (B C : ℕ → Bool) → R t B C → Q t B C) → Drives a d s v before after R
drives-then g h R f k = record {
  iterator = h.iterator ∙ g.iterator;
  known = λ x. h.known x ∙ g.known x;
  sound = λ t B C r low sites. let both = g.sound t B C (f t B C r) low sites in h.sound t B C (k t B C r) both.0 both.1;
  left = let p = g.left in let q = h.left in omega (arith, p, q);
}

-- what is read at a node is told there
pub told-read : (l sites : Locals) (t : Test) (B C : ℕ → Bool) (node : Node) → Below l t B → Below sites t C → holds (read_at l sites node) t ≡ true → told B C node ≡ true
told-read l sites t B C (Node.Local x) low below h = low x h
told-read l sites t B C (Node.Site k) low below h = below k h

-- what is read at the one end of a link comes to the other
pub drives-followed : {a b s u : Locals} {before after : List Node} (link : Link) → Drives a b s u before after (λ t B C. holds (read_at a s link.from) t ≡ true → Reached (is_known a) B C link.to)
    → Drives a b s u before after (λ t B C. Follows (is_known a) B C link)
drives-followed {a = a} {s = s} link g = record {
  iterator = g.iterator;
  known = g.known;
  sound = λ t B C f low sites. g.sound t B C (λ h. f (told-read a s t B C link.from low sites h)) low sites;
  left = g.left;
}

-- one of the links is followed
pub drives-at : {a b s u : Locals} {before after : List Node} (links : List Link) (i : ℕ) (link : Link) → i < length links → link ≡ get_or links i link → Drives a b s u before after (λ t B C. Follows (is_known a) B C link)
    → Drives a b s u before after (λ t B C. All (Follows (is_known a) B C) links)
drives-at {a = a} links i link lt at g = record {
  iterator = g.iterator;
  known = g.known;
  sound = λ t B C all low sites. g.sound t B C (subst (Follows (is_known a) B C) (sym at) (All-get_or (Follows (is_known a) B C) links i link lt all)) low sites;
  left = g.left;
}

-- some links are followed, and then some again
pub drives-more : {a b d s u v : Locals} {before work after : List Node} (links : List Link) → Drives a b s u before work (λ t B C. All (Follows (is_known a) B C) links) → Drives b d u v work after (λ t B C. All (Follows (is_known b) B C) links)
    → Drives a d s v before after (λ t B C. All (Follows (is_known a) B C) links)
drives-more {a = a} links g h = drives-then g h (λ t B C. All (Follows (is_known a) B C) links) (λ t B C r. r) (λ t B C r. subst (λ (w : ℕ → Bool). All (Follows w B C) links) (λ j x. sym (g.known x) j) r)

-- a node is taken to be visited
pub drives-popped : {a b s u : Locals} {before work rest : List Node} {P : Condition} (node : Node) → work ≡ rest ++ (node ∷ []) → Drives a b s u before work P → Drives a b s u before rest P
drives-popped {work = work} {rest = rest} node at g = record {
  iterator = g.iterator;
  known = g.known;
  sound = g.sound;
  left = let p = g.left in let q : length work ≡ length rest + 1 = ap length at ∙ length-append rest (node ∷ []) in omega (arith, p, q);
}

-- one seed more, and all that follows from it
pub spread-next : (z y : Locals) {a b d s u v : Locals} {before work after : List Node} (w : Web) (seeds : List Seed) (i : ℕ) (seed : Seed) → seeds ≡ w.seeds.items → i < length seeds
    → ((x : ℕ) → is_known a x ≡ is_known z x)
    → ((t : Test) (B C : ℕ → Bool) → FitsWeb (is_known z) t B C w → Below z t B → Below y t C → Below a t B × Below s t C)
    → Drives a b s u before work (λ t B C. holds (get_or seeds i seed).reads t ≡ true → C (get_or seeds i seed).site ≡ true)
    → Drives b d u v work after (λ t B C. All (Follows (is_known b) B C) w.links.items)
    → (t : Test) (B C : ℕ → Bool) → FitsWeb (is_known z) t B C w → Below z t B → Below y t C → Below d t B × Below v t C
spread-next z y w seeds i seed at lt known sound g h t B C fits low sites =
    let both = sound t B C fits low sites in
    let fit : FitsSeed t C (length w.seeds.items) (get_or seeds i seed) = All-get_or (FitsSeed t C (length w.seeds.items)) seeds i seed lt (subst (All (FitsSeed t C (length w.seeds.items))) (sym at) fits.seeds) in
    let next = g.sound t B C fit.1 both.0 both.1 in
    h.sound t B C (subst (λ (k : ℕ → Bool). All (Follows k B C) w.links.items) (λ j x. sym (g.known x ∙ known x) j) (all-through {P = FitsLink (is_known z) B C (length w.seeds.items)} {Q = Follows (is_known z) B C} (λ l f. f.2) w.links.items fits.links)) next.0 next.1

-- nothing is known of sites that are only declared
pub below-plain : (sites : Locals) → ((k : ℕ) → held_by sites k ≡ nothing) → (t : Test) (C : ℕ → Bool) → Below sites t C
below-plain sites plain t C k h = absurd (false≢true (sym (ap (λ (r : Reads). holds r t) (plain k) ∙ holds-nothing t) ∙ h))

-- what is spread along the web of a body is no more than its demands force
pub spreads-body : {a b sites : Locals} {w : Web} (s : Stmt) → IsWebOf a w s → ((k : ℕ) → held_by sites k ≡ nothing) → SpreadsWeb a b sites w → Spreads a b s
spreads-body {sites = sites} s web plain g = record {
  iterator = g.iterator;
  known = g.known;
  sound = λ t B low d. let c = web t B low d in g.sound t B c.0 c.1 low (below-plain sites plain t c.0);
}

-- what is spread, and then swept
pub spreads-settles : {a b d : Locals} (s : Stmt) → Spreads a b s → Settles b d s → Settles a d s
spreads-settles {a = a} {b = b} {d = d} s g h = record {
  iterator = h.iterator ∙ g.iterator;
  known = λ x. h.known x ∙ g.known x;
  sound = λ t B low p. h.sound t B (g.sound t B low p) (subst (λ (j : ℕ). Demands j (is_known b) t B s false) (sym g.iterator) (subst (λ (w : ℕ → Bool). Demands a.iterator w t B s false) (λ j x. sym (g.known x) j) p));
  settled = λ t. subst (λ (j : ℕ). Demands j (is_known a) t (held_so d t) s false) g.iterator (subst (λ (w : ℕ → Bool). Demands b.iterator w t (held_so d t) s false) (λ j x. g.known x j) (h.settled t));
}
