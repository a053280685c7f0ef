-- How the locals of a body are gathered, and its reductions found, one statement after another.
use Rattle.std.proofs.Common.{◌≡◌, ℕ, ◌||◌, List, [], ◌∷◌, ◌++◌, map, refl, sym, ap, subst, ◌∙◌, Option, append_assoc, append-nil}
use Rattle.std.specs.Prelude.{if◌then◌else◌}
use Rattle.std.proofs.lemmas.List.{map-append}
use Rattle.gm_base.specs.declared.places.Place.{Place}
use Rattle.gm_ast.specs.declared.tree.Head.{Head}
use Rattle.gm_ast.specs.declared.ways.Way.{Way}
use Rattle.gm_ast.specs.Program.{Stmt, Then}
use Rattle.gm_ast.specs.Ways.{is_in, is_against}
use Rattle.gm_push_pull.specs.declared.reads.Reads.{Reads}
use Rattle.gm_push_pull.specs.declared.locals.Locals.{Locals}
use Rattle.gm_push_pull.specs.declared.finding.Finder.{Finder}
use Rattle.gm_push_pull.specs.Places.{earlier}
use Rattle.gm_push_pull.specs.Locals.{is_known, Gathers}
use Rattle.gm_push_pull.specs.Finding.{Reduction, Finds, reductions, way_found, first_against}
use Rattle.gm_push_pull.proofs.Ors.{or-assoc, or-nothing}
use Rattle.gm_push_pull.proofs.Among.{any-append}

-- no locals
pub gathers-none : (a : Locals) → Gathers a a []
gathers-none a = record {
  iterator = refl;
  known = λ x. sym (or-nothing (is_known a x));
  plain = λ h. h;
}

-- some locals and then more
pub gathers-then : {a b d : Locals} (xs ys : List ℕ) → Gathers a b xs → Gathers b d ys → Gathers a d (xs ++ ys)
gathers-then {a = a} xs ys g h = record {
  iterator = h.iterator ∙ g.iterator;
  known = λ x. h.known x ∙ ap (λ c. c || is_in ys x) (g.known x) ∙ or-assoc (is_known a x) (is_in xs x) (is_in ys x) ∙ ap (λ c. is_known a x || c) (sym (any-append _ xs ys));
  plain = λ k. h.plain (g.plain k);
}

-- the first against, of some reductions and of more
first_against-append : (h : Head) (best : Option Place) (xs ys : List Reduction) → first_against h best (xs ++ ys) ≡ first_against h (first_against h best xs) ys
first_against-append h best [] ys = refl
first_against-append h best (x ∷ xs) ys = first_against-append h (if is_against h.domain (way_found h x) then earlier best x.reads.edge else best) xs ys

-- no reductions
pub finds-none : (a : Finder) → Finds a a []
finds-none a = record {
  head = refl;
  locals = refl;
  ways = sym (append-nil a.ways.items);
  against = refl;
}

-- some reductions and then more
pub finds-then : {a b d : Finder} (xs ys : List Reduction) → Finds a b xs → Finds b d ys → Finds a d (xs ++ ys)
finds-then {a = a} {b = b} xs ys g h = record {
  head = h.head ∙ g.head;
  locals = h.locals ∙ g.locals;
  ways = h.ways ∙ ap (λ (k : Head). b.ways.items ++ map (way_found k) ys) g.head ∙ ap (λ (ws : List Way). ws ++ map (way_found a.head) ys) g.ways
      ∙ append_assoc a.ways.items (map (way_found a.head) xs) (map (way_found a.head) ys) ∙ ap (λ (ws : List Way). a.ways.items ++ ws) (sym (map-append (way_found a.head) xs ys));
  against = h.against ∙ ap (λ (k : Head). first_against k b.against ys) g.head ∙ ap (λ (o : Option Place). first_against a.head o ys) g.against
      ∙ sym (first_against-append a.head a.against xs ys);
}

-- one statement of a block and then what is left
pub finds-next : {a b d : Finder} (l : Locals) (first rest : Stmt) (r : Reads) → a.locals ≡ l → Finds a b (reductions a.locals first r) → Finds b d (reductions l rest r) → Finds a d (reductions l (Then first rest) r)
finds-next {a = a} {b = b} l first rest r at g h =
    finds-then (reductions l first r) (reductions l rest r) (subst (λ (k : Locals). Finds a b (reductions k first r)) at g) h

-- two statements under a condition
pub finds-If : {a b d : Finder} (one other : Stmt) (r : Reads) → Finds a b (reductions a.locals one r) → Finds b d (reductions b.locals other r) → Finds a d (reductions a.locals one r ++ reductions a.locals other r)
finds-If {a = a} {b = b} {d = d} one other r g h = finds-then (reductions a.locals one r) (reductions a.locals other r) g (subst (λ (k : Locals). Finds b d (reductions k other r)) g.locals h)
