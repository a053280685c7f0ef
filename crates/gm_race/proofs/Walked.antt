-- How a walk goes over parts one after another.
use Rattle.std.proofs.Common.{◌≡◌, ℕ, ◌+◌, ◌-◌, List, [], ◌∷◌, ◌++◌, ap, sym, ◌∙◌, map, take, length, append_assoc, append-nil, length-append, arith}
use Rattle.std.proofs.lemmas.List.{map-append}
use Rattle.std.proofs.Math.Seq.{take-append_seam}
use Rattle.std.specs.Borrow.{Bor}
use Rattle.gm_ast.specs.declared.accesses.Access.{Access}
use Rattle.gm_ast.specs.declared.tree.Domain.{Domain}
use Rattle.gm_ast.specs.declared.tree.Declaration.{Declaration}
use Rattle.gm_ast.specs.Accesses.{Around, within}
use Rattle.gm_race.specs.declared.found.Loop.{Loop}
use Rattle.gm_race.specs.declared.walks.Walker.{Walker}
use Rattle.gm_race.specs.Walks.{around_of, loop_of, seen, Finds, Enters, Leaves, Walks}

-- the same loops and declarations
abbrev around_with : List Loop → Bor (List Declaration) → Around
around_with ls ds = record { declarations = ds.now; loops = map loop_of ls }

-- two walks with the same loops and declarations
pub same-around : (old new : Walker) → new.loops.items ≡ old.loops.items → new.declarations ≡ old.declarations → around_of new ≡ around_of old
same-around old new l d = ap (λ ls. around_with ls new.declarations) l ∙ ap (λ ds. around_with old.loops.items ds) d

-- what stands around a part stays
pub around-found : {old new : Walker} {listed : List Access} {n : ℕ} → Finds old new listed n → around_of new ≡ around_of old
around-found {old = old} {new = new} h = same-around old new h.loops h.declarations

-- what stands around the parts of a loop
pub around-entered : {old new : Walker} {x : ℕ} {d : Domain} → Enters old new x d → around_of new ≡ within (around_of old) old.next x d
around-entered {old = old} {new = new} {x = x} {d = d} h =
    let l : Loop = record { number = old.next; iterator = x; domain = d } in
    ap (λ ls. around_with ls new.declarations) h.loops ∙ ap (λ ds. around_with (old.loops.items ++ (l ∷ [])) ds) h.declarations
    ∙ ap (λ (ls : _). let w : Around = record { declarations = old.declarations.now; loops = ls } in w) (map-append loop_of old.loops.items (l ∷ []))

-- one part and then another
pub finds-then : {old mid new : Walker} {m n : ℕ} (first : List Access) (second : Around → ℕ → List Access)
    → Finds old mid first m → Finds mid new (second (around_of mid) mid.next) n → Finds old new (first ++ second (around_of old) (old.next + m)) (m + n)
finds-then {old = old} {mid = mid} {new = new} {m = m} {n = n} first second h k = record {
  found = k.found ∙ ap (λ w. seen mid ++ second w mid.next) (around-found h) ∙ ap (λ (i : ℕ). seen mid ++ second (around_of old) i) h.next
      ∙ ap (λ xs. xs ++ second (around_of old) (old.next + m)) h.found ∙ append_assoc (seen old) first (second (around_of old) (old.next + m));
  next = omega (arith, h.next, k.next);
  loops = k.loops ∙ h.loops;
  declarations = k.declarations ∙ h.declarations;
}

-- a part without loops and then another
pub finds-after : {old mid new : Walker} {n : ℕ} (first : List Access) (second : Around → ℕ → List Access)
    → Finds old mid first 0 → Finds mid new (second (around_of mid) mid.next) n → Finds old new (first ++ second (around_of old) old.next) n
finds-after {old = old} {mid = mid} {new = new} {n = n} first second h k =
    let e : old.next + 0 ≡ old.next = omega arith in
    record {
      found = k.found ∙ ap (λ w. seen mid ++ second w mid.next) (around-found h) ∙ ap (λ (i : ℕ). seen mid ++ second (around_of old) i) (h.next ∙ e)
          ∙ ap (λ xs. xs ++ second (around_of old) old.next) h.found ∙ append_assoc (seen old) first (second (around_of old) old.next);
      next = omega (arith, h.next, k.next);
      loops = k.loops ∙ h.loops;
      declarations = k.declarations ∙ h.declarations;
    }

-- all but the last
but-last : {A : Type 0} (xs : List A) (x : A) → take (length (xs ++ (x ∷ [])) - 1) (xs ++ (x ∷ [])) ≡ xs
but-last xs x =
    let e : length (xs ++ (x ∷ [])) - 1 ≡ length xs = omega (arith, length-append xs (x ∷ [])) in
    ap (λ (n : ℕ). take n (xs ++ (x ∷ []))) e ∙ take-append_seam xs (x ∷ [])

-- the parts of a loop
pub finds-loop : {old entered inner new : Walker} {x : ℕ} {d : Domain} {n : ℕ} (part : Around → ℕ → List Access)
    → Enters old entered x d → Finds entered inner (part (around_of entered) entered.next) n → Leaves inner new
    → Finds old new (part (within (around_of old) old.next x d) (old.next + 1)) (1 + n)
finds-loop {old = old} {entered = entered} {inner = inner} {new = new} {x = x} {d = d} {n = n} part e h l =
    let one : Loop = record { number = old.next; iterator = x; domain = d } in
    let same = h.loops ∙ e.loops in
    record {
      found = l.found ∙ h.found ∙ ap (λ w. seen entered ++ part w entered.next) (around-entered e) ∙ ap (λ (i : ℕ). seen entered ++ part (within (around_of old) old.next x d) i) e.next
          ∙ ap (λ xs. xs ++ part (within (around_of old) old.next x d) (old.next + 1)) e.found;
      next = omega (arith, e.next, h.next, l.next);
      loops = l.loops ∙ ap (λ ls. take (length ls - 1) ls) same ∙ but-last old.loops.items one;
      declarations = l.declarations ∙ h.declarations ∙ e.declarations;
    }

-- one part more
pub walks-next : {X : Type 0} {initial self new : Walker} (accesses : List X → Around → ℕ → List Access) (passed : List X → ℕ)
    (one : X → Around → ℕ → List Access) (loops : X → ℕ)
    → ((x : X) (rest : List X) (w : Around) (n : ℕ) → accesses (x ∷ rest) w n ≡ one x w n ++ accesses rest w (n + loops x))
    → ((x : X) (rest : List X) → passed (x ∷ rest) ≡ loops x + passed rest)
    → (all : List X) (x : X) (rest : List X)
    → Walks accesses passed initial self all (x ∷ rest) → Finds self new (one x (around_of self) self.next) (loops x) → Walks accesses passed initial new all rest
walks-next {initial = initial} {self = self} {new = new} accesses passed one loops found counted all x rest w h =
    let around = around_of self in
    record {
      found = ap (λ a. seen new ++ accesses rest a new.next) (around-found h) ∙ ap (λ (i : ℕ). seen new ++ accesses rest around i) h.next
          ∙ ap (λ xs. xs ++ accesses rest around (self.next + loops x)) h.found ∙ append_assoc (seen self) (one x around self.next) (accesses rest around (self.next + loops x))
          ∙ ap (λ xs. seen self ++ xs) (sym (found x rest around self.next)) ∙ w.found;
      next = omega (arith, w.next, h.next, counted x rest);
      loops = h.loops ∙ w.loops;
      declarations = h.declarations ∙ w.declarations;
    }

-- after the last part
pub walks-end : {X : Type 0} {initial self : Walker} (accesses : List X → Around → ℕ → List Access) (passed : List X → ℕ)
    → ((w : Around) (n : ℕ) → accesses [] w n ≡ []) → passed [] ≡ 0 → (all : List X)
    → Walks accesses passed initial self all [] → Finds initial self (accesses all (around_of initial) initial.next) (passed all)
walks-end {self = self} accesses passed none zero_passed all w = record {
  found = sym (append-nil (seen self)) ∙ ap (λ xs. seen self ++ xs) (sym (none (around_of self) self.next)) ∙ w.found;
  next = omega (arith, w.next, zero_passed);
  loops = w.loops;
  declarations = w.declarations;
}
