-- How a checker judges parts one after the other.
use Rattle.std.proofs.Common.{◌≡◌, ℕ, ◌+◌, ◌++◌, ap, sym, subst, ◌∙◌, Option, length, append_assoc, length-append, arith, refl}
use Rattle.gm_base.specs.Rules.{least_from}
use Rattle.gm_types.proofs.Leasts.{least_from-append}
use Rattle.gm_ast.specs.declared.tree.Key.{Key}
use Rattle.gm_ast.specs.Judged.{Judged, Answer, both_of, beside, part_by, broken_by, judge}
use Rattle.gm_ast.specs.Names.{Env, later, both, keyed, counted, numbered, operators_of}
use Rattle.gm_types.specs.declared.names.Checker.{Checker}
use Rattle.gm_types.specs.Views.{env_of, Judges}

-- two environments that differ in counts that are equal
pub same_counts : (env : Env) (n m k l : ℕ) → n ≡ m → k ≡ l → record env { next = n; number = k } ≡ record env { next = m; number = l }
same_counts env n m k l h j = ap (λ (x : ℕ). record env { next = x; number = k }) h ∙ ap (λ (x : ℕ). record env { next = m; number = x }) j

-- the names after two parts
pub later-beside : {A B : Type 0} (env : Env) (x : Judged A) (y : Judged B) → later (later env x) y ≡ later env (beside x y)
later-beside env x y =
    let e : env.next + length x.declared + length y.declared ≡ env.next + length (x.declared ++ y.declared) = omega (arith, length-append x.declared y.declared) in
    let n : env.number + x.numbers + y.numbers ≡ env.number + (x.numbers + y.numbers) = omega arith in
    same_counts env _ _ _ _ e n

-- two parts, of which the second is judged after the first
pub judges-both : {A B : Type 0} {old mid new : Checker} {p : Option A} {q : Option B} (a : Env → Judged A) (b : Env → Judged B)
    → Judges old mid (a (env_of old)) p → Judges mid new (b (env_of mid)) q → Judges old new (both a b (env_of old)) (both_of p q)
judges-both {B = B} {old = old} {mid = mid} {new = new} {p = p} {q = q} a b h k =
    let x = a (env_of old) in
    let y = b (later (env_of old) x) in
    let k' : Judges mid new y q = subst (λ (w : Judged B). Judges mid new w q) (ap b h.names) k in
    record {
      stands_for = ap (λ o. both_of o q) h.stands_for ∙ ap (both_of x.part) k'.stands_for;
      least = k'.least ∙ ap (λ l. least_from l y.broken) h.least ∙ sym (least_from-append old.least x.broken y.broken);
      declared = k'.declared ∙ ap (λ ds. ds ++ y.declared) h.declared ∙ append_assoc old.declarations.items x.declared y.declared;
      names = k'.names ∙ ap (λ env. later env y) h.names ∙ later-beside (env_of old) x y;
    }

-- a rule on parts that were judged
pub judges-by : {A B : Type 0} {old mid new : Checker} {x : Judged A} {p : Option A} {r : Option B} (rule : A → Answer B)
    → Judges old mid x p → r ≡ part_by p rule → new.least ≡ least_from mid.least (broken_by p rule)
    → new.declarations.items ≡ mid.declarations.items → env_of new ≡ env_of mid
    → Judges old new (judge x rule) r
judges-by {old = old} {x = x} {p = p} rule h stands noted same_declarations same_names = record {
  stands_for = stands ∙ ap (λ a. part_by a rule) h.stands_for;
  least = noted ∙ ap (λ l. least_from l (broken_by p rule)) h.least ∙ ap (λ a. least_from (least_from old.least x.broken) (broken_by a rule)) h.stands_for
      ∙ sym (least_from-append old.least x.broken (broken_by x.part rule));
  declared = same_declarations ∙ h.declared;
  names = same_names ∙ h.names;
}

-- a part under a key of its own
pub judges-keyed : {A : Type 0} {old mid : Checker} {p : Option A} (k : Key) (part : Env → Judged A)
    → Judges (record old { key = k }) mid (part (env_of (record old { key = k }))) p
    → Judges old (record mid { key = old.key }) (keyed k part (env_of old)) p
judges-keyed {old = old} k part h = record {
  stands_for = h.stands_for;
  least = h.least;
  declared = h.declared;
  names = ap (λ (env : Env). record env { key = old.key }) h.names;
}

-- a part with statement numbers before it
pub judges-counted : {A : Type 0} {old new : Checker} {p : Option A} (n : ℕ) (part : Env → Judged A)
    → Judges (record old { number = old.number + n }) new (part (env_of (record old { number = old.number + n }))) p
    → Judges old new (counted n part (env_of old)) p
judges-counted {old = old} n part h =
    let x = part (env_of (record old { number = old.number + n })) in
    let e : old.number + n + x.numbers ≡ old.number + (n + x.numbers) = omega arith in
    record {
      stands_for = h.stands_for;
      least = h.least;
      declared = h.declared;
      names = h.names ∙ same_counts (env_of old) _ _ _ _ refl e;
    }

-- a statement with its number and key
pub judges-numbered : {A : Type 0} {old mid : Checker} {p : Option A} (part : Env → Judged A)
    → Judges (record old { number = old.number + 1; key = operators_of old.number }) mid (part (env_of (record old { number = old.number + 1; key = operators_of old.number }))) p
    → Judges old (record mid { key = old.key }) (numbered part (env_of old)) p
judges-numbered {old = old} part h = judges-counted 1 (keyed (operators_of old.number) part) (judges-keyed (operators_of old.number) part h)
