-- How a checker declares several names.
use Rattle.std.proofs.Common.{◌≡◌, ℕ, ◌+◌, List, [], ◌∷◌, ◌++◌, ap, sym, refl, ◌∙◌, Option, length, append_assoc, append-nil, length-append, arith}
use Rattle.std.specs.Prelude.{Some, None, Ok}
use Rattle.std.specs.Global.{Vec}
use Rattle.gm_base.specs.declared.rules.Refusal.{Refusal}
use Rattle.gm_ast.specs.declared.tree.Declaration.{Declaration}
use Rattle.gm_types.proofs.Walks.{same_counts}
use Rattle.gm_base.specs.Rules.{least_from}
use Rattle.gm_ast.specs.declared.tree.Variable.{Variable}
use Rattle.gm_ast.specs.Surface.{SurfaceName, SurfaceType, SurfaceGroup, Declare}
use Rattle.gm_ast.specs.declared.kinds.Role.TheVariants.{Local}
use Rattle.gm_ast.specs.Judged.{Judged, ok_of, errs_of, both_of, part_by, broken_by, judge, beside, noted}
use Rattle.gm_ast.specs.Names.{Env, declared_as, with_name}
use Rattle.gm_ast.specs.Program.{Stmt}
use Rattle.gm_ast.specs.Statements.{declared_all, with_names, variable_of, type_broken, sort_of, declarations_as, declared_plainly, following}
use Rattle.gm_ast.specs.Procedures.{parameters, with_parameters}
use Rattle.gm_types.specs.declared.names.Checker.{Checker}
use Rattle.gm_types.specs.Views.{env_of, Declares, Gives, Judges}
use Rattle.gm_types.specs.Shapes.{joined}
use Rattle.gm_types.specs.Declaring.{Declaring, Grouping}
use Rattle.gm_types.proofs.Leasts.{least_from-append}
use Rattle.gm_types.proofs.Sequences.{nothing_broken, joined-none, joined-last}

-- before the first name
pub declaring-first : (v : Variable) (s : Checker) (all : List SurfaceName) → Declaring v s s [] all all
declaring-first v s all = record { part = sym (joined-none _); least = refl; declared = refl; names = refl }

-- one name more
pub declaring-next : {initial self new : Checker} {held : List ℕ} (v : Variable) (all : List SurfaceName) (x : SurfaceName) (rest : List SurfaceName) (index : ℕ)
    → Declaring v initial self held all (x ∷ rest) → Declares self new x v → index ≡ length self.declarations.items
    → Declaring v initial new (held ++ (index ∷ [])) all rest
declaring-next {initial = initial} {self = self} {new = new} {held = held} v all x rest index w h is =
    let a = declared_as (env_of self) x v in
    let r = declared_all v rest (with_name (env_of self) x v) in
    let same : declared_all v rest (env_of new) ≡ r = ap (declared_all v rest) h.names in
    record {
      part = w.part ∙ joined-last (Some held) a.part r.part ∙ ap (λ n. joined (Some (held ++ (n ∷ []))) r.part) (sym is) ∙ ap (λ j. joined (Some (held ++ (index ∷ []))) j.part) (sym same);
      least = w.least ∙ ap (λ bs. least_from self.least ((a.broken ++ r.broken) ++ bs)) (nothing_broken (both_of a.part r.part) (λ q. q.0 ∷ q.1))
          ∙ ap (least_from self.least) (append-nil (a.broken ++ r.broken)) ∙ least_from-append self.least a.broken r.broken
          ∙ ap (λ l. least_from l r.broken) (sym h.least) ∙ ap (λ j. least_from new.least j.broken) (sym same);
      declared = w.declared ∙ sym (append_assoc self.declarations.items a.declared r.declared) ∙ ap (λ ds. ds ++ r.declared) (sym h.declared) ∙ ap (λ j. new.declarations.items ++ j.declared) (sym same);
      names = w.names ∙ ap (with_names v rest) (sym h.names);
    }

-- after the last name
pub declaring-end : {initial self : Checker} {held : List ℕ} (v : Variable) (all : List SurfaceName) → Declaring v initial self held all []
    → Gives initial self (declared_all v all (env_of initial)) (Some held) (with_names v all (env_of initial))
declaring-end {self = self} {held = held} v all w = record {
  stands_for = sym (w.part ∙ ap Some (append-nil held));
  least = sym w.least;
  declared = sym (w.declared ∙ append-nil self.declarations.items);
  names = sym w.names;
}

-- before the first group
pub grouping-first : (s : Checker) (all : List SurfaceGroup) → Grouping s s all all
grouping-first s all = record { least = refl; declared = refl; names = refl }

-- one group more
pub grouping-next : {initial self new : Checker} {held : Option (List ℕ)} (all : List SurfaceGroup) (g : SurfaceGroup) (rest : List SurfaceGroup)
    → Grouping initial self all (g ∷ rest)
    → Gives self new (declared_all (variable_of g.vtype 0) g.names (env_of self)) held (with_names (variable_of g.vtype 0) g.names (env_of self))
    → Grouping initial new all rest
grouping-next {initial = initial} {self = self} {new = new} all g rest w h =
    let v = variable_of g.vtype 0 in
    let a = declared_all v g.names (env_of self) in
    let r = parameters rest (with_names v g.names (env_of self)) in
    let same : parameters rest (env_of new) ≡ r = ap (parameters rest) h.names in
    record {
      least = w.least ∙ ap (λ bs. least_from self.least ((a.broken ++ r.broken) ++ bs)) (nothing_broken (both_of a.part r.part) (λ q. tt {0}))
          ∙ ap (least_from self.least) (append-nil (a.broken ++ r.broken)) ∙ least_from-append self.least a.broken r.broken
          ∙ ap (λ l. least_from l r.broken) (sym h.least) ∙ ap (λ j. least_from new.least j.broken) (sym same);
      declared = w.declared ∙ sym (append_assoc self.declarations.items a.declared r.declared) ∙ ap (λ ds. ds ++ r.declared) (sym h.declared) ∙ ap (λ j. new.declarations.items ++ j.declared) (sym same);
      names = w.names ∙ ap (with_parameters rest) (sym h.names);
    }

-- declarations always have their indices
all-declared : (v : Variable) (xs : List SurfaceName) (env : Env) → (ns : List ℕ) × ((declared_all v xs env).part ≡ Some ns)
all-declared v [] env = ([], refl)
all-declared v (x ∷ xs) env = let (ns, h) = all-declared v xs (with_name env x v) in (env.next ∷ ns, ap (λ o. part_by (both_of (Some env.next) o) (λ q. Ok (q.0 ∷ q.1))) h)

-- and so have parameters
all-grouped : (gs : List SurfaceGroup) (env : Env) → (parameters gs env).part ≡ Some (tt {0})
all-grouped [] env = refl
all-grouped (g ∷ gs) env =
    let (ns, h) = all-declared (variable_of g.vtype 0) g.names env in
    ap (λ o. part_by (both_of o (parameters gs (with_names (variable_of g.vtype 0) g.names env)).part) (λ q. Ok (tt {0}))) h
    ∙ ap (λ o. part_by (both_of (Some ns) o) (λ q. Ok (tt {0}))) (all-grouped gs (with_names (variable_of g.vtype 0) g.names env))

-- after the last group
pub grouping-end : {initial self : Checker} (all : List SurfaceGroup) → Grouping initial self all []
    → Gives initial self (parameters all (env_of initial)) (Some (tt {0})) (with_parameters all (env_of initial))
grouping-end {initial = initial} {self = self} all w = record {
  stands_for = sym (all-grouped all (env_of initial));
  least = sym w.least;
  declared = sym (w.declared ∙ append-nil self.declarations.items);
  names = sym w.names;
}

-- the names after declarations are more, and the counts go on
pub names-following : (v : Variable) (xs : List SurfaceName) (env : Env)
    → with_names v xs env ≡ record env { known = (with_names v xs env).known; next = env.next + length (declared_all v xs env).declared; number = env.number + (declared_all v xs env).numbers }
names-following v [] env =
    let e : env.next ≡ env.next + 0 = omega arith in
    let m : env.number ≡ env.number + 0 = omega arith in
    same_counts env _ _ _ _ e m
names-following v (x ∷ xs) env =
    let inner = with_name env x v in
    let d = declared_all v xs inner in
    let all = declared_all v (x ∷ xs) env in
    let e : inner.next + length d.declared ≡ env.next + length all.declared = omega arith in
    let m : inner.number + d.numbers ≡ env.number + all.numbers = omega arith in
    names-following v xs inner ∙ same_counts (record env { known = (with_names v xs inner).known }) (inner.next + length d.declared) (env.next + length all.declared) (inner.number + d.numbers) (env.number + all.numbers) e m

-- a name that is declared beside violations, and not known yet
pub judges-declared : {old new : Checker} {n : ℕ} (rs : List Refusal) (x : SurfaceName) (v : Variable) (l : Option Refusal) (d : Vec Declaration)
    → new ≡ record old { least = l; declarations = d }
    → l ≡ least_from (least_from old.least rs) (declared_as (env_of old) x v).broken
    → d.items ≡ old.declarations.items ++ (declared_as (env_of old) x v).declared → n ≡ length old.declarations.items
    → Judges old new (judge (beside (noted (tt {0}) rs) (declared_as (env_of old) x v)) (λ p. Ok p.1)) (Some n)
judges-declared {old = old} {new = new} {n = n} rs x v l d is least row index =
    let a = declared_as (env_of old) x v in
    record {
      stands_for = ap Some index;
      least = ap (λ (c : Checker). c.least) is ∙ least ∙ sym (least_from-append old.least rs a.broken) ∙ ap (least_from old.least) (sym (append-nil (rs ++ a.broken)));
      declared = ap (λ (c : Checker). c.declarations.items) is ∙ row;
      names = ap env_of is ∙ same_counts (env_of old) _ _ _ _ (ap length row ∙ length-append old.declarations.items a.declared) (omega arith);
    }

-- declarations without values, whose type is judged first and after which the names are known
pub judges-plainly : {old mid all new : Checker} {ns : List ℕ} {r : Option Stmt} (t : SurfaceType) (xs : List SurfaceName)
    → mid ≡ record old { least = mid.least } → mid.least ≡ least_from old.least (type_broken t Local (env_of old))
    → Gives mid all (declared_all (variable_of t old.depth) xs (env_of mid)) (Some ns) (with_names (variable_of t old.depth) xs (env_of mid))
    → r ≡ ok_of (declarations_as (sort_of t) old.key xs ns) → new.least ≡ least_from all.least (errs_of (declarations_as (sort_of t) old.key xs ns))
    → new.declarations.items ≡ all.declarations.items → env_of new ≡ env_of all
    → Gives old new (declared_plainly t xs (env_of old)) r (following (Declare t xs) (env_of old) (declared_plainly t xs (env_of old)))
judges-plainly {old = old} {mid = mid} {all = all} {new = new} {ns = ns} {r = r} t xs same types h stands noted_more same_declarations same_names =
    let v = variable_of t old.depth in
    let env = env_of old in
    let d = declared_all v xs env in
    let tb = type_broken t Local env in
    let is : env_of mid ≡ env = ap env_of same in
    let part : Some ns ≡ d.part = h.stands_for ∙ ap (λ e. (declared_all v xs e).part) is in
    let least : all.least ≡ least_from mid.least d.broken = h.least ∙ ap (λ e. least_from mid.least (declared_all v xs e).broken) is in
    let rule = (λ (p : Unit {0} × List ℕ). declarations_as (sort_of t) old.key xs p.1) in
    let judged : both_of (Some (tt {0})) d.part ≡ Some (tt {0}, ns) = ap (both_of (Some (tt {0}))) (sym part) in
    record {
      stands_for = stands ∙ ap (λ o. part_by o rule) (sym judged);
      least = noted_more ∙ ap (λ l. least_from l (errs_of (declarations_as (sort_of t) old.key xs ns))) (least ∙ ap (λ l. least_from l d.broken) types ∙ sym (least_from-append old.least tb d.broken))
          ∙ ap (λ o. least_from (least_from old.least (tb ++ d.broken)) (broken_by o rule)) (sym judged)
          ∙ sym (least_from-append old.least (tb ++ d.broken) (broken_by (both_of (Some (tt {0})) d.part) rule));
      declared = same_declarations ∙ h.declared ∙ ap (λ e. mid.declarations.items ++ (declared_all v xs e).declared) is ∙ ap (λ (c : Checker). c.declarations.items ++ d.declared) same;
      names = same_names ∙ h.names ∙ ap (with_names v xs) is ∙ names-following v xs env
          ∙ same_counts (record env { known = (with_names v xs env).known }) (env.next + length d.declared) (env.next + length d.declared) (env.number + d.numbers) (env.number + (0 + d.numbers)) refl (omega arith);
    }
