-- How a checker notes violations one after another.
use Rattle.std.proofs.Common.{◌≡◌, List, ◌∷◌, ◌++◌, ap, sym, ◌∙◌}
use Rattle.gm_base.specs.declared.rules.Refusal.{Refusal}
use Rattle.gm_base.specs.Rules.{least_from}
use Rattle.gm_ast.specs.declared.kinds.Role.{Role}
use Rattle.gm_ast.specs.Surface.{SurfaceGroup}
use Rattle.gm_ast.specs.Names.{Env}
use Rattle.gm_ast.specs.Statements.{type_broken}
use Rattle.gm_ast.specs.Procedures.{types_broken}
use Rattle.gm_types.specs.declared.names.Checker.{Checker}
use Rattle.gm_types.specs.Views.{env_of}
use Rattle.gm_types.specs.Notes.{Notes, Noting}
use Rattle.gm_types.proofs.Leasts.{least_from-append}

-- some violations and then more
pub notes-then : {old mid new : Checker} (rs qs : List Refusal) → Notes old mid rs → Notes mid new qs → Notes old new (rs ++ qs)
notes-then {old = old} {mid = mid} {new = new} rs qs h k = record {
  least = k.least ∙ ap (λ l. least_from l qs) h.least ∙ sym (least_from-append old.least rs qs);
  rest = k.rest ∙ ap (λ (s : Checker). record s { least = new.least }) h.rest;
}

-- noting changes nothing around a part
pub same-around : {old new : Checker} {rs : List Refusal} → Notes old new rs → env_of new ≡ env_of old
same-around h = ap env_of h.rest

-- one group more
pub noting-next : {initial self new : Checker} (role : Role) (all : List SurfaceGroup) (g : SurfaceGroup) (rest : List SurfaceGroup)
    → Noting role initial self all (g ∷ rest) → Notes self new (type_broken g.vtype role (env_of self)) → Noting role initial new all rest
noting-next {initial = initial} {self = self} {new = new} role all g rest w h =
    let tb = type_broken g.vtype role (env_of initial) in
    record {
      least = ap (λ l. least_from l (types_broken role (env_of initial) rest)) (h.least ∙ ap (λ (e : Env). least_from self.least (type_broken g.vtype role e)) (ap env_of w.same))
          ∙ sym (least_from-append self.least tb (types_broken role (env_of initial) rest)) ∙ w.least;
      same = h.rest ∙ ap (λ (s : Checker). record s { least = new.least }) w.same;
    }
