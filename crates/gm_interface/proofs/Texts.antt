-- The names that a text spells are names.
use Rattle.std.proofs.Common.{◌≡◌, ◌<◌, ℕ, zero, suc, Bool, true, false, Option, Some, None, List, [], ◌∷◌, ◌++◌, length, refl, ap, ◌∙◌, sym, subst, arith}
use Rattle.std.specs.Prelude.{◌+◌, ◌||◌, nat_lt, nat_le, slice_index_or}
use Rattle.std.specs.List.{list_all, AllPass}
use Rattle.std.proofs.lemmas.Bool.{both_ways, and_from, ltb-true, leb-true}
use Rattle.std.proofs.lemmas.List.{length-append}
use Rattle.gm_base.specs.declared.places.Place.{Place}
use Rattle.gm_token.specs.declared.words.Word.{Word}
use Rattle.gm_token.specs.Bytes.{begins_name, goes_on_name}
use Rattle.gm_token.specs.Scanning.{Scans, IsScanOf}
use Rattle.gm_token.specs.Spellings.{IsName, IsToken}
use Rattle.gm_token.specs.Tokens.{Token, Listing}
use Rattle.gm_token.specs.Words.{symbols}
use Rattle.gm_parse.specs.Terminals.{Terminal, number_of}
use Rattle.gm_parse.specs.Trees.{ReadsWord, ReadsAs, ReadsName, ReadsNames, ReadsOf, ReadsType, ReadsGroup, ReadsGroups, ReadsParameters, ReadsOutputs, ReadsProcedure, IsTreeOf}
use Rattle.gm_ast.specs.declared.tree.Declaration.{Declaration}
use Rattle.gm_ast.specs.declared.tree.Variable.{Variable}
use Rattle.gm_ast.specs.Names.{Env, with_name}
use Rattle.gm_ast.specs.Procedures.{parameters, count_names, nothing_known, result_of, env_of_outputs, parts_of, elaborated}
use Rattle.gm_ast.specs.Program.{Program}
use Rattle.gm_ast.specs.Statements.{variable_of, declared_all, with_names}
use Rattle.gm_ast.specs.Surface.{SurfaceName, SurfaceType, SurfaceGroup, SurfaceProcedure}
use Rattle.gm_forms.proofs.Named.{both-true}
use Rattle.gm_typed_stores.specs.Values.{Each}
use Rattle.gm_ready.proofs.Judging.{IfPart, if-by}
use Rattle.gm_ready.proofs.Procedures.{parameters-declared}
use Rattle.gm_sound_lowering.specs.Asked.{name_at}
use Rattle.gm_sound_lowering.proofs.Leaves.{each-join}
use Rattle.gm_interface.specs.Laws.{TextsAreNamed}
use Rattle.gm_interface.specs.Tables.{IsNamedText}
use Rattle.gm_interface.proofs.Source.{ins, outs, body, all}
use Rattle.gm_interface.proofs.Spelled.{name-first}
use Rattle.gm_image.specs.Names.{is_name, is_name_byte}

-- ---- tokens

-- a token that may be a name has a name's letters
abbrev IsSpelled : Token → Type 0
IsSpelled t = nat_lt (number_of t.word) 7 ≡ true → is_name t.text ≡ true

at-index : {A : Type 0} (P : A → Bool) (xs : List A) (k : ℕ) (d : A) → list_all P xs ≡ true → k < length xs → P (slice_index_or xs k d) ≡ true
at-index P [] k d h lt = absurd (omega (arith, lt))
at-index P (x ∷ xs) zero d h lt = (both-true (P x) (list_all P xs) h).0
at-index P (x ∷ xs) (suc k) d h lt = at-index P xs k d (both-true (P x) (list_all P xs) h).1 (omega (arith, lt))

abbrev is_symbol : (List ℕ × Word) → Bool
is_symbol row = nat_le 7 (number_of row.1)

no-symbols : list_all is_symbol symbols ≡ true
unfolding symbols
no-symbols = refl

name-bytes : (bs : List ℕ) → AllPass goes_on_name bs → list_all is_name_byte bs ≡ true
name-bytes [] h = refl
name-bytes (b ∷ bs) h = and_from (is_name_byte b) (list_all is_name_byte bs) (h 0 b (omega arith)) (name-bytes bs (λ k d l. h (suc k) d (omega (arith, l))))

spelled-name : (bs : List ℕ) → IsName bs → is_name bs ≡ true
spelled-name [] h = absurd h
spelled-name (b ∷ bs) h =
    and_from (begins_name b) (list_all is_name_byte (b ∷ bs)) h.0 (and_from (is_name_byte b) (list_all is_name_byte bs) (or-left (begins_name b) _ h.0) (name-bytes bs h.1)) where
      or-left : (a c : Bool) → a ≡ true → a || c ≡ true
      or-left true c e = refl
      or-left false c e = absurd (both_ways false refl e)

token-spelled : {w : Word} {bs rest : List ℕ} → IsToken w bs rest → nat_lt (number_of w) 7 ≡ true → is_name bs ≡ true
token-spelled {w} {bs} (IsToken.name n e) h = spelled-name bs n
token-spelled {w} {bs} (IsToken.number n e) h = absurd (both_ways false refl (sym (ap (λ v. nat_lt (number_of v) 7) e) ∙ h))
token-spelled {w} {bs} (IsToken.real n e) h = absurd (both_ways false refl (sym (ap (λ v. nat_lt (number_of v) 7) e) ∙ h))
token-spelled {w} {bs} (IsToken.symbol c p) h =
    let i = at-index is_symbol symbols c.0 (bs, w) no-symbols c.1 in
    let big : nat_le 7 (number_of w) ≡ true = sym (ap is_symbol c.2) ∙ i in
    let l = ltb-true (number_of w) 7 h in
    let m = leb-true 7 (number_of w) big in
    absurd (omega (arith, l, m))

scans-spelled : {at to : Place} {text left : List ℕ} {ts : List Token} → Scans at text ts to left → Each IsSpelled ts
scans-spelled Scans.here = tt
scans-spelled (Scans.gap g s) = scans-spelled s
scans-spelled (Scans.token l n s) = (λ h. token-spelled l.token h, scans-spelled s)

-- ---- the head of a procedure

abbrev Spelled : List Token → Type 0
Spelled us = Each IsSpelled us

word-on : {k : Terminal} {us vs : List Token} {p : Place} → ReadsWord k us p vs → Spelled us → Spelled vs
word-on (ReadsWord.word f) h = h.1

as-on : {A : Type 0} {meaning : Word → Option A} {us vs : List Token} {x : A} {p : Place} → ReadsAs meaning us x p vs → Spelled us → Spelled vs
as-on (ReadsAs.word f) h = h.1

name-on : {us vs : List Token} {x : SurfaceName} → ReadsName us x vs → Spelled us → (is_name x.text ≡ true) × Spelled vs
name-on (ReadsName.name f) h = (h.0 f, h.1)

abbrev AreNames : List SurfaceName → Type 0
AreNames xs = Each (λ x. is_name x.text ≡ true) xs

each-behind : {A : Type 0} (P : A → Type 0) (xs : List A) (x : A) → Each P xs → P x → Each P (xs ++ x ∷ [])
each-behind P [] x h k = (k, tt)
each-behind P (y ∷ xs) x h k = (h.0, each-behind P xs x h.1 k)

names-on : {us vs : List Token} {xs : List SurfaceName} → ReadsNames us xs vs → Spelled us → AreNames xs × Spelled vs
names-on (ReadsNames.one r) h = let n = name-on r h in ((n.0, tt), n.1)
names-on (ReadsNames.more {xs = xs} {x = x} r c n) h = let a = names-on r h in let b = name-on n (word-on c a.1) in (each-behind (λ x. is_name x.text ≡ true) xs x a.0 b.0, b.1)

of-on : {us vs : List Token} {g : Option SurfaceName} → ReadsOf us g vs → Spelled us → Spelled vs
of-on ReadsOf.absent h = h
of-on (ReadsOf.present l n r) h = word-on r (name-on n (word-on l h)).1

type-on : {us vs : List Token} {t : SurfaceType} → ReadsType us t vs → Spelled us → Spelled vs
type-on (ReadsType.bare w) h = as-on w h
type-on (ReadsType.element w g) h = of-on g (as-on w h)
type-on (ReadsType.property b l t m g) h = of-on g (word-on m (type-on t (word-on l (as-on b h))))

abbrev IsGroup : SurfaceGroup → Type 0
IsGroup g = AreNames g.names

group-on : {us vs : List Token} {g : SurfaceGroup} → ReadsGroup us g vs → Spelled us → IsGroup g × Spelled vs
group-on (ReadsGroup.group n c t) h = let a = names-on n h in (a.0, type-on t (word-on c a.1))

groups-on : {us vs : List Token} {gs : List SurfaceGroup} → ReadsGroups us gs vs → Spelled us → Each IsGroup gs × Spelled vs
groups-on (ReadsGroups.one g) h = let a = group-on g h in ((a.0, tt), a.1)
groups-on (ReadsGroups.more {gs = gs} {g = g} r c n) h = let a = groups-on r h in let b = group-on n (word-on c a.1) in (each-behind IsGroup gs g a.0 b.0, b.1)

parameters-on : {us vs : List Token} {gs : List SurfaceGroup} → ReadsParameters us gs vs → Spelled us → Each IsGroup gs × Spelled vs
parameters-on ReadsParameters.absent h = (tt, h)
parameters-on (ReadsParameters.present g) h = groups-on g h

outputs-on : {us vs : List Token} {gs : List SurfaceGroup} → ReadsOutputs us gs vs → Spelled us → Each IsGroup gs × Spelled vs
outputs-on ReadsOutputs.absent h = (tt, h)
outputs-on (ReadsOutputs.present s p) h = parameters-on p (word-on s h)

-- the names of a procedure, of its inputs and of its outputs
pub record HasNamedHead (s : SurfaceProcedure) : Type 0 where
  pub name : is_name s.name.text ≡ true
  pub inputs : Each IsGroup s.inputs
  pub outputs : Each IsGroup s.outputs

pub head-named : {us vs : List Token} {s : SurfaceProcedure} → ReadsProcedure us s vs → Spelled us → HasNamedHead s
head-named (ReadsProcedure.procedure w n l i o r t b) h =
    let a = name-on n (as-on w h) in
    let x = parameters-on i (word-on l a.1) in
    let y = outputs-on o x.1 in
    record { name = a.0; inputs = x.0; outputs = y.0 }

pub text-named : (text : List ℕ) (it : Listing) (tree : SurfaceProcedure) → IsScanOf text it → IsTreeOf it.tokens tree → HasNamedHead tree
text-named text it tree scan spelled = head-named spelled (scans-spelled scan.1)

-- ---- and its table

declared-named : (v : Variable) (xs : List SurfaceName) (env : Env) → AreNames xs → Each (λ d. is_name d.name ≡ true) (declared_all v xs env).declared
declared-named v [] env h = tt
declared-named v (x ∷ xs) env h = (h.0, declared-named v xs (with_name env x v) h.1)

parameters-named : (gs : List SurfaceGroup) (env : Env) → Each IsGroup gs → Each (λ d. is_name d.name ≡ true) (parameters gs env).declared
parameters-named [] env h = tt
parameters-named (g ∷ gs) env h =
    let v = variable_of g.vtype 0 in
    let inner = with_names v g.names env in
    each-join (λ d. is_name d.name ≡ true) (declared_all v g.names env).declared (parameters gs inner).declared (declared-named v g.names env h.0) (parameters-named gs inner h.1)

named-at : (ds : List Declaration) (x : ℕ) → Each (λ d. is_name d.name ≡ true) ds → x < length ds → is_name (name_at ds x) ≡ true
named-at [] x h lt = absurd (omega (arith, lt))
named-at (d ∷ ds) zero h lt = h.0
named-at (d ∷ ds) (suc x) h lt = named-at ds x h.1 (omega (arith, lt))

source-named : (s : SurfaceProcedure) → HasNamedHead s → (p : Program) → p.name ≡ s.name.text → p.declarations ≡ all s → p.inputs ≡ count_names s.inputs → p.outputs ≡ count_names s.outputs → IsNamedText p
source-named s h p n e i o = record {
  name = ap is_name n ∙ h.name;
  names = λ x lt.
      let a : length (ins s ++ outs s) ≡ length (ins s) + length (outs s) = length-append (ins s) (outs s) in
      let b : length (ins s) ≡ count_names s.inputs = parameters-declared s.inputs (nothing_known (result_of s)) in
      let c : length (outs s) ≡ count_names s.outputs = parameters-declared s.outputs (env_of_outputs s) in
      let l : x < length (ins s ++ outs s) = omega (arith, lt, a, b, c, i, o) in
      ap is_name (ap (λ ds. name_at ds x) e ∙ name-first (ins s ++ outs s) ((body s).declared) x l)
      ∙ named-at (ins s ++ outs s) x (each-join (λ d. is_name d.name ≡ true) (ins s) (outs s) (parameters-named s.inputs (nothing_known (result_of s)) h.inputs) (parameters-named s.outputs (env_of_outputs s) h.outputs)) l;
}

pub texts-are-named : TextsAreNamed
texts-are-named text it tree p scan spelled is =
    let held : IfPart IsNamedText (elaborated tree).part = if-by (λ q. Unit {0}) IsNamedText (parts_of tree).part _ (any (parts_of tree).part) (λ q h. source-named tree (text-named text it tree scan spelled) _ refl refl refl refl) in
    subst (λ o. IfPart IsNamedText o) is held where
      any : {A : Type 0} (o : Option A) → IfPart (λ (q : A). Unit {0}) o
      any None = tt
      any (Some q) = tt
