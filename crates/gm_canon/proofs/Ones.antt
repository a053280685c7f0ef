-- A text stands for at most one program.
use Rattle.std.proofs.Common.{◌≡◌, ◌⊎◌, ℕ, Bool, true, false, List, inl, inr, refl, sym, ap, subst, ◌∙◌, Some}
use Rattle.std.specs.Prelude.{Result, Ok, Err, unwrap_or}
use Rattle.std.proofs.lemmas.Bool.{both_ways}
use Rattle.gm_base.specs.declared.rules.Stop.{Stop}
use Rattle.gm_base.specs.declared.rules.Stop.TheVariants.{NoMemory}
use Rattle.gm_token.specs.Tokens.{Listing}
use Rattle.gm_token.specs.Scanning.{IsScanOf}
use Rattle.gm_parse.specs.OneTree.{TextsHaveOneTree}
use Rattle.gm_parse.specs.Trees.{IsTreeOf}
use Rattle.gm_ast.specs.Surface.{SurfaceProcedure}
use Rattle.gm_ast.specs.Program.{Program}
use Rattle.gm_ast.specs.Procedures.{elaborated}
use Rattle.gm_canon.specs.Verdict.{TypesAs, StandsFor}

-- what a scan gave, or another
abbrev ok_or : Listing → Result Listing Stop → Listing
ok_or d (Ok x) = x
ok_or d (Err s) = d

abbrev is_ok : Result Listing Stop → Bool
is_ok (Ok x) = true
is_ok (Err s) = false

-- a scan gives one list of tokens
pub same-listing : (tokens it : Listing) → let result : Result Listing Stop = Ok tokens in (result ≡ Ok it) ⊎ (result ≡ Err NoMemory) → it ≡ tokens
same-listing tokens it (inl e) = sym (ap (ok_or tokens) e)
same-listing tokens it (inr e) = absurd (both_ways false refl (sym (ap is_ok e)))

-- where a text has one list of tokens and these have one tree, another program that it stands for is this one
pub one-program : (text : List ℕ) (tokens : Listing) (tree : SurfaceProcedure) (program other : Program)
    → ((it : Listing) → IsScanOf text it → it ≡ tokens) → TextsHaveOneTree → IsTreeOf tokens.tokens tree → TypesAs tree program → StandsFor text other → other ≡ program
one-program text tokens tree program other one-listing one-tree is typed stands =
    let spelled = stands.spelled in
    let same : spelled.listing ≡ tokens = one-listing spelled.listing spelled.scanned in
    let reads : IsTreeOf tokens.tokens stands.tree = subst (λ (it : Listing). IsTreeOf it.tokens stands.tree) same spelled.spelled in
    let trees : stands.tree ≡ tree = one-tree tokens.tokens stands.tree tree reads is in
    ap (λ o. unwrap_or o other) (sym stands.stands.typed.is ∙ ap (λ t. (elaborated t).part) trees ∙ typed.is)
