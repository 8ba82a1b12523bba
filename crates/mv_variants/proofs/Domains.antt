-- Domains, one more at a time.
use Rattle.std.proofs.Common.{◌≡◌, ℕ, ◌+◌, ◌<◌, ◌^◌, All, List, [], ◌∷◌, ◌++◌, length, map, take, get_or, sym, ◌∙◌, ap, subst}
use Rattle.std.proofs.lemmas.List.{take_more}
use Rattle.mv_ir.proofs.Keeping.{map_append}
use Rattle.mv_ast.specs.declared.program.Program.{Program}
use Rattle.mv_merge.specs.declared.rows.Domain.{Domain}
use Rattle.mv_variants.specs.Bound.Led.{HaveWords}
use Rattle.mv_variants.specs.Bound.Switches.{DomainsAreWords}
use Rattle.mv_variants.specs.Domains.{domain, IsDomain, AreDomainsOf}

words_push : (domains : List Domain) (d : Domain) → HaveWords domains → All (λ v. v < 2 ^ 32) d.values → HaveWords (domains ++ d ∷ [])
words_push [] d h w = (w, tt)
words_push (x ∷ domains) d h w = (h.0, words_push domains d h.1 w)

-- the domain of one switch more
pub domain_push : (p : Program) (switches : List ℕ) (k any : ℕ) → k < length switches → (old new : List Domain) (d : Domain) → AreDomainsOf (map (domain p) (take k switches)) old →
    IsDomain (domain p (get_or switches k any)) d → new ≡ old ++ d ∷ [] → AreDomainsOf (map (domain p) (take (k + 1) switches)) new
domain_push p switches k any below old new d are is e =
    let s = get_or switches k any in
    let more : take (k + 1) switches ≡ take k switches ++ s ∷ [] = take_more switches k any below in
    record {
      is = e ∙ ap (λ l. l ++ d ∷ []) are.is ∙ ap (λ x. map (domain p) (take k switches) ++ x ∷ []) is.is ∙ sym (map_append (domain p) (take k switches) (s ∷ [])) ∙ ap (map (domain p)) (sym more);
      words = subst HaveWords (sym e) (words_push old d are.words is.words);
    }

pub words_of : (p : Program) (switches : List ℕ) → HaveWords (map (domain p) switches) → DomainsAreWords p switches
words_of p [] h = tt
words_of p (s ∷ switches) h = (h.0, words_of p switches h.1)
