use Rattle.std.proofs.Common.{◌≡◌, ◌∙◌, ◌++◌, ◌∷◌, [], sym, ap, subst, Some, None, nat_eq, length, arith}
use Rattle.std.specs.BTreeMap.{Updates}
use Rattle.std.specs.Cmp.Lexicographic.{slice_cmp}
use Rattle.std.specs.Ordering.{nat_cmp}
use Rattle.indexmap.proofs.CallerLemmas.{insert_entry-new}
use Rattle.mv_asmtext.specs.Sites.{sites_of, named}
use Rattle.mv_asmtext.proofs.Lookups.{sites_last, still_fresh, still_below, still_found}
use Rattle.mv_asmtext.proofs.labels.Labels.with.Goals as goal

pub invariant_of-result : goal.invariant_of-result
invariant_of-result c =
    let es = c.self.inside.sites.entries in
    let old = c.self.inside.numbers in
    let new = c.insert.new.self in
    let es' = c.insert-2.new.self.entries in
    let key = c.in_ok-key.key in
    let kept = c.in_ok-kept.kept in
    let site = c.args.site in
    let fresh = c.self.invariant.0 in
    let below = c.self.invariant.1 in
    let found = c.self.invariant.2 in
    let n : c.len-number.result ≡ length es = c.len-number.ensures.len in
    let more : es' ≡ es ++ (length es, (kept, site)) ∷ [] =
    c.in_ok-insert-2.ensures.entries ∙
    (insert_entry-new nat_eq c.self.inside.sites c.len-number.result (kept, site) (fresh c.len-number.result (omega (arith, n))) ∙
    ap (λ k. es ++ (k, (kept, site)) ∷ []) n) in
    let set : Updates (λ a b. slice_cmp nat_cmp a.items b.items) old new key (Some (length es)) =
    subst (λ k. Updates (λ a b. slice_cmp nat_cmp a.items b.items) old new key (Some k)) n c.in_ok-insert.ensures.updates in
    let none : named key.items (sites_of es) ≡ None =
    ap (λ l. named l (sites_of es)) c.in_ok-key.ensures.items ∙ (ap (λ l. named c.args.name.now l) c.self.view_is ∙ c.requires) in (
      still_fresh old new key kept site es es' set more fresh,
      still_below old new key kept site es es' set more below,
      still_found old new key kept site es es' set more fresh below found (c.in_ok-kept.ensures.items ∙ sym c.in_ok-key.ensures.items) none,
    )

pub returns : goal.returns
returns c =
    let es = c.self.inside.sites.entries in
    let kept = c.in_ok-kept.kept in
    let site = c.args.site in
    let fresh = c.self.invariant.0 in
    let n : c.len-number.result ≡ length es = c.len-number.ensures.len in
    ap sites_of c.in_ok-insert-2.ensures.entries ∙
    (ap sites_of (insert_entry-new nat_eq c.self.inside.sites c.len-number.result (kept, site) (fresh c.len-number.result (omega (arith, n)))) ∙
    (sites_last es c.len-number.result kept site ∙
    (ap (λ s. s ++ (kept.items, site) ∷ []) c.self.view_is ∙
    ap (λ l. c.args.self ++ (l, site) ∷ []) c.in_ok-kept.ensures.items)))
