-- What the maps of names and sites have behind one more label.
use Rattle.std.proofs.Common.{◌≡◌, ℕ, ◌+◌, ◌<◌, refl, sym, ◌∙◌, ap, subst, List, [], ◌∷◌, ◌++◌, length, Option, Some, None, Bool, true, false, nat_eq, arith, length-append, if◌then◌else◌}
use Rattle.std.proofs.lemmas.Bool.{eq-eqb, eqb-true}
use Rattle.std.proofs.lemmas.Map.Text.{is_eq-slice_cmp}
use Rattle.std.specs.BTreeMap.{BTreeMap, Updates}
use Rattle.std.specs.Cmp.{eq_by_cmp_equiv}
use Rattle.std.specs.Cmp.Lexicographic.{pointwise, slice_cmp, bytes_decides, nat_list_cmp_total, nat_list_eq_equiv}
use Rattle.std.specs.Prelude.{option_map}
use Rattle.std.specs.Map.{lookup, IsKeyTest, AreApart, KeepsOthers}
use Rattle.std.specs.Ordering.{nat_cmp}
use Rattle.std.specs.declared.vec.Vec.{Vec}
use Rattle.std.specs.declared.alloc.Global.{Global}
use Rattle.mv_asmtext.specs.declared.labels.Site.{Site}
use Rattle.mv_asmtext.specs.Sites.{Sites, Entries, sites_of, named, number_of, site_at, IsFresh, IsBelow, IsFound}

-- ---- the plain list

named_last : (name : List ℕ) (sites : Sites) (last : List ℕ) (site : Site) → named name sites ≡ None →
    named name (sites ++ (last, site) ∷ []) ≡ (if pointwise nat_eq name last then Some site else None)
named_last name [] last site h = refl
named_last name (s ∷ sites) last site h = by (pointwise nat_eq name s.0) (named_last name sites last site) h
  where
    by : (b : Bool) → (named name sites ≡ None → named name (sites ++ (last, site) ∷ []) ≡ (if pointwise nat_eq name last then Some site else None)) →
        (if b then Some s.1 else named name sites) ≡ None →
        (if b then Some s.1 else named name (sites ++ (last, site) ∷ [])) ≡ (if pointwise nat_eq name last then Some site else None)
    by true rest g = cc
    by false rest g = rest g

named_other : (name : List ℕ) (sites : Sites) (last : List ℕ) (site : Site) → pointwise nat_eq name last ≡ false →
    named name (sites ++ (last, site) ∷ []) ≡ named name sites
named_other name [] last site h = rw h refl
named_other name (s ∷ sites) last site h = rw (named_other name sites last site h) refl

pub sites_last : (es : Entries) (n : ℕ) (name : Vec ℕ Global) (site : Site) →
    sites_of (es ++ (n, (name, site)) ∷ []) ≡ sites_of es ++ (name.items, site) ∷ []
sites_last [] n name site = refl
sites_last (e ∷ es) n name site = ap (λ sites. (e.1.0.items, e.1.1) ∷ sites) (sites_last es n name site)

-- ---- the map of sites

abbrev site_in : Option (Vec ℕ Global × Site) → Option Site
site_in = option_map (λ v. v.1)

lookup_other : (m n : ℕ) (v : Vec ℕ Global × Site) (es : Entries) → nat_eq m n ≡ false →
    lookup (nat_eq m) (es ++ (n, v) ∷ []) ≡ lookup (nat_eq m) es
lookup_other m n v [] h = rw h refl
lookup_other m n v (e ∷ es) h = rw (lookup_other m n v es h) refl

lookup_last : (n : ℕ) (v : Vec ℕ Global × Site) (es : Entries) → lookup (nat_eq n) es ≡ None →
    lookup (nat_eq n) (es ++ (n, v) ∷ []) ≡ Some v
lookup_last n v [] h = rw (eq-eqb n n refl) refl
lookup_last n v (e ∷ es) h = by (nat_eq n e.0) (lookup_last n v es) h
  where
    by : (b : Bool) → (lookup (nat_eq n) es ≡ None → lookup (nat_eq n) (es ++ (n, v) ∷ []) ≡ Some v) →
        (if b then Some e.1 else lookup (nat_eq n) es) ≡ None →
        (if b then Some e.1 else lookup (nat_eq n) (es ++ (n, v) ∷ [])) ≡ Some v
    by true rest g = cc
    by false rest g = rest g

apart : (m n : ℕ) → (m ≡ n → ⊥) → nat_eq m n ≡ false
apart m n ne = by (nat_eq m n) refl
  where
    by : (b : Bool) → nat_eq m n ≡ b → nat_eq m n ≡ false
    by true e = absurd (ne (eqb-true m n e))
    by false e = e

-- ---- the map of numbers

others : {K X : Type 0} (eq : K → K → Bool) (test other : K → Bool) (old new : List (K × X)) → KeepsOthers eq test old new →
    IsKeyTest eq other → AreApart test other → lookup other new ≡ lookup other old
unfolding KeepsOthers
others eq test other old new h = h other

module _ (old new : BTreeMap (Vec ℕ Global) ℕ) (key : Vec ℕ Global) (n : ℕ) (set : Updates (λ a b. slice_cmp nat_cmp a.items b.items) old new key (Some n)) where
  number_same : (name : List ℕ) → pointwise nat_eq key.items name ≡ true → number_of new name ≡ Some n
  number_same name h = subst (λ l. number_of new l ≡ Some n) ((bytes_decides key.items name).0 h) set.1

  number_other : (name : List ℕ) → pointwise nat_eq key.items name ≡ false → number_of new name ≡ number_of old name
  number_other name h =
      others _ _ _ _ _ set.3 (λ x y. (eq_by_cmp_equiv nat_list_cmp_total).congr name x.items y.items)
      (λ k e. is_eq-slice_cmp name k.items ∙ nat_list_eq_equiv.symm name k.items ∙ sym (nat_list_eq_equiv.congr key.items k.items name (sym (is_eq-slice_cmp key.items k.items) ∙ e)) ∙ h)

-- ---- both

module _ (old new : BTreeMap (Vec ℕ Global) ℕ) (key kept : Vec ℕ Global) (site : Site) (es es' : Entries)
    (set : Updates (λ a b. slice_cmp nat_cmp a.items b.items) old new key (Some (length es))) (more : es' ≡ es ++ (length es, (kept, site)) ∷ []) where
  longer : length es' ≡ length es + 1
  longer = ap length more ∙ length-append es ((length es, (kept, site)) ∷ [])

  same_site : (m : ℕ) → (m ≡ length es → ⊥) → lookup (nat_eq m) es' ≡ lookup (nat_eq m) es
  same_site m ne = ap (lookup (nat_eq m)) more ∙ lookup_other m (length es) (kept, site) es (apart m (length es) ne)

  pub still_fresh : IsFresh es → IsFresh es'
  still_fresh fresh m le = same_site m (λ e. omega (arith, le, e, longer)) ∙ fresh m (omega (arith, le, longer))

  pub still_below : IsBelow old es → IsBelow new es'
  still_below below name m is = by (pointwise nat_eq key.items name) refl
    where
      by : (b : Bool) → pointwise nat_eq key.items name ≡ b → m < length es'
      by true e =
          let same : Some (length es) ≡ Some m = sym (number_same old new key _ set name e) ∙ is in
          let n : length es ≡ m = cc in
          omega (arith, n, longer)
      by false e = omega (arith, below name m (sym (number_other old new key _ set name e) ∙ is), longer)

  pub still_found : IsFresh es → IsBelow old es → IsFound old es → kept.items ≡ key.items → named key.items (sites_of es) ≡ None → IsFound new es'
  still_found fresh below found is_kept none name = by (pointwise nat_eq key.items name) refl
    where
      here : named name (sites_of es') ≡ named name (sites_of es ++ (key.items, site) ∷ [])
      here = ap (λ l. named name (sites_of l)) more ∙ (ap (named name) (sites_last es (length es) kept site) ∙ ap (λ l. named name (sites_of es ++ (l, site) ∷ [])) is_kept)

      by_number : (o : Option ℕ) → number_of old name ≡ o → site_at es' o ≡ site_at es o
      by_number None e = refl
      by_number (Some m) e = ap site_in (same_site m (λ at. omega (arith, at, below name m e)))

      by : (b : Bool) → pointwise nat_eq key.items name ≡ b → site_at es' (number_of new name) ≡ named name (sites_of es')
      by true e =
          let q : key.items ≡ name = (bytes_decides key.items name).0 e in
          ap (site_at es') (number_same old new key _ set name e) ∙
          (ap site_in (ap (lookup (nat_eq (length es))) more ∙ lookup_last (length es) (kept, site) es (fresh (length es) (omega arith))) ∙
          sym (here ∙ (named_last name (sites_of es) key.items site (subst (λ l. named l (sites_of es) ≡ None) q none) ∙
          ap (λ b. if b then Some site else None) (nat_list_eq_equiv.symm name key.items ∙ e))))
      by false e =
          ap (site_at es') (number_other old new key _ set name e) ∙ (by_number (number_of old name) refl ∙ (found name ∙
          sym (here ∙ named_other name (sites_of es) key.items site (nat_list_eq_equiv.symm name key.items ∙ e))))
