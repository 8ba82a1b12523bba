-- The first variants of a function, from the steps.
use Rattle.std.proofs.Common.{arith, ◌≡◌, ℕ, ◌+◌, ◌<◌, ◌≤◌, List, [], ◌∷◌, ◌++◌, length, take, sym, ap, subst}
use Rattle.mv_ir.specs.declared.body.Body.{Body}
use Rattle.mv_ir.specs.declared.body.Assignment.{Assignment}
use Rattle.mv_ir.specs.Shorts.{Shorts}
use Rattle.mv_merge.specs.declared.rows.Variants.{Variants}
use Rattle.mv_variants.specs.declared.size.Size.{Size}
use Rattle.mv_variants.specs.Fronts.{AreMeasured, IsFirstOver, PassesUnder}
use Rattle.mv_variants.specs.Rows.{AreMergedUnder}
use Rattle.mv_variants.specs.declared.error.VariantError.{VariantError}
use Rattle.mv_variants.specs.declared.error.VariantError.TheVariants.{Limit, Memory}
use Rattle.mv_variants.specs.Sizes.{Fits, OnLimit}
use Rattle.mv_variants.proofs.Sizes.{with_none}

-- at first there is no body
pub none_measured : (shorts : Shorts) (body : Body) (size : Size) (bodies : List Body) → bodies ≡ [] → Fits size → AreMeasured shorts body size bodies size
none_measured shorts body size bodies e fits =
    subst (λ (bs : List Body). AreMeasured shorts body size bs size) (sym e) (record { each = λ k d below. absurd (omega arith); is = with_none size fits; fits = fits })

pub passes_under : (shorts : Shorts) (body : Body) (all : List Assignment) (k : ℕ) (size over : Size) (earlier : List Body) (last : Body) (made : Variants) → k < length all →
    AreMergedUnder shorts body (take (k + 1) all) made → length made.bodies ≤ k + 1 → (made.bodies ≡ earlier ++ last ∷ []) × IsFirstOver shorts body size earlier last over →
    PassesUnder shorts body all size over
passes_under shorts body all k size over earlier last made below merged few h = record {
  earlier = earlier;
  last = last;
  count = k + 1;
  guards = made.guards;
  merged = subst (λ (bs : List Body). AreMergedUnder shorts body (take (k + 1) all) (record { bodies = bs; guards = made.guards })) h.0 merged;
  few = omega (arith, ap length h.0, few, below);
  passes = h.1;
}

-- what follows of the size that passes a limit
pub on_limit : (P Q : Size → Type 0) → ((over : Size) → P over → Q over) → (e : VariantError) → OnLimit e P → OnLimit e Q
on_limit P Q more (Limit over) h = more over h
on_limit P Q more (Memory e) h = tt
