-- An outline is told by its parts.
use Rattle.std.proofs.Common.{◌≡◌, ℕ, List}
use Rattle.mv_syntax.specs.declared.unit.Item.{Item}
use Rattle.mv_check_outline.specs.declared.outline.Outline.{Outline}
use Rattle.mv_check_outline.specs.Names.{among}
use Rattle.mv_check_outline.specs.Outlined.{IsOutlineOf}
use Rattle.mv_types.specs.Foreknown.{outline}

abbrev made : (functions attributed objects switches pointers : List (List ℕ)) → Outline
made f a b s p = record { functions = f; attributed = a; objects = b; switches = s; pointers = p }

alike : (f a b s p F A B S P : List (List ℕ)) → f ≡ F → a ≡ among A f → b ≡ B → s ≡ among S b → p ≡ among P b →
    made f a b s p ≡ made F (among A F) B (among S B) (among P B)
alike f a b s p F A B S P e1 e2 e3 e4 e5 = cc

pub outlined_as : (items : List Item) (o : Outline) → IsOutlineOf items o → o ≡ outline items
outlined_as items o h = alike o.functions o.attributed o.objects o.switches o.pointers _ _ _ _ _ h.defined h.attributed h.objects h.switches h.pointers
