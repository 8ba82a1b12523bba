-- Lemmas on this crate's words that the crates above share.
use Rattle.std.proofs.Common.{◌≡◌, ℕ, ap, List, Some}
use Rattle.mv_syntax.specs.declared.unit.Declarator.{Declarator}
use Rattle.mv_check_outline.specs.Outlined.{name_of}
use Rattle.mv_accepts.proofs.OfNumbers.NameLists.{or_nothing}

pub named_is : (d : Declarator) (name : List ℕ) → d.name ≡ Some name → name_of d ≡ name
named_is d name h = ap or_nothing h
