-- The item with a number where there is none.
use Rattle.std.proofs.Common.{◌≡◌, ℕ, List, get_or, slice_get, None, ap, sym, ◌∙◌}
use Rattle.std.specs.Prelude.{unwrap_or, Option}
use Rattle.std.proofs.lemmas.Option.{unwrap_or-slice_get}

pub item_missing : {X : Type 0} (items : List X) (number : ℕ) (d : X) → slice_get items number ≡ None → get_or items number d ≡ d
item_missing {X} items number d h = sym (unwrap_or-slice_get items number d) ∙ ap (λ (item : Option X). unwrap_or item d) h
