-- A program within the limits has few switches.
use Rattle.std.proofs.Common.{◌≡◌, ℕ, ◌≤◌, Bool, true, false, List, ◌∷◌, length, refl, nat_lt, Option, Some, None, if◌then◌else◌}
use Rattle.std.proofs.lemmas.Bool.{ltb-false}
use Rattle.mv_ast.specs.declared.program.Program.{Program}
use Rattle.mv_check_limits.specs.Limits.{excess, reported, first_some, functions_limit, globals_limit, parameters_limit, switches_limit, first_exceeded}
use Rattle.mv_check_limits.specs.declared.excess.Exceeded.{Exceeded}
use Rattle.mv_front.proofs.Few.{first_none}

later_none : (o : Option Exceeded) (os : List (Option Exceeded)) → first_some (o ∷ os) ≡ None → first_some os ≡ None
later_none None os h = h
later_none (Some e) os h = cc

at_most : (n c : ℕ) → reported 4 (if nat_lt n c then Some c else None) ≡ None → c ≤ n
at_most n c h = by (nat_lt n c) refl h
  where
    by : (b : Bool) → nat_lt n c ≡ b → reported 4 (if b then Some c else None) ≡ None → c ≤ n
    by true e g = cc
    by false e g = ltb-false n c e

no_excess : (p : Program) → excess (switches_limit p) ≡ None → length p.switches ≤ 64
unfolding excess
no_excess p h = at_most 64 (length p.switches) h

pub few_switches : (p : Program) → first_exceeded p ≡ None → length p.switches ≤ 64
few_switches p h =
    no_excess p (first_none (excess (switches_limit p)) _ (later_none (excess (parameters_limit p)) _ (later_none (excess (globals_limit p)) _ (later_none (excess (functions_limit p)) _ h))))
