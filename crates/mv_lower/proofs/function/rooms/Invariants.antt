use Rattle.std.proofs.Common.{◌≡◌, ℕ, ◌++◌, drop}
use Rattle.mv_lower_spec.specs.Functions.{rooms_from, address_behind}
use Rattle.mv_lower.specs.Programs.{is_named}
use Rattle.mv_lower.proofs.function.rooms.Given as goal

abbrev pub invariant-loop-global : goal.invariant-loop-global
invariant-loop-global l =
    (before : ℕ) × (l.g ≡ l.global-index) × (l.at ≡ address_behind before) × (l.rooms ++ rooms_from (is_named l.marks) l.g before (drop l.global-index l.globals) ≡ rooms_from (is_named l.marks) 0 0 l.globals)
