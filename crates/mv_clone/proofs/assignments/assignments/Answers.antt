use Rattle.std.proofs.Common.{◌≡◌, length, map, ap, sym, ◌∙◌, subst}
use Rattle.std.specs.Prelude.{IfOk, Result, Ok, Err}
use Rattle.std.specs.Option.{option_copied}
use Rattle.mv_ast.specs.Switches.{switch_domain}
use Rattle.mv_ast.specs.Counts.{product_of}
use Rattle.mv_ir.specs.Combinations.{combinations, values_of, AreAllCombinations}
use Rattle.mv_clone.specs.Assignments.{domains_or_none, domains_of}
use Rattle.mv_ir.proofs.AllCombinations.{every_of, count_of}
use Rattle.mv_clone.proofs.assignments.assignments.Goals as goal

-- what follows of an answer
answer_gives : {T E : Type 0} (P Q : T → Type 0) (r : Result T E) → ((x : T) → P x → Q x) → IfOk r P → IfOk r Q
answer_gives P Q (Ok x) f h = f x h
answer_gives P Q (Err e) f h = h

-- the domains are those of the function that was found
in_order : (c : goal.After-combined) → IfOk c.combined.result (λ all. values_of all ≡ combinations (domains_of c.args.program.now c.args.function))
in_order c =
    let p = c.args.program.now in
    let domains : map (switch_domain p) c.as_slice.result.now ≡ domains_of p c.args.function =
    ap (map (switch_domain p)) c.as_slice.ensures ∙ ap (domains_or_none p) (ap option_copied (sym c.in-Some.is) ∙ c.get.ensures) in
    subst (λ ds. IfOk c.combined.result (λ all. values_of all ≡ combinations ds)) domains c.combined.ensures

pub returns-in-Some-clause-every : goal.returns-in-Some-clause-every
returns-in-Some-clause-every c =
    let ds = domains_of c.args.program.now c.args.function in
    λ h. answer_gives (λ all. values_of all ≡ combinations ds) (λ all. AreAllCombinations ds (values_of all)) c.combined.result (λ all e. every_of ds all e h) (in_order c)

pub returns-in-Some-clause-count : goal.returns-in-Some-clause-count
returns-in-Some-clause-count c =
    let ds = domains_of c.args.program.now c.args.function in
    answer_gives (λ all. values_of all ≡ combinations ds) (λ all. length all ≡ product_of (map (λ d. length d) ds)) c.combined.result (λ all e. count_of ds all e) (in_order c)
