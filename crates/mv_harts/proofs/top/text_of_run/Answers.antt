use Rattle.std.proofs.Common.{◌≡◌, ◌<◌, ◌≤◌, ◌∙◌, ℕ, List, length, sym, subst, arith}
use Rattle.std.specs.Prelude.{All, IfOk}
use Rattle.mv_harts_words.specs.Asked.{asked}
use Rattle.mv_harts.specs.declared.devices.Keeping.{Keeping}
use Rattle.mv_harts.specs.Texts.{texts_from}
use Rattle.mv_harts.proofs.Runs.{sinks_enough, sources_count, tells_sources, text_made}
use Rattle.mv_harts.proofs.top.text_of_run.Goals as goal

pub run_harts-requires-clause-some : goal.run_harts-requires-clause-some
run_harts-requires-clause-some g c =
    let many = sources_count c.in_ok-sources.sources.items c.args.command.now.count c.in_ok-sources.ensures in omega (arith, many, c.in_ok-sources.sources.ok, c.requires.some)

pub run_harts-requires-clause-few : goal.run_harts-requires-clause-few
run_harts-requires-clause-few g c =
    let many = sources_count c.in_ok-sources.sources.items c.args.command.now.count c.in_ok-sources.ensures in omega (arith, many, c.in_ok-sources.sources.ok, c.requires.few)

pub run_harts-requires-clause-paired : goal.run_harts-requires-clause-paired
run_harts-requires-clause-paired g c =
    let many = sources_count c.in_ok-sources.sources.items c.args.command.now.count c.in_ok-sources.ensures in omega (arith, many, c.in_ok-sources.sources.ok, c.in_ok-sinks.ensures.count)

pub run_harts-requires-clause-numbered : goal.run_harts-requires-clause-numbered
run_harts-requires-clause-numbered g c =
    let many = sources_count c.in_ok-sources.sources.items c.args.command.now.count c.in_ok-sources.ensures in
    let count : c.args.command.now.count ≡ c.in_ok-sources.sources.len = omega (arith, many, c.in_ok-sources.sources.ok) in
    subst (λ (xs : List ℕ). All (λ hart. hart < c.in_ok-sources.sources.len) xs) (sym c.as_slice.ensures.value)
    (subst (λ (n : ℕ). All (λ hart. hart < n) c.in_ok-schedule.schedule.items) count c.in_ok-schedule.ensures.below)

pub run_harts-requires-clause-told : goal.run_harts-requires-clause-told
run_harts-requires-clause-told g c = tells_sources c.in_ok-sources.sources.items c.args.command.now.count c.in_ok-sources.ensures c.requires.few

pub text_of-requires : goal.text_of-requires
text_of-requires g c =
    let count : c.in_ok-sources.sources.len ≡ c.args.command.now.count =
    (let many = sources_count c.in_ok-sources.sources.items c.args.command.now.count c.in_ok-sources.ensures in omega (arith, many, c.in_ok-sources.sources.ok)) in
    let sinks : length c.in_ok-sinks.sinks.items ≡ c.args.command.now.count = omega (arith, c.in_ok-sinks.ensures.count, c.in_ok-sinks.sinks.ok) in
    subst (λ (ks : List Keeping). length c.in_ok-end.end.harts ≤ length ks) (sym c.as_slice-2.ensures.value)
    (sinks_enough c.args.built.now (asked c.args.command.now) c.as_slice.result.now c.in_ok-sources.sources.items c.run_harts.new.sources.items c.in_ok-sinks.sinks.items c.run_harts.new.sinks.items _ _
    c.in_ok-end.end c.in_ok-sources.sources.len c.in_ok-end.ensures.ran count c.in_ok-sources.ensures sinks c.in_ok-sinks.ensures.empty)

pub returns : goal.returns
returns g c =
    let count : c.in_ok-sources.sources.len ≡ c.args.command.now.count =
    (let many = sources_count c.in_ok-sources.sources.items c.args.command.now.count c.in_ok-sources.ensures in omega (arith, many, c.in_ok-sources.sources.ok)) in
    let sinks : length c.in_ok-sinks.sinks.items ≡ c.args.command.now.count = omega (arith, c.in_ok-sinks.ensures.count, c.in_ok-sinks.sinks.ok) in
    text_made c.args.built.now (asked c.args.command.now) c.as_slice.result.now c.in_ok-sources.sources.items c.run_harts.new.sources.items c.in_ok-sinks.sinks.items c.run_harts.new.sinks.items _ _ c.in_ok-end.end
    c.in_ok-sources.sources.len c.in_ok-end.ensures.ran count c.in_ok-sources.ensures sinks c.in_ok-sinks.ensures.empty (c.as_slice.ensures.value ∙ c.in_ok-schedule.ensures.turns) c.text_of.result
    (subst (λ (ks : List Keeping). IfOk c.text_of.result (λ text. text.items ≡ texts_from 0 c.in_ok-end.end.harts ks)) c.as_slice-2.ensures.value c.text_of.ensures.text) c.text_of.ensures.faultless
