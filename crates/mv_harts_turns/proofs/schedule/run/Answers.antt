use Rattle.std.proofs.Common.{◌≡◌, ◌+◌, ◌-◌, ◌∙◌, ◌<◌, ◌^◌, Some, length, map, set, take, slice_get, option_and_then, vec_len, sym, ap, subst, refl, arith}
use Rattle.std.proofs.lemmas.List.{length-take-le}
use Rattle.std.proofs.lemmas.Option.{slice_get_read, slice_get-get_or}
use Rattle.mv_bindings.specs.Acts.{act_of}
use Rattle.mv_harts_runs.specs.Harts.{first_harts}
use Rattle.mv_harts_runs.specs.Alone.{Passes}
use Rattle.mv_harts_turns.specs.Groups.{Shows, asked}
use Rattle.mv_harts_turns.specs.Runs.{AlwaysFetch, Outside, outside, bytes_of, inputs_of, harts_of}
use Rattle.mv_harts_turns.proofs.Reaching.{match_err}
use Rattle.mv_harts_turns.proofs.Running.{ran_none, ran_whole, broken_none, told_all, ran_next, broke_next, next_of, right_now, numbered_at, numbered_below, few_by}
use Rattle.mv_harts_turns.proofs.Readiness.{fetches_are, is_ready, ran_executed}
use Rattle.mv_harts_turns.proofs.schedule.run.Goals as goal

pub returns-in_err-group : goal.returns-in_err-group
returns-in_err-group g c = match_err c.from_residual.result _ _ _ c.from_residual.ensures.1 (λ e. broken_none c.args.image.now c.args.actions.now (vec_len c.args.sources.now) _ c.args.schedule.now)

pub loop-time-init : goal.loop-time-init
loop-time-init g c =
    let image = c.args.image.now in
    let actions = c.args.actions.now in
    let sources = c.args.sources.now in
    let schedule = c.args.schedule.now in
    let o = c.args.oracle.now in
    let was : Outside = outside g.I.Source.left g.O.Sink.written g.I.Source.faults g.O.Sink.faults sources.items c.args.sinks.now.items ((goal.FetchOracle-dyn g (o.vtable, o.value)).way o.value) in
    let fetch : AlwaysFetch image actions (vec_len sources) was schedule =
    λ i failing. fetches_are image (inputs_of was) _
    (right_now c.harts_are_right.ensures image actions (vec_len sources) was (take i schedule) failing c.requires.fitting).1 in
    let count : c.len.result - 1 ≡ vec_len sources - 1 = ap (λ n. n - 1) c.len.ensures in
    let none = ran_none image actions (vec_len sources) was c.in_ok-group.group c.requires.some
    (λ h lt. told_all g.I.Source.left sources.items c.requires.told h (omega (arith, sources.ok.0, lt)))
    (subst (λ n. Shows image actions (bytes_of was) c.in_ok-group.group (first_harts image (inputs_of was) n (map act_of actions))) count (c.in_ok-group.ensures (bytes_of was) actions)) in
    record {
      within = omega arith;
      ran = none;
      sources = refl;
      sinks = refl;
    }

pub index_mut-requires : goal.index_mut-requires
index_mut-requires g c =
    let image = c.args.image.now in
    let actions = c.args.actions.now in
    let sources = c.args.sources.now in
    let schedule = c.args.schedule.now in
    let o = c.args.oracle.now in
    let was : Outside = outside g.I.Source.left g.O.Sink.written g.I.Source.faults g.O.Sink.faults sources.items c.args.sinks.now.items ((goal.FetchOracle-dyn g (o.vtable, o.value)).way o.value) in
    let fetch : AlwaysFetch image actions (vec_len sources) was schedule =
    λ i failing. fetches_are image (inputs_of was) _
    (right_now c.harts_are_right.ensures image actions (vec_len sources) was (take i schedule) failing c.requires.fitting).1 in
    let l = c.loop-time in
    let i = l.time in
    let within : i < length schedule = omega (arith, c.loop-time-test.true, c.turns_of-turns.ensures.count) in
    let h = c.from-hart.result in
    let p = l.oracle in
    let is : Outside = outside g.I.Source.left g.O.Sink.written g.I.Source.faults g.O.Sink.faults l.sources.items l.sinks.items ((goal.FetchOracle-dyn g (p.vtable, p.value)).way p.value) in
    let r = l.invariant.ran in
    let hs = harts_of image actions (vec_len sources) was (take i schedule) r.failing in
    let at : slice_get schedule i ≡ Some h = slice_get-get_or schedule i 0 within ∙ ap Some (sym c.from-hart.ensures) in
    let below : h < vec_len sources = numbered_at schedule (vec_len sources) i h c.requires.numbered at in
    omega (arith, l.invariant.sources, below)

pub index_mut-requires-in-loop-time : goal.index_mut-requires-in-loop-time
index_mut-requires-in-loop-time g c =
    let image = c.args.image.now in
    let actions = c.args.actions.now in
    let sources = c.args.sources.now in
    let schedule = c.args.schedule.now in
    let o = c.args.oracle.now in
    let was : Outside = outside g.I.Source.left g.O.Sink.written g.I.Source.faults g.O.Sink.faults sources.items c.args.sinks.now.items ((goal.FetchOracle-dyn g (o.vtable, o.value)).way o.value) in
    let fetch : AlwaysFetch image actions (vec_len sources) was schedule =
    λ i failing. fetches_are image (inputs_of was) _
    (right_now c.harts_are_right.ensures image actions (vec_len sources) was (take i schedule) failing c.requires.fitting).1 in
    let l = c.loop-time in
    let i = l.time in
    let within : i < length schedule = omega (arith, c.loop-time-test.true, c.turns_of-turns.ensures.count) in
    let h = c.from-hart.result in
    let p = l.oracle in
    let is : Outside = outside g.I.Source.left g.O.Sink.written g.I.Source.faults g.O.Sink.faults l.sources.items l.sinks.items ((goal.FetchOracle-dyn g (p.vtable, p.value)).way p.value) in
    let r = l.invariant.ran in
    let hs = harts_of image actions (vec_len sources) was (take i schedule) r.failing in
    let at : slice_get schedule i ≡ Some h = slice_get-get_or schedule i 0 within ∙ ap Some (sym c.from-hart.ensures) in
    let below : h < vec_len sources = numbered_at schedule (vec_len sources) i h c.requires.numbered at in
    omega (arith, l.invariant.sinks, c.requires.paired, below)

pub turn-requires-clause-there : goal.turn-requires-clause-there
turn-requires-clause-there g c =
    let image = c.args.image.now in
    let actions = c.args.actions.now in
    let sources = c.args.sources.now in
    let schedule = c.args.schedule.now in
    let o = c.args.oracle.now in
    let was : Outside = outside g.I.Source.left g.O.Sink.written g.I.Source.faults g.O.Sink.faults sources.items c.args.sinks.now.items ((goal.FetchOracle-dyn g (o.vtable, o.value)).way o.value) in
    let fetch : AlwaysFetch image actions (vec_len sources) was schedule =
    λ i failing. fetches_are image (inputs_of was) _
    (right_now c.harts_are_right.ensures image actions (vec_len sources) was (take i schedule) failing c.requires.fitting).1 in
    let l = c.loop-time in
    let i = l.time in
    let within : i < length schedule = omega (arith, c.loop-time-test.true, c.turns_of-turns.ensures.count) in
    let h = c.from-hart.result in
    let p = l.oracle in
    let is : Outside = outside g.I.Source.left g.O.Sink.written g.I.Source.faults g.O.Sink.faults l.sources.items l.sinks.items ((goal.FetchOracle-dyn g (p.vtable, p.value)).way p.value) in
    let r = l.invariant.ran in
    let hs = harts_of image actions (vec_len sources) was (take i schedule) r.failing in
    let at : slice_get schedule i ≡ Some h = slice_get-get_or schedule i 0 within ∙ ap Some (sym c.from-hart.ensures) in
    let below : h < vec_len sources = numbered_at schedule (vec_len sources) i h c.requires.numbered at in
    omega (arith, r.seats, l.group.others.ok.0, below)

pub turn-requires-clause-ready : goal.turn-requires-clause-ready
turn-requires-clause-ready g c =
    let image = c.args.image.now in
    let actions = c.args.actions.now in
    let sources = c.args.sources.now in
    let schedule = c.args.schedule.now in
    let o = c.args.oracle.now in
    let was : Outside = outside g.I.Source.left g.O.Sink.written g.I.Source.faults g.O.Sink.faults sources.items c.args.sinks.now.items ((goal.FetchOracle-dyn g (o.vtable, o.value)).way o.value) in
    let fetch : AlwaysFetch image actions (vec_len sources) was schedule =
    λ i failing. fetches_are image (inputs_of was) _
    (right_now c.harts_are_right.ensures image actions (vec_len sources) was (take i schedule) failing c.requires.fitting).1 in
    let l = c.loop-time in
    let i = l.time in
    let within : i < length schedule = omega (arith, c.loop-time-test.true, c.turns_of-turns.ensures.count) in
    let h = c.from-hart.result in
    let p = l.oracle in
    let is : Outside = outside g.I.Source.left g.O.Sink.written g.I.Source.faults g.O.Sink.faults l.sources.items l.sinks.items ((goal.FetchOracle-dyn g (p.vtable, p.value)).way p.value) in
    let r = l.invariant.ran in
    let hs = harts_of image actions (vec_len sources) was (take i schedule) r.failing in
    let at : slice_get schedule i ≡ Some h = slice_get-get_or schedule i 0 within ∙ ap Some (sym c.from-hart.ensures) in
    let below : h < vec_len sources = numbered_at schedule (vec_len sources) i h c.requires.numbered at in
    let right = right_now c.harts_are_right.ensures image actions (vec_len sources) was (take i schedule) r.failing c.requires.fitting in
    let front : length (take i schedule) ≡ i = length-take-le i schedule (omega arith) in
    let small : i + 1 < 2 ^ 64 = omega (arith, c.loop-time-test.true, c.turns_of-turns.ensures.few) in
    is_ready image (inputs_of was) actions (bytes_of is) l.group hs (Passes c.requires.fitting.0) right.0 r.shows i (few_by (asked hs) (length (take i schedule)) i r.few (omega (arith, front))) small

pub go_on-time-requires-clause-within : goal.go_on-time-requires-clause-within
go_on-time-requires-clause-within g c =
    let image = c.args.image.now in
    let actions = c.args.actions.now in
    let sources = c.args.sources.now in
    let schedule = c.args.schedule.now in
    let o = c.args.oracle.now in
    let was : Outside = outside g.I.Source.left g.O.Sink.written g.I.Source.faults g.O.Sink.faults sources.items c.args.sinks.now.items ((goal.FetchOracle-dyn g (o.vtable, o.value)).way o.value) in
    let fetch : AlwaysFetch image actions (vec_len sources) was schedule =
    λ i failing. fetches_are image (inputs_of was) _
    (right_now c.harts_are_right.ensures image actions (vec_len sources) was (take i schedule) failing c.requires.fitting).1 in
    let l = c.loop-time in
    let i = l.time in
    let within : i < length schedule = omega (arith, c.loop-time-test.true, c.turns_of-turns.ensures.count) in
    let h = c.from-hart.result in
    let p = l.oracle in
    let is : Outside = outside g.I.Source.left g.O.Sink.written g.I.Source.faults g.O.Sink.faults l.sources.items l.sinks.items ((goal.FetchOracle-dyn g (p.vtable, p.value)).way p.value) in
    let r = l.invariant.ran in
    let hs = harts_of image actions (vec_len sources) was (take i schedule) r.failing in
    let at : slice_get schedule i ≡ Some h = slice_get-get_or schedule i 0 within ∙ ap Some (sym c.from-hart.ensures) in
    let below : h < vec_len sources = numbered_at schedule (vec_len sources) i h c.requires.numbered at in
    omega (arith, within)

pub go_on-time-requires-clause-numbered : goal.go_on-time-requires-clause-numbered
go_on-time-requires-clause-numbered g c =
    let image = c.args.image.now in
    let actions = c.args.actions.now in
    let sources = c.args.sources.now in
    let schedule = c.args.schedule.now in
    let o = c.args.oracle.now in
    let was : Outside = outside g.I.Source.left g.O.Sink.written g.I.Source.faults g.O.Sink.faults sources.items c.args.sinks.now.items ((goal.FetchOracle-dyn g (o.vtable, o.value)).way o.value) in
    let fetch : AlwaysFetch image actions (vec_len sources) was schedule =
    λ i failing. fetches_are image (inputs_of was) _
    (right_now c.harts_are_right.ensures image actions (vec_len sources) was (take i schedule) failing c.requires.fitting).1 in
    let l = c.loop-time in
    let i = l.time in
    let within : i < length schedule = omega (arith, c.loop-time-test.true, c.turns_of-turns.ensures.count) in
    let h = c.from-hart.result in
    let p = l.oracle in
    let is : Outside = outside g.I.Source.left g.O.Sink.written g.I.Source.faults g.O.Sink.faults l.sources.items l.sinks.items ((goal.FetchOracle-dyn g (p.vtable, p.value)).way p.value) in
    let r = l.invariant.ran in
    let hs = harts_of image actions (vec_len sources) was (take i schedule) r.failing in
    let at : slice_get schedule i ≡ Some h = slice_get-get_or schedule i 0 within ∙ ap Some (sym c.from-hart.ensures) in
    let below : h < vec_len sources = numbered_at schedule (vec_len sources) i h c.requires.numbered at in
    let q = c.turn.new.oracle in
    let s = c.index_mut.result.now in
    let k = c.index_mut-in-loop-time.result.now in
    let is' : Outside = outside g.I.Source.left g.O.Sink.written g.I.Source.faults g.O.Sink.faults (set l.sources.items h c.turn.new.source) (set l.sinks.items h c.turn.new.sink) ((goal.FetchOracle-dyn g (q.vtable, q.value)).way q.value) in
    let source_at : slice_get l.sources.items h ≡ Some s = slice_get_read l.sources.items (length l.sources.items) h s refl (omega (arith, l.sources.ok.0, l.invariant.sources, below)) c.index_mut.ensures.value in
    let sink_at : slice_get l.sinks.items h ≡ Some k = slice_get_read l.sinks.items (length l.sinks.items) h k refl (omega (arith, l.sinks.ok.0, l.invariant.sinks, c.requires.paired, below)) c.index_mut-in-loop-time.ensures.value in
    let left = sym (ap (option_and_then g.I.Source.left) source_at) ∙ r.told h below in
    let next = next_of g.I.Source.left g.O.Sink.written g.I.Source.faults g.O.Sink.faults l.sources.items l.sinks.items
    ((goal.FetchOracle-dyn g (p.vtable, p.value)).way p.value)
    ((goal.FetchOracle-dyn g (q.vtable, q.value)).way q.value) h s c.turn.new.source k c.turn.new.sink source_at sink_at c.in_ok-turn.ensures.input
    c.in_ok-turn.ensures.output in
    let ran = ran_next image actions (vec_len sources) was is is' schedule i h l.group c.turn.new.self _ r within at next (c.in_ok-turn.ensures.turns image (bytes_of is) hs r.shows (fetch i r.failing) left) in
    numbered_below schedule (vec_len sources) _ (omega (arith, ran.seats, c.turn.new.self.others.ok.0)) c.requires.numbered

pub go_on-time-requires-clause-executed : goal.go_on-time-requires-clause-executed
go_on-time-requires-clause-executed g c =
    let image = c.args.image.now in
    let actions = c.args.actions.now in
    let sources = c.args.sources.now in
    let schedule = c.args.schedule.now in
    let o = c.args.oracle.now in
    let was : Outside = outside g.I.Source.left g.O.Sink.written g.I.Source.faults g.O.Sink.faults sources.items c.args.sinks.now.items ((goal.FetchOracle-dyn g (o.vtable, o.value)).way o.value) in
    let fetch : AlwaysFetch image actions (vec_len sources) was schedule =
    λ i failing. fetches_are image (inputs_of was) _
    (right_now c.harts_are_right.ensures image actions (vec_len sources) was (take i schedule) failing c.requires.fitting).1 in
    let l = c.loop-time in
    let i = l.time in
    let within : i < length schedule = omega (arith, c.loop-time-test.true, c.turns_of-turns.ensures.count) in
    let h = c.from-hart.result in
    let p = l.oracle in
    let is : Outside = outside g.I.Source.left g.O.Sink.written g.I.Source.faults g.O.Sink.faults l.sources.items l.sinks.items ((goal.FetchOracle-dyn g (p.vtable, p.value)).way p.value) in
    let r = l.invariant.ran in
    let hs = harts_of image actions (vec_len sources) was (take i schedule) r.failing in
    let at : slice_get schedule i ≡ Some h = slice_get-get_or schedule i 0 within ∙ ap Some (sym c.from-hart.ensures) in
    let below : h < vec_len sources = numbered_at schedule (vec_len sources) i h c.requires.numbered at in
    let q = c.turn.new.oracle in
    let s = c.index_mut.result.now in
    let k = c.index_mut-in-loop-time.result.now in
    let is' : Outside = outside g.I.Source.left g.O.Sink.written g.I.Source.faults g.O.Sink.faults (set l.sources.items h c.turn.new.source) (set l.sinks.items h c.turn.new.sink) ((goal.FetchOracle-dyn g (q.vtable, q.value)).way q.value) in
    let source_at : slice_get l.sources.items h ≡ Some s = slice_get_read l.sources.items (length l.sources.items) h s refl (omega (arith, l.sources.ok.0, l.invariant.sources, below)) c.index_mut.ensures.value in
    let sink_at : slice_get l.sinks.items h ≡ Some k = slice_get_read l.sinks.items (length l.sinks.items) h k refl (omega (arith, l.sinks.ok.0, l.invariant.sinks, c.requires.paired, below)) c.index_mut-in-loop-time.ensures.value in
    let left = sym (ap (option_and_then g.I.Source.left) source_at) ∙ r.told h below in
    let next = next_of g.I.Source.left g.O.Sink.written g.I.Source.faults g.O.Sink.faults l.sources.items l.sinks.items
    ((goal.FetchOracle-dyn g (p.vtable, p.value)).way p.value)
    ((goal.FetchOracle-dyn g (q.vtable, q.value)).way q.value) h s c.turn.new.source k c.turn.new.sink source_at sink_at c.in_ok-turn.ensures.input
    c.in_ok-turn.ensures.output in
    let ran = ran_next image actions (vec_len sources) was is is' schedule i h l.group c.turn.new.self _ r within at next (c.in_ok-turn.ensures.turns image (bytes_of is) hs r.shows (fetch i r.failing) left) in
    ran_executed image actions (vec_len sources) was is' _ c.turn.new.self (i + 1) (let front : length (take (i + 1) schedule) ≡ i + 1 = length-take-le (i + 1) schedule (omega arith) in omega (arith, front)) ran

pub loop-time-preserved : goal.loop-time-preserved
loop-time-preserved g c =
    let image = c.args.image.now in
    let actions = c.args.actions.now in
    let sources = c.args.sources.now in
    let schedule = c.args.schedule.now in
    let o = c.args.oracle.now in
    let was : Outside = outside g.I.Source.left g.O.Sink.written g.I.Source.faults g.O.Sink.faults sources.items c.args.sinks.now.items ((goal.FetchOracle-dyn g (o.vtable, o.value)).way o.value) in
    let fetch : AlwaysFetch image actions (vec_len sources) was schedule =
    λ i failing. fetches_are image (inputs_of was) _
    (right_now c.harts_are_right.ensures image actions (vec_len sources) was (take i schedule) failing c.requires.fitting).1 in
    let l = c.loop-time in
    let i = l.time in
    let within : i < length schedule = omega (arith, c.loop-time-test.true, c.turns_of-turns.ensures.count) in
    let h = c.from-hart.result in
    let p = l.oracle in
    let is : Outside = outside g.I.Source.left g.O.Sink.written g.I.Source.faults g.O.Sink.faults l.sources.items l.sinks.items ((goal.FetchOracle-dyn g (p.vtable, p.value)).way p.value) in
    let r = l.invariant.ran in
    let hs = harts_of image actions (vec_len sources) was (take i schedule) r.failing in
    let at : slice_get schedule i ≡ Some h = slice_get-get_or schedule i 0 within ∙ ap Some (sym c.from-hart.ensures) in
    let below : h < vec_len sources = numbered_at schedule (vec_len sources) i h c.requires.numbered at in
    let q = c.turn.new.oracle in
    let s = c.index_mut.result.now in
    let k = c.index_mut-in-loop-time.result.now in
    let is' : Outside = outside g.I.Source.left g.O.Sink.written g.I.Source.faults g.O.Sink.faults (set l.sources.items h c.turn.new.source) (set l.sinks.items h c.turn.new.sink) ((goal.FetchOracle-dyn g (q.vtable, q.value)).way q.value) in
    let source_at : slice_get l.sources.items h ≡ Some s = slice_get_read l.sources.items (length l.sources.items) h s refl (omega (arith, l.sources.ok.0, l.invariant.sources, below)) c.index_mut.ensures.value in
    let sink_at : slice_get l.sinks.items h ≡ Some k = slice_get_read l.sinks.items (length l.sinks.items) h k refl (omega (arith, l.sinks.ok.0, l.invariant.sinks, c.requires.paired, below)) c.index_mut-in-loop-time.ensures.value in
    let left = sym (ap (option_and_then g.I.Source.left) source_at) ∙ r.told h below in
    let next = next_of g.I.Source.left g.O.Sink.written g.I.Source.faults g.O.Sink.faults l.sources.items l.sinks.items
    ((goal.FetchOracle-dyn g (p.vtable, p.value)).way p.value)
    ((goal.FetchOracle-dyn g (q.vtable, q.value)).way q.value) h s c.turn.new.source k c.turn.new.sink source_at sink_at c.in_ok-turn.ensures.input
    c.in_ok-turn.ensures.output in
    let ran = ran_next image actions (vec_len sources) was is is' schedule i h l.group c.turn.new.self _ r within at next (c.in_ok-turn.ensures.turns image (bytes_of is) hs r.shows (fetch i r.failing) left) in
    record {
      within = c.go_on-time.ensures.within;
      ran = c.go_on-time.ensures.goes image actions (vec_len sources) was is' fetch refl ran;
      sources = l.invariant.sources;
      sinks = l.invariant.sinks;
    }

pub returns-in_err-turn : goal.returns-in_err-turn
returns-in_err-turn g c =
    let image = c.args.image.now in
    let actions = c.args.actions.now in
    let sources = c.args.sources.now in
    let schedule = c.args.schedule.now in
    let o = c.args.oracle.now in
    let was : Outside = outside g.I.Source.left g.O.Sink.written g.I.Source.faults g.O.Sink.faults sources.items c.args.sinks.now.items ((goal.FetchOracle-dyn g (o.vtable, o.value)).way o.value) in
    let fetch : AlwaysFetch image actions (vec_len sources) was schedule =
    λ i failing. fetches_are image (inputs_of was) _
    (right_now c.harts_are_right.ensures image actions (vec_len sources) was (take i schedule) failing c.requires.fitting).1 in
    let l = c.loop-time in
    let i = l.time in
    let within : i < length schedule = omega (arith, c.loop-time-test.true, c.turns_of-turns.ensures.count) in
    let h = c.from-hart.result in
    let p = l.oracle in
    let is : Outside = outside g.I.Source.left g.O.Sink.written g.I.Source.faults g.O.Sink.faults l.sources.items l.sinks.items ((goal.FetchOracle-dyn g (p.vtable, p.value)).way p.value) in
    let r = l.invariant.ran in
    let hs = harts_of image actions (vec_len sources) was (take i schedule) r.failing in
    let at : slice_get schedule i ≡ Some h = slice_get-get_or schedule i 0 within ∙ ap Some (sym c.from-hart.ensures) in
    let below : h < vec_len sources = numbered_at schedule (vec_len sources) i h c.requires.numbered at in
    let q = c.turn.new.oracle in
    let s = c.index_mut.result.now in
    let k = c.index_mut-in-loop-time.result.now in
    let is' : Outside = outside g.I.Source.left g.O.Sink.written g.I.Source.faults g.O.Sink.faults (set l.sources.items h c.turn.new.source) (set l.sinks.items h c.turn.new.sink) ((goal.FetchOracle-dyn g (q.vtable, q.value)).way q.value) in
    let source_at : slice_get l.sources.items h ≡ Some s = slice_get_read l.sources.items (length l.sources.items) h s refl (omega (arith, l.sources.ok.0, l.invariant.sources, below)) c.index_mut.ensures.value in
    let sink_at : slice_get l.sinks.items h ≡ Some k = slice_get_read l.sinks.items (length l.sinks.items) h k refl (omega (arith, l.sinks.ok.0, l.invariant.sinks, c.requires.paired, below)) c.index_mut-in-loop-time.ensures.value in
    let left = sym (ap (option_and_then g.I.Source.left) source_at) ∙ r.told h below in
    let next = next_of g.I.Source.left g.O.Sink.written g.I.Source.faults g.O.Sink.faults l.sources.items l.sinks.items
    ((goal.FetchOracle-dyn g (p.vtable, p.value)).way p.value)
    ((goal.FetchOracle-dyn g (q.vtable, q.value)).way q.value) h s c.turn.new.source k c.turn.new.sink source_at sink_at c.in_err-turn.ensures.input
    c.in_err-turn.ensures.output in
    match_err c.from_residual-in_err-turn.result _ _ _ c.from_residual-in_err-turn.ensures.1
    (λ e. broke_next image actions (vec_len sources) was is is' schedule i h l.group c.turn.new.self _ r within at next (c.in_err-turn.ensures.turns image (bytes_of is) hs r.shows (fetch i r.failing) left))

pub returns : goal.returns
returns g c =
    let l = c.loop-time in
    ran_whole c.args.image.now c.args.actions.now (vec_len c.args.sources.now) _ _ c.args.schedule.now l.time l.group (omega (arith, c.loop-time-test.false, c.turns_of-turns.ensures.count)) l.invariant.ran
