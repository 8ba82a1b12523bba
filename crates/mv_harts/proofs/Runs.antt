-- A run of harts by the devices of `mvharts` is the one that words ask for.
use Rattle.std.proofs.Common.{◌≡◌, ℕ, zero, suc, ◌+◌, ◌-◌, ◌<◌, ◌≤◌, false, List, [], ◌∷◌, ◌++◌, length, slice_get, Option, Some, None, option_map, option_and_then, unwrap_or, refl, sym, ap, ◌∙◌, subst, arith, ◌⊎◌, inl, inr}
use Rattle.std.specs.Prelude.{All, Err, IfOk, Ok, Result, Vec}
use Rattle.std.specs.declared.alloc.AllocError.{AllocError}
use Rattle.std.specs.declared.alloc.Global.{Global}
use Rattle.std.proofs.lemmas.Option.{get_or_from_slice_get, none-some, same_Some, slice_get_past, slice_get_within}
use Rattle.std.proofs.lemmas.Bool.{cases_lt}
use Rattle.mv_probe.specs.Ways.{Way}
use Rattle.mv_build.specs.declared.built.Built.{Built}
use Rattle.mv_machine.specs.Runs.{bytes_to_come}
use Rattle.mv_harts_runs.specs.Harts.{Hart, Harts, first_harts, harts_after}
use Rattle.mv_harts_turns.specs.Groups.{bindings_of, output, output_of}
use Rattle.mv_harts_turns.specs.Runs.{Outside, bytes_of, harts_of, outside, turns_by}
use Rattle.mv_harts_words.specs.Asked.{Asked}
use Rattle.mv_harts_words.specs.Schedules.{schedule_of}
use Rattle.mv_harts.specs.declared.devices.OneByte.{OneByte}
use Rattle.mv_harts.specs.declared.devices.Keeping.{Keeping}
use Rattle.mv_harts.specs.declared.ends.HartsEnd.{HartsEnd}
use Rattle.mv_harts.specs.Devices.{first_sources, left_of}
use Rattle.mv_harts.specs.Ends.{IsEnd}
use Rattle.mv_harts.specs.HartsRan.{HartsRan, TellsBytes, all_of}
use Rattle.mv_harts.specs.Outcomes.{IsRunOf}
use Rattle.mv_harts.specs.Texts.{text_of, texts_from}
use Rattle.mv_harts.proofs.Pairing.{same_length}
use Rattle.mv_harts.proofs.TextsSame.{AreFaultless, HaveOutputs, texts_same, unfailed_all}
use Rattle.mv_harts.proofs.Unfailing.{AreGood, unfailing}
use Rattle.mv_num.proofs.Lists.{last_there}

-- ---- the sources

abbrev pub source_of : ℕ → OneByte
source_of h = record { byte = Some (48 + h) }

-- the element of a list with one more behind it
snoc_before : {A : Type 0} (xs : List A) (x : A) (h : ℕ) → h < length xs → slice_get (xs ++ x ∷ []) h ≡ slice_get xs h
snoc_before [] x h here = absurd (omega (arith, here))
snoc_before (y ∷ ys) x zero here = refl
snoc_before (y ∷ ys) x (suc h) here = snoc_before ys x h (omega (arith, here))

snoc_length : {A : Type 0} (xs : List A) (x : A) → length (xs ++ x ∷ []) ≡ suc (length xs)
snoc_length [] x = refl
snoc_length (y ∷ ys) x = ap suc (snoc_length ys x)

pub sources_many : (n : ℕ) → length (first_sources n) ≡ n
unfolding first_sources
sources_many zero = refl
sources_many (suc n) = snoc_length (first_sources n) (source_of n) ∙ ap suc (sources_many n)

cases_at : (h n : ℕ) → h < suc n → (h < n) ⊎ (h ≡ n)
cases_at zero zero here = inr refl
cases_at zero (suc n) here = inl (omega arith)
cases_at (suc h) zero here = absurd (omega (arith, here))
cases_at (suc h) (suc n) here = on (cases_at h n (omega (arith, here)))
  where
    on : (h < n) ⊎ (h ≡ n) → (suc h < suc n) ⊎ (suc h ≡ suc n)
    on (inl lt) = inl (omega (arith, lt))
    on (inr e) = inr (ap suc e)

source_by : (n h : ℕ) → (h < n → slice_get (first_sources n) h ≡ Some (source_of h)) → (h < n) ⊎ (h ≡ n) → slice_get (first_sources n ++ source_of n ∷ []) h ≡ Some (source_of h)
source_by n h before (inl lt) = snoc_before (first_sources n) (source_of n) h (let many = sources_many n in omega (arith, many, lt)) ∙ before lt
source_by n h before (inr e) =
    ap (λ (k : ℕ). slice_get (first_sources n ++ source_of n ∷ []) k) (e ∙ sym (sources_many n)) ∙ last_there (first_sources n) (source_of n) ∙ ap (λ (k : ℕ). Some (source_of k)) (sym e)

source_at : (n h : ℕ) → h < n → slice_get (first_sources n) h ≡ Some (source_of h)
unfolding first_sources
source_at zero h here = absurd (omega (arith, here))
source_at (suc n) h here = source_by n h (source_at n h) (cases_at h n here)

pub no_sources : [] ≡ first_sources 0
unfolding first_sources
no_sources = refl

pub sources_more : (n byte : ℕ) (old new : List OneByte) → old ≡ first_sources n → byte ≡ 48 + n → new ≡ old ++ record { byte = Some byte } ∷ [] → new ≡ first_sources (n + 1)
unfolding first_sources
sources_more n byte old new before is grown =
    let on : suc n ≡ n + 1 = omega arith in
    grown ∙ ap (λ (xs : List OneByte). xs ++ record { byte = Some byte } ∷ []) before ∙ ap (λ (b : ℕ). first_sources n ++ record { byte = Some b } ∷ []) is ∙ ap first_sources on

-- ---- the sinks

some_sink : (x : Option Keeping) (ys : List ℕ) → option_and_then (λ (k : Keeping). Some k.bytes.items) x ≡ Some ys → (sink : Keeping) × (x ≡ Some sink) × (sink.bytes.items ≡ ys)
some_sink None ys e = absurd (none-some ys e)
some_sink (Some k) ys e = (k, refl, same_Some k.bytes.items ys e)

empty_at : (sinks : List Keeping) (h : ℕ) → h < length sinks → All (λ (sink : Keeping). sink.bytes.items ≡ []) sinks → option_and_then (λ (k : Keeping). Some k.bytes.items) (slice_get sinks h) ≡ Some []
empty_at [] h here empty = absurd (omega (arith, here))
empty_at (k ∷ ks) zero here empty = ap Some (empty 0 k (omega arith))
empty_at (k ∷ ks) (suc h) here empty = empty_at ks h (omega (arith, here)) (λ j d there. empty (suc j) d (omega (arith, there)))

output_at : (h : ℕ) (hs : Harts) (o : Hart) → slice_get (all_of hs) h ≡ Some o → output h hs ≡ o.state.output
output_at zero hs o there = ap output_of there
output_at (suc n) hs o there = ap output_of there

covered : (sinks : List Keeping) (n : ℕ) → ((h : ℕ) → h < n → (sink : Keeping) × (slice_get sinks h ≡ Some sink)) → n ≤ length sinks
covered sinks n there = by_case (cases_lt (length sinks) n)
  where
    by_case : (length sinks < n) ⊎ (n ≤ length sinks) → n ≤ length sinks
    by_case (inl lt) = let found = there (length sinks) lt in absurd (none-some found.0 (sym (slice_get_past sinks (length sinks) (omega arith)) ∙ found.1))
    by_case (inr le) = le

good_all : (os : List Hart) → All (λ (o : Hart). o.failed ≡ false) os → AreGood os
good_all os good n o there = subst (λ (h : Hart). h.failed ≡ false) (get_or_from_slice_get os n o o there) (good n o (slice_get_within os n o there))

pub sources_count : (sources : List OneByte) (n : ℕ) → sources ≡ first_sources n → length sources ≡ n
sources_count sources n first = ap (λ (xs : List OneByte). length xs) first ∙ sources_many n

-- ---- the run

module _ (built : Built) (asked : Asked) (schedule : List ℕ) (sources after : List OneByte) (sinks sinks' : List Keeping) (way way' : Option Way) (end : HartsEnd) where
  abbrev pub was : Outside
  was = outside (λ (s : OneByte). Some (left_of s)) (λ (k : Keeping). Some k.bytes.items) (λ s. 0) (λ (k : Keeping). k.faults) sources sinks way

  abbrev pub is : Outside
  is = outside (λ (s : OneByte). Some (left_of s)) (λ (k : Keeping). Some k.bytes.items) (λ s. 0) (λ (k : Keeping). k.faults) after sinks' way'

  module _ (ran : HartsRan built.program built.image [] asked.count schedule was is end) (first : sources ≡ first_sources asked.count) (many : length sinks ≡ asked.count)
      (empty : All (λ (sink : Keeping). sink.bytes.items ≡ []) sinks) (turns : schedule ≡ schedule_of asked.count asked.number asked.turns) (faultless : AreFaultless end.harts) where
    abbrev hs_of : Harts
    hs_of = harts_of built.image [] asked.count was schedule ran.failing

    outputs : HaveOutputs sinks' (all_of hs_of)
    outputs h o there = some_sink (slice_get sinks' h) o.state.output (ran.written h ∙ ap (option_map (λ before. before ++ output h hs_of)) (empty_at sinks h here empty) ∙ ap Some (output_at h hs_of o there))
      where
        here : h < length sinks
        here = let within = slice_get_within (all_of hs_of) h o there in let same = same_length (λ h. IsEnd (bindings_of end.commits)) end.harts (all_of hs_of) ran.harts in let told = ran.many in omega (arith, within, same, told, many)

    digits : (h : ℕ) → h < asked.count → bytes_of was h ≡ (48 + h) ∷ []
    digits h here = ap (λ (x : Option OneByte). unwrap_or (option_and_then (λ (s : OneByte). Some (left_of s)) x) []) (ap (λ (xs : List OneByte). slice_get xs h) first ∙ source_at asked.count h here)

    good : AreGood (all_of hs_of)
    good = good_all (all_of hs_of) (unfailed_all (bindings_of end.commits) end.harts (all_of hs_of) ran.harts faultless)

    abbrev start : Harts
    start = first_harts built.image (λ h. bytes_to_come (bytes_of was h)) (asked.count - 1) []

    is_run : IsRunOf built asked hs_of
    is_run = record {
      bytes = bytes_of was;
      digit = digits;
      run = (unfailing start schedule ran.failing good).1 ∙ ap (λ (s : List ℕ). harts_after start (turns_by s [])) turns;
      kept = ran.kept;
    }

    run_told : (text : List ℕ) → text ≡ texts_from 0 end.harts sinks' → (hs : Harts) × IsRunOf built asked hs × (text ≡ text_of hs)
    run_told text written = (hs_of, is_run, written ∙ texts_same (bindings_of end.commits) 0 end.harts sinks' (all_of hs_of) ran.harts outputs faultless)

  -- the text of what was told
  pub text_told : HartsRan built.program built.image [] asked.count schedule was is end → sources ≡ first_sources asked.count → length sinks ≡ asked.count →
      All (λ (sink : Keeping). sink.bytes.items ≡ []) sinks → schedule ≡ schedule_of asked.count asked.number asked.turns → (result : Result (Vec ℕ Global) AllocError) →
      IfOk result (λ text. text.items ≡ texts_from 0 end.harts sinks') → IfOk result (λ text. AreFaultless end.harts) →
      IfOk result (λ text. (hs : Harts) × IsRunOf built asked hs × (text.items ≡ text_of hs))
  text_told ran first many empty turns (Ok text) written faultless = run_told ran first many empty turns faultless text.items written
  text_told ran first many empty turns (Err e) written faultless = written

  -- there is a sink for each hart that is told of
  pub sinks_there : HartsRan built.program built.image [] asked.count schedule was is end → length sinks ≡ asked.count → All (λ (sink : Keeping). sink.bytes.items ≡ []) sinks →
      length end.harts ≤ length sinks'
  sinks_there ran many empty = covered sinks' (length end.harts) there
    where
      there : (h : ℕ) → h < length end.harts → (sink : Keeping) × (slice_get sinks' h ≡ Some sink)
      there h here =
          let lt : h < length sinks = (let told = ran.many in omega (arith, here, told, many)) in
          let hs = harts_of built.image [] asked.count was schedule ran.failing in
          let found = some_sink (slice_get sinks' h) (output h hs) (ran.written h ∙ ap (option_map (λ before. before ++ output h hs)) (empty_at sinks h lt empty)) in
          (found.0, found.1)

  module _ (n : ℕ) (ran : HartsRan built.program built.image [] n schedule was is end) (count : n ≡ asked.count) (first : sources ≡ first_sources asked.count) where
    counted : HartsRan built.program built.image [] asked.count schedule was is end
    counted = subst (λ (k : ℕ). HartsRan built.program built.image [] k schedule was is end) count ran

    pub sinks_enough : length sinks ≡ asked.count → All (λ (sink : Keeping). sink.bytes.items ≡ []) sinks → length end.harts ≤ length sinks'
    sinks_enough = sinks_there counted

    pub text_made : length sinks ≡ asked.count → All (λ (sink : Keeping). sink.bytes.items ≡ []) sinks → schedule ≡ schedule_of asked.count asked.number asked.turns → (result : Result (Vec ℕ Global) AllocError) →
        IfOk result (λ text. text.items ≡ texts_from 0 end.harts sinks') → IfOk result (λ text. AreFaultless end.harts) → IfOk result (λ text. (hs : Harts) × IsRunOf built asked hs × (text.items ≡ text_of hs))
    text_made = text_told counted first

-- the sources of `mvharts` tell bytes
pub sources_tell : (n : ℕ) → n ≤ 4 → All (λ (s : OneByte). TellsBytes (Some (left_of s))) (first_sources n)
sources_tell n few h d here =
    subst (λ (s : OneByte). TellsBytes (Some (left_of s))) (sym (get_or_from_slice_get (first_sources n) h (source_of h) d (source_at n h lt))) (one_byte (48 + h) (omega (arith, lt, few)))
  where
    lt : h < n
    lt = let many = sources_many n in omega (arith, many, here)

    one_byte : (b : ℕ) → b < 256 → TellsBytes (Some (b ∷ []))
    one_byte b small zero d here = small
    one_byte b small (suc k) d here = absurd (omega (arith, here))

-- what the run asks for, of the sources and of the schedule
pub tells_sources : (sources : List OneByte) (n : ℕ) → sources ≡ first_sources n → n ≤ 4 → All (λ (s : OneByte). TellsBytes (Some (left_of s))) sources
tells_sources sources n first few = subst (All (λ (s : OneByte). TellsBytes (Some (left_of s)))) (sym first) (sources_tell n few)
