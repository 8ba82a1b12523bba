-- Values with zeros behind them.
use Rattle.std.proofs.Common.{◌≡◌, ⊎_elim, ℕ, ◌-◌, ◌<◌, ◌≤◌, List, ◌++◌, Bool, true, cond, is_some, Some, None, min, length, take, drop, get_or, ap₂, slice_index, slice_get, replicate, Option, sym, ap, ◌∙◌, arith}
use Rattle.std.specs.Option.{option_and_then}
use Rattle.std.proofs.Math.Path.{fun_ext}
use Rattle.std.proofs.lemmas.Bool.{cases_lt}
use Rattle.std.proofs.lemmas.List.{get_or_past, get_or-take, get_or_append_left, get_or-append-add, get_or-replicate, length-take, length-map, take_all}
use Rattle.mv_descriptors.specs.declared.rows.FunctionRow.{FunctionRow}
use Rattle.mv_descriptors.specs.declared.rows.GuardRow.{GuardRow}
use Rattle.mv_descriptors.specs.Guards.{each_below, is_between, value_fits, holds, fitting}
use Rattle.mv_image.specs.Spelling.{Fields}
use Rattle.mv_bindings.specs.declared.binding.Binding.{Binding}
use Rattle.mv_bindings.specs.Bindings.{free, bound_to}
use Rattle.mv_fetch.specs.Held.{Held}
use Rattle.mv_patch.specs.Orders.{bound_values, word_in, words_of_switches, bound_now}
use Rattle.mv_image.specs.Patched.{variant_under, variants_before, guards_before, kinds_of, fitting_in, fitting_variant}

-- the first six of some values and zeros
abbrev pub padded : List ℕ → List ℕ
padded vs = take 6 (vs ++ replicate 6 0)

zero_at : (i : ℕ) → get_or {A = ℕ} (replicate 6 0) i 0 ≡ 0
zero_at i = ⊎_elim (λ (lt : i < 6). get_or-replicate 6 i 0 0 lt) (λ (le : 6 ≤ i). get_or_past (replicate 6 0) i 0 le) (cases_lt i 6)

pub padded_at : (vs : List ℕ) → length vs ≤ 6 → (i : ℕ) → get_or (padded vs) i 0 ≡ get_or vs i 0
padded_at vs few i = ⊎_elim
    (λ (lt : i < length vs). get_or-take 6 (vs ++ replicate 6 0) i 0 (omega (arith, lt, few)) ∙ get_or_append_left vs (replicate 6 0) 0 i lt)
    (λ (le : length vs ≤ i). past le ∙ sym (get_or_past vs i 0 le))
    (cases_lt i (length vs))
  where
    past : length vs ≤ i → get_or (padded vs) i 0 ≡ 0
    past le = ⊎_elim
        (λ (lt : i < 6).
        get_or-take 6 (vs ++ replicate 6 0) i 0 lt ∙ ap (λ (k : ℕ). get_or (vs ++ replicate 6 0) k 0) (omega (arith, le)) ∙ get_or-append-add vs (replicate 6 0) (i - length vs) 0 ∙ zero_at (i - length vs))
        (λ (six : 6 ≤ i). get_or_past (padded vs) i 0 (let short = length-take 6 (vs ++ replicate 6 0) in omega (arith, short, six)))
        (cases_lt i 6)

-- ---- values that are the same at each index fit the same variant

module _ (vs ws : List ℕ) (same : (i : ℕ) → slice_index vs i ≡ slice_index ws i) where
  same_tests : (kinds : List ℕ) (row : GuardRow) → value_fits kinds vs row ≡ value_fits kinds ws row
  same_tests kinds row = fun_ext (λ i. ap (is_between (slice_index kinds i) (slice_index row.low i) (slice_index row.high i)) (same i))

  same_holds : (kinds : List ℕ) → holds kinds vs ≡ holds kinds ws
  unfolding holds
  same_holds kinds = fun_ext (λ row. ap (λ (test : ℕ → Bool). each_below test (length kinds)) (same_tests kinds row))

  same_in : (image : Fields) (f : ℕ) (row : FunctionRow) → fitting_in image f vs row ≡ fitting_in image f ws row
  same_in image f row =
      ap (λ (test : GuardRow → Bool). fitting test (variants_before image f) (take row.variants (drop (variants_before image f) image.variants)) (drop (guards_before image (variants_before image f)) image.guards))
      (same_holds (kinds_of image row))

  pub same_variant : (image : Fields) (f : ℕ) → fitting_variant image f vs ≡ fitting_variant image f ws
  unfolding fitting_variant
  same_variant image f = ap (λ (g : FunctionRow → Option ℕ). option_and_then g (slice_get image.functions f)) (fun_ext (same_in image f))

pub padded_variant : (image : Fields) (f : ℕ) (vs : List ℕ) → length vs ≤ 6 → fitting_variant image f (padded vs) ≡ fitting_variant image f vs
padded_variant image f vs few = same_variant (padded vs) vs (padded_at vs few) image f

-- ---- the words of a function's switches

pub words_count : (image : Fields) (held : Held) (row : FunctionRow) → row.count ≤ 6 → length row.switches ≡ 6 → length (words_of_switches image held row) ≡ row.count
words_count image held row few whole =
    let all = length-map (take row.count row.switches) (λ (s : ℕ). word_in held (slice_get image.switches s)) in
    let some = length-take row.count row.switches in
    omega (arith, all, some, few, whole)

module _ (image : Fields) (held : Held) (f : ℕ) (row : FunctionRow) (few : row.count ≤ 6) (whole : length row.switches ≡ 6) (values : List ℕ) (are : values ≡ padded (words_of_switches image held row)) where
  now_fits : (o : Option ℕ) → o ≡ fitting_variant image f values → fitting_variant image f (words_of_switches image held row) ≡ o
  now_fits o e =
      let count = words_count image held row few whole in
      sym (padded_variant image f (words_of_switches image held row) (omega (arith, count, few))) ∙ ap (fitting_variant image f) (sym are) ∙ sym e

  pub none_now : None ≡ fitting_variant image f values → free ≡ bound_now image held f row
  none_now e = ap (λ (o : Option ℕ). cond (is_some o) (bound_to (words_of_switches image held row)) free) (sym (now_fits None e))

  pub some_now : (n : ℕ) → Some n ≡ fitting_variant image f values → (let b : Binding = record { bound = true; count = row.count; values = values } in b) ≡ bound_now image held f row
  some_now n e =
      let count = words_count image held row few whole in
      ap₂ (λ (c : ℕ) (vs : List ℕ). (let b : Binding = record { bound = true; count = c; values = vs } in b)) (let is : row.count ≡ min 6 (length (words_of_switches image held row)) = omega (arith, count, few) in is) are
      ∙ ap (λ (o : Option ℕ). cond (is_some o) (bound_to (words_of_switches image held row)) free) (sym (now_fits (Some n) e))

-- ---- the variant that a function is bound to

take_six : (n : ℕ) (vs : List ℕ) → length vs ≡ 6 → take (min n 6) vs ≡ take n vs
take_six n vs six = ⊎_elim
    (λ (lt : n < 6). ap (λ (k : ℕ). take k vs) (let is : min n 6 ≡ n = omega (arith, lt) in is))
    (λ (le : 6 ≤ n). take_all (min n 6) vs (omega (arith, le, six)) ∙ sym (take_all n vs (omega (arith, le, six))))
    (cases_lt n 6)

pub variant_at : (image : Fields) (f : ℕ) (b : Binding) (n : ℕ) (values : List ℕ) (o : Option ℕ) → b.bound ≡ true → length b.values ≡ 6 → n ≡ min b.count 6 → values ≡ padded (take n b.values) → o ≡ fitting_variant image f values
    → variant_under image f (bound_values b) ≡ option_and_then (slice_get image.variants) o
unfolding variant_under
variant_at image f b n values o is six count are e =
    let vs : List ℕ = take b.count b.values in
    let short : length vs ≤ 6 = (let size = length-take b.count b.values in omega (arith, size, six)) in
    let same : take n b.values ≡ vs = ap (λ (k : ℕ). take k b.values) count ∙ take_six b.count b.values six in
    let fits : fitting_variant image f vs ≡ o = sym (padded_variant image f vs short) ∙ ap (λ (l : List ℕ). fitting_variant image f (padded l)) (sym same) ∙ ap (fitting_variant image f) (sym are) ∙ sym e in
    ap (λ (t : Bool). option_and_then (slice_get image.variants) (option_and_then (fitting_variant image f) (cond t (Some vs) None))) is
    ∙ ap (option_and_then (slice_get image.variants)) fits
