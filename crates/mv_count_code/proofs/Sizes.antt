-- The bodies of a function are no longer than the one that it is lowered to, and that one is bounded by the source.
use Rattle.std.proofs.Common.{arith, ◌≡◌, ℕ, ◌+◌, ◌*◌, ◌/◌, ◌<◌, ◌≤◌, length, get_or, sym, ap, ◌∙◌, subst, ◌⊎◌, inl, inr}
use Rattle.std.specs.Prelude.{sum_by}
use Rattle.std.proofs.lemmas.List.Elements.{All-from_get_or}
use Rattle.std.proofs.lemmas.List.Sums.{sum_by-le}
use Rattle.std.proofs.lemmas.Option.{slice_get-get_or}
use Rattle.mv_ast.specs.declared.program.Program.{Program}
use Rattle.mv_ast.specs.declared.program.Function.{Function}
use Rattle.mv_ir.specs.declared.body.Body.{Body}
use Rattle.mv_ir.specs.Measures.{total}
use Rattle.mv_ir.specs.Shorts.{Shorts}
use Rattle.mv_ir.specs.Live.{most_intervals}
use Rattle.mv_select_code.specs.Control.Encoded.{own_words, most_words}
use Rattle.mv_select.specs.Functions.FunctionCode.{arrays_start}
use Rattle.mv_lower_spec.specs.Functions.{lower_function}
use Rattle.mv_lower_spec.specs.Shape.Law.{IsFunctionOf, LoweredAreSmall}
use Rattle.mv_carry.specs.Carried.{IsCarried}
use Rattle.mv_fold.specs.Folded.{IsFolded}
use Rattle.mv_regalloc.specs.Intervals.{IsRenamed}
use Rattle.mv_variants.specs.Bound.Shorts as way
use Rattle.mv_variants.specs.Bound.Shorts.{IsReady, HasRoom}
use Rattle.mv_variants.specs.Bound.Meant.{MadeAreVariants}
use Rattle.mv_variants.specs.Bound.Led.{BodiesAreMade}
use Rattle.mv_variants.specs.Bound.Tables.{GroupsFit}
use Rattle.mv_variants.proofs.OfBound.FewSlots.{one_and_more}
use Rattle.mv_variants.proofs.OfBound.Generals.{kept, ready_or_not}
use Rattle.mv_variants.proofs.OfBound.Measures.{bound_no_more, carried_no_more, folded_no_more, renamed_no_more}
use Rattle.mv_variants.proofs.OfBound.FinishedMeasures.{finished_no_more, finished_nodes}
use Rattle.mv_select.specs.Laws.{greatest_length, SelectedIsEncoded}
use Rattle.mv_select.specs.Selected.{FitsFrame}
use Rattle.mv_num.specs.Limits.{slot_limit}
use Rattle.mv_count_code.specs.Sizes.{IsBodyOf, general, folded, bound, words_of, frame_count, CodeIsShort, LinesAreShort, VariantsAreShort, FramesFit, FramesPass, LoweredFramesPass}
use Rattle.mv_count_code.proofs.OwnWords.{words_allowed, words_measured, words_of_arms}

-- ---- no longer than another body

record IsNoLonger (body b : Body) : Type 0 where
  words : most_words b.code ≤ most_words body.code
  room : HasRoom body b
  sizes : b.arrays ≡ body.arrays

renamed_words_fewer : (body b : Body) → IsRenamed body b → most_words b.code ≤ most_words body.code
renamed_words_fewer body b r =
    let own : own_words b.code ≤ own_words body.code = subst (λ c. own_words c ≤ own_words body.code) (sym (ap (λ (x : Body). x.code) r.changes)) (renamed_no_more words_measured r.numbers body.code) in
    let trees = r.tree_nodes in
    omega (arith, own, trees)

carried_words_fewer : (body b : Body) → IsCarried body b → most_words b.code ≤ most_words body.code
carried_words_fewer body b h =
    let own : own_words b.code ≤ own_words body.code = subst (λ c. own_words c ≤ own_words body.code) (sym h.code) (carried_no_more words_measured body.temps body.code) in
    let trees = h.smaller.tree_nodes in
    omega (arith, own, trees)

ready_words_fewer : (shorts : Shorts) (body b : Body) → IsReady shorts body b → most_words b.code ≤ most_words body.code
ready_words_fewer shorts body b (way.expanded e x t words) = words
ready_words_fewer shorts body b (way.finished h) =
    let own : own_words b.code ≤ own_words body.code = finished_no_more words_measured words_of_arms body b h in
    let trees = finished_nodes body b h in
    omega (arith, own, trees)
ready_words_fewer shorts body b (way.same is) = subst (λ (x : Body). most_words x.code ≤ most_words body.code) (sym is) (omega arith)

folded_words_fewer : (body b : Body) → IsFolded body b → most_words b.code ≤ most_words body.code
folded_words_fewer body b h =
    let own : own_words b.code ≤ own_words body.code = subst (λ c. own_words c ≤ own_words body.code) (sym h.code.2) (folded_no_more words_measured h.code.0 body.temps body.code) in
    let trees = h.smaller.tree_nodes in
    omega (arith, own, trees)

module _ (made : MadeAreVariants) where
  no_longer : (p : Program) (g : Function) (b : Body) → IsBodyOf p g b → IsNoLonger (lower_function p g) b
  no_longer p g b (general of) =
      let m = of.general in
      let first = ready_words_fewer of.shorts (lower_function p g) m.ready (ready_or_not of.shorts (lower_function p g) b m) in
      record {
        words = omega (arith, first, renamed_words_fewer m.ready b m.is_renamed);
        room = m.room;
        sizes = (kept of.shorts (lower_function p g) b m).sizes;
      }
  no_longer p g b (folded body h r) = record {
    words = omega (arith, folded_words_fewer (lower_function p g) body h, renamed_words_fewer body b r);
    room = inl (omega (arith, r.temps, h.intervals));
    sizes = ap (λ (x : Body). x.arrays) r.changes ∙ h.sizes;
  }
  no_longer p g b (bound ps of) =
      let m = of.made in
      let variant = made of.shorts ps (lower_function p g) b m in
      let w = m.worked in
      let own : own_words w.bound.code ≤ own_words m.ready.code = subst (λ x. own_words x ≤ own_words m.ready.code) (sym w.is_bound.code) (bound_no_more words_measured ps m.ready.code) in
      let trees = w.is_bound.tree_nodes in
      let first = ready_words_fewer of.shorts (lower_function p g) m.ready m.is_ready in
      record {
        words = omega (arith, first, own, trees, carried_words_fewer w.bound w.carried w.is_carried, folded_words_fewer w.carried w.folded w.is_folded, renamed_words_fewer w.folded b w.is_renamed);
        room = variant.room;
        sizes = variant.sizes;
      }

  -- ---- words

  module _ (small : LoweredAreSmall) where
    pub code_short : CodeIsShort
    code_short p f g h b of =
        let less = (no_longer p g b of).words in
        let words = (small p f g h).words in
        let own = words_allowed (lower_function p g).code in
        omega (arith, less, words, own)

    pub lines_short : SelectedIsEncoded → LinesAreShort
    lines_short encoded p f g h b of suitable fits attributed =
        let few = (encoded attributed b suitable fits).1 in
        let short = code_short p f g h b of in
        omega (arith, few, short)

    pub variants_short : BodiesAreMade → GroupsFit → VariantsAreShort
    variants_short are_made groups_fit p f g h own of domains rows variants merged shorts known made_rows =
        let first = code_short p f g h own of in
        let all : sum_by greatest_length variants.bodies ≤ length variants.bodies * words_of g =
        sum_by-le greatest_length (words_of g) variants.bodies (All-from_get_or (λ b. greatest_length b ≤ words_of g) variants.bodies own each)
        in
        omega (arith, first, all, one_and_more (words_of g) (length variants.bodies) (length rows) (groups_fit domains rows variants merged).bodies)
      where
        each : (i : ℕ) → i < length variants.bodies → greatest_length (get_or variants.bodies i own) ≤ words_of g
        each i lt =
            let from = are_made domains rows variants merged shorts (lower_function p g) made_rows i (get_or variants.bodies i own) (slice_get-get_or variants.bodies i own lt) in
            code_short p f g h (get_or variants.bodies i own) (bound _ (record { shorts = shorts; known = known; made = from.2 }))

    -- ---- frames

    small_frame : (temps words : ℕ) → temps + words ≤ 480 → 16 * ((arrays_start temps + words + 3) / 4) ≤ 2032
    small_frame temps words le = omega arith

    large_frame : (temps words : ℕ) → 2032 < 16 * ((arrays_start temps + words + 3) / 4) → 480 < temps + words
    large_frame temps words lt = omega arith

    -- it is within the count, or small enough in any case
    in_frame : (p : Program) (f : ℕ) (g : Function) → IsFunctionOf p f g → (b : Body) → IsBodyOf p g b →
        (b.temps + total b.arrays ≤ frame_count g) ⊎ (b.temps + total b.arrays ≤ slot_limit)
    in_frame p f g h b of = by less.room
      where
        less : IsNoLonger (lower_function p g) b
        less = no_longer p g b of

        by : HasRoom (lower_function p g) b → (b.temps + total b.arrays ≤ frame_count g) ⊎ (b.temps + total b.arrays ≤ slot_limit)
        by (inl temps) = let frame = (small p f g h).frame in let sizes = ap total less.sizes in inl (omega (arith, frame, temps, sizes))
        by (inr few) = inr few

    pub frames_fit : FramesFit
    frames_fit p f g h b of le = by (in_frame p f g h b of)
      where
        by : (b.temps + total b.arrays ≤ frame_count g) ⊎ (b.temps + total b.arrays ≤ slot_limit) → FitsFrame b
        by (inl within) = small_frame b.temps (total b.arrays) (omega (arith, le, within))
        by (inr few) = small_frame b.temps (total b.arrays) few

    pub frames_pass : FramesPass
    frames_pass p f g h b of named bytes past = by (in_frame p f g h b of)
      where
        by : (b.temps + total b.arrays ≤ frame_count g) ⊎ (b.temps + total b.arrays ≤ slot_limit) → slot_limit < frame_count g
        by (inl within) = let many = past.many in omega (arith, many, within)
        by (inr few) = absurd (let many = past.many in omega (arith, many, few))

    pub lowered_frames_pass : LoweredFramesPass
    lowered_frames_pass p f g h past =
        let b = lower_function p g in
        let large = large_frame (most_intervals b) (total b.arrays) past in
        let frame = (small p f g h).frame in
        omega (arith, large, frame)
