-- What holds of the body of which a function's own code is made.
use Rattle.std.proofs.Common.{arith, ◌≡◌, ℕ, ◌<◌, ◌≤◌, List, map, ◌⊎◌, inl, inr, sym, ◌∙◌, ap, subst, Contains}
use Rattle.mv_ir.specs.declared.stm.Stm.{Stm}
use Rattle.mv_ir.specs.declared.stm.Stm.TheOpen.{Stm-F}
use Rattle.mv_ir.specs.declared.body.Body.{Body}
use Rattle.mv_ir.specs.Shorts.{Shorts, KeepsBodyWith}
use Rattle.mv_ir.specs.Live.{IsWhole, most_intervals}
use Rattle.mv_ir.specs.Measures.{scalars_read, arrays_read, deepest, total}
use Rattle.mv_ir.specs.WellFormed.{IsWellFormed}
use Rattle.mv_select.specs.Calls.Convention.{frame_limit}
use Rattle.mv_select.specs.Functions.FunctionCode.{frame_bytes}
use Rattle.mv_variants.specs.Bound.Shorts as way
use Rattle.mv_variants.specs.Bound.Shorts.{IsReady, ShortsHaveWords}
use Rattle.mv_variants.specs.Bound.General.{IsGeneral}
use Rattle.mv_variants.specs.Bound.Names.{NamesNoMore}
use Rattle.mv_variants.specs.Sizes.{HasSmallFrame}
use Rattle.mv_variants.proofs.OfBound.Meant.{IsKeptReady, ready_kept}
use Rattle.mv_variants.proofs.OfBound.Measures.{Measure, renamed_same}
use Rattle.mv_variants.proofs.OfBound.TidiedMeasures.{CountsCalls}
use Rattle.mv_variants.proofs.OfBound.ExpandedMeasures.{ShortsCountNothing}
use Rattle.mv_variants.proofs.OfBound.NamesKept.{renaming_names}
use Rattle.mv_variants.proofs.OfBound.Variants.{names_after, ready_names, ready_no_more, ready_same, renamed_counts_no_more, room_fits}

-- It means what the first means, over callees that do what the short bodies do, reads and names no more, and what else there is of it is the same.
pub record IsKept (shorts : Shorts) (body result : Body) : Type 0 where
  pub keeps : KeepsBodyWith shorts body result
  pub scalars : (g : ℕ) → Contains (scalars_read result.code) g → Contains (scalars_read body.code) g
  pub arrays : (g : ℕ) → Contains (arrays_read result.code) g → Contains (arrays_read body.code) g
  pub deepest : deepest body.code ≤ 4 → deepest result.code ≤ 4
  pub whole : IsWhole result
  pub well_formed : IsWellFormed body → IsWellFormed result
  pub names : ShortsHaveWords shorts → NamesNoMore body.code result.code
  pub params : result.params ≡ body.params
  pub sizes : result.arrays ≡ body.arrays
  pub rooms : result.rooms ≡ body.rooms
  pub marked : result.marked ≡ body.marked
  pub switches : result.switches ≡ body.switches

module _ (shorts : Shorts) (body result : Body) (m : IsGeneral shorts body result) where
  pub ready_or_not : IsReady shorts body m.ready
  ready_or_not = by m.is_ready
    where
      by : (IsReady shorts body m.ready × HasSmallFrame body) ⊎ (m.ready ≡ body) → IsReady shorts body m.ready
      by (inl (is, small)) = is
      by (inr is) = way.same is

  before : IsKeptReady shorts body m.ready
  before = ready_kept shorts body m.ready ready_or_not

  renamed_names : NamesNoMore m.ready.code result.code
  renamed_names = subst (NamesNoMore m.ready.code) (sym (ap (λ (b : Body). b.code) m.is_renamed.changes)) (renaming_names m.is_renamed.numbers m.ready.code)

  pub kept : IsKept shorts body result
  kept = record {
    keeps = λ setting frame contents args bound w known.
        let first = before.means setting frame contents args bound w known in
        let second = m.is_renamed.keeps setting frame contents args bound w in
        record { same = first.same ∙ second.same; cheaper = omega (arith, first.cheaper, second.cheaper) };
    scalars = λ g c. before.scalars g (subst (λ l. Contains l g) m.is_renamed.scalars c);
    arrays = λ g c. before.arrays g (subst (λ l. Contains l g) m.is_renamed.arrays c);
    deepest = λ h. (let shallow = before.deepest h in omega (arith, shallow, m.is_renamed.deepest));
    whole = m.is_renamed.whole;
    well_formed = λ h. m.is_renamed.well_formed (before.well_formed h);
    names = λ all. names_after body.code m.ready.code result.code (ready_names shorts body m.ready all ready_or_not) renamed_names;
    params = ap (λ (b : Body). b.params) m.is_renamed.changes ∙ before.params;
    sizes = ap (λ (b : Body). b.arrays) m.is_renamed.changes ∙ before.sizes;
    rooms = ap (λ (b : Body). b.rooms) m.is_renamed.changes ∙ before.rooms;
    marked = ap (λ (b : Body). b.marked) m.is_renamed.changes ∙ before.marked;
    switches = ap (λ (b : Body). b.switches) m.is_renamed.changes ∙ before.switches;
  }

  -- ---- what a measure of calls counts

  module _ {layer : Stm-F ℕ → ℕ} {m' : Stm → ℕ} (of : Measure layer m') (calls : CountsCalls layer) where
    abbrev all : List Stm → ℕ
    all code = total (map m' code)

    pub general_no_more : all result.code ≤ all body.code
    general_no_more = omega (arith, ready_no_more of calls shorts body m.ready ready_or_not, renamed_counts_no_more of m.ready result m.is_renamed)

    -- it is the same where calls of functions with short bodies count nothing
    pub general_same : ShortsCountNothing layer shorts → all result.code ≡ all body.code
    general_same free =
        ap (λ (b : Body). all b.code) m.is_renamed.changes ∙ renamed_same of m.is_renamed.numbers m.ready.code ∙ ready_same of calls shorts free body m.ready ready_or_not

  -- ---- frames

  -- the frame of the first body with its temporaries renamed alone
  abbrev plain_frame : ℕ
  plain_frame = frame_bytes (most_intervals body) body.arrays

  -- where the frame passes the limit, or the first one does, they are equal
  same_frame : (m.ready ≡ body) → frame_bytes result.temps result.arrays ≡ plain_frame
  same_frame e = ap (frame_bytes result.temps) kept.sizes ∙ ap (λ t. frame_bytes t body.arrays) m.is_renamed.temps ∙ ap (λ b. frame_bytes (most_intervals b) body.arrays) e

  pub frame_past : frame_limit < frame_bytes result.temps result.arrays → frame_bytes result.temps result.arrays ≡ plain_frame
  frame_past past = by m.is_ready
    where
      by : (IsReady shorts body m.ready × HasSmallFrame body) ⊎ (m.ready ≡ body) → frame_bytes result.temps result.arrays ≡ plain_frame
      by (inl (is, small)) = absurd (let fits = room_fits body result kept.sizes m.room small in omega (arith, fits, past))
      by (inr is) = same_frame is

  pub frame_within : frame_bytes result.temps result.arrays ≤ frame_limit → plain_frame ≤ frame_limit
  frame_within fits = by m.is_ready
    where
      by : (IsReady shorts body m.ready × HasSmallFrame body) ⊎ (m.ready ≡ body) → plain_frame ≤ frame_limit
      by (inl (is, small)) = small
      by (inr is) = let e = same_frame is in omega (arith, e, fits)
