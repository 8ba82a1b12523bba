-- Each hart of a run has done what the program means in it.
use Rattle.std.proofs.Common.{◌≡◌, ℕ, suc, ◌-◌, ◌≤◌, List, [], length, Option, ap, ◌∙◌, subst}
use Rattle.std.specs.List.{All}
use Rattle.mv_ast.specs.declared.program.Program.{Program}
use Rattle.mv_image.specs.Spelling.{Fields}
use Rattle.mv_machine.specs.Runs.{State}
use Rattle.mv_meaning.specs.declared.meant.End.{End}
use Rattle.mv_meaning.specs.declared.meant.End.TheVariants as source
use Rattle.mv_meaning.specs.declared.meant.Meant.{Meant}
use Rattle.mv_meaning.specs.Growth.{Begins}
use Rattle.mv_meaning.specs.Meaning.{hart_mean}
use Rattle.mv_refine_machine.specs.Runs.Behaves.{Behaves, IsWithin, IsWhole, EndsRight, HasDone, taken_of}
use Rattle.mv_harts_runs.specs.Harts.{Hart, first_harts, harts_after}
use Rattle.mv_harts_runs.specs.Alone.{HartsAreRight, IsOutside, Passes, alone}
use Rattle.mv_harts_meant.specs.Runnable.{IsRunnable, fits_in}
use Rattle.mv_harts_meant.specs.Laws.{AreBytes, inputs_of, FittingLaw, Means, MeansLaw}
use Rattle.mv_harts_meant.proofs.Fit.{all_of_words, all_fit}

-- what a meaning says of a state it says of one with the same outside

module _ (bytes : List ℕ) (s o : State) (m : Meant) (same : IsOutside s o) where
  taken_same : taken_of bytes s ≡ taken_of bytes o
  taken_same = ap (λ (input : List (Option ℕ)). length bytes - length input) same.input

  within_same : IsWithin bytes s m → IsWithin bytes o m
  within_same w = record {
    output = subst (λ (out : List ℕ). Begins out m.output) same.output w.output;
    log = subst (λ log. Begins log m.log) same.log w.log;
    taken = subst (λ n. n ≤ m.taken) taken_same w.taken;
  }

  whole_same : (e : End) → IsWhole bytes s m e → IsWhole bytes o m e
  whole_same e w = record { ending = w.ending; output = w.output ∙ same.output; taken = w.taken ∙ taken_same; bindings = w.bindings ∙ same.bindings; log = w.log ∙ same.log }

  ends_same : EndsRight bytes s m → EndsRight bytes o m
  ends_same w = record {
    exits = λ status e. whole_same (source.Exit status) (w.exits status (same.stop ∙ e));
    traps = λ code e. whole_same (source.Trap code) (w.traps code (same.stop ∙ e));
    faults = λ why e. w.faults why (same.stop ∙ e);
  }

  done_same : HasDone s m → HasDone o m
  done_same d = record {
    output = subst (λ (out : List ℕ). Begins m.output out) same.output d.output;
    log = subst (λ log. Begins m.log log) same.log d.log;
    ended = λ end going. d.ended end (same.stop ∙ going);
  }

module _ (p : Program) (image : Fields) (runs : IsRunnable p image) (bytes : ℕ → List ℕ) (are : AreBytes bytes) where
  one_means : (h : ℕ) (o : Hart) → All (Passes (fits_in p) h) o.taken → IsOutside (alone h image (inputs_of bytes h) o.taken o.count) o.state → Means p h (bytes h) o
  one_means h o all same = record {
    within = within_same (bytes h) s o.state (hart_mean p h (bytes h) o.taken o.count) same (b.within o.count);
    ends = ends_same (bytes h) s o.state (hart_mean p h (bytes h) o.taken o.count) same (b.ends o.count);
    does = λ k time. done_same (bytes h) s o.state (hart_mean p h (bytes h) o.taken k) same (b.does o.count k time);
  }
    where
      s : State
      s = alone h image (inputs_of bytes h) o.taken o.count

      b : Behaves p image (bytes h) (record { hart = h; acts = o.taken }) []
      b = runs.behaves (bytes h) (record { hart = h; acts = o.taken }) [] (are h) (all_of_words p h o.taken all) (all_fit p h o.taken all)

pub all_mean : FittingLaw → HartsAreRight → MeansLaw
all_mean fitting right p image runs bytes are count acts all turns =
    let hs = harts_after (first_harts image (inputs_of bytes) count acts) turns in
    let both = right image (inputs_of bytes) (fits_in p) (fitting p image runs bytes are) count acts all turns in (
      both.1,
      one_means p image runs bytes are 0 hs.leader both.0.fits both.1.leader_alone,
      λ n o there. one_means p image runs bytes are (suc n) o (both.0.others n o there).fits (both.1.others_alone n o there),
    )
