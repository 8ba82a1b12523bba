-- A function has code where its body is selected.
use Rattle.std.proofs.Common.{◌≡◌, ℕ, ◌<◌, ◌≤◌, min, Bool, slice_get, ap, ◌∙◌, subst}
use Rattle.mv_ast.specs.declared.program.Program.{Program}
use Rattle.mv_ast.specs.Counts.{is_attributed}
use Rattle.mv_isa.specs.declared.labelled.Labelled.{Labelled}
use Rattle.mv_ir.specs.declared.body.Body.{Body}
use Rattle.mv_ir.specs.Measures.{deepest}
use Rattle.mv_ir.specs.Shorts.{Shorts}
use Rattle.mv_ir.specs.WellFormed as ir
use Rattle.mv_lower_spec.specs.Functions.{lower_function}
use Rattle.mv_lower_spec.specs.Shape.Law.{LoweredAreShallow, LoweredAreWellFormed}
use Rattle.mv_source_forms.specs.WellFormed.{IsWellFormed}
use Rattle.mv_select.specs.Calls.Convention.{frame_limit}
use Rattle.mv_select.specs.Bodies.SelectedBodies.{HasWords}
use Rattle.mv_select.specs.declared.error.SelectError.{SelectError}
use Rattle.mv_select.specs.declared.error.SelectError.TheVariants.{Frame, Memory}
use Rattle.mv_select.specs.Selected as selecting
use Rattle.mv_select.specs.Selected.{IsSuitable, IsSelected, OnFrame}
use Rattle.mv_variants.specs.Bound.General.{IsGeneral}
use Rattle.mv_variants.proofs.OfBound.Generals.{frame_past, frame_within, kept}
use Rattle.mv_parts.specs.Codes.{IsGeneric, HasCode, PassesFrame, greatest_count}

module _ (shallow : LoweredAreShallow) (formed : LoweredAreWellFormed) (p : Program) (well : IsWellFormed p) (f : ℕ) (body : Body) (generic : IsGeneric p f body)
    (words : HasWords body.code) where
  open generic use {function as g}

  abbrev lowered : Body
  lowered = lower_function p g

  abbrev shorts : Shorts
  shorts = generic.general.shorts

  abbrev made : IsGeneral shorts lowered body
  made = generic.general.general

  formed_body : ir.IsWellFormed body
  formed_body = (kept shorts lowered body made).well_formed (formed p f g (record { formed = well; there = generic.there }))

  shallow_body : deepest body.code ≤ 4
  shallow_body = (kept shorts lowered body made).deepest (shallow p g)

  pub suitable : IsSuitable body
  suitable = record { formed = formed_body; shallow = shallow_body; orders = words.orders }

  pub passes : (named bytes : ℕ) → selecting.PassesFrame f body named bytes → PassesFrame p f named bytes
  passes named bytes h =
      let same = frame_past shorts lowered body made h.past in
      record {
        function = g;
        there = generic.there;
        past = subst (λ n. frame_limit < n) same h.past;
        is_function = h.is_function;
        count = h.count ∙ ap (λ n. min n greatest_count) same;
      }

  pub refused : (e : SelectError) → OnFrame e (selecting.PassesFrame f body) → OnFrame e (PassesFrame p f)
  refused (Frame named bytes) h = passes named bytes h
  refused (Memory e) h = tt

  pub has_code : (attributed : Bool) → attributed ≡ is_attributed (slice_get p.functions f) → (code : Labelled) → IsSelected attributed body code → HasCode p f body code
  has_code attributed is code selected =
      let own : attributed ≡ g.attributed = is ∙ ap is_attributed generic.there in
      record {
        function = g;
        there = generic.there;
        is_code = record { suitable = suitable; selected = subst (λ b. IsSelected b body code) own selected };
        frame = frame_within shorts lowered body made selected.frame;
      }
