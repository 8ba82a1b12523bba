-- The machine with a built image is a host for its program, and the program is loaded there.
use Rattle.std.proofs.Common.{◌≡◌, ℕ, ◌<◌, ◌^◌, true, List, Some, slice_get, All, refl}
use Rattle.std.proofs.lemmas.List.Elements.{All-map}
use Rattle.mv_bindings.specs.Acts.{IsActOfWord}
use Rattle.mv_ast.specs.declared.program.Program.{Program}
use Rattle.mv_ast.specs.declared.program.Function.{Function}
use Rattle.mv_isa.specs.Code.{IsPlace}
use Rattle.mv_image.specs.Spelling.{Fields}
use Rattle.mv_machine.specs.Acts.{PollActs}
use Rattle.mv_machine.specs.Runs.{bytes_to_come}
use Rattle.mv_refine_machine.specs.Layout.{IsSetOut}
use Rattle.mv_refine_machine.specs.Laws.{IsByteOrEnd}
use Rattle.mv_refine_machine.specs.MachineRuns.{called_at}
use Rattle.mv_refine_machine.specs.Under.{words_under}
use Rattle.mv_refine_machine.proofs.Whole.{laid, own}
use Rattle.mv_refine_machine.specs.Commits.Tabled.{IsTabled}
use Rattle.mv_refine_machine.specs.Commits.Watched.{access}
use Rattle.mv_refine_images.specs.Programs.Hosts.{IsOpenHost, IsOpenlyLoaded}
use Rattle.mv_linker.specs.Linked.{check_label}
use Rattle.mv_link_text.specs.Text.{StubsArePlaced}
use Rattle.mv_refine_images.specs.Tables.Laws.{HaveTables}
use Rattle.mv_refine_images.proofs.LinkedProgram.{Basis, linked_program}
use Rattle.mv_refine_images.specs.Layouts.{address_of}
use Rattle.mv_refine_images.proofs.Closed.{plan_open}
use Rattle.mv_refine_images.proofs.Data.{counted, entries, set_out}
use Rattle.mv_refine_images.proofs.Points.{of_pointers, pointed}
use Rattle.mv_refine_images.proofs.Standing.{is_one, selected}
use Rattle.mv_refine_images.proofs.Watching.{runs_openly}

module _ (p : Program) (image : Fields) (basis : Basis p image) where
  open basis use {laws, formed, built}
  open linked_program p image built use {parts, sizing, y, numbers, at, attributed, shut, machine}

  out : IsSetOut y
  out = set_out p image basis

  pub stubs : StubsArePlaced parts image sizing
  stubs = laws.stubs parts image built.are.are built.are.fit built.linked

  pub tables : HaveTables p numbers image
  tables = laws.tables p formed built.bodies built.tables parts built.are image built.linked

  tabled : IsTabled p numbers y image
  tabled = tables.tabled y (λ x. refl) (λ x. refl)

  module _ (bytes : List ℕ) (polls : PollActs) (picks : List ℕ) (are_bytes : All (λ b. b < 2 ^ 8) bytes) (of_words : All IsActOfWord polls.acts) (budget far : ℕ) where
    bytes_or_end : All IsByteOrEnd (bytes_to_come bytes)
    bytes_or_end = All-map IsByteOrEnd Some bytes are_bytes

    -- slots are of attributed functions
    slots : (a f : ℕ) → called_at attributed image a ≡ Some f → IsPlace a × ((g : Function) → slice_get p.functions f ≡ Some g → g.attributed ≡ true)
    slots a f e =
        let s = laws.slots parts image built.are.are built.are.fit built.linked a f e in
        ((s.1 s.0.0 s.0.1).here, λ g here. is_one p image basis s.0.0 f g s.0.1 here)

    host : IsOpenHost access y (machine bytes polls picks) (words_under image) shut budget far p numbers
    host = record {
      laid = laid y out;
      memory = laws.memory attributed shut image (bytes_to_come bytes) polls picks y out;
      sizes = λ x. refl;
      runs = λ from to reach free s stands less.
          runs_openly laws.runs_alone attributed shut image built.rules (bytes_to_come bytes) polls picks from to s (own y out s stands) (λ pc a word le lt there may. free pc a word le lt there (less a may));
      runs_under = λ bs from to reach free s stands less.
          laws.runs_under attributed shut image built.rules (bytes_to_come bytes) polls picks bs from to s (own y out s stands) (λ pc a le lt may. free pc a le lt (less a may));
      entries = entries p image basis;
      calls = laws.calls attributed shut image built.rules (bytes_to_come bytes) polls picks bytes_or_end y budget far numbers p;
      stub =
          laws.orders attributed shut image built.rules (bytes_to_come bytes) polls of_words picks y out (address_of parts sizing) (address_of parts sizing) stubs.commit_ends stubs.commit
          (plan_open image parts sizing p out y.commit) budget far numbers p (counted p image basis) tables.places tabled tables.orders;
      count = counted p image basis;
      slots = slots;
      points = of_pointers p image basis;
    }

    pub loaded : IsOpenlyLoaded access y (machine bytes polls picks) (words_under image) shut budget far p numbers
    loaded = record { formed = formed; host = host; functions = selected p image basis; check = at check_label; pointed = pointed p image basis tabled stubs }
