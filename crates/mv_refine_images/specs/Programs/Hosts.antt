-- What it is for the functions of a program to stand on a machine whose text changes with the bindings.
use Rattle.std.specs.Prelude.{ℕ, suc, ◌∷◌, ◌≡◌, ◌+◌, ◌<◌, ◌≤◌, Bool, true, false, List, [], map, length, slice_get, slice_index, Option, Some, None, pos, ◌-ℤ◌}
use Rattle.std.specs.List.{zip}
use Rattle.mv_ast.specs.declared.program.Program.{Program}
use Rattle.mv_ast.specs.declared.program.Function.{Function}
use Rattle.mv_bindings.specs.declared.binding.Binding.{Binding}
use Rattle.mv_ast.specs.Switches.{attributed_before, attributed_functions, switch_domain}
use Rattle.mv_isa.specs.declared.instr.Instr.{Instr}
use Rattle.mv_isa.specs.declared.instr.Instr.TheVariants.{Addi, Jal}
use Rattle.mv_isa.specs.Code.{IsPlace, distance}
use Rattle.mv_isa.specs.Execution.{Access}
use Rattle.mv_isa.specs.Standing.{InstrStands, SlotStands, PointStands}
use Rattle.mv_isa.specs.Registers.{x0, sp}
use Rattle.mv_ir.specs.declared.tree.Tree.{Tree}
use Rattle.mv_ir.specs.declared.body.Body.{Body}
use Rattle.mv_ir.specs.Combinations.{IsCombination}
use Rattle.mv_ir.specs.Shorts.{Shorts, KeepsBodyWith, KeepsUnderWith}
use Rattle.mv_ir.specs.Programs.{setting_of}
use Rattle.mv_ir.specs.World.{World}
use Rattle.mv_ir_worlds.specs.Fit.{IsFit, is_fit}
use Rattle.mv_ir_worlds.specs.Functions.{IsFreeIn, IsBoundIn}
use Rattle.mv_lower_spec.specs.Functions.{lower_function}
use Rattle.mv_source_forms.specs.Names.{global_words}
use Rattle.mv_source_forms.specs.WellFormed.{IsWellFormed}
use Rattle.mv_select_code.specs.Control.Placed.{Text, Placed}
use Rattle.mv_select_code.specs.Control.Runs.{Machine}
use Rattle.mv_select.specs.Calls.Convention.{Layout}
use Rattle.mv_select.specs.Calls.Environment.{ServesCalls, ServesOrders, ServesKnown}
use Rattle.mv_select.specs.Calls.Laws.{IsLinked}
use Rattle.mv_select.specs.Functions.FunctionCode.{bytes_of, later_lines, function_lines}
use Rattle.mv_select.specs.Functions.Functions.{IsAmple, IsLaid, IsMemory, IsFunction, IsOpen, RunsWithin, alone, shape_of}
use Rattle.mv_select.specs.Inline.InlineOf.{inline_of}
use Rattle.mv_select.specs.Slots.Narrowed.{narrowed, under}
use Rattle.mv_select.specs.Slots.Points.{CallsBound}
use Rattle.mv_variants.specs.Bound.Shorts.{AreShortsOf}
use Rattle.mv_refine_machine.specs.Stubs.Stubs.{HasCheck}
use Rattle.mv_select_code.specs.Statements.Frames.{Reach}

-- What stands from one address to another in words that are never patched may load all that some code may: none of it is closed there.
abbrev pub IsOpenIn : Text → (closed : (pc address : ℕ) → Bool) → (from to : ℕ) → Reach → Type 0
IsOpenIn text closed from to reach = (pc a word : ℕ) → from ≤ pc → pc < to → text.word pc ≡ Some word → reach.may_load a ≡ true → closed pc a ≡ false

-- A machine for a program: memory has the words of its globals, and the stack; code of every frame that stands in them runs where what it may load is
-- open, also in the words that stand while some bindings hold; a function's number is the address of its entry; the known functions that may be asked for
-- are served; wherever it is calm its bindings and the actions that are left fit; slots are of attributed functions; and those of four words are of pointer
-- switches, one for each address.
pub record IsHost {M : Type 0} (access : Access M) (y : Layout) (machine : Machine M) (words : List Binding → ℕ → Option ℕ) (closed : (pc address : ℕ) → Bool) (budget far : ℕ) (p : Program) (numbers : List ℕ) : Type 0 where
  pub laid : IsLaid y
  pub memory : IsMemory access y machine
  pub sizes : (x : ℕ) → y.size x ≡ global_words p x
  pub runs : (from to : ℕ) (reach : Reach) → IsOpenIn machine.text closed from to reach → RunsWithin access y (alone machine from to) reach
  pub runs_under : (bs : List Binding) (from to : ℕ) (reach : Reach) → IsOpen closed from to reach → RunsWithin access y (alone (under machine words bs) from to) reach
  pub entries : (f : ℕ) → f < length numbers → (slice_index numbers f ≡ y.entry f) × IsPlace (y.entry f)
  pub serves : ServesKnown access y machine budget far (setting_of numbers p)
  pub fit : (w : World) (m : M) → machine.is_calm w m ≡ true → IsFit p w
  pub count : length numbers ≡ length p.functions
  pub slots : (at f : ℕ) → machine.text.slot at ≡ Some f → IsPlace at × ((g : Function) → slice_get p.functions f ≡ Some g → g.attributed ≡ true)
  pub points : (at a : ℕ) → machine.text.point at ≡ Some a → IsPlace at × ((q : ℕ) × (x : ℕ) × (slice_get p.pointers q ≡ Some x) × (y.place x ≡ a))

-- A machine of which nothing is known of the worlds in which it is calm. Environment calls are served in any, orders and polls in fit ones. Each function has a
-- number.
pub record IsOpenHost {M : Type 0} (access : Access M) (y : Layout) (machine : Machine M) (words : List Binding → ℕ → Option ℕ) (closed : (pc address : ℕ) → Bool) (budget far : ℕ) (p : Program) (numbers : List ℕ) : Type 0 where
  pub laid : IsLaid y
  pub memory : IsMemory access y machine
  pub sizes : (x : ℕ) → y.size x ≡ global_words p x
  pub runs : (from to : ℕ) (reach : Reach) → IsOpenIn machine.text closed from to reach → RunsWithin access y (alone machine from to) reach
  pub runs_under : (bs : List Binding) (from to : ℕ) (reach : Reach) → IsOpen closed from to reach → RunsWithin access y (alone (under machine words bs) from to) reach
  pub entries : (f : ℕ) → f < length numbers → (slice_index numbers f ≡ y.entry f) × IsPlace (y.entry f)
  pub calls : ServesCalls access y machine budget far (setting_of numbers p)
  pub stub : ServesOrders access y (narrowed machine (is_fit p) machine.text) budget far (setting_of numbers p)
  pub count : length numbers ≡ length p.functions
  pub slots : (at f : ℕ) → machine.text.slot at ≡ Some f → IsPlace at × ((g : Function) → slice_get p.functions f ≡ Some g → g.attributed ≡ true)
  pub points : (at a : ℕ) → machine.text.point at ≡ Some a → IsPlace at × ((q : ℕ) × (x : ℕ) × (slice_get p.pointers q ≡ Some x) × (y.place x ≡ a))

module _ (y : Layout) (text : Text) (words : List Binding → ℕ → Option ℕ) (closed : (pc address : ℕ) → Bool) (p : Program) (numbers : List ℕ) (f : ℕ) (g : Function) where
  -- The code of a function that isn't attributed stands at its entry. It was selected from a body that means the same as the one the function is lowered
  -- to, at no greater cost, over callees that do what some short bodies do.
  pub record IsPlain : Type 0 where
    pub body : Body
    pub shorts : Shorts
    pub known : AreShortsOf p shorts
    pub keeps : KeepsBodyWith shorts (lower_function p g) body
    pub params : body.params ≡ g.params
    pub reach : Reach
    pub ample : IsAmple y reach
    pub is_fine : Tree → Bool
    pub fits : IsFunction y (setting_of numbers p) false [] reach is_fine body
    pub place : ℕ → ℕ
    pub linked : IsLinked y (length numbers) place
    pub is_attributed : ℕ → Bool
    pub next : ℕ
    pub open_there : IsOpenIn text closed (y.entry f) next reach
    pub placed : Placed text place y.entry (function_lines y.place y.size is_attributed (shape_of false body) body.code) (y.entry f) next

  -- Code for an attributed function under values of its switches stands at an address. It was selected from a body that means the same there, at no greater
  -- cost, over callees that do what some short bodies do.
  pub record IsVariant (vs : List ℕ) : Type 0 where
    pub address : ℕ
    pub body : Body
    pub shorts : Shorts
    pub known : AreShortsOf p shorts
    pub keeps : KeepsUnderWith shorts (zip (lower_function p g).switches vs) (lower_function p g) body
    pub params : body.params ≡ g.params
    pub reach : Reach
    pub ample : IsAmple y reach
    pub is_fine : Tree → Bool
    pub fits : IsFunction y (setting_of numbers p) true (zip (lower_function p g).switches vs) reach is_fine body
    pub place : ℕ → ℕ
    pub linked : IsLinked y (length numbers) place
    pub is_attributed : ℕ → Bool
    pub next : ℕ
    pub open_there : IsOpenIn text closed address next reach
    pub placed : Placed text place y.entry (function_lines y.place y.size is_attributed (shape_of true body) body.code) address next

  -- the words of a slot of a function that is bound to a variant: a call of it, or its inline body
  abbrev pub SlotShows : (ℕ → Option ℕ) → ℕ → ℕ → Option (Instr × Instr) → Type 0
  SlotShows shown at address None = SlotStands shown at (at + 8) address
  SlotShows shown at address (Some both) = InstrStands shown at both.0 × InstrStands shown (at + 4) both.1

  -- The code of an attributed function stands behind the first word of its entry. While it is free that word moves sp down, as the first of its code does, and
  -- its slots call it. While it is bound to values of its switches there is a variant for them, to which that word jumps, and its slots show it: what the
  -- variant may load is open there too.
  pub record IsPatched : Type 0 where
    pub body : Body
    pub shorts : Shorts
    pub known : AreShortsOf p shorts
    pub keeps : KeepsBodyWith shorts (lower_function p g) body
    pub params : body.params ≡ g.params
    pub reach : Reach
    pub ample : IsAmple y reach
    pub is_fine : Tree → Bool
    pub fits : IsFunction y (setting_of numbers p) true [] reach is_fine body
    pub place : ℕ → ℕ
    pub linked : IsLinked y (length numbers) place
    pub is_attributed : ℕ → Bool
    pub next : ℕ
    pub open_there : IsOpenIn text closed (y.entry f + 4) next reach
    pub later : Placed text place y.entry (later_lines y.place y.size is_attributed (shape_of true body) body.code) (y.entry f + 4) next
    pub here : IsPlace (y.entry f)
    pub variants : (vs : List ℕ) → IsCombination (map (switch_domain p) g.switches) vs → IsVariant vs
    pub entry_free : (bs : List Binding) → IsFreeIn bs (attributed_before p.functions f) →
        InstrStands (words bs) (y.entry f) (Addi sp sp (pos 0 -ℤ pos (bytes_of (shape_of true body))))
    pub entry_bound : (bs : List Binding) (vs : List ℕ) (is : IsCombination (map (switch_domain p) g.switches) vs) → IsBoundIn bs (attributed_before p.functions f) vs →
        InstrStands (words bs) (y.entry f) (Jal x0 (distance (y.entry f) (variants vs is).address))
    pub slot_free : (bs : List Binding) (at : ℕ) → text.slot at ≡ Some f → IsFreeIn bs (attributed_before p.functions f) → SlotStands (words bs) at (at + 8) (y.entry f)
    pub slot_bound : (bs : List Binding) (at : ℕ) (vs : List ℕ) (is : IsCombination (map (switch_domain p) g.switches) vs) → text.slot at ≡ Some f →
        IsBoundIn bs (attributed_before p.functions f) vs → SlotShows (words bs) at (variants vs is).address (inline_of y.place (variants vs is).body)
    pub slot_open : (at : ℕ) (vs : List ℕ) (is : IsCombination (map (switch_domain p) g.switches) vs) → text.slot at ≡ Some f → IsOpen closed at (at + 8) (variants vs is).reach

  -- the code of a function
  pub record IsSelected : Type 0 where
    pub plain : g.attributed ≡ false → IsPlain
    pub patched : g.attributed ≡ true → IsPatched

-- The slots of four words of a pointer switch: while it is free they load it, and go to the check stub; while it is bound to a function they go there behind
-- its test of the pointer, and call the function. What they load is open there, and the check stub is never patched.
pub record ArePointed (y : Layout) (text : Text) (words : List Binding → ℕ → Option ℕ) (closed : (pc address : ℕ) → Bool) (p : Program) (numbers : List ℕ) (check : ℕ) : Type 0 where
  pub stub : 0 < length p.pointers → (place : ℕ → ℕ) × IsLinked y (length numbers) place × HasCheck text place check
  pub free : (bs : List Binding) (q x at : ℕ) → slice_get p.pointers q ≡ Some x → text.point at ≡ Some (y.place x) → IsFreeIn bs (length (attributed_functions p) + q) →
      PointStands (words bs) at (at + 16) check (y.place x)
  pub open_there : (q x at : ℕ) → slice_get p.pointers q ≡ Some x → text.point at ≡ Some (y.place x) → closed (at + 4) (y.place x) ≡ false
  pub bound : (bs : List Binding) (q x f at : ℕ) → slice_get p.pointers q ≡ Some x → text.point at ≡ Some (y.place x) → f < length numbers →
      IsBoundIn bs (length (attributed_functions p) + q) (suc f ∷ []) → CallsBound (words bs) at check (y.entry f)

-- A well-formed program is loaded: a machine is a host for it, and the code of each function stands there.
pub record IsLoaded {M : Type 0} (access : Access M) (y : Layout) (machine : Machine M) (words : List Binding → ℕ → Option ℕ) (closed : (pc address : ℕ) → Bool) (budget far : ℕ) (p : Program) (numbers : List ℕ) : Type 0 where
  pub formed : IsWellFormed p
  pub host : IsHost access y machine words closed budget far p numbers
  pub functions : (f : ℕ) (g : Function) → slice_get p.functions f ≡ Some g → IsSelected y machine.text words closed p numbers f g
  pub check : ℕ
  pub pointed : ArePointed y machine.text words closed p numbers check

-- the same on a machine of which nothing is known of the worlds in which it is calm
pub record IsOpenlyLoaded {M : Type 0} (access : Access M) (y : Layout) (machine : Machine M) (words : List Binding → ℕ → Option ℕ) (closed : (pc address : ℕ) → Bool) (budget far : ℕ) (p : Program) (numbers : List ℕ) : Type 0 where
  pub formed : IsWellFormed p
  pub host : IsOpenHost access y machine words closed budget far p numbers
  pub functions : (f : ℕ) (g : Function) → slice_get p.functions f ≡ Some g → IsSelected y machine.text words closed p numbers f g
  pub check : ℕ
  pub pointed : ArePointed y machine.text words closed p numbers check
