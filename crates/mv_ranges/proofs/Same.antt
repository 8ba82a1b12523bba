-- What doesn't look at whether an index is promised to be below a number is the same of code with promises.
use Rattle.std.proofs.Common.{◌≡◌, ℕ, Bool, false, List, [], ◌∷◌, ◌++◌, map, refl, sym, ◌∙◌, ap, subst, Contains, arith}
use Rattle.mv_ir.specs.declared.tree.Tree.{Tree}
use Rattle.mv_ir.specs.declared.stm.Array.{Array}
use Rattle.mv_ir.specs.declared.stm.Array.TheVariants as array
use Rattle.mv_ir.specs.declared.stm.Stm.{Stm}
use Rattle.mv_ir.specs.declared.stm.Stm.TheOpen.{Stm-F}
use Rattle.mv_ir.specs.declared.stm.Stm.TheOpen as stm
use Rattle.mv_ir.specs.declared.stm.Stm.TheViews.{roll-Stm}
use Rattle.mv_ir.specs.declared.stm.Stm.TheFolds.{map-Stm}
use Rattle.mv_ir.specs.declared.body.Body.{Body}
use Rattle.mv_ir.specs.declared.body.Room.{Room}
use Rattle.mv_ir.specs.Measures.{joined, total, layer_trees, stm_trees, trees, tree_reads, scalars_read, array_read, layer_arrays, stm_arrays, arrays_read, layer_size, stm_size, statements, layer_calls, stm_calls, calls, tree_nodes, deepest_of, deepest}
use Rattle.mv_ir.specs.Trees.{nodes_of_all}
use Rattle.mv_ir.specs.Live.{Flow, layer_flow, flow, IsWhole, HasTemps}
use Rattle.mv_ir.specs.WellFormed.{all_true, all_around, layer_targets, stm_targets, layer_named, stm_named, named, has_room, is_there, layer_arguments, stm_arguments, IsWellFormed}
use Rattle.mv_ir.specs.Meaning.{unpromised}
use Rattle.mv_ir.proofs.Induction.{Each, StmChildren, stm_ind, stms_ind}
use Rattle.mv_ir.proofs.Rolls.{trees_roll, arrays_roll, size_roll, calls_roll, flow_roll, targets_roll, named_roll, arguments_roll}
use Rattle.mv_ir.proofs.Keeping.{map_append}
use Rattle.mv_ir.proofs.Living.{whole_kept, temps_kept}
use Rattle.mv_fold.specs.Folded.{IsNoGreater}
use Rattle.mv_ranges.specs.Plain.{plain_layer, plain_stm, plain_code}
use Rattle.mv_ranges.specs.Marked.{IsMarkedBody}
use Rattle.mv_ranges.proofs.Marks.{plain_roll}

-- ---- whatever is found of a statement by what is found of its parts, and is the same of an array and of the plain one

pub record Blind (X : Type 0) (layer : Stm-F X → X) (m : Stm → X) : Type 0 where
  pub roll : (x : Stm-F Stm) → m (roll-Stm x) ≡ layer (map-Stm Stm X m x)
  pub check : (a : Array) (i : Tree) → layer (stm.Check (unpromised a) i) ≡ layer (stm.Check a i)
  pub read : (t : ℕ) (a : Array) (i : Tree) → layer (stm.Read t (unpromised a) i) ≡ layer (stm.Read t a i)
  pub write : (a : Array) (i v : Tree) → layer (stm.Write (unpromised a) i v) ≡ layer (stm.Write a i v)

module _ (X : Type 0) (layer : Stm-F X → X) (m : Stm → X) (of : Blind X layer m) where
  abbrev One : Stm → Type 0
  One s = m (plain_stm s) ≡ m s

  ones : (code : List Stm) → Each One code → map m (plain_code code) ≡ map m code
  ones [] h = refl
  ones (s ∷ code) h = ap (λ x. x ∷ map m (plain_code code)) h.0 ∙ ap (λ l. m s ∷ l) (ones code h.1)

  layer_same : (x : Stm-F Stm) → StmChildren One x → m (plain_layer (map-Stm Stm Stm plain_stm x)) ≡ layer (map-Stm Stm X m x)
  layer_same (stm.Set t v) h = of.roll (stm.Set t v)
  layer_same (stm.SetGlobal g v) h = of.roll (stm.SetGlobal g v)
  layer_same (stm.Divide t o a b) h = of.roll (stm.Divide t o a b)
  layer_same (stm.Check a i) h = of.roll (stm.Check (unpromised a) i) ∙ of.check a i
  layer_same (stm.Read t a i) h = of.roll (stm.Read t (unpromised a) i) ∙ of.read t a i
  layer_same (stm.Write a i v) h = of.roll (stm.Write (unpromised a) i v) ∙ of.write a i v
  layer_same (stm.Zero l) h = of.roll (stm.Zero l)
  layer_same (stm.If t a b) h =
      of.roll (stm.If t (plain_code a) (plain_code b)) ∙ ap (λ l. layer (stm.If t l (map m (plain_code b)))) (ones a h.0) ∙ ap (λ l. layer (stm.If t (map m a) l)) (ones b h.1)
  layer_same (stm.Loop b) h = of.roll (stm.Loop (plain_code b)) ∙ ap (λ l. layer (stm.Loop l)) (ones b h)
  layer_same (stm.Block b) h = of.roll (stm.Block (plain_code b)) ∙ ap (λ l. layer (stm.Block l)) (ones b h)
  layer_same (stm.Break n) h = of.roll (stm.Break n)
  layer_same (stm.Back n) h = of.roll (stm.Back n)
  layer_same (stm.Call r f args) h = of.roll (stm.Call r f args)
  layer_same (stm.Known r k args) h = of.roll (stm.Known r k args)
  layer_same (stm.Return v) h = of.roll (stm.Return v)

  plain_same : (code : List Stm) → map m (plain_code code) ≡ map m code
  plain_same code = ones code (stms_ind One (stm_ind One (λ x h. ap m (plain_roll x) ∙ layer_same x h ∙ sym (of.roll x))) code)

  -- it is the same of code with promises
  pub same_of_all : (code result : List Stm) → plain_code result ≡ plain_code code → map m result ≡ map m code
  same_of_all code result e = sym (plain_same result) ∙ ap (map m) e ∙ plain_same code

-- ---- trees, and what is counted

trees_blind : Blind (List Tree) layer_trees stm_trees
trees_blind = record { roll = trees_roll; check = λ a i. refl; read = λ t a i. refl; write = λ a i v. refl }

size_blind : Blind ℕ layer_size stm_size
size_blind = record { roll = size_roll; check = λ a i. refl; read = λ t a i. refl; write = λ a i v. refl }

calls_blind : Blind ℕ layer_calls stm_calls
calls_blind = record { roll = calls_roll; check = λ a i. refl; read = λ t a i. refl; write = λ a i v. refl }

plain_read : (a : Array) → array_read (unpromised a) ≡ array_read a
plain_read (array.Global g) = refl
plain_read (array.Local l) = refl
plain_read (array.SureGlobal g n) = refl
plain_read (array.SureLocal l n) = refl

arrays_blind : Blind (List ℕ) layer_arrays stm_arrays
arrays_blind = record { roll = arrays_roll; check = λ a i. refl; read = λ t a i. plain_read a; write = λ a i v. refl }

module _ (code result : List Stm) (e : plain_code result ≡ plain_code code) where
  pub same_trees : trees result ≡ trees code
  same_trees = ap joined (same_of_all (List Tree) layer_trees stm_trees trees_blind code result e)

  same_scalars : scalars_read result ≡ scalars_read code
  same_scalars = ap (λ ts. joined (map tree_reads ts)) same_trees

  same_arrays : arrays_read result ≡ arrays_read code
  same_arrays = ap joined (same_of_all (List ℕ) layer_arrays stm_arrays arrays_blind code result e)

  same_statements : statements result ≡ statements code
  same_statements = ap total (same_of_all ℕ layer_size stm_size size_blind code result e)

  same_calls : calls result ≡ calls code
  same_calls = ap total (same_of_all ℕ layer_calls stm_calls calls_blind code result e)

  pub same_nodes : tree_nodes result ≡ tree_nodes code
  same_nodes = ap nodes_of_all same_trees

  same_depth : deepest result ≡ deepest code
  same_depth = ap deepest_of same_trees

  pub marked_no_greater : IsNoGreater code result
  marked_no_greater = record {
    scalars = λ g. subst (λ l. Contains l g) same_scalars;
    arrays = λ g. subst (λ l. Contains l g) same_arrays;
    deepest = omega (arith, same_depth);
    statements = omega (arith, same_statements);
    tree_nodes = omega (arith, same_nodes);
    calls = omega (arith, same_calls);
  }

-- ---- arrays that are named

plain_there : (rooms : List Room) (sizes : List ℕ) (a : Array) → is_there rooms sizes (unpromised a) ≡ is_there rooms sizes a
plain_there rooms sizes (array.Global g) = refl
plain_there rooms sizes (array.Local l) = refl
plain_there rooms sizes (array.SureGlobal g n) = refl
plain_there rooms sizes (array.SureLocal l n) = refl

all_there : (rooms : List Room) (sizes : List ℕ) (xs : List Array) → map (is_there rooms sizes) (map unpromised xs) ≡ map (is_there rooms sizes) xs
all_there rooms sizes [] = refl
all_there rooms sizes (a ∷ xs) = ap (λ b. b ∷ map (is_there rooms sizes) (map unpromised xs)) (plain_there rooms sizes a) ∙ ap (λ l. is_there rooms sizes a ∷ l) (all_there rooms sizes xs)

abbrev plain_named : List Stm → List Array
plain_named code = map unpromised (named code)

abbrev NamedAlike : Stm → Type 0
NamedAlike s = map unpromised (stm_named (plain_stm s)) ≡ map unpromised (stm_named s)

named_more : (xs ys : List Array) → map unpromised (xs ++ ys) ≡ map unpromised xs ++ map unpromised ys
named_more xs ys = map_append unpromised xs ys

alike_all : (code : List Stm) → Each NamedAlike code → plain_named (plain_code code) ≡ plain_named code
alike_all [] h = refl
alike_all (s ∷ code) h =
    named_more (stm_named (plain_stm s)) (named (plain_code code)) ∙ ap (λ l. l ++ plain_named (plain_code code)) h.0
    ∙ ap (λ l. map unpromised (stm_named s) ++ l) (alike_all code h.1) ∙ sym (named_more (stm_named s) (named code))

plain_twice : (a : Array) → unpromised (unpromised a) ≡ unpromised a
plain_twice (array.Global g) = refl
plain_twice (array.Local l) = refl
plain_twice (array.SureGlobal g n) = refl
plain_twice (array.SureLocal l n) = refl

abbrev layer_plain_named : Stm-F Stm → List Array
layer_plain_named x = map unpromised (layer_named (map-Stm Stm (List Array) stm_named x))

one_named : (x : Stm-F Stm) → map unpromised (stm_named (roll-Stm x)) ≡ layer_plain_named x
one_named x = ap (map unpromised) (named_roll x)

layer_alike : (x : Stm-F Stm) → StmChildren NamedAlike x → map unpromised (stm_named (plain_layer (map-Stm Stm Stm plain_stm x))) ≡ layer_plain_named x
layer_alike (stm.Set t v) h = one_named (stm.Set t v)
layer_alike (stm.SetGlobal g v) h = one_named (stm.SetGlobal g v)
layer_alike (stm.Divide t o a b) h = one_named (stm.Divide t o a b)
layer_alike (stm.Check a i) h = one_named (stm.Check (unpromised a) i) ∙ ap (λ z. z ∷ []) (plain_twice a)
layer_alike (stm.Read t a i) h = one_named (stm.Read t (unpromised a) i) ∙ ap (λ z. z ∷ []) (plain_twice a)
layer_alike (stm.Write a i v) h = one_named (stm.Write (unpromised a) i v) ∙ ap (λ z. z ∷ []) (plain_twice a)
layer_alike (stm.Zero l) h = one_named (stm.Zero l)
layer_alike (stm.If t a b) h =
    one_named (stm.If t (plain_code a) (plain_code b)) ∙ named_more (named (plain_code a)) (named (plain_code b)) ∙ ap (λ l. l ++ plain_named (plain_code b)) (alike_all a h.0)
    ∙ ap (λ l. plain_named a ++ l) (alike_all b h.1) ∙ sym (named_more (named a) (named b))
layer_alike (stm.Loop b) h = one_named (stm.Loop (plain_code b)) ∙ alike_all b h
layer_alike (stm.Block b) h = one_named (stm.Block (plain_code b)) ∙ alike_all b h
layer_alike (stm.Break n) h = one_named (stm.Break n)
layer_alike (stm.Back n) h = one_named (stm.Back n)
layer_alike (stm.Call r f args) h = one_named (stm.Call r f args)
layer_alike (stm.Known r k args) h = one_named (stm.Known r k args)
layer_alike (stm.Return v) h = one_named (stm.Return v)

named_alike : (code : List Stm) → plain_named (plain_code code) ≡ plain_named code
named_alike code =
    alike_all code (stms_ind NamedAlike (stm_ind NamedAlike (λ x h. ap (λ s. map unpromised (stm_named s)) (plain_roll x) ∙ layer_alike x h ∙ sym (one_named x))) code)

same_there : (rooms : List Room) (sizes : List ℕ) (code result : List Stm) → plain_code result ≡ plain_code code →
    map (is_there rooms sizes) (named result) ≡ map (is_there rooms sizes) (named code)
same_there rooms sizes code result e =
    let arrays = sym (named_alike result) ∙ ap plain_named e ∙ named_alike code in
    sym (all_there rooms sizes (named result)) ∙ ap (map (is_there rooms sizes)) arrays ∙ all_there rooms sizes (named code)

-- ---- bodies

flow_blind : (t : ℕ) → Blind Flow (layer_flow t) (flow t)
flow_blind t = record { roll = flow_roll t; check = λ a i. refl; read = λ u a i. refl; write = λ a i v. refl }

targets_blind : Blind (List Bool → Bool) layer_targets stm_targets
targets_blind = record { roll = targets_roll; check = λ a i. refl; read = λ t a i. refl; write = λ a i v. refl }

arguments_blind : Blind Bool layer_arguments stm_arguments
arguments_blind = record { roll = arguments_roll; check = λ a i. refl; read = λ t a i. refl; write = λ a i v. refl }

module _ (body result : Body) (h : IsMarkedBody body result) where
  same_flows : (t : ℕ) → map (flow t) result.code ≡ map (flow t) body.code
  same_flows t = same_of_all Flow (layer_flow t) (flow t) (flow_blind t) body.code result.code h.code

  pub marked_whole : IsWhole body → IsWhole result
  marked_whole = whole_kept body result same_flows h.params h.temps

  pub marked_has_temps : HasTemps body → HasTemps result
  marked_has_temps = temps_kept body result same_flows h.params h.temps

  pub marked_well_formed : IsWellFormed body → IsWellFormed result
  marked_well_formed formed = record {
    temps = marked_has_temps formed.temps;
    params = (let params = h.params in omega (arith, params, formed.params));
    targets = ap (λ ts. all_around ts (false ∷ [])) (same_of_all (List Bool → Bool) layer_targets stm_targets targets_blind body.code result.code h.code) ∙ formed.targets;
    named =
        ap (λ rooms. all_true (map (is_there rooms result.arrays) (named result.code))) h.rooms
        ∙ ap (λ sizes. all_true (map (is_there body.rooms sizes) (named result.code))) h.sizes
        ∙ ap all_true (same_there body.rooms body.arrays body.code result.code h.code) ∙ formed.named;
    read =
        ap (λ rooms. all_true (map (has_room rooms) (scalars_read result.code))) h.rooms
        ∙ ap (λ l. all_true (map (has_room body.rooms) l)) (same_scalars body.code result.code h.code) ∙ formed.read;
    arguments = ap all_true (same_of_all Bool layer_arguments stm_arguments arguments_blind body.code result.code h.code) ∙ formed.arguments;
    size = (let statements = same_statements body.code result.code h.code in let nodes = same_nodes body.code result.code h.code in omega (arith, statements, nodes, formed.size));
  }
