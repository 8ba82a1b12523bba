-- Code with plainer trees is as good as it was.
use Rattle.std.proofs.Common.{arith, ◌≡◌, suc, false, nat_lt, nat_eq, List, [], ◌∷◌, ◌++◌, length, map, Some, None, refl, sym, ◌∙◌, ap, subst}
use Rattle.mv_ir.specs.declared.tree.Tree.{Tree}
use Rattle.mv_ir.specs.declared.stm.Callee.{Callee}
use Rattle.mv_ir.specs.declared.stm.Callee.TheVariants as callee
use Rattle.mv_ir.specs.declared.stm.Stm.{Stm}
use Rattle.mv_ir.specs.declared.stm.Stm.TheOpen.{Stm-F}
use Rattle.mv_ir.specs.declared.stm.Stm.TheOpen as stm
use Rattle.mv_ir.specs.declared.stm.Stm.TheViews.{roll-Stm}
use Rattle.mv_ir.specs.declared.body.Body.{Body}
use Rattle.mv_ir.specs.World.{Setting, Frame}
use Rattle.mv_ir.specs.Outcome.{Meaning}
use Rattle.mv_ir.specs.Meaning.{meaning}
use Rattle.mv_ir.specs.Measures.{callee_trees, callee_read}
use Rattle.mv_ir.specs.Live.{any_reads}
use Rattle.mv_ir.specs.WellFormed.{callee_named, known_arguments}
use Rattle.mv_ir.specs.Keeps.{KeepsMeaning, KeepsBody}
use Rattle.mv_ir.proofs.Joining.{any_reads_append}
use Rattle.mv_ir.proofs.Keeping.{run_refl, Between, between_append, between_one, layer_means, body_between}
use Rattle.mv_ir.proofs.Alike.{SameTree, SameTrees, SameCallee, set_alike, set_global_alike, divide_alike, check_alike, read_alike, write_alike, if_alike, loop_alike, block_alike, call_alike, known_alike, return_alike}
use Rattle.mv_fold.proofs.Within.{Among, none_among, Less, less_refl, with, less_with, of_trees, of_trees_append, Within, within_append, no_greater}
use Rattle.mv_fold.proofs.FoldedWithin.{TreesLess, cons_less, leaf, inside, loop_amount, block_amount, if_within}
use Rattle.mv_fold.proofs.Thinner.{ReadsLess, plain_thins, on_nothing, if_thins, loop_thins, block_thins, thinner_append, thinner_none, thinner_body, or_both}
use Rattle.mv_fold.proofs.FoldedThinner.{every, Thinner, same as stays, thin_one, next_thins}
use Rattle.mv_fold.proofs.WellFormed.{Kept, keep_refl, kept_append, alike, if_kept, loop_kept, block_kept, asked, with_arguments, code_well_formed}
use Rattle.mv_plain.specs.Plain.{Plainer, itself, ArePlainer, no_trees, more_trees, IsPlainerCallee, same_callee, through, PlainCode, no_code, more_code, PlainStm, as_was, set, set_global, divide, check, read, write, choice, turns, block, call, known, return}
use Rattle.mv_plain.proofs.AsGood.{IsAsGood}
use Rattle.mv_plain.proofs.PlainKept.{plainer_less, plainer_reads, same_tree}

-- ---- what it means

module _ (setting : Setting) (frame : Frame) where
  abbrev K : List Stm → List Stm → Type 0
  K = Between setting frame frame

  abbrev m : Stm → Meaning
  m = meaning setting frame

  same : (t u : Tree) → Plainer t u → SameTree setting.numbers frame.bound frame.bound t u
  same = same_tree setting.numbers frame.bound

  abbrev Alike : List Tree → List Tree → Type 0
  Alike = SameTrees setting frame.depth frame.live frame.bound frame.bound

  abbrev AlikeCallee : Callee → Callee → Type 0
  AlikeCallee = SameCallee setting frame.depth frame.live frame.bound frame.bound

  same_trees : (ts us : List Tree) → ArePlainer ts us → Alike ts us
  same_trees ts us no_trees = tt
  same_trees ts us (more_trees x y xs ys h k) = (same x y h, same_trees xs ys k)

  itself_alike : (f : Callee) → AlikeCallee f f
  itself_alike (callee.Direct f) = refl
  itself_alike (callee.Through t) = same t t (itself t)
  itself_alike (callee.Switched g) = refl
  itself_alike callee.Expanded = tt

  callee_alike : (f g : Callee) → IsPlainerCallee f g → AlikeCallee f g
  callee_alike f g (same_callee x) = itself_alike x
  callee_alike f g (through t u h) = same t u h

  abbrev one : (x y : Stm-F Stm) → KeepsMeaning (layer_means setting frame x) (layer_means setting frame y) → K (roll-Stm x ∷ []) (roll-Stm y ∷ [])
  one = between_one setting frame frame

  mutual
    code_kept : (xs ys : List Stm) → PlainCode xs ys → K xs ys
    code_kept xs ys no_code = λ bound s. run_refl _
    code_kept xs ys (more_code x y more rest h k) = between_append setting frame frame (x ∷ []) (y ∷ []) more rest (stm_kept x y h) (code_kept more rest k)

    stm_kept : (x y : Stm) → PlainStm x y → K (x ∷ []) (y ∷ [])
    stm_kept x y (as_was s) = λ bound st. run_refl _
    stm_kept x y (set t v w h) = one (stm.Set t v) (stm.Set t w) (set_alike setting frame.depth frame.live frame.bound frame.bound t v w (same v w h))
    stm_kept x y (set_global g v w h) =
        one (stm.SetGlobal g v) (stm.SetGlobal g w) (set_global_alike setting frame.depth frame.live frame.bound frame.bound g v w (same v w h))
    stm_kept x y (divide t o a a' b b' h k) =
        one (stm.Divide t o a b) (stm.Divide t o a' b')
        (divide_alike setting frame.depth frame.live frame.bound frame.bound t o a a' b b' (same a a' h) (same b b' k))
    stm_kept x y (check r i j h) = one (stm.Check r i) (stm.Check r j) (check_alike setting frame.depth frame.live frame.bound frame.bound r i j (same i j h))
    stm_kept x y (read t r i j h) =
        one (stm.Read t r i) (stm.Read t r j) (read_alike setting frame.depth frame.live frame.bound frame.bound t r i j (same i j h))
    stm_kept x y (write r i j v w h k) =
        one (stm.Write r i v) (stm.Write r j w) (write_alike setting frame.depth frame.live frame.bound frame.bound r i j v w (same i j h) (same v w k))
    stm_kept x y (choice t u a a' b b' h k l) =
        one (stm.If t a b) (stm.If u a' b')
        (if_alike setting frame.depth frame.live frame.bound frame.bound t u (map m a) (map m a') (map m b) (map m b') (same t u h) (code_kept a a' k)
        (code_kept b b' l))
    stm_kept x y (turns b b' h) =
        one (stm.Loop b) (stm.Loop b') (loop_alike setting frame.depth frame.live frame.bound frame.bound (map m b) (map m b') (code_kept b b' h))
    stm_kept x y (block b b' h) =
        one (stm.Block b) (stm.Block b') (block_alike setting frame.depth frame.live frame.bound frame.bound (map m b) (map m b') (code_kept b b' h))
    stm_kept x y (call r f f' ts us h k) =
        one (stm.Call r f ts) (stm.Call r f' us)
        (call_alike setting frame.depth frame.live frame.bound frame.bound r f f' ts us (callee_alike f f' h) (same_trees ts us k))
    stm_kept x y (known r k ts us h) =
        one (stm.Known r k ts) (stm.Known r k us) (known_alike setting frame.depth frame.live frame.bound frame.bound r k ts us (same_trees ts us h))
    stm_kept x y (return v w h) = one (stm.Return v) (stm.Return w) (return_alike setting frame.depth frame.live frame.bound frame.bound v w (same v w h))

plain_keeps : (b : Body) (code : List Stm) → PlainCode b.code code → KeepsBody b (record b { code = code })
plain_keeps b code k setting frame = body_between setting frame frame b (record b { code = code }) refl refl (code_kept setting frame b.code code k)

-- ---- what there is in it

one_less : (t u : Tree) → Plainer t u → TreesLess (u ∷ []) (t ∷ [])
one_less t u h = cons_less u t [] [] (plainer_less t u h) (less_refl _)

two_less : (a a' b b' : Tree) → Plainer a a' → Plainer b b' → TreesLess (a' ∷ b' ∷ []) (a ∷ b ∷ [])
two_less a a' b b' h k = cons_less a' a (b' ∷ []) (b ∷ []) (plainer_less a a' h) (one_less b b' k)

many_less : (ts us : List Tree) → ArePlainer ts us → TreesLess us ts
many_less ts us no_trees = less_refl _
many_less ts us (more_trees x y xs ys h k) = cons_less y x ys xs (plainer_less x y h) (many_less xs ys k)

callee_less : (f g : Callee) → IsPlainerCallee f g → TreesLess (callee_trees g) (callee_trees f)
callee_less f g (same_callee x) = less_refl _
callee_less f g (through t u h) = one_less t u h

call_less : (f g : Callee) (ts us : List Tree) → IsPlainerCallee f g → ArePlainer ts us → TreesLess (callee_trees g ++ us) (callee_trees f ++ ts)
call_less f g ts us h k =
    subst (λ a. Less a (of_trees (callee_trees f ++ ts))) (sym (of_trees_append (callee_trees g) us))
    (subst (Less (with (of_trees (callee_trees g)) (of_trees us))) (sym (of_trees_append (callee_trees f) ts))
    (less_with (of_trees (callee_trees g)) (of_trees (callee_trees f)) (of_trees us) (of_trees ts) (callee_less f g h) (many_less ts us k)))

callee_among : (f g : Callee) → IsPlainerCallee f g → Among (callee_read g) (callee_read f)
callee_among f g (same_callee x) = λ k c. c
callee_among f g (through t u h) = none_among []

mutual
  code_within : (xs ys : List Stm) → PlainCode xs ys → Within xs ys
  code_within xs ys no_code = less_refl _
  code_within xs ys (more_code x y more rest h k) = within_append (x ∷ []) (y ∷ []) more rest (stm_within x y h) (code_within more rest k)

  stm_within : (x y : Stm) → PlainStm x y → Within (x ∷ []) (y ∷ [])
  stm_within x y (as_was s) = less_refl _
  stm_within x y (set t v w h) = leaf (stm.Set t v) (stm.Set t w) (one_less v w h) (omega arith) (omega arith) (none_among [])
  stm_within x y (set_global g v w h) = leaf (stm.SetGlobal g v) (stm.SetGlobal g w) (one_less v w h) (omega arith) (omega arith) (none_among [])
  stm_within x y (divide t o a a' b b' h k) =
      leaf (stm.Divide t o a b) (stm.Divide t o a' b') (two_less a a' b b' h k) (omega arith) (omega arith) (none_among [])
  stm_within x y (check r i j h) = leaf (stm.Check r i) (stm.Check r j) (one_less i j h) (omega arith) (omega arith) (none_among [])
  stm_within x y (read t r i j h) = leaf (stm.Read t r i) (stm.Read t r j) (one_less i j h) (omega arith) (omega arith) (λ g c. c)
  stm_within x y (write r i j v w h k) = leaf (stm.Write r i v) (stm.Write r j w) (two_less i j v w h k) (omega arith) (omega arith) (none_among [])
  stm_within x y (choice t u a a' b b' h k l) = if_within t u a a' b b' (plainer_less t u h) (code_within a a' k) (code_within b b' l)
  stm_within x y (turns b b' h) = inside (stm.Loop b) (stm.Loop b') b b' (loop_amount b) (loop_amount b') (code_within b b' h)
  stm_within x y (block b b' h) = inside (stm.Block b) (stm.Block b') b b' (block_amount b) (block_amount b') (code_within b b' h)
  stm_within x y (call r f f' ts us h k) =
      leaf (stm.Call r f ts) (stm.Call r f' us) (call_less f f' ts us h k) (omega arith) (omega arith) (callee_among f f' h)
  stm_within x y (known r k ts us h) = leaf (stm.Known r k ts) (stm.Known r k us) (many_less ts us h) (omega arith) (omega arith) (none_among [])
  stm_within x y (return v w h) = leaf (stm.Return v) (stm.Return w) (one_less v w h) (omega arith) (omega arith) (none_among [])

-- ---- where temporaries are live

abbrev Fewer : List Tree → List Tree → Type 0
Fewer = ReadsLess every

many_fewer : (ts us : List Tree) → ArePlainer ts us → Fewer ts us
many_fewer ts us no_trees = λ t e. (e, refl)
many_fewer ts us (more_trees x y xs ys h k) = λ t e. (or_both _ _ _ _ (λ v. (plainer_reads x y h t v).0) (λ v. (many_fewer xs ys k t v).0) e, refl)

one_fewer : (t u : Tree) → Plainer t u → Fewer (t ∷ []) (u ∷ [])
one_fewer t u h = many_fewer (t ∷ []) (u ∷ []) (more_trees t u [] [] h no_trees)

two_fewer : (a a' b b' : Tree) → Plainer a a' → Plainer b b' → Fewer (a ∷ b ∷ []) (a' ∷ b' ∷ [])
two_fewer a a' b b' h k = many_fewer (a ∷ b ∷ []) (a' ∷ b' ∷ []) (more_trees a a' (b ∷ []) (b' ∷ []) h (more_trees b b' [] [] k no_trees))

callee_fewer : (f g : Callee) → IsPlainerCallee f g → Fewer (callee_trees f) (callee_trees g)
callee_fewer f g (same_callee x) = λ t e. (e, refl)
callee_fewer f g (through t u h) = one_fewer t u h

call_fewer : (f g : Callee) (ts us : List Tree) → IsPlainerCallee f g → ArePlainer ts us → Fewer (callee_trees f ++ ts) (callee_trees g ++ us)
call_fewer f g ts us h k t e = (
  any_reads_append t (callee_trees f) ts ∙
      or_both (any_reads t (callee_trees f)) (any_reads t ts) (any_reads t (callee_trees g)) (any_reads t us) (λ v. (callee_fewer f g h t v).0)
      (λ v. (many_fewer ts us k t v).0)
      (sym (any_reads_append t (callee_trees g) us) ∙ e),
  refl,
)

mutual
  code_thin : (xs ys : List Stm) → PlainCode xs ys → Thinner xs ys
  code_thin xs ys no_code = thinner_none every
  code_thin xs ys (more_code x y more rest h k) = thinner_append every (x ∷ []) (y ∷ []) more rest (stm_thin x y h) (code_thin more rest k)

  stm_thin : (x y : Stm) → PlainStm x y → Thinner (x ∷ []) (y ∷ [])
  stm_thin x y (as_was s) = stays s
  stm_thin x y (set t v w h) = thin_one (stm.Set t v) (stm.Set t w) (next_thins (v ∷ []) (w ∷ []) (Some t) (one_fewer v w h))
  stm_thin x y (set_global g v w h) = thin_one (stm.SetGlobal g v) (stm.SetGlobal g w) (next_thins (v ∷ []) (w ∷ []) None (one_fewer v w h))
  stm_thin x y (divide t o a a' b b' h k) =
      thin_one (stm.Divide t o a b) (stm.Divide t o a' b') (next_thins (a ∷ b ∷ []) (a' ∷ b' ∷ []) (Some t) (two_fewer a a' b b' h k))
  stm_thin x y (check r i j h) = thin_one (stm.Check r i) (stm.Check r j) (next_thins (i ∷ []) (j ∷ []) None (one_fewer i j h))
  stm_thin x y (read t r i j h) = thin_one (stm.Read t r i) (stm.Read t r j) (next_thins (i ∷ []) (j ∷ []) (Some t) (one_fewer i j h))
  stm_thin x y (write r i j v w h k) = thin_one (stm.Write r i v) (stm.Write r j w) (next_thins (i ∷ v ∷ []) (j ∷ w ∷ []) None (two_fewer i j v w h k))
  stm_thin x y (choice t u a a' b b' h k l) = if_thins every t u a a' b b' (plainer_reads t u h) (code_thin a a' k) (code_thin b b' l)
  stm_thin x y (turns b b' h) = loop_thins every b b' (code_thin b b' h)
  stm_thin x y (block b b' h) = block_thins every b b' (code_thin b b' h)
  stm_thin x y (call r f f' ts us h k) =
      thin_one (stm.Call r f ts) (stm.Call r f' us) (next_thins (callee_trees f ++ ts) (callee_trees f' ++ us) r (call_fewer f f' ts us h k))
  stm_thin x y (known r k ts us h) = thin_one (stm.Known r k ts) (stm.Known r k us) (next_thins ts us r (many_fewer ts us h))
  stm_thin x y (return v w h) =
      thin_one (stm.Return v) (stm.Return w) (plain_thins every (v ∷ []) (w ∷ []) None (λ r. false) (one_fewer v w h) (on_nothing every))

-- ---- what is asked of code

same_length : (ts us : List Tree) → ArePlainer ts us → length ts ≡ length us
same_length ts us no_trees = refl
same_length ts us (more_trees x y xs ys h k) = ap suc (same_length xs ys k)

same_named : (f g : Callee) → IsPlainerCallee f g → callee_named g ≡ callee_named f
same_named f g (same_callee x) = refl
same_named f g (through t u h) = refl

mutual
  code_asked : (xs ys : List Stm) → PlainCode xs ys → Kept xs ys
  code_asked xs ys no_code = keep_refl _
  code_asked xs ys (more_code x y more rest h k) = kept_append (x ∷ []) (y ∷ []) more rest (stm_asked x y h) (code_asked more rest k)

  stm_asked : (x y : Stm) → PlainStm x y → Kept (x ∷ []) (y ∷ [])
  stm_asked x y (as_was s) = keep_refl _
  stm_asked x y (set t v w h) = alike (stm.Set t v) (stm.Set t w) refl
  stm_asked x y (set_global g v w h) = alike (stm.SetGlobal g v) (stm.SetGlobal g w) refl
  stm_asked x y (divide t o a a' b b' h k) = alike (stm.Divide t o a b) (stm.Divide t o a' b') refl
  stm_asked x y (check r i j h) = alike (stm.Check r i) (stm.Check r j) refl
  stm_asked x y (read t r i j h) = alike (stm.Read t r i) (stm.Read t r j) refl
  stm_asked x y (write r i j v w h k) = alike (stm.Write r i v) (stm.Write r j w) refl
  stm_asked x y (choice t u a a' b b' h k l) = if_kept t u a a' b b' (code_asked a a' k) (code_asked b b' l)
  stm_asked x y (turns b b' h) = loop_kept b b' (code_asked b b' h)
  stm_asked x y (block b b' h) = block_kept b b' (code_asked b b' h)
  stm_asked x y (call r f f' ts us h k) =
      with_arguments (stm.Call r f ts) (stm.Call r f' us) (λ n. nat_lt n 9) (callee_named f) (length ts) (length us) refl
      (ap (asked (λ n. nat_lt n 9) (length us)) (same_named f f' h)) (same_length ts us k)
  stm_asked x y (known r k ts us h) =
      with_arguments (stm.Known r k ts) (stm.Known r k us) (λ n. nat_eq n (known_arguments k)) [] (length ts) (length us) refl refl (same_length ts us h)
  stm_asked x y (return v w h) = alike (stm.Return v) (stm.Return w) refl

-- ---- bodies

pub plain_good : (b : Body) (code : List Stm) → PlainCode b.code code → IsAsGood b code
plain_good b code k =
    let less = no_greater b.code code (code_within b.code code k) in
    let thinner = thinner_body every b code (code_thin b.code code k) in
    record {
      means = plain_keeps b code k;
      smaller = less;
      whole = thinner.whole;
      has_temps = thinner.has_temps;
      well_formed = code_well_formed b code (code_asked b.code code k) thinner.has_temps less;
    }
