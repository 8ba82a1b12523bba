-- A temporary that no tree reads and no statement writes is live and marked nowhere.
use Rattle.std.proofs.Common.{◌≡◌, ℕ, zero, suc, Bool, true, false, not, ◌&&◌, ◌||◌, List, [], ◌∷◌, ◌++◌, map, Option, Some, None, refl, sym, ◌∙◌}
use Rattle.std.proofs.lemmas.Bool.{or_from, or_parts, and_right}
use Rattle.mv_ir.specs.declared.tree.Tree.{Tree}
use Rattle.mv_ir.specs.declared.stm.Stm.{Stm}
use Rattle.mv_ir.specs.declared.stm.Stm.TheOpen.{Stm-F}
use Rattle.mv_ir.specs.declared.stm.Stm.TheOpen as stm
use Rattle.mv_ir.specs.declared.stm.Stm.TheViews.{roll-Stm}
use Rattle.mv_ir.specs.Live.{reads_temp, any_reads, is, at_place, Around, with_after, around_block, around_loop, live_at_loop, plain, goes_next, flow}
use Rattle.mv_ir.proofs.Rolls.{flow_roll}
use Rattle.mv_lower_spec.specs.Lowered.{choose}
use Rattle.mv_lower_spec.specs.Statements.{repeat, enclosed}
use Rattle.mv_lower_spec.proofs.OfShape.Rules.{Allowed, Rules, BlockRules, IsAllowed, result}
use Rattle.mv_ir.proofs.Joining.{any_reads_append, any_append}
use Rattle.mv_lower_spec.proofs.OfShape.Flowing.{live_at, marks_at, live_append, marked_append, live_one, marked_one, temp_reads, global_reads, another, not_true}
use Rattle.mv_ast.specs.Names.{any_of}

-- around code behind which a temporary is nowhere live
pub record IsQuiet (r : Around) : Type 0 where
  pub next : r.next ≡ false
  pub leaves : (n : ℕ) → r.leaves n ≡ false
  pub restarts : (n : ℕ) → r.restarts n ≡ false

quiet_after : (r : Around) (b : Bool) → b ≡ false → IsQuiet r → IsQuiet (with_after r b)
quiet_after r b e q = record { next = e; leaves = q.leaves; restarts = q.restarts }

quiet_place : (b : Bool) (f : ℕ → Bool) → b ≡ false → ((n : ℕ) → f n ≡ false) → (n : ℕ) → at_place b f n ≡ false
quiet_place b f e h zero = e
quiet_place b f e h (suc n) = h n

quiet_block : (r : Around) → IsQuiet r → IsQuiet (around_block r)
quiet_block r q = record { next = q.next; leaves = quiet_place r.next r.leaves q.next q.leaves; restarts = quiet_place false r.restarts refl q.restarts }

quiet_loop : (r : Around) (start : Bool) → start ≡ false → IsQuiet r → IsQuiet (around_loop r start)
quiet_loop r start e q = record { next = e; leaves = quiet_place r.next r.leaves q.next q.leaves; restarts = quiet_place start r.restarts e q.restarts }

module _ (u : ℕ) where
  -- neither live nor marked in code, where the trees before it don't read it; nor read by the trees behind
  pub record Unused (s w t k : ℕ) (ts : List Tree) (xs : List Stm) (us : List Tree) : Type 0 where
    pub left : any_reads u ts ≡ false → any_reads u us ≡ false
    pub dead : any_reads u ts ≡ false → (r : Around) → IsQuiet r → live_at u xs r ≡ false
    pub bare : any_reads u ts ≡ false → (r : Around) → IsQuiet r → any_of (marks_at u xs r) ≡ false

  reads_less : (ts us : List Tree) → (any_reads u us ≡ true → any_reads u ts ≡ true) → any_reads u ts ≡ false → any_reads u us ≡ false
  reads_less ts us h e = not_true (any_reads u us) (λ t. absurd (no_both (sym (h t) ∙ e)))
    where
      no_both : true ≡ false → ⊥
      no_both e = cc

  chained : {s w t k s' w' t' k' m o n l : ℕ} {xs ys : List Stm} {ts us vs : List Tree} → Unused s w t k ts xs us → Unused s' w' t' k' us ys vs → Unused m o n l ts (xs ++ ys) vs
  chained {xs = xs} {ys = ys} h h' = record {
    left = λ e. h'.left (h.left e);
    dead = λ e r q. let d = h'.dead (h.left e) r q in live_append u xs ys r ∙ h.dead e (with_after r (live_at u ys r)) (quiet_after r (live_at u ys r) d q);
    bare = λ e r q.
        let d = h'.dead (h.left e) r q in
        marked_append u xs ys r ∙ or_from (any_of (marks_at u xs (with_after r (live_at u ys r)))) (any_of (marks_at u ys r)) (h.bare e (with_after r (live_at u ys r)) (quiet_after r (live_at u ys r) d q)) (h'.bare (h.left e) r q);
  }

  chosen : {s w t k s' w' t' k' m o n l : ℕ} {ys zs : List Stm} {us : List Tree} (x : Tree) → Unused s w t k [] ys us → Unused s' w' t' k' [] zs us → Unused m o n l (x ∷ []) (choose x ys zs ∷ []) us
  chosen {ys = ys} {zs = zs} x h h' = record {
    left = λ e. h.left refl;
    dead = λ e r q. live_one u (stm.If x ys zs) _ r (flow_roll u (stm.If x ys zs)) ∙ dead_here e r q;
    bare = λ e r q.
        marked_one u (stm.If x ys zs) _ r (flow_roll u (stm.If x ys zs)) ∙
        or_from (reads_temp u x || (live_at u ys r || live_at u zs r)) (any_of (marks_at u ys r ++ marks_at u zs r)) (dead_here e r q)
        (any_append (marks_at u ys r) (marks_at u zs r) ∙ or_from (any_of (marks_at u ys r)) (any_of (marks_at u zs r)) (h.bare refl r q) (h'.bare refl r q));
  }
    where
      dead_here : any_reads u (x ∷ []) ≡ false → (r : Around) → IsQuiet r → (reads_temp u x || (live_at u ys r || live_at u zs r)) ≡ false
      dead_here e r q =
          or_from (reads_temp u x) (live_at u ys r || live_at u zs r) (or_parts (reads_temp u x) false e).0 (or_from (live_at u ys r) (live_at u zs r) (h.dead refl r q) (h'.dead refl r q))

  -- a statement without others in it
  alone : {m o n l : ℕ} {us : List Tree} (x : Stm-F Stm) (reads : List Tree) (writes : Option ℕ) (on : Around → Bool) → flow u (roll-Stm x) ≡ plain u reads writes on → is writes u ≡ false →
      ((r : Around) → IsQuiet r → on r ≡ false) → any_reads u us ≡ false → Unused m o n l reads (roll-Stm x ∷ []) us
  alone x reads writes on e w quiet left = record {
    left = λ h. left;
    dead = λ h r q. live_one u x (plain u reads writes on) r e ∙ dead_here h r q;
    bare = λ h r q.
        marked_one u x (plain u reads writes on) r e ∙
        or_from ((any_reads u reads || (not (is writes u) && on r)) || is writes u) false (or_from (any_reads u reads || (not (is writes u) && on r)) (is writes u) (dead_here h r q) w) refl;
  }
    where
      dead_here : any_reads u reads ≡ false → (r : Around) → IsQuiet r → (any_reads u reads || (not (is writes u) && on r)) ≡ false
      dead_here h r q = or_from (any_reads u reads) (not (is writes u) && on r) h (and_right (not (is writes u)) (on r) (quiet r q))

  module _ (a : Allowed) (unused : a.temps u ≡ false) where
    writes_another : (w : Option ℕ) → IsAllowed a w → is w u ≡ false
    writes_another None h = refl
    writes_another (Some t) h = another a.temps t u h unused

    result_another : (w : Option ℕ) → IsAllowed a w → any_reads u (result w) ≡ false
    result_another None h = refl
    result_another (Some t) h = temp_reads u t ∙ another a.temps t u h unused

    pub unused_rules : Rules a Unused
    unused_rules = record {
      local = λ l h k. record { left = λ e. temp_reads u l ∙ another a.temps l u k unused; dead = λ e r q. q.next; bare = λ e r q. refl };
      scalar = λ g h. record { left = λ e. global_reads u g; dead = λ e r q. q.next; bare = λ e r q. refl };
      retree = λ {m} {ts} {us} c. record { left = reads_less ts us (c.temps u); dead = λ e r q. q.next; bare = λ e r q. refl };
      does = λ {c} {v} {w} {x} {reads} {writes} p.
          alone x reads writes goes_next (flow_roll u x ∙ p.flows u) (writes_another writes p.written) (λ r q. q.next) (result_another writes p.written);
      drops = λ {c} {v} {w} {x} {reads} {writes} p.
          alone x reads writes goes_next (flow_roll u x ∙ p.flows u) (writes_another writes p.written) (λ r q. q.next) refl;
      choose = λ {s} {w} {t} {k} {s'} {w'} {t'} {k'} {ys} {zs} {us} x h h'. chosen x h h';
      chain = λ {s} {w} {t} {k} {s'} {w'} {t'} {k'} {xs} {ys} {ts} {us} {vs} h h'. chained h h';
      beside = λ {s} {w} {t} {k} {xs} {ts} {us} rest h. record {
        left = λ e. let es = or_parts (any_reads u ts) (any_reads u rest) (sym (any_reads_append u ts rest) ∙ e) in any_reads_append u us rest ∙ or_from (any_reads u us) (any_reads u rest) (h.left es.0) es.1;
        dead = λ e. h.dead (or_parts (any_reads u ts) (any_reads u rest) (sym (any_reads_append u ts rest) ∙ e)).0;
        bare = λ e. h.bare (or_parts (any_reads u ts) (any_reads u rest) (sym (any_reads_append u ts rest) ∙ e)).0;
      };
      weaken = λ {s} {w} {t} {k} {s'} {w'} {t'} {k'} {xs} {ts} {us} ls lw lt e h. record { left = h.left; dead = h.dead; bare = h.bare };
    }

  in_block : {s w t k m o n l : ℕ} {ts : List Tree} {xs : List Stm} → Unused s w t k ts xs [] → Unused m o n l ts (enclosed xs ∷ []) []
  in_block {xs = xs} h = record {
    left = λ e. refl;
    dead = λ e r q. live_one u (stm.Block xs) _ r (flow_roll u (stm.Block xs)) ∙ h.dead e (around_block r) (quiet_block r q);
    bare = λ e r q.
        marked_one u (stm.Block xs) _ r (flow_roll u (stm.Block xs)) ∙
        or_from (live_at u xs (around_block r)) (any_of (marks_at u xs (around_block r))) (h.dead e (around_block r) (quiet_block r q)) (h.bare e (around_block r) (quiet_block r q));
  }

  in_loop : {s w t k m o n l : ℕ} {xs : List Stm} → Unused s w t k [] xs [] → Unused m o n l [] (repeat xs ∷ []) []
  in_loop {xs = xs} h = record {
    left = λ e. refl;
    dead = λ e r q. live_one u (stm.Loop xs) _ r (flow_roll u (stm.Loop xs)) ∙ start r q;
    bare = λ e r q.
        marked_one u (stm.Loop xs) _ r (flow_roll u (stm.Loop xs)) ∙
        or_from (live_at_loop (map (flow u) xs) r) (any_of (marks_at u xs (around_loop r (live_at_loop (map (flow u) xs) r)))) (start r q)
        (h.bare refl (around_loop r (live_at_loop (map (flow u) xs) r)) (quiet_loop r (live_at_loop (map (flow u) xs) r) (start r q) q));
  }
    where
      start : (r : Around) → IsQuiet r → live_at_loop (map (flow u) xs) r ≡ false
      start r q = h.dead refl (around_loop r false) (quiet_loop r false refl q)

  pub unused_blocks : BlockRules Unused
  unused_blocks = record {
    block = λ {s} {w} {t} {k} {ts} {xs} h. in_block h;
    turns = λ {s} {w} {t} {k} {xs} h. in_loop h;
    leaves = λ n. alone (stm.Break n) [] None (λ r. r.leaves n) (flow_roll u (stm.Break n)) refl (λ r q. q.leaves n) refl;
    returns = λ v. alone (stm.Return v) (v ∷ []) None (λ r. false) (flow_roll u (stm.Return v)) refl (λ r q. refl) refl;
  }
