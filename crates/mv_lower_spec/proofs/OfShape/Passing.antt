-- A temporary that isn't declared is not live before code of an expression, unless it is live behind it.
use Rattle.std.proofs.Common.{◌≡◌, ℕ, Bool, true, false, not, ◌&&◌, ◌||◌, List, [], ◌∷◌, ◌++◌, Option, Some, None, refl, sym, ◌∙◌, ap}
use Rattle.std.proofs.lemmas.Bool.{or_from, or_parts, and_right, and_left}
use Rattle.mv_ir.specs.declared.tree.Tree.{Tree}
use Rattle.mv_ir.specs.declared.stm.Stm.{Stm}
use Rattle.mv_ir.specs.declared.stm.Stm.TheOpen.{Stm-F}
use Rattle.mv_ir.specs.declared.stm.Stm.TheOpen as stm
use Rattle.mv_ir.specs.declared.stm.Stm.TheViews.{roll-Stm}
use Rattle.mv_ir.specs.Live.{reads_temp, any_reads, is, Around, with_after, plain, goes_next, flow}
use Rattle.mv_ir.proofs.Rolls.{flow_roll}
use Rattle.mv_lower_spec.specs.Lowered.{choose}
use Rattle.mv_lower_spec.proofs.OfShape.Rules.{Allowed, Rules, result}
use Rattle.mv_ir.proofs.Joining.{any_reads_append}
use Rattle.mv_lower_spec.proofs.OfShape.Flowing.{live_at, live_append, live_one, temp_reads, global_reads, another}
use Rattle.mv_num.proofs.Booleans.{from_falsity}

module _ (a : Allowed) (u : ℕ) where
  -- Not live before code where it isn't behind, and in no case where a tree behind reads it.
  pub record Passing (s w t k : ℕ) (ts : List Tree) (xs : List Stm) (us : List Tree) : Type 0 where
    pub passes : any_reads u ts ≡ false → (r : Around) → r.next ≡ false → live_at u xs r ≡ false
    pub writes : any_reads u ts ≡ false → any_reads u us ≡ true → (r : Around) → live_at u xs r ≡ false

  chained : {s w t k s' w' t' k' m o n l : ℕ} {xs ys : List Stm} {ts us vs : List Tree} → Passing s w t k ts xs us → Passing s' w' t' k' us ys vs → Passing m o n l ts (xs ++ ys) vs
  chained {xs = xs} {ys = ys} {ts = ts} {us = us} h h' = record {
    passes = λ e r q. by e (any_reads u us) refl r (λ mid. h'.passes mid r q);
    writes = λ e v r. by e (any_reads u us) refl r (λ mid. h'.writes mid v r);
  }
    where
      by : any_reads u ts ≡ false → (z : Bool) → any_reads u us ≡ z → (r : Around) → (any_reads u us ≡ false → live_at u ys r ≡ false) → live_at u (xs ++ ys) r ≡ false
      by e true w r k = live_append u xs ys r ∙ h.writes e w (with_after r (live_at u ys r))
      by e false w r k = live_append u xs ys r ∙ h.passes e (with_after r (live_at u ys r)) (k w)

  chosen : {s w t k s' w' t' k' m o n l : ℕ} {ys zs : List Stm} {us : List Tree} (x : Tree) → Passing s w t k [] ys us → Passing s' w' t' k' [] zs us → Passing m o n l (x ∷ []) (choose x ys zs ∷ []) us
  chosen {ys = ys} {zs = zs} x h h' = record {
    passes = λ e r q. dead e r (h.passes refl r q) (h'.passes refl r q);
    writes = λ e v r. dead e r (h.writes refl v r) (h'.writes refl v r);
  }
    where
      dead : any_reads u (x ∷ []) ≡ false → (r : Around) → live_at u ys r ≡ false → live_at u zs r ≡ false → live_at u (choose x ys zs ∷ []) r ≡ false
      dead e r y z =
          live_one u (stm.If x ys zs) _ r (flow_roll u (stm.If x ys zs)) ∙
          or_from (reads_temp u x) (live_at u ys r || live_at u zs r) (or_parts (reads_temp u x) false e).0 (or_from (live_at u ys r) (live_at u zs r) y z)

  result_is : (w : Option ℕ) → any_reads u (result w) ≡ is w u
  result_is None = refl
  result_is (Some t) = temp_reads u t

  done : {m o n l : ℕ} (x : Stm-F Stm) (reads : List Tree) (w : Option ℕ) → flow u (roll-Stm x) ≡ plain u reads w goes_next → Passing m o n l reads (roll-Stm x ∷ []) (result w)
  done x reads w e = record {
    passes = λ h r q. live_one u x (plain u reads w goes_next) r e ∙ or_from (any_reads u reads) (not (is w u) && r.next) h (and_right (not (is w u)) r.next q);
    writes = λ h v r.
        live_one u x (plain u reads w goes_next) r e ∙
        or_from (any_reads u reads) (not (is w u) && r.next) h (and_left (not (is w u)) r.next (ap not (sym (result_is w) ∙ v)));
  }

  pub passing_rules : a.declared u ≡ false → Rules a Passing
  passing_rules undeclared = record {
    local = λ l h k. record { passes = λ e r q. q; writes = λ e v r. from_falsity (sym (temp_reads u l ∙ another a.declared l u h undeclared) ∙ v) };
    scalar = λ g h. record { passes = λ e r q. q; writes = λ e v r. from_falsity (sym (global_reads u g) ∙ v) };
    retree = λ {m} {ts} {us} c. record { passes = λ e r q. q; writes = λ e v r. from_falsity (sym e ∙ c.temps u v) };
    does = λ {c} {v} {w} {x} {reads} {writes} p. done x reads writes (flow_roll u x ∙ p.flows u);
    drops = λ {c} {v} {w} {x} {reads} {writes} p. record { passes = (done {m = 0} {o = 0} {n = 0} {l = 0} x reads writes (flow_roll u x ∙ p.flows u)).passes; writes = λ e w. from_falsity w };
    choose = λ {s} {w} {t} {k} {s'} {w'} {t'} {k'} {ys} {zs} {us} x h h'. chosen x h h';
    chain = λ {s} {w} {t} {k} {s'} {w'} {t'} {k'} {xs} {ys} {ts} {us} {vs} h h'. chained h h';
    beside = λ {s} {w} {t} {k} {xs} {ts} {us} rest h. record {
      passes = λ e. h.passes (or_parts (any_reads u ts) (any_reads u rest) (sym (any_reads_append u ts rest) ∙ e)).0;
      writes = λ e v.
          let es = or_parts (any_reads u ts) (any_reads u rest) (sym (any_reads_append u ts rest) ∙ e) in
          h.writes es.0 (left_true (any_reads u us) (any_reads u rest) es.1 (sym (any_reads_append u us rest) ∙ v));
    };
    weaken = λ {s} {w} {t} {k} {s'} {w'} {t'} {k'} {xs} {ts} {us} ls lw lt e h. record { passes = h.passes; writes = h.writes };
  }
    where
      left_true : (x y : Bool) → y ≡ false → (x || y) ≡ true → x ≡ true
      left_true true y e v = refl
      left_true false y e v = from_falsity (sym e ∙ v)
