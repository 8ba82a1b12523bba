-- Which statements end in an `if` without `else`, form by form.
use Rattle.std.proofs.Common.{◌≡◌, Bool, true, false, Option, Some, None, List, ap, ◌∙◌}
use Rattle.mv_syntax.specs.declared.place.Place.{Place}
use Rattle.mv_syntax.specs.declared.unit.Node.{Node}
use Rattle.mv_syntax.specs.declared.unit.Specs.{Specs}
use Rattle.mv_syntax.specs.declared.unit.Declarator.{Declarator}
use Rattle.mv_syntax.specs.declared.unit.Line.{Line}
use Rattle.mv_syntax.specs.declared.unit.Act.{Act, roll-Act}
use Rattle.mv_syntax.specs.declared.unit.Act.TheVariants as a
use Rattle.mv_syntax.specs.declared.unit.Act.TheOpen as o
use Rattle.mv_syntax.specs.declared.unit.Act.TheFolds.{fold-roll-Line, fold-roll-Act, fold-Act}
use denote.Hole.Carrier.{roll}
use Rattle.mv_parse_grammar.specs.Statements.{is_open, line_at, act_open, line_open}

act_is_open : Act → Bool
act_is_open = fold-Act Bool Bool act_open line_open

opened : (p : Place) (w : Act) → is_open (line_at p w) ≡ act_is_open w
unfolding is_open act_is_open
opened p w = fold-roll-Line Bool Bool act_open line_open (record { place = p; what = w })

pub open_if : (p : Place) (c : Node) (x : Line) → is_open (line_at p (a.If c x None)) ≡ true
unfolding is_open act_is_open roll-Act roll
open_if p c x = opened p (a.If c x None) ∙ (ap act_is_open (a.rolls-If c x None) ∙ fold-roll-Act Bool Bool act_open line_open (o.If c x None))

pub open_else : (p : Place) (c : Node) (x y : Line) → is_open (line_at p (a.If c x (Some y))) ≡ is_open y
unfolding is_open act_is_open roll-Act roll
open_else p c x y = opened p (a.If c x (Some y)) ∙ (ap act_is_open (a.rolls-If c x (Some y)) ∙ fold-roll-Act Bool Bool act_open line_open (o.If c x (Some y)))

pub open_while : (p : Place) (c : Node) (x : Line) → is_open (line_at p (a.While c x)) ≡ is_open x
unfolding is_open act_is_open roll-Act roll
open_while p c x = opened p (a.While c x) ∙ (ap act_is_open (a.rolls-While c x) ∙ fold-roll-Act Bool Bool act_open line_open (o.While c x))

pub open_do : (p : Place) (c : Node) (x : Line) → is_open (line_at p (a.Do x c)) ≡ false
unfolding is_open act_is_open roll-Act roll
open_do p c x = opened p (a.Do x c) ∙ (ap act_is_open (a.rolls-Do x c) ∙ fold-roll-Act Bool Bool act_open line_open (o.Do x c))

pub open_block : (p : Place) (ls : List Line) → is_open (line_at p (a.Block ls)) ≡ false
unfolding is_open act_is_open roll-Act roll
open_block p ls = opened p (a.Block ls) ∙ (ap act_is_open (a.rolls-Block ls) ∙ fold-roll-Act Bool Bool act_open line_open (o.Block ls))

pub open_express : (p : Place) (e : Option Node) → is_open (line_at p (a.Express e)) ≡ false
unfolding is_open act_is_open roll-Act roll
open_express p e = opened p (a.Express e) ∙ (ap act_is_open (a.rolls-Express e) ∙ fold-roll-Act Bool Bool act_open line_open (o.Express e))

pub open_return : (p : Place) (e : Option Node) → is_open (line_at p (a.Return e)) ≡ false
unfolding is_open act_is_open roll-Act roll
open_return p e = opened p (a.Return e) ∙ (ap act_is_open (a.rolls-Return e) ∙ fold-roll-Act Bool Bool act_open line_open (o.Return e))

pub open_break : (p : Place) → is_open (line_at p a.Break) ≡ false
unfolding is_open act_is_open roll-Act roll
open_break p = opened p a.Break ∙ (ap act_is_open a.rolls-Break ∙ fold-roll-Act Bool Bool act_open line_open o.Break)

pub open_continue : (p : Place) → is_open (line_at p a.Continue) ≡ false
unfolding is_open act_is_open roll-Act roll
open_continue p = opened p a.Continue ∙ (ap act_is_open a.rolls-Continue ∙ fold-roll-Act Bool Bool act_open line_open o.Continue)

pub open_for : (p : Place) (first : Option Line) (c e : Option Node) (x : Line) → is_open (line_at p (a.For first c e x)) ≡ is_open x
unfolding is_open act_is_open roll-Act roll
open_for p first c e x = opened p (a.For first c e x) ∙ (ap act_is_open (a.rolls-For first c e x) ∙ fold-roll-Act Bool Bool act_open line_open (o.For first c e x))

pub open_switch : (p : Place) (c : Node) (x : Line) → is_open (line_at p (a.Switch c x)) ≡ is_open x
unfolding is_open act_is_open roll-Act roll
open_switch p c x = opened p (a.Switch c x) ∙ (ap act_is_open (a.rolls-Switch c x) ∙ fold-roll-Act Bool Bool act_open line_open (o.Switch c x))

pub open_declare : (p : Place) (s : Specs) (ds : List Declarator) → is_open (line_at p (a.Declare s ds)) ≡ false
unfolding is_open act_is_open roll-Act roll
open_declare p s ds = opened p (a.Declare s ds) ∙ (ap act_is_open (a.rolls-Declare s ds) ∙ fold-roll-Act Bool Bool act_open line_open (o.Declare s ds))

pub open_case : (p : Place) (e : Node) → is_open (line_at p (a.Case e)) ≡ false
unfolding is_open act_is_open roll-Act roll
open_case p e = opened p (a.Case e) ∙ (ap act_is_open (a.rolls-Case e) ∙ fold-roll-Act Bool Bool act_open line_open (o.Case e))

pub open_default : (p : Place) → is_open (line_at p a.Default) ≡ false
unfolding is_open act_is_open roll-Act roll
open_default p = opened p a.Default ∙ (ap act_is_open a.rolls-Default ∙ fold-roll-Act Bool Bool act_open line_open o.Default)
