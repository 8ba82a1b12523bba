-- The code of functions, and what their bodies say of it.
use Rattle.std.proofs.Common.{◌≡◌, ℕ, suc, ◌+◌, ◌*◌, ◌%◌, ◌^◌, ◌<◌, ◌≤◌, Bool, true, false, cond, ◌&&◌, List, [], ◌∷◌, ◌++◌, map, take, drop, length, get_or, max, refl, sym, ap, ◌∙◌, arith, append-nil, append_assoc}
use Rattle.std.specs.Prelude.{◌||◌}
use Rattle.std.proofs.Math.Nat.{add-mod-mod, mod-add-mod}
use Rattle.std.proofs.lemmas.List.{drop_all, take_more}
use Rattle.mv_num.specs.Words as word
use Rattle.mv_ast.specs.declared.program.Function.{Function}
use Rattle.mv_ast.specs.declared.program.Global.{Global}
use Rattle.mv_ast.specs.Counts.{words_of_size}
use Rattle.mv_num.specs.Lists.{is_among}
use Rattle.mv_ast.specs.Switches.{switch_global}
use Rattle.mv_ir.specs.declared.body.Room.{Room}
use Rattle.mv_ir.specs.declared.body.Body.{Body}
use Rattle.mv_ir.specs.declared.stm.Stm.{Stm}
use Rattle.mv_lower_spec.specs.Lowered.{number}
use Rattle.mv_source_forms.specs.Names.{is_void}
use Rattle.mv_lower_spec.specs.Statements.{Code, return_with}
use Rattle.mv_lower_spec.specs.Functions.{outermost, lower_body, lower_function_code, lower_function, array_sizes, names_global, functions_called, address_behind, rooms_from, marked_from}
use Rattle.mv_lower.specs.Statements.{stmt_at, stmts_at}
use Rattle.mv_ast.specs.declared.program.Program.{Program}
use Rattle.mv_ast.specs.Flags.{is_set}
use Rattle.mv_ast.proofs.Flags.{set_from_none}
use Rattle.mv_lower.specs.declared.names.Marks.{Marks}
use Rattle.mv_lower.specs.Naming.{Flags, marked, seen_marks, code_names}
use Rattle.mv_lower.specs.Programs.{ended, no_marks, is_named, AreMarks}
use Rattle.mv_lower_expressions.proofs.Forms.{map_push}
use Rattle.mv_lower.proofs.Switching.{next_item}

-- ---- code

body_is : (ps : List ℕ) (g : Function) → stmts_at ps g g.body outermost ≡ lower_body ps g
unfolding stmts_at stmt_at
body_is ps g = refl

pub code_is : (ps : List ℕ) (g : Function) (body c : Code) (void : Bool) → c ≡ ended void body → void ≡ is_void g.result → body ≡ stmts_at ps g g.body outermost → c ≡ lower_function_code ps g
code_is ps g body c void e v b = e ∙ (ap (λ z. ended z body) v ∙ ap (λ (x : Code). ended (is_void g.result) x) (b ∙ body_is ps g))

pub ended_void : (c : Code) → ended true c ≡ c
ended_void c = ap (λ l. (let r : Code = record { code = l; top = c.top } in r)) (append-nil c.code)

pub ended_value : (c : Code) → ended false c ≡ record { code = c.code ++ return_with (number 0) ∷ []; top = c.top }
ended_value c = refl

pub ruleset endings = (ended_void, ended_value)

-- ---- rooms and marks

pub next_address : (before size : ℕ) → address_behind (before + size) ≡ word.add (address_behind before) (word.mul 4 size)
unfolding word.add word.mul
next_address before size =
    let e : 1048576 + 4 * (before + size) ≡ 1048576 + 4 * before + 4 * size = omega arith in
    ap (λ n. n % 2 ^ 32) e ∙
    (sym (mod-add-mod (1048576 + 4 * before) (2 ^ 32) (4 * size)) ∙ sym (add-mod-mod ((1048576 + 4 * before) % 2 ^ 32) (4 * size) (2 ^ 32)))

abbrev Agree : (ℕ → Bool) → (ℕ → Bool) → ℕ → ℕ → Type 0
Agree f h from to = (k : ℕ) → from ≤ k → k < to → f k ≡ h k

pub rooms_agree : (f h : ℕ → Bool) (xs : List Global) (g before : ℕ) → Agree f h g (g + length xs) → rooms_from f g before xs ≡ rooms_from h g before xs
rooms_agree f h [] g before a = refl
rooms_agree f h (x ∷ xs) g before a =
    let size = words_of_size x.size in
    let here : f g ≡ h g = a g (omega arith) (omega arith) in
    let rest = rooms_agree f h xs (suc g) (before + size) (λ k p q. a k (omega arith) (omega arith)) in
    ap (λ b. cond b (record { global = g; at = address_behind before; size = size } ∷ rooms_from f (suc g) (before + size) xs) (rooms_from f (suc g) (before + size) xs)) here ∙
    ap (λ r. cond (h g) (record { global = g; at = address_behind before; size = size } ∷ r) r) rest

pub marked_agree : (f h : ℕ → Bool) (xs : List Function) (n : ℕ) → Agree f h n (n + length xs) → marked_from f n xs ≡ marked_from h n xs
marked_agree f h [] n a = refl
marked_agree f h (x ∷ xs) n a =
    let here : f n ≡ h n = a n (omega arith) (omega arith) in
    let rest = marked_agree f h xs (suc n) (λ k p q. a k (omega arith) (omega arith)) in
    ap (λ b. cond (x.attributed && b) (n ∷ marked_from f (suc n) xs) (marked_from f (suc n) xs)) here ∙
    ap (λ r. cond (x.attributed && h n) (n ∷ r) r) rest

-- one global more
pub rooms_next : (f : ℕ → Bool) (g before : ℕ) (xs : List Global) (i : ℕ) (x : Global) → i < length xs → x ≡ get_or xs i x →
    rooms_from f g before (drop i xs) ≡
    cond (f g) (record { global = g; at = address_behind before; size = words_of_size x.size } ∷
    rooms_from f (g + 1) (before + words_of_size x.size) (drop (i + 1) xs))
    (rooms_from f (g + 1) (before + words_of_size x.size) (drop (i + 1) xs))
rooms_next f g before xs i x h e =
    let s : suc g ≡ g + 1 = omega arith in
    ap (λ ys. rooms_from f g before ys) (next_item xs i x h e) ∙
    ap (λ k. cond (f g) (record { global = g; at = address_behind before; size = words_of_size x.size } ∷
    rooms_from f k (before + words_of_size x.size) (drop (i + 1) xs))
    (rooms_from f k (before + words_of_size x.size) (drop (i + 1) xs))) s

pub rooms_end : (f : ℕ → Bool) (g before : ℕ) (xs : List Global) (i : ℕ) → length xs ≤ i → rooms_from f g before (drop i xs) ≡ []
rooms_end f g before xs i h = ap (λ ys. rooms_from f g before ys) (drop_all i xs h)

-- one function more
pub marked_next : (f : ℕ → Bool) (n : ℕ) (xs : List Function) (i : ℕ) (x : Function) → i < length xs → x ≡ get_or xs i x →
    marked_from f n (drop i xs) ≡ cond (x.attributed && f n) (n ∷ marked_from f (n + 1) (drop (i + 1) xs)) (marked_from f (n + 1) (drop (i + 1) xs))
marked_next f n xs i x h e =
    let s : suc n ≡ n + 1 = omega arith in
    ap (λ ys. marked_from f n ys) (next_item xs i x h e) ∙
    ap (λ k. cond (x.attributed && f n) (n ∷ marked_from f k (drop (i + 1) xs)) (marked_from f k (drop (i + 1) xs))) s

pub marked_end : (f : ℕ → Bool) (n : ℕ) (xs : List Function) (i : ℕ) → length xs ≤ i → marked_from f n (drop i xs) ≡ []
marked_end f n xs i h = ap (λ ys. marked_from f n ys) (drop_all i xs h)

-- an item that is kept where a flag says so
pub kept_step : {A : Type 0} (b : Bool) (x : A) (old new rest whole : List A) → new ≡ cond b (old ++ x ∷ []) old → old ++ cond b (x ∷ rest) rest ≡ whole → new ++ rest ≡ whole
kept_step true x old new rest whole n w = ap (λ l. l ++ rest) n ∙ (append_assoc old (x ∷ []) rest ∙ w)
kept_step false x old new rest whole n w = ap (λ l. l ++ rest) n ∙ w

pub same_room : (g : ℕ) {at bt s t : ℕ} → at ≡ bt → s ≡ t → (let a : Room = record { global = g; at = at; size = s } in a) ≡ (let b : Room = record { global = g; at = bt; size = t } in b)
same_room g e f = cc

-- a value for one item more
pub map_step : {A B : Type 0} (f : A → B) (xs : List A) (i : ℕ) (x : A) (old new : List B) → i < length xs → x ≡ get_or xs i x → old ≡ map f (take i xs) → new ≡ old ++ f x ∷ [] → new ≡ map f (take (i + 1) xs)
map_step f xs i x old new h e o n =
    n ∙ (ap (λ l. l ++ f x ∷ []) o ∙ (sym (map_push f (take i xs) x) ∙ ap (λ l. map f l) (ap (λ y. take i xs ++ y ∷ []) e ∙ sym (take_more xs i x h))))

-- ---- marks

pub marks_of : (p : Program) (code : List Stm) (m : Marks) →
    seen_marks m ≡ marked (code_names code) (no_marks (length p.globals) (length p.functions)) → AreMarks p code m
unfolding marked
marks_of p code m e =
    let r = ap (λ (f : Flags). f.read) e in
    let s = ap (λ (f : Flags). f.stored) e in
    let c = ap (λ (f : Flags). f.called) e in
    let names = code_names code in
    record {
      globals = λ g h.
          ap (λ (l : List Bool). is_set l g || is_set m.stored.items g) r ∙
          (ap (λ b. b || is_set m.stored.items g) (set_from_none (length p.globals) names.read g h) ∙
          ap (λ b. is_among g names.read || b) (ap (λ (l : List Bool). is_set l g) s ∙ set_from_none (length p.globals) names.stored g h));
      functions = λ f h. ap (λ (l : List Bool). is_set l f) c ∙ set_from_none (length p.functions) names.called f h;
    }

-- ---- bodies

pub rooms_of : (p : Program) (code : List Stm) (m : Marks) → AreMarks p code m → rooms_from (is_named m) 0 0 p.globals ≡ rooms_from (names_global code) 0 0 p.globals
rooms_of p code m a = rooms_agree (is_named m) (names_global code) p.globals 0 0 (λ k h l. a.globals k (omega arith))

pub marked_of : (p : Program) (code : List Stm) (m : Marks) → AreMarks p code m → marked_from (is_set m.called.items) 0 p.functions ≡ marked_from (λ f. is_among f (functions_called code)) 0 p.functions
marked_of p code m a = marked_agree (is_set m.called.items) (λ f. is_among f (functions_called code)) p.functions 0 (λ k h l. a.functions k (omega arith))

-- the body, by a function's code
abbrev body_by : Program → Function → Code → Body
body_by p g l = record {
  params = g.params;
  temps = max (length g.locals) l.top;
  arrays = array_sizes g.locals;
  code = l.code;
  rooms = rooms_from (names_global l.code) 0 0 p.globals;
  marked = marked_from (λ f. is_among f (functions_called l.code)) 0 p.functions;
  switches = map (switch_global p) g.switches;
}

body_parts : (n : ℕ) (code : List Stm) (temps temps' : ℕ) (arrays arrays' : List ℕ) (rooms rooms' : List Room) (marked marked' switches switches' : List ℕ) →
    temps ≡ temps' → arrays ≡ arrays' → rooms ≡ rooms' → marked ≡ marked' → switches ≡ switches' →
    (let a : Body = record { params = n; temps = temps; arrays = arrays; code = code; rooms = rooms; marked = marked; switches = switches } in a) ≡
    (let b : Body = record { params = n; temps = temps'; arrays = arrays'; code = code; rooms = rooms'; marked = marked'; switches = switches' } in b)
body_parts n code temps temps' arrays arrays' rooms rooms' marked marked' switches switches' a b d e f = cc

pub body_of : (p : Program) (g : Function) (l : Code) (m : Marks) (temps : ℕ) (arrays : List ℕ) (rooms : List Room) (marked switches : List ℕ) →
    l ≡ lower_function_code p.pointers g → AreMarks p l.code m → temps ≡ max (length g.locals) l.top → arrays ≡ array_sizes g.locals → rooms ≡ rooms_from (is_named m) 0 0 p.globals →
    marked ≡ marked_from (is_set m.called.items) 0 p.functions → switches ≡ map (switch_global p) g.switches →
    (let b : Body = record { params = g.params; temps = temps; arrays = arrays; code = l.code; rooms = rooms; marked = marked; switches = switches } in b) ≡ lower_function p g
body_of p g l m temps arrays rooms marked switches e marks a b d f h =
    body_parts g.params l.code temps _ arrays _ rooms _ marked _ switches _ a b (d ∙ rooms_of p l.code m marks) (f ∙ marked_of p l.code m marks) h ∙ ap (λ (x : Code). body_by p g x) e
