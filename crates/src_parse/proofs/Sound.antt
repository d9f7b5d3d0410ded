-- What a state has read is the beginning of a levelled tree.
use Rattle.std.proofs.Common.{◌≡◌, Bool, true, false, ◌&&◌, Option, Some, None, option_map, List, [], ◌∷◌, ◌++◌, refl, sym, ap, ◌∙◌, subst}
use Rattle.src_token.specs.declared.token.Token.{Token}
use Rattle.src_tree.specs.declared.row.GrammarRow.{GrammarRow}
use Rattle.src_tree.specs.declared.place.GrammarPlace.{GrammarPlace}
use Rattle.src_tree.specs.declared.place.GrammarPart.{GrammarPart}
use Rattle.src_tree.specs.Grammar.{seen, allowed, may_begin, place_of, GrammarRest, items, move, due, behind, made, NodeBeginning, entry, Joined, joined}
use Rattle.src_tree.specs.Layout.{node, end, tok, sub, row_of, parts_of, spell, spell_parts, due_place, Levelled, Begun, Follows, ItemsLevelled}
use Rattle.src_tree.specs.Reading.{or_else, and_then, only_if, begin_at, opens, joins, with_tok, with_sub, ParserFrame, frame, goes_on, is_joined, act, step, close_all, whole, file_place, start}
use Rattle.src_tree.proofs.Follow.{ok, good, places, is_known}
use Rattle.src_tree.proofs.Facts.{here_of, ok_move, ok_behind, good_part, known_part, joins_as, entry_is_ok, joined_is_ok, join_rows}
use Rattle.src_tree.proofs.Checked.{items_ok}
use Rattle.src_parse.proofs.Alive.{everywhere, alive, and_moved, and_behind, entry_alive, joined_alive}
use Rattle.src_tree.proofs.Complete.{Tree, Held, Stack, run, and_parts_of, with_tok_and, with_sub_and, and_end}

pub spell_with_tok : (d : Held) (t : Token) (k : List Token) → spell_parts (with_tok d t) k ≡ spell_parts d (t ∷ k)
spell_with_tok end t k = refl
spell_with_tok (tok u rest) t k = ap (λ z. u ∷ z) (spell_with_tok rest t k)
spell_with_tok (sub g rest) t k = ap (spell g) (spell_with_tok rest t k)

pub spell_with_sub : (d : Held) (g : Tree) (k : List Token) → spell_parts (with_sub d g) k ≡ spell_parts d (spell g k)
spell_with_sub end g k = refl
spell_with_sub (tok u rest) g k = ap (λ z. u ∷ z) (spell_with_sub rest g k)
spell_with_sub (sub h rest) g k = ap (spell h) (spell_with_sub rest g k)

-- the tokens that were read, and then k
abbrev pub told : Stack → List Token → List Token
told [] k = k
told (frame c q at d ∷ S) k = told S (spell_parts d k)

-- what is due after these parts makes a node of the place
abbrev pub Sofar : GrammarPlace → GrammarRest → Held → Type 0
Sofar c q d = (r : GrammarRow) (ps : Held) → Follows c.head (Some q) r ps → Begun (seen c) r (and_parts_of d ps)

-- the items so far
abbrev pub ItemsSofar : GrammarRest → Held → Type 0
ItemsSofar q d = (ps : Held) → Follows false (Some items) GrammarRow.File ps → Follows false (Some items) GrammarRow.File (and_parts_of d ps)

abbrev pub Good : Stack → Type 0
Good [] = ⊥
Good (frame c q at d ∷ []) = (c ≡ file_place) × (q ≡ items) × ItemsSofar q d
Good (frame c q at d ∷ frame c0 q0 at0 d0 ∷ S) =
    Sofar c q d × ((p : GrammarPart) × (due q0 ≡ Some p) × (place_of c0.head p ≡ c)) × (ok c.head q ≡ true) × (everywhere (alive c) q ≡ true) × Good (frame c0 q0 at0 d0 ∷ S)

pub ok_good : (c : GrammarPlace) (q : GrammarRest) (d : Held) (S : Stack) → Good (frame c q tt d ∷ S) → ok c.head q ≡ true
ok_good c q d [] g = ap (λ z. ok z.head q) g.0 ∙ ap (λ z. ok false z) g.1 ∙ items_ok
ok_good c q d (frame c0 q0 a0 d0 ∷ S) g = g.2

abbrev pub Goes : Stack → Token → Stack → Type 0
Goes s t to = Good to × ((k : List Token) → told to k ≡ told s (t ∷ k))

abbrev pub Ok : Stack → Token → Option Stack → Type 0
Ok s t None = Unit {0}
Ok s t (Some to) = Goes s t to

ok_or : (s : Stack) (t : Token) (o p : Option Stack) → Ok s t o → Ok s t p → Ok s t (or_else o p)
ok_or s t None p a b = b
ok_or s t (Some x) p a b = a

-- the node moves
moves : (c : GrammarPlace) (q : GrammarRest) (d : Held) (S : Stack) (t : Token) (o : Option GrammarRest) → move q t ≡ o → Good (frame c q tt d ∷ S)
    → Ok (frame c q tt d ∷ S) t (option_map (λ r. frame c r tt (with_tok d t) ∷ S) o)
moves c q d S t None e g = tt
moves c q d [] t (Some q1) e g =
    let n : None ≡ Some q1 = ap (λ z. move z t) (sym g.1) ∙ e in absurd (cc)
moves c q d (frame c0 q0 a0 d0 ∷ S) t (Some q1) e g = (
  (
    λ r ps f. subst (λ z. Begun (seen c) r z) (sym (with_tok_and d t ps)) (g.0 r (tok t ps) (subst (λ o. Follows c.head o r ps) (sym e) f)),
    g.1,
    ok_move c.head q t q1 g.2 e,
    and_moved (alive c) q t q1 g.3 e,
    g.4,
  ),
  λ k. ap (told (frame c0 q0 a0 d0 ∷ S)) (spell_with_tok d t k),
)

-- a part begins
begun_by : (c : GrammarPlace) (q : GrammarRest) (d : Held) (S : Stack) (t : Token) (p : GrammarPart) → due q ≡ Some p → Good (frame c q tt d ∷ S) → (o : Option NodeBeginning) → entry (seen (place_of c.head p)) t ≡ o
    → Ok (frame c q tt d ∷ S) t (option_map {T = GrammarPlace × GrammarRest} (λ e. frame e.0 e.1 tt (tok t end) ∷ frame c q tt d ∷ S) (and_then o (λ e. only_if (may_begin (place_of c.head p) e.row) (Some (place_of c.head p, e.rest)))))
begun_by c q d S t p e g None x = tt
begun_by c q d S t p e g (Some b) x = go (may_begin (place_of c.head p) b.row) refl
  where
    go : (m : Bool) → may_begin (place_of c.head p) b.row ≡ m → Ok (frame c q tt d ∷ S) t (option_map {T = GrammarPlace × GrammarRest} (λ e. frame e.0 e.1 tt (tok t end) ∷ frame c q tt d ∷ S) (only_if m (Some (place_of c.head p, b.rest))))
    go false y = tt
    go true y = (
      (
        λ r ps f. subst (λ o. Follows (place_of c.head p).head (option_map (λ e. e.rest) o) r ps) (sym x) f,
        (p, e, refl),
        entry_is_ok (place_of c.head p) t b x,
        entry_alive (place_of c.head p) t b (known_part c.head q p (here_of c.head q (ok_good c q d S g)) e) x y,
        g,
      ),
      λ k. refl,
    )

parts_begin : (c : GrammarPlace) (q : GrammarRest) (d : Held) (S : Stack) (t : Token) (o : Option GrammarPart) → due q ≡ o → Good (frame c q tt d ∷ S)
    → Ok (frame c q tt d ∷ S) t (option_map {T = GrammarPlace × GrammarRest} (λ e. frame e.0 e.1 tt (tok t end) ∷ frame c q tt d ∷ S) (and_then (option_map (place_of c.head) o) (begin_at t)))
parts_begin c q d S t None e g = tt
parts_begin c q d S t (Some p) e g = begun_by c q d S t p e g (entry (seen (place_of c.head p)) t) refl

goes : (c : GrammarPlace) (q : GrammarRest) (d : Held) (S : Stack) (t : Token) → Good (frame c q tt d ∷ S) → Ok (frame c q tt d ∷ S) t (goes_on c q tt d S t tt)
goes c q d S t g =
    ok_or (frame c q tt d ∷ S) t (option_map (λ r. frame c r tt (with_tok d t) ∷ S) (move q t)) (option_map {T = GrammarPlace × GrammarRest} (λ e. frame e.0 e.1 tt (tok t end) ∷ frame c q tt d ∷ S) (opens c.head q t))
    (moves c q d S t (move q t) refl g) (parts_begin c q d S t (due q) refl g)

-- the node is the first part of another
joins_good : (c : GrammarPlace) (q : GrammarRest) (d : Held) (f : ParserFrame (Unit {0})) (S : Stack) (t : Token) (r : GrammarRow) → made q ≡ Some r → Good (frame c q tt d ∷ f ∷ S) → good c ≡ true → is_known places c ≡ true → (o : Option Joined) → joined (seen c) t ≡ o
    → Ok (frame c q tt d ∷ f ∷ S) t (option_map (λ q1. frame c q1 tt (sub (node tt r d) (tok t end)) ∷ f ∷ S) (and_then o (λ j. only_if (may_begin c j.row && allowed j.place r) (Some j.rest))))
joins_good c q d f S t r m g gd k None x = tt
joins_good c q d (frame c0 q0 a0 d0) S t r m g gd k (Some j) x = go (may_begin c j.row) (allowed j.place r) refl refl
  where
    go : (a b : Bool) → may_begin c j.row ≡ a → allowed j.place r ≡ b
        → Ok (frame c q tt d ∷ frame c0 q0 a0 d0 ∷ S) t (option_map (λ q1. frame c q1 tt (sub (node tt r d) (tok t end)) ∷ frame c0 q0 a0 d0 ∷ S) (only_if (a && b) (Some j.rest)))
    go false b ea eb = tt
    go true false ea eb = tt
    go true true ea eb =
        let same = (join_rows c t j (joins_as c t j gd x) ea).0 in
        let whole_ : Begun (seen c) r d = subst (λ z. Begun (seen c) r z) (and_end d) (g.0 r end m) in (
          (
            λ r1 ps w. (
              subst (λ o. Levelled (option_map (λ j. j.place) o) (node tt r d)) (sym x) (eb, subst (λ z. Begun z r d) (sym same) whole_),
              subst (λ o. Follows c.head (option_map (λ j. j.rest) o) r1 ps) (sym x) w,
            ),
            g.1,
            joined_is_ok c t j x,
            joined_alive c t j k x ea,
            g.4,
          ),
          λ k. refl,
        )

good_place : (c c0 : GrammarPlace) (q0 : GrammarRest) (d0 : Held) (S : Stack) → Good (frame c0 q0 tt d0 ∷ S) → ((p : GrammarPart) × (due q0 ≡ Some p) × (place_of c0.head p ≡ c)) → good c ≡ true
good_place c c0 q0 d0 S g (p, e, s) = ap good (sym s) ∙ good_part c0.head q0 p (here_of c0.head q0 (ok_good c0 q0 d0 S g)) e

pub known_place : (c c0 : GrammarPlace) (q0 : GrammarRest) (d0 : Held) (S : Stack) → Good (frame c0 q0 tt d0 ∷ S) → ((p : GrammarPart) × (due q0 ≡ Some p) × (place_of c0.head p ≡ c)) → is_known places c ≡ true
known_place c c0 q0 d0 S g (p, e, s) = ap (is_known places) (sym s) ∙ known_part c0.head q0 p (here_of c0.head q0 (ok_good c0 q0 d0 S g)) e

-- a node that may stand there is a part of the one below
pub placed : (c c0 : GrammarPlace) (q0 : GrammarRest) (d0 : Held) (S : Stack) (g : Tree) → ((p : GrammarPart) × (due q0 ≡ Some p) × (place_of c0.head p ≡ c)) → Levelled (Some c) g
    → Good (frame c0 q0 tt d0 ∷ S) → Good (frame c0 (behind q0 (row_of g)) tt (with_sub d0 g) ∷ S)
placed c c0 q0 d0 [] g (p, e, s) l b = (
  b.0,
  ap (λ z. behind z (row_of g)) b.1,
  λ ps f. subst (λ z. Follows false (Some items) GrammarRow.File z) (sym (with_sub_and d0 g ps))
      (b.2 (sub g ps) (subst (λ o. Levelled o g) (sym x) l, f)),
)
  where
    x : due_place false items ≡ Some c
    x = ap (due_place false) (sym b.1) ∙ ap (λ z. option_map (place_of false) z) e ∙ ap (λ z. Some (place_of z.head p)) (sym b.0) ∙ ap (λ z. Some z) s
placed c c0 q0 d0 (frame c1 q1 a1 d1 ∷ S) g (p, e, s) l b = (
  (λ r1 ps f. subst (λ z. Begun (seen c0) r1 z) (sym (with_sub_and d0 g ps))
      (b.0 r1 (sub g ps) (subst (λ o. Levelled o g) (sym x) l, f))),
  b.1,
  ok_behind c0.head q0 (row_of g) b.2,
  and_behind (alive c0) q0 p (row_of g) b.3 e,
  b.4,
)
  where
    x : due_place c0.head q0 ≡ Some c
    x = ap (λ z. option_map (place_of c0.head) z) e ∙ ap (λ z. Some z) s

-- the node is complete
pub handed_on : (c : GrammarPlace) (q : GrammarRest) (d : Held) (c0 : GrammarPlace) (q0 : GrammarRest) (d0 : Held) (S : Stack) (r : GrammarRow) → made q ≡ Some r → allowed c r ≡ true
    → Good (frame c q tt d ∷ frame c0 q0 tt d0 ∷ S) → Good (frame c0 (behind q0 r) tt (with_sub d0 (node tt r d)) ∷ S)
handed_on c q d c0 q0 d0 S r m a g =
    placed c c0 q0 d0 S (node tt r d) g.1 (a, subst (λ z. Begun (seen c) r z) (and_end d) (g.0 r end m)) g.4

moved : (s from : Stack) (t : Token) (o : Option Stack) → ((k : List Token) → told s k ≡ told from k) → Ok s t o → Ok from t o
moved s from t None e h = tt
moved s from t (Some to) e h = (h.0, λ k. h.1 k ∙ e (t ∷ k))

pub acts_well : (S : Stack) (c : GrammarPlace) (q : GrammarRest) (d : Held) (t : Token) → Good (frame c q tt d ∷ S) → Ok (frame c q tt d ∷ S) t (act S c q tt d t tt)
acts_well [] c q d t g = ok_or (frame c q tt d ∷ []) t (goes_on c q tt d [] t tt) (and_then (made q) (λ r. is_joined c tt d [] t r)) (goes c q d [] t g) (no_join (made q))
  where
    no_join : (o : Option GrammarRow) → Ok (frame c q tt d ∷ []) t (and_then o (λ r. is_joined c tt d [] t r))
    no_join None = tt
    no_join (Some r) = let e : joins c r t ≡ None = ap (λ z. joins z r t) g.0 in subst (λ o. Ok (frame c q tt d ∷ []) t (option_map (λ q1. frame c q1 tt (sub (node tt r d) (tok t end)) ∷ []) o)) (sym e) tt
acts_well (frame c0 q0 a0 d0 ∷ S) c q d t g =
    ok_or (frame c q tt d ∷ frame c0 q0 a0 d0 ∷ S) t (goes_on c q tt d (frame c0 q0 a0 d0 ∷ S) t tt)
    (and_then (made q) (λ r. or_else (is_joined c tt d (frame c0 q0 a0 d0 ∷ S) t r) (only_if (allowed c r) (act S c0 (behind q0 r) tt (with_sub d0 (node tt r d)) t tt))))
    (goes c q d (frame c0 q0 a0 d0 ∷ S) t g)
    (ended (made q) refl (λ r. acts_well S c0 (behind q0 r) (with_sub d0 (node tt r d)) t))
  where
    handing : (r : GrammarRow) → made q ≡ Some r → (Good (frame c0 (behind q0 r) tt (with_sub d0 (node tt r d)) ∷ S) → Ok (frame c0 (behind q0 r) tt (with_sub d0 (node tt r d)) ∷ S) t (act S c0 (behind q0 r) tt (with_sub d0 (node tt r d)) t tt))
        → (a : Bool) → allowed c r ≡ a → Ok (frame c q tt d ∷ frame c0 q0 a0 d0 ∷ S) t (only_if a (act S c0 (behind q0 r) tt (with_sub d0 (node tt r d)) t tt))
    handing r m ih false e = tt
    handing r m ih true e = moved (frame c0 (behind q0 r) tt (with_sub d0 (node tt r d)) ∷ S) (frame c q tt d ∷ frame c0 q0 a0 d0 ∷ S) t (act S c0 (behind q0 r) tt (with_sub d0 (node tt r d)) t tt) (λ k. ap (told S) (spell_with_sub d0 (node tt r d) k)) (ih (handed_on c q d c0 q0 d0 S r m e g))

    ended : (o : Option GrammarRow) → made q ≡ o → ((r : GrammarRow) → Good (frame c0 (behind q0 r) tt (with_sub d0 (node tt r d)) ∷ S) → Ok (frame c0 (behind q0 r) tt (with_sub d0 (node tt r d)) ∷ S) t (act S c0 (behind q0 r) tt (with_sub d0 (node tt r d)) t tt))
        → Ok (frame c q tt d ∷ frame c0 q0 a0 d0 ∷ S) t (and_then o (λ r. or_else (is_joined c tt d (frame c0 q0 a0 d0 ∷ S) t r) (only_if (allowed c r) (act S c0 (behind q0 r) tt (with_sub d0 (node tt r d)) t tt))))
    ended None m ih = tt
    ended (Some r) m ih =
        ok_or (frame c q tt d ∷ frame c0 q0 a0 d0 ∷ S) t (is_joined c tt d (frame c0 q0 a0 d0 ∷ S) t r) (only_if (allowed c r) (act S c0 (behind q0 r) tt (with_sub d0 (node tt r d)) t tt))
        (joins_good c q d (frame c0 q0 a0 d0) S t r m g (good_place c c0 q0 d0 S g.4 g.1) (known_place c c0 q0 d0 S g.4 g.1) (joined (seen c) t) refl) (handing r m (ih r) (allowed c r) refl)

pub steps_well : (s : Stack) (t : Token) → Good s → Ok s t (step s t tt)
steps_well [] t g = tt
steps_well (frame c q at d ∷ S) t g = acts_well S c q d t g

pub start_good : Good (start tt)
start_good = (refl, refl, λ ps f. f)

-- a state that was reached by tokens
abbrev pub Reached : Stack → List Token → Option Stack → Type 0
Reached from ts None = Unit {0}
Reached from ts (Some s) = Good s × ((k : List Token) → told s k ≡ told from (ts ++ k))

pub run_none : (ts : List Token) → run ts None ≡ None
run_none [] = refl
run_none (t ∷ ts) = run_none ts

pub runs : (ts : List Token) (s : Stack) → Good s → Reached s ts (run ts (Some s))
runs [] s g = (g, λ k. refl)
runs (t ∷ ts) s g = go (runs ts) (step s t tt) (steps_well s t g)
  where
    further : (s1 : Stack) → Goes s t s1 → (o : Option Stack) → Reached s1 ts o → Reached s (t ∷ ts) o
    further s1 h None r = tt
    further s1 h (Some s2) r = (r.0, λ k. r.1 k ∙ h.1 (ts ++ k))

    go : ((s : Stack) → Good s → Reached s ts (run ts (Some s))) → (o : Option Stack) → Ok s t o → Reached s (t ∷ ts) (run ts o)
    go ih None h = subst (Reached s (t ∷ ts)) (sym (run_none ts)) tt
    go ih (Some s1) h = further s1 h (run ts (Some s1)) (ih s1 h.0)

-- where all nodes end, what was read are the parts of a text
abbrev pub Ended : Stack → Option Tree → Type 0
Ended s None = Unit {0}
Ended s (Some g) = (row_of g ≡ GrammarRow.File) × ItemsLevelled (parts_of g) × (spell g [] ≡ told s [])

pub closes_well : (S : Stack) (c : GrammarPlace) (q : GrammarRest) (d : Held) → Good (frame c q tt d ∷ S) → Ended (frame c q tt d ∷ S) (close_all S c q tt d)
closes_well [] c q d g =
    subst (λ o. Ended (frame c q tt d ∷ []) (option_map (λ r. node tt r d) o)) (ap (λ z. made z) (sym g.1))
    (refl, subst (λ z. Follows false (Some items) GrammarRow.File z) (and_end d) (g.2 end refl), refl)
closes_well (frame c0 q0 a0 d0 ∷ S) c q d g = ended (made q) refl (λ r. closes_well S c0 (behind q0 r) (with_sub d0 (node tt r d)))
  where
    as_told : (s from : Stack) (o : Option Tree) → told s [] ≡ told from [] → Ended s o → Ended from o
    as_told s from None e h = tt
    as_told s from (Some x) e h = (h.0, h.1, h.2 ∙ e)

    handing : (r : GrammarRow) → made q ≡ Some r → (Good (frame c0 (behind q0 r) tt (with_sub d0 (node tt r d)) ∷ S) → Ended (frame c0 (behind q0 r) tt (with_sub d0 (node tt r d)) ∷ S) (close_all S c0 (behind q0 r) tt (with_sub d0 (node tt r d))))
        → (a : Bool) → allowed c r ≡ a → Ended (frame c q tt d ∷ frame c0 q0 a0 d0 ∷ S) (only_if a (close_all S c0 (behind q0 r) tt (with_sub d0 (node tt r d))))
    handing r m ih false e = tt
    handing r m ih true e = as_told (frame c0 (behind q0 r) tt (with_sub d0 (node tt r d)) ∷ S) (frame c q tt d ∷ frame c0 q0 a0 d0 ∷ S) (close_all S c0 (behind q0 r) tt (with_sub d0 (node tt r d))) (ap (told S) (spell_with_sub d0 (node tt r d) [])) (ih (handed_on c q d c0 q0 d0 S r m e g))

    ended : (o : Option GrammarRow) → made q ≡ o → ((r : GrammarRow) → Good (frame c0 (behind q0 r) tt (with_sub d0 (node tt r d)) ∷ S) → Ended (frame c0 (behind q0 r) tt (with_sub d0 (node tt r d)) ∷ S) (close_all S c0 (behind q0 r) tt (with_sub d0 (node tt r d))))
        → Ended (frame c q tt d ∷ frame c0 q0 a0 d0 ∷ S) (and_then o (λ r. only_if (allowed c r) (close_all S c0 (behind q0 r) tt (with_sub d0 (node tt r d)))))
    ended None m ih = tt
    ended (Some r) m ih = handing r m (ih r) (allowed c r) refl

pub whole_well : (s : Stack) → Good s → Ended s (whole s)
whole_well [] g = absurd g
whole_well (frame c q at d ∷ S) g = closes_well S c q d g
