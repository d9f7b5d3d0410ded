-- A levelled tree is read: by induction on the tree, one lemma for what begins a node and one for what follows.
use Rattle.std.proofs.Common.{◌≡◌, Bool, true, false, ◌&&◌, ◌||◌, not, Option, Some, None, option_map, List, [], ◌∷◌, refl, sym, ap, ◌∙◌, subst, if◌then◌else◌}
use Rattle.std.proofs.lemmas.Bool.{and_parts, and_from}
use Rattle.src_token.specs.declared.token.Token.{Token}
use Rattle.src_token.specs.declared.mark.Mark.{Mark}
use Rattle.src_tree.specs.declared.row.GrammarRow.{GrammarRow}
use Rattle.src_tree.specs.declared.place.GrammarPlace.{GrammarPlace}
use Rattle.src_tree.specs.declared.place.GrammarPart.{GrammarPart}
use Rattle.src_tree.specs.declared.kind.TokenKind.{TokenKind}
use Rattle.src_tree.specs.Grammar.{seen, allowed, may_begin, place_of, GrammarRest, ends, token, either, part, maybe, list, more, many, items, alternatives, statements, arms, arm_body, after_break, move, due, behind, behind_statement, behind_arm, behind_body, behind_break, made, NodeBeginning, entry, Joined, joined, is, comma}
use Rattle.src_tree.specs.Layout.{SyntaxNode, node, Parts, end, tok, sub, row_of, parts_of, ItemsLevelled, spell, spell_parts, Levelled, Begun, Follows}
use Rattle.src_tree.specs.Reading.{and_then, only_if, begin_at, opens, joins, with_tok, with_sub, frame, ParserState, act, step, close_all, whole, file_place, start}
use Rattle.src_tree.proofs.Checked.{items_ok}
use Rattle.src_tree.proofs.Follow.{calm, calm_at, idle, acts, is_none, ok, all_ends, good, implies}
use Rattle.src_tree.proofs.Facts.{picks, no_more, here_of, ok_move, ok_behind, idle_calm, opens_alone, follows_on, good_part, stands_behind, joins_as, begins_as, entry_is_ok, joined_is_ok, begin_if_allowed, join_rows, join_begins, implied}

-- trees without places
abbrev pub Tree : Type 0
Tree = SyntaxNode (Unit {0})

abbrev pub Held : Type 0
Held = Parts (Unit {0})

abbrev pub Stack : Type 0
Stack = ParserState (Unit {0})

abbrev pub step_if : Option Stack → Token → Option Stack
step_if o t = and_then o (λ s. step s t tt)

abbrev pub run : List Token → Option Stack → Option Stack
run [] o = o
run (t ∷ ts) o = run ts (step_if o t)

-- parts behind parts
abbrev pub and_parts_of : Held → Held → Held
and_parts_of end m = m
and_parts_of (tok t rest) m = tok t (and_parts_of rest m)
and_parts_of (sub g rest) m = sub g (and_parts_of rest m)

pub with_tok_and : (d : Held) (t : Token) (m : Held) → and_parts_of (with_tok d t) m ≡ and_parts_of d (tok t m)
with_tok_and end t m = refl
with_tok_and (tok u rest) t m = ap (λ z. tok u z) (with_tok_and rest t m)
with_tok_and (sub g rest) t m = ap (λ z. sub g z) (with_tok_and rest t m)

pub with_sub_and : (d : Held) (g : Tree) (m : Held) → and_parts_of (with_sub d g) m ≡ and_parts_of d (sub g m)
with_sub_and end g m = refl
with_sub_and (tok u rest) g m = ap (λ z. tok u z) (with_sub_and rest g m)
with_sub_and (sub h rest) g m = ap (λ z. sub h z) (with_sub_and rest g m)

pub and_end : (d : Held) → and_parts_of d end ≡ d
and_end end = refl
and_end (tok u rest) = ap (λ z. tok u z) (and_end rest)
and_end (sub h rest) = ap (λ z. sub h z) (and_end rest)

-- a state does as this frame would, where the frame does anything or lets be what ends there, and at the end
pub record Stands (s : Stack) (c : GrammarPlace) (q : GrammarRest) (d : Held) (S : Stack) : Type 0 where
  pub acting : (t : Token) → acts c.head q t ≡ true → step s t tt ≡ act S c q tt d t tt
  pub ending : (r : GrammarRow) → made q ≡ Some r → whole s ≡ close_all S c q tt d

-- what was read of a node, and that it is there as a whole
abbrev pub Reads : List Token → List Token → Stack → GrammarPlace → GrammarRow → Held → Stack → Type 0
Reads ts k s0 c r d S = (s : Stack) × (q : GrammarRest) × (run ts (Some s0) ≡ run k (Some s)) × Stands s c q d S × (made q ≡ Some r) × (ok c.head q ≡ true)

pub none_or : {X : Type 0} (o : Option X) → is_none o ≡ true → o ≡ None
none_or None h = refl
none_or (Some x) h = absurd (cc)

or_some : (a b : Bool) → a ≡ true → (a || b) ≡ true
or_some true b h = refl
or_some false b h = absurd (cc)

or_other : (a b : Bool) → b ≡ true → (a || b) ≡ true
or_other true b h = refl
or_other false b h = h

-- a token that moves acts, and so does one that opens a part
pub move_acts : (h : Bool) (q : GrammarRest) (t : Token) (q1 : GrammarRest) → move q t ≡ Some q1 → acts h q t ≡ true
move_acts h q t q1 e = rw e refl

pub opens_acts : (h : Bool) (q : GrammarRest) (t : Token) (e : GrammarPlace × GrammarRest) → opens h q t ≡ Some e → acts h q t ≡ true
opens_acts h q t e o = go (is_none (move q t))
  where
    go : (b : Bool) → (not (b && is_none (opens h q t)) || calm_at h (made q) t) ≡ true
    go true = rw o refl
    go false = refl

calm_acts : (h : Bool) (q : GrammarRest) (t : Token) (r : GrammarRow) → made q ≡ Some r → calm h r t ≡ true → acts h q t ≡ true
calm_acts h q t r m c = or_other (not (idle h q t)) (calm_at h (made q) t) (ap (λ o. calm_at h o t) m ∙ c)

-- what a frame does with a token by which it moves, opens a part, or does nothing itself
act_move : (S : Stack) (c : GrammarPlace) (q : GrammarRest) (d : Held) (t : Token) (q1 : GrammarRest) → move q t ≡ Some q1 → act S c q tt d t tt ≡ Some (frame c q1 tt (with_tok d t) ∷ S)
act_move [] c q d t q1 e = rw e refl
act_move (frame c0 q0 a0 d0 ∷ S) c q d t q1 e = rw e refl

act_open : (S : Stack) (c : GrammarPlace) (q : GrammarRest) (d : Held) (t : Token) (e : GrammarPlace × GrammarRest) → move q t ≡ None → opens c.head q t ≡ Some e
    → act S c q tt d t tt ≡ Some (frame e.0 e.1 tt (tok t end) ∷ frame c q tt d ∷ S)
act_open [] c q d t e m o = rw (m, o) refl
act_open (frame c0 q0 a0 d0 ∷ S) c q d t e m o = rw (m, o) refl

act_join : (S : Stack) (c : GrammarPlace) (q : GrammarRest) (d : Held) (t : Token) (r : GrammarRow) (q1 : GrammarRest) → move q t ≡ None → opens c.head q t ≡ None → made q ≡ Some r
    → joins c r t ≡ Some q1 → act S c q tt d t tt ≡ Some (frame c q1 tt (sub (node tt r d) (tok t end)) ∷ S)
act_join [] c q d t r q1 m o k j = rw (m, o, k, j) refl
act_join (frame c0 q0 a0 d0 ∷ S) c q d t r q1 m o k j = rw (m, o, k, j) refl

act_hand : (S : Stack) (c0 : GrammarPlace) (q0 : GrammarRest) (d0 : Held) (c : GrammarPlace) (q : GrammarRest) (d : Held) (t : Token) (r : GrammarRow) → move q t ≡ None → opens c.head q t ≡ None → made q ≡ Some r
    → joins c r t ≡ None → allowed c r ≡ true → act (frame c0 q0 tt d0 ∷ S) c q tt d t tt ≡ act S c0 (behind q0 r) tt (with_sub d0 (node tt r d)) t tt
act_hand S c0 q0 d0 c q d t r m o k j a = rw (m, o, k, j, a) refl

-- a node that ended and may stand there is handed on
pub handed : (s : Stack) (S : Stack) (c0 : GrammarPlace) (q0 : GrammarRest) (d0 : Held) (p : GrammarPart) (q : GrammarRest) (d : Held) (r : GrammarRow) → ok c0.head q0 ≡ true → due q0 ≡ Some p
    → Stands s (place_of c0.head p) q d (frame c0 q0 tt d0 ∷ S) → made q ≡ Some r → ok (place_of c0.head p).head q ≡ true → allowed (place_of c0.head p) r ≡ true
    → Stands s c0 (behind q0 r) (with_sub d0 (node tt r d)) S
handed s S c0 q0 d0 p q d r k0 e st m k a =
    let c = place_of c0.head p in
    let w0 = here_of c0.head q0 k0 in
    record {
      acting = λ t x.
          let f = follows_on c0.head q0 p r t w0 e x in
          let b = stands_behind c r t (good_part c0.head q0 p w0 e) a f in
          let i = and_parts (is_none (move q t)) (is_none (opens c.head q t)) (idle_calm c.head q r t (here_of c.head q k) m b.0) in
          st.acting t (calm_acts c.head q t r m b.0)
          ∙ act_hand S c0 q0 d0 c q d t r (none_or _ i.0) (none_or _ i.1) m b.1 a;
      ending = λ r1 m1. st.ending r m ∙ closes c0.head p e m a;
    }
  where
    closes : (h : Bool) (p : GrammarPart) → due q0 ≡ Some p → made q ≡ Some r → allowed (place_of h p) r ≡ true
        → close_all (frame c0 q0 tt d0 ∷ S) (place_of h p) q tt d ≡ close_all S c0 (behind q0 r) tt (with_sub d0 (node tt r d))
    closes h p e m a = rw (m, a) refl

ends_made : (f : GrammarRow → Bool) (q : GrammarRest) (r : GrammarRow) → all_ends f q ≡ true → made q ≡ Some r → f r ≡ true
ends_made f (ends x) r a m = let e : x ≡ r = cc in ap f (sym e) ∙ a
ends_made f (token k after) r a m = absurd (cc)
ends_made f (either k after other) r a m = ends_made f other r (and_parts (all_ends f after) (all_ends f other) a).1 m
ends_made f (part p after) r a m = absurd (cc)
ends_made f (maybe p after x) r a m = let e : x ≡ r = cc in ap f (sym e) ∙ (and_parts (f x) (all_ends f after) a).0
ends_made f (list p later dots close after) r a m = absurd (cc)
ends_made f (more p dots close after) r a m = absurd (cc)
ends_made f (many p close after) r a m = absurd (cc)
ends_made f items r a m = let e : GrammarRow.File ≡ r = cc in ap f (sym e) ∙ a
ends_made f alternatives r a m = let e : GrammarRow.OrPattern ≡ r = cc in ap f (sym e) ∙ a
ends_made f (statements o) r a m = absurd (cc)
ends_made f (arms o) r a m = absurd (cc)
ends_made f arm_body r a m = absurd (cc)
ends_made f after_break r a m = let e : GrammarRow.Break ≡ r = cc in ap f (sym e) ∙ a

ends_move : (f : GrammarRow → Bool) (q : GrammarRest) (t : Token) (q1 : GrammarRest) → all_ends f q ≡ true → move q t ≡ Some q1 → all_ends f q1 ≡ true
ends_move f (ends x) t q1 a e = no_more _ q1 e
ends_move f (token k after) t q1 a e = picks (λ q. all_ends f q ≡ true) (is k t) after None q1 e a (no_more _ q1)
ends_move f (either k after other) t q1 a e =
    let b = and_parts (all_ends f after) (all_ends f other) a in
    picks (λ q. all_ends f q ≡ true) (is k t) after (move other t) q1 e b.0 (ends_move f other t q1 b.1)
ends_move f (part p after) t q1 a e = no_more _ q1 e
ends_move f (maybe p after x) t q1 a e = no_more _ q1 e
ends_move f (list p later dots close after) t q1 a e =
    picks (λ q. all_ends f q ≡ true) (is close t) after (if dots && is (TokenKind.Mark Mark.DotDot) t then Some (token close after) else None) q1 e a
    (λ x. picks (λ q. all_ends f q ≡ true) (dots && is (TokenKind.Mark Mark.DotDot) t) (token close after) None q1 x a (no_more _ q1))
ends_move f (more p dots close after) t q1 a e =
    picks (λ q. all_ends f q ≡ true) (is close t) after (if is comma t then Some (list p p dots close after) else None) q1 e a
    (λ x. picks (λ q. all_ends f q ≡ true) (is comma t) (list p p dots close after) None q1 x a (no_more _ q1))
ends_move f (many p close after) t q1 a e = picks (λ q. all_ends f q ≡ true) (is close t) after None q1 e a (no_more _ q1)
ends_move f items t q1 a e = no_more _ q1 e
ends_move f alternatives t q1 a e = picks (λ q. all_ends f q ≡ true) (is (TokenKind.Mark Mark.Or) t) _ None q1 e a (no_more _ q1)
ends_move f (statements o) t q1 a e = picks (λ q. all_ends f q ≡ true) (is (TokenKind.Mark Mark.CloseBrace) t) (ends GrammarRow.Block) None q1 e a (no_more _ q1)
ends_move f (arms o) t q1 a e = picks (λ q. all_ends f q ≡ true) (o && is (TokenKind.Mark Mark.CloseBrace) t) (ends GrammarRow.Match) None q1 e a (no_more _ q1)
ends_move f arm_body t q1 a e = no_more _ q1 e
ends_move f after_break t q1 a e = no_more _ q1 e

ends_statement : (f : GrammarRow → Bool) (r : GrammarRow) → f GrammarRow.Block ≡ true → all_ends f (behind_statement r) ≡ true
ends_statement f GrammarRow.Let a = a
ends_statement f _ a = a

ends_arm : (f : GrammarRow → Bool) (r : GrammarRow) → f GrammarRow.Match ≡ true → all_ends f (behind_arm r) ≡ true
ends_arm f GrammarRow.Arm a = a
ends_arm f _ a = a

ends_body : (f : GrammarRow → Bool) (r : GrammarRow) → f GrammarRow.Arm ≡ true → f GrammarRow.LastArm ≡ true → all_ends f (behind_body r) ≡ true
ends_body f GrammarRow.Block a b = and_from _ _ a a
ends_body f _ a b = and_from _ _ a b

ends_break : (f : GrammarRow → Bool) (r : GrammarRow) → f GrammarRow.Break ≡ true → all_ends f (behind_break r) ≡ true
ends_break f GrammarRow.LabelName a = and_from _ _ a a
ends_break f _ a = a

ends_behind : (f : GrammarRow → Bool) (q : GrammarRest) (r : GrammarRow) → all_ends f q ≡ true → all_ends f (behind q r) ≡ true
ends_behind f (ends x) r a = a
ends_behind f (token k after) r a = a
ends_behind f (either k after other) r a = ends_behind f other r (and_parts (all_ends f after) (all_ends f other) a).1
ends_behind f (part p after) r a = a
ends_behind f (maybe p after x) r a = (and_parts (f x) (all_ends f after) a).1
ends_behind f (list p later dots close after) r a = a
ends_behind f (more p dots close after) r a = a
ends_behind f (many p close after) r a = a
ends_behind f items r a = a
ends_behind f alternatives r a = a
ends_behind f (statements o) r a = ends_statement f r a
ends_behind f (arms o) r a = ends_arm f r a
ends_behind f arm_body r a = let b = and_parts (f GrammarRow.Arm) (f GrammarRow.LastArm) a in ends_body f r b.0 b.1
ends_behind f after_break r a = ends_break f r a

-- the row that parts make is one that the rest may end as
pub ends_as : (f : GrammarRow → Bool) (h : Bool) (q : GrammarRest) (r : GrammarRow) (ps : Held) → all_ends f q ≡ true → Follows h (Some q) r ps → f r ≡ true
ends_as f h q r end a w = ends_made f q r a w
ends_as f h q r (tok t rest) a w = go (λ q1 b x. ends_as f h q1 r rest b x) (move q t) refl w
  where
    go : ((q1 : GrammarRest) → all_ends f q1 ≡ true → Follows h (Some q1) r rest → f r ≡ true) → (o : Option GrammarRest) → move q t ≡ o → Follows h o r rest → f r ≡ true
    go ih None e x = absurd x
    go ih (Some q1) e x = ih q1 (ends_move f q t q1 a e) x
ends_as f h q r (sub g rest) a w = ends_as f h (behind q (row_of g)) r rest (ends_behind f q (row_of g) a) w.1

begun_of : (c : GrammarPlace) (g : Tree) → Levelled (Some c) g → (allowed c (row_of g) ≡ true) × Begun (seen c) (row_of g) (parts_of g)
begun_of c (node at r ps) l = l

node_is : (g : Tree) → node tt (row_of g) (parts_of g) ≡ g
node_is (node at r ps) = refl

opens_as : (h : Bool) (q : GrammarRest) (p : GrammarPart) (t : Token) (e : NodeBeginning) → due q ≡ Some p → entry (seen (place_of h p)) t ≡ Some e → may_begin (place_of h p) e.row ≡ true
    → opens h q t ≡ Some (place_of h p, e.rest)
opens_as h q p t e d x m =
    ap (λ o. and_then (option_map (place_of h) o) (begin_at t)) d
    ∙ ap (λ o. and_then o (λ e. only_if (may_begin (place_of h p) e.row) (Some (place_of h p, e.rest)))) x
    ∙ ap (λ b. only_if b (Some (place_of h p, e.rest))) m

-- the parts that follow, from any state that stands there
abbrev pub RestRead : Held → Type 0
RestRead ps = (c : GrammarPlace) (q : GrammarRest) (d : Held) (S s0 : Stack) (k : List Token) (r : GrammarRow) → ok c.head q ≡ true → Stands s0 c q d S → Follows c.head (Some q) r ps
    → Reads (spell_parts ps k) k s0 c r (and_parts_of d ps) S

pub standing : (c : GrammarPlace) (q : GrammarRest) (d : Held) (S : Stack) → Stands (frame c q tt d ∷ S) c q d S
standing c q d S = record { acting = λ t x. refl; ending = λ r m. refl }

-- a node begins with a token
by_entry : (c0 : GrammarPlace) (q0 : GrammarRest) (d0 : Held) (S0 s0 : Stack) (p : GrammarPart) (k : List Token) (t : Token) (rest : Held) (r : GrammarRow) → RestRead rest → ok c0.head q0 ≡ true → due q0 ≡ Some p → Stands s0 c0 q0 d0 S0
    → may_begin (place_of c0.head p) r ≡ true → (o : Option NodeBeginning) → entry (seen (place_of c0.head p)) t ≡ o → Follows (place_of c0.head p).head (option_map (λ e. e.rest) o) r rest
    → Reads (t ∷ spell_parts rest k) k s0 (place_of c0.head p) r (tok t rest) (frame c0 q0 tt d0 ∷ S0)
by_entry c0 q0 d0 S0 s0 p k t rest r ih k0 d st b None e f = absurd f
by_entry c0 q0 d0 S0 s0 p k t rest r ih k0 d st b (Some x) e f =
    let c = place_of c0.head p in
    let w0 = here_of c0.head q0 k0 in
    let m = implied (may_begin c r) (may_begin c x.row) (ends_as (λ y. implies (may_begin c y) (may_begin c x.row)) c.head x.rest r rest (begins_as c t x (good_part c0.head q0 p w0 d) e) f) b in
    let o = opens_as c0.head q0 p t x d e m in
    let n = opens_alone c0.head q0 p t w0 d (ap (λ z. is_none z) o) in
    let (s, q, run_, at_, made_, ok_) = ih c x.rest (tok t end) (frame c0 q0 tt d0 ∷ S0) (frame c x.rest tt (tok t end) ∷ frame c0 q0 tt d0 ∷ S0) k r (entry_is_ok c t x e) (standing c x.rest (tok t end) _) f in
    (s, q, ap (run (spell_parts rest k)) (st.acting t (opens_acts c0.head q0 t _ o) ∙ act_open S0 c0 q0 d0 t _ (none_or _ n) o) ∙ run_, at_, made_, ok_)

-- a node begins with a part
pub by_join : (c : GrammarPlace) (S s1 : Stack) (q1 : GrammarRest) (k : List Token) (g : Tree) (t : Token) (rest : Held) (r : GrammarRow) → RestRead rest → good c ≡ true
    → Stands s1 c q1 (parts_of g) S → made q1 ≡ Some (row_of g) → ok c.head q1 ≡ true
    → (j : Joined) → joined (seen c) t ≡ Some j → may_begin c j.row ≡ true → allowed j.place (row_of g) ≡ true → calm c.head (row_of g) t ≡ true → Follows c.head (Some j.rest) r rest
    → Reads (t ∷ spell_parts rest k) k s1 c r (sub g (tok t rest)) S
by_join c S s1 q1 k g t rest r ih gd st m k1 j e b a cm f =
    let i = and_parts (is_none (move q1 t)) (is_none (opens c.head q1 t)) (idle_calm c.head q1 (row_of g) t (here_of c.head q1 k1) m cm) in
    let js : joins c (row_of g) t ≡ Some j.rest = ap (λ o. and_then o (λ j. only_if (may_begin c j.row && allowed j.place (row_of g)) (Some j.rest))) e ∙ ap (λ b. only_if b (Some j.rest)) (and_from _ _ b a) in
    let (s, q, run_, at_, made_, ok_) = ih c j.rest (sub g (tok t end)) S (frame c j.rest tt (sub g (tok t end)) ∷ S) k r (joined_is_ok c t j e) (standing c j.rest (sub g (tok t end)) S) f in (
      s,
      q,
      ap (run (spell_parts rest k)) (st.acting t (calm_acts c.head q1 t (row_of g) m cm) ∙ act_join S c q1 (parts_of g) t (row_of g) j.rest (none_or _ i.0) (none_or _ i.1) m js
          ∙ ap (λ z. Some (frame c j.rest tt (sub z (tok t end)) ∷ S)) (node_is g)) ∙ run_,
      at_,
      made_,
      ok_,
    )

abbrev NodeRead : Tree → Type 0
NodeRead g = (c0 : GrammarPlace) (q0 : GrammarRest) (d0 : Held) (S0 s0 : Stack) (p : GrammarPart) (k : List Token) → ok c0.head q0 ≡ true → due q0 ≡ Some p → Stands s0 c0 q0 d0 S0
    → Begun (seen (place_of c0.head p)) (row_of g) (parts_of g) → may_begin (place_of c0.head p) (row_of g) ≡ true
    → Reads (spell g k) k s0 (place_of c0.head p) (row_of g) (parts_of g) (frame c0 q0 tt d0 ∷ S0)

by_part : (c0 : GrammarPlace) (q0 : GrammarRest) (d0 : Held) (S0 s0 : Stack) (p : GrammarPart) (k : List Token) (g : Tree) (t : Token) (rest : Held) (r : GrammarRow) → NodeRead g → RestRead rest → ok c0.head q0 ≡ true → due q0 ≡ Some p → Stands s0 c0 q0 d0 S0
    → may_begin (place_of c0.head p) r ≡ true → (o : Option Joined) → joined (seen (place_of c0.head p)) t ≡ o
    → Levelled (option_map (λ j. j.place) o) g → Follows (place_of c0.head p).head (option_map (λ j. j.rest) o) r rest
    → Reads (spell g (t ∷ spell_parts rest k)) k s0 (place_of c0.head p) r (sub g (tok t rest)) (frame c0 q0 tt d0 ∷ S0)
by_part c0 q0 d0 S0 s0 p k g t rest r ig ih k0 d st b None e l f = absurd f
by_part c0 q0 d0 S0 s0 p k g t rest r ig ih k0 d st b (Some j) e l f =
    let c = place_of c0.head p in
    let gd = good_part c0.head q0 p (here_of c0.head q0 k0) d in
    let w = joins_as c t j gd e in
    let m = implied (may_begin c r) (may_begin c j.row) (ends_as (λ y. implies (may_begin c y) (may_begin c j.row)) c.head j.rest r rest (join_begins c t j w) f) b in
    let rows = join_rows c t j w m in
    let lv = begun_of j.place g l in
    let ok_row = rows.1 (row_of g) lv.0 in
    let (s1, q1, run1, at1, made1, ok1) = ig c0 q0 d0 S0 s0 p (t ∷ spell_parts rest k) k0 d st (subst (λ z. Begun z (row_of g) (parts_of g)) rows.0 lv.1) ok_row.0 in
    let (s, q, run2, at2, made2, ok2) = by_join c (frame c0 q0 tt d0 ∷ S0) s1 q1 k g t rest r ih gd at1 made1 ok1 j e m lv.0 ok_row.1 f in
    (s, q, run1 ∙ run2, at2, made2, ok2)

by_sub : (c : GrammarPlace) (q : GrammarRest) (d : Held) (S s0 : Stack) (k : List Token) (g : Tree) (rest : Held) (r : GrammarRow) → NodeRead g → RestRead rest → ok c.head q ≡ true → Stands s0 c q d S
    → (o : Option GrammarPart) → due q ≡ o → Levelled (option_map (place_of c.head) o) g → Follows c.head (Some (behind q (row_of g))) r rest
    → Reads (spell g (spell_parts rest k)) k s0 c r (and_parts_of d (sub g rest)) S
by_sub c q d S s0 k g rest r ig ih k0 st None e l f = absurd (absent g l)
  where
    absent : (g : Tree) → Levelled None g → ⊥
    absent (node at r ps) l = l
by_sub c q d S s0 k g rest r ig ih k0 st (Some p) e l f =
    let lv = begun_of (place_of c.head p) g l in
    let (s1, q1, run1, at1, made1, ok1) = ig c q d S s0 p (spell_parts rest k) k0 e st lv.1 (begin_if_allowed (place_of c.head p) (row_of g) lv.0) in
    let st2 = handed s1 S c q d p q1 (parts_of g) (row_of g) k0 e at1 made1 ok1 lv.0 in
    let st3 : Stands s1 c (behind q (row_of g)) (with_sub d g) S = subst (λ z. Stands s1 c (behind q (row_of g)) (with_sub d z) S) (node_is g) st2 in
    let (s, q2, run2, at2, made2, ok2) = ih c (behind q (row_of g)) (with_sub d g) S s1 k r (ok_behind c.head q (row_of g) k0) st3 f in
    (s, q2, run1 ∙ run2, subst (λ z. Stands s c q2 z S) (with_sub_and d g rest) at2, made2, ok2)

by_tok : (c : GrammarPlace) (q : GrammarRest) (d : Held) (S s0 : Stack) (k : List Token) (t : Token) (rest : Held) (r : GrammarRow) → RestRead rest → ok c.head q ≡ true → Stands s0 c q d S
    → (o : Option GrammarRest) → move q t ≡ o → Follows c.head o r rest → Reads (t ∷ spell_parts rest k) k s0 c r (and_parts_of d (tok t rest)) S
by_tok c q d S s0 k t rest r ih k0 st None e f = absurd f
by_tok c q d S s0 k t rest r ih k0 st (Some q1) e f =
    let (s, q2, run2, at2, made2, ok2) = ih c q1 (with_tok d t) S (frame c q1 tt (with_tok d t) ∷ S) k r (ok_move c.head q t q1 k0 e) (standing c q1 (with_tok d t) S) f in
    (s, q2, ap (run (spell_parts rest k)) (st.acting t (move_acts c.head q t q1 e) ∙ act_move S c q d t q1 e) ∙ run2, subst (λ z. Stands s c q2 z S) (with_tok_and d t rest) at2, made2, ok2)

mutual
  reads : (g : Tree) → NodeRead g
  reads (node at r ps) = λ c0 q0 d0 S0 s0 p k k0 d st b m. begun ps c0 q0 d0 S0 s0 p k r k0 d st b m

  begun : (ps : Held) (c0 : GrammarPlace) (q0 : GrammarRest) (d0 : Held) (S0 s0 : Stack) (p : GrammarPart) (k : List Token) (r : GrammarRow) → ok c0.head q0 ≡ true → due q0 ≡ Some p → Stands s0 c0 q0 d0 S0
      → Begun (seen (place_of c0.head p)) r ps → may_begin (place_of c0.head p) r ≡ true
      → Reads (spell_parts ps k) k s0 (place_of c0.head p) r ps (frame c0 q0 tt d0 ∷ S0)
  begun end c0 q0 d0 S0 s0 p k r k0 d st b m = absurd b
  begun (tok t rest) c0 q0 d0 S0 s0 p k r k0 d st b m = by_entry c0 q0 d0 S0 s0 p k t rest r (reads_rest rest) k0 d st m (entry (seen (place_of c0.head p)) t) refl b
  begun (sub g end) c0 q0 d0 S0 s0 p k r k0 d st b m = absurd b
  begun (sub g (sub h rest)) c0 q0 d0 S0 s0 p k r k0 d st b m = absurd b
  begun (sub g (tok t rest)) c0 q0 d0 S0 s0 p k r k0 d st b m = by_part c0 q0 d0 S0 s0 p k g t rest r (reads g) (reads_rest rest) k0 d st m (joined (seen (place_of c0.head p)) t) refl b.0 b.1

  pub reads_rest : (ps : Held) → RestRead ps
  reads_rest end = λ c q d S s0 k r k0 st f. (s0, q, refl, subst (λ z. Stands s0 c q z S) (sym (and_end d)) st, f, k0)
  reads_rest (tok t rest) = λ c q d S s0 k r k0 st f. by_tok c q d S s0 k t rest r (reads_rest rest) k0 st (move q t) refl f
  reads_rest (sub g rest) = λ c q d S s0 k r k0 st f. by_sub c q d S s0 k g rest r (reads g) (reads_rest rest) k0 st (due q) refl f.0 f.1

-- all items of a text are read
pub complete : (ps : Held) → ItemsLevelled ps → and_then (run (spell_parts ps []) (Some (start tt))) (λ s. whole s) ≡ Some (node tt GrammarRow.File ps)
complete ps l =
    let (s, q, run_, at_, made_, ok_) = reads_rest ps file_place items end [] (start tt) [] GrammarRow.File items_ok (standing file_place items end []) l in
    ap (λ o. and_then o (λ s. whole s)) run_ ∙ at_.ending GrammarRow.File made_ ∙ ap (λ o. option_map (λ r. node tt r ps) o) made_

-- so levelled trees with one spelling are one
pub unique : (a b : Held) → ItemsLevelled a → ItemsLevelled b → spell_parts a [] ≡ spell_parts b [] → a ≡ b
unique a b l m e =
    let f : Some (node tt GrammarRow.File a) ≡ Some (node tt GrammarRow.File b) = sym (complete a l) ∙ ap (λ ts. and_then (run ts (Some (start tt))) (λ s. whole s)) e ∙ complete b m in
    let g : node tt GrammarRow.File a ≡ node tt GrammarRow.File b = cc in
    ap (λ z. parts_of z) g
