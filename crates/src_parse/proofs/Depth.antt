-- How deep a levelled tree is at least that goes on from a state.
use Rattle.std.proofs.Common.{◌≡◌, ℕ, suc, ◌+◌, ◌≤◌, max, min, nat_le, Bool, true, false, ◌&&◌, ◌||◌, Some, None, [], ◌∷◌, refl, sym, ap, ◌∙◌, subst, arith, if◌then◌else◌}
use Rattle.std.proofs.lemmas.Bool.{and_parts, leb-true}
use Rattle.src_token.specs.declared.token.Token.{Token}
use Rattle.src_token.specs.declared.mark.Mark.{Mark}
use Rattle.src_tree.specs.declared.row.GrammarRow.{GrammarRow}
use Rattle.src_tree.specs.declared.row.Sort.{Sort}
use Rattle.src_tree.specs.declared.place.GrammarPlace.{GrammarPlace}
use Rattle.src_tree.specs.declared.place.GrammarPart.{GrammarPart}
use Rattle.src_tree.specs.declared.place.Start.{Start}
use Rattle.src_tree.specs.declared.kind.TokenKind.{TokenKind}
use Rattle.src_tree.specs.Grammar.{GrammarRest, ends, token, either, part, maybe, list, more, many, items, alternatives, statements, arms, arm_body, after_break, is, comma, pattern1, allowed, place_of, counts, move, due, behind, behind_statement, behind_arm, behind_body, behind_break, made}
use Rattle.src_tree.specs.Layout.{parts_depth}
use Rattle.src_tree.specs.Reading.{frame}
use Rattle.src_tree.proofs.Follow.{all_ends, is_none}
use Rattle.src_tree.proofs.Facts.{picks, no_more}
use Rattle.src_tree.proofs.Complete.{Stack}
use Rattle.src_parse.specs.Bounds.{least_place}
use Rattle.src_parse.proofs.Alive.{joinable, ender}

-- a node that may not stand there as it is becomes the first part of a parameter or an arm
abbrev pub by_start : Start → ℕ → ℕ
by_start Start.IsParam n = max n 1
by_start Start.IsArm n = suc (max n 1)
by_start _ n = n

abbrev pub settle_by : Bool → Start → ℕ → ℕ
settle_by true s n = n
settle_by false s n = by_start s n

abbrev pub settle : GrammarPlace → GrammarRow → ℕ → ℕ
settle c r n = settle_by (allowed c r) c.start n

by_start_up : (s : Start) (n : ℕ) → n ≤ by_start s n
by_start_up Start.IsParam n = omega arith
by_start_up Start.IsArm n = omega arith
by_start_up _ n = omega arith

by_start_mono : (s : Start) (n m : ℕ) → n ≤ m → by_start s n ≤ by_start s m
by_start_mono Start.IsParam n m h = omega arith
by_start_mono Start.IsArm n m h = omega arith
by_start_mono _ n m h = h

pub settle_up : (c : GrammarPlace) (r : GrammarRow) (n : ℕ) → n ≤ settle c r n
settle_up c r n = go (allowed c r)
  where
    go : (b : Bool) → n ≤ settle_by b c.start n
    go true = omega arith
    go false = by_start_up c.start n

pub settle_mono : (c : GrammarPlace) (r : GrammarRow) (n m : ℕ) → n ≤ m → settle c r n ≤ settle c r m
settle_mono c r n m h = go (allowed c r)
  where
    go : (b : Bool) → settle_by b c.start n ≤ settle_by b c.start m
    go true = h
    go false = by_start_mono c.start n m h

abbrev pub possible : GrammarPlace → GrammarRow → Bool
possible c r = allowed c r || joinable c r (ender c.start)

-- it can come to a row that may stand there
abbrev pub poss : GrammarPlace → GrammarRest → Bool
poss c (ends r) = possible c r
poss c (token k after) = poss c after
poss c (either k after other) = poss c after || poss c other
poss c (part p after) = poss c after
poss c (maybe p after r) = possible c r
poss c (list p later dots close after) = poss c after
poss c (more p dots close after) = poss c after
poss c (many p close after) = poss c after
poss c items = true
poss c alternatives = possible c GrammarRow.OrPattern
poss c (statements o) = possible c GrammarRow.Block
poss c (arms o) = possible c GrammarRow.Match
poss c arm_body = possible c GrammarRow.Arm
poss c after_break = possible c GrammarRow.Break

abbrev pub pick : Bool → Bool → ℕ → ℕ → ℕ
pick true true x y = min x y
pick true false x y = x
pick false b x y = y

abbrev arms_depth : Bool → ℕ → ℕ
arms_depth false d = max d 2
arms_depth true d = d

-- the least depth of the node there, where the parts so far are so deep
abbrev pub total : GrammarPlace → GrammarRest → ℕ → ℕ
total c (ends r) d = settle c r (counts r + d)
total c (token k after) d = total c after d
total c (either k after other) d = pick (poss c after) (poss c other) (total c after d) (total c other d)
total c (part p after) d = total c after (max d (least_place (place_of c.head p)))
total c (maybe p after r) d = settle c r (counts r + d)
total c (list p later dots close after) d = total c after d
total c (more p dots close after) d = total c after d
total c (many p close after) d = total c after d
total c items d = settle c GrammarRow.File (0 + d)
total c alternatives d = settle c GrammarRow.OrPattern (1 + d)
total c (statements o) d = settle c GrammarRow.Block (1 + d)
total c (arms o) d = settle c GrammarRow.Match (1 + arms_depth o d)
total c arm_body d = settle c GrammarRow.Arm (1 + max d 1)
total c after_break d = settle c GrammarRow.Break (1 + d)

-- the same behind the part that is due, whatever its row is
abbrev pub total_behind : GrammarPlace → GrammarRest → ℕ → ℕ
total_behind c (either k after other) m = total_behind c other m
total_behind c (part p after) m = total c after m
total_behind c (maybe p after r) m = total c after m
total_behind c (list p later dots close after) m = total c after m
total_behind c (many p close after) m = total c after m
total_behind c (statements o) m = settle c GrammarRow.Block (1 + m)
total_behind c (arms o) m = settle c GrammarRow.Match (1 + m)
total_behind c arm_body m = settle c GrammarRow.Arm (1 + m)
total_behind c after_break m = settle c GrammarRow.Break (1 + m)
total_behind c q m = settle c GrammarRow.File (0 + m)

pick_up : (a b : Bool) (n x y : ℕ) → n ≤ x → n ≤ y → n ≤ pick a b x y
pick_up true true n x y h k = omega arith
pick_up true false n x y h k = h
pick_up false b n x y h k = k

pick_mono : (a b : Bool) (x y z w : ℕ) → x ≤ z → y ≤ w → pick a b x y ≤ pick a b z w
pick_mono true true x y z w h k = omega arith
pick_mono true false x y z w h k = h
pick_mono false b x y z w h k = k

arms_up : (o : Bool) (d : ℕ) → d ≤ arms_depth o d
arms_up false d = omega arith
arms_up true d = omega arith

arms_mono : (o : Bool) (d e : ℕ) → d ≤ e → arms_depth o d ≤ arms_depth o e
arms_mono false d e h = omega arith
arms_mono true d e h = h

pub total_up : (c : GrammarPlace) (q : GrammarRest) (d : ℕ) → d ≤ total c q d
total_up c (ends r) d = let h = settle_up c r (counts r + d) in omega arith
total_up c (token k after) d = total_up c after d
total_up c (either k after other) d = pick_up (poss c after) (poss c other) d (total c after d) (total c other d) (total_up c after d) (total_up c other d)
total_up c (part p after) d = let h = total_up c after (max d (least_place (place_of c.head p))) in omega arith
total_up c (maybe p after r) d = let h = settle_up c r (counts r + d) in omega arith
total_up c (list p later dots close after) d = total_up c after d
total_up c (more p dots close after) d = total_up c after d
total_up c (many p close after) d = total_up c after d
total_up c items d = let h = settle_up c GrammarRow.File (0 + d) in omega arith
total_up c alternatives d = let h = settle_up c GrammarRow.OrPattern (1 + d) in omega arith
total_up c (statements o) d = let h = settle_up c GrammarRow.Block (1 + d) in omega arith
total_up c (arms o) d = let h = settle_up c GrammarRow.Match (1 + arms_depth o d) in let k = arms_up o d in omega arith
total_up c arm_body d = let h = settle_up c GrammarRow.Arm (1 + max d 1) in omega arith
total_up c after_break d = let h = settle_up c GrammarRow.Break (1 + d) in omega arith

pub total_mono : (c : GrammarPlace) (q : GrammarRest) (d e : ℕ) → d ≤ e → total c q d ≤ total c q e
total_mono c (ends r) d e h = settle_mono c r (counts r + d) (counts r + e) (omega arith)
total_mono c (token k after) d e h = total_mono c after d e h
total_mono c (either k after other) d e h =
    pick_mono (poss c after) (poss c other) (total c after d) (total c other d) (total c after e) (total c other e) (total_mono c after d e h) (total_mono c other d e h)
total_mono c (part p after) d e h = total_mono c after (max d (least_place (place_of c.head p))) (max e (least_place (place_of c.head p))) (omega arith)
total_mono c (maybe p after r) d e h = settle_mono c r (counts r + d) (counts r + e) (omega arith)
total_mono c (list p later dots close after) d e h = total_mono c after d e h
total_mono c (more p dots close after) d e h = total_mono c after d e h
total_mono c (many p close after) d e h = total_mono c after d e h
total_mono c items d e h = settle_mono c GrammarRow.File (0 + d) (0 + e) (omega arith)
total_mono c alternatives d e h = settle_mono c GrammarRow.OrPattern (1 + d) (1 + e) (omega arith)
total_mono c (statements o) d e h = settle_mono c GrammarRow.Block (1 + d) (1 + e) (omega arith)
total_mono c (arms o) d e h = let k = arms_mono o d e h in settle_mono c GrammarRow.Match (1 + arms_depth o d) (1 + arms_depth o e) (omega arith)
total_mono c arm_body d e h = settle_mono c GrammarRow.Arm (1 + max d 1) (1 + max e 1) (omega arith)
total_mono c after_break d e h = settle_mono c GrammarRow.Break (1 + d) (1 + e) (omega arith)

or_right : (a b : Bool) → b ≡ true → (a || b) ≡ true
or_right true b h = refl
or_right false b h = h

or_left : (a b : Bool) → a ≡ true → (a || b) ≡ true
or_left true b h = refl
or_left false b h = absurd (cc)

-- A move loses nothing.

abbrev Falls : GrammarPlace → GrammarRest → ℕ → GrammarRest → Type 0
Falls c q d q1 = poss c q1 ≡ true → (poss c q ≡ true) × (total c q d ≤ total c q1 d)

pick_first : (a b : Bool) (x y : ℕ) → a ≡ true → pick a b x y ≤ x
pick_first true true x y h = omega arith
pick_first true false x y h = omega arith
pick_first false b x y h = absurd (cc)

pick_other : (a b : Bool) (x y : ℕ) → b ≡ true → pick a b x y ≤ y
pick_other true true x y h = omega arith
pick_other true false x y h = absurd (cc)
pick_other false b x y h = omega arith

pub total_move : (c : GrammarPlace) (q : GrammarRest) (d : ℕ) (t : Token) (q1 : GrammarRest) → move q t ≡ Some q1 → Falls c q d q1
total_move c (ends r) d t q1 e = no_more _ q1 e
total_move c (token k after) d t q1 e = picks (Falls c (token k after) d) (is k t) after None q1 e (λ p. (p, omega arith)) (no_more _ q1)
total_move c (either k after other) d t q1 e =
    picks (Falls c (either k after other) d) (is k t) after (move other t) q1 e
    (λ p. (or_left (poss c after) (poss c other) p, pick_first (poss c after) (poss c other) (total c after d) (total c other d) p))
    (λ f p. let h = total_move c other d t q1 f p in let m = pick_other (poss c after) (poss c other) (total c after d) (total c other d) h.0 in let n = h.1 in
    (or_right (poss c after) (poss c other) h.0, omega arith))
total_move c (part p after) d t q1 e = no_more _ q1 e
total_move c (maybe p after r) d t q1 e = no_more _ q1 e
total_move c (list p later dots close after) d t q1 e =
    picks (Falls c (list p later dots close after) d) (is close t) after (if dots && is (TokenKind.Mark Mark.DotDot) t then Some (token close after) else None) q1 e (λ p. (p, omega arith))
    (λ f. picks (Falls c (list p later dots close after) d) (dots && is (TokenKind.Mark Mark.DotDot) t) (token close after) None q1 f (λ p. (p, omega arith)) (no_more _ q1))
total_move c (more p dots close after) d t q1 e =
    picks (Falls c (more p dots close after) d) (is close t) after (if is comma t then Some (list p p dots close after) else None) q1 e (λ p. (p, omega arith))
    (λ f. picks (Falls c (more p dots close after) d) (is comma t) (list p p dots close after) None q1 f (λ p. (p, omega arith)) (no_more _ q1))
total_move c (many p close after) d t q1 e = picks (Falls c (many p close after) d) (is close t) after None q1 e (λ p. (p, omega arith)) (no_more _ q1)
total_move c items d t q1 e = no_more _ q1 e
total_move c alternatives d t q1 e =
    picks (Falls c alternatives d) (is (TokenKind.Mark Mark.Or) t) (part pattern1 alternatives) None q1 e
    (λ p. (p, settle_mono c GrammarRow.OrPattern (1 + d) (1 + max d (least_place (place_of c.head pattern1))) (omega arith))) (no_more _ q1)
total_move c (statements o) d t q1 e = picks (Falls c (statements o) d) (is (TokenKind.Mark Mark.CloseBrace) t) (ends GrammarRow.Block) None q1 e (λ p. (p, omega arith)) (no_more _ q1)
total_move c (arms false) d t q1 e = no_more _ q1 e
total_move c (arms true) d t q1 e = picks (Falls c (arms true) d) (is (TokenKind.Mark Mark.CloseBrace) t) (ends GrammarRow.Match) None q1 e (λ p. (p, omega arith)) (no_more _ q1)
total_move c arm_body d t q1 e = no_more _ q1 e
total_move c after_break d t q1 e = no_more _ q1 e

le_trans : (x y z : ℕ) → x ≤ y → y ≤ z → x ≤ z
le_trans x y z h k = omega arith

-- What ends here is no less deep.

made_here : (c : GrammarPlace) (x r : GrammarRow) (d : ℕ) → Some x ≡ Some r → possible c r ≡ true → (possible c x ≡ true) × (settle c x (counts x + d) ≤ settle c r (counts r + d))
made_here c x r d m p =
    let e : x ≡ r = cc in (ap (possible c) e ∙ p, subst (λ z. settle c x (counts x + d) ≤ settle c z (counts z + d)) e (omega arith))

pub total_made : (c : GrammarPlace) (q : GrammarRest) (d : ℕ) (r : GrammarRow) → made q ≡ Some r → possible c r ≡ true → (poss c q ≡ true) × (total c q d ≤ settle c r (counts r + d))
total_made c (ends x) d r m p = made_here c x r d m p
total_made c (token k after) d r m p = no_more _ r m
total_made c (either k after other) d r m p =
    let h = total_made c other d r m p in
    let n = pick_other (poss c after) (poss c other) (total c after d) (total c other d) h.0 in (or_right (poss c after) (poss c other) h.0, le_trans _ _ _ n h.1)
total_made c (part x after) d r m p = no_more _ r m
total_made c (maybe x after y) d r m p = made_here c y r d m p
total_made c (list x later dots close after) d r m p = no_more _ r m
total_made c (more x dots close after) d r m p = no_more _ r m
total_made c (many x close after) d r m p = no_more _ r m
total_made c items d r m p = (refl, (made_here c GrammarRow.File r d m p).1)
total_made c alternatives d r m p = made_here c GrammarRow.OrPattern r d m p
total_made c (statements o) d r m p = no_more _ r m
total_made c (arms o) d r m p = no_more _ r m
total_made c arm_body d r m p = no_more _ r m
total_made c after_break d r m p = made_here c GrammarRow.Break r d m p

-- What a rest has to be for its parts to be counted rightly.
abbrev pub fit : GrammarPlace → GrammarRest → Bool
fit c (maybe p after r) = allowed c r && all_ends (λ x. nat_le (counts r) (counts x)) after
fit c arm_body = allowed c GrammarRow.Arm
fit c (either k after other) = (is_none (due other) || poss c other) && fit c other
fit c _ = true

settle_is : (c : GrammarPlace) (r : GrammarRow) (n : ℕ) → allowed c r ≡ true → settle c r n ≡ n
settle_is c r n a = ap (λ b. settle_by b c.start n) a

pub total_heavy : (c : GrammarPlace) (q : GrammarRest) (d k : ℕ) → all_ends (λ x. nat_le k (counts x)) q ≡ true → k + d ≤ total c q d
total_heavy c (ends r) d k a = let h = settle_up c r (counts r + d) in let l = leb-true k (counts r) a in omega arith
total_heavy c (token x after) d k a = total_heavy c after d k a
total_heavy c (either x after other) d k a =
    let b = and_parts (all_ends (λ x. nat_le k (counts x)) after) (all_ends (λ x. nat_le k (counts x)) other) a in
    pick_up (poss c after) (poss c other) (k + d) (total c after d) (total c other d) (total_heavy c after d k b.0) (total_heavy c other d k b.1)
total_heavy c (part p after) d k a = let h = total_heavy c after (max d (least_place (place_of c.head p))) k a in omega arith
total_heavy c (maybe p after r) d k a =
    let b = and_parts (nat_le k (counts r)) (all_ends (λ x. nat_le k (counts x)) after) a in
    let h = settle_up c r (counts r + d) in let l = leb-true k (counts r) b.0 in omega arith
total_heavy c (list p later dots close after) d k a = total_heavy c after d k a
total_heavy c (more p dots close after) d k a = total_heavy c after d k a
total_heavy c (many p close after) d k a = total_heavy c after d k a
total_heavy c items d k a = let h = settle_up c GrammarRow.File (0 + d) in let l = leb-true k 0 a in omega arith
total_heavy c alternatives d k a = let h = settle_up c GrammarRow.OrPattern (1 + d) in let l = leb-true k 1 a in omega arith
total_heavy c (statements o) d k a = let h = settle_up c GrammarRow.Block (1 + d) in let l = leb-true k 1 a in omega arith
total_heavy c (arms o) d k a = let h = settle_up c GrammarRow.Match (1 + arms_depth o d) in let u = arms_up o d in let l = leb-true k 1 a in omega arith
total_heavy c arm_body d k a =
    let b = and_parts (nat_le k 1) (nat_le k 1) a in
    let h = settle_up c GrammarRow.Arm (1 + max d 1) in let l = leb-true k 1 b.0 in omega arith
total_heavy c after_break d k a = let h = settle_up c GrammarRow.Break (1 + d) in let l = leb-true k 1 a in omega arith

or_from_false : (a b : Bool) → a ≡ false → (a || b) ≡ true → b ≡ true
or_from_false true b e h = absurd (cc)
or_from_false false b e h = h

-- a part that is placed takes nothing away
pub total_part : (c : GrammarPlace) (q : GrammarRest) (p : GrammarPart) (d n : ℕ) → due q ≡ Some p → fit c q ≡ true → least_place (place_of c.head p) ≤ n → total c q d ≤ total_behind c q (max d n)
total_part c (ends r) p d n e f h = absurd (cc)
total_part c (token k after) p d n e f h = absurd (cc)
total_part c (either k after other) p d n e f h =
    let g = and_parts (is_none (due other) || poss c other) (fit c other) f in
    let o = or_from_false (is_none (due other)) (poss c other) (ap (λ z. is_none z) e) g.0 in
    let m = pick_other (poss c after) (poss c other) (total c after d) (total c other d) o in
    let i = total_part c other p d n e g.1 h in omega arith
total_part c (part x after) p d n e f h =
    let s : x ≡ p = cc in
    let l : least_place (place_of c.head x) ≤ n = subst (λ z. least_place (place_of c.head z) ≤ n) (sym s) h in
    total_mono c after (max d (least_place (place_of c.head x))) (max d n) (omega arith)
total_part c (maybe x after r) p d n e f h =
    let g = and_parts (allowed c r) (all_ends (λ x. nat_le (counts r) (counts x)) after) f in
    let s = settle_is c r (counts r + d) g.0 in
    let l = total_heavy c after (max d n) (counts r) g.1 in omega arith
total_part c (list x later dots close after) p d n e f h = total_mono c after d (max d n) (omega arith)
total_part c (more x dots close after) p d n e f h = absurd (cc)
total_part c (many x close after) p d n e f h = total_mono c after d (max d n) (omega arith)
total_part c items p d n e f h = settle_mono c GrammarRow.File (0 + d) (0 + max d n) (omega arith)
total_part c alternatives p d n e f h = absurd (cc)
total_part c (statements o) p d n e f h = settle_mono c GrammarRow.Block (1 + d) (1 + max d n) (omega arith)
total_part c (arms o) p d n e f h =
    let s : GrammarPart.At record { sort = Sort.Pattern; least = 0; head = false; start = Start.IsArm } ≡ p = cc in
    let l : 2 ≤ n = subst (λ z. least_place (place_of c.head z) ≤ n) (sym s) h in
    settle_mono c GrammarRow.Match (1 + arms_depth o d) (1 + max d n) (arms_below o d n l)
  where
    arms_below : (o : Bool) (d n : ℕ) → 2 ≤ n → 1 + arms_depth o d ≤ 1 + max d n
    arms_below false d n l = omega arith
    arms_below true d n l = omega arith
total_part c arm_body p d n e f h =
    let s : GrammarPart.At (Rattle.src_tree.specs.Grammar.expr false Start.ArmBody) ≡ p = cc in
    let l : 1 ≤ n = subst (λ z. least_place (place_of c.head z) ≤ n) (sym s) h in
    settle_mono c GrammarRow.Arm (1 + max d 1) (1 + max d n) (omega arith)
total_part c after_break p d n e f h = settle_mono c GrammarRow.Break (1 + d) (1 + max d n) (omega arith)

behind_statement_total : (c : GrammarPlace) (r : GrammarRow) (m : ℕ) → total c (behind_statement r) m ≡ settle c GrammarRow.Block (1 + m)
behind_statement_total c GrammarRow.Let m = refl
behind_statement_total c _ m = refl

behind_arm_total : (c : GrammarPlace) (r : GrammarRow) (m : ℕ) → total c (behind_arm r) m ≡ settle c GrammarRow.Match (1 + m)
behind_arm_total c GrammarRow.Arm m = refl
behind_arm_total c _ m = refl

behind_break_total : (c : GrammarPlace) (r : GrammarRow) (m : ℕ) → total c (behind_break r) m ≡ settle c GrammarRow.Break (1 + m)
behind_break_total c GrammarRow.LabelName m = refl
behind_break_total c _ m = refl

pick_same : (a : Bool) (x : ℕ) → pick a a x x ≡ x
pick_same true x = omega arith
pick_same false x = refl

pick_low : (a b : Bool) (x y : ℕ) → a ≡ true → x ≤ y → pick a b x y ≡ x
pick_low true true x y e h = omega arith
pick_low true false x y e h = refl
pick_low false b x y e h = absurd (cc)

behind_expr_total : (c : GrammarPlace) (m : ℕ) → allowed c GrammarRow.Arm ≡ true
    → pick (possible c GrammarRow.Arm) (possible c GrammarRow.LastArm) (settle c GrammarRow.Arm (1 + m)) (settle c GrammarRow.LastArm (1 + m)) ≡ settle c GrammarRow.Arm (1 + m)
behind_expr_total c m a =
    pick_low (possible c GrammarRow.Arm) (possible c GrammarRow.LastArm) (settle c GrammarRow.Arm (1 + m)) (settle c GrammarRow.LastArm (1 + m)) (or_left (allowed c GrammarRow.Arm) (joinable c GrammarRow.Arm (ender c.start)) a)
    (let s = settle_is c GrammarRow.Arm (1 + m) a in let u = settle_up c GrammarRow.LastArm (1 + m) in omega arith)

behind_body_total : (c : GrammarPlace) (r : GrammarRow) (m : ℕ) → allowed c GrammarRow.Arm ≡ true → total c (behind_body r) m ≡ settle c GrammarRow.Arm (1 + m)
behind_body_total c GrammarRow.Block m a = pick_same (possible c GrammarRow.Arm) (settle c GrammarRow.Arm (1 + m))
behind_body_total c _ m a = behind_expr_total c m a

pub behind_total : (c : GrammarPlace) (q : GrammarRest) (p : GrammarPart) (r : GrammarRow) (m : ℕ) → due q ≡ Some p → fit c q ≡ true → total c (behind q r) m ≡ total_behind c q m
behind_total c (ends x) p r m e f = absurd (cc)
behind_total c (token k after) p r m e f = absurd (cc)
behind_total c (either k after other) p r m e f = behind_total c other p r m e (and_parts (is_none (due other) || poss c other) (fit c other) f).1
behind_total c (part x after) p r m e f = refl
behind_total c (maybe x after y) p r m e f = refl
behind_total c (list x later dots close after) p r m e f = refl
behind_total c (more x dots close after) p r m e f = absurd (cc)
behind_total c (many x close after) p r m e f = refl
behind_total c items p r m e f = refl
behind_total c alternatives p r m e f = absurd (cc)
behind_total c (statements o) p r m e f = behind_statement_total c r m
behind_total c (arms o) p r m e f = behind_arm_total c r m
behind_total c arm_body p r m e f = behind_body_total c r m f
behind_total c after_break p r m e f = behind_break_total c r m

pub total_behind_mono : (c : GrammarPlace) (q : GrammarRest) (p : GrammarPart) (d e : ℕ) → due q ≡ Some p → fit c q ≡ true → d ≤ e → total_behind c q d ≤ total_behind c q e
total_behind_mono c q p d e x f h =
    let a = behind_total c q p GrammarRow.File d x f in
    let b = behind_total c q p GrammarRow.File e x f in
    let m = total_mono c (behind q GrammarRow.File) d e h in omega arith

-- The least depth of a tree that goes on from a state.

abbrev pub below : Stack → ℕ → ℕ
below [] n = n
below (frame c q at d ∷ S) n = below S (total_behind c q (max (parts_depth d) n))

abbrev pub need : Stack → ℕ
need [] = 0
need (frame c q at d ∷ S) = below S (total c q (parts_depth d))
