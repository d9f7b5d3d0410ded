-- Each rest has a way to its end: checked by computation, at each place where a node may stand.
use Rattle.std.proofs.Common.{◌≡◌, ℕ, Bool, true, false, ◌&&◌, ◌||◌, Option, Some, None, List, [], ◌∷◌, refl, sym, ap, ◌∙◌, subst, if◌then◌else◌}
use Rattle.std.proofs.lemmas.Bool.{and_parts, and_from, eq-eqb}
use Rattle.src_token.specs.declared.token.Token.{Token}
use Rattle.src_token.specs.declared.mark.Mark.{Mark}
use Rattle.src_tree.specs.declared.row.GrammarRow.{GrammarRow}
use Rattle.src_tree.specs.declared.row.Sort.{Sort}
use Rattle.src_tree.specs.declared.place.GrammarPlace.{GrammarPlace}
use Rattle.src_tree.specs.declared.place.GrammarPart.{GrammarPart}
use Rattle.src_tree.specs.declared.place.Start.{Start}
use Rattle.src_tree.specs.declared.kind.TokenKind.{TokenKind}
use Rattle.src_tree.specs.Grammar.{GrammarRest, ends, token, either, part, maybe, list, more, many, items, alternatives, statements, arms, arm_body, after_break, is, comma, close_block, pattern1, seen, allowed, may_begin, place_of, move, due, behind, behind_statement, behind_arm, behind_body, behind_break, mark_number, word_number, NodeBeginning, entry, Joined, joined}
use Rattle.src_tree.specs.Layout.{node, end, tok, sub, Levelled, Follows}
use Rattle.src_tree.proofs.Samples.{samples, every, like, of_samples}
use Rattle.src_tree.proofs.Follow.{places, is_known, same_place, implies}
use Rattle.src_tree.proofs.Facts.{picks, no_more, implied, same_places}
use Rattle.src_tree.proofs.Alike.{entry_alike, joined_alike}
use Rattle.src_tree.proofs.Complete.{Tree, Held}

-- A test holds of a rest and of all that comes of it. What else is at hand beside a token is no rest of its own.
abbrev mutual
  pub everywhere : (GrammarRest → Bool) → GrammarRest → Bool
  everywhere P (ends r) = P (ends r)
  everywhere P (token k after) = P (token k after) && everywhere P after
  everywhere P (either k after other) = P (either k after other) && (everywhere P after && beyond P other)
  everywhere P (part p after) = P (part p after) && everywhere P after
  everywhere P (maybe p after r) = P (maybe p after r) && everywhere P after
  everywhere P (list p later dots close after) =
      P (list p later dots close after) && (P (more later dots close after) && (P (list later later dots close after) && (P (token close after) && everywhere P after)))
  everywhere P (more p dots close after) = P (more p dots close after) && (P (list p p dots close after) && (P (token close after) && everywhere P after))
  everywhere P (many p close after) = P (many p close after) && everywhere P after
  everywhere P items = P items
  everywhere P alternatives = P alternatives && P (part pattern1 alternatives)
  everywhere P (statements o) = P (statements false) && (P (statements true) && (P close_block && P (ends GrammarRow.Block)))
  everywhere P (arms o) = P (arms false) && (P (arms true) && (P (token (TokenKind.Mark Mark.CloseBrace) (ends GrammarRow.Match)) && P (ends GrammarRow.Match)))
  everywhere P arm_body =
      P arm_body && (P (either comma (ends GrammarRow.Arm) (ends GrammarRow.Arm)) && (P (either comma (ends GrammarRow.Arm) (ends GrammarRow.LastArm)) && P (ends GrammarRow.Arm)))
  everywhere P after_break = P after_break && (P (maybe GrammarPart.AfterReturn (ends GrammarRow.Break) GrammarRow.Break) && P (ends GrammarRow.Break))

  pub beyond : (GrammarRest → Bool) → GrammarRest → Bool
  beyond P (ends r) = true
  beyond P (token k after) = everywhere P after
  beyond P (either k after other) = everywhere P after && beyond P other
  beyond P (part p after) = everywhere P after
  beyond P (maybe p after r) = everywhere P after
  beyond P _ = false

pub at_once : (P : GrammarRest → Bool) (q : GrammarRest) → everywhere P q ≡ true → P q ≡ true
at_once P (ends r) h = h
at_once P (token k after) h = (and_parts _ _ h).0
at_once P (either k after other) h = (and_parts _ _ h).0
at_once P (part p after) h = (and_parts _ _ h).0
at_once P (maybe p after r) h = (and_parts _ _ h).0
at_once P (list p later dots close after) h = (and_parts _ _ h).0
at_once P (more p dots close after) h = (and_parts _ _ h).0
at_once P (many p close after) h = (and_parts _ _ h).0
at_once P items h = h
at_once P alternatives h = (and_parts _ _ h).0
at_once P (statements false) h = (and_parts _ _ h).0
at_once P (statements true) h = (and_parts _ _ (and_parts (P (statements false)) _ h).1).0
at_once P (arms false) h = (and_parts _ _ h).0
at_once P (arms true) h = (and_parts _ _ (and_parts (P (arms false)) _ h).1).0
at_once P arm_body h = (and_parts _ _ h).0
at_once P after_break h = (and_parts _ _ h).0

moved_beyond : (P : GrammarRest → Bool) (q : GrammarRest) (t : Token) (q1 : GrammarRest) → beyond P q ≡ true → move q t ≡ Some q1 → everywhere P q1 ≡ true
moved_beyond P (token k after) t q1 h e = picks (λ q. everywhere P q ≡ true) (is k t) after None q1 e h (no_more _ q1)
moved_beyond P (either k after other) t q1 h e =
    let b = and_parts (everywhere P after) (beyond P other) h in
    picks (λ q. everywhere P q ≡ true) (is k t) after (move other t) q1 e b.0 (moved_beyond P other t q1 b.1)
moved_beyond P (ends r) t q1 h e = no_more _ q1 e
moved_beyond P (part p after) t q1 h e = no_more _ q1 e
moved_beyond P (maybe p after r) t q1 h e = no_more _ q1 e
moved_beyond P _ t q1 h e = absurd (cc)

behind_beyond : (P : GrammarRest → Bool) (q : GrammarRest) (p : GrammarPart) (r : GrammarRow) → beyond P q ≡ true → due q ≡ Some p → everywhere P (behind q r) ≡ true
behind_beyond P (token k after) p r h d = absurd (cc)
behind_beyond P (either k after other) p r h d = behind_beyond P other p r (and_parts (everywhere P after) (beyond P other) h).1 d
behind_beyond P (ends x) p r h d = absurd (cc)
behind_beyond P (part x after) p r h d = h
behind_beyond P (maybe x after y) p r h d = h
behind_beyond P _ p r h d = absurd (cc)

pub and_moved : (P : GrammarRest → Bool) (q : GrammarRest) (t : Token) (q1 : GrammarRest) → everywhere P q ≡ true → move q t ≡ Some q1 → everywhere P q1 ≡ true
and_moved P (ends r) t q1 h e = no_more _ q1 e
and_moved P (token k after) t q1 h e = picks (λ q. everywhere P q ≡ true) (is k t) after None q1 e (and_parts (P (token k after)) _ h).1 (no_more _ q1)
and_moved P (either k after other) t q1 h e =
    let a = and_parts (P (either k after other)) _ h in
    let b = and_parts (everywhere P after) (beyond P other) a.1 in
    picks (λ q. everywhere P q ≡ true) (is k t) after (move other t) q1 e b.0 (moved_beyond P other t q1 b.1)
and_moved P (part p after) t q1 h e = no_more _ q1 e
and_moved P (maybe p after r) t q1 h e = no_more _ q1 e
and_moved P (list p later dots close after) t q1 h e =
    let a = and_parts (P (list p later dots close after)) _ h in
    let b = and_parts (P (more later dots close after)) _ a.1 in
    let c = and_parts (P (list later later dots close after)) _ b.1 in
    let d = and_parts (P (token close after)) (everywhere P after) c.1 in
    picks (λ q. everywhere P q ≡ true) (is close t) after (if dots && is (TokenKind.Mark Mark.DotDot) t then Some (token close after) else None) q1 e d.1
    (λ f. picks (λ q. everywhere P q ≡ true) (dots && is (TokenKind.Mark Mark.DotDot) t) (token close after) None q1 f c.1 (no_more _ q1))
and_moved P (more p dots close after) t q1 h e =
    let a = and_parts (P (more p dots close after)) _ h in
    let b = and_parts (P (list p p dots close after)) _ a.1 in
    let d = and_parts (P (token close after)) (everywhere P after) b.1 in
    picks (λ q. everywhere P q ≡ true) (is close t) after (if is comma t then Some (list p p dots close after) else None) q1 e d.1
    (λ f. picks (λ q. everywhere P q ≡ true) (is comma t) (list p p dots close after) None q1 f
    (and_from _ _ b.0 (and_from _ _ a.0 (and_from _ _ b.0 b.1))) (no_more _ q1))
and_moved P (many p close after) t q1 h e = picks (λ q. everywhere P q ≡ true) (is close t) after None q1 e (and_parts (P (many p close after)) _ h).1 (no_more _ q1)
and_moved P items t q1 h e = no_more _ q1 e
and_moved P alternatives t q1 h e =
    picks (λ q. everywhere P q ≡ true) (is (TokenKind.Mark Mark.Or) t) _ None q1 e (and_from _ _ (and_parts (P alternatives) _ h).1 h) (no_more _ q1)
and_moved P (statements o) t q1 h e =
    picks (λ q. everywhere P q ≡ true) (is (TokenKind.Mark Mark.CloseBrace) t) (ends GrammarRow.Block) None q1 e
    (and_parts (P close_block) _ (and_parts (P (statements true)) _ (and_parts (P (statements false)) _ h).1).1).1 (no_more _ q1)
and_moved P (arms o) t q1 h e =
    picks (λ q. everywhere P q ≡ true) (o && is (TokenKind.Mark Mark.CloseBrace) t) (ends GrammarRow.Match) None q1 e
    (and_parts (P (token (TokenKind.Mark Mark.CloseBrace) (ends GrammarRow.Match))) _ (and_parts (P (arms true)) _ (and_parts (P (arms false)) _ h).1).1).1 (no_more _ q1)
and_moved P arm_body t q1 h e = no_more _ q1 e
and_moved P after_break t q1 h e = no_more _ q1 e

and_parts_twice : (a b c : Bool) → (a && (b && c)) ≡ true → c ≡ true
and_parts_twice a b c h = (and_parts b c (and_parts a (b && c) h).1).1

behind_a_statement : (P : GrammarRest → Bool) (r : GrammarRow) → everywhere P (statements false) ≡ true → everywhere P (behind_statement r) ≡ true
behind_a_statement P GrammarRow.Let h = h
behind_a_statement P GrammarRow.Semi h = h
behind_a_statement P GrammarRow.Empty h = h
behind_a_statement P GrammarRow.Block h = h
behind_a_statement P GrammarRow.If h = h
behind_a_statement P GrammarRow.Match h = h
behind_a_statement P GrammarRow.Loop h = h
behind_a_statement P GrammarRow.While h = h
behind_a_statement P _ h = and_parts_twice (P (statements false)) (P (statements true)) _ h

behind_an_arm : (P : GrammarRest → Bool) (r : GrammarRow) → everywhere P (arms true) ≡ true → everywhere P (behind_arm r) ≡ true
behind_an_arm P GrammarRow.Arm h = h
behind_an_arm P _ h = and_parts_twice (P (arms false)) (P (arms true)) _ h

behind_an_expr : (P : GrammarRest → Bool) → everywhere P arm_body ≡ true → everywhere P (either comma (ends GrammarRow.Arm) (ends GrammarRow.LastArm)) ≡ true
behind_an_expr P h =
    let a = and_parts (P arm_body) _ h in
    let b = and_parts (P (either comma (ends GrammarRow.Arm) (ends GrammarRow.Arm))) _ a.1 in
    let c = and_parts (P (either comma (ends GrammarRow.Arm) (ends GrammarRow.LastArm))) _ b.1 in
    and_from _ _ c.0 (and_from _ _ c.1 refl)

behind_a_body : (P : GrammarRest → Bool) (r : GrammarRow) → everywhere P arm_body ≡ true → everywhere P (behind_body r) ≡ true
behind_a_body P GrammarRow.Block h =
    let a = and_parts (P arm_body) _ h in
    let b = and_parts (P (either comma (ends GrammarRow.Arm) (ends GrammarRow.Arm))) _ a.1 in
    let c = and_parts (P (either comma (ends GrammarRow.Arm) (ends GrammarRow.LastArm))) _ b.1 in
    and_from _ _ b.0 (and_from _ _ c.1 refl)
behind_a_body P _ h = behind_an_expr P h

behind_a_break : (P : GrammarRest → Bool) (r : GrammarRow) → everywhere P after_break ≡ true → everywhere P (behind_break r) ≡ true
behind_a_break P GrammarRow.LabelName h = (and_parts (P after_break) _ h).1
behind_a_break P _ h = and_parts_twice (P after_break) (P (maybe GrammarPart.AfterReturn (ends GrammarRow.Break) GrammarRow.Break)) _ h

pub and_behind : (P : GrammarRest → Bool) (q : GrammarRest) (p : GrammarPart) (r : GrammarRow) → everywhere P q ≡ true → due q ≡ Some p → everywhere P (behind q r) ≡ true
and_behind P (ends x) p r h d = h
and_behind P (token k after) p r h d = h
and_behind P (either k after other) p r h d = behind_beyond P other p r (and_parts (everywhere P after) (beyond P other) (and_parts (P (either k after other)) _ h).1).1 d
and_behind P (part x after) p r h d = (and_parts (P (part x after)) _ h).1
and_behind P (maybe x after y) p r h d = (and_parts (P (maybe x after y)) _ h).1
and_behind P (list x later dots close after) p r h d =
    let a = and_parts (P (list x later dots close after)) _ h in
    let b = and_parts (P (more later dots close after)) _ a.1 in
    let c = and_parts (P (list later later dots close after)) _ b.1 in
    and_from _ _ b.0 (and_from _ _ c.0 c.1)
and_behind P (more x dots close after) p r h d = h
and_behind P (many x close after) p r h d = h
and_behind P items p r h d = h
and_behind P alternatives p r h d = h
and_behind P (statements false) p r h d = behind_a_statement P r h
and_behind P (statements true) p r h d = behind_a_statement P r h
and_behind P (arms false) p r h d = behind_an_arm P r h
and_behind P (arms true) p r h d = behind_an_arm P r h
and_behind P arm_body p r h d = behind_a_body P r h
and_behind P after_break p r h d = behind_a_break P r h

-- A way to the end.

abbrev pub sample : TokenKind → Token
sample (TokenKind.Mark m) = Token.Mark m
sample (TokenKind.Word w) = Token.Word w
sample TokenKind.Name = Token.Name []
sample TokenKind.Number = Token.Number 0 None
sample TokenKind.Digits = Token.Number 0 None
sample TokenKind.Label = Token.Label []
sample TokenKind.Text = Token.Text []
sample TokenKind.Derive = Token.Name (100 ∷ 101 ∷ 114 ∷ 105 ∷ 118 ∷ 101 ∷ [])

pub is_sample : (k : TokenKind) → is k (sample k) ≡ true
is_sample (TokenKind.Mark m) = eq-eqb (mark_number m) (mark_number m) refl
is_sample (TokenKind.Word w) = eq-eqb (word_number w) (word_number w) refl
is_sample other = refl

abbrev pub leaf_block : Tree
leaf_block = node tt GrammarRow.Block (tok (Token.Mark Mark.OpenBrace) (tok (Token.Mark Mark.CloseBrace) end))

abbrev leaf_expr : Start → Tree
leaf_expr Start.OnlyBlock = leaf_block
leaf_expr Start.BlockOrIf = leaf_block
leaf_expr _ = node tt GrammarRow.Number (tok (Token.Number 0 None) end)

abbrev leaf_type : Tree
leaf_type = node tt GrammarRow.NeverType (tok (Token.Mark Mark.Not) end)

-- a tree that may stand there
abbrev pub leaf : GrammarPlace → Tree
leaf c = elim c.sort [
  | Sort.Expr ↦ leaf_expr c.start
  | Sort.Type_ ↦ leaf_type
  | Sort.Pattern ↦ node tt GrammarRow.WildPattern (tok (Token.Mark Mark.Underscore) end)
  | _ ↦ node tt GrammarRow.Ident (tok (Token.Name []) end)
]

abbrev pub leaf_arm : Tree
leaf_arm = node tt GrammarRow.Arm (sub (node tt GrammarRow.WildPattern (tok (Token.Mark Mark.Underscore) end)) (tok (Token.Mark Mark.FatArrow) (sub leaf_block end)))

abbrev in_place : Sort → ℕ → Bool → Start → GrammarPlace
in_place s n h b = record { sort = s; least = n; head = h; start = b }

abbrev pub leaf_places : List GrammarPlace
leaf_places =
    in_place Sort.Name 0 false Start.Anything ∷ in_place Sort.Type_ 0 false Start.Anything ∷ in_place Sort.Pattern 0 false Start.Anything ∷ in_place Sort.Pattern 1 false Start.Anything
    ∷ in_place Sort.Expr 0 false Start.Anything ∷ in_place Sort.Expr 0 true Start.Anything ∷ in_place Sort.Expr 0 false Start.OnlyBlock ∷ in_place Sort.Expr 0 false Start.BlockOrIf
    ∷ in_place Sort.Expr 3 false Start.Anything ∷ in_place Sort.Expr 4 false Start.Anything ∷ in_place Sort.Expr 5 false Start.Anything ∷ in_place Sort.Expr 6 false Start.Anything
    ∷ in_place Sort.Expr 7 false Start.Anything ∷ in_place Sort.Expr 3 true Start.Anything ∷ in_place Sort.Expr 4 true Start.Anything ∷ in_place Sort.Expr 5 true Start.Anything
    ∷ in_place Sort.Expr 6 true Start.Anything ∷ in_place Sort.Expr 7 true Start.Anything ∷ []

abbrev pub AllLeaves : List GrammarPlace → Type 0
AllLeaves [] = Unit {0}
AllLeaves (c ∷ cs) = Levelled (Some c) (leaf c) × AllLeaves cs

pub all_leaves : AllLeaves leaf_places
all_leaves = (
  (refl, refl),
  (
    (refl, refl),
    (
      (refl, refl),
      (
        (refl, refl),
        (
          (refl, refl),
          (
            (refl, refl),
            (
              (refl, refl),
              (
                (refl, refl),
                (
                  (refl, refl),
                  (
                    (refl, refl),
                    (
                      (refl, refl),
                      (
                        (refl, refl),
                        ((refl, refl), ((refl, refl), ((refl, refl), ((refl, refl), ((refl, refl), ((refl, refl), tt)))))),
                      ),
                    ),
                  ),
                ),
              ),
            ),
          ),
        ),
      ),
    ),
  ),
)

pub leaf_from : (ds : List GrammarPlace) (c : GrammarPlace) → AllLeaves ds → is_known ds c ≡ true → Levelled (Some c) (leaf c)
leaf_from [] c a k = absurd (cc)
leaf_from (d ∷ ds) c a k = go (leaf_from ds c a.1) (same_place d c) refl
  where
    go : (is_known ds c ≡ true → Levelled (Some c) (leaf c)) → (b : Bool) → same_place d c ≡ b → Levelled (Some c) (leaf c)
    go ih true e = subst (λ z. Levelled (Some z) (leaf z)) (same_places d c e) a.0
    go ih false e = ih (subst (λ b. (b || is_known ds c) ≡ true) e k)

abbrev pub way_row : GrammarRest → GrammarRow
way_row (ends r) = r
way_row (token k after) = way_row after
way_row (either k after other) = way_row after
way_row (part p after) = way_row after
way_row (maybe p after r) = r
way_row (list p later dots close after) = way_row after
way_row (more p dots close after) = way_row after
way_row (many p close after) = way_row after
way_row items = GrammarRow.File
way_row alternatives = GrammarRow.OrPattern
way_row (statements o) = GrammarRow.Block
way_row (arms o) = GrammarRow.Match
way_row arm_body = GrammarRow.Arm
way_row after_break = GrammarRow.Break

abbrev pub way_arms : Bool → Held
way_arms false = sub leaf_arm (tok (Token.Mark Mark.CloseBrace) end)
way_arms true = tok (Token.Mark Mark.CloseBrace) end

abbrev pub way : Bool → GrammarRest → Held
way h (ends r) = end
way h (token k after) = tok (sample k) (way h after)
way h (either k after other) = tok (sample k) (way h after)
way h (part p after) = sub (leaf (place_of h p)) (way h after)
way h (maybe p after r) = end
way h (list p later dots close after) = tok (sample close) (way h after)
way h (more p dots close after) = tok (sample close) (way h after)
way h (many p close after) = tok (sample close) (way h after)
way h items = end
way h alternatives = end
way h (statements o) = tok (Token.Mark Mark.CloseBrace) end
way h (arms o) = way_arms o
way h arm_body = sub leaf_block end
way h after_break = end

-- the parts on the way are known
abbrev pub leaves : Bool → GrammarRest → Bool
leaves h (token k after) = leaves h after
leaves h (either k after other) = leaves h after
leaves h (part p after) = is_known leaf_places (place_of h p) && leaves h after
leaves h (list p later dots close after) = leaves h after
leaves h (more p dots close after) = leaves h after
leaves h (many p close after) = leaves h after
leaves h _ = true

by_test : (h : Bool) (r : GrammarRow) (ps : Held) (b : Bool) (q : GrammarRest) (o : Option GrammarRest) → b ≡ true → Follows h (Some q) r ps → Follows h (if b then Some q else o) r ps
by_test h r ps true q o e f = f
by_test h r ps false q o e f = absurd (cc)

pub way_follows : (h : Bool) (q : GrammarRest) → leaves h q ≡ true → Follows h (Some q) (way_row q) (way h q)
way_follows h (ends r) l = refl
way_follows h (token k after) l = by_test h _ _ (is k (sample k)) after None (is_sample k) (way_follows h after l)
way_follows h (either k after other) l = by_test h _ _ (is k (sample k)) after (move other (sample k)) (is_sample k) (way_follows h after l)
way_follows h (part p after) l =
    let a = and_parts (is_known leaf_places (place_of h p)) (leaves h after) l in
    (leaf_from leaf_places (place_of h p) all_leaves a.0, way_follows h after a.1)
way_follows h (maybe p after r) l = refl
way_follows h (list p later dots close after) l = by_test h _ _ (is close (sample close)) after _ (is_sample close) (way_follows h after l)
way_follows h (more p dots close after) l = by_test h _ _ (is close (sample close)) after _ (is_sample close) (way_follows h after l)
way_follows h (many p close after) l = by_test h _ _ (is close (sample close)) after None (is_sample close) (way_follows h after l)
way_follows h items l = refl
way_follows h alternatives l = refl
way_follows h (statements o) l = refl
way_follows h (arms false) l = ((refl, ((refl, refl), ((refl, refl), refl))), refl)
way_follows h (arms true) l = refl
way_follows h arm_body l = ((refl, refl), refl)
way_follows h after_break l = refl

-- how a node goes on that may not stand there as it is
abbrev pub ender : Start → Option Token
ender Start.IsParam = Some (Token.Mark Mark.Colon)
ender Start.IsArm = Some (Token.Mark Mark.FatArrow)
ender _ = None

abbrev pub joinable_by : GrammarPlace → GrammarRow → Option Joined → Bool
joinable_by c r None = false
joinable_by c r (Some j) = may_begin c j.row && (allowed j.place r && (allowed c (way_row j.rest) && leaves c.head j.rest))

abbrev pub joinable : GrammarPlace → GrammarRow → Option Token → Bool
joinable c r None = false
joinable c r (Some t) = joinable_by c r (joined (seen c) t)

abbrev pub alive : GrammarPlace → GrammarRest → Bool
alive c q = leaves c.head q && (allowed c (way_row q) || joinable c (way_row q) (ender c.start))

abbrev pub alive_entry : GrammarPlace → Option NodeBeginning → Bool
alive_entry c None = true
alive_entry c (Some e) = implies (may_begin c e.row) (everywhere (alive c) e.rest)

abbrev pub alive_joined : GrammarPlace → Option Joined → Bool
alive_joined c None = true
alive_joined c (Some j) = implies (may_begin c j.row) (everywhere (alive c) j.rest)

abbrev pub lively : GrammarPlace → Bool
lively c = every (λ t. alive_entry c (entry (seen c) t) && alive_joined c (joined (seen c) t)) samples

pub places_lively : every lively places ≡ true
places_lively = refl

known_lively : (ds : List GrammarPlace) (c : GrammarPlace) → every lively ds ≡ true → is_known ds c ≡ true → lively c ≡ true
known_lively [] c g k = absurd (cc)
known_lively (d ∷ ds) c g k = let p = and_parts (lively d) (every lively ds) g in go (known_lively ds c p.1) p.0 (same_place d c) refl
  where
    go : (is_known ds c ≡ true → lively c ≡ true) → lively d ≡ true → (b : Bool) → same_place d c ≡ b → lively c ≡ true
    go ih x true e = ap lively (sym (same_places d c e)) ∙ x
    go ih x false e = ih (subst (λ b. (b || is_known ds c) ≡ true) e k)

pub entry_alive : (c : GrammarPlace) (t : Token) (e : NodeBeginning) → is_known places c ≡ true → entry (seen c) t ≡ Some e → may_begin c e.row ≡ true → everywhere (alive c) e.rest ≡ true
entry_alive c t x k e m =
    let f = of_samples (λ t. alive_entry c (entry (seen c) t) && alive_joined c (joined (seen c) t)) (known_lively places c places_lively k) t in
    let p = (and_parts (alive_entry c (entry (seen c) (like t))) _ f).0 in
    implied (may_begin c x.row) _ (subst (λ o. alive_entry c o ≡ true) (sym (entry_alike c t) ∙ e) p) m

pub joined_alive : (c : GrammarPlace) (t : Token) (j : Joined) → is_known places c ≡ true → joined (seen c) t ≡ Some j → may_begin c j.row ≡ true → everywhere (alive c) j.rest ≡ true
joined_alive c t x k e m =
    let f = of_samples (λ t. alive_entry c (entry (seen c) t) && alive_joined c (joined (seen c) t)) (known_lively places c places_lively k) t in
    let p = (and_parts (alive_entry c (entry (seen c) (like t))) _ f).1 in
    implied (may_begin c x.row) _ (subst (λ o. alive_joined c o ≡ true) (sym (joined_alike c t) ∙ e) p) m
