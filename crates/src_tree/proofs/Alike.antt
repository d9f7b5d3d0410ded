-- The grammar tells tokens apart only as far as the samples do.
use Rattle.std.proofs.Common.{◌≡◌, ℕ, Bool, true, false, ◌&&◌, not, nat_eq, Option, Some, None, List, [], ◌∷◌, refl, ap}
use Rattle.std.proofs.lemmas.Bool.{and_parts, eqb-true}
use Rattle.src_token.specs.declared.token.Token.{Token}
use Rattle.src_token.specs.declared.mark.Mark.{Mark}
use Rattle.src_tree.specs.declared.row.GrammarRow.{GrammarRow}
use Rattle.src_tree.specs.declared.row.Sort.{Sort}
use Rattle.src_tree.specs.declared.place.Start.{Start}
use Rattle.src_tree.specs.declared.place.GrammarPlace.{GrammarPlace}
use Rattle.src_tree.specs.declared.kind.TokenKind.{TokenKind}
use Rattle.src_tree.specs.Grammar.{seen, place_of, GrammarRest, ends, token, either, part, maybe, list, more, many, items, alternatives, statements, arms, arm_body, after_break, is, is_text, is_panic, named, move, due, made, NodeBeginning, entry, by_row, Joined, joined}
use Rattle.src_tree.specs.Layout.{due_place}
use Rattle.src_tree.specs.Reading.{and_then, only_if, begin_at, opens, joins}
use Rattle.src_tree.proofs.Samples.{like, like_name, panic_text, derive_text}
use Rattle.src_tree.proofs.Follow.{among, quiet, calm, calm_at, Shape, Ended, follow, idle, acts}

text_is : (n m : List ℕ) → is_text n m ≡ true → n ≡ m
text_is [] [] h = refl
text_is [] (b ∷ m) h = absurd (cc)
text_is (a ∷ n) [] h = absurd (cc)
text_is (a ∷ n) (b ∷ m) h =
    let p = and_parts (nat_eq a b) (is_text n m) h in
    let e = eqb-true a b p.0 in
    let f = text_is n m p.1 in
    cc

like_derive : (n : List ℕ) → is_text n derive_text ≡ is_text (like_name (is_text n panic_text) (is_text n derive_text)) derive_text
like_derive n = go (is_text n panic_text) refl
  where
    go : (p : Bool) → is_text n panic_text ≡ p → is_text n derive_text ≡ is_text (like_name p (is_text n derive_text)) derive_text
    go true e = ap (λ z. is_text z derive_text) (text_is n panic_text e)
    go false e = by (is_text n derive_text)
      where
        by : (d : Bool) → d ≡ is_text (like_name false d) derive_text
        by true = refl
        by false = refl

like_panic : (n : List ℕ) → is_panic n ≡ is_panic (like_name (is_text n panic_text) (is_text n derive_text))
like_panic n = go (is_text n panic_text) (is_text n derive_text)
  where
    go : (p d : Bool) → p ≡ is_panic (like_name p d)
    go true d = refl
    go false true = refl
    go false false = refl

pub is_like : (k : TokenKind) (t : Token) → is k t ≡ is k (like t)
is_like TokenKind.Derive (Token.Name n) = like_derive n
is_like (TokenKind.Mark m) (Token.Name n) = refl
is_like (TokenKind.Word w) (Token.Name n) = refl
is_like (TokenKind.Mark m) (Token.Number v None) = refl
is_like _ (Token.Number v None) = refl
is_like (TokenKind.Mark m) (Token.Number v (Some k)) = refl
is_like _ (Token.Number v (Some k)) = refl
is_like (TokenKind.Mark m) other = refl
is_like _ other = refl

pub move_like : (q : GrammarRest) (t : Token) → move q t ≡ move q (like t)
move_like (ends r) t = refl
move_like (token k after) t = rw (is_like k t) refl
move_like (either k after other) t = rw (is_like k t, move_like other t) refl
move_like (part p after) t = refl
move_like (maybe p after r) t = refl
move_like (list p later dots close after) t = rw (is_like close t, is_like (TokenKind.Mark Mark.DotDot) t) refl
move_like (more p dots close after) t = rw (is_like close t, is_like (TokenKind.Mark Mark.Comma) t) refl
move_like (many p close after) t = rw (is_like close t) refl
move_like items t = refl
move_like alternatives t = rw (is_like (TokenKind.Mark Mark.Or) t) refl
move_like (statements o) t = rw (is_like (TokenKind.Mark Mark.CloseBrace) t) refl
move_like (arms s) t = rw (is_like (TokenKind.Mark Mark.CloseBrace) t) refl
move_like arm_body t = refl
move_like after_break t = refl

pub entry_like : (s : Sort) (h : Bool) (st : Start) (t : Token) → entry record { sort = s; head = h; start = st } t ≡ entry record { sort = s; head = h; start = st } (like t)
entry_like Sort.Expr h st (Token.Name n) = ap (λ p. by_row GrammarRow.Path (named p h)) (like_panic n)
entry_like Sort.File h st (Token.Name n) = refl
entry_like _ h st (Token.Name n) = refl
entry_like s h st (Token.Word w) = refl
entry_like Sort.File h st (Token.Number v None) = refl
entry_like _ h st (Token.Number v None) = refl
entry_like Sort.File h st (Token.Number v (Some k)) = refl
entry_like _ h st (Token.Number v (Some k)) = refl
entry_like Sort.File h st (Token.Label n) = refl
entry_like _ h st (Token.Label n) = refl
entry_like Sort.File h st (Token.Text n) = refl
entry_like _ h st (Token.Text n) = refl
entry_like s h st (Token.Mark m) = refl

pub joined_like : (s : Sort) (h : Bool) (st : Start) (t : Token) → joined record { sort = s; head = h; start = st } t ≡ joined record { sort = s; head = h; start = st } (like t)
joined_like Sort.File h st (Token.Name n) = refl
joined_like _ h st (Token.Name n) = refl
joined_like s h st (Token.Word w) = refl
joined_like Sort.File h st (Token.Number v None) = refl
joined_like _ h st (Token.Number v None) = refl
joined_like Sort.File h st (Token.Number v (Some k)) = refl
joined_like _ h st (Token.Number v (Some k)) = refl
joined_like Sort.File h st (Token.Label n) = refl
joined_like _ h st (Token.Label n) = refl
joined_like Sort.File h st (Token.Text n) = refl
joined_like _ h st (Token.Text n) = refl
joined_like s h st (Token.Mark m) = refl

pub entry_alike : (c : GrammarPlace) (t : Token) → entry (seen c) t ≡ entry (seen c) (like t)
entry_alike c t = entry_like c.sort c.head (seen c).start t

pub joined_alike : (c : GrammarPlace) (t : Token) → joined (seen c) t ≡ joined (seen c) (like t)
joined_alike c t = joined_like c.sort c.head (seen c).start t

begin_like : (o : Option GrammarPlace) (t : Token) → and_then o (begin_at t) ≡ and_then o (begin_at (like t))
begin_like None t = refl
begin_like (Some c) t = ap (λ e. and_then e (λ e. only_if (Rattle.src_tree.specs.Grammar.may_begin c e.row) (Some (c, e.rest)))) (entry_alike c t)

pub opens_like : (h : Bool) (q : GrammarRest) (t : Token) → opens h q t ≡ opens h q (like t)
opens_like h q t = begin_like (due_place h q) t

pub joins_like : (c : GrammarPlace) (r : GrammarRow) (t : Token) → joins c r t ≡ joins c r (like t)
joins_like c r t = ap (λ o. and_then o (λ j. only_if (Rattle.src_tree.specs.Grammar.may_begin c j.row && Rattle.src_tree.specs.Grammar.allowed j.place r) (Some j.rest))) (joined_alike c t)

pub among_like : (ks : List TokenKind) (t : Token) → among ks t ≡ among ks (like t)
among_like [] t = refl
among_like (k ∷ ks) t = rw (is_like k t, among_like ks t) refl

none_like : (ks : List TokenKind) (t : Token) → not (among ks t) ≡ not (among ks (like t))
none_like ks t = ap not (among_like ks t)

pub quiet_like : (n : ℕ) (h : Bool) (t : Token) → quiet n h t ≡ quiet n h (like t)
quiet_like n h (Token.Name x) = refl
quiet_like n h (Token.Number v None) = refl
quiet_like n h (Token.Number v (Some k)) = refl
quiet_like n h other = refl

pub calm_like : (h : Bool) (r : GrammarRow) (t : Token) → calm h r t ≡ calm h r (like t)
calm_like true GrammarRow.File (Token.Name x) = refl
calm_like true _ (Token.Name x) = refl
calm_like false GrammarRow.File (Token.Name x) = refl
calm_like false _ (Token.Name x) = refl
calm_like true GrammarRow.File (Token.Number v None) = refl
calm_like true _ (Token.Number v None) = refl
calm_like false GrammarRow.File (Token.Number v None) = refl
calm_like false _ (Token.Number v None) = refl
calm_like true GrammarRow.File (Token.Number v (Some k)) = refl
calm_like true _ (Token.Number v (Some k)) = refl
calm_like false GrammarRow.File (Token.Number v (Some k)) = refl
calm_like false _ (Token.Number v (Some k)) = refl
calm_like true GrammarRow.File (Token.Label x) = refl
calm_like true _ (Token.Label x) = refl
calm_like false GrammarRow.File (Token.Label x) = refl
calm_like false _ (Token.Label x) = refl
calm_like true GrammarRow.File (Token.Text x) = refl
calm_like true _ (Token.Text x) = refl
calm_like false GrammarRow.File (Token.Text x) = refl
calm_like false _ (Token.Text x) = refl
calm_like h r (Token.Word w) = refl
calm_like h r (Token.Mark m) = refl

follow_expr : (n : ℕ) (h : Bool) (st : Start) (y : Shape) (t : Token) → follow record { sort = Sort.Expr; least = n; head = h; start = st } y t ≡ follow record { sort = Sort.Expr; least = n; head = h; start = st } y (like t)
follow_expr n h Start.Statement Ended (Token.Name x) = refl
follow_expr n h Start.Statement _ (Token.Name x) = refl
follow_expr n h _ Ended (Token.Name x) = refl
follow_expr n h _ _ (Token.Name x) = refl
follow_expr n h Start.Statement Ended (Token.Number v None) = refl
follow_expr n h Start.Statement _ (Token.Number v None) = refl
follow_expr n h _ Ended (Token.Number v None) = refl
follow_expr n h _ _ (Token.Number v None) = refl
follow_expr n h Start.Statement Ended (Token.Number v (Some k)) = refl
follow_expr n h Start.Statement _ (Token.Number v (Some k)) = refl
follow_expr n h _ Ended (Token.Number v (Some k)) = refl
follow_expr n h _ _ (Token.Number v (Some k)) = refl
follow_expr n h Start.Statement Ended (Token.Label x) = refl
follow_expr n h Start.Statement _ (Token.Label x) = refl
follow_expr n h _ Ended (Token.Label x) = refl
follow_expr n h _ _ (Token.Label x) = refl
follow_expr n h Start.Statement Ended (Token.Text x) = refl
follow_expr n h Start.Statement _ (Token.Text x) = refl
follow_expr n h _ Ended (Token.Text x) = refl
follow_expr n h _ _ (Token.Text x) = refl
follow_expr n h st y (Token.Word w) = refl
follow_expr n h st y (Token.Mark m) = refl

follow_pattern : (n : ℕ) (h : Bool) (st : Start) (y : Shape) (t : Token) → follow record { sort = Sort.Pattern; least = n; head = h; start = st } y t ≡ follow record { sort = Sort.Pattern; least = n; head = h; start = st } y (like t)
follow_pattern n h Start.Statement Ended (Token.Name x) = refl
follow_pattern n h Start.Statement _ (Token.Name x) = refl
follow_pattern n h _ Ended (Token.Name x) = refl
follow_pattern n h _ _ (Token.Name x) = refl
follow_pattern n h Start.Statement Ended (Token.Number v None) = refl
follow_pattern n h Start.Statement _ (Token.Number v None) = refl
follow_pattern n h _ Ended (Token.Number v None) = refl
follow_pattern n h _ _ (Token.Number v None) = refl
follow_pattern n h Start.Statement Ended (Token.Number v (Some k)) = refl
follow_pattern n h Start.Statement _ (Token.Number v (Some k)) = refl
follow_pattern n h _ Ended (Token.Number v (Some k)) = refl
follow_pattern n h _ _ (Token.Number v (Some k)) = refl
follow_pattern n h Start.Statement Ended (Token.Label x) = refl
follow_pattern n h Start.Statement _ (Token.Label x) = refl
follow_pattern n h _ Ended (Token.Label x) = refl
follow_pattern n h _ _ (Token.Label x) = refl
follow_pattern n h Start.Statement Ended (Token.Text x) = refl
follow_pattern n h Start.Statement _ (Token.Text x) = refl
follow_pattern n h _ Ended (Token.Text x) = refl
follow_pattern n h _ _ (Token.Text x) = refl
follow_pattern n h st y (Token.Word w) = refl
follow_pattern n h st y (Token.Mark m) = refl

follow_by : (s : Sort) (n : ℕ) (h : Bool) (st : Start) (y : Shape) (t : Token) → follow record { sort = s; least = n; head = h; start = st } y t ≡ follow record { sort = s; least = n; head = h; start = st } y (like t)
follow_by Sort.Expr n h st y t = follow_expr n h st y t
follow_by Sort.Pattern n h st y t = follow_pattern n h st y t
follow_by _ n h st y (Token.Name x) = refl
follow_by _ n h st y (Token.Number v None) = refl
follow_by _ n h st y (Token.Number v (Some k)) = refl
follow_by _ n h st y other = refl

pub follow_like : (c : GrammarPlace) (y : Shape) (t : Token) → follow c y t ≡ follow c y (like t)
follow_like c y t = follow_by c.sort c.least c.head c.start y t

pub idle_like : (h : Bool) (q : GrammarRest) (t : Token) → idle h q t ≡ idle h q (like t)
idle_like h q t = rw (move_like q t, opens_like h q t) refl

calm_at_like : (h : Bool) (o : Option GrammarRow) (t : Token) → calm_at h o t ≡ calm_at h o (like t)
calm_at_like h None t = refl
calm_at_like h (Some x) t = calm_like h x t

pub acts_like : (h : Bool) (q : GrammarRest) (t : Token) → acts h q t ≡ acts h q (like t)
acts_like h q t = rw (idle_like h q t, calm_at_like h (made q) t) refl
