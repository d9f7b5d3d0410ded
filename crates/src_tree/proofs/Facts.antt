-- What the checks say, of every token and every row.
use Rattle.std.proofs.Common.{◌≡◌, ℕ, Bool, true, false, ◌&&◌, ◌||◌, not, nat_le, nat_eq, Option, Some, None, List, [], ◌∷◌, refl, sym, ap, ◌∙◌, subst, if◌then◌else◌}
use Rattle.std.proofs.lemmas.Bool.{and_parts, and_from, eqb-true}
use Rattle.src_token.specs.declared.token.Token.{Token}
use Rattle.src_token.specs.declared.mark.Mark.{Mark}
use Rattle.src_tree.specs.declared.row.GrammarRow.{GrammarRow}
use Rattle.src_tree.specs.declared.row.Sort.{Sort}
use Rattle.src_tree.specs.declared.place.Start.{Start}
use Rattle.src_tree.specs.declared.place.GrammarPlace.{GrammarPlace}
use Rattle.src_tree.specs.declared.place.Seen.{Seen}
use Rattle.src_tree.specs.declared.place.GrammarPart.{GrammarPart}
use Rattle.src_tree.specs.declared.kind.TokenKind.{TokenKind}
use Rattle.src_tree.specs.Grammar.{sort_number, seen, allowed, may_begin, may_be, begins_by, place_of, GrammarRest, ends, token, either, part, maybe, list, more, many, items, alternatives, statements, arms, arm_body, after_break, is, comma, move, due, behind, behind_statement, behind_arm, behind_body, behind_break, made, NodeBeginning, entry, Joined, joined}
use Rattle.src_tree.specs.Reading.{opens, joins}
use Rattle.src_tree.proofs.Samples.{samples, rows, every, nth, like, of_samples, of_rows}
use Rattle.src_tree.proofs.Follow.{calm, calm_at, shape, example, follow, idle, acts, is_none, implies, hangs_on_shape, shapes, tried, Shape, Ended, Brace, Braced, Labelled, OneArm, OneLastArm, Open, places, start_number, same_bool, same_place, is_known, ends_well, part_well, parts_well, here, ok, all_ends, stands, same_seen, joins_well, begins_well, good, entry_ok, joined_ok}
use Rattle.src_tree.proofs.Alike.{move_like, opens_like, joins_like, calm_like, follow_like, idle_like, acts_like, entry_alike, joined_alike}
use Rattle.src_tree.proofs.Checked.{entries_ok, joined_all_ok, places_good}

pub implied : (a b : Bool) → implies a b ≡ true → a ≡ true → b ≡ true
implied true b h e = h
implied false b h e = absurd (cc)

implies_true : (a : Bool) → implies a true ≡ true
implies_true true = refl
implies_true false = refl

every_all : {X : Type 0} (f : X → Bool) → ((x : X) → f x ≡ true) → (xs : List X) → every f xs ≡ true
every_all f h [] = refl
every_all f h (x ∷ xs) = and_from (f x) (every f xs) (h x) (every_all f h xs)

-- a rest by itself
pub here_of : (h : Bool) (q : GrammarRest) → ok h q ≡ true → here h q ≡ true
here_of h (ends r) o = and_from (ends_well h (ends r)) true (every_all _ (λ t. implies_true (calm h r t)) samples) refl
here_of h (token k after) o = refl
here_of h (either k after other) o = (and_parts (here h (either k after other)) _ o).0
here_of h (part p after) o = (and_parts (here h (part p after)) _ o).0
here_of h (maybe p after r) o = (and_parts (here h (maybe p after r)) _ o).0
here_of h (list p later dots close after) o = (and_parts (here h (list p later dots close after)) _ o).0
here_of h (more p dots close after) o = (and_parts (here h (more p dots close after)) _ o).0
here_of h (many p close after) o = (and_parts (here h (many p close after)) _ o).0
here_of h items o = o
here_of h alternatives o = (and_parts (here h alternatives) _ o).0
here_of h (statements false) o = (and_parts (here h (statements false)) _ o).0
here_of h (statements true) o = (and_parts (here h (statements false)) _ o).1
here_of h (arms false) o = (and_parts (here h (arms false)) _ o).0
here_of h (arms true) o = (and_parts (here h (arms false)) _ o).1
here_of h arm_body o = (and_parts (here h arm_body) _ o).0
here_of h after_break o = (and_parts (here h after_break) _ o).0

-- what is chosen by a test
pub picks : {X : Type 0} (P : X → Type 0) (b : Bool) (x : X) (o : Option X) (y : X) → (if b then Some x else o) ≡ Some y → P x → (o ≡ Some y → P y) → P y
picks P true x o y e p q = let s : x ≡ y = cc in subst P s p
picks P false x o y e p q = q e

pub no_more : {X : Type 0} (P : Type 0) (y : X) → None ≡ Some y → P
no_more P y e = absurd (cc)

pub ok_move : (h : Bool) (q : GrammarRest) (t : Token) (q1 : GrammarRest) → ok h q ≡ true → move q t ≡ Some q1 → ok h q1 ≡ true
ok_move h (ends r) t q1 o e = no_more _ q1 e
ok_move h (token k after) t q1 o e = picks (λ q. ok h q ≡ true) (is k t) after None q1 e o (no_more _ q1)
ok_move h (either k after other) t q1 o e =
    let a = and_parts (here h (either k after other)) _ o in
    let b = and_parts (ok h after) (ok h other) a.1 in
    picks (λ q. ok h q ≡ true) (is k t) after (move other t) q1 e b.0 (ok_move h other t q1 b.1)
ok_move h (part p after) t q1 o e = no_more _ q1 e
ok_move h (maybe p after r) t q1 o e = no_more _ q1 e
ok_move h (list p later dots close after) t q1 o e =
    let a = and_parts (here h (list p later dots close after)) _ o in
    let b = and_parts (here h (more later dots close after)) _ a.1 in
    let c = and_parts (here h (list later later dots close after)) (ok h after) b.1 in
    picks (λ q. ok h q ≡ true) (is close t) after (if dots && is (TokenKind.Mark Mark.DotDot) t then Some (token close after) else None) q1 e c.1
    (λ f. picks (λ q. ok h q ≡ true) (dots && is (TokenKind.Mark Mark.DotDot) t) (token close after) None q1 f c.1 (no_more _ q1))
ok_move h (more p dots close after) t q1 o e =
    let a = and_parts (here h (more p dots close after)) _ o in
    let b = and_parts (here h (list p p dots close after)) (ok h after) a.1 in
    picks (λ q. ok h q ≡ true) (is close t) after (if is comma t then Some (list p p dots close after) else None) q1 e b.1
    (λ f. picks (λ q. ok h q ≡ true) (is comma t) (list p p dots close after) None q1 f
    (and_from _ _ b.0 (and_from _ _ a.0 (and_from _ _ b.0 b.1))) (no_more _ q1))
ok_move h (many p close after) t q1 o e = picks (λ q. ok h q ≡ true) (is close t) after None q1 e (and_parts (here h (many p close after)) _ o).1 (no_more _ q1)
ok_move h items t q1 o e = no_more _ q1 e
ok_move h alternatives t q1 o e =
    picks (λ q. ok h q ≡ true) (is (TokenKind.Mark Mark.Or) t) _ None q1 e (and_from _ _ (and_parts (here h alternatives) _ o).1 o) (no_more _ q1)
ok_move h (statements s) t q1 o e = picks (λ q. ok h q ≡ true) (is (TokenKind.Mark Mark.CloseBrace) t) (ends GrammarRow.Block) None q1 e refl (no_more _ q1)
ok_move h (arms s) t q1 o e = picks (λ q. ok h q ≡ true) (s && is (TokenKind.Mark Mark.CloseBrace) t) (ends GrammarRow.Match) None q1 e refl (no_more _ q1)
ok_move h arm_body t q1 o e = no_more _ q1 e
ok_move h after_break t q1 o e = no_more _ q1 e

ok_statement : (h : Bool) (r : GrammarRow) → ok h (statements false) ≡ true → ok h (behind_statement r) ≡ true
ok_statement h GrammarRow.Let o = o
ok_statement h GrammarRow.Semi o = o
ok_statement h GrammarRow.Empty o = o
ok_statement h GrammarRow.Block o = o
ok_statement h GrammarRow.If o = o
ok_statement h GrammarRow.Match o = o
ok_statement h GrammarRow.Loop o = o
ok_statement h GrammarRow.While o = o
ok_statement h _ o = refl

ok_arm : (h : Bool) (r : GrammarRow) → ok h (arms true) ≡ true → ok h (behind_arm r) ≡ true
ok_arm h GrammarRow.Arm o = o
ok_arm h _ o = refl

ok_block_body : (h : Bool) → ok h arm_body ≡ true → ok h (either comma (ends GrammarRow.Arm) (ends GrammarRow.Arm)) ≡ true
ok_block_body h o = and_from _ _ (and_parts (here h (either comma (ends GrammarRow.Arm) (ends GrammarRow.Arm))) _ (and_parts (here h arm_body) _ o).1).0 refl

ok_other_body : (h : Bool) → ok h arm_body ≡ true → ok h (either comma (ends GrammarRow.Arm) (ends GrammarRow.LastArm)) ≡ true
ok_other_body h o = and_from _ _ (and_parts (here h (either comma (ends GrammarRow.Arm) (ends GrammarRow.Arm))) _ (and_parts (here h arm_body) _ o).1).1 refl

ok_body : (h : Bool) (r : GrammarRow) → ok h arm_body ≡ true → ok h (behind_body r) ≡ true
ok_body h GrammarRow.Block o = ok_block_body h o
ok_body h _ o = ok_other_body h o

ok_break : (h : Bool) (r : GrammarRow) → ok h after_break ≡ true → ok h (behind_break r) ≡ true
ok_break h GrammarRow.LabelName o = and_from _ _ (and_parts (here h after_break) _ o).1 refl
ok_break h _ o = refl

pub ok_behind : (h : Bool) (q : GrammarRest) (r : GrammarRow) → ok h q ≡ true → ok h (behind q r) ≡ true
ok_behind h (ends x) r o = o
ok_behind h (token k after) r o = o
ok_behind h (either k after other) r o = ok_behind h other r (and_parts (ok h after) (ok h other) (and_parts (here h (either k after other)) _ o).1).1
ok_behind h (part p after) r o = (and_parts (here h (part p after)) _ o).1
ok_behind h (maybe p after x) r o = (and_parts (here h (maybe p after x)) _ o).1
ok_behind h (list p later dots close after) r o =
    let a = and_parts (here h (list p later dots close after)) _ o in
    let b = and_parts (here h (more later dots close after)) _ a.1 in
    let c = and_parts (here h (list later later dots close after)) (ok h after) b.1 in
    and_from _ _ b.0 (and_from _ _ c.0 c.1)
ok_behind h (more p dots close after) r o = o
ok_behind h (many p close after) r o = o
ok_behind h items r o = o
ok_behind h alternatives r o = o
ok_behind h (statements false) r o = ok_statement h r o
ok_behind h (statements true) r o = ok_statement h r o
ok_behind h (arms false) r o = ok_arm h r o
ok_behind h (arms true) r o = ok_arm h r o
ok_behind h arm_body r o = ok_body h r o
ok_behind h after_break r o = ok_break h r o

-- a calm token does nothing at a rest that may end
pub idle_calm : (h : Bool) (q : GrammarRest) (x : GrammarRow) (t : Token) → here h q ≡ true → made q ≡ Some x → calm h x t ≡ true → idle h q t ≡ true
idle_calm h q x t w m c =
    let e = of_samples (λ t. implies (calm_at h (made q) t) (idle h q t)) (and_parts (ends_well h q) _ w).0 t in
    let f : implies (calm_at h (Some x) (like t)) (idle h q (like t)) ≡ true = subst (λ o. implies (calm_at h o (like t)) (idle h q (like t)) ≡ true) m e in
    idle_like h q t ∙ implied (calm h x (like t)) (idle h q (like t)) f (sym (calm_like h x t) ∙ c)

part_here : (h : Bool) (q : GrammarRest) (p : GrammarPart) → here h q ≡ true → due q ≡ Some p → part_well h q p ≡ true
part_here h q p w d = subst (λ o. parts_well h q o ≡ true) d (and_parts (ends_well h q) _ w).1

-- a token that begins a part
pub opens_alone : (h : Bool) (q : GrammarRest) (p : GrammarPart) (t : Token) → here h q ≡ true → due q ≡ Some p → is_none (opens h q t) ≡ false → is_none (move q t) ≡ true
opens_alone h q p t w d e =
    let b = and_parts (is_known places (place_of h p)) _ (part_here h q p w d) in
    let f = of_samples (λ t. implies (not (is_none (opens h q t))) (is_none (move q t))) (and_parts _ _ b.1).0 t in
    ap (λ o. is_none o) (move_like q t)
    ∙ implied _ _ f (ap not (ap (λ o. is_none o) (sym (opens_like h q t)) ∙ e))

behind_statement_alike : (r : GrammarRow) → behind_statement r ≡ behind_statement (example (shape r))
behind_statement_alike GrammarRow.File = refl
behind_statement_alike _ = refl

behind_arm_alike : (r : GrammarRow) → behind_arm r ≡ behind_arm (example (shape r))
behind_arm_alike GrammarRow.File = refl
behind_arm_alike _ = refl

behind_body_alike : (r : GrammarRow) → behind_body r ≡ behind_body (example (shape r))
behind_body_alike GrammarRow.File = refl
behind_body_alike _ = refl

behind_break_alike : (r : GrammarRow) → behind_break r ≡ behind_break (example (shape r))
behind_break_alike GrammarRow.File = refl
behind_break_alike _ = refl

behind_alike : (q : GrammarRest) (r : GrammarRow) → behind q r ≡ behind q (example (shape r))
behind_alike (statements s) r = behind_statement_alike r
behind_alike (arms s) r = behind_arm_alike r
behind_alike arm_body r = behind_body_alike r
behind_alike after_break r = behind_break_alike r
behind_alike (either k after other) r = behind_alike other r
behind_alike _ r = refl

abbrev shape_at : Shape → ℕ
shape_at Ended = 0
shape_at Brace = 1
shape_at Braced = 2
shape_at Labelled = 3
shape_at OneArm = 4
shape_at OneLastArm = 5
shape_at Open = 6

shape_is_there : (y : Shape) → nth (shape_at y) shapes ≡ Some y
shape_is_there Ended = refl
shape_is_there _ = refl

-- elsewhere the shape does not matter
follow_by_place : (s : Sort) (n : ℕ) (h : Bool) (b : Start) (y : Shape) (t : Token) → hangs_on_shape b ≡ false
    → follow (record { sort = s; least = n; head = h; start = b }) y t ≡ follow (record { sort = s; least = n; head = h; start = b }) Open t
follow_by_place Sort.Expr n h Start.Statement y t e = absurd (cc)
follow_by_place Sort.Expr n h Start.NextStatement y t e = absurd (cc)
follow_by_place Sort.Expr n h Start.ArmBody y t e = absurd (cc)
follow_by_place Sort.Expr n h Start.Jump y t e = absurd (cc)
follow_by_place Sort.Expr n h Start.JumpInHead y t e = absurd (cc)
follow_by_place Sort.Expr n h _ y t e = refl
follow_by_place Sort.Pattern n h Start.IsArm y t e = absurd (cc)
follow_by_place Sort.Pattern n h _ y t e = refl
follow_by_place _ n h b y t e = refl

abbrev hangs : Bool → GrammarPart → Bool
hangs h p = hangs_on_shape (place_of h p).start

not_there : {X : Type 0} (h : Bool) (x p : GrammarPart) → hangs h x ≡ true → Some x ≡ Some p → hangs h p ≡ false → X
not_there h x p there e elsewhere =
    let same : x ≡ p = cc in
    let both : true ≡ false = sym (subst (λ p. hangs h p ≡ true) same there) ∙ elsewhere in
    absurd (cc)

hangs_behind_break : (h : Bool) → hangs h GrammarPart.AfterBreak ≡ true
hangs_behind_break false = refl
hangs_behind_break true = refl

behind_by_place : (h : Bool) (q : GrammarRest) (p : GrammarPart) (r : GrammarRow) → due q ≡ Some p → hangs h p ≡ false → behind q r ≡ behind q GrammarRow.Path
behind_by_place h (either k after other) p r d elsewhere = behind_by_place h other p r d elsewhere
behind_by_place h (statements false) p r d elsewhere = not_there h _ p refl d elsewhere
behind_by_place h (statements true) p r d elsewhere = not_there h _ p refl d elsewhere
behind_by_place h (arms s) p r d elsewhere = not_there h _ p refl d elsewhere
behind_by_place h arm_body p r d elsewhere = not_there h _ p refl d elsewhere
behind_by_place h after_break p r d elsewhere = not_there h _ p (hangs_behind_break h) d elsewhere
behind_by_place h _ p r d elsewhere = refl

-- what goes on behind a part may stand behind it
pub follows_on : (h : Bool) (q : GrammarRest) (p : GrammarPart) (y : GrammarRow) (t : Token) → here h q ≡ true → due q ≡ Some p → acts h (behind q y) t ≡ true → follow (place_of h p) (shape y) t ≡ true
follows_on h q p y t w d a =
    let b = and_parts (is_known places (place_of h p)) _ (part_here h q p w d) in
    go (hangs h p) refl (and_parts _ _ b.1).1
  where
    is_well : Shape → Bool
    is_well y = every (λ t. implies (acts h (behind q (example y)) t) (follow (place_of h p) y t)) samples

    by_shape : (z : Shape) → is_well z ≡ true → behind q y ≡ behind q (example z) → follow (place_of h p) z t ≡ true
    by_shape z s same =
        let f = of_samples (λ t. implies (acts h (behind q (example z)) t) (follow (place_of h p) z t)) s t in
        follow_like (place_of h p) z t ∙ implied _ _ f (sym (acts_like h (behind q (example z)) t) ∙ ap (λ z. acts h z t) (sym same) ∙ a)

    go : (b : Bool) → hangs h p ≡ b → every is_well (tried (hangs h p)) ≡ true → follow (place_of h p) (shape y) t ≡ true
    go true e s =
        let all = subst (λ b. every is_well (tried b) ≡ true) e s in
        by_shape (shape y) (Rattle.src_tree.proofs.Samples.every_nth is_well (shape_at (shape y)) shapes (shape y) (shape_is_there (shape y)) all) (behind_alike q y)
    go false e s =
        let one = subst (λ b. every is_well (tried b) ≡ true) e s in
        let c = place_of h p in
        follow_by_place c.sort c.least c.head c.start (shape y) t e ∙ by_shape Open (and_parts _ _ one).0 (behind_by_place h q p y d e)

-- Places.

abbrev sorts : List Sort
sorts = Sort.File ∷ Sort.Item ∷ Sort.Method ∷ Sort.Head ∷ Sort.Field ∷ Sort.Variant ∷ Sort.Name ∷ Sort.Type_ ∷ Sort.Pattern ∷ Sort.FieldPattern ∷ Sort.Expr ∷ Sort.FieldInit ∷ Sort.Label ∷ []

sort_is_there : (s : Sort) → nth (sort_number s) sorts ≡ Some s
sort_is_there Sort.File = refl
sort_is_there _ = refl

same_sort : (a b : Sort) → nat_eq (sort_number a) (sort_number b) ≡ true → a ≡ b
same_sort a b h =
    let e = eqb-true (sort_number a) (sort_number b) h in
    let f : Some a ≡ Some b = sym (sort_is_there a) ∙ ap (λ n. nth n sorts) e ∙ sort_is_there b in
    cc

abbrev starts : List Start
starts = Start.Anything ∷ Start.Statement ∷ Start.NextStatement ∷ Start.Value ∷ Start.NotBlocklike ∷ Start.ArmBody ∷ Start.NotBlock ∷ Start.Jump ∷ Start.JumpInHead ∷ Start.OnlyBlock ∷ Start.BlockOrIf ∷ Start.OnlyLabel ∷ Start.IsArm ∷ Start.IsParam ∷ []

start_is_there : (s : Start) → nth (start_number s) starts ≡ Some s
start_is_there Start.Anything = refl
start_is_there _ = refl

same_start : (a b : Start) → nat_eq (start_number a) (start_number b) ≡ true → a ≡ b
same_start a b h =
    let e = eqb-true (start_number a) (start_number b) h in
    let f : Some a ≡ Some b = sym (start_is_there a) ∙ ap (λ n. nth n starts) e ∙ start_is_there b in
    cc

same_bools : (a b : Bool) → same_bool a b ≡ true → a ≡ b
same_bools true true h = refl
same_bools true false h = absurd (cc)
same_bools false true h = absurd (cc)
same_bools false false h = refl

abbrev make : Sort → ℕ → Bool → Start → GrammarPlace
make s n h b = record { sort = s; least = n; head = h; start = b }

pub same_places : (c d : GrammarPlace) → same_place c d ≡ true → c ≡ d
same_places c d h =
    let p = and_parts (nat_eq (sort_number c.sort) (sort_number d.sort)) _ h in
    let q = and_parts (nat_eq c.least d.least) _ p.1 in
    let r = and_parts (same_bool c.head d.head) (nat_eq (start_number c.start) (start_number d.start)) q.1 in
    ap (λ s. make s c.least c.head c.start) (same_sort c.sort d.sort p.0)
    ∙ ap (λ n. make d.sort n c.head c.start) (eqb-true c.least d.least q.0)
    ∙ ap (λ b. make d.sort d.least b c.start) (same_bools c.head d.head r.0)
    ∙ ap (λ b. make d.sort d.least d.head b) (same_start c.start d.start r.1)

abbrev make_seen : Sort → Bool → Start → Seen
make_seen s h b = record { sort = s; head = h; start = b }

seen_alike : (a b : Seen) → same_seen a b ≡ true → a ≡ b
seen_alike a b h =
    let p = and_parts (nat_eq (sort_number a.sort) (sort_number b.sort)) _ h in
    let r = and_parts (same_bool a.head b.head) (nat_eq (start_number a.start) (start_number b.start)) p.1 in
    ap (λ s. make_seen s a.head a.start) (same_sort a.sort b.sort p.0)
    ∙ ap (λ x. make_seen b.sort x a.start) (same_bools a.head b.head r.0)
    ∙ ap (λ x. make_seen b.sort b.head x) (same_start a.start b.start r.1)

known_good : (ds : List GrammarPlace) (c : GrammarPlace) → every good ds ≡ true → is_known ds c ≡ true → good c ≡ true
known_good [] c g k = absurd (cc)
known_good (d ∷ ds) c g k = let p = and_parts (good d) (every good ds) g in go (known_good ds c p.1) p.0 (same_place d c) refl
  where
    go : (is_known ds c ≡ true → good c ≡ true) → good d ≡ true → (b : Bool) → same_place d c ≡ b → good c ≡ true
    go ih x true e = ap good (sym (same_places d c e)) ∙ x
    go ih x false e = ih (subst (λ b. (b || is_known ds c) ≡ true) e k)

-- a part stands at a good place
pub good_part : (h : Bool) (q : GrammarRest) (p : GrammarPart) → here h q ≡ true → due q ≡ Some p → good (place_of h p) ≡ true
good_part h q p w d = known_good places (place_of h p) places_good (and_parts (is_known places (place_of h p)) _ (part_here h q p w d)).0

is_none_is : {X : Type 0} (o : Option X) → is_none o ≡ true → o ≡ None
is_none_is None h = refl
is_none_is (Some x) h = absurd (cc)

-- what may stand behind a tree leaves its inside alone, and joins it to nothing
pub stands_behind : (c : GrammarPlace) (y : GrammarRow) (t : Token) → good c ≡ true → allowed c y ≡ true → follow c (shape y) t ≡ true → (calm c.head y t ≡ true) × (joins c y t ≡ None)
stands_behind c y t g a f =
    let all = of_rows (λ y. implies (allowed c y) (every (stands c y) samples)) (and_parts _ _ g).0 y in
    let e = of_samples (stands c y) (implied (allowed c y) (every (stands c y) samples) all a) t in
    let i = implied (follow c (shape y) (like t)) (calm c.head y (like t) && is_none (joins c y (like t))) e (sym (follow_like c (shape y) t) ∙ f) in
    let p = and_parts (calm c.head y (like t)) _ i in
    (calm_like c.head y t ∙ p.0, joins_like c y t ∙ is_none_is _ p.1)

-- how a tree there is joined to others
pub joins_as : (c : GrammarPlace) (t : Token) (j : Joined) → good c ≡ true → joined (seen c) t ≡ Some j → joins_well c t (Some j) ≡ true
joins_as c t j g e =
    let f = of_samples (λ t. joins_well c t (joined (seen c) t) && begins_well c (entry (seen c) t)) (and_parts _ _ g).1 t in
    let p = (and_parts (joins_well c (like t) (joined (seen c) (like t))) _ f).0 in
    calm_in t j (subst (λ o. joins_well c (like t) o ≡ true) (sym (joined_alike c t) ∙ e) p)
  where
    rows_alike : (t : Token) (j : Joined) (ys : List GrammarRow) → every (λ y. implies (allowed j.place y) (may_begin c y && calm c.head y t)) ys ≡ every (λ y. implies (allowed j.place y) (may_begin c y && calm c.head y (like t))) ys
    rows_alike t j [] = refl
    rows_alike t j (y ∷ ys) = rw (calm_like c.head y t, rows_alike t j ys) refl

    calm_in : (t : Token) (j : Joined) → joins_well c (like t) (Some j) ≡ true → joins_well c t (Some j) ≡ true
    calm_in t j h = rw (rows_alike t j rows) h

pub begins_as : (c : GrammarPlace) (t : Token) (e : NodeBeginning) → good c ≡ true → entry (seen c) t ≡ Some e → begins_well c (Some e) ≡ true
begins_as c t x g e =
    let f = of_samples (λ t. joins_well c t (joined (seen c) t) && begins_well c (entry (seen c) t)) (and_parts _ _ g).1 t in
    let p = (and_parts (joins_well c (like t) (joined (seen c) (like t))) _ f).1 in
    subst (λ o. begins_well c o ≡ true) (sym (entry_alike c t) ∙ e) p

pub entry_is_ok : (c : GrammarPlace) (t : Token) (e : NodeBeginning) → entry (seen c) t ≡ Some e → ok c.head e.rest ≡ true
entry_is_ok c t x e =
    let f = of_samples (λ t. entry_ok c.head (entry (seen c) t)) (entries_ok c.sort c.head (seen c).start) t in
    subst (λ o. entry_ok c.head o ≡ true) (sym (entry_alike c t) ∙ e) f

pub joined_is_ok : (c : GrammarPlace) (t : Token) (j : Joined) → joined (seen c) t ≡ Some j → ok c.head j.rest ≡ true
joined_is_ok c t x e =
    let f = of_samples (λ t. joined_ok c.head (joined (seen c) t)) (joined_all_ok c.sort c.head (seen c).start) t in
    subst (λ o. joined_ok c.head o ≡ true) (sym (joined_alike c t) ∙ e) f

-- a row that may stand there may begin there
pub begin_if_allowed : (c : GrammarPlace) (r : GrammarRow) → allowed c r ≡ true → may_begin c r ≡ true
begin_if_allowed c r a =
    let p = and_parts (Rattle.src_tree.specs.Grammar.belongs c.sort r) _ a in
    let q = and_parts (nat_le c.least (Rattle.src_tree.specs.Grammar.level r)) (may_be c.start r) p.1 in
    and_from _ _ p.0 (and_from _ _ q.0 (go c.start q.1))
  where
    or_left : (a b : Bool) → a ≡ true → (a || b) ≡ true
    or_left true b h = refl
    or_left false b h = absurd (cc)

    go : (s : Start) → may_be s r ≡ true → begins_by s r ≡ true
    go Start.IsArm h = or_left (may_be Start.IsArm r) _ h
    go Start.IsParam h = or_left (may_be Start.IsParam r) _ h
    go _ h = h

pub join_rows : (c : GrammarPlace) (t : Token) (j : Joined) → joins_well c t (Some j) ≡ true → may_begin c j.row ≡ true → (seen j.place ≡ seen c) × ((y : GrammarRow) → allowed j.place y ≡ true → (may_begin c y ≡ true) × (calm c.head y t ≡ true))
join_rows c t j w b =
    let a = and_parts (implies (may_begin c j.row) (same_seen (seen j.place) (seen c) && every (λ y. implies (allowed j.place y) (may_begin c y && calm c.head y t)) rows)) _ w in
    let p = and_parts (same_seen (seen j.place) (seen c)) _ (implied (may_begin c j.row) _ a.0 b) in (
      seen_alike (seen j.place) (seen c) p.0,
      λ y h. and_parts (may_begin c y) (calm c.head y t) (implied (allowed j.place y) _ (of_rows (λ y. implies (allowed j.place y) (may_begin c y && calm c.head y t)) p.1 y) h),
    )

pub join_begins : (c : GrammarPlace) (t : Token) (j : Joined) → joins_well c t (Some j) ≡ true → all_ends (λ x. implies (may_begin c x) (may_begin c j.row)) j.rest ≡ true
join_begins c t j w = (and_parts (implies (may_begin c j.row) (same_seen (seen j.place) (seen c) && every (λ y. implies (allowed j.place y) (may_begin c y && calm c.head y t)) rows)) _ w).1

-- a part stands at a place that is known
pub known_part : (h : Bool) (q : GrammarRest) (p : GrammarPart) → here h q ≡ true → due q ≡ Some p → is_known places (place_of h p) ≡ true
known_part h q p w d = (and_parts (is_known places (place_of h p)) _ (part_here h q p w d)).0
