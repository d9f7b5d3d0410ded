-- Fields by the forms that are borrowed from them.
use Rattle.std.proofs.Common.{◌≡◌, ℕ, suc, List, [], ◌∷◌, ◌++◌, length, append_assoc, Result, Ok, Err, refl, ap, sym, ◌∙◌, add-one, length-append}
use Rattle.mir_base.specs.declared.place_in_text.Pos.{Pos}
use Rattle.src_tree.specs.declared.node.SyntaxNode.{SyntaxNode}
use Rattle.src_ast.specs.Seen.{syn_of}
use Rattle.src_ast.specs.Sorts.{field_part}
use Rattle.src_ast.specs.Syntax.{Word, Syn, syn, shape_of, AField, Syns, a_syn, list_of}
use Rattle.typing_rules.specs.Check.{Check, TypingState, Broken, and_then, pure, each_checked}
use Rattle.typing_rules.specs.Collected.{field_type, field_name, names_from}
use Rattle.typeck_heads.proofs.Kept.{state_in}
use Rattle.typeck_heads.specs.Forms.{field_type_by, field_name_by}

field_type_as : (x : Syn) → field_type x ≡ field_type_by x (field_part (shape_of x))
field_type_as (syn at (AField a b)) = refl
field_type_as (syn at _) = refl

pub field_type_seen : (n : SyntaxNode) → field_type (syn_of n) ≡ field_type_by (syn_of n) (field_part (shape_of (syn_of n)))
field_type_seen n = field_type_as (syn_of n)

field_name_as : (k : ℕ) (x : Syn) → field_name k x ≡ field_name_by k (field_part (shape_of x))
field_name_as k (syn at (AField a b)) = refl
field_name_as k (syn at _) = refl

pub field_name_seen : (k : ℕ) (n : SyntaxNode) → field_name k (syn_of n) ≡ field_name_by k (field_part (shape_of (syn_of n)))
field_name_seen k n = field_name_as k (syn_of n)

-- names one behind another
pub names_behind : (whole names more : List Word) (ss : Syns) (first : Syn) (rest : Syns) (name : Word) →
    whole ≡ names ++ names_from (length names) (list_of ss) → a_syn first rest ≡ ss → name ≡ field_name (length names) first →
    more ≡ names ++ name ∷ [] → whole ≡ more ++ names_from (length more) (list_of rest)
names_behind whole names more ss first rest name h split is pushed =
    let next : suc (length names) ≡ length more = sym (ap length pushed ∙ length-append names (name ∷ []) ∙ add-one (length names)) in
    h ∙ ap (λ z. names ++ names_from (length names) (list_of z)) (sym split)
    ∙ ap (λ z. names ++ z ∷ names_from (suc (length names)) (list_of rest)) (sym is)
    ∙ ap (λ z. names ++ name ∷ names_from z (list_of rest)) next
    ∙ sym (append_assoc names (name ∷ []) (names_from (length more) (list_of rest)))
    ∙ ap (λ z. z ++ names_from (length more) (list_of rest)) (sym pushed)

names_length : (k : ℕ) (fs : List Syn) → length (names_from k fs) ≡ length fs
names_length k [] = refl
names_length k (f ∷ fs) = ap suc (names_length (suc k) fs)

abbrev given_in : {A : Type 0} → Result (List A × TypingState) Broken → List A
given_in (Ok a) = a.0
given_in (Err e) = []

each_length : {A : Type 0} (f : Syn → Check A) (xs : List Syn) (s t : TypingState) (ys : List A) → each_checked f xs s ≡ Ok (ys, t) →
    length ys ≡ length xs
each_length f [] s t ys h = ap (λ o. length (given_in o)) (sym h)
each_length {A} f (x ∷ xs) s t ys h = by (f x s) (λ u zs i. each_length f xs u t zs i) h
  where
    on : (y : A) (o : Result (List A × TypingState) Broken) → ((zs : List A) → o ≡ Ok (zs, t) → length zs ≡ length xs) →
        and_then o (λ zs. pure (y ∷ zs)) ≡ Ok (ys, t) → length ys ≡ suc (length xs)
    on y (Ok p) rest h =
        let state : p.1 ≡ t = ap (state_in t) h in
        ap (λ o. length (given_in o)) (sym h) ∙ ap suc (rest p.0 (ap (λ z. Ok (p.0, z)) state))
    on y (Err e) rest h = absurd (cc)

    by : (o : Result (A × TypingState) Broken) → ((u : TypingState) (zs : List A) → each_checked f xs u ≡ Ok (zs, t) → length zs ≡ length xs) →
        and_then o (λ y. λ u. and_then (each_checked f xs u) (λ zs. pure (y ∷ zs))) ≡ Ok (ys, t) → length ys ≡ suc (length xs)
    by (Ok p) rest h = on p.0 (each_checked f xs p.1) (rest p.1) h
    by (Err e) rest h = absurd (cc)

pub as_many_names : {A : Type 0} (f : Syn → Check A) (fs : List Syn) (s t : TypingState) (ys : List A) (names : List Word) →
    each_checked f fs s ≡ Ok (ys, t) → names ≡ names_from 0 fs → length names ≡ length ys
as_many_names f fs s t ys names h is = ap length is ∙ names_length 0 fs ∙ sym (each_length f fs s t ys h)
