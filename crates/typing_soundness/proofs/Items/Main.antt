-- The function `main` of an accepted text.
use Rattle.std.proofs.Common.{◌≡◌, ℕ, zero, suc, ◌+◌, ◌<◌, Bool, true, false, ◌||◌, ◌==◌, not, if◌then◌else◌, List, [], ◌∷◌, ◌++◌, map, length, slice_get, Option, Some, None, Result, Ok, Err, IsTrue, Contains, ◌⊎◌, inl, inr, refl, ap, sym, subst, ◌∙◌, arith}
use Rattle.std.specs.Prelude.{codes, is_some, nat_lt, option_and_then}
use Rattle.std.specs.List.{list_any, filter_map, position as position_of, position_or_len}
use Rattle.std.specs.Str.{bytes_eq}
use Rattle.std.proofs.lemmas.Bool.{false≢true, and_from, and_parts, eqb-true, lt-ltb}
use Rattle.std.proofs.lemmas.List.Elements.{Contains-append_cases}
use Rattle.std.proofs.lemmas.List.Quantifiers.{position-Some}
use Rattle.std.proofs.lemmas.Option.{none-some, same_Some, slice_get-get_or}
use Rattle.std.proofs.lemmas.Slice.Eq.{bytes_eq-Decides}
use Rattle.mir_base.specs.declared.place_in_text.Pos.{Pos}
use Rattle.mir_base.specs.declared.rule.Rule.{Rule}
use Rattle.mir_ty.specs.declared.def.Sig.{Sig}
use Rattle.mir_ty.specs.declared.ty.TyId.{TyId}
use Rattle.mir_ty.specs.ItemTable.{ItemTable, type_at}
use Rattle.mir_ty.proofs.ListLemmas.{slice_get-Contains, Contains-slice_get}
use Rattle.src_tree.specs.Layout.{Parts}
use Rattle.typed_tree.specs.Tree.{ProgramTree}
use Rattle.well_typed.specs.Types.{is_unit, is_unit_ty}
use Rattle.typing_rules.specs.Check.{TypingState, Broken, obeys, each_checked}
use Rattle.typing_rules.specs.Collected as rules
use Rattle.typing_rules.specs.Items.{ItemSyn, items_of, item_syns, body_paths, body_path, impl_owner, full_name}
use Rattle.typing_rules.specs.Program as checks
use Rattle.typing_rules.specs.Promises.{Extends, is_plain_name}
use Rattle.typing_rules.specs.Scope.{Env, body_named}
use Rattle.typing_rules.specs.Written as types
use Rattle.typing_rules.proofs.Sound.Later.{passes_got, passes_by}
use Rattle.typing_rules.proofs.Sound.Places.{contains_cases}
use Rattle.src_ast.specs.Syntax.{Word, Named, Syn, syn, Shape, AnExpression, AStatement, AnItem, AnInit, AnArm, Expression, Minus, Bang, Star, Ampersand, Calculate, Compare, Both, Either, Store, CallOf, MethodOf, FieldOf, PartOf, ElementOf, StructOf, Parens, TupleOf, ArrayOf, Braces, IfElse, IfLetElse, MatchOn, LoopOf, WhileOf, WhileLetOf, BreakOf, ReturnOf, MoveOf, LetOf, Semi, ImplItem, FnItem, Syns, no_syn, a_syn, list_of, MaybeSyn, nothing, just}
use Rattle.typing_soundness.specs.Closures.{BodySyn, Function, Closure, WrittenHead, closures_of, closures_in, closures_in_expression, closures_among, closures_if_any, functions_text}
use Rattle.typing_soundness.specs.Heads.{IsHeadOf, function_name, body_text, bodies_text, inner_text, TellBodies}
use Rattle.typing_soundness.specs.Items.{is_main}
use Rattle.typing_soundness.specs.Met.{MeanParams, AreMade, behind}
use Rattle.typing_soundness.specs.Program.{IsAccepted}
use Rattle.typing_soundness.specs.Types.{HaveTypes}
use Rattle.typing_soundness.specs.Walks.{Walked}
use Rattle.typing_soundness.proofs.Bodies.Order.{no_ok, same_ok, item_keeps, bodies_keep}
use Rattle.typing_soundness.proofs.Bodies.Program.{bodies_typed}
use Rattle.typing_soundness.proofs.Items.Accepting.{are_collected}
use Rattle.typing_soundness.proofs.Items.Collected.{IsOwner, all_names, both_tell, listed_text, owner_known}
use Rattle.typing_soundness.proofs.Items.Headed.{heads_of_text, no_ok as no_items_ok}
use Rattle.typing_soundness.proofs.Items.Ready.{All}
use Rattle.typing_soundness.proofs.Walking.Lawful.{whatever}
use Rattle.typing_soundness.proofs.Walking.Steps.{walk, walk_map, walk_ends}

-- ---- lists

-- where one passes, the first has a number
below_if : {A : Type 0} (p : A → Bool) (xs : List A) (k : ℕ) (x : A) → slice_get xs k ≡ Some x → IsTrue (p x) →
    position_or_len p xs < length xs
below_if p [] k x is h = absurd (none-some x is)
below_if p (y ∷ ys) zero x is h = by (p y) (subst (λ z. IsTrue (p z)) (sym (same_Some y x is)) h)
  where
    by : (b : Bool) → IsTrue b → (if not b then 1 + position_or_len p ys else 0) < suc (length ys)
    by true h = omega arith
    by false h = absurd (false≢true h)
below_if p (y ∷ ys) (suc k) x is h = by (p y) (below_if p ys k x is h)
  where
    by : (b : Bool) → position_or_len p ys < length ys → (if not b then 1 + position_or_len p ys else 0) < suc (length
        ys)
    by true h = omega arith
    by false h = omega (arith, h)

pub has_position : {A : Type 0} (p : A → Bool) (xs : List A) (k : ℕ) (x : A) → slice_get xs k ≡ Some x → IsTrue (p x) → (n : ℕ) ×
    (position_of p xs ≡ Some n)
has_position p xs k x is h =
    by (nat_lt (position_or_len p xs) (length xs)) (lt-ltb _ _ (below_if p xs k x is h))
  where
    by : (b : Bool) → b ≡ true → (n : ℕ) × ((if b then Some (position_or_len p xs) else None) ≡ Some n)
    by true e = (position_or_len p xs, refl)
    by false e = absurd (false≢true e)

pub one_of : {A : Type 0} (p : A → Bool) (xs : List A) (k : ℕ) (x : A) → slice_get xs k ≡ Some x → IsTrue (p x) → IsTrue (list_any
    p xs)
one_of p [] k x is h = absurd (none-some x is)
one_of p (y ∷ ys) zero x is h =
    ap (λ b. b || list_any p ys) (subst (λ z. IsTrue (p z)) (sym (same_Some y x is)) h)
one_of p (y ∷ ys) (suc k) x is h = by (p y) (one_of p ys k x is h)
  where
    by : (b : Bool) → IsTrue (list_any p ys) → IsTrue (b || list_any p ys)
    by true h = refl
    by false h = h

-- ---- names

abbrev main : Word
main = codes "main"

pub same_word : (a b : Word) → bytes_eq a b ≡ true → a ≡ b
same_word a b h = (bytes_eq-Decides a b).0 h

pub word_self : (a : Word) → bytes_eq a a ≡ true
word_self a = (bytes_eq-Decides a a).1 refl

either_so : (a b : Bool) → b ≡ true → (a || b) ≡ true
either_so true b h = refl
either_so false b h = h

-- the name of a method has a mark that `main` has not
colon_in : (name ws : Word) → list_any (λ byte. byte == 58) (ws ++ codes "::" ++ name) ≡ true
colon_in name [] = refl
colon_in name (w ∷ ws) =
    either_so (w == 58) (list_any (λ byte. byte == 58) (ws ++ codes "::" ++ name)) (colon_in name ws)

method_is_no_main : (owner name : Word) → (owner ++ codes "::" ++ name) ≡ main → ⊥
method_is_no_main owner name e =
    false≢true (sym (ap (list_any (λ byte. byte == 58)) e) ∙ colon_in name owner)

-- ---- closures among the bodies of a text

-- what one closure more keeps, all closures of an expression keep
module _ (Kept : List BodySyn → Type 0) (closure : (head : WrittenHead) (rest : List BodySyn) → Kept rest → Kept (Closure head ∷ rest))
    (around : types.WrittenScope) where
  mutual
    each_closure : (e : Syn) (rest : List BodySyn) → Kept rest → Kept (closures_of around e rest)
    each_closure (syn at form) rest p = each_in form rest p

    each_in : (form : Shape) (rest : List BodySyn) → Kept rest → Kept (closures_in around form rest)
    each_in (AnExpression e) rest p = each_in_expression e rest p
    each_in (AnInit name value) rest p = each_if_any value rest p
    each_in (AnArm pattern guard body) rest p = each_if_any guard _ (each_closure body rest p)
    each_in (AStatement (LetOf pattern ty value)) rest p = each_if_any value rest p
    each_in (AStatement (Semi expression)) rest p = each_closure expression rest p
    each_in _ rest p = p

    each_in_expression : (form : Expression) (rest : List BodySyn) → Kept rest → Kept (closures_in_expression around form rest)
    each_in_expression (Minus operand) rest p = each_closure operand rest p
    each_in_expression (Bang operand) rest p = each_closure operand rest p
    each_in_expression (Star operand) rest p = each_closure operand rest p
    each_in_expression (Ampersand unique operand) rest p = each_closure operand rest p
    each_in_expression (Calculate operator left right) rest p = each_closure left _ (each_closure right rest p)
    each_in_expression (Compare operator left right) rest p = each_closure left _ (each_closure right rest p)
    each_in_expression (Both left right) rest p = each_closure left _ (each_closure right rest p)
    each_in_expression (Either left right) rest p = each_closure left _ (each_closure right rest p)
    each_in_expression (Store place value) rest p = each_closure place _ (each_closure value rest p)
    each_in_expression (CallOf callee args) rest p = each_closure callee _ (each_among args rest p)
    each_in_expression (MethodOf receiver name args) rest p = each_closure receiver _ (each_among args rest p)
    each_in_expression (FieldOf base name) rest p = each_closure base rest p
    each_in_expression (PartOf base number) rest p = each_closure base rest p
    each_in_expression (ElementOf base index) rest p = each_closure base _ (each_closure index rest p)
    each_in_expression (StructOf first second inits) rest p = each_among inits rest p
    each_in_expression (Parens inside) rest p = each_closure inside rest p
    each_in_expression (TupleOf parts) rest p = each_among parts rest p
    each_in_expression (ArrayOf elements) rest p = each_among elements rest p
    each_in_expression (Braces statements tail) rest p = each_among statements _ (each_if_any tail rest p)
    each_in_expression (IfElse condition body otherwise) rest p =
        each_closure condition _ (each_closure body _ (each_if_any otherwise rest p))
    each_in_expression (IfLetElse pattern scrutinee body otherwise) rest p =
        each_closure scrutinee _ (each_closure body _ (each_if_any otherwise rest p))
    each_in_expression (MatchOn scrutinee arms) rest p = each_closure scrutinee _ (each_among arms rest p)
    each_in_expression (LoopOf label body) rest p = each_closure body rest p
    each_in_expression (WhileOf label condition body) rest p = each_closure condition _ (each_closure body rest p)
    each_in_expression (WhileLetOf label pattern scrutinee body) rest p = each_closure scrutinee _ (each_closure body rest p)
    each_in_expression (BreakOf label value) rest p = each_if_any value rest p
    each_in_expression (ReturnOf value) rest p = each_if_any value rest p
    each_in_expression (MoveOf captures params answer body) rest p = closure _ _ (each_closure body rest p)
    each_in_expression _ rest p = p

    each_among : (es : Syns) (rest : List BodySyn) → Kept rest → Kept (closures_among around es rest)
    each_among no_syn rest p = p
    each_among (a_syn first others) rest p = each_closure first _ (each_among others rest p)

    pub each_if_any : (e : MaybeSyn) (rest : List BodySyn) → Kept rest → Kept (closures_if_any around e rest)
    each_if_any nothing rest p = p
    each_if_any (just value) rest p = each_closure value rest p

-- ---- what the rule on `main` asks

-- where a body is called `main`, the first of them has these parameters and the result `()`
abbrev IsMain : ItemTable → Syns → Type 0
IsMain items params =
    (m : ℕ) (sig : Sig) → body_named items main ≡ Some m → slice_get items.bodies m ≡ Some sig → (params ≡ no_syn) × IsTrue
    (is_unit items sig.result)

abbrev MainItem : ItemTable → Syn → Type 0
MainItem items (syn at (AnItem (FnItem name params answer block))) = IsTrue (bytes_eq name.1 main) → IsMain items params
MainItem items _ = Unit {0}

no_params : (params : Syns) → (checks.count_of params == 0) ≡ true → params ≡ no_syn
no_params no_syn h = refl
no_params (a_syn first rest) h =
    absurd (let e = eqb-true (checks.count_of (a_syn first rest)) 0 h in omega (arith, e))

ruled : (b k : Bool) → (not b || k) ≡ true → b ≡ true → k ≡ true
ruled true k h e = h
ruled false k h e = absurd (false≢true e)

obeyed_state : {P : TypingState → Type 0} (rule : Rule) (at : Pos) (b : Bool) (s : TypingState) → (IsTrue b → P s) → Walked (λ _ t. P t)
    (obeys rule at b s)
obeyed_state rule at true s h = walk_ends (h refl)
obeyed_state rule at false s h = record { so = tt }

main_ruled : (at : Pos) (name : Named) (params : Syns) (answer block : MaybeSyn) (t : TypingState) → Walked (λ _ u. MainItem u.items
    (syn at (AnItem (FnItem name params answer block)))) (checks.main_rule at name.1 params t.items (option_and_then (slice_get
    t.items.bodies) (body_named t.items name.1)) t)
main_ruled at name params answer block t =
    by (option_and_then (slice_get t.items.bodies) (body_named t.items name.1)) refl
  where
    by : (o : Option Sig) → option_and_then (slice_get t.items.bodies) (body_named t.items name.1) ≡ o → Walked (λ _ u.
        MainItem u.items (syn at (AnItem (FnItem name params answer block)))) (checks.main_rule at name.1 params t.items o t)
    by None is = walk_ends (λ called m sig named at_m. absurd (none-some sig (sym is ∙ found called m sig named at_m)))
      where
        found : IsTrue (bytes_eq name.1 main) → (m : ℕ) (sig : Sig) → body_named t.items main ≡ Some m → slice_get
            t.items.bodies m ≡ Some sig → option_and_then (slice_get t.items.bodies) (body_named t.items name.1) ≡ Some sig
        found called m sig named at_m =
            ap (λ w. option_and_then (slice_get t.items.bodies) (body_named t.items w)) (same_word name.1 main called) ∙ (ap
            (option_and_then (slice_get t.items.bodies)) named ∙ at_m)
    by (Some first) is =
        obeyed_state {P = λ u. MainItem u.items (syn at (AnItem (FnItem name params answer block)))} Rule.T03 at
        (checks.is_main_head name.1 params first t.items) t λ ok called m sig named at_m.
        let same : first ≡ sig = same_Some first sig (sym is ∙ (ap (λ w. option_and_then (slice_get t.items.bodies)
        (body_named t.items w)) (same_word name.1 main called) ∙ (ap (option_and_then (slice_get t.items.bodies)) named ∙
        at_m))) in
        let k = and_parts (checks.count_of params == 0) _ (ruled (bytes_eq name.1 main) _ ok called) in
        (no_params params k.0, subst (λ (x : Sig). IsTrue (is_unit t.items x.result)) same k.1)

main_kept : (env : Env) (before : checks.Before) (i : Syn) (s : TypingState) → Walked (λ _ t. MainItem t.items i)
    (checks.item_rules env before i s)
main_kept env before (syn at (AnItem (FnItem name params answer block))) s =
    walk (whatever {P = Unit {0}} (checks.head_rules env params answer s) tt) λ _ t _. walk {f = λ _ u. Ok (before, u)}
    (main_ruled at name params answer block t) λ _ u h. walk_ends h
main_kept env before (syn at _) s = whatever _ tt

main_later : (old new : ItemTable) → HaveTypes old new → new.bodies ≡ old.bodies → (i : Syn) → MainItem old i → MainItem new i
main_later old new types bodies (syn at (AnItem (FnItem name params answer block))) h =
    λ called m sig named at_m. let k = h called m sig (ap (position_of (λ (s : Sig). bytes_eq s.name main)) (sym bodies) ∙ named) (ap (λ hs. slice_get hs
    m) (sym bodies) ∙ at_m) in
    let g = passes_got is_unit_ty (type_at old sig.result) k.1 in
    (k.0, passes_by is_unit_ty (type_at new sig.result) g.0 (types sig.result.0 g.0 g.1) g.2)
main_later old new types bodies (syn at _) h = h

record MainsKept (is : List Syn) (s t : TypingState) : Type 0 where
  types : HaveTypes s.items t.items
  bodies : t.items.bodies ≡ s.items.bodies
  mains : All (MainItem t.items) is

mains_kept : (env : Env) (before : checks.Before) (is : List Syn) (s : TypingState) → Walked (λ _ t. MainsKept is s t)
    (checks.all_items env before is s)
mains_kept env before [] s = walk_ends (record { types = λ n ty h. h; bodies = refl; mains = tt })
mains_kept env before (i ∷ is) s =
    walk (both_tell (checks.item_rules env before i s) (item_keeps env before i s) (main_kept env before i s)) λ next t h.
    walk (bodies_keep env t.items.adts i t refl) λ _ u b. walk_map (mains_kept env next is u) λ a v k. record {
      types = λ n ty x. k.types n ty (b.met.types n ty (h.0.met.types n ty x));
      bodies = k.bodies ∙ (b.met.heads ∙ h.0.met.heads);
      mains = (
        main_later t.items v.items (λ n ty x. k.types n ty (b.met.types n ty x)) (k.bodies ∙ b.met.heads) i h.1,
        k.mains,
      );
    }

-- ---- the bodies of a text that are called `main`

abbrev MainText : ItemTable → BodySyn → Type 0
MainText items (Function head) = IsTrue (bytes_eq (function_name head) main) → IsMain items head.params
MainText items (Closure head) = Unit {0}

abbrev pub IsOwned : rules.Known → ItemSyn → Type 0
IsOwned k i = IsOwner k (impl_owner i.item)

module _ (items : ItemTable) (k : rules.Known) where
  closures_text : (around : types.WrittenScope) (block : MaybeSyn) (rest : List BodySyn) → All (MainText items) rest → All (MainText
      items) (closures_if_any around block rest)
  closures_text around block rest p = each_if_any (All (MainText items)) (λ head texts q. (tt, q)) around block rest p

  methods_text : (owner : Word) → IsOwner k (Some owner) → (ms : List Syn) (rest : List BodySyn) → All (MainText items) rest →
      All (MainText items) (functions_text (all_names k (Some owner)) ms rest)
  methods_text owner own [] rest p = p
  methods_text owner own (syn at (AnItem (FnItem name params answer block)) ∷ ms) rest p = (
    λ called. absurd (method_is_no_main owner name.1 (ap (λ o. full_name o name.1) (sym own) ∙ same_word _ main called)),
    closures_text (all_names k (Some owner)) block _ (methods_text owner own ms rest p),
  )
  methods_text owner own (syn at _ ∷ ms) rest p = methods_text owner own ms rest p

  item_main : (i : Syn) → MainItem items i → IsOwner k (impl_owner i) → (rest : List BodySyn) → All (MainText items) rest → All
      (MainText items) (inner_text (all_names k (impl_owner i)) i rest)
  item_main (syn at (AnItem (ImplItem trait_ name methods))) h own rest p = methods_text name.1 own (list_of methods) rest p
  item_main (syn at (AnItem (FnItem name params answer block))) h own rest p =
      (h, closures_text (all_names k None) block rest p)
  item_main (syn at _) h own rest p = p

  mains_listed : (is : List ItemSyn) → All (MainItem items) (item_syns is) → All (IsOwned k) is → TellBodies is → All (MainText
      items) (listed_text k is [])
  mains_listed [] h own tell = tt
  mains_listed (i ∷ is) h own tell =
      subst (λ f. All (MainText items) (f (listed_text k is []))) (sym (tell.0 (all_names k (impl_owner i.item))))
      (item_main i.item h.0 own.0 (listed_text k is []) (mains_listed is h.1 own.1 tell.1))

pub owners_known : (k : rules.Known) (c : rules.Count) (is : List ItemSyn) (s : TypingState) → Walked (λ _ t. All (IsOwned k)
    is) (rules.heads_collected k c is s)
owners_known k c [] s = walk_ends tt
owners_known k c (i ∷ is) s =
    walk (owner_known k i.item s) λ _ t h. walk (whatever {P = Unit {0}} (rules.body_sigs k (impl_owner i.item) c i.bodies t)
    tt) λ d u _. walk_map (owners_known k d is u) λ _ v g. (h, g)

-- ---- there is one

-- a text among others
abbrev Called : List BodySyn → Type 0
Called texts = (head : WrittenHead) × Contains texts (Function head) × (function_name head ≡ main)

called_behind : (text : BodySyn) (texts : List BodySyn) → Called texts → Called (text ∷ texts)
called_behind text texts (head, has, e) = (head, (suc has.0, omega (arith, has.1), has.2), e)

module _ (k : rules.Known) where
  over_body : (around : types.WrittenScope) (b : Syn) (rest : List BodySyn) → Called rest → Called (body_text around b rest)
  over_body around (syn at (AnItem (FnItem name params answer block))) rest c = called_behind _ rest c
  over_body around (syn at (AnExpression (MoveOf captures params answer body))) rest c = called_behind _ rest c
  over_body around (syn at _) rest c = c

  over_bodies : (around : types.WrittenScope) (bs : List Syn) (rest : List BodySyn) → Called rest → Called (bodies_text around bs
      rest)
  over_bodies around [] rest c = c
  over_bodies around (b ∷ bs) rest c = over_body around b (bodies_text around bs rest) (over_bodies around bs rest c)

  -- a path that is `main` is that of a function
  abbrev is_angle : Word → Bool
  is_angle [] = false
  is_angle (byte ∷ bytes) = byte == 60

  abbrev is_begun : Word → Bool
  is_begun [] = false
  is_begun (byte ∷ bytes) = true

  its_path : (i b : Syn) → body_path i b ≡ main → (rest : List BodySyn) → Called (body_text (all_names k (impl_owner i)) b rest)
  its_path (syn place (AnItem (ImplItem (Some trait_) owner methods))) (syn at (AnItem (FnItem name params answer block))) e rest =
      absurd (false≢true (sym (ap is_angle e)))
  its_path (syn place (AnItem (ImplItem None owner methods))) (syn at (AnItem (FnItem name params answer block))) e rest =
      absurd (false≢true (sym (ap is_angle e)))
  its_path (syn place _) (syn at (AnItem (FnItem name params answer block))) e rest = (_, (0, omega arith, refl), e)
  its_path i (syn at _) e rest = absurd (false≢true (ap is_begun e))

  bodies_path : (i : Syn) (bs : List Syn) (rest : List BodySyn) → Contains (map (body_path i) bs) main → Called (bodies_text
      (all_names k (impl_owner i)) bs rest)
  bodies_path i [] rest has = absurd (omega (arith, has.1))
  bodies_path i (b ∷ bs) rest has =
      by (contains_cases (body_path i b) (map (body_path i) bs) main has) (bodies_path i bs rest)
    where
      by : (body_path i b ≡ main) ⊎ Contains (map (body_path i) bs) main → (Contains (map (body_path i) bs) main → Called
          (bodies_text (all_names k (impl_owner i)) bs rest)) → Called (bodies_text (all_names k (impl_owner i)) (b ∷ bs)
          rest)
      by (inl here) on = its_path i b here (bodies_text (all_names k (impl_owner i)) bs rest)
      by (inr more) on =
          over_body (all_names k (impl_owner i)) b (bodies_text (all_names k (impl_owner i)) bs rest) (on more)

  all_paths : (is : List ItemSyn) → Contains (body_paths is) main → Called (listed_text k is [])
  all_paths [] has = absurd (omega (arith, has.1))
  all_paths (i ∷ is) has =
      by (Contains-append_cases (map (body_path i.item) i.bodies) (body_paths is) main has) (all_paths is)
    where
      by : Contains (map (body_path i.item) i.bodies) main ⊎ Contains (body_paths is) main → (Contains (body_paths is) main →
          Called (listed_text k is [])) → Called (listed_text k (i ∷ is) [])
      by (inl here) on = bodies_path i.item i.bodies (listed_text k is []) here
      by (inr more) on = over_bodies (all_names k (impl_owner i.item)) i.bodies (listed_text k is []) (on more)

path_there : (ws : List Word) (w : Word) → IsTrue (is_some (types.number_of ws w)) → Contains ws w
path_there ws w h = by (types.number_of ws w) refl h
  where
    by : (o : Option ℕ) → types.number_of ws w ≡ o → IsTrue (is_some o) → Contains ws w
    by None e h = absurd (false≢true h)
    by (Some n) e h =
        let at = position-Some (bytes_eq w) ws n [] e in
        Contains-slice_get ws n w (slice_get-get_or ws n [] at.0 ∙ ap Some (sym (same_word w _ at.1)))

collecting_main : (is : List ItemSyn) (end : Pos) (s : TypingState) → Walked (λ _ t. Contains (body_paths is) main × All (IsOwned (rules.known_of is)) is) (rules.collecting is end s)
collecting_main is end s =
    walk (whatever {P = Unit {0}} (rules.names_differ (filter_map rules.item_name (item_syns is)) [] s) tt) λ _ t _. walk
    (owners_known (rules.known_of is) (record { outer = []; in_outer = 0; closures = 0 }) is t) λ _ u own. walk (whatever {P
    = Unit {0}} (each_checked (rules.impl_of (rules.known_of is)) (item_syns is) u) tt) λ _ v _. walk (whatever {P = Unit
    {0}} (rules.all_finite 0 (filter_map rules.adt_item (item_syns is)) v) tt) λ _ w _. walk (whatever {P = Unit {0}}
    (rules.all_derive (rules.drop_owners is) 0 (filter_map rules.adt_item (item_syns is)) w) tt) λ _ x _. walk_map
    (obeyed_state {P = λ _. Contains
    (body_paths is) main} Rule.T01 end (is_some (types.number_of (body_paths is) main)) x (path_there (body_paths is) main))
    λ _ y h. (h, own)

-- ---- heads and their texts

-- the head of a text, and the text of a head
pub head_of : {B : Type 0} (P : ℕ → BodySyn → B → Type 0) (from to : ℕ) (texts rest : List BodySyn) (bs : List B) → AreMade P from to
    texts [] bs → (n : ℕ) (t : BodySyn) → slice_get texts n ≡ Some t → (b : B) × (k : ℕ) × (slice_get bs n ≡ Some b) × P k t b
head_of P from to texts rest [] h n t is = absurd (none-some t (sym (ap (λ ts. slice_get ts n) h.0) ∙ is))
head_of P from to [] rest (b ∷ bs) h n t is = absurd (none-some t is)
head_of P from to (text ∷ texts) rest (b ∷ bs) h zero t is =
    (b, from, refl, subst (λ x. P from x b) (same_Some text t is) h.0)
head_of P from to (text ∷ texts) rest (b ∷ bs) h (suc n) t is = head_of P (behind text from) to texts rest bs h.1 n t is

text_of : {B : Type 0} (P : ℕ → BodySyn → B → Type 0) (Q : BodySyn → Type 0) (from to : ℕ) (texts : List BodySyn) (bs : List B) →
    AreMade P from to texts [] bs → All Q texts → (n : ℕ) (b : B) → slice_get bs n ≡ Some b → (t : BodySyn) × (k : ℕ) × P k
    t b × Q t
text_of P Q from to texts [] h q n b is = absurd (none-some b is)
text_of P Q from to [] (x ∷ bs) h q n b is = absurd h
text_of P Q from to (text ∷ texts) (x ∷ bs) h q zero b is =
    (text, from, subst (P from text) (same_Some x b is) h.0, q.0)
text_of P Q from to (text ∷ texts) (x ∷ bs) h q (suc n) b is = text_of P Q (behind text from) to texts bs h.1 q.1 n b is

-- ---- the whole

module _ (parts : Parts Pos) (items : ItemTable) (p : ProgramTree) (h : IsAccepted parts items p) where
  abbrev texts : List Syn
  texts = item_syns (items_of parts)

  abbrev k : rules.Known
  k = rules.known_of (items_of parts)

  extends : Extends items p.items
  extends = (bodies_typed parts items p (are_collected parts items p h) h.checked).0

  told : Contains (body_paths (items_of parts)) main × All (IsOwned k) (items_of parts)
  told = by _ (collecting_main (items_of parts) h.end (rules.starting_with rules.no_items)) h.collected
    where
      by : (r : Result (Unit {0} × TypingState) Broken) → Walked (λ _ t. Contains (body_paths (items_of parts)) main × All (IsOwned k) (items_of parts)) r → rules.items_in r ≡ Ok items → Contains (body_paths (items_of parts))
          main × All (IsOwned k) (items_of parts)
      by (Ok a) w e = w.so
      by (Err x) w e = absurd (no_items_ok x e)

  kept : All (MainItem p.items) texts
  kept = by _ (mains_kept (checks.outermost texts) (record { methods = []; impls = [] }) texts (rules.starting_with items))
      h.checked
    where
      by : (r : Result (Unit {0} × TypingState) Broken) → Walked (λ _ t. MainsKept texts (rules.starting_with items) t) r →
          checks.program_in r ≡ Ok p → All (MainItem p.items) texts
      by (Ok a) w e = subst (λ (q : ProgramTree). All (MainItem q.items) texts) (same_ok _ p e) w.so.mains
      by (Err x) w e = absurd (no_ok x p e)

  listed : All (MainText p.items) (listed_text k (items_of parts) [])
  listed = mains_listed p.items k (items_of parts) kept told.1 h.text.listed

  -- the head of the function
  found : (head : WrittenHead) (n : ℕ) → slice_get (listed_text k (items_of parts) []) n ≡ Some (Function head) → function_name head
      ≡ main → (m : ℕ) × (sig : Sig) × (body_named items main ≡ Some m) × (slice_get items.bodies m ≡ Some sig) × (sig.name ≡
      main)
  found head n at e =
      let heads = heads_of_text parts h.end items h.collected in
      let f = head_of (IsHeadOf items) 0 heads.count (listed_text k (items_of parts) []) [] items.bodies heads.made n (Function
      head) at in
      let m = has_position (λ (s : Sig). bytes_eq s.name main) items.bodies n f.0 f.2 (ap (λ w. bytes_eq w main) (f.3.1 ∙ e) ∙
      word_self main) in
      let first = position-Some (λ (s : Sig). bytes_eq s.name main) items.bodies m.0 f.0 m.1 in
      (m.0, _, m.1, slice_get-get_or items.bodies m.0 f.0 first.0, same_word _ main first.1)

  main_is : (m : ℕ) (sig : Sig) → body_named items main ≡ Some m → slice_get items.bodies m ≡ Some sig → sig.name ≡ main →
      IsTrue (list_any (is_main p.items) p.items.bodies)
  main_is m sig named at called =
      let heads = heads_of_text parts h.end items h.collected in
      let t = text_of (IsHeadOf items) (MainText p.items) 0 heads.count (listed_text k (items_of parts) []) items.bodies
      heads.made listed m sig at in
      one_of (is_main p.items) p.items.bodies m sig (ap (λ hs. slice_get hs m) extends.bodies ∙ at) (by t.0 t.1 t.2 t.3)
    where
      by : (text : BodySyn) (c : ℕ) → IsHeadOf items c text sig → MainText p.items text → IsTrue (is_main p.items sig)
      by (Closure head) c is own = absurd (false≢true (sym is.1 ∙ ap is_plain_name called))
      by (Function head) c is own =
          let o = own (ap (λ w. bytes_eq w main) (sym is.1 ∙ called) ∙ word_self main) m sig (ap (position_of (λ (s : Sig).
          bytes_eq s.name main)) extends.bodies ∙ named) (ap (λ hs. slice_get hs m) extends.bodies ∙ at) in
          and_from (bytes_eq sig.name main) _ (ap (λ w. bytes_eq w main) called ∙ word_self main) (and_from (length sig.params
          == 0) _ (none sig.params (subst (λ ps. MeanParams head.around items ps sig.params) o.0 is.0.0)) o.1)
        where
          none : (tys : List TyId) → MeanParams head.around items no_syn tys → (length tys == 0) ≡ true
          none [] m = refl
          none (ty ∷ tys) m = absurd m

  pub text_main : IsTrue (list_any (is_main p.items) p.items.bodies)
  text_main =
      let c = all_paths k (items_of parts) told.0 in
      let f = found c.0 c.1.0 (slice_get-Contains (listed_text k (items_of parts) []) (Function c.0) c.1) c.2 in
      main_is f.0 f.1 f.2 f.3 f.4
