-- Each body of a typed text has its own head, and each closure its own body.
use Rattle.std.proofs.Common.{◌≡◌, ℕ, zero, suc, ◌+◌, ◌<◌, ◌≤◌, Bool, true, false, cond, not, nat_lt, if◌then◌else◌, List, [], ◌∷◌, ◌++◌, map, length, take, slice_get, Some, None, Result, Ok, Err, IsTrue, ◌⊎◌, inl, inr, refl, ap, sym, subst, ◌∙◌, arith}
use Rattle.std.specs.Cmp.Lexicographic.{nat_list_eq_equiv}
use Rattle.std.specs.List.{position as position_of, prefix_len}
use Rattle.std.specs.Str.{bytes_eq}
use Rattle.std.proofs.lemmas.Bool.{false≢true, cases_order}
use Rattle.std.proofs.lemmas.List.{length-map}
use Rattle.std.proofs.lemmas.Option.{same_Some, none-some, slice_get_within}
use Rattle.mir_base.specs.declared.int_kind.IntKind.{IntKind}
use Rattle.mir_base.specs.declared.place_in_text.Pos.{Pos}
use Rattle.mir_ty.specs.AreItems.{AreDistinct}
use Rattle.mir_ty.specs.declared.adt.Adt.{Adt}
use Rattle.mir_ty.specs.declared.def.ClosureDef.{ClosureDef}
use Rattle.mir_ty.specs.declared.def.Sig.{Sig}
use Rattle.mir_ty.specs.declared.ty.Ty.{Ty}
use Rattle.mir_ty.specs.declared.ty.TyId.{TyId}
use Rattle.mir_ty.specs.ItemTable.{ItemTable, type_at}
use Rattle.src_tree.specs.Layout.{Parts}
use Rattle.typed_tree.specs.Tree.{BodyTree, ProgramTree}
use Rattle.well_typed.specs.Claim.{Holds, each}
use Rattle.well_typed.specs.Items.{is_equal}
use Rattle.typing_rules.specs.Bodies.{all_rules}
use Rattle.typing_rules.specs.Check.{TypingState, Broken}
use Rattle.typing_rules.specs.Collected as rules
use Rattle.typing_rules.specs.Items.{ItemSyn, items_of, item_syns, adt_names, impl_owner}
use Rattle.typing_rules.specs.Places.{scalars}
use Rattle.typing_rules.specs.Program.{checked, outermost}
use Rattle.typing_rules.specs.Promises.{AreClosures}
use Rattle.typing_rules.specs.Written as types
use Rattle.src_ast.specs.Syntax.{Word, Receiver, ByValue, ByShared, ByUnique, Syn, syn, Shape, AnExpression, AStatement, AnItem, AParam, AnInit, AnArm, Expression, Minus, Bang, Star, Ampersand, Calculate, Compare, Both, Either, Store, CallOf, MethodOf, FieldOf, PartOf, ElementOf, StructOf, Parens, TupleOf, ArrayOf, Braces, IfElse, IfLetElse, MatchOn, LoopOf, WhileOf, WhileLetOf, BreakOf, ReturnOf, MoveOf, LetOf, Semi, StructItem, EnumItem, ImplItem, FnItem, ParamOf, SelfParam, Syns, no_syn, a_syn, list_of, MaybeSyn, nothing, just}
use Rattle.typing_rules.proofs.Sound.Interned.{not_there}
use Rattle.typing_soundness.specs.Closures.{BodySyn, Function, Closure, WrittenHead, Tape, closures_of, closures_in, closures_in_expression, closures_among, closures_if_any, function_text, functions_text, around_impl, item_text, items_text, program_text}
use Rattle.typing_soundness.specs.Met.{IsReceiver, MeansParam, MeanParams, MeansAnswer, AreTypesOf, IsBodyOf, AreMade, Met, types_of, behind}
use Rattle.typing_soundness.specs.Heads.{MeanClosureParams, MeansClosureAnswer, AreHeadTypes, IsHeadOf, IsAdtOf, AreAdtsOf, inner_text, TellBodies, has_no_self}
use Rattle.typing_soundness.specs.Program.{HaveHeads}
use Rattle.typing_soundness.specs.Shapes.{shaped, shaped_form, shaped_expression, all_shaped, maybe_shaped, body_shaped, function_shaped, item_shaped, no_self}
use Rattle.typing_soundness.specs.Walks.{Walked}
use Rattle.typing_soundness.proofs.Items.Collected as collected
use Rattle.typing_soundness.proofs.Items.Collected.{AreHeads, SameHeads, all_names, listed_text, all_adts, adts_in, Collects}
use Rattle.typing_soundness.proofs.Items.Meanings.{same_type, means_once}
use Rattle.typing_soundness.specs.Walks.{counted}
use Rattle.typing_soundness.proofs.Bodies.Order.{walk_adds, bodies_in_order}
use Rattle.typing_soundness.proofs.Bodies.Program.{first_of, others_of}
use Rattle.typing_soundness.proofs.Walking.Steps.{with_type_distinct}

-- ---- no closure has a parameter `self`

module _ (around : types.WrittenScope) where
  mutual
    plain_closures : (e : Syn) → Holds (shaped e) → (rest : List BodySyn) → Holds (each has_no_self rest) → Holds (each
        has_no_self (closures_of around e rest))
    plain_closures (syn at form) h rest p = plain_form form h rest p

    plain_form : (form : Shape) → Holds (shaped_form form) → (rest : List BodySyn) → Holds (each has_no_self rest) → Holds
        (each has_no_self (closures_in around form rest))
    plain_form (AnExpression e) h rest p = plain_expression e h rest p
    plain_form (AnInit name value) h rest p = plain_if_any value h rest p
    plain_form (AnArm pattern guard body) h rest p = plain_if_any guard h.0 _ (plain_closures body h.1 rest p)
    plain_form (AStatement (LetOf pattern ty value)) h rest p = plain_if_any value h rest p
    plain_form (AStatement (Semi expression)) h rest p = plain_closures expression h rest p
    plain_form _ h rest p = p

    plain_expression : (form : Expression) → Holds (shaped_expression form) → (rest : List BodySyn) → Holds (each has_no_self rest) → Holds
        (each has_no_self (closures_in_expression around form rest))
    plain_expression (Minus operand) h rest p = plain_closures operand h rest p
    plain_expression (Bang operand) h rest p = plain_closures operand h rest p
    plain_expression (Star operand) h rest p = plain_closures operand h rest p
    plain_expression (Ampersand unique operand) h rest p = plain_closures operand h rest p
    plain_expression (Calculate operator left right) h rest p = plain_closures left h.0 _ (plain_closures right h.1 rest p)
    plain_expression (Compare operator left right) h rest p = plain_closures left h.0 _ (plain_closures right h.1 rest p)
    plain_expression (Both left right) h rest p = plain_closures left h.0 _ (plain_closures right h.1 rest p)
    plain_expression (Either left right) h rest p = plain_closures left h.0 _ (plain_closures right h.1 rest p)
    plain_expression (Store place value) h rest p = plain_closures place h.0 _ (plain_closures value h.1 rest p)
    plain_expression (CallOf callee args) h rest p = plain_closures callee h.0 _ (plain_among args h.1 rest p)
    plain_expression (MethodOf receiver name args) h rest p = plain_closures receiver h.0 _ (plain_among args h.1 rest p)
    plain_expression (FieldOf base name) h rest p = plain_closures base h rest p
    plain_expression (PartOf base number) h rest p = plain_closures base h rest p
    plain_expression (ElementOf base index) h rest p = plain_closures base h.0 _ (plain_closures index h.1 rest p)
    plain_expression (StructOf first second inits) h rest p = plain_among inits h rest p
    plain_expression (Parens inside) h rest p = plain_closures inside h rest p
    plain_expression (TupleOf parts) h rest p = plain_among parts h rest p
    plain_expression (ArrayOf elements) h rest p = plain_among elements h rest p
    plain_expression (Braces statements tail) h rest p = plain_among statements h.0 _ (plain_if_any tail h.1 rest p)
    plain_expression (IfElse condition body otherwise) h rest p =
        plain_closures condition h.0 _ (plain_closures body h.1.0 _ (plain_if_any otherwise h.1.1 rest p))
    plain_expression (IfLetElse pattern scrutinee body otherwise) h rest p =
        plain_closures scrutinee h.0 _ (plain_closures body h.1.0 _ (plain_if_any otherwise h.1.1 rest p))
    plain_expression (MatchOn scrutinee arms) h rest p = plain_closures scrutinee h.0 _ (plain_among arms h.1 rest p)
    plain_expression (LoopOf label body) h rest p = plain_closures body h rest p
    plain_expression (WhileOf label condition body) h rest p =
        plain_closures condition h.0 _ (plain_closures body h.1 rest p)
    plain_expression (WhileLetOf label pattern scrutinee body) h rest p =
        plain_closures scrutinee h.0 _ (plain_closures body h.1 rest p)
    plain_expression (BreakOf label value) h rest p = plain_if_any value h rest p
    plain_expression (ReturnOf value) h rest p = plain_if_any value h rest p
    plain_expression (MoveOf captures params answer body) h rest p = (h.1.0, plain_closures body h.1.1 rest p)
    plain_expression _ h rest p = p

    plain_among : (es : Syns) → Holds (all_shaped es) → (rest : List BodySyn) → Holds (each has_no_self rest) → Holds (each
        has_no_self (closures_among around es rest))
    plain_among no_syn h rest p = p
    plain_among (a_syn first others) h rest p = plain_closures first h.0 _ (plain_among others h.1 rest p)

    plain_if_any : (e : MaybeSyn) → Holds (maybe_shaped e) → (rest : List BodySyn) → Holds (each has_no_self rest) → Holds
        (each has_no_self (closures_if_any around e rest))
    plain_if_any nothing h rest p = p
    plain_if_any (just value) h rest p = plain_closures value h rest p

  plain_block : (block : MaybeSyn) → Holds (body_shaped block) → (rest : List BodySyn) → Holds (each has_no_self rest) →
      Holds (each has_no_self (closures_if_any around block rest))
  plain_block nothing h rest p = p
  plain_block (just body) h rest p = plain_closures body h.1 rest p

  plain_function : (f : Syn) → Holds (function_shaped f) → (rest : List BodySyn) → Holds (each has_no_self rest) → Holds
      (each has_no_self (function_text around f rest))
  plain_function (syn at (AnItem (FnItem name params answer block))) h rest p = (refl, plain_block block h.1 rest p)
  plain_function (syn at _) h rest p = p

  plain_functions : (fs : List Syn) → Holds (each function_shaped fs) → (rest : List BodySyn) → Holds (each has_no_self
      rest) → Holds (each has_no_self (functions_text around fs rest))
  plain_functions [] h rest p = p
  plain_functions (f ∷ fs) h rest p = plain_function f h.0 _ (plain_functions fs h.1 rest p)

plain_item : (around : types.WrittenScope) (adts : List Adt) (i : Syn) → Holds (item_shaped i) → (rest : List BodySyn) → Holds
    (each has_no_self rest) → Holds (each has_no_self (item_text around adts i rest))
plain_item around adts (syn at (AnItem (ImplItem trait_ name methods))) h rest p =
    plain_functions (around_impl around adts name.1) (list_of methods) h rest p
plain_item around adts (syn at (AnItem (FnItem name params answer block))) h rest p =
    plain_function around (syn at (AnItem (FnItem name params answer block))) h rest p
plain_item around adts (syn at _) h rest p = p

plain_items : (around : types.WrittenScope) (adts : List Adt) (is : List Syn) → Holds (each item_shaped is) → (rest : List BodySyn)
    → Holds (each has_no_self rest) → Holds (each has_no_self (items_text around adts is rest))
plain_items around adts [] h rest p = p
plain_items around adts (i ∷ is) h rest p = plain_item around adts i h.0 _ (plain_items around adts is h.1 rest p)

-- ---- the bodies that are listed are those of the text

prefix_mapped : {X Y : Type 0} (p : Y → Bool) (f : X → Y) (xs : List X) → prefix_len p (map f xs) ≡ prefix_len (λ x. p (f
    x)) xs
prefix_mapped p f [] = refl
prefix_mapped p f (x ∷ xs) = ap (λ n. if p (f x) then 1 + n else 0) (prefix_mapped p f xs)

position_mapped : {X Y : Type 0} (p : Y → Bool) (f : X → Y) (xs : List X) → position_of p (map f xs) ≡ position_of (λ x. p
    (f x)) xs
position_mapped p f xs =
    λ i. cond (nat_lt (prefix_mapped (λ y. not (p y)) f xs i) (length-map xs f i)) (Some (prefix_mapped (λ y. not (p y)) f
    xs i)) None

-- a struct or an enum has the same number by the names of the text and by the items
number_found : (words : List Word) (adts : List Adt) (name : Word) → map (λ (adt : Adt). adt.name) adts ≡ words →
    types.number_of words name ≡ position_of (λ (adt : Adt). bytes_eq adt.name name) adts
number_found words adts name is =
    ap (position_of (bytes_eq name)) (sym is) ∙ (position_mapped (bytes_eq name) (λ (adt : Adt). adt.name) adts ∙ (λ i.
    position_of (λ (adt : Adt). nat_list_eq_equiv.symm name adt.name i) adts))

module _ (all : List ItemSyn) (adts : List Adt) (words : map (λ (adt : Adt). adt.name) adts ≡ adt_names (item_syns all))
  where
    abbrev outer : types.WrittenScope
    outer = all_rules (outermost (item_syns all))

    item_listed : (i : Syn) → inner_text (all_names (rules.known_of all) (impl_owner i)) i ≡ item_text outer adts i
    item_listed (syn at (AnItem (ImplItem trait_ name methods))) =
        λ j. functions_text (record outer { self_adt = number_found (adt_names (item_syns all)) adts name.1 words j })
        (list_of methods)
    item_listed (syn at (AnItem (FnItem name params answer block))) = refl
    item_listed (syn at _) = refl

    pub items_listed : (is : List ItemSyn) → TellBodies is → listed_text (rules.known_of all) is ≡ items_text outer adts
        (item_syns is)
    items_listed [] h = refl
    items_listed (i ∷ is) h =
        λ j. λ rest. (h.0 (all_names (rules.known_of all) (impl_owner i.item)) ∙ item_listed i.item) j (items_listed is h.1
        j rest)

-- structs and enums have the names of the text
adt_word_is : (i : Syn) (adt : Adt) (is : List Syn) (ws : List Word) → IsAdtOf i adt → ws ≡ adt_names is → adt.name ∷ ws ≡
    adt_names (i ∷ is)
adt_word_is (syn at (AnItem (StructItem derives name kind fields))) adt is ws h e = λ j. h.0 j ∷ e j
adt_word_is (syn at (AnItem (EnumItem derives name variants))) adt is ws h e = λ j. h.0 j ∷ e j
adt_word_is (syn at _) adt is ws h e = absurd h

adt_words : (is : List Syn) (adts : List Adt) → AreAdtsOf is adts → map (λ (adt : Adt). adt.name) adts ≡ adt_names is
adt_words [] [] h = refl
adt_words [] (a ∷ adts) h = absurd h
adt_words (i ∷ is) [] h = absurd h
adt_words (i ∷ is) (a ∷ adts) h = adt_word_is i a is _ h.0 (adt_words is adts h.1)

words_with : (x : Syn) (is : List ItemSyn) → adt_names (all_adts is) ≡ adt_names (item_syns is) → adt_names (adts_in x ++
    all_adts is) ≡ adt_names (x ∷ item_syns is)
words_with (syn at (AnItem (StructItem derives name kind fields))) is e = ap (λ ws. name.1 ∷ ws) e
words_with (syn at (AnItem (EnumItem derives name variants))) is e = ap (λ ws. name.1 ∷ ws) e
words_with (syn at _) is e = e

words_of_text : (is : List ItemSyn) → adt_names (all_adts is) ≡ adt_names (item_syns is)
words_of_text [] = refl
words_of_text (i ∷ is) = words_with i.item is (words_of_text is)

pub words_collected : (is : List ItemSyn) (adts : List Adt) → AreAdtsOf (all_adts is) adts → map (λ (adt : Adt). adt.name)
    adts ≡ adt_names (item_syns is)
words_collected is adts h = adt_words (all_adts is) adts h ∙ words_of_text is

-- ---- one head a body

module _ (items : ItemTable) (distinct : AreDistinct items.types) where
  module _ (around : types.WrittenScope) where
    receiver_once : (receiver : Receiver) (own ty other : TyId) → IsReceiver items receiver own ty → IsReceiver items receiver
        own other → ty ≡ other
    receiver_once ByValue own ty other h g = sym h ∙ g
    receiver_once ByShared own ty other h g = same_type around items distinct ty other (Ty.Shared own) (Ty.Shared own) h g refl
    receiver_once ByUnique own ty other h g = same_type around items distinct ty other (Ty.Unique own) (Ty.Unique own) h g refl

    param_once : (p : Syn) (ty other : TyId) → MeansParam around items p ty → MeansParam around items p other → ty ≡ other
    param_once (syn at (AParam (ParamOf p written))) ty other h g = means_once around items distinct written ty other h g
    param_once (syn at (AParam (SelfParam receiver))) ty other h g =
        let n : h.0 ≡ g.0 = same_Some h.0 g.0 (sym h.2 ∙ g.2) in
        let own : h.1 ≡ g.1 = same_type around items distinct h.1 g.1 (Ty.Adt h.0) (Ty.Adt g.0) h.3 g.3 (ap Ty.Adt n) in
        receiver_once receiver g.1 ty other (subst (λ o. IsReceiver items receiver o ty) own h.4) g.4
    param_once (syn at _) ty other h g = absurd h

    params_once : (ps : Syns) (tys others : List TyId) → MeanParams around items ps tys → MeanParams around items ps others →
        tys ≡ others
    params_once no_syn [] [] h g = refl
    params_once no_syn [] (o ∷ others) h g = absurd g
    params_once no_syn (ty ∷ tys) others h g = absurd h
    params_once (a_syn first rest) [] others h g = absurd h
    params_once (a_syn first rest) (ty ∷ tys) [] h g = absurd g
    params_once (a_syn first rest) (ty ∷ tys) (o ∷ others) h g =
        λ i. param_once first ty o h.0 g.0 i ∷ params_once rest tys others h.1 g.1 i

    answer_once : (answer : MaybeSyn) (ty other : TyId) → MeansAnswer around items answer ty → MeansAnswer around items answer
        other → ty ≡ other
    answer_once nothing ty other h g = sym h ∙ g
    answer_once (just written) ty other h g = means_once around items distinct written ty other h g

    -- of a closure, what is written means something, since its body was looked at
    closure_params_once : (ps : Syns) → IsTrue (no_self ps) → (tys others : List TyId) → MeanParams around items ps tys →
        MeanClosureParams around items ps others → tys ≡ others
    closure_params_once no_syn plain [] [] h g = refl
    closure_params_once no_syn plain [] (o ∷ others) h g = absurd g
    closure_params_once no_syn plain (ty ∷ tys) others h g = absurd h
    closure_params_once (a_syn first rest) plain [] others h g = absurd h
    closure_params_once (a_syn first rest) plain (ty ∷ tys) [] h g = absurd g
    closure_params_once (a_syn (syn at (AParam (ParamOf p written))) rest) plain (ty ∷ tys) (o ∷ others) h g =
        λ i. means_once around items distinct written ty o h.0 (g.0 items ty h.0) i ∷ closure_params_once rest plain tys
        others h.1 g.1 i
    closure_params_once (a_syn (syn at (AParam (SelfParam receiver))) rest) plain (ty ∷ tys) (o ∷ others) h g =
        absurd (false≢true plain)
    closure_params_once (a_syn (syn at _) rest) plain (ty ∷ tys) (o ∷ others) h g = absurd h.0

    closure_answer_once : (answer : MaybeSyn) (ty other : TyId) → MeansAnswer around items answer ty → MeansClosureAnswer
        around items answer other → ty ≡ other
    closure_answer_once nothing ty other h g = sym h ∙ g
    closure_answer_once (just written) ty other h g = means_once around items distinct written ty other h (g items ty h)

  head_once : (closure : ℕ) (text : BodySyn) → Holds (has_no_self text) → (params : List TyId) (answer : TyId) (tys : List
      TyId) (result : TyId) → AreTypesOf items closure text params answer → AreHeadTypes items closure text tys result →
      (tys ≡ params) × (result ≡ answer)
  head_once closure (Function head) plain params answer tys result h g = (
    sym (params_once head.around head.params params tys h.0 g.0),
    sym (answer_once head.around head.answer answer result h.1 g.1),
  )
  head_once closure (Closure head) plain [] answer tys result h g = absurd h
  head_once closure (Closure head) plain (self ∷ params) answer [] result h g = absurd g
  head_once closure (Closure head) plain (self ∷ params) answer (own ∷ tys) result h g =
      let one : own ≡ self = same_type head.around items distinct own self (Ty.Closure closure) (Ty.Closure closure) g.0 h.0
      refl in
      let others : params ≡ tys = closure_params_once head.around head.params plain params tys h.1.0 g.1 in (
        λ i. one i ∷ sym others i,
        sym (closure_answer_once head.around head.answer answer result h.1.1 g.2),
      )

  heads_once : (from to last : ℕ) (texts : List BodySyn) → Holds (each has_no_self texts) → (heads : List Sig) (bodies : List
      BodyTree) → AreMade (IsBodyOf items) from to texts [] bodies → AreMade (IsHeadOf items) from last texts [] heads →
      HaveHeads heads bodies
  heads_once from to last [] plain [] [] h g = tt
  heads_once from to last [] plain (head ∷ heads) bodies h g = absurd g
  heads_once from to last [] plain [] (body ∷ bodies) h g = absurd h
  heads_once from to last (text ∷ texts) plain [] bodies h g = absurd (no_texts g.0)
    where
      no_texts : (text ∷ texts) ≡ [] → ⊥
      no_texts e = none-some text (sym (ap (λ ts. slice_get ts 0) e))
  heads_once from to last (text ∷ texts) plain (head ∷ heads) [] h g = absurd (no_texts h.0)
    where
      no_texts : (text ∷ texts) ≡ [] → ⊥
      no_texts e = none-some text (sym (ap (λ ts. slice_get ts 0) e))
  heads_once from to last (text ∷ texts) plain (head ∷ heads) (body ∷ bodies) h g = (
    head_once from text plain.0 (types_of body) body.answer head.params head.result h.0.0 g.0.0,
    heads_once (behind text from) to last texts plain.1 heads bodies h.1 g.1,
  )

-- ---- what is collected

abbrev or_given : ItemTable → Result ItemTable Broken → ItemTable
or_given other (Ok items) = items
or_given other (Err e) = other

abbrev is_given : Result ItemTable Broken → Bool
is_given (Ok items) = true
is_given (Err e) = false

pub ok_same : (a b : ItemTable) → ◌≡◌ {A = Result ItemTable Broken} (Ok a) (Ok b) → a ≡ b
ok_same a b e = ap (or_given a) e

pub no_ok : (x : Broken) {items : ItemTable} → ◌≡◌ {A = Result ItemTable Broken} (Err x) (Ok items) → ⊥
no_ok x e = false≢true (ap is_given e)

pub scalars_distinct : AreDistinct scalars
scalars_distinct =
    more (Ty.Int IntKind.Usize) 7 refl (more (Ty.Int IntKind.U64) 6 refl (more (Ty.Int IntKind.U32) 5 refl (more (Ty.Int
    IntKind.I64) 4 refl (more (Ty.Int IntKind.I32) 3 refl (more Ty.Never 2 refl (more Ty.Bool 1 refl (more Ty.Unit 0 refl
    λ i j ty a b. absurd (none-some ty a))))))))
  where
    more : (ty : Ty) (n : ℕ) → position_of (is_equal ty) (take n scalars) ≡ None → AreDistinct (take n scalars) →
        AreDistinct (take n scalars ++ ty ∷ [])
    more ty n is all = with_type_distinct ty (take n scalars) (not_there ty (take n scalars) is) all

pub heads_of_text : (parts : Parts Pos) (end : Pos) (items : ItemTable) → rules.collected parts end ≡ Ok items → AreHeads
    parts items
heads_of_text parts end items e = by (rules.collecting (items_of parts) end (rules.starting_with rules.no_items)) walked e
  where
    all : List ItemSyn
    all = items_of parts

    start : TypingState
    start = rules.starting_with rules.no_items

    Collected : TypingState → Type 0
    Collected t =
        (u : TypingState) × (n : ℕ) × Collects (listed_text (rules.known_of (items_of parts)) (items_of parts)) (all_adts
        (items_of parts)) 0 n (rules.starting_with rules.no_items) u × SameHeads u t

    walked : Walked (λ _ t. Collected t) (rules.collecting (items_of parts) end (rules.starting_with rules.no_items))
    walked = collected.collecting_collects (items_of parts) end

    as_heads : (t : TypingState) → Collected t → AreHeads parts t.items
    as_heads t h = record {
      distinct = h.3.distinct (h.2.distinct scalars_distinct);
      adts = subst (AreAdtsOf (all_adts (items_of parts))) (sym (h.3.adts ∙ h.2.adts)) h.2.are_adts;
      closures = h.3.closures ∙ h.2.closures;
      count = h.1;
      made = subst (λ hs. AreMade (IsHeadOf t.items) 0 h.1 (listed_text (rules.known_of (items_of parts)) (items_of parts)
          []) [] hs) (sym (h.3.heads ∙ h.2.heads)) (collected.heads_later h.0.items t.items h.3.types 0 h.1 (listed_text
          (rules.known_of (items_of parts)) (items_of parts) []) [] h.2.new (h.2.made []));
    }

    by : (r : Result (Unit {0} × TypingState) Broken) → Walked (λ _ t. Collected t) r → rules.items_in r ≡ Ok items → AreHeads
        parts items
    by (Ok a) w e = subst (AreHeads parts) (ok_same a.1.items items e) (as_heads a.1 w.so)
    by (Err x) w e = absurd (no_ok x e)

-- ---- the whole

-- what a walk over a text gives: bodies of the text, each with its head
pub record IsHeaded (p : ProgramTree) : Type 0 where
  pub heads : HaveHeads p.items.bodies p.bodies
  pub count : ℕ
  pub texts : List BodySyn
  pub made : AreMade (IsBodyOf p.items) 0 (length p.items.closures) texts [] p.bodies
  pub plain : Holds (each has_no_self texts)

pub headed : (parts : Parts Pos) (end : Pos) (items : ItemTable) (p : ProgramTree) → rules.collected parts end ≡ Ok items →
    checked parts items ≡ Ok p → Holds (each item_shaped (item_syns (items_of parts))) → TellBodies (items_of parts) →
    IsHeaded p
headed parts end items p is_collected is_checked shape tell =
    let h = heads_of_text parts end items is_collected in
    let w = walk_adds parts items p is_checked in
    subst IsHeaded (sym w.2) (in_walk h w.0 w.1.met)
  where
    all : List ItemSyn
    all = items_of parts

    in_walk : AreHeads parts items → (t : TypingState) → Met (program_text items.adts parts) (rules.starting_with
        items) t → IsHeaded (record { items = t.items; bodies = t.bodies })
    in_walk h t m = record {
      heads = subst (λ hs. HaveHeads hs t.bodies) (sym m.heads) (subst (HaveHeads items.bodies) (sym m.bodies) (heads_once
          t.items (m.distinct h.distinct) 0 (length t.items.closures) h.count (program_text items.adts parts []) plain
          items.bodies m.new bodies_made heads_made));
      count = h.count;
      texts = program_text items.adts parts [];
      made = subst (AreMade (IsBodyOf t.items) 0 (length t.items.closures) (program_text items.adts parts []) []) (sym
          m.bodies) bodies_made;
      plain = plain;
    }
      where
        plain : Holds (each has_no_self (program_text items.adts parts []))
        plain =
            plain_items (all_rules (outermost (item_syns (items_of parts)))) items.adts (item_syns (items_of parts)) shape
            [] refl

        bodies_made : AreMade (IsBodyOf t.items) 0 (length t.items.closures) (program_text items.adts parts []) [] m.new
        bodies_made =
            subst (λ cs. AreMade (IsBodyOf t.items) (length cs) (length t.items.closures) (program_text items.adts parts [])
            [] m.new) h.closures (m.made [])

        heads_made : AreMade (IsHeadOf t.items) 0 h.count (program_text items.adts parts []) [] items.bodies
        heads_made =
            collected.heads_later items t.items m.types 0 h.count (program_text items.adts parts []) [] items.bodies (subst
            (λ (f : Tape). AreMade (IsHeadOf items) 0 h.count (f []) [] items.bodies) (items_listed (items_of parts)
            items.adts (words_collected (items_of parts) items.adts h.adts) (items_of parts) tell) h.made)

-- ---- closures have their bodies

pub made_closure : (P : ℕ → BodySyn → BodyTree → Type 0) (k : ℕ) (from to : ℕ) (texts rest : List BodySyn) (bodies : List
    BodyTree) → from ≤ k → k < to → AreMade P from to texts rest bodies → (j : ℕ) × (body : BodyTree) × (head : WrittenHead) ×
    (slice_get bodies j ≡ Some body) × P k (Closure head) body
made_closure P k from to texts rest [] low high h = absurd (let e = h.1 in omega (arith, low, high, e))
made_closure P k from to [] rest (body ∷ bodies) low high h = absurd h
made_closure P k from to (Function head ∷ texts) rest (body ∷ bodies) low high h =
    let f = made_closure P k from to texts rest bodies low high h.1 in (suc f.0, f.1, f.2, f.3, f.4)
made_closure P k from to (Closure head ∷ texts) rest (body ∷ bodies) low high h =
    by (cases_order k from) λ above. made_closure P k (suc from) to texts rest bodies above high h.1
  where
    Found : Type 0
    Found =
        (j : ℕ) × (b : BodyTree) × (other : WrittenHead) × (slice_get (body ∷ bodies) j ≡ Some b) × P k (Closure other) b

    by : (k ≡ from) ⊎ ((k < from) ⊎ (from < k)) → (suc from ≤ k → (j : ℕ) × (b : BodyTree) × (other : WrittenHead) × (slice_get
        bodies j ≡ Some b) × P k (Closure other) b) → (j : ℕ) × (b : BodyTree) × (other : WrittenHead) × (slice_get (body ∷
        bodies) j ≡ Some b) × P k (Closure other) b
    by (inl e) on = (0, body, head, refl, subst (λ n. P n (Closure head) body) (sym e) h.0)
    by (inr (inl below)) on = absurd (omega (arith, below, low))
    by (inr (inr above)) on = let f = on above in (suc f.0, f.1, f.2, f.3, f.4)

have_at : (heads : List Sig) (bodies : List BodyTree) (j : ℕ) (head : Sig) (body : BodyTree) → HaveHeads heads bodies →
    slice_get heads j ≡ Some head → slice_get bodies j ≡ Some body → head.params ≡ types_of body
have_at [] [] j head body h is_head is_body = absurd (none-some head is_head)
have_at [] (b ∷ bodies) j head body h is_head is_body = absurd h
have_at (g ∷ heads) [] j head body h is_head is_body = absurd h
have_at (g ∷ heads) (b ∷ bodies) zero head body h is_head is_body =
    ap (λ (x : Sig). x.params) (sym (same_Some g head is_head)) ∙ (h.0.0 ∙ ap types_of (same_Some b body is_body))
have_at (g ∷ heads) (b ∷ bodies) (suc j) head body h is_head is_body = have_at heads bodies j head body h.1 is_head is_body

number_at : (bodies : List BodyTree) (from : ℕ) (j : ℕ) (body : BodyTree) → map (λ (b : BodyTree). b.number) bodies ≡
    counted from (length bodies) → slice_get bodies j ≡ Some body → body.number ≡ from + j
number_at [] from j body order is = absurd (none-some body is)
number_at (b ∷ bodies) from zero body order is =
    ap (λ (x : BodyTree). x.number) (sym (same_Some b body is)) ∙ (ap first_of order ∙ omega arith)
number_at (b ∷ bodies) from (suc j) body order is =
    number_at bodies (suc from) j body (ap others_of order) is ∙ omega arith

pub own_place : (bodies : List BodyTree) (j : ℕ) (body : BodyTree) → map (λ (b : BodyTree). b.number) bodies ≡ counted 0 (length
    bodies) → slice_get bodies j ≡ Some body → body.number ≡ j
own_place bodies j body order is = let e = number_at bodies 0 j body order is in omega (arith, e)

closures_headed : (p : ProgramTree) → IsHeaded p → map (λ (b : BodyTree). b.number) p.bodies ≡ counted 0 (length p.bodies)
    → AreClosures p.items
closures_headed p h order k def head at_k at_head =
    let f = made_closure (IsBodyOf p.items) k 0 (length p.items.closures) h.texts [] p.bodies (omega arith) (slice_get_within
    p.items.closures k def at_k) h.made in
    let b : def.body ≡ f.0 = ap (λ (d : ClosureDef). d.body) (same_Some def f.4.1.0 (sym at_k ∙ f.4.1.1)) ∙ (f.4.1.2 ∙
    own_place p.bodies f.0 f.1 order f.3) in
    let e = have_at p.items.bodies p.bodies f.0 head f.1 h.heads (ap (slice_get p.items.bodies) (sym b) ∙ at_head) f.3 in
    begins (types_of f.1) f.2 f.1.answer f.4.0 e
  where
    begins : (tys : List TyId) (own : WrittenHead) (answer : TyId) → AreTypesOf p.items k (Closure own) tys answer → head.params ≡
        tys → (self : TyId) × (rest : List TyId) × (head.params ≡ self ∷ rest) × (type_at p.items self ≡ Some (Ty.Closure
        k))
    begins [] own answer h e = absurd h
    begins (self ∷ rest) own answer h e = (self, rest, e, h.0)

pub have_heads : (parts : Parts Pos) (end : Pos) (items : ItemTable) (p : ProgramTree) → rules.collected parts end ≡ Ok
    items → checked parts items ≡ Ok p → Holds (each item_shaped (item_syns (items_of parts))) → TellBodies (items_of
    parts) → HaveHeads p.items.bodies p.bodies × AreClosures p.items
have_heads parts end items p is_collected is_checked shape tell =
    let h = headed parts end items p is_collected is_checked shape tell in
    (h.heads, closures_headed p h (bodies_in_order parts items p is_checked))
