-- Traits of an accepted text.
use Rattle.std.proofs.Common.{◌≡◌, ℕ, zero, suc, ◌+◌, Bool, true, false, ◌&&◌, ◌||◌, ◌==◌, not, List, [], ◌∷◌, ◌++◌, map, length, slice_get, Option, Some, None, Result, Ok, Err, IsTrue, refl, ap, sym, subst, ◌∙◌, arith}
use Rattle.std.specs.Prelude.{codes, is_some, option_and_then, if◌then◌else◌}
use Rattle.std.specs.Cmp.Lexicographic.{nat_list_eq_equiv}
use Rattle.std.specs.List.{list_all, filter_map}
use Rattle.std.specs.Option.{option_map_or}
use Rattle.std.specs.Str.{bytes_eq}
use Rattle.std.proofs.lemmas.Bool.{false≢true, and_from, and_parts, eq-eqb}
use Rattle.std.proofs.lemmas.List.{append_assoc, append-nil, length-append}
use Rattle.std.proofs.lemmas.Option.{none-some, same_Some}
use Rattle.mir_base.specs.declared.place_in_text.Pos.{Pos}
use Rattle.mir_base.specs.declared.rule.Rule.{Rule}
use Rattle.mir_ty.specs.declared.def.Sig.{Sig}
use Rattle.mir_ty.specs.declared.def.TraitDef.{TraitDef}
use Rattle.mir_ty.specs.declared.ty.Ty.{Ty}
use Rattle.mir_ty.specs.declared.ty.TyId.{TyId}
use Rattle.mir_ty.specs.ItemTable.{ItemTable, type_at, with_trait}
use Rattle.src_tree.specs.Layout.{Parts}
use Rattle.typed_tree.specs.Tree.{ProgramTree}
use Rattle.well_typed.specs.Claim.{Holds, each}
use Rattle.well_typed.specs.Items.{stands_alone, is_param}
use Rattle.well_typed.specs.Names.{is_among, are_distinct}
use Rattle.well_typed.specs.Types.{trait_of, dyn_in, reference_in}
use Rattle.typing_rules.specs.Check.{Check, TypingState, Broken, and_then, interned, each_checked}
use Rattle.typing_rules.specs.Collected as rules
use Rattle.typing_rules.specs.Items.{ItemSyn, items_of, item_syns, trait_names, body_paths, impl_owner, full_name, closure_name}
use Rattle.typing_rules.specs.Program as checks
use Rattle.typing_rules.specs.Promises.{AreReady, Extends}
use Rattle.typing_rules.specs.Scope.{Env}
use Rattle.typing_rules.specs.Written as types
use Rattle.src_ast.specs.Syntax.{Word, Receiver, ByValue, ByShared, ByUnique, Syn, syn, AnExpression, AnItem, AParam, MoveOf, StructItem, EnumItem, TraitItem, ImplItem, FnItem, ParamOf, SelfParam, Syns, no_syn, a_syn, list_of, MaybeSyn}
use Rattle.typing_soundness.specs.Items.{is_head_typed, begins_with_self, is_method_typed, IsTraitTyped}
use Rattle.typing_soundness.specs.Met.{IsReceiver}
use Rattle.typing_soundness.specs.Program.{IsAccepted}
use Rattle.typing_soundness.specs.Shapes.{no_self, self_first, function_shaped, item_shaped}
use Rattle.typing_soundness.specs.Types.{HaveTypes, Means}
use Rattle.typing_soundness.specs.Walks.{Walked}
use Rattle.typing_soundness.proofs.Bodies.Order.{no_ok}
use Rattle.typing_soundness.proofs.Bodies.Program.{bodies_typed}
use Rattle.typing_soundness.proofs.Items.Accepting.{are_collected, are_typed}
use Rattle.typing_soundness.proofs.Items.Collected.{all_names, both_tell, SameHeads, same_heads, same_both, impls_same, finite_still, derive_still, obeyed_still, derives_still, names_still, variant_collected, variants_collected, trait_head_still, param_collected, receiver_collected, answer_collected, closure_params_collected, closure_answer_collected, sig_collected}
use Rattle.typing_soundness.proofs.Items.Headed.{ok_same, no_ok as no_items_ok}
use Rattle.typing_soundness.proofs.Items.Heads.{means_made, param_so, alone_stands}
use Rattle.typing_soundness.proofs.Items.Meanings.{have_refl}
use Rattle.typing_soundness.proofs.Items.Ready.{All, all_at}
use Rattle.typing_soundness.proofs.Walking.Later.{means_later, receiver_later}
use Rattle.typing_soundness.proofs.Walking.Lawful.{whatever}
use Rattle.typing_soundness.proofs.Walking.Params.{still, onward}
use Rattle.typing_soundness.proofs.Walking.Steps.{walk, walk_map, walk_obeyed, walk_ends, walk_interned_as, SameWalk}

-- ---- the types of a head, where `self` is `dyn` of the trait

module _ (around : types.WrittenScope) (own : TyId) where
  abbrev MeansTraitParam : ItemTable → Syn → TyId → Type 0
  MeansTraitParam items (syn at (AParam (ParamOf p written))) ty = Means around items written ty
  MeansTraitParam items (syn at (AParam (SelfParam receiver))) ty = IsReceiver items receiver own ty
  MeansTraitParam items _ ty = ⊥

  abbrev MeanTraitParams : ItemTable → Syns → List TyId → Type 0
  MeanTraitParams items no_syn [] = Unit {0}
  MeanTraitParams items no_syn (ty ∷ tys) = ⊥
  MeanTraitParams items (a_syn first rest) [] = ⊥
  MeanTraitParams items (a_syn first rest) (ty ∷ tys) = MeansTraitParam items first ty × MeanTraitParams items rest tys

  -- a head that begins with a receiver
  abbrev IsTraitHead : ItemTable → Syn → Sig → Type 0
  IsTraitHead items (syn at (AnItem (FnItem name params answer block))) sig =
      IsTrue (rules.has_receiver params) → (sig.name ≡ name.1) × MeanTraitParams items params sig.params
  IsTraitHead items _ sig = ⊥

  abbrev AreTraitHeads : ItemTable → List Syn → List Sig → Type 0
  AreTraitHeads items [] [] = Unit {0}
  AreTraitHeads items (x ∷ xs) (sig ∷ sigs) = IsTraitHead items x sig × AreTraitHeads items xs sigs
  AreTraitHeads items _ _ = ⊥

  module _ (old new : ItemTable) (e : HaveTypes old new) where
    param_on : (p : Syn) (ty : TyId) → MeansTraitParam old p ty → MeansTraitParam new p ty
    param_on (syn at (AParam (ParamOf p written))) ty h = means_later around old new e written ty h
    param_on (syn at (AParam (SelfParam receiver))) ty h = receiver_later old new e receiver own ty h
    param_on (syn at _) ty h = absurd h

    params_on : (ps : Syns) (tys : List TyId) → MeanTraitParams old ps tys → MeanTraitParams new ps tys
    params_on no_syn [] h = h
    params_on no_syn (ty ∷ tys) h = h
    params_on (a_syn first rest) [] h = h
    params_on (a_syn first rest) (ty ∷ tys) h = (param_on first ty h.0, params_on rest tys h.1)

    head_on : (x : Syn) (sig : Sig) → IsTraitHead old x sig → IsTraitHead new x sig
    head_on (syn at (AnItem (FnItem name params answer block))) sig h =
        λ has. ((h has).0, params_on params sig.params (h has).1)
    head_on (syn at _) sig h = absurd h

    heads_on : (xs : List Syn) (sigs : List Sig) → AreTraitHeads old xs sigs → AreTraitHeads new xs sigs
    heads_on [] [] h = h
    heads_on [] (sig ∷ sigs) h = h
    heads_on (x ∷ xs) [] h = h
    heads_on (x ∷ xs) (sig ∷ sigs) h = (head_on x sig h.0, heads_on xs sigs h.1)

  -- ---- as they are collected

  abbrev named : types.WrittenScope
  named = record around { has_limits = false }

  abbrev pure_own : Check TyId
  pure_own t = Ok (own, t)

  trait_param_given : (p : Syn) (s : TypingState) → Walked (λ ty t. SameWalk s t × MeansTraitParam t.items p ty) (rules.param_ty
      named pure_own p s)
  trait_param_given (syn at (AParam (ParamOf p ty))) s = param_collected around ty s
  trait_param_given (syn at (AParam (SelfParam receiver))) s = receiver_collected around own receiver s
  trait_param_given (syn at _) s = record { so = tt }

  trait_params_given : (ps : Syns) (s : TypingState) → Walked (λ tys t. SameWalk s t × MeanTraitParams t.items ps tys)
      (each_checked (rules.param_ty named pure_own) (list_of ps) s)
  trait_params_given no_syn s = walk_ends (still s, tt)
  trait_params_given (a_syn first rest) s =
      walk (trait_param_given first s) λ ty t h. walk (trait_params_given rest t) λ tys u k. walk_ends (
        onward h.0 k.0,
        (param_on t.items u.items k.0.stays.types first ty h.1, k.1),
      )

  trait_sig_given : (name : Word) (params : Syns) (answer : MaybeSyn) (s : TypingState) → Walked (λ sig t. (sig.name ≡
      name) × MeanTraitParams t.items params sig.params) (rules.sig_of named pure_own name params answer s)
  trait_sig_given name params answer s =
      walk (trait_params_given params s) λ tys t h. walk (answer_collected around answer t) λ ty u k. walk_ends (
        refl,
        params_on t.items u.items k.0.stays.types params tys h.1,
      )

  trait_head_given : (x : Syn) (s : TypingState) → Walked (λ sig t. IsTraitHead t.items x sig) (rules.trait_head named own x s)
  trait_head_given (syn at (AnItem (FnItem name params answer block))) s = by (rules.has_receiver params) refl
    where
      by : (b : Bool) → rules.has_receiver params ≡ b → Walked (λ sig t. IsTrue (rules.has_receiver params) → (sig.name ≡
          name.1) × MeanTraitParams t.items params sig.params) ((if b then rules.sig_of named pure_own name.1 params answer
          else (λ t. and_then (interned (Ty.Shared own) t) (λ self u. and_then (rules.sig_of named pure_own name.1
          (rules.behind_self params) answer u) (λ sig v. Ok (rules.with_receiver self sig, v))))) s)
      by true e = walk_map (trait_sig_given name.1 params answer s) λ sig t h has. h
      by false e =
          walk_map (whatever {P = Unit {0}} _ tt) λ sig t _ has. absurd (false≢true (sym e ∙ has))
  trait_head_given (syn at _) s = record { so = tt }

  trait_heads_given : (xs : List Syn) (s : TypingState) → Walked (λ sigs t. SameWalk s t × AreTraitHeads t.items xs sigs)
      (each_checked (rules.trait_head named own) xs s)
  trait_heads_given [] s = walk_ends (still s, tt)
  trait_heads_given (x ∷ xs) s =
      walk (both_tell (rules.trait_head named own x s) (trait_head_still named own x s) (trait_head_given x s)) λ sig t h.
      walk (trait_heads_given xs t) λ sigs u k. walk_ends (
        onward h.0 k.0,
        (head_on t.items u.items k.0.stays.types x sig h.1, k.1),
      )

-- ---- traits in the order of the text

module _ (around : types.WrittenScope) where
  abbrev IsTraitOf : ItemTable → ℕ → Syn → TraitDef → Type 0
  IsTraitOf items n (syn at (AnItem (TraitItem name heads))) def =
      (own : TyId) × (type_at items own ≡ Some (Ty.Dyn n)) × AreTraitHeads around own items (list_of heads)
      def.methods × (def.name ≡ name.1)
  IsTraitOf items n _ def = ⊥

  abbrev AreTraitsOf : ItemTable → ℕ → List Syn → List TraitDef → Type 0
  AreTraitsOf items n [] [] = Unit {0}
  AreTraitsOf items n (i ∷ is) (def ∷ defs) = IsTraitOf items n i def × AreTraitsOf items (suc n) is defs
  AreTraitsOf items n _ _ = ⊥

  trait_on : (old new : ItemTable) → HaveTypes old new → (n : ℕ) (i : Syn) (def : TraitDef) → IsTraitOf old n i def →
      IsTraitOf new n i def
  trait_on old new e n (syn at (AnItem (TraitItem name heads))) def h =
      (h.0, e h.0.0 (Ty.Dyn n) h.1, heads_on around h.0 old new e (list_of heads) def.methods h.2, h.3)
  trait_on old new e n (syn at _) def h = absurd h

  traits_on : (old new : ItemTable) → HaveTypes old new → (n : ℕ) (is : List Syn) (defs : List TraitDef) → AreTraitsOf old n
      is defs → AreTraitsOf new n is defs
  traits_on old new e n [] [] h = h
  traits_on old new e n [] (def ∷ defs) h = h
  traits_on old new e n (i ∷ is) [] h = h
  traits_on old new e n (i ∷ is) (def ∷ defs) h =
      (trait_on old new e n i def h.0, traits_on old new e (suc n) is defs h.1)

  traits_joined : (items : ItemTable) (n : ℕ) (is js : List Syn) (as_ bs : List TraitDef) → AreTraitsOf items n is as_ →
      AreTraitsOf items (n + length as_) js bs → AreTraitsOf items n (is ++ js) (as_ ++ bs)
  traits_joined items n [] js [] bs h k = subst (λ m. AreTraitsOf items m js bs) (omega arith) k
  traits_joined items n [] js (a ∷ as_) bs h k = absurd h
  traits_joined items n (i ∷ is) js [] bs h k = absurd h
  traits_joined items n (i ∷ is) js (a ∷ as_) bs h k =
      (h.0, traits_joined items (suc n) is js as_ bs h.1 (subst (λ m. AreTraitsOf items m js bs) (omega arith) k))

  -- from one state to a later one come these traits
  pub record AddsTraits (is : List Syn) (s t : TypingState) : Type 0 where
    pub impls : t.items.impls ≡ s.items.impls
    new : List TraitDef
    traits : t.items.traits ≡ s.items.traits ++ new
    types : HaveTypes s.items t.items
    are : AreTraitsOf t.items (length s.items.traits) is new

  -- nothing but types, heads, structs and enums
  adds_none : {s u : TypingState} → (e : SameWalk s u) → (t : TypingState) → t.items.types ≡ u.items.types → t.items.traits ≡ u.items.traits →
      t.items.impls ≡ u.items.impls → AddsTraits [] s t
  adds_none {s} e t types traits impls = record {
    impls = impls ∙ e.stays.impls;
    new = [];
    traits = traits ∙ (e.stays.traits ∙ sym (append-nil s.items.traits));
    types = λ n ty h. ap (λ tys. slice_get tys n) types ∙ e.stays.types n ty h;
    are = tt;
  }

  pub adds_still : {s t : TypingState} → SameWalk s t → AddsTraits [] s t
  adds_still {s} {t} e = adds_none e t refl refl refl

  pub adds_both : {is js : List Syn} {s t u : TypingState} → AddsTraits is s t → AddsTraits js t u → AddsTraits (is ++ js) s u
  adds_both {is} {js} {s} {t} {u} p q = record {
    impls = q.impls ∙ p.impls;
    new = p.new ++ q.new;
    traits = q.traits ∙ (ap (λ ds. ds ++ q.new) p.traits ∙ append_assoc s.items.traits p.new q.new);
    types = λ n ty h. q.types n ty (p.types n ty h);
    are = traits_joined u.items (length s.items.traits) is js p.new q.new (traits_on t.items u.items q.types (length
        s.items.traits) is p.new p.are) (subst (λ m. AreTraitsOf u.items m js q.new) (ap length p.traits ∙ length-append
        s.items.traits p.new) q.are);
  }

abbrev pub traits_in : Syn → List Syn
traits_in (syn at (AnItem (TraitItem name heads))) = syn at (AnItem (TraitItem name heads)) ∷ []
traits_in _ = []

abbrev pub all_traits : List ItemSyn → List Syn
all_traits [] = []
all_traits (i ∷ is) = traits_in i.item ++ all_traits is

-- ---- the collection

module _ (k : rules.Known) where
  abbrev Adds : List Syn → TypingState → TypingState → Type 0
  Adds = AddsTraits (all_names k None)

  body_adds : (owner : Option Word) (c : rules.Count) (b : Syn) (s : TypingState) → Walked (λ _ t. Adds [] s t) (rules.body_sig k
      owner c b s)
  body_adds owner c (syn at (AnItem (FnItem name params answer block))) s =
      walk (sig_collected (all_names k owner) at (full_name owner name.1) params answer s) λ sig t h. walk_ends (adds_none
      (all_names k None) h.0 _ refl refl refl)
  body_adds owner c (syn at (AnExpression (MoveOf captures params answer body))) s =
      walk {f = λ _ t. Ok (record c { in_outer = c.in_outer + 1; closures = c.closures + 1 }, t)} head λ _ t h. walk_ends h
    where
      given : Walked (λ tys t. SameWalk s t) (rules.closure_params (record (all_names k owner) { has_limits = false })
          c.closures params s)
      given =
          walk_interned_as (Ty.Closure c.closures) s λ self t e is. walk (closure_params_collected (all_names k owner)
          params t) λ tys u h. walk_ends (onward e h.0)

      head : Walked (λ _ t. Adds [] s t) (rules.closure_head (record (all_names k owner) { has_limits = false }) c.closures
          (closure_name c.outer (c.in_outer + 1)) params answer s)
      head =
          walk given λ tys t h. walk (closure_answer_collected (all_names k owner) answer t) λ ty u g. let e = onward h g.0
          in walk_ends (adds_none (all_names k None) e _ refl refl refl)
  body_adds owner c (syn at _) s = record { so = tt }

  bodies_add : (owner : Option Word) (c : rules.Count) (bs : List Syn) (s : TypingState) → Walked (λ _ t. Adds [] s t)
      (rules.body_sigs k owner c bs s)
  bodies_add owner c [] s = walk_ends (adds_still (all_names k None) (still s))
  bodies_add owner c (b ∷ bs) s =
      walk (body_adds owner c b s) λ d t h. walk_map (bodies_add owner d bs t) λ e u g. adds_both (all_names k None) h g

  item_adds : (i : Syn) (s : TypingState) → Walked (λ _ t. Adds (traits_in i) s t) (rules.item_head k i s)
  item_adds (syn at (AnItem (StructItem ds name kind fields))) s =
      walk (derives_still ds s) λ _ t e. walk (variant_collected (rules.names_alone k (types.number_of k.adts name.1))
      name.1 fields t) λ v u g. let w = onward e g.0 in walk_ends (adds_none (all_names k None) w _ refl refl refl)
  item_adds (syn at (AnItem (EnumItem ds name variants))) s =
      walk (derives_still ds s) λ _ t e. walk (variants_collected (rules.names_alone k (types.number_of k.adts name.1))
      variants t) λ vs u g. let w = onward e g.0 in walk_ends (adds_none (all_names k None) w _ refl refl refl)
  item_adds (syn at (AnItem (TraitItem name heads))) s =
      walk_interned_as (Ty.Dyn (length s.items.traits)) s λ own t e is. walk (trait_heads_given (all_names k None) own
      (list_of heads) t) λ sigs u g. walk_ends (added own t e is sigs u g)
    where
      added : (own : TyId) (t : TypingState) → SameWalk s t → type_at t.items own ≡ Some (Ty.Dyn (length s.items.traits)) → (sigs :
          List Sig) (u : TypingState) → SameWalk t u × AreTraitHeads (all_names k None) own u.items (list_of heads) sigs → Adds
          (syn at (AnItem (TraitItem name heads)) ∷ []) s (record u {
            items = with_trait u.items (record {
              name = name.1;
              methods =
                  sigs;
            });
          })
      added own t e is sigs u g = record {
        impls = g.0.stays.impls ∙ e.stays.impls;
        new = record { name = name.1; methods = sigs } ∷ [];
        traits = ap (λ ds. ds ++ record { name = name.1; methods = sigs } ∷ []) (g.0.stays.traits ∙ e.stays.traits);
        types = (onward e g.0).stays.types;
        are = (
          (
            own,
            g.0.stays.types own.0 (Ty.Dyn (length s.items.traits)) is,
            heads_on (all_names k None) own u.items (with_trait u.items (record { name = name.1; methods = sigs })) (have_refl
                u.items) (list_of heads) sigs g.1,
            refl,
          ),
          tt,
        );
      }
  item_adds (syn at (AnItem (ImplItem None name methods))) s =
      walk_map (obeyed_still Rule.T01 name.0 (is_some (types.number_of k.adts name.1)) s) λ _ t e. adds_still (all_names k
      None) e
  item_adds (syn at (AnItem (ImplItem (Some trait_) name methods))) s =
      walk_obeyed Rule.T01 trait_.0 (rules.is_drop trait_.1 || is_some (types.number_of k.traits trait_.1)) _ λ _. walk_map
      (obeyed_still Rule.T01 name.0 (is_some (types.number_of k.adts name.1)) s) λ _ t e. adds_still (all_names k None) e
  item_adds (syn at _) s = walk_ends (adds_still (all_names k None) (still s))

  pub items_add : (c : rules.Count) (is : List ItemSyn) (s : TypingState) → Walked (λ _ t. Adds (all_traits is) s t)
      (rules.heads_collected k c is s)
  items_add c [] s = walk_ends (adds_still (all_names k None) (still s))
  items_add c (i ∷ is) s =
      walk (item_adds i.item s) λ _ t h. walk (bodies_add (impl_owner i.item) c i.bodies t) λ d u g. walk_map (items_add d is
      u) λ _ v f. adds_both (all_names k None) h (adds_both (all_names k None) g f)

abbrev AreAllTraits : List ItemSyn → ItemTable → Type 0
AreAllTraits is items = AreTraitsOf (all_names (rules.known_of is) None) items 0 (all_traits is) items.traits

collecting_traits : (is : List ItemSyn) (end : Pos) → Walked (λ _ t. AreAllTraits is t.items) (rules.collecting is end
    (rules.starting_with rules.no_items))
collecting_traits is end =
    walk (names_still (filter_map rules.item_name (item_syns is)) [] start) λ _ t e. walk (items_add (rules.known_of is)
    (record { outer = []; in_outer = 0; closures = 0 }) is t) λ _ u h. walk (impls_same (rules.known_of is) (item_syns is) u)
    λ _ v f. walk (finite_still 0 (filter_map rules.adt_item (item_syns is)) v) λ _ w g. walk (derive_still
    (rules.drop_owners is) 0 (filter_map
    rules.adt_item (item_syns is)) w) λ _ x d. walk_map (obeyed_still Rule.T01 end (is_some (types.number_of (body_paths is)
    (codes "main"))) x) λ _ y o. there (adds_both around (adds_still around e) h) (same_both f (same_heads (onward g (onward d
    o))))
  where
    start : TypingState
    start = rules.starting_with rules.no_items

    around : types.WrittenScope
    around = all_names (rules.known_of is) None

    there : {u y : TypingState} → AddsTraits (all_names (rules.known_of is) None) (all_traits is) (rules.starting_with
        rules.no_items) u → SameHeads u y → AreAllTraits is y.items
    there {u} {y} h s =
        subst (AreTraitsOf (all_names (rules.known_of is) None) y.items 0 (all_traits is)) (sym (s.traits ∙ h.traits))
        (traits_on (all_names (rules.known_of is) None) u.items y.items s.types 0 (all_traits is) h.new h.are)

-- traits have the names of the text
module _ (around : types.WrittenScope) (items : ItemTable) where
  first_name : (n : ℕ) (i : Syn) (def : TraitDef) (is : List Syn) (ws : List Word) → IsTraitOf around items n i def → ws ≡
      trait_names is → def.name ∷ ws ≡ trait_names (i ∷ is)
  first_name n (syn at (AnItem (TraitItem name heads))) def is ws h e = λ j. h.3 j ∷ e j
  first_name n (syn at _) def is ws h e = absurd h

  own_names : (n : ℕ) (is : List Syn) (defs : List TraitDef) → AreTraitsOf around items n is defs → map (λ (def : TraitDef).
      def.name) defs ≡ trait_names is
  own_names n [] [] h = refl
  own_names n [] (def ∷ defs) h = absurd h
  own_names n (i ∷ is) [] h = absurd h
  own_names n (i ∷ is) (def ∷ defs) h = first_name n i def is _ h.0 (own_names (suc n) is defs h.1)

names_with : (x : Syn) (is : List ItemSyn) → trait_names (all_traits is) ≡ trait_names (item_syns is) → trait_names (traits_in x ++
    all_traits is) ≡ trait_names (x ∷ item_syns is)
names_with (syn at (AnItem (TraitItem name heads))) is e = ap (λ ws. name.1 ∷ ws) e
names_with (syn at _) is e = e

names_of_text : (is : List ItemSyn) → trait_names (all_traits is) ≡ trait_names (item_syns is)
names_of_text [] = refl
names_of_text (i ∷ is) = names_with i.item is (names_of_text is)

-- ---- what the rules on traits ask

-- names that differ from earlier ones
abbrev Differ : List Word → List Word → Type 0
Differ earlier [] = Unit {0}
Differ earlier (w ∷ ws) = IsTrue (not (is_among w earlier)) × Differ (w ∷ earlier) ws

is_apart : (name : Word) (names : List Word) → IsTrue (not (is_among name names)) → is_among name names ≡ false
is_apart name names h = by (is_among name names) h
  where
    by : (b : Bool) → IsTrue (not b) → b ≡ false
    by true h = absurd (false≢true h)
    by false h = refl

second_false : (a b : Bool) → (a || b) ≡ false → b ≡ false
second_false true b e = absurd (false≢true (sym e))
second_false false b e = e

first_false : (a b : Bool) → (a || b) ≡ false → a ≡ false
first_false true b e = e
first_false false b e = refl

none_later : (word : Word) (earlier ws : List Word) → ((name : Word) → is_among name earlier ≡ false → bytes_eq word name ≡
    false) → Differ earlier ws → is_among word ws ≡ false
none_later word earlier [] h d = refl
none_later word earlier (w ∷ ws) h d =
    ap (λ b. b || is_among word ws) (h w (is_apart w earlier d.0)) ∙ none_later word (w ∷ earlier) ws (λ other e. h other
    (second_false (bytes_eq other w) (is_among other earlier) e)) d.1

differ_distinct : (earlier ws : List Word) → Differ earlier ws → IsTrue (are_distinct ws)
differ_distinct earlier [] d = refl
differ_distinct earlier (w ∷ ws) d =
    let apart : is_among w ws ≡ false = none_later w (w ∷ earlier) ws (λ other e. nat_list_eq_equiv.symm w other ∙
    first_false (bytes_eq other w) (is_among other earlier) e) d.1 in
    and_from (not (is_among w ws)) _ (ap not apart) (differ_distinct (w ∷ earlier) ws d.1)

abbrev HeadsKept : List Word → List Syn → Type 0
HeadsKept earlier [] = Unit {0}
HeadsKept earlier (syn at (AnItem (FnItem name params answer block)) ∷ hs) =
    IsTrue (not (is_among name.1 earlier)) × IsTrue (checks.takes_reference params && not (bytes_eq name.1 (codes
    "drop"))) × HeadsKept (name.1 ∷ earlier) hs
HeadsKept earlier (syn at form ∷ hs) = ⊥

abbrev TraitKept : Syn → Type 0
TraitKept (syn at (AnItem (TraitItem name heads))) = HeadsKept [] (list_of heads)
TraitKept _ = Unit {0}

heads_kept : (env : Env) (earlier : List Word) (hs : List Syn) (s : TypingState) → Walked (λ a t. HeadsKept earlier hs)
    (checks.trait_heads env earlier hs s)
heads_kept env earlier [] s = walk_ends tt
heads_kept env earlier (syn at (AnItem (FnItem name params answer block)) ∷ hs) s =
    walk (whatever {P = Unit {0}} (checks.head_rules env (checks.behind_self params) answer s) tt) λ _ t _. walk_obeyed
    Rule.T02 name.0 (not (is_among name.1 earlier)) _ λ h. walk_obeyed Rule.T11 at (checks.takes_reference params && not
    (bytes_eq name.1 (codes "drop"))) _ λ k. walk_map (heads_kept env (name.1 ∷ earlier) hs t) λ a u g. (h, k, g)
heads_kept env earlier (syn at _ ∷ hs) s = record { so = tt }

trait_kept : (env : Env) (before : checks.Before) (i : Syn) (s : TypingState) → Walked (λ a t. TraitKept i) (checks.item_rules env
    before i s)
trait_kept env before (syn at (AnItem (TraitItem name heads))) s =
    walk (heads_kept env [] (list_of heads) s) λ _ t h. walk_ends h
trait_kept env before (syn at _) s = whatever _ tt

traits_kept : (env : Env) (before : checks.Before) (is : List Syn) (s : TypingState) → Walked (λ a t. All TraitKept is)
    (checks.all_items env before is s)
traits_kept env before [] s = walk_ends tt
traits_kept env before (i ∷ is) s =
    walk (trait_kept env before i s) λ next t h. walk (whatever {P = Unit {0}} (checks.bodies_of env i t) tt) λ _ u _.
    walk_map (traits_kept env next is u) λ a v k. (h, k)

-- of traits alone, with their shape
abbrev TraitIs : Syn → Type 0
TraitIs i = TraitKept i × Holds (item_shaped i)

kept_with : (i : Syn) (is : List Syn) → TraitIs i → All TraitIs is → All TraitIs (traits_in i ++ is)
kept_with (syn at (AnItem (TraitItem name heads))) is h k = (h, k)
kept_with (syn at _) is h k = k

traits_are : (is : List ItemSyn) → All TraitKept (item_syns is) → Holds (each item_shaped (item_syns is)) → All TraitIs
    (all_traits is)
traits_are [] h s = tt
traits_are (i ∷ is) h s = kept_with i.item (all_traits is) (h.0, s.0) (traits_are is h.1 s.1)

-- ---- one trait

module _ (items : ItemTable) (all : AreReady items) (around : types.WrittenScope) (own : TyId) (n : ℕ) (is_own : type_at items own ≡
    Some (Ty.Dyn n)) where
  -- a reference to `dyn` of the trait
  self_is : (ty : TyId) (unique : Bool) (t : Ty) → type_at items ty ≡ Some t → reference_in t ≡ Some (unique, own) → dyn_in t
      ≡ None → (rest : List TyId) → IsTrue (is_param items ty) × IsTrue (begins_with_self items n (ty ∷ rest))
  self_is ty unique t at r d rest = (
    param_so items ty t at d,
    ap (λ o. option_map_or (λ (x : Bool × TyId). option_map_or (λ m. m == n) (trait_of items x.1) false) o false) (ap
        (option_and_then reference_in) at ∙ r) ∙ (ap (λ o. option_map_or (λ m. m == n) (option_and_then dyn_in o) false)
        is_own ∙ eq-eqb n n refl),
  )

  params_typed : (ps : Syns) (tys : List TyId) → IsTrue (no_self ps) → MeanTraitParams around own items ps tys → IsTrue
      (list_all (is_param items) tys)
  params_typed no_syn [] free h = refl
  params_typed no_syn (ty ∷ tys) free h = absurd h
  params_typed (a_syn first rest) [] free h = absurd h
  params_typed (a_syn (syn at (AParam (ParamOf p written))) rest) (ty ∷ tys) free h =
      let m = means_made items all around written ty h.0 in
      and_from (is_param items ty) _ (param_so items ty m.0 m.1 m.2) (params_typed rest tys free h.1)
  params_typed (a_syn (syn at (AParam (SelfParam receiver))) rest) (ty ∷ tys) free h = absurd (false≢true free)
  params_typed (a_syn (syn at _) rest) (ty ∷ tys) free h = absurd h.0

  with_self : (receiver : Receiver) (rest : Syns) (tys : List TyId) (p : Pos) → IsTrue (rules.has_receiver (a_syn (syn p
      (AParam (SelfParam receiver))) rest)) → IsTrue (no_self rest) → MeanTraitParams around own items (a_syn (syn p (AParam (SelfParam
      receiver))) rest) tys → IsTrue (list_all (is_param items) tys) × IsTrue (begins_with_self items n tys)
  with_self receiver rest [] p has free h = absurd h
  with_self ByValue rest (ty ∷ tys) p has free h = absurd (false≢true has)
  with_self ByShared rest (ty ∷ tys) p has free h =
      let s = self_is ty false (Ty.Shared own) h.0 refl refl tys in
      (and_from (is_param items ty) _ s.0 (params_typed rest tys free h.1), s.1)
  with_self ByUnique rest (ty ∷ tys) p has free h =
      let s = self_is ty true (Ty.Unique own) h.0 refl refl tys in
      (and_from (is_param items ty) _ s.0 (params_typed rest tys free h.1), s.1)

  head_typed : (params : Syns) (tys : List TyId) → IsTrue (rules.has_receiver params) → IsTrue (self_first params) →
      MeanTraitParams around own items params tys → IsTrue (list_all (is_param items) tys) × IsTrue (begins_with_self items n
      tys)
  head_typed no_syn tys has first h = absurd (false≢true has)
  head_typed (a_syn (syn p (AParam (SelfParam receiver))) rest) tys has first h = with_self receiver rest tys p has first h
  head_typed (a_syn (syn p _) rest) tys has first h = absurd (false≢true has)

  same_receiver : (params : Syns) → IsTrue (checks.takes_reference params) → IsTrue (rules.has_receiver params)
  same_receiver no_syn h = h
  same_receiver (a_syn (syn p (AParam (SelfParam ByShared))) rest) h = refl
  same_receiver (a_syn (syn p (AParam (SelfParam ByUnique))) rest) h = refl
  same_receiver (a_syn (syn p (AParam (SelfParam ByValue))) rest) h = h
  same_receiver (a_syn (syn p _) rest) h = absurd (false≢true h)

  abbrev IsMethodTyped : Sig → Type 0
  IsMethodTyped sig = IsTrue (stands_alone items sig.result) → IsTrue (is_method_typed items n sig)

  abbrev names_of : List Sig → List Word
  names_of sigs = map (λ m. m.name) sigs

  methods_typed : (earlier : List Word) (xs : List Syn) (sigs : List Sig) → AreTraitHeads around own items xs sigs →
      HeadsKept earlier xs → Holds (each function_shaped xs) → All IsMethodTyped sigs × Differ earlier (names_of sigs)
  methods_typed earlier [] [] are kept shape = (tt, tt)
  methods_typed earlier [] (sig ∷ sigs) are kept shape = absurd are
  methods_typed earlier (x ∷ xs) [] are kept shape = absurd are
  methods_typed earlier (syn at (AnItem (FnItem name params answer block)) ∷ xs) (sig ∷ sigs) are kept shape =
      let k = and_parts (checks.takes_reference params) _ kept.1 in
      let has = same_receiver params k.0 in
      let m = are.0 has in
      let t = head_typed params sig.params has shape.0.0 m.1 in
      let rest = methods_typed (name.1 ∷ earlier) xs sigs are.1 kept.2 shape.1 in (
        (
          λ alone. and_from (is_head_typed items sig) _ (and_from (list_all (is_param items) sig.params) _ t.0 alone)
              (and_from (begins_with_self items n sig.params) _ t.1 (ap (λ w. not (bytes_eq w (codes "drop"))) m.0 ∙ k.1)),
          rest.0,
        ),
        (
          ap (λ w. not (is_among w earlier)) m.0 ∙ kept.0,
          subst (λ w. Differ (w ∷ earlier) (names_of sigs)) (sym m.0) rest.1,
        ),
      )
  methods_typed earlier (syn at _ ∷ xs) (sig ∷ sigs) are kept shape = absurd kept

-- ---- the whole

traits_at : (around : types.WrittenScope) (items : ItemTable) (n : ℕ) (is : List Syn) (defs : List TraitDef) → AreTraitsOf around
    items n is defs → All TraitIs is → (k : ℕ) (def : TraitDef) → slice_get defs k ≡ Some def → (i : Syn) × IsTraitOf around
    items (n + k) i def × TraitIs i
traits_at around items n [] [] are so k def at = absurd (none-some def at)
traits_at around items n [] (d ∷ defs) are so k def at = absurd are
traits_at around items n (i ∷ is) [] are so k def at = absurd are
traits_at around items n (i ∷ is) (d ∷ defs) are so zero def at = (
  i,
  subst (λ m. IsTraitOf around items m i def) (omega arith) (subst (IsTraitOf around items n i) (same_Some d def at)
      are.0),
  so.0,
)
traits_at around items n (i ∷ is) (d ∷ defs) are so (suc k) def at =
    let r = traits_at around items (suc n) is defs are.1 so.1 k def at in
    (r.0, subst (λ m. IsTraitOf around items m r.0 def) (omega arith) r.1, r.2)

module _ (parts : Parts Pos) (items : ItemTable) (p : ProgramTree) (h : IsAccepted parts items p) where
  abbrev texts : List Syn
  texts = item_syns (items_of parts)

  extends : Extends items p.items
  extends = (bodies_typed parts items p (are_collected parts items p h) h.checked).0

  are_ready : AreReady p.items
  are_ready = (are_typed parts items p h).0

  kept : All TraitKept texts
  kept = by _ (traits_kept (checks.outermost texts) (record { methods = []; impls = [] }) texts (rules.starting_with items))
      h.checked
    where
      by : (r : Result (Unit {0} × TypingState) Broken) → Walked (λ a t. All TraitKept texts) r → checks.program_in r ≡ Ok p → All
          TraitKept texts
      by (Ok a) w e = w.so
      by (Err x) w e = absurd (no_ok x p e)

  abbrev around : types.WrittenScope
  around = all_names (rules.known_of (items_of parts)) None

  traits : AreTraitsOf around p.items 0 (all_traits (items_of parts)) p.items.traits
  traits = subst (AreTraitsOf around p.items 0 (all_traits (items_of parts))) (sym extends.traits) (traits_on around items
      p.items extends.types 0 (all_traits (items_of parts)) items.traits (by _ (collecting_traits (items_of parts) h.end)
      h.collected))
    where
      by : (r : Result (Unit {0} × TypingState) Broken) → Walked (λ _ t. AreAllTraits (items_of parts) t.items) r → rules.items_in r
          ≡ Ok items → AreAllTraits (items_of parts) items
      by (Ok a) w e = subst (AreAllTraits (items_of parts)) (ok_same a.1.items items e) w.so
      by (Err x) w e = absurd (no_items_ok x e)

  pub text_traits : (n : ℕ) (def : TraitDef) → slice_get p.items.traits n ≡ Some def → IsTraitTyped p.items n def
  text_traits n def at =
      let t = traits_at around p.items 0 (all_traits (items_of parts)) p.items.traits traits (traits_are (items_of parts) kept
      h.text.shaped) n def at in
      by t.0 (subst (λ m. IsTraitOf around p.items m t.0 def) (omega arith) t.1) t.2
    where
      by : (i : Syn) → IsTraitOf around p.items n i def → TraitIs i → IsTraitTyped p.items n def
      by (syn place (AnItem (TraitItem name heads))) is so =
          let m = methods_typed p.items are_ready around is.0 n is.1 [] (list_of heads) def.methods is.2 so.0 so.1 in
          record {
            methods = λ k sig at_k. all_at (IsMethodTyped p.items are_ready around is.0 n is.1) def.methods k sig m.0 at_k
                (alone_stands p.items sig.result (are_ready.methods n k def sig at at_k));
            names = differ_distinct [] (map (λ s. s.name) def.methods) m.1;
          }
      by (syn place _) is so = absurd is

  pub named_traits : map (λ (def : TraitDef). def.name) p.items.traits ≡ trait_names (item_syns (items_of parts))
  named_traits =
      own_names around p.items 0 (all_traits (items_of parts)) p.items.traits traits ∙ names_of_text (items_of parts)
